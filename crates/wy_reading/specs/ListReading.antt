-- The example's readers: the rules of its grammar as steps, with the branches taken by the first byte.
use Rattle.std.specs.Prelude.{ℕ, zero, suc, Bool, List, [], ◌∷◌, ◌++◌}
use Rattle.wy_reading.specs.declared.example.Kind.{Kind}
use Rattle.wy_reading.specs.declared.example.Kind.TheVariants.{TooLarge, Deep}
use Rattle.wy_reading.specs.declared.example.Byte.TheVariants.{Digit, Item, Is}
use Rattle.wy_reading.specs.Mode.{Mode}
use Rattle.wy_reading.specs.Rule.{lax}
use Rattle.wy_reading.specs.Reader.{Reader, ◌>>=◌, pure, one, branch, while, refused, checked, word, whole}
use Rattle.wy_reading.specs.ListGrammar.{has, number_from, is_small}

abbrev pub Q : Type 0 → Type 0
Q A = Reader ℕ Kind A

unfoldable pub number : Bool → Q ℕ
number s = checked (lax s is_small) TooLarge (word (has Digit) (has Digit) >>= (λ ds. pure (number_from 0 ds)))

unfoldable pub plain : Bool → Q (List ℕ)
plain s = number s >>= (λ n. pure (n ∷ []))

module _ (inner : Q (List ℕ)) where
  abbrev pub next : List ℕ → Q (List ℕ)
  next ns = one (has (Is 44)) >>= (λ _. inner >>= (λ ms. pure (ns ++ ms)))

  unfoldable pub items : Q (List ℕ)
  items = branch (has Item) (inner >>= (λ ns. while (has (Is 44)) next ns)) (pure [])

  unfoldable pub bracketed : Q (List ℕ)
  bracketed = one (has (Is 91)) >>= (λ _. items >>= (λ ns. one (has (Is 93)) >>= (λ _. pure ns)))

unfoldable pub item_in : ℕ → Bool → Q (List ℕ)
item_in zero s = branch (has (Is 91)) (refused (has (Is 91)) Deep) (plain s)
item_in (suc d) s = branch (has (Is 91)) (bracketed (item_in d s)) (plain s)

unfoldable pub text : Mode → Q (List ℕ)
text m = whole (item_in m.depth m.strict)
