-- The example's grammar: numbers and lists of them, nested, without spaces. A text spells its numbers in order.
--   item = digits | '[' [ item { ',' item } ] ']'
use Rattle.std.specs.Prelude.{◌≡◌, ℕ, zero, suc, ◌+◌, ◌*◌, ◌-◌, Bool, false, ◌||◌, ◌==◌, nat_le, ◌&&◌, List, [], ◌∷◌, ◌++◌}
use Rattle.wy_reading.specs.declared.example.Kind.{Kind}
use Rattle.wy_reading.specs.declared.example.Kind.TheVariants.{TooLarge, Deep}
use Rattle.wy_reading.specs.declared.example.Byte.{Byte}
use Rattle.wy_reading.specs.declared.example.Byte.TheVariants.{Digit, Item, Is}
use Rattle.wy_reading.specs.Mode.{Mode}
use Rattle.wy_reading.specs.Rule.{Rule, heads, One, Pure, Then, Or, Loop, Refused, Checked, Word, Whole, lax}

-- rules over bytes
abbrev pub R : Type 0 → Type 1
R A = Rule ℕ Kind A

-- the byte is in the class
abbrev pub has : Byte → ℕ → Bool
has Digit b = nat_le 48 b && nat_le b 57
has Item b = (nat_le 48 b && nat_le b 57) || (b == 91)
has (Is c) b = b == c

-- the number that the digits write, behind those that write n
abbrev pub number_from : ℕ → List ℕ → ℕ
number_from n [] = n
number_from n (d ∷ ds) = number_from (n * 10 + (d - 48)) ds

abbrev pub is_small : ℕ → Bool
is_small n = nat_le n 255

-- behind a number stands no digit
abbrev pub NoDigit : List ℕ → Type 0
NoDigit i = heads (has Digit) i ≡ false

-- a number; one above 255 is TooLarge
abbrev pub Number : Bool → R ℕ
Number s = Checked NoDigit (lax s is_small) TooLarge (Then (Word (has Digit) (has Digit)) (λ ds. Pure (number_from 0 ds)))

abbrev pub Plain : Bool → R (List ℕ)
Plain s = Then (Number s) (λ n. Pure (n ∷ []))

module _ (inner : R (List ℕ)) where
  abbrev pub Next : List ℕ → R (List ℕ)
  Next ns = Then (One (has (Is 44))) (λ _. Then inner (λ ms. Pure (ns ++ ms)))

  abbrev pub Items : R (List ℕ)
  Items = Or (Then inner (λ ns. Loop Next ns)) (Pure [])

  abbrev pub Bracketed : R (List ℕ)
  Bracketed = Then (One (has (Is 91))) (λ _. Then Items (λ ns. Then (One (has (Is 93))) (λ _. Pure ns)))

-- an item with lists nested no deeper than the number; the bracket of one more is Deep
abbrev pub ItemIn : ℕ → Bool → R (List ℕ)
ItemIn zero s = Or (Refused (has (Is 91)) Deep) (Plain s)
ItemIn (suc d) s = Or (Bracketed (ItemIn d s)) (Plain s)

abbrev pub Text : Mode → R (List ℕ)
Text m = Whole (ItemIn m.depth m.strict)
