-- The readers of argument texts: the rules of the grammar as steps, with the branches taken by the first character.
use Rattle.std.specs.Prelude.{ℕ, ℤ, zero, suc, Bool, List, [], ◌∷◌, ◌++◌, true, false, codes}
use Rattle.std.specs.Str.{encode_utf8_all}
use Rattle.wy_reading.specs.Mode.{Mode}
use Rattle.wy_reading.specs.Rule.{lax}
use Rattle.wy_reading.specs.Reader.{Reader, ◌>>=◌, pure, one, branch, while, refused, checked, only, word, skip, spelled, whole}
use Rattle.wy_value.specs.declared.character.Character.TheVariants as c
use Rattle.wy_value.specs.declared.fault.Kind.{Kind}
use Rattle.wy_value.specs.declared.fault.Kind.TheVariants.{Range, Deep, Twice}
use Rattle.wy_value.specs.declared.value.Value.{Value}
use Rattle.wy_value.specs.declared.value.Value.TheVariants as value
use Rattle.wy_value.specs.Characters.{has}
use Rattle.wy_value.specs.Numbers.{plain, negated, is_int}
use Rattle.wy_value.specs.Grammar.{eq, Entry, placed, may_name, is_new}

abbrev pub Q : Type 0 → Type 0
Q A = Reader ℕ Kind A

unfoldable pub spaces : Q (Unit {0})
spaces = skip (has c.Space)

unfoldable pub mark : ℕ → Q (Unit {0})
mark d = one (has (c.Is d)) >>= (λ _. spaces)

unfoldable pub digits : Q (List ℕ)
digits = word (has c.Digit) (has c.Digit)

unfoldable pub number : Q ℤ
number = branch (has c.Digit) (digits >>= (λ ds. pure (plain ds))) (one (has (c.Is 45)) >>= (λ _. digits >>= (λ ds. pure (negated ds))))

unfoldable pub int : Bool → Q ℤ
int s = checked (lax s is_int) Range number

unfoldable pub literal : List ℕ → Value → Q Value
literal word v = spelled eq word >>= (λ _. pure v)

unfoldable pub flat : Bool → Q Value
flat s =
    branch (has c.Number) (int s >>= (λ n. pure (value.Int n)))
    (branch (has (c.Is 110)) (literal (codes "null") value.Null)
    (branch (has (c.Is 116)) (literal (codes "true") (value.Bool true))
    (literal (codes "false") (value.Bool false))))

unfoldable pub name : Q (List ℕ)
name = only may_name (word (has c.Start) (has c.Part))

unfoldable pub new_name : Bool → List Entry → Q (List ℕ)
new_name s fs = checked (lax s (is_new fs)) Twice name >>= (λ w. pure (encode_utf8_all w))

module _ (s : Bool) (inner : Q Value) where
  unfoldable pub elem : Q Value
  elem = inner >>= (λ v. spaces >>= (λ _. pure v))

  abbrev pub next : List Value → Q (List Value)
  next vs = mark 44 >>= (λ _. elem >>= (λ v. pure (vs ++ v ∷ [])))

  unfoldable pub elems : Q (List Value)
  elems = branch (has c.Value) (elem >>= (λ v. while (has (c.Is 44)) next (v ∷ []))) (pure [])

  unfoldable pub field : List Entry → Q (List Entry)
  field fs = new_name s fs >>= (λ name. spaces >>= (λ _. mark 58 >>= (λ _. elem >>= (λ v. pure (placed fs name v)))))

  abbrev pub next_field : List Entry → Q (List Entry)
  next_field fs = mark 44 >>= (λ _. field fs)

  unfoldable pub fields : Q (List Entry)
  fields = branch (has c.Start) (field [] >>= (λ fs. while (has (c.Is 44)) next_field fs)) (pure [])

  unfoldable pub bracketed : Q Value
  bracketed =
      branch (has (c.Is 91)) (mark 91 >>= (λ _. elems >>= (λ vs. one (has (c.Is 93)) >>= (λ _. pure (value.Array vs)))))
      (mark 123 >>= (λ _. fields >>= (λ fs. one (has (c.Is 125)) >>= (λ _. pure (value.Record fs)))))

unfoldable pub value_in : ℕ → Bool → Q Value
value_in zero s = branch (has c.Open) (refused (has c.Open) Deep) (flat s)
value_in (suc d) s = branch (has c.Open) (bracketed s (value_in d s)) (flat s)

unfoldable pub text : Mode → Q (List Value)
text m = whole (mark 40 >>= (λ _. elems m.strict (value_in m.depth m.strict) >>= (λ vs. one (has (c.Is 41)) >>= (λ _. pure vs))))
