-- The grammar of argument texts:
--   text  = '(' [ elem { ',' elem } ] ')'
--   elem  = value, and the spaces behind it; spaces stand behind each '(' ',' ':' '[' '{' and name too
--   value = 'null' | 'true' | 'false' | [ '-' ] digits | '[' [ elem { ',' elem } ] ']' | '{' [ field { ',' field } ] '}'
--   field = NAME ':' elem
use Rattle.std.specs.Prelude.{◌≡◌, ℕ, ℤ, zero, suc, Bool, not, false, ◌==◌, List, [], ◌∷◌, ◌++◌, if◌then◌else◌, true, codes}
use Rattle.std.specs.BTreeMap.{insert_entry}
use Rattle.std.specs.Cmp.Lexicographic.{slice_cmp}
use Rattle.std.specs.Ordering.{nat_cmp}
use Rattle.std.specs.Str.{bytes_eq, encode_utf8_all}
use Rattle.wy_data.specs.Words.{is_keyword}
use Rattle.wy_reading.specs.Mode.{Mode}
use Rattle.wy_reading.specs.Rule.{Rule, heads, One, Pure, Then, Loop, Or, Refused, Checked, Only, Word, Skip, Spelled, Whole, lax}
use Rattle.wy_value.specs.declared.character.Character.TheVariants as c
use Rattle.wy_value.specs.declared.fault.Kind.{Kind}
use Rattle.wy_value.specs.declared.fault.Kind.TheVariants.{Range, Deep, Twice}
use Rattle.wy_value.specs.declared.value.Value.{Value}
use Rattle.wy_value.specs.declared.value.Value.TheVariants as value
use Rattle.wy_value.specs.Characters.{has}
use Rattle.wy_value.specs.Numbers.{plain, negated, is_int}

-- rules over characters
abbrev pub R : Type 0 → Type 1
R A = Rule ℕ Kind A

abbrev pub eq : ℕ → ℕ → Bool
eq a b = a == b

abbrev pub Spaces : R (Unit {0})
Spaces = Skip (has c.Space)

-- the character, and the spaces behind it
abbrev pub Mark : ℕ → R (Unit {0})
Mark d = Then (One (has (c.Is d))) (λ _. Spaces)

-- ---- values without brackets

abbrev pub Digits : R (List ℕ)
Digits = Word (has c.Digit) (has c.Digit)

abbrev pub Number : R ℤ
Number = Or (Then Digits (λ ds. Pure (plain ds))) (Then (One (has (c.Is 45))) (λ _. Then Digits (λ ds. Pure (negated ds))))

-- behind a number stands no digit
abbrev pub NoDigit : List ℕ → Type 0
NoDigit i = heads (has c.Digit) i ≡ false

-- a number; one that is no `int` is Range
abbrev pub Int : Bool → R ℤ
Int s = Checked NoDigit (lax s is_int) Range Number

-- the word, which spells v
abbrev pub Literal : List ℕ → Value → R Value
Literal word v = Then (Spelled eq word) (λ _. Pure v)

abbrev pub Flat : Bool → R Value
Flat s =
    Or (Then (Int s) (λ n. Pure (value.Int n)))
    (Or (Literal (codes "null") value.Null)
    (Or (Literal (codes "true") (value.Bool true))
    (Literal (codes "false") (value.Bool false))))

-- ---- fields

-- a name with its value; by its bytes
abbrev pub Entry : Type 0
Entry = List ℕ × Value

-- some field has the name
abbrev pub given : List Entry → List ℕ → Bool
given [] name = false
given (f ∷ fs) name = if bytes_eq name f.0 then true else given fs name

-- the fields with one more, at its place in the order of names
abbrev pub placed : List Entry → List ℕ → Value → List Entry
placed fs name v = insert_entry (slice_cmp nat_cmp) fs name v

-- no word of the language
abbrev pub may_name : List ℕ → Bool
may_name w = not (is_keyword (encode_utf8_all w))

-- no field's name
abbrev pub is_new : List Entry → List ℕ → Bool
is_new fs w = not (given fs (encode_utf8_all w))

-- behind a name stands nothing that would go on with it
abbrev pub NoPart : List ℕ → Type 0
NoPart i = heads (has c.Part) i ≡ false

-- a name; one that a field has is Twice
abbrev pub NewName : Bool → List Entry → R (List ℕ)
NewName s fs = Then (Checked NoPart (lax s (is_new fs)) Twice (Only may_name (Word (has c.Start) (has c.Part)))) (λ w. Pure (encode_utf8_all w))

-- ---- values with brackets, over values of the level below

module _ (s : Bool) (inner : R Value) where
  abbrev pub Elem : R Value
  Elem = Then inner (λ v. Then Spaces (λ _. Pure v))

  abbrev pub Next : List Value → R (List Value)
  Next vs = Then (Mark 44) (λ _. Then Elem (λ v. Pure (vs ++ v ∷ [])))

  abbrev pub Elems : R (List Value)
  Elems = Or (Then Elem (λ v. Loop Next (v ∷ []))) (Pure [])

  abbrev pub Field : List Entry → R (List Entry)
  Field fs = Then (NewName s fs) (λ name. Then Spaces (λ _. Then (Mark 58) (λ _. Then Elem (λ v. Pure (placed fs name v)))))

  abbrev pub NextField : List Entry → R (List Entry)
  NextField fs = Then (Mark 44) (λ _. Field fs)

  abbrev pub Fields : R (List Entry)
  Fields = Or (Then (Field []) (λ fs. Loop NextField fs)) (Pure [])

  abbrev pub Bracketed : R Value
  Bracketed =
      Or (Then (Mark 91) (λ _. Then Elems (λ vs. Then (One (has (c.Is 93))) (λ _. Pure (value.Array vs)))))
      (Then (Mark 123) (λ _. Then Fields (λ fs. Then (One (has (c.Is 125))) (λ _. Pure (value.Record fs)))))

-- a value with brackets nested no deeper than the number; one more is Deep
abbrev pub ValueIn : ℕ → Bool → R Value
ValueIn zero s = Or (Refused (has c.Open) Deep) (Flat s)
ValueIn (suc d) s = Or (Bracketed s (ValueIn d s)) (Flat s)

abbrev pub Text : Mode → R (List Value)
Text m = Whole (Then (Mark 40) (λ _. Then (Elems m.strict (ValueIn m.depth m.strict)) (λ vs. Then (One (has (c.Is 41))) (λ _. Pure vs))))
