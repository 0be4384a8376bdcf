-- Which lists of named types give `in` one meaning.
use Rattle.std.specs.Prelude.{◌≡◌, ◌≢◌, ℕ, List, [], ◌∷◌, Bool, true}
use Rattle.wy_value.specs.Datum.{Datum}
use Rattle.wy_term.specs.Term.{Term, leaf, val_name}
use Rattle.wy_term.specs.Scope.{free_names}
use Rattle.wy_term.specs.Meaning.{Names}
use Rattle.wy_term.specs.Condition.{Entry, Condition, says}

-- ---- each type is listed once

-- no entry is for the type with this number
abbrev pub IsUnlisted : ℕ → List Entry → Type 0
IsUnlisted n [] = Unit {0}
IsUnlisted n (e ∷ es) = (n ≢ e.type_number) × IsUnlisted n es

abbrev pub AreListedOnce : List Entry → Type 0
AreListedOnce [] = Unit {0}
AreListedOnce (e ∷ es) = IsUnlisted e.type_number es × AreListedOnce es

-- ---- the formula has no free name but the Val name

-- each of these is the name
abbrev pub AreAll : Term → List Term → Type 0
AreAll x [] = Unit {0}
AreAll x (y ∷ ys) = (y ≡ x) × AreAll x ys

pub record IsClosed (e : Entry) : Type 0 where
  pub word : List ℕ
  pub number : ℕ
  pub is_name : e.name ≡ leaf (val_name word number)
  pub free : AreAll e.name (free_names e.formula)

abbrev pub AreClosed : List Entry → Type 0
AreClosed [] = Unit {0}
AreClosed (e ∷ es) = IsClosed e × AreClosed es

-- ---- a well-founded order

-- whether a datum is of the type with a number
pub record Question : Type 0 where
  pub type_number : ℕ
  pub datum : Datum

-- no chain of questions, each before the last one, goes down from this one without end
pub data IsFounded (before : Question → Question → Bool) : Question → Type 0 where
  founded : (q : Question) → ((p : Question) → before p q ≡ true → IsFounded before p) → IsFounded before q

-- both give one answer to a question
abbrev pub AnswerAlike : Names → Names → Question → Type 0
AnswerAlike names others q = names.is_member q.type_number q.datum ≡ others.is_member q.type_number q.datum

-- both give one answer to each question of these types that comes before this one
abbrev pub AnswerAlikeBefore : (Question → Question → Bool) → List Entry → Question → Names → Names → Type 0
AnswerAlikeBefore before [] q names others = Unit {0}
AnswerAlikeBefore before (e ∷ es) q names others =
    ((d : Datum) → before (record { type_number = e.type_number; datum = d }) q ≡ true → AnswerAlike names others (record { type_number = e.type_number; datum = d }))
    × AnswerAlikeBefore before es q names others

-- whether a type's formula holds of a datum depends on earlier questions of the listed types alone
abbrev pub AsksEarlier : (Question → Question → Bool) → List Entry → Entry → Type 0
AsksEarlier before listed e =
    (d : Datum) (names others : Names) → AnswerAlikeBefore before listed (record { type_number = e.type_number; datum = d }) names others → says names e d ≡ says others e d

abbrev pub AskEarlier : (Question → Question → Bool) → List Entry → List Entry → Type 0
AskEarlier before listed [] = Unit {0}
AskEarlier before listed (e ∷ es) = AsksEarlier before listed e × AskEarlier before listed es

-- ---- all three

-- each type is listed once, the Val name is the only free name of its formula, and the truth of that at a datum depends on `in` at earlier pairs of a type and a datum alone, in an order without endless descents
pub record AreGrounded (types : List Entry) : Type 0 where
  pub once : AreListedOnce types
  pub closed : AreClosed types
  pub before : Question → Question → Bool
  pub descends : (q : Question) → IsFounded before q
  pub earlier : AskEarlier before types types
