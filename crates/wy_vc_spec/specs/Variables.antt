-- The term of each variable that has one, by the variables' numbers.
use Rattle.std.specs.Prelude.{ℕ, zero, suc, List, [], ◌∷◌, Option, Some, None}
use Rattle.wy_sem.specs.wy_term.Term.{Term}

-- X is a term, or whatever stands for one
abbrev pub Slots : Type 0 → Type 0
Slots X = List (Option X)

-- the term of the variable, if it has one
abbrev pub slot_at : {X : Type 0} → Slots X → ℕ → Option X
slot_at [] x = None
slot_at (v ∷ vs) zero = v
slot_at (v ∷ vs) (suc x) = slot_at vs x

-- the variable stands for this term
abbrev pub put : {X : Type 0} → Slots X → ℕ → X → Slots X
put [] zero t = Some t ∷ []
put [] (suc x) t = None ∷ put [] x t
put (v ∷ vs) zero t = Some t ∷ vs
put (v ∷ vs) (suc x) t = v ∷ put vs x t

-- the variable, if there is one, stands for this term
abbrev pub put_if : {X : Type 0} → Slots X → Option ℕ → X → Slots X
put_if vs None t = vs
put_if vs (Some x) t = put vs x t

abbrev pub Vars : Type 0
Vars = Slots Term
