-- Which formula the schema on named types states: a datum is of a named type exactly where the type's formula holds of it.
use Rattle.std.specs.Prelude.{ℕ, ◌<◌, ◌==◌, List, [], ◌∷◌, All, Option, Some, None, if◌then◌else◌}
use Rattle.wy_term_subst.specs.wy_term.declared.cond.Cond.{Cond}
use Rattle.wy_term_subst.specs.wy_term.Term.{Term, Of, no_parts, part, in_type}
use Rattle.wy_term_subst.specs.wy_term.Condition.{Entry}
use Rattle.wy_term_subst.specs.Substitution.{substituted}
use Rattle.wy_facts.specs.Made.{exactly_where}
use Rattle.wy_facts.specs.Schema.{◌>>=◌, fact_of}

-- a datum, and the number of the named type that it is tested for
abbrev pub as_membership : Term → Option (Term × ℕ)
as_membership (Of (in_type n) (part v no_parts)) = Some (v, n)
as_membership t = None

-- the first entry of the type with this number, if there is one
abbrev pub entry_for : List Entry → ℕ → Option Entry
entry_for [] n = None
entry_for (e ∷ es) n = if e.type_number == n then Some e else entry_for es n

-- the formula that says of a datum whether it is of an entry's type
abbrev pub formula_of : Entry → Term → Term
formula_of e v = substituted e.formula e.name v

-- the same for the datum and the type of a test
abbrev pub unfolded : List Entry → Term → Option Term
unfolded types t = as_membership t >>= λ m. entry_for types m.1 >>= λ e. Some (formula_of e m.0)

-- the test holds exactly where that formula does
abbrev pub membership : List Entry → Term → Option Term
membership types t = unfolded types t >>= λ f. Some (exactly_where t f)

abbrev pub membership_of : List Entry → List Term → Option Term
membership_of types (t ∷ []) = membership types t
membership_of types ts = None

-- the formula that the schema with this number, from 1 to 16, states of these arguments, where they are such as it takes
abbrev pub fact_in : List Entry → ℕ → List Term → Option Term
fact_in types n ts = if n == 16 then membership_of types ts else fact_of n ts

-- the numbers of a condition's types name terms of the first n
abbrev pub AreTypesBelow : ℕ → Cond → Type 0
AreTypesBelow n cond = All (λ (e : ℕ × ℕ × ℕ). (e.1 < n) × (e.2 < n)) cond.unfold.list.items
