-- What is known of the data of a named type, and all facts.
use Rattle.std.specs.Prelude.{ℕ, ◌==◌, List, [], ◌∷◌, if◌then◌else◌, Option, Some, None}
pub use Rattle.wy_facts.specs.Membership.{entry_for}
use Rattle.wy_lin.specs.wy_term.Term.{Term, Of, no_parts, part, one, in_type}
use Rattle.wy_lin.specs.wy_term.Condition.{Entry}
use Rattle.wy_lin.specs.Linear.{◌>>=◌}
use Rattle.wy_facts.specs.Made.{exactly_where}
use Rattle.wy_facts.specs.Schema.{fact_of}
use Rattle.wy_facts.specs.wy_term_subst.Substitution.{substituted}

-- a datum is of the type exactly where the type's formula holds of it
abbrev pub unfolded_at : Entry → ℕ → Term → Term
unfolded_at e n v = exactly_where (one (in_type n) v) (substituted e.formula e.name v)

-- what `in` of a listed type is
abbrev pub membership : List Entry → Term → Option Term
membership types (Of (in_type n) (part v no_parts)) = entry_for types n >>= λ e. Some (unfolded_at e n v)
membership types t = None

abbrev pub membership_by : List Entry → List Term → Option Term
membership_by types (t ∷ []) = membership types t
membership_by types ts = None

-- the formula that the schema with this number, from 1 to 16, states of these arguments, where they are such as it takes
abbrev pub fact_among : List Entry → ℕ → List Term → Option Term
fact_among types n ts = if n == 16 then membership_by types ts else fact_of n ts
