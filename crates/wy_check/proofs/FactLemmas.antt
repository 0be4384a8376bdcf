-- The facts that are stated are those that validity speaks of.
use Rattle.std.proofs.Common.{◌≡◌, ℕ, List, [], ◌∷◌, cond, eqb, Option, Some, None, refl, ap, ◌∙◌}
use Rattle.wy_term.specs.Term.{Term, Of, no_parts, part, one, in_type}
use Rattle.wy_term.specs.Condition.{Entry}
use Rattle.wy_facts.specs.Made.{exactly_where}
use Rattle.wy_facts.specs.Schema.{fact_of}
use Rattle.wy_facts.specs.Membership as facts
use Rattle.wy_lin.specs.Linear.{◌>>=◌}
use Rattle.wy_vc_laws.specs.wy_check_spec.valid.Membership as valid

abbrev some_entry : Entry → Option Entry
some_entry e = Some e

entries_are : (es : List Entry) (n : ℕ) → facts.entry_for es n ≡ valid.entry_for es n
entries_are [] n = refl
entries_are (e ∷ es) n = ap (λ (o : Option Entry). cond (eqb e.type_number n) (some_entry e) o) (entries_are es n)

tests_are : (types : List Entry) (t : Term) → facts.membership types t ≡ valid.membership types t
tests_are types (Of (in_type n) (part v no_parts)) = by (facts.entry_for types n) ∙ ap (λ (o : Option Entry). o >>= λ e. Some (valid.unfolded_at e n v)) (entries_are types n)
  where
    by : (o : Option Entry) → ((o >>= λ e. Some (facts.formula_of e v)) >>= λ f. Some (exactly_where (one (in_type n) v) f)) ≡ (o >>= λ e. Some (valid.unfolded_at e n v))
    by None = refl
    by (Some e) = refl
tests_are types t = refl

memberships_are : (types : List Entry) (ts : List Term) → facts.membership_of types ts ≡ valid.membership_by types ts
memberships_are types [] = refl
memberships_are types (t ∷ []) = tests_are types t
memberships_are types (t ∷ u ∷ ts) = refl

pub facts_are : (types : List Entry) (n : ℕ) (ts : List Term) → facts.fact_in types n ts ≡ valid.fact_among types n ts
facts_are types n ts = ap (λ (o : Option Term). cond (eqb n 16) o (fact_of n ts)) (memberships_are types ts)
