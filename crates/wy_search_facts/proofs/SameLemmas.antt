-- Both are one.
use Rattle.std.proofs.Common.{◌≡◌, ℕ, List, [], ◌∷◌, cond, eqb, Option, Some, None, refl, ap, ◌∙◌}
use Rattle.wy_term.specs.Term.{Term, Of, no_parts, part, in_type}
use Rattle.wy_term.specs.Condition.{Entry}
use Rattle.wy_facts.specs.Schema.{fact_of}
use Rattle.wy_facts.specs.Membership as schema
use Rattle.wy_cong.specs.wy_check_spec.valid.Membership as step
use Rattle.wy_search_facts.specs.SameFacts.{SameFacts}
use Rattle.wy_search_facts.proofs.StepSide.{added}
use Rattle.wy_search_facts.proofs.SchemaSide.{stated_of}

entries_same : (types : List Entry) (n : ℕ) → step.entry_for types n ≡ schema.entry_for types n
entries_same [] n = refl
entries_same (e ∷ es) n = ap (λ (o : Option Entry). cond (eqb e.type_number n) (Some e) o) (entries_same es n)

told_same : (o : Option Entry) (n : ℕ) (v : Term) → added o n v ≡ stated_of o n v
told_same None n v = refl
told_same (Some e) n v = refl

membership_same : (types : List Entry) (t : Term) → step.membership types t ≡ schema.membership types t
membership_same types (Of (in_type n) (part v no_parts)) = ap (λ (o : Option Entry). added o n v) (entries_same types n) ∙ told_same (schema.entry_for types n) n v
membership_same types t = refl

lists_same : (types : List Entry) (ts : List Term) → step.membership_by types ts ≡ schema.membership_of types ts
lists_same types [] = refl
lists_same types (t ∷ []) = membership_same types t
lists_same types (t ∷ u ∷ us) = refl

pub same_facts : SameFacts
same_facts types n ts = ap (λ (o : Option Term). cond (eqb n 16) o (fact_of n ts)) (lists_same types ts)
