-- No schema states anything of a denial.
use Rattle.std.proofs.Common.{◌≡◌, ◌∙◌, ℕ, List, [], ◌∷◌, Bool, true, false, cond, eqb, Option, Some, None, refl, sym, ap, ap₂}
use Rattle.std.specs.Prelude.{is_some}
use Rattle.wy_facts.specs.Schema.{Instance, as_element, by_one, fact_of, instance, only_if, plain_by_one, stated, ◌>>=◌}
use Rattle.wy_facts.specs.declared.schema.Schema.TheVariants as schema
use Rattle.wy_cong.specs.wy_check_spec.judge.Node.{Node}
use Rattle.wy_check_nodes.specs.Seen.{signed}
use Rattle.wy_cong.specs.wy_search_spec.Expansion.{kind_fact, measured, read_from, with_elements, with_pairs_of, with_some}
use Rattle.wy_term.specs.Condition.{Entry}
use Rattle.wy_term.specs.Same.{same_term}
use Rattle.wy_term.specs.Term.{Term, Not}
use Rattle.wy_cong.specs.wy_check_spec.valid.Membership.{fact_among, membership_by}

none_if : {A : Type 0} (b : Bool) (o : Option A) → o ≡ None → cond b None o ≡ None
none_if true o e = refl
none_if false o e = e

plain_denial : (n : ℕ) (f : Term) → plain_by_one n (Not f) ≡ None
plain_denial n f =
    none_if (eqb n 1) _ (none_if (eqb n 2) _ (none_if (eqb n 3) _ (none_if (eqb n 5) _ (none_if (eqb n 6) _ (none_if (eqb n 7) _ (none_if (eqb n 9) _ (none_if (eqb n 11) _ (none_if (eqb n 14) _ refl))))))))

one_denial : (n : ℕ) (f : Term) → by_one n (Not f) ≡ None
one_denial n f = none_if (eqb n 10) _ (none_if (eqb n 12) _ (none_if (eqb n 13) _ (none_if (eqb n 15) _ (plain_denial n f))))

pub no_fact : (types : List Entry) (n : ℕ) (f : Term) → fact_among types n (Not f ∷ []) ≡ None
no_fact types n f = none_if (eqb n 16) _ (ap (λ (o : Option Instance). o >>= λ i. Some (stated i.schema i.parts)) (one_denial n f))

abbrev of_both : Term → Term → Option (Term × Term) → Option (Term × Term) → Option Instance
of_both s t o q = o >>= λ g. q >>= λ h. only_if (same_term g.0 h.0) (instance schema.ElementsAtOneIndex (s ∷ t ∷ g.1 ∷ h.1 ∷ []))

abbrev said_of : Option Instance → Option Term
said_of o = o >>= λ i. Some (stated i.schema i.parts)

none_second : (s t : Term) (o : Option (Term × Term)) → said_of (of_both s t o None) ≡ None
none_second s t None = refl
none_second s t (Some g) = refl

pub no_pair : (t f : Term) → fact_among [] 8 (t ∷ Not f ∷ []) ≡ None
no_pair t f = none_second t (Not f) (as_element t)

no_first : (t u : Term) → as_element t ≡ None → fact_among [] 8 (t ∷ u ∷ []) ≡ None
no_first t u e = ap (λ (o : Option (Term × Term)). said_of (of_both t u o (as_element u))) e

-- a node to which nothing is added
pub none_more : (node : Node) (o : Option Term) → o ≡ None → node ≡ with_some node o
none_more node o e = sym (ap (with_some node) e)

pub pair_none : (node : Node) (t u : Term) (b : Bool) → same_term t u ≡ b → fact_among [] 8 (t ∷ u ∷ []) ≡ None → node ≡ with_pairs_of node t (u ∷ [])
pair_none node t u b same e = none_added b ∙ sym (ap₂ (λ (c : Bool) (o : Option Term). cond c node (with_some node o)) same e)
  where
    none_added : (c : Bool) → node ≡ cond c node (with_some node None)
    none_added true = refl
    none_added false = refl

pub pairs_none : (t : Term) (us : List Term) → as_element t ≡ None → (node : Node) → node ≡ with_pairs_of node t us
pairs_none t [] e node = refl
pairs_none t (u ∷ us) e node = pair_none node t u (same_term t u) refl (no_first t u e) ∙ pairs_none t us e (with_pairs_of node t (u ∷ []))

pub no_fact_of : (types : List Entry) (n : ℕ) (f : Term) (holds : Bool) → holds ≡ false → fact_among types n (signed f holds ∷ []) ≡ None
no_fact_of types n f true un = absurd cc
no_fact_of types n f false un = no_fact types n f

pub is_none : {A : Type 0} (o : Option A) → is_some o ≡ false → o ≡ None
is_none None e = refl
is_none (Some x) e = absurd cc
