-- Each instance has as many parts as its schema takes.
use Rattle.std.proofs.Common.{◌≡◌, ℕ, suc, List, [], ◌∷◌, Bool, true, false, cond, eqb, length, Option, Some, None, refl, sym, ap, subst, ◌∙◌}
use Rattle.wy_term_subst.proofs.wy_lemmas_proofs.Options.{some, some_same as some_is}
use Rattle.wy_term_subst.specs.wy_term.Term.{Term, field}
use Rattle.wy_term_subst.specs.wy_term.Term as term
use Rattle.wy_term_subst.specs.wy_term.Nodes.{Plain}
use Rattle.wy_term_subst.specs.wy_term.Same.{same_term}
use Rattle.wy_term_subst.specs.wy_term.Rewriting.{as_number, as_bool}
use Rattle.wy_term_subst.specs.wy_term.Folding.{folded}
use Rattle.wy_facts.specs.declared.schema.Schema.{Schema}
use Rattle.wy_facts.specs.declared.schema.Schema.TheVariants as schema
use Rattle.wy_facts.specs.declared.schema.Instance.{Instance as Made}
use Rattle.wy_facts.specs.Made.{made_two}
use Rattle.wy_facts.specs.Program.{arity}
use Rattle.wy_facts.specs.Schema.{◌>>=◌, is_val, as_copies, as_updated, as_element, as_equation, as_division, Instance, instance, only_if, numbered_in, element_of_array, elements_at_one_index, set_to, field_before, kind_before_update, kind_before_set, datum_by, plain_by_one, by_one, instance_of}
use Rattle.wy_facts.specs.Seen.{terms_at, seen_instance}

abbrev IsFull : Option Instance → Type 0
IsFull o = (i : Instance) → o ≡ Some i → length i.parts ≡ arity i.schema

by_instance : (n : Schema) (ts : List Term) → length ts ≡ arity n → IsFull (instance n ts)
by_instance n ts h i e =
    let made : Instance = record { schema = n; parts = ts } in
    subst (λ (j : Instance). length j.parts ≡ arity j.schema) (some_is made i e) h

by_bind : {A : Type 0} (o : Option A) (f : A → Option Instance) → ((a : A) → IsFull (f a)) → IsFull (o >>= f)
by_bind (Some a) f h i e = h a i e
by_bind None f h i e = absurd cc

by_if : (b : Bool) (o : Option Instance) → IsFull o → IsFull (only_if b o)
by_if true o h i e = h i e
by_if false o h i e = absurd cc

choose : (b : Bool) (o p : Option Instance) → IsFull o → IsFull p → IsFull (cond b o p)
choose true o p h k = h
choose false o p h k = k

none_full : IsFull None
none_full i e = absurd cc

element_of_array_full : (t k : Term) → IsFull (element_of_array t k)
element_of_array_full t k = by_bind (as_element t) _ (λ g. by_bind (as_number k) _ (λ z. by_bind (numbered_in g.0 z) _ (λ v. by_instance schema.ElementOfArray (t ∷ g.1 ∷ k ∷ v ∷ []) refl)))

elements_at_one_index_full : (s t : Term) → IsFull (elements_at_one_index s t)
elements_at_one_index_full s t = by_bind (as_element s) _ (λ g. by_bind (as_element t) _ (λ h. by_if (same_term g.0 h.0) _ (by_instance schema.ElementsAtOneIndex (s ∷ t ∷ g.1 ∷ h.1 ∷ []) refl)))

datum_by_full : (v : Term) (o : Option Term) → IsFull (datum_by v o)
datum_by_full v None = by_if (is_val v) _ (by_instance schema.DatumByKind (v ∷ []) refl)
datum_by_full v (Some f) = by_instance schema.DatumOfFormula (v ∷ f ∷ []) refl

plain_by_one_full : (n : ℕ) (t : Term) → IsFull (plain_by_one n t)
plain_by_one_full n t =
    choose (eqb n 1) _ _ (by_if (is_val t) _ (by_instance schema.LengthIsNatural (t ∷ []) refl)) (
    choose (eqb n 2) _ _ (by_bind (as_copies t) _ (λ c. by_instance schema.LengthOfCopies (t ∷ c.1 ∷ []) refl)) (
    choose (eqb n 3) _ _ (by_bind (as_updated t) _ (λ u. by_instance schema.LengthOfUpdated (t ∷ u.0 ∷ []) refl)) (
    choose (eqb n 5) _ _ (by_bind (as_element t) _ (λ g. by_bind (as_copies g.0) _ (λ c. by_instance schema.ElementOfCopies (t ∷ g.1 ∷ c.1 ∷ c.0 ∷ []) refl))) (
    choose (eqb n 6) _ _ (by_bind (as_element t) _ (λ g. by_bind (as_updated g.0) _ (λ u. by_instance schema.ElementUpdated (t ∷ u.0 ∷ u.1 ∷ u.2 ∷ g.1 ∷ []) refl))) (
    choose (eqb n 7) _ _ (by_bind (as_element t) _ (λ g. by_bind (as_updated g.0) _ (λ u. by_instance schema.ElementElsewhere (t ∷ u.0 ∷ u.1 ∷ g.1 ∷ []) refl))) (
    choose (eqb n 9) _ _ (by_bind (set_to t) _ (λ w. by_instance schema.FieldUpdated (t ∷ w ∷ []) refl)) (
    choose (eqb n 11) _ _ (by_bind (as_equation t) _ (λ s. by_instance schema.EqualNumbers (t ∷ s.0 ∷ s.1 ∷ []) refl)) (
    choose (eqb n 14) _ _ (datum_by_full t (as_bool t)) none_full))))))))

by_one_full : (n : ℕ) (t : Term) → IsFull (by_one n t)
by_one_full n t =
    choose (eqb n 10) _ _ (by_bind (field_before t) _ (λ u. by_instance schema.FieldElsewhere (t ∷ folded u ∷ []) refl)) (
    choose (eqb n 12) _ _ (by_bind (kind_before_update t) _ (λ l. by_instance schema.KindOfUpdated (t ∷ folded l ∷ []) refl)) (
    choose (eqb n 13) _ _ (by_bind (kind_before_set t) _ (λ l. by_instance schema.KindOfFieldUpdated (t ∷ folded l ∷ []) refl)) (
    choose (eqb n 15) _ _ (by_bind (as_division t) _ (λ d. by_instance schema.Division (d.0 ∷ d.1 ∷ made_two term.div d.0 d.1 ∷ made_two term.rem d.0 d.1 ∷ []) refl)) (plain_by_one_full n t))))

instance_of_full : (n : ℕ) (args : List Term) → IsFull (instance_of n args)
instance_of_full n [] = none_full
instance_of_full n (t ∷ []) = by_one_full n t
instance_of_full n (s ∷ t ∷ []) = choose (eqb n 4) _ _ (element_of_array_full s t) (choose (eqb n 8) _ _ (elements_at_one_index_full s t) none_full)
instance_of_full n (s ∷ t ∷ u ∷ ts) = none_full

length-terms_at : (nodes : List Plain) (ks : List ℕ) → length (terms_at nodes ks) ≡ length ks
length-terms_at nodes [] = refl
length-terms_at nodes (k ∷ ks) = ap suc (length-terms_at nodes ks)

-- the same of what a call answered
pub made_full : (nodes : List Plain) (n : ℕ) (args : List Term) (i : Made) → some (seen_instance nodes i) ≡ instance_of n args → length i.parts.items ≡ arity i.schema
made_full nodes n args i e = sym (length-terms_at nodes i.parts.items) ∙ instance_of_full n args (seen_instance nodes i) (sym e)
