-- Facts of sorted terms are sorted formulas.
use Rattle.std.proofs.Common.{◌≡◌, ℕ, zero, suc, List, [], ◌∷◌, Bool, true, false, cond, eqb, not, ℤ, pos, negsuc, Option, Some, None, refl, subst}
use Rattle.std.specs.Prelude.{bytes_eq}
use Rattle.wy_lemmas.proofs.Options.{some_same as some_is}
use Rattle.wy_check_spec.specs.wy_term.Term as term
use Rattle.wy_check_spec.specs.wy_term.Term.{DataKind, null_kind, bool_kind, int_kind, Term, Of, Parts, no_parts, part, leaf, one}
use Rattle.wy_check_spec.specs.wy_term.Same.{same_term}
use Rattle.wy_check_spec.specs.wy_term.Sorts.{Sort, int_sort, val_sort, formula_sort, sort_in}
use Rattle.wy_check_spec.specs.wy_term.Rewriting.{as_number, as_array, as_bool}
use Rattle.wy_check_spec.specs.wy_term.Folding.{folded}
use Rattle.wy_check_spec.specs.wy_term_subst.sorted.Sorted.{each, IsSorted, AreSorted}
use Rattle.wy_check_spec.specs.wy_facts.declared.schema.Schema.{Schema}
use Rattle.wy_check_spec.specs.wy_facts.declared.schema.Schema.TheVariants as schema
use Rattle.wy_check_spec.specs.wy_facts.Made.{made_one, made_two, is_at_most, is_equal, denial, is_below, both, all_four, either, implies, same_number}
use Rattle.wy_check_spec.specs.wy_facts.Schema.{◌>>=◌, whole, length_of, number_in, zero_term, stated, is_val_sort, is_val, as_copies, as_updated, as_element, as_field_updated, as_field, as_equation, as_kind_test, as_division, nth_of, element_numbered, has_field, Instance, instance, only_if, length_is_natural, length_of_copies, length_of_updated, numbered_in, element_of_array, element_of_copies, element_updated, element_elsewhere, elements_at_one_index, set_to, field_updated, field_before, field_elsewhere, equal_numbers, kind_before_update, kind_of_updated, kind_before_set, kind_of_field_updated, datum_by, division, plain_by_one, by_one, by_two, instance_of, fact_of}
use Rattle.wy_check_laws.specs.sound.Sortedness.{AreSortedTerms}
use Rattle.wy_check_laws.proofs.sound_lemmas.MadeLemmas.{IsInt, IsVal, IsFormula, number_sorted, at_most_sorted, equal_sorted, denial_sorted, below_sorted, both_sorted, three_sorted, four_sorted, either_sorted, one_of_three_sorted, implies_sorted, exactly_sorted, same_number_sorted, len_sorted, num_sorted, int_sorted, neg_sorted, kind_sorted, field_sorted, add_sorted, mul_sorted, div_sorted, rem_sorted, get_sorted}

-- ---- answers

bound : {A B : Type 0} (o : Option A) (f : A → Option B) (y : B) → (o >>= f) ≡ Some y → (x : A) × (o ≡ Some x) × (f x ≡ Some y)
bound (Some x) f y e = (x, refl, e)
bound None f y e = absurd cc

only : {A : Type 0} (b : Bool) (o : Option A) (y : A) → only_if b o ≡ Some y → (b ≡ true) × (o ≡ Some y)
only true o y e = (refl, e)
only false o y e = absurd cc

abbrev Said : Instance → Type 0
Said i = IsFormula (stated i.schema i.parts)

-- an instance whose formula is one
here : (n : Schema) (ts : List Term) (i : Instance) → instance n ts ≡ Some i → IsFormula (stated n ts) → Said i
here n ts i e h = subst Said (some_is (record { schema = n; parts = ts }) i e) h

-- ---- parts of arguments

val_is : (s : Sort) → is_val_sort s ≡ true → s ≡ val_sort
val_is val_sort e = refl
val_is int_sort e = absurd cc
val_is formula_sort e = absurd cc

is_val_term : (t : Term) → IsSorted t → is_val t ≡ true → IsVal t
is_val_term t h e = (h, val_is (sort_in t) e)

copies_parts : (t : Term) (c : Term × Term) → IsSorted t → as_copies t ≡ Some c → IsVal t × IsVal c.0 × IsInt c.1
copies_parts (Of term.repeat (part v (part n no_parts))) c h e =
    let same : (v, n) ≡ c = cc in
    subst (λ (q : Term × Term). IsVal (Of term.repeat (part v (part n no_parts))) × IsVal q.0 × IsInt q.1) same ((h, refl), (h.1, h.0), (h.2.1, h.2.0))
copies_parts t c h e = absurd cc

updated_parts : (t : Term) (u : Term × Term × Term) → IsSorted t → as_updated t ≡ Some u → IsVal t × IsVal u.0 × IsInt u.1 × IsVal u.2
updated_parts (Of term.update (part a (part i (part w no_parts)))) u h e =
    let same : (a, i, w) ≡ u = cc in
    subst (λ (q : Term × Term × Term). IsVal (Of term.update (part a (part i (part w no_parts)))) × IsVal q.0 × IsInt q.1 × IsVal q.2) same ((h, refl), (h.1, h.0), (h.2.1, h.2.0), (h.2.2.1, h.2.2.0))
updated_parts t u h e = absurd cc

element_parts : (t : Term) (g : Term × Term) → IsSorted t → as_element t ≡ Some g → IsVal t × IsVal g.0 × IsInt g.1
element_parts (Of term.get (part a (part i no_parts))) g h e =
    let same : (a, i) ≡ g = cc in
    subst (λ (q : Term × Term). IsVal (Of term.get (part a (part i no_parts))) × IsVal q.0 × IsInt q.1) same ((h, refl), (h.1, h.0), (h.2.1, h.2.0))
element_parts t g h e = absurd cc

field_updated_parts : (t : Term) (u : Term × List ℕ × Term) → IsSorted t → as_field_updated t ≡ Some u → IsVal u.0 × IsVal u.2
field_updated_parts (Of (term.set_field name) (part r (part w no_parts))) u h e =
    let same : (r, name, w) ≡ u = cc in
    subst (λ (q : Term × List ℕ × Term). IsVal q.0 × IsVal q.2) same ((h.1, h.0), (h.2.1, h.2.0))
field_updated_parts t u h e = absurd cc

field_parts : (t : Term) (g : Term × List ℕ) → IsSorted t → as_field t ≡ Some g → IsVal t × IsVal g.0
field_parts (Of (term.field name) (part r no_parts)) g h e =
    let same : (r, name) ≡ g = cc in
    subst (λ (q : Term × List ℕ). IsVal (Of (term.field name) (part r no_parts)) × IsVal q.0) same ((h, refl), (h.1, h.0))
field_parts t g h e = absurd cc

equation_parts : (t : Term) (s : Term × Term) → IsSorted t → as_equation t ≡ Some s → IsFormula t × IsVal s.0 × IsVal s.1
equation_parts (Of term.equal (part v (part w no_parts))) s h e =
    let same : (v, w) ≡ s = cc in
    subst (λ (q : Term × Term). IsFormula (Of term.equal (part v (part w no_parts))) × IsVal q.0 × IsVal q.1) same ((h, refl), (h.1, h.0), (h.2.1, h.2.0))
equation_parts t s h e = absurd cc

kind_test_parts : (t : Term) (k : Term × DataKind) → IsSorted t → as_kind_test t ≡ Some k → IsFormula t × IsVal k.0
kind_test_parts (Of (term.of_kind kind) (part v no_parts)) k h e =
    let same : (v, kind) ≡ k = cc in
    subst (λ (q : Term × DataKind). IsFormula (Of (term.of_kind kind) (part v no_parts)) × IsVal q.0) same ((h, refl), (h.1, h.0))
kind_test_parts t k h e = absurd cc

division_parts : (t : Term) (d : Term × Term) → IsSorted t → as_division t ≡ Some d → IsInt d.0 × IsInt d.1
division_parts (Of term.div (part a (part b no_parts))) d h e =
    let same : (a, b) ≡ d = cc in
    subst (λ (q : Term × Term). IsInt q.0 × IsInt q.1) same ((h.1, h.0), (h.2.1, h.2.0))
division_parts (Of term.rem (part a (part b no_parts))) d h e =
    let same : (a, b) ≡ d = cc in
    subst (λ (q : Term × Term). IsInt q.0 × IsInt q.1) same ((h.1, h.0), (h.2.1, h.2.0))
division_parts t d h e = absurd cc

number_part : (t : Term) (z : ℤ) → IsSorted t → as_number t ≡ Some z → IsInt t
number_part (Of (term.number y) ps) z h e = (h, refl)
number_part t z h e = absurd cc

array_parts : (t : Term) (ps : Parts) → IsSorted t → as_array t ≡ Some ps → AreSorted ps (each val_sort)
array_parts (Of term.array qs) ps h e = let same : qs ≡ ps = cc in subst (λ (rs : Parts). AreSorted rs (each val_sort)) same h
array_parts t ps h e = absurd cc

bool_part : (t f : Term) → IsSorted t → as_bool t ≡ Some f → IsVal t × IsFormula f
bool_part (Of term.bool (part g no_parts)) f h e =
    let same : g ≡ f = cc in
    subst (λ (q : Term). IsVal (Of term.bool (part g no_parts)) × IsFormula q) same ((h, refl), (h.1, h.0))
bool_part t f h e = absurd cc

nth_part_sorted : (ps : Parts) (k : ℕ) (v : Term) → AreSorted ps (each val_sort) → nth_of ps k ≡ Some v → IsVal v
nth_part_sorted no_parts k v h e = absurd cc
nth_part_sorted (part t ps) zero v h e = let same : t ≡ v = cc in subst IsVal same (h.1, h.0)
nth_part_sorted (part t ps) (suc k) v h e = nth_part_sorted ps k v h.2 e

numbered_sorted : (ps : Parts) (z : ℤ) (v : Term) → AreSorted ps (each val_sort) → element_numbered ps z ≡ Some v → IsVal v
numbered_sorted ps (pos k) v h e = nth_part_sorted ps k v h e
numbered_sorted ps (negsuc k) v h e = absurd cc

zero_sorted : IsInt zero_term
zero_sorted = number_sorted (pos 0)

true_sorted : IsVal (leaf (term.truth true))
true_sorted = (tt, refl)

false_sorted : IsVal (leaf (term.truth false))
false_sorted = (tt, refl)

null_sorted : IsVal (leaf term.null)
null_sorted = (tt, refl)

-- ---- schemas

abbrev Sorted : Option Instance → Type 0
Sorted o = (i : Instance) → o ≡ Some i → Said i

length_is_natural_sorted : (v : Term) → IsSorted v → Sorted (length_is_natural v)
length_is_natural_sorted v h i e =
    let p = only (is_val v) (instance schema.LengthIsNatural (v ∷ [])) i e in
    here schema.LengthIsNatural (v ∷ []) i p.1 (at_most_sorted zero_term (length_of v) zero_sorted (len_sorted v (is_val_term v h p.0)))

length_of_copies_sorted : (t : Term) → IsSorted t → Sorted (length_of_copies t)
length_of_copies_sorted t h i e =
    let c = bound (as_copies t) (λ c. instance schema.LengthOfCopies (t ∷ c.1 ∷ [])) i e in
    let p = copies_parts t c.0 h c.1 in
    here schema.LengthOfCopies (t ∷ c.0.1 ∷ []) i c.2 (implies_sorted (is_at_most zero_term c.0.1) (same_number (length_of t) c.0.1) (at_most_sorted zero_term c.0.1 zero_sorted p.2) (same_number_sorted (length_of t) c.0.1 (len_sorted t p.0) p.2))

length_of_updated_sorted : (t : Term) → IsSorted t → Sorted (length_of_updated t)
length_of_updated_sorted t h i e =
    let u = bound (as_updated t) (λ u. instance schema.LengthOfUpdated (t ∷ u.0 ∷ [])) i e in
    let p = updated_parts t u.0 h u.1 in
    here schema.LengthOfUpdated (t ∷ u.0.0 ∷ []) i u.2 (same_number_sorted (length_of t) (length_of u.0.0) (len_sorted t p.0) (len_sorted u.0.0 p.1))

element_of_array_sorted : (t k : Term) → IsSorted t → IsSorted k → Sorted (element_of_array t k)
element_of_array_sorted t k h hk i e =
    let g = bound (as_element t) (λ g. as_number k >>= λ z. numbered_in g.0 z >>= λ v. instance schema.ElementOfArray (t ∷ g.1 ∷ k ∷ v ∷ [])) i e in
    let z = bound (as_number k) (λ z. numbered_in g.0.0 z >>= λ v. instance schema.ElementOfArray (t ∷ g.0.1 ∷ k ∷ v ∷ [])) i g.2 in
    let v = bound (numbered_in g.0.0 z.0) (λ v. instance schema.ElementOfArray (t ∷ g.0.1 ∷ k ∷ v ∷ [])) i z.2 in
    let vs = bound (as_array g.0.0) (λ vs. element_numbered vs z.0) v.0 v.1 in
    let p = element_parts t g.0 h g.1 in
    let is_k = number_part k z.0 hk z.1 in
    let is_v = numbered_sorted vs.0 z.0 v.0 (array_parts g.0.0 vs.0 p.1.0 vs.1) vs.2 in
    here schema.ElementOfArray (t ∷ g.0.1 ∷ k ∷ v.0 ∷ []) i v.2 (one_of_three_sorted (is_below g.0.1 k) (is_below k g.0.1) (is_equal t v.0) (below_sorted g.0.1 k p.2 is_k) (below_sorted k g.0.1 is_k p.2) (equal_sorted t v.0 p.0 is_v))

element_of_copies_sorted : (t : Term) → IsSorted t → Sorted (element_of_copies t)
element_of_copies_sorted t h i e =
    let g = bound (as_element t) (λ g. as_copies g.0 >>= λ c. instance schema.ElementOfCopies (t ∷ g.1 ∷ c.1 ∷ c.0 ∷ [])) i e in
    let c = bound (as_copies g.0.0) (λ c. instance schema.ElementOfCopies (t ∷ g.0.1 ∷ c.1 ∷ c.0 ∷ [])) i g.2 in
    let p = element_parts t g.0 h g.1 in
    let q = copies_parts g.0.0 c.0 p.1.0 c.1 in
    here schema.ElementOfCopies (t ∷ g.0.1 ∷ c.0.1 ∷ c.0.0 ∷ []) i c.2
    (implies_sorted (both (is_at_most zero_term g.0.1) (is_below g.0.1 c.0.1)) (is_equal t c.0.0) (both_sorted (is_at_most zero_term g.0.1) (is_below g.0.1 c.0.1) (at_most_sorted zero_term g.0.1 zero_sorted p.2) (below_sorted g.0.1 c.0.1 p.2 q.2)) (equal_sorted t c.0.0 p.0 q.1))

element_updated_sorted : (t : Term) → IsSorted t → Sorted (element_updated t)
element_updated_sorted t h i e =
    let g = bound (as_element t) (λ g. as_updated g.0 >>= λ u. instance schema.ElementUpdated (t ∷ u.0 ∷ u.1 ∷ u.2 ∷ g.1 ∷ [])) i e in
    let u = bound (as_updated g.0.0) (λ u. instance schema.ElementUpdated (t ∷ u.0 ∷ u.1 ∷ u.2 ∷ g.0.1 ∷ [])) i g.2 in
    let p = element_parts t g.0 h g.1 in
    let q = updated_parts g.0.0 u.0 p.1.0 u.1 in
    let j = g.0.1 in
    here schema.ElementUpdated (t ∷ u.0.0 ∷ u.0.1 ∷ u.0.2 ∷ g.0.1 ∷ []) i u.2
    (implies_sorted (all_four (is_at_most u.0.1 g.0.1) (is_at_most g.0.1 u.0.1) (is_at_most zero_term u.0.1) (is_below u.0.1 (length_of u.0.0))) (is_equal t u.0.2)
    (four_sorted (is_at_most u.0.1 g.0.1) (is_at_most g.0.1 u.0.1) (is_at_most zero_term u.0.1) (is_below u.0.1 (length_of u.0.0)) (at_most_sorted u.0.1 g.0.1 q.2 p.2) (at_most_sorted g.0.1 u.0.1 p.2 q.2) (at_most_sorted zero_term u.0.1 zero_sorted q.2) (below_sorted u.0.1 (length_of u.0.0) q.2 (len_sorted u.0.0 q.1)))
    (equal_sorted t u.0.2 p.0 q.3))

element_elsewhere_sorted : (t : Term) → IsSorted t → Sorted (element_elsewhere t)
element_elsewhere_sorted t h i e =
    let g = bound (as_element t) (λ g. as_updated g.0 >>= λ u. instance schema.ElementElsewhere (t ∷ u.0 ∷ u.1 ∷ g.1 ∷ [])) i e in
    let u = bound (as_updated g.0.0) (λ u. instance schema.ElementElsewhere (t ∷ u.0 ∷ u.1 ∷ g.0.1 ∷ [])) i g.2 in
    let p = element_parts t g.0 h g.1 in
    let q = updated_parts g.0.0 u.0 p.1.0 u.1 in
    here schema.ElementElsewhere (t ∷ u.0.0 ∷ u.0.1 ∷ g.0.1 ∷ []) i u.2
    (implies_sorted (either (is_below u.0.1 g.0.1) (is_below g.0.1 u.0.1)) (is_equal t (made_two term.get u.0.0 g.0.1)) (either_sorted (is_below u.0.1 g.0.1) (is_below g.0.1 u.0.1) (below_sorted u.0.1 g.0.1 q.2 p.2) (below_sorted g.0.1 u.0.1 p.2 q.2)) (equal_sorted t (made_two term.get u.0.0 g.0.1) p.0 (get_sorted u.0.0 g.0.1 q.1 p.2)))

elements_at_one_index_sorted : (s t : Term) → IsSorted s → IsSorted t → Sorted (elements_at_one_index s t)
elements_at_one_index_sorted s t hs ht i e =
    let g = bound (as_element s) (λ g. as_element t >>= λ h. only_if (same_term g.0 h.0) (instance schema.ElementsAtOneIndex (s ∷ t ∷ g.1 ∷ h.1 ∷ []))) i e in
    let k = bound (as_element t) (λ h. only_if (same_term g.0.0 h.0) (instance schema.ElementsAtOneIndex (s ∷ t ∷ g.0.1 ∷ h.1 ∷ []))) i g.2 in
    let o = only (same_term g.0.0 k.0.0) (instance schema.ElementsAtOneIndex (s ∷ t ∷ g.0.1 ∷ k.0.1 ∷ [])) i k.2 in
    let p = element_parts s g.0 hs g.1 in
    let q = element_parts t k.0 ht k.1 in
    here schema.ElementsAtOneIndex (s ∷ t ∷ g.0.1 ∷ k.0.1 ∷ []) i o.1 (one_of_three_sorted (is_below g.0.1 k.0.1) (is_below k.0.1 g.0.1) (is_equal s t) (below_sorted g.0.1 k.0.1 p.2 q.2) (below_sorted k.0.1 g.0.1 q.2 p.2) (equal_sorted s t p.0 q.0))

field_updated_sorted : (t : Term) → IsSorted t → Sorted (field_updated t)
field_updated_sorted t h i e =
    let w = bound (set_to t) (λ w. instance schema.FieldUpdated (t ∷ w ∷ [])) i e in
    let g = bound (as_field t) (λ g. as_field_updated g.0 >>= λ u. only_if (bytes_eq u.1 g.1) (Some u.2)) w.0 w.1 in
    let u = bound (as_field_updated g.0.0) (λ u. only_if (bytes_eq u.1 g.0.1) (Some u.2)) w.0 g.2 in
    let o = only (bytes_eq u.0.1 g.0.1) (Some u.0.2) w.0 u.2 in
    let p = field_parts t g.0 h g.1 in
    let q = field_updated_parts g.0.0 u.0 p.1.0 u.1 in
    here schema.FieldUpdated (t ∷ w.0 ∷ []) i w.2 (equal_sorted t w.0 p.0 (subst IsVal (some_is u.0.2 w.0 o.1) q.1))

field_elsewhere_sorted : (t : Term) → IsSorted t → Sorted (field_elsewhere t)
field_elsewhere_sorted t h i e =
    let w = bound (field_before t) (λ u. instance schema.FieldElsewhere (t ∷ folded u ∷ [])) i e in
    let g = bound (as_field t) (λ g. as_field_updated g.0 >>= λ u. only_if (not (bytes_eq u.1 g.1)) (Some (one (term.field g.1) u.0))) w.0 w.1 in
    let u = bound (as_field_updated g.0.0) (λ u. only_if (not (bytes_eq u.1 g.0.1)) (Some (one (term.field g.0.1) u.0))) w.0 g.2 in
    let o = only (not (bytes_eq u.0.1 g.0.1)) (Some (one (term.field g.0.1) u.0.0)) w.0 u.2 in
    let p = field_parts t g.0 h g.1 in
    let q = field_updated_parts g.0.0 u.0 p.1.0 u.1 in
    here schema.FieldElsewhere (t ∷ folded w.0 ∷ []) i w.2 (equal_sorted t (folded w.0) p.0 (subst (λ (x : Term). IsVal (folded x)) (some_is (one (term.field g.0.1) u.0.0) w.0 o.1) (field_sorted g.0.1 u.0.0 q.0)))

equal_numbers_sorted : (t : Term) → IsSorted t → Sorted (equal_numbers t)
equal_numbers_sorted t h i e =
    let s = bound (as_equation t) (λ s. instance schema.EqualNumbers (t ∷ s.0 ∷ s.1 ∷ [])) i e in
    let p = equation_parts t s.0 h s.1 in
    let v = s.0.0 in
    here schema.EqualNumbers (t ∷ s.0.0 ∷ s.0.1 ∷ []) i s.2
    (implies_sorted t (both (is_at_most (number_in s.0.0) (number_in s.0.1)) (is_at_most (number_in s.0.1) (number_in s.0.0))) p.0
    (both_sorted (is_at_most (number_in s.0.0) (number_in s.0.1)) (is_at_most (number_in s.0.1) (number_in s.0.0)) (at_most_sorted (number_in s.0.0) (number_in s.0.1) (num_sorted s.0.0 p.1) (num_sorted s.0.1 p.2)) (at_most_sorted (number_in s.0.1) (number_in s.0.0) (num_sorted s.0.1 p.2) (num_sorted s.0.0 p.1))))

kind_of_updated_sorted : (t : Term) → IsSorted t → Sorted (kind_of_updated t)
kind_of_updated_sorted t h i e =
    let l = bound (kind_before_update t) (λ l. instance schema.KindOfUpdated (t ∷ folded l ∷ [])) i e in
    let k = bound (as_kind_test t) (λ k. as_updated k.0 >>= λ u. Some (one (term.of_kind k.1) u.0)) l.0 l.1 in
    let u = bound (as_updated k.0.0) (λ u. Some (one (term.of_kind k.0.1) u.0)) l.0 k.2 in
    let p = kind_test_parts t k.0 h k.1 in
    let q = updated_parts k.0.0 u.0 p.1.0 u.1 in
    here schema.KindOfUpdated (t ∷ folded l.0 ∷ []) i l.2 (exactly_sorted t (folded l.0) p.0 (subst (λ (x : Term). IsFormula (folded x)) (some_is (one (term.of_kind k.0.1) u.0.0) l.0 u.2) (kind_sorted k.0.1 u.0.0 q.1)))

kind_of_field_updated_sorted : (t : Term) → IsSorted t → Sorted (kind_of_field_updated t)
kind_of_field_updated_sorted t h i e =
    let l = bound (kind_before_set t) (λ l. instance schema.KindOfFieldUpdated (t ∷ folded l ∷ [])) i e in
    let k = bound (as_kind_test t) (λ k. as_field_updated k.0 >>= λ u. only_if (has_field k.1 u.1) (Some (one (term.of_kind k.1) u.0))) l.0 l.1 in
    let u = bound (as_field_updated k.0.0) (λ u. only_if (has_field k.0.1 u.1) (Some (one (term.of_kind k.0.1) u.0))) l.0 k.2 in
    let o = only (has_field k.0.1 u.0.1) (Some (one (term.of_kind k.0.1) u.0.0)) l.0 u.2 in
    let p = kind_test_parts t k.0 h k.1 in
    let q = field_updated_parts k.0.0 u.0 p.1.0 u.1 in
    here schema.KindOfFieldUpdated (t ∷ folded l.0 ∷ []) i l.2 (implies_sorted (folded l.0) t (subst (λ (x : Term). IsFormula (folded x)) (some_is (one (term.of_kind k.0.1) u.0.0) l.0 o.1) (kind_sorted k.0.1 u.0.0 q.0)) p.0)

datum_by_sorted : (v : Term) (o : Option Term) → as_bool v ≡ o → IsSorted v → Sorted (datum_by v o)
datum_by_sorted v None is h i e =
    let p = only (is_val v) (instance schema.DatumByKind (v ∷ [])) i e in
    let is_v = is_val_term v h p.0 in
    here schema.DatumByKind (v ∷ []) i p.1
    (three_sorted (implies (made_one (term.of_kind null_kind) v) (is_equal v (leaf term.null))) (implies (made_one (term.of_kind bool_kind) v) (either (is_equal v (leaf (term.truth true))) (is_equal v (leaf (term.truth false))))) (implies (made_one (term.of_kind int_kind) v) (is_equal v (whole (number_in v))))
    (implies_sorted (made_one (term.of_kind null_kind) v) (is_equal v (leaf term.null)) (kind_sorted null_kind v is_v) (equal_sorted v (leaf term.null) is_v null_sorted))
    (implies_sorted (made_one (term.of_kind bool_kind) v) (either (is_equal v (leaf (term.truth true))) (is_equal v (leaf (term.truth false)))) (kind_sorted bool_kind v is_v) (either_sorted (is_equal v (leaf (term.truth true))) (is_equal v (leaf (term.truth false))) (equal_sorted v (leaf (term.truth true)) is_v true_sorted) (equal_sorted v (leaf (term.truth false)) is_v false_sorted)))
    (implies_sorted (made_one (term.of_kind int_kind) v) (is_equal v (whole (number_in v))) (kind_sorted int_kind v is_v) (equal_sorted v (whole (number_in v)) is_v (int_sorted (number_in v) (num_sorted v is_v)))))
datum_by_sorted v (Some f) is h i e =
    let p = bool_part v f h is in
    here schema.DatumOfFormula (v ∷ f ∷ []) i e
    (either_sorted (both f (is_equal v (leaf (term.truth true)))) (both (denial f) (is_equal v (leaf (term.truth false))))
    (both_sorted f (is_equal v (leaf (term.truth true))) p.1 (equal_sorted v (leaf (term.truth true)) p.0 true_sorted))
    (both_sorted (denial f) (is_equal v (leaf (term.truth false))) (denial_sorted f p.1) (equal_sorted v (leaf (term.truth false)) p.0 false_sorted)))

divided_sorted : (a b q r : Term) → IsInt a → IsInt b → IsInt q → IsInt r → IsFormula (stated schema.Division (a ∷ b ∷ q ∷ r ∷ []))
divided_sorted a b q r ha hb hq hr =
    either_sorted (same_number b zero_term) (all_four (same_number a (made_two term.add (made_two term.mul b q) r)) (is_at_most zero_term r) (either (is_at_most b zero_term) (is_below r b)) (either (is_at_most zero_term b) (is_below r (made_one term.neg b))))
    (same_number_sorted b zero_term hb zero_sorted)
    (four_sorted (same_number a (made_two term.add (made_two term.mul b q) r)) (is_at_most zero_term r) (either (is_at_most b zero_term) (is_below r b)) (either (is_at_most zero_term b) (is_below r (made_one term.neg b)))
    (same_number_sorted a (made_two term.add (made_two term.mul b q) r) ha (add_sorted (made_two term.mul b q) r (mul_sorted b q hb hq) hr))
    (at_most_sorted zero_term r zero_sorted hr)
    (either_sorted (is_at_most b zero_term) (is_below r b) (at_most_sorted b zero_term hb zero_sorted) (below_sorted r b hr hb))
    (either_sorted (is_at_most zero_term b) (is_below r (made_one term.neg b)) (at_most_sorted zero_term b zero_sorted hb) (below_sorted r (made_one term.neg b) hr (neg_sorted b hb))))

division_sorted : (t : Term) → IsSorted t → Sorted (division t)
division_sorted t h i e =
    let d = bound (as_division t) (λ d. instance schema.Division (d.0 ∷ d.1 ∷ made_two term.div d.0 d.1 ∷ made_two term.rem d.0 d.1 ∷ [])) i e in
    let p = division_parts t d.0 h d.1 in
    here schema.Division (d.0.0 ∷ d.0.1 ∷ made_two term.div d.0.0 d.0.1 ∷ made_two term.rem d.0.0 d.0.1 ∷ []) i d.2 (divided_sorted d.0.0 d.0.1 (made_two term.div d.0.0 d.0.1) (made_two term.rem d.0.0 d.0.1) p.0 p.1 (div_sorted d.0.0 d.0.1 p.0 p.1) (rem_sorted d.0.0 d.0.1 p.0 p.1))

-- ---- by number

choice : (b : Bool) (o p : Option Instance) → Sorted o → Sorted p → Sorted (cond b o p)
choice true o p f g = f
choice false o p f g = g

none_sorted : Sorted None
none_sorted i e = absurd cc

plain_sorted : (n : ℕ) (t : Term) → IsSorted t → Sorted (plain_by_one n t)
plain_sorted n t h =
    choice (eqb n 1) _ _ (length_is_natural_sorted t h) (choice (eqb n 2) _ _ (length_of_copies_sorted t h) (choice (eqb n 3) _ _ (length_of_updated_sorted t h) (choice (eqb n 5) _ _ (element_of_copies_sorted t h) (choice (eqb n 6) _ _ (element_updated_sorted t h) (choice (eqb n 7) _ _ (element_elsewhere_sorted t h) (choice (eqb n 9) _ _ (field_updated_sorted t h) (choice (eqb n 11) _ _ (equal_numbers_sorted t h) (choice (eqb n 14) _ _ (datum_by_sorted t (as_bool t) refl h) none_sorted))))))))

by_one_sorted : (n : ℕ) (t : Term) → IsSorted t → Sorted (by_one n t)
by_one_sorted n t h =
    choice (eqb n 10) _ _ (field_elsewhere_sorted t h) (choice (eqb n 12) _ _ (kind_of_updated_sorted t h) (choice (eqb n 13) _ _ (kind_of_field_updated_sorted t h) (choice (eqb n 15) _ _ (division_sorted t h) (plain_sorted n t h))))

by_two_sorted : (n : ℕ) (s t : Term) → IsSorted s → IsSorted t → Sorted (by_two n s t)
by_two_sorted n s t hs ht = choice (eqb n 4) _ _ (element_of_array_sorted s t hs ht) (choice (eqb n 8) _ _ (elements_at_one_index_sorted s t hs ht) none_sorted)

instance_sorted : (n : ℕ) (ts : List Term) → AreSortedTerms ts → Sorted (instance_of n ts)
instance_sorted n [] h i e = absurd cc
instance_sorted n (t ∷ []) h i e = by_one_sorted n t h.0 i e
instance_sorted n (s ∷ t ∷ []) h i e = by_two_sorted n s t h.0 h.1.0 i e
instance_sorted n (s ∷ t ∷ u ∷ rest) h i e = absurd cc

-- what a schema states of sorted arguments is a sorted formula
pub fact_sorted : (n : ℕ) (ts : List Term) (f : Term) → AreSortedTerms ts → fact_of n ts ≡ Some f → IsFormula f
fact_sorted n ts f h e =
    let i = bound (instance_of n ts) (λ i. Some (stated i.schema i.parts)) f e in
    subst IsFormula (some_is (stated i.0.schema i.0.parts) f i.2) (instance_sorted n ts h i.0 i.1)
