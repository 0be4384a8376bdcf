-- What the schemas of facts state of folded terms is folded.
use Rattle.std.proofs.Common.{◌≡◌, ℕ, zero, suc, List, [], ◌∷◌, Bool, true, false, cond, eqb, not, ℤ, pos, negsuc, Option, Some, None, refl, subst}
use Rattle.std.specs.Prelude.{bytes_eq}
use Rattle.wy_lemmas.proofs.Options.{some_same as some_is}
use Rattle.wy_search_bounds.proofs.wy_term_text_proofs.reread_lemmas.FoldedLemmas.{null_folded, number_folded}
use Rattle.wy_search_bounds.specs.wy_term.Term as term
use Rattle.wy_search_bounds.specs.wy_term.Term.{DataKind, null_kind, bool_kind, int_kind, Term, Of, Parts, no_parts, part, leaf, one}
use Rattle.wy_search_bounds.specs.wy_term.Same.{same_term}
use Rattle.wy_search_bounds.specs.wy_term.Rewriting.{as_number, as_bool}
use Rattle.wy_search_bounds.specs.wy_term.Folding.{folded}
use Rattle.wy_search_bounds.specs.wy_term.Condition.{Entry}
use Rattle.wy_search_bounds.specs.wy_term_text.reread.Folded.{IsFolded, AreFolded}
use Rattle.wy_search_bounds.specs.wy_facts.declared.schema.Schema.{Schema}
use Rattle.wy_search_bounds.specs.wy_facts.declared.schema.Schema.TheVariants as schema
use Rattle.wy_search_bounds.specs.wy_facts.Made.{made_one, made_two, is_at_most, is_equal, denial, is_below, both, all_four, either, implies, same_number}
use Rattle.wy_search_bounds.specs.wy_facts.Schema.{◌>>=◌, whole, length_of, number_in, zero_term, stated, is_val, nth_of, element_numbered, has_field, Instance, instance, only_if, length_is_natural, length_of_copies, length_of_updated, numbered_in, element_of_array, element_of_copies, element_updated, element_elsewhere, elements_at_one_index, field_updated, field_elsewhere, equal_numbers, kind_of_updated, kind_of_field_updated, datum_by, datum_by_kind, division, plain_by_one, by_one, by_two, instance_of, fact_of}
use Rattle.wy_search_bounds.specs.wy_check_spec.valid.Membership.{membership_by, fact_among}
use Rattle.wy_search_laws.proofs.closing_lemmas.Closing.{AreFoldedTerms}
use Rattle.wy_search_laws.proofs.rounds_lemmas.FoldedMade.{one_folded, two_folded, at_most_folded, equal_folded, denial_folded, below_folded, both_folded, three_folded, four_folded, either_folded, any_three_folded, implies_folded, exactly_folded, same_number_folded, IsFoldedIf, members_folded}

-- ---- what each schema states

truth_folded : (b : Bool) → IsFolded (leaf (term.truth b))
truth_folded b = (refl, tt)

zero_folded : IsFolded zero_term
zero_folded = number_folded (pos 0)

kind_folded : (kind : DataKind) (v : Term) → IsFolded v → IsFolded (made_one (term.of_kind kind) v)
kind_folded kind v h = one_folded (term.of_kind kind) v h

by_kind_folded : (v : Term) → IsFolded v → IsFolded (stated schema.DatumByKind (v ∷ []))
by_kind_folded v h =
    let whole_folded = one_folded term.int (number_in v) (one_folded term.num v h) in
    let yes = equal_folded v (leaf (term.truth true)) h (truth_folded true) in
    let no = equal_folded v (leaf (term.truth false)) h (truth_folded false) in
    three_folded (implies (made_one (term.of_kind null_kind) v) (is_equal v (leaf term.null)))
    (implies (made_one (term.of_kind bool_kind) v) (either (is_equal v (leaf (term.truth true))) (is_equal v (leaf (term.truth false)))))
    (implies (made_one (term.of_kind int_kind) v) (is_equal v (whole (number_in v))))
    (implies_folded (made_one (term.of_kind null_kind) v) (is_equal v (leaf term.null)) (kind_folded null_kind v h) (equal_folded v (leaf term.null) h null_folded))
    (implies_folded (made_one (term.of_kind bool_kind) v) (either (is_equal v (leaf (term.truth true))) (is_equal v (leaf (term.truth false)))) (kind_folded bool_kind v h) (either_folded (is_equal v (leaf (term.truth true))) (is_equal v (leaf (term.truth false))) yes no))
    (implies_folded (made_one (term.of_kind int_kind) v) (is_equal v (whole (number_in v))) (kind_folded int_kind v h) (equal_folded v (whole (number_in v)) h whole_folded))

division_folded : (a b q r : Term) → IsFolded a → IsFolded b → IsFolded q → IsFolded r → IsFolded (stated schema.Division (a ∷ b ∷ q ∷ r ∷ []))
division_folded a b q r ha hb hq hr =
    let bq = two_folded term.mul b q hb hq in
    let sum = two_folded term.add (made_two term.mul b q) r bq hr in
    let minus = one_folded term.neg b hb in
    let none = same_number_folded b zero_term hb zero_folded in
    let small = either_folded (is_at_most b zero_term) (is_below r b) (at_most_folded b zero_term hb zero_folded) (below_folded r b hr hb) in
    let great = either_folded (is_at_most zero_term b) (is_below r (made_one term.neg b)) (at_most_folded zero_term b zero_folded hb) (below_folded r (made_one term.neg b) hr minus) in
    let rest =
    four_folded (same_number a (made_two term.add (made_two term.mul b q) r)) (is_at_most zero_term r) (either (is_at_most b zero_term) (is_below r b)) (either (is_at_most zero_term b) (is_below r (made_one term.neg b)))
    (same_number_folded a (made_two term.add (made_two term.mul b q) r) ha sum) (at_most_folded zero_term r zero_folded hr) small great in
    either_folded (same_number b zero_term)
    (all_four (same_number a (made_two term.add (made_two term.mul b q) r)) (is_at_most zero_term r) (either (is_at_most b zero_term) (is_below r b)) (either (is_at_most zero_term b) (is_below r (made_one term.neg b))))
    none rest

updated_folded : (t a i w j : Term) → IsFolded t → IsFolded a → IsFolded i → IsFolded w → IsFolded j → IsFolded (stated schema.ElementUpdated (t ∷ a ∷ i ∷ w ∷ j ∷ []))
updated_folded t a i w j ht ha hi hw hj =
    let long = one_folded term.len a ha in
    implies_folded (all_four (is_at_most i j) (is_at_most j i) (is_at_most zero_term i) (is_below i (length_of a))) (is_equal t w)
    (four_folded (is_at_most i j) (is_at_most j i) (is_at_most zero_term i) (is_below i (length_of a)) (at_most_folded i j hi hj) (at_most_folded j i hj hi) (at_most_folded zero_term i zero_folded hi) (below_folded i (length_of a) hi long))
    (equal_folded t w ht hw)

stated_folded : (n : Schema) (ts : List Term) → AreFoldedTerms ts → IsFolded (stated n ts)
stated_folded schema.LengthIsNatural (v ∷ []) h = at_most_folded zero_term (length_of v) zero_folded (one_folded term.len v h.0)
stated_folded schema.LengthOfCopies (t ∷ n ∷ []) h = implies_folded (is_at_most zero_term n) (same_number (length_of t) n) (at_most_folded zero_term n zero_folded h.1.0) (same_number_folded (length_of t) n (one_folded term.len t h.0) h.1.0)
stated_folded schema.LengthOfUpdated (t ∷ a ∷ []) h = same_number_folded (length_of t) (length_of a) (one_folded term.len t h.0) (one_folded term.len a h.1.0)
stated_folded schema.ElementOfArray (t ∷ i ∷ k ∷ v ∷ []) h = any_three_folded (is_below i k) (is_below k i) (is_equal t v) (below_folded i k h.1.0 h.1.1.0) (below_folded k i h.1.1.0 h.1.0) (equal_folded t v h.0 h.1.1.1.0)
stated_folded schema.ElementOfCopies (t ∷ i ∷ n ∷ v ∷ []) h = implies_folded (both (is_at_most zero_term i) (is_below i n)) (is_equal t v) (both_folded (is_at_most zero_term i) (is_below i n) (at_most_folded zero_term i zero_folded h.1.0) (below_folded i n h.1.0 h.1.1.0)) (equal_folded t v h.0 h.1.1.1.0)
stated_folded schema.ElementUpdated (t ∷ a ∷ i ∷ w ∷ j ∷ []) h = updated_folded t a i w j h.0 h.1.0 h.1.1.0 h.1.1.1.0 h.1.1.1.1.0
stated_folded schema.ElementElsewhere (t ∷ a ∷ i ∷ j ∷ []) h = implies_folded (either (is_below i j) (is_below j i)) (is_equal t (made_two term.get a j)) (either_folded (is_below i j) (is_below j i) (below_folded i j h.1.1.0 h.1.1.1.0) (below_folded j i h.1.1.1.0 h.1.1.0)) (equal_folded t (made_two term.get a j) h.0 (two_folded term.get a j h.1.0 h.1.1.1.0))
stated_folded schema.ElementsAtOneIndex (s ∷ t ∷ i ∷ j ∷ []) h = any_three_folded (is_below i j) (is_below j i) (is_equal s t) (below_folded i j h.1.1.0 h.1.1.1.0) (below_folded j i h.1.1.1.0 h.1.1.0) (equal_folded s t h.0 h.1.0)
stated_folded schema.FieldUpdated (t ∷ w ∷ []) h = equal_folded t w h.0 h.1.0
stated_folded schema.FieldElsewhere (t ∷ u ∷ []) h = equal_folded t u h.0 h.1.0
stated_folded schema.EqualNumbers (e ∷ v ∷ w ∷ []) h =
    let nv = one_folded term.num v h.1.0 in
    let nw = one_folded term.num w h.1.1.0 in
    implies_folded e (both (is_at_most (number_in v) (number_in w)) (is_at_most (number_in w) (number_in v))) h.0 (both_folded (is_at_most (number_in v) (number_in w)) (is_at_most (number_in w) (number_in v)) (at_most_folded (number_in v) (number_in w) nv nw) (at_most_folded (number_in w) (number_in v) nw nv))
stated_folded schema.KindOfUpdated (k ∷ l ∷ []) h = exactly_folded k l h.0 h.1.0
stated_folded schema.KindOfFieldUpdated (k ∷ l ∷ []) h = implies_folded l k h.1.0 h.0
stated_folded schema.DatumByKind (v ∷ []) h = by_kind_folded v h.0
stated_folded schema.DatumOfFormula (v ∷ f ∷ []) h =
    either_folded (both f (is_equal v (leaf (term.truth true)))) (both (denial f) (is_equal v (leaf (term.truth false))))
    (both_folded f (is_equal v (leaf (term.truth true))) h.1.0 (equal_folded v (leaf (term.truth true)) h.0 (truth_folded true)))
    (both_folded (denial f) (is_equal v (leaf (term.truth false))) (denial_folded f h.1.0) (equal_folded v (leaf (term.truth false)) h.0 (truth_folded false)))
stated_folded schema.Division (a ∷ b ∷ q ∷ r ∷ []) h = division_folded a b q r h.0 h.1.0 h.1.1.0 h.1.1.1.0
stated_folded n ts h = zero_folded

-- ---- the parts of each schema's arguments

abbrev IsFoldedInstance : Option Instance → Type 0
IsFoldedInstance None = Unit {0}
IsFoldedInstance (Some i) = AreFoldedTerms i.parts

only_instance : (b : Bool) (o : Option Instance) → IsFoldedInstance o → IsFoldedInstance (only_if b o)
only_instance true o h = h
only_instance false o h = tt

if_instance : (b : Bool) (o q : Option Instance) → IsFoldedInstance o → IsFoldedInstance q → IsFoldedInstance (cond b o q)
if_instance true o q h g = h
if_instance false o q h g = g

copies : (t : Term) → IsFolded t → IsFoldedInstance (length_of_copies t)
copies (Of term.repeat (part v (part n no_parts))) h = (h, (h.1.1.0, tt))
copies t h = tt

updated : (t : Term) → IsFolded t → IsFoldedInstance (length_of_updated t)
updated (Of term.update (part a (part i (part w no_parts)))) h = (h, (h.1.0, tt))
updated t h = tt

nth_folded : (vs : Parts) (k : ℕ) → AreFolded vs → (v : Term) → nth_of vs k ≡ Some v → IsFolded v
nth_folded no_parts k h v e = absurd cc
nth_folded (part t ts) zero h v e = subst IsFolded (some_is t v e) h.0
nth_folded (part t ts) (suc k) h v e = nth_folded ts k h.1 v e

element_folded : (vs : Parts) (z : ℤ) → AreFolded vs → (v : Term) → element_numbered vs z ≡ Some v → IsFolded v
element_folded vs (pos k) h v e = nth_folded vs k h v e
element_folded vs (negsuc k) h v e = absurd cc

numbered_folded : (a : Term) (z : ℤ) → IsFolded a → (v : Term) → numbered_in a z ≡ Some v → IsFolded v
numbered_folded (Of term.array vs) z h v e = element_folded vs z h.1 v e
numbered_folded a z h v e = absurd cc

of_array : (t k : Term) → IsFolded t → IsFolded k → IsFoldedInstance (element_of_array t k)
of_array (Of term.get (part a (part i no_parts))) k h g = at_number (as_number k)
  where
    at_element : (o : Option Term) → ((v : Term) → o ≡ Some v → IsFolded v) → IsFoldedInstance (o >>= λ v. instance schema.ElementOfArray (Of term.get (part a (part i no_parts)) ∷ i ∷ k ∷ v ∷ []))
    at_element None f = tt
    at_element (Some v) f = (h, (h.1.1.0, (g, (f v refl, tt))))

    at_number : (o : Option ℤ) → IsFoldedInstance (o >>= λ z. numbered_in a z >>= λ v. instance schema.ElementOfArray (Of term.get (part a (part i no_parts)) ∷ i ∷ k ∷ v ∷ []))
    at_number None = tt
    at_number (Some z) = at_element (numbered_in a z) (numbered_folded a z h.1.0)
of_array t k h g = tt

abbrev element : Term → Term → Term
element a i = Of term.get (part a (part i no_parts))

copies_at : (a i : Term) → IsFolded (element a i) → IsFoldedInstance (element_of_copies (element a i))
copies_at (Of term.repeat (part v (part n no_parts))) i h = (h, (h.1.1.0, (h.1.0.1.1.0, (h.1.0.1.0, tt))))
copies_at a i h = tt

of_copies : (t : Term) → IsFolded t → IsFoldedInstance (element_of_copies t)
of_copies (Of term.get (part a (part i no_parts))) h = copies_at a i h
of_copies t h = tt

updated_at : (a j : Term) → IsFolded (element a j) → IsFoldedInstance (element_updated (element a j))
updated_at (Of term.update (part a (part i (part w no_parts)))) j h = (h, (h.1.0.1.0, (h.1.0.1.1.0, (h.1.0.1.1.1.0, (h.1.1.0, tt)))))
updated_at a j h = tt

of_updated : (t : Term) → IsFolded t → IsFoldedInstance (element_updated t)
of_updated (Of term.get (part a (part j no_parts))) h = updated_at a j h
of_updated t h = tt

elsewhere_at : (a j : Term) → IsFolded (element a j) → IsFoldedInstance (element_elsewhere (element a j))
elsewhere_at (Of term.update (part a (part i (part w no_parts)))) j h = (h, (h.1.0.1.0, (h.1.0.1.1.0, (h.1.1.0, tt))))
elsewhere_at a j h = tt

elsewhere : (t : Term) → IsFolded t → IsFoldedInstance (element_elsewhere t)
elsewhere (Of term.get (part a (part j no_parts))) h = elsewhere_at a j h
elsewhere t h = tt

one_index : (s t : Term) → IsFolded s → IsFolded t → IsFoldedInstance (elements_at_one_index s t)
one_index (Of term.get (part a (part i no_parts))) (Of term.get (part b (part j no_parts))) h g = only_instance (same_term a b) (instance schema.ElementsAtOneIndex (Of term.get (part a (part i no_parts)) ∷ Of term.get (part b (part j no_parts)) ∷ i ∷ j ∷ [])) (h, (g, (h.1.1.0, (g.1.1.0, tt))))
one_index (Of term.get (part a (part i no_parts))) t h g = tt
one_index s t h g = tt

abbrev field_of : List ℕ → Term → Term
field_of n r = Of (term.field n) (part r no_parts)

set_at : (n : List ℕ) (r : Term) → IsFolded (field_of n r) → IsFoldedInstance (field_updated (field_of n r))
set_at n (Of (term.set_field m) (part r (part w no_parts))) h = by (bytes_eq m n)
  where
    by : (b : Bool) → IsFoldedInstance (only_if b (Some w) >>= λ u. instance schema.FieldUpdated (field_of n (Of (term.set_field m) (part r (part w no_parts))) ∷ u ∷ []))
    by true = (h, (h.1.0.1.1.0, tt))
    by false = tt
set_at n r h = tt

set_field_folded : (t : Term) → IsFolded t → IsFoldedInstance (field_updated t)
set_field_folded (Of (term.field n) (part r no_parts)) h = set_at n r h
set_field_folded t h = tt

other_at : (n : List ℕ) (r : Term) → IsFolded (field_of n r) → IsFoldedInstance (field_elsewhere (field_of n r))
other_at n (Of (term.set_field m) (part r (part w no_parts))) h = by (not (bytes_eq m n))
  where
    by : (b : Bool) → IsFoldedInstance (only_if b (Some (one (term.field n) r)) >>= λ u. instance schema.FieldElsewhere (field_of n (Of (term.set_field m) (part r (part w no_parts))) ∷ folded u ∷ []))
    by true = (h, (one_folded (term.field n) r h.1.0.1.0, tt))
    by false = tt
other_at n r h = tt

other_field_folded : (t : Term) → IsFolded t → IsFoldedInstance (field_elsewhere t)
other_field_folded (Of (term.field n) (part r no_parts)) h = other_at n r h
other_field_folded t h = tt

numbers_folded : (t : Term) → IsFolded t → IsFoldedInstance (equal_numbers t)
numbers_folded (Of term.equal (part v (part w no_parts))) h = (h, (h.1.0, (h.1.1.0, tt)))
numbers_folded t h = tt

abbrev test_of : DataKind → Term → Term
test_of kind v = Of (term.of_kind kind) (part v no_parts)

kind_updated_at : (kind : DataKind) (v : Term) → IsFolded (test_of kind v) → IsFoldedInstance (kind_of_updated (test_of kind v))
kind_updated_at kind (Of term.update (part a (part i (part w no_parts)))) h = (h, (one_folded (term.of_kind kind) a h.1.0.1.0, tt))
kind_updated_at kind v h = tt

kind_updated_folded : (t : Term) → IsFolded t → IsFoldedInstance (kind_of_updated t)
kind_updated_folded (Of (term.of_kind kind) (part v no_parts)) h = kind_updated_at kind v h
kind_updated_folded t h = tt

kind_set_at : (kind : DataKind) (v : Term) → IsFolded (test_of kind v) → IsFoldedInstance (kind_of_field_updated (test_of kind v))
kind_set_at kind (Of (term.set_field m) (part r (part w no_parts))) h = by (has_field kind m)
  where
    by : (b : Bool) → IsFoldedInstance (only_if b (Some (one (term.of_kind kind) r)) >>= λ l. instance schema.KindOfFieldUpdated (test_of kind (Of (term.set_field m) (part r (part w no_parts))) ∷ folded l ∷ []))
    by true = (h, (one_folded (term.of_kind kind) r h.1.0.1.0, tt))
    by false = tt
kind_set_at kind v h = tt

kind_set_folded : (t : Term) → IsFolded t → IsFoldedInstance (kind_of_field_updated t)
kind_set_folded (Of (term.of_kind kind) (part v no_parts)) h = kind_set_at kind v h
kind_set_folded t h = tt

bool_part : (v f : Term) → IsFolded v → as_bool v ≡ Some f → IsFolded f
bool_part (Of term.bool (part g no_parts)) f h e = subst IsFolded (some_is g f e) h.1.0
bool_part v f h e = absurd cc

datum_folded : (v : Term) → IsFolded v → IsFoldedInstance (datum_by_kind v)
datum_folded v h = by (as_bool v) refl
  where
    by : (o : Option Term) → as_bool v ≡ o → IsFoldedInstance (datum_by v o)
    by None e = only_instance (is_val v) (instance schema.DatumByKind (v ∷ [])) (h, tt)
    by (Some f) e = (h, (bool_part v f h e, tt))

divided_folded : (t : Term) → IsFolded t → IsFoldedInstance (division t)
divided_folded (Of term.div (part a (part b no_parts))) h = (h.1.0, (h.1.1.0, (two_folded term.div a b h.1.0 h.1.1.0, (two_folded term.rem a b h.1.0 h.1.1.0, tt))))
divided_folded (Of term.rem (part a (part b no_parts))) h = (h.1.0, (h.1.1.0, (two_folded term.div a b h.1.0 h.1.1.0, (two_folded term.rem a b h.1.0 h.1.1.0, tt))))
divided_folded t h = tt

plain_folded : (n : ℕ) (t : Term) → IsFolded t → IsFoldedInstance (plain_by_one n t)
plain_folded n t h =
    if_instance (eqb n 1) (length_is_natural t) _ (only_instance (is_val t) (instance schema.LengthIsNatural (t ∷ [])) (h, tt))
    (if_instance (eqb n 2) (length_of_copies t) _ (copies t h)
    (if_instance (eqb n 3) (length_of_updated t) _ (updated t h)
    (if_instance (eqb n 5) (element_of_copies t) _ (of_copies t h)
    (if_instance (eqb n 6) (element_updated t) _ (of_updated t h)
    (if_instance (eqb n 7) (element_elsewhere t) _ (elsewhere t h)
    (if_instance (eqb n 9) (field_updated t) _ (set_field_folded t h)
    (if_instance (eqb n 11) (equal_numbers t) _ (numbers_folded t h)
    (if_instance (eqb n 14) (datum_by_kind t) None (datum_folded t h) tt))))))))

one_argument : (n : ℕ) (t : Term) → IsFolded t → IsFoldedInstance (by_one n t)
one_argument n t h =
    if_instance (eqb n 10) (field_elsewhere t) _ (other_field_folded t h)
    (if_instance (eqb n 12) (kind_of_updated t) _ (kind_updated_folded t h)
    (if_instance (eqb n 13) (kind_of_field_updated t) _ (kind_set_folded t h)
    (if_instance (eqb n 15) (division t) (plain_by_one n t) (divided_folded t h) (plain_folded n t h))))

two_arguments : (n : ℕ) (s t : Term) → IsFolded s → IsFolded t → IsFoldedInstance (by_two n s t)
two_arguments n s t h g = if_instance (eqb n 4) (element_of_array s t) _ (of_array s t h g) (if_instance (eqb n 8) (elements_at_one_index s t) None (one_index s t h g) tt)

arguments_folded : (n : ℕ) (ts : List Term) → AreFoldedTerms ts → IsFoldedInstance (instance_of n ts)
arguments_folded n [] h = tt
arguments_folded n (t ∷ []) h = one_argument n t h.0
arguments_folded n (s ∷ t ∷ []) h = two_arguments n s t h.0 h.1.0
arguments_folded n (s ∷ t ∷ u ∷ us) h = tt

-- ---- facts

schema_folded : (o : Option Instance) → IsFoldedInstance o → IsFoldedIf (o >>= λ i. Some (stated i.schema i.parts))
schema_folded None h = tt
schema_folded (Some i) h = stated_folded i.schema i.parts h

-- what a fact states of folded terms is folded
pub fact_folded : (types : List Entry) (n : ℕ) (ts : List Term) (g : Term) → AreFoldedTerms ts → fact_among types n ts ≡ Some g → IsFolded g
fact_folded types n ts g h e = last (fact_among types n ts) e (by (eqb n 16))
  where
    by : (b : Bool) → IsFoldedIf (cond b (membership_by types ts) (fact_of n ts))
    by true = members_folded types ts h
    by false = schema_folded (instance_of n ts) (arguments_folded n ts h)

    last : (o : Option Term) → o ≡ Some g → IsFoldedIf o → IsFolded g
    last None f k = absurd cc
    last (Some x) f k = subst IsFolded (some_is x g f) k
