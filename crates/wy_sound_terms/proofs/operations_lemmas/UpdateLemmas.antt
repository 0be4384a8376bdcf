-- Updates along paths.
use Rattle.std.proofs.Common.{◌≡◌, ℕ, zero, suc, List, [], ◌∷◌, Bool, true, false, cond, Option, Some, None, ℤ, pos, negsuc, bytes_eq, Ordering, Less, Equal, Greater, nat_cmp, is_lt, refl, sym, ap, ◌∙◌, subst}
use Rattle.std.specs.Cmp.Lexicographic.{slice_cmp, nat_list_cmp_total}
use Rattle.std.specs.List.Sorted.{IsStrictlySortedBy}
use Rattle.std.specs.Ordering.{ordering_reverse}
use Rattle.std.proofs.lemmas.Slice.Eq.{bytes_eq-Decides}
use Rattle.wy_lemmas.proofs.Lists.{BelowNames as Below}
use Rattle.wy_term_subst.specs.wy_value.Datum.{Datum, Null, Truth, Whole, Array, Record, Data, Fields, no_fields, field}
use Rattle.wy_term_subst.specs.wy_value.Values.{Rise, names_of}
use Rattle.wy_term_subst.specs.wy_term.Term as term
use Rattle.wy_term_subst.specs.wy_term.Term.{Term}
use Rattle.wy_term_subst.specs.wy_term.Data as shapes
use Rattle.wy_term_subst.specs.wy_term.Meaning.{Names}
use Rattle.wy_vc_spec.specs.wy_sem.Operations.{is_index, item_at, set_item, found_field, find, set_field, or_null, Slot, ItemSlot, FieldSlot, part_at, with_part, updated}
use Rattle.wy_vc_spec.specs.Making.{num}
use Rattle.wy_vc_spec.specs.Operations as op
use Rattle.wy_vc_spec.specs.Statements.{Part, ElementOf, FieldOf, rebuilt}
use Rattle.wy_sound_terms.specs.operations.Updates.{LeadsItem, LeadsField, Leads, UpdatesAgree}
use Rattle.wy_sound_terms.proofs.operations_lemmas.DataLemmas.{with_nth_is}
use Rattle.wy_sound_terms.proofs.operations_lemmas.MadeLemmas.{number, datum, update_means, set_field_means}
use Rattle.wy_sound_terms.proofs.operations_lemmas.OperatorLemmas.{num_is}

-- ---- arrays

element_set : (names : Names) (v i w : Term) (ds : Data) (k : ℕ) (e : Datum) → datum names v ≡ Array ds → datum names i ≡ Whole (pos k) → datum names w ≡ e → datum names (op.with_element v i w) ≡ Array (set_item ds k e)
element_set names v i w ds k e ev ei ew =
    update_means names v (num i) w
    ∙ ap (λ (d : Datum). shapes.with_element d (number names (num i)) (datum names w)) ev
    ∙ ap (λ (z : ℤ). Array (shapes.with_item_at ds z (datum names w))) (num_is names i (pos k) ei)
    ∙ ap (λ (d : Datum). Array (shapes.with_nth ds k d)) ew
    ∙ ap Array (with_nth_is ds k e)

-- ---- records

first_below : (n : List ℕ) (ns : List (List ℕ)) → Rise (n ∷ ns) → Below n ns
unfolding IsStrictlySortedBy
first_below n ns rise = rise.0

rest_rise : (n : List ℕ) (ns : List (List ℕ)) → Rise (n ∷ ns) → Rise ns
unfolding IsStrictlySortedBy
rest_rise n ns rise = rise.1

not_greater : (a b : List ℕ) → slice_cmp nat_cmp a b ≡ Less → is_lt (slice_cmp nat_cmp b a) ≡ false
not_greater a b e = ap is_lt (nat_list_cmp_total.antisymm b a ∙ ap ordering_reverse e)

-- a name that is found behind a lesser one isn't before that
found_behind : (n name : List ℕ) (fs : Fields) (d : Datum) → Below n (names_of fs) → find fs name ≡ Some d → is_lt (slice_cmp nat_cmp name n) ≡ false
found_behind n name no_fields d b e = absurd cc
found_behind n name (field m x fs) d b e = by (bytes_eq m name) refl e (λ q. found_behind n name fs d b.1 q) where
  by : (c : Bool) → bytes_eq m name ≡ c → found_field c x (find fs name) ≡ Some d → (find fs name ≡ Some d → is_lt (slice_cmp nat_cmp name n) ≡ false) → is_lt (slice_cmp nat_cmp name n) ≡ false
  by true is q more = not_greater n name (subst (λ (y : List ℕ). slice_cmp nat_cmp n y ≡ Less) ((bytes_eq-Decides m name).0 is) b.0)
  by false is q more = more q

set_is : (fs : Fields) (name : List ℕ) (d v : Datum) → Rise (names_of fs) → find fs name ≡ Some d → shapes.with_field_of fs name v ≡ set_field fs name v
set_is no_fields name d v rise e = absurd cc
set_is (field n x fs) name d v rise e = by (bytes_eq n name) e (λ q. set_is fs name d v (rest_rise n (names_of fs) rise) q) where
  by : (c : Bool) → found_field c x (find fs name) ≡ Some d → (find fs name ≡ Some d → shapes.with_field_of fs name v ≡ set_field fs name v)
      → cond c (field n v fs) (cond (is_lt (slice_cmp nat_cmp name n)) (field name v (field n x fs)) (field n x (shapes.with_field_of fs name v))) ≡ cond c (field n v fs) (field n x (set_field fs name v))
  by true q more = refl
  by false q more =
      ap (λ (b : Bool). cond b (field name v (field n x fs)) (field n x (shapes.with_field_of fs name v))) (found_behind n name fs d (first_below n (names_of fs) rise) q)
      ∙ ap (field n x) (more q)

field_set : (names : Names) (name : List ℕ) (v w : Term) (fs : Fields) (d e : Datum) → datum names v ≡ Record fs → Rise (names_of fs) → find fs name ≡ Some d → datum names w ≡ e → datum names (op.with_field name v w) ≡ Record (set_field fs name e)
field_set names name v w fs d e ev rise found ew =
    set_field_means names name v w
    ∙ ap (λ (x : Datum). shapes.with_field x name (datum names w)) ev
    ∙ ap (λ (x : Datum). Record (shapes.with_field_of fs name x)) ew
    ∙ ap Record (set_is fs name d e rise found)

-- ---- paths

item_led : (names : Names) (whole i : Term) (k : ℕ) (d : Datum) (parts : List Part) (slots : List Slot) (v : Term) → LeadsItem names whole i k d (Leads names parts slots)
    → ((x : Datum) → Leads names parts slots x → datum names (rebuilt parts v) ≡ updated x slots (datum names v)) → datum names (op.with_element whole i (rebuilt parts v)) ≡ updated d (ItemSlot k ∷ slots) (datum names v)
item_led names whole i k (Array ds) parts slots v h more = element_set names whole i (rebuilt parts v) ds k (updated (item_at ds k) slots (datum names v)) h.0 h.1 (more (item_at ds k) h.3)
item_led names whole i k Null parts slots v h more = absurd h
item_led names whole i k (Truth b) parts slots v h more = absurd h
item_led names whole i k (Whole z) parts slots v h more = absurd h
item_led names whole i k (Record fs) parts slots v h more = absurd h

field_led : (names : Names) (whole : Term) (name : List ℕ) (d : Datum) (parts : List Part) (slots : List Slot) (v : Term) → LeadsField names whole name d (Leads names parts slots)
    → ((x : Datum) → Leads names parts slots x → datum names (rebuilt parts v) ≡ updated x slots (datum names v)) → datum names (op.with_field name whole (rebuilt parts v)) ≡ updated d (FieldSlot name ∷ slots) (datum names v)
field_led names whole name (Record fs) parts slots v h more =
    field_set names name whole (rebuilt parts v) fs h.2.0 (updated h.2.0 slots (datum names v)) h.0 h.1 h.2.1 (more h.2.0 h.2.2)
    ∙ ap (λ (o : Option Datum). Record (set_field fs name (updated (or_null o) slots (datum names v)))) (sym h.2.1)
field_led names whole name Null parts slots v h more = absurd h
field_led names whole name (Truth b) parts slots v h more = absurd h
field_led names whole name (Whole z) parts slots v h more = absurd h
field_led names whole name (Array ds) parts slots v h more = absurd h

pub updates_agree : UpdatesAgree
updates_agree names [] [] d v h = refl
updates_agree names [] (slot ∷ slots) d v h = absurd h
updates_agree names (part ∷ parts) [] d v h = absurd h
updates_agree names (ElementOf whole i ∷ parts) (ItemSlot k ∷ slots) d v h = item_led names whole i k d parts slots v h (λ x g. updates_agree names parts slots x v g)
updates_agree names (ElementOf whole i ∷ parts) (FieldSlot name ∷ slots) d v h = absurd h
updates_agree names (FieldOf name whole ∷ parts) (ItemSlot k ∷ slots) d v h = absurd h
updates_agree names (FieldOf name whole ∷ parts) (FieldSlot n ∷ slots) d v h =
    subst (λ (m : List ℕ). datum names (op.with_field name whole (rebuilt parts v)) ≡ updated d (FieldSlot m ∷ slots) (datum names v)) (sym h.0) (field_led names whole name d parts slots v h.1 (λ x g. updates_agree names parts slots x v g))
