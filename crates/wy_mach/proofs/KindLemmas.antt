-- The instruction `Kind`.
use Rattle.std.proofs.Common.{◌≡◌, ℕ, zero, suc, ◌<◌, ◌≤◌, List, [], ◌∷◌, length, get_or, set, slice_get, Bool, true, false, cond, nat_eq, nat_lt, Option, Some, None, refl, sym, ◌∙◌, ap, subst, arith}
use Rattle.std.specs.Prelude.{bytes_eq}
use Rattle.std.proofs.lemmas.Bool.Decides.{nat_tests}
use Rattle.std.proofs.lemmas.Option.{slice_get_within, get_or_from_slice_get}
use Rattle.std.proofs.lemmas.Slice.Eq.{bytes_eq-Decides}
use Rattle.wy_lemmas.proofs.Choices.{both_parts as both, same_test as test_of, both_true as joined_true}
use Rattle.wy_lemmas.proofs.Lists.{same_bytes as one_list}
use Rattle.wy_value.specs.Datum.{Datum, Null, Truth, Whole, Array, Record, Fields, no_fields, field}
use Rattle.wy_value.specs.Values.{names_of}
use Rattle.wy_value.specs.Shapes.{AreApart, IsShapes, named}
use Rattle.wy_value.specs.declared.shapes.Shapes.{Shapes}
use Rattle.wy_heap.specs.declared.part.Part.{Part}
use Rattle.wy_heap.specs.declared.part.Part.TheVariants as part
use Rattle.wy_heap.specs.declared.part.Kind as kind
use Rattle.wy_heap.specs.declared.heap.Heap.{Heap}
use Rattle.wy_heap.specs.Nodes.{map_of, holds}
use Rattle.wy_heap.specs.Meaning.{Means}
use Rattle.wy_heap.specs.Parts.{IsKind}
use Rattle.wy_heap.specs.Extending.{Extends}
use Rattle.wy_heap.proofs.SlotLemmas.{apart_same}
use Rattle.wy_heap.proofs.CompareLemmas.{numbers_in}
use Rattle.wy_code.specs.declared.instructions.Kind as asked
use Rattle.wy_code.specs.declared.instructions.Kind.TheVariants as ask
use Rattle.wy_sem.specs.Expressions.{slot}
use Rattle.wy_code_spec.specs.step.Step.{Effect, Fails, there, gives, kind_answer, names_in, has_names, is_record}
use Rattle.wy_mach.specs.Showing.{Leaves, WentOn, HasNone, AreRegisters, Puts}
use Rattle.wy_mach.specs.Kinds.{is_null_kind, is_bool_kind, is_int_kind, is_array_kind, is_shape_kind, kind_told}
use Rattle.wy_mach.proofs.EffectLemmas.{by_there}
use Rattle.wy_mach.proofs.RegisterLemmas.{shows_slot, slot_within}
use Rattle.wy_mach.proofs.NumberLemmas.{scalar_leaves}
use Rattle.wy_mach.proofs.RecordLemmas.{names_same}

-- ---- names

has_all : (fs : Fields) (names : List (List ℕ)) → has_names fs names ≡ true → names_of fs ≡ names
has_all no_fields [] h = refl
has_all no_fields (m ∷ ms) h = absurd (cc)
has_all (field n d fs) [] h = absurd (cc)
has_all (field n d fs) (m ∷ ms) h =
    let two = both (bytes_eq n m) (has_names fs ms) h in
    let first : n ≡ m = (bytes_eq-Decides n m).0 two.0 in
    let rest : names_of fs ≡ ms = has_all fs ms two.1 in
    cc

has_own : (fs : Fields) → has_names fs (names_of fs) ≡ true
has_own no_fields = refl
has_own (field n d fs) = joined_true (bytes_eq n n) (has_names fs (names_of fs)) ((bytes_eq-Decides n n).1 refl) (has_own fs)

named_once : (names : List (List ℕ)) (xs ys : List ℕ) → AreApart names → ((k : ℕ) → k < length xs → get_or xs k 0 < length names) → ((k : ℕ) → k < length ys → get_or ys k 0 < length names) → named names xs ≡ named names ys → xs ≡ ys
named_once names [] [] apart first second same = refl
named_once names [] (y ∷ ys) apart first second same = absurd (cc)
named_once names (x ∷ xs) [] apart first second same = absurd (cc)
named_once names (x ∷ xs) (y ∷ ys) apart first second same =
    let head : get_or names x [] ≡ get_or names y [] = cc in
    let tail : named names xs ≡ named names ys = cc in
    let one = apart_same names y x apart (second 0 (omega arith)) (first 0 (omega arith)) head in
    let rest = named_once names xs ys apart (λ k below. first (suc k) (omega arith)) (λ k below. second (suc k) (omega arith)) tail in
    cc

-- two lists of the same names have one number
one_shape : (t : Shapes) (n k : ℕ) (xs ys : List ℕ) → IsShapes t → slice_get t.lists n ≡ Some xs → slice_get t.lists k ≡ Some ys → named t.names xs ≡ named t.names ys → n ≡ k
one_shape t n k xs ys table first second same =
    let lists : xs ≡ ys = named_once t.names xs ys table.names_apart (numbers_in t n xs table first) (numbers_in t k ys table second) same in
    let here : get_or t.lists n [] ≡ get_or t.lists k [] = get_or_from_slice_get t.lists n xs [] first ∙ lists ∙ sym (get_or_from_slice_get t.lists k ys [] second) in
    apart_same t.lists k n table.lists_apart (slice_get_within t.lists k ys second) (slice_get_within t.lists n xs first) here

-- whether a record is of the shape
shape_test : (t u : Shapes) (n k : ℕ) (fs : Fields) (list found : List ℕ) → IsShapes t → IsShapes u → Extends t u → slice_get u.lists n ≡ Some list → named u.names list ≡ names_of fs → slice_get t.lists k ≡ Some found → has_names fs (named t.names found) ≡ nat_eq n k
shape_test t u n k fs list found table tables extends is_list names is_found =
    let same : named u.names found ≡ named t.names found = names_same t u k found table extends is_found in
    test_of (has_names fs (named t.names found)) (nat_eq n k)
    (λ has.
    let e : n ≡ k = one_shape u n k list found tables is_list (extends.lists k found is_found) (names ∙ has_all fs (named t.names found) has ∙ sym same) in
    grind (arith, nat_tests, e))
    (λ equal.
    let e : n ≡ k = grind (arith, nat_tests, equal) in
    let lists : list ≡ found = one_list list found (sym is_list ∙ ap (slice_get u.lists) e ∙ extends.lists k found is_found) in
    let own : names_of fs ≡ named t.names found = sym names ∙ ap (named u.names) lists ∙ same in
    subst (λ (ns : List (List ℕ)). has_names fs ns ≡ true) own (has_own fs))

some_list : (lists : List (List ℕ)) (k : ℕ) → k < length lists → (found : List ℕ) × (slice_get lists k ≡ Some found)
some_list [] k below = absurd (omega arith)
some_list (x ∷ xs) zero below = (x, refl)
some_list (x ∷ xs) (suc k) below = some_list xs k (omega arith)

no_list : (lists : List (List ℕ)) (k : ℕ) → length lists ≤ k → slice_get lists k ≡ None
no_list [] k beyond = refl
no_list (x ∷ xs) zero beyond = absurd (omega arith)
no_list (x ∷ xs) (suc k) beyond = no_list xs k (omega arith)

record_test : (t u : Shapes) (k : ℕ) (found : List ℕ) (d : Datum) (kd : kind.Kind) → IsShapes t → IsShapes u → Extends t u → IsKind u d kd → slice_get t.lists k ≡ Some found → is_record (named t.names found) d ≡ is_shape_kind k kd
record_test t u k found Null kd table tables extends of is_found = sym (ap (is_shape_kind k) of)
record_test t u k found (Truth b) kd table tables extends of is_found = sym (ap (is_shape_kind k) of)
record_test t u k found (Whole z) kd table tables extends of is_found = sym (ap (is_shape_kind k) of)
record_test t u k found (Array ds) kd table tables extends of is_found = sym (ap (is_shape_kind k) of)
record_test t u k found (Record fs) kd table tables extends of is_found =
    shape_test t u of.0 k fs of.2 found table tables extends of.3 of.4 is_found ∙ sym (ap (is_shape_kind k) of.1)

shape_told : (t u : Shapes) (k : ℕ) (d : Datum) (kd : kind.Kind) (next : Bool → Effect) → IsShapes t → IsShapes u → Extends t u → IsKind u d kd → (b : Bool) → nat_lt k (length t.lists) ≡ b → kind_answer t (ask.Shape k) d next ≡ there (cond b (Some (is_shape_kind k kd)) None) next
shape_told t u k d kd next table tables extends of true below =
    let there_is = some_list t.lists k (grind (arith, nat_tests, below)) in
    ap (λ (o : Option (List ℕ)). there (names_in t.names o) (λ names. next (is_record names d))) there_is.1
    ∙ ap next (record_test t u k there_is.0 d kd table tables extends of there_is.1)
shape_told t u k d kd next table tables extends of false below =
    ap (λ (o : Option (List ℕ)). there (names_in t.names o) (λ names. next (is_record names d))) (no_list t.lists k (grind (arith, nat_tests, below)))

-- the answer on a datum is that on its kind
answer_told : (t u : Shapes) (a : asked.Kind) (d : Datum) (kd : kind.Kind) (next : Bool → Effect) → IsShapes t → IsShapes u → Extends t u → IsKind u d kd → kind_answer t a d next ≡ there (kind_told t kd a) next
answer_told t u ask.Null Null kd next table tables extends of = sym (ap (λ (x : kind.Kind). next (is_null_kind x)) of)
answer_told t u ask.Null (Truth b) kd next table tables extends of = sym (ap (λ (x : kind.Kind). next (is_null_kind x)) of)
answer_told t u ask.Null (Whole z) kd next table tables extends of = sym (ap (λ (x : kind.Kind). next (is_null_kind x)) of)
answer_told t u ask.Null (Array ds) kd next table tables extends of = sym (ap (λ (x : kind.Kind). next (is_null_kind x)) of)
answer_told t u ask.Null (Record fs) kd next table tables extends of = sym (ap (λ (x : kind.Kind). next (is_null_kind x)) of.1)
answer_told t u ask.Bool Null kd next table tables extends of = sym (ap (λ (x : kind.Kind). next (is_bool_kind x)) of)
answer_told t u ask.Bool (Truth b) kd next table tables extends of = sym (ap (λ (x : kind.Kind). next (is_bool_kind x)) of)
answer_told t u ask.Bool (Whole z) kd next table tables extends of = sym (ap (λ (x : kind.Kind). next (is_bool_kind x)) of)
answer_told t u ask.Bool (Array ds) kd next table tables extends of = sym (ap (λ (x : kind.Kind). next (is_bool_kind x)) of)
answer_told t u ask.Bool (Record fs) kd next table tables extends of = sym (ap (λ (x : kind.Kind). next (is_bool_kind x)) of.1)
answer_told t u ask.Int Null kd next table tables extends of = sym (ap (λ (x : kind.Kind). next (is_int_kind x)) of)
answer_told t u ask.Int (Truth b) kd next table tables extends of = sym (ap (λ (x : kind.Kind). next (is_int_kind x)) of)
answer_told t u ask.Int (Whole z) kd next table tables extends of = sym (ap (λ (x : kind.Kind). next (is_int_kind x)) of)
answer_told t u ask.Int (Array ds) kd next table tables extends of = sym (ap (λ (x : kind.Kind). next (is_int_kind x)) of)
answer_told t u ask.Int (Record fs) kd next table tables extends of = sym (ap (λ (x : kind.Kind). next (is_int_kind x)) of.1)
answer_told t u ask.Array Null kd next table tables extends of = sym (ap (λ (x : kind.Kind). next (is_array_kind x)) of)
answer_told t u ask.Array (Truth b) kd next table tables extends of = sym (ap (λ (x : kind.Kind). next (is_array_kind x)) of)
answer_told t u ask.Array (Whole z) kd next table tables extends of = sym (ap (λ (x : kind.Kind). next (is_array_kind x)) of)
answer_told t u ask.Array (Array ds) kd next table tables extends of = sym (ap (λ (x : kind.Kind). next (is_array_kind x)) of)
answer_told t u ask.Array (Record fs) kd next table tables extends of = sym (ap (λ (x : kind.Kind). next (is_array_kind x)) of.1)
answer_told t u (ask.Shape k) d kd next table tables extends of = shape_told t u k d kd next table tables extends of (nat_lt k (length t.lists)) refl

-- ---- the instruction

pub kind_goes : (h n : Heap) (ps qs : List Part) (t : Shapes) (to from : ℕ) (a : asked.Kind) (kd : kind.Kind) (answer : Bool) (p : Part) → AreRegisters h ps → IsShapes t → IsShapes h.shapes → Extends t h.shapes → ((d : Datum) → Means (map_of h) d (get_or ps from part.Null) → IsKind h.shapes d kd) → kind_told t kd a ≡ Some answer → p ≡ part.Bool answer → Puts h n ps p qs → qs ≡ set ps to p
    → WentOn (map_of h) (map_of n) ps qs (λ s. there (slot s from) (λ v. kind_answer t a v (λ b. gives s to (Truth b))))
kind_goes h n ps qs t to from a kd answer p held table tables extends of told value puts after s shows =
    by_there (Leaves (map_of n) qs []) (slot s from) (λ v. kind_answer t a v (λ b. gives s to (Truth b))) tt
    (λ v holds_v.
    scalar_leaves h n s ps qs to (Truth answer) p (kind_answer t a v (λ b. gives s to (Truth b)))
    (answer_told t h.shapes a v kd (λ b. gives s to (Truth b)) table tables extends (of v (shows_slot (map_of h) s ps from v shows holds_v))
    ∙ ap (λ (o : Option Bool). there o (λ b. gives s to (Truth b))) told)
    held (λ k. ap (holds k) value) puts after shows value)

pub kind_none : (h : Heap) (ps : List Part) (t : Shapes) (to from : ℕ) (a : asked.Kind) (kd : kind.Kind) → IsShapes t → IsShapes h.shapes → Extends t h.shapes → ((d : Datum) → Means (map_of h) d (get_or ps from part.Null) → IsKind h.shapes d kd) → kind_told t kd a ≡ None
    → HasNone (map_of h) ps (λ s. there (slot s from) (λ v. kind_answer t a v (λ b. gives s to (Truth b))))
kind_none h ps t to from a kd table tables extends of told s shows =
    by_there (λ (e : Effect). e ≡ Fails) (slot s from) (λ v. kind_answer t a v (λ b. gives s to (Truth b))) refl
    (λ v holds_v.
    answer_told t h.shapes a v kd (λ b. gives s to (Truth b)) table tables extends (of v (shows_slot (map_of h) s ps from v shows holds_v))
    ∙ ap (λ (o : Option Bool). there o (λ b. gives s to (Truth b))) told)

pub kind_beyond : (h : Heap) (ps : List Part) (t : Shapes) (to from : ℕ) (a : asked.Kind) → length ps ≤ from
    → HasNone (map_of h) ps (λ s. there (slot s from) (λ v. kind_answer t a v (λ b. gives s to (Truth b))))
kind_beyond h ps t to from a beyond s shows =
    by_there (λ (e : Effect). e ≡ Fails) (slot s from) (λ v. kind_answer t a v (λ b. gives s to (Truth b))) refl
    (λ v holds_v. absurd (omega (arith, slot_within (map_of h) s ps from v shows holds_v)))
