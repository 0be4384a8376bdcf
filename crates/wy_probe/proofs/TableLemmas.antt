-- The tables of declared types have the candidates of each type.
use Rattle.std.proofs.Common.{◌≡◌, ◌≤◌, ◌<◌, ◌⊎◌, inl, inr, ◌+◌, ◌-◌, ℕ, zero, suc, List, [], ◌∷◌, map, take, length, refl, ap, sym, ◌∙◌, arith}
use Rattle.std.specs.Prelude.{slice_get}
use Rattle.std.proofs.lemmas.List.{length-map, take_all, take-take, take-map, take-append-le, length-take-le}
use Rattle.std.proofs.lemmas.Bool.{cases_lt}
use Rattle.wy_value.specs.Datum.{Datum, Record, Fields, field, no_fields}
use Rattle.wy_core.specs.Types.{Ty, NullTy, BoolTy, IntTy, AnyTy, VoidTy, RecordTy, ArrayTy, UnionTy, InterTy, NotTy, NamedTy, NormalTy, FieldTys, NoFieldTys, MoreFieldTys}
use Rattle.wy_types.specs.Names.{Declared}
use Rattle.wy_lemmas.proofs.Equations.{both_same}
use Rattle.wy_probe.specs.Candidates.{arrays, candidates, choices, few, joined, most, no_array, no_record, those_in, type_of, values_by, values_named, values_with, with_field}
use Rattle.wy_probe.specs.Tables.{Table, array_by, at, by_tables, deeper, next_table, no_lists, record_by, rounds, row_choices, tables_for}

-- ---- values that are known in two ways

-- where those of names, arrays and records agree, those of each type do
same_values : (names : List Declared) (n1 n2 : ℕ → List Datum) (a1 a2 : Ty → List Datum) (r1 r2 : FieldTys → List Datum)
    → ((n : ℕ) → n1 n ≡ n2 n) → ((t : Ty) → a1 t ≡ a2 t) → ((fs : FieldTys) → r1 fs ≡ r2 fs)
    → (t : Ty) → values_by names n1 a1 r1 t ≡ values_by names n2 a2 r2 t
same_values names n1 n2 a1 a2 r1 r2 hn ha hr NullTy = refl
same_values names n1 n2 a1 a2 r1 r2 hn ha hr BoolTy = refl
same_values names n1 n2 a1 a2 r1 r2 hn ha hr IntTy = refl
same_values names n1 n2 a1 a2 r1 r2 hn ha hr AnyTy = refl
same_values names n1 n2 a1 a2 r1 r2 hn ha hr VoidTy = refl
same_values names n1 n2 a1 a2 r1 r2 hn ha hr (RecordTy fields) = ap (take most) (hr fields)
same_values names n1 n2 a1 a2 r1 r2 hn ha hr (ArrayTy t) = ap (take most) (ha t)
same_values names n1 n2 a1 a2 r1 r2 hn ha hr (UnionTy s t) =
    both_same (λ x y. take most (joined x y)) _ _ _ _ (same_values names n1 n2 a1 a2 r1 r2 hn ha hr s) (same_values names n1 n2 a1 a2 r1 r2 hn ha hr t)
same_values names n1 n2 a1 a2 r1 r2 hn ha hr (InterTy s t) =
    both_same (λ x y. take most (those_in names (InterTy s t) (joined x y))) _ _ _ _ (same_values names n1 n2 a1 a2 r1 r2 hn ha hr s) (same_values names n1 n2 a1 a2 r1 r2 hn ha hr t)
same_values names n1 n2 a1 a2 r1 r2 hn ha hr (NotTy t) = refl
same_values names n1 n2 a1 a2 r1 r2 hn ha hr (NamedTy n) = hn n
same_values names n1 n2 a1 a2 r1 r2 hn ha hr (NormalTy union) = refl

same_named : (names : List Declared) (a1 a2 : Ty → List Datum) (r1 r2 : FieldTys → List Datum)
    → ((t : Ty) → a1 t ≡ a2 t) → ((fs : FieldTys) → r1 fs ≡ r2 fs)
    → (j n : ℕ) → values_named names a1 r1 j n ≡ values_named names a2 r2 j n
same_named names a1 a2 r1 r2 ha hr zero n = refl
same_named names a1 a2 r1 r2 ha hr (suc j) n =
    same_values names (values_named names a1 r1 j) (values_named names a2 r2 j) a1 a2 r1 r2 (same_named names a1 a2 r1 r2 ha hr j) ha hr (type_of (slice_get names n))

same_choices : (v w : Ty → List Datum) → ((t : Ty) → v t ≡ w t) → (fs : FieldTys) → choices v fs ≡ choices w fs
same_choices v w h NoFieldTys = refl
same_choices v w h (MoreFieldTys name t fields) =
    both_same (λ x y. with_field name (take few x) y) _ _ _ _ (h t) (same_choices v w h fields)

-- ---- rounds

no_list_at : (ds : List Declared) (n : ℕ) → at (no_lists ds) n ≡ []
no_list_at [] n = refl
no_list_at (d ∷ ds) zero = refl
no_list_at (d ∷ ds) (suc n) = no_list_at ds n

round_at : (names types : List Declared) (lower : List Table) (table : Table) (n : ℕ)
    → at (tables_for types names lower table) n ≡ by_tables names table lower (type_of (slice_get types n))
round_at names [] lower table n = refl
round_at names (d ∷ ds) lower table zero = refl
round_at names (d ∷ ds) lower table (suc n) = round_at names ds lower table n

-- after so many rounds each name has what it has where so many names may follow on one another
named_by_rounds : (names : List Declared) (lower : List Table) (j n : ℕ)
    → at (rounds names lower j) n ≡ values_named names (array_by names lower) (record_by names lower) j n
named_by_rounds names lower zero n = no_list_at names n
named_by_rounds names lower (suc j) n =
    round_at names names lower (rounds names lower j) n
    ∙ same_values names (at (rounds names lower j)) (values_named names (array_by names lower) (record_by names lower) j) (array_by names lower) (array_by names lower) (record_by names lower) (record_by names lower)
    (named_by_rounds names lower j) (λ t. refl) (λ fs. refl) (type_of (slice_get names n))

-- ---- depths

-- the tables below this depth
abbrev pub down : List Declared → ℕ → List Table
down names zero = []
down names (suc depth) = deeper names (down names depth)

with_lower : (names : List Declared) (lower : List Table) (a : Ty → List Datum) (r : FieldTys → List Datum)
    → ((t : Ty) → array_by names lower t ≡ a t) → ((fs : FieldTys) → record_by names lower fs ≡ r fs)
    → (t : Ty) → by_tables names (rounds names lower (suc (length names))) lower t ≡ values_with names a r t
with_lower names lower a r ha hr t =
    same_values names (at (rounds names lower (suc (length names)))) (values_named names a r (suc (length names))) (array_by names lower) a (record_by names lower) r
    (λ n. named_by_rounds names lower (suc (length names)) n ∙ same_named names (array_by names lower) a (record_by names lower) r ha hr (suc (length names)) n) ha hr t

-- the tables of a depth give the candidates of each type
pub candidates_by_tables : (names : List Declared) (depth : ℕ) (t : Ty)
    → by_tables names (rounds names (down names depth) (suc (length names))) (down names depth) t ≡ candidates names depth t
candidates_by_tables names zero t = with_lower names [] no_array no_record (λ u. refl) (λ fs. refl) t
candidates_by_tables names (suc depth) t =
    with_lower names (down names (suc depth)) (λ u. arrays (candidates names depth u)) (λ fields. map (λ fs. Record fs) (choices (candidates names depth) fields))
    (λ u. ap arrays (candidates_by_tables names depth u))
    (λ fields. ap (map (λ fs. Record fs)) (same_choices (by_tables names (rounds names (down names depth) (suc (length names))) (down names depth)) (candidates names depth) (candidates_by_tables names depth) fields)) t

-- ---- one cut of all choices

cut_field_by : (name : List ℕ) (d : Datum) (ds : List Datum) (rows : List Fields) → (most < length rows) ⊎ (length rows ≤ most)
    → take most (with_field name (d ∷ ds) (take most rows)) ≡ take most (with_field name (d ∷ ds) rows)
cut_field_by name d ds rows (inl h) =
    let f : Fields → Fields = field name d in
    let cut = take most rows in
    let long : length (map f cut) ≡ most = length-map cut f ∙ length-take-le most rows (omega arith) in
    let longer : length (map f rows) ≡ length rows = length-map rows f in
    take-append-le most (map f cut) (with_field name ds cut) (omega arith)
    ∙ (take-map f most cut
    ∙ (ap (map f) (take-take most most rows (omega arith))
    ∙ (sym (take-map f most rows)
    ∙ sym (take-append-le most (map f rows) (with_field name ds rows) (omega arith)))))
cut_field_by name d ds rows (inr h) = ap (λ r. take most (with_field name (d ∷ ds) r)) (take_all most rows h)

-- the first choices of the rest are enough
cut_field : (name : List ℕ) (ds : List Datum) (rows : List Fields) → take most (with_field name ds (take most rows)) ≡ take most (with_field name ds rows)
cut_field name [] rows = refl
cut_field name (d ∷ ds) rows = cut_field_by name d ds rows (cases_lt most (length rows))

-- where rows are cut at each field, they are the first of all choices
pub cut_choices : (v : Ty → List Datum) (fs : FieldTys) → row_choices v fs ≡ take most (choices v fs)
cut_choices v NoFieldTys = sym (take_all most (no_fields ∷ []) (omega arith))
cut_choices v (MoreFieldTys name t fields) =
    ap (λ r. take most (with_field name (take few (v t)) r)) (cut_choices v fields) ∙ cut_field name (take few (v t)) (choices v fields)

pub cut_records : (v : Ty → List Datum) (fs : FieldTys) → take most (map (λ r. Record r) (row_choices v fs)) ≡ take most (map (λ r. Record r) (choices v fs))
cut_records v fs =
    take-map (λ r. Record r) most (row_choices v fs)
    ∙ (ap (λ rows. map (λ r. Record r) (take most rows)) (cut_choices v fs)
    ∙ (ap (map (λ r. Record r)) (take-take most most (choices v fs) (omega arith)) ∙ sym (take-map (λ r. Record r) most (choices v fs))))

-- ---- rounds that change nothing

steady : (names : List Declared) (lower : List Table) (k m n : ℕ) (table : Table) → n ≡ k + m → table ≡ rounds names lower k → next_table names lower table ≡ table
    → table ≡ rounds names lower n
steady names lower k zero n table e is same = let here : k ≡ n = omega arith in is ∙ ap (rounds names lower) here
steady names lower k (suc m) zero table e is same = absurd (omega arith)
steady names lower k (suc m) (suc n) table e is same = sym same ∙ ap (next_table names lower) (steady names lower k m n table (omega arith) is same)

-- a table that a round doesn't change is that of each later round
pub settled_at : (names : List Declared) (lower : List Table) (k n : ℕ) (table : Table) → k ≤ n → table ≡ rounds names lower k → next_table names lower table ≡ table
    → table ≡ rounds names lower n
settled_at names lower k n table h is same = steady names lower k (n - k) n table (omega arith) is same
