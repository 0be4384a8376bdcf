-- Turns of loops: where what is left leads, the whole leads.
use Rattle.std.proofs.Common.{◌≡◌, ◌≢◌, ℕ, ◌+◌, ◌<◌, ◌≤◌, ℤ, pos, ◌+ℤ◌, Bool, true, false, List, [], ◌∷◌, ◌++◌, map, length, drop, get_or, refl, sym, ap, ◌∙◌, append_assoc}
use Rattle.std.specs.Prelude.{int_lt}
use Rattle.std.proofs.lemmas.List.{drop_all, map_push}
use Rattle.wy_lemmas.proofs.Lists.{next_of as next_item, none_behind as append_nothing}
use Rattle.wy_sem.proofs.SharedLemmas.{span_more}
use Rattle.wy_value.specs.Datum.{Datum, Null, Truth, Whole, Array, Record, Fields, no_fields, field}
use Rattle.wy_value.specs.Grammar.{Entry}
use Rattle.wy_value.specs.declared.value.Value.{Value}
use Rattle.wy_value.specs.Seen.{seen}
use Rattle.wy_core.specs.CoreSeen.{field_tys_of, seen_expr, seen_exprs, seen_fields, seen_ty}
use Rattle.wy_core.specs.declared.types.Ty as t
use Rattle.wy_core.specs.CoreTree.{exprs_of}
use Rattle.wy_core.specs.declared.expressions.Expr.{Expr}
use Rattle.wy_core.specs.Types.{Ty, FieldTys, NoFieldTys}
use Rattle.wy_term.specs.declared.cond.CondKind.TheVariants.{Member}
use Rattle.wy_sem.specs.Meter.{Meter, Outcome, Done, Fault, More, Spent, Run, ◌>>=◌, choose}
use Rattle.wy_sem.specs.Operations.{agrees, as_truth}
use Rattle.wy_sem.specs.Expressions.{Store, Setting, eval, eval_all, eval_fields, node, each, span}
use Rattle.wy_sem.specs.TypeTests.{Test, Questions, all_hold, answer, items_tested, parts_tested, tested, is_truth}
use Rattle.wy_eval_exprs.specs.declared.stop.Stop.{Stop}
use Rattle.wy_eval_exprs.specs.declared.stop.Stop.TheVariants as stop
use Rattle.wy_eval_exprs.specs.Operands.{items_of, parts_of}
use Rattle.wy_eval_exprs.proofs.OperandLemmas.{not_truth}
use Rattle.wy_eval_exprs.specs.Settings.{asked_by}
use Rattle.wy_eval_exprs.specs.Outcomes.{stopped}
use Rattle.wy_eval_exprs.proofs.StepLemmas.{then_is, then_stops_plain}

-- ---- expressions

abbrev pub ValuesLeft : Setting ℕ → Bool → Store → List Expr → Meter → List Value → Meter → List Expr → Type 0
ValuesLeft w paid s all m made now left = eval_all w paid (exprs_of (seen_exprs all)) s m ≡ (eval_all w paid (exprs_of (seen_exprs left)) s now >>= (λ us. Done (map seen made ++ us)))

one_more_value : (o : Outcome (List Datum)) (made : List Datum) (v : Datum) → ((o >>= (λ vs. Done (v ∷ vs))) >>= (λ us. Done (made ++ us))) ≡ (o >>= (λ us. Done ((made ++ v ∷ []) ++ us)))
one_more_value (Done vs k) made v = ap (λ l. Done l k) (sym (append_assoc made (v ∷ []) vs))
one_more_value (Fault kind at k) made v = refl
one_more_value (More k) made v = refl
one_more_value Spent made v = refl

begins : (o : Outcome (List Datum)) → o ≡ (o >>= (λ us. Done ([] ++ us)))
begins (Done vs k) = refl
begins (Fault kind at k) = refl
begins (More k) = refl
begins Spent = refl

pub values_begin : (w : Setting ℕ) (paid : Bool) (s : Store) (all : List Expr) (m : Meter) (made : List Value) → made ≡ [] → ValuesLeft w paid s all m made m all
values_begin w paid s all m made none = begins (eval_all w paid (exprs_of (seen_exprs all)) s m) ∙ ap (λ l. eval_all w paid (exprs_of (seen_exprs all)) s m >>= (λ us. Done (map seen l ++ us))) (sym none)

pub values_turn : (w : Setting ℕ) (paid : Bool) (s : Store) (all : List Expr) (m : Meter) (made made2 : List Value) (now k : Meter) (i : ℕ) (e : Expr) (v : Value)
    → i < length all → e ≡ get_or all i e → eval w paid (seen_expr e) s now ≡ Done (seen v) k → made2 ≡ made ++ v ∷ [] → ValuesLeft w paid s all m made now (drop i all) → ValuesLeft w paid s all m made2 k (drop (i + 1) all)
values_turn w paid s all m made made2 now k i e v within is given pushed before =
    let rest = eval_all w paid (exprs_of (seen_exprs (drop (i + 1) all))) s in
    let whole : eval_all w paid (exprs_of (seen_exprs (drop i all))) s now ≡ (rest k >>= (λ vs. Done (seen v ∷ vs))) =
    ap (λ l. eval_all w paid (exprs_of (seen_exprs l)) s now) (next_item all i e within is) ∙ then_is (eval w paid (seen_expr e) s now) (λ x n. rest n >>= (λ vs. Done (x ∷ vs))) (seen v) k given in
    before ∙ (ap (λ o. o >>= (λ us. Done (map seen made ++ us))) whole
    ∙ (one_more_value (rest k) (map seen made) (seen v) ∙ ap (λ l. rest k >>= (λ us. Done (l ++ us))) (sym (ap (map seen) pushed ∙ map_push seen made v))))

pub values_refused : (w : Setting ℕ) (paid : Bool) (s : Store) (all : List Expr) (m : Meter) (made : List Value) (now k : Meter) (i : ℕ) (e : Expr) (f : Stop)
    → i < length all → e ≡ get_or all i e → (f ≢ stop.NoMemory → eval w paid (seen_expr e) s now ≡ stopped f k) → ValuesLeft w paid s all m made now (drop i all) → f ≢ stop.NoMemory → eval_all w paid (exprs_of (seen_exprs all)) s m ≡ stopped f k
values_refused w paid s all m made now k i e f within is h before none =
    let rest = eval_all w paid (exprs_of (seen_exprs (drop (i + 1) all))) s in
    before
    ∙ (ap (λ l. eval_all w paid (exprs_of (seen_exprs l)) s now >>= (λ us. Done (map seen made ++ us))) (next_item all i e within is)
    ∙ then_stops_plain (eval w paid (seen_expr e) s now >>= (λ x n. rest n >>= (λ vs. Done (x ∷ vs)))) (λ us. Done (map seen made ++ us)) k f
    (λ none. then_stops_plain (eval w paid (seen_expr e) s now) (λ x n. rest n >>= (λ vs. Done (x ∷ vs))) k f h none) none)

pub values_end : (w : Setting ℕ) (paid : Bool) (s : Store) (all : List Expr) (m : Meter) (made : List Value) (now : Meter) (i : ℕ)
    → length all ≤ i → ValuesLeft w paid s all m made now (drop i all) → eval_all w paid (exprs_of (seen_exprs all)) s m ≡ Done (map seen made) now
values_end w paid s all m made now i past before =
    before ∙ (ap (λ l. eval_all w paid (exprs_of (seen_exprs l)) s now >>= (λ us. Done (map seen made ++ us))) (drop_all i all past) ∙ ap (λ l. Done l now) (append_nothing (map seen made)))

-- ---- fields

-- the one fields and then the others
abbrev pub join : Fields → Fields → Fields
join no_fields us = us
join (field n d fs) us = field n d (join fs us)

join_nothing : (fs : Fields) → join fs no_fields ≡ fs
join_nothing no_fields = refl
join_nothing (field n d fs) = ap (λ x. field n d x) (join_nothing fs)

join_more : (fs : List (List ℕ × Value)) (n : List ℕ) (v : Value) (us : Fields) → join (parts_of fs) (field n (seen v) us) ≡ join (parts_of (fs ++ (n, v) ∷ [])) us
join_more [] n v us = refl
join_more (f ∷ fs) n v us = ap (λ x. field f.0 (seen f.1) x) (join_more fs n v us)

abbrev pub FieldsLeft : Setting ℕ → Bool → Store → List (List ℕ × Expr) → Meter → List (List ℕ × Value) → Meter → List (List ℕ × Expr) → Type 0
FieldsLeft w paid s all m made now left = eval_fields w paid (seen_fields all) s m ≡ (eval_fields w paid (seen_fields left) s now >>= (λ us. Done (join (parts_of made) us)))

one_more_field : (o : Outcome Fields) (made : List (List ℕ × Value)) (n : List ℕ) (v : Value) → ((o >>= (λ ds. Done (field n (seen v) ds))) >>= (λ us. Done (join (parts_of made) us))) ≡ (o >>= (λ us. Done (join (parts_of (made ++ (n, v) ∷ [])) us)))
one_more_field (Done ds k) made n v = ap (λ l. Done l k) (join_more made n v ds)
one_more_field (Fault kind at k) made n v = refl
one_more_field (More k) made n v = refl
one_more_field Spent made n v = refl

begins_fields : (o : Outcome Fields) → o ≡ (o >>= (λ us. Done us))
begins_fields (Done vs k) = refl
begins_fields (Fault kind at k) = refl
begins_fields (More k) = refl
begins_fields Spent = refl

pub fields_begin : (w : Setting ℕ) (paid : Bool) (s : Store) (all : List (List ℕ × Expr)) (m : Meter) (made : List (List ℕ × Value)) → made ≡ [] → FieldsLeft w paid s all m made m all
fields_begin w paid s all m made none = begins_fields (eval_fields w paid (seen_fields all) s m) ∙ ap (λ l. eval_fields w paid (seen_fields all) s m >>= (λ us. Done (join (parts_of l) us))) (sym none)

pub fields_turn : (w : Setting ℕ) (paid : Bool) (s : Store) (all : List (List ℕ × Expr)) (m : Meter) (made made2 : List (List ℕ × Value)) (now k : Meter) (i : ℕ) (f : List ℕ × Expr) (n : List ℕ) (v : Value)
    → i < length all → f ≡ get_or all i f → eval w paid (seen_expr f.1) s now ≡ Done (seen v) k → n ≡ f.0 → made2 ≡ made ++ (n, v) ∷ [] → FieldsLeft w paid s all m made now (drop i all) → FieldsLeft w paid s all m made2 k (drop (i + 1) all)
fields_turn w paid s all m made made2 now k i f n v within is given named pushed before =
    let rest = eval_fields w paid (seen_fields (drop (i + 1) all)) s in
    let whole : eval_fields w paid (seen_fields (drop i all)) s now ≡ (rest k >>= (λ ds. Done (field n (seen v) ds))) =
    ap (λ l. eval_fields w paid (seen_fields l) s now) (next_item all i f within is)
    ∙ (then_is (eval w paid (seen_expr f.1) s now) (λ x j. rest j >>= (λ ds. Done (field f.0 x ds))) (seen v) k given ∙ ap (λ l. rest k >>= (λ ds. Done (field l (seen v) ds))) (sym named)) in
    before ∙ (ap (λ o. o >>= (λ us. Done (join (parts_of made) us))) whole
    ∙ (one_more_field (rest k) made n v ∙ ap (λ l. rest k >>= (λ us. Done (join (parts_of l) us))) (sym pushed)))

pub fields_refused : (w : Setting ℕ) (paid : Bool) (s : Store) (all : List (List ℕ × Expr)) (m : Meter) (made : List (List ℕ × Value)) (now k : Meter) (i : ℕ) (f : List ℕ × Expr) (e : Stop)
    → i < length all → f ≡ get_or all i f → (e ≢ stop.NoMemory → eval w paid (seen_expr f.1) s now ≡ stopped e k) → FieldsLeft w paid s all m made now (drop i all) → e ≢ stop.NoMemory → eval_fields w paid (seen_fields all) s m ≡ stopped e k
fields_refused w paid s all m made now k i f e within is h before none =
    let rest = eval_fields w paid (seen_fields (drop (i + 1) all)) s in
    before
    ∙ (ap (λ l. eval_fields w paid (seen_fields l) s now >>= (λ us. Done (join (parts_of made) us))) (next_item all i f within is)
    ∙ then_stops_plain (eval w paid (seen_expr f.1) s now >>= (λ x n. rest n >>= (λ ds. Done (field f.0 x ds)))) (λ us. Done (join (parts_of made) us)) k e
    (λ none. then_stops_plain (eval w paid (seen_expr f.1) s now) (λ x n. rest n >>= (λ ds. Done (field f.0 x ds))) k e h none) none)

pub fields_end : (w : Setting ℕ) (paid : Bool) (s : Store) (all : List (List ℕ × Expr)) (m : Meter) (made : List (List ℕ × Value)) (now : Meter) (i : ℕ)
    → length all ≤ i → FieldsLeft w paid s all m made now (drop i all) → eval_fields w paid (seen_fields all) s m ≡ Done (parts_of made) now
fields_end w paid s all m made now i past before =
    before ∙ (ap (λ l. eval_fields w paid (seen_fields l) s now >>= (λ us. Done (join (parts_of made) us))) (drop_all i all past) ∙ ap (λ l. Done l now) (join_nothing (parts_of made)))

-- ---- clauses of a type

abbrev pub HoldLeft : Setting ℕ → Bool → Store → List Expr → Meter → Meter → List Expr → Type 0
HoldLeft w paid s all m now left = all_hold w paid (seen_exprs all) s m ≡ all_hold w paid (seen_exprs left) s now

pub hold_refused : (w : Setting ℕ) (paid : Bool) (s : Store) (all : List Expr) (m now k : Meter) (i : ℕ) (e : Expr) (f : Stop)
    → i < length all → e ≡ get_or all i e → (f ≢ stop.NoMemory → eval w paid (seen_expr e) s now ≡ stopped f k) → HoldLeft w paid s all m now (drop i all) → f ≢ stop.NoMemory → all_hold w paid (seen_exprs all) s m ≡ stopped f k
hold_refused w paid s all m now k i e f within is h before none =
    let rest = all_hold w paid (seen_exprs (drop (i + 1) all)) s in
    before
    ∙ (ap (λ l. all_hold w paid (seen_exprs l) s now) (next_item all i e within is)
    ∙ then_stops_plain (eval w paid (seen_expr e) s now) (λ x. as_truth (w.place (node (seen_expr e))) x (λ b. choose b rest (answer false))) k f h none)

pub hold_faults : (w : Setting ℕ) (paid : Bool) (s : Store) (all : List Expr) (m now k : Meter) (i : ℕ) (e : Expr) (v : Datum)
    → i < length all → e ≡ get_or all i e → eval w paid (seen_expr e) s now ≡ Done v k → is_truth v ≡ false → HoldLeft w paid s all m now (drop i all) → all_hold w paid (seen_exprs all) s m ≡ Fault Member (w.place (node (seen_expr e))) k
hold_faults w paid s all m now k i e v within is given other before =
    let rest = all_hold w paid (seen_exprs (drop (i + 1) all)) s in
    before
    ∙ (ap (λ l. all_hold w paid (seen_exprs l) s now) (next_item all i e within is)
    ∙ (then_is (eval w paid (seen_expr e) s now) (λ x. as_truth (w.place (node (seen_expr e))) x (λ b. choose b rest (answer false))) v k given
    ∙ not_truth (w.place (node (seen_expr e))) v (λ b. choose b rest (answer false)) k other))

pub hold_end : (w : Setting ℕ) (paid : Bool) (s : Store) (all : List Expr) (m now : Meter) (i : ℕ) → length all ≤ i → HoldLeft w paid s all m now (drop i all) → all_hold w paid (seen_exprs all) s m ≡ Done true now
hold_end w paid s all m now i past before = before ∙ ap (λ l. all_hold w paid (seen_exprs l) s now) (drop_all i all past)

-- ---- items of an array

-- the visits of a type are those by a datum of any kind
pub tested_is : (q : Questions) (d : Datum) (t : Ty) → tested q d t ≡ asked_by q q.bare d t
tested_is q Null t = refl
tested_is q (Truth b) t = refl
tested_is q (Whole z) t = refl
tested_is q (Array ds) t = refl
tested_is q (Record fs) t = refl

abbrev pub ItemsLeft : Questions → Ty → List Value → Meter → Meter → List Value → Type 0
ItemsLeft q t all m now left = items_tested q (items_of all) t m ≡ items_tested q (items_of left) t now

at_value : (q : Questions) (t : Ty) (all : List Value) (now : Meter) (i : ℕ) (v : Value) → i < length all → v ≡ get_or all i v
    → items_tested q (items_of (drop i all)) t now ≡ (asked_by q q.bare (seen v) t now >>= (λ b. choose b (items_tested q (items_of (drop (i + 1) all)) t) (answer false)))
at_value q t all now i v within is =
    ap (λ l. items_tested q (items_of l) t now) (next_item all i v within is) ∙ ap (λ (f : Test). f now >>= (λ b. choose b (items_tested q (items_of (drop (i + 1) all)) t) (answer false))) (tested_is q (seen v) t)

pub items_turn : (q : Questions) (t : Ty) (all : List Value) (m now k : Meter) (i : ℕ) (v : Value) → i < length all → v ≡ get_or all i v → asked_by q q.bare (seen v) t now ≡ Done true k
    → ItemsLeft q t all m now (drop i all) → ItemsLeft q t all m k (drop (i + 1) all)
items_turn q t all m now k i v within is given before = before ∙ (at_value q t all now i v within is ∙ then_is (asked_by q q.bare (seen v) t now) (λ b. choose b (items_tested q (items_of (drop (i + 1) all)) t) (answer false)) true k given)

pub items_false : (q : Questions) (t : Ty) (all : List Value) (m now k : Meter) (i : ℕ) (v : Value) → i < length all → v ≡ get_or all i v → asked_by q q.bare (seen v) t now ≡ Done false k
    → ItemsLeft q t all m now (drop i all) → items_tested q (items_of all) t m ≡ Done false k
items_false q t all m now k i v within is given before = before ∙ (at_value q t all now i v within is ∙ then_is (asked_by q q.bare (seen v) t now) (λ b. choose b (items_tested q (items_of (drop (i + 1) all)) t) (answer false)) false k given)

pub items_refused : (q : Questions) (t : Ty) (all : List Value) (m now k : Meter) (i : ℕ) (v : Value) (e : Stop) → i < length all → v ≡ get_or all i v → (e ≢ stop.NoMemory → asked_by q q.bare (seen v) t now ≡ stopped e k)
    → ItemsLeft q t all m now (drop i all) → e ≢ stop.NoMemory → items_tested q (items_of all) t m ≡ stopped e k
items_refused q t all m now k i v e within is h before none = before ∙ (at_value q t all now i v within is ∙ then_stops_plain (asked_by q q.bare (seen v) t now) (λ b. choose b (items_tested q (items_of (drop (i + 1) all)) t) (answer false)) k e h none)

pub items_end : (q : Questions) (t : Ty) (all : List Value) (m now : Meter) (i : ℕ) → length all ≤ i → ItemsLeft q t all m now (drop i all) → items_tested q (items_of all) t m ≡ Done true now
items_end q t all m now i past before = before ∙ ap (λ l. items_tested q (items_of l) t now) (drop_all i all past)

-- ---- fields of a record

abbrev Field : Type 0
Field = List ℕ × t.Ty

abbrev pub tys_of : List Field → FieldTys
tys_of ts = field_tys_of (map (λ (f : Field). (f.0, seen_ty f.1)) ts)

abbrev pub PartsLeft : Questions → List Entry → List Field → Meter → Meter → List Entry → List Field → Type 0
PartsLeft q fs ts m now fs2 ts2 = parts_tested q (parts_of fs) (tys_of ts) m ≡ parts_tested q (parts_of fs2) (tys_of ts2) now

at_part : (q : Questions) (fs : List Entry) (ts : List Field) (now : Meter) (i : ℕ) (f : Entry) (u : Field) → i < length fs → f ≡ get_or fs i f → i < length ts → u ≡ get_or ts i u
    → parts_tested q (parts_of (drop i fs)) (tys_of (drop i ts)) now
    ≡ (asked_by q q.bare (seen f.1) (seen_ty u.1) now >>= (λ b. choose b (parts_tested q (parts_of (drop (i + 1) fs)) (tys_of (drop (i + 1) ts))) (answer false)))
at_part q fs ts now i f u hf jf hu ju =
    ap (λ l. parts_tested q (parts_of l) (tys_of (drop i ts)) now) (next_item fs i f hf jf)
    ∙ (ap (λ l. parts_tested q (parts_of (f ∷ drop (i + 1) fs)) (tys_of l) now) (next_item ts i u hu ju)
    ∙ ap (λ (g : Test). g now >>= (λ b. choose b (parts_tested q (parts_of (drop (i + 1) fs)) (tys_of (drop (i + 1) ts))) (answer false))) (tested_is q (seen f.1) (seen_ty u.1)))

pub parts_turn : (q : Questions) (fs : List Entry) (ts : List Field) (m now k : Meter) (i : ℕ) (f : Entry) (u : Field) → i < length fs → f ≡ get_or fs i f → i < length ts → u ≡ get_or ts i u
    → asked_by q q.bare (seen f.1) (seen_ty u.1) now ≡ Done true k → PartsLeft q fs ts m now (drop i fs) (drop i ts) → PartsLeft q fs ts m k (drop (i + 1) fs) (drop (i + 1) ts)
parts_turn q fs ts m now k i f u hf jf hu ju given before =
    before ∙ (at_part q fs ts now i f u hf jf hu ju ∙ then_is (asked_by q q.bare (seen f.1) (seen_ty u.1) now) (λ b. choose b (parts_tested q (parts_of (drop (i + 1) fs)) (tys_of (drop (i + 1) ts))) (answer false)) true k given)

pub parts_false : (q : Questions) (fs : List Entry) (ts : List Field) (m now k : Meter) (i : ℕ) (f : Entry) (u : Field) → i < length fs → f ≡ get_or fs i f → i < length ts → u ≡ get_or ts i u
    → asked_by q q.bare (seen f.1) (seen_ty u.1) now ≡ Done false k → PartsLeft q fs ts m now (drop i fs) (drop i ts) → parts_tested q (parts_of fs) (tys_of ts) m ≡ Done false k
parts_false q fs ts m now k i f u hf jf hu ju given before =
    before ∙ (at_part q fs ts now i f u hf jf hu ju ∙ then_is (asked_by q q.bare (seen f.1) (seen_ty u.1) now) (λ b. choose b (parts_tested q (parts_of (drop (i + 1) fs)) (tys_of (drop (i + 1) ts))) (answer false)) false k given)

pub parts_refused : (q : Questions) (fs : List Entry) (ts : List Field) (m now k : Meter) (i : ℕ) (f : Entry) (u : Field) (e : Stop) → i < length fs → f ≡ get_or fs i f → i < length ts → u ≡ get_or ts i u
    → (e ≢ stop.NoMemory → asked_by q q.bare (seen f.1) (seen_ty u.1) now ≡ stopped e k) → PartsLeft q fs ts m now (drop i fs) (drop i ts) → e ≢ stop.NoMemory → parts_tested q (parts_of fs) (tys_of ts) m ≡ stopped e k
parts_refused q fs ts m now k i f u e hf jf hu ju h before none =
    before ∙ (at_part q fs ts now i f u hf jf hu ju ∙ then_stops_plain (asked_by q q.bare (seen f.1) (seen_ty u.1) now) (λ b. choose b (parts_tested q (parts_of (drop (i + 1) fs)) (tys_of (drop (i + 1) ts))) (answer false)) k e h none)

no_types : (q : Questions) (fs : List Entry) (m : Meter) → parts_tested q (parts_of fs) NoFieldTys m ≡ Done true m
no_types q [] m = refl
no_types q (f ∷ fs) m = refl

pub parts_short : (q : Questions) (fs : List Entry) (ts : List Field) (m now : Meter) (i : ℕ) → length ts ≤ i → PartsLeft q fs ts m now (drop i fs) (drop i ts) → parts_tested q (parts_of fs) (tys_of ts) m ≡ Done true now
parts_short q fs ts m now i past before = before ∙ (ap (λ l. parts_tested q (parts_of (drop i fs)) (tys_of l) now) (drop_all i ts past) ∙ no_types q (drop i fs) now)

pub parts_end : (q : Questions) (fs : List Entry) (ts : List Field) (m now : Meter) (i : ℕ) → length fs ≤ i → PartsLeft q fs ts m now (drop i fs) (drop i ts) → parts_tested q (parts_of fs) (tys_of ts) m ≡ Done true now
parts_end q fs ts m now i past before = before ∙ ap (λ l. parts_tested q (parts_of l) (tys_of (drop i ts)) now) (drop_all i fs past)

-- ---- turns of a quantifier

abbrev pub TurnsLeft : Bool → ℕ → (ℤ → Run Datum) → ℤ → ℤ → Meter → ℤ → Meter → Type 0
TurnsLeft all at body from to m number now = each all at body from (span from to) m ≡ each all at body number (span number to) now

at_number : (all : Bool) (at : ℕ) (body : ℤ → Run Datum) (i to : ℤ) (now : Meter) → int_lt i to ≡ true
    → each all at body i (span i to) now ≡ (body i now >>= (λ v. as_truth at v (λ b. choose (agrees all b) (each all at body (i +ℤ pos 1) (span (i +ℤ pos 1) to)) (Done (Truth b)))))
at_number all at body i to now h = ap (λ n. each all at body i n now) (span_more i to h)

agree_itself : (b : Bool) → agrees b b ≡ true
agree_itself true = refl
agree_itself false = refl

pub turns_turn : (all : Bool) (at : ℕ) (body : ℤ → Run Datum) (from to i : ℤ) (m now k : Meter) (v : Datum) (b : Bool) → int_lt i to ≡ true → body i now ≡ Done v k → v ≡ Truth b → b ≡ all
    → TurnsLeft all at body from to m i now → TurnsLeft all at body from to m (i +ℤ pos 1) k
turns_turn all at body from to i m now k v b less given truth same before =
    let rest = each all at body (i +ℤ pos 1) (span (i +ℤ pos 1) to) in
    before
    ∙ (at_number all at body i to now less
    ∙ (then_is (body i now) (λ x. as_truth at x (λ b. choose (agrees all b) rest (Done (Truth b)))) v k given
    ∙ (ap (λ x. as_truth at x (λ b. choose (agrees all b) rest (Done (Truth b))) k) truth
    ∙ (ap (λ b. choose (agrees all b) rest (Done (Truth b)) k) same ∙ ap (λ c. choose c rest (Done (Truth all)) k) (agree_itself all)))))

differ : (all b : Bool) → (b ≡ all → ⊥) → agrees all b ≡ false
differ true true h = absurd (h refl)
differ true false h = refl
differ false true h = refl
differ false false h = absurd (h refl)

pub turns_early : (all : Bool) (at : ℕ) (body : ℤ → Run Datum) (from to i : ℤ) (m now k : Meter) (v : Datum) (b : Bool) → int_lt i to ≡ true → body i now ≡ Done v k → v ≡ Truth b → (b ≡ all → ⊥)
    → TurnsLeft all at body from to m i now → each all at body from (span from to) m ≡ Done (Truth b) k
turns_early all at body from to i m now k v b less given truth other before =
    let rest = each all at body (i +ℤ pos 1) (span (i +ℤ pos 1) to) in
    before
    ∙ (at_number all at body i to now less
    ∙ (then_is (body i now) (λ x. as_truth at x (λ b. choose (agrees all b) rest (Done (Truth b)))) v k given
    ∙ (ap (λ x. as_truth at x (λ b. choose (agrees all b) rest (Done (Truth b))) k) truth ∙ ap (λ c. choose c rest (Done (Truth b)) k) (differ all b other))))

pub turns_refused : (all : Bool) (at : ℕ) (body : ℤ → Run Datum) (from to i : ℤ) (m now k : Meter) (e : Stop) → int_lt i to ≡ true → (e ≢ stop.NoMemory → body i now ≡ stopped e k)
    → TurnsLeft all at body from to m i now → e ≢ stop.NoMemory → each all at body from (span from to) m ≡ stopped e k
turns_refused all at body from to i m now k e less h before none =
    let rest = each all at body (i +ℤ pos 1) (span (i +ℤ pos 1) to) in
    before ∙ (at_number all at body i to now less ∙ then_stops_plain (body i now) (λ x. as_truth at x (λ b. choose (agrees all b) rest (Done (Truth b)))) k e h none)

pub turns_fault : (all : Bool) (at : ℕ) (body : ℤ → Run Datum) (from to i : ℤ) (m now k : Meter) (v : Datum) → int_lt i to ≡ true → body i now ≡ Done v k → is_truth v ≡ false
    → TurnsLeft all at body from to m i now → each all at body from (span from to) m ≡ Fault Member at k
turns_fault all at body from to i m now k v less given other before =
    let rest = each all at body (i +ℤ pos 1) (span (i +ℤ pos 1) to) in
    before
    ∙ (at_number all at body i to now less
    ∙ (then_is (body i now) (λ x. as_truth at x (λ b. choose (agrees all b) rest (Done (Truth b)))) v k given ∙ not_truth at v (λ b. choose (agrees all b) rest (Done (Truth b))) k other))
