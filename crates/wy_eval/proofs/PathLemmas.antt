-- Paths into values, and assignments.
use Rattle.std.proofs.Common.{◌≡◌, ◌≢◌, ℕ, ◌+◌, ◌<◌, ◌≤◌, pos, Bool, true, false, List, [], ◌∷◌, ◌++◌, map, length, drop, get_or, Option, Some, None, Result, Ok, Err, refl, sym, ap, ◌∙◌, append_assoc}
use Rattle.std.specs.Prelude.{IsErrAnd}
use Rattle.std.proofs.lemmas.List.{drop_all, map_push}
use Rattle.wy_eval.proofs.AssignLemmas.{no_stop}
use Rattle.wy_eval.proofs.FollowLemmas.{as_any, any_stopped}
use Rattle.wy_lemmas.proofs.Lists.{next_of as next_item}
use Rattle.wy_value.specs.Datum.{Datum, Null, Truth, Whole, Array, Record, Data}
use Rattle.wy_value.specs.declared.value.Value.{Value}
use Rattle.wy_core.specs.CoreSeen.{seen_expr, seen_step, seen_step_kind}
use Rattle.wy_core.specs.CoreTree as tree
use Rattle.wy_core.specs.CoreTree.{Expr}
use Rattle.wy_core.specs.declared.expressions.Expr as e
use Rattle.wy_core.specs.declared.statements.Step.{Step}
use Rattle.wy_core.specs.declared.statements.StepKind.TheVariants as step
use Rattle.wy_term.specs.declared.cond.CondKind.TheVariants.{Index}
use Rattle.wy_sem.specs.Expressions.{Setting, Store, eval}
use Rattle.wy_sem.specs.Meter.{Meter, Outcome, Done, Fault, More, Spent, Run, ◌>>=◌, check}
use Rattle.wy_sem.specs.Operations as spec
use Rattle.wy_sem.specs.Operations.{as_fields, as_items, as_number, find, indexed, is_index, item_at, needed}
use Rattle.wy_sem.specs.Statements.{path_of}
use Rattle.wy_eval_exprs.specs.declared.stop.Stop.{Stop}
use Rattle.wy_eval_exprs.specs.declared.stop.Stop.TheVariants as stop
use Rattle.wy_eval_exprs.specs.declared.updates.Slot.{Slot}
use Rattle.wy_eval_exprs.specs.declared.updates.Slot.TheVariants as slot
use Rattle.wy_eval_exprs.specs.Outcomes.{stopped}
use Rattle.wy_eval_exprs.specs.Parts.{IndexOf, seen_slot}
use Rattle.wy_eval_exprs.proofs.StepLemmas.{then_is, then_stops_plain}
use Rattle.wy_eval.specs.Settings.{StepsTo, slots_in}

-- ---- one step

-- the item at an index, whatever follows
index_then : {X : Type 0} (at : ℕ) (v w : Datum) (i : ℕ) (ds : Data) (next : Data → ℕ → Run X) (m : Meter) → v ≡ Array ds → w ≡ Whole (pos i) → is_index (pos i) ds ≡ true → indexed at v w next m ≡ next ds i m
index_then at v w i ds next m hv hw good =
    ap (λ x. indexed at x w next m) hv ∙ (ap (λ x. indexed at (Array ds) x next m) hw ∙ ap (λ b. check b Index at (next ds i) m) good)

field_then : {X : Type 0} (at : ℕ) (d p : Datum) (name : List ℕ) (next : Datum → Run X) (m : Meter) → spec.field_of at d name m ≡ Done p m → as_fields at d (λ fs. needed at (find fs name) next) m ≡ next p m
field_then at (Record fs) p name next m h = found at (find fs name) p next m h
  where
    found : {X : Type 0} (at : ℕ) (o : Option Datum) (p : Datum) (next : Datum → Run X) (m : Meter) → needed at o Done m ≡ Done p m → needed at o next m ≡ next p m
    found at None p next m h = absurd cc
    found at (Some d) p next m h = let g : d ≡ p = cc in ap (λ x. next x m) g
field_then at Null p name next m h = absurd cc
field_then at (Truth b) p name next m h = absurd cc
field_then at (Whole z) p name next m h = absurd cc
field_then at (Array ds) p name next m h = absurd cc

field_stops : {X : Type 0} (at : ℕ) (d : Datum) (name : List ℕ) (next : Datum → Run X) (m : Meter) (e : Stop) → spec.field_of at d name m ≡ stopped e m → as_fields at d (λ fs. needed at (find fs name) next) m ≡ stopped e m
field_stops at (Record fs) name next m e h = missing at (find fs name) next m e h
  where
    missing : {X : Type 0} (at : ℕ) (o : Option Datum) (next : Datum → Run X) (m : Meter) (e : Stop) → needed at o Done m ≡ stopped e m → needed at o next m ≡ stopped e m
    missing at None next m e h = ap as_any h ∙ any_stopped _ _ e m
    missing at (Some d) next m e h = no_stop d m m e (next d m) h
field_stops at Null name next m e h = ap as_any h ∙ any_stopped _ _ e m
field_stops at (Truth b) name next m e h = ap as_any h ∙ any_stopped _ _ e m
field_stops at (Whole z) name next m e h = ap as_any h ∙ any_stopped _ _ e m
field_stops at (Array ds) name next m e h = ap as_any h ∙ any_stopped _ _ e m

-- a wrong index stops, whatever follows
checked_by : {X : Type 0} (b : Bool) (at : ℕ) (next : Run X) (m : Meter) (e : Stop) → check b Index at (Done Null) m ≡ stopped e m → check b Index at next m ≡ stopped e m
checked_by true at next m e h = no_stop Null m m e (next m) h
checked_by false at next m e h = ap as_any h ∙ any_stopped _ _ e m

misindexed_by : {X : Type 0} (at : ℕ) (v w : Datum) (e : Stop) (next : Data → ℕ → Run X) (m : Meter) → indexed at v w (λ ds i. Done Null) m ≡ stopped e m → indexed at v w next m ≡ stopped e m
misindexed_by at (Array ds) (Whole z) e next m h = checked_by (is_index z ds) at (next ds (spec.nat_of z)) m e h
misindexed_by at (Array ds) Null e next m h = ap as_any h ∙ any_stopped _ _ e m
misindexed_by at (Array ds) (Truth b) e next m h = ap as_any h ∙ any_stopped _ _ e m
misindexed_by at (Array ds) (Array es) e next m h = ap as_any h ∙ any_stopped _ _ e m
misindexed_by at (Array ds) (Record fs) e next m h = ap as_any h ∙ any_stopped _ _ e m
misindexed_by at Null w e next m h = ap as_any h ∙ any_stopped _ _ e m
misindexed_by at (Truth b) w e next m h = ap as_any h ∙ any_stopped _ _ e m
misindexed_by at (Whole z) w e next m h = ap as_any h ∙ any_stopped _ _ e m
misindexed_by at (Record fs) w e next m h = ap as_any h ∙ any_stopped _ _ e m

misindexed : {X : Type 0} (at : ℕ) (v w : Datum) (e : Stop) (next : Data → ℕ → Run X) (m : Meter) → IndexOf at v w (Err e) → indexed at v w next m ≡ stopped e m
misindexed at v w e next m h = misindexed_by at v w e next m (h (λ ds i. Done Null) m)

-- ---- paths

abbrev pub PathLeft : Setting ℕ → Store → List Step → Datum → Meter → List Slot → Datum → Meter → List Step → Type 0
PathLeft w s all d m made part now left = path_of w s (map seen_step all) d m ≡ (path_of w s (map seen_step left) part now >>= (λ slots. Done (slots_in made ++ slots)))

begins : (o : Outcome (List spec.Slot)) → o ≡ (o >>= (λ slots. Done ([] ++ slots)))
begins (Done slots k) = refl
begins (Fault kind at k) = refl
begins (More k) = refl
begins Spent = refl

pub path_begin : (w : Setting ℕ) (s : Store) (all : List Step) (d part : Datum) (m : Meter) (made : List Slot) → made ≡ [] → part ≡ d → PathLeft w s all d m made part m all
path_begin w s all d part m made none same =
    begins (path_of w s (map seen_step all) d m)
    ∙ (ap (λ l. path_of w s (map seen_step all) d m >>= (λ slots. Done (slots_in l ++ slots))) (sym none) ∙ ap (λ x. path_of w s (map seen_step all) x m >>= (λ slots. Done (slots_in made ++ slots))) (sym same))

one_more : (o : Outcome (List spec.Slot)) (made : List Slot) (x : Slot) → ((o >>= (λ slots. Done (seen_slot x ∷ slots))) >>= (λ slots. Done (slots_in made ++ slots))) ≡ (o >>= (λ slots. Done (slots_in (made ++ x ∷ []) ++ slots)))
one_more (Done slots k) made x = ap (λ l. Done l k) (sym (append_assoc (slots_in made) (seen_slot x ∷ []) slots) ∙ ap (λ l. l ++ slots) (sym (map_push seen_slot made x)))
one_more (Fault kind at k) made x = refl
one_more (More k) made x = refl
one_more Spent made x = refl

step_is : (x : Step) (y : tree.Step ℕ) → seen_step x ≡ y → (w : Setting ℕ) (s : Store) (all : List Step) (i : ℕ) (part : Datum) (now : Meter) → i < length all → x ≡ get_or all i x
    → path_of w s (map seen_step (drop i all)) part now ≡ path_of w s (y ∷ map seen_step (drop (i + 1) all)) part now
step_is x y same w s all i part now within is = ap (λ l. path_of w s (map seen_step l) part now) (next_item all i x within is) ∙ ap (λ z. path_of w s (z ∷ map seen_step (drop (i + 1) all)) part now) same

pub index_step : (x : Step) (index : e.Expr) → x.kind ≡ step.Index index → seen_step x ≡ tree.IndexStep x.at (seen_expr index)
index_step x index is = ap (λ k. seen_step_kind k x.at) is

pub field_step : (x : Step) (name : List ℕ) → x.kind ≡ step.Field name → seen_step x ≡ tree.FieldStep x.at name
field_step x name is = ap (λ k. seen_step_kind k x.at) is

-- an index and what follows
pub index_steps : (w : Setting ℕ) (s : Store) (x : Step) (index : e.Expr) (part part2 v : Datum) (now k : Meter) (n : ℕ) → x.kind ≡ step.Index index → eval w true (seen_expr index) s now ≡ Done v k → IndexOf x.at part v (Ok n) → part2 ≡ spec.part_at (spec.ItemSlot n) part
    → (steps : List (tree.Step ℕ)) → path_of w s (seen_step x ∷ steps) part now ≡ (path_of w s steps part2 k >>= (λ slots. Done (seen_slot (slot.Item n) ∷ slots)))
index_steps w s x index part part2 v now k n kind given found there steps =
    let next = λ (ds : Data) (j : ℕ) (q : Meter). path_of w s steps (item_at ds j) q >>= (λ slots. Done (spec.ItemSlot j ∷ slots)) in
    let item : part2 ≡ item_at found.0 n = there ∙ ap (λ p. spec.part_at (spec.ItemSlot n) p) found.1 in
    ap (λ z. path_of w s (z ∷ steps) part now) (index_step x index kind)
    ∙ (then_is (eval w true (seen_expr index) s now) (λ u. indexed x.at part u next) v k given
    ∙ (index_then x.at part v n found.0 next k found.1 found.2 found.3
    ∙ ap (λ p. path_of w s steps p k >>= (λ slots. Done (spec.ItemSlot n ∷ slots))) (sym item)))

pub index_stops : (w : Setting ℕ) (s : Store) (x : Step) (index : e.Expr) (part : Datum) (now k : Meter) (f : Stop) → x.kind ≡ step.Index index → (f ≢ stop.NoMemory → eval w true (seen_expr index) s now ≡ stopped f k) → f ≢ stop.NoMemory
    → (steps : List (tree.Step ℕ)) → path_of w s (seen_step x ∷ steps) part now ≡ stopped f k
index_stops w s x index part now k f kind given none steps =
    let next = λ (ds : Data) (j : ℕ) (q : Meter). path_of w s steps (item_at ds j) q >>= (λ slots. Done (spec.ItemSlot j ∷ slots)) in
    ap (λ z. path_of w s (z ∷ steps) part now) (index_step x index kind) ∙ then_stops_plain (eval w true (seen_expr index) s now) (λ u. indexed x.at part u next) k f given none

pub index_wrong : (w : Setting ℕ) (s : Store) (x : Step) (index : e.Expr) (part v : Datum) (now k : Meter) (f : Stop) → x.kind ≡ step.Index index → eval w true (seen_expr index) s now ≡ Done v k → IndexOf x.at part v (Err f)
    → (steps : List (tree.Step ℕ)) → path_of w s (seen_step x ∷ steps) part now ≡ stopped f k
index_wrong w s x index part v now k f kind given wrong steps =
    let next = λ (ds : Data) (j : ℕ) (q : Meter). path_of w s steps (item_at ds j) q >>= (λ slots. Done (spec.ItemSlot j ∷ slots)) in
    ap (λ z. path_of w s (z ∷ steps) part now) (index_step x index kind)
    ∙ (then_is (eval w true (seen_expr index) s now) (λ u. indexed x.at part u next) v k given ∙ misindexed x.at part v f next k wrong)

-- a field and what follows
pub field_steps : (w : Setting ℕ) (s : Store) (x : Step) (name : List ℕ) (part part2 : Datum) (now : Meter) → x.kind ≡ step.Field name → spec.field_of x.at part name now ≡ Done part2 now
    → (steps : List (tree.Step ℕ)) → path_of w s (seen_step x ∷ steps) part now ≡ (path_of w s steps part2 now >>= (λ slots. Done (seen_slot (slot.Field name) ∷ slots)))
field_steps w s x name part part2 now kind found steps =
    let next = λ (p : Datum) (q : Meter). path_of w s steps p q >>= (λ slots. Done (spec.FieldSlot name ∷ slots)) in
    ap (λ z. path_of w s (z ∷ steps) part now) (field_step x name kind) ∙ field_then x.at part part2 name next now found

pub field_missing : (w : Setting ℕ) (s : Store) (x : Step) (name : List ℕ) (part : Datum) (now : Meter) (f : Stop) → x.kind ≡ step.Field name → (f ≢ stop.NoMemory → spec.field_of x.at part name now ≡ stopped f now) → f ≢ stop.NoMemory
    → (steps : List (tree.Step ℕ)) → path_of w s (seen_step x ∷ steps) part now ≡ stopped f now
field_missing w s x name part now f kind missing none steps =
    let next = λ (p : Datum) (q : Meter). path_of w s steps p q >>= (λ slots. Done (spec.FieldSlot name ∷ slots)) in
    ap (λ z. path_of w s (z ∷ steps) part now) (field_step x name kind) ∙ field_stops x.at part name next now f (missing none)

-- what stopped is handed on
pub step_refused : (w : Setting ℕ) (s : Store) (x : tree.Step ℕ) (d : Datum) (m k : Meter) (f : Stop) (r : Result (Slot × Value) Stop) → (f ≢ stop.NoMemory → (steps : List (tree.Step ℕ)) → path_of w s (x ∷ steps) d m ≡ stopped f k) → IsErrAnd r (λ g. g ≡ f) → StepsTo w s x d m r k
step_refused w s x d m k f (Ok y) h handed = absurd handed
step_refused w s x d m k f (Err g) h handed = λ none steps. h (λ q. none (handed ∙ q)) steps ∙ sym (ap (λ z. stopped z k) handed)

pub path_turn : (w : Setting ℕ) (s : Store) (all : List Step) (d : Datum) (m : Meter) (made made2 : List Slot) (part part2 : Datum) (now k : Meter) (i : ℕ) (x : Step) (t : Slot) → i < length all → x ≡ get_or all i x
    → ((steps : List (tree.Step ℕ)) → path_of w s (seen_step x ∷ steps) part now ≡ (path_of w s steps part2 k >>= (λ slots. Done (seen_slot t ∷ slots)))) → made2 ≡ made ++ t ∷ [] → PathLeft w s all d m made part now (drop i all) → PathLeft w s all d m made2 part2 k (drop (i + 1) all)
path_turn w s all d m made made2 part part2 now k i x t within is stepped pushed before =
    let steps = map seen_step (drop (i + 1) all) in
    before
    ∙ (ap (λ o. o >>= (λ slots. Done (slots_in made ++ slots))) (step_is x (seen_step x) refl w s all i part now within is ∙ stepped steps)
    ∙ (one_more (path_of w s steps part2 k) made t ∙ ap (λ l. path_of w s steps part2 k >>= (λ slots. Done (slots_in l ++ slots))) (sym pushed)))

pub path_stop : (w : Setting ℕ) (s : Store) (all : List Step) (d : Datum) (m : Meter) (made : List Slot) (part : Datum) (now k : Meter) (i : ℕ) (x : Step) (f : Stop) → i < length all → x ≡ get_or all i x
    → (f ≢ stop.NoMemory → (steps : List (tree.Step ℕ)) → path_of w s (seen_step x ∷ steps) part now ≡ stopped f k) → PathLeft w s all d m made part now (drop i all) → f ≢ stop.NoMemory → path_of w s (map seen_step all) d m ≡ stopped f k
path_stop w s all d m made part now k i x f within is stops before none =
    before
    ∙ (ap (λ o. o >>= (λ slots. Done (slots_in made ++ slots))) (step_is x (seen_step x) refl w s all i part now within is)
    ∙ then_stops_plain (path_of w s (seen_step x ∷ map seen_step (drop (i + 1) all)) part now) (λ slots. Done (slots_in made ++ slots)) k f (λ q. stops q (map seen_step (drop (i + 1) all))) none)

nothing_more : (o : List spec.Slot) → o ++ [] ≡ o
nothing_more [] = refl
nothing_more (x ∷ xs) = ap (λ l. x ∷ l) (nothing_more xs)

pub path_end : (w : Setting ℕ) (s : Store) (all : List Step) (d : Datum) (m : Meter) (made : List Slot) (part : Datum) (now : Meter) (i : ℕ) → length all ≤ i → PathLeft w s all d m made part now (drop i all) → path_of w s (map seen_step all) d m ≡ Done (slots_in made) now
path_end w s all d m made part now i past before =
    before ∙ (ap (λ l. path_of w s (map seen_step l) part now >>= (λ slots. Done (slots_in made ++ slots))) (drop_all i all past) ∙ ap (λ l. Done l now) (nothing_more (slots_in made)))
