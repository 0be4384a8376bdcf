-- Updates of parts of a variable: what the steps of a typed path meet, and the type of the datum with a new value at the end of the path.
use Rattle.std.proofs.Common.{◌≡◌, inl, inr, ℕ, zero, suc, ◌+◌, List, [], ◌∷◌, length, Bool, true, false, cond, Option, Some, None, pos, int_le, bytes_eq, refl, sym, ap, ◌∙◌, subst, arith}
use Rattle.std.specs.Prelude.{is_some}
use Rattle.wy_lemmas.proofs.Choices.{or_left, both_true as two_true, or_right}
use Rattle.wy_value.specs.Datum.{Datum, Null, Truth, Whole, Array, Record, Data, no_items, item, Fields, no_fields, field}
use Rattle.wy_value.specs.Values.{Rise, length_of, names_of}
use Rattle.wy_core.specs.Types.{Ty, ArrayTy, UnionTy}
use Rattle.wy_core.specs.CoreTree.{Expr, Step, IndexStep, FieldStep}
use Rattle.wy_term.specs.declared.cond.CondKind.TheVariants as kind
use Rattle.wy_types.specs.Names.{Declared, Up, each_in_ty, item_readers}
use Rattle.wy_subtype_parts.specs.Items.{IsItem}
use Rattle.wy_subtype_parts.specs.Fields.{AllHave, has_value_at, value_at}
use Rattle.wy_sound_statements.specs.wy_flow_spec.environment.Variables.{Environment}
use Rattle.wy_sound_statements.specs.wy_flow_spec.typing.Outcomes.{Gives}
use Rattle.wy_sound_statements.specs.wy_flow_spec.typing.Paths.{Reached, Updated}
use Rattle.wy_sem.specs.Meter.{Meter, Done, Run, ◌>>=◌, check}
use Rattle.wy_sem.specs.Operations.{longest, nat_of, is_index, item_at, set_item, find, set_field, as_number, needed, indexed, or_null, Slot, ItemSlot, FieldSlot, updated}
use Rattle.wy_sem.specs.Expressions as sem
use Rattle.wy_sem.specs.Expressions.{Store}
use Rattle.wy_sem.specs.Statements as run
use Rattle.wy_vc_spec.specs.Sizes.{exprs_in, exprs_in_step, exprs_in_path}
use Rattle.wy_vc_spec.specs.Numbered.{Node, numbered, numbered_path}
use Rattle.wy_vc_spec.specs.Spots.{Spot, is_set}
use Rattle.wy_sound_statements.specs.wy_sound_walks.expressions.Suits.{Kinds}
use Rattle.wy_sound_statements.proofs.wy_sound_kinds_proofs.frames_lemmas.EveryLemmas.{Every, every_bind, every_check, every_number, every_items, every_fields, every_needed}
use Rattle.wy_sound_statements.proofs.wy_types_laws_proofs.parts_lemmas.ItemLemmas.{items_are_in}
use Rattle.wy_sound_statements.proofs.wy_types_laws_proofs.parts_lemmas.ValueLemmas.{values_are_in}
use Rattle.wy_sound_statements.specs.wy_sound_kinds.Bounded.{IsBounded, AreBounded, FieldsBounded}
use Rattle.wy_sound_statements.specs.wy_sound_kinds.Kinds.{Kind}
use Rattle.wy_sound_statements.proofs.wy_sound_kinds_proofs.TypeLemmas.{then_gives, given_is}
use Rattle.wy_sound_statements.proofs.wy_sound_kinds_proofs.DatumLemmas.{index_below, item_is, item_bounded, found_at, field_bounded}
use Rattle.wy_sound_statements.specs.wy_sound_kinds.suits.Laws.{Begins}
use Rattle.wy_sound_statements.proofs.wy_sound_kinds_proofs.suits_lemmas.FlowLemmas.{FlowAll, begins_more}
use Rattle.wy_sound_statements.proofs.wy_sound_kinds_proofs.suits_lemmas.KindLemmas.{array_in, whole_in}
use Rattle.wy_sound_statements.specs.StatementSuits.{PathSuits}
use Rattle.wy_sound_statements.specs.Ends.{code_kinds}
use Rattle.wy_sound_programs.specs.Along.{PathReady}
use Rattle.wy_sound_programs.specs.Typed.{Setting, Grounds, Holds}
use Rattle.wy_sound_programs.proofs.WithLemmas.{withs_are_in}
use Rattle.wy_sound_programs.proofs.PartLemmas.{index_parts, field_parts, Steps}
use Rattle.wy_sound_programs.proofs.GrewLemmas.{flow_none, flow_more, flow_step}
use Rattle.wy_sound_programs.proofs.ValueLemmas.{value, value_suits, each_value}

-- ---- items

set_length : (ds : Data) (i : ℕ) (v : Datum) → length_of (set_item ds i v) ≡ length_of ds
set_length no_items i v = refl
set_length (item d ds) zero v = refl
set_length (item d ds) (suc i) v = let e = set_length ds i v in omega (arith, e)

set_bounded : (ds : Data) (i : ℕ) (v : Datum) → AreBounded ds → IsBounded v → AreBounded (set_item ds i v)
set_bounded no_items i v h g = tt
set_bounded (item d ds) zero v h g = (g, h.1)
set_bounded (item d ds) (suc i) v h g = (h.0, set_bounded ds i v h.1 g)

array_bounded : (ds : Data) (i : ℕ) (v : Datum) → IsBounded (Array ds) → IsBounded v → IsBounded (Array (set_item ds i v))
array_bounded ds i v h g = (subst (λ (n : ℕ). int_le (pos n) (pos longest) ≡ true) (sym (set_length ds i v)) h.0, set_bounded ds i v h.1 g)

-- each item is in the one type, and one of them in the other
all_either : (names : List Declared) (a z : Ty) (ds : Data) → ((d : Datum) → IsItem d ds → Up names d a ≡ true) → each_in_ty (item_readers names ds) true (UnionTy a z) ≡ true
all_either names a z no_items h = refl
all_either names a z (item d ds) h = two_true (Up names d (UnionTy a z)) (each_in_ty (item_readers names ds) true (UnionTy a z)) (or_left (Up names d a) (Up names d z) (h d (inl refl))) (all_either names a z ds (λ e i. h e (inr i)))

set_either : (names : List Declared) (a z : Ty) (ds : Data) (i : ℕ) (v : Datum) → ((d : Datum) → IsItem d ds → Up names d a ≡ true) → Up names v z ≡ true → each_in_ty (item_readers names (set_item ds i v)) true (UnionTy a z) ≡ true
set_either names a z no_items i v h g = refl
set_either names a z (item d ds) zero v h g =
    two_true (Up names v (UnionTy a z)) (each_in_ty (item_readers names ds) true (UnionTy a z)) (or_right (Up names v a) (Up names v z) g) (all_either names a z ds (λ e i. h e (inr i)))
set_either names a z (item d ds) (suc i) v h g =
    two_true (Up names d (UnionTy a z)) (each_in_ty (item_readers names (set_item ds i v)) true (UnionTy a z)) (or_left (Up names d a) (Up names d z) (h d (inl refl))) (set_either names a z ds i v (λ e j. h e (inr j)) g)

-- ---- fields

field_names : (b : Bool) (n name : List ℕ) (d v : Datum) (fs gs : Fields) → names_of gs ≡ names_of fs → names_of (cond b (field n v fs) (field n d gs)) ≡ n ∷ names_of fs
field_names true n name d v fs gs e = refl
field_names false n name d v fs gs e = ap (λ (ns : List (List ℕ)). n ∷ ns) e

set_names : (fs : Fields) (name : List ℕ) (v : Datum) → names_of (set_field fs name v) ≡ names_of fs
set_names no_fields name v = refl
set_names (field n d fs) name v = field_names (bytes_eq n name) n name d v fs (set_field fs name v) (set_names fs name v)

field_set : (b : Bool) (n : List ℕ) (d v : Datum) (fs gs : Fields) → IsBounded d → FieldsBounded fs → IsBounded v → FieldsBounded gs → FieldsBounded (cond b (field n v fs) (field n d gs))
field_set true n d v fs gs hd hf hv hg = (hv, hf)
field_set false n d v fs gs hd hf hv hg = (hd, hg)

fields_bounded : (fs : Fields) (name : List ℕ) (v : Datum) → FieldsBounded fs → IsBounded v → FieldsBounded (set_field fs name v)
fields_bounded no_fields name v h g = tt
fields_bounded (field n d fs) name v h g = field_set (bytes_eq n name) n d v fs (set_field fs name v) h.0 h.1 g (fields_bounded fs name v h.1 g)

record_bounded : (fs : Fields) (name : List ℕ) (v : Datum) → IsBounded (Record fs) → IsBounded v → IsBounded (Record (set_field fs name v))
record_bounded fs name v h g = (subst Rise (sym (set_names fs name v)) h.0, fields_bounded fs name v h.1 g)

-- a datum of a type whose values all have the field is a record with it
record_of : (names : List Declared) (f : List ℕ) (t : Ty) (d : Datum) → AllHave names f t → Up names d t ≡ true → (fs : Fields) × (d ≡ Record fs) × ((x : Datum) × (find fs f ≡ Some x))
record_of names f t d h e = by d (h d e) where
  some : (fs : Fields) (o : Option Datum) → is_some o ≡ true → value_at f fs ≡ o → (x : Datum) × (find fs f ≡ Some x)
  some fs (Some x) q r = (x, sym (found_at fs f) ∙ r)
  some fs None q r = absurd cc

  by : (y : Datum) → has_value_at f y ≡ true → (fs : Fields) × (y ≡ Record fs) × ((x : Datum) × (find fs f ≡ Some x))
  by (Record fs) q = (fs, refl, some fs (value_at f fs) q refl)
  by Null q = absurd cc
  by (Truth b) q = absurd cc
  by (Whole z) q = absurd cc
  by (Array ds) q = absurd cc

module _ (c : Setting) (g : Grounds c) (env : Environment) (reached : env.reached ≡ true) (q : Spot) (s : Store) (h : Holds c.program.names c.body.types c.members c.allowed.many env (is_set q.set) s) where
  abbrev names : List Declared
  names = c.program.names

  abbrev W : Kinds Node
  W = code_kinds c.evaluation c.body c.members c.in_expressions

  -- with a value at the end of the steps the datum is in the type that typing makes of theirs
  abbrev pub Replaced : ℕ → List (Step ℕ) → List Ty → Datum → List Slot → Type 0
  Replaced at path types d slots = (v : Datum) (new made : Ty) → Updated c.program.names at path types new (Gives made) → Up c.program.names v new ≡ true → IsBounded v → (Up c.program.names (updated d slots v) made ≡ true) × IsBounded (updated d slots v)

  item_leads : (at from : ℕ) (e : Expr ℕ) (steps : List (Step ℕ)) (t u : Ty) (rest : List Ty) (ds : Data) (i : ℕ) (slots : List Slot) → IsBounded (Array ds) → ((d : Datum) → IsItem d ds → Up names d u ≡ true) → Replaced at steps (u ∷ rest) (item_at ds i) slots
      → Replaced at (IndexStep from e ∷ steps) (t ∷ u ∷ rest) (Array ds) (ItemSlot i ∷ slots)
  item_leads at from e steps t u rest ds i slots bounded items leads v new made typed inside vb =
      let a = then_gives _ _ made typed in
      let r = leads v new a.0 a.1 inside vb in
      let is = given_is made (ArrayTy (UnionTy u a.0)) a.2 in
      let part = updated (item_at ds i) slots v in
      (ap (Up names (Array (set_item ds i part))) is ∙ set_either names u a.0 ds i part items r.0, array_bounded ds i part bounded r.1)

  field_leads : (at from : ℕ) (f : List ℕ) (steps : List (Step ℕ)) (t u : Ty) (rest : List Ty) (fs : Fields) (x : Datum) (slots : List Slot) → IsBounded (Record fs) → AllHave names f t → Up names (Record fs) t ≡ true → find fs f ≡ Some x → Replaced at steps (u ∷ rest) x slots
      → Replaced at (FieldStep from f ∷ steps) (t ∷ u ∷ rest) (Record fs) (FieldSlot f ∷ slots)
  field_leads at from f steps t u rest fs x slots bounded all whole found leads v new made typed inside vb =
      let a = then_gives _ _ made typed in
      let r = leads v new a.0 a.1 inside vb in
      let part : updated x slots v ≡ updated (or_null (find fs f)) slots v = ap (λ (o : Option Datum). updated (or_null o) slots v) (sym found) in (
        subst (λ (y : Datum). Up names (Record (set_field fs f y)) made ≡ true) part (withs_are_in names g.code.recur f t a.0 made all a.2.1 fs (updated x slots v) bounded.0 whole r.0),
        subst (λ (y : Datum). IsBounded (Record (set_field fs f y))) part (record_bounded fs f (updated x slots v) bounded r.1),
      )

  -- a path that is run
  pub path_leads : (at : ℕ) (path : List (Step ℕ)) (k : ℕ) (t : Ty) (flow rest out : List Ty) (d : Datum) (m : Meter) → Steps c.program env path t flow rest out → PathReady c.allowed q path → Up names d t ≡ true → IsBounded d
      → Every (run.path_of c.evaluation s (numbered_path path k) d m) (Replaced at path (t ∷ rest) d)
  path_leads at [] k t flow rest out d m typed ready inside bounded = λ v new made u up vb. let is = given_is made new u in (ap (Up names v) is ∙ up, vb)
  path_leads at (IndexStep from e ∷ steps) k t flow rest out d m typed ready inside bounded =
      let i = index_parts c.program env flow t from e typed.0 typed.2 in
      let P : List Slot → Type 0 = Replaced at (IndexStep from e ∷ steps) (t ∷ rest) d in
      let u = typed.0.ty in
      let number = k + exprs_in e in
      let next : Data → ℕ → Run (List Slot) = λ ds j o. run.path_of c.evaluation s (numbered_path steps number) (item_at ds j) o >>= (λ slots. Done (ItemSlot j ∷ slots)) in
      let same : u ≡ i.ty = ap (λ (r : Reached). r.ty) i.is in
      every_bind (sem.eval c.evaluation true (numbered e k) s m) (λ v. indexed from d v next) (Kind names env [] (is_set q.set) s i.v) P (value c g e k env flow i.v (is_set q.set) s reached i.typed ready.0 h m)
      (λ v l eq kd.
      every_items from d (λ ds. as_number from v (λ z. check (is_index z ds) kind.Index from (next ds (nat_of z)))) l P
      (λ ds is. every_number from v (λ z. check (is_index z ds) kind.Index from (next ds (nat_of z))) l P
      (λ z isz. every_check (is_index z ds) kind.Index from (next ds (nat_of z)) l P
      (λ good.
      let b : IsBounded (Array ds) = subst IsBounded is bounded in
      let inn : Up names (Array ds) t ≡ true = subst (λ (y : Datum). Up names y t ≡ true) is inside in
      let items : (x : Datum) → IsItem x ds → Up names x u ≡ true = λ x o. ap (Up names x) same ∙ items_are_in names g.code.recur t i.ty i.element x (ds, o, inn) in
      every_bind (run.path_of c.evaluation s (numbered_path steps number) (item_at ds (nat_of z)) l) (λ slots. Done (ItemSlot (nat_of z) ∷ slots)) (Replaced at steps (u ∷ typed.1) (item_at ds (nat_of z))) P
      (path_leads at steps number u typed.0.flow typed.1 out (item_at ds (nat_of z)) l typed.4 ready.1 (items (item_at ds (nat_of z)) (item_is ds (nat_of z) (index_below ds z good))) (item_bounded ds (nat_of z) b.1))
      (λ slots o eq2 leads.
      subst (λ (r : List Ty). Replaced at (IndexStep from e ∷ steps) (t ∷ r) d (ItemSlot (nat_of z) ∷ slots)) (sym typed.3)
      (subst (λ (y : Datum). Replaced at (IndexStep from e ∷ steps) (t ∷ u ∷ typed.1) y (ItemSlot (nat_of z) ∷ slots)) (sym is) (item_leads at from e steps t u typed.1 ds (nat_of z) slots b items leads)))))))
  path_leads at (FieldStep from f ∷ steps) k t flow rest out d m typed ready inside bounded =
      let i = field_parts c.program env flow t from f typed.0 typed.2 in
      let P : List Slot → Type 0 = Replaced at (FieldStep from f ∷ steps) (t ∷ rest) d in
      let u = typed.0.ty in
      let next : Datum → Run (List Slot) = λ x o. run.path_of c.evaluation s (numbered_path steps k) x o >>= (λ slots. Done (FieldSlot f ∷ slots)) in
      let same : u ≡ i.ty = ap (λ (r : Reached). r.ty) i.is in
      every_fields from d (λ fs. needed from (find fs f) next) m P
      (λ fs is. every_needed from (find fs f) next m P
      (λ x found.
      let b : IsBounded (Record fs) = subst IsBounded is bounded in
      let inn : Up names (Record fs) t ≡ true = subst (λ (y : Datum). Up names y t ≡ true) is inside in
      let part : Up names x u ≡ true = ap (Up names x) same ∙ values_are_in names g.code.recur f t i.ty i.taken x (fs, found_at fs f ∙ found, inn) in
      every_bind (run.path_of c.evaluation s (numbered_path steps k) x m) (λ slots. Done (FieldSlot f ∷ slots)) (Replaced at steps (u ∷ typed.1) x) P
      (path_leads at steps k u typed.0.flow typed.1 out x m typed.4 ready part (field_bounded fs f x b.1 found))
      (λ slots o eq2 leads.
      subst (λ (r : List Ty). Replaced at (FieldStep from f ∷ steps) (t ∷ r) d (FieldSlot f ∷ slots)) (sym typed.3)
      (subst (λ (y : Datum). Replaced at (FieldStep from f ∷ steps) (t ∷ u ∷ typed.1) y (FieldSlot f ∷ slots)) (sym is) (field_leads at from f steps t u typed.1 fs x slots b i.all inn found leads)))))

  -- the types of expressions along a path
  pub steps_begin : (path : List (Step ℕ)) (t : Ty) (flow rest out : List Ty) → Steps c.program env path t flow rest out → FlowAll (exprs_in_path path) flow out
  steps_begin [] t flow rest out typed = subst (FlowAll 0 flow) (sym typed.1) (flow_none flow)
  steps_begin (step ∷ steps) t flow rest out typed =
      flow_more (exprs_in_step step) (exprs_in_path steps) flow typed.0.flow out (flow_step c.program env flow t step typed.0 typed.2) (steps_begin steps typed.0.ty typed.0.flow typed.1 out typed.4)

  -- what a path meets
  pub path_suits : (path : List (Step ℕ)) (k : ℕ) (t : Ty) (flow rest out : List Ty) (d : Datum) → k ≡ length flow → Steps c.program env path t flow rest out → Begins out c.flow → PathReady c.allowed q path → Up names d t ≡ true → IsBounded d → PathSuits W (is_set q.set) (numbered_path path k) d s
  path_suits [] k t flow rest out d is typed begins ready inside bounded = tt
  path_suits (IndexStep from e ∷ steps) k t flow rest out d is typed begins ready inside bounded =
      let i = index_parts c.program env flow t from e typed.0 typed.2 in
      let u = typed.0.ty in
      let first = flow_step c.program env flow t (IndexStep from e) typed.0 typed.2 in
      let behind : Begins typed.0.flow c.flow = begins_more typed.0.flow out c.flow (steps_begin steps u typed.0.flow typed.1 out typed.4).begins begins in
      let front : Begins i.v.flow c.flow = subst (λ (r : Reached). Begins r.flow c.flow) i.is behind in
      let next : k + exprs_in e ≡ length typed.0.flow = ap (λ (n : ℕ). n + exprs_in e) is ∙ sym first.counted in
      let same : u ≡ i.ty = ap (λ (r : Reached). r.ty) i.is in (
        value_suits c g e k env flow i.v (is_set q.set) s is reached i.typed front ready.0 h,
        array_in names d (i.is_array d inside),
        λ v l o eq. (
          whole_in names v (i.is_int v (each_value c g e k env flow i.v (is_set q.set) s reached i.typed ready.0 h v l o eq).inside),
          λ ds j is_array is_index good.
              let inn : Up names (Array ds) t ≡ true = subst (λ (y : Datum). Up names y t ≡ true) is_array inside in
              let b : IsBounded (Array ds) = subst IsBounded is_array bounded in
              path_suits steps (k + exprs_in e) u typed.0.flow typed.1 out (item_at ds j) next typed.4 begins ready.1 (ap (Up names (item_at ds j)) same ∙ items_are_in names g.code.recur t i.ty i.element (item_at ds j) (ds, item_is ds j (index_below ds (pos j) good), inn)) (item_bounded ds j b.1),
        ),
      )
  path_suits (FieldStep from f ∷ steps) k t flow rest out d is typed begins ready inside bounded =
      let i = field_parts c.program env flow t from f typed.0 typed.2 in
      let u = typed.0.ty in
      let same : u ≡ i.ty = ap (λ (r : Reached). r.ty) i.is in
      let next : k ≡ length typed.0.flow = is ∙ sym (ap (λ (r : Reached). length r.flow) i.is) in
      let r = record_of names f t d i.all inside in
      let inn : Up names (Record r.0) t ≡ true = subst (λ (y : Datum). Up names y t ≡ true) r.1 inside in
      let b : IsBounded (Record r.0) = subst IsBounded r.1 bounded in
      let part : Up names r.2.0 u ≡ true = ap (Up names r.2.0) same ∙ values_are_in names g.code.recur f t i.ty i.taken r.2.0 (r.0, found_at r.0 f ∙ r.2.1, inn) in
      (r.0, r.1, b.0, (r.2.0, r.2.1, path_suits steps k u typed.0.flow typed.1 out r.2.0 next typed.4 begins ready part (field_bounded r.0 f r.2.0 b.1 r.2.1)))
