-- Each answer of an expression is of its kind.
use Rattle.std.proofs.Common.{◌≡◌, ℕ, ◌+◌, List, [], ◌∷◌, ◌++◌, length, Bool, true, false, Option, Some, ℤ, refl, sym, ap, ◌∙◌, subst, arith}
use Rattle.wy_lemmas.proofs.Options.{some_same as same_some}
use Rattle.wy_lemmas.proofs.Lists.{none_behind as nil_right}
use Rattle.wy_value.specs.Datum.{Datum, Null, Truth, Whole, Array, Record, no_fields, field}
use Rattle.wy_value.specs.Datum as datum
use Rattle.wy_value.specs.Seen.{data_of}
use Rattle.wy_value.specs.Values.{Rise, names_of}
use Rattle.wy_core.specs.Types.{Ty}
use Rattle.wy_core.specs.CoreTree.{Expr, NullExpr, BoolExpr, IntExpr, VarExpr, CallExpr, NegExpr, NotExpr, LenExpr, BinaryExpr, IsExpr, IndexExpr, FieldExpr, ListExpr, RepeatExpr, RecordExpr, QuantExpr, Exprs, NoExprs, MoreExprs, Fields, NoFields, MoreFields}
use Rattle.wy_types.specs.Names.{Up}
use Rattle.wy_flow_spec.specs.environment.Variables.{Environment, Changes, int_type, null_type, bool_type, type_of}
use Rattle.wy_flow_spec.specs.typing.Outcomes.{Gives}
use Rattle.wy_flow_spec.specs.typing.Contexts.{Program, Found, FoundAll, FoundFields}
use Rattle.wy_flow_spec.specs.typing.Leaves.{found}
use Rattle.wy_flow_spec.specs.typing.Operators.{right_side}
use Rattle.wy_flow_spec.specs.typing.Expressions.{TypedExpr, TypedExprs, TypedFields, none_yet, no_field_yet, one_more, field_more}
use Rattle.wy_sound_walks.specs.wy_sem.Meter.{Meter, Done, Run, ◌>>=◌, turn}
use Rattle.wy_sound_walks.specs.wy_sem.Operations.{needed, negated, denied, length_result, operated, item_of, field_of, repeated}
use Rattle.wy_sound_walks.specs.wy_sem.Expressions.{Store, slot, put, Setting, node, quantified, eval, eval_all, eval_fields}
use Rattle.wy_sound_walks.specs.wy_vc_spec.Sizes.{exprs_in}
use Rattle.wy_sound_walks.specs.wy_vc_spec.Numbered.{Node, numbered, numbered_all, numbered_fields}
use Rattle.wy_sound_kinds.specs.Bounded.{IsBounded, FieldsBounded, AllBounded}
use Rattle.wy_sound_kinds.specs.Ready.{Rules, count_of, names_in, Ready, AllReady, FieldsReady}
use Rattle.wy_sound_kinds.specs.Kinds.{HasValues, HasTypes, Kind, Rests}
use Rattle.wy_sound_kinds.specs.Laws.{AnswersHaveKinds}
use Rattle.wy_sound_kinds.proofs.frames_lemmas.EveryLemmas.{Every, every_bind, every_map, every_told, every_of, every_spend, every_needed}
use Rattle.wy_sound_kinds.proofs.TypeLemmas.{then_gives, given_is, append_assoc, AllIn, FieldsIn}
use Rattle.wy_sound_kinds.proofs.OperatorLemmas.{as_found, kind_plain, kind_int, kind_bool, negated_kind, denied_kind, length_kind, operated_kind}
use Rattle.wy_sound_kinds.proofs.NodeLemmas.{IsItsValue, its_value, IsSeen, test_kind, item_kind, field_kind, list_kind, record_kind, repeat_kind, quantified_kind, call_for, call_kind}

-- what is known of the answers of expressions, by the types behind those of which something was found before
pub record Kinds (p : Program) (all out : FoundAll) (n : ℕ) (vs : List Datum) : Type 0 where
  pub types : List Ty
  pub behind : out.types ≡ all.types ++ types
  pub inside : AllIn p.names types vs
  pub bounded : AllBounded vs
  pub many : length vs ≡ n

pub record FieldKinds (p : Program) (all out : FoundFields) (ns : List (List ℕ)) (ds : datum.Fields) : Type 0 where
  pub fields : List (List ℕ × Ty)
  pub behind : out.fields ≡ all.fields ++ fields
  pub inside : FieldsIn p.names fields ds
  pub bounded : FieldsBounded ds
  pub named : names_of ds ≡ ns

seen_of : (r : Rules) (q : Bool) (n : ℕ) (seen : ℕ → Bool) (p : Program) (w : Setting Node) (paid : Bool) (says : Ty → Datum → Bool) (rests : Rests p r w paid says) (env : Environment) (reached : env.reached ≡ true) (over : Changes) (s : Store) (h : HasTypes p.names env over seen s)
    → (e : Expr ℕ) → Ready r q n seen e → IsSeen p r w paid says rests env reached over seen s h e
seen_of r q n seen p w paid says rests env reached over s h (VarExpr at x) g = g
seen_of r q n seen p w paid says rests env reached over s h (NullExpr at) g = tt
seen_of r q n seen p w paid says rests env reached over s h (BoolExpr at b) g = tt
seen_of r q n seen p w paid says rests env reached over s h (IntExpr at z) g = tt
seen_of r q n seen p w paid says rests env reached over s h (CallExpr at f es) g = tt
seen_of r q n seen p w paid says rests env reached over s h (NegExpr at a) g = tt
seen_of r q n seen p w paid says rests env reached over s h (NotExpr at a) g = tt
seen_of r q n seen p w paid says rests env reached over s h (LenExpr at a) g = tt
seen_of r q n seen p w paid says rests env reached over s h (BinaryExpr at o a b) g = tt
seen_of r q n seen p w paid says rests env reached over s h (IsExpr at a t) g = tt
seen_of r q n seen p w paid says rests env reached over s h (IndexExpr at a b) g = tt
seen_of r q n seen p w paid says rests env reached over s h (FieldExpr at a name) g = tt
seen_of r q n seen p w paid says rests env reached over s h (ListExpr at es) g = tt
seen_of r q n seen p w paid says rests env reached over s h (RepeatExpr at a b) g = tt
seen_of r q n seen p w paid says rests env reached over s h (RecordExpr at fs) g = tt
seen_of r q n seen p w paid says rests env reached over s h (QuantExpr at all x a b body) g = tt

module _ (p : Program) (r : Rules) (w : Setting Node) (paid : Bool) (says : Ty → Datum → Bool) (rests : Rests p r w paid says) (env : Environment) (reached : env.reached ≡ true) (q : Bool) (seen : ℕ → Bool) (s : Store) (values : HasValues seen s) where
  abbrev R : Changes → Found → Datum → Type 0
  R over v d = Kind p.names env over seen s v d

  abbrev In : Changes → Type 0
  In over = HasTypes p.names env over seen s

  -- where the expression stands, the first of whose parts has this number
  abbrev place : Expr ℕ → ℕ → ℕ
  place e k = w.place (node (numbered e k))

  told : (over : Changes) (u v : Found) (d : Datum) → Gives u ≡ Gives v → R over v d → R over u d
  told over u v d e g = as_found p.names env over seen s u v d e g

  own_bounded : (x : ℕ) (d : Datum) → seen x ≡ true → slot s x ≡ Some d → IsBounded d
  own_bounded x d see e = let o = values x see in let is : o.0 ≡ d = same_some o.0 d (sym o.1 ∙ e) in subst IsBounded is o.2

  mutual
    pub kind : (e : Expr ℕ) (k : ℕ) (over : Changes) (flow : List Ty) (u : Found) → TypedExpr p env e over flow (Gives u) → Ready r q (length s) seen e → In over → (m : Meter) → Every (eval w paid (numbered e k) s m) (R over u)
    kind (NullExpr at) k over flow u typed ready h m = every_spend paid (Done Null) (R over u) (λ l. told over u (found null_type [] [] flow) Null typed (kind_plain p.names env over seen s Null null_type flow h tt refl)) m
    kind (BoolExpr at b) k over flow u typed ready h m = every_spend paid (Done (Truth b)) (R over u) (λ l. told over u (found bool_type [] [] flow) (Truth b) typed (kind_bool p.names env over seen s b flow h)) m
    kind (IntExpr at z) k over flow u typed ready h m = every_spend paid (Done (Whole z)) (R over u) (λ l. told over u (found int_type [] [] flow) (Whole z) typed (kind_int p.names env over seen s z flow h ready)) m
    kind (VarExpr at x) k over flow u typed ready h m =
        let here = place (VarExpr at x) k in
        every_spend paid (needed here (slot s x) Done) (R over u)
        (λ l. every_needed here (slot s x) Done l (R over u)
        (λ d e. told over u (found (type_of env over x) [] [] flow) d typed (kind_plain p.names env over seen s d (type_of env over x) flow h (own_bounded x d ready e) (h x d ready e)))) m
    kind (CallExpr at f es) k over flow u typed ready h m =
        let t = then_gives _ _ u typed in
        let here = place (CallExpr at f es) k in
        every_spend paid (λ l. eval_all w paid (numbered_all es k) s l >>= (λ vs j. w.call f here vs j >>= (λ v. needed here v Done))) (R over u)
        (λ l. every_bind (eval_all w paid (numbered_all es k) s l) (λ vs j. w.call f here vs j >>= (λ v. needed here v Done)) (Kinds p (none_yet flow) t.0 (count_of es)) (R over u) (kinds es k over (none_yet flow) t.0 t.1 ready.2 h l)
        (λ vs j e x.
        let inside : AllIn p.names t.0.types vs = subst (λ (ts : List Ty). AllIn p.names ts vs) (sym x.behind) x.inside in
        let these = call_for p r w paid says rests env reached over seen s h at f t.0 u vs (count_of es) ready.1 inside x.bounded x.many t.2 in
        call_kind p r w paid says rests env reached over seen s h here at f t.0 u vs j these t.2)) m
    kind (NegExpr at a) k over flow u typed ready h m =
        let t = then_gives _ _ u typed in
        let t2 = then_gives _ _ u t.2 in
        let here = place (NegExpr at a) k in
        let V = found int_type [] [] t.0.flow in
        every_spend paid (λ l. eval w paid (numbered a k) s l >>= negated here) (R over u)
        (λ l. every_bind (eval w paid (numbered a k) s l) (negated here) (R over t.0) (R over u) (kind a k over flow t.0 t.1 ready h l)
        (λ d j e kd. every_map (negated here d j) (R over V) (R over u) (negated_kind p.names env over seen s h t.0.flow here d j) (λ x g. told over u V x t2.2 g))) m
    kind (NotExpr at a) k over flow u typed ready h m =
        let t = then_gives _ _ u typed in
        let t2 = then_gives _ _ u t.2 in
        let here = place (NotExpr at a) k in
        let V = found bool_type t.0.no t.0.yes t.0.flow in
        every_spend paid (λ l. eval w paid (numbered a k) s l >>= denied here) (R over u)
        (λ l. every_bind (eval w paid (numbered a k) s l) (denied here) (R over t.0) (R over u) (kind a k over flow t.0 t.1 ready h l)
        (λ d j e kd. every_map (denied here d j) (R over V) (R over u) (denied_kind p.names env over seen s here t.0 d j kd) (λ x g. told over u V x t2.2 g))) m
    kind (LenExpr at a) k over flow u typed ready h m =
        let t = then_gives _ _ u typed in
        let t2 = then_gives _ _ u t.2 in
        let here = place (LenExpr at a) k in
        let V = found int_type [] [] t.0.flow in
        every_spend paid (λ l. eval w paid (numbered a k) s l >>= length_result here) (R over u)
        (λ l. every_bind (eval w paid (numbered a k) s l) (length_result here) (R over t.0) (R over u) (kind a k over flow t.0 t.1 ready h l)
        (λ d j e kd. every_map (length_result here d j) (R over V) (R over u) (length_kind p.names env over seen s h t.0.flow here d j kd.bounded) (λ x g. told over u V x t2.2 g))) m
    kind (BinaryExpr at o a b) k over flow u typed ready h m =
        let t = then_gives _ _ u typed in
        let t2 = then_gives _ _ u t.2 in
        let here = place (BinaryExpr at o a b) k in
        let right : Run Datum = eval w paid (numbered b (k + exprs_in a)) s in
        every_spend paid (λ l. eval w paid (numbered a k) s l >>= operated o here right) (R over u)
        (λ l. every_bind (eval w paid (numbered a k) s l) (operated o here right) (R over t.0) (R over u) (kind a k over flow t.0 t.1 ready.0 h l)
        (λ d j e kd. operated_kind p.names rests.recur env reached over seen s h at here o right d j t.0 t2.0 u kd t2.2
        (λ i g. kind b (k + exprs_in a) (right_side over o t.0) t.0.flow t2.0 t2.1 ready.1 g i))) m
    kind (IsExpr at a y) k over flow u typed ready h m =
        let t = then_gives _ _ u typed in
        let P : Datum → Type 0 = λ d. R over t.0 d × IsItsValue a s d in
        every_spend paid (λ l. eval w paid (numbered a k) s l >>= (λ v j. w.test paid y v j >>= (λ b. Done (Truth b)))) (R over u)
        (λ l. every_bind (eval w paid (numbered a k) s l) (λ v j. w.test paid y v j >>= (λ b. Done (Truth b))) P (R over u)
        (every_told (eval w paid (numbered a k) s l) P
        (λ d j e. (every_of (eval w paid (numbered a k) s l) (R over t.0) (kind a k over flow t.0 t.1 ready.1 h l) d j e, every_of (eval w paid (numbered a k) s l) (IsItsValue a s) (its_value w paid a k s l) d j e)))
        (λ d j e g. test_kind p r w paid says rests env reached over seen s h a at t.0 u y d j ready.0 (seen_of r q (length s) seen p w paid says rests env reached over s h a ready.1) g.1 g.0 t.2)) m
    kind (IndexExpr at a b) k over flow u typed ready h m =
        let t = then_gives _ _ u typed in
        let t2 = then_gives _ _ u t.2 in
        let here = place (IndexExpr at a b) k in
        let right : Run Datum = eval w paid (numbered b (k + exprs_in a)) s in
        every_spend paid (λ l. eval w paid (numbered a k) s l >>= (λ v j. right j >>= item_of here v)) (R over u)
        (λ l. every_bind (eval w paid (numbered a k) s l) (λ v j. right j >>= item_of here v) (R over t.0) (R over u) (kind a k over flow t.0 t.1 ready.0 h l)
        (λ d j e kd. every_bind (right j) (item_of here d) (R over t2.0) (R over u) (kind b (k + exprs_in a) over t.0.flow t2.0 t2.1 ready.1 h j)
        (λ c i f kc. item_kind p r w paid says rests env reached over seen s h here at t.0 t2.0 u d c i kd t2.2))) m
    kind (FieldExpr at a name) k over flow u typed ready h m =
        let t = then_gives _ _ u typed in
        let here = place (FieldExpr at a name) k in
        every_spend paid (λ l. eval w paid (numbered a k) s l >>= (λ v. field_of here v name)) (R over u)
        (λ l. every_bind (eval w paid (numbered a k) s l) (λ v. field_of here v name) (R over t.0) (R over u) (kind a k over flow t.0 t.1 ready h l)
        (λ d j e kd. field_kind p r w paid says rests env reached over seen s h here at name t.0 u d j kd t.2)) m
    kind (ListExpr at es) k over flow u typed ready h m =
        let t = then_gives _ _ u typed in
        every_spend paid (λ l. eval_all w paid (numbered_all es k) s l >>= (λ vs. Done (Array (data_of vs)))) (R over u)
        (λ l. every_bind (eval_all w paid (numbered_all es k) s l) (λ vs. Done (Array (data_of vs))) (Kinds p (none_yet flow) t.0 (count_of es)) (R over u) (kinds es k over (none_yet flow) t.0 t.1 ready.1 h l)
        (λ vs j e x.
        let inside : AllIn p.names t.0.types vs = subst (λ (ts : List Ty). AllIn p.names ts vs) (sym x.behind) x.inside in
        list_kind p r w paid says rests env reached over seen s h at t.0 u vs (count_of es) inside x.bounded x.many ready.0 t.2)) m
    kind (RepeatExpr at a b) k over flow u typed ready h m =
        let t = then_gives _ _ u typed in
        let t2 = then_gives _ _ u t.2 in
        let here = place (RepeatExpr at a b) k in
        let right : Run Datum = eval w paid (numbered b (k + exprs_in a)) s in
        every_spend paid (λ l. eval w paid (numbered a k) s l >>= (λ v j. right j >>= repeated here v)) (R over u)
        (λ l. every_bind (eval w paid (numbered a k) s l) (λ v j. right j >>= repeated here v) (R over t.0) (R over u) (kind a k over flow t.0 t.1 ready.0 h l)
        (λ d j e kd. every_bind (right j) (repeated here d) (R over t2.0) (R over u) (kind b (k + exprs_in a) over t.0.flow t2.0 t2.1 ready.1 h j)
        (λ c i f kc. repeat_kind p r w paid says rests env reached over seen s h here at t.0 t2.0 u d c i kd t2.2))) m
    kind (RecordExpr at fs) k over flow u typed ready h m =
        let t = then_gives _ _ u typed in
        every_spend paid (λ l. eval_fields w paid (numbered_fields fs k) s l >>= (λ ds. Done (Record ds))) (R over u)
        (λ l. every_bind (eval_fields w paid (numbered_fields fs k) s l) (λ ds. Done (Record ds)) (FieldKinds p (no_field_yet flow) t.0 (names_in fs)) (R over u) (field_kinds fs k over (no_field_yet flow) t.0 t.1 ready.1 h l)
        (λ ds j e x.
        let inside : FieldsIn p.names t.0.fields ds = subst (λ (ts : List (List ℕ × Ty)). FieldsIn p.names ts ds) (sym x.behind) x.inside in
        record_kind p r w paid says rests env reached over seen s h at t.0 u ds inside (subst Rise (sym x.named) ready.0, x.bounded) t.2)) m
    kind (QuantExpr at all x a b body) k over flow u typed ready h m =
        let t = then_gives _ _ u typed in
        let t2 = then_gives _ _ u t.2 in
        let t3 = then_gives _ _ u t2.2 in
        let t4 = then_gives _ _ u t3.2 in
        let t5 = then_gives _ _ u t4.2 in
        let t6 = then_gives _ _ u t5.2 in
        let V = found bool_type [] [] t3.0.flow in
        let here = place (QuantExpr at all x a b body) k in
        let right : Run Datum = eval w paid (numbered b (k + exprs_in a)) s in
        let inner : ℤ → Run Datum = λ z. turn w.limit paid (eval w paid (numbered body (k + exprs_in a + exprs_in b)) (put s x (Some (Whole z)))) in
        every_spend paid (λ l. eval w paid (numbered a k) s l >>= (λ v j. right j >>= (λ c. quantified all here inner v c))) (R over u)
        (λ l. every_bind (eval w paid (numbered a k) s l) (λ v j. right j >>= (λ c. quantified all here inner v c)) (R over t.0) (R over u) (kind a k over flow t.0 t.1 ready.1 h l)
        (λ d j e kd. every_bind (right j) (λ c. quantified all here inner d c) (R over t2.0) (R over u) (kind b (k + exprs_in a) over t.0.flow t2.0 t2.1 ready.2 h j)
        (λ c i f kc. every_map (quantified all here inner d c i) (R over V) (R over u) (quantified_kind p r w paid says rests env reached over seen s h all here inner t3.0.flow d c i)
        (λ y g. told over u V y t6.2 g)))) m

    pub kinds : (es : Exprs ℕ) (k : ℕ) (over : Changes) (all out : FoundAll) → TypedExprs p env es over all (Gives out) → AllReady r q (length s) seen es → In over → (m : Meter) → Every (eval_all w paid (numbered_all es k) s m) (Kinds p all out (count_of es))
    kinds NoExprs k over all out typed ready h m = record { types = []; behind = ap (λ (x : FoundAll). x.types) (given_is out all typed) ∙ sym (nil_right all.types); inside = tt; bounded = tt; many = refl }
    kinds (MoreExprs e es) k over all out typed ready h m =
        let t = then_gives _ _ out typed in
        every_bind (eval w paid (numbered e k) s m) (λ d j. eval_all w paid (numbered_all es (k + exprs_in e)) s j >>= (λ vs. Done (d ∷ vs))) (R over t.0) (Kinds p all out (count_of es + 1)) (kind e k over all.flow t.0 t.1 ready.0 h m)
        (λ d j f kd. every_bind (eval_all w paid (numbered_all es (k + exprs_in e)) s j) (λ vs. Done (d ∷ vs)) (Kinds p (one_more t.0 all) out (count_of es)) (Kinds p all out (count_of es + 1))
        (kinds es (k + exprs_in e) over (one_more t.0 all) out t.2 ready.1 h j)
        (λ vs i g x. record {
          types = t.0.ty ∷ x.types;
          behind = x.behind ∙ append_assoc all.types (t.0.ty ∷ []) x.types;
          inside = (kd.inside, x.inside);
          bounded = (kd.bounded, x.bounded);
          many = let n = x.many in omega (arith, n);
        }))

    pub field_kinds : (fs : Fields ℕ) (k : ℕ) (over : Changes) (all out : FoundFields) → TypedFields p env fs over all (Gives out) → FieldsReady r q (length s) seen fs → In over → (m : Meter) → Every (eval_fields w paid (numbered_fields fs k) s m) (FieldKinds p all out (names_in fs))
    field_kinds NoFields k over all out typed ready h m = record { fields = []; behind = ap (λ (x : FoundFields). x.fields) (given_is out all typed) ∙ sym (nil_right all.fields); inside = tt; bounded = tt; named = refl }
    field_kinds (MoreFields name e fs) k over all out typed ready h m =
        let t = then_gives _ _ out typed in
        every_bind (eval w paid (numbered e k) s m) (λ d j. eval_fields w paid (numbered_fields fs (k + exprs_in e)) s j >>= (λ ds. Done (field name d ds))) (R over t.0) (FieldKinds p all out (name ∷ names_in fs)) (kind e k over all.flow t.0 t.1 ready.0 h m)
        (λ d j f kd. every_bind (eval_fields w paid (numbered_fields fs (k + exprs_in e)) s j) (λ ds. Done (field name d ds)) (FieldKinds p (field_more name t.0 all) out (names_in fs)) (FieldKinds p all out (name ∷ names_in fs))
        (field_kinds fs (k + exprs_in e) over (field_more name t.0 all) out t.2 ready.1 h j)
        (λ ds i g x. record {
          fields = (name, t.0.ty) ∷ x.fields;
          behind = x.behind ∙ append_assoc all.fields ((name, t.0.ty) ∷ []) x.fields;
          inside = (refl, kd.inside, x.inside);
          bounded = (kd.bounded, x.bounded);
          named = ap (λ (l : List (List ℕ)). name ∷ l) x.named;
        }))

pub answers_are : AnswersHaveKinds
answers_are p r w paid says rests env reached e number over flow v q seen s typed ready values h d m k is =
    every_of (eval w paid (numbered e number) s m) (Kind p.names env over seen s v) (kind p r w paid says rests env reached q seen s values e number over flow v typed ready h m) d k is
