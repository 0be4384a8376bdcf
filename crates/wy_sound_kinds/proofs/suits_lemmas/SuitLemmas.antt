-- What the evaluation of a typed expression meets.
use Rattle.std.proofs.Common.{◌≡◌, ℕ, ◌+◌, ◌<◌, List, [], ◌∷◌, ◌++◌, length, Bool, true, false, ◌&&◌, ◌||◌, Option, Some, None, ℤ, int_le, int_lt, refl, sym, ap, ◌∙◌, subst, arith}
use Rattle.std.specs.Prelude.{slice_get}
use Rattle.wy_lemmas.proofs.Choices.{no_call as no_quiet}
use Rattle.wy_value.specs.Datum.{Datum, Null, Truth, Whole, Array, Record}
use Rattle.wy_value.specs.Numbers.{is_int}
use Rattle.wy_core.specs.Types.{Ty, VoidTy}
use Rattle.wy_core.specs.CoreTree.{Expr, NullExpr, BoolExpr, IntExpr, VarExpr, CallExpr, NegExpr, NotExpr, LenExpr, BinaryExpr, IsExpr, IndexExpr, FieldExpr, ListExpr, RepeatExpr, RecordExpr, QuantExpr, Exprs, NoExprs, MoreExprs, Fields, NoFields, MoreFields}
use Rattle.wy_core.specs.declared.expressions.Op.{Op}
use Rattle.wy_core.specs.declared.expressions.Op.TheVariants.{Add, Sub, Mul, Div, Mod, Equal, Less, LessEqual, Greater, GreaterEqual, And, Or}
use Rattle.wy_types.specs.Names.{Up}
use Rattle.wy_flow_spec.specs.environment.Variables.{Environment, Changes, int_type}
use Rattle.wy_flow_spec.specs.typing.Outcomes.{Gives}
use Rattle.wy_flow_spec.specs.typing.Contexts.{Program, Found, FoundAll, FoundFields}
use Rattle.wy_flow_spec.specs.typing.Operators.{Binary, right_side}
use Rattle.wy_flow_spec.specs.typing.Expressions.{TypedExpr, TypedExprs, TypedFields, none_yet, no_field_yet, one_more, field_more}
use Rattle.wy_sound_walks.specs.wy_sem.Meter.{Meter, Outcome, Done, Fault, More, Spent}
use Rattle.wy_sound_walks.specs.wy_sem.Expressions as sem
use Rattle.wy_sound_walks.specs.wy_sem.Expressions.{Store, put, node, eval, eval_all}
use Rattle.wy_sound_walks.specs.wy_vc_spec.Named.{is_number_type}
use Rattle.wy_sound_walks.specs.wy_vc_spec.Numbered.{Node, numbered, numbered_all, numbered_fields}
use Rattle.wy_sound_walks.specs.wy_vc_spec.Programs.{is_number_at}
use Rattle.wy_sound_walks.specs.wy_vc_spec.Sizes.{exprs_in}
use Rattle.wy_sound_walks.specs.wy_sound_terms.operations.Kinds.{IsWhole, IsTruth, AreComparable, Takes}
use Rattle.wy_sound_walks.specs.expressions.Types.{is_in}
use Rattle.wy_sound_walks.specs.expressions.Suits.{Kinds, Each, TakesLeft, GoesOn, IsBetween, Suits, AllSuit, FieldsSuit}
use Rattle.wy_sound_walks.specs.expressions.Laws.{takes_nothing}
use Rattle.wy_sound_kinds.specs.Bounded.{IsBounded}
use Rattle.wy_sound_kinds.specs.Ready.{Rules, with_one, count_of, Ready, AllReady, FieldsReady}
use Rattle.wy_sound_kinds.specs.Kinds.{HasValues, HasTypes, Kind, AreFor, Rests}
use Rattle.wy_sound_kinds.proofs.frames_lemmas.EveryLemmas.{Every, every_of}
use Rattle.wy_sound_kinds.proofs.DatumLemmas.{between_is_int}
use Rattle.wy_sound_kinds.proofs.TypeLemmas.{then_gives, AllIn, put_length, values_bound, types_bound}
use Rattle.wy_sound_kinds.proofs.KindLemmas as typed
use Rattle.wy_sound_kinds.proofs.KindLemmas.{kind, kinds}
use Rattle.wy_sound_kinds.proofs.NodeLemmas.{call_for}
use Rattle.wy_sound_kinds.specs.suits.Laws.{Begins, Asks, TellsNumbers, CodeSuits, ContractsSuit}
use Rattle.wy_sound_kinds.proofs.suits_lemmas.FlowLemmas.{begins_more, Flow, flow_length, flow_begins, flow_of, flows_of, field_flows, type_at_number, ends_begin, ends_neg, ends_not, ends_len, ends_call, ends_binary, ends_test, ends_index, ends_field, ends_list, ends_repeat, ends_record, ends_quant}
use Rattle.wy_sound_kinds.proofs.suits_lemmas.KindLemmas.{whole_in, truth_in, array_in, number_type_in, field_of_all}

-- numbers are compared as numbers where both are
comparable : (b c : Bool) (d e : Datum) → (b ≡ true → IsWhole d) → (c ≡ true → IsWhole e) → AreComparable (b && c) d e
comparable true true d e h g = (h refl, g refl)
comparable true false d e h g = tt
comparable false c d e h g = tt

module _ (p : Program) (r : Rules) (w : sem.Setting Node) (paid : Bool) (says : Ty → Datum → Bool) (rests : Rests p r w paid says) (asks : Asks r w paid says) (is_number : Node → Bool) (whole : List Ty) (tells : TellsNumbers is_number whole) (env : Environment) (reached : env.reached ≡ true)
    (takes : ℕ → List Datum → Type 0) where
  abbrev W : Kinds Node
  W = record { setting = w; paid = paid; is_number = is_number; says = says; takes = takes }

  -- where calls are allowed, they take arguments of the types of their parameters
  abbrev Taking : Bool → Type 0
  Taking q = q ≡ false → (f : ℕ) (vs : List Datum) → AreFor p r f vs → takes f vs

  module _ (seen : ℕ → Bool) (s : Store) (values : HasValues seen s) (q : Bool) where
    abbrev In : Changes → Type 0
    In over = HasTypes p.names env over seen s

    -- each answer is of its kind
    pub each_kind : (e : Expr ℕ) (k : ℕ) (over : Changes) (flow : List Ty) (u : Found) → TypedExpr p env e over flow (Gives u) → Ready r q (length s) seen e → In over → Each W (numbered e k) s (Kind p.names env over seen s u)
    each_kind e k over flow u t ready h d m j is = every_of (eval w paid (numbered e k) s m) (Kind p.names env over seen s u) (kind p r w paid says rests env reached q seen s values e k over flow u t ready h m) d j is

    -- an expression that is taken for a number is one
    pub is_number_of : (e : Expr ℕ) (k : ℕ) (flow : List Ty) (u : Found) (d : Datum) → k ≡ length flow → Flow e flow u → Begins u.flow whole → is_number (node (numbered e k)) ≡ true → Up p.names d u.ty ≡ true → IsWhole d
    is_number_of e k flow u d is h b n inside =
        number_type_in p.names d u.ty (ap is_number_type (sym (type_at_number e k flow whole u is h b)) ∙ (sym (tells (node (numbered e k))) ∙ n)) inside

  -- the right operand is evaluated under the changes of the left one
  right_types : (seen : ℕ → Bool) (s : Store) (o : Op) (over : Changes) (a : Found) (d : Datum) → HasTypes p.names env over seen s → Kind p.names env over seen s a d → GoesOn o d → HasTypes p.names env (right_side over o a) seen s
  right_types seen s And over a d h k g = k.if_true g
  right_types seen s Or over a d h k g = k.if_false g
  right_types seen s Add over a d h k g = h
  right_types seen s Sub over a d h k g = h
  right_types seen s Mul over a d h k g = h
  right_types seen s Div over a d h k g = h
  right_types seen s Mod over a d h k g = h
  right_types seen s Equal over a d h k g = h
  right_types seen s Less over a d h k g = h
  right_types seen s LessEqual over a d h k g = h
  right_types seen s Greater over a d h k g = h
  right_types seen s GreaterEqual over a d h k g = h

  takes_left : (node : ℕ) (o : Op) (over : Changes) (a b u : Found) (d : Datum) → Binary p.names node env over o a b (Gives u) → Up p.names d a.ty ≡ true → TakesLeft o d
  takes_left node And over a b u d h e = truth_in p.names d ((then_gives _ _ _ (then_gives _ _ u h).1).1.1 d e)
  takes_left node Or over a b u d h e = truth_in p.names d ((then_gives _ _ _ (then_gives _ _ u h).1).1.1 d e)
  takes_left node Add over a b u d h e = tt
  takes_left node Sub over a b u d h e = tt
  takes_left node Mul over a b u d h e = tt
  takes_left node Div over a b u d h e = tt
  takes_left node Mod over a b u d h e = tt
  takes_left node Equal over a b u d h e = tt
  takes_left node Less over a b u d h e = tt
  takes_left node LessEqual over a b u d h e = tt
  takes_left node Greater over a b u d h e = tt
  takes_left node GreaterEqual over a b u d h e = tt

  takes_both : (node : ℕ) (o : Op) (over : Changes) (a b u : Found) (d e : Datum) (m n : Bool) → Binary p.names node env over o a b (Gives u) → Up p.names d a.ty ≡ true → Up p.names e b.ty ≡ true → GoesOn o d
      → (m ≡ true → IsWhole d) → (n ≡ true → IsWhole e) → Takes o (m && n) d e
  takes_both node And over a b u d e m n h x y g dm en = let t = then_gives _ _ _ (then_gives _ _ u h).1 in (g, truth_in p.names e (t.2.1 e y))
  takes_both node Or over a b u d e m n h x y g dm en = let t = then_gives _ _ _ (then_gives _ _ u h).1 in (g, truth_in p.names e (t.2.1 e y))
  takes_both node Equal over a b u d e m n h x y g dm en = comparable m n d e dm en
  takes_both node Add over a b u d e m n h x y g dm en = let t = then_gives _ _ _ (then_gives _ _ u h).1 in (whole_in p.names d (t.1.1 d x), whole_in p.names e (t.2.1 e y))
  takes_both node Sub over a b u d e m n h x y g dm en = let t = then_gives _ _ _ (then_gives _ _ u h).1 in (whole_in p.names d (t.1.1 d x), whole_in p.names e (t.2.1 e y))
  takes_both node Mul over a b u d e m n h x y g dm en = let t = then_gives _ _ _ (then_gives _ _ u h).1 in (whole_in p.names d (t.1.1 d x), whole_in p.names e (t.2.1 e y))
  takes_both node Div over a b u d e m n h x y g dm en = let t = then_gives _ _ _ (then_gives _ _ u h).1 in (whole_in p.names d (t.1.1 d x), whole_in p.names e (t.2.1 e y))
  takes_both node Mod over a b u d e m n h x y g dm en = let t = then_gives _ _ _ (then_gives _ _ u h).1 in (whole_in p.names d (t.1.1 d x), whole_in p.names e (t.2.1 e y))
  takes_both node Less over a b u d e m n h x y g dm en = let t = then_gives _ _ _ (then_gives _ _ u h).1 in (whole_in p.names d (t.1.1 d x), whole_in p.names e (t.2.1 e y))
  takes_both node LessEqual over a b u d e m n h x y g dm en = let t = then_gives _ _ _ (then_gives _ _ u h).1 in (whole_in p.names d (t.1.1 d x), whole_in p.names e (t.2.1 e y))
  takes_both node Greater over a b u d e m n h x y g dm en = let t = then_gives _ _ _ (then_gives _ _ u h).1 in (whole_in p.names d (t.1.1 d x), whole_in p.names e (t.2.1 e y))
  takes_both node GreaterEqual over a b u d e m n h x y g dm en = let t = then_gives _ _ _ (then_gives _ _ u h).1 in (whole_in p.names d (t.1.1 d x), whole_in p.names e (t.2.1 e y))

  mutual
    pub suits : (e : Expr ℕ) (k : ℕ) (over : Changes) (flow : List Ty) (u : Found) (q : Bool) (seen : ℕ → Bool) (s : Store) → k ≡ length flow → TypedExpr p env e over flow (Gives u) → Begins u.flow whole → Ready r q (length s) seen e → Taking q → HasValues seen s → HasTypes p.names env over seen s
        → Suits W q seen (numbered e k) s
    suits (NullExpr at) k over flow u q seen s is t b ready g values h = tt
    suits (BoolExpr at c) k over flow u q seen s is t b ready g values h = tt
    suits (IntExpr at z) k over flow u q seen s is t b ready g values h = tt
    suits (VarExpr at x) k over flow u q seen s is t b ready g values h = let o = values x ready in (ready, (o.0, o.1))
    suits (CallExpr at f es) k over flow u q seen s is t b ready g values h =
        let x = then_gives _ _ u t in (
          ready.0,
          all_suit es k over (none_yet flow) x.0 q seen s is x.1 (ends_begin x.0.flow whole u (ends_call p at f x.0 u x.2) b) ready.2 g values h,
          λ vs m j e.
              let y = every_of (eval_all w paid (numbered_all es k) s m) (typed.Kinds p (none_yet flow) x.0 (count_of es)) (kinds p r w paid says rests env reached q seen s values es k over (none_yet flow) x.0 x.1 ready.2 h m) vs j e in
              let inside : AllIn p.names x.0.types vs = subst (λ (ts : List Ty). AllIn p.names ts vs) (sym y.behind) y.inside in
              g ready.0 f vs (call_for p r w paid says rests env reached over seen s h at f x.0 u vs (count_of es) ready.1 inside y.bounded y.many x.2),
        )
    suits (NegExpr at a) k over flow u q seen s is t b ready g values h =
        let x = then_gives _ _ u t in let c = then_gives _ _ u x.2 in (
          suits a k over flow x.0 q seen s is x.1 (ends_begin x.0.flow whole u (ends_neg p.names at x.0 u x.2) b) ready g values h,
          λ d m j e. whole_in p.names d (c.1.1 d (each_kind seen s values q a k over flow x.0 x.1 ready h d m j e).inside),
        )
    suits (NotExpr at a) k over flow u q seen s is t b ready g values h =
        let x = then_gives _ _ u t in let c = then_gives _ _ u x.2 in (
          suits a k over flow x.0 q seen s is x.1 (ends_begin x.0.flow whole u (ends_not p.names at x.0 u x.2) b) ready g values h,
          λ d m j e. truth_in p.names d (c.1.1 d (each_kind seen s values q a k over flow x.0 x.1 ready h d m j e).inside),
        )
    suits (LenExpr at a) k over flow u q seen s is t b ready g values h =
        let x = then_gives _ _ u t in let c = then_gives _ _ u x.2 in (
          suits a k over flow x.0 q seen s is x.1 (ends_begin x.0.flow whole u (ends_len p.names at x.0 u x.2) b) ready g values h,
          λ d m j e. array_in p.names d (c.1.1 d (each_kind seen s values q a k over flow x.0 x.1 ready h d m j e).inside),
        )
    suits (BinaryExpr at o a c) k over flow u q seen s is t b ready g values h =
        let x = then_gives _ _ u t in let y = then_gives _ _ u x.2 in
        let left = flow_of p env a over flow x.0 x.1 in
        let right = flow_of p env c (right_side over o x.0) x.0.flow y.0 y.1 in
        let behind = ends_begin y.0.flow whole u (ends_binary p.names at env over o x.0 y.0 u y.2) b in
        let before = begins_more x.0.flow y.0.flow whole (flow_begins c x.0.flow y.0 right) behind in
        let next : k + exprs_in a ≡ length x.0.flow = ap (λ (n : ℕ). n + exprs_in a) is ∙ sym (flow_length a flow x.0 left) in (
          suits a k over flow x.0 q seen s is x.1 before ready.0 g values h,
          (λ d m j e. takes_left at o over x.0 y.0 u d y.2 (each_kind seen s values q a k over flow x.0 x.1 ready.0 h d m j e).inside),
          λ d m j e go.
              let kd = each_kind seen s values q a k over flow x.0 x.1 ready.0 h d m j e in
              let there = right_types seen s o over x.0 d h kd go in (
                suits c (k + exprs_in a) (right_side over o x.0) x.0.flow y.0 q seen s next y.1 behind ready.1 g values there,
                λ f i l ef.
                    let kf = each_kind seen s values q c (k + exprs_in a) (right_side over o x.0) x.0.flow y.0 y.1 ready.1 there f i l ef in
                    takes_both at o over x.0 y.0 u d f (is_number (node (numbered a k))) (is_number (node (numbered c (k + exprs_in a)))) y.2 kd.inside kf.inside go
                    (λ n. is_number_of seen s values q a k flow x.0 d is left before n kd.inside)
                    (λ n. is_number_of seen s values q c (k + exprs_in a) x.0.flow y.0 f next right behind n kf.inside),
              ),
        )
    suits (IsExpr at a y) k over flow u q seen s is t b ready g values h =
        let x = then_gives _ _ u t in (
          asks.written y ready.0,
          suits a k over flow x.0 q seen s is x.1 (ends_begin x.0.flow whole u (ends_test p.names at a x.0 u y x.2) b) ready.1 g values h,
          λ d m j e i. asks.answers y d i ready.0 (each_kind seen s values q a k over flow x.0 x.1 ready.1 h d m j e).bounded,
        )
    suits (IndexExpr at a c) k over flow u q seen s is t b ready g values h =
        let x = then_gives _ _ u t in let y = then_gives _ _ u x.2 in
        let z = then_gives _ _ u y.2 in let of_array = then_gives _ _ z.0 z.1 in let of_index = then_gives _ _ z.0 of_array.2 in
        let left = flow_of p env a over flow x.0 x.1 in
        let right = flow_of p env c over x.0.flow y.0 y.1 in
        let behind = ends_begin y.0.flow whole u (ends_index p.names at x.0 y.0 u y.2) b in
        let before = begins_more x.0.flow y.0.flow whole (flow_begins c x.0.flow y.0 right) behind in
        let next : k + exprs_in a ≡ length x.0.flow = ap (λ (n : ℕ). n + exprs_in a) is ∙ sym (flow_length a flow x.0 left) in (
          suits a k over flow x.0 q seen s is x.1 before ready.0 g values h,
          suits c (k + exprs_in a) over x.0.flow y.0 q seen s next y.1 behind ready.1 g values h,
          (λ d m j e. array_in p.names d (of_array.1.1 d (each_kind seen s values q a k over flow x.0 x.1 ready.0 h d m j e).inside)),
          λ d m j e. whole_in p.names d (of_index.1.1 d (each_kind seen s values q c (k + exprs_in a) over x.0.flow y.0 y.1 ready.1 h d m j e).inside),
        )
    suits (FieldExpr at a name) k over flow u q seen s is t b ready g values h =
        let x = then_gives _ _ u t in let c = then_gives _ _ u x.2 in (
          suits a k over flow x.0 q seen s is x.1 (ends_begin x.0.flow whole u (ends_field p.names at x.0 u name x.2) b) ready g values h,
          λ d m j e. field_of_all p.names name x.0.ty d c.1.1 (each_kind seen s values q a k over flow x.0 x.1 ready h d m j e).inside,
        )
    suits (ListExpr at es) k over flow u q seen s is t b ready g values h =
        let x = then_gives _ _ u t in
        all_suit es k over (none_yet flow) x.0 q seen s is x.1 (ends_begin x.0.flow whole u (ends_list p.names at x.0 u x.2) b) ready.1 g values h
    suits (RepeatExpr at a c) k over flow u q seen s is t b ready g values h =
        let x = then_gives _ _ u t in let y = then_gives _ _ u x.2 in let z = then_gives _ _ u y.2 in
        let left = flow_of p env a over flow x.0 x.1 in
        let right = flow_of p env c over x.0.flow y.0 y.1 in
        let behind = ends_begin y.0.flow whole u (ends_repeat p.names at x.0 y.0 u y.2) b in
        let before = begins_more x.0.flow y.0.flow whole (flow_begins c x.0.flow y.0 right) behind in
        let next : k + exprs_in a ≡ length x.0.flow = ap (λ (n : ℕ). n + exprs_in a) is ∙ sym (flow_length a flow x.0 left) in (
          suits a k over flow x.0 q seen s is x.1 before ready.0 g values h,
          suits c (k + exprs_in a) over x.0.flow y.0 q seen s next y.1 behind ready.1 g values h,
          λ d m j e. whole_in p.names d (z.1.1 d (each_kind seen s values q c (k + exprs_in a) over x.0.flow y.0 y.1 ready.1 h d m j e).inside),
        )
    suits (RecordExpr at fs) k over flow u q seen s is t b ready g values h =
        let x = then_gives _ _ u t in
        fields_suit fs k over (no_field_yet flow) x.0 q seen s is x.1 (ends_begin x.0.flow whole u (ends_record p.names at x.0 u x.2) b) ready.1 g values h
    suits (QuantExpr at all v a c body) k over flow u q seen s is t b ready g values h =
        let x = then_gives _ _ u t in let y = then_gives _ _ u x.2 in let z = then_gives _ _ u y.2 in
        let of_body = then_gives _ _ u z.2 in let of_from = then_gives _ _ u of_body.2 in let of_to = then_gives _ _ u of_from.2 in
        let more = over ++ (v, int_type) ∷ [] in
        let left = flow_of p env a over flow x.0 x.1 in
        let right = flow_of p env c over x.0.flow y.0 y.1 in
        let last = flow_of p env body more y.0.flow z.0 z.1 in
        let behind = ends_begin z.0.flow whole u (ends_quant p.names at x.0 y.0 z.0 u z.2) b in
        let between = begins_more y.0.flow z.0.flow whole (flow_begins body y.0.flow z.0 last) behind in
        let before = begins_more x.0.flow y.0.flow whole (flow_begins c x.0.flow y.0 right) between in
        let next : k + exprs_in a ≡ length x.0.flow = ap (λ (n : ℕ). n + exprs_in a) is ∙ sym (flow_length a flow x.0 left) in
        let third : k + exprs_in a + exprs_in c ≡ length y.0.flow = ap (λ (n : ℕ). n + exprs_in c) next ∙ sym (flow_length c x.0.flow y.0 right) in (
          suits a k over flow x.0 q seen s is x.1 before ready.1 g values h,
          suits c (k + exprs_in a) over x.0.flow y.0 q seen s next y.1 between ready.2 g values h,
          (λ d m j e. whole_in p.names d (of_from.1.1 d (each_kind seen s values q a k over flow x.0 x.1 ready.1 h d m j e).inside)),
          (λ d m j e. whole_in p.names d (of_to.1.1 d (each_kind seen s values q c (k + exprs_in a) over x.0.flow y.0 y.1 ready.2 h d m j e).inside)),
          λ i o.
              let low = (each_kind seen s values q a k over flow x.0 x.1 ready.1 h (Whole o.low) o.first o.second o.left).bounded in
              let high = (each_kind seen s values q c (k + exprs_in a) over x.0.flow y.0 y.1 ready.2 h (Whole o.high) o.second o.third o.right).bounded in
              let int : is_int i ≡ true = between_is_int o.low o.high i low high o.from o.below in
              let now = put s v (Some (Whole i)) in
              let here : Ready r true (length now) (with_one v seen) body = subst (λ (n : ℕ). Ready r true n (with_one v seen) body) (sym (put_length s v (Some (Whole i)))) ready.3 in
              let those = values_bound seen s v i ready.0 int values in
              let there = types_bound seen s v i ready.0 p.names env over reached h in (
                suits body (k + exprs_in a + exprs_in c) more y.0.flow z.0 true (with_one v seen) now third z.1 behind here (λ e. no_quiet e) those there,
                λ d m j e. truth_in p.names d (of_body.1.1 d (each_kind (with_one v seen) now those true body (k + exprs_in a + exprs_in c) more y.0.flow z.0 z.1 here there d m j e).inside),
              ),
        )

    pub all_suit : (es : Exprs ℕ) (k : ℕ) (over : Changes) (all out : FoundAll) (q : Bool) (seen : ℕ → Bool) (s : Store) → k ≡ length all.flow → TypedExprs p env es over all (Gives out) → Begins out.flow whole → AllReady r q (length s) seen es → Taking q → HasValues seen s → HasTypes p.names env over seen s
        → AllSuit W q seen (numbered_all es k) s
    all_suit NoExprs k over all out q seen s is t b ready g values h = tt
    all_suit (MoreExprs e es) k over all out q seen s is t b ready g values h =
        let x = then_gives _ _ out t in
        let rest = flows_of p env es over (one_more x.0 all) out x.2 in
        let next : k + exprs_in e ≡ length x.0.flow = ap (λ (n : ℕ). n + exprs_in e) is ∙ sym (flow_length e all.flow x.0 (flow_of p env e over all.flow x.0 x.1)) in
        (suits e k over all.flow x.0 q seen s is x.1 (begins_more x.0.flow out.flow whole rest.begins b) ready.0 g values h, all_suit es (k + exprs_in e) over (one_more x.0 all) out q seen s next x.2 b ready.1 g values h)

    pub fields_suit : (fs : Fields ℕ) (k : ℕ) (over : Changes) (all out : FoundFields) (q : Bool) (seen : ℕ → Bool) (s : Store) → k ≡ length all.flow → TypedFields p env fs over all (Gives out) → Begins out.flow whole → FieldsReady r q (length s) seen fs → Taking q → HasValues seen s → HasTypes p.names env over seen s
        → FieldsSuit W q seen (numbered_fields fs k) s
    fields_suit NoFields k over all out q seen s is t b ready g values h = tt
    fields_suit (MoreFields name e fs) k over all out q seen s is t b ready g values h =
        let x = then_gives _ _ out t in
        let rest = field_flows p env fs over (field_more name x.0 all) out x.2 in
        let next : k + exprs_in e ≡ length x.0.flow = ap (λ (n : ℕ). n + exprs_in e) is ∙ sym (flow_length e all.flow x.0 (flow_of p env e over all.flow x.0 x.1)) in
        (suits e k over all.flow x.0 q seen s is x.1 (begins_more x.0.flow out.flow whole rest.begins b) ready.0 g values h, fields_suit fs (k + exprs_in e) over (field_more name x.0 all) out q seen s next x.2 b ready.1 g values h)

pub code_suits : CodeSuits
code_suits p r w paid says rests asks is_number whole tells env reached e over flow v q seen s t b ready values h =
    suits p r w paid says rests asks is_number whole tells env reached (AreFor p r) e (length flow) over flow v q seen s refl t b ready (λ none f vs these. these) values h

pub contracts_suit : ContractsSuit
contracts_suit p r w paid conditions members rests asks whole tells env reached e over flow v seen s t b ready values h =
    suits p r w paid (is_in members) rests asks conditions.is_number whole tells env reached takes_nothing e (length flow) over flow v true seen s refl t b ready (λ none f vs these. no_quiet none) values h
