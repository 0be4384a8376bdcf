-- The types of expressions stand in the order of their numbers, each behind its parts.
use Rattle.std.proofs.Common.{◌≡◌, ℕ, zero, suc, ◌+◌, List, [], ◌∷◌, ◌++◌, length, Bool, true, Option, Some, None, refl, sym, ap, ◌∙◌, subst, arith}
use Rattle.std.specs.Prelude.{slice_get, slice_index_or}
use Rattle.wy_core.specs.Types.{Ty, VoidTy}
use Rattle.wy_core.specs.CoreTree.{Expr, NullExpr, BoolExpr, IntExpr, VarExpr, CallExpr, NegExpr, NotExpr, LenExpr, BinaryExpr, IsExpr, IndexExpr, FieldExpr, ListExpr, RepeatExpr, RecordExpr, QuantExpr, Exprs, NoExprs, MoreExprs, Fields, NoFields, MoreFields}
use Rattle.wy_core.specs.declared.expressions.Op.{Op}
use Rattle.wy_core.specs.declared.expressions.Op.TheVariants as op
use Rattle.wy_lemmas.proofs.Lists.{none_behind as nil_right}
use Rattle.wy_types.specs.Names.{Declared}
use Rattle.wy_flow_spec.specs.environment.Variables.{Environment, Changes, int_type, null_type, bool_type, type_of}
use Rattle.wy_flow_spec.specs.typing.Outcomes.{Gives}
use Rattle.wy_flow_spec.specs.typing.Contexts.{Program, Found, FoundAll, FoundFields}
use Rattle.wy_flow_spec.specs.typing.Leaves.{found}
use Rattle.wy_flow_spec.specs.typing.Narrowing.{IsTest}
use Rattle.wy_flow_spec.specs.typing.Operators.{Neg, Not, Len, Binary, right_side}
use Rattle.wy_flow_spec.specs.typing.Parts.{ListOf, RepeatOf, RecordOf, IndexOf, FieldOf, QuantOf}
use Rattle.wy_flow_spec.specs.typing.Calls.{CallOf}
use Rattle.wy_flow_spec.specs.typing.Expressions.{TypedExpr, TypedExprs, TypedFields, none_yet, no_field_yet, one_more, field_more}
use Rattle.wy_sound_walks.specs.wy_sem.Expressions.{node}
use Rattle.wy_sound_walks.specs.wy_vc_spec.Sizes.{exprs_in, exprs_in_all, exprs_in_fields}
use Rattle.wy_sound_walks.specs.wy_vc_spec.Numbered.{Node, numbered}
use Rattle.wy_sound_kinds.proofs.TypeLemmas.{then_gives, given_is, append_assoc}
use Rattle.wy_sound_kinds.specs.suits.Laws.{Begins}

-- ---- one list begins with another

pub begins_self : (xs : List Ty) → Begins xs xs
begins_self xs = ([], sym (nil_right xs))

pub begins_more : (xs ys zs : List Ty) → Begins xs ys → Begins ys zs → Begins xs zs
begins_more xs ys zs h g = (h.0 ++ g.0, g.1 ∙ (ap (λ (l : List Ty). l ++ g.0) h.1 ∙ append_assoc xs h.0 g.0))

pub begins_by : (xs ys zs : List Ty) → zs ≡ ys → Begins xs ys → Begins xs zs
begins_by xs ys zs e h = (h.0, e ∙ h.1)

append_length : (xs : List Ty) (t : Ty) → length (xs ++ t ∷ []) ≡ length xs + 1
append_length [] t = refl
append_length (x ∷ xs) t = let e = append_length xs t in omega (arith, e)

-- ---- the number of an expression

-- the number of the expression, the first of whose parts has this one
abbrev pub number_in : Expr ℕ → ℕ → ℕ
number_in e k = (node (numbered e k)).number

pub number_is : (e : Expr ℕ) (k : ℕ) → number_in e k + 1 ≡ k + exprs_in e
number_is (NullExpr at) k = refl
number_is (BoolExpr at b) k = refl
number_is (IntExpr at z) k = refl
number_is (VarExpr at x) k = refl
number_is (CallExpr at f es) k = omega arith
number_is (NegExpr at a) k = omega arith
number_is (NotExpr at a) k = omega arith
number_is (LenExpr at a) k = omega arith
number_is (BinaryExpr at o a b) k = omega arith
number_is (IsExpr at a t) k = omega arith
number_is (IndexExpr at a b) k = omega arith
number_is (FieldExpr at a name) k = omega arith
number_is (ListExpr at es) k = omega arith
number_is (RepeatExpr at a b) k = omega arith
number_is (RecordExpr at fs) k = omega arith
number_is (QuantExpr at all x a b body) k = omega arith

-- the types behind an expression: those before, those of its parts, and its own, at its number
pub record Flow (e : Expr ℕ) (flow : List Ty) (v : Found) : Type 0 where
  pub front : List Ty
  pub last : v.flow ≡ front ++ v.ty ∷ []
  pub counted : length front ≡ number_in e (length flow)
  pub begins : Begins flow front

pub flow_length : (e : Expr ℕ) (flow : List Ty) (v : Found) → Flow e flow v → length v.flow ≡ length flow + exprs_in e
flow_length e flow v h = ap (λ (l : List Ty). length l) h.last ∙ (append_length h.front v.ty ∙ (ap (λ (n : ℕ). n + 1) h.counted ∙ number_is e (length flow)))

pub flow_begins : (e : Expr ℕ) (flow : List Ty) (v : Found) → Flow e flow v → Begins flow v.flow
flow_begins e flow v h = begins_more flow h.front v.flow h.begins (v.ty ∷ [], h.last)

-- behind several expressions
pub record FlowAll (n : ℕ) (flow after : List Ty) : Type 0 where
  pub counted : length after ≡ length flow + n
  pub begins : Begins flow after

-- ---- the end of a node

-- the types behind the parts, and the node's own
abbrev pub Ends : List Ty → Found → Type 0
Ends flow u = u.flow ≡ flow ++ u.ty ∷ []

ends_found : (u : Found) (t : Ty) (up down : Changes) (flow : List Ty) → Gives u ≡ Gives (found t up down flow) → Ends flow u
ends_found u t up down flow e = subst (Ends flow) (sym (given_is u (found t up down flow) e)) refl

pub ends_binary : (names : List Declared) (at : ℕ) (env : Environment) (over : Changes) (o : Op) (a b u : Found) → Binary names at env over o a b (Gives u) → Ends b.flow u
ends_binary names at env over op.Add a b u h = ends_found u int_type [] [] b.flow (then_gives _ _ u h).2
ends_binary names at env over op.Sub a b u h = ends_found u int_type [] [] b.flow (then_gives _ _ u h).2
ends_binary names at env over op.Mul a b u h = ends_found u int_type [] [] b.flow (then_gives _ _ u h).2
ends_binary names at env over op.Div a b u h = ends_found u int_type [] [] b.flow (then_gives _ _ u h).2
ends_binary names at env over op.Mod a b u h = ends_found u int_type [] [] b.flow (then_gives _ _ u h).2
ends_binary names at env over op.Equal a b u h = ends_found u bool_type [] [] b.flow h
ends_binary names at env over op.Less a b u h = ends_found u bool_type [] [] b.flow (then_gives _ _ u h).2
ends_binary names at env over op.LessEqual a b u h = ends_found u bool_type [] [] b.flow (then_gives _ _ u h).2
ends_binary names at env over op.Greater a b u h = ends_found u bool_type [] [] b.flow (then_gives _ _ u h).2
ends_binary names at env over op.GreaterEqual a b u h = ends_found u bool_type [] [] b.flow (then_gives _ _ u h).2
ends_binary names at env over op.And a b u h = let t = then_gives _ _ u h in let t2 = then_gives _ _ u t.2 in ends_found u bool_type (a.yes ++ b.yes) t2.0 b.flow t2.2
ends_binary names at env over op.Or a b u h = let t = then_gives _ _ u h in let t2 = then_gives _ _ u t.2 in ends_found u bool_type t2.0 (a.no ++ b.no) b.flow t2.2

pub ends_test : (names : List Declared) (at : ℕ) (e : Expr ℕ) (v u : Found) (t : Ty) → IsTest names at e v t (Gives u) → Ends v.flow u
ends_test names at (VarExpr n x) v u t h = let a = then_gives _ _ u h in let b = then_gives _ _ u a.2 in ends_found u bool_type ((x, a.0) ∷ []) ((x, b.0) ∷ []) v.flow b.2
ends_test names at (NullExpr n) v u t h = ends_found u bool_type [] [] v.flow h
ends_test names at (BoolExpr n b) v u t h = ends_found u bool_type [] [] v.flow h
ends_test names at (IntExpr n z) v u t h = ends_found u bool_type [] [] v.flow h
ends_test names at (CallExpr n f es) v u t h = ends_found u bool_type [] [] v.flow h
ends_test names at (NegExpr n a) v u t h = ends_found u bool_type [] [] v.flow h
ends_test names at (NotExpr n a) v u t h = ends_found u bool_type [] [] v.flow h
ends_test names at (LenExpr n a) v u t h = ends_found u bool_type [] [] v.flow h
ends_test names at (BinaryExpr n o a b) v u t h = ends_found u bool_type [] [] v.flow h
ends_test names at (IsExpr n a y) v u t h = ends_found u bool_type [] [] v.flow h
ends_test names at (IndexExpr n a b) v u t h = ends_found u bool_type [] [] v.flow h
ends_test names at (FieldExpr n a name) v u t h = ends_found u bool_type [] [] v.flow h
ends_test names at (ListExpr n es) v u t h = ends_found u bool_type [] [] v.flow h
ends_test names at (RepeatExpr n a b) v u t h = ends_found u bool_type [] [] v.flow h
ends_test names at (RecordExpr n fs) v u t h = ends_found u bool_type [] [] v.flow h
ends_test names at (QuantExpr n all x a b body) v u t h = ends_found u bool_type [] [] v.flow h

pub ends_neg : (names : List Declared) (at : ℕ) (a u : Found) → Neg names at a (Gives u) → Ends a.flow u
ends_neg names at a u h = ends_found u int_type [] [] a.flow (then_gives _ _ u h).2

pub ends_not : (names : List Declared) (at : ℕ) (a u : Found) → Not names at a (Gives u) → Ends a.flow u
ends_not names at a u h = ends_found u bool_type a.no a.yes a.flow (then_gives _ _ u h).2

pub ends_len : (names : List Declared) (at : ℕ) (a u : Found) → Len names at a (Gives u) → Ends a.flow u
ends_len names at a u h = ends_found u int_type [] [] a.flow (then_gives _ _ u h).2

pub ends_call : (p : Program) (at f : ℕ) (all : FoundAll) (u : Found) → CallOf p at f all (Gives u) → Ends all.flow u
ends_call p at f all u h = let a = then_gives _ _ u h in let b = then_gives _ _ u a.2 in ends_found u b.0 [] [] all.flow b.2

pub ends_index : (names : List Declared) (at : ℕ) (a b u : Found) → IndexOf names at a b (Gives u) → Ends b.flow u
ends_index names at a b u h = let c = then_gives _ _ u h in ends_found u c.0 [] [] b.flow c.2

pub ends_field : (names : List Declared) (at : ℕ) (a u : Found) (f : List ℕ) → FieldOf names at a f (Gives u) → Ends a.flow u
ends_field names at a u f h = let c = then_gives _ _ u h in ends_found u c.0 [] [] a.flow c.2

pub ends_list : (names : List Declared) (at : ℕ) (all : FoundAll) (u : Found) → ListOf names at all (Gives u) → Ends all.flow u
ends_list names at all u h = let c = then_gives _ _ u h in ends_found u c.0 [] [] all.flow c.2

pub ends_repeat : (names : List Declared) (at : ℕ) (a b u : Found) → RepeatOf names at a b (Gives u) → Ends b.flow u
ends_repeat names at a b u h = let c = then_gives _ _ u h in let d = then_gives _ _ u c.2 in ends_found u d.0 [] [] b.flow d.2

pub ends_record : (names : List Declared) (at : ℕ) (all : FoundFields) (u : Found) → RecordOf names at all (Gives u) → Ends all.flow u
ends_record names at all u h = let c = then_gives _ _ u h in ends_found u c.0 [] [] all.flow c.2

pub ends_quant : (names : List Declared) (at : ℕ) (a b body u : Found) → QuantOf names at a b body (Gives u) → Ends body.flow u
ends_quant names at a b body u h = let c = then_gives _ _ u h in let d = then_gives _ _ u c.2 in let e = then_gives _ _ u d.2 in ends_found u bool_type [] [] body.flow e.2

-- what stands before the end of a node stands at the front of all
pub ends_begin : (flow whole : List Ty) (u : Found) → Ends flow u → Begins u.flow whole → Begins flow whole
ends_begin flow whole u e b = begins_more flow u.flow whole (u.ty ∷ [], e) b

-- ---- expressions

leaf : (e : Expr ℕ) (flow : List Ty) (u : Found) → Ends flow u → number_in e (length flow) ≡ length flow → Flow e flow u
leaf e flow u ends n = record { front = flow; last = ends; counted = sym n; begins = begins_self flow }

-- behind one part
part_flow : (e a : Expr ℕ) (flow : List Ty) (v u : Found) → Flow a flow v → Ends v.flow u → number_in e (length flow) ≡ length flow + exprs_in a → Flow e flow u
part_flow e a flow v u h ends n = record { front = v.flow; last = ends; counted = flow_length a flow v h ∙ sym n; begins = flow_begins a flow v h }

-- behind two
two_flow : (a b : Expr ℕ) (flow : List Ty) (v w : Found) → Flow a flow v → Flow b v.flow w → FlowAll (exprs_in a + exprs_in b) flow w.flow
two_flow a b flow v w h g =
    let first = flow_length a flow v h in
    let second = flow_length b v.flow w g in
    record { counted = omega (arith, first, second); begins = begins_more flow v.flow w.flow (flow_begins a flow v h) (flow_begins b v.flow w g) }

many_flow : (e : Expr ℕ) (n : ℕ) (flow after : List Ty) (u : Found) → FlowAll n flow after → Ends after u → number_in e (length flow) ≡ length flow + n → Flow e flow u
many_flow e n flow after u h ends m = record { front = after; last = ends; counted = h.counted ∙ sym m; begins = h.begins }

mutual
  pub flow_of : (p : Program) (env : Environment) (e : Expr ℕ) (over : Changes) (flow : List Ty) (u : Found) → TypedExpr p env e over flow (Gives u) → Flow e flow u
  flow_of p env (NullExpr at) over flow u h = leaf (NullExpr at) flow u (ends_found u null_type [] [] flow h) refl
  flow_of p env (BoolExpr at b) over flow u h = leaf (BoolExpr at b) flow u (ends_found u bool_type [] [] flow h) refl
  flow_of p env (IntExpr at z) over flow u h = leaf (IntExpr at z) flow u (ends_found u int_type [] [] flow h) refl
  flow_of p env (VarExpr at x) over flow u h = leaf (VarExpr at x) flow u (ends_found u (type_of env over x) [] [] flow h) refl
  flow_of p env (CallExpr at f es) over flow u h =
      let t = then_gives _ _ u h in many_flow (CallExpr at f es) (exprs_in_all es) flow t.0.flow u (flows_of p env es over (none_yet flow) t.0 t.1) (ends_call p at f t.0 u t.2) refl
  flow_of p env (NegExpr at a) over flow u h = let t = then_gives _ _ u h in part_flow (NegExpr at a) a flow t.0 u (flow_of p env a over flow t.0 t.1) (ends_neg p.names at t.0 u t.2) refl
  flow_of p env (NotExpr at a) over flow u h = let t = then_gives _ _ u h in part_flow (NotExpr at a) a flow t.0 u (flow_of p env a over flow t.0 t.1) (ends_not p.names at t.0 u t.2) refl
  flow_of p env (LenExpr at a) over flow u h = let t = then_gives _ _ u h in part_flow (LenExpr at a) a flow t.0 u (flow_of p env a over flow t.0 t.1) (ends_len p.names at t.0 u t.2) refl
  flow_of p env (BinaryExpr at o a b) over flow u h =
      let t = then_gives _ _ u h in let t2 = then_gives _ _ u t.2 in
      many_flow (BinaryExpr at o a b) (exprs_in a + exprs_in b) flow t2.0.flow u
      (two_flow a b flow t.0 t2.0 (flow_of p env a over flow t.0 t.1) (flow_of p env b (right_side over o t.0) t.0.flow t2.0 t2.1)) (ends_binary p.names at env over o t.0 t2.0 u t2.2) (omega arith)
  flow_of p env (IsExpr at a y) over flow u h = let t = then_gives _ _ u h in part_flow (IsExpr at a y) a flow t.0 u (flow_of p env a over flow t.0 t.1) (ends_test p.names at a t.0 u y t.2) refl
  flow_of p env (IndexExpr at a b) over flow u h =
      let t = then_gives _ _ u h in let t2 = then_gives _ _ u t.2 in
      many_flow (IndexExpr at a b) (exprs_in a + exprs_in b) flow t2.0.flow u (two_flow a b flow t.0 t2.0 (flow_of p env a over flow t.0 t.1) (flow_of p env b over t.0.flow t2.0 t2.1)) (ends_index p.names at t.0 t2.0 u t2.2) (omega arith)
  flow_of p env (FieldExpr at a name) over flow u h = let t = then_gives _ _ u h in part_flow (FieldExpr at a name) a flow t.0 u (flow_of p env a over flow t.0 t.1) (ends_field p.names at t.0 u name t.2) refl
  flow_of p env (ListExpr at es) over flow u h =
      let t = then_gives _ _ u h in many_flow (ListExpr at es) (exprs_in_all es) flow t.0.flow u (flows_of p env es over (none_yet flow) t.0 t.1) (ends_list p.names at t.0 u t.2) refl
  flow_of p env (RepeatExpr at a b) over flow u h =
      let t = then_gives _ _ u h in let t2 = then_gives _ _ u t.2 in
      many_flow (RepeatExpr at a b) (exprs_in a + exprs_in b) flow t2.0.flow u (two_flow a b flow t.0 t2.0 (flow_of p env a over flow t.0 t.1) (flow_of p env b over t.0.flow t2.0 t2.1)) (ends_repeat p.names at t.0 t2.0 u t2.2) (omega arith)
  flow_of p env (RecordExpr at fs) over flow u h =
      let t = then_gives _ _ u h in many_flow (RecordExpr at fs) (exprs_in_fields fs) flow t.0.flow u (field_flows p env fs over (no_field_yet flow) t.0 t.1) (ends_record p.names at t.0 u t.2) refl
  flow_of p env (QuantExpr at all x a b body) over flow u h =
      let t = then_gives _ _ u h in let t2 = then_gives _ _ u t.2 in let t3 = then_gives _ _ u t2.2 in
      let two = two_flow a b flow t.0 t2.0 (flow_of p env a over flow t.0 t.1) (flow_of p env b over t.0.flow t2.0 t2.1) in
      let last = flow_of p env body (over ++ (x, int_type) ∷ []) t2.0.flow t3.0 t3.1 in
      let first_two = two.counted in
      let third = flow_length body t2.0.flow t3.0 last in
      many_flow (QuantExpr at all x a b body) (exprs_in a + exprs_in b + exprs_in body) flow t3.0.flow u
      (record { counted = omega (arith, first_two, third); begins = begins_more flow t2.0.flow t3.0.flow two.begins (flow_begins body t2.0.flow t3.0 last) })
      (ends_quant p.names at t.0 t2.0 t3.0 u t3.2) (omega arith)

  pub flows_of : (p : Program) (env : Environment) (es : Exprs ℕ) (over : Changes) (all out : FoundAll) → TypedExprs p env es over all (Gives out) → FlowAll (exprs_in_all es) all.flow out.flow
  flows_of p env NoExprs over all out h =
      let is = ap (λ (x : FoundAll). x.flow) (given_is out all h) in
      record { counted = ap (λ (l : List Ty). length l) is ∙ omega arith; begins = begins_by all.flow all.flow out.flow is (begins_self all.flow) }
  flows_of p env (MoreExprs e es) over all out h =
      let t = then_gives _ _ out h in
      let first = flow_of p env e over all.flow t.0 t.1 in
      let rest = flows_of p env es over (one_more t.0 all) out t.2 in
      let one = flow_length e all.flow t.0 first in
      let many = rest.counted in
      record { counted = omega (arith, one, many); begins = begins_more all.flow t.0.flow out.flow (flow_begins e all.flow t.0 first) rest.begins }

  pub field_flows : (p : Program) (env : Environment) (fs : Fields ℕ) (over : Changes) (all out : FoundFields) → TypedFields p env fs over all (Gives out) → FlowAll (exprs_in_fields fs) all.flow out.flow
  field_flows p env NoFields over all out h =
      let is = ap (λ (x : FoundFields). x.flow) (given_is out all h) in
      record { counted = ap (λ (l : List Ty). length l) is ∙ omega arith; begins = begins_by all.flow all.flow out.flow is (begins_self all.flow) }
  field_flows p env (MoreFields name e fs) over all out h =
      let t = then_gives _ _ out h in
      let first = flow_of p env e over all.flow t.0 t.1 in
      let rest = field_flows p env fs over (field_more name t.0 all) out t.2 in
      let one = flow_length e all.flow t.0 first in
      let many = rest.counted in
      record { counted = omega (arith, one, many); begins = begins_more all.flow t.0.flow out.flow (flow_begins e all.flow t.0 first) rest.begins }

-- ---- the type with the number of an expression

get_at : (front rest : List Ty) (t other : Ty) → slice_index_or (front ++ t ∷ rest) (length front) other ≡ t
get_at [] rest t other = refl
get_at (x ∷ front) rest t other = get_at front rest t other

pub type_at_number : (e : Expr ℕ) (k : ℕ) (flow whole : List Ty) (v : Found) → k ≡ length flow → Flow e flow v → Begins v.flow whole → slice_index_or whole (number_in e k) VoidTy ≡ v.ty
type_at_number e k flow whole v is h b =
    let all : whole ≡ h.front ++ v.ty ∷ b.0 = b.1 ∙ (ap (λ (l : List Ty). l ++ b.0) h.last ∙ append_assoc h.front (v.ty ∷ []) b.0) in
    let place : number_in e k ≡ length h.front = ap (number_in e) is ∙ sym h.counted in
    ap (λ (l : List Ty). slice_index_or l (number_in e k) VoidTy) all
    ∙ (ap (λ (n : ℕ). slice_index_or (h.front ++ v.ty ∷ b.0) n VoidTy) place ∙ get_at h.front b.0 v.ty VoidTy)
