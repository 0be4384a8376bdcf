-- Answers of the other nodes, where those of their parts are of their kinds.
use Rattle.std.proofs.Common.{◌≡◌, inl, inr, ℕ, zero, suc, ◌+◌, ◌-◌, ◌^◌, ◌<◌, ◌≤◌, List, [], ◌∷◌, ◌++◌, length, Bool, true, false, not, ◌&&◌, Option, Some, None, ℤ, pos, ◌+ℤ◌, int_le, refl, sym, ap, ◌∙◌, subst}
use Rattle.std.specs.Prelude.{slice_get}
use Rattle.wy_lemmas.proofs.Options.{some_same as same_some}
use Rattle.wy_lemmas.proofs.Choices.{both_true as two_true, off as true_false}
use Rattle.wy_value.specs.Datum.{Datum, Null, Truth, Whole, Array, Record, Data, Fields}
use Rattle.wy_core.specs.Types.{Ty, ArrayTy, RecordTy, InterTy, NotTy}
use Rattle.wy_core.specs.CoreSeen.{field_tys_of}
use Rattle.wy_core.specs.CoreTree.{Expr, NullExpr, BoolExpr, IntExpr, VarExpr, CallExpr, NegExpr, NotExpr, LenExpr, BinaryExpr, IsExpr, IndexExpr, FieldExpr, ListExpr, RepeatExpr, RecordExpr, QuantExpr}
use Rattle.wy_term.specs.declared.cond.CondKind.TheVariants as kind
use Rattle.wy_types.specs.Names.{Declared, Up, Down}
use Rattle.wy_flow_spec.specs.environment.Variables.{Environment, Changes, int_type, bool_type}
use Rattle.wy_flow_spec.specs.typing.Outcomes.{Gives}
use Rattle.wy_flow_spec.specs.typing.Contexts.{Program, Signature, Found, FoundAll, FoundFields}
use Rattle.wy_flow_spec.specs.typing.Leaves.{found}
use Rattle.wy_flow_spec.specs.typing.Narrowing.{IsTest, IsVariable}
use Rattle.wy_flow_spec.specs.typing.Parts.{union_all, ListOf, RepeatOf, RecordOf, IndexOf, FieldOf}
use Rattle.wy_flow_spec.specs.typing.Calls.{Fit, FitSignature, FitCall, ResultOf, GivenBy, CallOf}
use Rattle.wy_sound_walks.specs.wy_sem.Meter.{Meter, Outcome, Done, Run, ◌>>=◌, check, choose}
use Rattle.wy_sound_walks.specs.wy_sem.Operations.{longest, nat_of, agrees, as_truth, as_number, needed, item_at, find, copies, is_index, indexed, item_of, field_of, repeated, numbers}
use Rattle.wy_sound_walks.specs.wy_sem.Expressions.{Store, slot, Setting, node as node_of, span, each, quantified, eval}
use Rattle.wy_sound_walks.specs.wy_vc_spec.Numbered.{Node, numbered}
use Rattle.wy_types_laws.proofs.parts_lemmas.NormLemmas.{norms_same}
use Rattle.wy_types_laws.proofs.parts_lemmas.ItemLemmas.{items_are_in}
use Rattle.wy_types_laws.proofs.parts_lemmas.ValueLemmas.{values_are_in}
use Rattle.wy_sound_kinds.specs.Bounded.{IsBounded, AllBounded}
use Rattle.wy_sound_kinds.specs.Ready.{Rules}
use Rattle.wy_sound_kinds.specs.Kinds.{HasTypes, Kind, AreIn, AreArguments, IsOfResult, IsResult, AreFor, Rests}
use Rattle.wy_sound_kinds.proofs.frames_lemmas.EveryLemmas.{Every, every_bind, every_map, every_told, every_spend, every_check, every_choose, every_number, every_truth, every_items, every_fields, every_needed}
use Rattle.wy_sound_kinds.proofs.DatumLemmas.{index_below, item_is, item_bounded, copies_few, copies_bounded, data_few, data_bounded, found_at, field_bounded}
use Rattle.wy_sound_kinds.proofs.TypeLemmas.{then_gives, given_is, types_nothing, types_one, AllIn, list_in, copies_in, FieldsIn, record_in}
use Rattle.wy_sound_kinds.proofs.OperatorLemmas.{as_found, kind_plain, kind_truth, kind_bool, every_numbers}
use Rattle.wy_value.specs.Seen.{data_of}

-- ---- the value of a variable that is tested

-- where the expression is a variable, the datum is its value
abbrev pub IsItsValue : Expr ℕ → Store → Datum → Type 0
IsItsValue (VarExpr at x) s d = slot s x ≡ Some d
IsItsValue (NullExpr at) s d = Unit {0}
IsItsValue (BoolExpr at b) s d = Unit {0}
IsItsValue (IntExpr at z) s d = Unit {0}
IsItsValue (CallExpr at f es) s d = Unit {0}
IsItsValue (NegExpr at a) s d = Unit {0}
IsItsValue (NotExpr at a) s d = Unit {0}
IsItsValue (LenExpr at a) s d = Unit {0}
IsItsValue (BinaryExpr at o a b) s d = Unit {0}
IsItsValue (IsExpr at a t) s d = Unit {0}
IsItsValue (IndexExpr at a b) s d = Unit {0}
IsItsValue (FieldExpr at a name) s d = Unit {0}
IsItsValue (ListExpr at es) s d = Unit {0}
IsItsValue (RepeatExpr at a b) s d = Unit {0}
IsItsValue (RecordExpr at fs) s d = Unit {0}
IsItsValue (QuantExpr at all x a b body) s d = Unit {0}

pub its_value : (w : Setting Node) (paid : Bool) (e : Expr ℕ) (number : ℕ) (s : Store) (m : Meter) → Every (eval w paid (numbered e number) s m) (IsItsValue e s)
its_value w paid (VarExpr at x) number s m =
    let here = w.place (node_of (numbered (VarExpr at x) number)) in every_spend paid (needed here (slot s x) Done) (IsItsValue (VarExpr at x) s) (λ l. every_needed here (slot s x) Done l (IsItsValue (VarExpr at x) s) (λ d e. e)) m
its_value w paid (NullExpr at) number s m = every_told _ _ (λ d k e. tt)
its_value w paid (BoolExpr at b) number s m = every_told _ _ (λ d k e. tt)
its_value w paid (IntExpr at z) number s m = every_told _ _ (λ d k e. tt)
its_value w paid (CallExpr at f es) number s m = every_told _ _ (λ d k e. tt)
its_value w paid (NegExpr at a) number s m = every_told _ _ (λ d k e. tt)
its_value w paid (NotExpr at a) number s m = every_told _ _ (λ d k e. tt)
its_value w paid (LenExpr at a) number s m = every_told _ _ (λ d k e. tt)
its_value w paid (BinaryExpr at o a b) number s m = every_told _ _ (λ d k e. tt)
its_value w paid (IsExpr at a t) number s m = every_told _ _ (λ d k e. tt)
its_value w paid (IndexExpr at a b) number s m = every_told _ _ (λ d k e. tt)
its_value w paid (FieldExpr at a name) number s m = every_told _ _ (λ d k e. tt)
its_value w paid (ListExpr at es) number s m = every_told _ _ (λ d k e. tt)
its_value w paid (RepeatExpr at a b) number s m = every_told _ _ (λ d k e. tt)
its_value w paid (RecordExpr at fs) number s m = every_told _ _ (λ d k e. tt)
its_value w paid (QuantExpr at all x a b body) number s m = every_told _ _ (λ d k e. tt)

not_of : (b : Bool) → (b ≡ true → ⊥) → not b ≡ true
not_of true h = absurd (h refl)
not_of false h = refl

-- the arguments fit the parameters
pub fit_in : (names : List Declared) (at : ℕ) (u : Unit {0}) (ts params : List Ty) (vs : List Datum) → Fit names at ts params (Gives u) → AllIn names ts vs → AreIn names params vs
fit_in names at u [] [] [] h a = tt
fit_in names at u [] (q ∷ params) [] h a = tt
fit_in names at u [] [] (v ∷ vs) h a = absurd a
fit_in names at u [] (q ∷ params) (v ∷ vs) h a = absurd a
fit_in names at u (t ∷ ts) [] [] h a = absurd a
fit_in names at u (t ∷ ts) (q ∷ params) [] h a = absurd a
fit_in names at u (t ∷ ts) [] (v ∷ vs) h a = tt
fit_in names at u (t ∷ ts) (q ∷ params) (v ∷ vs) h a = let f = then_gives _ _ u h in (f.1.1 v a.0, fit_in names at u ts params vs f.2 a.1)

signature_in : (names : List Declared) (at : ℕ) (u : Unit {0}) (ts : List Ty) (vs : List Datum) (o : Option Signature) → FitSignature names at ts o (Gives u) → AllIn names ts vs → AreArguments names o vs
signature_in names at u ts vs None h a = tt
signature_in names at u ts vs (Some s) h a = fit_in names at u ts s.params vs h a

module _ (p : Program) (r : Rules) (w : Setting Node) (paid : Bool) (says : Ty → Datum → Bool) (rests : Rests p r w paid says) (env : Environment) (reached : env.reached ≡ true) (over : Changes) (seen : ℕ → Bool) (s : Store) (h : HasTypes p.names env over seen s) where
  abbrev R : Found → Datum → Type 0
  R v d = Kind p.names env over seen s v d

  told : (u v : Found) (o : Outcome Datum) → Gives u ≡ Gives v → Every o (R v) → Every o (R u)
  told u v o e g = every_map o (R v) (R u) g (λ d k. as_found p.names env over seen s u v d e k)

  -- ---- `is`

  plain_test : (t : Ty) (d : Datum) (flow : List Ty) (m : Meter) → Every (w.test paid t d m >>= (λ b. Done (Truth b))) (R (found bool_type [] [] flow))
  plain_test t d flow m =
      every_bind (w.test paid t d m) (λ b. Done (Truth b)) (λ b. Unit {0}) (R (found bool_type [] [] flow)) (every_told _ _ (λ b k e. tt)) (λ b k e q. kind_bool p.names env over seen s b flow h)

  variable_test : (node x : ℕ) (v u : Found) (t : Ty) (d : Datum) (m : Meter) → r.tested t ≡ true → seen x ≡ true → slot s x ≡ Some d → R v d → IsVariable p.names node x v.ty t v.flow (Gives u) → Every (w.test paid t d m >>= (λ b. Done (Truth b))) (R u)
  variable_test node x v u t d m tested see own kd typed =
      let t1 = then_gives _ _ u typed in
      let t2 = then_gives _ _ u t1.2 in
      let V = found bool_type ((x, t1.0) ∷ []) ((x, t2.0) ∷ []) v.flow in
      told u V (w.test paid t d m >>= (λ b. Done (Truth b))) t2.2
      (every_bind (w.test paid t d m) (λ b. Done (Truth b)) (λ b. b ≡ says t d) (R V) (every_told _ _ (λ b k e. rests.answers t d m k b tested kd.bounded e))
      (λ b k e q. kind_truth p.names env over seen s b ((x, t1.0) ∷ []) ((x, t2.0) ∷ []) v.flow
      (λ on. types_one p.names env seen s reached over x t1.0 h (λ c sc ec.
      let is : d ≡ c = same_some d c (sym own ∙ ec) in
      subst (λ (y : Datum). Up p.names y t1.0 ≡ true) is
      (norms_same p.names rests.recur (InterTy v.ty t) t1.0 t1.1.1 d ∙ two_true (Up p.names d v.ty) (Up p.names d t) kd.inside (rests.upward t d tested kd.bounded (sym q ∙ on)))))
      (λ off. types_one p.names env seen s reached over x t2.0 h (λ c sc ec.
      let is : d ≡ c = same_some d c (sym own ∙ ec) in
      subst (λ (y : Datum). Up p.names y t2.0 ≡ true) is
      (norms_same p.names rests.recur (InterTy v.ty (NotTy t)) t2.0 t2.1.1 d
      ∙ two_true (Up p.names d v.ty) (not (Down p.names d t)) kd.inside (not_of (Down p.names d t) (λ down. true_false (sym (q ∙ rests.downward t d tested kd.bounded down) ∙ off))))))))

  -- the variable that is tested, where one is, is marked
  abbrev pub IsSeen : Expr ℕ → Type 0
  IsSeen (VarExpr at x) = seen x ≡ true
  IsSeen (NullExpr at) = Unit {0}
  IsSeen (BoolExpr at b) = Unit {0}
  IsSeen (IntExpr at z) = Unit {0}
  IsSeen (CallExpr at f es) = Unit {0}
  IsSeen (NegExpr at a) = Unit {0}
  IsSeen (NotExpr at a) = Unit {0}
  IsSeen (LenExpr at a) = Unit {0}
  IsSeen (BinaryExpr at o a b) = Unit {0}
  IsSeen (IsExpr at a t) = Unit {0}
  IsSeen (IndexExpr at a b) = Unit {0}
  IsSeen (FieldExpr at a name) = Unit {0}
  IsSeen (ListExpr at es) = Unit {0}
  IsSeen (RepeatExpr at a b) = Unit {0}
  IsSeen (RecordExpr at fs) = Unit {0}
  IsSeen (QuantExpr at all x a b body) = Unit {0}

  pub test_kind : (e : Expr ℕ) (node : ℕ) (v u : Found) (t : Ty) (d : Datum) (m : Meter) → r.tested t ≡ true → IsSeen e → IsItsValue e s d → R v d → IsTest p.names node e v t (Gives u) → Every (w.test paid t d m >>= (λ b. Done (Truth b))) (R u)
  test_kind (VarExpr at x) node v u t d m tested see own kd typed = variable_test node x v u t d m tested see own kd typed
  test_kind (NullExpr at) node v u t d m tested see own kd typed = told u (found bool_type [] [] v.flow) _ typed (plain_test t d v.flow m)
  test_kind (BoolExpr at b) node v u t d m tested see own kd typed = told u (found bool_type [] [] v.flow) _ typed (plain_test t d v.flow m)
  test_kind (IntExpr at z) node v u t d m tested see own kd typed = told u (found bool_type [] [] v.flow) _ typed (plain_test t d v.flow m)
  test_kind (CallExpr at f es) node v u t d m tested see own kd typed = told u (found bool_type [] [] v.flow) _ typed (plain_test t d v.flow m)
  test_kind (NegExpr at a) node v u t d m tested see own kd typed = told u (found bool_type [] [] v.flow) _ typed (plain_test t d v.flow m)
  test_kind (NotExpr at a) node v u t d m tested see own kd typed = told u (found bool_type [] [] v.flow) _ typed (plain_test t d v.flow m)
  test_kind (LenExpr at a) node v u t d m tested see own kd typed = told u (found bool_type [] [] v.flow) _ typed (plain_test t d v.flow m)
  test_kind (BinaryExpr at o a b) node v u t d m tested see own kd typed = told u (found bool_type [] [] v.flow) _ typed (plain_test t d v.flow m)
  test_kind (IsExpr at a y) node v u t d m tested see own kd typed = told u (found bool_type [] [] v.flow) _ typed (plain_test t d v.flow m)
  test_kind (IndexExpr at a b) node v u t d m tested see own kd typed = told u (found bool_type [] [] v.flow) _ typed (plain_test t d v.flow m)
  test_kind (FieldExpr at a name) node v u t d m tested see own kd typed = told u (found bool_type [] [] v.flow) _ typed (plain_test t d v.flow m)
  test_kind (ListExpr at es) node v u t d m tested see own kd typed = told u (found bool_type [] [] v.flow) _ typed (plain_test t d v.flow m)
  test_kind (RepeatExpr at a b) node v u t d m tested see own kd typed = told u (found bool_type [] [] v.flow) _ typed (plain_test t d v.flow m)
  test_kind (RecordExpr at fs) node v u t d m tested see own kd typed = told u (found bool_type [] [] v.flow) _ typed (plain_test t d v.flow m)
  test_kind (QuantExpr at all x a b body) node v u t d m tested see own kd typed = told u (found bool_type [] [] v.flow) _ typed (plain_test t d v.flow m)

  -- ---- parts

  pub item_kind : (at node : ℕ) (a b u : Found) (d e : Datum) (m : Meter) → R a d → IndexOf p.names node a b (Gives u) → Every (item_of at d e m) (R u)
  item_kind at node a b u d e m kd typed =
      let t1 = then_gives _ _ u typed in
      let t2 = then_gives _ _ t1.0 t1.1 in
      let t3 = then_gives _ _ t1.0 t2.2 in
      let V = found t1.0 [] [] b.flow in
      told u V (item_of at d e m) t1.2
      (every_items at d (λ ds. as_number at e (λ i. check (is_index i ds) kind.Index at (λ k. Done (item_at ds (nat_of i)) k))) m (R V)
      (λ ds is. every_number at e (λ i. check (is_index i ds) kind.Index at (λ k. Done (item_at ds (nat_of i)) k)) m (R V)
      (λ i q. every_check (is_index i ds) kind.Index at (λ k. Done (item_at ds (nat_of i)) k) m (R V)
      (λ good.
      let c : IsBounded (Array ds) = subst IsBounded is kd.bounded in
      let inside : Up p.names (Array ds) a.ty ≡ true = subst (λ (y : Datum). Up p.names y a.ty ≡ true) is kd.inside in
      kind_plain p.names env over seen s (item_at ds (nat_of i)) t1.0 b.flow h (item_bounded ds (nat_of i) c.1)
      (items_are_in p.names rests.recur a.ty t1.0 t3.2.1 (item_at ds (nat_of i)) (ds, item_is ds (nat_of i) (index_below ds i good), inside))))))

  pub field_kind : (at node : ℕ) (name : List ℕ) (a u : Found) (d : Datum) (m : Meter) → R a d → FieldOf p.names node a name (Gives u) → Every (field_of at d name m) (R u)
  field_kind at node name a u d m kd typed =
      let t1 = then_gives _ _ u typed in
      let V = found t1.0 [] [] a.flow in
      told u V (field_of at d name m) t1.2
      (every_fields at d (λ fs. needed at (find fs name) Done) m (R V)
      (λ fs is. every_needed at (find fs name) Done m (R V)
      (λ x q.
      let c : IsBounded (Record fs) = subst IsBounded is kd.bounded in
      let inside : Up p.names (Record fs) a.ty ≡ true = subst (λ (y : Datum). Up p.names y a.ty ≡ true) is kd.inside in
      kind_plain p.names env over seen s x t1.0 a.flow h (field_bounded fs name x c.1 q) (values_are_in p.names rests.recur name a.ty t1.0 t1.1.2 x (fs, found_at fs name ∙ q, inside)))))

  -- ---- lists and records

  pub list_kind : (node : ℕ) (all : FoundAll) (u : Found) (vs : List Datum) (n : ℕ) → AllIn p.names all.types vs → AllBounded vs → length vs ≡ n → n ≤ 2 ^ 63 - 1 → ListOf p.names node all (Gives u) → R u (Array (data_of vs))
  list_kind node all u vs n inside bounded many few typed =
      let t1 = then_gives _ _ u typed in
      as_found p.names env over seen s u (found t1.0 [] [] all.flow) (Array (data_of vs)) t1.2
      (kind_plain p.names env over seen s (Array (data_of vs)) t1.0 all.flow h (data_few vs n many few, data_bounded vs bounded)
      (norms_same p.names rests.recur (ArrayTy (union_all all.types)) t1.0 t1.1.1 (Array (data_of vs)) ∙ list_in p.names all.types vs inside))

  pub record_kind : (node : ℕ) (all : FoundFields) (u : Found) (ds : Fields) → FieldsIn p.names all.fields ds → IsBounded (Record ds) → RecordOf p.names node all (Gives u) → R u (Record ds)
  record_kind node all u ds inside bounded typed =
      let t1 = then_gives _ _ u typed in
      as_found p.names env over seen s u (found t1.0 [] [] all.flow) (Record ds) t1.2
      (kind_plain p.names env over seen s (Record ds) t1.0 all.flow h bounded (norms_same p.names rests.recur (RecordTy (field_tys_of all.fields)) t1.0 t1.1.1 (Record ds) ∙ record_in p.names all.fields ds inside))

  pub repeat_kind : (at node : ℕ) (a b u : Found) (d e : Datum) (m : Meter) → R a d → RepeatOf p.names node a b (Gives u) → Every (repeated at d e m) (R u)
  repeat_kind at node a b u d e m kd typed =
      let t1 = then_gives _ _ u typed in
      let t2 = then_gives _ _ u t1.2 in
      let V = found t2.0 [] [] b.flow in
      let last : ℤ → Run Datum = λ n. Done (Array (copies (nat_of n) d)) in
      told u V (repeated at d e m) t2.2
      (every_number at e (λ n. check (int_le (pos 0) n) kind.Length at (check (int_le n (pos longest)) kind.Length at (last n))) m (R V)
      (λ n q. every_check (int_le (pos 0) n) kind.Length at (check (int_le n (pos longest)) kind.Length at (last n)) m (R V)
      (λ low. every_check (int_le n (pos longest)) kind.Length at (last n) m (R V)
      (λ high. kind_plain p.names env over seen s (Array (copies (nat_of n) d)) t2.0 b.flow h (copies_few n d high, copies_bounded (nat_of n) d kd.bounded)
      (norms_same p.names rests.recur (ArrayTy a.ty) t2.0 t2.1.1 (Array (copies (nat_of n) d)) ∙ copies_in p.names a.ty (nat_of n) d kd.inside)))))

  -- ---- quantifiers

  turns_kind : (all : Bool) (at : ℕ) (body : ℤ → Run Datum) (flow : List Ty) (n : ℕ) (i : ℤ) (m : Meter) → Every (each all at body i n m) (R (found bool_type [] [] flow))
  turns_kind all at body flow zero i m = kind_bool p.names env over seen s all flow h
  turns_kind all at body flow (suc n) i m =
      let V = found bool_type [] [] flow in
      every_bind (body i m) (λ v. as_truth at v (λ b. choose (agrees all b) (each all at body (i +ℤ pos 1) n) (Done (Truth b)))) (λ v. Unit {0}) (R V) (every_told _ _ (λ v k e. tt))
      (λ v k e q. every_truth at v (λ b. choose (agrees all b) (each all at body (i +ℤ pos 1) n) (Done (Truth b))) k (R V)
      (λ b f. every_choose (agrees all b) (each all at body (i +ℤ pos 1) n) (Done (Truth b)) k (R V) (λ go. turns_kind all at body flow n (i +ℤ pos 1) k) (λ stop. kind_bool p.names env over seen s b flow h)))

  pub quantified_kind : (all : Bool) (at : ℕ) (body : ℤ → Run Datum) (flow : List Ty) (d e : Datum) (m : Meter) → Every (quantified all at body d e m) (R (found bool_type [] [] flow))
  quantified_kind all at body flow d e m = every_numbers at d e (λ from to. each all at body from (span from to)) m (R (found bool_type [] [] flow)) (λ x y a b. turns_kind all at body flow (span x y) x m)

  -- ---- calls

  of_result : (node : ℕ) (o : Option Ty) (t : Ty) (d : Datum) → ResultOf p.names node o (Gives t) → IsOfResult p.names o d → Up p.names d t ≡ true
  of_result node None t d typed is = absurd is
  of_result node (Some made) t d typed is = norms_same p.names rests.recur made t typed.1 d ∙ is

  given_in : (node : ℕ) (o : Option Signature) (t : Ty) (d : Datum) → GivenBy p.names node o (Gives t) → IsResult p.names o d → Up p.names d t ≡ true
  given_in node None t d typed is = absurd is
  given_in node (Some sig) t d typed is = of_result node sig.result t d typed is

  pub call_for : (node f : ℕ) (all : FoundAll) (u : Found) (vs : List Datum) (n : ℕ) → r.called f n ≡ true → AllIn p.names all.types vs → AllBounded vs → length vs ≡ n → CallOf p node f all (Gives u) → AreFor p r f vs
  call_for node f all u vs n called inside bounded many typed =
      let t1 = then_gives _ _ u typed in
      record {
        called = subst (λ (k : ℕ). r.called f k ≡ true) (sym many) called;
        bounded = bounded;
        arguments = signature_in p.names node t1.0 all.types vs (slice_get p.signatures f) t1.1 inside;
      }

  pub call_kind : (at node f : ℕ) (all : FoundAll) (u : Found) (vs : List Datum) (m : Meter) → AreFor p r f vs → CallOf p node f all (Gives u) → Every (w.call f at vs m >>= (λ v. needed at v Done)) (R u)
  call_kind at node f all u vs m these typed =
      let t1 = then_gives _ _ u typed in
      let t2 = then_gives _ _ u t1.2 in
      let V = found t2.0 [] [] all.flow in
      let Given : Option Datum → Type 0 = λ v. (d : Datum) → v ≡ Some d → IsBounded d × IsResult p.names (slice_get p.signatures f) d in
      told u V (w.call f at vs m >>= (λ v. needed at v Done)) t2.2
      (every_bind (w.call f at vs m) (λ v. needed at v Done) Given (R V)
      (every_told (w.call f at vs m) Given (λ v k e d is. rests.gives f at vs d m k these (e ∙ ap (λ (o : Option Datum). Done o k) is)))
      (λ v k e g. every_needed at v Done k (R V) (λ d is. let x = g d is in kind_plain p.names env over seen s d t2.0 all.flow h x.0 (given_in node (slice_get p.signatures f) t2.0 d t2.1 x.1))))
