-- What holds of stores along the run of typed statements.
use Rattle.std.proofs.Common.{◌≡◌, ◌⊎◌, inl, inr, ℕ, zero, suc, ◌+◌, ◌<◌, List, [], ◌∷◌, ◌++◌, Bool, true, false, ◌||◌, Option, Some, None, refl, sym, ap, ◌∙◌, subst}
use Rattle.std.proofs.lemmas.Bool.{or_left, or_right}
use Rattle.wy_lemmas.proofs.Choices.{unlike as true_false}
use Rattle.wy_value.specs.Datum.{Datum, Truth}
use Rattle.wy_core.specs.Types.{Ty, InterTy}
use Rattle.wy_core.specs.CoreTree as tree
use Rattle.wy_core.specs.CoreTree.{Expr, Exprs, Step, IndexStep, FieldStep, Stmt, DeclareStmt, AssignStmt, CallStmt, ReturnStmt, AssertStmt, BreakStmt, ContinueStmt, SkipStmt, FailStmt, IfStmt, WhileStmt, Stmts, NoStmts, MoreStmts}
use Rattle.wy_term.specs.declared.cond.CondKind.{CondKind}
use Rattle.wy_term.specs.declared.cond.CondKind.TheVariants as kind
use Rattle.wy_types.specs.Names.{Declared, Up}
use Rattle.wy_sound_statements.specs.wy_flow_spec.environment.Slots.{slot_at}
use Rattle.wy_sound_statements.specs.wy_flow_spec.environment.Variables.{Environment, given, changed, type_of}
use Rattle.wy_sound_statements.specs.wy_flow_spec.typing.Outcomes.{Gives}
use Rattle.wy_sound_statements.specs.wy_flow_spec.typing.Narrowing.{is_among}
use Rattle.wy_sound_statements.specs.wy_flow_spec.typing.Contexts.{Program}
use Rattle.wy_sound_statements.specs.wy_flow_spec.typing.Joins.{Joined}
use Rattle.wy_sound_statements.specs.wy_flow_spec.typing.States.{State, broken, declare, with_flow, with_env}
use Rattle.wy_sound_statements.specs.wy_flow_spec.typing.Assigned.{assigned_in}
use Rattle.wy_sound_statements.specs.wy_flow_spec.typing.Paths.{Updated}
use Rattle.wy_sound_statements.specs.wy_flow_spec.typing.Programs.{result_type}
use Rattle.wy_sound_statements.specs.wy_flow_spec.typing.Statements.{TypedStmt, TypedBlock}
use Rattle.wy_sem.specs.Meter.{Meter, Outcome, Done, Fault, Run, ◌>>=◌, check, choose}
use Rattle.wy_sem.specs.Operations.{needed, Slot, updated}
use Rattle.wy_sem.specs.Expressions as sem
use Rattle.wy_sem.specs.Expressions.{Store, slot, put}
use Rattle.wy_sem.specs.TypeTests.{set_if}
use Rattle.wy_sem.specs.Statements as run
use Rattle.wy_sem.specs.Statements.{Exit, Went, Broke, Continued, Gave, Frame, type_at}
use Rattle.wy_vc_spec.specs.Sizes.{exprs_in, exprs_in_list, exprs_in_path, exprs_in_stmt, exprs_in_block}
use Rattle.wy_vc_spec.specs.Numbered.{Node, numbered, numbered_all, numbered_path, numbered_stmt, numbered_block}
use Rattle.wy_vc_spec.specs.Owed.{assume}
use Rattle.wy_vc_spec.specs.Making.{formula, denied}
use Rattle.wy_vc_spec.specs.Spots.{Spot, Flow, is_set, mark, as_list, go_on, followed}
use Rattle.wy_vc_spec.specs.Assigned.{assigns, assigns_in}
use Rattle.wy_vc_spec.specs.Statements.{Body, expr, where_true, where_false, exec, exec_all}
use Rattle.wy_sound_statements.specs.wy_sound_walks.expressions.Types.{is_in}
use Rattle.wy_sound_statements.specs.wy_sound_walks.joins.Joins.{IsOne}
use Rattle.wy_sound_statements.proofs.wy_sound_walks_proofs.points_lemmas.SetLemmas.{Point, PointIf, point_more, with_point}
use Rattle.wy_sound_statements.proofs.wy_sound_walks_proofs.points_lemmas.StayLemmas.{expr_up, statement_points, block_points}
use Rattle.wy_sound_statements.specs.wy_sound_kinds.frames.Frames.{unsets, unsets_in, Keeps}
use Rattle.wy_sound_statements.proofs.wy_sound_kinds_proofs.frames_lemmas.EveryLemmas.{Every, every_bind, every_map, every_told, every_spend, every_check, every_choose, every_needed}
use Rattle.wy_sound_statements.proofs.wy_sound_kinds_proofs.frames_lemmas.FrameLemmas.{statements_keep}
use Rattle.wy_sound_statements.proofs.wy_types_laws_proofs.parts_lemmas.NormLemmas.{norms_same}
use Rattle.wy_sound_statements.specs.wy_sound_kinds.Bounded.{IsBounded}
use Rattle.wy_sound_statements.specs.wy_sound_kinds.Kinds.{Kind}
use Rattle.wy_sound_statements.proofs.wy_sound_kinds_proofs.TypeLemmas.{then_gives, given_is}
use Rattle.wy_sound_statements.specs.Ends.{frame_at}
use Rattle.wy_sound_statements.proofs.PlaceLemmas.{one_left, one_right}
use Rattle.wy_sound_programs.specs.Scopes.{Scope, Scoped, AllScoped}
use Rattle.wy_sound_programs.specs.Along.{CodeReady, PathReady, WhereGoes, ReadyAlong, AllReadyAlong}
use Rattle.wy_sound_programs.specs.Typed.{Setting, scope_of, Grounds, Stands, Holds}
use Rattle.wy_sound_programs.proofs.SlotLemmas.{no_slot, changed_reached}
use Rattle.wy_sound_programs.proofs.MarkLemmas.{MeetsIf}
use Rattle.wy_sound_programs.proofs.LoopLemmas.{if_meets, clauses, inner, head, test, turn, met, head_marks, from_head, body_point, loop_meets}
use Rattle.wy_sound_programs.proofs.JoinLemmas.{HasIf, in_left, in_right, exit_first, exit_break}
use Rattle.wy_sound_programs.proofs.PartLemmas.{normal_parts, declaration_parts, unset_parts, assignment_parts, into_parts, new_parts, new_inside, Update, update_parts, path_parts, call_parts, assertion_parts, on_yes, on_no, if_parts, in_loop, Loop, loop_parts}
use Rattle.wy_sound_programs.proofs.ScopeLemmas.{all_stay_declared, not_unset, none_unset, all_among}
use Rattle.wy_sound_programs.proofs.GrewLemmas.{grew, all_grew}
use Rattle.wy_sound_programs.proofs.HeadLemmas.{Headed, headed}
use Rattle.wy_sound_programs.proofs.StaticLemmas.{MarksAre, EndStands, Static, static, all_static, changed_stands, begin_stands, test_has, break_has}
use Rattle.wy_sound_programs.proofs.UpdateLemmas.{Replaced, path_leads}
use Rattle.wy_sound_programs.proofs.ValueLemmas.{value, quiet_value, truth_of, free_at, stored_in}
use Rattle.wy_sound_programs.proofs.StoreLemmas.{in_both, bounded_at, fewer, put_holds, unset_holds, changed_holds, meets_holds, Renews, carry, head_holds, head_renews}
use Rattle.wy_sound_programs.proofs.EntryLemmas.{clauses_any, leaves_any}

module _ (c : Setting) (g : Grounds c) where
  abbrev p : Program
  p = c.program

  abbrev names : List Declared
  names = c.program.names

  abbrev b : Body Node
  b = c.body

  abbrev w : sem.Setting Node
  w = c.evaluation

  abbrev pub fr : Frame Node
  fr = frame_at c.body c.owed c.arguments

  abbrev sc : Scope
  sc = scope_of c

  abbrev types : List Ty
  types = c.body.types

  abbrev result : Option Ty
  result = result_type c.body.routine.result

  abbrev pub H : Environment → (ℕ → Bool) → Store → Type 0
  H = Holds c.program.names c.body.types c.members c.allowed.many

  abbrev pub Ends : (ℕ → Bool) → Option Spot → State → Type 0
  Ends = EndStands c.program (result_type c.body.routine.result) c.body (scope_of c)

  abbrev pub Still : (ℕ → Bool) → Flow → State → State → Type 0
  Still = Static c.program (result_type c.body.routine.result) c.body (scope_of c)

  -- ---- ends

  abbrev pub EndsAt : Option Spot → Environment → Store → Type 0
  EndsAt None env t = ⊥
  EndsAt (Some q) env t = Holds c.program.names c.body.types c.members c.allowed.many env (is_set q.set) t

  -- at one of the `break`s, in the walk and in typing
  pub record AtBreak (f : Flow) (out : State) (t : Store) : Type 0 where
    pub spot : Spot
    pub env : Environment
    pub is_spot : IsOne spot f.breaks
    pub is_env : IsOne env out.breaks
    pub reached : env.reached ≡ true
    pub holds : H env (is_set spot.set) t

  -- the store at the end; where another turn of the loop around is asked for, it is as at the head of that
  abbrev pub After : Environment → (ℕ → Bool) → Flow → State → Exit → Type 0
  After start kept f out (Went t) = EndsAt f.ends out.env t
  After start kept f out (Broke t) = AtBreak f out t
  After start kept f out (Continued at t) = Holds c.program.names c.body.types c.members c.allowed.many start kept t
  After start kept f out (Gave v) = Unit {0}

  as_out : (start : Environment) (kept : ℕ → Bool) (f : Flow) (a out : State) (o : Outcome Exit) → out ≡ a → Every o (After start kept f a) → Every o (After start kept f out)
  as_out start kept f a out o is h = subst (λ (z : State). Every o (After start kept f z)) (sym is) h

  put_end : (o : Option Spot) (env next : Environment) (q : Spot) (s : Store) (x : ℕ) (made : Ty) (d : Datum) → MarksAre o (mark q.set x true) → env.reached ≡ true → next ≡ given env x made → H env (is_set q.set) s → x < c.allowed.many → IsBounded d
      → Up names d made ≡ true → is_in c.members (type_at types x) d ≡ true → EndsAt o next (put s x (Some d))
  put_end None env next q s x made d set reached is h lt bounded inside member = absurd set
  put_end (Some r) env next q s x made d set reached is h lt bounded inside member = put_holds names types c.members c.allowed.many env next q r s x made reached is h d set lt bounded inside member

  unset_end : (o : Option Spot) (env next : Environment) (q : Spot) (s : Store) (x : ℕ) (made : Ty) → MarksAre o (mark q.set x false) → env.reached ≡ true → next ≡ given env x made → H env (is_set q.set) s → EndsAt o next (put s x None)
  unset_end None env next q s x made set reached is h = absurd set
  unset_end (Some r) env next q s x made set reached is h = unset_holds names types c.members c.allowed.many env next q r s x made reached is h set

  same_end : (o : Option Spot) (env : Environment) (q : Spot) (s : Store) → MarksAre o q.set → H env (is_set q.set) s → EndsAt o env s
  same_end None env q s set h = absurd set
  same_end (Some r) env q s set h = subst (λ (l : List Bool). H env (is_set l) s) (sym set) h

  -- ---- where paths meet

  left_end : (kept : ℕ → Bool) (at : ℕ) (a z : Option Spot) (one two : State) (env : Environment) (t : Store) → Joined names at one.env two.env (Gives env) → Ends kept a one → Ends kept z two → EndsAt a one.env t
      → (o : Option Spot) → MeetsIf (as_list a ++ as_list z) o → EndsAt o env t
  left_end kept at None z one two env t j ha hz here o m = absurd here
  left_end kept at (Some r) z one two env t j ha hz here None m = absurd (m r (inl refl))
  left_end kept at (Some r) z one two env t j ha hz here (Some y) m =
      meets_holds names types c.members c.allowed.many one.env env (is_set r.set) (is_set y.set) t (λ x e. m.down x e r (inl refl)) ha.reached (λ x e. ha.typed x (m.down x e r (inl refl)))
      (λ x d e i. in_left names at one.env two.env env j g.code.recur x d i (other z hz x (λ q o. m.down x e q (inr o)))) here
    where
      other : (v : Option Spot) → Ends kept v two → (x : ℕ) → ((q : Spot) → IsOne q (as_list v) → is_set q.set x ≡ true) → HasIf two.env x
      other None h x on e = true_false two.env.reached e h
      other (Some v) h x on e = h.typed x (on v (inl refl))

  right_end : (kept : ℕ → Bool) (at : ℕ) (a z : Option Spot) (one two : State) (env : Environment) (t : Store) → Joined names at one.env two.env (Gives env) → Ends kept a one → Ends kept z two → EndsAt z two.env t
      → (o : Option Spot) → MeetsIf (as_list a ++ as_list z) o → EndsAt o env t
  right_end kept at a None one two env t j ha hz here o m = absurd here
  right_end kept at a (Some r) one two env t j ha hz here None m = absurd (m r (one_right r (as_list a) (r ∷ []) (inl refl)))
  right_end kept at a (Some r) one two env t j ha hz here (Some y) m =
      meets_holds names types c.members c.allowed.many two.env env (is_set r.set) (is_set y.set) t (λ x e. m.down x e r (one_right r (as_list a) (r ∷ []) (inl refl))) hz.reached (λ x e. hz.typed x (m.down x e r (one_right r (as_list a) (r ∷ []) (inl refl))))
      (λ x d e i. in_right names at one.env two.env env j g.code.recur x d i (other a ha x (λ q o. m.down x e q (one_left q (as_list a) (r ∷ []) o)))) here
    where
      other : (v : Option Spot) → Ends kept v one → (x : ℕ) → ((q : Spot) → IsOne q (as_list v) → is_set q.set x ≡ true) → HasIf one.env x
      other None h x on e = true_false one.env.reached e h
      other (Some v) h x on e = h.typed x (on v (inl refl))

  -- behind an `if`
  first_after : (start : Environment) (kept : ℕ → Bool) (at : ℕ) (f one two : Flow) (s1 s2 : State) (env : Environment) → Joined names at s1.env s2.env (Gives env) → Ends kept one.ends s1 → Ends kept two.ends s2 → MeetsIf (as_list one.ends ++ as_list two.ends) f.ends
      → f.breaks ≡ one.breaks ++ two.breaks → ((e : Environment) → IsOne e s1.breaks → IsOne e s2.breaks) → (x : Exit) → After start kept one s1 x → After start kept f (with_env env s2) x
  first_after start kept at f one two s1 s2 env j h1 h2 m same grows (Went t) h = left_end kept at one.ends two.ends s1 s2 env t j h1 h2 h f.ends m
  first_after start kept at f one two s1 s2 env j h1 h2 m same grows (Broke t) h = record {
    spot = h.spot;
    env = h.env;
    is_spot = subst (λ (l : List Spot). IsOne h.spot l) (sym same) (one_left h.spot one.breaks two.breaks h.is_spot);
    is_env = grows h.env h.is_env;
    reached = h.reached;
    holds = h.holds;
  }
  first_after start kept at f one two s1 s2 env j h1 h2 m same grows (Continued from t) h = h
  first_after start kept at f one two s1 s2 env j h1 h2 m same grows (Gave v) h = tt

  second_after : (start : Environment) (kept : ℕ → Bool) (at : ℕ) (f one two : Flow) (s1 s2 : State) (env : Environment) → Joined names at s1.env s2.env (Gives env) → Ends kept one.ends s1 → Ends kept two.ends s2 → MeetsIf (as_list one.ends ++ as_list two.ends) f.ends
      → f.breaks ≡ one.breaks ++ two.breaks → (x : Exit) → After start kept two s2 x → After start kept f (with_env env s2) x
  second_after start kept at f one two s1 s2 env j h1 h2 m same (Went t) h = right_end kept at one.ends two.ends s1 s2 env t j h1 h2 h f.ends m
  second_after start kept at f one two s1 s2 env j h1 h2 m same (Broke t) h = record {
    spot = h.spot;
    env = h.env;
    is_spot = subst (λ (l : List Spot). IsOne h.spot l) (sym same) (one_right h.spot one.breaks two.breaks h.is_spot);
    is_env = h.is_env;
    reached = h.reached;
    holds = h.holds;
  }
  second_after start kept at f one two s1 s2 env j h1 h2 m same (Continued from t) h = h
  second_after start kept at f one two s1 s2 env j h1 h2 m same (Gave v) h = tt

  -- ---- one statement after the other

  -- the store at the head of the loop around is still one behind the statement
  pub carried : (start : Environment) (kept assigned unset : ℕ → Bool) (s t : Store) (o : Option Spot) (out : State) → Renews names types c.members c.allowed.many start kept assigned → ((x : ℕ) → kept x ≡ true → unset x ≡ false) → H start kept s → Keeps assigned unset s t → Ends kept o out → EndsAt o out.env t → H start kept t
  carried start kept assigned unset s t None out renews lasts h keeps ends here = absurd here
  carried start kept assigned unset s t (Some q) out renews lasts h keeps ends here = carry names types c.members c.allowed.many start out.env kept (is_set q.set) assigned unset s t renews lasts (λ x e. ends.keeps x e) h keeps here

  then_after : (start : Environment) (kept : ℕ → Bool) (one two : Flow) (out : State) (x : Exit) → After start kept two out x → After start kept (followed one two) out x
  then_after start kept one two out (Went t) h = h
  then_after start kept one two out (Broke t) h = record { spot = h.spot; env = h.env; is_spot = one_right h.spot one.breaks two.breaks h.is_spot; is_env = h.is_env; reached = h.reached; holds = h.holds }
  then_after start kept one two out (Continued at t) h = h
  then_after start kept one two out (Gave v) h = tt

  -- what follows, from a store behind the statement
  abbrev Next : Environment → (ℕ → Bool) → List (Expr Node) → Stmts ℕ → ℕ → State → State → Type 0
  Next start kept around rest k s out = (q : Spot) (m : ℕ) (t : Store) (l : Meter) → Point m q → Stands types kept q s → AllReadyAlong c.allowed b around rest k q m → H start kept t → H s.env (is_set q.set) t
      → Every (run.exec_all w fr (numbered_block rest k) t l) (After start kept (exec_all b around (numbered_block rest k) q m) out)

  on_went : (start : Environment) (kept : ℕ → Bool) (around : List (Expr Node)) (rest : Stmts ℕ) (k : ℕ) (s out : State) (o : Option Spot) (n : ℕ) (t : Store) (l : Meter) → Ends kept o s → PointIf n o → WhereGoes (λ q. AllReadyAlong c.allowed b around rest k q n) o → H start kept t → EndsAt o s.env t → Next start kept around rest k s out
      → Every (run.exec_all w fr (numbered_block rest k) t l) (After start kept (go_on o n (exec_all b around (numbered_block rest k))) out)
  on_went start kept around rest k s out None n t l ends pt ready hc here next = absurd here
  on_went start kept around rest k s out (Some q) n t l ends pt ready hc here next = next q n t l pt ends ready hc here

  goes : (start : Environment) (kept : ℕ → Bool) (around : List (Expr Node)) (rest : Stmts ℕ) (k : ℕ) (s out : State) (one : Flow) (l : Meter) (x : Exit) → Ends kept one.ends s → PointIf one.count one.ends → WhereGoes (λ q. AllReadyAlong c.allowed b around rest k q one.count) one.ends
      → ((t : Store) → x ≡ Went t → H start kept t) → ((e : Environment) → IsOne e s.breaks → IsOne e out.breaks) → Next start kept around rest k s out → After start kept one s x
      → Every (run.go_on x (run.exec_all w fr (numbered_block rest k)) l) (After start kept (followed one (go_on one.ends one.count (exec_all b around (numbered_block rest k)))) out)
  goes start kept around rest k s out one l (Went t) ends pt ready hc grows next h =
      let two = go_on one.ends one.count (exec_all b around (numbered_block rest k)) in
      every_map (run.exec_all w fr (numbered_block rest k) t l) (After start kept two out) (After start kept (followed one two) out) (on_went start kept around rest k s out one.ends one.count t l ends pt ready (hc t refl) h next)
      (λ x y. then_after start kept one two out x y)
  goes start kept around rest k s out one l (Broke t) ends pt ready hc grows next h =
      let two = go_on one.ends one.count (exec_all b around (numbered_block rest k)) in
      record { spot = h.spot; env = h.env; is_spot = one_left h.spot one.breaks two.breaks h.is_spot; is_env = grows h.env h.is_env; reached = h.reached; holds = h.holds }
  goes start kept around rest k s out one l (Continued at t) ends pt ready hc grows next h = h
  goes start kept around rest k s out one l (Gave v) ends pt ready hc grows next h = tt

  -- ---- updates of parts

  -- the steps, then the value, which comes into the variable
  abbrev updating : ℕ → ℕ → List (Step ℕ) → Expr ℕ → ℕ → Store → Run Exit
  updating at x path e k v = needed at (slot v x) (λ d z. run.path_of w v (numbered_path path k) d z >>= (λ slots y. sem.eval w true (numbered e (k + exprs_in_path path)) v y >>= (λ r. run.stored fr at x (type_at types x) v (updated d slots r))))

  update_run : (start : Environment) (kept : ℕ → Bool) (f : Flow) (at x : ℕ) (path : List (Step ℕ)) (e : Expr ℕ) (k : ℕ) (q : Spot) (s out : State) (v : Store) (z : Meter) → MarksAre f.ends (mark q.set x true) → x < c.allowed.many → slot_at s.declared x ≡ Some (type_at types x) → Stands types kept q s
      → (i : Update p at x path e s out) → is_set q.set x ≡ true → PathReady c.allowed q path → CodeReady c.allowed q e → H s.env (is_set q.set) v → Every (updating at x path e k v z) (After start kept f (with_env i.env (with_flow i.v.flow s)))
  update_run start kept f at x path e k q s out v z set lt known st i on ready last h =
      let t = type_at types x in
      let n = new_parts names at x i.ty t s.env (slot_at s.declared x) i.env st.reached known i.new in
      let y = path_parts p s.env path (type_of s.env [] x) (record { types = type_of s.env [] x ∷ []; flow = s.flow }) i.along i.types in
      let number = k + exprs_in_path path in
      let P : Exit → Type 0 = After start kept f (with_env i.env (with_flow i.v.flow s)) in
      let end : Datum → List Slot → Run Exit = λ d slots o. sem.eval w true (numbered e number) v o >>= (λ r. run.stored fr at x t v (updated d slots r)) in
      every_needed at (slot v x) (λ d o. run.path_of w v (numbered_path path k) d o >>= end d) z P
      (λ d is.
      every_bind (run.path_of w v (numbered_path path k) d z) (end d) (Replaced c g s.env st.reached q v h at path (type_of s.env [] x ∷ y.0) d) P
      (path_leads c g s.env st.reached q v h at path k (type_of s.env [] x) s.flow y.0 i.along.flow d z y.2 ready (h.typed x d on is) (bounded_at names types c.members c.allowed.many s.env (is_set q.set) v x d h on is))
      (λ slots o eq leads. every_bind (sem.eval w true (numbered e number) v o) (λ r. run.stored fr at x t v (updated d slots r)) (Kind names s.env [] (is_set q.set) v i.v) P
      (value c g e number s.env i.along.flow i.v (is_set q.set) v st.reached i.typed last h o)
      (λ r o2 eq2 kd.
      let new = leads r i.v.ty i.ty (subst (λ (ts : List Ty). Updated names at path ts i.v.ty (Gives i.ty)) y.1 i.updated) kd.inside kd.bounded in
      let up = new_inside names at x i.ty t s.env (slot_at s.declared x) i.env known i.new (updated d slots r) new.0 in
      stored_in c g at x t v (updated d slots r) o2 P (free_at c g x t (updated d slots r) refl new.1 up)
      (λ member. put_end f.ends s.env i.env q v x n.made (updated d slots r) set st.reached n.is h lt new.1 (norms_same names g.code.recur i.ty n.made n.normal (updated d slots r) ∙ new.0) member))))

  -- ---- loops

  module _ (start : Environment) (kept : ℕ → Bool) (around : List (Expr Node)) (at : ℕ) (e : Expr ℕ) (invariants : List (Expr ℕ)) (body : Stmts ℕ) (k : ℕ) (q : Spot) (m : ℕ) (s out : State) (pt : Point m q) (scoped : AllScoped sc s.declared body)
      (stands : Stands types kept q s) (i : Loop p result at e invariants body s out) where
    abbrev xs : List ℕ
    xs = assigned_in body []

    abbrev marked : ℕ → Bool
    marked = is_set q.set

    abbrev block : Stmts Node
    block = inner b at e invariants body k q m

    abbrev one : Flow
    one = turn b at e invariants body k q m

    abbrev on_true : Spot
    on_true = where_true (test b at e invariants body k q m) (head b at e invariants body k q m).spot

    abbrev on_false : Spot
    on_false = where_false (test b at e invariants body k q m) (head b at e invariants body k q m).spot

    abbrev behind : Option Spot
    behind = (met b at e invariants body k q m).ends

    abbrev begin : State
    begin = in_loop s i.start i.v i.flow

    abbrev last : State
    last = record i.turn { env = i.env; breaks = s.breaks }

    marks : (head b at e invariants body k q m).spot.set ≡ q.set
    marks = head_marks b at e invariants body k q m

    pub loop_head : Headed names s.declared xs s.env i.start
    loop_head = headed names at s xs i.start stands.reached i.head

    pub loop_begun : Stands types marked on_true begin
    loop_begun = begin_stands p result b sc q on_true kept s i.start i.v i.flow xs marks loop_head stands

    pub loop_still : Still marked one begin i.turn
    loop_still = all_static p result b sc (clauses b at e invariants body k q m) body (k + exprs_in e + exprs_in_list invariants) marked on_true (test b at e invariants body k q m).count begin i.turn (body_point b at e invariants body k q m pt) scoped loop_begun i.typed

    known_in : (x : ℕ) (t : Ty) → slot_at s.declared x ≡ Some t → slot_at i.turn.declared x ≡ Some t
    known_in x t y = ap (λ (l : List (Option Ty)). slot_at l x) (all_grew p result body begin i.turn i.typed).declared ∙ all_stay_declared sc x t body s.declared scoped y

    pub loop_lasts : (x : ℕ) → marked x ≡ true → unsets_in x block ≡ false
    loop_lasts x on = none_unset sc x (type_at types x) body (k + exprs_in e + exprs_in_list invariants) s.declared scoped (stands.declared x on)

    pub loop_renews : Renews names types c.members c.allowed.many i.start marked (λ y. assigns_in y block)
    loop_renews = head_renews names types c.members c.allowed.many g.code.recur g.upward s.declared xs s.env i.start loop_head marked (λ y. assigns_in y block) stands.declared (λ x on a o. apart x on a o.0) where
      apart : (x : ℕ) → marked x ≡ true → assigns_in x block ≡ true → (is_among xs x ≡ false) ⊎ (slot_at s.declared x ≡ None) → ⊥
      apart x on a (inl f) = true_false (is_among xs x) (all_among sc x (type_at types x) body (k + exprs_in e + exprs_in_list invariants) s.declared [] scoped (stands.declared x on) a) f
      apart x on a (inr none) = no_slot (type_at types x) (sym none ∙ stands.declared x on)

    pub loop_starts : (v : Store) → H s.env marked v → H i.start marked v
    loop_starts v h = head_holds names types c.members c.allowed.many g.code.recur g.upward s.declared xs s.env i.start loop_head marked v stands.reached stands.declared h

    -- where the test is true, and where it is false
    pub yes_holds : (t : Store) → H i.start marked t → Kind names i.start [] marked t i.v (Truth true) → H (changed i.start i.v.yes) (is_set on_true.set) t
    yes_holds t h kd =
        fewer names types c.members c.allowed.many (changed i.start i.v.yes) marked (is_set on_true.set) t (λ x on. from_head b at e invariants body k q m x on)
        (changed_holds names types c.members c.allowed.many i.start i.v.yes marked t loop_head.reached (kd.if_true refl) h)

    false_end : (o : Option Spot) (t : Store) → MeetsIf (on_false ∷ one.breaks) o → H i.start marked t → Kind names i.start [] marked t i.v (Truth false) → EndsAt o i.env t
    false_end None t y h kd = absurd (y on_false (inl refl))
    false_end (Some r) t y h kd =
        let down : (x : ℕ) → is_set r.set x ≡ true → marked x ≡ true = λ x on. from_head b at e invariants body k q m x (y.down x on on_false (inl refl)) in
        meets_holds names types c.members c.allowed.many (changed i.start i.v.no) i.env marked (is_set r.set) t down (changed_reached i.v.no i.start loop_head.reached)
        (λ x on. test_has p result b sc kept at q on_false one s i.turn out i.start i.env i.v i.flow xs marks loop_head stands loop_still i.exit known_in x (down x on))
        (λ x d on n. exit_first names g.code.recur at x d i.turn.breaks (changed i.start i.v.no) i.env i.exit n
        (break_has p result b sc kept at q on_false one s i.turn out i.start i.env i.v i.flow xs marks loop_head stands loop_still i.exit known_in x (λ z o. y.down x on z (inr o))))
        (changed_holds names types c.members c.allowed.many i.start i.v.no marked t loop_head.reached (kd.if_false refl) h)

    break_end : (o : Option Spot) (t : Store) → MeetsIf (on_false ∷ one.breaks) o → AtBreak one i.turn t → EndsAt o i.env t
    break_end None t y h = absurd (y on_false (inl refl))
    break_end (Some r) t y h =
        let has : (x : ℕ) → is_set r.set x ≡ true → (v : Environment) → IsOne v i.turn.breaks → HasIf v x =
        λ x on. break_has p result b sc kept at q on_false one s i.turn out i.start i.env i.v i.flow xs marks loop_head stands loop_still i.exit known_in x (λ z o. y.down x on z (inr o)) in
        meets_holds names types c.members c.allowed.many h.env i.env (is_set h.spot.set) (is_set r.set) t (λ x on. y.down x on h.spot (inr h.is_spot)) h.reached (λ x on. has x on h.env h.is_env h.reached)
        (λ x d on n. exit_break names g.code.recur at x d i.turn.breaks (changed i.start i.v.no) i.env i.exit
        (λ z. test_has p result b sc kept at q on_false one s i.turn out i.start i.env i.v i.flow xs marks loop_head stands loop_still i.exit known_in x (from_head b at e invariants body k q m x (y.down x on on_false (inl refl)))) (has x on) h.env h.is_env n)
        h.holds

    abbrev keeping : ℕ → Store → Run Exit → Run Exit
    keeping from = sem.clauses w kind.Keep from (clauses b at e invariants body k q m)

    abbrev next : ℕ → Store → Run Exit
    next j = run.rounds j at (run.tested_truth w at (numbered e k)) (run.exec_all w fr block) keeping

    abbrev whole : Flow
    whole = exec b around (numbered_stmt (WhileStmt at e invariants body) k) q m

    abbrev P : Exit → Type 0
    P = After start kept whole last

    -- the rounds from a store at the head
    abbrev From : ℕ → Type 0
    From j = (u : Store) → H i.start marked u → (l : Meter) → Every (next j u l) P

    -- the body from a store at the head, where the test is true
    abbrev pub BodyRuns : Type 0
    BodyRuns = (t : Store) (l : Meter) → H i.start marked t → H (changed i.start i.v.yes) (is_set on_true.set) t → Every (run.exec_all w fr block t l) (After i.start marked one i.turn)

    -- at the head again
    pub turned : (t u : Store) (l o : Meter) → H i.start marked t → run.exec_all w fr block t l ≡ Done (Went u) o → EndsAt one.ends i.turn.env u → H i.start marked u
    turned t u l o h eq here =
        carried i.start marked (λ y. assigns_in y block) (λ y. unsets_in y block) t u one.ends i.turn loop_renews loop_lasts h (statements_keep.block w fr block t (Went u) l o eq) loop_still.ends here

    ended : (j : ℕ) (t : Store) → H i.start marked t → From j → (x : Exit) (l o : Meter) → run.exec_all w fr block t l ≡ Done x o → After i.start marked one i.turn x → Every (run.go_round at keeping (next j) x o) P
    ended j t h more (Went u) l o eq af = clauses_any w kind.Keep at (clauses b at e invariants body k q m) u (next j u) o P (λ z. more u (turned t u l o h eq af) z)
    ended j t h more (Broke u) l o eq af = break_end behind u (loop_meets b at e invariants body k q m pt) af
    ended j t h more (Continued from u) l o eq af = clauses_any w kind.Keep from (clauses b at e invariants body k q m) u (next j u) o P (λ z. more u af z)
    ended j t h more (Gave r) l o eq af = tt

    rounds_run : BodyRuns → CodeReady c.allowed q e → (j : ℕ) → From j
    rounds_run runs ready zero t h l = tt
    rounds_run runs ready (suc j) t h l =
        let go : Bool → Run Exit = λ r. choose r (λ z. run.exec_all w fr block t z >>= run.go_round at keeping (next j)) (Done (Went t)) in
        every_spend true (λ z. run.tested_truth w at (numbered e k) t z >>= go) P
        (λ z. every_bind (run.tested_truth w at (numbered e k) t z) go (λ r. Kind names i.start [] marked t i.v (Truth r)) P
        (truth_of c g (sem.eval w true (numbered e k) t z) at i.start marked t i.v (value c g e k i.start s.flow i.v marked t loop_head.reached i.test.typed ready h z))
        (λ r y eq kd. every_choose r (λ z. run.exec_all w fr block t z >>= run.go_round at keeping (next j)) (Done (Went t)) y P
        (λ yes. every_bind (run.exec_all w fr block t y) (run.go_round at keeping (next j)) (After i.start marked one i.turn) P (runs t y h (yes_holds t h (subst (λ (a : Bool). Kind names i.start [] marked t i.v (Truth a)) yes kd)))
        (λ x o eq2 af. ended j t h (rounds_run runs ready j) x y o eq2 af))
        (λ off. false_end behind t (loop_meets b at e invariants body k q m pt) h (subst (λ (a : Bool). Kind names i.start [] marked t i.v (Truth a)) off kd)))) l

    loop_run : BodyRuns → CodeReady c.allowed q e → (v : Store) (l : Meter) → H s.env marked v → Every (run.exec w fr (numbered_stmt (WhileStmt at e invariants body) k) v l) P
    loop_run runs ready v l h =
        every_spend true (sem.clauses w kind.Entry at (clauses b at e invariants body k q m) v (λ z. next (suc z.ticks) v z)) P
        (λ y. clauses_any w kind.Entry at (clauses b at e invariants body k q m) v (λ z. next (suc z.ticks) v z) y P (λ z. rounds_run runs ready (suc z.ticks) v (loop_starts v h) z)) l

  -- ---- statements

  abbrev pub Ren : Environment → (ℕ → Bool) → (ℕ → Bool) → Type 0
  Ren = Renews c.program.names c.body.types c.members c.allowed.many

  pub ren_first : (start : Environment) (kept a z : ℕ → Bool) → Ren start kept (λ y. a y || z y) → Ren start kept a
  ren_first start kept a z h x on e = h x on (or_left (a x) (z x) e)

  pub ren_second : (start : Environment) (kept a z : ℕ → Bool) → Ren start kept (λ y. a y || z y) → Ren start kept z
  ren_second start kept a z h x on e = h x on (or_right (a x) (z x) e)

  mutual
    pub run_stmt : (start : Environment) (kept : ℕ → Bool) (around : List (Expr Node)) (st : Stmt ℕ) (k : ℕ) (q : Spot) (m : ℕ) (s out : State) (v : Store) (l : Meter) → Point m q → Scoped sc s.declared st → Stands types kept q s → TypedStmt p result st s (Gives out)
        → ReadyAlong c.allowed b around st k q m → Ren start kept (λ y. assigns y (numbered_stmt st k)) → H start kept v → H s.env (is_set q.set) v → Every (run.exec w fr (numbered_stmt st k) v l) (After start kept (exec b around (numbered_stmt st k) q m) out)
    run_stmt start kept around (DeclareStmt at t x None) k q m s out v l pt scoped st typed ready ren hc h =
        let i = unset_parts p at t x s out typed in
        let n = normal_parts names at x t s.env i.env st.reached i.normal in
        let f = exec b around (numbered_stmt (DeclareStmt at t x None) k) q m in
        let a = declare x t (with_env i.env s) in
        as_out start kept f a out (run.exec w fr (numbered_stmt (DeclareStmt at t x None) k) v l) i.is
        (every_spend true (Done (Went (put v x None))) (After start kept f a) (λ z. unset_end f.ends s.env i.env q v x n.made refl st.reached n.is h) l)
    run_stmt start kept around (DeclareStmt at t x (Some e)) k q m s out v l pt scoped st typed ready ren hc h =
        let i = declaration_parts p at t x s e out typed in
        let n = normal_parts names at x (InterTy i.v.ty t) s.env i.env st.reached i.comes.normal in
        let f = exec b around (numbered_stmt (DeclareStmt at t x (Some e)) k) q m in
        let a = declare x t (with_env i.env (with_flow i.v.flow s)) in
        as_out start kept f a out (run.exec w fr (numbered_stmt (DeclareStmt at t x (Some e)) k) v l) i.is
        (every_spend true (λ z. sem.eval w true (numbered e k) v z >>= run.stored fr at x t v) (After start kept f a)
        (λ z. every_bind (sem.eval w true (numbered e k) v z) (run.stored fr at x t v) (Kind names s.env [] (is_set q.set) v i.v) (After start kept f a) (value c g e k s.env s.flow i.v (is_set q.set) v st.reached i.typed ready h z)
        (λ d y eq kd.
        let up = i.comes.inside d kd.inside in
        stored_in c g at x t v d y (After start kept f a) (free_at c g x t d scoped.2 kd.bounded up)
        (λ member. put_end f.ends s.env i.env q v x n.made d refl st.reached n.is h scoped.0 kd.bounded (in_both names g.code.recur i.v.ty t n.made n.normal d kd.inside up) (subst (λ (u : Ty). is_in c.members u d ≡ true) (sym scoped.2) member)))) l)
    run_stmt start kept around (AssignStmt at x [] e) k q m s out v l pt scoped st typed ready ren hc h =
        let i = assignment_parts p at x e s out typed in
        let t = type_at types x in
        let comes = into_parts names at x i.v.ty t s.env (slot_at s.declared x) i.env scoped.1 i.into in
        let n = normal_parts names at x (InterTy i.v.ty t) s.env i.env st.reached comes.normal in
        let f = exec b around (numbered_stmt (AssignStmt at x [] e) k) q m in
        let a = with_env i.env (with_flow i.v.flow s) in
        let number = k + exprs_in_path {N = ℕ} [] in
        as_out start kept f a out (run.exec w fr (numbered_stmt (AssignStmt at x [] e) k) v l) i.is
        (every_spend true (λ z. sem.eval w true (numbered e number) v z >>= run.stored fr at x t v) (After start kept f a)
        (λ z. every_bind (sem.eval w true (numbered e number) v z) (run.stored fr at x t v) (Kind names s.env [] (is_set q.set) v i.v) (After start kept f a) (value c g e number s.env s.flow i.v (is_set q.set) v st.reached i.typed ready h z)
        (λ d y eq kd.
        let up = comes.inside d kd.inside in
        stored_in c g at x t v d y (After start kept f a) (free_at c g x t d refl kd.bounded up)
        (λ member. put_end f.ends s.env i.env q v x n.made d refl st.reached n.is h scoped.0 kd.bounded (in_both names g.code.recur i.v.ty t n.made n.normal d kd.inside up) member))) l)
    run_stmt start kept around (AssignStmt at x (IndexStep from index ∷ steps) e) k q m s out v l pt scoped st typed ready ren hc h =
        let path = IndexStep from index ∷ steps in
        let i = update_parts p at x path e s out typed in
        let f = exec b around (numbered_stmt (AssignStmt at x path e) k) q m in
        let a = with_env i.env (with_flow i.v.flow s) in
        as_out start kept f a out (run.exec w fr (numbered_stmt (AssignStmt at x path e) k) v l) i.is
        (every_spend true (updating at x path e k v) (After start kept f a) (λ z. update_run start kept f at x path e k q s out v z refl scoped.0 scoped.1 st i ready.0 ready.1 ready.2 h) l)
    run_stmt start kept around (AssignStmt at x (FieldStep from name ∷ steps) e) k q m s out v l pt scoped st typed ready ren hc h =
        let path = FieldStep from name ∷ steps in
        let i = update_parts p at x path e s out typed in
        let f = exec b around (numbered_stmt (AssignStmt at x path e) k) q m in
        let a = with_env i.env (with_flow i.v.flow s) in
        as_out start kept f a out (run.exec w fr (numbered_stmt (AssignStmt at x path e) k) v l) i.is
        (every_spend true (updating at x path e k v) (After start kept f a) (λ z. update_run start kept f at x path e k q s out v z refl scoped.0 scoped.1 st i ready.0 ready.1 ready.2 h) l)
    run_stmt start kept around (CallStmt at f es) k q m s out v l pt scoped st typed ready ren hc h =
        let i = call_parts p at f es s out typed in
        let fl = exec b around (numbered_stmt (CallStmt at f es) k) q m in
        let a = with_flow i.all.flow s in
        as_out start kept fl a out (run.exec w fr (numbered_stmt (CallStmt at f es) k) v l) i.is
        (every_spend true (λ z. sem.eval_all w true (numbered_all es k) v z >>= (λ vs y. w.call f at vs y >>= (λ r. Done (Went v)))) (After start kept fl a)
        (λ z. every_bind (sem.eval_all w true (numbered_all es k) v z) (λ vs y. w.call f at vs y >>= (λ r. Done (Went v))) (λ vs. Unit {0}) (After start kept fl a) (every_told _ _ (λ vs y eq. tt))
        (λ vs y eq u. every_bind (w.call f at vs y) (λ r. Done (Went v)) (λ r. Unit {0}) (After start kept fl a) (every_told _ _ (λ r o eq2. tt)) (λ r o eq2 u2. same_end fl.ends s.env q v refl h))) l)
    run_stmt start kept around (ReturnStmt at None) k q m s out v l pt scoped st typed ready ren hc h =
        let f = exec b around (numbered_stmt (ReturnStmt at None) k) q m in
        every_spend true (run.leave w fr at fr.result None) (After start kept f out) (λ z. leaves_any w fr at fr.result None z (After start kept f out) (λ r. tt)) l
    run_stmt start kept around (ReturnStmt at (Some e)) k q m s out v l pt scoped st typed ready ren hc h =
        let f = exec b around (numbered_stmt (ReturnStmt at (Some e)) k) q m in
        every_spend true (λ z. sem.eval w true (numbered e k) v z >>= (λ d. run.leave w fr at fr.result (Some d))) (After start kept f out)
        (λ z. every_bind (sem.eval w true (numbered e k) v z) (λ d. run.leave w fr at fr.result (Some d)) (λ d. Unit {0}) (After start kept f out) (every_told _ _ (λ d y eq. tt))
        (λ d y eq u. leaves_any w fr at fr.result (Some d) y (After start kept f out) (λ r. tt))) l
    run_stmt start kept around (AssertStmt at e) k q m s out v l pt scoped st typed ready ren hc h =
        let i = assertion_parts p at e s out typed in
        let f = exec b around (numbered_stmt (AssertStmt at e) k) q m in
        let a = with_env (changed s.env i.v.yes) (with_flow i.v.flow s) in
        as_out start kept f a out (run.exec w fr (numbered_stmt (AssertStmt at e) k) v l) i.is
        (every_spend true (λ z. sem.holds_at w at (numbered e k) v z >>= (λ r. check r kind.Assert at (Done (Went v)))) (After start kept f a)
        (λ z. every_bind (sem.holds_at w at (numbered e k) v z) (λ r. check r kind.Assert at (Done (Went v))) (λ r. Kind names s.env [] (is_set q.set) v i.v (Truth r)) (After start kept f a)
        (truth_of c g (sem.eval (sem.quiet w) false (numbered e k) v z) at s.env (is_set q.set) v i.v (quiet_value c g e k s.env s.flow i.v (is_set q.set) v st.reached i.test.typed ready h z))
        (λ r y eq kd. every_check r kind.Assert at (Done (Went v)) y (After start kept f a)
        (λ yes. same_end f.ends (changed s.env i.v.yes) q v refl (changed_holds names types c.members c.allowed.many s.env i.v.yes (is_set q.set) v st.reached (kd.if_true (ap Truth yes)) h)))) l)
    run_stmt start kept around (BreakStmt at) k q m s out v l pt scoped st typed ready ren hc h =
        let f = exec b around (numbered_stmt (BreakStmt at) k) q m in
        as_out start kept f (broken s) out (run.exec w fr (numbered_stmt (BreakStmt at) k) v l) (given_is out (broken s) typed)
        (every_spend true (Done (Broke v)) (After start kept f (broken s))
        (λ z. record { spot = q; env = s.env; is_spot = inl refl; is_env = one_right s.env s.breaks (s.env ∷ []) (inl refl); reached = st.reached; holds = h }) l)
    run_stmt start kept around (ContinueStmt at) k q m s out v l pt scoped st typed ready ren hc h =
        let f = exec b around (numbered_stmt (ContinueStmt at) k) q m in every_spend true (Done (Continued at v)) (After start kept f out) (λ z. hc) l
    run_stmt start kept around (SkipStmt at) k q m s out v l pt scoped st typed ready ren hc h =
        let f = exec b around (numbered_stmt (SkipStmt at) k) q m in
        as_out start kept f s out (run.exec w fr (numbered_stmt (SkipStmt at) k) v l) (given_is out s typed) (every_spend true (Done (Went v)) (After start kept f s) (λ z. h) l)
    run_stmt start kept around (FailStmt at) k q m s out v l pt scoped st typed ready ren hc h =
        let f = exec b around (numbered_stmt (FailStmt at) k) q m in every_spend true (Fault kind.Fail at) (After start kept f out) (λ z. tt) l
    run_stmt start kept around (IfStmt at e first second) k q m s out v l pt scoped st typed ready ren hc h =
        let i = if_parts p result at e first second s out typed in
        let k1 = k + exprs_in e in
        let k2 = k + exprs_in e + exprs_in_block first in
        let b1 = numbered_block first k1 in
        let b2 = numbered_block second k2 in
        let x = expr b (numbered e k) q.vars q.hyps m in
        let up = expr_up b (numbered e k) q.vars q.hyps m in
        let here = point_more m x.count q up pt in
        let one = exec_all b around b1 (where_true x q) x.count in
        let two = exec_all b around b2 (where_false x q) one.count in
        let pt1 = with_point x.count q (assume x.hyps (formula x.term)) here in
        let f1 = block_points b around b1 (where_true x q) x.count pt1 in
        let pt2 = with_point one.count q (assume x.hyps (denied (formula x.term))) (point_more x.count one.count q f1.grows here) in
        let g1 = all_grew p result first (on_yes s i.v) i.one i.on_first in
        let g2 = all_grew p result second (on_no s i.v i.one) i.two i.on_second in
        let sc2 : AllScoped sc i.one.declared second = subst (λ (z : List (Option Ty)). AllScoped sc z second) (sym g1.declared) scoped.1 in
        let known : (x : ℕ) (t : Ty) → slot_at s.declared x ≡ Some t → slot_at i.one.declared x ≡ Some t = λ x t y. ap (λ (z : List (Option Ty)). slot_at z x) g1.declared ∙ all_stay_declared sc x t first s.declared scoped.0 y in
        let st1 = changed_stands p result b sc kept q (where_true x q) s (on_yes s i.v) i.v.yes refl refl (λ y u z. z) st in
        let st2 = changed_stands p result b sc kept q (where_false x q) s (on_no s i.v i.one) i.v.no refl refl known st in
        let e1 = all_static p result b sc around first k1 kept (where_true x q) x.count (on_yes s i.v) i.one pt1 scoped.0 st1 i.on_first in
        let e2 = all_static p result b sc around second k2 kept (where_false x q) one.count (on_no s i.v i.one) i.two pt2 sc2 st2 i.on_second in
        let f = exec b around (numbered_stmt (IfStmt at e first second) k) q m in
        let a = with_env i.env i.two in
        let P : Exit → Type 0 = After start kept f a in
        let met = if_meets b around x b1 b2 q m up pt in
        let ren1 = ren_first start kept (λ y. assigns_in y b1) (λ y. assigns_in y b2) ren in
        let ren2 = ren_second start kept (λ y. assigns_in y b1) (λ y. assigns_in y b2) ren in
        as_out start kept f a out (run.exec w fr (numbered_stmt (IfStmt at e first second) k) v l) i.is
        (every_spend true (λ z. run.tested_truth w at (numbered e k) v z >>= (λ r. choose r (run.exec_all w fr b1 v) (run.exec_all w fr b2 v))) P
        (λ z. every_bind (run.tested_truth w at (numbered e k) v z) (λ r. choose r (run.exec_all w fr b1 v) (run.exec_all w fr b2 v)) (λ r. Kind names s.env [] (is_set q.set) v i.v (Truth r)) P
        (truth_of c g (sem.eval w true (numbered e k) v z) at s.env (is_set q.set) v i.v (value c g e k s.env s.flow i.v (is_set q.set) v st.reached i.test.typed ready.0 h z))
        (λ r y eq kd. every_choose r (run.exec_all w fr b1 v) (run.exec_all w fr b2 v) y P
        (λ yes. every_map (run.exec_all w fr b1 v y) (After start kept one i.one) P
        (run_block start kept around first k1 (where_true x q) x.count (on_yes s i.v) i.one v y pt1 scoped.0 st1 i.on_first ready.1 ren1 hc (changed_holds names types c.members c.allowed.many s.env i.v.yes (is_set q.set) v st.reached (kd.if_true (ap Truth yes)) h))
        (λ o af. first_after start kept at f one two i.one i.two i.env i.joined e1.ends e2.ends met refl g2.breaks o af))
        (λ off. every_map (run.exec_all w fr b2 v y) (After start kept two i.two) P
        (run_block start kept around second k2 (where_false x q) one.count (on_no s i.v i.one) i.two v y pt2 sc2 st2 i.on_second ready.2 ren2 hc (changed_holds names types c.members c.allowed.many s.env i.v.no (is_set q.set) v st.reached (kd.if_false (ap Truth off)) h))
        (λ o af. second_after start kept at f one two i.one i.two i.env i.joined e1.ends e2.ends met refl o af)))) l)
    run_stmt start kept around (WhileStmt at e invariants body) k q m s out v l pt scoped st typed ready ren hc h =
        let i = loop_parts p result at e invariants body s out typed in
        let f = exec b around (numbered_stmt (WhileStmt at e invariants body) k) q m in
        as_out start kept f (record i.turn { env = i.env; breaks = s.breaks }) out (run.exec w fr (numbered_stmt (WhileStmt at e invariants body) k) v l) i.is
        (loop_run start kept around at e invariants body k q m s out pt scoped st i
        (λ t y ht hy. run_block i.start (is_set q.set) (clauses b at e invariants body k q m) body (k + exprs_in e + exprs_in_list invariants) (where_true (test b at e invariants body k q m) (head b at e invariants body k q m).spot) (test b at e invariants body k q m).count
        (in_loop s i.start i.v i.flow) i.turn t y (body_point b at e invariants body k q m pt) scoped (loop_begun start kept around at e invariants body k q m s out pt scoped st i) i.typed ready.2 (loop_renews start kept around at e invariants body k q m s out pt scoped st i) ht hy)
        ready.1 v l h)

    pub run_block : (start : Environment) (kept : ℕ → Bool) (around : List (Expr Node)) (block : Stmts ℕ) (k : ℕ) (q : Spot) (m : ℕ) (s out : State) (v : Store) (l : Meter) → Point m q → AllScoped sc s.declared block → Stands types kept q s → TypedBlock p result block s (Gives out)
        → AllReadyAlong c.allowed b around block k q m → Ren start kept (λ y. assigns_in y (numbered_block block k)) → H start kept v → H s.env (is_set q.set) v → Every (run.exec_all w fr (numbered_block block k) v l) (After start kept (exec_all b around (numbered_block block k) q m) out)
    run_block start kept around NoStmts k q m s out v l pt scoped st typed ready ren hc h = as_out start kept (exec_all b around NoStmts q m) s out (Done (Went v) l) (given_is out s typed) h
    run_block start kept around (MoreStmts first rest) k q m s out v l pt scoped st typed ready ren hc h =
        let t = then_gives _ _ out typed in
        let head = numbered_stmt first k in
        let n = k + exprs_in_stmt first in
        let tail = numbered_block rest n in
        let one = exec b around head q m in
        let grown = grew p result first s t.0 t.1 in
        let still = static p result b sc around first k kept q m s t.0 pt scoped.0 st t.1 in
        let points = statement_points b around head q m pt in
        let ren1 = ren_first start kept (λ y. assigns y head) (λ y. assigns_in y tail) ren in
        let ren2 = ren_second start kept (λ y. assigns y head) (λ y. assigns_in y tail) ren in
        let sc2 : AllScoped sc t.0.declared rest = subst (λ (z : List (Option Ty)). AllScoped sc z rest) (sym grown.declared) scoped.1 in
        let lasts : (x : ℕ) → kept x ≡ true → unsets x head ≡ false = λ x on. not_unset sc x (type_at types x) first k s.declared scoped.0 (st.declared x (st.keeps x on)) in
        let two = go_on one.ends one.count (exec_all b around tail) in
        every_bind (run.exec w fr head v l) (λ x. run.go_on x (run.exec_all w fr tail)) (After start kept one t.0) (After start kept (followed one two) out) (run_stmt start kept around first k q m s t.0 v l pt scoped.0 st t.1 ready.0 ren1 hc h)
        (λ x y eq af. goes start kept around rest n t.0 out one y x still.ends points.ends ready.1
        (λ u is. carried start kept (λ z. assigns z head) (λ z. unsets z head) v u one.ends t.0 ren1 lasts hc (statements_keep.statement w fr head v (Went u) l y (eq ∙ ap (λ (z : Exit). Done z y) is)) still.ends (subst (After start kept one t.0) is af))
        (λ e o. (all_grew p result rest t.0 out t.2).breaks e o)
        (λ r i u o ptr str rr hcu hu. run_block start kept around rest n r i t.0 out u o ptr sc2 str t.2 rr ren2 hcu hu) af)
