-- Typed statements meet what is asked of their run.
use Rattle.std.proofs.Common.{◌≡◌, ◌⊎◌, inl, inr, ℕ, zero, suc, ◌+◌, List, [], ◌∷◌, length, Bool, true, false, Option, Some, None, refl, sym, ap, ◌∙◌, subst, arith}
use Rattle.std.specs.Prelude.{slice_get}
use Rattle.wy_lemmas.proofs.Choices.{false_true as no_truth}
use Rattle.wy_value.specs.Datum.{Datum, Truth}
use Rattle.wy_core.specs.Types.{Ty}
use Rattle.wy_core.specs.CoreTree as tree
use Rattle.wy_core.specs.CoreTree.{Expr, Exprs, Step, IndexStep, FieldStep, Stmt, DeclareStmt, AssignStmt, CallStmt, ReturnStmt, AssertStmt, BreakStmt, ContinueStmt, SkipStmt, FailStmt, IfStmt, WhileStmt, Stmts, NoStmts, MoreStmts}
use Rattle.wy_types.specs.Names.{Up}
use Rattle.wy_sound_statements.specs.wy_flow_spec.environment.Slots.{slot_at}
use Rattle.wy_sound_statements.specs.wy_flow_spec.environment.Variables.{Environment, nothing_known, changed, type_of}
use Rattle.wy_sound_statements.specs.wy_flow_spec.typing.Outcomes.{Gives, gave}
use Rattle.wy_sound_statements.specs.wy_flow_spec.typing.Contexts.{Program, Found}
use Rattle.wy_sound_statements.specs.wy_flow_spec.typing.Expressions.{none_yet}
use Rattle.wy_sound_statements.specs.wy_flow_spec.typing.Loops.{ClausesTyped}
use Rattle.wy_sound_statements.specs.wy_flow_spec.typing.States.{State}
use Rattle.wy_sound_statements.specs.wy_flow_spec.typing.Paths.{Updated}
use Rattle.wy_sound_statements.specs.wy_flow_spec.typing.Programs.{result_type}
use Rattle.wy_sound_statements.specs.wy_flow_spec.typing.Statements.{FitsResult, TypedStmt, TypedBlock}
use Rattle.wy_sem.specs.Meter.{Meter, Done}
use Rattle.wy_sem.specs.Operations.{updated}
use Rattle.wy_sem.specs.Expressions as sem
use Rattle.wy_sem.specs.Expressions.{Store, slot}
use Rattle.wy_sem.specs.Statements as run
use Rattle.wy_sem.specs.Statements.{Exit, Went, Broke, Continued, Gave, Frame, type_at}
use Rattle.wy_vc_spec.specs.Sizes.{exprs_in, exprs_in_list, exprs_in_path, exprs_in_stmt, exprs_in_block}
use Rattle.wy_vc_spec.specs.Numbered.{Node, numbered, numbered_all, numbered_path, numbered_stmt, numbered_block}
use Rattle.wy_vc_spec.specs.Owed.{assume}
use Rattle.wy_vc_spec.specs.Making.{formula, denied}
use Rattle.wy_vc_spec.specs.Spots.{Spot, Flow, is_set}
use Rattle.wy_vc_spec.specs.Assigned.{assigns, assigns_in}
use Rattle.wy_vc_spec.specs.Statements.{Body, expr, where_true, where_false, exec, exec_all}
use Rattle.wy_sound_statements.specs.wy_sound_terms.operations.Kinds.{IsTruth}
use Rattle.wy_sound_statements.specs.wy_sound_walks.expressions.Types.{is_in}
use Rattle.wy_sound_statements.specs.wy_sound_walks.expressions.Suits.{Kinds, Each, Suits, AllSuit}
use Rattle.wy_sound_statements.proofs.wy_sound_walks_proofs.expressions_lemmas.LawLemmas.{are_data}
use Rattle.wy_sound_statements.specs.wy_sound_walks.clauses.Clauses.{AllFit}
use Rattle.wy_sound_statements.proofs.wy_sound_walks_proofs.points_lemmas.SetLemmas.{Point, PointIf, point_more, with_point, depend_from}
use Rattle.wy_sound_statements.proofs.wy_sound_walks_proofs.points_lemmas.StayLemmas.{expr_up, statement_points, block_points}
use Rattle.wy_sound_statements.specs.wy_sound_kinds.frames.Frames.{unsets}
use Rattle.wy_sound_statements.proofs.wy_sound_kinds_proofs.frames_lemmas.EveryLemmas.{every_of}
use Rattle.wy_sound_statements.proofs.wy_sound_kinds_proofs.frames_lemmas.FrameLemmas.{statements_keep}
use Rattle.wy_sound_statements.specs.wy_sound_kinds.Ready.{count_of, AllReady}
use Rattle.wy_sound_statements.specs.wy_sound_kinds.Kinds.{Kind}
use Rattle.wy_sound_statements.proofs.wy_sound_kinds_proofs.TypeLemmas.{then_gives, AllIn}
use Rattle.wy_sound_statements.proofs.wy_sound_kinds_proofs.KindLemmas as typed
use Rattle.wy_sound_statements.proofs.wy_sound_kinds_proofs.KindLemmas.{kinds}
use Rattle.wy_sound_statements.specs.wy_sound_kinds.suits.Laws.{Begins}
use Rattle.wy_sound_statements.proofs.wy_sound_kinds_proofs.suits_lemmas.FlowLemmas.{begins_more}
use Rattle.wy_sound_statements.proofs.wy_sound_kinds_proofs.suits_lemmas.KindLemmas.{truth_in}
use Rattle.wy_sound_statements.proofs.wy_sound_kinds_proofs.suits_lemmas.SuitLemmas.{all_suit}
use Rattle.wy_sound_statements.specs.StatementSuits.{IsTested, Leads, AtTurns, KeepFits, Behind, UpdateSuits, StmtSuits, BlockSuits}
use Rattle.wy_sound_statements.specs.Ends.{frame_at, code_kinds}
use Rattle.wy_sound_programs.specs.Scopes.{Scope, Scoped, AllScoped}
use Rattle.wy_sound_programs.specs.Along.{CodeReady, PathReady, WhereGoes, ReadyAlong, AllReadyAlong}
use Rattle.wy_sound_programs.specs.Typed.{Setting, scope_of, Grounds, Stands, Holds, nothing_kept, TypedBlocksSuit}
use Rattle.wy_sound_programs.proofs.LoopLemmas.{clauses, inner, head, test, turn, head_marks, body_point}
use Rattle.wy_sound_programs.proofs.PartLemmas.{Test, declaration_parts, assignment_parts, into_parts, new_inside, Update, update_parts, path_parts, Call, call_parts, return_parts, assertion_parts, on_yes, on_no, if_parts, in_loop, Loop, loop_parts}
use Rattle.wy_sound_programs.proofs.ScopeLemmas.{all_stay_declared, not_unset}
use Rattle.wy_sound_programs.proofs.GrewLemmas.{flow_one, flow_clauses, grew, all_grew}
use Rattle.wy_sound_programs.proofs.StaticLemmas.{static, changed_stands}
use Rattle.wy_sound_programs.proofs.UpdateLemmas.{Replaced, path_leads, steps_begin, path_suits}
use Rattle.wy_sound_programs.proofs.ValueLemmas.{free_at, value_suits, each_value, all_fit}
use Rattle.wy_sound_programs.proofs.StoreLemmas.{changed_holds}
use Rattle.wy_sound_programs.proofs.RunLemmas.{Ends, EndsAt, After, Ren, carried, ren_first, ren_second, loop_head, loop_begun, loop_still, loop_lasts, loop_renews, loop_starts, yes_holds, turned, run_stmt, run_block}
use Rattle.wy_sound_programs.proofs.MoreLemmas.{more_fit, signature_fit, none_of, some_of}

-- a test is a typed clause
as_clause : (p : Program) (env : Environment) (flow : List Ty) (e : Expr ℕ) (v : Found) → Test p env flow e v → ClausesTyped p env (e ∷ []) flow (Gives v.flow)
as_clause p env flow e v t = gave v.flow (Gives v.flow) (gave v (Gives v.flow) (gave v (Gives v) t.typed (gave tt (Gives v) t.within refl)) refl) refl

module _ (c : Setting) (g : Grounds c) where
  abbrev p : Program
  p = c.program

  abbrev b : Body Node
  b = c.body

  abbrev fr : Frame Node
  fr = frame_at c.body c.owed c.arguments

  abbrev sc : Scope
  sc = scope_of c

  abbrev types : List Ty
  types = c.body.types

  abbrev result : Option Ty
  result = result_type c.body.routine.result

  abbrev W : Kinds Node
  W = code_kinds c.evaluation c.body c.members c.in_expressions

  abbrev calls : ℕ → List Datum → Type 0
  calls f vs = c.by_statements f vs ≡ true

  abbrev Hold : Environment → (ℕ → Bool) → Store → Type 0
  Hold = Holds c.program.names c.body.types c.members c.allowed.many

  -- ---- calls

  call_suits : (at f : ℕ) (es : Exprs ℕ) (k : ℕ) (s out : State) (seen : ℕ → Bool) (v : Store) → k ≡ length s.flow → s.env.reached ≡ true → Call p at f es s out → Begins out.flow c.flow → AllReady c.allowed.rules false c.allowed.many seen es → c.allowed.statements f (count_of es) ≡ true → Hold s.env seen v
      → AllSuit W false seen (numbered_all es k) v × ((vs : List Datum) (m j : Meter) → sem.eval_all c.evaluation true (numbered_all es k) v m ≡ Done vs j → calls f vs)
  call_suits at f es k s out seen v is reached i begins ready called h =
      let sized = subst (λ (n : ℕ). AllReady c.allowed.rules false n seen es) (sym h.size) ready in
      let behind : Begins i.all.flow c.flow = subst (λ (z : State). Begins z.flow c.flow) i.is begins in (
        all_suit p c.allowed.rules c.evaluation true (is_in c.members) g.code g.code_asks c.body.program.setting.is_number c.flow g.tells s.env reached (λ f vs. c.in_expressions f vs ≡ true) es k [] (none_yet s.flow) i.all false seen v is i.typed behind sized
            (λ none f vs these. g.taken f vs these) h.values h.typed,
        λ vs m j eq.
            let y = every_of (sem.eval_all c.evaluation true (numbered_all es k) v m) (typed.Kinds p (none_yet s.flow) i.all (count_of es))
            (kinds p c.allowed.rules c.evaluation true (is_in c.members) g.code s.env reached false seen v h.values es k [] (none_yet s.flow) i.all i.typed sized h.typed m) vs j eq in
            let inside : AllIn p.names i.all.types vs = subst (λ (ts : List Ty). AllIn p.names ts vs) (sym y.behind) y.inside in
            g.called f vs (record {
              called = subst (λ (n : ℕ). c.allowed.statements f n ≡ true) (sym y.many) called;
              bounded = y.bounded;
              arguments = signature_fit p.names at i.done i.all.types vs (slice_get p.signatures f) i.fit inside;
            }),
      )

  -- ---- results

  result_in : (at : ℕ) (v : Ty) (o : tree.Output) (u : Unit {0}) → c.body.routine.result ≡ Some o → FitsResult p.names at v result (Gives u) → (d : Datum) → Up p.names d v ≡ true → Up p.names d o.ty ≡ true
  result_in at v o u is h = (subst (λ (r : Option tree.Output). FitsResult p.names at v (result_type r) (Gives u)) is h).1

  -- ---- updates of parts

  update_suits : (at x : ℕ) (path : List (Step ℕ)) (e : Expr ℕ) (k : ℕ) (q : Spot) (s out : State) (v : Store) → k ≡ length s.flow → (reached : s.env.reached ≡ true) → slot_at s.declared x ≡ Some (type_at types x) → Update p at x path e s out → Begins out.flow c.flow
      → is_set q.set x ≡ true → PathReady c.allowed q path → CodeReady c.allowed q e → Hold s.env (is_set q.set) v → UpdateSuits W c.body c.members x (numbered_path path k) (numbered e (k + exprs_in_path path)) q v
  update_suits at x path e k q s out v is reached known i begins on ready last h =
      let t = type_at types x in
      let y = path_parts p s.env path (type_of s.env [] x) (record { types = type_of s.env [] x ∷ []; flow = s.flow }) i.along i.types in
      let number = k + exprs_in_path path in
      let value_begins : Begins i.v.flow c.flow = subst (λ (z : State). Begins z.flow c.flow) i.is begins in
      let path_begins : Begins i.along.flow c.flow = begins_more i.along.flow i.v.flow c.flow (flow_one p s.env e i.along.flow i.v i.typed).begins value_begins in
      let next : number ≡ length i.along.flow = ap (λ (n : ℕ). n + exprs_in_path path) is ∙ sym (steps_begin c g s.env reached q v h path (type_of s.env [] x) s.flow y.0 i.along.flow y.2).counted in
      let o = h.values x on in
      let inside = h.typed x o.0 on o.1 in (
        on,
        (
          o.0,
          o.1,
          path_suits c g s.env reached q v h path k (type_of s.env [] x) s.flow y.0 i.along.flow o.0 is y.2 path_begins ready inside o.2,
          value_suits c g e number s.env i.along.flow i.v (is_set q.set) v next reached i.typed value_begins last h,
          λ slots r l z u z2 eq eq2.
              let leads = every_of (run.path_of c.evaluation v (numbered_path path k) o.0 l) (Replaced c g s.env reached q v h at path (type_of s.env [] x ∷ y.0) o.0)
              (path_leads c g s.env reached q v h at path k (type_of s.env [] x) s.flow y.0 i.along.flow o.0 l y.2 ready inside o.2) slots z eq in
              let kd = each_value c g e number s.env i.along.flow i.v (is_set q.set) v reached i.typed last h r u z2 eq2 in
              let new = leads r i.v.ty i.ty (subst (λ (ts : List Ty). Updated p.names at path ts i.v.ty (Gives i.ty)) y.1 i.updated) kd.inside kd.bounded in
              free_at c g x t (updated o.0 slots r) refl new.1 (new_inside p.names at x i.ty t s.env (slot_at s.declared x) i.env known i.new (updated o.0 slots r) new.0),
        ),
      )

  -- ---- loops

  module _ (start : Environment) (kept : ℕ → Bool) (around : List (Expr Node)) (at : ℕ) (e : Expr ℕ) (invariants : List (Expr ℕ)) (body : Stmts ℕ) (k : ℕ) (q : Spot) (m : ℕ) (s out : State) (pt : Point m q) (scoped : AllScoped sc s.declared body)
      (stands : Stands types kept q s) (i : Loop p result at e invariants body s out) (is : k ≡ length s.flow) (begins : Begins out.flow c.flow) (ready : ReadyAlong c.allowed b around (WhileStmt at e invariants body) k q m) where
    abbrev marked : ℕ → Bool
    marked = is_set q.set

    abbrev block : Stmts Node
    block = inner b at e invariants body k q m

    abbrev clause : List (Expr Node)
    clause = clauses b at e invariants body k q m

    abbrev one : Flow
    one = turn b at e invariants body k q m

    abbrev at_head : Spot
    at_head = (head b at e invariants body k q m).spot

    abbrev on_true : Spot
    on_true = where_true (test b at e invariants body k q m) at_head

    abbrev count : ℕ
    count = (test b at e invariants body k q m).count

    abbrev begin : State
    begin = in_loop s i.start i.v i.flow

    abbrev third : ℕ
    third = k + exprs_in e + exprs_in_list invariants

    started : i.start.reached ≡ true
    started = (loop_head c g start kept around at e invariants body k q m s out pt scoped stands i).reached

    second_number : k + exprs_in e ≡ length i.v.flow
    second_number = ap (λ (n : ℕ). n + exprs_in e) is ∙ sym (flow_one p i.start e s.flow i.v i.test.typed).counted

    third_number : third ≡ length i.flow
    third_number = ap (λ (n : ℕ). n + exprs_in_list invariants) second_number ∙ sym (flow_clauses p i.start invariants i.v.flow i.flow i.clauses).counted

    turn_begins : Begins i.turn.flow c.flow
    turn_begins = subst (λ (z : State). Begins z.flow c.flow) i.is begins

    flow_begins : Begins i.flow c.flow
    flow_begins = begins_more i.flow i.turn.flow c.flow (all_grew p result body begin i.turn i.typed).flow.begins turn_begins

    test_begins : Begins i.v.flow c.flow
    test_begins = begins_more i.v.flow i.flow c.flow (flow_clauses p i.start invariants i.v.flow i.flow i.clauses).begins flow_begins

    fits_at : (t : Store) → Hold i.start marked t → AllFit c.evaluation c.body.program.setting c.members marked clause t
    fits_at t h = all_fit c g i.start invariants (k + exprs_in e) i.v.flow i.flow marked t started second_number i.clauses flow_begins ready.0 h

    test_kind : (t : Store) → Hold i.start marked t → Each W (numbered e k) t (Kind p.names i.start [] marked t i.v)
    test_kind t h = each_value c g e k i.start s.flow i.v marked t started i.test.typed ready.1 h

    -- the body from a store at the head, where the test is true
    body_after : (t : Store) (x : Exit) (l o : Meter) → Hold i.start marked t → IsTested W (numbered e k) t → run.exec_all c.evaluation fr block t l ≡ Done x o → After c g i.start marked one i.turn x
    body_after t x l o h sure eq =
        let kd = test_kind t h (Truth true) sure.0 sure.1 sure.2 in
        every_of (run.exec_all c.evaluation fr block t l) (After c g i.start marked one i.turn)
        (run_block c g i.start marked clause body third on_true count begin i.turn t l (body_point b at e invariants body k q m pt) scoped (loop_begun c g start kept around at e invariants body k q m s out pt scoped stands i) i.typed ready.2
        (loop_renews c g start kept around at e invariants body k q m s out pt scoped stands i) h (yes_holds c g start kept around at e invariants body k q m s out pt scoped stands i t h kd)) x o eq

    next_head : (t u : Store) → Hold i.start marked t → Leads W fr (numbered e k) block t u → Hold i.start marked u
    next_head t u h lead = by lead.1.2 where
      by : (run.exec_all c.evaluation fr block t lead.1.0 ≡ Done (Went u) lead.1.1) ⊎ ((from : ℕ) × (run.exec_all c.evaluation fr block t lead.1.0 ≡ Done (Continued from u) lead.1.1)) → Hold i.start marked u
      by (inl eq) = turned c g start kept around at e invariants body k q m s out pt scoped stands i t u lead.1.0 lead.1.1 h eq (body_after t (Went u) lead.1.0 lead.1.1 h lead.0 eq)
      by (inr eq) = body_after t (Continued eq.0 u) lead.1.0 lead.1.1 h lead.0 eq.1

    keep_fits : (o : Option Spot) (u : Store) → Ends c g marked o i.turn → Hold i.start marked u → KeepFits c.evaluation c.body c.members clause o u
    keep_fits None u ends h = tt
    keep_fits (Some r) u ends h = more_fit c.evaluation c.body.program.setting c.members marked (is_set r.set) clause u (λ x on. ends.keeps x on) (fits_at u h)

    -- the body, as it is asked at a turn
    abbrev BodySuits : Type 0
    BodySuits = (t : Store) → Hold i.start marked t → Hold (changed i.start i.v.yes) (is_set on_true.set) t → BlockSuits W fr c.body c.members calls clause block on_true count t

    abbrev Here : Store → Type 0
    Here t =
        AllFit c.evaluation c.body.program.setting c.members (is_set at_head.set) clause t
        × Suits W false (is_set at_head.set) (numbered e k) t × Each W (numbered e k) t IsTruth
        × Each W (numbered e k) t (λ d. d ≡ Truth true → BlockSuits W fr c.body c.members calls clause block on_true count t)
        × (IsTested W (numbered e k) t → (u : Store) (l o : Meter) → run.exec_all c.evaluation fr block t l ≡ Done (Went u) o → KeepFits c.evaluation c.body c.members clause one.ends u)

    here : BodySuits → (t : Store) → Hold i.start marked t → Here t
    here suit t h =
        let marks = sym (head_marks b at e invariants body k q m) in (
          subst (λ (l : List Bool). AllFit c.evaluation c.body.program.setting c.members (is_set l) clause t) marks (fits_at t h),
          subst (λ (l : List Bool). Suits W false (is_set l) (numbered e k) t) marks (value_suits c g e k i.start s.flow i.v marked t is started i.test.typed test_begins ready.1 h),
          (λ d l o eq. truth_in p.names d (i.test.within.1 d (test_kind t h d l o eq).inside)),
          (λ d l o eq yes. suit t h (yes_holds c g start kept around at e invariants body k q m s out pt scoped stands i t h (subst (Kind p.names i.start [] marked t i.v) yes (test_kind t h d l o eq)))),
          λ yes u l o eq.
              let next = turned c g start kept around at e invariants body k q m s out pt scoped stands i t u l o h eq (body_after t (Went u) l o h yes eq) in
              keep_fits one.ends u (loop_still c g start kept around at e invariants body k q m s out pt scoped stands i).ends next,
        )

    turns_suit : BodySuits → (j : ℕ) (t : Store) → Hold i.start marked t → AtTurns Here (Leads W fr (numbered e k) block) j t
    turns_suit suit zero t h = here suit t h
    turns_suit suit (suc j) t h = (here suit t h, λ u lead. turns_suit suit j u (next_head t u h lead))

    loop_suits : BodySuits → (v : Store) → Hold s.env marked v → StmtSuits W fr c.body c.members calls around (numbered_stmt (WhileStmt at e invariants body) k) q m v
    loop_suits suit v h =
        let first = loop_starts c g start kept around at e invariants body k q m s out pt scoped stands i v h in (
          fits_at v first,
          (λ x on. let o = h.values x on in (loop_lasts c g start kept around at e invariants body k q m s out pt scoped stands i x on, (o.0, o.1))),
          λ j. turns_suit suit j v first,
        )

  -- ---- what follows

  on_behind : (around : List (Expr Node)) (rest : Stmts Node) (n : ℕ) (s : State) (kept : ℕ → Bool) (ready : Spot → Type 0) (o : Option Spot) (t : Store) → Ends c g kept o s → EndsAt c g o s.env t → WhereGoes ready o → PointIf n o
      → ((q : Spot) → Point n q → Stands types kept q s → Hold s.env (is_set q.set) t → ready q → BlockSuits W fr c.body c.members calls around rest q n t) → Behind (λ q u. BlockSuits W fr c.body c.members calls around rest q n u) o t
  on_behind around rest n s kept ready None t ends there r pt go = tt
  on_behind around rest n s kept ready (Some q) t ends there r pt go = go q pt ends there r

  abbrev Fitting : Environment → (ℕ → Bool) → List (Expr Node) → Type 0
  Fitting start kept around = (t : Store) → Hold start kept t → AllFit c.evaluation c.body.program.setting c.members kept around t

  -- ---- statements

  mutual
    suit_stmt : (start : Environment) (kept : ℕ → Bool) (around : List (Expr Node)) → Fitting start kept around → (st : Stmt ℕ) (k : ℕ) (q : Spot) (m : ℕ) (s out : State) (v : Store) → k ≡ length s.flow → Point m q → Scoped sc s.declared st → Stands types kept q s
        → TypedStmt p result st s (Gives out) → Begins out.flow c.flow → ReadyAlong c.allowed b around st k q m → Ren c g start kept (λ y. assigns y (numbered_stmt st k)) → Hold start kept v → Hold s.env (is_set q.set) v
        → StmtSuits W fr c.body c.members calls around (numbered_stmt st k) q m v
    suit_stmt start kept around fits (DeclareStmt at t x None) k q m s out v is pt scoped st typed begins ready ren hc h = tt
    suit_stmt start kept around fits (DeclareStmt at t x (Some e)) k q m s out v is pt scoped st typed begins ready ren hc h =
        let i = declaration_parts p at t x s e out typed in
        let behind : Begins i.v.flow c.flow = subst (λ (z : State). Begins z.flow c.flow) i.is begins in (
          value_suits c g e k s.env s.flow i.v (is_set q.set) v is st.reached i.typed behind ready h,
          scoped.2,
          λ d l o eq. let kd = each_value c g e k s.env s.flow i.v (is_set q.set) v st.reached i.typed ready h d l o eq in free_at c g x t d scoped.2 kd.bounded (i.comes.inside d kd.inside),
        )
    suit_stmt start kept around fits (AssignStmt at x [] e) k q m s out v is pt scoped st typed begins ready ren hc h =
        let i = assignment_parts p at x e s out typed in
        let t = type_at types x in
        let comes = into_parts p.names at x i.v.ty t s.env (slot_at s.declared x) i.env scoped.1 i.into in
        let number = k + exprs_in_path {N = ℕ} [] in
        let same : number ≡ length s.flow = omega (arith, is) in
        let behind : Begins i.v.flow c.flow = subst (λ (z : State). Begins z.flow c.flow) i.is begins in (
          value_suits c g e number s.env s.flow i.v (is_set q.set) v same st.reached i.typed behind ready h,
          λ d l o eq. let kd = each_value c g e number s.env s.flow i.v (is_set q.set) v st.reached i.typed ready h d l o eq in free_at c g x t d refl kd.bounded (comes.inside d kd.inside),
        )
    suit_stmt start kept around fits (AssignStmt at x (IndexStep from index ∷ steps) e) k q m s out v is pt scoped st typed begins ready ren hc h =
        update_suits at x (IndexStep from index ∷ steps) e k q s out v is st.reached scoped.1 (update_parts p at x (IndexStep from index ∷ steps) e s out typed) begins ready.0 ready.1 ready.2 h
    suit_stmt start kept around fits (AssignStmt at x (FieldStep from name ∷ steps) e) k q m s out v is pt scoped st typed begins ready ren hc h =
        update_suits at x (FieldStep from name ∷ steps) e k q s out v is st.reached scoped.1 (update_parts p at x (FieldStep from name ∷ steps) e s out typed) begins ready.0 ready.1 ready.2 h
    suit_stmt start kept around fits (CallStmt at f es) k q m s out v is pt scoped st typed begins ready ren hc h = call_suits at f es k s out (is_set q.set) v is st.reached (call_parts p at f es s out typed) begins ready.0 ready.1 h
    suit_stmt start kept around fits (ReturnStmt at None) k q m s out v is pt scoped st typed begins ready ren hc h = none_of c.body.routine.result scoped
    suit_stmt start kept around fits (ReturnStmt at (Some e)) k q m s out v is pt scoped st typed begins ready ren hc h =
        let i = return_parts p at result e s out typed in
        let o = some_of c.body.routine.result scoped in
        let behind : Begins i.v.flow c.flow = subst (λ (z : State). Begins z.flow c.flow) i.is begins in (
          value_suits c g e k s.env s.flow i.v (is_set q.set) v is st.reached i.typed behind ready h,
          (o.0, o.1, λ d l z eq. let kd = each_value c g e k s.env s.flow i.v (is_set q.set) v st.reached i.typed ready h d l z eq in (kd.bounded, g.result_free o.0 d o.1 kd.bounded (result_in at i.v.ty o.0 i.done o.1 i.fits d kd.inside))),
        )
    suit_stmt start kept around fits (AssertStmt at e) k q m s out v is pt scoped st typed begins ready ren hc h =
        let i = assertion_parts p at e s out typed in
        let behind : Begins i.v.flow c.flow = subst (λ (z : State). Begins z.flow c.flow) i.is begins in
        (all_fit c g s.env (e ∷ []) k s.flow i.v.flow (is_set q.set) v st.reached is (as_clause p s.env s.flow e i.v i.test) behind (ready, tt) h).0
    suit_stmt start kept around fits (BreakStmt at) k q m s out v is pt scoped st typed begins ready ren hc h = tt
    suit_stmt start kept around fits (ContinueStmt at) k q m s out v is pt scoped st typed begins ready ren hc h = more_fit c.evaluation c.body.program.setting c.members kept (is_set q.set) around v (λ x on. st.keeps x on) (fits v hc)
    suit_stmt start kept around fits (SkipStmt at) k q m s out v is pt scoped st typed begins ready ren hc h = tt
    suit_stmt start kept around fits (FailStmt at) k q m s out v is pt scoped st typed begins ready ren hc h = tt
    suit_stmt start kept around fits (IfStmt at e first second) k q m s out v is pt scoped st typed begins ready ren hc h =
        let i = if_parts p result at e first second s out typed in
        let k1 = k + exprs_in e in
        let k2 = k + exprs_in e + exprs_in_block first in
        let b1 = numbered_block first k1 in
        let b2 = numbered_block second k2 in
        let x = expr b (numbered e k) q.vars q.hyps m in
        let here = point_more m x.count q (expr_up b (numbered e k) q.vars q.hyps m) pt in
        let one = exec_all b around b1 (where_true x q) x.count in
        let pt1 = with_point x.count q (assume x.hyps (formula x.term)) here in
        let f1 = block_points b around b1 (where_true x q) x.count pt1 in
        let pt2 = with_point one.count q (assume x.hyps (denied (formula x.term))) (point_more x.count one.count q f1.grows here) in
        let g1 = all_grew p result first (on_yes s i.v) i.one i.on_first in
        let g2 = all_grew p result second (on_no s i.v i.one) i.two i.on_second in
        let sc2 : AllScoped sc i.one.declared second = subst (λ (z : List (Option Ty)). AllScoped sc z second) (sym g1.declared) scoped.1 in
        let known : (y : ℕ) (t : Ty) → slot_at s.declared y ≡ Some t → slot_at i.one.declared y ≡ Some t = λ y t z. ap (λ (l : List (Option Ty)). slot_at l y) g1.declared ∙ all_stay_declared sc y t first s.declared scoped.0 z in
        let st1 = changed_stands p result b sc kept q (where_true x q) s (on_yes s i.v) i.v.yes refl refl (λ y u z. z) st in
        let st2 = changed_stands p result b sc kept q (where_false x q) s (on_no s i.v i.one) i.v.no refl refl known st in
        let ren1 = ren_first c g start kept (λ y. assigns_in y b1) (λ y. assigns_in y b2) ren in
        let ren2 = ren_second c g start kept (λ y. assigns_in y b1) (λ y. assigns_in y b2) ren in
        let last : Begins i.two.flow c.flow = subst (λ (z : State). Begins z.flow c.flow) i.is begins in
        let middle : Begins i.one.flow c.flow = begins_more i.one.flow i.two.flow c.flow g2.flow.begins last in
        let front : Begins i.v.flow c.flow = begins_more i.v.flow i.one.flow c.flow g1.flow.begins middle in
        let n1 : k1 ≡ length i.v.flow = ap (λ (n : ℕ). n + exprs_in e) is ∙ sym (flow_one p s.env e s.flow i.v i.test.typed).counted in
        let n2 : k2 ≡ length i.one.flow = ap (λ (n : ℕ). n + exprs_in_block first) n1 ∙ sym g1.flow.counted in
        let kd = each_value c g e k s.env s.flow i.v (is_set q.set) v st.reached i.test.typed ready.0 h in (
          value_suits c g e k s.env s.flow i.v (is_set q.set) v is st.reached i.test.typed front ready.0 h,
          (λ d l o eq. truth_in p.names d (i.test.within.1 d (kd d l o eq).inside)),
          (λ d l o eq yes. suit_block start kept around fits first k1 (where_true x q) x.count (on_yes s i.v) i.one v n1 pt1 scoped.0 st1 i.on_first middle ready.1 ren1 hc
              (changed_holds p.names types c.members c.allowed.many s.env i.v.yes (is_set q.set) v st.reached ((kd d l o eq).if_true yes) h)),
          λ d l o eq off. suit_block start kept around fits second k2 (where_false x q) one.count (on_no s i.v i.one) i.two v n2 pt2 sc2 st2 i.on_second last ready.2 ren2 hc
              (changed_holds p.names types c.members c.allowed.many s.env i.v.no (is_set q.set) v st.reached ((kd d l o eq).if_false off) h),
        )
    suit_stmt start kept around fits (WhileStmt at e invariants body) k q m s out v is pt scoped st typed begins ready ren hc h =
        let i = loop_parts p result at e invariants body s out typed in
        loop_suits start kept around at e invariants body k q m s out pt scoped st i is begins ready
        (λ t ht hy. suit_block i.start (is_set q.set) (clauses b at e invariants body k q m) (λ u hu. fits_at start kept around at e invariants body k q m s out pt scoped st i is begins ready u hu) body (k + exprs_in e + exprs_in_list invariants)
        (where_true (test b at e invariants body k q m) (head b at e invariants body k q m).spot) (test b at e invariants body k q m).count (in_loop s i.start i.v i.flow) i.turn t (third_number start kept around at e invariants body k q m s out pt scoped st i is begins ready)
        (body_point b at e invariants body k q m pt) scoped (loop_begun c g start kept around at e invariants body k q m s out pt scoped st i) i.typed (turn_begins start kept around at e invariants body k q m s out pt scoped st i is begins ready) ready.2
        (loop_renews c g start kept around at e invariants body k q m s out pt scoped st i) ht hy) v h

    suit_block : (start : Environment) (kept : ℕ → Bool) (around : List (Expr Node)) → Fitting start kept around → (block : Stmts ℕ) (k : ℕ) (q : Spot) (m : ℕ) (s out : State) (v : Store) → k ≡ length s.flow → Point m q → AllScoped sc s.declared block → Stands types kept q s
        → TypedBlock p result block s (Gives out) → Begins out.flow c.flow → AllReadyAlong c.allowed b around block k q m → Ren c g start kept (λ y. assigns_in y (numbered_block block k)) → Hold start kept v → Hold s.env (is_set q.set) v
        → BlockSuits W fr c.body c.members calls around (numbered_block block k) q m v
    suit_block start kept around fits NoStmts k q m s out v is pt scoped st typed begins ready ren hc h = tt
    suit_block start kept around fits (MoreStmts first rest) k q m s out v is pt scoped st typed begins ready ren hc h =
        let t = then_gives _ _ out typed in
        let front = numbered_stmt first k in
        let n = k + exprs_in_stmt first in
        let tail = numbered_block rest n in
        let one = exec b around front q m in
        let grown = grew p result first s t.0 t.1 in
        let more = all_grew p result rest t.0 out t.2 in
        let still = static p result b sc around first k kept q m s t.0 pt scoped.0 st t.1 in
        let points = statement_points b around front q m pt in
        let ren1 = ren_first c g start kept (λ y. assigns y front) (λ y. assigns_in y tail) ren in
        let ren2 = ren_second c g start kept (λ y. assigns y front) (λ y. assigns_in y tail) ren in
        let sc2 : AllScoped sc t.0.declared rest = subst (λ (z : List (Option Ty)). AllScoped sc z rest) (sym grown.declared) scoped.1 in
        let lasts : (x : ℕ) → kept x ≡ true → unsets x front ≡ false = λ x on. not_unset sc x (type_at types x) first k s.declared scoped.0 (st.declared x (st.keeps x on)) in
        let behind : Begins t.0.flow c.flow = begins_more t.0.flow out.flow c.flow more.flow.begins begins in
        let next : n ≡ length t.0.flow = ap (λ (y : ℕ). y + exprs_in_stmt first) is ∙ sym grown.flow.counted in (
          suit_stmt start kept around fits first k q m s t.0 v is pt scoped.0 st t.1 behind ready.0 ren1 hc h,
          λ u l o eq.
              let here = every_of (run.exec c.evaluation fr front v l) (After c g start kept one t.0) (run_stmt c g start kept around first k q m s t.0 v l pt scoped.0 st t.1 ready.0 ren1 hc h) (Went u) o eq in
              let hcu = carried c g start kept (λ y. assigns y front) (λ y. unsets y front) v u one.ends t.0 ren1 lasts hc (statements_keep.statement c.evaluation fr front v (Went u) l o eq) still.ends here in
              on_behind around tail one.count t.0 kept (λ r. AllReadyAlong c.allowed b around rest n r one.count) one.ends u still.ends here ready.1 points.ends
              (λ r ptr str hu rr. suit_block start kept around fits rest n r one.count t.0 out u next ptr sc2 str t.2 begins rr ren2 hcu hu),
        )

pub typed_blocks_suit : TypedBlocksSuit
typed_blocks_suit c g block s out q m st typed begins scoped ready vals is stands holds =
    let pt : Point m q = record { are = are_data q.vars vals; depends = depend_from m q.vars is.depends; marked = is.marked } in
    let nothing : Holds c.program.names c.body.types c.members c.allowed.many nothing_known nothing_kept st = record { size = holds.size; values = λ x e. no_truth e; typed = λ x d e o. no_truth e; declared = holds.declared } in
    suit_block c g nothing_known nothing_kept [] (λ t h. tt) block (length s.flow) q m s out st refl pt scoped stands typed begins ready (λ x e a d bounded member. no_truth e) nothing holds
