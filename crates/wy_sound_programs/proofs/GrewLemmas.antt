-- How the state of typing goes on: the types of expressions and the `break`s so far are kept, declarations are those of the statements, and where no path gets to a statement, none gets behind it.
use Rattle.std.proofs.Common.{◌≡◌, ◌⊎◌, inl, inr, ℕ, ◌+◌, List, [], ◌∷◌, ◌++◌, Bool, true, false, cond, Option, Some, None, refl, sym, ap, ◌∙◌, subst, arith}
use Rattle.wy_core.specs.Types.{Ty, InterTy}
use Rattle.wy_core.specs.CoreTree.{Expr, Step, IndexStep, FieldStep, Stmt, DeclareStmt, AssignStmt, CallStmt, ReturnStmt, AssertStmt, BreakStmt, ContinueStmt, SkipStmt, FailStmt, IfStmt, WhileStmt, Stmts, NoStmts, MoreStmts}
use Rattle.wy_types.specs.Names.{Declared}
use Rattle.wy_sound_statements.specs.wy_flow_spec.environment.Slots.{slot_at, put_slot}
use Rattle.wy_sound_statements.specs.wy_flow_spec.environment.Variables.{Environment, changed, type_of}
use Rattle.wy_sound_statements.specs.wy_flow_spec.typing.Outcomes.{Gives, Give}
use Rattle.wy_sound_statements.specs.wy_flow_spec.typing.Contexts.{Program, Found, FoundAll}
use Rattle.wy_sound_statements.specs.wy_flow_spec.typing.Expressions.{TypedExpr, none_yet}
use Rattle.wy_sound_statements.specs.wy_flow_spec.typing.States.{State, left, broken, declare, with_flow, with_env, GiveNormal}
use Rattle.wy_sound_statements.specs.wy_flow_spec.typing.Assigned.{assigned_in}
use Rattle.wy_sound_statements.specs.wy_flow_spec.typing.Loops.{RenewedAll, Head, ClausesTyped}
use Rattle.wy_sound_statements.specs.wy_flow_spec.typing.Paths.{StepType, PathTypes, Reached, step_more}
use Rattle.wy_sound_statements.specs.wy_flow_spec.typing.Statements.{IntoDeclared, NewDeclared, TypedStmt, TypedBlock}
use Rattle.wy_vc_spec.specs.Sizes.{exprs_in, exprs_in_list, exprs_in_path, exprs_in_step, exprs_in_stmt, exprs_in_block}
use Rattle.wy_sound_statements.specs.wy_sound_walks.joins.Joins.{IsOne}
use Rattle.wy_sound_statements.proofs.wy_sound_kinds_proofs.TypeLemmas.{then_gives, given_is}
use Rattle.wy_sound_statements.proofs.wy_sound_kinds_proofs.suits_lemmas.FlowLemmas.{begins_self, begins_more, FlowAll, flow_length, flow_begins, flow_of, flows_of}
use Rattle.wy_sound_statements.proofs.PlaceLemmas.{one_left}
use Rattle.wy_sound_programs.specs.Scopes.{declares, declares_in}
use Rattle.wy_sound_programs.proofs.SlotLemmas.{changed_stays}
use Rattle.wy_sound_programs.proofs.JoinLemmas.{both_dead, exit_dead}
use Rattle.wy_sound_programs.proofs.PartLemmas.{test_parts, normal_dead, comes_parts, declaration_parts, unset_parts, assignment_parts, update_parts, call_parts, return_parts, assertion_parts, on_yes, on_no, if_parts, in_loop, loop_parts}

-- ---- types of expressions

pub flow_none : (flow : List Ty) → FlowAll 0 flow flow
flow_none flow = record { counted = omega arith; begins = begins_self flow }

pub flow_one : (p : Program) (env : Environment) (e : Expr ℕ) (flow : List Ty) (v : Found) → TypedExpr p env e [] flow (Gives v) → FlowAll (exprs_in e) flow v.flow
flow_one p env e flow v h = let f = flow_of p env e [] flow v h in record { counted = flow_length e flow v f; begins = flow_begins e flow v f }

pub flow_more : (n m : ℕ) (a b c : List Ty) → FlowAll n a b → FlowAll m b c → FlowAll (n + m) a c
flow_more n m a b c h g = let x = h.counted in let y = g.counted in record { counted = omega (arith, x, y); begins = begins_more a b c h.begins g.begins }

flow_as : (n m : ℕ) (a b : List Ty) → n ≡ m → FlowAll n a b → FlowAll m a b
flow_as n m a b e h = subst (λ (i : ℕ). FlowAll i a b) e h

pub flow_clauses : (p : Program) (env : Environment) (es : List (Expr ℕ)) (flow out : List Ty) → ClausesTyped p env es flow (Gives out) → FlowAll (exprs_in_list es) flow out
flow_clauses p env [] flow out h = subst (FlowAll 0 flow) (sym (given_is out flow h)) (flow_none flow)
flow_clauses p env (e ∷ es) flow out h =
    let t = then_gives _ _ out h in
    let u = then_gives _ _ t.0 t.1 in
    let v = test_parts p _ env flow e u.0 u.1 in
    let first = subst (FlowAll (exprs_in e) flow) (sym (given_is t.0 u.0.flow u.2)) (flow_one p env e flow u.0 v.typed) in
    flow_more (exprs_in e) (exprs_in_list es) flow t.0 out first (flow_clauses p env es t.0 out t.2)

pub flow_step : (p : Program) (env : Environment) (flow : List Ty) (t : Ty) (step : Step ℕ) (out : Reached) → StepType p env flow t step (Gives out) → FlowAll (exprs_in_step step) flow out.flow
flow_step p env flow t (IndexStep at e) out h =
    let a = then_gives _ _ out h in
    let c = then_gives _ _ out a.2 in
    subst (λ (r : Reached). FlowAll (exprs_in e) flow r.flow) (sym (given_is out (record { ty = c.0; flow = a.0.flow }) c.2)) (flow_one p env e flow a.0 a.1)
flow_step p env flow t (FieldStep at f) out h =
    let a = then_gives _ _ out h in subst (λ (r : Reached). FlowAll 0 flow r.flow) (sym (given_is out (record { ty = a.0; flow = flow }) a.2)) (flow_none flow)

flow_path : (p : Program) (env : Environment) (path : List (Step ℕ)) (t : Ty) (all out : FoundAll) → PathTypes p env path t all (Gives out) → FlowAll (exprs_in_path path) all.flow out.flow
flow_path p env [] t all out h = subst (λ (a : FoundAll). FlowAll 0 all.flow a.flow) (sym (given_is out all h)) (flow_none all.flow)
flow_path p env (step ∷ steps) t all out h =
    let a = then_gives _ _ out h in
    flow_more (exprs_in_step step) (exprs_in_path steps) all.flow a.0.flow out.flow (flow_step p env all.flow t step a.0 a.1) (flow_path p env steps a.0.ty (step_more a.0 all) out a.2)

-- ---- states

pub record Grew (n : ℕ) (slots : List (Option Ty)) (s out : State) : Type 0 where
  pub flow : FlowAll n s.flow out.flow
  pub declared : out.declared ≡ slots
  pub breaks : (e : Environment) → IsOne e s.breaks → IsOne e out.breaks
  pub dead : s.env.reached ≡ false → out.env.reached ≡ false
  pub broken : s.env.reached ≡ false → (e : Environment) → IsOne e out.breaks → e.reached ≡ true → IsOne e s.breaks

-- the state is another one with these types of expressions, and at this point
made : (n : ℕ) (s : State) (env : Environment) (flow : List Ty) → FlowAll n s.flow flow → (s.env.reached ≡ false → env.reached ≡ false) → Grew n s.declared s (with_env env (with_flow flow s))
made n s env flow f dead = record { flow = f; declared = refl; breaks = λ e o. o; dead = dead; broken = λ d e o r. o }

-- a declaration
made_declared : (n : ℕ) (s : State) (env : Environment) (flow : List Ty) (x : ℕ) (t : Ty) → FlowAll n s.flow flow → (s.env.reached ≡ false → env.reached ≡ false) → Grew n (put_slot s.declared x t) s (declare x t (with_env env (with_flow flow s)))
made_declared n s env flow x t f dead = record { flow = f; declared = refl; breaks = λ e o. o; dead = dead; broken = λ d e o r. o }

-- a point that stays where it is where no path gets there
stays : (a b : Environment) → b ≡ a → a.reached ≡ false → b.reached ≡ false
stays a b is e = ap (λ (v : Environment). v.reached) is ∙ e

dead_normal : (names : List Declared) (at x : ℕ) (t : Ty) (env out : Environment) → GiveNormal names at x t env (Gives out) → env.reached ≡ false → out.reached ≡ false
dead_normal names at x t env out h e = stays env out (normal_dead names at x t env out e h) e

dead_into : (names : List Declared) (at x : ℕ) (v : Ty) (env : Environment) (o : Option Ty) (out : Environment) → IntoDeclared names at x v env o (Gives out) → env.reached ≡ false → out.reached ≡ false
dead_into names at x v env None out h e = stays env out (given_is out env h) e
dead_into names at x v env (Some t) out h e = dead_normal names at x (InterTy v t) env out (comes_parts names at x v t env out h).normal e

dead_new : (names : List Declared) (at x : ℕ) (v : Ty) (env : Environment) (o : Option Ty) (out : Environment) → NewDeclared names at x v env o (Gives out) → env.reached ≡ false → out.reached ≡ false
dead_new names at x v env None out h e = stays env out (given_is out env h) e
dead_new names at x v env (Some t) out h e = dead_normal names at x v env out (then_gives _ _ out h).2 e

dead_changed : (s : State) (v : Found) → s.env.reached ≡ false → (changed s.env v.yes).reached ≡ false
dead_changed s v e = stays s.env (changed s.env v.yes) (changed_stays v.yes s.env e) e

dead_no : (env : Environment) (v : Found) → env.reached ≡ false → (changed env v.no).reached ≡ false
dead_no env v e = stays env (changed env v.no) (changed_stays v.no env e) e

pub head_dead : (names : List Declared) (at : ℕ) (s : State) (xs : List ℕ) (out : Environment) → Head names at s xs (Gives out) → s.env.reached ≡ false → out ≡ s.env
head_dead names at s xs out h e = given_is out s.env (subst (λ (b : Bool). cond b (RenewedAll names at s.declared xs s.env (Gives out)) (Give s.env (Gives out))) e h)

pub one_end : {X : Type 0} (xs : List X) (x c : X) → IsOne c (xs ++ x ∷ []) → IsOne c xs ⊎ (x ≡ c)
one_end [] x c (inl e) = inr e
one_end [] x c (inr o) = absurd o
one_end (y ∷ ys) x c (inl e) = inl (inl e)
one_end (y ∷ ys) x c (inr o) = by (one_end ys x c o) where
  by : IsOne c ys ⊎ (x ≡ c) → ((y ≡ c) ⊎ IsOne c ys) ⊎ (x ≡ c)
  by (inl h) = inl (inr h)
  by (inr h) = inr h

dead_break : (s : State) (e : Environment) → s.env.reached ≡ false → IsOne e (s.breaks ++ s.env ∷ []) → e.reached ≡ true → IsOne e s.breaks
dead_break s e d o r = by (one_end s.breaks s.env e o) where
  by : IsOne e s.breaks ⊎ (s.env ≡ e) → IsOne e s.breaks
  by (inl h) = h
  by (inr h) = absurd (cc (r, sym (ap (λ (v : Environment). v.reached) h) ∙ d))

module _ (p : Program) (result : Option Ty) where
  abbrev Of : Stmt ℕ → State → State → Type 0
  Of st s out = Grew (exprs_in_stmt st) (declares st s.declared) s out

  abbrev Set : ℕ → List (Option Ty) → State → State → State → Type 0
  Set n slots s a out = Grew n slots s a → Grew n slots s out

  -- the same state
  as_is : (n : ℕ) (slots : List (Option Ty)) (s a out : State) → out ≡ a → Set n slots s a out
  as_is n slots s a out is g = subst (Grew n slots s) (sym is) g

  mutual
    pub grew : (st : Stmt ℕ) (s out : State) → TypedStmt p result st s (Gives out) → Of st s out
    grew (DeclareStmt at t x None) s out h =
        let i = unset_parts p at t x s out h in
        as_is 0 (put_slot s.declared x t) s (declare x t (with_env i.env s)) out i.is (made_declared 0 s i.env s.flow x t (flow_none s.flow) (dead_normal p.names at x t s.env i.env i.normal))
    grew (DeclareStmt at t x (Some e)) s out h =
        let i = declaration_parts p at t x s e out h in
        as_is (exprs_in e) (put_slot s.declared x t) s (declare x t (with_env i.env (with_flow i.v.flow s))) out i.is
        (made_declared (exprs_in e) s i.env i.v.flow x t (flow_one p s.env e s.flow i.v i.typed) (dead_normal p.names at x (InterTy i.v.ty t) s.env i.env i.comes.normal))
    grew (AssignStmt at x [] e) s out h =
        let i = assignment_parts p at x e s out h in
        as_is (0 + exprs_in e) s.declared s (with_env i.env (with_flow i.v.flow s)) out i.is
        (made (0 + exprs_in e) s i.env i.v.flow (flow_as (exprs_in e) (0 + exprs_in e) s.flow i.v.flow (omega arith) (flow_one p s.env e s.flow i.v i.typed)) (dead_into p.names at x i.v.ty s.env (slot_at s.declared x) i.env i.into))
    grew (AssignStmt at x (step ∷ steps) e) s out h =
        let i = update_parts p at x (step ∷ steps) e s out h in
        let n = exprs_in_path (step ∷ steps) in
        let front = flow_path p s.env (step ∷ steps) (type_of s.env [] x) (record { types = type_of s.env [] x ∷ []; flow = s.flow }) i.along i.types in
        as_is (n + exprs_in e) s.declared s (with_env i.env (with_flow i.v.flow s)) out i.is
        (made (n + exprs_in e) s i.env i.v.flow (flow_more n (exprs_in e) s.flow i.along.flow i.v.flow front (flow_one p s.env e i.along.flow i.v i.typed)) (dead_new p.names at x i.ty s.env (slot_at s.declared x) i.env i.new))
    grew (CallStmt at f es) s out h =
        let i = call_parts p at f es s out h in
        as_is _ s.declared s (with_flow i.all.flow s) out i.is (made _ s s.env i.all.flow (flows_of p s.env es [] (none_yet s.flow) i.all i.typed) (λ e. e))
    grew (ReturnStmt at None) s out h = as_is 0 s.declared s (left s) out (given_is out (left s) h) (made 0 s (left s).env s.flow (flow_none s.flow) (λ e. refl))
    grew (ReturnStmt at (Some e)) s out h =
        let i = return_parts p at result e s out h in
        as_is (exprs_in e) s.declared s (left (with_flow i.v.flow s)) out i.is (made (exprs_in e) s (left s).env i.v.flow (flow_one p s.env e s.flow i.v i.typed) (λ d. refl))
    grew (AssertStmt at e) s out h =
        let i = assertion_parts p at e s out h in
        as_is (exprs_in e) s.declared s (with_env (changed s.env i.v.yes) (with_flow i.v.flow s)) out i.is
        (made (exprs_in e) s (changed s.env i.v.yes) i.v.flow (flow_one p s.env e s.flow i.v i.test.typed) (dead_changed s i.v))
    grew (BreakStmt at) s out h =
        as_is 0 s.declared s (broken s) out (given_is out (broken s) h)
        (record { flow = flow_none s.flow; declared = refl; breaks = λ e o. one_left e s.breaks (s.env ∷ []) o; dead = λ d. refl; broken = λ d e o r. dead_break s e d o r })
    grew (ContinueStmt at) s out h = as_is 0 s.declared s (left s) out (given_is out (left s) h) (made 0 s (left s).env s.flow (flow_none s.flow) (λ e. refl))
    grew (SkipStmt at) s out h = as_is 0 s.declared s s out (given_is out s h) (made 0 s s.env s.flow (flow_none s.flow) (λ e. e))
    grew (FailStmt at) s out h = as_is 0 s.declared s (left s) out (given_is out (left s) h) (made 0 s (left s).env s.flow (flow_none s.flow) (λ e. refl))
    grew (IfStmt at e first second) s out h =
        let i = if_parts p result at e first second s out h in
        let g1 = all_grew first (on_yes s i.v) i.one i.on_first in
        let g2 = all_grew second (on_no s i.v i.one) i.two i.on_second in
        let front = flow_one p s.env e s.flow i.v i.test.typed in
        as_is (exprs_in e + exprs_in_block first + exprs_in_block second) (declares_in second (declares_in first s.declared)) s (with_env i.env i.two) out i.is
        (record {
          flow = flow_more (exprs_in e + exprs_in_block first) (exprs_in_block second) s.flow i.one.flow i.two.flow (flow_more (exprs_in e) (exprs_in_block first) s.flow i.v.flow i.one.flow front g1.flow) g2.flow;
          declared = g2.declared ∙ ap (declares_in second) g1.declared;
          breaks = λ v o. g2.breaks v (g1.breaks v o);
          dead = λ d. both_dead p.names at i.one.env i.two.env i.env i.joined (g1.dead (dead_changed s i.v d)) (g2.dead (dead_no s.env i.v d));
          broken = λ d v o r. g1.broken (dead_changed s i.v d) v (g2.broken (dead_no s.env i.v d) v o r) r;
        })
    grew (WhileStmt at e invariants body) s out h =
        let i = loop_parts p result at e invariants body s out h in
        let inner = in_loop s i.start i.v i.flow in
        let g = all_grew body inner i.turn i.typed in
        let test = flow_one p i.start e s.flow i.v i.test.typed in
        let clauses = flow_clauses p i.start invariants i.v.flow i.flow i.clauses in
        let begun : s.env.reached ≡ false → i.start.reached ≡ false = λ d. stays s.env i.start (head_dead p.names at s (assigned_in body []) i.start i.head d) d in
        let inside : s.env.reached ≡ false → (changed i.start i.v.yes).reached ≡ false = λ d. stays i.start (changed i.start i.v.yes) (changed_stays i.v.yes i.start (begun d)) (begun d) in
        as_is (exprs_in e + exprs_in_list invariants + exprs_in_block body) (declares_in body s.declared) s (record i.turn { env = i.env; breaks = s.breaks }) out i.is
        (record {
          flow = flow_more (exprs_in e + exprs_in_list invariants) (exprs_in_block body) s.flow i.flow i.turn.flow (flow_more (exprs_in e) (exprs_in_list invariants) s.flow i.v.flow i.flow test clauses) g.flow;
          declared = g.declared;
          breaks = λ v o. o;
          dead = λ d. exit_dead p.names at i.turn.breaks (changed i.start i.v.no) i.env i.exit (dead_no i.start i.v (begun d)) (λ v o r. g.broken (inside d) v o r);
          broken = λ d v o r. o;
        })

    pub all_grew : (block : Stmts ℕ) (s out : State) → TypedBlock p result block s (Gives out) → Grew (exprs_in_block block) (declares_in block s.declared) s out
    all_grew NoStmts s out h = as_is 0 s.declared s s out (given_is out s h) (made 0 s s.env s.flow (flow_none s.flow) (λ e. e))
    all_grew (MoreStmts first rest) s out h =
        let t = then_gives _ _ out h in
        let g1 = grew first s t.0 t.1 in
        let g2 = all_grew rest t.0 out t.2 in
        record {
          flow = flow_more (exprs_in_stmt first) (exprs_in_block rest) s.flow t.0.flow out.flow g1.flow g2.flow;
          declared = g2.declared ∙ ap (declares_in rest) g1.declared;
          breaks = λ v o. g2.breaks v (g1.breaks v o);
          dead = λ d. g2.dead (g1.dead d);
          broken = λ d v o r. g1.broken d v (g2.broken (g1.dead d) v o r) r;
        }
