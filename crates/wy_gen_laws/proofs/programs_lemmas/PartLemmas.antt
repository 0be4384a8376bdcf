-- The parts of statements in a formed program are as the law on statements asks.
use Rattle.std.proofs.Common.{◌≡◌, ◌≤◌, ℕ, suc, ◌+◌, List, [], ◌∷◌, ◌++◌, length, true, Option, Some, None, refl, ◌∙◌, ap, arith, length-append}
use Rattle.wy_value.specs.Datum.{Datum}
use Rattle.wy_core.specs.Types.{Ty}
use Rattle.wy_core.specs.CoreTree.{Expr, Exprs, NoExprs, MoreExprs, Step, IndexStep, FieldStep, Stmt, DeclareStmt, AssignStmt, CallStmt, ReturnStmt, AssertStmt, BreakStmt, ContinueStmt, SkipStmt, FailStmt, IfStmt, WhileStmt, Stmts, NoStmts, MoreStmts}
use Rattle.wy_core.specs.formed.Offers.{Offers}
use Rattle.wy_core.specs.formed.Bound.{Scope, Around, looped, behind, BoundTy, BoundExpr, BoundExprs, BoundClauses, BoundOption, BoundPath, BoundStmt, BoundStmts}
use Rattle.wy_core.specs.formed.Calls.{CallsExpr, CallsExprs, CallsClauses, CallsOption, CallsPath, CallsStmt, CallsStmts, Nothing}
use Rattle.wy_core.specs.formed.Literals.{IntsExpr, IntsExprs, IntsOption, IntsPath, IntsStmt, IntsStmts}
use Rattle.wy_core.specs.formed.Sizes.{IsSmall, size, sizes}
use Rattle.wy_core.specs.formed.Wholes.{EachArgument, EachClause, EachOption, EachIndex, EachWhole, EachWholeIn}
use Rattle.wy_code_spec.specs.wy_live.Sets.{Variables}
use Rattle.wy_code_spec.specs.wy_live.Walks.{before_all}
use Rattle.wy_code.specs.declared.routines.Routine.{Routine}
use Rattle.wy_code.specs.declared.routines.Code.{Code}
use Rattle.wy_code_spec.specs.declared.tables.context.Context.{Context}
use Rattle.wy_code_spec.specs.compiled.Expressions.{code, codes, count_of}
use Rattle.wy_code_spec.specs.numbered.Numbered.{NumberedExpr, NumberedExprs, NumberedOption, NumberedPath, NumberedStmt, NumberedStmts}
use Rattle.wy_vc_spec.specs.wy_sem.kept.Kept.{IsProper}
use Rattle.wy_vc_spec.specs.wy_sem.Meter.{Done, ◌>>=◌}
use Rattle.wy_vc_spec.specs.wy_sem.Operations.{longest}
use Rattle.wy_vc_spec.specs.wy_sem.Expressions.{Store, Setting, eval, eval_all}
use Rattle.wy_vc_spec.specs.wy_sem.Statements as sem
use Rattle.wy_gen_laws.specs.Follows.{at_place, Comes}
use Rattle.wy_gen_laws.specs.Registers.{Got}
use Rattle.wy_gen_laws.proofs.PlaceLemmas.{stand_front, stand_back}
use Rattle.wy_gen_laws.proofs.FollowLemmas.{follows_then, follows_at, follows_end}
use Rattle.wy_gen_laws.specs.expressions.Standing.{with_table}
use Rattle.wy_gen_laws.specs.expressions.Evaluated.{IsEvaluated, AreEvaluated, Gained, GotAll}
use Rattle.wy_gen_laws.proofs.expressions_lemmas.KnownLemmas.{known_all}
use Rattle.wy_gen_laws.specs.statements.Still.{IsStill, IsStillTy}
use Rattle.wy_gen_laws.specs.statements.Parts.{EachStep, EachPart, EachPartIn, option_cost, path_cost, cost, cost_all}
use Rattle.wy_gen_laws.specs.statements.Led.{IsValued, asked}

pub few_enough : (n : ℕ) → n ≤ 4096 → n ≤ longest
unfolding longest
few_enough n h = omega (arith, h)

-- ---- arguments, each of which follows

module _ (c : Context) (routines : List Routine) (f : ℕ) (r : Routine) (w : Setting ℕ) (n wide most : ℕ) where
  abbrev mach : Code
  mach = with_table c routines

  one_more : (vs : Scope) (d count : ℕ) (s t : Variables) (store first middle regs : Store) (v : Datum) (us : List Datum) → n ≤ d → IsProper v → Got vs n d s store first v middle → GotAll vs n (suc d) count t store middle us regs → GotAll vs n d (suc count) t store first (v ∷ us) regs
  one_more vs d count s t store first middle regs v us behind proper one more = record {
    values = (more.kept d behind (omega arith) ∙ one.value, more.values);
    many = ap suc more.many;
    proper = (proper, more.proper);
    live = more.live;
    kept = λ x a b. more.kept x a (omega (arith, b)) ∙ one.kept x a b;
    size = more.size ∙ one.size;
  }

  pub all_evaluated : (es : Exprs ℕ) → EachArgument (IsEvaluated c routines f r w n wide most) es → AreEvaluated c routines f r w n wide most es
  all_evaluated NoExprs q o k vs s d at store regs callers m b low known behind stands live proper whole few =
      follows_at mach wide 0 0 m (at_place f at regs callers m.output) (Done [] m) f at (at + 0) callers (GotAll vs n d 0 s store regs) (omega arith)
      (follows_end mach wide 0 0 m (at_place f at regs callers m.output) [] (Comes f at callers (GotAll vs n d 0 s store regs))
      (record { regs = regs; is = refl; ok = record { values = tt; many = refl; proper = tt; live = live; kept = λ t x y. refl; size = refl } }))
  all_evaluated (MoreExprs e es) q o k vs s d at store regs callers m b low known behind stands live proper whole few =
      let xs = code c e (before_all es s) d in
      let ys = codes c es s (suc d) in
      let l1 : length (xs ++ ys) ≡ length xs + length ys = length-append xs ys in
      let R = GotAll vs n d (suc (count_of es)) s store regs in
      let Q = Comes f (at + length xs + length ys) callers R in
      follows_at mach wide (size e + sizes es) 0 m (at_place f at regs callers m.output) (eval_all w true (MoreExprs e es) store m) f (at + length xs + length ys) (at + length (xs ++ ys)) callers R (omega (arith, l1))
      (follows_then mach wide (size e) 0 (sizes es) 0 (size e + sizes es) 0 m (at_place f at regs callers m.output) (eval w true e store m) (λ v j. eval_all w true es store j >>= (λ us. Done (v ∷ us))) f (at + length xs) callers (Gained vs n d (before_all es s) store regs) Q (omega arith) (omega arith)
      (q.0 o k vs (before_all es s) d at store regs callers m b.0 low (known_all o k n low vs es s b.1 known) behind (stand_front r.body at xs ys stands) live proper whole few)
      (λ v j middle le one. follows_then mach wide (sizes es) 0 0 0 (sizes es) 0 j (at_place f (at + length xs) middle callers j.output) (eval_all w true es store j) (λ us. Done (v ∷ us)) f (at + length xs + length ys) callers (GotAll vs n (suc d) (count_of es) s store middle) Q (omega arith) (omega arith)
      (all_evaluated es q.1 o k vs s (suc d) (at + length xs) store middle callers j b.1 low known (omega (arith, behind)) (stand_back r.body at xs ys stands) one.1.live proper (one.1.size ∙ whole) (omega (arith, le, few)))
      (λ us i last le2 more. follows_end mach wide 0 0 i (at_place f (at + length xs + length ys) last callers i.output) (v ∷ us) Q
      (record { regs = last; is = refl; ok = one_more vs d (count_of es) (before_all es s) s store regs middle last v us behind one.0 one.1 more }))))

-- ---- statements

module _ (c : Context) (routines : List Routine) (f : ℕ) (r : Routine) (w : Setting ℕ) (fr : sem.Frame ℕ) (n wide most : ℕ) (o : Offers) (P : ℕ → Type 0)
    (value : (vs : Scope) (e : Expr ℕ) → NumberedExpr c.table e → IntsExpr e → BoundExpr o n vs e → IsSmall e → CallsExpr P e → size e ≤ wide → IsValued c routines f r w n wide most e)
    (clause : (vs : Scope) (e : Expr ℕ) → BoundExpr o n vs e → CallsExpr Nothing e → IsStill w e) (ty : (t : Ty) → BoundTy o.types t → IsStillTy fr.member t) where
  arguments_fit : (vs : Scope) (es : Exprs ℕ) → NumberedExprs c.table es → IntsExprs es → BoundExprs o n vs es → EachArgument IsSmall es → CallsExprs P es → sizes es ≤ wide → EachArgument (IsEvaluated c routines f r w n wide most) es
  arguments_fit vs NoExprs u i b z q room = tt
  arguments_fit vs (MoreExprs e es) u i b z q room = ((value vs e u.0 i.0 b.0 z.0 q.0 (omega (arith, room))).0, arguments_fit vs es u.1 i.1 b.1 z.1 q.1 (omega (arith, room)))

  option_fits : (vs : Scope) (value2 : Option (Expr ℕ)) → NumberedOption c.table value2 → IntsOption value2 → BoundOption o n vs value2 → EachOption IsSmall value2 → CallsOption P value2 → option_cost value2 ≤ wide → EachOption (IsValued c routines f r w n wide most) value2
  option_fits vs None u i b z q room = tt
  option_fits vs (Some e) u i b z q room = value vs e u i b z q room

  path_fits : (vs : Scope) (path : List (Step ℕ)) → NumberedPath c.table path → IntsPath path → BoundPath o n vs path → EachIndex IsSmall path → CallsPath P path → path_cost path ≤ wide → EachStep (asked c routines f r w fr n wide most) path
  path_fits vs [] u i b z q room = tt
  path_fits vs (IndexStep at e ∷ path) u i b z q room = (value vs e u.0 i.0 b.0 z.0 q.0 (omega (arith, room)), path_fits vs path u.1 i.1 b.1 z.1 q.1 (omega (arith, room)))
  path_fits vs (FieldStep at name ∷ path) u i b z q room = (u.0, path_fits vs path u.1 i b z q room)

  clauses_fit : (vs : Scope) (es : List (Expr ℕ)) → BoundClauses o n vs es → CallsClauses Nothing es → EachClause (IsStill w) es
  clauses_fit vs [] b q = tt
  clauses_fit vs (e ∷ es) b q = (clause vs e b.0 q.0, clauses_fit vs es b.1 q.1)

  mutual
    part_fits : (st : Stmt ℕ) (a : Around) (vs : Scope) → NumberedStmt c.table st → IntsStmt st → BoundStmt o n a vs st → EachWhole IsSmall st → CallsStmt P st → cost st ≤ wide → EachPart (asked c routines f r w fr n wide most) st
    part_fits (DeclareStmt at t x value2) a vs u i b z q room = (ty t b.0, option_fits vs value2 u i b.1 z q (omega (arith, room)))
    part_fits (AssignStmt at x path e) a vs u i b z q room = (path_fits vs path u.0 i.0 b.1 z.0 q.0 (omega (arith, room)), value vs e u.1 i.1 b.2 z.1 q.1 (omega (arith, room)))
    part_fits (CallStmt at g es) a vs u i b z q room = all_evaluated c routines f r w n wide most es (arguments_fit vs es u i b.1 z q.1 (omega (arith, room)))
    part_fits (ReturnStmt at value2) a vs u i b z q room = option_fits vs value2 u i b.1 z q (omega (arith, room))
    part_fits (AssertStmt at e) a vs u i b z q room = clause vs e b q
    part_fits (BreakStmt at) a vs u i b z q room = tt
    part_fits (ContinueStmt at) a vs u i b z q room = tt
    part_fits (SkipStmt at) a vs u i b z q room = tt
    part_fits (FailStmt at) a vs u i b z q room = tt
    part_fits (IfStmt at e first second) a vs u i b z q room =
        (value vs e u.0 i.0 b.0 z.0 q.0 (omega (arith, room)), parts_fit first a vs u.1.0 i.1 b.1 z.1 q.1 (omega (arith, room)), parts_fit second a vs u.1.1 i.2 b.2 z.2 q.2 (omega (arith, room)))
    part_fits (WhileStmt at e invariants body) a vs u i b z q room =
        (value vs e u.0 i.0 b.0 z.0 q.0 (omega (arith, room)), clauses_fit vs invariants b.1 q.1, parts_fit body (looped a) vs u.1 i.2 b.2 z.2 q.2 (omega (arith, room)))

    pub parts_fit : (ss : Stmts ℕ) (a : Around) (vs : Scope) → NumberedStmts c.table ss → IntsStmts ss → BoundStmts o n a vs ss → EachWholeIn IsSmall ss → CallsStmts P ss → cost_all ss ≤ wide → EachPartIn (asked c routines f r w fr n wide most) ss
    parts_fit NoStmts a vs u i b z q room = tt
    parts_fit (MoreStmts st rest) a vs u i b z q room = (part_fits st a vs u.0 i.0 b.0 z.0 q.0 (omega (arith, room)), parts_fit rest a (behind vs st) u.1 i.1 b.1 z.1 q.1 (omega (arith, room)))
