-- Along the walk of a block of which no path uses a variable without a value, each variable that is used is marked.
use Rattle.std.proofs.Common.{inl, ℕ, ◌+◌, List, [], ◌∷◌, Bool, true, false, not, Option, Some, None, sym, ap, subst}
use Rattle.wy_core.specs.CoreTree.{Expr, Step, IndexStep, FieldStep, Stmt, DeclareStmt, AssignStmt, CallStmt, ReturnStmt, AssertStmt, BreakStmt, ContinueStmt, SkipStmt, FailStmt, IfStmt, WhileStmt, Stmts, NoStmts, MoreStmts}
use Rattle.wy_term.specs.declared.cond.CondKind.TheVariants as kind
use Rattle.wy_sound_programs.specs.wy_vc_spec.Sizes.{exprs_in, exprs_in_list, exprs_in_stmt, exprs_in_block}
use Rattle.wy_sound_programs.specs.wy_vc_spec.Numbered.{Node, numbered, numbered_list, numbered_stmt, numbered_block}
use Rattle.wy_sound_programs.specs.wy_vc_spec.Clauses.{owe_clauses}
use Rattle.wy_sound_programs.specs.wy_vc_spec.Spots.{Spot, is_set, with_hyps}
use Rattle.wy_sound_programs.specs.wy_vc_spec.Statements.{Body, words, expr, renew, walk_clauses, where_true, where_false, exec, exec_all}
use Rattle.wy_assign.specs.Paths.{Uses, Sets, Falls, Leaves, Course, One, Then, ExprPath, ExprsPath, ClausesPath, StepPath, StepsPath, Either, StmtPath, StmtsPath}
use Rattle.wy_sound_programs.specs.wy_sound_kinds.Ready.{Ready}
use Rattle.wy_sound_programs.specs.Along.{Allowed, WhereGoes, PathReady, ReadyAlong, AllReadyAlong}
use Rattle.wy_sound_programs.specs.Made.{all_marked, WellMade, PathMade, Made, AllMade}
use Rattle.wy_sound_programs.proofs.MarkLemmas.{head_set}
use Rattle.wy_sound.proofs.marks_lemmas.ReadLemmas.{read_one, read_then, read_expr, read_clauses, read_step, read_steps}
use Rattle.wy_sound.proofs.marks_lemmas.UseLemmas.{NoUse, then_first, then_second, one_set}
use Rattle.wy_sound.proofs.marks_lemmas.MarkedLemmas.{Unmarked, seen_of, marked, exprs_marked, clauses_marked}
use Rattle.wy_sound.proofs.marks_lemmas.MarkLemmas.{unmarked}
use Rattle.wy_sound.proofs.marks_lemmas.MeetLemmas.{Wide, Reached, ReachedIf}
use Rattle.wy_sound.proofs.marks_lemmas.HeadLemmas.{head_wide}
use Rattle.wy_sound.proofs.marks_lemmas.ReachLemmas.{reaches}
use Rattle.wy_sound.proofs.marks_lemmas.CleanLemmas.{Clean, all_have_path, clean_ending, clean_value, clean_first, clean_rest, clean_test, clean_behind, clean_left, clean_right, clean_head, clean_turn}

-- a point that a path leads to, if the walk has one
where_goes : (C : Course) (set : List Bool) (Next : Spot → Type 0) (o : Option Spot) → ReachedIf C Falls set o → ((q : Spot) → Reached C Falls set q → Next q) → WhereGoes Next o
where_goes C set Next None h f = tt
where_goes C set Next (Some q) h f = f q h

no_mark : (set : List Bool) → Unmarked (unmarked set) (is_set set)
no_mark set x e = ap not e

module _ (a : Allowed) where
  code : (e : Expr ℕ) (quiet : Bool) (set : List Bool) → NoUse (ExprPath e) (unmarked set) → WellMade a quiet e → Ready a.rules quiet a.many (is_set set) e
  code e quiet set c m = marked a.rules a.many e quiet all_marked (is_set set) (unmarked set) (no_mark set) c m

  path_ready : (steps : List (Step ℕ)) (p : Spot) → NoUse (StepsPath steps) (unmarked p.set) → PathMade a steps → PathReady a p steps
  path_ready [] p c m = tt
  path_ready (IndexStep at e ∷ steps) p c m = (
    code e false p.set (then_first (ExprPath e) (StepsPath steps) (unmarked p.set) (read_steps steps) c) m.0,
    path_ready steps p (then_second (ExprPath e) (StepsPath steps) (unmarked p.set) (read_expr e) c) m.1,
  )
  path_ready (FieldStep at name ∷ steps) p c m = path_ready steps p (then_second (StepPath (FieldStep at name)) (StepsPath steps) (unmarked p.set) (read_step (FieldStep at name)) c) m

  module _ (b : Body Node) where
    mutual
      ready : (st : Stmt ℕ) (k : ℕ) (around : List (Expr Node)) (p : Spot) (m : ℕ) → Wide p → Clean (StmtPath st) p.set → Made a st → ReadyAlong a b around st k p m
      ready (DeclareStmt at t x None) k around p m h c made = tt
      ready (DeclareStmt at t x (Some e)) k around p m h c made = code e false p.set (clean_value (ExprPath e) (Sets x) p.set c) made
      ready (AssignStmt at x [] e) k around p m h c made = code e false p.set (clean_value (ExprPath e) (Sets x) p.set c) made.1
      ready (AssignStmt at x (step ∷ steps) e) k around p m h c made =
          let u = unmarked p.set in
          let U = One (Uses at x) in
          let S = StepsPath (step ∷ steps) in
          let E = ExprPath e in
          let none = clean_ending Falls (Then U (Then S E)) p.set c in
          let rest = then_second U (Then S E) u (read_one at x) none in (
            seen_of u (is_set p.set) x (no_mark p.set) (one_set u at x (then_first U (Then S E) u (read_then S E (read_steps (step ∷ steps)) (read_expr e)) none)),
            path_ready (step ∷ steps) p (then_first S E u (read_expr e) rest) made.0,
            code e false p.set (then_second S E u (read_steps (step ∷ steps)) rest) made.1,
          )
      ready (CallStmt at f es) k around p m h c made =
          (exprs_marked a.rules a.many es false all_marked (is_set p.set) (unmarked p.set) (no_mark p.set) (clean_ending Falls (ExprsPath es) p.set c) made.0, made.1)
      ready (ReturnStmt at None) k around p m h c made = tt
      ready (ReturnStmt at (Some e)) k around p m h c made = code e false p.set (clean_ending Leaves (ExprPath e) p.set c) made
      ready (AssertStmt at e) k around p m h c made = code e true p.set (clean_ending Falls (ExprPath e) p.set c) made
      ready (BreakStmt at) k around p m h c made = tt
      ready (ContinueStmt at) k around p m h c made = tt
      ready (SkipStmt at) k around p m h c made = tt
      ready (FailStmt at) k around p m h c made = tt
      ready (IfStmt at e first second) k around p m h c made =
          let v = expr b (numbered e k) p.vars p.hyps m in
          let one = exec_all b around (numbered_block first (k + exprs_in e)) (where_true v p) v.count in
          let E = Either (λ q i. StmtsPath first q i) (λ q i. StmtsPath second q i) in
          let some = all_have_path first in
          let behind = clean_behind (ExprPath e) E p.set (read_expr e) c in (
            code e false p.set (clean_test (ExprPath e) E p.set (some.0, some.1, inl some.2) c) made.0,
            all_ready first (k + exprs_in e) around (where_true v p) v.count h (clean_left (StmtsPath first) (StmtsPath second) p.set behind) made.1,
            all_ready second (k + exprs_in e + exprs_in_block first) around (where_false v p) one.count h (clean_right (StmtsPath first) (StmtsPath second) p.set behind) made.2,
          )
      ready (WhileStmt at e invariants body) k around p m h c made =
          let clauses = numbered_list invariants (k + exprs_in e) in
          let inner = numbered_block body (k + exprs_in e + exprs_in_list invariants) in
          let entry = owe_clauses b.program.setting kind.Entry at (words b) clauses p.vars p.hyps m in
          let head = renew b inner (with_hyps entry.hyps p) entry.count in
          let inside = walk_clauses b.program (words b) clauses head.spot.vars head.spot.hyps head.count in
          let v = expr b (numbered e k) head.spot.vars inside.hyps inside.count in
          let same = head_set b inner (with_hyps entry.hyps p) entry.count in
          let wide = head_wide b inner (with_hyps entry.hyps p) entry.count h in
          let I = ClausesPath invariants in
          let E = ExprPath e in
          let u = unmarked p.set in
          let none = clean_head (Then I E) (StmtsPath body) p.set c in
          let turn = clean_turn (Then I E) (StmtsPath body) p.set (read_then I E (read_clauses invariants) (read_expr e)) c in (
            clauses_marked a.rules a.many invariants all_marked (is_set p.set) u (no_mark p.set) (then_first I E u (read_expr e) none) made.0,
            code e false p.set (then_second I E u (read_clauses invariants) none) made.1,
            all_ready body (k + exprs_in e + exprs_in_list invariants) clauses (where_true v head.spot) v.count wide (subst (λ (s : List Bool). Clean (StmtsPath body) s) (sym same) turn) made.2,
          )

      pub all_ready : (block : Stmts ℕ) (k : ℕ) (around : List (Expr Node)) (p : Spot) (m : ℕ) → Wide p → Clean (StmtsPath block) p.set → AllMade a block → AllReadyAlong a b around block k p m
      all_ready NoStmts k around p m h c made = tt
      all_ready (MoreStmts first rest) k around p m h c made =
          let one = exec b around (numbered_stmt first k) p m in
          let r = reaches b first k around p m h in (
            ready first k around p m h (clean_first (StmtPath first) (StmtsPath rest) p.set (all_have_path rest) c) made.0,
            where_goes (StmtPath first) p.set (λ q. AllReadyAlong a b around rest (k + exprs_in_stmt first) q one.count) one.ends r.ends
                (λ q t. all_ready rest (k + exprs_in_stmt first) around q one.count t.wide (clean_rest (StmtPath first) (StmtsPath rest) p.set q.set t.leads c) made.1),
          )
