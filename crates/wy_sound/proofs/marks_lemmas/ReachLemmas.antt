-- Paths lead to each point of a walk, on which the variables that aren't marked there have no value.
use Rattle.std.proofs.Common.{ℕ, ◌+◌, List, [], ◌∷◌, ◌++◌, Bool, true, false, Option, Some, None, refl, subst}
use Rattle.wy_core.specs.CoreTree.{Expr, Step, Stmt, DeclareStmt, AssignStmt, CallStmt, ReturnStmt, AssertStmt, BreakStmt, ContinueStmt, SkipStmt, FailStmt, IfStmt, WhileStmt, Stmts, NoStmts, MoreStmts}
use Rattle.wy_term.specs.declared.cond.CondKind.TheVariants as kind
use Rattle.wy_sound_programs.specs.wy_vc_spec.Sizes.{exprs_in, exprs_in_list, exprs_in_stmt, exprs_in_block}
use Rattle.wy_sound_programs.specs.wy_vc_spec.Numbered.{Node, numbered, numbered_list, numbered_stmt, numbered_block}
use Rattle.wy_sound_programs.specs.wy_vc_spec.Clauses.{owe_clauses}
use Rattle.wy_sound_programs.specs.wy_vc_spec.Spots.{Spot, Flow, mark, as_list, with_hyps, go_on, followed}
use Rattle.wy_sound_programs.specs.wy_vc_spec.Statements.{Body, words, expr, renew, walk_clauses, keep, where_true, where_false, exec, exec_all}
use Rattle.wy_assign.specs.Paths.{Uses, Sets, Unsets, End, Falls, Breaks, Course, One, Then, ExprPath, ExprsPath, ClausesPath, StepsPath, Before, Either, InOrder, Loop, StmtPath, StmtsPath}
use Rattle.wy_sound_programs.proofs.MarkLemmas.{head_set}
use Rattle.wy_sound.proofs.marks_lemmas.ReadLemmas.{read_one, read_then, read_expr, read_exprs, read_clauses, read_steps}
use Rattle.wy_sound.proofs.marks_lemmas.WayLemmas.{way_reads, way_nothing, way_event, way_less, way_order, way_first, way_before, way_left, way_right, way_past, way_broken}
use Rattle.wy_sound.proofs.marks_lemmas.MarkLemmas.{unmarked, declared_unset, assigned_unset, assigned_less}
use Rattle.wy_sound.proofs.marks_lemmas.MeetLemmas.{Leads, Wide, Reached, ReachedIf, AllReached, reach_if, reach_all, reach_list, reach_both, meet_reached}
use Rattle.wy_sound.proofs.marks_lemmas.HeadLemmas.{mark_wide, head_wide}

-- paths lead behind the flow and to its `break`s
pub record Exits (C : Course) (set : List Bool) (f : Flow) : Type 0 where
  pub ends : ReachedIf C Falls set f.ends
  pub breaks : AllReached C Breaks set f.breaks

-- ---- one statement behind another

more_exits : (C D : Course) (set : List Bool) (f : Flow) (next : Spot → ℕ → Flow) (o : Option Spot) → ReachedIf C Falls set o → AllReached C Breaks set f.breaks
    → ((q : Spot) (n : ℕ) → Wide q → Exits D q.set (next q n)) → Exits (InOrder C D) set (followed f (go_on o f.count next))
more_exits C D set f next None h bs g = record {
  ends = tt;
  breaks = reach_both (InOrder C D) Breaks set f.breaks [] (reach_all C (InOrder C D) Breaks Breaks set set (λ q r. record { wide = r.wide; leads = λ x. way_first C D x (unmarked set x) (unmarked q.set x) (r.leads x) }) f.breaks bs) tt;
}
more_exits C D set f next (Some p) h bs g =
    let rest = g p f.count h.wide in
    let on : (end : End) (q : Spot) → Reached D end p.set q → Reached (InOrder C D) end set q = λ end q r. record { wide = r.wide; leads = λ x. way_order C D end x (unmarked set x) (unmarked p.set x) (unmarked q.set x) (h.leads x) (r.leads x) } in
    record {
      ends = reach_if D (InOrder C D) Falls Falls p.set set (on Falls) (next p f.count).ends rest.ends;
      breaks = reach_both (InOrder C D) Breaks set f.breaks (next p f.count).breaks
          (reach_all C (InOrder C D) Breaks Breaks set set (λ q r. record { wide = r.wide; leads = λ x. way_first C D x (unmarked set x) (unmarked q.set x) (r.leads x) }) f.breaks bs)
          (reach_all D (InOrder C D) Breaks Breaks p.set set (on Breaks) (next p f.count).breaks rest.breaks);
    }

-- ---- statements

module _ (b : Body Node) where
  assigns : (at x : ℕ) (path : List (Step ℕ)) (e : Expr ℕ) (set : List Bool) → Leads (StmtPath (AssignStmt at x path e)) Falls set (mark set x true)
  assigns at x [] e set y = way_event (ExprPath e) (Sets x) y (unmarked set y) (unmarked (mark set x true) y) (read_expr e) (assigned_unset set x y)
  assigns at x (step ∷ steps) e set y =
      let A = Then (StepsPath (step ∷ steps)) (ExprPath e) in
      way_less (StmtPath (AssignStmt at x (step ∷ steps) e)) Falls y (unmarked set y) (unmarked set y) (unmarked (mark set x true) y) (assigned_less set x y)
      (way_reads Falls (Then (One (Uses at x)) A) y (unmarked set y) (read_then (One (Uses at x)) A (read_one at x) (read_then (StepsPath (step ∷ steps)) (ExprPath e) (read_steps (step ∷ steps)) (read_expr e))))

  mutual
    pub reaches : (st : Stmt ℕ) (k : ℕ) (around : List (Expr Node)) (p : Spot) (m : ℕ) → Wide p → Exits (StmtPath st) p.set (exec b around (numbered_stmt st k) p m)
    reaches (DeclareStmt at t x None) k around p m h = record {
      ends = record {
        wide = mark_wide p.set p.vars x false _ h;
        leads = λ y. record { events = Unsets x ∷ []; is_way = (refl, refl); unset = declared_unset p.set x y };
      };
      breaks = tt;
    }
    reaches (DeclareStmt at t x (Some e)) k around p m h = record {
      ends = record {
        wide = mark_wide p.set p.vars x true _ h;
        leads = λ y. way_event (ExprPath e) (Sets x) y (unmarked p.set y) (unmarked (mark p.set x true) y) (read_expr e) (assigned_unset p.set x y);
      };
      breaks = tt;
    }
    reaches (AssignStmt at x path e) k around p m h = record {
      ends = record { wide = mark_wide p.set p.vars x true _ h; leads = assigns at x path e p.set };
      breaks = tt;
    }
    reaches (CallStmt at f es) k around p m h = record { ends = record { wide = h; leads = λ y. way_reads Falls (ExprsPath es) y (unmarked p.set y) (read_exprs es) }; breaks = tt }
    reaches (ReturnStmt at None) k around p m h = record { ends = tt; breaks = tt }
    reaches (ReturnStmt at (Some e)) k around p m h = record { ends = tt; breaks = tt }
    reaches (AssertStmt at e) k around p m h = record { ends = record { wide = h; leads = λ y. way_reads Falls (ExprPath e) y (unmarked p.set y) (read_expr e) }; breaks = tt }
    reaches (BreakStmt at) k around p m h = record { ends = tt; breaks = (record { wide = h; leads = λ y. way_nothing Breaks y (unmarked p.set y) }, tt) }
    reaches (ContinueStmt at) k around p m h = record { ends = tt; breaks = tt }
    reaches (SkipStmt at) k around p m h = record { ends = record { wide = h; leads = λ y. way_nothing Falls y (unmarked p.set y) }; breaks = tt }
    reaches (FailStmt at) k around p m h = record { ends = tt; breaks = tt }
    reaches (IfStmt at e first second) k around p m h =
        let v = expr b (numbered e k) p.vars p.hyps m in
        let one = exec_all b around (numbered_block first (k + exprs_in e)) (where_true v p) v.count in
        let two = exec_all b around (numbered_block second (k + exprs_in e + exprs_in_block first)) (where_false v p) one.count in
        let r1 = reaches_all first (k + exprs_in e) around (where_true v p) v.count h in
        let r2 = reaches_all second (k + exprs_in e + exprs_in_block first) around (where_false v p) one.count h in
        let E = Either (λ q i. StmtsPath first q i) (λ q i. StmtsPath second q i) in
        let C = Before (ExprPath e) E in
        let on1 : (end : End) (q : Spot) → Reached (StmtsPath first) end p.set q → Reached C end p.set q = λ end q r. record {
          wide = r.wide;
          leads = λ x. way_before (ExprPath e) E end x (unmarked p.set x) (unmarked q.set x) (read_expr e) (way_left (StmtsPath first) (StmtsPath second) end x (unmarked p.set x) (unmarked q.set x) (r.leads x));
        } in
        let on2 : (end : End) (q : Spot) → Reached (StmtsPath second) end p.set q → Reached C end p.set q = λ end q r. record {
          wide = r.wide;
          leads = λ x. way_before (ExprPath e) E end x (unmarked p.set x) (unmarked q.set x) (read_expr e) (way_right (StmtsPath first) (StmtsPath second) end x (unmarked p.set x) (unmarked q.set x) (r.leads x));
        } in
        record {
          ends = meet_reached C Falls p.set (words b) v.hyps (as_list one.ends ++ as_list two.ends) two.count
              (reach_both C Falls p.set (as_list one.ends) (as_list two.ends) (reach_list C Falls p.set one.ends (reach_if (StmtsPath first) C Falls Falls p.set p.set (on1 Falls) one.ends r1.ends)) (reach_list C Falls p.set two.ends (reach_if (StmtsPath second) C Falls Falls p.set p.set (on2 Falls) two.ends r2.ends)));
          breaks = reach_both C Breaks p.set one.breaks two.breaks (reach_all (StmtsPath first) C Breaks Breaks p.set p.set (on1 Breaks) one.breaks r1.breaks) (reach_all (StmtsPath second) C Breaks Breaks p.set p.set (on2 Breaks) two.breaks r2.breaks);
        }
    reaches (WhileStmt at e invariants body) k around p m h =
        let clauses = numbered_list invariants (k + exprs_in e) in
        let inner = numbered_block body (k + exprs_in e + exprs_in_list invariants) in
        let entry = owe_clauses b.program.setting kind.Entry at (words b) clauses p.vars p.hyps m in
        let head = renew b inner (with_hyps entry.hyps p) entry.count in
        let inside = walk_clauses b.program (words b) clauses head.spot.vars head.spot.hyps head.count in
        let v = expr b (numbered e k) head.spot.vars inside.hyps inside.count in
        let turn = exec_all b clauses inner (where_true v head.spot) v.count in
        let kept = keep b at clauses turn.ends turn.count in
        let same = head_set b inner (with_hyps entry.hyps p) entry.count in
        let wide = head_wide b inner (with_hyps entry.hyps p) entry.count h in
        let r = reaches_all body (k + exprs_in e + exprs_in_list invariants) clauses (where_true v head.spot) v.count wide in
        let A = Then (ClausesPath invariants) (ExprPath e) in
        let C = Loop A (λ q i. StmtsPath body q i) in
        let a = read_then (ClausesPath invariants) (ExprPath e) (read_clauses invariants) (read_expr e) in
        let past : Reached C Falls head.spot.set (where_false v head.spot) = record { wide = wide; leads = λ x. way_past A (StmtsPath body) x (unmarked head.spot.set x) a } in
        let broken : AllReached C Falls head.spot.set turn.breaks = reach_all (StmtsPath body) C Breaks Falls head.spot.set head.spot.set
        (λ q t. record { wide = t.wide; leads = λ x. way_broken A (StmtsPath body) x (unmarked head.spot.set x) (unmarked q.set x) a (t.leads x) }) turn.breaks r.breaks in
        record {
          ends = subst (λ (s : List Bool). ReachedIf C Falls s (exec b around (numbered_stmt (WhileStmt at e invariants body) k) p m).ends) same
              (meet_reached C Falls head.spot.set (words b) v.hyps (where_false v head.spot ∷ turn.breaks) kept.count (past, broken));
          breaks = tt;
        }

    pub reaches_all : (block : Stmts ℕ) (k : ℕ) (around : List (Expr Node)) (p : Spot) (m : ℕ) → Wide p → Exits (StmtsPath block) p.set (exec_all b around (numbered_block block k) p m)
    reaches_all NoStmts k around p m h = record { ends = record { wide = h; leads = λ y. way_nothing Falls y (unmarked p.set y) }; breaks = tt }
    reaches_all (MoreStmts first rest) k around p m h =
        let f = exec b around (numbered_stmt first k) p m in
        let r = reaches first k around p m h in
        more_exits (StmtPath first) (StmtsPath rest) p.set f (exec_all b around (numbered_block rest (k + exprs_in_stmt first))) f.ends r.ends r.breaks
        (λ q n w. reaches_all rest (k + exprs_in_stmt first) around q n w)
