use Rattle.std.proofs.Common.{ℕ, List, length, refl, sym, subst}
use Rattle.wy_graph.specs.closure.Closure.{IsPending, from_none}
use Rattle.wy_graph.proofs.closure_lemmas.MetLemmas.{none_met}
use Rattle.wy_graph.proofs.closure_lemmas.WorkLemmas.{all_due, none_due}
use Rattle.wy_graph.proofs.closure.closing.close.Goals as goal

pub work-init : goal.work-init
work-init c = record {
  count = c.in_ok-marks.ensures.count;
  reached = from_none c.in_ok-marks.marks c.in_ok-marks.ensures.none;
  met = none_met c.args.clauses.now c.in_ok-marks.marks c.in_ok-met.met c.in_ok-met.ensures.value;
  each = c.in_ok-met.ensures.count;
  pending = subst (λ (l : List ℕ). IsPending c.args.clauses.now c.in_ok-marks.marks l) (sym c.in_ok-due.ensures.value) (all_due c.args.clauses.now c.in_ok-marks.marks (length c.args.clauses.now) refl);
}

pub returns-in-None-clause-closed : goal.returns-in-None-clause-closed
returns-in-None-clause-closed c = none_due c.args.clauses.now c.work.marks c.work.due c.in-None.ensures.0 c.work.invariant.pending
