use Rattle.std.proofs.Common.{sym, subst}
use Rattle.std.specs.Prelude.{MatchResult}
use Rattle.wy_core.specs.CoreSeen.{seen_core}
use Rattle.wy_mach_run.specs.Starting.{IsMet, IsNotMet}
use Rattle.wy_mach_run.proofs.StartLemmas.{judged_so}
use Rattle.wy_mach_run.proofs.arguments.tested.Goals as goal

pub returns-in-Ok : goal.returns-in-Ok
returns-in-Ok c = record {
  found = λ name r entry many.
      let core = seen_core c.args.core.now in
      let f = c.args.entry.now.number in
      let args = c.args.args.now in
      subst (λ q. MatchResult q (λ u. IsMet core f args) (IsNotMet core f r args)) (sym c.judged.ensures.value)
      (judged_so core name f c.args.entry.now.count r args c.in-Ok.end entry many c.in-Ok.ensures.exact);
}
