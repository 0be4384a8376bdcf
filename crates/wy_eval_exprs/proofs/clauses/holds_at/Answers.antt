use Rattle.std.proofs.Common.{◌+◌, false, Some, map, refl}
use Rattle.wy_core.specs.CoreSeen.{seen_alias, seen_expr}
use Rattle.wy_value.specs.Seen.{seen}
use Rattle.wy_sem.specs.Expressions as spec
use Rattle.wy_sem.specs.Meter.{Done, ◌>>=◌}
use Rattle.wy_sem.specs.Operations.{as_truth}
use Rattle.wy_sem.specs.TypeTests.{clause_setting}
use Rattle.wy_eval_exprs.specs.Outcomes.{itself, meter_of}
use Rattle.wy_eval_exprs.specs.Scopes.{store_of}
use Rattle.wy_eval_exprs.specs.Settings.{here, setting}
use Rattle.wy_eval_exprs.proofs.StepLemmas.{gives_as, then_gives, then_stops}
use Rattle.wy_eval_exprs.proofs.VisitLemmas.{clause_begins, truth_gives}
use Rattle.wy_eval_exprs.proofs.clauses.holds_at.Goals as goal

pub returns-in_err-value : goal.returns-in_err-value
returns-in_err-value c =
    let all = c.args.declared.now.types in
    let L = c.args.declared.now.limit in
    let A = c.args.at in
    let E = seen_expr c.args.expr.now in
    let S = store_of c.args.store.now in
    let M0 = meter_of c.args.meter.now in
    let K = meter_of c.value_of.new.meter in
    let n = c.len-bare.result in
    let W = setting (map seen_alias all) L (n + 1) in
    record {
      value = gives_as itself (spec.holds_at (clause_setting here (Some L) (map seen_alias all)) A E S M0) (spec.eval W false E S M0 >>= (λ v. as_truth A v Done)) c.from_residual.result K
          (clause_begins all L (n + 1) A E S M0 n c.len-bare.ensures refl)
          (then_stops itself (spec.eval W false E S M0) (λ v. as_truth A v Done) K c.in_err-value.field-0.0 c.from_residual.result c.in_err-value.ensures.value c.from_residual.ensures.1);
    }

pub returns : goal.returns
returns c =
    let all = c.args.declared.now.types in
    let L = c.args.declared.now.limit in
    let A = c.args.at in
    let E = seen_expr c.args.expr.now in
    let S = store_of c.args.store.now in
    let M0 = meter_of c.args.meter.now in
    let K = meter_of c.value_of.new.meter in
    let n = c.len-bare.result in
    let W = setting (map seen_alias all) L (n + 1) in
    let V = seen c.in_ok-value.value in
    record {
      value = gives_as itself (spec.holds_at (clause_setting here (Some L) (map seen_alias all)) A E S M0) (spec.eval W false E S M0 >>= (λ v. as_truth A v Done)) c.as_truth.result K
          (clause_begins all L (n + 1) A E S M0 n c.len-bare.ensures refl)
          (then_gives itself (spec.eval W false E S M0) (λ v. as_truth A v Done) V K c.as_truth.result K c.in_ok-value.ensures.value (truth_gives A V c.as_truth.result K c.as_truth.ensures.value));
    }
