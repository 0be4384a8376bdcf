use Rattle.std.proofs.Common.{Some, map, sym, ap, ◌∙◌}
use Rattle.wy_core.specs.CoreSeen.{seen_alias, seen_ty}
use Rattle.wy_value.specs.Seen.{seen}
use Rattle.wy_sem.specs.Evaluation.{owed_member}
use Rattle.wy_sem.specs.Expressions as spec
use Rattle.wy_sem.specs.Meter.{Meter, Done}
use Rattle.wy_sem.specs.Statements.{Went, given}
use Rattle.wy_eval_exprs.specs.Outcomes.{meter_of}
use Rattle.wy_eval_exprs.specs.Scopes.{store_of}
use Rattle.wy_eval_exprs.specs.Settings.{here}
use Rattle.wy_eval_exprs.proofs.StepLemmas.{refused}
use Rattle.wy_eval.specs.Exits.{seen_exit}
use Rattle.wy_eval.proofs.FollowLemmas.{given_stops, given_then}
use Rattle.wy_eval.proofs.exits.stored.Goals as goal

pub returns-in_err-given : goal.returns-in_err-given
returns-in_err-given c =
    let L = c.args.program.now.declared.limit in
    let owed = owed_member here (Some L) (map seen_alias c.args.program.now.declared.types) in
    let T = seen_ty c.args.ty.now in
    let V = seen c.args.value in
    let S = store_of c.args.store.items in
    let M0 = meter_of c.args.meter.now in
    let K = meter_of c.given.new.meter in
    let next = λ (m : Meter). Done (Went (spec.put S c.args.variable (Some V))) m in
    let e = c.in_err-given.field-0.0 in
    record { value = refused seen_exit (given owed c.args.at T V next M0) K e c.from_residual.result (λ none. given_stops owed c.args.at T V next M0 K e c.in_err-given.ensures.value none) c.from_residual.ensures.1 }

pub returns : goal.returns
returns c =
    let L = c.args.program.now.declared.limit in
    let owed = owed_member here (Some L) (map seen_alias c.args.program.now.declared.types) in
    let T = seen_ty c.args.ty.now in
    let V = seen c.args.value in
    let S = store_of c.args.store.items in
    let M0 = meter_of c.args.meter.now in
    let K = meter_of c.given.new.meter in
    let next = λ (m : Meter). Done (Went (spec.put S c.args.variable (Some V))) m in
    record { value = given_then owed c.args.at T V next M0 K c.in_ok-given.ensures.value ∙ ap (λ s. Done (Went s) K) (sym c.put.ensures.value) }
