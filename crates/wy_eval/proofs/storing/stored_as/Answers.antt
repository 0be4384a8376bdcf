use Rattle.std.proofs.Common.{Some, map, sym, ap, ◌∙◌}
use Rattle.wy_core.specs.CoreSeen.{seen_alias, seen_ty}
use Rattle.wy_value.specs.Seen.{seen}
use Rattle.wy_sem.specs.Evaluation.{owed_member}
use Rattle.wy_sem.specs.Expressions as spec
use Rattle.wy_sem.specs.Meter.{Meter, Done}
use Rattle.wy_sem.specs.Statements as statements
use Rattle.wy_sem.specs.Statements.{Went, given}
use Rattle.wy_eval_exprs.specs.Outcomes.{meter_of}
use Rattle.wy_eval_exprs.specs.Scopes.{store_of}
use Rattle.wy_eval_exprs.specs.Settings.{here}
use Rattle.wy_eval_exprs.proofs.StepLemmas.{gives_as}
use Rattle.wy_eval.specs.Exits.{seen_exit}
use Rattle.wy_eval.proofs.storing.stored_as.Goals as goal

pub returns-in-Some : goal.returns-in-Some
returns-in-Some c =
    let owed = owed_member here (Some c.args.program.now.declared.limit) (map seen_alias c.args.program.now.declared.types) in
    let V = seen c.args.value in
    let M0 = meter_of c.args.meter.now in
    let next = λ (m : Meter). Done (Went (spec.put (store_of c.args.store.items) c.args.number (Some V))) m in
    let T = statements.type_at (map seen_ty c.args.types.now) c.args.number in
    record {
      value = gives_as seen_exit (given owed c.args.at T V next M0) (given owed c.args.at (seen_ty c.in-Some.ty.now) V next M0) c.stored.result (meter_of c.stored.new.meter) (ap (λ t. given owed c.args.at t V next M0) c.in-Some.ensures.value) c.stored.ensures.value;
    }

pub returns-in-None : goal.returns-in-None
returns-in-None c =
    let owed = owed_member here (Some c.args.program.now.declared.limit) (map seen_alias c.args.program.now.declared.types) in
    let V = seen c.args.value in
    let M0 = meter_of c.args.meter.now in
    let next = λ (m : Meter). Done (Went (spec.put (store_of c.args.store.items) c.args.number (Some V))) m in
    record { value = ap (λ t. given owed c.args.at t V next M0) c.in-None.ensures.value ∙ ap (λ s. Done (Went s) M0) (sym c.put.ensures.value) }
