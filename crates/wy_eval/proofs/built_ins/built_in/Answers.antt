use Rattle.std.proofs.Common.{◌≡◌, ◌+◌, ◌-◌, ◌≤◌, Some, map, length, ap, ◌∙◌, arith}
use Rattle.wy_core.specs.CoreSeen.{seen_core, seen_decl}
use Rattle.wy_core.specs.CoreTree.{routines_of}
use Rattle.wy_value.specs.Seen.{seen}
use Rattle.wy_sem.specs.Evaluation.{callee, print_call, print_int_call}
use Rattle.wy_eval_exprs.specs.Operands.{seen_option}
use Rattle.wy_eval_exprs.specs.Outcomes.{meter_of}
use Rattle.wy_eval_exprs.proofs.StepLemmas.{gives_as}
use Rattle.wy_eval.specs.Settings.{built_in_call}
use Rattle.wy_eval.proofs.CalleeLemmas.{callee_behind, undeclared}
use Rattle.wy_eval.proofs.built_ins.built_in.Goals as goal

pub returns-then-behind-eq0 : goal.returns-then-behind-eq0
returns-then-behind-eq0 c =
    let L = c.args.program.now.declared.limit in
    let rs = routines_of (seen_core c.args.core.now) in
    let l = length rs in
    let n = c.args.number in
    let q = c.counted.result in
    let vs = map seen c.args.args.now in
    let M = meter_of c.args.meter.now in
    let K = meter_of c.print_call.new.meter in
    let all : q ≡ l = c.counted.ensures.value ∙ ap (λ ds. length (routines_of (map seen_decl ds))) c.as_slice-decls.ensures in
    let enough : l ≤ n = c.requires in
    let behind : n - q ≡ 0 = c.if-behind-eq0.true in
    let sum : n ≡ l + 0 = omega arith in
    record { value = gives_as seen_option (built_in_call L (callee rs n) c.args.at vs M) (print_call (Some L) c.args.at vs M) c.print_call.result K (ap (λ x. built_in_call L x c.args.at vs M) (callee_behind rs n 0 sum)) c.print_call.ensures.value }

pub returns-then-behind-eq1 : goal.returns-then-behind-eq1
returns-then-behind-eq1 c =
    let L = c.args.program.now.declared.limit in
    let rs = routines_of (seen_core c.args.core.now) in
    let l = length rs in
    let n = c.args.number in
    let q = c.counted.result in
    let vs = map seen c.args.args.now in
    let M = meter_of c.args.meter.now in
    let K = meter_of c.print_int_call.new.meter in
    let all : q ≡ l = c.counted.ensures.value ∙ ap (λ ds. length (routines_of (map seen_decl ds))) c.as_slice-decls.ensures in
    let enough : l ≤ n = c.requires in
    let behind : n - q ≡ 1 = c.if-behind-eq1.true in
    let sum : n ≡ l + 1 = omega arith in
    record { value = gives_as seen_option (built_in_call L (callee rs n) c.args.at vs M) (print_int_call c.args.at vs M) c.print_int_call.result K (ap (λ x. built_in_call L x c.args.at vs M) (callee_behind rs n 1 sum)) c.print_int_call.ensures.value }

pub returns : goal.returns
returns c =
    let L = c.args.program.now.declared.limit in
    let rs = routines_of (seen_core c.args.core.now) in
    let l = length rs in
    let n = c.args.number in
    let q = c.counted.result in
    let vs = map seen c.args.args.now in
    let M = meter_of c.args.meter.now in
    let all : q ≡ l = c.counted.ensures.value ∙ ap (λ ds. length (routines_of (map seen_decl ds))) c.as_slice-decls.ensures in
    let enough : l ≤ n = c.requires in
    let k = n - q in
    let sum : n ≡ l + k = omega arith in
    let is = callee_behind rs n k sum ∙ undeclared k c.if-behind-eq0.false c.if-behind-eq1.false in
    record { value = λ none. ap (λ x. built_in_call L x c.args.at vs M) is }
