use Rattle.std.proofs.Common.{◌≡◌, ℕ, List, Option, sym, ◌∙◌, ap, subst, refl}
use Rattle.wy_code.specs.declared.instructions.Instr.{Instr}
use Rattle.wy_code.specs.declared.instructions.Instr.TheVariants as instr
use Rattle.wy_lemmas.proofs.Options.{on_any_err}
use Rattle.wy_mach.specs.declared.machine.Turn.{Turn}
use Rattle.wy_mach.specs.declared.machine.Turn.TheVariants as turn
use Rattle.wy_mach.specs.Running.{Steps, Turned, TurnsBy, MayTakeMemory, next_by}
use Rattle.wy_mach.proofs.PaceLemmas.{went_so}
use Rattle.wy_mach.proofs.TurnLemmas.{machine_at, jump_steps, if_ok}
use Rattle.wy_mach.specs.SharedTurns.{SharesCall, SharesBy, EndsSo, EndsBy, IsNoEnd, WantsBy}
use Rattle.wy_mach.proofs.SharedTurnLemmas.{no_end_so}
use Rattle.wy_mach.specs.Pacing.{turn_of}
use Rattle.wy_code.specs.declared.routines.Code.{Code}
use Rattle.wy_mach.proofs.machine.Machine.made.Goals as goal

pub returns-in-Jump-clause-turned : goal.returns-in-Jump-clause-turned
returns-in-Jump-clause-turned g c =
    let old = c.args.self.now in
    let code = c.args.code.now in
    let known = g.O.Sink.taken c.args.out.now in
    subst (λ (i : Instr). Steps (next_by code i) old (machine_at old c.in-Jump.to) known known) (sym c.in-Jump.is) (jump_steps code old known c.in-Jump.to)

pub returns-in-Branch-clause-turned : goal.returns-in-Branch-clause-turned
returns-in-Branch-clause-turned g c =
    let old = c.args.self.now in
    let code = c.args.code.now in
    let known = g.O.Sink.taken c.args.out.now in
    let failed = g.O.Sink.faults c.args.out.now in
    if_ok (turn_of c.branch-self.result) (TurnsBy (instr.Branch c.in-Branch.from c.in-Branch.to) old c.branch-self.new.self)
    (λ (t : Turn). Turned (next_by code c.args.instr.now) old c.branch-self.new.self known known failed failed t)
    (λ t turned. subst (λ (i : Instr). Turned (next_by code i) old c.branch-self.new.self known known failed failed t) (sym c.in-Branch.is) (turned code known failed)) c.branch-self.ensures.turned

pub returns-in-Call-clause-turned : goal.returns-in-Call-clause-turned
returns-in-Call-clause-turned g c =
    let old = c.args.self.now in
    let code = c.args.code.now in
    let known = g.O.Sink.taken c.args.out.now in
    let failed = g.O.Sink.faults c.args.out.now in
    let called = instr.Call c.in-Call.to c.in-Call.routine c.as_slice.result.now in
    let is : c.args.instr.now ≡ called = c.in-Call.is ∙ ap (λ (l : List ℕ). instr.Call c.in-Call.to c.in-Call.routine l) (sym c.as_slice.ensures) in
    if_ok (turn_of c.call.result) (λ (t : Turn). (before : Option (List ℕ)) (fails : ℕ) → Turned (next_by code called) old c.call.new.self before before fails fails t)
    (λ (t : Turn). Turned (next_by code c.args.instr.now) old c.call.new.self known known failed failed t)
    (λ t turned. subst (λ (i : Instr). Turned (next_by code i) old c.call.new.self known known failed failed t) (sym is) (turned known failed)) c.call.ensures.turned

pub returns-in-Call-clause-no_memory : goal.returns-in-Call-clause-no_memory
returns-in-Call-clause-no_memory g c = on_any_err (turn_of c.call.result) (MayTakeMemory c.args.instr.now) (subst MayTakeMemory (sym c.in-Call.is) tt)

pub returns-in-Print-clause-turned : goal.returns-in-Print-clause-turned
returns-in-Print-clause-turned g c =
    let old = c.args.self.now in
    let code = c.args.code.now in
    let new = c.printed.new.self in
    let before = g.O.Sink.taken c.args.out.now in
    let after = g.O.Sink.taken c.printed.new.out in
    let failed = g.O.Sink.faults c.args.out.now in
    let fails = g.O.Sink.faults c.printed.new.out in
    if_ok (turn_of c.printed.result) (λ (t : Turn). (code : Code) → Turned (next_by code (instr.Print c.in-Print.from)) old new before after failed fails t)
    (λ (t : Turn). Turned (next_by code c.args.instr.now) old new before after failed fails t)
    (λ t turned. subst (λ (i : Instr). Turned (next_by code i) old new before after failed fails t) (sym c.in-Print.is) (turned code)) c.printed.ensures.turned

pub returns-in-PrintInt-clause-turned : goal.returns-in-PrintInt-clause-turned
returns-in-PrintInt-clause-turned g c =
    let old = c.args.self.now in
    let code = c.args.code.now in
    let new = c.number_printed.new.self in
    let before = g.O.Sink.taken c.args.out.now in
    let after = g.O.Sink.taken c.number_printed.new.out in
    let failed = g.O.Sink.faults c.args.out.now in
    let fails = g.O.Sink.faults c.number_printed.new.out in
    if_ok (turn_of c.number_printed.result) (λ (t : Turn). (code : Code) → Turned (next_by code (instr.PrintInt c.in-PrintInt.from)) old new before after failed fails t)
    (λ (t : Turn). Turned (next_by code c.args.instr.now) old new before after failed fails t)
    (λ t turned. subst (λ (i : Instr). Turned (next_by code i) old new before after failed fails t) (sym c.in-PrintInt.is) (turned code)) c.number_printed.ensures.turned

pub returns-in-Jump-clause-shares : goal.returns-in-Jump-clause-shares
returns-in-Jump-clause-shares g c w =
    let old = c.args.self.now in
    subst (λ (i : Instr). SharesBy c.args.code.now i old (machine_at old c.in-Jump.to)) (sym c.in-Jump.is) (record { heap = refl; registers = refl; routine = refl; callers = refl }, refl)

pub returns-in-Branch-clause-shares : goal.returns-in-Branch-clause-shares
returns-in-Branch-clause-shares g c =
    let old = c.args.self.now in
    let new = c.branch-self.new.self in
    went_so c.branch-self.result (SharesBy c.args.code.now c.args.instr.now old new)
    (λ w. subst (λ (i : Instr). SharesBy c.args.code.now i old new) (sym c.in-Branch.is) (c.branch-self.ensures.shares w))

pub returns-in-Call-clause-shares : goal.returns-in-Call-clause-shares
returns-in-Call-clause-shares g c =
    let old = c.args.self.now in
    let new = c.call.new.self in
    let code = c.args.code.now in
    let called = instr.Call c.in-Call.to c.in-Call.routine c.as_slice.result.now in
    let is : c.args.instr.now ≡ called = c.in-Call.is ∙ ap (λ (l : List ℕ). instr.Call c.in-Call.to c.in-Call.routine l) (sym c.as_slice.ensures) in
    if_ok (turn_of c.call.result) (λ (t : Turn). t ≡ turn.Went → SharesCall code old new c.in-Call.to c.in-Call.routine c.as_slice.result.now) (λ (t : Turn). t ≡ turn.Went → SharesBy code c.args.instr.now old new)
    (λ t shares w. subst (λ (i : Instr). SharesBy code i old new) (sym is) (shares w)) c.call.ensures.shares

pub returns-in-Print-clause-shares : goal.returns-in-Print-clause-shares
returns-in-Print-clause-shares g c =
    let old = c.args.self.now in
    let new = c.printed.new.self in
    went_so c.printed.result (SharesBy c.args.code.now c.args.instr.now old new)
    (λ w. subst (λ (i : Instr). SharesBy c.args.code.now i old new) (sym c.in-Print.is) (c.printed.ensures.shares w))

pub returns-in-PrintInt-clause-shares : goal.returns-in-PrintInt-clause-shares
returns-in-PrintInt-clause-shares g c =
    let old = c.args.self.now in
    let new = c.number_printed.new.self in
    went_so c.number_printed.result (SharesBy c.args.code.now c.args.instr.now old new)
    (λ w. subst (λ (i : Instr). SharesBy c.args.code.now i old new) (sym c.in-PrintInt.is) (c.number_printed.ensures.shares w))

pub returns-in-Call-clause-wants : goal.returns-in-Call-clause-wants
returns-in-Call-clause-wants g c = on_any_err (turn_of c.call.result) (WantsBy c.args.instr.now c.args.self.now) (subst (λ (i : Instr). WantsBy i c.args.self.now) (sym c.in-Call.is) tt)

pub returns-in-Branch-clause-ends : goal.returns-in-Branch-clause-ends
returns-in-Branch-clause-ends g c =
    let ends = EndsBy c.args.instr.now c.args.self.now in
    if_ok (turn_of c.branch-self.result) IsNoEnd (EndsSo ends) (λ t none. no_end_so t ends none) c.branch-self.ensures.goes

pub returns-in-Call-clause-ends : goal.returns-in-Call-clause-ends
returns-in-Call-clause-ends g c =
    let ends = EndsBy c.args.instr.now c.args.self.now in
    if_ok (turn_of c.call.result) IsNoEnd (EndsSo ends) (λ t none. no_end_so t ends none) c.call.ensures.no_end

pub returns-in-Print-clause-ends : goal.returns-in-Print-clause-ends
returns-in-Print-clause-ends g c =
    let ends = EndsBy c.args.instr.now c.args.self.now in
    if_ok (turn_of c.printed.result) IsNoEnd (EndsSo ends) (λ t none. no_end_so t ends none) c.printed.ensures.goes

pub returns-in-PrintInt-clause-ends : goal.returns-in-PrintInt-clause-ends
returns-in-PrintInt-clause-ends g c =
    let ends = EndsBy c.args.instr.now c.args.self.now in
    if_ok (turn_of c.number_printed.result) IsNoEnd (EndsSo ends) (λ t none. no_end_so t ends none) c.number_printed.ensures.goes
