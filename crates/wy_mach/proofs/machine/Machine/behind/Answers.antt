use Rattle.std.proofs.Common.{◌≡◌, ℕ, List, Option}
use Rattle.std.specs.Prelude.{vec_capacity}
use Rattle.wy_mach.specs.declared.machine.Turn.{Turn}
use Rattle.wy_mach.specs.declared.machine.Turn.TheVariants as turn
use Rattle.wy_mach.specs.Running.{Turned, next_by}
use Rattle.wy_mach.specs.Pacing.{turn_of}
use Rattle.wy_mach.specs.SharedTurns.{SharesPlain, SharesBy, EndsSo, EndsBy, IsNoEnd, WantsIn, WantsBy}
use Rattle.wy_mach.proofs.TurnLemmas.{if_ok, on_err}
use Rattle.wy_mach.proofs.SharedTurnLemmas.{plain_by, plain_wants, no_end_so}
use Rattle.wy_mach.proofs.machine.Machine.behind.Goals as goal

pub returns-clause-turned : goal.returns-clause-turned
returns-clause-turned g c =
    let old = c.args.self.now in
    let code = c.args.code.now in
    let known = g.O.Sink.taken c.args.out.now in
    let failed = g.O.Sink.faults c.args.out.now in
    if_ok (turn_of c.went.result) (λ (t : Turn). (before : Option (List ℕ)) (fails : ℕ) → Turned (next_by code c.args.instr.now) old c.went.new.self before before fails fails t)
    (λ (t : Turn). Turned (next_by code c.args.instr.now) old c.went.new.self known known failed failed t) (λ t turned. turned known failed) c.went.ensures.turned

pub returns-clause-shares : goal.returns-clause-shares
returns-clause-shares g c =
    let old = c.args.self.now in
    let new = c.went.new.self in
    let code = c.args.code.now in
    let i = c.args.instr.now in
    if_ok (turn_of c.went.result) (λ (t : Turn). t ≡ turn.Went → SharesPlain i old new) (λ (t : Turn). t ≡ turn.Went → SharesBy code i old new)
    (λ t shares w. plain_by code i old new c.requires.plain (shares w)) c.went.ensures.shares

pub returns-clause-wants : goal.returns-clause-wants
returns-clause-wants g c =
    let old = c.args.self.now in
    let i = c.args.instr.now in
    on_err (turn_of c.went.result) (WantsIn i old.heap old.frame.registers.items (vec_capacity old.path)) (WantsBy i old) (plain_wants i old c.requires.plain) c.went.ensures.wants

pub returns-clause-ends : goal.returns-clause-ends
returns-clause-ends g c =
    let ends = EndsBy c.args.instr.now c.args.self.now in
    if_ok (turn_of c.went.result) IsNoEnd (EndsSo ends) (λ t none. no_end_so t ends none) c.went.ensures.no_end
