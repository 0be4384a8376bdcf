use Rattle.std.proofs.Common.{◌≡◌, [], length, arith}
use Rattle.std.proofs.lemmas.List.{nil_from_length}
use Rattle.wy_vc.specs.Meanings.{tests_at}
use Rattle.wy_vc.proofs.MentionedLemmas.{begin_reaching, none_left, one_left}
use Rattle.wy_vc.proofs.mentioned.mentioned.Goals as goal

pub loop-turn-init : goal.loop-turn-init
loop-turn-init c = begin_reaching (tests_at c.args.meanings.now) (length c.args.meanings.now) c.args.begun.now c.in_ok-todo.todo.items c.in_ok-marks.marks.items c.in_ok-marks.ensures.count c.in_ok-marks.ensures.none c.in_ok-todo.ensures.items

pub returns-in-None-clause-count : goal.returns-in-None-clause-count
returns-in-None-clause-count c = c.loop-turn.invariant.whole

pub returns-in-None-clause-value : goal.returns-in-None-clause-value
returns-in-None-clause-value c =
    let none : c.loop-turn.todo.items ≡ [] = nil_from_length c.loop-turn.todo.items (omega (arith, c.in-None.ensures.cases.0, c.loop-turn.todo.ok.0)) in
    none_left (tests_at c.args.meanings.now) (length c.args.meanings.now) c.args.begun.now c.loop-turn.todo.items c.loop-turn.marks.items none c.loop-turn.invariant

pub visit-requires : goal.visit-requires
visit-requires c = record {
  reaching = one_left (tests_at c.args.meanings.now) (length c.args.meanings.now) c.args.begun.now c.loop-turn.todo.items c.pop.new.self.items c.loop-turn.marks.items c.in-Some.number c.pop.result c.pop.ensures.items c.in-Some.is c.loop-turn.invariant;
}
