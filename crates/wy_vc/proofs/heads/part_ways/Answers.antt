use Rattle.std.proofs.Common.{refl}
use Rattle.wy_vc.specs.declared.heads.Head.{Head}
use Rattle.wy_vc.proofs.BranchLemmas.{cut_within}
use Rattle.wy_vc.proofs.HeadLemmas.{parts_from}
use Rattle.wy_vc.proofs.heads.part_ways.Goals as goal

pub assume-requires-clause-formula : goal.assume-requires-clause-formula
assume-requires-clause-formula c = cut_within c.args.walk.now c.path_where.new.walk c.args.tested.holds c.in_ok-path.ensures.maker c.requires.holds

pub returns-clause-value : goal.returns-clause-value
returns-clause-value c =
    let head : Head = record { first = c.args.first; base = c.args.tested.base; breaks = c.push.new.self; here = c.args.here } in
    parts_from c.args.walk.now c.path_where.new.walk c.assume.new.self c.args.tested c.args.here head c.new-breaks.result.items c.push.new.self.items c.in_ok-path.path c.requires.sound c.in_ok-path.ensures.maker c.in_ok-path.ensures.steps
    c.in_ok-path.ensures.is_path c.in_ok-path.ensures.value c.new-breaks.ensures.items c.in_ok-push.ensures.items c.in_ok-assume.ensures.value refl refl refl
