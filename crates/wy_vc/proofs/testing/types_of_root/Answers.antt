use Rattle.std.proofs.Common.{◌∙◌, sym}
use Rattle.wy_vc.proofs.StandingLemmas.{one_below}
use Rattle.wy_vc.proofs.TestedLemmas.{quiet_root}
use Rattle.wy_vc.proofs.testing.types_of_root.Goals as goal

pub types_tested-requires : goal.types_tested-requires
types_tested-requires c = one_below _ c.args.root c.requires.within

pub returns : goal.returns
returns c = record { value = quiet_root c.args.terms.now c.args.marks.now c.args.root c.new.result.items c.new.ensures.items (sym c.is_testing-testing.ensures.value ∙ c.if-testing.false) c.requires.quiet }
