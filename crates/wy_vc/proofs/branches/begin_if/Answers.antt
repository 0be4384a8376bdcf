use Rattle.std.proofs.Common.{List, Option, ℕ, sym, subst}
use Rattle.wy_core.specs.CoreSeen.{seen_expr}
use Rattle.wy_vc_spec.specs.Numbered.{numbered}
use Rattle.wy_vc_body.specs.wy_vc_exprs.Slots.{AreSlots}
use Rattle.wy_vc.proofs.BranchLemmas.{forks_from}
use Rattle.wy_vc.proofs.branches.begin_if.Goals as goal

pub walk_test-requires-clause-slots : goal.walk_test-requires-clause-slots
walk_test-requires-clause-slots c = subst (λ (vs : List (Option ℕ)). AreSlots c.args.walk.now.maker.terms vs) (sym c.as_slice.ensures.value) c.requires.slots

pub returns-clause-value : goal.returns-clause-value
returns-clause-value c =
    forks_from c.args.frame.now (numbered (seen_expr c.args.test.now) c.args.walk.now.maker.node) c.as_slice.result.now c.args.walk.now c.walk_test.new.walk c.assume.new.self c.in_ok-tested.tested c.args.here.now c.in_ok-other.other c.as_slice.ensures.value c.in_ok-tested.ensures.value c.in_ok-assume.ensures.value c.in_ok-other.ensures.vars c.in_ok-other.ensures.set
