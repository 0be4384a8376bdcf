use Rattle.std.proofs.Common.{sym, subst, Option, List, ℕ}
use Rattle.wy_vc_exprs.specs.Slots.{AreSlots}
use Rattle.wy_vc_body.specs.Paths.{IsPath}
use Rattle.wy_vc_body.proofs.PathLemmas.{one_of_all}
use Rattle.wy_vc_body.proofs.paths.same_on_all.Goals as goal

pub is_term-requires-clause-slots : goal.is_term-requires-clause-slots
is_term-requires-clause-slots c =
    subst (λ (vs : List (Option ℕ)). AreSlots c.args.terms.now vs) (sym c.as_slice.ensures.value)
    (one_of_all (IsPath c.args.terms.now) c.args.paths.now c.loop-path.path-index c.path-item.result c.loop-path-test.true c.path-item.is c.requires.paths).vars
