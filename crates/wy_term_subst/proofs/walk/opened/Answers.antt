use Rattle.std.proofs.Common.{◌<◌, refl, length, arith}
use Rattle.wy_term.specs.Nodes.{plain}
use Rattle.wy_term_subst.proofs.ScopeLemmas.{grows_length}
use Rattle.wy_term_subst.proofs.StepLemmas.{opened_is, opened_value}
use Rattle.wy_term_subst.proofs.walk.opened.Goals as goal

pub returns-clause-current : goal.returns-clause-current
returns-clause-current c =
    let more = grows_length c.args.walk.now.scopes.items c.entered.new.walk.scopes.items c.in_ok-number.ensures.enlarges.grows in
    let outer : c.args.scope < length c.entered.new.walk.scopes.items = omega (arith, more, c.requires.scope) in
    opened_is c.args.terms.now c.entered.new.terms (length c.entered.new.walk.scopes.items) _ (plain c.node.result.now) c.in_ok-number.ensures.kept c.requires.within c.requires.name c.node.ensures.tree c.node.ensures.within c.in_ok-parts.ensures.value c.new.ensures.items outer c.in_ok-number.ensures.enlarges.inner

pub returns-clause-value : goal.returns-clause-value
returns-clause-value c = λ u base ns avoids counts count.
    opened_value c.args.terms.now c.entered.new.terms c.args.walk.now.scopes.items c.entered.new.walk.scopes.items c.entered.new.walk u base _ ns c.in_ok-number.ensures.kept c.in_ok-number.ensures.enlarges.grows c.requires.fits.scopes c.requires.scope refl (returns-clause-current c) c.requires.within c.new.ensures.items count (c.in_ok-number.ensures.value u base ns avoids counts count)
