use Rattle.wy_vc.proofs.DeclarationLemmas.{next_alias}
use Rattle.wy_vc.proofs.declarations.owe_alias.Goals as goal

pub returns-clause-next : goal.returns-clause-next
returns-clause-next c = next_alias c.args.alias.now c.args.first c.in_ok-next.next c.in_ok-inside.inside c.as_slice.result.now c.as_slice.ensures c.in_ok-inside.ensures.value c.in_ok-next.ensures.value
