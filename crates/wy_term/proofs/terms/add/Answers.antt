use Rattle.wy_term.proofs.InternLemmas.{added_by}
use Rattle.wy_term.proofs.terms.add.Goals as goal

pub returns-clause-added : goal.returns-clause-added
returns-clause-added c = added_by _ _ _ _ c.in_ok-term.ensures.keys c.in_ok-term.ensures.index

pub returns-clause-extends : goal.returns-clause-extends
returns-clause-extends c = (added_by _ _ _ c.in_ok-term.term c.in_ok-term.ensures.keys c.in_ok-term.ensures.index).extends
