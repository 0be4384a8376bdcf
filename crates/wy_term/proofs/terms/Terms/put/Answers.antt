use Rattle.std.proofs.Common.{sym}
use Rattle.wy_term.proofs.NumbersLemmas.{put_if, keeps_inside}
use Rattle.wy_term.proofs.terms.Terms.put.Goals as goal

pub returns-clause-value : goal.returns-clause-value
returns-clause-value c = put_if _ _ _ _ _ (sym c.self.view_is) c.self.invariant c.requires c.add.ensures.added

pub returns-clause-keeps : goal.returns-clause-keeps
returns-clause-keeps c = keeps_inside _ _ _ (sym c.self.view_is) c.add.ensures.extends
