use Rattle.std.proofs.Common.{refl}
use Rattle.wy_term.proofs.copy.nothing_made.Goals as goal

pub returns : goal.returns
returns c = λ q. rw c.new.ensures.empty refl
