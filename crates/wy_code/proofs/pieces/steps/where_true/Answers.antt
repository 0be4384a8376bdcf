use Rattle.std.proofs.Common.{[]}
use Rattle.wy_code.proofs.pieces.steps.where_true.Goals as goal

pub returns : goal.returns
returns c = record { value = λ first old h e. c.fork.ensures.value first [] old h e e }
