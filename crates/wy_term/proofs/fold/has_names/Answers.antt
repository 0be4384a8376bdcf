use Rattle.std.proofs.Common.{◌∙◌, arith}
use Rattle.wy_term.proofs.FoldLemmas.{names_end}
use Rattle.wy_term.proofs.fold.has_names.Goals as goal

pub returns : goal.returns
returns c = names_end c.args.fields.now c.args.names.now c.loop-k.k (omega arith) c.loop-k.invariant.within ∙ c.loop-k.invariant.so_far
