use Rattle.std.proofs.Common.{◌∙◌}
use Rattle.wy_term.specs.Nodes.{plain}
use Rattle.wy_term_subst.specs.Substitution.{renumbered}
use Rattle.wy_check_splits.proofs.HeadLemmas.{head_is}
use Rattle.wy_cong.proofs.congruent.same_head.Goals as goal

pub returns : goal.returns
returns c = c.eq.ensures ∙ head_is c.in_ok-node.node c.args.t.now (renumbered (plain c.args.s.now).symbol c.bound_number.result) (plain c.args.s.now).symbol c.args.parts.now c.in_ok-node.ensures.value c.bound_number.ensures c.requires.parts
