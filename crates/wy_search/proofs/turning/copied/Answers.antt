use Rattle.std.proofs.Common.{◌∙◌, length, sym, subst}
use Rattle.wy_check_nodes.specs.Seen.{AreBelow}
use Rattle.wy_search.proofs.SpotLemmas.{copy_seen, copy_over}
use Rattle.wy_search.proofs.turning.copied.Goals as goal

pub returns-clause-seen : goal.returns-clause-seen
returns-clause-seen c = λ at.
    copy_seen at c.args.spot.now c.in_ok-branch.branch c.in_ok-had.had c.in_ok-names.names.items c.in_ok-branch.ensures.literals c.in_ok-branch.ensures.pending c.in_ok-had.ensures.literals c.in_ok-had.ensures.pending (c.in_ok-names.ensures.items ∙ c.deref.ensures.value)

pub returns-clause-spot : goal.returns-clause-spot
returns-clause-spot c = λ nodes is. record {
  branch = copy_over nodes c.args.spot.now.branch c.in_ok-branch.branch c.in_ok-branch.ensures.literals c.in_ok-branch.ensures.pending is.branch;
  had = copy_over nodes c.args.spot.now.had c.in_ok-had.had c.in_ok-had.ensures.literals c.in_ok-had.ensures.pending is.had;
  names = subst (AreBelow (length nodes)) (sym (c.in_ok-names.ensures.items ∙ c.deref.ensures.value)) is.names;
}
