use Rattle.std.proofs.Common.{◌≡◌, ◌∙◌, [], length, rules}
use Rattle.wy_check_nodes.specs.wy_term.Nodes.{tree_at}
use Rattle.wy_check_nodes.specs.Seen.{seen_branch}
use Rattle.wy_check_nodes.specs.wy_check_spec.valid.Kinds.{given_by}
use Rattle.wy_check_splits.proofs.given.kinds_given.Goals as goal

pub returns-then-not-holds-clause-below : goal.returns-then-not-holds-clause-below
returns-then-not-holds-clause-below c = c.no_groups.ensures.below (length c.args.terms.now)

pub returns-in_default : goal.returns-in_default
returns-in_default c =
    let none : [] ≡ given_by c.args.holds (tree_at c.args.terms.now c.args.atom) (seen_branch (tree_at c.args.terms.now) c.args.branch.now).literals = search rules in
    record {
      value = c.no_groups-in_default.ensures.value (tree_at c.args.terms.now) ∙ none;
      below = c.no_groups-in_default.ensures.below (length c.args.terms.now);
    }
