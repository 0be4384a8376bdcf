use Rattle.std.proofs.Common.{◌≡◌, ◌∙◌, ◌≤◌, length, arith, ap, option_map, rules, subst}
use Rattle.wy_cong.proofs.DecidingLemmas.{same_again, same_self, seen_same}
use Rattle.wy_cong.proofs.NearestLemmas.{below_found, nearest_begin, nearest_end, nearest_next}
use Rattle.wy_cong.proofs.UnmetLemmas.{within_at}
use Rattle.wy_cong.proofs.choice.first_forced.Goals as goal
use Rattle.wy_cong.specs.Reached.{IsNearer}
use Rattle.wy_search_spec.specs.wy_check_spec.judge.Node.{Node}
use Rattle.wy_check_splits.specs.wy_check_nodes.Seen.{seen_branch}
use Rattle.wy_term.specs.Nodes.{tree_at}

pub loop-i-init : goal.loop-i-init
loop-i-init c =
    let at = tree_at c.args.terms.now in
    let many : c.len-place.result ≡ length c.args.found.now.list.items = search rules in
    record {
      so = nearest_begin at (seen_branch at c.args.branch.now) c.args.found.now.list.items c.args.left.now c.len-place.result c.requires.plain c.requires.left many;
      same = same_self c.args.branch.now;
      branch = c.requires.branch;
    }

pub nearer-requires-clause-within : goal.nearer-requires-clause-within
nearer-requires-clause-within c = within_at (length c.args.terms.now) c.args.left.now c.loop-i.i c.unmet_at-unmet.result c.requires.within c.unmet_at-unmet.ensures

pub loop-i-preserved : goal.loop-i-preserved
loop-i-preserved c =
    let at = tree_at c.args.terms.now in
    let near : IsNearer at (seen_branch at c.args.branch.now) c.args.found.now.list.items c.unmet_at-unmet.result c.loop-i.place c.in_ok-place.place =
    subst (λ (m : Node). IsNearer at m c.args.found.now.list.items c.unmet_at-unmet.result c.loop-i.place c.in_ok-place.place) (seen_same at c.args.branch.now c.loop-i.branch c.loop-i.invariant.same) c.in_ok-place.ensures.value in
    record {
      so = nearest_next at (seen_branch at c.args.branch.now) c.args.found.now.list.items c.args.left.now c.loop-i.i c.unmet_at-unmet.result c.loop-i.place c.in_ok-place.place c.unmet_at-unmet.ensures near c.loop-i.invariant.so;
      same = same_again c.args.branch.now c.loop-i.branch c.nearer.new.branch c.loop-i.invariant.same c.in_ok-place.ensures.same;
      branch = c.in_ok-place.ensures.branch;
    }

pub returns-clause-value : goal.returns-clause-value
returns-clause-value c =
    let at = tree_at c.args.terms.now in
    let le : length c.args.left.now ≤ c.loop-i.i = omega (arith, c.loop-i-test.false) in
    ap (option_map at) (c.atom_if_there.ensures)
    ∙ nearest_end at (seen_branch at c.args.branch.now) c.args.found.now.list.items c.args.left.now c.loop-i.i c.loop-i.place le c.loop-i.invariant.so

pub returns-clause-below : goal.returns-clause-below
returns-clause-below c = below_found (length c.args.terms.now) c.args.found.now.list.items c.loop-i.place c.atom_if_there.result c.requires.found.below (c.atom_if_there.ensures)
