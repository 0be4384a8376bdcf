use Rattle.std.proofs.Common.{[], length, map, ap}
use Rattle.wy_check_splits.proofs.wy_check_nodes_proofs.BranchLemmas.{bare_put, over_put, pending_put}
use Rattle.wy_check_splits.proofs.wy_check_nodes_proofs.NameLemmas.{NamesOnce, names_once}
use Rattle.wy_check_splits.specs.wy_check_nodes.Seen.{seen_formula}
use Rattle.wy_cong.proofs.GoneLemmas.{known_there, no_longer}
use Rattle.wy_cong.proofs.StandingLemmas.{listed_put}
use Rattle.wy_cong.proofs.walk.list_first.Goals as goal
use Rattle.wy_search_spec.specs.wy_check_spec.judge.Node.{Node}
use Rattle.wy_term.specs.Nodes.{tree_at}

pub returns-clause-value : goal.returns-clause-value
returns-clause-value c =
    let at = tree_at c.args.terms.now in
    let n = length c.args.terms.now in
    let old = c.args.found.now.keys.items in
    let new = c.list.new.set.keys.items in
    let once : NamesOnce at n = names_once at n (λ s t ls lt e. (c.one_number_for_each_term.ensures.one s t ls lt).1 e) in
    listed_put (map (seen_formula at) old) (map (seen_formula at) new) (seen_formula at (c.args.k, c.args.holds))
    (ap (λ (node : Node). node.pending) (pending_put at n once old new [] (c.args.k, c.args.holds) c.requires.listed.over c.requires.listed.bare c.requires.term c.requires.bare c.in_ok-list.ensures.value))

pub returns-clause-known : goal.returns-clause-known
returns-clause-known c = λ un.
    let at = tree_at c.args.terms.now in
    let old = c.args.found.now.keys.items in
    let new = c.list.new.set.keys.items in
    known_there at old new (seen_formula at (c.args.k, c.args.holds)) (returns-clause-value c) (no_longer old new (c.args.k, c.args.holds) _ c.in_ok-list.ensures.value c.in_ok-list.ensures.told un)

pub returns-clause-listed : goal.returns-clause-listed
returns-clause-listed c = record {
  over = over_put (length c.args.terms.now) c.args.found.now.keys.items c.list.new.set.keys.items (c.args.k, c.args.holds) c.requires.listed.over c.requires.term c.in_ok-list.ensures.value;
  bare = bare_put (tree_at c.args.terms.now) c.args.found.now.keys.items c.list.new.set.keys.items (c.args.k, c.args.holds) c.requires.listed.bare c.requires.bare c.in_ok-list.ensures.value;
  set = c.in_ok-list.ensures.set;
}
