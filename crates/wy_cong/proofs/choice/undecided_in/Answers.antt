use Rattle.std.proofs.Common.{◌≡◌, ◌∙◌, false, true, length, rules, sym}
use Rattle.wy_check_splits.specs.wy_check_nodes.Seen.{seen_branch}
use Rattle.wy_cong.proofs.FirstLemmas.{below_at, passes_here, passes_later}
use Rattle.wy_cong.proofs.choice.undecided_in.Goals as goal
use Rattle.wy_cong.specs.Once.{undecided}
use Rattle.wy_term.specs.Nodes.{tree_at}

pub is_undecided-requires-clause-atom : goal.is_undecided-requires-clause-atom
is_undecided-requires-clause-atom c = below_at (length c.args.terms.now) c.args.found.now.list.items c.loop-i.i c.atom_at-a.result c.requires.found.below c.atom_at-a.ensures

pub returns-then-is_undecided : goal.returns-then-is_undecided
returns-then-is_undecided c =
    let at = tree_at c.args.terms.now in
    let node = seen_branch at c.args.branch.now in
    let up : c.is_undecided.result ≡ true = search rules in
    record {
      value = passes_here (undecided node) at c.args.found.now.list.items c.loop-i.i c.atom_at-a.result _ c.atom_at-a.ensures c.loop-i.invariant (sym c.is_undecided.ensures.value ∙ up);
      below = below_at (length c.args.terms.now) c.args.found.now.list.items c.loop-i.i c.atom_at-a.result c.requires.found.below c.atom_at-a.ensures;
    }

pub loop-i-preserved : goal.loop-i-preserved
loop-i-preserved c =
    let at = tree_at c.args.terms.now in
    let node = seen_branch at c.args.branch.now in
    let un : c.is_undecided.result ≡ false = search rules in
    passes_later (undecided node) at c.args.found.now.list.items c.loop-i.i c.atom_at-a.result _ c.atom_at-a.ensures c.loop-i.invariant (sym c.is_undecided.ensures.value ∙ un)
