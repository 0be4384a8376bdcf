use Rattle.std.proofs.Common.{◌∙◌, ℕ, List, [], map, length, sym, ap, subst, arith}
use Rattle.wy_search_facts.specs.wy_check_spec.judge.Node.{Node}
use Rattle.wy_check_nodes.specs.Seen.{seen_branch, AreBelow}
use Rattle.wy_search.proofs.SpotLemmas.{copy_over, made_spot, same_node}
use Rattle.wy_search.proofs.turning.begun_spot.Goals as goal

pub returns-clause-seen : goal.returns-clause-seen
returns-clause-seen c = λ at.
    let copy = c.in_ok-branch.branch in
    ap (λ (n : Node). made_spot n (seen_branch at c.bare.result).literals (map at c.new.result.items) 0) (same_node at c.args.branch.now copy c.in_ok-branch.ensures.literals c.in_ok-branch.ensures.pending)
    ∙ (ap (λ (n : Node). made_spot (seen_branch at c.args.branch.now) n.literals (map at c.new.result.items) 0) (c.bare.ensures.value at)
    ∙ ap (λ (ks : List ℕ). made_spot (seen_branch at c.args.branch.now) [] (map at ks) 0) c.new.ensures.items)

pub returns-clause-spot : goal.returns-clause-spot
returns-clause-spot c = λ nodes is.
    let n = length nodes in
    let nothing : AreBelow n [] = λ k d lt. absurd (omega (arith, lt)) in
    record {
      branch = copy_over nodes c.args.branch.now c.in_ok-branch.branch c.in_ok-branch.ensures.literals c.in_ok-branch.ensures.pending is;
      had = c.bare.ensures.branch nodes;
      names = subst (AreBelow n) (sym c.new.ensures.items) nothing;
    }
