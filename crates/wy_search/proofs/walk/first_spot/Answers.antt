use Rattle.std.proofs.Common.{◌∙◌, ℕ, List, [], map, length, sym, ap, subst, arith}
use Rattle.wy_term.specs.Nodes.{tree_at}
use Rattle.wy_term.specs.Condition.{condition_of}
use Rattle.wy_search_facts.specs.wy_check_spec.judge.Node.{Node, first_node}
use Rattle.wy_check_nodes.specs.Seen.{seen_branch, AreBelow}
use Rattle.wy_search.proofs.SpotLemmas.{made_spot}
use Rattle.wy_search.proofs.walk.first_spot.Goals as goal

pub returns-clause-value : goal.returns-clause-value
returns-clause-value c =
    let at = tree_at c.args.terms.now in
    let first = first_node (condition_of c.args.terms.now c.args.cond.now) in
    ap (λ (n : Node). made_spot n (seen_branch at c.bare.result).literals (map at c.new.result.items) 0) c.in_ok-branch.ensures.value
    ∙ (ap (λ (n : Node). made_spot first n.literals (map at c.new.result.items) 0) (c.bare.ensures.value at)
    ∙ ap (λ (ks : List ℕ). made_spot first [] (map at ks) 0) c.new.ensures.items)

pub returns-clause-spot : goal.returns-clause-spot
returns-clause-spot c =
    let n = length c.args.terms.now in
    let nothing : AreBelow n [] = λ k d lt. absurd (omega (arith, lt)) in
    record {
      branch = c.in_ok-branch.ensures.branch;
      had = c.bare.ensures.branch c.args.terms.now;
      names = subst (AreBelow n) (sym c.new.ensures.items) nothing;
    }
