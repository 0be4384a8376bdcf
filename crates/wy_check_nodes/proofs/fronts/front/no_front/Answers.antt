use Rattle.std.proofs.Common.{◌∙◌, ℕ, List, [], map, length, sym, ap, subst, arith}
use Rattle.wy_check_nodes.specs.declared.fronts.front.Size.{Size}
use Rattle.wy_check_nodes.specs.fronts.Front.{AreMade}
use Rattle.wy_check_spec.specs.judge.Node.{bare, with_formulas}
use Rattle.wy_check_nodes.specs.Seen.{AreBelow}
use Rattle.wy_check_spec.specs.wy_term.Nodes.{tree_at}
use Rattle.wy_check_nodes.proofs.fronts.front.no_front.Goals as goal

pub returns : goal.returns
returns c = λ nodes.
    let at = tree_at nodes in
    let ls = c.bare.result.literals.keys in
    let ps = c.bare.result.pending.keys in
    let nothing : AreBelow (length nodes) [] = λ i d lt. absurd (omega (arith, lt)) in
    record {
      branch = c.bare.ensures.branch nodes;
      hyps = subst (AreBelow (length nodes)) (sym c.new.ensures.items) nothing;
      count = ap length c.new.ensures.items ∙ sym (ap length c.new-2.ensures.items);
      made = subst (λ (ss : List Size). AreMade at ls ps c.new.result.items ss) (sym c.new-2.ensures.items) (c.bare.ensures.value at ∙ ap (λ (hs : List ℕ). with_formulas bare (map at hs)) (sym c.new.ensures.items));
    }
