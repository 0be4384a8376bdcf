use Rattle.std.proofs.Common.{◌≡◌, ◌∙◌, ℕ, List, sym, ap, subst}
use Rattle.wy_graph.specs.declared.closure.clauses.Clause.{Clause}
use Rattle.wy_graph.specs.closure.Closure.{HaveHeads, IsClosed, IsReached}
use Rattle.wy_graph.specs.cycles.Ancestors.{clauses_to, how_many, CountsAncestors}
use Rattle.wy_graph.proofs.cycles_lemmas.AncestorLemmas.{heads, counted}
use Rattle.wy_graph.proofs.cycles.ancestors.ancestors.Goals as goal

pub close-requires : goal.close-requires
close-requires c =
    let is : c.as_slice.result.now ≡ clauses_to c.args.arrows.now c.args.node = c.as_slice.ensures.value ∙ c.in_ok-clauses.ensures.value in
    record { heads = subst (λ (cs : List Clause). HaveHeads c.args.count cs) (sym is) (heads c.args.arrows.now c.args.count c.args.node c.requires.ends c.requires.node) }

pub returns : goal.returns
returns c =
    let arrows = c.args.arrows.now in
    let marks = c.in_ok-marks.marks in
    let is : c.as_slice.result.now ≡ clauses_to arrows c.args.node = c.as_slice.ensures.value ∙ c.in_ok-clauses.ensures.value in
    let reached : IsReached (clauses_to arrows c.args.node) marks = subst (λ (cs : List Clause). IsReached cs marks) is c.in_ok-marks.ensures.reached in
    let closed : IsClosed (clauses_to arrows c.args.node) marks = subst (λ (cs : List Clause). IsClosed cs marks) is c.in_ok-marks.ensures.closed in
    let number : c.how_many.result ≡ how_many marks = c.how_many.ensures.value ∙ ap how_many c.as_slice-2.ensures in
    record {
      value = subst (λ (n : ℕ). CountsAncestors arrows c.args.count c.args.node n) (sym number) (counted arrows c.args.count c.args.node marks c.in_ok-marks.ensures.count reached closed);
    }
