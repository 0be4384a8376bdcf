use Rattle.std.proofs.Common.{◌≡◌, true, map, ℕ}
use Rattle.wy_ast.specs.SurfaceSeen.{seen_decl}
use Rattle.wy_names_recursion.specs.Endings.{is_settled}
use Rattle.wy_graph.proofs.cycles_lemmas.CycleLemmas.{below_more}
use Rattle.wy_names_recursion.proofs.positions.each_settled.Goals as goal

pub loop-index-preserved : goal.loop-index-preserved
loop-index-preserved c =
    let P = is_settled (map seen_decl c.args.decls.now) c.args.edges.now c.args.candidate.now.order c.args.candidate.now.positions c.args.candidate.now.witnesses in
    let here : P c.loop-index.index ≡ true = cc (c.if-not-is_settled.false, c.if-not-is_settled.ensures.value, c.is_settled.ensures.value) in
    below_more P c.loop-index.index c.loop-index.invariant here
