use Rattle.std.proofs.Common.{◌≡◌, ◌≤◌, ℕ, List, length, sym, ap, subst, ◌∙◌, arith}
use Rattle.wy_graph.specs.closure.Index.{IsIndex, with_all}
use Rattle.wy_graph.proofs.closure_lemmas.IndexLemmas.{all_done, all_index, length_all}
use Rattle.wy_graph.proofs.closure.index.index_of.Goals as goal

pub returns-clause-count : goal.returns-clause-count
returns-clause-count c =
    let cs = c.args.clauses.now in
    let first = c.in_ok-asking.asking.items in
    let le : length cs ≤ c.loop-number.number = omega arith in
    let e : c.loop-number.asking.items ≡ with_all first cs 0 = all_done first c.loop-number.asking.items cs c.loop-number.number le c.loop-number.invariant.value in
    ap length e ∙ length_all first cs 0 ∙ c.in_ok-asking.ensures.count

pub returns-clause-index : goal.returns-clause-index
returns-clause-index c =
    let cs = c.args.clauses.now in
    let first = c.in_ok-asking.asking.items in
    let le : length cs ≤ c.loop-number.number = omega arith in
    let e : c.loop-number.asking.items ≡ with_all first cs 0 = all_done first c.loop-number.asking.items cs c.loop-number.number le c.loop-number.invariant.value in
    subst (λ (l : List (List ℕ)). IsIndex cs l) (sym e) (all_index first cs)
