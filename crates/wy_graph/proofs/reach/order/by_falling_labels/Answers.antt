use Rattle.std.proofs.Common.{◌≡◌, ◌∙◌, length, rules}
use Rattle.std.proofs.lemmas.List.Sorted.{Contains-permutation, IsNonDecreasingBy-from_sort_by_key, length_permutation}
use Rattle.wy_graph.specs.cycles.Cycles.{label}
use Rattle.wy_graph.proofs.reach_lemmas.OrderLemmas.{falls_when_reversed, numbers_have, stands_in}
use Rattle.wy_graph.proofs.reach.order.by_falling_labels.Goals as goal

pub returns-clause-each : goal.returns-clause-each
returns-clause-each c = λ n lt.
    stands_in c.reverse.new.self.items c.args.count n
    (length_permutation c.sort_unstable_by_key.new.self.items c.reverse.new.self.items c.reverse.ensures.permutation ∙ (length_permutation c.in_ok-order.order.items c.sort_unstable_by_key.new.self.items c.sort_unstable_by_key.ensures.permutation ∙ c.in_ok-order.ensures.count))
    (Contains-permutation c.sort_unstable_by_key.new.self.items c.reverse.new.self.items n c.reverse.ensures.permutation
    (Contains-permutation c.in_ok-order.order.items c.sort_unstable_by_key.new.self.items n c.sort_unstable_by_key.ensures.permutation (numbers_have c.in_ok-order.order.items c.args.count n c.in_ok-order.ensures.count c.in_ok-order.ensures.each lt)))

pub returns-clause-falls : goal.returns-clause-falls
returns-clause-falls c =
    let same : length c.reverse.new.self.items ≡ length c.sort_unstable_by_key.new.self.items = length_permutation c.sort_unstable_by_key.new.self.items c.reverse.new.self.items c.reverse.ensures.permutation in
    falls_when_reversed c.args.labels.now c.sort_unstable_by_key.new.self.items c.reverse.new.self.items _ c.sort_unstable_by_key.new.self.ok.0 same c.reverse.ensures.by_index
    (IsNonDecreasingBy-from_sort_by_key (label c.args.labels.now) _ c.sort_unstable_by_key.ensures.sorted (λ a r q k. search rules))
