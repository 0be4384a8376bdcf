use Rattle.std.proofs.Common.{◌≡◌, ◌<◌, ◌*◌, ◌++◌, ◌∷◌, [], Option, option_to_list, sym, subst, ap, ◌∙◌, arith}
use Rattle.wy_heap.specs.Nodes.{map_of}
use Rattle.wy_heap.specs.Weighing.{weight}
use Rattle.wy_heap.specs.Comparing.{Pair, Same, SameFrom, AreSame, ArePairs, pair_work, pair_works, Compares}
use Rattle.wy_heap.proofs.CompareLemmas.{same_from, same_end, pairs_end, turn_back, turn_forth, turn_pairs, turn_less}
use Rattle.wy_heap.proofs.heap.Heap.compared.Goals as goal

pub returns-then-not-branch : goal.returns-then-not-branch
returns-then-not-branch c d e first second same =
    let m = map_of c.args.self.now in
    let never = subst (Compares m (Same m c.args.a c.args.b) (2 * weight m c.args.a) c.new-todo.result.items c.alike.new.todo.items) c.if-not-branch.true c.in_ok-alike.ensures in
    never (same_from m d e c.args.a c.args.b first second same)

pub next_alike-requires-clause-pair : goal.next_alike-requires-clause-pair
next_alike-requires-clause-pair c =
    let m = map_of c.args.self.now in
    let pair : Pair = (c.in-Some.left, c.in-Some.right, c.in-Some.place) in
    let old = c.pop.new.self.items in
    let popped : c.pairs.todo.items ≡ old ++ pair ∷ [] = c.pop.ensures.items ∙ ap (λ (r : Option Pair). old ++ option_to_list r) c.in-Some.is in
    (pairs_end m old (pair ∷ []) (subst (ArePairs m) popped c.pairs.invariant.pairs)).0

pub returns-then-not-branch-2 : goal.returns-then-not-branch-2
returns-then-not-branch-2 c d e first second same =
    let m = map_of c.args.self.now in
    let pair : Pair = (c.in-Some.left, c.in-Some.right, c.in-Some.place) in
    let old = c.pop.new.self.items in
    let popped : c.pairs.todo.items ≡ old ++ pair ∷ [] = c.pop.ensures.items ∙ ap (λ (r : Option Pair). old ++ option_to_list r) c.in-Some.is in
    let leaves = subst (Compares m (SameFrom m pair) (pair_work m pair) old c.next_alike.new.todo.items) c.if-not-branch-2.true c.in_ok-next_alike.ensures in
    leaves (same_end m old (pair ∷ []) (subst (AreSame m) popped (c.pairs.invariant.forth (same_from m d e c.args.a c.args.b first second same)))).0

pub pairs-smaller : goal.pairs-smaller
pairs-smaller c =
    let m = map_of c.args.self.now in
    let pair : Pair = (c.in-Some.left, c.in-Some.right, c.in-Some.place) in
    let old = c.pop.new.self.items in
    let popped : c.pairs.todo.items ≡ old ++ pair ∷ [] = c.pop.ensures.items ∙ ap (λ (r : Option Pair). old ++ option_to_list r) c.in-Some.is in
    let leaves = subst (Compares m (SameFrom m pair) (pair_work m pair) old c.next_alike.new.todo.items) c.if-not-branch-2.false c.in_ok-next_alike.ensures in
    let less : pair_works m c.next_alike.new.todo.items < pair_works m c.pairs.todo.items =
    omega (arith, turn_less m old c.next_alike.new.todo.items pair leaves, ap (pair_works m) popped) in
    less

pub pairs-preserved : goal.pairs-preserved
pairs-preserved c =
    let m = map_of c.args.self.now in
    let pair : Pair = (c.in-Some.left, c.in-Some.right, c.in-Some.place) in
    let old = c.pop.new.self.items in
    let popped : c.pairs.todo.items ≡ old ++ pair ∷ [] = c.pop.ensures.items ∙ ap (λ (r : Option Pair). old ++ option_to_list r) c.in-Some.is in
    let leaves = subst (Compares m (SameFrom m pair) (pair_work m pair) old c.next_alike.new.todo.items) c.if-not-branch-2.false c.in_ok-next_alike.ensures in
    record {
      back = turn_back m old c.next_alike.new.todo.items pair (Same m c.args.a c.args.b) leaves (λ all. c.pairs.invariant.back (subst (AreSame m) (sym popped) all));
      forth = λ same. turn_forth m old c.next_alike.new.todo.items pair leaves (subst (AreSame m) popped (c.pairs.invariant.forth same));
      pairs = turn_pairs m old c.next_alike.new.todo.items pair leaves (subst (ArePairs m) popped c.pairs.invariant.pairs);
    }
