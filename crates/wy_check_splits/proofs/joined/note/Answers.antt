use Rattle.std.proofs.Common.{◌≡◌, ◌<◌, ◌∷◌, [], length, rules, refl}
use Rattle.std.specs.HashSet.{contains}
use Rattle.wy_check_nodes.specs.wy_term.Term.{two, equal, at_most, part, no_parts}
use Rattle.wy_check_nodes.specs.wy_term.Nodes.{plain, tree_at}
use Rattle.wy_check_splits.specs.Joined.{same_pair}
use Rattle.wy_check_splits.proofs.JoinedLemmas.{Forward, forward, two_below, pair_put, pair_kept}
use Rattle.wy_check_splits.proofs.joined.note.Goals as goal

pub returns-in_ok-insert-in-Equal : goal.returns-in_ok-insert-in-Equal
returns-in_ok-insert-in-Equal c =
    let at = tree_at c.args.terms.now in
    let n = length c.args.terms.now in
    let a = c.in-Equal.v in
    let b = c.in-Equal.w in
    let once : Forward at n = forward at n (λ s t ls lt e. (c.one_number_for_each_term.ensures.one s t ls lt).1 e) in
    let tree : at c.args.atom ≡ two equal (at a) (at b) = search rules in
    let parts : (plain c.node.result.now).parts ≡ a ∷ b ∷ [] = search rules in
    let low : (a < n) × (b < n) = two_below c.args.atom n a b (plain c.node.result.now).parts c.node.ensures.within c.requires parts in
    record {
      equations = λ v w lv lw. pair_put at n once equal refl a b v w (at c.args.atom) (contains same_pair c.args.joined.now.equations (v, w)) (contains same_pair c.insert.new.self (v, w)) low.0 low.1 lv lw tree (c.in_ok-insert-in-Equal.ensures.updates.0 (v, w));
      bounds = λ s t ls lt. pair_kept at_most equal (part (at a) (part (at b) no_parts)) (at c.args.atom) (at s) (at t) (contains same_pair c.args.joined.now.bounds (s, t)) tree refl;
    }

pub returns-in_ok-insert-in-AtMost : goal.returns-in_ok-insert-in-AtMost
returns-in_ok-insert-in-AtMost c =
    let at = tree_at c.args.terms.now in
    let n = length c.args.terms.now in
    let a = c.in-AtMost.s in
    let b = c.in-AtMost.t in
    let once : Forward at n = forward at n (λ s t ls lt e. (c.one_number_for_each_term.ensures.one s t ls lt).1 e) in
    let tree : at c.args.atom ≡ two at_most (at a) (at b) = search rules in
    let parts : (plain c.node.result.now).parts ≡ a ∷ b ∷ [] = search rules in
    let low : (a < n) × (b < n) = two_below c.args.atom n a b (plain c.node.result.now).parts c.node.ensures.within c.requires parts in
    record {
      equations = λ v w lv lw. pair_kept equal at_most (part (at a) (part (at b) no_parts)) (at c.args.atom) (at v) (at w) (contains same_pair c.args.joined.now.equations (v, w)) tree refl;
      bounds = λ s t ls lt. pair_put at n once at_most refl a b s t (at c.args.atom) (contains same_pair c.args.joined.now.bounds (s, t)) (contains same_pair c.insert-in-AtMost.new.self (s, t)) low.0 low.1 ls lt tree (c.in_ok-insert-in-AtMost.ensures.updates.0 (s, t));
    }
