use Rattle.std.proofs.Common.{◌-◌, ◌<◌, length, take, drop, get_or, refl, arith, rules}
use Rattle.wy_term.specs.Nodes.{tree_at}
use Rattle.wy_term_text.proofs.show_lemmas.TextLemmas.{terms_turn, push_below, rest_below}
use Rattle.wy_term_text.proofs.show.neighbours.Goals as goal

pub loop-part-preserved : goal.loop-part-preserved
loop-part-preserved c =
    let lt : c.loop-part.part-index < length (take (length c.args.parts.now - 1) (drop 1 c.args.parts.now)) = first_of (search rules, omega arith) in
    let small : get_or (take (length c.args.parts.now - 1) (drop 1 c.args.parts.now)) c.loop-part.part-index 0 < length c.args._terms.now =
    rest_below (length c.args._terms.now) (length c.args.parts.now - 1) c.args.parts.now c.loop-part.part-index c.requires lt in
    record {
      so_far = terms_turn (tree_at c.args._terms.now) c.args.sep.now (take (length c.args.parts.now - 1) (drop 1 c.args.parts.now)) c.loop-part.part-index c.loop-part.pieces.items c.push-in-loop-part.new.self.items c.push-in-loop-part-2.new.self.items _ _ _
          c.in_ok-push-in-len1-up-2.ensures.items c.in_ok-push-in-len1-up-3.ensures.items lt refl refl c.loop-part.invariant.so_far;
      below = push_below (length c.args._terms.now) c.push-in-loop-part.new.self.items c.push-in-loop-part-2.new.self.items _ c.in_ok-push-in-len1-up-3.ensures.items
          (push_below (length c.args._terms.now) c.loop-part.pieces.items c.push-in-loop-part.new.self.items _ c.in_ok-push-in-len1-up-2.ensures.items c.loop-part.invariant.below tt) small;
    }
