use Rattle.std.proofs.Common.{◌≡◌, ◌-◌, ◌<◌, length, take, drop, map, All, subst, sym, refl, arith, rules, string_bytes}
use Rattle.std.proofs.lemmas.Grind.{common_steps}
use Rattle.wy_term.specs.Nodes.{tree_at}
use Rattle.wy_term_text.proofs.show_lemmas.TextLemmas.{fields_turn, push_below, field_below}
use Rattle.wy_term_text.proofs.show.fields_of.Goals as goal

pub loop-field-preserved : goal.loop-field-preserved
loop-field-preserved c =
    let lt : c.loop-field.field-index < length (take (length c.as_slice.result.now - 1) (drop 1 c.as_slice.result.now)) = first_of (search rules, omega arith) in
    let all : All (λ k. k < length c.args._terms.now) (map (λ p. p.1) c.as_slice.result.now) = subst (λ fs. All (λ k. k < length c.args._terms.now) (map (λ p. p.1) fs)) (sym c.as_slice.ensures.value) c.requires in
    let small : c.field-item.result.1 < length c.args._terms.now = field_below (length c.args._terms.now) (length c.as_slice.result.now - 1) c.as_slice.result.now c.loop-field.field-index c.field-item.result all lt c.field-item.is in
    let name : string_bytes c.in_ok-from_str-in-len1-up-2.field-0 ≡ c.field-item.result.0 = first_of (search rules, cc, grind (arith, common_steps)) in
    record {
      so_far = fields_turn (tree_at c.args._terms.now) (take (length c.as_slice.result.now - 1) (drop 1 c.as_slice.result.now)) c.loop-field.field-index c.field-item.result
          c.loop-field.pieces.items c.push-in-loop-field.new.self.items c.push-in-loop-field-2.new.self.items c.push-in-loop-field-3.new.self.items c.push-in-loop-field-4.new.self.items _ _ _ _ _
          c.in_ok-push-in-len1-up-4.ensures.items c.in_ok-push-in-len1-up-5.ensures.items c.in_ok-push-in-len1-up-6.ensures.items c.in_ok-push-in-len1-up-7.ensures.items
          lt c.field-item.is refl name refl refl c.loop-field.invariant.so_far;
      below = push_below (length c.args._terms.now) c.push-in-loop-field-3.new.self.items c.push-in-loop-field-4.new.self.items _ c.in_ok-push-in-len1-up-7.ensures.items
          (push_below (length c.args._terms.now) c.push-in-loop-field-2.new.self.items c.push-in-loop-field-3.new.self.items _ c.in_ok-push-in-len1-up-6.ensures.items
          (push_below (length c.args._terms.now) c.push-in-loop-field.new.self.items c.push-in-loop-field-2.new.self.items _ c.in_ok-push-in-len1-up-5.ensures.items
          (push_below (length c.args._terms.now) c.loop-field.pieces.items c.push-in-loop-field.new.self.items _ c.in_ok-push-in-len1-up-4.ensures.items c.loop-field.invariant.below tt) tt) tt) small;
    }
