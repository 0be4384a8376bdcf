use Rattle.std.proofs.Common.{◌≡◌, ◌<◌, ◌+◌, ◌∙◌, [], ◌∷◌, length, get_or, nat_eq, rules, arith, ℤ, pos, ◌+ℤ◌, to_z, of_z, sym, ap}
use mir.Syntax.{w128}
use Rattle.std.proofs.lemmas.Int.{ints, to_z-of_z}
use Rattle.std.specs.HashMap.{get}
use Rattle.wy_term.specs.Copying.{Looked}
use Rattle.wy_term.specs.Term.{leaf, int_name, Number}
use Rattle.wy_term.specs.Nodes.{tree_at}
use Rattle.wy_term.specs.Folding.{replaced}
use Rattle.wy_term.specs.Numbers.{IsAt, Keeps}
use Rattle.wy_term.specs.ReplacingView.{seen_pairs, AreBelow, image_at}
use Rattle.wy_term.proofs.NumbersLemmas.{keeps_on, IsAt_kept}
use Rattle.wy_term.proofs.CopyingLemmas.{looked_length}
use Rattle.wy_term.proofs.ReplacingLemmas.{AreBelow_kept, AreMade_kept, popped_below, rest_below, root_made, made_image, made_below, two_below, item_below, body_hidden, body_shown, paired_if, instance_kept, number_is, so_far_more, so_far_last}
use Rattle.wy_term.proofs.replace.+replacing.Goals as goal
use Rattle.wy_term.proofs.replace.+replacing.Goals.{replaced-in-Some+else-t-root+in_ok-note_image, replaced-in_default}

pub instance-returns-clause-value : goal.instance-returns-clause-value
instance-returns-clause-value t c =
    let same : to_z w128 (of_z w128 c.args.number) ≡ c.args.number = grind (arith, ints, to_z-of_z) in
    paired_if c.args.terms.now c.put.new.self c.replaced.new.terms c.args.pairs.now c.deref.result.now c.in_ok-name.name c.in_ok-value.value c.args.q.now.body (leaf (int_name c.args.q.now.word c.args.q.now.number)) (Number c.args.number) c.replaced.result
    (keeps_on _ _ _ c.in_ok-name.ensures.keeps c.in_ok-value.ensures.keeps) c.requires.pairs c.requires.body (c.deref.ensures.value ∙ c.in_ok-inner.ensures.value)
    (IsAt_kept _ _ _ _ c.in_ok-value.ensures.keeps c.in_ok-name.ensures.value).is (c.in_ok-value.ensures.value.is ∙ ap (λ (z : ℤ). Number z) same) c.replaced.ensures.value

pub instance-returns-clause-keeps : goal.instance-returns-clause-keeps
instance-returns-clause-keeps t c = keeps_on _ _ _ (keeps_on _ _ _ c.in_ok-name.ensures.keeps c.in_ok-value.ensures.keeps) c.replaced.ensures.keeps

pub instances-returns-in_err-member-clause-keeps :
    goal.instances-returns-in_err-member-clause-keeps
instances-returns-in_err-member-clause-keeps t c = keeps_on _ _ _ c.loop-k.invariant.keeps c.in_err-member.ensures.keeps

pub instances-returns-in_err-push-clause-keeps : goal.instances-returns-in_err-push-clause-keeps
instances-returns-in_err-push-clause-keeps t c = keeps_on _ _ _ c.loop-k.invariant.keeps c.in_ok-member.ensures.keeps

pub instances-loop-k-preserved : goal.instances-loop-k-preserved
instances-loop-k-preserved t c =
    let at = instance_kept c.args.terms.now c.loop-k.terms c.instance.new.terms c.args.pairs.now c.args.q.now.body c.in_ok-member.member (leaf (int_name c.args.q.now.word c.args.q.now.number)) _ c.loop-k.invariant.keeps c.requires.pairs c.requires.body c.in_ok-member.ensures.value in
    let here = number_is c.instance.new.terms c.in_ok-member.member (replaced (tree_at c.args.terms.now c.args.q.now.body)) (leaf (int_name c.args.q.now.word c.args.q.now.number)) (seen_pairs (tree_at c.args.terms.now) c.args.pairs.now) _ (c.args.range.0 +ℤ pos c.loop-k.k) (search rules) at in
    record {
      so_far = so_far_more c.loop-k.terms c.instance.new.terms c.loop-k.members.items c.push.new.self.items c.in_ok-member.member (replaced (tree_at c.args.terms.now c.args.q.now.body)) (leaf (int_name c.args.q.now.word c.args.q.now.number)) (seen_pairs (tree_at c.args.terms.now) c.args.pairs.now) c.args.range.0 c.loop-k.k c.args.range.1 c.loop-k-test.true c.in_ok-member.ensures.keeps c.loop-k.invariant.below here (search rules) c.loop-k.invariant.so_far;
      below = search rules;
      keeps = keeps_on _ _ _ c.loop-k.invariant.keeps c.in_ok-member.ensures.keeps;
    }

pub instances-returns-clause-value : goal.instances-returns-clause-value
instances-returns-clause-value t c = so_far_last c.loop-k.terms c.loop-k.members.items (replaced (tree_at c.args.terms.now c.args.q.now.body)) (leaf (int_name c.args.q.now.word c.args.q.now.number)) (seen_pairs (tree_at c.args.terms.now) c.args.pairs.now) c.args.range.0 c.loop-k.k c.args.range.1 c.loop-k-test.false c.loop-k.invariant.so_far

pub quantified-with_bounds-requires : goal.quantified-with_bounds-requires
quantified-with_bounds-requires t c =
    let looked : Looked (get nat_eq c.args.made.now) (c.args.q.now.from ∷ c.args.q.now.below ∷ []) c.in-Some.bounds.items = search rules in
    let below = made_below c.args.terms.now c.args.pairs.now (get nat_eq c.args.made.now) (c.args.q.now.from ∷ c.args.q.now.below ∷ []) c.in-Some.bounds.items c.requires.made looked in
    let count = looked_length (get nat_eq c.args.made.now) (c.args.q.now.from ∷ c.args.q.now.below ∷ []) c.in-Some.bounds.items looked in
    let first = item_below (length c.args.terms.now) c.in-Some.bounds.items 0 c.index.result.now below (omega (arith, count)) c.index.ensures in
    let second = item_below (length c.args.terms.now) c.in-Some.bounds.items 1 c.index-in-Some.result.now below (omega (arith, count)) c.index-in-Some.ensures in
    let lt_from : c.args.q.now.from < length c.args.terms.now = omega (arith, c.requires.within, c.requires.parts.from) in
    let lt_below : c.args.q.now.below < length c.args.terms.now = omega (arith, c.requires.within, c.requires.parts.below) in
    let lt_body : c.args.q.now.body < length c.args.terms.now = omega (arith, c.requires.within, c.requires.parts.body) in
    (search rules, (c.requires.within, (lt_body, (first, (second, (c.requires.pairs, (c.looked_up.ensures.todo _ c.requires.within c.requires.todo (two_below _ _ _ lt_from lt_below), c.requires.made)))))))

pub replaced-step-requires : goal.replaced-step-requires
replaced-step-requires t c =
    let root : c.args.root < length c.loop-turn.terms = omega (arith, c.requires.within, c.loop-turn.invariant.keeps.grows) in (
      search rules,
      (
        popped_below (length c.loop-turn.terms) c.args.root c.unwrap_or-t.result c.loop-turn.todo.items c.pop.new.self.items c.pop.result root c.loop-turn.invariant.todo c.pop.ensures.items c.unwrap_or-t.ensures,
        (
          AreBelow_kept c.args.terms.now c.loop-turn.terms c.args.pairs.now c.loop-turn.invariant.keeps c.requires.pairs,
          (
            rest_below (length c.loop-turn.terms) c.loop-turn.todo.items c.pop.new.self.items _ c.loop-turn.invariant.todo c.pop.ensures.items,
            c.loop-turn.invariant.made,
          ),
        ),
      ),
    )

pub replaced-returns-in_err-r-clause-keeps : goal.replaced-returns-in_err-r-clause-keeps
replaced-returns-in_err-r-clause-keeps t c = keeps_on _ _ _ c.loop-turn.invariant.keeps c.in_err-r.ensures.keeps

pub replaced-returns-then-t-root-clause-value : goal.replaced-returns-then-t-root-clause-value
replaced-returns-then-t-root-clause-value t c =
    let at : IsAt c.step.new.terms c.in-Some.r (image_at c.loop-turn.terms c.args.pairs.now c.unwrap_or-t.result) = search rules in
    root_made c.args.terms.now c.loop-turn.terms c.step.new.terms c.args.pairs.now c.unwrap_or-t.result c.args.root c.in-Some.r c.loop-turn.invariant.keeps c.requires.pairs c.requires.within c.if-t-root.true at

pub replaced-returns-then-t-root-clause-keeps : goal.replaced-returns-then-t-root-clause-keeps
replaced-returns-then-t-root-clause-keeps t c = keeps_on _ _ _ c.loop-turn.invariant.keeps c.in_ok-r.ensures.keeps

pub replaced-note_image-requires-clause-within : goal.replaced-note_image-requires-clause-within
replaced-note_image-requires-clause-within t c =
    let root : c.args.root < length c.loop-turn.terms = omega (arith, c.requires.within, c.loop-turn.invariant.keeps.grows) in
    let lt = popped_below (length c.loop-turn.terms) c.args.root c.unwrap_or-t.result c.loop-turn.todo.items c.pop.new.self.items c.pop.result root c.loop-turn.invariant.todo c.pop.ensures.items c.unwrap_or-t.ensures in
    omega (arith, lt, c.in_ok-r.ensures.keeps.grows)

pub replaced-note_image-requires-clause-image : goal.replaced-note_image-requires-clause-image
replaced-note_image-requires-clause-image t c =
    let root : c.args.root < length c.loop-turn.terms = omega (arith, c.requires.within, c.loop-turn.invariant.keeps.grows) in
    let lt = popped_below (length c.loop-turn.terms) c.args.root c.unwrap_or-t.result c.loop-turn.todo.items c.pop.new.self.items c.pop.result root c.loop-turn.invariant.todo c.pop.ensures.items c.unwrap_or-t.ensures in
    let at : IsAt c.step.new.terms c.in-Some.r (image_at c.loop-turn.terms c.args.pairs.now c.unwrap_or-t.result) = search rules in
    made_image c.loop-turn.terms c.step.new.terms c.args.pairs.now c.unwrap_or-t.result c.in-Some.r c.in_ok-r.ensures.keeps (AreBelow_kept c.args.terms.now c.loop-turn.terms c.args.pairs.now c.loop-turn.invariant.keeps c.requires.pairs) lt at

pub replaced-note_image-requires-clause-made : goal.replaced-note_image-requires-clause-made
replaced-note_image-requires-clause-made t c =
    AreMade_kept c.loop-turn.terms c.step.new.terms c.args.pairs.now (get nat_eq c.loop-turn.made) c.in_ok-r.ensures.keeps (AreBelow_kept c.args.terms.now c.loop-turn.terms c.args.pairs.now c.loop-turn.invariant.keeps c.requires.pairs) c.loop-turn.invariant.made

pub replaced-returns-in_err-note_image-clause-keeps :
    goal.replaced-returns-in_err-note_image-clause-keeps
replaced-returns-in_err-note_image-clause-keeps t c = keeps_on _ _ _ c.loop-turn.invariant.keeps c.in_ok-r.ensures.keeps

pub replaced-loop-turn-preserved : goal.replaced-loop-turn-preserved
replaced-loop-turn-preserved t c = record {
  made = elim c.match-branch-2.branch [
    | replaced-in-Some+else-t-root+in_ok-note_image w ↦ rw w.made-is w.in_ok-note_image.ensures.made
    | replaced-in_default w ↦ rw w.made-is (AreMade_kept c.loop-turn.terms c.step.new.terms c.args.pairs.now (get nat_eq c.loop-turn.made) c.in_ok-r.ensures.keeps (AreBelow_kept c.args.terms.now c.loop-turn.terms c.args.pairs.now c.loop-turn.invariant.keeps c.requires.pairs) c.loop-turn.invariant.made)
  ];
  todo = c.in_ok-r.ensures.todo;
  keeps = keeps_on _ _ _ c.loop-turn.invariant.keeps c.in_ok-r.ensures.keeps;
}

pub body_under-returns-in-Ok-clause-value : goal.body_under-returns-in-Ok-clause-value
body_under-returns-in-Ok-clause-value t c =
    let at = c.in-Ok.ensures.value in
    record {
      within = at.within;
      is = at.is ∙ body_hidden c.args.terms.now c.bound_name.new.terms c.args.pairs.now c.deref.result.now c.in_ok-name.name c.args.q.now.body (leaf (int_name c.args.q.now.word c.args.q.now.number)) c.in_ok-name.ensures.keeps c.requires.pairs c.requires.body c.in_ok-name.ensures.value.is (c.deref.ensures.value ∙ c.in_ok-inner.ensures.value) c.if-is_hidden.ensures;
    }

pub body_under-returns-in-Some-clause-value : goal.body_under-returns-in-Some-clause-value
body_under-returns-in-Some-clause-value t c =
    let m = c.requires.made.made c.args.q.now.body c.in-Some.body (sym c.in-Some.ensures) in
    let keeps = c.in_ok-name.ensures.keeps in
    record {
      within = omega (arith, keeps.grows, m.1.within);
      is = keeps.trees c.in-Some.body m.1.within ∙ m.1.is ∙ body_shown c.args.terms.now c.bound_name.new.terms c.args.pairs.now c.in_ok-name.name c.args.q.now.body (leaf (int_name c.args.q.now.word c.args.q.now.number)) keeps c.requires.pairs c.requires.body c.in_ok-name.ensures.value.is c.if-is_hidden.ensures;
    }
