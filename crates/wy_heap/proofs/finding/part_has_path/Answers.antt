use Rattle.std.proofs.Common.{◌≡◌, ◌≤◌, ◌<◌, ◌+◌, ◌∷◌, drop, length, refl, sym, subst, ap, ◌∙◌, rules}
use Rattle.std.proofs.lemmas.List.{drop_more, drop_all}
use Rattle.wy_heap.specs.declared.part.Part.{Part}
use Rattle.wy_heap.specs.declared.part.Slot.{Slot}
use Rattle.wy_heap.specs.Nodes.{map_of}
use Rattle.wy_heap.specs.Meaning.{IsMeant}
use Rattle.wy_heap.specs.Slots.{IsPath}
use Rattle.wy_heap.proofs.RowSlotLemmas.{slot_meant, path_more, path_less}
use Rattle.wy_heap.proofs.finding.part_has_path.Goals as goal

pub loop-i-preserved : goal.loop-i-preserved
loop-i-preserved c =
    let h = c.args.heap.now in
    let at = c.loop-i.at in
    let i = c.loop-i.i in
    let path = c.args.path.now in
    let s = c.slot_at-slot.result in
    let below : i < length path = c.loop-i-test.true in
    let here : drop i path ≡ s ∷ drop (i + 1) path = drop_more path i s below ∙ ap (λ (x : Slot). x ∷ drop (i + 1) path) (sym c.slot_at-slot.ensures) in
    let slot = c.if-not-part_has_slot.ensures.yes refl in
    record {
      meant = subst (IsMeant (map_of h)) (sym c.child-at.ensures) (slot_meant h at s slot);
      back = λ rest.
          c.loop-i.invariant.back
          (subst (IsPath h at) (sym here) (path_more h at s (drop (i + 1) path) slot (subst (λ (p : Part). IsPath h p (drop (i + 1) path)) c.child-at.ensures rest)));
      forth = λ whole.
          subst (λ (p : Part). IsPath h p (drop (i + 1) path)) (sym c.child-at.ensures)
          (path_less h at s (drop (i + 1) path) (subst (IsPath h at) here (c.loop-i.invariant.forth whole)));
    }

pub returns-clause-yes : goal.returns-clause-yes
returns-clause-yes c holds_so =
    let h = c.args.heap.now in
    let i = c.loop-i.i in
    let path = c.args.path.now in
    let past : length path ≤ i = search rules in
    c.loop-i.invariant.back
    (subst (IsPath h c.loop-i.at) (sym (drop_all i path past)) (c.loop-i.invariant.meant.0, c.loop-i.invariant.meant.1, tt))

pub child-at-requires-clause-there : goal.child-at-requires-clause-there
child-at-requires-clause-there c = c.if-not-part_has_slot.ensures.yes refl

pub loop-i-init : goal.loop-i-init
loop-i-init c = record { meant = c.requires.meant; back = λ path. path; forth = λ path. path }
