use Rattle.std.proofs.Common.{◌≡◌, ℕ, None, sym, ◌∙◌, subst, arith, rules, ap}
use Rattle.std.specs.Int.{w128}
use Rattle.std.proofs.lemmas.Int.{to_z-of_z}
use mir.Val.{SFits}
use Rattle.wy_heap.specs.Nodes.{map_of}
use Rattle.wy_heap.specs.Meaning.{Means}
use Rattle.wy_heap.specs.Slots.{child, item_at, part_at}
use Rattle.wy_mach.proofs.ItemLemmas.{item_there, item_within, item_somewhere, same_pos}
use Rattle.wy_heap.specs.Parts.{IsBelow}
use Rattle.wy_mach.proofs.ShareLemmas.{same_part, no_part}
use Rattle.wy_mach.proofs.items.second_item.Goals as goal

pub returns-in_default-clause-stop : goal.returns-in_default-clause-stop
returns-in_default-clause-stop c stuck i e there_is =
    let none : c.items.result ≡ None = search rules in
    item_somewhere c.args.heap.now c.args.place.now i (λ d means. sym none ∙ c.items.ensures d means) there_is

pub returns-in_default-index_in-clause-stop : goal.returns-in_default-index_in-clause-stop
returns-in_default-index_in-clause-stop c stuck i e there_is =
    let fits : SFits w128 c.args.number = search rules in
    omega (arith, c.in_default-index_in.ensures i (to_z-of_z w128 c.args.number fits ∙ e), item_within c.args.heap.now c.args.place.now c.in-Some.count i (λ d means. sym c.in-Some.is ∙ c.items.ensures d means) there_is)

pub get-requires-clause-there : goal.get-requires-clause-there
get-requires-clause-there c =
    item_there c.args.heap.now c.args.place.now c.requires.held.0 c.in-Some.count c.in-Some-index_in.index c.requires.held.1 (λ d means. sym c.in-Some.is ∙ c.items.ensures d means) c.in-Some-index_in.ensures.1

pub returns-in-Ok-clause-there : goal.returns-in-Ok-clause-there
returns-in-Ok-clause-there c =
    let fits : SFits w128 c.args.number = search rules in (
      c.in-Some-index_in.index,
      sym (to_z-of_z w128 c.args.number fits) ∙ c.in-Some-index_in.ensures.0,
      item_there c.args.heap.now c.args.place.now c.requires.held.0 c.in-Some.count c.in-Some-index_in.index c.requires.held.1 (λ d means. sym c.in-Some.is ∙ c.items.ensures d means) c.in-Some-index_in.ensures.1,
    )

pub returns-in-Ok-clause-value : goal.returns-in-Ok-clause-value
returns-in-Ok-clause-value c i d e means =
    let fits : SFits w128 c.args.number = search rules in
    subst (λ (j : ℕ). Means (map_of c.get.new.self) (child d (item_at j)) c.in-Ok.made) (same_pos c.in-Some-index_in.index i (sym c.in-Some-index_in.ensures.0 ∙ to_z-of_z w128 c.args.number fits ∙ e)) (c.in-Ok.ensures.value d means)

pub returns-in-Ok-clause-below : goal.returns-in-Ok-clause-below
returns-in-Ok-clause-below c i e under =
    let h = c.args.heap.now in
    let p = c.args.place.now in
    let fits : SFits w128 c.args.number = search rules in
    let at : c.in-Some-index_in.index ≡ i = same_pos c.in-Some-index_in.index i (sym c.in-Some-index_in.ensures.0 ∙ to_z-of_z w128 c.args.number fits ∙ e) in
    let told = c.get.ensures.below (subst (λ (j : ℕ). IsBelow h h.cap (part_at (map_of h) p (item_at j))) (sym at) under) in
    (same_part c.in-Ok.made (part_at (map_of h) p (item_at c.in-Some-index_in.index)) c.get.result c.in-Ok.is told.0 ∙ ap (λ (j : ℕ). part_at (map_of h) p (item_at j)) at, told.1, told.2)

pub returns-in-Err-clause-memory : goal.returns-in-Err-clause-memory
returns-in-Err-clause-memory c none i e under =
    let h = c.args.heap.now in
    let p = c.args.place.now in
    let fits : SFits w128 c.args.number = search rules in
    let at : c.in-Some-index_in.index ≡ i = same_pos c.in-Some-index_in.index i (sym c.in-Some-index_in.ensures.0 ∙ to_z-of_z w128 c.args.number fits ∙ e) in
    let told = c.get.ensures.below (subst (λ (j : ℕ). IsBelow h h.cap (part_at (map_of h) p (item_at j))) (sym at) under) in
    no_part c.in-Err.field-0 (part_at (map_of h) p (item_at c.in-Some-index_in.index)) c.get.result c.in-Err.is told.0
