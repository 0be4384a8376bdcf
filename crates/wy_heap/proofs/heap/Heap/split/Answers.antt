use Rattle.std.proofs.Common.{◌≡◌, ◌≤◌, ◌∷◌, ℕ, List, None, sym, subst, ap, ◌∙◌, arith}
use Rattle.wy_heap.specs.declared.part.Part.{Part}
use Rattle.wy_heap.specs.declared.part.Part.TheVariants.{Key}
use Rattle.wy_heap.specs.Nodes.{form_of, parts_in, count_at}
use Rattle.wy_heap.specs.Standing.{Counts}
use Rattle.wy_heap.specs.Freeing.{Frees}
use Rattle.wy_heap.specs.Changing.{AreThere, Joins}
use Rattle.wy_heap.specs.Copying.{raised}
use Rattle.wy_heap.proofs.SlotLemmas.{body-node}
use Rattle.wy_heap.proofs.LeadLemmas.{counted_freeing}
use Rattle.wy_heap.proofs.WriteLemmas.{node_parts_there}
use Rattle.wy_heap.proofs.SplitLemmas.{split_slot, split_counts, split_splits, let_go_counts, many_still}
use Rattle.wy_heap.proofs.heap.Heap.split.Goals as goal

pub can_hold_all-requires : goal.can_hold_all-requires
can_hold_all-requires c =
    let h = c.args.self.now in
    let n = c.index.result.now in
    let words : c.deref.result.now ≡ n.parts.items = c.deref.ensures.value ∙ c.in_ok-words.ensures ∙ ap parts_in (body-node h c.args.key n c.index.ensures) in
    subst (AreThere h) (sym words) (node_parts_there h c.requires.held.0 c.args.key _ c.requires.held.1 (body-node h c.args.key n c.index.ensures))

pub join-requires-clause-there : goal.join-requires-clause-there
join-requires-clause-there c =
    let h = c.args.self.now in
    let n = c.index.result.now in
    let words : c.in_ok-words.words.items ≡ n.parts.items = c.in_ok-words.ensures ∙ ap parts_in (body-node h c.args.key n c.index.ensures) in
    subst (AreThere h) (sym words) (node_parts_there h c.requires.held.0 c.args.key _ c.requires.held.1 (body-node h c.args.key n c.index.ensures))

pub let_go-none-requires : goal.let_go-none-requires
let_go-none-requires c =
    let h = c.args.self.now in
    let h1 = c.join.new.self in
    let h2 = c.swap-out.new.self in
    let n = c.index.result.now in
    let words : c.in_ok-words.words.items ≡ n.parts.items = c.in_ok-words.ensures ∙ ap parts_in (body-node h c.args.key n c.index.ensures) in
    let joins = subst (Joins h h1 c.in_ok-copy.copy (form_of h.shapes n.shape)) words c.in_ok-copy.ensures.joins in
    let held = c.requires.held in
    let out : c.swap-out.result ≡ Key c.args.key = c.swap-out.ensures.out ∙ split_slot h h1 h2 c.args.node c.args.place c.args.key c.in_ok-copy.copy n c.index.ensures joins c.requires.there c.requires.part c.swap-out.ensures.swaps in (
      held.0,
      subst (λ (p : Part). Frees h2 None (p ∷ held.0)) (sym out)
          (counted_freeing h2 (Key c.args.key ∷ held.0) (split_counts h h1 h2 c.args.node c.args.place c.args.key c.in_ok-copy.copy n c.index.ensures joins c.requires.there c.requires.part c.swap-out.ensures.swaps held.0 held.1)),
    )

pub returns-clause-splits : goal.returns-clause-splits
returns-clause-splits c =
    let h = c.args.self.now in
    let h1 = c.join.new.self in
    let h2 = c.swap-out.new.self in
    let h3 = c.let_go-none.new.self in
    let key = c.args.key in
    let n = c.index.result.now in
    let words : c.in_ok-words.words.items ≡ n.parts.items = c.in_ok-words.ensures ∙ ap parts_in (body-node h key n c.index.ensures) in
    let joins = subst (Joins h h1 c.in_ok-copy.copy (form_of h.shapes n.shape)) words c.in_ok-copy.ensures.joins in
    let held = c.requires.held in
    let out : c.swap-out.result ≡ Key key = c.swap-out.ensures.out ∙ split_slot h h1 h2 c.args.node c.args.place key c.in_ok-copy.copy n c.index.ensures joins c.requires.there c.requires.part c.swap-out.ensures.swaps in
    let many : 2 ≤ count_at h2 key = many_still h h1 h2 key c.in_ok-copy.copy n (form_of h.shapes n.shape) n.parts.items joins c.index.ensures (omega (arith, c.requires.many, c.requires.some)) c.swap-out.ensures.swaps.counts in
    let none = c.let_go-none.ensures.many key out many in
    let lets : (others : List Part) → Counts h2 (Key key ∷ others) → Counts h3 others = λ others counts.
    let_go_counts h2 h3 (Key key) others counts c.let_go-none.ensures.nodes c.let_go-none.result none
    (c.let_go-none.ensures.frees others (subst (λ (p : Part). Frees h2 None (p ∷ others)) (sym out) (counted_freeing h2 (Key key ∷ others) counts))) in
    let copies : h3.copies ≡ h.copies = c.let_go-none.ensures.rest.copies ∙ c.swap-out.ensures.rest.copies ∙ c.join.ensures.rest.copies in
    split_splits h h1 h2 c.args.node c.args.place key c.in_ok-copy.copy n c.index.ensures joins c.requires.there c.requires.part c.swap-out.ensures.swaps
    (record h3 { copies = c.saturating_add-self.result }) c.let_go-none.ensures.nodes lets (c.saturating_add-self.ensures ∙ ap (λ (x : ℕ). raised x 1) copies) (c.let_go-none.ensures.rest.cap ∙ c.swap-out.ensures.rest.cap ∙ c.join.ensures.rest.cap) c.requires.many held.0 held.1
