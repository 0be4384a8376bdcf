use Rattle.std.proofs.Common.{List, set, refl, sym, subst, ◌∙◌, ap}
use Rattle.wy_heap.specs.declared.part.Part.{Part}
use Rattle.wy_heap.specs.declared.part.Part.TheVariants.{Null}
use Rattle.wy_heap.specs.Nodes.{Form, map_of, at, form_of, form_in, parts_in}
use Rattle.wy_heap.specs.Changing.{HasRoom, JoinsAlone, AreThere, Fits, Builds}
use Rattle.wy_heap.proofs.SlotLemmas.{body-node}
use Rattle.wy_heap.proofs.WriteLemmas.{set_parts_there}
use Rattle.wy_heap.proofs.BuildLemmas.{set_fits, recopied}
use Rattle.wy_heap.proofs.SettledLemmas.{counted_copies}
use Rattle.wy_heap.proofs.PutLemmas.{recounted}
use Rattle.wy_heap.proofs.heap.Heap.copy_without.Goals as goal

pub build-requires-clause-there : goal.build-requires-clause-there
build-requires-clause-there c =
    let h = c.args.self.now in
    let there = c.requires.there in
    subst (λ (ps : List Part). AreThere h (set ps c.args.place Null)) (sym (c.in_ok-parts.ensures ∙ ap parts_in there.was))
    (set_parts_there h c.requires.held.0 c.args.key there.body c.args.place c.requires.held.1 there.was there.within)

pub build-requires-clause-fits : goal.build-requires-clause-fits
build-requires-clause-fits c =
    let h = c.args.self.now in
    let n = c.index.result.now in
    subst (λ (ps : List Part). Fits (map_of h) (form_of h.shapes n.shape) (set ps c.args.place Null)) (sym (c.in_ok-parts.ensures ∙ ap parts_in (body-node h c.args.key n c.index.ensures)))
    (set_fits h c.requires.held.0 c.args.key c.args.place n c.requires.held.1 c.index.ensures)

pub returns-clause-builds : goal.returns-clause-builds
returns-clause-builds c =
    let h = c.args.self.now in
    let n = c.index.result.now in
    let built = c.build.new.self in
    let made = c.in_ok-made.made in
    recopied h built made _ _ _
    (subst (λ (f : Form). Builds h built f (set (parts_in (at (map_of h) c.args.key)) c.args.place Null) made) (sym (ap form_in (body-node h c.args.key n c.index.ensures)))
    (subst (λ (ps : List Part). Builds h built (form_of h.shapes n.shape) (set ps c.args.place Null) made) c.in_ok-parts.ensures c.in_ok-made.ensures.builds))

pub returns-clause-copies : goal.returns-clause-copies
returns-clause-copies c =
    let built = c.build.new.self in
    counted_copies c.args.self.now built (record built { copies = c.saturating_add-self.result }) c.in_ok-made.ensures.copies refl c.saturating_add-self.ensures

pub returns-clause-room : goal.returns-clause-room
returns-clause-room c room =
    let h = c.args.self.now in
    let n = c.index.result.now in
    let built = c.build.new.self in
    let made = c.in_ok-made.made in
    recounted h built made _ _ c.saturating_add-self.result
    (subst (λ (f : Form). JoinsAlone h built made f (set (parts_in (at (map_of h) c.args.key)) c.args.place Null)) (sym (ap form_in (body-node h c.args.key n c.index.ensures)))
    (subst (λ (ps : List Part). JoinsAlone h built made (form_of h.shapes n.shape) (set ps c.args.place Null)) c.in_ok-parts.ensures
    (c.in_ok-made.ensures.room (subst (λ (ps : List Part). HasRoom h (set ps c.args.place Null)) (sym c.in_ok-parts.ensures) room))))
    c.saturating_add-self.ensures
