use Rattle.std.proofs.Common.{List, refl, sym, subst, ◌∙◌, ap}
use Rattle.wy_heap.specs.declared.part.Part.{Part}
use Rattle.wy_heap.specs.Nodes.{Form, map_of, at, form_of, form_in, parts_in}
use Rattle.wy_heap.specs.Changing.{AreThere, Fits, Builds}
use Rattle.wy_heap.proofs.SlotLemmas.{body-node}
use Rattle.wy_heap.proofs.WriteLemmas.{node_parts_there}
use Rattle.wy_heap.proofs.BuildLemmas.{recopied}
use Rattle.wy_heap.proofs.SplitLemmas.{whole_fits}
use Rattle.wy_heap.proofs.SettledLemmas.{counted_copies}
use Rattle.wy_heap.proofs.heap.Heap.copy_node.Goals as goal

pub build-requires-clause-there : goal.build-requires-clause-there
build-requires-clause-there c =
    let h = c.args.self.now in
    let n = c.index.result.now in
    let body = body-node h c.args.key n c.index.ensures in
    subst (AreThere h) (sym (c.in_ok-parts.ensures ∙ ap parts_in body)) (node_parts_there h c.requires.held.0 c.args.key _ c.requires.held.1 body)

pub build-requires-clause-fits : goal.build-requires-clause-fits
build-requires-clause-fits c =
    let h = c.args.self.now in
    let n = c.index.result.now in
    let body = body-node h c.args.key n c.index.ensures in
    subst (Fits (map_of h) (form_of h.shapes n.shape)) (sym (c.in_ok-parts.ensures ∙ ap parts_in body)) (whole_fits h c.requires.held.0 c.args.key n c.requires.held.1 c.index.ensures)

pub returns-clause-builds : goal.returns-clause-builds
returns-clause-builds c =
    let h = c.args.self.now in
    let n = c.index.result.now in
    let built = c.build.new.self in
    let made = c.in_ok-made.made in
    recopied h built made _ _ _
    (subst (λ (f : Form). Builds h built f (parts_in (at (map_of h) c.args.key)) made) (sym (ap form_in (body-node h c.args.key n c.index.ensures)))
    (subst (λ (ps : List Part). Builds h built (form_of h.shapes n.shape) ps made) c.in_ok-parts.ensures c.in_ok-made.ensures.builds))

pub returns-clause-copies : goal.returns-clause-copies
returns-clause-copies c =
    let built = c.build.new.self in
    counted_copies c.args.self.now built (record built { copies = c.saturating_add-self.result }) c.in_ok-made.ensures.copies refl c.saturating_add-self.ensures
