use Rattle.std.proofs.Common.{◌≡◌, ◌++◌, ◌∷◌, [], List, sym, subst, ◌∙◌, arith}
use Rattle.wy_heap.specs.declared.part.Part.{Part}
use Rattle.wy_heap.specs.declared.part.Part.TheVariants.{Key}
use Rattle.wy_heap.specs.Nodes.{map_of, form_of}
use Rattle.wy_heap.specs.Meaning.{MeanAll, IsNode}
use Rattle.wy_heap.specs.Standing.{Counts, Acts, IsWithin}
use Rattle.wy_heap.specs.Making.{IsNew}
use Rattle.wy_heap.specs.Changing.{Fits}
use Rattle.wy_heap.proofs.LeadLemmas.{acts_from}
use Rattle.wy_heap.proofs.WriteLemmas.{added_leads, added_node, added_new, added_within}
use Rattle.wy_heap.proofs.heap.Heap.make.Goals as goal

pub returns-clause-acts : goal.returns-clause-acts
returns-clause-acts c others stands =
    let h = c.args.self.now in
    let n = c.put.new.self in
    let words : c.in-Ok.parts.items ≡ c.args.items.items = c.in-Ok.ensures ∙ c.deref.ensures.value in
    let adds = c.in-Ok-put.ensures.adds in
    let key = c.in-Ok-put.key in
    let fits = subst (Fits (map_of h) (form_of h.shapes c.args.shape)) (sym words) c.requires.fits in
    let within : IsWithin n = λ k. omega (arith, added_within h n key c.args.shape c.in-Ok.parts.items h.cap adds stands.some stands.within k, c.put.ensures.rest.cap) in
    subst (λ (p : Part). Acts h n (p ∷ []) others) (sym c.of.ensures)
    (acts_from h n (Key key ∷ []) others (c.args.items.items ++ others) stands
    (added_leads h n key c.args.shape c.in-Ok.parts.items adds fits others (subst (λ (ps : List Part). Counts h (ps ++ others)) (sym words) stands.counts))
    within c.put.ensures.rest.cap c.put.ensures.rest.shapes)

pub returns-clause-node : goal.returns-clause-node
returns-clause-node c ds mean =
    let h = c.args.self.now in
    let n = c.put.new.self in
    let words : c.in-Ok.parts.items ≡ c.args.items.items = c.in-Ok.ensures ∙ c.deref.ensures.value in
    subst (λ (p : Part). IsNode (map_of n) p (form_of h.shapes c.args.shape) ds) (sym c.of.ensures)
    (added_node h n c.in-Ok-put.key c.args.shape c.in-Ok.parts.items c.in-Ok-put.ensures.adds ds (subst (MeanAll (map_of h) ds) (sym words) mean))

pub returns-clause-new : goal.returns-clause-new
returns-clause-new c =
    let h = c.args.self.now in
    let n = c.put.new.self in
    let form = form_of h.shapes c.args.shape in
    let words : c.in-Ok.parts.items ≡ c.args.items.items = c.in-Ok.ensures ∙ c.deref.ensures.value in
    subst (λ (p : Part). IsNew (map_of h) (map_of n) p form c.args.items.items) (sym c.of.ensures)
    (subst (IsNew (map_of h) (map_of n) (Key c.in-Ok-put.key) form) words (added_new h n c.in-Ok-put.key c.args.shape c.in-Ok.parts.items c.in-Ok-put.ensures.adds))
