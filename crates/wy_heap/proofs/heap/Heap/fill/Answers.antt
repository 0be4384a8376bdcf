use Rattle.std.proofs.Common.{◌≡◌, ◌∷◌, [], List, replicate, sym, subst, ◌∙◌, ap}
use Rattle.wy_value.specs.Datum as datum
use Rattle.wy_heap.specs.Making.{repeated, IsNew, Came}
use Rattle.wy_heap.specs.declared.part.Part.{Part}
use Rattle.wy_heap.specs.declared.part.Part.TheVariants.{Key}
use Rattle.wy_heap.specs.Nodes.{list_form, map_of}
use Rattle.wy_heap.specs.Meaning.{Means}
use Rattle.wy_heap.specs.Standing.{Counts, Acts}
use Rattle.wy_heap.specs.Changing.{AreThere, Fits, Joins, Builds, HasRoom, Upheld}
use Rattle.wy_heap.proofs.BuildLemmas.{fill_there, fill_fits, fill_free, fill_acts, fill_means}
use Rattle.wy_heap.proofs.NewLemmas.{fill_copies, fill_others, fill_room, fill_came, fill_new}
use Rattle.wy_heap.proofs.heap.Heap.fill.Goals as goal

pub build-requires-clause-there : goal.build-requires-clause-there
build-requires-clause-there c =
    let h = c.args.self.now in
    let words : c.in-Ok.words.items ≡ replicate c.args.n c.args.item = c.in-Ok.ensures ∙ ap (replicate c.args.n) c.part.ensures in
    subst (AreThere h) (sym words) (fill_there h c.args.n c.args.item c.requires.held.0 c.requires.held.1.counts)

pub build-requires-clause-fits : goal.build-requires-clause-fits
build-requires-clause-fits c =
    let h = c.args.self.now in
    let words : c.in-Ok.words.items ≡ replicate c.args.n c.args.item = c.in-Ok.ensures ∙ ap (replicate c.args.n) c.part.ensures in
    subst (Fits (map_of h) list_form) (sym words) (fill_fits h c.args.n c.args.item c.requires.held.0 c.requires.held.1.counts)

pub free-requires : goal.free-requires
free-requires c =
    let h = c.args.self.now in
    let n = c.build.new.self in (
      Key c.in-Ok-build.key ∷ c.requires.held.0,
      subst (λ (p : Part). Counts n (p ∷ Key c.in-Ok-build.key ∷ c.requires.held.0)) (sym c.spent-part.ensures)
          (fill_free h n _ _ c.in-Ok-build.key c.args.item c.in-Ok-build.ensures.builds c.requires.held.0 c.requires.held.1.counts),
    )

pub returns-clause-acts : goal.returns-clause-acts
returns-clause-acts c others stands =
    let h = c.args.self.now in
    let n = c.build.new.self in
    let o = c.free.new.self in
    subst (λ (p : Part). Acts h o (p ∷ []) others) (sym c.of.ensures)
    (fill_acts h n _ _ c.in-Ok-build.key c.args.item c.in-Ok-build.ensures.builds others stands o
    (λ all counts. c.free.ensures.leads all (subst (λ (p : Part). Counts n (p ∷ all)) (sym c.spent-part.ensures) counts))
    c.build.ensures.within c.free.ensures.lower c.build.ensures.kept c.free.ensures.rest)

pub returns-clause-value : goal.returns-clause-value
returns-clause-value c d means =
    let h = c.args.self.now in
    let n = c.build.new.self in
    let o = c.free.new.self in
    let words : c.in-Ok.words.items ≡ replicate c.args.n c.args.item = c.in-Ok.ensures ∙ ap (replicate c.args.n) c.part.ensures in
    subst (λ (p : Part). Means (map_of o) (datum.Array (repeated c.args.n d)) p) (sym c.of.ensures)
    (fill_means h n c.in-Ok-build.key c.args.n c.args.item (subst (λ (ps : List Part). Builds h n list_form ps c.in-Ok-build.key) words c.in-Ok-build.ensures.builds)
    c.requires.held.0 c.requires.held.1.counts o
    (λ all counts. c.free.ensures.leads all (subst (λ (p : Part). Counts n (p ∷ all)) (sym c.spent-part.ensures) counts)) d means)

pub returns-clause-copies : goal.returns-clause-copies
returns-clause-copies c =
    let h = c.args.self.now in
    let n = c.build.new.self in
    let o = c.free.new.self in
    fill_copies h n o _ _ c.in-Ok-build.key c.args.item c.requires.held.0 c.in-Ok-build.ensures.builds c.requires.held.1.counts c.in-Ok-build.ensures.copies c.free.ensures.rest.copies c.free.ensures.lasts
    (subst (Upheld n (map_of o)) (c.spent-part.ensures) c.free.ensures.upheld)

pub returns-clause-below : goal.returns-clause-below
returns-clause-below c below =
    let h = c.args.self.now in
    let words : c.in-Ok.words.items ≡ replicate c.args.n c.args.item = c.in-Ok.ensures ∙ ap (replicate c.args.n) c.part.ensures in
    c.free.ensures.rest.copies ∙ (c.in-Ok-build.ensures.room (subst (HasRoom h) (sym words) (fill_room h c.args.n c.args.item below))).copies

pub returns-clause-others : goal.returns-clause-others
returns-clause-others c k is =
    fill_others c.args.self.now c.build.new.self c.free.new.self _ _ c.in-Ok-build.key c.in-Ok-build.ensures.builds c.free.ensures.lasts k is

pub returns-clause-new : goal.returns-clause-new
returns-clause-new c some below =
    let h = c.args.self.now in
    let n = c.build.new.self in
    let o = c.free.new.self in
    let words : c.in-Ok.words.items ≡ replicate c.args.n c.args.item = c.in-Ok.ensures ∙ ap (replicate c.args.n) c.part.ensures in
    let alone = c.in-Ok-build.ensures.room (subst (HasRoom h) (sym words) (fill_room h c.args.n c.args.item below)) in
    subst (λ (p : Part). IsNew (map_of h) (map_of o) p list_form (replicate c.args.n c.args.item)) (sym c.of.ensures)
    (fill_new h n o c.args.n c.in-Ok-build.key c.args.item c.requires.held.0 some
    (subst (Joins h n c.in-Ok-build.key list_form) words alone.joins)
    (subst (λ (ps : List Part). Builds h n list_form ps c.in-Ok-build.key) words c.in-Ok-build.ensures.builds)
    c.requires.held.1.counts c.free.ensures.lasts (subst (Upheld n (map_of o)) c.spent-part.ensures c.free.ensures.upheld))

pub returns-clause-came : goal.returns-clause-came
returns-clause-came c below =
    let h = c.args.self.now in
    let n = c.build.new.self in
    let o = c.free.new.self in
    let words : c.in-Ok.words.items ≡ replicate c.args.n c.args.item = c.in-Ok.ensures ∙ ap (replicate c.args.n) c.part.ensures in
    let alone = c.in-Ok-build.ensures.room (subst (HasRoom h) (sym words) (fill_room h c.args.n c.args.item below)) in
    subst (λ (p : Part). Came (map_of h) (map_of o) p list_form (replicate c.args.n c.args.item)) (sym c.of.ensures)
    (fill_came h n o c.in-Ok-build.key (replicate c.args.n c.args.item) (subst (Joins h n c.in-Ok-build.key list_form) words alone.joins) c.free.ensures.lasts)
