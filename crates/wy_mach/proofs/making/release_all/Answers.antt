use Rattle.std.proofs.Common.{◌≡◌, inr, [], ◌∷◌, ◌++◌, Option, option_to_list, refl, ap, ◌∙◌}
use Rattle.wy_heap.specs.Nodes.{map_of}
use Rattle.wy_heap.specs.declared.part.Part.{Part}
use Rattle.wy_mach.proofs.MakeLemmas.{popped_held, rest_held, popped_acts, lasts_on}
use Rattle.wy_mach.proofs.making.release_all.Goals as goal

pub release-requires : goal.release-requires
release-requires c =
    let rest = c.pop.new.self.items in
    let popped : c.places.places.items ≡ rest ++ c.in-Some.place ∷ [] = c.pop.ensures.items ∙ ap (λ (r : Option Part). rest ++ option_to_list r) c.in-Some.is in
    record { held = popped_held c.places.heap c.places.places.items rest c.in-Some.place popped c.places.invariant.held }

pub places-preserved : goal.places-preserved
places-preserved c =
    let rest = c.pop.new.self.items in
    let popped : c.places.places.items ≡ rest ++ c.in-Some.place ∷ [] = c.pop.ensures.items ∙ ap (λ (r : Option Part). rest ++ option_to_list r) c.in-Some.is in
    record {
      acts = λ others stands. popped_acts c.args.heap.now c.places.heap c.release.new.self c.places.places.items rest others c.in-Some.place popped (c.places.invariant.acts others stands) c.release.ensures.acts;
      held = rest_held c.places.heap c.release.new.self c.places.places.items rest c.in-Some.place popped c.places.invariant.held c.release.ensures.acts;
      lasts = lasts_on (map_of c.args.heap.now) (map_of c.places.heap) (map_of c.release.new.self) c.places.invariant.lasts c.release.ensures.lasts;
      shapes = c.release.ensures.kept.1 ∙ c.places.invariant.shapes;
      cap = c.release.ensures.kept.0 ∙ c.places.invariant.cap;
      copies = c.release.ensures.copies ∙ c.places.invariant.copies;
    }

pub places-init : goal.places-init
places-init c = record {
  acts = λ others stands. record { stands = stands; keeps = λ q d among means. means };
  held = c.requires;
  lasts = λ k. inr refl;
  shapes = refl;
  cap = refl;
  copies = refl;
}
