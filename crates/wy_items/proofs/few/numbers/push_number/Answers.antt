use Rattle.std.proofs.Common.{◌≡◌, ◌∙◌, ap, ℕ, List, ◌++◌, ◌∷◌, [], true, length, nat_eq, rules, arith}
use Rattle.std.proofs.lemmas.Grind.{common_steps}
use Rattle.std.specs.HashMap.{get}
use Rattle.std.specs.Prelude.{nat_le}
use Rattle.wy_items.specs.few.Places.{places_from}
use Rattle.wy_items.proofs.few_lemmas.PlaceLemmas.{placed_more}
use Rattle.wy_items.proofs.few.numbers.push_number.Goals as goal

pub returns-clause-placed : goal.returns-clause-placed
returns-clause-placed c =
    let old = c.args.numbers.now.items in
    let new = c.push.new.self.items in
    let same : c.deref.result.now ≡ old = search rules in
    let many : nat_le 48 (length old) ≡ true = search rules in
    let put : new ≡ old ++ c.args.k ∷ [] = search rules in
    let more : nat_le 49 (length new) ≡ true = grind (arith, common_steps) in
    let place : c.in_ok-place.place ≡ length old = search rules in
    placed_more c.note_place.result (get nat_eq c.note_few.new.places) (get nat_eq c.note_place.new.places) old new c.args.k c.in_ok-place.place (λ s. c.in_ok-note_few.ensures s ∙ ap (λ (ns : List ℕ). places_from 48 ns s) same) many more place put c.note_place.ensures
