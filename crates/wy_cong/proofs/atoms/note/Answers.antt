use Rattle.std.proofs.Common.{◌≡◌, length, true, false, rules}
use Rattle.std.specs.Prelude.{is_some}
use Rattle.wy_cong.proofs.ListedLemmas.{below_noted, noted_new, noted_there}
use Rattle.wy_cong.proofs.atoms.note.Goals as goal
use Rattle.wy_items.specs.few.Places.{number_place}
use Rattle.wy_check_splits.proofs.JoinedLemmas.{Forward, forward}
use Rattle.wy_term.specs.Nodes.{tree_at}

pub returns-then-is_some-clause-value : goal.returns-then-is_some-clause-value
returns-then-is_some-clause-value c =
    let at = tree_at c.args.terms.now in
    let n = length c.args.terms.now in
    let once : Forward at n = forward at n (λ s t ls lt e. (c.one_number_for_each_term.ensures.one s t ls lt).1 e) in
    let has : is_some (number_place c.args.found.now.list.items c.args.f 0) ≡ true = search rules in
    noted_there at n once c.args.found.now.list.items c.args.f c.requires.found.below c.requires.formula has

pub returns-clause-value : goal.returns-clause-value
returns-clause-value c =
    let at = tree_at c.args.terms.now in
    let n = length c.args.terms.now in
    let once : Forward at n = forward at n (λ s t ls lt e. (c.one_number_for_each_term.ensures.one s t ls lt).1 e) in
    let none : is_some (number_place c.args.found.now.list.items c.args.f 0) ≡ false = search rules in
    noted_new at n once c.args.found.now.list.items _ c.args.f c.requires.found.below c.requires.formula none c.in_ok-push_number.ensures.value

pub returns-clause-found : goal.returns-clause-found
returns-clause-found c = record {
  below = below_noted (length c.args.terms.now) c.args.found.now.list.items _ c.args.f c.requires.found.below c.requires.formula c.in_ok-push_number.ensures.value;
  placed = c.in_ok-push_number.ensures.placed;
}
