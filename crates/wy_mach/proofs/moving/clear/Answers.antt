use Rattle.std.proofs.Common.{◌+◌, ◌<◌, ◌≤◌, List, ℕ, length, get_or, drop, refl, subst, ◌∙◌, rules, inr, sym, ap}
use Rattle.std.proofs.lemmas.List.{drop_more, drop_all}
use Rattle.wy_heap.specs.declared.part.Kind.TheVariants as is
use Rattle.wy_mach.proofs.RegisterLemmas.{scalar_free}
use Rattle.wy_mach.proofs.MoveLemmas.{Clears, clears_none, clears_more, cleared_goes}
use Rattle.wy_heap.specs.Nodes.{map_of}
use Rattle.wy_mach.specs.Taking.{emptied}
use Rattle.wy_mach.proofs.ShareLemmas.{lasts_more, emptied_more}
use Rattle.wy_mach.proofs.moving.clear.Goals as goal

pub loop-number-init : goal.loop-number-init
loop-number-init c = record {
  clears = clears_none c.args.heap.now c.args.registers.now c.args.numbers.now c.requires.held;
  shapes = refl;
  cap = refl;
  copies = refl;
  empties = refl;
  lasts = λ k. inr refl;
}

pub loop-number-preserved : goal.loop-number-preserved
loop-number-preserved c =
    let numbers = c.args.numbers.now in
    let i = c.loop-number.number-index in
    let below : i < length numbers = search rules in
    record {
      clears = clears_more c.args.heap.now c.loop-number.heap c.put.new.heap c.args.registers.now c.loop-number.registers c.put.new.registers numbers (drop i numbers) (drop (i + 1) numbers) (get_or numbers i 0) c.scalar.result
          c.loop-number.invariant.clears (drop_more numbers i 0 below) c.scalar.ensures.value (scalar_free c.scalar.result is.Null c.scalar.ensures.value) c.put.ensures.acts c.put.ensures.registers;
      shapes = c.put.ensures.kept.1 ∙ c.loop-number.invariant.shapes;
      cap = c.put.ensures.kept.0 ∙ c.loop-number.invariant.cap;
      copies = c.put.ensures.copies ∙ c.loop-number.invariant.copies;
      empties = emptied_more c.loop-number.registers c.put.new.registers numbers (drop i numbers) (drop (i + 1) numbers) c.args.registers.now (get_or numbers i 0) c.scalar.result (drop_more numbers i 0 below) c.scalar.ensures.value c.put.ensures.registers c.loop-number.invariant.empties;
      lasts = lasts_more (map_of c.args.heap.now) (map_of c.loop-number.heap) (map_of c.put.new.heap) c.loop-number.invariant.lasts c.put.ensures.lasts;
    }

pub returns-clause-value : goal.returns-clause-value
returns-clause-value c shapes =
    let numbers = c.args.numbers.now in
    let i = c.loop-number.number-index in
    let past : length numbers ≤ i = search rules in
    cleared_goes c.args.heap.now c.loop-number.heap c.args.registers.now c.loop-number.registers numbers
    (subst (λ (l : List ℕ). Clears c.args.heap.now c.loop-number.heap c.args.registers.now c.loop-number.registers numbers l) (drop_all i numbers past) c.loop-number.invariant.clears)

pub returns-clause-shares : goal.returns-clause-shares
returns-clause-shares c =
    let numbers = c.args.numbers.now in
    let i = c.loop-number.number-index in
    let past : length numbers ≤ i = search rules in
    sym (ap (emptied c.loop-number.registers) (drop_all i numbers past)) ∙ c.loop-number.invariant.empties

pub returns-clause-lasts : goal.returns-clause-lasts
returns-clause-lasts c = c.loop-number.invariant.lasts
