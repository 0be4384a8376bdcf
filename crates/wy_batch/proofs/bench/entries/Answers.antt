use Rattle.std.proofs.Common.{◌∙◌, length, get_or, map, ap, arith}
use Rattle.std.proofs.lemmas.List.{take_all}
use Rattle.wy_batch.proofs.BenchLemmas.{IsEntryBelow, Triple, entries_below_more, entries_more, entry_same, no_entries, stays_on, stays_same}
use Rattle.wy_term.specs.Condition.{entry_of}
use Rattle.wy_batch.proofs.bench.entries.Goals as goal

pub loop-number-init : goal.loop-number-init
loop-number-init c =
    let terms = c.args.bench.now.terms in
    let none = c.in_ok-copies.ensures.items in
    record {
      within = no_entries (length terms) c.in_ok-copies.copies.items none;
      trees = ap (map (entry_of terms)) none;
      bench = c.requires.bench;
      stays = stays_same terms;
    }

pub loop-number-preserved : goal.loop-number-preserved
loop-number-preserved c =
    let from = c.args.from.now in
    let old = c.loop-number.bench.terms in
    let mid = c.image.new.bench.terms in
    let new = c.image-in-loop-number.new.bench.terms in
    let invariant = c.loop-number.invariant in
    let list = c.args.list.now in
    let i = c.loop-number.number-index in
    let d : Triple = get_or list i (0, 0, 0) in
    let e : Triple = (d.0, c.in_ok-name.name, c.in_ok-formula.formula) in
    let first = c.in_ok-name.ensures in
    let second = c.in_ok-formula.ensures in
    let stays = stays_on old mid new first.stays second.stays in
    let below : IsEntryBelow (length new) e = (omega (arith, first.within, second.stays.grows), second.within) in
    record {
      within = entries_below_more old new c.loop-number.copies.items c.push.new.self.items e stays.grows c.in_ok-push.ensures.items invariant.within below;
      trees = entries_more from old new list c.loop-number.copies.items c.push.new.self.items i (0, 0, 0) e stays invariant.within invariant.trees c.loop-number-test.true c.in_ok-push.ensures.items
          (entry_same from mid new d c.in_ok-name.name c.in_ok-formula.formula second.stays first.within first.tree second.tree);
      bench = second.bench;
      stays = stays_on c.args.bench.now.terms old new invariant.stays stays;
    }

pub returns-clause-trees : goal.returns-clause-trees
returns-clause-trees c = c.loop-number.invariant.trees ∙ ap (map (entry_of c.args.from.now)) (take_all c.loop-number.number-index c.args.list.now c.loop-number-test.false)
