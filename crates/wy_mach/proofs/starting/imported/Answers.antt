use Rattle.std.proofs.Common.{◌≡◌, ◌≤◌, ◌+◌, ◌∷◌, [], ◌++◌, List, take, length, refl, sym, subst, ap, ◌∙◌, arith, rules}
use Rattle.std.proofs.lemmas.List.{take_more, take_all, append-nil}
use Rattle.wy_value.specs.declared.value.Value.{Value}
use Rattle.wy_value.specs.Seen.{seen_items}
use Rattle.wy_heap.specs.Nodes.{map_of}
use Rattle.wy_heap.specs.Meaning.{MeanAll}
use Rattle.wy_heap.specs.Standing.{Stands}
use Rattle.wy_heap.proofs.ImportLemmas.{ones_refl, ones_trans}
use Rattle.wy_heap.proofs.RowLemmas.{value_datum}
use Rattle.wy_mach.proofs.StartLemmas.{one_more, as_grown, extends_same, extends_on}
use Rattle.wy_mach.proofs.starting.imported.Goals as goal

pub loop-i-init : goal.loop-i-init
loop-i-init c = record {
  stands = subst (Stands c.args.heap.now) (sym c.in-Ok.ensures.items) c.requires.stands;
  mean = c.in-Ok.ensures.items;
  ones = ones_refl c.args.heap.now;
  extends = extends_same c.args.heap.now.shapes c.args.heap.now.shapes refl;
  copies = refl;
  cap = refl;
  room = search rules;
}

pub import-requires-clause-held : goal.import-requires-clause-held
import-requires-clause-held c = (c.loop-i.places.items, c.loop-i.invariant.stands)

pub import-requires-clause-datum : goal.import-requires-clause-datum
import-requires-clause-datum c = value_datum c.args.args.now c.loop-i.i c.index-args-i.result c.loop-i-test.true c.index-args-i.is c.requires.args

pub loop-i-preserved : goal.loop-i-preserved
loop-i-preserved c =
    let h = c.loop-i.heap in
    let n = c.import.new.self in
    let args = c.args.args.now in
    let i = c.loop-i.i in
    let v = c.index-args-i.result in
    let all : take (i + 1) args ≡ take i args ++ v ∷ [] = take_more args i v c.loop-i-test.true ∙ ap (λ (x : Value). take i args ++ x ∷ []) (sym c.index-args-i.is) in
    let both = one_more h n (take i args) (take (i + 1) args) c.loop-i.places.items c.push_reserved.new.self.items v c.in-Ok-import.place all c.push_reserved.ensures.items c.in-Ok-import.ensures.acts c.in-Ok-import.ensures.value c.loop-i.invariant.stands c.loop-i.invariant.mean in
    record {
      stands = both.0;
      mean = both.1;
      ones = ones_trans c.args.heap.now h n c.loop-i.invariant.ones c.import.ensures.ones;
      extends = extends_on c.args.heap.now.shapes h.shapes n.shapes c.loop-i.invariant.extends c.import.ensures.grew.extends;
      copies = c.import.ensures.grew.copies ∙ c.loop-i.invariant.copies;
      cap = c.import.ensures.grew.cap ∙ c.loop-i.invariant.cap;
      room = omega (arith, c.push_reserved.ensures.len, c.push_reserved.ensures.capacity, c.loop-i.invariant.room, c.loop-i-test.true);
    }

pub release_all-requires : goal.release_all-requires
release_all-requires c =
    let ps = c.loop-i.places.items in
    ([], subst (Stands c.import.new.self) (sym (append-nil ps)) (as_grown c.loop-i.heap c.import.new.self ps c.in-Err.ensures.no_memory c.import.ensures.grew c.loop-i.invariant.stands))

pub returns-clause-mean : goal.returns-clause-mean
returns-clause-mean c =
    let args = c.args.args.now in
    let past : length args ≤ c.loop-i.i = search rules in
    subst (λ (l : List Value). MeanAll (map_of c.loop-i.heap) (seen_items l) c.loop-i.places.items) (take_all c.loop-i.i args past) c.loop-i.invariant.mean
