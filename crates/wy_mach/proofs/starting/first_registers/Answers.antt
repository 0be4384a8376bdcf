use Rattle.std.proofs.Common.{[], map, sym, subst}
use Rattle.std.proofs.lemmas.List.{append-nil}
use Rattle.wy_value.specs.Seen.{seen}
use Rattle.wy_heap.specs.Nodes.{map_of}
use Rattle.wy_heap.specs.Standing.{Stands}
use Rattle.wy_mach.proofs.StartLemmas.{data_mean, with_nulls}
use Rattle.wy_mach.proofs.starting.first_registers.Goals as goal

pub returns-in-Ok-clause-stands : goal.returns-in-Ok-clause-stands
returns-in-Ok-clause-stands c = with_nulls c.imported.new.heap c.in_ok-places.places.items c.in-Ok.all.items _ c.in-Ok.ensures.registers c.in_ok-places.ensures.stands

pub returns-in-Ok-clause-shows : goal.returns-in-Ok-clause-shows
returns-in-Ok-clause-shows c =
    let m = map_of c.imported.new.heap in
    c.in-Ok.ensures.shows m (map seen c.args.args.now) (data_mean m c.args.args.now c.in_ok-places.places.items c.in_ok-places.ensures.mean)

pub release_all-requires : goal.release_all-requires
release_all-requires c =
    let n = c.imported.new.heap in
    ([], subst (Stands n) (sym (append-nil c.in-Err.places.items)) (subst (Stands n) (sym c.in-Err.ensures.back) c.in_ok-places.ensures.stands))

pub returns-in-Ok-clause-placed : goal.returns-in-Ok-clause-placed
returns-in-Ok-clause-placed c = record {
  parts = c.in_ok-places.places.items;
  are = c.in-Ok.ensures.registers;
  mean = data_mean (map_of c.imported.new.heap) c.args.args.now c.in_ok-places.places.items c.in_ok-places.ensures.mean;
}
