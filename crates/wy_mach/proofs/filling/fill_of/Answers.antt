use Rattle.std.proofs.Common.{◌∷◌, [], ◌++◌}
use Rattle.wy_heap.specs.Nodes.{map_of}
use Rattle.wy_mach.specs.Filling.{filled}
use Rattle.wy_mach.proofs.MakeLemmas.{taken_are_held, made_beside, made_turns, gives_made, refused_held, refused_turns}
use Rattle.wy_mach.proofs.FillLemmas.{fill_means, one_list}
use Rattle.wy_mach.proofs.CountedLemmas.{fill_counts}
use Rattle.wy_mach.proofs.ShareLemmas.{puts_filled}
use Rattle.wy_mach.proofs.filling.fill_of.Goals as goal

pub fill-requires : goal.fill-requires
fill-requires c = record { held = taken_are_held c.args.heap.now (c.args.item ∷ []) c.args.registers.now c.requires.held }

pub put-requires : goal.put-requires
put-requires c = record { held = made_beside c.args.heap.now c.fill.new.self (c.args.item ∷ []) c.args.registers.now c.in-Ok.made c.in-Ok.ensures.acts c.requires.held }

pub returns-in-Ok-clause-turns : goal.returns-in-Ok-clause-turns
returns-in-Ok-clause-turns c =
    made_turns c.args.heap.now c.fill.new.self c.put.new.heap (c.args.item ∷ []) c.args.registers.now c.put.new.registers c.in-Ok.made c.in-Ok.ensures.acts c.put.ensures.acts

pub returns-in-Ok-clause-value : goal.returns-in-Ok-clause-value
returns-in-Ok-clause-value c =
    gives_made c.args.heap.now c.fill.new.self c.put.new.heap (c.args.item ∷ []) c.args.registers.now c.put.new.registers c.args.to c.in-Ok.made (filled c.args.many) c.in-Ok.ensures.acts
    (fill_means (map_of c.args.heap.now) (map_of c.fill.new.self) c.args.many c.args.item c.in-Ok.made c.in-Ok.ensures.value) c.requires.held c.put.ensures.acts c.put.ensures.registers

pub release-requires : goal.release-requires
release-requires c = record { held = refused_held c.args.heap.now c.fill.new.self (c.args.item ∷ []) c.args.registers.now (c.in-Err.item ∷ []) (one_list c.in-Err.item c.args.item c.in-Err.ensures.back) c.in-Err.ensures.no_memory c.fill.ensures.kept c.requires.held }

pub returns-in-Err-clause-turns : goal.returns-in-Err-clause-turns
returns-in-Err-clause-turns c =
    refused_turns c.args.heap.now c.fill.new.self c.release.new.self (c.args.item ∷ []) c.args.registers.now (c.in-Err.item ∷ []) (one_list c.in-Err.item c.args.item c.in-Err.ensures.back) c.in-Err.ensures.no_memory c.fill.ensures.kept c.release.ensures.acts

pub returns-in-Ok-clause-shares : goal.returns-in-Ok-clause-shares
returns-in-Ok-clause-shares c =
    puts_filled c.args.heap.now c.fill.new.self c.put.new.heap c.args.registers.now c.put.new.registers c.args.to c.args.many c.args.item c.in-Ok.made c.in-Ok.ensures.came c.fill.ensures.below
    c.put.ensures.registers c.put.ensures.lasts c.put.ensures.copies

pub returns-in-Ok-clause-counts : goal.returns-in-Ok-clause-counts
returns-in-Ok-clause-counts c =
    let ps = c.args.registers.now in
    let held = c.requires.held in
    fill_counts c.args.heap.now c.fill.new.self c.put.new.heap c.args.item ps c.put.new.registers held.0 c.args.to c.in-Ok.made held.1 (c.in-Ok.ensures.acts (ps ++ held.0) held.1).stands
    c.put.ensures.acts c.put.ensures.registers c.in-Ok.ensures.others c.in-Ok.ensures.copies c.put.ensures.lasts c.put.ensures.copies
