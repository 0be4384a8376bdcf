use Rattle.std.proofs.Common.{ap, refl}
use Rattle.wy_mach.specs.Taking.{array_made}
use Rattle.wy_mach.proofs.MakeLemmas.{taken_are_held, made_beside, made_turns, gives_made, refused_held, refused_turns}
use Rattle.wy_heap.specs.Nodes.{list_form}
use Rattle.wy_mach.proofs.ShareLemmas.{puts_new}
use Rattle.wy_mach.proofs.making.array_of.Goals as goal
use Rattle.wy_value.specs.Seen.{data_of}

pub array-requires : goal.array-requires
array-requires c = record { held = taken_are_held c.args.heap.now c.args.items.items c.args.registers.now c.requires.held }

pub put-requires : goal.put-requires
put-requires c = record { held = made_beside c.args.heap.now c.array.new.self c.args.items.items c.args.registers.now c.in-Ok.made c.in-Ok.ensures.acts c.requires.held }

pub returns-in-Ok-clause-turns : goal.returns-in-Ok-clause-turns
returns-in-Ok-clause-turns c =
    made_turns c.args.heap.now c.array.new.self c.put.new.heap c.args.items.items c.args.registers.now c.put.new.registers c.in-Ok.made c.in-Ok.ensures.acts c.put.ensures.acts

pub returns-in-Ok-clause-value : goal.returns-in-Ok-clause-value
returns-in-Ok-clause-value c =
    gives_made c.args.heap.now c.array.new.self c.put.new.heap c.args.items.items c.args.registers.now c.put.new.registers c.args.to c.in-Ok.made array_made c.in-Ok.ensures.acts (λ ds mean. c.in-Ok.ensures.value (data_of ds) mean) c.requires.held c.put.ensures.acts c.put.ensures.registers

pub release_all-requires : goal.release_all-requires
release_all-requires c =
    refused_held c.args.heap.now c.array.new.self c.args.items.items c.args.registers.now c.in-Err.items.items (ap (λ v. v.items) c.in-Err.ensures.back) c.in-Err.ensures.no_memory c.array.ensures.kept c.requires.held

pub returns-in-Err-clause-turns : goal.returns-in-Err-clause-turns
returns-in-Err-clause-turns c =
    refused_turns c.args.heap.now c.array.new.self c.release_all.new.heap c.args.items.items c.args.registers.now c.in-Err.items.items (ap (λ v. v.items) c.in-Err.ensures.back) c.in-Err.ensures.no_memory c.array.ensures.kept c.release_all.ensures.acts

pub returns-in-Ok-clause-shares : goal.returns-in-Ok-clause-shares
returns-in-Ok-clause-shares c =
    let items = c.args.items.items in
    let left = c.args.registers.now in
    puts_new c.args.heap.now c.array.new.self c.put.new.heap left left c.put.new.registers c.args.to list_form items items c.in-Ok.made c.in-Ok.ensures.new c.array.ensures.copies refl refl c.put.ensures.registers c.put.ensures.lasts c.put.ensures.copies
