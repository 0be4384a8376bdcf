use Rattle.std.proofs.Common.{◌<◌, length, rules}
use Rattle.wy_mach.proofs.RegisterLemmas.{read_part}
use Rattle.wy_mach.proofs.MoveLemmas.{register_held}
use Rattle.wy_mach.proofs.operands.kind_in.Goals as goal

pub kind-requires : goal.kind-requires
kind-requires c =
    let ps = c.args.registers.now in
    let p = c.index-registers-index.result in
    let below : c.args.register < length ps = search rules in
    record { held = register_held c.args.heap.now p ps c.args.register (read_part ps c.args.register p p below c.index-registers-index.is) below c.requires }
