use Rattle.std.proofs.Common.{◌≡◌, ◌-◌, ◌++◌, length, rules}
use Rattle.wy_mach.specs.Taking.{nulls}
use Rattle.wy_mach.proofs.EntryLemmas.{entry_shows, no_more}
use Rattle.wy_mach.proofs.entering.entry_registers.Goals as goal

pub returns-clause-shows : goal.returns-clause-shows
returns-clause-shows c m vs mean =
    let ps = c.args.arguments.items in
    let none : c.more.more ≡ 0 = search rules in
    entry_shows m vs ps c.more.all.items c.args.many (no_more c.more.all.items (ps ++ nulls (c.args.many - length ps)) c.more.more none c.more.invariant.left) mean
