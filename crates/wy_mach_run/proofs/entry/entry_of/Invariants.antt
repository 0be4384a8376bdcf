use Rattle.wy_mach_run.proofs.EntryLemmas.{Passed, rest_from}
use Rattle.wy_mach_run.proofs.entry.entry_of.Given as goal

abbrev pub invariant-loop-decl : goal.invariant-loop-decl
invariant-loop-decl l = Passed (rest_from 0 l.decls) l.name l.number (rest_from l.decl-index l.decls)
