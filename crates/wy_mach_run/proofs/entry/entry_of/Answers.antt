use Rattle.std.proofs.Common.{◌+◌, true≢false, map, refl, sym, subst}
use Rattle.wy_core.specs.CoreSeen.{seen_decl}
use Rattle.wy_core.specs.CoreTree.{routines_of}
use Rattle.wy_mach_run.proofs.EntryLemmas.{Passed, found, none_of, past_alias, past_routine, rest_from}
use Rattle.wy_mach_run.proofs.entry.entry_of.Goals as goal
use Rattle.wy_mach_run.proofs.entry.entry_of.Goals.{in-Alias, in-Routine+else-is_named+else-number}

pub returns-then-is_named : goal.returns-then-is_named
returns-then-is_named c =
    let ds = c.args.decls.now in
    let first = found ds c.args.name.now c.loop-decl.number c.loop-decl.decl-index c.decl-item.result c.in-Routine.routine c.loop-decl-test.true c.decl-item.is c.in-Routine.is (c.if-is_named.ensures.value.0 refl) c.loop-decl.invariant in
    record { found = c.entry_at.ensures.found (routines_of (map seen_decl ds)) c.args.name.now first }

pub loop-decl-preserved : goal.loop-decl-preserved
loop-decl-preserved c =
    let ds = c.args.decls.now in
    let name = c.args.name.now in
    let n = c.loop-decl.number in
    let i = c.loop-decl.decl-index in
    elim c.match-decl.branch [
      | in-Alias w ↦
          subst (λ k. Passed (rest_from 0 ds) name k (rest_from (i + 1) ds)) (sym w.number-is)
          (past_alias ds name n i c.decl-item.result _ c.loop-decl-test.true c.decl-item.is w.in-Alias.is c.loop-decl.invariant)
      | in-Routine+else-is_named+else-number w ↦
          subst (λ k. Passed (rest_from 0 ds) name k (rest_from (i + 1) ds)) (sym w.number-is)
          (past_routine ds name n i c.decl-item.result w.in-Routine.routine c.loop-decl-test.true c.decl-item.is w.in-Routine.is (λ e. true≢false (sym (w.if-is_named.ensures.value.1 e))) c.loop-decl.invariant)
    ]

pub returns : goal.returns
returns c = record { found = none_of c.args.decls.now c.args.name.now c.loop-decl.number c.loop-decl.decl-index c.loop-decl-test.false c.loop-decl.invariant }
