use Rattle.std.proofs.lemmas.Option.{slice_get_past}
use Rattle.std.proofs.Common.{◌≡◌, Some, None, List, slice_get, subst}
use Rattle.wy_vc_tables.specs.declared.program_names.declared.Declared.{Declared}
use Rattle.wy_vc_tables.proofs.program_names_lemmas.DescribedLemmas.{got, written_none, written_some}
use Rattle.wy_vc_tables.proofs.program_names.program.Program.is_written.Goals as goal

pub returns-in-None : goal.returns-in-None
returns-in-None c =
    let there : slice_get c.deref.result.now c.args.number ≡ None = slice_get_past c.deref.result.now c.args.number c.in-None.ensures.lookup.3 in
    record { value = written_none c.args.self.now.types.items c.args.number (subst (λ (ds : List Declared). slice_get ds c.args.number ≡ None) c.deref.ensures.value there) }

pub returns-in-Some : goal.returns-in-Some
returns-in-Some c =
    let there : slice_get c.deref.result.now c.args.number ≡ Some c.in-Some.declared.now = got c.deref.result.now c.args.number c.in-Some.declared.now c.in-Some.ensures.lookup.3.0 c.in-Some.ensures.lookup.1 in
    record { value = written_some c.args.self.now.types.items c.args.number c.in-Some.declared.now (subst (λ (ds : List Declared). slice_get ds c.args.number ≡ Some c.in-Some.declared.now) c.deref.ensures.value there) }
