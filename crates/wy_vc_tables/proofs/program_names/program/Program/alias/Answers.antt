use Rattle.std.proofs.Common.{◌≡◌, ◌∙◌, Option, Some, List, slice_get, ap, sym, subst}
use Rattle.wy_vc_tables.specs.declared.program_names.declared.Declared.{Declared}
use Rattle.wy_vc_tables.specs.program_names.Described.{alias_of}
use Rattle.wy_vc_tables.proofs.program_names_lemmas.DescribedLemmas.{got}
use Rattle.wy_vc_tables.proofs.program_names.program.Program.alias.Goals as goal

pub returns-in-Some : goal.returns-in-Some
returns-in-Some c =
    let there : slice_get c.deref.result.now c.args.number ≡ Some c.in-Some.declared.now = got c.deref.result.now c.args.number c.in-Some.declared.now c.in-Some.ensures.lookup.3.0 c.in-Some.ensures.lookup.1 in
    let here : slice_get c.args.self.now.types.items c.args.number ≡ Some c.in-Some.declared.now = subst (λ (ds : List Declared). slice_get ds c.args.number ≡ Some c.in-Some.declared.now) c.deref.ensures.value there in
    record { value = c.alias_at.ensures.value ∙ sym (ap (λ (o : Option Declared). alias_of c.args.core.now o) here) }
