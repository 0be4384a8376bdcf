use Rattle.std.proofs.Common.{◌≡◌, ◌≤◌, ◌-◌, List, Some, length, slice_get, ap, subst, arith}
use Rattle.wy_vc_tables.specs.declared.program_names.program.Called.{Called}
use Rattle.wy_vc_tables.proofs.program_names_lemmas.DescribedLemmas.{got, found_declared, found_behind}
use Rattle.wy_vc_tables.proofs.program_names.program.Program.callee.Goals as goal

pub returns-in-Some : goal.returns-in-Some
returns-in-Some c =
    let rs = c.as_slice-routines.result.now in
    let there : slice_get rs c.args.number ≡ Some c.in-Some.called.now = got rs c.args.number c.in-Some.called.now c.in-Some.ensures.lookup.3.0 c.in-Some.ensures.lookup.1 in
    let here : slice_get c.args.self.now.routines.items c.args.number ≡ Some c.in-Some.called.now = subst (λ (l : List Called). slice_get l c.args.number ≡ Some c.in-Some.called.now) c.as_slice-routines.ensures.value there in
    record { value = λ known. found_declared c.args.core.now c.args.self.now c.args.number c.in-Some.called.now c.declared_callee.result known here c.declared_callee.ensures.value }

pub returns-in-None : goal.returns-in-None
returns-in-None c =
    let rs = c.as_slice-routines.result.now in
    let same : length rs ≡ length c.args.self.now.routines.items = ap (λ (l : List Called). length l) c.as_slice-routines.ensures.value in
    let over : length c.args.self.now.routines.items ≤ c.args.number = omega (arith, same, c.in-None.ensures.lookup.3) in
    let so : c.args.number - length c.args.self.now.routines.items ≡ c.args.number - length rs = omega (arith, same) in
    record { value = λ known. found_behind c.args.core.now c.args.self.now c.args.number (c.args.number - length rs) c.built_in.result known over so c.built_in.ensures.value }
