use Rattle.std.proofs.Common.{◌≡◌, ℕ, List, ◌∙◌, sym, ap, subst, IfOk}
use Rattle.wy_core.specs.Types.{Ty, RecordTy}
use Rattle.wy_core.specs.declared.types.Ty as rust
use Rattle.wy_types.specs.Numbering as numbering
use Rattle.wy_types.specs.SeenTypes.{seen_kind, seen_fields}
use Rattle.wy_types.proofs.SeenLemmas.{seen-Record}
use Rattle.wy_types.proofs.tree_numbers.+put.Goals as goal

pub put_kind-returns-in-Record-clause-number : goal.put_kind-returns-in-Record-clause-number
put_kind-returns-in-Record-clause-number t c =
    let e : seen_kind c.args.kind.now ≡ RecordTy (seen_fields c.as_slice.result.now) =
    ap seen_kind c.in-Record.is ∙ seen-Record c.in-Record.fields ∙ ap (λ (x : List (List ℕ × rust.Ty)). RecordTy (seen_fields x)) (sym c.as_slice.ensures)
    in
    subst (λ (x : Ty). IfOk c.put_record.result (λ number. number ≡ (numbering.put_ty c.args.nodes.now x).1)) (sym e) c.put_record.ensures.number
