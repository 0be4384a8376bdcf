use Rattle.std.proofs.Common.{◌∙◌, ℕ, List, ap, sym, arith}
use Rattle.wy_core.specs.Types as ty
use Rattle.wy_core.specs.CoreSeen.{seen_conjunct, seen_atom}
use Rattle.wy_core.specs.declared.types.TyKind as kind
use Rattle.wy_core.specs.declared.types.Atom as atom
use Rattle.wy_core.specs.same.SeenParts.{seen_field, seen_field_part, seen_signed}
use Rattle.wy_core.proofs.same_lemmas.SeenLemmas.{seen_record, seen_normal, seen_record_atom, seen_terms, seen_negatives}
use Rattle.wy_core.proofs.same_lemmas.PartLemmas.{same_records, same_normals, same_record_atoms, same_parts, same_conjuncts}
use Rattle.wy_core.proofs.same_lemmas.LoopLemmas.{unlike, refuted, apart, differ}
use Rattle.wy_core.proofs.same.core_types.+same_ty.Goals.{same_fields-then-not-is-via-then-not-is, same_fields-then-not-is-via-else-not-is+then-not-same_ty, same_field_parts-then-not-is-via-then-not-is, same_field_parts-then-not-is-via-else-not-is+then-not-same_part}
use Rattle.wy_core.proofs.same.core_types.+same_ty.Goals as goal

pub same_conjuncts-returns-then-not-same_conjunct : goal.same_conjuncts-returns-then-not-same_conjunct
same_conjuncts-returns-then-not-same_conjunct t c =
    record {
      complete = unlike (differ seen_conjunct c.args.a.now c.args.b.now c.loop-i.i c.index-a-i.result c.index-b-i.result c.index-a-i.is c.index-b-i.is
          c.loop-i-test.true (omega arith) (refuted c.same_conjunct.result c.if-not-same_conjunct.true c.same_conjunct.ensures.complete.1));
    }

pub same_atoms-returns-then-not-same_atom : goal.same_atoms-returns-then-not-same_atom
same_atoms-returns-then-not-same_atom t c =
    record {
      complete = unlike (differ seen_atom c.args.a.now c.args.b.now c.loop-i.i c.index-a-i.result c.index-b-i.result c.index-a-i.is c.index-b-i.is
          c.loop-i-test.true (omega arith) (refuted c.same_atom.result c.if-not-same_atom.true c.same_atom.ensures.complete.1));
    }

pub same_terms-returns-then-not-same_signed : goal.same_terms-returns-then-not-same_signed
same_terms-returns-then-not-same_signed t c =
    record {
      complete = unlike (differ seen_signed c.args.a.now c.args.b.now c.loop-i.i c.index-a-i.result c.index-b-i.result c.index-a-i.is c.index-b-i.is
          c.loop-i-test.true (omega arith) (refuted c.same_signed.result c.if-not-same_signed.true c.same_signed.ensures.complete.1));
    }

pub same_fields-returns-then-not-is : goal.same_fields-returns-then-not-is
same_fields-returns-then-not-is t c =
    elim c.then-not-is.branch [
      | same_fields-then-not-is-via-then-not-is w ↦ record {
        complete = unlike (apart seen_field c.args.a.now c.args.b.now c.loop-i.i c.index-a-i.result c.index-b-i.result c.loop-i-test.true (omega arith)
            (λ e. refuted c.is.result w.if-not-is.true c.is.ensures.complete.1 (ap (λ (f : List ℕ × ty.Ty). f.0) e)));
      }
      | same_fields-then-not-is-via-else-not-is+then-not-same_ty w ↦ record {
        complete = unlike (apart seen_field c.args.a.now c.args.b.now c.loop-i.i w.index-a-i-else-not-is.result w.index-b-i-else-not-is.result
            c.loop-i-test.true (omega arith)
            (λ e. refuted w.same_ty.result w.if-not-same_ty.true w.same_ty.ensures.complete.1 (ap (λ (f : List ℕ × ty.Ty). f.1) e)));
      }
    ]

pub same_field_parts-returns-then-not-is : goal.same_field_parts-returns-then-not-is
same_field_parts-returns-then-not-is t c =
    elim c.then-not-is.branch [
      | same_field_parts-then-not-is-via-then-not-is w ↦ record {
        complete = unlike (apart seen_field_part c.args.a.now c.args.b.now c.loop-i.i c.index-a-i.result c.index-b-i.result c.loop-i-test.true (omega arith)
            (λ e. refuted c.is.result w.if-not-is.true c.is.ensures.complete.1 (ap (λ (f : List ℕ × ty.Part). f.0) e)));
      }
      | same_field_parts-then-not-is-via-else-not-is+then-not-same_part w ↦ record {
        complete = unlike (apart seen_field_part c.args.a.now c.args.b.now c.loop-i.i w.index-a-i-else-not-is.result w.index-b-i-else-not-is.result
            c.loop-i-test.true (omega arith)
            (λ e. refuted w.same_part.result w.if-not-same_part.true w.same_part.ensures.complete.1 (ap (λ (f : List ℕ × ty.Part). f.1) e)));
      }
    ]

pub same_ty-returns-in-Record-Record : goal.same_ty-returns-in-Record-Record
same_ty-returns-in-Record-Record t c =
    record {
      complete = same_records c.same_fields.result c.same_fields.ensures.complete
          (seen_record c.args.a.now c.as_slice.result.now (c.in-Record-Record.is-0 ∙ ap kind.Record (sym c.as_slice.ensures)))
          (seen_record c.args.b.now c.as_slice-in-Record-Record.result.now (c.in-Record-Record.is-1 ∙ ap kind.Record (sym c.as_slice-in-Record-Record.ensures)));
    }

pub same_ty-returns-in-Normal-Normal : goal.same_ty-returns-in-Normal-Normal
same_ty-returns-in-Normal-Normal t c =
    record {
      complete = same_normals c.same_conjuncts.result c.same_conjuncts.ensures.complete
          (seen_normal c.args.a.now c.as_slice-in-Normal-Normal.result.now (c.in-Normal-Normal.is-0 ∙ ap kind.Normal (sym c.as_slice-in-Normal-Normal.ensures)))
          (seen_normal c.args.b.now c.as_slice-in-Normal-Normal-2.result.now (c.in-Normal-Normal.is-1 ∙ ap kind.Normal (sym c.as_slice-in-Normal-Normal-2.ensures)));
    }

pub same_atom-returns-in-Record-Record : goal.same_atom-returns-in-Record-Record
same_atom-returns-in-Record-Record t c =
    record {
      complete = same_record_atoms c.same_field_parts.result c.same_field_parts.ensures.complete
          (seen_record_atom c.args.a.now c.as_slice.result.now (c.in-Record-Record.is-0 ∙ ap atom.Record (sym c.as_slice.ensures)))
          (seen_record_atom c.args.b.now c.as_slice-in-Record-Record.result.now (c.in-Record-Record.is-1 ∙ ap atom.Record (sym c.as_slice-in-Record-Record.ensures)));
    }

pub same_part-returns : goal.same_part-returns
same_part-returns t c =
    record {
      complete = same_parts c.same_terms.result c.same_terms.ensures.complete
          (seen_terms c.args.a.now c.as_slice.result.now (sym c.as_slice.ensures))
          (seen_terms c.args.b.now c.as_slice-2.result.now (sym c.as_slice-2.ensures));
    }

pub same_conjunct-returns-then-same_atom : goal.same_conjunct-returns-then-same_atom
same_conjunct-returns-then-same_atom t c =
    record {
      complete = same_conjuncts c.same_atoms.result c.same_atoms.ensures.complete (c.same_atom.ensures.complete.0 c.if-same_atom.true)
          (seen_negatives c.args.a.now c.as_slice.result.now (sym c.as_slice.ensures))
          (seen_negatives c.args.b.now c.as_slice-then-same_atom.result.now (sym c.as_slice-then-same_atom.ensures));
    }
