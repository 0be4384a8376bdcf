use Rattle.std.proofs.Common.{◌∙◌, Bool, List, ap}
use Rattle.wy_core.specs.CoreSeen.{seen_ty}
use Rattle.wy_vc_spec.specs.wy_sem.TypeTests.{mentions}
use Rattle.wy_vc_tables.specs.sizes.Marks.{mark_at}
use Rattle.wy_vc_tables.proofs.program_names_lemmas.DescribedLemmas.{marks_tell}
use Rattle.wy_vc_tables.proofs.program_names.program.Program.is_constrained.Goals as goal

pub returns : goal.returns
returns c = record {
  value = λ core known.
      c.mentions_marked.ensures.value
      ∙ (ap (λ (l : List Bool). mentions (mark_at l) (seen_ty c.args.ty.now)) c.as_slice.ensures.value ∙ marks_tell core c.args.self.now (seen_ty c.args.ty.now) known);
}
