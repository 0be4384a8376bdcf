use Rattle.std.proofs.Common.{List, map, subst}
use Rattle.wy_core.specs.CoreSeen.{seen_decl}
use Rattle.wy_core.specs.declared.declarations.Decl.{Decl}
use Rattle.wy_vc_spec.specs.Numbered.{numbered_decls}
use Rattle.wy_vc_spec.specs.Programs.{decls_conditions}
use Rattle.wy_vc_body.specs.Frames.{program_of}
use Rattle.wy_vc_body.proofs.wy_vc_exprs_proofs.ResultLemmas.{on_ok}
use Rattle.wy_vc.specs.Entering.{OwesFirst}
use Rattle.wy_vc.proofs.declarations.owe_declarations.Goals as goal

pub returns : goal.returns
returns c = record {
  value = on_ok c.owe_all.result _ _ c.owe_all.ensures.value
      (λ o. subst (λ (ds : List Decl). OwesFirst c.args.most c.args.walk.now c.owe_all.new.walk (decls_conditions (program_of c.args.core.now c.args.program.now) (numbered_decls (map seen_decl ds) 0))) c.as_slice.ensures o);
}
