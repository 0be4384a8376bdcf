use Rattle.std.proofs.Common.{Option, ℕ, subst, sym}
use Rattle.wy_vc_spec.specs.Numbered.{numbered_alias}
use Rattle.wy_vc_spec.specs.Programs.{alias_conditions}
use Rattle.wy_core.specs.CoreSeen.{seen_alias}
use Rattle.wy_vc_body.specs.Frames.{program_of}
use Rattle.wy_vc_body.proofs.wy_vc_exprs_proofs.ResultLemmas.{on_ok}
use Rattle.wy_vc.specs.Entering.{Owes}
use Rattle.wy_vc.proofs.OwingLemmas.{owes_nothing}
use Rattle.wy_vc.proofs.types.owe_type.Goals as goal

pub returns-in-None : goal.returns-in-None
returns-in-None c =
    let a = c.args.walk.now in
    record { value = subst (λ (x : Option ℕ). Owes a a (alias_conditions (program_of c.args.core.now c.args.program.now) (numbered_alias (seen_alias c.args.alias.now) c.args.first) x)) (sym c.in-None.is) (owes_nothing a c.requires.sound) }

pub returns-in-Some : goal.returns-in-Some
returns-in-Some c =
    record {
      value = on_ok c.owe_type_clauses.result _ _ c.owe_type_clauses.ensures.value
          (λ s. subst (λ (x : Option ℕ). Owes c.args.walk.now c.owe_type_clauses.new.walk (alias_conditions (program_of c.args.core.now c.args.program.now) (numbered_alias (seen_alias c.args.alias.now) c.args.first) x)) (sym c.in-Some.is) s);
    }
