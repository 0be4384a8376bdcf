use Rattle.std.proofs.Common.{◌≡◌, ◌∙◌, ◌≤◌, List, All, length, map, refl, sym, ap, subst, arith}
use Rattle.wy_batch.proofs.JudgedLemmas.{all_within, same_conditions}
use Rattle.wy_batch.specs.Known.{AreKnown}
use Rattle.wy_batch.specs.Seen.{known}
use Rattle.wy_batch.specs.wy_check.Within.{IsWithin}
use Rattle.wy_cert.specs.Steps.{certificates_of}
use Rattle.wy_prove.specs.Answers.{IsFormedThroughout}
use Rattle.wy_term.specs.Condition.{Condition, condition_of}
use Rattle.wy_term.specs.declared.cond.Cond.{Cond}
use Rattle.wy_top.proofs.ConditionLemmas.{formed_each}
use Rattle.wy_top.proofs.LengthLemmas.{same_count}
use Rattle.wy_top.specs.Kept.{program_in}
use Rattle.wy_top_probe.proofs.wy_top_answers_proofs.wy_vc_laws_proofs.folded_lemmas.OwedLemmas.{conditions_folded}
use Rattle.wy_top_probe.specs.wy_top_answers.wy_vc_laws.folded.FoldedConditions.{AreFoldedThroughout}
use Rattle.wy_top_probe.specs.wy_top_answers.wy_vc_laws.shown.Certified.{AreFormed}
use Rattle.wy_vc.specs.Told.{seen_cond}
use Rattle.wy_vc.specs.wy_vc_spec.Limits.{most_conditions}
use Rattle.wy_top.proofs.judging.judge_all.Goals as goal

pub judge-requires : goal.judge-requires
judge-requires g c = (c.type_bounds.sync-R, (c.requires.kept.numbers, (c.requires.names, (omega (arith, c.requires.kept.few), c.requires.workers))))

pub returns-in-Ok-clause-verdicts : goal.returns-in-Ok-clause-verdicts
returns-in-Ok-clause-verdicts g c =
    let kept = c.requires.kept in
    let old = c.args.owed.conds in
    let new = c.judge.new.conds in
    let list : new.list.items ≡ old.list.items = ap (λ v. v.items) c.in-Ok.ensures.list in
    let stay = same_conditions old.terms new.terms old.list.items c.in-Ok.ensures.length c.in-Ok.ensures.kept kept.numbers in
    record {
      program = refl;
      known = subst (λ (cs : List Condition). AreKnown (certificates_of c.args.certs.now) c.args.budget 1 cs (map known c.in-Ok.verdicts.items)) kept.conditions c.in-Ok.ensures.known;
      formed = subst AreFormed kept.conditions kept.formed;
      count = ap (λ (l : List Cond). length l) list ∙ same_count old.terms old.list.items _ kept.conditions;
      told = record { nodes = old.terms; told = ap (λ (l : List Cond). map (seen_cond old.terms) l) list ∙ kept.told };
      conditions = ap (λ (l : List Cond). map (condition_of new.terms) l) list ∙ stay ∙ kept.conditions;
    }

pub returns-in-Ok-clause-each : goal.returns-in-Ok-clause-each
returns-in-Ok-clause-each g c =
    let kept = c.requires.kept in
    let old = c.args.owed.conds in
    let new = c.judge.new.conds in
    let list : new.list.items ≡ old.list.items = ap (λ v. v.items) c.in-Ok.ensures.list in
    let p = program_in c.args.owed in
    let here = same_conditions old.terms new.terms old.list.items c.in-Ok.ensures.length c.in-Ok.ensures.kept kept.numbers ∙ kept.conditions in
    let formed = formed_each new.terms old.list.items (subst AreFormed (sym here) (subst AreFormed kept.conditions kept.formed)) (subst AreFoldedThroughout (sym here) (conditions_folded p.core p.flow)) in
    record {
      each = c.in-Ok.ensures.count ∙ ap (λ (l : List Cond). length l) (sym list);
      few = subst (λ (l : List Cond). length l ≤ most_conditions) (sym list) kept.few;
      named = c.in-Ok.ensures.named;
      within = subst (All (IsWithin (length new.terms))) (sym list) (all_within old.terms new.terms old.list.items c.in-Ok.ensures.length kept.numbers);
      formed = subst (All (λ (d : Cond). IsFormedThroughout (condition_of new.terms d))) (sym list) formed;
    }
