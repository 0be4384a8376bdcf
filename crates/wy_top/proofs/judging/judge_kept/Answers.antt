use Rattle.std.proofs.Common.{◌≡◌, ◌∙◌, ◌≤◌, List, All, length, map, refl, sym, ap, subst}
use Rattle.wy_batch.proofs.JudgedLemmas.{all_within, same_conditions}
use Rattle.wy_batch.specs.Seen.{known}
use Rattle.wy_batch.specs.wy_check.Within.{IsWithin}
use Rattle.wy_cert.specs.Steps.{certificates_of}
use Rattle.wy_prove.specs.Answers.{IsFormedThroughout}
use Rattle.wy_term.specs.Condition.{Condition, condition_of}
use Rattle.wy_term.specs.declared.cond.Cond.{Cond}
use Rattle.wy_top.proofs.ConditionLemmas.{formed_each}
use Rattle.wy_top.proofs.LengthLemmas.{same_count}
use Rattle.wy_top.proofs.TakenLemmas.{are_taken}
use Rattle.wy_top.specs.Kept.{program_in}
use Rattle.wy_top.specs.Programs.{conditions_of}
use Rattle.wy_top.specs.Taken.{AreBeside}
use Rattle.wy_top_probe.proofs.wy_top_answers_proofs.wy_vc_laws_proofs.folded_lemmas.OwedLemmas.{conditions_folded}
use Rattle.wy_top_probe.specs.wy_top_answers.wy_vc_laws.folded.FoldedConditions.{AreFoldedThroughout}
use Rattle.wy_top_probe.specs.wy_top_answers.wy_vc_laws.shown.Certified.{AreFormed}
use Rattle.wy_vc.specs.Told.{seen_cond}
use Rattle.wy_vc.specs.wy_vc_spec.Limits.{most_conditions}
use Rattle.wy_top.proofs.judging.judge_kept.Goals as goal

pub judge_others-requires : goal.judge_others-requires
judge_others-requires g c = (c.type_bounds.sync-R, (c.requires.owed.numbers, (c.requires.owed.few, c.requires.workers)))

pub returns-in-Ok-clause-taken : goal.returns-in-Ok-clause-taken
returns-in-Ok-clause-taken g c = λ es are.
    let owed = c.requires.owed in
    let old = c.args.owed.conds in
    let new = c.in-Ok.conds in
    let p = program_in c.args.owed in
    let certs = certificates_of c.args.kept.now in
    let ks = map known c.in-Ok.verdicts.items in
    let list : new.list.items ≡ old.list.items = ap (λ v. v.items) c.in-Ok.ensures.list in
    let stay = same_conditions old.terms new.terms old.list.items c.in-Ok.ensures.length c.in-Ok.ensures.kept owed.numbers in
    record {
      program = refl;
      known = are_taken es c.args.budget (conditions_of p) ks certs are (subst (λ (cs : List Condition). AreBeside c.args.budget certs cs ks) owed.conditions c.in-Ok.ensures.judged);
      formed = subst AreFormed owed.conditions owed.formed;
      count = ap (λ (l : List Cond). length l) list ∙ same_count old.terms old.list.items _ owed.conditions;
      told = record { nodes = old.terms; told = ap (λ (l : List Cond). map (seen_cond old.terms) l) list ∙ owed.told };
      conditions = ap (λ (l : List Cond). map (condition_of new.terms) l) list ∙ stay ∙ owed.conditions;
    }

pub returns-in-Ok-clause-each : goal.returns-in-Ok-clause-each
returns-in-Ok-clause-each g c =
    let owed = c.requires.owed in
    let old = c.args.owed.conds in
    let new = c.in-Ok.conds in
    let list : new.list.items ≡ old.list.items = ap (λ v. v.items) c.in-Ok.ensures.list in
    let p = program_in c.args.owed in
    let here = same_conditions old.terms new.terms old.list.items c.in-Ok.ensures.length c.in-Ok.ensures.kept owed.numbers ∙ owed.conditions in
    let formed = formed_each new.terms old.list.items (subst AreFormed (sym here) (subst AreFormed owed.conditions owed.formed)) (subst AreFoldedThroughout (sym here) (conditions_folded p.core p.flow)) in
    record {
      each = c.in-Ok.ensures.count ∙ ap (λ (l : List Cond). length l) (sym list);
      few = subst (λ (l : List Cond). length l ≤ most_conditions) (sym list) owed.few;
      named = c.in-Ok.ensures.named;
      within = subst (All (IsWithin (length new.terms))) (sym list) (all_within old.terms new.terms old.list.items c.in-Ok.ensures.length owed.numbers);
      formed = subst (All (λ (d : Cond). IsFormedThroughout (condition_of new.terms d))) (sym list) formed;
    }
