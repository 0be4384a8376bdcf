use Rattle.std.proofs.Common.{◌≡◌, ◌<◌, ◌∙◌, ◌+◌, length, true, rules, refl, sym, subst, arith}
use Rattle.wy_cert.specs.Steps.{certificates_of}
use Rattle.wy_prove.specs.Answers.{IsFormedThroughout}
use Rattle.wy_term.specs.Condition.{condition_of}
use Rattle.wy_top.specs.Found.{IsMore}
use Rattle.wy_batch.specs.Known.{is_found}
use Rattle.wy_batch.specs.Seen.{seen_end}
use Rattle.wy_batch.specs.declared.verdict.Verdict.{Verdict}
use Rattle.wy_top.proofs.FoundLemmas.{are_named, formed_at, found_turn, is_more, lacks_at}
use Rattle.wy_batch.proofs.JudgedLemmas.{same_condition, within_at}
use Rattle.wy_top.proofs.found.found_certificates.Goals as goal

pub with_found-requires-clause-formed : goal.with_found-requires-clause-formed
with_found-requires-clause-formed c =
    let lt : c.loop-i.i < length c.args.conds.now = search rules in
    let old = c.args.terms.now in
    let cond = c.index-conds-i.result in
    let same = same_condition old c.loop-i.terms cond c.loop-i.invariant.same c.loop-i.invariant.kept (within_at (length old) c.args.conds.now c.loop-i.i cond c.requires.within lt c.index-conds-i.is) in
    subst IsFormedThroughout (sym same) (formed_at (condition_of old) c.args.conds.now c.loop-i.i cond c.requires.formed lt c.index-conds-i.is)

pub returns-in-None-clause-lacking : goal.returns-in-None-clause-lacking
returns-in-None-clause-lacking c = λ none.
    let lt : c.loop-i.i < length c.args.conds.now = search rules in
    let old = c.args.terms.now in
    let now = c.loop-i.terms in
    let cond = c.index-conds-i.result in
    let same = same_condition old now cond c.loop-i.invariant.same c.loop-i.invariant.kept (within_at (length old) c.args.conds.now c.loop-i.i cond c.requires.within lt c.index-conds-i.is) in
    let h = c.in_ok-more.ensures.lacking c.in-None.is in
    lacks_at c.args.budget (condition_of old) c.args.conds.now c.args.verdicts.now c.loop-i.i cond (condition_of now cond) c.index-verdicts-i.result lt (omega (arith, lt, c.requires.each)) c.index-conds-i.is c.index-verdicts-i.is same
    (subst (λ (v : Verdict). is_found (seen_end v.end) ≡ true) (sym c.index-verdicts-i.is) h.0) h.1

pub loop-i-preserved : goal.loop-i-preserved
loop-i-preserved c =
    let lt : c.loop-i.i < length c.args.conds.now = search rules in
    let old = c.args.terms.now in
    let now = c.loop-i.terms in
    let cond = c.index-conds-i.result in
    let same = same_condition old now cond c.loop-i.invariant.same c.loop-i.invariant.kept (within_at (length old) c.args.conds.now c.loop-i.i cond c.requires.within lt c.index-conds-i.is) in
    record {
      so_far = found_turn (condition_of old) c.args.conds.now c.args.verdicts.now c.loop-i.i (c.loop-i.i + 1) cond (condition_of now cond) c.index-verdicts-i.result (certificates_of c.loop-i.certs) (certificates_of c.in-Some.more)
          c.requires.each lt c.index-conds-i.is c.index-verdicts-i.is refl same c.loop-i.invariant.so_far
          (subst (λ (v : Verdict). IsMore (c.loop-i.i + 1) (condition_of now cond) (seen_end v.end) (certificates_of c.loop-i.certs) (certificates_of c.in-Some.more)) (sym c.index-verdicts-i.is)
          (is_more (c.loop-i.i + 1) (condition_of now cond) _ (certificates_of c.loop-i.certs) c.in_ok-more.field-0 c.in-Some.more c.in-Some.is c.in_ok-more.ensures.value));
      named = are_named c.in_ok-more.field-0 c.in-Some.more c.in-Some.is c.in_ok-more.ensures.named;
      same = c.in_ok-more.ensures.length ∙ c.loop-i.invariant.same;
      kept = λ t lt. c.in_ok-more.ensures.kept t (omega (arith, lt, c.loop-i.invariant.same)) ∙ c.loop-i.invariant.kept t lt;
    }
