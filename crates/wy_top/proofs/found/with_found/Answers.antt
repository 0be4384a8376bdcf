use Rattle.std.proofs.Common.{◌≡◌, None, true, refl, subst, sym}
use Rattle.wy_prove.specs.Answers.{AnswersWhatIsFound}
use Rattle.wy_term.specs.Condition.{condition_of}
use Rattle.wy_batch.specs.Known.{is_found}
use Rattle.wy_batch.specs.Seen.{seen_end}
use Rattle.wy_batch.specs.declared.verdict.End.{End}
use Rattle.wy_top.proofs.FoundLemmas.{found_lacks}
use Rattle.wy_top.proofs.found.with_found.Goals as goal

pub returns-in-Found-clause-lacking : goal.returns-in-Found-clause-lacking
returns-in-Found-clause-lacking c =
    found_lacks c.args.end.now (AnswersWhatIsFound (condition_of c.args.terms.now c.args.cond.now) c.args.budget None) c.with_certified.result (subst (λ (e : End). is_found (seen_end e) ≡ true) (sym c.in-Found.is) refl) c.with_certified.ensures.lacking
