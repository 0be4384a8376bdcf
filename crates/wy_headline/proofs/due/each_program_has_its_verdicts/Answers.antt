use Rattle.wy_headline.proofs.due_lemmas.DueLemmas.{each_known, one_due}
use Rattle.wy_headline.proofs.due.each_program_has_its_verdicts.Goals as goal

pub returns : goal.returns
returns c = record { known = each_known; due = one_due }
