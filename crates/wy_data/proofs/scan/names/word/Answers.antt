use Rattle.std.proofs.Common.{◌≡◌, false, rules}
use Rattle.wy_lemmas.proofs.Choices.{unlike as true_false}
use Rattle.wy_data.proofs.scan_lemmas.WordLemmas.{no_word_front, from_true}
use Rattle.wy_data.proofs.scan.names.word.Goals as goal

pub returns-then-not-branch : goal.returns-then-not-branch
returns-then-not-branch c =
    let refused : c.in_ok-is_whole_word.field-0 ≡ false = search rules in
    record { value = no_word_front _ _ _ c.run.ensures.value (λ w. true_false c.in_ok-is_whole_word.field-0 (from_true c.in_ok-is_whole_word.field-0 (c.in_ok-is_whole_word.ensures.value.1 w)) refused) }
