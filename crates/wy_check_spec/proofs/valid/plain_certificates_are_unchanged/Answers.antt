use Rattle.wy_check_spec.proofs.valid_lemmas.PlainLemmas.{plain_is_unchanged}
use Rattle.wy_check_spec.proofs.valid.plain_certificates_are_unchanged.Goals as goal

pub returns : goal.returns
returns c = record { unchanged = plain_is_unchanged }
