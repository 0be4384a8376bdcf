use Rattle.wy_data.proofs.scan_lemmas.NameBytes.{name_is_word}
use Rattle.wy_data.proofs.scan.law.names_are_words.Goals as goal

pub returns : goal.returns
returns c = name_is_word
