use Rattle.wy_sound_kinds.proofs.suits_lemmas.SuitLemmas.{code_suits, contracts_suit}
use Rattle.wy_sound_kinds.proofs.suits.expressions_suit.Goals as goal

pub returns : goal.returns
returns c = record { code = code_suits; contracts = contracts_suit }
