use Rattle.std.proofs.Common.{◌≡◌, drop, map}
use Rattle.wy_term_text.specs.spell.Heads.{lead_in, lead_at}
use Rattle.wy_term_text.proofs.spell_lemmas.CodeLemmas.{row_of}
use Rattle.wy_term_text.proofs.spell.lead.lead_of.Given as goal

-- the answer is that for the words that are left
abbrev pub invariant-loop-row : goal.invariant-loop-row
invariant-loop-row l = lead_in (map row_of (drop l.row-index l.row-items)) l.text ≡ lead_at l.text
