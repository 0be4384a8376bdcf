-- A folded term is made anew as it is, and so it is read as it is shown.
use Rattle.std.proofs.Common.{◌≡◌, refl, sym, ap, ◌∙◌}
use Rattle.wy_term.specs.Term.{Symbol, Term, Of, Parts, no_parts, part}
use Rattle.wy_term.specs.Folding.{folded}
use Rattle.wy_term.specs.Sorts.{Sort}
use Rattle.wy_term_text.specs.show.Text.{text_of}
use Rattle.wy_term_text.specs.spell.Made.{made, made_parts, IsOnly}
use Rattle.wy_term_text.specs.reread.Shown.{IsOf}
use Rattle.wy_term_text.proofs.reread_lemmas.ShownLemmas.{shown_spells}
use Rattle.wy_term_text.specs.reread.Folded.{IsFolded, AreFolded}
use Rattle.wy_term_text.proofs.reread_lemmas.FoldedLemmas.{folded_is}

mutual
  pub folded_stays : (t : Term) → IsFolded t → made t ≡ t
  folded_stays (Of symbol ps) f = ap (λ (qs : Parts). folded (Of symbol qs)) (parts_stay ps f.1) ∙ f.0

  parts_stay : (ps : Parts) → AreFolded ps → made_parts ps ≡ ps
  parts_stay no_parts f = refl
  parts_stay (part t ps) f = rw (folded_stays t f.0, parts_stay ps f.1) refl

mutual
  pub made_folded : (t : Term) → IsFolded (made t)
  made_folded (Of symbol ps) = folded_is symbol (made_parts ps) (parts_made ps)

  parts_made : (ps : Parts) → AreFolded (made_parts ps)
  parts_made no_parts = tt
  parts_made (part t ps) = (made_folded t, parts_made ps)

pub folded_twice : (t : Term) → made (made t) ≡ made t
folded_twice t = folded_stays (made t) (made_folded t)

-- ---- what is shown

pub shown_is_read : (t : Term) (sort : Sort) (r : Term) → IsFolded t → IsOf t sort → IsOnly sort (text_of t) r → r ≡ t
shown_is_read t sort r f is only = sym (only.only t (shown_spells t sort is)) ∙ folded_stays t f
