-- Terms of one head, with parts of equal senses, have one sense.
use Rattle.std.proofs.Common.{◌≡◌, ◌∙◌, List, true, ℤ, refl, sym, ap, subst}
use Rattle.wy_search_bounds.specs.wy_term.Term as term
use Rattle.wy_search_bounds.specs.wy_term.Term.{Symbol, Term, Of, Parts, no_parts, part}
use Rattle.wy_search_bounds.specs.wy_term.Sorts.{val_sort, sort_of, sort_in}
use Rattle.wy_search_bounds.specs.wy_term.Meaning.{Names, Sense, valued, sense, senses_of, meaning}

-- ---- senses of Val terms

of_val : (symbol : Symbol) (ps : List (Names → Sense)) (names : Names) → sort_of symbol ≡ val_sort → meaning symbol ps names ≡ valued (meaning symbol ps names).datum
of_val (term.val_name w n) ps names e = refl
of_val term.null ps names e = refl
of_val (term.truth b) ps names e = refl
of_val term.int ps names e = refl
of_val term.bool ps names e = refl
of_val term.array ps names e = refl
of_val term.repeat ps names e = refl
of_val term.update ps names e = refl
of_val term.get ps names e = refl
of_val (term.fields ns) ps names e = refl
of_val (term.field n) ps names e = refl
of_val (term.set_field n) ps names e = refl
of_val symbol ps names e = absurd cc

term_of_val : (t : Term) (names : Names) → sort_in t ≡ val_sort → sense names t ≡ valued (sense names t).datum
term_of_val (Of symbol ps) names e = of_val symbol (senses_of ps) names e

-- Val terms of one datum have one sense
pub same_datum_same : (names : Names) (v w : Term) → sort_in v ≡ val_sort → sort_in w ≡ val_sort → (sense names v).datum ≡ (sense names w).datum → sense names v ≡ sense names w
same_datum_same names v w is_v is_w e = term_of_val v names is_v ∙ (ap valued e ∙ sym (term_of_val w names is_w))

-- ---- one head
