-- An Int term, by the front of the text.
use Rattle.std.proofs.Common.{◌≡◌, ℕ, inl, inr, List, [], ◌∷◌, ◌++◌, Option, Some, None, refl, sym, ap, ◌∙◌, subst, length}
use Rattle.std.specs.Fmt.{decimal, signed_decimal}
use Rattle.wy_term.specs.Term.{DataKind, Symbol, Term, Of, Parts, no_parts, part, leaf}
use Rattle.wy_term.specs.Term as term
use Rattle.wy_term.specs.Sorts.{int_sort}
use Rattle.wy_term_text.specs.declared.spell.lead.Lead.{Lead}
use Rattle.wy_term_text.specs.declared.spell.lead.Lead.TheVariants as lead
use Rattle.wy_term_text.specs.declared.spell.lead.Class.{Class}
use Rattle.wy_term_text.specs.declared.spell.lead.Class.TheVariants as class
use Rattle.wy_term_text.specs.spell.Grammar.{Spans}
use Rattle.wy_term_text.specs.spell.Made.{made}
use Rattle.wy_term_text.specs.spell.Todo.{Ways, OneTerm}
use Rattle.wy_term_text.specs.spell.Heads.{class_at, lead_at, IntBy, ByLead, ByWorks, int_works}
use Rattle.wy_term_text.proofs.spell_lemmas.FrontLemmas.{class_of_name, class_of_number, lead_word, lead_is}
use Rattle.wy_term_text.proofs.spell_lemmas.LaidLemmas.{leaf_up, leaf_down, led_up, led_down}

-- what may come of an Int term comes of what stands at the front
pub int_up : (symbol : Symbol) (ps : Parts) (base : ℕ) (next : Ways) (i k : List ℕ) (done : List Term) (r : Term) → length done ≡ base → Spans (Of symbol ps) int_sort i k → next k (done ++ made (Of symbol ps) ∷ []) r → IntBy (class_at i) base i next done r
unfolding class_at lead_at
int_up (term.number z) no_parts base next i k done r is (s, range, inl c) h = absurd c
int_up (term.number z) no_parts base next i k done r is (s, range, inr (l, opens, laid, stops)) h =
    subst (λ c. IntBy c base i next done r) (sym (ap class_at opens ∙ class_of_number z l range))
    (z, k, record { is = opens ∙ ap (λ x. signed_decimal z ++ x) laid; small = range; ends = stops }, leaf_up (term.number z) base next k done r is refl h)
int_up (term.number z) (part t ps) base next i k done r is (s, range, inl c) h = absurd c
int_up (term.number z) (part t ps) base next i k done r is (s, range, inr (l, opens, laid, stops)) h = absurd laid
int_up (term.int_name w n) no_parts base next i k done r is (s, range, inl c) h = absurd c
int_up (term.int_name w n) no_parts base next i k done r is (s, range, inr (l, opens, laid, stops)) h =
    subst (λ c. IntBy c base i next done r) (sym (ap class_at opens ∙ class_of_name w (decimal n ++ l) 35 range.word refl refl))
    (w, n, k, record { is = opens ∙ ap (λ x. w ++ (35 ∷ (decimal n ++ x))) laid; word = range.word; small = range.small; ends = stops }, leaf_up (term.int_name w n) base next k done r is refl h)
int_up (term.int_name w n) (part t ps) base next i k done r is (s, range, inl c) h = absurd c
int_up (term.int_name w n) (part t ps) base next i k done r is (s, range, inr (l, opens, laid, stops)) h = absurd laid
int_up term.add ps base next i k done r is (s, range, inl c) h = absurd c
int_up term.add ps base next i k done r is (s, range, inr (l, opens, laid, stops)) h =
    subst (λ x. IntBy (class_at x) base x next done r) (sym opens) (refl, led_up term.add ps base next l k done r is refl laid h)
int_up term.sub ps base next i k done r is (s, range, inl c) h = absurd c
int_up term.sub ps base next i k done r is (s, range, inr (l, opens, laid, stops)) h =
    subst (λ x. IntBy (class_at x) base x next done r) (sym opens) (refl, led_up term.sub ps base next l k done r is refl laid h)
int_up term.neg ps base next i k done r is (s, range, inl c) h = absurd c
int_up term.neg ps base next i k done r is (s, range, inr (l, opens, laid, stops)) h =
    subst (λ x. IntBy (class_at x) base x next done r) (sym opens) (refl, led_up term.neg ps base next l k done r is refl laid h)
int_up term.mul ps base next i k done r is (s, range, inl c) h = absurd c
int_up term.mul ps base next i k done r is (s, range, inr (l, opens, laid, stops)) h =
    subst (λ x. IntBy (class_at x) base x next done r) (sym opens) (refl, led_up term.mul ps base next l k done r is refl laid h)
int_up term.div ps base next i k done r is (s, range, inl c) h = absurd c
int_up term.div ps base next i k done r is (s, range, inr (l, opens, laid, stops)) h =
    subst (λ x. IntBy (class_at x) base x next done r) (sym opens) (refl, led_up term.div ps base next l k done r is refl laid h)
int_up term.rem ps base next i k done r is (s, range, inl c) h = absurd c
int_up term.rem ps base next i k done r is (s, range, inr (l, opens, laid, stops)) h =
    subst (λ x. IntBy (class_at x) base x next done r) (sym opens) (refl, led_up term.rem ps base next l k done r is refl laid h)
int_up term.num ps base next i k done r is (s, range, inl c) h = absurd c
int_up term.num ps base next i k done r is (s, range, inr (l, opens, laid, stops)) h =
    subst (λ x. IntBy (class_at x) base x next done r) (sym opens) (refl, led_up term.num ps base next l k done r is refl laid h)
int_up term.len ps base next i k done r is (s, range, inl c) h = absurd c
int_up term.len ps base next i k done r is (s, range, inr (l, opens, laid, stops)) h =
    subst (λ x. IntBy (class_at x) base x next done r) (sym opens) (refl, led_up term.len ps base next l k done r is refl laid h)
int_up symbol ps base next i k done r is (s, range, other) h = absurd (cc)

by_int_lead : (l : Lead) (base : ℕ) (next : Ways) (i k : List ℕ) (done : List Term) (r : Term) → length done ≡ base → i ≡ lead_word l ++ k → ByWorks (int_works l base) k next done r → OneTerm int_sort next i done r
by_int_lead lead.Add base next i k done r is front h = let p = led_down term.add base next k done r is h in (Of term.add p.parts, p.left, (refl, tt, inr (k, front, p.laid, tt)), p.rest)
by_int_lead lead.Sub base next i k done r is front h = let p = led_down term.sub base next k done r is h in (Of term.sub p.parts, p.left, (refl, tt, inr (k, front, p.laid, tt)), p.rest)
by_int_lead lead.Neg base next i k done r is front h = let p = led_down term.neg base next k done r is h in (Of term.neg p.parts, p.left, (refl, tt, inr (k, front, p.laid, tt)), p.rest)
by_int_lead lead.Mul base next i k done r is front h = let p = led_down term.mul base next k done r is h in (Of term.mul p.parts, p.left, (refl, tt, inr (k, front, p.laid, tt)), p.rest)
by_int_lead lead.Div base next i k done r is front h = let p = led_down term.div base next k done r is h in (Of term.div p.parts, p.left, (refl, tt, inr (k, front, p.laid, tt)), p.rest)
by_int_lead lead.Mod base next i k done r is front h = let p = led_down term.rem base next k done r is h in (Of term.rem p.parts, p.left, (refl, tt, inr (k, front, p.laid, tt)), p.rest)
by_int_lead lead.Num base next i k done r is front h = let p = led_down term.num base next k done r is h in (Of term.num p.parts, p.left, (refl, tt, inr (k, front, p.laid, tt)), p.rest)
by_int_lead lead.Len base next i k done r is front h = let p = led_down term.len base next k done r is h in (Of term.len p.parts, p.left, (refl, tt, inr (k, front, p.laid, tt)), p.rest)
by_int_lead l base next i k done r is front h = absurd h

int_led : (o : Option (Lead × List ℕ)) (base : ℕ) (next : Ways) (i : List ℕ) (done : List Term) (r : Term) → length done ≡ base → lead_at i ≡ o → ByLead int_sort base o next done r → OneTerm int_sort next i done r
int_led None base next i done r is front h = absurd h
int_led (Some (l, k)) base next i done r is front h = by_int_lead l base next i k done r is (lead_is i l k front) h.1

-- and the other way
pub int_down : (c : Class) (base : ℕ) (next : Ways) (i : List ℕ) (done : List Term) (r : Term) → length done ≡ base → IntBy c base i next done r → OneTerm int_sort next i done r
int_down class.Number base next i done r is (z, k, at, h) = (leaf (term.number z), k, (refl, at.small, inr (k, at.is, refl, at.ends)), leaf_down (term.number z) base next k done r is h)
int_down class.IntName base next i done r is (w, n, k, at, h) = (leaf (term.int_name w n), k, (refl, record { word = at.word; small = at.small }, inr (k, at.is, refl, at.ends)), leaf_down (term.int_name w n) base next k done r is h)
int_down class.ValName base next i done r is h = absurd h
int_down class.Lead base next i done r is h = int_led (lead_at i) base next i done r is refl h
int_down class.Datum base next i done r is h = int_led (lead_at i) base next i done r is refl h
