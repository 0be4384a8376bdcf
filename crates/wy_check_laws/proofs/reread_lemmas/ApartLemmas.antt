-- The text of a formula but `true` and `false` spells no term.
use Rattle.std.proofs.Common.{◌≡◌, ℕ, List, [], Some, None, ◌⊎◌, inl, inr, refl, sym, ap, ◌∙◌, subst}
use Rattle.wy_check_spec.specs.wy_term.Term as term
use Rattle.wy_check_spec.specs.wy_term.Term.{Symbol, Term, Of, Parts, no_parts, part}
use Rattle.wy_check_spec.specs.wy_term.Sorts.{int_sort, val_sort, formula_sort}
use Rattle.wy_check_spec.specs.wy_term_text.show.Text.{text_of}
use Rattle.wy_check_spec.specs.wy_term_text.reread.Shown.{IsOf}
use Rattle.wy_check_spec.proofs.wy_term_text_proofs.reread_lemmas.ShownLemmas.{shown_spells}
use Rattle.wy_check_spec.specs.wy_term_text.spell.Grammar.{Spans}
use Rattle.wy_check_spec.specs.wy_term_text.spell.Made.{SpellsNoTerm}
use Rattle.wy_check_spec.specs.wy_term_text.spell.Heads.{class_at, lead_at, IntBy, ValBy}
use Rattle.wy_check_spec.proofs.wy_term_text_proofs.spell_lemmas.GoesUp.{Anything, int_front, val_front}
use Rattle.wy_check_laws.specs.reread.Writable.{IsNoConstant}
use Rattle.wy_check_laws.proofs.reread_lemmas.WalkLemmas.{walk, spans_walk}

-- a term could begin so
abbrev Begins : List ℕ → Term → Type 0
Begins i u = IntBy (class_at i) 0 i Anything [] u ⊎ ValBy (class_at i) 0 i Anything [] u

nothing_behind : (d : ℕ) → None ≡ Some d → ⊥
nothing_behind d e = absurd cc

-- a space outside of all brackets
spaced_apart : (i k l : List ℕ) → i ≡ k → walk 0 k ≡ walk 0 l → walk 0 l ≡ None → walk 0 i ≡ Some 0 → ⊥
spaced_apart i k l opens first behind flat = nothing_behind 0 (sym behind ∙ (sym first ∙ (sym (ap (walk 0) opens) ∙ flat)))

apart : (symbol : Symbol) (ps : Parts) (i : List ℕ) (u : Term) → Spans (Of symbol ps) formula_sort i [] → IsNoConstant (Of symbol ps) → walk 0 i ≡ Some 0 → Begins i u → ⊥
unfolding class_at lead_at
apart term.at_most no_parts i u (s, range, inl c) ok flat b = absurd c
apart term.at_most no_parts i u (s, range, inr (l, opens, laid, stops)) ok flat b = absurd laid
apart term.at_most (part t ps) i u (s, range, inl c) ok flat b = absurd c
apart term.at_most (part t ps) i u (s, range, inr (l, opens, laid, stops)) ok flat b =
    spaced_apart i laid.0 laid.1 (opens ∙ laid.3) (spans_walk t int_sort laid.0 laid.1 0 tt laid.4) (ap (walk 0) laid.5) flat
apart term.equal no_parts i u (s, range, inl c) ok flat b = absurd c
apart term.equal no_parts i u (s, range, inr (l, opens, laid, stops)) ok flat b = absurd laid
apart term.equal (part t ps) i u (s, range, inl c) ok flat b = absurd c
apart term.equal (part t ps) i u (s, range, inr (l, opens, laid, stops)) ok flat b =
    spaced_apart i laid.0 laid.1 (opens ∙ laid.3) (spans_walk t val_sort laid.0 laid.1 0 tt laid.4) (ap (walk 0) laid.5) flat
apart (term.of_kind kind) ps i u (s, range, inl c) ok flat b = absurd c
apart (term.of_kind kind) ps i u (s, range, inr (l, opens, laid, stops)) ok flat (inl b) = (subst (λ x. IntBy (class_at x) 0 x Anything [] u) opens b).1
apart (term.of_kind kind) ps i u (s, range, inr (l, opens, laid, stops)) ok flat (inr b) = (subst (λ x. ValBy (class_at x) 0 x Anything [] u) opens b).1
apart (term.in_type n) ps i u (s, range, inl c) ok flat b = absurd c
apart (term.in_type n) ps i u (s, range, inr (l, opens, laid, stops)) ok flat (inl b) = (subst (λ x. IntBy (class_at x) 0 x Anything [] u) opens b).1
apart (term.in_type n) ps i u (s, range, inr (l, opens, laid, stops)) ok flat (inr b) = (subst (λ x. ValBy (class_at x) 0 x Anything [] u) opens b).1
apart (term.every w n) ps i u (s, range, inl c) ok flat b = absurd c
apart (term.every w n) ps i u (s, range, inr (l, opens, laid, stops)) ok flat (inl b) = (subst (λ x. IntBy (class_at x) 0 x Anything [] u) opens b).1
apart (term.every w n) ps i u (s, range, inr (l, opens, laid, stops)) ok flat (inr b) = (subst (λ x. ValBy (class_at x) 0 x Anything [] u) opens b).1
apart (term.exists w n) ps i u (s, range, inl c) ok flat b = absurd c
apart (term.exists w n) ps i u (s, range, inr (l, opens, laid, stops)) ok flat (inl b) = (subst (λ x. IntBy (class_at x) 0 x Anything [] u) opens b).1
apart (term.exists w n) ps i u (s, range, inr (l, opens, laid, stops)) ok flat (inr b) = (subst (λ x. ValBy (class_at x) 0 x Anything [] u) opens b).1
apart term.denied ps i u (s, range, inl c) ok flat b = absurd c
apart term.denied ps i u (s, range, inr (l, opens, laid, stops)) ok flat (inl b) = (subst (λ x. IntBy (class_at x) 0 x Anything [] u) opens b).1
apart term.denied ps i u (s, range, inr (l, opens, laid, stops)) ok flat (inr b) = (subst (λ x. ValBy (class_at x) 0 x Anything [] u) opens b).1
apart term.all_of no_parts i u spans ok flat b = absurd ok
apart term.all_of (part t ps) i u (s, range, inl c) ok flat b = absurd c
apart term.all_of (part t ps) i u (s, range, inr (l, opens, laid, stops)) ok flat (inl b) = (subst (λ x. IntBy (class_at x) 0 x Anything [] u) opens b).1
apart term.all_of (part t ps) i u (s, range, inr (l, opens, laid, stops)) ok flat (inr b) = (subst (λ x. ValBy (class_at x) 0 x Anything [] u) opens b).1
apart term.any_of no_parts i u spans ok flat b = absurd ok
apart term.any_of (part t ps) i u (s, range, inl c) ok flat b = absurd c
apart term.any_of (part t ps) i u (s, range, inr (l, opens, laid, stops)) ok flat (inl b) = (subst (λ x. IntBy (class_at x) 0 x Anything [] u) opens b).1
apart term.any_of (part t ps) i u (s, range, inr (l, opens, laid, stops)) ok flat (inr b) = (subst (λ x. ValBy (class_at x) 0 x Anything [] u) opens b).1
apart symbol ps i u (s, range, other) ok flat b = absurd (cc)

never : (t u : Term) (i : List ℕ) → Spans t formula_sort i [] → IsNoConstant t → walk 0 i ≡ Some 0 → Begins i u → ⊥
never (Of symbol ps) u i spans ok flat b = apart symbol ps i u spans ok flat b

-- the text of the formula spells no term
pub formula_apart : (t : Term) → IsOf t formula_sort → IsNoConstant t → SpellsNoTerm (text_of t)
formula_apart t h ok = record {
  no_int = record { none = λ u spans. never t u (text_of t) (shown_spells t formula_sort h) ok (spans_walk u int_sort (text_of t) [] 0 tt spans) (inl (int_front u 0 Anything (text_of t) [] [] u refl spans tt)) };
  no_val = record { none = λ u spans. never t u (text_of t) (shown_spells t formula_sort h) ok (spans_walk u val_sort (text_of t) [] 0 tt spans) (inr (val_front u 0 Anything (text_of t) [] [] u refl spans tt)) };
}
