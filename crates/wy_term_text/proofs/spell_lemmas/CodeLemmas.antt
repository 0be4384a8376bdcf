-- What the code finds at the front of a text is what the definitions say.
use Rattle.std.proofs.Common.{◌≡◌, ℕ, ◌<◌, ◌≤◌, ◌+◌, Bool, true, false, List, [], ◌∷◌, ◌++◌, Option, Some, None, length, map, drop, get_or, refl, sym, ap, ◌∙◌, subst, Bor, ◌==◌, if◌then◌else◌, eq-eqb, eqb-true}
use Rattle.std.proofs.lemmas.List.{drop_all}
use Rattle.wy_term.proofs.wy_lemmas_proofs.Lists.{at_drop}
use Rattle.wy_term.specs.wy_data.scan.Front.{is_word_byte, heads, IsRun, IsBehind, NotBehind}
use Rattle.wy_term_text.specs.declared.spell.lead.Lead.{Lead}
use Rattle.wy_term_text.specs.declared.spell.lead.Class.TheVariants as class
use Rattle.wy_term_text.specs.spell.Heads.{behind_word, row_or, lead_in, class_at, by_sign, behind_run, is_number_byte}
use Rattle.wy_term_text.proofs.spell_lemmas.FrontLemmas.{behind_run_of}

pub behind_word_some : (w i k : List ℕ) → IsBehind w i k → behind_word w i ≡ Some k
behind_word_some [] i k at = ap (λ x. Some x) at.is
behind_word_some (c ∷ w) i k at = subst (λ x. behind_word (c ∷ w) x ≡ Some k) (sym at.is) (rw (eq-eqb c c refl) (behind_word_some w (w ++ k) k (record { is = refl })))

pub behind_word_none : (w i : List ℕ) → NotBehind w i → behind_word w i ≡ None
behind_word_none [] i none = absurd (none i (record { is = refl }))
behind_word_none (c ∷ w) [] none = refl
behind_word_none (c ∷ w) (b ∷ i) none = by (b == c) refl (λ absent. behind_word_none w i absent)
  where
    by : (t : Bool) → (b == c) ≡ t → (NotBehind w i → behind_word w i ≡ None) → (if t then behind_word w i else None) ≡ None
    by true e others = others (λ k at. none k (record { is = let same = eqb-true b c e in let rest = at.is in cc }))
    by false e others = refl

-- a number stands at the front
pub number_class : (i : List ℕ) → heads is_number_byte i ≡ true → class.Number ≡ class_at i
unfolding class_at
number_class i h = rw h refl

-- the class by what follows the run
pub run_class : (i front rest : List ℕ) → heads is_number_byte i ≡ false → IsRun is_word_byte i front rest → class_at i ≡ by_sign rest
unfolding class_at
run_class i front rest h run = rw h (ap by_sign (subst (λ x. behind_run x ≡ rest) (sym run.is) (behind_run_of front rest run.passes run.ends)))

pub ruleset class_steps = (number_class, run_class)

-- ---- the table of words, from a row on

-- a row of the code as plain data
abbrev pub row_of : Bor (List ℕ) × Lead → List ℕ × Lead
row_of p = (p.0.now, p.1)

here_or_later : (rows : List (Bor (List ℕ) × Lead)) (k : ℕ) (text : List ℕ) (d : Bor (List ℕ) × Lead) → k < length rows
    → lead_in (map row_of (drop k rows)) text ≡ row_or (get_or rows k d).1 (behind_word (get_or rows k d).0.now text) (lead_in (map row_of (drop (k + 1) rows)) text)
here_or_later rows k text d lt = ap (λ (xs : List (Bor (List ℕ) × Lead)). lead_in (map row_of xs) text) (at_drop rows k d lt)

pub row_found : (rows : List (Bor (List ℕ) × Lead)) (k : ℕ) (text w rest : List ℕ) (all : Option (Lead × List ℕ)) (d : Bor (List ℕ) × Lead) → k < length rows → w ≡ (get_or rows k d).0.now → IsBehind w text rest
    → lead_in (map row_of (drop k rows)) text ≡ all → all ≡ Some ((get_or rows k d).1, rest)
row_found rows k text w rest all d lt is at so_far =
    sym so_far ∙ here_or_later rows k text d lt ∙ ap (λ o. row_or (get_or rows k d).1 o (lead_in (map row_of (drop (k + 1) rows)) text)) (ap (λ v. behind_word v text) (sym is) ∙ behind_word_some w text rest at)

pub row_passed : (rows : List (Bor (List ℕ) × Lead)) (k : ℕ) (text w : List ℕ) (all : Option (Lead × List ℕ)) (d : Bor (List ℕ) × Lead) → k < length rows → w ≡ (get_or rows k d).0.now → NotBehind w text
    → lead_in (map row_of (drop k rows)) text ≡ all → lead_in (map row_of (drop (k + 1) rows)) text ≡ all
row_passed rows k text w all d lt is absent so_far =
    sym (here_or_later rows k text d lt ∙ ap (λ o. row_or (get_or rows k d).1 o (lead_in (map row_of (drop (k + 1) rows)) text)) (ap (λ v. behind_word v text) (sym is) ∙ behind_word_none w text absent)) ∙ so_far

pub rows_end : (rows : List (Bor (List ℕ) × Lead)) (k : ℕ) (text : List ℕ) (all : Option (Lead × List ℕ)) → length rows ≤ k → lead_in (map row_of (drop k rows)) text ≡ all → all ≡ None
rows_end rows k text all le so_far = sym so_far ∙ ap (λ (xs : List (Bor (List ℕ) × Lead)). lead_in (map row_of xs) text) (drop_all k rows le)

pub ruleset lead_steps = (row_found, row_passed, rows_end)
