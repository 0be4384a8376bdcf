-- A text to which the lines of literals are added.
use Rattle.std.proofs.Common.{◌≡◌, ◌∙◌, ◌<◌, ◌≤◌, ◌+◌, ℕ, zero, suc, List, [], ◌∷◌, ◌++◌, length, drop, get_or, map, Bool, true, false, refl, sym, ap, arith, append_assoc}
use Rattle.std.proofs.lemmas.List.{append-nil, drop_all}
use Rattle.wy_prove.specs.wy_check_nodes.Seen.{seen_literal, AreOver}
use Rattle.wy_lemmas.proofs.Lists.{next_of as at_drop}
use Rattle.wy_top_probe.specs.wy_top_answers.report.Listing.{formula_line}
use Rattle.wy_term_text.specs.show.Text.{text_of}
use Rattle.wy_term.specs.Term.{Term}
use Rattle.wy_top_probe.specs.wy_top_answers.wy_check_spec.valid.Literals.{formula_of}
use Rattle.wy_top.specs.Refusals.{literal_lines}
use Rattle.wy_top.specs.Sign.{sign_text}

-- an atom, or its denial, on a line
line_of : (a : Term) (holds : Bool) → sign_text holds ++ (text_of a ++ 10 ∷ []) ≡ formula_line (formula_of (record { atom = a; holds = holds }))
line_of a true = refl
line_of a false = refl

pub literal_line : (old first second new formula sign : List ℕ) (a : Term) (holds : Bool) → sign ≡ sign_text holds → first ≡ old ++ sign → formula ≡ text_of a → second ≡ first ++ formula → new ≡ second ++ 10 ∷ []
    → new ≡ old ++ formula_line (formula_of (record { atom = a; holds = holds }))
literal_line old first second new formula sign a holds sign_is one formula_is two three =
    three
    ∙ ap (λ (l : List ℕ). l ++ 10 ∷ []) (two ∙ (ap (λ (l : List ℕ). l ++ formula) (one ∙ ap (λ (l : List ℕ). old ++ l) sign_is) ∙ ap (λ (l : List ℕ). (old ++ sign_text holds) ++ l) formula_is))
    ∙ (append_assoc (old ++ sign_text holds) (text_of a) (10 ∷ []) ∙ append_assoc old (sign_text holds) (text_of a ++ 10 ∷ []))
    ∙ ap (λ (l : List ℕ). old ++ l) (line_of a holds)

-- a literal's atom is one of the terms
pub over_index : (n : ℕ) (ps : List (ℕ × Bool)) (i : ℕ) (d : ℕ × Bool) → AreOver n ps → i < length ps → (get_or ps i d).0 < n
over_index n [] i d over lt = absurd (omega (arith, lt))
over_index n (q ∷ ps) zero d over lt = over.0
over_index n (q ∷ ps) (suc i) d over lt = over_index n ps i d over.1 (omega (arith, lt))

-- one more literal
pub literals_more : (at : ℕ → Term) (ps : List (ℕ × Bool)) (i : ℕ) (p : ℕ × Bool) (out new whole : List ℕ) → i < length ps → p ≡ get_or ps i p
    → out ++ literal_lines (map (seen_literal at) (drop i ps)) ≡ whole → new ≡ out ++ formula_line (formula_of (seen_literal at p))
    → new ++ literal_lines (map (seen_literal at) (drop (i + 1) ps)) ≡ whole
literals_more at ps i p out new whole lt is so_far e =
    ap (λ (y : List ℕ). y ++ literal_lines (map (seen_literal at) (drop (i + 1) ps))) e
    ∙ append_assoc out (formula_line (formula_of (seen_literal at p))) (literal_lines (map (seen_literal at) (drop (i + 1) ps)))
    ∙ ap (λ (qs : List (ℕ × Bool)). out ++ literal_lines (map (seen_literal at) qs)) (sym (at_drop ps i p lt is))
    ∙ so_far

pub literals_end : (at : ℕ → Term) (ps : List (ℕ × Bool)) (i : ℕ) (out whole : List ℕ) → length ps ≤ i → out ++ literal_lines (map (seen_literal at) (drop i ps)) ≡ whole → out ≡ whole
literals_end at ps i out whole le so_far = sym (append-nil out) ∙ ap (λ (qs : List (ℕ × Bool)). out ++ literal_lines (map (seen_literal at) qs)) (sym (drop_all i ps le)) ∙ so_far

pub ruleset literals_steps = (literals_more, literals_end)
