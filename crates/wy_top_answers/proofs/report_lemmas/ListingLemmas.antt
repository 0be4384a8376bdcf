-- A text to which lines are added.
use Rattle.std.proofs.Common.{◌≡◌, ℕ, ◌+◌, ◌<◌, ◌≤◌, List, [], ◌∷◌, ◌++◌, length, drop, get_or, map, zero, suc, refl, sym, ap, ◌∙◌, arith, append_assoc, add-one}
use Rattle.std.proofs.lemmas.List.{append-nil}
use Rattle.std.proofs.Math.Seq.{drop-cons}
use Rattle.wy_term.specs.Term.{Term}
use Rattle.wy_top_answers.specs.report.Listing.{formula_line, formula_lines}

at_drop : (xs : List ℕ) (i x : ℕ) → i < length xs → x ≡ get_or xs i x → drop i xs ≡ x ∷ drop (i + 1) xs
at_drop xs i x lt is = rw (add-one, drop-cons xs i x) (ap (λ y. y ∷ drop (suc i) xs) (sym is))

drop_all : (xs : List ℕ) (i : ℕ) → length xs ≤ i → drop i xs ≡ []
drop_all [] zero le = refl
drop_all [] (suc i) le = refl
drop_all (x ∷ xs) zero le = absurd (omega (arith, le))
drop_all (x ∷ xs) (suc i) le = drop_all xs i (omega (arith, le))

-- one more formula is written
pub lines_more : (tree : ℕ → Term) (xs : List ℕ) (i x : ℕ) (out new whole : List ℕ) → i < length xs → x ≡ get_or xs i x
    → out ++ formula_lines (map tree (drop i xs)) ≡ whole → new ≡ out ++ formula_line (tree x) → new ++ formula_lines (map tree (drop (i + 1) xs)) ≡ whole
lines_more tree xs i x out new whole lt is so_far e =
    ap (λ y. y ++ formula_lines (map tree (drop (i + 1) xs))) e
    ∙ append_assoc out (formula_line (tree x)) (formula_lines (map tree (drop (i + 1) xs)))
    ∙ ap (λ ys. out ++ formula_lines (map tree ys)) (sym (at_drop xs i x lt is))
    ∙ so_far

-- all are written
pub lines_end : (tree : ℕ → Term) (xs : List ℕ) (i : ℕ) (out whole : List ℕ) → length xs ≤ i → out ++ formula_lines (map tree (drop i xs)) ≡ whole → out ≡ whole
lines_end tree xs i out whole le so_far = sym (append-nil out) ∙ ap (λ ys. out ++ formula_lines (map tree ys)) (sym (drop_all xs i le)) ∙ so_far

pub ruleset lines_steps = (lines_more, lines_end)
