-- The best of the entries from one place on.
use Rattle.std.proofs.Common.{◌≡◌, ◌<◌, ℕ, zero, suc, List, [], ◌∷◌, get_or, length, drop, Option, sym, ap, ◌∙◌, arith}
use Rattle.std.specs.Prelude.{slice_get}
use Rattle.wy_lin_eliminate.specs.Variables.{Counts, better, best_from}
use Rattle.wy_lemmas.proofs.Options.{some}

pub entry_there : (es : List (ℕ × Counts)) (i : ℕ) (v : ℕ) (n : Counts) → some (v, n) ≡ slice_get es i → (v, n) ≡ get_or es i (v, n)
entry_there [] i v n e = absurd cc
entry_there (x ∷ xs) zero v n e =
    let is : (v, n) ≡ x = cc in
    is
entry_there (x ∷ xs) (suc i) v n e = entry_there xs i v n e

best_step : (es : List (ℕ × Counts)) (i : ℕ) (e : ℕ × Counts) (b : Option (ℕ × ℕ)) → i < length es → e ≡ get_or es i e → best_from b (drop i es) ≡ best_from (better b e) (drop (suc i) es)
best_step [] i e b lt is = absurd (omega (arith, lt))
best_step (x ∷ xs) zero e b lt is = ap (λ (y : ℕ × Counts). best_from (better b y) xs) (sym is)
best_step (x ∷ xs) (suc i) e b lt is = best_step xs i e b (omega (arith, lt)) is

pub best_more : (es : List (ℕ × Counts)) (i n : ℕ) (e : ℕ × Counts) (b c whole : Option (ℕ × ℕ)) → i < length es → e ≡ get_or es i e → n ≡ suc i → c ≡ better b e → best_from b (drop i es) ≡ whole → best_from c (drop n es) ≡ whole
best_more es i n e b c whole lt is next new before =
    ap (λ (x : Option (ℕ × ℕ)). best_from x (drop n es)) new
    ∙ ap (λ (k : ℕ). best_from (better b e) (drop k es)) next
    ∙ sym (best_step es i e b lt is) ∙ before
