-- Counts of verdicts, and tests of all of them.
use Rattle.std.proofs.Common.{◌≡◌, ◌∙◌, ◌<◌, ◌≤◌, ◌+◌, ℕ, zero, suc, List, [], ◌∷◌, length, drop, get_or, map, Bool, true, false, sym, ap, arith}
use Rattle.std.specs.Prelude.{◌&&◌, if◌then◌else◌}
use Rattle.std.proofs.lemmas.List.{drop_all}
use Rattle.wy_batch.specs.Known.{End, count, is_closed}
use Rattle.wy_top.specs.Acceptance.{are_closed}
use Rattle.wy_batch.specs.Seen.{known, seen_end}
use Rattle.wy_batch.specs.declared.verdict.Verdict.{Verdict}

-- the first of what is left
at_drop : (xs : List Verdict) (i : ℕ) (x : Verdict) → i < length xs → x ≡ get_or xs i x → drop i xs ≡ x ∷ drop (i + 1) xs
at_drop [] i x lt is = absurd (omega (arith, lt))
at_drop (y ∷ xs) zero x lt is = ap (λ (z : Verdict). z ∷ xs) (sym is)
at_drop (y ∷ xs) (suc i) x lt is = at_drop xs i x (omega (arith, lt)) is ∙ ap (λ (k : ℕ). x ∷ drop k (y ∷ xs)) behind
  where
    behind : suc (i + 1) ≡ suc i + 1
    behind = omega arith

-- ---- counts

abbrev counted : Bool → ℕ → ℕ
counted b n = if b then suc n else n

pub count_more : (test : End → Bool) (xs : List Verdict) (i : ℕ) (x : Verdict) (n whole : ℕ) → n + count test (map known (drop i xs)) ≡ whole → i < length xs → x ≡ get_or xs i x → test (seen_end x.end) ≡ true → n + 1 + count test (map known (drop (i + 1) xs)) ≡ whole
count_more test xs i x n whole so lt is so_it_is =
    let here : n + count test (map known (drop i xs)) ≡ n + suc (count test (map known (drop (i + 1) xs))) = ap (λ (ys : List Verdict). n + count test (map known ys)) (at_drop xs i x lt is) ∙ ap (λ (b : Bool). n + counted b (count test (map known (drop (i + 1) xs)))) so_it_is in
    omega (arith, here, so)

pub count_same : (test : End → Bool) (xs : List Verdict) (i : ℕ) (x : Verdict) (n whole : ℕ) → n + count test (map known (drop i xs)) ≡ whole → i < length xs → x ≡ get_or xs i x → test (seen_end x.end) ≡ false → n + count test (map known (drop (i + 1) xs)) ≡ whole
count_same test xs i x n whole so lt is not_so =
    let here : n + count test (map known (drop i xs)) ≡ n + count test (map known (drop (i + 1) xs)) = ap (λ (ys : List Verdict). n + count test (map known ys)) (at_drop xs i x lt is) ∙ ap (λ (b : Bool). n + counted b (count test (map known (drop (i + 1) xs)))) not_so in
    omega (arith, here, so)

pub count_end : (test : End → Bool) (xs : List Verdict) (i n whole : ℕ) → n + count test (map known (drop i xs)) ≡ whole → length xs ≤ i → n ≡ whole
count_end test xs i n whole so le =
    let here : n + count test (map known (drop i xs)) ≡ n + 0 = ap (λ (ys : List Verdict). n + count test (map known ys)) (drop_all i xs le) in
    omega (arith, here, so)

pub ruleset count_steps = (count_more, count_same, count_end)

-- ---- all are closed

pub closed_more : (xs : List Verdict) (i : ℕ) (x : Verdict) (whole : Bool) → are_closed (map known (drop i xs)) ≡ whole → i < length xs → x ≡ get_or xs i x → is_closed (seen_end x.end) ≡ true → are_closed (map known (drop (i + 1) xs)) ≡ whole
closed_more xs i x whole so lt is so_it_is =
    sym (ap (λ (b : Bool). b && are_closed (map known (drop (i + 1) xs))) so_it_is) ∙ ap (λ (ys : List Verdict). are_closed (map known ys)) (sym (at_drop xs i x lt is)) ∙ so

pub closed_not : (xs : List Verdict) (i : ℕ) (x : Verdict) (whole : Bool) → are_closed (map known (drop i xs)) ≡ whole → i < length xs → x ≡ get_or xs i x → is_closed (seen_end x.end) ≡ false → false ≡ whole
closed_not xs i x whole so lt is not_so =
    sym (ap (λ (b : Bool). b && are_closed (map known (drop (i + 1) xs))) not_so) ∙ ap (λ (ys : List Verdict). are_closed (map known ys)) (sym (at_drop xs i x lt is)) ∙ so

pub closed_end : (xs : List Verdict) (i : ℕ) (whole : Bool) → are_closed (map known (drop i xs)) ≡ whole → length xs ≤ i → true ≡ whole
closed_end xs i whole so le = ap (λ (ys : List Verdict). are_closed (map known ys)) (sym (drop_all i xs le)) ∙ so

pub ruleset closed_steps = (closed_more, closed_not, closed_end)
