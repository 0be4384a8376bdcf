-- Where a name is cut at its last slash.
use Rattle.std.proofs.Common.{◌≡◌, ◌≢◌, ◌∙◌, ◌<◌, ◌≤◌, ◌+◌, ◌-◌, ℕ, zero, suc, List, length, get_or, take, drop, Some, None, MatchOption, Bor, ⊎_elim, arith, refl, sym, ap, get_or-drop, length-drop, eq-eqb, ne_eqb}
use Rattle.std.specs.Option.{option_map}
use Rattle.std.specs.Prelude.{Option}
use Rattle.std.specs.Path.{rfind_below, rsplit_once}
use Rattle.std.specs.Str.Pattern.{RFindsChar}
use Rattle.std.proofs.lemmas.Bool.{cases_eq, cond-false, cond-true}
use Rattle.std.proofs.lemmas.Str.{len_utf8_ascii}
use Rattle.std.proofs.lemmas.Str.Pattern.{NoCharPasses-char}

-- nothing is found before an index where no such byte stands
none_before : (c : ℕ) (text : List ℕ) (n : ℕ) → ((k : ℕ) → k < n → get_or text k 0 ≢ c) → rfind_below c text n ≡ None
none_before c text zero lacks = refl
none_before c text (suc n) lacks = cond-false _ _ _ (ne_eqb _ c (lacks n (omega arith))) ∙ none_before c text n (λ k under. lacks k (omega (arith, under)))

-- the last one before it is
last_before : (c : ℕ) (text : List ℕ) (at n : ℕ) → at < n → get_or text at 0 ≡ c → ((k : ℕ) → at < k → k < n → get_or text k 0 ≢ c) → rfind_below c text n ≡ Some at
last_before c text at zero under is lacks = absurd (omega (arith, under))
last_before c text at (suc n) under is lacks =
    ⊎_elim
    (λ same. cond-true _ _ _ (eq-eqb _ c (ap (λ j. get_or text j 0) (sym same) ∙ is)) ∙ ap (λ j. Some j) (sym same))
    (λ other. cond-false _ _ _ (ne_eqb _ c (lacks n (omega (arith, under, other)) (omega arith)))
    ∙ last_before c text at n (omega (arith, under, other)) is (λ k over below. lacks k over (omega (arith, below))))
    (cases_eq at n)

-- the clause of `rsplit_once` at an ASCII character says where the text is cut
pub cut_at : (c : ℕ) (text : List ℕ) (r : Option (Bor (List ℕ) × Bor (List ℕ)))
    → MatchOption r (RFindsChar c text None) (λ x. (i : ℕ) × (j : ℕ) × RFindsChar c text (Some (i, j)) × (x.0.now ≡ take i text) × (x.1.now ≡ drop j text) × (i ≤ j) × (length x.0.now ≡ i) × (length x.1.now + j ≡ length text))
    → c < 128 → option_map (λ x. (x.0.now, x.1.now)) r ≡ rsplit_once c text
unfolding rsplit_once
cut_at c text None h low = sym (ap (option_map (λ i. (take i text, drop (i + 1) text))) (none_before c text (length text) (λ k. NoCharPasses-char c text k h low)))
cut_at c text (Some x) h low =
    let i = h.0 in
    let j = h.1 in
    let has = h.2.1 in
    let next : j ≡ i + 1 = omega (arith, has.ends, len_utf8_ascii c low) in
    let under : i < length text = omega (arith, next, h.7) in
    let later : (k : ℕ) → i < k → k < length text → get_or text k 0 ≢ c = λ k over below is.
    let again : j + (k - j) ≡ k = omega (arith, next, over) in
    NoCharPasses-char c (drop j text) (k - j) h.2.0 low (omega (arith, length-drop j text, below, over, next)) (get_or-drop j text (k - j) 0 ∙ (ap (λ n. get_or text n 0) again ∙ is)) in
    let found = last_before c text i (length text) under (has.byte low) later in
    ap (λ (a : List ℕ). Some (a, x.1.now)) h.3 ∙ (ap (λ (b : List ℕ). Some (take i text, b)) (h.4 ∙ ap (λ n. drop n text) next) ∙ sym (ap (option_map (λ k. (take k text, drop (k + 1) text))) found))
