-- What a set has behind each change.
use Rattle.std.proofs.Common.{◌≡◌, ◌<◌, ◌≤◌, ℕ, zero, suc, Bool, true, false, not, ◌&&◌, ◌||◌, ◌==◌, nat_lt, cond, List, [], ◌∷◌, ◌++◌, length, get_or, refl, sym, ap, ◌∙◌, subst, arith, length-append}
use Rattle.std.proofs.lemmas.List.{get_or_append_left, get_or_push, get_or_past}
use Rattle.wy_lemmas.proofs.Choices.{at_or_past, lt_false, lt_true, by_truth, either, by_same}
use Rattle.wy_live.specs.Sets.{Variables, has, put, with, without, either_bits, longer, joined}

put_same : (bits : List Bool) (x : ℕ) (b : Bool) → get_or (put bits x b) x false ≡ b
put_same [] zero b = refl
put_same [] (suc x) b = put_same [] x b
put_same (c ∷ cs) zero b = refl
put_same (c ∷ cs) (suc x) b = put_same cs x b

put_other : (bits : List Bool) (x y : ℕ) (b : Bool) → (y ≡ x → ⊥) → get_or (put bits x b) y false ≡ get_or bits y false
put_other [] zero zero b ne = absurd (ne refl)
put_other [] zero (suc y) b ne = refl
put_other [] (suc x) zero b ne = refl
put_other [] (suc x) (suc y) b ne = put_other [] x y b (λ e. ne (ap (λ n. suc n) e))
put_other (c ∷ cs) zero zero b ne = absurd (ne refl)
put_other (c ∷ cs) zero (suc y) b ne = refl
put_other (c ∷ cs) (suc x) zero b ne = refl
put_other (c ∷ cs) (suc x) (suc y) b ne = put_other cs x y b (λ e. ne (ap (λ n. suc n) e))

pub has-with : (s : Variables) (x y : ℕ) → has (with s y) x ≡ ((x == y) || has s x)
has-with s x y = by_same x y (λ t. has (put s y true) x ≡ (t || has s x))
    (λ e. subst (λ z. has (put s y true) z ≡ true) (sym e) (put_same s y true))
    (λ ne. put_other s y x true ne)

has-put_false : (s : Variables) (x y : ℕ) → has (put s y false) x ≡ (not (x == y) && has s x)
has-put_false s x y = by_same x y (λ t. has (put s y false) x ≡ (not t && has s x))
    (λ e. subst (λ z. has (put s y false) z ≡ false) (sym e) (put_same s y false))
    (λ ne. put_other s y x false ne)

pub has-without : (s : Variables) (x y : ℕ) → has (without s y) x ≡ (not (x == y) && has s x)
has-without s x y = by_truth (has s y) (λ t. has s y ≡ t → has (cond t (put s y false) s) x ≡ (not (x == y) && has s x))
    (λ _ _. has-put_false s x y)
    (λ _ h. by_same x y (λ t. has s x ≡ (not t && has s x)) (λ e. ap (λ z. has s z) e ∙ h) (λ _. refl)) refl

-- ---- joins

pub length-either : (s t : Variables) (n : ℕ) → length (either_bits s t n) ≡ n
length-either s t zero = refl
length-either s t (suc n) = let h = length-either s t n in omega (arith, length-append {A = Bool}, h)

either_at : (s t : Variables) (n x : ℕ) → x < n → get_or (either_bits s t n) x false ≡ (has s x || has t x)
either_at s t zero x h = absurd (omega arith)
either_at s t (suc n) x h = by_same x n (λ b. (x == n) ≡ b → get_or (either_bits s t (suc n)) x false ≡ (has s x || has t x))
    (λ e _. subst (λ z. get_or (either_bits s t n ++ (has s n || has t n) ∷ []) z false ≡ (has s z || has t z)) (sym e) (get_or_push (either_bits s t n) (has s n || has t n) false n (length-either s t n)))
    (λ ne _. let l = length-either s t n in let lt : x < length (either_bits s t n) = omega arith in
    get_or_append_left (either_bits s t n) ((has s n || has t n) ∷ []) false x lt ∙ either_at s t n x (omega arith)) refl

longer_left : (n m : ℕ) → n ≤ longer n m
longer_left n m = by_truth (nat_lt n m) (λ t. nat_lt n m ≡ t → n ≤ cond t m n) (λ _ h. let lt = lt_true n m h in omega arith) (λ _ _. omega arith) refl

longer_right : (n m : ℕ) → m ≤ longer n m
longer_right n m = by_truth (nat_lt n m) (λ t. nat_lt n m ≡ t → m ≤ cond t m n) (λ _ _. omega arith) (λ _ h. lt_false n m h) refl

pub has-joined : (s t : Variables) (x : ℕ) → has (joined s t) x ≡ (has s x || has t x)
has-joined s t x =
    let n = longer (length s) (length t) in
    let l = longer_left (length s) (length t) in
    let r = longer_right (length s) (length t) in
    either (λ (h : x < n). either_at s t n x h)
    (λ (h : n ≤ x).
    let la : length s ≤ x = omega arith in
    let lb : length t ≤ x = omega arith in
    let ln : length (either_bits s t n) ≤ x = (let e = length-either s t n in omega arith) in
    get_or_past (either_bits s t n) x false ln
    ∙ sym (ap (λ p. p || has t x) (get_or_past s x false la) ∙ ap (λ p. false || p) (get_or_past t x false lb)))
    (at_or_past x n)
