-- One certificate more, and the verdicts on the conditions.
use Rattle.std.proofs.Common.{◌≡◌, ◌↔◌, ℕ, zero, suc, ◌+◌, ◌-◌, ◌<◌, ◌≤◌, List, [], ◌∷◌, ◌++◌, Bool, true, false, cond, length, map, get_or, IsTrue, Option, Some, None, refl, sym, ap, ◌∙◌, arith}
use Rattle.std.specs.Prelude.{◌==◌, set}
use Rattle.std.proofs.lemmas.List.{get_or-map, length-map}
use Rattle.std.proofs.lemmas.Bool.Decides.{nat_tests}
use Rattle.wy_lemmas.proofs.Choices.{same_of as number_is, same_to as same_number}
use Rattle.wy_term.specs.declared.cond.Cond.{Cond}
use Rattle.wy_term.specs.Condition.{Condition}
use Rattle.wy_cert.specs.Steps.{Written, Certificates}
use Rattle.wy_vc_laws.specs.wy_check_spec.valid.Validity.{first_bad}
use Rattle.wy_check.specs.declared.verdict.Verdict.{Verdict}
use Rattle.wy_check.specs.declared.verdict.Verdict.TheVariants.{Supplied, Missing, Bad}
use Rattle.wy_check.specs.Verdicts.{certificate_for, verdict_from, verdict_on, verdicts_on}

abbrev pub some_steps : List Written → Option (List Written)
some_steps s = Some s

-- the first of two, where there is one
abbrev pub or_else : Option (List Written) → Option (List Written) → Option (List Written)
or_else None o = o
or_else (Some s) o = Some s

or_nothing : (o : Option (List Written)) → or_else o None ≡ o
or_nothing None = refl
or_nothing (Some s) = refl

-- ---- one certificate more

pub for_push : (certs : Certificates) (n : ℕ) (s : List Written) (m : ℕ) → certificate_for (certs ++ (n, s) ∷ []) m ≡ or_else (certificate_for certs m) (cond (n == m) (some_steps s) None)
for_push [] n s m = refl
for_push (d ∷ ds) n s m = by (d.0 == m) (for_push ds n s m)
  where
    by : (b : Bool) → certificate_for (ds ++ (n, s) ∷ []) m ≡ or_else (certificate_for ds m) (cond (n == m) (some_steps s) None)
        → cond b (some_steps d.1) (certificate_for (ds ++ (n, s) ∷ []) m) ≡ or_else (cond b (some_steps d.1) (certificate_for ds m)) (cond (n == m) (some_steps s) None)
    by true later = refl
    by false later = later

other_number : (n m : ℕ) → m < n → (n == m) ≡ false
other_number n m lt = grind (arith, nat_tests)

-- a certificate for another condition
elsewhere : (c : Condition) (certs : Certificates) (n : ℕ) (s : List Written) (m : ℕ) → (n == m) ≡ false → verdict_on c (certificate_for certs m) ≡ verdict_on c (certificate_for (certs ++ (n, s) ∷ []) m)
elsewhere c certs n s m e =
    ap (verdict_on c) (sym (for_push certs n s m ∙ (ap (λ (b : Bool). or_else (certificate_for certs m) (cond b (some_steps s) None)) e ∙ or_nothing (certificate_for certs m))))

no_certificate : (c : Condition) (o : Option (List Written)) → verdict_on c o ≡ Missing → o ≡ None
no_certificate c None e = refl
no_certificate c (Some s) e = absurd (by (first_bad c s) e)
  where
    by : (b : Option ℕ) → verdict_from b ≡ Missing → ⊥
    by None e = cc
    by (Some k) e = cc

-- the first certificate for a condition
anew : (c : Condition) (certs : Certificates) (n : ℕ) (s : List Written) (m : ℕ) → n ≡ m → verdict_on c (certificate_for certs m) ≡ Missing → verdict_on c (some_steps s) ≡ verdict_on c (certificate_for (certs ++ (n, s) ∷ []) m)
anew c certs n s m is missing =
    ap (verdict_on c) (sym (for_push certs n s m ∙ (ap (λ (o : Option (List Written)). or_else o (cond (n == m) (some_steps s) None)) (no_certificate c (certificate_for certs m) missing) ∙ ap (λ (b : Bool). cond b (some_steps s) None) (same_number n m is))))

-- a further certificate for a condition
further : (c : Condition) (certs : Certificates) (n : ℕ) (s : List Written) (m : ℕ) → (verdict_on c (certificate_for certs m) ≡ Missing → ⊥) → verdict_on c (certificate_for certs m) ≡ verdict_on c (certificate_for (certs ++ (n, s) ∷ []) m)
further c certs n s m given = ap (verdict_on c) (sym (for_push certs n s m ∙ by (certificate_for certs m) given))
  where
    by : (o : Option (List Written)) → (verdict_on c o ≡ Missing → ⊥) → or_else o (cond (n == m) (some_steps s) None) ≡ o
    by None h = absurd (h refl)
    by (Some t) h = refl

-- ---- lists of conditions

both : (v w : Verdict) (vs ws : List Verdict) → v ≡ w → vs ≡ ws → v ∷ vs ≡ w ∷ ws
both v w vs ws e f = cc

-- the certificate is for none of the conditions, or for one that has one
pub unchanged : (certs : Certificates) (n : ℕ) (s : List Written) (m : ℕ) (cs : List Condition)
    → ((k : ℕ) → k < length cs → n ≡ m + k → get_or (verdicts_on certs m cs) k Missing ≡ Missing → ⊥)
    → verdicts_on certs m cs ≡ verdicts_on (certs ++ (n, s) ∷ []) m cs
unchanged certs n s m [] h = refl
unchanged certs n s m (c ∷ cs) h =
    both (verdict_on c (certificate_for certs m)) (verdict_on c (certificate_for (certs ++ (n, s) ∷ []) m)) (verdicts_on certs (m + 1) cs) (verdicts_on (certs ++ (n, s) ∷ []) (m + 1) cs)
    (by (n == m) (number_is n m) refl)
    (unchanged certs n s (m + 1) cs (λ k lt e. h (suc k) (omega (arith, lt)) (omega (arith, e))))
  where
    by : (b : Bool) → (b ≡ true → n ≡ m) → (n == m) ≡ b → verdict_on c (certificate_for certs m) ≡ verdict_on c (certificate_for (certs ++ (n, s) ∷ []) m)
    by true is e = further c certs n s m (h zero (omega arith) (omega (arith, is refl)))
    by false is e = elsewhere c certs n s m e

-- the certificate is the first one for the condition at a place
pub supplied_at : (certs : Certificates) (n : ℕ) (s : List Written) (m : ℕ) (cs : List Condition) (k : ℕ) (c : Condition)
    → n ≡ m + k → k < length cs → c ≡ get_or cs k c → get_or (verdicts_on certs m cs) k Missing ≡ Missing
    → set (verdicts_on certs m cs) k (verdict_on c (some_steps s)) ≡ verdicts_on (certs ++ (n, s) ∷ []) m cs
supplied_at certs n s m [] k c e lt at missing = absurd (omega (arith, lt))
supplied_at certs n s m (d ∷ ds) zero c e lt at missing =
    both (verdict_on c (some_steps s)) (verdict_on d (certificate_for (certs ++ (n, s) ∷ []) m)) (verdicts_on certs (m + 1) ds) (verdicts_on (certs ++ (n, s) ∷ []) (m + 1) ds)
    (ap (λ (x : Condition). verdict_on x (some_steps s)) at ∙ anew d certs n s m (omega (arith, e)) missing)
    (unchanged certs n s (m + 1) ds (λ j below is. absurd (omega (arith, e, is))))
supplied_at certs n s m (d ∷ ds) (suc k) c e lt at missing =
    both (verdict_on d (certificate_for certs m)) (verdict_on d (certificate_for (certs ++ (n, s) ∷ []) m)) (set (verdicts_on certs (m + 1) ds) k (verdict_on c (some_steps s))) (verdicts_on (certs ++ (n, s) ∷ []) (m + 1) ds)
    (elsewhere d certs n s m (other_number n m (omega (arith, e))))
    (supplied_at certs n s (m + 1) ds k c (omega (arith, e)) (omega (arith, lt)) at missing)

-- ---- the beginning and the length

pub none_supplied : (n : ℕ) (cs : List Condition) (vs : List Verdict) → length vs ≡ length cs → ((k : ℕ) → k < length vs → get_or vs k Missing ≡ Missing) → vs ≡ verdicts_on [] n cs
none_supplied n [] [] e h = refl
none_supplied n [] (v ∷ vs) e h = absurd (omega (arith, e))
none_supplied n (c ∷ cs) [] e h = absurd (omega (arith, e))
none_supplied n (c ∷ cs) (v ∷ vs) e h =
    both v Missing vs (verdicts_on [] (n + 1) cs) (h zero (omega arith)) (none_supplied (n + 1) cs vs (omega (arith, e)) (λ k lt. h (suc k) (omega (arith, lt))))

-- ---- what the code finds

given : (b : Bool) (v : Verdict) → b ≡ false → (IsTrue b ↔ (v ≡ Missing)) → v ≡ Missing → ⊥
given true v e h is = absurd cc
given false v e h is = let told : IsTrue false = h.1 is in absurd cc

absent : (b : Bool) (v : Verdict) → b ≡ true → (IsTrue b ↔ (v ≡ Missing)) → v ≡ Missing
absent b v e h = h.0 e

-- the verdict at a place, whatever stands for none
at_place : (vs : List Verdict) (i : ℕ) (v d : Verdict) → i < length vs → v ≡ get_or vs i v → get_or vs i d ≡ v
at_place [] i v d lt e = absurd (omega (arith, lt))
at_place (w ∷ vs) zero v d lt e = sym e
at_place (w ∷ vs) (suc i) v d lt e = at_place vs i v d (omega (arith, lt)) e

-- a certificate for no condition of the list
pub for_none : (f : Cond → Condition) (conds : List Cond) (vs : List Verdict) (n : ℕ) (s : List Written) → n < 1 → (certs : Certificates) → vs ≡ verdicts_on certs 1 (map f conds) → vs ≡ verdicts_on (certs ++ (n, s) ∷ []) 1 (map f conds)
for_none f conds vs n s lt certs so = so ∙ unchanged certs n s 1 (map f conds) (λ k within e. absurd (omega (arith, lt, e)))

pub for_later : (f : Cond → Condition) (conds : List Cond) (vs : List Verdict) (n : ℕ) (s : List Written) → length conds < n → (certs : Certificates) → vs ≡ verdicts_on certs 1 (map f conds) → vs ≡ verdicts_on (certs ++ (n, s) ∷ []) 1 (map f conds)
for_later f conds vs n s lt certs so = so ∙ unchanged certs n s 1 (map f conds) (λ k within e. absurd (omega (arith, lt, e, within, length-map conds f)))

-- a certificate for a condition that has one
pub for_given : (f : Cond → Condition) (conds : List Cond) (vs : List Verdict) (n : ℕ) (s : List Written) (b : Bool) (v : Verdict) → 1 ≤ n → n ≤ length conds → length vs ≡ length conds
    → v ≡ get_or vs (n - 1) v → b ≡ false → (IsTrue b ↔ (v ≡ Missing)) → (certs : Certificates) → vs ≡ verdicts_on certs 1 (map f conds) → vs ≡ verdicts_on (certs ++ (n, s) ∷ []) 1 (map f conds)
for_given f conds vs n s b v some within count is denied told certs so = so ∙ unchanged certs n s 1 (map f conds) (λ k below e missing.
    let here : n - 1 ≡ k = omega (arith, e) in
    let lt : n - 1 < length vs = omega (arith, some, within, count) in
    let found : get_or vs (n - 1) Missing ≡ v = at_place vs (n - 1) v Missing lt is in
    let same : get_or vs (n - 1) Missing ≡ get_or (verdicts_on certs 1 (map f conds)) k Missing = ap (λ (xs : List Verdict). get_or xs (n - 1) Missing) so ∙ ap (λ (j : ℕ). get_or (verdicts_on certs 1 (map f conds)) j Missing) here in
    absurd (given b v denied told (sym found ∙ (same ∙ missing))))

-- the first certificate for a condition
pub for_first : (f : Cond → Condition) (conds : List Cond) (vs : List Verdict) (n : ℕ) (s : List Written) (b : Bool) (v w : Verdict) (c : Cond) → 1 ≤ n → n ≤ length conds → length vs ≡ length conds
    → v ≡ get_or vs (n - 1) v → b ≡ true → (IsTrue b ↔ (v ≡ Missing)) → c ≡ get_or conds (n - 1) c → w ≡ verdict_on (f c) (some_steps s)
    → (certs : Certificates) → vs ≡ verdicts_on certs 1 (map f conds) → set vs (n - 1) w ≡ verdicts_on (certs ++ (n, s) ∷ []) 1 (map f conds)
for_first f conds vs n s b v w c some within count is denied told at judged certs so =
    let lt : n - 1 < length vs = omega (arith, some, within, count) in
    let below : n - 1 < length conds = omega (arith, some, within) in
    let inside : n - 1 < length (map f conds) = omega (arith, below, length-map conds f) in
    let number : n ≡ 1 + (n - 1) = omega (arith, some) in
    let found : get_or vs (n - 1) Missing ≡ v = at_place vs (n - 1) v Missing lt is in
    let missing : get_or (verdicts_on certs 1 (map f conds)) (n - 1) Missing ≡ Missing = ap (λ (xs : List Verdict). get_or xs (n - 1) Missing) (sym so) ∙ (found ∙ absent b v denied told) in
    let there : f c ≡ get_or (map f conds) (n - 1) (f c) = ap f at ∙ sym (get_or-map f conds (n - 1) c (f c) below) in
    ap (λ (xs : List Verdict). set xs (n - 1) w) so
    ∙ (ap (λ (x : Verdict). set (verdicts_on certs 1 (map f conds)) (n - 1) x) judged
    ∙ supplied_at certs n s 1 (map f conds) (n - 1) (f c) number inside there missing)
