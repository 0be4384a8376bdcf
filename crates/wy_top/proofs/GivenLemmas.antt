-- The certificates for the conditions that were found, where they are supplied.
use Rattle.std.proofs.Common.{◌≡◌, ◌∙◌, ◌<◌, ◌≤◌, ◌+◌, ℕ, suc, List, [], ◌∷◌, map, Bool, true, false, cond, Option, Some, None, refl, sym, ap, subst, arith}
use Rattle.std.specs.Prelude.{◌==◌}
use Rattle.std.proofs.lemmas.Bool.Decides.{nat_tests}
use Rattle.wy_batch.specs.wy_check.Verdicts.{certificate_for, verdict_from, verdict_on, verdicts_on}
use Rattle.wy_batch.specs.wy_check.declared.verdict.Verdict.{Verdict as Given}
use Rattle.wy_cert.specs.Steps.{Certificates, Written}
use Rattle.wy_term.specs.Condition.{Condition}
use Rattle.wy_top.specs.Found.{AreFor, AreRising, Begin, FoundIsGiven, given_by, given_in}
use Rattle.wy_batch.specs.Known.{End, Known, found, spent, stays_open, supplied}

-- ---- rising numbers

pub rising_sooner : (m n : ℕ) (certs : Certificates) → m ≤ n → AreRising n certs → AreRising m certs
rising_sooner m n [] le rising = tt
rising_sooner m n (c ∷ cs) le rising = (omega (arith, le, rising.0), rising.1)

begin_rising : (n : ℕ) (c : Condition) (e : End) (P : Certificates → Type 0) (certs : Certificates) → ((ds : Certificates) → P ds → AreRising (suc n) ds) → Begin n c e P certs → AreRising n certs
begin_rising n c supplied P certs later h = rising_sooner n (suc n) certs (omega arith) (later certs h)
begin_rising n c (found leaves) P [] later h = absurd h
begin_rising n c (found leaves) P (d ∷ ds) later h = let same : n ≡ d.0 = h.0 in (omega (arith, same), subst (λ (k : ℕ). AreRising (suc k) ds) same (later ds h.2))
begin_rising n c (stays_open leaf why literals) P certs later h = rising_sooner n (suc n) certs (omega arith) (later certs h)
begin_rising n c spent P certs later h = rising_sooner n (suc n) certs (omega arith) (later certs h)

for_rising : (n : ℕ) (cs : List Condition) (ks : List Known) (certs : Certificates) → AreFor n cs ks certs → AreRising n certs
for_rising n [] [] certs h = subst (AreRising n) (sym h) tt
for_rising n [] (k ∷ ks) certs h = absurd h
for_rising n (c ∷ cs) [] certs h = absurd h
for_rising n (c ∷ cs) (k ∷ ks) certs h = begin_rising n c k.end (λ ds. AreFor (suc n) cs ks ds) certs (λ ds g. for_rising (suc n) cs ks ds g) h

-- ---- the certificate for a condition

abbrev some_steps : List Written → Option (List Written)
some_steps s = Some s

pub same_number : (n m : ℕ) → n ≡ m → (m == n) ≡ true
same_number n m e = grind (arith, nat_tests, e)

pub other_number : (n m : ℕ) → n < m → (n == m) ≡ false
other_number n m lt = grind (arith, nat_tests)

later_number : (n m : ℕ) → m < n → (n == m) ≡ false
later_number n m lt = grind (arith, nat_tests)

-- rising certificates have none for a lesser number
pub none_sooner : (n m : ℕ) (certs : Certificates) → AreRising n certs → m < n → certificate_for certs m ≡ None
none_sooner n m [] rising lt = refl
none_sooner n m (c ∷ cs) rising lt =
    ap (λ (b : Bool). cond b (some_steps c.1) (certificate_for cs m)) (later_number c.0 m (omega (arith, lt, rising.0)))
    ∙ none_sooner (suc c.0) m cs rising.1 (omega (arith, lt, rising.0))

-- ---- verdicts

-- the certificates of a list whose first condition has this number, in a list that has the same from there on
abbrev AreThere : ℕ → Certificates → Certificates → Type 0
AreThere n certs all = (m : ℕ) → n ≤ m → certificate_for all m ≡ certificate_for certs m

-- what comes behind the first condition
record IsGiven (n : ℕ) (c : Condition) (e : End) (P : Certificates → Type 0) (all : Certificates) : Type 0 where
  first : verdict_on c (certificate_for all n) ≡ given_in e
  rest : Certificates
  others : P rest
  are_there : AreThere (n + 1) rest all

without : (n : ℕ) (c : Condition) (e : End) (P : Certificates → Type 0) (certs all : Certificates) → given_in e ≡ verdict_on c None → ((ds : Certificates) → P ds → AreRising (suc n) ds) → P certs → AreThere n certs all → IsGiven n c e P all
without n c e P certs all missing rising h there = record {
  first = ap (verdict_on c) (there n (omega arith) ∙ none_sooner (suc n) n certs (rising certs h) (omega arith)) ∙ sym missing;
  rest = certs;
  others = h;
  are_there = λ m le. there m (omega (arith, le));
}

first_given : (n : ℕ) (c : Condition) (e : End) (P : Certificates → Type 0) (certs all : Certificates) → ((ds : Certificates) → P ds → AreRising (suc n) ds) → Begin n c e P certs → AreThere n certs all → IsGiven n c e P all
first_given n c supplied P certs all rising h there = without n c supplied P certs all refl rising h there
first_given n c (found leaves) P [] all rising h there = absurd h
first_given n c (found leaves) P (d ∷ ds) all rising h there = record {
  first =
      ap (verdict_on c) (there n (omega arith) ∙ ap (λ (b : Bool). cond b (some_steps d.1) (certificate_for ds n)) (same_number n d.0 h.0))
      ∙ ap verdict_from h.1.valid;
  rest = ds;
  others = h.2;
  are_there = λ m le. there m (omega (arith, le)) ∙ ap (λ (b : Bool). cond b (some_steps d.1) (certificate_for ds m)) (other_number d.0 m (omega (arith, le, h.0)));
}
first_given n c (stays_open leaf why literals) P certs all rising h there = without n c (stays_open leaf why literals) P certs all refl rising h there
first_given n c spent P certs all rising h there = without n c spent P certs all refl rising h there

all_given : (n : ℕ) (cs : List Condition) (ks : List Known) (certs all : Certificates) → AreFor n cs ks certs → AreThere n certs all → verdicts_on all n cs ≡ map given_by ks
all_given n [] [] certs all h there = refl
all_given n [] (k ∷ ks) certs all h there = absurd h
all_given n (c ∷ cs) [] certs all h there = absurd h
all_given n (c ∷ cs) (k ∷ ks) certs all h there =
    let one = first_given n c k.end (λ ds. AreFor (suc n) cs ks ds) certs all (λ ds g. for_rising (suc n) cs ks ds g) h there in
    let next : suc n ≡ n + 1 = omega arith in
    ap (λ (g : Given). g ∷ verdicts_on all (n + 1) cs) one.first
    ∙ ap (λ (gs : List Given). given_by k ∷ gs) (all_given (n + 1) cs ks one.rest all (subst (λ (m : ℕ). AreFor m cs ks one.rest) next one.others) one.are_there)

pub found_is_given : FoundIsGiven
found_is_given = record { rising = for_rising 1; given = λ cs ks certs h. all_given 1 cs ks certs certs h (λ m le. refl) }
