-- Which conditions are kept, and what is known of all of them then.
use Rattle.std.proofs.Common.{◌≡◌, ◌∙◌, ◌<◌, ◌≤◌, ◌+◌, ℕ, suc, List, [], ◌∷◌, length, Bool, true, false, cond, Option, Some, None, refl, sym, ap, subst, arith}
use Rattle.std.specs.Prelude.{◌==◌}
use Rattle.std.proofs.lemmas.Bool.Decides.{nat_tests}
use Rattle.wy_batch.specs.Known.{AreKnown, End, IsSearched, Known, count, end_of}
use Rattle.wy_cache.specs.Kept.{AreKept, IsRow, kept, not_kept}
use Rattle.wy_cache_text.specs.Files.{Entries}
use Rattle.wy_cert.specs.Steps.{Certificates, Written}
use Rattle.wy_prove.proofs.wy_search_spec_proofs.VerdictLemmas.{one_verdict}
use Rattle.wy_prove.specs.wy_search_spec.Tree as search
use Rattle.wy_term.specs.Condition.{Condition}
use Rattle.wy_top.specs.Caches.{AreSeen, IsSeen, is_kept, kept as seen_kept, searched as seen_searched}
use Rattle.wy_top.specs.Found.{AreRising}
use Rattle.wy_top.specs.Taken.{AreBeside, AreTaken, TakesRow, behind, beside, comes_next, first_before, known_kept, not_taken, others_of, taken}
use Rattle.wy_top.proofs.GivenLemmas.{rising_sooner, same_number}

-- ---- numbers rise

rising_here : (n : ℕ) (steps : List Written) (others : Certificates) → AreRising (n + 1) others → AreRising n ((n, steps) ∷ others)
rising_here n steps others rising = let next : n + 1 ≡ suc n = omega arith in (omega arith, subst (λ (m : ℕ). AreRising m others) next rising)

row_rising : (es : Entries) (n : ℕ) (c : Condition) (others certs : Certificates) → IsRow es n c others certs → AreRising (n + 1) others → AreRising n certs
row_rising es n c others certs (kept steps h is) rising = subst (AreRising n) (sym is) (rising_here n steps others rising)
row_rising es n c others certs (not_kept never is) rising = subst (AreRising n) (sym is) (rising_sooner n (n + 1) others (omega arith) rising)

kept_rising : (es : Entries) (n : ℕ) (cs : List Condition) (certs : Certificates) → AreKept es n cs certs → AreRising n certs
kept_rising es n [] certs h = subst (AreRising n) (sym h) tt
kept_rising es n (c ∷ cs) certs h = row_rising es n c h.0 certs h.1 (kept_rising es (n + 1) cs h.0 h.2)

-- ---- those that are kept beside the others

later_number : (n m : ℕ) → n < m → (m == n) ≡ false
later_number n m lt = grind (arith, nat_tests)

-- none that comes later comes next
none_next : (n : ℕ) (certs : Certificates) → AreRising (n + 1) certs → comes_next n certs ≡ false
none_next n [] rising = refl
none_next n (c ∷ cs) rising = later_number n c.0 (omega (arith, rising.0))

module _ (es : Entries) (budget : ℕ) where
  beside_row : (n m : ℕ) (c : Condition) (cs : List Condition) (ks : List Known) (others certs : Certificates) → IsRow es n c others certs → AreKept es (n + 1) cs others → AreKnown [] budget m (others_of n certs (c ∷ cs)) ks
      → ((m : ℕ) (ls : List Known) → AreKnown [] budget m (others_of (n + 1) others cs) ls → AreTaken es budget (n + 1) cs (beside known_kept (n + 1) others (length cs) ls) others)
      → AreTaken es budget n (c ∷ cs) (beside known_kept n certs (suc (length cs)) ks) certs
  beside_row n m c cs ks others certs (kept steps h is) rest known later = subst Whole (sym is) at_once known
    where
      Whole : Certificates → Type 0
      Whole ds = AreKnown [] budget m (others_of n ds (c ∷ cs)) ks → AreTaken es budget n (c ∷ cs) (beside known_kept n ds (suc (length cs)) ks) ds

      Either : Bool → Type 0
      Either b =
          AreKnown [] budget m (cond b (others_of (n + 1) others cs) (c ∷ others_of (n + 1) ((n, steps) ∷ others) cs)) ks
          → AreTaken es budget n (c ∷ cs) (cond b (known_kept ∷ beside known_kept (n + 1) others (length cs) ks) (first_before ks (beside known_kept (n + 1) ((n, steps) ∷ others) (length cs) (behind ks)))) ((n, steps) ∷ others)

      at_once : Whole ((n, steps) ∷ others)
      at_once = subst Either (sym (same_number n n refl)) (λ all. (others, taken steps h refl refl refl, later m ks all))
  beside_row n m c cs ks others certs (not_kept never is) rest known later = subst Either (sym here) (λ all. by ks all) known
    where
      here : comes_next n certs ≡ false
      here = ap (comes_next n) is ∙ none_next n others (kept_rising es (n + 1) cs others rest)

      Either : Bool → Type 0
      Either b =
          AreKnown [] budget m (cond b (others_of (n + 1) (behind certs) cs) (c ∷ others_of (n + 1) certs cs)) ks
          → AreTaken es budget n (c ∷ cs) (cond b (known_kept ∷ beside known_kept (n + 1) (behind certs) (length cs) ks) (first_before ks (beside known_kept (n + 1) certs (length cs) (behind ks)))) certs

      by : (ls : List Known) → AreKnown [] budget m (c ∷ others_of (n + 1) certs cs) ls → AreTaken es budget n (c ∷ cs) (first_before ls (beside known_kept (n + 1) certs (length cs) (behind ls))) certs
      by [] all = absurd all
      by (l ∷ ls) all =
          let first = all.0 in (
            others,
            not_taken never first.bad_step first.end is,
            subst (λ (ds : Certificates). AreTaken es budget (n + 1) cs (beside known_kept (n + 1) ds (length cs) ls) others) (sym is)
                (later (m + 1) ls (subst (λ (ds : Certificates). AreKnown [] budget (m + 1) (others_of (n + 1) ds cs) ls) is all.1)),
          )

  beside_taken : (n m : ℕ) (cs : List Condition) (certs : Certificates) (ks : List Known) → AreKept es n cs certs → AreKnown [] budget m (others_of n certs cs) ks → AreTaken es budget n cs (beside known_kept n certs (length cs) ks) certs
  beside_taken n m [] certs ks h known = h
  beside_taken n m (c ∷ cs) certs ks h known = beside_row n m c cs ks h.0 certs h.1 h.2 known (λ j ls all. beside_taken (n + 1) j cs h.0 ls h.2 all)

-- what is known of the others, with those that are kept
pub are_taken : (es : Entries) (budget : ℕ) (cs : List Condition) (ks : List Known) (certs : Certificates) → AreKept es 1 cs certs → AreBeside budget certs cs ks → AreTaken es budget 1 cs ks certs
are_taken es budget cs ks certs h all = subst (λ (ls : List Known). AreTaken es budget 1 cs ls certs) (sym all.are) (beside_taken es budget 1 1 cs certs all.others h all.known)

-- ---- what is known

row_seen : (es : Entries) (budget n : ℕ) (c : Condition) (k : Known) (others certs : Certificates) → TakesRow es budget n c k others certs → IsSeen es budget c k
row_seen es budget n c k others certs (taken steps h bad end is) = seen_kept steps h bad end
row_seen es budget n c k others certs (not_taken never bad end is) = seen_searched never bad end

pub taken_seen : (es : Entries) (budget n : ℕ) (cs : List Condition) (ks : List Known) (certs : Certificates) → AreTaken es budget n cs ks certs → AreSeen es budget cs ks
taken_seen es budget n [] [] certs h = tt
taken_seen es budget n [] (k ∷ ks) certs h = absurd h
taken_seen es budget n (c ∷ cs) [] certs h = absurd h
taken_seen es budget n (c ∷ cs) (k ∷ ks) certs h = (row_seen es budget n c k h.0 certs h.1, taken_seen es budget (n + 1) cs ks h.0 h.2)

-- ---- how many are kept

pub never_kept : (v : search.Verdict) → is_kept (end_of v) ≡ false
never_kept (search.found leaves) = refl
never_kept (search.open_leaf leaf why literals) = refl
never_kept search.spent = refl

row_count : (es : Entries) (budget n m : ℕ) (c : Condition) (k : Known) (others certs : Certificates) → TakesRow es budget n c k others certs → length others ≡ m → length certs ≡ cond (is_kept k.end) (suc m) m
row_count es budget n m c k others certs (taken steps h bad end is) many =
    ap (λ (ds : Certificates). length ds) is ∙ ap suc many ∙ sym (ap (λ (b : Bool). cond b (suc m) m) (ap is_kept end))
row_count es budget n m c k others certs (not_taken never bad end is) many =
    ap (λ (ds : Certificates). length ds) is ∙ many ∙ sym (ap (λ (b : Bool). cond b (suc m) m) (ap is_kept end.is ∙ never_kept end.verdict))

pub taken_count : (es : Entries) (budget n : ℕ) (cs : List Condition) (ks : List Known) (certs : Certificates) → AreTaken es budget n cs ks certs → length certs ≡ count is_kept ks
taken_count es budget n [] [] certs h = ap (λ (ds : Certificates). length ds) h
taken_count es budget n [] (k ∷ ks) certs h = absurd h
taken_count es budget n (c ∷ cs) [] certs h = absurd h
taken_count es budget n (c ∷ cs) (k ∷ ks) certs h = row_count es budget n (count is_kept ks) c k h.0 certs h.1 (taken_count es budget (n + 1) cs ks h.0 h.2)

pub count_within : (test : End → Bool) (ks : List Known) → count test ks ≤ length ks
count_within test [] = omega arith
count_within test (k ∷ ks) = either (test k.end) (count_within test ks)
  where
    either : (b : Bool) → count test ks ≤ length ks → cond b (suc (count test ks)) (count test ks) ≤ suc (length ks)
    either true le = omega (arith, le)
    either false le = omega (arith, le)

-- ---- there is one list

abbrev told : Option ℕ → End → Known
told bad e = record { bad_step = bad; end = e }

one_row : (es : Entries) (budget : ℕ) (c : Condition) (k l : Known) → IsSeen es budget c k → IsSeen es budget c l → k ≡ l
one_row es budget c k l (seen_kept s h b e) (seen_kept t g d f) = ap (λ (bad : Option ℕ). told bad k.end) (b ∙ sym d) ∙ ap (told l.bad_step) (e ∙ sym f)
one_row es budget c k l (seen_kept s h b e) (seen_searched never d f) = absurd (never.none s h)
one_row es budget c k l (seen_searched never b e) (seen_kept t g d f) = absurd (never.none t g)
one_row es budget c k l (seen_searched never b e) (seen_searched none d f) =
    ap (λ (bad : Option ℕ). told bad k.end) (b ∙ sym d) ∙ ap (told l.bad_step) (e.is ∙ ap end_of (one_verdict c budget e.verdict f.verdict e.searched f.searched) ∙ sym f.is)

pub one_seen : (es : Entries) (budget : ℕ) (cs : List Condition) (ks ls : List Known) → AreSeen es budget cs ks → AreSeen es budget cs ls → ks ≡ ls
one_seen es budget [] [] [] a b = refl
one_seen es budget [] [] (l ∷ ls) a b = absurd b
one_seen es budget [] (k ∷ ks) ls a b = absurd a
one_seen es budget (c ∷ cs) [] ls a b = absurd a
one_seen es budget (c ∷ cs) (k ∷ ks) [] a b = absurd b
one_seen es budget (c ∷ cs) (k ∷ ks) (l ∷ ls) a b =
    ap (λ (x : Known). x ∷ ks) (one_row es budget c k l a.0 b.0) ∙ ap (λ (xs : List Known). l ∷ xs) (one_seen es budget cs ks ls a.1 b.1)
