-- All conditions are closed exactly where each has a valid certificate, supplied or found.
use Rattle.std.proofs.Common.{◌≡◌, ◌∙◌, ◌+◌, ℕ, List, [], ◌∷◌, Bool, true, false, ◌&&◌, Option, Some, None, refl, sym, ap, subst}
use Rattle.wy_lemmas.proofs.Choices.{both_parts}
use Rattle.wy_search_spec.proofs.VerdictLemmas.{one_verdict}
use Rattle.wy_search_spec.specs.Tree as search
use Rattle.wy_search_spec.specs.Tree.{IsVerdict}
use Rattle.wy_term.specs.Condition.{Condition}
use Rattle.wy_top.specs.wy_batch.Known.{AreKnown, End, EndsSo, IsSearched, Known, end_of, is_closed}
use Rattle.wy_top.specs.wy_cert.Steps.{Certificates, Written}
use Rattle.wy_top.specs.wy_check.Verdicts.{certificate_for, verdict_from, verdict_on}
use Rattle.wy_top.specs.wy_check.declared.verdict.Verdict.{Verdict as Given}
use Rattle.wy_top.specs.wy_check.declared.verdict.Verdict.TheVariants as given
use Rattle.wy_top.specs.wy_top_answers.wy_check_spec.valid.Validity.{first_bad}
use Rattle.wy_top.specs.Acceptance.{are_closed}
use Rattle.wy_headline.specs.Accepted.{AreCertified, IsCertified, found, supplied}

abbrev some_steps : List Written → Option (List Written)
some_steps steps = Some steps

no_truth : false ≡ true → ⊥
no_truth e = absurd cc

not_missing : given.Supplied ≡ given.Missing → ⊥
not_missing e = absurd cc

not_bad : (step : ℕ) → given.Supplied ≡ given.Bad step → ⊥
not_bad step e = absurd cc

module _ (certs : Certificates) (budget n : ℕ) (c : Condition) where
  -- ---- what is closed has a certificate

  by_search : (v : search.Verdict) → IsVerdict c budget v → is_closed (end_of v) ≡ true → IsCertified certs budget n c
  by_search (search.found leaves) h closed = found leaves h
  by_search (search.open_leaf leaf why literals) h closed = absurd (no_truth closed)
  by_search search.spent h closed = absurd (no_truth closed)

  searched : (e : End) → IsSearched c budget e → is_closed e ≡ true → IsCertified certs budget n c
  searched e h closed = by_search h.verdict h.searched (subst (λ (x : End). is_closed x ≡ true) h.is closed)

  judged : (e : End) (steps : List Written) → certificate_for certs n ≡ some_steps steps → (bad : Option ℕ) → first_bad c steps ≡ bad → EndsSo c budget (verdict_from bad) e → is_closed e ≡ true → IsCertified certs budget n c
  judged e steps there None good h closed = supplied steps there good
  judged e steps there (Some step) bad h closed = searched e h closed

  given_or_not : (e : End) (o : Option (List Written)) → certificate_for certs n ≡ o → EndsSo c budget (verdict_on c o) e → is_closed e ≡ true → IsCertified certs budget n c
  given_or_not e None there h closed = searched e h closed
  given_or_not e (Some steps) there h closed = judged e steps there (first_bad c steps) refl h closed

  one_certified : (e : End) → EndsSo c budget (verdict_on c (certificate_for certs n)) e → is_closed e ≡ true → IsCertified certs budget n c
  one_certified e h closed = given_or_not e (certificate_for certs n) refl h closed

  -- ---- what has a certificate is closed

  found_closed : (e : End) (leaves : ℕ) → IsSearched c budget e → IsVerdict c budget (search.found leaves) → is_closed e ≡ true
  found_closed e leaves h v = ap is_closed (h.is ∙ ap end_of (one_verdict c budget h.verdict (search.found leaves) h.searched v))

  supplied_so : (steps : List Written) → certificate_for certs n ≡ some_steps steps → first_bad c steps ≡ None → given.Supplied ≡ verdict_on c (certificate_for certs n)
  supplied_so steps there good = sym (ap (verdict_on c) there ∙ ap verdict_from good)

  by_verdict : (e : End) (g : Given) → verdict_on c (certificate_for certs n) ≡ g → EndsSo c budget g e → IsCertified certs budget n c → is_closed e ≡ true
  by_verdict e given.Supplied is h certified = ap is_closed h
  by_verdict e given.Missing is h (supplied steps there good) = absurd (not_missing (supplied_so steps there good ∙ is))
  by_verdict e given.Missing is h (found leaves v) = found_closed e leaves h v
  by_verdict e (given.Bad step) is h (supplied steps there good) = absurd (not_bad step (supplied_so steps there good ∙ is))
  by_verdict e (given.Bad step) is h (found leaves v) = found_closed e leaves h v

-- ---- all of them

pub certified_all : (certs : Certificates) (budget n : ℕ) (cs : List Condition) (ks : List Known) → AreKnown certs budget n cs ks → are_closed ks ≡ true → AreCertified certs budget n cs
certified_all certs budget n [] ks h closed = tt
certified_all certs budget n (c ∷ cs) [] h closed = absurd h
certified_all certs budget n (c ∷ cs) (k ∷ ks) h closed =
    let parts = both_parts (is_closed k.end) (are_closed ks) closed in
    (one_certified certs budget n c k.end h.0.end parts.0, certified_all certs budget (n + 1) cs ks h.1 parts.1)

pub closed_all : (certs : Certificates) (budget n : ℕ) (cs : List Condition) (ks : List Known) → AreKnown certs budget n cs ks → AreCertified certs budget n cs → are_closed ks ≡ true
closed_all certs budget n [] [] h certified = refl
closed_all certs budget n [] (k ∷ ks) h certified = absurd h
closed_all certs budget n (c ∷ cs) [] h certified = absurd h
closed_all certs budget n (c ∷ cs) (k ∷ ks) h certified =
    ap (λ (b : Bool). b && are_closed ks) (by_verdict certs budget n c k.end (verdict_on c (certificate_for certs n)) refl h.0.end certified.0)
    ∙ closed_all certs budget (n + 1) cs ks h.1 certified.1
