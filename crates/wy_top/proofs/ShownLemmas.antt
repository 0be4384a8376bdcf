-- What verdicts show.
use Rattle.std.proofs.Common.{◌≡◌, ◌∙◌, ◌+◌, ℕ, List, [], ◌∷◌, Bool, true, false, cond, Option, Some, None, refl, sym, ap, subst}
use Rattle.std.specs.Prelude.{◌==◌}
use Rattle.wy_batch.specs.wy_check.Verdicts.{certificate_for, verdict_from, verdict_on}
use Rattle.wy_batch.specs.wy_check.declared.verdict.Verdict.{Verdict as Given}
use Rattle.wy_batch.specs.wy_check.declared.verdict.Verdict.TheVariants as given
use Rattle.wy_cert.specs.Steps.{Certificates, Written}
use Rattle.wy_lemmas.proofs.Choices.{both_parts as both}
use Rattle.wy_prove.specs.wy_search_spec.Tree as tree
use Rattle.wy_top_probe.specs.wy_top_answers.wy_vc_laws.shown.Certified.{IsFormed}
use Rattle.wy_top_probe.specs.wy_top_answers.wy_vc_laws.shown.ReadSorted.{AreSortedCertificates}
use Rattle.wy_top_probe.proofs.wy_top_answers_proofs.wy_vc_laws_proofs.shown_lemmas.ReadLemmas.{reads_sorted}
use Rattle.wy_top_probe.specs.wy_top_answers.wy_check_laws.sound.Sortedness.{AreSortedSteps}
use Rattle.wy_top_probe.proofs.wy_top_answers_proofs.wy_check_laws_proofs.sound_lemmas.SoundLemmas.{valid_implies_true}
use Rattle.wy_term.specs.Condition.{Condition, HoldsAlways}
use Rattle.wy_prove.proofs.wy_search_laws_proofs.sound_lemmas.FoundLemmas.{found_true}
use Rattle.wy_top_probe.specs.wy_top_answers.wy_check_spec.valid.Validity.{first_bad}
use Rattle.wy_top.specs.Acceptance.{are_closed}
use Rattle.wy_batch.specs.Known.{is_closed, End, EndsSo, IsKnown, IsSearched, Known, end_of, found, spent, stays_open, supplied}
use Rattle.wy_top.specs.Shown.{ClosedIsTrue, ReadIsTrue}

-- ---- supplied certificates

never_searched : (v : tree.Verdict) → supplied ≡ end_of v → ⊥
never_searched (tree.found leaves) is = cc
never_searched (tree.open_leaf leaf why literals) is = cc
never_searched tree.spent is = cc

is_supplied : (c : Condition) (budget : ℕ) (g : Given) → EndsSo c budget g supplied → g ≡ given.Supplied
is_supplied c budget given.Supplied h = refl
is_supplied c budget given.Missing h = absurd (never_searched h.verdict h.is)
is_supplied c budget (given.Bad step) h = absurd (never_searched h.verdict h.is)

abbrev some_steps : List Written → Option (List Written)
some_steps steps = Some steps

-- a certificate of the list has sorted steps
sorted_there : (certs : Certificates) (n : ℕ) (steps : List Written) → AreSortedCertificates certs → certificate_for certs n ≡ some_steps steps → AreSortedSteps steps
sorted_there [] n steps sorted is = absurd (cc)
sorted_there (d ∷ ds) n steps sorted is = by (d.0 == n) is (λ e. sorted_there ds n steps sorted.1 e)
  where
    by : (b : Bool) → cond b (some_steps d.1) (certificate_for ds n) ≡ some_steps steps → (certificate_for ds n ≡ some_steps steps → AreSortedSteps steps) → AreSortedSteps steps
    by true e rest = let same : d.1 ≡ steps = cc in subst AreSortedSteps same sorted.0
    by false e rest = rest e

no_bad_step : (bad : Option ℕ) → verdict_from bad ≡ given.Supplied → bad ≡ None
no_bad_step None e = refl
no_bad_step (Some step) e = absurd (cc)

supplied_holds : (certs : Certificates) (n : ℕ) (c : Condition) → AreSortedCertificates certs → IsFormed c → verdict_on c (certificate_for certs n) ≡ given.Supplied → HoldsAlways c
supplied_holds certs n c sorted formed is = by (certificate_for certs n) refl is
  where
    by : (o : Option (List Written)) → certificate_for certs n ≡ o → verdict_on c o ≡ given.Supplied → HoldsAlways c
    by None here e = absurd (cc)
    by (Some steps) here e = valid_implies_true c steps formed.sorted formed.are_closed (sorted_there certs n steps sorted here) (no_bad_step (first_bad c steps) e)

-- ---- one condition

found_here : (v : tree.Verdict) (leaves : ℕ) → found leaves ≡ end_of v → v ≡ tree.found leaves
found_here (tree.found m) leaves is = let same : leaves ≡ m = cc in ap (λ (k : ℕ). tree.found k) (sym same)
found_here (tree.open_leaf leaf why literals) leaves is = absurd (cc)
found_here tree.spent leaves is = absurd (cc)

searched_holds : (c : Condition) (budget leaves : ℕ) → IsFormed c → IsSearched c budget (found leaves) → HoldsAlways c
searched_holds c budget leaves formed h =
    found_true c budget leaves formed.sorted formed.are_closed (subst (λ (v : tree.Verdict). tree.IsVerdict c budget v) (found_here h.verdict leaves h.is) h.searched)

found_holds : (c : Condition) (budget leaves : ℕ) (g : Given) → IsFormed c → EndsSo c budget g (found leaves) → HoldsAlways c
found_holds c budget leaves given.Supplied formed h = absurd (cc)
found_holds c budget leaves given.Missing formed h = searched_holds c budget leaves formed h
found_holds c budget leaves (given.Bad step) formed h = searched_holds c budget leaves formed h

closed_holds : (certs : Certificates) (budget n : ℕ) (c : Condition) (e : End) → AreSortedCertificates certs → IsFormed c → EndsSo c budget (verdict_on c (certificate_for certs n)) e → is_closed e ≡ true → HoldsAlways c
closed_holds certs budget n c supplied sorted formed h so_it_is = supplied_holds certs n c sorted formed (is_supplied c budget (verdict_on c (certificate_for certs n)) h)
closed_holds certs budget n c (found leaves) sorted formed h so_it_is = found_holds c budget leaves (verdict_on c (certificate_for certs n)) formed h
closed_holds certs budget n c (stays_open leaf why literals) sorted formed h so_it_is = absurd (cc)
closed_holds certs budget n c spent sorted formed h so_it_is = absurd (cc)

pub closed_is_true : ClosedIsTrue
closed_is_true certs budget n [] ks sorted formed h so_it_is = tt
closed_is_true certs budget n (c ∷ cs) [] sorted formed h so_it_is = absurd h
closed_is_true certs budget n (c ∷ cs) (k ∷ ks) sorted formed h so_it_is =
    let yeses = both (is_closed k.end) (are_closed ks) so_it_is in
    (closed_holds certs budget n c k.end sorted formed.0 h.0.end yeses.0, closed_is_true certs budget (n + 1) cs ks sorted formed.1 h.1 yeses.1)

pub read_is_true : ReadIsTrue
read_is_true conds bytes certs budget n cs ks reads formed h so_it_is = closed_is_true certs budget n cs ks (reads_sorted conds bytes certs reads) formed h so_it_is
