-- The conditions of a program meet what is asked of those that the search finds, so they have certificates.
use Rattle.std.proofs.Common.{◌+◌, ℕ, List, [], ◌∷◌, inl, inr, refl}
use Rattle.wy_search_bounds.specs.wy_term.Term.{Term}
use Rattle.wy_search_bounds.specs.wy_term.Condition.{Condition}
use Rattle.wy_search_bounds.specs.wy_cert.Steps.{Written, Certificates}
use Rattle.wy_search_laws.specs.rounds.Leaves.{AreFoldedFormulas, IsFoldedCondition}
use Rattle.wy_search_laws.proofs.certified_lemmas.LeafLemmas.{found_conditions_are_certified}
use Rattle.wy_search_bounds.specs.wy_sound_terms.formed.OwedConditions.{owed_conditions}
use Rattle.wy_search_bounds.specs.wy_vc_laws.folded.FoldedConditions.{AllFolded, IsFoldedThroughout, AreFoldedThroughout}
use Rattle.wy_search_bounds.proofs.wy_vc_laws_proofs.folded_lemmas.OwedLemmas.{conditions_folded}
use Rattle.wy_search_bounds.specs.wy_vc_laws.shown.Certified.{AreFormed, AreCertified}
use Rattle.wy_search_bounds.specs.wy_vc_laws.shown.ReadSorted.{AreSortedCertificates}
use Rattle.wy_search_bounds.proofs.wy_vc_laws_proofs.shown_lemmas.TruthLemmas.{premises_met}
use Rattle.wy_search_laws.specs.programs.CertifiedPrograms.{IsFound, AreFound, FoundHaveCertificates, FoundConditionsAreCertified, FoundProgramsAreCertified}

-- ---- each condition

formulas_folded : (fs : List Term) → AllFolded fs → AreFoldedFormulas fs
formulas_folded [] h = tt
formulas_folded (f ∷ fs) h = (h.0, formulas_folded fs h.1)

is_folded : (c : Condition) → IsFoldedThroughout c → IsFoldedCondition c
is_folded c h = (formulas_folded c.hyps h.hyps, h.goal)

each_certified : (cs : List Condition) → AreFormed cs → AreFoldedThroughout cs → FoundHaveCertificates cs
each_certified [] formed plain = tt
each_certified (c ∷ cs) formed plain =
    ((λ (h : IsFound c). found_conditions_are_certified c h.budget h.leaves formed.0.sorted formed.0.are_closed (is_folded c plain.0) h.found), each_certified cs formed.1 plain.1)

pub conditions_certified : FoundConditionsAreCertified
conditions_certified core flow = each_certified (owed_conditions core flow) (premises_met core flow) (conditions_folded core flow)

-- ---- all conditions

-- certificates that show conditions do so with one more
with_one_more : (p : ℕ × List Written) (certs : Certificates) (n : ℕ) (cs : List Condition) → AreCertified certs n cs → AreCertified (p ∷ certs) n cs
with_one_more p certs n [] h = tt
with_one_more p certs n (c ∷ cs) h = (record { steps = h.0.steps; stands = inr h.0.stands; valid = h.0.valid }, with_one_more p certs (n + 1) cs h.1)

-- certificates of conditions whose first one has this number
record HaveFrom (n : ℕ) (cs : List Condition) : Type 0 where
  certs : Certificates
  sorted : AreSortedCertificates certs
  valid : AreCertified certs n cs

have_from : (n : ℕ) (cs : List Condition) → FoundHaveCertificates cs → AreFound cs → HaveFrom n cs
have_from n [] each all = record { certs = []; sorted = tt; valid = tt }
have_from n (c ∷ cs) each all =
    let first = each.0 all.0 in
    let rest = have_from (n + 1) cs each.1 all.1 in
    record {
      certs = (n, first.0) ∷ rest.certs;
      sorted = (first.2, rest.sorted);
      valid = (record { steps = first.0; stands = inl (refl, refl); valid = first.1 }, with_one_more (n, first.0) rest.certs (n + 1) cs rest.valid);
    }

pub programs_certified : FoundProgramsAreCertified
programs_certified core flow all =
    let h = have_from 1 (owed_conditions core flow) (conditions_certified core flow) all in record { certs = h.certs; sorted = h.sorted; valid = h.valid }
