-- What the verdicts on certificates that were read show.
use Rattle.std.proofs.Common.{◌≡◌, ◌↔◌, ℕ, ◌+◌, List, [], ◌∷◌, ◌++◌, Bool, true, false, cond, Option, Some, None, inl, inr, ◌⊎◌, Result, Ok, Err, refl, sym, ap, subst, ◌∙◌}
use Rattle.std.specs.Prelude.{◌==◌, ◌||◌}
use Rattle.wy_lemmas.proofs.Choices.{same_of as number_is, same_to as same_number}
use Rattle.wy_term.specs.Condition.{Condition}
use Rattle.wy_cert.specs.declared.fault.CertFault.{CertFault}
use Rattle.wy_cert.specs.Steps.{Written, Certificates}
use Rattle.wy_cert.specs.File.{is_listed, ReadsCerts, ends_early, complete, goes_behind_end, outside, twice, absent, bad_tree, goes_on, ReadsFile, first, second, no_header}
use Rattle.wy_vc_laws.specs.wy_check_spec.valid.Validity.{first_bad}
use Rattle.wy_vc_laws.specs.shown.Certified.{Has, AreFormed, IsCertified, AreCertified, AllHold}
use Rattle.wy_vc_laws.proofs.shown_lemmas.CertifiedLemmas.{read_certificate_shows}
use Rattle.wy_check.specs.declared.verdict.Verdict.{Verdict}
use Rattle.wy_check.specs.declared.verdict.Verdict.TheVariants.{Supplied, Missing, Bad}
use Rattle.wy_check.specs.Verdicts.{certificate_for, verdict_from, verdict_on, verdicts_on, AreSupplied}
use Rattle.wy_check.specs.Shown.{SuppliedIsCertified, SuppliedIsTrue}
use Rattle.wy_check.proofs.PlaceLemmas.{some_steps, or_else, for_push}

-- ---- each condition is listed once

-- the certificate that stands in the list for a condition is the one that is found
abbrev IsFound : Certificates → Type 0
IsFound certs = (n : ℕ) (s : List Written) → Has certs n s → certificate_for certs n ≡ some_steps s

has_push : (certs : Certificates) (c : ℕ) (t : List Written) (n : ℕ) (s : List Written) → Has (certs ++ (c, t) ∷ []) n s → Has certs n s ⊎ ((c ≡ n) × (t ≡ s))
has_push [] c t n s (inl h) = inr h
has_push [] c t n s (inr h) = absurd h
has_push (d ∷ ds) c t n s (inl h) = inl (inl h)
has_push (d ∷ ds) c t n s (inr h) = by (has_push ds c t n s h)
  where
    by : Has ds n s ⊎ ((c ≡ n) × (t ≡ s)) → Has (d ∷ ds) n s ⊎ ((c ≡ n) × (t ≡ s))
    by (inl g) = inl (inr g)
    by (inr g) = inr g

unlisted : (certs : Certificates) (n : ℕ) → is_listed certs n ≡ false → certificate_for certs n ≡ None
unlisted [] n e = refl
unlisted (d ∷ ds) n e = by (d.0 == n) e (λ later. unlisted ds n later)
  where
    by : (b : Bool) → (b || is_listed ds n) ≡ false → (is_listed ds n ≡ false → certificate_for ds n ≡ None) → cond b (some_steps d.1) (certificate_for ds n) ≡ None
    by true e rest = absurd cc
    by false e rest = rest e

found_push : (certs : Certificates) (c : ℕ) (t : List Written) → is_listed certs c ≡ false → IsFound certs → IsFound (certs ++ (c, t) ∷ [])
found_push certs c t new found n s h = for_push certs c t n ∙ by (has_push certs c t n s h)
  where
    by : Has certs n s ⊎ ((c ≡ n) × (t ≡ s)) → or_else (certificate_for certs n) (cond (c == n) (some_steps t) None) ≡ some_steps s
    by (inl g) = ap (λ (o : Option (List Written)). or_else o (cond (c == n) (some_steps t) None)) (found n s g)
    by (inr g) =
        ap (λ (o : Option (List Written)). or_else o (cond (c == n) (some_steps t) None)) (unlisted certs n (ap (is_listed certs) (sym g.0) ∙ new))
        ∙ (ap (λ (b : Bool). cond b (some_steps t) None) (same_number c n g.0) ∙ ap some_steps g.1)

abbrev AnswerFound : Result Certificates CertFault → Type 0
AnswerFound (Ok certs) = IsFound certs
AnswerFound (Err fault) = Unit {0}

none_found : IsFound []
none_found n s h = absurd h

certs_found : (products : Bool) (conds : ℕ) (done : Certificates) (n : ℕ) (text : List ℕ) (out : Result Certificates CertFault) → IsFound done → ReadsCerts products conds done n text out → AnswerFound out
certs_found products conds done n text out h (ends_early _ _ _ _ at is) = subst AnswerFound (sym is) tt
certs_found products conds done n text out h (complete _ _ _ _ at is) = subst AnswerFound (sym is) h
certs_found products conds done n text out h (goes_behind_end _ _ _ _ rest at some is) = subst AnswerFound (sym is) tt
certs_found products conds done n text out h (outside _ _ _ _ line rest at other none is) = subst AnswerFound (sym is) tt
certs_found products conds done n text out h (twice _ _ _ _ line rest c at cond listed is) = subst AnswerFound (sym is) tt
certs_found products conds done n text out h (absent _ _ _ _ line rest c at cond listed above is) = subst AnswerFound (sym is) tt
certs_found products conds done n text out h (bad_tree _ _ _ _ line rest c fault at cond listed below tree is) = subst AnswerFound (sym is) tt
certs_found products conds done n text out h (goes_on _ _ _ _ line rest c tree at cond listed below reads more) =
    certs_found products conds (done ++ (c, tree.steps) ∷ []) tree.line tree.rest out (found_push done c tree.steps listed h) more

file_found : (conds : ℕ) (bytes : List ℕ) (certs : Certificates) → ReadsFile conds bytes (Ok certs) → IsFound certs
file_found conds bytes certs (first rest at reads) = certs_found false conds [] 2 rest (Ok certs) none_found reads
file_found conds bytes certs (second rest at reads) = certs_found true conds [] 2 rest (Ok certs) none_found reads
file_found conds bytes certs (no_header a b is) = absurd cc

-- ---- verdicts

no_bad_step : (bad : Option ℕ) → verdict_from bad ≡ Supplied → bad ≡ None
no_bad_step None e = refl
no_bad_step (Some step) e = absurd cc

stands : (certs : Certificates) (n : ℕ) (s : List Written) → certificate_for certs n ≡ some_steps s → Has certs n s
stands [] n s e = absurd cc
stands (d ∷ ds) n s e = by (d.0 == n) (number_is d.0 n) e (λ later. stands ds n s later)
  where
    by : (b : Bool) → (b ≡ true → d.0 ≡ n) → cond b (some_steps d.1) (certificate_for ds n) ≡ some_steps s → (certificate_for ds n ≡ some_steps s → Has ds n s) → Has (d ∷ ds) n s
    by true is e rest = let same : d.1 ≡ s = cc in inl (is refl, same)
    by false is e rest = inr (rest e)

certified : (certs : Certificates) (n : ℕ) (c : Condition) → verdict_on c (certificate_for certs n) ≡ Supplied → IsCertified certs n c
certified certs n c e = by (certificate_for certs n) refl e
  where
    by : (o : Option (List Written)) → certificate_for certs n ≡ o → verdict_on c o ≡ Supplied → IsCertified certs n c
    by None is e = absurd cc
    by (Some s) is e = record { steps = s; stands = stands certs n s is; valid = no_bad_step (first_bad c s) e }

pub all_certified : (certs : Certificates) (n : ℕ) (cs : List Condition) → AreSupplied (verdicts_on certs n cs) → AreCertified certs n cs
all_certified certs n [] h = tt
all_certified certs n (c ∷ cs) h = (certified certs n c h.0, all_certified certs (n + 1) cs h.1)

all_supplied : (certs : Certificates) → IsFound certs → (n : ℕ) (cs : List Condition) → AreCertified certs n cs → AreSupplied (verdicts_on certs n cs)
all_supplied certs found n [] h = tt
all_supplied certs found n (c ∷ cs) h =
    (ap (verdict_on c) (found n h.0.steps h.0.stands) ∙ ap verdict_from h.0.valid, all_supplied certs found (n + 1) cs h.1)

pub supplied_is_certified : SuppliedIsCertified
supplied_is_certified conds bytes certs n cs reads = (all_certified certs n cs, all_supplied certs (file_found conds bytes certs reads) n cs)

-- ---- truth

all_true : (conds : ℕ) (bytes : List ℕ) (certs : Certificates) (n : ℕ) (cs : List Condition) → ReadsFile conds bytes (Ok certs) → AreFormed cs → AreCertified certs n cs → AllHold cs
all_true conds bytes certs n [] reads formed h = tt
all_true conds bytes certs n (c ∷ cs) reads formed h = (read_certificate_shows conds bytes certs n c reads formed.0 h.0, all_true conds bytes certs (n + 1) cs reads formed.1 h.1)

pub supplied_is_true : SuppliedIsTrue
supplied_is_true conds bytes certs n cs reads formed h = all_true conds bytes certs n cs reads formed (all_certified certs n cs h)
