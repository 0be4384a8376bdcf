-- Which certificates of a cache are still to be taken?
use Rattle.std.specs.Prelude.{◌≡◌, ℕ, zero, suc, ◌+◌, ◌==◌, if◌then◌else◌, List, [], ◌∷◌, Bool, false, None, length, map, reverse}
use Rattle.wy_batch.specs.Known.{AreKnown, IsSearched, Known, supplied}
use Rattle.wy_cache.specs.Kept.{IsKept}
use Rattle.wy_cache_text.specs.Files.{Entries}
use Rattle.wy_cert.specs.Steps.{Certificates, NamesItsTerms, Written, steps_of}
use Rattle.wy_cert.specs.Only.{HasNone}
use Rattle.wy_cert.specs.declared.step.Cert.{Cert}
use Rattle.wy_prove_writable.specs.Writable.{AreWritable}
use Rattle.wy_term.specs.Condition.{Condition}

-- the certificates are that of the condition with this number, where the cache has one, which is kept, and these others; or the condition is searched
pub data TakesRow (es : Entries) (budget n : ℕ) (c : Condition) (k : Known) (others certs : Certificates) : Type 0 where
  taken : (steps : List Written) → IsKept es c steps → k.bad_step ≡ None → k.end ≡ supplied → certs ≡ (n, steps) ∷ others → TakesRow es budget n c k others certs
  not_taken : HasNone (IsKept es c) → k.bad_step ≡ None → IsSearched c budget k.end → certs ≡ others → TakesRow es budget n c k others certs

-- the certificates are those of the conditions that are kept, of a list whose first one has this number and of which this is known
abbrev pub AreTaken : Entries → ℕ → ℕ → List Condition → List Known → Certificates → Type 0
AreTaken es budget n [] [] certs = certs ≡ []
AreTaken es budget n [] (k ∷ ks) certs = ⊥
AreTaken es budget n (c ∷ cs) [] certs = ⊥
AreTaken es budget n (c ∷ cs) (k ∷ ks) certs = (others : Certificates) × TakesRow es budget n c k others certs × AreTaken es budget (n + 1) cs ks others

-- certificates with the numbers of their conditions
abbrev pub pairs : List (ℕ × Cert) → Certificates
pairs list = map (λ e. (e.0, steps_of e.1)) list

-- those that wait in a list, of which the last one comes first
abbrev pub waiting : List (ℕ × Cert) → Certificates
waiting list = pairs (reverse list)

-- ---- the conditions that no certificate is for, where certificates stand in the order of their numbers

-- the first certificate is for this number
abbrev pub comes_next : ℕ → Certificates → Bool
comes_next n [] = false
comes_next n (c ∷ cs) = c.0 == n

abbrev pub behind : {X : Type 0} → List X → List X
behind [] = []
behind (x ∷ xs) = xs

-- those of a list, whose first one has this number, that have none
abbrev pub others_of : {X : Type 0} → ℕ → Certificates → List X → List X
others_of n certs [] = []
others_of n certs (x ∷ xs) = if comes_next n certs then others_of (n + 1) (behind certs) xs else x ∷ others_of (n + 1) certs xs

-- the first of a list, if there is one, before some others
abbrev pub first_before : {X : Type 0} → List X → List X → List X
first_before [] others = others
first_before (x ∷ xs) others = x ∷ others

-- so many, from this number on: this one where there is a certificate, else the next one of a list
abbrev pub beside : {X : Type 0} → X → ℕ → Certificates → ℕ → List X → List X
beside own n certs zero xs = []
beside own n certs (suc more) xs =
    if comes_next n certs then own ∷ beside own (n + 1) (behind certs) more xs else first_before xs (beside own (n + 1) certs more (behind xs))

-- this is known of a condition that is kept
abbrev pub known_kept : Known
known_kept = record { bad_step = None; end = supplied }

-- this is known of conditions: of those with a certificate that they are kept, and of the others what their searches end in
pub record AreBeside (budget : ℕ) (certs : Certificates) (cs : List Condition) (ks : List Known) : Type 0 where
  pub others : List Known
  pub known : AreKnown [] budget 1 (others_of 1 certs cs) others
  pub are : ks ≡ beside known_kept 1 certs (length cs) others

-- what is asked of a certificate that is kept: it names its own terms and can be written
pub record IsWritten (cert : Cert) : Type 0 where
  pub named : NamesItsTerms cert
  pub writable : AreWritable (steps_of cert)
