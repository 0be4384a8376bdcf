-- The certificates for the conditions that were found can be written, so that they are read again.
use Rattle.std.proofs.Common.{◌≡◌, ◌<◌, ◌≤◌, ◌+◌, ◌^◌, ℕ, suc, List, [], ◌∷◌, ◌++◌, length, Bool, false, refl, sym, ap, ◌∙◌, subst, arith}
use Rattle.std.specs.Prelude.{◌==◌, ◌||◌, Ok}
use Rattle.std.proofs.lemmas.Bool.Decides.{nat_tests}
use Rattle.wy_cache_text.specs.Files.{Entries}
use Rattle.wy_cert.specs.File.{ReadsFile, is_listed}
use Rattle.wy_cert.specs.Steps.{Certificates, Written}
use Rattle.wy_cert.specs.writing.Text.{file_text}
use Rattle.wy_prove.specs.wy_prove_writable.Writable.{AreWritableBehind}
use Rattle.wy_prove.proofs.wy_prove_writable_proofs.RereadLemmas.{written_is_read}
use Rattle.wy_term.specs.Condition.{Condition}
use Rattle.wy_prove.proofs.wy_prove_writable_proofs.TreeLemmas.{valid_is_one_tree}
use Rattle.wy_top_probe.specs.wy_top_answers.wy_check_spec.valid.Validity.{IsValid}
use Rattle.wy_top.specs.Caches.{AreSaved, IsRenewed, IsSavedRow, entry, no_entry}
use Rattle.wy_top.specs.Found.{AreFor, Begin, Shows}
use Rattle.wy_batch.specs.Known.{End, Known, found, spent, stays_open, supplied}

-- ---- certificates for conditions before one

abbrev AreSooner : ℕ → Certificates → Type 0
AreSooner n [] = Unit {0}
AreSooner n (d ∷ ds) = (d.0 < n) × AreSooner n ds

sooner_later : (m n : ℕ) (done : Certificates) → m ≤ n → AreSooner m done → AreSooner n done
sooner_later m n [] le are = tt
sooner_later m n (d ∷ ds) le are = (omega (arith, le, are.0), sooner_later m n ds le are.1)

sooner_more : (n : ℕ) (done : Certificates) (d : ℕ × List Written) → AreSooner n done → d.0 < n → AreSooner n (done ++ d ∷ [])
sooner_more n [] d are lt = (lt, tt)
sooner_more n (e ∷ es) d are lt = (are.0, sooner_more n es d are.1 lt)

another : (m n : ℕ) → m < n → (m == n) ≡ false
another m n lt = grind (arith, nat_tests)

not_listed : (n : ℕ) (done : Certificates) → AreSooner n done → is_listed done n ≡ false
not_listed n [] are = refl
not_listed n (d ∷ ds) are = ap (λ (b : Bool). b || is_listed ds n) (another d.0 n are.0) ∙ not_listed n ds are.1

-- ---- one behind the other

-- the one for a condition that was found, and those behind it
one_writable : (conds n : ℕ) (c : Condition) (d : ℕ × List Written) (done ds : Certificates) → 0 < n → n ≤ conds → conds < 2 ^ 32 → AreSooner n done → n ≡ d.0 → Shows c d.1 → AreWritableBehind conds (done ++ d ∷ []) ds → AreWritableBehind conds done (d ∷ ds)
one_writable conds n c d done ds first last few sooner is shows rest =
    ((omega (arith, first, is), omega (arith, last, few, is)), omega (arith, last, is), subst (λ (k : ℕ). is_listed done k ≡ false) is (not_listed n done sooner), valid_is_one_tree c d.1 shows.valid, shows.writable, rest)

abbrev Behind : ℕ → ℕ → (Certificates → Type 0) → Type 0
Behind conds n P = (done ds : Certificates) → AreSooner (suc n) done → P ds → AreWritableBehind conds done ds

begin_writable : (conds n : ℕ) (c : Condition) (e : End) (P : Certificates → Type 0) (done certs : Certificates) → 0 < n → n ≤ conds → conds < 2 ^ 32 → AreSooner n done → Behind conds n P → Begin n c e P certs → AreWritableBehind conds done certs
begin_writable conds n c supplied P done certs first last few sooner later h = later done certs (sooner_later n (suc n) done (omega arith) sooner) h
begin_writable conds n c (found leaves) P done [] first last few sooner later h = absurd h
begin_writable conds n c (found leaves) P done (d ∷ ds) first last few sooner later h =
    let same : n ≡ d.0 = h.0 in
    one_writable conds n c d done ds first last few sooner h.0 h.1 (later (done ++ d ∷ []) ds (sooner_more (suc n) done d (sooner_later n (suc n) done (omega arith) sooner) (omega (arith, same))) h.2)
begin_writable conds n c (stays_open leaf why literals) P done certs first last few sooner later h = later done certs (sooner_later n (suc n) done (omega arith) sooner) h
begin_writable conds n c spent P done certs first last few sooner later h = later done certs (sooner_later n (suc n) done (omega arith) sooner) h

for_writable : (conds n : ℕ) (cs : List Condition) (ks : List Known) (done certs : Certificates) → 0 < n → n + length cs ≤ conds + 1 → conds < 2 ^ 32 → AreSooner n done → AreFor n cs ks certs → AreWritableBehind conds done certs
for_writable conds n [] [] done certs first last few sooner h = subst (AreWritableBehind conds done) (sym h) tt
for_writable conds n [] (k ∷ ks) done certs first last few sooner h = absurd h
for_writable conds n (c ∷ cs) [] done certs first last few sooner h = absurd h
for_writable conds n (c ∷ cs) (k ∷ ks) done certs first last few sooner h =
    begin_writable conds n c k.end (λ ds. AreFor (suc n) cs ks ds) done certs first (omega (arith, last)) few sooner
    (λ more ds lt g. for_writable conds (suc n) cs ks more ds (omega arith) (omega (arith, last)) few lt g) h

-- those that are saved
pub renewed_valid : (es : Entries) (c : Condition) (e : End) (steps : List Written) → IsRenewed es c e steps → IsValid c steps
renewed_valid es c supplied steps h = h.valid
renewed_valid es c (found leaves) steps h = h
renewed_valid es c (stays_open leaf why literals) steps h = absurd h
renewed_valid es c spent steps h = absurd h

row_writable : (es : Entries) (conds n : ℕ) (c : Condition) (e : End) (done others certs : Certificates) → 0 < n → n ≤ conds → conds < 2 ^ 32 → AreSooner n done
    → ((more : Certificates) → AreSooner (n + 1) more → AreWritableBehind conds more others) → IsSavedRow es n c e others certs → AreWritableBehind conds done certs
row_writable es conds n c e done others certs first last few sooner later (entry steps h w is) =
    subst (AreWritableBehind conds done) (sym is)
    ((first, omega (arith, last, few)), last, not_listed n done sooner, valid_is_one_tree c steps (renewed_valid es c e steps h), w, later (done ++ (n, steps) ∷ []) (sooner_more (n + 1) done (n, steps) (sooner_later n (n + 1) done (omega arith) sooner) (omega arith)))
row_writable es conds n c e done others certs first last few sooner later (no_entry un is) = subst (AreWritableBehind conds done) (sym is) (later done (sooner_later n (n + 1) done (omega arith) sooner))

saved_from : (es : Entries) (conds n : ℕ) (cs : List Condition) (ks : List Known) (done certs : Certificates) → 0 < n → n + length cs ≤ conds + 1 → conds < 2 ^ 32 → AreSooner n done → AreSaved es n cs ks certs → AreWritableBehind conds done certs
saved_from es conds n [] [] done certs first last few sooner h = subst (AreWritableBehind conds done) (sym h) tt
saved_from es conds n [] (k ∷ ks) done certs first last few sooner h = absurd h
saved_from es conds n (c ∷ cs) [] done certs first last few sooner h = absurd h
saved_from es conds n (c ∷ cs) (k ∷ ks) done certs first last few sooner h =
    row_writable es conds n c k.end done h.0 certs first (omega (arith, last)) few sooner (λ more lt. saved_from es conds (n + 1) cs ks more h.0 (omega arith) (omega (arith, last)) few lt h.2) h.1

pub saved_writable : (es : Entries) (cs : List Condition) (ks : List Known) (certs : Certificates) → length cs < 2 ^ 32 → AreSaved es 1 cs ks certs → AreWritableBehind (length cs) [] certs
saved_writable es cs ks certs few h = saved_from es (length cs) 1 cs ks [] certs (omega arith) (omega arith) few tt h

-- they are read for as many conditions as there are
pub found_is_read : (cs : List Condition) (ks : List Known) (certs : Certificates) → length cs < 2 ^ 32 → AreFor 1 cs ks certs → ReadsFile (length cs) (file_text certs) (Ok certs)
found_is_read cs ks certs few h = written_is_read (length cs) certs (for_writable (length cs) 1 cs ks [] certs (omega arith) (omega arith) few tt h)
