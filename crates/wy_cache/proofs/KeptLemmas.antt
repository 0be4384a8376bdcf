-- What a cache shows, and nothing else.
use Rattle.std.proofs.Common.{◌≡◌, ◌↔◌, All, MatchOption, ℕ, ◌+◌, ◌<◌, ◌≤◌, List, [], ◌∷◌, ◌++◌, Bool, true, false, codes, length, drop, get_or, map, zero, suc, Option, Some, None, Result, Ok, Err, refl, sym, ap, subst, ◌∙◌, arith, append_assoc}
use Rattle.std.specs.Option.{option_map}
use Rattle.std.proofs.lemmas.List.{length-map}
use Rattle.wy_term_text.proofs.wy_lemmas_proofs.Choices.{unlike, same_to, or_left}
use Rattle.wy_term_text.proofs.wy_lemmas_proofs.Lists.{append_mid, none_behind, first_of, rest_of, drop_end}
use Rattle.wy_term.specs.declared.cond.Cond.{Cond}
use Rattle.wy_term.specs.Condition.{Condition, condition_of}
use Rattle.wy_term.specs.Nodes.{Plain, tree_at}
use Rattle.wy_cert.specs.declared.fault.CertFault.{CertFault}
use Rattle.wy_cert.specs.declared.step.Cert.{Cert}
use Rattle.wy_cert.specs.Only.{IsTheOne, HasNone, GoesOn}
use Rattle.wy_cert.specs.Steps.{Written, Certificates, steps_of}
use Rattle.wy_cert.specs.File.{ReadsFile, ReadsCerts, ends_early, complete, goes_behind_end, outside, twice, absent, bad_tree, goes_on, first, second, no_header, is_listed}
use Rattle.wy_check.specs.declared.checking.Checked.{Checked}
use Rattle.wy_check.specs.declared.checking.Checked.TheVariants.{Yes, No}
use Rattle.wy_check.specs.Verdicts.{certificate_for}
use Rattle.wy_check.specs.Within.{IsWithin}
use Rattle.wy_check.proofs.StayLemmas.{as_before, condition_stays}
use Rattle.wy_check.specs.wy_vc_laws.wy_check_spec.valid.Validity.{IsValid}
use Rattle.wy_cache_text.specs.Files.{Entries}
use Rattle.wy_cache_text.specs.Found.{steps_for}
use Rattle.wy_cache.specs.Key.{key_of}
use Rattle.wy_cache.specs.Small.{IsSmall}
use Rattle.wy_cache.specs.Kept.{file_with, IsSteps, IsKept, IsRow, kept, not_kept, AreKept}

-- ---- a file for one condition

pushed : (done : Certificates) (c : ℕ) (steps : List Written) → IsSmall done → is_listed done c ≡ false → 0 < c → c ≤ 1 → IsSmall (done ++ (c, steps) ∷ [])
pushed [] c steps small apart some le = omega (arith, some, le)
pushed (d ∷ []) c steps small apart some le =
    let same : d.0 ≡ c = omega (arith, small, some, le) in
    unlike (is_listed (d ∷ []) c) (or_left _ false (same_to d.0 c same)) apart
pushed (d ∷ e ∷ ds) c steps small apart some le = absurd small

fault_no_answer : (f : CertFault) (cs : Certificates) (out : Result Certificates CertFault) → out ≡ Err f → out ≡ Ok cs → ⊥
fault_no_answer f cs out e is = absurd cc

ok_is : (cs ds : Certificates) (out : Result Certificates CertFault) → out ≡ Ok cs → out ≡ Ok ds → cs ≡ ds
ok_is cs ds out e is = cc

few : (products : Bool) (done : Certificates) (n : ℕ) (text : List ℕ) (out : Result Certificates CertFault) (cs : Certificates) → IsSmall done → ReadsCerts products 1 done n text out → out ≡ Ok cs → IsSmall cs
few products done n text out cs small (ends_early d m t o q e) is = absurd (fault_no_answer _ cs out e is)
few products done n text out cs small (complete d m t o here e) is = subst IsSmall (ok_is done cs out e is) small
few products done n text out cs small (goes_behind_end d m t o r here some e) is = absurd (fault_no_answer _ cs out e is)
few products done n text out cs small (outside d m t o l r here other none e) is = absurd (fault_no_answer _ cs out e is)
few products done n text out cs small (twice d m t o l r c here cond listed e) is = absurd (fault_no_answer _ cs out e is)
few products done n text out cs small (absent d m t o l r c here cond listed large e) is = absurd (fault_no_answer _ cs out e is)
few products done n text out cs small (bad_tree d m t o l r c fault here cond listed le reads e) is = absurd (fault_no_answer _ cs out e is)
few products done n text out cs small (goes_on d m t o l r c tree here cond listed le reads more) is =
    few products (done ++ (c, tree.steps) ∷ []) tree.line tree.rest out cs (pushed done c tree.steps small listed (let k = cond.number in k.some) le) more is

pub small_file : (bytes : List ℕ) (cs : Certificates) → ReadsFile 1 bytes (Ok cs) → IsSmall cs
small_file bytes cs (first rest opens reads) = few false [] 2 rest (Ok cs) cs tt reads refl
small_file bytes cs (second rest opens reads) = few true [] 2 rest (Ok cs) cs tt reads refl
small_file bytes cs (no_header one two e) = absurd (fault_no_answer _ cs (Ok cs) e refl)

-- ---- the certificate of lines

some_steps_are : (a b : List Written) (o : Option (List Written)) → o ≡ Some a → o ≡ Some b → b ≡ a
some_steps_are a b o e f = cc

pub steps_here : (lines bytes : List ℕ) (cs : Certificates) (steps : List Written) → bytes ≡ file_with lines → IsTheOne (ReadsFile 1 bytes) (Ok cs) → certificate_for cs 1 ≡ Some steps → IsTheOne (IsSteps lines) steps
steps_here lines bytes cs steps is read here = record {
  holds = record { certs = cs; read = subst (λ (b : List ℕ). ReadsFile 1 b (Ok cs)) is read.holds; first = here };
  only = λ other h.
      let same : Ok h.certs ≡ Ok cs = read.only (Ok h.certs) (subst (λ (b : List ℕ). ReadsFile 1 b (Ok h.certs)) (sym is) h.read) in
      let one : h.certs ≡ cs = cc in
      some_steps_are steps other (certificate_for cs 1) here (ap (λ (ds : Certificates). certificate_for ds 1) (sym one) ∙ h.first);
}

pub steps_nowhere : (lines bytes : List ℕ) (cs : Certificates) → bytes ≡ file_with lines → IsTheOne (ReadsFile 1 bytes) (Ok cs) → certificate_for cs 1 ≡ None → HasNone (IsSteps lines)
steps_nowhere lines bytes cs is read none = record {
  none = λ other h.
      let same : Ok h.certs ≡ Ok cs = read.only (Ok h.certs) (subst (λ (b : List ℕ). ReadsFile 1 b (Ok h.certs)) (sym is) h.read) in
      let one : h.certs ≡ cs = cc in
      let lost : None ≡ Some other = sym none ∙ ap (λ (ds : Certificates). certificate_for ds 1) (sym one) ∙ h.first in
      absurd cc;
}

pub steps_refused : (lines bytes : List ℕ) (f : CertFault) → bytes ≡ file_with lines → IsTheOne (ReadsFile 1 bytes) (Err f) → HasNone (IsSteps lines)
steps_refused lines bytes f is read = record {
  none = λ other h.
      let same : Ok h.certs ≡ Err f = read.only (Ok h.certs) (subst (λ (b : List ℕ). ReadsFile 1 b (Ok h.certs)) (sym is) h.read) in
      absurd cc;
}

-- the file as it is put together
pub file_joined : (file lines : List ℕ) → file ≡ (codes "wycert 2\ncond 1\n" ++ lines) ++ codes "end\n" → file ≡ file_with lines
file_joined file lines is = is ∙ append_assoc (codes "wycert 2\ncond 1\n") lines (codes "end\n")

-- ---- one condition

lines_are : (a b : List ℕ) (o : Option (List ℕ)) → o ≡ Some a → o ≡ Some b → b ≡ a
lines_are a b o e f = cc

pub no_entry : (es : Entries) (c : Condition) (key : List ℕ) → key ≡ key_of c → steps_for es key ≡ None → HasNone (IsKept es c)
no_entry es c key is none = record {
  none = λ other h. let lost : None ≡ Some h.lines = sym none ∙ ap (steps_for es) is ∙ h.found in absurd cc;
}

module _ (es : Entries) (c : Condition) (key lines : List ℕ) (is : key ≡ key_of c) (found : steps_for es key ≡ Some lines) where
  same_lines : (steps : List Written) → (h : IsKept es c steps) → h.lines ≡ lines
  same_lines steps h = lines_are lines h.lines (steps_for es (key_of c)) (ap (steps_for es) (sym is) ∙ found) h.found

  pub no_steps : HasNone (IsSteps lines) → HasNone (IsKept es c)
  no_steps never = record { none = λ steps h. never.none steps (subst (λ (l : List ℕ). IsSteps l steps) (same_lines steps h) h.read) }

  pub not_valid : (steps : List Written) → IsTheOne (IsSteps lines) steps → (IsValid c steps → ⊥) → HasNone (IsKept es c)
  not_valid steps the bad = record {
    none = λ other h. bad (subst (IsValid c) (the.only other (subst (λ (l : List ℕ). IsSteps l other) (same_lines other h) h.read)) h.valid);
  }

  pub kept_here : (steps : List Written) → IsTheOne (IsSteps lines) steps → IsValid c steps → IsTheOne (IsKept es c) steps
  kept_here steps the good = record {
    holds = record { lines = lines; found = ap (steps_for es) (sym is) ∙ found; read = the.holds; valid = good };
    only = λ other h. the.only other (subst (λ (l : List ℕ). IsSteps l other) (same_lines other h) h.read);
  }

-- ---- all conditions

module _ (es : Entries) (whole : Certificates → Type 0) where
  row_kept : (n : ℕ) (c : Condition) (steps : List Written) (others certs : Certificates) → IsTheOne (IsKept es c) steps → IsRow es n c others certs → certs ≡ (n, steps) ∷ others
  row_kept n c steps others certs the (kept other h is) = is ∙ ap (λ (s : List Written). (n, s) ∷ others) (the.only other h)
  row_kept n c steps others certs the (not_kept never is) = absurd (never.none steps the.holds)

  row_not_kept : (n : ℕ) (c : Condition) (others certs : Certificates) → HasNone (IsKept es c) → IsRow es n c others certs → certs ≡ others
  row_not_kept n c others certs never (kept other h is) = absurd (never.none other h)
  row_not_kept n c others certs never (not_kept none is) = is

  pub turn_kept : (done : Certificates) (n : ℕ) (c : Condition) (cs left : List Condition) (steps : List Written) → left ≡ c ∷ cs → IsTheOne (IsKept es c) steps → GoesOn done (AreKept es n left) whole
      → GoesOn (done ++ (n, steps) ∷ []) (AreKept es (n + 1) cs) whole
  turn_kept done n c cs left steps is the so_far = record {
    to = λ others h. subst whole (sym (append_mid done (n, steps) others)) (so_far.to ((n, steps) ∷ others) (subst (λ (l : List Condition). AreKept es n l ((n, steps) ∷ others)) (sym is) (others, kept steps the.holds refl, h)));
    back = λ all h.
        let b = so_far.back all h in
        let holds : AreKept es n (c ∷ cs) b.others = subst (λ (l : List Condition). AreKept es n l b.others) is b.holds in
        record {
          others = holds.0;
          is = b.is ∙ ap (λ (l : Certificates). done ++ l) (row_kept n c steps holds.0 b.others the holds.1) ∙ sym (append_mid done (n, steps) holds.0);
          holds = holds.2;
        };
  }

  pub turn_not_kept : (done : Certificates) (n : ℕ) (c : Condition) (cs left : List Condition) → left ≡ c ∷ cs → HasNone (IsKept es c) → GoesOn done (AreKept es n left) whole → GoesOn done (AreKept es (n + 1) cs) whole
  turn_not_kept done n c cs left is never so_far = record {
    to = λ others h. so_far.to others (subst (λ (l : List Condition). AreKept es n l others) (sym is) (others, not_kept never refl, h));
    back = λ all h.
        let b = so_far.back all h in
        let holds : AreKept es n (c ∷ cs) b.others = subst (λ (l : List Condition). AreKept es n l b.others) is b.holds in
        record {
          others = holds.0;
          is = b.is ∙ ap (λ (l : Certificates). done ++ l) (row_not_kept n c holds.0 b.others never holds.1);
          holds = holds.2;
        };
  }

  pub all_turned : (done : Certificates) (n : ℕ) (left : List Condition) → left ≡ [] → GoesOn done (AreKept es n left) whole → IsTheOne whole done
  all_turned done n left is so_far = record {
    holds = subst whole (none_behind done) (so_far.to [] (subst (λ (l : List Condition). AreKept es n l []) (sym is) refl));
    only = λ all h.
        let b = so_far.back all h in
        let none : b.others ≡ [] = subst (λ (l : List Condition). AreKept es n l b.others) is b.holds in
        b.is ∙ ap (λ (l : Certificates). done ++ l) none ∙ none_behind done;
  }

pub no_turn : (whole : Certificates → Type 0) → GoesOn [] whole whole
no_turn whole = record { to = λ others h. h; back = λ all h. record { others = all; is = refl; holds = h } }

-- ---- for functions inside

-- the last of a list has what all have
pub last_has : {X : Type 0} (P : X → Type 0) (xs all : List X) (x : X) → all ≡ xs ++ x ∷ [] → All P all → P x
last_has P [] all x is has = first_of P x [] (subst (All P) is has)
last_has P (y ∷ ys) all x is has = last_has P ys (ys ++ x ∷ []) x refl (rest_of P y (ys ++ x ∷ []) (subst (All P) is has))

-- what `only` gives
pub by_only : (lines bytes : List ℕ) (cs : Certificates) (r : Option Cert) → bytes ≡ file_with lines → IsTheOne (ReadsFile 1 bytes) (Ok cs) → option_map steps_of r ≡ certificate_for cs 1
    → MatchOption r (HasNone (IsSteps lines)) (λ cert. IsTheOne (IsSteps lines) (steps_of cert))
by_only lines bytes cs None is read e = steps_nowhere lines bytes cs is read (sym e)
by_only lines bytes cs (Some cert) is read e = steps_here lines bytes cs (steps_of cert) is read (sym e)

-- a certificate that isn't valid
pub no_certificate : (es : Entries) (c : Condition) (steps : List Written) (a : Checked) (step : ℕ) → a ≡ No step → (a ≡ Yes) ↔ IsValid c steps → ((IsValid c steps → ⊥) → HasNone (IsKept es c)) → HasNone (IsKept es c)
no_certificate es c steps a step is valid so = so (λ good. let yes = valid.1 good in absurd cc)

-- ---- the condition at a place

drop_mapped_suc : {A B : Type 0} (f : A → B) (xs : List A) (i : ℕ) (x : A) → i < length xs → x ≡ get_or xs i x → drop i (map f xs) ≡ f x ∷ drop (suc i) (map f xs)
drop_mapped_suc f [] i x lt at = absurd (omega (arith, lt))
drop_mapped_suc f (y ∷ ys) zero x lt at = ap (λ z. f z ∷ map f ys) (sym at)
drop_mapped_suc f (y ∷ ys) (suc i) x lt at = drop_mapped_suc f ys i x (omega (arith, lt)) at

pub drop_mapped : {A B : Type 0} (f : A → B) (xs : List A) (i : ℕ) (x : A) → i < length xs → x ≡ get_or xs i x → drop i (map f xs) ≡ f x ∷ drop (i + 1) (map f xs)
drop_mapped f xs i x lt at = let next : suc i ≡ i + 1 = omega arith in drop_mapped_suc f xs i x lt at ∙ ap (λ (j : ℕ). f x ∷ drop j (map f xs)) next

pub none_dropped : {A B : Type 0} (f : A → B) (xs : List A) (i : ℕ) → length xs ≤ i → drop i (map f xs) ≡ []
none_dropped f xs i le = drop_end (map f xs) i (let same = length-map xs f in omega (arith, le, same))

pub within_at : (n : ℕ) (conds : List Cond) (i : ℕ) (cond : Cond) → All (IsWithin n) conds → i < length conds → cond ≡ get_or conds i cond → IsWithin n cond
within_at n conds i cond all lt at = subst (IsWithin n) (sym at) (all i cond lt)

-- a condition is the same where the terms are as before
pub same_condition : (old now : List Plain) (cond : Cond) → length now ≡ length old → ((t : ℕ) → t < length old → tree_at now t ≡ tree_at old t) → IsWithin (length old) cond → condition_of now cond ≡ condition_of old cond
same_condition old now cond same kept_terms within = condition_stays old now cond (as_before old now same kept_terms) within

-- ---- what `kept_one` answers

abbrev pub Answered : Entries → Condition → Option Cert → Type 0
Answered es c o = MatchOption o (HasNone (IsKept es c)) (λ cert. IsTheOne (IsKept es c) (steps_of cert))

pub kept_value : (es : Entries) (c : Condition) (o : Option Cert) (cert : Cert) → o ≡ Some cert → Answered es c o → IsTheOne (IsKept es c) (steps_of cert)
kept_value es c o cert is h = subst (Answered es c) is h

pub kept_none : (es : Entries) (c : Condition) (o : Option Cert) → o ≡ None → Answered es c o → HasNone (IsKept es c)
kept_none es c o is h = subst (Answered es c) is h
