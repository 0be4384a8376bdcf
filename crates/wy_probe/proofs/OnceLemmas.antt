-- There is one finding.
use Rattle.std.proofs.Common.{◌≡◌, ◌++◌, ℕ, suc, List, [], ◌∷◌, length, Option, refl, sym, ap, ap₂, ◌∙◌, subst}
use Rattle.wy_term.specs.declared.cond.CondKind.{CondKind}
use Rattle.wy_value.specs.Datum.{Datum}
use Rattle.wy_sem.specs.Meter.{Meter, Outcome, Fault}
use Rattle.wy_probe.specs.Trials.{Counted, no_more, one_more, not_one, DoesFault, Faulted, Faultless, FindsOnce, FoundIn, IsMet, IsUndecided, NoneFaults, NoneIn, Probe}

-- ---- the counts

counted_once : (P : List Datum → Type 0) (all : List (List Datum)) (m n : ℕ) → Counted P all m → Counted P all n → m ≡ n
counted_once P [] _ _ no_more no_more = refl
counted_once P (vs ∷ rest) (suc m) (suc n) (one_more is h) (one_more at g) = ap (λ k. suc k) (counted_once P rest m n h g)
counted_once P (vs ∷ rest) (suc m) n (one_more is h) (not_one never g) = absurd (never is)
counted_once P (vs ∷ rest) m (suc n) (not_one never h) (one_more is g) = absurd (never is)
counted_once P (vs ∷ rest) m n (not_one never h) (not_one more g) = counted_once P rest m n h g

-- ---- the fault

fault_kind : (k l : CondKind) (a b : ℕ) (m n : Meter) → (let o : Outcome (Option Datum) = Fault k a m in o ≡ Fault l b n) → k ≡ l
fault_kind k l a b m n e = cc

fault_place : (k l : CondKind) (a b : ℕ) (m n : Meter) → (let o : Outcome (Option Datum) = Fault k a m in o ≡ Fault l b n) → a ≡ b
fault_place k l a b m n e = cc

-- ---- the tuple

first_is : (v w : List Datum) (a b : List (List Datum)) → v ∷ a ≡ w ∷ b → v ≡ w
first_is v w a b e = cc

rest_is : (v w : List Datum) (a b : List (List Datum)) → v ∷ a ≡ w ∷ b → a ≡ b
rest_is v w a b e = cc

module _ (p : Probe) where
  -- two tuples that fault, before each of which none does
  same_before : (a b : List (List Datum)) (v w : List Datum) (c d : List (List Datum)) → a ++ v ∷ c ≡ b ++ w ∷ d → NoneFaults p a → NoneFaults p b
      → (k l : CondKind) (i j : ℕ) → DoesFault p v k i → DoesFault p w l j → (length a ≡ length b) × (v ≡ w)
  same_before [] [] v w c d e none some k l i j f g = (refl, first_is v w c d e)
  same_before [] (x ∷ b) v w c d e none some k l i j f g = absurd (some.0 k i (subst (λ u. DoesFault p u k i) (first_is v x c (b ++ w ∷ d) e) f))
  same_before (x ∷ a) [] v w c d e none some k l i j f g = absurd (none.0 l j (subst (λ u. DoesFault p u l j) (sym (first_is x w (a ++ v ∷ c) d e)) g))
  same_before (x ∷ a) (y ∷ b) v w c d e none some k l i j f g =
      let behind = same_before a b v w c d (rest_is x y (a ++ v ∷ c) (b ++ w ∷ d) e) none.1 some.1 k l i j f g in
      (ap (λ n. suc n) behind.0, behind.1)

  one_fault : (v w : List Datum) (k l : CondKind) (i j : ℕ) → v ≡ w → DoesFault p v k i → DoesFault p w l j → (k ≡ l) × (i ≡ j)
  one_fault v w k l i j same f g =
      let h = subst (λ u. DoesFault p u k i) same f in
      let e = sym h.faults ∙ g.faults in
      (fault_kind k l i j h.rest g.rest e, fault_place k l i j h.rest g.rest e)

  -- a tuple faults, and none does
  not_both : (a : List (List Datum)) (v : List Datum) (c : List (List Datum)) (k : CondKind) (i : ℕ) → DoesFault p v k i → NoneFaults p (a ++ v ∷ c) → ⊥
  not_both [] v c k i f none = none.0 k i f
  not_both (x ∷ a) v c k i f none = not_both a v c k i f none.1

  apart : (all : List (List Datum)) (number : ℕ) (vs : List Datum) (k : CondKind) (i : ℕ) → FoundIn p all number vs k i → NoneFaults p all → ⊥
  apart all number vs k i h none = not_both h.before vs h.behind k i h.faults (subst (NoneFaults p) h.all_are none)

  two_found : (all : List (List Datum)) (m n : ℕ) (v w : List Datum) (k l : CondKind) (i j : ℕ) → FoundIn p all m v k i → FoundIn p all n w l j → Faulted m v k i ≡ Faulted n w l j
  two_found all m n v w k l i j f g =
      let both = same_before f.before g.before v w f.behind g.behind (sym f.all_are ∙ g.all_are) f.none_before g.none_before k l i j f.faults g.faults in
      let fault = one_fault v w k l i j both.1 f.faults g.faults in
      let number : m ≡ n = f.number_is ∙ (ap (λ x. suc x) both.0 ∙ sym g.number_is) in
      ap₂ (λ x u. Faulted x u k i) number both.1 ∙ ap₂ (λ x y. Faulted n w x y) fault.0 fault.1

  two_none : (all : List (List Datum)) (a b c x y z : ℕ) → NoneIn p all a b c → NoneIn p all x y z → Faultless a b c ≡ Faultless x y z
  two_none all a b c x y z f g =
      let tried : a ≡ x = f.tried_are ∙ sym g.tried_are in
      let met = counted_once (IsMet p) all b y f.met_are g.met_are in
      let undecided = counted_once (IsUndecided p) all c z f.undecided_are g.undecided_are in
      ap (λ n. Faultless n b c) tried ∙ ap₂ (λ n m. Faultless x n m) met undecided

pub finds_once : FindsOnce
finds_once p all (Faulted m v k i) (Faulted n w l j) f g = two_found p all m n v w k l i j f g
finds_once p all (Faulted m v k i) (Faultless x y z) f g = absurd (apart p all m v k i f g.none)
finds_once p all (Faultless a b c) (Faulted n w l j) f g = absurd (apart p all n w l j g f.none)
finds_once p all (Faultless a b c) (Faultless x y z) f g = two_none p all a b c x y z f g
