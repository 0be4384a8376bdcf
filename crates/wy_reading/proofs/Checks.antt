-- Checks of what is spelled: `Checked`.
use Rattle.std.proofs.Common.{◌≡◌, ℕ, ◌≤◌, Bool, true, false, cond, true≢false, List, length, Ok, Err, ◌⊎◌, inl, inr, refl, sym, ap, ◌∙◌, arith}
use Rattle.wy_reading.specs.declared.stop.Stop.{Stop}
use Rattle.wy_reading.specs.declared.stop.Stop.TheVariants.{Unexpected, Fault}
use Rattle.wy_reading.specs.Mode.{Mode}
use Rattle.wy_reading.specs.Rule.{Rule, lax, Checked}
use Rattle.wy_reading.specs.Reader.{Reader, Outcome, checked}
use Rattle.wy_reading.proofs.Exactness.{Stuck, ExactTo}
use Rattle.wy_reading.proofs.Outcomes.{and_then-ok, and_then-err, ok-parts, if-cases}

-- ---- checks

pub lax-looser : {A : Type 0} (s t : Bool) (ok : A → Bool) (a : A) → (t ≡ true → s ≡ true) → lax s ok a ≡ true → lax t ok a ≡ true
lax-looser true true ok a h e = e
lax-looser true false ok a h e = refl
lax-looser false true ok a h e = absurd (true≢false (sym (h refl)))
lax-looser false false ok a h e = refl

pub lax-good : {A : Type 0} (s : Bool) (ok : A → Bool) (a : A) → ok a ≡ true → lax s ok a ≡ true
lax-good true ok a h = h
lax-good false ok a h = refl

-- a check that is made where the mode is strict
module _ {S X A : Type 0} (n : Mode) (R : Rule S X A) (q : Mode → Reader S X A) (F B : List S → Type 0) (P : A → Type 0) (ok : A → Bool) (x : X)
    (e : ExactTo n R q (λ a. F) B P) (good : (a : A) → P a → ok a ≡ true) where
  abbrev check_read : Mode → Reader S X A
  check_read m = checked (lax m.strict ok) x (q m)

  abbrev after : Mode → ℕ → A → Reader S X A
  after m k a j = cond (lax m.strict ok a) (Ok (a, j)) (Err (Fault x k))

  abbrev Tested : Mode → A → List S → ℕ → Outcome S X A → Type 0
  Tested m a j k r = ((lax m.strict ok a ≡ true) × (let well : Outcome S X A = Ok (a, j) in well ≡ r)) ⊎ ((lax m.strict ok a ≡ false) × (let bad : Outcome S X A = Err (Fault x k) in bad ≡ r))

  tested : (a : A) (j : List S) (k : ℕ) (r : Outcome S X A) → after n k a j ≡ r → Tested n a j k r
  tested a j k r h = if-cases (lax n.strict ok a) _ _ _ h

  passed : (i : List S) (a : A) (j : List S) → check_read n i ≡ Ok (a, j) → (q n i ≡ Ok (a, j)) × (lax n.strict ok a ≡ true)
  passed i a j h =
      let y = and_then-ok (q n i) (after n (length i)) (a, j) h in
      by y.0.0 y.0.1 y.1 (tested y.0.0 y.0.1 (length i) (Ok (a, j)) y.2)
    where
      by : (b : A) (k : List S) → q n i ≡ Ok (b, k) → Tested n b k (length i) (Ok (a, j)) → (q n i ≡ Ok (a, j)) × (lax n.strict ok a ≡ true)
      by b k g (inl d) = let s = ok-parts b a k j d.1 in (g ∙ d.1, ap (λ c. lax n.strict ok c) (sym s.0) ∙ d.0)
      by b k g (inr d) = let bad = d.1 in absurd (cc)

  abbrev Rejects : List S → Stop X → Type 0
  Rejects i y = (a : A) × (j : List S) × (q n i ≡ Ok (a, j)) × (lax n.strict ok a ≡ false) × (y ≡ Fault x (length i))

  failed : (i : List S) (y : Stop X) → check_read n i ≡ Err y → (q n i ≡ Err y) ⊎ Rejects i y
  failed i y h = by (and_then-err (q n i) (after n (length i)) y h)
    where
      over : (z : A × List S) → q n i ≡ Ok z → Tested n z.0 z.1 (length i) (Err y) → (q n i ≡ Err y) ⊎ Rejects i y
      over z g (inl d) = let bad = d.1 in absurd (cc)
      over z g (inr d) = let bad = d.1 in inr (z.0, z.1, g, d.0, (let same : y ≡ Fault x (length i) = cc in same))

      by : (q n i ≡ Err y) ⊎ ((z : A × List S) × (q n i ≡ Ok z) × (after n (length i) z.0 z.1 ≡ Err y)) → (q n i ≡ Err y) ⊎ Rejects i y
      by (inl d) = inl d
      by (inr d) = over d.0 d.1 (tested d.0.0 d.0.1 (length i) (Err y) d.2)

  reads_on : (m : Mode) (i : List S) (a : A) (j : List S) → q m i ≡ Ok (a, j) → lax m.strict ok a ≡ true → check_read m i ≡ Ok (a, j)
  reads_on m i a j g h = rw (g, h) refl

  check-stuck : (i : List S) (k : ℕ) → (q n i ≡ Err (Unexpected k)) ⊎ Rejects i (Unexpected k) → Stuck n check_read (λ a. F) B P i k
  check-stuck i k (inl h) = let d = e.stuck i k h in record {
    front = d.front;
    back = d.back;
    cut = d.cut;
    left = d.left;
    again = λ m le j' s. rw (d.again m le j' s) refl;
    ending = d.ending;
    made = d.made;
    wanted = d.wanted;
    deep = d.deep;
    alive = λ m le deep z f. reads_on m _ d.made z (d.alive m le deep z f) (lax-good m.strict ok d.made (good d.made d.wanted));
    starts = d.starts;
  }
  check-stuck i k (inr h) = let bad = h.4 in absurd (cc)

  abbrev CheckMet : List S → X → ℕ → Type 0
  CheckMet i y k = R.meets i y k ⊎ ((a : A) × (j : List S) × R.reads i a j × F j × (lax n.strict ok a ≡ false) × (y ≡ x) × (k ≡ length i))

  -- F must hold behind what is rejected: a reader that takes all it can
  module _ (takes_all : (i : List S) (a : A) (j : List S) → q n i ≡ Ok (a, j) → F j) where
    check-met : (i : List S) (y : X) (k : ℕ) → (q n i ≡ Err (Fault y k)) ⊎ Rejects i (Fault y k) → CheckMet i y k
    check-met i y k (inl h) = inl (e.met i y k h)
    check-met i y k (inr h) = let same = h.4 in inr (h.0, h.1, e.sound i h.0 h.1 h.2, takes_all i h.0 h.1 h.2, h.3, (cc), (cc))

    check-meets : (i : List S) (y : X) (k : ℕ) → CheckMet i y k → (check_read n i ≡ Err (Fault y k)) × B i × (k ≤ length i)
    check-meets i y k (inl h) = let d = e.meets i y k h in (rw d.0 refl, d.1, d.2)
    check-meets i y k (inr h) = (rw (e.complete i h.0 h.1 h.2 h.3, h.4, h.5, h.6) refl, e.first i h.0 h.1 h.2 h.3, omega (arith, h.6))

    pub checked-exact : ExactTo n (Checked F (lax n.strict ok) x R) check_read (λ a. F) B P
    checked-exact = record {
      sound = λ i a j h. let d = passed i a j h in (e.sound i a j d.0, d.1);
      complete = λ i a j h f. reads_on n i a j (e.complete i a j h.0 f) h.1;
      first = λ i a j h f. e.first i a j h.0 f;
      met = λ i y k h. check-met i y k (failed i (Fault y k) h);
      meets = check-meets;
      done = λ i a j h. let c = passed i a j h in let d = e.done i a j c.0 in record {
        front = d.front;
        cut = d.cut;
        again = λ m le j' g. reads_on m _ a j' (d.again m le j' g) (lax-looser n.strict m.strict ok a le.1 c.1);
      };
      stuck = λ i k h. check-stuck i k (failed i (Unexpected k) h);
      sample = let s = e.sample in record {
        text = s.text;
        made = s.made;
        wanted = s.wanted;
        deep = s.deep;
        alive = λ m le deep z f. reads_on m _ s.made z (s.alive m le deep z f) (lax-good m.strict ok s.made (good s.made s.wanted));
        starts = s.starts;
      };
    }
