-- How many numbers below a bound are labels.
use Rattle.std.proofs.Common.{◌≡◌, ◌∙◌, ◌<◌, ◌≤◌, ℕ, zero, suc, List, [], ◌∷◌, length, Bool, true, false, cond, eqb, refl, sym, ap, subst, arith}
use Rattle.std.specs.Prelude.{slice_index}
use Rattle.std.proofs.lemmas.Bool.{eqb-true, eqb-false}
use Rattle.std.proofs.lemmas.List.{get_or-map, length-map}
use Rattle.wy_lemmas.proofs.Choices.{eqb_itself as eqb_self, counted, no_more}
use Rattle.wy_lemmas.proofs.Numbers.{moved}
use Rattle.wy_search_spec.specs.Classes.{relabelled}

-- ---- counts

-- how many of the numbers below this one pass the test
abbrev pub count : ℕ → (ℕ → Bool) → ℕ
count zero f = 0
count (suc n) f = counted (f n) (count n f)

pub count_most : (n : ℕ) (f : ℕ → Bool) → count n f ≤ n
count_most zero f = omega arith
count_most (suc n) f = by (f n) (count_most n f)
  where
    by : (b : Bool) → count n f ≤ n → counted b (count n f) ≤ suc n
    by true h = omega (arith, h)
    by false h = omega (arith, h)

pub count_weaker : (n : ℕ) (f g : ℕ → Bool) → ((v : ℕ) → f v ≡ true → g v ≡ true) → count n f ≤ count n g
count_weaker zero f g h = omega arith
count_weaker (suc n) f g h = no_more (f n) (g n) (count n f) (count n g) (h n) (count_weaker n f g h)

fewer_here : (b c : Bool) (m n : ℕ) → b ≡ false → c ≡ true → m ≤ n → counted b m < counted c n
fewer_here true c m n e f le = absurd cc
fewer_here false true m n e f le = omega (arith, le)
fewer_here false false m n e f le = absurd cc

fewer_later : (b c : Bool) (m n : ℕ) → (b ≡ true → c ≡ true) → m < n → counted b m < counted c n
fewer_later true true m n h lt = omega (arith, lt)
fewer_later true false m n h lt = let e : false ≡ true = h refl in absurd cc
fewer_later false true m n h lt = omega (arith, lt)
fewer_later false false m n h lt = lt

-- one that passed doesn't, and none more does
pub count_fewer : (n a : ℕ) (f g : ℕ → Bool) → ((v : ℕ) → f v ≡ true → g v ≡ true) → a < n → f a ≡ false → g a ≡ true → count n f < count n g
count_fewer zero a f g h lt none one = absurd (omega (arith, lt))
count_fewer (suc n) a f g h lt none one = by (λ l. count_fewer n a f g h l none one) (eqb a n) refl
  where
    less : eqb a n ≡ false → a < n
    less e = grind (arith, e, lt)

    by : (a < n → count n f < count n g) → (b : Bool) → eqb a n ≡ b → counted (f n) (count n f) < counted (g n) (count n g)
    by rest true e = let same : a ≡ n = eqb-true a n e in fewer_here (f n) (g n) (count n f) (count n g) (ap f (sym same) ∙ none) (ap g (sym same) ∙ one) (count_weaker n f g h)
    by rest false e = fewer_later (f n) (g n) (count n f) (count n g) (h n) (rest (less e))

nothing : ℕ → Bool
nothing v = false

pub count_some : (n a : ℕ) (f : ℕ → Bool) → a < n → f a ≡ true → 1 ≤ count n f
unfolding nothing
count_some n a f lt one = let more : count n nothing < count n f = count_fewer n a nothing f (λ v e. absurd cc) lt refl one in omega (arith, more)

-- ---- what occurs in a list

abbrev pub occurs : ℕ → List ℕ → Bool
occurs v [] = false
occurs v (l ∷ ls) = cond (eqb l v) true (occurs v ls)

pub record IsAt (v : ℕ) (labels : List ℕ) : Type 0 where
  pub at : ℕ
  pub below : at < length labels
  pub is : slice_index labels at ≡ v

pub occurs_at : (labels : List ℕ) (i : ℕ) → i < length labels → occurs (slice_index labels i) labels ≡ true
occurs_at [] i lt = absurd (omega (arith, lt))
occurs_at (l ∷ ls) zero lt = ap (λ (b : Bool). cond b true (occurs l ls)) (eqb_self l)
occurs_at (l ∷ ls) (suc i) lt = by (eqb l (slice_index ls i)) (occurs_at ls i (omega (arith, lt)))
  where
    by : (b : Bool) → occurs (slice_index ls i) ls ≡ true → cond b true (occurs (slice_index ls i) ls) ≡ true
    by true h = refl
    by false h = h

pub occurs_where : (v : ℕ) (labels : List ℕ) → occurs v labels ≡ true → IsAt v labels
occurs_where v [] e = absurd cc
occurs_where v (l ∷ ls) e = by (λ g. occurs_where v ls g) (eqb l v) refl e
  where
    by : (occurs v ls ≡ true → IsAt v ls) → (b : Bool) → eqb l v ≡ b → cond b true (occurs v ls) ≡ true → IsAt v (l ∷ ls)
    by rest true f g = record { at = 0; below = omega arith; is = eqb-true l v f }
    by rest false f g = let h = rest g in record { at = suc h.at; below = omega (arith, h.below); is = h.is }

-- ---- one class joins another

pub moved_at : (labels : List ℕ) (a b i : ℕ) → i < length labels → slice_index (relabelled a b labels) i ≡ moved a b (slice_index labels i)
moved_at labels a b i lt = get_or-map (moved a b) labels i 0 0 lt

pub as_long : (labels : List ℕ) (a b : ℕ) → length (relabelled a b labels) ≡ length labels
as_long labels a b = length-map labels (moved a b)

pub occurred : (v a b : ℕ) (labels : List ℕ) → occurs b labels ≡ true → occurs v (relabelled a b labels) ≡ true → occurs v labels ≡ true
occurred v a b labels there e = by (eqb (slice_index labels h.at) a) (sym (moved_at labels a b h.at lt) ∙ h.is)
  where
    h : IsAt v (relabelled a b labels)
    h = occurs_where v (relabelled a b labels) e

    lt : h.at < length labels
    lt = omega (arith, h.below, as_long labels a b)

    by : (c : Bool) → cond c b (slice_index labels h.at) ≡ v → occurs v labels ≡ true
    by true f = subst (λ (w : ℕ). occurs w labels ≡ true) f there
    by false f = subst (λ (w : ℕ). occurs w labels ≡ true) f (occurs_at labels h.at lt)

pub is_gone : (a b : ℕ) (labels : List ℕ) → eqb a b ≡ false → occurs a (relabelled a b labels) ≡ false
is_gone a b labels apart = by (occurs a (relabelled a b labels)) refl
  where
    never : IsAt a (relabelled a b labels) → ⊥
    never h = at (eqb (slice_index labels h.at) a) refl (sym (moved_at labels a b h.at lt) ∙ h.is)
      where
        lt : h.at < length labels
        lt = omega (arith, h.below, as_long labels a b)

        at : (c : Bool) → eqb (slice_index labels h.at) a ≡ c → cond c b (slice_index labels h.at) ≡ a → ⊥
        at true f g = eqb-false a b apart (sym g)
        at false f g = eqb-false (slice_index labels h.at) a f g

    by : (c : Bool) → occurs a (relabelled a b labels) ≡ c → occurs a (relabelled a b labels) ≡ false
    by true e = absurd (never (occurs_where a (relabelled a b labels) e))
    by false e = e

pub moved_same : (a b : ℕ) (labels : List ℕ) → a ≡ b → relabelled a b labels ≡ labels
moved_same a b [] same = refl
moved_same a b (l ∷ ls) same = ap (λ (m : ℕ). m ∷ relabelled a b ls) (by (eqb l a) refl) ∙ ap (λ (ms : List ℕ). l ∷ ms) (moved_same a b ls same)
  where
    by : (c : Bool) → eqb l a ≡ c → cond c b l ≡ l
    by true f = sym (eqb-true l a f ∙ same)
    by false f = refl
