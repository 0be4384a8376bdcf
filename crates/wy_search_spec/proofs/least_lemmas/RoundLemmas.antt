-- The rounds join all that is congruent: each one that joins anything leaves a label less.
use Rattle.std.proofs.Common.{◌≡◌, ◌∙◌, ◌<◌, ◌≤◌, ℕ, zero, suc, List, [], ◌∷◌, length, Bool, true, false, cond, eqb, Option, Some, None, refl, sym, ap, subst, arith}
use Rattle.std.specs.Prelude.{slice_index}
use Rattle.std.specs.Bool.{beq}
use Rattle.std.proofs.lemmas.Bool.{eqb-true}
use Rattle.wy_lemmas.proofs.Choices.{eqb_itself as eqb_self, both_parts as both, bits_are}
use Rattle.wy_lemmas.proofs.Numbers.{moved}
use Rattle.wy_lemmas.proofs.Options.{some_number_is as some_is}
use Rattle.wy_search_spec.proofs.SharedLemmas.{length_numbers, number_at}
use Rattle.wy_check_spec.specs.wy_term.Term.{Term, Of, no_parts, part, two, equal}
use Rattle.wy_check_spec.specs.wy_term.Same.{same_term}
use Rattle.wy_check_spec.proofs.wy_term_proofs.SameLemmas.{terms_are}
use Rattle.wy_check_spec.specs.judge.Node.{Literal, same_literal, has_formula, has_literal}
use Rattle.wy_search_spec.specs.Classes.{place_from, label_of, are_congruent, relabelled, joined, with_equal, with_literal, with_equations, with_congruent, with_all_congruent, rounds, numbers_from, classes}
use Rattle.wy_search_spec.proofs.least_lemmas.PlaceLemmas.{place_below}
use Rattle.wy_search_spec.proofs.least_lemmas.SizeLemmas.{as_long, count, count_fewer, count_most, count_some, is_gone, moved_at, moved_same, occurred, occurs, occurs_at}

-- there is a label for each term, which is below their number
pub record IsLabelled (ts : List Term) (labels : List ℕ) : Type 0 where
  pub long : length labels ≡ length ts
  pub below : (i : ℕ) → i < length ts → slice_index labels i < length ts

-- what has one label keeps one
abbrev pub Keeps : List Term → List ℕ → List ℕ → Type 0
Keeps ts labels made = (i j : ℕ) → i < length ts → j < length ts → slice_index labels i ≡ slice_index labels j → slice_index made i ≡ slice_index made j

-- both have one label, if they have places
abbrev pub AreJoined : List Term → List ℕ → Term → Term → Type 0
AreJoined ts labels s t = (i j : ℕ) → place_from ts s 0 ≡ Some i → place_from ts t 0 ≡ Some j → slice_index labels i ≡ slice_index labels j

-- how many labels there are
abbrev size : List Term → List ℕ → ℕ
size ts labels = count (length ts) (λ v. occurs v labels)

-- nothing was joined, since this was so; or there are less labels
data Turn (ts : List Term) (labels made : List ℕ) (P : List ℕ → Type 0) : Type 0 where
  stays : made ≡ labels → P labels → Turn ts labels made P
  goes : size ts made < size ts labels → Turn ts labels made P

record Step (ts : List Term) (labels made : List ℕ) (P : List ℕ → Type 0) : Type 0 where
  labelled : IsLabelled ts made
  keeps : Keeps ts labels made
  turn : Turn ts labels made P

-- so many labels as before, and what has one keeps one
record Made (ts : List Term) (labels made : List ℕ) : Type 0 where
  labelled : IsLabelled ts made
  keeps : Keeps ts labels made

-- joined to each of these that is congruent to it
abbrev JoinedTo : List Term → Term → List Term → List ℕ → Type 0
JoinedTo ts s us labels = (t : Term) → has_formula us t ≡ true → are_congruent ts labels s t ≡ true → AreJoined ts labels s t

abbrev AllJoined : List Term → List Term → List ℕ → Type 0
AllJoined ts us labels = (s : Term) → has_formula us s ≡ true → JoinedTo ts s ts labels

-- terms that are congruent have one label
abbrev pub IsClosed : List Term → List ℕ → Type 0
IsClosed ts labels = AllJoined ts ts labels

module _ (ts : List Term) where
  -- ---- steps

  stay : (labels : List ℕ) (P : List ℕ → Type 0) → IsLabelled ts labels → P labels → Step ts labels labels P
  stay labels P known h = record { labelled = known; keeps = λ i j li lj e. e; turn = stays refl h }

  weaker : (labels made : List ℕ) (P Q : List ℕ → Type 0) → Step ts labels made P → (P labels → Q labels) → Step ts labels made Q
  weaker labels made P Q s h = record { labelled = s.labelled; keeps = s.keeps; turn = by s.turn }
    where
      by : Turn ts labels made P → Turn ts labels made Q
      by (stays e p) = stays e (h p)
      by (goes lt) = goes lt

  chain : (labels mid made : List ℕ) (P Q : List ℕ → Type 0) → Step ts labels mid P → Step ts mid made Q → Step ts labels made (λ ls. P ls × Q ls)
  chain labels mid made P Q s t = record { labelled = t.labelled; keeps = λ i j li lj e. t.keeps i j li lj (s.keeps i j li lj e); turn = by s.turn t.turn }
    where
      by : Turn ts labels mid P → Turn ts mid made Q → Turn ts labels made (λ ls. P ls × Q ls)
      by (stays e p) (stays f q) = stays (f ∙ e) (p, subst Q e q)
      by (stays e p) (goes lt) = goes (subst (λ (ls : List ℕ). size ts made < size ts ls) e lt)
      by (goes lt) (stays f q) = goes (subst (λ (ls : List ℕ). size ts ls < size ts labels) (sym f) lt)
      by (goes lt) (goes mt) = goes (omega (arith, lt, mt))

  -- ---- one class joins another

  relabel : (labels : List ℕ) → IsLabelled ts labels → (m n : ℕ) → m < length ts → n < length ts
      → Step ts labels (relabelled (slice_index labels m) (slice_index labels n) labels) (λ ls. slice_index ls m ≡ slice_index ls n)
  relabel labels known m n lm ln = record {
    labelled = record { long = as_long labels a b ∙ known.long; below = λ i lt. subst (λ (w : ℕ). w < length ts) (sym (moved_at labels a b i (within i lt))) (moved_below (eqb (slice_index labels i) a) i lt) };
    keeps = λ i j li lj e. moved_at labels a b i (within i li) ∙ (ap (moved a b) e ∙ sym (moved_at labels a b j (within j lj)));
    turn = by (eqb a b) refl;
  }
    where
      a : ℕ
      a = slice_index labels m

      b : ℕ
      b = slice_index labels n

      within : (i : ℕ) → i < length ts → i < length labels
      within i lt = omega (arith, lt, known.long)

      moved_below : (c : Bool) (i : ℕ) → i < length ts → cond c (slice_index labels n) (slice_index labels i) < length ts
      moved_below true i lt = known.below n ln
      moved_below false i lt = known.below i lt

      by : (c : Bool) → eqb (slice_index labels m) (slice_index labels n) ≡ c → Turn ts labels (relabelled (slice_index labels m) (slice_index labels n) labels) (λ ls. slice_index ls m ≡ slice_index ls n)
      by true e = stays (moved_same (slice_index labels m) (slice_index labels n) labels (eqb-true (slice_index labels m) (slice_index labels n) e)) (eqb-true (slice_index labels m) (slice_index labels n) e)
      by false e =
          goes
          (count_fewer (length ts) (slice_index labels m) (λ v. occurs v (relabelled (slice_index labels m) (slice_index labels n) labels)) (λ v. occurs v labels)
          (λ v h. occurred v (slice_index labels m) (slice_index labels n) labels (occurs_at labels n (within n ln)) h) (known.below m lm)
          (is_gone (slice_index labels m) (slice_index labels n) labels e) (occurs_at labels m (within m lm)))

  join : (labels : List ℕ) → IsLabelled ts labels → (s t : Term) → Step ts labels (with_equal ts labels s t) (λ ls. AreJoined ts ls s t)
  join labels known s t = by (place_from ts s 0) (place_from ts t 0) refl refl
    where
      by : (o p : Option ℕ) → place_from ts s 0 ≡ o → place_from ts t 0 ≡ p → Step ts labels (joined labels (label_of labels o) (label_of labels p)) (λ ls. AreJoined ts ls s t)
      by None p f g = stay labels (λ ls. AreJoined ts ls s t) known (λ i j x y. absurd (cc))
      by (Some m) None f g = stay labels (λ ls. AreJoined ts ls s t) known (λ i j x y. absurd (cc))
      by (Some m) (Some n) f g =
          weaker labels (relabelled (slice_index labels m) (slice_index labels n) labels) (λ ls. slice_index ls m ≡ slice_index ls n) (λ ls. AreJoined ts ls s t)
          (relabel labels known m n (place_below ts s m f) (place_below ts t n g))
          (λ same i j x y. ap (λ (k : ℕ). slice_index labels k) (some_is i m (sym x ∙ f)) ∙ (same ∙ ap (λ (k : ℕ). slice_index labels k) (some_is n j (sym g ∙ y))))

  joined_now : (labels : List ℕ) → IsLabelled ts labels → (s t : Term) → AreJoined ts (with_equal ts labels s t) s t
  joined_now labels known s t = by (place_from ts s 0) (place_from ts t 0) refl refl
    where
      both_ways : (c : Bool) (b : ℕ) → cond c b b ≡ b
      both_ways true b = refl
      both_ways false b = refl

      by : (o p : Option ℕ) → place_from ts s 0 ≡ o → place_from ts t 0 ≡ p → AreJoined ts (joined labels (label_of labels o) (label_of labels p)) s t
      by None p f g i j x y = absurd (cc)
      by (Some m) None f g i j x y = absurd (cc)
      by (Some m) (Some n) f g i j x y =
          let a = slice_index labels m in
          let b = slice_index labels n in
          let lm : m < length labels = omega (arith, place_below ts s m f, known.long) in
          let ln : n < length labels = omega (arith, place_below ts t n g, known.long) in
          let at_m : slice_index (relabelled a b labels) m ≡ b = moved_at labels a b m lm ∙ ap (λ (c : Bool). cond c b a) (eqb_self a) in
          let at_n : slice_index (relabelled a b labels) n ≡ b = moved_at labels a b n ln ∙ both_ways (eqb b a) b in
          ap (λ (k : ℕ). slice_index (relabelled a b labels) k) (some_is i m (sym x ∙ f)) ∙ ((at_m ∙ sym at_n) ∙ ap (λ (k : ℕ). slice_index (relabelled a b labels) k) (some_is n j (sym g ∙ y)))

  -- ---- congruent terms

  pair : (labels : List ℕ) → IsLabelled ts labels → (s t : Term) (b : Bool) → are_congruent ts labels s t ≡ b
      → Step ts labels (cond b (with_equal ts labels s t) labels) (λ ls. are_congruent ts ls s t ≡ true → AreJoined ts ls s t)
  pair labels known s t true e = weaker labels (with_equal ts labels s t) (λ ls. AreJoined ts ls s t) (λ ls. are_congruent ts ls s t ≡ true → AreJoined ts ls s t) (join labels known s t) (λ joined alike. joined)
  pair labels known s t false e = stay labels (λ ls. are_congruent ts ls s t ≡ true → AreJoined ts ls s t) known (λ alike. absurd (cc))

  one : (labels : List ℕ) → IsLabelled ts labels → (s : Term) (us : List Term) → Step ts labels (with_congruent ts labels s us) (JoinedTo ts s us)
  one labels known s [] = stay labels (JoinedTo ts s []) known (λ t there. absurd (cc))
  one labels known s (t ∷ us) =
      let mid = cond (are_congruent ts labels s t) (with_equal ts labels s t) labels in
      let first = pair labels known s t (are_congruent ts labels s t) refl in
      weaker labels (with_congruent ts mid s us) (λ ls. (are_congruent ts ls s t ≡ true → AreJoined ts ls s t) × JoinedTo ts s us ls) (JoinedTo ts s (t ∷ us))
      (chain labels mid (with_congruent ts mid s us) (λ ls. are_congruent ts ls s t ≡ true → AreJoined ts ls s t) (JoinedTo ts s us) first (one mid first.labelled s us))
      (λ h u there alike. by h u (same_term t u) refl there alike)
    where
      by : ((are_congruent ts labels s t ≡ true → AreJoined ts labels s t) × JoinedTo ts s us labels) → (u : Term) (b : Bool) → same_term t u ≡ b → cond b true (has_formula us u) ≡ true → are_congruent ts labels s u ≡ true → AreJoined ts labels s u
      by h u true e there alike = subst (λ (w : Term). are_congruent ts labels s w ≡ true → AreJoined ts labels s w) (terms_are t u e) h.0 alike
      by h u false e there alike = h.1 u there alike

  every : (labels : List ℕ) → IsLabelled ts labels → (us : List Term) → Step ts labels (with_all_congruent ts labels us) (AllJoined ts us)
  every labels known [] = stay labels (AllJoined ts []) known (λ s there. absurd (cc))
  every labels known (s ∷ us) =
      let mid = with_congruent ts labels s ts in
      let first = one labels known s ts in
      weaker labels (with_all_congruent ts mid us) (λ ls. JoinedTo ts s ts ls × AllJoined ts us ls) (AllJoined ts (s ∷ us))
      (chain labels mid (with_all_congruent ts mid us) (JoinedTo ts s ts) (AllJoined ts us) first (every mid first.labelled us))
      (λ h u there. by h u (same_term s u) refl there)
    where
      by : (JoinedTo ts s ts labels × AllJoined ts us labels) → (u : Term) (b : Bool) → same_term s u ≡ b → cond b true (has_formula us u) ≡ true → JoinedTo ts u ts labels
      by h u true e there = subst (λ (w : Term). JoinedTo ts w ts labels) (terms_are s u e) h.0
      by h u false e there = h.1 u there

  -- ---- rounds

  stays_so : (n : ℕ) (labels : List ℕ) → with_all_congruent ts labels ts ≡ labels → rounds n ts labels ≡ labels
  stays_so zero labels e = refl
  stays_so (suc n) labels e = ap (rounds n ts) e ∙ stays_so n labels e

  rounds_closed : (n : ℕ) (labels : List ℕ) → IsLabelled ts labels → 1 ≤ length ts → size ts labels ≤ n → IsClosed ts (rounds n ts labels)
  rounds_closed zero labels known some le =
      let lt : 0 < length labels = omega (arith, known.long, some) in
      let more : 1 ≤ size ts labels = count_some (length ts) (slice_index labels 0) (λ v. occurs v labels) (known.below 0 (omega (arith, some))) (occurs_at labels 0 lt) in
      absurd (omega (arith, more, le))
  rounds_closed (suc n) labels known some le = by (λ lt. rounds_closed n (with_all_congruent ts labels ts) next.labelled some lt) next.turn
    where
      next : Step ts labels (with_all_congruent ts labels ts) (AllJoined ts ts)
      next = every labels known ts

      by : (size ts (with_all_congruent ts labels ts) ≤ n → IsClosed ts (rounds n ts (with_all_congruent ts labels ts))) → Turn ts labels (with_all_congruent ts labels ts) (AllJoined ts ts) → IsClosed ts (rounds n ts (with_all_congruent ts labels ts))
      by rest (stays e h) = subst (IsClosed ts) (sym (ap (rounds n ts) e ∙ stays_so n labels e)) h
      by rest (goes lt) = rest (omega (arith, lt, le))

  rounds_keep : (n : ℕ) (labels : List ℕ) → IsLabelled ts labels → Keeps ts labels (rounds n ts labels)
  rounds_keep zero labels known i j li lj e = e
  rounds_keep (suc n) labels known i j li lj e =
      let next = every labels known ts in
      rounds_keep n (with_all_congruent ts labels ts) next.labelled i j li lj (next.keeps i j li lj e)

  -- ---- equations

  -- a literal joins the sides of an equation
  literal : (labels : List ℕ) → IsLabelled ts labels → (holds : Bool) (a : Term) → Made ts labels (with_literal ts labels holds a)
  literal labels known true (Of equal (part v (part w no_parts))) = let s = join labels known v w in record { labelled = s.labelled; keeps = s.keeps }
  literal labels known holds a = record { labelled = known; keeps = λ i j li lj e. e }

  equations : (ls : List Literal) (labels : List ℕ) → IsLabelled ts labels → Made ts labels (with_equations ts labels ls)
  equations [] labels known = record { labelled = known; keeps = λ i j li lj e. e }
  equations (l ∷ ls) labels known =
      let first = literal labels known l.holds l.atom in
      let rest = equations ls (with_literal ts labels l.holds l.atom) first.labelled in
      record { labelled = rest.labelled; keeps = λ i j li lj e. rest.keeps i j li lj (first.keeps i j li lj e) }

  keeps_joined : (labels made : List ℕ) → Keeps ts labels made → (s t : Term) → AreJoined ts labels s t → AreJoined ts made s t
  keeps_joined labels made keeps s t h i j x y = keeps i j (place_below ts s i x) (place_below ts t j y) (h i j x y)

  equations_joined : (ls : List Literal) (labels : List ℕ) → IsLabelled ts labels → (v w : Term) → has_literal ls (record { atom = two equal v w; holds = true }) ≡ true → AreJoined ts (with_equations ts labels ls) v w
  equations_joined [] labels known v w e = absurd (cc)
  equations_joined (l ∷ ls) labels known v w e = by (λ g. equations_joined ls (with_literal ts labels l.holds l.atom) first.labelled v w g) (same_literal l (record { atom = two equal v w; holds = true })) refl e
    where
      first : Made ts labels (with_literal ts labels l.holds l.atom)
      first = literal labels known l.holds l.atom

      here : same_literal l (record { atom = two equal v w; holds = true }) ≡ true → AreJoined ts (with_literal ts labels l.holds l.atom) v w
      here f =
          let h = both (same_term l.atom (two equal v w)) (beq l.holds true) f in
          subst (λ (a : Term). AreJoined ts (with_literal ts labels l.holds a) v w) (sym (terms_are l.atom (two equal v w) h.0))
          (subst (λ (b : Bool). AreJoined ts (with_literal ts labels b (two equal v w)) v w) (sym (bits_are l.holds true h.1)) (joined_now labels known v w))

      by : (has_literal ls (record { atom = two equal v w; holds = true }) ≡ true → AreJoined ts (with_equations ts (with_literal ts labels l.holds l.atom) ls) v w)
          → (b : Bool) → same_literal l (record { atom = two equal v w; holds = true }) ≡ b → cond b true (has_literal ls (record { atom = two equal v w; holds = true })) ≡ true
          → AreJoined ts (with_equations ts (with_literal ts labels l.holds l.atom) ls) v w
      by rest true f g = keeps_joined (with_literal ts labels l.holds l.atom) (with_equations ts (with_literal ts labels l.holds l.atom) ls) (equations ls (with_literal ts labels l.holds l.atom) first.labelled).keeps v w (here f)
      by rest false f g = rest g

  -- ---- the classes

  numbered : IsLabelled ts (numbers_from 0 ts)
  numbered = record { long = length_numbers 0 ts; below = λ i lt. omega (arith, number_at ts 0 i lt, lt) }

  pub classes_closed : (ls : List Literal) → 1 ≤ length ts → IsClosed ts (classes ts ls)
  classes_closed ls some =
      let before = with_equations ts (numbers_from 0 ts) ls in
      rounds_closed (length ts) before (equations ls (numbers_from 0 ts) numbered).labelled some (count_most (length ts) (λ v. occurs v before))

  pub classes_joined : (ls : List Literal) (v w : Term) → has_literal ls (record { atom = two equal v w; holds = true }) ≡ true → AreJoined ts (classes ts ls) v w
  classes_joined ls v w e =
      let before = with_equations ts (numbers_from 0 ts) ls in
      keeps_joined before (classes ts ls) (rounds_keep (length ts) before (equations ls (numbers_from 0 ts) numbered).labelled) v w (equations_joined ls (numbers_from 0 ts) numbered v w e)
