-- Nodes at keys that had none: as many as a larger map has more, and none of them goes with what was there before.
use Rattle.std.proofs.Common.{◌≡◌, ◌⊎◌, inl, inr, ℕ, zero, suc, ◌+◌, ◌≤◌, List, [], ◌∷◌, drop, replicate, Option, Some, None, IsSome, refl, sym, ◌∙◌, ap, subst, arith}
use Rattle.std.proofs.lemmas.Bool.{cases_eq}
use Rattle.wy_heap.proofs.LawLemmas.{size_none}
use Rattle.wy_heap.specs.declared.part.Part.{Part}
use Rattle.wy_heap.specs.declared.part.Part.TheVariants.{Key}
use Rattle.wy_heap.specs.declared.heap.Heap.{Heap}
use Rattle.wy_heap.specs.Nodes.{Form, list_form, Body, Map, map_of, at, holds, held, slot_holds, inner, size, count_at}
use Rattle.wy_heap.specs.Standing.{Counts}
use Rattle.wy_heap.specs.Changing.{More, Lasts, Upholds, Upheld, Joins, Builds, HasRoom}
use Rattle.wy_heap.specs.Making.{IsNew, Came, CanHave}
use Rattle.wy_heap.specs.Copying.{new_at, news, CopiesBeside, CopiesNew}
use Rattle.wy_heap.proofs.CountLemmas.{holds_is, holds-le-one, slot-le-inner}
use Rattle.wy_heap.proofs.ChangeLemmas.{some_or_none, not_there}
use Rattle.wy_heap.proofs.LeadLemmas.{reordered}
use Rattle.wy_heap.proofs.SizeLemmas.{size_same}

at-drop : (m : Map) (k : ℕ) → at (drop 1 m) k ≡ at m (suc k)
at-drop [] k = refl
at-drop (c ∷ cs) k = refl

pub at-news : (m n : Map) (k : ℕ) → at (news m n) k ≡ new_at (at m k) (at n k)
at-news m [] k = none (at m k)
  where
    none : (o : Option Body) → None ≡ new_at o None
    none None = refl
    none (Some b) = refl
at-news m (d ∷ ds) zero = refl
at-news m (d ∷ ds) (suc k) = at-news (drop 1 m) ds k ∙ ap (λ (o : Option Body). new_at o (at ds k)) (at-drop m k)

-- a map whose nodes are all in an empty one has none
more_none : (m : Map) → More m [] → (k : ℕ) → at m k ≡ None
more_none m more k = elim (some_or_none (at m k)) [ inl found ↦ absurd (let e = more k found.0 found.1 in cc) | inr none ↦ none ]

inner_none : (j : ℕ) (m : Map) → ((k : ℕ) → at m k ≡ None) → inner j m ≡ 0
inner_none j [] none = refl
inner_none j (None ∷ cs) none = omega (arith, inner_none j cs (λ k. none (suc k)))
inner_none j (Some b ∷ cs) none = absurd (let e = none 0 in cc)

more_rest : (c : Option Body) (cs : Map) (d : Option Body) (ds : Map) → More (c ∷ cs) (d ∷ ds) → More cs ds
more_rest c cs d ds more k b was = more (suc k) b was

pub size-news : (m n : Map) → More m n → size (news m n) + size m ≡ size n
size-news m [] more = omega (arith, size_none m (more_none m more))
size-news [] (None ∷ ds) more = size-news [] ds (λ k b was. absurd (cc))
size-news [] (Some d ∷ ds) more = omega (arith, size-news [] ds (λ k b was. absurd (cc)))
size-news (None ∷ cs) (None ∷ ds) more = size-news cs ds (more_rest None cs None ds more)
size-news (None ∷ cs) (Some d ∷ ds) more = omega (arith, size-news cs ds (more_rest None cs (Some d) ds more))
size-news (Some c ∷ cs) (None ∷ ds) more = absurd (let e = more 0 c refl in cc)
size-news (Some c ∷ cs) (Some d ∷ ds) more = omega (arith, size-news cs ds (more_rest (Some c) cs (Some d) ds more))

pub inner-news : (j : ℕ) (m n : Map) → More m n → inner j (news m n) + inner j m ≡ inner j n
inner-news j m [] more = omega (arith, inner_none j m (more_none m more))
inner-news j [] (d ∷ ds) more = omega (arith, inner-news j [] ds (λ k b was. absurd (cc)))
inner-news j (None ∷ cs) (d ∷ ds) more = omega (arith, inner-news j cs ds (more_rest None cs d ds more))
inner-news j (Some c ∷ cs) (d ∷ ds) more =
    omega (arith, inner-news j cs ds (more_rest (Some c) cs d ds more), ap (slot_holds j) (more 0 c refl))

-- the new nodes are among all
news_more : (m n : Map) → More (news m n) n
news_more m n k b was = from (at m k) (at n k) (sym (at-news m n k) ∙ was)
  where
    from : (o p : Option Body) → new_at o p ≡ Some b → p ≡ Some b
    from None p is = is
    from (Some c) p is = absurd (cc)

news_vacant : (m n : Map) (k : ℕ) (b : Body) → at (news m n) k ≡ Some b → at m k ≡ None
news_vacant m n k b was = from (at m k) (sym (at-news m n k) ∙ was)
  where
    from : (o : Option Body) → new_at o (at n k) ≡ Some b → o ≡ None
    from None is = refl
    from (Some c) is = absurd (cc)

-- the same nodes are new
pub news_same : (m n o : Map) → ((k : ℕ) → at m k ≡ None → at o k ≡ at n k) → size (news m o) ≡ size (news m n)
news_same m n o same = size_same (news m n) (news m o) (λ k. at-news m o k ∙ one k (at m k) refl ∙ sym (at-news m n k))
  where
    one : (k : ℕ) (c : Option Body) → at m k ≡ c → new_at c (at o k) ≡ new_at c (at n k)
    one k None is = same k is
    one k (Some b) is = refl

-- each new node has a holder that is new
news_upheld : (h n : Heap) (form : Form) (parts : List Part) (made : ℕ) (item : Part) (others : List Part) → Builds h n form parts made → Counts h (item ∷ others) → Upholds (news (map_of h) (map_of n)) (Key made ∷ others)
news_upheld h n form parts made item others builds counts k b was =
    let vacant : at (map_of h) k ≡ None = news_vacant (map_of h) (map_of n) k b was in
    let after = builds.counts (item ∷ others) counts in
    let is : IsSome (at (map_of n) k) = subst IsSome (sym (news_more (map_of h) (map_of n) k b was)) refl in
    let none : count_at h k ≡ 0 = elim (cases_eq (count_at h k) 0) [ inl zero_is ↦ zero_is | inr some ↦ absurd (not_there (at (map_of h) k) vacant (counts.there k (omega (arith, some)))) ] in
    omega (arith, none, counts.counted k, after.counted k, after.alive k is, inner-news k (map_of h) (map_of n) builds.stays)

-- what was new before a hold on an old node went is new afterwards
pub news_kept : (h n o : Heap) (form : Form) (parts : List Part) (made : ℕ) (item : Part) (others : List Part) → Builds h n form parts made → Counts h (item ∷ others) → Lasts (map_of n) (map_of o) → Upheld n (map_of o) item → (k : ℕ) → at (map_of h) k ≡ None → at (map_of o) k ≡ at (map_of n) k
news_kept h n o form parts made item others builds counts lasts upheld k vacant =
    let after = builds.counts (item ∷ others) counts in
    let swapped = reordered (count_at n) (map_of n) (Key made ∷ item ∷ others) (item ∷ Key made ∷ others) (λ j. omega arith) after in
    let base = news (map_of h) (map_of n) in
    let stay = upheld base (Key made ∷ others) swapped (news_upheld h n form parts made item others builds counts) (news_more (map_of h) (map_of n)) in
    elim (some_or_none (at (map_of n) k)) [
      | inl found ↦
          let new : at base k ≡ Some found.0 = at-news (map_of h) (map_of n) k ∙ ap (λ (c : Option Body). new_at c (at (map_of n) k)) vacant ∙ found.1 in
          stay k found.0 new ∙ sym found.1
      | inr none ↦ elim (lasts k) [ inl gone ↦ gone ∙ sym none | inr same ↦ same ]
    ]

-- a hold on the item of a new array goes: as many nodes came as were counted
pub fill_copies : (h n o : Heap) (form : Form) (parts : List Part) (made : ℕ) (item : Part) (others : List Part) → Builds h n form parts made → Counts h (item ∷ others) → CopiesBeside 1 h n → o.copies ≡ n.copies → Lasts (map_of n) (map_of o) → Upheld n (map_of o) item → CopiesNew 1 h o
fill_copies h n o form parts made item others builds counts beside copies lasts upheld = (
  beside.0,
  omega (
    arith,
    news_same (map_of h) (map_of n) (map_of o) (news_kept h n o form parts made item others builds counts lasts upheld),
    size-news (map_of h) (map_of n) builds.stays,
    beside.1,
  ),
  copies ∙ beside.2,
)

-- each old node is as before, or it went
pub fill_others : (h n o : Heap) (form : Form) (parts : List Part) (made : ℕ) → Builds h n form parts made → Lasts (map_of n) (map_of o) → (k : ℕ) → IsSome (at (map_of h) k) → (at (map_of o) k ≡ None) ⊎ (at (map_of o) k ≡ at (map_of h) k)
fill_others h n o form parts made builds lasts k is = elim (some_or_none (at (map_of h) k)) [
  | inr none ↦ absurd (not_there (at (map_of h) k) none is)
  | inl found ↦ elim (lasts k) [ inl gone ↦ inl gone | inr same ↦ inr (same ∙ builds.stays k found.0 found.1 ∙ sym found.1) ]
]

held-times : (k n : ℕ) (p : Part) → held k (replicate n p) ≤ n
held-times k zero p = omega arith
held-times k (suc n) p = elim (cases_eq (holds k p) 0) [
  | inl none ↦ omega (arith, held-times k n p, none)
  | inr some ↦ omega (arith, held-times k n p, holds-le-one k p)
]

holds_in_times : (k n : ℕ) (p : Part) → 1 ≤ held k (replicate n p) → 1 ≤ holds k p
holds_in_times k zero p some = absurd (omega arith)
holds_in_times k (suc n) p some = elim (cases_eq (holds k p) 0) [
  | inl none ↦ holds_in_times k n p (omega (arith, some, none))
  | inr more ↦ omega (arith, more)
]

-- the item can have so many holders more
pub fill_room : (h : Heap) (n : ℕ) (p : Part) → CanHave h n p → HasRoom h (replicate n p)
fill_room h n p below k some =
    omega (arith, held-times k n p, below k (holds_is k p (holds_in_times k n p some)))

holds-times : (k n : ℕ) (p : Part) → 1 ≤ n → holds k p ≤ held k (replicate n p)
holds-times k zero p some = absurd (omega (arith, some))
holds-times k (suc n) p some = omega arith

-- the array came where it takes no key past the cap, whatever goes with the hold on its item
pub fill_came : (h n o : Heap) (made : ℕ) (parts : List Part) → Joins h n made list_form parts → Lasts (map_of n) (map_of o) → Came (map_of h) (map_of o) (Key made) list_form parts
fill_came h n o made parts joins lasts = record {
  between = map_of n;
  is_new = record { key = made; is_key = refl; vacant = joins.vacant; is = joins.is; others = joins.others };
  lasts = lasts;
}

-- the array is all that is new where it takes no key past the cap
pub fill_new : (h n o : Heap) (many made : ℕ) (item : Part) (others : List Part) → 1 ≤ many → Joins h n made list_form (replicate many item) → Builds h n list_form (replicate many item) made → Counts h (item ∷ others) → Lasts (map_of n) (map_of o) → Upheld n (map_of o) item → IsNew (map_of h) (map_of o) (Key made) list_form (replicate many item)
fill_new h n o many made item others some joins builds counts lasts upheld =
    let after = builds.counts (item ∷ others) counts in
    let swapped = reordered (count_at n) (map_of n) (Key made ∷ item ∷ others) (item ∷ Key made ∷ others) (λ j. omega arith) after in
    let upholds : Upholds (map_of n) (Key made ∷ others) = λ k b was.
    omega (
      arith,
      after.counted k,
      after.alive k (subst IsSome (sym was) refl),
      holds-times k many item some,
      slot-le-inner k (map_of n) made,
      ap (slot_holds k) joins.is,
    ) in
    let stay = upheld (map_of n) (Key made ∷ others) swapped upholds (λ k b was. was) in
    let same : (k : ℕ) → at (map_of o) k ≡ at (map_of n) k = λ k. elim (lasts k) [
      | inr as_before ↦ as_before
      | inl gone ↦ elim (some_or_none (at (map_of n) k)) [
        | inl found ↦ stay k found.0 found.1 ∙ sym found.1
        | inr none ↦ gone ∙ sym none
      ]
    ] in
    record {
      key = made;
      is_key = refl;
      vacant = joins.vacant;
      is = same made ∙ joins.is;
      others = λ k differ. same k ∙ joins.others k differ;
    }
