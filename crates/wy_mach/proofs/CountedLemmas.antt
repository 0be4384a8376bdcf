-- As many copies are counted as nodes came, also behind what a register held is let go of.
use Rattle.std.proofs.Common.{◌≡◌, ◌⊎◌, inl, inr, ℕ, ◌≤◌, ◌<◌, List, ◌∷◌, ◌++◌, length, set, Option, Some, None, IsSome, refl, sym, ◌∙◌, subst, arith}
use Rattle.std.proofs.lemmas.Bool.{cases_eq}
use Rattle.wy_heap.specs.declared.part.Part.{Part}
use Rattle.wy_heap.specs.declared.heap.Heap.{Heap}
use Rattle.wy_heap.specs.Nodes.{Body, map_of, at, held, slot_holds, count_at}
use Rattle.wy_heap.specs.Standing.{Counts, Stands}
use Rattle.wy_heap.specs.Changing.{More, Lasts}
use Rattle.wy_heap.specs.Copying.{CopiesAsMany, CopiesNew}
use Rattle.wy_heap.specs.Reaching.{Reach, root, part}
use Rattle.wy_heap.proofs.CountLemmas.{held-append, held-set, holds-get_or, inner_part}
use Rattle.wy_heap.proofs.ChangeLemmas.{some_or_none, not_there}
use Rattle.wy_heap.proofs.ReachLemmas.{all_reached}
use Rattle.wy_heap.proofs.NewLemmas.{size-news, news_same}
use Rattle.wy_mach.specs.Showing.{Puts}
use Rattle.wy_mach.specs.Sharing.{CountsBeside}

-- ---- a heap, the one in which a part was made, and the one in which what a register held was let go of for it

record Made (h n o : Heap) (spent ps others : List Part) (to : ℕ) (made : Part) : Type 0 where
  pub before : Counts h spent
  pub fewer : (k : ℕ) → held k (ps ++ others) ≤ held k spent
  pub made_is : Counts n (made ∷ (ps ++ others))
  pub after : Counts o (set ps to made ++ others)
  pub old : (k : ℕ) → IsSome (at (map_of h) k) → (at (map_of n) k ≡ None) ⊎ (at (map_of n) k ≡ at (map_of h) k)
  pub lasts : Lasts (map_of n) (map_of o)
  pub within : to < length ps

-- a key without a node isn't held
unheld : (h : Heap) (places : List Part) → Counts h places → (k : ℕ) → at (map_of h) k ≡ None → count_at h k ≡ 0
unheld h places counts k vacant = elim (cases_eq (count_at h k) 0) [
  | inl none ↦ none
  | inr some ↦ absurd (not_there (at (map_of h) k) vacant (counts.there k (omega (arith, some))))
]

module _ (h n o : Heap) (spent ps others : List Part) (to : ℕ) (made : Part) (is : Made h n o spent ps others to made) where
  -- what the part reaches at a key that had no node is there at the end
  new_reached : (k : ℕ) → Reach (map_of n) (made ∷ (ps ++ others)) k → at (map_of h) k ≡ None → IsSome (at (map_of o) k)
  new_reached k (root _ some) vacant =
      is.after.there k (omega (
        arith,
        some,
        unheld h spent is.before k vacant,
        is.before.counted k,
        is.fewer k,
        is.after.counted k,
        held-append k (set ps to made) others,
        held-append k ps others,
        held-set k ps to made is.within,
        holds-get_or k ps to,
      ))
  new_reached k (part j _ b reach there some) vacant = elim (some_or_none (at (map_of h) j)) [
    | inl found ↦ elim (is.old j (subst IsSome (sym found.1) refl)) [
      | inl gone ↦ absurd (let e : None ≡ Some b = sym gone ∙ there in cc)
      | inr same ↦
          let one : Some found.0 ≡ Some b = sym found.1 ∙ sym same ∙ there in
          absurd (omega (
            arith,
            unheld h spent is.before k vacant,
            is.before.counted k,
            inner_part (map_of h) j k found.0 found.1 (subst (λ (c : Option Body). 1 ≤ slot_holds k c) (sym one) some),
          ))
    ]
    | inr none ↦ elim (is.lasts j) [
      | inl gone ↦ absurd (not_there (at (map_of o) j) gone (new_reached j reach none))
      | inr same ↦ is.after.there k (omega (arith, is.after.counted k, inner_part (map_of o) j k b (same ∙ there) some))
    ]
  ]

  -- a node at a key that had none stays
  new_stays : (k : ℕ) → at (map_of h) k ≡ None → at (map_of o) k ≡ at (map_of n) k
  new_stays k vacant = elim (is.lasts k) [
    | inr same ↦ same
    | inl gone ↦ elim (some_or_none (at (map_of n) k)) [
      | inr none ↦ gone ∙ sym none
      | inl found ↦ absurd (not_there (at (map_of o) k) gone (new_reached k (all_reached n (made ∷ (ps ++ others)) is.made_is k (subst IsSome (sym found.1) refl)) vacant))
    ]
  ]

  counts_on : (beside : ℕ) → CopiesNew beside h n → o.copies ≡ n.copies → CopiesNew beside h o
  counts_on beside counted copies = (
    counted.0,
    news_same (map_of h) (map_of n) (map_of o) new_stays ∙ counted.1,
    copies ∙ counted.2,
  )

-- as many nodes came as the heap has more
new_as_many : (h n : Heap) → More (map_of h) (map_of n) → CopiesAsMany h n → CopiesNew 0 h n
new_as_many h n more counted = (counted.0, omega (arith, size-news (map_of h) (map_of n) more, counted.1), counted.2)

kept_as_was : (h n : Heap) → More (map_of h) (map_of n) → (k : ℕ) → IsSome (at (map_of h) k) → (at (map_of n) k ≡ None) ⊎ (at (map_of n) k ≡ at (map_of h) k)
kept_as_was h n more k some = elim (some_or_none (at (map_of h) k)) [
  | inr none ↦ absurd (not_there (at (map_of h) k) none some)
  | inl found ↦ inr (more k found.0 found.1 ∙ sym found.1)
]

-- what was put into a register beside what others hold
put_counts : (n o : Heap) (ps qs others : List Part) (to : ℕ) (made : Part) → Puts n o ps made qs → qs ≡ set ps to made → Stands n (made ∷ (ps ++ others)) → Counts o (set ps to made ++ others)
put_counts n o ps qs others to made puts after stands =
    subst (λ (l : List Part). Counts o (l ++ others)) after ((puts others stands).stands).counts

-- a second hold, or a hold on a copy, came into a register
pub second_counts : (h n o : Heap) (ps qs others : List Part) (to : ℕ) (made : Part) → Stands h (ps ++ others) → Stands n (made ∷ (ps ++ others)) → Puts n o ps made qs → qs ≡ set ps to made → More (map_of h) (map_of n) → CopiesAsMany h n → Lasts (map_of n) (map_of o) → o.copies ≡ n.copies → CountsBeside 0 h o ps to
second_counts h n o ps qs others to made before made_is puts after more counted lasts copies within =
    counts_on h n o (ps ++ others) ps others to made
    (record {
      before = before.counts;
      fewer = λ k. omega arith;
      made_is = made_is.counts;
      after = put_counts n o ps qs others to made puts after made_is;
      old = kept_as_was h n more;
      lasts = lasts;
      within = within;
    })
    0 (new_as_many h n more counted) copies

-- an array of holds on what was taken came into a register
pub fill_counts : (h n o : Heap) (item : Part) (ps qs others : List Part) (to : ℕ) (made : Part) → Stands h (item ∷ (ps ++ others)) → Stands n (made ∷ (ps ++ others)) → Puts n o ps made qs → qs ≡ set ps to made
    → ((k : ℕ) → IsSome (at (map_of h) k) → (at (map_of n) k ≡ None) ⊎ (at (map_of n) k ≡ at (map_of h) k)) → CopiesNew 1 h n → Lasts (map_of n) (map_of o) → o.copies ≡ n.copies → CountsBeside 1 h o ps to
fill_counts h n o item ps qs others to made before made_is puts after old counted lasts copies within =
    counts_on h n o (item ∷ (ps ++ others)) ps others to made
    (record {
      before = before.counts;
      fewer = λ k. omega arith;
      made_is = made_is.counts;
      after = put_counts n o ps qs others to made puts after made_is;
      old = old;
      lasts = lasts;
      within = within;
    })
    1 counted copies
