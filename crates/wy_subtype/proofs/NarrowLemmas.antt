-- What is reached in full shows that the question is narrow.
use Rattle.std.proofs.Common.{◌≡◌, ℕ, ◌<◌, ◌≤◌, List, [], ◌∷◌, length, true, false, inl, inr, Some, refl, sym, subst, arith}
use Rattle.std.specs.Prelude.{slice_get}
use Rattle.std.proofs.lemmas.Option.{slice_get_within}
use Rattle.wy_canon.specs.wy_types.declared.conjuncts.Signed.{Signed}
use Rattle.wy_canon.specs.wy_types.declared.conjuncts.Conjunct.{Conjunct}
use Rattle.wy_canon.specs.wy_types.declared.table.Table.{Table}
use Rattle.wy_canon.specs.wy_types.Claims.{SomeOf, EachOf, IsIn}
use Rattle.wy_canon.specs.wy_types.Conjuncts.{dnf_part, narrow_part}
use Rattle.wy_canon.specs.wy_types.Asks.{few_ways}
use Rattle.wy_canon.specs.wy_types.Reach.{IsAsked, Reaches, at_first, by_asking, IsNeeded, IsWide}
use Rattle.wy_subtype.specs.declared.reach.Reach.{Reach}
use Rattle.wy_subtype.specs.Numbers.{AreAt, AreEachAt, AreAllAt}
use Rattle.wy_subtype.specs.Known.{options_of, IsReach}
use Rattle.wy_subtype.proofs.NumberLemmas.{get_within, place_in, in_place, not_more}

reached_within : (table : Table) (k : ℕ) (first : List (Signed ℕ)) (C : Conjunct ℕ → Type 0) → ((c : Conjunct ℕ) → IsIn c (dnf_part table k first) → C c) → ((c d : Conjunct ℕ) (p : List (Signed ℕ)) → C c → IsAsked table k p c → IsIn d (dnf_part table k p) → C d)
    → (c : Conjunct ℕ) → Reaches table k first c → C c
reached_within table k first C start step _ (at_first c h) = start c h
reached_within table k first C start step _ (by_asking c d p r a h) = step c d p (reached_within table k first C start step c r) a h

each_in_list : (table : Table) (k : ℕ) (first : List (Signed ℕ)) (all : List (Conjunct ℕ)) → ((c : Conjunct ℕ) → Reaches table k first c → IsIn c all) → (cs : List (Conjunct ℕ)) → EachOf (Reaches table k first) cs → (c : Conjunct ℕ) → IsIn c cs → IsIn c all
each_in_list table k first all covers [] e c h = absurd h
each_in_list table k first all covers (x ∷ cs) e c (inl h) = subst (λ (y : Conjunct ℕ). IsIn y all) h (covers x e.0)
each_in_list table k first all covers (x ∷ cs) e c (inr h) = each_in_list table k first all covers cs e.1 c h

-- a list that has all that is reached, is short, and whose parts were merged within the limits
narrow_question : (table : Table) (k : ℕ) (first : List (Signed ℕ)) (all : List (Conjunct ℕ)) → length all ≤ 16384 → narrow_part table k first ≡ true
    → ((c : Conjunct ℕ) → IsIn c (dnf_part table k first) → IsIn c all)
    → ((c : Conjunct ℕ) (p : List (Signed ℕ)) → IsIn c all → IsAsked table k p c → narrow_part table k p ≡ true)
    → ((c : Conjunct ℕ) → IsIn c all → few_ways c ≡ true)
    → ((c d : Conjunct ℕ) (p : List (Signed ℕ)) → IsIn c all → IsAsked table k p c → IsIn d (dnf_part table k p) → IsIn d all) → IsWide table k first → ⊥
narrow_question table k first all short begin start merges few step (inl w) = by w.0 w.1 w.2
  where
    covers : (c : Conjunct ℕ) → Reaches table k first c → IsIn c all
    covers c r = reached_within table k first (λ x. IsIn x all) start step c r

    by : (p : List (Signed ℕ)) → IsNeeded table k first p → narrow_part table k p ≡ false → ⊥
    by p (inl e) f = let g : narrow_part table k p ≡ true = subst (λ (q : List (Signed ℕ)). narrow_part table k q ≡ true) (sym e) begin in cc (f, g)
    by p (inr n) f = let g = merges n.0 p (covers n.0 n.1) n.2 in cc (f, g)
narrow_question table k first all short begin start merges few step (inr (inl w)) =
    let less = not_more w.0 all w.1 (each_in_list table k first all (λ c r. reached_within table k first (λ x. IsIn x all) start step c r) w.0 w.2) in
    absurd (omega (arith, less, short, w.3))
narrow_question table k first all short begin start merges few step (inr (inr w)) =
    let f = w.2 in
    let g = few w.0 (reached_within table k first (λ x. IsIn x all) start step w.0 w.1) in
    cc (f, g)

at_in : {X : Type 0} (xs : List X) (ns : List ℕ) (ps : List X) (p : X) → AreAt xs ns ps → IsIn p ps → IsIn p xs
at_in xs [] [] p a h = absurd h
at_in xs [] (q ∷ ps) p a h = absurd a
at_in xs (n ∷ ns) [] p a h = absurd a
at_in {X} xs (n ∷ ns) (q ∷ ps) p a (inl e) = subst (λ (z : X). IsIn z xs) e (place_in xs n q a.0)
at_in xs (n ∷ ns) (q ∷ ps) p a (inr h) = at_in xs ns ps p a.1 h

place_at : {X : Type 0} (xs : List X) (ns : List ℕ) (ps : List X) (p : X) → AreAt xs ns ps → SomeOf (λ (q : X). q ≡ p) ps → (n : ℕ) × (slice_get xs n ≡ Some p)
place_at xs [] [] p a h = absurd h
place_at xs [] (q ∷ ps) p a h = absurd a
place_at xs (n ∷ ns) [] p a h = absurd a
place_at {X} xs (n ∷ ns) (q ∷ ps) p a (inl e) = (n, subst (λ (z : X). slice_get xs n ≡ Some z) e a.0)
place_at xs (n ∷ ns) (q ∷ ps) p a (inr h) = place_at xs ns ps p a.1 h

place_each : {X : Type 0} (xs : List X) (ns : List (List ℕ)) (ps : List (List X)) (p : X) → AreEachAt xs ns ps → SomeOf (SomeOf (λ (q : X). q ≡ p)) ps → (n : ℕ) × (slice_get xs n ≡ Some p)
place_each xs [] [] p a h = absurd h
place_each xs [] (q ∷ ps) p a h = absurd a
place_each xs (n ∷ ns) [] p a h = absurd a
place_each xs (n ∷ ns) (q ∷ ps) p a (inl h) = place_at xs n q p a.0 h
place_each xs (n ∷ ns) (q ∷ ps) p a (inr h) = place_each xs ns ps p a.1 h

place_all : {X : Type 0} (xs : List X) (ns : List (List (List ℕ))) (ps : List (List (List X))) (p : X) → AreAllAt xs ns ps → SomeOf (SomeOf (SomeOf (λ (q : X). q ≡ p))) ps → (n : ℕ) × (slice_get xs n ≡ Some p)
place_all xs [] [] p a h = absurd h
place_all xs [] (q ∷ ps) p a h = absurd a
place_all xs (n ∷ ns) [] p a h = absurd a
place_all xs (n ∷ ns) (q ∷ ps) p a (inl h) = place_each xs n q p a.0 h
place_all xs (n ∷ ns) (q ∷ ps) p a (inr h) = place_all xs ns ps p a.1 h

module _ (table : Table) (k : ℕ) (first : List (Signed ℕ)) (r : Reach) (b : ℕ) (reach : IsReach table k first r b) where
  asks_of : (c : Conjunct ℕ) → IsIn c r.conjuncts → (j : ℕ) × (a : List (List (List ℕ))) × (slice_get r.conjuncts j ≡ Some c) × (slice_get r.asks j ≡ Some a)
  asks_of c h =
      let j = in_place r.conjuncts c h in
      let lt : j.0 < length r.asks = (let w = slice_get_within r.conjuncts j.0 c j.1 in let f = reach.full in omega (arith, w, f)) in
      let g = get_within r.asks j.0 lt in
      (j.0, g.0, j.1, g.1)

  part_of : (c : Conjunct ℕ) (p : List (Signed ℕ)) → IsIn c r.conjuncts → IsAsked table k p c → (n : ℕ) × (slice_get r.parts n ≡ Some p)
  part_of c p h a = let j = asks_of c h in place_all r.parts j.1 (options_of table k c) p (reach.known.asked j.0 c j.1 j.2 j.3) a

  heads_in : (n : ℕ) (p : List (Signed ℕ)) → slice_get r.parts n ≡ Some p → (d : Conjunct ℕ) → IsIn d (dnf_part table k p) → IsIn d r.conjuncts
  heads_in n p e d h =
      let lt : n < length r.heads = (let w = slice_get_within r.parts n p e in let f = reach.known.counted in omega (arith, w, f)) in
      let g = get_within r.heads n lt in
      at_in r.conjuncts g.0 (dnf_part table k p) d (reach.known.headed n p g.0 e g.1) h

  pub reach_narrow : IsWide table k first → ⊥
  reach_narrow = narrow_question table k first r.conjuncts reach.few (reach.known.narrow b first reach.begins)
      (λ c h. heads_in b first reach.begins c h)
      (λ c p h a. let n = part_of c p h a in reach.known.narrow n.0 p n.1)
      (λ c h. let j = asks_of c h in reach.known.few j.0 c j.1 j.2 j.3)
      (λ c d p h a i. let n = part_of c p h a in heads_in n.0 p n.1 d i)

-- a question whose own conjuncts are wide is wide
pub wide_at_once : (table : Table) (k : ℕ) (p : List (Signed ℕ)) → narrow_part table k p ≡ false → IsWide table k p
wide_at_once table k p e = inl (p, inl refl, e)
