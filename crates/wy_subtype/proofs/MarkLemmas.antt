-- Marks: what they meet, and a mark more.
use Rattle.std.proofs.Common.{◌≡◌, ℕ, zero, suc, List, [], ◌∷◌, Bool, true, Some, refl, ap, inl, inr, ◌⊎◌}
use Rattle.std.specs.Prelude.{slice_get}
use Rattle.std.proofs.lemmas.Bool.{or_cases}
use Rattle.wy_lemmas.proofs.Choices.{both_parts as both, or_left, both_true as two_true, or_right}
use Rattle.wy_lemmas.proofs.Options.{some_one as some_is}
use Rattle.wy_canon.specs.wy_types.declared.conjuncts.Signed.{Signed}
use Rattle.wy_canon.specs.wy_types.declared.table.Table.{Table}
use Rattle.wy_canon.specs.wy_types.Claims.{SomeOf, EachOf}
use Rattle.wy_canon.specs.wy_types.Asks.{HasValue, IsMet}
use Rattle.wy_subtype.specs.Numbers.{AreAt, AreEachAt, AreAllAt}
use Rattle.wy_subtype.specs.Marks.{mark_at, any_marked, each_marked, met, part_marks, HaveValues}

-- ---- what is met by marks is met by values

module _ (table : Table) (k : ℕ) (parts : List (List (Signed ℕ))) (marks : List Bool) (sound : HaveValues table k parts marks) where
  any_marked-value : (ns : List ℕ) (ps : List (List (Signed ℕ))) → AreAt parts ns ps → any_marked marks ns ≡ true → SomeOf (HasValue table k) ps
  any_marked-value [] [] h e = absurd cc
  any_marked-value [] (p ∷ ps) h e = absurd h
  any_marked-value (n ∷ ns) [] h e = absurd h
  any_marked-value (n ∷ ns) (p ∷ ps) h e = by (or_cases (mark_at marks n) (any_marked marks ns) e) (λ f. any_marked-value ns ps h.1 f)
    where
      by : (mark_at marks n ≡ true) ⊎ (any_marked marks ns ≡ true) → (any_marked marks ns ≡ true → SomeOf (HasValue table k) ps) → SomeOf (HasValue table k) (p ∷ ps)
      by (inl f) rest = inl (sound n p f h.0)
      by (inr f) rest = inr (rest f)

  pub each_marked-value : (ns : List (List ℕ)) (ps : List (List (List (Signed ℕ)))) → AreEachAt parts ns ps → each_marked marks ns ≡ true → EachOf (SomeOf (HasValue table k)) ps
  each_marked-value [] [] h e = tt
  each_marked-value [] (p ∷ ps) h e = absurd h
  each_marked-value (n ∷ ns) [] h e = absurd h
  each_marked-value (n ∷ ns) (p ∷ ps) h e =
      let a = both (any_marked marks n) (each_marked marks ns) e in
      (any_marked-value n p h.0 a.0, each_marked-value ns ps h.1 a.1)

  pub met-value : (ns : List (List (List ℕ))) (ps : List (List (List (List (Signed ℕ))))) → AreAllAt parts ns ps → met marks ns ≡ true → IsMet (HasValue table k) ps
  met-value [] [] h e = absurd cc
  met-value [] (p ∷ ps) h e = absurd h
  met-value (n ∷ ns) [] h e = absurd h
  met-value (n ∷ ns) (p ∷ ps) h e = by (or_cases (each_marked marks n) (met marks ns) e) (λ f. met-value ns ps h.1 f)
    where
      by : (each_marked marks n ≡ true) ⊎ (met marks ns ≡ true) → (met marks ns ≡ true → IsMet (HasValue table k) ps) → IsMet (HasValue table k) (p ∷ ps)
      by (inl f) rest = inl (each_marked-value n p h.0 f)
      by (inr f) rest = inr (rest f)

-- ---- and the other way round

-- a part all of whose numbers are marked
abbrev pub IsMarked : List (List (Signed ℕ)) → List Bool → List (Signed ℕ) → Type 0
IsMarked parts marks p = (n : ℕ) → slice_get parts n ≡ Some p → mark_at marks n ≡ true

-- a part with a number
abbrev pub IsPart : List (List (Signed ℕ)) → List (Signed ℕ) → Type 0
IsPart parts p = (n : ℕ) × (slice_get parts n ≡ Some p)

module _ (parts : List (List (Signed ℕ))) (marks : List Bool) where
  any_marked-at : (ns : List ℕ) (ps : List (List (Signed ℕ))) → AreAt parts ns ps → SomeOf (IsMarked parts marks) ps → any_marked marks ns ≡ true
  any_marked-at [] [] h s = absurd s
  any_marked-at [] (p ∷ ps) h s = absurd h
  any_marked-at (n ∷ ns) [] h s = absurd h
  any_marked-at (n ∷ ns) (p ∷ ps) h (inl s) = or_left (mark_at marks n) (any_marked marks ns) (s n h.0)
  any_marked-at (n ∷ ns) (p ∷ ps) h (inr s) = or_right (mark_at marks n) (any_marked marks ns) (any_marked-at ns ps h.1 s)

  each_marked-at : (ns : List (List ℕ)) (ps : List (List (List (Signed ℕ)))) → AreEachAt parts ns ps → EachOf (SomeOf (IsMarked parts marks)) ps → each_marked marks ns ≡ true
  each_marked-at [] [] h s = refl
  each_marked-at [] (p ∷ ps) h s = absurd h
  each_marked-at (n ∷ ns) [] h s = absurd h
  each_marked-at (n ∷ ns) (p ∷ ps) h s = two_true (any_marked marks n) (each_marked marks ns) (any_marked-at n p h.0 s.0) (each_marked-at ns ps h.1 s.1)

  pub met-at : (ns : List (List (List ℕ))) (ps : List (List (List (List (Signed ℕ))))) → AreAllAt parts ns ps → IsMet (IsMarked parts marks) ps → met marks ns ≡ true
  met-at [] [] h s = absurd s
  met-at [] (p ∷ ps) h s = absurd h
  met-at (n ∷ ns) [] h s = absurd h
  met-at (n ∷ ns) (p ∷ ps) h (inl s) = or_left (each_marked marks n) (met marks ns) (each_marked-at n p h.0 s)
  met-at (n ∷ ns) (p ∷ ps) h (inr s) = or_right (each_marked marks n) (met marks ns) (met-at ns ps h.1 s)

are_parts : (parts : List (List (Signed ℕ))) (ns : List ℕ) (ps : List (List (Signed ℕ))) → AreAt parts ns ps → EachOf (IsPart parts) ps
are_parts parts [] [] h = tt
are_parts parts [] (p ∷ ps) h = absurd h
are_parts parts (n ∷ ns) [] h = absurd h
are_parts parts (n ∷ ns) (p ∷ ps) h = ((n, h.0), are_parts parts ns ps h.1)

each_are_parts : (parts : List (List (Signed ℕ))) (ns : List (List ℕ)) (ps : List (List (List (Signed ℕ)))) → AreEachAt parts ns ps → EachOf (EachOf (IsPart parts)) ps
each_are_parts parts [] [] h = tt
each_are_parts parts [] (p ∷ ps) h = absurd h
each_are_parts parts (n ∷ ns) [] h = absurd h
each_are_parts parts (n ∷ ns) (p ∷ ps) h = (are_parts parts n p h.0, each_are_parts parts ns ps h.1)

pub all_are_parts : (parts : List (List (Signed ℕ))) (ns : List (List (List ℕ))) (ps : List (List (List (List (Signed ℕ))))) → AreAllAt parts ns ps → EachOf (EachOf (EachOf (IsPart parts))) ps
all_are_parts parts [] [] h = tt
all_are_parts parts [] (p ∷ ps) h = absurd h
all_are_parts parts (n ∷ ns) [] h = absurd h
all_are_parts parts (n ∷ ns) (p ∷ ps) h = (each_are_parts parts n p h.0, all_are_parts parts ns ps h.1)

-- ---- the mark of a part

pub part_mark : (marks : List Bool) (heads : List (List ℕ)) (n : ℕ) (h : List ℕ) → slice_get heads n ≡ Some h → mark_at (part_marks marks heads) n ≡ any_marked marks h
part_mark marks [] n h e = absurd cc
part_mark marks (g ∷ heads) zero h e = ap (any_marked marks) (some_is (Some g) g h refl e)
part_mark marks (g ∷ heads) (suc n) h e = part_mark marks heads n h e
