-- Marks of conjuncts with a value, sound and complete.
use Rattle.std.proofs.Common.{◌≡◌, ℕ, ◌<◌, List, [], ◌∷◌, length, Bool, true, false, not, ◌&&◌, ◌||◌, ◌⊎◌, inl, inr, Some, set, refl, sym, ap, subst, ◌∙◌, arith}
use Rattle.std.specs.Prelude.{slice_get}
use Rattle.std.proofs.lemmas.Bool.{or_cases}
use Rattle.std.proofs.lemmas.Option.{slice_get_within}
use Rattle.wy_lemmas.proofs.Choices.{both_parts as both, or_left, or_right}
use Rattle.wy_canon.specs.wy_value.Datum.{Datum, Data, Fields, no_items, item, no_fields, field}
use Rattle.wy_canon.specs.wy_value.Datum as datum
use Rattle.wy_canon.specs.wy_types.declared.conjuncts.Signed.{Signed}
use Rattle.wy_canon.specs.wy_types.declared.conjuncts.Conjunct.{Conjunct}
use Rattle.wy_canon.specs.wy_types.declared.table.Table.{Table}
use Rattle.wy_canon.specs.wy_types.Shape.{part_in, atom_in, none_in, conjunct_in, any_in}
use Rattle.wy_canon.specs.wy_types.Claims.{SomeOf, EachOf}
use Rattle.wy_canon.specs.wy_types.Membership.{shape_of, item_readers, field_readers, member}
use Rattle.wy_canon.specs.wy_types.Ranked.{IsRanked}
use Rattle.wy_canon.specs.wy_types.Conjuncts.{dnf_part, with_sides}
use Rattle.wy_canon.specs.wy_types.Asks.{all_options, options, HasValue, IsMet}
use Rattle.wy_canon.specs.wy_types.Reach.{outside}
use Rattle.wy_canon.proofs.wy_types_proofs.ClaimLemmas.{some_split, each_append, met_within}
use Rattle.wy_canon.proofs.wy_types_proofs.RankedLemmas.{has_laws, is_lawful}
use Rattle.wy_canon.proofs.wy_types_proofs.TermLemmas.{any_in-dnf_part, part_in-with_sides}
use Rattle.wy_canon.proofs.wy_types_proofs.AskLemmas.{HasPiece, options_of-ask}
use Rattle.wy_canon.proofs.wy_types_proofs.FoundLemmas.{found}
use Rattle.wy_subtype.specs.declared.reach.Reach.{Reach}
use Rattle.wy_subtype.specs.Numbers.{AreAt}
use Rattle.wy_subtype.specs.Marks.{mark_at, any_marked, met, part_marks, HaveValues, AreSound, AreClosedBy}
use Rattle.wy_subtype.specs.Known.{options_of, IsKnown, IsReach}
use Rattle.wy_subtype.proofs.NumberLemmas.{get_within}
use Rattle.wy_subtype.proofs.MarkLemmas.{met-at, IsMarked, IsPart, all_are_parts, part_mark}

-- a marked conjunct among those of a part
head_value : (table : Table) (k : ℕ) (conjuncts : List (Conjunct ℕ)) (marks : List Bool) → AreSound table k conjuncts marks → (h : List ℕ) (cs : List (Conjunct ℕ)) → AreAt conjuncts h cs → any_marked marks h ≡ true → (d : Datum) × (any_in (shape_of table k d) cs ≡ true)
head_value table k conjuncts marks sound [] [] a e = absurd cc
head_value table k conjuncts marks sound [] (c ∷ cs) a e = absurd a
head_value table k conjuncts marks sound (j ∷ js) [] a e = absurd a
head_value table k conjuncts marks sound (j ∷ js) (c ∷ cs) a e = by (or_cases (mark_at marks j) (any_marked marks js) e) (λ f. head_value table k conjuncts marks sound js cs a.1 f)
  where
    by : (mark_at marks j ≡ true) ⊎ (any_marked marks js ≡ true) → (any_marked marks js ≡ true → (d : Datum) × (any_in (shape_of table k d) cs ≡ true)) → (d : Datum) × (any_in (shape_of table k d) (c ∷ cs) ≡ true)
    by (inl f) rest = let v = sound j c f a.0 in (v.0, or_left (conjunct_in (shape_of table k v.0) c) (any_in (shape_of table k v.0) cs) v.1)
    by (inr f) rest = let v = rest f in (v.0, or_right (conjunct_in (shape_of table k v.0) c) (any_in (shape_of table k v.0) cs) v.1)

module _ (table : Table) (k : ℕ) (ranked : (rank : ℕ → ℕ) × IsRanked table rank k) where
  union : (d : Datum) (p : List (Signed ℕ)) → any_in (shape_of table k d) (dnf_part table k p) ≡ part_in (member table k d) p
  union d p = any_in-dnf_part table k (shape_of table k d) (has_laws table ranked.0 k ranked.1 d) p

  pub held_sound : (first : List (Signed ℕ)) (r : Reach) (marks : List Bool) → IsKnown table k first r → AreSound table k r.conjuncts marks → HaveValues table k r.parts (part_marks marks r.heads)
  held_sound first r marks known sound n p e at =
      let lt : n < length r.heads = (let w = slice_get_within r.parts n p at in let f = known.counted in omega (arith, w, f)) in
      let g = get_within r.heads n lt in
      let v = head_value table k r.conjuncts marks sound g.0 (dnf_part table k p) (known.headed n p g.0 at g.1) (sym (part_mark marks r.heads n g.0 g.1) ∙ e) in
      (v.0, sym (union v.0 p) ∙ v.1)

  -- ---- every part with a value is marked

  all_parts : (first : List (Signed ℕ)) (r : Reach) (b : ℕ) (reach : IsReach table k first r b) (h : List ℕ) (cs : List (Conjunct ℕ)) → AreAt r.conjuncts h cs → EachOf (EachOf (EachOf (IsPart r.parts))) (all_options table k cs)
  all_parts first r b reach [] [] a = tt
  all_parts first r b reach [] (c ∷ cs) a = absurd a
  all_parts first r b reach (j ∷ js) [] a = absurd a
  all_parts first r b reach (j ∷ js) (c ∷ cs) a =
      let lt : j < length r.asks = (let w = slice_get_within r.conjuncts j c a.0 in let f = reach.full in omega (arith, w, f)) in
      let g = get_within r.asks j lt in
      each_append (EachOf (EachOf (IsPart r.parts))) (options_of table k c) (all_options table k cs)
      (all_are_parts r.parts g.0 (options_of table k c) (reach.known.asked j c g.0 a.0 g.1))
      (all_parts first r b reach js cs a.1)

  head_marked : (first : List (Signed ℕ)) (r : Reach) (b : ℕ) (reach : IsReach table k first r b) (held marks : List Bool) → AreClosedBy held marks r.asks (length r.asks) → (h : List ℕ) (cs : List (Conjunct ℕ)) → AreAt r.conjuncts h cs
      → IsMet (IsMarked r.parts held) (all_options table k cs) → any_marked marks h ≡ true
  head_marked first r b reach held marks closed [] [] a m = absurd m
  head_marked first r b reach held marks closed [] (c ∷ cs) a m = absurd a
  head_marked first r b reach held marks closed (j ∷ js) [] a m = absurd a
  head_marked first r b reach held marks closed (j ∷ js) (c ∷ cs) a m =
      by (some_split (EachOf (SomeOf (IsMarked r.parts held))) (options_of table k c) (all_options table k cs) m) (λ n. head_marked first r b reach held marks closed js cs a.1 n)
    where
      lt : j < length r.asks
      lt = let w = slice_get_within r.conjuncts j c a.0 in let f = reach.full in omega (arith, w, f)

      by : IsMet (IsMarked r.parts held) (options_of table k c) ⊎ IsMet (IsMarked r.parts held) (all_options table k cs) → (IsMet (IsMarked r.parts held) (all_options table k cs) → any_marked marks js ≡ true)
          → (mark_at marks j || any_marked marks js) ≡ true
      by (inl n) rest =
          let g = get_within r.asks j lt in
          or_left (mark_at marks j) (any_marked marks js) (closed j lt g.0 g.1 (met-at r.parts held g.0 (options_of table k c) (reach.known.asked j c g.0 a.0 g.1) n))
      by (inr n) rest = or_right (mark_at marks j) (any_marked marks js) (rest n)

  -- what is in a part that is reached marks it
  pub value_found : (first : List (Signed ℕ)) (r : Reach) (b : ℕ) → IsReach table k first r b → (marks : List Bool) → AreClosedBy (part_marks marks r.heads) marks r.asks (length r.asks) → (d : Datum) (q : List (Signed ℕ)) → IsPart r.parts q → part_in (member table k d) q ≡ true
      → IsMarked r.parts (part_marks marks r.heads) q
  value_found first r b reach marks closed d q i e = found table ranked.0 k ranked.1 (IsPart r.parts) (IsMarked r.parts (part_marks marks r.heads)) within close d q i e
    where
      head_of : (n : ℕ) (p : List (Signed ℕ)) → slice_get r.parts n ≡ Some p → (h : List ℕ) × (slice_get r.heads n ≡ Some h)
      head_of n p at = get_within r.heads n (let w = slice_get_within r.parts n p at in let f = reach.known.counted in omega (arith, w, f))

      within : (p : List (Signed ℕ)) → IsPart r.parts p → EachOf (EachOf (EachOf (IsPart r.parts))) (options table k p)
      within p i = let g = head_of i.0 p i.1 in all_parts first r b reach g.0 (dnf_part table k p) (reach.known.headed i.0 p g.0 i.1 g.1)

      close : (p : List (Signed ℕ)) → IsPart r.parts p → IsMet (IsMarked r.parts (part_marks marks r.heads)) (options table k p) → IsMarked r.parts (part_marks marks r.heads) p
      close p i m n at =
          let g = head_of n p at in
          part_mark marks r.heads n g.0 g.1 ∙ head_marked first r b reach (part_marks marks r.heads) marks closed g.0 (dnf_part table k p) (reach.known.headed n p g.0 at g.1) m

  pub value_held : (first : List (Signed ℕ)) (r : Reach) (b : ℕ) → IsReach table k first r b → (marks : List Bool) → AreClosedBy (part_marks marks r.heads) marks r.asks (length r.asks) → (d : Datum) → part_in (member table k d) first ≡ true
      → mark_at (part_marks marks r.heads) b ≡ true
  value_held first r b reach marks closed d e = value_found first r b reach marks closed d first (b, reach.begins) e b reach.begins

  -- ---- every conjunct with a value is marked

  piece_found : (first : List (Signed ℕ)) (r : Reach) (b : ℕ) → IsReach table k first r b → (marks : List Bool) → AreClosedBy (part_marks marks r.heads) marks r.asks (length r.asks) → (d : Datum) (q : List (Signed ℕ)) → IsPart r.parts q → HasPiece (shape_of table k d) q
      → IsMarked r.parts (part_marks marks r.heads) q
  piece_found first r b reach marks closed d q i s = by d s
    where
      in_items : (items : Data) → SomeOf (λ (f : Bool → ℕ → Bool). part_in f q ≡ true) (item_readers table k items) → IsMarked r.parts (part_marks marks r.heads) q
      in_items no_items s = absurd s
      in_items (item d rest) (inl e) = value_found first r b reach marks closed d q i e
      in_items (item d rest) (inr s) = in_items rest s

      in_fields : (fields : Fields) → SomeOf (λ (f : Bool → ℕ → Bool). part_in f q ≡ true) (field_readers table k fields) → IsMarked r.parts (part_marks marks r.heads) q
      in_fields no_fields s = absurd s
      in_fields (field name d rest) (inl e) = value_found first r b reach marks closed d q i e
      in_fields (field name d rest) (inr s) = in_fields rest s

      by : (d : Datum) → HasPiece (shape_of table k d) q → IsMarked r.parts (part_marks marks r.heads) q
      by datum.Null s = absurd s
      by (datum.Truth x) s = absurd s
      by (datum.Whole z) s = absurd s
      by (datum.Array items) s = in_items items s
      by (datum.Record fields) s = in_fields fields s

  pub conjunct_held : (first : List (Signed ℕ)) (r : Reach) (b : ℕ) → IsReach table k first r b → (marks : List Bool) → AreClosedBy (part_marks marks r.heads) marks r.asks (length r.asks) → (j : ℕ) (c : Conjunct ℕ) → slice_get r.conjuncts j ≡ Some c
      → (d : Datum) → conjunct_in (shape_of table k d) c ≡ true → mark_at marks j ≡ true
  conjunct_held first r b reach marks closed j c at d e =
      let held = part_marks marks r.heads in
      let lt : j < length r.asks = (let w = slice_get_within r.conjuncts j c at in let f = reach.full in omega (arith, w, f)) in
      let g = get_within r.asks j lt in
      let parts = reach.known.asked j c g.0 at g.1 in
      let in_both = both (atom_in (shape_of table k d) c.positive) (none_in (shape_of table k d) c.negatives) e in
      let asks = options_of-ask table k (shape_of table k d) (has_laws table ranked.0 k ranked.1 d) c.positive c.negatives in_both.0 in_both.1 in
      let is_met = met_within (HasPiece (shape_of table k d)) (IsPart r.parts) (IsMarked r.parts held) (options_of table k c) (all_are_parts r.parts g.0 (options_of table k c) parts) (piece_found first r b reach marks closed d) asks in
      closed j lt g.0 g.1 (met-at r.parts held g.0 (options_of table k c) parts is_met)

  -- ---- inclusion

  -- what is outside is in the one and not in the other
  part_in-outside : (d : Datum) (a b : ℕ) → part_in (member table k d) (outside table k a b) ≡ (member table k d true a && not (member table k d true b))
  part_in-outside d a b =
      part_in-with_sides table (member table k d) (is_lawful table ranked.0 k ranked.1 (shape_of table k d)) k (with_sides table k [] true true a) true false b
      ∙ ap (λ x. x && not (member table k d true b)) (part_in-with_sides table (member table k d) (is_lawful table ranked.0 k ranked.1 (shape_of table k d)) k [] true true a)

  pub within_is : (a b : ℕ) → ((d : Datum) → part_in (member table k d) (outside table k a b) ≡ true → ⊥) → (d : Datum) → member table k d true a ≡ true → member table k d true b ≡ true
  within_is a b h d in_a = by (member table k d true b) refl
    where
      by : (x : Bool) → member table k d true b ≡ x → member table k d true b ≡ true
      by true f = f
      by false f = absurd (h d (part_in-outside d a b ∙ rw (in_a, f) refl))

  pub outside_is : (a b : ℕ) → HasValue table k (outside table k a b) → (d : Datum) × (member table k d true a ≡ true) × (member table k d true b ≡ false)
  outside_is a b v = by v.0 (member table k v.0 true a) (member table k v.0 true b) refl refl (sym (part_in-outside v.0 a b) ∙ v.1)
    where
      by : (d : Datum) (x y : Bool) → member table k d true a ≡ x → member table k d true b ≡ y → (x && not y) ≡ true → (d : Datum) × (member table k d true a ≡ true) × (member table k d true b ≡ false)
      by d true false f g h = (d, f, g)
      by d true true f g h = absurd cc
      by d false y f g h = absurd cc

  -- ---- values of a term

  pub part_in-inside : (d : Datum) (t : ℕ) → part_in (member table k d) (with_sides table k [] true true t) ≡ member table k d true t
  part_in-inside d t = part_in-with_sides table (member table k d) (is_lawful table ranked.0 k ranked.1 (shape_of table k d)) k [] true true t

  pub none_inside : (t : ℕ) → ((d : Datum) → part_in (member table k d) (with_sides table k [] true true t) ≡ true → ⊥) → (d : Datum) → member table k d true t ≡ false
  none_inside t h d = by (member table k d true t) refl
    where
      by : (x : Bool) → member table k d true t ≡ x → member table k d true t ≡ false
      by false f = f
      by true f = absurd (h d (part_in-inside d t ∙ f))

  pub some_inside : (t : ℕ) → HasValue table k (with_sides table k [] true true t) → (d : Datum) × (member table k d true t ≡ true)
  some_inside t v = (v.0, sym (part_in-inside v.0 t) ∙ v.1)
