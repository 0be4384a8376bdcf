-- The conjuncts that are marked are those with a value, and so are the ways of which all is held.
use Rattle.std.proofs.Common.{◌≡◌, ℕ, ◌<◌, List, [], ◌∷◌, ◌++◌, length, Bool, true, false, cond, ◌||◌, inl, inr, Option, Some, None, refl, sym, ap, subst, ◌∙◌, arith}
use Rattle.std.specs.Prelude.{slice_get}
use Rattle.std.specs.Option.{option_to_list}
use Rattle.wy_lemmas.proofs.Choices.{or_left, both_true as two_true}
use Rattle.wy_canon.specs.wy_value.Datum.{Datum}
use Rattle.wy_canon.specs.wy_types.declared.conjuncts.Signed.{Signed}
use Rattle.wy_canon.specs.wy_types.declared.conjuncts.Conjunct.{Conjunct}
use Rattle.wy_canon.specs.wy_types.declared.table.Table.{Table}
use Rattle.wy_canon.specs.wy_types.Shape.{conjunct_in, any_in}
use Rattle.wy_canon.specs.wy_types.Claims.{EachOf}
use Rattle.wy_canon.specs.wy_types.Membership.{shape_of}
use Rattle.wy_canon.specs.wy_types.Ranked.{IsRanked}
use Rattle.wy_subtype.specs.declared.reach.Reach.{Reach}
use Rattle.wy_subtype.specs.Numbers.{AreAt}
use Rattle.wy_subtype.specs.Marks.{mark_at, part_marks, AreSound, AreClosedBy}
use Rattle.wy_subtype.specs.Known.{IsReach}
use Rattle.wy_subtype.specs.Valued.{HasDatum, AreValued, marked}
use Rattle.std.proofs.lemmas.Option.{slice_get_within}
use Rattle.wy_canon.specs.wy_types.declared.conjuncts.Part.{Part}
use Rattle.wy_canon.specs.wy_types.declared.conjuncts.Atom.{Atom}
use Rattle.wy_canon.specs.wy_types.declared.conjuncts.Atom.TheVariants as atom
use Rattle.wy_canon.specs.wy_types.Claims.{SomeOf}
use Rattle.wy_canon.specs.wy_types.Asks.{HasValue, alone, all_alone, ways_from}
use Rattle.wy_canon.specs.wy_types.Asks as asking
use Rattle.wy_subtype.specs.Numbers.{AreEachAt, AreAllAt}
use Rattle.wy_subtype.specs.Marks.{any_marked, each_marked, HaveValues}
use Rattle.wy_subtype.specs.Valued.{IsInhabited, AreInhabited, atom_ways, ways_of, all_ways, held_ways, held_by, held_of, held_all}
use Rattle.wy_subtype.proofs.NumberLemmas.{get_within}
use Rattle.wy_subtype.proofs.MarkLemmas.{each_marked-value}
use Rattle.wy_subtype.proofs.ValueLemmas.{conjunct_held, value_found, held_sound}

module _ (table : Table) (k : ℕ) (ranked : (rank : ℕ → ℕ) × IsRanked table rank k) (first : List (Signed ℕ)) (r : Reach) (b : ℕ) (reach : IsReach table k first r b) (marks : List Bool) (sound : AreSound table k r.conjuncts marks)
    (closed : AreClosedBy (part_marks marks r.heads) marks r.asks (length r.asks)) where
  pub marked_valued : (h : List ℕ) (cs : List (Conjunct ℕ)) → AreAt r.conjuncts h cs → AreValued table k cs (marked marks r.conjuncts h)
  marked_valued [] [] a = refl
  marked_valued [] (c ∷ cs) a = absurd a
  marked_valued (j ∷ js) [] a = absurd a
  marked_valued (j ∷ js) (c ∷ cs) a = by (mark_at marks j) refl (marked_valued js cs a.1)
    where
      by : (x : Bool) → mark_at marks j ≡ x → AreValued table k cs (marked marks r.conjuncts js) → AreValued table k (c ∷ cs) (cond x (option_to_list (slice_get r.conjuncts j)) [] ++ marked marks r.conjuncts js)
      by true e rest = inl (marked marks r.conjuncts js, sound j c e a.0, ap (λ o. option_to_list o ++ marked marks r.conjuncts js) a.0, rest)
      by false e rest = inr (λ v. let held = conjunct_held table k ranked first r b reach marks closed j c a.0 v.0 v.1 in absurd (cc (held, e)), rest)

module _ (table : Table) (k : ℕ) where
  -- conjuncts without a value add nothing
  pub any_in-valued : (d : Datum) (cs made : List (Conjunct ℕ)) → AreValued table k cs made → any_in (shape_of table k d) made ≡ any_in (shape_of table k d) cs
  any_in-valued d [] made h = ap (any_in (shape_of table k d)) h
  any_in-valued d (c ∷ cs) made (inl h) = ap (any_in (shape_of table k d)) h.2 ∙ ap (λ x. conjunct_in (shape_of table k d) c || x) (any_in-valued d cs h.0 h.3)
  any_in-valued d (c ∷ cs) made (inr h) = any_in-valued d cs made h.1 ∙ by (conjunct_in (shape_of table k d) c) refl
    where
      by : (x : Bool) → conjunct_in (shape_of table k d) c ≡ x → any_in (shape_of table k d) cs ≡ (x || any_in (shape_of table k d) cs)
      by false e = refl
      by true e = absurd (h.0 (d, e))

  -- a list has one list of conjuncts with a value
  pub valued_one : (cs a b : List (Conjunct ℕ)) → AreValued table k cs a → AreValued table k cs b → a ≡ b
  valued_one [] a b h g = h ∙ sym g
  valued_one (c ∷ cs) a b (inl h) (inl g) = h.2 ∙ (ap (λ l. c ∷ l) (valued_one cs h.0 g.0 h.3 g.3) ∙ sym g.2)
  valued_one (c ∷ cs) a b (inl h) (inr g) = absurd (g.0 h.1)
  valued_one (c ∷ cs) a b (inr h) (inl g) = absurd (h.0 g.1)
  valued_one (c ∷ cs) a b (inr h) (inr g) = valued_one cs a b h.1 g.1

  pub valued_have : (cs made : List (Conjunct ℕ)) → AreValued table k cs made → EachOf (HasDatum table k) made
  valued_have [] made h = subst (EachOf (HasDatum table k)) (sym h) tt
  valued_have (c ∷ cs) made (inl h) = subst (EachOf (HasDatum table k)) (sym h.2) (h.1, valued_have cs h.0 h.3)
  valued_have (c ∷ cs) made (inr h) = valued_have cs made h.1

-- what is reached has the first part's conjuncts by number
pub no_head : (table : Table) (k : ℕ) (first : List (Signed ℕ)) (r : Reach) (b : ℕ) → IsReach table k first r b → (let none : Option (List ℕ) = None in none ≡ slice_get r.heads b) → ⊥
no_head table k first r b reach e =
    let g = get_within r.heads b (let w = slice_get_within r.parts b first reach.begins in let f = reach.known.counted in omega (arith, w, f)) in
    let at = g.1 in
    cc (e, at)

-- ---- ways

-- two lists of ways with those that have values, behind one another
inhabited_append : (table : Table) (k : ℕ) (ws vs a b : List (List (List ℕ × Part ℕ))) → AreInhabited table k ws a → AreInhabited table k vs b → AreInhabited table k (ws ++ vs) (a ++ b)
inhabited_append table k [] vs a b h g = subst (λ (x : List (List (List ℕ × Part ℕ))). AreInhabited table k vs (x ++ b)) (sym h) g
inhabited_append table k (w ∷ ws) vs a b (inl h) g = inl (h.0 ++ b, h.1, ap (λ x. x ++ b) h.2, inhabited_append table k ws vs h.0 b h.3 g)
inhabited_append table k (w ∷ ws) vs a b (inr h) g = inr (h.0, inhabited_append table k ws vs a b h.1 g)

inhabited_by : (table : Table) (k : ℕ) (w : List (List ℕ × Part ℕ)) → EachOf (SomeOf (HasValue table k)) (alone w) → IsInhabited table k w
inhabited_by table k [] h = tt
inhabited_by table k (f ∷ w) h = (elim h.0 [ inl v ↦ v | inr n ↦ absurd n ], inhabited_by table k w h.1)

module _ (table : Table) (k : ℕ) (ranked : (rank : ℕ → ℕ) × IsRanked table rank k) (first : List (Signed ℕ)) (r : Reach) (b : ℕ) (reach : IsReach table k first r b) (marks : List Bool) (sound : AreSound table k r.conjuncts marks)
    (closed : AreClosedBy (part_marks marks r.heads) marks r.asks (length r.asks)) where
  one_held : (ns : List ℕ) (p : List (Signed ℕ)) → AreAt r.parts ns (p ∷ []) → HasValue table k p → any_marked (part_marks marks r.heads) ns ≡ true
  one_held [] p at v = absurd at
  one_held (n ∷ ns) p at v = or_left (mark_at (part_marks marks r.heads) n) (any_marked (part_marks marks r.heads) ns) (value_found table k ranked first r b reach marks closed v.0 p (n, at.0) v.1 n at.0)

  way_held : (w : List (List ℕ × Part ℕ)) (a : List (List ℕ)) → AreEachAt r.parts a (alone w) → IsInhabited table k w → each_marked (part_marks marks r.heads) a ≡ true
  way_held [] [] at h = refl
  way_held [] (ns ∷ a) at h = absurd at
  way_held (f ∷ w) [] at h = absurd at
  way_held (f ∷ w) (ns ∷ a) at h = two_true (any_marked (part_marks marks r.heads) ns) (each_marked (part_marks marks r.heads) a) (one_held ns f.1.terms at.0 h.0) (way_held w a at.1 h.1)

  held_inhabited : (ws : List (List (List ℕ × Part ℕ))) (a : List (List (List ℕ))) → AreAllAt r.parts a (all_alone ws) → AreInhabited table k ws (held_ways (part_marks marks r.heads) ws a)
  held_inhabited [] [] at = refl
  held_inhabited [] (x ∷ a) at = absurd at
  held_inhabited (w ∷ ws) [] at = absurd at
  held_inhabited (w ∷ ws) (x ∷ a) at = by (each_marked (part_marks marks r.heads) x) refl (held_inhabited ws a at.1)
    where
      by : (y : Bool) → each_marked (part_marks marks r.heads) x ≡ y → AreInhabited table k ws (held_ways (part_marks marks r.heads) ws a)
          → AreInhabited table k (w ∷ ws) (cond y (w ∷ held_ways (part_marks marks r.heads) ws a) (held_ways (part_marks marks r.heads) ws a))
      by true e rest =
          let h : HaveValues table k r.parts (part_marks marks r.heads) = held_sound table k ranked first r marks reach.known sound in
          inl (held_ways (part_marks marks r.heads) ws a, inhabited_by table k w (each_marked-value table k r.parts (part_marks marks r.heads) h x (alone w) at.0 e), refl, rest)
      by false e rest = inr (λ v. let f = way_held w x at.0 v in absurd (cc (e, f)), rest)

  by_inhabited : (p : Atom ℕ) (ns : List (Atom ℕ)) (a : List (List (List ℕ))) → AreAllAt r.parts a (asking.options_of table k p ns) → AreInhabited table k (atom_ways table k p ns) (held_by table k (part_marks marks r.heads) p ns a)
  by_inhabited (atom.Record fs) ns a at = held_inhabited (ways_from table k (fs ∷ []) ns) a at
  by_inhabited atom.Null ns a at = refl
  by_inhabited atom.Bool ns a at = refl
  by_inhabited atom.Int ns a at = refl
  by_inhabited (atom.Array p) ns a at = refl
  by_inhabited atom.AnyRecord ns a at = refl

  pub all_inhabited : (h : List ℕ) (cs : List (Conjunct ℕ)) → AreAt r.conjuncts h cs → AreInhabited table k (all_ways table k (marked marks r.conjuncts h)) (held_all table k marks (part_marks marks r.heads) r.conjuncts r.asks h)
  all_inhabited [] [] at = refl
  all_inhabited [] (c ∷ cs) at = absurd at
  all_inhabited (j ∷ js) [] at = absurd at
  all_inhabited (j ∷ js) (c ∷ cs) at = by (mark_at marks j) (all_inhabited js cs at.1)
    where
      lt : j < length r.asks
      lt = let w = slice_get_within r.conjuncts j c at.0 in let f = reach.full in omega (arith, w, f)

      by : (y : Bool) → AreInhabited table k (all_ways table k (marked marks r.conjuncts js)) (held_all table k marks (part_marks marks r.heads) r.conjuncts r.asks js)
          → AreInhabited table k (all_ways table k (cond y (option_to_list (slice_get r.conjuncts j)) [] ++ marked marks r.conjuncts js))
          (cond y (held_of table k (part_marks marks r.heads) (slice_get r.conjuncts j) (slice_get r.asks j)) [] ++ held_all table k marks (part_marks marks r.heads) r.conjuncts r.asks js)
      by false rest = rest
      by true rest =
          let g = get_within r.asks j lt in
          let C : Option (Conjunct ℕ) → Option (List (List (List ℕ))) → Type 0 =
          λ o a. AreInhabited table k (all_ways table k (option_to_list o ++ marked marks r.conjuncts js)) (held_of table k (part_marks marks r.heads) o a ++ held_all table k marks (part_marks marks r.heads) r.conjuncts r.asks js)
          in
          let here : C (Some c) (Some g.0) =
          inhabited_append table k (ways_of table k c) (all_ways table k (marked marks r.conjuncts js)) (held_by table k (part_marks marks r.heads) c.positive c.negatives g.0) (held_all table k marks (part_marks marks r.heads) r.conjuncts r.asks js)
          (by_inhabited c.positive c.negatives g.0 (reach.known.asked j c g.0 at.0 g.1)) rest
          in
          subst (λ (o : Option (Conjunct ℕ)). C o (slice_get r.asks j)) (sym at.0) (subst (λ (a : Option (List (List (List ℕ)))). C (Some c) a) (sym g.1) here)
