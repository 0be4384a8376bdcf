-- The values at a field, as types of a program.
use Rattle.std.proofs.Common.{◌≡◌, ◌↔◌, ◌∙◌, ℕ, List, [], ◌∷◌, Bool, true, false, inl, inr, Some, sym, ap, subst}
use Rattle.wy_subtype.specs.wy_value.Datum.{Datum, Fields}
use Rattle.wy_subtype.specs.wy_value.Datum as datum
use Rattle.wy_subtype.specs.wy_core.Types.{Ty, NormalTy}
use Rattle.wy_subtype.specs.wy_types.declared.conjuncts.Part.{Part}
use Rattle.wy_subtype.specs.wy_types.declared.conjuncts.Conjunct.{Conjunct}
use Rattle.wy_subtype.specs.wy_types.declared.question.Question.{Question}
use Rattle.wy_subtype.specs.wy_types.declared.table.Table.{Table}
use Rattle.wy_subtype.specs.wy_types.Membership as terms
use Rattle.wy_subtype.specs.wy_types.Membership.{member}
use Rattle.wy_subtype.specs.wy_types.Names.{Declared, Up, shape_of, is_in_normal}
use Rattle.wy_subtype.specs.wy_types.Questions.{numbered, IsWideAbout}
use Rattle.wy_subtype.specs.wy_types.Ranked.{IsRanked}
use Rattle.wy_subtype.specs.wy_types.Reading.{ty_at, conjuncts_at}
use Rattle.wy_subtype.specs.wy_types.Shape.{any_in}
use Rattle.wy_subtype.specs.declared.valued.Inhabited.{Inhabited}
use Rattle.wy_subtype.specs.Valued.{AreThose, AreInhabited, all_ways, IsInhabited}
use Rattle.wy_subtype.proofs.ValuedLemmas.{any_in-valued, valued_one, valued_have}
use Rattle.wy_subtype_parts.specs.Norms.{all_of}
use Rattle.wy_subtype_parts.specs.Fields.{value_at, all_have, values_at, narrow_values, HasParts, IsUnion, HasNoUnion, IsWideUnion, IsWideValues, IsWideField, SomeLacks, AllHave, IsValueIn}
use Rattle.wy_subtype_parts.proofs.UnionLemmas.{all_say}
use Rattle.wy_subtype_parts.proofs.FieldLemmas.{values_are, all_fields, some_other}

-- a list of ways has one list of those that have values
ways_one : (table : Table) (k : ℕ) (ws a b : List (List (List ℕ × Part ℕ))) → AreInhabited table k ws a → AreInhabited table k ws b → a ≡ b
ways_one table k [] a b h g = h ∙ sym g
ways_one table k (w ∷ ws) a b (inl h) (inl g) = h.2 ∙ (ap (λ l. w ∷ l) (ways_one table k ws h.0 g.0 h.3 g.3) ∙ sym g.2)
ways_one table k (w ∷ ws) a b (inl h) (inr g) = absurd (g.0 h.1)
ways_one table k (w ∷ ws) a b (inr h) (inl g) = absurd (h.0 g.1)
ways_one table k (w ∷ ws) a b (inr h) (inr g) = ways_one table k ws a b h.1 g.1

-- what has a value of the conjuncts is one
those_one : (table : Table) (k : ℕ) (cs : List (Conjunct ℕ)) (a b : Inhabited) → AreThose table k cs a → AreThose table k cs b → a ≡ b
those_one table k cs a b h g =
    let e = valued_one table k cs a.conjuncts b.conjuncts h.conjuncts g.conjuncts in
    let f = ways_one table k (all_ways table k b.conjuncts) a.ways b.ways (subst (λ (l : List (Conjunct ℕ)). AreInhabited table k (all_ways table k l) a.ways) e h.ways) g.ways in
    λ i. record { conjuncts = e i; ways = f i }

-- a type has one union of the field's parts
union_one : (names : List Declared) (f : List ℕ) (t a b : Ty) → IsUnion names f t a → IsUnion names f t b → a ≡ b
union_one names f t a b x y =
    let q = numbered names t t in
    let one = those_one q.table q.depth (all_of q) x.found y.found x.parts.those y.parts.those in
    x.whole ∙ (ap (λ (l : Inhabited). NormalTy (conjuncts_at (ty_at q.table q.depth) (values_at q.table q.depth f [] l.ways))) one ∙ sym y.whole)

module _ (names : List Declared) (t : Ty) (q : Question) (is : q ≡ numbered names t t) (ranked : (rank : ℕ → ℕ) × IsRanked q.table rank q.depth)
    (first : (d : Datum) → member q.table q.depth d true q.first ≡ Up names d t)
    (conjuncts : (d : Datum) (cs : List (Conjunct ℕ)) → any_in (terms.shape_of q.table q.depth d) cs ≡ is_in_normal (shape_of names d) (conjuncts_at (ty_at q.table q.depth) cs)) (f : List ℕ) (found : Inhabited)
    (those : AreThose q.table q.depth (all_of q) found) where
  -- those with a value say what the type does
  they_say : (d : Datum) → any_in (terms.shape_of q.table q.depth d) found.conjuncts ≡ Up names d t
  they_say d = any_in-valued q.table q.depth d (all_of q) found.conjuncts those.conjuncts ∙ all_say names t q is ranked first conjuncts d

  abbrev ThoseAt : Question → Type 0
  ThoseAt x = AreThose x.table x.depth (all_of x) found

  have_parts : (b : Bool) → all_have f found.conjuncts ≡ b → HasParts names f t b found
  have_parts b e = record { those = subst ThoseAt is those; whole = e }

  pub value_union : all_have f found.conjuncts ≡ true → (made : Ty) → made ≡ NormalTy (conjuncts_at (ty_at q.table q.depth) (values_at q.table q.depth f [] found.ways)) → IsUnion names f t made
  value_union has made e = record {
    found = found;
    parts = have_parts true has;
    whole = e ∙ ap (λ (x : Question). NormalTy (conjuncts_at (ty_at x.table x.depth) (values_at x.table x.depth f [] found.ways))) is;
  }

  pub value_set : all_have f found.conjuncts ≡ true → (made : Ty) → made ≡ NormalTy (conjuncts_at (ty_at q.table q.depth) (values_at q.table q.depth f [] found.ways)) → (d : Datum) → (Up names d made ≡ true) ↔ IsValueIn names f t d
  value_set has made e d =
      let same : Up names d made ≡ any_in (terms.shape_of q.table q.depth d) (values_at q.table q.depth f [] found.ways) = ap (Up names d) e ∙ sym (conjuncts d (values_at q.table q.depth f [] found.ways)) in
      let are = values_are q.table q.depth ranked f d found.conjuncts found.ways those.ways has in (
        (λ u. let o = are.0 (sym same ∙ u) in (o.0, o.1, sym (they_say (datum.Record o.0)) ∙ o.2)),
        (λ o. same ∙ are.1 (o.0, o.1, they_say (datum.Record o.0) ∙ o.2)),
      )

  pub value_all : all_have f found.conjuncts ≡ true → AllHave names f t
  value_all has = λ d u. all_fields q.table q.depth ranked f d found.conjuncts has (they_say d ∙ u)

  pub value_lacks : all_have f found.conjuncts ≡ false → SomeLacks names f t
  value_lacks lacks =
      let o = some_other q.table q.depth ranked f found.conjuncts (valued_have q.table q.depth (all_of q) found.conjuncts those.conjuncts) lacks in
      (o.0, o.1, sym (they_say o.0) ∙ o.2)

  pub wide_values : all_have f found.conjuncts ≡ true → narrow_values q.table q.depth f found.ways ≡ false → IsWideUnion names f t
  wide_values has e = (found, have_parts true has, subst (λ (x : Question). narrow_values x.table x.depth f found.ways ≡ false) is e)

  abbrev OneAt : Inhabited → Type 0
  OneAt other = (other ≡ found) × (narrow_values q.table q.depth f other.ways ≡ false)

  same_found : (w : IsWideUnion names f t) → OneAt w.0
  same_found w =
      let other : AreThose q.table q.depth (all_of q) w.0 = subst (λ (x : Question). AreThose x.table x.depth (all_of x) w.0) (sym is) w.1.those in
      (those_one q.table q.depth (all_of q) w.0 found other those, subst (λ (x : Question). narrow_values x.table x.depth f w.0.ways ≡ false) (sym is) w.2)

  pub narrow_none : all_have f found.conjuncts ≡ false → IsWideUnion names f t → ⊥
  narrow_none lacks w =
      let has : all_have f found.conjuncts ≡ true = subst (λ (x : Inhabited). all_have f x.conjuncts ≡ true) (same_found w).0 w.1.whole in
      cc (has, lacks)

  pub no_union : all_have f found.conjuncts ≡ false → HasNoUnion names f t
  no_union lacks union u =
      let other : AreThose q.table q.depth (all_of q) u.found = subst (λ (x : Question). AreThose x.table x.depth (all_of x) u.found) (sym is) u.parts.those in
      let same : u.found ≡ found = those_one q.table q.depth (all_of q) u.found found other those in
      let has : all_have f found.conjuncts ≡ true = subst (λ (x : Inhabited). all_have f x.conjuncts ≡ true) same u.parts.whole in
      cc (has, lacks)

  pub narrow_some : narrow_values q.table q.depth f found.ways ≡ true → IsWideUnion names f t → ⊥
  narrow_some e w =
      let lacks : narrow_values q.table q.depth f found.ways ≡ false = subst (λ (x : Inhabited). narrow_values q.table q.depth f x.ways ≡ false) (same_found w).0 (same_found w).1 in
      cc (e, lacks)

pub narrow_both : (names : List Declared) (f : List ℕ) (t : Ty) → (IsWideAbout names t → ⊥) → (IsWideUnion names f t → ⊥) → IsWideValues names f t → ⊥
narrow_both names f t h g (inl w) = h w
narrow_both names f t h g (inr w) = g w

pub narrow_field : (names : List Declared) (f : List ℕ) (t union : Ty) → IsUnion names f t union → (IsWideValues names f t → ⊥) → (IsWideAbout names union → ⊥) → IsWideField names f t → ⊥
narrow_field names f t union is h g (inl w) = h w
narrow_field names f t union is h g (inr w) = g (subst (IsWideAbout names) (union_one names f t w.0 union w.1 is) w.2)

-- where some value has no such field, there is no union
pub narrow_missing : (names : List Declared) (f : List ℕ) (t : Ty) → HasNoUnion names f t → (IsWideValues names f t → ⊥) → IsWideField names f t → ⊥
narrow_missing names f t lacks h (inl w) = h w
narrow_missing names f t lacks h (inr w) = lacks w.0 w.1
