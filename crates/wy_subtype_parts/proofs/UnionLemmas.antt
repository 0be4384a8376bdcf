-- Lists of conjuncts with a value, as types of a program.
use Rattle.std.proofs.Common.{◌≡◌, ◌↔◌, ◌∙◌, ℕ, List, [], true, false, inl, inr, sym, ap, subst}
use Rattle.wy_subtype.specs.wy_value.Datum.{Datum, Data}
use Rattle.wy_subtype.specs.wy_value.Datum as datum
use Rattle.wy_subtype.specs.wy_core.Types.{Ty, NormalTy}
use Rattle.wy_subtype.specs.wy_types.declared.conjuncts.Conjunct.{Conjunct}
use Rattle.wy_subtype.specs.wy_types.declared.question.Question.{Question}
use Rattle.wy_subtype.specs.wy_types.Membership as terms
use Rattle.wy_subtype.specs.wy_types.Membership.{member}
use Rattle.wy_subtype.specs.wy_types.Names.{Declared, Up, shape_of, is_in_normal}
use Rattle.wy_subtype.specs.wy_types.Questions.{first_part, numbered, IsWideAbout}
use Rattle.wy_subtype.specs.wy_types.Ranked.{IsRanked}
use Rattle.wy_subtype.specs.wy_types.Reading.{ty_at, conjuncts_at}
use Rattle.wy_subtype.specs.wy_types.Shape.{any_in}
use Rattle.wy_subtype.proofs.wy_types_proofs.RankedLemmas.{has_laws}
use Rattle.wy_subtype.proofs.wy_types_proofs.TermLemmas.{any_in-dnf_part}
use Rattle.wy_subtype.specs.Valued.{AreValued}
use Rattle.wy_subtype_parts.specs.Norms.{all_of, IsNorm}
use Rattle.wy_subtype_parts.specs.Items.{narrow_elements, elements, IsElements, IsWideUnion, IsWideItems, IsWideElement, IsItemIn}
use Rattle.wy_subtype.proofs.ValueLemmas.{part_in-inside}
use Rattle.wy_subtype.proofs.ValuedLemmas.{any_in-valued, valued_one}
use Rattle.wy_subtype_parts.proofs.ElementLemmas.{elements_are}

module _ (names : List Declared) (t : Ty) (q : Question) (is : q ≡ numbered names t t) (ranked : (rank : ℕ → ℕ) × IsRanked q.table rank q.depth)
    (first : (d : Datum) → member q.table q.depth d true q.first ≡ Up names d t)
    (conjuncts : (d : Datum) (cs : List (Conjunct ℕ)) → any_in (terms.shape_of q.table q.depth d) cs ≡ is_in_normal (shape_of names d) (conjuncts_at (ty_at q.table q.depth) cs)) where
  -- all conjuncts say what the type does
  pub all_say : (d : Datum) → any_in (terms.shape_of q.table q.depth d) (all_of q) ≡ Up names d t
  all_say d = any_in-dnf_part q.table q.depth (terms.shape_of q.table q.depth d) (has_laws q.table ranked.0 q.depth ranked.1 d) (first_part q) ∙ (part_in-inside q.table q.depth ranked d q.first ∙ first d)

  module _ (list : List (Conjunct ℕ)) (valued : AreValued q.table q.depth (all_of q) list) where
    abbrev ValuedAt : Question → Type 0
    ValuedAt x = AreValued x.table x.depth (all_of x) list

    pub is_norm : (made : Ty) → made ≡ NormalTy (conjuncts_at (ty_at q.table q.depth) list) → IsNorm names t made
    is_norm made e = record {
      conjuncts = list;
      valued = subst ValuedAt is valued;
      whole = e ∙ ap (λ (x : Question). NormalTy (conjuncts_at (ty_at x.table x.depth) list)) is;
    }

    pub norm_same : (made : Ty) → made ≡ NormalTy (conjuncts_at (ty_at q.table q.depth) list) → (d : Datum) → Up names d made ≡ Up names d t
    norm_same made e d = ap (Up names d) e ∙ (sym (conjuncts d list) ∙ (any_in-valued q.table q.depth d (all_of q) list valued ∙ all_say d))

    pub is_union : (made : Ty) → made ≡ NormalTy (conjuncts_at (ty_at q.table q.depth) (elements q.table q.depth [] list)) → IsElements names t made
    is_union made e = record {
      conjuncts = list;
      valued = subst ValuedAt is valued;
      whole = e ∙ ap (λ (x : Question). NormalTy (conjuncts_at (ty_at x.table x.depth) (elements x.table x.depth [] list))) is;
    }

    pub union_set : (made : Ty) → made ≡ NormalTy (conjuncts_at (ty_at q.table q.depth) (elements q.table q.depth [] list)) → (d : Datum) → (Up names d made ≡ true) ↔ IsItemIn names t d
    union_set made e d =
        let same : Up names d made ≡ any_in (terms.shape_of q.table q.depth d) (elements q.table q.depth [] list) = ap (Up names d) e ∙ sym (conjuncts d (elements q.table q.depth [] list)) in
        let are = elements_are q.table q.depth ranked d (all_of q) list valued in (
          (λ u. let o = are.0 (sym same ∙ u) in (o.0, o.1, sym (all_say (datum.Array o.0)) ∙ o.2)),
          (λ o. same ∙ are.1 (o.0, o.1, all_say (datum.Array o.0) ∙ o.2)),
        )

    pub wide_union : narrow_elements q.table q.depth list ≡ false → IsWideUnion names t
    wide_union e = (list, subst ValuedAt is valued, subst (λ (x : Question). narrow_elements x.table x.depth list ≡ false) is e)

    pub narrow_union : narrow_elements q.table q.depth list ≡ true → IsWideUnion names t → ⊥
    narrow_union e w =
        let other : AreValued q.table q.depth (all_of q) w.0 = subst (λ (x : Question). AreValued x.table x.depth (all_of x) w.0) (sym is) w.1 in
        let wide : narrow_elements q.table q.depth w.0 ≡ false = subst (λ (x : Question). narrow_elements x.table x.depth w.0 ≡ false) (sym is) w.2 in
        let one = valued_one q.table q.depth (all_of q) w.0 list other valued in
        let no : narrow_elements q.table q.depth list ≡ false = subst (λ (l : List (Conjunct ℕ)). narrow_elements q.table q.depth l ≡ false) one wide in
        absurd (cc (e, no))

-- a type has one union of the parts of its arrays
pub union_one : (names : List Declared) (t a b : Ty) → IsElements names t a → IsElements names t b → a ≡ b
union_one names t a b x y =
    let q = numbered names t t in
    let one = valued_one q.table q.depth (all_of q) x.conjuncts y.conjuncts x.valued y.valued in
    x.whole ∙ (ap (λ (l : List (Conjunct ℕ)). NormalTy (conjuncts_at (ty_at q.table q.depth) (elements q.table q.depth [] l))) one ∙ sym y.whole)

pub narrow_items : (names : List Declared) (t : Ty) → (IsWideAbout names t → ⊥) → (IsWideUnion names t → ⊥) → IsWideItems names t → ⊥
narrow_items names t h g (inl w) = h w
narrow_items names t h g (inr w) = g w

pub narrow_element : (names : List Declared) (t union : Ty) → IsElements names t union → (IsWideItems names t → ⊥) → (IsWideAbout names union → ⊥) → IsWideElement names t → ⊥
narrow_element names t union is h g (inl w) = h w
narrow_element names t union is h g (inr w) = g (subst (IsWideAbout names) (union_one names t w.0 union w.1 is) w.2)
