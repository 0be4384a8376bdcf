-- The items of arrays in a list of conjuncts are what the union of the parts of its arrays has.
use Rattle.std.proofs.Common.{◌≡◌, ◌↔◌, ℕ, List, [], ◌∷◌, Bool, true, false, ◌&&◌, ◌||◌, ◌⊎◌, inl, inr, refl, sym, ap, subst, ◌∙◌}
use Rattle.std.proofs.lemmas.Bool.{or_cases}
use Rattle.wy_lemmas.proofs.Choices.{or_none as or_false, both_parts as both, or_left, both_true as two_true, or_right, or_assoc}
use Rattle.wy_subtype.specs.wy_types.NodeLaws.{same_term_is}
use Rattle.wy_subtype.specs.wy_value.Datum.{Datum, Data, no_items, item}
use Rattle.wy_subtype.specs.wy_value.Datum as datum
use Rattle.wy_subtype.specs.wy_types.declared.conjuncts.Signed.{Signed}
use Rattle.wy_subtype.specs.wy_types.declared.conjuncts.Atom.{Atom}
use Rattle.wy_subtype.specs.wy_types.declared.conjuncts.Atom.TheVariants as atom
use Rattle.wy_subtype.specs.wy_types.declared.conjuncts.Conjunct.{Conjunct}
use Rattle.wy_subtype.specs.wy_types.declared.table.Table.{Table}
use Rattle.wy_subtype.specs.wy_types.Shape.{part_in, each_in, atom_in, none_in, conjunct_in, any_in}
use Rattle.wy_subtype.specs.wy_types.Claims.{EachOf}
use Rattle.wy_subtype.specs.wy_types.Membership.{shape_of, item_readers, member}
use Rattle.wy_subtype.specs.wy_types.Ranked.{IsRanked}
use Rattle.wy_subtype.specs.wy_types.Conjuncts.{same_term, dnf_part}
use Rattle.wy_subtype.proofs.wy_types_proofs.OnceLemmas.{any_in-united_conjuncts}
use Rattle.wy_subtype.proofs.wy_types_proofs.RankedLemmas.{has_laws}
use Rattle.wy_subtype.proofs.wy_types_proofs.TermLemmas.{any_in-dnf_part}
use Rattle.wy_subtype.proofs.wy_types_proofs.AskLemmas.{none_in-more}
use Rattle.wy_subtype.specs.Valued.{HasDatum, AreValued}
use Rattle.wy_subtype_parts.specs.Items.{with_items, elements, IsItem}
use Rattle.wy_subtype.proofs.ValuedLemmas.{any_in-valued, valued_have}

-- is in the part of an array
abbrev pub atom_element : (Bool → ℕ → Bool) → Atom ℕ → Bool
atom_element r (atom.Array p) = part_in r p.terms
atom_element r _ = false

-- is in the part of one of the arrays
abbrev pub element_in : (Bool → ℕ → Bool) → List (Conjunct ℕ) → Bool
element_in r [] = false
element_in r (c ∷ cs) = atom_element r c.positive || element_in r cs

module _ (table : Table) (k : ℕ) (ranked : (rank : ℕ → ℕ) × IsRanked table rank k) where
  any_in-items : (d : Datum) (made : List (Conjunct ℕ)) (a : Atom ℕ) → any_in (shape_of table k d) (with_items table k made a) ≡ (any_in (shape_of table k d) made || atom_element (member table k d) a)
  any_in-items d made (atom.Array p) =
      any_in-united_conjuncts same_term same_term_is (shape_of table k d) made (dnf_part table k p.terms)
      ∙ ap (λ x. any_in (shape_of table k d) made || x) (any_in-dnf_part table k (shape_of table k d) (has_laws table ranked.0 k ranked.1 d) p.terms)
  any_in-items d made atom.Null = sym (or_false (any_in (shape_of table k d) made))
  any_in-items d made atom.Bool = sym (or_false (any_in (shape_of table k d) made))
  any_in-items d made atom.Int = sym (or_false (any_in (shape_of table k d) made))
  any_in-items d made (atom.Record fs) = sym (or_false (any_in (shape_of table k d) made))
  any_in-items d made atom.AnyRecord = sym (or_false (any_in (shape_of table k d) made))

  pub any_in-elements : (d : Datum) (made cs : List (Conjunct ℕ)) → any_in (shape_of table k d) (elements table k made cs) ≡ (any_in (shape_of table k d) made || element_in (member table k d) cs)
  any_in-elements d made [] = sym (or_false (any_in (shape_of table k d) made))
  any_in-elements d made (c ∷ cs) =
      any_in-elements d (with_items table k made c.positive) cs
      ∙ (ap (λ x. x || element_in (member table k d) cs) (any_in-items d made c.positive) ∙ or_assoc (any_in (shape_of table k d) made) (atom_element (member table k d) c.positive) (element_in (member table k d) cs))

  -- ---- an item of an array that has a value is an item of some array in it

  abbrev InSome : Datum → List (Conjunct ℕ) → Type 0
  InSome d cs = (items : Data) × IsItem d items × (any_in (shape_of table k (datum.Array items)) cs ≡ true)

  one_more : (d x : Datum) (a : Atom ℕ) (ns : List (Atom ℕ)) → atom_element (member table k d) a ≡ true → atom_in (shape_of table k x) a ≡ true → none_in (shape_of table k x) ns ≡ true
      → (items : Data) × IsItem d items × ((atom_in (shape_of table k (datum.Array items)) a && none_in (shape_of table k (datum.Array items)) ns) ≡ true)
  one_more d (datum.Array items) (atom.Array p) ns e f g = (
    item d items,
    inl refl,
    two_true _ _ (two_true (part_in (member table k d) p.terms) (each_in (item_readers table k items) p.terms) e f) (none_in-more (member table k d) (item_readers table k items) ns g),
  )
  one_more d datum.Null (atom.Array p) ns e f g = absurd cc
  one_more d (datum.Truth b) (atom.Array p) ns e f g = absurd cc
  one_more d (datum.Whole z) (atom.Array p) ns e f g = absurd cc
  one_more d (datum.Record fields) (atom.Array p) ns e f g = absurd cc
  one_more d x atom.Null ns e f g = absurd cc
  one_more d x atom.Bool ns e f g = absurd cc
  one_more d x atom.Int ns e f g = absurd cc
  one_more d x (atom.Record fs) ns e f g = absurd cc
  one_more d x atom.AnyRecord ns e f g = absurd cc

  items_of : (d : Datum) (cs : List (Conjunct ℕ)) → EachOf (HasDatum table k) cs → element_in (member table k d) cs ≡ true → InSome d cs
  items_of d [] h e = absurd cc
  items_of d (c ∷ cs) h e = by (or_cases (atom_element (member table k d) c.positive) (element_in (member table k d) cs) e) (λ f. items_of d cs h.1 f)
    where
      by : (atom_element (member table k d) c.positive ≡ true) ⊎ (element_in (member table k d) cs ≡ true) → (element_in (member table k d) cs ≡ true → InSome d cs) → InSome d (c ∷ cs)
      by (inl f) rest =
          let g = both (atom_in (shape_of table k h.0.0) c.positive) (none_in (shape_of table k h.0.0) c.negatives) h.0.1 in
          let o = one_more d h.0.0 c.positive c.negatives f g.0 g.1 in
          (o.0, o.1, or_left (conjunct_in (shape_of table k (datum.Array o.0)) c) (any_in (shape_of table k (datum.Array o.0)) cs) o.2)
      by (inr f) rest = let o = rest f in (o.0, o.1, or_right (conjunct_in (shape_of table k (datum.Array o.0)) c) (any_in (shape_of table k (datum.Array o.0)) cs) o.2)

  -- ---- and the other way round

  item_in : (d : Datum) (items : Data) (p : List (Signed ℕ)) → IsItem d items → each_in (item_readers table k items) p ≡ true → part_in (member table k d) p ≡ true
  item_in d no_items p h e = absurd h
  item_in d (item x rest) p (inl h) e = subst (λ (y : Datum). part_in (member table k y) p ≡ true) h (both (part_in (member table k x) p) (each_in (item_readers table k rest) p) e).0
  item_in d (item x rest) p (inr h) e = item_in d rest p h (both (part_in (member table k x) p) (each_in (item_readers table k rest) p) e).1

  one_item : (d : Datum) (items : Data) (a : Atom ℕ) → IsItem d items → atom_in (shape_of table k (datum.Array items)) a ≡ true → atom_element (member table k d) a ≡ true
  one_item d items (atom.Array p) h e = item_in d items p.terms h e
  one_item d items atom.Null h e = absurd cc
  one_item d items atom.Bool h e = absurd cc
  one_item d items atom.Int h e = absurd cc
  one_item d items (atom.Record fs) h e = absurd cc
  one_item d items atom.AnyRecord h e = absurd cc

  pub of_items : (d : Datum) (items : Data) (cs : List (Conjunct ℕ)) → IsItem d items → any_in (shape_of table k (datum.Array items)) cs ≡ true → element_in (member table k d) cs ≡ true
  of_items d items [] h e = absurd cc
  of_items d items (c ∷ cs) h e = by (or_cases (conjunct_in (shape_of table k (datum.Array items)) c) (any_in (shape_of table k (datum.Array items)) cs) e) (λ f. of_items d items cs h f)
    where
      by : (conjunct_in (shape_of table k (datum.Array items)) c ≡ true) ⊎ (any_in (shape_of table k (datum.Array items)) cs ≡ true) → (any_in (shape_of table k (datum.Array items)) cs ≡ true → element_in (member table k d) cs ≡ true)
          → (atom_element (member table k d) c.positive || element_in (member table k d) cs) ≡ true
      by (inl f) rest =
          or_left (atom_element (member table k d) c.positive) (element_in (member table k d) cs)
          (one_item d items c.positive h (both (atom_in (shape_of table k (datum.Array items)) c.positive) (none_in (shape_of table k (datum.Array items)) c.negatives) f).0)
      by (inr f) rest = or_right (atom_element (member table k d) c.positive) (element_in (member table k d) cs) (rest f)

  -- ---- the union of the parts has exactly the items

  pub elements_are : (d : Datum) (cs made : List (Conjunct ℕ)) → AreValued table k cs made → (any_in (shape_of table k d) (elements table k [] made) ≡ true) ↔ InSome d cs
  elements_are d cs made valued = (
    (λ e. let o = items_of d made (valued_have table k cs made valued) (sym (any_in-elements d [] made) ∙ e) in (o.0, o.1, sym (any_in-valued table k (datum.Array o.0) cs made valued) ∙ o.2)),
    (λ o. any_in-elements d [] made ∙ of_items d o.0 made o.1 (any_in-valued table k (datum.Array o.0) cs made valued ∙ o.2)),
  )
