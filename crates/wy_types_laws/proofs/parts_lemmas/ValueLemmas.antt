-- The values at a field of the records in a type are in the union of the field's parts.
use Rattle.std.proofs.Common.{◌≡◌, ◌∙◌, ℕ, List, [], ◌∷◌, Bool, true, false, cond, ◌&&◌, ◌||◌, ◌⊎◌, inl, inr, Option, Some, None, sym, ap, subst}
use Rattle.std.specs.Str.{bytes_eq}
use Rattle.std.proofs.lemmas.Bool.{or_cases}
use Rattle.wy_lemmas.proofs.Choices.{or_none as or_false, both_parts as both, or_left, or_right, or_assoc, false_true}
use Rattle.wy_subtype_parts.proofs.FieldLemmas.{part_has, same_datum, ways_have, any_in-values}
use Rattle.wy_value.specs.Datum.{Datum, Fields, no_fields, field}
use Rattle.wy_value.specs.Datum as datum
use Rattle.wy_value.specs.Values.{names_of}
use Rattle.wy_core.specs.Types.{Ty}
use Rattle.wy_types.specs.declared.conjuncts.Part.{Part}
use Rattle.wy_types.specs.declared.conjuncts.Atom.{Atom}
use Rattle.wy_types.specs.declared.conjuncts.Atom.TheVariants as atom
use Rattle.wy_types.specs.declared.conjuncts.Conjunct.{Conjunct}
use Rattle.wy_types.specs.declared.table.Table.{Table}
use Rattle.wy_types.specs.Names.{Declared, Up}
use Rattle.wy_types.specs.Recursion.{RecurThroughParts}
use Rattle.wy_types.specs.Shape.{RecordShape, part_in, fields_in, atom_in, none_in, conjunct_in, any_in}
use Rattle.wy_types.specs.Membership.{shape_of, field_readers, member}
use Rattle.wy_types.specs.NodeLaws.{bytes_are, same_term_is}
use Rattle.wy_types.specs.Ranked.{IsRanked}
use Rattle.wy_types.specs.Conjuncts.{same_term, dnf_part}
use Rattle.wy_types.specs.Same.{united_conjuncts}
use Rattle.wy_types.proofs.OnceLemmas.{any_in-united_conjuncts}
use Rattle.wy_types.proofs.RankedLemmas.{has_laws}
use Rattle.wy_types.proofs.TermLemmas.{any_in-dnf_part}
use Rattle.wy_types.proofs.AskLemmas.{some_fields, ways_from-in, laws_of, some_fields-append}
use Rattle.wy_subtype_parts.specs.wy_subtype.Valued.{ways_of, all_ways, IsInhabited, AreInhabited}
use Rattle.wy_subtype_parts.specs.Fields.{value_at, atom_has, all_have, with_value, values_at, IsUnion, IsValueIn}
use Rattle.wy_types_laws.specs.parts.Parts.{ValuesAreIn}
use Rattle.wy_types_laws.proofs.parts_lemmas.NormLemmas.{asked, ranked, they_say, reads, norms_same}

module _ (table : Table) (k : ℕ) (ranks : (rank : ℕ → ℕ) × IsRanked table rank k) (f : List ℕ) where
  ways_hold : (row : Fields) (a : Atom ℕ) (ns : List (Atom ℕ)) → atom_has f a ≡ true → (atom_in (RecordShape (names_of row) (field_readers table k row)) a && none_in (RecordShape (names_of row) (field_readers table k row)) ns) ≡ true
      → (let c : Conjunct ℕ = record { positive = a; negatives = ns } in some_fields (names_of row) (field_readers table k row) (ways_of table k c) ≡ true)
  ways_hold row (atom.Record fs) ns has e =
      ways_from-in table k (names_of row) (field_readers table k row) (laws_of table ranks.0 k ranks.1 row) (fs ∷ []) ns
      ∙ ap (λ b. b && none_in (RecordShape (names_of row) (field_readers table k row)) ns) (or_false (fields_in (names_of row) (field_readers table k row) fs))
      ∙ e
  ways_hold row atom.Null ns has e = false_true has
  ways_hold row atom.Bool ns has e = false_true has
  ways_hold row atom.Int ns has e = false_true has
  ways_hold row (atom.Array p) ns has e = false_true has
  ways_hold row atom.AnyRecord ns has e = false_true has

  pub some_hold : (row : Fields) (cs : List (Conjunct ℕ)) → all_have f cs ≡ true → any_in (RecordShape (names_of row) (field_readers table k row)) cs ≡ true → some_fields (names_of row) (field_readers table k row) (all_ways table k cs) ≡ true
  some_hold row [] has e = false_true e
  some_hold row (c ∷ cs) has e =
      some_fields-append (names_of row) (field_readers table k row) (ways_of table k c) (all_ways table k cs)
      ∙ by (or_cases (conjunct_in (RecordShape (names_of row) (field_readers table k row)) c) (any_in (RecordShape (names_of row) (field_readers table k row)) cs) e)
      (both (atom_has f c.positive) (all_have f cs) has)
      (λ h g. some_hold row cs h g)
    where
      by : (conjunct_in (RecordShape (names_of row) (field_readers table k row)) c ≡ true) ⊎ (any_in (RecordShape (names_of row) (field_readers table k row)) cs ≡ true) → (atom_has f c.positive ≡ true) × (all_have f cs ≡ true)
          → (all_have f cs ≡ true → any_in (RecordShape (names_of row) (field_readers table k row)) cs ≡ true → some_fields (names_of row) (field_readers table k row) (all_ways table k cs) ≡ true)
          → (some_fields (names_of row) (field_readers table k row) (ways_of table k c) || some_fields (names_of row) (field_readers table k row) (all_ways table k cs)) ≡ true
      by (inl g) h rest =
          or_left (some_fields (names_of row) (field_readers table k row) (ways_of table k c)) (some_fields (names_of row) (field_readers table k row) (all_ways table k cs)) (ways_hold row c.positive c.negatives h.0 g)
      by (inr g) h rest = or_right (some_fields (names_of row) (field_readers table k row) (ways_of table k c)) (some_fields (names_of row) (field_readers table k row) (all_ways table k cs)) (rest h.1 g)

  -- the parts of a way that a record is in have values
  inhabited_of : (row : Fields) (w : List (List ℕ × Part ℕ)) → fields_in (names_of row) (field_readers table k row) w ≡ true → IsInhabited table k w
  inhabited_of row [] e = tt
  inhabited_of no_fields (x ∷ w) e = false_true e
  inhabited_of (field name d rest) (x ∷ w) e =
      let a = both (bytes_eq name x.0) (part_in (member table k d) x.1.terms && fields_in (names_of rest) (field_readers table k rest) w) e in
      let b = both (part_in (member table k d) x.1.terms) (fields_in (names_of rest) (field_readers table k rest) w) a.1 in
      ((d, b.0), inhabited_of rest w b.1)

  -- a record of a way has at the field what is in the field's part
  value_in : (d : Datum) (row : Fields) (w : List (List ℕ × Part ℕ)) → fields_in (names_of row) (field_readers table k row) w ≡ true → value_at f row ≡ Some d → part_has (member table k d) f w ≡ true
  value_in d no_fields w e v = absurd cc
  value_in d (field name x rest) [] e v = false_true e
  value_in d (field name x rest) (y ∷ w) e v =
      let a = both (bytes_eq name y.0) (part_in (member table k x) y.1.terms && fields_in (names_of rest) (field_readers table k rest) w) e in
      let b = both (part_in (member table k x) y.1.terms) (fields_in (names_of rest) (field_readers table k rest) w) a.1 in
      by (bytes_eq y.0 f) (ap (λ n. bytes_eq n f) (bytes_are name y.0 a.0)) v b.0 (λ g. value_in d rest w b.1 g)
    where
      by : (b : Bool) → bytes_eq name f ≡ b → cond (bytes_eq name f) (Some x) (value_at f rest) ≡ Some d → part_in (member table k x) y.1.terms ≡ true → (value_at f rest ≡ Some d → part_has (member table k d) f w ≡ true)
          → cond b (part_in (member table k d) y.1.terms) (part_has (member table k d) f w) ≡ true
      by true g v held later = let is : x ≡ d = same_datum x d (ap (λ b. cond b (Some x) (value_at f rest)) (sym g) ∙ v) in subst (λ (z : Datum). part_in (member table k z) y.1.terms ≡ true) is held
      by false g v held later = later (ap (λ b. cond b (Some x) (value_at f rest)) (sym g) ∙ v)

  of_ways : (d : Datum) (row : Fields) (ws made : List (List (List ℕ × Part ℕ))) → AreInhabited table k ws made → value_at f row ≡ Some d → some_fields (names_of row) (field_readers table k row) ws ≡ true → ways_have (member table k d) f made ≡ true
  of_ways d row [] made h v e = false_true e
  of_ways d row (w ∷ ws) made (inl h) v e =
      ap (ways_have (member table k d) f) h.2
      ∙ by (or_cases (fields_in (names_of row) (field_readers table k row) w) (some_fields (names_of row) (field_readers table k row) ws) e) (λ g. of_ways d row ws h.0 h.3 v g)
    where
      by : (fields_in (names_of row) (field_readers table k row) w ≡ true) ⊎ (some_fields (names_of row) (field_readers table k row) ws ≡ true)
          → (some_fields (names_of row) (field_readers table k row) ws ≡ true → ways_have (member table k d) f h.0 ≡ true) → (part_has (member table k d) f w || ways_have (member table k d) f h.0) ≡ true
      by (inl g) rest = or_left (part_has (member table k d) f w) (ways_have (member table k d) f h.0) (value_in d row w g v)
      by (inr g) rest = or_right (part_has (member table k d) f w) (ways_have (member table k d) f h.0) (rest g)
  of_ways d row (w ∷ ws) made (inr h) v e = by (or_cases (fields_in (names_of row) (field_readers table k row) w) (some_fields (names_of row) (field_readers table k row) ws) e) (λ g. of_ways d row ws made h.1 v g)
    where
      by : (fields_in (names_of row) (field_readers table k row) w ≡ true) ⊎ (some_fields (names_of row) (field_readers table k row) ws ≡ true)
          → (some_fields (names_of row) (field_readers table k row) ws ≡ true → ways_have (member table k d) f made ≡ true) → ways_have (member table k d) f made ≡ true
      by (inl g) rest = absurd (h.0 (inhabited_of row w g))
      by (inr g) rest = rest g

  -- a value at the field of a record of the conjuncts is in the union of the field's parts
  pub value_of_union : (d : Datum) (row : Fields) (cs : List (Conjunct ℕ)) (ways : List (List (List ℕ × Part ℕ))) → AreInhabited table k (all_ways table k cs) ways → all_have f cs ≡ true → value_at f row ≡ Some d
      → any_in (shape_of table k (datum.Record row)) cs ≡ true → any_in (shape_of table k d) (values_at table k f [] ways) ≡ true
  value_of_union d row cs ways h has v e = any_in-values table k ranks f d [] ways ∙ of_ways d row (all_ways table k cs) ways h v (some_hold row cs has e)

union_has : (names : List Declared) (recur : RecurThroughParts names) (f : List ℕ) (t union : Ty) → IsUnion names f t union → (d : Datum) → IsValueIn names f t d → Up names d union ≡ true
union_has names recur f t union is d o =
    let q = asked names recur t in
    ap (Up names d) is.whole
    ∙ (reads names recur t d (values_at q.table q.depth f [] is.found.ways)
    ∙ value_of_union q.table q.depth (ranked names recur t) f d o.0 is.found.conjuncts is.found.ways is.parts.those.ways is.parts.whole o.1
    (they_say names recur t is.found.conjuncts is.parts.those.conjuncts (datum.Record o.0) ∙ o.2))

pub values_are_in : ValuesAreIn
values_are_in names recur f t made is d o = norms_same names recur is.0 made is.2 d ∙ union_has names recur f t is.0 is.1 d o
