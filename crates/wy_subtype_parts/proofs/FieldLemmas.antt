-- The values at a field of the records in a list of conjuncts are what the union of the field's parts has.
use Rattle.std.proofs.Common.{◌≡◌, ◌↔◌, ℕ, suc, ◌+◌, ◌<◌, List, [], ◌∷◌, length, Bool, true, false, cond, not, ◌&&◌, ◌||◌, ◌⊎◌, inl, inr, Option, Some, None, refl, sym, ap, subst, ◌∙◌, arith}
use Rattle.std.specs.Prelude.{is_some}
use Rattle.std.specs.Str.{bytes_eq}
use Rattle.std.proofs.lemmas.Bool.{or_cases}
use Rattle.wy_lemmas.proofs.Choices.{or_none as or_false, both_false, both_parts as both, or_left, or_right, or_assoc, false_true}
use Rattle.wy_lemmas.proofs.Lists.{bytes_self}
use Rattle.wy_subtype.specs.wy_value.Datum.{Datum, Fields, no_fields, field}
use Rattle.wy_subtype.specs.wy_value.Datum as datum
use Rattle.wy_subtype.specs.wy_value.Values.{names_of}
use Rattle.wy_subtype.specs.wy_types.declared.conjuncts.Signed.{Signed}
use Rattle.wy_subtype.specs.wy_types.declared.conjuncts.Part.{Part}
use Rattle.wy_subtype.specs.wy_types.declared.conjuncts.Atom.{Atom}
use Rattle.wy_subtype.specs.wy_types.declared.conjuncts.Atom.TheVariants as atom
use Rattle.wy_subtype.specs.wy_types.declared.conjuncts.Conjunct.{Conjunct}
use Rattle.wy_subtype.specs.wy_types.declared.table.Table.{Table}
use Rattle.wy_subtype.specs.wy_types.Shape.{RecordShape, part_in, fields_in, atom_in, none_in, conjunct_in, any_in}
use Rattle.wy_subtype.specs.wy_types.Claims.{EachOf}
use Rattle.wy_subtype.specs.wy_types.Membership.{shape_of, field_readers, member}
use Rattle.wy_subtype.specs.wy_types.NodeLaws.{bytes_are, same_term_is}
use Rattle.wy_subtype.specs.wy_types.Ranked.{IsRanked}
use Rattle.wy_subtype.specs.wy_types.Conjuncts.{same_term, dnf_part}
use Rattle.wy_subtype.specs.wy_types.Asks.{HasValue, names_only, ways_from}
use Rattle.wy_subtype.specs.wy_types.Same.{united_conjuncts}
use Rattle.wy_subtype.proofs.wy_types_proofs.OnceLemmas.{any_in-united_conjuncts}
use Rattle.wy_subtype.proofs.wy_types_proofs.RankedLemmas.{has_laws}
use Rattle.wy_subtype.proofs.wy_types_proofs.TermLemmas.{any_in-dnf_part}
use Rattle.wy_subtype.proofs.wy_types_proofs.AskLemmas.{some_fields, ways_from-in, laws_of, name_bound, letters, length-letters, bytes_differ, fresh_name, names_only-in, some_fields-append}
use Rattle.wy_subtype.specs.Valued.{HasDatum, ways_of, all_ways, IsInhabited, AreInhabited}
use Rattle.wy_subtype_parts.specs.Fields.{value_at, has_value_at, has_field, atom_has, all_have, with_value, values_at}

-- the part of the field has it
abbrev pub part_has : (Bool → ℕ → Bool) → List ℕ → List (List ℕ × Part ℕ) → Bool
part_has r f [] = false
part_has r f (x ∷ w) = cond (bytes_eq x.0 f) (part_in r x.1.terms) (part_has r f w)

-- so in one of the ways
abbrev pub ways_have : (Bool → ℕ → Bool) → List ℕ → List (List (List ℕ × Part ℕ)) → Bool
ways_have r f [] = false
ways_have r f (w ∷ ws) = part_has r f w || ways_have r f ws

pub same_datum : (x y : Datum) → Some x ≡ Some y → x ≡ y
same_datum x y e = cc

module _ (table : Table) (k : ℕ) (ranked : (rank : ℕ → ℕ) × IsRanked table rank k) (f : List ℕ) where
  any_in-value : (d : Datum) (made : List (Conjunct ℕ)) (w : List (List ℕ × Part ℕ)) → any_in (shape_of table k d) (with_value table k f made w) ≡ (any_in (shape_of table k d) made || part_has (member table k d) f w)
  any_in-value d made [] = sym (or_false (any_in (shape_of table k d) made))
  any_in-value d made (x ∷ w) = by (bytes_eq x.0 f) (any_in-value d made w)
    where
      by : (b : Bool) → any_in (shape_of table k d) (with_value table k f made w) ≡ (any_in (shape_of table k d) made || part_has (member table k d) f w)
          → any_in (shape_of table k d) (cond b (united_conjuncts same_term made (dnf_part table k x.1.terms)) (with_value table k f made w))
          ≡ (any_in (shape_of table k d) made || cond b (part_in (member table k d) x.1.terms) (part_has (member table k d) f w))
      by true rest =
          any_in-united_conjuncts same_term same_term_is (shape_of table k d) made (dnf_part table k x.1.terms)
          ∙ ap (λ y. any_in (shape_of table k d) made || y) (any_in-dnf_part table k (shape_of table k d) (has_laws table ranked.0 k ranked.1 d) x.1.terms)
      by false rest = rest

  pub any_in-values : (d : Datum) (made : List (Conjunct ℕ)) (ws : List (List (List ℕ × Part ℕ))) → any_in (shape_of table k d) (values_at table k f made ws) ≡ (any_in (shape_of table k d) made || ways_have (member table k d) f ws)
  any_in-values d made [] = sym (or_false (any_in (shape_of table k d) made))
  any_in-values d made (w ∷ ws) =
      any_in-values d (with_value table k f made w) ws
      ∙ (ap (λ x. x || ways_have (member table k d) f ws) (any_in-value d made w) ∙ or_assoc (any_in (shape_of table k d) made) (part_has (member table k d) f w) (ways_have (member table k d) f ws))

  -- ---- a way with values is that of a record with any value of the field's part there

  record_of : (w : List (List ℕ × Part ℕ)) → IsInhabited table k w → (fields : Fields) × (fields_in (names_of fields) (field_readers table k fields) w ≡ true)
  record_of [] h = (no_fields, refl)
  record_of (x ∷ w) h =
      let rest = record_of w h.1 in
      (field x.0 h.0.0 rest.0, rw (bytes_self x.0, h.0.1, rest.1) refl)

  -- a record of the way with the datum at the field
  abbrev HasRecord : Datum → List (List ℕ × Part ℕ) → Type 0
  HasRecord d w = (fields : Fields) × (value_at f fields ≡ Some d) × (fields_in (names_of fields) (field_readers table k fields) w ≡ true)

  record_with : (d : Datum) (w : List (List ℕ × Part ℕ)) → IsInhabited table k w → part_has (member table k d) f w ≡ true → HasRecord d w
  record_with d [] h e = absurd cc
  record_with d (x ∷ w) h e = by (bytes_eq x.0 f) refl e (λ g. record_with d w h.1 g)
    where
      by : (b : Bool) → bytes_eq x.0 f ≡ b → cond b (part_in (member table k d) x.1.terms) (part_has (member table k d) f w) ≡ true → (part_has (member table k d) f w ≡ true → HasRecord d w) → HasRecord d (x ∷ w)
      by true g e rest =
          let r = record_of w h.1 in
          let held : part_in (member table k d) x.1.terms ≡ true = e in
          (field x.0 d r.0, rw g refl, rw (bytes_self x.0, held, r.1) refl)
      by false g e rest =
          let r = rest e in
          (field x.0 h.0.0 r.0, rw g (r.1), rw (bytes_self x.0, h.0.1, r.2) refl)

  -- ---- records in ways and in conjuncts

  abbrev InWays : Datum → List (List (List ℕ × Part ℕ)) → Type 0
  InWays d ws = (fields : Fields) × (value_at f fields ≡ Some d) × (some_fields (names_of fields) (field_readers table k fields) ws ≡ true)

  in_ways : (d : Datum) (ws made : List (List (List ℕ × Part ℕ))) → AreInhabited table k ws made → ways_have (member table k d) f made ≡ true → InWays d ws
  in_ways d [] made h e = false_true (ap (ways_have (member table k d) f) (sym h) ∙ e)
  in_ways d (w ∷ ws) made (inl h) e =
      by (or_cases (part_has (member table k d) f w) (ways_have (member table k d) f h.0) (ap (ways_have (member table k d) f) (sym h.2) ∙ e)) (λ g. in_ways d ws h.0 h.3 g)
    where
      by : (part_has (member table k d) f w ≡ true) ⊎ (ways_have (member table k d) f h.0 ≡ true) → (ways_have (member table k d) f h.0 ≡ true → InWays d ws) → InWays d (w ∷ ws)
      by (inl g) rest = let r = record_with d w h.1 g in (r.0, r.1, or_left (fields_in (names_of r.0) (field_readers table k r.0) w) (some_fields (names_of r.0) (field_readers table k r.0) ws) r.2)
      by (inr g) rest = let r = rest g in (r.0, r.1, or_right (fields_in (names_of r.0) (field_readers table k r.0) w) (some_fields (names_of r.0) (field_readers table k r.0) ws) r.2)
  in_ways d (w ∷ ws) made (inr h) e =
      let r = in_ways d ws made h.1 e in
      (r.0, r.1, or_right (fields_in (names_of r.0) (field_readers table k r.0) w) (some_fields (names_of r.0) (field_readers table k r.0) ws) r.2)

  conjunct_of : (fields : Fields) (a : Atom ℕ) (ns : List (Atom ℕ)) → (let c : Conjunct ℕ = record { positive = a; negatives = ns } in some_fields (names_of fields) (field_readers table k fields) (ways_of table k c) ≡ true)
      → (atom_in (RecordShape (names_of fields) (field_readers table k fields)) a && none_in (RecordShape (names_of fields) (field_readers table k fields)) ns) ≡ true
  conjunct_of fields (atom.Record fs) ns e =
      ap (λ b. b && none_in (RecordShape (names_of fields) (field_readers table k fields)) ns) (sym (or_false (fields_in (names_of fields) (field_readers table k fields) fs)))
      ∙ sym (ways_from-in table k (names_of fields) (field_readers table k fields) (laws_of table ranked.0 k ranked.1 fields) (fs ∷ []) ns)
      ∙ e
  conjunct_of fields atom.Null ns e = false_true e
  conjunct_of fields atom.Bool ns e = false_true e
  conjunct_of fields atom.Int ns e = false_true e
  conjunct_of fields (atom.Array p) ns e = false_true e
  conjunct_of fields atom.AnyRecord ns e = false_true e

  any_of : (fields : Fields) (cs : List (Conjunct ℕ)) → some_fields (names_of fields) (field_readers table k fields) (all_ways table k cs) ≡ true → any_in (RecordShape (names_of fields) (field_readers table k fields)) cs ≡ true
  any_of fields [] e = false_true e
  any_of fields (c ∷ cs) e =
      by (or_cases (some_fields (names_of fields) (field_readers table k fields) (ways_of table k c)) (some_fields (names_of fields) (field_readers table k fields) (all_ways table k cs))
      (sym (some_fields-append (names_of fields) (field_readers table k fields) (ways_of table k c) (all_ways table k cs)) ∙ e))
      (λ g. any_of fields cs g)
    where
      by : (some_fields (names_of fields) (field_readers table k fields) (ways_of table k c) ≡ true) ⊎ (some_fields (names_of fields) (field_readers table k fields) (all_ways table k cs) ≡ true)
          → (some_fields (names_of fields) (field_readers table k fields) (all_ways table k cs) ≡ true → any_in (RecordShape (names_of fields) (field_readers table k fields)) cs ≡ true)
          → any_in (RecordShape (names_of fields) (field_readers table k fields)) (c ∷ cs) ≡ true
      by (inl g) rest =
          or_left (conjunct_in (RecordShape (names_of fields) (field_readers table k fields)) c) (any_in (RecordShape (names_of fields) (field_readers table k fields)) cs) (conjunct_of fields c.positive c.negatives g)
      by (inr g) rest = or_right (conjunct_in (RecordShape (names_of fields) (field_readers table k fields)) c) (any_in (RecordShape (names_of fields) (field_readers table k fields)) cs) (rest g)

  -- ---- and the other way round

  ways_hold : (fields : Fields) (a : Atom ℕ) (ns : List (Atom ℕ)) → atom_has f a ≡ true → (atom_in (RecordShape (names_of fields) (field_readers table k fields)) a && none_in (RecordShape (names_of fields) (field_readers table k fields)) ns) ≡ true
      → (let c : Conjunct ℕ = record { positive = a; negatives = ns } in some_fields (names_of fields) (field_readers table k fields) (ways_of table k c) ≡ true)
  ways_hold fields (atom.Record fs) ns has e =
      ways_from-in table k (names_of fields) (field_readers table k fields) (laws_of table ranked.0 k ranked.1 fields) (fs ∷ []) ns
      ∙ ap (λ b. b && none_in (RecordShape (names_of fields) (field_readers table k fields)) ns) (or_false (fields_in (names_of fields) (field_readers table k fields) fs))
      ∙ e
  ways_hold fields atom.Null ns has e = false_true has
  ways_hold fields atom.Bool ns has e = false_true has
  ways_hold fields atom.Int ns has e = false_true has
  ways_hold fields (atom.Array p) ns has e = false_true has
  ways_hold fields atom.AnyRecord ns has e = false_true has

  some_hold : (fields : Fields) (cs : List (Conjunct ℕ)) → all_have f cs ≡ true → any_in (RecordShape (names_of fields) (field_readers table k fields)) cs ≡ true → some_fields (names_of fields) (field_readers table k fields) (all_ways table k cs) ≡ true
  some_hold fields [] has e = false_true e
  some_hold fields (c ∷ cs) has e =
      some_fields-append (names_of fields) (field_readers table k fields) (ways_of table k c) (all_ways table k cs)
      ∙ by (or_cases (conjunct_in (RecordShape (names_of fields) (field_readers table k fields)) c) (any_in (RecordShape (names_of fields) (field_readers table k fields)) cs) e)
      (both (atom_has f c.positive) (all_have f cs) has)
      (λ h g. some_hold fields cs h g)
    where
      by : (conjunct_in (RecordShape (names_of fields) (field_readers table k fields)) c ≡ true) ⊎ (any_in (RecordShape (names_of fields) (field_readers table k fields)) cs ≡ true) → (atom_has f c.positive ≡ true) × (all_have f cs ≡ true)
          → (all_have f cs ≡ true → any_in (RecordShape (names_of fields) (field_readers table k fields)) cs ≡ true → some_fields (names_of fields) (field_readers table k fields) (all_ways table k cs) ≡ true)
          → (some_fields (names_of fields) (field_readers table k fields) (ways_of table k c) || some_fields (names_of fields) (field_readers table k fields) (all_ways table k cs)) ≡ true
      by (inl g) h rest =
          or_left (some_fields (names_of fields) (field_readers table k fields) (ways_of table k c)) (some_fields (names_of fields) (field_readers table k fields) (all_ways table k cs)) (ways_hold fields c.positive c.negatives h.0 g)
      by (inr g) h rest = or_right (some_fields (names_of fields) (field_readers table k fields) (ways_of table k c)) (some_fields (names_of fields) (field_readers table k fields) (all_ways table k cs)) (rest h.1 g)

  -- the parts of a way that a record is in have values
  inhabited_of : (fields : Fields) (w : List (List ℕ × Part ℕ)) → fields_in (names_of fields) (field_readers table k fields) w ≡ true → IsInhabited table k w
  inhabited_of fields [] e = tt
  inhabited_of no_fields (x ∷ w) e = false_true e
  inhabited_of (field name d rest) (x ∷ w) e =
      let a = both (bytes_eq name x.0) (part_in (member table k d) x.1.terms && fields_in (names_of rest) (field_readers table k rest) w) e in
      let b = both (part_in (member table k d) x.1.terms) (fields_in (names_of rest) (field_readers table k rest) w) a.1 in
      ((d, b.0), inhabited_of rest w b.1)

  -- a record of a way has at the field what is in the field's part
  value_in : (d : Datum) (fields : Fields) (w : List (List ℕ × Part ℕ)) → fields_in (names_of fields) (field_readers table k fields) w ≡ true → value_at f fields ≡ Some d → part_has (member table k d) f w ≡ true
  value_in d no_fields w e v = absurd cc
  value_in d (field name x rest) [] e v = false_true e
  value_in d (field name x rest) (y ∷ w) e v =
      let a = both (bytes_eq name y.0) (part_in (member table k x) y.1.terms && fields_in (names_of rest) (field_readers table k rest) w) e in
      let b = both (part_in (member table k x) y.1.terms) (fields_in (names_of rest) (field_readers table k rest) w) a.1 in
      by (bytes_eq y.0 f) (ap (λ n. bytes_eq n f) (bytes_are name y.0 a.0)) v b.0 (λ g. value_in d rest w b.1 g)
    where
      by : (b : Bool) → bytes_eq name f ≡ b → cond (bytes_eq name f) (Some x) (value_at f rest) ≡ Some d → part_in (member table k x) y.1.terms ≡ true → (value_at f rest ≡ Some d → part_has (member table k d) f w ≡ true)
          → cond b (part_in (member table k d) y.1.terms) (part_has (member table k d) f w) ≡ true
      by true g v held later = let is : x ≡ d = same_datum x d (ap (λ b. cond b (Some x) (value_at f rest)) (sym g) ∙ v) in subst (λ (z : Datum). part_in (member table k z) y.1.terms ≡ true) is held
      by false g v held later = later (ap (λ b. cond b (Some x) (value_at f rest)) (sym g) ∙ v)

  of_ways : (d : Datum) (fields : Fields) (ws made : List (List (List ℕ × Part ℕ))) → AreInhabited table k ws made → value_at f fields ≡ Some d → some_fields (names_of fields) (field_readers table k fields) ws ≡ true → ways_have (member table k d) f made ≡ true
  of_ways d fields [] made h v e = false_true e
  of_ways d fields (w ∷ ws) made (inl h) v e =
      ap (ways_have (member table k d) f) h.2
      ∙ by (or_cases (fields_in (names_of fields) (field_readers table k fields) w) (some_fields (names_of fields) (field_readers table k fields) ws) e) (λ g. of_ways d fields ws h.0 h.3 v g)
    where
      by : (fields_in (names_of fields) (field_readers table k fields) w ≡ true) ⊎ (some_fields (names_of fields) (field_readers table k fields) ws ≡ true)
          → (some_fields (names_of fields) (field_readers table k fields) ws ≡ true → ways_have (member table k d) f h.0 ≡ true) → (part_has (member table k d) f w || ways_have (member table k d) f h.0) ≡ true
      by (inl g) rest = or_left (part_has (member table k d) f w) (ways_have (member table k d) f h.0) (value_in d fields w g v)
      by (inr g) rest = or_right (part_has (member table k d) f w) (ways_have (member table k d) f h.0) (rest g)
  of_ways d fields (w ∷ ws) made (inr h) v e = by (or_cases (fields_in (names_of fields) (field_readers table k fields) w) (some_fields (names_of fields) (field_readers table k fields) ws) e) (λ g. of_ways d fields ws made h.1 v g)
    where
      by : (fields_in (names_of fields) (field_readers table k fields) w ≡ true) ⊎ (some_fields (names_of fields) (field_readers table k fields) ws ≡ true)
          → (some_fields (names_of fields) (field_readers table k fields) ws ≡ true → ways_have (member table k d) f made ≡ true) → ways_have (member table k d) f made ≡ true
      by (inl g) rest = absurd (h.0 (inhabited_of fields w g))
      by (inr g) rest = rest g

  -- ---- the union of the parts has exactly the values

  abbrev pub HasValueAt : Datum → List (Conjunct ℕ) → Type 0
  HasValueAt d cs = (fields : Fields) × (value_at f fields ≡ Some d) × (any_in (shape_of table k (datum.Record fields)) cs ≡ true)

  pub values_are : (d : Datum) (cs : List (Conjunct ℕ)) (ways : List (List (List ℕ × Part ℕ))) → AreInhabited table k (all_ways table k cs) ways → all_have f cs ≡ true → (any_in (shape_of table k d) (values_at table k f [] ways) ≡ true) ↔ HasValueAt d cs
  values_are d cs ways h has = (
    (λ e. let o = in_ways d (all_ways table k cs) ways h (sym (any_in-values d [] ways) ∙ e) in (o.0, o.1, any_of o.0 cs o.2)),
    (λ o. any_in-values d [] ways ∙ of_ways d o.0 (all_ways table k cs) ways h o.1 (some_hold o.0 cs has o.2)),
  )

  -- ---- which values have the field

  same_field : (fields : Fields) (w : List (List ℕ × Part ℕ)) → fields_in (names_of fields) (field_readers table k fields) w ≡ true → is_some (value_at f fields) ≡ has_field f w
  same_field no_fields [] e = refl
  same_field no_fields (y ∷ w) e = false_true e
  same_field (field name x rest) [] e = false_true e
  same_field (field name x rest) (y ∷ w) e =
      let a = both (bytes_eq name y.0) (part_in (member table k x) y.1.terms && fields_in (names_of rest) (field_readers table k rest) w) e in
      let b = both (part_in (member table k x) y.1.terms) (fields_in (names_of rest) (field_readers table k rest) w) a.1 in
      ap (λ n. is_some (cond (bytes_eq n f) (Some x) (value_at f rest))) (bytes_are name y.0 a.0) ∙ by (bytes_eq y.0 f) (same_field rest w b.1)
    where
      by : (b : Bool) → is_some (value_at f rest) ≡ has_field f w → is_some (cond b (Some x) (value_at f rest)) ≡ (b || has_field f w)
      by true e = refl
      by false e = e

  atom_field : (d : Datum) (a : Atom ℕ) → atom_has f a ≡ true → atom_in (shape_of table k d) a ≡ true → has_value_at f d ≡ true
  atom_field (datum.Record fields) (atom.Record fs) has e = same_field fields fs e ∙ has
  atom_field datum.Null (atom.Record fs) has e = false_true e
  atom_field (datum.Truth b) (atom.Record fs) has e = false_true e
  atom_field (datum.Whole z) (atom.Record fs) has e = false_true e
  atom_field (datum.Array items) (atom.Record fs) has e = false_true e
  atom_field d atom.Null has e = false_true has
  atom_field d atom.Bool has e = false_true has
  atom_field d atom.Int has e = false_true has
  atom_field d (atom.Array p) has e = false_true has
  atom_field d atom.AnyRecord has e = false_true has

  pub all_fields : (d : Datum) (cs : List (Conjunct ℕ)) → all_have f cs ≡ true → any_in (shape_of table k d) cs ≡ true → has_value_at f d ≡ true
  all_fields d [] has e = false_true e
  all_fields d (c ∷ cs) has e = by (both (atom_has f c.positive) (all_have f cs) has) (or_cases (conjunct_in (shape_of table k d) c) (any_in (shape_of table k d) cs) e) (λ h g. all_fields d cs h g)
    where
      by : (atom_has f c.positive ≡ true) × (all_have f cs ≡ true) → (conjunct_in (shape_of table k d) c ≡ true) ⊎ (any_in (shape_of table k d) cs ≡ true)
          → (all_have f cs ≡ true → any_in (shape_of table k d) cs ≡ true → has_value_at f d ≡ true) → has_value_at f d ≡ true
      by h (inl g) rest = atom_field d c.positive h.0 (both (atom_in (shape_of table k d) c.positive) (none_in (shape_of table k d) c.negatives) g).0
      by h (inr g) rest = rest h.1 g

  -- ---- a conjunct that isn't of records with the field has a value without it

  abbrev HasOther : Atom ℕ → List (Atom ℕ) → Type 0
  HasOther a ns = (d : Datum) × (has_value_at f d ≡ false) × ((atom_in (shape_of table k d) a && none_in (shape_of table k d) ns) ≡ true)

  no_record : (d : Datum) (a : Atom ℕ) (ns : List (Atom ℕ)) → ((fields : Fields) → atom_in (shape_of table k (datum.Record fields)) a ≡ true → ⊥) → (atom_in (shape_of table k d) a && none_in (shape_of table k d) ns) ≡ true → HasOther a ns
  no_record (datum.Record fields) a ns lacks e = absurd (lacks fields (both (atom_in (shape_of table k (datum.Record fields)) a) (none_in (shape_of table k (datum.Record fields)) ns) e).0)
  no_record datum.Null a ns lacks e = (datum.Null, refl, e)
  no_record (datum.Truth b) a ns lacks e = (datum.Truth b, refl, e)
  no_record (datum.Whole z) a ns lacks e = (datum.Whole z, refl, e)
  no_record (datum.Array items) a ns lacks e = (datum.Array items, refl, e)

  other_record : (d : Datum) (fs : List (List ℕ × Part ℕ)) (ns : List (Atom ℕ)) → has_field f fs ≡ false → (atom_in (shape_of table k d) (atom.Record fs) && none_in (shape_of table k d) ns) ≡ true → HasOther (atom.Record fs) ns
  other_record (datum.Record fields) fs ns lacks e =
      (datum.Record fields, same_field fields fs (both (fields_in (names_of fields) (field_readers table k fields) fs) (none_in (shape_of table k (datum.Record fields)) ns) e).0 ∙ lacks, e)
  other_record datum.Null fs ns lacks e = false_true e
  other_record (datum.Truth b) fs ns lacks e = false_true e
  other_record (datum.Whole z) fs ns lacks e = false_true e
  other_record (datum.Array items) fs ns lacks e = false_true e

  fresh_record : (d : Datum) (ns : List (Atom ℕ)) → (atom_in (shape_of table k d) atom.AnyRecord && none_in (shape_of table k d) ns) ≡ true → HasOther atom.AnyRecord ns
  fresh_record (datum.Record fields) ns e =
      let x : List ℕ = letters (suc (name_bound ns + length f)) in
      let size : length x ≡ suc (name_bound ns + length f) = length-letters (suc (name_bound ns + length f)) in
      let long : name_bound ns < length x = omega (arith, size) in
      let other : length f < length x = omega (arith, size) in
      let only = names_only-in (names_of fields) (field_readers table k fields) ns e in
      (datum.Record (field x datum.Null no_fields), rw (bytes_differ x f other) refl, fresh_name x (member table k datum.Null) ns long only)
  fresh_record datum.Null ns e = false_true e
  fresh_record (datum.Truth b) ns e = false_true e
  fresh_record (datum.Whole z) ns e = false_true e
  fresh_record (datum.Array items) ns e = false_true e

  has_other : (d : Datum) (a : Atom ℕ) (ns : List (Atom ℕ)) → atom_has f a ≡ false → (atom_in (shape_of table k d) a && none_in (shape_of table k d) ns) ≡ true → HasOther a ns
  has_other d atom.Null ns lacks e = no_record d atom.Null ns (λ fields h. false_true h) e
  has_other d atom.Bool ns lacks e = no_record d atom.Bool ns (λ fields h. false_true h) e
  has_other d atom.Int ns lacks e = no_record d atom.Int ns (λ fields h. false_true h) e
  has_other d (atom.Array p) ns lacks e = no_record d (atom.Array p) ns (λ fields h. false_true h) e
  has_other d (atom.Record fs) ns lacks e = other_record d fs ns lacks e
  has_other d atom.AnyRecord ns lacks e = fresh_record d ns e

  abbrev pub SomeOther : List (Conjunct ℕ) → Type 0
  SomeOther cs = (d : Datum) × (has_value_at f d ≡ false) × (any_in (shape_of table k d) cs ≡ true)

  pub some_other : (cs : List (Conjunct ℕ)) → EachOf (HasDatum table k) cs → all_have f cs ≡ false → SomeOther cs
  some_other [] h e = absurd cc
  some_other (c ∷ cs) h e = by (both_false (atom_has f c.positive) (all_have f cs) e) (λ g. some_other cs h.1 g)
    where
      by : (atom_has f c.positive ≡ false) ⊎ (all_have f cs ≡ false) → (all_have f cs ≡ false → SomeOther cs) → SomeOther (c ∷ cs)
      by (inl g) rest = let o = has_other h.0.0 c.positive c.negatives g h.0.1 in (o.0, o.1, or_left (conjunct_in (shape_of table k o.0) c) (any_in (shape_of table k o.0) cs) o.2)
      by (inr g) rest = let o = rest g in (o.0, o.1, or_right (conjunct_in (shape_of table k o.0) c) (any_in (shape_of table k o.0) cs) o.2)
