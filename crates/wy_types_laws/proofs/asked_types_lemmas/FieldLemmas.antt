-- Fields of values: where some datum in a part is no record with a field, some value isn't; where each is, a value at the field of one of its records is there in a record of the language in it.
use Rattle.std.proofs.Common.{◌≡◌, ℕ, pos, List, [], ◌∷◌, Bool, true, false, cond, ◌&&◌, ◌||◌, Some, None, refl, sym, ap, ◌∙◌, subst, inl, inr}
use Rattle.std.specs.Prelude.{is_some}
use Rattle.std.specs.Str.{bytes_eq}
use Rattle.wy_data.specs.Words.{IsName}
use Rattle.wy_lemmas.proofs.Choices.{or_none as or_false, or_true, both_parts as both, both_true as two_true}
use Rattle.wy_value.specs.Datum.{Datum, Data, Fields, no_items, item, no_fields, field}
use Rattle.wy_value.specs.Datum as datum
use Rattle.wy_value.specs.Values.{IsValue, AreValueFields, names_of}
use Rattle.wy_types.specs.declared.conjuncts.Signed.{Signed}
use Rattle.wy_types.specs.declared.conjuncts.Part.{Part}
use Rattle.wy_types.specs.declared.conjuncts.Atom.{Atom}
use Rattle.wy_types.specs.declared.conjuncts.Atom.TheVariants as atom
use Rattle.wy_types.specs.declared.conjuncts.Conjunct.{Conjunct}
use Rattle.wy_types.specs.declared.table.Table.{Table}
use Rattle.wy_types.specs.Shape.{ArrayShape, RecordShape, part_in, fields_in, atom_in, none_in, conjunct_in}
use Rattle.wy_types.specs.Claims.{SomeOf, EachOf, IsIn}
use Rattle.wy_types.specs.Membership.{shape_of, item_readers, field_readers, member}
use Rattle.wy_types.specs.Ranked.{IsRanked}
use Rattle.wy_types.specs.Conjuncts.{dnf_part}
use Rattle.wy_types.specs.NodeLaws.{bytes_are}
use Rattle.wy_types.specs.Asks.{alone, all_alone, ways_from, options_of}
use Rattle.wy_types.specs.Reach.{Reaches, at_first, IsNeeded, IsWide}
use Rattle.wy_types.proofs.ClaimLemmas.{met_within}
use Rattle.wy_types.proofs.RankedLemmas.{has_laws}
use Rattle.wy_types.proofs.TermLemmas.{any_in-dnf_part}
use Rattle.wy_types.proofs.AskLemmas.{some_fields, ways_from-in, laws_of, HasPiece, options_of-ask, names_only-in}
use Rattle.wy_types_laws.specs.asked_types.Rows.{IsRow}
use Rattle.wy_types_laws.specs.asked_types.Shown.{value_at, has_value_at}
use Rattle.wy_types_laws.proofs.asked_types_lemmas.FreshLemmas.{fresh, fresh-none}
use Rattle.wy_types_laws.proofs.asked_types_lemmas.TableLemmas.{AtomHasRow, ConjunctHasRow, names_at}
use Rattle.wy_types_laws.proofs.asked_types_lemmas.KnownLemmas.{zero-int, named, rows_of, Pair, Holds, HasIn, Comes, more_each, more_met, none_kept, one_kept, way_values, any_record_made, made, all_needed, in_part, part_comes}
use Rattle.wy_types_laws.proofs.asked_types_lemmas.ItemLemmas.{conjunct_of, item_comes}

-- whether a field is there is told by the names
same_fields : (f : List ℕ) (xs ys : Fields) → names_of xs ≡ names_of ys → is_some (value_at f xs) ≡ is_some (value_at f ys)
same_fields f no_fields no_fields e = refl
same_fields f no_fields (field n d rest) e = absurd cc
same_fields f (field n d rest) no_fields e = absurd cc
same_fields f (field n d rest) (field m g more) e =
    let here : n ≡ m = cc e in
    let behind : names_of rest ≡ names_of more = cc e in
    by (bytes_eq n f) (bytes_eq m f) (ap (λ (x : List ℕ). bytes_eq x f) here) (same_fields f rest more behind)
  where
    by : (a b : Bool) → a ≡ b → is_some (value_at f rest) ≡ is_some (value_at f more) → is_some (cond a (Some d) (value_at f rest)) ≡ is_some (cond b (Some g) (value_at f more))
    by true true e h = refl
    by true false e h = absurd cc
    by false true e h = absurd cc
    by false false e h = h

some_same : (x y : Datum) → Some x ≡ Some y → x ≡ y
some_same x y e = cc

module _ (table : Table) (rank : ℕ → ℕ) (k : ℕ) (ranked : IsRanked table rank k) (first : List (Signed ℕ)) (rows : (c : Conjunct ℕ) → Reaches table k first c → ConjunctHasRow c) (narrow : IsWide table k first → ⊥) where
  field_comes : (fields : Fields) (p : List (Signed ℕ)) → IsNeeded table k first p → SomeOf (λ r. part_in r p ≡ true) (field_readers table k fields) → Comes table rank k ranked first p
  field_comes no_fields p n s = absurd s
  field_comes (field name d rest) p n (inl e) = part_comes table rank k ranked first rows narrow d p n e
  field_comes (field name d rest) p n (inr s) = field_comes rest p n s

  piece_comes : (d : Datum) (p : List (Signed ℕ)) → IsNeeded table k first p → HasPiece (shape_of table k d) p → Comes table rank k ranked first p
  piece_comes datum.Null p n s = absurd s
  piece_comes (datum.Truth b) p n s = absurd s
  piece_comes (datum.Whole z) p n s = absurd s
  piece_comes (datum.Array items) p n s = item_comes table rank k ranked first rows narrow items p n s
  piece_comes (datum.Record fields) p n s = field_comes fields p n s

  -- a conjunct that is reached and has a datum has a value
  pub conjunct_value : (d : Datum) (c : Conjunct ℕ) → Reaches table k first c → conjunct_in (shape_of table k d) c ≡ true → (v : Datum) × IsValue v × (conjunct_in (shape_of table k v) c ≡ true)
  conjunct_value d c r e =
      let shape = shape_of table k d in
      let halves = both (atom_in shape c.positive) (none_in shape c.negatives) e in
      let met = options_of-ask table k shape (has_laws table rank k ranked d) c.positive c.negatives halves.0 halves.1 in
      let all = all_needed table rank k ranked first rows narrow c r in
      let come = met_within (HasPiece shape) (IsNeeded table k first) (Comes table rank k ranked first) (options_of table k c.positive c.negatives) all (λ ts n s. piece_comes d ts n s) met in
      let m = more_met table rank k ranked first (options_of table k c.positive c.negatives) come [] (none_kept table rank k ranked first) in
      made table rank k ranked first rows narrow m.them m.good c.positive c.negatives (rows c r).0 m.has

  -- ---- a value without the field

  array_lacks : (f : List ℕ) (items : Data) (a : Atom ℕ) → atom_in (ArrayShape (item_readers table k items)) a ≡ true → (v : Datum) → atom_in (shape_of table k v) a ≡ true → has_value_at f v ≡ false
  array_lacks f items (atom.Array p) e datum.Null g = refl
  array_lacks f items (atom.Array p) e (datum.Truth b) g = refl
  array_lacks f items (atom.Array p) e (datum.Whole z) g = refl
  array_lacks f items (atom.Array p) e (datum.Array more) g = refl
  array_lacks f items (atom.Array p) e (datum.Record fields) g = absurd cc
  array_lacks f items atom.Null e v g = absurd cc
  array_lacks f items atom.Bool e v g = absurd cc
  array_lacks f items atom.Int e v g = absurd cc
  array_lacks f items (atom.Record fs) e v g = absurd cc
  array_lacks f items atom.AnyRecord e v g = absurd cc

  named_lacks : (f : List ℕ) (fields : Fields) (fs : List (List ℕ × Part ℕ)) → fields_in (names_of fields) (field_readers table k fields) fs ≡ true → is_some (value_at f fields) ≡ false → (v : Datum) → atom_in (shape_of table k v) (atom.Record fs) ≡ true → has_value_at f v ≡ false
  named_lacks f fields fs e out (datum.Record others) g =
      same_fields f others fields (named (names_of others) (field_readers table k others) fs g ∙ sym (named (names_of fields) (field_readers table k fields) fs e)) ∙ out
  named_lacks f fields fs e out datum.Null g = refl
  named_lacks f fields fs e out (datum.Truth b) g = refl
  named_lacks f fields fs e out (datum.Whole z) g = refl
  named_lacks f fields fs e out (datum.Array items) g = refl

  -- a value of the language without the field, in an atom and in none of others
  abbrev Lacks : List ℕ → Atom ℕ → List (Atom ℕ) → Type 0
  Lacks f a negatives = (v : Datum) × IsValue v × (has_value_at f v ≡ false) × ((atom_in (shape_of table k v) a && none_in (shape_of table k v) negatives) ≡ true)

  any_lacks : (f : List ℕ) (fields : Fields) (negatives : List (Atom ℕ)) → none_in (RecordShape (names_of fields) (field_readers table k fields)) negatives ≡ true → Lacks f atom.AnyRecord negatives
  any_lacks f fields negatives e =
      let rs : List (List (List ℕ)) = (f ∷ []) ∷ rows_of negatives in
      let v = any_record_made table rank k ranked first rs negatives (names_only-in (names_of fields) (field_readers table k fields) negatives e) (λ i. fresh-none rs (inr i)) in
      (datum.Record (field (fresh rs) datum.Null no_fields), v.0, by (bytes_eq (fresh rs) f) refl, v.1)
    where
      by : (b : Bool) → bytes_eq (fresh ((f ∷ []) ∷ rows_of negatives)) f ≡ b → is_some (cond b (Some datum.Null) None) ≡ false
      by false g = refl
      by true g = absurd (fresh-none ((f ∷ []) ∷ rows_of negatives) (inl (ap (λ (x : List ℕ). x ∷ []) (sym (bytes_are (fresh ((f ∷ []) ∷ rows_of negatives)) f g)))))

  record_lacks : (f : List ℕ) (fields : Fields) → is_some (value_at f fields) ≡ false → (a : Atom ℕ) (negatives : List (Atom ℕ)) → ((v : Datum) × IsValue v × ((atom_in (shape_of table k v) a && none_in (shape_of table k v) negatives) ≡ true))
      → atom_in (shape_of table k (datum.Record fields)) a ≡ true → none_in (shape_of table k (datum.Record fields)) negatives ≡ true → Lacks f a negatives
  record_lacks f fields out (atom.Record fs) negatives v e g =
      (v.0, v.1, named_lacks f fields fs e out v.0 (both (atom_in (shape_of table k v.0) (atom.Record fs)) (none_in (shape_of table k v.0) negatives) v.2).0, v.2)
  record_lacks f fields out atom.AnyRecord negatives v e g = any_lacks f fields negatives g
  record_lacks f fields out atom.Null negatives v e g = absurd cc
  record_lacks f fields out atom.Bool negatives v e g = absurd cc
  record_lacks f fields out atom.Int negatives v e g = absurd cc
  record_lacks f fields out (atom.Array p) negatives v e g = absurd cc

  abbrev Chosen : Datum → Type 0
  Chosen d = (c : Conjunct ℕ) × IsIn c (dnf_part table k first) × (conjunct_in (shape_of table k d) c ≡ true)

  chosen_for : (d : Datum) → part_in (member table k d) first ≡ true → Chosen d
  chosen_for d e = conjunct_of (shape_of table k d) (dnf_part table k first) (any_in-dnf_part table k (shape_of table k d) (has_laws table rank k ranked d) first ∙ e)

  pub lack_shown : (f : List ℕ) (d : Datum) → has_value_at f d ≡ false → part_in (member table k d) first ≡ true → (v : Datum) × IsValue v × (has_value_at f v ≡ false) × (part_in (member table k v) first ≡ true)
  lack_shown f datum.Null out e = (datum.Null, tt, refl, e)
  lack_shown f (datum.Truth b) out e = (datum.Truth b, tt, refl, e)
  lack_shown f (datum.Whole z) out e = (datum.Whole (pos 0), zero-int, refl, e)
  lack_shown f (datum.Array items) out e =
      let c = chosen_for (datum.Array items) e in
      let r : Reaches table k first c.0 = at_first c.0 c.1 in
      let halves = both (atom_in (shape_of table k (datum.Array items)) c.0.positive) (none_in (shape_of table k (datum.Array items)) c.0.negatives) c.2 in
      let v = conjunct_value (datum.Array items) c.0 r c.2 in
      let inside = both (atom_in (shape_of table k v.0) c.0.positive) (none_in (shape_of table k v.0) c.0.negatives) v.2 in
      (v.0, v.1, array_lacks f items c.0.positive halves.0 v.0 inside.0, in_part table rank k ranked first rows narrow v.0 first c.0 c.1 v.2)
  lack_shown f (datum.Record fields) out e =
      let c = chosen_for (datum.Record fields) e in
      let halves = both (atom_in (shape_of table k (datum.Record fields)) c.0.positive) (none_in (shape_of table k (datum.Record fields)) c.0.negatives) c.2 in
      let v = record_lacks f fields out c.0.positive c.0.negatives (conjunct_value (datum.Record fields) c.0 (at_first c.0 c.1) c.2) halves.0 halves.1 in
      (v.0, v.1, v.2, in_part table rank k ranked first rows narrow v.0 first c.0 c.1 v.3)

  -- ---- a record with this value at the field

  record Way (fields : Fields) (ws : List (List (List ℕ × Part ℕ))) : Type 0 where
    it : List (List ℕ × Part ℕ)
    held : fields_in (names_of fields) (field_readers table k fields) it ≡ true
    needs : EachOf (EachOf (IsNeeded table k first)) (alone it)
    back : (others : Fields) → fields_in (names_of others) (field_readers table k others) it ≡ true → some_fields (names_of others) (field_readers table k others) ws ≡ true

  way_of : (fields : Fields) (ws : List (List (List ℕ × Part ℕ))) → EachOf (EachOf (EachOf (IsNeeded table k first))) (all_alone ws) → some_fields (names_of fields) (field_readers table k fields) ws ≡ true → Way fields ws
  way_of fields [] n e = absurd cc
  way_of fields (w ∷ ws) n e = by (fields_in (names_of fields) (field_readers table k fields) w) refl (λ g. way_of fields ws n.1 g)
    where
      by : (b : Bool) → fields_in (names_of fields) (field_readers table k fields) w ≡ b → (some_fields (names_of fields) (field_readers table k fields) ws ≡ true → Way fields ws) → Way fields (w ∷ ws)
      by true g rest = record { it = w; held = g; needs = n.0; back = λ others h. rw h refl }
      by false g rest =
          let r = rest (rw g at e) in
          record { it = r.it; held = r.held; needs = r.needs; back = λ others h. (let more = r.back others h in rw more (or_true (fields_in (names_of others) (field_readers table k others) w))) }

  way_comes : (fields : Fields) (w : List (List ℕ × Part ℕ)) → fields_in (names_of fields) (field_readers table k fields) w ≡ true → EachOf (EachOf (IsNeeded table k first)) (alone w) → EachOf (SomeOf (Comes table rank k ranked first)) (alone w)
  way_comes fields [] e n = tt
  way_comes no_fields (g ∷ w) e n = absurd cc
  way_comes (field name d rest) (g ∷ w) e n =
      let a = both (bytes_eq name g.0) (part_in (member table k d) g.1.terms && fields_in (names_of rest) (field_readers table k rest) w) e in
      let b = both (part_in (member table k d) g.1.terms) (fields_in (names_of rest) (field_readers table k rest) w) a.1 in
      (inl (part_comes table rank k ranked first rows narrow d g.1.terms n.0.0 b.0), way_comes rest w b.1 n.1)

  record HasValue (f : List ℕ) (v : Datum) (w : List (List ℕ × Part ℕ)) : Type 0 where
    them : Fields
    held : fields_in (names_of them) (field_readers table k them) w ≡ true
    values : EachOf IsName (names_of them) → AreValueFields them
    there : value_at f them ≡ Some v

  value_kept : (f : List ℕ) (v : Datum) → IsValue v → (xs : List Pair) → EachOf (Holds table rank k ranked first) xs → (fields : Fields) (w : List (List ℕ × Part ℕ)) → fields_in (names_of fields) (field_readers table k fields) w ≡ true
      → EachOf (SomeOf (HasIn table rank k ranked first xs)) (alone w) → value_at f fields ≡ Some v → HasValue f v w
  value_kept f v value xs held no_fields w e h at = absurd cc
  value_kept f v value xs held (field name d rest) [] e h at = absurd cc
  value_kept f v value xs held (field name d rest) (g ∷ w) e h at =
      let a = both (bytes_eq name g.0) (part_in (member table k d) g.1.terms && fields_in (names_of rest) (field_readers table k rest) w) e in
      let b = both (part_in (member table k d) g.1.terms) (fields_in (names_of rest) (field_readers table k rest) w) a.1 in
      by (bytes_eq name f) refl a.0 b.0 at (λ more. value_kept f v value xs held rest w b.1 h.1 more)
    where
      by : (c : Bool) → bytes_eq name f ≡ c → bytes_eq name g.0 ≡ true → part_in (member table k d) g.1.terms ≡ true → cond c (Some d) (value_at f rest) ≡ Some v → (value_at f rest ≡ Some v → HasValue f v w) → HasValue f v (g ∷ w)
      by true i n p here more =
          let others = way_values table rank k ranked first xs held w h.1 in
          let inside : part_in (member table k v) g.1.terms ≡ true = subst (λ (x : Datum). part_in (member table k x) g.1.terms ≡ true) (some_same d v here) p in
          record { them = field name v others.them; held = rw (n, inside, others.held) refl; values = λ ns. (ns.0, value, others.values ns.1); there = rw i refl }
      by false i n p here more =
          let others = more here in
          let kept : HasIn table rank k ranked first xs g.1.terms = elim h.0 [ inl x ↦ x | inr y ↦ absurd y ] in
          let one = one_kept table rank k ranked first xs g.1.terms held kept in
          record { them = field name one.0 others.them; held = rw (n, one.2, others.held) refl; values = λ ns. (ns.0, one.1, others.values ns.1); there = rw i (others.there) }

  -- a record of the language with this value at the field, in an atom and in none of others
  abbrev HasRecord : List ℕ → Datum → Atom ℕ → List (Atom ℕ) → Type 0
  HasRecord f v a negatives = (gs : Fields) × IsValue (datum.Record gs) × (value_at f gs ≡ Some v) × ((atom_in (shape_of table k (datum.Record gs)) a && none_in (shape_of table k (datum.Record gs)) negatives) ≡ true)

  record_with : (f : List ℕ) (v : Datum) → IsValue v → (fields : Fields) → value_at f fields ≡ Some v → (fs : List (List ℕ × Part ℕ)) (negatives : List (Atom ℕ)) → IsRow (names_at fs) → EachOf (EachOf (EachOf (IsNeeded table k first))) (all_alone (ways_from table k (fs ∷ []) negatives))
      → fields_in (names_of fields) (field_readers table k fields) fs ≡ true → none_in (RecordShape (names_of fields) (field_readers table k fields)) negatives ≡ true → HasRecord f v (atom.Record fs) negatives
  record_with f v value fields at fs negatives row all e g =
      let ws = ways_from table k (fs ∷ []) negatives in
      let some : some_fields (names_of fields) (field_readers table k fields) ws ≡ true =
      ways_from-in table k (names_of fields) (field_readers table k fields) (laws_of table rank k ranked fields) (fs ∷ []) negatives ∙ two_true _ _ (rw e refl) g
      in
      let w = way_of fields ws all some in
      let m = more_each table rank k ranked first (alone w.it) (way_comes fields w.it w.held w.needs) [] (none_kept table rank k ranked first) in
      let made = value_kept f v value m.them m.good.held fields w.it w.held m.has at in
      let ns = names_of made.them in
      let rs = field_readers table k made.them in
      let both_hold = sym (ways_from-in table k ns rs (laws_of table rank k ranked made.them) (fs ∷ []) negatives) ∙ w.back made.them made.held in
      let halves = both (fields_in ns rs fs || false) (none_in (RecordShape ns rs) negatives) both_hold in
      let inside : fields_in ns rs fs ≡ true = sym (or_false (fields_in ns rs fs)) ∙ halves.0 in
      let good : IsRow ns = subst IsRow (sym (named ns rs fs inside)) row in
      (made.them, (good.0, made.values good.1), made.there, two_true (fields_in ns rs fs) (none_in (RecordShape ns rs) negatives) inside halves.1)

  module _ (f : List ℕ) (all : (d : Datum) → part_in (member table k d) first ≡ true → has_value_at f d ≡ true) where
    record_of : (v : Datum) → IsValue v → (fields : Fields) → value_at f fields ≡ Some v → (a : Atom ℕ) (negatives : List (Atom ℕ)) → AtomHasRow a → EachOf (EachOf (EachOf (IsNeeded table k first))) (options_of table k a negatives)
        → ((d : Datum) → (atom_in (shape_of table k d) a && none_in (shape_of table k d) negatives) ≡ true → part_in (member table k d) first ≡ true)
        → atom_in (shape_of table k (datum.Record fields)) a ≡ true → none_in (shape_of table k (datum.Record fields)) negatives ≡ true → HasRecord f v a negatives
    record_of v value fields at (atom.Record fs) negatives row needs back e g = record_with f v value fields at fs negatives row needs e g
    record_of v value fields at atom.AnyRecord negatives row needs back e g =
        let w = any_lacks f fields negatives g in
        let has = all w.0 (back w.0 w.3) in
        absurd (let lacks = w.2 in cc (has, lacks))
    record_of v value fields at atom.Null negatives row needs back e g = absurd cc
    record_of v value fields at atom.Bool negatives row needs back e g = absurd cc
    record_of v value fields at atom.Int negatives row needs back e g = absurd cc
    record_of v value fields at (atom.Array p) negatives row needs back e g = absurd cc

    pub field_shown : (fields : Fields) (v : Datum) → IsValue v → value_at f fields ≡ Some v → part_in (member table k (datum.Record fields)) first ≡ true
        → (gs : Fields) × IsValue (datum.Record gs) × (value_at f gs ≡ Some v) × (part_in (member table k (datum.Record gs)) first ≡ true)
    field_shown fields v value at e =
        let shape = shape_of table k (datum.Record fields) in
        let c = chosen_for (datum.Record fields) e in
        let r : Reaches table k first c.0 = at_first c.0 c.1 in
        let halves = both (atom_in shape c.0.positive) (none_in shape c.0.negatives) c.2 in
        let needs = all_needed table rank k ranked first rows narrow c.0 r in
        let made = record_of v value fields at c.0.positive c.0.negatives (rows c.0 r).0 needs (λ d h. in_part table rank k ranked first rows narrow d first c.0 c.1 h) halves.0 halves.1 in
        (made.0, made.1, made.2, in_part table rank k ranked first rows narrow (datum.Record made.0) first c.0 c.1 made.3)
