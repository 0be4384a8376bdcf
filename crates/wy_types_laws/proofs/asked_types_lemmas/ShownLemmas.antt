-- Where a narrow question finds a datum in one type and not in another, some value of the language is.
use Rattle.std.proofs.Common.{◌≡◌, ℕ, List, [], true, false, not, ◌&&◌, Some, sym, ap, ◌∙◌}
use Rattle.wy_lemmas.proofs.Choices.{not_true, both_parts as both, both_true as two_true}
use Rattle.wy_value.specs.Datum.{Datum, Data, Fields}
use Rattle.wy_value.specs.Datum as datum
use Rattle.wy_value.specs.Values.{IsValue}
use Rattle.wy_core.specs.Types.{Ty, NormalTy}
use Rattle.wy_types.specs.declared.conjuncts.Signed.{Signed}
use Rattle.wy_types.specs.declared.conjuncts.Conjunct.{Conjunct}
use Rattle.wy_types.specs.declared.table.Table.{Table}
use Rattle.wy_types.specs.Shape.{part_in}
use Rattle.wy_types.specs.Membership.{member}
use Rattle.wy_types.specs.Ranked.{IsRanked}
use Rattle.wy_types.specs.Conjuncts.{with_sides, dnf_part}
use Rattle.wy_types.specs.Reach.{Reaches, at_first, by_asking, outside}
use Rattle.wy_types.specs.Names.{Declared, Up}
use Rattle.wy_types.specs.Questions.{numbered, first_part, outside_part, IsWideAbout, IsWideWithin, normal_of}
use Rattle.wy_types.specs.Reading.{ty_at}
use Rattle.wy_types.specs.Recursion.{RecurThroughParts}
use Rattle.wy_types.proofs.TermLemmas.{part_in-with_sides}
use Rattle.wy_types.proofs.AskLemmas.{law_of}
use Rattle.wy_types.proofs.QuestionLemmas.{is_asked, question_ranked, first_agrees, second_agrees}
use Rattle.wy_types_laws.specs.asked_types.Rows.{HasRows, NamesHaveRows}
use Rattle.wy_types_laws.specs.asked_types.Shown.{IsOutside, IsInhabited, IsItem, HasItem, value_at, has_value_at, IsLacked, HasField}
use Rattle.wy_types_laws.proofs.asked_types_lemmas.TableLemmas.{ConjunctHasRow, HaveRow, part_row, question_rows, conjuncts_back, ty_back}
use Rattle.wy_types_laws.proofs.asked_types_lemmas.KnownLemmas.{each_at, first_value}
use Rattle.wy_types_laws.proofs.asked_types_lemmas.ItemLemmas.{item_shown}
use Rattle.wy_types_laws.proofs.asked_types_lemmas.FieldLemmas.{lack_shown, field_shown}

-- each conjunct that is reached has the names of records in the table
pub reached_rows : (table : Table) (k : ℕ) (first : List (Signed ℕ)) → HaveRow table.nodes → (c : Conjunct ℕ) → Reaches table k first c → ConjunctHasRow c
reached_rows table k first h _ (at_first c i) = each_at ConjunctHasRow _ c (part_row table h k first) i
reached_rows table k first h _ (by_asking d c p r a i) = each_at ConjunctHasRow _ c (part_row table h k p) i

module _ (table : Table) (rank : ℕ → ℕ) (k : ℕ) (ranked : IsRanked table rank k) where
  pub in_first : (d : Datum) (a : ℕ) → part_in (member table k d) (with_sides table k [] true true a) ≡ member table k d true a
  in_first d a = part_in-with_sides table (member table k d) (law_of table rank k ranked d) k [] true true a

  in_outside : (d : Datum) (a b : ℕ) → part_in (member table k d) (outside table k a b) ≡ (member table k d true a && not (member table k d true b))
  in_outside d a b =
      part_in-with_sides table (member table k d) (law_of table rank k ranked d) k (with_sides table k [] true true a) true false b
      ∙ ap (λ x. x && not (member table k d true b)) (in_first d a)

module _ (names : List Declared) (recur : RecurThroughParts names) (rows : NamesHaveRows names) where
  pub outside_shown : (a b : Ty) → HasRows a → HasRows b → (IsWideWithin names a b → ⊥) → (d : Datum) → Up names d a ≡ true → Up names d b ≡ false → IsOutside names a b
  outside_shown a b r s narrow d e f =
      let q = numbered names a b in
      let asked = is_asked names a b in
      let ranked = question_ranked names a b q asked recur in
      let table_rows = question_rows names a b rows r s in
      let here : part_in (member q.table q.depth d) (outside_part q) ≡ true =
      in_outside q.table ranked.0 q.depth ranked.1 d q.first q.second
      ∙ two_true _ _ (first_agrees names a b q asked recur d true ∙ e) (ap not (second_agrees names a b q asked recur d true ∙ f))
      in
      let v = first_value q.table ranked.0 q.depth ranked.1 (outside_part q) (reached_rows q.table q.depth (outside_part q) table_rows) narrow d here in
      let c = both _ _ (sym (in_outside q.table ranked.0 q.depth ranked.1 v.0 q.first q.second) ∙ v.2) in
      (v.0, v.1, sym (first_agrees names a b q asked recur v.0 true) ∙ c.0, sym (second_agrees names a b q asked recur v.0 true) ∙ not_true _ c.1)

  pub inhabited_shown : (t : Ty) → HasRows t → (IsWideAbout names t → ⊥) → (d : Datum) → Up names d t ≡ true → IsInhabited names t
  inhabited_shown t r narrow d e =
      let q = numbered names t t in
      let asked = is_asked names t t in
      let ranked = question_ranked names t t q asked recur in
      let table_rows = question_rows names t t rows r r in
      let here : part_in (member q.table q.depth d) (first_part q) ≡ true =
      in_first q.table ranked.0 q.depth ranked.1 d q.first ∙ (first_agrees names t t q asked recur d true ∙ e)
      in
      let v = first_value q.table ranked.0 q.depth ranked.1 (first_part q) (reached_rows q.table q.depth (first_part q) table_rows) narrow d here in
      (v.0, v.1, sym (first_agrees names t t q asked recur v.0 true) ∙ (sym (in_first q.table ranked.0 q.depth ranked.1 v.0 q.first) ∙ v.2))

  pub items_shown : (t : Ty) → HasRows t → (IsWideAbout names t → ⊥) → (items : Data) (v : Datum) → IsValue v → IsItem v items → Up names (datum.Array items) t ≡ true → HasItem names t v
  items_shown t r narrow items v value i e =
      let q = numbered names t t in
      let asked = is_asked names t t in
      let ranked = question_ranked names t t q asked recur in
      let table_rows = question_rows names t t rows r r in
      let here : part_in (member q.table q.depth (datum.Array items)) (first_part q) ≡ true =
      in_first q.table ranked.0 q.depth ranked.1 (datum.Array items) q.first ∙ (first_agrees names t t q asked recur (datum.Array items) true ∙ e)
      in
      let w = item_shown q.table ranked.0 q.depth ranked.1 (first_part q) (reached_rows q.table q.depth (first_part q) table_rows) narrow items v value i here in
      (w.0, w.1, w.2, sym (first_agrees names t t q asked recur (datum.Array w.0) true) ∙ (sym (in_first q.table ranked.0 q.depth ranked.1 (datum.Array w.0) q.first) ∙ w.3))

  pub lacks_shown : (t : Ty) → HasRows t → (IsWideAbout names t → ⊥) → (f : List ℕ) (d : Datum) → has_value_at f d ≡ false → Up names d t ≡ true → IsLacked names f t
  lacks_shown t r narrow f d out e =
      let q = numbered names t t in
      let asked = is_asked names t t in
      let ranked = question_ranked names t t q asked recur in
      let table_rows = question_rows names t t rows r r in
      let here : part_in (member q.table q.depth d) (first_part q) ≡ true = in_first q.table ranked.0 q.depth ranked.1 d q.first ∙ (first_agrees names t t q asked recur d true ∙ e) in
      let v = lack_shown q.table ranked.0 q.depth ranked.1 (first_part q) (reached_rows q.table q.depth (first_part q) table_rows) narrow f d out here in
      (v.0, v.1, v.2, sym (first_agrees names t t q asked recur v.0 true) ∙ (sym (in_first q.table ranked.0 q.depth ranked.1 v.0 q.first) ∙ v.3))

  pub fields_shown : (t : Ty) → HasRows t → (IsWideAbout names t → ⊥) → (f : List ℕ) → ((d : Datum) → Up names d t ≡ true → has_value_at f d ≡ true) → (fields : Fields) (v : Datum) → IsValue v → value_at f fields ≡ Some v → Up names (datum.Record fields) t ≡ true → HasField names f t v
  fields_shown t r narrow f all fields v value at e =
      let q = numbered names t t in
      let asked = is_asked names t t in
      let ranked = question_ranked names t t q asked recur in
      let table_rows = question_rows names t t rows r r in
      let here : part_in (member q.table q.depth (datum.Record fields)) (first_part q) ≡ true =
      in_first q.table ranked.0 q.depth ranked.1 (datum.Record fields) q.first ∙ (first_agrees names t t q asked recur (datum.Record fields) true ∙ e)
      in
      let each : (d : Datum) → part_in (member q.table q.depth d) (first_part q) ≡ true → has_value_at f d ≡ true =
      λ d h. all d (sym (first_agrees names t t q asked recur d true) ∙ (sym (in_first q.table ranked.0 q.depth ranked.1 d q.first) ∙ h))
      in
      let w = field_shown q.table ranked.0 q.depth ranked.1 (first_part q) (reached_rows q.table q.depth (first_part q) table_rows) narrow f each fields v value at here in
      (w.0, w.1, w.2, sym (first_agrees names t t q asked recur (datum.Record w.0) true) ∙ (sym (in_first q.table ranked.0 q.depth ranked.1 (datum.Record w.0) q.first) ∙ w.3))

-- the normal form of a type
pub normal_rows : (names : List Declared) (t : Ty) → NamesHaveRows names → HasRows t → HasRows (NormalTy (normal_of names t))
normal_rows names t d r =
    let q = numbered names t t in
    let have = question_rows names t t d r r in
    conjuncts_back (ty_at q.table q.depth) (ty_back q.table have q.depth) (dnf_part q.table q.depth (first_part q)) (part_row q.table have q.depth (first_part q))
