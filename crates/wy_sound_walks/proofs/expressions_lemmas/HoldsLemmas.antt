-- The formula that a datum is in a type is true exactly where the datum is in the type.
use Rattle.std.proofs.Common.{◌≡◌, ℕ, zero, suc, ◌+◌, ◌≤◌, ◌<◌, List, [], ◌∷◌, Bool, true, false, not, ◌&&◌, ◌||◌, cond, ℤ, pos, negsuc, ◌+ℤ◌, ◌-ℤ◌, int_le, bytes_eq, refl, sym, ap, ◌∙◌, subst, arith}
use Rattle.std.proofs.lemmas.Int.{ints}
use Rattle.wy_lemmas.proofs.Choices.{and_end, or_none as or_end, both_parts as and_true}
use Rattle.wy_lemmas.proofs.Lists.{bytes_self, bytes_are as same_bytes}
use Rattle.wy_value.specs.Datum.{Datum, Null, Truth, Whole, Array, Record, Data, no_items, item, Fields, no_fields, field}
use Rattle.wy_value.specs.Values as values
use Rattle.wy_value.specs.Numbers as numbers
use Rattle.wy_value.specs.declared.bounds.TheConstants.{INT_MIN, INT_MAX}
use Rattle.wy_core.specs.Types.{Ty, NullTy, BoolTy, IntTy, AnyTy, VoidTy, RecordTy, ArrayTy, UnionTy, InterTy, NotTy, NamedTy, NormalTy, FieldTys, NoFieldTys, MoreFieldTys}
use Rattle.wy_term.specs.Term as term
use Rattle.wy_term.specs.Term.{Term, Of, no_parts, part, null_kind, bool_kind, int_kind, array_kind, record_kind}
use Rattle.wy_term.specs.Sorts.{val_sort, formula_sort}
use Rattle.wy_term.specs.Data as shapes
use Rattle.wy_term.specs.Meaning.{Names, with_number, sense, each_from, distance}
use Rattle.wy_term_subst.proofs.sorted_lemmas.SortedLemmas.{folding_kept}
use Rattle.wy_sound_terms.specs.wy_sem.Operations as sem
use Rattle.wy_sound_terms.specs.wy_sem.TypeTests.{is_null, is_truth, is_whole, few_enough, same_names}
use Rattle.wy_sound_terms.specs.wy_vc_spec.Making.{number_of, int_name, num, len, get, field as field_term, all_of, any_of, denied, at_most, of_kind, bound}
use Rattle.wy_sound_terms.specs.wy_vc_spec.Values.{Naming, k_word, longest, is_int, names_of, holds, fields_hold}
use Rattle.wy_sound_terms.proofs.formed_lemmas.MakingLemmas.{IsOf, number_sorted, int_name_sorted, len_sorted, get_sorted, field_sorted}
use Rattle.wy_sound_terms.proofs.formed_lemmas.ValueLemmas.{SaysFormulas, holds_sorted}
use Rattle.wy_sound_terms.proofs.operations_lemmas.DataLemmas.{length_is}
use Rattle.wy_sound_terms.proofs.operations_lemmas.MadeLemmas.{holds as true_at, number, num_means, len_means, get_means, field_means, at_most_means, denied_means, kind_means, all, some, all_means, some_means}
use Rattle.wy_sound_walks.specs.expressions.Names.{Agree, Means}
use Rattle.wy_sound_walks.specs.expressions.Types.{each_item, is_array_of, is_record_of, first_field, is_in, fields_in}
use Rattle.wy_sound_walks.specs.expressions.Written.{IsNone, AreApart, IsWritten, AreWritten}
use Rattle.wy_sound_walks.proofs.expressions_lemmas.NameLemmas.{agree_refl, agree_trans, agree_number, number_at, means_later}
use Rattle.wy_sound_walks.proofs.expressions_lemmas.ValueGrows.{holds_grows}

-- ---- kinds

null_is : (d : Datum) → shapes.is_of_kind null_kind d ≡ is_null d
null_is Null = refl
null_is (Truth b) = refl
null_is (Whole z) = refl
null_is (Array ds) = refl
null_is (Record fs) = refl

truth_is : (d : Datum) → shapes.is_of_kind bool_kind d ≡ is_truth d
truth_is Null = refl
truth_is (Truth b) = refl
truth_is (Whole z) = refl
truth_is (Array ds) = refl
truth_is (Record fs) = refl

whole_is : (d : Datum) → (shapes.is_of_kind int_kind d && (int_le INT_MIN (shapes.number_in d) && (int_le (shapes.number_in d) INT_MAX && true))) ≡ is_whole d
whole_is Null = refl
whole_is (Truth b) = refl
whole_is (Whole z) = ap (λ (b : Bool). int_le INT_MIN z && b) (and_end (int_le z INT_MAX))
whole_is (Array ds) = refl
whole_is (Record fs) = refl

pub int_told : (u : Names) (v : Term) (d : Datum) → (sense u v).datum ≡ d → true_at u (is_int v) ≡ is_whole d
int_told u v d e =
    let n : number u (num v) ≡ shapes.number_in d = num_means u v ∙ ap shapes.number_in e in
    all_means u (of_kind int_kind v ∷ at_most (number_of INT_MIN) (num v) ∷ at_most (num v) (number_of INT_MAX) ∷ [])
    ∙ ap (λ (b : Bool). b && (true_at u (at_most (number_of INT_MIN) (num v)) && (true_at u (at_most (num v) (number_of INT_MAX)) && true))) (kind_means u int_kind v ∙ ap (shapes.is_of_kind int_kind) e)
    ∙ ap (λ (b : Bool). shapes.is_of_kind int_kind d && (b && (true_at u (at_most (num v) (number_of INT_MAX)) && true))) (at_most_means u (number_of INT_MIN) (num v) ∙ ap (int_le INT_MIN) n)
    ∙ ap (λ (b : Bool). shapes.is_of_kind int_kind d && (int_le INT_MIN (shapes.number_in d) && (b && true))) (at_most_means u (num v) (number_of INT_MAX) ∙ ap (λ (z : ℤ). int_le z INT_MAX) n)
    ∙ whole_is d

-- ---- items

-- every item from the number i on
each_is : (ds : Data) (test : ℤ → Bool) (p : Datum → Bool) (i : ℕ) → ((j : ℕ) → j < shapes.length_of ds → test (pos (i + j)) ≡ p (shapes.nth ds j)) → each_from (pos i) (shapes.length_of ds) test ≡ each_item p ds
each_is no_items test p i h = refl
each_is (item d ds) test p i h =
    let at0 : i + 0 ≡ i = omega arith in
    let first : test (pos i) ≡ p d = subst (λ (m : ℕ). test (pos m) ≡ p d) at0 (h 0 (omega arith)) in
    let rest : each_from (pos (i + 1)) (shapes.length_of ds) test ≡ each_item p ds =
    each_is ds test p (i + 1) (λ j lt. let e : i + suc j ≡ i + 1 + j = omega arith in subst (λ (m : ℕ). test (pos m) ≡ p (shapes.nth ds j)) e (h (suc j) (omega arith))) in
    rw (first, rest) refl

pub far : (n : ℕ) → distance (pos n -ℤ pos 0) ≡ n
far n = ap distance (gone n) where
  gone : (n : ℕ) → pos n -ℤ pos 0 ≡ pos n
  gone n = omega (arith, ints)

-- ---- fields

names_are : (fs : Fields) (fields : FieldTys) → shapes.has_names fs (names_of fields) ≡ same_names fs fields
names_are no_fields NoFieldTys = refl
names_are no_fields (MoreFieldTys o t fields) = refl
names_are (field n d fs) NoFieldTys = refl
names_are (field n d fs) (MoreFieldTys o t fields) = ap (λ (b : Bool). bytes_eq n o && b) (names_are fs fields)

-- each field of the rest is found among all
abbrev Finds : Fields → Fields → Type 0
Finds whole no_fields = Unit {0}
Finds whole (field n d rest) = (shapes.field_of whole n ≡ d) × Finds whole rest

abbrev IsAway : List ℕ → Fields → Type 0
IsAway name no_fields = Unit {0}
IsAway name (field n d rest) = (bytes_eq name n ≡ false) × IsAway name rest

finds_more : (name : List ℕ) (d : Datum) (fs rest : Fields) → IsAway name rest → Finds fs rest → Finds (field name d fs) rest
finds_more name d fs no_fields a h = tt
finds_more name d fs (field n e rest) a h = (rw a.0 h.0, finds_more name d fs rest a.1 h.1)

-- the names of the fields are those of the type
away_of : (name : List ℕ) (fs : Fields) (ns : List (List ℕ)) → shapes.has_names fs ns ≡ true → IsNone name ns → IsAway name fs
away_of name no_fields ns e h = tt
away_of name (field n d fs) [] e h = absurd cc
away_of name (field n d fs) (o ∷ ns) e h =
    let two = and_true (bytes_eq n o) (shapes.has_names fs ns) e in
    (subst (λ (x : List ℕ). bytes_eq name x ≡ false) (sym (same_bytes n o two.0)) h.0, away_of name fs ns two.1 h.1)

finds : (fs : Fields) (ns : List (List ℕ)) → shapes.has_names fs ns ≡ true → AreApart ns → Finds fs fs
finds no_fields ns e h = tt
finds (field n d fs) [] e h = absurd cc
finds (field n d fs) (o ∷ ns) e h =
    let two = and_true (bytes_eq n o) (shapes.has_names fs ns) e in
    let away = away_of n fs ns two.1 (subst (λ (x : List ℕ). IsNone x ns) (sym (same_bytes n o two.0)) h.0) in
    (rw (bytes_self n) refl, finds_more n d fs fs away (finds fs ns two.1 h.1))

-- ---- types

module _ (members : ℕ → Datum → Bool) (named : Naming) (formulas : SaysFormulas named) (named_grows : (number n : ℕ) (v : Term) → n ≤ (named number v n).count)
    (told : (number n : ℕ) (v : Term) (u : Names) (d : Datum) → u.is_member ≡ members → IsOf val_sort v → Means n u v d → true_at u (named number v n).term ≡ members number d) where
  grows : (t : Ty) (v : Term) (n : ℕ) → n ≤ (holds named t v n).count
  grows t v n = holds_grows named named_grows t v n

  abbrev Told : Ty → ℕ → Term → Names → Datum → Type 0
  Told t n v u d = true_at u (holds named t v n).term ≡ is_in members t d

  -- an element, where the name of its number is bound
  element_means : (n : ℕ) (v : Term) (u : Names) (ds : Data) (j : ℕ) → Means n u v (Array ds) → Means (suc n) (with_number u k_word n (pos j)) (get v (int_name k_word n)) (shapes.nth ds j)
  element_means n v u ds j h w a =
      let there = agree_trans n (suc n) u (with_number u k_word n (pos j)) w (omega arith) (agree_number n u k_word n (pos j) (omega arith)) a in
      get_means w v (int_name k_word n) ∙ ap (λ (e : Datum). shapes.element e (number w (int_name k_word n))) (h w there)
      ∙ ap (shapes.item_at ds) (a.number_of k_word n (omega arith) ∙ number_at u k_word n (pos j))

  bound_means : (n : ℕ) (v f : Term) (u : Names) → IsOf val_sort v → IsOf formula_sort f → true_at u (bound true k_word n (number_of (pos 0)) (len v) f) ≡ each_from (pos 0) (distance (number u (len v) -ℤ pos 0)) (λ i. true_at (with_number u k_word n i) f)
  bound_means n v f u is f_is =
      let l = len_sorted is in
      folding_kept (Of (term.every k_word n) (part (number_of (pos 0)) (part (len v) (part f no_parts)))) u (refl, tt, (l.has.1, l.has.0, (f_is.has.1, f_is.has.0, tt)))

  array_told : (t : Ty) (n : ℕ) (v : Term) (u : Names) (d : Datum) → IsOf val_sort v → Means n u v d
      → ((j : ℕ) (ds : Data) → d ≡ Array ds → true_at (with_number u k_word n (pos j)) (holds named t (get v (int_name k_word n)) (suc n)).term ≡ is_in members t (shapes.nth ds j)) → Told (ArrayTy t) n v u d
  unfolding sem.longest
  array_told t n v u d is h inner =
      let f = (holds named t (get v (int_name k_word n)) (suc n)).term in
      let f_is = holds_sorted formulas t (suc n) (get_sorted is (int_name_sorted k_word n)) in
      let q = bound true k_word n (number_of (pos 0)) (len v) f in
      let e = h u (agree_refl n u) in
      all_means u (of_kind array_kind v ∷ at_most (len v) longest ∷ q ∷ [])
      ∙ ap (λ (b : Bool). b && (true_at u (at_most (len v) longest) && (true_at u q && true))) (kind_means u array_kind v ∙ ap (shapes.is_of_kind array_kind) e)
      ∙ ap (λ (b : Bool). shapes.is_of_kind array_kind d && (b && (true_at u q && true))) (at_most_means u (len v) longest ∙ ap (λ (z : ℤ). int_le z (pos 9223372036854775807)) (len_means u v ∙ ap shapes.length_in e))
      ∙ ap (λ (b : Bool). shapes.is_of_kind array_kind d && (int_le (shapes.length_in d) (pos 9223372036854775807) && b)) (and_end (true_at u q) ∙ bound_means n v f u is f_is ∙ ap (λ (z : ℤ). each_from (pos 0) (distance (z -ℤ pos 0)) (λ i. true_at (with_number u k_word n i) f)) (len_means u v ∙ ap shapes.length_in e))
      ∙ at d inner
    where
      at : (d : Datum) → ((j : ℕ) (ds : Data) → d ≡ Array ds → true_at (with_number u k_word n (pos j)) (holds named t (get v (int_name k_word n)) (suc n)).term ≡ is_in members t (shapes.nth ds j))
          → (shapes.is_of_kind array_kind d && (int_le (shapes.length_in d) (pos 9223372036854775807) && each_from (pos 0) (distance (shapes.length_in d -ℤ pos 0)) (λ i. true_at (with_number u k_word n i) (holds named t (get v (int_name k_word n)) (suc n)).term))) ≡ is_in members (ArrayTy t) d
      at Null g = refl
      at (Truth b) g = refl
      at (Whole z) g = refl
      at (Record fs) g = refl
      at (Array ds) g =
          ap (λ (m : ℕ). int_le (pos m) (pos 9223372036854775807) && each_from (pos 0) (distance (pos (shapes.length_of ds) -ℤ pos 0)) (λ i. true_at (with_number u k_word n i) (holds named t (get v (int_name k_word n)) (suc n)).term)) (length_is ds)
          ∙ ap (λ (b : Bool). int_le (pos (values.length_of ds)) (pos 9223372036854775807) && b)
          (ap (λ (m : ℕ). each_from (pos 0) m (λ i. true_at (with_number u k_word n i) (holds named t (get v (int_name k_word n)) (suc n)).term)) (far (shapes.length_of ds))
          ∙ each_is ds (λ i. true_at (with_number u k_word n i) (holds named t (get v (int_name k_word n)) (suc n)).term) (is_in members t) 0
          (λ j lt. let e : 0 + j ≡ j = omega arith in subst (λ (m : ℕ). true_at (with_number u k_word n (pos m)) (holds named t (get v (int_name k_word n)) (suc n)).term ≡ is_in members t (shapes.nth ds j)) (sym e) (g j ds refl)))

  record_told : (fields : FieldTys) (n : ℕ) (v : Term) (u : Names) (d : Datum) → Means n u v d → ((fs : Fields) → d ≡ Record fs → shapes.has_names fs (names_of fields) ≡ true → all u (fields_hold named fields v n).terms ≡ fields_in members fields fs)
      → Told (RecordTy fields) n v u d
  record_told fields n v u d h inner =
      all_means u (of_kind (record_kind (names_of fields)) v ∷ (fields_hold named fields v n).terms)
      ∙ ap (λ (b : Bool). b && all u (fields_hold named fields v n).terms) (kind_means u (record_kind (names_of fields)) v ∙ ap (shapes.is_of_kind (record_kind (names_of fields))) (h u (agree_refl n u)))
      ∙ at d inner
    where
      both : (a c x y : Bool) → a ≡ c → (a ≡ true → x ≡ y) → (a && x) ≡ (c && y)
      both true c x y e f = subst (λ (b : Bool). x ≡ (b && y)) e (f refl)
      both false c x y e f = subst (λ (b : Bool). false ≡ (b && y)) e refl

      at : (d : Datum) → ((fs : Fields) → d ≡ Record fs → shapes.has_names fs (names_of fields) ≡ true → all u (fields_hold named fields v n).terms ≡ fields_in members fields fs)
          → (shapes.is_of_kind (record_kind (names_of fields)) d && all u (fields_hold named fields v n).terms) ≡ is_in members (RecordTy fields) d
      at Null g = refl
      at (Truth b) g = refl
      at (Whole z) g = refl
      at (Array ds) g = refl
      at (Record fs) g = both (shapes.has_names fs (names_of fields)) (same_names fs fields) (all u (fields_hold named fields v n).terms) (fields_in members fields fs) (names_are fs fields) (g fs refl)

  mutual
    -- a datum that the term means, at all names that agree below the count
    pub type_told : (t : Ty) (n : ℕ) (v : Term) (u : Names) (d : Datum) → IsWritten t → u.is_member ≡ members → IsOf val_sort v → Means n u v d → Told t n v u d
    type_told NullTy n v u d wr right is h = kind_means u null_kind v ∙ ap (shapes.is_of_kind null_kind) (h u (agree_refl n u)) ∙ null_is d
    type_told BoolTy n v u d wr right is h = kind_means u bool_kind v ∙ ap (shapes.is_of_kind bool_kind) (h u (agree_refl n u)) ∙ truth_is d
    type_told IntTy n v u d wr right is h = int_told u v d (h u (agree_refl n u))
    type_told AnyTy n v u d wr right is h = all_means u []
    type_told VoidTy n v u d wr right is h = some_means u []
    type_told (RecordTy fields) n v u d wr right is h =
        record_told fields n v u d h (λ fs e names. fields_told fields n v u fs fs wr.1 right is (λ w a. h w a ∙ e) names (finds fs (names_of fields) names wr.0))
    type_told (ArrayTy t) n v u d wr right is h =
        array_told t n v u d is h (λ j ds e. type_told t (suc n) (get v (int_name k_word n)) (with_number u k_word n (pos j)) (shapes.nth ds j) wr right (get_sorted is (int_name_sorted k_word n)) (element_means n v u ds j (λ w a. h w a ∙ e)))
    type_told (UnionTy s t) n v u d wr right is h =
        let f = holds named s v n in let g = holds named t v f.count in
        let later = means_later n f.count u u v d (grows s v n) (agree_refl n u) h in
        some_means u (f.term ∷ g.term ∷ [])
        ∙ ap (λ (b : Bool). b || (true_at u g.term || false)) (type_told s n v u d wr.0 right is h)
        ∙ ap (λ (b : Bool). is_in members s d || b) (or_end (true_at u g.term) ∙ type_told t f.count v u d wr.1 right is later)
    type_told (InterTy s t) n v u d wr right is h =
        let f = holds named s v n in let g = holds named t v f.count in
        let later = means_later n f.count u u v d (grows s v n) (agree_refl n u) h in
        all_means u (f.term ∷ g.term ∷ [])
        ∙ ap (λ (b : Bool). b && (true_at u g.term && true)) (type_told s n v u d wr.0 right is h)
        ∙ ap (λ (b : Bool). is_in members s d && b) (and_end (true_at u g.term) ∙ type_told t f.count v u d wr.1 right is later)
    type_told (NotTy t) n v u d wr right is h = denied_means u (holds named t v n).term ∙ ap not (type_told t n v u d wr right is h)
    type_told (NamedTy number) n v u d wr right is h = told number n v u d right is h
    type_told (NormalTy union) n v u d wr right is h = absurd wr

    fields_told : (fields : FieldTys) (n : ℕ) (v : Term) (u : Names) (whole fs : Fields) → AreWritten fields → u.is_member ≡ members → IsOf val_sort v → Means n u v (Record whole) → shapes.has_names fs (names_of fields) ≡ true → Finds whole fs
        → all u (fields_hold named fields v n).terms ≡ fields_in members fields fs
    fields_told NoFieldTys n v u whole no_fields wr right is h e f = refl
    fields_told NoFieldTys n v u whole (field o d fs) wr right is h e f = absurd cc
    fields_told (MoreFieldTys name t fields) n v u whole no_fields wr right is h e f = absurd cc
    fields_told (MoreFieldTys name t fields) n v u whole (field o d fs) wr right is h e f =
        let two = and_true (bytes_eq o name) (shapes.has_names fs (names_of fields)) e in
        let first = holds named t (field_term name v) n in
        let g = grows t (field_term name v) n in
        let here : Means n u (field_term name v) d = λ w a.
        field_means w name v ∙ ap (λ (x : Datum). shapes.field_in x name) (h w a) ∙ subst (λ (x : List ℕ). shapes.field_of whole x ≡ d) (same_bytes o name two.0) f.0 in
        ap (λ (b : Bool). b && all u (fields_hold named fields v first.count).terms) (type_told t n (field_term name v) u d wr.0 right (field_sorted name is) here)
        ∙ ap (λ (b : Bool). is_in members t d && b) (fields_told fields first.count v u whole fs wr.1 right is (means_later n first.count u u v (Record whole) g (agree_refl n u) h) two.1 f.1)
