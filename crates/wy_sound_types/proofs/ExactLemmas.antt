-- Where no type with clauses is reached, both readings of a type are the same.
use Rattle.std.proofs.Common.{◌≡◌, ◌<◌, ◌≤◌, ◌⊎◌, inl, inr, refl, sym, ◌∙◌, ap, ℕ, zero, suc, List, Bool, true, false, length, is_some, slice_get, subst}
use Rattle.std.specs.Prelude.{Option, Some, None, not, ◌&&◌, ◌||◌}
use Rattle.std.specs.Str.{bytes_eq}
use Rattle.std.proofs.lemmas.Bool.{cases_lt, or_cases, or_left, or_right}
use Rattle.wy_lemmas.proofs.Choices.{or_false, false_true as false_not_true}
use Rattle.wy_lemmas.proofs.Equations.{both_same}
use Rattle.wy_sem.proofs.SharedLemmas.{alias_past}
use Rattle.wy_value.specs.Datum.{Datum, Null, Truth, Whole, Array, Record, Data, no_items, item, Fields, no_fields, field}
use Rattle.wy_value.specs.Values.{names_of}
use Rattle.wy_core.specs.Types.{Ty, NullTy, BoolTy, IntTy, AnyTy, VoidTy, RecordTy, ArrayTy, UnionTy, InterTy, NotTy, NamedTy, NormalTy, FieldTys, NoFieldTys, MoreFieldTys}
use Rattle.wy_core.specs.CoreTree.{Alias}
use Rattle.wy_types.specs.Shape.{Shape, NullShape, BoolShape, IntShape, ArrayShape, RecordShape}
use Rattle.wy_types.specs.Names.{Declared, ty_in, declared_in, named_in, is_array, is_record_with, each_in_ty, fields_in_tys, is_in_ty, item_readers, field_readers, Up, Down}
use Rattle.wy_sem.specs.TypeTests.{has_clauses, alias_at, mentions, mentions_fields, is_constrained_name, is_constrained}
use Rattle.wy_graph.proofs.reach_lemmas.BoundedLemmas.{Grows, bounded}
use Rattle.wy_vc_laws.specs.grounded.Uses.{NamesAll, AllNamesAll}
use Rattle.wy_sound_types.proofs.ReadingLemmas.{Fits}

-- ---- names in types

mutual
  none_mentioned : (p : ℕ → Bool) (t : Ty) → mentions p t ≡ false → NamesAll (λ n. p n ≡ false) t
  none_mentioned p NullTy h = tt
  none_mentioned p BoolTy h = tt
  none_mentioned p IntTy h = tt
  none_mentioned p AnyTy h = tt
  none_mentioned p VoidTy h = tt
  none_mentioned p (RecordTy fields) h = none_in_fields p fields h
  none_mentioned p (ArrayTy t) h = none_mentioned p t h
  none_mentioned p (UnionTy s t) h = let two = or_false (mentions p s) (mentions p t) h in (none_mentioned p s two.0, none_mentioned p t two.1)
  none_mentioned p (InterTy s t) h = let two = or_false (mentions p s) (mentions p t) h in (none_mentioned p s two.0, none_mentioned p t two.1)
  none_mentioned p (NotTy t) h = none_mentioned p t h
  none_mentioned p (NamedTy n) h = h
  none_mentioned p (NormalTy union) h = tt

  none_in_fields : (p : ℕ → Bool) (fields : FieldTys) → mentions_fields p fields ≡ false → AllNamesAll (λ n. p n ≡ false) fields
  none_in_fields p NoFieldTys h = tt
  none_in_fields p (MoreFieldTys name t fields) h = let two = or_false (mentions p t) (mentions_fields p fields) h in (none_mentioned p t two.0, none_in_fields p fields two.1)

mutual
  pub all_names : (P Q : ℕ → Type 0) → ((n : ℕ) → P n → Q n) → (t : Ty) → NamesAll P t → NamesAll Q t
  all_names P Q f NullTy h = tt
  all_names P Q f BoolTy h = tt
  all_names P Q f IntTy h = tt
  all_names P Q f AnyTy h = tt
  all_names P Q f VoidTy h = tt
  all_names P Q f (RecordTy fields) h = all_in_fields P Q f fields h
  all_names P Q f (ArrayTy t) h = all_names P Q f t h
  all_names P Q f (UnionTy s t) h = (all_names P Q f s h.0, all_names P Q f t h.1)
  all_names P Q f (InterTy s t) h = (all_names P Q f s h.0, all_names P Q f t h.1)
  all_names P Q f (NotTy t) h = all_names P Q f t h
  all_names P Q f (NamedTy n) h = f n h
  all_names P Q f (NormalTy union) h = tt

  pub all_in_fields : (P Q : ℕ → Type 0) → ((n : ℕ) → P n → Q n) → (fields : FieldTys) → AllNamesAll P fields → AllNamesAll Q fields
  all_in_fields P Q f NoFieldTys h = tt
  all_in_fields P Q f (MoreFieldTys name t fields) h = (all_names P Q f t h.0, all_in_fields P Q f fields h.1)

or_grows : (a b c d : Bool) → (a ≡ true → c ≡ true) → (b ≡ true → d ≡ true) → (a || b) ≡ true → (c || d) ≡ true
or_grows a b c d p q h = by (or_cases a b h) where
  by : (a ≡ true) ⊎ (b ≡ true) → (c || d) ≡ true
  by (inl e) = or_left c d (p e)
  by (inr e) = or_right c d (q e)

mutual
  mentions_more : (p q : ℕ → Bool) → ((n : ℕ) → p n ≡ true → q n ≡ true) → (t : Ty) → mentions p t ≡ true → mentions q t ≡ true
  mentions_more p q f NullTy h = h
  mentions_more p q f BoolTy h = h
  mentions_more p q f IntTy h = h
  mentions_more p q f AnyTy h = h
  mentions_more p q f VoidTy h = h
  mentions_more p q f (RecordTy fields) h = fields_more p q f fields h
  mentions_more p q f (ArrayTy t) h = mentions_more p q f t h
  mentions_more p q f (UnionTy s t) h = or_grows (mentions p s) (mentions p t) (mentions q s) (mentions q t) (mentions_more p q f s) (mentions_more p q f t) h
  mentions_more p q f (InterTy s t) h = or_grows (mentions p s) (mentions p t) (mentions q s) (mentions q t) (mentions_more p q f s) (mentions_more p q f t) h
  mentions_more p q f (NotTy t) h = mentions_more p q f t h
  mentions_more p q f (NamedTy n) h = f n h
  mentions_more p q f (NormalTy union) h = h

  fields_more : (p q : ℕ → Bool) → ((n : ℕ) → p n ≡ true → q n ≡ true) → (fields : FieldTys) → mentions_fields p fields ≡ true → mentions_fields q fields ≡ true
  fields_more p q f NoFieldTys h = h
  fields_more p q f (MoreFieldTys name t fields) h = or_grows (mentions p t) (mentions_fields p fields) (mentions q t) (mentions_fields q fields) (mentions_more p q f t) (fields_more p q f fields) h

-- ---- types from which none with clauses is reached

not_then : (a b : Bool) → (b ≡ true → a ≡ true) → a ≡ false → b ≡ false
not_then a true f e = sym (f refl) ∙ e
not_then a false f e = refl

module _ {N : Type 0} (types : List (Alias N)) where
  abbrev held : ℕ → ℕ → Bool
  held = is_constrained_name types

  held_below : (j n : ℕ) → held j n ≡ true → n < length types
  held_below zero n h = false_not_true h
  held_below (suc j) n h = by (cases_lt n (length types)) where
    by : (n < length types) ⊎ (length types ≤ n) → n < length types
    by (inl less) = less
    by (inr past) = false_not_true (subst (λ (a : Alias N). (has_clauses a.clauses || mentions (held j) a.ty) ≡ true) (alias_past types n past) h)

  grows : Grows held (length types)
  grows = record {
    empty = λ n h. false_not_true h;
    steps = λ i j up n h. or_grows (has_clauses (alias_at types n).clauses) (mentions (held i) (alias_at types n).ty) (has_clauses (alias_at types n).clauses) (mentions (held j) (alias_at types n).ty) (λ e. e) (mentions_more (held i) (held j) up (alias_at types n).ty) h;
    within = held_below;
  }

  abbrev IsFree : ℕ → Type 0
  IsFree n = held (suc (length types)) n ≡ false

  still_free : (n : ℕ) → held (length types) n ≡ false → IsFree n
  still_free n h = not_then (held (length types) n) (held (suc (length types)) n) (bounded held (length types) grows (suc (length types)) n) h

  free_names : (n : ℕ) → IsFree n → (has_clauses (alias_at types n).clauses ≡ false) × NamesAll IsFree (alias_at types n).ty
  free_names n h =
      let a = alias_at types n in
      let two = or_false (has_clauses a.clauses) (mentions (held (length types)) a.ty) h in
      (two.0, all_names (λ m. held (length types) m ≡ false) IsFree still_free a.ty (none_mentioned (held (length types)) a.ty two.1))

  -- ---- readings

  module _ (names : List Declared) (found : (n : ℕ) → Fits (slice_get names n) (alias_at types n)) (variables : (n : ℕ) → is_some (alias_at types n).variable ≡ has_clauses (alias_at types n).clauses) where
    record Alike (shape : Shape Ty) : Type 0 where
      items : (t : Ty) → NamesAll IsFree t → is_array shape true t ≡ is_array shape false t
      parts : (fields : FieldTys) → AllNamesAll IsFree fields → is_record_with shape true fields ≡ is_record_with shape false fields

    type_exact : (read : Bool → ℕ → Bool) (shape : Shape Ty) → Alike shape → ((n : ℕ) → IsFree n → read true n ≡ read false n) → (t : Ty) → NamesAll IsFree t → ty_in read shape true t ≡ ty_in read shape false t
    type_exact read shape h hn NullTy f = refl
    type_exact read shape h hn BoolTy f = refl
    type_exact read shape h hn IntTy f = refl
    type_exact read shape h hn AnyTy f = refl
    type_exact read shape h hn VoidTy f = refl
    type_exact read shape h hn (RecordTy fields) f = h.parts fields f
    type_exact read shape h hn (ArrayTy t) f = h.items t f
    type_exact read shape h hn (UnionTy s t) f =
        both_same (λ (x y : Bool). x || y) (ty_in read shape true s) (ty_in read shape false s) (ty_in read shape true t) (ty_in read shape false t) (type_exact read shape h hn s f.0) (type_exact read shape h hn t f.1)
    type_exact read shape h hn (InterTy s t) f =
        both_same (λ (x y : Bool). x && y) (ty_in read shape true s) (ty_in read shape false s) (ty_in read shape true t) (ty_in read shape false t) (type_exact read shape h hn s f.0) (type_exact read shape h hn t f.1)
    type_exact read shape h hn (NotTy t) f = ap not (sym (type_exact read shape h hn t f))
    type_exact read shape h hn (NamedTy n) f = hn n f
    type_exact read shape h hn (NormalTy union) f = refl

    open_up : (up : Bool) (b : Bool) → ((up || not false) && b) ≡ b
    open_up true b = refl
    open_up false b = refl

    names_exact : (shape : Shape Ty) → Alike shape → (j n : ℕ) → IsFree n → named_in names j shape true n ≡ named_in names j shape false n
    names_exact shape h zero n f = refl
    names_exact shape h (suc j) n f = by (λ m g. names_exact shape h j m g) (slice_get names n) (found n) where
      free : (has_clauses (alias_at types n).clauses ≡ false) × NamesAll IsFree (alias_at types n).ty
      free = free_names n f

      by : ((m : ℕ) → IsFree m → named_in names j shape true m ≡ named_in names j shape false m) → (o : Option Declared) → Fits o (alias_at types n) → declared_in (named_in names j shape) shape true o ≡ declared_in (named_in names j shape) shape false o
      by inner None fits = refl
      by inner (Some e) fits =
          let none : e.constrained ≡ false = fits.1 ∙ (variables n ∙ free.0) in
          let body : ty_in (named_in names j shape) shape true e.ty ≡ ty_in (named_in names j shape) shape false e.ty =
          type_exact (named_in names j shape) shape h inner e.ty (subst (NamesAll IsFree) (sym fits.0) free.1) in
          body
          ∙ sym (ap (λ (c : Bool). (false || not c) && ty_in (named_in names j shape) shape false e.ty) none ∙ open_up false (ty_in (named_in names j shape) shape false e.ty))

    here_exact : (shape : Shape Ty) → Alike shape → (t : Ty) → NamesAll IsFree t → is_in_ty names shape true t ≡ is_in_ty names shape false t
    here_exact shape h t f = type_exact (named_in names (length names) shape) shape h (λ n g. names_exact shape h (length names) n g) t f

    mutual
      exact : (d : Datum) (t : Ty) → NamesAll IsFree t → Up names d t ≡ Down names d t
      exact Null t f = here_exact NullShape (record { items = λ u g. refl; parts = λ us g. refl }) t f
      exact (Truth c) t f = here_exact BoolShape (record { items = λ u g. refl; parts = λ us g. refl }) t f
      exact (Whole z) t f = here_exact IntShape (record { items = λ u g. refl; parts = λ us g. refl }) t f
      exact (Array ds) t f = here_exact (ArrayShape (item_readers names ds)) (record { items = λ u g. items_exact ds u g; parts = λ us g. refl }) t f
      exact (Record fs) t f = here_exact (RecordShape (names_of fs) (field_readers names fs)) (record { items = λ u g. refl; parts = λ us g. parts_exact fs us g }) t f

      items_exact : (ds : Data) (t : Ty) → NamesAll IsFree t → each_in_ty (item_readers names ds) true t ≡ each_in_ty (item_readers names ds) false t
      items_exact no_items t f = refl
      items_exact (item d ds) t f =
          both_same (λ (x y : Bool). x && y) (Up names d t) (Down names d t) (each_in_ty (item_readers names ds) true t) (each_in_ty (item_readers names ds) false t) (exact d t f) (items_exact ds t f)

      parts_exact : (fs : Fields) (us : FieldTys) → AllNamesAll IsFree us → fields_in_tys (names_of fs) (field_readers names fs) true us ≡ fields_in_tys (names_of fs) (field_readers names fs) false us
      parts_exact no_fields NoFieldTys f = refl
      parts_exact no_fields (MoreFieldTys o t us) f = refl
      parts_exact (field n d fs) NoFieldTys f = refl
      parts_exact (field n d fs) (MoreFieldTys o t us) f =
          ap (λ (b : Bool). bytes_eq n o && b)
          (both_same (λ (x y : Bool). x && y) (Up names d t) (Down names d t) (fields_in_tys (names_of fs) (field_readers names fs) true us) (fields_in_tys (names_of fs) (field_readers names fs) false us) (exact d t f.0) (parts_exact fs us f.1))

    pub readings_same : (t : Ty) → is_constrained types t ≡ false → (d : Datum) → Up names d t ≡ Down names d t
    readings_same t h d = exact d t (none_mentioned (held (suc (length types))) t h)
