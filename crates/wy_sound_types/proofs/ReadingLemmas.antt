-- A type lies between its readings: what the downward one says the type says, and what the type says the upward one says, of data that a program may hold.
use Rattle.std.proofs.Common.{◌≡◌, refl, sym, ◌∙◌, ap, ℕ, zero, suc, ◌<◌, ◌≤◌, List, Bool, true, false, length, arith, is_some, slice_get, subst}
use Rattle.std.specs.Prelude.{Option, Some, None, not, ◌&&◌, ◌||◌}
use Rattle.std.specs.Str.{bytes_eq}
use Rattle.wy_lemmas.proofs.Choices.{not_true, both_parts as both_true, both_true as and_true, false_true as none_in}
use Rattle.wy_value.specs.Datum.{Datum, Null, Truth, Whole, Array, Record, Data, no_items, item, Fields, no_fields, field}
use Rattle.wy_value.specs.Values.{names_of}
use Rattle.wy_core.specs.Types.{Ty, NullTy, BoolTy, IntTy, AnyTy, VoidTy, RecordTy, ArrayTy, UnionTy, InterTy, NotTy, NamedTy, NormalTy, FieldTys, NoFieldTys, MoreFieldTys}
use Rattle.wy_core.specs.CoreTree.{Alias}
use Rattle.wy_types.specs.Shape as shapes
use Rattle.wy_types.specs.Shape.{Shape, NullShape, BoolShape, IntShape, ArrayShape, RecordShape}
use Rattle.wy_types.specs.Names.{Declared, ty_in, declared_in, named_in, is_array, is_record_with, each_in_ty, fields_in_tys, is_in_ty, item_readers, field_readers, Up, Down}
use Rattle.wy_types.specs.Recursion.{IsDeclaredBelow, HasBareBelow, IsOrdered}
use Rattle.wy_sem.specs.TypeTests.{is_null, is_truth, is_whole, same_names, alias_at}
use Rattle.wy_sound_statements.specs.wy_sound_walks.expressions.Types.{each_item, is_array_of, is_record_of, is_in, fields_in}
use Rattle.wy_sound_statements.specs.wy_sound_walks.expressions.Written.{IsWritten, AreWritten}
use Rattle.wy_sound_statements.specs.wy_sound_kinds.Bounded.{IsBounded, AreBounded, FieldsBounded}

-- ---- between two readings

pub record Between (low mid high : Bool) : Type 0 where
  pub low_in : low ≡ true → mid ≡ true
  pub in_high : mid ≡ true → high ≡ true

between_same : (b c : Bool) → c ≡ b → Between c b c
between_same b c e = record { low_in = λ h. sym e ∙ h; in_high = λ h. e ∙ h }

and_more : (a b c d : Bool) → (a ≡ true → b ≡ true) → (c ≡ true → d ≡ true) → (a && c) ≡ true → (b && d) ≡ true
and_more a b c d p q h = let two = both_true a c h in and_true b d (p two.0) (q two.1)

or_more : (a b c d : Bool) → (a ≡ true → b ≡ true) → (c ≡ true → d ≡ true) → (a || c) ≡ true → (b || d) ≡ true
or_more true b c d p q h = let e : b ≡ true = p refl in rw e refl
or_more false true c d p q h = refl
or_more false false c d p q h = q h

not_more : (a b : Bool) → (a ≡ true → b ≡ true) → not b ≡ true → not a ≡ true
not_more false b p h = refl
not_more true true p h = h
not_more true false p h = let e : false ≡ true = p refl in absurd cc

between_and : (a b c d e f : Bool) → Between a b c → Between d e f → Between (a && d) (b && e) (c && f)
between_and a b c d e f p q = record { low_in = and_more a b d e p.low_in q.low_in; in_high = and_more b c e f p.in_high q.in_high }

between_or : (a b c d e f : Bool) → Between a b c → Between d e f → Between (a || d) (b || e) (c || f)
between_or a b c d e f p q = record { low_in = or_more a b d e p.low_in q.low_in; in_high = or_more b c e f p.in_high q.in_high }

between_not : (a b c : Bool) → Between a b c → Between (not c) (not b) (not a)
between_not a b c p = record { low_in = not_more b c p.in_high; in_high = not_more a b p.low_in }

-- the names first, then the data
regroup : (a i p f : Bool) → (a && (i && (p && f))) ≡ ((a && p) && (i && f))
regroup false i p f = refl
regroup true false false f = refl
regroup true false true f = refl
regroup true true p f = refl

-- ---- declared types, by their numbers

-- what a number stands for, where it stands for something, is what the type with the number is
abbrev pub Fits : {N : Type 0} → Option Declared → Alias N → Type 0
Fits None a = (a.ty ≡ VoidTy)
Fits (Some e) a = (e.ty ≡ a.ty) × (e.constrained ≡ is_some a.variable)

-- data of a name that are in its definition, where its clauses hold
pub record Defines {N : Type 0} (types : List (Alias N)) (members : ℕ → Datum → Bool) (says : ℕ → Datum → Bool) : Type 0 where
  pub members_are : (n : ℕ) (d : Datum) → members n d ≡ (is_in members (alias_at types n).ty d && says n d)
  pub free : (n : ℕ) (d : Datum) → is_some (alias_at types n).variable ≡ false → says n d ≡ true

none_is : (e : Declared) → ◌≡◌ {A = Option Declared} None (Some e) → ⊥
none_is e q = absurd cc

module _ {N : Type 0} (names : List Declared) (types : List (Alias N)) (members says : ℕ → Datum → Bool) (found : (n : ℕ) → Fits (slice_get names n) (alias_at types n)) (defines : Defines types members says)
    (order : ℕ → ℕ) (ordered : IsOrdered names order) where
  -- what is known of a datum's parts
  record Alike (d : Datum) (shape : Shape Ty) : Type 0 where
    nulls : shapes.is_null shape ≡ is_null d
    truths : shapes.is_bool shape ≡ is_truth d
    wholes : shapes.is_int shape ≡ is_whole d
    items : (t : Ty) → IsWritten t → Between (is_array shape false t) (is_array_of (is_in members t) d) (is_array shape true t)
    parts : (fields : FieldTys) → AreWritten fields → Between (is_record_with shape false fields) (is_record_of (λ fs. same_names fs fields && fields_in members fields fs) d) (is_record_with shape true fields)

  type_between : (read : Bool → ℕ → Bool) (d : Datum) (shape : Shape Ty) → Alike d shape → (j : ℕ) → ((n : ℕ) → IsDeclaredBelow (order n) j (slice_get names n) → Between (read false n) (members n d) (read true n))
      → (t : Ty) → IsWritten t → HasBareBelow names order j t → Between (ty_in read shape false t) (is_in members t d) (ty_in read shape true t)
  type_between read d shape h j hn NullTy w b = between_same (is_null d) (shapes.is_null shape) h.nulls
  type_between read d shape h j hn BoolTy w b = between_same (is_truth d) (shapes.is_bool shape) h.truths
  type_between read d shape h j hn IntTy w b = between_same (is_whole d) (shapes.is_int shape) h.wholes
  type_between read d shape h j hn AnyTy w b = between_same true true refl
  type_between read d shape h j hn VoidTy w b = between_same false false refl
  type_between read d shape h j hn (RecordTy fields) w b = h.parts fields w.1
  type_between read d shape h j hn (ArrayTy t) w b = h.items t w
  type_between read d shape h j hn (UnionTy s t) w b =
      between_or (ty_in read shape false s) (is_in members s d) (ty_in read shape true s) (ty_in read shape false t) (is_in members t d) (ty_in read shape true t)
      (type_between read d shape h j hn s w.0 b.0) (type_between read d shape h j hn t w.1 b.1)
  type_between read d shape h j hn (InterTy s t) w b =
      between_and (ty_in read shape false s) (is_in members s d) (ty_in read shape true s) (ty_in read shape false t) (is_in members t d) (ty_in read shape true t)
      (type_between read d shape h j hn s w.0 b.0) (type_between read d shape h j hn t w.1 b.1)
  type_between read d shape h j hn (NotTy t) w b = between_not (ty_in read shape false t) (is_in members t d) (ty_in read shape true t) (type_between read d shape h j hn t w b)
  type_between read d shape h j hn (NamedTy n) w b = hn n b
  type_between read d shape h j hn (NormalTy union) w b = absurd w

  -- a name, by what it stands for
  name_between : (read : Bool → ℕ → Bool) (d : Datum) (shape : Shape Ty) (n : ℕ) (o : Option Declared) → slice_get names n ≡ o → Fits o (alias_at types n)
      → ((e : Declared) → o ≡ Some e → Between (ty_in read shape false e.ty) (is_in members e.ty d) (ty_in read shape true e.ty)) → Between (declared_in read shape false o) (members n d) (declared_in read shape true o)
  name_between read d shape n None is fits inner = record {
    low_in = λ h. none_in h;
    in_high = λ h. sym (ap (λ (b : Bool). b && says n d) (ap (λ (t : Ty). is_in members t d) fits)) ∙ (sym (defines.members_are n d) ∙ h);
  }
  name_between read d shape n (Some e) is fits inner =
      let here = inner e refl in
      let body : is_in members e.ty d ≡ is_in members (alias_at types n).ty d = ap (λ (t : Ty). is_in members t d) fits.0 in
      record {
        low_in = λ h.
            let two = both_true (not e.constrained) (ty_in read shape false e.ty) h in
            let none : is_some (alias_at types n).variable ≡ false = sym fits.1 ∙ not_true e.constrained two.0 in
            defines.members_are n d ∙ and_true (is_in members (alias_at types n).ty d) (says n d) (sym body ∙ here.low_in two.1) (defines.free n d none);
        in_high = λ h.
            let two = both_true (is_in members (alias_at types n).ty d) (says n d) (sym (defines.members_are n d) ∙ h) in
            here.in_high (body ∙ two.0);
      }

  names_between : (d : Datum) (shape : Shape Ty) → Alike d shape → ((n : ℕ) (e : Declared) → slice_get names n ≡ Some e → IsWritten e.ty) → (j n : ℕ) → IsDeclaredBelow (order n) j (slice_get names n)
      → Between (named_in names j shape false n) (members n d) (named_in names j shape true n)
  names_between d shape h written zero n b = at (slice_get names n) refl b where
    at : (o : Option Declared) → slice_get names n ≡ o → IsDeclaredBelow (order n) zero o → Between false (members n d) false
    at None e c = name_between (λ up m. false) d shape n None e (subst (λ (o : Option Declared). Fits o (alias_at types n)) e (found n)) (λ e2 q. absurd (none_is e2 q))
    at (Some e2) e c = absurd (omega (arith, c))
  names_between d shape h written (suc j) n b =
      name_between (named_in names j shape) d shape n (slice_get names n) refl (found n) (λ e is.
      let own = ordered n e is in
      let below : order n < suc j = declared_below n e is b in
      type_between (named_in names j shape) d shape h (order n) (λ m c. names_between d shape h written j m (lower m (order n) j (omega (arith, below)) (slice_get names m) c)) e.ty (written n e is) own.1) where
        declared_below : (n : ℕ) (e : Declared) → slice_get names n ≡ Some e → IsDeclaredBelow (order n) (suc j) (slice_get names n) → order n < suc j
        declared_below n e is c = subst (IsDeclaredBelow (order n) (suc j)) is c

        lower : (m i k : ℕ) → i ≤ k → (o : Option Declared) → IsDeclaredBelow (order m) i o → IsDeclaredBelow (order m) k o
        lower m i k le None c = tt
        lower m i k le (Some e) c = omega (arith, le, c)

  -- each name that stands for something is of an order below their number
  bare_all : (t : Ty) → HasBareBelow names order (length names) t
  bare_all NullTy = tt
  bare_all BoolTy = tt
  bare_all IntTy = tt
  bare_all AnyTy = tt
  bare_all VoidTy = tt
  bare_all (RecordTy fields) = tt
  bare_all (ArrayTy t) = tt
  bare_all (UnionTy s t) = (bare_all s, bare_all t)
  bare_all (InterTy s t) = (bare_all s, bare_all t)
  bare_all (NotTy t) = bare_all t
  bare_all (NamedTy n) = at (slice_get names n) refl where
    at : (o : Option Declared) → slice_get names n ≡ o → IsDeclaredBelow (order n) (length names) o
    at None e = tt
    at (Some d) e = (ordered n d e).0
  bare_all (NormalTy union) = tt

  module _ (written : (n : ℕ) (e : Declared) → slice_get names n ≡ Some e → IsWritten e.ty) where
    here_between : (d : Datum) (shape : Shape Ty) → Alike d shape → (t : Ty) → IsWritten t → Between (is_in_ty names shape false t) (is_in members t d) (is_in_ty names shape true t)
    here_between d shape h t w = type_between (named_in names (length names) shape) d shape h (length names) (λ n b. names_between d shape h written (length names) n b) t w (bare_all t)

    mutual
      pub between : (d : Datum) → IsBounded d → (t : Ty) → IsWritten t → Between (Down names d t) (is_in members t d) (Up names d t)
      between Null b t w = here_between Null NullShape (record { nulls = refl; truths = refl; wholes = refl; items = λ u v. between_same false false refl; parts = λ us v. between_same false false refl }) t w
      between (Truth c) b t w = here_between (Truth c) BoolShape (record { nulls = refl; truths = refl; wholes = refl; items = λ u v. between_same false false refl; parts = λ us v. between_same false false refl }) t w
      between (Whole z) b t w = here_between (Whole z) IntShape (record { nulls = refl; truths = refl; wholes = sym b; items = λ u v. between_same false false refl; parts = λ us v. between_same false false refl }) t w
      between (Array ds) b t w =
          here_between (Array ds) (ArrayShape (item_readers names ds))
          (record {
            nulls = refl;
            truths = refl;
            wholes = refl;
            items = λ u v.
                subst (λ (c : Bool). Between (each_in_ty (item_readers names ds) false u) (c && each_item (is_in members u) ds) (each_in_ty (item_readers names ds) true u)) (sym b.0) (items_between ds b.1 u v);
            parts = λ us v. between_same false false refl;
          }) t w
      between (Record fs) b t w =
          here_between (Record fs) (RecordShape (names_of fs) (field_readers names fs))
          (record { nulls = refl; truths = refl; wholes = refl; items = λ u v. between_same false false refl; parts = λ us v. parts_between fs b.1 us v }) t w

      items_between : (ds : Data) → AreBounded ds → (t : Ty) → IsWritten t → Between (each_in_ty (item_readers names ds) false t) (each_item (is_in members t) ds) (each_in_ty (item_readers names ds) true t)
      items_between no_items b t w = between_same true true refl
      items_between (item d ds) b t w =
          between_and (Down names d t) (is_in members t d) (Up names d t) (each_in_ty (item_readers names ds) false t) (each_item (is_in members t) ds) (each_in_ty (item_readers names ds) true t)
          (between d b.0 t w) (items_between ds b.1 t w)

      parts_between : (fs : Fields) → FieldsBounded fs → (us : FieldTys) → AreWritten us
          → Between (fields_in_tys (names_of fs) (field_readers names fs) false us) (same_names fs us && fields_in members us fs) (fields_in_tys (names_of fs) (field_readers names fs) true us)
      parts_between no_fields b NoFieldTys w = between_same true true refl
      parts_between no_fields b (MoreFieldTys o t us) w = between_same false false refl
      parts_between (field n d fs) b NoFieldTys w = between_same false false refl
      parts_between (field n d fs) b (MoreFieldTys o t us) w =
          let one = between d b.0 t w.0 in
          let rest = parts_between fs b.1 us w.1 in
          let both = between_and (Down names d t) (is_in members t d) (Up names d t) (fields_in_tys (names_of fs) (field_readers names fs) false us) (same_names fs us && fields_in members us fs) (fields_in_tys (names_of fs) (field_readers names fs) true us) one rest in
          let all = between_and (bytes_eq n o) (bytes_eq n o) (bytes_eq n o) (Down names d t && fields_in_tys (names_of fs) (field_readers names fs) false us) (is_in members t d && (same_names fs us && fields_in members us fs)) (Up names d t && fields_in_tys (names_of fs) (field_readers names fs) true us)
          (between_same (bytes_eq n o) (bytes_eq n o) refl) both in
          subst (λ (c : Bool). Between (bytes_eq n o && (Down names d t && fields_in_tys (names_of fs) (field_readers names fs) false us)) c (bytes_eq n o && (Up names d t && fields_in_tys (names_of fs) (field_readers names fs) true us)))
          (regroup (bytes_eq n o) (is_in members t d) (same_names fs us) (fields_in members us fs)) all
