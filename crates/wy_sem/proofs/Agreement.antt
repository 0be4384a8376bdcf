-- Where no type with clauses is reached, membership is both readings.
use Rattle.std.proofs.Common.{◌≡◌, refl, sym, ◌∙◌, ap, ℕ, zero, suc, ◌-◌, ◌^◌, ◌≤◌, List, [], ◌∷◌, Bool, true, false, length, arith, ◌≤ℤ◌, slice_get, is_some}
use Rattle.std.specs.Prelude.{Option, Some, None, not, ◌&&◌, ◌||◌, ℤ}
use Rattle.std.specs.Str.{bytes_eq}
use Rattle.std.proofs.lemmas.Int.{ints}
use Rattle.wy_term.proofs.wy_lemmas_proofs.Choices.{and_end as and-true, at_most_test}
use Rattle.wy_term.specs.wy_value.Datum.{Datum, Null, Truth, Whole, Array, Record, Data, no_items, item, Fields, no_fields, field}
use Rattle.wy_term.specs.wy_value.Values.{IsValue, AreValues, AreValueFields, names_of, length_of}
use Rattle.wy_term.specs.wy_value.declared.bounds.TheConstants.{INT_MIN, INT_MAX}
use Rattle.wy_types.specs.wy_core.Types.{Ty, NullTy, BoolTy, IntTy, AnyTy, VoidTy, RecordTy, ArrayTy, UnionTy, InterTy, NotTy, NamedTy, NormalTy, FieldTys, NoFieldTys, MoreFieldTys}
use Rattle.wy_types.specs.wy_core.CoreTree.{Expr, Alias, AliasDecl, RoutineDecl, Core, aliases_of}
use Rattle.wy_types.specs.Shape as shapes
use Rattle.wy_types.specs.Shape.{Shape, NullShape, BoolShape, IntShape, ArrayShape, RecordShape}
use Rattle.wy_types.specs.Names.{Declared, names_in, ty_in, declared_in, named_in, is_in_ty, each_in_ty, is_array, fields_in_tys, is_record_with, shape_of, item_readers, field_readers}
use Rattle.wy_sem.specs.Meter.{Meter}
use Rattle.wy_sem.specs.Operations.{longest}
use Rattle.wy_sem.specs.Expressions.{Store, Setting}
use Rattle.wy_sem.specs.TypeTests.{is_null, is_truth, is_whole, same_names, few_enough, alias_at, has_clauses, all_hold, clause_setting, unset, set_if}
use Rattle.wy_sem.specs.Membership.{belongs, name_belongs, belongs_of, is_in, items_in, parts_in, is_yes, meaning_of}
use Rattle.wy_sem.specs.Readings.{Names, FieldNames, IsFree, AreFree, ReadingsAgree}

-- ---- truth values

and-swapped : (a b c d : Bool) → a ≡ d → b ≡ true → c ≡ true → (a && b) ≡ (c && d)
and-swapped a b c d p q r = rw (p, q, r) (and-true d)

or-true : (up b : Bool) → b ≡ false → (up || not b) ≡ true
or-true true b h = refl
or-true false b h = rw h refl

and-after : (a b c : Bool) → a ≡ true → b ≡ c → (a && b) ≡ c
and-after a b c p q = rw (p, q) refl

and-between : (a s i p r f : Bool) → i ≡ r → (s && p) ≡ f → ((a && s) && (i && p)) ≡ (a && (r && f))
and-between false s i p r f h g = refl
and-between true true i p r f h g = rw (h, g) refl
and-between true false false p r f h g = let e : r ≡ false = sym h in rw e refl
and-between true false true p r f h g = let e : r ≡ true = cc in let z : f ≡ false = cc in rw (e, z) refl

-- ---- numbers and lengths

whole-int : (z : ℤ) → (INT_MIN ≤ℤ z) × (z ≤ℤ INT_MAX) → is_whole (Whole z) ≡ true
whole-int z h = rw (at_most_test INT_MIN z h.0, at_most_test z INT_MAX h.1) refl

short : (ds : Data) → length_of ds ≤ 2 ^ 63 - 1 → few_enough ds ≡ true
unfolding longest
short ds h = grind (arith, ints)

-- ---- clauses

no_clause-yes : {N : Type 0} (w : Setting N) (es : List (Expr N)) (s : Store) (m : Meter) → has_clauses es ≡ false → is_yes (all_hold w false es s m) ≡ true
no_clause-yes w [] s m h = refl
no_clause-yes w (e ∷ es) s m h = absurd (cc)

-- ---- the declared types of a program, by their numbers

-- a number that has a type finds it in both lists, and one that has none stands for nothing in both
abbrev Fits : {N : Type 0} → Option Declared → Alias N → Type 0
Fits None a = a.ty ≡ VoidTy
Fits (Some d) a = (d.ty ≡ a.ty) × (d.constrained ≡ is_some a.variable)

found : {N : Type 0} (core : Core N) (n : ℕ) → Fits (slice_get (names_in core) n) (alias_at (aliases_of core) n)
found [] n = refl
found (AliasDecl a ∷ ds) zero = (refl, refl)
found (AliasDecl a ∷ ds) (suc n) = found ds n
found (RoutineDecl r ∷ ds) n = found ds n

as_many : {N : Type 0} (core : Core N) → length (names_in core) ≡ length (aliases_of core)
as_many [] = refl
as_many (AliasDecl a ∷ ds) = ap suc (as_many ds)
as_many (RoutineDecl r ∷ ds) = as_many ds

-- ---- the readings

module _ {N : Type 0} (place : N → ℕ) (core : Core N) (free : ℕ → Bool) (are_free : AreFree core free) where
  -- what is known of a value's parts is the same
  record Alike (d : Datum) (items : Ty → Bool) (parts : FieldTys → Bool) (shape : Shape Ty) : Type 0 where
    nulls : is_null d ≡ shapes.is_null shape
    truths : is_truth d ≡ shapes.is_bool shape
    wholes : is_whole d ≡ shapes.is_int shape
    item_readings : (t : Ty) → Names (λ n. free n ≡ true) t → (up : Bool) → items t ≡ is_array shape up t
    field_readings : (fs : FieldTys) → FieldNames (λ n. free n ≡ true) fs → (up : Bool) → parts fs ≡ is_record_with shape up fs

  belongs-reads : (named : ℕ → Bool) (read : Bool → ℕ → Bool) (d : Datum) (items : Ty → Bool) (parts : FieldTys → Bool) (shape : Shape Ty) → Alike d items parts shape
      → ((n : ℕ) → free n ≡ true → (up : Bool) → named n ≡ read up n) → (t : Ty) → Names (λ n. free n ≡ true) t → (up : Bool) → belongs named d items parts t ≡ ty_in read shape up t
  belongs-reads named read d items parts shape h hn NullTy ns up = h.nulls
  belongs-reads named read d items parts shape h hn BoolTy ns up = h.truths
  belongs-reads named read d items parts shape h hn IntTy ns up = h.wholes
  belongs-reads named read d items parts shape h hn AnyTy ns up = refl
  belongs-reads named read d items parts shape h hn VoidTy ns up = refl
  belongs-reads named read d items parts shape h hn (RecordTy fields) ns up = h.field_readings fields ns up
  belongs-reads named read d items parts shape h hn (ArrayTy t) ns up = h.item_readings t ns up
  belongs-reads named read d items parts shape h hn (UnionTy s t) ns up =
      let a : belongs named d items parts s ≡ ty_in read shape up s = belongs-reads named read d items parts shape h hn s ns.0 up in
      let b : belongs named d items parts t ≡ ty_in read shape up t = belongs-reads named read d items parts shape h hn t ns.1 up in cc
  belongs-reads named read d items parts shape h hn (InterTy s t) ns up =
      let a : belongs named d items parts s ≡ ty_in read shape up s = belongs-reads named read d items parts shape h hn s ns.0 up in
      let b : belongs named d items parts t ≡ ty_in read shape up t = belongs-reads named read d items parts shape h hn t ns.1 up in cc
  belongs-reads named read d items parts shape h hn (NotTy t) ns up = ap not (belongs-reads named read d items parts shape h hn t ns (not up))
  belongs-reads named read d items parts shape h hn (NamedTy n) ns up = hn n ns up
  belongs-reads named read d items parts shape h hn (NormalTy union) ns up = absurd ns

  -- a name that is found, with its definition
  name-reads : (named : ℕ → Bool) (read : Bool → ℕ → Bool) (d : Datum) (items : Ty → Bool) (parts : FieldTys → Bool) (shape : Shape Ty) → Alike d items parts shape
      → ((n : ℕ) → free n ≡ true → (up : Bool) → named n ≡ read up n) → (o : Option Declared) (a : Alias N) → Fits o a → Names (λ n. free n ≡ true) a.ty → is_some a.variable ≡ false
      → (holds : Bool) → holds ≡ true → (up : Bool) → (belongs named d items parts a.ty && holds) ≡ declared_in read shape up o
  name-reads named read d items parts shape h hn None a fits ns var holds held up = rw fits refl
  name-reads named read d items parts shape h hn (Some e) a fits ns var holds held up =
      let same : e.ty ≡ a.ty = fits.0 in let no : e.constrained ≡ false = fits.1 ∙ var in
      let body : belongs named d items parts a.ty ≡ ty_in read shape up e.ty = rw same (belongs-reads named read d items parts shape h hn a.ty ns up) in
      and-swapped _ _ _ _ body held (or-true up e.constrained no)

  names-read : (d : Datum) (items : Ty → Bool) (parts : FieldTys → Bool) (shape : Shape Ty) → Alike d items parts shape
      → (j n : ℕ) → free n ≡ true → (up : Bool) → name_belongs (meaning_of place (aliases_of core)) d items parts j n ≡ named_in (names_in core) j shape up n
  names-read d items parts shape h zero n e up = refl
  names-read d items parts shape h (suc j) n e up =
      let it : IsFree core free n = are_free n e in let a : Alias N = alias_at (aliases_of core) n in
      name-reads _ _ d items parts shape h (λ i g u. names-read d items parts shape h j i g u) (slice_get (names_in core) n) a (found core n) it.names it.variable
      _ (no_clause-yes (clause_setting place None (aliases_of core)) a.clauses (set_if (unset a.variables) a.variable (Some d)) (record { ticks = 0; turns = 0; output = [] }) it.clauses) up

  here-reads : (d : Datum) (items : Ty → Bool) (parts : FieldTys → Bool) (shape : Shape Ty) → Alike d items parts shape
      → (t : Ty) → Names (λ n. free n ≡ true) t → (up : Bool) → belongs_of (meaning_of place (aliases_of core)) d items parts t ≡ is_in_ty (names_in core) shape up t
  here-reads d items parts shape h t ns up = rw (as_many core) (belongs-reads _ _ d items parts shape h (λ n e u. names-read d items parts shape h (length (aliases_of core)) n e u) t ns up)

  mutual
    is_in-read : (d : Datum) → IsValue d → (t : Ty) → Names (λ n. free n ≡ true) t → (up : Bool)
        → is_in (meaning_of place (aliases_of core)) d t ≡ is_in_ty (names_in core) (shape_of (names_in core) d) up t
    is_in-read Null v t ns up = here-reads Null _ _ NullShape (record { nulls = refl; truths = refl; wholes = refl; item_readings = (λ u h w. refl); field_readings = (λ u h w. refl) }) t ns up
    is_in-read (Truth b) v t ns up =
        here-reads (Truth b) _ _ BoolShape (record { nulls = refl; truths = refl; wholes = refl; item_readings = (λ u h w. refl); field_readings = (λ u h w. refl) }) t ns up
    is_in-read (Whole z) v t ns up = here-reads (Whole z) _ _ IntShape (record { nulls = refl; truths = refl; wholes = whole-int z v; item_readings = (λ u h w. refl); field_readings = (λ u h w. refl) }) t ns up
    is_in-read (Array ds) v t ns up = here-reads (Array ds) _ _ (ArrayShape (item_readers (names_in core) ds))
        (record { nulls = refl; truths = refl; wholes = refl; item_readings = (λ u h w. and-after _ _ _ (short ds v.0) (items_in-read ds v.1 u h w)); field_readings = (λ u h w. refl) }) t ns up
    is_in-read (Record fs) v t ns up = here-reads (Record fs) _ _ (RecordShape (names_of fs) (field_readers (names_in core) fs))
        (record { nulls = refl; truths = refl; wholes = refl; item_readings = (λ u h w. refl); field_readings = (λ us h w. parts_in-read fs v.1 us h w) }) t ns up

    items_in-read : (ds : Data) → AreValues ds → (t : Ty) → Names (λ n. free n ≡ true) t → (up : Bool)
        → items_in (meaning_of place (aliases_of core)) ds t ≡ each_in_ty (item_readers (names_in core) ds) up t
    items_in-read no_items v t ns up = refl
    items_in-read (item d ds) v t ns up =
        let a : is_in (meaning_of place (aliases_of core)) d t ≡ is_in_ty (names_in core) (shape_of (names_in core) d) up t = is_in-read d v.0 t ns up in
        let b : items_in (meaning_of place (aliases_of core)) ds t ≡ each_in_ty (item_readers (names_in core) ds) up t = items_in-read ds v.1 t ns up in cc

    parts_in-read : (fs : Fields) → AreValueFields fs → (us : FieldTys) → FieldNames (λ n. free n ≡ true) us → (up : Bool)
        → (same_names fs us && parts_in (meaning_of place (aliases_of core)) fs us) ≡ fields_in_tys (names_of fs) (field_readers (names_in core) fs) up us
    parts_in-read no_fields v NoFieldTys ns up = refl
    parts_in-read no_fields v (MoreFieldTys o t us) ns up = refl
    parts_in-read (field n d fs) v NoFieldTys ns up = refl
    parts_in-read (field n d fs) v (MoreFieldTys o t us) ns up =
        and-between (bytes_eq n o) _ _ _ _ _ (is_in-read d v.1 t ns.0 up) (parts_in-read fs v.2 us ns.1 up)

-- membership is both readings
pub readings_agree : {N : Type 0} (place : N → ℕ) (core : Core N) → ReadingsAgree place core
readings_agree place core free are_free t names d value = record {
  upward = is_in-read place core free are_free d value t names true;
  downward = is_in-read place core free are_free d value t names false;
}
