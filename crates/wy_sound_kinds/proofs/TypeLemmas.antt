-- Types of variables under changes, and what readings of types say of data.
use Rattle.std.specs.Str.{bytes_eq}
use Rattle.std.proofs.Common.{◌≡◌, ◌⊎◌, inl, inr, ℕ, zero, suc, ◌+◌, ◌<◌, List, [], ◌∷◌, ◌++◌, length, Bool, true, false, cond, not, ◌&&◌, ◌||◌, ◌==◌, eqb-true, Option, Some, None, ℤ, refl, sym, ap, ◌∙◌, subst, arith}
use Rattle.wy_lemmas.proofs.Options.{some_same as same_some}
use Rattle.wy_lemmas.proofs.Choices.{or_left, both_true as two_true, or_right, apart_of}
use Rattle.wy_lemmas.proofs.Lists.{bytes_self, none_behind as nil_right}
pub use Rattle.wy_sound_kinds.proofs.frames_lemmas.FrameLemmas.{put_other}
use Rattle.wy_value.specs.Datum.{Datum, Null, Truth, Whole, Array, Record, Data, no_items, item, Fields, no_fields, field}
use Rattle.wy_value.specs.Seen.{data_of}
use Rattle.wy_value.specs.Values.{names_of}
use Rattle.wy_value.specs.Numbers.{is_int}
use Rattle.wy_core.specs.Types.{Ty, IntTy, BoolTy, ArrayTy, UnionTy, RecordTy}
use Rattle.wy_core.specs.CoreSeen.{field_tys_of}
use Rattle.wy_types.specs.Names.{Declared, Up, each_in_ty, fields_in_tys, item_readers, field_readers}
use Rattle.wy_types.specs.Recursion.{RecurThroughParts}
use Rattle.wy_flow_spec.specs.environment.Variables.{Environment, Changes, void_type, int_type, latest, with_change, type_of}
use Rattle.wy_flow_spec.specs.typing.Outcomes.{Outcome, Gives, Fails, Then, gave, stopped}
use Rattle.wy_flow_spec.specs.typing.Joins.{JoinedType}
use Rattle.wy_flow_spec.specs.typing.Narrowing.{EitherAll, Either, with_variables}
use Rattle.wy_flow_spec.specs.typing.Parts.{union_with, union_all}
use Rattle.wy_flow_spec.proofs.typing_lemmas.SingleLemmas.{given_or}
use Rattle.wy_sound_walks.specs.wy_sem.Operations.{copies}
use Rattle.wy_sound_walks.specs.wy_sem.Expressions.{Store, slot, put}
use Rattle.wy_types_laws.proofs.parts_lemmas.NormLemmas.{norms_same}
use Rattle.wy_sound_kinds.specs.Bounded.{IsBounded}
use Rattle.wy_sound_kinds.specs.Ready.{with_one}
use Rattle.wy_sound_kinds.specs.Kinds.{HasValues, HasTypes}

-- ---- steps of the walk

abbrev Split : {X Y : Type 0} → (Outcome X → Type 0) → (X → Outcome Y → Type 0) → Outcome Y → Type 0
Split {X} m f (Gives y) = (x : X) × m (Gives x) × f x (Gives y)
Split m f (Fails e) = Unit {0}

split_of : {X Y : Type 0} (m : Outcome X → Type 0) (f : X → Outcome Y → Type 0) (o : Outcome Y) → Then m f o → Split m f o
split_of m f _ (gave x (Gives y) p q) = (x, p, q)
split_of m f _ (gave x (Fails e) p q) = tt
split_of m f _ (stopped e p) = tt

-- where both steps give a value, so does the first
pub then_gives : {X Y : Type 0} (m : Outcome X → Type 0) (f : X → Outcome Y → Type 0) (y : Y) → Then m f (Gives y) → (x : X) × m (Gives x) × f x (Gives y)
then_gives m f y h = split_of m f (Gives y) h

pub given_is : {X : Type 0} (x y : X) → Gives x ≡ Gives y → x ≡ y
given_is x y e = ap (given_or x) e

-- ---- lists

pub append_assoc : {X : Type 0} (xs ys zs : List X) → (xs ++ ys) ++ zs ≡ xs ++ (ys ++ zs)
append_assoc [] ys zs = refl
append_assoc (x ∷ xs) ys zs = ap (λ l. x ∷ l) (append_assoc xs ys zs)

-- ---- one more change

latest_more : (cs : Changes) (x : ℕ) (u : Ty) (y : ℕ) (t : Ty) → latest (cs ++ (x, u) ∷ []) y t ≡ cond (x == y) u (latest cs y t)
latest_more [] x u y t = refl
latest_more (c ∷ cs) x u y t = latest_more cs x u y (with_change t c y)

type_at : (b : Bool) (cs : Changes) (x : ℕ) (u : Ty) (y : ℕ) (t : Ty) → b ≡ true → cond b (latest (cs ++ (x, u) ∷ []) y t) void_type ≡ cond (x == y) u (cond b (latest cs y t) void_type)
type_at true cs x u y t e = latest_more cs x u y t
type_at false cs x u y t e = absurd cc

pub type_more : (env : Environment) (cs : Changes) (x : ℕ) (u : Ty) (y : ℕ) → env.reached ≡ true → type_of env (cs ++ (x, u) ∷ []) y ≡ cond (x == y) u (type_of env cs y)
type_more env cs x u y e = type_at env.reached cs x u y _ e

-- ---- stores

module _ (names : List Declared) (env : Environment) (seen : ℕ → Bool) (s : Store) where
  abbrev pub In : Changes → Type 0
  In over = HasTypes names env over seen s

  pub types_nothing : (over : Changes) → In over → In (over ++ [])
  types_nothing over h = subst In (sym (nil_right over)) h

  pub types_more : (a b c : Changes) → In ((a ++ b) ++ c) → In (a ++ (b ++ c))
  types_more a b c h = subst In (append_assoc a b c) h

  pub types_one : env.reached ≡ true → (over : Changes) (x : ℕ) (u : Ty) → In over → ((d : Datum) → seen x ≡ true → slot s x ≡ Some d → Up names d u ≡ true) → In (over ++ (x, u) ∷ [])
  types_one reached over x u h g y d see e = ap (Up names d) (type_more env over x u y reached) ∙ by (x == y) refl
    where
      by : (b : Bool) → (x == y) ≡ b → Up names d (cond b u (type_of env over y)) ≡ true
      by true q = let same = eqb-true x y q in g d (ap seen same ∙ see) (ap (slot s) same ∙ e)
      by false q = h y d see e

-- a datum that is in the one type or in the other is in what both are joined to
pub joined_in : (names : List Declared) → RecurThroughParts names → (at : ℕ) (a b t : Ty) → JoinedType names at a b (Gives t) → (d : Datum) → (Up names d a ≡ true) ⊎ (Up names d b ≡ true) → Up names d t ≡ true
joined_in names recur at a b t (inl h) d (inl e) = ap (Up names d) (given_is t a h.1) ∙ e
joined_in names recur at a b t (inl h) d (inr e) = ap (Up names d) (given_is t a h.1 ∙ h.0) ∙ e
joined_in names recur at a b t (inr h) d (inl e) = norms_same names recur (UnionTy a b) t h.1.1 d ∙ or_left (Up names d a) (Up names d b) e
joined_in names recur at a b t (inr h) d (inr e) = norms_same names recur (UnionTy a b) t h.1.1 d ∙ or_right (Up names d a) (Up names d b) e

module _ (names : List Declared) (recur : RecurThroughParts names) (env : Environment) (reached : env.reached ≡ true) (seen : ℕ → Bool) (s : Store) (at : ℕ) (over first second : Changes) where
  -- under either of two lists of changes
  pub either_all : (xs : List ℕ) (made out : Changes) → EitherAll names at env first second made xs (Gives out) → HasTypes names env (over ++ made) seen s
      → HasTypes names env first seen s ⊎ HasTypes names env second seen s → HasTypes names env (over ++ out) seen s
  either_all [] made out h i e = subst (λ (cs : Changes). HasTypes names env (over ++ cs) seen s) (sym (given_is out made h)) i
  either_all (x ∷ xs) made out h i e =
      let t = then_gives _ _ out h in
      either_all xs (made ++ (x, t.0) ∷ []) out t.2
      (types_more names env seen s over made ((x, t.0) ∷ []) (types_one names env seen s reached (over ++ made) x t.0 i
      (λ d see q. joined_in names recur at (type_of env first x) (type_of env second x) t.0 t.1 d (by d see q e))))
      e
    where
      by : (d : Datum) → seen x ≡ true → slot s x ≡ Some d → HasTypes names env first seen s ⊎ HasTypes names env second seen s → (Up names d (type_of env first x) ≡ true) ⊎ (Up names d (type_of env second x) ≡ true)
      by d see q (inl h) = inl (h x d see q)
      by d see q (inr h) = inr (h x d see q)

-- ---- the variable of a quantifier

pub put_length : (s : Store) (x : ℕ) (v : Option Datum) → length (put s x v) ≡ length s
put_length [] x v = refl
put_length (o ∷ s) zero v = refl
put_length (o ∷ s) (suc x) v = ap suc (put_length s x v)

pub put_same : (s : Store) (x : ℕ) (v : Option Datum) → x < length s → slot (put s x v) x ≡ v
put_same [] x v lt = absurd (omega arith)
put_same (o ∷ s) zero v lt = refl
put_same (o ∷ s) (suc x) v lt = put_same s x v (omega arith)

module _ (seen : ℕ → Bool) (s : Store) (x : ℕ) (i : ℤ) (lt : x < length s) where
  abbrev bound : Store
  bound = put s x (Some (Whole i))

  pub values_bound : is_int i ≡ true → HasValues seen s → HasValues (with_one x seen) bound
  values_bound int h y see = by (x == y) refl see
    where
      by : (b : Bool) → (x == y) ≡ b → (b || seen y) ≡ true → (d : Datum) × (slot bound y ≡ Some d) × IsBounded d
      by true q g = (Whole i, ap (slot bound) (sym (eqb-true x y q)) ∙ put_same s x (Some (Whole i)) lt, int)
      by false q g = let o = h y g in (o.0, put_other s x (Some (Whole i)) y (apart_of x y q) ∙ o.1, o.2)

  pub types_bound : (names : List Declared) (env : Environment) (over : Changes) → env.reached ≡ true → HasTypes names env over seen s → HasTypes names env (over ++ (x, int_type) ∷ []) (with_one x seen) bound
  types_bound names env over reached h y d see e = ap (Up names d) (type_more env over x int_type y reached) ∙ by (x == y) refl see
    where
      by : (b : Bool) → (x == y) ≡ b → (b || seen y) ≡ true → Up names d (cond b int_type (type_of env over y)) ≡ true
      by true q g =
          let is : Whole i ≡ d = same_some (Whole i) d (sym (put_same s x (Some (Whole i)) lt) ∙ (ap (slot bound) (eqb-true x y q) ∙ e)) in
          subst (λ (c : Datum). Up names c int_type ≡ true) is refl
      by false q g = h y d g (sym (put_other s x (Some (Whole i)) y (apart_of x y q)) ∙ e)

-- ---- lists and records

-- each datum is in the type at its place
abbrev pub AllIn : List Declared → List Ty → List Datum → Type 0
AllIn names [] [] = Unit {0}
AllIn names [] (v ∷ vs) = ⊥
AllIn names (t ∷ ts) [] = ⊥
AllIn names (t ∷ ts) (v ∷ vs) = (Up names v t ≡ true) × AllIn names ts vs

-- the datum is in one of the types
abbrev SomeIn : List Declared → List Ty → Datum → Type 0
SomeIn names [] d = ⊥
SomeIn names (t ∷ ts) d = (Up names d t ≡ true) ⊎ SomeIn names ts d

union_first : (names : List Declared) (t : Ty) (us : List Ty) (d : Datum) → Up names d t ≡ true → Up names d (union_with t us) ≡ true
union_first names t [] d e = e
union_first names t (u ∷ us) d e = union_first names (UnionTy t u) us d (or_left (Up names d t) (Up names d u) e)

union_later : (names : List Declared) (t : Ty) (us : List Ty) (d : Datum) → SomeIn names us d → Up names d (union_with t us) ≡ true
union_later names t [] d h = absurd h
union_later names t (u ∷ us) d (inl e) = union_first names (UnionTy t u) us d (or_right (Up names d t) (Up names d u) e)
union_later names t (u ∷ us) d (inr h) = union_later names (UnionTy t u) us d h

union_some : (names : List Declared) (t : Ty) (us : List Ty) (d : Datum) → SomeIn names (t ∷ us) d → Up names d (union_with t us) ≡ true
union_some names t us d (inl e) = union_first names t us d e
union_some names t us d (inr h) = union_later names t us d h

each_in : (names : List Declared) (big : Ty) (ts : List Ty) (vs : List Datum) → AllIn names ts vs → ((d : Datum) → SomeIn names ts d → Up names d big ≡ true) → each_in_ty (item_readers names (data_of vs)) true big ≡ true
each_in names big [] [] h g = refl
each_in names big [] (v ∷ vs) h g = absurd h
each_in names big (t ∷ ts) [] h g = absurd h
each_in names big (t ∷ ts) (v ∷ vs) h g = two_true (Up names v big) (each_in_ty (item_readers names (data_of vs)) true big) (g v (inl h.0)) (each_in names big ts vs h.1 (λ d i. g d (inr i)))

pub list_in : (names : List Declared) (ts : List Ty) (vs : List Datum) → AllIn names ts vs → Up names (Array (data_of vs)) (ArrayTy (union_all ts)) ≡ true
list_in names [] [] h = refl
list_in names [] (v ∷ vs) h = absurd h
list_in names (t ∷ ts) vs h = each_in names (union_with t ts) (t ∷ ts) vs h (λ d i. union_some names t ts d i)

pub copies_in : (names : List Declared) (t : Ty) (n : ℕ) (v : Datum) → Up names v t ≡ true → Up names (Array (copies n v)) (ArrayTy t) ≡ true
copies_in names t zero v e = refl
copies_in names t (suc n) v e = two_true (Up names v t) (each_in_ty (item_readers names (copies n v)) true t) e (copies_in names t n v e)

-- each field has the name and a value of the type at its place
abbrev pub FieldsIn : List Declared → List (List ℕ × Ty) → Fields → Type 0
FieldsIn names [] no_fields = Unit {0}
FieldsIn names [] (field name d ds) = ⊥
FieldsIn names (f ∷ fs) no_fields = ⊥
FieldsIn names (f ∷ fs) (field name d ds) = (name ≡ f.0) × (Up names d f.1 ≡ true) × FieldsIn names fs ds

pub record_in : (names : List Declared) (fs : List (List ℕ × Ty)) (ds : Fields) → FieldsIn names fs ds → Up names (Record ds) (RecordTy (field_tys_of fs)) ≡ true
record_in names [] no_fields h = refl
record_in names [] (field name d ds) h = absurd h
record_in names (f ∷ fs) no_fields h = absurd h
record_in names (f ∷ fs) (field name d ds) h =
    two_true _ _ (subst (λ (n : List ℕ). bytes_eq name n ≡ true) h.0 (bytes_self name))
    (two_true (Up names d f.1) (fields_in_tys (names_of ds) (field_readers names ds) true (field_tys_of fs)) h.1 (record_in names fs ds h.2))
