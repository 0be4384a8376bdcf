-- A table of shapes with a name or a list more.
use Rattle.std.proofs.Common.{◌≡◌, ◌⊎◌, inl, inr, ℕ, zero, suc, ◌+◌, ◌<◌, List, [], ◌∷◌, ◌++◌, get_or, length, take, Option, Some, None, refl, sym, ◌∙◌, ap, subst, arith, slice_get, length-append}
use Rattle.std.proofs.lemmas.Option.{slice_get_within, get_or_from_slice_get}
use Rattle.std.specs.List.{All}
use Rattle.std.specs.Option.{MatchOption}
use Rattle.wy_data.specs.Words.{IsName}
use Rattle.wy_lemmas.proofs.Lists.{get_front as slice_get_more}
use Rattle.wy_value.specs.declared.shapes.Shapes.{Shapes}
use Rattle.wy_value.specs.declared.value.Value.{Value}
use Rattle.wy_value.specs.Shapes.{named, AreApart, IsShapes}
use Rattle.wy_value.specs.Seen.{seen_fields}
use Rattle.wy_value.specs.Values.{names_of, Rise, AreFields}
use Rattle.wy_heap.specs.Extending.{Extends, IsAbsent, AreNamed}
use Rattle.wy_heap.proofs.ImportLemmas.{named_extends}

-- ---- a list with one more at its end

last_at : {X : Type 0} (xs : List X) (x : X) (k : ℕ) (d : X) → k < length (xs ++ x ∷ []) → ((k < length xs) × (get_or (xs ++ x ∷ []) k d ≡ get_or xs k d)) ⊎ ((k ≡ length xs) × (get_or (xs ++ x ∷ []) k d ≡ x))
last_at [] x zero d below = inr (refl, refl)
last_at [] x (suc k) d below = absurd (omega arith)
last_at (y ∷ ys) x zero d below = inl (omega arith, refl)
last_at (y ∷ ys) x (suc k) d below = elim (last_at ys x k d (omega arith)) [
  | inl before ↦ inl (omega (arith, before.0), before.1)
  | inr last ↦ inr (omega (arith, last.0), last.1)
]

all_more : {X : Type 0} (P : X → Type 0) (xs : List X) (x : X) → All P xs → P x → All P (xs ++ x ∷ [])
all_more P xs x all here k d below = elim (last_at xs x k d below) [
  | inl before ↦ subst P (sym before.1) (all k d before.0)
  | inr last ↦ subst P (sym last.1) here
]

get_or_any : (xs : List (List ℕ)) (k : ℕ) (d e : List ℕ) → k < length xs → get_or xs k d ≡ get_or xs k e
get_or_any [] k d e below = absurd (omega arith)
get_or_any (x ∷ xs) zero d e below = refl
get_or_any (x ∷ xs) (suc k) d e below = get_or_any xs k d e (omega arith)

apart_more : (xs : List (List ℕ)) (x : List ℕ) → AreApart xs → IsAbsent xs x → AreApart (xs ++ x ∷ [])
apart_more xs x apart absent i j d first second =
    let many : length (xs ++ x ∷ []) ≡ length xs + 1 = length-append xs (x ∷ []) in
    elim (last_at xs x j d second) [
      | inl before ↦ elim (last_at xs x i d (omega arith)) [
        | inl one ↦ λ same. apart i j d first before.0 (sym one.1 ∙ same ∙ before.1)
        | inr last ↦ absurd (omega (arith, last.0, before.0))
      ]
      | inr last ↦ elim (last_at xs x i d (omega arith)) [
        | inl one ↦ λ same. absent i one.0 (get_or_any xs i [] d one.0 ∙ sym one.1 ∙ same ∙ last.1)
        | inr other ↦ absurd (omega (arith, last.0, other.0))
      ]
    ]

-- ---- a name more

pub name_extends : (t : Shapes) (x : List ℕ) → Extends t (record t { names = t.names ++ x ∷ [] })
name_extends t x = record { names = λ n y is. slice_get_more t.names (x ∷ []) n y is; lists = λ n l is. is }

in_range : (t : Shapes) (k : ℕ) (d : List ℕ) → IsShapes t → k < length t.lists → (i : ℕ) → i < length (get_or t.lists k d) → get_or (get_or t.lists k d) i 0 < length t.names
in_range t k d table below i within = table.numbers k d below i 0 within

pub name_table : (t : Shapes) (x : List ℕ) → IsShapes t → IsName x → IsAbsent t.names x → IsShapes (record t { names = t.names ++ x ∷ [] })
name_table t x table is_name absent =
    let more : length (t.names ++ x ∷ []) ≡ length t.names + 1 = length-append t.names (x ∷ []) in
    record {
      names = all_more IsName t.names x table.names is_name;
      names_apart = apart_more t.names x table.names_apart absent;
      lists_apart = table.lists_apart;
      numbers = λ k d below i e within. omega (arith, table.numbers k d below i e within, more);
      rise = λ k d below. subst Rise (sym (named_extends t (record t { names = t.names ++ x ∷ [] }) (get_or t.lists k d) (name_extends t x) (in_range t k d table below))) (table.rise k d below);
    }

-- ---- a list more

pub list_extends : (t : Shapes) (list : List ℕ) → Extends t (record t { lists = t.lists ++ list ∷ [] })
list_extends t list = record { names = λ n y is. is; lists = λ n l is. slice_get_more t.lists (list ∷ []) n l is }

pub list_table : (t : Shapes) (list : List ℕ) (names : List (List ℕ)) → IsShapes t → AreNamed t list names → Rise names → IsAbsent t.lists list → IsShapes (record t { lists = t.lists ++ list ∷ [] })
list_table t list names table are rises absent = record {
  names = table.names;
  names_apart = table.names_apart;
  lists_apart = apart_more t.lists list table.lists_apart absent;
  numbers = all_more (λ l. All (λ n. n < length t.names) l) t.lists list table.numbers (λ k d below. subst (λ (n : ℕ). n < length t.names) (zero_default list k d below) (are.within k below));
  rise = all_more (λ l. Rise (named t.names l)) t.lists list table.rise (subst Rise (sym are.are) rises);
}
  where
    zero_default : (xs : List ℕ) (k d : ℕ) → k < length xs → get_or xs k 0 ≡ get_or xs k d
    zero_default [] k d below = absurd (omega arith)
    zero_default (x ∷ xs) zero d below = refl
    zero_default (x ∷ xs) (suc k) d below = zero_default xs k d (omega arith)

-- ---- the numbers of names

named-append : (names : List (List ℕ)) (xs ys : List ℕ) → named names (xs ++ ys) ≡ named names xs ++ named names ys
named-append names [] ys = refl
named-append names (x ∷ xs) ys = ap (λ (l : List (List ℕ)). get_or names x [] ∷ l) (named-append names xs ys)

-- one number more, in a table that may have grown
pub named_step : (t u : Shapes) (list : List ℕ) (names : List (List ℕ)) (n : ℕ) (x : List ℕ) → AreNamed t list names → Extends t u → slice_get u.names n ≡ Some x → AreNamed u (list ++ n ∷ []) (names ++ x ∷ [])
named_step t u list names n x named_so extends is =
    let same = named_extends t u list extends named_so.within in
    let name : get_or u.names n [] ≡ x = get_or_from_slice_get u.names n x [] is in
    record {
      are = named-append u.names list (n ∷ []) ∙ ap (λ (l : List (List ℕ)). l ++ get_or u.names n [] ∷ []) (same ∙ named_so.are) ∙ ap (λ (y : List ℕ). names ++ y ∷ []) name;
      within = λ k below. elim (last_at list n k 0 below) [
        | inl before ↦ subst (λ (y : ℕ). y < length u.names) (sym before.1) (grown (get_or list k 0) (named_so.within k before.0))
        | inr last ↦ subst (λ (y : ℕ). y < length u.names) (sym last.1) (slice_get_within u.names n x is)
      ];
    }
  where
    found : (xs : List (List ℕ)) (i : ℕ) → i < length xs → (y : List ℕ) × (slice_get xs i ≡ Some y)
    found [] i below = absurd (omega arith)
    found (y ∷ xs) zero below = (y, refl)
    found (y ∷ xs) (suc i) below = found xs i (omega arith)

    grown : (i : ℕ) → i < length t.names → i < length u.names
    grown i below = let y = found t.names i below in slice_get_within u.names i y.0 (extends.names i y.0 y.1)

names_of-append : (fs : List (List ℕ × Value)) (f : List ℕ × Value) → names_of (seen_fields (fs ++ f ∷ [])) ≡ names_of (seen_fields fs) ++ f.0 ∷ []
names_of-append [] f = refl
names_of-append (g ∷ fs) f = ap (λ (l : List (List ℕ)). g.0 ∷ l) (names_of-append fs f)

take_next : (fs : List (List ℕ × Value)) (i : ℕ) (f : List ℕ × Value) → i < length fs → get_or fs i f ≡ f → take (i + 1) fs ≡ take i fs ++ f ∷ []
take_next fs i f below is = let next : i + 1 ≡ suc i = omega arith in ap (λ (n : ℕ). take n fs) next ∙ go fs i below is
  where
    go : (gs : List (List ℕ × Value)) (j : ℕ) → j < length gs → get_or gs j f ≡ f → take (suc j) gs ≡ take j gs ++ f ∷ []
    go [] j under here = absurd (omega arith)
    go (g ∷ gs) zero under here = ap (λ (x : List ℕ × Value). x ∷ []) here
    go (g ∷ gs) (suc j) under here = ap (λ (l : List (List ℕ × Value)). g ∷ l) (go gs j (omega arith) here)

pub names_next : (fs : List (List ℕ × Value)) (i : ℕ) (f : List ℕ × Value) → i < length fs → get_or fs i f ≡ f → names_of (seen_fields (take (i + 1) fs)) ≡ names_of (seen_fields (take i fs)) ++ f.0 ∷ []
names_next fs i f below is = ap (λ (l : List (List ℕ × Value)). names_of (seen_fields l)) (take_next fs i f below is) ∙ names_of-append (take i fs) f

pub field_name : (fs : List (List ℕ × Value)) (i : ℕ) (f : List ℕ × Value) → i < length fs → get_or fs i f ≡ f → AreFields (seen_fields fs) → IsName f.0
field_name [] i f below is all = absurd (omega arith)
field_name (g ∷ fs) zero f below is all = subst IsName (ap (λ (x : List ℕ × Value). x.0) is) all.0
field_name (g ∷ fs) (suc i) f below is all = field_name fs i f (omega arith) is all.2

-- what a search says where it found nothing
pub absent_in : (xs ys : List (List ℕ)) (x : List ℕ) (found : Option ℕ) → xs ≡ ys → MatchOption found (IsAbsent xs x) (λ i. slice_get xs i ≡ Some x) → ((i : ℕ) → found ≡ Some i → ⊥) → IsAbsent ys x
absent_in xs ys x None same absent none = subst (λ (l : List (List ℕ)). IsAbsent l x) same absent
absent_in xs ys x (Some i) same found none = absurd (none i refl)
