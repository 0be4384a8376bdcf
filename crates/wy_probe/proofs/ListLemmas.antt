-- Loops that put what each element comes to behind what is made, and what is made of values.
use Rattle.std.proofs.Common.{◌≡◌, ◌≤◌, ◌<◌, ◌+◌, ◌++◌, ◌||◌, ℕ, Bool, true, false, cond, List, [], ◌∷◌, map, drop, length, get_or, ap, sym, ◌∙◌, append_assoc, append-nil}
use Rattle.wy_lemmas.proofs.Lists.{next_of, drop_end, map_pushed}
use Rattle.wy_value.specs.Datum.{Datum, Record, Fields, field, item, no_items}
use Rattle.wy_value.specs.Datum as datum
use Rattle.wy_value.specs.declared.value.Value.{Value}
use Rattle.wy_value.specs.declared.value.Value.TheVariants as value
use Rattle.wy_value.specs.Seen.{seen, seen_fields, seen_items}
use Rattle.wy_value.proofs.SeenLemmas.{seen_array, seen_record}
use Rattle.wy_sem.specs.Operations.{same}
use Rattle.wy_core.specs.Types.{Ty}
use Rattle.wy_types.specs.Names.{Declared, Up}
use Rattle.wy_probe.specs.Candidates.{beside, is_among, one_item, those_in, two_items}
use Rattle.wy_probe.specs.Tables.{data_in}

-- ---- loops

pub turn : {X Y : Type 0} (F : List X → List Y) (xs : List X) (i : ℕ) (x : X) (done more all b : List Y)
    → i < length xs → x ≡ get_or xs i x → more ≡ done ++ b → ((ys : List X) → F (x ∷ ys) ≡ b ++ F ys)
    → done ++ F (drop i xs) ≡ all → more ++ F (drop (i + 1) xs) ≡ all
turn F xs i x done more all b within is pushed head inv =
    ap (λ l. l ++ F (drop (i + 1) xs)) pushed
    ∙ (append_assoc done b (F (drop (i + 1) xs))
    ∙ (ap (λ l. done ++ l) (sym (head (drop (i + 1) xs)) ∙ sym (ap F (next_of xs i x within is))) ∙ inv))

pub ends : {X Y : Type 0} (F : List X → List Y) (xs : List X) (i : ℕ) (done all : List Y)
    → length xs ≤ i → F [] ≡ [] → done ++ F (drop i xs) ≡ all → done ≡ all
ends F xs i done all over none inv = sym (append-nil done) ∙ (ap (λ l. done ++ l) (sym none ∙ sym (ap F (drop_end xs i over))) ∙ inv)

-- ---- what is pushed

pub mapped : {X Y : Type 0} (f : X → Y) (made more : List X) (w : X) (y : Y) → more ≡ made ++ w ∷ [] → f w ≡ y → map f more ≡ map f made ++ y ∷ []
mapped f made more w y p is = ap (map f) p ∙ (map_pushed f made w ∙ ap (λ u. map f made ++ u ∷ []) is)

alone : {X : Type 0} (before after : List X) (w v : X) → before ≡ [] → after ≡ before ++ w ∷ [] → w ≡ v → after ≡ v ∷ []
alone before after w v none p is = p ∙ (ap (λ l. l ++ w ∷ []) none ∙ ap (λ u. u ∷ []) is)

two : {X : Type 0} (before between after : List X) (w1 w2 v1 v2 : X) → before ≡ [] → between ≡ before ++ w1 ∷ [] → after ≡ between ++ w2 ∷ [] → w1 ≡ v1 → w2 ≡ v2 → after ≡ v1 ∷ v2 ∷ []
two before between after w1 w2 v1 v2 none p q is1 is2 = q ∙ (ap (λ l. l ++ w2 ∷ []) (alone before between w1 v1 none p is1) ∙ ap (λ u. v1 ∷ u ∷ []) is2)

pub single_is : (before after : List Value) (w v : Value) → before ≡ [] → after ≡ before ++ w ∷ [] → w ≡ v → seen (value.Array after) ≡ one_item (seen v)
single_is before after w v none p is = seen_array after ∙ ap (λ l. datum.Array (seen_items l)) (alone before after w v none p is)

pub pair_is : (before between after : List Value) (w1 w2 v1 v2 : Value) → before ≡ [] → between ≡ before ++ w1 ∷ [] → after ≡ between ++ w2 ∷ [] → w1 ≡ v1 → w2 ≡ v2
    → seen (value.Array after) ≡ two_items (seen v1) (seen v2)
pair_is before between after w1 w2 v1 v2 none p q is1 is2 = seen_array after ∙ ap (λ l. datum.Array (seen_items l)) (two before between after w1 w2 v1 v2 none p q is1 is2)

pub empty_is : (vs : List Value) → vs ≡ [] → seen (value.Array vs) ≡ datum.Array no_items
empty_is vs none = seen_array vs ∙ ap (λ l. datum.Array (seen_items l)) none

-- a row that begins with this field, and goes on with these
pub row_is : (before led row rest : List (List ℕ × Value)) (name copied : List ℕ) (v w : Value) → before ≡ [] → led ≡ before ++ (copied, w) ∷ [] → copied ≡ name → w ≡ v → row ≡ led ++ rest
    → seen_fields row ≡ field name (seen v) (seen_fields rest)
row_is before led row rest name copied v w none p same is all =
    ap seen_fields (all ∙ ap (λ l. l ++ rest) (p ∙ (ap (λ l. l ++ (copied, w) ∷ []) none ∙ (ap (λ n. (n, w) ∷ []) same ∙ ap (λ u. (name, u) ∷ []) is))))

pub record_is : (made fields : List (List ℕ × Value)) (before : List (List ℕ × Value)) → before ≡ [] → made ≡ before ++ fields → seen (value.Record made) ≡ Record (seen_fields fields)
record_is made fields before none all = seen_record made ∙ ap (λ l. Record (seen_fields l)) (all ∙ ap (λ l. l ++ fields) none)

-- one value more behind the base and some others
pub value_behind : (base : List Datum) (before after : List Value) (xs : List Datum) (w : Value) (d : Datum) → after ≡ before ++ w ∷ [] → seen w ≡ d
    → data_in before ≡ base ++ xs → data_in after ≡ base ++ (xs ++ d ∷ [])
value_behind base before after xs w d p is e = mapped seen before after w d p is ∙ (ap (λ l. l ++ d ∷ []) e ∙ append_assoc base xs (d ∷ []))

-- ---- tests

pub among_turn : (others : List Value) (i : ℕ) (v x : Value) (b r : Bool) → i < length others → x ≡ get_or others i x → same (seen v) (seen x) ≡ b
    → is_among (seen v) (data_in (drop i others)) ≡ r → (b || is_among (seen v) (data_in (drop (i + 1) others))) ≡ r
among_turn others i v x b r within is s inv =
    ap (λ t. t || is_among (seen v) (data_in (drop (i + 1) others))) (sym s) ∙ (sym (ap (λ l. is_among (seen v) (data_in l)) (next_of others i x within is)) ∙ inv)

pub among_ends : (others : List Value) (i : ℕ) (v : Value) (r : Bool) → length others ≤ i → is_among (seen v) (data_in (drop i others)) ≡ r → false ≡ r
among_ends others i v r over inv = sym (ap (λ l. is_among (seen v) (data_in l)) (drop_end others i over)) ∙ inv

pub beside_new : (ds : List Datum) (x : Value) → is_among (seen x) ds ≡ false → (ys : List Value) → beside ds (data_in (x ∷ ys)) ≡ (seen x ∷ []) ++ beside ds (data_in ys)
beside_new ds x e ys = ap (λ t. cond t (beside ds (data_in ys)) (seen x ∷ beside ds (data_in ys))) e

pub beside_old : (ds : List Datum) (x : Value) → is_among (seen x) ds ≡ true → (ys : List Value) → beside ds (data_in (x ∷ ys)) ≡ beside ds (data_in ys)
beside_old ds x e ys = ap (λ t. cond t (beside ds (data_in ys)) (seen x ∷ beside ds (data_in ys))) e

pub those_more : (names : List Declared) (t : Ty) (x : Value) → Up names (seen x) t ≡ true → (ys : List Value) → those_in names t (data_in (x ∷ ys)) ≡ (seen x ∷ []) ++ those_in names t (data_in ys)
those_more names t x e ys = ap (λ b. cond b (seen x ∷ those_in names t (data_in ys)) (those_in names t (data_in ys))) e

pub those_left : (names : List Declared) (t : Ty) (x : Value) → Up names (seen x) t ≡ false → (ys : List Value) → those_in names t (data_in (x ∷ ys)) ≡ those_in names t (data_in ys)
those_left names t x e ys = ap (λ b. cond b (seen x ∷ those_in names t (data_in ys)) (those_in names t (data_in ys))) e
