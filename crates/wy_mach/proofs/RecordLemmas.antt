-- A record of what registers held.
use Rattle.std.proofs.Common.{◌≡◌, ◌≢◌, inl, inr, ℕ, zero, suc, ◌<◌, List, [], ◌∷◌, length, get_or, slice_get, Option, Some, None, refl, sym, ◌∙◌, ap, subst, arith}
use Rattle.wy_value.specs.Datum.{Datum, Record, Fields}
use Rattle.wy_value.specs.Seen.{data_of}
use Rattle.wy_value.specs.Values.{length_of}
use Rattle.wy_value.specs.Shapes.{IsShapes, named}
use Rattle.wy_value.specs.declared.shapes.Shapes.{Shapes}
use Rattle.wy_heap.specs.declared.part.Part.{Part}
use Rattle.wy_heap.specs.declared.heap.Heap.{Heap}
use Rattle.wy_heap.specs.Nodes.{map_of}
use Rattle.wy_heap.specs.Meaning.{MeanAll}
use Rattle.wy_heap.specs.Slots.{joined}
use Rattle.wy_heap.specs.Extending.{Extends}
use Rattle.wy_heap.proofs.MeaningLemmas.{mean_all-length}
use Rattle.wy_heap.proofs.CompareLemmas.{numbers_in}
use Rattle.wy_sem.specs.Expressions.{Store}
use Rattle.wy_code_spec.specs.step.Step.{Effect, Fails, there, moved_all, gives, record_of, behind_field, names_in, shape_names}
use Rattle.wy_mach.specs.declared.stop.Stop.{Stop}
use Rattle.wy_mach.specs.declared.stop.Stop.TheVariants.{Stuck, NoMemory}
use Rattle.wy_mach.specs.Showing.{Shows, Leaves, WentOn, HasNone, IsStop}
use Rattle.wy_mach.specs.Taking.{taken, emptied, AreWithin, GivesMade}
use Rattle.wy_mach.specs.Records.{record_made}
use Rattle.wy_mach.proofs.TakeLemmas.{took, beyond_fails}

-- ---- names and values

record_joined : (names : List (List ℕ)) (ds : List Datum) → length names ≡ length ds → record_of names ds ≡ Some (joined names (data_of ds))
record_joined [] [] same = refl
record_joined [] (d ∷ ds) same = absurd (omega arith)
record_joined (n ∷ ns) [] same = absurd (omega arith)
record_joined (n ∷ ns) (d ∷ ds) same = ap (behind_field n d) (record_joined ns ds (omega arith))

record_none : (names : List (List ℕ)) (ds : List Datum) → length names ≢ length ds → record_of names ds ≡ None
record_none [] [] differ = absurd (differ refl)
record_none [] (d ∷ ds) differ = refl
record_none (n ∷ ns) [] differ = refl
record_none (n ∷ ns) (d ∷ ds) differ = ap (behind_field n d) (record_none ns ds (λ e. differ (ap (λ (k : ℕ). suc k) e)))

pub length-data_of : (ds : List Datum) → length_of (data_of ds) ≡ length ds
length-data_of [] = refl
length-data_of (d ∷ ds) = omega (arith, length-data_of ds)

pub length-taken : (ps : List Part) (rs : List ℕ) → length (taken ps rs) ≡ length rs
length-taken ps [] = refl
length-taken ps (r ∷ rs) = ap (λ (k : ℕ). suc k) (length-taken _ rs)

length-of_named : (names : List (List ℕ)) (list : List ℕ) → length (named names list) ≡ length list
length-of_named names [] = refl
length-of_named names (n ∷ list) = ap (λ (k : ℕ). suc k) (length-of_named names list)

-- ---- tables

some_at : (names : List (List ℕ)) (n : ℕ) → n < length names → slice_get names n ≡ Some (get_or names n [])
some_at [] n below = absurd (omega arith)
some_at (x ∷ xs) zero below = refl
some_at (x ∷ xs) (suc n) below = some_at xs n (omega arith)

at_some : (names : List (List ℕ)) (n : ℕ) (name : List ℕ) → slice_get names n ≡ Some name → get_or names n [] ≡ name
at_some [] n name is = absurd (cc)
at_some (x ∷ xs) zero name is = cc
at_some (x ∷ xs) (suc n) name is = at_some xs n name is

named_same : (a b : List (List ℕ)) (list : List ℕ) → ((n : ℕ) (name : List ℕ) → slice_get a n ≡ Some name → slice_get b n ≡ Some name) → ((k : ℕ) → k < length list → get_or list k 0 < length a) → named b list ≡ named a list
named_same a b [] more within = refl
named_same a b (n ∷ list) more within =
    let first : get_or b n [] ≡ get_or a n [] = at_some b n (get_or a n []) (more n (get_or a n []) (some_at a n (within 0 (omega arith)))) in
    let rest : named b list ≡ named a list = named_same a b list more (λ k below. within (suc k) (omega arith)) in
    cc

pub names_same : (t u : Shapes) (k : ℕ) (list : List ℕ) → IsShapes t → Extends t u → slice_get t.lists k ≡ Some list → named u.names list ≡ named t.names list
names_same t u k list table extends is = named_same t.names u.names list extends.names (numbers_in t k list table is)

-- ---- the effect of `Record`

-- the shape is there
shape_effect : (t : Shapes) (k : ℕ) (list : List ℕ) (next : List (List ℕ) → Effect) → slice_get t.lists k ≡ Some list → there (shape_names t k) next ≡ next (named t.names list)
shape_effect t k list next is = ap (λ (o : Option (List ℕ)). there (names_in t.names o) next) is

-- as many fields as values
fields_differ : (h : Heap) (ps : List Part) (names : List (List ℕ)) (rs : List ℕ) (to : ℕ) (s : Store) → length names ≢ length rs → Shows (map_of h) s ps → moved_all s rs (λ vs last. there (record_of names vs) (λ fs. gives last to (Record fs))) ≡ Fails
fields_differ h ps names rs to s differ shows = elim (took (map_of h) s ps rs (λ vs last. there (record_of names vs) (λ fs. gives last to (Record fs))) shows) [
  | inl fails ↦ fails
  | inr t ↦
      let many : length t.data_in ≡ length rs = omega (arith, length-data_of t.data_in, mean_all-length (map_of h) (data_of t.data_in) (taken ps rs) t.mean, length-taken ps rs) in
      t.effect_is ∙ ap (λ (o : Option Fields). there o (λ fs. gives t.rest to (Record fs))) (record_none names t.data_in (λ e. differ (e ∙ many)))
]

pub fields_stuck : (h : Heap) (ps : List Part) (t : Shapes) (k : ℕ) (list rs : List ℕ) (to : ℕ) → slice_get t.lists k ≡ Some list → length list ≢ length rs
    → HasNone (map_of h) ps (λ s. there (shape_names t k) (λ names. moved_all s rs (λ vs last. there (record_of names vs) (λ fs. gives last to (Record fs)))))
fields_stuck h ps t k list rs to is differ s shows =
    shape_effect t k list (λ names. moved_all s rs (λ vs last. there (record_of names vs) (λ fs. gives last to (Record fs)))) is
    ∙ fields_differ h ps (named t.names list) rs to s (λ e. differ (sym (length-of_named t.names list) ∙ e)) shows

pub record_stops : (h : Heap) (ps : List Part) (t : Shapes) (k : ℕ) (list rs : List ℕ) (to : ℕ) (stop : Stop) → slice_get t.lists k ≡ Some list → (stop ≡ Stuck → AreWithin (length ps) rs → ⊥)
    → IsStop (map_of h) ps (λ s. there (shape_names t k) (λ names. moved_all s rs (λ vs last. there (record_of names vs) (λ fs. gives last to (Record fs))))) stop
record_stops h ps t k list rs to Stuck is beyond = λ s shows.
    shape_effect t k list (λ names. moved_all s rs (λ vs last. there (record_of names vs) (λ fs. gives last to (Record fs)))) is
    ∙ beyond_fails (map_of h) s ps rs (λ vs last. there (record_of (named t.names list) vs) (λ fs. gives last to (Record fs))) shows (beyond refl)
record_stops h ps t k list rs to NoMemory is beyond = tt

pub record_goes : (h n : Heap) (ps spent rest qs : List Part) (t : Shapes) (k : ℕ) (list rs : List ℕ) (to : ℕ) → IsShapes t → Extends t h.shapes → slice_get t.lists k ≡ Some list → length list ≡ length rs → spent ≡ taken ps rs → rest ≡ emptied ps rs → GivesMade h n spent rest qs to (record_made (named h.shapes.names list))
    → WentOn (map_of h) (map_of n) ps qs (λ s. there (shape_names t k) (λ names. moved_all s rs (λ vs last. there (record_of names vs) (λ fs. gives last to (Record fs)))))
record_goes h n ps spent rest qs t k list rs to table extends is_list many is left made s shows =
    subst (Leaves (map_of n) qs []) (sym (shape_effect t k list (λ names. moved_all s rs (λ vs last. there (record_of names vs) (λ fs. gives last to (Record fs)))) is_list))
    (elim (took (map_of h) s ps rs (λ vs last. there (record_of (named t.names list) vs) (λ fs. gives last to (Record fs))) shows) [
      | inl fails ↦ subst (Leaves (map_of n) qs []) (sym fails) tt
      | inr t2 ↦
          let same : named h.shapes.names list ≡ named t.names list = names_same t h.shapes k list table extends is_list in
          let as_many : length (named t.names list) ≡ length t2.data_in = omega (arith, length-of_named t.names list, many, length-data_of t2.data_in, mean_all-length (map_of h) (data_of t2.data_in) (taken ps rs) t2.mean, length-taken ps rs) in
          let given = made t2.data_in t2.rest (subst (MeanAll (map_of h) (data_of t2.data_in)) (sym is) t2.mean) (subst (Shows (map_of h) t2.rest) (sym left) t2.shows) in
          subst (Leaves (map_of n) qs [])
          (sym (t2.effect_is ∙ ap (λ (o : Option Fields). there o (λ fs. gives t2.rest to (Record fs))) (record_joined (named t.names list) t2.data_in as_many)
          ∙ ap (λ (ns : List (List ℕ)). gives t2.rest to (Record (joined ns (data_of t2.data_in)))) (sym same)))
          (given, refl)
    ])
