-- What a probe tries are data that a program may hold.
use Rattle.std.proofs.Common.{◌≡◌, ℕ, zero, suc, List, [], ◌∷◌, ◌++◌, map, take, length, get_or, cond, Option, Some, None, Less, nat_cmp, refl, sym, ap, subst}
use Rattle.std.specs.Prelude.{is_some, slice_get}
use Rattle.std.specs.Cmp.Lexicographic.{slice_cmp, nat_list_cmp_total}
use Rattle.std.specs.List.{AllByRecursion}
use Rattle.std.specs.List.Sorted.{IsStrictlySortedBy}
use Rattle.wy_lemmas.proofs.Choices.{by_truth}
use Rattle.wy_lemmas.proofs.Options.{some_is}
use Rattle.wy_value.specs.Datum.{Datum, Null, Array, Record, no_items, Fields, field}
use Rattle.wy_value.specs.Values as values
use Rattle.wy_core.specs.CoreTree.{AliasDecl, Core, Decl, Param, Routine, RoutineDecl, routines_of}
use Rattle.wy_core.specs.Types.{Ty, NullTy, BoolTy, IntTy, AnyTy, VoidTy, RecordTy, ArrayTy, UnionTy, InterTy, NotTy, NamedTy, NormalTy, FieldTys, NoFieldTys, MoreFieldTys}
use Rattle.wy_core.specs.formed.Bound as bound
use Rattle.wy_core.specs.formed.Bound.{Bound, BoundDecls, BoundFieldTys, BoundParams, BoundTy, names_of_tys}
use Rattle.wy_core.specs.formed.Offers.{Offers, offers_of}
use Rattle.wy_sound.specs.wy_sem.Evaluation.{callee}
use Rattle.wy_sound.specs.wy_sem.Operations.{longest}
use Rattle.wy_sound.specs.wy_sound_kinds.Bounded.{AllBounded, FieldsBounded, IsBounded}
use Rattle.wy_top.specs.wy_probe.Candidates.{anything, arrays, beside, candidates, choices, few, ints, is_among, joined, lists_of, most, no_array, no_record, one_item, pairs, those_in, truths, two_items, type_of, values_by, values_named, with_field}
use Rattle.wy_top.specs.wy_probe.Comes.{probe_of}
use Rattle.wy_top.specs.wy_probe.Trials.{params_of, picked, tuples_of}
use Rattle.wy_top.specs.wy_probe.Tuples.{first_tuples}
use Rattle.wy_top.specs.wy_probe.wy_types.Names.{Declared, Up, names_in}
use Rattle.wy_top.proofs.wy_probe_proofs.RoutineLemmas.{callee_at}

no_some : {X : Type 0} (x : X) → (let n : Option X = None in n ≡ Some x) → ⊥
no_some x e = absurd cc

-- ---- lists of data

all_both : (xs ys : List Datum) → AllBounded xs → AllBounded ys → AllBounded (xs ++ ys)
all_both [] ys h g = g
all_both (x ∷ xs) ys h g = (h.0, all_both xs ys h.1 g)

all_taken : (n : ℕ) (xs : List Datum) → AllBounded xs → AllBounded (take n xs)
all_taken zero [] h = tt
all_taken zero (x ∷ xs) h = tt
all_taken (suc n) [] h = tt
all_taken (suc n) (x ∷ xs) h = (h.0, all_taken n xs h.1)

all_beside : (others xs : List Datum) → AllBounded xs → AllBounded (beside others xs)
all_beside others [] h = tt
all_beside others (x ∷ xs) h =
    by_truth (is_among x others) (λ b. AllBounded (cond b (beside others xs) (x ∷ beside others xs))) (λ yes. all_beside others xs h.1) (λ no. (h.0, all_beside others xs h.1))

all_joined : (xs ys : List Datum) → AllBounded xs → AllBounded ys → AllBounded (joined xs ys)
all_joined xs ys h g = all_both xs (beside xs ys) h (all_beside xs ys g)

all_those : (names : List Declared) (t : Ty) (xs : List Datum) → AllBounded xs → AllBounded (those_in names t xs)
all_those names t [] h = tt
all_those names t (x ∷ xs) h =
    by_truth (Up names x t) (λ b. AllBounded (cond b (x ∷ those_in names t xs) (those_in names t xs))) (λ yes. (h.0, all_those names t xs h.1)) (λ no. all_those names t xs h.1)

-- ---- the lists by the form of a type

none_bounded : IsBounded (Array no_items)
unfolding longest
none_bounded = (refl, tt)

one_bounded : (x : Datum) → IsBounded x → IsBounded (one_item x)
unfolding longest
one_bounded x h = (refl, (h, tt))

two_bounded : (x y : Datum) → IsBounded x → IsBounded y → IsBounded (two_items x y)
unfolding longest
two_bounded x y h g = (refl, (h, (g, tt)))

all_truths : AllBounded truths
all_truths = (tt, (tt, tt))

all_ints : AllBounded ints
all_ints = (refl, (refl, (refl, (refl, (refl, (refl, (refl, tt)))))))

all_anything : AllBounded anything
all_anything = (tt, all_both truths (ints ++ Array no_items ∷ []) all_truths (all_both ints (Array no_items ∷ []) all_ints (none_bounded, tt)))

all_ones : (xs : List Datum) → AllBounded xs → AllBounded (map one_item xs)
all_ones [] h = tt
all_ones (x ∷ xs) h = (one_bounded x h.0, all_ones xs h.1)

all_twos : (x : Datum) (ys : List Datum) → IsBounded x → AllBounded ys → AllBounded (map (two_items x) ys)
all_twos x [] h g = tt
all_twos x (y ∷ ys) h g = (two_bounded x y h g.0, all_twos x ys h g.1)

all_pairs : (xs ys : List Datum) → AllBounded xs → AllBounded ys → AllBounded (pairs xs ys)
all_pairs [] ys h g = tt
all_pairs (x ∷ xs) ys h g = all_both (map (two_items x) ys) (pairs xs ys) (all_twos x ys h.0 g) (all_pairs xs ys h.1 g)

all_arrays : (xs : List Datum) → AllBounded xs → AllBounded (arrays xs)
all_arrays xs h =
    let firsts = all_taken few xs h in
    (none_bounded, all_both (map one_item xs) (pairs (take few xs) (take few xs)) (all_ones xs h) (all_pairs (take few xs) (take few xs) firsts firsts))

-- ---- records

below_more : (a b : List ℕ) (ns : List (List ℕ)) → slice_cmp nat_cmp a b ≡ Less → AllByRecursion (λ m. slice_cmp nat_cmp b m ≡ Less) ns → AllByRecursion (λ m. slice_cmp nat_cmp a m ≡ Less) ns
below_more a b [] less h = tt
below_more a b (n ∷ ns) less h = (nat_list_cmp_total.trans a b n less h.0, below_more a b ns less h.1)

-- names that rise one by one rise all
rise_all : (ns : List (List ℕ)) → bound.Rise ns → values.Rise ns
unfolding IsStrictlySortedBy
rise_all [] h = tt
rise_all (n ∷ []) h = (tt, tt)
rise_all (n ∷ m ∷ ns) h = let rest = rise_all (m ∷ ns) h.1 in ((h.0, below_more n m ns h.0 rest.0), rest)

-- rows of fields with these names
abbrev Rows : List (List ℕ) → List Fields → Type 0
Rows names [] = Unit {0}
Rows names (fs ∷ rows) = (values.names_of fs ≡ names) × FieldsBounded fs × Rows names rows

both_rows : (names : List (List ℕ)) (xs ys : List Fields) → Rows names xs → Rows names ys → Rows names (xs ++ ys)
both_rows names [] ys h g = g
both_rows names (x ∷ xs) ys h g = (h.0, h.1, both_rows names xs ys h.2 g)

led_rows : (name : List ℕ) (names : List (List ℕ)) (d : Datum) (rows : List Fields) → IsBounded d → Rows names rows → Rows (name ∷ names) (map (field name d) rows)
led_rows name names d [] b h = tt
led_rows name names d (fs ∷ rows) b h = (ap (λ ns. name ∷ ns) h.0, (b, h.1), led_rows name names d rows b h.2)

with_rows : (name : List ℕ) (names : List (List ℕ)) (ds : List Datum) (rows : List Fields) → AllBounded ds → Rows names rows → Rows (name ∷ names) (with_field name ds rows)
with_rows name names [] rows b h = tt
with_rows name names (d ∷ ds) rows b h = both_rows (name ∷ names) (map (field name d) rows) (with_field name ds rows) (led_rows name names d rows b.0 h) (with_rows name names ds rows b.1 h)

record_rows : (names : List (List ℕ)) (rows : List Fields) → bound.Rise names → Rows names rows → AllBounded (map (λ fs. Record fs) rows)
record_rows names [] rise h = tt
record_rows names (fs ∷ rows) rise h = ((subst values.Rise (sym h.0) (rise_all names rise), h.1), record_rows names rows rise h.2)

choice_rows : (types : ℕ) (of : Ty → List Datum) → ((t : Ty) → BoundTy types t → AllBounded (of t)) → (fields : FieldTys) → BoundFieldTys types fields → Rows (names_of_tys fields) (choices of fields)
choice_rows types of each NoFieldTys h = (refl, tt, tt)
choice_rows types of each (MoreFieldTys name t fields) h =
    with_rows name (names_of_tys fields) (take few (of t)) (choices of fields) (all_taken few (of t) (each t h.0)) (choice_rows types of each fields h.1)

-- ---- a type

module _ (names : List Declared) (types : ℕ) (bound_names : (n : ℕ) (d : Declared) → slice_get names n ≡ Some d → BoundTy types d.ty) where
  module _ (array : Ty → List Datum) (record_of : FieldTys → List Datum) (all_array : (t : Ty) → BoundTy types t → AllBounded (array t))
      (all_record : (fields : FieldTys) → bound.Rise (names_of_tys fields) → BoundFieldTys types fields → AllBounded (record_of fields)) where
    by_form : (named : ℕ → List Datum) → ((n : ℕ) → AllBounded (named n)) → (t : Ty) → BoundTy types t → AllBounded (values_by names named array record_of t)
    by_form named all NullTy h = (tt, tt)
    by_form named all BoolTy h = all_truths
    by_form named all IntTy h = all_ints
    by_form named all AnyTy h = all_anything
    by_form named all VoidTy h = tt
    by_form named all (RecordTy fields) h = all_taken most (record_of fields) (all_record fields h.0 h.1)
    by_form named all (ArrayTy t) h = all_taken most (array t) (all_array t h)
    by_form named all (UnionTy s t) h = all_taken most _ (all_joined _ _ (by_form named all s h.0) (by_form named all t h.1))
    by_form named all (InterTy s t) h = all_taken most _ (all_those names (InterTy s t) _ (all_joined _ _ (by_form named all s h.0) (by_form named all t h.1)))
    by_form named all (NotTy t) h = all_taken most _ (all_those names (NotTy t) anything all_anything)
    by_form named all (NamedTy n) h = all n
    by_form named all (NormalTy union) h = absurd h

    bound_type : (o : Option Declared) → ((d : Declared) → o ≡ Some d → BoundTy types d.ty) → BoundTy types (type_of o)
    bound_type None h = tt
    bound_type (Some d) h = h d refl

    by_name : (j n : ℕ) → AllBounded (values_named names array record_of j n)
    by_name zero n = tt
    by_name (suc j) n = by_form (values_named names array record_of j) (by_name j) (type_of (slice_get names n)) (bound_type (slice_get names n) (bound_names n))

    pub all_with : (t : Ty) → BoundTy types t → AllBounded (values_by names (values_named names array record_of (suc (length names))) array record_of t)
    all_with t h = by_form (values_named names array record_of (suc (length names))) (by_name (suc (length names))) t h

  none_recorded : (fields : FieldTys) → AllBounded (no_record fields)
  none_recorded NoFieldTys = ((rise_all [] tt, tt), tt)
  none_recorded (MoreFieldTys name t fields) = tt

  pub all_candidates : (depth : ℕ) (t : Ty) → BoundTy types t → AllBounded (candidates names depth t)
  all_candidates zero t h = all_with no_array no_record (λ s g. (none_bounded, tt)) (λ fields rise g. none_recorded fields) t h
  all_candidates (suc depth) t h =
      all_with (λ s. arrays (candidates names depth s)) (λ fields. map (λ fs. Record fs) (choices (candidates names depth) fields))
      (λ s g. all_arrays (candidates names depth s) (all_candidates depth s g))
      (λ fields rise g. record_rows (names_of_tys fields) (choices (candidates names depth) fields) rise (choice_rows types (candidates names depth) (all_candidates depth) fields g)) t h

-- ---- a program

named_bound : (o : Offers) (ds : List (Decl ℕ)) → BoundDecls o ds → (n : ℕ) (d : Declared) → slice_get (names_in ds) n ≡ Some d → BoundTy o.types d.ty
named_bound o [] h n d e = absurd (no_some d e)
named_bound o (RoutineDecl r ∷ ds) h n d e = named_bound o ds h.1 n d e
named_bound o (AliasDecl a ∷ ds) h zero d e = let x : Declared = record { ty = a.ty; constrained = is_some a.variable } in subst (λ (y : Declared). BoundTy o.types y.ty) (some_is x d e) h.0.ty
named_bound o (AliasDecl a ∷ ds) h (suc n) d e = named_bound o ds h.1 n d e

routine_bound : (o : Offers) (ds : List (Decl ℕ)) → BoundDecls o ds → (n : ℕ) (r : Routine ℕ) → slice_get (routines_of ds) n ≡ Some r → BoundParams o (length r.variables) [] r.params
routine_bound o [] h n r e = absurd (no_some r e)
routine_bound o (AliasDecl a ∷ ds) h n r e = routine_bound o ds h.1 n r e
routine_bound o (RoutineDecl q ∷ ds) h zero r e = subst (λ (x : Routine ℕ). BoundParams o (length x.variables) [] x.params) (some_is q r e) h.0.params
routine_bound o (RoutineDecl q ∷ ds) h (suc n) r e = routine_bound o ds h.1 n r e

-- each of the lists
abbrev AllLists : List (List Datum) → Type 0
AllLists [] = Unit {0}
AllLists (ds ∷ lists) = AllBounded ds × AllLists lists

all_lists : (names : List Declared) (o : Offers) → ((n : ℕ) (d : Declared) → slice_get names n ≡ Some d → BoundTy o.types d.ty) → (n : ℕ) (vs : List ℕ) (ps : List Param) → BoundParams o n vs ps → AllLists (lists_of names ps)
all_lists names o each n vs [] h = tt
all_lists names o each n vs (p ∷ ps) h = (all_candidates names o.types each 2 p.ty h.0, all_lists names o each n (p.variable ∷ vs) ps h.2)

at_bounded : (ds : List Datum) (n : ℕ) → AllBounded ds → IsBounded (get_or ds n Null)
at_bounded [] n h = tt
at_bounded (d ∷ ds) zero h = h.0
at_bounded (d ∷ ds) (suc n) h = at_bounded ds n h.1

picked_bounded : (lists : List (List Datum)) (ps : List ℕ) → AllLists lists → AllBounded (picked lists ps)
picked_bounded [] ps h = tt
picked_bounded (ds ∷ lists) [] h = tt
picked_bounded (ds ∷ lists) (p ∷ ps) h = (at_bounded ds p h.0, picked_bounded lists ps h.1)

all_picked : (lists : List (List Datum)) → AllLists lists → (tuples : List (List ℕ)) → AllLists (map (picked lists) tuples)
all_picked lists h [] = tt
all_picked lists h (ps ∷ tuples) = (picked_bounded lists ps h, all_picked lists h tuples)

one_of : (before : List (List Datum)) (vs : List Datum) (behind : List (List Datum)) → AllLists (before ++ vs ∷ behind) → AllBounded vs
one_of [] vs behind h = h.0
one_of (ws ∷ before) vs behind h = one_of before vs behind h.1

-- each of the tuples of a declared function or method
pub tuple_bounded : (core : Core ℕ) → Bound core → (f ticks n : ℕ) (r : Routine ℕ) → slice_get (routines_of core) f ≡ Some r
    → (before : List (List Datum)) (vs : List Datum) (behind : List (List Datum)) → tuples_of (probe_of core f ticks) n ≡ before ++ vs ∷ behind → AllBounded vs
tuple_bounded core b f ticks n r there before vs behind e =
    let o = offers_of core in
    let lists = all_lists (names_in core) o (named_bound o core b) (length r.variables) [] r.params (routine_bound o core b f r there) in
    let params : params_of (callee (routines_of core) f) ≡ r.params = ap params_of (callee_at (routines_of core) f r there) in
    let all = subst (λ (ps : List Param). AllLists (lists_of (names_in core) ps)) (sym params) lists in
    one_of before vs behind (subst AllLists e (all_picked (lists_of (names_in core) (params_of (callee (routines_of core) f))) all (first_tuples (map length (lists_of (names_in core) (params_of (callee (routines_of core) f)))) n)))
