-- The first function or method of a name.
use Rattle.std.proofs.Common.{◌≡◌, ◌≢◌, ◌⊎◌, inl, inr, ◌<◌, ◌≤◌, ℕ, suc, ◌+◌, ◌-◌, List, [], ◌∷◌, length, map, drop, get_or, Option, Some, sym, ap, ◌∙◌, subst, arith}
use Rattle.std.specs.Prelude.{slice_get}
use Rattle.std.proofs.lemmas.Bool.{cases_lt}
use Rattle.std.proofs.lemmas.List.{drop_all}
use Rattle.wy_core.specs.CoreSeen.{seen_decl, seen_routine}
use Rattle.wy_core.specs.CoreTree as tree
use Rattle.wy_core.specs.CoreTree.{routines_of}
use Rattle.wy_core.specs.declared.declarations.Alias.{Alias}
use Rattle.wy_core.specs.declared.declarations.Decl.{Decl}
use Rattle.wy_core.specs.declared.declarations.Decl.TheVariants as decl
use Rattle.wy_core.specs.declared.declarations.Routine.{Routine}
use Rattle.wy_lemmas.proofs.Lists.{next_of as next_item}
use Rattle.wy_lemmas.proofs.Options.{no-some}
use Rattle.wy_mach_run.specs.Entries.{IsFirst, HasNone}

-- ---- one routine of a name

some-is : {X : Type 0} (x y : X) (o : Option X) → o ≡ Some x → o ≡ Some y → x ≡ y
some-is x y o e f = let g : Some x ≡ Some y = sym e ∙ f in cc

abbrev Routines : Type 0
Routines = List (tree.Routine ℕ)

pub record Same (f g : ℕ) (r s : tree.Routine ℕ) : Type 0 where
  pub number : f ≡ g
  pub routine : r ≡ s

pub one_first : (rs : Routines) (name : List ℕ) (f g : ℕ) (r s : tree.Routine ℕ) → IsFirst rs name f r → IsFirst rs name g s → Same f g r s
one_first rs name f g r s a b = by (cases_lt f g) (cases_lt g f)
  where
    by : (f < g) ⊎ (g ≤ f) → (g < f) ⊎ (f ≤ g) → Same f g r s
    by (inl h) o = absurd (b.first f r h a.there a.name_is)
    by (inr h) (inl k) = absurd (a.first g s k b.there b.name_is)
    by (inr h) (inr k) =
        let same : f ≡ g = omega (arith, h, k) in
        record { number = same; routine = some-is r s (slice_get rs g) (subst (λ n. slice_get rs n ≡ Some r) same a.there) b.there }

-- ---- the walk

-- so many routines are passed, none of them of this name, and these are left
pub record Passed (all : Routines) (name : List ℕ) (number : ℕ) (rest : Routines) : Type 0 where
  pub there : (k : ℕ) → slice_get all (number + k) ≡ slice_get rest k
  pub none : (k : ℕ) (other : tree.Routine ℕ) → k < number → slice_get all k ≡ Some other → other.name ≢ name

abbrev pub rest_from : ℕ → List Decl → Routines
rest_from i ds = routines_of (map seen_decl (drop i ds))

at_decl : (ds : List Decl) (i : ℕ) (d e : Decl) → i < length ds → d ≡ get_or ds i d → d ≡ e → rest_from i ds ≡ routines_of (seen_decl e ∷ map seen_decl (drop (i + 1) ds))
at_decl ds i d e within is same =
    ap (λ l. routines_of (map seen_decl l)) (next_item ds i d within is) ∙ ap (λ x. routines_of (seen_decl x ∷ map seen_decl (drop (i + 1) ds))) same

pub past_alias : (ds : List Decl) (name : List ℕ) (n i : ℕ) (d : Decl) (a : Alias) → i < length ds → d ≡ get_or ds i d → d ≡ decl.Alias a → Passed (rest_from 0 ds) name n (rest_from i ds) → Passed (rest_from 0 ds) name n (rest_from (i + 1) ds)
past_alias ds name n i d a within is same p = subst (Passed (rest_from 0 ds) name n) (at_decl ds i d (decl.Alias a) within is same) p

at_routine : (ds : List Decl) (name : List ℕ) (n i : ℕ) (d : Decl) (r : Routine) → i < length ds → d ≡ get_or ds i d → d ≡ decl.Routine r → Passed (rest_from 0 ds) name n (rest_from i ds) → Passed (rest_from 0 ds) name n (seen_routine r ∷ rest_from (i + 1) ds)
at_routine ds name n i d r within is same p = subst (Passed (rest_from 0 ds) name n) (at_decl ds i d (decl.Routine r) within is same) p

first_of : (all rest : Routines) (name : List ℕ) (n : ℕ) (r : tree.Routine ℕ) → Passed all name n (r ∷ rest) → slice_get all n ≡ Some r
first_of all rest name n r p = let same : n + 0 ≡ n = omega arith in subst (λ m. slice_get all m ≡ Some r) same (p.there 0)

pub found : (ds : List Decl) (name : List ℕ) (n i : ℕ) (d : Decl) (r : Routine) → i < length ds → d ≡ get_or ds i d → d ≡ decl.Routine r → (seen_routine r).name ≡ name → Passed (rest_from 0 ds) name n (rest_from i ds) → IsFirst (rest_from 0 ds) name n (seen_routine r)
found ds name n i d r within is same named p =
    let q = at_routine ds name n i d r within is same p in
    record { there = first_of (rest_from 0 ds) (rest_from (i + 1) ds) name n (seen_routine r) q; name_is = named; first = p.none }

passed_more : (all rest : Routines) (name : List ℕ) (n : ℕ) (r : tree.Routine ℕ) → Passed all name n (r ∷ rest) → r.name ≢ name → Passed all name (n + 1) rest
passed_more all rest name n r p other = record {
  there = λ k. let same : n + 1 + k ≡ n + suc k = omega arith in ap (slice_get all) same ∙ p.there (suc k);
  none = λ k s h is. by k s h is (cases_lt k n);
}
  where
    by : (k : ℕ) (s : tree.Routine ℕ) → k < n + 1 → slice_get all k ≡ Some s → (k < n) ⊎ (n ≤ k) → s.name ≢ name
    by k s h is (inl below) = p.none k s below is
    by k s h is (inr above) =
        let same : k ≡ n = omega (arith, h, above) in
        let one : r ≡ s = some-is r s (slice_get all n) (first_of all rest name n r p) (subst (λ m. slice_get all m ≡ Some s) same is) in
        λ named. other (ap (λ (x : tree.Routine ℕ). x.name) one ∙ named)

pub past_routine : (ds : List Decl) (name : List ℕ) (n i : ℕ) (d : Decl) (r : Routine) → i < length ds → d ≡ get_or ds i d → d ≡ decl.Routine r → (seen_routine r).name ≢ name → Passed (rest_from 0 ds) name n (rest_from i ds) → Passed (rest_from 0 ds) name (n + 1) (rest_from (i + 1) ds)
past_routine ds name n i d r within is same other p = passed_more (rest_from 0 ds) (rest_from (i + 1) ds) name n (seen_routine r) (at_routine ds name n i d r within is same p) other

passed_all : (all : Routines) (name : List ℕ) (n : ℕ) → Passed all name n [] → HasNone all name
passed_all all name n p k other is = by (cases_lt k n)
  where
    by : (k < n) ⊎ (n ≤ k) → other.name ≢ name
    by (inl below) = p.none k other below is
    by (inr above) = let same : n + (k - n) ≡ k = omega (arith, above) in absurd (no-some other (slice_get all k) (sym (ap (slice_get all) same) ∙ p.there (k - n)) is)

pub none_of : (ds : List Decl) (name : List ℕ) (n i : ℕ) → length ds ≤ i → Passed (rest_from 0 ds) name n (rest_from i ds) → HasNone (rest_from 0 ds) name
none_of ds name n i past p = passed_all (rest_from 0 ds) name n (subst (λ l. Passed (rest_from 0 ds) name n (routines_of (map seen_decl l))) (drop_all i ds past) p)
