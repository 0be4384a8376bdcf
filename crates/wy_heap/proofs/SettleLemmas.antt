-- How copies come in place of nodes with too many holders.
use Rattle.std.proofs.Common.{◌≡◌, ◌≢◌, ℕ, ◌+◌, ◌≤◌, List, [], ◌∷◌, ◌++◌, None, IsSome, refl, sym, ◌∙◌, ap, subst, arith}
use Rattle.wy_value.specs.Datum.{Datum}
use Rattle.wy_heap.specs.declared.part.Part.{Part}
use Rattle.wy_heap.specs.declared.part.Part.TheVariants.{Key}
use Rattle.wy_heap.specs.declared.heap.Heap.{Heap}
use Rattle.wy_heap.specs.Nodes.{Map, map_of, at, slot_holds, inner}
use Rattle.wy_heap.specs.Meaning.{Means, IsMeant}
use Rattle.wy_heap.specs.Freeing.{times}
use Rattle.wy_heap.specs.Changing.{SameNodes, More}
use Rattle.wy_heap.specs.Settling.{owing, loads, Settles, Splits}
use Rattle.wy_heap.proofs.CountLemmas.{inner_same}
use Rattle.wy_heap.proofs.LeadLemmas.{counts_same, means_same}
use Rattle.wy_heap.proofs.WeighLemmas.{weight-tree}

-- ---- settling

pub settles_refl : (h : Heap) → Settles h h
settles_refl h = record { counts = λ others c. c; keeps = λ q d means. means; fresh = λ k some none. (some, none); cap = refl; high = λ k. omega arith }

pub settles_trans : (a b c : Heap) → Settles a b → Settles b c → Settles a c
settles_trans a b c first second = record {
  counts = λ others counts. second.counts others (first.counts others counts);
  keeps = λ q d means. second.keeps q d (first.keeps q d means);
  fresh = λ k some none. let one = first.fresh k some none in second.fresh k one.0 one.1;
  cap = second.cap ∙ first.cap;
  high = λ k. omega (arith, first.high k, second.high k, first.cap);
}

pub settles_same : (h n : Heap) → SameNodes h n → n.cap ≡ h.cap → Settles h n
settles_same h n same cap = record {
  counts = λ others counts. counts_same h n others same counts;
  keeps = λ q d means. means_same (map_of h) (map_of n) same.nodes d q means;
  fresh = λ k some none. (subst IsSome (sym (same.nodes k)) some, omega (arith, none, inner_equal k));
  cap = cap;
  high = λ k. omega (arith, same.counts k);
}
  where
    inner_equal : (k : ℕ) → inner k (map_of n) ≡ inner k (map_of h)
    inner_equal k = inner_same k (map_of h) (map_of n) same.nodes

-- a map that lacks the node stays
pub splits_spares : (s t : Heap) (node place key copy : ℕ) → Splits s t node place key copy → (base : Map) → More base (map_of s) → at base node ≡ None → More base (map_of t)
splits_spares s t node place key copy splits base more lacks k b was =
    let differ : k ≢ node = λ e. (let none : at base k ≡ None = ap (at base) e ∙ lacks in cc) in
    let other : k ≢ copy = λ e. (let some = more k b was in let none : at (map_of s) k ≡ None = ap (at (map_of s)) e ∙ splits.vacant in cc) in
    splits.others k differ other ∙ more k b was

pub times-append : (k : ℕ) (xs ys : List ℕ) → times k (xs ++ ys) ≡ times k xs + times k ys
times-append k [] ys = omega arith
times-append k (x ∷ xs) ys = omega (arith, times-append k xs ys)

pub times_one : (k : ℕ) → times k (k ∷ []) ≡ 1
times_one k = grind arith

pub times_other : (k j : ℕ) → j ≢ k → times k (j ∷ []) ≡ 0
times_other k j differ = grind (arith, differ)

pub owing-append : (k : ℕ) (m : Map) (xs ys : List ℕ) → owing k m (xs ++ ys) ≡ owing k m xs + owing k m ys
owing-append k m [] ys = omega arith
owing-append k m (x ∷ xs) ys = omega (arith, owing-append k m xs ys)

pub loads-append : (m : Map) (xs ys : List ℕ) → loads m (xs ++ ys) ≡ loads m xs + loads m ys
loads-append m [] ys = omega arith
loads-append m (x ∷ xs) ys = omega (arith, loads-append m xs ys)

head_times : (k : ℕ) (xs : List ℕ) → 1 ≤ times k (k ∷ xs)
head_times k xs = grind arith

tail_times : (j k : ℕ) (xs : List ℕ) → times k xs ≤ times k (j ∷ xs)
tail_times j k xs = omega arith

-- nodes that are as they were owe what they owed
pub owing_same : (k : ℕ) (m n : Map) (xs : List ℕ) → ((j : ℕ) → 1 ≤ times j xs → at n j ≡ at m j) → owing k n xs ≡ owing k m xs
owing_same k m n [] same = refl
owing_same k m n (x ∷ xs) same =
    omega (arith, ap (slot_holds k) (same x (head_times x xs)), owing_same k m n xs (λ j some. same j (omega (arith, some, tail_times x j xs))))

-- nodes that stand for what they stood for are as large as they were
pub loads_same : (m n : Map) (xs : List ℕ) → ((j : ℕ) → 1 ≤ times j xs → IsMeant m (Key j)) → ((q : Part) (d : Datum) → Means m d q → Means n d q) → loads n xs ≡ loads m xs
loads_same m n [] meant keeps = refl
loads_same m n (x ∷ xs) meant keeps =
    let d = meant x (head_times x xs) in
    omega (
      arith,
      weight-tree m d.0 (Key x) d.1,
      weight-tree n d.0 (Key x) (keeps (Key x) d.0 d.1),
      loads_same m n xs (λ j some. meant j (omega (arith, some, tail_times x j xs))) keeps,
    )
