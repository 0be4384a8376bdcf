-- The first state of a run.
use Rattle.std.proofs.Common.{◌≡◌, inl, inr, ℕ, List, [], ◌∷◌, ◌++◌, reverse, map, Option, Some, IsSome, refl, sym, ◌∙◌, ap, subst, arith}
use Rattle.std.specs.Prelude.{slice_get}
use Rattle.std.proofs.lemmas.Bool.{cases_eq}
use Rattle.std.proofs.lemmas.List.{append-nil}
use Rattle.wy_value.specs.declared.value.Value.{Value}
use Rattle.wy_value.specs.declared.shapes.Shapes.{Shapes}
use Rattle.wy_value.specs.Datum.{Datum, Data, no_items, item}
use Rattle.wy_value.specs.Seen.{seen, seen_items, data_of}
use Rattle.wy_heap.specs.declared.part.Part.{Part}
use Rattle.wy_heap.specs.declared.heap.Heap.{Heap}
use Rattle.wy_heap.specs.Nodes.{Map, map_of, at, count_at}
use Rattle.wy_heap.specs.Meaning.{Means, MeanAll}
use Rattle.wy_heap.specs.Extending.{Extends}
use Rattle.wy_heap.specs.Importing.{Grew, OnlyOnes}
use Rattle.wy_heap.specs.Standing.{Stands, Acts, Keeps, IsAsBefore}
use Rattle.wy_heap.proofs.LeadLemmas.{counts_same, within_same}
use Rattle.wy_heap.proofs.CountLemmas.{held-append}
use Rattle.wy_heap.proofs.LawLemmas.{nodes_are_reached, unreached}
use Rattle.wy_heap.proofs.RowLemmas.{restood, last_in}
use Rattle.wy_code.specs.declared.routines.Routine.{Routine}
use Rattle.wy_code.specs.declared.routines.Code.{Code}
use Rattle.wy_mach.specs.Taking.{nulls}
use Rattle.wy_mach.proofs.RegisterLemmas.{keeps_fewer, among_first}
use Rattle.wy_mach.specs.declared.machine.Machine.{Machine}
use Rattle.wy_mach.specs.declared.frames.Caller as of_callers
use Rattle.wy_mach.specs.States.{places_below, places_of}
use Rattle.wy_mach.specs.SharedSteps.{ArePlaced, IsFirst}
use Rattle.wy_mach.specs.SharedTurns.{waiting_of, state_of}
use Rattle.wy_mach.proofs.SharedStepLemmas.{no_dead, holders_are}
use Rattle.wy_mach.proofs.CallLemmas.{held-nulls}

-- ---- the arguments

all_kept : (m n : Map) (ds : Data) (ps : List Part) → Keeps m n ps → MeanAll m ds ps → MeanAll n ds ps
all_kept m n no_items ps keeps mean = mean
all_kept m n (item d ds) [] keeps mean = absurd mean
all_kept m n (item d ds) (p ∷ ps) keeps mean = (
  keeps p d (among_first p ps) mean.0,
  all_kept m n ds ps (keeps_fewer m n ps (p ∷ ps) (λ k. omega arith) keeps) mean.1,
)

means_push : (m : Map) (vs : List Value) (ps : List Part) (v : Value) (p : Part) → MeanAll m (seen_items vs) ps → Means m (seen v) p → MeanAll m (seen_items (vs ++ v ∷ [])) (ps ++ p ∷ [])
means_push m [] [] v p mean here = (here, refl)
means_push m [] (q ∷ ps) v p mean here = absurd (cc)
means_push m (w ∷ vs) [] v p mean here = absurd mean
means_push m (w ∷ vs) (q ∷ ps) v p mean here = (mean.0, means_push m vs ps v p mean.1 here)

-- one more argument has a place
pub one_more : (h n : Heap) (vs all : List Value) (ps qs : List Part) (v : Value) (p : Part) → all ≡ vs ++ v ∷ [] → qs ≡ ps ++ p ∷ [] → ((others : List Part) → Stands h others → Acts h n (p ∷ []) others) → Means (map_of n) (seen v) p → Stands h ps → MeanAll (map_of h) (seen_items vs) ps → Stands n qs × MeanAll (map_of n) (seen_items all) qs
one_more h n vs all ps qs v p all_are qs_are acts means stands mean =
    let after = acts ps stands in
    let kept = all_kept (map_of h) (map_of n) (seen_items vs) ps after.keeps mean in (
      subst (Stands n) (sym qs_are) (last_in n p ps after.stands),
      subst (λ (l : List Value). MeanAll (map_of n) (seen_items l) qs) (sym all_are)
          (subst (MeanAll (map_of n) (seen_items (vs ++ v ∷ []))) (sym qs_are) (means_push (map_of n) vs ps v p kept means)),
    )

seen_data : (vs : List Value) → data_of (map seen vs) ≡ seen_items vs
seen_data [] = refl
seen_data (v ∷ vs) = ap (item (seen v)) (seen_data vs)

pub data_mean : (m : Map) (vs : List Value) (ps : List Part) → MeanAll m (seen_items vs) ps → MeanAll m (data_of (map seen vs)) ps
data_mean m vs ps mean = subst (λ (ds : Data). MeanAll m ds ps) (sym (seen_data vs)) mean

-- null beside what is held
pub with_nulls : (h : Heap) (ps all : List Part) (n : ℕ) → all ≡ ps ++ nulls n → Stands h ps → Stands h all
with_nulls h ps all n is stands =
    subst (Stands h) (sym is) (restood h ps (ps ++ nulls n) (λ k. omega (arith, held-append k ps (nulls n), held-nulls k n)) stands)

-- a heap that is as before but for its table
pub as_grown : (h n : Heap) (ps : List Part) → IsAsBefore h n → Grew h n → Stands h ps → Stands n ps
as_grown h n ps same grew stands = record {
  counts = counts_same h n ps (record { nodes = same.nodes; counts = same.counts }) stands.counts;
  within = within_same h n (λ k. omega (arith, same.counts k)) grew.cap stands.within;
  some = omega (arith, grew.cap, stands.some);
  table = grew.table;
}

-- ---- tables

pub extends_same : (t u : Shapes) → u ≡ t → Extends t u
extends_same t u same = subst (Extends t) (sym same) (record { names = λ n name is. is; lists = λ n list is. is })

pub extends_on : (t u v : Shapes) → Extends t u → Extends u v → Extends t v
extends_on t u v first second = record {
  names = λ n name is. second.names n name (first.names n name is);
  lists = λ n list is. second.lists n list (first.lists n list is);
}

-- ---- the machine

no_counts : (h : Heap) → Stands h [] → (k : ℕ) → count_at h k ≡ 0
no_counts h stands k = elim (cases_eq (count_at h k) 0) [
  | inl none ↦ none
  | inr some ↦ absurd (unreached (map_of h) k ((nodes_are_reached h [] stands k).0 (stands.counts.there k (omega (arith, some)))))
]

-- where all nodes came to a heap that had none, each has one holder
one_each : (h n : Heap) (places : List Part) → Stands h [] → OnlyOnes h n → Stands n places → (k : ℕ) → IsSome (at (map_of n) k) → count_at n k ≡ 1
one_each h n places empty ones stands k is = elim (ones k) [
  | inl same ↦ absurd (omega (arith, same, no_counts h empty k, stands.counts.alive k is))
  | inr new ↦ new.1
]

-- where no frame waits, what the first one holds is all that is held
pub stands_first : (h : Heap) (k : Machine) (ps : List Part) → k.heap ≡ h → k.frame.registers.items ≡ ps → k.callers.items ≡ [] → Stands h ps → Stands k.heap (places_of k)
stands_first h k ps heap are none stands =
    let places : places_of k ≡ ps = ap (λ (l : List of_callers.Caller). k.frame.registers.items ++ places_below (reverse l)) none ∙ append-nil k.frame.registers.items ∙ are in
    subst (λ (x : Heap). Stands x (places_of k)) (sym heap) (subst (Stands h) (sym places) stands)

-- the machine's state is the first one
pub start_first : (code : Code) (entry : ℕ) (r : Routine) (vs : List Datum) (k : Machine) (empty : Heap) → slice_get code.routines entry ≡ Some r → k.frame.routine ≡ entry → k.frame.at ≡ 0 → k.callers.items ≡ [] → ArePlaced (map_of k.heap) vs r.registers k.frame.registers.items → Stands empty [] → OnlyOnes empty k.heap → Stands k.heap (places_of k) → Extends code.shapes k.heap.shapes → IsFirst code entry vs (state_of k)
start_first code entry r vs k empty is routine at_first none placed nothing ones stands extends = record {
  callee = r;
  is = is;
  placed = placed;
  ones = λ key some. sym (holders_are k stands key) ∙ one_each empty k.heap (places_of k) nothing ones stands key some;
  no_dead = no_dead k stands;
  routine = routine;
  next = at_first;
  waiting = ap (λ (l : List of_callers.Caller). map waiting_of (reverse l)) none;
  shapes = extends;
}

-- the routine that was found takes as many as the one that is asked for
pub same_params : (o : Option Routine) (r s : Routine) (n : ℕ) → o ≡ Some r → o ≡ Some s → n ≡ r.params → n ≡ s.params
same_params o r s n first second many = let both : Some r ≡ Some s = sym first ∙ second in let same : r ≡ s = cc in many ∙ ap (λ (x : Routine). x.params) same
