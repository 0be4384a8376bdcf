-- Registers and the places in them.
use Rattle.std.proofs.Common.{◌≡◌, ℕ, zero, suc, ◌≤◌, ◌<◌, List, [], ◌∷◌, ◌++◌, length, get_or, set, Option, Some, None, refl, sym, ◌∙◌, ap, subst, arith}
use Rattle.wy_value.specs.Datum.{Datum}
use Rattle.wy_heap.specs.declared.part.Part.{Part}
use Rattle.wy_heap.specs.declared.part.Part.TheVariants.{Null}
use Rattle.wy_heap.specs.declared.part.Kind as kind
use Rattle.wy_heap.specs.declared.part.Kind.TheVariants as is
use Rattle.wy_heap.specs.Parts.{scalar_part}
use Rattle.wy_heap.specs.declared.heap.Heap.{Heap}
use Rattle.wy_heap.specs.Nodes.{Map, map_of, holds, held}
use Rattle.wy_heap.specs.Meaning.{Means}
use Rattle.wy_heap.specs.Standing.{Stands, Acts, Among, Keeps}
use Rattle.wy_heap.proofs.CountLemmas.{held-append, holds_one, held-set}
use Rattle.wy_heap.proofs.RowLemmas.{restood, first_scalar}
use Rattle.wy_sem.specs.Expressions.{Store, slot, put}
use Rattle.wy_mach.specs.Showing.{ShowsSlot, Shows, Turns, AreRegisters, IsBeside, Puts}

-- ---- what registers show

-- a part that is kept shows what it showed
pub slot_kept : (m n : Map) (others : List Part) (o : Option Datum) (p : Part) → Keeps m n others → Among others p → ShowsSlot m o p → ShowsSlot n o p
slot_kept m n others None p keeps among shows = shows
slot_kept m n others (Some d) p keeps among shows = keeps p d among shows

-- what is among more places
pub among_more : (p : Part) (few many : List Part) → ((k : ℕ) → held k few ≤ held k many) → Among few p → Among many p
among_more p few many more among k e = omega (arith, more k, among k e)

pub keeps_fewer : (m n : Map) (few many : List Part) → ((k : ℕ) → held k few ≤ held k many) → Keeps m n many → Keeps m n few
keeps_fewer m n few many more keeps q d among means = keeps q d (among_more q few many more among) means

pub among_first : (p : Part) (ps : List Part) → Among (p ∷ ps) p
among_first p ps k e = omega (arith, ap (holds k) e, holds_one k)

pub shows_kept : (m n : Map) (s : Store) (ps : List Part) → Keeps m n ps → Shows m s ps → Shows n s ps
shows_kept m n [] ps keeps shows = shows
shows_kept m n (o ∷ s) [] keeps shows = shows
shows_kept m n (o ∷ s) (p ∷ ps) keeps shows = (
  slot_kept m n (p ∷ ps) o p keeps (among_first p ps) shows.0,
  shows_kept m n s ps (keeps_fewer m n ps (p ∷ ps) (λ k. omega arith) keeps) shows.1,
)

-- what is put into a register is shown there
pub shows_put : (m : Map) (s : Store) (ps : List Part) (i : ℕ) (o : Option Datum) (p : Part) → Shows m s ps → ShowsSlot m o p → Shows m (put s i o) (set ps i p)
shows_put m [] [] i o p shows here = refl
shows_put m [] (q ∷ ps) i o p shows here = absurd (cc)
shows_put m (a ∷ s) [] i o p shows here = absurd shows
shows_put m (a ∷ s) (q ∷ ps) zero o p shows here = (here, shows.1)
shows_put m (a ∷ s) (q ∷ ps) (suc i) o p shows here = (shows.0, shows_put m s ps i o p shows.1 here)

-- a register that holds something shows it
pub shows_slot : (m : Map) (s : Store) (ps : List Part) (i : ℕ) (d : Datum) → Shows m s ps → slot s i ≡ Some d → Means m d (get_or ps i Null)
shows_slot m [] ps i d shows is = absurd (cc)
shows_slot m (o ∷ s) [] i d shows is = absurd shows
shows_slot m (o ∷ s) (p ∷ ps) zero d shows is = subst (λ (x : Option Datum). ShowsSlot m x p) is shows.0
shows_slot m (o ∷ s) (p ∷ ps) (suc i) d shows is = shows_slot m s ps i d shows.1 is

-- the number of a register that holds something is less than there are places
pub slot_within : (m : Map) (s : Store) (ps : List Part) (i : ℕ) (d : Datum) → Shows m s ps → slot s i ≡ Some d → i < length ps
slot_within m [] ps i d shows is = absurd (cc)
slot_within m (o ∷ s) [] i d shows is = absurd shows
slot_within m (o ∷ s) (p ∷ ps) zero d shows is = omega arith
slot_within m (o ∷ s) (p ∷ ps) (suc i) d shows is = omega (arith, slot_within m s ps i d shows.1 is)

-- ---- holders

-- what is put in comes in place of what was there
pub put_in : (h : Heap) (p old : Part) (ps others : List Part) (i : ℕ) → old ≡ get_or ps i Null → i < length ps → Stands h (p ∷ (ps ++ others)) → Stands h (old ∷ (set ps i p ++ others))
put_in h p old ps others i is below stands =
    restood h (p ∷ (ps ++ others)) (old ∷ (set ps i p ++ others))
    (λ k. omega (arith, held-append k ps others, held-append k (set ps i p) others, held-set k ps i p below, ap (holds k) is)) stands

-- what is taken out, and the rest
pub taken_out : (h : Heap) (p : Part) (ps others : List Part) (i : ℕ) → p ≡ get_or ps i Null → i < length ps → Stands h (ps ++ others) → Stands h (p ∷ (set ps i Null ++ others))
taken_out h p ps others i is below stands =
    restood h (ps ++ others) (p ∷ (set ps i Null ++ others))
    (λ k. omega (arith, held-append k ps others, held-append k (set ps i Null) others, held-set k ps i Null below, ap (holds k) is)) stands

-- a new place beside one in a register
pub shared_in : (h : Heap) (made p : Part) (ps others : List Part) (i : ℕ) → p ≡ get_or ps i Null → i < length ps → Stands h (made ∷ p ∷ (set ps i Null ++ others)) → Stands h (made ∷ (ps ++ others))
shared_in h made p ps others i is below stands =
    restood h (made ∷ p ∷ (set ps i Null ++ others)) (made ∷ (ps ++ others))
    (λ k. omega (arith, held-append k ps others, held-append k (set ps i Null) others, held-set k ps i Null below, ap (holds k) is)) stands

-- ---- a place that was put in

-- what the register with this number holds is shown
pub shows_at : (m : Map) (s : Store) (ps : List Part) (i : ℕ) → Shows m s ps → i < length ps → ShowsSlot m (slot s i) (get_or ps i Null)
shows_at m [] [] i shows below = absurd (omega arith)
shows_at m [] (p ∷ ps) i shows below = absurd (cc)
shows_at m (o ∷ s) [] i shows below = absurd shows
shows_at m (o ∷ s) (p ∷ ps) zero shows below = shows.0
shows_at m (o ∷ s) (p ∷ ps) (suc i) shows below = shows_at m s ps i shows.1 (omega arith)

-- there is nothing behind the last register
pub slot_beyond : (m : Map) (s : Store) (ps : List Part) (i : ℕ) → Shows m s ps → length ps ≤ i → slot s i ≡ None
slot_beyond m [] ps i shows beyond = refl
slot_beyond m (o ∷ s) [] i shows beyond = absurd shows
slot_beyond m (o ∷ s) (p ∷ ps) zero shows beyond = absurd (omega arith)
slot_beyond m (o ∷ s) (p ∷ ps) (suc i) shows beyond = slot_beyond m s ps i shows.1 (omega arith)

-- of all that is kept, what the others hold
pub acts_others : (h n : Heap) (qs others : List Part) → Acts h n [] (qs ++ others) → Acts h n qs others
acts_others h n qs others acts = record {
  stands = acts.stands;
  keeps = keeps_fewer (map_of h) (map_of n) others (qs ++ others) (λ k. omega (arith, held-append k qs others)) acts.keeps;
}

-- of all that is kept, what the registers hold
pub acts_registers : (h n : Heap) (qs others : List Part) → Acts h n [] (qs ++ others) → Keeps (map_of h) (map_of n) qs
acts_registers h n qs others acts = keeps_fewer (map_of h) (map_of n) qs (qs ++ others) (λ k. omega (arith, held-append k qs others)) acts.keeps

-- a scalar is held beside anything
pub scalar_beside : (h : Heap) (p : Part) (ps others : List Part) → ((k : ℕ) → holds k p ≡ 0) → Stands h (ps ++ others) → Stands h (p ∷ (ps ++ others))
scalar_beside h p ps others none stands = first_scalar h p (ps ++ others) none stands

-- a scalar came into the registers
pub scalar_turns : (h n : Heap) (ps qs : List Part) (p : Part) → ((k : ℕ) → holds k p ≡ 0) → Puts h n ps p qs → Turns h n ps qs
scalar_turns h n ps qs p none puts others stands = acts_others h n qs others (puts others (scalar_beside h p ps others none stands))

-- what stands for a datum came into a register, which shows it
pub put_shows : (h n : Heap) (s : Store) (ps qs : List Part) (i : ℕ) (o : Option Datum) (p : Part) → IsBeside h p ps → Puts h n ps p qs → qs ≡ set ps i p → Shows (map_of h) s ps → ShowsSlot (map_of h) o p → Shows (map_of n) (put s i o) qs
put_shows h n s ps qs i o p beside puts is shows here =
    shows_kept (map_of h) (map_of n) (put s i o) qs
    (acts_registers h n qs beside.0 (puts beside.0 beside.1))
    (subst (Shows (map_of h) (put s i o)) (sym is) (shows_put (map_of h) s ps i o p shows here))

pub scalar_shows : (h n : Heap) (s : Store) (ps qs : List Part) (i : ℕ) (o : Option Datum) (p : Part) → AreRegisters h ps → ((k : ℕ) → holds k p ≡ 0) → Puts h n ps p qs → qs ≡ set ps i p → Shows (map_of h) s ps → ShowsSlot (map_of h) o p → Shows (map_of n) (put s i o) qs
scalar_shows h n s ps qs i o p held none puts is shows here =
    put_shows h n s ps qs i o p (held.0, scalar_beside h p ps held.0 none held.1) puts is shows here

-- what was read, by any value for a register that isn't there
pub read_part : (ps : List Part) (i : ℕ) (p d : Part) → i < length ps → p ≡ get_or ps i d → p ≡ get_or ps i Null
read_part [] i p d below is = absurd (omega arith)
read_part (q ∷ ps) zero p d below is = is
read_part (q ∷ ps) (suc i) p d below is = read_part ps i p d (omega arith) is

-- a scalar holds no node
pub scalar_none : (j : ℕ) (k : kind.Kind) → holds j (scalar_part k) ≡ 0
scalar_none j is.Null = refl
scalar_none j (is.Bool b) = refl
scalar_none j (is.Int n) = refl
scalar_none j is.Array = refl
scalar_none j (is.Record n) = refl

pub scalar_free : (p : Part) (k : kind.Kind) → p ≡ scalar_part k → (j : ℕ) → holds j p ≡ 0
scalar_free p k value j = ap (holds j) value ∙ scalar_none j k
