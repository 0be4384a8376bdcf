-- What the instructions that move do to the heap and to what registers show.
use Rattle.std.proofs.Common.{◌≡◌, ℕ, ◌<◌, List, [], ◌∷◌, ◌++◌, length, get_or, set, Some, None, refl, sym, ◌∙◌, ap, subst, arith}
use Rattle.wy_value.specs.Datum.{Datum}
use Rattle.wy_heap.specs.declared.part.Part.{Part}
use Rattle.wy_heap.specs.declared.part.Part.TheVariants.{Null}
use Rattle.wy_heap.specs.declared.part.Kind as kind
use Rattle.wy_heap.specs.Parts.{scalar_part}
use Rattle.wy_code.specs.declared.instructions.Scalar.{Scalar}
use Rattle.wy_code.specs.declared.instructions.Scalar.TheVariants as scalar
use Rattle.wy_heap.specs.declared.heap.Heap.{Heap}
use Rattle.wy_heap.specs.Nodes.{Map, map_of, holds, held}
use Rattle.wy_heap.specs.Meaning.{Means}
use Rattle.wy_heap.specs.Standing.{Stands, AreHeld, Acts, Keeps, IsAsBefore, SameTable}
use Rattle.wy_heap.proofs.CountLemmas.{held-append, held-set}
use Rattle.wy_heap.proofs.LeadLemmas.{means_same}
use Rattle.wy_heap.proofs.RowLemmas.{as_before, first_scalar}
use Rattle.wy_sem.specs.Expressions.{Store, slot, put}
use Rattle.wy_code_spec.specs.step.Step.{GoesOn, there, gives, moved, cleared, scalar_of}
use Rattle.wy_mach.specs.Showing.{Shows, Leaves, WentOn, Turns, AreRegisters, IsBeside, Puts, scalar_kind}
use Rattle.wy_mach.proofs.EffectLemmas.{by_there}
use Rattle.wy_mach.proofs.RegisterLemmas.{shows_kept, shows_put, shows_slot, keeps_fewer, put_in, taken_out, shared_in, acts_others, put_shows, scalar_shows, scalar_free}

-- ---- one register

pub put_release : (h : Heap) (p old : Part) (ps : List Part) (i : ℕ) → old ≡ get_or ps i Null → i < length ps → IsBeside h p ps → AreHeld h (old ∷ [])
put_release h p old ps i is below beside = (set ps i p ++ beside.0, put_in h p old ps beside.0 i is below beside.1)

pub put_acts : (h n : Heap) (p old : Part) (ps qs : List Part) (i : ℕ) → old ≡ get_or ps i Null → i < length ps → qs ≡ set ps i p → ((others : List Part) → Stands h (old ∷ others) → Acts h n [] others) → Puts h n ps p qs
put_acts h n p old ps qs i is below after acts others stands =
    subst (λ (l : List Part). Acts h n [] (l ++ others)) (sym after) (acts (set ps i p ++ others) (put_in h p old ps others i is below stands))

pub beyond_acts : (h n : Heap) (p : Part) (ps : List Part) → ((others : List Part) → Stands h (p ∷ others) → Acts h n [] others) → Puts h n ps p ps
beyond_acts h n p ps acts others stands = acts (ps ++ others) stands

-- ---- moves

pub taken_beside : (h : Heap) (p : Part) (ps rest : List Part) (i : ℕ) → p ≡ get_or ps i Null → i < length ps → rest ≡ set ps i Null → AreRegisters h ps → IsBeside h p rest
taken_beside h p ps rest i is below left held =
    (held.0, subst (λ (l : List Part). Stands h (p ∷ (l ++ held.0))) (sym left) (taken_out h p ps held.0 i is below held.1))

pub moved_turns : (h n : Heap) (p : Part) (ps rest qs : List Part) (i : ℕ) → p ≡ get_or ps i Null → i < length ps → rest ≡ set ps i Null → Puts h n rest p qs → Turns h n ps qs
moved_turns h n p ps rest qs i is below left puts others stands =
    acts_others h n qs others (puts others (subst (λ (l : List Part). Stands h (p ∷ (l ++ others))) (sym left) (taken_out h p ps others i is below stands)))

-- what is left shows the registers without that one
pub rest_shows : (m : Map) (s : Store) (ps rest : List Part) (i : ℕ) → rest ≡ set ps i Null → Shows m s ps → Shows m (put s i None) rest
rest_shows m s ps rest i left shows = subst (Shows m (put s i None)) (sym left) (shows_put m s ps i None Null shows refl)

pub moved_goes : (h n : Heap) (p : Part) (ps rest qs : List Part) (from to : ℕ) → p ≡ get_or ps from Null → from < length ps → rest ≡ set ps from Null → qs ≡ set rest to p → AreRegisters h ps → Puts h n rest p qs
    → WentOn (map_of h) (map_of n) ps qs (λ s. moved s from (λ v left. gives left to v))
moved_goes h n p ps rest qs from to is below left after held puts s shows =
    by_there (Leaves (map_of n) qs []) (slot s from) (λ v. gives (put s from None) to v) tt
    (λ v there_is. (
      put_shows h n (put s from None) rest qs to (Some v) p (taken_beside h p ps rest from is below left held) puts after (rest_shows (map_of h) s ps rest from left shows)
          (subst (Means (map_of h) v) (sym is) (shows_slot (map_of h) s ps from v shows there_is)),
      refl,
    ))

-- ---- shares

pub register_held : (h : Heap) (p : Part) (ps : List Part) (i : ℕ) → p ≡ get_or ps i Null → i < length ps → AreRegisters h ps → AreHeld h (p ∷ [])
register_held h p ps i is below held = (set ps i Null ++ held.0, taken_out h p ps held.0 i is below held.1)

-- a second hold on what a register holds
abbrev pub Seconds : Heap → Heap → Part → Part → Type 0
Seconds h n p made = (others : List Part) → Stands h (p ∷ others) → Acts h n (made ∷ []) (p ∷ others)

pub second_stands : (h n : Heap) (p made : Part) (ps others : List Part) (i : ℕ) → p ≡ get_or ps i Null → i < length ps → Seconds h n p made → Stands h (ps ++ others) → Stands n (made ∷ (ps ++ others))
second_stands h n p made ps others i is below seconds stands =
    shared_in n made p ps others i is below (seconds (set ps i Null ++ others) (taken_out h p ps others i is below stands)).stands

same_holders : (k : ℕ) (p : Part) (ps others : List Part) (i : ℕ) → p ≡ get_or ps i Null → i < length ps → held k (ps ++ others) ≡ held k (p ∷ (set ps i Null ++ others))
same_holders k p ps others i is below = omega (arith, held-append k ps others, held-append k (set ps i Null) others, held-set k ps i Null below, ap (holds k) is)

second_keeps : (h n : Heap) (p made : Part) (ps others : List Part) (i : ℕ) → p ≡ get_or ps i Null → i < length ps → Seconds h n p made → Stands h (ps ++ others) → Keeps (map_of h) (map_of n) (ps ++ others)
second_keeps h n p made ps others i is below seconds stands =
    let out = taken_out h p ps others i is below stands in
    keeps_fewer (map_of h) (map_of n) (ps ++ others) (p ∷ (set ps i Null ++ others)) (λ k. omega (arith, same_holders k p ps others i is below)) (seconds (set ps i Null ++ others) out).keeps

pub second_beside : (h n : Heap) (p made : Part) (ps : List Part) (i : ℕ) → p ≡ get_or ps i Null → i < length ps → AreRegisters h ps → Seconds h n p made → IsBeside n made ps
second_beside h n p made ps i is below held seconds = (held.0, second_stands h n p made ps held.0 i is below seconds held.1)

pub second_turns : (h n o : Heap) (p made : Part) (ps qs : List Part) (i : ℕ) → p ≡ get_or ps i Null → i < length ps → Seconds h n p made → Puts n o ps made qs → Turns h o ps qs
second_turns h n o p made ps qs i is below seconds puts others stands =
    let acts = acts_others n o qs others (puts others (second_stands h n p made ps others i is below seconds stands)) in
    let kept = keeps_fewer (map_of h) (map_of n) others (ps ++ others) (λ k. omega (arith, held-append k ps others)) (second_keeps h n p made ps others i is below seconds stands) in
    record { stands = acts.stands; keeps = λ q d among means. acts.keeps q d among (kept q d among means) }

-- what was shared, or a part of it, came into a register
pub second_shows : (h n o : Heap) (s : Store) (p made : Part) (ps qs : List Part) (i to : ℕ) (d : Datum) → p ≡ get_or ps i Null → i < length ps → AreRegisters h ps → Seconds h n p made → Puts n o ps made qs → qs ≡ set ps to made → Shows (map_of h) s ps → Means (map_of n) d made → Shows (map_of o) (put s to (Some d)) qs
second_shows h n o s p made ps qs i to d is below held seconds puts after shows means =
    put_shows n o s ps qs to (Some d) made (second_beside h n p made ps i is below held seconds) puts after
    (shows_kept (map_of h) (map_of n) s ps
    (keeps_fewer (map_of h) (map_of n) ps (ps ++ held.0) (λ k. omega (arith, held-append k ps held.0)) (second_keeps h n p made ps held.0 i is below seconds held.1)) shows)
    means

pub shared_goes : (h n o : Heap) (p made : Part) (ps qs : List Part) (from to : ℕ) → p ≡ get_or ps from Null → from < length ps → AreRegisters h ps → Seconds h n p made → ((d : Datum) → Means (map_of h) d p → Means (map_of n) d made) → Puts n o ps made qs → qs ≡ set ps to made
    → WentOn (map_of h) (map_of o) ps qs (λ s. there (slot s from) (λ v. gives s to v))
shared_goes h n o p made ps qs from to is below held seconds value puts after s shows =
    by_there (Leaves (map_of o) qs []) (slot s from) (λ v. gives s to v) tt
    (λ v there_is. (
      second_shows h n o s p made ps qs from to v is below held seconds puts after shows
          (value v (subst (Means (map_of h) v) (sym is) (shows_slot (map_of h) s ps from v shows there_is))),
      refl,
    ))

-- ---- nothing changed

pub unchanged : (h n : Heap) (ps : List Part) → IsAsBefore h n → SameTable h n → Turns h n ps ps
unchanged h n ps same table others stands = record {
  stands = as_before h n (ps ++ others) same table stands;
  keeps = λ q d among means. means_same (map_of h) (map_of n) same.nodes d q means;
}

-- ---- clears

-- some registers are cleared, and these are left to clear
pub record Clears (h n : Heap) (ps qs : List Part) (numbers left : List ℕ) : Type 0 where
  pub turns : Turns h n ps qs
  pub held : AreRegisters n qs
  pub shows : (s : Store) → Shows (map_of h) s ps → (t : Store) × Shows (map_of n) t qs × (cleared s numbers ≡ cleared t left)

pub clears_none : (h : Heap) (ps : List Part) (numbers : List ℕ) → AreRegisters h ps → Clears h h ps ps numbers numbers
clears_none h ps numbers held = record {
  turns = λ others stands. record { stands = stands; keeps = λ q d among means. means };
  held = held;
  shows = λ s shows. (s, shows, refl);
}

pub clears_more : (h n o : Heap) (ps qs rs : List Part) (numbers left rest : List ℕ) (i : ℕ) (p : Part) → Clears h n ps qs numbers left → left ≡ i ∷ rest → p ≡ Null → ((k : ℕ) → holds k p ≡ 0) → Puts n o qs p rs → rs ≡ set qs i p → Clears h o ps rs numbers rest
clears_more h n o ps qs rs numbers left rest i p clears first null none puts after = record {
  turns = λ others stands.
      let before = clears.turns others stands in
      let acts = acts_others n o rs others (puts others (first_scalar n p (qs ++ others) none before.stands)) in
      record { stands = acts.stands; keeps = λ q d among means. acts.keeps q d among (before.keeps q d among means) };
  held = (clears.held.0, (puts clears.held.0 (first_scalar n p (qs ++ clears.held.0) none clears.held.1)).stands);
  shows = λ s shows.
      let before = clears.shows s shows in (
        put before.0 i None,
        scalar_shows n o before.0 qs rs i None p clears.held none puts after before.1 null,
        before.2 ∙ ap (cleared before.0) first,
      );
}

pub cleared_goes : (h n : Heap) (ps qs : List Part) (numbers : List ℕ) → Clears h n ps qs numbers [] → (s : Store) → Shows (map_of h) s ps → Leaves (map_of n) qs [] (GoesOn (cleared s numbers) [])
cleared_goes h n ps qs numbers clears s shows =
    let done = clears.shows s shows in
    (subst (λ (t : Store). Shows (map_of n) t qs) (sym done.2) done.1, refl)

-- ---- constants

const_means : (m : Map) (c : Scalar) → Means m (scalar_of c) (scalar_part (scalar_kind c))
const_means m scalar.Null = refl
const_means m (scalar.Bool b) = refl
const_means m (scalar.Int z) = refl

pub const_goes : (h n : Heap) (ps qs : List Part) (to : ℕ) (c : Scalar) (k : kind.Kind) (p : Part) → AreRegisters h ps → k ≡ scalar_kind c → p ≡ scalar_part k → Puts h n ps p qs → qs ≡ set ps to p
    → WentOn (map_of h) (map_of n) ps qs (λ s. gives s to (scalar_of c))
const_goes h n ps qs to c k p held kind_is is puts after s shows = (
  scalar_shows h n s ps qs to (Some (scalar_of c)) p held (scalar_free p k is) puts after shows
      (subst (Means (map_of h) (scalar_of c)) (sym (is ∙ ap scalar_part kind_is)) (const_means (map_of h) c)),
  refl,
)
