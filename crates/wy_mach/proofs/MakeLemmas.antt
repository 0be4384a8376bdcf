-- What is made of what registers held, and comes into one of them.
use Rattle.std.proofs.Common.{◌≡◌, inl, inr, ◌∙◌, ℕ, List, [], ◌∷◌, ◌++◌, length, set, Some, refl, sym, ap, subst, arith}
use Rattle.std.specs.Prelude.{Result, Ok, Err, OnOk}
use Rattle.wy_value.specs.Datum.{Datum}
use Rattle.wy_heap.specs.declared.part.Part.{Part}
use Rattle.wy_heap.specs.declared.heap.Heap.{Heap}
use Rattle.wy_heap.specs.Nodes.{Map, map_of, held}
use Rattle.wy_heap.specs.Meaning.{Means, MeanAll}
use Rattle.wy_heap.specs.Standing.{Stands, AreHeld, Acts, IsAsBefore, SameTable}
use Rattle.wy_heap.specs.Changing.{Lasts}
use Rattle.wy_heap.proofs.CountLemmas.{held-append}
use Rattle.wy_heap.proofs.LeadLemmas.{means_same}
use Rattle.wy_heap.proofs.RowLemmas.{restood, as_before}
use Rattle.wy_sem.specs.Expressions.{Store}
use Rattle.wy_code_spec.specs.step.Step.{Effect, moved_all, gives}
use Rattle.wy_mach.specs.declared.stop.Stop.{Stop}
use Rattle.wy_mach.specs.declared.stop.Stop.TheVariants.{Stuck, NoMemory}
use Rattle.wy_mach.specs.Showing.{Shows, Leaves, WentOn, IsStop, Turns, AreRegisters, IsBeside, Puts}
use Rattle.wy_mach.specs.Taking.{taken, emptied, AreWithin, AreTaken, TakenTurns, GivesMade}
use Rattle.wy_mach.proofs.RegisterLemmas.{shows_kept, keeps_fewer, acts_others, put_shows}
use Rattle.wy_mach.proofs.TakeLemmas.{took, taken_stands, beyond_fails}
use Rattle.wy_value.specs.Seen.{data_of}

pub ok_pair : {T E : Type 0} (r : Result T E) (P Q : Type 0) → OnOk r P → OnOk r Q → OnOk r (P × Q)
ok_pair (Ok x) P Q p q = (p, q)
ok_pair (Err e) P Q p q = tt

-- ---- what was taken

taken_held : (h : Heap) (ps spent rest : List Part) (rs : List ℕ) → AreWithin (length ps) rs → spent ≡ taken ps rs → rest ≡ emptied ps rs → (others : List Part) → Stands h (ps ++ others) → Stands h (spent ++ (rest ++ others))
taken_held h ps spent rest rs within is left others stands =
    subst (λ (l : List Part). Stands h (l ++ (rest ++ others))) (sym is)
    (subst (λ (l : List Part). Stands h (taken ps rs ++ (l ++ others))) (sym left) (taken_stands h ps others rs within stands))

pub are_taken : (h : Heap) (ps spent rest : List Part) (rs : List ℕ) → AreWithin (length ps) rs → spent ≡ taken ps rs → rest ≡ emptied ps rs → AreRegisters h ps → AreTaken h spent rest
are_taken h ps spent rest rs within is left held = (held.0, taken_held h ps spent rest rs within is left held.0 held.1)

pub taken_turns : (h n : Heap) (ps spent rest qs : List Part) (rs : List ℕ) → AreWithin (length ps) rs → spent ≡ taken ps rs → rest ≡ emptied ps rs → TakenTurns h n spent rest qs → Turns h n ps qs
taken_turns h n ps spent rest qs rs within is left turns others stands = turns others (taken_held h ps spent rest rs within is left others stands)

-- where what was made came into a register, the registers show that
pub taken_goes : (h n : Heap) (ps spent rest qs : List Part) (rs : List ℕ) (to : ℕ) (of : List Datum → Datum) → spent ≡ taken ps rs → rest ≡ emptied ps rs → GivesMade h n spent rest qs to of
    → WentOn (map_of h) (map_of n) ps qs (λ s. moved_all s rs (λ vs last. gives last to (of vs)))
taken_goes h n ps spent rest qs rs to of is left made s shows = elim (took (map_of h) s ps rs (λ vs last. gives last to (of vs)) shows) [
  | inl fails ↦ subst (Leaves (map_of n) qs []) (sym fails) tt
  | inr t ↦
      subst (Leaves (map_of n) qs []) (sym t.effect_is) (
        made t.data_in t.rest (subst (MeanAll (map_of h) (data_of t.data_in)) (sym is) t.mean) (subst (Shows (map_of h) t.rest) (sym left) t.shows),
        refl,
      )
]

-- where one is the number of no register the instruction has no step
pub take_stops : (h : Heap) (ps : List Part) (rs : List ℕ) (next : Store → List Datum → Store → Effect) (stop : Stop) → (stop ≡ Stuck → AreWithin (length ps) rs → ⊥) → IsStop (map_of h) ps (λ s. moved_all s rs (next s)) stop
take_stops h ps rs next Stuck beyond = λ s shows. beyond_fails (map_of h) s ps rs (next s) shows (beyond refl)
take_stops h ps rs next NoMemory beyond = tt

-- ---- what is made

-- the places went, and this was made
abbrev pub Spends : Heap → Heap → List Part → Part → Type 0
Spends h n spent made = (others : List Part) → Stands h (spent ++ others) → Acts h n (made ∷ []) others

pub taken_are_held : (h : Heap) (spent rest : List Part) → AreTaken h spent rest → AreHeld h spent
taken_are_held h spent rest held = (rest ++ held.0, held.1)

pub made_beside : (h n : Heap) (spent rest : List Part) (made : Part) → Spends h n spent made → AreTaken h spent rest → IsBeside n made rest
made_beside h n spent rest made spends held = (held.0, (spends (rest ++ held.0) held.1).stands)

pub made_turns : (h n o : Heap) (spent rest qs : List Part) (made : Part) → Spends h n spent made → Puts n o rest made qs → TakenTurns h o spent rest qs
made_turns h n o spent rest qs made spends puts others stands =
    let first = spends (rest ++ others) stands in
    let second = acts_others n o qs others (puts others first.stands) in
    record {
      stands = second.stands;
      keeps = λ q d among means. second.keeps q d among
          (keeps_fewer (map_of h) (map_of n) others (rest ++ others) (λ k. omega (arith, held-append k rest others)) first.keeps q d among means);
    }

pub gives_made : (h n o : Heap) (spent rest qs : List Part) (to : ℕ) (made : Part) (of : List Datum → Datum) → Spends h n spent made → ((ds : List Datum) → MeanAll (map_of h) (data_of ds) spent → Means (map_of n) (of ds) made) → AreTaken h spent rest → Puts n o rest made qs → qs ≡ set rest to made → GivesMade h o spent rest qs to of
gives_made h n o spent rest qs to made of spends value held puts after ds s mean shows =
    let kept = keeps_fewer (map_of h) (map_of n) rest (rest ++ held.0) (λ k. omega (arith, held-append k rest held.0)) (spends (rest ++ held.0) held.1).keeps in
    put_shows n o s rest qs to (Some (of ds)) made (made_beside h n spent rest made spends held) puts after (shows_kept (map_of h) (map_of n) s rest kept shows) (value ds mean)

-- ---- refusals: what was to be spent is handed back in a heap that is as before

pub refused_held : (h n : Heap) (spent rest back : List Part) → back ≡ spent → IsAsBefore h n → SameTable h n → AreTaken h spent rest → AreHeld n back
refused_held h n spent rest back same before table held =
    (rest ++ held.0, as_before h n (back ++ (rest ++ held.0)) before table (subst (λ (l : List Part). Stands h (l ++ (rest ++ held.0))) (sym same) held.1))

pub refused_turns : (h n o : Heap) (spent rest back : List Part) → back ≡ spent → IsAsBefore h n → SameTable h n → ((others : List Part) → Stands n (back ++ others) → Acts n o [] others) → TakenTurns h o spent rest rest
refused_turns h n o spent rest back same before table acts others stands =
    let after = acts_others n o rest others (acts (rest ++ others) (as_before h n (back ++ (rest ++ others)) before table (subst (λ (l : List Part). Stands h (l ++ (rest ++ others))) (sym same) stands))) in
    record {
      stands = after.stands;
      keeps = λ q d among means. after.keeps q d among (means_same (map_of h) (map_of n) before.nodes d q means);
    }

-- ---- releases

popped_first : (h : Heap) (ps rest others : List Part) (p : Part) → ps ≡ rest ++ p ∷ [] → Stands h (ps ++ others) → Stands h (p ∷ (rest ++ others))
popped_first h ps rest others p is stands =
    restood h (ps ++ others) (p ∷ (rest ++ others))
    (λ k. omega (arith, held-append k ps others, ap (held k) is, held-append k rest (p ∷ []), held-append k rest others)) stands

pub popped_held : (h : Heap) (ps rest : List Part) (p : Part) → ps ≡ rest ++ p ∷ [] → AreHeld h ps → AreHeld h (p ∷ [])
popped_held h ps rest p is held = (rest ++ held.0, popped_first h ps rest held.0 p is held.1)

pub rest_held : (h n : Heap) (ps rest : List Part) (p : Part) → ps ≡ rest ++ p ∷ [] → AreHeld h ps → ((others : List Part) → Stands h (p ∷ others) → Acts h n [] others) → AreHeld n rest
rest_held h n ps rest p is held acts = (held.0, (acts (rest ++ held.0) (popped_first h ps rest held.0 p is held.1)).stands)

pub popped_acts : (a h n : Heap) (ps rest others : List Part) (p : Part) → ps ≡ rest ++ p ∷ [] → Acts a h [] (ps ++ others) → ((others : List Part) → Stands h (p ∷ others) → Acts h n [] others) → Acts a n [] (rest ++ others)
popped_acts a h n ps rest others p is before acts =
    let after = acts (rest ++ others) (popped_first h ps rest others p is before.stands) in
    record {
      stands = after.stands;
      keeps = λ q d among means. after.keeps q d among
          (keeps_fewer (map_of a) (map_of h) (rest ++ others) (ps ++ others)
          (λ k. omega (arith, held-append k ps others, ap (held k) is, held-append k rest (p ∷ []), held-append k rest others)) before.keeps q d among means);
    }

-- what is left of what was left
pub lasts_on : (m n o : Map) → Lasts m n → Lasts n o → Lasts m o
lasts_on m n o first second k = elim (second k) [
  | inl gone ↦ inl gone
  | inr same ↦ elim (first k) [ inl none ↦ inl (same ∙ none) | inr was ↦ inr (same ∙ was) ]
]
