-- What is taken from several registers, and what that shows.
use Rattle.std.proofs.Common.{◌≡◌, ◌⊎◌, inl, inr, ℕ, zero, suc, ◌+◌, ◌<◌, List, [], ◌∷◌, ◌++◌, length, set, Option, Some, None, refl, ◌∙◌, ap, arith}
use Rattle.wy_value.specs.Datum.{Datum}
use Rattle.wy_heap.specs.declared.part.Part.{Part}
use Rattle.wy_heap.specs.declared.part.Part.TheVariants.{Null}
use Rattle.wy_heap.specs.declared.heap.Heap.{Heap}
use Rattle.wy_heap.specs.Nodes.{Map, held}
use Rattle.wy_heap.specs.Meaning.{MeanAll}
use Rattle.wy_heap.specs.Standing.{Stands}
use Rattle.wy_heap.proofs.CountLemmas.{held-append, held-set}
use Rattle.wy_heap.proofs.RowLemmas.{restood}
use Rattle.wy_sem.specs.Expressions.{Store, slot, put}
use Rattle.wy_code_spec.specs.step.Step.{Effect, Fails, there, moved_all}
use Rattle.wy_mach.specs.Showing.{Shows}
use Rattle.wy_mach.specs.Taking.{taken, emptied, AreWithin}
use Rattle.wy_mach.proofs.RegisterLemmas.{shows_put, shows_slot, slot_within}
use Rattle.wy_mach.proofs.EqualLemmas.{length-set_part}
use Rattle.wy_value.specs.Seen.{data_of}

-- ---- holders

pub held-taken : (k : ℕ) (ps : List Part) (rs : List ℕ) → AreWithin (length ps) rs → held k (taken ps rs) + held k (emptied ps rs) ≡ held k ps
held-taken k ps [] within = omega arith
held-taken k ps (r ∷ rs) within =
    omega (
      arith,
      held-set k ps r Null (within 0 (omega arith)),
      held-taken k (set ps r Null) rs (λ j below. omega (arith, within (suc j) (omega arith), length-set_part ps r Null)),
    )

pub taken_stands : (h : Heap) (ps others : List Part) (rs : List ℕ) → AreWithin (length ps) rs → Stands h (ps ++ others) → Stands h (taken ps rs ++ (emptied ps rs ++ others))
taken_stands h ps others rs within stands =
    restood h (ps ++ others) (taken ps rs ++ (emptied ps rs ++ others))
    (λ k. omega (arith, held-append k ps others, held-append k (taken ps rs) (emptied ps rs ++ others), held-append k (emptied ps rs) others, held-taken k ps rs within)) stands

-- ---- what is shown

-- some data were taken from the registers, which show the rest now
pub record Took (m : Map) (s : Store) (ps : List Part) (rs : List ℕ) (next : List Datum → Store → Effect) : Type 0 where
  pub data_in : List Datum
  pub rest : Store
  pub effect_is : moved_all s rs next ≡ next data_in rest
  pub mean : MeanAll m (data_of data_in) (taken ps rs)
  pub shows : Shows m rest (emptied ps rs)

took_more : (m : Map) (s : Store) (ps : List Part) (r : ℕ) (rs : List ℕ) (next : List Datum → Store → Effect) (v : Datum) → Shows m s ps → slot s r ≡ Some v
    → (moved_all (put s r None) rs (λ vs last. next (v ∷ vs) last) ≡ Fails) ⊎ Took m (put s r None) (set ps r Null) rs (λ vs last. next (v ∷ vs) last)
    → (moved_all s (r ∷ rs) next ≡ Fails) ⊎ Took m s ps (r ∷ rs) next
took_more m s ps r rs next v shows is (inl fails) =
    inl (ap (λ (o : Option Datum). there o (λ w. moved_all (put s r None) rs (λ vs last. next (w ∷ vs) last))) is ∙ fails)
took_more m s ps r rs next v shows is (inr took) = inr (record {
  data_in = v ∷ took.data_in;
  rest = took.rest;
  effect_is = ap (λ (o : Option Datum). there o (λ w. moved_all (put s r None) rs (λ vs last. next (w ∷ vs) last))) is ∙ took.effect_is;
  mean = (shows_slot m s ps r v shows is, took.mean);
  shows = took.shows;
})

some_or_none : (o : Option Datum) → (o ≡ None) ⊎ ((v : Datum) × (o ≡ Some v))
some_or_none None = inl refl
some_or_none (Some v) = inr (v, refl)

-- what is taken in turn: one register is empty, and the instruction has no step, or all show something
pub took : (m : Map) (s : Store) (ps : List Part) (rs : List ℕ) (next : List Datum → Store → Effect) → Shows m s ps → (moved_all s rs next ≡ Fails) ⊎ Took m s ps rs next
took m s ps [] next shows = inr (record { data_in = []; rest = s; effect_is = refl; mean = refl; shows = shows })
took m s ps (r ∷ rs) next shows = elim (some_or_none (slot s r)) [
  | inl none ↦ inl (ap (λ (o : Option Datum). there o (λ w. moved_all (put s r None) rs (λ vs last. next (w ∷ vs) last))) none)
  | inr some ↦ took_more m s ps r rs next some.0 shows some.1
      (took m (put s r None) (set ps r Null) rs (λ vs last. next (some.0 ∷ vs) last) (shows_put m s ps r None Null shows refl))
]

within_more : (r : ℕ) (rs : List ℕ) (limit : ℕ) → r < limit → AreWithin limit rs → AreWithin limit (r ∷ rs)
within_more r rs limit first rest zero below = first
within_more r rs limit first rest (suc k) below = rest k (omega arith)

-- where one is the number of no register the instruction has no step
pub beyond_fails : (m : Map) (s : Store) (ps : List Part) (rs : List ℕ) (next : List Datum → Store → Effect) → Shows m s ps → (AreWithin (length ps) rs → ⊥) → moved_all s rs next ≡ Fails
beyond_fails m s ps [] next shows beyond = absurd (beyond (λ k below. absurd (omega arith)))
beyond_fails m s ps (r ∷ rs) next shows beyond = elim (some_or_none (slot s r)) [
  | inl none ↦ ap (λ (o : Option Datum). there o (λ w. moved_all (put s r None) rs (λ vs last. next (w ∷ vs) last))) none
  | inr some ↦
      ap (λ (o : Option Datum). there o (λ w. moved_all (put s r None) rs (λ vs last. next (w ∷ vs) last))) some.1
      ∙ beyond_fails m (put s r None) (set ps r Null) rs (λ vs last. next (some.0 ∷ vs) last) (shows_put m s ps r None Null shows refl)
      (λ within. beyond (within_more r rs (length ps) (slot_within m s ps r some.0 shows some.1) (λ k below. omega (arith, within k below, length-set_part ps r Null))))
]
