-- What the registers of a frame show at entry.
use Rattle.std.proofs.Common.{◌≡◌, ℕ, zero, suc, ◌-◌, List, [], ◌∷◌, ◌++◌, length, refl, sym, ◌∙◌, ap, subst, arith, append-nil}
use Rattle.wy_value.specs.Datum.{Datum}
use Rattle.wy_heap.specs.declared.part.Part.{Part}
use Rattle.wy_heap.specs.Nodes.{Map}
use Rattle.wy_heap.specs.Meaning.{MeanAll}
use Rattle.wy_heap.proofs.MeaningLemmas.{mean_all-length}
use Rattle.wy_sem.specs.Expressions.{Store}
use Rattle.wy_code_spec.specs.step.Step.{holding, empties}
use Rattle.wy_mach.specs.Showing.{Shows}
use Rattle.wy_mach.specs.Taking.{nulls}
use Rattle.wy_mach.proofs.RecordLemmas.{length-data_of}
use Rattle.wy_value.specs.Seen.{data_of}

holding_shows : (m : Map) (vs : List Datum) (ps : List Part) → MeanAll m (data_of vs) ps → Shows m (holding vs) ps
holding_shows m [] ps mean = mean
holding_shows m (v ∷ vs) [] mean = absurd mean
holding_shows m (v ∷ vs) (p ∷ ps) mean = (mean.0, holding_shows m vs ps mean.1)

empties_show : (m : Map) (n : ℕ) → Shows m (empties n) (nulls n)
empties_show m zero = refl
empties_show m (suc n) = (refl, empties_show m n)

shows_append : (m : Map) (s t : Store) (ps qs : List Part) → Shows m s ps → Shows m t qs → Shows m (s ++ t) (ps ++ qs)
shows_append m [] t [] qs first second = second
shows_append m [] t (p ∷ ps) qs first second = absurd (cc)
shows_append m (o ∷ s) t [] qs first second = absurd first
shows_append m (o ∷ s) t (p ∷ ps) qs first second = (first.0, shows_append m s t ps qs first.1 second)

pub entry_shows : (m : Map) (vs : List Datum) (ps all : List Part) (many : ℕ) → all ≡ ps ++ nulls (many - length ps) → MeanAll m (data_of vs) ps → Shows m (holding vs ++ empties (many - length vs)) all
entry_shows m vs ps all many is mean =
    let as_many : length ps ≡ length vs = omega (arith, mean_all-length m (data_of vs) ps mean, length-data_of vs) in
    subst (Shows m (holding vs ++ empties (many - length vs))) (sym (is ∙ ap (λ (n : ℕ). ps ++ nulls (many - n)) as_many))
    (shows_append m (holding vs) (empties (many - length vs)) ps (nulls (many - length vs)) (holding_shows m vs ps mean) (empties_show m (many - length vs)))

pub no_more : (all whole : List Part) (more : ℕ) → more ≡ 0 → all ++ nulls more ≡ whole → all ≡ whole
no_more all whole more none left = sym (append-nil all) ∙ ap (λ (n : ℕ). all ++ nulls n) (sym none) ∙ left
