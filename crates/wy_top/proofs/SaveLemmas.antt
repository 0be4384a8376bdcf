-- The save behind what `prove` makes, seen from where the command began.
use Rattle.std.proofs.Common.{◌≡◌, ℕ, List, subst, sym}
use Rattle.wy_top_probe.specs.wy_top_answers.Showing.{Sinks}
use Rattle.wy_top_probe.specs.wy_top_answers.Steps.{IsDuring, Rises, setting}
use Rattle.wy_top_probe.specs.wy_top_answers.declared.answer.Answer.{Answer}
use Rattle.wy_port.specs.Told.{Told}
use Rattle.wy_top.specs.Saves.{Saves, saving}
use Rattle.wy_top_probe.proofs.wy_top_answers_proofs.DuringLemmas.{during_itself}

-- what came before the save took place in the time of both
pub during_before : (told : List ℕ → Told) (f g h m n o : List ℕ → ℕ) → Rises f g → h ≡ g → Rises m n → o ≡ n → IsDuring (setting told f h m o) told f g m n
during_before told f g h m n o faults loads misses missed =
    subst (λ (e : List ℕ → ℕ). IsDuring (setting told f e m o) told f g m n) (sym loads) (subst (λ (e : List ℕ → ℕ). IsDuring (setting told f g m e) told f g m n) (sym missed) (during_itself told f g m n faults misses))

-- what came before changed neither the file nor the count of failed saves
pub saves_from : (name saved : List ℕ) (a : Answer) (before between after : Told) (f g h : ℕ) (status : ℕ) (k : Sinks) → between ≡ before → g ≡ f → Saves name saved a (saving between after g h) status k → Saves name saved a (saving before after f h) status k
saves_from name saved a before between after f g h status k same count saves =
    subst (λ (t : Told). Saves name saved a (saving t after f h) status k) same (subst (λ (n : ℕ). Saves name saved a (saving between after n h) status k) count saves)
