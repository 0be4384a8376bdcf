-- What a list of tasks leads to, by which the form of a term is made without recursion.
use Rattle.std.specs.Prelude.{◌≡◌, ◌<◌, ℕ, List, [], ◌∷◌, map, All, Option, Some, None, Result, Ok, Err}
use Rattle.wy_term.specs.Term.{Term}
use Rattle.wy_lin.specs.declared.arithmetic.Factor.{Factor}
use Rattle.wy_lin.specs.declared.stop.Stop.{Stop}
use Rattle.wy_lin.specs.declared.sum.Sum.{Sum}
use Rattle.wy_lin.specs.declared.work.Task.{Task}
use Rattle.wy_lin.specs.declared.work.Task.TheVariants as task
use Rattle.wy_lin.specs.declared.work.Work.{Work}
use Rattle.wy_lin.specs.Linear.{◌>>=◌, Linear}
use Rattle.wy_lin.specs.TermForm.{with, multiple, form_of}
use Rattle.wy_lin.specs.Seen.{Stops, seen_sum, linear_sum, IsOver}

-- in the place of the last form and the one before it: that one, and a multiple of the last one more
abbrev pub joined : Factor → List (Linear Term) → Option (List (Linear Term))
joined m [] = None
joined m (g ∷ []) = None
joined m (g ∷ f ∷ fs) = with f m g >>= λ h. Some (h ∷ fs)

-- in the place of the last form: a multiple of it
abbrev pub scaled : Factor → List (Linear Term) → Option (List (Linear Term))
scaled m [] = None
scaled m (f ∷ fs) = multiple m f >>= λ h. Some (h ∷ fs)

-- the forms that the tasks lead to, the last one first
abbrev pub run : (ℕ → Term) → List Task → List (Linear Term) → Option (List (Linear Term))
run at [] fs = Some fs
run at (task.Term t ∷ ts) fs = form_of (at t) >>= λ f. run at ts (f ∷ fs)
run at (task.Join m ∷ ts) fs = joined m fs >>= λ gs. run at ts gs
run at (task.Multiply m ∷ ts) fs = scaled m fs >>= λ gs. run at ts gs

abbrev pub seen_sums : (ℕ → Term) → List Sum → List (Linear Term)
seen_sums at ss = map (seen_sum at) ss

-- what the work leads to
abbrev pub outcome : (ℕ → Term) → Work → Option (List (Linear Term))
outcome at w = run at w.tasks.items (seen_sums at w.forms.items)

-- what the work leads to once this task is done first
abbrev pub outcome_after : (ℕ → Term) → Task → Work → Option (List (Linear Term))
outcome_after at t w = run at (t ∷ w.tasks.items) (seen_sums at w.forms.items)

-- the work that is left leads to what the definition gives, unless memory ran out
abbrev pub Leads : (ℕ → Term) → Result Work Stop → Option (List (Linear Term)) → Type 0
Leads at (Ok w) given = outcome at w ≡ given
Leads at (Err e) given = Stops e given

-- the task is one on the first n terms
abbrev pub IsTaskOver : ℕ → Task → Type 0
IsTaskOver n (task.Term t) = t < n
IsTaskOver n (task.Join m) = Unit {0}
IsTaskOver n (task.Multiply m) = Unit {0}

abbrev pub AreSumsOver : ℕ → List Sum → Type 0
AreSumsOver n ss = All (λ s. IsOver n (linear_sum s)) ss

pub record IsWorkOver (n : ℕ) (w : Work) : Type 0 where
  pub tasks : All (IsTaskOver n) w.tasks.items
  pub forms : AreSumsOver n w.forms.items
