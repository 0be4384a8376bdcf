-- What a step states, added to a node.
use Rattle.std.specs.Prelude.{◌≡◌, List, [], ◌∷◌, ◌++◌, Option, Some, None, ◌⊎◌}
use Rattle.wy_term.specs.Term.{Term}
use Rattle.wy_search_laws.specs.wy_check_spec.judge.Node.{with_formulas}
use Rattle.wy_cert.specs.Steps.{Written}
use Rattle.wy_prove_drafts.specs.Progress.{Progress}

-- one step more, at the node as it is
abbrev pub with_step : Progress → Written → Progress
with_step p s = record { steps = p.steps ++ s ∷ []; node = p.node }

-- the node has these formulas more, and the step was written; or they add nothing, and nothing was written
pub record Adds (s : Written) (fs : List Term) (old new : Progress) : Type 0 where
  pub node : new.node ≡ with_formulas old.node fs
  pub written : (new.steps ≡ old.steps ++ s ∷ []) ⊎ (new ≡ old)

-- so it is where the step states formulas; where it states none, since it isn't valid, nothing changed
abbrev pub States : Written → Option (List Term) → Progress → Progress → Type 0
States s (Some fs) old new = Adds s fs old new
States s None old new = new ≡ old
