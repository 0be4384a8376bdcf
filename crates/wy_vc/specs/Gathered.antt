-- Terms that were gathered, as more come behind them.
use Rattle.std.specs.Prelude.{◌≡◌, ℕ, List, [], ◌++◌, map, nat_eq, true}
use Rattle.std.specs.HashSet.{contains}
use Rattle.wy_term.specs.Term.{Term}
use Rattle.wy_term.specs.Nodes.{Plain, tree_at}
use Rattle.wy_vc_spec.specs.Limits.{has_term, is_among, terms_in_all}
use Rattle.wy_vc.specs.Shared.{IsListed}
use Rattle.wy_vc.specs.declared.shared.Gathered.{Gathered}

-- more stand behind the old ones
pub record Grown (old new : List ℕ) : Type 0 where
  pub fresh : List ℕ
  pub is : new ≡ old ++ fresh

-- these are what the roots are made of, each once
abbrev pub AreGathered : List Plain → List ℕ → Gathered → Type 0
AreGathered nodes roots g = IsListed nodes roots g.all.items (contains nat_eq g.noted) []

-- these are what some roots are made of, hypotheses among them, and all of it is among these terms
pub record AreHeld (nodes : List Plain) (g : Gathered) (hyps : List ℕ) (ts : List Term) : Type 0 where
  pub roots : List ℕ
  pub gathered : AreGathered nodes roots g
  pub inside : (t : Term) → has_term (terms_in_all (map (tree_at nodes) roots)) t ≡ true → has_term ts t ≡ true
  pub held : (k : ℕ) → is_among hyps k ≡ true → is_among roots k ≡ true
