-- Lists of formulas that are added to a node one after the other.
use Rattle.std.specs.Prelude.{◌≡◌, ℕ, List, length}
use Rattle.wy_term.specs.Nodes.{Plain}
use Rattle.wy_cong.specs.wy_facts.Seen.{terms_at, AreBelow}
use Rattle.wy_cong.specs.wy_check_spec.judge.Node.{Node, with_formulas}

-- whichever node these formulas are added to: with those it becomes what this function makes of it with these
pub record Leads (old : List Plain) (xs : List ℕ) (new : List Plain) (ys : List ℕ) (more : Node → Node) : Type 0 where
  pub value : (start : Node) → with_formulas start (terms_at new ys) ≡ more (with_formulas start (terms_at old xs))
  pub below : AreBelow (length new) ys
