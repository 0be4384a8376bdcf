-- Lists of formulas that are added to a node one after the other, and the loops over what stands in it.
use Rattle.std.specs.Prelude.{◌≡◌, ℕ, zero, suc, List, [], ◌∷◌, length, pos}
use Rattle.wy_term.specs.Term.{Term, Of, Parts, no_parts, part, Number, array}
use Rattle.wy_term.specs.Nodes.{Plain}
use Rattle.wy_facts.specs.Seen.{terms_at, AreBelow}
use Rattle.wy_cong.specs.wy_check_spec.judge.Node.{Node, with_formulas}
use Rattle.wy_cong.specs.wy_check_spec.valid.Membership.{fact_among}
use Rattle.wy_cong.specs.wy_search_spec.Expansion.{with_some}

-- whichever node these formulas are added to: with those it becomes what this function makes of it with these
pub record Leads (old : List Plain) (xs : List ℕ) (new : List Plain) (ys : List ℕ) (more : Node → Node) : Type 0 where
  pub value : (start : Node) → with_formulas start (terms_at new ys) ≡ more (with_formulas start (terms_at old xs))
  pub below : AreBelow (length new) ys

-- the facts of a read element and of so many numbers, from 0
abbrev pub with_numbered : Term → Node → ℕ → Node
with_numbered t node zero = node
with_numbered t node (suc n) = with_some (with_numbered t node n) (fact_among [] 4 (t ∷ Number (pos n) ∷ []))

-- how many parts there are
abbrev pub count : Parts → ℕ
count no_parts = 0
count (part t ts) = suc (count ts)

-- the elements of an array that is written out
abbrev pub written : Term → Parts
written (Of array vs) = vs
written t = no_parts
