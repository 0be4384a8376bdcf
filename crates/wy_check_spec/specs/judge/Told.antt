-- When a node is true, and what follows.
use Rattle.std.specs.Prelude.{◌≡◌, List, [], ◌∷◌, true, false}
use Rattle.wy_lin.specs.wy_term.Term.{Term}
use Rattle.wy_lin.specs.wy_term.Meaning.{Names, sense}
use Rattle.wy_lin.specs.wy_term.Condition.{Condition, AllTrue}
use Rattle.wy_check_spec.specs.declared.judge.verdict.Verdict.TheVariants.{Yes, No}
use Rattle.wy_check_spec.specs.judge.Node.{Literal, Node, added, denied_one, first_node}
use Rattle.wy_check_spec.specs.judge.Judgement.{judged}

-- the literal is true
abbrev pub IsTold : Names → Literal → Type 0
IsTold names l = (sense names l.atom).truth ≡ l.holds

-- each literal is true
abbrev pub AllTold : Names → List Literal → Type 0
AllTold names [] = Unit {0}
AllTold names (l ∷ ls) = IsTold names l × AllTold names ls

-- the literals and the pending formulas of a node are true
pub record IsTrueNode (names : Names) (node : Node) : Type 0 where
  pub literals : AllTold names node.literals
  pub pending : AllTrue names node.pending

-- where the literals are true, a formula that is judged yes is true, and one that is judged no is false
abbrev pub JudgesTruly : Type 0
JudgesTruly = (names : Names) (ls : List Literal) (f : Term) → AllTold names ls → (judged ls f ≡ Yes → (sense names f).truth ≡ true) × (judged ls f ≡ No → (sense names f).truth ≡ false)

-- where a node is true, it is still true with a true formula, and with the denial of a false one
abbrev pub AddsTruly : Type 0
AddsTruly = (names : Names) (node : Node) (f : Term) → IsTrueNode names node → ((sense names f).truth ≡ true → IsTrueNode names (added node f)) × ((sense names f).truth ≡ false → IsTrueNode names (denied_one node f))

-- where the hypotheses of a condition are true and its goal is false, the node in which its certificate begins is true
abbrev pub BeginsTruly : Type 0
BeginsTruly = (names : Names) (c : Condition) → AllTrue names c.hyps → (sense names c.goal).truth ≡ false → IsTrueNode names (first_node c)
