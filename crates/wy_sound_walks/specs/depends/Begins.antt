-- The hypotheses behind walks begin with those before them.
use Rattle.std.specs.Prelude.{◌≡◌, ℕ, List, [], ◌∷◌, ◌++◌, Option, Some, None}
use Rattle.wy_core.specs.CoreTree.{Expr, Stmts}
use Rattle.wy_term.specs.Term.{Term}
use Rattle.wy_sound_terms.specs.wy_vc_spec.Numbered.{Node}
use Rattle.wy_sound_terms.specs.wy_vc_spec.Variables.{Vars}
use Rattle.wy_sound_terms.specs.wy_vc_spec.Walks.{Program, walk_expr}
use Rattle.wy_sound_terms.specs.wy_vc_spec.Spots.{Spot, Flow}
use Rattle.wy_sound_terms.specs.wy_vc_spec.Statements.{Body, exec_all}

abbrev pub Begins : List Term → List Term → Type 0
Begins first all = (more : List Term) × (all ≡ first ++ more)

abbrev pub HypothesesGrow : Type 0
HypothesesGrow = (p : Program Node) (words : List (List ℕ)) (e : Expr Node) (vars : Vars) (hyps : List Term) (n : ℕ) → Begins hyps (walk_expr p words e vars hyps n).hyps

-- ---- statements

abbrev pub EndBegins : List Term → Option Spot → Type 0
EndBegins base None = Unit {0}
EndBegins base (Some p) = Begins base p.hyps

abbrev pub AllBegin : List Term → List Spot → Type 0
AllBegin base [] = Unit {0}
AllBegin base (p ∷ ps) = Begins base p.hyps × AllBegin base ps

-- so do those of each point where the flow goes on
abbrev pub FlowBegins : List Term → Flow → Type 0
FlowBegins base f = EndBegins base f.ends × AllBegin base f.breaks

abbrev pub HypothesesGrowInBlocks : Type 0
HypothesesGrowInBlocks = (b : Body Node) (around : List (Expr Node)) (block : Stmts Node) (p : Spot) (n : ℕ) → FlowBegins p.hyps (exec_all b around block p n)
