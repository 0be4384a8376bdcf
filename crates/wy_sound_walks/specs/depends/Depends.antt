-- The term of a walk depends on names below its count alone.
use Rattle.std.specs.Prelude.{◌≡◌, ℕ, List, [], ◌∷◌, Option, Some, None}
use Rattle.wy_core.specs.CoreTree.{Expr}
use Rattle.wy_term.specs.Term.{Term}
use Rattle.wy_term.specs.Meaning.{Names, sense}
use Rattle.wy_sound_terms.specs.wy_vc_spec.Numbered.{Node}
use Rattle.wy_sound_terms.specs.wy_vc_spec.Variables.{Vars}
use Rattle.wy_sound_terms.specs.wy_vc_spec.Walks.{Program, walk_expr}
use Rattle.wy_sound_walks.specs.expressions.Names.{Agree}
use Rattle.wy_sound_walks.specs.expressions.Laws.{AreValTerms}
use Rattle.wy_sound_walks.specs.joins.Points.{Depends}

abbrev pub DependsIf : ℕ → Option Term → Type 0
DependsIf n None = Unit {0}
DependsIf n (Some t) = Depends n t

-- so do the terms of variables
abbrev pub AllDepend : ℕ → Vars → Type 0
AllDepend n [] = Unit {0}
AllDepend n (v ∷ vs) = DependsIf n v × AllDepend n vs

abbrev pub TermsDependOnNamesBelow : Type 0
TermsDependOnNamesBelow = (p : Program Node) (words : List (List ℕ)) (e : Expr Node) (vars : Vars) (hyps : List Term) (n : ℕ) → AreValTerms vars → AllDepend n vars → Depends (walk_expr p words e vars hyps n).count (walk_expr p words e vars hyps n).term
