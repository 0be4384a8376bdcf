-- How many conditions numbers spell.
use Rattle.std.proofs.Common.{◌≡◌, ◌∙◌, suc, List, [], ◌∷◌, length, map, refl, ap}
use Rattle.wy_term.specs.Condition.{Condition, condition_of}
use Rattle.wy_term.specs.Nodes.{Plain}
use Rattle.wy_term.specs.declared.cond.Cond.{Cond}

as_many : (nodes : List Plain) (cs : List Cond) → length cs ≡ length (map (condition_of nodes) cs)
as_many nodes [] = refl
as_many nodes (c ∷ cs) = ap suc (as_many nodes cs)

pub same_count : (nodes : List Plain) (cs : List Cond) (all : List Condition) → map (condition_of nodes) cs ≡ all → length cs ≡ length all
same_count nodes cs all e = as_many nodes cs ∙ ap (λ (xs : List Condition). length xs) e
