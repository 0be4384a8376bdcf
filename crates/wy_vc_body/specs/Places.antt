-- Parts along a path, one step after the other, by numbers of terms.
use Rattle.std.specs.Prelude.{◌≡◌, ◌<◌, ℕ, List, [], ◌++◌, All, map, length}
use Rattle.wy_core.specs.CoreTree.{Step, IndexStep, FieldStep}
use Rattle.wy_term.specs.Term.{Term}
use Rattle.wy_term.specs.Nodes.{Plain, tree_at}
use Rattle.wy_term.specs.Numbers.{IsAt}
use Rattle.wy_term.specs.declared.cond.CondKind.TheVariants as kind
use Rattle.wy_vc_exprs.specs.wy_vc_spec.Making.{field}
use Rattle.wy_vc_exprs.specs.wy_vc_spec.Numbered.{Node, numbered}
use Rattle.wy_vc_exprs.specs.wy_vc_spec.Operations as op
use Rattle.wy_vc_exprs.specs.wy_vc_spec.Owed.{assume_all, owe}
use Rattle.wy_vc_exprs.specs.wy_vc_spec.Clauses.{Passed, passed}
use Rattle.wy_vc_exprs.specs.wy_vc_spec.Statements as spec
use Rattle.wy_vc_exprs.specs.wy_vc_spec.Variables.{Vars}
use Rattle.wy_vc_exprs.specs.wy_vc_spec.Walks.{index_goals}
use Rattle.wy_vc_exprs.specs.State.{Steps}
use Rattle.wy_vc_exprs.specs.declared.walk.Walk.{Walk}
use Rattle.wy_vc_body.specs.declared.places.Part.{Part}
use Rattle.wy_vc_body.specs.declared.places.Part.TheVariants as part

-- what numbers spell
abbrev pub seen_part : List Plain → Part → spec.Part
seen_part nodes (part.Element whole index) = spec.ElementOf (tree_at nodes whole) (tree_at nodes index)
seen_part nodes (part.Field name whole) = spec.FieldOf name (tree_at nodes whole)

abbrev pub seen_parts : List Plain → List Part → List spec.Part
seen_parts nodes ps = map (seen_part nodes) ps

abbrev pub IsPart : List Plain → Part → Type 0
IsPart nodes (part.Element whole index) = (whole < length nodes) × (index < length nodes)
IsPart nodes (part.Field name whole) = whole < length nodes

abbrev pub AreParts : List Plain → List Part → Type 0
AreParts nodes ps = All (IsPart nodes) ps

-- a step, the first of whose expressions has this number
abbrev pub numbered_step : Step ℕ → ℕ → Step Node
numbered_step (IndexStep at e) k = IndexStep at (numbered e k)
numbered_step (FieldStep at name) k = FieldStep at name

-- one step: the part that it leads out of, what it leads to, and what it owes
pub record Stepped : Type 0 where
  pub passed : Passed
  pub part : spec.Part
  pub whole : Term

abbrev pub stepped : {N : Type 0} → spec.Body N → Step N → Term → Vars → List Term → ℕ → Stepped
stepped b (IndexStep at e) whole vars hyps n =
    let i = spec.expr b e vars hyps n in
    record {
      passed = passed i.count (assume_all i.hyps (index_goals whole i.term)) (i.owed ++ owe kind.Index at i.hyps (index_goals whole i.term));
      part = spec.ElementOf whole i.term;
      whole = op.element whole i.term;
    }
stepped b (FieldStep at name) whole vars hyps n = record { passed = passed n hyps []; part = spec.FieldOf name whole; whole = field name whole }

-- the step was made
pub record Stepping (old new : Walk) (p : Part) (inner : ℕ) (s : Stepped) : Type 0 where
  pub steps : Steps old new s.passed
  pub is_part : IsPart new.maker.terms p
  pub part : seen_part new.maker.terms p ≡ s.part
  pub whole : IsAt new.maker.terms inner s.whole

-- the parts along a path were found
pub record Along (old new : Walk) (ps : List Part) (a : spec.Along) : Type 0 where
  pub steps : Steps old new (passed a.count a.hyps a.owed)
  pub are : AreParts new.maker.terms ps
  pub parts : seen_parts new.maker.terms ps ≡ a.parts
