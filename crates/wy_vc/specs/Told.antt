-- Conditions with what their tests of named types stand for.
use Rattle.std.specs.Prelude.{ℕ, suc, ◌<◌, List, [], ◌∷◌, ◌++◌, All, length, Bool, true, false}
use Rattle.wy_term.specs.Nodes.{Plain}
use Rattle.wy_term.specs.Condition.{Condition, condition_of}
use Rattle.wy_term.specs.declared.cond.Cond.{Cond}
use Rattle.wy_term.specs.declared.cond.CondKind.{CondKind}
use Rattle.wy_vc_spec.specs.Limits.{unfold_of}
use Rattle.wy_vc_spec.specs.Owed.{Owed}
use Rattle.wy_vc_spec.specs.Values.{Setting}
use Rattle.wy_vc_body.specs.wy_vc_operations.Growing.{AreBelow}
use Rattle.wy_vc.specs.Mentioned.{marked}
use Rattle.wy_vc.specs.declared.unfolding.Meaning.{Meaning}

-- a condition of a kind at a place
pub record Told : Type 0 where
  pub kind : CondKind
  pub at : ℕ
  pub condition : Condition

-- what is owed, with the types that it mentions and their formulas
abbrev pub told : {N : Type 0} → Setting N → Owed → Told
told s c = record { kind = c.kind; at = c.at; condition = record { hyps = c.hyps; goal = c.goal; types = unfold_of s c } }

-- what numbers spell
abbrev pub seen_cond : List Plain → Cond → Told
seen_cond nodes c = record { kind = c.kind; at = c.at; condition = condition_of nodes c }

-- the numbers of an entry are those of terms of the list
pub record IsEntry (nodes : List Plain) (e : ℕ × ℕ × ℕ) : Type 0 where
  pub name : e.1 < length nodes
  pub formula : e.2 < length nodes

-- so are those of a condition
pub record IsCond (nodes : List Plain) (c : Cond) : Type 0 where
  pub hyps : AreBelow (length nodes) c.hyps.items
  pub goal : c.goal < length nodes
  pub entries : All (IsEntry nodes) c.unfold.list.items

-- a type with what its test stands for, where it is marked
abbrev pub entry_if : Bool → ℕ → Meaning → List (ℕ × ℕ × ℕ)
entry_if true n m = (n, m.name, m.formula) ∷ []
entry_if false n m = []

-- of the types from this number on those that are marked
abbrev pub entries_by : List Bool → ℕ → List Meaning → List (ℕ × ℕ × ℕ)
entries_by marks n [] = []
entries_by marks n (m ∷ ms) = entry_if (marked marks n) n m ++ entries_by marks (suc n) ms
