-- The conditions of a well-typed program, and its limits.
use Rattle.std.specs.Prelude.{◌≡◌, ◌⊎◌, List, [], ◌++◌, length, map, true, nat_lt}
use Rattle.wy_vc_spec.specs.Limits as limits
use Rattle.wy_vc_spec.specs.Numbered.{Node, numbered_core}
use Rattle.wy_vc_spec.specs.Owed.{Owed}
use Rattle.wy_vc_spec.specs.Programs.{conditions_of, setting_of}
use Rattle.wy_vc_spec.specs.Values.{Setting}
use Rattle.wy_term.specs.Condition.{condition_of}
use Rattle.wy_term.specs.Unfolding.{AreListedOnce}
use Rattle.wy_term.specs.Nodes.{Plain}
use Rattle.wy_term.specs.declared.cond.Cond.{Cond}
use Rattle.wy_term.specs.declared.cond.Conds.{Conds}
use Rattle.wy_flow_spec.specs.typing.TypedPrograms.{Triple, core_of, flow_of}
use Rattle.wy_vc.specs.Told.{Told, seen_cond, told}
use Rattle.wy_vc.specs.declared.fault.VcFault.{VcFault}
use Rattle.wy_vc.specs.declared.fault.VcFault.TheVariants as fault

-- what walks over the program's expressions go by
abbrev pub setting_in : Triple → Setting Node
setting_in t = setting_of (numbered_core (core_of t)) (flow_of t)

-- what the program owes, by the definition
abbrev pub owed_by : Triple → List Owed
owed_by t = conditions_of (core_of t) (flow_of t)

-- the same, each with the types that it mentions and their formulas
abbrev pub told_of : Triple → List Told
told_of t = map (told (setting_in t)) (owed_by t)

-- the first limit that they pass
abbrev pub limit_of : Triple → limits.Passing
limit_of t = limits.passing (setting_in t) (owed_by t)

-- what the numbers of conditions spell
abbrev pub seen_conds : Conds → List Told
seen_conds cs = map (seen_cond cs.terms) cs.list.items

-- the fault is the first limit that is passed; of memory nothing is said
abbrev pub IsDue : VcFault → limits.Passing → Type 0
IsDue fault.TooManyConds p = p ≡ limits.TooMany
IsDue (fault.TooManyTerms k) p = p ≡ limits.TooLarge k
IsDue fault.NoMemory p = Unit {0}

-- each named type that a condition mentions is listed once
abbrev pub HasTypesOnce : List Plain → Cond → Type 0
HasTypesOnce nodes c = AreListedOnce (condition_of nodes c).types

-- the first of all that is owed: all of it, or more than there may be
pub record AreFirst (os all : List Owed) : Type 0 where
  pub rest : List Owed
  pub is : os ++ rest ≡ all
  pub whole : (rest ≡ []) ⊎ (nat_lt limits.most_conditions (length os) ≡ true)
