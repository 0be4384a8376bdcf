-- Which text the list of a source's conditions has, and for what there is none.
use Rattle.std.specs.Prelude.{◌≡◌, ℕ, suc, List, [], ◌∷◌, ◌++◌, map}
use Rattle.wy_vc.specs.wy_vc_spec.Limits.{Passing, Within, TooMany, TooLarge, passing}
use Rattle.wy_vc.specs.wy_vc_spec.Numbered.{numbered_core}
use Rattle.wy_vc.specs.wy_vc_spec.Programs.{conditions_of, setting_of}
use Rattle.wy_core.specs.CoreTree.{Core}
use Rattle.wy_core.specs.Types.{Ty}
use Rattle.wy_top_probe.specs.wy_link_load.wy_parse_front.Places.{place_of}
use Rattle.wy_top_probe.specs.wy_top_answers.report.Listing.{listed}
use Rattle.wy_top_probe.specs.wy_top_source.texts.Sources as sources
use Rattle.wy_term.specs.Condition.{word_of}
use Rattle.wy_vc.specs.declared.fault.VcFault.{VcFault}
use Rattle.wy_vc.specs.declared.fault.VcFault.TheVariants.{TooManyConds, TooManyTerms, NoMemory}
use Rattle.wy_vc.specs.Told.{Told, told}
use Rattle.wy_top.specs.declared.fault.OwedFault.{OwedFault}
use Rattle.wy_top.specs.declared.fault.OwedFault.TheVariants.{Source, Limit}

-- ---- texts

-- the condition with this number, which a construct of these bytes owes
abbrev pub condition_text : List ℕ → ℕ → Told → List ℕ
condition_text bytes number t = listed number (word_of t.kind) (place_of bytes t.at).0 (place_of bytes t.at).1 t.condition.hyps t.condition.goal

-- the conditions from this number on
abbrev pub conditions_text : List ℕ → ℕ → List Told → List ℕ
conditions_text bytes number [] = []
conditions_text bytes number (t ∷ ts) = condition_text bytes number t ++ conditions_text bytes (suc number) ts

-- ---- programs

-- what a program with these flow types owes
abbrev pub told_by : Core ℕ → List Ty → List Told
told_by core flow = map (told (setting_of (numbered_core core) flow)) (conditions_of core flow)

-- the first limit that this passes
abbrev pub limit_by : Core ℕ → List Ty → Passing
limit_by core flow = passing (setting_of (numbered_core core) flow) (conditions_of core flow)

-- ---- sources

-- the bytes have this typed and assigned program, and what it owes passes no limit
pub record Owes (bytes : List ℕ) (core : Core ℕ) (flow : List Ty) : Type 0 where
  pub program : sources.IsProgram bytes core flow
  pub within : limit_by core flow ≡ Within

-- the bytes have a typed and assigned program that owes no more than it may, and this is the list of what it owes
pub record IsOwed (bytes text : List ℕ) : Type 0 where
  pub core : Core ℕ
  pub flow : List Ty
  pub owes : Owes bytes core flow
  pub listed : conditions_text bytes 1 (told_by core flow) ≡ text

-- the fault tells of this limit
abbrev pub Tells : VcFault → Passing → Type 0
Tells TooManyConds p = p ≡ TooMany
Tells (TooManyTerms k) p = p ≡ TooLarge k
Tells NoMemory p = ⊥

-- the bytes have a typed and assigned program, and the fault tells of the first limit that its conditions pass
pub record IsOver (bytes : List ℕ) (fault : VcFault) : Type 0 where
  pub core : Core ℕ
  pub flow : List Ty
  pub program : sources.IsProgram bytes core flow
  pub over : Tells fault (limit_by core flow)

-- there is no list for this reason
abbrev pub IsRefused : List ℕ → OwedFault → Type 0
IsRefused bytes (Source f) = sources.IsRefused bytes f
IsRefused bytes (Limit f) = IsOver bytes f

-- the fault is the one to be given
abbrev pub IsDue : List ℕ → OwedFault → Type 0
IsDue bytes (Source f) = sources.IsDue bytes f
IsDue bytes (Limit f) = IsOver bytes f
