-- Functions and methods, each in a frame of its own.
use Rattle.std.specs.Prelude.{◌≡◌, ◌<◌, ℕ, suc, List, [], ◌∷◌, length, false, None, is_some}
use Rattle.wy_value.specs.Datum.{Datum}
use Rattle.wy_core.specs.Types.{Ty}
use Rattle.wy_core.specs.CoreTree as tree
use Rattle.wy_core.specs.CoreTree.{Param, Core, aliases_of, routines_of}
use Rattle.wy_core.specs.formed.Offers.{Offers}
use Rattle.wy_core.specs.formed.Bound.{with_params, BoundParams, BoundStmts}
use Rattle.wy_core.specs.formed.Wholes.{EachClause}
use Rattle.wy_code_spec.specs.tables.Tables.{context_of}
use Rattle.wy_code_spec.specs.compiled.Programs.{body_routine, code_of}
use Rattle.wy_vc_spec.specs.wy_sem.Expressions.{Setting}
use Rattle.wy_vc_spec.specs.wy_sem.TypeTests.{Test, tests}
use Rattle.wy_vc_spec.specs.wy_sem.Evaluation.{frame_of, owed_member, run}
use Rattle.wy_gen_laws.specs.statements.Still.{IsStill, IsStillTy}
use Rattle.wy_gen_laws.specs.statements.Parts.{EachPartIn, cost_all}
use Rattle.wy_gen_laws.specs.statements.Led.{CallsLead, FrameStays, asked}

-- the parameters have the numbers from this one on, in order, as the code takes them to have
abbrev pub InOrder : ℕ → List Param → Type 0
InOrder k [] = Unit {0}
InOrder k (p ∷ ps) = (p.variable ≡ k) × InOrder (suc k) ps

-- what the value of each parameter is asked
abbrev pub StillParams : (Ty → Datum → Test) → List Param → Type 0
StillParams owed [] = Unit {0}
StillParams owed (p ∷ ps) = IsStillTy owed p.ty × StillParams owed ps

-- ---- evaluations in which calls nest no deeper than a number

-- what the bodies of calls that nest at most so deep rest on
abbrev pub setting_of : (ℕ → ℕ) → Core ℕ → ℕ → Setting ℕ
setting_of place core j = record { place = place; limit = None; test = tests place None (aliases_of core) (suc (length (aliases_of core))); call = run place None core j }

abbrev pub owed_of : (ℕ → ℕ) → Core ℕ → Ty → Datum → Test
owed_of place core = owed_member place None (aliases_of core)

-- calls that nest at most so deep follow, with so many ticks at most
abbrev pub CallsNest : (ℕ → ℕ) → Core ℕ → (wide j most : ℕ) → Type 0
CallsNest place core wide j most = CallsLead (context_of core) (code_of core).routines (setting_of place core j) wide most

-- what is asked of the function or method with this number: the names of its body lead where they should, its parameters have the first numbers, its contract spends nothing, the parts of its body follow where calls from there do, and its body has fewer nodes than a step stands for ticks
pub record RoutineFits (place : ℕ → ℕ) (core : Core ℕ) (o : Offers) (wide g : ℕ) (r : tree.Routine ℕ) : Type 0 where
  pub params : BoundParams o (length r.variables) [] r.params
  pub body : BoundStmts o (length r.variables) (record { in_loop = false; has_result = is_some r.result }) (with_params [] r.params) r.body
  pub order : InOrder 0 r.params
  pub asked_params : StillParams (owed_of place core) r.params
  pub asked_before : (j : ℕ) → EachClause (IsStill (setting_of place core j)) r.preconditions
  pub asked_frame : (j : ℕ) (vs : List Datum) → FrameStays (setting_of place core j) (frame_of (owed_of place core) r vs)
  pub parts : (j most : ℕ) (vs : List Datum) → CallsNest place core wide j most
      → EachPartIn (asked (context_of core) (code_of core).routines g (body_routine (context_of core) r) (setting_of place core j) (frame_of (owed_of place core) r vs) (length r.variables) wide most) r.body
  pub nodes : cost_all r.body < wide

-- so of each, by its number
abbrev pub RoutinesFit : (ℕ → ℕ) → Core ℕ → Offers → (wide g : ℕ) → List (tree.Routine ℕ) → Type 0
RoutinesFit place core o wide g [] = Unit {0}
RoutinesFit place core o wide g (r ∷ rs) = RoutineFits place core o wide g r × RoutinesFit place core o wide (suc g) rs

-- where each function and method fits, calls follow that nest deeper than there are ticks
abbrev pub RoutinesAreFollowed : Type 0
RoutinesAreFollowed = (place : ℕ → ℕ) (core : Core ℕ) (o : Offers) (wide : ℕ) → RoutinesFit place core o wide 0 (routines_of core) → (j most : ℕ) → most < j → CallsNest place core wide j most
