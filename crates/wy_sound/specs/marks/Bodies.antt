-- Bodies of assigned programs: along the walk of their conditions each variable that is used is marked, and the walk of a body with a result doesn't get to its end.
use Rattle.std.specs.Prelude.{◌≡◌, ℕ, [], Some, slice_get}
use Rattle.wy_core.specs.CoreTree.{Routine, Core, routines_of}
use Rattle.wy_assign.specs.Assigned.{IsAssigned}
use Rattle.wy_sound_programs.specs.wy_vc_spec.Numbered.{Node, numbered_routine}
use Rattle.wy_sound_programs.specs.wy_vc_spec.Variables.{Vars}
use Rattle.wy_sound_programs.specs.wy_vc_spec.Walks.{Program}
use Rattle.wy_sound_programs.specs.wy_vc_spec.Statements.{exec_all}
use Rattle.wy_sound_programs.specs.wy_vc_spec.Programs.{body_of}
use Rattle.wy_sound_programs.specs.Along.{Allowed, AllReadyAlong}
use Rattle.wy_sound_programs.specs.Made.{AllMade}
use Rattle.wy_sound_programs.specs.Begun.{begun}
use Rattle.wy_sound_programs.specs.Bodies.{EndsBefore}

-- the body of a function or method whose expressions are well made but for variables: from the point where it begins, they are so with their variables too. The first number is that of the first expression of the contract, the second that of the body's
abbrev pub BodiesAreReady : Type 0
BodiesAreReady =
    (core : Core ℕ) → IsAssigned core → (f : ℕ) (r : Routine ℕ) → slice_get (routines_of core) f ≡ Some r → (a : Allowed) → AllMade a r.body
    → (p : Program Node) (vars : Vars) (j k : ℕ) → let n = numbered_routine r j in AllReadyAlong a (body_of p n vars) [] r.body k (begun p n).spot (begun p n).count

-- the walk of a body with a result, from the point where it begins, doesn't get to its end
abbrev pub BodiesEnd : Type 0
BodiesEnd =
    (core : Core ℕ) → IsAssigned core → (f : ℕ) (r : Routine ℕ) → slice_get (routines_of core) f ≡ Some r
    → (p : Program Node) (vars : Vars) (j : ℕ) → let n = numbered_routine r j in EndsBefore n.result (exec_all (body_of p n vars) [] n.body (begun p n).spot (begun p n).count).ends
