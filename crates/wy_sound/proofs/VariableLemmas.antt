-- Parameters have the types that the conditions have for them.
use Rattle.std.proofs.Common.{◌≡◌, ℕ, suc, List, [], ◌∷◌, length, Bool, arith}
use Rattle.wy_value.specs.Datum.{Datum}
use Rattle.wy_core.specs.CoreTree.{Param}
use Rattle.wy_sound_programs.specs.wy_types.Names.{Declared}
use Rattle.wy_flow_spec.specs.typing.Programs.{types_of}
use Rattle.wy_sound_programs.specs.wy_sound_statements.calls.CallLaws.{ArgumentsIn}
use Rattle.wy_sound_programs.specs.wy_sound_kinds.Bounded.{AllBounded}
use Rattle.wy_sound_programs.specs.wy_sound_kinds.Kinds.{AreIn}
use Rattle.wy_sound_programs.specs.Begun.{ParamsTyped}
use Rattle.wy_sound_programs.specs.Entries.{Arrive}
use Rattle.wy_sound_programs.specs.Once.{ParamsScoped}
use Rattle.wy_sound_programs.specs.Scopes.{Scope}

pub params_typed : (c : Scope) (ps : List Param) → ParamsScoped c ps → ParamsTyped c.types ps
params_typed c [] h = tt
params_typed c (p ∷ ps) h = (h.1, params_typed c ps h.2)

-- arguments arrive that a program may hold, as many as there are parameters, in their types by both readings
pub all_arrive : (names : List Declared) (members : ℕ → Datum → Bool) (ps : List Param) (vs : List Datum) → length vs ≡ length ps → AllBounded vs → AreIn names (types_of ps) vs → ArgumentsIn members ps vs → Arrive names members ps vs
all_arrive names members [] [] len bounded up inside = tt
all_arrive names members [] (v ∷ vs) len bounded up inside = absurd cc
all_arrive names members (p ∷ ps) [] len bounded up inside = absurd cc
all_arrive names members (p ∷ ps) (v ∷ vs) len bounded up inside = ((bounded.0, up.0, inside.0), all_arrive names members ps vs (one_less (length vs) (length ps) len) bounded.1 up.1 inside.1) where
  one_less : (a b : ℕ) → suc a ≡ suc b → a ≡ b
  one_less a b q = omega (arith, q)
