-- The laws of kinds.
use Rattle.std.specs.Prelude.{◌≡◌, ℕ, List, length, Bool, true}
use Rattle.wy_value.specs.Datum.{Datum}
use Rattle.wy_value.specs.Values.{IsValue}
use Rattle.wy_core.specs.Types.{Ty}
use Rattle.wy_core.specs.CoreTree.{Expr}
use Rattle.wy_flow_spec.specs.environment.Variables.{Environment, Changes}
use Rattle.wy_flow_spec.specs.typing.Outcomes.{Gives}
use Rattle.wy_flow_spec.specs.typing.Contexts.{Program, Found}
use Rattle.wy_flow_spec.specs.typing.Expressions.{TypedExpr}
use Rattle.wy_sound_walks.specs.wy_sem.Meter.{Meter, Done}
use Rattle.wy_sound_walks.specs.wy_sem.Expressions.{Store, Setting, eval}
use Rattle.wy_sound_walks.specs.wy_vc_spec.Numbered.{Node, numbered}
use Rattle.wy_sound_kinds.specs.Bounded.{IsBounded}
use Rattle.wy_sound_kinds.specs.Ready.{Rules, Ready}
use Rattle.wy_sound_kinds.specs.Kinds.{HasValues, HasTypes, Kind, Rests}

-- a value is a datum that a program may hold
abbrev pub ValuesAreBounded : Type 0
ValuesAreBounded = (d : Datum) → IsValue d → IsBounded d

-- each answer of a typed expression, at a point that is reached, is of its kind
abbrev pub AnswersHaveKinds : Type 0
AnswersHaveKinds =
    (p : Program) (r : Rules) (w : Setting Node) (paid : Bool) (says : Ty → Datum → Bool) → Rests p r w paid says → (env : Environment) → env.reached ≡ true
    → (e : Expr ℕ) (number : ℕ) (over : Changes) (flow : List Ty) (v : Found) (q : Bool) (seen : ℕ → Bool) (s : Store)
    → TypedExpr p env e over flow (Gives v) → Ready r q (length s) seen e → HasValues seen s → HasTypes p.names env over seen s
    → (d : Datum) (m k : Meter) → eval w paid (numbered e number) s m ≡ Done d k → Kind p.names env over seen s v d
