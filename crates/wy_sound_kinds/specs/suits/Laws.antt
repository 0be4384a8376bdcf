-- What evaluations of typed expressions meet.
use Rattle.std.specs.Prelude.{◌≡◌, ℕ, List, ◌++◌, length, Bool, true}
use Rattle.wy_value.specs.Datum.{Datum}
use Rattle.wy_core.specs.Types.{Ty}
use Rattle.wy_core.specs.CoreTree.{Expr}
use Rattle.wy_flow_spec.specs.environment.Variables.{Environment, Changes}
use Rattle.wy_flow_spec.specs.typing.Outcomes.{Gives}
use Rattle.wy_flow_spec.specs.typing.Contexts.{Program, Found}
use Rattle.wy_flow_spec.specs.typing.Expressions.{TypedExpr}
use Rattle.wy_sound_walks.specs.wy_sem.Meter.{Meter}
use Rattle.wy_sound_walks.specs.wy_sem.Expressions as sem
use Rattle.wy_sound_walks.specs.wy_vc_spec.Numbered.{Node, numbered}
use Rattle.wy_sound_walks.specs.wy_vc_spec.Values.{Setting}
use Rattle.wy_sound_walks.specs.wy_vc_spec.Programs.{is_number_at}
use Rattle.wy_sound_walks.specs.expressions.Types.{is_in}
use Rattle.wy_sound_walks.specs.expressions.Written.{IsWritten}
use Rattle.wy_sound_walks.specs.expressions.Suits.{Kinds, Answers, Suits}
use Rattle.wy_sound_walks.specs.expressions.Laws.{kinds_of}
use Rattle.wy_sound_kinds.specs.Bounded.{IsBounded}
use Rattle.wy_sound_kinds.specs.Ready.{Rules, Ready}
use Rattle.wy_sound_kinds.specs.Kinds.{HasValues, HasTypes, AreFor, Rests}

-- the types of a program's expressions begin with these
abbrev pub Begins : List Ty → List Ty → Type 0
Begins xs ys = (more : List Ty) × (ys ≡ xs ++ more)

-- types that tests ask about are such as a source may write, and no test is a fault
pub record Asks (r : Rules) (w : sem.Setting Node) (paid : Bool) (says : Ty → Datum → Bool) : Type 0 where
  pub written : (t : Ty) → r.tested t ≡ true → IsWritten t
  pub answers : (t : Ty) (d : Datum) (m : Meter) → r.tested t ≡ true → IsBounded d → Answers (says t d) (w.test paid t d m)

-- the nodes that are taken for numbers are those whose expressions have types of numbers alone, by the types of all expressions
abbrev pub TellsNumbers : (Node → Bool) → List Ty → Type 0
TellsNumbers is_number whole = (k : Node) → is_number k ≡ is_number_at whole k

-- what evaluations rest on, where calls take arguments of the types of their parameters
abbrev pub code_kinds : Program → Rules → sem.Setting Node → Bool → (Node → Bool) → (Ty → Datum → Bool) → Kinds Node
code_kinds p r w paid is_number says = record { setting = w; paid = paid; is_number = is_number; says = says; takes = AreFor p r }

abbrev pub CodeSuits : Type 0
CodeSuits =
    (p : Program) (r : Rules) (w : sem.Setting Node) (paid : Bool) (says : Ty → Datum → Bool) → Rests p r w paid says → Asks r w paid says
    → (is_number : Node → Bool) (whole : List Ty) → TellsNumbers is_number whole → (env : Environment) → env.reached ≡ true
    → (e : Expr ℕ) (over : Changes) (flow : List Ty) (v : Found) (q : Bool) (seen : ℕ → Bool) (s : sem.Store)
    → TypedExpr p env e over flow (Gives v) → Begins v.flow whole → Ready r q (length s) seen e → HasValues seen s → HasTypes p.names env over seen s
    → Suits (code_kinds p r w paid is_number says) q seen (numbered e (length flow)) s

-- contracts call nothing, and types say what their names stand for
abbrev pub ContractsSuit : Type 0
ContractsSuit =
    (p : Program) (r : Rules) (w : sem.Setting Node) (paid : Bool) (conditions : Setting Node) (members : ℕ → Datum → Bool) → Rests p r w paid (is_in members) → Asks r w paid (is_in members)
    → (whole : List Ty) → TellsNumbers conditions.is_number whole → (env : Environment) → env.reached ≡ true
    → (e : Expr ℕ) (over : Changes) (flow : List Ty) (v : Found) (seen : ℕ → Bool) (s : sem.Store)
    → TypedExpr p env e over flow (Gives v) → Begins v.flow whole → Ready r true (length s) seen e → HasValues seen s → HasTypes p.names env over seen s
    → Suits (kinds_of w paid conditions members) true seen (numbered e (length flow)) s
