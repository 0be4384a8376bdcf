-- Typed clauses fit the stores at which they are asked.
use Rattle.std.specs.Prelude.{◌≡◌, ℕ, List, [], ◌∷◌, length, Bool, true, false}
use Rattle.wy_value.specs.Datum.{Datum}
use Rattle.wy_core.specs.Types.{Ty}
use Rattle.wy_core.specs.CoreTree.{Expr}
use Rattle.wy_flow_spec.specs.environment.Variables.{Environment}
use Rattle.wy_flow_spec.specs.typing.Outcomes.{Gives}
use Rattle.wy_flow_spec.specs.typing.Contexts.{Program}
use Rattle.wy_flow_spec.specs.typing.Loops.{ClausesTyped}
use Rattle.wy_sound_walks.specs.wy_sem.Expressions as sem
use Rattle.wy_sound_walks.specs.wy_vc_spec.Numbered.{Node, numbered_list}
use Rattle.wy_sound_walks.specs.wy_vc_spec.Values.{Setting}
use Rattle.wy_sound_walks.specs.expressions.Types.{is_in}
use Rattle.wy_sound_walks.specs.clauses.Clauses.{AllFit}
use Rattle.wy_sound_kinds.specs.Ready.{Rules, Ready}
use Rattle.wy_sound_kinds.specs.Kinds.{HasValues, HasTypes, Rests}
use Rattle.wy_sound_kinds.specs.suits.Laws.{Begins, Asks, TellsNumbers}

-- each of the clauses, which call nothing
abbrev pub ClausesReady : Rules → ℕ → (ℕ → Bool) → List (Expr ℕ) → Type 0
ClausesReady r n seen [] = Unit {0}
ClausesReady r n seen (e ∷ es) = Ready r true n seen e × ClausesReady r n seen es

abbrev pub TypedClausesFit : Type 0
TypedClausesFit =
    (p : Program) (r : Rules) (w : sem.Setting Node) (conditions : Setting Node) (members : ℕ → Datum → Bool) → Rests p r (sem.quiet w) false (is_in members) → Asks r (sem.quiet w) false (is_in members)
    → (whole : List Ty) → TellsNumbers conditions.is_number whole → (env : Environment) → env.reached ≡ true
    → (es : List (Expr ℕ)) (flow out : List Ty) (seen : ℕ → Bool) (s : sem.Store) → ClausesTyped p env es flow (Gives out) → Begins out whole → ClausesReady r (length s) seen es → HasValues seen s → HasTypes p.names env [] seen s
    → AllFit w conditions members seen (numbered_list es (length flow)) s
