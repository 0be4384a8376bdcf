-- The store at the entry of a typed body is as typing has it.
use Rattle.std.proofs.Common.{◌≡◌, ℕ, zero, suc, List, [], ◌∷◌, length, Bool, true, Option, Some, None, refl, sym, ap, ◌∙◌, subst}
use Rattle.wy_lemmas.proofs.Choices.{false_true as no_truth}
use Rattle.wy_sem.proofs.SharedLemmas.{unset_length}
use Rattle.wy_value.specs.Datum.{Datum}
use Rattle.wy_core.specs.Types.{Ty}
use Rattle.wy_core.specs.CoreTree.{Param}
use Rattle.wy_types.specs.Names.{Declared}
use Rattle.wy_types.specs.Recursion.{RecurThroughParts}
use Rattle.wy_sound_statements.specs.wy_flow_spec.environment.Slots.{put_slot}
use Rattle.wy_sound_statements.specs.wy_flow_spec.environment.Variables.{Environment, nothing_known, given}
use Rattle.wy_sound_statements.specs.wy_flow_spec.typing.Outcomes.{Gives}
use Rattle.wy_sound_statements.specs.wy_flow_spec.typing.Contexts.{Program}
use Rattle.wy_sound_statements.specs.wy_flow_spec.typing.States.{State}
use Rattle.wy_sound_statements.specs.wy_flow_spec.typing.Programs.{WithVariable, WithParams, declared_params}
use Rattle.wy_sem.specs.Expressions.{Store, slot, put}
use Rattle.wy_sem.specs.TypeTests.{unset}
use Rattle.wy_sem.specs.Evaluation.{types_of, bound, entry_of}
use Rattle.wy_vc_spec.specs.Numbered.{Node}
use Rattle.wy_vc_spec.specs.Spots.{Spot, spot, is_set, mark}
use Rattle.wy_vc_spec.specs.Statements.{Body}
use Rattle.wy_sound_statements.specs.wy_sound_walks.expressions.Types.{is_in}
use Rattle.wy_sound_statements.proofs.wy_types_laws_proofs.parts_lemmas.NormLemmas.{norms_same}
use Rattle.wy_sound_statements.proofs.wy_sound_kinds_proofs.TypeLemmas.{then_gives, given_is}
use Rattle.wy_sound_programs.specs.Scopes.{Scope}
use Rattle.wy_sound_programs.specs.Once.{routine_scope, ParamsScoped}
use Rattle.wy_sound_programs.specs.Typed.{Stands, Holds, nothing_kept}
use Rattle.wy_sound_programs.specs.Entries.{marked_params, Arrive, BodiesBegin}
use Rattle.wy_sound_programs.proofs.SlotLemmas.{slot_put, slot_other}
use Rattle.wy_sound_programs.proofs.PartLemmas.{Normal}
use Rattle.wy_sound_programs.proofs.StaticLemmas.{put_stands}
use Rattle.wy_sound_programs.proofs.StoreLemmas.{put_holds}

unset_slot : (names : List (List ℕ)) (x : ℕ) (d : Datum) → slot (unset names) x ≡ Some d → ⊥
unset_slot [] x d e = absurd cc
unset_slot (n ∷ ns) zero d e = absurd cc
unset_slot (n ∷ ns) (suc x) d e = unset_slot ns x d e

variable_parts : (names : List Declared) (at x : ℕ) (t : Ty) (env out : Environment) → WithVariable names at t x env (Gives out) → Normal names x t env out
variable_parts names at x t env out h = let a = then_gives _ _ out h in record { made = a.0; normal = a.1.1; is = given_is out (given env x a.0) a.2 }

-- a point with these marks
abbrev at_marks : List Bool → Spot
at_marks set = spot [] [] set

module _ (p : Program) (b : Body Node) (members : ℕ → Datum → Bool) (c : Scope) (recur : RecurThroughParts p.names) (flow : List Ty) where
  abbrev state : Environment → List (Option Ty) → State
  state env declared = record { env = env; declared = declared; breaks = []; flow = flow }

  -- behind so many parameters
  record Begun (env : Environment) (declared : List (Option Ty)) (set : List Bool) (s : Store) : Type 0 where
    pub stands : Stands c.types nothing_kept (at_marks set) (state env declared)
    pub holds : Holds p.names c.types members c.many env (is_set set) s

  params_begin : (ps : List Param) (vs : List Datum) (env out : Environment) (declared : List (Option Ty)) (set : List Bool) (s : Store) → ParamsScoped c ps → Arrive p.names members ps vs → WithParams p.names ps env (Gives out) → Begun env declared set s
      → Begun out (declared_params declared ps) (marked_params ps set) (bound ps vs s)
  params_begin [] [] env out declared set s scoped arrive typed h = subst (λ (e : Environment). Begun e declared set s) (sym (given_is out env typed)) h
  params_begin [] (v ∷ vs) env out declared set s scoped arrive typed h = absurd arrive
  params_begin (x ∷ xs) [] env out declared set s scoped arrive typed h = absurd arrive
  params_begin (x ∷ xs) (v ∷ vs) env out declared set s scoped arrive typed h =
      let t = then_gives _ _ out typed in
      let n = variable_parts p.names x.at x.variable x.ty env t.0 t.1 in
      let next = mark set x.variable true in
      params_begin xs vs t.0 out (put_slot declared x.variable x.ty) next (put s x.variable (Some v)) scoped.2 arrive.1 t.2
      (record {
        stands = put_stands p None b c nothing_kept (at_marks set) (state env declared) x.variable true n.made t.0 (put_slot declared x.variable x.ty) (at_marks next) flow refl h.stands n.is
            (slot_put declared x.variable x.ty ∙ ap (λ (u : Ty). Some u) (sym scoped.1)) (λ y g. slot_other declared x.variable x.ty y g) (λ g. refl);
        holds = put_holds p.names c.types members c.many env t.0 (at_marks set) (at_marks next) s x.variable n.made h.stands.reached n.is h.holds v refl scoped.0 arrive.0.0 (norms_same p.names recur x.ty n.made n.normal v ∙ arrive.0.1)
            (subst (λ (u : Ty). is_in members u v ≡ true) (sym scoped.1) arrive.0.2);
      })

pub bodies_begin : BodiesBegin
bodies_begin p b members r vs env flow q recur scoped arrive typed set =
    let c = routine_scope r in
    let first : Begun p b members c recur flow nothing_known [] [] (unset r.variables) = record {
      stands = record { reached = refl; typed = λ x e. no_truth e; declared = λ x e. no_truth e; keeps = λ x e. no_truth e };
      holds = record { size = unset_length r.variables; values = λ x e. no_truth e; typed = λ x d e o. no_truth e; declared = λ x d e. absurd (unset_slot r.variables x d e) };
    } in
    let last = params_begin p b members c recur flow r.params vs nothing_known env [] [] (unset r.variables) scoped arrive typed first in
    record {
      stands = record {
        reached = last.stands.reached;
        typed = λ x e. last.stands.typed x (sym (ap (λ (l : List Bool). is_set l x) set) ∙ e);
        declared = λ x e. last.stands.declared x (sym (ap (λ (l : List Bool). is_set l x) set) ∙ e);
        keeps = λ x e. no_truth e;
      };
      holds = subst (λ (l : List Bool). Holds p.names (types_of r) members (length r.variables) env (is_set l) (entry_of r vs)) (sym set) last.holds;
    }
