-- From the end of a path to its begin: what a turn makes of the types along it, and where one fails.
use Rattle.std.proofs.Common.{◌≡◌, ◌+◌, ◌<◌, ◌≤◌, ℕ, zero, suc, List, ◌∷◌, length, map, drop, get_or, sym, subst, arith}
use Rattle.std.proofs.lemmas.List.{drop_more}
use Rattle.wy_core.specs.CoreSeen.{seen_step, seen_ty}
use Rattle.wy_core.specs.Types as ty
use Rattle.wy_core.specs.declared.statements.Step.{Step}
use Rattle.wy_core.specs.declared.types.Ty.{Ty}
use Rattle.wy_flow_exprs.specs.Seen.{seen_types}
use Rattle.wy_lemmas.proofs.Lists.{next_of as item_and_rest}
use Rattle.wy_types.specs.Names.{Declared}
use Rattle.wy_flow_spec.specs.declared.typing.fault.FlowFault.{FlowFault}
use Rattle.wy_flow_spec.specs.typing.Outcomes.{Outcome, Gives, Fails, gave, stopped}
use Rattle.wy_flow_spec.specs.typing.Paths.{StepUpdated, Updated}

-- the steps from this number on
abbrev pub From : List Declared → ℕ → List Step → List Ty → ℕ → ty.Ty → Outcome ty.Ty → Type 0
From names at path types k new o = Updated names at (map seen_step (drop k path)) (seen_types (drop k types)) new o

pub from_turn : (names : List Declared) (at : ℕ) (path : List Step) (types : List Ty) (k : ℕ) (step : Step) (t u : Ty) (new inner : ty.Ty) (o : Outcome ty.Ty)
    → k < length path → length types ≡ length path + 1 → step ≡ get_or path k step → t ≡ get_or types k t → u ≡ get_or types (k + 1) u
    → From names at path types (k + 1) new (Gives inner) → StepUpdated names at (seen_step step) (seen_ty t) (seen_ty u) inner o → From names at path types k new o
from_turn names at path types k step t u new inner o within along step_is t_is u_is before last =
    let first : drop k types ≡ t ∷ drop (k + 1) types = item_and_rest types k t (omega (arith, along)) t_is in
    let second : drop (k + 1) types ≡ u ∷ drop (k + 1 + 1) types = item_and_rest types (k + 1) u (omega (arith, along)) u_is in
    subst (λ (l : List Step). Updated names at (map seen_step l) (seen_types (drop k types)) new o) (sym (item_and_rest path k step within step_is))
    (subst (λ (l : List Ty). Updated names at (seen_step step ∷ map seen_step (drop (k + 1) path)) (seen_types l) new o) (sym first)
    (subst (λ (l : List Ty). Updated names at (seen_step step ∷ map seen_step (drop (k + 1) path)) (seen_ty t ∷ seen_types l) new o) (sym second)
    (gave inner o (subst (λ (l : List Ty). Updated names at (map seen_step (drop (k + 1) path)) (seen_types l) new (Gives inner)) second before) last)))

fails_turn : (names : List Declared) (at : ℕ) (path : List Step) (types : List Ty) (k : ℕ) (s : Step) (b : Ty) (new : ty.Ty) (e : FlowFault)
    → k < length path → length types ≡ length path + 1 → From names at path types (k + 1) new (Fails e) → From names at path types k new (Fails e)
fails_turn names at path types k s b new e within along before =
    let first : drop k types ≡ get_or types k b ∷ drop (k + 1) types = drop_more types k b (omega (arith, along)) in
    let second : drop (k + 1) types ≡ get_or types (k + 1) b ∷ drop (k + 1 + 1) types = drop_more types (k + 1) b (omega (arith, along)) in
    subst (λ (l : List Step). Updated names at (map seen_step l) (seen_types (drop k types)) new (Fails e)) (sym (drop_more path k s within))
    (subst (λ (l : List Ty). Updated names at (seen_step (get_or path k s) ∷ map seen_step (drop (k + 1) path)) (seen_types l) new (Fails e)) (sym first)
    (subst (λ (l : List Ty). Updated names at (seen_step (get_or path k s) ∷ map seen_step (drop (k + 1) path)) (seen_ty (get_or types k b) ∷ seen_types l) new (Fails e)) (sym second)
    (stopped e (subst (λ (l : List Ty). Updated names at (map seen_step (drop (k + 1) path)) (seen_types l) new (Fails e)) second before))))

pub from_first : (names : List Declared) (at : ℕ) (path : List Step) (types : List Ty) (new : ty.Ty) (o : Outcome ty.Ty) → From names at path types 0 new o → Updated names at (map seen_step path) (seen_types types) new o
from_first names at path types new o h = h

pub fails_all : (names : List Declared) (at : ℕ) (path : List Step) (types : List Ty) (k : ℕ) (s : Step) (b : Ty) (new : ty.Ty) (e : FlowFault)
    → k ≤ length path → length types ≡ length path + 1 → From names at path types k new (Fails e) → Updated names at (map seen_step path) (seen_types types) new (Fails e)
fails_all names at path types zero s b new e within along h = from_first names at path types new (Fails e) h
fails_all names at path types (suc k) s b new e within along h =
    fails_all names at path types k s b new e (omega (arith, within)) along
    (fails_turn names at path types k s b new e (omega (arith, within)) along
    (subst (λ (n : ℕ). From names at path types n new (Fails e)) (let is : suc k ≡ k + 1 = omega arith in is) h))
