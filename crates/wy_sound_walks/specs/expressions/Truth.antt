-- When conditions are true by given sets of data for named types, and evaluations that are no fault then.
use Rattle.std.specs.Prelude.{◌≡◌, ℕ, List, [], ◌∷◌, Bool, true}
use Rattle.wy_value.specs.Datum.{Datum}
use Rattle.wy_term.specs.Meaning.{Names, sense}
use Rattle.wy_term.specs.Condition.{AllTrue}
use Rattle.wy_sound_terms.specs.wy_sem.Meter.{Outcome, Done, Fault, More, Spent}
use Rattle.wy_sound_terms.specs.wy_vc_spec.Owed.{Owed}

-- whatever its names stand for, where named types stand for these data: if all hypotheses hold then the goal holds
abbrev pub IsTrueBy : (ℕ → Datum → Bool) → Owed → Type 0
IsTrueBy members c = (names : Names) → names.is_member ≡ members → AllTrue names c.hyps → (sense names c.goal).truth ≡ true

abbrev pub AreTrueBy : (ℕ → Datum → Bool) → List Owed → Type 0
AreTrueBy members [] = Unit {0}
AreTrueBy members (c ∷ cs) = IsTrueBy members c × AreTrueBy members cs

-- the evaluation is no fault where A holds, and an answer has the property, whether A holds or not
abbrev pub Good : {X : Type 0} → Type 0 → Outcome X → (X → Type 0) → Type 0
Good A (Done x m) P = P x
Good A (Fault kind at m) P = A → ⊥
Good A (More m) P = Unit {0}
Good A Spent P = Unit {0}
