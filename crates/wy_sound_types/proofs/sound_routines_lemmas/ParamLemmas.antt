-- The entry's store has each argument in its parameter.
use Rattle.std.proofs.Common.{◌≡◌, ◌<◌, ℕ, List, [], ◌∷◌, length, Bool, Some, refl, ◌∙◌, arith}
use Rattle.wy_sem.proofs.SharedLemmas.{unset_length}
use Rattle.wy_value.specs.Datum.{Datum}
use Rattle.wy_core.specs.CoreTree.{Param}
use Rattle.wy_sem.specs.Expressions.{Store, slot, put}
use Rattle.wy_sem.specs.TypeTests.{unset}
use Rattle.wy_sem.specs.Evaluation.{bound}
use Rattle.wy_sound_statements.proofs.wy_sound_kinds_proofs.TypeLemmas.{put_same, put_other, put_length}
use Rattle.wy_sound_statements.specs.calls.CallLaws.{ArgumentsIn}
use Rattle.wy_sound_types.specs.sound_routines.Entries.{ParamsIn, ArgumentsLast, IsNone, ParamsApart, ParametersAreIn}

arguments_last : (ps : List Param) (vs : List Datum) → length vs ≡ length ps → ArgumentsLast ps vs
arguments_last [] vs len = tt
arguments_last (p ∷ ps) [] len = absurd (omega (arith, len))
arguments_last (p ∷ ps) (v ∷ vs) len = arguments_last ps vs (omega (arith, len))

-- parameters leave other variables as they are
bound_keeps : (x : ℕ) (ps : List Param) (vs : List Datum) (st : Store) → IsNone x ps → slot (bound ps vs st) x ≡ slot st x
bound_keeps x [] vs st none = refl
bound_keeps x (p ∷ ps) [] st none = refl
bound_keeps x (p ∷ ps) (v ∷ vs) st none = bound_keeps x ps vs (put st p.variable (Some v)) none.1 ∙ put_other st p.variable (Some v) x none.0

params_in : (members : ℕ → Datum → Bool) (n : ℕ) (ps : List Param) (vs : List Datum) (st : Store) → length st ≡ n → ParamsApart n ps → length vs ≡ length ps → ArgumentsIn members ps vs → ParamsIn members ps (bound ps vs st)
params_in members n [] vs st size apart len inside = tt
params_in members n (p ∷ ps) [] st size apart len inside = absurd (omega (arith, len))
params_in members n (p ∷ ps) (v ∷ vs) st size apart len inside =
    let next = put st p.variable (Some v) in
    let lt : p.variable < n = apart.0 in
    let here : slot (bound ps vs next) p.variable ≡ Some v = bound_keeps p.variable ps vs next apart.2 ∙ put_same st p.variable (Some v) (omega (arith, size, lt)) in
    ((apart.1, (v, here, inside.0)), params_in members n ps vs next (put_length st p.variable (Some v) ∙ size) apart.3 (omega (arith, len)) inside.1)

pub parameters_in : ParametersAreIn
parameters_in = record {
  last = arguments_last;
  inside = λ members r vs apart len inside. params_in members (length r.variables) r.params vs (unset r.variables) (unset_length r.variables) apart len inside;
}
