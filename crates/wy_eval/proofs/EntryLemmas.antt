-- Arguments, one behind the other.
use Rattle.std.proofs.Common.{◌≡◌, ◌≢◌, ℕ, ◌+◌, ◌<◌, ◌≤◌, List, [], ◌∷◌, map, length, drop, get_or, Option, Result, Ok, Err, refl, sym, ap, ◌∙◌}
use Rattle.std.specs.Prelude.{IsErrAnd}
use Rattle.std.proofs.lemmas.List.{drop_all}
use Rattle.wy_lemmas.proofs.Lists.{next_of as next_item}
use Rattle.wy_value.specs.Datum.{Datum}
use Rattle.wy_value.specs.declared.value.Value.{Value}
use Rattle.wy_value.specs.Seen.{seen}
use Rattle.wy_core.specs.CoreSeen.{seen_param, seen_ty}
use Rattle.wy_core.specs.CoreTree as tree
use Rattle.wy_core.specs.Types.{Ty}
use Rattle.wy_core.specs.declared.declarations.Param.{Param}
use Rattle.wy_sem.specs.Evaluation.{arguments}
use Rattle.wy_sem.specs.Meter.{Meter, Done, Run}
use Rattle.wy_sem.specs.Statements.{given}
use Rattle.wy_sem.specs.TypeTests.{Test}
use Rattle.wy_eval_exprs.specs.declared.stop.Stop.{Stop}
use Rattle.wy_eval_exprs.specs.declared.stop.Stop.TheVariants as stop
use Rattle.wy_eval_exprs.specs.Outcomes.{stopped}
use Rattle.wy_eval_exprs.proofs.StepLemmas.{done}
use Rattle.wy_eval.specs.Entries.{GoesOn}
use Rattle.wy_eval.proofs.FollowLemmas.{given_stops, given_then}

abbrev pub ArgumentsLeft : (Ty → Datum → Test) → ℕ → List Param → List Value → Meter → ℕ → Meter → Type 0
ArgumentsLeft member at ps vs m i now =
    (next : Run (Option Datum)) → arguments member at (map seen_param ps) (map seen vs) next m ≡ arguments member at (map seen_param (drop i ps)) (map seen (drop i vs)) next now

at_argument : (member : Ty → Datum → Test) (at : ℕ) (ps : List Param) (vs : List Value) (i : ℕ) (p : Param) (v : Value) (now : Meter) (next : Run (Option Datum)) → i < length ps → p ≡ get_or ps i p → i < length vs → v ≡ get_or vs i v
    → arguments member at (map seen_param (drop i ps)) (map seen (drop i vs)) next now ≡ given member at (seen_ty p.ty) (seen v) (arguments member at (map seen_param (drop (i + 1) ps)) (map seen (drop (i + 1) vs)) next) now
at_argument member at ps vs i p v now next hp ip hv iv =
    ap (λ l. arguments member at (map seen_param l) (map seen (drop i vs)) next now) (next_item ps i p hp ip)
    ∙ ap (λ l. arguments member at (map seen_param (p ∷ drop (i + 1) ps)) (map seen l) next now) (next_item vs i v hv iv)

pub arguments_turn : (member : Ty → Datum → Test) (at : ℕ) (ps : List Param) (vs : List Value) (m : Meter) (i : ℕ) (p : Param) (v : Value) (now k : Meter) → i < length ps → p ≡ get_or ps i p → i < length vs → v ≡ get_or vs i v
    → given member at (seen_ty p.ty) (seen v) done now ≡ Done tt k → ArgumentsLeft member at ps vs m i now → ArgumentsLeft member at ps vs m (i + 1) k
arguments_turn member at ps vs m i p v now k hp ip hv iv h left = λ next.
    left next ∙ (at_argument member at ps vs i p v now next hp ip hv iv
    ∙ given_then member at (seen_ty p.ty) (seen v) (arguments member at (map seen_param (drop (i + 1) ps)) (map seen (drop (i + 1) vs)) next) now k h)

pub arguments_stop : (member : Ty → Datum → Test) (at : ℕ) (ps : List Param) (vs : List Value) (m : Meter) (i : ℕ) (p : Param) (v : Value) (now k : Meter) (e : Stop) → i < length ps → p ≡ get_or ps i p → i < length vs → v ≡ get_or vs i v
    → (e ≢ stop.NoMemory → given member at (seen_ty p.ty) (seen v) done now ≡ stopped e k) → ArgumentsLeft member at ps vs m i now → e ≢ stop.NoMemory → (next : Run (Option Datum)) → arguments member at (map seen_param ps) (map seen vs) next m ≡ stopped e k
arguments_stop member at ps vs m i p v now k e hp ip hv iv h left none next =
    left next ∙ (at_argument member at ps vs i p v now next hp ip hv iv
    ∙ given_stops member at (seen_ty p.ty) (seen v) (arguments member at (map seen_param (drop (i + 1) ps)) (map seen (drop (i + 1) vs)) next) now k e h none)

no_arguments : (member : Ty → Datum → Test) (at : ℕ) (ps : List tree.Param) (next : Run (Option Datum)) (m : Meter) → arguments member at ps [] next m ≡ next m
no_arguments member at [] next m = refl
no_arguments member at (p ∷ ps) next m = refl

pub arguments_short : (member : Ty → Datum → Test) (at : ℕ) (ps : List Param) (vs : List Value) (m : Meter) (i : ℕ) (now : Meter) → length vs ≤ i → ArgumentsLeft member at ps vs m i now → (next : Run (Option Datum)) → arguments member at (map seen_param ps) (map seen vs) next m ≡ next now
arguments_short member at ps vs m i now past left next =
    left next ∙ (ap (λ l. arguments member at (map seen_param (drop i ps)) (map seen l) next now) (drop_all i vs past) ∙ no_arguments member at (map seen_param (drop i ps)) next now)

pub arguments_end : (member : Ty → Datum → Test) (at : ℕ) (ps : List Param) (vs : List Value) (m : Meter) (i : ℕ) (now : Meter) → length ps ≤ i → ArgumentsLeft member at ps vs m i now → (next : Run (Option Datum)) → arguments member at (map seen_param ps) (map seen vs) next m ≡ next now
arguments_end member at ps vs m i now past left next = left next ∙ ap (λ l. arguments member at (map seen_param l) (map seen (drop i vs)) next now) (drop_all i ps past)

-- what stopped is handed on
pub goes_refused : {R : Type 0} (run : Run (Option Datum) → Run (Option Datum)) (m k : Meter) (e : Stop) (r : Result R Stop) → (e ≢ stop.NoMemory → (next : Run (Option Datum)) → run next m ≡ stopped e k) → IsErrAnd r (λ f. f ≡ e) → GoesOn run m r k
goes_refused run m k e (Ok y) h handed = absurd handed
goes_refused run m k e (Err f) h handed = λ none next. h (λ q. none (handed ∙ q)) next ∙ sym (ap (λ g. stopped g k) handed)
