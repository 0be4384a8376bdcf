-- Arguments and requires clauses, one behind the other: where what is left leads, the whole leads.
use Rattle.std.proofs.Common.{◌≡◌, ◌≢◌, ℕ, ◌+◌, ◌<◌, ◌≤◌, Bool, true, false, List, [], ◌∷◌, map, length, drop, get_or, Option, Some, Result, Ok, Err, refl, sym, ap, ◌∙◌, subst}
use Rattle.std.specs.Prelude.{IsErrAnd}
use Rattle.std.proofs.lemmas.List.{drop_all}
use Rattle.wy_lemmas.proofs.Lists.{next_of as next_item}
use Rattle.wy_value.specs.declared.value.Value.{Value}
use Rattle.wy_value.specs.Seen.{seen}
use Rattle.wy_value.specs.Datum.{Datum}
use Rattle.wy_core.specs.CoreSeen.{seen_expr, seen_exprs, seen_param, seen_ty}
use Rattle.wy_core.specs.CoreTree as tree
use Rattle.wy_core.specs.declared.declarations.Param.{Param}
use Rattle.wy_core.specs.declared.expressions.Expr.{Expr}
use Rattle.wy_sem.specs.Meter.{Meter, Done, Run, ◌>>=◌}
use Rattle.wy_sem.specs.Expressions.{Store, Setting, holds, holds_at, node}
use Rattle.wy_sem.specs.TypeTests.{forgiven, member}
use Rattle.wy_sem.specs.Precondition.{Verdict, Met, TypeFails, RequiresFails, passed, requires_met, types_met}
use Rattle.wy_eval_exprs.specs.declared.stop.Stop.{Stop}
use Rattle.wy_eval_exprs.specs.declared.stop.Stop.TheVariants as stop
use Rattle.wy_eval_exprs.specs.Outcomes.{Gives, itself, stopped}
use Rattle.wy_eval_exprs.specs.Verdicts.{FirstOf}
use Rattle.wy_eval_exprs.specs.Settings.{here, pardoned}
use Rattle.wy_eval_exprs.proofs.StepLemmas.{then_is, then_stops_plain, pardon_gives}

-- ---- arguments

-- the types of the arguments from a place on
abbrev pub types_from : ℕ → List (tree.Alias ℕ) → List Param → List Value → ℕ → Run Verdict → Run Verdict
types_from limit types ps vs i next = types_met here (Some limit) types (map seen_param (drop i ps)) (map seen (drop i vs)) (i + 1) next

abbrev pub TypesLeft : ℕ → List (tree.Alias ℕ) → List Param → List Value → Meter → ℕ → Meter → Type 0
TypesLeft limit types ps vs m i now = (next : Run Verdict) → types_met here (Some limit) types (map seen_param ps) (map seen vs) 1 next m ≡ types_from limit types ps vs i next now

at_argument : (limit : ℕ) (types : List (tree.Alias ℕ)) (ps : List Param) (vs : List Value) (i : ℕ) (p : Param) (v : Value) (now : Meter) (next : Run Verdict) → i < length ps → p ≡ get_or ps i p → i < length vs → v ≡ get_or vs i v
    → types_from limit types ps vs i next now ≡ (member here (Some limit) types (seen_ty p.ty) (seen v) now >>= (λ b. passed b (TypeFails (i + 1)) (types_from limit types ps vs (i + 1) next)))
at_argument limit types ps vs i p v now next hp ip hv iv =
    ap (λ l. types_met here (Some limit) types (map seen_param l) (map seen (drop i vs)) (i + 1) next now) (next_item ps i p hp ip)
    ∙ ap (λ l. types_met here (Some limit) types (map seen_param (p ∷ drop (i + 1) ps)) (map seen l) (i + 1) next now) (next_item vs i v hv iv)

pub types_turn : (limit : ℕ) (types : List (tree.Alias ℕ)) (ps : List Param) (vs : List Value) (m : Meter) (i : ℕ) (p : Param) (v : Value) (now k : Meter) → i < length ps → p ≡ get_or ps i p → i < length vs → v ≡ get_or vs i v
    → member here (Some limit) types (seen_ty p.ty) (seen v) now ≡ Done true k → TypesLeft limit types ps vs m i now → TypesLeft limit types ps vs m (i + 1) k
types_turn limit types ps vs m i p v now k hp ip hv iv is left = λ next.
    left next ∙ (at_argument limit types ps vs i p v now next hp ip hv iv
    ∙ then_is (member here (Some limit) types (seen_ty p.ty) (seen v) now) (λ b. passed b (TypeFails (i + 1)) (types_from limit types ps vs (i + 1) next)) true k is)

pub types_fail : (limit : ℕ) (types : List (tree.Alias ℕ)) (ps : List Param) (vs : List Value) (m : Meter) (i : ℕ) (p : Param) (v : Value) (now k : Meter) → i < length ps → p ≡ get_or ps i p → i < length vs → v ≡ get_or vs i v
    → member here (Some limit) types (seen_ty p.ty) (seen v) now ≡ Done false k → TypesLeft limit types ps vs m i now → (next : Run Verdict) → types_met here (Some limit) types (map seen_param ps) (map seen vs) 1 next m ≡ Done (TypeFails (i + 1)) k
types_fail limit types ps vs m i p v now k hp ip hv iv is left next =
    left next ∙ (at_argument limit types ps vs i p v now next hp ip hv iv
    ∙ then_is (member here (Some limit) types (seen_ty p.ty) (seen v) now) (λ b. passed b (TypeFails (i + 1)) (types_from limit types ps vs (i + 1) next)) false k is)

pub types_stop : (limit : ℕ) (types : List (tree.Alias ℕ)) (ps : List Param) (vs : List Value) (m : Meter) (i : ℕ) (p : Param) (v : Value) (now k : Meter) (e : Stop) → i < length ps → p ≡ get_or ps i p → i < length vs → v ≡ get_or vs i v
    → (e ≢ stop.NoMemory → member here (Some limit) types (seen_ty p.ty) (seen v) now ≡ stopped e k) → TypesLeft limit types ps vs m i now → e ≢ stop.NoMemory → (next : Run Verdict) → types_met here (Some limit) types (map seen_param ps) (map seen vs) 1 next m ≡ stopped e k
types_stop limit types ps vs m i p v now k e hp ip hv iv is left none next =
    left next ∙ (at_argument limit types ps vs i p v now next hp ip hv iv
    ∙ then_stops_plain (member here (Some limit) types (seen_ty p.ty) (seen v) now) (λ b. passed b (TypeFails (i + 1)) (types_from limit types ps vs (i + 1) next)) k e is none)

no_arguments : (limit : ℕ) (types : List (tree.Alias ℕ)) (ps : List tree.Param) (n : ℕ) (next : Run Verdict) (m : Meter) → types_met here (Some limit) types ps [] n next m ≡ next m
no_arguments limit types [] n next m = refl
no_arguments limit types (p ∷ ps) n next m = refl

pub types_short : (limit : ℕ) (types : List (tree.Alias ℕ)) (ps : List Param) (vs : List Value) (m : Meter) (i : ℕ) (now : Meter) → length vs ≤ i → TypesLeft limit types ps vs m i now → (next : Run Verdict) → types_met here (Some limit) types (map seen_param ps) (map seen vs) 1 next m ≡ next now
types_short limit types ps vs m i now past left next =
    left next ∙ (ap (λ l. types_met here (Some limit) types (map seen_param (drop i ps)) (map seen l) (i + 1) next now) (drop_all i vs past) ∙ no_arguments limit types (map seen_param (drop i ps)) (i + 1) next now)

pub types_end : (limit : ℕ) (types : List (tree.Alias ℕ)) (ps : List Param) (vs : List Value) (m : Meter) (i : ℕ) (now : Meter) → length ps ≤ i → TypesLeft limit types ps vs m i now → (next : Run Verdict) → types_met here (Some limit) types (map seen_param ps) (map seen vs) 1 next m ≡ next now
types_end limit types ps vs m i now past left next = left next ∙ ap (λ l. types_met here (Some limit) types (map seen_param l) (map seen (drop i vs)) (i + 1) next now) (drop_all i ps past)

-- what stopped is handed on
pub first_refused : (limit : ℕ) (types : List (tree.Alias ℕ)) (ps : List tree.Param) (vs : List Datum) (m k : Meter) (e : Stop) (r : Result (Option ℕ) Stop) → (e ≢ stop.NoMemory → (next : Run Verdict) → types_met here (Some limit) types ps vs 1 next m ≡ stopped e k)
    → IsErrAnd r (λ f. f ≡ e) → FirstOf limit types ps vs m r k
first_refused limit types ps vs m k e (Ok y) h handed = absurd handed
first_refused limit types ps vs m k e (Err f) h handed = λ none next. h (λ q. none (handed ∙ q)) next ∙ sym (ap (λ g. stopped g k) handed)

-- ---- clauses

-- what a clause at its place gives, a fault being a no
pub clause_gives : (w : Setting ℕ) (x : tree.Expr ℕ) (s : Store) (m : Meter) (at : ℕ) (answer r : Result Bool Stop) (k : Meter) → at ≡ w.place (node x) → Gives itself (holds_at w at x s m) answer k → r ≡ pardoned answer → Gives itself (forgiven (holds w x s m)) r k
clause_gives w x s m at answer r k place h is =
    subst (λ z. Gives itself (forgiven (holds w x s m)) z k) (sym is)
    (pardon_gives (holds w x s m) answer k (subst (λ n. Gives itself (holds_at w n x s m) answer k) place h))

abbrev pub ClausesLeft : Setting ℕ → List Expr → Store → Meter → ℕ → Meter → Type 0
ClausesLeft w all s m i now = requires_met w (seen_exprs all) s 1 m ≡ requires_met w (seen_exprs (drop i all)) s (i + 1) now

at_clause : (w : Setting ℕ) (all : List Expr) (s : Store) (i : ℕ) (e : Expr) (now : Meter) → i < length all → e ≡ get_or all i e
    → requires_met w (seen_exprs (drop i all)) s (i + 1) now ≡ (forgiven (holds w (seen_expr e) s now) >>= (λ b. passed b (RequiresFails (i + 1)) (requires_met w (seen_exprs (drop (i + 1) all)) s (i + 1 + 1))))
at_clause w all s i e now within is = ap (λ l. requires_met w (seen_exprs l) s (i + 1) now) (next_item all i e within is)

pub clauses_turn : (w : Setting ℕ) (all : List Expr) (s : Store) (m : Meter) (i : ℕ) (e : Expr) (now k : Meter) → i < length all → e ≡ get_or all i e → forgiven (holds w (seen_expr e) s now) ≡ Done true k → ClausesLeft w all s m i now → ClausesLeft w all s m (i + 1) k
clauses_turn w all s m i e now k within is given left =
    left ∙ (at_clause w all s i e now within is ∙ then_is (forgiven (holds w (seen_expr e) s now)) (λ b. passed b (RequiresFails (i + 1)) (requires_met w (seen_exprs (drop (i + 1) all)) s (i + 1 + 1))) true k given)

pub clauses_fail : (w : Setting ℕ) (all : List Expr) (s : Store) (m : Meter) (i : ℕ) (e : Expr) (now k : Meter) → i < length all → e ≡ get_or all i e → forgiven (holds w (seen_expr e) s now) ≡ Done false k → ClausesLeft w all s m i now → requires_met w (seen_exprs all) s 1 m ≡ Done (RequiresFails (i + 1)) k
clauses_fail w all s m i e now k within is given left =
    left ∙ (at_clause w all s i e now within is ∙ then_is (forgiven (holds w (seen_expr e) s now)) (λ b. passed b (RequiresFails (i + 1)) (requires_met w (seen_exprs (drop (i + 1) all)) s (i + 1 + 1))) false k given)

pub clauses_stop : (w : Setting ℕ) (all : List Expr) (s : Store) (m : Meter) (i : ℕ) (e : Expr) (now k : Meter) (f : Stop) → i < length all → e ≡ get_or all i e → (f ≢ stop.NoMemory → forgiven (holds w (seen_expr e) s now) ≡ stopped f k) → ClausesLeft w all s m i now → f ≢ stop.NoMemory → requires_met w (seen_exprs all) s 1 m ≡ stopped f k
clauses_stop w all s m i e now k f within is given left none =
    left ∙ (at_clause w all s i e now within is ∙ then_stops_plain (forgiven (holds w (seen_expr e) s now)) (λ b. passed b (RequiresFails (i + 1)) (requires_met w (seen_exprs (drop (i + 1) all)) s (i + 1 + 1))) k f given none)

pub clauses_end : (w : Setting ℕ) (all : List Expr) (s : Store) (m : Meter) (i : ℕ) (now : Meter) → length all ≤ i → ClausesLeft w all s m i now → requires_met w (seen_exprs all) s 1 m ≡ Done Met now
clauses_end w all s m i now past left = left ∙ ap (λ l. requires_met w (seen_exprs l) s (i + 1) now) (drop_all i all past)
