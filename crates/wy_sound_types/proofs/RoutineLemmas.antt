-- Arguments fit, and so do the clauses of contracts.
use Rattle.std.proofs.Common.{◌≡◌, ◌<◌, ℕ, zero, suc, ◌+◌, ◌==◌, ◌||◌, List, [], ◌∷◌, length, Bool, true, false, Option, Some, None, refl, sym, ap, ◌∙◌, subst, arith, eqb-true}
use Rattle.wy_lemmas.proofs.Choices.{apart_of, false_true as no_value}
use Rattle.wy_sem.proofs.SharedLemmas.{unset_length}
use Rattle.wy_sound_statements.proofs.wy_sound_kinds_proofs.frames_lemmas.FrameLemmas.{put_other}
use Rattle.wy_lemmas.proofs.Options.{some_same as same_some}
use Rattle.wy_value.specs.Datum.{Datum}
use Rattle.wy_core.specs.Types.{Ty}
use Rattle.wy_core.specs.CoreTree as tree
use Rattle.wy_core.specs.CoreTree.{Expr, Param, Routine, Core}
use Rattle.wy_types.specs.Names.{Declared, names_in, Up}
use Rattle.wy_types.specs.Recursion.{RecurThroughParts}
use Rattle.wy_sound_statements.specs.wy_flow_spec.environment.Slots.{slot_at, put_slot}
use Rattle.wy_sound_statements.specs.wy_flow_spec.environment.Variables.{Environment, nothing_known, or_void, given, type_of}
use Rattle.wy_sound_statements.specs.wy_flow_spec.typing.Outcomes.{Gives}
use Rattle.wy_sound_statements.specs.wy_flow_spec.typing.Loops.{ClausesTyped}
use Rattle.wy_sound_statements.specs.wy_flow_spec.typing.Programs.{program_of, types_of, WithVariable, WithParams, WithNamed, WithResult}
use Rattle.wy_sem.specs.Expressions as sem
use Rattle.wy_sem.specs.Expressions.{slot, put}
use Rattle.wy_sem.specs.TypeTests.{unset, set_if}
use Rattle.wy_sem.specs.Evaluation.{bound}
use Rattle.wy_sound_statements.specs.wy_vc_spec.Sizes.{exprs_in_list}
use Rattle.wy_sound_statements.specs.wy_vc_spec.Numbered.{Node, numbered_list, numbered_routine}
use Rattle.wy_sound_statements.specs.wy_vc_spec.Values.{Setting}
use Rattle.wy_sound_statements.proofs.wy_types_laws_proofs.parts_lemmas.NormLemmas.{norms_same}
use Rattle.wy_sound_statements.specs.wy_sound_walks.expressions.Names.{also}
use Rattle.wy_sound_statements.specs.wy_sound_walks.expressions.Types.{is_in}
use Rattle.wy_sound_statements.specs.wy_sound_walks.expressions.Written.{IsWritten}
use Rattle.wy_sound_statements.specs.wy_sound_walks.clauses.Clauses.{AllFit}
use Rattle.wy_sound_statements.specs.wy_sound_kinds.Bounded.{IsBounded, AllBounded}
use Rattle.wy_sound_statements.specs.wy_sound_kinds.Ready.{Rules}
use Rattle.wy_sound_statements.specs.wy_sound_kinds.Kinds.{HasValues, HasTypes, AreIn, Rests}
use Rattle.wy_sound_statements.proofs.wy_sound_kinds_proofs.TypeLemmas.{then_gives, given_is, put_same, put_length}
use Rattle.wy_sound_statements.specs.wy_sound_kinds.suits.Laws.{Begins, Asks}
use Rattle.wy_sound_statements.proofs.wy_sound_kinds_proofs.suits_lemmas.FlowLemmas.{begins_more}
use Rattle.wy_sound_statements.specs.wy_sound_kinds.fits.Fit.{ClausesReady}
use Rattle.wy_sound_statements.proofs.wy_sound_kinds_proofs.fits_lemmas.FitLemmas.{clauses_fit}
use Rattle.wy_sound_statements.specs.calls.CallLaws.{with_params, nothing_seen, also_if, ArgumentsFit, ClausesFit}
use Rattle.wy_sound_types.specs.members.Laws.{told_by}
use Rattle.wy_sound_types.specs.Tests.{TestsTell}
use Rattle.wy_sound_types.specs.Laws.{TypesMeet}
use Rattle.wy_sound_types.specs.Routines.{ParamsAmong, ResultAmong, with_result, TypedContract, ContractsFit}
use Rattle.wy_sound_types.proofs.RestLemmas.{read, ordered, rests, asks, free}
use Rattle.wy_sound_types.proofs.TypedLemmas.{slot_put, no_answer, clauses_flow}

-- ---- one more variable

slot_apart : (slots : List (Option Ty)) (x : ℕ) (t : Ty) (y : ℕ) → (x ≡ y → ⊥) → slot_at (put_slot slots x t) y ≡ slot_at slots y
slot_apart [] zero t zero h = absurd (h refl)
slot_apart [] zero t (suc y) h = refl
slot_apart [] (suc x) t zero h = refl
slot_apart [] (suc x) t (suc y) h = slot_apart [] x t y (λ e. h (ap suc e))
slot_apart (o ∷ slots) zero t zero h = absurd (h refl)
slot_apart (o ∷ slots) zero t (suc y) h = refl
slot_apart (o ∷ slots) (suc x) t zero h = refl
slot_apart (o ∷ slots) (suc x) t (suc y) h = slot_apart slots x t y (λ e. h (ap suc e))

-- a point of typing that a path gets to, and a store there
record Typed (names : List Declared) (n : ℕ) (env : Environment) (seen : ℕ → Bool) (s : sem.Store) : Type 0 where
  reached : env.reached ≡ true
  size : length s ≡ n
  values : HasValues seen s
  types : HasTypes names env [] seen s

module _ (names : List Declared) (n : ℕ) (env : Environment) (seen : ℕ → Bool) (s : sem.Store) (h : Typed names n env seen s) (x : ℕ) (lt : x < n) (made : Ty) (d : Datum) (bounded : IsBounded d) (up : Up names d made ≡ true) where
  abbrev st : sem.Store
  st = put s x (Some d)

  has_it : slot st x ≡ Some d
  has_it = let e = h.size in put_same s x (Some d) (omega (arith, lt, e))

  next_values : HasValues (also x seen) st
  next_values y see = by (x == y) refl see where
    by : (b : Bool) → (x == y) ≡ b → (b || seen y) ≡ true → (e : Datum) × (slot st y ≡ Some e) × IsBounded e
    by true q g = (d, subst (λ (z : ℕ). slot st z ≡ Some d) (eqb-true x y q) has_it, bounded)
    by false q g = let o = h.values y g in (o.0, put_other s x (Some d) y (apart_of x y q) ∙ o.1, o.2)

  -- the environment with the type of the variable
  abbrev next : Environment
  next = record env { types = put_slot env.types x made }

  type_next : (y : ℕ) → type_of next [] y ≡ or_void (slot_at (put_slot env.types x made) y)
  type_next y = rw h.reached refl

  type_now : (y : ℕ) → type_of env [] y ≡ or_void (slot_at env.types y)
  type_now y = rw h.reached refl

  next_types : HasTypes names next [] (also x seen) st
  next_types y e see q = by (x == y) refl see where
    by : (b : Bool) → (x == y) ≡ b → (b || seen y) ≡ true → Up names e (type_of next [] y) ≡ true
    by true r g =
        let is : x ≡ y = eqb-true x y r in
        let same : d ≡ e = same_some d e (sym has_it ∙ (ap (slot st) is ∙ q)) in
        ap (Up names e) (type_next y) ∙ (subst (λ (z : ℕ). Up names e (or_void (slot_at (put_slot env.types x made) z)) ≡ true) is
        (ap (λ (o : Option Ty). Up names e (or_void o)) (slot_put env.types x made) ∙ subst (λ (c : Datum). Up names c made ≡ true) same up))
    by false r g =
        let away = apart_of x y r in
        ap (Up names e) (type_next y) ∙ (ap (λ (o : Option Ty). Up names e (or_void o)) (slot_apart env.types x made y away)
        ∙ (sym (ap (Up names e) (type_now y)) ∙ h.types y e g (sym (put_other s x (Some d) y away) ∙ q)))

  given_next : given env x made ≡ next
  given_next = rw h.reached refl

  one_more : Typed names n (given env x made) (also x seen) st
  one_more = subst (λ (e : Environment). Typed names n e (also x seen) st) (sym given_next) (record { reached = h.reached; size = put_length s x (Some d) ∙ h.size; values = next_values; types = next_types })

-- a variable with the normal type of its declared type
with_variable : (names : List Declared) → RecurThroughParts names → (at : ℕ) (t : Ty) (x n : ℕ) (env out : Environment) (seen : ℕ → Bool) (s : sem.Store) (d : Datum) → WithVariable names at t x env (Gives out) → Typed names n env seen s → x < n → IsBounded d → Up names d t ≡ true
    → Typed names n out (also x seen) (put s x (Some d))
with_variable names recur at t x n env out seen s d typed h lt bounded up =
    let made = then_gives _ _ out typed in
    let normal : Up names d made.0 ≡ true = norms_same names recur t made.0 made.1.1 d ∙ up in
    subst (λ (e : Environment). Typed names n e (also x seen) (put s x (Some d))) (sym (given_is out (given env x made.0) made.2)) (one_more names n env seen s h x lt made.0 d bounded normal)

params_typed : (names : List Declared) → RecurThroughParts names → (ps : List Param) (vs : List Datum) (n : ℕ) (env out : Environment) (seen : ℕ → Bool) (s : sem.Store) → WithParams names ps env (Gives out) → length vs ≡ length ps → ParamsAmong n ps → AllBounded vs → AreIn names (types_of ps) vs
    → Typed names n env seen s → Typed names n out (with_params ps seen) (bound ps vs s)
params_typed names recur [] vs n env out seen s typed len among bounded inside h = subst (λ (e : Environment). Typed names n e seen s) (sym (given_is out env typed)) h
params_typed names recur (p ∷ ps) [] n env out seen s typed len among bounded inside h = absurd (omega (arith, len))
params_typed names recur (p ∷ ps) (v ∷ vs) n env out seen s typed len among bounded inside h =
    let t = then_gives _ _ out typed in
    let one = with_variable names recur p.at p.ty p.variable n env t.0 seen s v t.1 h among.0 bounded.0 inside.0 in
    params_typed names recur ps vs n t.0 out (also p.variable seen) (put s p.variable (Some v)) t.2 (omega (arith, len)) among.2 bounded.1 inside.1 one

-- ---- arguments

arguments_fit : (core : Core ℕ) (flow : List Ty) (members : ℕ → Datum → Bool) → TypesMeet core flow members → (n : ℕ) (ps : List Param) (vs : List Datum) → length vs ≡ length ps → ParamsAmong n ps → AllBounded vs
    → AreIn (names_in core) (types_of ps) vs → ArgumentsFit (told_by core flow) members ps vs
arguments_fit core flow members h n [] [] len among bounded inside = tt
arguments_fit core flow members h n [] (v ∷ vs) len among bounded inside = absurd (omega (arith, len))
arguments_fit core flow members h n (p ∷ ps) [] len among bounded inside = absurd (omega (arith, len))
arguments_fit core flow members h n (p ∷ ps) (v ∷ vs) len among bounded inside = (
  among.1,
  (bounded.0, λ e. free core flow members h p.ty among.1 e v bounded.0 inside.0),
  arguments_fit core flow members h n ps vs (omega (arith, len)) among.2 bounded.1 inside.1,
)

-- ---- clauses

module _ (core : Core ℕ) (flow : List Ty) (members : ℕ → Datum → Bool) (h : TypesMeet core flow members) (r : Rules) (source : (t : Ty) → r.tested t ≡ true → IsWritten t)
    (w : sem.Setting Node) (tells : TestsTell members (w.test false)) where
  abbrev s : Setting Node
  s = told_by core flow

  abbrev names : List Declared
  names = names_in core

  recur : RecurThroughParts names
  recur = ordered core flow members h

  resting : Rests (program_of core) r (sem.quiet w) false (is_in members)
  resting = rests core flow members h r source (sem.quiet w) false tells (λ f at vs d m k are e. absurd (no_answer f at vs d m k e))

  asking : Asks r (sem.quiet w) false (is_in members)
  asking = asks core flow members h r source (sem.quiet w) false tells

  fit : (n : ℕ) (env : Environment) (es : List (Expr ℕ)) (before out : List Ty) (seen : ℕ → Bool) (st : sem.Store) → Typed names n env seen st → ClausesTyped (program_of core) env es before (Gives out) → Begins out flow → ClausesReady r n seen es
      → AllFit w s members seen (numbered_list es (length before)) st
  fit n env es before out seen st t typed begins ready =
      clauses_fit (program_of core) r w s members resting asking flow (λ k. refl) env t.reached es before out seen st typed begins (subst (λ (k : ℕ). ClausesReady r k seen es) (sym t.size) ready) t.values t.types

  module _ (routine : Routine ℕ) (before : List Ty) (t : TypedContract core flow r routine before) (vs : List Datum) (len : length vs ≡ length routine.params) (bounded : AllBounded vs) (inside : AreIn names (types_of routine.params) vs) where
    abbrev n : ℕ
    n = length routine.variables

    at_entry : Typed names n t.entry (with_params routine.params nothing_seen) (bound routine.params vs (unset routine.variables))
    at_entry =
        params_typed names recur routine.params vs n nothing_known t.entry nothing_seen (unset routine.variables) t.params len t.among bounded inside
        (record { reached = refl; size = unset_length routine.variables; values = λ x e. no_value e; types = λ x d e q. no_value e })

    first_begins : Begins t.first flow
    first_begins = begins_more t.first t.second flow (clauses_flow (program_of core) t.behind routine.postconditions t.first t.second t.postconditions).begins t.begins

    -- the ensures clauses have numbers behind those of the requires clauses
    numbers : length t.first ≡ length before + exprs_in_list routine.preconditions
    numbers = (clauses_flow (program_of core) t.entry routine.preconditions before t.first t.preconditions).counted

    last_fit : (env : Environment) (seen : ℕ → Bool) (st : sem.Store) → Typed names n env seen st → ClausesTyped (program_of core) env routine.postconditions t.first (Gives t.second) → ClausesReady r n seen routine.postconditions
        → AllFit w s members seen (numbered_list routine.postconditions (length before + exprs_in_list routine.preconditions)) st
    last_fit env seen st ty typed ready =
        subst (λ (k : ℕ). AllFit w s members seen (numbered_list routine.postconditions k) st) numbers (fit n env routine.postconditions t.first t.second seen st ty typed t.begins ready)

    -- a result of its type, in its variable
    with_named : (at : ℕ) (ty : Ty) (x : Option ℕ) (out : Environment) (d : Datum) → ((y : ℕ) → x ≡ Some y → y < n) → IsBounded d → Up names d ty ≡ true → WithNamed names at ty t.entry x (Gives out)
        → Typed names n out (also_if x (with_params routine.params nothing_seen)) (set_if (bound routine.params vs (unset routine.variables)) x (Some d))
    with_named at ty None out d lt bound_d up typed = subst (λ (e : Environment). Typed names n e (with_params routine.params nothing_seen) (bound routine.params vs (unset routine.variables))) (sym (given_is out t.entry typed)) at_entry
    with_named at ty (Some x) out d lt bound_d up typed = with_variable names recur at ty x n t.entry out (with_params routine.params nothing_seen) (bound routine.params vs (unset routine.variables)) d typed at_entry (lt x refl) bound_d up

    result_fit : (o : Option tree.Output) → routine.result ≡ o → WithResult names t.entry o (Gives t.behind) → ResultAmong n o → ClausesReady r n (with_result o (with_params routine.params nothing_seen)) routine.postconditions
        → (out : tree.Output) (d : Datum) → o ≡ Some out → IsBounded d → is_in members out.ty d ≡ true
        → AllFit w s members (also_if out.variable (with_params routine.params nothing_seen)) (numbered_list routine.postconditions (length before + exprs_in_list routine.preconditions)) (set_if (bound routine.params vs (unset routine.variables)) out.variable (Some d))
    result_fit None is typed among ready out d e bound_d in_it = absurd (none_some out e) where
      none_some : (out : tree.Output) → ◌≡◌ {A = Option tree.Output} None (Some out) → ⊥
      none_some out e = absurd cc
    result_fit (Some o) is typed among ready out d e bound_d in_it =
        subst (λ (z : tree.Output). AllFit w s members (also_if z.variable (with_params routine.params nothing_seen)) (numbered_list routine.postconditions (length before + exprs_in_list routine.preconditions)) (set_if (bound routine.params vs (unset routine.variables)) z.variable (Some d))) (same_out o out e)
        (last_fit t.behind (also_if o.variable (with_params routine.params nothing_seen)) (set_if (bound routine.params vs (unset routine.variables)) o.variable (Some d))
        (with_named o.at o.ty o.variable t.behind d among.1 bound_d ((read core flow members h d bound_d o.ty among.0).in_high (subst (λ (z : tree.Output). is_in members z.ty d ≡ true) (sym (same_out o out e)) in_it)) typed) t.postconditions ready) where
          same_out : (a b : tree.Output) → ◌≡◌ {A = Option tree.Output} (Some a) (Some b) → a ≡ b
          same_out a b q = cc

    nothing_fit : (o : Option tree.Output) → o ≡ None → WithResult names t.entry o (Gives t.behind) → ClausesReady r n (with_result o (with_params routine.params nothing_seen)) routine.postconditions
        → AllFit w s members (with_params routine.params nothing_seen) (numbered_list routine.postconditions (length before + exprs_in_list routine.preconditions)) (bound routine.params vs (unset routine.variables))
    nothing_fit None e typed ready =
        last_fit t.behind (with_params routine.params nothing_seen) (bound routine.params vs (unset routine.variables))
        (subst (λ (env : Environment). Typed names n env (with_params routine.params nothing_seen) (bound routine.params vs (unset routine.variables))) (sym (given_is t.behind t.entry typed)) at_entry) t.postconditions ready
    nothing_fit (Some o) e typed ready = absurd (some_none o e) where
      some_none : (o : tree.Output) → ◌≡◌ {A = Option tree.Output} (Some o) None → ⊥
      some_none o e = absurd cc

    result_written : (o : Option tree.Output) → ResultAmong n o → (out : tree.Output) → o ≡ Some out → IsWritten out.ty
    result_written None among out e = absurd (none_some out e) where
      none_some : (out : tree.Output) → ◌≡◌ {A = Option tree.Output} None (Some out) → ⊥
      none_some out e = absurd cc
    result_written (Some o) among out e = subst (λ (z : tree.Output). IsWritten z.ty) (same_out o out e) among.0 where
      same_out : (a b : tree.Output) → ◌≡◌ {A = Option tree.Output} (Some a) (Some b) → a ≡ b
      same_out a b q = cc

    contract_fits : ClausesFit w s members (numbered_routine routine (length before)) vs
    contract_fits = record {
      first = fit n t.entry routine.preconditions before t.first (with_params routine.params nothing_seen) (bound routine.params vs (unset routine.variables)) at_entry t.preconditions first_begins t.first_ready;
      last = λ out d is bound_d in_it. result_fit routine.result refl t.result t.result_among t.last_ready out d is bound_d in_it;
      none = λ is. nothing_fit routine.result is t.result t.last_ready;
      written = λ out is. result_written routine.result t.result_among out is;
    }

pub contracts_fit : ContractsFit
contracts_fit = record {
  arguments = λ core flow members h n ps vs len among bounded inside. arguments_fit core flow members h n ps vs len among bounded inside;
  clauses = λ core flow members h r source w tells routine before t vs len bounded inside. contract_fits core flow members h r source w tells routine before t vs len bounded inside;
}
