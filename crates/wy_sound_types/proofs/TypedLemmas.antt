-- What the clauses of types meet is of the kinds that they ask for.
use Rattle.std.proofs.Common.{◌≡◌, ◌<◌, ◌≤◌, ◌⊎◌, inl, inr, ℕ, zero, suc, ◌+◌, ◌==◌, ◌||◌, List, [], ◌∷◌, length, Bool, true, false, Option, Some, None, refl, sym, ap, ◌∙◌, subst, arith, eqb-true}
use Rattle.std.proofs.lemmas.Bool.{cases_lt}
use Rattle.wy_sem.proofs.SharedLemmas.{alias_past, unset_length}
use Rattle.wy_lemmas.proofs.Options.{some_same as same_some}
use Rattle.wy_value.specs.Datum.{Datum}
use Rattle.wy_core.specs.Types.{Ty}
use Rattle.wy_core.specs.CoreTree.{Expr, Alias, Core}
use Rattle.wy_core.specs.formed.Offers.{offers_of}
use Rattle.wy_types.specs.Names.{Declared, names_in, Up}
use Rattle.wy_sound_statements.specs.wy_flow_spec.environment.Slots.{slot_at, put_slot}
use Rattle.wy_sound_statements.specs.wy_flow_spec.environment.Variables.{Environment, nothing_known, or_void, given, type_of}
use Rattle.wy_sound_statements.specs.wy_flow_spec.typing.Outcomes.{Gives}
use Rattle.wy_sound_statements.specs.wy_flow_spec.typing.Contexts.{Program, Found}
use Rattle.wy_sound_statements.specs.wy_flow_spec.typing.Loops.{ClausesTyped}
use Rattle.wy_sound_statements.specs.wy_flow_spec.typing.Programs.{program_of, AliasTyped}
use Rattle.wy_sem.specs.Meter.{Meter, Done}
use Rattle.wy_sem.specs.Expressions as sem
use Rattle.wy_sem.specs.Expressions.{slot, put}
use Rattle.wy_sem.specs.TypeTests.{alias_at, unset}
use Rattle.wy_sound_statements.specs.wy_vc_spec.Sizes.{exprs_in, exprs_in_list}
use Rattle.wy_sound_statements.specs.wy_vc_spec.Numbered.{Node, numbered, numbered_list}
use Rattle.wy_sound_statements.specs.wy_vc_spec.Values.{Setting}
use Rattle.wy_sound_statements.proofs.wy_types_laws_proofs.parts_lemmas.NormLemmas.{norms_same}
use Rattle.wy_sound_statements.specs.wy_sound_walks.expressions.Names.{also}
use Rattle.wy_sound_statements.specs.wy_sound_walks.expressions.Types.{is_in}
use Rattle.wy_sound_statements.specs.wy_sound_walks.expressions.Written.{IsWritten}
use Rattle.wy_sound_statements.specs.wy_sound_walks.expressions.Suits.{Suits}
use Rattle.wy_sound_statements.specs.wy_sound_walks.expressions.Laws.{kinds_of}
use Rattle.wy_sound_statements.proofs.wy_sound_kinds_proofs.frames_lemmas.EveryLemmas.{every_of}
use Rattle.wy_sound_statements.specs.wy_sound_kinds.Bounded.{IsBounded}
use Rattle.wy_sound_statements.specs.wy_sound_kinds.Ready.{Rules}
use Rattle.wy_sound_statements.specs.wy_sound_kinds.Kinds.{HasValues, HasTypes, Kind, Rests}
use Rattle.wy_sound_statements.proofs.wy_sound_kinds_proofs.TypeLemmas.{then_gives, given_is, put_same, put_length}
use Rattle.wy_sound_statements.proofs.wy_sound_kinds_proofs.KindLemmas.{kind}
use Rattle.wy_sound_statements.specs.wy_sound_kinds.suits.Laws.{Begins, Asks, TellsNumbers}
use Rattle.wy_sound_statements.proofs.wy_sound_kinds_proofs.suits_lemmas.FlowLemmas.{FlowAll, begins_self, begins_more, flow_of, flow_length, flow_begins}
use Rattle.wy_sound_statements.proofs.wy_sound_kinds_proofs.suits_lemmas.KindLemmas.{truth_in}
use Rattle.wy_sound_statements.proofs.wy_sound_kinds_proofs.suits_lemmas.SuitLemmas.{contracts_suit}
use Rattle.wy_sound_statements.specs.wy_sound_kinds.fits.Fit.{ClausesReady}
use Rattle.wy_sound_statements.proofs.wy_sound_kinds_proofs.fits_lemmas.FitLemmas.{quiet}
use Rattle.wy_sound_types.specs.Tests.{TestsTell, ClausesMeet, no_variable, setting_to}
use Rattle.wy_sound_types.specs.members.Laws.{told_by}
use Rattle.wy_sound_types.specs.Laws.{TypesMeet}
use Rattle.wy_sound_types.specs.Typed.{TypedAlias, AliasesTyped, AliasesReady, ClausesOfTypesMeet}
use Rattle.wy_sound_types.proofs.members_lemmas.ToldLemmas.{alias_written}
use Rattle.wy_sound_types.proofs.RestLemmas.{read, ordered, rests, asks}

-- ---- clauses

-- the types behind clauses begin with those before them, and are as many more as there are expressions
pub clauses_flow : (p : Program) (env : Environment) (es : List (Expr ℕ)) (flow out : List Ty) → ClausesTyped p env es flow (Gives out) → FlowAll (exprs_in_list es) flow out
clauses_flow p env [] flow out h = subst (λ (l : List Ty). FlowAll 0 flow l) (sym (given_is out flow h)) (record { counted = omega arith; begins = begins_self flow })
clauses_flow p env (e ∷ es) flow out h =
    let t = then_gives _ _ out h in
    let t2 = then_gives _ _ t.0 t.1 in
    let t3 = then_gives _ _ t2.0 t2.1 in
    let t4 = then_gives _ _ t2.0 t3.2 in
    let at_flow = flow_of p env e [] flow t3.0 t3.1 in
    let same : t.0 ≡ t3.0.flow = given_is t.0 t2.0.flow t2.2 ∙ ap (λ (v : Found). v.flow) (given_is t2.0 t3.0 t4.2) in
    let one : length t.0 ≡ length flow + exprs_in e = ap (λ (l : List Ty). length l) same ∙ flow_length e flow t3.0 at_flow in
    let rest = clauses_flow p env es t.0 out t.2 in
    let more = rest.counted in
    record { counted = omega (arith, one, more); begins = begins_more flow t.0 out (subst (λ (l : List Ty). Begins flow l) (sym same) (flow_begins e flow t3.0 at_flow)) rest.begins }

module _ (p : Program) (r : Rules) (w : sem.Setting Node) (paid : Bool) (conditions : Setting Node) (members : ℕ → Datum → Bool) (resting : Rests p r w paid (is_in members)) (asking : Asks r w paid (is_in members)) (whole : List Ty) (tells : TellsNumbers conditions.is_number whole)
    (env : Environment) (reached : env.reached ≡ true) (seen : ℕ → Bool) (s : sem.Store) (values : HasValues seen s) (types : HasTypes p.names env [] seen s) where
  abbrev Suited : Expr ℕ → ℕ → Type 0
  Suited e k = Suits (kinds_of w paid conditions members) true seen (numbered e k) s

  pub clauses_meet : (es : List (Expr ℕ)) (k : ℕ) (flow out : List Ty) → k ≡ length flow → ClausesTyped p env es flow (Gives out) → Begins out whole → ClausesReady r (length s) seen es → ClausesMeet w paid conditions members seen s (numbered_list es k)
  clauses_meet [] k flow out is h b ready = tt
  clauses_meet (e ∷ es) k flow out is h b ready =
      let t = then_gives _ _ out h in
      let t2 = then_gives _ _ t.0 t.1 in
      let t3 = then_gives _ _ t2.0 t2.1 in
      let t4 = then_gives _ _ t2.0 t3.2 in
      let at_flow = flow_of p env e [] flow t3.0 t3.1 in
      let same : t.0 ≡ t3.0.flow = given_is t.0 t2.0.flow t2.2 ∙ ap (λ (v : Found). v.flow) (given_is t2.0 t3.0 t4.2) in
      let rest : Begins t.0 whole = begins_more t.0 out whole (clauses_flow p env es t.0 out t.2).begins b in
      let here : Begins t3.0.flow whole = subst (λ (l : List Ty). Begins l whole) same rest in
      let next : k + exprs_in e ≡ length t.0 = ap (λ (n : ℕ). n + exprs_in e) is ∙ (sym (flow_length e flow t3.0 at_flow) ∙ ap (λ (l : List Ty). length l) (sym same)) in (
        record {
          quiet = quiet r (length s) seen e k ready.0;
          suits = subst (λ (n : ℕ). Suited e n) (sym is) (contracts_suit p r w paid conditions members resting asking whole tells env reached e [] flow t3.0 seen s t3.1 here ready.0 values types);
          truth = λ d m j q. truth_in p.names d (t4.1.1 d (every_of (sem.eval w paid (numbered e k) s m) (Kind p.names env [] seen s t3.0) (kind p r w paid (is_in members) resting env reached true seen s values e k [] flow t3.0 t3.1 ready.0 types m) d j q).inside);
        },
        clauses_meet es (k + exprs_in e) t.0 out next t.2 b ready.1,
      )

-- ---- the variable of a type

pub slot_put : (slots : List (Option Ty)) (x : ℕ) (t : Ty) → slot_at (put_slot slots x t) x ≡ Some t
slot_put [] zero t = refl
slot_put [] (suc x) t = slot_put [] x t
slot_put (o ∷ slots) zero t = refl
slot_put (o ∷ slots) (suc x) t = slot_put slots x t

-- the one variable
only : (x y : ℕ) → also x no_variable y ≡ true → x ≡ y
only x y e = by (x == y) refl e where
  by : (b : Bool) → (x == y) ≡ b → (b || false) ≡ true → x ≡ y
  by true q h = eqb-true x y q
  by false q h = absurd cc

module _ (variables : List (List ℕ)) (x : ℕ) (lt : x < length variables) (d : Datum) where
  abbrev st : sem.Store
  st = put (unset variables) x (Some d)

  has_it : slot st x ≡ Some d
  has_it = let e = unset_length variables in put_same (unset variables) x (Some d) (omega (arith, lt, e))

  one_value : IsBounded d → HasValues (also x no_variable) st
  one_value b y see = subst (λ (z : ℕ). (e : Datum) × (slot st z ≡ Some e) × IsBounded e) (only x y see) (d, has_it, b)

  one_type : (names : List Declared) (made : Ty) → Up names d made ≡ true → HasTypes names (given nothing_known x made) [] (also x no_variable) st
  one_type names made up y e see q =
      let is : x ≡ y = only x y see in
      let same : d ≡ e = same_some d e (sym has_it ∙ (ap (slot st) is ∙ q)) in
      subst (λ (z : ℕ). Up names e (type_of (given nothing_known x made) [] z) ≡ true) is
      (ap (λ (o : Option Ty). Up names e (or_void o)) (slot_put [] x made) ∙ subst (λ (c : Datum). Up names c made ≡ true) same up)

  many : length st ≡ length variables
  many = put_length (unset variables) x (Some d) ∙ unset_length variables

-- ---- types

module _ (core : Core ℕ) (flow : List Ty) (members : ℕ → Datum → Bool) (h : TypesMeet core flow members) (typed : AliasesTyped core flow) (r : Rules) (source : (t : Ty) → r.tested t ≡ true → IsWritten t) (ready : AliasesReady r core)
    (w : sem.Setting Node) (paid : Bool) (tells : TestsTell members (w.test paid)) (silent : (f at : ℕ) (vs : List Datum) (d : Datum) (m k : Meter) → w.call f at vs m ≡ Done (Some d) k → ⊥) where
  abbrev s : Setting Node
  s = told_by core flow

  resting : Rests (program_of core) r w paid (is_in members)
  resting = rests core flow members h r source w paid tells (λ f at vs d m k are e. absurd (silent f at vs d m k e))

  asking : Asks r w paid (is_in members)
  asking = asks core flow members h r source w paid tells

  with_alias : (b : ℕ) (t : TypedAlias core flow b) (x : ℕ) → t.alias.variable ≡ Some x → (d : Datum) → IsBounded d → is_in members t.alias.ty d ≡ true → IsWritten t.alias.ty
      → ClausesMeet w paid s members (also x no_variable) (put (unset t.alias.variables) x (Some d)) (numbered_list t.alias.clauses (length t.before))
  with_alias b t x is d bounded inside written =
      let own = ready b x t.alias t.stands is in
      let types = then_gives _ _ t.behind (subst (λ (o : Option ℕ). AliasTyped (program_of core) t.alias t.before o (Gives t.behind)) is t.typed) in
      let made = then_gives _ _ types.0 types.1 in
      let env : types.0 ≡ given nothing_known x made.0 = given_is types.0 (given nothing_known x made.0) made.2 in
      let clauses : ClausesTyped (program_of core) (given nothing_known x made.0) t.alias.clauses t.before (Gives t.behind) = subst (λ (e : Environment). ClausesTyped (program_of core) e t.alias.clauses t.before (Gives t.behind)) env types.2 in
      let up : Up (names_in core) d t.alias.ty ≡ true = (read core flow members h d bounded t.alias.ty written).in_high inside in
      let normal : Up (names_in core) d made.0 ≡ true = norms_same (names_in core) (ordered core flow members h) t.alias.ty made.0 made.1.1 d ∙ up in
      clauses_meet (program_of core) r w paid s members resting asking flow (λ k. refl) (given nothing_known x made.0) refl (also x no_variable) (put (unset t.alias.variables) x (Some d))
      (one_value t.alias.variables x own.0 d bounded) (one_type t.alias.variables x own.0 d (names_in core) made.0 normal) t.alias.clauses (length t.before) t.before t.behind refl clauses t.begins
      (subst (λ (n : ℕ). ClausesReady r n (also x no_variable) t.alias.clauses) (sym (many t.alias.variables x own.0 d)) own.1)

  each_alias : (b x : ℕ) → (alias_at s.types b).variable ≡ Some x → (d : Datum) → IsBounded d → is_in members (alias_at s.types b).ty d ≡ true
      → ClausesMeet w paid s members (also x no_variable) (put (unset (alias_at s.types b).variables) x (Some d)) (alias_at s.types b).clauses
  each_alias b x is d bounded inside = by (cases_lt b (length s.types)) where
    past_none : length s.types ≤ b → ◌≡◌ {A = Option ℕ} None (Some x)
    past_none past = ap (λ (a : Alias Node). a.variable) (sym (alias_past s.types b past)) ∙ is

    none_some : ◌≡◌ {A = Option ℕ} None (Some x) → ⊥
    none_some e = absurd cc

    by : (b < length s.types) ⊎ (length s.types ≤ b) → ClausesMeet w paid s members (also x no_variable) (put (unset (alias_at s.types b).variables) x (Some d)) (alias_at s.types b).clauses
    by (inl less) =
        let t = typed b less in
        subst (λ (a : Alias Node). ClausesMeet w paid s members (also x no_variable) (put (unset a.variables) x (Some d)) a.clauses) (sym t.is)
        (with_alias b t x (subst (λ (a : Alias Node). a.variable ≡ Some x) t.is is) d bounded (subst (λ (a : Alias Node). is_in members a.ty d ≡ true) t.is inside)
        (subst (λ (a : Alias Node). IsWritten a.ty) t.is (alias_written (offers_of core) core h.bound 0 b).ty))
    by (inr past) = absurd (none_some (past_none past))

pub no_answer : (f at : ℕ) (vs : List Datum) (d : Datum) (m k : Meter) → sem.no_calls f at vs m ≡ Done (Some d) k → ⊥
no_answer f at vs d m k e = absurd cc

pub clauses_of_types_meet : ClausesOfTypesMeet
clauses_of_types_meet core flow members h typed r source ready place limit depth paid tells b x is d bounded inside =
    each_alias core flow members h typed r source ready (setting_to place limit (told_by core flow).types depth) paid tells no_answer b x is d bounded inside
