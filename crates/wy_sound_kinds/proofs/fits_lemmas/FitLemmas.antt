-- Clauses that are typed fit.
use Rattle.std.proofs.Common.{◌≡◌, ℕ, ◌+◌, List, [], ◌∷◌, length, Bool, true, false, refl, sym, ap, ◌∙◌, subst}
use Rattle.wy_lemmas.proofs.Choices.{no_call}
use Rattle.wy_value.specs.Datum.{Datum}
use Rattle.wy_core.specs.Types.{Ty}
use Rattle.wy_core.specs.CoreTree.{Expr, NullExpr, BoolExpr, IntExpr, VarExpr, CallExpr, NegExpr, NotExpr, LenExpr, BinaryExpr, IsExpr, IndexExpr, FieldExpr, ListExpr, RepeatExpr, RecordExpr, QuantExpr, Exprs, NoExprs, MoreExprs, Fields, NoFields, MoreFields}
use Rattle.wy_flow_spec.specs.environment.Variables.{Environment}
use Rattle.wy_flow_spec.specs.typing.Outcomes.{Gives}
use Rattle.wy_flow_spec.specs.typing.Contexts.{Program, Found}
use Rattle.wy_flow_spec.specs.typing.Expressions.{TypedExpr}
use Rattle.wy_flow_spec.specs.typing.Loops.{ClausesTyped}
use Rattle.wy_sound_walks.specs.wy_sem.Meter.{Meter}
use Rattle.wy_sound_walks.specs.wy_sem.Expressions as sem
use Rattle.wy_sound_walks.specs.wy_vc_spec.Sizes.{exprs_in}
use Rattle.wy_sound_walks.specs.wy_vc_spec.Numbered.{Node, numbered, numbered_all, numbered_fields, numbered_list}
use Rattle.wy_sound_walks.specs.wy_vc_spec.Values.{Setting}
use Rattle.wy_sound_walks.specs.expressions.Types.{is_in}
use Rattle.wy_sound_walks.specs.expressions.Suits.{Suits}
use Rattle.wy_sound_walks.specs.expressions.Laws.{kinds_of}
use Rattle.wy_sound_walks.specs.clauses.Quiet.{CallsNothing, AllCallNothing, FieldsCallNothing}
use Rattle.wy_sound_walks.specs.clauses.Clauses.{AllFit}
use Rattle.wy_sound_kinds.proofs.frames_lemmas.EveryLemmas.{every_of}
use Rattle.wy_sound_kinds.specs.Ready.{Rules, Ready, AllReady, FieldsReady}
use Rattle.wy_sound_kinds.specs.Kinds.{HasValues, HasTypes, Kind, Rests}
use Rattle.wy_sound_kinds.proofs.TypeLemmas.{then_gives, given_is}
use Rattle.wy_sound_kinds.proofs.KindLemmas.{kind}
use Rattle.wy_sound_kinds.specs.suits.Laws.{Begins, Asks, TellsNumbers}
use Rattle.wy_sound_kinds.proofs.suits_lemmas.FlowLemmas.{begins_self, begins_more, flow_of, flow_length, flow_begins}
use Rattle.wy_sound_kinds.proofs.suits_lemmas.KindLemmas.{truth_in}
use Rattle.wy_sound_kinds.proofs.suits_lemmas.SuitLemmas.{contracts_suit}
use Rattle.wy_sound_kinds.specs.fits.Fit.{ClausesReady, TypedClausesFit}

-- where nothing may be called, nothing is
mutual
  pub quiet : (r : Rules) (n : ℕ) (seen : ℕ → Bool) (e : Expr ℕ) (k : ℕ) → Ready r true n seen e → CallsNothing (numbered e k)
  quiet r n seen (NullExpr at) k h = tt
  quiet r n seen (BoolExpr at b) k h = tt
  quiet r n seen (IntExpr at z) k h = tt
  quiet r n seen (VarExpr at x) k h = tt
  quiet r n seen (CallExpr at f es) k h = no_call h.0
  quiet r n seen (NegExpr at a) k h = quiet r n seen a k h
  quiet r n seen (NotExpr at a) k h = quiet r n seen a k h
  quiet r n seen (LenExpr at a) k h = quiet r n seen a k h
  quiet r n seen (BinaryExpr at o a b) k h = (quiet r n seen a k h.0, quiet r n seen b (k + exprs_in a) h.1)
  quiet r n seen (IsExpr at a t) k h = quiet r n seen a k h.1
  quiet r n seen (IndexExpr at a b) k h = (quiet r n seen a k h.0, quiet r n seen b (k + exprs_in a) h.1)
  quiet r n seen (FieldExpr at a name) k h = quiet r n seen a k h
  quiet r n seen (ListExpr at es) k h = all_quiet r n seen es k h.1
  quiet r n seen (RepeatExpr at a b) k h = (quiet r n seen a k h.0, quiet r n seen b (k + exprs_in a) h.1)
  quiet r n seen (RecordExpr at fs) k h = fields_quiet r n seen fs k h.1
  quiet r n seen (QuantExpr at all x a b body) k h = (quiet r n seen a k h.1, quiet r n seen b (k + exprs_in a) h.2, quiet r n _ body (k + exprs_in a + exprs_in b) h.3)

  all_quiet : (r : Rules) (n : ℕ) (seen : ℕ → Bool) (es : Exprs ℕ) (k : ℕ) → AllReady r true n seen es → AllCallNothing (numbered_all es k)
  all_quiet r n seen NoExprs k h = tt
  all_quiet r n seen (MoreExprs e es) k h = (quiet r n seen e k h.0, all_quiet r n seen es (k + exprs_in e) h.1)

  fields_quiet : (r : Rules) (n : ℕ) (seen : ℕ → Bool) (fs : Fields ℕ) (k : ℕ) → FieldsReady r true n seen fs → FieldsCallNothing (numbered_fields fs k)
  fields_quiet r n seen NoFields k h = tt
  fields_quiet r n seen (MoreFields name e fs) k h = (quiet r n seen e k h.0, fields_quiet r n seen fs (k + exprs_in e) h.1)

module _ (p : Program) (r : Rules) (w : sem.Setting Node) (conditions : Setting Node) (members : ℕ → Datum → Bool) (rests : Rests p r (sem.quiet w) false (is_in members)) (asks : Asks r (sem.quiet w) false (is_in members)) (whole : List Ty) (tells : TellsNumbers conditions.is_number whole)
    (env : Environment) (reached : env.reached ≡ true) (seen : ℕ → Bool) (s : sem.Store) (values : HasValues seen s) (types : HasTypes p.names env [] seen s) where
  abbrev Suited : Expr ℕ → ℕ → Type 0
  Suited e k = Suits (kinds_of (sem.quiet w) false conditions members) true seen (numbered e k) s

  -- the types behind clauses begin with those before them
  clauses_begin : (es : List (Expr ℕ)) (flow out : List Ty) → ClausesTyped p env es flow (Gives out) → Begins flow out
  clauses_begin [] flow out h = subst (λ (l : List Ty). Begins flow l) (sym (given_is out flow h)) (begins_self flow)
  clauses_begin (e ∷ es) flow out h =
      let t = then_gives _ _ out h in
      let t2 = then_gives _ _ t.0 t.1 in
      let t3 = then_gives _ _ t2.0 t2.1 in
      let t4 = then_gives _ _ t2.0 t3.2 in
      let here = flow_begins e flow t3.0 (flow_of p env e [] flow t3.0 t3.1) in
      let same : t.0 ≡ t3.0.flow = given_is t.0 t2.0.flow t2.2 ∙ ap (λ (v : Found). v.flow) (given_is t2.0 t3.0 t4.2) in
      begins_more flow t.0 out (subst (λ (l : List Ty). Begins flow l) (sym same) here) (clauses_begin es t.0 out t.2)

  fit : (es : List (Expr ℕ)) (k : ℕ) (flow out : List Ty) → k ≡ length flow → ClausesTyped p env es flow (Gives out) → Begins out whole → ClausesReady r (length s) seen es → AllFit w conditions members seen (numbered_list es k) s
  fit [] k flow out is h b ready = tt
  fit (e ∷ es) k flow out is h b ready =
      let t = then_gives _ _ out h in
      let t2 = then_gives _ _ t.0 t.1 in
      let t3 = then_gives _ _ t2.0 t2.1 in
      let t4 = then_gives _ _ t2.0 t3.2 in
      let at_flow = flow_of p env e [] flow t3.0 t3.1 in
      let same : t.0 ≡ t3.0.flow = given_is t.0 t2.0.flow t2.2 ∙ ap (λ (v : Found). v.flow) (given_is t2.0 t3.0 t4.2) in
      let rest : Begins t.0 whole = begins_more t.0 out whole (clauses_begin es t.0 out t.2) b in
      let here : Begins t3.0.flow whole = subst (λ (l : List Ty). Begins l whole) same rest in
      let next : k + exprs_in e ≡ length t.0 = ap (λ (n : ℕ). n + exprs_in e) is ∙ (sym (flow_length e flow t3.0 at_flow) ∙ ap (λ (l : List Ty). length l) (sym same)) in (
        record {
          quiet = quiet r (length s) seen e k ready.0;
          suits = subst (λ (n : ℕ). Suited e n) (sym is) (contracts_suit p r (sem.quiet w) false conditions members rests asks whole tells env reached e [] flow t3.0 seen s t3.1 here ready.0 values types);
          truth = λ d m j q. truth_in p.names d (t4.1.1 d (every_of (sem.eval (sem.quiet w) false (numbered e k) s m) (Kind p.names env [] seen s t3.0) (kind p r (sem.quiet w) false (is_in members) rests env reached true seen s values e k [] flow t3.0 t3.1 ready.0 types m) d j q).inside);
        },
        fit es (k + exprs_in e) t.0 out next t.2 b ready.1,
      )

pub clauses_fit : TypedClausesFit
clauses_fit p r w conditions members rests asks whole tells env reached es flow out seen s t b ready values types =
    fit p r w conditions members rests asks whole tells env reached seen s values types es (length flow) flow out refl t b ready
