-- Values of typed expressions, and clauses, at a store in which marked variables have values of their types.
use Rattle.std.proofs.Common.{◌≡◌, ℕ, List, [], length, Bool, true, false, Some, refl, sym, ◌∙◌, subst}
use Rattle.wy_value.specs.Datum.{Datum, Truth}
use Rattle.wy_core.specs.Types.{Ty}
use Rattle.wy_core.specs.CoreTree.{Expr}
use Rattle.wy_term.specs.declared.cond.CondKind.TheVariants as kind
use Rattle.wy_types.specs.Names.{Declared, Up}
use Rattle.wy_sound_statements.specs.wy_flow_spec.environment.Variables.{Environment}
use Rattle.wy_sound_statements.specs.wy_flow_spec.typing.Outcomes.{Gives}
use Rattle.wy_sound_statements.specs.wy_flow_spec.typing.Contexts.{Program, Found}
use Rattle.wy_sound_statements.specs.wy_flow_spec.typing.Expressions.{TypedExpr}
use Rattle.wy_sound_statements.specs.wy_flow_spec.typing.Loops.{ClausesTyped}
use Rattle.wy_sem.specs.Meter.{Meter, Outcome, Done, Fault, More, Spent, ◌>>=◌, check}
use Rattle.wy_sem.specs.Operations.{as_truth}
use Rattle.wy_sem.specs.Expressions as sem
use Rattle.wy_sem.specs.Expressions.{Store, put}
use Rattle.wy_sem.specs.TypeTests.{is_constrained}
use Rattle.wy_sem.specs.Statements as run
use Rattle.wy_sem.specs.Statements.{Exit, Went, Frame, type_at}
use Rattle.wy_vc_spec.specs.Numbered.{Node, numbered, numbered_list}
use Rattle.wy_vc_spec.specs.Statements.{Body}
use Rattle.wy_sound_statements.specs.wy_sound_walks.expressions.Types.{is_in}
use Rattle.wy_sound_statements.specs.wy_sound_walks.expressions.Suits.{Kinds, Each, Suits, Answers}
use Rattle.wy_sound_statements.specs.wy_sound_walks.clauses.Clauses.{AllFit}
use Rattle.wy_sound_statements.proofs.wy_sound_kinds_proofs.frames_lemmas.EveryLemmas.{Every, every_bind, every_told, every_of, every_check, every_truth}
use Rattle.wy_sound_statements.specs.wy_sound_kinds.Bounded.{IsBounded}
use Rattle.wy_sound_statements.specs.wy_sound_kinds.Ready.{Rules, Ready}
use Rattle.wy_sound_statements.specs.wy_sound_kinds.Kinds.{Kind}
use Rattle.wy_sound_statements.proofs.wy_sound_kinds_proofs.KindLemmas.{kind as kind_of}
use Rattle.wy_sound_statements.specs.wy_sound_kinds.suits.Laws.{Begins}
use Rattle.wy_sound_statements.proofs.wy_sound_kinds_proofs.suits_lemmas.SuitLemmas.{suits}
use Rattle.wy_sound_statements.specs.wy_sound_kinds.fits.Fit.{ClausesReady}
use Rattle.wy_sound_statements.proofs.wy_sound_kinds_proofs.fits_lemmas.FitLemmas.{clauses_fit}
use Rattle.wy_sound_statements.specs.StatementSuits.{IsFree}
use Rattle.wy_sound_statements.specs.Ends.{frame_at, code_kinds}
use Rattle.wy_sound_programs.specs.Typed.{Setting, Grounds, Holds}

every_answer : (v : Bool) (o : Outcome Bool) → Answers v o → Every o (λ r. r ≡ true → v ≡ true)
every_answer v (Done r i) h = λ y. sym h ∙ y
every_answer v (Fault kind at i) h = absurd h
every_answer v (More i) h = tt
every_answer v Spent h = tt

-- clauses are ready where a store has so many variables
clauses_ready : (r : Rules) (n m : ℕ) (seen : ℕ → Bool) (es : List (Expr ℕ)) → n ≡ m → ClausesReady r n seen es → ClausesReady r m seen es
clauses_ready r n m seen es e h = subst (λ (i : ℕ). ClausesReady r i seen es) e h

module _ (c : Setting) (g : Grounds c) where
  abbrev p : Program
  p = c.program

  abbrev names : List Declared
  names = c.program.names

  abbrev b : Body Node
  b = c.body

  abbrev w : sem.Setting Node
  w = c.evaluation

  abbrev fr : Frame Node
  fr = frame_at c.body c.owed c.arguments

  abbrev W : Kinds Node
  W = code_kinds c.evaluation c.body c.members c.in_expressions

  abbrev H : Environment → (ℕ → Bool) → Store → Type 0
  H = Holds c.program.names c.body.types c.members c.allowed.many

  -- ---- values

  pub value : (e : Expr ℕ) (k : ℕ) (env : Environment) (flow : List Ty) (u : Found) (seen : ℕ → Bool) (s : Store) → env.reached ≡ true → TypedExpr c.program env e [] flow (Gives u) → Ready c.allowed.rules false c.allowed.many seen e → H env seen s
      → (m : Meter) → Every (sem.eval c.evaluation true (numbered e k) s m) (Kind c.program.names env [] seen s u)
  value e k env flow u seen s reached t ready h m =
      kind_of p c.allowed.rules w true (is_in c.members) g.code env reached false seen s h.values e k [] flow u t (subst (λ (n : ℕ). Ready c.allowed.rules false n seen e) (sym h.size) ready) h.typed m

  pub quiet_value : (e : Expr ℕ) (k : ℕ) (env : Environment) (flow : List Ty) (u : Found) (seen : ℕ → Bool) (s : Store) → env.reached ≡ true → TypedExpr p env e [] flow (Gives u) → Ready c.allowed.rules true c.allowed.many seen e → H env seen s
      → (m : Meter) → Every (sem.eval (sem.quiet w) false (numbered e k) s m) (Kind names env [] seen s u)
  quiet_value e k env flow u seen s reached t ready h m =
      kind_of p c.allowed.rules (sem.quiet w) false (is_in c.members) g.contract env reached true seen s h.values e k [] flow u t (subst (λ (n : ℕ). Ready c.allowed.rules true n seen e) (sym h.size) ready) h.typed m

  -- what a test gives
  pub truth_of : (o : Outcome Datum) (at : ℕ) (env : Environment) (seen : ℕ → Bool) (s : Store) (u : Found) → Every o (Kind names env [] seen s u) → Every (o >>= (λ v. as_truth at v Done)) (λ r. Kind names env [] seen s u (Truth r))
  truth_of o at env seen s u h =
      every_bind o (λ v. as_truth at v Done) (Kind names env [] seen s u) (λ r. Kind names env [] seen s u (Truth r)) h
      (λ d l e kd. every_truth at d Done l (λ r. Kind names env [] seen s u (Truth r)) (λ r is. subst (Kind names env [] seen s u) is kd))

  -- a value of a declared type
  pub free_at : (x : ℕ) (t : Ty) (d : Datum) → type_at c.body.types x ≡ t → IsBounded d → Up c.program.names d t ≡ true → IsFree c.body c.members t d
  free_at x t d is bounded up = (
    bounded,
    subst (λ (u : Ty). Up c.program.names d u ≡ true → is_constrained c.body.program.setting.types u ≡ false → is_in c.members u d ≡ true) is (g.free x d bounded) up,
  )

  owed_says : (t : Ty) (d : Datum) (m : Meter) → IsFree b c.members t d → Every (c.owed t d m) (λ r. r ≡ true → is_in c.members t d ≡ true)
  owed_says t d m free = by (is_constrained b.program.setting.types t) refl where
    by : (y : Bool) → is_constrained b.program.setting.types t ≡ y → Every (c.owed t d m) (λ r. r ≡ true → is_in c.members t d ≡ true)
    by true q = every_answer (is_in c.members t d) (c.owed t d m) (g.checks.asked t d m free.0 q)
    by false q = every_told (c.owed t d m) (λ r. r ≡ true → is_in c.members t d ≡ true) (λ r i e y. free.1 q)

  -- a value that is stored is in its type
  pub stored_in : (at x : ℕ) (t : Ty) (s : Store) (d : Datum) (m : Meter) (P : Exit → Type 0) → IsFree b c.members t d → (is_in c.members t d ≡ true → P (Went (put s x (Some d)))) → Every (run.stored fr at x t s d m) P
  stored_in at x t s d m P free h =
      every_bind (c.owed t d m) (λ r. check r kind.Member at (Done (Went (put s x (Some d))))) (λ r. r ≡ true → is_in c.members t d ≡ true) P (owed_says t d m free)
      (λ r i e on. every_check r kind.Member at (Done (Went (put s x (Some d)))) i P (λ q. h (on q)))

  -- ---- what they meet

  pub value_suits : (e : Expr ℕ) (k : ℕ) (env : Environment) (flow : List Ty) (u : Found) (seen : ℕ → Bool) (s : Store) → k ≡ length flow → env.reached ≡ true → TypedExpr p env e [] flow (Gives u) → Begins u.flow c.flow → Ready c.allowed.rules false c.allowed.many seen e → H env seen s
      → Suits W false seen (numbered e k) s
  value_suits e k env flow u seen s is reached t begins ready h =
      suits p c.allowed.rules c.evaluation true (is_in c.members) g.code g.code_asks c.body.program.setting.is_number c.flow g.tells env reached (λ f vs. c.in_expressions f vs ≡ true) e k [] flow u false seen s is t begins
      (subst (λ (n : ℕ). Ready c.allowed.rules false n seen e) (sym h.size) ready) (λ none f vs these. g.taken f vs these) h.values h.typed

  pub each_value : (e : Expr ℕ) (k : ℕ) (env : Environment) (flow : List Ty) (u : Found) (seen : ℕ → Bool) (s : Store) → env.reached ≡ true → TypedExpr p env e [] flow (Gives u) → Ready c.allowed.rules false c.allowed.many seen e → H env seen s → Each W (numbered e k) s (Kind p.names env [] seen s u)
  each_value e k env flow u seen s reached t ready h d m j eq = every_of (sem.eval c.evaluation true (numbered e k) s m) (Kind p.names env [] seen s u) (value e k env flow u seen s reached t ready h m) d j eq

  -- clauses at a store
  pub all_fit : (env : Environment) (es : List (Expr ℕ)) (k : ℕ) (flow out : List Ty) (seen : ℕ → Bool) (s : Store) → env.reached ≡ true → k ≡ length flow → ClausesTyped p env es flow (Gives out) → Begins out c.flow → ClausesReady c.allowed.rules c.allowed.many seen es → H env seen s
      → AllFit c.evaluation c.body.program.setting c.members seen (numbered_list es k) s
  all_fit env es k flow out seen s reached is t begins ready h =
      subst (λ (n : ℕ). AllFit c.evaluation c.body.program.setting c.members seen (numbered_list es n) s) (sym is)
      (clauses_fit p c.allowed.rules c.evaluation c.body.program.setting c.members g.contract g.contract_asks c.flow g.tells env reached es flow out seen s t begins (clauses_ready c.allowed.rules c.allowed.many (length s) seen es (sym h.size) ready) h.values h.typed)
