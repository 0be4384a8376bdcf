-- Calls are handled at each depth, since those in bodies nest less deep.
use Rattle.std.proofs.Common.{◌≡◌, ℕ, zero, suc, List, [], ◌∷◌, length, Bool, true, false, Option, Some, None, nat_eq, refl, sym, ap, ◌∙◌, subst}
use Rattle.std.specs.Fmt.{signed_decimal}
use Rattle.wy_value.specs.Datum.{Datum, Null, Truth, Whole, Array, Record, Data}
use Rattle.wy_core.specs.Types.{Ty}
use Rattle.wy_core.specs.CoreTree as tree
use Rattle.wy_core.specs.CoreTree.{Expr, Param, Routine, Core, aliases_of, routines_of}
use Rattle.wy_term.specs.declared.cond.CondKind.{CondKind}
use Rattle.wy_term.specs.declared.cond.CondKind.TheVariants as kind
use Rattle.wy_term.specs.Term.{Term}
use Rattle.wy_term.specs.Meaning.{Names}
use Rattle.wy_sem.specs.Meter.{Meter, Outcome, Done, Fault, More, Spent, Run, ◌>>=◌, tick, check}
use Rattle.wy_sem.specs.Operations.{as_truth}
use Rattle.wy_sem.specs.Expressions as sem
use Rattle.wy_sem.specs.TypeTests.{Test, is_constrained}
use Rattle.wy_sem.specs.Statements.{given, exec_all}
use Rattle.wy_sem.specs.Evaluation as run
use Rattle.wy_sem.specs.Evaluation.{Callee, Declared, Print, PrintInt, Undeclared, callee, entry_of, frame_of, result_of, owed_member, text_of, printed, routine_call, print_call, called}
use Rattle.wy_sound_statements.specs.wy_vc_spec.Numbered.{Node}
use Rattle.wy_sound_statements.specs.wy_vc_spec.Values.{Setting}
use Rattle.wy_sound_statements.specs.wy_vc_spec.Calls.{callee_walk, call_walk}
use Rattle.wy_sound_statements.specs.wy_vc_spec.Walks.{Program}
use Rattle.wy_sound_statements.specs.wy_sound_walks.expressions.Names.{Known, AllMean}
use Rattle.wy_sound_statements.specs.wy_sound_walks.expressions.Truth.{AreTrueBy, Good}
use Rattle.wy_sound_statements.specs.wy_sound_walks.expressions.Types.{is_in}
use Rattle.wy_sound_statements.specs.wy_sound_walks.expressions.Suits.{Answers}
use Rattle.wy_sound_statements.proofs.wy_sound_walks_proofs.expressions_lemmas.GoodLemmas.{good_weaken, good_spend}
use Rattle.wy_sound_statements.specs.wy_sound_walks.clauses.Clauses.{AllPass}
use Rattle.wy_sound_statements.specs.calls.CallLaws.{Checks, ComesAs, ArgumentsFit, ArgumentsIn, AreValues, Leaves, KeepsContract, Returned}
use Rattle.wy_sound_statements.proofs.calls_lemmas.CallLemmas.{calls_sound}
use Rattle.wy_sound_statements.proofs.calls_lemmas.PrintLemmas.{prints_sound}
use Rattle.wy_sound_types.specs.sound_routines.Entries.{ContractIsSafe}
use Rattle.wy_sound_types.specs.sound_routines.Depths.{setting_at, ResultIn, CallGives, Handled, Taken, AllTaken, CallsAreHandled}
use Rattle.wy_sound_types.proofs.sound_routines_lemmas.EntryLemmas.{entries_stand}
use Rattle.wy_sound_types.proofs.sound_routines_lemmas.ContractLemmas.{contracts_safe}

-- ---- runs that end with an answer

-- the run goes on at some meter, to the same end
abbrev GoesOn : {X : Type 0} → Run X → X → Meter → Type 0
GoesOn next x k = (m : Meter) × (next m ≡ Done x k)

bind_done : {X Y : Type 0} (o : Outcome X) (f : X → Run Y) (y : Y) (k : Meter) → (o >>= f) ≡ Done y k → (x : X) × (m : Meter) × (o ≡ Done x m) × (f x m ≡ Done y k)
bind_done (Done x m) f y k e = (x, m, refl, e)
bind_done (Fault kind at m) f y k e = absurd cc
bind_done (More m) f y k e = absurd cc
bind_done Spent f y k e = absurd cc

check_done : {X : Type 0} (b : Bool) (why : CondKind) (at : ℕ) (next : Run X) (x : X) (m k : Meter) → check b why at next m ≡ Done x k → (b ≡ true) × (next m ≡ Done x k)
check_done true why at next x m k e = (refl, e)
check_done false why at next x m k e = absurd cc

answer_is : (a b : Bool) (m : Meter) (o : Outcome Bool) → Answers a o → o ≡ Done b m → b ≡ a
answer_is a b m o h e = let here : Answers a (Done b m) = subst (Answers a) e h in here

module _ (s : Setting Node) (members : ℕ → Datum → Bool) (owed : Ty → Datum → Test) (checks : Checks s members owed) where
  -- a value that was given a type is of it
  given_done : {X : Type 0} (at : ℕ) (t : Ty) (d : Datum) (next : Run X) (x : X) (m k : Meter) → ComesAs s members t d → given owed at t d next m ≡ Done x k → (is_in members t d ≡ true) × GoesOn next x k
  given_done at t d next x m k comes e =
      let one = bind_done (owed t d m) (λ b. check b kind.Member at next) x k e in
      let two = check_done one.0 kind.Member at next x one.1 k one.3 in
      (by (is_constrained s.types t) refl one.0 one.1 two.0 one.2, (one.1, two.1)) where
        by : (c : Bool) → is_constrained s.types t ≡ c → (b : Bool) (l : Meter) → b ≡ true → owed t d m ≡ Done b l → is_in members t d ≡ true
        by true q b l holds o = sym (answer_is (is_in members t d) b l (owed t d m) (checks.asked t d m comes.0 q) o) ∙ holds
        by false q b l holds o = comes.1 q

  arguments_done : {X : Type 0} (at : ℕ) (ps : List Param) (vs : List Datum) (next : Run X) (x : X) (m k : Meter) → ArgumentsFit s members ps vs → run.arguments owed at ps vs next m ≡ Done x k → ArgumentsIn members ps vs × GoesOn next x k
  arguments_done at [] vs next x m k fit e = (tt, (m, e))
  arguments_done at (p ∷ ps) [] next x m k fit e = absurd fit
  arguments_done at (p ∷ ps) (v ∷ vs) next x m k fit e =
      let one = given_done at p.ty v (run.arguments owed at ps vs next) x m k fit.1 e in
      let rest = arguments_done at ps vs next x one.1.0 k fit.2 one.1.1 in
      ((one.0, rest.0), rest.1)

-- a clause that holds passed
truth_done : (at : ℕ) (v : Datum) (b : Bool) (m k : Meter) → as_truth at v Done m ≡ Done b k → v ≡ Truth b
truth_done at (Truth c) b m k e = let same : c ≡ b = cc in ap Truth same
truth_done at Null b m k e = absurd cc
truth_done at (Whole z) b m k e = absurd cc
truth_done at (Array ds) b m k e = absurd cc
truth_done at (Record fs) b m k e = absurd cc

clauses_done : {X : Type 0} (w : sem.Setting Node) (why : CondKind) (at : ℕ) (es : List (Expr Node)) (st : sem.Store) (next : Run X) (x : X) (m k : Meter) → sem.clauses w why at es st next m ≡ Done x k → AllPass w es st × GoesOn next x k
clauses_done w why at [] st next x m k e = (tt, (m, e))
clauses_done w why at (c ∷ cs) st next x m k e =
    let one = bind_done (sem.holds w c st m) (λ b. check b why at (sem.clauses w why at cs st next)) x k e in
    let two = check_done one.0 why at (sem.clauses w why at cs st next) x one.1 k one.3 in
    let inner = bind_done (sem.eval (sem.quiet w) false c st m) (λ v. as_truth (w.place (sem.node c)) v Done) one.0 one.1 one.2 in
    let value : inner.0 ≡ Truth true = truth_done (w.place (sem.node c)) inner.0 one.0 inner.1 one.1 inner.3 ∙ ap Truth two.0 in
    let rest = clauses_done w why at cs st next x one.1 k two.1 in
    (((m, inner.1, inner.2 ∙ ap (λ (v : Datum). Done v inner.1) value), rest.0), rest.1)

-- ---- a call of something declared

result_in : (w : sem.Setting Node) (s : Setting Node) (members : ℕ → Datum → Bool) (r : Routine Node) (vs : List Datum) (o : Option tree.Output) (v : Option Datum) → Leaves w s members r vs o v → ResultIn members o v
result_in w s members r vs None v l = l.0
result_in w s members r vs (Some out) None l = absurd l
result_in w s members r vs (Some out) (Some d) l = (l.0, l.1)

good_done : {X : Type 0} (o : Outcome X) (P : X → Type 0) (x : X) (k : Meter) → Good (Unit {0}) o P → o ≡ Done x k → P x
good_done o P x k g e = let here : Good (Unit {0}) (Done x k) P = subst (λ (q : Outcome _). Good (Unit {0}) q P) e g in here

routine_done : (w : sem.Setting Node) (s : Setting Node) (members : ℕ → Datum → Bool) (owed : Ty → Datum → Test) → Checks s members owed → (r : Routine Node) (at : ℕ) (vs : List Datum) (m k : Meter) (v : Option Datum)
    → ArgumentsFit s members r.params vs → KeepsContract w s members owed r vs → routine_call w owed r at vs m ≡ Done v k → ResultIn members r.result v
routine_done w s members owed checks r at vs m k v fit keeps e =
    let body : Run (Option Datum) = λ l. exec_all w (frame_of owed r vs) r.body (entry_of r vs) l >>= result_of w (frame_of owed r vs) r.at in
    let clauses : Run (Option Datum) = sem.clauses w kind.Requires at r.preconditions (entry_of r vs) body in
    let one = check_done (nat_eq (length vs) (length r.params)) kind.Member at (run.arguments owed at r.params vs clauses) v m k e in
    let two = arguments_done s members owed checks at r.params vs clauses v m k fit one.1 in
    let three = clauses_done w kind.Requires at r.preconditions (entry_of r vs) body v two.1.0 k two.1.1 in
    result_in w s members r vs r.result v (good_done (body three.1.0) (Leaves w s members r vs r.result) v k (keeps two.0 three.0 three.1.0) three.1.1)

-- ---- printing

printed_done : (limit : Option ℕ) (at : ℕ) (ds : Data) (v : Option Datum) (m k : Meter) → (text_of limit at ds m >>= printed) ≡ Done v k → v ≡ None
printed_done limit at ds v m k e =
    let one = bind_done (text_of limit at ds m) printed v k e in none_of one.0 one.1 v k one.3 where
      none_of : (bytes : List ℕ) (l : Meter) (v : Option Datum) (k : Meter) → printed bytes l ≡ Done v k → v ≡ None
      none_of bytes l v k q = cc

number_none : {v : Option Datum} {k : Meter} (bytes : List ℕ) (m : Meter) → printed bytes m ≡ Done v k → v ≡ None
number_none bytes m e = cc

no_end : {X : Type 0} (m : Meter) (x : X) (k : Meter) → More m ≡ Done x k → ⊥
no_end m x k e = absurd cc

-- ---- depths

tick_done : {X : Type 0} (n : ℕ) (next : Run X) (x : X) (m k : Meter) → tick n next m ≡ Done x k → GoesOn next x k
tick_done zero next x m k e = absurd cc
tick_done (suc n) next x m k e = (record m { ticks = n }, e)

module _ (place : Node → ℕ) (limit : Option ℕ) (core : Core Node) (p : Program Node) (members : ℕ → Datum → Bool) (takes : ℕ → List Datum → Bool) (h : AllTaken place limit core p members takes) where
  abbrev owed : Ty → Datum → Test
  owed = owed_member place limit (aliases_of core)

  abbrev w_at : ℕ → sem.Setting Node
  w_at depth = setting_at place limit core depth

  module _ (depth : ℕ) (before : Handled (w_at depth) p members takes) where
    abbrev w : sem.Setting Node
    w = w_at depth

    pub safe : (r : Routine Node) (vs : List Datum) → Taken place limit core p members takes r vs → ArgumentsIn members r.params vs → ContractIsSafe w members r vs
    safe r vs t inside = contracts_safe.safe w p members h.told r vs (entries_stand p.setting members h.told r vs t.last (t.params inside)) (t.fits depth) t.contract

    pub keeps : (r : Routine Node) (vs : List Datum) → Taken place limit core p members takes r vs → KeepsContract w p.setting members owed r vs
    keeps r vs t = t.keeps depth before (safe r vs t)

    -- what is called, at the next depth
    one_sound : (f from at n : ℕ) (ts hyps : List Term) (names : Names) (vs : List Datum) (m : Meter) → takes f vs ≡ true → names.is_member ≡ members → AreValues ts → AllMean n names ts vs → Known n names hyps
        → (c : Callee Node) → callee p.routines f ≡ c → Good (AreTrueBy members (callee_walk p.setting c from ts hyps n).owed) (called w owed c at vs m) (Returned n names (callee_walk p.setting c from ts hyps n))
    one_sound f from at n ts hyps names vs m taken right are means kn (Declared r) e =
        let t = h.declared f vs r taken e in
        calls_sound w p.setting members owed r from at n ts hyps names vs m h.told h.checks t.count t.arguments (t.fits depth) (λ inside. (safe r vs t inside).first) (keeps r vs t) right are means kn
    one_sound f from at n ts hyps names vs m taken right are means kn Print e =
        let text = h.texts f vs taken e in by ts are (subst (AllMean n names ts) text.1 means) (subst (λ (us : List Datum). takes f us ≡ true) text.1 taken) where
          by : (us : List Term) → AreValues us → AllMean n names us (Array (h.texts f vs taken e).0 ∷ []) → takes f (Array (h.texts f vs taken e).0 ∷ []) ≡ true
              → Good (AreTrueBy members (callee_walk p.setting Print from us hyps n).owed) (called w owed Print at vs m) (Returned n names (callee_walk p.setting Print from us hyps n))
          by [] a q k = absurd q
          by (u ∷ x ∷ us) a q k = absurd q.1
          by (u ∷ []) a q k =
              let text = h.texts f vs taken e in
              subst (λ (us : List Datum). Good (AreTrueBy members (callee_walk p.setting Print from (u ∷ []) hyps n).owed) (called w owed Print at us m) (Returned n names (callee_walk p.setting Print from (u ∷ []) hyps n))) (sym text.1)
              (prints_sound.text members limit from at n u hyps names text.0 m text.2 right a.0 q.0 kn)
    one_sound f from at n ts hyps names vs m taken right are means kn PrintInt e =
        let number = h.numbers f vs taken e in
        let A = AreTrueBy members (callee_walk p.setting PrintInt from ts hyps n).owed in
        let P = Returned n names (callee_walk p.setting PrintInt from ts hyps n) in
        subst (λ (us : List Datum). Good A (called w owed PrintInt at us m) P) (sym number.1) (good_weaken A (Unit {0}) (called w owed PrintInt at (Whole number.0 ∷ []) m) P (λ t. tt) (prints_sound.number at n hyps names number.0 m kn))
    one_sound f from at n ts hyps names vs m taken right are means kn Undeclared e = absurd (h.others f vs taken e)

    one_gives : (f at : ℕ) (vs : List Datum) (m k : Meter) (v : Option Datum) → takes f vs ≡ true → (c : Callee Node) → callee p.routines f ≡ c → called w owed c at vs m ≡ Done v k → CallGives members c v
    one_gives f at vs m k v taken (Declared r) e q = let t = h.declared f vs r taken e in routine_done w p.setting members owed h.checks r at vs m k v t.arguments (keeps r vs t) q
    one_gives f at vs m k v taken Print e q =
        let text = h.texts f vs taken e in printed_done limit at text.0 v m k (subst (λ (us : List Datum). called w owed Print at us m ≡ Done v k) text.1 q)
    one_gives f at vs m k v taken PrintInt e q =
        let number = h.numbers f vs taken e in
        number_none (signed_decimal number.0) m (subst (λ (us : List Datum). called w owed PrintInt at us m ≡ Done v k) number.1 q)
    one_gives f at vs m k v taken Undeclared e q = absurd (h.others f vs taken e)

    next : Handled (w_at (suc depth)) p members takes
    next = record {
      sound = λ f from at n ts hyps names vs m taken right are means kn.
          let A = AreTrueBy members (call_walk p.setting p.routines f from ts hyps n).owed in
          let P = Returned n names (call_walk p.setting p.routines f from ts hyps n) in
          good_spend A true (called w owed (callee (routines_of core) f) at vs) P
          (λ l. subst (λ (rs : List (Routine Node)). Good A (called w owed (callee rs f) at vs l) P) h.routines (one_sound f from at n ts hyps names vs l taken right are means kn (callee p.routines f) refl)) m;
      gives = λ f at vs m k v taken e.
          let one = tick_done m.ticks (called w owed (callee (routines_of core) f) at vs) v m k e in
          one_gives f at vs one.0 k v taken (callee p.routines f) refl (subst (λ (rs : List (Routine Node)). called w owed (callee rs f) at vs one.0 ≡ Done v k) (sym h.routines) one.1);
    }

  none : Handled (w_at zero) p members takes
  none = record {
    sound = λ f from at n ts hyps names vs m taken right are means kn. tt;
    gives = λ f at vs m k v taken e. absurd (no_end m v k e);
  }

  pub handled : (depth : ℕ) → Handled (w_at depth) p members takes
  handled zero = none
  handled (suc depth) = next depth (handled depth)

pub calls_handled : CallsAreHandled
calls_handled place limit core p members takes h depth = handled place limit core p members takes h depth
