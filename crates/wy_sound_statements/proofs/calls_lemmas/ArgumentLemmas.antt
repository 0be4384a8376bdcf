-- Arguments: their types, and the variables that stand for them.
use Rattle.std.proofs.Common.{◌≡◌, ℕ, ◌≤◌, List, [], ◌∷◌, ◌++◌, Bool, true, false, if◌then◌else◌, Option, Some, None, refl, sym, ap, ◌∙◌, subst, arith}
use Rattle.wy_lemmas.proofs.Choices.{true_false as not_both}
use Rattle.wy_value.specs.Datum.{Datum}
use Rattle.wy_core.specs.Types.{Ty}
use Rattle.wy_core.specs.CoreTree.{Param}
use Rattle.wy_term.specs.declared.cond.CondKind.TheVariants as kind
use Rattle.wy_term.specs.Term.{Term}
use Rattle.wy_term.specs.Sorts.{val_sort}
use Rattle.wy_term.specs.Meaning.{Names}
use Rattle.wy_sound_kinds.specs.wy_sem.Meter.{Meter, Outcome, Done, Fault, More, Spent, Run, ◌>>=◌, check}
use Rattle.wy_sound_kinds.specs.wy_sem.Expressions as sem
use Rattle.wy_sound_kinds.specs.wy_sem.TypeTests.{Test, is_constrained}
use Rattle.wy_sound_kinds.specs.wy_sem.Statements.{given}
use Rattle.wy_sound_kinds.specs.wy_sem.Evaluation as run
use Rattle.wy_sound_kinds.specs.wy_vc_spec.Numbered.{Node}
use Rattle.wy_sound_kinds.specs.wy_vc_spec.Variables.{Vars, put}
use Rattle.wy_sound_kinds.specs.wy_vc_spec.Values.{Setting, Valued, named_in}
use Rattle.wy_sound_kinds.specs.wy_vc_spec.Owed.{assume, owe}
use Rattle.wy_sound_kinds.specs.wy_vc_spec.Clauses.{Passed, passed, one_goal, pass_goals, in_type, owe_member}
use Rattle.wy_sound_kinds.specs.wy_vc_spec.Calls.{owe_arguments, arguments}
use Rattle.wy_sound_kinds.proofs.wy_sound_terms_proofs.formed_lemmas.MakingLemmas.{IsOf}
use Rattle.wy_sound_kinds.proofs.wy_sound_terms_proofs.formed_lemmas.ValueLemmas.{AreData, no_data, put_data}
use Rattle.wy_sound_kinds.specs.wy_sound_walks.expressions.Names.{Agree, Known, Means, AllMean, Stand, also}
use Rattle.wy_sound_kinds.specs.wy_sound_walks.expressions.Truth.{AreTrueBy, Good}
use Rattle.wy_sound_kinds.specs.wy_sound_walks.expressions.Types.{is_in}
use Rattle.wy_sound_kinds.specs.wy_sound_walks.expressions.Written.{IsWritten}
use Rattle.wy_sound_kinds.specs.wy_sound_walks.expressions.Suits.{Answers}
use Rattle.wy_sound_kinds.specs.wy_sound_walks.expressions.Laws.{NamesTold}
use Rattle.wy_sound_kinds.proofs.wy_sound_walks_proofs.expressions_lemmas.NameLemmas.{agree_refl, agree_less, means_later, all_later, right_later, stand_put}
use Rattle.wy_sound_kinds.proofs.wy_sound_walks_proofs.expressions_lemmas.GoodLemmas.{true_left, true_right}
use Rattle.wy_sound_kinds.proofs.wy_sound_walks_proofs.expressions_lemmas.AssumeLemmas.{assumed_true}
use Rattle.wy_sound_kinds.proofs.wy_sound_walks_proofs.expressions_lemmas.CallGrows.{in_type_grows, member_grows}
use Rattle.wy_sound_kinds.proofs.wy_sound_walks_proofs.expressions_lemmas.LawLemmas.{types_told}
use Rattle.wy_sound_statements.specs.calls.CallLaws.{Checks, ComesAs, ArgumentsFit, ArgumentsIn, AreValues, with_params}

-- ---- a value that is given a type

-- a check that goes by an answer
checked : {X : Type 0} (A : Type 0) (P : X → Type 0) (at : ℕ) (next : Run X) (b : Bool) (o : Outcome Bool) → Answers b o → (A → b ≡ true) → (b ≡ true → (m : Meter) → Good A (next m) P) → Good A (o >>= (λ c. check c kind.Member at next)) P
checked A P at next b (Done true m) e t go = go (sym e) m
checked A P at next b (Done false m) e t go = λ a. not_both b (t a) (sym e)
checked A P at next b (Fault why from m) e t go = absurd e
checked A P at next b (More m) e t go = tt
checked A P at next b Spent e t go = tt

module _ (s : Setting Node) (members : ℕ → Datum → Bool) (owed : Ty → Datum → Test) (told : NamesTold members (named_in s)) (checks : Checks s members owed) where
  -- what is owed and known of it
  pub given_right : {X : Type 0} (A : Type 0) (P : X → Type 0) (from at n : ℕ) (t : Ty) (v : Term) (hyps : List Term) (names : Names) (d : Datum) (next : Run X) → IsWritten t → ComesAs s members t d → names.is_member ≡ members → IsOf val_sort v → Means n names v d → Known n names hyps
      → (A → AreTrueBy members (owe_member s from t v hyps n).owed) → (is_in members t d ≡ true → Known (owe_member s from t v hyps n).count names (owe_member s from t v hyps n).hyps → (m : Meter) → Good A (next m) P) → (m : Meter) → Good A (given owed at t d next m) P
  given_right {X} A P from at n t v hyps names d next wr free right is means h true_of go m = by (is_constrained s.types t) refl true_of go where
    f : Valued
    f = in_type s t v n

    by : (c : Bool) → is_constrained s.types t ≡ c → (A → AreTrueBy members (if c then pass_goals kind.Member from (one_goal f) hyps else passed n hyps []).owed)
        → (is_in members t d ≡ true → Known (if c then pass_goals kind.Member from (one_goal f) hyps else passed n hyps []).count names (if c then pass_goals kind.Member from (one_goal f) hyps else passed n hyps []).hyps → (l : Meter) → Good A (next l) P)
        → Good A (given owed at t d next m) P
    by false e tr g = checked A P at next true (owed t d m) (checks.free t d m free.0 e) (λ a. refl) (λ q l. g (free.1 e) h l)
    by true e tr g =
        let grows = in_type_grows s t v n in
        checked A P at next (is_in members t d) (owed t d m) (checks.asked t d m free.0 e)
        (λ a. sym (types_told s members told t n v names d wr right is.has means) ∙ (tr a).0 names right (h names (agree_refl n names)))
        (λ q l. g q (λ u b. assumed_true u hyps f.term (h u (agree_less n f.count names u grows b))
        (types_told s members told t n v u d wr (right_later members n names u right (agree_less n f.count names u grows b)) is.has (means_later n n names u v d (omega arith) (agree_less n f.count names u grows b) means) ∙ q)) l)

  -- all arguments
  pub arguments_right : {X : Type 0} (A : Type 0) (P : X → Type 0) (from at : ℕ) (names : Names) (next : Run X) → names.is_member ≡ members
      → (ps : List Param) (n : ℕ) (ts hyps : List Term) (vs : List Datum) → ArgumentsFit s members ps vs → AreValues ts → AllMean n names ts vs → Known n names hyps → (A → AreTrueBy members (owe_arguments s from ps ts hyps n).owed)
      → (ArgumentsIn members ps vs → Known (owe_arguments s from ps ts hyps n).count names (owe_arguments s from ps ts hyps n).hyps → (m : Meter) → Good A (next m) P) → (m : Meter) → Good A (run.arguments owed at ps vs next m) P
  arguments_right A P from at names next right [] n ts hyps vs fit are means h tr go m = go tt h m
  arguments_right A P from at names next right (p ∷ ps) n ts hyps [] fit are means h tr go m = absurd fit
  arguments_right A P from at names next right (p ∷ ps) n [] hyps (d ∷ vs) fit are means h tr go m = absurd means
  arguments_right A P from at names next right (p ∷ ps) n (t ∷ ts) hyps (d ∷ vs) fit are means h tr go m =
      let first = owe_member s from p.ty t hyps n in
      let rest = owe_arguments s from ps ts first.hyps first.count in
      let grows = member_grows s from p.ty t hyps n in
      given_right A P from at n p.ty t hyps names d (run.arguments owed at ps vs next) fit.0 fit.1 right (record { has = are.0 }) means.0 h (λ a. true_left members first.owed rest.owed (tr a))
      (λ q known l. arguments_right A P from at names next right ps first.count ts first.hyps vs fit.2 are.1 (all_later n first.count names names ts vs grows (agree_refl n names) means.1) known (λ a. true_right members first.owed rest.owed (tr a))
      (λ all kn. go (q, all) kn) l) m

-- ---- the variables of parameters

-- there is an argument for each parameter
abbrev pub ArgumentsLong : List Param → List Datum → Type 0
ArgumentsLong [] vs = Unit {0}
ArgumentsLong (p ∷ ps) [] = ⊥
ArgumentsLong (p ∷ ps) (v ∷ vs) = ArgumentsLong ps vs

pub fit_long : (s : Setting Node) (members : ℕ → Datum → Bool) (ps : List Param) (vs : List Datum) → ArgumentsFit s members ps vs → ArgumentsLong ps vs
fit_long s members [] vs h = tt
fit_long s members (p ∷ ps) [] h = absurd h
fit_long s members (p ∷ ps) (v ∷ vs) h = fit_long s members ps vs h.2

-- parameters stand for their arguments
pub params_stand : (n : ℕ) (names : Names) (ps : List Param) (ts : List Term) (vs : List Datum) (vars : Vars) (seen : ℕ → Bool) (st : sem.Store) → AllMean n names ts vs → ArgumentsLong ps vs → Stand n names vars seen st → Stand n names (arguments ps ts vars) (with_params ps seen) (run.bound ps vs st)
params_stand n names [] ts vs vars seen st means long h = h
params_stand n names (p ∷ ps) [] [] vars seen st means long h = absurd long
params_stand n names (p ∷ ps) [] (d ∷ vs) vars seen st means long h = absurd means
params_stand n names (p ∷ ps) (t ∷ ts) [] vars seen st means long h = absurd means
params_stand n names (p ∷ ps) (t ∷ ts) (d ∷ vs) vars seen st means long h =
    params_stand n names ps ts vs (put vars p.variable t) (also p.variable seen) (sem.put st p.variable (Some d)) means.1 long (stand_put n names vars seen st p.variable t d h means.0)

pub params_data : (ps : List Param) (ts : List Term) (vars : Vars) → AreValues ts → AreData vars → AreData (arguments ps ts vars)
params_data [] ts vars are da = da
params_data (p ∷ ps) [] vars are da = da
params_data (p ∷ ps) (t ∷ ts) vars are da = params_data ps ts (put vars p.variable t) are.1 (put_data p.variable da (record { has = are.0 }))
