-- Clauses that are walked with what they owe, each assumed by the next.
use Rattle.std.proofs.Common.{◌≡◌, ℕ, ◌≤◌, List, [], ◌∷◌, ◌++◌, Bool, true, false, refl, subst}
use Rattle.wy_value.specs.Datum.{Datum, Truth}
use Rattle.wy_core.specs.CoreTree.{Expr}
use Rattle.wy_term.specs.Term.{Term}
use Rattle.wy_term.specs.Meaning.{Names}
use Rattle.wy_sound_terms.specs.wy_sem.Meter.{Meter, Outcome, Done, Fault, More, Spent}
use Rattle.wy_sound_terms.specs.wy_sem.Expressions as sem
use Rattle.wy_sound_terms.specs.wy_vc_spec.Making.{formula}
use Rattle.wy_sound_terms.specs.wy_vc_spec.Variables.{Vars}
use Rattle.wy_sound_terms.specs.wy_vc_spec.Values.{named_in}
use Rattle.wy_sound_terms.specs.wy_vc_spec.Owed.{assume}
use Rattle.wy_sound_terms.specs.wy_vc_spec.Calls.{Walked}
use Rattle.wy_sound_terms.specs.wy_vc_spec.Walks.{Program, walk_expr}
use Rattle.wy_sound_terms.specs.wy_vc_spec.Statements.{walk_clauses}
use Rattle.wy_sound_terms.proofs.formed_lemmas.ValueLemmas.{AreData}
use Rattle.wy_sound_terms.proofs.operations_lemmas.MadeLemmas.{formula_means}
use Rattle.wy_sound_walks.specs.expressions.Names.{Known, Stand}
use Rattle.wy_sound_walks.specs.expressions.Truth.{AreTrueBy, Good}
use Rattle.wy_sound_walks.specs.expressions.Sound.{Ok}
use Rattle.wy_sound_walks.specs.expressions.Laws.{NamesTold}
use Rattle.wy_sound_walks.proofs.expressions_lemmas.NameLemmas.{agree_refl, stand_later}
use Rattle.wy_sound_walks.proofs.expressions_lemmas.GoodLemmas.{true_left, true_right}
use Rattle.wy_sound_walks.proofs.expressions_lemmas.AssumeLemmas.{assumed_true}
use Rattle.wy_sound_walks.proofs.expressions_lemmas.LawLemmas.{expr_grows, quiet_right}
use Rattle.wy_sound_walks.specs.clauses.Clauses.{Fits, AllFit, IsNoFault, AreSafe, Passes, AllPass}

no_fault : (A : Type 0) (o : Outcome Datum) (P : Datum → Type 0) → Good A o P → A → IsNoFault o
no_fault A (Done v m) P h t = tt
no_fault A (Fault kind at m) P h t = absurd (h t)
no_fault A (More m) P h t = tt
no_fault A Spent P h t = tt

-- the hypotheses behind a clause that passed
passed_known : (n m : ℕ) (names : Names) (hyps : List Term) (t : Term) → Ok true n names m hyps t (Truth true) → Known m names (assume hyps (formula t))
passed_known n m names hyps t x =
    subst (λ (u : Names). Known m u (assume hyps (formula t))) x.goes (λ u a. assumed_true u hyps (formula t) (x.known u a) (formula_means u t true (x.means u a)))

module _ {N : Type 0} (w : sem.Setting N) (p : Program N) (members : ℕ → Datum → Bool) (told : NamesTold members (named_in p.setting)) (words : List (List ℕ)) (vars : Vars) (names : Names) (seen : ℕ → Bool) (st : sem.Store) (right : names.is_member ≡ members) (da : AreData vars) where
  abbrev W : Expr N → List Term → ℕ → Walked
  W e hyps n = walk_expr p words e vars hyps n

  walked : (e : Expr N) (hyps : List Term) (n : ℕ) (m : Meter) → Fits w p.setting members seen e st → Stand n names vars seen st → Known n names hyps
      → Good (AreTrueBy members (W e hyps n).owed) (sem.eval (sem.quiet w) false e st m) (Ok true n names (W e hyps n).count (W e hyps n).hyps (W e hyps n).term)
  walked e hyps n m fits sd h = quiet_right (sem.quiet w) false p.setting p.routines members told words e vars hyps n names seen st m fits.suits right da sd h

  behind : (e : Expr N) (hyps : List Term) (n : ℕ) → Fits w p.setting members seen e st → Stand n names vars seen st → Known n names hyps → Passes w e st → Known (W e hyps n).count names (assume (W e hyps n).hyps (formula (W e hyps n).term))
  behind e hyps n fits sd h pass =
      passed_known n (W e hyps n).count names (W e hyps n).hyps (W e hyps n).term
      (subst (λ (o : Outcome Datum). Good (AreTrueBy members (W e hyps n).owed) o (Ok true n names (W e hyps n).count (W e hyps n).hyps (W e hyps n).term)) pass.2 (walked e hyps n pass.0 fits sd h))

  stands : (e : Expr N) (hyps : List Term) (n : ℕ) → Stand n names vars seen st → Stand (W e hyps n).count names vars seen st
  stands e hyps n sd = stand_later n (W e hyps n).count names names vars seen st (expr_grows p.setting p.routines words e vars hyps n) (agree_refl n names) sd

  -- where what they owe is true, each is safe if those before it passed
  pub walked_safe : (es : List (Expr N)) (hyps : List Term) (n : ℕ) → AllFit w p.setting members seen es st → Stand n names vars seen st → Known n names hyps → AreTrueBy members (walk_clauses p words es vars hyps n).owed → AreSafe w es st
  walked_safe [] hyps n fit sd h t = tt
  walked_safe (e ∷ es) hyps n fit sd h t =
      let v = W e hyps n in
      let rest = walk_clauses p words es vars (assume v.hyps (formula v.term)) v.count in (
        (λ m. no_fault (AreTrueBy members v.owed) (sem.eval (sem.quiet w) false e st m) (Ok true n names v.count v.hyps v.term) (walked e hyps n m fit.0 sd h) (true_left members v.owed rest.owed t)),
        (λ pass. walked_safe es (assume v.hyps (formula v.term)) v.count fit.1 (stands e hyps n sd) (behind e hyps n fit.0 sd h pass) (true_right members v.owed rest.owed t)),
      )

  -- where they passed, what is assumed behind them is known
  pub walked_known : (es : List (Expr N)) (hyps : List Term) (n : ℕ) → AllFit w p.setting members seen es st → Stand n names vars seen st → Known n names hyps → AllPass w es st
      → Known (walk_clauses p words es vars hyps n).count names (walk_clauses p words es vars hyps n).hyps
  walked_known [] hyps n fit sd h pass = h
  walked_known (e ∷ es) hyps n fit sd h pass =
      let v = W e hyps n in walked_known es (assume v.hyps (formula v.term)) v.count fit.1 (stands e hyps n sd) (behind e hyps n fit.0 sd h pass.0) pass.1
