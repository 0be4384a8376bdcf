-- Clauses that are owed, that are assumed, and that are walked with what they owe.
use Rattle.std.proofs.Common.{◌≡◌, ℕ, ◌≤◌, List, [], ◌∷◌, ◌++◌, length, Bool, true, false, refl, sym, ap, ◌∙◌, subst, arith}
use Rattle.wy_lemmas.proofs.Choices.{true_false as not_both}
use Rattle.wy_value.specs.Datum.{Datum, Null, Truth, Whole, Array, Record}
use Rattle.wy_core.specs.CoreTree.{Expr, Routine}
use Rattle.wy_term.specs.declared.cond.CondKind.{CondKind}
use Rattle.wy_term.specs.Term.{Term}
use Rattle.wy_term.specs.Meaning.{Names}
use Rattle.wy_sound_terms.specs.wy_sem.Meter.{Meter, Outcome, Done, Fault, More, Spent, Run, ◌>>=◌, check}
use Rattle.wy_sound_terms.specs.wy_sem.Operations.{as_truth}
use Rattle.wy_sound_terms.specs.wy_sem.Expressions as sem
use Rattle.wy_sound_terms.specs.wy_vc_spec.Making.{formula}
use Rattle.wy_sound_terms.specs.wy_vc_spec.Variables.{Vars}
use Rattle.wy_sound_terms.specs.wy_vc_spec.Values.{Setting, named_in, clause_formula}
use Rattle.wy_sound_terms.specs.wy_vc_spec.Owed.{assume, assume_all, owe}
use Rattle.wy_sound_terms.specs.wy_vc_spec.Clauses.{goals, owe_clauses, assume_clauses}
use Rattle.wy_sound_terms.proofs.formed_lemmas.ValueLemmas.{AreData, named_sorted}
use Rattle.wy_sound_terms.specs.operations.Kinds.{IsTruth}
use Rattle.wy_sound_terms.proofs.operations_lemmas.MadeLemmas.{holds as true_at, all}
use Rattle.wy_sound_terms.proofs.operations_lemmas.FollowLemmas.{all_true, true_all}
use Rattle.wy_sound_walks.specs.expressions.Names.{Agree, Known, Stand}
use Rattle.wy_sound_walks.specs.expressions.Truth.{AreTrueBy, Good}
use Rattle.wy_sound_walks.specs.expressions.Laws.{NamesTold}
use Rattle.wy_sound_walks.proofs.expressions_lemmas.NameLemmas.{agree_refl, agree_less, known_later, stand_later, right_later}
use Rattle.wy_sound_walks.proofs.expressions_lemmas.GoodLemmas.{true_left, true_right, good_weaken}
use Rattle.wy_sound_walks.proofs.expressions_lemmas.AssumeLemmas.{assumed_true, all_assumed_true, owed_true}
use Rattle.wy_sound_walks.proofs.expressions_lemmas.ValueGrows.{named_grows, clause_grows}
use Rattle.wy_sound_walks.proofs.expressions_lemmas.CallGrows.{goals_grow}
use Rattle.wy_sound_walks.specs.clauses.Clauses.{Fits, AllFit, IsNoFault, IsSafe, AreSafe, Passes, AllPass}
use Rattle.wy_sound_walks.proofs.clauses_lemmas.AnswerLemmas.{formula_is, SayTheSame, goals_say}

module _ {N : Type 0} (w : sem.Setting N) (s : Setting N) (members : ℕ → Datum → Bool) (told : NamesTold members (named_in s)) (words : List (List ℕ)) where
  named_in_grows : (number n : ℕ) (v : Term) → n ≤ (named_in s number v n).count
  named_in_grows number n v = named_grows s (length s.types) number n v

  formula_at : (e : Expr N) (vars : Vars) (n : ℕ) (names : Names) (seen : ℕ → Bool) (st : sem.Store) → Fits w s members seen e st → names.is_member ≡ members → AreData vars → Stand n names vars seen st
      → (b : Bool) (m j : Meter) → sem.eval (sem.quiet w) false e st m ≡ Done (Truth b) j → (u : Names) → Agree (clause_formula s (named_in s) words e vars n).count names u → true_at u (clause_formula s (named_in s) words e vars n).term ≡ b
  formula_at e vars n names seen st fits right da sd b m j eq u a = formula_is w s members (named_in s) (named_sorted s) named_in_grows told words e vars n names seen st fits right da sd b m j eq u a

  pub goals_at : (e : Expr N) (vars : Vars) (n : ℕ) (names : Names) (seen : ℕ → Bool) (st : sem.Store) → Fits w s members seen e st → names.is_member ≡ members → AreData vars → Stand n names vars seen st
      → (b : Bool) (m j : Meter) → sem.eval (sem.quiet w) false e st m ≡ Done (Truth b) j → (u : Names) → Agree (goals s words e vars n).count names u → all u (goals s words e vars n).terms ≡ b
  goals_at e vars n names seen st fits right da sd b m j eq u a =
      let say = goals_say s words e vars n in
      say.truth u ∙ formula_at e vars n names seen st fits right da sd b m j eq u (subst (λ (i : ℕ). Agree i names u) say.count a)

  -- ---- a clause that is owed

  module _ {X : Type 0} (A B : Type 0) (P : X → Type 0) (kind why : CondKind) (at from : ℕ) (next : Run X) (vars : Vars) (names : Names) (seen : ℕ → Bool) (st : sem.Store) (right : names.is_member ≡ members) (da : AreData vars) where
    checked : (e : Expr N) (n : ℕ) (hyps : List Term) → Fits w s members seen e st → Stand n names vars seen st → Known n names hyps → (A → AreTrueBy members (owe kind at hyps (goals s words e vars n).terms)) → (after : Run X)
        → ((m : Meter) → Passes w e st → Known (goals s words e vars n).count names (assume_all hyps (goals s words e vars n).terms) → Good A (after m) P)
        → (b : Bool) (m j : Meter) → sem.eval (sem.quiet w) false e st m ≡ Done (Truth b) j → Good A (check b why from after j) P
    checked e n hyps fits sd h owed after go true m j eq =
        let g = goals_grow s words e vars n in
        go j (m, j, eq) (λ u a. all_assumed_true u hyps (goals s words e vars n).terms (h u (agree_less n (goals s words e vars n).count names u g a)) (all_true u (goals s words e vars n).terms (goals_at e vars n names seen st fits right da sd true m j eq u a)))
    checked e n hyps fits sd h owed after go false m j eq = λ t.
        not_both (all names (goals s words e vars n).terms)
        (true_all names (goals s words e vars n).terms (owed_true members kind at names right hyps (goals s words e vars n).terms (h names (agree_refl n names)) (owed t)))
        (goals_at e vars n names seen st fits right da sd false m j eq names (agree_refl (goals s words e vars n).count names))

    given_truth : (e : Expr N) (n : ℕ) (hyps : List Term) → Fits w s members seen e st → Stand n names vars seen st → Known n names hyps → (A → AreTrueBy members (owe kind at hyps (goals s words e vars n).terms)) → (after : Run X)
        → ((m : Meter) → Passes w e st → Known (goals s words e vars n).count names (assume_all hyps (goals s words e vars n).terms) → Good A (after m) P)
        → (v : Datum) → IsTruth v → (m j : Meter) → sem.eval (sem.quiet w) false e st m ≡ Done v j → Good A (as_truth (w.place (sem.node e)) v Done j >>= (λ b. check b why from after)) P
    given_truth e n hyps fits sd h owed after go (Truth b) is m j eq = checked e n hyps fits sd h owed after go b m j eq
    given_truth e n hyps fits sd h owed after go Null is m j eq = absurd is
    given_truth e n hyps fits sd h owed after go (Whole z) is m j eq = absurd is
    given_truth e n hyps fits sd h owed after go (Array ds) is m j eq = absurd is
    given_truth e n hyps fits sd h owed after go (Record fs) is m j eq = absurd is

    from_outcome : (e : Expr N) (n : ℕ) (hyps : List Term) → Fits w s members seen e st → Stand n names vars seen st → Known n names hyps → (A → AreTrueBy members (owe kind at hyps (goals s words e vars n).terms)) → (after : Run X)
        → ((m : Meter) → Passes w e st → Known (goals s words e vars n).count names (assume_all hyps (goals s words e vars n).terms) → Good A (after m) P)
        → (m : Meter) (o : Outcome Datum) → sem.eval (sem.quiet w) false e st m ≡ o → IsNoFault o → Good A ((o >>= (λ v. as_truth (w.place (sem.node e)) v Done)) >>= (λ b. check b why from after)) P
    from_outcome e n hyps fits sd h owed after go m (Done v j) eq safe = given_truth e n hyps fits sd h owed after go v (fits.truth v m j eq) m j eq
    from_outcome e n hyps fits sd h owed after go m (Fault reason place j) eq safe = absurd safe
    from_outcome e n hyps fits sd h owed after go m (More j) eq safe = tt
    from_outcome e n hyps fits sd h owed after go m Spent eq safe = tt

  -- clauses that are safe and owed go on to what follows, and then they passed and their goals are known
  pub clauses_owed : {X : Type 0} (A : Type 0) (P : X → Type 0) (kind why : CondKind) (at from : ℕ) (next : Run X) (vars : Vars) (names : Names) (seen : ℕ → Bool) (st : sem.Store) → names.is_member ≡ members → AreData vars
      → (es : List (Expr N)) (n : ℕ) (hyps : List Term) → AllFit w s members seen es st → AreSafe w es st → Stand n names vars seen st → Known n names hyps → (A → AreTrueBy members (owe_clauses s kind at words es vars hyps n).owed)
      → ((m : Meter) → AllPass w es st → Known (owe_clauses s kind at words es vars hyps n).count names (owe_clauses s kind at words es vars hyps n).hyps → Good A (next m) P)
      → (m : Meter) → Good A (sem.clauses w why from es st next m) P
  clauses_owed A P kind why at from next vars names seen st right da [] n hyps fit safe sd h owed go m = go m tt h
  clauses_owed A P kind why at from next vars names seen st right da (e ∷ es) n hyps fit safe sd h owed go m =
      let first = goals s words e vars n in
      let g = goals_grow s words e vars n in
      let rest = owe_clauses s kind at words es vars (assume_all hyps first.terms) first.count in
      from_outcome A A P kind why at from next vars names seen st right da e n hyps fit.0 sd h (λ t. true_left members (owe kind at hyps first.terms) rest.owed (owed t)) (sem.clauses w why from es st next)
      (λ l passed known. clauses_owed A P kind why at from next vars names seen st right da es first.count (assume_all hyps first.terms) fit.1 (safe.1 passed) (stand_later n first.count names names vars seen st g (agree_refl n names) sd) known
      (λ t. true_right members (owe kind at hyps first.terms) rest.owed (owed t)) (λ i all kn. go i (passed, all) kn) l)
      m (sem.eval (sem.quiet w) false e st m) refl (safe.0 m)

  -- clauses that passed are known where they are assumed
  pub clauses_assumed : (vars : Vars) (names : Names) (seen : ℕ → Bool) (st : sem.Store) → names.is_member ≡ members → AreData vars
      → (es : List (Expr N)) (n : ℕ) (hyps : List Term) → AllFit w s members seen es st → AllPass w es st → Stand n names vars seen st → Known n names hyps
      → Known (assume_clauses s words es vars hyps n).count names (assume_clauses s words es vars hyps n).hyps
  clauses_assumed vars names seen st right da [] n hyps fit pass sd h = h
  clauses_assumed vars names seen st right da (e ∷ es) n hyps fit pass sd h =
      let f = clause_formula s (named_in s) words e vars n in
      let g = clause_grows s (named_in s) named_in_grows words e vars n in
      clauses_assumed vars names seen st right da es f.count (assume hyps f.term) fit.1 pass.1 (stand_later n f.count names names vars seen st g (agree_refl n names) sd)
      (λ u a. assumed_true u hyps f.term (h u (agree_less n f.count names u g a)) (formula_at e vars n names seen st fit.0 right da sd true pass.0.0 pass.0.1 pass.0.2 u a))
