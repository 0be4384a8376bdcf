-- Stores with another value for a variable, and clauses that go on where each answer is true.
use Rattle.std.proofs.Common.{◌≡◌, ◌⊎◌, inl, inr, ℕ, zero, suc, List, [], ◌∷◌, Bool, true, false, Option, Some, None, refl, ap, subst, arith}
use Rattle.wy_value.specs.Datum.{Datum, Null, Truth, Whole, Array, Record}
use Rattle.wy_core.specs.Types.{Ty}
use Rattle.wy_core.specs.CoreTree.{Expr}
use Rattle.wy_term.specs.declared.cond.CondKind.{CondKind}
use Rattle.wy_term.specs.Term.{Term}
use Rattle.wy_term.specs.Meaning.{Names}
use Rattle.wy_sound_kinds.specs.wy_sem.Meter.{Meter, Outcome, Done, Fault, More, Spent, Run, ◌>>=◌, check}
use Rattle.wy_sound_kinds.specs.wy_sem.Operations.{as_truth}
use Rattle.wy_sound_kinds.specs.wy_sem.Expressions as sem
use Rattle.wy_sound_kinds.specs.wy_sem.Expressions.{Store, slot, put}
use Rattle.wy_sound_kinds.specs.wy_sem.Statements.{type_at}
use Rattle.wy_sound_kinds.specs.wy_vc_spec.Variables.{Vars}
use Rattle.wy_sound_kinds.specs.wy_vc_spec.Values.{Setting, variable, named_in}
use Rattle.wy_sound_kinds.specs.wy_vc_spec.Owed.{assume_all, owe}
use Rattle.wy_sound_kinds.specs.wy_vc_spec.Clauses.{goals, owe_clauses}
use Rattle.wy_sound_kinds.specs.wy_vc_spec.Spots.{Spot, is_set, mark, declare}
use Rattle.wy_sound_kinds.proofs.wy_sound_terms_proofs.formed_lemmas.ValueLemmas.{AreData}
use Rattle.wy_sound_kinds.proofs.wy_sound_terms_proofs.operations_lemmas.FollowLemmas.{all_true}
use Rattle.wy_sound_kinds.specs.wy_sound_walks.expressions.Names.{Known, Means, Stand}
use Rattle.wy_sound_kinds.specs.wy_sound_walks.expressions.Truth.{AreTrueBy, Good}
use Rattle.wy_sound_kinds.specs.wy_sound_walks.expressions.Types.{is_in}
use Rattle.wy_sound_kinds.specs.wy_sound_walks.expressions.Laws.{NamesTold}
use Rattle.wy_sound_kinds.proofs.wy_sound_walks_proofs.expressions_lemmas.NameLemmas.{agree_refl, agree_less, known_later, means_later, stand_later, right_later, put_at}
use Rattle.wy_sound_kinds.proofs.wy_sound_walks_proofs.expressions_lemmas.GoodLemmas.{true_left, true_right}
use Rattle.wy_sound_kinds.proofs.wy_sound_walks_proofs.expressions_lemmas.AssumeLemmas.{all_assumed_true, owed_true}
use Rattle.wy_sound_kinds.proofs.wy_sound_walks_proofs.expressions_lemmas.CallGrows.{goals_grow}
use Rattle.wy_sound_kinds.specs.wy_sound_walks.clauses.Clauses.{AllFit, IsNoFault, AllPass, AreSafe, AreTrueIfDone}
use Rattle.wy_sound_kinds.proofs.wy_sound_walks_proofs.clauses_lemmas.ClauseLemmas.{goals_at}
use Rattle.wy_sound_kinds.specs.wy_sound_walks.joins.Points.{At}
use Rattle.wy_sound_statements.specs.Ends.{AreDeclared}

none_some : {X : Type 0} (d : Datum) → ◌≡◌ {A = Option Datum} None (Some d) → X
none_some d q = absurd cc

some_is : (a b : Datum) → ◌≡◌ {A = Option Datum} (Some a) (Some b) → a ≡ b
some_is a b p = cc

-- what stands in a store with another value is that value, or stood there before
pub put_cases : (s : Store) (x : ℕ) (v : Option Datum) (y : ℕ) (e : Datum) → slot (put s x v) y ≡ Some e → ((x ≡ y) × (v ≡ Some e)) ⊎ ((x ≡ y → ⊥) × (slot s y ≡ Some e))
put_cases [] x v y e h = none_some e h
put_cases (o ∷ s) zero v zero e h = inl (refl, h)
put_cases (o ∷ s) zero v (suc y) e h = inr ((λ q. absurd (omega (arith, q))), h)
put_cases (o ∷ s) (suc x) v zero e h = inr ((λ q. absurd (omega (arith, q))), h)
put_cases (o ∷ s) (suc x) v (suc y) e h = by (put_cases s x v y e h) where
  by : ((x ≡ y) × (v ≡ Some e)) ⊎ ((x ≡ y → ⊥) × (slot s y ≡ Some e)) → ((suc x ≡ suc y) × (v ≡ Some e)) ⊎ ((suc x ≡ suc y → ⊥) × (slot s y ≡ Some e))
  by (inl q) = inl (ap suc q.0, q.1)
  by (inr q) = inr ((λ p. q.0 (omega (arith, p))), q.1)

pub declared_put : (types : List Ty) (members : ℕ → Datum → Bool) (s : Store) (x : ℕ) (d : Datum) → AreDeclared types members s → is_in members (type_at types x) d ≡ true → AreDeclared types members (put s x (Some d))
declared_put types members s x d h g y e q = by (put_cases s x (Some d) y e q) where
  by : ((x ≡ y) × (◌≡◌ {A = Option Datum} (Some d) (Some e))) ⊎ ((x ≡ y → ⊥) × (slot s y ≡ Some e)) → is_in members (type_at types y) e ≡ true
  by (inl c) = subst (λ (z : ℕ). is_in members (type_at types z) e ≡ true) c.0 (subst (λ (a : Datum). is_in members (type_at types x) a ≡ true) (some_is d e c.1) g)
  by (inr c) = h y e c.1

pub declared_unset : (types : List Ty) (members : ℕ → Datum → Bool) (s : Store) (x : ℕ) → AreDeclared types members s → AreDeclared types members (put s x None)
declared_unset types members s x h y e q = by (put_cases s x None y e q) where
  by : ((x ≡ y) × (◌≡◌ {A = Option Datum} None (Some e))) ⊎ ((x ≡ y → ⊥) × (slot s y ≡ Some e)) → is_in members (type_at types y) e ≡ true
  by (inl c) = none_some e c.1
  by (inr c) = h y e c.1

-- a mark of another variable
mark_other : (bs : List Bool) (x : ℕ) (b : Bool) (y : ℕ) → is_set (mark bs x b) y ≡ true → (x ≡ y → ⊥) → is_set bs y ≡ true
mark_other [] zero b zero e h = absurd (h refl)
mark_other [] zero b (suc y) e h = e
mark_other [] (suc x) b zero e h = absurd cc
mark_other [] (suc x) b (suc y) e h = absurd (none (mark_other [] x b y e (λ q. h (ap suc q)))) where
  none : is_set [] y ≡ true → ⊥
  none q = absurd cc
mark_other (c ∷ bs) zero b zero e h = absurd (h refl)
mark_other (c ∷ bs) zero b (suc y) e h = e
mark_other (c ∷ bs) (suc x) b zero e h = e
mark_other (c ∷ bs) (suc x) b (suc y) e h = mark_other bs x b y e (λ q. h (ap suc q))

-- a variable that is declared without a value
pub declare_at : (n m : ℕ) (names : Names) (p : Spot) (s : Store) (x : ℕ) (t : Term) → At n names m p s → At n names (suc m) (declare x t p) (put s x None)
declare_at n m names p s x t h = record {
  later = h.later;
  agree = h.agree;
  known = known_later m (suc m) h.later h.later p.hyps (omega arith) (agree_refl m h.later) h.known;
  stand = λ y d see q. put_at p.vars s x t None y d q (λ (u : Term) (c : Datum). Means (suc m) h.later u c) (λ c same is. none_some c is)
      (λ c apart old. means_later m (suc m) h.later h.later (variable p.vars y) c (omega arith) (agree_refl m h.later) (h.stand y c (mark_other p.set x false y see apart) old));
}

-- ---- clauses

-- a clause that is safe and of which each answer is true goes on, where it ends
one_goes : {X : Type 0} (A : Type 0) (P : X → Type 0) (place : ℕ) (why : CondKind) (at : ℕ) (after : Run X) (o : Outcome Datum) → (A → IsNoFault o) → (A → (v : Datum) (j : Meter) → o ≡ Done v j → v ≡ Truth true)
    → ((j : Meter) → o ≡ Done (Truth true) j → Good A (after j) P) → Good A ((o >>= (λ v. as_truth place v Done)) >>= (λ b. check b why at after)) P
one_goes A P place why at after (Done (Truth true) j) safe holds go = go j refl
one_goes A P place why at after (Done (Truth false) j) safe holds go = λ a. no_truth (holds a (Truth false) j refl) where
  no_truth : Truth false ≡ Truth true → ⊥
  no_truth e = absurd cc
one_goes A P place why at after (Done Null j) safe holds go = λ a. no_truth (holds a Null j refl) where
  no_truth : Null ≡ Truth true → ⊥
  no_truth e = absurd cc
one_goes A P place why at after (Done (Whole z) j) safe holds go = λ a. no_truth (holds a (Whole z) j refl) where
  no_truth : Whole z ≡ Truth true → ⊥
  no_truth e = absurd cc
one_goes A P place why at after (Done (Array ds) j) safe holds go = λ a. no_truth (holds a (Array ds) j refl) where
  no_truth : Array ds ≡ Truth true → ⊥
  no_truth e = absurd cc
one_goes A P place why at after (Done (Record fs) j) safe holds go = λ a. no_truth (holds a (Record fs) j refl) where
  no_truth : Record fs ≡ Truth true → ⊥
  no_truth e = absurd cc
one_goes A P place why at after (Fault kind from j) safe holds go = λ a. safe a
one_goes A P place why at after (More j) safe holds go = tt
one_goes A P place why at after Spent safe holds go = tt

pub clauses_go : {X : Type 0} {N : Type 0} (w : sem.Setting N) (A : Type 0) (P : X → Type 0) (why : CondKind) (at : ℕ) (st : Store) (next : Run X) (es : List (Expr N)) → (A → AreSafe w es st) → (A → AreTrueIfDone w es st)
    → ((m : Meter) → AllPass w es st → Good A (next m) P) → (m : Meter) → Good A (sem.clauses w why at es st next m) P
clauses_go w A P why at st next [] safe holds go m = go m tt
clauses_go w A P why at st next (e ∷ es) safe holds go m =
    one_goes A P (w.place (sem.node e)) why at (sem.clauses w why at es st next) (sem.eval (sem.quiet w) false e st m) (λ a. (safe a).0 m) (λ a v j q. (holds a).0 v m j q)
    (λ j q. clauses_go w A P why at st next es (λ a. (safe a).1 (m, j, q)) (λ a. (holds a).1) (λ l all. go l ((m, j, q), all)) j)

-- ---- what is assumed behind clauses that are owed

module _ {N : Type 0} (w : sem.Setting N) (s : Setting N) (members : ℕ → Datum → Bool) (told : NamesTold members (named_in s)) (words : List (List ℕ)) (vars : Vars) (names : Names) (seen : ℕ → Bool) (st : Store) (right : names.is_member ≡ members) (da : AreData vars) (kind : CondKind) (at : ℕ) where
  -- where what is owed is true, it is known
  pub owed_known : (es : List (Expr N)) (n : ℕ) (hyps : List Term) → AllFit w s members seen es st → Stand n names vars seen st → Known n names hyps → AreTrueBy members (owe_clauses s kind at words es vars hyps n).owed
      → Known (owe_clauses s kind at words es vars hyps n).count names (owe_clauses s kind at words es vars hyps n).hyps
  owed_known [] n hyps fit sd h t = h
  owed_known (e ∷ es) n hyps fit sd h t =
      let first = goals s words e vars n in
      let g = goals_grow s words e vars n in
      let rest = owe_clauses s kind at words es vars (assume_all hyps first.terms) first.count in
      let one = true_left members (owe kind at hyps first.terms) rest.owed t in
      owed_known es first.count (assume_all hyps first.terms) fit.1 (stand_later n first.count names names vars seen st g (agree_refl n names) sd)
      (λ u a. let b = agree_less n first.count names u g a in all_assumed_true u hyps first.terms (h u b) (owed_true members kind at u (right_later members n names u right b) hyps first.terms (h u b) one))
      (true_right members (owe kind at hyps first.terms) rest.owed t)

  -- where they passed, it is known
  pub passed_known : (es : List (Expr N)) (n : ℕ) (hyps : List Term) → AllFit w s members seen es st → Stand n names vars seen st → Known n names hyps → AllPass w es st
      → Known (owe_clauses s kind at words es vars hyps n).count names (owe_clauses s kind at words es vars hyps n).hyps
  passed_known [] n hyps fit sd h pass = h
  passed_known (e ∷ es) n hyps fit sd h pass =
      let first = goals s words e vars n in
      let g = goals_grow s words e vars n in
      passed_known es first.count (assume_all hyps first.terms) fit.1 (stand_later n first.count names names vars seen st g (agree_refl n names) sd)
      (λ u a. all_assumed_true u hyps first.terms (h u (agree_less n first.count names u g a))
      (all_true u first.terms (goals_at w s members told words e vars n names seen st fit.0 right da sd true pass.0.0 pass.0.1 pass.0.2 u a)))
      pass.1
