-- The last step of a construct: its goals, and what it gives.
use Rattle.std.proofs.Common.{◌≡◌, ◌⊎◌, inl, inr, ℕ, ◌≤◌, List, [], ◌∷◌, ◌++◌, Bool, true, false, ℤ, refl, sym, ap, ◌∙◌, subst}
use Rattle.wy_value.specs.Datum.{Datum, Whole}
use Rattle.wy_term.specs.declared.cond.CondKind.{CondKind}
use Rattle.wy_term.specs.Term.{Term}
use Rattle.wy_term.specs.Sorts.{val_sort}
use Rattle.wy_term.specs.Meaning.{Names, sense}
use Rattle.wy_term.specs.Condition.{AllTrue}
use Rattle.wy_term_subst.specs.kept_sorts.SortKept.{HasSort}
use Rattle.wy_sound_terms.specs.wy_sem.Meter.{Meter, Outcome, Done, Fault, More, Spent, Run, ◌>>=◌}
use Rattle.wy_sound_terms.specs.wy_vc_spec.Owed.{Owed}
use Rattle.wy_sound_terms.specs.wy_vc_spec.Calls.{Walked}
use Rattle.wy_sound_terms.specs.wy_vc_spec.Walks.{Goals, assume_goals, owe_goals}
use Rattle.wy_sound_terms.specs.operations.Agreement.{datum_of, IsFault, Follows, all_goals}
use Rattle.wy_sound_walks.specs.expressions.Names.{Agree, Known, Means, Goes}
use Rattle.wy_sound_walks.specs.expressions.Truth.{AreTrueBy, Good}
use Rattle.wy_sound_walks.specs.expressions.Sound.{Ok}
use Rattle.wy_sound_walks.proofs.expressions_lemmas.NameLemmas.{agree_refl, goes_agree, goes_trans, known_later, means_later, right_later}
use Rattle.wy_sound_walks.proofs.expressions_lemmas.GoodLemmas.{true_left, true_right, true_after, good_bind}
use Rattle.wy_sound_walks.proofs.expressions_lemmas.AssumeLemmas.{goals_assumed_true, owed_goals_true}

abbrev done : Datum → Meter → Outcome Datum
done d m = Done d m

abbrev fault : CondKind → ℕ → Meter → Outcome Datum
fault kind at m = Fault kind at m

done_same : (a d : Datum) (k j : Meter) → done a k ≡ done d j → a ≡ d
done_same a d k j e = cc

done_fault : (a : Datum) (k j : Meter) (kind : CondKind) (at : ℕ) → done a k ≡ fault kind at j → ⊥
done_fault a k j kind at e = absurd cc

module _ (members : ℕ → Datum → Bool) (m : ℕ) (hyps : List Term) (later : Names) (right : later.is_member ≡ members) (known : Known m later hyps)
    (at : ℕ) (gs : List Goals) (made : Term) (run : Run Datum) (k : Meter) (follows : (u : Names) → Agree m later u → Follows u (all_goals gs) run made) where
  here_true : (d : Datum) (j : Meter) → run k ≡ Done d j → (u : Names) → Agree m later u → AllTrue u (all_goals gs)
  here_true d j e u a = by (follows u a k) where
    by : (AllTrue u (all_goals gs) × (run k ≡ Done (datum_of u made) k)) ⊎ ((AllTrue u (all_goals gs) → ⊥) × IsFault (run k)) → AllTrue u (all_goals gs)
    by (inl h) = h.0
    by (inr h) = absurd (done_fault d j h.1.2 h.1.0 h.1.1 (sym e ∙ h.1.3))

  here_means : (d : Datum) (j : Meter) → run k ≡ Done d j → (u : Names) → Agree m later u → (sense u made).datum ≡ d
  here_means d j e u a = by (follows u a k) where
    by : (AllTrue u (all_goals gs) × (run k ≡ Done (datum_of u made) k)) ⊎ ((AllTrue u (all_goals gs) → ⊥) × IsFault (run k)) → (sense u made).datum ≡ d
    by (inl h) = done_same (datum_of u made) d k j (sym h.1 ∙ e)
    by (inr h) = absurd (done_fault d j h.1.2 h.1.0 h.1.1 (sym e ∙ h.1.3))

  no_fault : (kind : CondKind) (from : ℕ) (j : Meter) → run k ≡ Fault kind from j → AreTrueBy members (owe_goals at hyps gs) → ⊥
  no_fault kind from j e t = by (follows later (agree_refl m later) k) where
    by : (AllTrue later (all_goals gs) × (run k ≡ Done (datum_of later made) k)) ⊎ ((AllTrue later (all_goals gs) → ⊥) × IsFault (run k)) → ⊥
    by (inl h) = done_fault (datum_of later made) k j kind from (sym h.1 ∙ e)
    by (inr h) = h.0 (owed_goals_true members at later right hyps gs (known later (agree_refl m later)) t)

  ended : (q : Bool) (n : ℕ) (names : Names) → Goes q n names later → HasSort made val_sort → (o : Outcome Datum) → run k ≡ o → Good (AreTrueBy members (owe_goals at hyps gs)) o (Ok q n names m (assume_goals hyps gs) made)
  ended q n names goes is (Done d j) e = record {
    later = later;
    goes = goes;
    known = λ u a. goals_assumed_true u hyps gs (known u a) (here_true d j e u a);
    means = here_means d j e;
    is = is;
  }
  ended q n names goes is (Fault kind from j) e = no_fault kind from j e
  ended q n names goes is (More j) e = tt
  ended q n names goes is Spent e = tt

-- where a run follows its goals at all later names, it is no fault, and its term means its answer
pub finish : (members : ℕ → Datum → Bool) (q : Bool) (n : ℕ) (names : Names) (m : ℕ) (hyps : List Term) (later : Names) → names.is_member ≡ members → Goes q n names later → Known m later hyps
    → (at : ℕ) (gs : List Goals) (made : Term) → HasSort made val_sort → (run : Run Datum) (k : Meter) → ((u : Names) → Agree m later u → Follows u (all_goals gs) run made)
    → Good (AreTrueBy members (owe_goals at hyps gs)) (run k) (Ok q n names m (assume_goals hyps gs) made)
finish members q n names m hyps later right goes known at gs made is run k follows =
    ended members m hyps later (right_later members n names later right (goes_agree q n names later goes)) known at gs made run k follows q n names goes is (run k) refl

-- ---- two expressions, one after the other

pub record Two (q : Bool) (n : ℕ) (names : Names) (m : ℕ) (hyps : List Term) (s t : Term) (c d : Datum) : Type 0 where
  pub later : Names
  pub goes : Goes q n names later
  pub known : Known m later hyps
  pub first : Means m later s c
  pub second : Means m later t d
  pub first_is : HasSort s val_sort
  pub second_is : HasSort t val_sort

pub two_of : (q : Bool) (n : ℕ) (names : Names) (m1 m2 : ℕ) (h1 h2 : List Term) (s t : Term) (c d : Datum) → n ≤ m1 → m1 ≤ m2 → (x : Ok q n names m1 h1 s c) → Ok q m1 x.later m2 h2 t d → Two q n names m2 h2 s t c d
two_of q n names m1 m2 h1 h2 s t c d le1 le2 x y = record {
  later = y.later;
  goes = goes_trans q n m1 names x.later y.later le1 x.goes y.goes;
  known = y.known;
  first = means_later m1 m2 x.later y.later s c le2 (goes_agree q m1 x.later y.later y.goes) x.means;
  second = y.means;
  first_is = x.is;
  second_is = y.is;
}

-- both are evaluated, and then comes the last step
pub pair : (members : ℕ → Datum → Bool) (q : Bool) (n : ℕ) (names : Names) (v r : Walked) (goals : List Owed) (a : Outcome Datum) (b : Run Datum) (f : Datum → Datum → Run Datum) (P : Datum → Type 0) → n ≤ v.count → v.count ≤ r.count
    → Good (AreTrueBy members v.owed) a (Ok q n names v.count v.hyps v.term)
    → ((c : Datum) (x : Ok q n names v.count v.hyps v.term c) (j : Meter) → Good (AreTrueBy members r.owed) (b j) (Ok q v.count x.later r.count r.hyps r.term))
    → ((c d : Datum) (j i : Meter) → a ≡ Done c j → b j ≡ Done d i → Two q n names r.count r.hyps v.term r.term c d → Good (AreTrueBy members goals) (f c d i) P)
    → Good (AreTrueBy members ((v.owed ++ r.owed) ++ goals)) (a >>= (λ c j. b j >>= f c)) P
pair members q n names v r goals a b f P le1 le2 g h end =
    good_bind (AreTrueBy members ((v.owed ++ r.owed) ++ goals)) (AreTrueBy members v.owed) (AreTrueBy members (r.owed ++ goals)) a (λ c j. b j >>= f c) (Ok q n names v.count v.hyps v.term) P
    (λ t. true_left members v.owed r.owed (true_left members (v.owed ++ r.owed) goals t)) (true_after members v.owed r.owed goals) g (λ c j eq x.
    good_bind (AreTrueBy members (r.owed ++ goals)) (AreTrueBy members r.owed) (AreTrueBy members goals) (b j) (f c) (Ok q v.count x.later r.count r.hyps r.term) P
    (true_left members r.owed goals) (true_right members r.owed goals) (h c x j) (λ d i e y.
    end c d j i eq e (two_of q n names v.count r.count v.hyps r.hyps v.term r.term c d le1 le2 x y)))

-- the same, where what is owed leans to the right
pub pair_right : (members : ℕ → Datum → Bool) (q : Bool) (n : ℕ) (names : Names) (v r : Walked) (goals : List Owed) (a : Outcome Datum) (b : Run Datum) (f : Datum → Datum → Run Datum) (P : Datum → Type 0) → n ≤ v.count → v.count ≤ r.count
    → Good (AreTrueBy members v.owed) a (Ok q n names v.count v.hyps v.term)
    → ((c : Datum) (x : Ok q n names v.count v.hyps v.term c) (j : Meter) → Good (AreTrueBy members r.owed) (b j) (Ok q v.count x.later r.count r.hyps r.term))
    → ((c d : Datum) (j i : Meter) → a ≡ Done c j → b j ≡ Done d i → Two q n names r.count r.hyps v.term r.term c d → Good (AreTrueBy members goals) (f c d i) P)
    → Good (AreTrueBy members (v.owed ++ (r.owed ++ goals))) (a >>= (λ c j. b j >>= f c)) P
pair_right members q n names v r goals a b f P le1 le2 g h end =
    good_bind (AreTrueBy members (v.owed ++ (r.owed ++ goals))) (AreTrueBy members v.owed) (AreTrueBy members (r.owed ++ goals)) a (λ c j. b j >>= f c) (Ok q n names v.count v.hyps v.term) P
    (true_left members v.owed (r.owed ++ goals)) (true_right members v.owed (r.owed ++ goals)) g (λ c j eq x.
    good_bind (AreTrueBy members (r.owed ++ goals)) (AreTrueBy members r.owed) (AreTrueBy members goals) (b j) (f c) (Ok q v.count x.later r.count r.hyps r.term) P
    (true_left members r.owed goals) (true_right members r.owed goals) (h c x j) (λ d i e y.
    end c d j i eq e (two_of q n names v.count r.count v.hyps r.hyps v.term r.term c d le1 le2 x y)))

-- an answer that is a number
pub done_as : (c : Datum) (z : ℤ) (k : Meter) (o : Outcome Datum) → o ≡ Done c k → c ≡ Whole z → o ≡ Done (Whole z) k
done_as c z k o e is = e ∙ ap (λ (d : Datum). done d k) is

pub means_as : (c : Datum) (z : ℤ) (t : Term) (m : ℕ) (names : Names) → Means m names t c → c ≡ Whole z → Means m names t (Whole z)
means_as c z t m names h is u a = h u a ∙ is
