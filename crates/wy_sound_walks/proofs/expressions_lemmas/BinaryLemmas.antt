-- Operators on two operands.
use Rattle.std.proofs.Common.{◌≡◌, ℕ, ◌≤◌, List, [], ◌∷◌, ◌++◌, Bool, true, false, refl, sym, ap, ◌∙◌, subst}
use Rattle.wy_value.specs.Datum.{Datum, Null, Truth, Whole, Array, Record}
use Rattle.wy_core.specs.declared.expressions.Op.{Op}
use Rattle.wy_core.specs.declared.expressions.Op.TheVariants.{Add, Sub, Mul, Div, Mod, Equal, Less, LessEqual, Greater, GreaterEqual, And, Or}
use Rattle.wy_term.specs.Term.{Term}
use Rattle.wy_term.specs.Sorts.{val_sort}
use Rattle.wy_term.specs.Meaning.{Names}
use Rattle.wy_term_subst.specs.kept_sorts.SortKept.{HasSort}
use Rattle.wy_sound_terms.specs.wy_sem.Meter.{Meter, Outcome, Done, Run, ◌>>=◌, choose}
use Rattle.wy_sound_terms.specs.wy_sem.Operations.{as_truth, applied, second, operated}
use Rattle.wy_sound_terms.specs.wy_vc_spec.Making.{denied, formula}
use Rattle.wy_sound_terms.specs.wy_vc_spec.Operations as op
use Rattle.wy_sound_terms.specs.wy_vc_spec.Owed.{Owed, assume}
use Rattle.wy_sound_terms.specs.wy_vc_spec.Calls.{Walked}
use Rattle.wy_sound_terms.specs.wy_vc_spec.Walks.{operator_goals, right_hyps, behind_hyps, assume_goals, owe_goals}
use Rattle.wy_sound_terms.proofs.formed_lemmas.MakingLemmas.{operated_sorted}
use Rattle.wy_sound_terms.specs.operations.Kinds.{IsTruth, Takes}
use Rattle.wy_sound_terms.specs.operations.Agreement.{Follows, all_goals}
use Rattle.wy_sound_terms.proofs.operations_lemmas.MadeLemmas.{denied_means, formula_means}
use Rattle.wy_sound_terms.proofs.operations_lemmas.OperatorLemmas.{operator}
use Rattle.wy_sound_terms.proofs.operations_lemmas.FollowLemmas.{follows_done}
use Rattle.wy_sound_terms.proofs.operations_lemmas.OtherLemmas.{and_false, or_true}
use Rattle.wy_sound_walks.specs.expressions.Names.{Agree, Known, Means}
use Rattle.wy_sound_walks.specs.expressions.Truth.{AreTrueBy, Good}
use Rattle.wy_sound_walks.specs.expressions.Suits.{TakesLeft, GoesOn}
use Rattle.wy_sound_walks.specs.expressions.Sound.{Ok}
use Rattle.wy_sound_walks.proofs.expressions_lemmas.NameLemmas.{agree_refl, agree_less, goes_agree, goes_trans, known_later, means_later}
use Rattle.wy_sound_walks.proofs.expressions_lemmas.GoodLemmas.{true_left, true_right, true_after, good_bind}
use Rattle.wy_sound_walks.proofs.expressions_lemmas.AssumeLemmas.{assumed_true}
use Rattle.wy_sound_walks.proofs.expressions_lemmas.FinishLemmas.{finish, Two, two_of}

-- what the right operand is walked under holds where it is evaluated
pub right_known : (o : Op) (m : ℕ) (names : Names) (t : Term) (hyps : List Term) (d : Datum) → Known m names hyps → Means m names t d → GoesOn o d → Known m names (right_hyps o t hyps)
right_known And m names t hyps d h g e = λ u a. assumed_true u hyps (formula t) (h u a) (formula_means u t true (g u a ∙ e))
right_known Or m names t hyps d h g e = λ u a. assumed_true u hyps (denied (formula t)) (h u a) (rw (denied_means u (formula t), formula_means u t false (g u a ∙ e)) refl)
right_known o m names t hyps d h g e = h

module _ (members : ℕ → Datum → Bool) (q : Bool) (n : ℕ) (names : Names) (right : names.is_member ≡ members) (at1 at2 : ℕ) (numbers : Bool) (v w : Walked) (le1 : n ≤ v.count) (le2 : v.count ≤ w.count) (b : Run Datum) where
  abbrev made : Op → Term
  made o = op.operated o numbers v.term w.term

  abbrev Goals : Op → Type 0
  Goals o = AreTrueBy members (owe_goals at1 (behind_hyps o v.hyps w.hyps) (operator_goals o w.term (made o)))

  abbrev Ends : Op → Datum → Type 0
  Ends o d = Ok q n names w.count (assume_goals (behind_hyps o v.hyps w.hyps) (operator_goals o w.term (made o))) (made o) d

  -- both operands were evaluated
  applied_right : (o : Op) (d e : Datum) (k : Meter) → Two q n names w.count (behind_hyps o v.hyps w.hyps) v.term w.term d e → Takes o numbers d e → Good (Goals o) (applied o at2 d e k) (Ends o)
  applied_right o d e k two takes =
      finish members q n names w.count (behind_hyps o v.hyps w.hyps) two.later right two.goes two.known at1 (operator_goals o w.term (made o)) (made o)
      (operated_sorted o numbers (record { has = two.first_is }) (record { has = two.second_is })).has (applied o at2 d e) k
      (λ u a. operator u o numbers v.term w.term at2 d e (two.first u a) (two.second u a) takes)

  abbrev Left : Datum → Type 0
  Left d = Ok q n names v.count v.hyps v.term d

  abbrev After : Op → Type 0
  After o = AreTrueBy members (w.owed ++ owe_goals at1 (behind_hyps o v.hyps w.hyps) (operator_goals o w.term (made o)))

  -- the left one was evaluated, and the right one is
  seconded : (o : Op) (d : Datum) (x : Left d) (l : Meter) → Good (AreTrueBy members w.owed) (b l) (Ok q v.count x.later w.count w.hyps w.term)
      → ((e : Datum) → Ok q v.count x.later w.count w.hyps w.term e → Two q n names w.count (behind_hyps o v.hyps w.hyps) v.term w.term d e) → ((e : Datum) (j : Meter) → b l ≡ Done e j → Takes o numbers d e)
      → Good (After o) (second o at2 b d l) (Ends o)
  seconded o d x l g two takes =
      good_bind (After o) (AreTrueBy members w.owed) (Goals o) (b l) (λ e k. applied o at2 d e k) (Ok q v.count x.later w.count w.hyps w.term) (Ends o)
      (true_left members w.owed (owe_goals at1 (behind_hyps o v.hyps w.hyps) (operator_goals o w.term (made o))))
      (true_right members w.owed (owe_goals at1 (behind_hyps o v.hyps w.hyps) (operator_goals o w.term (made o))))
      g (λ e j eq y. applied_right o d e j (two e y) (takes e j eq))

  both_here : (d e : Datum) (x : Left d) → Ok q v.count x.later w.count w.hyps w.term e → Two q n names w.count w.hyps v.term w.term d e
  both_here d e x y = two_of q n names v.count w.count v.hyps w.hyps v.term w.term d e le1 le2 x y

  -- what the right one told is forgotten
  both_left : (d e : Datum) (x : Left d) → Ok q v.count x.later w.count w.hyps w.term e → Two q n names w.count v.hyps v.term w.term d e
  both_left d e x y = record {
    later = y.later;
    goes = goes_trans q n v.count names x.later y.later le1 x.goes y.goes;
    known = known_later v.count w.count x.later y.later v.hyps le2 (goes_agree q v.count x.later y.later y.goes) x.known;
    first = means_later v.count w.count x.later y.later v.term d le2 (goes_agree q v.count x.later y.later y.goes) x.means;
    second = y.means;
    first_is = x.is;
    second_is = y.is;
  }

  -- the left one decides
  decided : (o : Op) (z : Bool) (x : Left (Truth z)) (k : Meter) → behind_hyps o v.hyps w.hyps ≡ v.hyps → operator_goals o w.term (made o) ≡ [] → HasSort (made o) val_sort
      → ((u : Names) → Agree w.count x.later u → Follows u [] (Done (Truth z)) (made o)) → Good (Unit {0}) (Done (Truth z) k) (Ok q n names w.count v.hyps (made o))
  decided o z x k e g is follows =
      finish members q n names w.count v.hyps x.later right x.goes (known_later v.count w.count x.later x.later v.hyps le2 (agree_refl v.count x.later) x.known) at1 [] (made o) is (Done (Truth z)) k follows

  and_case : (w_is : HasSort w.term val_sort) (d : Datum) → IsTruth d → (x : Left d) (k : Meter) → (d ≡ Truth true → Good (After And) (second And at2 b d k) (Ends And)) → Good (After And) (operated And at2 b d k) (Ends And)
  and_case w_is (Truth true) h x k g = g refl
  and_case w_is (Truth false) h x k g =
      decided And false x k refl refl (operated_sorted And numbers (record { has = x.is }) (record { has = w_is })).has
      (λ u a. follows_done u (Truth false) (made And) (and_false u numbers v.term w.term (x.means u (agree_less v.count w.count x.later u le2 a))))
  and_case w_is Null h x k g = absurd h
  and_case w_is (Whole z) h x k g = absurd h
  and_case w_is (Array ds) h x k g = absurd h
  and_case w_is (Record fs) h x k g = absurd h

  or_case : (w_is : HasSort w.term val_sort) (d : Datum) → IsTruth d → (x : Left d) (k : Meter) → (d ≡ Truth false → Good (After Or) (second Or at2 b d k) (Ends Or)) → Good (After Or) (operated Or at2 b d k) (Ends Or)
  or_case w_is (Truth false) h x k g = g refl
  or_case w_is (Truth true) h x k g =
      decided Or true x k refl refl (operated_sorted Or numbers (record { has = x.is }) (record { has = w_is })).has
      (λ u a. follows_done u (Truth true) (made Or) (or_true u numbers v.term w.term (x.means u (agree_less v.count w.count x.later u le2 a))))
  or_case w_is Null h x k g = absurd h
  or_case w_is (Whole z) h x k g = absurd h
  or_case w_is (Array ds) h x k g = absurd h
  or_case w_is (Record fs) h x k g = absurd h

  abbrev Next : Op → Outcome Datum → Type 0
  Next o a = (d : Datum) (k : Meter) → a ≡ Done d k → GoesOn o d → (x : Left d) → (l : Meter) → Good (AreTrueBy members w.owed) (b l) (Ok q v.count x.later w.count w.hyps w.term)

  abbrev Both : Op → Outcome Datum → Type 0
  Both o a = (d : Datum) (k : Meter) → a ≡ Done d k → GoesOn o d → (e : Datum) (l j : Meter) → b l ≡ Done e j → Takes o numbers d e

  -- behind the left one
  operated_right : (o : Op) (w_is : HasSort w.term val_sort) (a : Outcome Datum) (d : Datum) (k : Meter) → a ≡ Done d k → TakesLeft o d → Next o a → Both o a → (x : Left d) → Good (After o) (operated o at2 b d k) (Ends o)
  operated_right And w_is a d k eq left next both x =
      and_case w_is d left x k (λ t. seconded And d x k (next d k eq t x k) (λ e y. both_left d e x y) (λ e j f. both d k eq t e k j f))
  operated_right Or w_is a d k eq left next both x =
      or_case w_is d left x k (λ t. seconded Or d x k (next d k eq t x k) (λ e y. both_left d e x y) (λ e j f. both d k eq t e k j f))
  operated_right o w_is a d k eq left next both x = seconded o d x k (next d k eq tt x k) (λ e y. both_here d e x y) (λ e j f. both d k eq tt e k j f)

  abbrev All : Op → Type 0
  All o = AreTrueBy members ((v.owed ++ w.owed) ++ owe_goals at1 (behind_hyps o v.hyps w.hyps) (operator_goals o w.term (made o)))

  pub binary : (o : Op) (w_is : HasSort w.term val_sort) (a : Outcome Datum) → Good (AreTrueBy members v.owed) a Left → ((d : Datum) (k : Meter) → a ≡ Done d k → TakesLeft o d) → Next o a → Both o a → Good (All o) (a >>= operated o at2 b) (Ends o)
  binary o w_is a g left next both =
      let goals = owe_goals at1 (behind_hyps o v.hyps w.hyps) (operator_goals o w.term (made o)) in
      good_bind (All o) (AreTrueBy members v.owed) (After o) a (operated o at2 b) Left (Ends o)
      (λ t. true_left members v.owed w.owed (true_left members (v.owed ++ w.owed) goals t)) (true_after members v.owed w.owed goals) g
      (λ d k eq x. operated_right o w_is a d k eq (left d k eq) next both x)
