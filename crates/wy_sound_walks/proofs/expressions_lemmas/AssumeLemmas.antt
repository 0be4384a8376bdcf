-- What is assumed holds where the formulas do, and goals hold where they are owed and their conditions are true.
use Rattle.std.proofs.Common.{◌≡◌, ℕ, List, [], ◌∷◌, ◌++◌, Bool, true, false, ◌&&◌, refl}
use Rattle.wy_lemmas.proofs.Choices.{both_parts as and_true}
use Rattle.wy_value.specs.Datum.{Datum}
use Rattle.wy_term.specs.declared.cond.CondKind.{CondKind}
use Rattle.wy_term.specs.Term.{Term, Of, Parts, no_parts, part, all_of}
use Rattle.wy_term.specs.Meaning.{Names, sense, senses_of, all_hold}
use Rattle.wy_term.specs.Condition.{AllTrue}
use Rattle.wy_sound_terms.specs.wy_vc_spec.Owed.{Owed, members as parts, members_of as parts_of, assume, assume_all, owe}
use Rattle.wy_sound_terms.specs.wy_vc_spec.Walks.{Goals, assume_goals, owe_goals}
use Rattle.wy_sound_terms.specs.operations.Agreement.{all_goals}
use Rattle.wy_sound_terms.proofs.operations_lemmas.FollowLemmas.{true_before, true_first, true_second}
use Rattle.wy_sound_walks.specs.expressions.Truth.{AreTrueBy}
use Rattle.wy_sound_walks.proofs.expressions_lemmas.GoodLemmas.{true_left, true_right}

mutual
  parts_true : (names : Names) (f : Term) → (sense names f).truth ≡ true → AllTrue names (parts f)
  parts_true names (Of all_of fs) h = members_true names fs h
  parts_true names f h = (h, tt)

  members_true : (names : Names) (fs : Parts) → all_hold (senses_of fs) names ≡ true → AllTrue names (parts_of fs)
  members_true names no_parts h = tt
  members_true names (part f fs) h =
      let two = and_true (sense names f).truth (all_hold (senses_of fs) names) h in
      true_before names (parts f) (parts_of fs) (parts_true names f two.0) (members_true names fs two.1)

pub assumed_true : (names : Names) (hyps : List Term) (f : Term) → AllTrue names hyps → (sense names f).truth ≡ true → AllTrue names (assume hyps f)
assumed_true names hyps f h g = true_before names hyps (parts f) h (parts_true names f g)

pub all_assumed_true : (names : Names) (hyps fs : List Term) → AllTrue names hyps → AllTrue names fs → AllTrue names (assume_all hyps fs)
all_assumed_true names hyps [] h g = h
all_assumed_true names hyps (f ∷ fs) h g = all_assumed_true names (assume hyps f) fs (assumed_true names hyps f h g.0) g.1

pub goals_assumed_true : (names : Names) (hyps : List Term) (gs : List Goals) → AllTrue names hyps → AllTrue names (all_goals gs) → AllTrue names (assume_goals hyps gs)
goals_assumed_true names hyps [] h g = h
goals_assumed_true names hyps (x ∷ gs) h g =
    goals_assumed_true names (assume_all hyps x.goals) gs (all_assumed_true names hyps x.goals h (true_first names x.goals (all_goals gs) g)) (true_second names x.goals (all_goals gs) g)

-- goals that are owed
pub owed_true : (members : ℕ → Datum → Bool) (kind : CondKind) (at : ℕ) (names : Names) → names.is_member ≡ members → (hyps gs : List Term) → AllTrue names hyps → AreTrueBy members (owe kind at hyps gs) → AllTrue names gs
owed_true members kind at names right hyps [] h t = tt
owed_true members kind at names right hyps (g ∷ gs) h t =
    let one = t.0 names right h in (one, owed_true members kind at names right (assume hyps g) gs (assumed_true names hyps g h one) t.1)

pub owed_goals_true : (members : ℕ → Datum → Bool) (at : ℕ) (names : Names) → names.is_member ≡ members → (hyps : List Term) (gs : List Goals) → AllTrue names hyps → AreTrueBy members (owe_goals at hyps gs) → AllTrue names (all_goals gs)
owed_goals_true members at names right hyps [] h t = tt
owed_goals_true members at names right hyps (x ∷ gs) h t =
    let first = owed_true members x.kind at names right hyps x.goals h (true_left members (owe x.kind at hyps x.goals) (owe_goals at (assume_all hyps x.goals) gs) t) in
    let rest = owed_goals_true members at names right (assume_all hyps x.goals) gs (all_assumed_true names hyps x.goals h first) (true_right members (owe x.kind at hyps x.goals) (owe_goals at (assume_all hyps x.goals) gs) t) in
    true_before names x.goals (all_goals gs) first rest
