-- Clauses whose goals are true are true where they have an answer.
use Rattle.std.proofs.Common.{◌≡◌, ℕ, ◌≤◌, List, [], ◌∷◌, ◌++◌, Bool, true, false, refl, sym, ap, ◌∙◌}
use Rattle.wy_value.specs.Datum.{Datum, Null, Truth, Whole, Array, Record}
use Rattle.wy_core.specs.CoreTree.{Expr}
use Rattle.wy_term.specs.declared.cond.CondKind.{CondKind}
use Rattle.wy_term.specs.Term.{Term}
use Rattle.wy_term.specs.Meaning.{Names}
use Rattle.wy_sound_terms.specs.wy_sem.Meter.{Meter, Done}
use Rattle.wy_sound_terms.specs.wy_sem.Expressions as sem
use Rattle.wy_sound_terms.specs.wy_vc_spec.Variables.{Vars}
use Rattle.wy_sound_terms.specs.wy_vc_spec.Values.{Setting, named_in}
use Rattle.wy_sound_terms.specs.wy_vc_spec.Owed.{assume_all, owe}
use Rattle.wy_sound_terms.specs.wy_vc_spec.Clauses.{goals, owe_clauses}
use Rattle.wy_sound_terms.proofs.formed_lemmas.ValueLemmas.{AreData}
use Rattle.wy_sound_terms.specs.operations.Kinds.{IsTruth}
use Rattle.wy_sound_terms.proofs.operations_lemmas.MadeLemmas.{all}
use Rattle.wy_sound_terms.proofs.operations_lemmas.FollowLemmas.{true_all}
use Rattle.wy_sound_walks.specs.expressions.Names.{Agree, Known, Stand}
use Rattle.wy_sound_walks.specs.expressions.Truth.{AreTrueBy}
use Rattle.wy_sound_walks.specs.expressions.Laws.{NamesTold}
use Rattle.wy_sound_walks.proofs.expressions_lemmas.NameLemmas.{agree_refl, agree_less, stand_later, right_later}
use Rattle.wy_sound_walks.proofs.expressions_lemmas.GoodLemmas.{true_left, true_right}
use Rattle.wy_sound_walks.proofs.expressions_lemmas.AssumeLemmas.{all_assumed_true, owed_true}
use Rattle.wy_sound_walks.proofs.expressions_lemmas.CallGrows.{goals_grow}
use Rattle.wy_sound_walks.specs.clauses.Clauses.{Fits, AllFit, IsTrueIfDone, AreTrueIfDone}
use Rattle.wy_sound_walks.proofs.clauses_lemmas.ClauseLemmas.{goals_at}

module _ {N : Type 0} (w : sem.Setting N) (s : Setting N) (members : ℕ → Datum → Bool) (told : NamesTold members (named_in s)) (words : List (List ℕ)) where
  truth_holds : (e : Expr N) (vars : Vars) (n : ℕ) (names : Names) (seen : ℕ → Bool) (st : sem.Store) → Fits w s members seen e st → names.is_member ≡ members → AreData vars → Stand n names vars seen st → all names (goals s words e vars n).terms ≡ true
      → (v : Datum) → IsTruth v → (m j : Meter) → sem.eval (sem.quiet w) false e st m ≡ Done v j → v ≡ Truth true
  truth_holds e vars n names seen st fits right da sd h (Truth b) is m j eq =
      ap Truth (sym (goals_at w s members told words e vars n names seen st fits right da sd b m j eq names (agree_refl (goals s words e vars n).count names)) ∙ h)
  truth_holds e vars n names seen st fits right da sd h Null is m j eq = absurd is
  truth_holds e vars n names seen st fits right da sd h (Whole z) is m j eq = absurd is
  truth_holds e vars n names seen st fits right da sd h (Array ds) is m j eq = absurd is
  truth_holds e vars n names seen st fits right da sd h (Record fs) is m j eq = absurd is

  pub owed_hold : (kind : CondKind) (at : ℕ) (vars : Vars) (names : Names) (seen : ℕ → Bool) (st : sem.Store) → names.is_member ≡ members → AreData vars
      → (es : List (Expr N)) (n : ℕ) (hyps : List Term) → AllFit w s members seen es st → Stand n names vars seen st → Known n names hyps → AreTrueBy members (owe_clauses s kind at words es vars hyps n).owed → AreTrueIfDone w es st
  owed_hold kind at vars names seen st right da [] n hyps fit sd h t = tt
  owed_hold kind at vars names seen st right da (e ∷ es) n hyps fit sd h t =
      let first = goals s words e vars n in
      let g = goals_grow s words e vars n in
      let rest = owe_clauses s kind at words es vars (assume_all hyps first.terms) first.count in
      let one = true_left members (owe kind at hyps first.terms) rest.owed t in
      let here = true_all names first.terms (owed_true members kind at names right hyps first.terms (h names (agree_refl n names)) one) in (
        (λ v m j eq. truth_holds e vars n names seen st fit.0 right da sd here v (fit.0.truth v m j eq) m j eq),
        owed_hold kind at vars names seen st right da es first.count (assume_all hyps first.terms) fit.1 (stand_later n first.count names names vars seen st g (agree_refl n names) sd)
            (λ u a. let b = agree_less n first.count names u g a in all_assumed_true u hyps first.terms (h u b) (owed_true members kind at u (right_later members n names u right b) hyps first.terms (h u b) one))
            (true_right members (owe kind at hyps first.terms) rest.owed t),
      )
