-- Any two that meet the formulas of grounded types agree on these types.
use Rattle.std.proofs.Common.{◌≡◌, ℕ, List, [], ◌∷◌, Bool, true, refl, sym, ap, ◌∙◌, subst}
use Rattle.wy_term.specs.wy_value.Datum.{Datum}
use Rattle.wy_term.specs.Meaning.{Names}
use Rattle.wy_term.specs.Condition.{Entry, AreUnfolded}
use Rattle.wy_term.specs.Unfolding.{Question, IsFounded, founded, AnswerAlike, AnswerAlikeBefore, AskEarlier, AreGrounded}
use Rattle.wy_term_subst.specs.grounded.Readings.{AlikeOn}

abbrev pub ask : ℕ → Datum → Question
ask n d = record { type_number = n; datum = d }

-- if the question is of one of these types then both give one answer to it
abbrev AlikeAt : List Entry → Names → Names → Question → Type 0
AlikeAt [] names others q = Unit {0}
AlikeAt (e ∷ es) names others q = (q.type_number ≡ e.type_number → AnswerAlike names others q) × AlikeAt es names others q

alike_before : (before : Question → Question → Bool) (names others : Names) (q : Question) (es : List Entry) → ((p : Question) → before p q ≡ true → AlikeAt es names others p) → AnswerAlikeBefore before es q names others
alike_before before names others q [] below = tt
alike_before before names others q (e ∷ es) below = (λ d t. (below (ask e.type_number d) t).0 refl, alike_before before names others q es (λ p t. (below p t).1))

alike_now : (before : Question → Question → Bool) (types : List Entry) (names others : Names) (q : Question) (es : List Entry) → AskEarlier before types es → AreUnfolded names es → AreUnfolded others es → AnswerAlikeBefore before types q names others → AlikeAt es names others q
alike_now before types names others q [] earlier here there alike = tt
alike_now before types names others q (e ∷ es) earlier here there alike = (
  λ same.
      ap (λ (n : ℕ). names.is_member n q.datum) same
      ∙ (here.0 q.datum
      ∙ (earlier.0 q.datum names others (subst (λ (n : ℕ). AnswerAlikeBefore before types (ask n q.datum) names others) same alike)
      ∙ (sym (there.0 q.datum) ∙ ap (λ (n : ℕ). others.is_member n q.datum) (sym same)))),
  alike_now before types names others q es earlier.1 here.1 there.1 alike,
)

alike_at : (before : Question → Question → Bool) (types : List Entry) (names others : Names) → AskEarlier before types types → AreUnfolded names types → AreUnfolded others types → (q : Question) → IsFounded before q → AlikeAt types names others q
alike_at before types names others earlier here there q (founded r below) =
    alike_now before types names others r types earlier here there (alike_before before names others r types (λ p t. alike_at before types names others earlier here there p (below p t)))

alike_on : (names others : Names) (es : List Entry) → ((q : Question) → AlikeAt es names others q) → AlikeOn es names others
alike_on names others [] alike = tt
alike_on names others (e ∷ es) alike = (λ d. (alike (ask e.type_number d)).0 refl, alike_on names others es (λ q. (alike q).1))

pub one_reading : (types : List Entry) → AreGrounded types → (names others : Names) → AreUnfolded names types → AreUnfolded others types → AlikeOn types names others
one_reading types g names others here there = alike_on names others types (λ q. alike_at g.before types names others g.earlier here there q (g.descends q))
