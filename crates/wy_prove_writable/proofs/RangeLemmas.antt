-- A name is a word exactly where it is read as one to its end.
use Rattle.std.proofs.Common.{◌≡◌, ◌∙◌, ◌↔◌, ℕ, List, [], ◌∷◌, ◌++◌, Bool, true, false, IsTrue, length, refl, sym, subst}
use Rattle.std.proofs.lemmas.List.{append-nil}
use Rattle.std.proofs.Math.Dec.{eqb-suc-zero}
use Rattle.std.specs.Prelude.{◌==◌}
use Rattle.wy_lemmas.proofs.Choices.{true_false, never_true as never}
use Rattle.wy_data.specs.scan.Front.{AllPass, is_word_byte}
use Rattle.wy_data.specs.scan.Words.{IsWord, IsWordAt, NoWord}

behind_passes : (test : ℕ → Bool) (front : List ℕ) (b : ℕ) (rest : List ℕ) → AllPass test (front ++ b ∷ rest) → test b ≡ true
behind_passes test [] b rest all = all.0
behind_passes test (a ∷ front) b rest all = behind_passes test front b rest all.1

whole_or_not : (text w rest : List ℕ) → IsWordAt text w rest → IsTrue (length rest == 0) ↔ IsWord text
whole_or_not text w [] at = ((λ t. subst IsWord (sym (at.is ∙ append-nil w)) at.word), (λ word. refl))
whole_or_not text w (b ∷ rest) at =
    ((λ ends. absurd (true_false (length (b ∷ rest) == 0) ends (eqb-suc-zero (length rest)))), (λ word. absurd (true_false (is_word_byte b) (behind_passes is_word_byte w b rest (subst (AllPass is_word_byte) at.is word.bytes)) at.ends)))

-- a name that is read as a word
pub word_there : (text name w rest : List ℕ) (ends : Bool) → text ≡ name → IsWordAt text w rest → ends ≡ (length rest == 0) → IsTrue ends ↔ IsWord name
word_there text name w rest ends e at is =
    subst (λ (b : Bool). IsTrue b ↔ IsWord name) (sym is) (subst (λ (n : List ℕ). IsTrue (length rest == 0) ↔ IsWord n) e (whole_or_not text w rest at))

-- one that isn't
pub word_none : (text name : List ℕ) → text ≡ name → NoWord text → IsTrue false ↔ IsWord name
word_none text name e none =
    ((λ f. never f), (λ word. absurd (none text [] (record { is = sym (append-nil text); word = subst IsWord (sym e) word; ends = refl }))))
