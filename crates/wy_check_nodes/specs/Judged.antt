-- What is known of formulas, and which pending formulas fail.
use Rattle.std.specs.Prelude.{◌≡◌, ℕ, List, [], ◌∷◌, ◌||◌, Bool, true, false, not, Some, nat_eq}
use Rattle.std.specs.HashMap.{get}
use Rattle.wy_check_spec.specs.wy_term.Term.{Term, Of, denied, all_of, any_of}
use Rattle.wy_check_spec.specs.declared.judge.verdict.Verdict.{Verdict}
use Rattle.wy_check_spec.specs.declared.judge.verdict.Verdict.TheVariants.{Yes, No, Open}
use Rattle.wy_check_spec.specs.judge.Node.{Literal}
use Rattle.wy_check_spec.specs.judge.Judgement.{judged}
use Rattle.wy_check_nodes.specs.declared.judging.Known.{Known}
use Rattle.wy_check_spec.specs.valid.Literals.{is_no}

-- what is noted is what the literals say
abbrev pub Knows : (ℕ → Term) → List Literal → Known → Type 0
Knows at ls known = (f : ℕ) (v : Verdict) → get nat_eq known.verdicts f ≡ Some v → v ≡ judged ls (at f)

-- a formula that is made of others: what the literals say of any other, they say of an atom
abbrev pub is_connective : Term → Bool
is_connective (Of denied ps) = true
is_connective (Of all_of ps) = true
is_connective (Of any_of ps) = true
is_connective t = false

-- a formula with this verdict, or its denial, is judged no
abbrev pub fails : Verdict → Bool → Bool
fails Yes holds = not holds
fails No holds = holds
fails Open holds = false

-- one of the formulas is judged no
abbrev pub is_any_refuted : List Literal → List Term → Bool
is_any_refuted ls [] = false
is_any_refuted ls (f ∷ fs) = is_no (judged ls f) || is_any_refuted ls fs
