-- A line begins with one word of a step.
use Rattle.std.proofs.Common.{◌≡◌, ℕ, ◌+◌, ◌*◌, cond, List, [], ◌∷◌, ◌++◌, codes, refl, sym, ap, ◌∙◌, subst}
use Rattle.std.specs.Prelude.{◌==◌}
use Rattle.wy_term_text.proofs.wy_lemmas_proofs.Lists.{append_cancel}
use Rattle.wy_data.specs.scan.Front.{IsBehind, NotBehind}
use Rattle.wy_cert.specs.declared.verb.Verb.{Verb}
use Rattle.wy_cert.specs.declared.verb.Verb.TheVariants as verb
use Rattle.wy_cert.specs.Lines.{word_of}

pub no_verb : (line : List ℕ) → NotBehind (codes "split ") line → NotBehind (codes "shut") line → NotBehind (codes "chain ") line → NotBehind (codes "clash ") line → NotBehind (codes "sum") line
    → NotBehind (codes "cut ") line → NotBehind (codes "inst ") line → NotBehind (codes "wit ") line → NotBehind (codes "fact ") line → NotBehind (codes "prod ") line
    → (v : Verb) → NotBehind (word_of v) line
no_verb line a b c d e f g h i j verb.Split = a
no_verb line a b c d e f g h i j verb.Shut = b
no_verb line a b c d e f g h i j verb.Chain = c
no_verb line a b c d e f g h i j verb.Clash = d
no_verb line a b c d e f g h i j verb.Sum = e
no_verb line a b c d e f g h i j verb.Cut = f
no_verb line a b c d e f g h i j verb.Inst = g
no_verb line a b c d e f g h i j verb.Wit = h
no_verb line a b c d e f g h i j verb.Fact = i
no_verb line a b c d e f g h i j verb.Prod = j

-- the first two bytes as a number
abbrev number_at : List ℕ → ℕ
number_at [] = 0
number_at (a ∷ []) = 0
number_at (a ∷ b ∷ i) = a * 256 + b

abbrev number_of : Verb → ℕ
number_of verb.Split = 29552
number_of verb.Shut = 29544
number_of verb.Chain = 25448
number_of verb.Clash = 25452
number_of verb.Sum = 29557
number_of verb.Cut = 25461
number_of verb.Inst = 26990
number_of verb.Wit = 30569
number_of verb.Fact = 26209
number_of verb.Prod = 28786

pub number_at-word : (v : Verb) (rest : List ℕ) → number_at (word_of v ++ rest) ≡ number_of v
number_at-word verb.Split rest = refl
number_at-word verb.Shut rest = refl
number_at-word verb.Chain rest = refl
number_at-word verb.Clash rest = refl
number_at-word verb.Sum rest = refl
number_at-word verb.Cut rest = refl
number_at-word verb.Inst rest = refl
number_at-word verb.Wit rest = refl
number_at-word verb.Fact rest = refl
number_at-word verb.Prod rest = refl

abbrev verb_from : ℕ → Verb
verb_from n =
    cond (n == 29552) verb.Split (cond (n == 29544) verb.Shut (cond (n == 25448) verb.Chain (cond (n == 25452) verb.Clash (cond (n == 29557) verb.Sum
    (cond (n == 25461) verb.Cut (cond (n == 26990) verb.Inst (cond (n == 30569) verb.Wit (cond (n == 26209) verb.Fact verb.Prod))))))))

pub verb_from-number : (v : Verb) → verb_from (number_of v) ≡ v
verb_from-number verb.Split = refl
verb_from-number verb.Shut = refl
verb_from-number verb.Chain = refl
verb_from-number verb.Clash = refl
verb_from-number verb.Sum = refl
verb_from-number verb.Cut = refl
verb_from-number verb.Inst = refl
verb_from-number verb.Wit = refl
verb_from-number verb.Fact = refl
verb_from-number verb.Prod = refl

pub record OneVerb (v w : Verb) (t u : List ℕ) : Type 0 where
  pub kind : v ≡ w
  pub text : t ≡ u

pub one_verb : (line : List ℕ) (v w : Verb) (t u : List ℕ) → IsBehind (word_of v) line t → IsBehind (word_of w) line u → OneVerb v w t u
one_verb line v w t u a b =
    let same : number_of v ≡ number_of w = sym (number_at-word v t) ∙ ap number_at (sym a.is ∙ b.is) ∙ number_at-word w u in
    let kind : v ≡ w = sym (verb_from-number v) ∙ ap verb_from same ∙ verb_from-number w in
    record { kind = kind; text = append_cancel (word_of w) t u (subst (λ (x : Verb). word_of x ++ t ≡ word_of w ++ u) kind (sym a.is ∙ b.is)) }
