-- Which lines spell which steps.
use Rattle.std.specs.Prelude.{◌≡◌, ℕ, ◌<◌, ◌≤◌, List, [], ◌∷◌, Bool, true, false, codes, length, Option, Some, None}
use Rattle.wy_data.specs.scan.Front.{IsBehind}
use Rattle.wy_term_text.specs.wy_term.Term.{Term}
use Rattle.wy_term_text.specs.wy_term.Sorts.{int_sort, formula_sort}
use Rattle.wy_term_text.specs.spell.Made.{IsSpelled}
use Rattle.wy_cert.specs.declared.verb.Verb.{Verb}
use Rattle.wy_cert.specs.declared.verb.Verb.TheVariants as verb
use Rattle.wy_cert.specs.Steps.{Written, split, shut, chain, clash, sum_of, cut, inst, wit, fact, prod}
use Rattle.wy_cert.specs.Numbers.{IsPlaceAt, IsMultiplierAt, ArePairs}
use Rattle.wy_cert.specs.Arguments.{AreArguments}

-- ---- what a line begins with

-- the word of a kind of step, with the space behind it where something else follows
abbrev pub word_of : Verb → List ℕ
word_of verb.Split = codes "split "
word_of verb.Shut = codes "shut"
word_of verb.Chain = codes "chain "
word_of verb.Clash = codes "clash "
word_of verb.Sum = codes "sum"
word_of verb.Cut = codes "cut "
word_of verb.Inst = codes "inst "
word_of verb.Wit = codes "wit "
word_of verb.Fact = codes "fact "
word_of verb.Prod = codes "prod "

-- ---- what follows it

pub record IsSplit (text : List ℕ) (w : Written) : Type 0 where
  pub formula : Term
  pub spelled : IsSpelled formula_sort text formula
  pub is : w ≡ split formula

pub record IsShut (text : List ℕ) (w : Written) : Type 0 where
  pub ends : text ≡ []
  pub is : w ≡ shut

pub record IsChain (text : List ℕ) (w : Written) : Type 0 where
  pub terms : List Term
  pub spelled : AreArguments false text terms
  pub is : w ≡ chain terms

-- a second literal behind a space, or none
abbrev pub IsOther : List ℕ → Option ℕ → Type 0
IsOther text None = text ≡ []
IsOther text (Some j) = (rest : List ℕ) × (text ≡ 32 ∷ rest) × IsPlaceAt rest j []

pub record IsClash (text : List ℕ) (w : Written) : Type 0 where
  pub first : ℕ
  pub rest : List ℕ
  pub second : Option ℕ
  pub literal : IsPlaceAt text first rest
  pub other : IsOther rest second
  pub is : w ≡ clash first second

pub record IsSum (text : List ℕ) (w : Written) : Type 0 where
  pub pairs : List (ℕ × ℕ)
  pub spelled : ArePairs text pairs
  pub some : 0 < length pairs
  pub is : w ≡ sum_of pairs

pub record IsCutStep (text : List ℕ) (w : Written) : Type 0 where
  pub divisor : ℕ
  pub rest : List ℕ
  pub pairs : List (ℕ × ℕ)
  pub number : IsMultiplierAt text divisor rest
  pub large : 2 ≤ divisor
  pub spelled : ArePairs rest pairs
  pub some : 0 < length pairs
  pub is : w ≡ cut divisor pairs

pub record IsInst (text : List ℕ) (w : Written) : Type 0 where
  pub first : ℕ
  pub rest : List ℕ
  pub term : Term
  pub literal : IsPlaceAt text first (32 ∷ rest)
  pub spelled : IsSpelled int_sort rest term
  pub is : w ≡ inst first term

pub record IsWit (text : List ℕ) (w : Written) : Type 0 where
  pub first : ℕ
  pub literal : IsPlaceAt text first []
  pub is : w ≡ wit first

pub record IsFact (text : List ℕ) (w : Written) : Type 0 where
  pub schema : ℕ
  pub rest : List ℕ
  pub arguments : List Term
  pub number : IsPlaceAt text schema (32 ∷ rest)
  pub small : schema ≤ 16
  pub spelled : AreArguments true rest arguments
  pub is : w ≡ fact schema arguments

pub record IsProd (products : Bool) (text : List ℕ) (w : Written) : Type 0 where
  pub first : ℕ
  pub between : List ℕ
  pub second : ℕ
  pub rest : List ℕ
  pub term : Term
  pub allowed : products ≡ true
  pub literal : IsPlaceAt text first (32 ∷ between)
  pub other : IsPlaceAt between second (32 ∷ rest)
  pub spelled : IsSpelled int_sort rest term
  pub is : w ≡ prod first second term

-- the text behind the word spells what the step has; `prod` may stand where products are allowed
abbrev pub IsBody : Bool → Verb → List ℕ → Written → Type 0
IsBody products verb.Split text w = IsSplit text w
IsBody products verb.Shut text w = IsShut text w
IsBody products verb.Chain text w = IsChain text w
IsBody products verb.Clash text w = IsClash text w
IsBody products verb.Sum text w = IsSum text w
IsBody products verb.Cut text w = IsCutStep text w
IsBody products verb.Inst text w = IsInst text w
IsBody products verb.Wit text w = IsWit text w
IsBody products verb.Fact text w = IsFact text w
IsBody products verb.Prod text w = IsProd products text w

-- the line spells the step
pub record IsStep (products : Bool) (line : List ℕ) (w : Written) : Type 0 where
  pub kind : Verb
  pub text : List ℕ
  pub begins : IsBehind (word_of kind) line text
  pub body : IsBody products kind text w
