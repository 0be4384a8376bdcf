-- What it means that a reader reads exactly the texts of a rule, stops at each fault exactly where the rule meets it, and elsewhere
-- exactly at the first symbol after which no text goes on.
use Rattle.std.proofs.Common.{◌≡◌, ℕ, ◌≤◌, Bool, true, false, List, [], ◌∷◌, ◌++◌, length, Ok, Err, ◌⊎◌, arith}
use Rattle.std.specs.Bool.{⊤}
use Rattle.wy_reading.specs.declared.stop.Stop.TheVariants.{Unexpected, Fault}
use Rattle.wy_reading.specs.Mode.{Mode, Looser}
use Rattle.wy_reading.specs.Rule.{Rule, heads}
use Rattle.wy_reading.specs.Reader.{Reader}

-- the same first symbol, or none
abbrev pub SameHead : {S : Type 0} → List S → List S → Type 0
SameHead [] [] = ⊤
SameHead [] (t ∷ j) = ⊥
SameHead (s ∷ i) [] = ⊥
SameHead (s ∷ i) (t ∷ j) = s ≡ t

-- j' may stand for what is left, j: its first symbol is the same, or may follow
abbrev pub Instead : {S : Type 0} → (List S → Type 0) → List S → List S → Type 0
Instead F j j' = SameHead j j' ⊎ F j'

pub same_mode : (n : Mode) → Looser n n
same_mode n = (omega arith, λ h. h)

pub record Done {S X A : Type 0} (n : Mode) (q : Mode → Reader S X A) (F : A → List S → Type 0) (i : List S) (a : A) (j : List S) : Type 0 where
  pub front : List S
  pub cut : i ≡ front ++ j
  pub again : (m : Mode) → Looser n m → (j' : List S) → Instead (F a) j j' → q m (front ++ j') ≡ Ok (a, j')

pub record Stuck {S X A : Type 0} (n : Mode) (q : Mode → Reader S X A) (F : A → List S → Type 0) (B : List S → Type 0) (P : A → Type 0) (i : List S) (k : ℕ) : Type 0 where
  pub front : List S
  pub back : List S
  pub cut : i ≡ front ++ back
  pub left : k ≡ length back
  pub again : (m : Mode) → Looser n m → (j' : List S) → SameHead back j' → q m (front ++ j') ≡ Err (Unexpected (length j'))
  pub ending : List S
  pub made : A
  pub wanted : P made
  pub deep : ℕ
  pub alive : (m : Mode) → Looser n m → deep ≤ m.depth → (z : List S) → F made z → q m (front ++ (ending ++ z)) ≡ Ok (made, z)
  pub starts : (z : List S) → F made z → B (front ++ (ending ++ z))

pub record Sample {S X A : Type 0} (n : Mode) (q : Mode → Reader S X A) (F : A → List S → Type 0) (B : List S → Type 0) (P : A → Type 0) : Type 0 where
  pub text : List S
  pub made : A
  pub wanted : P made
  pub deep : ℕ
  pub alive : (m : Mode) → Looser n m → deep ≤ m.depth → (z : List S) → F made z → q m (text ++ z) ≡ Ok (made, z)
  pub starts : (z : List S) → F made z → B (text ++ z)

-- In the mode n the reader q reads exactly the rule R, where F says what may follow, and B how a text begins. What is begun well
-- can be brought to an end that makes something in P.
pub record ExactTo {S X A : Type 0} (n : Mode) (R : Rule S X A) (q : Mode → Reader S X A) (F : A → List S → Type 0) (B : List S → Type 0) (P : A → Type 0) : Type 0 where
  pub sound : (i : List S) (a : A) (j : List S) → q n i ≡ Ok (a, j) → R.reads i a j
  pub complete : (i : List S) (a : A) (j : List S) → R.reads i a j → F a j → q n i ≡ Ok (a, j)
  pub first : (i : List S) (a : A) (j : List S) → R.reads i a j → F a j → B i
  pub met : (i : List S) (x : X) (k : ℕ) → q n i ≡ Err (Fault x k) → R.meets i x k
  pub meets : (i : List S) (x : X) (k : ℕ) → R.meets i x k → (q n i ≡ Err (Fault x k)) × B i × (k ≤ length i)
  pub done : (i : List S) (a : A) (j : List S) → q n i ≡ Ok (a, j) → Done n q F i a j
  pub stuck : (i : List S) (k : ℕ) → q n i ≡ Err (Unexpected k) → Stuck n q F B P i k
  pub sample : Sample n q F B P

abbrev pub Exact : {S X A : Type 0} → Mode → Rule S X A → (Mode → Reader S X A) → (List S → Type 0) → (List S → Type 0) → Type 0
Exact n R q F B = ExactTo n R q (λ a. F) B (λ a. ⊤)

abbrev pub Any : {S : Type 0} → List S → Type 0
Any i = ⊤

-- the first symbol passes the test
abbrev pub Passes : {S : Type 0} → (S → Bool) → List S → Type 0
Passes test i = heads test i ≡ true

-- it doesn't, or there is none
abbrev pub Lacks : {S : Type 0} → (S → Bool) → List S → Type 0
Lacks test i = heads test i ≡ false

-- nothing more
abbrev pub AtEnd : {S : Type 0} → List S → Type 0
AtEnd i = i ≡ []
