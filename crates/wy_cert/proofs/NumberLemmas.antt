-- Numbers of a line: there is one, or none.
use Rattle.std.proofs.Common.{◌≡◌, ℕ, ◌<◌, ◌-◌, ◌^◌, List, [], ◌∷◌, length, codes, refl, sym, ap, ◌∙◌, subst, arith}
use Rattle.wy_data.specs.scan.Front.{IsBehind, NotBehind}
use Rattle.wy_data.specs.scan.Numbers.{IsNaturalAt, NoNatural}
use Rattle.wy_data.proofs.scan_lemmas.OneReading.{OneNatural, one_natural}
use Rattle.wy_cert.specs.Numbers.{IsPlaceAt, NoPlace, NoSpacedPlace, NoLastPlace, IsMultiplierAt, NoMultiplier, IsPairAt, NoPair}

pub one_place : (text : List ℕ) (m n : ℕ) (r s : List ℕ) → IsPlaceAt text m r → IsPlaceAt text n s → OneNatural m n r s
one_place text m n r s a b = one_natural text m n r s a.number b.number

pub one_multiplier : (text : List ℕ) (m n : ℕ) (r s : List ℕ) → IsMultiplierAt text m r → IsMultiplierAt text n s → OneNatural m n r s
one_multiplier text m n r s a b = one_natural text m n r s a.number b.number

-- ---- places

pub place_none : (text : List ℕ) → NoNatural text → NoPlace text
place_none text never = record { none = λ n rest p. never n rest p.number }

pub place_zero : (text rest : List ℕ) (n : ℕ) → IsNaturalAt text n rest → n ≡ 0 → NoPlace text
place_zero text rest n here zero = record { none = λ m r p. let e : n ≡ m = (one_natural text n m rest r here p.number).number in absurd (omega (arith, p.some, e, zero)) }

pub place_large : (text rest : List ℕ) (n : ℕ) → IsNaturalAt text n rest → 2 ^ 32 - 1 < n → NoPlace text
place_large text rest n here large = record { none = λ m r p. let e : n ≡ m = (one_natural text n m rest r here p.number).number in absurd (omega (arith, p.small, e, large)) }

pub ruleset place_steps = (place_none, place_zero, place_large)

pub spaced_none : (text : List ℕ) → NoPlace text → NoSpacedPlace text
spaced_none text never = record { none = λ n rest p. never.none n (32 ∷ rest) p }

pub spaced_other : (text rest : List ℕ) (n : ℕ) → IsPlaceAt text n rest → NotBehind (codes " ") rest → NoSpacedPlace text
spaced_other text rest n here never = record { none = λ m r p. never r (record { is = (one_place text n m rest (32 ∷ r) here p).rest }) }

pub spaced_here : (text rest more : List ℕ) (n : ℕ) → IsPlaceAt text n rest → IsBehind (codes " ") rest more → IsPlaceAt text n (32 ∷ more)
spaced_here text rest more n here space = subst (IsPlaceAt text n) space.is here

pub ruleset spaced_steps = (spaced_none, spaced_other, spaced_here)

pub length_none : {X : Type 0} (xs : List X) → length xs ≡ 0 → xs ≡ []
length_none [] e = refl
length_none (x ∷ xs) e = absurd (omega (arith, e))

pub last_none : (text : List ℕ) → NoPlace text → NoLastPlace text
last_none text never = record { none = λ n p. never.none n [] p }

pub last_goes_on : (text rest : List ℕ) (n : ℕ) → IsPlaceAt text n rest → 0 < length rest → NoLastPlace text
last_goes_on text rest n here some = record { none = λ m p. absurd (let e : [] ≡ rest = (one_place text m n [] rest p here).rest in omega (arith, some, ap length e)) }

pub last_here : (text rest : List ℕ) (n : ℕ) → IsPlaceAt text n rest → length rest ≡ 0 → IsPlaceAt text n []
last_here text rest n here ends = subst (IsPlaceAt text n) (length_none rest ends) here

pub ruleset last_steps = (last_none, last_goes_on, last_here)

-- ---- multipliers

pub multiplier_none : (text : List ℕ) → NoNatural text → NoMultiplier text
multiplier_none text never = record { none = λ n rest p. never n rest p.number }

pub multiplier_zero : (text rest : List ℕ) (n : ℕ) → IsNaturalAt text n rest → n ≡ 0 → NoMultiplier text
multiplier_zero text rest n here zero = record { none = λ m r p. let e : n ≡ m = (one_natural text n m rest r here p.number).number in absurd (omega (arith, p.some, e, zero)) }

pub ruleset multiplier_steps = (multiplier_none, multiplier_zero)

-- ---- pairs

pub pair_no_space : (text : List ℕ) → NotBehind (codes " ") text → NoPair text
pair_no_space text never = record { none = λ m i rest p. never p.start (record { is = p.space }) }

pub start_same : (text start other : List ℕ) → IsBehind (codes " ") text start → text ≡ 32 ∷ other → other ≡ start
start_same text start other a e = let f : text ≡ 32 ∷ start = a.is in cc

pub pair_no_multiplier : (text start : List ℕ) → IsBehind (codes " ") text start → NoMultiplier start → NoPair text
pair_no_multiplier text start space never = record { none = λ m i rest p. never.none m (32 ∷ p.between) (subst (λ t. IsMultiplierAt t m (32 ∷ p.between)) (start_same text start p.start space p.space) p.multiplier) }

pub starts : (text start rest : List ℕ) (m n i : ℕ) (more : List ℕ) → IsBehind (codes " ") text start → IsMultiplierAt start m rest → (p : IsPairAt text n i more) → OneNatural n m (32 ∷ p.between) rest
starts text start rest m n i more space here p =
    one_multiplier start n m (32 ∷ p.between) rest (subst (λ t. IsMultiplierAt t n (32 ∷ p.between)) (start_same text start p.start space p.space) p.multiplier) here

pub pair_no_gap : (text start rest : List ℕ) (m : ℕ) → IsBehind (codes " ") text start → IsMultiplierAt start m rest → NotBehind (codes " ") rest → NoPair text
pair_no_gap text start rest m space here never = record { none = λ n i more p. never p.between (record { is = sym (starts text start rest m n i more space here p).rest }) }

pub between_same : (text start rest between : List ℕ) (m n i : ℕ) (more : List ℕ) → IsBehind (codes " ") text start → IsMultiplierAt start m rest → IsBehind (codes " ") rest between → (p : IsPairAt text n i more) → p.between ≡ between
between_same text start rest between m n i more space here gap p =
    let a : 32 ∷ p.between ≡ rest = (starts text start rest m n i more space here p).rest in
    let b : rest ≡ 32 ∷ between = gap.is in
    let c : 32 ∷ p.between ≡ 32 ∷ between = a ∙ b in
    start_same (32 ∷ p.between) between p.between (record { is = c }) refl

pub pair_no_place : (text start rest between : List ℕ) (m : ℕ) → IsBehind (codes " ") text start → IsMultiplierAt start m rest → IsBehind (codes " ") rest between → NoPlace between → NoPair text
pair_no_place text start rest between m space here gap never = record {
  none = λ n i more p. never.none i more (subst (λ t. IsPlaceAt t i more) (between_same text start rest between m n i more space here gap p) p.literal);
}

pub pair_here : (text start rest between more : List ℕ) (m i : ℕ) → IsBehind (codes " ") text start → IsMultiplierAt start m rest → IsBehind (codes " ") rest between → IsPlaceAt between i more → IsPairAt text m i more
pair_here text start rest between more m i space here gap literal = record {
  start = start;
  between = between;
  space = space.is;
  multiplier = subst (IsMultiplierAt start m) gap.is here;
  literal = literal;
}

pub ruleset pair_steps = (pair_no_space, pair_no_multiplier, pair_no_gap, pair_no_place, pair_here)

pub record OnePair (m n i j : ℕ) (r s : List ℕ) : Type 0 where
  pub multiplier : m ≡ n
  pub literal : i ≡ j
  pub rest : r ≡ s

pub one_pair : (text : List ℕ) (m n i j : ℕ) (r s : List ℕ) → IsPairAt text m i r → IsPairAt text n j s → OnePair m n i j r s
one_pair text m n i j r s a b =
    let space : IsBehind (codes " ") text b.start = record { is = b.space } in
    let gap : IsBehind (codes " ") (32 ∷ b.between) b.between = record { is = refl } in
    let first = starts text b.start (32 ∷ b.between) n m i r space b.multiplier a in
    let between : a.between ≡ b.between = between_same text b.start (32 ∷ b.between) b.between n m i r space b.multiplier gap a in
    let second = one_place b.between i j r s (subst (λ t. IsPlaceAt t i r) between a.literal) b.literal in
    record { multiplier = first.number; literal = second.number; rest = second.rest }
