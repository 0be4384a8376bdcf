-- What follows the word of a step: there is one step of it, or none.
use Rattle.std.proofs.Common.{◌≡◌, ℕ, ◌<◌, ◌≤◌, List, [], ◌∷◌, Bool, true, false, Option, Some, None, length, codes, refl, ap, ◌∙◌, subst, arith}
use Rattle.wy_data.specs.scan.Front.{IsBehind, NotBehind}
use Rattle.wy_term_text.specs.wy_term.Term.{Term}
use Rattle.wy_term_text.specs.wy_term.Sorts.{int_sort, formula_sort}
use Rattle.wy_term_text.specs.spell.Made.{IsSpelled, SpellsNone, IsOnly}
use Rattle.wy_cert.specs.declared.verb.Verb.TheVariants as verb
use Rattle.wy_cert.specs.Only.{IsTheOne, HasNone}
use Rattle.wy_cert.specs.Steps.{split, shut, chain, clash, sum_of, cut, inst, wit, fact, prod}
use Rattle.wy_cert.specs.Numbers.{IsPlaceAt, NoPlace, NoSpacedPlace, NoLastPlace, IsMultiplierAt, NoMultiplier, ArePairs}
use Rattle.wy_cert.specs.Arguments.{AreArguments}
use Rattle.wy_cert.specs.Lines.{IsSplit, IsShut, IsChain, IsOther, IsClash, IsSum, IsCutStep, IsInst, IsWit, IsFact, IsProd, IsBody}
use Rattle.wy_cert.proofs.NumberLemmas.{one_place, one_multiplier, length_none}
use Rattle.wy_cert.proofs.TermLemmas.{only_spelled}

-- ---- split

pub split_none : (text : List ℕ) → SpellsNone formula_sort text → HasNone (IsSplit text)
split_none text never = record { none = λ w h. never.none h.spelled.raw h.spelled.spells }

pub split_here : (text : List ℕ) (f : Term) → IsSpelled formula_sort text f → IsOnly formula_sort text f → IsTheOne (IsSplit text) (split f)
split_here text f here only = record {
  holds = record { formula = f; spelled = here; is = refl };
  only = λ w h. h.is ∙ ap split (only_spelled formula_sort text f h.formula only h.spelled);
}

pub ruleset split_steps = (split_none, split_here)

-- ---- shut

pub shut_here : (text : List ℕ) → length text ≡ 0 → IsTheOne (IsShut text) shut
shut_here text ends = record { holds = record { ends = length_none text ends; is = refl }; only = λ w h. h.is }

pub shut_none : (text : List ℕ) → 0 < length text → HasNone (IsShut text)
shut_none text some = record { none = λ w h. absurd (omega (arith, some, ap length h.ends)) }

pub ruleset shut_steps = (shut_here, shut_none)

-- ---- chain

pub chain_none : (text : List ℕ) → HasNone (AreArguments false text) → HasNone (IsChain text)
chain_none text never = record { none = λ w h. never.none h.terms h.spelled }

pub chain_here : (text : List ℕ) (ts : List Term) → IsTheOne (AreArguments false text) ts → IsTheOne (IsChain text) (chain ts)
chain_here text ts here = record {
  holds = record { terms = ts; spelled = here.holds; is = refl };
  only = λ w h. h.is ∙ ap chain (here.only h.terms h.spelled);
}

pub ruleset chain_steps = (chain_none, chain_here)

-- ---- clash

pub other_ends : (text : List ℕ) → length text ≡ 0 → IsTheOne (IsOther text) None
other_ends text ends = record { holds = length_none text ends; only = λ o h. by o h }
  where
    by : (o : Option ℕ) → IsOther text o → o ≡ None
    by None h = refl
    by (Some j) (rest, space, place) = absurd (omega (arith, ends, ap length space))

behind_space : (text rest other : List ℕ) → IsBehind (codes " ") text rest → text ≡ 32 ∷ other → other ≡ rest
behind_space text rest other space e = let f : text ≡ 32 ∷ rest = space.is in cc

pub other_here : (text rest : List ℕ) (j : ℕ) → IsBehind (codes " ") text rest → IsPlaceAt rest j [] → IsTheOne (IsOther text) (Some j)
other_here text rest j space place = record { holds = (rest, space.is, place); only = λ o h. by o h }
  where
    by : (o : Option ℕ) → IsOther text o → o ≡ Some j
    by None h = absurd (omega (arith, ap length h, ap length space.is))
    by (Some k) (more, other, here) = ap Some (one_place rest k j [] [] (subst (λ i. IsPlaceAt i k []) (behind_space text rest more space other) here) place).number

pub other_none : (text rest : List ℕ) → IsBehind (codes " ") text rest → NoLastPlace rest → HasNone (IsOther text)
other_none text rest space never = record { none = λ o h. by o h }
  where
    by : (o : Option ℕ) → IsOther text o → ⊥
    by None h = absurd (omega (arith, ap length h, ap length space.is))
    by (Some k) (more, other, here) = never.none k (subst (λ i. IsPlaceAt i k []) (behind_space text rest more space other) here)

pub other_no_space : (text : List ℕ) → 0 < length text → NotBehind (codes " ") text → HasNone (IsOther text)
other_no_space text some never = record { none = λ o h. by o h }
  where
    by : (o : Option ℕ) → IsOther text o → ⊥
    by None h = absurd (omega (arith, some, ap length h))
    by (Some k) (next, other, here) = never next (record { is = other })

pub ruleset other_steps = (other_ends, other_here, other_none, other_no_space)

pub clash_no_place : (text : List ℕ) → NoPlace text → HasNone (IsClash text)
clash_no_place text never = record { none = λ w h. never.none h.first h.rest h.literal }

pub clash_no_other : (text rest : List ℕ) (i : ℕ) → IsPlaceAt text i rest → HasNone (IsOther rest) → HasNone (IsClash text)
clash_no_other text rest i here never = record { none = λ w h. never.none h.second (subst (λ r. IsOther r h.second) (one_place text h.first i h.rest rest h.literal here).rest h.other) }

pub clash_here : (text rest : List ℕ) (i : ℕ) (o : Option ℕ) → IsPlaceAt text i rest → IsTheOne (IsOther rest) o → IsTheOne (IsClash text) (clash i o)
clash_here text rest i o here other = record {
  holds = record { first = i; rest = rest; second = o; literal = here; other = other.holds; is = refl };
  only = λ w h.
      let one = one_place text h.first i h.rest rest h.literal here in
      let second : h.second ≡ o = other.only h.second (subst (λ r. IsOther r h.second) one.rest h.other) in
      let first : h.first ≡ i = one.number in
      let is : w ≡ clash h.first h.second = h.is in
      cc;
}

pub ruleset clash_steps = (clash_no_place, clash_no_other, clash_here)

-- ---- sum

pub sum_none : (text : List ℕ) → HasNone (ArePairs text) → HasNone (IsSum text)
sum_none text never = record { none = λ w h. never.none h.pairs h.spelled }

pub sum_empty : (text : List ℕ) (ps : List (ℕ × ℕ)) → IsTheOne (ArePairs text) ps → length ps ≡ 0 → HasNone (IsSum text)
sum_empty text ps here empty = record { none = λ w h. let e : h.pairs ≡ ps = here.only h.pairs h.spelled in absurd (omega (arith, h.some, ap length e, empty)) }

pub sum_here : (text : List ℕ) (ps : List (ℕ × ℕ)) → IsTheOne (ArePairs text) ps → 0 < length ps → IsTheOne (IsSum text) (sum_of ps)
sum_here text ps here some = record {
  holds = record { pairs = ps; spelled = here.holds; some = some; is = refl };
  only = λ w h. h.is ∙ ap sum_of (here.only h.pairs h.spelled);
}

pub ruleset sum_steps = (sum_none, sum_empty, sum_here)

-- ---- cut

pub cut_no_divisor : (text : List ℕ) → NoMultiplier text → HasNone (IsCutStep text)
cut_no_divisor text never = record { none = λ w h. never.none h.divisor h.rest h.number }

pub cut_small : (text rest : List ℕ) (d : ℕ) → IsMultiplierAt text d rest → d < 2 → HasNone (IsCutStep text)
cut_small text rest d here small = record { none = λ w h. let e : h.divisor ≡ d = (one_multiplier text h.divisor d h.rest rest h.number here).number in absurd (omega (arith, h.large, e, small)) }

pub cut_no_pairs : (text rest : List ℕ) (d : ℕ) → IsMultiplierAt text d rest → HasNone (ArePairs rest) → HasNone (IsCutStep text)
cut_no_pairs text rest d here never = record { none = λ w h. never.none h.pairs (subst (λ r. ArePairs r h.pairs) (one_multiplier text h.divisor d h.rest rest h.number here).rest h.spelled) }

pub cut_empty : (text rest : List ℕ) (d : ℕ) (ps : List (ℕ × ℕ)) → IsMultiplierAt text d rest → IsTheOne (ArePairs rest) ps → length ps ≡ 0 → HasNone (IsCutStep text)
cut_empty text rest d ps here pairs empty = record {
  none = λ w h.
      let e : h.pairs ≡ ps = pairs.only h.pairs (subst (λ r. ArePairs r h.pairs) (one_multiplier text h.divisor d h.rest rest h.number here).rest h.spelled) in
      absurd (omega (arith, h.some, ap length e, empty));
}

pub cut_here : (text rest : List ℕ) (d : ℕ) (ps : List (ℕ × ℕ)) → IsMultiplierAt text d rest → 2 ≤ d → IsTheOne (ArePairs rest) ps → 0 < length ps → IsTheOne (IsCutStep text) (cut d ps)
cut_here text rest d ps here large pairs some = record {
  holds = record { divisor = d; rest = rest; pairs = ps; number = here; large = large; spelled = pairs.holds; some = some; is = refl };
  only = λ w h.
      let one = one_multiplier text h.divisor d h.rest rest h.number here in
      let second : h.pairs ≡ ps = pairs.only h.pairs (subst (λ r. ArePairs r h.pairs) one.rest h.spelled) in
      let first : h.divisor ≡ d = one.number in
      let is : w ≡ cut h.divisor h.pairs = h.is in
      cc;
}

pub ruleset cut_steps = (cut_no_divisor, cut_small, cut_no_pairs, cut_empty, cut_here)

-- ---- inst

pub rest_same : (text more rest : List ℕ) (m n : ℕ) → IsPlaceAt text m (32 ∷ more) → IsPlaceAt text n (32 ∷ rest) → more ≡ rest
rest_same text more rest m n a b = let e = (one_place text m n (32 ∷ more) (32 ∷ rest) a b).rest in cc

pub inst_no_place : (text : List ℕ) → NoSpacedPlace text → HasNone (IsInst text)
inst_no_place text never = record { none = λ w h. never.none h.first h.rest h.literal }

pub inst_no_term : (text rest : List ℕ) (i : ℕ) → IsPlaceAt text i (32 ∷ rest) → HasNone (IsSpelled int_sort rest) → HasNone (IsInst text)
inst_no_term text rest i here never = record { none = λ w h. never.none h.term (subst (λ r. IsSpelled int_sort r h.term) (rest_same text h.rest rest h.first i h.literal here) h.spelled) }

pub inst_here : (text rest : List ℕ) (i : ℕ) (t : Term) → IsPlaceAt text i (32 ∷ rest) → IsTheOne (IsSpelled int_sort rest) t → IsTheOne (IsInst text) (inst i t)
inst_here text rest i t here term = record {
  holds = record { first = i; rest = rest; term = t; literal = here; spelled = term.holds; is = refl };
  only = λ w h.
      let first : h.first ≡ i = (one_place text h.first i (32 ∷ h.rest) (32 ∷ rest) h.literal here).number in
      let second : h.term ≡ t = term.only h.term (subst (λ r. IsSpelled int_sort r h.term) (rest_same text h.rest rest h.first i h.literal here) h.spelled) in
      let is : w ≡ inst h.first h.term = h.is in
      cc;
}

pub ruleset inst_steps = (inst_no_place, inst_no_term, inst_here)

-- ---- wit

pub wit_none : (text : List ℕ) → NoLastPlace text → HasNone (IsWit text)
wit_none text never = record { none = λ w h. never.none h.first h.literal }

pub wit_here : (text : List ℕ) (i : ℕ) → IsPlaceAt text i [] → IsTheOne (IsWit text) (wit i)
wit_here text i here = record {
  holds = record { first = i; literal = here; is = refl };
  only = λ w h. h.is ∙ ap wit (one_place text h.first i [] [] h.literal here).number;
}

pub ruleset wit_steps = (wit_none, wit_here)

-- ---- fact

pub fact_no_place : (text : List ℕ) → NoSpacedPlace text → HasNone (IsFact text)
fact_no_place text never = record { none = λ w h. never.none h.schema h.rest h.number }

pub fact_large : (text rest : List ℕ) (n : ℕ) → IsPlaceAt text n (32 ∷ rest) → 16 < n → HasNone (IsFact text)
fact_large text rest n here large = record {
  none = λ w h. let e : h.schema ≡ n = (one_place text h.schema n (32 ∷ h.rest) (32 ∷ rest) h.number here).number in absurd (omega (arith, h.small, e, large));
}

pub fact_no_arguments : (text rest : List ℕ) (n : ℕ) → IsPlaceAt text n (32 ∷ rest) → HasNone (AreArguments true rest) → HasNone (IsFact text)
fact_no_arguments text rest n here never = record { none = λ w h. never.none h.arguments (subst (λ r. AreArguments true r h.arguments) (rest_same text h.rest rest h.schema n h.number here) h.spelled) }

pub fact_here : (text rest : List ℕ) (n : ℕ) (ts : List Term) → IsPlaceAt text n (32 ∷ rest) → n ≤ 16 → IsTheOne (AreArguments true rest) ts → IsTheOne (IsFact text) (fact n ts)
fact_here text rest n ts here small arguments = record {
  holds = record { schema = n; rest = rest; arguments = ts; number = here; small = small; spelled = arguments.holds; is = refl };
  only = λ w h.
      let first : h.schema ≡ n = (one_place text h.schema n (32 ∷ h.rest) (32 ∷ rest) h.number here).number in
      let second : h.arguments ≡ ts = arguments.only h.arguments (subst (λ r. AreArguments true r h.arguments) (rest_same text h.rest rest h.schema n h.number here) h.spelled) in
      let is : w ≡ fact h.schema h.arguments = h.is in
      cc;
}

pub ruleset fact_steps = (fact_no_place, fact_large, fact_no_arguments, fact_here)

-- ---- prod

pub product_no_first : (text : List ℕ) → NoSpacedPlace text → HasNone (IsProd true text)
product_no_first text never = record { none = λ w h. never.none h.first h.between h.literal }

pub product_no_second : (text between : List ℕ) (i : ℕ) → IsPlaceAt text i (32 ∷ between) → NoSpacedPlace between → HasNone (IsProd true text)
product_no_second text between i here never = record {
  none = λ w h. never.none h.second h.rest (subst (λ r. IsPlaceAt r h.second (32 ∷ h.rest)) (rest_same text h.between between h.first i h.literal here) h.other);
}

pub product_no_term : (text between rest : List ℕ) (i j : ℕ) → IsPlaceAt text i (32 ∷ between) → IsPlaceAt between j (32 ∷ rest) → HasNone (IsSpelled int_sort rest) → HasNone (IsProd true text)
product_no_term text between rest i j here other never = record {
  none = λ w h.
      let second = subst (λ r. IsPlaceAt r h.second (32 ∷ h.rest)) (rest_same text h.between between h.first i h.literal here) h.other in
      never.none h.term (subst (λ r. IsSpelled int_sort r h.term) (rest_same between h.rest rest h.second j second other) h.spelled);
}

pub product_here : (text between rest : List ℕ) (i j : ℕ) (p : Term) → IsPlaceAt text i (32 ∷ between) → IsPlaceAt between j (32 ∷ rest) → IsTheOne (IsSpelled int_sort rest) p → IsTheOne (IsProd true text) (prod i j p)
product_here text between rest i j p here other term = record {
  holds = record { first = i; between = between; second = j; rest = rest; term = p; allowed = refl; literal = here; other = other; spelled = term.holds; is = refl };
  only = λ w h.
      let there : IsPlaceAt between h.second (32 ∷ h.rest) = subst (λ r. IsPlaceAt r h.second (32 ∷ h.rest)) (rest_same text h.between between h.first i h.literal here) h.other in
      let first : h.first ≡ i = (one_place text h.first i (32 ∷ h.between) (32 ∷ between) h.literal here).number in
      let second : h.second ≡ j = (one_place between h.second j (32 ∷ h.rest) (32 ∷ rest) there other).number in
      let third : h.term ≡ p = term.only h.term (subst (λ r. IsSpelled int_sort r h.term) (rest_same between h.rest rest h.second j there other) h.spelled) in
      let is : w ≡ prod h.first h.second h.term = h.is in
      cc;
}

pub ruleset product_steps = (product_no_first, product_no_second, product_no_term, product_here)

-- under the first header
pub no_product : (products : Bool) (text : List ℕ) → products ≡ false → HasNone (IsBody products verb.Prod text)
no_product products text e = record { none = λ w h. absurd (let t : products ≡ true = h.allowed in cc) }
