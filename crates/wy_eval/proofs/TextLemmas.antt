-- Texts that are printed: each code, and those behind it.
use Rattle.std.proofs.Common.{◌≡◌, ℕ, ◌+◌, ◌<◌, ◌≤◌, ℤ, pos, negsuc, true, false, List, ◌∷◌, ◌++◌, length, drop, get_or, Some, Ok, Err, refl, ap, ◌∙◌, arith}
use Rattle.std.specs.Prelude.{int_le, int_lt}
use lib.IntN.{nat_abs}
use Rattle.std.proofs.lemmas.Bool.{ltb-false}
use Rattle.std.proofs.lemmas.Int.{ints}
use Rattle.wy_lemmas.proofs.Choices.{both_true}
use Rattle.wy_lemmas.proofs.Lists.{next_of as next_item}
use Rattle.wy_value.specs.Datum.{Datum, Whole}
use Rattle.wy_value.specs.declared.value.Value.{Value}
use Rattle.wy_value.specs.Seen.{seen}
use Rattle.wy_term.specs.declared.cond.CondKind.TheVariants.{Requires}
use Rattle.wy_sem.specs.Evaluation.{is_ascii, text_of}
use Rattle.wy_sem.specs.Meter.{Meter, Done, Fault, More, Spent, Run, ◌>>=◌, check, count}
use Rattle.wy_sem.specs.Operations.{as_number, nat_of}
use Rattle.wy_eval_exprs.specs.declared.stop.Stop.{Stop}
use Rattle.wy_eval_exprs.specs.Operands.{items_of}
use Rattle.wy_eval_exprs.specs.Outcomes.{stopped}
use Rattle.wy_eval_exprs.proofs.StepLemmas.{done, turned, stays}
use Rattle.wy_eval.specs.Texts.{AsciiOf}

-- ---- codes

pub within_codes : (n : ℕ) → n ≤ 127 → is_ascii (pos n) ≡ true
within_codes n h =
    let low : int_le (pos 0) (pos n) ≡ true = grind (arith, ints) in
    let high : int_le (pos n) (pos 127) ≡ true = grind (arith, ints) in
    both_true (int_le (pos 0) (pos n)) (int_le (pos n) (pos 127)) low high

-- a number that is neither below nor above is a code
code_is : (z : ℤ) → int_lt z (pos 0) ≡ false → int_lt (pos 127) z ≡ false → (z ≡ pos (nat_abs z)) × (is_ascii (pos (nat_abs z)) ≡ true)
code_is (pos k) h g = (refl, within_codes k (ltb-false 127 k g))
code_is (negsuc k) h g = absurd cc

pub is_byte : (at : ℕ) (d : Datum) (z : ℤ) → d ≡ Whole z → int_lt z (pos 0) ≡ false → int_lt (pos 127) z ≡ false → AsciiOf at d (Ok (nat_abs z))
is_byte at d z is low high = let c : (z ≡ pos (nat_abs z)) × (is_ascii (pos (nat_abs z)) ≡ true) = code_is z low high in (is ∙ ap (λ x. Whole x) c.0, c.1)

-- ---- texts

-- what one code is followed by
abbrev pub coded : ℕ → ℕ → Datum → Run (List ℕ) → Run (List ℕ)
coded limit at d rest = count (Some limit) (as_number at d (λ z. check (is_ascii z) Requires at (λ m. rest m >>= (λ bytes. Done (nat_of z ∷ bytes)))))

abbrev pub TextLeft : ℕ → ℕ → List Value → Meter → List ℕ → Meter → List Value → Type 0
TextLeft limit at all m made now left = text_of (Some limit) at (items_of all) m ≡ (text_of (Some limit) at (items_of left) now >>= (λ bytes. Done (made ++ bytes)))

at_code : (limit at : ℕ) (all : List Value) (made : List ℕ) (now : Meter) (i : ℕ) (v : Value) → i < length all → v ≡ get_or all i v
    → (text_of (Some limit) at (items_of (drop i all)) now >>= (λ bytes. Done (made ++ bytes))) ≡ (coded limit at (seen v) (text_of (Some limit) at (items_of (drop (i + 1) all))) now >>= (λ bytes. Done (made ++ bytes)))
at_code limit at all made now i v within is = ap (λ l. text_of (Some limit) at (items_of l) now >>= (λ bytes. Done (made ++ bytes))) (next_item all i v within is)

pub text_wrong : (limit at : ℕ) (all : List Value) (m : Meter) (made : List ℕ) (now k : Meter) (i : ℕ) (v : Value) (e : Stop) → i < length all → v ≡ get_or all i v → count (Some limit) done now ≡ Done tt k → AsciiOf at (seen v) (Err e)
    → TextLeft limit at all m made now (drop i all) → text_of (Some limit) at (items_of all) m ≡ stopped e k
text_wrong limit at all m made now k i v e within is counted wrong before =
    let rest = text_of (Some limit) at (items_of (drop (i + 1) all)) in
    let next = λ (z : ℤ) (n : Meter). rest n >>= (λ bytes. Done (nat_of z ∷ bytes)) in
    before ∙ (at_code limit at all made now i v within is
    ∙ (ap (λ o. o >>= (λ bytes. Done (made ++ bytes))) (turned (Some limit) false (as_number at (seen v) (λ z. check (is_ascii z) Requires at (next z))) now k counted ∙ wrong next k) ∙ stays e k (λ bytes. Done (made ++ bytes))))
