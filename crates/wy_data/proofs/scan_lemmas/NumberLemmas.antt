-- Numbers in decimal digits: where they stand, and what parsing makes of them.
use Rattle.std.proofs.Common.{◌≡◌, ℕ, zero, suc, ◌+◌, ◌<◌, ◌≤◌, ◌^◌, true, false, ◌⊎◌, inl, inr, List, [], ◌∷◌, ◌++◌, length, take, drop, ℤ, pos, negsuc, neg_ℤ, Result, Ok, Err, refl, sym, ap, ◌∙◌, subst, arith, add-one, length-append}
use Rattle.std.specs.Fmt.{decimal, signed_decimal}
use Rattle.std.specs.Str.{IsUtf8, IsAscii}
use Rattle.std.specs.Str.Parse.{AllDigits, IsNumeral, ParsesUnsigned, ParsesSigned}
use Rattle.std.proofs.lemmas.Fmt.{decimal_is_IsNumeral_wide, parse-decimal_wide}
use Rattle.std.proofs.lemmas.List.{take-append-drop}
use Rattle.std.proofs.lemmas.Str.{IsUtf8-from_ascii}
use Rattle.std.proofs.lemmas.Str.Parse.{digit_from_value, numerals_by_value, tells_digits, parse_signed_digits, parse_signed_minus}
use Rattle.std.proofs.lemmas.Result.{Ok-from_Ok_iff}
use mir.Syntax.{w128}
use Rattle.wy_lemmas.proofs.Choices.{unlike as true_false}
use Rattle.wy_data.specs.scan.Front.{is_digit, heads, AllPass, IsRun}
use Rattle.wy_data.specs.scan.Numbers.{IsNaturalAt, NoNatural, IsWholeAt, NoWhole, is_wide, is_minus, IsDecimal, NotDecimal, IsSigned, NotSigned, IsSignOrDigits, IsSignedRun}
use Rattle.wy_data.proofs.scan_lemmas.RunLemmas.{run_same}

-- ---- digits

a_digit : (c : ℕ) → 48 ≤ c → c ≤ 57 → is_digit c ≡ true
a_digit c low high = grind arith

pass_digits : (ds : List ℕ) → AllDigits 10 ds → AllPass is_digit ds
pass_digits [] a = tt
pass_digits (d ∷ ds) a = let k = digit_from_value d a.0 in (a_digit d k.0 k.1, pass_digits ds a.1)

few : (n : ℕ) → n < 2 ^ 128 → n < 10 ^ 64
few n h = omega arith

pub numeral : (n : ℕ) → n < 2 ^ 128 → IsNumeral 10 (decimal n)
numeral n small = (decimal_is_IsNumeral_wide n (few n small)).0

pub decimal_passes : (n : ℕ) → n < 2 ^ 128 → AllPass is_digit (decimal n)
decimal_passes n small = pass_digits (decimal n) (numeral n small).1

ascii_digits : (ds : List ℕ) → AllDigits 10 ds → IsAscii ds
ascii_digits [] a i = omega arith
ascii_digits (d ∷ ds) a zero = omega (arith, digit_from_value d a.0)
ascii_digits (d ∷ ds) a (suc i) = ascii_digits ds a.1 i

decimal_utf8 : (n : ℕ) → n < 2 ^ 128 → IsUtf8 (decimal n)
decimal_utf8 n small = IsUtf8-from_ascii (decimal n) (ascii_digits (decimal n) (numeral n small).1)

pub wide_pos : (n : ℕ) → is_wide (pos n) ≡ true → n < 2 ^ 127
wide_pos n h = grind (arith, h)

pub wide_neg : (n : ℕ) → is_wide (negsuc n) ≡ true → n < 2 ^ 127
wide_neg n h = grind (arith, h)

ascii_minus : (n : ℕ) → n < 2 ^ 127 → IsAscii (45 ∷ decimal (suc n))
ascii_minus n small zero = omega arith
ascii_minus n small (suc i) = ascii_digits (decimal (suc n)) (numeral (suc n) (omega arith)).1 i

signed_utf8 : (z : ℤ) → is_wide z ≡ true → IsUtf8 (signed_decimal z)
signed_utf8 (pos n) wide = decimal_utf8 n (omega (arith, wide_pos n wide))
signed_utf8 (negsuc n) wide = IsUtf8-from_ascii (45 ∷ decimal (suc n)) (ascii_minus n (wide_neg n wide))

-- ---- numbers without a sign

-- a text that isn't UTF-8 writes none
pub no_utf8 : (b : List ℕ) → ¬ (IsUtf8 b) → NotDecimal b
no_utf8 b h n d = h (subst IsUtf8 (sym d.is) (decimal_utf8 n (omega (arith, d.small))))

read : {E : Type 0} (b : List ℕ) (n : ℕ) (r : Result ℕ E) → IsDecimal b n → ParsesUnsigned 128 10 b r → r ≡ Ok n
read b n r d h = parse-decimal_wide 128 n b r (omega (arith, d.small)) (few n (omega (arith, d.small))) d.is h

pub no_parse : (E : Type 0) (b t : List ℕ) (r : Result ℕ E) (e : E) → t ≡ b → r ≡ Err e → ParsesUnsigned 128 10 t r → NotDecimal b
no_parse E b t r e same is h n d = let k : r ≡ Ok n = read t n r (record { is = same ∙ d.is; small = d.small }) h in absurd (cc)

pub too_large : (E : Type 0) (b t : List ℕ) (r : Result ℕ E) (m : ℕ) → t ≡ b → r ≡ Ok m → ParsesUnsigned 128 10 t r → 2 ^ 127 ≤ m → NotDecimal b
too_large E b t r m same is h le n d = let k : r ≡ Ok n = read t n r (record { is = same ∙ d.is; small = d.small }) h in let e : m ≡ n = cc in omega (arith, d.small)

pub written_apart : (E : Type 0) (b t w : List ℕ) (r : Result ℕ E) (m : ℕ) → t ≡ b → r ≡ Ok m → ParsesUnsigned 128 10 t r → w ≡ decimal m → (w ≡ t → ⊥) → NotDecimal b
written_apart E b t w r m same is h writes apart n d = let k : r ≡ Ok n = read t n r (record { is = same ∙ d.is; small = d.small }) h in let e : m ≡ n = cc in apart (writes ∙ ap decimal e ∙ sym d.is ∙ sym same)

pub ruleset unsigned_steps = (no_utf8)

pub no_natural : (text front rest : List ℕ) → IsRun is_digit text front rest → NotDecimal front → NoNatural text
no_natural text front rest run none n r at =
    let k = run_same is_digit front (decimal n) rest r run.passes (decimal_passes n (omega (arith, at.small))) run.ends at.ends (sym run.is ∙ at.is) in
    none n (record { is = k.front; small = at.small })

pub natural_at : (text front rest : List ℕ) (n : ℕ) → IsRun is_digit text front rest → IsDecimal front n → IsNaturalAt text n rest
natural_at text front rest n run d = record { is = run.is ∙ ap (λ f. f ++ rest) d.is; small = d.small; ends = run.ends }

pub ruleset natural_steps = (no_natural, natural_at)

-- ---- numbers with a sign

pub not_utf8 : (b : List ℕ) → ¬ (IsUtf8 b) → NotSigned b
not_utf8 b h z d = h (subst IsUtf8 (sym d.is) (signed_utf8 z d.small))

read_signed : {E : Type 0} (b : List ℕ) (z : ℤ) (r : Result ℤ E) → is_wide z ≡ true → b ≡ signed_decimal z → ParsesSigned w128 10 b r → r ≡ Ok z
read_signed b (pos n) r wide is h =
    let small = wide_pos n wide in
    let k = decimal_is_IsNumeral_wide n (few n (omega (arith, small))) in
    let read = parse_signed_digits (numerals_by_value _ tells_digits) w128 (decimal n) r (subst (λ l. ParsesSigned w128 10 l r) is h) k.0.1 in
    Ok-from_Ok_iff r _ _ read (k.0.0, omega (arith, k.1, small)) ∙ ap (λ m. Ok (pos m)) k.1
read_signed b (negsuc n) r wide is h =
    let small = wide_neg n wide in
    let k = decimal_is_IsNumeral_wide (suc n) (few (suc n) (omega (arith, small))) in
    let read = parse_signed_minus (numerals_by_value _ tells_digits) w128 (45 ∷ decimal (suc n)) r (subst (λ l. ParsesSigned w128 10 l r) is h) refl in
    Ok-from_Ok_iff r _ _ read (k.0.1, k.0.0, omega (arith, k.1, small)) ∙ ap (λ m. Ok (neg_ℤ (pos m))) k.1

pub not_parsed : (E : Type 0) (b t : List ℕ) (r : Result ℤ E) (e : E) → t ≡ b → r ≡ Err e → ParsesSigned w128 10 t r → NotSigned b
not_parsed E b t r e same is h z d = let k : r ≡ Ok z = read_signed t z r d.small (same ∙ d.is) h in absurd (cc)

pub signed_apart : (E : Type 0) (b t w : List ℕ) (r : Result ℤ E) (y : ℤ) → t ≡ b → r ≡ Ok y → ParsesSigned w128 10 t r → w ≡ signed_decimal y → (w ≡ t → ⊥) → NotSigned b
signed_apart E b t w r y same is h writes apart z d = let k : r ≡ Ok z = read_signed t z r d.small (same ∙ d.is) h in let e : y ≡ z = cc in apart (writes ∙ ap signed_decimal e ∙ sym d.is ∙ sym same)

pub ruleset signed_steps = (not_utf8)

-- ---- the run of a sign and digits

sign_or_digits : (bs : List ℕ) → AllPass is_digit bs → IsSignOrDigits bs
sign_or_digits [] a = tt
sign_or_digits (b ∷ bs) a = (inr a.0, a.1)

pub written_so : (z : ℤ) → is_wide z ≡ true → IsSignOrDigits (signed_decimal z)
written_so (pos n) wide = sign_or_digits (decimal n) (decimal_passes n (omega (arith, wide_pos n wide)))
written_so (negsuc n) wide = (inl refl, decimal_passes (suc n) (omega (arith, wide_neg n wide)))

pub written_some : (z : ℤ) → is_wide z ≡ true → 0 < length (signed_decimal z)
written_some (pos n) wide = (numeral n (omega (arith, wide_pos n wide))).0
written_some (negsuc n) wide = omega arith

begins_so : (b : ℕ) (rest : List ℕ) {A : Type 0} → ((b ≡ 45) ⊎ (is_digit b ≡ true)) → is_minus b ≡ false → is_digit b ≡ false → A
begins_so b rest (inl m) no_minus no_digit = absurd (let e : is_minus 45 ≡ false = subst (λ x. is_minus x ≡ false) m no_minus in cc)
begins_so b rest (inr d) no_minus no_digit = true_false (is_digit b) d no_digit

pub signed_same : (f g r s : List ℕ) → IsSignOrDigits f → IsSignOrDigits g → 0 < length g → (f ≡ [] → heads is_minus r ≡ false) → heads is_digit r ≡ false → heads is_digit s ≡ false → f ++ r ≡ g ++ s → f ≡ g
signed_same f [] r s pf pg some no_minus hr hs e = absurd (omega arith)
signed_same [] (b ∷ g) r s pf pg some no_minus hr hs e =
    let m : heads is_minus (b ∷ (g ++ s)) ≡ false = subst (λ x. heads is_minus x ≡ false) e (no_minus refl) in
    let d : heads is_digit (b ∷ (g ++ s)) ≡ false = subst (λ x. heads is_digit x ≡ false) e hr in
    begins_so b g pg.0 m d
signed_same (a ∷ f) (b ∷ g) r s pf pg some no_minus hr hs e =
    let others : f ++ r ≡ g ++ s = cc in
    let k = run_same is_digit f g r s pf.1 pg.1 hr hs others in
    let x = k.front in
    let first : a ≡ b = cc in
    cc

pub no_whole : (text : List ℕ) (n : ℕ) → IsSignedRun (take n text) (drop n text) → NotSigned (take n text) → NoWhole text
no_whole text n run none z r at =
    none z (record {
      is = signed_same (take n text) (signed_decimal z) (drop n text) r run.passes (written_so z at.small) (written_some z at.small) run.ends.0 run.ends.1 at.ends (take-append-drop n text ∙ at.is);
      small = at.small;
    })

pub whole_at : (text : List ℕ) (n : ℕ) (z : ℤ) → IsSignedRun (take n text) (drop n text) → IsSigned (take n text) z → IsWholeAt text z (drop n text)
whole_at text n z run d = record { is = sym (take-append-drop n text) ∙ ap (λ f. f ++ drop n text) d.is; small = d.small; ends = run.ends.1 }

pub ruleset whole_steps = (no_whole, whole_at)

take_seam : (f r : List ℕ) → take (length f) (f ++ r) ≡ f
take_seam [] r = refl
take_seam (a ∷ f) r = let e = take_seam f r in cc

drop_seam : (f r : List ℕ) → drop (length f) (f ++ r) ≡ r
drop_seam [] r = refl
drop_seam (a ∷ f) r = drop_seam f r

nothing_head : (bs : List ℕ) (f r : List ℕ) → bs ≡ f ++ r → heads is_minus bs ≡ false → f ≡ [] → heads is_minus r ≡ false
nothing_head bs [] r is h e = subst (λ x. heads is_minus x ≡ false) is h
nothing_head bs (a ∷ f) r is h e = absurd (cc)

-- digits behind a minus
pub minus_run : (more front rest : List ℕ) → IsRun is_digit more front rest → IsSignedRun (take (length front + 1) (45 ∷ more)) (drop (length front + 1) (45 ∷ more))
minus_run more front rest run = rw add-one (by_suc (sym run.is))
  where
    by_suc : front ++ rest ≡ more → IsSignedRun (take (suc (length front)) (45 ∷ more)) (drop (suc (length front)) (45 ∷ more))
    by_suc e = subst (λ m. IsSignedRun (45 ∷ take (length front) m) (drop (length front) m)) e
        (rw (take_seam front rest, drop_seam front rest) (record { passes = (inl refl, run.passes); ends = ((λ x. absurd (cc)), run.ends) }))

-- digits, where no minus stands first
pub digit_run : (text front rest : List ℕ) → heads is_minus text ≡ false → IsRun is_digit text front rest → IsSignedRun (take (length front) text) (drop (length front) text)
digit_run text front rest plain run = subst (λ m. IsSignedRun (take (length front) m) (drop (length front) m)) (sym run.is)
    (rw (take_seam front rest, drop_seam front rest) (record { passes = sign_or_digits front run.passes; ends = (nothing_head text front rest run.is plain, run.ends) }))

pub run_within : (text front rest : List ℕ) → IsRun is_digit text front rest → length front ≤ length text
run_within text front rest run = omega (arith, ap length run.is, length-append front rest)

pub ruleset sign_steps = (minus_run, digit_run, run_within)
