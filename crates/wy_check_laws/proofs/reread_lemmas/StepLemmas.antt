-- The line of a step spells the step.
use Rattle.std.proofs.Common.{◌≡◌, ◌<◌, ◌^◌, ℕ, List, [], ◌∷◌, ◌++◌, length, Bool, true, false, Option, Some, None, inl, inr, refl, sym, ap, subst, arith, not-suc-le-zero}
use Rattle.std.proofs.lemmas.List.{append-nil}
use Rattle.std.specs.Fmt.{decimal}
use Rattle.wy_data.specs.scan.Front.{is_digit, heads, AllPass}
use Rattle.wy_check_spec.specs.wy_term.Term.{Term}
use Rattle.wy_check_spec.specs.wy_term.Sorts.{Sort, int_sort, val_sort, formula_sort}
use Rattle.wy_check_spec.specs.wy_term_text.show.Text.{text_of}
use Rattle.wy_check_spec.proofs.wy_term_text_proofs.reread_lemmas.ShownLemmas.{shown_spells}
use Rattle.wy_check_spec.specs.wy_term_text.spell.Made.{IsSpelled}
use Rattle.wy_check_spec.proofs.wy_term_text_proofs.reread_lemmas.RereadLemmas.{folded_stays}
use Rattle.wy_check_spec.specs.wy_cert.declared.verb.Verb.TheVariants as verb
use Rattle.wy_check_spec.specs.wy_cert.Steps.{Written, split, shut, chain, clash, sum_of, cut, inst, wit, fact, prod}
use Rattle.wy_check_spec.specs.wy_cert.Numbers.{IsPlaceAt, IsMultiplierAt, IsPairAt, ArePairs}
use Rattle.wy_check_spec.specs.wy_cert.Arguments.{IsTerm, IsArgument, AreArguments}
use Rattle.wy_check_spec.specs.wy_cert.Lines.{IsOther, IsStep}
use Rattle.wy_check_spec.specs.wy_cert.File.{is_inside}
use Rattle.wy_check_spec.specs.wy_cert.writing.Text.{texts, pair_text, more_text, arguments_text, other_text, step_text, is_product}
use Rattle.wy_check_laws.specs.reread.Writable.{IsPlace, IsOptional, IsMultiplier, AreFactors, IsWritableAt, IsWritableTerm, AreWritableTerms, IsWritableArgument, AreWritableArguments, IsWritable}
use Rattle.wy_check_laws.proofs.reread_lemmas.NeatLemmas.{IsNeat}
use Rattle.wy_check_laws.proofs.reread_lemmas.TextLemmas.{text_neat, natural_neat}
use Rattle.wy_check_laws.proofs.reread_lemmas.CutLemmas.{passes_inside, cut_behind, never_cut}
use Rattle.wy_check_laws.proofs.reread_lemmas.ApartLemmas.{formula_apart}

grouped : (a b c : List ℕ) → (a ++ b) ++ c ≡ a ++ (b ++ c)
grouped [] b c = refl
grouped (x ∷ a) b c = ap (λ (l : List ℕ). x ∷ l) (grouped a b c)

-- ---- terms

spelled : (sort : Sort) (t : Term) → IsWritableAt sort t → IsSpelled sort (text_of t) t
spelled sort t h = record { raw = t; spells = shown_spells t sort h.1; folds = sym (folded_stays t h.0) }

is_term : (t : Term) → IsWritableTerm t → IsTerm (text_of t) t
is_term t (inl h) = inl (spelled int_sort t h)
is_term t (inr h) = inr (spelled val_sort t h)

term_neat : (t : Term) → IsWritableTerm t → IsNeat (text_of t)
term_neat t (inl h) = text_neat t int_sort h.1
term_neat t (inr h) = text_neat t val_sort h.1

is_argument : (t : Term) → IsWritableArgument t → IsArgument true (text_of t) t
is_argument t (inl h) = inl (is_term t h)
is_argument t (inr h) = inr (formula_apart t h.1.1 h.0, spelled formula_sort t h.1)

argument_neat : (t : Term) → IsWritableArgument t → IsNeat (text_of t)
argument_neat t (inl h) = term_neat t h
argument_neat t (inr h) = text_neat t formula_sort h.1.1

are_terms : (t : Term) (ts : List Term) → AreWritableTerms (t ∷ ts) → AreArguments false (arguments_text (t ∷ ts)) (t ∷ ts)
are_terms t [] h =
    subst (λ (text : List ℕ). AreArguments false text (t ∷ [])) (sym (append-nil (text_of t)))
    (text_of t, None, (never_cut (text_of t) (term_neat t h.0), refl), is_term t h.0, refl)
are_terms t (u ∷ us) h =
    (text_of t, Some (arguments_text (u ∷ us)), cut_behind (text_of t) (arguments_text (u ∷ us)) (term_neat t h.0), is_term t h.0, are_terms u us h.1)

are_arguments : (t : Term) (ts : List Term) → AreWritableArguments (t ∷ ts) → AreArguments true (arguments_text (t ∷ ts)) (t ∷ ts)
are_arguments t [] h =
    subst (λ (text : List ℕ). AreArguments true text (t ∷ [])) (sym (append-nil (text_of t)))
    (text_of t, None, (never_cut (text_of t) (argument_neat t h.0), refl), is_argument t h.0, refl)
are_arguments t (u ∷ us) h =
    (text_of t, Some (arguments_text (u ∷ us)), cut_behind (text_of t) (arguments_text (u ∷ us)) (argument_neat t h.0), is_argument t h.0, are_arguments u us h.1)

-- ---- numbers

small_enough : (n : ℕ) → n < 2 ^ 32 → n < 2 ^ 127
small_enough n h = omega (arith, h)

place_at : (n : ℕ) (rest : List ℕ) → IsPlace n → heads is_digit rest ≡ false → IsPlaceAt (decimal n ++ rest) n rest
place_at n rest h e = record { number = record { is = refl; small = small_enough n h.1; ends = e }; some = h.0; small = h.1 }

pub last_place : (n : ℕ) → IsPlace n → IsPlaceAt (decimal n) n []
last_place n h = subst (λ (text : List ℕ). IsPlaceAt text n []) (append-nil (decimal n)) (place_at n [] h refl)

multiplier_at : (m : ℕ) (rest : List ℕ) → IsMultiplier m → heads is_digit rest ≡ false → IsMultiplierAt (decimal m ++ rest) m rest
multiplier_at m rest h e = record { number = record { is = refl; small = h.1; ends = e }; some = h.0 }

no_digit : (ps : List (ℕ × ℕ)) → heads is_digit (texts pair_text ps) ≡ false
no_digit [] = refl
no_digit (p ∷ ps) = refl

pair_at : (p : ℕ × ℕ) (ps : List (ℕ × ℕ)) → IsMultiplier p.0 → IsPlace p.1 → IsPairAt (texts pair_text (p ∷ ps)) p.0 p.1 (texts pair_text ps)
pair_at p ps h g = record {
  start = (decimal p.0 ++ (32 ∷ decimal p.1)) ++ texts pair_text ps;
  between = decimal p.1 ++ texts pair_text ps;
  space = refl;
  multiplier = subst (λ (text : List ℕ). IsMultiplierAt text p.0 (32 ∷ (decimal p.1 ++ texts pair_text ps))) (sym (grouped (decimal p.0) (32 ∷ decimal p.1) (texts pair_text ps))) (multiplier_at p.0 (32 ∷ (decimal p.1 ++ texts pair_text ps)) h refl);
  literal = place_at p.1 (texts pair_text ps) g (no_digit ps);
}

are_pairs : (ps : List (ℕ × ℕ)) → AreFactors ps → ArePairs (texts pair_text ps) ps
are_pairs [] h = refl
are_pairs (p ∷ ps) h = (texts pair_text ps, pair_at p ps h.0 h.1, are_pairs ps h.2)

other_heads : (o : Option ℕ) → heads is_digit (other_text o) ≡ false
other_heads None = refl
other_heads (Some j) = refl

is_other : (o : Option ℕ) → IsOptional o → IsOther (other_text o) o
is_other None h = refl
is_other (Some j) h = (decimal j, refl, last_place j h)

-- ---- steps

chain_terms : (ts : List Term) → 0 < length ts → AreWritableTerms ts → AreArguments false (arguments_text ts) ts
chain_terms [] some h = absurd (not-suc-le-zero some)
chain_terms (t ∷ ts) some h = are_terms t ts h

fact_arguments : (ts : List Term) → 0 < length ts → AreWritableArguments ts → AreArguments true (arguments_text ts) ts
fact_arguments [] some h = absurd (not-suc-le-zero some)
fact_arguments (t ∷ ts) some h = are_arguments t ts h

-- the line spells the step; a product stands only where products are allowed
pub line_spells : (products : Bool) (w : Written) → (is_product w ≡ true → products ≡ true) → IsWritable w → IsStep products (step_text w) w
line_spells products (split f) allowed h = record { kind = verb.Split; text = text_of f; begins = record { is = refl }; body = record { formula = f; spelled = spelled formula_sort f h; is = refl } }
line_spells products shut allowed h = record { kind = verb.Shut; text = []; begins = record { is = refl }; body = record { ends = refl; is = refl } }
line_spells products (chain ts) allowed h = record { kind = verb.Chain; text = arguments_text ts; begins = record { is = refl }; body = record { terms = ts; spelled = chain_terms ts h.0 h.1; is = refl } }
line_spells products (clash i other) allowed h = record { kind = verb.Clash; text = decimal i ++ other_text other; begins = record { is = refl }; body = record { first = i; rest = other_text other; second = other; literal = place_at i (other_text other) h.0 (other_heads other); other = is_other other h.1; is = refl } }
line_spells products (sum_of pairs) allowed h = record { kind = verb.Sum; text = texts pair_text pairs; begins = record { is = refl }; body = record { pairs = pairs; spelled = are_pairs pairs h.1; some = h.0; is = refl } }
line_spells products (cut d pairs) allowed h = record { kind = verb.Cut; text = decimal d ++ texts pair_text pairs; begins = record { is = refl }; body = record { divisor = d; rest = texts pair_text pairs; pairs = pairs; number = multiplier_at d (texts pair_text pairs) h.0 (no_digit pairs); large = h.1; spelled = are_pairs pairs h.3; some = h.2; is = refl } }
line_spells products (inst i t) allowed h = record { kind = verb.Inst; text = decimal i ++ (32 ∷ text_of t); begins = record { is = refl }; body = record { first = i; rest = text_of t; term = t; literal = place_at i (32 ∷ text_of t) h.0 refl; spelled = spelled int_sort t h.1; is = refl } }
line_spells products (wit i) allowed h = record { kind = verb.Wit; text = decimal i; begins = record { is = refl }; body = record { first = i; literal = last_place i h; is = refl } }
line_spells products (fact n ts) allowed h = record { kind = verb.Fact; text = decimal n ++ (32 ∷ arguments_text ts); begins = record { is = refl }; body = record { schema = n; rest = arguments_text ts; arguments = ts; number = place_at n (32 ∷ arguments_text ts) h.0 refl; small = h.1; spelled = fact_arguments ts h.2 h.3; is = refl } }
line_spells products (prod i j p) allowed h = record {
  kind = verb.Prod;
  text = decimal i ++ (32 ∷ (decimal j ++ (32 ∷ text_of p)));
  begins = record { is = refl };
  body = record { first = i; between = decimal j ++ (32 ∷ text_of p); second = j; rest = text_of p; term = p; allowed = allowed refl; literal = place_at i (32 ∷ (decimal j ++ (32 ∷ text_of p))) h.0 refl; other = place_at j (32 ∷ text_of p) h.1 refl; spelled = spelled int_sort p h.2; is = refl };
}

-- ---- no line ends in a step

pub both_inside : (xs ys : List ℕ) → AllPass is_inside xs → AllPass is_inside ys → AllPass is_inside (xs ++ ys)
both_inside [] ys h g = g
both_inside (x ∷ xs) ys h g = (h.0, both_inside xs ys h.1 g)

neat_inside : (xs : List ℕ) → IsNeat xs → AllPass is_inside xs
neat_inside xs h = passes_inside 0 xs (h 0).last (h 0).runs

pub place_inside : (n : ℕ) → IsPlace n → AllPass is_inside (decimal n)
place_inside n h = neat_inside (decimal n) (natural_neat n (small_enough n h.1))

multiplier_inside : (n : ℕ) → IsMultiplier n → AllPass is_inside (decimal n)
multiplier_inside n h = neat_inside (decimal n) (natural_neat n h.1)

pairs_inside : (ps : List (ℕ × ℕ)) → AreFactors ps → AllPass is_inside (texts pair_text ps)
pairs_inside [] h = tt
pairs_inside (p ∷ ps) h = (refl, both_inside (decimal p.0 ++ (32 ∷ decimal p.1)) (texts pair_text ps) (both_inside (decimal p.0) (32 ∷ decimal p.1) (multiplier_inside p.0 h.0) (refl, place_inside p.1 h.1)) (pairs_inside ps h.2))

term_inside : (t : Term) → IsWritableTerm t → AllPass is_inside (text_of t)
term_inside t h = neat_inside (text_of t) (term_neat t h)

int_inside : (t : Term) → IsWritableAt int_sort t → AllPass is_inside (text_of t)
int_inside t h = neat_inside (text_of t) (text_neat t int_sort h.1)

more_terms_inside : (ts : List Term) → AreWritableTerms ts → AllPass is_inside (texts more_text ts)
more_terms_inside [] h = tt
more_terms_inside (t ∷ ts) h = (refl, (refl, (refl, both_inside (text_of t) (texts more_text ts) (term_inside t h.0) (more_terms_inside ts h.1))))

terms_inside : (ts : List Term) → AreWritableTerms ts → AllPass is_inside (arguments_text ts)
terms_inside [] h = tt
terms_inside (t ∷ ts) h = both_inside (text_of t) (texts more_text ts) (term_inside t h.0) (more_terms_inside ts h.1)

argument_inside : (t : Term) → IsWritableArgument t → AllPass is_inside (text_of t)
argument_inside t h = neat_inside (text_of t) (argument_neat t h)

more_arguments_inside : (ts : List Term) → AreWritableArguments ts → AllPass is_inside (texts more_text ts)
more_arguments_inside [] h = tt
more_arguments_inside (t ∷ ts) h = (refl, (refl, (refl, both_inside (text_of t) (texts more_text ts) (argument_inside t h.0) (more_arguments_inside ts h.1))))

arguments_inside : (ts : List Term) → AreWritableArguments ts → AllPass is_inside (arguments_text ts)
arguments_inside [] h = tt
arguments_inside (t ∷ ts) h = both_inside (text_of t) (texts more_text ts) (argument_inside t h.0) (more_arguments_inside ts h.1)

other_inside : (o : Option ℕ) → IsOptional o → AllPass is_inside (other_text o)
other_inside None h = tt
other_inside (Some j) h = (refl, place_inside j h)

six : (a b c d e f : ℕ) (xs : List ℕ) → (is_inside a ≡ true) → (is_inside b ≡ true) → (is_inside c ≡ true) → (is_inside d ≡ true) → (is_inside e ≡ true) → (is_inside f ≡ true) → AllPass is_inside xs → AllPass is_inside (a ∷ b ∷ c ∷ d ∷ e ∷ f ∷ xs)
six a b c d e f xs ha hb hc hd he hf h = (ha, (hb, (hc, (hd, (he, (hf, h))))))

pub step_inside : (w : Written) → IsWritable w → AllPass is_inside (step_text w)
step_inside (split f) h = six 115 112 108 105 116 32 (text_of f) refl refl refl refl refl refl (neat_inside (text_of f) (text_neat f formula_sort h.1))
step_inside shut h = (refl, (refl, (refl, (refl, tt))))
step_inside (chain ts) h = six 99 104 97 105 110 32 (arguments_text ts) refl refl refl refl refl refl (terms_inside ts h.1)
step_inside (clash i other) h = six 99 108 97 115 104 32 (decimal i ++ other_text other) refl refl refl refl refl refl (both_inside (decimal i) (other_text other) (place_inside i h.0) (other_inside other h.1))
step_inside (sum_of pairs) h = (refl, (refl, (refl, pairs_inside pairs h.1)))
step_inside (cut d pairs) h = (refl, (refl, (refl, (refl, both_inside (decimal d) (texts pair_text pairs) (multiplier_inside d h.0) (pairs_inside pairs h.3)))))
step_inside (inst i t) h = (refl, (refl, (refl, (refl, (refl, both_inside (decimal i) (32 ∷ text_of t) (place_inside i h.0) (refl, int_inside t h.1))))))
step_inside (wit i) h = (refl, (refl, (refl, (refl, place_inside i h))))
step_inside (fact n ts) h = (refl, (refl, (refl, (refl, (refl, both_inside (decimal n) (32 ∷ arguments_text ts) (place_inside n h.0) (refl, arguments_inside ts h.3))))))
step_inside (prod i j p) h = (refl, (refl, (refl, (refl, (refl, both_inside (decimal i) (32 ∷ (decimal j ++ (32 ∷ text_of p))) (place_inside i h.0) (refl, both_inside (decimal j) (32 ∷ text_of p) (place_inside j h.1) (refl, int_inside p h.2)))))))
