-- Sums of forms taken an even number of times have even coefficients.
use Rattle.std.proofs.Common.{◌≡◌, ◌+◌, ◌*◌, ◌&&◌, ℕ, zero, suc, List, [], ◌∷◌, Bool, true, false, cond, eqb, ℤ, pos, ◌+ℤ◌, ◌*ℤ◌, Some, sym, ap, subst, arith}
use Rattle.std.specs.Prelude.{nat_eq}
use Rattle.std.proofs.lemmas.Int.{ints}
use Rattle.wy_lemmas.proofs.Lists.{some_parts}
use Rattle.wy_lemmas.proofs.Numbers.{even_sum}
use Rattle.wy_lemmas.proofs.Options.{some_same as some_is}
use Rattle.wy_search_bounds.specs.wy_term.Rewriting.{fitted}
use Rattle.wy_search_bounds.specs.wy_lin.declared.arithmetic.Factor.TheVariants.{Times}
use Rattle.wy_search_bounds.specs.wy_lin.Linear.{◌>>=◌, more, Linear, nothing, coefficient, with_coefficient, plus_part, plus_parts, plus}
use Rattle.wy_search_bounds.specs.wy_lin.Combination.{form_at, combined, combined_from}
use Rattle.wy_search_bounds.proofs.wy_lin_proofs.OptionLemmas.{bind_some, fitted_is}
use Rattle.wy_search_bounds.specs.wy_lin_eliminate.Validity.{divides}
use Rattle.wy_search_bounds.proofs.wy_lin_eliminate_proofs.ValidityLemmas.{IsEven, AreEven, form_with, some_form, even_divides, even_with, even_plus}
use Rattle.wy_search_bounds.specs.wy_search_spec.Bounds.{named_from}

even_named : (all : List (Linear ℕ)) (f : Linear ℕ) (ts : List (ℕ × Linear ℕ)) (i : ℕ) (h : Linear ℕ) → AreEven f.parts → combined_from all f (named_from 2 ts i) ≡ Some h → AreEven h.parts
even_named all f [] i h even gives = subst AreEven (ap (λ (k : Linear ℕ). k.parts) (some_is f h gives)) even
even_named all f (t ∷ ts) i h even gives =
    let b = bind_some (plus nat_eq f (Times (2 * t.0)) (form_at all i)) (λ (g : Linear ℕ). combined_from all g (named_from 2 ts (suc i))) h gives in
    even_named all b.0 ts (suc i) h (even_plus f t.0 (form_at all i) b.0 even b.1) b.2

-- the sum of twice a form and twice what is added to it
pub twice_named : (all : List (Linear ℕ)) (ts : List (ℕ × Linear ℕ)) (h : Linear ℕ) → combined all ((2, 0) ∷ named_from 2 ts 1) ≡ Some h → divides 2 h.parts ≡ true
twice_named all ts h gives =
    let b = bind_some (plus nat_eq nothing (Times 2) (form_at all 0)) (λ (g : Linear ℕ). combined_from all g (named_from 2 ts 1)) h gives in
    even_divides h.parts (even_named all b.0 ts 1 h (even_plus nothing 1 (form_at all 0) b.0 tt b.1) b.2)
