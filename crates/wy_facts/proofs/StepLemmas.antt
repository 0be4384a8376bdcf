-- What numbers name as terms are made, and the loops over names and instructions.
use Rattle.std.proofs.Common.{◌≡◌, ◌<◌, ◌≤◌, ◌+◌, ◌-◌, ℕ, zero, suc, List, [], ◌∷◌, length, get_or, drop, true, ℤ, pos, negsuc, nat_abs, ◌≤ℤ◌, ◌<ℤ◌, Option, Some, None, refl, sym, ap, subst, ◌∙◌, arith}
use Rattle.std.proofs.lemmas.Int.{ints}
use Rattle.std.proofs.lemmas.List.{drop_more}
use Rattle.wy_term_subst.proofs.wy_lemmas_proofs.Lists.{first_of, rest_of}
use Rattle.wy_term_subst.specs.wy_term.Term.{Symbol, Term}
use Rattle.wy_term_subst.specs.wy_term.Nodes.{Plain, of, tree_at, parts_at, HasPartsBelow}
use Rattle.wy_facts.specs.declared.program.Instruction.{Instruction}
use Rattle.wy_facts.specs.Program.{after, ran}
use Rattle.wy_facts.specs.Schema.{◌>>=◌, rise, nth_of, element_numbered}
use Rattle.wy_facts.specs.Seen.{terms_at, AreBelow, Stays}

pub stays_same : (ns : List Plain) → Stays ns ns
stays_same ns = record { grows = omega arith; trees = λ t lt. refl }

pub stays_on : (a b c : List Plain) → Stays a b → Stays b c → Stays a c
stays_on a b c f g = record {
  grows = omega (arith, f.grows, g.grows);
  trees = λ t lt. g.trees t (omega (arith, lt, f.grows)) ∙ f.trees t lt;
}

pub terms_kept : (old new : List Plain) (ks : List ℕ) → Stays old new → AreBelow (length old) ks → terms_at new ks ≡ terms_at old ks
terms_kept old new [] stays all = refl
terms_kept old new (k ∷ ks) stays all = rw (stays.trees k (first_of (λ i. i < length old) k ks all), terms_kept old new ks stays (rest_of (λ i. i < length old) k ks all)) refl

pub below_kept : (old new : List Plain) (ks : List ℕ) → Stays old new → AreBelow (length old) ks → AreBelow (length new) ks
below_kept old new ks stays all i d lt = omega (arith, all i d lt, stays.grows)

abbrev pub no_terms : Option (List Term)
no_terms = None

abbrev pub one_term : Term → Option Term
one_term t = Some t

-- ---- names that rise

rise_last : (ns : List (List ℕ)) (k : ℕ) → length ns ≤ suc k → rise (drop k ns) ≡ true
rise_last [] zero le = refl
rise_last [] (suc k) le = refl
rise_last (n ∷ []) zero le = refl
rise_last (n ∷ m ∷ ms) zero le = absurd (omega (arith, le))
rise_last (n ∷ ns) (suc k) le = rise_last ns k (omega (arith, le))

pub rise_end : (ns : List (List ℕ)) (i : ℕ) → 1 ≤ i → length ns ≤ i → rise (drop (i - 1) ns) ≡ true
rise_end ns zero one le = absurd (omega (arith, one))
rise_end ns (suc k) one le = let e : suc k - 1 ≡ k = omega arith in ap (λ (j : ℕ). rise (drop j ns)) e ∙ rise_last ns k le

-- ---- one term more

pub node_put : (old new : List Plain) (t : ℕ) (ks ms : List ℕ) (tree : Term) → length old ≤ length new → ((q : ℕ) → q < length old → tree_at new q ≡ tree_at old q) → AreBelow (length old) ks → tree_at new t ≡ tree → ms ≡ t ∷ ks → terms_at new ms ≡ tree ∷ terms_at old ks
node_put old new t ks ms tree grows kept below is put =
    let stays : Stays old new = record { grows = grows; trees = kept } in
    ap (terms_at new) put ∙ ap (λ (ts : List Term). tree_at new t ∷ ts) (terms_kept old new ks stays below) ∙ ap (λ (u : Term). u ∷ terms_at old ks) is

pub popped_below : (n : ℕ) (all rest : List ℕ) (k : ℕ) → AreBelow n all → all ≡ k ∷ rest → AreBelow n rest
popped_below n all rest k below is = rest_of (λ i. i < n) k rest (subst (AreBelow n) is below)

pub popped_first : (n : ℕ) (all rest : List ℕ) (k : ℕ) → AreBelow n all → all ≡ k ∷ rest → k < n
popped_first n all rest k below is = first_of (λ i. i < n) k rest (subst (AreBelow n) is below)

none_below : (n : ℕ) → AreBelow n []
none_below n i d lt = absurd (omega (arith, lt))

more_below : (n k : ℕ) (ks : List ℕ) → k < n → AreBelow n ks → AreBelow n (k ∷ ks)
more_below n k ks one all zero d lt = one
more_below n k ks one all (suc i) d lt = all i d (omega (arith, lt))

pub three_below : (n : ℕ) (p : Plain) (symbol : Symbol) (ms : List ℕ) (s t u : ℕ) → p ≡ of symbol ms → ms ≡ s ∷ t ∷ u ∷ [] → s < n → t < n → u < n → HasPartsBelow n p
three_below n p symbol ms s t u is members a b c =
    subst (HasPartsBelow n) (sym (is ∙ ap (of symbol) members)) (more_below n s (t ∷ u ∷ []) a (more_below n t (u ∷ []) b (more_below n u [] c (none_below n))))

pub four_below : (n : ℕ) (p : Plain) (symbol : Symbol) (ms : List ℕ) (s t u v : ℕ) → p ≡ of symbol ms → ms ≡ s ∷ t ∷ u ∷ v ∷ [] → s < n → t < n → u < n → v < n → HasPartsBelow n p
four_below n p symbol ms s t u v is members a b c d =
    subst (HasPartsBelow n) (sym (is ∙ ap (of symbol) members)) (more_below n s (t ∷ u ∷ v ∷ []) a (more_below n t (u ∷ v ∷ []) b (more_below n u (v ∷ []) c (more_below n v [] d (none_below n)))))

-- ---- one instruction more

ran_step : (parts : List Term) (p : List Instruction) (k : ℕ) (i : Instruction) → k < length p → i ≡ get_or p (length p - 1 - k) i → ran parts (drop (length p - (k + 1)) p) ≡ (ran parts (drop (length p - k) p) >>= λ made. after parts i made)
ran_step parts p k i lt is =
    let before : length p - (k + 1) ≡ length p - 1 - k = omega arith in
    let behind : length p - 1 - k + 1 ≡ length p - k = omega (arith, lt) in
    let within : length p - 1 - k < length p = omega (arith, lt) in
    ap (λ (j : ℕ). ran parts (drop j p)) before
    ∙ ap (ran parts) (drop_more p (length p - 1 - k) i within)
    ∙ ap (λ (x : Instruction). ran parts (drop (length p - 1 - k + 1) p) >>= λ made. after parts x made) (sym is)
    ∙ ap (λ (j : ℕ). ran parts (drop j p) >>= λ made. after parts i made) behind

ran_none : (parts : List Term) (p : List Instruction) (m : ℕ) → ran parts (drop m p) ≡ None → ran parts p ≡ None
ran_none parts [] zero e = e
ran_none parts [] (suc m) e = e
ran_none parts (i ∷ rest) zero e = e
ran_none parts (i ∷ rest) (suc m) e = ap (λ (o : Option (List Term)). o >>= λ made. after parts i made) (ran_none parts rest m e)

pub step_goes : (old now : List Plain) (parts made : List ℕ) (p : List Instruction) (k : ℕ) (i : Instruction) (o : Option (List Term)) → k < length p → Stays old now → AreBelow (length old) parts → ran (terms_at old parts) (drop (length p - k) p) ≡ Some (terms_at now made) → i ≡ get_or p (length p - 1 - k) i → o ≡ after (terms_at now parts) i (terms_at now made) → ran (terms_at old parts) (drop (length p - (k + 1)) p) ≡ o
step_goes old now parts made p k i o lt stays below so_far is gave =
    ran_step (terms_at old parts) p k i lt is
    ∙ ap (λ (q : Option (List Term)). q >>= λ ts. after (terms_at old parts) i ts) so_far
    ∙ ap (λ (ps : List Term). after ps i (terms_at now made)) (sym (terms_kept old now parts stays below))
    ∙ sym gave

pub step_stops : (old now : List Plain) (parts made : List ℕ) (p : List Instruction) (k : ℕ) (i : Instruction) → k < length p → Stays old now → AreBelow (length old) parts → ran (terms_at old parts) (drop (length p - k) p) ≡ Some (terms_at now made) → i ≡ get_or p (length p - 1 - k) i → no_terms ≡ after (terms_at now parts) i (terms_at now made) → no_terms ≡ ran (terms_at old parts) p
step_stops old now parts made p k i lt stays below so_far is gave =
    sym (ran_none (terms_at old parts) p (length p - (k + 1)) (step_goes old now parts made p k i None lt stays below so_far is gave))

-- ---- elements by their numbers

abbrev pub no_term : Option Term
no_term = None

nth_none : (at : ℕ → Term) (ks : List ℕ) (k : ℕ) → length ks ≤ k → no_term ≡ nth_of (parts_at at ks) k
nth_none at [] k le = refl
nth_none at (j ∷ ks) zero le = absurd (omega (arith, le))
nth_none at (j ∷ ks) (suc k) le = nth_none at ks k (omega (arith, le))

nth_some : (at : ℕ → Term) (ks : List ℕ) (k d : ℕ) → k < length ks → one_term (at (get_or ks k d)) ≡ nth_of (parts_at at ks) k
nth_some at [] k d lt = absurd (omega (arith, lt))
nth_some at (j ∷ ks) zero d lt = refl
nth_some at (j ∷ ks) (suc k) d lt = nth_some at ks k d (omega (arith, lt))

pub numbered_low : (at : ℕ → Term) (ks : List ℕ) (z : ℤ) → z <ℤ pos 0 → no_term ≡ element_numbered (parts_at at ks) z
numbered_low at ks (pos k) lt = absurd (omega (arith, ints, lt))
numbered_low at ks (negsuc k) lt = refl

pub numbered_above : (at : ℕ → Term) (ks : List ℕ) (z : ℤ) → pos (length ks) ≤ℤ z → no_term ≡ element_numbered (parts_at at ks) z
numbered_above at ks (pos k) le = nth_none at ks k (omega (arith, ints, le))
numbered_above at ks (negsuc k) le = absurd (omega (arith, ints, le))

pub numbered_here : (at : ℕ → Term) (ks : List ℕ) (z y : ℤ) → y ≡ z → pos 0 ≤ℤ z → z <ℤ pos (length ks) → one_term (at (get_or ks (nat_abs y) 0)) ≡ element_numbered (parts_at at ks) z
numbered_here at ks (pos k) y e le lt = ap (λ (x : ℤ). one_term (at (get_or ks (nat_abs x) 0))) e ∙ nth_some at ks k 0 (omega (arith, ints, lt))
numbered_here at ks (negsuc k) y e le lt = absurd (omega (arith, ints, le))

-- ---- the term that was made last

cons_is : (a t : Term) (ts : List Term) → a ∷ ts ≡ t ∷ [] → a ≡ t
cons_is a t ts e = cc

pub front_is : (nodes : List Plain) (ks rest : List ℕ) (f : ℕ) (t : Term) → terms_at nodes ks ≡ t ∷ [] → ks ≡ f ∷ rest → tree_at nodes f ≡ t
front_is nodes ks rest f t e is = cons_is (tree_at nodes f) t (terms_at nodes rest) (sym (ap (terms_at nodes) is) ∙ e)
