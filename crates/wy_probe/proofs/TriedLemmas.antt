-- Tuples tried one after another.
use Rattle.std.proofs.Common.{◌≡◌, ◌≤◌, ◌<◌, ◌-◌, ◌++◌, ℕ, zero, suc, List, [], ◌∷◌, map, length, Bool, true, false, Option, Some, None, refl, sym, ap, ◌∙◌, subst, arith, append-nil}
use Rattle.wy_lemmas.proofs.Lists.{append_mid}
use Rattle.wy_term.specs.declared.cond.CondKind.{CondKind}
use Rattle.wy_value.specs.Datum.{Datum}
use Rattle.wy_probe.specs.Comes.{ComesTo, Tells}
use Rattle.wy_probe.specs.Tallies.{Tried, with_one}
use Rattle.wy_probe.specs.Trials.{Counted, no_more, one_more, not_one, DoesFault, FoundIn, IsMet, IsUndecided, NeverFaults, NoneFaults, NoneIn, Probe, first_of, picked}
use Rattle.wy_probe.specs.Tuples.{first_one, next_tuple, tuples_from}
use Rattle.wy_probe.specs.declared.trials.Trial.TheVariants as trial
use Rattle.wy_probe.proofs.TupleLemmas.{in_order}

-- ---- one more behind others

none_behind : (p : Probe) (before : List (List Datum)) (vs : List Datum) → NoneFaults p before → NeverFaults p vs → NoneFaults p (before ++ vs ∷ [])
none_behind p [] vs none never = (never, tt)
none_behind p (ws ∷ before) vs none never = (none.0, none_behind p before vs none.1 never)

one_counted : (P : List Datum → Type 0) (vs : List Datum) (b : Bool) → Tells b (P vs) → Counted P (vs ∷ []) (with_one b 0)
one_counted P vs true is = one_more is no_more
one_counted P vs false never = not_one never no_more

more_counted : (b : Bool) (n : ℕ) → with_one b (suc n) ≡ suc (with_one b n)
more_counted true n = refl
more_counted false n = refl

counted_behind : (P : List Datum → Type 0) (before : List (List Datum)) (n : ℕ) (vs : List Datum) (b : Bool) → Counted P before n → Tells b (P vs) → Counted P (before ++ vs ∷ []) (with_one b n)
counted_behind P [] _ vs b no_more is = one_counted P vs b is
counted_behind P (ws ∷ before) (suc n) vs b (one_more at rest) is = subst (Counted P (ws ∷ (before ++ vs ∷ []))) (sym (more_counted b n)) (one_more at (counted_behind P before n vs b rest is))
counted_behind P (ws ∷ before) n vs b (not_one never rest) is = not_one never (counted_behind P before n vs b rest is)

length_behind : (before : List (List Datum)) (vs : List Datum) → length (before ++ vs ∷ []) ≡ suc (length before)
length_behind [] vs = refl
length_behind (ws ∷ before) vs = ap (λ n. suc n) (length_behind before vs)

counted_most : (P : List Datum → Type 0) (all : List (List Datum)) (n : ℕ) → Counted P all n → n ≤ length all
counted_most P [] _ no_more = omega arith
counted_most P (vs ∷ rest) (suc n) (one_more is counted) = let le = counted_most P rest n counted in omega (arith, le)
counted_most P (vs ∷ rest) n (not_one never counted) = let le = counted_most P rest n counted in omega (arith, le)

-- ---- those that were tried

none_tried : (p : Probe) (all : List (List Datum)) → Tried p all all 0 0 0
none_tried p all = record { before = []; all_are = refl; tried_are = refl; none = tt; met_are = no_more; undecided_are = no_more }

module _ (p : Probe) (all rest : List (List Datum)) (vs : List Datum) (tried met undecided : ℕ) (h : Tried p all (vs ∷ rest) tried met undecided) where
  one_tried : (m u : Bool) → ComesTo p vs (trial.Passes m u) → Tried p all rest (suc tried) (with_one m met) (with_one u undecided)
  one_tried m u is = record {
    before = h.before ++ vs ∷ [];
    all_are = append_mid h.before vs rest ∙ h.all_are;
    tried_are = ap (λ n. suc n) h.tried_are ∙ sym (length_behind h.before vs);
    none = none_behind p h.before vs h.none is.0;
    met_are = counted_behind (IsMet p) h.before met vs m h.met_are is.1;
    undecided_are = counted_behind (IsUndecided p) h.before undecided vs u h.undecided_are is.2;
  }

  one_found : (kind : CondKind) (at : ℕ) → DoesFault p vs kind at → FoundIn p all (suc tried) vs kind at
  one_found kind at faults = record {
    before = h.before;
    behind = rest;
    all_are = sym h.all_are;
    number_is = ap (λ n. suc n) h.tried_are;
    none_before = h.none;
    faults = faults;
  }

all_tried : (p : Probe) (all : List (List Datum)) (tried met undecided : ℕ) → Tried p all [] tried met undecided → NoneIn p all tried met undecided
all_tried p all tried met undecided h =
    let same : h.before ≡ all = sym (append-nil h.before) ∙ h.all_are in
    record {
      none = subst (NoneFaults p) same h.none;
      tried_are = h.tried_are ∙ ap length same;
      met_are = subst (λ l. Counted (IsMet p) l met) same h.met_are;
      undecided_are = subst (λ l. Counted (IsUndecided p) l undecided) same h.undecided_are;
    }

-- ---- the tuples of lists, from the next one on

module _ (p : Probe) (lists : List (List Datum)) (n : ℕ) where
  -- the next tuple is this one, and so many may follow
  abbrev pub Stands : ℕ → Option (List ℕ) → ℕ → ℕ → ℕ → Type 0
  Stands count next tried met undecided = Tried p (first_of lists n) (map (picked lists) (tuples_from (map length lists) count next)) tried met undecided

  pub moved : (count count' : ℕ) (next next' : Option (List ℕ)) (tried tried' met met' undecided undecided' : ℕ) → count' ≡ count → next' ≡ next → tried' ≡ tried → met' ≡ met → undecided' ≡ undecided
      → Stands count next tried met undecided → Stands count' next' tried' met' undecided'
  moved count count' next next' tried tried' met met' undecided undecided' c o t m u h =
      subst (λ x. Stands x next' tried' met' undecided') (sym c) (subst (λ x. Stands count x tried' met' undecided') (sym o) (subst (λ x. Stands count next x met' undecided') (sym t)
      (subst (λ x. Stands count next tried x undecided') (sym m) (subst (λ x. Stands count next tried met x) (sym u) h))))

  pub stands_first : (next : Option (List ℕ)) → next ≡ first_one (map length lists) → Stands (n - 0) next 0 0 0
  stands_first next is =
      let begun : Stands n (first_one (map length lists)) 0 0 0 = subst (λ l. Tried p (first_of lists n) (map (picked lists) l) 0 0 0) (sym (in_order (map length lists) n)) (none_tried p (first_of lists n)) in
      let all : n - 0 ≡ n = omega arith in
      moved n (n - 0) _ next 0 0 0 0 0 0 all is refl refl refl begun

  pub stands_met : (count : ℕ) (next : Option (List ℕ)) (tried met undecided : ℕ) → Stands count next tried met undecided → met ≤ tried
  stands_met count next tried met undecided h = let le = counted_most (IsMet p) h.before met h.met_are in let k = h.tried_are in omega (arith, le, k)

  pub stands_undecided : (count : ℕ) (next : Option (List ℕ)) (tried met undecided : ℕ) → Stands count next tried met undecided → undecided ≤ tried
  stands_undecided count next tried met undecided h = let le = counted_most (IsUndecided p) h.before undecided h.undecided_are in let k = h.tried_are in omega (arith, le, k)

  module _ (number : ℕ) (tuple : List ℕ) (vs : List Datum) (tried met undecided : ℕ) (within : number < n) (same : vs ≡ picked lists tuple) (h : Stands (n - number) (Some tuple) tried met undecided) where
    abbrev rest : List (List Datum)
    rest = map (picked lists) (tuples_from (map length lists) (n - suc number) (next_tuple (map length lists) tuple))

    here_now : Tried p (first_of lists n) (vs ∷ rest) tried met undecided
    here_now =
        let count : n - number ≡ suc (n - suc number) = omega (arith, within) in
        let now = subst (λ k. Stands k (Some tuple) tried met undecided) count h in
        subst (λ ws. Tried p (first_of lists n) (ws ∷ rest) tried met undecided) (sym same) now

    pub stands_next : (m u : Bool) → ComesTo p vs (trial.Passes m u) → Stands (n - suc number) (next_tuple (map length lists) tuple) (suc tried) (with_one m met) (with_one u undecided)
    stands_next m u is = one_tried p (first_of lists n) rest vs tried met undecided here_now m u is

    pub stands_found : (kind : CondKind) (at : ℕ) → DoesFault p vs kind at → FoundIn p (first_of lists n) (suc tried) vs kind at
    stands_found kind at faults = one_found p (first_of lists n) rest vs tried met undecided here_now kind at faults

  no_tuples : (ns : List ℕ) (count : ℕ) → tuples_from ns count None ≡ []
  no_tuples ns zero = refl
  no_tuples ns (suc count) = refl

  pub stands_none : (count tried met undecided : ℕ) → Stands count None tried met undecided → NoneIn p (first_of lists n) tried met undecided
  stands_none count tried met undecided h =
      all_tried p (first_of lists n) tried met undecided (subst (λ l. Tried p (first_of lists n) (map (picked lists) l) tried met undecided) (no_tuples (map length lists) count) h)

  pub stands_end : (number : ℕ) (next : Option (List ℕ)) (tried met undecided : ℕ) → n ≤ number → Stands (n - number) next tried met undecided → NoneIn p (first_of lists n) tried met undecided
  stands_end number next tried met undecided over h =
      let count : n - number ≡ 0 = omega (arith, over) in
      all_tried p (first_of lists n) tried met undecided (subst (λ k. Stands k next tried met undecided) count h)
