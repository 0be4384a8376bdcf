-- Declared types have levels: a name in a type is of no higher level, and a type that a clause tests is of a lower one.
use Rattle.std.proofs.Common.{◌≡◌, ◌<◌, ◌≤◌, ◌+◌, ◌⊎◌, inl, inr, ℕ, zero, suc, Bool, true, false, ◌||◌, ◌==◌, List, [], ◌∷◌, length, Some, refl, ap, subst, arith}
use Rattle.std.specs.Prelude.{slice_get}
use Rattle.std.proofs.lemmas.Bool.{cases_lt, or_cases, or_left, or_right, eqb-true, or_from}
use Rattle.wy_sem.specs.wy_core.CoreTree.{Alias}
use Rattle.wy_sem.specs.wy_core.formed.Recursion.{ClausesMention, UsesType, Reaches, stays, goes, RecursWell}
use Rattle.wy_lemmas.proofs.Choices.{eqb_itself as eqb_self, one_if, one_within, how_many, at_most_all, as_many}
use Rattle.wy_sem.proofs.SharedLemmas.{alias_past}
use Rattle.wy_sem.specs.TypeTests.{alias_at, mentions}
use Rattle.wy_vc_spec.specs.Named.{some_test_in, alias_mentions, leads_to}
use Rattle.wy_graph.proofs.reach_lemmas.BoundedLemmas.{Grows, bounded}
use Rattle.wy_vc_spec.proofs.answered_lemmas.Uses.{named_mentions, some_named, clauses_mention, some_clause}

-- ---- how many numbers below one are in a set

pub fewer : (p q : ℕ → Bool) → ((n : ℕ) → p n ≡ true → q n ≡ true) → (k m : ℕ) → m < k → p m ≡ false → q m ≡ true → how_many p k < how_many q k
fewer p q up zero m less f t = absurd (omega (arith, less))
fewer p q up (suc k) m less f t = by (λ l. fewer p q up k m l f t) (cases_lt m k)
  where
    here : m ≡ k → one_if (p k) + how_many p k < one_if (q k) + how_many q k
    here is =
        let h = as_many p q up k in
        let a : one_if (p k) ≡ 0 = ap one_if (subst (λ (x : ℕ). p x ≡ false) is f) in
        let b : one_if (q k) ≡ 1 = ap one_if (subst (λ (x : ℕ). q x ≡ true) is t) in
        omega (arith, h, a, b)

    by : (m < k → how_many p k < how_many q k) → (m < k) ⊎ (k ≤ m) → one_if (p k) + how_many p k < one_if (q k) + how_many q k
    by rest (inl l) = let h = rest l in let g = one_within (p k) (q k) (up k) in omega (arith, h, g)
    by rest (inr past) = here (omega (arith, less, past))

-- ---- a type by its number

pub stands_at : {M : Type 0} (types : List (Alias M)) (b : ℕ) → b < length types → slice_get types b ≡ Some (alias_at types b)
stands_at [] b less = absurd (omega (arith, less))
stands_at (a ∷ types) zero less = refl
stands_at (a ∷ types) (suc b) less = stands_at types b (omega (arith, less))

-- ---- what a type leads to

module _ (types : List (Alias ℕ)) (recurs : RecursWell types) where
  abbrev count : ℕ
  count = length types

  -- one step towards the type, or that type
  abbrev on_way : ℕ → ℕ → ℕ → Bool
  on_way to j m = (m == to) || leads_to types to j m

  -- a name that the type uses, with a property
  record IsUse (x : Alias ℕ) (p : ℕ → Bool) : Type 0 where
    pub name : ℕ
    pub uses : UsesType true x name
    pub so : p name ≡ true

  used_mentions : (x : Alias ℕ) (p : ℕ → Bool) (c : ℕ) → UsesType true x c → p c ≡ true → alias_mentions p x ≡ true
  used_mentions x p c (inl h) q = or_left (mentions p x.ty) (some_test_in (mentions p) x.clauses) (named_mentions p x.ty c h q)
  used_mentions x p c (inr h) q = or_right (mentions p x.ty) (some_test_in (mentions p) x.clauses) (clauses_mention p x.clauses c h q)

  some_used : (x : Alias ℕ) (p : ℕ → Bool) → alias_mentions p x ≡ true → IsUse x p
  some_used x p h = by (or_cases (mentions p x.ty) (some_test_in (mentions p) x.clauses) h)
    where
      by : (mentions p x.ty ≡ true) ⊎ (some_test_in (mentions p) x.clauses ≡ true) → IsUse x p
      by (inl e) = let r = some_named p x.ty e in record { name = r.0; uses = inl r.1; so = r.2 }
      by (inr e) = let r = some_clause p x.clauses e in record { name = r.0; uses = inr r.1; so = r.2 }

  one_step : (b j to c : ℕ) → UsesType true (alias_at types b) c → on_way to j c ≡ true → leads_to types to (suc j) b ≡ true
  one_step b j to c u q = used_mentions (alias_at types b) (on_way to j) c u q

  step_back : (b j to : ℕ) → leads_to types to (suc j) b ≡ true → IsUse (alias_at types b) (on_way to j)
  step_back b j to h = some_used (alias_at types b) (on_way to j) h

  leading : (to j n : ℕ) → leads_to types to j n ≡ true → n < count
  leading to zero n h = absurd (let e : false ≡ true = h in cc)
  leading to (suc j) n h = by (cases_lt n count)
    where
      by : (n < count) ⊎ (count ≤ n) → n < count
      by (inl less) = less
      by (inr past) = absurd (let e : false ≡ true = subst (λ (a : Alias ℕ). alias_mentions (on_way to j) a ≡ true) (alias_past types n past) h in cc)

  leads_grow : (to : ℕ) → Grows (leads_to types to) count
  leads_grow to = record { empty = λ n h. let e : false ≡ true = h in cc; steps = steps; within = leading to }
    where
      on : (i j : ℕ) → ((n : ℕ) → leads_to types to i n ≡ true → leads_to types to j n ≡ true) → (m : ℕ) → on_way to i m ≡ true → on_way to j m ≡ true
      on i j up m h = by (or_cases (m == to) (leads_to types to i m) h)
        where
          by : ((m == to) ≡ true) ⊎ (leads_to types to i m ≡ true) → on_way to j m ≡ true
          by (inl e) = or_left (m == to) (leads_to types to j m) e
          by (inr e) = or_right (m == to) (leads_to types to j m) (up m e)

      steps : (i j : ℕ) → ((n : ℕ) → leads_to types to i n ≡ true → leads_to types to j n ≡ true) → (n : ℕ) → leads_to types to (suc i) n ≡ true → leads_to types to (suc j) n ≡ true
      steps i j up n h = let u = step_back n i to h in one_step n j to u.name u.uses (on i j up u.name u.so)

  -- a type, and those that it leads to
  abbrev led : ℕ → ℕ → Bool
  led a m = on_way m count a

  -- what a used type leads to, the type leads to
  led_on : (b c m : ℕ) → UsesType true (alias_at types b) c → led c m ≡ true → led b m ≡ true
  led_on b c m u h = or_right (b == m) (leads_to types m count b) (bounded (leads_to types m) count (leads_grow m) (suc count) b (one_step b count m c u h))

  -- what leads by steps leads
  reaches : (to j n : ℕ) → leads_to types to j n ≡ true → Reaches true types n to
  reaches to zero n h = absurd (let e : false ≡ true = h in cc)
  reaches to (suc j) n h =
      let u = step_back n j to h in
      goes (alias_at types n) u.name (stands_at types n (leading to (suc j) n h)) u.uses (by (or_cases (u.name == to) (leads_to types to j u.name) u.so) (λ e. reaches to j u.name e))
    where
      by : {m : ℕ} → ((m == to) ≡ true) ⊎ (leads_to types to j m ≡ true) → (leads_to types to j m ≡ true → Reaches true types m to) → Reaches true types m to
      by {m} (inl e) more = stays (eqb-true m to e)
      by {m} (inr e) more = more e

  -- ---- levels

  -- how many types a type leads to, with itself
  pub level : ℕ → ℕ
  level a = how_many (led a) count

  pub level_most : (a : ℕ) → level a ≤ count
  unfolding level
  level_most a = at_most_all (led a) count

  -- no set is smaller than the empty one
  none_in : (k : ℕ) → how_many (λ m. false) k ≡ 0
  none_in zero = refl
  none_in (suc k) = let h = none_in k in omega (arith, h)

  -- a type leads to itself
  pub level_least : (a : ℕ) → a < count → 0 < level a
  unfolding level
  level_least a less =
      let none = none_in count in
      let h : how_many (λ m. false) count < how_many (led a) count = fewer (λ m. false) (led a) (λ m e. absurd (let g : false ≡ true = e in cc)) count a less refl (or_left (a == a) (leads_to types a count a) (eqb_self a)) in
      omega (arith, h, none)

  pub named_level : (b c : ℕ) → UsesType true (alias_at types b) c → level c ≤ level b
  unfolding level
  named_level b c u = as_many (led c) (led b) (λ m h. led_on b c m u h) count

  is_false : (b : Bool) → (b ≡ true → ⊥) → b ≡ false
  is_false true f = absurd (f refl)
  is_false false f = refl

  pub tested_level : (b c : ℕ) → b < count → ClausesMention (alias_at types b).clauses c → level c < level b
  unfolding level
  tested_level b c less h =
      let at = stands_at types b less in
      fewer (led c) (led b) (λ m g. led_on b c m (inr h) g) count b less
      (or_from (c == b) (leads_to types b count c) (is_false (c == b) (λ e. recurs.mention b c (alias_at types b) at h (stays (eqb-true c b e)))) (is_false (leads_to types b count c) (λ e. recurs.mention b c (alias_at types b) at h (reaches b count c e))))
      (or_left (b == b) (leads_to types b count b) (eqb_self b))
