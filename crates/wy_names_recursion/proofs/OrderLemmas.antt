-- An order that passes its test has exactly the properties whose expansion ends, each behind those that it uses.
use Rattle.std.proofs.Common.{◌≡◌, ◌≢◌, ◌+◌, ◌-◌, ◌<◌, ◌≤◌, ◌⊎◌, inl, inr, ℕ, zero, suc, Bool, true, false, not, ◌&&◌, ◌||◌, ◌==◌, cond, List, [], ◌∷◌, length, Option, Some, None, refl, sym, ap, subst, ◌∙◌, arith}
use Rattle.std.specs.List.{slice_get}
use Rattle.std.specs.Bool.{nat_lt}
use Rattle.std.proofs.lemmas.Option.{slice_get_within}
use Rattle.std.proofs.lemmas.Bool.{eqb-true, eq-eqb, ltb-true}
use Rattle.std.proofs.lemmas.Bool.Decides.{eqb_tells}
use Rattle.std.proofs.Math.Dec.{eqb}
use Rattle.wy_ast.specs.SurfaceTree.{Decl}
use Rattle.wy_lemmas.proofs.Choices.{both_parts as both, or_cases as one_of}
use Rattle.wy_names_recursion.specs.declared.edges.Edge.{Edge}
use Rattle.wy_names_recursion.specs.Uses.{Edges}
use Rattle.wy_names_recursion.specs.Endings.{is_use, is_use_way, Ends, ends, is_property, StandsAt, IsOrder, number_at, is_at, stands, opens, is_settled, is_before, falls, each_falls, each_placed}

pub refuted : (b : Bool) → not b ≡ true → b ≡ true → ⊥
refuted true h k = absurd (cc)
refuted false h k = absurd (cc)

other_than_zero : (n : ℕ) → not (n == 0) ≡ true → 0 < n
other_than_zero zero h = absurd (cc)
other_than_zero (suc n) h = omega arith

-- an item of an order has its place for its position
placed_at : (ds : List Decl) (positions : List ℕ) (base : ℕ) (order : List ℕ) → each_placed ds positions base order ≡ true → (k p : ℕ) → slice_get order k ≡ Some p
    → (is_property (slice_get ds p) ≡ true) × (number_at positions p ≡ base + k + 1)
placed_at ds positions base [] h k p e = absurd (cc)
placed_at ds positions base (x ∷ xs) h zero p e =
    let same : x ≡ p = cc in
    let here = both (is_property (slice_get ds x) && (number_at positions x == base + 1)) (each_placed ds positions (base + 1) xs) h in
    let parts = both (is_property (slice_get ds x)) (number_at positions x == base + 1) here.0 in
    let own : number_at positions x ≡ base + 1 = eqb-true (number_at positions x) (base + 1) parts.1 in
    let moved : number_at positions x ≡ number_at positions p = ap (number_at positions) same in
    (subst (λ (y : ℕ). is_property (slice_get ds y) ≡ true) same parts.0, omega arith)
placed_at ds positions base (x ∷ xs) h (suc k) p e =
    let here = both (is_property (slice_get ds x) && (number_at positions x == base + 1)) (each_placed ds positions (base + 1) xs) h in
    let rest = placed_at ds positions (base + 1) xs here.1 k p e in
    let own : number_at positions p ≡ base + 1 + k + 1 = rest.1 in
    (rest.0, omega arith)

-- each used of the list falls
falls_at : (ds : List Decl) (order positions : List ℕ) (es : Edges) → each_falls ds order positions es ≡ true → (i : ℕ) (e : Edge) → slice_get es i ≡ Some e → falls ds order positions e ≡ true
falls_at ds order positions [] h i e at = absurd (cc)
falls_at ds order positions (x ∷ xs) h zero e at =
    let same : x ≡ e = cc in subst (λ (y : Edge). falls ds order positions y ≡ true) same (both (falls ds order positions x) (each_falls ds order positions xs) h).0
falls_at ds order positions (x ∷ xs) h (suc i) e at = falls_at ds order positions xs (both (falls ds order positions x) (each_falls ds order positions xs) h).1 i e at

is_there : (o : Option ℕ) (p : ℕ) → is_at o p ≡ true → o ≡ Some p
is_there None p h = absurd (cc)
is_there (Some q) p h = ap Some (eqb-true q p h)

-- what the use by a property in the order says: what is used stands before it
record Before (order positions : List ℕ) (e : Edge) : Type 0 where
  there : 0 < number_at positions e.to
  less : number_at positions e.to < number_at positions e.from
  at : slice_get order (number_at positions e.to - 1) ≡ Some e.to

before_parts : (order positions : List ℕ) (e : Edge) → is_before order positions e ≡ true → Before order positions e
before_parts order positions e h =
    let first = both (not (number_at positions e.to == 0)) (nat_lt (number_at positions e.to) (number_at positions e.from) && stands order positions e.to) h in
    let second = both (nat_lt (number_at positions e.to) (number_at positions e.from)) (stands order positions e.to) first.1 in
    record {
      there = other_than_zero (number_at positions e.to) first.0;
      less = ltb-true (number_at positions e.to) (number_at positions e.from) second.0;
      at = is_there (slice_get order (number_at positions e.to - 1)) e.to second.1;
    }

before_of : (ds : List Decl) (order positions : List ℕ) (e : Edge) → falls ds order positions e ≡ true → is_use ds e ≡ true → 0 < number_at positions e.from → Before order positions e
before_of ds order positions e h used some = by (one_of (not (is_use ds e)) ((number_at positions e.from == 0) || is_before order positions e) h)
  where
    second : (number_at positions e.from == 0) ≡ true ⊎ (is_before order positions e ≡ true) → Before order positions e
    second (inl none) = let zero_is : number_at positions e.from ≡ 0 = eqb-true (number_at positions e.from) 0 none in absurd (omega arith)
    second (inr b) = before_parts order positions e b

    by : (not (is_use ds e) ≡ true) ⊎ (((number_at positions e.from == 0) || is_before order positions e) ≡ true) → Before order positions e
    by (inl none) = absurd (refuted (is_use ds e) none used)
    by (inr k) = second (one_of (number_at positions e.from == 0) (is_before order positions e) k)

-- an order that passes its test
record Passed (ds : List Decl) (es : Edges) (order positions witnesses : List ℕ) : Type 0 where
  settled : (p : ℕ) → p < length ds → is_settled ds es order positions witnesses p ≡ true
  falling : each_falls ds order positions es ≡ true
  placed : each_placed ds positions 0 order ≡ true

position_in : (ds : List Decl) (es : Edges) (order positions witnesses : List ℕ) → Passed ds es order positions witnesses → (k p : ℕ) → StandsAt order k p → number_at positions p ≡ k + 1
position_in ds es order positions witnesses t k p at = let own : number_at positions p ≡ 0 + k + 1 = (placed_at ds positions 0 order t.placed k p at).1 in omega arith

before_in : (ds : List Decl) (es : Edges) (order positions witnesses : List ℕ) → Passed ds es order positions witnesses
    → (k : ℕ) (i : ℕ) (e : Edge) → slice_get es i ≡ Some e → is_use ds e ≡ true → StandsAt order k e.from → Before order positions e
before_in ds es order positions witnesses t k i e at used from =
    let own : number_at positions e.from ≡ k + 1 = position_in ds es order positions witnesses t k e.from from in
    before_of ds order positions e (falls_at ds order positions es t.falling i e at) used (omega arith)

ending_step : (ds : List Decl) (es : Edges) (order positions witnesses : List ℕ) → Passed ds es order positions witnesses → (n k p : ℕ) → k < suc n → StandsAt order k p
    → ((j q : ℕ) → j < n → StandsAt order j q → Ends ds es q) → (i : ℕ) (e : Edge) → slice_get es i ≡ Some e → is_use ds e ≡ true → e.from ≡ p → Ends ds es e.to
ending_step ds es order positions witnesses t n k p less at go i e h used from =
    let stands_there : StandsAt order k e.from = subst (λ (q : ℕ). StandsAt order k q) (sym from) at in
    let own : number_at positions e.from ≡ k + 1 = position_in ds es order positions witnesses t k e.from stands_there in
    let b : Before order positions e = before_in ds es order positions witnesses t k i e h used stands_there in
    let some : 0 < number_at positions e.to = b.there in
    let nearer : number_at positions e.to < number_at positions e.from = b.less in
    go (number_at positions e.to - 1) e.to (omega arith) b.at

ending_below : (ds : List Decl) (es : Edges) (order positions witnesses : List ℕ) → Passed ds es order positions witnesses → (n k p : ℕ) → k < n → StandsAt order k p → Ends ds es p
ending_below ds es order positions witnesses t zero k p less at = absurd (omega arith)
ending_below ds es order positions witnesses t (suc n) k p less at =
    ends (ending_step ds es order positions witnesses t n k p less at (ending_below ds es order positions witnesses t n))

within : (ds : List Decl) (o : Option Decl) (p : ℕ) → slice_get ds p ≡ o → is_property o ≡ true → p < length ds
within ds None p at is = absurd (cc)
within ds (Some d) p at is = slice_get_within ds p d at

settled_open : (b c : Bool) (n : ℕ) (d : Bool) → cond (n == 0) (not b || c) d ≡ true → n ≡ 0 → b ≡ true → c ≡ true
settled_open b c n d h none is = by (n == 0) (eq-eqb n 0 none) h
  where
    second : (not b ≡ true) ⊎ (c ≡ true) → c ≡ true
    second (inl denied) = absurd (refuted b denied is)
    second (inr k) = k

    by : (x : Bool) → x ≡ true → cond x (not b || c) d ≡ true → c ≡ true
    by true e k = second (one_of (not b) c k)
    by false e k = absurd (cc)

settled_stands : (b : Bool) (n : ℕ) (d : Bool) → cond (n == 0) b d ≡ true → 0 < n → d ≡ true
settled_stands b n d h some = by (n == 0) refl h
  where
    by : (x : Bool) → (n == 0) ≡ x → cond x b d ≡ true → d ≡ true
    by true e k = let z : n ≡ 0 = eqb-true n 0 e in absurd (omega arith)
    by false e k = k

-- the use of another property without a position
record Opens (ds : List Decl) (es : Edges) (positions : List ℕ) (q : ℕ) : Type 0 where
  at : ℕ
  edge : Edge
  is : slice_get es at ≡ Some edge
  used : is_use ds edge ≡ true
  from : edge.from ≡ q
  property : is_property (slice_get ds edge.to) ≡ true
  none : number_at positions edge.to ≡ 0

opens_parts : (ds : List Decl) (es : Edges) (positions : List ℕ) (q i : ℕ) (o : Option Edge) → slice_get es i ≡ o → opens ds positions q o ≡ true → Opens ds es positions q
opens_parts ds es positions q i None at h = absurd (cc)
opens_parts ds es positions q i (Some e) at h =
    let a = both (is_use ds e) ((e.from == q) && (number_at positions e.to == 0)) h in
    let b = both (e.from == q) (number_at positions e.to == 0) a.1 in
    let d = both (is_use_way e.way) (is_property (slice_get ds e.to)) a.0 in
    record { at = i; edge = e; is = at; used = a.0; from = eqb-true e.from q b.0; property = d.1; none = eqb-true (number_at positions e.to) 0 b.1 }

opened : (ds : List Decl) (es : Edges) (order positions witnesses : List ℕ) → Passed ds es order positions witnesses → (q : ℕ) → is_property (slice_get ds q) ≡ true → number_at positions q ≡ 0 → Opens ds es positions q
opened ds es order positions witnesses t q is none =
    opens_parts ds es positions q (number_at witnesses q) (slice_get es (number_at witnesses q)) refl
    (settled_open (is_property (slice_get ds q)) (opens ds positions q (slice_get es (number_at witnesses q))) (number_at positions q) (stands order positions q)
    (t.settled q (within ds (slice_get ds q) q refl is)) none is)

-- a property without a position uses another one without one, so its expansion has no end
never : (ds : List Decl) (es : Edges) (order positions witnesses : List ℕ) → Passed ds es order positions witnesses → (q : ℕ) → Ends ds es q → is_property (slice_get ds q) ≡ true → number_at positions q ≡ 0 → ⊥
never ds es order positions witnesses t q (ends f) is none =
    let o : Opens ds es positions q = opened ds es order positions witnesses t q is none in
    never ds es order positions witnesses t o.edge.to (f o.at o.edge o.is o.used o.from) o.property o.none

zero_or_more : (n : ℕ) → (n ≡ 0) ⊎ (0 < n)
zero_or_more zero = inl refl
zero_or_more (suc n) = inr (omega arith)

whole_in : (ds : List Decl) (es : Edges) (order positions witnesses : List ℕ) → Passed ds es order positions witnesses → (p : ℕ) → is_property (slice_get ds p) ≡ true → Ends ds es p → (k : ℕ) × StandsAt order k p
whole_in ds es order positions witnesses t p is ending = by (zero_or_more (number_at positions p))
  where
    by : (number_at positions p ≡ 0) ⊎ (0 < number_at positions p) → (k : ℕ) × StandsAt order k p
    by (inl none) = absurd (never ds es order positions witnesses t p ending is none)
    by (inr some) = (
      number_at positions p - 1,
      is_there (slice_get order (number_at positions p - 1)) p
          (settled_stands (not (is_property (slice_get ds p)) || opens ds positions p (slice_get es (number_at witnesses p))) (number_at positions p) (stands order positions p)
          (t.settled p (within ds (slice_get ds p) p refl is)) some),
    )

behind_in : (ds : List Decl) (es : Edges) (order positions witnesses : List ℕ) → Passed ds es order positions witnesses
    → (k : ℕ) (i : ℕ) (e : Edge) → slice_get es i ≡ Some e → is_use ds e ≡ true → StandsAt order k e.from → (j : ℕ) × (j < k) × StandsAt order j e.to
behind_in ds es order positions witnesses t k i e at used from =
    let b : Before order positions e = before_in ds es order positions witnesses t k i e at used from in
    let own : number_at positions e.from ≡ k + 1 = position_in ds es order positions witnesses t k e.from from in
    let some : 0 < number_at positions e.to = b.there in
    let nearer : number_at positions e.to < number_at positions e.from = b.less in
    let less : number_at positions e.to - 1 < k = omega arith in
    (number_at positions e.to - 1, less, b.at)

-- the same, from what the test says
pub passed_order : (ds : List Decl) (es : Edges) (order positions witnesses : List ℕ) → ((p : ℕ) → p < length ds → is_settled ds es order positions witnesses p ≡ true)
    → each_falls ds order positions es ≡ true → each_placed ds positions 0 order ≡ true → IsOrder ds es order
passed_order ds es order positions witnesses settled falling placed =
    let t : Passed ds es order positions witnesses = record { settled = settled; falling = falling; placed = placed } in
    record {
      property = λ (k p : ℕ) (at : StandsAt order k p). (placed_at ds positions 0 order placed k p at).0;
      ending = λ (k p : ℕ) (at : StandsAt order k p). ending_below ds es order positions witnesses t (suc k) k p (omega arith) at;
      whole = whole_in ds es order positions witnesses t;
      behind = behind_in ds es order positions witnesses t;
    }
