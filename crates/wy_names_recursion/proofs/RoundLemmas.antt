-- Rounds over properties end with exactly those whose expansion ends, each behind those that it uses.
use Rattle.std.proofs.Common.{◌≡◌, ◌≢◌, ◌+◌, ◌<◌, ◌≤◌, ◌⊎◌, inl, inr, ℕ, zero, suc, Bool, true, false, not, ◌&&◌, ◌==◌, cond, List, [], ◌∷◌, ◌++◌, length, Option, Some, None, refl, sym, ap, subst, ◌∙◌, arith, add-one}
use Rattle.std.specs.List.{slice_get}
use Rattle.std.proofs.lemmas.Bool.{eqb-true, eq-eqb}
use Rattle.wy_ast.specs.SurfaceTree.{Decl}
use Rattle.wy_lemmas.proofs.Choices.{not_true as denied, true_false as clash, both_parts as both, or_cases as one_of, or_left, or_right}
use Rattle.wy_lemmas.proofs.Lists.{at_first as place_more}
use Rattle.wy_names_recursion.specs.declared.edges.Edge.{Edge}
use Rattle.wy_names_recursion.specs.Uses.{Edges}
use Rattle.wy_names_recursion.specs.Endings.{is_use, is_use_way, Ends, ends, is_property, StandsAt, IsOrder}
use Rattle.wy_names_recursion.specs.Rounds.{has, blocks, is_ready, with_ready, with_left, order_behind, rest_behind, properties}
use Rattle.wy_names_recursion.proofs.OrderLemmas.{refuted}

abbrev Has : List ℕ → ℕ → Type 0
Has xs p = has xs p ≡ true

has_more : (xs : List ℕ) (x p : ℕ) → Has xs p → Has (xs ++ x ∷ []) p
has_more [] x p h = absurd (cc)
has_more (y ∷ ys) x p h = by (one_of (y == p) (has ys p) h) (has_more ys x p)
  where
    by : ((y == p) ≡ true) ⊎ Has ys p → (Has ys p → Has (ys ++ x ∷ []) p) → Has (y ∷ (ys ++ x ∷ [])) p
    by (inl same) go = or_left (y == p) (has (ys ++ x ∷ []) p) same
    by (inr rest) go = or_right (y == p) (has (ys ++ x ∷ []) p) (go rest)

has_last : (xs : List ℕ) (x p : ℕ) → (x == p) ≡ true → Has (xs ++ x ∷ []) p
has_last [] x p h = or_left (x == p) false h
has_last (y ∷ ys) x p h = or_right (y == p) (has (ys ++ x ∷ []) p) (has_last ys x p h)

-- an index that stands in a list has a place there
record Place (xs : List ℕ) (p : ℕ) : Type 0 where
  at : ℕ
  within : at < length xs
  is : slice_get xs at ≡ Some p

next_place : (x : ℕ) (xs : List ℕ) (p : ℕ) → Place xs p → Place (x ∷ xs) p
next_place x xs p k = let less : k.at < length xs = k.within in record { at = suc k.at; within = omega arith; is = k.is }

place_of : (xs : List ℕ) (p : ℕ) → Has xs p → Place xs p
place_of [] p h = absurd (cc)
place_of (x ∷ xs) p h = by (one_of (x == p) (has xs p) h) (place_of xs p)
  where
    by : ((x == p) ≡ true) ⊎ Has xs p → (Has xs p → Place xs p) → Place (x ∷ xs) p
    by (inl same) go = record { at = zero; within = omega arith; is = ap Some (eqb-true x p same) }
    by (inr rest) go = next_place x xs p (go rest)

-- a place in a list with one more item is one of the list, or that of the item
record IsLast (xs : List ℕ) (x k p : ℕ) : Type 0 where
  place : k ≡ length xs
  same : x ≡ p

next_last : (y : ℕ) (ys : List ℕ) (x k p : ℕ) → (slice_get ys k ≡ Some p) ⊎ IsLast ys x k p → (slice_get (y ∷ ys) (suc k) ≡ Some p) ⊎ IsLast (y ∷ ys) x (suc k) p
next_last y ys x k p (inl h) = inl h
next_last y ys x k p (inr l) = inr (record { place = ap (λ n. suc n) l.place; same = l.same })

last_or : (xs : List ℕ) (x k p : ℕ) → slice_get (xs ++ x ∷ []) k ≡ Some p → (slice_get xs k ≡ Some p) ⊎ IsLast xs x k p
last_or [] x zero p h = inr (record { place = refl; same = cc })
last_or [] x (suc k) p h = absurd (cc)
last_or (y ∷ ys) x zero p h = inl h
last_or (y ∷ ys) x (suc k) p h = next_last y ys x k p (last_or ys x k p h)

-- ---- what a property that is ready uses stands in the order, and one that isn't uses another one that doesn't

ready_one : (u f h : Bool) → not (u && (f && not h)) ≡ true → u ≡ true → f ≡ true → h ≡ true
ready_one true true true n a b = refl
ready_one true true false n a b = absurd (cc)
ready_one true false h n a b = absurd (cc)
ready_one false f h n a b = absurd (cc)

ready_at : (ds : List Decl) (order : List ℕ) (p : ℕ) (es : Edges) → is_ready ds order p es ≡ true → (i : ℕ) (e : Edge) → slice_get es i ≡ Some e → is_use ds e ≡ true → e.from ≡ p → Has order e.to
ready_at ds order p [] r i e at used from = absurd (cc)
ready_at ds order p (x ∷ xs) r zero e at used from =
    let same : x ≡ e = cc in
    let here : not (blocks ds order p x) ≡ true = (both (not (blocks ds order p x)) (is_ready ds order p xs) r).0 in
    let here2 : not (blocks ds order p e) ≡ true = subst (λ (y : Edge). not (blocks ds order p y) ≡ true) same here in
    ready_one (is_use ds e) (e.from == p) (has order e.to) here2 used (eq-eqb e.from p from)
ready_at ds order p (x ∷ xs) r (suc i) e at used from = ready_at ds order p xs (both (not (blocks ds order p x)) (is_ready ds order p xs) r).1 i e at used from

record Blocked (ds : List Decl) (order : List ℕ) (p : ℕ) (es : Edges) : Type 0 where
  at : ℕ
  edge : Edge
  is : slice_get es at ≡ Some edge
  used : is_use ds edge ≡ true
  from : edge.from ≡ p
  lacks : has order edge.to ≡ false

next_blocked : (ds : List Decl) (order : List ℕ) (p : ℕ) (x : Edge) (es : Edges) → Blocked ds order p es → Blocked ds order p (x ∷ es)
next_blocked ds order p x es b = record { at = suc b.at; edge = b.edge; is = b.is; used = b.used; from = b.from; lacks = b.lacks }

either_fails : (a b : Bool) → (not a && b) ≡ false → (a ≡ true) ⊎ (b ≡ false)
either_fails true b h = inl refl
either_fails false b h = inr h

blocked : (ds : List Decl) (order : List ℕ) (p : ℕ) (es : Edges) → is_ready ds order p es ≡ false → Blocked ds order p es
blocked ds order p [] r = absurd (cc)
blocked ds order p (x ∷ xs) r = by (either_fails (blocks ds order p x) (is_ready ds order p xs) r) (blocked ds order p xs)
  where
    by : (blocks ds order p x ≡ true) ⊎ (is_ready ds order p xs ≡ false) → (is_ready ds order p xs ≡ false → Blocked ds order p xs) → Blocked ds order p (x ∷ xs)
    by (inl h) go =
        let a = both (is_use ds x) ((x.from == p) && not (has order x.to)) h in
        let b = both (x.from == p) (not (has order x.to)) a.1 in
        record { at = zero; edge = x; is = refl; used = a.0; from = eqb-true x.from p b.0; lacks = denied (has order x.to) b.1 }
    by (inr h) go = next_blocked ds order p x xs (go h)

-- ---- an order that is sound so far stays so

record Sound (ds : List Decl) (es : Edges) (order : List ℕ) : Type 0 where
  property : (k p : ℕ) → StandsAt order k p → is_property (slice_get ds p) ≡ true
  behind : (k : ℕ) (i : ℕ) (e : Edge) → slice_get es i ≡ Some e → is_use ds e ≡ true → StandsAt order k e.from → (j : ℕ) × (j < k) × StandsAt order j e.to

abbrev AllProperties : List Decl → List ℕ → Type 0
AllProperties ds rest = (p : ℕ) → Has rest p → is_property (slice_get ds p) ≡ true

pushed_property : (ds : List Decl) (es : Edges) (order : List ℕ) → Sound ds es order → (x : ℕ) → is_property (slice_get ds x) ≡ true
    → (k p : ℕ) → (StandsAt order k p) ⊎ IsLast order x k p → is_property (slice_get ds p) ≡ true
pushed_property ds es order s x is k p (inl h) = s.property k p h
pushed_property ds es order s x is k p (inr l) = subst (λ (q : ℕ). is_property (slice_get ds q) ≡ true) l.same is

pushed_behind : (ds : List Decl) (es : Edges) (order : List ℕ) → Sound ds es order → (x : ℕ) → is_ready ds order x es ≡ true
    → (k i : ℕ) (e : Edge) → slice_get es i ≡ Some e → is_use ds e ≡ true → (StandsAt order k e.from) ⊎ IsLast order x k e.from → (j : ℕ) × (j < k) × StandsAt (order ++ x ∷ []) j e.to
pushed_behind ds es order s x r k i e at used (inl h) =
    let b = s.behind k i e at used h in (b.0, b.1, place_more order x b.0 e.to b.2)
pushed_behind ds es order s x r k i e at used (inr l) =
    let stands : Has order e.to = ready_at ds order x es r i e at used (sym l.same) in
    let q : Place order e.to = place_of order e.to stands in
    let less : q.at < length order = q.within in
    let last : k ≡ length order = l.place in
    let nearer : q.at < k = omega arith in
    (q.at, nearer, place_more order x q.at e.to q.is)

pushed : (ds : List Decl) (es : Edges) (order : List ℕ) → Sound ds es order → (x : ℕ) → is_property (slice_get ds x) ≡ true → is_ready ds order x es ≡ true → Sound ds es (order ++ x ∷ [])
pushed ds es order s x is r = record {
  property = λ (k p : ℕ) (h : StandsAt (order ++ x ∷ []) k p). pushed_property ds es order s x is k p (last_or order x k p h);
  behind = λ (k : ℕ) (i : ℕ) (e : Edge) (at : slice_get es i ≡ Some e) (used : is_use ds e ≡ true) (h : StandsAt (order ++ x ∷ []) k e.from). pushed_behind ds es order s x r k i e at used (last_or order x k e.from h);
}

with_sound : (ds : List Decl) (es : Edges) (order : List ℕ) → Sound ds es order → (x : ℕ) → is_property (slice_get ds x) ≡ true → (b : Bool) → is_ready ds order x es ≡ b → Sound ds es (with_ready b order x)
with_sound ds es order s x is true r = pushed ds es order s x is r
with_sound ds es order s x is false r = s

first_property : (ds : List Decl) (x : ℕ) (xs : List ℕ) → AllProperties ds (x ∷ xs) → is_property (slice_get ds x) ≡ true
first_property ds x xs all = all x (or_left (x == x) (has xs x) (eq-eqb x x refl))

rest_properties : (ds : List Decl) (x : ℕ) (xs : List ℕ) → AllProperties ds (x ∷ xs) → AllProperties ds xs
rest_properties ds x xs all = λ (p : ℕ) (h : Has xs p). all p (or_right (x == p) (has xs p) h)

round_sound : (ds : List Decl) (es : Edges) (rest order : List ℕ) → AllProperties ds rest → Sound ds es order → Sound ds es (order_behind ds es order rest)
round_sound ds es [] order all s = s
round_sound ds es (x ∷ xs) order all s =
    round_sound ds es xs (with_ready (is_ready ds order x es) order x) (rest_properties ds x xs all)
    (with_sound ds es order s x (first_property ds x xs all) (is_ready ds order x es) refl)

-- ---- what is left was there before

left_has : (b : Bool) (x p : ℕ) (xs ys : List ℕ) → Has (with_left b x ys) p → (Has ys p → Has xs p) → Has (x ∷ xs) p
left_has true x p xs ys h f = or_right (x == p) (has xs p) (f h)
left_has false x p xs ys h f = by (one_of (x == p) (has ys p) h)
  where
    by : ((x == p) ≡ true) ⊎ Has ys p → Has (x ∷ xs) p
    by (inl same) = or_left (x == p) (has xs p) same
    by (inr rest) = or_right (x == p) (has xs p) (f rest)

left_before : (ds : List Decl) (es : Edges) (rest order : List ℕ) (p : ℕ) → Has (rest_behind ds es order rest) p → Has rest p
left_before ds es [] order p h = h
left_before ds es (x ∷ xs) order p h =
    let more : List ℕ = with_ready (is_ready ds order x es) order x in
    left_has (is_ready ds order x es) x p xs (rest_behind ds es more xs) h (left_before ds es xs more p)

-- ---- nothing is lost

kept_one : (b : Bool) (order : List ℕ) (x p : ℕ) → Has order p → Has (with_ready b order x) p
kept_one true order x p h = has_more order x p h
kept_one false order x p h = h

order_kept : (ds : List Decl) (es : Edges) (rest order : List ℕ) (p : ℕ) → Has order p → Has (order_behind ds es order rest) p
order_kept ds es [] order p h = h
order_kept ds es (x ∷ xs) order p h = order_kept ds es xs (with_ready (is_ready ds order x es) order x) p (kept_one (is_ready ds order x es) order x p h)

more_left : (b : Bool) (x p : ℕ) (ys : List ℕ) → Has ys p → Has (with_left b x ys) p
more_left true x p ys h = h
more_left false x p ys h = or_right (x == p) (has ys p) h

or_more_left : (b : Bool) (x p : ℕ) (order ys : List ℕ) → Has order p ⊎ Has ys p → Has order p ⊎ Has (with_left b x ys) p
or_more_left b x p order ys (inl h) = inl h
or_more_left b x p order ys (inr h) = inr (more_left b x p ys h)

-- the first of a round stands in the order behind it, or is left
first_stands : (ds : List Decl) (es : Edges) (x p : ℕ) (xs order : List ℕ) → (x == p) ≡ true → (b : Bool) → is_ready ds order x es ≡ b
    → Has (order_behind ds es (with_ready b order x) xs) p ⊎ Has (with_left b x (rest_behind ds es (with_ready b order x) xs)) p
first_stands ds es x p xs order same true r = inl (order_kept ds es xs (order ++ x ∷ []) p (has_last order x p same))
first_stands ds es x p xs order same false r = inr (or_left (x == p) (has (rest_behind ds es order xs) p) same)

rest_kept : (ds : List Decl) (es : Edges) (rest order : List ℕ) (p : ℕ) → Has rest p → Has (order_behind ds es order rest) p ⊎ Has (rest_behind ds es order rest) p
rest_kept ds es [] order p h = absurd (cc)
rest_kept ds es (x ∷ xs) order p h = by (one_of (x == p) (has xs p) h) (rest_kept ds es xs (with_ready (is_ready ds order x es) order x) p)
  where
    by : ((x == p) ≡ true) ⊎ Has xs p
        → (Has xs p → Has (order_behind ds es (with_ready (is_ready ds order x es) order x) xs) p ⊎ Has (rest_behind ds es (with_ready (is_ready ds order x es) order x) xs) p)
        → Has (order_behind ds es order (x ∷ xs)) p ⊎ Has (rest_behind ds es order (x ∷ xs)) p
    by (inl same) go = first_stands ds es x p xs order same (is_ready ds order x es) refl
    by (inr later) go =
        or_more_left (is_ready ds order x es) x p (order_behind ds es order (x ∷ xs)) (rest_behind ds es (with_ready (is_ready ds order x es) order x) xs) (go later)

-- ---- a round that takes none

left_fits : (b : Bool) (x : ℕ) (ys : List ℕ) (n : ℕ) → length ys ≤ n → length (with_left b x ys) ≤ suc n
left_fits true x ys n h = omega arith
left_fits false x ys n h = omega arith

pub rest_fits : (ds : List Decl) (es : Edges) (rest order : List ℕ) → length (rest_behind ds es order rest) ≤ length rest
rest_fits ds es [] order = omega arith
rest_fits ds es (x ∷ xs) order =
    let more : List ℕ = with_ready (is_ready ds order x es) order x in
    left_fits (is_ready ds order x es) x (rest_behind ds es more xs) (length xs) (rest_fits ds es xs more)

not_equal : (a b : ℕ) → (a == b) ≡ false → a ≢ b
not_equal a b h = λ (k : a ≡ b). clash (a == b) (eq-eqb a b k) h

-- a round leaves fewer, or it is the last
pub round_smaller : (before after n : ℕ) (was is : Bool) → after ≤ before → n ≡ before → was ≡ false → is ≡ (after == n) → after + cond is 0 1 < before + cond was 0 1
round_smaller before after n was is fits same begun e = rw (begun, e) (by (after == n) refl)
  where
    by : (b : Bool) → (after == n) ≡ b → after + cond b 0 1 < before + 1
    by true h = omega arith
    by false h = let other : after ≢ n = not_equal after n h in omega arith

-- none of these is ready
abbrev AllBlocked : List Decl → Edges → List ℕ → List ℕ → Type 0
AllBlocked ds es order rest = (p : ℕ) → Has rest p → is_ready ds order p es ≡ false

record Stuck (ds : List Decl) (es : Edges) (order rest : List ℕ) : Type 0 where
  order_stays : order_behind ds es order rest ≡ order
  rest_stays : rest_behind ds es order rest ≡ rest
  none : AllBlocked ds es order rest

stuck_first : (ds : List Decl) (es : Edges) (x : ℕ) (xs order : List ℕ) → is_ready ds order x es ≡ false → AllBlocked ds es order xs → AllBlocked ds es order (x ∷ xs)
stuck_first ds es x xs order r none = λ (p : ℕ) (h : Has (x ∷ xs) p). by p (one_of (x == p) (has xs p) h)
  where
    by : (p : ℕ) → ((x == p) ≡ true) ⊎ Has xs p → is_ready ds order p es ≡ false
    by p (inl same) = subst (λ (q : ℕ). is_ready ds order q es ≡ false) (eqb-true x p same) r
    by p (inr later) = none p later

stuck_step : (ds : List Decl) (es : Edges) (x : ℕ) (xs order : List ℕ) → ((more : List ℕ) → length (rest_behind ds es more xs) ≡ length xs → Stuck ds es more xs)
    → (b : Bool) → is_ready ds order x es ≡ b → length (with_left b x (rest_behind ds es (with_ready b order x) xs)) ≡ suc (length xs)
    → (order_behind ds es (with_ready b order x) xs ≡ order) × (with_left b x (rest_behind ds es (with_ready b order x) xs) ≡ x ∷ xs) × AllBlocked ds es order (x ∷ xs)
stuck_step ds es x xs order go true r n =
    let fits : length (rest_behind ds es (order ++ x ∷ []) xs) ≤ length xs = rest_fits ds es xs (order ++ x ∷ []) in
    let all : length (rest_behind ds es (order ++ x ∷ []) xs) ≡ suc (length xs) = n in
    absurd (omega arith)
stuck_step ds es x xs order go false r n =
    let all : suc (length (rest_behind ds es order xs)) ≡ suc (length xs) = n in
    let s : Stuck ds es order xs = go order (omega arith) in
    (s.order_stays, ap (λ l. x ∷ l) s.rest_stays, stuck_first ds es x xs order r s.none)

stuck : (ds : List Decl) (es : Edges) (rest order : List ℕ) → length (rest_behind ds es order rest) ≡ length rest → Stuck ds es order rest
stuck ds es [] order n = record { order_stays = refl; rest_stays = refl; none = λ (p : ℕ) (h : Has [] p). absurd (cc) }
stuck ds es (x ∷ xs) order n =
    let s = stuck_step ds es x xs order (stuck ds es xs) (is_ready ds order x es) refl n in
    record { order_stays = s.0; rest_stays = s.1; none = s.2 }

-- ---- the rounds

-- what holds before and behind each round: the order is sound, and each property stands in it or is left; behind the last one none is ready
pub record Grown (ds : List Decl) (es : Edges) (order rest : List ℕ) (is_done : Bool) : Type 0 where
  pub property : (k p : ℕ) → StandsAt order k p → is_property (slice_get ds p) ≡ true
  pub behind : (k : ℕ) (i : ℕ) (e : Edge) → slice_get es i ≡ Some e → is_use ds e ≡ true → StandsAt order k e.from → (j : ℕ) × (j < k) × StandsAt order j e.to
  pub left : (p : ℕ) → has rest p ≡ true → is_property (slice_get ds p) ≡ true
  pub whole : (p : ℕ) → is_property (slice_get ds p) ≡ true → (has order p ≡ true) ⊎ (has rest p ≡ true)
  pub none : is_done ≡ true → (p : ℕ) → has rest p ≡ true → is_ready ds order p es ≡ false

whole_behind : (ds : List Decl) (es : Edges) (rest order : List ℕ) (p : ℕ) → Has order p ⊎ Has rest p → Has (order_behind ds es order rest) p ⊎ Has (rest_behind ds es order rest) p
whole_behind ds es rest order p (inl h) = inl (order_kept ds es rest order p h)
whole_behind ds es rest order p (inr h) = rest_kept ds es rest order p h

none_behind : (ds : List Decl) (es : Edges) (rest order : List ℕ) → length (rest_behind ds es order rest) ≡ length rest → AllBlocked ds es (order_behind ds es order rest) (rest_behind ds es order rest)
none_behind ds es rest order n =
    let s : Stuck ds es order rest = stuck ds es rest order n in
    subst (λ (o : List ℕ). AllBlocked ds es o (rest_behind ds es order rest)) (sym s.order_stays)
    (subst (λ (r : List ℕ). AllBlocked ds es order r) (sym s.rest_stays) s.none)

pub grown_round : (ds : List Decl) (es : Edges) (order rest order2 rest2 : List ℕ) (before after : Bool) → Grown ds es order rest before
    → order2 ≡ order_behind ds es order rest → rest2 ≡ rest_behind ds es order rest → (after ≡ true → length rest2 ≡ length rest) → Grown ds es order2 rest2 after
grown_round ds es order rest order2 rest2 before after g o r n =
    let s : Sound ds es (order_behind ds es order rest) = round_sound ds es rest order g.left (record { property = g.property; behind = g.behind }) in
    let t : Sound ds es order2 = subst (λ (x : List ℕ). Sound ds es x) (sym o) s in
    record {
      property = t.property;
      behind = t.behind;
      left = λ (p : ℕ) (h : Has rest2 p). g.left p (left_before ds es rest order p (subst (λ (x : List ℕ). Has x p) r h));
      whole = λ (p : ℕ) (is : is_property (slice_get ds p) ≡ true).
          subst (λ (x : List ℕ). Has x p ⊎ Has rest2 p) (sym o) (subst (λ (x : List ℕ). Has (order_behind ds es order rest) p ⊎ Has x p) (sym r) (whole_behind ds es rest order p (g.whole p is)));
      none = λ (d : after ≡ true).
          subst (λ (x : List ℕ). AllBlocked ds es x rest2) (sym o)
          (subst (λ (x : List ℕ). AllBlocked ds es (order_behind ds es order rest) x) (sym r) (none_behind ds es rest order (ap length (sym r) ∙ n d)));
    }

-- a round, where what was left and what is left have the same length exactly at the end
pub grown_turn : (ds : List Decl) (es : Edges) (order rest order2 rest2 : List ℕ) (before : ℕ) (was is : Bool) → Grown ds es order rest was → before ≡ length rest
    → order2 ≡ order_behind ds es order rest → rest2 ≡ rest_behind ds es order rest → is ≡ (length rest2 == before) → Grown ds es order2 rest2 is
grown_turn ds es order rest order2 rest2 before was is g counted o r e =
    grown_round ds es order rest order2 rest2 was is g o r (λ (d : is ≡ true). eqb-true (length rest2) before (sym e ∙ d) ∙ counted)

pub turn_smaller : (ds : List Decl) (es : Edges) (order rest rest2 : List ℕ) (before : ℕ) (was is : Bool) → before ≡ length rest → rest2 ≡ rest_behind ds es order rest → was ≡ false → is ≡ (length rest2 == before)
    → length rest2 + cond is 0 1 < length rest + cond was 0 1
turn_smaller ds es order rest rest2 before was is counted r begun e =
    round_smaller (length rest) (length rest2) before was is (subst (λ (x : List ℕ). length x ≤ length rest) (sym r) (rest_fits ds es rest order)) counted begun e

-- ---- the first round

property_left : (k : ℕ) (ds : List Decl) (i : ℕ) → is_property (slice_get ds i) ≡ true → Has (properties k ds) (k + i)
property_left k [] i h = absurd (cc)
property_left k (d ∷ ds) zero h = by (is_property (Some d)) h
  where
    by : (b : Bool) → b ≡ true → Has (cond b (k ∷ properties (k + 1) ds) (properties (k + 1) ds)) (k + 0)
    by true e = or_left (k == (k + 0)) (has (properties (k + 1) ds) (k + 0)) (eq-eqb k (k + 0) (omega arith))
    by false e = absurd (cc)
property_left k (d ∷ ds) (suc i) h =
    let moved : k + 1 + i ≡ k + suc i = omega arith in by (is_property (Some d)) (subst (λ (n : ℕ). Has (properties (k + 1) ds) n) moved (property_left (k + 1) ds i h))
  where
    by : (b : Bool) → Has (properties (k + 1) ds) (k + suc i) → Has (cond b (k ∷ properties (k + 1) ds) (properties (k + 1) ds)) (k + suc i)
    by true later = or_right (k == (k + suc i)) (has (properties (k + 1) ds) (k + suc i)) later
    by false later = later

-- an index among those of the properties is one of a property
record IsPropertyBehind (k : ℕ) (ds : List Decl) (p : ℕ) : Type 0 where
  at : ℕ
  moved : p ≡ k + at
  is : is_property (slice_get ds at) ≡ true

later_property : (k : ℕ) (d : Decl) (ds : List Decl) (p : ℕ) → IsPropertyBehind (k + 1) ds p → IsPropertyBehind k (d ∷ ds) p
later_property k d ds p i = let m : p ≡ k + 1 + i.at = i.moved in record { at = suc i.at; moved = omega arith; is = i.is }

left_property : (k : ℕ) (ds : List Decl) (p : ℕ) → Has (properties k ds) p → IsPropertyBehind k ds p
left_property k [] p h = absurd (cc)
left_property k (d ∷ ds) p h = by (is_property (Some d)) refl h (left_property (k + 1) ds p)
  where
    here : is_property (Some d) ≡ true → ((k == p) ≡ true) ⊎ Has (properties (k + 1) ds) p → (Has (properties (k + 1) ds) p → IsPropertyBehind (k + 1) ds p) → IsPropertyBehind k (d ∷ ds) p
    here is (inl same) go = let e : k ≡ p = eqb-true k p same in record { at = zero; moved = omega arith; is = is }
    here is (inr later) go = later_property k d ds p (go later)

    by : (b : Bool) → is_property (Some d) ≡ b → Has (cond b (k ∷ properties (k + 1) ds) (properties (k + 1) ds)) p → (Has (properties (k + 1) ds) p → IsPropertyBehind (k + 1) ds p) → IsPropertyBehind k (d ∷ ds) p
    by true is h2 go = here is (one_of (k == p) (has (properties (k + 1) ds) p) h2) go
    by false is h2 go = later_property k d ds p (go h2)

pub grown_start : (ds : List Decl) (es : Edges) (rest : List ℕ) → rest ≡ properties 0 ds → Grown ds es [] rest false
grown_start ds es rest r = record {
  property = λ (k p : ℕ) (h : StandsAt [] k p). absurd (cc);
  behind = λ (k : ℕ) (i : ℕ) (e : Edge) (at : slice_get es i ≡ Some e) (used : is_use ds e ≡ true) (h : StandsAt [] k e.from). absurd (cc);
  left = λ (p : ℕ) (h : Has rest p).
      let i : IsPropertyBehind 0 ds p = left_property 0 ds p (subst (λ (x : List ℕ). Has x p) r h) in
      let m : i.at ≡ p = omega (arith, i.moved) in
      subst (λ (q : ℕ). is_property (slice_get ds q) ≡ true) m i.is;
  whole = λ (p : ℕ) (is : is_property (slice_get ds p) ≡ true).
      let moved : 0 + p ≡ p = omega arith in
      let stands : Has (properties 0 ds) p = subst (λ (q : ℕ). Has (properties 0 ds) q) moved (property_left 0 ds p is) in
      inr (subst (λ (x : List ℕ). Has x p) (sym r) stands);
  none = λ (d : false ≡ true). absurd (cc);
}

-- ---- the last round

ending_step : (ds : List Decl) (es : Edges) (order rest : List ℕ) (done : Bool) → Grown ds es order rest done → (n k p : ℕ) → k < suc n → StandsAt order k p
    → ((j q : ℕ) → j < n → StandsAt order j q → Ends ds es q) → (i : ℕ) (e : Edge) → slice_get es i ≡ Some e → is_use ds e ≡ true → e.from ≡ p → Ends ds es e.to
ending_step ds es order rest done g n k p less at go i e h used from =
    let b = g.behind k i e h used (subst (λ (q : ℕ). StandsAt order k q) (sym from) at) in
    let nearer : b.0 < k = b.1 in
    go b.0 e.to (omega arith) b.2

ending_below : (ds : List Decl) (es : Edges) (order rest : List ℕ) (done : Bool) → Grown ds es order rest done → (n k p : ℕ) → k < n → StandsAt order k p → Ends ds es p
ending_below ds es order rest done g zero k p less at = absurd (omega arith)
ending_below ds es order rest done g (suc n) k p less at = ends (ending_step ds es order rest done g n k p less at (ending_below ds es order rest done g n))

left_only : (order rest : List ℕ) (p : ℕ) → has order p ≡ false → Has order p ⊎ Has rest p → Has rest p
left_only order rest p absent (inl h) = absurd (clash (has order p) h absent)
left_only order rest p absent (inr h) = h

-- a property that is left behind the last round uses another one that is left, so its expansion has no end
never : (ds : List Decl) (es : Edges) (order rest : List ℕ) → Grown ds es order rest true → (p : ℕ) → Ends ds es p → Has rest p → ⊥
never ds es order rest g p (ends f) h =
    let b : Blocked ds order p es = blocked ds order p es (g.none refl p h) in
    let property = (both (is_use_way b.edge.way) (is_property (slice_get ds b.edge.to)) b.used).1 in
    never ds es order rest g b.edge.to (f b.at b.edge b.is b.used b.from) (left_only order rest b.edge.to b.lacks (g.whole b.edge.to property))

whole_in : (ds : List Decl) (es : Edges) (order rest : List ℕ) → Grown ds es order rest true → (p : ℕ) → Ends ds es p → Has order p ⊎ Has rest p → (k : ℕ) × StandsAt order k p
whole_in ds es order rest g p ending (inl h) = let q : Place order p = place_of order p h in (q.at, q.is)
whole_in ds es order rest g p ending (inr h) = absurd (never ds es order rest g p ending h)

pub grown_order : (ds : List Decl) (es : Edges) (order rest : List ℕ) (is_done : Bool) → Grown ds es order rest is_done → is_done ≡ true → IsOrder ds es order
grown_order ds es order rest true g h = record {
  property = g.property;
  ending = λ (k p : ℕ) (at : StandsAt order k p). ending_below ds es order rest true g (suc k) k p (omega arith) at;
  whole = λ (p : ℕ) (is : is_property (slice_get ds p) ≡ true) (ending : Ends ds es p). whole_in ds es order rest g p ending (g.whole p is);
  behind = g.behind;
}
grown_order ds es order rest false g h = absurd (cc)
