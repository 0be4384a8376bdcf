-- What is read are values: numbers in range, names that rise, and lists that are no longer than the text.
use Rattle.std.proofs.Common.{◌≡◌, ℕ, zero, suc, ◌+◌, ◌-◌, ◌≤◌, ◌^◌, ℤ, Bool, true, false, cond, true≢false, List, [], ◌∷◌, ◌++◌, length, inl, inr, refl, sym, ap, ◌∙◌, subst, arith, rules, length-append, ◌≤ℤ◌}
use Rattle.std.proofs.lemmas.Int.{ints}
use Rattle.std.specs.Cmp.Lexicographic.{slice_cmp, nat_list_cmp_total}
use Rattle.std.specs.List.{AllByRecursion}
use Rattle.std.specs.List.Sorted.{IsStrictlySortedBy}
use Rattle.std.specs.Ordering.{is_eq, nat_cmp, ordering_reverse}
use Rattle.std.specs.declared.cmp.Ordering.{Ordering}
use Rattle.std.specs.declared.cmp.Ordering.TheVariants.{Less, Equal, Greater}
use Rattle.std.specs.Str.{chars, encode_utf8_all, all_scalars, bytes_eq}
use Rattle.std.proofs.lemmas.Str.{chars-encodes}
use Rattle.std.proofs.lemmas.Map.Text.{is_eq-slice_cmp}
use Rattle.wy_data.specs.Words.{IsName, is_word, all_parts, is_keyword}
use Rattle.wy_data.proofs.wy_lemmas_proofs.Choices.{not_true}
use Rattle.wy_reading.specs.Rule.{One, Pure, Then, Turns, Spelled}
use Rattle.wy_reading.specs.Rule.Turns.{stop, more}
use Rattle.wy_reading.proofs.Words.{IsWordOf, AllPass, word-is}
use Rattle.wy_value.proofs.RoundTrip.{rest-rises}
use Rattle.wy_value.specs.declared.bounds.TheConstants.{INT_MIN, INT_MAX}
use Rattle.wy_value.specs.declared.character.Character.TheVariants as c
use Rattle.wy_value.specs.declared.fault.Kind.{Kind}
use Rattle.wy_value.specs.declared.value.Value.{Value}
use Rattle.wy_value.specs.declared.value.Value.TheVariants as value
use Rattle.wy_value.specs.Characters.{has}
use Rattle.wy_value.specs.Values.{Rise, names_of, length_of, IsValue, AreValues, AreValueFields}
use Rattle.wy_value.specs.Seen.{seen, seen_items, seen_fields}
use Rattle.wy_value.specs.Numbers.{is_int}
use Rattle.wy_value.specs.Grammar.{R, eq, Spaces, Mark, Digits, Number, Int, Literal, Flat, Entry, given, placed, may_name, is_new, NewName, Elem, Next, Elems, Field, NextField, Bracketed, ValueIn, Text}
use Rattle.wy_value.specs.Grammar as grammar
use Rattle.wy_value.proofs.CharacterLemmas.{start_letter, part_letter}
use Rattle.wy_value.proofs.SeenLemmas.{seen_null, seen_bool, seen_int, seen_array, seen_record}

-- ---- what is left of a text

-- j is left of i: no longer, and of characters where i is
record Left (i j : List ℕ) : Type 0 where
  pub fits : length j ≤ length i
  pub scalars : all_scalars i ≡ true → all_scalars j ≡ true

-- likewise, and at least a character was read
record Less_left (i j : List ℕ) : Type 0 where
  pub fits : suc (length j) ≤ length i
  pub scalars : all_scalars i ≡ true → all_scalars j ≡ true

left-same : (i j : List ℕ) → i ≡ j → Left i j
left-same i j e = record { fits = omega (arith, ap length e); scalars = λ h. ap all_scalars (sym e) ∙ h }

left-join : (i j k : List ℕ) → Left i j → Left j k → Left i k
left-join i j k a b = record { fits = omega (arith, a.fits, b.fits); scalars = λ h. b.scalars (a.scalars h) }

weaker : (i j : List ℕ) → Less_left i j → Left i j
weaker i j a = record { fits = omega (arith, a.fits); scalars = a.scalars }

less-then : (i j k : List ℕ) → Less_left i j → Left j k → Less_left i k
less-then i j k a b = record { fits = omega (arith, a.fits, b.fits); scalars = λ h. b.scalars (a.scalars h) }

then-less : (i j k : List ℕ) → Left i j → Less_left j k → Less_left i k
then-less i j k a b = record { fits = omega (arith, a.fits, b.fits); scalars = λ h. b.scalars (a.scalars h) }

scalars-rest : (front j : List ℕ) → all_scalars (front ++ j) ≡ true → all_scalars j ≡ true
scalars-rest [] j h = h
scalars-rest (d ∷ front) j h = scalars-rest front j (grind (rules, h))

scalars-front : (front j : List ℕ) → all_scalars (front ++ j) ≡ true → all_scalars front ≡ true
scalars-front [] j h = refl
scalars-front (d ∷ front) j h = let e = scalars-front front j (grind (rules, h)) in grind (rules, h, e)

less-after : (d : ℕ) (front i j : List ℕ) → i ≡ (d ∷ front) ++ j → Less_left i j
less-after d front i j e = record {
  fits = omega (arith, ap length e, length-append (d ∷ front) j);
  scalars = λ h. scalars-rest (d ∷ front) j (ap all_scalars (sym e) ∙ h);
}

-- ---- without brackets

-- one more space
abbrev SpaceTurn : Unit {0} → R (Unit {0})
SpaceTurn u = Then (One (has c.Space)) (λ _. Pure tt)

spaces-left : {u : Unit {0}} {i : List ℕ} {v : Unit {0}} {j : List ℕ} → Turns SpaceTurn u i v j → Left i j
spaces-left {i = i} {j = j} (stop et ek) = left-same i j ek
spaces-left {i = i} {j = k} (more b j r rest) = left-join i j k (weaker i j (less-after r.0 [] i j (r.2.1 ∙ ap (λ l. r.0 ∷ l) r.3.1))) (spaces-left rest)

mark-left : (d : ℕ) (i : List ℕ) (u : Unit {0}) (j : List ℕ) → (Mark d).reads i u j → Less_left i j
mark-left d i u j h = less-then i h.1 j (less-after h.0 [] i h.1 h.2.1) (spaces-left h.3)

digits-left : (i w j : List ℕ) → Digits.reads i w j → Less_left i j
digits-left i w j h =
    let d = word-is Kind (has c.Digit) (has c.Digit) 48 refl 48 refl i w j h in
    less-after d.0.head d.0.tail i j (d.1 ∙ ap (λ l. l ++ j) d.0.shape)

number-left : (i : List ℕ) (z : ℤ) (j : List ℕ) → Number.reads i z j → Less_left i j
number-left i z j (inl h) = subst (λ l. Less_left i l) h.3.1 (digits-left i h.0 h.1 h.2)
number-left i z j (inr h) = subst (λ l. Less_left i l) h.3.3.1 (then-less i h.1 h.3.1 (weaker i h.1 (less-after h.0 [] i h.1 h.2.1)) (digits-left h.1 h.3.0 h.3.1 h.3.2))

spelled-left : (word i : List ℕ) (u : Unit {0}) (j : List ℕ) → (Spelled {X = Kind} eq word).reads i u j → Left i j
spelled-left [] i u j h = left-same i j h.1
spelled-left (d ∷ word) i u j h = left-join i h.1 j (weaker i h.1 (less-after h.0 [] i h.1 h.2.1)) (spelled-left word h.1 u j h.3)

literal-left : (d : ℕ) (word : List ℕ) (w : Value) (i : List ℕ) (v : Value) (j : List ℕ) → (Literal (d ∷ word) w).reads i v j → (v ≡ w) × Less_left i j
literal-left d word w i v j h =
    let first = less-after h.2.0 [] i h.2.1 h.2.2.1 in
    (h.3.0, subst (λ l. Less_left i l) h.3.1 (less-then i h.2.1 h.1 first (spelled-left word h.2.1 h.0 h.1 h.2.3)))

in_range : (z : ℤ) → is_int z ≡ true → (INT_MIN ≤ℤ z) × (z ≤ℤ INT_MAX)
in_range z h = (grind (arith, ints, rules, h), grind (arith, ints, rules, h))

-- what is read, and what is left
abbrev Reads : R Value → Type 0
Reads V = (i : List ℕ) (v : Value) (j : List ℕ) → all_scalars i ≡ true → length i ≤ 2 ^ 63 - 1 → V.reads i v j → IsValue (seen v) × Less_left i j

flat-reads : Reads (Flat true)
flat-reads i v j sc fits (inl h) =
    (subst (λ w. IsValue (seen w)) (sym h.3.0) (subst IsValue (sym (seen_int h.0)) (in_range h.0 h.2.1)), subst (λ l. Less_left i l) h.3.1 (number-left i h.0 h.1 h.2.0))
flat-reads i v j sc fits (inr (inl h)) =
    let l = literal-left 110 (117 ∷ 108 ∷ 108 ∷ []) value.Null i v j h in (subst (λ w. IsValue (seen w)) (sym l.0) (subst IsValue (sym seen_null) tt), l.1)
flat-reads i v j sc fits (inr (inr (inl h))) =
    let l = literal-left 116 (114 ∷ 117 ∷ 101 ∷ []) (value.Bool true) i v j h in (subst (λ w. IsValue (seen w)) (sym l.0) (subst IsValue (sym (seen_bool true)) tt), l.1)
flat-reads i v j sc fits (inr (inr (inr h))) =
    let l = literal-left 102 (97 ∷ 108 ∷ 115 ∷ 101 ∷ []) (value.Bool false) i v j h in (subst (λ w. IsValue (seen w)) (sym l.0) (subst IsValue (sym (seen_bool false)) tt), l.1)

-- ---- names

parts-pass : (w : List ℕ) → AllPass (has c.Part) w → all_parts w ≡ true
parts-pass [] h = refl
parts-pass (d ∷ w) h = let e = parts-pass w h.1 in let f = h.0 in grind (rules, e, f)

a_word : (w : List ℕ) → IsWordOf (has c.Start) (has c.Part) w → is_word w ≡ true
a_word w d = rw d.shape (let e = parts-pass d.tail d.goes_on in let f = d.starts in grind (rules, e, f))

record NewOne (fs : List Entry) (n i j : List ℕ) : Type 0 where
  pub name : IsName n
  pub new : given fs n ≡ false
  pub left : Less_left i j

name-reads : (fs : List Entry) (i n j : List ℕ) → all_scalars i ≡ true → (NewName true fs).reads i n j → NewOne fs n i j
name-reads fs i n j sc h =
    let w = h.0 in let k = h.1 in
    let d = word-is Kind (has c.Start) (has c.Part) 97 start_letter 97 part_letter i w k h.2.0.0 in
    let scalars = scalars-front w k (ap all_scalars (sym d.1) ∙ sc) in
    let decoded : chars n ≡ w = ap chars h.3.0 ∙ chars-encodes w scalars in
    record {
      name = ((w, (scalars, sym h.3.0)), ap is_word decoded ∙ a_word w d.0, ap is_keyword h.3.0 ∙ not_true (is_keyword (encode_utf8_all w)) h.2.0.1);
      new = ap (given fs) h.3.0 ∙ not_true (given fs (encode_utf8_all w)) h.2.1;
      left = subst (λ l. Less_left i l) h.3.1 (less-after d.0.head d.0.tail i k (d.1 ∙ ap (λ l. l ++ k) d.0.shape));
    }

-- ---- fields

abbrev names : List Entry → List (List ℕ)
names fs = names_of (seen_fields fs)

abbrev Below : List ℕ → List (List ℕ) → Type 0
Below n ns = AllByRecursion (λ m. slice_cmp nat_cmp n m ≡ Less) ns

below-all : (n m : List ℕ) (ns : List (List ℕ)) → slice_cmp nat_cmp n m ≡ Less → Below m ns → Below n ns
below-all n m [] h b = tt
below-all n m (o ∷ ns) h b = (nat_list_cmp_total.trans n m o h b.0, below-all n m ns h b.1)

reversed : (n m : List ℕ) → slice_cmp nat_cmp n m ≡ Greater → slice_cmp nat_cmp m n ≡ Less
reversed n m h = nat_list_cmp_total.antisymm m n ∙ ap ordering_reverse h

below-placed : (m : List ℕ) (fs : List Entry) (n : List ℕ) (v : Value) → Below m (names fs) → slice_cmp nat_cmp m n ≡ Less → Below m (names (placed fs n v))
below-placed m [] n v b h = (h, tt)
below-placed m (f ∷ fs) n v b h = by (slice_cmp nat_cmp n f.0) refl (below-placed m fs n v b.1 h)
  where
    by : (o : Ordering) → slice_cmp nat_cmp n f.0 ≡ o → Below m (names (placed fs n v)) → Below m (names (placed (f ∷ fs) n v))
    by Less e later = rw e (h, b)
    by Equal e later = rw e b
    by Greater e later = rw e (b.0, later)

first-rises : (n : List ℕ) (ns : List (List ℕ)) → Rise (n ∷ ns) → Below n ns
unfolding IsStrictlySortedBy
first-rises n ns h = h.0

rise-more : (n : List ℕ) (ns : List (List ℕ)) → Below n ns → Rise ns → Rise (n ∷ ns)
unfolding IsStrictlySortedBy
rise-more n ns b h = (b, h)

rise-none : Rise []
unfolding IsStrictlySortedBy
rise-none = tt

-- fields with names that rise, and values
abbrev AreFine : List Entry → Type 0
AreFine fs = Rise (names fs) × AreValueFields (seen_fields fs)

other-name : (f : Entry) (fs : List Entry) (n : List ℕ) → given (f ∷ fs) n ≡ false → (bytes_eq n f.0 ≡ false) × (given fs n ≡ false)
other-name f fs n h = by (bytes_eq n f.0) refl h
  where
    by : (b : Bool) → bytes_eq n f.0 ≡ b → cond b true (given fs n) ≡ false → (bytes_eq n f.0 ≡ false) × (given fs n ≡ false)
    by true e g = absurd (true≢false g)
    by false e g = (e, g)

placed-fine : (fs : List Entry) (n : List ℕ) (v : Value) → AreFine fs → given fs n ≡ false → IsName n → IsValue (seen v) → AreFine (placed fs n v)
placed-fine [] n v fine new name is = (rise-more n [] tt rise-none, (name, is, tt))
placed-fine (f ∷ fs) n v fine new name is =
    by (slice_cmp nat_cmp n f.0) refl (placed-fine fs n v (rest-rises f.0 (names fs) fine.0, fine.1.2) (other-name f fs n new).1 name is)
  where
    by : (o : Ordering) → slice_cmp nat_cmp n f.0 ≡ o → AreFine (placed fs n v) → AreFine (placed (f ∷ fs) n v)
    by Less e rest = rw e (rise-more n (f.0 ∷ names fs) (e, below-all n f.0 (names fs) e (first-rises f.0 (names fs) fine.0)) fine.0, (name, is, fine.1))
    by Equal e rest = absurd (true≢false (sym (ap is_eq e) ∙ (is_eq-slice_cmp n f.0 ∙ (other-name f fs n new).0)))
    by Greater e rest =
        rw e (rise-more f.0 (names (placed fs n v)) (below-placed f.0 fs n v (first-rises f.0 (names fs) fine.0) (reversed n f.0 e)) rest.0, (fine.1.0, fine.1.1, rest.1))

-- ---- values with brackets

length_of-seen : (vs : List Value) → length_of (seen_items vs) ≡ length vs
length_of-seen [] = refl
length_of-seen (v ∷ vs) = omega (arith, length_of-seen vs)

values-append : (us : List Value) (v : Value) → AreValues (seen_items us) → IsValue (seen v) → AreValues (seen_items (us ++ v ∷ []))
values-append [] v h g = (g, tt)
values-append (u ∷ us) v h g = (h.0, values-append us v h.1 g)

module _ (V : R Value) (reads : Reads V) where
  elem-reads : Reads (Elem true V)
  elem-reads i v j sc fits h =
      let r = reads i h.0 h.1 sc fits h.2 in
      (subst (λ w. IsValue (seen w)) (sym h.3.3.0) r.0, subst (λ l. Less_left i l) h.3.3.1 (less-then i h.1 h.3.1 r.1 (spaces-left h.3.2)))

  -- items, no more than characters were read
  record ItemsRead (before : ℕ) (vs : List Value) (i j : List ℕ) : Type 0 where
    pub values : AreValues (seen_items vs)
    pub few : length vs + length j ≤ before + length i
    pub left : Left i j

  items-more : {us : List Value} {i : List ℕ} {vs : List Value} {j : List ℕ} → Turns (Next true V) us i vs j → AreValues (seen_items us) → all_scalars i ≡ true → length i ≤ 2 ^ 63 - 1 → ItemsRead (length us) vs i j
  items-more {us = us} {i = i} {vs = vs} {j = j} (stop et ek) h sc fits =
      record { values = subst (λ l. AreValues (seen_items l)) (sym et) h; few = omega (arith, ap length et, ap length ek); left = left-same i j ek }
  items-more {us = us} {i = i} {vs = vs} {j = k} (more b j r rest) h sc fits =
      let comma = mark-left 44 i r.0 r.1 r.2 in
      let e = elem-reads r.1 r.3.0 r.3.1 (comma.scalars sc) (omega (arith, comma.fits, fits)) r.3.2 in
      let here = subst (λ l. Less_left i l) r.3.3.1 (less-then i r.1 r.3.1 comma (weaker r.1 r.3.1 e.1)) in
      let made : AreValues (seen_items b) = subst (λ l. AreValues (seen_items l)) (sym r.3.3.0) (values-append us r.3.0 h e.0) in
      let later = items-more rest made (here.scalars sc) (omega (arith, here.fits, fits)) in
      record {
        values = later.values;
        few = omega (arith, later.few, here.fits, ap length r.3.3.0, length-append us (r.3.0 ∷ []));
        left = left-join i j k (weaker i j here) later.left;
      }

  items-reads : (i : List ℕ) (vs : List Value) (j : List ℕ) → (Elems true V).reads i vs j → all_scalars i ≡ true → length i ≤ 2 ^ 63 - 1 → ItemsRead 0 vs i j
  items-reads i vs j (inl h) sc fits =
      let e = elem-reads i h.0 h.1 sc fits h.2 in
      let later = items-more h.3 (e.0, tt) (e.1.scalars sc) (omega (arith, e.1.fits, fits)) in
      record { values = later.values; few = omega (arith, later.few, e.1.fits); left = left-join i h.1 j (weaker i h.1 e.1) later.left }
  items-reads i vs j (inr h) sc fits = record { values = subst (λ l. AreValues (seen_items l)) (sym h.0) tt; few = omega (arith, ap length h.0, ap length h.1); left = left-same i j h.1 }

  field-reads : (fs : List Entry) (i : List ℕ) (gs : List Entry) (j : List ℕ) → (Field true V fs).reads i gs j → AreFine fs → all_scalars i ≡ true → length i ≤ 2 ^ 63 - 1 → AreFine gs × Less_left i j
  field-reads fs i gs j h fine sc fits =
      let n = h.0 in
      let one = name-reads fs i n h.1 sc h.2 in
      let spaced = less-then i h.1 h.3.1 one.left (spaces-left h.3.2) in
      let m = h.3.3 in
      let colon = less-then i h.3.1 m.1 spaced (weaker h.3.1 m.1 (mark-left 58 h.3.1 m.0 m.1 m.2)) in
      let e = elem-reads m.1 m.3.0 m.3.1 (colon.scalars sc) (omega (arith, colon.fits, fits)) m.3.2 in
      (subst AreFine (sym m.3.3.0) (placed-fine fs n m.3.0 fine one.new one.name e.0), subst (λ l. Less_left i l) m.3.3.1 (less-then i m.1 m.3.1 colon (weaker m.1 m.3.1 e.1)))

  fields-more : {fs : List Entry} {i : List ℕ} {gs : List Entry} {j : List ℕ} → Turns (NextField true V) fs i gs j → AreFine fs → all_scalars i ≡ true → length i ≤ 2 ^ 63 - 1 → AreFine gs × Left i j
  fields-more {fs = fs} {i = i} {gs = gs} {j = j} (stop et ek) fine sc fits = (subst AreFine (sym et) fine, left-same i j ek)
  fields-more {fs = fs} {i = i} {gs = gs} {j = k} (more b j r rest) fine sc fits =
      let comma = mark-left 44 i r.0 r.1 r.2 in
      let f = field-reads fs r.1 b j r.3 fine (comma.scalars sc) (omega (arith, comma.fits, fits)) in
      let here = less-then i r.1 j comma (weaker r.1 j f.1) in
      let later = fields-more rest f.0 (here.scalars sc) (omega (arith, here.fits, fits)) in
      (later.0, left-join i j k (weaker i j here) later.1)

  fields-read : (i : List ℕ) (fs : List Entry) (j : List ℕ) → (grammar.Fields true V).reads i fs j → all_scalars i ≡ true → length i ≤ 2 ^ 63 - 1 → AreFine fs × Left i j
  fields-read i fs j (inl h) sc fits =
      let f = field-reads [] i h.0 h.1 h.2 (rise-none, tt) sc fits in
      let later = fields-more h.3 f.0 (f.1.scalars sc) (omega (arith, f.1.fits, fits)) in
      (later.0, left-join i h.1 j (weaker i h.1 f.1) later.1)
  fields-read i fs j (inr h) sc fits = (subst AreFine (sym h.0) (rise-none, tt), left-same i j h.1)

  bracketed-reads : Reads (Bracketed true V)
  bracketed-reads i v j sc fits (inl h) =
      let m = mark-left 91 i h.0 h.1 h.2 in
      let vs = h.3.0 in let k = h.3.1 in
      let r = items-reads h.1 vs k h.3.2 (m.scalars sc) (omega (arith, m.fits, fits)) in
      let end = less-after h.3.3.0 [] k h.3.3.1 h.3.3.2.1 in
      let few : length_of (seen_items vs) ≤ 2 ^ 63 - 1 = omega (arith, r.few, m.fits, fits, length_of-seen vs) in (
        subst (λ w. IsValue (seen w)) (sym h.3.3.3.0) (subst IsValue (sym (seen_array vs)) (few, r.values)),
        subst (λ l. Less_left i l) h.3.3.3.1 (less-then i h.1 h.3.3.1 m (left-join h.1 k h.3.3.1 r.left (weaker k h.3.3.1 end))),
      )
  bracketed-reads i v j sc fits (inr h) =
      let m = mark-left 123 i h.0 h.1 h.2 in
      let fs = h.3.0 in let k = h.3.1 in
      let r = fields-read h.1 fs k h.3.2 (m.scalars sc) (omega (arith, m.fits, fits)) in
      let end = less-after h.3.3.0 [] k h.3.3.1 h.3.3.2.1 in (
        subst (λ w. IsValue (seen w)) (sym h.3.3.3.0) (subst IsValue (sym (seen_record fs)) r.0),
        subst (λ l. Less_left i l) h.3.3.3.1 (less-then i h.1 h.3.3.1 m (left-join h.1 k h.3.3.1 r.1 (weaker k h.3.3.1 end))),
      )

value-reads : (D : ℕ) → Reads (ValueIn D true)
value-reads zero i v j sc fits (inl h) = absurd h
value-reads zero i v j sc fits (inr h) = flat-reads i v j sc fits h
value-reads (suc D) i v j sc fits (inl h) = bracketed-reads (ValueIn D true) (value-reads D) i v j sc fits h
value-reads (suc D) i v j sc fits (inr h) = flat-reads i v j sc fits h

-- the values of an argument text
pub text-values : (depth : ℕ) (i : List ℕ) (vs : List Value) (j : List ℕ) → (Text (record { depth = depth; strict = true })).reads i vs j → all_scalars i ≡ true → length i ≤ 2 ^ 63 - 1 → AreValues (seen_items vs)
text-values depth i vs j h sc fits =
    let inner = h.2 in
    let m = mark-left 40 i inner.0 inner.1 inner.2 in
    let us = inner.3.0 in
    let r = items-reads (ValueIn depth true) (value-reads depth) inner.1 us inner.3.1 inner.3.2 (m.scalars sc) (omega (arith, m.fits, fits)) in
    let same : vs ≡ us = h.3.3.0 ∙ inner.3.3.3.0 in
    subst (λ l. AreValues (seen_items l)) (sym same) r.values
