-- Values of the language for what a narrow question reaches: for each conjunct reached that has a datum, a value that is kept beside it. A list takes its items from these, so it is no longer than there are conjuncts.
use Rattle.std.proofs.Common.{◌≡◌, ℕ, suc, ◌<◌, ◌≤◌, pos, List, [], ◌∷◌, length, Bool, true, false, cond, not, ◌&&◌, ◌||◌, refl, sym, ap, subst, ◌∙◌, inl, inr, ◌⊎◌, arith}
use Rattle.std.specs.Prelude.{◌^◌, ◌-◌, leb}
use Rattle.std.specs.Str.{bytes_eq}
use Rattle.std.specs.List.Sorted.{IsStrictlySortedBy}
use Rattle.std.proofs.lemmas.Int.{ints}
use Rattle.std.proofs.lemmas.Bool.Decides.{leb_tells}
use Rattle.wy_lemmas.proofs.Choices.{and_false, or_none as or_false, or_true, both_parts as both, both_true as two_true}
use Rattle.wy_lemmas.proofs.Lists.{bytes_self}
use Rattle.wy_value.specs.Datum.{Datum, Data, Fields, no_items, item, no_fields, field}
use Rattle.wy_value.specs.Datum as datum
use Rattle.wy_value.specs.Values.{Rise, IsValue, AreValues, AreValueFields, names_of, length_of}
use Rattle.wy_data.specs.Words.{IsName}
use Rattle.wy_types.specs.declared.conjuncts.Signed.{Signed}
use Rattle.wy_types.specs.declared.conjuncts.Part.{Part}
use Rattle.wy_types.specs.declared.conjuncts.Atom.{Atom}
use Rattle.wy_types.specs.declared.conjuncts.Atom.TheVariants as atom
use Rattle.wy_types.specs.declared.conjuncts.Conjunct.{Conjunct}
use Rattle.wy_types.specs.declared.table.Node.TheVariants as node
use Rattle.wy_types.specs.declared.table.Table.{Table}
use Rattle.wy_types.specs.Shape.{NullShape, BoolShape, IntShape, ArrayShape, RecordShape, signed_as, part_in, each_in, fields_in, atom_in, none_in, conjunct_in, any_in}
use Rattle.wy_types.specs.Claims.{SomeOf, EachOf, IsIn, AreDifferent}
use Rattle.wy_types.specs.Membership.{shape_of, item_readers, field_readers, member}
use Rattle.wy_types.specs.Ranked.{IsRanked}
use Rattle.wy_types.specs.Conjuncts.{same_term, dnf_part}
use Rattle.wy_types.specs.Same.{same_conjunct}
use Rattle.wy_types.specs.NodeLaws.{bytes_are, same_conjunct_is, same_term_is, node_self}
use Rattle.wy_types.specs.Asks.{with_denied, asked, asked_each, alone, all_alone, ways_from, names_only, options_of, all_options, options, IsMet}
use Rattle.wy_types.specs.Reach.{Reaches, at_first, by_asking, IsNeeded, IsWide}
use Rattle.wy_types.proofs.ClaimLemmas.{some_map, some_split, each_append}
use Rattle.wy_types.proofs.RankedLemmas.{has_laws}
use Rattle.wy_types.proofs.TermLemmas.{part_in-with_sides, any_in-dnf_part}
use Rattle.wy_types.proofs.FoundLemmas.{found}
use Rattle.wy_types.proofs.AskLemmas.{some_fields, ways_from-in, laws_of, law_of, denied, met_always}
use Rattle.wy_types_laws.specs.asked_types.Rows.{IsRow}
use Rattle.wy_types_laws.proofs.asked_types_lemmas.TableLemmas.{AtomHasRow, ConjunctHasRow, names_at}
use Rattle.wy_types_laws.proofs.asked_types_lemmas.FreshLemmas.{fresh, fresh-name, fresh-none}

-- ---- lists

pub in_some : {X : Type 0} (P : X → Type 0) (xs : List X) (x : X) → IsIn x xs → P x → SomeOf P xs
in_some P [] x i p = absurd i
in_some P (y ∷ ys) x (inl e) p = inl (subst P (sym e) p)
in_some P (y ∷ ys) x (inr i) p = inr (in_some P ys x i p)

each_by : {X : Type 0} (P : X → Type 0) (xs : List X) → ((x : X) → IsIn x xs → P x) → EachOf P xs
each_by P [] f = tt
each_by P (x ∷ xs) f = (f x (inl refl), each_by P xs (λ y i. f y (inr i)))

pub each_at : {X : Type 0} (P : X → Type 0) (xs : List X) (x : X) → EachOf P xs → IsIn x xs → P x
each_at P [] x h i = absurd i
each_at P (y ∷ ys) x h (inl e) = subst P e h.0
each_at P (y ∷ ys) x h (inr i) = each_at P ys x h.1 i

turned : {X Y : Type 0} (P : X → Y → Type 0) (xs : List X) (ys : List Y) → SomeOf (λ x. SomeOf (λ y. P x y) ys) xs → SomeOf (λ y. SomeOf (λ x. P x y) xs) ys
turned P [] ys h = absurd h
turned P (x ∷ xs) ys (inl h) = some_map (λ y. P x y) (λ y. SomeOf (λ z. P z y) (x ∷ xs)) ys (λ y p. inl p) h
turned P (x ∷ xs) ys (inr h) = some_map (λ y. SomeOf (λ z. P z y) xs) (λ y. SomeOf (λ z. P z y) (x ∷ xs)) ys (λ y p. inr p) (turned P xs ys h)

-- ---- conjuncts

conjunct_self : (c : Conjunct ℕ) → same_conjunct same_term c c ≡ true
conjunct_self c = (both (same_conjunct same_term c c) true (node_self (node.Normal (c ∷ [])))).0

one_or : (x c : Conjunct ℕ) → (x ≡ c) ⊎ (x ≡ c → ⊥)
one_or x c = by (same_conjunct same_term x c) refl
  where
    by : (b : Bool) → same_conjunct same_term x c ≡ b → (x ≡ c) ⊎ (x ≡ c → ⊥)
    by true e = inl (same_conjunct_is same_term same_term_is x c e)
    by false e = inr (λ f. let s : same_conjunct same_term x c ≡ true = subst (λ (y : Conjunct ℕ). same_conjunct same_term x y ≡ true) f (conjunct_self x) in cc (s, e))

in_or : (c : Conjunct ℕ) (cs : List (Conjunct ℕ)) → IsIn c cs ⊎ (IsIn c cs → ⊥)
in_or c [] = inr (λ i. i)
in_or c (x ∷ xs) = elim (one_or x c) [
  | inl e ↦ inl (inl e)
  | inr f ↦ elim (in_or c xs) [ inl i ↦ inl (inr i) | inr g ↦ inr (λ s. elim s [ inl e ↦ f e | inr i ↦ g i ]) ]
]

-- the names of the fields of a value in the parts
pub named : {X : Type 0} (ns : List (List ℕ)) (rs : List (Bool → X → Bool)) (fs : List (List ℕ × Part X)) → fields_in ns rs fs ≡ true → ns ≡ names_at fs
named [] [] [] e = refl
named [] [] (f ∷ fs) e = absurd cc
named [] (r ∷ rs) fs e = absurd cc
named (n ∷ ns) [] fs e = absurd cc
named (n ∷ ns) (r ∷ rs) [] e = absurd cc
named (n ∷ ns) (r ∷ rs) (f ∷ fs) e =
    let a = both (bytes_eq n f.0) (part_in r f.1.terms && fields_in ns rs fs) e in
    let b = both (part_in r f.1.terms) (fields_in ns rs fs) a.1 in
    let g = bytes_are n f.0 a.0 in
    let h = named ns rs fs b.1 in
    λ i. g i ∷ h i

-- ---- a record with one field, of a name that no negative has alone

abbrev pub rows_of : List (Atom ℕ) → List (List (List ℕ))
rows_of [] = []
rows_of (atom.Record fs ∷ others) = names_at fs ∷ rows_of others
rows_of (atom.Null ∷ others) = rows_of others
rows_of (atom.Bool ∷ others) = rows_of others
rows_of (atom.Int ∷ others) = rows_of others
rows_of (atom.Array p ∷ others) = rows_of others
rows_of (atom.AnyRecord ∷ others) = rows_of others

absent : (x : List ℕ) (r : Bool → ℕ → Bool) (negatives : List (Atom ℕ)) → (IsIn (x ∷ []) (rows_of negatives) → ⊥) → names_only negatives ≡ true → none_in (RecordShape (x ∷ []) (r ∷ [])) negatives ≡ true
absent x r [] out e = refl
absent x r (atom.Record fs ∷ others) out e = two_true _ _ (by (fields_in (x ∷ []) (r ∷ []) fs) refl) (absent x r others (λ i. out (inr i)) e)
  where
    by : (b : Bool) → fields_in (x ∷ []) (r ∷ []) fs ≡ b → not b ≡ true
    by true f = absurd (out (inl (sym (named (x ∷ []) (r ∷ []) fs f))))
    by false f = refl
absent x r (atom.Null ∷ others) out e = absent x r others out e
absent x r (atom.Bool ∷ others) out e = absent x r others out e
absent x r (atom.Int ∷ others) out e = absent x r others out e
absent x r (atom.Array p ∷ others) out e = absent x r others out e
absent x r (atom.AnyRecord ∷ others) out e = absurd cc

-- as many items as a list of the language may have
pub short_enough : (n : ℕ) → n ≤ 16385 → n ≤ 2 ^ 63 - 1
short_enough n le = omega (arith, le)

-- ---- conjuncts, each with a value

abbrev pub Pair : Type 0
Pair = Conjunct ℕ × Datum

abbrev pub keys : List Pair → List (Conjunct ℕ)
keys [] = []
keys (x ∷ xs) = x.0 ∷ keys xs

pub zero-int : IsValue (datum.Whole (pos 0))
zero-int = (grind (arith, ints), grind (arith, ints))

alone-rises : (name : List ℕ) → Rise (name ∷ [])
unfolding IsStrictlySortedBy
alone-rises name = (tt, tt)

module _ (table : Table) (rank : ℕ → ℕ) (k : ℕ) (ranked : IsRanked table rank k) (first : List (Signed ℕ)) where
  -- a datum in a part, among those kept
  abbrev pub HasIn : List Pair → List (Signed ℕ) → Type 0
  HasIn xs p = SomeOf (λ (x : Pair). part_in (member table k x.1) p ≡ true) xs

  abbrev pub Holds : Pair → Type 0
  Holds x = IsValue x.1 × (conjunct_in (shape_of table k x.1) x.0 ≡ true)

  -- different conjuncts that are reached, each with a value in it
  pub record Good (xs : List Pair) : Type 0 where
    pub different : AreDifferent (keys xs)
    pub reached : EachOf (Reaches table k first) (keys xs)
    pub held : EachOf Holds xs

  abbrev pub Grows : List Pair → List Pair → Type 0
  Grows xs ys = (p : List (Signed ℕ)) → HasIn xs p → HasIn ys p

  -- more of them, with a value in the part
  pub record More (xs : List Pair) (p : List (Signed ℕ)) : Type 0 where
    pub them : List Pair
    pub good : Good them
    pub grows : Grows xs them
    pub has : HasIn them p

  abbrev pub Comes : List (Signed ℕ) → Type 0
  Comes p = (xs : List Pair) → Good xs → More xs p

  pub none_kept : Good []
  none_kept = record { different = tt; reached = tt; held = tt }

  -- ---- one after another

  record MoreSome (xs : List Pair) (ps : List (List (Signed ℕ))) : Type 0 where
    them : List Pair
    good : Good them
    grows : Grows xs them
    has : SomeOf (HasIn them) ps

  pub record MoreEach (xs : List Pair) (o : List (List (List (Signed ℕ)))) : Type 0 where
    pub them : List Pair
    pub good : Good them
    pub grows : Grows xs them
    pub has : EachOf (SomeOf (HasIn them)) o

  pub record MoreMet (xs : List Pair) (os : List (List (List (List (Signed ℕ))))) : Type 0 where
    pub them : List Pair
    pub good : Good them
    pub grows : Grows xs them
    pub has : IsMet (HasIn them) os

  more_some : (ps : List (List (Signed ℕ))) → SomeOf Comes ps → (xs : List Pair) → Good xs → MoreSome xs ps
  more_some [] h xs g = absurd h
  more_some (p ∷ ps) (inl h) xs g = let m = h xs g in record { them = m.them; good = m.good; grows = m.grows; has = inl m.has }
  more_some (p ∷ ps) (inr h) xs g = let m = more_some ps h xs g in record { them = m.them; good = m.good; grows = m.grows; has = inr m.has }

  pub more_each : (o : List (List (List (Signed ℕ)))) → EachOf (SomeOf Comes) o → (xs : List Pair) → Good xs → MoreEach xs o
  more_each [] h xs g = record { them = xs; good = g; grows = (λ p i. i); has = tt }
  more_each (ps ∷ o) h xs g =
      let a = more_some ps h.0 xs g in
      let b = more_each o h.1 a.them a.good in
      record { them = b.them; good = b.good; grows = (λ p i. b.grows p (a.grows p i)); has = (some_map (HasIn a.them) (HasIn b.them) ps (λ p i. b.grows p i) a.has, b.has) }

  pub more_met : (os : List (List (List (List (Signed ℕ))))) → IsMet Comes os → (xs : List Pair) → Good xs → MoreMet xs os
  more_met [] h xs g = absurd h
  more_met (o ∷ os) (inl h) xs g = let m = more_each o h xs g in record { them = m.them; good = m.good; grows = m.grows; has = inl m.has }
  more_met (o ∷ os) (inr h) xs g = let m = more_met os h xs g in record { them = m.them; good = m.good; grows = m.grows; has = inr m.has }

  -- ---- a list of those kept that are in a part

  abbrev pub chosen : List (Signed ℕ) → List Pair → Data
  chosen p [] = no_items
  chosen p (x ∷ xs) = cond (part_in (member table k x.1) p) (item x.1 (chosen p xs)) (chosen p xs)

  pub chosen-each : (p : List (Signed ℕ)) (xs : List Pair) → each_in (item_readers table k (chosen p xs)) p ≡ true
  chosen-each p [] = refl
  chosen-each p (x ∷ xs) = by (part_in (member table k x.1) p) refl (chosen-each p xs)
    where
      by : (b : Bool) → part_in (member table k x.1) p ≡ b → each_in (item_readers table k (chosen p xs)) p ≡ true → each_in (item_readers table k (cond b (item x.1 (chosen p xs)) (chosen p xs))) p ≡ true
      by true e rest = two_true (part_in (member table k x.1) p) (each_in (item_readers table k (chosen p xs)) p) e rest
      by false e rest = rest

  pub chosen-values : (p : List (Signed ℕ)) (xs : List Pair) → EachOf Holds xs → AreValues (chosen p xs)
  chosen-values p [] h = tt
  chosen-values p (x ∷ xs) h = by (part_in (member table k x.1) p) (chosen-values p xs h.1)
    where
      by : (b : Bool) → AreValues (chosen p xs) → AreValues (cond b (item x.1 (chosen p xs)) (chosen p xs))
      by true rest = (h.0.0, rest)
      by false rest = rest

  pub chosen-short : (p : List (Signed ℕ)) (xs : List Pair) → length_of (chosen p xs) ≤ length (keys xs)
  chosen-short p [] = omega arith
  chosen-short p (x ∷ xs) = by (part_in (member table k x.1) p) (chosen-short p xs)
    where
      by : (b : Bool) → length_of (chosen p xs) ≤ length (keys xs) → length_of (cond b (item x.1 (chosen p xs)) (chosen p xs)) ≤ suc (length (keys xs))
      by true l = omega (arith, l)
      by false l = omega (arith, l)

  -- it lacks a part that one of those kept lacks
  pub chosen-out : (p q : List (Signed ℕ)) (xs : List Pair) → SomeOf (λ (x : Pair). (part_in (member table k x.1) p ≡ true) × (part_in (member table k x.1) q ≡ false)) xs → each_in (item_readers table k (chosen p xs)) q ≡ false
  chosen-out p q [] h = absurd h
  chosen-out p q (x ∷ xs) (inl h) = by (part_in (member table k x.1) p) h.0
    where
      by : (b : Bool) → b ≡ true → each_in (item_readers table k (cond b (item x.1 (chosen p xs)) (chosen p xs))) q ≡ false
      by true e = rw (h.1) refl
      by false e = absurd cc
  chosen-out p q (x ∷ xs) (inr h) = by (part_in (member table k x.1) p) (chosen-out p q xs h)
    where
      by : (b : Bool) → each_in (item_readers table k (chosen p xs)) q ≡ false → each_in (item_readers table k (cond b (item x.1 (chosen p xs)) (chosen p xs))) q ≡ false
      by true e = rw e (and_false (part_in (member table k x.1) q))
      by false e = e

  -- what is in a part that is asked is in the first part and not in the second
  asked-out : (d : Datum) (p q : List (Signed ℕ)) → SomeOf (λ ts. part_in (member table k d) ts ≡ true) (asked table k p q) → (part_in (member table k d) p ≡ true) × (part_in (member table k d) q ≡ false)
  asked-out d p [] h = absurd h
  asked-out d p (b ∷ bs) (inl h) = by (part_in (member table k d) p) (signed_as (member table k d b.up b.term) b.inside) (part_in (member table k d) bs) (sym split ∙ h)
    where
      split : part_in (member table k d) (with_denied table k p b) ≡ (part_in (member table k d) p && not (signed_as (member table k d b.up b.term) b.inside))
      split = part_in-with_sides table (member table k d) (law_of table rank k ranked d) k p b.up (not b.inside) b.term ∙ ap (λ c. part_in (member table k d) p && c) (denied (member table k d b.up b.term) b.inside)

      by : (a c e : Bool) → (a && not c) ≡ true → (a ≡ true) × ((c && e) ≡ false)
      by true true e f = absurd cc
      by true false e f = (refl, refl)
      by false c e f = absurd cc
  asked-out d p (b ∷ bs) (inr h) =
      let e = asked-out d p bs h in
      (e.0, rw (e.1) (and_false (signed_as (member table k d b.up b.term) b.inside)))

  pub chosen-none : (p : List (Signed ℕ)) (xs : List Pair) (negatives : List (Atom ℕ)) → EachOf (SomeOf (HasIn xs)) (asked_each table k p negatives) → none_in (ArrayShape (item_readers table k (chosen p xs))) negatives ≡ true
  chosen-none p xs [] h = refl
  chosen-none p xs (atom.Array q ∷ others) h =
      let s : SomeOf (λ (x : Pair). SomeOf (λ ts. part_in (member table k x.1) ts ≡ true) (asked table k p q.terms)) xs = turned (λ ts (x : Pair). part_in (member table k x.1) ts ≡ true) (asked table k p q.terms) xs h.0 in
      let out = chosen-out p q.terms xs (some_map (λ (x : Pair). SomeOf (λ ts. part_in (member table k x.1) ts ≡ true) (asked table k p q.terms)) (λ (x : Pair). (part_in (member table k x.1) p ≡ true) × (part_in (member table k x.1) q.terms ≡ false)) xs (λ x i. asked-out x.1 p q.terms i) s) in
      two_true _ _ (rw out refl) (chosen-none p xs others h.1)
  chosen-none p xs (atom.Null ∷ others) h = chosen-none p xs others h
  chosen-none p xs (atom.Bool ∷ others) h = chosen-none p xs others h
  chosen-none p xs (atom.Int ∷ others) h = chosen-none p xs others h
  chosen-none p xs (atom.Record fs ∷ others) h = chosen-none p xs others h
  chosen-none p xs (atom.AnyRecord ∷ others) h = chosen-none p xs others h

  -- ---- a record of those kept

  pub one_kept : (xs : List Pair) (p : List (Signed ℕ)) → EachOf Holds xs → HasIn xs p → (v : Datum) × IsValue v × (part_in (member table k v) p ≡ true)
  one_kept [] p h s = absurd s
  one_kept (x ∷ xs) p h (inl e) = (x.1, h.0.0, e)
  one_kept (x ∷ xs) p h (inr s) = one_kept xs p h.1 s

  pub record FieldValues (w : List (List ℕ × Part ℕ)) : Type 0 where
    pub them : Fields
    pub held : fields_in (names_of them) (field_readers table k them) w ≡ true
    pub values : EachOf IsName (names_of them) → AreValueFields them

  pub way_values : (xs : List Pair) → EachOf Holds xs → (w : List (List ℕ × Part ℕ)) → EachOf (SomeOf (HasIn xs)) (alone w) → FieldValues w
  way_values xs g [] h = record { them = no_fields; held = refl; values = λ n. tt }
  way_values xs g (f ∷ w) h =
      let rest = way_values xs g w h.1 in
      let here : HasIn xs f.1.terms = elim h.0 [ inl a ↦ a | inr b ↦ absurd b ] in
      let one = one_kept xs f.1.terms g here in
      record { them = field f.0 one.0 rest.them; held = rw (bytes_self f.0, one.2, rest.held) refl; values = λ n. (n.0, one.1, rest.values n.1) }

  record SomeWay (ws : List (List (List ℕ × Part ℕ))) : Type 0 where
    them : Fields
    held : some_fields (names_of them) (field_readers table k them) ws ≡ true
    values : EachOf IsName (names_of them) → AreValueFields them

  some_way : (xs : List Pair) → EachOf Holds xs → (ws : List (List (List ℕ × Part ℕ))) → IsMet (HasIn xs) (all_alone ws) → SomeWay ws
  some_way xs g [] h = absurd h
  some_way xs g (w ∷ ws) (inl h) = let v = way_values xs g w h in record { them = v.them; held = rw (v.held) refl; values = v.values }
  some_way xs g (w ∷ ws) (inr h) =
      let v = some_way xs g ws h in
      record { them = v.them; held = rw (v.held) (or_true (fields_in (names_of v.them) (field_readers table k v.them) w)); values = v.values }

  record_made : (xs : List Pair) → EachOf Holds xs → (fs : List (List ℕ × Part ℕ)) (negatives : List (Atom ℕ)) → IsRow (names_at fs) → IsMet (HasIn xs) (all_alone (ways_from table k (fs ∷ []) negatives))
      → (d : Datum) × IsValue d × ((atom_in (shape_of table k d) (atom.Record fs) && none_in (shape_of table k d) negatives) ≡ true)
  record_made xs g fs negatives row h =
      let v = some_way xs g (ways_from table k (fs ∷ []) negatives) h in
      let ns = names_of v.them in
      let rs = field_readers table k v.them in
      let e = sym (ways_from-in table k ns rs (laws_of table rank k ranked v.them) (fs ∷ []) negatives) ∙ v.held in
      let a = both (fields_in ns rs fs || false) (none_in (RecordShape ns rs) negatives) e in
      let inside : fields_in ns rs fs ≡ true = sym (or_false (fields_in ns rs fs)) ∙ a.0 in
      let is : ns ≡ names_at fs = named ns rs fs inside in
      let good : IsRow ns = subst IsRow (sym is) row in
      (datum.Record v.them, (good.0, v.values good.1), two_true (fields_in ns rs fs) (none_in (RecordShape ns rs) negatives) inside a.1)

  pub any_record_made : (rs : List (List (List ℕ))) (negatives : List (Atom ℕ)) → names_only negatives ≡ true → (IsIn (fresh rs ∷ []) (rows_of negatives) → ⊥)
      → IsValue (datum.Record (field (fresh rs) datum.Null no_fields)) × (none_in (shape_of table k (datum.Record (field (fresh rs) datum.Null no_fields))) negatives ≡ true)
  any_record_made rs negatives e out = ((alone-rises (fresh rs), (fresh-name rs, tt, tt)), absent (fresh rs) (member table k datum.Null) negatives out e)

  -- ---- narrow questions

  module _ (rows : (c : Conjunct ℕ) → Reaches table k first c → ConjunctHasRow c) (narrow : IsWide table k first → ⊥) where
    pub few : (xs : List Pair) → Good xs → length (keys xs) ≤ 16384
    few xs g = by (leb_tells (length (keys xs)) 16384)
      where
        by : ((leb (length (keys xs)) 16384 ≡ true) × (length (keys xs) ≤ 16384)) ⊎ ((leb (length (keys xs)) 16384 ≡ false) × (16384 < length (keys xs))) → length (keys xs) ≤ 16384
        by (inl h) = h.1
        by (inr h) = absurd (narrow (inr (inl (keys xs, g.different, g.reached, h.1))))

    -- a conjunct of which each thing asked is kept has a value
    pub made : (xs : List Pair) → Good xs → (a : Atom ℕ) (negatives : List (Atom ℕ)) → AtomHasRow a → IsMet (HasIn xs) (options_of table k a negatives)
        → (d : Datum) × IsValue d × ((atom_in (shape_of table k d) a && none_in (shape_of table k d) negatives) ≡ true)
    made xs g atom.Null negatives row h = (datum.Null, tt, met_always (HasIn xs) (none_in NullShape negatives) h)
    made xs g atom.Bool negatives row h = (datum.Truth true, tt, met_always (HasIn xs) (none_in BoolShape negatives) h)
    made xs g atom.Int negatives row h = (datum.Whole (pos 0), zero-int, met_always (HasIn xs) (none_in IntShape negatives) h)
    made xs g (atom.Array p) negatives row (inl h) = (
      datum.Array (chosen p.terms xs),
      (short_enough _ (let s = chosen-short p.terms xs in let f = few xs g in omega (arith, s, f)), chosen-values p.terms xs g.held),
      two_true (each_in (item_readers table k (chosen p.terms xs)) p.terms) _ (chosen-each p.terms xs) (chosen-none p.terms xs negatives h),
    )
    made xs g (atom.Array p) negatives row (inr h) = absurd h
    made xs g (atom.Record fs) negatives row h = record_made xs g.held fs negatives row h
    made xs g atom.AnyRecord negatives row h =
        let v = any_record_made (rows_of negatives) negatives (met_always (HasIn xs) (names_only negatives) h) (fresh-none (rows_of negatives)) in
        (datum.Record (field (fresh (rows_of negatives)) datum.Null no_fields), v.0, v.1)

    -- ---- what is reached

    conjunct_reached : (p : List (Signed ℕ)) → IsNeeded table k first p → (c : Conjunct ℕ) → IsIn c (dnf_part table k p) → Reaches table k first c
    conjunct_reached p (inl e) c i = at_first c (subst (λ (q : List (Signed ℕ)). IsIn c (dnf_part table k q)) e i)
    conjunct_reached p (inr h) c i = by_asking h.0 c p h.1 h.2 i

    pub all_needed : (c : Conjunct ℕ) → Reaches table k first c → EachOf (EachOf (EachOf (IsNeeded table k first))) (options_of table k c.positive c.negatives)
    all_needed c r =
        each_by (EachOf (EachOf (IsNeeded table k first))) (options_of table k c.positive c.negatives)
        (λ o i. each_by (EachOf (IsNeeded table k first)) o
        (λ ps j. each_by (IsNeeded table k first) ps
        (λ p n. inr (c, r, in_some (SomeOf (SomeOf (λ (q : List (Signed ℕ)). q ≡ p))) (options_of table k c.positive c.negatives) o i (in_some (SomeOf (λ (q : List (Signed ℕ)). q ≡ p)) o ps j n)))))

    each_needed : (cs : List (Conjunct ℕ)) → EachOf (Reaches table k first) cs → EachOf (EachOf (EachOf (IsNeeded table k first))) (all_options table k cs)
    each_needed [] h = tt
    each_needed (c ∷ cs) h = each_append (EachOf (EachOf (IsNeeded table k first))) (options_of table k c.positive c.negatives) (all_options table k cs) (all_needed c h.0) (each_needed cs h.1)

    needed : (p : List (Signed ℕ)) → IsNeeded table k first p → EachOf (EachOf (EachOf (IsNeeded table k first))) (options table k p)
    needed p h = each_needed (dnf_part table k p) (each_by (Reaches table k first) (dnf_part table k p) (λ c i. conjunct_reached p h c i))

    -- ---- a value for each part that has a datum

    record MetBy (cs : List (Conjunct ℕ)) : Type 0 where
      it : Conjunct ℕ
      there : IsIn it cs
      met : IsMet Comes (options_of table k it.positive it.negatives)

    met_by : (cs : List (Conjunct ℕ)) → IsMet Comes (all_options table k cs) → MetBy cs
    met_by [] h = absurd h
    met_by (c ∷ cs) h = elim (some_split (EachOf (SomeOf Comes)) (options_of table k c.positive c.negatives) (all_options table k cs) h) [
      | inl a ↦ record { it = c; there = inl refl; met = a }
      | inr b ↦ (let m = met_by cs b in record { it = m.it; there = inr m.there; met = m.met })
    ]

    any_of : (d : Datum) (cs : List (Conjunct ℕ)) (c : Conjunct ℕ) → IsIn c cs → conjunct_in (shape_of table k d) c ≡ true → any_in (shape_of table k d) cs ≡ true
    any_of d [] c i e = absurd i
    any_of d (x ∷ xs) c (inl f) e = let g : conjunct_in (shape_of table k d) x ≡ true = subst (λ (y : Conjunct ℕ). conjunct_in (shape_of table k d) y ≡ true) (sym f) e in rw g refl
    any_of d (x ∷ xs) c (inr i) e = rw (any_of d xs c i e) (or_true (conjunct_in (shape_of table k d) x))

    pub in_part : (d : Datum) (p : List (Signed ℕ)) (c : Conjunct ℕ) → IsIn c (dnf_part table k p) → conjunct_in (shape_of table k d) c ≡ true → part_in (member table k d) p ≡ true
    in_part d p c i e = sym (any_in-dnf_part table k (shape_of table k d) (has_laws table rank k ranked d) p) ∙ any_of d (dnf_part table k p) c i e

    kept_in : (p : List (Signed ℕ)) (c : Conjunct ℕ) → IsIn c (dnf_part table k p) → (xs : List Pair) → EachOf Holds xs → IsIn c (keys xs) → HasIn xs p
    kept_in p c i [] h j = absurd j
    kept_in p c i (x ∷ xs) h (inl e) = inl (in_part x.1 p c i (subst (λ (y : Conjunct ℕ). conjunct_in (shape_of table k x.1) y ≡ true) e h.0.1))
    kept_in p c i (x ∷ xs) h (inr j) = inr (kept_in p c i xs h.1 j)

    comes : (p : List (Signed ℕ)) → IsNeeded table k first p → IsMet Comes (options table k p) → Comes p
    comes p n h xs g =
        let m = met_by (dnf_part table k p) h in
        let c = m.it in
        let r = conjunct_reached p n c m.there in
        let t = more_met (options_of table k c.positive c.negatives) m.met xs g in
        elim (in_or c (keys t.them)) [
          | inl i ↦ record { them = t.them; good = t.good; grows = t.grows; has = kept_in p c m.there t.them t.good.held i }
          | inr f ↦ (
              let v = made t.them t.good c.positive c.negatives (rows c r).0 t.has in
              record {
                them = (c, v.0) ∷ t.them;
                good = record { different = (f, t.good.different); reached = (r, t.good.reached); held = ((v.1, v.2), t.good.held) };
                grows = (λ q i. inr (t.grows q i));
                has = inl (in_part v.0 p c m.there v.2);
              })
        ]

    pub part_comes : (d : Datum) (p : List (Signed ℕ)) → IsNeeded table k first p → part_in (member table k d) p ≡ true → Comes p
    part_comes d p n e = found table rank k ranked (IsNeeded table k first) Comes needed comes d p n e

    -- some value is in the first part where some datum is
    pub first_value : (d : Datum) → part_in (member table k d) first ≡ true → (v : Datum) × IsValue v × (part_in (member table k v) first ≡ true)
    first_value d e = let m = part_comes d first (inl refl) e [] none_kept in one_kept m.them first m.good.held m.has
