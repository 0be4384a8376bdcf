-- A part has a value exactly where what it asks has values.
use Rattle.std.proofs.Common.{◌≡◌, ℕ, zero, suc, ◌+◌, ◌<◌, pos, List, [], ◌∷◌, ◌++◌, length, Bool, true, false, cond, not, ◌&&◌, ◌||◌, refl, sym, ap, ◌∙◌, inl, inr, arith}
use Rattle.std.specs.Str.{bytes_eq}
use Rattle.wy_core.proofs.wy_lemmas_proofs.Choices.{and_false, and_end as and_true, or_none as or_false, or_true, not_true, both_parts as both, both_true as two_true, and_assoc, or_assoc}
use Rattle.wy_core.proofs.wy_lemmas_proofs.Lists.{bytes_self}
use Rattle.wy_core.specs.wy_value.Datum.{Datum, Data, Fields, no_items, item, no_fields, field}
use Rattle.wy_core.specs.wy_value.Datum as datum
use Rattle.wy_core.specs.wy_value.Values.{names_of}
use Rattle.wy_types.specs.declared.conjuncts.Signed.{Signed}
use Rattle.wy_types.specs.declared.conjuncts.Part.{Part}
use Rattle.wy_types.specs.declared.conjuncts.Atom.{Atom}
use Rattle.wy_types.specs.declared.conjuncts.Atom.TheVariants as atom
use Rattle.wy_types.specs.declared.conjuncts.Conjunct.{Conjunct}
use Rattle.wy_types.specs.declared.table.Table.{Table}
use Rattle.wy_types.specs.Shape.{Shape, NullShape, BoolShape, IntShape, ArrayShape, RecordShape, signed_as, part_in, each_in, fields_in, atom_in, none_in, conjunct_in, any_in}
use Rattle.wy_types.specs.Claims.{SomeOf, EachOf}
use Rattle.wy_types.specs.Membership.{is_in, shape_of, item_readers, field_readers, member}
use Rattle.wy_types.specs.Ranked.{IsLawful, IsRanked, HasLaws}
use Rattle.wy_types.specs.Merge.{same_names}
use Rattle.wy_types.specs.Conjuncts.{dnf_part}
use Rattle.wy_types.specs.Asks.{with_denied, asked, asked_each, spread_field, put_first, spread, spread_by, spread_each, ways_from, alone, all_alone, always, names_only, options_of, all_options, options, HasValue, IsMet}
use Rattle.wy_types.proofs.TruthLemmas.{or_and}
use Rattle.wy_types.proofs.ClaimLemmas.{some_map, each_map, some_left, some_right}
use Rattle.wy_types.specs.NodeLaws.{bytes_are}
use Rattle.wy_types.proofs.MeetLemmas.{fields_in-other_names}
use Rattle.wy_types.proofs.RankedLemmas.{is_lawful}
use Rattle.wy_types.proofs.TermLemmas.{part_in-with_sides, any_in-dnf_part}

-- ---- signs

pub denied : (a b : Bool) → signed_as a (not b) ≡ not (signed_as a b)
denied true true = refl
denied true false = refl
denied false true = refl
denied false false = refl

-- ---- more items keep the negatives out

pub none_in-more : {T : Type 0} (r : Bool → T → Bool) (rs : List (Bool → T → Bool)) (negatives : List (Atom T)) → none_in (ArrayShape rs) negatives ≡ true → none_in (ArrayShape (r ∷ rs)) negatives ≡ true
none_in-more r rs [] h = refl
none_in-more r rs (atom.Array q ∷ others) h =
    let a = both (not (each_in rs q.terms)) (none_in (ArrayShape rs) others) h in
    two_true _ _ (by (part_in r q.terms) (each_in rs q.terms) a.0) (none_in-more r rs others a.1)
  where
    by : (a b : Bool) → not b ≡ true → not (a && b) ≡ true
    by a true e = absurd cc
    by true false e = refl
    by false false e = refl
none_in-more r rs (atom.Null ∷ others) h = none_in-more r rs others h
none_in-more r rs (atom.Bool ∷ others) h = none_in-more r rs others h
none_in-more r rs (atom.Int ∷ others) h = none_in-more r rs others h
none_in-more r rs (atom.Record fs ∷ others) h = none_in-more r rs others h
none_in-more r rs (atom.AnyRecord ∷ others) h = none_in-more r rs others h

-- some of the lists of fields holds
abbrev pub some_fields : List (List ℕ) → List (Bool → ℕ → Bool) → List (List (List ℕ × Part ℕ)) → Bool
some_fields ns rs [] = false
some_fields ns rs (w ∷ ws) = fields_in ns rs w || some_fields ns rs ws

pub some_fields-append : (ns : List (List ℕ)) (rs : List (Bool → ℕ → Bool)) (xs ys : List (List (List ℕ × Part ℕ))) → some_fields ns rs (xs ++ ys) ≡ (some_fields ns rs xs || some_fields ns rs ys)
some_fields-append ns rs [] ys = refl
some_fields-append ns rs (x ∷ xs) ys = ap (λ b. fields_in ns rs x || b) (some_fields-append ns rs xs ys) ∙ sym (or_assoc (fields_in ns rs x) (some_fields ns rs xs) (some_fields ns rs ys))

one_field : (a b p q s t : Bool) → a ≡ b → ((a && ((p && not q) && s)) || (a && (p && (s && not t)))) ≡ ((a && (p && s)) && not (b && (q && t)))
one_field true true p q s t e = by p q s t
  where
    by : (p q s t : Bool) → (((p && not q) && s) || (p && (s && not t))) ≡ ((p && s) && not (q && t))
    by false q s t = refl
    by true true true true = refl
    by true true true false = refl
    by true true false t = refl
    by true false true t = refl
    by true false false t = refl
one_field false b p q s t e = refl
one_field true false p q s t e = absurd cc

not_both : (a b : Bool) → (a && b) ≡ false → (a || false) ≡ (a && not b)
not_both true true e = absurd cc
not_both true false e = refl
not_both false b e = refl

or_and_true : (a : Bool) → (a || false) ≡ (a && true)
or_and_true true = refl
or_and_true false = refl

-- ---- a field with a name that no negative has: as many letters as they have bytes, and one more

abbrev pub name_bound : List (Atom ℕ) → ℕ
name_bound [] = 0
name_bound (atom.Record [] ∷ others) = name_bound others
name_bound (atom.Record (q ∷ qs) ∷ others) = length q.0 + name_bound others
name_bound (atom.Null ∷ others) = name_bound others
name_bound (atom.Bool ∷ others) = name_bound others
name_bound (atom.Int ∷ others) = name_bound others
name_bound (atom.Array p ∷ others) = name_bound others
name_bound (atom.AnyRecord ∷ others) = name_bound others

pub letters : ℕ → List ℕ
letters zero = []
letters (suc n) = 97 ∷ letters n

pub length-letters : (n : ℕ) → length (letters n) ≡ n
unfolding letters
length-letters zero = refl
length-letters (suc n) = let e = length-letters n in omega (arith, e)

pub bytes_differ : (x y : List ℕ) → length y < length x → bytes_eq x y ≡ false
bytes_differ x y lt = by (bytes_eq x y) refl
  where
    by : (b : Bool) → bytes_eq x y ≡ b → bytes_eq x y ≡ false
    by true e = absurd (let h = ap length (bytes_are x y e) in omega (arith, h, lt))
    by false e = e

pub fresh_name : (x : List ℕ) (r : Bool → ℕ → Bool) (negatives : List (Atom ℕ)) → name_bound negatives < length x → names_only negatives ≡ true → none_in (RecordShape (x ∷ []) (r ∷ [])) negatives ≡ true
fresh_name x r [] lt e = refl
fresh_name x r (atom.Record [] ∷ others) lt e = fresh_name x r others lt e
fresh_name x r (atom.Record (q ∷ qs) ∷ others) lt e =
    let longer : length q.0 < length x = omega (arith, lt) in
    let below : name_bound others < length x = omega (arith, lt) in
    rw (bytes_differ x q.0 longer) (fresh_name x r others below e)
fresh_name x r (atom.Null ∷ others) lt e = fresh_name x r others lt e
fresh_name x r (atom.Bool ∷ others) lt e = fresh_name x r others lt e
fresh_name x r (atom.Int ∷ others) lt e = fresh_name x r others lt e
fresh_name x r (atom.Array p ∷ others) lt e = fresh_name x r others lt e
fresh_name x r (atom.AnyRecord ∷ others) lt e = absurd cc

pub names_only-in : (ns : List (List ℕ)) (rs : List (Bool → ℕ → Bool)) (negatives : List (Atom ℕ)) → none_in (RecordShape ns rs) negatives ≡ true → names_only negatives ≡ true
names_only-in ns rs [] e = refl
names_only-in ns rs (atom.AnyRecord ∷ others) e = absurd cc
names_only-in ns rs (atom.Record qs ∷ others) e = names_only-in ns rs others (both (not (fields_in ns rs qs)) _ e).1
names_only-in ns rs (atom.Null ∷ others) e = names_only-in ns rs others e
names_only-in ns rs (atom.Bool ∷ others) e = names_only-in ns rs others e
names_only-in ns rs (atom.Int ∷ others) e = names_only-in ns rs others e
names_only-in ns rs (atom.Array p ∷ others) e = names_only-in ns rs others e

always_met : (P : List (Signed ℕ) → Type 0) (b : Bool) → b ≡ true → IsMet P (always b)
always_met P true e = inl tt
always_met P false e = absurd cc

pub met_always : (P : List (Signed ℕ) → Type 0) (b : Bool) → IsMet P (always b) → b ≡ true
met_always P true h = refl
met_always P false h = absurd h

-- what the parts of a value tell
abbrev pub pieces : Shape ℕ → List (Bool → ℕ → Bool)
pieces NullShape = []
pieces BoolShape = []
pieces IntShape = []
pieces (ArrayShape rs) = rs
pieces (RecordShape ns rs) = rs

-- a part of the value is in the part
abbrev pub HasPiece : Shape ℕ → List (Signed ℕ) → Type 0
HasPiece shape p = SomeOf (λ r. part_in r p ≡ true) (pieces shape)

module _ (table : Table) (k : ℕ) where
  part_in-denied : (r : Bool → ℕ → Bool) → IsLawful table r → (p : List (Signed ℕ)) (b : Signed ℕ) → part_in r (with_denied table k p b) ≡ (part_in r p && not (signed_as (r b.up b.term) b.inside))
  part_in-denied r law p b = part_in-with_sides table r law k p b.up (not b.inside) b.term ∙ ap (λ c. part_in r p && c) (denied (r b.up b.term) b.inside)

  -- ---- an array

  -- what is in some part that is asked is in the first part and not in the second
  asked-out : (r : Bool → ℕ → Bool) → IsLawful table r → (p q : List (Signed ℕ)) → SomeOf (λ ts. part_in r ts ≡ true) (asked table k p q) → (part_in r p ≡ true) × (part_in r q ≡ false)
  asked-out r law p [] h = absurd h
  asked-out r law p (b ∷ bs) (inl h) = by (part_in r p) (signed_as (r b.up b.term) b.inside) (part_in r bs) (sym (part_in-denied r law p b) ∙ h)
    where
      by : (a c d : Bool) → (a && not c) ≡ true → (a ≡ true) × ((c && d) ≡ false)
      by true true d e = absurd cc
      by true false d e = (refl, refl)
      by false c d e = absurd cc
  asked-out r law p (b ∷ bs) (inr h) =
      let e = asked-out r law p bs h in
      (e.0, rw (e.1) (and_false (signed_as (r b.up b.term) b.inside)))

  -- and what is in the one and not in the other is in some part that is asked
  asked-in : (r : Bool → ℕ → Bool) → IsLawful table r → (p q : List (Signed ℕ)) → part_in r p ≡ true → part_in r q ≡ false → SomeOf (λ ts. part_in r ts ≡ true) (asked table k p q)
  asked-in r law p [] e f = absurd cc
  asked-in r law p (b ∷ bs) e f = by (signed_as (r b.up b.term) b.inside) refl (λ f. asked-in r law p bs e f)
    where
      by : (c : Bool) → signed_as (r b.up b.term) b.inside ≡ c → (part_in r bs ≡ false → SomeOf (λ ts. part_in r ts ≡ true) (asked table k p bs)) → SomeOf (λ ts. part_in r ts ≡ true) (asked table k p (b ∷ bs))
      by true g rest = inr (rest (rw g at f))
      by false g rest = inl (rw (part_in-denied r law p b, e, g) refl)

  -- where some item isn't in the second part, that item is in some part that is asked
  item_out : (rs : List (Bool → ℕ → Bool)) → EachOf (IsLawful table) rs → (p q : List (Signed ℕ)) → each_in rs p ≡ true → each_in rs q ≡ false → SomeOf (λ ts. SomeOf (λ r. part_in r ts ≡ true) rs) (asked table k p q)
  item_out [] laws p q e f = absurd cc
  item_out (r ∷ rs) laws p q e f =
      let a = both (part_in r p) (each_in rs p) e in
      by (part_in r q) refl (λ g. item_out rs laws.1 p q a.1 g)
    where
      by : (b : Bool) → part_in r q ≡ b → (each_in rs q ≡ false → SomeOf (λ ts. SomeOf (λ r. part_in r ts ≡ true) rs) (asked table k p q)) → SomeOf (λ ts. SomeOf (λ r. part_in r ts ≡ true) (r ∷ rs)) (asked table k p q)
      by true g rest = some_map (λ ts. SomeOf (λ r. part_in r ts ≡ true) rs) (λ ts. SomeOf (λ r. part_in r ts ≡ true) (r ∷ rs)) (asked table k p q) (λ ts h. inr h) (rest (rw g at f))
      by false g rest =
          some_map (λ ts. part_in r ts ≡ true) (λ ts. SomeOf (λ r. part_in r ts ≡ true) (r ∷ rs)) (asked table k p q) (λ ts h. inl h) (asked-in r laws.0 p q (both (part_in r p) (each_in rs p) e).0 g)

  array-asks : (rs : List (Bool → ℕ → Bool)) → EachOf (IsLawful table) rs → (p : List (Signed ℕ)) (negatives : List (Atom ℕ)) → each_in rs p ≡ true → none_in (ArrayShape rs) negatives ≡ true
      → EachOf (SomeOf (λ ts. SomeOf (λ r. part_in r ts ≡ true) rs)) (asked_each table k p negatives)
  array-asks rs laws p [] e h = tt
  array-asks rs laws p (atom.Array q ∷ others) e h =
      let a = both (not (each_in rs q.terms)) (none_in (ArrayShape rs) others) h in
      (item_out rs laws p q.terms e (not_true _ a.0), array-asks rs laws p others e a.1)
  array-asks rs laws p (atom.Null ∷ others) e h = array-asks rs laws p others e h
  array-asks rs laws p (atom.Bool ∷ others) e h = array-asks rs laws p others e h
  array-asks rs laws p (atom.Int ∷ others) e h = array-asks rs laws p others e h
  array-asks rs laws p (atom.Record fs ∷ others) e h = array-asks rs laws p others e h
  array-asks rs laws p (atom.AnyRecord ∷ others) e h = array-asks rs laws p others e h

  -- ---- the ways of a record

  spread_field-in : (n : List ℕ) (ns : List (List ℕ)) (r : Bool → ℕ → Bool) → IsLawful table r → (rs : List (Bool → ℕ → Bool)) (f : List ℕ × Part ℕ) (fs : List (List ℕ × Part ℕ)) (q : List (Signed ℕ))
      → some_fields (n ∷ ns) (r ∷ rs) (spread_field table k f fs q) ≡ (bytes_eq n f.0 && ((part_in r f.1.terms && not (part_in r q)) && fields_in ns rs fs))
  spread_field-in n ns r law rs f fs [] = by (bytes_eq n f.0) (part_in r f.1.terms)
    where
      by : (a b : Bool) → false ≡ (a && ((b && false) && fields_in ns rs fs))
      by true true = refl
      by true false = refl
      by false b = refl
  spread_field-in n ns r law rs f fs (b ∷ bs) =
      ap (λ c. (bytes_eq n f.0 && (c && fields_in ns rs fs)) || some_fields (n ∷ ns) (r ∷ rs) (spread_field table k f fs bs)) (part_in-denied r law f.1.terms b)
      ∙ ap (λ c. (bytes_eq n f.0 && ((part_in r f.1.terms && not (signed_as (r b.up b.term) b.inside)) && fields_in ns rs fs)) || c) (spread_field-in n ns r law rs f fs bs)
      ∙ by (bytes_eq n f.0) (part_in r f.1.terms) (signed_as (r b.up b.term) b.inside) (part_in r bs) (fields_in ns rs fs)
    where
      no_more : (x : Bool) → (x && false) ≡ false
      no_more true = refl
      no_more false = refl

      by : (a p c d e : Bool) → ((a && ((p && not c) && e)) || (a && ((p && not d) && e))) ≡ (a && ((p && not (c && d)) && e))
      by false p c d e = refl
      by true false c d e = refl
      by true true false d true = refl
      by true true false d false = no_more (not d)
      by true true true d e = refl

  put_first-in : (n : List ℕ) (ns : List (List ℕ)) (r : Bool → ℕ → Bool) (rs : List (Bool → ℕ → Bool)) (f : List ℕ × Part ℕ) (ws : List (List (List ℕ × Part ℕ)))
      → some_fields (n ∷ ns) (r ∷ rs) (put_first f ws) ≡ (bytes_eq n f.0 && (part_in r f.1.terms && some_fields ns rs ws))
  put_first-in n ns r rs f [] = by (bytes_eq n f.0) (part_in r f.1.terms)
    where
      by : (a b : Bool) → false ≡ (a && (b && false))
      by true true = refl
      by true false = refl
      by false b = refl
  put_first-in n ns r rs f (w ∷ ws) = rw (put_first-in n ns r rs f ws) (by (bytes_eq n f.0) (part_in r f.1.terms) (fields_in ns rs w) (some_fields ns rs ws))
    where
      by : (a b c d : Bool) → ((a && (b && c)) || (a && (b && d))) ≡ (a && (b && (c || d)))
      by true true c d = refl
      by true false c d = refl
      by false b c d = refl

  spread_field-none : (rs : List (Bool → ℕ → Bool)) (f : List ℕ × Part ℕ) (fs : List (List ℕ × Part ℕ)) (q : List (Signed ℕ)) → some_fields [] rs (spread_field table k f fs q) ≡ false
  spread_field-none [] f fs [] = refl
  spread_field-none [] f fs (b ∷ bs) = spread_field-none [] f fs bs
  spread_field-none (r ∷ rs) f fs [] = refl
  spread_field-none (r ∷ rs) f fs (b ∷ bs) = spread_field-none (r ∷ rs) f fs bs

  spread_field-fewer : (n : List ℕ) (ns : List (List ℕ)) (f : List ℕ × Part ℕ) (fs : List (List ℕ × Part ℕ)) (q : List (Signed ℕ)) → some_fields (n ∷ ns) [] (spread_field table k f fs q) ≡ false
  spread_field-fewer n ns f fs [] = refl
  spread_field-fewer n ns f fs (b ∷ bs) = spread_field-fewer n ns f fs bs

  put_first-none : (rs : List (Bool → ℕ → Bool)) (f : List ℕ × Part ℕ) (ws : List (List (List ℕ × Part ℕ))) → some_fields [] rs (put_first f ws) ≡ false
  put_first-none [] f [] = refl
  put_first-none [] f (w ∷ ws) = put_first-none [] f ws
  put_first-none (r ∷ rs) f [] = refl
  put_first-none (r ∷ rs) f (w ∷ ws) = put_first-none (r ∷ rs) f ws

  put_first-fewer : (n : List ℕ) (ns : List (List ℕ)) (f : List ℕ × Part ℕ) (ws : List (List (List ℕ × Part ℕ))) → some_fields (n ∷ ns) [] (put_first f ws) ≡ false
  put_first-fewer n ns f [] = refl
  put_first-fewer n ns f (w ∷ ws) = put_first-fewer n ns f ws

  spread-in : (ns : List (List ℕ)) (rs : List (Bool → ℕ → Bool)) → EachOf (IsLawful table) rs → (fs qs : List (List ℕ × Part ℕ)) → same_names fs qs ≡ true
      → some_fields ns rs (spread table k fs qs) ≡ (fields_in ns rs fs && not (fields_in ns rs qs))
  spread-in [] [] laws [] [] e = refl
  spread-in [] (r ∷ rs) laws [] [] e = refl
  spread-in (n ∷ ns) [] laws [] [] e = refl
  spread-in (n ∷ ns) (r ∷ rs) laws [] [] e = refl
  spread-in [] [] laws (f ∷ fs) (q ∷ qs) e =
      some_fields-append [] [] (spread_field table k f fs q.1.terms) (put_first f (spread table k fs qs))
      ∙ rw (spread_field-none [] f fs q.1.terms) (put_first-none [] f (spread table k fs qs))
  spread-in [] (r ∷ rs) laws (f ∷ fs) (q ∷ qs) e =
      some_fields-append [] (r ∷ rs) (spread_field table k f fs q.1.terms) (put_first f (spread table k fs qs))
      ∙ rw (spread_field-none (r ∷ rs) f fs q.1.terms) (put_first-none (r ∷ rs) f (spread table k fs qs))
  spread-in (n ∷ ns) [] laws (f ∷ fs) (q ∷ qs) e =
      some_fields-append (n ∷ ns) [] (spread_field table k f fs q.1.terms) (put_first f (spread table k fs qs))
      ∙ rw (spread_field-fewer n ns f fs q.1.terms) (put_first-fewer n ns f (spread table k fs qs))
  spread-in (n ∷ ns) (r ∷ rs) laws (f ∷ fs) (q ∷ qs) e =
      let a = both (bytes_eq f.0 q.0) (same_names fs qs) e in
      some_fields-append (n ∷ ns) (r ∷ rs) (spread_field table k f fs q.1.terms) (put_first f (spread table k fs qs))
      ∙ ap (λ b. b || some_fields (n ∷ ns) (r ∷ rs) (put_first f (spread table k fs qs))) (spread_field-in n ns r laws.0 rs f fs q.1.terms)
      ∙ ap (λ b. (bytes_eq n f.0 && ((part_in r f.1.terms && not (part_in r q.1.terms)) && fields_in ns rs fs)) || b) (put_first-in n ns r rs f (spread table k fs qs))
      ∙ ap (λ b. (bytes_eq n f.0 && ((part_in r f.1.terms && not (part_in r q.1.terms)) && fields_in ns rs fs)) || (bytes_eq n f.0 && (part_in r f.1.terms && b))) (spread-in ns rs laws.1 fs qs a.1)
      ∙ one_field (bytes_eq n f.0) (bytes_eq n q.0) (part_in r f.1.terms) (part_in r q.1.terms) (fields_in ns rs fs) (fields_in ns rs qs) (ap (λ x. bytes_eq n x) (bytes_are f.0 q.0 a.0))
  spread-in ns rs laws [] (q ∷ qs) e = absurd cc
  spread-in ns rs laws (f ∷ fs) [] e = absurd cc

  spread_record : (ns : List (List ℕ)) (rs : List (Bool → ℕ → Bool)) → EachOf (IsLawful table) rs → (fs qs : List (List ℕ × Part ℕ)) (b : Bool) → same_names fs qs ≡ b
      → some_fields ns rs (cond b (spread table k fs qs) (fs ∷ [])) ≡ (fields_in ns rs fs && not (fields_in ns rs qs))
  spread_record ns rs laws fs qs true e = spread-in ns rs laws fs qs e
  spread_record ns rs laws fs qs false e = not_both (fields_in ns rs fs) (fields_in ns rs qs) (fields_in-other_names ns rs fs qs e)

  spread_by-in : (ns : List (List ℕ)) (rs : List (Bool → ℕ → Bool)) → EachOf (IsLawful table) rs → (fs : List (List ℕ × Part ℕ)) (a : Atom ℕ) → some_fields ns rs (spread_by table k fs a) ≡ (fields_in ns rs fs && not (atom_in (RecordShape ns rs) a))
  spread_by-in ns rs laws fs (atom.Record qs) = spread_record ns rs laws fs qs (same_names fs qs) refl
  spread_by-in ns rs laws fs atom.AnyRecord = sym (and_false (fields_in ns rs fs))
  spread_by-in ns rs laws fs atom.Null = or_and_true (fields_in ns rs fs)
  spread_by-in ns rs laws fs atom.Bool = or_and_true (fields_in ns rs fs)
  spread_by-in ns rs laws fs atom.Int = or_and_true (fields_in ns rs fs)
  spread_by-in ns rs laws fs (atom.Array p) = or_and_true (fields_in ns rs fs)

  spread_each-in : (ns : List (List ℕ)) (rs : List (Bool → ℕ → Bool)) → EachOf (IsLawful table) rs → (ws : List (List (List ℕ × Part ℕ))) (a : Atom ℕ)
      → some_fields ns rs (spread_each table k ws a) ≡ (some_fields ns rs ws && not (atom_in (RecordShape ns rs) a))
  spread_each-in ns rs laws [] a = refl
  spread_each-in ns rs laws (w ∷ ws) a =
      some_fields-append ns rs (spread_by table k w a) (spread_each table k ws a)
      ∙ ap (λ b. b || some_fields ns rs (spread_each table k ws a)) (spread_by-in ns rs laws w a)
      ∙ ap (λ b. (fields_in ns rs w && not (atom_in (RecordShape ns rs) a)) || b) (spread_each-in ns rs laws ws a)
      ∙ sym (or_and (fields_in ns rs w) (some_fields ns rs ws) (not (atom_in (RecordShape ns rs) a)))

  pub ways_from-in : (ns : List (List ℕ)) (rs : List (Bool → ℕ → Bool)) → EachOf (IsLawful table) rs → (ws : List (List (List ℕ × Part ℕ))) (negatives : List (Atom ℕ))
      → some_fields ns rs (ways_from table k ws negatives) ≡ (some_fields ns rs ws && none_in (RecordShape ns rs) negatives)
  ways_from-in ns rs laws ws [] = sym (and_true (some_fields ns rs ws))
  ways_from-in ns rs laws ws (a ∷ others) =
      ways_from-in ns rs laws (spread_each table k ws a) others
      ∙ ap (λ b. b && none_in (RecordShape ns rs) others) (spread_each-in ns rs laws ws a)
      ∙ and_assoc (some_fields ns rs ws) (not (atom_in (RecordShape ns rs) a)) (none_in (RecordShape ns rs) others)

  fields-ask : (ns : List (List ℕ)) (rs : List (Bool → ℕ → Bool)) (w : List (List ℕ × Part ℕ)) → fields_in ns rs w ≡ true → EachOf (SomeOf (λ ts. SomeOf (λ r. part_in r ts ≡ true) rs)) (alone w)
  fields-ask [] [] [] e = tt
  fields-ask (n ∷ ns) (r ∷ rs) (f ∷ fs) e =
      let a = both (bytes_eq n f.0) (part_in r f.1.terms && fields_in ns rs fs) e in
      let b = both (part_in r f.1.terms) (fields_in ns rs fs) a.1 in (
        inl (inl b.0),
        each_map (SomeOf (λ ts. SomeOf (λ r. part_in r ts ≡ true) rs)) (SomeOf (λ ts. SomeOf (λ r. part_in r ts ≡ true) (r ∷ rs))) (alone fs)
            (λ parts h. some_map (λ ts. SomeOf (λ r. part_in r ts ≡ true) rs) (λ ts. SomeOf (λ r. part_in r ts ≡ true) (r ∷ rs)) parts (λ ts g. inr g) h) (fields-ask ns rs fs b.1),
      )
  fields-ask [] [] (f ∷ fs) e = absurd cc
  fields-ask [] (r ∷ rs) w e = absurd cc
  fields-ask (n ∷ ns) [] w e = absurd cc
  fields-ask (n ∷ ns) (r ∷ rs) [] e = absurd cc

  ways-ask : (ns : List (List ℕ)) (rs : List (Bool → ℕ → Bool)) (ws : List (List (List ℕ × Part ℕ))) → some_fields ns rs ws ≡ true → SomeOf (EachOf (SomeOf (λ ts. SomeOf (λ r. part_in r ts ≡ true) rs))) (all_alone ws)
  ways-ask ns rs [] e = absurd cc
  ways-ask ns rs (w ∷ ws) e = by (fields_in ns rs w) refl (λ f. ways-ask ns rs ws f)
    where
      by : (b : Bool) → fields_in ns rs w ≡ b → (some_fields ns rs ws ≡ true → SomeOf (EachOf (SomeOf (λ ts. SomeOf (λ r. part_in r ts ≡ true) rs))) (all_alone ws))
          → SomeOf (EachOf (SomeOf (λ ts. SomeOf (λ r. part_in r ts ≡ true) rs))) (all_alone (w ∷ ws))
      by true g rest = inl (fields-ask ns rs w g)
      by false g rest = inr (rest (rw g at e))

  record-asks : (ns : List (List ℕ)) (rs : List (Bool → ℕ → Bool)) → EachOf (IsLawful table) rs → (fs : List (List ℕ × Part ℕ)) (negatives : List (Atom ℕ)) → fields_in ns rs fs ≡ true → none_in (RecordShape ns rs) negatives ≡ true
      → SomeOf (EachOf (SomeOf (λ ts. SomeOf (λ r. part_in r ts ≡ true) rs))) (all_alone (ways_from table k (fs ∷ []) negatives))
  record-asks ns rs laws fs negatives e f = ways-ask ns rs (ways_from table k (fs ∷ []) negatives) (ways_from-in ns rs laws (fs ∷ []) negatives ∙ rw (e, f) refl)

  -- ---- a conjunct asks what its values have

  pub options_of-ask : (shape : Shape ℕ) → HasLaws table shape → (a : Atom ℕ) (negatives : List (Atom ℕ)) → atom_in shape a ≡ true → none_in shape negatives ≡ true → IsMet (HasPiece shape) (options_of table k a negatives)
  options_of-ask NullShape laws atom.Null negatives e f = always_met (HasPiece NullShape) (none_in NullShape negatives) f
  options_of-ask BoolShape laws atom.Bool negatives e f = always_met (HasPiece BoolShape) (none_in BoolShape negatives) f
  options_of-ask IntShape laws atom.Int negatives e f = always_met (HasPiece IntShape) (none_in IntShape negatives) f
  options_of-ask (ArrayShape rs) laws (atom.Array p) negatives e f = inl (array-asks rs laws p.terms negatives e f)
  options_of-ask (RecordShape ns rs) laws (atom.Record fs) negatives e f = record-asks ns rs laws fs negatives e f
  options_of-ask (RecordShape ns rs) laws atom.AnyRecord negatives e f = always_met (HasPiece (RecordShape ns rs)) (names_only negatives) (names_only-in ns rs negatives f)
  options_of-ask NullShape laws atom.Bool negatives e f = absurd cc
  options_of-ask NullShape laws atom.Int negatives e f = absurd cc
  options_of-ask NullShape laws (atom.Array p) negatives e f = absurd cc
  options_of-ask NullShape laws (atom.Record fs) negatives e f = absurd cc
  options_of-ask NullShape laws atom.AnyRecord negatives e f = absurd cc
  options_of-ask BoolShape laws atom.Null negatives e f = absurd cc
  options_of-ask BoolShape laws atom.Int negatives e f = absurd cc
  options_of-ask BoolShape laws (atom.Array p) negatives e f = absurd cc
  options_of-ask BoolShape laws (atom.Record fs) negatives e f = absurd cc
  options_of-ask BoolShape laws atom.AnyRecord negatives e f = absurd cc
  options_of-ask IntShape laws atom.Null negatives e f = absurd cc
  options_of-ask IntShape laws atom.Bool negatives e f = absurd cc
  options_of-ask IntShape laws (atom.Array p) negatives e f = absurd cc
  options_of-ask IntShape laws (atom.Record fs) negatives e f = absurd cc
  options_of-ask IntShape laws atom.AnyRecord negatives e f = absurd cc
  options_of-ask (ArrayShape rs) laws atom.Null negatives e f = absurd cc
  options_of-ask (ArrayShape rs) laws atom.Bool negatives e f = absurd cc
  options_of-ask (ArrayShape rs) laws atom.Int negatives e f = absurd cc
  options_of-ask (ArrayShape rs) laws (atom.Record fs) negatives e f = absurd cc
  options_of-ask (ArrayShape rs) laws atom.AnyRecord negatives e f = absurd cc
  options_of-ask (RecordShape ns rs) laws atom.Null negatives e f = absurd cc
  options_of-ask (RecordShape ns rs) laws atom.Bool negatives e f = absurd cc
  options_of-ask (RecordShape ns rs) laws atom.Int negatives e f = absurd cc
  options_of-ask (RecordShape ns rs) laws (atom.Array p) negatives e f = absurd cc

  all_options-ask : (shape : Shape ℕ) → HasLaws table shape → (cs : List (Conjunct ℕ)) → any_in shape cs ≡ true → IsMet (HasPiece shape) (all_options table k cs)
  all_options-ask shape laws [] e = absurd cc
  all_options-ask shape laws (c ∷ cs) e = by (conjunct_in shape c) refl (λ f. all_options-ask shape laws cs f)
    where
      by : (b : Bool) → conjunct_in shape c ≡ b → (any_in shape cs ≡ true → IsMet (HasPiece shape) (all_options table k cs)) → IsMet (HasPiece shape) (all_options table k (c ∷ cs))
      by true g rest =
          let a = both (atom_in shape c.positive) (none_in shape c.negatives) g in
          some_left (EachOf (SomeOf (HasPiece shape))) (options_of table k c.positive c.negatives) (all_options table k cs) (options_of-ask shape laws c.positive c.negatives a.0 a.1)
      by false g rest = some_right (EachOf (SomeOf (HasPiece shape))) (options_of table k c.positive c.negatives) (all_options table k cs) (rest (rw g at e))

  -- a value of a part has pieces in what the part asks
  pub options-ask : (shape : Shape ℕ) → HasLaws table shape → (p : List (Signed ℕ)) → part_in (is_in table k shape) p ≡ true → IsMet (HasPiece shape) (options table k p)
  options-ask shape laws p e = all_options-ask shape laws (dnf_part table k p) (any_in-dnf_part table k shape laws p ∙ e)

-- ---- values from what is asked

module _ (table : Table) (rank : ℕ → ℕ) (k : ℕ) (ranked : IsRanked table rank k) where
  pub law_of : (d : Datum) → IsLawful table (member table k d)
  law_of d = is_lawful table rank k ranked (shape_of table k d)

  pub laws_of : (fields : Fields) → EachOf (IsLawful table) (field_readers table k fields)
  laws_of no_fields = tt
  laws_of (field name d rest) = (law_of d, laws_of rest)

  some_of_some : (parts : List (List (Signed ℕ))) → SomeOf (HasValue table k) parts → (d : Datum) × SomeOf (λ ts. part_in (member table k d) ts ≡ true) parts
  some_of_some [] h = absurd h
  some_of_some (p ∷ parts) (inl h) = (h.0, inl h.1)
  some_of_some (p ∷ parts) (inr h) = let s = some_of_some parts h in (s.0, inr s.1)

  array-value : (p : List (Signed ℕ)) (negatives : List (Atom ℕ)) → EachOf (SomeOf (HasValue table k)) (asked_each table k p negatives)
      → (items : Data) × (each_in (item_readers table k items) p ≡ true) × (none_in (ArrayShape (item_readers table k items)) negatives ≡ true)
  array-value p [] h = (no_items, refl, refl)
  array-value p (atom.Array q ∷ others) h =
      let rest = array-value p others h.1 in
      let one = some_of_some (asked table k p q.terms) h.0 in
      let out = asked-out table k (member table k one.0) (law_of one.0) p q.terms one.1 in
      (item one.0 rest.0, rw (out.0, rest.1) refl, two_true _ _ (rw (out.1) refl) (none_in-more (member table k one.0) (item_readers table k rest.0) others rest.2))
  array-value p (atom.Null ∷ others) h = array-value p others h
  array-value p (atom.Bool ∷ others) h = array-value p others h
  array-value p (atom.Int ∷ others) h = array-value p others h
  array-value p (atom.Record fs ∷ others) h = array-value p others h
  array-value p (atom.AnyRecord ∷ others) h = array-value p others h

  pub way-value : (w : List (List ℕ × Part ℕ)) → EachOf (SomeOf (HasValue table k)) (alone w) → (fields : Fields) × (fields_in (names_of fields) (field_readers table k fields) w ≡ true)
  way-value [] h = (no_fields, refl)
  way-value (f ∷ fs) h =
      let rest = way-value fs h.1 in
      let one = some_of_some (f.1.terms ∷ []) h.0 in
      let held : part_in (member table k one.0) f.1.terms ≡ true = elim one.1 [ inl a ↦ a | inr b ↦ absurd b ] in
      (field f.0 one.0 rest.0, rw (bytes_self f.0, held, rest.1) refl)

  some_of_ways : (ws : List (List (List ℕ × Part ℕ))) → SomeOf (EachOf (SomeOf (HasValue table k))) (all_alone ws) → (fields : Fields) × (some_fields (names_of fields) (field_readers table k fields) ws ≡ true)
  some_of_ways [] h = absurd h
  some_of_ways (w ∷ ws) (inl h) = let v = way-value w h in (v.0, rw (v.1) refl)
  some_of_ways (w ∷ ws) (inr h) = let v = some_of_ways ws h in (v.0, rw (v.1) (or_true (fields_in (names_of v.0) (field_readers table k v.0) w)))

  record-value : (fs : List (List ℕ × Part ℕ)) (negatives : List (Atom ℕ)) → SomeOf (EachOf (SomeOf (HasValue table k))) (all_alone (ways_from table k (fs ∷ []) negatives))
      → (fields : Fields) × (fields_in (names_of fields) (field_readers table k fields) fs ≡ true) × (none_in (RecordShape (names_of fields) (field_readers table k fields)) negatives ≡ true)
  record-value fs negatives h =
      let v = some_of_ways (ways_from table k (fs ∷ []) negatives) h in
      let e = sym (ways_from-in table k (names_of v.0) (field_readers table k v.0) (laws_of v.0) (fs ∷ []) negatives) ∙ v.1 in
      let a = both (fields_in (names_of v.0) (field_readers table k v.0) fs || false) (none_in (RecordShape (names_of v.0) (field_readers table k v.0)) negatives) e in
      (v.0, sym (or_false (fields_in (names_of v.0) (field_readers table k v.0) fs)) ∙ a.0, a.1)

  pub options_of-value : (a : Atom ℕ) (negatives : List (Atom ℕ)) → IsMet (HasValue table k) (options_of table k a negatives) → (d : Datum) × ((atom_in (shape_of table k d) a && none_in (shape_of table k d) negatives) ≡ true)
  options_of-value atom.Null negatives h = (datum.Null, met_always (HasValue table k) (none_in NullShape negatives) h)
  options_of-value atom.Bool negatives h = (datum.Truth true, met_always (HasValue table k) (none_in BoolShape negatives) h)
  options_of-value atom.Int negatives h = (datum.Whole (pos 0), met_always (HasValue table k) (none_in IntShape negatives) h)
  options_of-value (atom.Array p) negatives (inl h) =
      let v = array-value p.terms negatives h in
      (datum.Array v.0, two_true _ _ v.1 v.2)
  options_of-value (atom.Array p) negatives (inr h) = absurd h
  options_of-value (atom.Record fs) negatives h =
      let v = record-value fs negatives h in
      (datum.Record v.0, two_true _ _ v.1 v.2)
  options_of-value atom.AnyRecord negatives h =
      let x : List ℕ = letters (suc (name_bound negatives)) in
      let long : name_bound negatives < length x = (let e = length-letters (suc (name_bound negatives)) in omega (arith, e)) in
      (datum.Record (field x datum.Null no_fields), fresh_name x (member table k datum.Null) negatives long (met_always (HasValue table k) (names_only negatives) h))
