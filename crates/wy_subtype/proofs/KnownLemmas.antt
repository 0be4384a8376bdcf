-- What is known stays known with a conjunct, a part or asks more.
use Rattle.std.proofs.Common.{◌≡◌, ℕ, ◌+◌, ◌≤◌, List, [], ◌∷◌, ◌++◌, length, Bool, true, false, ◌&&◌, ◌||◌, ◌⊎◌, inl, inr, Some, refl, sym, ap, subst, ◌∙◌, arith}
use Rattle.std.specs.Prelude.{slice_get}
use Rattle.std.specs.Str.{bytes_eq}
use Rattle.std.proofs.lemmas.Bool.{eq-eqb}
use Rattle.std.proofs.lemmas.List.{length_push}
use Rattle.std.proofs.lemmas.Option.{slice_get_within}
use Rattle.wy_lemmas.proofs.Choices.{both_true as two_true}
use Rattle.wy_lemmas.proofs.Lists.{bytes_self, get_front, last_or}
use Rattle.wy_lemmas.proofs.Options.{some_one as some_is}
use Rattle.wy_canon.specs.wy_types.declared.conjuncts.Signed.{Signed}
use Rattle.wy_canon.specs.wy_types.declared.conjuncts.Part.{Part}
use Rattle.wy_canon.specs.wy_types.declared.conjuncts.Atom.{Atom}
use Rattle.wy_canon.specs.wy_types.declared.conjuncts.Atom.TheVariants as atom
use Rattle.wy_canon.specs.wy_types.declared.conjuncts.Conjunct.{Conjunct}
use Rattle.wy_canon.specs.wy_types.declared.table.Table.{Table}
use Rattle.wy_canon.specs.wy_types.Shape.{signed_as}
use Rattle.wy_canon.specs.wy_types.Claims.{SomeOf, EachOf, IsIn, AreDifferent}
use Rattle.wy_canon.specs.wy_types.Conjuncts.{same_term, dnf_part, narrow_part}
use Rattle.wy_canon.specs.wy_types.Same as same
use Rattle.wy_canon.specs.wy_types.Asks.{few_ways}
use Rattle.wy_canon.specs.wy_types.Reach.{Reaches, at_first, by_asking, IsNeeded, IsWide}
use Rattle.wy_subtype.specs.declared.reach.InternedAll.{InternedAll}
use Rattle.wy_subtype.specs.declared.reach.Reach.{Reach}
use Rattle.wy_subtype.specs.Numbers.{AreAt, AreAllAt}
use Rattle.wy_subtype.specs.Known.{options_of, IsInterned, AreInterned, IsKnown, Grows, IsAdded, asking}
use Rattle.wy_subtype.proofs.NumberLemmas.{get_last, get_within, keeps_length, at_keeps, all_at_keeps, each_get, each_of_in, some_in, each_push, different_push}

-- ---- a conjunct is the same as itself

signed_self : (a : Bool) → signed_as a a ≡ true
signed_self true = refl
signed_self false = refl

term_self : (x : Signed ℕ) → same.same_signed same_term x x ≡ true
term_self x = two_true (same_term x.term x.term) (signed_as x.up x.up && signed_as x.inside x.inside) (eq-eqb x.term x.term refl) (two_true (signed_as x.up x.up) (signed_as x.inside x.inside) (signed_self x.up) (signed_self x.inside))

terms_self : (xs : List (Signed ℕ)) → same.same_terms same_term xs xs ≡ true
terms_self [] = refl
terms_self (x ∷ xs) = two_true (same.same_signed same_term x x) (same.same_terms same_term xs xs) (term_self x) (terms_self xs)

fields_self : (xs : List (List ℕ × Part ℕ)) → same.same_fields same_term xs xs ≡ true
fields_self [] = refl
fields_self (x ∷ xs) =
    two_true (bytes_eq x.0 x.0) (same.same_terms same_term x.1.terms x.1.terms && same.same_fields same_term xs xs) (bytes_self x.0)
    (two_true (same.same_terms same_term x.1.terms x.1.terms) (same.same_fields same_term xs xs) (terms_self x.1.terms) (fields_self xs))

atom_self : (a : Atom ℕ) → same.same_atom same_term a a ≡ true
atom_self atom.Null = refl
atom_self atom.Bool = refl
atom_self atom.Int = refl
atom_self (atom.Array p) = terms_self p.terms
atom_self (atom.Record fs) = fields_self fs
atom_self atom.AnyRecord = refl

atoms_self : (xs : List (Atom ℕ)) → same.same_atoms same_term xs xs ≡ true
atoms_self [] = refl
atoms_self (x ∷ xs) = two_true (same.same_atom same_term x x) (same.same_atoms same_term xs xs) (atom_self x) (atoms_self xs)

conjunct_self : (c : Conjunct ℕ) → same.same_conjunct same_term c c ≡ true
conjunct_self c = two_true (same.same_atom same_term c.positive c.positive) (same.same_atoms same_term c.negatives c.negatives) (atom_self c.positive) (atoms_self c.negatives)

not_has : (cs : List (Conjunct ℕ)) (c : Conjunct ℕ) → same.has_conjunct same_term cs c ≡ false → IsIn c cs → ⊥
not_has [] c e h = h
not_has (x ∷ xs) c e (inl f) =
    let s : same.same_conjunct same_term x c ≡ true = subst (λ (y : Conjunct ℕ). same.same_conjunct same_term x y ≡ true) f (conjunct_self x) in
    absurd (by (same.same_conjunct same_term x c) (same.has_conjunct same_term xs c) s e)
  where
    by : (a b : Bool) → a ≡ true → (a || b) ≡ false → ⊥
    by true b e f = cc
    by false b e f = cc
not_has (x ∷ xs) c e (inr h) = not_has xs c (by (same.same_conjunct same_term x c) (same.has_conjunct same_term xs c) e) h
  where
    by : (a b : Bool) → (a || b) ≡ false → b ≡ false
    by true b e = absurd cc
    by false b e = e

-- ---- a conjunct more

pub interned_new : (table : Table) (k : ℕ) (first : List (Signed ℕ)) (old : List (Conjunct ℕ)) (c : Conjunct ℕ) → AreDifferent old → EachOf (Reaches table k first) old → Reaches table k first c → same.has_conjunct same_term old c ≡ false
    → IsInterned table k first old c (record { conjuncts = old ++ c ∷ []; number = length old })
interned_new table k first old c d r new e = record {
  keeps = λ m x f. get_front old (c ∷ []) m x f;
  at = get_last old c;
  different = different_push old c d (not_has old c e);
  reached = each_push (Reaches table k first) old c r new;
}

pub wide_new : (table : Table) (k : ℕ) (first : List (Signed ℕ)) (old : List (Conjunct ℕ)) (c : Conjunct ℕ) → AreDifferent old → EachOf (Reaches table k first) old → Reaches table k first c → same.has_conjunct same_term old c ≡ false → 16384 ≤ length old → IsWide table k first
wide_new table k first old c d r new e many =
    inr (inl (old ++ c ∷ [], different_push old c d (not_has old c e), each_push (Reaches table k first) old c r new, (let l = length_push old c in omega (arith, l, many))))

pub interned_as : (table : Table) (k : ℕ) (first : List (Signed ℕ)) (old : List (Conjunct ℕ)) (c : Conjunct ℕ) (xs ys : List (Conjunct ℕ)) (n m : ℕ) → xs ≡ ys → n ≡ m
    → IsInterned table k first old c (record { conjuncts = xs; number = n }) → IsInterned table k first old c (record { conjuncts = ys; number = m })
interned_as table k first old c xs ys n m e f i =
    subst (λ (a : ℕ). IsInterned table k first old c (record { conjuncts = ys; number = a })) f
    (subst (λ (zs : List (Conjunct ℕ)). IsInterned table k first old c (record { conjuncts = zs; number = n })) e i)

-- ---- a part more

pub needed_reaches : (table : Table) (k : ℕ) (first p : List (Signed ℕ)) → IsNeeded table k first p → EachOf (Reaches table k first) (dnf_part table k p)
needed_reaches table k first p (inl e) = each_of_in (Reaches table k first) (dnf_part table k p) (λ c h. at_first c (subst (λ (q : List (Signed ℕ)). IsIn c (dnf_part table k q)) e h))
needed_reaches table k first p (inr n) = each_of_in (Reaches table k first) (dnf_part table k p) (λ d h. by_asking n.0 d p n.1 n.2 h)

pub added_as : (table : Table) (k : ℕ) (first : List (Signed ℕ)) (old : Reach) (p : List (Signed ℕ)) (ps qs : List (List (Signed ℕ))) (hs gs : List (List ℕ)) (cs : List (Conjunct ℕ)) (made : List (List (List (List ℕ)))) (n m : ℕ) → ps ≡ qs → hs ≡ gs → n ≡ m
    → IsAdded table k first old p (record { reach = record { parts = ps; heads = hs; conjuncts = cs; asks = made }; number = n }) → IsAdded table k first old p (record { reach = record { parts = qs; heads = gs; conjuncts = cs; asks = made }; number = m })
added_as table k first old p ps qs hs gs cs made n m e f g i =
    subst (λ (a : ℕ). IsAdded table k first old p (record { reach = record { parts = qs; heads = gs; conjuncts = cs; asks = made }; number = a })) g
    (subst (λ (xs : List (List ℕ)). IsAdded table k first old p (record { reach = record { parts = qs; heads = xs; conjuncts = cs; asks = made }; number = n })) f
    (subst (λ (xs : List (List (Signed ℕ))). IsAdded table k first old p (record { reach = record { parts = xs; heads = hs; conjuncts = cs; asks = made }; number = n })) e i))

pub known_more : (table : Table) (k : ℕ) (first : List (Signed ℕ)) (r : Reach) (p : List (Signed ℕ)) (x : InternedAll) → IsKnown table k first r → AreInterned table k first r.conjuncts (dnf_part table k p) x → narrow_part table k p ≡ true
    → IsAdded table k first r p (record { reach = record { parts = r.parts ++ p ∷ []; heads = r.heads ++ x.numbers ∷ []; conjuncts = x.conjuncts; asks = r.asks }; number = length r.parts })
known_more table k first r p x known new narrow = record {
  known = record { different = new.different; reached = new.reached; early = early; counted = counted; headed = headed; narrow = merges; asked = asked; few = few };
  grows = record { parts = λ m q e. get_front r.parts (p ∷ []) m q e; conjuncts = new.keeps; asks = refl };
  at = get_last r.parts p;
}
  where
    early : length r.asks ≤ length x.conjuncts
    early = let a = known.early in let b = keeps_length r.conjuncts x.conjuncts new.keeps in omega (arith, a, b)

    old : (j : ℕ) (c : Conjunct ℕ) (a : List (List (List ℕ))) → slice_get x.conjuncts j ≡ Some c → slice_get r.asks j ≡ Some a → slice_get r.conjuncts j ≡ Some c
    old j c a e f =
        let lt = slice_get_within r.asks j a f in
        let g = get_within r.conjuncts j (let h = known.early in omega (arith, h, lt)) in
        subst (λ (y : Conjunct ℕ). slice_get r.conjuncts j ≡ Some y) (some_is (slice_get x.conjuncts j) g.0 c (new.keeps j g.0 g.1) e) g.1

    counted : length (r.heads ++ x.numbers ∷ []) ≡ length (r.parts ++ p ∷ [])
    counted = length_push r.heads x.numbers ∙ ap (λ (n : ℕ). n + 1) known.counted ∙ sym (length_push r.parts p)

    merges : (i : ℕ) (q : List (Signed ℕ)) → slice_get (r.parts ++ p ∷ []) i ≡ Some q → narrow_part table k q ≡ true
    merges i q e = elim (last_or r.parts p q i e) [ inl a ↦ known.narrow i q a | inr b ↦ subst (λ (s : List (Signed ℕ)). narrow_part table k s ≡ true) b.1 narrow ]

    asked : (j : ℕ) (c : Conjunct ℕ) (a : List (List (List ℕ))) → slice_get x.conjuncts j ≡ Some c → slice_get r.asks j ≡ Some a → AreAllAt (r.parts ++ p ∷ []) a (options_of table k c)
    asked j c a e f = all_at_keeps r.parts (r.parts ++ p ∷ []) (λ m q g. get_front r.parts (p ∷ []) m q g) a (options_of table k c) (known.asked j c a (old j c a e f) f)

    few : (j : ℕ) (c : Conjunct ℕ) (a : List (List (List ℕ))) → slice_get x.conjuncts j ≡ Some c → slice_get r.asks j ≡ Some a → few_ways c ≡ true
    few j c a e f = known.few j c a (old j c a e f) f

    past : (i : ℕ) (q : List (Signed ℕ)) → slice_get r.parts i ≡ Some q → i ≡ length r.heads → ⊥
    past i q a e = let lt = slice_get_within r.parts i q a in let c = known.counted in omega (arith, lt, c, e)

    over : (i : ℕ) (h : List ℕ) → slice_get r.heads i ≡ Some h → i ≡ length r.parts → ⊥
    over i h a e = let lt = slice_get_within r.heads i h a in let c = known.counted in omega (arith, lt, c, e)

    headed : (i : ℕ) (q : List (Signed ℕ)) (h : List ℕ) → slice_get (r.parts ++ p ∷ []) i ≡ Some q → slice_get (r.heads ++ x.numbers ∷ []) i ≡ Some h → AreAt x.conjuncts h (dnf_part table k q)
    headed i q h e f = by (last_or r.parts p q i e) (last_or r.heads x.numbers h i f)
      where
        by : (slice_get r.parts i ≡ Some q) ⊎ ((i ≡ length r.parts) × (p ≡ q)) → (slice_get r.heads i ≡ Some h) ⊎ ((i ≡ length r.heads) × (x.numbers ≡ h)) → AreAt x.conjuncts h (dnf_part table k q)
        by (inl a) (inl b) = at_keeps r.conjuncts x.conjuncts new.keeps h (dnf_part table k q) (known.headed i q h a b)
        by (inl a) (inr b) = absurd (past i q a b.0)
        by (inr a) (inl b) = absurd (over i h b a.0)
        by (inr a) (inr b) =
            subst (λ (s : List (Signed ℕ)). AreAt x.conjuncts h (dnf_part table k s)) a.1 (subst (λ (ns : List ℕ). AreAt x.conjuncts ns (dnf_part table k p)) b.1 new.at)

pub grows_more : (a b c : Reach) → Grows a b → Grows b c → Grows a c
grows_more a b c f g = record { parts = λ n p e. g.parts n p (f.parts n p e); conjuncts = λ n x e. g.conjuncts n x (f.conjuncts n x e); asks = g.asks ∙ f.asks }

-- ---- what a conjunct asks

options_needed : (table : Table) (k : ℕ) (first : List (Signed ℕ)) (c : Conjunct ℕ) → Reaches table k first c → EachOf (EachOf (EachOf (IsNeeded table k first))) (options_of table k c)
options_needed table k first c r =
    each_of_in (EachOf (EachOf (IsNeeded table k first))) (options_of table k c)
    (λ o ho. each_of_in (EachOf (IsNeeded table k first)) o (λ l hl. each_of_in (IsNeeded table k first) l (λ p hp. inr (
      c,
      r,
      some_in (SomeOf (SomeOf (λ q. q ≡ p))) (options_of table k c) o ho (some_in (SomeOf (λ q. q ≡ p)) o l hl hp),
    ))))

pub needed_at : (table : Table) (k : ℕ) (first : List (Signed ℕ)) (r : Reach) (j : ℕ) (c : Conjunct ℕ) → IsKnown table k first r → slice_get r.conjuncts j ≡ Some c → EachOf (EachOf (EachOf (IsNeeded table k first))) (options_of table k c)
needed_at table k first r j c known e = options_needed table k first c (each_get (Reaches table k first) r.conjuncts j c known.reached e)

pub wide_ways : (table : Table) (k : ℕ) (first : List (Signed ℕ)) (c : Conjunct ℕ) → Reaches table k first c → few_ways c ≡ false → IsWide table k first
wide_ways table k first c r e = inr (inr (c, r, e))

pub known_asked : (table : Table) (k : ℕ) (first : List (Signed ℕ)) (old new : Reach) (c : Conjunct ℕ) (numbers : List (List (List ℕ))) (j : ℕ) → slice_get old.conjuncts j ≡ Some c → length old.asks ≡ j → few_ways c ≡ true → IsKnown table k first new → Grows old new
    → AreAllAt new.parts numbers (options_of table k c) → IsKnown table k first (asking new numbers)
known_asked table k first old new c numbers j at count few_c known grows numbered = record {
  different = known.different;
  reached = known.reached;
  early = early;
  counted = known.counted;
  headed = known.headed;
  narrow = known.narrow;
  asked = asked;
  few = few;
}
  where
    here : slice_get new.conjuncts j ≡ Some c
    here = grows.conjuncts j c at

    counts : length new.asks ≡ j
    counts = ap length grows.asks ∙ count

    early : length (new.asks ++ numbers ∷ []) ≤ length new.conjuncts
    early = let a = length_push new.asks numbers in let b = counts in let lt = slice_get_within new.conjuncts j c here in omega (arith, a, b, lt)

    is_c : (i : ℕ) (d : Conjunct ℕ) → slice_get new.conjuncts i ≡ Some d → i ≡ length new.asks → c ≡ d
    is_c i d e g = some_is (slice_get new.conjuncts j) c d here (subst (λ (n : ℕ). slice_get new.conjuncts n ≡ Some d) (g ∙ counts) e)

    asked : (i : ℕ) (d : Conjunct ℕ) (a : List (List (List ℕ))) → slice_get new.conjuncts i ≡ Some d → slice_get (new.asks ++ numbers ∷ []) i ≡ Some a → AreAllAt new.parts a (options_of table k d)
    asked i d a e f = by (last_or new.asks numbers a i f)
      where
        by : (slice_get new.asks i ≡ Some a) ⊎ ((i ≡ length new.asks) × (numbers ≡ a)) → AreAllAt new.parts a (options_of table k d)
        by (inl g) = known.asked i d a e g
        by (inr g) =
            subst (λ (x : Conjunct ℕ). AreAllAt new.parts a (options_of table k x)) (is_c i d e g.0)
            (subst (λ (ns : List (List (List ℕ))). AreAllAt new.parts ns (options_of table k c)) g.1 numbered)

    few : (i : ℕ) (d : Conjunct ℕ) (a : List (List (List ℕ))) → slice_get new.conjuncts i ≡ Some d → slice_get (new.asks ++ numbers ∷ []) i ≡ Some a → few_ways d ≡ true
    few i d a e f = elim (last_or new.asks numbers a i f) [ inl g ↦ known.few i d a e g | inr g ↦ subst (λ (x : Conjunct ℕ). few_ways x ≡ true) (is_c i d e g.0) few_c ]

pub more_conjuncts : (old new : Reach) (c : Conjunct ℕ) (j : ℕ) → slice_get old.conjuncts j ≡ Some c → Grows old new → j + 1 ≤ length new.conjuncts
more_conjuncts old new c j at grows = let lt = slice_get_within new.conjuncts j c (grows.conjuncts j c at) in omega (arith, lt)
