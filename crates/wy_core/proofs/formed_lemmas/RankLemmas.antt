-- Types that recur through records and arrays alone can be put in an order: by the longest way along names outside of them.
use Rattle.std.proofs.Common.{◌≡◌, ◌∙◌, ◌<◌, ◌≤◌, ◌⊎◌, inl, inr, ℕ, zero, suc, max, Bool, true, false, ◌||◌, List, [], ◌∷◌, length, Option, Some, None, refl, sym, ap, subst, arith}
use Rattle.std.specs.List.{slice_get, AllByRecursion, IsDistinct, list_any}
use Rattle.std.proofs.Math.Dec.{eqb}
use Rattle.std.proofs.lemmas.Bool.Decides.{eqb_tells}
use Rattle.std.proofs.lemmas.Map.Steps.{length-le_from_distinct_below}
use Rattle.wy_core.specs.Types.{Ty, NullTy, BoolTy, IntTy, AnyTy, VoidTy, RecordTy, ArrayTy, UnionTy, InterTy, NotTy, NamedTy, NormalTy}
use Rattle.wy_core.specs.CoreTree.{Alias, Decl, AliasDecl, RoutineDecl, Core, aliases_of}
use Rattle.wy_core.specs.formed.Offers.{Offers, offers_of}
use Rattle.wy_core.specs.formed.Bound.{BoundTy, BoundAlias, BoundDecls, Bound}
use Rattle.wy_core.specs.formed.Recursion.{NamesIn, Reaches, stays, goes, RecursWell, Recursion}
use Rattle.wy_core.specs.formed.Ranks.{Ranked}

-- one more than the greatest of the numbers of bare names
abbrev bare_max : (ℕ → ℕ) → Ty → ℕ
bare_max f NullTy = 0
bare_max f BoolTy = 0
bare_max f IntTy = 0
bare_max f AnyTy = 0
bare_max f VoidTy = 0
bare_max f (RecordTy fields) = 0
bare_max f (ArrayTy item) = 0
bare_max f (UnionTy left right) = max (bare_max f left) (bare_max f right)
bare_max f (InterTy left right) = max (bare_max f left) (bare_max f right)
bare_max f (NotTy t) = bare_max f t
bare_max f (NamedTy n) = suc (f n)
bare_max f (NormalTy union) = 0

at_least : (f : ℕ → ℕ) (t : Ty) (b : ℕ) → NamesIn false t b → f b < bare_max f t
at_least f NullTy b h = absurd h
at_least f BoolTy b h = absurd h
at_least f IntTy b h = absurd h
at_least f AnyTy b h = absurd h
at_least f VoidTy b h = absurd h
at_least f (RecordTy fields) b h = absurd h
at_least f (ArrayTy item) b h = absurd h
at_least f (UnionTy left right) b (inl h) = let one : f b < bare_max f left = at_least f left b h in omega (arith, one)
at_least f (UnionTy left right) b (inr h) = let one : f b < bare_max f right = at_least f right b h in omega (arith, one)
at_least f (InterTy left right) b (inl h) = let one : f b < bare_max f left = at_least f left b h in omega (arith, one)
at_least f (InterTy left right) b (inr h) = let one : f b < bare_max f right = at_least f right b h in omega (arith, one)
at_least f (NotTy t) b h = at_least f t b h
at_least f (NamedTy n) b h = let same : f n ≡ f b = ap f h in omega (arith, same)
at_least f (NormalTy union) b h = absurd h

at_most : (f : ℕ → ℕ) (k : ℕ) → ((b : ℕ) → f b ≤ k) → (t : Ty) → bare_max f t ≤ suc k
at_most f k h NullTy = omega arith
at_most f k h BoolTy = omega arith
at_most f k h IntTy = omega arith
at_most f k h AnyTy = omega arith
at_most f k h VoidTy = omega arith
at_most f k h (RecordTy fields) = omega arith
at_most f k h (ArrayTy item) = omega arith
at_most f k h (UnionTy left right) = let a = at_most f k h left in let b = at_most f k h right in omega (arith, a, b)
at_most f k h (InterTy left right) = let a = at_most f k h left in let b = at_most f k h right in omega (arith, a, b)
at_most f k h (NotTy t) = at_most f k h t
at_most f k h (NamedTy n) = let a : f n ≤ k = h n in omega (arith, a)
at_most f k h (NormalTy union) = omega arith

-- a bare name with the greatest number
abbrev Attained : (ℕ → ℕ) → Ty → ℕ → Type 0
Attained f t m = (b : ℕ) × NamesIn false t b × (f b ≡ m)

nothing_attained : (f : ℕ → ℕ) (t : Ty) (m : ℕ) → 0 ≡ suc m → Attained f t m
nothing_attained f t m e = absurd (omega (arith, e))

greater : (x y m : ℕ) → max x y ≡ suc m → (x ≡ suc m) ⊎ (y ≡ suc m)
greater x y m e = by (eqb_tells x (suc m))
  where
    by : ((eqb x (suc m) ≡ true) × (x ≡ suc m)) ⊎ ((eqb x (suc m) ≡ false) × (x ≡ suc m → ⊥)) → (x ≡ suc m) ⊎ (y ≡ suc m)
    by (inl h) = inl h.1
    by (inr h) = inr (other h.1)
      where
        other : (x ≡ suc m → ⊥) → y ≡ suc m
        other no_x = omega (arith, e, no_x)

attained : (f : ℕ → ℕ) (t : Ty) (m : ℕ) → bare_max f t ≡ suc m → Attained f t m
attained f NullTy m e = nothing_attained f NullTy m e
attained f BoolTy m e = nothing_attained f BoolTy m e
attained f IntTy m e = nothing_attained f IntTy m e
attained f AnyTy m e = nothing_attained f AnyTy m e
attained f VoidTy m e = nothing_attained f VoidTy m e
attained f (RecordTy fields) m e = nothing_attained f (RecordTy fields) m e
attained f (ArrayTy item) m e = nothing_attained f (ArrayTy item) m e
attained f (UnionTy left right) m e = by (greater (bare_max f left) (bare_max f right) m e) (λ h. attained f left m h) (λ h. attained f right m h)
  where
    by : (bare_max f left ≡ suc m) ⊎ (bare_max f right ≡ suc m) → (bare_max f left ≡ suc m → Attained f left m) → (bare_max f right ≡ suc m → Attained f right m) → Attained f (UnionTy left right) m
    by (inl h) g k = let r = g h in (r.0, inl r.1, r.2)
    by (inr h) g k = let r = k h in (r.0, inr r.1, r.2)
attained f (InterTy left right) m e = by (greater (bare_max f left) (bare_max f right) m e) (λ h. attained f left m h) (λ h. attained f right m h)
  where
    by : (bare_max f left ≡ suc m) ⊎ (bare_max f right ≡ suc m) → (bare_max f left ≡ suc m → Attained f left m) → (bare_max f right ≡ suc m → Attained f right m) → Attained f (InterTy left right) m
    by (inl h) g k = let r = g h in (r.0, inl r.1, r.2)
    by (inr h) g k = let r = k h in (r.0, inr r.1, r.2)
attained f (NotTy t) m e = let r = attained f t m e in (r.0, r.1, r.2)
attained f (NamedTy n) m e = (n, refl, omega (arith, e))
attained f (NormalTy union) m e = nothing_attained f (NormalTy union) m e

same_max : (f g : ℕ → ℕ) (t : Ty) → ((b : ℕ) → NamesIn false t b → f b ≡ g b) → bare_max f t ≡ bare_max g t
same_max f g NullTy h = refl
same_max f g BoolTy h = refl
same_max f g IntTy h = refl
same_max f g AnyTy h = refl
same_max f g VoidTy h = refl
same_max f g (RecordTy fields) h = refl
same_max f g (ArrayTy item) h = refl
same_max f g (UnionTy left right) h =
    ap (λ (x : ℕ). max x (bare_max f right)) (same_max f g left (λ b k. h b (inl k))) ∙ ap (λ (x : ℕ). max (bare_max g left) x) (same_max f g right (λ b k. h b (inr k)))
same_max f g (InterTy left right) h =
    ap (λ (x : ℕ). max x (bare_max f right)) (same_max f g left (λ b k. h b (inl k))) ∙ ap (λ (x : ℕ). max (bare_max g left) x) (same_max f g right (λ b k. h b (inr k)))
same_max f g (NotTy t) h = same_max f g t h
same_max f g (NamedTy n) h = ap suc (h n refl)
same_max f g (NormalTy union) h = refl

module _ (aliases : List (Alias ℕ)) where
  abbrev deep_of : (ℕ → ℕ) → Option (Alias ℕ) → ℕ
  deep_of f None = 0
  deep_of f (Some x) = bare_max f x.ty

  -- the longest way from a type along bare names, of at most so many
  abbrev deep : ℕ → ℕ → ℕ
  deep zero a = 0
  deep (suc k) a = deep_of (deep k) (slice_get aliases a)

  of_most : (f : ℕ → ℕ) (k : ℕ) → ((b : ℕ) → f b ≤ k) → (o : Option (Alias ℕ)) → deep_of f o ≤ suc k
  of_most f k h None = omega arith
  of_most f k h (Some x) = at_most f k h x.ty

  deep_most : (k a : ℕ) → deep k a ≤ k
  deep_most zero a = omega arith
  deep_most (suc k) a = of_most (deep k) k (deep_most k) (slice_get aliases a)

  -- with more steps nothing longer is found, where the longest way had steps to spare
  settled : (k a : ℕ) → deep (suc k) a ≤ k → deep (suc k) a ≡ deep k a
  settled zero a le = omega (arith, le)
  settled (suc k) a le = by (slice_get aliases a) (λ (b : ℕ) (less : deep (suc k) b ≤ k). settled k b less) le
    where
      by : (o : Option (Alias ℕ)) → ((b : ℕ) → deep (suc k) b ≤ k → deep (suc k) b ≡ deep k b) → deep_of (deep (suc k)) o ≤ suc k → deep_of (deep (suc k)) o ≡ deep_of (deep k) o
      by None next less = refl
      by (Some x) next less =
          same_max (deep (suc k)) (deep k) x.ty (λ (b : ℕ) (h : NamesIn false x.ty b). next b (let one : deep (suc k) b < bare_max (deep (suc k)) x.ty = at_least (deep (suc k)) x.ty b h in omega (arith, one, less)))

  -- the type names the other one outside of records and arrays
  abbrev Bare : ℕ → ℕ → Type 0
  Bare a b = (x : Alias ℕ) × (slice_get aliases a ≡ Some x) × NamesIn false x.ty b

  -- a list of types, each of which the first one leads to
  abbrev Led : ℕ → List ℕ → Type 0
  Led a [] = Unit {0}
  Led a (y ∷ ys) = ((c : ℕ) × Bare a c × Reaches false aliases c y) × Led a ys

  -- each is a type
  abbrev AllBelow : List ℕ → Type 0
  AllBelow [] = Unit {0}
  AllBelow (y ∷ ys) = (y < length aliases) × AllBelow ys

  abbrev Other : ℕ → List ℕ → Type 0
  Other a ys = AllByRecursion (λ (y : ℕ). eqb a y ≡ false) ys

  -- so many different types, one leading to the next
  record Chain (k a : ℕ) : Type 0 where
    rest : List ℕ
    size : length rest ≡ k
    led : Led a rest
    below : AllBelow (a ∷ rest)
    distinct : IsDistinct eqb (a ∷ rest)

  module _ (w : RecursWell aliases) (known : (a b : ℕ) → Bare a b → b < length aliases) where
    -- what leads back is another type
    led_other : (a : ℕ) (ys : List ℕ) → Led a ys → Other a ys
    led_other a [] l = tt
    led_other a (y ∷ ys) l = (by (eqb_tells a y), led_other a ys l.1)
      where
        by : ((eqb a y ≡ true) × (a ≡ y)) ⊎ ((eqb a y ≡ false) × (a ≡ y → ⊥)) → eqb a y ≡ false
        by (inl e) =
            let b : Bare a l.0.0 = l.0.1 in
            absurd (w.bare a l.0.0 b.0 b.1 b.2 (subst (λ (z : ℕ). Reaches false aliases l.0.0 z) (sym e.1) l.0.2))
        by (inr e) = e.0

    -- through a bare name
    led_more : (a b : ℕ) → Bare a b → (ys : List ℕ) → Led b ys → Led a ys
    led_more a b n [] l = tt
    led_more a b n (y ∷ ys) l =
        let m : Bare b l.0.0 = l.0.1 in
        ((b, n, goes m.0 l.0.0 m.1 (inl m.2) l.0.2), led_more a b n ys l.1)

    extended : (k a b : ℕ) → a < length aliases → Bare a b → Chain k b → Chain (suc k) a
    unfolding IsDistinct
    extended k a b less n c = record {
      rest = b ∷ c.rest;
      size = ap suc c.size;
      led = led;
      below = (less, c.below);
      distinct = distinct;
    }
      where
        led : Led a (b ∷ c.rest)
        led = ((b, n, stays refl), led_more a b n c.rest c.led)

        distinct : IsDistinct eqb (a ∷ b ∷ c.rest)
        distinct = (led_other a (b ∷ c.rest) led, c.distinct)

    alone : (a : ℕ) → a < length aliases → Chain 0 a
    unfolding IsDistinct
    alone a less = record { rest = []; size = refl; led = tt; below = (less, tt); distinct = distinct }
      where
        distinct : IsDistinct eqb (a ∷ [])
        distinct = (tt, tt)

    chain : (k a : ℕ) → a < length aliases → deep k a ≡ k → Chain k a
    chain zero a less e = alone a less
    chain (suc k) a less e = by (slice_get aliases a) refl (λ (b : ℕ) (l : b < length aliases) (h : deep k b ≡ k). chain k b l h) e
      where
        by : (o : Option (Alias ℕ)) → slice_get aliases a ≡ o → ((b : ℕ) → b < length aliases → deep k b ≡ k → Chain k b) → deep_of (deep k) o ≡ suc k → Chain (suc k) a
        by None at next h = absurd (omega (arith, h))
        by (Some x) at next h =
            let r : Attained (deep k) x.ty k = attained (deep k) x.ty k h in
            let n : Bare a r.0 = (x, at, r.1) in
            extended k a r.0 less n (next r.0 (known a r.0 n) r.2)

    member_below : (xs : List ℕ) → AllBelow xs → (q : ℕ) → list_any (eqb q) xs ≡ true → q < length aliases
    member_below [] h q m = absurd (cc)
    member_below (x ∷ xs) h q m = by (eqb_tells q x) m (member_below xs h.1 q)
      where
        by : ((eqb q x ≡ true) × (q ≡ x)) ⊎ ((eqb q x ≡ false) × (q ≡ x → ⊥)) → (eqb q x || list_any (eqb q) xs) ≡ true → (list_any (eqb q) xs ≡ true → q < length aliases) → q < length aliases
        by (inl e) k next = let less : x < length aliases = h.0 in omega (arith, less, e.1)
        by (inr e) k next = next (ap (λ (b : Bool). b || list_any (eqb q) xs) (sym e.0) ∙ k)

    chain_short : (k a : ℕ) → Chain k a → suc k ≤ length aliases
    chain_short k a c =
        let le : length (a ∷ c.rest) ≤ length aliases = length-le_from_distinct_below (a ∷ c.rest) (length aliases) c.distinct (member_below (a ∷ c.rest) c.below) in
        let size : length c.rest ≡ k = c.size in
        omega (arith, le, size)

    deep_less : (a : ℕ) → a < length aliases → deep (length aliases) a < length aliases
    deep_less a less = by (eqb_tells (deep (length aliases) a) (length aliases))
      where
        most : deep (length aliases) a ≤ length aliases
        most = deep_most (length aliases) a

        by : ((eqb (deep (length aliases) a) (length aliases) ≡ true) × (deep (length aliases) a ≡ length aliases)) ⊎ ((eqb (deep (length aliases) a) (length aliases) ≡ false) × (deep (length aliases) a ≡ length aliases → ⊥))
            → deep (length aliases) a < length aliases
        by (inl e) = absurd (let short : suc (length aliases) ≤ length aliases = chain_short (length aliases) a (chain (length aliases) a less e.1) in omega (arith, short))
        by (inr e) = least e.1
          where
            least : (deep (length aliases) a ≡ length aliases → ⊥) → deep (length aliases) a < length aliases
            least other = omega (arith, most, other)

    -- along a bare name the longest way gets shorter
    falls_at : (n a b : ℕ) (x : Alias ℕ) → slice_get aliases a ≡ Some x → NamesIn false x.ty b → deep n b < n → deep n b < deep n a
    falls_at zero a b x at h less = absurd (omega (arith, less))
    falls_at (suc n) a b x at h less =
        let same : deep (suc n) b ≡ deep n b = settled n b (omega (arith, less)) in
        let one : deep n b < bare_max (deep n) x.ty = at_least (deep n) x.ty b h in
        let there : deep (suc n) a ≡ bare_max (deep n) x.ty = ap (deep_of (deep n)) at in
        omega (arith, same, one, there)

    within_list : (xs : List (Alias ℕ)) (a : ℕ) (x : Alias ℕ) → slice_get xs a ≡ Some x → a < length xs
    within_list [] a x h = absurd (cc)
    within_list (y ∷ xs) zero x h = omega arith
    within_list (y ∷ xs) (suc a) x h = let less = within_list xs a x h in omega (arith, less)

    ranked : Ranked aliases
    ranked = record {
      rank = deep (length aliases);
      within = λ (a : ℕ) (x : Alias ℕ) (at : slice_get aliases a ≡ Some x). deep_less a (within_list aliases a x at);
      falls = λ (a b : ℕ) (x : Alias ℕ) (at : slice_get aliases a ≡ Some x) (h : NamesIn false x.ty b).
          falls_at (length aliases) a b x at h (deep_less b (known a b (x, at, h)));
    }

-- ---- the names of a bound core are known

ty_known : (n : ℕ) (t : Ty) → BoundTy n t → (b : ℕ) → NamesIn false t b → b < n
ty_known n NullTy h b k = absurd k
ty_known n BoolTy h b k = absurd k
ty_known n IntTy h b k = absurd k
ty_known n AnyTy h b k = absurd k
ty_known n VoidTy h b k = absurd k
ty_known n (RecordTy fields) h b k = absurd k
ty_known n (ArrayTy item) h b k = absurd k
ty_known n (UnionTy left right) h b (inl k) = ty_known n left h.0 b k
ty_known n (UnionTy left right) h b (inr k) = ty_known n right h.1 b k
ty_known n (InterTy left right) h b (inl k) = ty_known n left h.0 b k
ty_known n (InterTy left right) h b (inr k) = ty_known n right h.1 b k
ty_known n (NotTy t) h b k = ty_known n t h b k
ty_known n (NamedTy m) h b k = subst (λ (z : ℕ). z < n) k h
ty_known n (NormalTy union) h b k = absurd k

pub some_alias : (x y : Alias ℕ) → Some x ≡ Some y → x ≡ y
some_alias x y e = cc

alias_bound : (o : Offers) (ds : List (Decl ℕ)) → BoundDecls o ds → (a : ℕ) (x : Alias ℕ) → slice_get (aliases_of ds) a ≡ Some x → BoundAlias o x
alias_bound o [] h a x at = absurd (cc)
alias_bound o (AliasDecl y ∷ ds) h zero x at = subst (λ (z : Alias ℕ). BoundAlias o z) (some_alias y x at) h.0
alias_bound o (AliasDecl y ∷ ds) h (suc a) x at = alias_bound o ds h.1 a x at
alias_bound o (RoutineDecl r ∷ ds) h a x at = alias_bound o ds h.1 a x at

pub ranked_types : (core : Core ℕ) → Bound core → Recursion core → Ranked (aliases_of core)
ranked_types core bound w =
    ranked (aliases_of core) w
    (λ (a b : ℕ) (n : (x : Alias ℕ) × (slice_get (aliases_of core) a ≡ Some x) × NamesIn false x.ty b). ty_known (length (aliases_of core)) n.0.ty (alias_bound (offers_of core) core bound a n.0 n.1).ty b n.2)
