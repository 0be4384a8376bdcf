-- A name whose number stands nowhere in a term makes no difference to it.
use Rattle.std.proofs.Common.{◌≡◌, ℕ, zero, suc, List, [], ◌∷◌, ◌++◌, Bool, true, false, cond, eqb, ◌&&◌, ℤ, refl, sym, ap, ◌∙◌}
use Rattle.std.specs.Prelude.{bytes_eq}
use Rattle.wy_lemmas.proofs.Choices.{or_false}
use Rattle.wy_check_spec.specs.wy_term.Term as term
use Rattle.wy_check_spec.specs.wy_term.Term.{Symbol, Term, Of, Parts, no_parts, part, leaf, int_name}
use Rattle.wy_check_spec.specs.wy_term.Same.{same_term}
use Rattle.wy_check_spec.specs.wy_term.Scope.{without, of_part, of_all, of_bound, free_by, free_names, free_in}
use Rattle.wy_check_spec.specs.wy_term.Meaning.{Names, with_number, sense}
use Rattle.wy_check_spec.specs.wy_term_subst.Names.{numbers_by, numbers_in, numbers_in_parts, is_in}
use Rattle.wy_check_spec.proofs.wy_term_subst_proofs.NameLemmas.{is_in-append}
use Rattle.wy_check_laws.proofs.sound_lemmas.FreeLemmas.{AllSame, rests_on_free_names}

and_false : (a b : Bool) → b ≡ false → (a && b) ≡ false
and_false true b e = e
and_false false b e = refl

-- the number is none of the first, and none of the second
pub apart_in : (n : ℕ) (ms ns : List ℕ) → is_in n (ms ++ ns) ≡ false → (is_in n ms ≡ false) × (is_in n ns ≡ false)
apart_in n ms ns e = or_false (is_in n ms) (is_in n ns) (sym (is_in-append n ms ns) ∙ e)

module _ (names : Names) (w : List ℕ) (m : ℕ) (z : ℤ) where
  abbrev Same : List Term → Type 0
  Same xs = AllSame names (with_number names w m z) xs

  abbrev EachSame : List (List Term) → Type 0
  EachSame [] = Unit {0}
  EachSame (xs ∷ rest) = Same xs × EachSame rest

  same_append : (xs ys : List Term) → Same xs → Same ys → Same (xs ++ ys)
  same_append [] ys f g = g
  same_append (x ∷ xs) ys f g = (f.0, same_append xs ys f.1 g)

  same_without : (x : Term) (ys : List Term) → Same ys → Same (without x ys)
  same_without x [] f = tt
  same_without x (y ∷ ys) f = by (same_term x y) (same_without x ys f.1)
    where
      by : (b : Bool) → Same (without x ys) → Same (cond b (without x ys) (y ∷ without x ys))
      by true rest = rest
      by false rest = (f.0, rest)

  same_part : (xss : List (List Term)) (k : ℕ) → EachSame xss → Same (of_part xss k)
  same_part [] k f = tt
  same_part (xs ∷ rest) zero f = f.0
  same_part (xs ∷ rest) (suc k) f = same_part rest k f.1

  same_all : (xss : List (List Term)) → EachSame xss → Same (of_all xss)
  same_all [] f = tt
  same_all (xs ∷ rest) f = same_append xs (of_all rest) f.0 (same_all rest f.1)

  same_bound : (x : Term) (xss : List (List Term)) → EachSame xss → Same (of_bound x xss)
  same_bound x xss f = same_append (of_part xss 0) (of_part xss 1 ++ without x (of_part xss 2)) (same_part xss 0 f) (same_append (of_part xss 1) (without x (of_part xss 2)) (same_part xss 1 f) (same_without x (of_part xss 2) (same_part xss 2 f)))

  same_by : (symbol : Symbol) (xss : List (List Term)) → is_in m (numbers_by symbol) ≡ false → EachSame xss → Same (free_by symbol xss)
  same_by (term.int_name v k) xss e f =
      let other : (bytes_eq v w && eqb k m) ≡ false = and_false (bytes_eq v w) (eqb k m) (or_false (eqb k m) false e).0 in
      (sym (ap (λ (b : Bool). cond b z (names.number_of v k)) other), tt)
  same_by (term.val_name v k) xss e f = (refl, tt)
  same_by (term.every v k) xss e f = same_bound (leaf (int_name v k)) xss f
  same_by (term.exists v k) xss e f = same_bound (leaf (int_name v k)) xss f
  same_by symbol xss e f = same_all xss f

  mutual
    pub free_same : (t : Term) → is_in m (numbers_in t) ≡ false → Same (free_names t)
    free_same (Of symbol ps) e =
        let h = apart_in m (numbers_by symbol) (numbers_in_parts ps) e in
        same_by symbol (free_in ps) h.0 (parts_same ps h.1)

    parts_same : (ps : Parts) → is_in m (numbers_in_parts ps) ≡ false → EachSame (free_in ps)
    parts_same no_parts e = tt
    parts_same (part t ps) e =
        let h = apart_in m (numbers_in t) (numbers_in_parts ps) e in
        (free_same t h.0, parts_same ps h.1)

  -- the term means the same
  pub fresh_sense : (t : Term) → is_in m (numbers_in t) ≡ false → sense names t ≡ sense (with_number names w m z) t
  fresh_sense t e = rests_on_free_names t names (with_number names w m z) refl (free_same t e)
