-- A list that has each thing once says what the list says.
use Rattle.std.proofs.Common.{◌≡◌, List, [], ◌∷◌, ◌++◌, Bool, true, false, cond, not, ◌&&◌, ◌||◌, refl, sym, ap, ◌∙◌}
use Rattle.wy_core.proofs.wy_lemmas_proofs.Choices.{and_end as and_true, or_none as or_false, and_assoc, or_assoc}
use Rattle.wy_types.specs.declared.conjuncts.Signed.{Signed}
use Rattle.wy_types.specs.declared.conjuncts.Atom.{Atom}
use Rattle.wy_types.specs.declared.conjuncts.Conjunct.{Conjunct}
use Rattle.wy_types.specs.Shape.{Shape, signed_as, part_in, atom_in, none_in, conjunct_in, any_in}
use Rattle.wy_types.specs.Same.{same_signed, same_atom, same_conjunct, has_signed, has_atom, has_conjunct, with_signed, with_atom, with_conjunct, united, united_atoms, united_conjuncts}
use Rattle.wy_types.specs.NodeLaws.{same_signed_is, same_atom_is, same_conjunct_is}

and_again : (a b : Bool) → (a && b) ≡ ((a && b) && a)
and_again true true = refl
and_again true false = refl
and_again false b = refl

or_again : (a b : Bool) → (a || b) ≡ ((a || b) || a)
or_again true b = refl
or_again false true = refl
or_again false false = refl

pub any_in-append : {T : Type 0} (shape : Shape T) (xs ys : List (Conjunct T)) → any_in shape (xs ++ ys) ≡ (any_in shape xs || any_in shape ys)
any_in-append shape [] ys = refl
any_in-append shape (x ∷ xs) ys = ap (λ b. conjunct_in shape x || b) (any_in-append shape xs ys) ∙ sym (or_assoc (conjunct_in shape x) (any_in shape xs) (any_in shape ys))

pub none_in-append : {T : Type 0} (shape : Shape T) (xs ys : List (Atom T)) → none_in shape (xs ++ ys) ≡ (none_in shape xs && none_in shape ys)
none_in-append shape [] ys = refl
none_in-append shape (x ∷ xs) ys =
    ap (λ b. not (atom_in shape x) && b) (none_in-append shape xs ys) ∙ sym (and_assoc (not (atom_in shape x)) (none_in shape xs) (none_in shape ys))

module _ {T : Type 0} (same : T → T → Bool) (is : (x y : T) → same x y ≡ true → x ≡ y) where
  -- ---- terms

  part_in-has : (r : Bool → T → Bool) (p : List (Signed T)) (s : Signed T) → has_signed same p s ≡ true → part_in r p ≡ (part_in r p && signed_as (r s.up s.term) s.inside)
  part_in-has r [] s e = absurd cc
  part_in-has r (x ∷ xs) s e = by (same_signed same x s) refl (λ f. part_in-has r xs s f)
    where
      told : Signed T → Bool
      told y = signed_as (r y.up y.term) y.inside

      by : (b : Bool) → same_signed same x s ≡ b → (has_signed same xs s ≡ true → part_in r xs ≡ (part_in r xs && signed_as (r s.up s.term) s.inside))
          → part_in r (x ∷ xs) ≡ (part_in r (x ∷ xs) && signed_as (r s.up s.term) s.inside)
      by true f rest = rw (← same_signed_is same is x s f) (and_again (signed_as (r x.up x.term) x.inside) (part_in r xs))
      by false f rest =
          ap (λ b. signed_as (r x.up x.term) x.inside && b) (rest (rw f at e)) ∙ sym (and_assoc (signed_as (r x.up x.term) x.inside) (part_in r xs) (signed_as (r s.up s.term) s.inside))

  part_in-last : (r : Bool → T → Bool) (p : List (Signed T)) (s : Signed T) → part_in r (p ++ s ∷ []) ≡ (part_in r p && signed_as (r s.up s.term) s.inside)
  part_in-last r [] s = and_true (signed_as (r s.up s.term) s.inside)
  part_in-last r (x ∷ xs) s =
      ap (λ b. signed_as (r x.up x.term) x.inside && b) (part_in-last r xs s) ∙ sym (and_assoc (signed_as (r x.up x.term) x.inside) (part_in r xs) (signed_as (r s.up s.term) s.inside))

  part_in-with_at : (r : Bool → T → Bool) (p : List (Signed T)) (s : Signed T) (b : Bool) → has_signed same p s ≡ b
      → part_in r (cond b p (p ++ s ∷ [])) ≡ (part_in r p && signed_as (r s.up s.term) s.inside)
  part_in-with_at r p s true e = part_in-has r p s e
  part_in-with_at r p s false e = part_in-last r p s

  pub part_in-with_signed : (r : Bool → T → Bool) (p : List (Signed T)) (s : Signed T) → part_in r (with_signed same p s) ≡ (part_in r p && signed_as (r s.up s.term) s.inside)
  part_in-with_signed r p s = part_in-with_at r p s (has_signed same p s) refl

  pub part_in-united : (r : Bool → T → Bool) (p q : List (Signed T)) → part_in r (united same p q) ≡ (part_in r p && part_in r q)
  part_in-united r p [] = sym (and_true (part_in r p))
  part_in-united r p (s ∷ ss) =
      part_in-united r (with_signed same p s) ss ∙ ap (λ b. b && part_in r ss) (part_in-with_signed r p s)
      ∙ and_assoc (part_in r p) (signed_as (r s.up s.term) s.inside) (part_in r ss)

  -- ---- atoms

  none_in-has : (shape : Shape T) (xs : List (Atom T)) (a : Atom T) → has_atom same xs a ≡ true → none_in shape xs ≡ (none_in shape xs && not (atom_in shape a))
  none_in-has shape [] a e = absurd cc
  none_in-has shape (x ∷ xs) a e = by (same_atom same x a) refl (λ f. none_in-has shape xs a f)
    where
      by : (b : Bool) → same_atom same x a ≡ b → (has_atom same xs a ≡ true → none_in shape xs ≡ (none_in shape xs && not (atom_in shape a)))
          → none_in shape (x ∷ xs) ≡ (none_in shape (x ∷ xs) && not (atom_in shape a))
      by true f rest = rw (← same_atom_is same is x a f) (and_again (not (atom_in shape x)) (none_in shape xs))
      by false f rest = ap (λ b. not (atom_in shape x) && b) (rest (rw f at e)) ∙ sym (and_assoc (not (atom_in shape x)) (none_in shape xs) (not (atom_in shape a)))

  none_in-with_at : (shape : Shape T) (xs : List (Atom T)) (a : Atom T) (b : Bool) → has_atom same xs a ≡ b
      → none_in shape (cond b xs (xs ++ a ∷ [])) ≡ (none_in shape xs && not (atom_in shape a))
  none_in-with_at shape xs a true e = none_in-has shape xs a e
  none_in-with_at shape xs a false e = none_in-append shape xs (a ∷ []) ∙ ap (λ b. none_in shape xs && b) (and_true (not (atom_in shape a)))

  none_in-with_atom : (shape : Shape T) (xs : List (Atom T)) (a : Atom T) → none_in shape (with_atom same xs a) ≡ (none_in shape xs && not (atom_in shape a))
  none_in-with_atom shape xs a = none_in-with_at shape xs a (has_atom same xs a) refl

  pub none_in-united_atoms : (shape : Shape T) (xs ys : List (Atom T)) → none_in shape (united_atoms same xs ys) ≡ (none_in shape xs && none_in shape ys)
  none_in-united_atoms shape xs [] = sym (and_true (none_in shape xs))
  none_in-united_atoms shape xs (y ∷ ys) =
      none_in-united_atoms shape (with_atom same xs y) ys ∙ ap (λ b. b && none_in shape ys) (none_in-with_atom shape xs y)
      ∙ and_assoc (none_in shape xs) (not (atom_in shape y)) (none_in shape ys)

  -- ---- conjuncts

  any_in-has : (shape : Shape T) (cs : List (Conjunct T)) (c : Conjunct T) → has_conjunct same cs c ≡ true → any_in shape cs ≡ (any_in shape cs || conjunct_in shape c)
  any_in-has shape [] c e = absurd cc
  any_in-has shape (x ∷ xs) c e = by (same_conjunct same x c) refl (λ f. any_in-has shape xs c f)
    where
      by : (b : Bool) → same_conjunct same x c ≡ b → (has_conjunct same xs c ≡ true → any_in shape xs ≡ (any_in shape xs || conjunct_in shape c))
          → any_in shape (x ∷ xs) ≡ (any_in shape (x ∷ xs) || conjunct_in shape c)
      by true f rest = rw (← same_conjunct_is same is x c f) (or_again (conjunct_in shape x) (any_in shape xs))
      by false f rest = ap (λ b. conjunct_in shape x || b) (rest (rw f at e)) ∙ sym (or_assoc (conjunct_in shape x) (any_in shape xs) (conjunct_in shape c))

  any_in-with_at : (shape : Shape T) (cs : List (Conjunct T)) (c : Conjunct T) (b : Bool) → has_conjunct same cs c ≡ b
      → any_in shape (cond b cs (cs ++ c ∷ [])) ≡ (any_in shape cs || conjunct_in shape c)
  any_in-with_at shape cs c true e = any_in-has shape cs c e
  any_in-with_at shape cs c false e = any_in-append shape cs (c ∷ []) ∙ ap (λ b. any_in shape cs || b) (or_false (conjunct_in shape c))

  pub any_in-with_conjunct : (shape : Shape T) (cs : List (Conjunct T)) (c : Conjunct T) → any_in shape (with_conjunct same cs c) ≡ (any_in shape cs || conjunct_in shape c)
  any_in-with_conjunct shape cs c = any_in-with_at shape cs c (has_conjunct same cs c) refl

  pub any_in-united_conjuncts : (shape : Shape T) (cs ds : List (Conjunct T)) → any_in shape (united_conjuncts same cs ds) ≡ (any_in shape cs || any_in shape ds)
  any_in-united_conjuncts shape cs [] = sym (or_false (any_in shape cs))
  any_in-united_conjuncts shape cs (d ∷ ds) =
      any_in-united_conjuncts shape (with_conjunct same cs d) ds ∙ ap (λ b. b || any_in shape ds) (any_in-with_conjunct shape cs d)
      ∙ or_assoc (any_in shape cs) (conjunct_in shape d) (any_in shape ds)
