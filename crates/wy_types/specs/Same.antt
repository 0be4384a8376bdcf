-- Which parts, atoms and conjuncts are the same, and lists that have each of them once.
use Rattle.std.specs.Prelude.{ℕ, List, [], ◌∷◌, ◌++◌, Bool, true, false, cond, ◌&&◌, ◌||◌}
use Rattle.std.specs.Str.{bytes_eq}
use Rattle.wy_types.specs.declared.conjuncts.Signed.{Signed}
use Rattle.wy_types.specs.declared.conjuncts.Part.{Part}
use Rattle.wy_types.specs.declared.conjuncts.Atom.{Atom}
use Rattle.wy_types.specs.declared.conjuncts.Atom.TheVariants as atom
use Rattle.wy_types.specs.declared.conjuncts.Conjunct.{Conjunct}
use Rattle.wy_types.specs.Shape.{signed_as}

module _ {T : Type 0} (same : T → T → Bool) where
  -- the same term, reading and sign
  abbrev pub same_signed : Signed T → Signed T → Bool
  same_signed x s = same x.term s.term && (signed_as x.up s.up && signed_as x.inside s.inside)

  -- the same terms in the same order
  abbrev pub same_terms : List (Signed T) → List (Signed T) → Bool
  same_terms [] [] = true
  same_terms (x ∷ xs) (y ∷ ys) = same_signed x y && same_terms xs ys
  same_terms _ _ = false

  -- the same fields with the same parts
  abbrev pub same_fields : List (List ℕ × Part T) → List (List ℕ × Part T) → Bool
  same_fields [] [] = true
  same_fields (x ∷ xs) (y ∷ ys) = bytes_eq x.0 y.0 && (same_terms x.1.terms y.1.terms && same_fields xs ys)
  same_fields _ _ = false

  -- the same atom
  abbrev pub same_atom : Atom T → Atom T → Bool
  same_atom atom.Null atom.Null = true
  same_atom atom.Bool atom.Bool = true
  same_atom atom.Int atom.Int = true
  same_atom (atom.Array p) (atom.Array q) = same_terms p.terms q.terms
  same_atom (atom.Record xs) (atom.Record ys) = same_fields xs ys
  same_atom atom.AnyRecord atom.AnyRecord = true
  same_atom _ _ = false

  -- the same atoms in the same order
  abbrev pub same_atoms : List (Atom T) → List (Atom T) → Bool
  same_atoms [] [] = true
  same_atoms (x ∷ xs) (y ∷ ys) = same_atom x y && same_atoms xs ys
  same_atoms _ _ = false

  -- the same conjunct
  abbrev pub same_conjunct : Conjunct T → Conjunct T → Bool
  same_conjunct x y = same_atom x.positive y.positive && same_atoms x.negatives y.negatives

  -- the same conjuncts in the same order
  abbrev pub same_conjuncts : List (Conjunct T) → List (Conjunct T) → Bool
  same_conjuncts [] [] = true
  same_conjuncts (x ∷ xs) (y ∷ ys) = same_conjunct x y && same_conjuncts xs ys
  same_conjuncts _ _ = false

  -- one of the terms is this one
  abbrev pub has_signed : List (Signed T) → Signed T → Bool
  has_signed [] s = false
  has_signed (x ∷ xs) s = same_signed x s || has_signed xs s

  -- one of the atoms is this one
  abbrev pub has_atom : List (Atom T) → Atom T → Bool
  has_atom [] a = false
  has_atom (x ∷ xs) a = same_atom x a || has_atom xs a

  -- one of the conjuncts is this one
  abbrev pub has_conjunct : List (Conjunct T) → Conjunct T → Bool
  has_conjunct [] c = false
  has_conjunct (x ∷ xs) c = same_conjunct x c || has_conjunct xs c

  -- the terms, and this one if it isn't there
  abbrev pub with_signed : List (Signed T) → Signed T → List (Signed T)
  with_signed p s = cond (has_signed p s) p (p ++ s ∷ [])

  -- the atoms, and this one if it isn't there
  abbrev pub with_atom : List (Atom T) → Atom T → List (Atom T)
  with_atom xs a = cond (has_atom xs a) xs (xs ++ a ∷ [])

  -- the conjuncts, and this one if it isn't there
  abbrev pub with_conjunct : List (Conjunct T) → Conjunct T → List (Conjunct T)
  with_conjunct cs c = cond (has_conjunct cs c) cs (cs ++ c ∷ [])

  -- both lists of terms, each term once
  abbrev pub united : List (Signed T) → List (Signed T) → List (Signed T)
  united p [] = p
  united p (s ∷ ss) = united (with_signed p s) ss

  -- both lists of atoms, each atom once
  abbrev pub united_atoms : List (Atom T) → List (Atom T) → List (Atom T)
  united_atoms xs [] = xs
  united_atoms xs (b ∷ bs) = united_atoms (with_atom xs b) bs

  -- both lists of conjuncts, each conjunct once
  abbrev pub united_conjuncts : List (Conjunct T) → List (Conjunct T) → List (Conjunct T)
  united_conjuncts cs [] = cs
  united_conjuncts cs (d ∷ ds) = united_conjuncts (with_conjunct cs d) ds
