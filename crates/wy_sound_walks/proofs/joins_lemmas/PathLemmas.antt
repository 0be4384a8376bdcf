-- What holds of one of several paths.
use Rattle.std.proofs.Common.{◌≡◌, ◌⊎◌, inl, inr, ℕ, zero, suc, ◌+◌, ◌≤◌, List, [], ◌∷◌, ◌++◌, length, drop, map, Bool, true, false, not, ◌&&◌, ◌||◌, Option, Some, None, refl, sym, ap, ◌∙◌, subst, arith}
use Rattle.wy_lemmas.proofs.Choices.{not_false as not_not, both_parts as and_true}
use Rattle.wy_term.specs.Term.{Term}
use Rattle.wy_term.specs.Same.{same_term}
use Rattle.wy_term.proofs.SameLemmas.{terms_are}
use Rattle.wy_sound_terms.specs.wy_vc_spec.Making.{equal}
use Rattle.wy_sound_terms.specs.wy_vc_spec.Variables.{slot_at}
use Rattle.wy_sound_terms.specs.wy_vc_spec.Spots.{Spot, is_set}
use Rattle.wy_sound_terms.specs.wy_vc_spec.Joins.{Path, path_of, is_term, is_known, known_on_all, same_on_all, differ_from, differ, or_else, first_term, set_on_all, with_equation, equated}
use Rattle.wy_sound_walks.specs.joins.Joins.{IsOne}

-- a variable that is marked on the path has a term there
abbrev pub IsMarked : Path → Type 0
IsMarked p = (x : ℕ) → is_set p.set x ≡ true → is_known (slot_at p.vars x) ≡ true

abbrev pub AreMarked : List Path → Type 0
AreMarked [] = Unit {0}
AreMarked (p ∷ ps) = IsMarked p × AreMarked ps

pub known_term : (o : Option Term) → is_known o ≡ true → (t : Term) × (o ≡ Some t)
known_term None e = absurd cc
known_term (Some t) e = (t, refl)

is_the_term : (o : Option Term) (t : Term) → is_term o t ≡ true → o ≡ Some t
is_the_term None t e = absurd cc
is_the_term (Some u) t e = ap (λ (x : Term). some_of x) (terms_are u t e) where
  some_of : Term → Option Term
  some_of x = Some x

pub known_one : (x : ℕ) (c : Path) (ps : List Path) → known_on_all ps x ≡ true → IsOne c ps → is_known (slot_at c.vars x) ≡ true
known_one x c [] e h = absurd h
known_one x c (p ∷ ps) e (inl is) = subst (λ (q : Path). is_known (slot_at q.vars x) ≡ true) is (and_true (is_known (slot_at p.vars x)) (known_on_all ps x) e).0
known_one x c (p ∷ ps) e (inr h) = known_one x c ps (and_true (is_known (slot_at p.vars x)) (known_on_all ps x) e).1 h

pub same_one : (x : ℕ) (t : Term) (c : Path) (ps : List Path) → same_on_all ps x t ≡ true → IsOne c ps → slot_at c.vars x ≡ Some t
same_one x t c [] e h = absurd h
same_one x t c (p ∷ ps) e (inl is) = subst (λ (q : Path). slot_at q.vars x ≡ Some t) is (is_the_term (slot_at p.vars x) t (and_true (is_term (slot_at p.vars x) t) (same_on_all ps x t) e).0)
same_one x t c (p ∷ ps) e (inr h) = same_one x t c ps (and_true (is_term (slot_at p.vars x) t) (same_on_all ps x t) e).1 h

pub set_one : (x : ℕ) (c : Path) (ps : List Path) → set_on_all ps x ≡ true → IsOne c ps → is_set c.set x ≡ true
set_one x c [] e h = absurd h
set_one x c (p ∷ ps) e (inl is) = subst (λ (q : Path). is_set q.set x ≡ true) is (and_true (is_set p.set x) (set_on_all ps x) e).0
set_one x c (p ∷ ps) e (inr h) = set_one x c ps (and_true (is_set p.set x) (set_on_all ps x) e).1 h

pub set_known : (x : ℕ) (ps : List Path) → AreMarked ps → set_on_all ps x ≡ true → known_on_all ps x ≡ true
set_known x [] m e = refl
set_known x (p ∷ ps) m e =
    let two = and_true (is_set p.set x) (set_on_all ps x) e in rw (m.0 x two.0, set_known x ps m.1 two.1) refl

-- where terms differ, each path has one
pub differ_known : (x : ℕ) (c : Path) (ps : List Path) → differ ps x ≡ true → IsOne c ps → is_known (slot_at c.vars x) ≡ true
differ_known x c [] e h = absurd h
differ_known x c (p ∷ ps) e h = by (slot_at p.vars x) refl e h where
  by : (o : Option Term) → slot_at p.vars x ≡ o → differ_from ps x o ≡ true → IsOne c (p ∷ ps) → is_known (slot_at c.vars x) ≡ true
  by None q f g = absurd cc
  by (Some t) q f (inl is) = subst (λ (r : Path). is_known (slot_at r.vars x) ≡ true) is (rw q refl)
  by (Some t) q f (inr g) = known_one x c ps (and_true (known_on_all ps x) (not (same_on_all ps x t)) f).0 g

-- where a variable is marked on each path and terms don't differ, the first term is that of each path
pub alike : (x : ℕ) (c : Path) (ps : List Path) → AreMarked ps → set_on_all ps x ≡ true → differ ps x ≡ false → IsOne c ps → first_term ps x ≡ slot_at c.vars x
alike x c [] m e d h = absurd h
alike x c (p ∷ ps) m e d h = by (slot_at p.vars x) refl (known_term (slot_at p.vars x) (m.0 x two.0)) d h where
  two : (is_set p.set x ≡ true) × (set_on_all ps x ≡ true)
  two = and_true (is_set p.set x) (set_on_all ps x) e

  same_true : (k s : Bool) → k ≡ true → (k && not s) ≡ false → s ≡ true
  same_true true s q f = not_not s f
  same_true false s q f = absurd cc

  by : (o : Option Term) → slot_at p.vars x ≡ o → ((t : Term) × (o ≡ Some t)) → differ_from ps x o ≡ false → IsOne c (p ∷ ps) → or_else o (first_term ps x) ≡ slot_at c.vars x
  by None q k f g = absurd (none k.0 k.1) where
    none : (t : Term) → ◌≡◌ {A = Option Term} None (Some t) → ⊥
    none t r = absurd cc
  by (Some t) q k f (inl is) = sym q ∙ ap (λ (r : Path). slot_at r.vars x) is
  by (Some t) q k f (inr g) = sym (same_one x t c ps (same_true (known_on_all ps x) (same_on_all ps x t) (set_known x ps m.1 two.1) f) g)

-- ---- equations

pub equated_one : (name : Term) (x : ℕ) (c : Path) (ps : List Path) → IsOne c ps → IsOne (with_equation name (slot_at c.vars x) c) (equated name x ps)
equated_one name x c [] h = h
equated_one name x c (p ∷ ps) (inl is) = inl (ap (λ (q : Path). with_equation name (slot_at q.vars x) q) is)
equated_one name x c (p ∷ ps) (inr h) = inr (equated_one name x c ps h)

pub equation_marked : (name : Term) (o : Option Term) (p : Path) → IsMarked p → IsMarked (with_equation name o p)
equation_marked name None p m = m
equation_marked name (Some t) p m = m

pub equated_marked : (name : Term) (x : ℕ) (ps : List Path) → AreMarked ps → AreMarked (equated name x ps)
equated_marked name x [] m = tt
equated_marked name x (p ∷ ps) m = (equation_marked name (slot_at p.vars x) p m.0, equated_marked name x ps m.1)
