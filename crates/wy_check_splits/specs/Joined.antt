-- Which pairs of terms are noted as joined.
use Rattle.std.specs.Prelude.{◌≡◌, ◌<◌, ℕ, List, ◌&&◌, ◌||◌, Bool, nat_eq}
use Rattle.std.specs.HashSet.{contains}
use Rattle.wy_check_nodes.specs.wy_term.Term.{Term, two, equal, at_most}
use Rattle.wy_check_nodes.specs.wy_term.Same.{same_term}
use Rattle.wy_check_nodes.specs.wy_check_spec.judge.Node.{Literal}
use Rattle.wy_check_nodes.specs.wy_check_spec.valid.Literals.{has_atom}
use Rattle.wy_check_splits.specs.declared.joined.Joined.{Joined}

abbrev pub same_pair : ℕ × ℕ → ℕ × ℕ → Bool
same_pair p q = nat_eq p.0 q.0 && nat_eq p.1 q.1

-- the pairs of the first n terms that are noted are those of which an atom stands among the literals
pub record Notes (at : ℕ → Term) (n : ℕ) (ls : List Literal) (j : Joined) : Type 0 where
  pub equations : (v w : ℕ) → v < n → w < n → contains same_pair j.equations (v, w) ≡ has_atom ls (two equal (at v) (at w))
  pub bounds : (s t : ℕ) → s < n → t < n → contains same_pair j.bounds (s, t) ≡ has_atom ls (two at_most (at s) (at t))

-- what is noted after an atom is what was noted before it, and the atom
pub record NotesBehind (at : ℕ → Term) (n : ℕ) (old new : Joined) (a : Term) : Type 0 where
  pub equations : (v w : ℕ) → v < n → w < n → contains same_pair new.equations (v, w) ≡ (contains same_pair old.equations (v, w) || same_term a (two equal (at v) (at w)))
  pub bounds : (s t : ℕ) → s < n → t < n → contains same_pair new.bounds (s, t) ≡ (contains same_pair old.bounds (s, t) || same_term a (two at_most (at s) (at t)))
