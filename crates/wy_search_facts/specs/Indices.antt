-- Which terms stand as an index without bound names.
use Rattle.std.specs.Prelude.{◌≡◌, ◌<◌, ℕ, List, [], ◌∷◌, Bool, true, false, ◌&&◌, ◌||◌, not, take, Option, Some, None, if◌then◌else◌}
use Rattle.wy_term.specs.Term.{Symbol, Term, Of, no_parts, part, get, update, every, exists}
use Rattle.wy_term.specs.Same.{same_term}
use Rattle.wy_term.specs.Scope.{free_names}
use Rattle.wy_cong.specs.wy_check_spec.judge.Node.{has_formula}
use Rattle.wy_cong.specs.wy_search_spec.Standing.{Standing, have_common, standing_in}
use Rattle.wy_check_splits.specs.Free.{stands_free}
use Rattle.wy_check_splits.specs.Walk.{any_over}
use Rattle.wy_cong.specs.wy_check_spec.valid.Ranges.{is_int}

-- the second part of a `get` or an `upd` is this term
abbrev pub is_index_of : Term → Term → Bool
is_index_of t (Of get (part v (part i no_parts))) = same_term i t
is_index_of t (Of update (part v (part i (part w no_parts)))) = same_term i t
is_index_of t u = false

-- the symbol binds a name that stands free in the term
abbrev pub catches : Term → Symbol → Bool
catches t (every word n) = stands_free word n t
catches t (exists word n) = stands_free word n t
catches t symbol = false

-- of a quantifier that binds a free name of the term only the bounds count
abbrev pub open_of : Bool → List ℕ → List ℕ
open_of caught ks = if caught then take 2 ks else ks

-- the term is an index at one of these places, and none of its names is bound there
abbrev pub indexes_in : Term → List Standing → Bool
indexes_in t [] = false
indexes_in t (s ∷ ss) = (is_index_of t s.what && not (have_common (free_names t) s.around)) || indexes_in t ss

-- so in the term with this number
abbrev pub indexes : (ℕ → Term) → Term → ℕ → Bool
indexes at t k = indexes_in t (standing_in (at k))

-- an Int term, which is an index at one of these places or one of these names
abbrev pub chosen_by : List Standing → List Term → Term → Bool
chosen_by ss names t = if is_int t then (if has_formula names t then true else indexes_in t ss) else false

-- the term is the one with this number
abbrev pub is_numbered : (ℕ → Term) → Option ℕ → Term → Bool
is_numbered at None t = false
is_numbered at (Some i) t = same_term (at i) t

-- the number is noted, and what was noted before
pub record Notes (before after : ℕ → Bool) (i : ℕ) : Type 0 where
  pub here : after i ≡ true
  pub kept : (t : ℕ) → before t ≡ true → after t ≡ true

-- each of the first n terms that is an index at one of these places is noted, or is one in what is still to be looked at
pub record WillBeNoted (at : ℕ → Term) (n : ℕ) (noted : ℕ → Bool) (todo : List ℕ) (ss : List Standing) : Type 0 where
  pub each : (t : ℕ) → t < n → indexes_in (at t) ss ≡ true → (noted t || any_over (indexes at (at t)) todo) ≡ true

-- each of the first n terms that is an index at one of these places is noted
pub record AreNoted (at : ℕ → Term) (n : ℕ) (noted : ℕ → Bool) (ss : List Standing) : Type 0 where
  pub each : (t : ℕ) → t < n → indexes_in (at t) ss ≡ true → noted t ≡ true
