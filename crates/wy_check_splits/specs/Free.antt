-- Which names stand free in a term, one name at a time.
use Rattle.std.specs.Prelude.{ℕ, ◌==◌, List, [], ◌∷◌, Bool, false, ◌&&◌, ◌||◌, bytes_eq, take, if◌then◌else◌}
use Rattle.wy_check_nodes.specs.wy_term.Term.{Symbol, Term, leaf, int_name, every, exists}
use Rattle.wy_check_nodes.specs.wy_term.Nodes.{Plain}
use Rattle.wy_check_nodes.specs.wy_term.Same.{same_term}
use Rattle.wy_check_nodes.specs.wy_term.Scope.{free_names}

-- the term is one of these
abbrev pub is_among : Term → List Term → Bool
is_among x [] = false
is_among x (y ∷ ys) = same_term x y || is_among x ys

-- the Int name with this word and number stands free in the term
abbrev pub stands_free : List ℕ → ℕ → Term → Bool
stands_free w n t = is_among (leaf (int_name w n)) (free_names t)

-- the symbol is that name
abbrev pub is_it : List ℕ → ℕ → Symbol → Bool
is_it w n (int_name v m) = bytes_eq w v && (n == m)
is_it w n symbol = false

-- the symbol binds the Int name with this word and number
abbrev pub binds_it : List ℕ → ℕ → Symbol → Bool
binds_it w n (every v m) = bytes_eq v w && (m == n)
binds_it w n (exists v m) = bytes_eq v w && (m == n)
binds_it w n symbol = false

-- the parts of a node in which the name may stand free: not the body of a quantifier that binds it
abbrev pub open_parts : List ℕ → ℕ → Plain → List ℕ
open_parts w n p = if binds_it w n p.symbol then take 2 p.parts else p.parts
