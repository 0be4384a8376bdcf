-- Where paths come together.
use Rattle.std.specs.Prelude.{ℕ, zero, suc, List, [], ◌∷◌, ◌++◌, length, drop, map, Bool, true, false, not, ◌&&◌, if◌then◌else◌, Option, Some, None}
use Rattle.wy_sem.specs.wy_term.Term.{Term}
use Rattle.wy_sem.specs.wy_term.Same.{same_term}
use Rattle.wy_vc_spec.specs.Making.{val_name, equal, all_of, any_of}
use Rattle.wy_vc_spec.specs.Variables.{Vars, slot_at}
use Rattle.wy_vc_spec.specs.Values.{word_at}
use Rattle.wy_vc_spec.specs.Owed.{assume}
use Rattle.wy_vc_spec.specs.Spots.{Spot, spot, is_set}

-- a path with what it assumed since the paths parted, and behind that the equations of new names
pub record Path : Type 0 where
  pub since : List Term
  pub vars : Vars
  pub set : List Bool

-- what the path assumed behind these hypotheses
abbrev pub path_of : List Term → Spot → Path
path_of base p = record { since = drop (length base) p.hyps; vars = p.vars; set = p.set }

abbrev pub max : ℕ → ℕ → ℕ
max zero n = n
max (suc m) zero = suc m
max (suc m) (suc n) = suc (max m n)

-- how many variables there are on some path
abbrev pub most_vars : List Path → ℕ
most_vars [] = 0
most_vars (p ∷ ps) = max (length p.vars) (most_vars ps)

-- ---- a variable

abbrev pub is_term : Option Term → Term → Bool
is_term None t = false
is_term (Some u) t = same_term u t

abbrev pub is_known : Option Term → Bool
is_known None = false
is_known (Some t) = true

abbrev pub known_on_all : List Path → ℕ → Bool
known_on_all [] x = true
known_on_all (p ∷ ps) x = is_known (slot_at p.vars x) && known_on_all ps x

abbrev pub same_on_all : List Path → ℕ → Term → Bool
same_on_all [] x t = true
same_on_all (p ∷ ps) x t = is_term (slot_at p.vars x) t && same_on_all ps x t

abbrev pub differ_from : List Path → ℕ → Option Term → Bool
differ_from ps x None = false
differ_from ps x (Some t) = known_on_all ps x && not (same_on_all ps x t)

-- each path has a term for the variable, and they are not all the same
abbrev pub differ : List Path → ℕ → Bool
differ [] x = false
differ (p ∷ ps) x = differ_from ps x (slot_at p.vars x)

abbrev pub or_else : Option Term → Option Term → Option Term
or_else None other = other
or_else (Some t) other = Some t

-- the variable's term on the first path that has one
abbrev pub first_term : List Path → ℕ → Option Term
first_term [] x = None
first_term (p ∷ ps) x = or_else (slot_at p.vars x) (first_term ps x)

abbrev pub set_on_all : List Path → ℕ → Bool
set_on_all [] x = true
set_on_all (p ∷ ps) x = is_set p.set x && set_on_all ps x

abbrev pub with_equation : Term → Option Term → Path → Path
with_equation name None p = p
with_equation name (Some t) p = record p { since = p.since ++ equal name t ∷ [] }

-- on each path the new name equals the variable's term there
abbrev pub equated : Term → ℕ → List Path → List Path
equated name x [] = []
equated name x (p ∷ ps) = with_equation name (slot_at p.vars x) p ∷ equated name x ps

-- ---- all variables

-- the paths with their equations, and what is known behind them
pub record Joined : Type 0 where
  pub count : ℕ
  pub paths : List Path
  pub vars : Vars
  pub set : List Bool

abbrev pub with_variable : Option Term → Bool → Joined → Joined
with_variable v b j = record j { vars = v ∷ j.vars; set = b ∷ j.set }

-- so many variables from this one on: each whose terms differ takes a new name
abbrev pub join_vars : List (List ℕ) → List Path → ℕ → ℕ → ℕ → Joined
join_vars words ps x zero n = record { count = n; paths = ps; vars = []; set = [] }
join_vars words ps x (suc j) n =
    if differ ps x then with_variable (Some (val_name (word_at words x) n)) (set_on_all ps x) (join_vars words (equated (val_name (word_at words x) n) x ps) (suc x) j (suc n))
    else with_variable (first_term ps x) (set_on_all ps x) (join_vars words ps (suc x) j n)

-- one of the paths was taken
abbrev pub one_of : List Path → Term
one_of ps = any_of (map (λ p. all_of p.since) ps)

-- where paths come together: the names made, and what is known behind, where a path gets there
pub record Met : Type 0 where
  pub count : ℕ
  pub ends : Option Spot

abbrev pub join : List (List ℕ) → List Term → List Path → ℕ → Met
join words base ps n =
    let j = join_vars words ps 0 (most_vars ps) n in record { count = j.count; ends = Some (spot (assume base (one_of j.paths)) j.vars j.set) }

-- the paths that parted behind these hypotheses come together; one alone goes on as it is
abbrev pub meet : List (List ℕ) → List Term → List Spot → ℕ → Met
meet words base [] n = record { count = n; ends = None }
meet words base (p ∷ []) n = record { count = n; ends = Some p }
meet words base (p ∷ q ∷ ps) n = join words base (map (path_of base) (p ∷ q ∷ ps)) n
