-- What is known behind paths that come together, one variable after the other, and the names that are new.
use Rattle.std.specs.Prelude.{ℕ, zero, suc, ◌<◌, List, [], ◌∷◌, ◌++◌, All, map, length, Bool, if◌then◌else◌, Option, Some, None}
use Rattle.wy_term.specs.Term.{Term}
use Rattle.wy_term.specs.Nodes.{Plain, tree_at}
use Rattle.wy_vc_exprs.specs.wy_vc_spec.Joins.{Path, differ, first_term, set_on_all}
use Rattle.wy_vc_exprs.specs.wy_vc_spec.Making.{val_name, equal, all_of}
use Rattle.wy_vc_exprs.specs.wy_vc_spec.Values.{word_at}
use Rattle.wy_vc_exprs.specs.wy_vc_spec.Variables.{Vars, slot_at}
use Rattle.wy_vc_exprs.specs.Slots.{AreSlots, slots_of}
use Rattle.wy_vc_body.specs.declared.known.Joined.{Joined}

-- the variables that have new names, and what is known of those that were looked at
pub record Known : Type 0 where
  pub count : ℕ
  pub names : List (ℕ × Term)
  pub vars : Vars
  pub set : List Bool

abbrev pub known : ℕ → List (ℕ × Term) → Vars → List Bool → Known
known n names vars set = record { count = n; names = names; vars = vars; set = set }

-- the one, and behind it the other
abbrev pub onto : Known → Known → Known
onto a b = known b.count (a.names ++ b.names) (a.vars ++ b.vars) (a.set ++ b.set)

abbrev pub renamed : List (List ℕ) → List Path → ℕ → ℕ → Known
renamed words ps x n = known (suc n) ((x, val_name (word_at words x) n) ∷ []) (Some (val_name (word_at words x) n) ∷ []) (set_on_all ps x ∷ [])

abbrev pub unnamed : List Path → ℕ → ℕ → Known
unnamed ps x n = known n [] (first_term ps x ∷ []) (set_on_all ps x ∷ [])

-- a variable whose terms differ takes a new name
abbrev pub one_variable : List (List ℕ) → List Path → ℕ → ℕ → Known
one_variable words ps x n = if differ ps x then renamed words ps x n else unnamed ps x n

-- so many variables from this one on
abbrev pub known_from : List (List ℕ) → List Path → ℕ → ℕ → ℕ → Known
known_from words ps x zero n = known n [] [] []
known_from words ps x (suc j) n = onto (one_variable words ps x n) (known_from words ps (suc x) j (one_variable words ps x n).count)

-- ---- equations

abbrev pub equation : Term → Option Term → List Term
equation name None = []
equation name (Some t) = equal name t ∷ []

-- on a path with these terms each new name equals the variable's term there
abbrev pub equations : List (ℕ × Term) → Vars → List Term
equations [] vars = []
equations (e ∷ es) vars = equation e.1 (slot_at vars e.0) ++ equations es vars

-- what is so on a path, with the equations
abbrev pub path_term : List (ℕ × Term) → Path → Term
path_term names p = all_of (p.since ++ equations names p.vars)

-- ---- by numbers of terms

abbrev pub seen_names : List Plain → List (ℕ × ℕ) → List (ℕ × Term)
seen_names nodes ns = map (λ (e : ℕ × ℕ). (e.0, tree_at nodes e.1)) ns

abbrev pub AreNames : List Plain → List (ℕ × ℕ) → Type 0
AreNames nodes ns = All (λ (e : ℕ × ℕ). e.1 < length nodes) ns

abbrev pub seen_joined : List Plain → ℕ → Joined → Known
seen_joined nodes n j = known n (seen_names nodes j.names.items) (slots_of nodes j.here.vars.items) j.here.set.items

pub record IsJoined (nodes : List Plain) (j : Joined) : Type 0 where
  pub names : AreNames nodes j.names.items
  pub vars : AreSlots nodes j.here.vars.items
