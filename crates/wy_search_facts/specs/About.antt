-- What a fact on a term's kind is about, and what the code's walk through equations finds.
use Rattle.std.specs.Prelude.{ℕ, ◌<◌, [], ◌∷◌, Bool, true, false, ◌&&◌, is_some, option_map, if◌then◌else◌, Option, Some, None}
use Rattle.wy_term.specs.Term.{Term, int, num, null, truth}
use Rattle.wy_facts.specs.Made.{either, implies, is_equal, made_one}
use Rattle.wy_facts.specs.Schema.{as_equation}
use Rattle.wy_cong.specs.wy_check_spec.judge.Node.{Node, has_literal}
use Rattle.wy_cong.specs.wy_check_spec.valid.Membership.{fact_among}
use Rattle.wy_cong.specs.wy_search_spec.Standing.{standing_in}
use Rattle.wy_cong.specs.wy_search_spec.Expansion.{equal_to, everything, has_standing, in_equation}
use Rattle.wy_search_facts.specs.declared.kinds.About.{About}
use Rattle.wy_search_facts.specs.declared.kinds.About.TheVariants as about

-- what a term is of whose kind a test tells; a number only where the term stands in an equation of the node
abbrev pub said_by : Node → (ℕ → Term) → About → Option Term
said_by node at about.Formula = None
said_by node at (about.Null v) = Some (equal_to (at v) null)
said_by node at (about.Bool v) = Some (either (equal_to (at v) (truth true)) (equal_to (at v) (truth false)))
said_by node at (about.Int v) = if in_equation (everything node) (at v) then Some (is_equal (at v) (made_one int (made_one num (at v)))) else None
said_by node at about.Nothing = None

-- that the test implies it, where the test is a literal that isn't denied
abbrev pub literal_said : Node → (ℕ → Term) → Term → About → Option Term
literal_said node at t what = if has_literal node.literals (record { atom = t; holds = true }) then option_map (implies t) (said_by node at what) else None

abbrev pub is_formula : About → Bool
is_formula about.Formula = true
is_formula what = false

-- the fact on this term
abbrev pub about_fact : Node → (ℕ → Term) → Term → About → Option Term
about_fact node at t about.Formula = fact_among [] 14 (t ∷ [])
about_fact node at t about.Nothing = None
about_fact node at t what = literal_said node at t what

abbrev pub IsAboutBelow : ℕ → About → Type 0
IsAboutBelow n about.Formula = Unit {0}
IsAboutBelow n (about.Null v) = v < n
IsAboutBelow n (about.Bool v) = v < n
IsAboutBelow n (about.Int v) = v < n
IsAboutBelow n about.Nothing = Unit {0}

-- ---- equations

-- the term stands in the one with this number
abbrev pub stands_in : (ℕ → Term) → Term → ℕ → Bool
stands_in at v k = has_standing (standing_in (at k)) v

-- the one with this number is an equation in which the term stands
abbrev pub equates : (ℕ → Term) → Term → ℕ → Bool
equates at v k = is_some (as_equation (at k)) && has_standing (standing_in (at k)) v

-- an equation in which the term stands is in the one with this number
abbrev pub equates_in : (ℕ → Term) → Term → ℕ → Bool
equates_in at v k = in_equation (standing_in (at k)) v
