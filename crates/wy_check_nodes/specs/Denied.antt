-- Which literals are denied and hold too, and which formulas show at once that an `or` or a denied `and` isn't judged no.
use Rattle.std.specs.Prelude.{◌≡◌, ◌⊎◌, List, [], ◌∷◌, ◌&&◌, ◌||◌, Bool, true, false, not}
use Rattle.wy_check_spec.specs.wy_term.Term.{Parts, no_parts, part}
use Rattle.wy_check_spec.specs.judge.Node.{Literal, has_literal}
use Rattle.wy_check_spec.specs.judge.Judgement.{judged}
use Rattle.wy_check_nodes.specs.Judged.{fails}

-- one of these literals is denied and stands among all as one that holds
abbrev pub any_denied : List Literal → List Literal → Bool
any_denied all [] = false
any_denied all (l ∷ ls) = (not l.holds && has_literal all (record { atom = l.atom; holds = true })) || any_denied all ls

-- one of the formulas, or the denial of one, isn't judged no
abbrev pub HasStanding : List Literal → Bool → Parts → Type 0
HasStanding ls holds no_parts = ⊥
HasStanding ls holds (part f fs) = (fails (judged ls f) holds ≡ false) ⊎ HasStanding ls holds fs
