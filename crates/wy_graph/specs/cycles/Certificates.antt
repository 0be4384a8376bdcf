-- By what labels are known to be right.
use Rattle.std.specs.Prelude.{ℕ, Bool, true, false, ◌&&◌, ◌||◌, ◌==◌, nat_lt, not, List, [], ◌∷◌, Option, Some, None, slice_get}
use Rattle.wy_graph.specs.declared.cycles.graph.Arrow.{Arrow}
use Rattle.wy_graph.specs.declared.cycles.certificate.Hangs.{Hangs}
use Rattle.wy_graph.specs.declared.cycles.certificate.Certificate.{Certificate}
use Rattle.wy_graph.specs.cycles.Cycles.{label}

abbrev pub number_at : List ℕ → ℕ → ℕ
number_at list i = label list i

-- the node is the root of its label
abbrev pub is_root : Certificate → ℕ → Bool
is_root c v = number_at c.roots (number_at c.labels v) == v

-- the first node has the label of the second, and a lower rank
abbrev pub is_nearer : List ℕ → List ℕ → ℕ → ℕ → Bool
is_nearer labels ranks v w = (number_at labels v == number_at labels w) && nat_lt (number_at ranks v) (number_at ranks w)

abbrev pub up_by : List ℕ → Hangs → ℕ → Option Arrow → Bool
up_by labels up v None = false
up_by labels up v (Some arrow) = (arrow.from == v) && is_nearer labels up.ranks arrow.to v

-- the node's arrow leads nearer to the root
abbrev pub leads_up : List Arrow → List ℕ → Hangs → ℕ → Bool
leads_up arrows labels up v = up_by labels up v (slice_get arrows (number_at up.arrows v))

abbrev pub down_by : List ℕ → Hangs → ℕ → Option Arrow → Bool
down_by labels down v None = false
down_by labels down v (Some arrow) = (arrow.to == v) && is_nearer labels down.ranks arrow.from v

-- the node's arrow comes from nearer to the root
abbrev pub leads_down : List Arrow → List ℕ → Hangs → ℕ → Bool
leads_down arrows labels down v = down_by labels down v (slice_get arrows (number_at down.arrows v))

abbrev pub fits : List Arrow → Certificate → ℕ → Bool
fits arrows c v = is_root c v || (leads_up arrows c.labels c.up v && leads_down arrows c.labels c.down v)

-- both ends are nodes, and the label doesn't fall
abbrev pub rises : List ℕ → ℕ → Arrow → Bool
rises labels count a = nat_lt a.from count && (nat_lt a.to count && not (nat_lt (number_at labels a.to) (number_at labels a.from)))

abbrev pub each_rises : List ℕ → ℕ → List Arrow → Bool
each_rises labels count [] = true
each_rises labels count (a ∷ rest) = rises labels count a && each_rises labels count rest
