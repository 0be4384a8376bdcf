use Rattle.std.proofs.Common.{◌≡◌, List, map, drop}
use Rattle.wy_term_subst.specs.wy_term.Nodes.{Plain}
use Rattle.wy_term_subst.specs.wy_term.Condition.{entry_of}
use Rattle.wy_facts.specs.Membership.{entry_for}
use Rattle.wy_facts.proofs.membership.entry_for.Given as goal

-- no entry so far is for the type
abbrev pub invariant-loop-e : goal.invariant-loop-e
invariant-loop-e l = (nodes : List Plain) → entry_for (map (entry_of nodes) (drop l.e-index l.list)) l.n ≡ entry_for (map (entry_of nodes) l.list) l.n
