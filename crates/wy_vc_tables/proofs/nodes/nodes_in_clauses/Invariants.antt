use Rattle.std.proofs.Common.{◌≡◌, ◌+◌, drop}
use Rattle.wy_core.specs.CoreSeen.{seen_exprs}
use Rattle.wy_vc_spec.specs.Named.{nodes_of_clauses}
use Rattle.wy_vc_tables.specs.Mentions.{no_nodes}
use Rattle.wy_vc_tables.proofs.nodes.nodes_in_clauses.Given as goal

-- those passed and those left are all
abbrev pub invariant-loop-expr : goal.invariant-loop-expr
invariant-loop-expr l = l.count + nodes_of_clauses no_nodes (seen_exprs (drop l.expr-index l.exprs)) ≡ nodes_of_clauses no_nodes (seen_exprs l.exprs)
