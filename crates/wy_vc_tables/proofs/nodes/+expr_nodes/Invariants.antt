use Rattle.std.proofs.Common.{◌≡◌, ◌+◌, drop}
use Rattle.wy_core.specs.CoreSeen.{seen_exprs, seen_fields}
use Rattle.wy_core.specs.CoreTree.{exprs_of}
use Rattle.wy_vc_spec.specs.Named.{nodes_of_exprs, nodes_of_values}
use Rattle.wy_vc_tables.specs.Mentions.{no_nodes}
use Rattle.wy_vc_tables.proofs.nodes.+expr_nodes.Given as goal

-- those passed and those left are all
abbrev pub invariant-nodes_in_exprs-loop-expr : goal.invariant-nodes_in_exprs-loop-expr
invariant-nodes_in_exprs-loop-expr l = l.count + nodes_of_exprs no_nodes (exprs_of (seen_exprs (drop l.expr-index l.exprs))) ≡ nodes_of_exprs no_nodes (exprs_of (seen_exprs l.exprs))

abbrev pub invariant-nodes_in_values-loop-field : goal.invariant-nodes_in_values-loop-field
invariant-nodes_in_values-loop-field l = l.count + nodes_of_values no_nodes (seen_fields (drop l.field-index l.fields)) ≡ nodes_of_values no_nodes (seen_fields l.fields)
