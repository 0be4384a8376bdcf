use Rattle.std.proofs.Common.{◌≡◌, drop}
use Rattle.wy_core.specs.CoreSeen.{seen_exprs}
use Rattle.wy_vc_tables.specs.Mentions.{with_clauses}
use Rattle.wy_vc_tables.proofs.names.names_in_clauses.Given as goal

-- with the names of those left they are all
abbrev pub invariant-loop-expr : goal.invariant-loop-expr
invariant-loop-expr l = with_clauses l.names (seen_exprs (drop l.expr-index l.exprs)) ≡ with_clauses l.fn.names (seen_exprs l.exprs)
