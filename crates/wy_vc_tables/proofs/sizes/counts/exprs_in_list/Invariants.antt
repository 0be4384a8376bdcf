use Rattle.std.proofs.Common.{◌≡◌, ◌+◌, drop}
use Rattle.wy_core.specs.CoreSeen.{seen_exprs}
use Rattle.wy_vc_spec.specs.Sizes.{exprs_in_list as size}
use Rattle.wy_vc_tables.proofs.sizes.counts.exprs_in_list.Given as goal

-- those passed and those left are all
abbrev pub invariant-loop-expr : goal.invariant-loop-expr
invariant-loop-expr l = l.count + size (seen_exprs (drop l.expr-index l.exprs)) ≡ size (seen_exprs l.exprs)
