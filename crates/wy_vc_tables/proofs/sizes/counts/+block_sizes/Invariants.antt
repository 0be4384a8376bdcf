use Rattle.std.proofs.Common.{◌≡◌, ◌+◌, drop}
use Rattle.wy_core.specs.CoreSeen.{seen_block}
use Rattle.wy_vc_spec.specs.Sizes.{exprs_in_block as size}
use Rattle.wy_vc_tables.proofs.sizes.counts.+block_sizes.Given as goal

-- those passed and those left are all
abbrev pub invariant-exprs_in_block-loop-stmt : goal.invariant-exprs_in_block-loop-stmt
invariant-exprs_in_block-loop-stmt l = l.count + size (seen_block (drop l.stmt-index l.block)) ≡ size (seen_block l.block)
