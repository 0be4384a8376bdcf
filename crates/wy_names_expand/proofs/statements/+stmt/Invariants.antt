use Rattle.std.proofs.Common.{◌≡◌, drop, map}
use Rattle.wy_ast.specs.SurfaceSeen.{seen_block}
use Rattle.wy_ast.specs.SurfaceTree.{cases_of}
use Rattle.wy_names_expand.specs.Sizes.{known}
use Rattle.wy_names_expand.specs.Wholes.{in_stmts, in_cases, seen_case}
use Rattle.wy_names_expand.proofs.statements.+stmt.Given as goal

-- what is left completes what is found
abbrev pub invariant-in_block-loop-stmt : goal.invariant-in_block-loop-stmt
invariant-in_block-loop-stmt l = in_stmts (known l.scope l.params l.expansions) (seen_block (drop l.stmt-index l.block)) l.found ≡ in_stmts (known l.scope l.params l.expansions) (seen_block l.block) l.fn.found

abbrev pub invariant-in_cases-loop-case : goal.invariant-in_cases-loop-case
invariant-in_cases-loop-case l = in_cases (known l.scope l.params l.expansions) l.at (cases_of (map seen_case (drop l.case-index l.cases))) l.found ≡ in_cases (known l.scope l.params l.expansions) l.at (cases_of (map seen_case l.cases)) l.fn.found
