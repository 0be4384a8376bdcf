use Rattle.std.proofs.Common.{◌≡◌, drop, map}
use Rattle.wy_ast.specs.SurfaceSeen.{seen_block}
use Rattle.wy_ast.specs.SurfaceTree.{cases_of}
use Rattle.wy_names_recursion.specs.StmtNames.{in_stmts, in_cases, seen_case, with_stmts}
use Rattle.wy_names_recursion.proofs.statements.+stmt.Given as goal

-- what is left completes what is found
abbrev pub invariant-in_block-loop-stmt : goal.invariant-in_block-loop-stmt
invariant-in_block-loop-stmt l = record {
  scope : with_stmts l.scope (seen_block (drop l.stmt-index l.block)) ≡ with_stmts l.fn.scope (seen_block l.block);
  value : in_stmts l.context l.scope (seen_block (drop l.stmt-index l.block)) l.found ≡ in_stmts l.context l.fn.scope (seen_block l.block) l.fn.found;
}

abbrev pub invariant-in_cases-loop-case : goal.invariant-in_cases-loop-case
invariant-in_cases-loop-case l = record {
  scope : l.scope ≡ l.fn.scope;
  value : in_cases l.context l.fn.scope (cases_of (map seen_case (drop l.case-index l.cases))) l.found ≡ in_cases l.context l.fn.scope (cases_of (map seen_case l.cases)) l.fn.found;
}
