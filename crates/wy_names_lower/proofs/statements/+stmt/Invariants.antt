use Rattle.std.proofs.Common.{◌≡◌, ◌++◌, length, take, drop, map}
use Rattle.wy_ast.specs.SurfaceSeen.{seen_block}
use Rattle.wy_ast.specs.SurfaceTree.{cases_of}
use Rattle.wy_core.specs.CoreSeen.{seen_stmt}
use Rattle.wy_names_lower.specs.StmtsLowered.{in_stmts, in_cases}
use Rattle.wy_names_lower.specs.Uses.{seen_templates}
use Rattle.wy_names_lower.specs.SeenPairs.{seen_arm, seen_case}
use Rattle.wy_names_lower.proofs.statements.+stmt.Given as goal

-- what is left completes what is made
abbrev pub invariant-in_block-loop-statement : goal.invariant-in_block-loop-statement
invariant-in_block-loop-statement l = record {
  kept : take (length l.fn.scope) l.scope ≡ l.fn.scope;
  variables : (in_stmts (seen_templates l.templates) l.scope l.variables (seen_block (drop l.statement-index l.block))).0 ≡ (in_stmts (seen_templates l.templates) l.fn.scope l.fn.variables (seen_block l.block)).0;
  value : map seen_stmt l.into ++ (in_stmts (seen_templates l.templates) l.scope l.variables (seen_block (drop l.statement-index l.block))).1 ≡ (in_stmts (seen_templates l.templates) l.fn.scope l.fn.variables (seen_block l.block)).1;
}

abbrev pub invariant-in_cases-loop-case : goal.invariant-in_cases-loop-case
invariant-in_cases-loop-case l = record {
  scope : l.scope ≡ l.fn.scope;
  variables : (in_cases (seen_templates l.templates) l.fn.scope l.variables l.at l.variable (cases_of (map seen_case (drop l.case-index l.cases)))).0 ≡ (in_cases (seen_templates l.templates) l.fn.scope l.fn.variables l.at l.variable (cases_of (map seen_case l.cases))).0;
  value : map seen_arm l.arms ++ (in_cases (seen_templates l.templates) l.fn.scope l.variables l.at l.variable (cases_of (map seen_case (drop l.case-index l.cases)))).1 ≡ (in_cases (seen_templates l.templates) l.fn.scope l.fn.variables l.at l.variable (cases_of (map seen_case l.cases))).1;
}
