-- How statements end, and what the statements of a call rest on.
use Rattle.std.specs.Prelude.{ℕ, List, map, Option, Some}
use Rattle.wy_value.specs.declared.value.Value.{Value}
use Rattle.wy_core.specs.CoreSeen.{seen_exprs, seen_output, seen_ty}
use Rattle.wy_core.specs.CoreTree as tree
use Rattle.wy_core.specs.declared.declarations.Routine.{Routine}
use Rattle.wy_core.specs.declared.types.Ty.{Ty}
use Rattle.wy_sem.specs.Evaluation.{owed_member}
use Rattle.wy_sem.specs.Expressions.{Store}
use Rattle.wy_sem.specs.Statements as spec
use Rattle.wy_sem.specs.Statements.{Frame}
use Rattle.wy_eval_exprs.specs.Operands.{seen_option}
use Rattle.wy_eval_exprs.specs.Scopes.{store_of}
use Rattle.wy_eval_exprs.specs.Settings.{here}
use Rattle.wy_eval.specs.declared.exits.Exit.{Exit}
use Rattle.wy_eval.specs.declared.exits.Exit.TheVariants as exit

-- the exit that the code's answer stands for
abbrev pub seen_exit : Exit → spec.Exit
seen_exit (exit.Went s) = spec.Went (store_of s.items)
seen_exit (exit.Broke s) = spec.Broke (store_of s.items)
seen_exit (exit.Continued at s) = spec.Continued at (store_of s.items)
seen_exit (exit.Gave v) = spec.Gave (seen_option v)

-- a result that was given
abbrev pub gave : Option Value → spec.Exit
gave v = spec.Gave (seen_option v)

-- what the statements of a call rest on
abbrev pub frame : ℕ → List (tree.Alias ℕ) → Routine → List Ty → Store → Frame ℕ
frame limit types r ts entry = record {
  types = map seen_ty ts;
  member = owed_member here (Some limit) types;
  result = seen_output r.result;
  postconditions = seen_exprs r.postconditions;
  entry = entry;
}
