use Rattle.std.proofs.Common.{◌≡◌, ◌++◌, drop, map}
use Rattle.wy_types.specs.Names.{seen_declared}
use Rattle.wy_types.specs.Numbering as numbering
use Rattle.wy_types.proofs.question.put_declared.Given as goal

abbrev pub invariant-loop-one : goal.invariant-loop-one
invariant-loop-one l = record {
  nodes : (numbering.put_declared l.nodes (map seen_declared (drop l.one-index l.declared))).0 ≡ (numbering.put_declared l.fn.nodes (map seen_declared l.declared)).0;
  made : l.made ++ (numbering.put_declared l.nodes (map seen_declared (drop l.one-index l.declared))).1 ≡ (numbering.put_declared l.fn.nodes (map seen_declared l.declared)).1;
}
