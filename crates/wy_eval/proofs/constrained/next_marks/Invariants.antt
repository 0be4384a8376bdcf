use Rattle.std.proofs.Common.{◌≡◌, ◌++◌, drop, map}
use Rattle.wy_core.specs.CoreSeen.{seen_alias}
use Rattle.wy_eval.specs.Marks.{marks_after}
use Rattle.wy_eval.proofs.constrained.next_marks.Given as goal

abbrev pub invariant-loop-alias : goal.invariant-loop-alias
invariant-loop-alias l = l.next.items ++ marks_after (map seen_alias (drop l.alias-index l.types)) l.marks ≡ marks_after (map seen_alias l.types) l.marks
