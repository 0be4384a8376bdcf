use Rattle.std.proofs.Common.{◌≡◌, ◌++◌, drop, map}
use Rattle.wy_core.specs.CoreSeen.{seen_alias}
use Rattle.wy_eval.specs.Marks.{no_marks, rounds}
use Rattle.wy_eval.proofs.constrained.constrained_names.Given as goal

abbrev pub invariant-loop-alias : goal.invariant-loop-alias
invariant-loop-alias l = l.marks.items ++ no_marks (map seen_alias (drop l.alias-index l.types)) ≡ no_marks (map seen_alias l.types)

abbrev pub invariant-loop-round : goal.invariant-loop-round
invariant-loop-round l = l.marks.items ≡ rounds (map seen_alias l.types) l.round
