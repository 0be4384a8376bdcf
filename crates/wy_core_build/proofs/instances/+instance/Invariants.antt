use Rattle.std.proofs.Common.{◌≡◌, ◌++◌, drop}
use Rattle.wy_core.specs.CoreSeen.{seen_exprs, seen_fields}
use Rattle.wy_core.specs.CoreTree.{exprs_of}
use Rattle.wy_core_build.specs.Instances.{instances, instance_fields}
use Rattle.wy_core_build.proofs.ListLemmas.{exprs_behind, fields_behind}
use Rattle.wy_core_build.proofs.instances.+instance.Given as goal

-- what is left completes what is made
abbrev pub invariant-instances-loop-part : goal.invariant-instances-loop-part
invariant-instances-loop-part l = exprs_behind l.made (instances l.at (seen_exprs l.args) l.base (exprs_of (seen_exprs (drop l.part-index l.parts)))) ≡ instances l.at (seen_exprs l.args) l.base (exprs_of (seen_exprs l.parts))

abbrev pub invariant-instance_fields-loop-field : goal.invariant-instance_fields-loop-field
invariant-instance_fields-loop-field l = fields_behind l.made (instance_fields l.at (seen_exprs l.args) l.base (seen_fields (drop l.field-index l.fields))) ≡ instance_fields l.at (seen_exprs l.args) l.base (seen_fields l.fields)
