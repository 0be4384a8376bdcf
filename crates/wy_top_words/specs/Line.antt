-- What `clap` is told of the command line.
use Rattle.std.specs.Prelude.{Some, codes, true}
use Rattle.clap.specs.Walk.{Rule, Text}
use Rattle.clap.specs.Simple.{App, new_app, new_rule, on_top, with_rule, with_subcommand}
use Rattle.clap.specs.declared.builder.action.ArgAction.TheVariants.{Set, Append, SetTrue}

abbrev pub valued_rule : Text → Rule
valued_rule name = record (new_rule name) { long = Some name; action = Some Set }

abbrev pub stats_rule : Rule
stats_rule = record (new_rule (codes "stats")) { long = Some (codes "stats"); action = Some SetTrue }

abbrev pub operands_rule : Rule
operands_rule = record (new_rule (codes "operands")) { action = Some Append }

abbrev pub leaf_app : Text → App
leaf_app name = with_rule (with_rule (with_rule (with_rule (with_rule (new_app name) (valued_rule (codes "budget")))
    (valued_rule (codes "steps"))) (valued_rule (codes "workers"))) stats_rule) operands_rule

abbrev pub bare_app : App
bare_app = on_top (λ s. record s { no_binary_name = true; disable_help_flag = true; disable_help_subcommand = true; disable_version_flag = true })
    (new_app (codes "wy"))

abbrev pub with_leaf : App → Text → App
with_leaf a name = with_subcommand a (leaf_app name).top

abbrev pub app : App
app = with_leaf (with_leaf (with_leaf (with_leaf (with_leaf (with_leaf (with_leaf (with_leaf (with_leaf bare_app (codes "check")) (codes "run")) (codes "prove"))
    (codes "conds")) (codes "fmt")) (codes "dis")) (codes "big")) (codes "probe")) (codes "again")
