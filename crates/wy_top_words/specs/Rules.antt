-- The command line as `clap` builds it: what the law of its reading is proved over.
use Rattle.std.specs.Prelude.{List, [], ◌∷◌, Some, codes, true, false}
use Rattle.clap.specs.Walk.{Rule, Text}
use Rattle.clap.specs.Simple.{Shape, new_rule, new_shape}
use Rattle.clap.specs.declared.builder.action.ArgAction.TheVariants.{Set, Append, SetTrue}
use Rattle.clap.specs.declared.builder.value_parser.ValueParser.TheVariants as vp

abbrev pub valued : Text → Rule
valued name = record (new_rule name) {
  long = Some name;
  action = Some Set;
  range = Some (record { start_inclusive = 1; end_inclusive = 1 });
  parser = Some vp.String;
}

abbrev pub stats : Rule
stats = record (new_rule (codes "stats")) {
  long = Some (codes "stats");
  action = Some SetTrue;
  range = Some (record { start_inclusive = 0; end_inclusive = 0 });
  defaults = codes "false" ∷ [];
  missing = codes "true" ∷ [];
  parser = Some vp.Bool;
}

abbrev pub operands : Rule
operands = record (new_rule (codes "operands")) {
  index = Some 1;
  action = Some Append;
  range = Some (record { start_inclusive = 1; end_inclusive = 1 });
  parser = Some vp.String;
}

abbrev pub rules : List Rule
rules = valued (codes "budget") ∷ valued (codes "steps") ∷ valued (codes "workers") ∷ stats ∷ operands ∷ []

abbrev pub leaf_shape : Text → Shape
leaf_shape name = record (new_shape name) {
  rules = rules;
  no_binary_name = true;
  disable_help_flag = true;
  disable_help_subcommand = true;
  disable_version_flag = true;
  is_built = true;
}

abbrev pub top_shape : Shape
top_shape = record (new_shape (codes "wy")) {
  is_leaf = false;
  no_binary_name = true;
  disable_help_flag = true;
  disable_help_subcommand = true;
  disable_version_flag = true;
  is_built = true;
}

abbrev pub leaves : List Shape
leaves = leaf_shape (codes "check") ∷ leaf_shape (codes "run") ∷ leaf_shape (codes "prove") ∷ leaf_shape (codes "conds")
    ∷ leaf_shape (codes "fmt") ∷ leaf_shape (codes "dis") ∷ leaf_shape (codes "big") ∷ leaf_shape (codes "probe")
    ∷ leaf_shape (codes "again") ∷ []
