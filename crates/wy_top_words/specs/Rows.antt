-- What `clap` found, as what the words give.
use Rattle.std.specs.Prelude.{Bool, false, List, Option, Some, None, bytes_eq, codes, option_and_then}
use Rattle.std.specs.Option.{option_map_or}
use Rattle.clap.specs.Walk.{Row, all_of, first_of}
use Rattle.wy_top_words.specs.CommandLine.{Given, Order, Text, kind_named, ordered}
use Rattle.wy_top_words.specs.declared.command.Kind.{Kind}

abbrev pub is_flagged : List Row → Bool
is_flagged rows = option_map_or (λ t. bytes_eq t (codes "true")) (first_of (codes "stats") rows) false

abbrev pub given_with : List Row → List Text → Given
given_with rows operands = record {
  operands = operands;
  budget = first_of (codes "budget") rows;
  steps = first_of (codes "steps") rows;
  workers = first_of (codes "workers") rows;
  stats = is_flagged rows;
}

abbrev pub asked_with : Kind → List Row → Option Order
asked_with k rows = option_and_then (λ operands. ordered k (given_with rows operands)) (all_of (codes "operands") rows)

abbrev pub asked_by : Option (Text × List Row) → Option Order
asked_by None = None
asked_by (Some p) = option_and_then (λ k. asked_with k p.1) (kind_named p.0)
