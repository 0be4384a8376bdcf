-- The values of the code as texts and numbers.
use Rattle.std.specs.Prelude.{List, map, option_map, String, string_bytes}
use Rattle.std.specs.Borrow.{Bor}
use Rattle.std.specs.declared.alloc.Global.{Global}
use Rattle.wy_top_words.specs.CommandLine.{Asked, Given, Order, Text, with_workers, check, run, prove, conds, fmt, dis, big, probe, again}
use Rattle.wy_top_words.specs.declared.command.Ordered.{Ordered}
use Rattle.wy_top_words.specs.declared.command.Words.{Words}
use Rattle.wy_top_words.specs.declared.command.Words.TheVariants as words
use Rattle.wy_top_words.specs.declared.command.Given.{Given as Slices}

abbrev pub text_in : Bor Text → Text
text_in s = s.now

abbrev pub texts_in : List (Bor Text) → List Text
texts_in = map (λ s. s.now)

-- the bytes of each word
abbrev pub words_in : List (String Global) → List Text
words_in = map (λ w. string_bytes w)

abbrev pub given_in : Slices → Given
given_in g = record {
  operands = map (λ s. s.now) g.operands.now;
  budget = option_map (λ s. s.now) g.budget;
  steps = option_map (λ s. s.now) g.steps;
  workers = option_map (λ s. s.now) g.workers;
  stats = g.stats;
}

abbrev pub asked_in : Words → Asked
asked_in (words.Check source certificates budget) = check source.now certificates.now budget
asked_in (words.Run source certificates name arguments budget steps stats) =
    run source.now certificates.now name.now arguments.now budget steps stats
asked_in (words.Prove source output budget) = prove source.now output.now budget
asked_in (words.Conds source) = conds source.now
asked_in (words.Fmt source) = fmt source.now
asked_in (words.Dis source) = dis source.now
asked_in (words.Big functions seed budget steps) = big functions seed budget steps
asked_in (words.Probe source name tuples ticks) = probe source.now name.now tuples ticks
asked_in (words.Again source cache budget) = again source.now cache.now budget

-- the command, with the number of its workers
abbrev pub order_in : Ordered → Order
order_in o = with_workers (asked_in o.words) o.workers
