use Rattle.wy_parse_grammar.proofs.LooserReaders.{go-type, go-expr}
use Rattle.wy_parse_grammar.proofs.laws.more_levels_read_the_same.Goals as goal

pub returns : goal.returns
returns c = record {
  types = λ d e i ty j h r. (go-type 0 d e h).again i ty j r;
  expressions = λ s d e i a j h r. (go-expr 0 s d e h).again i a j r;
}
