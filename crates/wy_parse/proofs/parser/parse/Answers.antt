use Rattle.wy_parse.proofs.ParseRefusals.{spells, reads, fault, exact, high, leaves}
use Rattle.wy_parse.proofs.parser.parse.Goals as goal

pub returns : goal.returns
returns c = record {
  spells = spells c.args.tokens.now c.read.result c.read.ensures.value;
  reads = reads c.args.tokens.now c.read.result c.read.ensures.value;
  fault = fault c.args.tokens.now c.read.result c.read.ensures.value;
  exact = exact c.args.tokens.now c.read.result c.read.ensures.value;
  high = high c.args.tokens.now c.read.result c.read.ensures.value;
  leaves = leaves c.args.tokens.now c.read.result c.read.ensures.value;
}
