use Rattle.wy_lex.proofs.Refusals.{spells, reads, fault, exact}
use Rattle.wy_lex.proofs.PlaceLemmas.{valid, bad_char}
use Rattle.wy_lex.proofs.ListsMade.{ended}
use Rattle.wy_lex.proofs.FirstFault.{first}
use Rattle.wy_lex.proofs.source.tokens.Goals as goal

pub returns : goal.returns
returns c = record {
  spells = spells c.args.bytes.now c.read.result c.read.ensures.value;
  ended = ended c.args.bytes.now c.read.result c.read.ensures.value;
  reads = reads c.args.bytes.now c.read.result c.read.ensures.value;
  fault = fault c.args.bytes.now c.read.result c.read.ensures.value;
  first = first c.args.bytes.now c.read.result c.read.ensures.value;
  exact = exact c.args.bytes.now c.read.result c.read.ensures.value;
  utf8 = valid c.args.bytes.now c.read.result c.read.ensures.value;
  bad_char = bad_char c.args.bytes.now c.read.result c.read.ensures.value;
}
