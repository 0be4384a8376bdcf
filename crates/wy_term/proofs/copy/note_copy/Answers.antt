use Rattle.std.proofs.Common.{nat_eq}
use Rattle.std.specs.HashMap.{get}
use Rattle.wy_term.proofs.CopyingLemmas.{noted_ok}
use Rattle.wy_term.proofs.copy.note_copy.Goals as goal

pub returns : goal.returns
returns c = record { made = noted_ok c.args._from.now c.args._terms.now _ _ c.args.t c.args.r c.note.result c.requires.within c.requires.image c.requires.made c.note.ensures }
