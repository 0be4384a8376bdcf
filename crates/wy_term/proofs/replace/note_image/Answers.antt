use Rattle.std.proofs.Common.{nat_eq}
use Rattle.std.specs.HashMap.{get}
use Rattle.wy_term.proofs.ReplacingLemmas.{noted_image}
use Rattle.wy_term.proofs.replace.note_image.Goals as goal

pub returns : goal.returns
returns c = record { made = noted_image c.args._terms.now c.args._pairs.now _ _ c.args.t c.args.r c.note.result c.requires.within c.requires.image c.requires.made c.note.ensures }
