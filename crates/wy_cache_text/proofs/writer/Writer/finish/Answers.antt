use Rattle.wy_cache_text.proofs.WrittenLemmas.{finished}
use Rattle.wy_cache_text.proofs.writer.Writer.finish.Goals as goal

pub returns : goal.returns
returns c = record { value = λ rows so_far. finished rows c.args.self c.extend_from_slice.new.self.items c.in_ok-extend_from_slice.ensures.items so_far }
