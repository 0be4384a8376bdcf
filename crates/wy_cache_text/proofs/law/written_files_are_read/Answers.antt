use Rattle.wy_cache_text.proofs.RereadLemmas.{reads_what_is_written}
use Rattle.wy_cache_text.proofs.law.written_files_are_read.Goals as goal

pub returns : goal.returns
returns c = record { read = reads_what_is_written }
