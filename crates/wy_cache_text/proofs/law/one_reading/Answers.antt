use Rattle.wy_cache_text.proofs.FileLemmas.{read_once}
use Rattle.wy_cache_text.proofs.law.one_reading.Goals as goal

pub returns : goal.returns
returns c = record { once = read_once }
