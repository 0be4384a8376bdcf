use Rattle.wy_mach_run.proofs.ExclusionLemmas.{have_one_start, have_one_refusal, start_or_refuse}
use Rattle.wy_mach_run.proofs.laws.at_most_one_start.Goals as goal

pub returns : goal.returns
returns c = record { start = have_one_start; refusal = have_one_refusal; apart = start_or_refuse }
