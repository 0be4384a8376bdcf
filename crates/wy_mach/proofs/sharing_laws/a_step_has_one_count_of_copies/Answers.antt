use Rattle.wy_mach.proofs.sharing_laws_lemmas.CopyLemmas.{copies_one}
use Rattle.wy_mach.proofs.sharing_laws.a_step_has_one_count_of_copies.Goals as goal

pub returns : goal.returns
returns c = record { one = copies_one }
