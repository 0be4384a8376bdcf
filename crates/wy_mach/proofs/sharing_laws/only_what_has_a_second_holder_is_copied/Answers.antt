use Rattle.wy_mach.proofs.sharing_laws_lemmas.CopyLemmas.{none_copied}
use Rattle.wy_mach.proofs.sharing_laws.only_what_has_a_second_holder_is_copied.Goals as goal

pub returns : goal.returns
returns c = record { none = none_copied }
