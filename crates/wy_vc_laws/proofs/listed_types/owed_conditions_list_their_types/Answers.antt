use Rattle.wy_vc_laws.proofs.listed_types_lemmas.ListedLemmas.{conditions_list}
use Rattle.wy_vc_laws.proofs.listed_types.owed_conditions_list_their_types.Goals as goal

pub returns : goal.returns
returns c = record { listed = conditions_list }
