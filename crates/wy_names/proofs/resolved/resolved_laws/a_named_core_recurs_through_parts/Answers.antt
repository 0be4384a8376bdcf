use Rattle.wy_names.proofs.resolved_lemmas.RecursionLemmas.{named_recurs_well}
use Rattle.wy_names.proofs.resolved.resolved_laws.a_named_core_recurs_through_parts.Goals as goal

pub returns : goal.returns
returns c = record { recursion = named_recurs_well }
