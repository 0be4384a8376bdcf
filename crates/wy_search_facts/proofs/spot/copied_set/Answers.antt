use Rattle.wy_search_facts.proofs.CopyLemmas.{clones_are}
use Rattle.wy_search_facts.proofs.spot.copied_set.Goals as goal

pub returns : goal.returns
returns c = clones_are c.args.signed.now.keys c.in_ok-clone.field-0.keys c.in_ok-clone.ensures.cases
