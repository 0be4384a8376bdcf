use Rattle.std.proofs.Common.{nat_eq}
use Rattle.std.specs.HashSet.{contains}
use Rattle.wy_search_facts.proofs.IndexLemmas.{notes_one}
use Rattle.wy_search_facts.proofs.indices.note.Goals as goal

pub returns : goal.returns
returns c = notes_one (contains nat_eq c.args.noted.now) (contains nat_eq c.insert.new.self) c.args.i c.in_ok-insert.ensures.updates.0
