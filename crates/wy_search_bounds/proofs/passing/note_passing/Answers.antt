use Rattle.std.specs.HashMap.{get}
use Rattle.wy_search_bounds.proofs.KnownLemmas.{notes_one}
use Rattle.wy_search_bounds.proofs.passing.note_passing.Goals as goal
use Rattle.wy_cong.specs.wy_check_nodes.Seen.{same_signed}

pub returns : goal.returns
returns c = notes_one (get same_signed c.args.table.now.places) (get same_signed c.insert.new.self) c.args.table.now.made.items c.push_form.new.made.items c.args.literal c.args.form c.in_ok-place.place c.in_ok-place.ensures.value c.in_ok-place.ensures.grows c.in_ok-insert.ensures.updates.0
