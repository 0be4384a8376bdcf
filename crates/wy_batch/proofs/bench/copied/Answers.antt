use Rattle.std.proofs.Common.{nat_eq}
use Rattle.std.specs.HashMap.{get}
use Rattle.wy_batch.proofs.BenchLemmas.{carried_stays, copied_stays}
use Rattle.wy_search.specs.wy_search_bounds.wy_facts.Seen.{Stays}
use Rattle.wy_term.proofs.CopyingLemmas.{AreCopied_put}
use Rattle.wy_term.specs.Nodes.{tree_at}
use Rattle.wy_term.specs.Numbers.{IsAt}
use Rattle.wy_batch.proofs.bench.copied.Goals as goal

pub returns-clause-bench : goal.returns-clause-bench
returns-clause-bench c =
    let old = c.args.bench.now in
    let new = c.copy.new.self in
    let stays : Stays old.terms new = record { grows = c.in_ok-image.ensures.grows; trees = c.in_ok-image.ensures.kept } in
    let at : IsAt new c.in_ok-image.image (tree_at c.args.from.now c.args.t) = record { within = c.in_ok-image.ensures.within; is = c.in_ok-image.ensures.tree } in
    record {
      copied = AreCopied_put c.args.from.now new (get nat_eq old.images) (get nat_eq c.note.new.images) c.args.t c.in_ok-image.image c.requires.term at c.in_ok-note.ensures
          (copied_stays c.args.from.now old.terms new (get nat_eq old.images) stays c.requires.bench.copied);
      carried = carried_stays old.terms new old.carried stays c.requires.bench.carried;
    }
