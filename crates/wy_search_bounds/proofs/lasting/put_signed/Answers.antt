use Rattle.std.proofs.lemmas.Result.{on_ok_weaker}
use Rattle.wy_search_bounds.proofs.KnownLemmas.{put_holding, put_denied}
use Rattle.wy_search_bounds.proofs.lasting.put_signed.Goals as goal

pub returns-then-literal-clause-places : goal.returns-then-literal-clause-places
returns-then-literal-clause-places c =
    on_ok_weaker c.put.result (put_holding c.args.literal c.args.place c.args.table.now.holding.items c.put.new.places.items c.args.table.now.denied.items c.if-literal.true) c.put.ensures

pub returns-else-literal-clause-places : goal.returns-else-literal-clause-places
returns-else-literal-clause-places c =
    on_ok_weaker c.put-else-literal.result (put_denied c.args.literal c.args.place c.args.table.now.denied.items c.put-else-literal.new.places.items c.args.table.now.holding.items c.if-literal.false) c.put-else-literal.ensures
