use Rattle.std.proofs.Common.{arith, ◌-◌}
use Rattle.wy_cache_text.proofs.FoundLemmas.{found_next}
use Rattle.wy_cache_text.proofs.finding.table_of.Goals as goal

pub back-preserved : goal.back-preserved
back-preserved c =
    let items = c.args.cache.now.entries.items in
    let some = c.back-test.true in
    let within = c.back.invariant.within in
    record {
      within = omega (arith, within);
      found = found_next items c.back.place (c.back.place - 1) c.index-entry.result.now c.as_slice.result c.as_slice-in-back.result c.back.steps c.insert.new.self (omega (arith, some)) (omega (arith, some, within)) c.index-entry.ensures
          c.as_slice.ensures.value c.as_slice-in-back.ensures.value c.back.invariant.found c.in_ok-insert.ensures.updates;
    }
