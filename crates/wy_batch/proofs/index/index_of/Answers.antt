use Rattle.std.proofs.Common.{◌≡◌, ◌-◌, length, nat_eq, refl, rules, arith}
use Rattle.std.specs.HashMap.{get}
use Rattle.wy_batch.proofs.IndexLemmas.{index_begins, index_next}
use Rattle.wy_batch.proofs.index.index_of.Goals as goal

pub back-init : goal.back-init
back-init c =
    let whole : c.len-place.result ≡ length c.args.certs.now.list.items = search rules in
    record {
      within = omega (arith, whole);
      found = index_begins c.args.certs.now.list.items c.len-place.result (get nat_eq c.new-places.result) (omega (arith, whole)) (λ q. rw c.new-places.ensures.empty refl);
    }

pub back-preserved : goal.back-preserved
back-preserved c =
    let items = c.args.certs.now.list.items in
    let some = c.back-test.true in
    let within = c.back.invariant.within in
    record {
      within = omega (arith, within);
      found = index_next items c.back.place (c.back.place - 1) c.index.result.now (get nat_eq c.back.places) (get nat_eq c.insert.new.self) (omega (arith, some)) (omega (arith, some, within)) c.index.ensures c.back.invariant.found c.in_ok-insert.ensures.updates.0;
    }
