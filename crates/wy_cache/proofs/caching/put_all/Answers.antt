use Rattle.std.proofs.Common.{rules, arith, ◌≡◌, ◌<◌, ◌≤◌, ◌+◌, ◌-◌, ◌++◌, [], ℕ, List, true, codes, length, map, take, drop, sym, subst}
use Rattle.std.specs.Vec.{vec_len}
use Rattle.std.proofs.lemmas.List.{length-map}
use Rattle.wy_term.specs.Condition.{condition_of}
use Rattle.wy_cert.specs.declared.step.Cert.{Cert}
use Rattle.wy_cert.specs.Steps.{Written, steps_of, certificates_of}
use Rattle.wy_cert.specs.writing.Text.{texts, certificate_text}
use Rattle.wy_check.proofs.StayLemmas.{item_of}
use Rattle.wy_cache_text.specs.Written.{Row}
use Rattle.wy_cache_text.specs.SoFar.{IsSoFar}
use Rattle.wy_cache.specs.Cached.{rows_of}
use Rattle.wy_cache.proofs.KeptLemmas.{within_at}
use Rattle.wy_cache.proofs.CachedLemmas.{may_stand, stands_at, seen_at, got, rows_next, all_behind}
use Rattle.wy_cache.proofs.caching.put_all.Goals as goal

pub returns-then-is_full : goal.returns-then-is_full
returns-then-is_full c =
    let full : c.loop-number.writer.full ≡ true = search rules in
    record { value = all_behind (map (condition_of c.args.conds.now.terms) c.args.conds.now.list.items) (certificates_of c.args.certs.now) c.loop-number.number-index c.loop-number.writer full c.loop-number.invariant.written }

pub first_steps-requires : goal.first_steps-requires
first_steps-requires c =
    let items = c.args.certs.now.list.items in
    let certs = certificates_of c.args.certs.now in
    let pair : ℕ × Cert → ℕ × List Written = λ (p : ℕ × Cert). (p.0, steps_of p.1) in
    let i = c.loop-number.number-index in
    let e = c.loop-number-item.result in
    let item = item_of items c.deref-number-items.result.now i e c.deref-number-items.ensures.value c.loop-number-test.true c.loop-number-item.is in
    let many = length-map items pair in
    let lt : i < length certs = omega (arith, item.0, many) in
    let at = seen_at pair items i e item.0 item.1 in
    let may = may_stand (length c.args.conds.now.list.items) [] certs i (pair e) c.requires.writable lt at in
    record {
      rest = texts certificate_text (drop (i + 1) certs) ++ codes "end\n";
      is = stands_at certs i (pair e) c.loop-number.rest.now lt at c.loop-number.invariant.rest;
      place = may.place;
      writable = may.writable;
    }

pub overflow_sub-number : goal.overflow_sub-number
overflow_sub-number c =
    let items = c.args.certs.now.list.items in
    let certs = certificates_of c.args.certs.now in
    let pair : ℕ × Cert → ℕ × List Written = λ (p : ℕ × Cert). (p.0, steps_of p.1) in
    let i = c.loop-number.number-index in
    let e = c.loop-number-item.result in
    let item = item_of items c.deref-number-items.result.now i e c.deref-number-items.ensures.value c.loop-number-test.true c.loop-number-item.is in
    let many = length-map items pair in
    let lt : i < length certs = omega (arith, item.0, many) in
    let may = may_stand (length c.args.conds.now.list.items) [] certs i (pair e) c.requires.writable lt (seen_at pair items i e item.0 item.1) in
    let some : 0 < e.0 = may.place.0 in
    omega (arith, some)

pub index-cond-requires : goal.index-cond-requires
index-cond-requires c =
    let items = c.args.certs.now.list.items in
    let certs = certificates_of c.args.certs.now in
    let pair : ℕ × Cert → ℕ × List Written = λ (p : ℕ × Cert). (p.0, steps_of p.1) in
    let i = c.loop-number.number-index in
    let e = c.loop-number-item.result in
    let item = item_of items c.deref-number-items.result.now i e c.deref-number-items.ensures.value c.loop-number-test.true c.loop-number-item.is in
    let many = length-map items pair in
    let lt : i < length certs = omega (arith, item.0, many) in
    let may = may_stand (length c.args.conds.now.list.items) [] certs i (pair e) c.requires.writable lt (seen_at pair items i e item.0 item.1) in
    let some : 0 < e.0 = may.place.0 in
    let within : e.0 ≤ length c.args.conds.now.list.items = may.within in
    let whole : vec_len c.args.conds.now.list ≡ length c.args.conds.now.list.items = search rules in
    omega (arith, some, within, whole)

pub put_one-requires-clause-cond : goal.put_one-requires-clause-cond
put_one-requires-clause-cond c =
    let items = c.args.certs.now.list.items in
    let certs = certificates_of c.args.certs.now in
    let pair : ℕ × Cert → ℕ × List Written = λ (p : ℕ × Cert). (p.0, steps_of p.1) in
    let i = c.loop-number.number-index in
    let e = c.loop-number-item.result in
    let item = item_of items c.deref-number-items.result.now i e c.deref-number-items.ensures.value c.loop-number-test.true c.loop-number-item.is in
    let many = length-map items pair in
    let lt : i < length certs = omega (arith, item.0, many) in
    let may = may_stand (length c.args.conds.now.list.items) [] certs i (pair e) c.requires.writable lt (seen_at pair items i e item.0 item.1) in
    let some : 0 < e.0 = may.place.0 in
    let within : e.0 ≤ length c.args.conds.now.list.items = may.within in
    within_at (length c.args.conds.now.terms) c.args.conds.now.list.items (e.0 - 1) c.index-cond.result.now c.requires.conds (omega (arith, some, within)) c.index-cond.ensures

pub loop-number-preserved : goal.loop-number-preserved
loop-number-preserved c =
    let items = c.args.certs.now.list.items in
    let certs = certificates_of c.args.certs.now in
    let conds = c.args.conds.now.list.items in
    let see = condition_of c.args.conds.now.terms in
    let pair : ℕ × Cert → ℕ × List Written = λ (p : ℕ × Cert). (p.0, steps_of p.1) in
    let i = c.loop-number.number-index in
    let e = c.loop-number-item.result in
    let cond = c.index-cond.result.now in
    let item = item_of items c.deref-number-items.result.now i e c.deref-number-items.ensures.value c.loop-number-test.true c.loop-number-item.is in
    let many = length-map items pair in
    let lt : i < length certs = omega (arith, item.0, many) in
    let at = seen_at pair items i e item.0 item.1 in
    let may = may_stand (length conds) [] certs i (pair e) c.requires.writable lt at in
    let some : 0 < e.0 = may.place.0 in
    let within : e.0 ≤ length conds = may.within in
    let here = got see conds (e.0 - 1) cond (omega (arith, some, within)) c.index-cond.ensures in
    record {
      rest = c.first_steps.ensures.rest (texts certificate_text (drop (i + 1) certs) ++ codes "end\n") (stands_at certs i (pair e) c.loop-number.rest.now lt at c.loop-number.invariant.rest);
      written = subst (λ (rows : List Row). IsSoFar rows c.put_one.new.writer) (sym (rows_next (map see conds) certs i (pair e) (see cond) lt at here)) (c.in_ok-put_one.ensures.value (rows_of (map see conds) (take i certs)) c.loop-number.invariant.written);
      shown = c.in_ok-put_one.ensures.shown;
    }
