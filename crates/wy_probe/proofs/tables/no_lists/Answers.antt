use Rattle.std.proofs.Common.{◌∙◌, ◌∷◌, [], ap, map, refl}
use Rattle.wy_types.specs.Names.{seen_declared}
use Rattle.wy_probe.specs.Tables.{data_in, no_lists, table_of}
use Rattle.wy_probe.proofs.ListLemmas.{ends, mapped, turn}
use Rattle.wy_probe.proofs.tables.no_lists.Goals as goal

pub loop-declared-preserved : goal.loop-declared-preserved
loop-declared-preserved c =
    let types = c.as_slice-types.result.now in
    let table = c.loop-declared.table in
    turn (λ ys. no_lists (map seen_declared ys)) types c.loop-declared.declared-index c.declared-item.result (table_of table) (table_of c.push.new.self) (no_lists (map seen_declared types)) ([] ∷ []) c.loop-declared-test.true c.declared-item.is
    (mapped data_in table c.push.new.self c.new.result [] c.in_ok-push.ensures.ok (ap data_in c.new.ensures)) (λ ys. refl) c.loop-declared.invariant

pub returns : goal.returns
returns c =
    let types = c.as_slice-types.result.now in
    record {
      value = ends (λ ys. no_lists (map seen_declared ys)) types c.loop-declared.declared-index (table_of c.loop-declared.table) (no_lists (map seen_declared types)) c.loop-declared-test.false refl c.loop-declared.invariant
          ∙ ap (λ l. no_lists (map seen_declared l)) c.as_slice-types.ensures;
    }
