use Rattle.std.proofs.Common.{◌∙◌, ◌∷◌, [], ap, map, refl}
use Rattle.wy_core.specs.CoreSeen.{seen_ty}
use Rattle.wy_types.specs.Names.{seen_declared, types_of}
use Rattle.wy_probe.specs.Tables.{by_tables, data_in, table_of, tables_for, tables_of}
use Rattle.wy_probe.proofs.ListLemmas.{ends, mapped, turn}
use Rattle.wy_probe.proofs.tables.next_table.Goals as goal

pub loop-declared-preserved : goal.loop-declared-preserved
loop-declared-preserved c =
    let types = c.as_slice-types.result.now in
    let names = types_of c.args.names.now in
    let lower = tables_of c.args.lower.now in
    let table = table_of c.args.table.now in
    let x = c.declared-item.result in
    let next = c.loop-declared.next in
    turn (λ ys. tables_for (map seen_declared ys) names lower table) types c.loop-declared.declared-index x (table_of next) (table_of c.push.new.self) (tables_for (map seen_declared types) names lower table) (by_tables names table lower (seen_ty x.ty) ∷ []) c.loop-declared-test.true c.declared-item.is
    (mapped data_in next c.push.new.self c.in_ok-values.values (by_tables names table lower (seen_ty x.ty)) c.in_ok-push.ensures.ok c.in_ok-values.ensures.value) (λ ys. refl) c.loop-declared.invariant

pub returns : goal.returns
returns c =
    let types = c.as_slice-types.result.now in
    let names = types_of c.args.names.now in
    let lower = tables_of c.args.lower.now in
    let table = table_of c.args.table.now in
    record {
      value = ends (λ ys. tables_for (map seen_declared ys) names lower table) types c.loop-declared.declared-index (table_of c.loop-declared.next) (tables_for (map seen_declared types) names lower table) c.loop-declared-test.false refl c.loop-declared.invariant
          ∙ ap (λ l. tables_for (map seen_declared l) names lower table) c.as_slice-types.ensures;
    }
