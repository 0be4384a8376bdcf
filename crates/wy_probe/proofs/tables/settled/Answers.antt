use Rattle.std.proofs.Common.{◌≡◌, ◌∙◌, ◌+◌, ap, length, suc, sym, arith}
use Rattle.wy_lemmas.proofs.Options.{if_ok}
use Rattle.wy_types.specs.Names.{types_of}
use Rattle.wy_probe.specs.Tables.{next_table, rounds, table_of, tables_of}
use Rattle.wy_probe.proofs.TableLemmas.{settled_at}
use Rattle.wy_probe.proofs.tables.settled.Goals as goal

pub loop-round-preserved : goal.loop-round-preserved
loop-round-preserved c =
    let names = types_of c.args.names.now in
    let lower = tables_of c.args.lower.now in
    let k = c.loop-round.round in
    let next : suc k ≡ k + 1 = omega arith in
    c.in_ok-next.ensures.value ∙ (ap (λ l. next_table names lower (table_of l)) c.as_slice.ensures ∙ (ap (next_table names lower) c.loop-round.invariant ∙ ap (rounds names lower) next))

pub returns-then-same_tables : goal.returns-then-same_tables
returns-then-same_tables c =
    let names = types_of c.args.names.now in
    let lower = tables_of c.args.lower.now in
    let table = c.loop-round.table in
    let same : table ≡ c.in_ok-next.next = sym c.as_slice-in-loop-round.ensures ∙ (c.same_tables.ensures.value c.if-same_tables.true ∙ c.as_slice-in-loop-round-2.ensures) in
    let stepped : table_of c.in_ok-next.next ≡ next_table names lower (table_of table) = c.in_ok-next.ensures.value ∙ ap (λ l. next_table names lower (table_of l)) c.as_slice.ensures in
    record { value = settled_at names lower c.loop-round.round (suc (length c.args.names.now.declared)) (table_of table) (omega arith) c.loop-round.invariant (sym stepped ∙ ap table_of (sym same)) }

pub returns : goal.returns
returns c =
    let names = types_of c.args.names.now in
    let lower = tables_of c.args.lower.now in
    let all : c.loop-round.round ≡ length c.args.names.now.declared = omega arith in
    record {
      value = if_ok c.next_table-2.result (λ made. table_of made ≡ next_table names lower (table_of c.as_slice-2.result.now)) (λ made. table_of made ≡ rounds names lower (suc (length c.args.names.now.declared)))
          (λ made h. h ∙ (ap (λ l. next_table names lower (table_of l)) c.as_slice-2.ensures ∙ (ap (next_table names lower) c.loop-round.invariant ∙ ap (λ k. rounds names lower (suc k)) all))) c.next_table-2.ensures.value;
    }
