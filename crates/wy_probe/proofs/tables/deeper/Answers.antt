use Rattle.std.proofs.Common.{◌≡◌, ◌∙◌, ◌∷◌, ◌++◌, [], ap, length, suc, sym}
use Rattle.std.proofs.lemmas.List.{length-map}
use Rattle.wy_types.specs.Names.{seen_declared, types_of}
use Rattle.wy_probe.specs.Tables.{rounds, table_of, tables_of}
use Rattle.wy_probe.proofs.tables.deeper.Goals as goal

pub returns : goal.returns
returns c =
    let names = types_of c.args.names.now in
    let declared = c.args.names.now.declared in
    let settled : table_of c.in_ok-table.table ≡ rounds names (tables_of c.args.lower) (suc (length names)) =
    c.in_ok-table.ensures.value ∙ (ap (λ l. rounds names (tables_of l) (suc (length declared))) c.as_slice.ensures ∙ ap (λ k. rounds names (tables_of c.args.lower) (suc k)) (sym (length-map declared seen_declared))) in
    record {
      value = ap tables_of (c.in_ok-append.ensures ∙ ap (λ l. l ++ c.args.lower) (c.in_ok-push.ensures.ok ∙ ap (λ l. l ++ c.in_ok-table.table ∷ []) c.new-made.ensures))
          ∙ ap (λ t. t ∷ tables_of c.args.lower) settled;
    }
