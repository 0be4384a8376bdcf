use Rattle.std.proofs.Common.{◌≡◌, ◌∙◌, ◌∷◌, [], ap, length, map, refl, suc, sym}
use Rattle.std.proofs.lemmas.List.{length-map}
use Rattle.wy_core.specs.CoreSeen.{seen_param, seen_ty}
use Rattle.wy_lemmas.proofs.Equations.{both_same}
use Rattle.wy_types.specs.Names.{seen_declared, types_of}
use Rattle.wy_probe.specs.Candidates.{candidates, lists_of}
use Rattle.wy_probe.specs.Tables.{by_tables, data_in, deeper, rounds, table_of, tables_of}
use Rattle.wy_probe.proofs.ListLemmas.{ends, mapped, turn}
use Rattle.wy_probe.proofs.TableLemmas.{candidates_by_tables, down}
use Rattle.wy_probe.proofs.parameters.lists_of.Goals as goal

pub loop-param-preserved : goal.loop-param-preserved
loop-param-preserved c =
    let names = types_of c.args.names.now in
    let declared = c.args.names.now.declared in
    let params = c.args.params.now in
    let x = c.param-item.result in
    let t = seen_ty x.ty in
    let lists = c.loop-param.lists in
    let below : tables_of c.as_slice-below.result.now ≡ down names 2 =
    ap tables_of c.as_slice-below.ensures ∙ (c.in_ok-lower.ensures.value ∙ ap (deeper names) (c.in_ok-bare.ensures.value ∙ ap (λ l. deeper names (tables_of l)) c.new.ensures)) in
    let settled : table_of c.as_slice-values.result.now ≡ rounds names (down names 2) (suc (length names)) =
    ap table_of c.as_slice-values.ensures ∙ (c.in_ok-table.ensures.value ∙ (ap (λ l. rounds names l (suc (length declared))) below ∙ ap (λ k. rounds names (down names 2) (suc k)) (sym (length-map declared seen_declared)))) in
    let here : data_in c.in_ok-list.list ≡ candidates names 2 t =
    c.in_ok-list.ensures.value ∙ (both_same (λ a b. by_tables names a b t) _ _ _ _ settled below ∙ candidates_by_tables names 2 t) in
    turn (λ ys. lists_of names (map seen_param ys)) params c.loop-param.param-index x (table_of lists) (table_of c.push.new.self) (lists_of names (map seen_param params)) (candidates names 2 t ∷ []) c.loop-param-test.true c.param-item.is
    (mapped data_in lists c.push.new.self c.in_ok-list.list (candidates names 2 t) c.in_ok-push.ensures.ok here) (λ ys. refl) c.loop-param.invariant

pub returns : goal.returns
returns c =
    let names = types_of c.args.names.now in
    let params = c.args.params.now in
    record { value = ends (λ ys. lists_of names (map seen_param ys)) params c.loop-param.param-index (table_of c.loop-param.lists) (lists_of names (map seen_param params)) c.loop-param-test.false refl c.loop-param.invariant }
