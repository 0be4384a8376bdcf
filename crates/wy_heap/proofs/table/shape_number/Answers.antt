use Rattle.std.proofs.Common.{◌≡◌, ◌++◌, ◌∷◌, [], ℕ, List, sym, subst, ap, ◌∙◌}
use Rattle.wy_value.specs.Shapes.{IsShapes}
use Rattle.wy_value.specs.Seen.{seen_fields}
use Rattle.wy_value.specs.Values.{names_of}
use Rattle.wy_heap.specs.Extending.{Extends, IsAbsent}
use Rattle.wy_heap.proofs.ImportLemmas.{extends_trans}
use Rattle.wy_heap.proofs.TableLemmas.{list_table, list_extends, absent_in}
use Rattle.wy_heap.proofs.table.shape_number.Goals as goal

pub returns-clause-table : goal.returns-clause-table
returns-clause-table c =
    let t = c.numbers_of.new.table in
    let list = c.in_ok-list.list.items in
    let pushed : c.push.new.self ≡ t.lists ++ list ∷ [] = c.in_ok-push.ensures.ok ∙ ap (λ (x : List ℕ). t.lists ++ x ∷ []) c.from_vec.ensures in
    subst (λ (l : List (List ℕ)). IsShapes (record t { lists = l })) (sym pushed)
    (list_table t list (names_of (seen_fields c.args.fields.now)) c.in_ok-list.ensures.table c.in_ok-list.ensures.named c.requires.rise
    (subst (λ (x : List ℕ). IsAbsent t.lists x) c.as_slice-2.ensures.value
    (absent_in c.as_slice.result.now t.lists c.as_slice-2.result.now c.find_list.result c.as_slice.ensures c.find_list.ensures c.in_default.not-Some)))

pub returns-clause-extends : goal.returns-clause-extends
returns-clause-extends c =
    let t = c.numbers_of.new.table in
    extends_trans c.args.table.now t (record t { lists = c.push.new.self }) c.in_ok-list.ensures.extends
    (subst (λ (l : List (List ℕ)). Extends t (record t { lists = l })) (sym c.in_ok-push.ensures.ok) (list_extends t c.from_vec.result))
