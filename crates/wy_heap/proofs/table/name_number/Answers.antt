use Rattle.std.proofs.Common.{◌≡◌, ◌++◌, ◌∷◌, [], ℕ, List, sym, subst, ap, ◌∙◌}
use Rattle.wy_value.specs.Shapes.{IsShapes}
use Rattle.wy_heap.specs.Extending.{Extends}
use Rattle.wy_heap.proofs.TableLemmas.{name_table, name_extends, absent_in}
use Rattle.wy_heap.proofs.table.name_number.Goals as goal

pub returns-clause-table : goal.returns-clause-table
returns-clause-table c =
    let t = c.args.table.now in
    let pushed : c.push.new.self ≡ t.names ++ c.args.name.now ∷ [] = c.in_ok-push.ensures.ok ∙ ap (λ (x : List ℕ). t.names ++ x ∷ []) c.in_ok-copy.ensures.value in
    subst (λ (l : List (List ℕ)). IsShapes (record t { names = l })) (sym pushed)
    (name_table t c.args.name.now c.requires.table c.requires.name
    (absent_in c.as_slice.result.now t.names c.args.name.now c.find_name.result c.as_slice.ensures c.find_name.ensures c.in_default.not-Some))

pub returns-clause-extends : goal.returns-clause-extends
returns-clause-extends c =
    let t = c.args.table.now in
    subst (λ (l : List (List ℕ)). Extends t (record t { names = l })) (sym c.in_ok-push.ensures.ok) (name_extends t c.in_ok-copy.copy)
