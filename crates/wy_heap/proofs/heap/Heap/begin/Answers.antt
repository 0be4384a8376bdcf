use Rattle.std.proofs.Common.{◌++◌, ◌∷◌, [], ℕ, ℤ, true, false, subst, ap, ◌∙◌, rules, FitsSigned}
use Rattle.std.specs.Int.{w128}
use Rattle.std.specs.Fmt.{signed_decimal}
use Rattle.std.proofs.lemmas.Int.{to_z-of_z}
use Rattle.wy_value.specs.Datum as datum
use Rattle.wy_heap.specs.declared.part.Part.TheVariants.{Bool}
use Rattle.wy_heap.specs.Nodes.{map_of}
use Rattle.wy_heap.specs.Parts.{IsThere}
use Rattle.wy_heap.proofs.SlotLemmas.{means_there}
use Rattle.wy_heap.proofs.ShowLemmas.{scalar_goes, node_goes}
use Rattle.wy_heap.proofs.heap.Heap.begin.Goals as goal

pub index-requires : goal.index-requires
index-requires c = subst (IsThere c.args.self.now) c.in-Key.is (means_there c.args.self.now c.requires.meant.0 c.args.part c.requires.meant.1)

pub returns-in_ok-write_bytes-in-Null : goal.returns-in_ok-write_bytes-in-Null
returns-in_ok-write_bytes-in-Null c =
    scalar_goes (map_of c.args.self.now) c.args.part datum.Null c.args.todo.now.items c.args.text.now.items c.write_bytes.new.text.items c.in-Null.is c.in_ok-write_bytes-in-Null.ensures

pub returns-in_ok-write_bytes-in-Bool-true : goal.returns-in_ok-write_bytes-in-Bool-true
returns-in_ok-write_bytes-in-Bool-true c =
    scalar_goes (map_of c.args.self.now) c.args.part (datum.Truth true) c.args.todo.now.items c.args.text.now.items c.write_bytes-in-Bool-true.new.text.items (c.in-Bool-true.is ∙ ap Bool c.in-Bool-true.field-0-test) c.in_ok-write_bytes-in-Bool-true.ensures

pub returns-in_ok-write_bytes-in-Bool-false : goal.returns-in_ok-write_bytes-in-Bool-false
returns-in_ok-write_bytes-in-Bool-false c =
    scalar_goes (map_of c.args.self.now) c.args.part (datum.Truth false) c.args.todo.now.items c.args.text.now.items c.write_bytes-in-Bool-false.new.text.items (c.in-Bool-false.is ∙ ap Bool c.in-Bool-false.field-0-test) c.in_ok-write_bytes-in-Bool-false.ensures

pub returns-in_ok-write_number-in-Int : goal.returns-in_ok-write_number-in-Int
returns-in_ok-write_number-in-Int c =
    scalar_goes (map_of c.args.self.now) c.args.part (datum.Whole c.in-Int.n) c.args.todo.now.items c.args.text.now.items c.write_number.new.text.items c.in-Int.is
    (let fits : FitsSigned w128 c.in-Int.n = search rules in
    c.in_ok-write_number-in-Int.ensures ∙ ap (λ (z : ℤ). c.args.text.now.items ++ signed_decimal z) (to_z-of_z w128 c.in-Int.n fits))

pub returns-in_ok-push-in-Key-2 : goal.returns-in_ok-push-in-Key-2
returns-in_ok-push-in-Key-2 c =
    node_goes c.args.self.now c.args.part c.in-Key.key c.index.result.now c.args.todo.now.items c.push-in-Key.new.self.items c.args.text.now.items c.push.new.self.items c.in-Key.is c.index.ensures c.requires.meant
    c.in_ok-push-in-Key-2.ensures.items (c.in_ok-push-in-Key.ensures.items ∙ ap (λ (b : ℕ). c.args.text.now.items ++ b ∷ []) c.opening_of.ensures)
