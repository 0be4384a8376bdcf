-- A scalar is its own part; an array and a record are nodes of the last parts.
use Rattle.std.proofs.Common.{◌++◌, refl, sym, subst}
use Rattle.wy_value.specs.Seen.{seen}
use Rattle.wy_heap.specs.declared.part.Part.TheVariants.{Null}
use Rattle.wy_heap.specs.declared.heap.Heap.{Heap}
use Rattle.wy_heap.specs.Nodes.{map_of}
use Rattle.wy_heap.specs.Importing.{Carries}
use Rattle.wy_heap.proofs.LeadLemmas.{counts_same}
use Rattle.wy_heap.proofs.ImportLemmas.{array_fits, record_fits, record_finished, record_datum, carries_scalar, carries_same, carries_trans, tabled, has_kids_same, finishes_same}
use Rattle.wy_heap.proofs.heap.Heap.finish.Goals as goal

pub gather-requires-clause-fits : goal.gather-requires-clause-fits
gather-requires-clause-fits c =
    array_fits (map_of c.args.self.now) c.args.value.now c.args.done.now.items c.args.many c.in-Array.field-0 c.in-Array.is c.requires.kids

pub shape_number-requires-clause-names : goal.shape_number-requires-clause-names
shape_number-requires-clause-names c = (record_datum c.args.value.now c.as_slice.result.now c.in-Record.fields c.in-Record.is c.as_slice.ensures c.requires.datum).1

pub shape_number-requires-clause-rise : goal.shape_number-requires-clause-rise
shape_number-requires-clause-rise c = (record_datum c.args.value.now c.as_slice.result.now c.in-Record.fields c.in-Record.is c.as_slice.ensures c.requires.datum).0

pub returns-in_err-shape-in-Record-clause-carries : goal.returns-in_err-shape-in-Record-clause-carries
returns-in_err-shape-in-Record-clause-carries c =
    let h = c.args.self.now in
    let done = c.args.done.now.items in
    let grown : Heap = record h { shapes = c.shape_number.new.table } in
    carries_same h grown done (tabled h c.shape_number.new.table (done ++ c.requires.held.0) c.requires.held.1 c.requires.table c.shape_number.ensures.extends)

pub gather-requires-in-Record-clause-held : goal.gather-requires-in-Record-clause-held
gather-requires-in-Record-clause-held c =
    let h = c.args.self.now in
    let done = c.args.done.now.items in
    let grown : Heap = record h { shapes = c.shape_number.new.table } in
    let same = tabled h c.shape_number.new.table (done ++ c.requires.held.0) c.requires.held.1 c.requires.table c.shape_number.ensures.extends in
    (c.requires.held.0, counts_same h grown (done ++ c.requires.held.0) same c.requires.held.1)

pub gather-requires-in-Record-clause-fits : goal.gather-requires-in-Record-clause-fits
gather-requires-in-Record-clause-fits c =
    let h = c.args.self.now in
    let done = c.args.done.now.items in
    let grown : Heap = record h { shapes = c.shape_number.new.table } in
    let same = tabled h c.shape_number.new.table (done ++ c.requires.held.0) c.requires.held.1 c.requires.table c.shape_number.ensures.extends in
    record_fits (map_of grown) c.shape_number.new.table c.in_ok-shape-in-Record.shape c.args.value.now done c.args.many c.as_slice.result.now c.in-Record.fields c.in-Record.is c.as_slice.ensures c.in_ok-shape-in-Record.ensures.shape
    (has_kids_same (map_of h) (map_of grown) (seen c.args.value.now) done c.args.many same.nodes c.requires.kids)

pub returns-in_ok-push-in-Null-clause-carries : goal.returns-in_ok-push-in-Null-clause-carries
returns-in_ok-push-in-Null-clause-carries c =
    let h = c.args.self.now in
    let done = c.args.done.now.items in
    subst (Carries h h done) (sym c.in_ok-push-in-Null.ensures.items) (carries_scalar h done Null (λ k. refl))

pub returns-in_ok-push-in-Bool-clause-carries : goal.returns-in_ok-push-in-Bool-clause-carries
returns-in_ok-push-in-Bool-clause-carries c =
    let h = c.args.self.now in
    let done = c.args.done.now.items in
    subst (Carries h h done) (sym c.in_ok-push-in-Bool.ensures.items) (carries_scalar h done _ (λ k. refl))

pub returns-in_ok-push-in-Int-clause-carries : goal.returns-in_ok-push-in-Int-clause-carries
returns-in_ok-push-in-Int-clause-carries c =
    let h = c.args.self.now in
    let done = c.args.done.now.items in
    subst (Carries h h done) (sym c.in_ok-push-in-Int.ensures.items) (carries_scalar h done _ (λ k. refl))

pub returns-in_err-gather-in-Record-clause-carries : goal.returns-in_err-gather-in-Record-clause-carries
returns-in_err-gather-in-Record-clause-carries c =
    let h = c.args.self.now in
    let done = c.args.done.now.items in
    let grown : Heap = record h { shapes = c.shape_number.new.table } in
    let same = tabled h c.shape_number.new.table (done ++ c.requires.held.0) c.requires.held.1 c.requires.table c.shape_number.ensures.extends in
    carries_trans h grown c.gather-in-Record.new.self done done c.gather-in-Record.new.done.items (carries_same h grown done same) c.gather-in-Record.ensures.carries

pub returns-in_ok-gather-in-Record-clause-carries : goal.returns-in_ok-gather-in-Record-clause-carries
returns-in_ok-gather-in-Record-clause-carries c =
    let h = c.args.self.now in
    let done = c.args.done.now.items in
    let grown : Heap = record h { shapes = c.shape_number.new.table } in
    let same = tabled h c.shape_number.new.table (done ++ c.requires.held.0) c.requires.held.1 c.requires.table c.shape_number.ensures.extends in
    carries_trans h grown c.gather-in-Record.new.self done done c.gather-in-Record.new.done.items (carries_same h grown done same) c.gather-in-Record.ensures.carries

pub returns-in_ok-gather-in-Record-clause-finishes : goal.returns-in_ok-gather-in-Record-clause-finishes
returns-in_ok-gather-in-Record-clause-finishes c =
    let h = c.args.self.now in
    let n = c.gather-in-Record.new.self in
    let before = c.args.done.now.items in
    let after = c.gather-in-Record.new.done.items in
    let table = c.shape_number.new.table in
    let grown : Heap = record h { shapes = table } in
    let same = tabled h table (before ++ c.requires.held.0) c.requires.held.1 c.requires.table c.shape_number.ensures.extends in
    finishes_same (map_of h) (map_of grown) (map_of n) (seen c.args.value.now) before after c.args.many same.nodes
    (record_finished grown n table c.in_ok-shape-in-Record.shape c.args.value.now before after c.args.many c.as_slice.result.now c.in-Record.fields c.in-Record.is c.as_slice.ensures c.in_ok-shape-in-Record.ensures.shape c.in_ok-gather-in-Record.ensures.gathers)
