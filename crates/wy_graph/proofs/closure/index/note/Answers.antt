use Rattle.std.proofs.Common.{◌<◌, ◌≤◌, ℕ, List, length, set, refl, sym, ap, ◌∙◌, arith}
use Rattle.std.proofs.lemmas.Option.{slice_get_read}
use Rattle.wy_graph.proofs.closure_lemmas.IndexLemmas.{set_clause, no_clause}
use Rattle.wy_graph.proofs.closure.index.note.Goals as goal

pub returns-in_ok-push : goal.returns-in_ok-push
returns-in_ok-push c =
    let v = c.args.asking.now in
    let lt : c.args.number < length v.items = omega (arith, v.ok.0) in
    let got = slice_get_read v.items (length v.items) c.args.number c.index_mut-list.result.now refl lt c.index_mut-list.ensures.value in
    record { value = ap (λ (l : List ℕ). set v.items c.args.number l) c.in_ok-push.ensures.ok ∙ set_clause v.items c.args.number c.args.clause c.index_mut-list.result.now got }

pub returns-else-number-len : goal.returns-else-number-len
returns-else-number-len c =
    let v = c.args.asking.now in
    let le : length v.items ≤ c.args.number = omega (arith, v.ok.0) in
    record { value = sym (no_clause v.items c.args.number c.args.clause le) }
