use Rattle.std.proofs.Common.{◌≡◌, ◌+◌, ◌++◌, ◌∙◌, ℕ, List, Bool, length, drop, sym, ap, subst}
use Rattle.wy_graph.specs.declared.closure.clauses.Clause.{Clause}
use Rattle.wy_graph.specs.closure.Closure.{HaveHeads, IsReached, IsClosed}
use Rattle.wy_subtype.specs.Clausal.{part_clauses, ask_clauses}
use Rattle.wy_subtype.specs.Marks.{part_marks, AreSound, AreClosedBy}
use Rattle.wy_subtype.proofs.ClausalLemmas.{sound_from, closed_from, heads_within}
use Rattle.wy_subtype.proofs.values.marks_of.Goals as goal

pub close-requires : goal.close-requires
close-requires c =
    let r = c.args.reach.now in
    let base = c.in_ok-base.base in
    let cs : c.as_slice.result.now ≡ part_clauses base 0 r.heads ++ ask_clauses base 0 r.asks = c.as_slice.ensures ∙ c.in_ok-clauses.ensures.value in
    let within = heads_within c.args._table.now c.args._depth c.requires.ranked c.args._first.now r c.requires.known base c.in_ok-base.ensures.value c.in_ok-count.count (c.in_ok-count.ensures.value ∙ ap (λ n. base + n) c.len.ensures) in
    record { heads = subst (λ (l : List Clause). HaveHeads c.in_ok-count.count l) (sym cs) within }

pub returns-clause-sound : goal.returns-clause-sound
returns-clause-sound c =
    let r = c.args.reach.now in
    let base = c.in_ok-base.base in
    let cs : c.as_slice.result.now ≡ part_clauses base 0 r.heads ++ ask_clauses base 0 r.asks = c.as_slice.ensures ∙ c.in_ok-clauses.ensures.value in
    let last : c.in_ok-marks.marks ≡ drop base c.in_ok-all.all = c.in_ok-marks.ensures.value ∙ ap (drop base) c.as_slice-2.ensures in
    subst (λ (l : List Bool). AreSound c.args._table.now c.args._depth r.conjuncts l) (sym last)
    (sound_from c.args._table.now c.args._depth c.requires.ranked c.args._first.now r c.requires.known base c.in_ok-base.ensures.value c.in_ok-all.all (subst (λ (l : List Clause). IsReached l c.in_ok-all.all) cs c.in_ok-all.ensures.reached))

pub returns-clause-closed : goal.returns-clause-closed
returns-clause-closed c =
    let r = c.args.reach.now in
    let base = c.in_ok-base.base in
    let cs : c.as_slice.result.now ≡ part_clauses base 0 r.heads ++ ask_clauses base 0 r.asks = c.as_slice.ensures ∙ c.in_ok-clauses.ensures.value in
    let last : c.in_ok-marks.marks ≡ drop base c.in_ok-all.all = c.in_ok-marks.ensures.value ∙ ap (drop base) c.as_slice-2.ensures in
    subst (λ (l : List Bool). AreClosedBy (part_marks l r.heads) l r.asks (length r.asks)) (sym last)
    (closed_from c.args._table.now c.args._depth c.requires.ranked c.args._first.now r c.requires.known base c.in_ok-base.ensures.value c.in_ok-all.all (subst (λ (l : List Clause). IsClosed l c.in_ok-all.all) cs c.in_ok-all.ensures.closed))
