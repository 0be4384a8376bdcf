use Rattle.std.proofs.Common.{◌≡◌, ◌+◌, ◌<◌, ◌++◌, ◌∙◌, ℕ, List, Bool, true, false, Some, length, length-append, set, take, sym, ap, subst, arith}
use Rattle.std.specs.Prelude.{slice_get}
use Rattle.std.proofs.lemmas.Option.{slice_get_within}
use Rattle.wy_graph.specs.declared.closure.clauses.Clause.{Clause}
use Rattle.wy_graph.specs.closure.Marks.{mark_at, each_marked}
use Rattle.wy_graph.specs.closure.Closure.{AreMet, IsPending, IsReached, by_clause, number_at, waiting}
use Rattle.wy_graph.proofs.closure_lemmas.MarkLemmas.{waiting_set}
use Rattle.wy_graph.proofs.closure_lemmas.MetLemmas.{met_all, met_keeps, met_set, now_met}
use Rattle.wy_graph.proofs.closure_lemmas.WorkLemmas.{not_due, due_more, one_clause}
use Rattle.wy_graph.proofs.closure.closing.read_clause.Goals as goal

pub returns-in-None-clause-pending : goal.returns-in-None-clause-pending
returns-in-None-clause-pending c =
    let e = c.in-None.ensures in
    not_due c.args.clauses.now c.args.marks.now c.args.due.now c.args.number c.requires.pending (λ d at met. absurd (cc (at, e)))

pub returns-then-mark_at-clause-pending : goal.returns-then-mark_at-clause-pending
returns-then-mark_at-clause-pending c =
    let a = c.in-Some.clause.now in
    let here : slice_get c.args.clauses.now c.args.number ≡ Some a = sym c.in-Some.ensures in
    let e : mark_at c.args.marks.now a.head ≡ true = ap (λ (m : List Bool). mark_at m a.head) (sym c.as_slice.ensures) ∙ sym c.mark_at.ensures.value ∙ c.if-mark_at.true in
    not_due c.args.clauses.now c.args.marks.now c.args.due.now c.args.number c.requires.pending (λ d at met. subst (λ (x : Clause). mark_at c.args.marks.now x.head ≡ true) (one_clause a d (sym here ∙ at)) e)

pub returns-then-first-len-clause-pending : goal.returns-then-first-len-clause-pending
returns-then-first-len-clause-pending c =
    let a = c.in-Some.clause.now in
    let here : slice_get c.args.clauses.now c.args.number ≡ Some a = sym c.in-Some.ensures in
    let lt : c.first_unmet-first.result < length c.as_slice-4.result.now = subst (λ (n : ℕ). c.first_unmet-first.result < n) (c.len.ensures ∙ ap (λ (l : List (List ℕ)). length l) (sym c.as_slice-4.ensures)) c.if-first-len.true in
    let e : each_marked c.args.marks.now a.body ≡ false =
    ap (λ (m : List Bool). each_marked m a.body) (sym c.as_slice-3.ensures) ∙ ap (each_marked c.as_slice-3.result.now) (sym c.as_slice-4.ensures) ∙ c.first_unmet-first.ensures.unmet lt
    in
    not_due c.args.clauses.now c.args.marks.now c.args.due.now c.args.number c.requires.pending
    (λ d at met. let m : each_marked c.args.marks.now a.body ≡ true = subst (λ (x : Clause). each_marked c.args.marks.now x.body ≡ true) (sym (one_clause a d (sym here ∙ at))) met in absurd (cc (e, m)))

pub first_unmet-first-requires : goal.first_unmet-first-requires
first_unmet-first-requires c =
    let a = c.in-Some.clause.now in
    let n : c.noted_at-known.result ≡ number_at c.args.met.now c.args.number = c.noted_at-known.ensures.value ∙ ap (λ (l : List ℕ). number_at l c.args.number) c.as_slice-2.ensures in
    let met : each_marked c.args.marks.now (take c.noted_at-known.result a.body) ≡ true =
    subst (λ (k : ℕ). each_marked c.args.marks.now (take k a.body) ≡ true) (sym n) (c.requires.met c.args.number a (sym c.in-Some.ensures))
    in
    record { known = now_met c.as_slice-3.result.now c.args.marks.now c.as_slice-4.result.now a.body c.noted_at-known.result (sym c.as_slice-3.ensures) (sym c.as_slice-4.ensures) met }

pub set-requires : goal.set-requires
set-requires c = let w = slice_get_within c.args.clauses.now c.args.number c.in-Some.clause.now (sym c.in-Some.ensures) in let e = c.requires.each in omega (arith, w, e)

pub set-requires-2 : goal.set-requires-2
set-requires-2 c = c.requires.heads c.args.number c.in-Some.clause.now (sym c.in-Some.ensures)

pub returns-in_ok-append-in-Some-at-clause-reached : goal.returns-in_ok-append-in-Some-at-clause-reached
returns-in_ok-append-in-Some-at-clause-reached c =
    let a = c.in-Some.clause.now in
    let met : each_marked c.args.marks.now a.body ≡ true =
    met_all c.args.marks.now a.body c.first_unmet-first.result (let n = c.len.ensures in let f = c.if-first-len.false in omega (arith, n, f)) (now_met c.args.marks.now c.as_slice-3.result.now a.body c.as_slice-4.result.now c.first_unmet-first.result c.as_slice-3.ensures c.as_slice-4.ensures c.first_unmet-first.ensures.known)
    in
    subst (λ (m : List Bool). IsReached c.args.clauses.now m) (sym c.set-2.ensures) (by_clause c.args.marks.now c.args.number a c.requires.reached (sym c.in-Some.ensures) met)

pub returns-in_ok-append-in-Some-at-clause-pending : goal.returns-in_ok-append-in-Some-at-clause-pending
returns-in_ok-append-in-Some-at-clause-pending c =
    let a = c.in-Some.clause.now in
    let cs = c.args.clauses.now in
    let marks = c.args.marks.now in
    let here : slice_get cs c.args.number ≡ Some a = sym c.in-Some.ensures in
    let lt : a.head < length marks = c.requires.heads c.args.number a here in
    let wait = c.in-Some-at.waiting.now in
    let got : slice_get c.args.asking.now a.head ≡ Some wait = sym c.in-Some-at.ensures in
    let more : c.append.new.self ≡ c.args.due.now ++ wait = c.in_ok-append-in-Some-at.ensures ∙ ap (λ (l : List ℕ). c.args.due.now ++ l) (c.in_ok-more-in-Some-at.ensures ∙ c.as_slice-in-Some-at.ensures) in
    subst (λ (m : List Bool). IsPending cs m c.append.new.self) (sym c.set-2.ensures)
    (subst (λ (l : List ℕ). IsPending cs (set marks a.head true) l) (sym more) (due_more cs marks c.args.asking.now c.args.due.now wait c.args.number a c.requires.index c.requires.sizes c.requires.pending here lt got))

pub returns-in_ok-append-in-Some-at-clause-less : goal.returns-in_ok-append-in-Some-at-clause-less
returns-in_ok-append-in-Some-at-clause-less c =
    let a = c.in-Some.clause.now in
    let marks = c.args.marks.now in
    let here : slice_get c.args.clauses.now c.args.number ≡ Some a = sym c.in-Some.ensures in
    let lt : a.head < length marks = c.requires.heads c.args.number a here in
    let wait = c.in-Some-at.waiting.now in
    let got : slice_get c.args.asking.now a.head ≡ Some wait = sym c.in-Some-at.ensures in
    let unmarked : mark_at marks a.head ≡ false = ap (λ (m : List Bool). mark_at m a.head) (sym c.as_slice.ensures) ∙ sym c.mark_at.ensures.value ∙ c.if-mark_at.false in
    let more : c.append.new.self ≡ c.args.due.now ++ wait = c.in_ok-append-in-Some-at.ensures ∙ ap (λ (l : List ℕ). c.args.due.now ++ l) (c.in_ok-more-in-Some-at.ensures ∙ c.as_slice-in-Some-at.ensures) in
    let sum : length c.append.new.self ≡ length c.args.due.now + length wait = ap length more ∙ length-append c.args.due.now wait in
    let less : length wait + waiting (set marks a.head true) c.args.asking.now ≡ waiting marks c.args.asking.now = waiting_set marks a.head c.args.asking.now wait lt unmarked got in
    let same : waiting c.set-2.new.self c.args.asking.now ≡ waiting (set marks a.head true) c.args.asking.now = ap (λ (m : List Bool). waiting m c.args.asking.now) c.set-2.ensures in
    omega (arith, sum, less, same)

pub returns-in_ok-append-in-Some-at-clause-met : goal.returns-in_ok-append-in-Some-at-clause-met
returns-in_ok-append-in-Some-at-clause-met c =
    let a = c.in-Some.clause.now in
    let known = now_met c.args.marks.now c.as_slice-3.result.now a.body c.as_slice-4.result.now c.first_unmet-first.result c.as_slice-3.ensures c.as_slice-4.ensures c.first_unmet-first.ensures.known in
    let noted = met_set c.args.clauses.now c.args.marks.now c.args.met.now c.args.number c.first_unmet-first.result a (sym c.in-Some.ensures) known c.requires.met in
    subst (λ (m : List Bool). AreMet c.args.clauses.now m c.set.new.self) (sym c.set-2.ensures)
    (subst (λ (l : List ℕ). AreMet c.args.clauses.now (set c.args.marks.now a.head true) l) (sym c.set.ensures) (met_keeps c.args.clauses.now c.args.marks.now (set c.args.met.now c.args.number c.first_unmet-first.result) a.head noted))

pub returns-then-first-len-clause-met : goal.returns-then-first-len-clause-met
returns-then-first-len-clause-met c =
    let a = c.in-Some.clause.now in
    let known = now_met c.args.marks.now c.as_slice-3.result.now a.body c.as_slice-4.result.now c.first_unmet-first.result c.as_slice-3.ensures c.as_slice-4.ensures c.first_unmet-first.ensures.known in
    let noted = met_set c.args.clauses.now c.args.marks.now c.args.met.now c.args.number c.first_unmet-first.result a (sym c.in-Some.ensures) known c.requires.met in
    subst (λ (l : List ℕ). AreMet c.args.clauses.now c.args.marks.now l) (sym c.set.ensures) noted
