use Rattle.std.proofs.Common.{◌≡◌, ◌∙◌, List, length, map, sym, ap, subst, arith}
use Rattle.wy_batch.proofs.BenchLemmas.{below_stays, same_spelled, stays_on, trees_stay_on}
use Rattle.wy_check.specs.Within.{IsWithin}
use Rattle.wy_search.specs.wy_search_bounds.wy_facts.Seen.{AreBelow}
use Rattle.wy_term.specs.Condition.{condition_of, entry_of}
use Rattle.wy_term.specs.Nodes.{Plain, tree_at}
use Rattle.wy_term.specs.declared.cond.Cond.{Cond}
use Rattle.wy_batch.proofs.bench.brought.Goals as goal

pub images-requires : goal.images-requires
images-requires c = record { bench = c.requires.bench; formulas = subst (AreBelow (length c.args.from.now)) (sym c.deref.ensures.value) c.requires.cond.hyps }

pub returns : goal.returns
returns c =
    let from = c.args.from.now in
    let cond = c.args.cond.now in
    let copy : Cond = record { kind = cond.kind; at = cond.at; hyps = c.in_ok-hyps.hyps; goal = c.in_ok-goal.goal; «unfold» = record { list = c.in_ok-list.list } } in
    let one = c.images.new.bench.terms in
    let two = c.image.new.bench.terms in
    let three = c.entries.new.bench.terms in
    let later = c.in_ok-list.ensures.stays in
    let all = stays_on one two three c.in_ok-goal.ensures.stays later in
    let raised = sym c.raise_floor.ensures.terms in
    let hyps = c.in_ok-hyps.ensures.trees ∙ ap (map (tree_at from)) c.deref.ensures.value in
    let types = c.in_ok-list.ensures.trees ∙ ap (map (entry_of from)) c.deref-2.ensures.value in
    let within : IsWithin (length three) copy = record {
      hyps = below_stays one three c.in_ok-hyps.hyps.items all.grows c.in_ok-hyps.ensures.within;
      goal = omega (arith, c.in_ok-goal.ensures.within, later.grows);
      types = c.in_ok-list.ensures.within;
    } in
    let same = same_spelled from three cond copy (trees_stay_on from one three cond.hyps.items c.in_ok-hyps.hyps.items all c.in_ok-hyps.ensures.within hyps)
    (later.trees c.in_ok-goal.goal c.in_ok-goal.ensures.within ∙ c.in_ok-goal.ensures.tree) types in
    record {
      within = subst (λ (nodes : List Plain). IsWithin (length nodes) copy) raised within;
      same = subst (λ (nodes : List Plain). condition_of nodes copy ≡ condition_of from cond) raised same;
      bench = c.raise_floor.ensures.bench from c.in_ok-list.ensures.bench;
    }
