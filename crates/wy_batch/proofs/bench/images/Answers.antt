use Rattle.std.proofs.Common.{◌∙◌, length, map, ap}
use Rattle.std.proofs.lemmas.List.{take_all}
use Rattle.wy_batch.proofs.BenchLemmas.{below_more, none_below, stays_on, stays_same, trees_more}
use Rattle.wy_term.specs.Nodes.{tree_at}
use Rattle.wy_batch.proofs.bench.images.Goals as goal

pub loop-formula-init : goal.loop-formula-init
loop-formula-init c =
    let terms = c.args.bench.now.terms in
    let none = c.in_ok-copies.ensures.items in
    record {
      within = none_below (length terms) c.in_ok-copies.copies.items none;
      trees = ap (map (tree_at terms)) none;
      bench = c.requires.bench;
      stays = stays_same terms;
    }

pub image-requires : goal.image-requires
image-requires c = record { bench = c.loop-formula.invariant.bench; term = c.requires.formulas c.loop-formula.formula-index 0 c.loop-formula-test.true }

pub loop-formula-preserved : goal.loop-formula-preserved
loop-formula-preserved c =
    let old = c.loop-formula.bench.terms in
    let new = c.image.new.bench.terms in
    let invariant = c.loop-formula.invariant in
    let stays = c.in_ok-copy.ensures.stays in
    let i = c.loop-formula.formula-index in
    record {
      within = below_more old new c.loop-formula.copies.items c.push.new.self.items c.in_ok-copy.copy stays.grows c.in_ok-push.ensures.items invariant.within c.in_ok-copy.ensures.within;
      trees = trees_more c.args.from.now old new c.args.formulas.now c.loop-formula.copies.items c.push.new.self.items i c.in_ok-copy.copy stays invariant.within invariant.trees c.loop-formula-test.true c.in_ok-push.ensures.items c.in_ok-copy.ensures.tree;
      bench = c.in_ok-copy.ensures.bench;
      stays = stays_on c.args.bench.now.terms old new invariant.stays stays;
    }

pub returns-clause-trees : goal.returns-clause-trees
returns-clause-trees c = c.loop-formula.invariant.trees ∙ ap (map (tree_at c.args.from.now)) (take_all c.loop-formula.formula-index c.args.formulas.now c.loop-formula-test.false)
