use Rattle.std.proofs.Common.{rules}
use Rattle.wy_term.specs.Nodes.{tree_at}
use Rattle.wy_cong.proofs.PlaceLemmas.{denial_left, other_left, taken_here, present_here}
use Rattle.wy_cong.proofs.present.take.Goals as goal

pub returns-then-not-holds-clause-value : goal.returns-then-not-holds-clause-value
returns-then-not-holds-clause-value c = denial_left (tree_at c.args.terms.now) c.args.present.now.numbers.items c.args.k c.args.holds (search rules)

pub returns-then-is_term-clause-value : goal.returns-then-is_term-clause-value
returns-then-is_term-clause-value c = taken_here c.note.result (tree_at c.args.terms.now) c.args.present.now.numbers.items c.note.new.present.numbers.items c.args.k c.args.holds (search rules) (search rules) c.note.ensures.value

pub returns-then-is_term-clause-present : goal.returns-then-is_term-clause-present
returns-then-is_term-clause-present c = present_here c.note.result c.args.terms.now c.args.present.now c.note.new.present c.args.k c.requires.present c.requires.term c.note.ensures.value c.note.ensures.places

pub returns-clause-value : goal.returns-clause-value
returns-clause-value c = other_left (tree_at c.args.terms.now) c.args.present.now.numbers.items c.args.k c.args.holds (search rules) (search rules)
