use Rattle.std.proofs.Common.{◌≡◌, ℕ, ◌<◌, ◌≤◌, All, [], ◌∷◌, length, map, reverse}
use Rattle.wy_term.specs.Term.{Term}
use Rattle.wy_term.specs.Nodes.{tree_at}
use Rattle.wy_term_text.specs.spell.Todo.{a_term, Goes}
use Rattle.wy_term_text.specs.spell.Done.{trees}
use Rattle.wy_term_text.specs.spell.View.{seen, sort_seen}
use Rattle.wy_term_text.proofs.spell.read.read.Given as goal

abbrev pub invariant-loop-turn : goal.invariant-loop-turn
invariant-loop-turn l = record {
  sound : (r : Term) → Goes (map seen (reverse l.todo.items)) l.rest (trees l.terms l.done.items) r → Goes (a_term (sort_seen l.fn.sort) ∷ []) l.fn.text [] r;
  complete : (r : Term) → Goes (a_term (sort_seen l.fn.sort) ∷ []) l.fn.text [] r → Goes (map seen (reverse l.todo.items)) l.rest (trees l.terms l.done.items) r;
  below : All (λ k. k < length l.terms) l.done.items;
  kept : (t : ℕ) → t < length l.initial.terms → tree_at l.terms t ≡ tree_at l.initial.terms t;
  grows : length l.initial.terms ≤ length l.terms;
}
