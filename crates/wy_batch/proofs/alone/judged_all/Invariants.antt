use Rattle.std.proofs.Common.{◌≡◌, ◌<◌, ℕ, length, map, take}
use Rattle.wy_cert.specs.Steps.{certificates_of}
use Rattle.wy_search.specs.Carried.{IsCarried}
use Rattle.wy_term.specs.Condition.{condition_of}
use Rattle.wy_term.specs.Nodes.{tree_at}
use Rattle.wy_batch.specs.Judged.{AreJudged}
use Rattle.wy_batch.proofs.alone.judged_all.Given as goal

-- what is known of the conditions so far; the terms are as before
abbrev pub invariant-loop-i : goal.invariant-loop-i
invariant-loop-i l = record {
  judged : AreJudged (certificates_of l.certs) l.budget 1 (take l.i (map (condition_of l.fn.terms) l.conds)) l.judged.items;
  same : length l.terms ≡ length l.fn.terms;
  carried : IsCarried l.terms l.carried;
  kept : (t : ℕ) → t < length l.fn.terms → tree_at l.terms t ≡ tree_at l.fn.terms t;
}
