use Rattle.std.proofs.Common.{◌≡◌, ◌<◌, ℕ, length, map, take}
use Rattle.wy_term.specs.Nodes.{tree_at}
use Rattle.wy_term.specs.Condition.{condition_of}
use Rattle.wy_cert.specs.declared.step.Cert.{Cert}
use Rattle.wy_cert.specs.Steps.{steps_of}
use Rattle.wy_check.specs.Verdicts.{verdicts_on}
use Rattle.wy_check.proofs.accepting.verdicts.Given as goal

-- the verdicts on the certificates so far
abbrev pub invariant-loop-number : goal.invariant-loop-number
invariant-loop-number l = record {
  so_far : l.verdicts.items ≡ verdicts_on (map (λ (e : ℕ × Cert). (e.0, steps_of e.1)) (take l.number-index l.certs.list.items)) 1 (map (condition_of l.fn.terms) l.conds);
  count : length l.verdicts.items ≡ length l.conds;
  same : length l.terms ≡ length l.fn.terms;
  kept : (t : ℕ) → t < length l.fn.terms → tree_at l.terms t ≡ tree_at l.fn.terms t;
}
