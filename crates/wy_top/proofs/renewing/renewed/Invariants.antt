use Rattle.std.proofs.Common.{◌≡◌, ◌<◌, ◌+◌, ℕ, All, drop, length, map}
use Rattle.wy_batch.specs.Seen.{known}
use Rattle.wy_cache_text.specs.Files.{Entries}
use Rattle.wy_cert.specs.Steps.{NamesItsTerms, certificates_of}
use Rattle.wy_cert.specs.declared.step.Cert.{Cert}
use Rattle.wy_term.specs.Condition.{condition_of}
use Rattle.wy_term.specs.Nodes.{tree_at}
use Rattle.wy_top.specs.Caches.{AreSaved}
use Rattle.wy_top.specs.Taken.{AreTaken, IsWritten, waiting}
use Rattle.wy_top.proofs.FoundLemmas.{pair_of}
use Rattle.wy_top.proofs.RenewLemmas.{Follows}
use Rattle.wy_top.proofs.renewing.renewed.Given as goal

-- those for the conditions so far, and those that wait for the others; the terms are as before
abbrev pub invariant-loop-i : goal.invariant-loop-i
invariant-loop-i l = record {
  taken : (es : Entries) → AreTaken es l.budget 1 (map (condition_of l.fn.terms) l.conds) (map known l.verdicts) (certificates_of l.fn.kept)
      → AreTaken es l.budget (l.i + 1) (drop l.i (map (condition_of l.fn.terms) l.conds)) (drop l.i (map known l.verdicts)) (waiting l.left.items);
  saved : (es : Entries) → AreTaken es l.budget 1 (map (condition_of l.fn.terms) l.conds) (map known l.verdicts) (certificates_of l.fn.kept)
      → Follows es (AreSaved es 1 (map (condition_of l.fn.terms) l.conds) (map known l.verdicts)) (l.i + 1) (drop l.i (map (condition_of l.fn.terms) l.conds)) (drop l.i (map known l.verdicts)) (map pair_of l.list.items);
  named : All (λ (e : ℕ × Cert). NamesItsTerms e.1) l.list.items;
  waits : All (λ (e : ℕ × Cert). IsWritten e.1) l.left.items;
  same : length l.terms ≡ length l.fn.terms;
  kept : (t : ℕ) → t < length l.fn.terms → tree_at l.terms t ≡ tree_at l.fn.terms t;
}
