use Rattle.std.proofs.Common.{◌≡◌, ◌<◌, ◌+◌, ℕ, All, length, map, drop}
use Rattle.wy_term.specs.Condition.{condition_of}
use Rattle.wy_term.specs.Nodes.{tree_at}
use Rattle.wy_cert.specs.declared.step.Cert.{Cert}
use Rattle.wy_cert.specs.Only.{GoesOn}
use Rattle.wy_cert.specs.Steps.{steps_of, NamesItsTerms}
use Rattle.wy_check.specs.wy_check_laws.reread.Writable.{AreWritable}
use Rattle.wy_cache_text.specs.Seen.{all_held}
use Rattle.wy_cache.specs.Kept.{AreKept}
use Rattle.wy_cache.specs.Shown.{AreShown}
use Rattle.wy_cache.proofs.keeping.kept_among.Given as goal

-- the conditions so far; the terms are as before
abbrev pub invariant-loop-place : goal.invariant-loop-place
invariant-loop-place l = record {
  all : GoesOn (map (λ (e : ℕ × Cert). (e.0, steps_of e.1)) l.list.items) (AreKept (all_held l.cache.entries.items) (l.place + 1) (drop l.place (map (condition_of l.fn.terms) l.conds)))
      (AreKept (all_held l.cache.entries.items) 1 (map (condition_of l.fn.terms) l.conds));
  names : All (λ (e : ℕ × Cert). NamesItsTerms e.1) l.list.items;
  writable : All (λ (e : ℕ × Cert). AreWritable (steps_of e.1)) l.list.items;
  shown : AreShown l.terms l.shown;
  same : length l.terms ≡ length l.fn.terms;
  kept : (t : ℕ) → t < length l.fn.terms → tree_at l.terms t ≡ tree_at l.fn.terms t;
}
