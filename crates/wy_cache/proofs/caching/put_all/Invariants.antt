use Rattle.std.proofs.Common.{◌≡◌, ◌++◌, codes, map, take, drop}
use Rattle.wy_term.specs.Condition.{condition_of}
use Rattle.wy_cert.specs.Steps.{certificates_of}
use Rattle.wy_cert.specs.writing.Text.{texts, certificate_text}
use Rattle.wy_cache_text.specs.SoFar.{IsSoFar}
use Rattle.wy_cache.specs.Cached.{rows_of}
use Rattle.wy_cache.specs.Shown.{AreShown}
use Rattle.wy_cache.proofs.caching.put_all.Given as goal

-- the certificates so far are written, and the text of the others is left
abbrev pub invariant-loop-number : goal.invariant-loop-number
invariant-loop-number l = record {
  rest : l.rest ≡ texts certificate_text (drop l.number-index (certificates_of l.certs)) ++ codes "end\n";
  written : IsSoFar (rows_of (map (condition_of l.conds.terms) l.conds.list.items) (take l.number-index (certificates_of l.certs))) l.writer;
  shown : AreShown l.conds.terms l.shown;
}
