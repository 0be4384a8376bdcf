use Rattle.std.proofs.Common.{◌≡◌, ◌≤◌, ◌<◌, ◌+◌, ℕ, All, [], length, map}
use Rattle.std.specs.Ordering.{nat_cmp}
use Rattle.std.specs.BTreeSet.{contains}
use Rattle.wy_cert.specs.Only.{AreSame}
use Rattle.wy_cert.specs.Steps.{steps_of, NamesItsTerms}
use Rattle.wy_cert.specs.File.{ReadsCerts, is_listed}
use Rattle.wy_cert.proofs.read.certificates.Given as goal

abbrev pub invariant-loop-turn : goal.invariant-loop-turn
invariant-loop-turn l = record {
  same : AreSame (ReadsCerts l.fn.products l.fn.conds (map (λ e. (e.0, steps_of e.1)) l.list.items) l.line l.rest) (ReadsCerts l.fn.products l.fn.conds [] 2 l.fn.text);
  names : All (λ e. NamesItsTerms e.1) l.list.items;
  seen : (c : ℕ) → contains nat_cmp l.seen c ≡ is_listed (map (λ e. (e.0, steps_of e.1)) l.list.items) c;
  room : l.line + length l.rest ≤ 2 + length l.fn.text;
  some : 0 < l.line;
}
