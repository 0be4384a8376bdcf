use Rattle.std.proofs.Common.{◌≡◌, ◌<◌, ℕ, IsTrue, length, map, subst, sym, rules}
use Rattle.wy_ast.specs.SurfaceSeen.{seen_decl}
use Rattle.wy_names_recursion.proofs.MarkLemmas.{decls_seen}
use Rattle.wy_names_recursion.proofs.OrderLemmas.{passed_order}
use Rattle.wy_names_recursion.proofs.order.order_of.Goals as goal

pub returns : goal.returns
returns c =
    let yes : IsTrue c.holds.result = search rules in
    record {
      value = passed_order (map seen_decl c.args.decls.now) c.args.edges.now c.in_ok-found.found.order c.in_ok-found.found.positions c.in_ok-found.found.witnesses
          (λ (p : ℕ) (less : p < length (map seen_decl c.args.decls.now)). c.holds.ensures.settled yes p (subst (λ (n : ℕ). p < n) (decls_seen c.args.decls.now) less))
          (c.holds.ensures.falling yes) (c.holds.ensures.placed yes);
    }
