use Rattle.std.proofs.Common.{◌≡◌, ◌∙◌, ap, sym, subst, map, List, ℕ, nat_eq, false}
use Rattle.wy_ast.specs.SurfaceSeen.{seen_decl}
use Rattle.wy_names_recursion.specs.Rounds.{order_behind, rest_behind}
use Rattle.wy_names_recursion.proofs.RoundLemmas.{Grown, grown_start, grown_turn, turn_smaller, grown_order}
use Rattle.wy_names_recursion.proofs.rounds.by_rounds.Goals as goal

pub loop-is_done-init : goal.loop-is_done-init
loop-is_done-init c =
    subst (λ (o : List ℕ). Grown (map seen_decl c.args.decls.now) c.args.edges.now o c.in_ok-rest.rest false) (sym c.new-order.ensures)
    (grown_start (map seen_decl c.args.decls.now) c.args.edges.now c.in_ok-rest.rest c.in_ok-rest.ensures.value)

pub loop-is_done-preserved : goal.loop-is_done-preserved
loop-is_done-preserved c =
    grown_turn (map seen_decl c.args.decls.now) c.args.edges.now c.loop-is_done.order c.loop-is_done.rest c.in_ok-next.next.order c.in_ok-next.next.left c.len-before.result c.loop-is_done.is_done
    (nat_eq c.len.result c.len-before.result) c.loop-is_done.invariant c.len-before.ensures
    (c.in_ok-next.ensures.order ∙ ap (order_behind (map seen_decl c.args.decls.now) c.args.edges.now c.loop-is_done.order) c.as_slice.ensures)
    (c.in_ok-next.ensures.left ∙ ap (rest_behind (map seen_decl c.args.decls.now) c.args.edges.now c.loop-is_done.order) c.as_slice.ensures)
    (ap (λ (n : ℕ). nat_eq n c.len-before.result) c.len.ensures)

pub loop-is_done-smaller : goal.loop-is_done-smaller
loop-is_done-smaller c =
    turn_smaller (map seen_decl c.args.decls.now) c.args.edges.now c.loop-is_done.order c.loop-is_done.rest c.in_ok-next.next.left c.len-before.result c.loop-is_done.is_done
    (nat_eq c.len.result c.len-before.result) c.len-before.ensures
    (c.in_ok-next.ensures.left ∙ ap (rest_behind (map seen_decl c.args.decls.now) c.args.edges.now c.loop-is_done.order) c.as_slice.ensures)
    c.loop-is_done-test.true
    (ap (λ (n : ℕ). nat_eq n c.len-before.result) c.len.ensures)

pub returns : goal.returns
returns c = record {
  value = grown_order (map seen_decl c.args.decls.now) c.args.edges.now c.loop-is_done.order c.loop-is_done.rest c.loop-is_done.is_done c.loop-is_done.invariant c.loop-is_done-test.false;
}
