use Rattle.std.proofs.Common.{◌≡◌, ◌++◌, ◌∷◌, ℕ, List, [], length, nat_eq, subst, sym, arith}
use Rattle.std.proofs.lemmas.List.{nil_from_length}
use Rattle.std.specs.HashSet.{contains}
use Rattle.wy_vc.specs.Shared.{AreUnder, IsListed}
use Rattle.wy_vc.proofs.SharedLemmas.{extended, grown_more, grown_none, left_under, none_left, taken, taken_under}
use Rattle.wy_vc.proofs.shared.gather.Goals as goal

pub loop-turn-init : goal.loop-turn-init
loop-turn-init c = (
  λ roots gathered. extended c.args.terms.now roots c.args.more.now c.args.gathered.now.all.items c.in_ok-todo.todo.items (contains nat_eq c.args.gathered.now.noted) c.requires.within c.in_ok-todo.ensures.items gathered,
  (
    subst (λ (l : List ℕ). AreUnder (length c.args.terms.now) l) (sym c.in_ok-todo.ensures.items) c.requires.within,
    grown_none c.args.gathered.now.all.items,
  ),
)

pub list-requires : goal.list-requires
list-requires c = record { within = taken_under _ c.loop-turn.todo.items c.pop.new.self.items c.in-Some.t (taken c.loop-turn.todo.items c.pop.new.self.items c.in-Some.t c.pop.result c.pop.ensures.items c.in-Some.is) c.loop-turn.invariant.1.0 }

pub loop-turn-preserved : goal.loop-turn-preserved
loop-turn-preserved c =
    let same : c.loop-turn.todo.items ≡ c.pop.new.self.items ++ c.in-Some.t ∷ [] = taken c.loop-turn.todo.items c.pop.new.self.items c.in-Some.t c.pop.result c.pop.ensures.items c.in-Some.is in (
      λ roots gathered.
          c.in_ok-list-in-Some.ensures.listed (roots ++ c.args.more.now) (subst (λ (l : List ℕ). IsListed c.args.terms.now (roots ++ c.args.more.now) c.loop-turn.gathered.all.items (contains nat_eq c.loop-turn.gathered.noted) l) same (c.loop-turn.invariant.0 roots gathered)),
      (
        c.in_ok-list-in-Some.ensures.under (left_under _ c.loop-turn.todo.items c.pop.new.self.items c.in-Some.t same c.loop-turn.invariant.1.0),
        grown_more _ _ _ c.loop-turn.invariant.1.1 c.in_ok-list-in-Some.ensures.grows,
      ),
    )

pub returns-in-None : goal.returns-in-None
returns-in-None c =
    let none : c.loop-turn.todo.items ≡ [] = nil_from_length c.loop-turn.todo.items (omega (arith, c.in-None.ensures.cases.0, c.loop-turn.todo.ok.0)) in
    record {
      gathered = λ roots gathered. none_left c.args.terms.now (roots ++ c.args.more.now) c.loop-turn.gathered.all.items (contains nat_eq c.loop-turn.gathered.noted) c.loop-turn.todo.items none (c.loop-turn.invariant.0 roots gathered);
      grows = c.loop-turn.invariant.1.1;
    }
