use Rattle.std.proofs.Common.{◌≡◌, ◌<◌, ◌++◌, ◌∷◌, [], ℕ, List, Option, option_to_list, refl, sym, subst, ap, ◌∙◌, arith}
use Rattle.wy_value.specs.Shown.{shown}
use Rattle.wy_heap.specs.Nodes.{map_of}
use Rattle.wy_heap.specs.Showing.{Rest, AreLeft, rest_works}
use Rattle.wy_heap.proofs.ShowLemmas.{left_top, turn_left, turn_fewer}
use Rattle.wy_heap.proofs.heap.Heap.text_of.Goals as goal

pub jobs-init : goal.jobs-init
jobs-init c d means =
    let m = map_of c.args.self.now in
    let goes = c.in_ok-begin.ensures in
    let one = goes.rest (shown d) (d, means, refl) in (
      one.0,
      subst (λ (l : List Rest). AreLeft m l one.0) (sym (goes.is ∙ ap (λ (l : List Rest). l ++ goes.more) c.new-todo.ensures.items)) one.1,
      one.2 ∙ ap (λ (l : List ℕ). l ++ one.0) (sym (goes.out ∙ ap (λ (l : List ℕ). l ++ goes.wrote) c.new-text.ensures.items)),
    )

pub go_on-requires-clause-meant : goal.go_on-requires-clause-meant
go_on-requires-clause-meant c =
    let m = map_of c.args.self.now in
    let rest : Rest = (c.in-Some.key, c.in-Some.place) in
    let old = c.pop.new.self.items in
    let popped : c.jobs.todo.items ≡ old ++ rest ∷ [] = c.pop.ensures.items ∙ ap (λ (r : Option Rest). old ++ option_to_list r) c.in-Some.is in
    let one = c.jobs.invariant c.requires.meant.0 c.requires.meant.1 in
    let top = left_top m old rest one.0 (subst (λ (l : List Rest). AreLeft m l one.0) popped one.1) in
    (top.2.0, top.2.1)

pub go_on-requires-clause-within : goal.go_on-requires-clause-within
go_on-requires-clause-within c =
    let m = map_of c.args.self.now in
    let rest : Rest = (c.in-Some.key, c.in-Some.place) in
    let old = c.pop.new.self.items in
    let popped : c.jobs.todo.items ≡ old ++ rest ∷ [] = c.pop.ensures.items ∙ ap (λ (r : Option Rest). old ++ option_to_list r) c.in-Some.is in
    let one = c.jobs.invariant c.requires.meant.0 c.requires.meant.1 in
    let top = left_top m old rest one.0 (subst (λ (l : List Rest). AreLeft m l one.0) popped one.1) in
    top.2.2

pub jobs-smaller : goal.jobs-smaller
jobs-smaller c =
    let m = map_of c.args.self.now in
    let rest : Rest = (c.in-Some.key, c.in-Some.place) in
    let old = c.pop.new.self.items in
    let popped : c.jobs.todo.items ≡ old ++ rest ∷ [] = c.pop.ensures.items ∙ ap (λ (r : Option Rest). old ++ option_to_list r) c.in-Some.is in
    let less : rest_works m c.go_on.new.todo.items < rest_works m c.jobs.todo.items =
    omega (arith, turn_fewer m rest old c.go_on.new.todo.items c.jobs.text.items c.go_on.new.text.items c.in_ok-go_on.ensures, ap (rest_works m) popped) in
    less

pub jobs-preserved : goal.jobs-preserved
jobs-preserved c d means =
    let m = map_of c.args.self.now in
    let rest : Rest = (c.in-Some.key, c.in-Some.place) in
    let old = c.pop.new.self.items in
    let popped : c.jobs.todo.items ≡ old ++ rest ∷ [] = c.pop.ensures.items ∙ ap (λ (r : Option Rest). old ++ option_to_list r) c.in-Some.is in
    let one = c.jobs.invariant d means in
    turn_left m rest old c.go_on.new.todo.items c.jobs.text.items c.go_on.new.text.items (shown d) one.0 c.in_ok-go_on.ensures
    (subst (λ (l : List Rest). AreLeft m l one.0) popped one.1) one.2
