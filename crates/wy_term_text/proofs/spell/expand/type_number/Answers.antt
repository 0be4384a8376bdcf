use Rattle.std.proofs.Common.{rules, arith, ◌≡◌, ◌≤◌, ◌^◌, [], ◌∷◌, codes, map}
use Rattle.wy_term_text.specs.spell.View.{seen}
use Rattle.wy_term.specs.Term as term
use Rattle.wy_term.specs.wy_data.scan.Numbers.{IsNaturalAt}
use Rattle.wy_term_text.specs.spell.Todo.{word, root}
use Rattle.wy_term_text.proofs.spell_lemmas.GoesUp.{cover_type_number, refuse_large_type}
use Rattle.wy_term_text.proofs.spell.expand.type_number.Goals as goal

pub returns-then-n-clause-complete : goal.returns-then-n-clause-complete
returns-then-n-clause-complete c n =
    let at : IsNaturalAt c.in-Some.rest.now c.in-Some-2.n c.in-Some-2.rest.now = search rules in
    let large : 2 ^ 32 ≤ c.in-Some-2.n = omega arith in
    refuse_large_type c.args.base n c.args.text.now c.in-Some.rest.now c.in-Some-2.rest.now c.in-Some-2.n c.in-Some.ensures.value at large

pub returns-in_ok-tasks-in-Some-2-clause-complete : goal.returns-in_ok-tasks-in-Some-2-clause-complete
returns-in_ok-tasks-in-Some-2-clause-complete c n =
    let at : IsNaturalAt c.in-Some.rest.now c.in-Some-2.n c.in-Some-2.rest.now = search rules in
    let works : map seen c.in_ok-tasks-in-Some-2.tasks.items ≡ word (codes ")") ∷ root (term.in_type c.in-Some-2.n) c.args.base ∷ [] = search rules in
    cover_type_number c.args.base n c.args.text.now c.in-Some.rest.now c.in-Some-2.rest.now c.in-Some-2.n (map seen c.in_ok-tasks-in-Some-2.tasks.items) works c.in-Some.ensures.value at
