use Rattle.std.proofs.Common.{◌≡◌, None, Some, nat_eq, rules}
use Rattle.std.specs.HashMap.{get}
use Rattle.wy_search_bounds.proofs.FirstLemmas.{first_new, first_noted, noted_again, noted_new}
use Rattle.wy_search_bounds.proofs.firsts.note_first.Goals as goal

pub returns-in-Some-clause-value : goal.returns-in-Some-clause-value
returns-in-Some-clause-value c =
    let is : get nat_eq c.args.found.now c.label_at-l.result ≡ Some c.in-Some.first = search rules in
    first_noted c.args.labels.now (get nat_eq c.args.found.now) c.label_at-l.result c.args.v c.in-Some.first c.label_at-l.ensures is c.requires.found

pub returns-in-Some-clause-found : goal.returns-in-Some-clause-found
returns-in-Some-clause-found c =
    let is : get nat_eq c.args.found.now c.label_at-l.result ≡ Some c.in-Some.first = search rules in
    noted_again c.args.labels.now (get nat_eq c.args.found.now) c.label_at-l.result c.args.v c.in-Some.first c.label_at-l.ensures is c.requires.found

pub returns-in_ok-insert-in-None-clause-value : goal.returns-in_ok-insert-in-None-clause-value
returns-in_ok-insert-in-None-clause-value c =
    let none : get nat_eq c.args.found.now c.label_at-l.result ≡ None = search rules in
    first_new c.args.labels.now (get nat_eq c.args.found.now) c.label_at-l.result c.args.v c.requires.place c.label_at-l.ensures none c.requires.found

pub returns-in_ok-insert-in-None-clause-found : goal.returns-in_ok-insert-in-None-clause-found
returns-in_ok-insert-in-None-clause-found c =
    let none : get nat_eq c.args.found.now c.label_at-l.result ≡ None = search rules in
    noted_new c.args.labels.now (get nat_eq c.args.found.now) c.label_at-l.result c.args.v c.requires.place c.label_at-l.ensures none c.requires.found (get nat_eq c.insert.new.self) c.in_ok-insert-in-None.ensures.updates.0
