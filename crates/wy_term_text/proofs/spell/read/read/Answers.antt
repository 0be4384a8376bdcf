use Rattle.std.proofs.Common.{rules, arith, ◌≡◌, ℕ, List, [], ◌∷◌, ◌∙◌, MatchOption, subst, length, map, reverse}
use Rattle.wy_term.specs.Term.{Term}
use Rattle.wy_term_text.specs.spell.Todo.{a_term, Goes}
use Rattle.wy_term_text.specs.spell.Done.{trees, IsEnded, NotEnded, Turns, Blocks}
use Rattle.wy_term_text.specs.spell.View.{seen, sort_seen}
use Rattle.wy_term_text.proofs.spell_lemmas.ReadLemmas.{end_of, end_covers, end_within, none_left, goes_on_sound, goes_on_complete, stops}
use Rattle.wy_term_text.proofs.spell.read.read.Goals as goal

pub returns-in_default-clause-spells : goal.returns-in_default-clause-spells
returns-in_default-clause-spells c =
    let empty : length c.loop-turn.todo.items ≡ 0 = omega (arith, c.in_default.ensures.cases.0) in
    let ended : MatchOption c.ended.result (NotEnded c.loop-turn.rest.now c.loop-turn.done.items) (λ t. IsEnded c.loop-turn.rest.now c.loop-turn.done.items t) =
    subst (λ (d : List ℕ). MatchOption c.ended.result (NotEnded c.loop-turn.rest.now d) (λ t. IsEnded c.loop-turn.rest.now d t)) c.deref.ensures.value c.ended.ensures.value in
    end_of (sort_seen c.args.sort) c.args.text.now c.loop-turn.rest.now c.loop-turn.todo.items c.loop-turn.terms c.loop-turn.done.items c.ended.result (none_left c.loop-turn.todo.items empty) ended c.loop-turn.invariant.sound

pub returns-in_default-clause-exact : goal.returns-in_default-clause-exact
returns-in_default-clause-exact c =
    let empty : length c.loop-turn.todo.items ≡ 0 = omega (arith, c.in_default.ensures.cases.0) in
    let ended : MatchOption c.ended.result (NotEnded c.loop-turn.rest.now c.loop-turn.done.items) (λ t. IsEnded c.loop-turn.rest.now c.loop-turn.done.items t) =
    subst (λ (d : List ℕ). MatchOption c.ended.result (NotEnded c.loop-turn.rest.now d) (λ t. IsEnded c.loop-turn.rest.now d t)) c.deref.ensures.value c.ended.ensures.value in
    end_covers (sort_seen c.args.sort) c.args.text.now c.loop-turn.rest.now c.loop-turn.todo.items c.loop-turn.terms c.loop-turn.done.items c.ended.result (none_left c.loop-turn.todo.items empty) ended c.loop-turn.invariant.complete

pub returns-in_default-clause-within : goal.returns-in_default-clause-within
returns-in_default-clause-within c =
    let ended : MatchOption c.ended.result (NotEnded c.loop-turn.rest.now c.loop-turn.done.items) (λ t. IsEnded c.loop-turn.rest.now c.loop-turn.done.items t) =
    subst (λ (d : List ℕ). MatchOption c.ended.result (NotEnded c.loop-turn.rest.now d) (λ t. IsEnded c.loop-turn.rest.now d t)) c.deref.ensures.value c.ended.ensures.value in
    end_within c.loop-turn.rest.now c.loop-turn.done.items (length c.loop-turn.terms) c.ended.result ended c.loop-turn.invariant.below

pub returns-in-None-clause-exact : goal.returns-in-None-clause-exact
returns-in-None-clause-exact c =
    let blocks : Blocks (seen c.in-Some.task) c.loop-turn.rest.now (trees c.loop-turn.terms c.loop-turn.done.items) (map seen (reverse c.pop.new.self.items)) = search rules in
    stops (sort_seen c.args.sort) c.args.text.now c.loop-turn.todo.items c.pop.new.self.items c.in-Some.task c.loop-turn.rest.now (trees c.loop-turn.terms c.loop-turn.done.items) c.in-Some.ensures.items blocks c.loop-turn.invariant.complete

pub loop-turn-preserved : goal.loop-turn-preserved
loop-turn-preserved c =
    let spelled = λ (r : Term). Goes (a_term (sort_seen c.args.sort) ∷ []) c.args.text.now [] r in
    let turns : Turns (seen c.in-Some.task) c.loop-turn.rest.now (trees c.loop-turn.terms c.loop-turn.done.items) (map seen (reverse c.pop.new.self.items)) (map seen (reverse c.turn.new.todo.items)) c.in-Some-2.left.now (trees c.turn.new.terms c.turn.new.done.items) = search rules in
    record {
      sound = goes_on_sound spelled c.loop-turn.todo.items c.pop.new.self.items c.turn.new.todo.items c.in-Some.task c.loop-turn.rest.now c.in-Some-2.left.now (trees c.loop-turn.terms c.loop-turn.done.items) (trees c.turn.new.terms c.turn.new.done.items) c.in-Some.ensures.items turns c.loop-turn.invariant.sound;
      complete = goes_on_complete spelled c.loop-turn.todo.items c.pop.new.self.items c.turn.new.todo.items c.in-Some.task c.loop-turn.rest.now c.in-Some-2.left.now (trees c.loop-turn.terms c.loop-turn.done.items) (trees c.turn.new.terms c.turn.new.done.items) c.in-Some.ensures.items turns c.loop-turn.invariant.complete;
      below = search rules;
      kept = λ t lt. c.in_ok-turn.ensures.kept t (omega (arith, lt, c.loop-turn.invariant.grows)) ∙ c.loop-turn.invariant.kept t lt;
      grows = omega (arith, c.in_ok-turn.ensures.grows, c.loop-turn.invariant.grows);
    }
