-- Commands that come to an answer.
use Rattle.std.proofs.Common.{◌≡◌, Ok, Err, refl}
use Rattle.wy_top_answers.specs.Answers.{no_memory}
use Rattle.wy_top_answers.specs.Steps.{Setting, Came, Sense, and_then, Gives, Answers, done}
use Rattle.wy_top_answers.specs.declared.answer.Answer.{Answer}
use Rattle.wy_top_answers.proofs.StepLemmas.{value_gives, memory_gives, goes, ends_there}

-- the last step
pub done_gives : (s : Setting) (a : Answer) → Gives s (done a) (Ok a)
done_gives s a = value_gives s (done a) a refl (λ other h. h)

-- a last step that came to this answer
pub last_answers : (s : Setting) (step : Sense → Came Answer → Type 0) (a : Answer) → Gives s step (Ok a) → Answers s step a
last_answers s step a g = record { last = Ok a; gives = g; is = refl }

-- memory ran out
pub memory_answers : (s : Setting) (step : Sense → Came Answer → Type 0) (a : Answer) → a ≡ no_memory → Answers s step a
memory_answers s step a e = record { last = Err a; gives = memory_gives s step a e; is = refl }

-- a step that came to a value, and what the next one came to
pub then_answers : {X : Type 0} (s : Setting) (first : Sense → Came X → Type 0) (next : X → Sense → Came Answer → Type 0) (x : X) (a : Answer) → Gives s first (Ok x) → Answers s (next x) a → Answers s (and_then first next) a
then_answers s first next x a f n = record { last = n.last; gives = goes s first next x n.last f n.gives; is = n.is }

-- a step that came to an answer
pub ends_answers : {X : Type 0} (s : Setting) (first : Sense → Came X → Type 0) (next : X → Sense → Came Answer → Type 0) (a : Answer) → Gives s first (Err a) → Answers s (and_then first next) a
ends_answers s first next a f = record { last = Err a; gives = ends_there s first next a f; is = refl }

-- a value, of which the answer is made
pub value_answers : {X : Type 0} (s : Setting) (first : Sense → Came X → Type 0) (answer : X → Answer) (x : X) → Gives s first (Ok x) → Answers s (and_then first (λ y. done (answer y))) (answer x)
value_answers s first answer x f = then_answers s first (λ y. done (answer y)) x (answer x) f (last_answers s (done (answer x)) (answer x) (done_gives s (answer x)))
