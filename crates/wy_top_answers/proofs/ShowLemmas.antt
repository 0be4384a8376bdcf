-- What sinks take of an answer.
use Rattle.std.proofs.Common.{◌≡◌, ◌∙◌, ℕ, List, [], length, Option, Some, None, arith, refl, sym, ap}
use Rattle.std.proofs.Math.Seq.{take-length}
use Rattle.std.proofs.lemmas.List.{append-nil}
use Rattle.wy_port.specs.Taken.{with_taken, TookFront}

-- what took nothing more is as before
pub with_taken-nil : (known : Option (List ℕ)) → known ≡ with_taken known []
with_taken-nil None = refl
with_taken-nil (Some bytes) = ap (λ (all : List ℕ). Some all) (sym (append-nil bytes))

-- nothing is a front of every text
pub took_nothing : (known : Option (List ℕ)) (text : List ℕ) → TookFront known known text
took_nothing known text = record { count = 0; within = omega arith; took = with_taken-nil known }

-- the whole is a front
pub took_whole : (before after : Option (List ℕ)) (text : List ℕ) → after ≡ with_taken before text → TookFront before after text
took_whole before after text e = record { count = length text; within = omega arith; took = e ∙ ap (with_taken before) (sym (take-length text)) }
