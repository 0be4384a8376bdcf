-- The frame of a routine has each register that its instructions name.
use Rattle.std.proofs.Common.{◌≤◌, ◌<◌, ℕ, List, [], ◌∷◌, arith}
use Rattle.std.specs.List.{All}
use Rattle.std.proofs.lemmas.List.Elements.{All-nil, All-cons}
use Rattle.wy_code.specs.declared.instructions.Instr.{Instr}
use Rattle.wy_code.specs.pieces.Placing.{above, registers_in, room}

above_holds : (rs : List ℕ) (k : ℕ) → above rs ≤ k → All (λ n. n < k) rs
above_holds [] k h = All-nil (λ n. n < k)
above_holds (r ∷ rs) k h = All-cons (λ n. n < k) r rs (omega arith) (above_holds rs k (omega arith))

pub room_holds : (is : List Instr) (k : ℕ) → room is ≤ k → All (λ i. All (λ n. n < k) (registers_in i)) is
room_holds [] k h = All-nil (λ i. All (λ n. n < k) (registers_in i))
room_holds (i ∷ is) k h = All-cons (λ i. All (λ n. n < k) (registers_in i)) i is (above_holds (registers_in i) k (omega arith)) (room_holds is k (omega arith))
