-- A function or method that a call finds by its number stands under that number.
use Rattle.std.proofs.Common.{◌≡◌, ℕ, zero, suc, List, [], ◌∷◌, Option, Some, ap}
use Rattle.std.specs.Prelude.{slice_get}
use Rattle.wy_core.specs.CoreTree.{Routine}
use Rattle.wy_vc.specs.wy_vc_spec.wy_sem.Evaluation.{Callee, Declared, Print, PrintInt, Undeclared, callee}

one_routine : (q r : Routine ℕ) → Declared q ≡ Declared r → q ≡ r
one_routine q r e = cc

pub found_at : (rs : List (Routine ℕ)) (f : ℕ) (r : Routine ℕ) → callee rs f ≡ Declared r → slice_get rs f ≡ Some r
found_at [] zero r e = let n : Callee ℕ = Print in let g : n ≡ Declared r = e in absurd cc
found_at [] (suc zero) r e = let n : Callee ℕ = PrintInt in let g : n ≡ Declared r = e in absurd cc
found_at [] (suc (suc f)) r e = let n : Callee ℕ = Undeclared in let g : n ≡ Declared r = e in absurd cc
found_at (q ∷ rs) zero r e = ap (λ (x : Routine ℕ). Some x) (one_routine q r e)
found_at (q ∷ rs) (suc f) r e = found_at rs f r e
