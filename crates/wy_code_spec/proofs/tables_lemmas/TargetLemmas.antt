-- What a number calls, by the place of the number.
use Rattle.std.proofs.Common.{◌≡◌, ◌≤◌, ◌<◌, ◌-◌, ◌∙◌, ℕ, zero, suc, Bool, List, [], ◌∷◌, length, get_or, refl, ap, arith}
use Rattle.wy_code_spec.specs.tables.Tables.{target}
use Rattle.wy_code_spec.specs.declared.tables.targets.Target.{Target}
use Rattle.wy_code_spec.specs.declared.tables.targets.Target.TheVariants.{Declared}

pub declared_target : (results : List Bool) (n : ℕ) (d : Bool) → n < length results → target results n ≡ Declared (get_or results n d)
declared_target [] n d h = absurd (omega arith)
declared_target (b ∷ bs) zero d h = refl
declared_target (b ∷ bs) (suc n) d h = declared_target bs n d (omega arith)

pub other_target : (results : List Bool) (n : ℕ) → length results ≤ n → target results n ≡ target [] (n - length results)
other_target [] n h = ap (target []) (omega arith)
other_target (b ∷ bs) zero h = absurd (omega arith)
other_target (b ∷ bs) (suc n) h = other_target bs n (omega arith) ∙ ap (target []) (omega arith)
