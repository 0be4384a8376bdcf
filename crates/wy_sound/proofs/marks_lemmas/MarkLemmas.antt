-- What isn't marked behind an assignment or a declaration.
use Rattle.std.proofs.Common.{◌≡◌, ◌⊎◌, inl, inr, ℕ, List, Bool, true, false, not, cond, ◌==◌, sym, ap, ◌∙◌, subst}
use Rattle.wy_sound_programs.specs.wy_vc_spec.Spots.{is_set, mark}
use Rattle.wy_lemmas.proofs.Choices.{same_to as same_test, false_true as never, cond_less}
use Rattle.wy_sound_programs.proofs.SlotLemmas.{same_or_apart, apart_back, mark_same, mark_other}

-- whether the variable has no mark
abbrev pub unmarked : List Bool → ℕ → Bool
unmarked set x = not (is_set set x)

-- behind a declaration without a value the variable has none, and the others are as they were
pub declared_unset : (set : List Bool) (x y : ℕ) → unmarked (mark set x false) y ≡ true → cond (y == x) true (unmarked set y) ≡ true
declared_unset set x y e = by (same_or_apart y x) where
  by : (y ≡ x) ⊎ ((y == x) ≡ false) → cond (y == x) true (unmarked set y) ≡ true
  by (inl q) = ap (λ (b : Bool). cond b true (unmarked set y)) (same_test y x q)
  by (inr q) = ap (λ (b : Bool). cond b true (unmarked set y)) q ∙ (sym (ap not (mark_other set x false y (apart_back y x q))) ∙ e)

-- behind an assignment it has one
pub assigned_unset : (set : List Bool) (x y : ℕ) → unmarked (mark set x true) y ≡ true → cond (y == x) false (unmarked set y) ≡ true
assigned_unset set x y e = by (same_or_apart y x) where
  by : (y ≡ x) ⊎ ((y == x) ≡ false) → cond (y == x) false (unmarked set y) ≡ true
  by (inl q) = never (sym (ap not (subst (λ (z : ℕ). is_set (mark set x true) z ≡ true) (sym q) (mark_same set x true))) ∙ e)
  by (inr q) = ap (λ (b : Bool). cond b false (unmarked set y)) q ∙ (sym (ap not (mark_other set x true y (apart_back y x q))) ∙ e)

-- and what has none had none
pub assigned_less : (set : List Bool) (x y : ℕ) → unmarked (mark set x true) y ≡ true → unmarked set y ≡ true
assigned_less set x y e = cond_less (y == x) (unmarked set y) (assigned_unset set x y e)
