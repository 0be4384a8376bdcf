-- The longest path of the code, as far as it was looked through.
use Rattle.std.proofs.Common.{◌≡◌, inl, inr, ℕ, zero, suc, ◌+◌, ◌≤◌, ◌<◌, List, [], ◌∷◌, length, get_or, Some, ◌∙◌, subst, arith}
use Rattle.std.specs.Prelude.{slice_get}
use Rattle.std.proofs.lemmas.Bool.{cases_eq}
use Rattle.wy_code.specs.declared.instructions.Instr.{Instr}
use Rattle.wy_code.specs.declared.routines.Routine.{Routine}
use Rattle.wy_mach.specs.States.{InstrPathFits, BodyPathsFit, RoutinesPathsFit}

found : {X : Type 0} (xs : List X) (i : ℕ) (x d : X) → slice_get xs i ≡ Some x → get_or xs i d ≡ x
found [] i x d is = absurd (cc)
found (y ∷ ys) zero x d is = cc
found (y ∷ ys) (suc i) x d is = found ys i x d is

found_within : {X : Type 0} (xs : List X) (i : ℕ) (x : X) → slice_get xs i ≡ Some x → i < length xs
found_within [] i x is = absurd (cc)
found_within (y ∷ ys) zero x is = omega arith
found_within (y ∷ ys) (suc i) x is = omega (arith, found_within ys i x is)

instr_longer : (i : Instr) (few many : ℕ) → few ≤ many → InstrPathFits i few → InstrPathFits i many
instr_longer i few many more fits a path v is = omega (arith, more, fits a path v is)

body_longer : (body : List Instr) (few many : ℕ) → few ≤ many → BodyPathsFit body few → BodyPathsFit body many
body_longer body few many more fits at i is = instr_longer i few many more (fits at i is)

-- one instruction more
pub instrs_more : (body : List Instr) (n few many : ℕ) (here : Instr) → here ≡ get_or body n here → few ≤ many → InstrPathFits here many → ((at : ℕ) (i : Instr) → at < n → slice_get body at ≡ Some i → InstrPathFits i few)
    → (at : ℕ) (i : Instr) → at < n + 1 → slice_get body at ≡ Some i → InstrPathFits i many
instrs_more body n few many here is more fits before at i below there = elim (cases_eq at n) [
  | inl same ↦
      let i_is : get_or body n here ≡ i = found body n i here (subst (λ (k : ℕ). slice_get body k ≡ Some i) same there) in
      subst (λ (j : Instr). InstrPathFits j many) (is ∙ i_is) fits
  | inr differ ↦ instr_longer i few many more (before at i (omega (arith, below, differ)) there)
]

-- all instructions
pub all_instrs : (body : List Instr) (n most : ℕ) → length body ≤ n → ((at : ℕ) (i : Instr) → at < n → slice_get body at ≡ Some i → InstrPathFits i most) → BodyPathsFit body most
all_instrs body n most past before at i there = before at i (omega (arith, past, found_within body at i there)) there

-- one routine more
pub routines_more : (routines : List Routine) (n few many : ℕ) (here : Routine) → here ≡ get_or routines n here → few ≤ many → BodyPathsFit here.body many → ((f : ℕ) (r : Routine) → f < n → slice_get routines f ≡ Some r → BodyPathsFit r.body few)
    → (f : ℕ) (r : Routine) → f < n + 1 → slice_get routines f ≡ Some r → BodyPathsFit r.body many
routines_more routines n few many here is more fits before f r below there = elim (cases_eq f n) [
  | inl same ↦
      let r_is : get_or routines n here ≡ r = found routines n r here (subst (λ (k : ℕ). slice_get routines k ≡ Some r) same there) in
      subst (λ (q : Routine). BodyPathsFit q.body many) (is ∙ r_is) fits
  | inr differ ↦ body_longer r.body few many more (before f r (omega (arith, below, differ)) there)
]

-- all routines
pub all_routines : (routines : List Routine) (n most : ℕ) → length routines ≤ n → ((f : ℕ) (r : Routine) → f < n → slice_get routines f ≡ Some r → BodyPathsFit r.body most) → RoutinesPathsFit routines most
all_routines routines n most past before f r there = before f r (omega (arith, past, found_within routines f r there)) there
