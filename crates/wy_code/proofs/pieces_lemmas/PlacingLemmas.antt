-- The instruction of the first of steps.
use Rattle.std.proofs.Common.{◌≡◌, ◌∙◌, ℕ, suc, max, List, [], ◌∷◌, ◌++◌, reverse, ap, sym, append_assoc, arith}
use Rattle.std.proofs.lemmas.List.{reverse-append}
use Rattle.wy_code.specs.declared.instructions.Instr.{Instr}
use Rattle.wy_code.specs.declared.pieces.steps.Step.{Step}
use Rattle.wy_code.specs.declared.pieces.steps.Step.TheVariants.{Does, GoesOn, GoesBack, GoesOnUnless}
use Rattle.wy_code.specs.pieces.Placing as spec

first_placed : (at : ℕ) (s : Step) (rest : List Step) (i : Instr) → i ∷ [] ≡ spec.placed at (s ∷ []) → spec.placed at (s ∷ rest) ≡ i ∷ spec.placed (suc at) rest
first_placed at (Does j) rest i h = cc
first_placed at (GoesOn n) rest i h = cc
first_placed at (GoesBack n) rest i h = cc
first_placed at (GoesOnUnless r n) rest i h = cc

-- the last of the steps that stand backwards is the first of the others
last_placed : (xs left : List Step) (at : ℕ) (s : Step) (i : Instr) → xs ≡ left ++ s ∷ [] → i ∷ [] ≡ spec.placed at (s ∷ []) → spec.placed at (reverse xs) ≡ i ∷ spec.placed (suc at) (reverse left)
last_placed xs left at s i h is =
    let a : reverse xs ≡ s ∷ reverse left = ap reverse h ∙ reverse-append left (s ∷ []) in
    ap (spec.placed at) a ∙ first_placed at s (reverse left) i is

-- one more in the body
pub body_more : (made more : List Instr) (xs left : List Step) (at then : ℕ) (s : Step) (i : Instr) → xs ≡ left ++ s ∷ [] → i ∷ [] ≡ spec.placed at (s ∷ []) → more ≡ made ++ i ∷ [] → then ≡ suc at
    → more ++ spec.placed then (reverse left) ≡ made ++ spec.placed at (reverse xs)
body_more made more xs left at then s i h is pushed next =
    ap (λ (l : List Instr). l ++ spec.placed then (reverse left)) pushed
    ∙ append_assoc made (i ∷ []) (spec.placed then (reverse left))
    ∙ ap (λ (n : ℕ). made ++ i ∷ spec.placed n (reverse left)) next
    ∙ ap (λ (l : List Instr). made ++ l) (sym (last_placed xs left at s i h is))

-- room for it
pub room_more : (registers more : ℕ) (xs left : List Step) (at then : ℕ) (s : Step) (i : Instr) → xs ≡ left ++ s ∷ [] → i ∷ [] ≡ spec.placed at (s ∷ []) → more ≡ max registers (spec.above (spec.registers_in i)) → then ≡ suc at
    → max more (spec.room (spec.placed then (reverse left))) ≡ max registers (spec.room (spec.placed at (reverse xs)))
room_more registers more xs left at then s i h is made next =
    ap (λ (n : ℕ). max more (spec.room (spec.placed n (reverse left)))) next
    ∙ ap (λ (n : ℕ). max n (spec.room (spec.placed (suc at) (reverse left)))) made
    ∙ max_three registers (spec.above (spec.registers_in i)) (spec.room (spec.placed (suc at) (reverse left)))
    ∙ ap (λ (l : List Instr). max registers (spec.room l)) (sym (last_placed xs left at s i h is))
  where
    max_three : (a b c : ℕ) → max (max a b) c ≡ max a (max b c)
    max_three a b c = omega arith
