-- Where steps stand.
use Rattle.std.proofs.Common.{◌≡◌, ℕ, zero, suc, ◌+◌, ◌-◌, List, [], ◌∷◌, ◌++◌, length, Some, refl, subst, arith, append_assoc}
use Rattle.std.specs.Prelude.{slice_get, All}
use Rattle.std.proofs.lemmas.List.Elements.{All-head, All-tail}
use Rattle.wy_code.specs.declared.instructions.Instr.{Instr}
use Rattle.wy_code.specs.declared.instructions.Instr.TheVariants as instr
use Rattle.wy_lemmas.proofs.Options.{some_is}
use Rattle.wy_code.specs.declared.pieces.steps.Step.{Step}
use Rattle.wy_code.specs.declared.pieces.steps.Step.TheVariants.{Does, GoesOn, GoesBack, GoesOnUnless}
use Rattle.wy_code.specs.pieces.Placing.{placed}
use Rattle.wy_gen_laws.specs.Places.{StandAt}

pub stand_front : (body : List Instr) (at : ℕ) (a b : List Step) → StandAt body at (a ++ b) → StandAt body at a
stand_front body at [] b h = tt
stand_front body at (Does i ∷ a) b h = (h.0, stand_front body (at + 1) a b h.1)
stand_front body at (GoesOn n ∷ a) b h = (h.0, stand_front body (at + 1) a b h.1)
stand_front body at (GoesBack n ∷ a) b h = (h.0, stand_front body (at + 1) a b h.1)
stand_front body at (GoesOnUnless r n ∷ a) b h = (h.0, stand_front body (at + 1) a b h.1)

moved : (body : List Instr) (at place : ℕ) (steps : List Step) → at ≡ place → StandAt body at steps → StandAt body place steps
moved body at place steps e h = subst (λ (p : ℕ). StandAt body p steps) e h

pub stand_back : (body : List Instr) (at : ℕ) (a b : List Step) → StandAt body at (a ++ b) → StandAt body (at + length a) b
stand_back body at [] b h = moved body at (at + 0) b (omega arith) h
stand_back body at (Does i ∷ a) b h = moved body (at + 1 + length a) (at + suc (length a)) b (omega arith) (stand_back body (at + 1) a b h.1)
stand_back body at (GoesOn n ∷ a) b h = moved body (at + 1 + length a) (at + suc (length a)) b (omega arith) (stand_back body (at + 1) a b h.1)
stand_back body at (GoesBack n ∷ a) b h = moved body (at + 1 + length a) (at + suc (length a)) b (omega arith) (stand_back body (at + 1) a b h.1)
stand_back body at (GoesOnUnless r n ∷ a) b h = moved body (at + 1 + length a) (at + suc (length a)) b (omega arith) (stand_back body (at + 1) a b h.1)

pub stand_moved : (body : List Instr) (at place : ℕ) (steps : List Step) → at ≡ place → StandAt body at steps → StandAt body place steps
stand_moved = moved

-- ---- the body of a routine

get_behind : (front back : List Instr) (i : Instr) → slice_get (front ++ i ∷ back) (length front) ≡ Some i
get_behind [] back i = refl
get_behind (j ∷ front) back i = get_behind front back i

longer : (front : List Instr) (i : Instr) → length (front ++ i ∷ []) ≡ length front + 1
longer [] i = omega arith
longer (j ∷ front) i = let h = longer front i in omega (arith, h)

one_more : (front : List Instr) (at : ℕ) (i : Instr) (steps : List Step) → length front ≡ at → StandAt ((front ++ i ∷ []) ++ placed (suc at) steps) (suc at) steps
    → (slice_get (front ++ i ∷ placed (suc at) steps) at ≡ Some i) × StandAt (front ++ i ∷ placed (suc at) steps) (at + 1) steps
one_more front at i steps e rest =
    let here : slice_get (front ++ i ∷ placed (suc at) steps) at ≡ Some i = subst (λ (p : ℕ). slice_get (front ++ i ∷ placed (suc at) steps) p ≡ Some i) e (get_behind front (placed (suc at) steps) i) in
    let whole : (front ++ i ∷ []) ++ placed (suc at) steps ≡ front ++ i ∷ placed (suc at) steps = append_assoc front (i ∷ []) (placed (suc at) steps) in
    (here, moved (front ++ i ∷ placed (suc at) steps) (suc at) (at + 1) steps (omega arith) (subst (λ (b : List Instr). StandAt b (suc at) steps) whole rest))

size_more : (front : List Instr) (at : ℕ) (i : Instr) → length front ≡ at → length (front ++ i ∷ []) ≡ suc at
size_more front at i e = let long = longer front i in omega (arith, long, e)

-- the steps behind those in front
stand_behind : (front : List Instr) (at : ℕ) (steps : List Step) → length front ≡ at → StandAt (front ++ placed at steps) at steps
stand_behind front at [] e = tt
stand_behind front at (Does i ∷ steps) e = one_more front at i steps e (stand_behind (front ++ i ∷ []) (suc at) steps (size_more front at i e))
stand_behind front at (GoesOn n ∷ steps) e = one_more front at (instr.Jump (suc at + n)) steps e (stand_behind (front ++ instr.Jump (suc at + n) ∷ []) (suc at) steps (size_more front at (instr.Jump (suc at + n)) e))
stand_behind front at (GoesBack n ∷ steps) e = one_more front at (instr.Jump (at - n)) steps e (stand_behind (front ++ instr.Jump (at - n) ∷ []) (suc at) steps (size_more front at (instr.Jump (at - n)) e))
stand_behind front at (GoesOnUnless r n ∷ steps) e = one_more front at (instr.Branch r (suc at + n)) steps e (stand_behind (front ++ instr.Branch r (suc at + n) ∷ []) (suc at) steps (size_more front at (instr.Branch r (suc at + n)) e))

pub placed_stand : (steps : List Step) → StandAt (placed 0 steps) 0 steps
placed_stand steps = stand_behind [] 0 steps refl

-- ---- what is true of all

pub all_at : {A : Type 0} (P : A → Type 0) (xs : List A) (n : ℕ) (x : A) → All P xs → slice_get xs n ≡ Some x → P x
all_at P [] n x h e = absurd cc
all_at P (y ∷ xs) zero x h e = subst P (some_is y x e) (All-head P y xs h)
all_at P (y ∷ xs) (suc n) x h e = all_at P xs n x (All-tail P y xs h) e
