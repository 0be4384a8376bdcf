-- Jumps that stay within a piece of code and so many steps behind it.
use Rattle.std.proofs.Common.{◌≡◌, ◌∙◌, ◌≤◌, ◌+◌, ◌-◌, ℕ, suc, List, [], ◌∷◌, ◌++◌, length, refl, ap, subst, sym, length-append, arith}
use Rattle.std.specs.List.{All}
use Rattle.std.proofs.lemmas.List.Elements.{All-nil, All-cons}
use Rattle.wy_code.specs.declared.instructions.Instr.{Instr}
use Rattle.wy_code.specs.declared.instructions.Instr.TheVariants as instr
use Rattle.wy_code.specs.declared.pieces.steps.Step.{Step}
use Rattle.wy_code.specs.declared.pieces.steps.Step.TheVariants.{Does, GoesOn, GoesBack, GoesOnUnless}
use Rattle.wy_code.specs.pieces.Steps.{clear, dropped, fork, over, turns, where_true}
use Rattle.wy_code.specs.pieces.Placing.{placed}
use Rattle.wy_code_spec.specs.compiled.Ranges.{targets_in}

-- no jump goes over more than so many steps behind the code
abbrev pub Within : ℕ → List Step → Type 0
Within b [] = Unit {0}
Within b (Does i ∷ rest) = (targets_in i ≡ []) × Within b rest
Within b (GoesOn n ∷ rest) = (n ≤ length rest + b) × Within b rest
Within b (GoesBack n ∷ rest) = Within b rest
Within b (GoesOnUnless r n ∷ rest) = (n ≤ length rest + b) × Within b rest

pub within_more : (a b : ℕ) (xs : List Step) → a ≤ b → Within a xs → Within b xs
within_more a b [] h w = tt
within_more a b (Does i ∷ xs) h w = (w.0, within_more a b xs h w.1)
within_more a b (GoesOn n ∷ xs) h w = (omega (arith, w.0), within_more a b xs h w.1)
within_more a b (GoesBack n ∷ xs) h w = within_more a b xs h w
within_more a b (GoesOnUnless r n ∷ xs) h w = (omega (arith, w.0), within_more a b xs h w.1)

pub within_append : (b : ℕ) (xs ys : List Step) → Within (length ys + b) xs → Within b ys → Within b (xs ++ ys)
within_append b [] ys w v = v
within_append b (Does i ∷ xs) ys w v = (w.0, within_append b xs ys w.1 v)
within_append b (GoesOn n ∷ xs) ys w v = (omega (arith, w.0, length-append xs ys), within_append b xs ys w.1 v)
within_append b (GoesBack n ∷ xs) ys w v = within_append b xs ys w v
within_append b (GoesOnUnless r n ∷ xs) ys w v = (omega (arith, w.0, length-append xs ys), within_append b xs ys w.1 v)

-- ---- pieces

pub clear_within : (b : ℕ) (rs : List ℕ) → Within b (clear rs)
clear_within b [] = tt
clear_within b (r ∷ rs) = (refl, tt)

pub dropped_within : (b r free : ℕ) → Within b (dropped r free)
dropped_within b r free = (refl, (refl, tt))

pub where_true_within : (b r : ℕ) (first : List Step) → Within b first → Within b (where_true r first)
where_true_within b r [] w = tt
where_true_within b r (s ∷ first) w = (omega arith, w)

pub fork_within : (b r : ℕ) (first second : List Step) → Within (over second + b) first → Within b second → Within b (fork r first second)
fork_within b r first [] w v = where_true_within b r first (within_more (0 + b) b first (omega arith) w)
fork_within b r first (s ∷ second) w v =
    (omega (arith, length-append first (GoesOn (length (s ∷ second)) ∷ s ∷ second)), within_append b first (GoesOn (length (s ∷ second)) ∷ s ∷ second) (within_more (over (s ∷ second) + b) (length (GoesOn (length (s ∷ second)) ∷ s ∷ second) + b) first (omega arith) w) (omega arith, v))

-- both codes stay within what is behind the fork
pub fork_inside : (b r : ℕ) (first second : List Step) → Within b first → Within b second → Within b (fork r first second)
fork_inside b r first second w v = fork_within b r first second (within_more b (over second + b) first (omega arith) w) v

pub turns_within : (b : ℕ) (test : List Step) (r : ℕ) (body : List Step) → Within 0 test → Within (suc b) body → Within b (turns test r body)
turns_within b test r body w v =
    let end = GoesBack (length (test ++ GoesOnUnless r (length body + 1) ∷ body)) ∷ [] in
    within_append b test (GoesOnUnless r (length body + 1) ∷ (body ++ end)) (within_more 0 (length (GoesOnUnless r (length body + 1) ∷ (body ++ end)) + b) test (omega arith) w)
    (omega (arith, length-append body end), within_append b body end (within_more (suc b) (length end + b) body (omega arith) v) tt)

-- ---- instructions

-- each jump of code that stands from this number on goes at most so far behind it
pub placed_within : (at b : ℕ) (xs : List Step) → Within b xs → (n : ℕ) → at + length xs + b ≤ n → All (λ i. All (λ t. t ≤ n) (targets_in i)) (placed at xs)
placed_within at b [] w n h = All-nil (λ i. All (λ t. t ≤ n) (targets_in i))
placed_within at b (Does i ∷ xs) w n h =
    All-cons (λ i. All (λ t. t ≤ n) (targets_in i)) i (placed (suc at) xs) (subst (λ (l : List ℕ). All (λ t. t ≤ n) l) (sym w.0) (All-nil (λ t. t ≤ n))) (placed_within (suc at) b xs w.1 n (omega arith))
placed_within at b (GoesOn k ∷ xs) w n h =
    All-cons (λ i. All (λ t. t ≤ n) (targets_in i)) (instr.Jump (suc at + k)) (placed (suc at) xs) (All-cons (λ t. t ≤ n) (suc at + k) [] (omega (arith, w.0)) (All-nil (λ t. t ≤ n))) (placed_within (suc at) b xs w.1 n (omega arith))
placed_within at b (GoesBack k ∷ xs) w n h =
    All-cons (λ i. All (λ t. t ≤ n) (targets_in i)) (instr.Jump (at - k)) (placed (suc at) xs) (All-cons (λ t. t ≤ n) (at - k) [] (omega arith) (All-nil (λ t. t ≤ n))) (placed_within (suc at) b xs w n (omega arith))
placed_within at b (GoesOnUnless r k ∷ xs) w n h =
    All-cons (λ i. All (λ t. t ≤ n) (targets_in i)) (instr.Branch r (suc at + k)) (placed (suc at) xs) (All-cons (λ t. t ≤ n) (suc at + k) [] (omega (arith, w.0)) (All-nil (λ t. t ≤ n))) (placed_within (suc at) b xs w.1 n (omega arith))

-- as many instructions as steps
pub placed_length : (at : ℕ) (xs : List Step) → length (placed at xs) ≡ length xs
placed_length at [] = refl
placed_length at (Does i ∷ xs) = ap suc (placed_length (suc at) xs)
placed_length at (GoesOn k ∷ xs) = ap suc (placed_length (suc at) xs)
placed_length at (GoesBack k ∷ xs) = ap suc (placed_length (suc at) xs)
placed_length at (GoesOnUnless r k ∷ xs) = ap suc (placed_length (suc at) xs)

moved : (at : ℕ) (xs ys : List Step) → placed (suc at) xs ++ placed (suc at + length xs) ys ≡ placed (suc at) xs ++ placed (at + suc (length xs)) ys
moved at xs ys = ap (λ (n : ℕ). placed (suc at) xs ++ placed n ys) (omega arith)

pub placed_append : (at : ℕ) (xs ys : List Step) → placed at (xs ++ ys) ≡ placed at xs ++ placed (at + length xs) ys
placed_append at [] ys = ap (λ (n : ℕ). placed n ys) (omega arith)
placed_append at (Does i ∷ xs) ys = ap (λ (l : List Instr). i ∷ l) (placed_append (suc at) xs ys ∙ moved at xs ys)
placed_append at (GoesOn k ∷ xs) ys = ap (λ (l : List Instr). instr.Jump (suc at + k) ∷ l) (placed_append (suc at) xs ys ∙ moved at xs ys)
placed_append at (GoesBack k ∷ xs) ys = ap (λ (l : List Instr). instr.Jump (at - k) ∷ l) (placed_append (suc at) xs ys ∙ moved at xs ys)
placed_append at (GoesOnUnless r k ∷ xs) ys = ap (λ (l : List Instr). instr.Branch r (suc at + k) ∷ l) (placed_append (suc at) xs ys ∙ moved at xs ys)
