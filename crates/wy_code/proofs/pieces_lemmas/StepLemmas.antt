-- Steps before others, and a step put in place of another.
use Rattle.std.proofs.Common.{◌≡◌, ◌∙◌, ◌<◌, ◌+◌, ◌-◌, ℕ, suc, List, [], ◌∷◌, ◌++◌, length, reverse, set, ap, sym, append_assoc, length-append, arith}
use Rattle.std.proofs.Math.Seq.{set-append_seam}
use Rattle.std.proofs.lemmas.List.{reverse-append, reverse-reverse, length-reverse}
use Rattle.wy_code.specs.declared.pieces.steps.Step.{Step}
use Rattle.wy_code.specs.declared.pieces.steps.Step.TheVariants.{GoesBack, GoesOnUnless}
use Rattle.wy_code.specs.pieces.Steps as spec

-- the step behind so many others is put in place of the one that stands there
pub put_back : (xs first old : List Step) (at : ℕ) (s new : Step) → reverse xs ≡ first ++ s ∷ old → length old ≡ at → reverse (set xs at new) ≡ first ++ new ∷ old
put_back xs first old at s new h e =
    let a : xs ≡ reverse old ++ s ∷ reverse first = sym (reverse-reverse xs) ∙ ap reverse h ∙ reverse-append first (s ∷ old) ∙ turned s in
    let b : set (reverse old ++ s ∷ reverse first) at new ≡ reverse old ++ new ∷ reverse first =
    ap (λ (k : ℕ). set (reverse old ++ s ∷ reverse first) k new) (sym e ∙ sym (length-reverse old)) ∙ set-append_seam (reverse old) s (reverse first) new in
    let d : reverse (set xs at new) ≡ reverse (reverse old ++ new ∷ reverse first) = ap reverse (ap (λ (l : List Step). set l at new) a ∙ b) in
    d ∙ ap reverse (sym (turned new)) ∙ ap reverse (sym (reverse-append first (new ∷ old))) ∙ reverse-reverse (first ++ new ∷ old)
  where
    turned : (t : Step) → reverse (t ∷ old) ++ reverse first ≡ reverse old ++ t ∷ reverse first
    turned t = ap (λ (l : List Step). l ++ reverse first) (reverse-append (t ∷ []) old) ∙ append_assoc (reverse old) (t ∷ []) (reverse first)

-- how many steps stand before it
pub back_length : (xs first old : List Step) (at n : ℕ) (s : Step) → reverse xs ≡ first ++ s ∷ old → length old ≡ at → n ≡ length (reverse xs) - (at + 1) → n ≡ length first
back_length xs first old at n s h e is = omega (arith, ap length h, length-append first (s ∷ old))

-- one register more of those that are left
pub registers_more : (made more : List ℕ) (here then n k : ℕ) → more ≡ made ++ here ∷ [] → then ≡ suc here → k < n → more ++ spec.registers_from then (n - (k + 1)) ≡ made ++ spec.registers_from here (n - k)
registers_more made more here then n k pushed next h =
    let e : n - k ≡ suc (n - (k + 1)) = omega arith in
    let a : spec.registers_from here (n - k) ≡ here ∷ spec.registers_from (suc here) (n - (k + 1)) = ap (spec.registers_from here) e in
    let b : (made ++ here ∷ []) ++ spec.registers_from then (n - (k + 1)) ≡ made ++ here ∷ spec.registers_from then (n - (k + 1)) = append_assoc made (here ∷ []) (spec.registers_from then (n - (k + 1))) in
    cc

-- how many steps stand before the step back and from it on up to what stands behind
pub body_length : (body old steps : List Step) (end n : ℕ) → steps ≡ body ++ GoesBack 0 ∷ old → length old ≡ end → n ≡ length steps - end → n ≡ length body + 1
body_length body old steps end n h e is = omega (arith, ap length h, length-append body (GoesBack 0 ∷ old))

-- turns whose step back stands before others
pub turns_before : (test body old : List Step) (r : ℕ) → (test ++ GoesOnUnless r (length body + 1) ∷ body) ++ GoesBack (length (test ++ GoesOnUnless r (length body + 1) ∷ body)) ∷ old ≡ spec.turns test r body ++ old
turns_before test body old r = simp append_assoc

pub turns_apart : (test body old : List Step) (r : ℕ) → test ++ GoesOnUnless r (length body + 1) ∷ (body ++ GoesBack 0 ∷ old) ≡ (test ++ GoesOnUnless r (length body + 1) ∷ body) ++ GoesBack 0 ∷ old
turns_apart test body old r = sym (append_assoc test (GoesOnUnless r (length body + 1) ∷ body) (GoesBack 0 ∷ old))
