use Rattle.std.proofs.Common.{rules, ◌≡◌, ◌∙◌, ◌+◌, ◌-◌, ℕ, List, ◌∷◌, ◌++◌, length, reverse, set, ap, sym}
use Rattle.wy_code.specs.declared.pieces.steps.Step.{Step}
use Rattle.wy_code.specs.declared.pieces.steps.Step.TheVariants.{GoesBack}
use Rattle.wy_code.proofs.pieces_lemmas.StepLemmas.{put_back, back_length}
use Rattle.wy_code.proofs.pieces.steps.goes_back.Goals as goal

put_at : (all xs ys first old : List Step) (at b n : ℕ) (s : Step) → all ≡ reverse xs → all ≡ first ++ s ∷ old → length old ≡ at → b ≡ at + 1 → n ≡ length all - b → ys ≡ set xs at (GoesBack n) → reverse ys ≡ first ++ GoesBack (length first) ∷ old
put_at all xs ys first old at b n s seen h e more is put =
    let r : reverse xs ≡ first ++ s ∷ old = sym seen ∙ h in
    let m : n ≡ length (reverse xs) - (at + 1) = is ∙ ap (λ (k : ℕ). length all - k) more ∙ ap (λ (l : List Step). length l - (at + 1)) seen in
    ap reverse put ∙ put_back xs first old at s (GoesBack n) r e ∙ ap (λ (k : ℕ). first ++ GoesBack k ∷ old) (back_length xs first old at n s r e m)

pub returns : goal.returns
returns c = record {
  value = λ first old s h e. put_at c.args.steps c.steps.inside.backwards.items c.put.new.steps.items first old c.args.at c.in-Some.behind c.in_ok-count.count s (search rules) h e (search (rules, c.in-Some.ensures)) c.in_ok-count.ensures.value c.put.ensures.value;
}
