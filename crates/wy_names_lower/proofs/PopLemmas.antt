-- What is made from a list, its last item first.
use Rattle.std.proofs.Common.{◌≡◌, ℕ, Bool, List, [], ◌∷◌, ◌++◌, map, refl, ap}
use Rattle.wy_core.specs.CoreTree as core
use Rattle.wy_names_lower.specs.declared.quantifiers.Head as head
use Rattle.wy_names_lower.specs.declared.choices.Arm as arm
use Rattle.wy_names_lower.specs.ExprsLowered.{quantified, quant_of}
use Rattle.wy_names_lower.specs.StmtsLowered.{chain, choice}
use Rattle.wy_names_lower.specs.SeenPairs.{seen_head, seen_arm}

pub quantified_last : (at : ℕ) (all : Bool) (hs : List head.Head) (h : head.Head) (body : core.Expr ℕ)
    → quantified at all (map seen_head (hs ++ h ∷ [])) body ≡ quantified at all (map seen_head hs) (quant_of at all (seen_head h) body)
quantified_last at all [] h body = refl
quantified_last at all (x ∷ xs) h body = ap (quant_of at all (seen_head x)) (quantified_last at all xs h body)

pub chain_last : (at : ℕ) (arms : List arm.Arm) (a : arm.Arm) (last : List (core.Stmt ℕ))
    → chain at (map seen_arm (arms ++ a ∷ [])) last ≡ chain at (map seen_arm arms) (choice at (seen_arm a) last)
chain_last at [] a last = refl
chain_last at (x ∷ xs) a last = ap (choice at (seen_arm x)) (chain_last at xs a last)
