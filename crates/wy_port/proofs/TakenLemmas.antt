-- Taking bytes in pieces is taking them at once.
use Rattle.std.proofs.Common.{◌≡◌, ℕ, ◌+◌, ◌-◌, arith, length, List, ◌++◌, take, drop, Option, Some, None, refl, ap, ◌∙◌, sym, append_assoc}
use Rattle.std.proofs.lemmas.List.{take_all, length-drop}
use Rattle.std.proofs.Math.Seq.{take-add}
use Rattle.wy_port.specs.Taken.{with_taken}

pub with_taken-append : (known : Option (List ℕ)) (a b : List ℕ) → with_taken (with_taken known a) b ≡ with_taken known (a ++ b)
with_taken-append None a b = refl
with_taken-append (Some bytes) a b = ap (λ (all : List ℕ). Some all) (append_assoc bytes a b)

-- where a front was taken and then a front of the rest, both together are a front
pub fronts_join : (before between after : Option (List ℕ)) (done more : ℕ) (bytes : List ℕ) → between ≡ with_taken before (take done bytes) → after ≡ with_taken between (take more (take (length bytes - done) (drop done bytes))) → after ≡ with_taken before (take (done + more) bytes)
fronts_join before between after done more bytes so_far next =
    let rest : take (length bytes - done) (drop done bytes) ≡ drop done bytes = take_all (length bytes - done) (drop done bytes) (omega (arith, length-drop done bytes)) in
    next ∙ ap (λ (all : List ℕ). with_taken between (take more all)) rest
    ∙ ap (λ (known : Option (List ℕ)). with_taken known (take more (drop done bytes))) so_far
    ∙ with_taken-append before (take done bytes) (take more (drop done bytes))
    ∙ ap (λ (all : List ℕ). with_taken before all) (sym (take-add done more bytes))
