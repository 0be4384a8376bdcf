-- What is asked for doesn't depend on the number of workers.
use Rattle.std.proofs.Common.{◌≡◌, ◌∙◌, ℕ, Option, Some, None, option_map, refl, sym, ap}
use Rattle.std.specs.Prelude.{option_and_then}
use Rattle.wy_top_words.specs.CommandLine.{Asked, NeverByWorkers, Order, asked, with_workers}
use Rattle.wy_top_words.specs.declared.command.Kind.TheVariants as kind

abbrev only : Option Order → Option Asked
only o = option_map (λ (x : Order). x.asked) o

-- with some number of workers the order asks for what is asked
only_asked : (a : Option Asked) (w : Option ℕ) (n : ℕ) → w ≡ Some n → only (option_and_then (λ x. option_map (with_workers x) w) a) ≡ a
only_asked None w n is = refl
only_asked (Some x) w n is = ap (λ (v : Option ℕ). only (option_map (with_workers x) v)) is

pub never_by_workers : NeverByWorkers
never_by_workers kind.Check g t u n m a b = only_asked (asked kind.Check g) _ n a ∙ sym (only_asked (asked kind.Check g) _ m b)
never_by_workers kind.Run g t u n m a b = only_asked (asked kind.Run g) _ n a ∙ sym (only_asked (asked kind.Run g) _ m b)
never_by_workers kind.Prove g t u n m a b = only_asked (asked kind.Prove g) _ n a ∙ sym (only_asked (asked kind.Prove g) _ m b)
never_by_workers kind.Conds g t u n m a b = refl
never_by_workers kind.Fmt g t u n m a b = refl
never_by_workers kind.Dis g t u n m a b = refl
never_by_workers kind.Big g t u n m a b = only_asked (asked kind.Big g) _ n a ∙ sym (only_asked (asked kind.Big g) _ m b)
never_by_workers kind.Probe g t u n m a b = refl
never_by_workers kind.Again g t u n m a b = only_asked (asked kind.Again g) _ n a ∙ sym (only_asked (asked kind.Again g) _ m b)
