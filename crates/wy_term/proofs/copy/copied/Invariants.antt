use Rattle.std.proofs.Common.{◌<◌, All, length, nat_eq}
use Rattle.std.specs.HashMap.{get}
use Rattle.wy_term.specs.Numbers.{Keeps}
use Rattle.wy_term.specs.Copying.{AreCopied}
use Rattle.wy_term.proofs.copy.copied.Given as goal

abbrev pub invariant-loop-turn : goal.invariant-loop-turn
invariant-loop-turn l = record {
  made : AreCopied l.from l.terms (get nat_eq l.made);
  todo : All (λ k. k < length l.from) l.todo.items;
  keeps : Keeps l.initial.terms l.terms;
}
