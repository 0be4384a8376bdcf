use Rattle.std.proofs.Common.{rules}
use Rattle.wy_term.proofs.NumbersLemmas.{keeps_on}
use Rattle.wy_term.proofs.copy.copied.Goals as goal
use Rattle.wy_term.proofs.copy.copied.Goals.{in-Some+else-t-root+in_ok-note_copy, in_default}

pub note_copy-requires-clause-within : goal.note_copy-requires-clause-within
note_copy-requires-clause-within c = c.copied_from_parts.ensures.within

pub returns-in_err-r-clause-keeps : goal.returns-in_err-r-clause-keeps
returns-in_err-r-clause-keeps c = keeps_on _ _ _ c.loop-turn.invariant.keeps c.copied_from_parts.ensures.keeps

pub returns-then-t-root-clause-keeps : goal.returns-then-t-root-clause-keeps
returns-then-t-root-clause-keeps c = keeps_on _ _ _ c.loop-turn.invariant.keeps c.copied_from_parts.ensures.keeps

pub returns-in_err-note_copy-clause-keeps : goal.returns-in_err-note_copy-clause-keeps
returns-in_err-note_copy-clause-keeps c = keeps_on _ _ _ c.loop-turn.invariant.keeps c.copied_from_parts.ensures.keeps

pub loop-turn-preserved : goal.loop-turn-preserved
loop-turn-preserved c = record {
  made = elim c.match-branch-2.branch [
    | in-Some+else-t-root+in_ok-note_copy w ↦ rw w.made-is w.in_ok-note_copy.ensures.made
    | in_default w ↦ rw w.made-is c.copied_from_parts.ensures.made
  ];
  todo = c.copied_from_parts.ensures.todo;
  keeps = keeps_on _ _ _ c.loop-turn.invariant.keeps c.copied_from_parts.ensures.keeps;
}
