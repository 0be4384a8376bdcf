-- The counts of a run.
use Rattle.std.proofs.Common.{◌≡◌, ℕ, List, Option, None, map, sym, subst}
use Rattle.std.specs.Prelude.{Vec}
use Rattle.std.specs.declared.alloc.Global.{Global}
use Rattle.wy_value.specs.Datum.{Datum}
use Rattle.wy_value.specs.Seen.{seen}
use Rattle.wy_code.specs.declared.routines.Code.{Code}
use Rattle.wy_mach.specs.SharedTurns.{RanShared}
use Rattle.wy_mach.specs.declared.runs.RunEnd.{RunEnd as MachineEnd}
use Rattle.wy_mach.specs.declared.runs.RunEnd.TheVariants as run_end
use Rattle.wy_mach_run.specs.Running.{Closes, Counts, CountsSo, SameCounts, most_holders}
use Rattle.wy_mach_run.specs.declared.end.RunEnd.{RunEnd}
use Rattle.wy_mach_run.specs.declared.end.RunEnd.TheVariants.{Done, Spent, OutFault}
use Rattle.wy_mach_run.specs.declared.parts.Start.{Start}

-- whatever the text
counts_of : (code : Code) (entry : ℕ) (args : List Datum) (steps : ℕ) (text : Option (Vec ℕ Global)) (copies nodes : ℕ) → RanShared code entry args steps most_holders (run_end.Done text copies nodes) → Counts code entry args steps copies nodes
counts_of code entry args steps text copies nodes h = record { first = h.first; is = h.is; starts = h.starts; cap_is = h.cap_is; none = h.none; begins = h.begins; done = h.done }

pub counts_so : (s : Start) (steps : ℕ) (end : MachineEnd) (e : RunEnd) → RanShared s.code s.entry (map seen s.args) steps most_holders end → SameCounts end e → CountsSo s steps e
counts_so s steps end Spent h same = tt
counts_so s steps end OutFault h same = tt
counts_so s steps (run_end.Done text copies nodes) (Done c n) h same =
    let counts = counts_of s.code s.entry (map seen s.args) steps text copies nodes h in
    subst (λ (m : ℕ). Counts s.code s.entry (map seen s.args) steps c m) (sym same.1) (subst (λ (m : ℕ). Counts s.code s.entry (map seen s.args) steps m nodes) (sym same.0) counts)
counts_so s steps run_end.Spent (Done c n) h same = absurd same
counts_so s steps run_end.OutFault (Done c n) h same = absurd same

-- what is closed with these counts keeps them
pub closed_counts : (text : Option (Vec ℕ Global)) (copies nodes : ℕ) (before after : Option (List ℕ)) (failed fails : ℕ) (end : MachineEnd) (e : RunEnd) → end ≡ run_end.Done text copies nodes → Closes text copies nodes before after failed fails e → SameCounts end e
closed_counts text copies nodes before after failed fails end e is closes = subst (λ (m : MachineEnd). SameCounts m e) (sym is) (by e closes)
  where
    by : (e : RunEnd) → Closes text copies nodes before after failed fails e → SameCounts (run_end.Done text copies nodes) e
    by (Done c n) h = (h.0, h.1)
    by Spent h = tt
    by OutFault h = tt
