-- Which program is started, from which entry and on which values?
use Rattle.std.specs.Prelude.{◌≡◌, ℕ, List, map}
use Rattle.wy_core.specs.CoreTree.{Core}
use Rattle.wy_top.specs.wy_mach_run.Entries.{IsEntry}
use Rattle.wy_top.specs.wy_mach_run.Starting.{IsMet}
use Rattle.wy_top.specs.wy_top_answers.Steps.{Setting}
use Rattle.wy_top.specs.Acceptance.{Acceptance}
use Rattle.wy_value.specs.ArgumentText.{Spells}
use Rattle.wy_value.specs.Seen.{seen, seen_items}
use Rattle.wy_value.specs.Values.{AreValues}
use Rattle.wy_value.specs.declared.value.Value.{Value}
use Rattle.wy_headline.specs.Accepted.{AcceptsFile}
use Rattle.wy_headline.specs.Runs.{Entry}

-- the name names this entry of the program, and the text spells these values, which meet it; to tell so takes no more turns than may be made
pub record IsStart (core : Core ℕ) (name arguments : List ℕ) (e : Entry) : Type 0 where
  pub of : e.core ≡ core
  pub named : IsEntry core name e.number e.routine
  pub args : List Value
  pub spelled : Spells arguments args
  pub proper : AreValues (seen_items args)
  pub values : e.values ≡ map seen args
  pub met : IsMet core e.number args

-- so it is with the program of the accepted source in this file, and these are the lines for certificates that aren't valid
pub record IsStarted (s : Setting) (source cert name arguments : List ℕ) (budget : ℕ) (lines : List ℕ) (e : Entry) : Type 0 where
  pub acceptance : Acceptance
  pub file : AcceptsFile s source cert budget acceptance
  pub lines_are : lines ≡ acceptance.lines
  pub starts : IsStart acceptance.program.core name arguments e
