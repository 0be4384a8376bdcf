use Rattle.wy_top_answers.proofs.report_lemmas.RowsHold.{rows}
use Rattle.wy_top_answers.proofs.report.law.lines_are_as_shown.Goals as goal

pub returns : goal.returns
returns c = rows
