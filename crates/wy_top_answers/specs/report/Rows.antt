-- Lines as a user sees them.
use Rattle.std.specs.Prelude.{◌≡◌, codes}
use Rattle.wy_top_answers.specs.report.Lines.{no_entry, bad_argument, other_count, other_type, requires_fails, save_failed, source_fault, certificate_fault, invalid_step, open_condition, spent_condition, refused, accepted, stats, words_refused, steps_spent, turns_spent}

abbrev pub AsShown : Type 0
AsShown =
    (words_refused ≡ codes "wy: words refused\n")
    × (steps_spent ≡ codes "wy: steps spent\n")
    × (turns_spent ≡ codes "wy: turns spent\n")
    × (no_entry (codes "f") ≡ codes "wy: f: no such entry\n")
    × (bad_argument (codes "BadText") 2 ≡ codes "wy: argument text: BadText at 2\n")
    × (other_count (codes "head") 2 ≡ codes "wy: head takes 2 arguments\n")
    × (other_type 1 ≡ codes "wy: argument 1 is not of its type\n")
    × (requires_fails 1 ≡ codes "wy: requires 1 fails\n")
    × (save_failed (codes "max.cert") ≡ codes "wy: max.cert: save failed\n")
    × (source_fault (codes "t.wy") 3 2 (codes "BadIndent") ≡ codes "t.wy:3:2: BadIndent\n")
    × (certificate_fault (codes "c") 8 (codes "Truncated") ≡ codes "c:8: Truncated\n")
    × (invalid_step (codes "d") 1 1 ≡ codes "d: condition 1: step 1 not valid\n")
    × (open_condition (codes "abs3.wy") 4 16 2 (codes "range") (codes "still") (codes "  kind(x.0, int)\n") ≡ codes "abs3.wy:4:16: condition 2 range: open still\n  kind(x.0, int)\n")
    × (spent_condition (codes "max.wy") 8 11 3 (codes "entry") 20000 ≡ codes "max.wy:8:11: condition 3 entry: spent 20000\n")
    × (refused 4 1 0 ≡ codes "refused: 4 conditions, 1 open, 0 spent\n")
    × (accepted 3 ≡ codes "accepted 3 conditions\n")
    × (stats 1 4 ≡ codes "copies 1 nodes 4\n")
