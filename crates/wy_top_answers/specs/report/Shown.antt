-- Which texts of formulas are kept.
use Rattle.std.specs.Prelude.{◌≡◌, ℕ, List, IfSome, nat_eq}
use Rattle.std.specs.HashMap.{get}
use Rattle.wy_term_text.specs.show.Text.{text_of}
use Rattle.wy_term.specs.Nodes.{Plain, tree_at}
use Rattle.wy_top_answers.specs.declared.report.shown.Shown.{Shown}

-- where a text is kept for a number, it is that of the formula with this number
abbrev pub AreShown : List Plain → Shown → Type 0
AreShown nodes shown = (k : ℕ) → IfSome (get nat_eq shown.texts k) (λ text. text.items ≡ text_of (tree_at nodes k))
