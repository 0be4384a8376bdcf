-- The line of a fault at its place.
use Rattle.std.proofs.Common.{◌≡◌, ◌∙◌, ℕ, List, ap}
use Rattle.wy_link_load.specs.wy_parse_front.Places.{place_of}
use Rattle.wy_link_load.specs.wy_top_answers.report.Lines.{source_fault}

-- the line at what was found to be the place of an offset, with a word
pub located : (name bytes : List ℕ) (at_line column at other : ℕ) (called word : List ℕ) → (at_line, column) ≡ place_of bytes at → at ≡ other → called ≡ word
    → source_fault name at_line column called ≡ source_fault name (place_of bytes other).0 (place_of bytes other).1 word
located name bytes at_line column at other called word place same is =
    ap (λ (p : ℕ × ℕ). source_fault name p.0 p.1 called) place
    ∙ (ap (λ (n : ℕ). source_fault name (place_of bytes n).0 (place_of bytes n).1 called) same
    ∙ ap (λ (w : List ℕ). source_fault name (place_of bytes other).0 (place_of bytes other).1 w) is)
