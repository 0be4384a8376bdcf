-- The certificate that stands first in a text.
use Rattle.std.specs.Prelude.{◌≡◌, ℕ, List, ◌++◌}
use Rattle.wy_cert.specs.Steps.{Written}
use Rattle.wy_cert.specs.writing.Text.{certificate_text}
use Rattle.wy_check.specs.wy_check_laws.reread.Writable.{IsPlace, AreWritable}

-- it is this one, for this condition, and can be written
pub record Stands (n : ℕ) (steps : List Written) (text : List ℕ) : Type 0 where
  pub rest : List ℕ
  pub is : text ≡ certificate_text (n, steps) ++ rest
  pub place : IsPlace n
  pub writable : AreWritable steps
