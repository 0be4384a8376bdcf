use Rattle.std.proofs.Common.{refl}
use Rattle.wy_reading.specs.Rule.{Whole}
use Rattle.wy_reading.specs.Reader.{whole}
use Rattle.wy_reading.proofs.Exactness.{Any}
use Rattle.wy_reading.proofs.Theorem.{promise, whole_text, whole-closes}
use Rattle.wy_parse_grammar.specs.LabelGrammar.{Labels}
use Rattle.wy_parse_grammar.specs.LabelReading.{labels}
use Rattle.wy_parse_grammar.proofs.LabelsExact.{labels-exact}
use Rattle.wy_parse_grammar.proofs.laws.labels_are_read_exactly.Goals as goal

pub returns : goal.returns
returns c = promise (λ m. Whole Labels) (λ m. whole labels) Any (λ m. whole_text (labels-exact m) refl) (λ m. whole-closes Labels)
