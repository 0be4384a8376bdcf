use Rattle.std.proofs.Common.{refl}
use Rattle.wy_reading.specs.Rule.{Whole}
use Rattle.wy_reading.specs.Reader.{whole}
use Rattle.wy_reading.proofs.Theorem.{promise, whole_text, whole-closes}
use Rattle.wy_parse_grammar.specs.TypeGrammar.{Type_}
use Rattle.wy_parse_grammar.specs.TypeReading.{type_term}
use Rattle.wy_parse_grammar.proofs.TypesExact.{type-exact, BeginsType}
use Rattle.wy_parse_grammar.proofs.laws.types_are_read_exactly.Goals as goal

pub returns : goal.returns
returns c = promise (λ m. Whole (Type_ m.depth)) (λ m. whole (type_term m.depth)) BeginsType (λ m. whole_text (type-exact m) refl) (λ m. whole-closes (Type_ m.depth))
