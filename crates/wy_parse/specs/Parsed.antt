-- What the parser answers, by what its reader gives.
use Rattle.std.specs.Prelude.{List, Result, Ok, Err}
use Rattle.wy_reading.specs.Reader.{Outcome}
use Rattle.wy_reading.specs.declared.stop.Stop.{Stop}
use Rattle.wy_reading.specs.declared.stop.Stop.TheVariants as stop
use Rattle.wy_ast.specs.declared.declarations.Program.{Program}
use Rattle.wy_lex.specs.declared.token.Token.{Token}
use Rattle.wy_parse_grammar.specs.declared.fault.Kind.{Kind}
use Rattle.wy_parse.specs.declared.fault.ParseFault.{ParseFault}
use Rattle.wy_parse.specs.declared.fault.ParseFault.TheVariants.{Unexpected, Deep, NoMemory}
use Rattle.wy_parse_grammar.specs.declared.measured.Measured.{Measured}
use Rattle.wy_parse_grammar.specs.declared.measured.Measured.TheVariants.{Low, High}
use Rattle.wy_parse.specs.Derivation.{profile, place_of, fault_of}
use Rattle.wy_parse.specs.ProgramReading.{text}

-- the fault of a stop, at the place of the token where it stands
abbrev pub fault_at : List Token → Stop Kind → ParseFault
fault_at tokens (stop.Unexpected left) = Unexpected (place_of tokens left)
fault_at tokens (stop.Fault x left) = fault_of x (place_of tokens left)
fault_at tokens stop.NoMemory = NoMemory

-- a program that is low enough
abbrev pub low : Measured Program → Result Program ParseFault
low (Low program height) = Ok program
low (High at) = Err (Deep at)

-- what is answered after this outcome
abbrev pub answer : List Token → Outcome Token Kind (Measured Program) → Result Program ParseFault
answer tokens (Ok r) = low r.0
answer tokens (Err s) = Err (fault_at tokens s)

-- the program that the tokens spell, or the fault where they don't
abbrev pub parsed : List Token → Result Program ParseFault
parsed tokens = answer tokens (text profile tokens)
