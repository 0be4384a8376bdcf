-- What faults of a source are called, and where they stand.
use Rattle.std.specs.Prelude.{ℕ, Bool, true, false, List, [], codes}
use Rattle.wy_parse_front.specs.declared.fault.SourceFault.{SourceFault}
use Rattle.wy_parse_front.specs.declared.fault.SourceFault.TheVariants as source
use Rattle.wy_lex.specs.declared.fault.LexFault.{LexFault}
use Rattle.wy_lex.specs.declared.fault.LexFault.TheVariants as lex
use Rattle.wy_parse.specs.declared.fault.ParseFault.{ParseFault}
use Rattle.wy_parse.specs.declared.fault.ParseFault.TheVariants as parse

-- the fault of the tokens
abbrev pub of_tokens : LexFault → SourceFault
of_tokens (lex.NotUtf8 at) = source.NotUtf8 at
of_tokens (lex.BadChar at) = source.BadChar at
of_tokens (lex.BadIndent at) = source.BadIndent at
of_tokens (lex.BadNumeral at) = source.BadNumeral at
of_tokens (lex.OpenComment at) = source.OpenComment at
of_tokens lex.NoMemory = source.NoMemory

-- the fault of the program
abbrev pub of_program : ParseFault → SourceFault
of_program (parse.Unexpected at) = source.Unexpected at
of_program (parse.Mixed at) = source.Mixed at
of_program (parse.Deep at) = source.Deep at
of_program (parse.TooMany at) = source.TooMany at
of_program parse.NoMemory = source.NoMemory

-- the byte offset where it stands
abbrev pub offset : SourceFault → ℕ
offset (source.NotUtf8 at) = at
offset (source.BadChar at) = at
offset (source.BadIndent at) = at
offset (source.BadNumeral at) = at
offset (source.OpenComment at) = at
offset (source.Unexpected at) = at
offset (source.Mixed at) = at
offset (source.Deep at) = at
offset (source.TooMany at) = at
offset source.NoMemory = 0

-- whether memory ran out
abbrev pub is_no_memory : SourceFault → Bool
is_no_memory (source.NotUtf8 at) = false
is_no_memory (source.BadChar at) = false
is_no_memory (source.BadIndent at) = false
is_no_memory (source.BadNumeral at) = false
is_no_memory (source.OpenComment at) = false
is_no_memory (source.Unexpected at) = false
is_no_memory (source.Mixed at) = false
is_no_memory (source.Deep at) = false
is_no_memory (source.TooMany at) = false
is_no_memory source.NoMemory = true

-- the word for it
abbrev pub word : SourceFault → List ℕ
word (source.NotUtf8 at) = codes "NotUtf8"
word (source.BadChar at) = codes "BadChar"
word (source.BadIndent at) = codes "BadIndent"
word (source.BadNumeral at) = codes "BadNumeral"
word (source.OpenComment at) = codes "OpenComment"
word (source.Unexpected at) = codes "Unexpected"
word (source.Mixed at) = codes "Mixed"
word (source.Deep at) = codes "Deep"
word (source.TooMany at) = codes "TooMany"
word source.NoMemory = []
