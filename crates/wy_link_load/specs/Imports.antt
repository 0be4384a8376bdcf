-- Which file does an import name, and what becomes of the import before that file is loaded?
use Rattle.std.specs.Prelude.{ℕ, List, ◌++◌, codes, length, map, nat_lt, if◌then◌else◌, Option, Some, None}
use Rattle.std.specs.Path.{rsplit_once}
use Rattle.wy_port.specs.FilesInMemory.{is_among}
use Rattle.wy_link_load.specs.declared.file.SourceFile.{SourceFile}
use Rattle.wy_link_load.specs.declared.importing.Import.{Import}
use Rattle.wy_link_load.specs.declared.importing.Import.TheVariants.{Loaded, New, Refused}
use Rattle.wy_link_load.specs.declared.importing.ImportFault.{ImportFault}
use Rattle.wy_link_load.specs.declared.importing.ImportFault.TheVariants.{Cycle, Twice, TooMany}

-- the file of a name, beside one whose name is cut so at its last slash
abbrev pub beside : List ℕ → Option (List ℕ × List ℕ) → List ℕ
beside name None = name ++ codes ".wy"
beside name (Some cut) = cut.0 ++ (codes "/" ++ (name ++ codes ".wy"))

-- the file that an import of the name names in this file
abbrev pub import_file : List ℕ → List ℕ → List ℕ
import_file file name = beside name (rsplit_once 47 file)

-- the name of an import, without its place
abbrev pub name_of : List ℕ × ℕ → List ℕ
name_of import = import.0

abbrev pub file_name : SourceFile → List ℕ
file_name file = file.name

-- What becomes of an import of the name, whose file is the target. In this order: a file that is being loaded is a cycle; a name that the same file imported before stands twice; a file that is finished is loaded; and where those fill the room, which is that of 64 files without those that are being loaded, one more is too many.
abbrev pub import_of : ℕ → List (List ℕ) → List SourceFile → List (List ℕ × ℕ) → List ℕ → List ℕ → Import
import_of room stack finished earlier name target =
    if is_among stack target then Refused Cycle
    else (if is_among (map name_of earlier) name then Refused Twice
    else (if is_among (map file_name finished) target then Loaded
    else (if nat_lt (length finished) room then New else Refused TooMany)))

-- the word for a refusal
abbrev pub word : ImportFault → List ℕ
word Cycle = codes "Cycle"
word Twice = codes "Twice"
word TooMany = codes "TooMany"
