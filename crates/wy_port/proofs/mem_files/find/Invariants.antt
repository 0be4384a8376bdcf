-- What the files from here on have at the name is what all of them have.
use Rattle.std.proofs.Common.{◌≡◌, drop}
use Rattle.wy_port.specs.FilesInMemory.{plain_files, file_at}
use Rattle.wy_port.proofs.mem_files.find.Given as goal

abbrev pub invariant-loop-file : goal.invariant-loop-file
invariant-loop-file l = file_at (plain_files (drop l.file-index l.files)) l.name ≡ file_at (plain_files l.files) l.name
