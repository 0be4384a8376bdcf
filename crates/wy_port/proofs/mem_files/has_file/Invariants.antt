-- Whether a file from here on has the name is whether one of them all has.
use Rattle.std.proofs.Common.{◌≡◌, drop}
use Rattle.wy_port.specs.FilesInMemory.{plain_files, has_file}
use Rattle.wy_port.proofs.mem_files.has_file.Given as goal

abbrev pub invariant-loop-file : goal.invariant-loop-file
invariant-loop-file l = has_file (plain_files (drop l.file-index l.files)) l.name ≡ has_file (plain_files l.files) l.name
