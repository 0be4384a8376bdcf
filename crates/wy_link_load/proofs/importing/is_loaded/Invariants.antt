-- Whether the name is one of those from here on is whether it is one of them all.
use Rattle.std.proofs.Common.{◌≡◌, drop, map}
use Rattle.wy_port.specs.FilesInMemory.{is_among}
use Rattle.wy_link_load.specs.Imports.{file_name}
use Rattle.wy_link_load.proofs.importing.is_loaded.Given as goal

abbrev pub invariant-loop-file : goal.invariant-loop-file
invariant-loop-file l = is_among (map file_name (drop l.file-index l.files)) l.name ≡ is_among (map file_name l.files) l.name
