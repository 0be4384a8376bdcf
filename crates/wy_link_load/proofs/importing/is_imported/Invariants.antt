-- Whether the name is one of those from here on is whether it is one of them all.
use Rattle.std.proofs.Common.{◌≡◌, drop, map}
use Rattle.wy_port.specs.FilesInMemory.{is_among}
use Rattle.wy_link_load.specs.Imports.{name_of}
use Rattle.wy_link_load.proofs.importing.is_imported.Given as goal

abbrev pub invariant-loop-import : goal.invariant-loop-import
invariant-loop-import l = is_among (map name_of (drop l.import-index l.imports)) l.name ≡ is_among (map name_of l.imports) l.name
