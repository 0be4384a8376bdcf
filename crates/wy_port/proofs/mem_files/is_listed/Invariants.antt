-- Whether the name is one of those from here on is whether it is one of them all.
use Rattle.std.proofs.Common.{◌≡◌, drop}
use Rattle.wy_port.specs.FilesInMemory.{plain_names, is_among}
use Rattle.wy_port.proofs.mem_files.is_listed.Given as goal

abbrev pub invariant-loop-one : goal.invariant-loop-one
invariant-loop-one l = is_among (plain_names (drop l.one-index l.names)) l.name ≡ is_among (plain_names l.names) l.name
