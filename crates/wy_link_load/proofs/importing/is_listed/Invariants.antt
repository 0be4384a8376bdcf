-- Whether the name is one of those from here on is whether it is one of them all.
use Rattle.std.proofs.Common.{◌≡◌, drop}
use Rattle.wy_port.specs.FilesInMemory.{is_among}
use Rattle.wy_link_load.proofs.importing.is_listed.Given as goal

abbrev pub invariant-loop-one : goal.invariant-loop-one
invariant-loop-one l = is_among (drop l.one-index l.names) l.name ≡ is_among l.names l.name
