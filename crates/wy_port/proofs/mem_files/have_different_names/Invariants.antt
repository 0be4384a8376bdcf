-- Whether the names from here on differ is whether all do, and fewer are left at each turn.
use Rattle.std.proofs.Common.{◌≡◌, length}
use Rattle.wy_port.specs.FilesInMemory.{plain_files, are_different}
use Rattle.wy_port.proofs.mem_files.have_different_names.Given as goal

abbrev pub invariant-loop-rest : goal.invariant-loop-rest
invariant-loop-rest l = are_different (plain_files l.rest) ≡ are_different (plain_files l.files)

abbrev pub decreases-loop-rest : goal.decreases-loop-rest
decreases-loop-rest l = length l.rest
