use Rattle.std.proofs.Common.{◌+◌, ◌-◌, ◌*◌, ◌^◌, length}
use Rattle.wy_link_load.proofs.loading.+loading.Given as goal

abbrev pub decreases-load_file : goal.decreases-load_file
decreases-load_file g l = l.room * 2 ^ 66

abbrev pub decreases-load_imports : goal.decreases-load_imports
decreases-load_imports g l = l.room * 2 ^ 66 + 2 + (length l.file.now.program.imports - l.next)

abbrev pub decreases-load_import : goal.decreases-load_import
decreases-load_import g l = l.room * 2 ^ 66 + 1
