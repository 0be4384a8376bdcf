-- Declarations by their numbers.
use Rattle.std.proofs.Common.{ℕ, List, map, drop}
use Rattle.wy_core.specs.CoreSeen.{seen_decl}
use Rattle.wy_core.specs.CoreTree.{routines_of}
use Rattle.wy_core.specs.declared.declarations.Decl.{Decl}
use Rattle.wy_sem.specs.Evaluation.{Callee, callee}

-- the declaration with this number among those from a place on
abbrev pub callee_from : ℕ → List Decl → ℕ → Callee ℕ
callee_from i ds n = callee (routines_of (map seen_decl (drop i ds))) n
