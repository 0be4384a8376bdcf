-- Words of the examples.
use Rattle.std.specs.Prelude.{ℕ, List}
use Rattle.wy_sem.specs.wy_core.Types.{Ty, AnyTy, NormalTy, NoConjuncts, MoreConjuncts, IntAtom, NoAtoms}
use Rattle.wy_sem.specs.wy_term.declared.cond.CondKind.{CondKind}
use Rattle.wy_sem.specs.wy_term.Term.{Term}
use Rattle.wy_vc_spec.specs.Owed.{Owed}

abbrev pub owed : CondKind → ℕ → List Term → Term → Owed
owed k at hyps goal = record { kind = k; at = at; hyps = hyps; goal = goal }

-- the flow type of an expression that is a number, and of any other
abbrev pub number_type : Ty
number_type = NormalTy (MoreConjuncts IntAtom NoAtoms NoConjuncts)

abbrev pub other : Ty
other = AnyTy
