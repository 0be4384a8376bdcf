-- What is said of each code of a program.
use Rattle.std.proofs.Common.{length, sym, subst}
use Rattle.std.specs.List.{All}
use Rattle.wy_code.specs.declared.routines.Code.{Code}
use Rattle.wy_core.specs.CoreSeen.{seen_core}
use Rattle.wy_value.specs.Shapes.{IsShapes}
use Rattle.wy_code_spec.specs.compiled.Ranges.{CallsBelow, IsFramed, IsNamed}
use Rattle.wy_code_spec.proofs.compiled_lemmas.RoutineLemmas.{all_framed}
use Rattle.wy_code_spec.proofs.compiled_lemmas.NamedRoutineLemmas.{all_named}
use Rattle.wy_code_spec.proofs.compiled_lemmas.CallRoutineLemmas.{all_call}
use Rattle.wy_code_spec.proofs.compiled_lemmas.ShapeLemmas.{core_shapes}
use Rattle.wy_gen.proofs.program.generate.Goals as goal

pub returns-clause-frames : goal.returns-clause-frames
returns-clause-frames c = subst (λ (x : Code). All IsFramed x.routines) (sym c.in_ok-code.ensures.value) (all_framed (seen_core c.args.core.now))

pub returns-clause-named : goal.returns-clause-named
returns-clause-named c = subst (λ (x : Code). All (IsNamed x.shapes) x.routines) (sym c.in_ok-code.ensures.value) (all_named (seen_core c.args.core.now))

pub returns-clause-shapes : goal.returns-clause-shapes
returns-clause-shapes c = λ h. subst (λ (x : Code). IsShapes x.shapes) (sym c.in_ok-code.ensures.value) (core_shapes (seen_core c.args.core.now) h)

pub returns-clause-calls : goal.returns-clause-calls
returns-clause-calls c = λ h. subst (λ (x : Code). All (CallsBelow (length x.routines)) x.routines) (sym c.in_ok-code.ensures.value) (all_call (seen_core c.args.core.now) h)
