use Rattle.std.proofs.Common.{ℕ, [], subst, sym}
use Rattle.wy_vc_spec.specs.wy_sem.Evaluation.{callee}
use Rattle.wy_vc_spec.specs.Numbered.{Node}
use Rattle.wy_vc_tables.specs.program_names.Described.{IsFound}
use Rattle.wy_vc_tables.specs.declared.program_names.program.Callee.TheVariants as built
use Rattle.wy_vc_tables.proofs.program_names_lemmas.DescribedLemmas.{built_behind}
use Rattle.wy_vc_tables.proofs.program_names.program.built_in.Goals as goal

pub returns-then-behind-eq0 : goal.returns-then-behind-eq0
returns-then-behind-eq0 c = record { value = subst (λ (n : ℕ). IsFound (callee {N = Node} [] n) built.Print) (sym c.if-behind-eq0.true) tt }

pub returns-then-behind-eq1 : goal.returns-then-behind-eq1
returns-then-behind-eq1 c = record { value = subst (λ (n : ℕ). IsFound (callee {N = Node} [] n) built.PrintInt) (sym c.if-behind-eq1.true) tt }

pub returns : goal.returns
returns c = record { value = built_behind c.args.behind c.if-behind-eq0.false c.if-behind-eq1.false }
