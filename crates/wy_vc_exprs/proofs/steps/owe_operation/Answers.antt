use Rattle.std.proofs.Common.{refl}
use Rattle.wy_vc_exprs.proofs.StepLemmas.{goals_no}
use Rattle.wy_core.specs.declared.expressions.Op.TheVariants as sign
use Rattle.wy_vc_exprs.proofs.steps.owe_operation.Goals as goal

pub returns-in-Equal-clause-value : goal.returns-in-Equal-clause-value
returns-in-Equal-clause-value c = goals_no _ _ _ sign.Equal _ _ c.in-Equal.is refl c.requires.sound

pub returns-in-Less-clause-value : goal.returns-in-Less-clause-value
returns-in-Less-clause-value c = goals_no _ _ _ sign.Less _ _ c.in-Less.is refl c.requires.sound

pub returns-in-LessEqual-clause-value : goal.returns-in-LessEqual-clause-value
returns-in-LessEqual-clause-value c = goals_no _ _ _ sign.LessEqual _ _ c.in-LessEqual.is refl c.requires.sound

pub returns-in-Greater-clause-value : goal.returns-in-Greater-clause-value
returns-in-Greater-clause-value c = goals_no _ _ _ sign.Greater _ _ c.in-Greater.is refl c.requires.sound

pub returns-in-GreaterEqual-clause-value : goal.returns-in-GreaterEqual-clause-value
returns-in-GreaterEqual-clause-value c = goals_no _ _ _ sign.GreaterEqual _ _ c.in-GreaterEqual.is refl c.requires.sound

pub returns-in-And-clause-value : goal.returns-in-And-clause-value
returns-in-And-clause-value c = goals_no _ _ _ sign.And _ _ c.in-And.is refl c.requires.sound

pub returns-in-Or-clause-value : goal.returns-in-Or-clause-value
returns-in-Or-clause-value c = goals_no _ _ _ sign.Or _ _ c.in-Or.is refl c.requires.sound
