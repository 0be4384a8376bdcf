use Rattle.std.proofs.Common.{refl}
use Rattle.wy_vc_exprs.proofs.StepLemmas.{right_none}
use Rattle.wy_core.specs.declared.expressions.Op.TheVariants as sign
use Rattle.wy_vc_exprs.proofs.steps.assume_left.Goals as goal

pub returns-in-Add-clause-value : goal.returns-in-Add-clause-value
returns-in-Add-clause-value c = right_none _ _ sign.Add _ c.in-Add.is refl c.requires.sound

pub returns-in-Sub-clause-value : goal.returns-in-Sub-clause-value
returns-in-Sub-clause-value c = right_none _ _ sign.Sub _ c.in-Sub.is refl c.requires.sound

pub returns-in-Mul-clause-value : goal.returns-in-Mul-clause-value
returns-in-Mul-clause-value c = right_none _ _ sign.Mul _ c.in-Mul.is refl c.requires.sound

pub returns-in-Div-clause-value : goal.returns-in-Div-clause-value
returns-in-Div-clause-value c = right_none _ _ sign.Div _ c.in-Div.is refl c.requires.sound

pub returns-in-Mod-clause-value : goal.returns-in-Mod-clause-value
returns-in-Mod-clause-value c = right_none _ _ sign.Mod _ c.in-Mod.is refl c.requires.sound

pub returns-in-Equal-clause-value : goal.returns-in-Equal-clause-value
returns-in-Equal-clause-value c = right_none _ _ sign.Equal _ c.in-Equal.is refl c.requires.sound

pub returns-in-Less-clause-value : goal.returns-in-Less-clause-value
returns-in-Less-clause-value c = right_none _ _ sign.Less _ c.in-Less.is refl c.requires.sound

pub returns-in-LessEqual-clause-value : goal.returns-in-LessEqual-clause-value
returns-in-LessEqual-clause-value c = right_none _ _ sign.LessEqual _ c.in-LessEqual.is refl c.requires.sound

pub returns-in-Greater-clause-value : goal.returns-in-Greater-clause-value
returns-in-Greater-clause-value c = right_none _ _ sign.Greater _ c.in-Greater.is refl c.requires.sound

pub returns-in-GreaterEqual-clause-value : goal.returns-in-GreaterEqual-clause-value
returns-in-GreaterEqual-clause-value c = right_none _ _ sign.GreaterEqual _ c.in-GreaterEqual.is refl c.requires.sound
