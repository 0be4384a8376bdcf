use Rattle.std.proofs.Common.{ap, ◌∙◌, sym}
use Rattle.wy_value.proofs.SeenLemmas.{seen_bool}
use Rattle.wy_value.specs.Datum as datum
use Rattle.wy_value.specs.Seen.{seen}
use Rattle.wy_sem.specs.Operations as spec
use Rattle.wy_sem.specs.Meter.{Done}
use Rattle.wy_eval_exprs.proofs.OperandLemmas.{gives_as, is_on_numbers, on_numbers_as}
use Rattle.wy_eval_exprs.proofs.SameLemmas.{same_as}
use Rattle.wy_eval_exprs.proofs.operators.applied.Goals as goal

pub returns-in-Equal : goal.returns-in-Equal
returns-in-Equal c = record {
  value = λ m. ap (λ o. spec.applied o c.args.at (seen c.args.left.now) (seen c.args.right.now) m) c.in-Equal.is
      ∙ ap (λ b. Done (datum.Truth b) m) (same_as c.is.result c.args.left.now c.args.right.now c.is.ensures.complete)
      ∙ ap (λ d. Done d m) (sym (seen_bool c.is.result));
}

pub returns-in-Add : goal.returns-in-Add
returns-in-Add c = record {
  value = λ m. gives_as seen _ _ c.on_numbers.result m (on_numbers_as c.args.op c.args.at (seen c.args.left.now) (seen c.args.right.now) m (ap is_on_numbers c.in-Add.is)) (c.on_numbers.ensures.value m);
}

pub returns-in-Sub : goal.returns-in-Sub
returns-in-Sub c = record {
  value = λ m. gives_as seen _ _ c.on_numbers-in-Sub.result m (on_numbers_as c.args.op c.args.at (seen c.args.left.now) (seen c.args.right.now) m (ap is_on_numbers c.in-Sub.is)) (c.on_numbers-in-Sub.ensures.value m);
}

pub returns-in-Mul : goal.returns-in-Mul
returns-in-Mul c = record {
  value = λ m. gives_as seen _ _ c.on_numbers-in-Mul.result m (on_numbers_as c.args.op c.args.at (seen c.args.left.now) (seen c.args.right.now) m (ap is_on_numbers c.in-Mul.is)) (c.on_numbers-in-Mul.ensures.value m);
}

pub returns-in-Div : goal.returns-in-Div
returns-in-Div c = record {
  value = λ m. gives_as seen _ _ c.on_numbers-in-Div.result m (on_numbers_as c.args.op c.args.at (seen c.args.left.now) (seen c.args.right.now) m (ap is_on_numbers c.in-Div.is)) (c.on_numbers-in-Div.ensures.value m);
}

pub returns-in-Mod : goal.returns-in-Mod
returns-in-Mod c = record {
  value = λ m. gives_as seen _ _ c.on_numbers-in-Mod.result m (on_numbers_as c.args.op c.args.at (seen c.args.left.now) (seen c.args.right.now) m (ap is_on_numbers c.in-Mod.is)) (c.on_numbers-in-Mod.ensures.value m);
}

pub returns-in-Less : goal.returns-in-Less
returns-in-Less c = record {
  value = λ m. gives_as seen _ _ c.on_numbers-in-Less.result m (on_numbers_as c.args.op c.args.at (seen c.args.left.now) (seen c.args.right.now) m (ap is_on_numbers c.in-Less.is)) (c.on_numbers-in-Less.ensures.value m);
}

pub returns-in-LessEqual : goal.returns-in-LessEqual
returns-in-LessEqual c = record {
  value = λ m. gives_as seen _ _ c.on_numbers-in-LessEqual.result m (on_numbers_as c.args.op c.args.at (seen c.args.left.now) (seen c.args.right.now) m (ap is_on_numbers c.in-LessEqual.is)) (c.on_numbers-in-LessEqual.ensures.value m);
}

pub returns-in-Greater : goal.returns-in-Greater
returns-in-Greater c = record {
  value = λ m. gives_as seen _ _ c.on_numbers-in-Greater.result m (on_numbers_as c.args.op c.args.at (seen c.args.left.now) (seen c.args.right.now) m (ap is_on_numbers c.in-Greater.is)) (c.on_numbers-in-Greater.ensures.value m);
}

pub returns-in-GreaterEqual : goal.returns-in-GreaterEqual
returns-in-GreaterEqual c = record {
  value = λ m. gives_as seen _ _ c.on_numbers-in-GreaterEqual.result m (on_numbers_as c.args.op c.args.at (seen c.args.left.now) (seen c.args.right.now) m (ap is_on_numbers c.in-GreaterEqual.is)) (c.on_numbers-in-GreaterEqual.ensures.value m);
}
