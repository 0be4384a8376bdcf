-- Operands are less deep than the expression in which they stand.
use Rattle.std.proofs.Common.{◌≡◌, ◌<◌, ℕ, Bool, sym, subst, rules, arith}
use Rattle.std.proofs.lemmas.Grind.{common_steps}
use Rattle.wy_core.specs.declared.expressions.Expr as e
use Rattle.wy_core.specs.declared.expressions.ExprKind as kind
use Rattle.wy_core.specs.declared.expressions.Op.{Op}
use Rattle.wy_core.proofs.expressions.Expr.TheLaws.{the_size}

read_so : (x y z : e.Expr) → z ≡ y → the_size y < the_size x → the_size z < the_size x
read_so x y z same less = subst (λ (w : e.Expr). the_size w < the_size x) (sym same) less

right_less : (x : e.Expr) (o : Op) (a b : e.Expr) → x.kind ≡ kind.Binary o a b → the_size b < the_size x
right_less x o a b is = first_of (search (rules, e.the_lemmas), grind (arith, common_steps, e.the_lemmas))

index_less : (x a b : e.Expr) → x.kind ≡ kind.Index a b → the_size b < the_size x
index_less x a b is = first_of (search (rules, e.the_lemmas), grind (arith, common_steps, e.the_lemmas))

count_less : (x a b : e.Expr) → x.kind ≡ kind.Repeat a b → the_size b < the_size x
count_less x a b is = first_of (search (rules, e.the_lemmas), grind (arith, common_steps, e.the_lemmas))

to_less : (x : e.Expr) (all : Bool) (v : ℕ) (a b body : e.Expr) → x.kind ≡ kind.Quant all v a b body → the_size b < the_size x
to_less x all v a b body is = first_of (search (rules, e.the_lemmas), grind (arith, common_steps, e.the_lemmas))

body_less : (x : e.Expr) (all : Bool) (v : ℕ) (a b body : e.Expr) → x.kind ≡ kind.Quant all v a b body → the_size body < the_size x
body_less x all v a b body is = first_of (search (rules, e.the_lemmas), grind (arith, common_steps, e.the_lemmas))

pub right_falls : (x : e.Expr) (o : Op) (a b z : e.Expr) → x.kind ≡ kind.Binary o a b → z ≡ b → the_size z < the_size x
right_falls x o a b z is same = read_so x b z same (right_less x o a b is)

pub index_falls : (x a b z : e.Expr) → x.kind ≡ kind.Index a b → z ≡ b → the_size z < the_size x
index_falls x a b z is same = read_so x b z same (index_less x a b is)

pub count_falls : (x a b z : e.Expr) → x.kind ≡ kind.Repeat a b → z ≡ b → the_size z < the_size x
count_falls x a b z is same = read_so x b z same (count_less x a b is)

pub to_falls : (x : e.Expr) (all : Bool) (v : ℕ) (a b body z : e.Expr) → x.kind ≡ kind.Quant all v a b body → z ≡ b → the_size z < the_size x
to_falls x all v a b body z is same = read_so x b z same (to_less x all v a b body is)

pub body_falls : (x : e.Expr) (all : Bool) (v : ℕ) (a b body z : e.Expr) → x.kind ≡ kind.Quant all v a b body → z ≡ body → the_size z < the_size x
body_falls x all v a b body z is same = read_so x body z same (body_less x all v a b body is)
