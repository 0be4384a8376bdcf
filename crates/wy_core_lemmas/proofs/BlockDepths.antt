-- Blocks are less deep than the statement in which they stand.
use Rattle.std.proofs.Common.{◌≡◌, ◌<◌, List, sym, subst, rules, arith}
use Rattle.std.proofs.lemmas.Grind.{common_steps}
use Rattle.wy_core.specs.declared.expressions.Expr as e
use Rattle.wy_core.specs.declared.statements.Stmt as st
use Rattle.wy_core.specs.declared.statements.StmtKind as kind
use Rattle.wy_core.proofs.statements.Stmt.TheLaws.{the_size}
use denote.Param.Weighed.{most}

first_less : (x : st.Stmt) (test : e.Expr) (first second : List st.Stmt) → x.kind ≡ kind.If test first second → most the_size first < the_size x
first_less x test first second is = first_of (search (rules, st.the_lemmas), grind (arith, common_steps, st.the_lemmas))

second_less : (x : st.Stmt) (test : e.Expr) (first second : List st.Stmt) → x.kind ≡ kind.If test first second → most the_size second < the_size x
second_less x test first second is = first_of (search (rules, st.the_lemmas), grind (arith, common_steps, st.the_lemmas))

body_less : (x : st.Stmt) (test : e.Expr) (invariants : List e.Expr) (body : List st.Stmt) → x.kind ≡ kind.While test invariants body → most the_size body < the_size x
body_less x test invariants body is = first_of (search (rules, st.the_lemmas), grind (arith, common_steps, st.the_lemmas))

pub first_falls : (x : st.Stmt) (test : e.Expr) (first second block : List st.Stmt) → x.kind ≡ kind.If test first second → block ≡ first → most the_size block < the_size x
first_falls x test first second block is same = subst (λ (l : List st.Stmt). most the_size l < the_size x) (sym same) (first_less x test first second is)

pub second_falls : (x : st.Stmt) (test : e.Expr) (first second block : List st.Stmt) → x.kind ≡ kind.If test first second → block ≡ second → most the_size block < the_size x
second_falls x test first second block is same = subst (λ (l : List st.Stmt). most the_size l < the_size x) (sym same) (second_less x test first second is)

pub body_falls : (x : st.Stmt) (test : e.Expr) (invariants : List e.Expr) (body block : List st.Stmt) → x.kind ≡ kind.While test invariants body → block ≡ body → most the_size block < the_size x
body_falls x test invariants body block is same = subst (λ (l : List st.Stmt). most the_size l < the_size x) (sym same) (body_less x test invariants body is)
