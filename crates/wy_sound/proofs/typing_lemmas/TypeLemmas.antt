-- The declared types of variables: the same with numbers, and such as a source may write.
use Rattle.std.proofs.Common.{◌≡◌, ℕ, zero, suc, ◌+◌, List, [], ◌∷◌, length, refl, ap, ◌∙◌}
use Rattle.wy_core.specs.Types.{Ty}
use Rattle.wy_core.specs.CoreTree.{Param, Routine, Stmt, DeclareStmt, AssignStmt, CallStmt, ReturnStmt, AssertStmt, BreakStmt, ContinueStmt, SkipStmt, FailStmt, IfStmt, WhileStmt, Stmts, NoStmts, MoreStmts}
use Rattle.wy_core.specs.formed.Offers.{Offers}
use Rattle.wy_core.specs.formed.Bound.{Scope, Around, looped, behind, with_params, BoundParams, BoundStmt, BoundStmts}
use Rattle.wy_sound_programs.specs.wy_sem.Statements.{type_at}
use Rattle.wy_sound_programs.specs.wy_sem.Evaluation.{set_type, any_types, param_types, declared_in, declared_in_all, types_of}
use Rattle.wy_sound_programs.specs.wy_vc_spec.Sizes.{exprs_in, exprs_in_list, exprs_in_stmt, exprs_in_block}
use Rattle.wy_sound_programs.specs.wy_vc_spec.Numbered.{numbered_stmt, numbered_block, numbered_routine}
use Rattle.wy_sound_types.specs.wy_sound_walks.expressions.Written.{IsWritten}
use Rattle.wy_sound_types.proofs.members_lemmas.WrittenLemmas.{bound_written}
use Rattle.wy_sound.specs.typing.Parts.{VariablesHaveTypes}

-- ---- with numbers

mutual
  declared_one : (st : Stmt ℕ) (k : ℕ) (ts : List Ty) → declared_in (numbered_stmt st k) ts ≡ declared_in st ts
  declared_one (DeclareStmt at t x value) k ts = refl
  declared_one (AssignStmt at y path e) k ts = refl
  declared_one (CallStmt at f es) k ts = refl
  declared_one (ReturnStmt at value) k ts = refl
  declared_one (AssertStmt at e) k ts = refl
  declared_one (BreakStmt at) k ts = refl
  declared_one (ContinueStmt at) k ts = refl
  declared_one (SkipStmt at) k ts = refl
  declared_one (FailStmt at) k ts = refl
  declared_one (IfStmt at e first second) k ts =
      ap (λ (us : List Ty). declared_in_all (numbered_block second (k + exprs_in e + exprs_in_block first)) us) (declared_all first (k + exprs_in e) ts)
      ∙ declared_all second (k + exprs_in e + exprs_in_block first) (declared_in_all first ts)
  declared_one (WhileStmt at e invariants body) k ts = declared_all body (k + exprs_in e + exprs_in_list invariants) ts

  declared_all : (ss : Stmts ℕ) (k : ℕ) (ts : List Ty) → declared_in_all (numbered_block ss k) ts ≡ declared_in_all ss ts
  declared_all NoStmts k ts = refl
  declared_all (MoreStmts first rest) k ts =
      ap (λ (us : List Ty). declared_in_all (numbered_block rest (k + exprs_in_stmt first)) us) (declared_one first k ts) ∙ declared_all rest (k + exprs_in_stmt first) (declared_in first ts)

same_types : (r : Routine ℕ) (k : ℕ) → types_of (numbered_routine r k) ≡ types_of r
same_types r k = declared_all r.body (k + exprs_in_list r.preconditions + exprs_in_list r.postconditions) (param_types r.params (any_types r.variables))

-- ---- such as a source may write

abbrev AllWritten : List Ty → Type 0
AllWritten ts = (x : ℕ) → IsWritten (type_at ts x)

any_written : (names : List (List ℕ)) → AllWritten (any_types names)
any_written [] x = tt
any_written (name ∷ names) zero = tt
any_written (name ∷ names) (suc x) = any_written names x

set_written : (ts : List Ty) (x : ℕ) (t : Ty) → IsWritten t → AllWritten ts → AllWritten (set_type ts x t)
set_written [] x t w h y = tt
set_written (s ∷ ts) zero t w h zero = w
set_written (s ∷ ts) zero t w h (suc y) = h (suc y)
set_written (s ∷ ts) (suc x) t w h zero = h zero
set_written (s ∷ ts) (suc x) t w h (suc y) = set_written ts x t w (λ z. h (suc z)) y

params_written : (o : Offers) (n : ℕ) (vs : Scope) (ps : List Param) (ts : List Ty) → BoundParams o n vs ps → AllWritten ts → AllWritten (param_types ps ts)
params_written o n vs [] ts b h = h
params_written o n vs (p ∷ ps) ts b h = params_written o n (p.variable ∷ vs) ps (set_type ts p.variable p.ty) b.2 (set_written ts p.variable p.ty (bound_written o.types p.ty b.0) h)

mutual
  stmt_written : (o : Offers) (n : ℕ) (a : Around) (vs : Scope) (st : Stmt ℕ) (ts : List Ty) → BoundStmt o n a vs st → AllWritten ts → AllWritten (declared_in st ts)
  stmt_written o n a vs (DeclareStmt at t x value) ts b h = set_written ts x t (bound_written o.types t b.0) h
  stmt_written o n a vs (AssignStmt at y path e) ts b h = h
  stmt_written o n a vs (CallStmt at f es) ts b h = h
  stmt_written o n a vs (ReturnStmt at value) ts b h = h
  stmt_written o n a vs (AssertStmt at e) ts b h = h
  stmt_written o n a vs (BreakStmt at) ts b h = h
  stmt_written o n a vs (ContinueStmt at) ts b h = h
  stmt_written o n a vs (SkipStmt at) ts b h = h
  stmt_written o n a vs (FailStmt at) ts b h = h
  stmt_written o n a vs (IfStmt at e first second) ts b h = block_written o n a vs second (declared_in_all first ts) b.2 (block_written o n a vs first ts b.1 h)
  stmt_written o n a vs (WhileStmt at e invariants body) ts b h = block_written o n (looped a) vs body ts b.2 h

  block_written : (o : Offers) (n : ℕ) (a : Around) (vs : Scope) (ss : Stmts ℕ) (ts : List Ty) → BoundStmts o n a vs ss → AllWritten ts → AllWritten (declared_in_all ss ts)
  block_written o n a vs NoStmts ts b h = h
  block_written o n a vs (MoreStmts first rest) ts b h = block_written o n a (behind vs first) rest (declared_in first ts) b.1 (stmt_written o n a vs first ts b.0 h)

pub variables_typed : VariablesHaveTypes
variables_typed = record {
  same = same_types;
  written = λ o r b. block_written o (length r.variables) _ (with_params [] r.params) r.body (param_types r.params (any_types r.variables)) b.body
      (params_written o (length r.variables) [] r.params (any_types r.variables) b.params (any_written r.variables));
}
