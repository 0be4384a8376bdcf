-- Statements that declare variables with new numbers alone.
use Rattle.std.proofs.Common.{◌≡◌, ◌<◌, ◌≤◌, ℕ, zero, suc, List, [], ◌∷◌, ◌++◌, Option, None, refl, sym, ◌∙◌, subst, arith}
use Rattle.wy_core.specs.Types.{Ty}
use Rattle.wy_core.specs.CoreTree.{Expr, Stmt, DeclareStmt, IfStmt, WhileStmt, stmts_of}
use Rattle.wy_flow_spec.specs.environment.Slots.{slot_at, put_slot}
use Rattle.wy_names.specs.wy_names_lower.StmtsLowered.{Arm, chain}
use Rattle.wy_sound_programs.specs.Scopes.{declares, declares_in}
use Rattle.wy_sound_programs.specs.Once.{Once, AllOnce}
use Rattle.wy_sound_programs.proofs.SlotLemmas.{slot_other}

-- ---- numbers that aren't taken

-- no variable from this number on is declared
abbrev pub Free : ℕ → List (Option Ty) → Type 0
Free n slots = (x : ℕ) → n ≤ x → slot_at slots x ≡ None

pub free_more : (n m : ℕ) (slots : List (Option Ty)) → n ≤ m → Free n slots → Free m slots
free_more n m slots le h x l = h x (omega (arith, le, l))

pub free_put : (n x m : ℕ) (slots : List (Option Ty)) (t : Ty) → x < m → n ≤ m → Free n slots → Free m (put_slot slots x t)
free_put n x m slots t lt le h y l = slot_other slots x t y apart ∙ h y (omega (arith, le, l)) where
  apart : x ≡ y → ⊥
  apart e = omega (arith, e, lt, l)

pub free_empty : (n : ℕ) → Free n []
free_empty n zero l = refl
free_empty n (suc x) l = refl

-- ---- statements

-- these statements declare variables from the one number up to the other, each once
pub record Fresh (n : ℕ) (xs : List (Stmt ℕ)) (m : ℕ) : Type 0 where
  pub once : (slots : List (Option Ty)) → Free n slots → AllOnce slots (stmts_of xs)
  pub free : (slots : List (Option Ty)) → Free n slots → Free m (declares_in (stmts_of xs) slots)

pub fresh_none : (n m : ℕ) → n ≤ m → Fresh n [] m
fresh_none n m le = record { once = λ slots h. tt; free = λ slots h. free_more n m slots le h }

-- later numbers are new, too
pub fresh_from : (n k m : ℕ) (xs : List (Stmt ℕ)) → n ≤ k → Fresh k xs m → Fresh n xs m
fresh_from n k m xs le f = record { once = λ slots h. f.once slots (free_more n k slots le h); free = λ slots h. f.free slots (free_more n k slots le h) }

-- a statement that declares nothing
pub fresh_quiet : (n m : ℕ) (x : Stmt ℕ) → n ≤ m → ((slots : List (Option Ty)) → Once slots x) → ((slots : List (Option Ty)) → declares x slots ≡ slots) → Fresh n (x ∷ []) m
fresh_quiet n m x le once same =
    record { once = λ slots h. (once slots, tt); free = λ slots h. subst (Free m) (sym (same slots)) (free_more n m slots le h) }

-- a declaration
pub fresh_declare : (n x m at : ℕ) (t : Ty) (value : Option (Expr ℕ)) → n ≤ x → x < m → Fresh n (DeclareStmt at t x value ∷ []) m
fresh_declare n x m at t value le lt =
    record { once = λ slots h. (h x le, tt); free = λ slots h. free_put n x m slots t lt (omega (arith, le, lt)) h }

-- one statement, and those behind it
pub fresh_more : (n m k : ℕ) (x : Stmt ℕ) (xs : List (Stmt ℕ)) → Fresh n (x ∷ []) m → Fresh m xs k → Fresh n (x ∷ xs) k
fresh_more n m k x xs f g =
    record {
      once = λ slots h. ((f.once slots h).0, g.once (declares x slots) (f.free slots h));
      free = λ slots h. g.free (declares x slots) (f.free slots h);
    }

declares_append : (xs ys : List (Stmt ℕ)) (slots : List (Option Ty)) → declares_in (stmts_of (xs ++ ys)) slots ≡ declares_in (stmts_of ys) (declares_in (stmts_of xs) slots)
declares_append [] ys slots = refl
declares_append (x ∷ xs) ys slots = declares_append xs ys (declares x slots)

once_append : (xs ys : List (Stmt ℕ)) (slots : List (Option Ty)) → AllOnce slots (stmts_of xs) → AllOnce (declares_in (stmts_of xs) slots) (stmts_of ys) → AllOnce slots (stmts_of (xs ++ ys))
once_append [] ys slots h g = g
once_append (x ∷ xs) ys slots h g = (h.0, once_append xs ys (declares x slots) h.1 g)

pub fresh_append : (n m k : ℕ) (xs ys : List (Stmt ℕ)) → Fresh n xs m → Fresh m ys k → Fresh n (xs ++ ys) k
fresh_append n m k xs ys f g =
    record {
      once = λ slots h. once_append xs ys slots (f.once slots h) (g.once (declares_in (stmts_of xs) slots) (f.free slots h));
      free = λ slots h. subst (Free k) (sym (declares_append xs ys slots)) (g.free (declares_in (stmts_of xs) slots) (f.free slots h));
    }

pub fresh_if : (n m k at : ℕ) (e : Expr ℕ) (first second : List (Stmt ℕ)) → Fresh n first m → Fresh m second k → Fresh n (IfStmt at e (stmts_of first) (stmts_of second) ∷ []) k
fresh_if n m k at e first second f g =
    record {
      once = λ slots h. ((f.once slots h, g.once (declares_in (stmts_of first) slots) (f.free slots h)), tt);
      free = λ slots h. g.free (declares_in (stmts_of first) slots) (f.free slots h);
    }

pub fresh_while : (n m at : ℕ) (e : Expr ℕ) (invariants : List (Expr ℕ)) (body : List (Stmt ℕ)) → Fresh n body m → Fresh n (WhileStmt at e invariants (stmts_of body) ∷ []) m
fresh_while n m at e invariants body f = record { once = λ slots h. (f.once slots h, tt); free = λ slots h. f.free slots h }

-- ---- cases of a switch

-- each case declares variables with new numbers, behind those before it
abbrev pub ArmsFresh : ℕ → List Arm → ℕ → Type 0
ArmsFresh n [] m = n ≤ m
ArmsFresh n (a ∷ arms) m = (k : ℕ) × Fresh n a.body k × ArmsFresh k arms m

pub fresh_chain : (n m k at : ℕ) (arms : List Arm) (last : List (Stmt ℕ)) → ArmsFresh n arms m → Fresh m last k → Fresh n (chain at arms last) k
fresh_chain n m k at [] last h g = fresh_from n m k last h g
fresh_chain n m k at (a ∷ arms) last h g = fresh_if n h.0 k at a.test a.body (chain at arms last) h.1 (fresh_chain h.0 m k at arms last h.2 g)
