-- What a use of a property is made of, and what it is.
use Rattle.std.specs.Prelude.{ℕ, Bool, true, false, List, ◌++◌, length, map, Option, Some, None, slice_get}
use Rattle.std.specs.Option.{option_map}
use Rattle.wy_core.specs.CoreTree.{Expr, NullExpr, CallExpr, exprs_of}
use Rattle.wy_core.specs.CoreSeen.{seen_exprs}
use Rattle.wy_core_build.specs.Instances.{joined}
use Rattle.wy_names_scope.specs.declared.table.Entry.{Entry}
use Rattle.wy_names_scope.specs.declared.table.Entry.TheVariants as entry
use Rattle.wy_names_lower.specs.declared.uses.Template as rust
use Rattle.wy_names_lower.specs.Variables.{Variables}

-- the parameters that a property's clauses use, the clauses, in which the parameters are the variables from 0 on, and the names of the variables behind them
pub record Template : Type 0 where
  pub used : List Bool
  pub clauses : List (Expr ℕ)
  pub names : Variables

-- the template that the node stands for
abbrev pub seen_template : rust.Template → Template
seen_template t = record { used = t.used; clauses = seen_exprs t.clauses; names = t.names }

abbrev pub seen_templates : List rust.Template → List Template
seen_templates ts = map seen_template ts

-- one that may be absent
abbrev pub seen_maybe : Option rust.Template → Option Template
seen_maybe o = option_map seen_template o

-- what is made, and the variables declared so far
abbrev pub With : Type 0 → Type 0
With X = Variables × X

abbrev pub or_not : Option Bool → Bool
or_not None = false
or_not (Some b) = b

abbrev pub used_by : Option Template → ℕ → Bool
used_by None i = false
used_by (Some t) i = or_not (slice_get t.used i)

abbrev pub used_entry : List Template → Entry → ℕ → Bool
used_entry ts (entry.Type n decl) i = true
used_entry ts (entry.Routine s) i = true
used_entry ts (entry.Property decl arity) i = used_by (slice_get ts decl) i
used_entry ts (entry.Variable n) i = true

-- the callee uses the argument with this number: a property may not, anything else does
abbrev pub is_used : List Template → Option Entry → ℕ → Bool
is_used ts None i = true
is_used ts (Some e) i = used_entry ts e i

-- a use of a property at the place: its clauses with the arguments put in, and its own variables behind the others
abbrev pub expansion : ℕ → Option Template → Variables → List (Expr ℕ) → With (Expr ℕ)
expansion at None vs args = (vs, NullExpr at)
expansion at (Some t) vs args = (vs ++ t.names, joined at args (length vs) t.clauses)

abbrev pub called_entry : List Template → ℕ → Entry → Variables → List (Expr ℕ) → With (Expr ℕ)
called_entry ts at (entry.Type n decl) vs args = (vs, CallExpr at 0 (exprs_of args))
called_entry ts at (entry.Routine s) vs args = (vs, CallExpr at s.number (exprs_of args))
called_entry ts at (entry.Property decl arity) vs args = expansion at (slice_get ts decl) vs args
called_entry ts at (entry.Variable n) vs args = (vs, CallExpr at 0 (exprs_of args))

-- a call of what a name stands for with these arguments, or the expansion of a property
abbrev pub called : List Template → ℕ → Option Entry → Variables → List (Expr ℕ) → With (Expr ℕ)
called ts at None vs args = (vs, CallExpr at 0 (exprs_of args))
called ts at (Some e) vs args = called_entry ts at e vs args
