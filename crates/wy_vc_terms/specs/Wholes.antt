-- What loops make: a formula, and behind it those of fields or of clauses.
use Rattle.std.specs.Prelude.{ℕ, List, ◌∷◌, map}
use Rattle.wy_core.specs.Types as ty
use Rattle.wy_core.specs.CoreSeen.{field_tys_of, seen_exprs, seen_ty}
use Rattle.wy_core.specs.CoreTree.{Alias}
use Rattle.wy_core.specs.declared.types.Ty as rust
use Rattle.wy_core.specs.declared.expressions.Expr as e
use Rattle.wy_term.specs.Term.{Term, record_kind}
use Rattle.wy_vc_tables.specs.wy_vc_spec.Making.{all_of, of_kind}
use Rattle.wy_vc_tables.specs.wy_vc_spec.Numbered.{Node, numbered_list}
use Rattle.wy_vc_operations.specs.wy_sem.TypeTests.{alias_at}
use Rattle.wy_vc_tables.specs.wy_vc_spec.Values.{Setting, Naming, Valued, ValuedAll, valued, valued_all, names_of, fields_hold, clause_formulas, word_if, x_word}
use Rattle.wy_vc_tables.specs.wy_vc_spec.Variables.{Vars}

-- the fields with their types
abbrev pub tys_of : List (List ℕ × rust.Ty) → ty.FieldTys
tys_of fields = field_tys_of (map (λ f. (f.0, seen_ty f.1)) fields)

-- all formulas of a record type: its kind, and those of its fields
abbrev pub record_parts : Naming → List (List ℕ × rust.Ty) → Term → ℕ → ValuedAll
record_parts named fields t n =
    valued_all (fields_hold named (tys_of fields) t n).count (of_kind (record_kind (names_of (tys_of fields))) t ∷ (fields_hold named (tys_of fields) t n).terms)

-- all formulas of a declared type: that of its definition, and those of its clauses, the first of whose expressions has this number
abbrev pub clause_parts : Setting Node → Naming → List (List ℕ) → List e.Expr → ℕ → Vars → Term → ℕ → ValuedAll
clause_parts s named words clauses k vars f n =
    valued_all (clause_formulas s named words (numbered_list (seen_exprs clauses) k) vars n).count (f ∷ (clause_formulas s named words (numbered_list (seen_exprs clauses) k) vars n).terms)

abbrev pub with_clauses : Setting Node → Naming → List (List ℕ) → List e.Expr → ℕ → Vars → Term → ℕ → Valued
with_clauses s named words clauses k vars f n = valued (clause_parts s named words clauses k vars f n).count (all_of (clause_parts s named words clauses k vars f n).terms)

-- the word of the variable of a named type
abbrev pub type_word : List (Alias Node) → ℕ → List ℕ
type_word types number = word_if (alias_at types number).variables (alias_at types number).variable x_word
