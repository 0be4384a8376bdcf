-- What is made of parts.
use Rattle.std.proofs.Common.{◌≡◌, ◌<◌, ◌+◌, ◌-◌, ℕ, zero, suc, List, [], ◌∷◌, Bool, true, if◌then◌else◌, Option, Some, None, option_map, length, slice_get, map, refl, ◌∙◌, ap, subst, sym, arith}
use Rattle.wy_core.specs.Types.{Ty}
use Rattle.wy_core.specs.CoreTree as tree
use Rattle.wy_core.specs.CoreTree.{Expr}
use Rattle.wy_core.specs.CoreSeen.{field_tys_of, seen_ty, seen_alias}
use Rattle.wy_core.specs.declared.types.Ty as rust_ty
use Rattle.wy_core.specs.declared.declarations.Alias as rust
use Rattle.wy_core.specs.declared.expressions.Expr as e
use Rattle.wy_term.specs.Term.{Term}
use Rattle.wy_term.specs.Nodes.{Plain, tree_at}
use Rattle.wy_term.specs.Numbers.{IsAt}
use Rattle.wy_vc_operations.specs.wy_sem.Expressions.{node}
use Rattle.wy_vc_operations.specs.wy_sem.TypeTests.{alias_at, no_alias}
use Rattle.wy_vc_tables.specs.wy_vc_spec.Making.{int, int_name, val_name, in_type, null}
use Rattle.wy_vc_tables.specs.wy_vc_spec.Named.{is_written}
use Rattle.wy_vc_tables.specs.wy_vc_spec.Numbered.{Node, numbered, numbered_alias}
use Rattle.wy_vc_tables.specs.wy_vc_spec.Operations as op
use Rattle.wy_vc_tables.specs.wy_vc_spec.Sizes.{exprs_in}
use Rattle.wy_vc_tables.specs.wy_vc_spec.Values.{Setting, Naming, Valued, valued, holds, names_of, value, word_at, defined, named_to, named_in, variable, or_null, clause_formula, test_name, test_formula}
use Rattle.wy_vc_tables.specs.wy_vc_spec.Variables.{Vars, put, put_if, slot_at}
use Rattle.wy_core.specs.declared.declarations.Core.{Core}
use Rattle.wy_vc_tables.specs.declared.program_names.program.Program.{Program}
use Rattle.wy_vc_tables.specs.program_names.Described.{IsDescribed, alias_of, first_of, numbered_at, setting, types_of}
use Rattle.wy_vc_operations.specs.Growing.{AreSlotsAt, IsSlotBelow, Kept, Makes}
use Rattle.wy_vc_operations.proofs.GrowingLemmas.{kept_all, kept_on, onward}
use Rattle.wy_vc_operations.proofs.SlotLemmas.{put_at, slot_below, slot_term}
use Rattle.wy_vc_terms.specs.declared.maker.Maker.{Maker}
use Rattle.wy_vc_terms.specs.Made.{IsMade, IsMadeAt}
use Rattle.wy_vc_terms.specs.Wholes.{with_clauses, type_word}

-- one term that makes no name
pub plainly : {a b : List Plain} {r n : ℕ} {t : Term} → Makes a b r t → IsMadeAt a b r n (valued n t)
plainly m = record { term = m; names = refl }

-- a term made behind a formula
pub behind : {a b c : List Plain} {r m k : ℕ} {v : Valued} {t : Term} → IsMadeAt a b r m v → Makes b c k t → IsMadeAt a c k m (valued v.count t)
behind before m = record { term = onward before.term.kept m; names = before.names }

-- and behind another one
pub behind_two : {a b c d : List Plain} {r s m n k : ℕ} {v w : Valued} {t : Term} → IsMadeAt a b r m v → IsMadeAt b c s n w → Makes c d k t → IsMadeAt a d k n (valued w.count t)
behind_two first second m = record { term = onward (kept_on first.term.kept second.term.kept) m; names = second.names }

-- the same type
pub as_type : (named : Naming) (t : Term) (n : ℕ) {a b : List Plain} {r m : ℕ} {x y : Ty} → x ≡ y → IsMadeAt a b r m (holds named y t n) → IsMadeAt a b r m (holds named x t n)
as_type named t n {a} {b} {r} {m} same made = subst (λ (z : Ty). IsMadeAt a b r m (holds named z t n)) (sym same) made

-- the same number of names before
pub from_count : (named : Naming) (x : Ty) (t : Term) {a b : List Plain} {r m k n : ℕ} → k ≡ n → IsMadeAt a b r m (holds named x t k) → IsMadeAt a b r m (holds named x t n)
from_count named x t {a} {b} {r} {m} same made = subst (λ (z : ℕ). IsMadeAt a b r m (holds named x t z)) same made

-- the names of fields
pub names_are : (fields : List (List ℕ × rust_ty.Ty)) → names_of (field_tys_of (map (λ f. (f.0, seen_ty f.1)) fields)) ≡ map (λ f. f.0) fields
names_are [] = refl
names_are (f ∷ fs) = ap (λ (l : List (List ℕ)). f.0 ∷ l) (names_are fs)

-- ---- expressions

-- the same expression
pub as_expr : (s : Setting Node) (named : Naming) (words : List (List ℕ)) (vars : Vars) (k n : ℕ) {a b : List Plain} {r m : ℕ} {x y : Expr ℕ} → x ≡ y → IsMadeAt a b r m (value s named words (numbered y k) vars n) → IsMadeAt a b r m (value s named words (numbered x k) vars n)
as_expr s named words vars k n {a} {b} {r} {m} same made = subst (λ (z : Expr ℕ). IsMadeAt a b r m (value s named words (numbered z k) vars n)) (sym same) made

-- the same numbers before
pub from_numbers : (s : Setting Node) (named : Naming) (words : List (List ℕ)) (x : Expr ℕ) (vars : Vars) {a b : List Plain} {r m k j n i : ℕ} → k ≡ j → n ≡ i → IsMadeAt a b r m (value s named words (numbered x k) vars n) → IsMadeAt a b r m (value s named words (numbered x j) vars i)
from_numbers s named words x vars {a} {b} {r} {m} {k} {j} {n} {i} same also made =
    subst (λ (z : ℕ). IsMadeAt a b r m (value s named words (numbered x j) vars z)) also (subst (λ (z : ℕ). IsMadeAt a b r m (value s named words (numbered x z) vars n)) same made)

-- the number of an expression is the one before those behind it
pub last_number : (x : Expr ℕ) (k : ℕ) → suc (node (numbered x k)).number ≡ k + exprs_in x
last_number (tree.NullExpr at) k = omega arith
last_number (tree.BoolExpr at truth) k = omega arith
last_number (tree.IntExpr at number) k = omega arith
last_number (tree.VarExpr at x) k = omega arith
last_number (tree.CallExpr at routine args) k = omega arith
last_number (tree.NegExpr at a) k = omega arith
last_number (tree.NotExpr at a) k = omega arith
last_number (tree.LenExpr at a) k = omega arith
last_number (tree.BinaryExpr at op a b) k = omega arith
last_number (tree.IsExpr at a t) k = omega arith
last_number (tree.IndexExpr at a b) k = omega arith
last_number (tree.FieldExpr at a name) k = omega arith
last_number (tree.ListExpr at items) k = omega arith
last_number (tree.RepeatExpr at a b) k = omega arith
last_number (tree.RecordExpr at fs) k = omega arith
last_number (tree.QuantExpr at all x a b body) k = omega arith

-- ---- quantifiers

-- the same variables' terms
pub slots_by : {ns : List Plain} {old new : List (Option ℕ)} {slots : Vars} → new ≡ old → AreSlotsAt ns old slots → AreSlotsAt ns new slots
slots_by {ns} {old} {new} {slots} same at = subst (λ (l : List (Option ℕ)). AreSlotsAt ns l slots) (sym same) at

-- the body of a quantifier, whose variable stands for the name with this number
pub body_from : (s : Setting Node) (named : Naming) (words : List (List ℕ)) (x : Expr ℕ) (vars : Vars) (v : ℕ) {a b : List Plain} {r m k j n i : ℕ} → k ≡ j → n ≡ i
    → IsMadeAt a b r m (value s named words (numbered x k) (put vars v (int (int_name (word_at words v) n))) (suc n))
    → IsMadeAt a b r m (value s named words (numbered x j) (put vars v (int (int_name (word_at words v) i))) (suc i))
body_from s named words x vars v {a} {b} {r} {m} {k} {j} {n} {i} same also made =
    subst (λ (z : ℕ). IsMadeAt a b r m (value s named words (numbered x j) (put vars v (int (int_name (word_at words v) z))) (suc z))) also
    (subst (λ (z : ℕ). IsMadeAt a b r m (value s named words (numbered x z) (put vars v (int (int_name (word_at words v) n))) (suc n))) same made)

-- the same by the variable's word, and the number of the next name
pub body_by : (s : Setting Node) (named : Naming) (words : List (List ℕ)) (x : Expr ℕ) (vars : Vars) (v k n : ℕ) {a b c : List Plain} {r m next : ℕ} {word : List ℕ} → word ≡ word_at words v → next ≡ suc n → Kept a b
    → IsMadeAt b c r m (value s named words (numbered x k) (put vars v (int (int_name word n))) next)
    → IsMadeAt a c r m (value s named words (numbered x k) (put vars v (int (int_name (word_at words v) n))) (suc n))
body_by s named words x vars v k n {a} {b} {c} {r} {m} {next} {word} spelled counted kept made =
    let one : IsMadeAt b c r m (value s named words (numbered x k) (put vars v (int (int_name (word_at words v) n))) next) =
    subst (λ (w : List ℕ). IsMadeAt b c r m (value s named words (numbered x k) (put vars v (int (int_name w n))) next)) spelled made in
    let two : IsMadeAt b c r m (value s named words (numbered x k) (put vars v (int (int_name (word_at words v) n))) (suc n)) =
    subst (λ (z : ℕ). IsMadeAt b c r m (value s named words (numbered x k) (put vars v (int (int_name (word_at words v) n))) z)) counted one in
    record { term = onward kept two.term; names = two.names }

-- a quantifier behind its bounds and its body
pub quantified_made : (all : Bool) {word spelled : List ℕ} {n : ℕ} {a b c d e : List Plain} {i j k p q r t : ℕ} {v w u : Valued}
    → IsMadeAt a b i p v → IsMadeAt b c j q w → IsMadeAt c d k r u → word ≡ spelled → n ≡ w.count
    → Makes d e t (op.quantified all word n v.term w.term u.term) → IsMadeAt a e t r (valued u.count (op.quantified all spelled w.count v.term w.term u.term))
quantified_made all {word} {spelled} {n} {a} {b} {c} {d} {e} {i} {j} {k} {p} {q} {r} {t} {v} {w} {u} first second body same also made =
    record {
      term = onward (kept_on first.term.kept (kept_on second.term.kept body.term.kept))
          (subst (λ (z : ℕ). Makes d e t (op.quantified all spelled z v.term w.term u.term)) also (subst (λ (x : List ℕ). Makes d e t (op.quantified all x n v.term w.term u.term)) same made));
      names = body.names;
    }

-- ---- named types

pub named_written : (s : Setting Node) (depth number : ℕ) (t : Term) (n : ℕ) {a b : List Plain} {r m : ℕ} → (depth ≡ 0 → ⊥) → is_written s.types number ≡ true → IsMadeAt a b r m (defined s (named_to s (depth - 1)) (alias_at s.types number) t n) → IsMadeAt a b r m (named_to s depth number t n)
named_written s zero number t n above is made = absurd (above refl)
named_written s (suc depth) number t n {a} {b} {r} {m} above is made =
    let back : suc depth - 1 ≡ depth = omega arith in
    subst (λ (w : Bool). IsMadeAt a b r m (if w then defined s (named_to s depth) (alias_at s.types number) t n else valued n (in_type number t))) (sym is)
    (subst (λ (j : ℕ). IsMadeAt a b r m (defined s (named_to s j) (alias_at s.types number) t n)) back made)

-- the definition and then the clauses
pub defined_by : (s : Setting Node) (named : Naming) (alias : rust.Alias) (first : ℕ) (t : Term) (n : ℕ) {a b c : List Plain} {whole m r k : ℕ} {words : List (List ℕ)} {clauses : List e.Expr}
    → words ≡ alias.variables → clauses ≡ alias.clauses
    → IsMadeAt a b whole m (holds named (seen_ty alias.ty) t n)
    → IsMadeAt b c r k (with_clauses s named words clauses first (put_if [] alias.variable t) (holds named (seen_ty alias.ty) t n).term m)
    → IsMadeAt a c r k (defined s named (numbered_alias (seen_alias alias) first) t n)
defined_by s named alias first t n {a} {b} {c} {whole} {m} {r} {k} {words} {clauses} same also base made =
    let one : IsMadeAt b c r k (with_clauses s named alias.variables clauses first (put_if [] alias.variable t) (holds named (seen_ty alias.ty) t n).term m) =
    subst (λ (l : List (List ℕ)). IsMadeAt b c r k (with_clauses s named l clauses first (put_if [] alias.variable t) (holds named (seen_ty alias.ty) t n).term m)) same made in
    let two : IsMadeAt b c r k (with_clauses s named alias.variables alias.clauses first (put_if [] alias.variable t) (holds named (seen_ty alias.ty) t n).term m) =
    subst (λ (l : List e.Expr). IsMadeAt b c r k (with_clauses s named alias.variables l first (put_if [] alias.variable t) (holds named (seen_ty alias.ty) t n).term m)) also one in
    let three : IsMadeAt b c r k (with_clauses s named alias.variables alias.clauses first (put_if [] alias.variable t) (holds named (seen_ty alias.ty) t n).term (holds named (seen_ty alias.ty) t n).count) =
    subst (λ (z : ℕ). IsMadeAt b c r k (with_clauses s named alias.variables alias.clauses first (put_if [] alias.variable t) (holds named (seen_ty alias.ty) t n).term z)) base.names two in
    record { term = onward base.term.kept three.term; names = three.names }

-- the same named type
pub defined_as : (s : Setting Node) (named : Naming) (t : Term) (n : ℕ) {a b : List Plain} {r m : ℕ} {x y : tree.Alias Node} → x ≡ y → IsMadeAt a b r m (defined s named x t n) → IsMadeAt a b r m (defined s named y t n)
defined_as s named t n {a} {b} {r} {m} same made = subst (λ (z : tree.Alias Node). IsMadeAt a b r m (defined s named z t n)) same made

pub no_name : (core : Core) (p : Program) (n : ℕ) → IsDescribed core p → None ≡ alias_of core (slice_get p.types.items n) → no_alias ≡ alias_at (types_of core) n
no_name core p n d e = ap (λ (a : Option rust.Alias). numbered_at a (first_of (slice_get p.types.items n))) e ∙ d.aliases n

pub found_name : (core : Core) (p : Program) (n first : ℕ) (alias : rust.Alias) → IsDescribed core p → Some alias ≡ alias_of core (slice_get p.types.items n) → first ≡ first_of (slice_get p.types.items n) → numbered_alias (seen_alias alias) first ≡ alias_at (types_of core) n
found_name core p n first alias d e f =
    ap (λ (k : ℕ). numbered_alias (seen_alias alias) k) f ∙ (ap (λ (a : Option rust.Alias). numbered_at a (first_of (slice_get p.types.items n))) e ∙ d.aliases n)

-- as many names may be written out one in another as there are types
pub all_deep : (core : Core) (p : Program) (depth : ℕ) → IsDescribed core p → depth ≡ length p.types.items → named_to (setting core p) depth ≡ named_in (setting core p)
all_deep core p depth d is = ap (λ (n : ℕ). named_to (setting core p) n) (is ∙ d.count)

-- ---- terms of variables

pub variable_at : (ns : List Plain) (vars : List (Option ℕ)) (slots : Vars) (x k : ℕ) → AreSlotsAt ns vars slots → Some k ≡ slot_at vars x → Makes ns ns k (variable slots x)
variable_at ns vars slots x k at is =
    let there : slot_at slots x ≡ Some (tree_at ns k) = slot_term x at ∙ ap (λ (v : Option ℕ). option_map (tree_at ns) v) (sym is) in
    let within : k < length ns = subst (λ (v : Option ℕ). IsSlotBelow (length ns) v) (sym is) (slot_below (length ns) vars x at.within) in
    subst (λ (o : Option Term). Makes ns ns k (or_null o)) (sym there) (record { here = record { within = within; is = refl }; kept = kept_all ns })

pub no_variable : (ns : List Plain) (vars : List (Option ℕ)) (slots : Vars) (x : ℕ) → AreSlotsAt ns vars slots → None ≡ slot_at vars x → null ≡ variable slots x
no_variable ns vars slots x at is = ap or_null (ap (λ (v : Option ℕ). option_map (tree_at ns) v) is ∙ sym (slot_term x at))

pub slots_none : (ns : List Plain) (t : Term) (which : Option ℕ) (items : List (Option ℕ)) → which ≡ None → items ≡ [] → AreSlotsAt ns items (put_if [] which t)
slots_none ns t which items is empty =
    subst (λ (o : Option ℕ). AreSlotsAt ns items (put_if [] o t)) (sym is) (slots_by empty (record { within = tt; are = refl }))

pub slots_some : (ns : List Plain) (t : Term) (which : Option ℕ) (x v : ℕ) (old new : List (Option ℕ)) → which ≡ Some x → old ≡ [] → new ≡ put old x v → IsAt ns v t → AreSlotsAt ns new (put_if [] which t)
slots_some ns t which x v old new is empty pushed at =
    let none : AreSlotsAt ns [] [] = record { within = tt; are = refl } in
    let one : AreSlotsAt ns (put [] x v) (put [] x t) = put_at x at none in
    let same : new ≡ put [] x v = pushed ∙ ap (λ (l : List (Option ℕ)). put l x v) empty in
    subst (λ (o : Option ℕ). AreSlotsAt ns new (put_if [] o t)) (sym is) (slots_by same one)

-- ---- makers

pub made_of : {old new : Maker} {r : ℕ} {v : Valued} → IsMadeAt old.terms new.terms r new.count v → IsMade old new r v
made_of m = record { term = m.term; names = m.names }

pub holds_deep : (core : Core) (p : Program) (depth : ℕ) → IsDescribed core p → depth ≡ length p.types.items → (x : Ty) (t : Term) (n : ℕ) {old new : Maker} {r : ℕ} → IsMade old new r (holds (named_to (setting core p) depth) x t n) → IsMade old new r (holds (named_in (setting core p)) x t n)
holds_deep core p depth d is x t n {old} {new} {r} made = subst (λ (named : Naming). IsMade old new r (holds named x t n)) (all_deep core p depth d is) made

pub clause_deep : (core : Core) (p : Program) (depth : ℕ) → IsDescribed core p → depth ≡ length p.types.items → (words : List (List ℕ)) (x : Expr Node) (vars : Vars) (n : ℕ) {old new : Maker} {r : ℕ} → IsMade old new r (clause_formula (setting core p) (named_to (setting core p) depth) words x vars n) → IsMade old new r (clause_formula (setting core p) (named_in (setting core p)) words x vars n)
clause_deep core p depth d is words x vars n {old} {new} {r} made = subst (λ (named : Naming). IsMade old new r (clause_formula (setting core p) named words x vars n)) (all_deep core p depth d is) made

pub test_named : (core : Core) (p : Program) (number : ℕ) {ns : List Plain} {k : ℕ} {word : List ℕ} → word ≡ type_word (types_of core) number → IsAt ns k (val_name word 0) → IsAt ns k (test_name (setting core p) number)
test_named core p number {ns} {k} same at = subst (λ (w : List ℕ). IsAt ns k (val_name w 0)) same at

pub test_made : (core : Core) (p : Program) (depth number : ℕ) → IsDescribed core p → depth ≡ length p.types.items → {ns : List Plain} {k : ℕ} {word : List ℕ} → word ≡ type_word (types_of core) number
    → IsAt ns k (defined (setting core p) (named_to (setting core p) depth) (alias_at (types_of core) number) (val_name word 0) 1).term → IsAt ns k (test_formula (setting core p) number)
test_made core p depth number d is {ns} {k} {word} same at =
    subst (λ (w : List ℕ). IsAt ns k (defined (setting core p) (named_in (setting core p)) (alias_at (types_of core) number) (val_name w 0) 1).term) same
    (subst (λ (named : Naming). IsAt ns k (defined (setting core p) named (alias_at (types_of core) number) (val_name word 0) 1).term) (all_deep core p depth d is) at)
