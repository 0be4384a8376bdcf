-- Marks of declared types: rounds that change nothing, and what a round says of a name.
use Rattle.std.proofs.Common.{◌≡◌, ℕ, zero, suc, ◌+◌, ◌-◌, ◌≤◌, Bool, true, false, ◌||◌, List, [], ◌∷◌, map, length, refl, sym, ap, ◌∙◌, subst, arith, ◌↔◌, rules}
use mathlib.Core.Bool.{beq}
use lib.Pointwise.{pointwise}
use Rattle.std.specs.Prelude.{IsTrue}
use Rattle.wy_core.specs.CoreSeen.{seen_alias, seen_exprs}
use Rattle.wy_core.specs.declared.declarations.Alias as A
use Rattle.wy_core.specs.declared.expressions.Expr.{Expr}
use Rattle.wy_core.specs.CoreTree.{Alias}
use Rattle.wy_core.specs.Types.{Ty, NullTy, BoolTy, IntTy, AnyTy, VoidTy, RecordTy, ArrayTy, UnionTy, InterTy, NotTy, NamedTy, NormalTy, FieldTys, NoFieldTys, MoreFieldTys}
use Rattle.wy_sem.specs.TypeTests.{alias_at, has_clauses, is_constrained, is_constrained_name, mentions, mentions_fields}
use Rattle.wy_eval.specs.Marks.{marked, marks_after, no_marks, reached, rounds}

-- ---- equal marks

pub marks_same : (a b : List Bool) → pointwise beq a b ≡ true → a ≡ b
marks_same [] [] h = refl
marks_same [] (y ∷ ys) h = absurd cc
marks_same (x ∷ xs) [] h = absurd cc
marks_same (true ∷ xs) (true ∷ ys) h = ap (λ l. true ∷ l) (marks_same xs ys h)
marks_same (true ∷ xs) (false ∷ ys) h = absurd cc
marks_same (false ∷ xs) (true ∷ ys) h = absurd cc
marks_same (false ∷ xs) (false ∷ ys) h = ap (λ l. false ∷ l) (marks_same xs ys h)

-- ---- rounds that change nothing

pub settled : (types : List (Alias ℕ)) (j k : ℕ) → rounds types j ≡ rounds types (suc j) → rounds types (j + k) ≡ rounds types j
settled types j zero same = let e : j + 0 ≡ j = omega arith in ap (rounds types) e
settled types j (suc k) same =
    let e : j + suc k ≡ suc (j + k) = omega arith in
    ap (rounds types) e ∙ (ap (marks_after types) (settled types j k same) ∙ sym same)

pub settled_at : (types : List (Alias ℕ)) (j n : ℕ) → j ≤ n → rounds types j ≡ rounds types (suc j) → rounds types n ≡ rounds types j
settled_at types j n below same =
    let e : n ≡ j + (n - j) = omega arith in
    ap (rounds types) e ∙ settled types j (n - j) same

-- ---- marks and names

-- a type with clauses is reached at once
pub clauses_there : (marks : List Bool) (a : A.Alias) (r : Bool) → (IsTrue r ↔ (a.clauses ≡ [])) → r ≡ false → true ≡ reached marks (seen_alias a)
clauses_there marks a r h e = ap (λ b. b || mentions (marked marks) (seen_alias a).ty) (some_there a.clauses r h e)
  where
    some_there : (cs : List Expr) (r : Bool) → (IsTrue r ↔ (cs ≡ [])) → r ≡ false → true ≡ has_clauses (seen_exprs cs)
    some_there [] r h e = let g : IsTrue r = h.1 refl in let f : IsTrue false = subst IsTrue e g in absurd (search rules)
    some_there (c ∷ cs) r h e = refl

mutual
  mentions_same : (p q : ℕ → Bool) → ((n : ℕ) → p n ≡ q n) → (t : Ty) → mentions p t ≡ mentions q t
  mentions_same p q h NullTy = refl
  mentions_same p q h BoolTy = refl
  mentions_same p q h IntTy = refl
  mentions_same p q h AnyTy = refl
  mentions_same p q h VoidTy = refl
  mentions_same p q h (RecordTy fields) = fields_same p q h fields
  mentions_same p q h (ArrayTy t) = mentions_same p q h t
  mentions_same p q h (UnionTy s t) = ap (λ b. b || mentions p t) (mentions_same p q h s) ∙ ap (λ b. mentions q s || b) (mentions_same p q h t)
  mentions_same p q h (InterTy s t) = ap (λ b. b || mentions p t) (mentions_same p q h s) ∙ ap (λ b. mentions q s || b) (mentions_same p q h t)
  mentions_same p q h (NotTy t) = mentions_same p q h t
  mentions_same p q h (NamedTy n) = h n
  mentions_same p q h (NormalTy union) = refl

  fields_same : (p q : ℕ → Bool) → ((n : ℕ) → p n ≡ q n) → (fs : FieldTys) → mentions_fields p fs ≡ mentions_fields q fs
  fields_same p q h NoFieldTys = refl
  fields_same p q h (MoreFieldTys name t fs) = ap (λ b. b || mentions_fields p fs) (mentions_same p q h t) ∙ ap (λ b. mentions q t || b) (fields_same p q h fs)

nothing_marked : (types : List (Alias ℕ)) (n : ℕ) → marked (no_marks types) n ≡ false
nothing_marked [] n = refl
nothing_marked (a ∷ types) zero = refl
nothing_marked (a ∷ types) (suc n) = nothing_marked types n

-- behind the last type stands none
after_at : (marks : List Bool) (types : List (Alias ℕ)) (n : ℕ) → marked (map (reached marks) types) n ≡ reached marks (alias_at types n)
after_at marks [] n = refl
after_at marks (a ∷ types) zero = refl
after_at marks (a ∷ types) (suc n) = after_at marks types n

-- a name is marked in a round exactly where a type with clauses is reached from it through fewer names
pub name_marked : (types : List (Alias ℕ)) (j n : ℕ) → marked (rounds types j) n ≡ is_constrained_name types j n
name_marked types zero n = nothing_marked types n
name_marked types (suc j) n =
    after_at (rounds types j) types n
    ∙ ap (λ b. has_clauses (alias_at types n).clauses || b) (mentions_same (marked (rounds types j)) (is_constrained_name types j) (λ i. name_marked types j i) (alias_at types n).ty)

pub type_marked : (types : List (Alias ℕ)) (t : Ty) → mentions (marked (rounds types (suc (length types)))) t ≡ is_constrained types t
type_marked types t = mentions_same (marked (rounds types (suc (length types)))) (is_constrained_name types (suc (length types))) (λ n. name_marked types (suc (length types)) n) t
