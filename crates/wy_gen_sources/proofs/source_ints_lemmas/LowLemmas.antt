-- What holds of measured parts that are low enough, and two walks over one tree at once.
use Rattle.std.proofs.Common.{ℕ, ◌+◌, Bool, true, false, List, [], ◌∷◌, ◌++◌, nat_lt, if◌then◌else◌}
use Rattle.wy_ast.specs.declared.types.Ty.{Ty}
use Rattle.wy_ast.specs.declared.types.TyKind.{TyKind}
use Rattle.wy_ast.specs.declared.expressions.Expr.{Expr}
use Rattle.wy_ast.specs.declared.expressions.ExprKind.{ExprKind}
use Rattle.wy_print_laws.specs.wy_parse_grammar.declared.measured.Measured.{Measured}
use Rattle.wy_print_laws.specs.wy_parse_grammar.declared.measured.Measured.TheVariants.{Low, High}
use Rattle.wy_print_laws.specs.wy_parse_grammar.Trees.{both, made, pushed, named, ty_node, expr_node, highest}

abbrev pub OnLow : {A : Type 0} → (A → Type 0) → Measured A → Type 0
OnLow P (Low a h) = P a
OnLow P (High at) = Unit {0}

abbrev pub AllOf : {A : Type 0} → (A → Type 0) → List A → Type 0
AllOf P [] = Unit {0}
AllOf P (x ∷ xs) = P x × AllOf P xs

pub all-more : {A : Type 0} (P : A → Type 0) (xs : List A) (x : A) → AllOf P xs → P x → AllOf P (xs ++ x ∷ [])
all-more P [] x h p = (p, tt)
all-more P (y ∷ ys) x h p = (h.0, all-more P ys x h.1 p)

pub low-both : {A B : Type 0} (P : A → Type 0) (Q : B → Type 0) (a : Measured A) (b : Measured B) → OnLow P a → OnLow Q b → OnLow (λ (z : A × B). P z.0 × Q z.1) (both a b)
low-both P Q (Low a h) (Low b k) p q = (p, q)
low-both P Q (Low a h) (High at) p q = tt
low-both P Q (High at) (Low b k) p q = tt
low-both P Q (High at) (High other) p q = tt

pub low-made : {A B : Type 0} (P : A → Type 0) (Q : B → Type 0) (f : A → B) (m : Measured A) → ((x : A) → P x → Q (f x)) → OnLow P m → OnLow Q (made f m)
low-made P Q f (Low a h) g p = g a p
low-made P Q f (High at) g p = tt

pub low-pushed : {A : Type 0} (P : A → Type 0) (all : Measured (List A)) (part : Measured A) → OnLow (AllOf P) all → OnLow P part → OnLow (AllOf P) (pushed all part)
low-pushed {A} P all part p q = low-made (λ (z : List A × A). AllOf P z.0 × P z.1) (AllOf P) (λ z. z.0 ++ z.1 ∷ []) (both all part) (λ z h. all-more P z.0 z.1 h.0 h.1) (low-both (AllOf P) P all part p q)

pub low-named : {A B : Type 0} (P : A → Type 0) (Q : B × A → Type 0) (name : B) (m : Measured A) → ((x : A) → P x → Q (name, x)) → OnLow P m → OnLow Q (named name m)
low-named P Q name m g p = low-made P Q (λ a. (name, a)) m g p

pub low-ty : (P : Ty → Type 0) (at : ℕ) (m : Measured TyKind) → OnLow (λ (k : TyKind). P (record { at = at; kind = k })) m → OnLow P (ty_node at m)
low-ty P at (High other) p = tt
low-ty P at (Low kind h) p = by (nat_lt h highest)
  where
    whole : Ty
    whole = record { at = at; kind = kind }

    by : (b : Bool) → OnLow P (if b then Low whole (h + 1) else High at)
    by true = p
    by false = tt

pub low-expr : (P : Expr → Type 0) (at : ℕ) (m : Measured ExprKind) → OnLow (λ (k : ExprKind). P (record { at = at; kind = k })) m → OnLow P (expr_node at m)
low-expr P at (High other) p = tt
low-expr P at (Low kind h) p = by (nat_lt h highest)
  where
    whole : Expr
    whole = record { at = at; kind = kind }

    by : (b : Bool) → OnLow P (if b then Low whole (h + 1) else High at)
    by true = p
    by false = tt

-- what two walks know of each part, as what each of them knows of all parts
pub crossed : {A B C D : Type 0} → A × B → C × D → (A × C) × (B × D)
crossed p q = ((p.0, q.0), (p.1, q.1))

pub crossed_three : {A B C D E F : Type 0} → A × B → C × D → E × F → (A × C × E) × (B × D × F)
crossed_three p q r = ((p.0, q.0, r.0), (p.1, q.1, r.1))

pub crossed_four : {A B C D E F G H : Type 0} → A × B → C × D → E × F → G × H → (A × C × E × G) × (B × D × F × H)
crossed_four p q r s = ((p.0, q.0, r.0, s.0), (p.1, q.1, r.1, s.1))
