-- What parts a tree that is low enough has.
use Rattle.std.proofs.Common.{◌≡◌, ℕ, ◌+◌, Bool, true, false, cond, nat_lt, max, List, [], ◌∷◌, ◌++◌, refl, sym, ap, ◌∙◌, subst}
use Rattle.wy_ast.specs.declared.types.Ty.{Ty}
use Rattle.wy_ast.specs.declared.types.TyKind.{TyKind}
use Rattle.wy_ast.specs.declared.expressions.Expr.{Expr}
use Rattle.wy_ast.specs.declared.expressions.ExprKind.{ExprKind}
use Rattle.wy_parse_front.specs.wy_parse_grammar.declared.measured.Measured.{Measured}
use Rattle.wy_parse_front.specs.wy_parse_grammar.declared.measured.Measured.TheVariants.{Low, High}
use Rattle.wy_parse_front.specs.wy_parse_grammar.Trees.{highest, both, made, pushed, ty_node, expr_node}

abbrev IsLow : {A : Type 0} → Measured A → Type 0
IsLow (Low a h) = Unit {0}
IsLow (High at) = ⊥

abbrev part_or : {A : Type 0} → A → Measured A → A
part_or d (Low a h) = a
part_or d (High at) = d

abbrev height : {A : Type 0} → Measured A → ℕ
height (Low a h) = h
height (High at) = 0

abbrev high_at : {A : Type 0} → A → ℕ → Measured A
high_at a at = High at

abbrev low_at : {A : Type 0} → A → ℕ → Measured A
low_at a h = Low a h

pub high_low : {A : Type 0} (at : ℕ) (a : A) (h : ℕ) → high_at a at ≡ low_at a h → ⊥
high_low at a h e = subst IsLow (sym e) tt

-- low parts are equal by their trees and their heights
pub same_part : {A : Type 0} (a b : A) (h l : ℕ) → low_at a h ≡ low_at b l → a ≡ b
same_part a b h l e = ap (part_or a) e

pub same_height : {A : Type 0} (a b : A) (h l : ℕ) → low_at a h ≡ low_at b l → h ≡ l
same_height a b h l e = ap height e

-- ---- nodes

-- a node that is low enough: of a kind that is lower
pub record OfTy (at : ℕ) (kind : Measured TyKind) (t : Ty) (h : ℕ) : Type 0 where
  pub of : TyKind
  pub below : ℕ
  pub is : kind ≡ Low of below
  pub fits : nat_lt below highest ≡ true
  pub kind_is : t.kind ≡ of
  pub height_is : h ≡ below + 1

pub ty_node-low : (at : ℕ) (kind : Measured TyKind) (t : Ty) (h : ℕ) → ty_node at kind ≡ Low t h → OfTy at kind t h
ty_node-low at (High other) t h e = absurd (high_low other t h e)
ty_node-low at (Low of below) t h e = by (nat_lt below highest) refl e
  where
    node : Ty
    node = record { at = at; kind = of }

    by : (b : Bool) → nat_lt below highest ≡ b → cond b (low_at node (below + 1)) (high_at node at) ≡ low_at t h → OfTy at (Low of below) t h
    by true f g = record { of = of; below = below; is = refl; fits = f; kind_is = ap (λ (x : Ty). x.kind) (sym (same_part node t (below + 1) h g)); height_is = sym (same_height node t (below + 1) h g) }
    by false f g = absurd (high_low at t h g)

pub ty_node-is : (at : ℕ) (kind : TyKind) (below : ℕ) → nat_lt below highest ≡ true → ty_node at (Low kind below) ≡ Low (record { at = at; kind = kind }) (below + 1)
ty_node-is at kind below f = rw f refl

pub record OfExpr (at : ℕ) (kind : Measured ExprKind) (x : Expr) (h : ℕ) : Type 0 where
  pub of : ExprKind
  pub below : ℕ
  pub is : kind ≡ Low of below
  pub fits : nat_lt below highest ≡ true
  pub kind_is : x.kind ≡ of
  pub height_is : h ≡ below + 1

pub expr_node-low : (at : ℕ) (kind : Measured ExprKind) (x : Expr) (h : ℕ) → expr_node at kind ≡ Low x h → OfExpr at kind x h
expr_node-low at (High other) x h e = absurd (high_low other x h e)
expr_node-low at (Low of below) x h e = by (nat_lt below highest) refl e
  where
    node : Expr
    node = record { at = at; kind = of }

    by : (b : Bool) → nat_lt below highest ≡ b → cond b (low_at node (below + 1)) (high_at node at) ≡ low_at x h → OfExpr at (Low of below) x h
    by true f g = record { of = of; below = below; is = refl; fits = f; kind_is = ap (λ (y : Expr). y.kind) (sym (same_part node x (below + 1) h g)); height_is = sym (same_height node x (below + 1) h g) }
    by false f g = absurd (high_low at x h g)

pub expr_node-is : (at : ℕ) (kind : ExprKind) (below : ℕ) → nat_lt below highest ≡ true → expr_node at (Low kind below) ≡ Low (record { at = at; kind = kind }) (below + 1)
expr_node-is at kind below f = rw f refl

-- ---- parts

-- what is made of a part is low where the part is
pub record Made {A B : Type 0} (f : A → B) (part : Measured A) (b : B) (h : ℕ) : Type 0 where
  pub of : A
  pub is : part ≡ Low of h
  pub value : b ≡ f of

pub made-low : {A B : Type 0} (f : A → B) (part : Measured A) (b : B) (h : ℕ) → made f part ≡ Low b h → Made f part b h
made-low f (Low a l) b h e = record { of = a; is = ap (λ n. Low a n) (same_height (f a) b l h e); value = sym (same_part (f a) b l h e) }
made-low f (High at) b h e = absurd (high_low at b h e)

-- both parts are low where one beside the other is
pub record Both {A B : Type 0} (a : Measured A) (b : Measured B) (p : A × B) (h : ℕ) : Type 0 where
  pub first : A
  pub first_height : ℕ
  pub first_is : a ≡ Low first first_height
  pub second : B
  pub second_height : ℕ
  pub second_is : b ≡ Low second second_height
  pub value : p ≡ (first, second)
  pub height_is : h ≡ max first_height second_height

pub both-low : {A B : Type 0} (a : Measured A) (b : Measured B) (p : A × B) (h : ℕ) → both a b ≡ Low p h → Both a b p h
both-low (Low x m) (Low y n) p h e = record {
  first = x;
  first_height = m;
  first_is = refl;
  second = y;
  second_height = n;
  second_is = refl;
  value = sym (same_part (x, y) p (max m n) h e);
  height_is = sym (same_height (x, y) p (max m n) h e);
}
both-low (Low x m) (High at) p h e = absurd (high_low at p h e)
both-low (High at) (Low y n) p h e = absurd (high_low at p h e)
both-low (High at) (High other) p h e = absurd (high_low _ p h e)

-- one more in a list
pub record Pushed {A : Type 0} (all : Measured (List A)) (part : Measured A) (xs : List A) (h : ℕ) : Type 0 where
  pub front : List A
  pub front_height : ℕ
  pub front_is : all ≡ Low front front_height
  pub last : A
  pub last_height : ℕ
  pub last_is : part ≡ Low last last_height
  pub value : xs ≡ front ++ last ∷ []
  pub height_is : h ≡ max front_height last_height

pub pushed-low : {A : Type 0} (all : Measured (List A)) (part : Measured A) (xs : List A) (h : ℕ) → pushed all part ≡ Low xs h → Pushed all part xs h
pushed-low all part xs h e =
    let m = made-low _ (both all part) xs h e in
    let b = both-low all part m.of h m.is in
    record {
      front = b.first;
      front_height = b.first_height;
      front_is = b.first_is;
      last = b.second;
      last_height = b.second_height;
      last_is = b.second_is;
      value = m.value ∙ ap (λ p. p.0 ++ p.1 ∷ []) b.value;
      height_is = b.height_is;
    }
