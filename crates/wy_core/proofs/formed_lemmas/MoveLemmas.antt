-- What is bound among some variables is bound among more of them, where those are new.
use Rattle.std.proofs.Common.{inl, inr, ◌<◌, ◌≤◌, ℕ, ◌∷◌, arith}
use Rattle.wy_core.specs.CoreTree.{Expr, NullExpr, BoolExpr, IntExpr, VarExpr, CallExpr, NegExpr, NotExpr, LenExpr, BinaryExpr, IsExpr, IndexExpr, FieldExpr, ListExpr, RepeatExpr, RecordExpr, QuantExpr, Exprs, NoExprs, MoreExprs, Fields, NoFields, MoreFields}
use Rattle.wy_core.specs.formed.Offers.{Offers}
use Rattle.wy_core.specs.formed.Bound.{Scope, Has, BoundExpr, BoundExprs, BoundFields}
use Rattle.wy_core.specs.formed.Moves.{Moves}

pub moves_more : {n m : ℕ} {vs ws : Scope} (v : ℕ) → Moves n m vs ws → Moves n m (v ∷ vs) (v ∷ ws)
moves_more {n} {m} {vs} {ws} v h = record { within = h.within; all = all; none = none }
  where
    all : (x : ℕ) → Has (v ∷ vs) x → Has (v ∷ ws) x
    all x (inl e) = inl e
    all x (inr k) = inr (h.all x k)

    none : (x : ℕ) → Has (v ∷ ws) x → x < n → Has (v ∷ vs) x
    none x (inl e) lt = inl e
    none x (inr k) lt = inr (h.none x k lt)

module _ (o : Offers) where
  mutual
    pub moved_expr : {n m : ℕ} {vs ws : Scope} → Moves n m vs ws → (e : Expr ℕ) → BoundExpr o n vs e → BoundExpr o m ws e
    moved_expr h (NullExpr at) b = tt
    moved_expr h (BoolExpr at truth) b = tt
    moved_expr h (IntExpr at number) b = tt
    moved_expr h (VarExpr at v) b = h.all v b
    moved_expr h (CallExpr at routine args) b = (b.0, moved_exprs h args b.1)
    moved_expr h (NegExpr at a) b = moved_expr h a b
    moved_expr h (NotExpr at a) b = moved_expr h a b
    moved_expr h (LenExpr at a) b = moved_expr h a b
    moved_expr h (BinaryExpr at op x y) b = (moved_expr h x b.0, moved_expr h y b.1)
    moved_expr h (IsExpr at a t) b = (moved_expr h a b.0, b.1)
    moved_expr h (IndexExpr at x y) b = (moved_expr h x b.0, moved_expr h y b.1)
    moved_expr h (FieldExpr at a name) b = moved_expr h a b
    moved_expr h (ListExpr at items) b = moved_exprs h items b
    moved_expr h (RepeatExpr at x y) b = (moved_expr h x b.0, moved_expr h y b.1)
    moved_expr h (RecordExpr at fields) b = (b.0, moved_fields h fields b.1)
    moved_expr {n} {m} {vs} {ws} h (QuantExpr at all v from to body) b =
        let less : v < n = b.0.0 in
        let wide : n ≤ m = h.within in
        ((omega (arith, less, wide), λ (k : Has ws v). b.0.1 (h.none v k less)), moved_expr h from b.1, moved_expr h to b.2, moved_expr (moves_more v h) body b.3)

    pub moved_exprs : {n m : ℕ} {vs ws : Scope} → Moves n m vs ws → (es : Exprs ℕ) → BoundExprs o n vs es → BoundExprs o m ws es
    moved_exprs h NoExprs b = tt
    moved_exprs h (MoreExprs e rest) b = (moved_expr h e b.0, moved_exprs h rest b.1)

    pub moved_fields : {n m : ℕ} {vs ws : Scope} → Moves n m vs ws → (fs : Fields ℕ) → BoundFields o n vs fs → BoundFields o m ws fs
    moved_fields h NoFields b = tt
    moved_fields h (MoreFields name e rest) b = (moved_expr h e b.0, moved_fields h rest b.1)
