-- What is told of the names in types and expressions is told of these.
use Rattle.std.proofs.Common.{◌≡◌, ℕ, ◌+◌, Bool, ◌||◌, List, [], ◌∷◌, ◌++◌, refl, sym, ap, ◌∙◌, arith}
use Rattle.wy_core.specs.Types.{Ty, NullTy, BoolTy, IntTy, AnyTy, VoidTy, RecordTy, ArrayTy, UnionTy, InterTy, NotTy, NamedTy, NormalTy, FieldTys, NoFieldTys, MoreFieldTys}
use Rattle.wy_core.specs.CoreTree.{Expr, NullExpr, BoolExpr, IntExpr, VarExpr, CallExpr, NegExpr, NotExpr, LenExpr, BinaryExpr, IsExpr, IndexExpr, FieldExpr, ListExpr, RepeatExpr, RecordExpr, QuantExpr, Exprs, NoExprs, MoreExprs, Fields, NoFields, MoreFields}
use Rattle.wy_lemmas.proofs.Choices.{or_not as or_false, or_assoc}
use Rattle.wy_vc_spec.specs.wy_sem.TypeTests.{mentions, mentions_fields}
use Rattle.wy_vc_spec.specs.Named.{some_test, some_test_all, some_test_fields, some_test_in, nodes_of_ty, nodes_of_fields, nodes_of_expr, nodes_of_exprs, nodes_of_values, nodes_of_clauses}
use Rattle.wy_graph.specs.reach.Reach.{some, sum_of}
use Rattle.wy_vc_tables.specs.Mentions.{with_ty, with_field_tys, with_expr, with_exprs, with_fields, with_clauses, no_nodes}

some_push : (p : ℕ → Bool) (ns : List ℕ) (n : ℕ) → some p (ns ++ n ∷ []) ≡ (some p ns || p n)
some_push p [] n = sym (or_false (p n))
some_push p (m ∷ ns) n = ap (λ (b : Bool). p m || b) (some_push p ns n) ∙ sym (or_assoc (p m) (some p ns) (p n))

sum_push : (f : ℕ → ℕ) (ns : List ℕ) (n : ℕ) → sum_of f (ns ++ n ∷ []) ≡ sum_of f ns + f n
sum_push f [] n = omega arith
sum_push f (m ∷ ns) n = let h = sum_push f ns n in omega (arith, h)

-- one behind the other
then : (a b c y : Bool) {x : Bool} → x ≡ (a || b) → y ≡ (x || c) → y ≡ (a || (b || c))
then a b c y {x} first second = second ∙ (ap (λ (z : Bool). z || c) first ∙ or_assoc a b c)

-- ---- properties of names

mutual
  pub some_ty : (p : ℕ → Bool) (ns : List ℕ) (t : Ty) → some p (with_ty ns t) ≡ (some p ns || mentions p t)
  some_ty p ns NullTy = or_false (some p ns)
  some_ty p ns BoolTy = or_false (some p ns)
  some_ty p ns IntTy = or_false (some p ns)
  some_ty p ns AnyTy = or_false (some p ns)
  some_ty p ns VoidTy = or_false (some p ns)
  some_ty p ns (RecordTy fields) = some_field_tys p ns fields
  some_ty p ns (ArrayTy item) = some_ty p ns item
  some_ty p ns (UnionTy s t) = then (some p ns) (mentions p s) (mentions p t) (some p (with_ty (with_ty ns s) t)) (some_ty p ns s) (some_ty p (with_ty ns s) t)
  some_ty p ns (InterTy s t) = then (some p ns) (mentions p s) (mentions p t) (some p (with_ty (with_ty ns s) t)) (some_ty p ns s) (some_ty p (with_ty ns s) t)
  some_ty p ns (NotTy t) = some_ty p ns t
  some_ty p ns (NamedTy n) = some_push p ns n
  some_ty p ns (NormalTy union) = or_false (some p ns)

  some_field_tys : (p : ℕ → Bool) (ns : List ℕ) (fs : FieldTys) → some p (with_field_tys ns fs) ≡ (some p ns || mentions_fields p fs)
  some_field_tys p ns NoFieldTys = or_false (some p ns)
  some_field_tys p ns (MoreFieldTys f t fields) = then (some p ns) (mentions p t) (mentions_fields p fields) (some p (with_field_tys (with_ty ns t) fields)) (some_ty p ns t) (some_field_tys p (with_ty ns t) fields)

mutual
  some_expr : {N : Type 0} (p : ℕ → Bool) (ns : List ℕ) (e : Expr N) → some p (with_expr ns e) ≡ (some p ns || some_test (mentions p) e)
  some_expr p ns (NullExpr n) = or_false (some p ns)
  some_expr p ns (BoolExpr n truth) = or_false (some p ns)
  some_expr p ns (IntExpr n number) = or_false (some p ns)
  some_expr p ns (VarExpr n x) = or_false (some p ns)
  some_expr p ns (CallExpr n routine args) = some_exprs p ns args
  some_expr p ns (NegExpr n a) = some_expr p ns a
  some_expr p ns (NotExpr n a) = some_expr p ns a
  some_expr p ns (LenExpr n a) = some_expr p ns a
  some_expr p ns (BinaryExpr n op a b) = then (some p ns) (some_test (mentions p) a) (some_test (mentions p) b) (some p (with_expr (with_expr ns a) b)) (some_expr p ns a) (some_expr p (with_expr ns a) b)
  some_expr p ns (IsExpr n a t) = then (some p ns) (some_test (mentions p) a) (mentions p t) (some p (with_ty (with_expr ns a) t)) (some_expr p ns a) (some_ty p (with_expr ns a) t)
  some_expr p ns (IndexExpr n a b) = then (some p ns) (some_test (mentions p) a) (some_test (mentions p) b) (some p (with_expr (with_expr ns a) b)) (some_expr p ns a) (some_expr p (with_expr ns a) b)
  some_expr p ns (FieldExpr n a name) = some_expr p ns a
  some_expr p ns (ListExpr n items) = some_exprs p ns items
  some_expr p ns (RepeatExpr n a b) = then (some p ns) (some_test (mentions p) a) (some_test (mentions p) b) (some p (with_expr (with_expr ns a) b)) (some_expr p ns a) (some_expr p (with_expr ns a) b)
  some_expr p ns (RecordExpr n fields) = some_fields p ns fields
  some_expr p ns (QuantExpr n all x a b body) =
      then (some p ns) (some_test (mentions p) a) (some_test (mentions p) b || some_test (mentions p) body) (some p (with_expr (with_expr (with_expr ns a) b) body)) (some_expr p ns a)
      (then (some p (with_expr ns a)) (some_test (mentions p) b) (some_test (mentions p) body) (some p (with_expr (with_expr (with_expr ns a) b) body)) (some_expr p (with_expr ns a) b) (some_expr p (with_expr (with_expr ns a) b) body))

  some_exprs : {N : Type 0} (p : ℕ → Bool) (ns : List ℕ) (es : Exprs N) → some p (with_exprs ns es) ≡ (some p ns || some_test_all (mentions p) es)
  some_exprs p ns NoExprs = or_false (some p ns)
  some_exprs p ns (MoreExprs e es) = then (some p ns) (some_test (mentions p) e) (some_test_all (mentions p) es) (some p (with_exprs (with_expr ns e) es)) (some_expr p ns e) (some_exprs p (with_expr ns e) es)

  some_fields : {N : Type 0} (p : ℕ → Bool) (ns : List ℕ) (fs : Fields N) → some p (with_fields ns fs) ≡ (some p ns || some_test_fields (mentions p) fs)
  some_fields p ns NoFields = or_false (some p ns)
  some_fields p ns (MoreFields name e fs) = then (some p ns) (some_test (mentions p) e) (some_test_fields (mentions p) fs) (some p (with_fields (with_expr ns e) fs)) (some_expr p ns e) (some_fields p (with_expr ns e) fs)

pub some_clauses : {N : Type 0} (p : ℕ → Bool) (ns : List ℕ) (es : List (Expr N)) → some p (with_clauses ns es) ≡ (some p ns || some_test_in (mentions p) es)
some_clauses p ns [] = or_false (some p ns)
some_clauses p ns (e ∷ es) = then (some p ns) (some_test (mentions p) e) (some_test_in (mentions p) es) (some p (with_clauses (with_expr ns e) es)) (some_expr p ns e) (some_clauses p (with_expr ns e) es)

-- ---- counts of nodes

mutual
  pub sum_ty : (f : ℕ → ℕ) (ns : List ℕ) (t : Ty) → sum_of f (with_ty ns t) + nodes_of_ty no_nodes t ≡ sum_of f ns + nodes_of_ty f t
  sum_ty f ns NullTy = refl
  sum_ty f ns BoolTy = refl
  sum_ty f ns IntTy = refl
  sum_ty f ns AnyTy = refl
  sum_ty f ns VoidTy = refl
  sum_ty f ns (RecordTy fields) = let h = sum_field_tys f ns fields in omega (arith, h)
  sum_ty f ns (ArrayTy item) = let h = sum_ty f ns item in omega (arith, h)
  sum_ty f ns (UnionTy s t) = let h = sum_ty f ns s in let g = sum_ty f (with_ty ns s) t in omega (arith, h, g)
  sum_ty f ns (InterTy s t) = let h = sum_ty f ns s in let g = sum_ty f (with_ty ns s) t in omega (arith, h, g)
  sum_ty f ns (NotTy t) = let h = sum_ty f ns t in omega (arith, h)
  sum_ty f ns (NamedTy n) = let h = sum_push f ns n in omega (arith, h)
  sum_ty f ns (NormalTy union) = refl

  sum_field_tys : (f : ℕ → ℕ) (ns : List ℕ) (fs : FieldTys) → sum_of f (with_field_tys ns fs) + nodes_of_fields no_nodes fs ≡ sum_of f ns + nodes_of_fields f fs
  sum_field_tys f ns NoFieldTys = refl
  sum_field_tys f ns (MoreFieldTys name t fields) = let h = sum_ty f ns t in let g = sum_field_tys f (with_ty ns t) fields in omega (arith, h, g)

mutual
  sum_expr : {N : Type 0} (f : ℕ → ℕ) (ns : List ℕ) (e : Expr N) → sum_of f (with_expr ns e) + nodes_of_expr no_nodes e ≡ sum_of f ns + nodes_of_expr f e
  sum_expr f ns (NullExpr n) = refl
  sum_expr f ns (BoolExpr n truth) = refl
  sum_expr f ns (IntExpr n number) = refl
  sum_expr f ns (VarExpr n x) = refl
  sum_expr f ns (CallExpr n routine args) = let h = sum_exprs f ns args in omega (arith, h)
  sum_expr f ns (NegExpr n a) = let h = sum_expr f ns a in omega (arith, h)
  sum_expr f ns (NotExpr n a) = let h = sum_expr f ns a in omega (arith, h)
  sum_expr f ns (LenExpr n a) = let h = sum_expr f ns a in omega (arith, h)
  sum_expr f ns (BinaryExpr n op a b) = let h = sum_expr f ns a in let g = sum_expr f (with_expr ns a) b in omega (arith, h, g)
  sum_expr f ns (IsExpr n a t) = let h = sum_expr f ns a in let g = sum_ty f (with_expr ns a) t in omega (arith, h, g)
  sum_expr f ns (IndexExpr n a b) = let h = sum_expr f ns a in let g = sum_expr f (with_expr ns a) b in omega (arith, h, g)
  sum_expr f ns (FieldExpr n a name) = let h = sum_expr f ns a in omega (arith, h)
  sum_expr f ns (ListExpr n items) = let h = sum_exprs f ns items in omega (arith, h)
  sum_expr f ns (RepeatExpr n a b) = let h = sum_expr f ns a in let g = sum_expr f (with_expr ns a) b in omega (arith, h, g)
  sum_expr f ns (RecordExpr n fields) = let h = sum_fields f ns fields in omega (arith, h)
  sum_expr f ns (QuantExpr n all x a b body) =
      let h = sum_expr f ns a in let g = sum_expr f (with_expr ns a) b in let k = sum_expr f (with_expr (with_expr ns a) b) body in omega (arith, h, g, k)

  sum_exprs : {N : Type 0} (f : ℕ → ℕ) (ns : List ℕ) (es : Exprs N) → sum_of f (with_exprs ns es) + nodes_of_exprs no_nodes es ≡ sum_of f ns + nodes_of_exprs f es
  sum_exprs f ns NoExprs = refl
  sum_exprs f ns (MoreExprs e es) = let h = sum_expr f ns e in let g = sum_exprs f (with_expr ns e) es in omega (arith, h, g)

  sum_fields : {N : Type 0} (f : ℕ → ℕ) (ns : List ℕ) (fs : Fields N) → sum_of f (with_fields ns fs) + nodes_of_values no_nodes fs ≡ sum_of f ns + nodes_of_values f fs
  sum_fields f ns NoFields = refl
  sum_fields f ns (MoreFields name e fs) = let h = sum_expr f ns e in let g = sum_fields f (with_expr ns e) fs in omega (arith, h, g)

pub sum_clauses : {N : Type 0} (f : ℕ → ℕ) (ns : List ℕ) (es : List (Expr N)) → sum_of f (with_clauses ns es) + nodes_of_clauses no_nodes es ≡ sum_of f ns + nodes_of_clauses f es
sum_clauses f ns [] = refl
sum_clauses f ns (e ∷ es) = let h = sum_expr f ns e in let g = sum_clauses f (with_expr ns e) es in omega (arith, h, g)
