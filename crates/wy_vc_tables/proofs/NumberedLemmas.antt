-- The numbers of expressions change nothing of the names that they mention, and of their nodes.
use Rattle.std.proofs.Common.{◌≡◌, ℕ, ◌+◌, Bool, List, [], ◌∷◌, refl, ap, ◌∙◌, arith}
use Rattle.wy_core.specs.CoreTree.{Expr, NullExpr, BoolExpr, IntExpr, VarExpr, CallExpr, NegExpr, NotExpr, LenExpr, BinaryExpr, IsExpr, IndexExpr, FieldExpr, ListExpr, RepeatExpr, RecordExpr, QuantExpr, Exprs, NoExprs, MoreExprs, Fields, NoFields, MoreFields, Alias}
use Rattle.wy_vc_spec.specs.wy_sem.TypeTests.{has_clauses}
use Rattle.wy_vc_spec.specs.Named.{nodes_of_ty, nodes_of_expr, nodes_of_exprs, nodes_of_values, nodes_of_clauses}
use Rattle.wy_vc_spec.specs.Numbered.{numbered, numbered_all, numbered_fields, numbered_list, numbered_alias}
use Rattle.wy_vc_spec.specs.Sizes.{exprs_in}
use Rattle.wy_graph.specs.declared.reach.entries.Entry.{Entry}
use Rattle.wy_vc_tables.specs.Mentions.{with_ty, with_expr, with_exprs, with_fields, with_clauses, no_nodes, entry_of}

mutual
  names_same : (ns : List ℕ) (e : Expr ℕ) (k : ℕ) → with_expr ns (numbered e k) ≡ with_expr ns e
  names_same ns (NullExpr at) k = refl
  names_same ns (BoolExpr at truth) k = refl
  names_same ns (IntExpr at number) k = refl
  names_same ns (VarExpr at x) k = refl
  names_same ns (CallExpr at routine args) k = names_same_all ns args k
  names_same ns (NegExpr at a) k = names_same ns a k
  names_same ns (NotExpr at a) k = names_same ns a k
  names_same ns (LenExpr at a) k = names_same ns a k
  names_same ns (BinaryExpr at op a b) k = names_same (with_expr ns (numbered a k)) b (k + exprs_in a) ∙ ap (λ (l : List ℕ). with_expr l b) (names_same ns a k)
  names_same ns (IsExpr at a t) k = ap (λ (l : List ℕ). with_ty l t) (names_same ns a k)
  names_same ns (IndexExpr at a b) k = names_same (with_expr ns (numbered a k)) b (k + exprs_in a) ∙ ap (λ (l : List ℕ). with_expr l b) (names_same ns a k)
  names_same ns (FieldExpr at a name) k = names_same ns a k
  names_same ns (ListExpr at items) k = names_same_all ns items k
  names_same ns (RepeatExpr at a b) k = names_same (with_expr ns (numbered a k)) b (k + exprs_in a) ∙ ap (λ (l : List ℕ). with_expr l b) (names_same ns a k)
  names_same ns (RecordExpr at fields) k = names_same_fields ns fields k
  names_same ns (QuantExpr at all x a b body) k =
      names_same (with_expr (with_expr ns (numbered a k)) (numbered b (k + exprs_in a))) body (k + exprs_in a + exprs_in b)
      ∙ ap (λ (l : List ℕ). with_expr l body) (names_same (with_expr ns (numbered a k)) b (k + exprs_in a) ∙ ap (λ (l : List ℕ). with_expr l b) (names_same ns a k))

  names_same_all : (ns : List ℕ) (es : Exprs ℕ) (k : ℕ) → with_exprs ns (numbered_all es k) ≡ with_exprs ns es
  names_same_all ns NoExprs k = refl
  names_same_all ns (MoreExprs e es) k = names_same_all (with_expr ns (numbered e k)) es (k + exprs_in e) ∙ ap (λ (l : List ℕ). with_exprs l es) (names_same ns e k)

  names_same_fields : (ns : List ℕ) (fs : Fields ℕ) (k : ℕ) → with_fields ns (numbered_fields fs k) ≡ with_fields ns fs
  names_same_fields ns NoFields k = refl
  names_same_fields ns (MoreFields name e fs) k = names_same_fields (with_expr ns (numbered e k)) fs (k + exprs_in e) ∙ ap (λ (l : List ℕ). with_fields l fs) (names_same ns e k)

names_same_list : (ns : List ℕ) (es : List (Expr ℕ)) (k : ℕ) → with_clauses ns (numbered_list es k) ≡ with_clauses ns es
names_same_list ns [] k = refl
names_same_list ns (e ∷ es) k = names_same_list (with_expr ns (numbered e k)) es (k + exprs_in e) ∙ ap (λ (l : List ℕ). with_clauses l es) (names_same ns e k)

mutual
  nodes_same : (f : ℕ → ℕ) (e : Expr ℕ) (k : ℕ) → nodes_of_expr f (numbered e k) ≡ nodes_of_expr f e
  nodes_same f (NullExpr at) k = refl
  nodes_same f (BoolExpr at truth) k = refl
  nodes_same f (IntExpr at number) k = refl
  nodes_same f (VarExpr at x) k = refl
  nodes_same f (CallExpr at routine args) k = ap (λ (n : ℕ). 1 + n) (nodes_same_all f args k)
  nodes_same f (NegExpr at a) k = ap (λ (n : ℕ). 1 + n) (nodes_same f a k)
  nodes_same f (NotExpr at a) k = ap (λ (n : ℕ). 1 + n) (nodes_same f a k)
  nodes_same f (LenExpr at a) k = ap (λ (n : ℕ). 1 + n) (nodes_same f a k)
  nodes_same f (BinaryExpr at op a b) k = let h = nodes_same f a k in let g = nodes_same f b (k + exprs_in a) in omega (arith, h, g)
  nodes_same f (IsExpr at a t) k = let h = nodes_same f a k in omega (arith, h)
  nodes_same f (IndexExpr at a b) k = let h = nodes_same f a k in let g = nodes_same f b (k + exprs_in a) in omega (arith, h, g)
  nodes_same f (FieldExpr at a name) k = ap (λ (n : ℕ). 1 + n) (nodes_same f a k)
  nodes_same f (ListExpr at items) k = ap (λ (n : ℕ). 1 + n) (nodes_same_all f items k)
  nodes_same f (RepeatExpr at a b) k = let h = nodes_same f a k in let g = nodes_same f b (k + exprs_in a) in omega (arith, h, g)
  nodes_same f (RecordExpr at fields) k = ap (λ (n : ℕ). 1 + n) (nodes_same_values f fields k)
  nodes_same f (QuantExpr at all x a b body) k =
      let h = nodes_same f a k in let g = nodes_same f b (k + exprs_in a) in let j = nodes_same f body (k + exprs_in a + exprs_in b) in omega (arith, h, g, j)

  nodes_same_all : (f : ℕ → ℕ) (es : Exprs ℕ) (k : ℕ) → nodes_of_exprs f (numbered_all es k) ≡ nodes_of_exprs f es
  nodes_same_all f NoExprs k = refl
  nodes_same_all f (MoreExprs e es) k = let h = nodes_same f e k in let g = nodes_same_all f es (k + exprs_in e) in omega (arith, h, g)

  nodes_same_values : (f : ℕ → ℕ) (fs : Fields ℕ) (k : ℕ) → nodes_of_values f (numbered_fields fs k) ≡ nodes_of_values f fs
  nodes_same_values f NoFields k = refl
  nodes_same_values f (MoreFields name e fs) k = let h = nodes_same f e k in let g = nodes_same_values f fs (k + exprs_in e) in omega (arith, h, g)

nodes_same_list : (f : ℕ → ℕ) (es : List (Expr ℕ)) (k : ℕ) → nodes_of_clauses f (numbered_list es k) ≡ nodes_of_clauses f es
nodes_same_list f [] k = refl
nodes_same_list f (e ∷ es) k = let h = nodes_same f e k in let g = nodes_same_list f es (k + exprs_in e) in omega (arith, h, g)

clauses_same : (es : List (Expr ℕ)) (k : ℕ) → has_clauses (numbered_list es k) ≡ has_clauses es
clauses_same [] k = refl
clauses_same (e ∷ es) k = refl

abbrev entry : List ℕ → ℕ → Bool → Entry
entry names own has = record { names = names; own = own; has_clauses = has }

same_entry : (names names2 : List ℕ) (own own2 : ℕ) (has has2 : Bool) → names ≡ names2 → own ≡ own2 → has ≡ has2 → entry names own has ≡ entry names2 own2 has2
same_entry names names2 own own2 has has2 e f g = ap (λ (l : List ℕ). entry l own has) e ∙ (ap (λ (n : ℕ). entry names2 n has) f ∙ ap (λ (b : Bool). entry names2 own2 b) g)

-- what a named type says of others, with numbers and without
pub entry_numbered : (a : Alias ℕ) (k : ℕ) → entry_of (numbered_alias a k) ≡ entry_of a
entry_numbered a k =
    same_entry (with_clauses (with_ty [] a.ty) (numbered_list a.clauses k)) (with_clauses (with_ty [] a.ty) a.clauses) (nodes_of_ty no_nodes a.ty + nodes_of_clauses no_nodes (numbered_list a.clauses k)) (nodes_of_ty no_nodes a.ty + nodes_of_clauses no_nodes a.clauses)
    (has_clauses (numbered_list a.clauses k)) (has_clauses a.clauses) (names_same_list (with_ty [] a.ty) a.clauses k) (ap (λ (n : ℕ). nodes_of_ty no_nodes a.ty + n) (nodes_same_list no_nodes a.clauses k)) (clauses_same a.clauses k)
