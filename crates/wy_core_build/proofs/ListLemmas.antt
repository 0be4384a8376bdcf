-- Lists of nodes that grow at their end, and how many nodes they stand for.
use Rattle.std.proofs.Common.{◌≡◌, ◌+◌, ◌<◌, ◌≤◌, ℕ, List, [], ◌∷◌, ◌++◌, length, map, drop, get_or, refl, sym, ap, ◌∙◌}
use Rattle.std.proofs.lemmas.List.{drop_all}
use Rattle.wy_core.specs.CoreSeen.{seen_expr, seen_exprs, seen_fields}
use Rattle.wy_core.specs.CoreTree as tree
use Rattle.wy_core.specs.declared.expressions.Expr.{Expr}
use Rattle.wy_core_build.specs.Instances.{instance_of, instances, instance_fields}
use Rattle.wy_lemmas.proofs.Lists.{next_of as item_and_rest}

-- these expressions, before others
abbrev pub exprs_behind : List Expr → tree.Exprs ℕ → tree.Exprs ℕ
exprs_behind [] rest = rest
exprs_behind (e ∷ es) rest = tree.MoreExprs (seen_expr e) (exprs_behind es rest)

pub exprs_more : (es : List Expr) (e : Expr) (rest : tree.Exprs ℕ) → exprs_behind (es ++ e ∷ []) rest ≡ exprs_behind es (tree.MoreExprs (seen_expr e) rest)
exprs_more [] e rest = refl
exprs_more (x ∷ xs) e rest = ap (tree.MoreExprs (seen_expr x)) (exprs_more xs e rest)

pub exprs_all : (es : List Expr) → exprs_behind es tree.NoExprs ≡ tree.exprs_of (seen_exprs es)
exprs_all [] = refl
exprs_all (x ∷ xs) = ap (tree.MoreExprs (seen_expr x)) (exprs_all xs)

-- these fields, before others
abbrev pub fields_behind : List (List ℕ × Expr) → tree.Fields ℕ → tree.Fields ℕ
fields_behind [] rest = rest
fields_behind (f ∷ fs) rest = tree.MoreFields f.0 (seen_expr f.1) (fields_behind fs rest)

pub fields_more : (fs : List (List ℕ × Expr)) (f : List ℕ × Expr) (rest : tree.Fields ℕ)
    → fields_behind (fs ++ f ∷ []) rest ≡ fields_behind fs (tree.MoreFields f.0 (seen_expr f.1) rest)
fields_more [] f rest = refl
fields_more (x ∷ xs) f rest = ap (tree.MoreFields x.0 (seen_expr x.1)) (fields_more xs f rest)

pub fields_all : (fs : List (List ℕ × Expr)) → fields_behind fs tree.NoFields ≡ seen_fields fs
fields_all [] = refl
fields_all (x ∷ xs) = ap (tree.MoreFields x.0 (seen_expr x.1)) (fields_all xs)

-- ---- a turn of each loop, and its end

pub parts_turn : (at : ℕ) (args : List (tree.Expr ℕ)) (base : ℕ) (made made2 parts : List Expr) (i : ℕ) (part x : Expr) (whole : tree.Exprs ℕ) → i < length parts → part ≡ get_or parts i part
    → seen_expr x ≡ instance_of at args base (seen_expr part) → made2 ≡ made ++ x ∷ []
    → exprs_behind made (instances at args base (tree.exprs_of (seen_exprs (drop i parts)))) ≡ whole
    → exprs_behind made2 (instances at args base (tree.exprs_of (seen_exprs (drop (i + 1) parts)))) ≡ whole
parts_turn at args base made made2 parts i part x whole within is value pushed before =
    ap (λ (m : List Expr). exprs_behind m (instances at args base (tree.exprs_of (seen_exprs (drop (i + 1) parts))))) pushed
    ∙ exprs_more made x (instances at args base (tree.exprs_of (seen_exprs (drop (i + 1) parts))))
    ∙ ap (λ (e : tree.Expr ℕ). exprs_behind made (tree.MoreExprs e (instances at args base (tree.exprs_of (seen_exprs (drop (i + 1) parts)))))) value
    ∙ ap (λ (l : List Expr). exprs_behind made (instances at args base (tree.exprs_of (seen_exprs l)))) (sym (item_and_rest parts i part within is))
    ∙ before

pub parts_end : (at : ℕ) (args : List (tree.Expr ℕ)) (base : ℕ) (made parts : List Expr) (i : ℕ) (whole : tree.Exprs ℕ) → length parts ≤ i
    → exprs_behind made (instances at args base (tree.exprs_of (seen_exprs (drop i parts)))) ≡ whole → tree.exprs_of (seen_exprs made) ≡ whole
parts_end at args base made parts i whole over before =
    sym (exprs_all made) ∙ ap (λ (l : List Expr). exprs_behind made (instances at args base (tree.exprs_of (seen_exprs l)))) (sym (drop_all i parts over)) ∙ before

pub fields_turn : (at : ℕ) (args : List (tree.Expr ℕ)) (base : ℕ) (made made2 fields : List (List ℕ × Expr)) (i : ℕ) (field : List ℕ × Expr) (name : List ℕ) (x : Expr) (whole : tree.Fields ℕ) → i < length fields → field ≡ get_or fields i field
    → name ≡ field.0 → seen_expr x ≡ instance_of at args base (seen_expr field.1) → made2 ≡ made ++ (name, x) ∷ []
    → fields_behind made (instance_fields at args base (seen_fields (drop i fields))) ≡ whole
    → fields_behind made2 (instance_fields at args base (seen_fields (drop (i + 1) fields))) ≡ whole
fields_turn at args base made made2 fields i field name x whole within is named value pushed before =
    ap (λ (m : List (List ℕ × Expr)). fields_behind m (instance_fields at args base (seen_fields (drop (i + 1) fields)))) pushed
    ∙ fields_more made (name, x) (instance_fields at args base (seen_fields (drop (i + 1) fields)))
    ∙ ap (λ (n : List ℕ). fields_behind made (tree.MoreFields n (seen_expr x) (instance_fields at args base (seen_fields (drop (i + 1) fields))))) named
    ∙ ap (λ (e : tree.Expr ℕ). fields_behind made (tree.MoreFields field.0 e (instance_fields at args base (seen_fields (drop (i + 1) fields))))) value
    ∙ ap (λ (l : List (List ℕ × Expr)). fields_behind made (instance_fields at args base (seen_fields l))) (sym (item_and_rest fields i field within is))
    ∙ before

pub fields_end : (at : ℕ) (args : List (tree.Expr ℕ)) (base : ℕ) (made fields : List (List ℕ × Expr)) (i : ℕ) (whole : tree.Fields ℕ) → length fields ≤ i
    → fields_behind made (instance_fields at args base (seen_fields (drop i fields))) ≡ whole → seen_fields made ≡ whole
fields_end at args base made fields i whole over before =
    sym (fields_all made) ∙ ap (λ (l : List (List ℕ × Expr)). fields_behind made (instance_fields at args base (seen_fields l))) (sym (drop_all i fields over)) ∙ before
