-- The expressions that are read: the names in their records and behind their dots are names, their numbers `int`s, the
-- codes in their texts bytes.
use Rattle.std.proofs.Common.{◌≡◌, ◌<◌, ◌==◌, ℕ, ℤ, pos, negsuc, zero, suc, Bool, true, false, true≢false, cond, nat_le, List, [], ◌∷◌, refl, sym, ap, ◌∙◌, subst, arith, rules}
use Rattle.std.specs.Prelude.{neg_ℤ}
use Rattle.std.proofs.lemmas.Int.{ints}
use Rattle.wy_reading.specs.Rule.{among}
use Rattle.wy_core.specs.formed.Literals.{IsInt}
use Rattle.wy_data.specs.Words.{IsName}
use Rattle.wy_ast.specs.SurfaceTree as tree
use Rattle.wy_ast.specs.SurfaceSeen.{seen_ty, seen_expr, seen_exprs, seen_fields, seen_ranges}
use Rattle.wy_ast.specs.declared.types.Ty.{Ty}
use Rattle.wy_ast.specs.declared.expressions.Op.{Op}
use Rattle.wy_ast.specs.declared.expressions.Op.TheVariants as op
use Rattle.wy_ast.specs.declared.expressions.Expr.{Expr, the_lemmas}
use Rattle.wy_ast.specs.declared.expressions.ExprKind.{ExprKind}
use Rattle.wy_ast.specs.declared.expressions.ExprKind.TheVariants as e
use Rattle.wy_print_laws.specs.wy_lex.declared.token.TokenKind.{TokenKind}
use Rattle.wy_print_laws.specs.wy_lex.declared.token.TokenKind.TheVariants as k
use Rattle.wy_print_laws.specs.wy_lex.Lists.{AllText, IsProper, is_text}
use Rattle.wy_print_laws.specs.wy_parse_grammar.declared.measured.Measured.TheVariants.{Low}
use Rattle.wy_print_laws.specs.wy_parse_grammar.declared.fault.Kind.TheVariants.{Deep, Mixed}
use Rattle.wy_print_laws.specs.wy_parse_grammar.declared.sort.Class.{Class}
use Rattle.wy_print_laws.specs.wy_parse_grammar.declared.sort.Class.TheVariants as kinds
use Rattle.wy_print_laws.specs.wy_parse_grammar.Sorts as t
use Rattle.wy_print_laws.specs.wy_parse_grammar.Sorts.{has, is, sort, numeral_sort}
use Rattle.wy_print_laws.specs.wy_parse_grammar.Steps.{R, Operator, op_of}
use Rattle.wy_print_laws.specs.wy_parse_grammar.Trees.{both, made, pushed, named, none, leaf, neg, not_expr, len, binary, is_expr, index, field, call, list, repeat, fields, range, quant}
use Rattle.wy_print_laws.specs.wy_parse_grammar.TypeGrammar.{T}
use Rattle.wy_print_laws.specs.wy_parse_grammar.ExprGrammar.{E, Args, Fields, Ranges, literal_kind, Literal, touches, opposite, Glued, is_all, Quantifier, Factor, Product, Summand, Sum, Compared, Comparison, Connected, Chain, Mix, Logic, ExprOf, NextArg, MoreArgs, ArgList, Field, NextField, FieldList, Range, NextRange, RangeList, Listed, Called, Quantified, Primary, Step, Steps, Negated, UnaryOf, level, Unary, Expr_, SumIn, ArgsIn, joint}
use Rattle.wy_names.specs.resolved.SourceLiterals.{Bytes, SourceExpr, SourceExprs, SourceFields, SourceRanges}
use Rattle.wy_gen_sources.specs.source_ints.SourceFields.{FieldsExpr, FieldsExprs, FieldsValues, FieldsRanges}
use Rattle.wy_print_laws.proofs.round_lemmas.Gives.{Gives, gives-pure, gives-one, gives-then, gives-or, gives-loop, gives-refused, gives-unless, gives-fenced, Anything, gives-mark, gives-inner, gives-name, gives-inner_name}
use Rattle.wy_gen_sources.proofs.source_ints_lemmas.LowLemmas.{OnLow, AllOf, low-both, low-made, low-pushed, low-named, low-expr, crossed, crossed_three}
use Rattle.wy_gen_sources.proofs.source_ints_lemmas.TypeFields.{IsTy, IsT, gives-type}

-- ---- nodes

abbrev expr_at : ℕ → ExprKind → Expr
expr_at at kind = record { at = at; kind = kind }

abbrev LeavesOf : tree.Expr → Type 0
LeavesOf y = SourceExpr y × FieldsExpr y

abbrev pub IsExpr : Expr → Type 0
IsExpr x = LeavesOf (seen_expr x)

abbrev pub IsE : E → Type 0
IsE m = OnLow IsExpr m

pub is-expr : (x : Expr) (y : tree.Expr) → seen_expr x ≡ y → LeavesOf y → IsExpr x
is-expr x y same h = subst LeavesOf (sym same) h

seen_null : (x : Expr) → x.kind ≡ e.Null → seen_expr x ≡ tree.NullExpr x.at
seen_null x is = search (rules, the_lemmas)

seen_bool : (x : Expr) (b : Bool) → x.kind ≡ e.Bool b → seen_expr x ≡ tree.BoolExpr x.at b
seen_bool x b is = search (rules, the_lemmas)

seen_int : (x : Expr) (z : ℤ) → x.kind ≡ e.Int z → seen_expr x ≡ tree.IntExpr x.at z
seen_int x z is = search (rules, the_lemmas)

seen_text : (x : Expr) (cs : List ℕ) → x.kind ≡ e.Text cs → seen_expr x ≡ tree.TextExpr x.at cs
seen_text x cs is = search (rules, the_lemmas)

seen_var : (x : Expr) (name : List ℕ) → x.kind ≡ e.Var name → seen_expr x ≡ tree.VarExpr x.at name
seen_var x name is = search (rules, the_lemmas)

seen_call : (x : Expr) (name : List ℕ) (es : List Expr) → x.kind ≡ e.Call name es → seen_expr x ≡ tree.CallExpr x.at name (tree.exprs_of (seen_exprs es))
seen_call x name es is = search (rules, the_lemmas)

seen_neg : (x : Expr) (a : Expr) → x.kind ≡ e.Neg a → seen_expr x ≡ tree.NegExpr x.at (seen_expr a)
seen_neg x a is = search (rules, the_lemmas)

seen_not : (x : Expr) (a : Expr) → x.kind ≡ e.Not a → seen_expr x ≡ tree.NotExpr x.at (seen_expr a)
seen_not x a is = search (rules, the_lemmas)

seen_len : (x : Expr) (a : Expr) → x.kind ≡ e.Len a → seen_expr x ≡ tree.LenExpr x.at (seen_expr a)
seen_len x a is = search (rules, the_lemmas)

seen_binary : (x : Expr) (o : Op) (a b : Expr) → x.kind ≡ e.Binary o a b → seen_expr x ≡ tree.BinaryExpr x.at o (seen_expr a) (seen_expr b)
seen_binary x o a b is = search (rules, the_lemmas)

seen_is : (x : Expr) (a : Expr) (ty : Ty) → x.kind ≡ e.Is a ty → seen_expr x ≡ tree.IsExpr x.at (seen_expr a) (seen_ty ty)
seen_is x a ty is = search (rules, the_lemmas)

seen_index : (x : Expr) (a b : Expr) → x.kind ≡ e.Index a b → seen_expr x ≡ tree.IndexExpr x.at (seen_expr a) (seen_expr b)
seen_index x a b is = search (rules, the_lemmas)

seen_field : (x : Expr) (a : Expr) (name : List ℕ) → x.kind ≡ e.Field a name → seen_expr x ≡ tree.FieldExpr x.at (seen_expr a) name
seen_field x a name is = search (rules, the_lemmas)

seen_list : (x : Expr) (es : List Expr) → x.kind ≡ e.List es → seen_expr x ≡ tree.ListExpr x.at (tree.exprs_of (seen_exprs es))
seen_list x es is = search (rules, the_lemmas)

seen_repeat : (x : Expr) (a b : Expr) → x.kind ≡ e.Repeat a b → seen_expr x ≡ tree.RepeatExpr x.at (seen_expr a) (seen_expr b)
seen_repeat x a b is = search (rules, the_lemmas)

seen_record : (x : Expr) (fs : List (List ℕ × Expr)) → x.kind ≡ e.Record fs → seen_expr x ≡ tree.RecordExpr x.at (seen_fields fs)
seen_record x fs is = search (rules, the_lemmas)

seen_quant : (x : Expr) (all : Bool) (rs : List (List ℕ × Expr × Expr)) (body : Expr) → x.kind ≡ e.Quant all rs body → seen_expr x ≡ tree.QuantExpr x.at all (seen_ranges rs) (seen_expr body)
seen_quant x all rs body is = search (rules, the_lemmas)

abbrev Both : Expr × Expr → Type 0
Both z = IsExpr z.0 × IsExpr z.1

-- a node of one part
module _ (at : ℕ) (m : E) (p : IsE m) where
  neg-e : IsE (neg at m)
  neg-e = low-expr IsExpr at (made e.Neg m) (low-made IsExpr (λ k. IsExpr (expr_at at k)) e.Neg m (λ x h. is-expr (expr_at at (e.Neg x)) (tree.NegExpr at (seen_expr x)) (seen_neg (expr_at at (e.Neg x)) x refl) h) p)

  not-e : IsE (not_expr at m)
  not-e = low-expr IsExpr at (made e.Not m) (low-made IsExpr (λ k. IsExpr (expr_at at k)) e.Not m (λ x h. is-expr (expr_at at (e.Not x)) (tree.NotExpr at (seen_expr x)) (seen_not (expr_at at (e.Not x)) x refl) h) p)

  len-e : IsE (len at m)
  len-e = low-expr IsExpr at (made e.Len m) (low-made IsExpr (λ k. IsExpr (expr_at at k)) e.Len m (λ x h. is-expr (expr_at at (e.Len x)) (tree.LenExpr at (seen_expr x)) (seen_len (expr_at at (e.Len x)) x refl) h) p)

  field-e : (name : List ℕ) → IsName name → IsE (field at m name)
  field-e name v =
      low-expr IsExpr at (made (λ r. e.Field r name) m)
      (low-made IsExpr (λ k. IsExpr (expr_at at k)) (λ r. e.Field r name) m (λ x h. is-expr (expr_at at (e.Field x name)) (tree.FieldExpr at (seen_expr x) name) (seen_field (expr_at at (e.Field x name)) x name refl) (h.0, (h.1, v))) p)

  is-e : (ty : T) → IsT ty → IsE (is_expr at m ty)
  is-e ty q =
      low-expr IsExpr at (made (λ z. e.Is z.0 z.1) (both m ty))
      (low-made (λ (z : Expr × Ty). IsExpr z.0 × IsTy z.1) (λ k. IsExpr (expr_at at k)) (λ z. e.Is z.0 z.1) (both m ty)
      (λ z h. is-expr (expr_at at (e.Is z.0 z.1)) (tree.IsExpr at (seen_expr z.0) (seen_ty z.1)) (seen_is (expr_at at (e.Is z.0 z.1)) z.0 z.1 refl) (h.0.0, (h.0.1, h.1))) (low-both IsExpr IsTy m ty p q))

  -- and of two
  module _ (n : E) (q : IsE n) where
    binary-e : (o : Op) → IsE (binary at o m n)
    binary-e o =
        low-expr IsExpr at (made (λ z. e.Binary o z.0 z.1) (both m n))
        (low-made Both (λ k. IsExpr (expr_at at k)) (λ z. e.Binary o z.0 z.1) (both m n)
        (λ z h. is-expr (expr_at at (e.Binary o z.0 z.1)) (tree.BinaryExpr at o (seen_expr z.0) (seen_expr z.1)) (seen_binary (expr_at at (e.Binary o z.0 z.1)) o z.0 z.1 refl) (crossed h.0 h.1)) (low-both IsExpr IsExpr m n p q))

    index-e : IsE (index at m n)
    index-e =
        low-expr IsExpr at (made (λ z. e.Index z.0 z.1) (both m n))
        (low-made Both (λ k. IsExpr (expr_at at k)) (λ z. e.Index z.0 z.1) (both m n)
        (λ z h. is-expr (expr_at at (e.Index z.0 z.1)) (tree.IndexExpr at (seen_expr z.0) (seen_expr z.1)) (seen_index (expr_at at (e.Index z.0 z.1)) z.0 z.1 refl) (crossed h.0 h.1)) (low-both IsExpr IsExpr m n p q))

    repeat-e : IsE (repeat at m n)
    repeat-e =
        low-expr IsExpr at (made (λ z. e.Repeat z.0 z.1) (both m n))
        (low-made Both (λ k. IsExpr (expr_at at k)) (λ z. e.Repeat z.0 z.1) (both m n)
        (λ z h. is-expr (expr_at at (e.Repeat z.0 z.1)) (tree.RepeatExpr at (seen_expr z.0) (seen_expr z.1)) (seen_repeat (expr_at at (e.Repeat z.0 z.1)) z.0 z.1 refl) (crossed h.0 h.1)) (low-both IsExpr IsExpr m n p q))

-- ---- leaves

leaf-e : (at : ℕ) (kind : ExprKind) → IsExpr (expr_at at kind) → IsE (leaf at kind)
leaf-e at kind h = low-expr IsExpr at (Low kind 0) h

var-e : (at : ℕ) (name : List ℕ) → IsE (leaf at (e.Var name))
var-e at name = leaf-e at (e.Var name) (is-expr (expr_at at (e.Var name)) (tree.VarExpr at name) (seen_var (expr_at at (e.Var name)) name refl) (tt, tt))

pub int-expr : (at : ℕ) (z : ℤ) → IsInt z → IsExpr (record { at = at; kind = e.Int z })
int-expr at z h = is-expr (expr_at at (e.Int z)) (tree.IntExpr at z) (seen_int (expr_at at (e.Int z)) z refl) (h, tt)

-- a numeral that stands as a literal is an `int`
standing : (n : ℕ) → among (t.members kinds.Literal) (numeral_sort (pos n)) ≡ true → IsInt (pos n)
standing n h = by (nat_le n 39614081257132168796771975167) (n == 39614081257132168796771975168) refl h
  where
    by : (a b : Bool) → nat_le n 39614081257132168796771975167 ≡ a → among (t.members kinds.Literal) (cond a t.NUMERAL (cond b t.BEYOND t.NO_NUMERAL)) ≡ true → IsInt (pos n)
    by true b le g = record { least = grind (arith, ints, rules); greatest = grind (arith, ints, rules, le) }
    by false true le g = absurd (true≢false (sym g))
    by false false le g = absurd (true≢false (sym g))

none-int : IsInt (pos 0)
none-int = record { least = grind (arith, ints, rules); greatest = grind (arith, ints, rules) }

-- a numeral with a minus is an `int`
pub opposite-int : (kind : TokenKind) → IsInt (opposite kind)
opposite-int (k.Numeral (pos n)) = by (nat_le n 39614081257132168796771975168) refl
  where
    by : (b : Bool) → nat_le n 39614081257132168796771975168 ≡ b → IsInt (cond b (neg_ℤ (pos n)) (pos 0))
    by true le = record { least = grind (arith, ints, rules, le); greatest = grind (arith, ints, rules, le) }
    by false le = none-int
opposite-int (k.Numeral (negsuc n)) = none-int
opposite-int _ = none-int

small : (c : ℕ) → is_text c ≡ true → c < 256
small c h = grind (arith, rules, h)

-- the characters of a text have a byte each
all-bytes : (cs : List ℕ) → AllText cs → Bytes cs
all-bytes [] h = tt
all-bytes (c ∷ cs) h = (small c h.0, all-bytes cs h.1)

pub literal-expr : (at : ℕ) (kind : TokenKind) → among (t.members kinds.Literal) (sort kind) ≡ true → IsProper kind → IsExpr (record { at = at; kind = literal_kind kind })
literal-expr at (k.Numeral n) h p = int-expr at n (subst IsInt (sym p.1) (standing p.0 (ap (λ y. among (t.members kinds.Literal) (numeral_sort y)) (sym p.1) ∙ h)))
literal-expr at (k.Text text) h p = is-expr (expr_at at (e.Text text)) (tree.TextExpr at text) (seen_text (expr_at at (e.Text text)) text refl) (all-bytes text p, tt)
literal-expr at k.True h p = is-expr (expr_at at (e.Bool true)) (tree.BoolExpr at true) (seen_bool (expr_at at (e.Bool true)) true refl) (tt, tt)
literal-expr at k.False h p = is-expr (expr_at at (e.Bool false)) (tree.BoolExpr at false) (seen_bool (expr_at at (e.Bool false)) false refl) (tt, tt)
literal-expr at _ h p = is-expr (expr_at at e.Null) (tree.NullExpr at) (seen_null (expr_at at e.Null) refl) (tt, tt)

-- ---- rows

abbrev pub AreArgs : Args → Type 0
AreArgs es = OnLow (AllOf IsExpr) es

pub all-exprs : (es : List Expr) → AllOf IsExpr es → SourceExprs (tree.exprs_of (seen_exprs es)) × FieldsExprs (tree.exprs_of (seen_exprs es))
all-exprs [] h = (tt, tt)
all-exprs (x ∷ es) h = crossed h.0 (all-exprs es h.1)

call-e : (at : ℕ) (name : List ℕ) (es : Args) → AreArgs es → IsE (call at name es)
call-e at name es p =
    low-expr IsExpr at (made (λ xs. e.Call name xs) es)
    (low-made (AllOf IsExpr) (λ k. IsExpr (expr_at at k)) (λ xs. e.Call name xs) es (λ x h. is-expr (expr_at at (e.Call name x)) (tree.CallExpr at name (tree.exprs_of (seen_exprs x))) (seen_call (expr_at at (e.Call name x)) name x refl) (all-exprs x h)) p)

list-e : (at : ℕ) (es : Args) → AreArgs es → IsE (list at es)
list-e at es p =
    low-expr IsExpr at (made e.List es)
    (low-made (AllOf IsExpr) (λ k. IsExpr (expr_at at k)) e.List es (λ x h. is-expr (expr_at at (e.List x)) (tree.ListExpr at (tree.exprs_of (seen_exprs x))) (seen_list (expr_at at (e.List x)) x refl) (all-exprs x h)) p)

abbrev IsValue : List ℕ × Expr → Type 0
IsValue f = IsName f.0 × IsExpr f.1

abbrev AreValues : Fields → Type 0
AreValues fs = OnLow (AllOf IsValue) fs

all-values : (fs : List (List ℕ × Expr)) → AllOf IsValue fs → SourceFields (seen_fields fs) × FieldsValues (seen_fields fs)
all-values [] h = (tt, tt)
all-values (f ∷ fs) h = let rest = all-values fs h.1 in ((h.0.1.0, rest.0), (h.0.0, h.0.1.1, rest.1))

record-e : (at : ℕ) (fs : Fields) → AreValues fs → IsE (fields at fs)
record-e at fs p =
    low-expr IsExpr at (made e.Record fs)
    (low-made (AllOf IsValue) (λ k. IsExpr (expr_at at k)) e.Record fs (λ x h. is-expr (expr_at at (e.Record x)) (tree.RecordExpr at (seen_fields x)) (seen_record (expr_at at (e.Record x)) x refl) (all-values x h)) p)

value-more : (fs : Fields) (name : List ℕ) (m : E) → AreValues fs → IsName name → IsE m → AreValues (pushed fs (named name m))
value-more fs name m r v p = low-pushed IsValue fs (named name m) r (low-named IsExpr IsValue name m (λ x h. (v, h)) p)

abbrev IsRange : List ℕ × Expr × Expr → Type 0
IsRange r = IsExpr r.1 × IsExpr r.2

abbrev AreRanges : Ranges → Type 0
AreRanges rs = OnLow (AllOf IsRange) rs

all-ranges : (rs : List (List ℕ × Expr × Expr)) → AllOf IsRange rs → SourceRanges (seen_ranges rs) × FieldsRanges (seen_ranges rs)
all-ranges [] h = (tt, tt)
all-ranges (r ∷ rs) h = crossed_three h.0.0 h.0.1 (all-ranges rs h.1)

range-more : (rs : Ranges) (name : List ℕ) (a b : E) → AreRanges rs → IsE a → IsE b → AreRanges (pushed rs (range name a b))
range-more rs name a b r p q = low-pushed IsRange rs (range name a b) r (low-made Both IsRange (λ z. (name, z.0, z.1)) (both a b) (λ z h. h) (low-both IsExpr IsExpr a b p q))

quant-e : (at : ℕ) (all : Bool) (rs : Ranges) (m : E) → AreRanges rs → IsE m → IsE (quant at all rs m)
quant-e at all rs m r p =
    low-expr IsExpr at (made (λ z. e.Quant all z.0 z.1) (both rs m))
    (low-made (λ (z : List (List ℕ × Expr × Expr) × Expr). AllOf IsRange z.0 × IsExpr z.1) (λ k. IsExpr (expr_at at k)) (λ z. e.Quant all z.0 z.1) (both rs m)
    (λ z h. is-expr (expr_at at (e.Quant all z.0 z.1)) (tree.QuantExpr at all (seen_ranges z.0) (seen_expr z.1)) (seen_quant (expr_at at (e.Quant all z.0 z.1)) all z.0 z.1 refl) (crossed (all-ranges z.0 h.0) h.1)) (low-both (AllOf IsRange) IsExpr rs m r p))

-- ---- the rules

gives-operator : (c : Class) → Gives (Operator c) (Anything {A = ℕ × Op})
gives-operator c = gives-then (gives-one (has c)) (λ s h. gives-pure (s.at, op_of s.kind) (Anything {A = ℕ × Op}) tt)

module _ (U : R E) (unary : Gives U IsE) where
  gives-factor : (x : E) → IsE x → Gives (Factor U x) IsE
  gives-factor x p = gives-then (gives-operator kinds.Factor) (λ o c. gives-then unary (λ z q. gives-pure (binary o.0 o.1 x z) IsE (binary-e o.0 x p z q o.1)))

  gives-product : Gives (Product U) IsE
  gives-product = gives-then unary (λ x p. gives-loop gives-factor x p)

  gives-summand : (x : E) → IsE x → Gives (Summand U x) IsE
  gives-summand x p = gives-then (gives-operator kinds.Summand) (λ o c. gives-then gives-product (λ z q. gives-pure (binary o.0 o.1 x z) IsE (binary-e o.0 x p z q o.1)))

  gives-sum : Gives (Sum U) IsE
  gives-sum = gives-then gives-product (λ x p. gives-loop gives-summand x p)

module _ (n : ℕ) (U : R E) (unary : Gives U IsE) where
  gives-compared : (x : E) → IsE x → Gives (Compared n U x) IsE
  gives-compared x p =
      gives-or (gives-then (gives-operator kinds.Comparison) (λ o c. gives-then (gives-sum U unary) (λ z q. gives-pure (binary o.0 o.1 x z) IsE (binary-e o.0 x p z q o.1))))
      (gives-or (gives-then (gives-mark t.IS) (λ at h. gives-then (gives-type n) (λ z q. gives-pure (is_expr at x z) IsE (is-e at x p z q))))
      (gives-pure x IsE p))

  gives-comparison : Gives (Comparison n U) IsE
  gives-comparison = gives-then (gives-sum U unary) gives-compared

  gives-connected : (c : ℕ) (x : E) → IsE x → Gives (Connected n U c x) IsE
  gives-connected c x p = gives-then (gives-mark c) (λ at h. gives-then gives-comparison (λ z q. gives-pure (binary at (joint c) x z) IsE (binary-e at x p z q (joint c))))

  gives-chain : (c : ℕ) (x : E) → IsE x → Gives (Chain n U c x) IsE
  gives-chain c x p = gives-then (gives-connected c x p) (λ y q. gives-loop (gives-connected c) y q)

  gives-logic : Gives (Logic n U true) IsE
  gives-logic =
      gives-then gives-comparison (λ x p.
      gives-or (gives-then (gives-chain t.AND x p) (λ y q. gives-fenced (is t.OR) Mixed (Mix n U t.OR) y q))
      (gives-or (gives-then (gives-chain t.OR x p) (λ y q. gives-fenced (is t.AND) Mixed (Mix n U t.AND) y q))
      (gives-pure x IsE p)))

  gives-expr_of : (D : R E) → Gives D IsE → Gives (ExprOf n U true D) IsE
  gives-expr_of D deeper = gives-then gives-logic (λ x p. gives-or (gives-then (gives-mark t.IMPLIES) (λ at h. gives-then deeper (λ z q. gives-pure (binary at op.Implies x z) IsE (binary-e at x p z q op.Implies)))) (gives-pure x IsE p))

module _ (n : ℕ) (U X : R E) (unary : Gives U IsE) (expr : Gives X IsE) where
  gives-next_arg : (es : Args) → AreArgs es → Gives (NextArg n U X es) AreArgs
  gives-next_arg es r = gives-then (gives-mark t.COMMA) (λ at h. gives-then expr (λ x p. gives-pure (pushed es x) AreArgs (low-pushed IsExpr es x r p)))

  gives-more_args : (es : Args) → AreArgs es → Gives (MoreArgs n U X es) AreArgs
  gives-more_args es r = gives-loop gives-next_arg es r

  gives-arg_list : Gives (ArgList n U X) AreArgs
  gives-arg_list = gives-or (gives-then expr (λ x p. gives-more_args (pushed none x) (low-pushed IsExpr none x tt p))) (gives-pure none AreArgs tt)

  gives-field : (fs : Fields) → AreValues fs → Gives (Field n U X fs) AreValues
  gives-field fs r = gives-then (gives-inner_name n) (λ w v. gives-then (gives-mark t.COLON) (λ at h. gives-then expr (λ x p. gives-pure (pushed fs (named w.1 x)) AreValues (value-more fs w.1 x r v.1 p))))

  gives-next_field : (fs : Fields) → AreValues fs → Gives (NextField n U X fs) AreValues
  gives-next_field fs r = gives-then (gives-mark t.COMMA) (λ at h. gives-field fs r)

  gives-field_list : Gives (FieldList n U X) AreValues
  gives-field_list = gives-or (gives-then (gives-field none tt) (λ fs r. gives-loop gives-next_field fs r)) (gives-pure none AreValues tt)

  gives-range : (rs : Ranges) → AreRanges rs → Gives (Range n U X rs) AreRanges
  gives-range rs r =
      gives-then (gives-inner_name n) (λ w v. gives-then (gives-mark t.IN) (λ at h. gives-then (gives-sum U unary) (λ x p. gives-then (gives-mark t.RANGE) (λ there g. gives-then (gives-sum U unary) (λ z q.
      gives-pure (pushed rs (range w.1 x z)) AreRanges (range-more rs w.1 x z r p q))))))

  gives-next_range : (rs : Ranges) → AreRanges rs → Gives (NextRange n U X rs) AreRanges
  gives-next_range rs r = gives-then (gives-mark t.COMMA) (λ at h. gives-range rs r)

  gives-range_list : Gives (RangeList n U X) AreRanges
  gives-range_list = gives-then (gives-range none tt) (λ rs r. gives-loop gives-next_range rs r)

  gives-listed : (at : ℕ) → Gives (Listed n U X at) IsE
  gives-listed at =
      gives-or (gives-then (gives-inner n t.CLOSE_BRACKET) (λ r deep. gives-pure (list at none) IsE (list-e at none tt)))
      (gives-then expr (λ x p.
      gives-or (gives-then (gives-mark t.SEMICOLON) (λ r h. gives-then expr (λ z q. gives-then (gives-mark t.CLOSE_BRACKET) (λ s g. gives-pure (repeat at x z) IsE (repeat-e at x p z q)))))
      (gives-then (gives-more_args (pushed none x) (low-pushed IsExpr none x tt p)) (λ es r. gives-then (gives-mark t.CLOSE_BRACKET) (λ s g. gives-pure (list at es) IsE (list-e at es r))))))

  gives-called : (w : ℕ × List ℕ) → Gives (Called n U X w.0 w.1) IsE
  gives-called w =
      gives-or (gives-then (gives-mark t.OPEN_PAREN) (λ at h. gives-then gives-arg_list (λ es r. gives-then (gives-inner n t.CLOSE_PAREN) (λ s deep. gives-pure (call w.0 w.1 es) IsE (call-e w.0 w.1 es r)))))
      (gives-pure (leaf w.0 (e.Var w.1)) IsE (var-e w.0 w.1))

  gives-quantified : (at : ℕ) (all : Bool) → Gives (Quantified n U X at all) IsE
  gives-quantified at all =
      gives-then (gives-mark t.OPEN_BRACE) (λ b h. gives-then gives-range_list (λ rs r. gives-then (gives-mark t.BAR) (λ c g. gives-then expr (λ x p. gives-then (gives-mark t.CLOSE_BRACE) (λ d f.
      gives-pure (quant at all rs x) IsE (quant-e at all rs x r p))))))

  gives-quantifier : Gives Quantifier (Anything {A = ℕ × Bool})
  gives-quantifier = gives-then (gives-one (has kinds.Quantifier)) (λ s h. gives-pure (s.at, is_all s.kind) (Anything {A = ℕ × Bool}) tt)

  gives-literal : Gives Literal IsE
  gives-literal = gives-then (gives-one (has kinds.Literal)) (λ s h. gives-pure (leaf s.at (literal_kind s.kind)) IsE (leaf-e s.at (literal_kind s.kind) (literal-expr s.at s.kind h.0 h.1)))

  gives-primary : Gives (Primary n U X) IsE
  gives-primary =
      gives-or gives-literal
      (gives-or (gives-then gives-name (λ w v. gives-called w))
      (gives-or (gives-then (gives-mark t.OPEN_PAREN) (λ at h. gives-then expr (λ x p. gives-then (gives-mark t.CLOSE_PAREN) (λ r g. gives-pure x IsE p))))
      (gives-or (gives-then (gives-mark t.BAR) (λ at h. gives-then (gives-sum U unary) (λ x p. gives-then (gives-mark t.BAR) (λ r g. gives-pure (len at x) IsE (len-e at x p)))))
      (gives-or (gives-then (gives-mark t.OPEN_BRACKET) (λ at h. gives-listed at))
      (gives-or (gives-then (gives-mark t.OPEN_BRACE) (λ at h. gives-then gives-field_list (λ fs r. gives-then (gives-inner n t.CLOSE_BRACE) (λ s deep. gives-pure (fields at fs) IsE (record-e at fs r)))))
      (gives-then gives-quantifier (λ q h. gives-quantified q.0 q.1)))))))

  gives-step : (x : E) → IsE x → Gives (Step n U X x) IsE
  gives-step x p =
      gives-or (gives-then (gives-mark t.OPEN_BRACKET) (λ at h. gives-then expr (λ z q. gives-then (gives-mark t.CLOSE_BRACKET) (λ r g. gives-pure (index at x z) IsE (index-e at x p z q)))))
      (gives-then (gives-mark t.DOT) (λ at h. gives-then gives-name (λ w v. gives-pure (field at x w.1) IsE (field-e at x p w.1 v))))

  gives-steps : (x : E) → IsE x → Gives (Steps n U X x) IsE
  gives-steps x p = gives-loop gives-step x p

  gives-glued : (at : ℕ) → Gives (Glued at) IsInt
  gives-glued at = gives-then (gives-one (touches at)) (λ s h. gives-pure (opposite s.kind) IsInt (opposite-int s.kind))

  gives-negated : (at : ℕ) → Gives (Negated n U X at) IsE
  gives-negated at =
      gives-or (gives-then (gives-glued at) (λ z p. gives-steps (leaf at (e.Int z)) (leaf-e at (e.Int z) (int-expr at z p))))
      (gives-then (gives-unless (touches at) unary) (λ x p. gives-pure (neg at x) IsE (neg-e at x p)))

  gives-unary_of : Gives (UnaryOf n U X) IsE
  gives-unary_of =
      gives-or (gives-then (gives-mark t.NOT) (λ at h. gives-then unary (λ x p. gives-pure (not_expr at x) IsE (not-e at x p))))
      (gives-or (gives-then (gives-mark t.MINUS) (λ at h. gives-negated at))
      (gives-then gives-primary gives-steps))

-- what stands on a level
pub record LevelGives (n : ℕ) : Type 0 where
  pub unary : Gives (Unary true n) IsE
  pub expr : Gives (Expr_ true n) IsE

pub gives-level : (n : ℕ) → LevelGives n
unfolding Unary Expr_ level
gives-level zero = record { unary = gives-refused IsE (has kinds.Expression) Deep; expr = gives-refused IsE (has kinds.Expression) Deep }
gives-level (suc n) =
    let below = gives-level n in
    let unary = gives-unary_of n (Unary true n) (Expr_ true n) below.unary below.expr in
    record { unary = unary; expr = gives-expr_of (suc n) (Unary true (suc n)) unary (Expr_ true n) below.expr }

pub gives-expr : (n : ℕ) → Gives (Expr_ true n) IsE
gives-expr n = let l = gives-level n in l.expr

pub gives-sum_in : (n : ℕ) → Gives (SumIn true n) IsE
unfolding SumIn
gives-sum_in n = let l = gives-level n in gives-sum (Unary true n) l.unary

pub gives-args_in : (n : ℕ) → Gives (ArgsIn true n) AreArgs
unfolding ArgsIn
gives-args_in n = let l = gives-level n in gives-arg_list n (Unary true n) (Expr_ true n) l.unary l.expr
