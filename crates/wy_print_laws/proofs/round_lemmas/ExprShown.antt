-- What is shown of each expression, and what it is places aside.
use Rattle.std.proofs.Common.{◌≡◌, ℕ, ℤ, Bool, List, ◌++◌, map, codes, sym, ap, ap₂, ◌∙◌, rules}
use Rattle.std.specs.Fmt.{signed_decimal}
use Rattle.wy_ast.specs.SurfaceTree as tree
use Rattle.wy_ast.specs.declared.types.Ty.{Ty}
use Rattle.wy_ast.specs.declared.expressions.Op.{Op}
use Rattle.wy_ast.specs.declared.expressions.Expr.{Expr, the_lemmas}
use Rattle.wy_ast.specs.declared.expressions.ExprKind.TheVariants as e
use Rattle.wy_print.specs.Pieces.{listed, quoted, truth_word}
use Rattle.wy_print.specs.TypeText.{ty_text}
use Rattle.wy_print.specs.ExprText.{Shown, shown, plain, part, left_part, right_part, prefixed, measured, combined, continued, called, quantified, texts, field_text, range_line}
use Rattle.wy_print_laws.specs.round.Bare.{bare_ty, bare_expr}
use Rattle.wy_print_laws.proofs.round_lemmas.TypeRound as types
use Rattle.wy_print_laws.proofs.round_lemmas.TypeRound.{map-map}

-- an expression places aside, and as it is shown
abbrev pub View : Type 0
View = tree.Expr × Shown

abbrev pub view : Expr → View
view x = (bare_expr x, shown x)

pub viewed : (x : Expr) (b : tree.Expr) (s : Shown) → bare_expr x ≡ b → shown x ≡ s → view x ≡ (b, s)
viewed x b s e f = ap₂ (λ (c : tree.Expr) (u : Shown). (c, u)) e f

pub shown_null : (x : Expr) → x.kind ≡ e.Null → shown x ≡ plain 7 (codes "null")
shown_null x is = search (rules, the_lemmas)

pub bare_null : (x : Expr) → x.kind ≡ e.Null → bare_expr x ≡ tree.NullExpr 0
bare_null x is = search (rules, the_lemmas)

pub shown_bool : (x : Expr) (b : Bool) → x.kind ≡ e.Bool b → shown x ≡ plain 7 (truth_word b)
shown_bool x b is = search (rules, the_lemmas)

pub bare_bool : (x : Expr) (b : Bool) → x.kind ≡ e.Bool b → bare_expr x ≡ tree.BoolExpr 0 b
bare_bool x b is = search (rules, the_lemmas)

pub shown_int : (x : Expr) (z : ℤ) → x.kind ≡ e.Int z → shown x ≡ plain 7 (signed_decimal z)
shown_int x z is = search (rules, the_lemmas)

pub bare_int : (x : Expr) (z : ℤ) → x.kind ≡ e.Int z → bare_expr x ≡ tree.IntExpr 0 z
bare_int x z is = search (rules, the_lemmas)

pub shown_text : (x : Expr) (cs : List ℕ) → x.kind ≡ e.Text cs → shown x ≡ plain 7 (quoted cs)
shown_text x cs is = search (rules, the_lemmas)

pub bare_text : (x : Expr) (cs : List ℕ) → x.kind ≡ e.Text cs → bare_expr x ≡ tree.TextExpr 0 cs
bare_text x cs is = search (rules, the_lemmas)

pub shown_var : (x : Expr) (name : List ℕ) → x.kind ≡ e.Var name → shown x ≡ plain 7 name
shown_var x name is = search (rules, the_lemmas)

pub bare_var : (x : Expr) (name : List ℕ) → x.kind ≡ e.Var name → bare_expr x ≡ tree.VarExpr 0 name
bare_var x name is = search (rules, the_lemmas)

pub shown_call : (x : Expr) (name : List ℕ) (args : List Expr) → x.kind ≡ e.Call name args → shown x ≡ plain 7 (called name (texts (map shown args)))
shown_call x name args is = search (rules, the_lemmas)

pub bare_call : (x : Expr) (name : List ℕ) (args : List Expr) → x.kind ≡ e.Call name args → bare_expr x ≡ tree.CallExpr 0 name (tree.exprs_of (map bare_expr args))
bare_call x name args is = search (rules, the_lemmas)

pub shown_neg : (x a : Expr) → x.kind ≡ e.Neg a → shown x ≡ prefixed (codes "- ") (part 6 (shown a))
shown_neg x a is = search (rules, the_lemmas)

pub bare_neg : (x a : Expr) → x.kind ≡ e.Neg a → bare_expr x ≡ tree.NegExpr 0 (bare_expr a)
bare_neg x a is = search (rules, the_lemmas)

pub shown_not : (x a : Expr) → x.kind ≡ e.Not a → shown x ≡ prefixed (codes "!") (part 6 (shown a))
shown_not x a is = search (rules, the_lemmas)

pub bare_not : (x a : Expr) → x.kind ≡ e.Not a → bare_expr x ≡ tree.NotExpr 0 (bare_expr a)
bare_not x a is = search (rules, the_lemmas)

pub shown_len : (x a : Expr) → x.kind ≡ e.Len a → shown x ≡ measured (part 4 (shown a))
shown_len x a is = search (rules, the_lemmas)

pub bare_len : (x a : Expr) → x.kind ≡ e.Len a → bare_expr x ≡ tree.LenExpr 0 (bare_expr a)
bare_len x a is = search (rules, the_lemmas)

pub shown_binary : (x : Expr) (o : Op) (a b : Expr) → x.kind ≡ e.Binary o a b → shown x ≡ combined o (left_part o (shown a)) (right_part o (shown b))
shown_binary x o a b is = search (rules, the_lemmas)

pub bare_binary : (x : Expr) (o : Op) (a b : Expr) → x.kind ≡ e.Binary o a b → bare_expr x ≡ tree.BinaryExpr 0 o (bare_expr a) (bare_expr b)
bare_binary x o a b is = search (rules, the_lemmas)

pub shown_is : (x a : Expr) (y : Ty) → x.kind ≡ e.Is a y → shown x ≡ continued 3 (part 4 (shown a)) (codes " is " ++ ty_text y)
shown_is x a y is = search (rules, the_lemmas)

pub bare_is : (x a : Expr) (y : Ty) → x.kind ≡ e.Is a y → bare_expr x ≡ tree.IsExpr 0 (bare_expr a) (bare_ty y)
bare_is x a y is = search (rules, the_lemmas)

pub shown_index : (x a i : Expr) → x.kind ≡ e.Index a i → shown x ≡ continued 7 (part 7 (shown a)) (codes "[" ++ ((shown i).text ++ codes "]"))
shown_index x a i is = search (rules, the_lemmas)

pub bare_index : (x a i : Expr) → x.kind ≡ e.Index a i → bare_expr x ≡ tree.IndexExpr 0 (bare_expr a) (bare_expr i)
bare_index x a i is = search (rules, the_lemmas)

pub shown_field : (x a : Expr) (name : List ℕ) → x.kind ≡ e.Field a name → shown x ≡ continued 7 (part 7 (shown a)) (codes "." ++ name)
shown_field x a name is = search (rules, the_lemmas)

pub bare_field : (x a : Expr) (name : List ℕ) → x.kind ≡ e.Field a name → bare_expr x ≡ tree.FieldExpr 0 (bare_expr a) name
bare_field x a name is = search (rules, the_lemmas)

pub shown_list : (x : Expr) (items : List Expr) → x.kind ≡ e.List items → shown x ≡ plain 7 (codes "[" ++ (listed (texts (map shown items)) ++ codes "]"))
shown_list x items is = search (rules, the_lemmas)

pub bare_list : (x : Expr) (items : List Expr) → x.kind ≡ e.List items → bare_expr x ≡ tree.ListExpr 0 (tree.exprs_of (map bare_expr items))
bare_list x items is = search (rules, the_lemmas)

pub shown_repeat : (x a n : Expr) → x.kind ≡ e.Repeat a n → shown x ≡ plain 7 (codes "[" ++ ((shown a).text ++ (codes "; " ++ ((shown n).text ++ codes "]"))))
shown_repeat x a n is = search (rules, the_lemmas)

pub bare_repeat : (x a n : Expr) → x.kind ≡ e.Repeat a n → bare_expr x ≡ tree.RepeatExpr 0 (bare_expr a) (bare_expr n)
bare_repeat x a n is = search (rules, the_lemmas)

pub shown_record : (x : Expr) (fs : List (List ℕ × Expr)) → x.kind ≡ e.Record fs
    → shown x ≡ plain 7 (codes "{" ++ (listed (map field_text (map (λ (f : List ℕ × Expr). (f.0, shown f.1)) fs)) ++ codes "}"))
shown_record x fs is = search (rules, the_lemmas)

pub bare_record : (x : Expr) (fs : List (List ℕ × Expr)) → x.kind ≡ e.Record fs → bare_expr x ≡ tree.RecordExpr 0 (tree.fields_of (map (λ (f : List ℕ × Expr). (f.0, bare_expr f.1)) fs))
bare_record x fs is = search (rules, the_lemmas)

pub shown_quant : (x : Expr) (all : Bool) (rs : List (List ℕ × Expr × Expr)) (body : Expr) → x.kind ≡ e.Quant all rs body
    → shown x ≡ plain 7 (quantified all (map range_line (map (λ (r : List ℕ × Expr × Expr). (r.0, shown r.1, shown r.2)) rs)) (shown body).text)
shown_quant x all rs body is = search (rules, the_lemmas)

pub bare_quant : (x : Expr) (all : Bool) (rs : List (List ℕ × Expr × Expr)) (body : Expr) → x.kind ≡ e.Quant all rs body
    → bare_expr x ≡ tree.QuantExpr 0 all (tree.ranges_of (map (λ (r : List ℕ × Expr × Expr). (r.0, bare_expr r.1, bare_expr r.2)) rs)) (bare_expr body)
bare_quant x all rs body is = search (rules, the_lemmas)

-- ---- both at once, by what is seen of the parts

pub view_int : (x : Expr) (z : ℤ) → x.kind ≡ e.Int z → view x ≡ (tree.IntExpr 0 z, plain 7 (signed_decimal z))
view_int x z is = viewed x _ _ (bare_int x z is) (shown_int x z is)

pub view_var : (x : Expr) (name : List ℕ) → x.kind ≡ e.Var name → view x ≡ (tree.VarExpr 0 name, plain 7 name)
view_var x name is = viewed x _ _ (bare_var x name is) (shown_var x name is)

abbrev pub call_view : List ℕ → List View → View
call_view name vs = (tree.CallExpr 0 name (tree.exprs_of (map (λ (v : View). v.0) vs)), plain 7 (called name (texts (map (λ (v : View). v.1) vs))))

pub view_call : (x : Expr) (name : List ℕ) (args : List Expr) → x.kind ≡ e.Call name args → view x ≡ call_view name (map view args)
view_call x name args is = viewed x _ _
    (bare_call x name args is ∙ ap (λ (l : List tree.Expr). tree.CallExpr 0 name (tree.exprs_of l)) (sym (map-map view (λ (v : View). v.0) args)))
    (shown_call x name args is ∙ ap (λ (l : List Shown). plain 7 (called name (texts l))) (sym (map-map view (λ (v : View). v.1) args)))

abbrev pub neg_view : View → View
neg_view v = (tree.NegExpr 0 v.0, prefixed (codes "- ") (part 6 v.1))

pub view_neg : (x a : Expr) → x.kind ≡ e.Neg a → view x ≡ neg_view (view a)
view_neg x a is = viewed x _ _ (bare_neg x a is) (shown_neg x a is)

abbrev pub not_view : View → View
not_view v = (tree.NotExpr 0 v.0, prefixed (codes "!") (part 6 v.1))

pub view_not : (x a : Expr) → x.kind ≡ e.Not a → view x ≡ not_view (view a)
view_not x a is = viewed x _ _ (bare_not x a is) (shown_not x a is)

abbrev pub len_view : View → View
len_view v = (tree.LenExpr 0 v.0, measured (part 4 v.1))

pub view_len : (x a : Expr) → x.kind ≡ e.Len a → view x ≡ len_view (view a)
view_len x a is = viewed x _ _ (bare_len x a is) (shown_len x a is)

abbrev pub binary_view : Op → View → View → View
binary_view o v w = (tree.BinaryExpr 0 o v.0 w.0, combined o (left_part o v.1) (right_part o w.1))

pub view_binary : (x : Expr) (o : Op) (a b : Expr) → x.kind ≡ e.Binary o a b → view x ≡ binary_view o (view a) (view b)
view_binary x o a b is = viewed x _ _ (bare_binary x o a b is) (shown_binary x o a b is)

abbrev pub is_view : View → types.View → View
is_view v w = (tree.IsExpr 0 v.0 w.0, continued 3 (part 4 v.1) (codes " is " ++ w.1.text))

pub view_is : (x a : Expr) (y : Ty) → x.kind ≡ e.Is a y → view x ≡ is_view (view a) (types.view y)
view_is x a y is = viewed x _ _ (bare_is x a y is) (shown_is x a y is)

abbrev pub index_view : View → View → View
index_view v w = (tree.IndexExpr 0 v.0 w.0, continued 7 (part 7 v.1) (codes "[" ++ (w.1.text ++ codes "]")))

pub view_index : (x a i : Expr) → x.kind ≡ e.Index a i → view x ≡ index_view (view a) (view i)
view_index x a i is = viewed x _ _ (bare_index x a i is) (shown_index x a i is)

abbrev pub field_view : List ℕ → View → View
field_view name v = (tree.FieldExpr 0 v.0 name, continued 7 (part 7 v.1) (codes "." ++ name))

pub view_field : (x a : Expr) (name : List ℕ) → x.kind ≡ e.Field a name → view x ≡ field_view name (view a)
view_field x a name is = viewed x _ _ (bare_field x a name is) (shown_field x a name is)

abbrev pub list_view : List View → View
list_view vs = (tree.ListExpr 0 (tree.exprs_of (map (λ (v : View). v.0) vs)), plain 7 (codes "[" ++ (listed (texts (map (λ (v : View). v.1) vs)) ++ codes "]")))

pub view_list : (x : Expr) (items : List Expr) → x.kind ≡ e.List items → view x ≡ list_view (map view items)
view_list x items is = viewed x _ _
    (bare_list x items is ∙ ap (λ (l : List tree.Expr). tree.ListExpr 0 (tree.exprs_of l)) (sym (map-map view (λ (v : View). v.0) items)))
    (shown_list x items is ∙ ap (λ (l : List Shown). plain 7 (codes "[" ++ (listed (texts l) ++ codes "]"))) (sym (map-map view (λ (v : View). v.1) items)))

abbrev pub repeat_view : View → View → View
repeat_view v w = (tree.RepeatExpr 0 v.0 w.0, plain 7 (codes "[" ++ (v.1.text ++ (codes "; " ++ (w.1.text ++ codes "]")))))

pub view_repeat : (x a n : Expr) → x.kind ≡ e.Repeat a n → view x ≡ repeat_view (view a) (view n)
view_repeat x a n is = viewed x _ _ (bare_repeat x a n is) (shown_repeat x a n is)

-- the value of a field, and the ends of a range
abbrev pub view_value : List ℕ × Expr → List ℕ × View
view_value f = (f.0, view f.1)

abbrev pub view_range : List ℕ × Expr × Expr → List ℕ × View × View
view_range r = (r.0, view r.1, view r.2)

abbrev pub record_view : List (List ℕ × View) → View
record_view fs =
    (tree.RecordExpr 0 (tree.fields_of (map (λ (f : List ℕ × View). (f.0, f.1.0)) fs)), plain 7 (codes "{" ++ (listed (map field_text (map (λ (f : List ℕ × View). (f.0, f.1.1)) fs)) ++ codes "}")))

pub view_record : (x : Expr) (fs : List (List ℕ × Expr)) → x.kind ≡ e.Record fs → view x ≡ record_view (map view_value fs)
view_record x fs is = viewed x _ _
    (bare_record x fs is ∙ ap (λ (l : List (List ℕ × tree.Expr)). tree.RecordExpr 0 (tree.fields_of l)) (sym (map-map view_value (λ (f : List ℕ × View). (f.0, f.1.0)) fs)))
    (shown_record x fs is ∙ ap (λ (l : List (List ℕ × Shown)). plain 7 (codes "{" ++ (listed (map field_text l) ++ codes "}"))) (sym (map-map view_value (λ (f : List ℕ × View). (f.0, f.1.1)) fs)))

abbrev pub quant_view : Bool → List (List ℕ × View × View) → View → View
quant_view all rs v = (
  tree.QuantExpr 0 all (tree.ranges_of (map (λ (r : List ℕ × View × View). (r.0, r.1.0, r.2.0)) rs)) v.0,
  plain 7 (quantified all (map range_line (map (λ (r : List ℕ × View × View). (r.0, r.1.1, r.2.1)) rs)) v.1.text),
)

pub view_quant : (x : Expr) (all : Bool) (rs : List (List ℕ × Expr × Expr)) (body : Expr) → x.kind ≡ e.Quant all rs body → view x ≡ quant_view all (map view_range rs) (view body)
view_quant x all rs body is = viewed x _ _
    (bare_quant x all rs body is ∙ ap (λ (l : List (List ℕ × tree.Expr × tree.Expr)). tree.QuantExpr 0 all (tree.ranges_of l) (bare_expr body)) (sym (map-map view_range (λ (r : List ℕ × View × View). (r.0, r.1.0, r.2.0)) rs)))
    (shown_quant x all rs body is ∙ ap (λ (l : List (List ℕ × Shown × Shown)). plain 7 (quantified all (map range_line l) (shown body).text)) (sym (map-map view_range (λ (r : List ℕ × View × View). (r.0, r.1.1, r.2.1)) rs)))
