-- The code of an expression, which is made from its end to its beginning.
use Rattle.std.proofs.Common.{◌≡◌, ◌∙◌, ℕ, suc, List, [], ◌∷◌, ◌++◌, length, Bool, Option, None, refl, ap, sym, append_assoc}
use Rattle.wy_core.specs.CoreSeen.{seen_expr, seen_exprs, seen_fields, seen_ty}
use Rattle.wy_core.specs.CoreTree as tree
use Rattle.wy_core.specs.declared.types.Ty.{Ty}
use Rattle.wy_core.specs.declared.expressions.Op.{Op}
use Rattle.wy_core.specs.declared.expressions.Expr.{Expr}
use Rattle.wy_core.specs.declared.expressions.ExprKind as kind
use Rattle.wy_gen.proofs.RoutineLemmas.{counted}
use Rattle.wy_live.specs.Sets.{Variables}
use Rattle.wy_live.specs.Walks.{before, before_all, before_fields, turned}
use Rattle.wy_code.specs.declared.instructions.Instr.TheVariants as instr
use Rattle.wy_code.specs.declared.pieces.steps.Step.{Step}
use Rattle.wy_code.specs.declared.pieces.steps.Step.TheVariants.{Does}
use Rattle.wy_code_spec.specs.declared.tables.context.Context.{Context}
use Rattle.wy_code_spec.specs.tables.Tables.{number_of, target}
use Rattle.wy_code_spec.specs.compiled.Expressions as spec
use Rattle.wy_code_spec.specs.compiled.Expressions.{code, codes, count_of, field_codes}
use Rattle.wy_code_spec.specs.compiled.Straight.{negated_into, into}
use Rattle.wy_code_spec.specs.compiled.Operands.{variable_in, read, first_read, second_read, standing, unless_read, plain_or_read}
use Rattle.wy_gen.proofs.SeenLemmas.{seen_call, seen_neg, seen_not, seen_len, seen_binary, seen_is, seen_index, seen_field, seen_list, seen_repeat, seen_record, seen_quant}

-- an operand before the rest, where this is live behind it; it has no code where it is read in its register
operand : (c : Context) (x : Expr) (y a : tree.Expr ℕ) (place p : Option ℕ) (live s t : Variables) (d to : ℕ) (rest old steps : List Step) → seen_expr x ≡ y → into c y s d to ≡ unless_read p (code c a t d) ++ rest → place ≡ p → live ≡ t → steps ≡ rest ++ old
    → unless_read place (code c a live d) ++ steps ≡ into c (seen_expr x) s d to ++ old
operand c x y a place p live s t d to rest old steps is whole place_is live_is steps_is =
    (λ i. unless_read (place_is i) (code c a (live_is i) d) ++ steps_is i) ∙ sym (append_assoc (unless_read p (code c a t d)) rest old) ∙ ap (λ (l : List Step). l ++ old) (sym (ap (λ (z : tree.Expr ℕ). into c z s d to) is ∙ whole))

-- where an operand stands
stands : (place p : Option ℕ) (r d : ℕ) → place ≡ p → r ≡ standing place d → r ≡ standing p d
stands place p r d place_is r_is = r_is ∙ ap (λ (z : Option ℕ). standing z d) place_is

-- what is live before it
operand_live : (x : Expr) (y : tree.Expr ℕ) (a : tree.Expr ℕ) (live s t : Variables) → seen_expr x ≡ y → before y s ≡ before a t → live ≡ t → before a live ≡ before (seen_expr x) s
operand_live x y a live s t is whole live_is = ap (λ (v : Variables). before a v) live_is ∙ sym (ap (λ (z : tree.Expr ℕ). before z s) is ∙ whole)

-- an operand behind which the same is live
module _ (c : Context) (x : Expr) (a : Expr) (live s : Variables) (d to : ℕ) (old steps : List Step) (live_is : live ≡ s) where
  pub neg_same : (place : Option ℕ) (r : ℕ) → x.kind ≡ kind.Neg a → place ≡ variable_in (seen_expr a) → r ≡ standing place d → steps ≡ negated_into d to r ++ old → unless_read place (code c (seen_expr a) live d) ++ steps ≡ into c (seen_expr x) s d to ++ old
  neg_same place r is place_is r_is steps_is =
      let p = variable_in (seen_expr a) in
      let at = stands place p r d place_is r_is in
      operand c x (tree.NegExpr x.at (seen_expr a)) (seen_expr a) place p live s s d to (negated_into d to (standing p d)) old steps (seen_neg x a is) refl place_is live_is (steps_is ∙ (λ i. negated_into d to (at i) ++ old))

  pub not_same : (place : Option ℕ) (r : ℕ) → x.kind ≡ kind.Not a → place ≡ variable_in (seen_expr a) → r ≡ standing place d → steps ≡ Does (instr.Not to r) ∷ old → unless_read place (code c (seen_expr a) live d) ++ steps ≡ into c (seen_expr x) s d to ++ old
  not_same place r is place_is r_is steps_is =
      let p = variable_in (seen_expr a) in
      let at = stands place p r d place_is r_is in
      operand c x (tree.NotExpr x.at (seen_expr a)) (seen_expr a) place p live s s d to (Does (instr.Not to (standing p d)) ∷ []) old steps (seen_not x a is) refl place_is live_is (steps_is ∙ (λ i. Does (instr.Not to (at i)) ∷ old))

  pub len_same : (place : Option ℕ) (r : ℕ) → x.kind ≡ kind.Len a → place ≡ read (seen_expr a) s → r ≡ standing place d → steps ≡ Does (instr.Len to r) ∷ old → unless_read place (code c (seen_expr a) live d) ++ steps ≡ into c (seen_expr x) s d to ++ old
  len_same place r is place_is r_is steps_is =
      let p = read (seen_expr a) s in
      let at = stands place p r d place_is r_is in
      operand c x (tree.LenExpr x.at (seen_expr a)) (seen_expr a) place p live s s d to (Does (instr.Len to (standing p d)) ∷ []) old steps (seen_len x a is) refl place_is live_is (steps_is ∙ (λ i. Does (instr.Len to (at i)) ∷ old))

  pub is_same : (ty : Ty) (place : Option ℕ) → x.kind ≡ kind.Is a ty → place ≡ spec.tested_read (seen_ty ty) (seen_expr a) s → steps ≡ spec.tested c (seen_ty ty) place d ++ old → unless_read place (code c (seen_expr a) live d) ++ steps ≡ into c (seen_expr x) s d to ++ old
  is_same ty place is place_is steps_is =
      let p = spec.tested_read (seen_ty ty) (seen_expr a) s in
      operand c x (tree.IsExpr x.at (seen_expr a) (seen_ty ty)) (seen_expr a) place p live s s d to (spec.tested c (seen_ty ty) p d) old steps (seen_is x a ty is) refl place_is live_is (steps_is ∙ (λ i. spec.tested c (seen_ty ty) (place_is i) d ++ old))

  pub field_same : (name : List ℕ) (number r : ℕ) (place : Option ℕ) → x.kind ≡ kind.Field a name → place ≡ read (seen_expr a) s → r ≡ standing place d → number ≡ number_of name c.table.names → steps ≡ Does (instr.Field to r number) ∷ old
      → unless_read place (code c (seen_expr a) live d) ++ steps ≡ into c (seen_expr x) s d to ++ old
  field_same name number r place is place_is r_is number_is steps_is =
      let p = read (seen_expr a) s in
      let at = stands place p r d place_is r_is in
      operand c x (tree.FieldExpr x.at (seen_expr a) name) (seen_expr a) place p live s s d to (Does (instr.Field to (standing p d) (number_of name c.table.names)) ∷ []) old steps (seen_field x a name is) refl place_is live_is
      (steps_is ∙ (λ i. Does (instr.Field to (at i) (number_is i)) ∷ old))

-- two operands: what is live behind the first is live before the second
module _ (c : Context) (x : Expr) (a b : Expr) (s : Variables) (d to : ℕ) (old : List Step) (live : Variables) (steps : List Step) where
  -- the right side, and the operator on what stands in l and where the right side does
  abbrev right_code : Op → ℕ → List Step
  right_code o l =
      let place = second_read o (seen_expr b) s in
      spec.operate o to l (standing place (spec.right_register o d)) (unless_read place (code c (seen_expr b) s (spec.right_register o d))) (spec.released (before (seen_expr b) s) s) (plain_or_read place (spec.is_plain (seen_expr b)))

  pub binary_same : (o : Op) (place : Option ℕ) (l : ℕ) → x.kind ≡ kind.Binary o a b → place ≡ first_read o (seen_expr a) (seen_expr b) s → l ≡ standing place d → live ≡ before (seen_expr b) s → steps ≡ right_code o l ++ old
      → unless_read place (code c (seen_expr a) live d) ++ steps ≡ into c (seen_expr x) s d to ++ old
  binary_same o place l is place_is l_is live_is steps_is =
      let p = first_read o (seen_expr a) (seen_expr b) s in
      let at = stands place p l d place_is l_is in
      operand c x (tree.BinaryExpr x.at o (seen_expr a) (seen_expr b)) (seen_expr a) place p live s (before (seen_expr b) s) d to (right_code o (standing p d)) old steps (seen_binary x o a b is) refl place_is live_is (steps_is ∙ (λ i. right_code o (at i) ++ old))

  -- the second operand before an instruction
  second : (place p : Option ℕ) (live1 : Variables) (free : ℕ) (one : List Step) (step : Step) → place ≡ p → free ≡ suc d → live1 ≡ s → one ≡ step ∷ old → steps ≡ unless_read place (code c (seen_expr b) live1 free) ++ one
      → steps ≡ (unless_read p (code c (seen_expr b) s (suc d)) ++ step ∷ []) ++ old
  second place p live1 free one step place_is free_is live1_is one_is steps_is =
      steps_is ∙ (λ i. unless_read (place_is i) (code c (seen_expr b) (live1_is i) (free_is i)) ++ one_is i) ∙ sym (append_assoc (unless_read p (code c (seen_expr b) s (suc d))) (step ∷ []) old)

  second_live : (live1 : Variables) → live1 ≡ s → live ≡ before (seen_expr b) live1 → live ≡ before (seen_expr b) s
  second_live live1 live1_is live_is = live_is ∙ ap (λ (v : Variables). before (seen_expr b) v) live1_is

  pub index_same : (whole place : Option ℕ) (l r : ℕ) (live1 : Variables) (free : ℕ) (one : List Step) → x.kind ≡ kind.Index a b → whole ≡ read (seen_expr a) s → l ≡ standing whole d → place ≡ variable_in (seen_expr b) → r ≡ standing place free → free ≡ suc d → live1 ≡ s
      → one ≡ Does (instr.Get to l r) ∷ old → live ≡ before (seen_expr b) live1 → steps ≡ unless_read place (code c (seen_expr b) live1 free) ++ one → unless_read whole (code c (seen_expr a) live d) ++ steps ≡ into c (seen_expr x) s d to ++ old
  index_same whole place l r live1 free one is whole_is l_is place_is r_is free_is live1_is one_is live_is steps_is =
      let w = read (seen_expr a) s in
      let p = variable_in (seen_expr b) in
      let l_at = stands whole w l d whole_is l_is in
      let r_at = stands place p r free place_is r_is ∙ ap (λ (n : ℕ). standing p n) free_is in
      let get = Does (instr.Get to (standing w d) (standing p (suc d))) in
      operand c x (tree.IndexExpr x.at (seen_expr a) (seen_expr b)) (seen_expr a) whole w live s (before (seen_expr b) s) d to (unless_read p (code c (seen_expr b) s (suc d)) ++ get ∷ []) old steps (seen_index x a b is) refl whole_is
      (second_live live1 live1_is live_is) (second place p live1 free one get place_is free_is live1_is (one_is ∙ (λ i. Does (instr.Get to (l_at i) (r_at i)) ∷ old)) steps_is)

  pub repeat_same : (live1 : Variables) (free : ℕ) (one : List Step) → x.kind ≡ kind.Repeat a b → free ≡ suc d → live1 ≡ s → one ≡ Does (instr.Fill d d free) ∷ old → live ≡ before (seen_expr b) live1 → steps ≡ code c (seen_expr b) live1 free ++ one
      → code c (seen_expr a) live d ++ steps ≡ into c (seen_expr x) s d to ++ old
  repeat_same live1 free one is free_is live1_is one_is live_is steps_is =
      operand c x (tree.RepeatExpr x.at (seen_expr a) (seen_expr b)) (seen_expr a) None None live s (before (seen_expr b) s) d to (code c (seen_expr b) s (suc d) ++ Does (instr.Fill d d (suc d)) ∷ []) old steps (seen_repeat x a b is) refl refl
      (second_live live1 live1_is live_is) (second None None live1 free one (Does (instr.Fill d d (suc d))) refl free_is live1_is (one_is ∙ (λ i. Does (instr.Fill d d (free_is i)) ∷ old)) steps_is)

  pub repeat_live : (live1 : Variables) → x.kind ≡ kind.Repeat a b → live1 ≡ s → live ≡ before (seen_expr b) live1 → before (seen_expr a) live ≡ before (seen_expr x) s
  repeat_live live1 is live1_is live_is = operand_live x (tree.RepeatExpr x.at (seen_expr a) (seen_expr b)) (seen_expr a) live s (before (seen_expr b) s) (seen_repeat x a b is) refl (second_live live1 live1_is live_is)

-- the bounds of a quantifier before its turns
module _ (c : Context) (x : Expr) (all : Bool) (variable : ℕ) (a b body : Expr) (s live live1 : Variables) (d to free : ℕ) (old one steps : List Step)
    (is : x.kind ≡ kind.Quant all variable a b body) (live1_is : live1 ≡ turned variable (seen_expr body) s) (live_is : live ≡ before (seen_expr b) live1) where
  bound_live : live ≡ before (seen_expr b) (turned variable (seen_expr body) s)
  bound_live = live_is ∙ ap (λ (v : Variables). before (seen_expr b) v) live1_is

  pub quant_same : free ≡ suc d → one ≡ spec.quantify_code c all variable (seen_expr body) s d ++ old → steps ≡ code c (seen_expr b) live1 free ++ one → code c (seen_expr a) live d ++ steps ≡ into c (seen_expr x) s d to ++ old
  quant_same free_is one_is steps_is =
      let t = turned variable (seen_expr body) s in
      let q = spec.quantify_code c all variable (seen_expr body) s d in
      operand c x (tree.QuantExpr x.at all variable (seen_expr a) (seen_expr b) (seen_expr body)) (seen_expr a) None None live s (before (seen_expr b) t) d to (code c (seen_expr b) t (suc d) ++ q) old steps (seen_quant x all variable a b body is) refl refl bound_live
      (steps_is ∙ (λ i. code c (seen_expr b) (live1_is i) (free_is i) ++ one_is i) ∙ sym (append_assoc (code c (seen_expr b) t (suc d)) q old))

  pub quant_live : before (seen_expr a) live ≡ before (seen_expr x) s
  quant_live = operand_live x (tree.QuantExpr x.at all variable (seen_expr a) (seen_expr b) (seen_expr body)) (seen_expr a) live s (before (seen_expr b) (turned variable (seen_expr body) s)) (seen_quant x all variable a b body is) refl bound_live

-- ---- operands in a row

row : (c : Context) (x : Expr) (y : tree.Expr ℕ) (es : tree.Exprs ℕ) (live s : Variables) (d to : ℕ) (rest old steps : List Step) → seen_expr x ≡ y → into c y s d to ≡ codes c es s d ++ rest → live ≡ s → steps ≡ rest ++ old
    → codes c es live d ++ steps ≡ into c (seen_expr x) s d to ++ old
row c x y es live s d to rest old steps is whole live_is steps_is =
    (λ i. codes c es (live_is i) d ++ steps_is i) ∙ sym (append_assoc (codes c es s d) rest old) ∙ ap (λ (l : List Step). l ++ old) (sym (ap (λ (z : tree.Expr ℕ). into c z s d to) is ∙ whole))

row_live : (x : Expr) (y : tree.Expr ℕ) (es : tree.Exprs ℕ) (live s : Variables) → seen_expr x ≡ y → before y s ≡ before_all es s → live ≡ s → before_all es live ≡ before (seen_expr x) s
row_live x y es live s is whole live_is = ap (λ (v : Variables). before_all es v) live_is ∙ sym (ap (λ (z : tree.Expr ℕ). before z s) is ∙ whole)

module _ (c : Context) (x : Expr) (es : List Expr) (live s : Variables) (d to : ℕ) (old steps : List Step) (live_is : live ≡ s) where
  pub call_same : (f : ℕ) → x.kind ≡ kind.Call f es → steps ≡ spec.call (target c.results f) f d (length es) ++ old → codes c (tree.exprs_of (seen_exprs es)) live d ++ steps ≡ into c (seen_expr x) s d to ++ old
  call_same f is steps_is =
      row c x (tree.CallExpr x.at f (tree.exprs_of (seen_exprs es))) (tree.exprs_of (seen_exprs es)) live s d to (spec.call (target c.results f) f d (count_of (tree.exprs_of (seen_exprs es)))) old steps (seen_call x f es is) refl live_is
      (steps_is ∙ ap (λ (n : ℕ). spec.call (target c.results f) f d n ++ old) (sym (counted es)))

  pub call_live : (f : ℕ) → x.kind ≡ kind.Call f es → before_all (tree.exprs_of (seen_exprs es)) live ≡ before (seen_expr x) s
  call_live f is = row_live x (tree.CallExpr x.at f (tree.exprs_of (seen_exprs es))) (tree.exprs_of (seen_exprs es)) live s (seen_call x f es is) refl live_is

  pub list_same : x.kind ≡ kind.List es → steps ≡ spec.list (length es) d ++ old → codes c (tree.exprs_of (seen_exprs es)) live d ++ steps ≡ into c (seen_expr x) s d to ++ old
  list_same is steps_is =
      row c x (tree.ListExpr x.at (tree.exprs_of (seen_exprs es))) (tree.exprs_of (seen_exprs es)) live s d to (spec.list (count_of (tree.exprs_of (seen_exprs es))) d) old steps (seen_list x es is) refl live_is
      (steps_is ∙ ap (λ (n : ℕ). spec.list n d ++ old) (sym (counted es)))

  pub list_live : x.kind ≡ kind.List es → before_all (tree.exprs_of (seen_exprs es)) live ≡ before (seen_expr x) s
  list_live is = row_live x (tree.ListExpr x.at (tree.exprs_of (seen_exprs es))) (tree.exprs_of (seen_exprs es)) live s (seen_list x es is) refl live_is

module _ (c : Context) (x : Expr) (fs : List (List ℕ × Expr)) (live s : Variables) (d to : ℕ) (old steps : List Step) (is : x.kind ≡ kind.Record fs) (live_is : live ≡ s) where
  pub record_code_same : steps ≡ spec.record_of c (seen_fields fs) d ++ old → field_codes c (seen_fields fs) live d ++ steps ≡ into c (seen_expr x) s d to ++ old
  record_code_same steps_is =
      (λ i. field_codes c (seen_fields fs) (live_is i) d ++ steps_is i) ∙ sym (append_assoc (field_codes c (seen_fields fs) s d) (spec.record_of c (seen_fields fs) d) old)
      ∙ ap (λ (l : List Step). l ++ old) (sym (ap (λ (z : tree.Expr ℕ). into c z s d to) (seen_record x fs is)))

  pub record_code_live : before_fields (seen_fields fs) live ≡ before (seen_expr x) s
  record_code_live = ap (λ (v : Variables). before_fields (seen_fields fs) v) live_is ∙ sym (ap (λ (z : tree.Expr ℕ). before z s) (seen_record x fs is))
