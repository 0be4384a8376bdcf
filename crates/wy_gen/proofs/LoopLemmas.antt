-- Loops that go through a list from its end to its beginning.
use Rattle.std.proofs.Common.{◌≡◌, ◌∙◌, ◌<◌, ◌≤◌, ◌+◌, ◌-◌, ℕ, suc, List, ◌∷◌, ◌++◌, length, map, drop, get_or, ap, sym, append_assoc, arith}
use Rattle.std.proofs.lemmas.List.{drop_more}
use Rattle.wy_core.specs.CoreSeen.{field_tys_of, seen_expr, seen_exprs, seen_fields, seen_ty}
use Rattle.wy_core.specs.CoreTree.{exprs_of}
use Rattle.wy_core.specs.declared.types.Ty.{Ty}
use Rattle.wy_core.specs.declared.expressions.Expr.{Expr}
use Rattle.wy_live.specs.Sets.{Variables}
use Rattle.wy_live.specs.Walks.{before, before_all, before_fields}
use Rattle.wy_code.specs.declared.instructions.Instr.TheVariants as instr
use Rattle.wy_code.specs.declared.pieces.steps.Step.{Step}
use Rattle.wy_code.specs.declared.pieces.steps.Step.TheVariants.{Does}
use Rattle.wy_code_spec.specs.declared.tables.context.Context.{Context}
use Rattle.wy_code_spec.specs.tables.Tables.{number_of}
use Rattle.wy_code_spec.specs.compiled.Expressions.{code, codes, field_codes}
use Rattle.wy_code_spec.specs.compiled.TypeTests.{field_end, fields_test, test}
use Rattle.wy_gen.proofs.TypeLemmas.{field_same}

pub drop_back : {X : Type 0} (xs : List X) (n : ℕ) (x : X) → 0 < n → n ≤ length xs → x ≡ get_or xs (n - 1) x → drop (n - 1) xs ≡ x ∷ drop n xs
drop_back xs n x some within is =
    let below : n - 1 < length xs = omega (arith, some, within) in
    let same : n - 1 + 1 ≡ n = omega (arith, some) in
    let e = sym is in
    drop_more xs (n - 1) x below ∙ (λ i. e i ∷ drop (same i) xs)

-- the register of the expression before
pub place_back : (r n there here : ℕ) → 0 < n → there ≡ r + n → suc here ≡ there → here ≡ r + (n - 1)
place_back r n there here some there_is here_is = omega (arith, some, there_is, here_is)

module _ (c : Context) (es : List Expr) (n : ℕ) (x : Expr) (s live : Variables) (some : 0 < n) (within : n ≤ length es) (x_is : x ≡ get_or es (n - 1) x) (live_is : live ≡ before_all (exprs_of (seen_exprs (drop n es))) s) where
  pub codes_turn : (there here : ℕ) (old made steps : List Step) → suc here ≡ there → made ≡ codes c (exprs_of (seen_exprs (drop n es))) s there ++ old → steps ≡ code c (seen_expr x) live here ++ made
      → steps ≡ codes c (exprs_of (seen_exprs (drop (n - 1) es))) s here ++ old
  codes_turn there here old made steps place made_is steps_is =
      let more = exprs_of (seen_exprs (drop n es)) in
      let made_here : made ≡ codes c more s (suc here) ++ old = made_is ∙ ap (λ (r : ℕ). codes c more s r ++ old) (sym place) in
      steps_is ∙ (λ i. code c (seen_expr x) (live_is i) here ++ made_here i) ∙ sym (append_assoc (code c (seen_expr x) (before_all more s) here) (codes c more s (suc here)) old)
      ∙ ap (λ (l : List Expr). codes c (exprs_of (seen_exprs l)) s here ++ old) (sym (drop_back es n x some within x_is))

  pub codes_turn_live : (now : Variables) → now ≡ before (seen_expr x) live → now ≡ before_all (exprs_of (seen_exprs (drop (n - 1) es))) s
  codes_turn_live now is = is ∙ ap (λ (v : Variables). before (seen_expr x) v) live_is ∙ ap (λ (l : List Expr). before_all (exprs_of (seen_exprs l)) s) (sym (drop_back es n x some within x_is))

module _ (c : Context) (fs : List (List ℕ × Expr)) (n : ℕ) (x : List ℕ × Expr) (s live : Variables) (some : 0 < n) (within : n ≤ length fs) (x_is : x ≡ get_or fs (n - 1) x) (live_is : live ≡ before_fields (seen_fields (drop n fs)) s) where
  pub field_codes_turn : (there here : ℕ) (old made steps : List Step) → suc here ≡ there → made ≡ field_codes c (seen_fields (drop n fs)) s there ++ old → steps ≡ code c (seen_expr x.1) live here ++ made
      → steps ≡ field_codes c (seen_fields (drop (n - 1) fs)) s here ++ old
  field_codes_turn there here old made steps place made_is steps_is =
      let more = seen_fields (drop n fs) in
      let made_here : made ≡ field_codes c more s (suc here) ++ old = made_is ∙ ap (λ (r : ℕ). field_codes c more s r ++ old) (sym place) in
      steps_is ∙ (λ i. code c (seen_expr x.1) (live_is i) here ++ made_here i) ∙ sym (append_assoc (code c (seen_expr x.1) (before_fields more s) here) (field_codes c more s (suc here)) old)
      ∙ ap (λ (l : List (List ℕ × Expr)). field_codes c (seen_fields l) s here ++ old) (sym (drop_back fs n x some within x_is))

  pub field_codes_turn_live : (now : Variables) → now ≡ before (seen_expr x.1) live → now ≡ before_fields (seen_fields (drop (n - 1) fs)) s
  field_codes_turn_live now is = is ∙ ap (λ (v : Variables). before (seen_expr x.1) v) live_is ∙ ap (λ (l : List (List ℕ × Expr)). before_fields (seen_fields l) s) (sym (drop_back fs n x some within x_is))

pub fields_turn : (c : Context) (fs : List (List ℕ × Ty)) (n : ℕ) (x : List ℕ × Ty) (v r f inner number : ℕ) (old one two three : List Step) → 0 < n → n ≤ length fs → x ≡ get_or fs (n - 1) x → inner ≡ suc f → number ≡ number_of x.0 c.table.names
    → one ≡ field_end r f (fields_test c (field_tys_of (map (λ g. (g.0, seen_ty g.1)) (drop n fs))) v r f) ++ old → two ≡ test c (seen_ty x.1) f r inner ++ one → three ≡ Does (instr.Field f v number) ∷ two
    → three ≡ fields_test c (field_tys_of (map (λ g. (g.0, seen_ty g.1)) (drop (n - 1) fs))) v r f ++ old
fields_turn c fs n x v r f inner number old one two three some within x_is inner_is number_is one_is two_is three_is =
    field_same c x.0 x.1 (field_tys_of (map (λ g. (g.0, seen_ty g.1)) (drop n fs))) v r f inner number old one two three inner_is number_is one_is two_is three_is
    ∙ ap (λ (l : List (List ℕ × Ty)). fields_test c (field_tys_of (map (λ g. (g.0, seen_ty g.1)) l)) v r f ++ old) (sym (drop_back fs n x some within x_is))
