-- The indices of a path, which are made from the last one to the first.
use Rattle.std.proofs.Common.{◌≡◌, ◌∙◌, ◌<◌, ◌≤◌, ◌+◌, ◌-◌, ℕ, suc, List, [], ◌∷◌, ◌++◌, length, drop, get_or, map, Option, None, ap, sym, subst, append_assoc, arith}
use Rattle.std.proofs.lemmas.List.{get_or-map, length-map}
use Rattle.wy_core.specs.CoreTree as tree
use Rattle.wy_core.specs.CoreSeen.{seen_expr, seen_step}
use Rattle.wy_core.specs.declared.expressions.Expr.{Expr}
use Rattle.wy_core.specs.declared.statements.Step as path_step
use Rattle.wy_core.specs.declared.statements.StepKind.{StepKind}
use Rattle.wy_core.specs.declared.statements.StepKind.TheVariants as kind
use Rattle.wy_live.specs.Sets.{Variables, with}
use Rattle.wy_live.specs.Walks.{before, before_step, before_steps}
use Rattle.wy_code.specs.declared.instructions.Slot.{Slot}
use Rattle.wy_code.specs.declared.instructions.Instr.TheVariants as instr
use Rattle.wy_code.specs.declared.pieces.steps.Step.{Step}
use Rattle.wy_code.specs.declared.pieces.steps.Step.TheVariants.{Does}
use Rattle.wy_code_spec.specs.declared.tables.context.Context.{Context}
use Rattle.wy_code_spec.specs.compiled.Expressions.{code}
use Rattle.wy_code_spec.specs.compiled.Operands.{read, unless_read}
use Rattle.wy_code_spec.specs.compiled.Statements.{index_count, indices, kept, slots, update}
use Rattle.wy_gen.specs.Places.{place_of, places}
use Rattle.wy_gen.proofs.LoopLemmas.{drop_back}

seen_index : (x : path_step.Step) (e : Expr) → x.kind ≡ kind.Index e → seen_step x ≡ tree.IndexStep x.at (seen_expr e)
seen_index x e is = ap (λ (k : StepKind). seen_step (record { at = x.at; kind = k })) is

-- one index more before those that are made; it has no code where it is read in its register
pub index_made : (c : Context) (x : path_step.Step) (e : Expr) (path : List (tree.Step ℕ)) (place : Option ℕ) (b s live : Variables) (here there : ℕ) (old made steps : List Step) → x.kind ≡ kind.Index e → place ≡ place_of (seen_step x) s → suc here ≡ there
    → live ≡ before_steps path b → made ≡ indices c path b s there ++ old → steps ≡ unless_read place (code c (seen_expr e) live here) ++ made → steps ≡ indices c (seen_step x ∷ path) b s here ++ old
index_made c x e path place b s live here there old made steps is place_is next live_is made_is steps_is =
    let p : place ≡ read (seen_expr e) s = place_is ∙ ap (λ (y : tree.Step ℕ). place_of y s) (seen_index x e is) in
    let made_here : made ≡ indices c path b s (suc here) ++ old = made_is ∙ ap (λ (r : ℕ). indices c path b s r ++ old) (sym next) in
    steps_is ∙ (λ i. unless_read (p i) (code c (seen_expr e) (live_is i) here) ++ made_here i) ∙ sym (append_assoc (unless_read (read (seen_expr e) s) (code c (seen_expr e) (before_steps path b) here)) (indices c path b s (suc here)) old)
    ∙ ap (λ (y : tree.Step ℕ). indices c (y ∷ path) b s here ++ old) (sym (seen_index x e is))

count_more : (y : tree.Step ℕ) (path : List (tree.Step ℕ)) → index_count (y ∷ path) ≡ index_count (y ∷ []) + index_count path
count_more (tree.IndexStep at e) path = omega arith
count_more (tree.FieldStep at name) path = omega arith

-- a turn of the loop over the steps of a path, from the last one to the first
module _ (c : Context) (path : List path_step.Step) (n : ℕ) (x : path_step.Step) (some : 0 < n) (within : n ≤ length path) (x_is : x ≡ get_or path (n - 1) x) where
  pub turn_place : (here there end : ℕ) → there + index_count (map seen_step (drop n path)) ≡ end → here + index_count (seen_step x ∷ []) ≡ there → here + index_count (map seen_step (drop (n - 1) path)) ≡ end
  turn_place here there end made place =
      let e : index_count (map seen_step (drop (n - 1) path)) ≡ index_count (seen_step x ∷ map seen_step (drop n path)) = ap (λ (l : List path_step.Step). index_count (map seen_step l)) (drop_back path n x some within x_is) in
      let m = count_more (seen_step x) (map seen_step (drop n path)) in
      omega arith

  pub turn_live : (live s now : Variables) → live ≡ before_steps (map seen_step (drop n path)) s → now ≡ before_step (seen_step x) live → now ≡ before_steps (map seen_step (drop (n - 1) path)) s
  turn_live live s now live_is is = is ∙ ap (λ (v : Variables). before_step (seen_step x) v) live_is ∙ ap (λ (l : List path_step.Step). before_steps (map seen_step l) s) (sym (drop_back path n x some within x_is))

  pub turn_steps : (here : ℕ) (b s : Variables) (old steps : List Step) → steps ≡ indices c (seen_step x ∷ map seen_step (drop n path)) b s here ++ old → steps ≡ indices c (map seen_step (drop (n - 1) path)) b s here ++ old
  turn_steps here b s old steps is = is ∙ ap (λ (l : List path_step.Step). indices c (map seen_step l) b s here ++ old) (sym (drop_back path n x some within x_is))

  -- where the index of this step is read
  pub turn_read : (ps : List (Option ℕ)) (p : Option ℕ) (s : Variables) → p ≡ get_or ps (n - 1) None → ps ≡ places (map seen_step path) s → p ≡ place_of (seen_step x) s
  turn_read ps p s p_is ps_is =
      let f : tree.Step ℕ → Option ℕ = λ y. place_of y s in
      let below : n - 1 < length path = omega (arith, some, within) in
      let seen_below : n - 1 < length (map seen_step path) = subst (λ (k : ℕ). n - 1 < k) (sym (length-map path seen_step)) below in
      p_is ∙ ap (λ (l : List (Option ℕ)). get_or l (n - 1) None) ps_is ∙ get_or-map f (map seen_step path) (n - 1) (seen_step x) None seen_below ∙ ap f (get_or-map seen_step path (n - 1) x (seen_step x) below) ∙ ap (λ (y : path_step.Step). f (seen_step y)) (sym x_is)

-- the indices, the value and the update
pub update_same : (c : Context) (x : ℕ) (path : List (tree.Step ℕ)) (e : tree.Expr ℕ) (n count register : ℕ) (parts : List Slot) (s live1 live2 live3 : Variables) (old one two three : List Step)
    → count ≡ index_count path → register ≡ n + count → parts ≡ slots c path s n → live1 ≡ with s x → one ≡ kept x s ++ old
    → live2 ≡ live1 → two ≡ Does (instr.Put x parts register) ∷ one → live3 ≡ before e live2 → three ≡ code c e live2 register ++ two
    → indices c path live3 s n ++ three ≡ update c x path e s n ++ old
update_same c x path e n count register parts s live1 live2 live3 old one two three count_is register_is parts_is live1_is one_is live2_is two_is live3_is three_is =
    let r : register ≡ n + index_count path = register_is ∙ ap (λ (k : ℕ). n + k) count_is in
    let l2 : live2 ≡ with s x = live2_is ∙ live1_is in
    let l3 : live3 ≡ before e (with s x) = live3_is ∙ ap (λ (v : Variables). before e v) l2 in
    let put = Does (instr.Put x (slots c path s n) (n + index_count path)) in
    let value = code c e (with s x) (n + index_count path) in
    let first = indices c path (before e (with s x)) s n in
    let second : two ≡ put ∷ (kept x s ++ old) = two_is ∙ (λ i. Does (instr.Put x (parts_is i) (r i)) ∷ one_is i) in
    let third : three ≡ value ++ (put ∷ (kept x s ++ old)) = three_is ∙ (λ i. code c e (l2 i) (r i) ++ second i) in
    (λ i. indices c path (l3 i) s n ++ third i) ∙ ap (λ (l : List Step). first ++ l) (sym (append_assoc value (put ∷ kept x s) old)) ∙ sym (append_assoc first (value ++ put ∷ kept x s) old)
