-- What is known of a call's result, and the whole call of a declared function or method.
use Rattle.std.proofs.Common.{◌≡◌, ◌<◌, ◌+◌, ℕ, suc, List, [], ◌++◌, Option, Some, None, length, map, refl, ◌∙◌, sym, ap, subst}
use Rattle.std.proofs.lemmas.List.{append-nil, append_assoc}
use Rattle.wy_core.specs.CoreSeen.{place_of_ty, seen_exprs, seen_output, seen_param, seen_routine, seen_ty}
use Rattle.wy_core.specs.CoreTree as tree
use Rattle.wy_core.specs.Types.{Ty}
use Rattle.wy_core.specs.declared.declarations.Param.{Param}
use Rattle.wy_core.specs.declared.declarations.Output.{Output}
use Rattle.wy_core.specs.declared.declarations.Routine.{Routine}
use Rattle.wy_core.specs.declared.expressions.Expr as e
use Rattle.wy_term.specs.declared.cond.CondKind.TheVariants as kind
use Rattle.wy_term.specs.Term.{Term}
use Rattle.wy_term.specs.Nodes.{Plain, tree_at}
use Rattle.wy_term.specs.Numbers.{IsAt}
use Rattle.wy_vc_terms.specs.wy_vc_spec.Making.{null, val_name}
use Rattle.wy_vc_terms.specs.wy_vc_spec.Numbered.{Node, numbered_list, numbered_routine}
use Rattle.wy_vc_terms.specs.wy_vc_spec.Sizes.{exprs_in_list}
use Rattle.wy_vc_terms.specs.wy_vc_spec.Values.{Setting}
use Rattle.wy_vc_terms.specs.wy_vc_spec.Variables.{Vars, put_if}
use Rattle.wy_vc_terms.specs.wy_vc_spec.Owed.{Owed}
use Rattle.wy_vc_terms.specs.wy_vc_spec.Clauses.{Passed, passed, after, owe_clauses, assume_clauses, assume_in_type}
use Rattle.wy_vc_terms.specs.wy_vc_spec.Calls.{Walked, walked, owe_arguments, arguments, result_of, routine_walk}
use Rattle.wy_vc_operations.specs.Growing.{Kept, Makes}
use Rattle.wy_vc_terms.specs.declared.maker.Maker.{Maker}
use Rattle.wy_vc_exprs.specs.Numbered.{trees_of}
use Rattle.wy_vc_exprs.specs.Slots.{AreSlots, slots_of}
use Rattle.wy_vc_exprs.specs.State.{IsSound, Steps, Walks, hyps_of}
use Rattle.wy_vc_exprs.specs.declared.walk.Walk.{Walk}
use Rattle.wy_vc_exprs.proofs.SlotLemmas.{slots_kept, slots_put, are_put}
use Rattle.wy_vc_exprs.proofs.StateLemmas.{steps_made, steps_on, steps_as, steps_noded, at_kept}
use Rattle.wy_vc_exprs.proofs.WalkLemmas.{walks_behind}
use Rattle.wy_vc_exprs.specs.Called.{numbered_behind}

-- terms are made behind steps
pub then_made : (a b c : Walk) (p : Passed) → Steps a b p → Kept b.maker.terms c.maker.terms → c.hyps.items ≡ b.hyps.items → c.owed.items ≡ b.owed.items → c.maker.count ≡ b.maker.count → Steps a c p
then_made a b c p s kept hyps owed count =
    let made = steps_as b c (passed c.maker.count (hyps_of b) []) (passed b.maker.count (hyps_of b) []) (ap (λ (n : ℕ). passed n (hyps_of b) []) count) (steps_made b c s.sound kept hyps owed) in
    steps_as a c (passed p.count p.hyps (p.owed ++ [])) p (ap (λ (os : List Owed). passed p.count p.hyps os) (append-nil p.owed)) (steps_on (λ hs n. passed n hs []) a b c p s made)

-- ---- the variable of the result

pub slots_put_if : (nodes : List Plain) (vs : List (Option ℕ)) (x : Option ℕ) (k : ℕ) → slots_of nodes (put_if vs x k) ≡ put_if (slots_of nodes vs) x (tree_at nodes k)
slots_put_if nodes vs None k = refl
slots_put_if nodes vs (Some x) k = slots_put nodes vs x k

pub are_put_if : (nodes : List Plain) (vs : List (Option ℕ)) (x : Option ℕ) (k : ℕ) → AreSlots nodes vs → k < length nodes → AreSlots nodes (put_if vs x k)
are_put_if nodes vs None k are lt = are
are_put_if nodes vs (Some x) k are lt = are_put nodes vs x k are lt

-- ---- results

-- the ensures clauses that are assumed, by the words and the clauses that were read
assumed_as_read : (s : Setting Node) (routine : Routine) (k : ℕ) (vars : Vars) (a b : Walk) (words : List (List ℕ)) (posts : List e.Expr)
    → words ≡ routine.variables → posts ≡ routine.postconditions
    → Steps a b (assume_clauses s words (numbered_list (seen_exprs posts) k) vars (hyps_of a) a.maker.count)
    → Steps a b (assume_clauses s routine.variables (numbered_list (seen_exprs routine.postconditions) k) vars (hyps_of a) a.maker.count)
assumed_as_read s routine k vars a b words posts same_words same_posts step =
    subst (λ (ws : List (List ℕ)). Steps a b (assume_clauses s ws (numbered_list (seen_exprs routine.postconditions) k) vars (hyps_of a) a.maker.count)) same_words
    (subst (λ (es : List e.Expr). Steps a b (assume_clauses s words (numbered_list (seen_exprs es) k) vars (hyps_of a) a.maker.count)) same_posts step)

-- a call that gives nothing
pub nothing_walk : (s : Setting Node) (routine : Routine) (k : ℕ) (vars : Vars) (a b c : Walk) (r : ℕ) (words : List (List ℕ)) (posts : List e.Expr)
    → words ≡ routine.variables → posts ≡ routine.postconditions
    → Steps a b (assume_clauses s words (numbered_list (seen_exprs posts) k) vars (hyps_of a) a.maker.count)
    → Makes b.maker.terms c.maker.terms r null → c.hyps.items ≡ b.hyps.items → c.owed.items ≡ b.owed.items → c.maker.count ≡ b.maker.count
    → Walks a c r (result_of s (numbered_behind routine k) None vars (hyps_of a) a.maker.count)
nothing_walk s routine k vars a b c r words posts same_words same_posts step made hyps owed count = record {
  steps = then_made a b c (assume_clauses s routine.variables (numbered_list (seen_exprs routine.postconditions) k) vars (hyps_of a) a.maker.count)
      (assumed_as_read s routine k vars a b words posts same_words same_posts step) made.kept hyps owed count;
  is = made.here;
}

-- the new name of a result
pub name_made : (m m' : Maker) (ts : List Plain) (r : ℕ) (word : List ℕ) (n : ℕ) → n ≡ m.count → m' ≡ record m { count = suc m.count } → Makes m'.terms ts r (val_name word n) → Makes m.terms ts r (val_name word m.count)
name_made m m' ts r word n number maker made =
    subst (λ (ns : List Plain). Makes ns ts r (val_name word m.count)) (ap (λ (x : Maker). x.terms) maker) (subst (λ (k : ℕ). Makes m'.terms ts r (val_name word k)) number made)

pub name_node : (m m' : Maker) → m' ≡ record m { count = suc m.count } → m'.node ≡ m.node
name_node m m' maker = ap (λ (x : Maker). x.node) maker

-- the result that is declared
abbrev pub declared_output : Output → tree.Output
declared_output o = record { at = place_of_ty o.ty; ty = seen_ty o.ty; variable = o.variable }

-- the new name is in the result's type
pub output_typed : (s : Setting Node) (ty : Ty) (t : Term) (a b c : Walk) (r : ℕ) → IsSound a → Makes a.maker.terms b.maker.terms r t → b.hyps.items ≡ a.hyps.items → b.owed.items ≡ a.owed.items → b.maker.count ≡ suc a.maker.count
    → Steps b c (assume_in_type s ty (tree_at b.maker.terms r) (hyps_of b) b.maker.count)
    → Steps a c (assume_in_type s ty t (hyps_of a) (suc a.maker.count))
output_typed s ty t a b c r sound made hyps owed count step =
    let step' = subst (λ (x : Term). Steps b c (assume_in_type s ty x (hyps_of b) b.maker.count)) made.here.is step in
    let begun = steps_as a b (passed b.maker.count (hyps_of a) []) (passed (suc a.maker.count) (hyps_of a) []) (ap (λ (n : ℕ). passed n (hyps_of a) []) count) (steps_made a b sound made.kept hyps owed) in
    steps_on (λ hs n. assume_in_type s ty t hs n) a b c (passed (suc a.maker.count) (hyps_of a) []) begun step'

-- a call that gives a result
pub output_walk : (s : Setting Node) (routine : Routine) (out : Output) (k j : ℕ) (vs us : List (Option ℕ)) (a c d : Walk) (r : ℕ) (words : List (List ℕ)) (posts : List e.Expr)
    → words ≡ routine.variables → posts ≡ routine.postconditions → j ≡ k
    → AreSlots a.maker.terms vs → IsAt c.maker.terms r (val_name routine.name a.maker.count) → us ≡ put_if vs out.variable r
    → Steps a c (assume_in_type s (seen_ty out.ty) (val_name routine.name a.maker.count) (hyps_of a) (suc a.maker.count))
    → Steps c d (assume_clauses s words (numbered_list (seen_exprs posts) j) (slots_of c.maker.terms us) (hyps_of c) c.maker.count)
    → Walks a d r (result_of s (numbered_behind routine k) (Some (declared_output out)) (slots_of a.maker.terms vs) (hyps_of a) a.maker.count)
output_walk s routine out k j vs us a c d r words posts same_words same_posts same_node are here same_vars first second =
    let name = val_name routine.name a.maker.count in
    let V = slots_of a.maker.terms vs in
    let T = assume_in_type s (seen_ty out.ty) name (hyps_of a) (suc a.maker.count) in
    let es = numbered_list (seen_exprs routine.postconditions) k in
    let slots : slots_of c.maker.terms us ≡ put_if V out.variable name =
    ap (λ (xs : List (Option ℕ)). slots_of c.maker.terms xs) same_vars ∙ slots_put_if c.maker.terms vs out.variable r
    ∙ ap (λ (xs : Vars). put_if xs out.variable (tree_at c.maker.terms r)) (slots_kept a.maker.terms c.maker.terms first.kept vs are)
    ∙ ap (λ (x : Term). put_if V out.variable x) here.is in
    let read = assumed_as_read s routine j (slots_of c.maker.terms us) c d words posts same_words same_posts second in
    let placed = subst (λ (i : ℕ). Steps c d (assume_clauses s routine.variables (numbered_list (seen_exprs routine.postconditions) i) (slots_of c.maker.terms us) (hyps_of c) c.maker.count)) same_node read in
    let second' = subst (λ (xs : Vars). Steps c d (assume_clauses s routine.variables es xs (hyps_of c) c.maker.count)) slots placed in
    record {
      steps = steps_on (λ hs n. assume_clauses s routine.variables es (put_if V out.variable name) hs n) a c d T first second';
      is = at_kept c.maker.terms d.maker.terms r name second.kept here;
    }

-- ---- a declared function or method

-- the ensures clauses have the numbers behind those of the requires clauses
behind_is : (s : Setting Node) (routine : Routine) (j k : ℕ) (out : Option tree.Output) (vars : Vars) (hyps : List Term) (n : ℕ) → k ≡ j + exprs_in_list (seen_exprs routine.preconditions)
    → result_of s (numbered_behind routine k) out vars hyps n ≡ result_of s (numbered_routine (seen_routine routine) j) out vars hyps n
behind_is s routine j k None vars hyps n at =
    ap (λ (i : ℕ). walked (assume_clauses s routine.variables (numbered_list (seen_exprs routine.postconditions) i) vars hyps n) null) at
behind_is s routine j k (Some out) vars hyps n at =
    let name = val_name routine.name n in
    let typed = assume_in_type s out.ty name hyps (suc n) in
    ap (λ (i : ℕ). walked (assume_clauses s routine.variables (numbered_list (seen_exprs routine.postconditions) i) (put_if vars out.variable name) typed.hyps typed.count) name) at

-- the arguments' types, the requires clauses, the result
pub declared_walk : (s : Setting Node) (routine : Routine) (j at : ℕ) (ks : List ℕ) (vs us : List (Option ℕ)) (a b c d h f : Walk) (r : ℕ) (params : List Param) (words : List (List ℕ)) (pres : List e.Expr)
    → params ≡ routine.params → words ≡ routine.variables → pres ≡ routine.preconditions
    → ((nodes : List Plain) → slots_of nodes vs ≡ arguments (map seen_param params) (trees_of nodes ks) []) → AreSlots a.maker.terms vs → us ≡ vs
    → Steps a b (owe_arguments s at (map seen_param params) (trees_of a.maker.terms ks) (hyps_of a) a.maker.count)
    → c.maker.terms ≡ b.maker.terms → c.maker.count ≡ b.maker.count → c.hyps ≡ b.hyps → c.owed ≡ b.owed → c.maker.node ≡ j
    → Steps c d (owe_clauses s kind.Requires at words (numbered_list (seen_exprs pres) c.maker.node) (slots_of c.maker.terms vs) (hyps_of c) c.maker.count)
    → d.maker.node ≡ c.maker.node + exprs_in_list (seen_exprs pres)
    → Walks d h r (result_of s (numbered_behind routine d.maker.node) (seen_output routine.result) (slots_of d.maker.terms us) (hyps_of d) d.maker.count)
    → f.maker.terms ≡ h.maker.terms → f.maker.count ≡ h.maker.count → f.hyps ≡ h.hyps → f.owed ≡ h.owed
    → Walks a f r (routine_walk s (numbered_routine (seen_routine routine) j) at (trees_of a.maker.terms ks) (hyps_of a) a.maker.count)
declared_walk s routine j at ks vs us a b c d h f r params words pres same_params same_words same_pres bound are same_vars first c_terms c_count c_hyps c_owed c_node second d_node third f_terms f_count f_hyps f_owed =
    let R = numbered_routine (seen_routine routine) j in
    let ts = trees_of a.maker.terms ks in
    let V = arguments (map seen_param routine.params) ts [] in
    let M = owe_arguments s at (map seen_param routine.params) ts (hyps_of a) a.maker.count in
    let CL : List Term → ℕ → Passed = λ hs n. owe_clauses s kind.Requires at routine.variables (numbered_list (seen_exprs routine.preconditions) j) V hs n in
    let G : List Term → ℕ → Walked = λ hs n. result_of s R (seen_output routine.result) V hs n in
    let members = subst (λ (ps : List Param). Steps a b (owe_arguments s at (map seen_param ps) ts (hyps_of a) a.maker.count)) same_params first in
    let at_c : Steps a c M = steps_noded a b c M members c_terms c_count c_hyps c_owed in
    let slots : slots_of a.maker.terms vs ≡ V = bound a.maker.terms ∙ ap (λ (ps : List Param). arguments (map seen_param ps) ts []) same_params in
    let slots_c : slots_of c.maker.terms vs ≡ V = slots_kept a.maker.terms c.maker.terms at_c.kept vs are ∙ slots in
    let s1 = subst (λ (ws : List (List ℕ)). Steps c d (owe_clauses s kind.Requires at ws (numbered_list (seen_exprs pres) c.maker.node) (slots_of c.maker.terms vs) (hyps_of c) c.maker.count)) same_words second in
    let s2 = subst (λ (es : List e.Expr). Steps c d (owe_clauses s kind.Requires at routine.variables (numbered_list (seen_exprs es) c.maker.node) (slots_of c.maker.terms vs) (hyps_of c) c.maker.count)) same_pres s1 in
    let s3 = subst (λ (i : ℕ). Steps c d (owe_clauses s kind.Requires at routine.variables (numbered_list (seen_exprs routine.preconditions) i) (slots_of c.maker.terms vs) (hyps_of c) c.maker.count)) c_node s2 in
    let s4 = subst (λ (xs : Vars). Steps c d (owe_clauses s kind.Requires at routine.variables (numbered_list (seen_exprs routine.preconditions) j) xs (hyps_of c) c.maker.count)) slots_c s3 in
    let both : Steps a d (after M (CL M.hyps M.count)) = steps_on CL a c d M at_c s4 in
    let slots_d : slots_of d.maker.terms us ≡ V = ap (λ (xs : List (Option ℕ)). slots_of d.maker.terms xs) same_vars ∙ slots_kept a.maker.terms d.maker.terms both.kept vs are ∙ slots in
    let node : d.maker.node ≡ j + exprs_in_list (seen_exprs routine.preconditions) =
    d_node ∙ ap (λ (i : ℕ). i + exprs_in_list (seen_exprs pres)) c_node ∙ ap (λ (es : List e.Expr). j + exprs_in_list (seen_exprs es)) same_pres in
    let t1 = subst (λ (xs : Vars). Walks d h r (result_of s (numbered_behind routine d.maker.node) (seen_output routine.result) xs (hyps_of d) d.maker.count)) slots_d third in
    let t2 = subst (λ (w : Walked). Walks d h r w) (behind_is s routine j d.maker.node (seen_output routine.result) V (hyps_of d) d.maker.count node) t1 in
    let C = CL M.hyps M.count in
    let all = walks_behind G a d h r (after M C) both t2 in
    let W = G C.hyps C.count in
    let whole = subst (λ (os : List Owed). Walks a h r (record W { owed = os })) (append_assoc M.owed C.owed W.owed) all in
    record {
      steps = steps_noded a h f (passed W.count W.hyps (M.owed ++ (C.owed ++ W.owed))) whole.steps f_terms f_count f_hyps f_owed;
      is = subst (λ (ns : List Plain). IsAt ns r W.term) (sym f_terms) whole.is;
    }
