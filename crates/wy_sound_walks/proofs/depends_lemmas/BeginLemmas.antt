-- Hypotheses only come to those that stand.
use Rattle.std.proofs.Common.{◌≡◌, ℕ, suc, List, [], ◌∷◌, ◌++◌, length, Bool, true, false, ◌&&◌, if◌then◌else◌, Option, Some, None, refl, sym, ap, ◌∙◌, append_assoc, append-nil}
use Rattle.wy_core.specs.Types.{Ty}
use Rattle.wy_core.specs.CoreTree as tree
use Rattle.wy_core.specs.CoreTree.{Expr, NullExpr, BoolExpr, IntExpr, VarExpr, CallExpr, NegExpr, NotExpr, LenExpr, BinaryExpr, IsExpr, IndexExpr, FieldExpr, ListExpr, RepeatExpr, RecordExpr, QuantExpr, Exprs, NoExprs, MoreExprs, Fields, NoFields, MoreFields, Param, Routine}
use Rattle.wy_core.specs.declared.expressions.Op.{Op}
use Rattle.wy_core.specs.declared.expressions.Op.TheVariants.{Add, Sub, Mul, Div, Mod, Equal, Less, LessEqual, Greater, GreaterEqual, And, Or}
use Rattle.wy_term.specs.declared.cond.CondKind.{CondKind}
use Rattle.wy_term.specs.declared.cond.CondKind.TheVariants as kind
use Rattle.wy_term.specs.Term.{Term}
use Rattle.wy_sound_terms.specs.wy_sem.Expressions.{node}
use Rattle.wy_sound_terms.specs.wy_sem.Evaluation.{Callee, Declared, Print, PrintInt, Undeclared, callee}
use Rattle.wy_sound_terms.specs.wy_sem.TypeTests.{is_constrained}
use Rattle.wy_sound_terms.specs.wy_vc_spec.Making.{val_name}
use Rattle.wy_sound_terms.specs.wy_vc_spec.Variables.{Vars, put_if}
use Rattle.wy_sound_terms.specs.wy_vc_spec.Operations as op
use Rattle.wy_sound_terms.specs.wy_vc_spec.Values.{Setting, valued, named_in, clause_formula}
use Rattle.wy_sound_terms.specs.wy_vc_spec.Owed.{members, assume, assume_all}
use Rattle.wy_sound_terms.specs.wy_vc_spec.Clauses.{Passed, passed, one_goal, pass_goals, goals, owe_clauses, assume_clauses, in_type, assume_in_type, owe_member}
use Rattle.wy_sound_terms.specs.wy_vc_spec.Calls.{Walked, owe_arguments, arguments, result_of, are_characters, callee_walk, call_walk}
use Rattle.wy_sound_terms.specs.wy_vc_spec.Walks.{WalkedAll, Goals, goals_of, range_goals, index_goals, length_goals, operator_goals, right_hyps, behind_hyps, assume_goals, walk, walk_all, walk_fields}
use Rattle.wy_sound_walks.specs.depends.Begins.{Begins, HypothesesGrow}

pub begins_same : (hyps : List Term) → Begins hyps hyps
begins_same hyps = ([], sym (append-nil hyps))

pub begins_on : (a b c : List Term) → Begins a b → Begins b c → Begins a c
begins_on a b c h g = (h.0 ++ g.0, g.1 ∙ ap (λ (x : List Term). x ++ g.0) h.1 ∙ append_assoc a h.0 g.0)

pub begins_assumed : (hyps : List Term) (f : Term) → Begins hyps (assume hyps f)
begins_assumed hyps f = (members f, refl)

pub begins_all : (hyps fs : List Term) → Begins hyps (assume_all hyps fs)
begins_all hyps [] = begins_same hyps
begins_all hyps (f ∷ fs) = begins_on hyps (assume hyps f) (assume_all (assume hyps f) fs) (begins_assumed hyps f) (begins_all (assume hyps f) fs)

pub begins_goals : (hyps : List Term) (gs : List Goals) → Begins hyps (assume_goals hyps gs)
begins_goals hyps [] = begins_same hyps
begins_goals hyps (g ∷ gs) = begins_on hyps (assume_all hyps g.goals) (assume_goals (assume_all hyps g.goals) gs) (begins_all hyps g.goals) (begins_goals (assume_all hyps g.goals) gs)

begins_picked : (hyps : List Term) (b : Bool) (p q : Passed) → Begins hyps p.hyps → Begins hyps q.hyps → Begins hyps (if b then p else q).hyps
begins_picked hyps true p q h g = h
begins_picked hyps false p q h g = g

module _ {N : Type 0} (s : Setting N) (routines : List (Routine N)) (words : List (List ℕ)) where
  -- ---- clauses and calls

  pub owed_begin : (kind : CondKind) (at : ℕ) (ws : List (List ℕ)) (es : List (Expr N)) (vars : Vars) (hyps : List Term) (n : ℕ) → Begins hyps (owe_clauses s kind at ws es vars hyps n).hyps
  owed_begin kind at ws [] vars hyps n = begins_same hyps
  owed_begin kind at ws (e ∷ es) vars hyps n =
      let first = pass_goals kind at (goals s ws e vars n) hyps in
      begins_on hyps first.hyps (owe_clauses s kind at ws es vars first.hyps first.count).hyps (begins_all hyps (goals s ws e vars n).terms) (owed_begin kind at ws es vars first.hyps first.count)

  pub assumed_begin : (ws : List (List ℕ)) (es : List (Expr N)) (vars : Vars) (hyps : List Term) (n : ℕ) → Begins hyps (assume_clauses s ws es vars hyps n).hyps
  assumed_begin ws [] vars hyps n = begins_same hyps
  assumed_begin ws (e ∷ es) vars hyps n =
      let f = clause_formula s (named_in s) ws e vars n in
      begins_on hyps (assume hyps f.term) (assume_clauses s ws es vars (assume hyps f.term) f.count).hyps (begins_assumed hyps f.term) (assumed_begin ws es vars (assume hyps f.term) f.count)

  pub member_begins : (at : ℕ) (t : Ty) (v : Term) (hyps : List Term) (n : ℕ) → Begins hyps (owe_member s at t v hyps n).hyps
  member_begins at t v hyps n = begins_picked hyps (is_constrained s.types t) (pass_goals kind.Member at (one_goal (in_type s t v n)) hyps) (passed n hyps []) (begins_all hyps ((in_type s t v n).term ∷ [])) (begins_same hyps)

  arguments_begin : (at : ℕ) (ps : List Param) (vs hyps : List Term) (n : ℕ) → Begins hyps (owe_arguments s at ps vs hyps n).hyps
  arguments_begin at [] vs hyps n = begins_same hyps
  arguments_begin at (p ∷ ps) [] hyps n = begins_same hyps
  arguments_begin at (p ∷ ps) (v ∷ vs) hyps n =
      let first = owe_member s at p.ty v hyps n in
      begins_on hyps first.hyps (owe_arguments s at ps vs first.hyps first.count).hyps (member_begins at p.ty v hyps n) (arguments_begin at ps vs first.hyps first.count)

  result_begins : (r : Routine N) (o : Option tree.Output) (vars : Vars) (hyps : List Term) (n : ℕ) → Begins hyps (result_of s r o vars hyps n).hyps
  result_begins r None vars hyps n = assumed_begin r.variables r.postconditions vars hyps n
  result_begins r (Some out) vars hyps n =
      let typed = assume_in_type s out.ty (val_name r.name n) hyps (suc n) in
      begins_on hyps typed.hyps (assume_clauses s r.variables r.postconditions (put_if vars out.variable (val_name r.name n)) typed.hyps typed.count).hyps (begins_assumed hyps (in_type s out.ty (val_name r.name n) (suc n)).term)
      (assumed_begin r.variables r.postconditions (put_if vars out.variable (val_name r.name n)) typed.hyps typed.count)

  pub callee_begins : (c : Callee N) (at : ℕ) (vs hyps : List Term) (n : ℕ) → Begins hyps (callee_walk s c at vs hyps n).hyps
  callee_begins (Declared r) at vs hyps n =
      let first = owe_arguments s at r.params vs hyps n in
      let vars = arguments r.params vs [] in
      let middle = owe_clauses s kind.Requires at r.variables r.preconditions vars first.hyps first.count in
      let last = result_of s r r.result vars middle.hyps middle.count in
      begins_on hyps first.hyps last.hyps (arguments_begin at r.params vs hyps n)
      (begins_on first.hyps middle.hyps last.hyps (owed_begin kind.Requires at r.variables r.preconditions vars first.hyps first.count) (result_begins r r.result vars middle.hyps middle.count))
  callee_begins Print at [] hyps n = begins_same hyps
  callee_begins Print at (v ∷ vs) hyps n = begins_all hyps (are_characters v n ∷ [])
  callee_begins PrintInt at vs hyps n = begins_same hyps
  callee_begins Undeclared at vs hyps n = begins_same hyps

  -- ---- expressions

  abbrev W : Expr N → Vars → List Term → ℕ → Walked
  W e vars hyps n = walk s (call_walk s routines) words e vars hyps n

  abbrev All : Exprs N → Vars → List Term → ℕ → WalkedAll
  All es vars hyps n = walk_all s (call_walk s routines) words es vars hyps n

  abbrev AllFields : Fields N → Vars → List Term → ℕ → WalkedAll
  AllFields fs vars hyps n = walk_fields s (call_walk s routines) words fs vars hyps n

  behind_right : (o : Op) (hyps : List Term) (v w : Walked) (made : Term) → Begins hyps v.hyps → Begins v.hyps w.hyps → Begins hyps (assume_goals w.hyps (operator_goals o w.term made))
  behind_right o hyps v w made h g = begins_on hyps w.hyps (assume_goals w.hyps (operator_goals o w.term made)) (begins_on hyps v.hyps w.hyps h g) (begins_goals w.hyps (operator_goals o w.term made))

  behind_both : (o : Op) (hyps : List Term) (v w : Walked) (made : Term) → Begins hyps v.hyps → Begins (right_hyps o v.term v.hyps) w.hyps → Begins hyps (assume_goals (behind_hyps o v.hyps w.hyps) (operator_goals o w.term made))
  behind_both And hyps v w made h g = h
  behind_both Or hyps v w made h g = h
  behind_both Add hyps v w made h g = behind_right Add hyps v w made h g
  behind_both Sub hyps v w made h g = behind_right Sub hyps v w made h g
  behind_both Mul hyps v w made h g = behind_right Mul hyps v w made h g
  behind_both Div hyps v w made h g = behind_right Div hyps v w made h g
  behind_both Mod hyps v w made h g = behind_right Mod hyps v w made h g
  behind_both Equal hyps v w made h g = behind_right Equal hyps v w made h g
  behind_both Less hyps v w made h g = behind_right Less hyps v w made h g
  behind_both LessEqual hyps v w made h g = behind_right LessEqual hyps v w made h g
  behind_both Greater hyps v w made h g = behind_right Greater hyps v w made h g
  behind_both GreaterEqual hyps v w made h g = behind_right GreaterEqual hyps v w made h g

  mutual
    pub walk_begins : (e : Expr N) (vars : Vars) (hyps : List Term) (n : ℕ) → Begins hyps (W e vars hyps n).hyps
    walk_begins (NullExpr k) vars hyps n = begins_same hyps
    walk_begins (BoolExpr k b) vars hyps n = begins_same hyps
    walk_begins (IntExpr k z) vars hyps n = begins_same hyps
    walk_begins (VarExpr k x) vars hyps n = begins_same hyps
    walk_begins (CallExpr k f args) vars hyps n =
        let u = All args vars hyps n in
        begins_on hyps u.hyps (call_walk s routines f (s.place k) u.terms u.hyps u.count).hyps (all_begin args vars hyps n) (callee_begins (callee routines f) (s.place k) u.terms u.hyps u.count)
    walk_begins (NegExpr k a) vars hyps n =
        let v = W a vars hyps n in
        let gs = goals_of kind.Range (range_goals (op.negated v.term)) ∷ [] in
        begins_on hyps v.hyps (assume_goals v.hyps gs) (walk_begins a vars hyps n) (begins_goals v.hyps gs)
    walk_begins (NotExpr k a) vars hyps n = walk_begins a vars hyps n
    walk_begins (LenExpr k a) vars hyps n = walk_begins a vars hyps n
    walk_begins (BinaryExpr k o a b) vars hyps n =
        let v = W a vars hyps n in let w = W b vars (right_hyps o v.term v.hyps) v.count in
        behind_both o hyps v w (op.operated o (s.is_number (node a) && s.is_number (node b)) v.term w.term) (walk_begins a vars hyps n) (walk_begins b vars (right_hyps o v.term v.hyps) v.count)
    walk_begins (IsExpr k a t) vars hyps n = walk_begins a vars hyps n
    walk_begins (IndexExpr k a b) vars hyps n =
        let v = W a vars hyps n in let w = W b vars v.hyps v.count in
        let gs = goals_of kind.Index (index_goals v.term w.term) ∷ [] in
        begins_on hyps w.hyps (assume_goals w.hyps gs) (begins_on hyps v.hyps w.hyps (walk_begins a vars hyps n) (walk_begins b vars v.hyps v.count)) (begins_goals w.hyps gs)
    walk_begins (FieldExpr k a name) vars hyps n = walk_begins a vars hyps n
    walk_begins (ListExpr k items) vars hyps n = all_begin items vars hyps n
    walk_begins (RepeatExpr k a b) vars hyps n =
        let v = W a vars hyps n in let w = W b vars v.hyps v.count in
        let gs = goals_of kind.Length (length_goals w.term) ∷ [] in
        begins_on hyps w.hyps (assume_goals w.hyps gs) (begins_on hyps v.hyps w.hyps (walk_begins a vars hyps n) (walk_begins b vars v.hyps v.count)) (begins_goals w.hyps gs)
    walk_begins (RecordExpr k fields) vars hyps n = fields_begin fields vars hyps n
    walk_begins (QuantExpr k all x a b body) vars hyps n =
        let v = W a vars hyps n in let w = W b vars v.hyps v.count in begins_on hyps v.hyps w.hyps (walk_begins a vars hyps n) (walk_begins b vars v.hyps v.count)

    pub all_begin : (es : Exprs N) (vars : Vars) (hyps : List Term) (n : ℕ) → Begins hyps (All es vars hyps n).hyps
    all_begin NoExprs vars hyps n = begins_same hyps
    all_begin (MoreExprs e es) vars hyps n = let v = W e vars hyps n in begins_on hyps v.hyps (All es vars v.hyps v.count).hyps (walk_begins e vars hyps n) (all_begin es vars v.hyps v.count)

    pub fields_begin : (fs : Fields N) (vars : Vars) (hyps : List Term) (n : ℕ) → Begins hyps (AllFields fs vars hyps n).hyps
    fields_begin NoFields vars hyps n = begins_same hyps
    fields_begin (MoreFields name e fs) vars hyps n = let v = W e vars hyps n in begins_on hyps v.hyps (AllFields fs vars v.hyps v.count).hyps (walk_begins e vars hyps n) (fields_begin fs vars v.hyps v.count)

pub hypotheses_grow : HypothesesGrow
hypotheses_grow p words e vars hyps n = walk_begins p.setting p.routines words e vars hyps n
