-- Hypotheses only come to those that stand, in blocks too.
use Rattle.std.proofs.Common.{◌≡◌, ℕ, zero, suc, List, [], ◌∷◌, ◌++◌, map, Bool, true, false, ◌&&◌, if◌then◌else◌, Option, Some, None, refl}
use Rattle.wy_core.specs.Types.{Ty}
use Rattle.wy_core.specs.CoreTree.{Expr, Step, IndexStep, FieldStep, Stmt, DeclareStmt, AssignStmt, CallStmt, ReturnStmt, AssertStmt, BreakStmt, ContinueStmt, SkipStmt, FailStmt, IfStmt, WhileStmt, Stmts, NoStmts, MoreStmts}
use Rattle.wy_term.specs.declared.cond.CondKind.TheVariants as kind
use Rattle.wy_term.specs.Term.{Term}
use Rattle.wy_sound_terms.specs.wy_sem.Evaluation.{callee}
use Rattle.wy_sound_terms.specs.wy_sem.Statements.{type_at}
use Rattle.wy_sound_terms.specs.wy_vc_spec.Making.{val_name, field, denied, formula, equal}
use Rattle.wy_sound_terms.specs.wy_vc_spec.Operations as op
use Rattle.wy_sound_terms.specs.wy_vc_spec.Variables.{Vars, put}
use Rattle.wy_sound_terms.specs.wy_vc_spec.Values.{word_at, variable}
use Rattle.wy_sound_terms.specs.wy_vc_spec.Owed.{Owed, assume, assume_all}
use Rattle.wy_sound_terms.specs.wy_vc_spec.Clauses.{owe_clauses, in_type, assume_in_type, owe_member}
use Rattle.wy_sound_terms.specs.wy_vc_spec.Calls.{call_walk}
use Rattle.wy_sound_terms.specs.wy_vc_spec.Walks.{walk_all, index_goals}
use Rattle.wy_sound_terms.specs.wy_vc_spec.Spots.{Spot, Flow, go_on, and_then, as_list, is_set, with_hyps}
use Rattle.wy_sound_terms.specs.wy_vc_spec.Large.{Named, is_large, named}
use Rattle.wy_sound_terms.specs.wy_vc_spec.Joins.{path_of, most_vars, join_vars, one_of, meet}
use Rattle.wy_sound_terms.specs.wy_vc_spec.Assigned.{assigns_in, bound_in}
use Rattle.wy_sound_terms.specs.wy_vc_spec.Statements.{Body, words, expr, given, along, rebuilt, Renewed, renew_vars, renew_types, renew, walk_clauses, keep, where_true, where_false, exec, exec_all}
use Rattle.wy_sound_walks.specs.depends.Begins.{Begins, EndBegins, AllBegin, FlowBegins, HypothesesGrowInBlocks}
use Rattle.wy_sound_walks.proofs.depends_lemmas.BeginLemmas.{begins_same, begins_on, begins_assumed, begins_all, owed_begin, member_begins, callee_begins, walk_begins, all_begin}

module _ (base : List Term) where
  -- ---- where paths come together

  assumed_on : (hyps : List Term) (f : Term) → Begins base hyps → Begins base (assume hyps f)
  assumed_on hyps f h = begins_on base hyps (assume hyps f) h (begins_assumed hyps f)

  both_begin : (ps qs : List Spot) → AllBegin base ps → AllBegin base qs → AllBegin base (ps ++ qs)
  both_begin [] qs h g = g
  both_begin (p ∷ ps) qs h g = (h.0, both_begin ps qs h.1 g)

  list_begins : (o : Option Spot) → EndBegins base o → AllBegin base (as_list o)
  list_begins None h = tt
  list_begins (Some p) h = (h, tt)

  meet_begins : (ws : List (List ℕ)) (hyps : List Term) (ps : List Spot) (n : ℕ) → Begins base hyps → AllBegin base ps → EndBegins base (meet ws hyps ps n).ends
  meet_begins ws hyps [] n h g = tt
  meet_begins ws hyps (p ∷ []) n h g = g.0
  meet_begins ws hyps (p ∷ q ∷ ps) n h g =
      let paths = map (path_of hyps) (p ∷ q ∷ ps) in assumed_on hyps (one_of (join_vars ws paths 0 (most_vars paths) n).paths) h

  on_begins : (o : Option Spot) (n : ℕ) (next : Spot → ℕ → Flow) → EndBegins base o → ((p : Spot) (m : ℕ) → Begins base p.hyps → FlowBegins base (next p m)) → FlowBegins base (go_on o n next)
  on_begins None n next h g = (tt, tt)
  on_begins (Some p) n next h g = g p n h

  then_begins : (first : Flow) (next : Spot → ℕ → Flow) → FlowBegins base first → ((p : Spot) (m : ℕ) → Begins base p.hyps → FlowBegins base (next p m)) → FlowBegins base (and_then first next)
  then_begins first next h g =
      let rest = go_on first.ends first.count next in let k = on_begins first.ends first.count next h.0 g in (k.0, both_begin first.breaks rest.breaks h.1 k.1)

  -- ---- values that come into variables

  picked_name : (b : Bool) (v w : Named) → Begins base v.hyps → Begins base w.hyps → Begins base (if b then v else w).hyps
  picked_name true v w h g = h
  picked_name false v w h g = g

  named_begins : (ws : List (List ℕ)) (x : ℕ) (v : Term) (hyps : List Term) (n : ℕ) → Begins base hyps → Begins base (named ws x v hyps n).hyps
  named_begins ws x v hyps n h =
      let name = val_name (word_at ws x) n in
      picked_name (is_large v) (record { count = suc n; hyps = assume hyps (equal name v); term = name }) (record { count = n; hyps = hyps; term = v }) (assumed_on hyps (equal name v) h) h

  module _ {N : Type 0} (b : Body N) where
    expr_begins : (e : Expr N) (vars : Vars) (hyps : List Term) (n : ℕ) → Begins base hyps → Begins base (expr b e vars hyps n).hyps
    expr_begins e vars hyps n h = begins_on base hyps (expr b e vars hyps n).hyps h (walk_begins b.program.setting b.program.routines (words b) e vars hyps n)

    owing_begins : (e : List (Expr N)) (at : ℕ) (vars : Vars) (hyps : List Term) (n : ℕ) → Begins base hyps → Begins base (owe_clauses b.program.setting kind.Entry at (words b) e vars hyps n).hyps
    owing_begins es at vars hyps n h =
        begins_on base hyps (owe_clauses b.program.setting kind.Entry at (words b) es vars hyps n).hyps h (owed_begin b.program.setting b.program.routines (words b) kind.Entry at (words b) es vars hyps n)

    given_begins : (at : ℕ) (t : Ty) (x : ℕ) (v : Term) (owed : List Owed) (p : Spot) (hyps : List Term) (n : ℕ) → Begins base hyps → FlowBegins base (given b at t x v owed p hyps n)
    given_begins at t x v owed p hyps n h =
        let member = owe_member b.program.setting at t v hyps n in
        (named_begins (words b) x v member.hyps member.count (begins_on base hyps member.hyps h (member_begins b.program.setting b.program.routines (words b) at t v hyps n)), tt)

    along_begins : (path : List (Step N)) (whole : Term) (vars : Vars) (hyps : List Term) (n : ℕ) → Begins base hyps → Begins base (along b path whole vars hyps n).hyps
    along_begins [] whole vars hyps n h = h
    along_begins (IndexStep at e ∷ steps) whole vars hyps n h =
        let i = expr b e vars hyps n in
        let hs = assume_all i.hyps (index_goals whole i.term) in
        along_begins steps (op.element whole i.term) vars hs i.count (begins_on base i.hyps hs (expr_begins e vars hyps n h) (begins_all i.hyps (index_goals whole i.term)))
    along_begins (FieldStep at name ∷ steps) whole vars hyps n h = along_begins steps (field name whole) vars hyps n h

    -- ---- the head of a loop

    picked_spot : (c : Bool) (r q : Renewed) → Begins base r.spot.hyps → Begins base q.spot.hyps → Begins base (if c then r else q).spot.hyps
    picked_spot true r q h g = h
    picked_spot false r q h g = g

    vars_begin : (body : Stmts N) (x j : ℕ) (p : Spot) (n : ℕ) → Begins base p.hyps → Begins base (renew_vars (words b) body x j p n).spot.hyps
    vars_begin body x zero p n h = h
    vars_begin body x (suc j) p n h =
        let q : Spot = record p { vars = put p.vars x (val_name (word_at (words b) x) n) } in
        picked_spot (assigns_in x body) (renew_vars (words b) body (suc x) j q (suc n)) (renew_vars (words b) body (suc x) j p n) (vars_begin body (suc x) j q (suc n) h) (vars_begin body (suc x) j p n h)

    types_begin : (body : Stmts N) (x j : ℕ) (p : Spot) (n : ℕ) → Begins base p.hyps → Begins base (renew_types b body x j p n).spot.hyps
    types_begin body x zero p n h = h
    types_begin body x (suc j) p n h =
        let f = assume_in_type b.program.setting (type_at b.types x) (variable p.vars x) p.hyps n in
        picked_spot (assigns_in x body && is_set p.set x) (renew_types b body (suc x) j (with_hyps f.hyps p) f.count) (renew_types b body (suc x) j p n)
        (types_begin body (suc x) j (with_hyps f.hyps p) f.count (assumed_on p.hyps (in_type b.program.setting (type_at b.types x) (variable p.vars x) n).term h)) (types_begin body (suc x) j p n h)

    renewed_begins : (body : Stmts N) (p : Spot) (n : ℕ) → Begins base p.hyps → Begins base (renew b body p n).spot.hyps
    renewed_begins body p n h =
        let r = renew_vars (words b) body 0 (bound_in body) p n in types_begin body 0 (bound_in body) r.spot r.count (vars_begin body 0 (bound_in body) p n h)

    clauses_begin : (es : List (Expr N)) (vars : Vars) (hyps : List Term) (n : ℕ) → Begins base hyps → Begins base (walk_clauses b.program (words b) es vars hyps n).hyps
    clauses_begin [] vars hyps n h = h
    clauses_begin (e ∷ es) vars hyps n h =
        let v = expr b e vars hyps n in clauses_begin es vars (assume v.hyps (formula v.term)) v.count (assumed_on v.hyps (formula v.term) (expr_begins e vars hyps n h))

    -- ---- statements

    mutual
      statement_begins : (around : List (Expr N)) (st : Stmt N) (p : Spot) (n : ℕ) → Begins base p.hyps → FlowBegins base (exec b around st p n)
      statement_begins around (DeclareStmt at t x None) p n h = (h, tt)
      statement_begins around (DeclareStmt at t x (Some e)) p n h = let v = expr b e p.vars p.hyps n in given_begins at t x v.term v.owed p v.hyps v.count (expr_begins e p.vars p.hyps n h)
      statement_begins around (AssignStmt at x path e) p n h =
          let parts = along b path (variable p.vars x) p.vars p.hyps n in
          let v = expr b e p.vars parts.hyps parts.count in
          given_begins at (type_at b.types x) x (rebuilt parts.parts v.term) (parts.owed ++ v.owed) p v.hyps v.count (expr_begins e p.vars parts.hyps parts.count (along_begins path (variable p.vars x) p.vars p.hyps n h))
      statement_begins around (CallStmt at f es) p n h =
          let s = b.program.setting in let rs = b.program.routines in
          let vs = walk_all s (call_walk s rs) (words b) es p.vars p.hyps n in
          let v = call_walk s rs f at vs.terms vs.hyps vs.count in
          (begins_on base vs.hyps v.hyps (begins_on base p.hyps vs.hyps h (all_begin s rs (words b) es p.vars p.hyps n)) (callee_begins s rs (words b) (callee rs f) at vs.terms vs.hyps vs.count), tt)
      statement_begins around (ReturnStmt at None) p n h = (tt, tt)
      statement_begins around (ReturnStmt at (Some e)) p n h = (tt, tt)
      statement_begins around (AssertStmt at e) p n h =
          let v = expr b e p.vars p.hyps n in (assumed_on v.hyps (formula v.term) (expr_begins e p.vars p.hyps n h), tt)
      statement_begins around (BreakStmt at) p n h = (tt, (h, tt))
      statement_begins around (ContinueStmt at) p n h = (tt, tt)
      statement_begins around (SkipStmt at) p n h = (h, tt)
      statement_begins around (FailStmt at) p n h = (tt, tt)
      statement_begins around (IfStmt at e first second) p n h =
          let v = expr b e p.vars p.hyps n in
          let g = expr_begins e p.vars p.hyps n h in
          let one = exec_all b around first (where_true v p) v.count in
          let two = exec_all b around second (where_false v p) one.count in
          let k = block_begins around first (where_true v p) v.count (assumed_on v.hyps (formula v.term) g) in
          let l = block_begins around second (where_false v p) one.count (assumed_on v.hyps (denied (formula v.term)) g) in
          (meet_begins (words b) v.hyps (as_list one.ends ++ as_list two.ends) two.count g (both_begin (as_list one.ends) (as_list two.ends) (list_begins one.ends k.0) (list_begins two.ends l.0)), both_begin one.breaks two.breaks k.1 l.1)
      statement_begins around (WhileStmt at e invariants body) p n h =
          let entry = owe_clauses b.program.setting kind.Entry at (words b) invariants p.vars p.hyps n in
          let head = renew b body (with_hyps entry.hyps p) entry.count in
          let inside = walk_clauses b.program (words b) invariants head.spot.vars head.spot.hyps head.count in
          let v = expr b e head.spot.vars inside.hyps inside.count in
          let turn = exec_all b invariants body (where_true v head.spot) v.count in
          let g1 = owing_begins invariants at p.vars p.hyps n h in
          let g2 = renewed_begins body (with_hyps entry.hyps p) entry.count g1 in
          let g3 = clauses_begin invariants head.spot.vars head.spot.hyps head.count g2 in
          let g = expr_begins e head.spot.vars inside.hyps inside.count g3 in
          let k = block_begins invariants body (where_true v head.spot) v.count (assumed_on v.hyps (formula v.term) g) in
          (meet_begins (words b) v.hyps (where_false v head.spot ∷ turn.breaks) (keep b at invariants turn.ends turn.count).count g (assumed_on v.hyps (denied (formula v.term)) g, k.1), tt)

      block_begins : (around : List (Expr N)) (block : Stmts N) (p : Spot) (n : ℕ) → Begins base p.hyps → FlowBegins base (exec_all b around block p n)
      block_begins around NoStmts p n h = (h, tt)
      block_begins around (MoreStmts first rest) p n h =
          then_begins (exec b around first p n) (exec_all b around rest) (statement_begins around first p n h) (λ q m g. block_begins around rest q m g)

pub blocks_begin : HypothesesGrowInBlocks
blocks_begin b around block p n = block_begins p.hyps b around block p n (begins_same p.hyps)
