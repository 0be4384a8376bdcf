-- From a point, what is behind statements is one too.
use Rattle.std.proofs.Common.{◌≡◌, ℕ, zero, suc, ◌≤◌, List, [], ◌∷◌, ◌++◌, Bool, true, false, ◌&&◌, if◌then◌else◌, ℤ, Option, Some, None, refl, ap, ap₂, sym, ◌∙◌, arith}
use Rattle.wy_value.specs.Datum.{Datum}
use Rattle.wy_core.specs.Types.{Ty}
use Rattle.wy_core.specs.CoreTree as tree
use Rattle.wy_core.specs.CoreTree.{Expr, Step, IndexStep, FieldStep, Stmt, DeclareStmt, AssignStmt, CallStmt, ReturnStmt, AssertStmt, BreakStmt, ContinueStmt, SkipStmt, FailStmt, IfStmt, WhileStmt, Stmts, NoStmts, MoreStmts}
use Rattle.wy_term.specs.declared.cond.CondKind.TheVariants as kind
use Rattle.wy_term.specs.Term.{Term}
use Rattle.wy_term.specs.Sorts.{val_sort}
use Rattle.wy_term.specs.Data as shapes
use Rattle.wy_sound_terms.specs.wy_sem.Statements.{type_at}
use Rattle.wy_sound_terms.specs.wy_vc_spec.Making.{num, val_name, field, denied, formula, equal}
use Rattle.wy_sound_terms.specs.wy_vc_spec.Operations as op
use Rattle.wy_sound_terms.specs.wy_vc_spec.Variables.{Vars, put}
use Rattle.wy_sound_terms.specs.wy_vc_spec.Values.{word_at, variable}
use Rattle.wy_sound_terms.specs.wy_vc_spec.Owed.{Owed, assume, assume_all}
use Rattle.wy_sound_terms.specs.wy_vc_spec.Clauses.{owe_clauses, assume_in_type, owe_member}
use Rattle.wy_sound_terms.specs.wy_vc_spec.Calls.{call_walk}
use Rattle.wy_sound_terms.specs.wy_vc_spec.Walks.{walk_all, index_goals}
use Rattle.wy_sound_terms.specs.wy_vc_spec.Spots.{Spot, Flow, as_list, is_set, with_hyps}
use Rattle.wy_sound_terms.specs.wy_vc_spec.Large.{Named, is_large, named}
use Rattle.wy_sound_terms.specs.wy_vc_spec.Joins.{meet}
use Rattle.wy_sound_terms.specs.wy_vc_spec.Assigned.{assigns_in, bound_in}
use Rattle.wy_sound_terms.specs.wy_vc_spec.Statements.{Body, words, expr, given, Part, ElementOf, FieldOf, along, rebuilt, owe_result, with_result, leave, Renewed, renew_vars, renew_types, renew, walk_clauses, keep, where_true, where_false, exec, exec_all}
use Rattle.wy_sound_terms.proofs.formed_lemmas.MakingLemmas.{IsOf, val_name_sorted, field_sorted, element_sorted, with_element_sorted, with_field_sorted}
use Rattle.wy_sound_terms.proofs.formed_lemmas.ValueLemmas.{AreData, variable_sorted}
use Rattle.wy_sound_terms.proofs.operations_lemmas.MadeLemmas.{number, datum, update_means, set_field_means}
use Rattle.wy_sound_walks.proofs.expressions_lemmas.CallGrows.{in_type_grows, member_grows, clauses_grow, call_grows}
use Rattle.wy_sound_walks.proofs.expressions_lemmas.LawLemmas.{are_data}
use Rattle.wy_sound_walks.specs.joins.Points.{Depends}
use Rattle.wy_sound_walks.specs.depends.Depends.{AllDepend}
use Rattle.wy_sound_walks.proofs.depends_lemmas.MadeLemmas.{depends_more, num_rests, field_depends, element_depends}
use Rattle.wy_sound_walks.proofs.depends_lemmas.ValueLemmas.{all_more, variable_depends}
use Rattle.wy_sound_walks.proofs.depends_lemmas.WalkLemmas.{code_depends, code_sorted, code_grows, codes_grow}
use Rattle.wy_sound_walks.specs.points.Stay.{PointsStayPoints}
use Rattle.wy_sound_walks.proofs.points_lemmas.SetLemmas.{Point, PointIf, AllPoints, FlowPoints, point_more, point_if_more, points_more, both_points, list_points, with_point, assign_point, declare_point, put_point, then_points, depend_from, stays}
use Rattle.wy_sound_walks.proofs.points_lemmas.MeetLemmas.{meet_points}

-- ---- values that come into variables

-- a Val term that depends on names below the count
pub record Rests (n : ℕ) (t : Term) : Type 0 where
  pub is : IsOf val_sort t
  pub depends : Depends n t

pub rests_on : (n m : ℕ) (t : Term) → n ≤ m → Rests n t → Rests m t
rests_on n m t le h = record { is = h.is; depends = depends_more n m t le h.depends }

name_rests : (word : List ℕ) (n : ℕ) → Rests (suc n) (val_name word n)
name_rests word n = record { is = val_name_sorted word n; depends = λ v w a. a.datum_of word n (omega arith) }

record NamedRests (n : ℕ) (v : Named) : Type 0 where
  pub grows : n ≤ v.count
  pub rests : Rests v.count v.term

picked_named : (n : ℕ) (b : Bool) (v w : Named) → NamedRests n v → NamedRests n w → NamedRests n (if b then v else w)
picked_named n true v w h g = h
picked_named n false v w h g = g

named_rests : (ws : List (List ℕ)) (x : ℕ) (v : Term) (hyps : List Term) (n : ℕ) → Rests n v → NamedRests n (named ws x v hyps n)
named_rests ws x v hyps n h =
    let name = val_name (word_at ws x) n in
    picked_named n (is_large v) (record { count = suc n; hyps = assume hyps (equal name v); term = name }) (record { count = n; hyps = hyps; term = v })
    (record { grows = omega arith; rests = name_rests (word_at ws x) n }) (record { grows = omega arith; rests = h })

-- ---- parts along a path

update_depends : (n : ℕ) (v i w : Term) → Depends n v → Depends n i → Depends n w → Depends n (op.with_element v i w)
update_depends n v i w h g k x y a =
    update_means y v (num i) w
    ∙ ap₂ (λ (d : Datum) (z : ℤ). shapes.with_element d z (datum y w)) (h x y a) (num_rests n i g x y a)
    ∙ ap (λ (d : Datum). shapes.with_element (datum x v) (number x (num i)) d) (k x y a)
    ∙ sym (update_means x v (num i) w)

set_field_depends : (n : ℕ) (name : List ℕ) (v w : Term) → Depends n v → Depends n w → Depends n (op.with_field name v w)
set_field_depends n name v w h k x y a =
    set_field_means y name v w ∙ ap₂ (λ (d e : Datum). shapes.with_field d name e) (h x y a) (k x y a) ∙ sym (set_field_means x name v w)

abbrev pub PartsRest : ℕ → List Part → Type 0
PartsRest n [] = Unit {0}
PartsRest n (ElementOf whole i ∷ parts) = Rests n whole × Rests n i × PartsRest n parts
PartsRest n (FieldOf name whole ∷ parts) = Rests n whole × PartsRest n parts

pub parts_on : (n m : ℕ) (parts : List Part) → n ≤ m → PartsRest n parts → PartsRest m parts
parts_on n m [] le h = tt
parts_on n m (ElementOf whole i ∷ parts) le h = (rests_on n m whole le h.0, rests_on n m i le h.1, parts_on n m parts le h.2)
parts_on n m (FieldOf name whole ∷ parts) le h = (rests_on n m whole le h.0, parts_on n m parts le h.1)

pub rebuilt_rests : (n : ℕ) (parts : List Part) (v : Term) → PartsRest n parts → Rests n v → Rests n (rebuilt parts v)
rebuilt_rests n [] v h g = g
rebuilt_rests n (ElementOf whole i ∷ parts) v h g =
    let k = rebuilt_rests n parts v h.2 g in
    record { is = with_element_sorted h.0.is h.1.is k.is; depends = update_depends n whole i (rebuilt parts v) h.0.depends h.1.depends k.depends }
rebuilt_rests n (FieldOf name whole ∷ parts) v h g =
    let k = rebuilt_rests n parts v h.1 g in
    record { is = with_field_sorted name h.0.is k.is; depends = set_field_depends n name whole (rebuilt parts v) h.0.depends k.depends }

-- ---- the head of a loop

pub record RenewedPoint (n : ℕ) (r : Renewed) : Type 0 where
  pub grows : n ≤ r.count
  pub point : Point r.count r.spot

picked_renewed : (n : ℕ) (c : Bool) (r q : Renewed) → RenewedPoint n r → RenewedPoint n q → RenewedPoint n (if c then r else q)
picked_renewed n true r q h g = h
picked_renewed n false r q h g = g

later_renewed : (n m : ℕ) (r : Renewed) → n ≤ m → RenewedPoint m r → RenewedPoint n r
later_renewed n m r le h = let up = h.grows in record { grows = omega (arith, le, up); point = h.point }

module _ {N : Type 0} (b : Body N) where
  pub expr_up : (e : Expr N) (vars : Vars) (hyps : List Term) (n : ℕ) → n ≤ (expr b e vars hyps n).count
  expr_up e vars hyps n = code_grows b.program (words b) e vars hyps n

  pub expr_rests : (e : Expr N) (vars : Vars) (hyps : List Term) (n : ℕ) → AreData vars → AllDepend n vars → Rests (expr b e vars hyps n).count (expr b e vars hyps n).term
  expr_rests e vars hyps n are h = record { is = code_sorted b.program (words b) e vars hyps n are; depends = code_depends b.program (words b) e vars hyps n are h }

  given_points : (start at : ℕ) (t : Ty) (x : ℕ) (v : Term) (owed : List Owed) (p : Spot) (hyps : List Term) (n : ℕ) → start ≤ n → Rests n v → Point start p → FlowPoints start (given b at t x v owed p hyps n)
  given_points start at t x v owed p hyps n le h g =
      let member = owe_member b.program.setting at t v hyps n in
      let up = member_grows b.program.setting at t v hyps n in
      let name = named (words b) x v member.hyps member.count in
      let k = named_rests (words b) x v member.hyps member.count (rests_on n member.count v up h) in
      let on = k.grows in
      record {
        grows = omega (arith, le, up, on);
        ends = assign_point name.count (with_hyps name.hyps p) x name.term k.rests.is k.rests.depends (with_point name.count p name.hyps (point_more start name.count p (omega (arith, le, up, on)) g));
        breaks = tt;
      }

  pub along_up : (path : List (Step N)) (whole : Term) (vars : Vars) (hyps : List Term) (n : ℕ) → n ≤ (along b path whole vars hyps n).count
  along_up [] whole vars hyps n = omega arith
  along_up (IndexStep at e ∷ steps) whole vars hyps n =
      let i = expr b e vars hyps n in
      let up = expr_up e vars hyps n in
      let on = along_up steps (op.element whole i.term) vars (assume_all i.hyps (index_goals whole i.term)) i.count in omega (arith, up, on)
  along_up (FieldStep at name ∷ steps) whole vars hyps n = along_up steps (field name whole) vars hyps n

  pub along_rests : (path : List (Step N)) (whole : Term) (vars : Vars) (hyps : List Term) (n : ℕ) → AreData vars → AllDepend n vars → Rests n whole → PartsRest (along b path whole vars hyps n).count (along b path whole vars hyps n).parts
  along_rests [] whole vars hyps n are h g = tt
  along_rests (IndexStep at e ∷ steps) whole vars hyps n are h g =
      let i = expr b e vars hyps n in
      let up = expr_up e vars hyps n in
      let hs = assume_all i.hyps (index_goals whole i.term) in
      let rest = along b steps (op.element whole i.term) vars hs i.count in
      let on = along_up steps (op.element whole i.term) vars hs i.count in
      let whole2 = rests_on n i.count whole up g in
      let index = expr_rests e vars hyps n are h in
      let part : Rests i.count (op.element whole i.term) = record { is = element_sorted whole2.is index.is; depends = element_depends i.count whole i.term whole2.depends index.depends } in
      (rests_on i.count rest.count whole on whole2, rests_on i.count rest.count i.term on index, along_rests steps (op.element whole i.term) vars hs i.count are (all_more n i.count vars up h) part)
  along_rests (FieldStep at name ∷ steps) whole vars hyps n are h g = (
    rests_on n (along b steps (field name whole) vars hyps n).count whole (along_up steps (field name whole) vars hyps n) g,
    along_rests steps (field name whole) vars hyps n are h (record { is = field_sorted name g.is; depends = field_depends n name whole g.depends }),
  )

  -- ---- results and clauses

  pub result_up : (at : ℕ) (out : Option tree.Output) (v : Option Term) (hyps : List Term) (n : ℕ) → n ≤ (owe_result b at out v hyps n).count
  result_up at None v hyps n = omega arith
  result_up at (Some out) None hyps n = omega arith
  result_up at (Some out) (Some v) hyps n = member_grows b.program.setting at out.ty v hyps n

  pub leave_up : (at : ℕ) (v : Option Term) (hyps : List Term) (n : ℕ) → n ≤ (leave b at v hyps n).count
  leave_up at v hyps n =
      let member = owe_result b at b.routine.result v hyps n in
      let up = result_up at b.routine.result v hyps n in
      let on = clauses_grow b.program.setting kind.Ensures at (words b) b.routine.postconditions (with_result b.routine.result v b.entry) member.hyps member.count in omega (arith, up, on)

  pub keep_up : (at : ℕ) (es : List (Expr N)) (o : Option Spot) (n : ℕ) → n ≤ (keep b at es o n).count
  keep_up at es None n = omega arith
  keep_up at es (Some p) n = clauses_grow b.program.setting kind.Keep at (words b) es p.vars p.hyps n

  pub walked_up : (es : List (Expr N)) (vars : Vars) (hyps : List Term) (n : ℕ) → n ≤ (walk_clauses b.program (words b) es vars hyps n).count
  walked_up [] vars hyps n = omega arith
  walked_up (e ∷ es) vars hyps n =
      let v = expr b e vars hyps n in
      let up = expr_up e vars hyps n in
      let on = walked_up es vars (assume v.hyps (formula v.term)) v.count in omega (arith, up, on)

  vars_renewed : (body : Stmts N) (x j : ℕ) (p : Spot) (n : ℕ) → Point n p → RenewedPoint n (renew_vars (words b) body x j p n)
  vars_renewed body x zero p n h = record { grows = omega arith; point = h }
  vars_renewed body x (suc j) p n h =
      let word = word_at (words b) x in
      let name = val_name word n in
      let q : Spot = record p { vars = put p.vars x name } in
      let r = name_rests word n in
      let new : Point (suc n) q = put_point (suc n) p x name r.is r.depends (point_more n (suc n) p (omega arith) h) in
      picked_renewed n (assigns_in x body) (renew_vars (words b) body (suc x) j q (suc n)) (renew_vars (words b) body (suc x) j p n)
      (later_renewed n (suc n) (renew_vars (words b) body (suc x) j q (suc n)) (omega arith) (vars_renewed body (suc x) j q (suc n) new)) (vars_renewed body (suc x) j p n h)

  types_renewed : (body : Stmts N) (x j : ℕ) (p : Spot) (n : ℕ) → Point n p → RenewedPoint n (renew_types b body x j p n)
  types_renewed body x zero p n h = record { grows = omega arith; point = h }
  types_renewed body x (suc j) p n h =
      let f = assume_in_type b.program.setting (type_at b.types x) (variable p.vars x) p.hyps n in
      let up = in_type_grows b.program.setting (type_at b.types x) (variable p.vars x) n in
      let rest = renew_types b body (suc x) j (with_hyps f.hyps p) f.count in
      picked_renewed n (assigns_in x body && is_set p.set x) rest (renew_types b body (suc x) j p n)
      (later_renewed n f.count rest up (types_renewed body (suc x) j (with_hyps f.hyps p) f.count (with_point f.count p f.hyps (point_more n f.count p up h)))) (types_renewed body (suc x) j p n h)

  pub head_renewed : (body : Stmts N) (p : Spot) (n : ℕ) → Point n p → RenewedPoint n (renew b body p n)
  head_renewed body p n h =
      let r = renew_vars (words b) body 0 (bound_in body) p n in
      let k = vars_renewed body 0 (bound_in body) p n h in
      later_renewed n r.count (renew_types b body 0 (bound_in body) r.spot r.count) k.grows (types_renewed body 0 (bound_in body) r.spot r.count k.point)

  -- ---- statements

  mutual
    pub statement_points : (around : List (Expr N)) (st : Stmt N) (p : Spot) (n : ℕ) → Point n p → FlowPoints n (exec b around st p n)
    statement_points around (DeclareStmt at t x None) p n h =
        let r = name_rests (word_at (words b) x) n in
        record { grows = omega arith; ends = declare_point (suc n) p x (val_name (word_at (words b) x) n) r.is r.depends (point_more n (suc n) p (omega arith) h); breaks = tt }
    statement_points around (DeclareStmt at t x (Some e)) p n h =
        let v = expr b e p.vars p.hyps n in given_points n at t x v.term v.owed p v.hyps v.count (expr_up e p.vars p.hyps n) (expr_rests e p.vars p.hyps n h.are h.depends) h
    statement_points around (AssignStmt at x path e) p n h =
        let parts = along b path (variable p.vars x) p.vars p.hyps n in
        let up = along_up path (variable p.vars x) p.vars p.hyps n in
        let v = expr b e p.vars parts.hyps parts.count in
        let on = expr_up e p.vars parts.hyps parts.count in
        let whole : Rests n (variable p.vars x) = record { is = variable_sorted h.are x; depends = variable_depends n p.vars x h.depends } in
        let value = expr_rests e p.vars parts.hyps parts.count h.are (all_more n parts.count p.vars up h.depends) in
        let along' = parts_on parts.count v.count parts.parts on (along_rests path (variable p.vars x) p.vars p.hyps n h.are h.depends whole) in
        given_points n at (type_at b.types x) x (rebuilt parts.parts v.term) (parts.owed ++ v.owed) p v.hyps v.count (omega (arith, up, on)) (rebuilt_rests v.count parts.parts v.term along' value) h
    statement_points around (CallStmt at f es) p n h =
        let s = b.program.setting in let rs = b.program.routines in
        let vs = walk_all s (call_walk s rs) (words b) es p.vars p.hyps n in
        let v = call_walk s rs f at vs.terms vs.hyps vs.count in
        let up = codes_grow b.program (words b) es p.vars p.hyps n in
        let on = call_grows s rs f at vs.terms vs.hyps vs.count in
        record { grows = omega (arith, up, on); ends = with_point v.count p v.hyps (point_more n v.count p (omega (arith, up, on)) h); breaks = tt }
    statement_points around (ReturnStmt at None) p n h = record { grows = leave_up at None p.hyps n; ends = tt; breaks = tt }
    statement_points around (ReturnStmt at (Some e)) p n h =
        let v = expr b e p.vars p.hyps n in
        let up = expr_up e p.vars p.hyps n in
        let on = leave_up at (Some v.term) v.hyps v.count in record { grows = omega (arith, up, on); ends = tt; breaks = tt }
    statement_points around (AssertStmt at e) p n h =
        let v = expr b e p.vars p.hyps n in
        let up = expr_up e p.vars p.hyps n in
        record { grows = up; ends = with_point v.count p (assume v.hyps (formula v.term)) (point_more n v.count p up h); breaks = tt }
    statement_points around (BreakStmt at) p n h = record { grows = omega arith; ends = tt; breaks = (h, tt) }
    statement_points around (ContinueStmt at) p n h = record { grows = keep_up at around (Some p) n; ends = tt; breaks = tt }
    statement_points around (SkipStmt at) p n h = record { grows = omega arith; ends = h; breaks = tt }
    statement_points around (FailStmt at) p n h = record { grows = omega arith; ends = tt; breaks = tt }
    statement_points around (IfStmt at e first second) p n h =
        let v = expr b e p.vars p.hyps n in
        let up = expr_up e p.vars p.hyps n in
        let here = point_more n v.count p up h in
        let one = exec_all b around first (where_true v p) v.count in
        let k = block_points around first (where_true v p) v.count (with_point v.count p (assume v.hyps (formula v.term)) here) in
        let k1 = k.grows in
        let two = exec_all b around second (where_false v p) one.count in
        let l = block_points around second (where_false v p) one.count (with_point one.count p (assume v.hyps (denied (formula v.term))) (point_more v.count one.count p k1 here)) in
        let l1 = l.grows in
        let m = meet_points (words b) v.hyps (as_list one.ends ++ as_list two.ends) two.count
        (both_points two.count (as_list one.ends) (as_list two.ends) (list_points two.count one.ends (point_if_more one.count two.count one.ends l1 k.ends)) (list_points two.count two.ends l.ends)) in
        let m1 = m.grows in
        let last = (meet (words b) v.hyps (as_list one.ends ++ as_list two.ends) two.count).count in
        record {
          grows = omega (arith, up, k1, l1, m1);
          ends = m.ends;
          breaks = points_more two.count last (one.breaks ++ two.breaks) m1 (both_points two.count one.breaks two.breaks (points_more one.count two.count one.breaks l1 k.breaks) l.breaks);
        }
    statement_points around (WhileStmt at e invariants body) p n h =
        let entry = owe_clauses b.program.setting kind.Entry at (words b) invariants p.vars p.hyps n in
        let g1 = clauses_grow b.program.setting kind.Entry at (words b) invariants p.vars p.hyps n in
        let head = renew b body (with_hyps entry.hyps p) entry.count in
        let r = head_renewed body (with_hyps entry.hyps p) entry.count (with_point entry.count p entry.hyps (point_more n entry.count p g1 h)) in
        let g2 = r.grows in
        let inside = walk_clauses b.program (words b) invariants head.spot.vars head.spot.hyps head.count in
        let g3 = walked_up invariants head.spot.vars head.spot.hyps head.count in
        let v = expr b e head.spot.vars inside.hyps inside.count in
        let g4 = expr_up e head.spot.vars inside.hyps inside.count in
        let here = point_more head.count v.count head.spot (omega (arith, g3, g4)) r.point in
        let turn = exec_all b invariants body (where_true v head.spot) v.count in
        let t = block_points invariants body (where_true v head.spot) v.count (with_point v.count head.spot (assume v.hyps (formula v.term)) here) in
        let g5 = t.grows in
        let kept = keep b at invariants turn.ends turn.count in
        let g6 = keep_up at invariants turn.ends turn.count in
        let out = with_point kept.count head.spot (assume v.hyps (denied (formula v.term))) (point_more v.count kept.count head.spot (omega (arith, g5, g6)) here) in
        let m = meet_points (words b) v.hyps (where_false v head.spot ∷ turn.breaks) kept.count (out, points_more turn.count kept.count turn.breaks g6 t.breaks) in
        let g7 = m.grows in
        record { grows = omega (arith, g1, g2, g3, g4, g5, g6, g7); ends = m.ends; breaks = tt }

    pub block_points : (around : List (Expr N)) (block : Stmts N) (p : Spot) (n : ℕ) → Point n p → FlowPoints n (exec_all b around block p n)
    block_points around NoStmts p n h = record { grows = omega arith; ends = h; breaks = tt }
    block_points around (MoreStmts first rest) p n h =
        then_points n (exec b around first p n) (exec_all b around rest) (statement_points around first p n h) (λ q m g. block_points around rest q m g)

pub points_stay : PointsStayPoints
points_stay b around block p n are is =
    stays n (exec_all b around block p n) (block_points b around block p n (record { are = are_data p.vars are; depends = depend_from n p.vars is.depends; marked = is.marked }))
