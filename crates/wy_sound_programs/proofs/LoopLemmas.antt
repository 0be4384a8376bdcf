-- The walks of `if` and of loops: the points behind them.
use Rattle.std.proofs.Common.{◌≡◌, ℕ, ◌+◌, ◌≤◌, List, ◌∷◌, ◌++◌, Bool, true, sym, ap, ◌∙◌, arith}
use Rattle.wy_core.specs.CoreTree.{Expr, Stmts}
use Rattle.wy_term.specs.declared.cond.CondKind.TheVariants as kind
use Rattle.wy_vc_spec.specs.Sizes.{exprs_in, exprs_in_list}
use Rattle.wy_vc_spec.specs.Numbered.{Node, numbered, numbered_list, numbered_block}
use Rattle.wy_vc_spec.specs.Owed.{assume}
use Rattle.wy_vc_spec.specs.Making.{formula, denied}
use Rattle.wy_vc_spec.specs.Clauses.{Passed, owe_clauses}
use Rattle.wy_vc_spec.specs.Calls.{Walked}
use Rattle.wy_vc_spec.specs.Spots.{Spot, Flow, is_set, as_list, with_hyps}
use Rattle.wy_vc_spec.specs.Joins.{Met, meet}
use Rattle.wy_vc_spec.specs.Statements.{Body, words, expr, Renewed, renew, walk_clauses, keep, where_true, where_false, exec_all}
use Rattle.wy_sound_statements.proofs.wy_sound_walks_proofs.expressions_lemmas.CallGrows.{clauses_grow}
use Rattle.wy_sound_statements.proofs.wy_sound_walks_proofs.points_lemmas.SetLemmas.{Point, FlowPoints, point_more, point_if_more, points_more, both_points, list_points, with_point}
use Rattle.wy_sound_statements.proofs.wy_sound_walks_proofs.points_lemmas.StayLemmas.{expr_up, walked_up, keep_up, head_renewed, block_points}
use Rattle.wy_sound_programs.proofs.MarkLemmas.{MeetsIf, meets, head_set}

module _ (b : Body Node) where
  -- the points behind both blocks of an `if` meet
  pub if_meets : (around : List (Expr Node)) (v : Walked) (first second : Stmts Node) (q : Spot) (m : ℕ) → m ≤ v.count → Point m q
      → let one = exec_all b around first (where_true v q) v.count in
      let two = exec_all b around second (where_false v q) one.count in
      MeetsIf (as_list one.ends ++ as_list two.ends) (meet (words b) v.hyps (as_list one.ends ++ as_list two.ends) two.count).ends
  if_meets around v first second q m up pt =
      let here = point_more m v.count q up pt in
      let one = exec_all b around first (where_true v q) v.count in
      let k = block_points b around first (where_true v q) v.count (with_point v.count q (assume v.hyps (formula v.term)) here) in
      let two = exec_all b around second (where_false v q) one.count in
      let l = block_points b around second (where_false v q) one.count (with_point one.count q (assume v.hyps (denied (formula v.term))) (point_more v.count one.count q k.grows here)) in
      meets (words b) v.hyps (as_list one.ends ++ as_list two.ends) two.count two.count
      (both_points two.count (as_list one.ends) (as_list two.ends) (list_points two.count one.ends (point_if_more one.count two.count one.ends l.grows k.ends)) (list_points two.count two.ends l.ends))

module _ (b : Body Node) (at : ℕ) (e : Expr ℕ) (invariants : List (Expr ℕ)) (body : Stmts ℕ) (k : ℕ) (q : Spot) (m : ℕ) where
  abbrev pub clauses : List (Expr Node)
  clauses = numbered_list invariants (k + exprs_in e)

  abbrev pub inner : Stmts Node
  inner = numbered_block body (k + exprs_in e + exprs_in_list invariants)

  abbrev pub entry : Passed
  entry = owe_clauses b.program.setting kind.Entry at (words b) clauses q.vars q.hyps m

  abbrev pub head : Renewed
  head = renew b inner (with_hyps entry.hyps q) entry.count

  abbrev pub inside : Passed
  inside = walk_clauses b.program (words b) clauses head.spot.vars head.spot.hyps head.count

  abbrev pub test : Walked
  test = expr b (numbered e k) head.spot.vars inside.hyps inside.count

  abbrev pub turn : Flow
  turn = exec_all b clauses inner (where_true test head.spot) test.count

  abbrev pub kept : Passed
  kept = keep b at clauses turn.ends turn.count

  abbrev pub paths : List Spot
  paths = where_false test head.spot ∷ turn.breaks

  abbrev pub met : Met
  met = meet (words b) test.hyps paths kept.count

  -- the marks at the head are those before the loop
  pub head_marks : head.spot.set ≡ q.set
  head_marks = head_set b inner (with_hyps entry.hyps q) entry.count

  pub from_head : (x : ℕ) → is_set head.spot.set x ≡ true → is_set q.set x ≡ true
  from_head x on = sym (ap (λ (l : List Bool). is_set l x) head_marks) ∙ on

  module _ (pt : Point m q) where
    pub head_point : Point test.count head.spot
    head_point =
        let g1 = clauses_grow b.program.setting kind.Entry at (words b) clauses q.vars q.hyps m in
        let r = head_renewed b inner (with_hyps entry.hyps q) entry.count (with_point entry.count q entry.hyps (point_more m entry.count q g1 pt)) in
        let g3 = walked_up b clauses head.spot.vars head.spot.hyps head.count in
        let g4 = expr_up b (numbered e k) head.spot.vars inside.hyps inside.count in
        point_more head.count test.count head.spot (omega (arith, g3, g4)) r.point

    pub body_point : Point test.count (where_true test head.spot)
    body_point = with_point test.count head.spot (assume test.hyps (formula test.term)) head_point

    pub loop_meets : MeetsIf paths met.ends
    loop_meets =
        let t : FlowPoints test.count turn = block_points b clauses inner (where_true test head.spot) test.count body_point in
        let g5 = t.grows in
        let g6 = keep_up b at clauses turn.ends turn.count in
        meets (words b) test.hyps paths kept.count kept.count
        (with_point kept.count head.spot (assume test.hyps (denied (formula test.term))) (point_more test.count kept.count head.spot (omega (arith, g5, g6)) head_point), points_more turn.count kept.count turn.breaks g6 t.breaks)
