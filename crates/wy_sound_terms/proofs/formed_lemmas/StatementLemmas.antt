-- What statements owe has formulas alone.
use Rattle.std.proofs.Common.{ℕ, zero, suc, List, [], ◌∷◌, ◌&&◌, Option, Some, None}
use Rattle.wy_vc_spec.specs.wy_core.Types.{Ty}
use Rattle.wy_vc_spec.specs.wy_core.CoreTree as tree
use Rattle.wy_vc_spec.specs.wy_core.CoreTree.{Expr, Step, IndexStep, FieldStep, Stmt, DeclareStmt, AssignStmt, CallStmt, ReturnStmt, AssertStmt, BreakStmt, ContinueStmt, SkipStmt, FailStmt, IfStmt, WhileStmt, Stmts, NoStmts, MoreStmts}
use Rattle.wy_lemmas.proofs.Choices.{pick}
use Rattle.wy_term_subst.specs.wy_term.declared.cond.CondKind.TheVariants as kind
use Rattle.wy_term_subst.specs.wy_term.Term.{Term}
use Rattle.wy_term_subst.specs.wy_term.Sorts.{val_sort, formula_sort}
use Rattle.wy_vc_spec.specs.wy_sem.Statements.{type_at}
use Rattle.wy_vc_spec.specs.Making.{formula}
use Rattle.wy_vc_spec.specs.Variables.{Vars}
use Rattle.wy_vc_spec.specs.Values.{valued, word_at, variable}
use Rattle.wy_vc_spec.specs.Owed.{Owed, assume}
use Rattle.wy_vc_spec.specs.Clauses.{Passed, passed, one_goal, owe_clauses, assume_in_type, owe_member}
use Rattle.wy_vc_spec.specs.Calls.{Walked, call_walk}
use Rattle.wy_vc_spec.specs.Walks.{Program, walk_all, walk_expr}
use Rattle.wy_vc_spec.specs.Spots.{Spot, Flow, goes, stops, go_on, followed, and_then, as_list, is_set, with_hyps}
use Rattle.wy_vc_spec.specs.Assigned.{assigns_in, bound_in}
use Rattle.wy_vc_spec.specs.Statements.{Body, words, expr, given, Part, ElementOf, FieldOf, Along, along, rebuilt, assigned, owe_result, with_result, leave, Renewed, renew_vars, renew_types, renew, walk_clauses, keep, where_true, where_false, behind_if, behind_loop, exec, exec_all}
use Rattle.wy_sound_terms.proofs.formed_lemmas.MakingLemmas.{IsOf, AllOf, none, more, val_name_sorted, field_sorted, falsehood_sorted, denied_sorted, formula_sorted, element_sorted, with_element_sorted, with_field_sorted}
use Rattle.wy_sound_terms.proofs.formed_lemmas.ValueLemmas.{AreData, put_data, put_if_data, variable_sorted}
use Rattle.wy_sound_terms.proofs.formed_lemmas.WalkLemmas.{assumed, all_assumed, AreOwed, nothing, owed_before, goals_owed, IsPassed, passes, after_passed, goals_passed, clauses_owed, type_assumed, member_owed, IsWalked, calls_walked, index_formulas, expressions_walked, code_walked}
use Rattle.wy_sound_terms.proofs.formed_lemmas.JoinLemmas.{IsKnown, AreKnown, no_spots, also_spot, IsKnownIf, nowhere, somewhere, known_before, named_value, met_known}

-- ---- how statements end

pub record IsFlow (f : Flow) : Type 0 where
  pub ends : IsKnownIf f.ends
  pub breaks : AreKnown f.breaks
  pub owed : AreOwed f.owed

goes_known : (n : ℕ) {p : Spot} {cs : List Owed} → IsKnown p → AreOwed cs → IsFlow (goes n p cs)
goes_known n h cs = record { ends = somewhere h; breaks = no_spots; owed = cs }

stops_known : (n : ℕ) {cs : List Owed} → AreOwed cs → IsFlow (stops n cs)
stops_known n cs = record { ends = nowhere; breaks = no_spots; owed = cs }

goes_on : {o : Option Spot} (n : ℕ) {next : Spot → ℕ → Flow} → IsKnownIf o → ((p : Spot) (n : ℕ) → IsKnown p → IsFlow (next p n)) → IsFlow (go_on o n next)
goes_on n nowhere then = stops_known n nothing
goes_on n (somewhere {p = p} h) then = then p n h

followed_known : {first rest : Flow} → IsFlow first → IsFlow rest → IsFlow (followed first rest)
followed_known h g = record { ends = g.ends; breaks = known_before h.breaks g.breaks; owed = owed_before h.owed g.owed }

then_known : (first : Flow) {next : Spot → ℕ → Flow} → IsFlow first → ((p : Spot) (n : ℕ) → IsKnown p → IsFlow (next p n)) → IsFlow (and_then first next)
then_known first h then = followed_known h (goes_on first.count h.ends then)

ends_known : {o : Option Spot} → IsKnownIf o → AreKnown (as_list o)
ends_known nowhere = no_spots
ends_known (somewhere h) = also_spot h no_spots

pub record IsRenewed (r : Renewed) : Type 0 where
  pub spot : IsKnown r.spot

data AreParts : List Part → Type 0 where
  no_more : AreParts []
  element_of : {whole i : Term} {parts : List Part} → IsOf val_sort whole → IsOf val_sort i → AreParts parts → AreParts (ElementOf whole i ∷ parts)
  field_of : {name : List ℕ} {whole : Term} {parts : List Part} → IsOf val_sort whole → AreParts parts → AreParts (FieldOf name whole ∷ parts)

record IsAlong (a : Along) : Type 0 where
  pub hyps : AllOf formula_sort a.hyps
  pub parts : AreParts a.parts
  pub owed : AreOwed a.owed

pub data IsGiven : Option Term → Type 0 where
  no_value : IsGiven None
  a_value : {v : Term} → IsOf val_sort v → IsGiven (Some v)

module _ {N : Type 0} (b : Body N) (entry : AreData b.entry) where
  abbrev at_expr : (e : Expr N) (n : ℕ) {vars : Vars} {hyps : List Term} → AreData vars → AllOf formula_sort hyps → IsWalked (expr b e vars hyps n)
  at_expr e n d all = code_walked b.program (words b) e n d all

  -- ---- values that come into variables

  given_known : (at : ℕ) (t : Ty) (x : ℕ) (n : ℕ) {v : Term} {cs : List Owed} {p : Spot} {hyps : List Term} → IsOf val_sort v → AreOwed cs → IsKnown p → AllOf formula_sort hyps → IsFlow (given b at t x v cs p hyps n)
  given_known at t x n {v} {cs} {p} {hyps} h goals known all =
      let member = member_owed b.program.setting at t n h all in
      let name = named_value (words b) x (owe_member b.program.setting at t v hyps n).count h member.hyps in
      record { ends = somewhere (record { hyps = name.hyps; vars = put_data x known.vars name.value }); breaks = no_spots; owed = owed_before goals member.owed }

  along_known : (path : List (Step N)) (n : ℕ) {whole : Term} {vars : Vars} {hyps : List Term} → IsOf val_sort whole → AreData vars → AllOf formula_sort hyps → IsAlong (along b path whole vars hyps n)
  along_known [] n h d all = record { hyps = all; parts = no_more; owed = nothing }
  along_known (IndexStep at e ∷ steps) n {whole} {vars} {hyps} h d all =
      let i = at_expr e n d all in
      let rest = along_known steps (expr b e vars hyps n).count (element_sorted h i.value) d (all_assumed i.hyps (index_formulas h i.value)) in
      record { hyps = rest.hyps; parts = element_of h i.value rest.parts; owed = owed_before i.owed (owed_before (goals_owed kind.Index at i.hyps (index_formulas h i.value)) rest.owed) }
  along_known (FieldStep at name ∷ steps) n h d all =
      let rest = along_known steps n (field_sorted name h) d all in record { hyps = rest.hyps; parts = field_of h rest.parts; owed = rest.owed }

  rebuilt_sorted : {parts : List Part} {v : Term} → AreParts parts → IsOf val_sort v → IsOf val_sort (rebuilt parts v)
  rebuilt_sorted no_more h = h
  rebuilt_sorted (element_of whole i parts) h = with_element_sorted whole i (rebuilt_sorted parts h)
  rebuilt_sorted (field_of {name = name} whole parts) h = with_field_sorted name whole (rebuilt_sorted parts h)

  assigned_known : (at x : ℕ) (path : List (Step N)) (e : Expr N) (n : ℕ) {p : Spot} → IsKnown p → IsFlow (assigned b at x path e p n)
  assigned_known at x path e n {p} known =
      let parts = along_known path n (variable_sorted known.vars x) known.vars known.hyps in
      let rest = along b path (variable p.vars x) p.vars p.hyps n in
      let v = at_expr e rest.count known.vars parts.hyps in
      given_known at (type_at b.types x) x (expr b e p.vars rest.hyps rest.count).count (rebuilt_sorted parts.parts v.value) (owed_before parts.owed v.owed) known v.hyps

  -- ---- results

  result_owed : (at : ℕ) (out : Option tree.Output) (n : ℕ) {v : Option Term} {hyps : List Term} → IsGiven v → AllOf formula_sort hyps → IsPassed (owe_result b at out v hyps n)
  result_owed at None n v all = passes n all
  result_owed at (Some out) n no_value all = passes n all
  result_owed at (Some out) n (a_value h) all = member_owed b.program.setting at out.ty n h all

  result_data : (out : Option tree.Output) {v : Option Term} {vars : Vars} → IsGiven v → AreData vars → AreData (with_result out v vars)
  result_data None v d = d
  result_data (Some out) no_value d = d
  result_data (Some out) (a_value h) d = put_if_data out.variable d h

  pub leave_owed : (at n : ℕ) {v : Option Term} {hyps : List Term} → IsGiven v → AllOf formula_sort hyps → IsPassed (leave b at v hyps n)
  leave_owed at n {v} {hyps} h all =
      let member = result_owed at b.routine.result n h all in
      after_passed member (clauses_owed b.program.setting kind.Ensures at (words b) b.routine.postconditions (owe_result b at b.routine.result v hyps n).count (result_data b.routine.result h entry) member.hyps)

  -- ---- the head of a loop

  renewed_vars : (names : List (List ℕ)) (body : tree.Stmts N) (x j n : ℕ) {p : Spot} → IsKnown p → IsRenewed (renew_vars names body x j p n)
  renewed_vars names body x zero n known = record { spot = known }
  renewed_vars names body x (suc j) n {p} known =
      pick IsRenewed (assigns_in x body) (renewed_vars names body (suc x) j (suc n) (record { hyps = known.hyps; vars = put_data x known.vars (val_name_sorted (word_at names x) n) })) (renewed_vars names body (suc x) j n known)

  renewed_types : (body : tree.Stmts N) (x j n : ℕ) {p : Spot} → IsKnown p → IsRenewed (renew_types b body x j p n)
  renewed_types body x zero n known = record { spot = known }
  renewed_types body x (suc j) n {p} known =
      let f = assume_in_type b.program.setting (type_at b.types x) (variable p.vars x) p.hyps n in
      let typed = type_assumed b.program.setting (type_at b.types x) n (variable_sorted known.vars x) known.hyps in
      pick IsRenewed (assigns_in x body && is_set p.set x) (renewed_types body (suc x) j f.count (record { hyps = typed.hyps; vars = known.vars })) (renewed_types body (suc x) j n known)

  renewed_known : (body : tree.Stmts N) (n : ℕ) {p : Spot} → IsKnown p → IsRenewed (renew b body p n)
  renewed_known body n {p} known =
      let r = renewed_vars (words b) body 0 (bound_in body) n known in renewed_types body 0 (bound_in body) (renew_vars (words b) body 0 (bound_in body) p n).count r.spot

  invariants_kept : (at : ℕ) (es : List (Expr N)) (n : ℕ) {o : Option Spot} → IsKnownIf o → IsPassed (keep b at es o n)
  invariants_kept at es n nowhere = passes n none
  invariants_kept at es n (somewhere known) = clauses_owed b.program.setting kind.Keep at (words b) es n known.vars known.hyps

  -- ---- statements

  true_known : {v : Walked} {p : Spot} → IsWalked v → IsKnown p → IsKnown (where_true v p)
  true_known h known = record { hyps = assumed h.hyps (formula_sorted h.value); vars = known.vars }

  false_known : {v : Walked} {p : Spot} → IsWalked v → IsKnown p → IsKnown (where_false v p)
  false_known h known = record { hyps = assumed h.hyps (denied_sorted (formula_sorted h.value)); vars = known.vars }

  if_known : (names : List (List ℕ)) {v : Walked} {first second : Flow} → IsWalked v → IsFlow first → IsFlow second → IsFlow (behind_if names v first second)
  if_known names {v} {first} {second} h f g = record {
    ends = met_known names second.count h.hyps (known_before (ends_known f.ends) (ends_known g.ends));
    breaks = known_before f.breaks g.breaks;
    owed = owed_before h.owed (owed_before f.owed g.owed);
  }

  loop_known : (names : List (List ℕ)) {first inside : Passed} {v : Walked} {head : Spot} {turn : Flow} {kept : Passed} → IsPassed first → IsPassed inside → IsWalked v → IsKnown head → IsFlow turn → IsPassed kept → IsFlow (behind_loop names first inside v head turn kept)
  loop_known names {kept = kept} a i h known t k = record {
    ends = met_known names kept.count h.hyps (also_spot (false_known h known) t.breaks);
    breaks = no_spots;
    owed = owed_before a.owed (owed_before i.owed (owed_before h.owed (owed_before t.owed k.owed)));
  }

pub walked_clauses : {N : Type 0} (p : Program N) (names : List (List ℕ)) (es : List (Expr N)) (n : ℕ) {vars : Vars} {hyps : List Term} → AreData vars → AllOf formula_sort hyps → IsPassed (walk_clauses p names es vars hyps n)
walked_clauses p names [] n d all = passes n all
walked_clauses p names (e ∷ es) n {vars} {hyps} d all =
    let v = code_walked p names e n d all in
    let behind = assumed v.hyps (formula_sorted v.value) in
    let w = walk_expr p names e vars hyps n in
    after_passed {first = passed w.count (assume w.hyps (formula w.term)) w.owed} (record { hyps = behind; owed = v.owed }) (walked_clauses p names es w.count d behind)

module _ {N : Type 0} (b : Body N) (entry : AreData b.entry) where
  mutual
    pub statement_known : (around : List (Expr N)) (st : Stmt N) (n : ℕ) {p : Spot} → IsKnown p → IsFlow (exec b around st p n)
    statement_known around (DeclareStmt at t x None) n known =
        goes_known (suc n) (record { hyps = known.hyps; vars = put_data x known.vars (val_name_sorted (word_at (words b) x) n) }) nothing
    statement_known around (DeclareStmt at t x (Some e)) n {p} known =
        let v = code_walked b.program (words b) e n known.vars known.hyps in given_known b entry at t x (expr b e p.vars p.hyps n).count v.value v.owed known v.hyps
    statement_known around (AssignStmt at x path e) n known = assigned_known b entry at x path e n known
    statement_known around (CallStmt at f es) n {p} known =
        let calls = calls_walked b.program.setting b.program.routines in
        let vs = expressions_walked b.program.setting (call_walk b.program.setting b.program.routines) calls (words b) es n known.vars known.hyps in
        let args = walk_all b.program.setting (call_walk b.program.setting b.program.routines) (words b) es p.vars p.hyps n in
        let v = calls.called f at args.count vs.terms vs.hyps in
        goes_known (call_walk b.program.setting b.program.routines f at args.terms args.hyps args.count).count (record { hyps = v.hyps; vars = known.vars }) (owed_before vs.owed v.owed)
    statement_known around (ReturnStmt at None) n {p} known =
        let out = leave_owed b entry at n no_value known.hyps in stops_known (leave b at None p.hyps n).count out.owed
    statement_known around (ReturnStmt at (Some e)) n {p} known =
        let v = code_walked b.program (words b) e n known.vars known.hyps in
        let w = expr b e p.vars p.hyps n in
        let out = leave_owed b entry at w.count (a_value v.value) v.hyps in stops_known (leave b at (Some w.term) w.hyps w.count).count (owed_before v.owed out.owed)
    statement_known around (AssertStmt at e) n {p} known =
        let v = code_walked b.program (words b) e n known.vars known.hyps in
        let w = expr b e p.vars p.hyps n in
        let held = goals_passed kind.Assert at (one_goal (valued w.count (formula w.term))) (more (formula_sorted v.value) none) v.hyps in
        goes_known w.count (record { hyps = held.hyps; vars = known.vars }) (owed_before v.owed held.owed)
    statement_known around (BreakStmt at) n known = record { ends = nowhere; breaks = also_spot known no_spots; owed = nothing }
    statement_known around (ContinueStmt at) n {p} known =
        let kept = invariants_kept b entry at around n (somewhere known) in stops_known (keep b at around (Some p) n).count kept.owed
    statement_known around (SkipStmt at) n known = goes_known n known nothing
    statement_known around (FailStmt at) n known = stops_known n (goals_owed kind.Fail at known.hyps (more falsehood_sorted none))
    statement_known around (IfStmt at e first second) n {p} known =
        let w = expr b e p.vars p.hyps n in
        let v = code_walked b.program (words b) e n known.vars known.hyps in
        let one = block_known around first w.count (true_known b entry v known) in
        if_known b entry (words b) v one (block_known around second (exec_all b around first (where_true w p) w.count).count (false_known b entry v known))
    statement_known around (WhileStmt at e invariants body) n {p} known =
        let first = owe_clauses b.program.setting kind.Entry at (words b) invariants p.vars p.hyps n in
        let a = clauses_owed b.program.setting kind.Entry at (words b) invariants n known.vars known.hyps in
        let head = renew b body (with_hyps first.hyps p) first.count in
        let h = (renewed_known b entry body first.count {p = with_hyps first.hyps p} (record { hyps = a.hyps; vars = known.vars })).spot in
        let inside = walk_clauses b.program (words b) invariants head.spot.vars head.spot.hyps head.count in
        let i = walked_clauses b.program (words b) invariants head.count h.vars h.hyps in
        let w = expr b e head.spot.vars inside.hyps inside.count in
        let v = code_walked b.program (words b) e inside.count h.vars i.hyps in
        let turn = exec_all b invariants body (where_true w head.spot) w.count in
        let t = block_known invariants body w.count (true_known b entry v h) in
        loop_known b entry (words b) {first = first} {inside = inside} {v = w} {head = head.spot} {turn = turn} {kept = keep b at invariants turn.ends turn.count} a i v h t (invariants_kept b entry at invariants turn.count t.ends)

    pub block_known : (around : List (Expr N)) (sts : Stmts N) (n : ℕ) {p : Spot} → IsKnown p → IsFlow (exec_all b around sts p n)
    block_known around NoStmts n known = goes_known n known nothing
    block_known around (MoreStmts first rest) n {p} known = then_known (exec b around first p n) (statement_known around first n known) (λ q m h. block_known around rest m h)
