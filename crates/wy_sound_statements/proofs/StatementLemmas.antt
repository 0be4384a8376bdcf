-- Statements follow their walk.
use Rattle.std.proofs.Common.{◌≡◌, inl, inr, ℕ, zero, suc, ◌≤◌, List, [], ◌∷◌, ◌++◌, Bool, true, false, Option, Some, None, refl, sym, ap, ◌∙◌, subst, arith}
use Rattle.wy_value.specs.Datum.{Datum, Truth}
use Rattle.wy_core.specs.Types.{Ty}
use Rattle.wy_core.specs.CoreTree as tree
use Rattle.wy_core.specs.CoreTree.{Expr, Step, Stmt, DeclareStmt, AssignStmt, CallStmt, ReturnStmt, AssertStmt, BreakStmt, ContinueStmt, SkipStmt, FailStmt, IfStmt, WhileStmt, Stmts, NoStmts, MoreStmts}
use Rattle.wy_term.specs.declared.cond.CondKind.TheVariants as kind
use Rattle.wy_term.specs.Term.{Term}
use Rattle.wy_term.specs.Meaning.{Names}
use Rattle.wy_sound_kinds.specs.wy_sem.Meter.{Meter, Done, Fault, Run, ◌>>=◌, spend, check, choose}
use Rattle.wy_sound_kinds.specs.wy_sem.Operations.{as_truth, needed, Slot, updated}
use Rattle.wy_sound_kinds.specs.wy_sem.Expressions as sem
use Rattle.wy_sound_kinds.specs.wy_sem.Expressions.{Store, slot, put}
use Rattle.wy_sound_kinds.specs.wy_sem.TypeTests.{Test}
use Rattle.wy_sound_kinds.specs.wy_sem.Statements as run
use Rattle.wy_sound_kinds.specs.wy_sem.Statements.{Exit, Went, Broke, Continued, Gave, Frame, type_at}
use Rattle.wy_sound_kinds.specs.wy_sem.Evaluation.{entry_of}
use Rattle.wy_sound_kinds.specs.wy_vc_spec.Making.{val_name, falsehood, denied, formula}
use Rattle.wy_sound_kinds.specs.wy_vc_spec.Numbered.{Node}
use Rattle.wy_sound_kinds.specs.wy_vc_spec.Values.{word_at, variable}
use Rattle.wy_sound_kinds.specs.wy_vc_spec.Owed.{Owed, assume, owe}
use Rattle.wy_sound_kinds.specs.wy_vc_spec.Clauses.{Passed, owe_clauses, owe_member}
use Rattle.wy_sound_kinds.specs.wy_vc_spec.Calls.{Walked, call_walk}
use Rattle.wy_sound_kinds.specs.wy_vc_spec.Walks.{walk_all}
use Rattle.wy_sound_kinds.specs.wy_vc_spec.Spots.{Spot, Flow, is_set, as_list, go_on, followed, with_hyps}
use Rattle.wy_sound_kinds.specs.wy_vc_spec.Joins.{meet}
use Rattle.wy_sound_kinds.specs.wy_vc_spec.Assigned.{assigns_in}
use Rattle.wy_sound_kinds.specs.wy_vc_spec.Statements.{Body, words, expr, along, rebuilt, assigned, leave, renew, walk_clauses, keep, where_true, where_false, behind_if, exec, exec_all}
use Rattle.wy_sound_kinds.proofs.wy_sound_terms_proofs.formed_lemmas.ValueLemmas.{variable_sorted}
use Rattle.wy_sound_kinds.specs.wy_sound_terms.operations.Kinds.{IsTruth}
use Rattle.wy_sound_kinds.proofs.wy_sound_terms_proofs.operations_lemmas.UpdateLemmas.{updates_agree}
use Rattle.wy_sound_kinds.proofs.wy_sound_terms_proofs.operations_lemmas.MadeLemmas.{formula_means, denied_means}
use Rattle.wy_sound_kinds.specs.wy_sound_walks.expressions.Names.{Agree, Known}
use Rattle.wy_sound_kinds.specs.wy_sound_walks.expressions.Truth.{AreTrueBy, Good}
use Rattle.wy_sound_kinds.specs.wy_sound_walks.expressions.Written.{IsWritten}
use Rattle.wy_sound_kinds.specs.wy_sound_walks.expressions.Suits.{Each, Suits}
use Rattle.wy_sound_kinds.specs.wy_sound_walks.expressions.Sound.{Ok}
use Rattle.wy_sound_kinds.proofs.wy_sound_walks_proofs.expressions_lemmas.NameLemmas.{agree_refl, agree_trans, stand_later, right_later}
use Rattle.wy_sound_kinds.proofs.wy_sound_walks_proofs.expressions_lemmas.GoodLemmas.{true_left, true_right, true_after, good_weaken, good_map, good_bind, good_spend}
use Rattle.wy_sound_kinds.proofs.wy_sound_walks_proofs.expressions_lemmas.AssumeLemmas.{assumed_true}
use Rattle.wy_sound_kinds.proofs.wy_sound_walks_proofs.expressions_lemmas.CallGrows.{clauses_grow, call_grows}
use Rattle.wy_sound_kinds.proofs.wy_sound_walks_proofs.expressions_lemmas.LawLemmas.{quiet_right, are_data}
use Rattle.wy_sound_kinds.proofs.wy_sound_walks_proofs.expressions_lemmas.ListLemmas.{OkAll}
use Rattle.wy_sound_kinds.specs.wy_sound_walks.clauses.Clauses.{AllFit, AreSafe, AllPass, AreTrueIfDone}
use Rattle.wy_sound_kinds.proofs.wy_sound_walks_proofs.clauses_lemmas.HoldLemmas.{owed_hold}
use Rattle.wy_sound_kinds.proofs.wy_sound_walks_proofs.clauses_lemmas.WalkedLemmas.{walked_safe, walked_known}
use Rattle.wy_sound_kinds.specs.wy_sound_walks.joins.Points.{At}
use Rattle.wy_sound_kinds.specs.wy_sound_walks.joins.Joins.{AtEnd}
use Rattle.wy_sound_kinds.proofs.wy_sound_walks_proofs.joins_lemmas.JoinLemmas.{joins_sound}
use Rattle.wy_sound_kinds.specs.wy_sound_walks.heads.Heads.{IsTurn}
use Rattle.wy_sound_kinds.proofs.wy_sound_walks_proofs.heads_lemmas.HeadLemmas.{heads_sound}
use Rattle.wy_sound_statements.specs.calls.CallLaws.{Returned, Leaves}
use Rattle.wy_sound_statements.specs.steps.Steps.{Ending}
use Rattle.wy_sound_statements.proofs.steps_lemmas.StepLemmas.{results_leave}
use Rattle.wy_sound_kinds.specs.wy_sound_walks.depends.Begins.{AllBegin}
use Rattle.wy_sound_kinds.proofs.wy_sound_walks_proofs.depends_lemmas.BeginLemmas.{begins_assumed}
use Rattle.wy_sound_kinds.proofs.wy_sound_walks_proofs.depends_lemmas.BlockLemmas.{blocks_begin}
use Rattle.wy_sound_kinds.proofs.wy_sound_walks_proofs.depends_lemmas.ValueLemmas.{all_more, variable_depends}
use Rattle.wy_sound_kinds.proofs.wy_sound_walks_proofs.depends_lemmas.WalkLemmas.{codes_grow}
use Rattle.wy_sound_kinds.proofs.wy_sound_walks_proofs.points_lemmas.SetLemmas.{Point, PointIf, AllPoints, FlowPoints, point_more, point_if_more, points_more, both_points, list_points, with_point, depend_from}
use Rattle.wy_sound_kinds.proofs.wy_sound_walks_proofs.points_lemmas.MeetLemmas.{meet_points}
use Rattle.wy_sound_kinds.proofs.wy_sound_walks_proofs.points_lemmas.StayLemmas.{Rests as TermRests, RenewedPoint, parts_on, rebuilt_rests, expr_rests, along_rests, along_up, expr_up, walked_up, keep_up, head_renewed, statement_points, block_points}
use Rattle.wy_sound_kinds.specs.frames.Frames.{unsets_in, Keeps}
use Rattle.wy_sound_kinds.proofs.frames_lemmas.FrameLemmas.{statements_keep}
use Rattle.wy_sound_statements.specs.StatementSuits.{IsFree, PathSuits, UpdateSuits, IsTested, Leads, AtTurns, KeepFits, Behind, StmtSuits, BlockSuits}
use Rattle.wy_sound_statements.specs.Ends.{AreDeclared, AtSome, frame_at, Exits, Rests, AreHandled, GiveValues, code_kinds, BlocksAreSound}
use Rattle.wy_sound_statements.proofs.PlaceLemmas.{at_more, some_left, some_right, end_some, are_points, list_begins, both_begin, end_begins_less, all_begin_less, val_terms, are_values}
use Rattle.wy_sound_statements.proofs.StoreLemmas.{declared_unset, declare_at, clauses_go, owed_known, passed_known}
use Rattle.wy_sound_statements.proofs.PathLemmas.{OkPath, path_right}
use Rattle.wy_sound_statements.proofs.CodeLemmas.{truth_end, code_right, codes_right, Tested, test_right, comes_right}

no_false : {X : Type 0} → false ≡ true → X
no_false e = absurd cc

-- the statement left the block
abbrev Left : Exit → Type 0
Left (Went s) = ⊥
Left (Broke s) = Unit {0}
Left (Continued at s) = Unit {0}
Left (Gave v) = Unit {0}

-- the one or the other, by what is known of each
if_chosen : (C : Type 0) (P : Exit → Type 0) (T : Bool → Type 0) (first second : Run Exit) (c : Bool) (i : Meter) → T c → (T true → Good C (first i) P) → (T false → Good C (second i) P) → Good C (choose c first second i) P
if_chosen C P T first second true i x on off = on x
if_chosen C P T first second false i x on off = off x

module _ (w : sem.Setting Node) (b : Body Node) (members : ℕ → Datum → Bool) (owed : Ty → Datum → Test) (vs : List Datum) (takes calls : ℕ → List Datum → Bool) (n : ℕ) (names : Names) (rests : Rests w b members owed vs n names)
    (taken : AreHandled w b members takes) (called : AreHandled w b members calls) (gives : GiveValues w takes) where
  abbrev fr : Frame Node
  fr = frame_at b owed vs

  abbrev X : List (Expr Node) → Flow → Exit → Type 0
  X around f = Exits w b members vs n names around f

  abbrev Suit : List (Expr Node) → Stmt Node → Spot → ℕ → Store → Type 0
  Suit around st p m s = StmtSuits (code_kinds w b members takes) fr b members (λ f us. calls f us ≡ true) around st p m s

  abbrev SuitAll : List (Expr Node) → Stmts Node → Spot → ℕ → Store → Type 0
  SuitAll around st p m s = BlockSuits (code_kinds w b members takes) fr b members (λ f us. calls f us ≡ true) around st p m s

  -- a statement or a block that is sound from each store at a point
  abbrev SoundFrom : List (Expr Node) → Stmts Node → Type 0
  SoundFrom around block = (p : Spot) (m : ℕ) (s : Store) (k : Meter) → n ≤ m → Point m p → At n names m p s → AreDeclared b.types members s → SuitAll around block p m s
      → Good (AreTrueBy members (exec_all b around block p m).owed) (run.exec_all w fr block s k) (X around (exec_all b around block p m))

  right_at : (m : ℕ) (p : Spot) (s : Store) → (h : At n names m p s) → h.later.is_member ≡ members
  right_at m p s h = right_later members n names h.later rests.right h.agree

  -- behind an expression that calls what it calls
  behind_at : (m l : ℕ) (p : Spot) (s : Store) (hyps : List Term) (later : Names) → n ≤ m → m ≤ l → (h : At n names m p s) → Agree m h.later later → Known l later hyps → At n names l (with_hyps hyps p) s
  behind_at m l p s hyps later le up h a known = record {
    later = later;
    agree = agree_trans n m names h.later later le h.agree a;
    known = known;
    stand = stand_later m l h.later later p.vars (is_set p.set) s up a h.stand;
  }

  -- where the test was true, and where it was false
  true_at_test : (m : ℕ) (p : Spot) (s : Store) (v : Walked) → n ≤ m → m ≤ v.count → (h : At n names m p s) → Ok false m h.later v.count v.hyps v.term (Truth true) → At n names v.count (where_true v p) s
  true_at_test m p s v le up h x =
      behind_at m v.count p s (assume v.hyps (formula v.term)) x.later le up h x.goes (λ u a. assumed_true u v.hyps (formula v.term) (x.known u a) (formula_means u v.term true (x.means u a)))

  false_at_test : (m : ℕ) (p : Spot) (s : Store) (v : Walked) → n ≤ m → m ≤ v.count → (h : At n names m p s) → Ok false m h.later v.count v.hyps v.term (Truth false) → At n names v.count (where_false v p) s
  false_at_test m p s v le up h x =
      behind_at m v.count p s (assume v.hyps (denied (formula v.term))) x.later le up h x.goes
      (λ u a. assumed_true u v.hyps (denied (formula v.term)) (x.known u a) (rw (denied_means u (formula v.term), formula_means u v.term false (x.means u a)) refl))

  ending : (m : ℕ) (later : Names) → n ≤ m → Agree n names later → Ending w b members vs m later
  ending m later le a = record {
    right = right_later members n names later rests.right a;
    terms = rests.entry;
    stand = stand_later n m names later b.entry _ (entry_of b.routine vs) le a rests.stand;
  }

  -- ---- results

  return_nothing : (around : List (Expr Node)) (at : ℕ) (p : Spot) (m : ℕ) (s : Store) (k : Meter) → n ≤ m → At n names m p s → b.routine.result ≡ None
      → Good (AreTrueBy members (leave b at None p.hyps m).owed) (run.leave w fr at b.routine.result None k) (X around (exec b around (ReturnStmt at None) p m))
  return_nothing around at p m s k le h is =
      let A = AreTrueBy members (leave b at None p.hyps m).owed in
      let P : Exit → Type 0 = X around (exec b around (ReturnStmt at None) p m) in
      let go : Good A (run.leave w fr at None None k) (λ x. (x ≡ Gave None) × Leaves w b.program.setting members b.routine vs None None) =
      results_leave.nothing w owed b members vs at at m p.hyps h.later k rests.told is (rests.nothing_fits is) (rests.nothing_safe is) (ending m h.later le h.agree) h.known in
      subst (λ (o : Option tree.Output). Good A (run.leave w fr at o None k) P) (sym is)
      (good_map A (run.leave w fr at None None k) (λ x. (x ≡ Gave None) × Leaves w b.program.setting members b.routine vs None None) P go
      (λ x l e g. subst P (sym g.0) (subst (λ (o : Option tree.Output). Leaves w b.program.setting members b.routine vs o None) (sym is) g.1)))

  return_value : (around : List (Expr Node)) (at : ℕ) (f : Flow) (v : Walked) (m : ℕ) (later : Names) (d : Datum) (k : Meter) (out : tree.Output) → b.routine.result ≡ Some out → n ≤ m → m ≤ v.count → Agree n names later
      → Ok false m later v.count v.hyps v.term d → IsFree b members out.ty d
      → Good (AreTrueBy members (leave b at (Some v.term) v.hyps v.count).owed) (run.leave w fr at b.routine.result (Some d) k) (X around f)
  return_value around at f v m later d k out is le up a x free =
      let A = AreTrueBy members (leave b at (Some v.term) v.hyps v.count).owed in
      let P : Exit → Type 0 = X around f in
      let there : Agree n names x.later = agree_trans n m names later x.later le a x.goes in
      let go : Good A (run.leave w fr at (Some out) (Some d) k) (λ y. (y ≡ Gave (Some d)) × Leaves w b.program.setting members b.routine vs (Some out) (Some d)) =
      results_leave.value w owed b members vs out at at v.count v.term v.hyps x.later d k rests.told rests.checks is (rests.result_written out is) free (λ q. rests.value_fits out d is free.0 q) (λ q. rests.value_safe out d is free.0 q)
      (ending v.count x.later (omega (arith, le, up)) there) x.is x.means x.known in
      subst (λ (o : Option tree.Output). Good A (run.leave w fr at o (Some d) k) P) (sym is)
      (good_map A (run.leave w fr at (Some out) (Some d) k) (λ y. (y ≡ Gave (Some d)) × Leaves w b.program.setting members b.routine vs (Some out) (Some d)) P go
      (λ y l e g. subst P (sym g.0) (subst (λ (o : Option tree.Output). Leaves w b.program.setting members b.routine vs o (Some d)) (sym is) g.1)))

  -- ---- `assert`

  quiet_agree : (i : ℕ) (u t : Names) → t ≡ u → Agree i u t
  quiet_agree i u t q = subst (λ (y : Names). Agree i u y) (sym q) (agree_refl i u)

  asserted : (at : ℕ) (p : Spot) (m : ℕ) (s : Store) (v : Walked) (c : Bool) (k : Meter) (A : Type 0) (P : Exit → Type 0) → n ≤ m → m ≤ v.count → (h : At n names m p s)
      → (A → AreTrueBy members (owe kind.Assert at v.hyps (formula v.term ∷ []))) → Ok true m h.later v.count v.hyps v.term (Truth c)
      → (At n names v.count (with_hyps (assume v.hyps (formula v.term)) p) s → P (Went s)) → Good A (check c kind.Assert at (Done (Went s)) k) P
  asserted at p m s v true k A P le up h tr x go =
      go (behind_at m v.count p s (assume v.hyps (formula v.term)) x.later le up h (quiet_agree m h.later x.later x.goes) (λ u a. assumed_true u v.hyps (formula v.term) (x.known u a) (formula_means u v.term true (x.means u a))))
  asserted at p m s v false k A P le up h tr x go = λ a.
      let later = x.later in
      let right = right_later members m h.later later (right_at m p s h) (quiet_agree m h.later later x.goes) in
      no_false (sym (formula_means later v.term false (x.means later (agree_refl v.count later))) ∙ (tr a).0 later right (x.known later (agree_refl v.count later)))

  -- ---- blocks, one statement after the other

  -- the ends of the first statement, where it left the block
  first_left : (around : List (Expr Node)) (one two : Flow) → one.count ≤ two.count → (x : Exit) → X around one x → Left x → X around (followed one two) x
  first_left around one two le (Went s) h gone = absurd gone
  first_left around one two le (Broke s) h gone = (some_left n one.count two.count names one.breaks two.breaks s le h.0, h.1)
  first_left around one two le (Continued at s) h gone = ((λ t. h.0 (true_left members one.owed two.owed t)), h.1)
  first_left around one two le (Gave v) h gone = h

  -- the ends of what follows
  then_ends : (around : List (Expr Node)) (one two : Flow) (x : Exit) → X around two x → X around (followed one two) x
  then_ends around one two (Went s) h = h
  then_ends around one two (Broke s) h = (some_right n two.count two.count names one.breaks two.breaks s (omega arith) h.0, h.1)
  then_ends around one two (Continued at s) h = ((λ t. h.0 (true_right members one.owed two.owed t)), h.1)
  then_ends around one two (Gave v) h = h

  -- ---- `if`

  module _ (around : List (Expr Node)) (v : Walked) (one two : Flow) (grows : one.count ≤ two.count) (points : AllPoints two.count (as_list one.ends ++ as_list two.ends)) (begin : AllBegin v.hyps (as_list one.ends ++ as_list two.ends))
      (le : n ≤ two.count) (up : two.count ≤ (behind_if (words b) v one two).count) where
    abbrev after : Flow
    after = behind_if (words b) v one two

    joined : (s : Store) → AtSome n names two.count (as_list one.ends ++ as_list two.ends) s → AtEnd n names after.count after.ends s
    joined s h = joins_sound (words b) v.hyps (as_list one.ends ++ as_list two.ends) n two.count names s h.0 le (are_points two.count v.hyps (as_list one.ends ++ as_list two.ends) points begin) h.1 h.2

    first_ends : (x : Exit) → X around one x → X around after x
    first_ends (Went s) h = (joined s (some_left n one.count two.count names (as_list one.ends) (as_list two.ends) s grows (end_some n one.count names one.ends s h.0)), h.1)
    first_ends (Broke s) h = (some_left n one.count after.count names one.breaks two.breaks s (omega (arith, grows, up)) h.0, h.1)
    first_ends (Continued at s) h = ((λ t. h.0 (true_left members one.owed two.owed (true_right members v.owed (one.owed ++ two.owed) t))), h.1)
    first_ends (Gave r) h = h

    second_ends : (x : Exit) → X around two x → X around after x
    second_ends (Went s) h = (joined s (some_right n two.count two.count names (as_list one.ends) (as_list two.ends) s (omega arith) (end_some n two.count names two.ends s h.0)), h.1)
    second_ends (Broke s) h = (some_right n two.count after.count names one.breaks two.breaks s up h.0, h.1)
    second_ends (Continued at s) h = ((λ t. h.0 (true_right members one.owed two.owed (true_right members v.owed (one.owed ++ two.owed) t))), h.1)
    second_ends (Gave r) h = h

  -- ---- loops

  -- the invariants are true where they have answers, at the end of a turn
  kept_hold : (at : ℕ) (invariants : List (Expr Node)) (o : Option Spot) (c : ℕ) (u : Store) → AtEnd n names c o u → PointIf c o → KeepFits w b members invariants o u → AreTrueBy members (keep b at invariants o c).owed → AreTrueIfDone w invariants u
  kept_hold at invariants None c u here pt fit t = absurd here
  kept_hold at invariants (Some q) c u here pt fit t =
      owed_hold w b.program.setting members rests.told (words b) kind.Keep at q.vars here.later (is_set q.set) u (right_at c q u here) pt.are invariants c q.hyps fit here.stand here.known t

  module _ (at : ℕ) (e : Expr Node) (invariants : List (Expr Node)) (body : Stmts Node) (p : Spot) (m : ℕ) where
    abbrev heads : ℕ
    heads = (renew b body p m).count

    abbrev head : Spot
    head = (renew b body p m).spot

    abbrev inside : Passed
    inside = walk_clauses b.program (words b) invariants head.vars head.hyps heads

    abbrev test : Walked
    test = expr b e head.vars inside.hyps inside.count

    abbrev turn : Flow
    turn = exec_all b invariants body (where_true test head) test.count

    abbrev kept : Passed
    kept = keep b at invariants turn.ends turn.count

    abbrev paths : List Spot
    paths = where_false test head ∷ turn.breaks

    abbrev met_count : ℕ
    met_count = (meet (words b) test.hyps paths kept.count).count

    abbrev met_ends : Option Spot
    met_ends = (meet (words b) test.hyps paths kept.count).ends

    -- the test is true there, and a turn leads from there
    abbrev Yes : Store → Type 0
    Yes t = IsTested (code_kinds w b members takes) e t

    abbrev Lead : Store → Store → Type 0
    Lead t u = Leads (code_kinds w b members takes) fr e body t u

    -- what is asked at a turn
    abbrev Here : Store → Type 0
    Here t =
        AllFit w b.program.setting members (is_set head.set) invariants t
        × Suits (code_kinds w b members takes) false (is_set head.set) e t × Each (code_kinds w b members takes) e t IsTruth
        × Each (code_kinds w b members takes) e t (λ d. d ≡ Truth true → SuitAll invariants body (where_true test head) test.count t)
        × (Yes t → (u : Store) (i k : Meter) → run.exec_all w fr body t i ≡ Done (Went u) k → KeepFits w b members invariants turn.ends u)

    module _ (first : Store) (le : n ≤ m) (start : At n names m p first) (pt : Point m p) (apart : (x : ℕ) → is_set p.set x ≡ true → unsets_in x body ≡ false) (sound : SoundFrom invariants body) where
      first_of : (j : ℕ) (t : Store) → AtTurns Here Lead j t → Here t
      first_of zero t h = h
      first_of (suc j) t h = h.0

      renewed : RenewedPoint m (renew b body p m)
      renewed = head_renewed b body p m pt

      g2 : m ≤ heads
      g2 = renewed.grows

      g3 : heads ≤ inside.count
      g3 = walked_up b invariants head.vars head.hyps heads

      g4 : inside.count ≤ test.count
      g4 = expr_up b e head.vars inside.hyps inside.count

      here_point : Point test.count head
      here_point = point_more heads test.count head (let x = g3 in let y = g4 in omega (arith, x, y)) renewed.point

      body_points : FlowPoints test.count turn
      body_points = block_points b invariants body (where_true test head) test.count (with_point test.count head (assume test.hyps (formula test.term)) here_point)

      g5 : test.count ≤ turn.count
      g5 = body_points.grows

      g6 : turn.count ≤ kept.count
      g6 = keep_up b at invariants turn.ends turn.count

      low : n ≤ kept.count
      low = let x2 = g2 in let x3 = g3 in let x4 = g4 in let x5 = g5 in let x6 = g6 in omega (arith, le, x2, x3, x4, x5, x6)

      met_points : AllPoints kept.count paths
      met_points = (
        with_point kept.count head (assume test.hyps (denied (formula test.term))) (point_more test.count kept.count head (let x5 = g5 in let x6 = g6 in omega (arith, x5, x6)) here_point),
        points_more turn.count kept.count turn.breaks g6 body_points.breaks,
      )

      met_begin : AllBegin test.hyps paths
      met_begin = (
        begins_assumed test.hyps (denied (formula test.term)),
        all_begin_less test.hyps (assume test.hyps (formula test.term)) turn.breaks (begins_assumed test.hyps (formula test.term)) (blocks_begin b invariants body (where_true test head) test.count).1,
      )

      behind : (s : Store) → AtSome n names kept.count paths s → AtEnd n names met_count met_ends s
      behind s h = joins_sound (words b) test.hyps paths n kept.count names s h.0 low (are_points kept.count test.hyps paths met_points met_begin) h.1 h.2

      head_at : (t : Store) → IsTurn b members body p first t → At n names heads head t
      head_at t is = heads_sound b members rests.told rests.written body p n m names first t le rests.right (val_terms p.vars pt.are) start is

      -- the invariants are safe at a turn
      head_safe : (t : Store) → IsTurn b members body p first t → AllFit w b.program.setting members (is_set head.set) invariants t → AreTrueBy members inside.owed → AreSafe w invariants t
      head_safe t is fit tr =
          let h = head_at t is in
          walked_safe w b.program members rests.told (words b) head.vars h.later (is_set head.set) t (right_at heads head t h) renewed.point.are invariants head.hyps heads fit h.stand h.known tr

      -- where they passed, the test is walked at what they say
      inside_at : (t : Store) → IsTurn b members body p first t → AllFit w b.program.setting members (is_set head.set) invariants t → AllPass w invariants t → At n names inside.count (with_hyps inside.hyps head) t
      inside_at t is fit pass =
          let h = head_at t is in
          record {
            later = h.later;
            agree = h.agree;
            known = walked_known w b.program members rests.told (words b) head.vars h.later (is_set head.set) t (right_at heads head t h) renewed.point.are invariants head.hyps heads fit h.stand h.known pass;
            stand = stand_later heads inside.count h.later h.later head.vars (is_set head.set) t g3 (agree_refl heads h.later) h.stand;
          }

      next_turn : (t u : Store) → IsTurn b members body p first t → Keeps (λ y. assigns_in y body) (λ y. unsets_in y body) t u → AreDeclared b.types members u → IsTurn b members body p first u
      next_turn t u is keeps decl = record {
        kept = λ x on free. keeps.others x free (apart x on) ∙ is.kept x on free;
        valued = λ x on. let d = is.valued x on in keeps.lasts x d.0 d.1 (apart x on);
        typed = λ x d on q. decl x d q;
      }

      module _ (A : Type 0) (Q : Exit → Type 0) (owes : A → AreTrueBy members (inside.owed ++ (test.owed ++ (turn.owed ++ kept.owed))))
          (went : (s : Store) → AtEnd n names met_count met_ends s → AreDeclared b.types members s → Q (Went s)) (gave : (r : Option Datum) → Leaves w b.program.setting members b.routine vs b.routine.result r → Q (Gave r)) where
        abbrev keeping : ℕ → Store → Run Exit → Run Exit
        keeping from = sem.clauses w kind.Keep from invariants

        abbrev next : ℕ → Store → Run Exit
        next j = run.rounds j at (run.tested_truth w at e) (run.exec_all w fr body) keeping

        owes_inside : A → AreTrueBy members inside.owed
        owes_inside a = true_left members inside.owed (test.owed ++ (turn.owed ++ kept.owed)) (owes a)

        owes_test : A → AreTrueBy members test.owed
        owes_test a = true_left members test.owed (turn.owed ++ kept.owed) (true_right members inside.owed (test.owed ++ (turn.owed ++ kept.owed)) (owes a))

        owes_both : A → AreTrueBy members (turn.owed ++ kept.owed)
        owes_both a = true_right members test.owed (turn.owed ++ kept.owed) (true_right members inside.owed (test.owed ++ (turn.owed ++ kept.owed)) (owes a))

        -- another turn from a store, where the invariants passed
        abbrev From : ℕ → Type 0
        From j = (u : Store) → IsTurn b members body p first u → AreDeclared b.types members u → AtTurns Here Lead j u → AllPass w invariants u → (l : Meter) → Good A (next j u l) Q

        ended : (j : ℕ) (t : Store) → IsTurn b members body p first t → Here t → Yes t → ((u : Store) → Lead t u → AtTurns Here Lead j u) → From j
            → (x : Exit) (i k : Meter) → run.exec_all w fr body t i ≡ Done x k → X invariants turn x → Good A (run.go_round at keeping (next j) x k) Q
        ended j t is here sure lead more (Went u) i k q h =
            let on = lead u (sure, (i, k, inl q)) in
            let again = next_turn t u is (statements_keep.block w fr body t (Went u) i k q) h.1 in
            clauses_go w A Q kind.Keep at u (next j u) invariants (λ a. head_safe u again (first_of j u on).0 (owes_inside a))
            (λ a. kept_hold at invariants turn.ends turn.count u h.0 body_points.ends (here.4 sure u i k q) (true_right members turn.owed kept.owed (owes_both a)))
            (λ l pass. more u again h.1 on pass l) k
        ended j t is here sure lead more (Continued from u) i k q h =
            let on = lead u (sure, (i, k, inr (from, q))) in
            let again = next_turn t u is (statements_keep.block w fr body t (Continued from u) i k q) h.1 in
            clauses_go w A Q kind.Keep from u (next j u) invariants (λ a. head_safe u again (first_of j u on).0 (owes_inside a)) (λ a. h.0 (true_left members turn.owed kept.owed (owes_both a))) (λ l pass. more u again h.1 on pass l) k
        ended j t is here sure lead more (Broke u) i k q h = went u (behind u (h.0.0, inr h.0.1, at_more n turn.count kept.count names h.0.0 u g6 h.0.2)) h.1
        ended j t is here sure lead more (Gave r) i k q h = gave r h

        -- where the test is true the body runs, and else the loop ends
        chosen : (j : ℕ) (t : Store) → (is : IsTurn b members body p first t) → AreDeclared b.types members t → (here : Here t) → ((u : Store) → Lead t u → AtTurns Here Lead j u) → From j
            → (inner : At n names inside.count (with_hyps inside.hyps head) t) → (c : Bool) (l : Meter) → Tested w b members takes rests.told taken gives e t inside.count inner.later test c
            → Good A (choose c (λ k. run.exec_all w fr body t k >>= run.go_round at keeping (next j)) (Done (Went t)) l) Q
        chosen j t is decl here lead more inner true l x =
            good_bind A (AreTrueBy members turn.owed) A (run.exec_all w fr body t l) (run.go_round at keeping (next j)) (X invariants turn) Q (λ a. true_left members turn.owed kept.owed (owes_both a)) (λ a. a)
            (sound (where_true test head) test.count t l (let x2 = g2 in let x3 = g3 in let x4 = g4 in omega (arith, le, x2, x3, x4)) (with_point test.count head (assume test.hyps (formula test.term)) here_point)
            (true_at_test inside.count (with_hyps inside.hyps head) t test (let x2 = g2 in let x3 = g3 in omega (arith, le, x2, x3)) g4 inner x.0) decl (here.3 (Truth true) x.1.0 x.1.1 x.1.2 refl))
            (λ y k q h. ended j t is here x.1 lead more y l k q h)
        chosen j t is decl here lead more inner false l x =
            went t (behind t (
              where_false test head,
              inl refl,
              at_more n test.count kept.count names (where_false test head) t (let x5 = g5 in let x6 = g6 in omega (arith, x5, x6))
                  (false_at_test inside.count (with_hyps inside.hyps head) t test (let x2 = g2 in let x3 = g3 in omega (arith, le, x2, x3)) g4 inner x.0),
            )) decl

        pub turns_right : (j : ℕ) → From j
        turns_right zero t is decl suits pass l = tt
        turns_right (suc j) t is decl suits pass l =
            let here = suits.0 in
            let inner = inside_at t is here.0 pass in
            good_spend A true (λ k. run.tested_truth w at e t k >>= (λ c. choose c (λ i. run.exec_all w fr body t i >>= run.go_round at keeping (next j)) (Done (Went t)))) Q
            (λ k. good_bind A (AreTrueBy members test.owed) A (run.tested_truth w at e t k) (λ c. choose c (λ i. run.exec_all w fr body t i >>= run.go_round at keeping (next j)) (Done (Went t)))
            (Tested w b members takes rests.told taken gives e t inside.count inner.later test) Q owes_test (λ a. a)
            (test_right w b members takes rests.told taken gives at e head.vars inside.hyps inside.count inner.later (is_set head.set) t k here.1 here.2 (right_at inside.count (with_hyps inside.hyps head) t inner) renewed.point.are inner.stand inner.known)
            (λ c i q x. chosen j t is decl here suits.1 (turns_right j) inner c i x)) l

  -- ---- the entry of a loop

  module _ (around : List (Expr Node)) (at : ℕ) (e : Expr Node) (invariants : List (Expr Node)) (body : Stmts Node) (p : Spot) (m : ℕ) (s : Store) (le : n ≤ m) (pt : Point m p) (h : At n names m p s) (decl : AreDeclared b.types members s)
      (set : (x : ℕ) → is_set p.set x ≡ true → (unsets_in x body ≡ false) × ((d : Datum) × (slot s x ≡ Some d))) (fit : AllFit w b.program.setting members (is_set p.set) invariants s) (sound : SoundFrom invariants body) where
    abbrev entry : Passed
    entry = owe_clauses b.program.setting kind.Entry at (words b) invariants p.vars p.hyps m

    abbrev met : Spot
    met = with_hyps entry.hyps p

    g1 : m ≤ entry.count
    g1 = clauses_grow b.program.setting kind.Entry at (words b) invariants p.vars p.hyps m

    met_point : Point entry.count met
    met_point = with_point entry.count p entry.hyps (point_more m entry.count p g1 pt)

    begins : n ≤ entry.count
    begins = let x = g1 in omega (arith, le, x)

    start_by : Known entry.count h.later entry.hyps → At n names entry.count met s
    start_by known = record { later = h.later; agree = h.agree; known = known; stand = stand_later m entry.count h.later h.later p.vars (is_set p.set) s g1 (agree_refl m h.later) h.stand }

    by_owed : AreTrueBy members entry.owed → At n names entry.count met s
    by_owed t = start_by (owed_known w b.program.setting members rests.told (words b) p.vars h.later (is_set p.set) s (right_at m p s h) pt.are kind.Entry at invariants m p.hyps fit h.stand h.known t)

    by_pass : AllPass w invariants s → At n names entry.count met s
    by_pass pass = start_by (passed_known w b.program.setting members rests.told (words b) p.vars h.later (is_set p.set) s (right_at m p s h) pt.are kind.Entry at invariants m p.hyps fit h.stand h.known pass)

    first_turn : IsTurn b members body met s s
    first_turn = record { kept = λ x on free. refl; valued = λ x on. (set x on).1; typed = λ x d on q. decl x d q }

    stays : (x : ℕ) → is_set met.set x ≡ true → unsets_in x body ≡ false
    stays x on = (set x on).0

    abbrev Ends : Exit → Type 0
    Ends = X around (exec b around (WhileStmt at e invariants body) p m)

    abbrev rest : List Owed
    rest = (inside at e invariants body met entry.count).owed ++ ((test at e invariants body met entry.count).owed ++ ((turn at e invariants body met entry.count).owed ++ (kept at e invariants body met entry.count).owed))

    abbrev All : Type 0
    All = AreTrueBy members (entry.owed ++ rest)

    loop_right : (k : Meter) → ((j : ℕ) → AtTurns (Here at e invariants body met entry.count) (Lead at e invariants body met entry.count) j s) → Good All (run.exec w fr (WhileStmt at e invariants body) s k) Ends
    loop_right k turns =
        let go : Run Exit = λ l. run.rounds (suc l.ticks) at (run.tested_truth w at e) (run.exec_all w fr body) (λ from. sem.clauses w kind.Keep from invariants) s l in
        good_spend All true (sem.clauses w kind.Entry at invariants s go) Ends
        (λ j. clauses_go w All Ends kind.Entry at s go invariants
        (λ a. head_safe at e invariants body met entry.count s begins (by_owed (true_left members entry.owed rest a)) met_point stays sound s first_turn (turns zero).0
        (true_left members (inside at e invariants body met entry.count).owed ((test at e invariants body met entry.count).owed ++ ((turn at e invariants body met entry.count).owed ++ (kept at e invariants body met entry.count).owed)) (true_right members entry.owed rest a)))
        (λ a. owed_hold w b.program.setting members rests.told (words b) kind.Entry at p.vars h.later (is_set p.set) s (right_at m p s h) pt.are invariants m p.hyps fit h.stand h.known (true_left members entry.owed rest a))
        (λ l pass. turns_right at e invariants body met entry.count s begins (by_pass pass) met_point stays sound All Ends (λ a. true_right members entry.owed rest a) (λ t here d. (here, d)) (λ r x. x) (suc l.ticks) s first_turn decl (turns (suc l.ticks)) pass l) j) k

  -- ---- updates of parts

  -- the variable's term with another value at the end of the path
  updated_right : (around : List (Expr Node)) (at x : ℕ) (path : List (Step Node)) (e : Expr Node) (p : Spot) (m : ℕ) (s : Store) (d : Datum) (k : Meter) → n ≤ m → Point m p → (h : At n names m p s) → AreDeclared b.types members s → is_set p.set x ≡ true → slot s x ≡ Some d
      → PathSuits (code_kinds w b members takes) (is_set p.set) path d s → Suits (code_kinds w b members takes) false (is_set p.set) e s
      → ((slots : List Slot) (r : Datum) (l i j o : Meter) → run.path_of w s path d l ≡ Done slots i → sem.eval w true e s j ≡ Done r o → IsFree b members (type_at b.types x) (updated d slots r))
      → Good (AreTrueBy members (assigned b at x path e p m).owed) (run.path_of w s path d k >>= (λ slots j. sem.eval w true e s j >>= (λ r. run.stored fr at x (type_at b.types x) s (updated d slots r)))) (X around (assigned b at x path e p m))
  updated_right around at x path e p m s d k le pt h decl on q path_suits suits free =
      let t = type_at b.types x in
      let whole = variable p.vars x in
      let parts = along b path whole p.vars p.hyps m in
      let up = along_up b path whole p.vars p.hyps m in
      let v = expr b e p.vars parts.hyps parts.count in
      let past = expr_up b e p.vars parts.hyps parts.count in
      let last = (owe_member b.program.setting at t (rebuilt parts.parts v.term) v.hyps v.count).owed in
      let P : Exit → Type 0 = X around (assigned b at x path e p m) in
      let A = AreTrueBy members ((parts.owed ++ v.owed) ++ last) in
      let B = AreTrueBy members (v.owed ++ last) in
      let whole_rests : TermRests m whole = record { is = variable_sorted pt.are x; depends = variable_depends m p.vars x pt.depends } in
      let value = expr_rests b e p.vars parts.hyps parts.count pt.are (all_more m parts.count p.vars up pt.depends) in
      let terms = parts_on parts.count v.count parts.parts past (along_rests b path whole p.vars p.hyps m pt.are pt.depends whole_rests) in
      let made = rebuilt_rests v.count parts.parts v.term terms value in
      good_bind A (AreTrueBy members parts.owed) B (run.path_of w s path d k) (λ slots j. sem.eval w true e s j >>= (λ r. run.stored fr at x t s (updated d slots r))) (OkPath m h.later parts.count parts.hyps parts.parts d) P
      (λ a. true_left members parts.owed v.owed (true_left members (parts.owed ++ v.owed) last a)) (true_after members parts.owed v.owed last)
      (path_right w b members takes rests.told taken gives p.vars pt.are (is_set p.set) s path whole d p.hyps m h.later k path_suits (right_at m p s h) h.stand h.known (h.stand x d on q))
      (λ slots j r o.
      good_bind B (AreTrueBy members v.owed) (AreTrueBy members last) (sem.eval w true e s j) (λ y. run.stored fr at x t s (updated d slots y)) (Ok false parts.count o.later v.count v.hyps v.term) P (true_left members v.owed last) (true_right members v.owed last)
      (code_right w b members takes rests.told taken gives e p.vars parts.hyps parts.count o.later (is_set p.set) s j suits (right_later members m h.later o.later (right_at m p s h) o.agree) pt.are (stand_later m parts.count h.later o.later p.vars (is_set p.set) s up o.agree h.stand) o.known)
      (λ y i z u.
      let far : Agree m h.later u.later = agree_trans m parts.count h.later o.later u.later up o.agree u.goes in
      let whole_walk : Walked = record { count = v.count; hyps = v.hyps; term = rebuilt parts.parts v.term; owed = [] } in
      let done : Ok false m h.later v.count v.hyps (rebuilt parts.parts v.term) (updated d slots y) =
      record {
        later = u.later;
        goes = far;
        known = u.known;
        means = λ a g. updates_agree a parts.parts slots d v.term (o.leads a (agree_trans parts.count v.count o.later u.later a past u.goes g)) ∙ ap (updated d slots) (u.means a g);
        is = made.is.has;
      } in
      comes_right w b members owed vs n names rests around at t x (parts.owed ++ v.owed) p m s whole_walk (updated d slots y) i le (omega (arith, up, past)) (rests.written x) refl h decl done (free slots y k j j i r z)))

  update_right : (around : List (Expr Node)) (at x : ℕ) (path : List (Step Node)) (e : Expr Node) (p : Spot) (m : ℕ) (s : Store) (k : Meter) → n ≤ m → Point m p → At n names m p s → AreDeclared b.types members s → UpdateSuits (code_kinds w b members takes) b members x path e p s
      → Good (AreTrueBy members (assigned b at x path e p m).owed) (spend true (needed at (slot s x) (λ d j. run.path_of w s path d j >>= (λ slots i. sem.eval w true e s i >>= (λ r. run.stored fr at x (type_at b.types x) s (updated d slots r))))) k) (X around (assigned b at x path e p m))
  update_right around at x path e p m s k le pt h decl su =
      let A = AreTrueBy members (assigned b at x path e p m).owed in
      let P : Exit → Type 0 = X around (assigned b at x path e p m) in
      let next : Datum → Run Exit = λ d j. run.path_of w s path d j >>= (λ slots i. sem.eval w true e s i >>= (λ r. run.stored fr at x (type_at b.types x) s (updated d slots r))) in
      good_spend A true (needed at (slot s x) next) P
      (λ j. subst (λ (o : Option Datum). Good A (needed at o next j) P) (sym su.1.1) (updated_right around at x path e p m s su.1.0 j le pt h decl su.0 su.1.1 su.1.2 su.1.3 su.1.4)) k

  -- ---- `continue`

  continue_right : (around : List (Expr Node)) (at : ℕ) (p : Spot) (m : ℕ) (s : Store) (k : Meter) → Point m p → At n names m p s → AreDeclared b.types members s → AllFit w b.program.setting members (is_set p.set) around s
      → Good (AreTrueBy members (keep b at around (Some p) m).owed) (run.exec w fr (ContinueStmt at) s k) (X around (exec b around (ContinueStmt at) p m))
  continue_right around at p m s k pt h decl fit =
      good_spend (AreTrueBy members (keep b at around (Some p) m).owed) true (Done (Continued at s)) (X around (exec b around (ContinueStmt at) p m)) (λ l. ((λ t. kept_hold at around (Some p) m s h pt fit t), decl)) k

  -- ---- what follows a statement

  on_up : (around : List (Expr Node)) (rest : Stmts Node) (o : Option Spot) (c : ℕ) → PointIf c o → c ≤ (go_on o c (exec_all b around rest)).count
  on_up around rest None c pt = omega arith
  on_up around rest (Some q) c pt = (block_points b around rest q c pt).grows

  went_right : (around : List (Expr Node)) (rest : Stmts Node) (c : ℕ) (t : Store) (j : Meter) → n ≤ c → AreDeclared b.types members t → SoundFrom around rest → (o : Option Spot) → PointIf c o → AtEnd n names c o t → Behind (λ q u. SuitAll around rest q c u) o t
      → Good (AreTrueBy members (go_on o c (exec_all b around rest)).owed) (run.exec_all w fr rest t j) (X around (go_on o c (exec_all b around rest)))
  went_right around rest c t j le decl sound None pt here su = absurd here
  went_right around rest c t j le decl sound (Some q) pt here su = sound q c t j le pt here decl su

  goes_right : (around : List (Expr Node)) (rest : Stmts Node) (one : Flow) → n ≤ one.count → PointIf one.count one.ends → (x : Exit) (j : Meter) → X around one x → ((t : Store) → x ≡ Went t → Behind (λ q u. SuitAll around rest q one.count u) one.ends t) → SoundFrom around rest
      → Good (AreTrueBy members (go_on one.ends one.count (exec_all b around rest)).owed) (run.go_on x (run.exec_all w fr rest) j) (X around (followed one (go_on one.ends one.count (exec_all b around rest))))
  goes_right around rest one le pt (Went t) j g su sound =
      let two = go_on one.ends one.count (exec_all b around rest) in
      good_map (AreTrueBy members two.owed) (run.exec_all w fr rest t j) (X around two) (X around (followed one two)) (went_right around rest one.count t j le g.1 sound one.ends pt g.0 (su t refl)) (λ x l e h. then_ends around one two x h)
  goes_right around rest one le pt (Broke t) j g su sound = first_left around one (go_on one.ends one.count (exec_all b around rest)) (on_up around rest one.ends one.count pt) (Broke t) g tt
  goes_right around rest one le pt (Continued from t) j g su sound = first_left around one (go_on one.ends one.count (exec_all b around rest)) (on_up around rest one.ends one.count pt) (Continued from t) g tt
  goes_right around rest one le pt (Gave r) j g su sound = first_left around one (go_on one.ends one.count (exec_all b around rest)) (on_up around rest one.ends one.count pt) (Gave r) g tt

  -- ---- statements

  mutual
    pub statement : (around : List (Expr Node)) (st : Stmt Node) (p : Spot) (m : ℕ) (s : Store) (k : Meter) → n ≤ m → Point m p → At n names m p s → AreDeclared b.types members s → Suit around st p m s
        → Good (AreTrueBy members (exec b around st p m).owed) (run.exec w fr st s k) (X around (exec b around st p m))
    statement around (DeclareStmt at t x None) p m s k le pt h decl su =
        let name = val_name (word_at (words b) x) m in
        good_spend (Unit {0}) true (Done (Went (put s x None))) (X around (exec b around (DeclareStmt at t x None) p m)) (λ l. (declare_at n m names p s x name h, declared_unset b.types members s x decl)) k
    statement around (DeclareStmt at t x (Some e)) p m s k le pt h decl su =
        let v = expr b e p.vars p.hyps m in
        let P : Exit → Type 0 = X around (exec b around (DeclareStmt at t x (Some e)) p m) in
        let last = (owe_member b.program.setting at t v.term v.hyps v.count).owed in
        let A = AreTrueBy members (v.owed ++ last) in
        good_spend A true (λ j. sem.eval w true e s j >>= run.stored fr at x t s) P
        (λ j. good_bind A (AreTrueBy members v.owed) (AreTrueBy members last) (sem.eval w true e s j) (run.stored fr at x t s) (Ok false m h.later v.count v.hyps v.term) P (true_left members v.owed last) (true_right members v.owed last)
        (code_right w b members takes rests.told taken gives e p.vars p.hyps m h.later (is_set p.set) s j su.0 (right_at m p s h) pt.are h.stand h.known)
        (λ d i q o. comes_right w b members owed vs n names rests around at t x v.owed p m s v d i le (expr_up b e p.vars p.hyps m) (subst IsWritten su.1 (rests.written x)) su.1 h decl o (su.2 d j i q))) k
    statement around (AssignStmt at x [] e) p m s k le pt h decl su =
        let t = type_at b.types x in
        let v = expr b e p.vars p.hyps m in
        let P : Exit → Type 0 = X around (exec b around (AssignStmt at x [] e) p m) in
        let last = (owe_member b.program.setting at t v.term v.hyps v.count).owed in
        let A = AreTrueBy members (v.owed ++ last) in
        good_spend A true (λ j. sem.eval w true e s j >>= run.stored fr at x t s) P
        (λ j. good_bind A (AreTrueBy members v.owed) (AreTrueBy members last) (sem.eval w true e s j) (run.stored fr at x t s) (Ok false m h.later v.count v.hyps v.term) P (true_left members v.owed last) (true_right members v.owed last)
        (code_right w b members takes rests.told taken gives e p.vars p.hyps m h.later (is_set p.set) s j su.0 (right_at m p s h) pt.are h.stand h.known)
        (λ d i q o. comes_right w b members owed vs n names rests around at t x v.owed p m s v d i le (expr_up b e p.vars p.hyps m) (rests.written x) refl h decl o (su.1 d j i q))) k
    statement around (AssignStmt at x (step ∷ steps) e) p m s k le pt h decl su = update_right around at x (step ∷ steps) e p m s k le pt h decl su
    statement around (CallStmt at f es) p m s k le pt h decl su =
        let us = walk_all b.program.setting (call_walk b.program.setting b.program.routines) (words b) es p.vars p.hyps m in
        let c = call_walk b.program.setting b.program.routines f at us.terms us.hyps us.count in
        let P : Exit → Type 0 = X around (exec b around (CallStmt at f es) p m) in
        let A = AreTrueBy members (us.owed ++ c.owed) in
        let C = AreTrueBy members c.owed in
        let g1 = codes_grow b.program (words b) es p.vars p.hyps m in
        let g2 = call_grows b.program.setting b.program.routines f at us.terms us.hyps us.count in
        good_spend A true (λ j. sem.eval_all w true es s j >>= (λ ds i. w.call f at ds i >>= (λ r. Done (Went s)))) P
        (λ j. good_bind A (AreTrueBy members us.owed) C (sem.eval_all w true es s j) (λ ds i. w.call f at ds i >>= (λ r. Done (Went s))) (OkAll false m h.later us.count us.hyps us.terms) P (true_left members us.owed c.owed) (true_right members us.owed c.owed)
        (codes_right w b members takes rests.told taken gives es p.vars p.hyps m h.later (is_set p.set) s j su.0 (right_at m p s h) pt.are h.stand h.known)
        (λ ds i q x. good_bind C C (Unit {0}) (w.call f at ds i) (λ r. Done (Went s)) (Returned us.count x.later c) P (λ a. a) (λ a. tt)
        (called f at at us.count us.terms us.hyps x.later ds i (su.1 ds j i q) (right_later members m h.later x.later (right_at m p s h) x.goes) (are_values us.terms x.are) x.means x.known)
        (λ r l y z. (behind_at m c.count p s c.hyps z.later le (omega (arith, g1, g2)) h (agree_trans m us.count h.later x.later z.later g1 x.goes z.agree) z.known, decl)))) k
    statement around (ReturnStmt at None) p m s k le pt h decl su =
        good_spend (AreTrueBy members (leave b at None p.hyps m).owed) true (run.leave w fr at b.routine.result None) (X around (exec b around (ReturnStmt at None) p m)) (λ j. return_nothing around at p m s j le h su) k
    statement around (ReturnStmt at (Some e)) p m s k le pt h decl su =
        let v = expr b e p.vars p.hyps m in
        let f = exec b around (ReturnStmt at (Some e)) p m in
        let P : Exit → Type 0 = X around f in
        let last = (leave b at (Some v.term) v.hyps v.count).owed in
        let A = AreTrueBy members (v.owed ++ last) in
        good_spend A true (λ j. sem.eval w true e s j >>= (λ d. run.leave w fr at b.routine.result (Some d))) P
        (λ j. good_bind A (AreTrueBy members v.owed) (AreTrueBy members last) (sem.eval w true e s j) (λ d. run.leave w fr at b.routine.result (Some d)) (Ok false m h.later v.count v.hyps v.term) P (true_left members v.owed last) (true_right members v.owed last)
        (code_right w b members takes rests.told taken gives e p.vars p.hyps m h.later (is_set p.set) s j su.0 (right_at m p s h) pt.are h.stand h.known)
        (λ d i q x. return_value around at f v m h.later d i su.1.0 su.1.1 le (expr_up b e p.vars p.hyps m) h.agree x (su.1.2 d j i q))) k
    statement around (AssertStmt at e) p m s k le pt h decl su =
        let v = expr b e p.vars p.hyps m in
        let P : Exit → Type 0 = X around (exec b around (AssertStmt at e) p m) in
        let last = owe kind.Assert at v.hyps (formula v.term ∷ []) in
        let A = AreTrueBy members (v.owed ++ last) in
        let T : Bool → Type 0 = λ c. Ok true m h.later v.count v.hyps v.term (Truth c) in
        let V = AreTrueBy members v.owed in
        good_spend A true (λ j. sem.holds_at w at e s j >>= (λ c. check c kind.Assert at (Done (Went s)))) P
        (λ j. good_bind A V (AreTrueBy members last) (sem.holds_at w at e s j) (λ c. check c kind.Assert at (Done (Went s))) T P (true_left members v.owed last) (true_right members v.owed last)
        (good_bind V V (Unit {0}) (sem.eval (sem.quiet w) false e s j) (λ d. as_truth at d Done) (Ok true m h.later v.count v.hyps v.term) T (λ a. a) (λ a. tt)
        (quiet_right (sem.quiet w) false b.program.setting b.program.routines members rests.told (words b) e p.vars p.hyps m h.later (is_set p.set) s j su.suits (right_at m p s h) pt.are h.stand h.known)
        (λ d i q x. good_map (Unit {0}) (as_truth at d Done i) (λ c. T c × (d ≡ Truth c)) T (truth_end true m h.later v.count v.hyps v.term at d i (su.truth d j i q) x) (λ c l y z. z.0)))
        (λ c i q x. asserted at p m s v c i (AreTrueBy members last) P le (expr_up b e p.vars p.hyps m) h (λ a. a) x (λ here. (here, decl)))) k
    statement around (BreakStmt at) p m s k le pt h decl su =
        good_spend (Unit {0}) true (Done (Broke s)) (X around (exec b around (BreakStmt at) p m)) (λ l. ((p, inl refl, h), decl)) k
    statement around (ContinueStmt at) p m s k le pt h decl su = continue_right around at p m s k pt h decl su
    statement around (SkipStmt at) p m s k le pt h decl su = good_spend (Unit {0}) true (Done (Went s)) (X around (exec b around (SkipStmt at) p m)) (λ l. (h, decl)) k
    statement around (FailStmt at) p m s k le pt h decl su =
        good_spend (AreTrueBy members (owe kind.Fail at p.hyps (falsehood ∷ []))) true (Fault kind.Fail at) (X around (exec b around (FailStmt at) p m)) (λ l a. no_false (a.0 h.later (right_at m p s h) (h.known h.later (agree_refl m h.later)))) k
    statement around (IfStmt at e first second) p m s k le pt h decl su =
        let v = expr b e p.vars p.hyps m in
        let up = expr_up b e p.vars p.hyps m in
        let here = point_more m v.count p up pt in
        let where_yes = where_true v p in
        let one = exec_all b around first where_yes v.count in
        let yes_point = with_point v.count p (assume v.hyps (formula v.term)) here in
        let f1 = block_points b around first where_yes v.count yes_point in
        let k1 = f1.grows in
        let where_no = where_false v p in
        let two = exec_all b around second where_no one.count in
        let no_point = with_point one.count p (assume v.hyps (denied (formula v.term))) (point_more v.count one.count p k1 here) in
        let f2 = block_points b around second where_no one.count no_point in
        let l1 = f2.grows in
        let points = both_points two.count (as_list one.ends) (as_list two.ends) (list_points two.count one.ends (point_if_more one.count two.count one.ends l1 f1.ends)) (list_points two.count two.ends f2.ends) in
        let begin = both_begin v.hyps (as_list one.ends) (as_list two.ends)
        (list_begins v.hyps one.ends (end_begins_less v.hyps (assume v.hyps (formula v.term)) one.ends (begins_assumed v.hyps (formula v.term)) (blocks_begin b around first where_yes v.count).0))
        (list_begins v.hyps two.ends (end_begins_less v.hyps (assume v.hyps (denied (formula v.term))) two.ends (begins_assumed v.hyps (denied (formula v.term))) (blocks_begin b around second where_no one.count).0)) in
        let met = meet_points (words b) v.hyps (as_list one.ends ++ as_list two.ends) two.count points in
        let m1 = met.grows in
        let low : n ≤ two.count = omega (arith, le, up, k1, l1) in
        let P : Exit → Type 0 = X around (exec b around (IfStmt at e first second) p m) in
        let A = AreTrueBy members (v.owed ++ (one.owed ++ two.owed)) in
        let C = AreTrueBy members (one.owed ++ two.owed) in
        good_spend A true (λ j. run.tested_truth w at e s j >>= (λ c. choose c (run.exec_all w fr first s) (run.exec_all w fr second s))) P
        (λ j. good_bind A (AreTrueBy members v.owed) C (run.tested_truth w at e s j) (λ c. choose c (run.exec_all w fr first s) (run.exec_all w fr second s)) (Tested w b members takes rests.told taken gives e s m h.later v) P
        (true_left members v.owed (one.owed ++ two.owed)) (true_right members v.owed (one.owed ++ two.owed))
        (test_right w b members takes rests.told taken gives at e p.vars p.hyps m h.later (is_set p.set) s j su.0 su.1 (right_at m p s h) pt.are h.stand h.known)
        (λ c i q x. if_chosen C P (Tested w b members takes rests.told taken gives e s m h.later v) (run.exec_all w fr first s) (run.exec_all w fr second s) c i x
        (λ o. good_map C (run.exec_all w fr first s i) (X around one) P (good_weaken C (AreTrueBy members one.owed) (run.exec_all w fr first s i) (X around one) (true_left members one.owed two.owed)
        (block around first where_yes v.count s i (omega (arith, le, up)) yes_point (true_at_test m p s v le up h o.0) decl (su.2 (Truth true) o.1.0 o.1.1 o.1.2 refl)))
        (λ y l r z. first_ends around v one two l1 points begin low m1 y z))
        (λ o. good_map C (run.exec_all w fr second s i) (X around two) P (good_weaken C (AreTrueBy members two.owed) (run.exec_all w fr second s i) (X around two) (true_right members one.owed two.owed)
        (block around second where_no one.count s i (omega (arith, le, up, k1)) no_point (at_more n v.count one.count names where_no s k1 (false_at_test m p s v le up h o.0)) decl (su.3 (Truth false) o.1.0 o.1.1 o.1.2 refl)))
        (λ y l r z. second_ends around v one two l1 points begin low m1 y z)))) k
    statement around (WhileStmt at e invariants body) p m s k le pt h decl su =
        loop_right around at e invariants body p m s le pt h decl su.1 su.0 (λ z i t j bound pz hz dz sz. block invariants body z i t j bound pz hz dz sz) k su.2

    pub block : (around : List (Expr Node)) (st : Stmts Node) (p : Spot) (m : ℕ) (s : Store) (k : Meter) → n ≤ m → Point m p → At n names m p s → AreDeclared b.types members s → SuitAll around st p m s
        → Good (AreTrueBy members (exec_all b around st p m).owed) (run.exec_all w fr st s k) (X around (exec_all b around st p m))
    block around NoStmts p m s k le pt h decl su = (h, decl)
    block around (MoreStmts first rest) p m s k le pt h decl su =
        let one = exec b around first p m in
        let two = go_on one.ends one.count (exec_all b around rest) in
        let f1 = statement_points b around first p m pt in
        let up = f1.grows in
        let A = AreTrueBy members (one.owed ++ two.owed) in
        let P : Exit → Type 0 = X around (followed one two) in
        good_bind A (AreTrueBy members one.owed) (AreTrueBy members two.owed) (run.exec w fr first s k) (λ x. run.go_on x (run.exec_all w fr rest)) (X around one) P (true_left members one.owed two.owed) (true_right members one.owed two.owed)
        (statement around first p m s k le pt h decl su.0)
        (λ x j q g. goes_right around rest one (omega (arith, le, up)) f1.ends x j g (λ t is. su.1 t k j (q ∙ ap (λ (y : Exit). Done y j) is)) (λ o i t l bound po ho dt so. block around rest o i t l bound po ho dt so))

pub blocks_sound : BlocksAreSound
blocks_sound w b members owed vs takes calls n names rests taken called gives around st p m s k le vals is here decl su =
    block w b members owed vs takes calls n names rests taken called gives around st p m s k le (record { are = are_data p.vars vals; depends = depend_from m p.vars is.depends; marked = is.marked }) here decl su
