-- A body follows its walk, and so does its end.
use Rattle.std.proofs.Common.{◌≡◌, ℕ, ◌≤◌, List, [], ◌++◌, Bool, Option, Some, None, refl, sym, subst, arith}
use Rattle.wy_value.specs.Datum.{Datum}
use Rattle.wy_core.specs.Types.{Ty}
use Rattle.wy_core.specs.CoreTree as tree
use Rattle.wy_core.specs.CoreTree.{Routine}
use Rattle.wy_term.specs.Meaning.{Names}
use Rattle.wy_sem.specs.Meter.{Meter, ◌>>=◌}
use Rattle.wy_sem.specs.Expressions as sem
use Rattle.wy_sem.specs.Expressions.{Store}
use Rattle.wy_sem.specs.TypeTests.{Test}
use Rattle.wy_sem.specs.Statements as run
use Rattle.wy_sem.specs.Statements.{Exit, Went, Broke, Continued, Gave, Frame}
use Rattle.wy_sem.specs.Evaluation.{entry_of, frame_of, result_of, result_given}
use Rattle.wy_vc_spec.specs.Numbered.{Node}
use Rattle.wy_vc_spec.specs.Variables.{Vars}
use Rattle.wy_vc_spec.specs.Walks.{Program}
use Rattle.wy_vc_spec.specs.Spots.{Spot, Flow}
use Rattle.wy_vc_spec.specs.Statements.{leave, exec_all}
use Rattle.wy_vc_spec.specs.Programs.{body_of, end_of}
use Rattle.wy_sound_statements.specs.wy_sound_walks.expressions.Truth.{AreTrueBy, Good}
use Rattle.wy_sound_statements.proofs.wy_sound_walks_proofs.expressions_lemmas.NameLemmas.{stand_later, right_later}
use Rattle.wy_sound_statements.proofs.wy_sound_walks_proofs.expressions_lemmas.GoodLemmas.{true_left, true_right, good_bind}
use Rattle.wy_sound_statements.specs.wy_sound_walks.joins.Joins.{AtEnd}
use Rattle.wy_sound_statements.specs.calls.CallLaws.{Leaves, with_params, nothing_seen}
use Rattle.wy_sound_statements.proofs.wy_sound_walks_proofs.expressions_lemmas.LawLemmas.{are_data}
use Rattle.wy_sound_statements.proofs.wy_sound_walks_proofs.points_lemmas.SetLemmas.{Point, depend_from}
use Rattle.wy_sound_statements.proofs.wy_sound_walks_proofs.points_lemmas.StayLemmas.{block_points}
use Rattle.wy_sound_statements.specs.steps.Steps.{Ending}
use Rattle.wy_sound_statements.proofs.steps_lemmas.StepLemmas.{results_leave}
use Rattle.wy_sound_statements.specs.Ends.{Exits, Rests}
use Rattle.wy_sound_statements.proofs.StatementLemmas.{blocks_sound}
use Rattle.wy_sound_programs.specs.Bodies.{NoneLeft, EndsBefore, BodiesLeave}

no_point : {X : Type 0} (q : Spot) → Some q ≡ None → X
no_point q e = absurd cc

module _ (w : sem.Setting Node) (p : Program Node) (r : Routine Node) (vars : Vars) (members : ℕ → Datum → Bool) (owed : Ty → Datum → Test) (vs : List Datum) (n : ℕ) (names : Names) (rests : Rests w (body_of p r vars) members owed vs n names) where
  -- the end of a body, which leaves what the contract says of no result
  ended : (o : Option tree.Output) → r.result ≡ o → (ends : Option Spot) (c : ℕ) (t : Store) (j : Meter) → EndsBefore o ends → n ≤ c → AtEnd n names c ends t
      → Good (AreTrueBy members (end_of (body_of p r vars) o ends c)) (run.leave w (frame_of owed r vs) r.at o None j >>= result_given r.at) (Leaves w p.setting members r vs o)
  ended o is None c t j before le h = absurd h
  ended (Some out) is (Some q) c t j before le h = no_point q before
  ended None is (Some q) c t j before le h =
      let A = AreTrueBy members (leave (body_of p r vars) r.at None q.hyps c).owed in
      let last : Ending w (body_of p r vars) members vs c h.later = record {
        right = right_later members n names h.later rests.right h.agree;
        terms = rests.entry;
        stand = stand_later n c names h.later vars (with_params r.params nothing_seen) (entry_of r vs) le h.agree rests.stand;
      } in
      let go : Good A (run.leave w (frame_of owed r vs) r.at None None j) (λ x. (x ≡ Gave None) × Leaves w p.setting members r vs None None) =
      results_leave.nothing w owed (body_of p r vars) members vs r.at r.at c q.hyps h.later j rests.told is (rests.nothing_fits is) (rests.nothing_safe is) last h.known in
      good_bind A A A (run.leave w (frame_of owed r vs) r.at None None j) (result_given r.at) (λ x. (x ≡ Gave None) × Leaves w p.setting members r vs None None) (Leaves w p.setting members r vs None) (λ a. a) (λ a. a) go
      (λ x l e g. subst (λ (y : Exit). Good A (result_given r.at y l) (Leaves w p.setting members r vs None)) (sym g.0) g.1)

  -- the end of each exit of a body
  exits : (f : Flow) (x : Exit) (j : Meter) → NoneLeft x → EndsBefore r.result f.ends → n ≤ f.count → Exits w (body_of p r vars) members vs n names [] f x
      → Good (AreTrueBy members (end_of (body_of p r vars) r.result f.ends f.count)) (result_of w (frame_of owed r vs) r.at x j) (Leaves w p.setting members r vs r.result)
  exits f (Went t) j left before le h = ended r.result refl f.ends f.count t j before le h.0
  exits f (Broke t) j left before le h = absurd left
  exits f (Continued at t) j left before le h = absurd left
  exits f (Gave v) j left before le h = h

pub bodies_right : BodiesLeave
bodies_right w p r vars members owed vs takes calls n names rests taken called gives q m k le vals is here decl su left before =
    let b = body_of p r vars in
    let f = exec_all b [] r.body q m in
    let pt : Point m q = record { are = are_data q.vars vals; depends = depend_from m q.vars is.depends; marked = is.marked } in
    let g = block_points b [] r.body q m pt in
    let up : m ≤ f.count = g.grows in
    let last = end_of b r.result f.ends f.count in
    good_bind (AreTrueBy members (f.owed ++ last)) (AreTrueBy members f.owed) (AreTrueBy members last) (run.exec_all w (frame_of owed r vs) r.body (entry_of r vs) k) (result_of w (frame_of owed r vs) r.at)
    (Exits w b members vs n names [] f) (Leaves w p.setting members r vs r.result) (true_left members f.owed last) (true_right members f.owed last)
    (blocks_sound w b members owed vs takes calls n names rests taken called gives [] r.body q m (entry_of r vs) k le vals is here decl su)
    (λ x j e h. exits w p r vars members owed vs n names rests f x j (left x k j e) before (omega (arith, le, up)) h)
