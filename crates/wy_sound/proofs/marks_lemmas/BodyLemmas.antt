-- Bodies of assigned programs, from the point where they begin.
use Rattle.std.proofs.Common.{◌≡◌, inr, ℕ, ◌+◌, List, [], ◌∷◌, Bool, true, false, ◌==◌, Option, Some, None, refl, sym, subst}
use Rattle.std.specs.Prelude.{is_some, slice_get}
use Rattle.wy_assign.proofs.EventLemmas.{uses_more}
use Rattle.wy_core.specs.CoreTree as tree
use Rattle.wy_core.specs.CoreTree.{Param, Routine, Core, routines_of}
use Rattle.wy_sound_programs.specs.wy_vc_spec.Numbered.{Node, numbered_routine}
use Rattle.wy_sound_programs.specs.wy_vc_spec.Sizes.{exprs_in_list}
use Rattle.wy_sound_programs.specs.wy_vc_spec.Walks.{Program}
use Rattle.wy_sound_programs.specs.wy_vc_spec.Spots.{Spot, mark}
use Rattle.wy_sound_programs.specs.wy_vc_spec.Statements.{exec_all}
use Rattle.wy_sound_programs.specs.wy_vc_spec.Programs.{body_of}
use Rattle.wy_assign.specs.Paths.{Falls, StmtsPath}
use Rattle.wy_assign.specs.Assigned.{without_params, all_unset, Ends, IsAssigned}
use Rattle.wy_lemmas.proofs.Choices.{cond_more, given}
use Rattle.wy_sound_programs.specs.Bodies.{EndsBefore}
use Rattle.wy_sound_programs.specs.Begun.{begun}
use Rattle.wy_sound_programs.specs.Entries.{marked_params}
use Rattle.wy_sound_programs.proofs.EntryLemmas.{entries_mark}
use Rattle.wy_sound.specs.marks.Bodies.{BodiesAreReady, BodiesEnd}
use Rattle.wy_sound.proofs.marks_lemmas.MarkLemmas.{unmarked, assigned_unset}
use Rattle.wy_sound.proofs.marks_lemmas.MeetLemmas.{Wide, ReachedIf}
use Rattle.wy_sound.proofs.marks_lemmas.HeadLemmas.{entry_wide}
use Rattle.wy_sound.proofs.marks_lemmas.ReachLemmas.{reaches_all}
use Rattle.wy_sound.proofs.marks_lemmas.CleanLemmas.{Clean}
use Rattle.wy_sound.proofs.marks_lemmas.AlongLemmas.{all_ready}
use Rattle.wy_sound.proofs.marks_lemmas.DeclLemmas.{unset_routine, open_routine}

-- ---- the entry

-- what isn't marked behind parameters has no value behind them
params_unset : (ps : List Param) (set : List Bool) (start : ℕ → Bool) → ((x : ℕ) → unmarked set x ≡ true → start x ≡ true) → (x : ℕ) → unmarked (marked_params ps set) x ≡ true → without_params ps start x ≡ true
params_unset [] set start h x e = h x e
params_unset (p ∷ ps) set start h x e =
    params_unset ps (mark set p.variable true) (given start p.variable)
    (λ y q. cond_more (y == p.variable) false (unmarked set y) (start y) (h y) (assigned_unset set p.variable y q)) x e

begun_wide : (p : Program Node) (n : Routine Node) → Wide (begun p n).spot
begun_wide p n = entry_wide p.setting n

module _ (core : Core ℕ) (assigned : IsAssigned core) (f : ℕ) (r : Routine ℕ) (e : slice_get (routines_of core) f ≡ Some r) where
  -- no path of the body uses a variable without a value
  entry_clean : Clean (StmtsPath r.body) (marked_params r.params [])
  entry_clean x at p end h u =
      assigned.set at (unset_routine core f r at e (inr (inr (
        x,
        p,
        (end, h),
        uses_more x at (unmarked (marked_params r.params []) x) (without_params r.params all_unset x) p (params_unset r.params [] all_unset (λ y q. refl) x) u,
      ))))

  begun_clean : (p : Program Node) (j : ℕ) → Clean (StmtsPath r.body) (begun p (numbered_routine r j)).spot.set
  begun_clean p j = subst (λ (s : List Bool). Clean (StmtsPath r.body) s) (sym (entries_mark p.setting (numbered_routine r j))) entry_clean

pub bodies_ready : BodiesAreReady
bodies_ready core assigned f r e a made p vars j k =
    let n = numbered_routine r j in
    all_ready a (body_of p n vars) r.body k [] (begun p n).spot (begun p n).count (begun_wide p n) (begun_clean core assigned f r e p j) made

-- ---- ends

ends_before : (body : tree.Stmts ℕ) (set : List Bool) (o : Option tree.Output) (ends : Option Spot) → ReachedIf (StmtsPath body) Falls set ends → (is_some o ≡ true → Ends body → ⊥) → EndsBefore o ends
ends_before body set None ends h f = tt
ends_before body set (Some out) None h f = refl
ends_before body set (Some out) (Some q) h f = let w = h.leads 0 in absurd (f refl (w.events, Falls, w.is_way, refl))

pub bodies_end : BodiesEnd
bodies_end core assigned f r e p vars j =
    let n = numbered_routine r j in
    let k = j + exprs_in_list r.preconditions + exprs_in_list r.postconditions in
    let out = reaches_all (body_of p n vars) r.body k [] (begun p n).spot (begun p n).count (begun_wide p n) in
    ends_before r.body (begun p n).spot.set r.result (exec_all (body_of p n vars) [] n.body (begun p n).spot (begun p n).count).ends out.ends
    (λ has ends. assigned.closed r.at (open_routine core f r r.at e (has, refl, ends)))
