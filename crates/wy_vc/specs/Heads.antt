-- The head and the end of a loop.
use Rattle.std.specs.Prelude.{◌≡◌, ◌≤◌, ℕ, List, [], ◌∷◌, ◌++◌, length, take, Option}
use Rattle.wy_core.specs.CoreTree.{Expr, Stmts}
use Rattle.wy_term.specs.Nodes.{tree_at}
use Rattle.wy_term.specs.Term.{Term}
use Rattle.wy_term.specs.declared.cond.CondKind.TheVariants as kind
use Rattle.wy_vc_spec.specs.Calls.{Walked}
use Rattle.wy_vc_spec.specs.Clauses.{Passed, passed, owe_clauses}
use Rattle.wy_vc_spec.specs.Joins.{meet}
use Rattle.wy_vc_spec.specs.Owed.{assume}
use Rattle.wy_vc_spec.specs.Spots.{Spot, spot, with_hyps, Flow}
use Rattle.wy_vc_spec.specs.Statements as spec
use Rattle.wy_vc_body.specs.declared.here.Here.{Here}
use Rattle.wy_vc_body.specs.wy_vc_exprs.Numbered.{trees_of}
use Rattle.wy_vc_body.specs.wy_vc_exprs.Slots.{slots_of}
use Rattle.wy_vc_body.specs.wy_vc_exprs.State.{Steps, hyps_of}
use Rattle.wy_vc_body.specs.wy_vc_exprs.declared.walk.Walk.{Walk}
use Rattle.wy_vc_body.specs.Paths.{ArePaths, IsEnd, IsSpot, seen_ends}
use Rattle.wy_vc.specs.declared.branches.Tested.{Tested}
use Rattle.wy_vc.specs.declared.heads.Head.{Head}
use Rattle.wy_vc.specs.Flows.{Moves}

-- what the head of a loop comes to: what its invariants owe at entry, where a turn begins, and what they owe there
pub record Entered : Type 0 where
  pub entry : Passed
  pub renewed : spec.Renewed
  pub inside : Passed

abbrev pub entered : {N : Type 0} → spec.Body N → ℕ → List (Expr N) → Stmts N → Spot → ℕ → Entered
entered b at invariants body p n =
    let entry = owe_clauses b.program.setting kind.Entry at (spec.words b) invariants p.vars p.hyps n in
    let head = spec.renew b body (with_hyps entry.hyps p) entry.count in
    record { entry = entry; renewed = head; inside = spec.walk_clauses b.program (spec.words b) invariants head.spot.vars head.spot.hyps head.count }

-- the test of the loop behind that
abbrev pub tested : {N : Type 0} → spec.Body N → Expr N → Entered → Walked
tested b e s = spec.expr b e s.renewed.spot.vars s.inside.hyps s.inside.count

-- the invariants hold at entry, and again where a turn begins
pub record Enters (old new : Walk) (h : Here) (s : Entered) : Type 0 where
  pub moves : Moves old new (length old.hyps.items) s.inside.count (s.entry.owed ++ s.inside.owed)
  pub spot : IsSpot new h (with_hyps s.inside.hyps s.renewed.spot)

-- the test is assumed; of the paths behind the loop there is the one on which the test is false
pub record Parts (old new : Walk) (t : Tested) (h : Here) (head : Head) : Type 0 where
  pub steps : Steps old new (passed old.maker.count (assume (hyps_of old) (tree_at old.maker.terms t.holds)) [])
  pub base : head.base ≡ t.base
  pub here : head.here ≡ h
  pub are : ArePaths new.maker.terms head.breaks.items
  pub breaks : seen_ends new.maker.terms old.hyps.items head.breaks.items ≡ spot (assume (hyps_of old) (tree_at old.maker.terms t.fails)) (slots_of old.maker.terms h.vars.items) h.set.items ∷ []

-- the head was walked, and of the paths behind the loop there is the one on which the test is false
pub record Begins (old new : Walk) (head : Head) (s : Entered) (v : Walked) : Type 0 where
  pub moves : Moves old new (length old.hyps.items) v.count (s.entry.owed ++ (s.inside.owed ++ v.owed))
  pub before : length old.hyps.items ≤ head.base
  pub within : head.base ≤ length new.hyps.items
  pub front : trees_of new.maker.terms (take head.base new.hyps.items) ≡ v.hyps
  pub spot : IsSpot new head.here (spec.where_true v s.renewed.spot)
  pub are : ArePaths new.maker.terms head.breaks.items
  pub breaks : seen_ends new.maker.terms (take head.base new.hyps.items) head.breaks.items ≡ spec.where_false v s.renewed.spot ∷ []

-- behind the body of a loop that began behind these hypotheses: its invariants hold again, and these paths come together
abbrev pub closed : {N : Type 0} → spec.Body N → ℕ → List (Expr N) → List Term → List Spot → Option Spot → ℕ → Flow
closed b at invariants base paths end n =
    let kept = spec.keep b at invariants end n in
    let met = meet (spec.words b) base paths kept.count in
    record { count = met.count; ends = met.ends; breaks = []; owed = kept.owed }

-- the paths behind the loop have come together; of the hypotheses the first so many stay
pub record Closes (old new : Walk) (base : ℕ) (h : Option Here) (f : Flow) : Type 0 where
  pub moves : Moves old new base f.count f.owed
  pub ends : IsEnd new h f.ends
