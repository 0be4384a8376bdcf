-- The head and the end of a loop.
use Rattle.std.proofs.Common.{◌≡◌, ◌≤◌, ℕ, List, [], ◌∷◌, ◌++◌, length, take, Bool, Option, Some, None, refl, sym, ◌∙◌, ap, subst}
use Rattle.std.proofs.lemmas.List.{append-nil, append_assoc}
use Rattle.std.proofs.lemmas.List.Elements.{All-cons, All-nil}
use Rattle.wy_core.specs.CoreTree as tree
use Rattle.wy_core.specs.CoreTree.{Expr, Stmts}
use Rattle.wy_term.specs.Term.{Term}
use Rattle.wy_term.specs.Nodes.{Plain, tree_at}
use Rattle.wy_term.specs.declared.cond.CondKind.TheVariants as kind
use Rattle.wy_vc_spec.specs.Calls.{Walked}
use Rattle.wy_vc_spec.specs.Clauses.{Passed, passed, owe_clauses}
use Rattle.wy_vc_spec.specs.Joins as joins
use Rattle.wy_vc_spec.specs.Making.{denied, formula}
use Rattle.wy_vc_spec.specs.Numbered.{Node}
use Rattle.wy_vc_spec.specs.Owed.{Owed, assume}
use Rattle.wy_vc_spec.specs.Spots.{Spot, spot, Flow, with_hyps}
use Rattle.wy_vc_spec.specs.Statements as spec
use Rattle.wy_vc_spec.specs.Variables.{Vars}
use Rattle.wy_vc_body.specs.declared.here.Here.{Here}
use Rattle.wy_vc_body.proofs.wy_vc_operations_proofs.GrowingLemmas.{kept_all}
use Rattle.wy_vc_body.specs.wy_vc_terms.declared.maker.Maker.{Maker}
use Rattle.wy_vc_body.specs.wy_vc_exprs.Numbered.{trees_of}
use Rattle.wy_vc_body.specs.wy_vc_exprs.Slots.{AreSlots, slots_of}
use Rattle.wy_vc_body.specs.wy_vc_exprs.State.{IsSound, Steps, hyps_of, owed_of, passed_by}
use Rattle.wy_vc_body.specs.wy_vc_exprs.declared.walk.Walk.{Walk}
use Rattle.wy_vc_body.proofs.wy_vc_exprs_proofs.NumberedLemmas.{kept_then, trees_kept}
use Rattle.wy_vc_body.proofs.wy_vc_exprs_proofs.SlotLemmas.{slots_kept, slots_on}
use Rattle.wy_vc_body.proofs.wy_vc_exprs_proofs.StateLemmas.{steps_noded, steps_on}
use Rattle.wy_vc_body.proofs.PathLemmas.{paths_on}
use Rattle.wy_vc_body.specs.declared.paths.Path.{Path}
use Rattle.wy_vc_body.specs.Paths.{ArePaths, IsPath, IsSpot, Meets, seen_end, seen_ends, spot_of}
use Rattle.wy_vc_body.specs.declared.frame.Frame.{Frame}
use Rattle.wy_vc_body.specs.Frames.{IsFrame, body_at}
use Rattle.wy_vc_body.specs.Going.{Went}
use Rattle.wy_vc_body.specs.Loops.{Renews}
use Rattle.wy_vc_body.proofs.FrameLemmas.{body_kept, spot_behind}
use Rattle.wy_vc_body.proofs.ResultLemmas.{steps_from}
use Rattle.wy_vc.specs.declared.branches.Tested.{Tested}
use Rattle.wy_vc.specs.declared.heads.Head.{Head}
use Rattle.wy_vc.specs.Branches.{IsTested}
use Rattle.wy_vc.specs.Flows.{Flows, Moves, end_of}
use Rattle.wy_vc.specs.Heads.{Begins, Closes, Entered, Enters, Parts, closed, entered, tested}
use Rattle.wy_vc.proofs.EndLemmas.{end_is, ends_kept, front_below}
use Rattle.wy_vc.proofs.MoveLemmas.{front_long, front_whole, le_at, le_from, le_self, le_through, longer_length, moves_as, moves_less, moves_meets, moves_on, moves_renews, moves_steps, moves_went, went_moves}

-- ---- where a turn begins

-- what a walk of clauses at the head goes by
abbrev clauses_at : Frame → List Plain → List (Expr Node) → List (List ℕ) → Vars → List Term → ℕ → Passed
clauses_at frame nodes invariants ws vars hs n = spec.walk_clauses (body_at nodes frame).program ws invariants vars hs n

pub enters_from : (frame : Frame) (at k : ℕ) (invariants : List (Expr Node)) (body : Stmts Node) (ws : List (List ℕ)) (vs us : List (Option ℕ)) (a b c d : Walk) (h h' : Here) → IsFrame a.maker.terms frame → AreSlots a.maker.terms h.vars.items → vs ≡ h.vars.items → us ≡ h'.vars.items → ws ≡ frame.routine.now.variables
    → Steps a b (owe_clauses (body_at a.maker.terms frame).program.setting kind.Entry at frame.routine.now.variables invariants (slots_of a.maker.terms vs) (hyps_of a) a.maker.count)
    → Renews b c h' (spec.renew (body_at b.maker.terms frame) body (spot_of b h) b.maker.count)
    → Steps (record c { maker = record c.maker { node = k } }) d (clauses_at frame a.maker.terms invariants ws (slots_of c.maker.terms us) (hyps_of c) c.maker.count)
    → Enters a d h' (entered (body_at a.maker.terms frame) at invariants body (spot_of a h) a.maker.count)
enters_from frame at k invariants body ws vs us a b c d h h' is slots same_v same_u same_w first second third =
    let B = body_at a.maker.terms frame in
    let P = spot_of a h in
    let S = entered B at invariants body P a.maker.count in
    let E = S.entry in
    let R = S.renewed in
    let I = S.inside in
    let la = length a.hyps.items in
    let first' = subst (λ (l : List (Option ℕ)). Steps a b (owe_clauses B.program.setting kind.Entry at frame.routine.now.variables invariants (slots_of a.maker.terms l) (hyps_of a) a.maker.count)) same_v first in
    let known = spot_behind a b E h first' slots in
    let second' = subst (λ (r : spec.Renewed). Renews b c h' r)
    (ap (λ (y : spec.Body Node). spec.renew y body (spot_of b h) b.maker.count) (body_kept a.maker.terms b.maker.terms first'.kept frame is)
    ∙ ap (λ (p : Spot). spec.renew B body p b.maker.count) known.is ∙ ap (λ (n : ℕ). spec.renew B body (with_hyps E.hyps P) n) first'.count) second in
    let z : Walk = record c { maker = record c.maker { node = k } } in
    let C = λ (w : List (List ℕ)) (vars : Vars) (hs : List Term) (n : ℕ). spec.walk_clauses B.program w invariants vars hs n in
    let third' = subst (λ (p : Passed). Steps c d p)
    (ap (λ (l : List (Option ℕ)). C ws (slots_of c.maker.terms l) (hyps_of c) c.maker.count) same_u
    ∙ ap (λ (w : List (List ℕ)). C w (slots_of c.maker.terms h'.vars.items) (hyps_of c) c.maker.count) same_w
    ∙ ap (λ (p : Spot). C frame.routine.now.variables p.vars p.hyps c.maker.count) second'.spot.is
    ∙ ap (λ (n : ℕ). C frame.routine.now.variables R.spot.vars R.spot.hyps n) second'.count)
    (steps_from z c d (C ws (slots_of c.maker.terms us) (hyps_of c) c.maker.count) refl refl refl third) in
    let lb : la ≤ length b.hyps.items = longer_length a.hyps.items b.hyps.items first'.longer in
    let lc : la ≤ length c.hyps.items = le_through la (length b.hyps.items) (length c.hyps.items) lb (longer_length b.hyps.items c.hyps.items second'.longer) in
    let m_ab = moves_steps a b E la (le_self la) first' in
    let m_bc = moves_renews b c h' R la lb second' in
    let m_cd = moves_steps c d I la lc third' in
    let m_bd = moves_on b c d la R.count I.count [] I.owed m_bc m_cd in
    record {
      moves = moves_on a b d la E.count I.count E.owed I.owed m_ab m_bd;
      spot = subst (λ (p : Spot). IsSpot d h' p) (ap (λ (p : Spot). with_hyps I.hyps p) second'.spot.is) (spot_behind c d I h' third' second'.spot.slots);
    }

-- ---- the test

-- the numbers of its expressions begin at this one
pub tested_from : (frame : Frame) (e : ℕ → Expr Node) (k m : ℕ) (vars : List (Option ℕ)) (a b : Walk) (t : Tested)
    → IsTested (record a { maker = record a.maker { node = k } }) b t (spec.expr (body_at a.maker.terms frame) (e k) (slots_of a.maker.terms vars) (hyps_of a) a.maker.count)
    → IsTested a (record b { maker = record b.maker { node = m } }) t (spec.expr (body_at a.maker.terms frame) (e k) (slots_of a.maker.terms vars) (hyps_of a) a.maker.count)
tested_from frame e k m vars a b t is =
    let w = spec.expr (body_at a.maker.terms frame) (e k) (slots_of a.maker.terms vars) (hyps_of a) a.maker.count in
    let z : Walk = record a { maker = record a.maker { node = k } } in
    let c : Walk = record b { maker = record b.maker { node = m } } in
    record {
      steps = steps_noded a b c (passed_by w) (steps_from z a b (passed_by w) refl refl refl is.steps) refl refl refl refl;
      base = is.base;
      holds = is.holds;
      fails = is.fails;
    }

-- the test is assumed, and the path on which it is false is kept
pub parts_from : (a b c : Walk) (t : Tested) (h : Here) (head : Head) (before after : List Path) (p : Path) → IsSound a → b.maker ≡ a.maker
    → Steps a b (passed a.maker.count (hyps_of a) [])
    → IsPath a.maker.terms p → seen_end a.maker.terms a.hyps.items p ≡ spot (assume (hyps_of a) (tree_at a.maker.terms t.fails)) (slots_of a.maker.terms h.vars.items) h.set.items
    → before ≡ [] → after ≡ before ++ p ∷ []
    → Steps b c (passed b.maker.count (assume (hyps_of b) (tree_at b.maker.terms t.holds)) [])
    → head.base ≡ t.base → head.here ≡ h → head.breaks.items ≡ after
    → Parts a c t h head
parts_from a b c t h head before after p sound maker first is_path value none pushed second base here breaks =
    let T = tree_at a.maker.terms t.holds in
    let F = spot (assume (hyps_of a) (tree_at a.maker.terms t.fails)) (slots_of a.maker.terms h.vars.items) h.set.items in
    let second' = subst (λ (u : Term). Steps b c (passed b.maker.count (assume (hyps_of b) u) [])) (ap (λ (m : Maker). tree_at m.terms t.holds) maker) second in
    let all = steps_on (λ hs n. passed n (assume hs T) []) a b c (passed a.maker.count (hyps_of a) []) first second' in
    let one : head.breaks.items ≡ p ∷ [] = breaks ∙ pushed ∙ ap (λ (l : List Path). l ++ p ∷ []) none in
    let are : ArePaths a.maker.terms (p ∷ []) = All-cons (IsPath a.maker.terms) p [] is_path (All-nil (IsPath a.maker.terms)) in
    record {
      steps = all;
      base = base;
      here = here;
      are = subst (λ (l : List Path). ArePaths c.maker.terms l) (sym one) (paths_on a.maker.terms c.maker.terms all.kept (p ∷ []) are);
      breaks =
          ap (λ (l : List Path). seen_ends c.maker.terms a.hyps.items l) one ∙ ends_kept a.maker.terms c.maker.terms all.kept a.hyps.items (p ∷ []) sound.hyps are
          ∙ ap (λ (q : Spot). q ∷ []) value;
    }

-- ---- the head

pub begins_from : (frame : Frame) (e : Expr Node) (vs : List (Option ℕ)) (s : Entered) (a b c d : Walk) (t : Tested) (h : Here) (head : Head) → IsFrame a.maker.terms frame → vs ≡ h.vars.items
    → Enters a b h s
    → IsTested b c t (spec.expr (body_at b.maker.terms frame) e (slots_of b.maker.terms vs) (hyps_of b) b.maker.count)
    → Parts c d t h head
    → Begins a d head s (tested (body_at a.maker.terms frame) e s)
begins_from frame e vs s a b c d t h head is same enters is_tested parts =
    let B = body_at a.maker.terms frame in
    let v = tested B e s in
    let W = λ (y : spec.Body Node) (vars : Vars) (hs : List Term) (n : ℕ). spec.expr y e vars hs n in
    let walk = subst (λ (w : Walked). IsTested b c t w)
    (ap (λ (l : List (Option ℕ)). W (body_at b.maker.terms frame) (slots_of b.maker.terms l) (hyps_of b) b.maker.count) same
    ∙ ap (λ (y : spec.Body Node). W y (slots_of b.maker.terms h.vars.items) (hyps_of b) b.maker.count) (body_kept a.maker.terms b.maker.terms enters.moves.kept frame is)
    ∙ ap (λ (p : Spot). W B p.vars p.hyps b.maker.count) enters.spot.is
    ∙ ap (λ (n : ℕ). W B s.renewed.spot.vars s.inside.hyps n) enters.moves.count) is_tested in
    let la = length a.hyps.items in
    let lb : la ≤ length b.hyps.items = longer_length a.hyps.items b.hyps.items (front_whole a.hyps.items b.hyps.items enters.moves.front) in
    let lc : la ≤ length c.hyps.items = le_through la (length b.hyps.items) (length c.hyps.items) lb (longer_length b.hyps.items c.hyps.items walk.steps.longer) in
    let ld = longer_length c.hyps.items d.hyps.items parts.steps.longer in
    let at : head.base ≡ length c.hyps.items = parts.base ∙ walk.base in
    let front : take head.base d.hyps.items ≡ c.hyps.items = ap (λ (n : ℕ). take n d.hyps.items) at ∙ parts.steps.longer in
    let PT = passed c.maker.count (assume (hyps_of c) (tree_at c.maker.terms t.holds)) [] in
    let slots_c = slots_on b.maker.terms c.maker.terms walk.steps.kept h.vars.items enters.spot.slots in
    let vars : slots_of c.maker.terms h.vars.items ≡ s.renewed.spot.vars = slots_kept b.maker.terms c.maker.terms walk.steps.kept h.vars.items enters.spot.slots ∙ ap (λ (p : Spot). p.vars) enters.spot.is in
    let set : h.set.items ≡ s.renewed.spot.set = ap (λ (p : Spot). p.set) enters.spot.is in
    let spot_as = λ (u : Term). ap (λ (hs : List Term). spot (assume hs u) (slots_of c.maker.terms h.vars.items) h.set.items) walk.steps.hyps
    ∙ ap (λ (vs' : Vars). spot (assume v.hyps u) vs' h.set.items) vars ∙ ap (λ (bs : List Bool). spot (assume v.hyps u) s.renewed.spot.vars bs) set in
    let where_true : spot (assume (hyps_of c) (tree_at c.maker.terms t.holds)) (slots_of c.maker.terms h.vars.items) h.set.items ≡ spec.where_true v s.renewed.spot =
    ap (λ (u : Term). spot (assume (hyps_of c) u) (slots_of c.maker.terms h.vars.items) h.set.items) walk.holds.is ∙ spot_as (formula v.term) in
    let where_false : spot (assume (hyps_of c) (tree_at c.maker.terms t.fails)) (slots_of c.maker.terms h.vars.items) h.set.items ≡ spec.where_false v s.renewed.spot =
    ap (λ (u : Term). spot (assume (hyps_of c) u) (slots_of c.maker.terms h.vars.items) h.set.items) walk.fails.is ∙ spot_as (denied (formula v.term)) in
    let m_bc = moves_steps b c (passed_by v) la lb walk.steps in
    let m_cd = moves_steps c d PT la lc parts.steps in
    let m_bd = moves_on b c d la v.count c.maker.count v.owed [] m_bc m_cd in
    let m_ad = moves_on a b d la s.inside.count c.maker.count (s.entry.owed ++ s.inside.owed) (v.owed ++ []) enters.moves m_bd in
    record {
      moves = moves_as a d la c.maker.count v.count ((s.entry.owed ++ s.inside.owed) ++ (v.owed ++ [])) (s.entry.owed ++ (s.inside.owed ++ v.owed)) walk.steps.count
          (ap (λ (os : List Owed). (s.entry.owed ++ s.inside.owed) ++ os) (append-nil v.owed) ∙ append_assoc s.entry.owed s.inside.owed v.owed) m_ad;
      before = le_at la (length c.hyps.items) head.base lc at;
      within = le_from (length c.hyps.items) (length d.hyps.items) head.base ld at;
      front =
          ap (λ (l : List ℕ). trees_of d.maker.terms l) front ∙ trees_kept c.maker.terms d.maker.terms parts.steps.kept c.hyps.items walk.steps.sound.hyps ∙ walk.steps.hyps;
      spot = subst (λ (g : Here). IsSpot d g (spec.where_true v s.renewed.spot)) (sym parts.here)
          (subst (λ (p : Spot). IsSpot d h p) where_true (spot_behind c d PT h parts.steps slots_c));
      are = parts.are;
      breaks = ap (λ (l : List ℕ). seen_ends d.maker.terms l head.breaks.items) front ∙ parts.breaks ∙ ap (λ (p : Spot). p ∷ []) where_false;
    }

-- ---- the end

-- no path gets to the end of the body
pub kept_none : (b : spec.Body Node) (at : ℕ) (invariants : List (Expr Node)) (a : Walk) (h : Option Here) → IsSound a → h ≡ None
    → Moves a a (length a.hyps.items) (spec.keep b at invariants (end_of a h) a.maker.count).count (spec.keep b at invariants (end_of a h) a.maker.count).owed
kept_none b at invariants a h sound none =
    subst (λ (o : Option Here). Moves a a (length a.hyps.items) (spec.keep b at invariants (end_of a o) a.maker.count).count (spec.keep b at invariants (end_of a o) a.maker.count).owed) (sym none)
    (record { sound = sound; kept = kept_all a.maker.terms; front = refl; count = refl; owed = sym (append-nil (owed_of a)) })

pub kept_some : (frame : Frame) (at : ℕ) (invariants : List (Expr Node)) (vs : List (Option ℕ)) (a b : Walk) (h : Option Here) (g : Here) → h ≡ Some g → vs ≡ g.vars.items
    → Steps a b (owe_clauses (body_at a.maker.terms frame).program.setting kind.Keep at frame.routine.now.variables invariants (slots_of a.maker.terms vs) (hyps_of a) a.maker.count)
    → Moves a b (length a.hyps.items) (spec.keep (body_at a.maker.terms frame) at invariants (end_of a h) a.maker.count).count (spec.keep (body_at a.maker.terms frame) at invariants (end_of a h) a.maker.count).owed
kept_some frame at invariants vs a b h g some same s =
    let B = body_at a.maker.terms frame in
    let K = λ (l : List (Option ℕ)). owe_clauses B.program.setting kind.Keep at frame.routine.now.variables invariants (slots_of a.maker.terms l) (hyps_of a) a.maker.count in
    subst (λ (o : Option Here). Moves a b (length a.hyps.items) (spec.keep B at invariants (end_of a o) a.maker.count).count (spec.keep B at invariants (end_of a o) a.maker.count).owed) (sym some)
    (moves_steps a b (K g.vars.items) (length a.hyps.items) (le_self (length a.hyps.items)) (subst (λ (l : List (Option ℕ)). Steps a b (K l)) same s))

pub closes_from : (frame : Frame) (at base : ℕ) (invariants : List (Expr Node)) (ws : List (List ℕ)) (paths : List Path) (a b c : Walk) (end h : Option Here) → IsSound a → base ≤ length a.hyps.items → ArePaths a.maker.terms paths → ws ≡ frame.routine.now.variables
    → Moves a b (length a.hyps.items) (spec.keep (body_at a.maker.terms frame) at invariants (end_of a end) a.maker.count).count (spec.keep (body_at a.maker.terms frame) at invariants (end_of a end) a.maker.count).owed
    → Meets b c base h (joins.meet ws (trees_of b.maker.terms (take base b.hyps.items)) (seen_ends b.maker.terms (take base b.hyps.items) paths) b.maker.count)
    → Closes a c base h (closed (body_at a.maker.terms frame) at invariants (trees_of a.maker.terms (take base a.hyps.items)) (seen_ends a.maker.terms (take base a.hyps.items) paths) (end_of a end) a.maker.count)
closes_from frame at base invariants ws paths a b c end h sound le are same kept meets =
    let B = body_at a.maker.terms frame in
    let K = spec.keep B at invariants (end_of a end) a.maker.count in
    let bs = take base a.hyps.items in
    let below = front_below a base sound in
    let first = moves_less a b base (length a.hyps.items) K.count K.owed le kept in
    let J = λ (w : List (List ℕ)) (ts : List Term) (ps : List Spot) (n : ℕ). joins.meet w ts ps n in
    let M = J frame.routine.now.variables (trees_of a.maker.terms bs) (seen_ends a.maker.terms bs paths) K.count in
    let meets' = subst (λ (m : joins.Met). Meets b c base h m)
    (ap (λ (w : List (List ℕ)). J w (trees_of b.maker.terms (take base b.hyps.items)) (seen_ends b.maker.terms (take base b.hyps.items) paths) b.maker.count) same
    ∙ ap (λ (l : List ℕ). J frame.routine.now.variables (trees_of b.maker.terms l) (seen_ends b.maker.terms l paths) b.maker.count) first.front
    ∙ ap (λ (ts : List Term). J frame.routine.now.variables ts (seen_ends b.maker.terms bs paths) b.maker.count) (trees_kept a.maker.terms b.maker.terms kept.kept bs below)
    ∙ ap (λ (ps : List Spot). J frame.routine.now.variables (trees_of a.maker.terms bs) ps b.maker.count) (ends_kept a.maker.terms b.maker.terms kept.kept bs paths below are)
    ∙ ap (λ (n : ℕ). J frame.routine.now.variables (trees_of a.maker.terms bs) (seen_ends a.maker.terms bs paths) n) kept.count) meets in
    record {
      moves = moves_as a c base M.count M.count (K.owed ++ []) K.owed refl (append-nil K.owed) (moves_on a b c base K.count M.count K.owed [] first (moves_meets b c base h M meets'));
      ends = meets'.ends;
    }

-- ---- a loop, from its parts

pub while_went : (frame : Frame) (around invariants : List (Expr Node)) (at : ℕ) (e : Expr Node) (body : Stmts Node) (a b c f : Walk) (h : Here) (head : Head) (qs : List Path) (end o : Option Here) → IsFrame a.maker.terms frame
    → Begins a b head (entered (body_at a.maker.terms frame) at invariants body (spot_of a h) a.maker.count) (tested (body_at a.maker.terms frame) e (entered (body_at a.maker.terms frame) at invariants body (spot_of a h) a.maker.count))
    → Flows b c head.base head.breaks.items qs end (spec.exec_all (body_at b.maker.terms frame) invariants body (spot_of b head.here) b.maker.count)
    → Closes c f head.base o (closed (body_at c.maker.terms frame) at invariants (trees_of c.maker.terms (take head.base c.hyps.items)) (seen_ends c.maker.terms (take head.base c.hyps.items) qs) (end_of c end) c.maker.count)
    → Went a f o (spec.exec (body_at a.maker.terms frame) around (tree.WhileStmt at e invariants body) (spot_of a h) a.maker.count)
while_went frame around invariants at e body a b c f h head qs end o is begins flows closes =
    let B = body_at a.maker.terms frame in
    let s = entered B at invariants body (spot_of a h) a.maker.count in
    let v = tested B e s in
    let base = head.base in
    let begun = spec.where_true v s.renewed.spot in
    let T = spec.exec_all B invariants body begun v.count in
    let flows' = subst (λ (x : Flow). Flows b c base head.breaks.items qs end x)
    (ap (λ (y : spec.Body Node). spec.exec_all y invariants body (spot_of b head.here) b.maker.count) (body_kept a.maker.terms b.maker.terms begins.moves.kept frame is)
    ∙ ap (λ (p : Spot). spec.exec_all B invariants body p b.maker.count) begins.spot.is
    ∙ ap (λ (n : ℕ). spec.exec_all B invariants body begun n) begins.moves.count) flows in
    let kept_bc = flows'.went.kept in
    let bc = front_long base b.hyps.items c.hyps.items begins.within flows'.went.longer in
    let sound_b = begins.moves.sound in
    let C = λ (y : spec.Body Node) (ts : List Term) (ps : List Spot) (x : Option Spot) (n : ℕ). closed y at invariants ts ps x n in
    let left = spec.where_false v s.renewed.spot ∷ T.breaks in
    let paths : seen_ends c.maker.terms (take base c.hyps.items) qs ≡ left =
    ap (λ (l : List ℕ). seen_ends c.maker.terms l qs) bc ∙ flows'.breaks ∙ ap (λ (ps : List Spot). ps ++ T.breaks) begins.breaks in
    let trees : trees_of c.maker.terms (take base c.hyps.items) ≡ v.hyps =
    ap (λ (l : List ℕ). trees_of c.maker.terms l) bc ∙ trees_kept b.maker.terms c.maker.terms kept_bc (take base b.hyps.items) (front_below b base sound_b) ∙ begins.front in
    let X = C B v.hyps left T.ends T.count in
    let closes' = subst (λ (x : Flow). Closes c f base o x)
    (ap (λ (y : spec.Body Node). C y (trees_of c.maker.terms (take base c.hyps.items)) (seen_ends c.maker.terms (take base c.hyps.items) qs) (end_of c end) c.maker.count) (body_kept a.maker.terms c.maker.terms (kept_then begins.moves.kept kept_bc) frame is)
    ∙ ap (λ (ts : List Term). C B ts (seen_ends c.maker.terms (take base c.hyps.items) qs) (end_of c end) c.maker.count) trees
    ∙ ap (λ (ps : List Spot). C B v.hyps ps (end_of c end) c.maker.count) paths
    ∙ ap (λ (x : Option Spot). C B v.hyps left x c.maker.count) (end_is c end T.ends flows'.went.ends)
    ∙ ap (λ (n : ℕ). C B v.hyps left T.ends n) flows'.went.count) closes in
    let la = length a.hyps.items in
    let lb : la ≤ length b.hyps.items = le_through la base (length b.hyps.items) begins.before begins.within in
    let V = s.entry.owed ++ (s.inside.owed ++ v.owed) in
    let m_bc = moves_went b c end T la lb flows'.went in
    let m_cf = moves_less c f la base X.count X.owed begins.before closes'.moves in
    let m_bf = moves_on b c f la T.count X.count T.owed X.owed m_bc m_cf in
    let m_af = moves_on a b f la v.count X.count V (T.owed ++ X.owed) begins.moves m_bf in
    let all = moves_as a f la X.count X.count (V ++ (T.owed ++ X.owed)) (s.entry.owed ++ (s.inside.owed ++ (v.owed ++ (T.owed ++ X.owed)))) refl
    (append_assoc s.entry.owed (s.inside.owed ++ v.owed) (T.owed ++ X.owed) ∙ ap (λ (os : List Owed). s.entry.owed ++ os) (append_assoc s.inside.owed v.owed (T.owed ++ X.owed))) m_af in
    went_moves a f o (spec.exec B around (tree.WhileStmt at e invariants body) (spot_of a h) a.maker.count) all closes'.ends

-- the node that comes next makes no difference
pub renewed_sound : (k : ℕ) (a : Walk) → IsSound a → IsSound (record a { maker = record a.maker { node = k } })
renewed_sound k a s = record { hyps = s.hyps; owed = s.owed }
