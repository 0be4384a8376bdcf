-- Statements that hold no others.
use Rattle.std.proofs.Common.{◌≡◌, ◌<◌, ℕ, suc, List, [], ◌∷◌, ◌++◌, map, length, drop, Bool, false, Option, Some, None, refl, sym, ◌∙◌, ap, subst, arith}
use Rattle.std.proofs.lemmas.List.{append-nil, take_all}
use Rattle.std.proofs.lemmas.List.Elements.{All-nil}
use Rattle.wy_core.specs.Types.{Ty}
use Rattle.wy_core.specs.CoreTree as tree
use Rattle.wy_term.specs.Term.{Term}
use Rattle.wy_term.specs.Nodes.{Plain, tree_at}
use Rattle.wy_term.specs.declared.cond.CondKind.TheVariants as kind
use Rattle.wy_vc_spec.specs.Calls.{Walked, call_walk}
use Rattle.wy_vc_spec.specs.Clauses.{Passed, passed, owe_clauses}
use Rattle.wy_vc_spec.specs.Making.{any_of, falsehood, formula, val_name}
use Rattle.wy_vc_spec.specs.Numbered.{Node, numbered, numbered_all}
use Rattle.wy_vc_spec.specs.Owed.{assume, owe}
use Rattle.wy_vc_spec.specs.Spots as spots
use Rattle.wy_vc_spec.specs.Spots.{Spot, spot, Flow, goes, stops, mark}
use Rattle.wy_vc_spec.specs.Statements as spec
use Rattle.wy_vc_spec.specs.Values.{word_at}
use Rattle.wy_vc_spec.specs.Variables.{Vars, put}
use Rattle.wy_vc_body.specs.wy_vc_exprs.Walking.{walk_all_of, walk_of}
use Rattle.wy_vc_body.proofs.wy_vc_operations_proofs.GrowingLemmas.{kept_all}
use Rattle.wy_vc_body.specs.wy_vc_operations.Growing.{AreAt, AreBelow, Makes}
use Rattle.wy_vc_body.specs.declared.here.Here.{Here}
use Rattle.wy_vc_body.specs.wy_vc_exprs.Numbered.{trees_of}
use Rattle.wy_vc_body.specs.wy_vc_exprs.Slots.{AreSlots, slots_of}
use Rattle.wy_vc_body.specs.wy_vc_exprs.State.{IsSound, Steps, Walks, WalksAll, hyps_of, owed_of, passed_by}
use Rattle.wy_vc_body.specs.wy_vc_exprs.declared.walk.Walk.{Walk}
use Rattle.wy_vc_body.proofs.wy_vc_exprs_proofs.SlotLemmas.{are_put, slots_kept, slots_on, slots_put}
use Rattle.wy_vc_body.proofs.wy_vc_exprs_proofs.StateLemmas.{owed_before, steps_as, steps_made, steps_on}
use Rattle.wy_vc_body.proofs.wy_vc_exprs_proofs.WalkLemmas.{walks_many}
use Rattle.wy_vc_body.specs.declared.paths.Path.{Path}
use Rattle.wy_vc_body.specs.Paths.{ArePaths, spot_of}
use Rattle.wy_vc_body.specs.declared.frame.Frame.{Frame}
use Rattle.wy_vc_body.specs.Frames.{IsFrame, body_at}
use Rattle.wy_vc_body.specs.Going.{Went}
use Rattle.wy_vc_body.proofs.AssignLemmas.{steps_then_made}
use Rattle.wy_vc_body.proofs.FrameLemmas.{body_kept, went_goes, went_stops, spot_behind}
use Rattle.wy_vc_body.proofs.ValueLemmas.{given_walked}
use Rattle.wy_vc.specs.Flows.{Flows}
use Rattle.wy_vc.proofs.EndLemmas.{way_is, way_ok}

-- ---- expressions of the body

-- an expression is walked by the words and the terms of variables of the body
pub walked_by : (frame : Frame) (e : tree.Expr ℕ) (ws : List (List ℕ)) (vs vars : List (Option ℕ)) (a b : Walk) (r : ℕ) → ws ≡ frame.routine.now.variables → vs ≡ vars
    → Walks a b r (walk_of frame.core.now frame.program.now ws e a.maker.node (slots_of a.maker.terms vs) (hyps_of a) a.maker.count)
    → Walks a b r (spec.expr (body_at a.maker.terms frame) (numbered e a.maker.node) (slots_of a.maker.terms vars) (hyps_of a) a.maker.count)
walked_by frame e ws vs vars a b r words slots w =
    subst (λ (l : List (Option ℕ)). Walks a b r (walk_of frame.core.now frame.program.now frame.routine.now.variables e a.maker.node (slots_of a.maker.terms l) (hyps_of a) a.maker.count)) slots
    (subst (λ (l : List (List ℕ)). Walks a b r (walk_of frame.core.now frame.program.now l e a.maker.node (slots_of a.maker.terms vs) (hyps_of a) a.maker.count)) words w)

pub walked_all_by : (frame : Frame) (es : tree.Exprs ℕ) (ws : List (List ℕ)) (vs vars : List (Option ℕ)) (a b : Walk) (ks : List ℕ) → ws ≡ frame.routine.now.variables → vs ≡ vars
    → WalksAll a b ks (walk_all_of frame.core.now frame.program.now ws es a.maker.node (slots_of a.maker.terms vs) (hyps_of a) a.maker.count)
    → WalksAll a b ks (walk_all_of frame.core.now frame.program.now frame.routine.now.variables es a.maker.node (slots_of a.maker.terms vars) (hyps_of a) a.maker.count)
walked_all_by frame es ws vs vars a b ks words slots w =
    subst (λ (l : List (Option ℕ)). WalksAll a b ks (walk_all_of frame.core.now frame.program.now frame.routine.now.variables es a.maker.node (slots_of a.maker.terms l) (hyps_of a) a.maker.count)) slots
    (subst (λ (l : List (List ℕ)). WalksAll a b ks (walk_all_of frame.core.now frame.program.now l es a.maker.node (slots_of a.maker.terms vs) (hyps_of a) a.maker.count)) words w)

-- ---- declarations

-- the variable takes a new name
pub declared_went : (words : List (List ℕ)) (x name : ℕ) (a b : Walk) (h h' : Here) → IsSound a → AreSlots a.maker.terms h.vars.items
    → Makes a.maker.terms b.maker.terms name (val_name (word_at words x) a.maker.count) → b.maker.count ≡ suc a.maker.count → b.hyps.items ≡ a.hyps.items → b.owed.items ≡ a.owed.items
    → h'.vars.items ≡ put h.vars.items x name → h'.set.items ≡ mark h.set.items x false
    → Went a b (Some h') (goes (suc a.maker.count) (spots.declare x (val_name (word_at words x) a.maker.count) (spot_of a h)) [])
declared_went words x name a b h h' sound slots made count hyps owed vars set =
    let N = val_name (word_at words x) a.maker.count in
    let nodes = b.maker.terms in
    let s = steps_made a b sound made.kept hyps owed in
    record {
      sound = s.sound;
      kept = made.kept;
      longer = s.longer;
      count = count;
      owed = s.owed;
      ends = record {
        slots = subst (λ (vs : List (Option ℕ)). AreSlots nodes vs) (sym vars) (are_put nodes h.vars.items x name (slots_on a.maker.terms nodes made.kept h.vars.items slots) made.here.within);
        is =
            ap (λ (hs : List Term). spot hs (slots_of nodes h'.vars.items) h'.set.items) s.hyps
            ∙ ap (λ (vs : Vars). spot (hyps_of a) vs h'.set.items)
            (ap (λ (vs : List (Option ℕ)). slots_of nodes vs) vars ∙ slots_put nodes h.vars.items x name
            ∙ ap (λ (vs : Vars). put vs x (tree_at nodes name)) (slots_kept a.maker.terms nodes made.kept h.vars.items slots) ∙ ap (λ (t : Term). put (slots_of a.maker.terms h.vars.items) x t) made.here.is)
            ∙ ap (λ (bs : List Bool). spot (hyps_of a) (put (slots_of a.maker.terms h.vars.items) x N) bs) set;
      };
    }

-- a value comes into the variable
pub valued_went : (frame : Frame) (around : List (tree.Expr Node)) (at : ℕ) (t : Ty) (x r : ℕ) (e : tree.Expr Node) (a b c : Walk) (h h' : Here) → IsFrame a.maker.terms frame → AreSlots a.maker.terms h.vars.items
    → Walks a b r (spec.expr (body_at a.maker.terms frame) e (slots_of a.maker.terms h.vars.items) (hyps_of a) a.maker.count)
    → Went b c (Some h') (spec.given (body_at b.maker.terms frame) at t x (tree_at b.maker.terms r) [] (spot_of b h) (hyps_of b) b.maker.count)
    → Went a c (Some h') (spec.exec (body_at a.maker.terms frame) around (tree.DeclareStmt at t x (Some e)) (spot_of a h) a.maker.count)
valued_went frame around at t x r e a b c h h' is slots walk went =
    let B = body_at a.maker.terms frame in
    given_walked B at t x r (spec.expr B e (slots_of a.maker.terms h.vars.items) (hyps_of a) a.maker.count) a b c h h' slots walk
    (subst (λ (y : spec.Body Node). Went b c (Some h') (spec.given y at t x (tree_at b.maker.terms r) [] (spot_of b h) (hyps_of b) b.maker.count)) (body_kept a.maker.terms b.maker.terms walk.steps.kept frame is) went)

-- ---- calls

pub called_went : (frame : Frame) (around : List (tree.Expr Node)) (at f r : ℕ) (es : tree.Exprs ℕ) (ks gs : List ℕ) (a b c : Walk) (h : Here) → AreSlots a.maker.terms h.vars.items
    → WalksAll a b ks (walk_all_of frame.core.now frame.program.now frame.routine.now.variables es a.maker.node (slots_of a.maker.terms h.vars.items) (hyps_of a) a.maker.count)
    → gs ≡ ks
    → Walks b c r (call_walk (body_at a.maker.terms frame).program.setting (body_at a.maker.terms frame).program.routines f at (trees_of b.maker.terms gs) (hyps_of b) b.maker.count)
    → Went a c (Some h) (spec.exec (body_at a.maker.terms frame) around (tree.CallStmt at f (numbered_all es a.maker.node)) (spot_of a h) a.maker.count)
called_went frame around at f r es ks gs a b c h slots first same second =
    let B = body_at a.maker.terms frame in
    let G : List Term → List Term → ℕ → Walked = λ ts hs n. call_walk B.program.setting B.program.routines f at ts hs n in
    let w = walk_all_of frame.core.now frame.program.now frame.routine.now.variables es a.maker.node (slots_of a.maker.terms h.vars.items) (hyps_of a) a.maker.count in
    let second' = subst (λ (l : List ℕ). Walks b c r (G (trees_of b.maker.terms l) (hyps_of b) b.maker.count)) same second in
    let all = walks_many G a b c ks r w first second' in
    let P = passed_by (owed_before w.owed (G w.terms w.hyps w.count)) in
    went_goes a c P h (spot P.hyps (slots_of a.maker.terms h.vars.items) h.set.items) all.steps (spot_behind a c P h all.steps slots)

-- ---- `return`

pub returned_went : (frame : Frame) (around : List (tree.Expr Node)) (at r : ℕ) (e : tree.Expr Node) (a b c : Walk) (h : Here) → IsFrame a.maker.terms frame
    → Walks a b r (spec.expr (body_at a.maker.terms frame) e (slots_of a.maker.terms h.vars.items) (hyps_of a) a.maker.count)
    → Steps b c (spec.leave (body_at b.maker.terms frame) at (Some (tree_at b.maker.terms r)) (hyps_of b) b.maker.count)
    → Went a c None (spec.exec (body_at a.maker.terms frame) around (tree.ReturnStmt at (Some e)) (spot_of a h) a.maker.count)
returned_went frame around at r e a b c h is walk left =
    let B = body_at a.maker.terms frame in
    let w = spec.expr B e (slots_of a.maker.terms h.vars.items) (hyps_of a) a.maker.count in
    let left1 = subst (λ (y : spec.Body Node). Steps b c (spec.leave y at (Some (tree_at b.maker.terms r)) (hyps_of b) b.maker.count)) (body_kept a.maker.terms b.maker.terms walk.steps.kept frame is) left in
    let left2 = subst (λ (t : Term). Steps b c (spec.leave B at (Some t) (hyps_of b) b.maker.count)) walk.is.is left1 in
    let out = spec.leave B at (Some w.term) w.hyps w.count in
    went_stops a c (passed out.count out.hyps (w.owed ++ out.owed)) (steps_on (λ hs n. spec.leave B at (Some w.term) hs n) a b c (passed_by w) walk.steps left2)

-- ---- `assert` and `fail`

pub held_went : (frame : Frame) (around : List (tree.Expr Node)) (at r f : ℕ) (e : tree.Expr Node) (a b c d : Walk) (h : Here) → AreSlots a.maker.terms h.vars.items
    → Walks a b r (spec.expr (body_at a.maker.terms frame) e (slots_of a.maker.terms h.vars.items) (hyps_of a) a.maker.count)
    → Makes b.maker.terms c.maker.terms f (formula (tree_at b.maker.terms r)) → c.hyps.items ≡ b.hyps.items → c.owed.items ≡ b.owed.items → c.maker.count ≡ b.maker.count
    → Steps c d (passed c.maker.count (assume (hyps_of c) (tree_at c.maker.terms f)) (owe kind.Assert at (hyps_of c) (tree_at c.maker.terms f ∷ [])))
    → Went a d (Some h) (spec.exec (body_at a.maker.terms frame) around (tree.AssertStmt at e) (spot_of a h) a.maker.count)
held_went frame around at r f e a b c d h slots walk made hyps owed count s =
    let w = spec.expr (body_at a.maker.terms frame) e (slots_of a.maker.terms h.vars.items) (hyps_of a) a.maker.count in
    let F = formula w.term in
    let G : List Term → ℕ → Passed = λ hs n. passed n (assume hs F) (owe kind.Assert at hs (F ∷ [])) in
    let s' = subst (λ (t : Term). Steps c d (passed c.maker.count (assume (hyps_of c) t) (owe kind.Assert at (hyps_of c) (t ∷ [])))) (made.here.is ∙ ap formula walk.is.is) s in
    let all = steps_on G a c d (passed_by w) (steps_then_made a b c (passed_by w) walk.steps made.kept hyps owed count) s' in
    let P = passed w.count (assume w.hyps F) (w.owed ++ owe kind.Assert at w.hyps (F ∷ [])) in
    went_goes a d P h (spot P.hyps (slots_of a.maker.terms h.vars.items) h.set.items) all (spot_behind a d P h all slots)

-- no formulas
pub none_at : (nodes : List Plain) (ks : List ℕ) → ks ≡ [] → AreAt nodes ks []
none_at nodes ks none = record {
  within = subst (λ (l : List ℕ). AreBelow (length nodes) l) (sym none) (All-nil (λ k. k < length nodes));
  are = ap (λ (l : List ℕ). map (tree_at nodes) l) none;
}

pub never_went : (body : spec.Body Node) (around : List (tree.Expr Node)) (at f : ℕ) (a b c : Walk) (h : Here) → IsSound a
    → Makes a.maker.terms b.maker.terms f (any_of []) → b.hyps.items ≡ a.hyps.items → b.owed.items ≡ a.owed.items → b.maker.count ≡ a.maker.count
    → Steps b c (passed b.maker.count (assume (hyps_of b) (tree_at b.maker.terms f)) (owe kind.Fail at (hyps_of b) (tree_at b.maker.terms f ∷ [])))
    → Went a c None (spec.exec body around (tree.FailStmt at) (spot_of a h) a.maker.count)
never_went body around at f a b c h sound made hyps owed count s =
    let G : List Term → ℕ → Passed = λ hs n. passed n (assume hs falsehood) (owe kind.Fail at hs (falsehood ∷ [])) in
    let s' = subst (λ (t : Term). Steps b c (passed b.maker.count (assume (hyps_of b) t) (owe kind.Fail at (hyps_of b) (t ∷ [])))) made.here.is s in
    let all = steps_on G a b c (passed b.maker.count (hyps_of a) []) (steps_made a b sound made.kept hyps owed) s' in
    went_stops a c (G (hyps_of a) a.maker.count) (steps_as a c (G (hyps_of a) b.maker.count) (G (hyps_of a) a.maker.count) (ap (λ (n : ℕ). G (hyps_of a) n) count) all)

-- ---- `break` and `continue`

pub broken_flows : (a : Walk) (h : Here) (base : ℕ) (ps qs : List Path) (p : Path) → IsSound a → AreSlots a.maker.terms h.vars.items → ArePaths a.maker.terms ps → qs ≡ ps ++ p ∷ []
    → p.since.items ≡ drop base a.hyps.items → p.here.vars.items ≡ h.vars.items → p.here.set.items ≡ h.set.items
    → Flows a a base ps qs None (spots.leaves a.maker.count (spot_of a h))
broken_flows a h base ps qs p sound slots are is since vars set = record {
  went = record {
    sound = sound;
    kept = kept_all a.maker.terms;
    longer = take_all (length a.hyps.items) a.hyps.items (omega arith);
    count = refl;
    owed = sym (append-nil (owed_of a));
    ends = tt;
  };
  paths = way_ok a h base ps qs p sound slots are is since vars;
  breaks = way_is a h base ps qs p is since vars set;
}

pub again_went : (frame : Frame) (invariants : List (tree.Expr Node)) (at : ℕ) (vs : List (Option ℕ)) (a b : Walk) (h : Here) → vs ≡ h.vars.items
    → Steps a b (owe_clauses (body_at a.maker.terms frame).program.setting kind.Keep at frame.routine.now.variables invariants (slots_of a.maker.terms vs) (hyps_of a) a.maker.count)
    → Went a b None (spec.exec (body_at a.maker.terms frame) invariants (tree.ContinueStmt at) (spot_of a h) a.maker.count)
again_went frame invariants at vs a b h same s =
    let K = λ (l : List (Option ℕ)). owe_clauses (body_at a.maker.terms frame).program.setting kind.Keep at frame.routine.now.variables invariants (slots_of a.maker.terms l) (hyps_of a) a.maker.count in
    went_stops a b (K h.vars.items) (subst (λ (l : List (Option ℕ)). Steps a b (K l)) same s)
