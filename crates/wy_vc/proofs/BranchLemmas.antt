-- The sides of a branch.
use Rattle.std.proofs.Common.{All, Vec, ◌≡◌, ◌<◌, ◌≤◌, ℕ, List, [], ◌++◌, map, length, take, drop, Bool, Option, refl, sym, ◌∙◌, ap, subst}
use Rattle.std.specs.declared.alloc.Global.{Global}
use Rattle.std.proofs.lemmas.List.{append-nil, append_assoc, length-take-le}
use Rattle.wy_core.specs.CoreTree as tree
use Rattle.wy_term.specs.Term.{Term}
use Rattle.wy_term.specs.Nodes.{Plain, tree_at}
use Rattle.wy_vc_spec.specs.Calls.{Walked}
use Rattle.wy_vc_spec.specs.Clauses.{Passed, passed}
use Rattle.wy_vc_spec.specs.Joins as joins
use Rattle.wy_vc_spec.specs.Making.{denied, formula}
use Rattle.wy_vc_spec.specs.Numbered.{Node}
use Rattle.wy_vc_spec.specs.Owed.{Owed, assume}
use Rattle.wy_vc_spec.specs.Spots.{Spot, spot, Flow, as_list}
use Rattle.wy_vc_spec.specs.Statements as spec
use Rattle.wy_vc_spec.specs.Variables.{Vars}
use Rattle.wy_vc_body.proofs.wy_vc_operations_proofs.GrowingLemmas.{here_kept}
use Rattle.wy_vc_body.specs.wy_vc_operations.Growing.{Kept, AreBelow, Makes}
use Rattle.wy_vc_body.specs.declared.here.Here.{Here}
use Rattle.wy_vc_body.specs.wy_vc_terms.declared.maker.Maker.{Maker}
use Rattle.wy_vc_body.specs.wy_vc_exprs.Numbered.{trees_of}
use Rattle.wy_vc_body.specs.wy_vc_exprs.Slots.{AreSlots, slots_of}
use Rattle.wy_vc_body.specs.wy_vc_exprs.State.{IsGoal, IsSound, Steps, Walks, hyps_of, owed_of, passed_by, seen_goal}
use Rattle.wy_vc_body.specs.wy_vc_exprs.declared.goal.Goal.{Goal}
use Rattle.wy_vc_body.specs.wy_vc_exprs.declared.walk.Walk.{Walk}
use Rattle.wy_vc_body.proofs.wy_vc_exprs_proofs.NumberedLemmas.{below_on, kept_then, trees_kept}
use Rattle.wy_vc_body.proofs.wy_vc_exprs_proofs.SlotLemmas.{slots_kept}
use Rattle.wy_vc_body.proofs.wy_vc_exprs_proofs.StateLemmas.{steps_as, steps_cut, steps_on}
use Rattle.wy_vc_body.proofs.PathLemmas.{paths_on}
use Rattle.wy_vc_body.specs.declared.paths.Path.{Path}
use Rattle.wy_vc_body.specs.Paths.{ArePaths, IsPath, Meets, seen_end, seen_ends, spot_of}
use Rattle.wy_vc_body.specs.declared.frame.Frame.{Frame}
use Rattle.wy_vc_body.specs.Frames.{IsFrame, body_at}
use Rattle.wy_vc_body.proofs.AssignLemmas.{steps_then_made}
use Rattle.wy_vc_body.proofs.FrameLemmas.{body_kept, spot_behind}
use Rattle.wy_vc.specs.declared.branches.Fork.{Fork}
use Rattle.wy_vc.specs.declared.branches.Tested.{Tested}
use Rattle.wy_vc.specs.Branches.{Forks, IsTested, Turns}
use Rattle.wy_vc.specs.Flows.{Flows, end_of}
use Rattle.wy_vc.proofs.EndLemmas.{end_is, ends_kept, front_below, path_is, path_ok}
use Rattle.wy_vc.proofs.MoveLemmas.{front_less, front_long, le_at, le_from, le_self, le_through, longer_length, moves_as, moves_less, moves_meets, moves_on, moves_steps, moves_went, went_moves}

-- ---- a test

-- the formulas that it is true and that it is false are made behind it
pub tested_is : (w : Walked) (a b d : Walk) (mid : List Plain) (r : ℕ) (t : Tested) → Walks a b r w
    → Makes b.maker.terms mid t.holds (formula (tree_at b.maker.terms r)) → Makes mid d.maker.terms t.fails (denied (tree_at mid t.holds))
    → d.hyps.items ≡ b.hyps.items → d.owed.items ≡ b.owed.items → d.maker.count ≡ b.maker.count → t.base ≡ length d.hyps.items
    → IsTested a d t w
tested_is w a b d mid r t walk holds fails hyps owed count base =
    let here = here_kept fails.kept holds.here in
    let is : tree_at mid t.holds ≡ formula w.term = holds.here.is ∙ ap formula walk.is.is in
    record {
      steps = steps_then_made a b d (passed_by w) walk.steps (kept_then holds.kept fails.kept) hyps owed count;
      base = base;
      holds = record { within = here.within; is = here.is ∙ ap formula walk.is.is };
      fails = record { within = fails.here.within; is = fails.here.is ∙ ap denied is };
    }

-- ---- a path on which a formula is assumed besides

pub base_within : (a b : Walk) (p : Passed) (base : ℕ) → base ≡ length a.hyps.items → Steps a b p → base ≤ length b.hyps.items
base_within a b p base is s = le_from (length a.hyps.items) (length b.hyps.items) base (longer_length a.hyps.items b.hyps.items s.longer) is

pub where_steps : (a b c : Walk) (base f : ℕ) → IsSound a → base ≡ length a.hyps.items → Steps a b (passed a.maker.count (assume (hyps_of a) (tree_at a.maker.terms f)) []) → c.maker ≡ b.maker → c.owed ≡ b.owed → c.hyps.items ≡ take base b.hyps.items
    → Steps a c (passed a.maker.count (hyps_of a) [])
where_steps a b c base f sound is s maker owed hyps =
    steps_cut a b c (passed a.maker.count (assume (hyps_of a) (tree_at a.maker.terms f)) []) sound s maker owed (hyps ∙ ap (λ (n : ℕ). take n b.hyps.items) is)

pub where_hyps : (a b c : Walk) (base f : ℕ) → base ≡ length a.hyps.items → Steps a b (passed a.maker.count (assume (hyps_of a) (tree_at a.maker.terms f)) []) → c.hyps.items ≡ take base b.hyps.items → c.hyps.items ≡ a.hyps.items
where_hyps a b c base f is s hyps = hyps ∙ ap (λ (n : ℕ). take n b.hyps.items) is ∙ s.longer

pub where_path : (a b : Walk) (h : Here) (base f : ℕ) (p : Path) → b.maker ≡ a.maker → Steps a b (passed a.maker.count (assume (hyps_of a) (tree_at a.maker.terms f)) []) → AreSlots a.maker.terms h.vars.items
    → p.since.items ≡ drop base b.hyps.items → p.here.vars.items ≡ h.vars.items → IsPath a.maker.terms p
where_path a b h base f p maker s slots since vars =
    subst (λ (m : Maker). IsPath m.terms p) maker (path_ok b h base p s.sound (subst (λ (m : Maker). AreSlots m.terms h.vars.items) (sym maker) slots) since vars)

pub where_value : (a b : Walk) (h : Here) (base f : ℕ) (p : Path) → IsSound a → base ≡ length a.hyps.items → b.maker ≡ a.maker → Steps a b (passed a.maker.count (assume (hyps_of a) (tree_at a.maker.terms f)) [])
    → p.since.items ≡ drop base b.hyps.items → p.here.vars.items ≡ h.vars.items → p.here.set.items ≡ h.set.items
    → seen_end a.maker.terms a.hyps.items p ≡ spot (assume (hyps_of a) (tree_at a.maker.terms f)) (slots_of a.maker.terms h.vars.items) h.set.items
where_value a b h base f p sound is maker s since vars set =
    let front : a.hyps.items ≡ take base b.hyps.items = sym (ap (λ (n : ℕ). take n b.hyps.items) is ∙ s.longer) in
    ap (λ (l : List ℕ). seen_end a.maker.terms l p) front ∙ ap (λ (m : Maker). seen_end m.terms (take base b.hyps.items) p) (sym maker) ∙ path_is b h base p since vars set
    ∙ ap (λ (hs : List Term). spot hs (slots_of b.maker.terms h.vars.items) h.set.items) s.hyps
    ∙ ap (λ (m : Maker). spot (assume (hyps_of a) (tree_at a.maker.terms f)) (slots_of m.terms h.vars.items) h.set.items) maker

-- ---- before the first side

-- what is assumed behind the test
pub forks_from : (frame : Frame) (e : tree.Expr Node) (vs : List (Option ℕ)) (a b c : Walk) (t : Tested) (h other : Here) → vs ≡ h.vars.items
    → IsTested a b t (spec.expr (body_at a.maker.terms frame) e (slots_of a.maker.terms vs) (hyps_of a) a.maker.count)
    → Steps b c (passed b.maker.count (assume (hyps_of b) (tree_at b.maker.terms t.holds)) [])
    → other.vars.items ≡ h.vars.items → other.set.items ≡ h.set.items
    → Forks a c h (record { base = t.base; fails = t.fails; here = other }) (spec.expr (body_at a.maker.terms frame) e (slots_of a.maker.terms h.vars.items) (hyps_of a) a.maker.count)
forks_from frame e vs a b c t h other same is_tested s vars set =
    let w = spec.expr (body_at a.maker.terms frame) e (slots_of a.maker.terms h.vars.items) (hyps_of a) a.maker.count in
    let is = subst (λ (l : List (Option ℕ)). IsTested a b t (spec.expr (body_at a.maker.terms frame) e (slots_of a.maker.terms l) (hyps_of a) a.maker.count)) same is_tested in
    let F = formula w.term in
    let s' = subst (λ (u : Term). Steps b c (passed b.maker.count (assume (hyps_of b) u) [])) is.holds.is s in
    let all = steps_on (λ hs n. passed n (assume hs F) []) a b c (passed_by w) is.steps s' in
    let before = longer_length a.hyps.items b.hyps.items is.steps.longer in
    let behind = longer_length b.hyps.items c.hyps.items s.longer in
    record {
      steps = steps_as a c (passed w.count (assume w.hyps F) (w.owed ++ [])) (passed w.count (assume w.hyps F) w.owed) (ap (λ (os : List Owed). passed w.count (assume w.hyps F) os) (append-nil w.owed)) all;
      before = le_at (length a.hyps.items) (length b.hyps.items) t.base before is.base;
      within = le_from (length b.hyps.items) (length c.hyps.items) t.base behind is.base;
      front =
          ap (λ (l : List ℕ). trees_of c.maker.terms l) (ap (λ (n : ℕ). take n c.hyps.items) is.base ∙ s.longer)
          ∙ trees_kept b.maker.terms c.maker.terms s.kept b.hyps.items is.steps.sound.hyps ∙ is.steps.hyps;
      fails = here_kept s.kept is.fails;
      vars = vars;
      set = set;
    }

-- ---- between the sides

-- only the first so many hypotheses are left
cut_length : (base : ℕ) (xs ys : List ℕ) → base ≤ length xs → ys ≡ take base xs → length ys ≡ base
cut_length base xs ys le is = ap length is ∙ length-take-le base xs le

pub cut_sound : (a b : Walk) (base : ℕ) → IsSound a → b.maker ≡ a.maker → b.owed ≡ a.owed → b.hyps.items ≡ take base a.hyps.items → IsSound b
cut_sound a b base sound maker owed hyps = record {
  hyps = subst (λ (m : Maker). AreBelow (length m.terms) b.hyps.items) (sym maker) (subst (λ (xs : List ℕ). AreBelow (length a.maker.terms) xs) (sym hyps) (front_below a base sound));
  owed = subst (λ (m : Maker). All (IsGoal m.terms) b.owed.items) (sym maker) (subst (λ (os : Vec Goal Global). All (IsGoal a.maker.terms) os.items) (sym owed) sound.owed);
}

pub cut_within : (a b : Walk) (f : ℕ) → b.maker ≡ a.maker → f < length a.maker.terms → f < length b.maker.terms
cut_within a b f maker lt = subst (λ (m : Maker). f < length m.terms) (sym maker) lt

pub turns_from : (a b c : Walk) (base fails : ℕ) (end : Option Here) (before paths : List Path) → base ≤ length a.hyps.items → b.maker ≡ a.maker → b.owed ≡ a.owed → b.hyps.items ≡ take base a.hyps.items
    → Steps b c (passed b.maker.count (assume (hyps_of b) (tree_at b.maker.terms fails)) [])
    → IsSound a → ArePaths a.maker.terms paths → before ≡ []
    → seen_ends a.maker.terms (take base a.hyps.items) paths ≡ seen_ends a.maker.terms (take base a.hyps.items) before ++ as_list (end_of a end)
    → Turns a c base fails end paths
turns_from a b c base fails end before paths le maker owed hyps s sound are none ends =
    let bs = take base a.hyps.items in
    let kept = subst (λ (m : Maker). Kept m.terms c.maker.terms) maker s.kept in
    let count : length b.hyps.items ≡ base = cut_length base a.hyps.items b.hyps.items le hyps in
    let behind = longer_length b.hyps.items c.hyps.items s.longer in
    let trees : hyps_of b ≡ trees_of a.maker.terms bs = ap (λ (m : Maker). trees_of m.terms b.hyps.items) maker ∙ ap (λ (l : List ℕ). trees_of a.maker.terms l) hyps in
    let owes : owed_of b ≡ owed_of a = ap (λ (m : Maker). map (seen_goal m.terms) b.owed.items) maker ∙ ap (λ (v : Vec Goal Global). map (seen_goal a.maker.terms) v.items) owed in
    record {
      moves = record {
        sound = s.sound;
        kept = kept;
        front = ap (λ (n : ℕ). take n c.hyps.items) (sym count) ∙ s.longer ∙ hyps;
        count = s.count ∙ ap (λ (m : Maker). m.count) maker;
        owed = s.owed ∙ ap (λ (os : List Owed). os ++ []) owes;
      };
      hyps = s.hyps ∙ ap (λ (hs : List Term). assume hs (tree_at b.maker.terms fails)) trees ∙ ap (λ (m : Maker). assume (trees_of a.maker.terms bs) (tree_at m.terms fails)) maker;
      within = le_from (length b.hyps.items) (length c.hyps.items) base behind (sym count);
      are = paths_on a.maker.terms c.maker.terms kept paths are;
      ends = ends_kept a.maker.terms c.maker.terms kept bs paths (front_below a base sound) are ∙ ends ∙ ap (λ (ps : List Path). seen_ends a.maker.terms bs ps ++ as_list (end_of a end)) none;
    }

-- ---- behind the sides

pub meets_by : (words ws : List (List ℕ)) (a b : Walk) (base : ℕ) (h end : Option Here) (before paths : List Path) → ws ≡ words
    → seen_ends a.maker.terms (take base a.hyps.items) paths ≡ seen_ends a.maker.terms (take base a.hyps.items) before ++ as_list (end_of a end)
    → Meets a b base h (joins.meet ws (trees_of a.maker.terms (take base a.hyps.items)) (seen_ends a.maker.terms (take base a.hyps.items) paths) a.maker.count)
    → Meets a b base h (joins.meet words (trees_of a.maker.terms (take base a.hyps.items)) (seen_ends a.maker.terms (take base a.hyps.items) before ++ as_list (end_of a end)) a.maker.count)
meets_by words ws a b base h end before paths same ends meets =
    let T = trees_of a.maker.terms (take base a.hyps.items) in
    subst (λ (ps : List Spot). Meets a b base h (joins.meet words T ps a.maker.count)) ends
    (subst (λ (l : List (List ℕ)). Meets a b base h (joins.meet l T (seen_ends a.maker.terms (take base a.hyps.items) paths) a.maker.count)) same meets)

-- the `break`s of statements behind steps that have none
pub breaks_behind : (bs : List ℕ) (x y z : Walk) (base : ℕ) (qs rs : List Path) (h : Option Here) (f : Flow) → take base y.hyps.items ≡ bs → Kept x.maker.terms y.maker.terms → AreBelow (length x.maker.terms) bs → ArePaths x.maker.terms qs
    → Flows y z base qs rs h f → seen_ends z.maker.terms bs rs ≡ seen_ends x.maker.terms bs qs ++ f.breaks
breaks_behind bs x y z base qs rs h f same kept below are s =
    subst (λ (l : List ℕ). seen_ends z.maker.terms l rs ≡ seen_ends y.maker.terms l qs ++ f.breaks) same s.breaks
    ∙ ap (λ (ps : List Spot). ps ++ f.breaks) (ends_kept x.maker.terms y.maker.terms kept bs qs below are)

-- the first block goes by what is known where the test is true
pub first_at : (X : ℕ → spec.Body Node → Spot → ℕ → Flow) (frame : Frame) (a b c : Walk) (v : Walked) (h : Here) (fork : Fork) (base k : ℕ) (ps qs : List Path) (o : Option Here) → IsFrame a.maker.terms frame → AreSlots a.maker.terms h.vars.items → b.maker.node ≡ k
    → Forks a b h fork v
    → Flows b c base ps qs o (X b.maker.node (body_at b.maker.terms frame) (spot_of b h) b.maker.count)
    → Flows b c base ps qs o (X k (body_at a.maker.terms frame) (spec.where_true v (spot_of a h)) v.count)
first_at X frame a b c v h fork base k ps qs o is slots node forks s =
    let B = body_at a.maker.terms frame in
    let P = passed v.count (assume v.hyps (formula v.term)) v.owed in
    let known = spot_behind a b P h forks.steps slots in
    subst (λ (f : Flow). Flows b c base ps qs o f)
    (ap (λ (j : ℕ). X j (body_at b.maker.terms frame) (spot_of b h) b.maker.count) node
    ∙ ap (λ (y : spec.Body Node). X k y (spot_of b h) b.maker.count) (body_kept a.maker.terms b.maker.terms forks.steps.kept frame is)
    ∙ ap (λ (p : Spot). X k B p b.maker.count) known.is
    ∙ ap (λ (n : ℕ). X k B (spec.where_true v (spot_of a h)) n) forks.steps.count) s

-- the hypotheses behind which the sides part
front_at : (b c : Walk) (base : ℕ) (hs : List Term) → IsSound b → Kept b.maker.terms c.maker.terms → take base c.hyps.items ≡ take base b.hyps.items → trees_of b.maker.terms (take base b.hyps.items) ≡ hs → trees_of c.maker.terms (take base c.hyps.items) ≡ hs
front_at b c base hs sound kept same is =
    ap (λ (l : List ℕ). trees_of c.maker.terms l) same ∙ trees_kept b.maker.terms c.maker.terms kept (take base b.hyps.items) (front_below b base sound) ∙ is

-- the second block goes by what is known where the test is false
pub second_at : (Y : ℕ → spec.Body Node → Spot → ℕ → Flow) (frame : Frame) (a b c d e : Walk) (v : Walked) (h : Here) (fork : Fork) (base k n : ℕ) (ps qs paths : List Path) (taken o : Option Here) → IsFrame a.maker.terms frame → AreSlots a.maker.terms h.vars.items → d.maker.node ≡ k → c.maker.count ≡ n
    → Forks a b h fork v → Kept b.maker.terms c.maker.terms → take fork.base c.hyps.items ≡ take fork.base b.hyps.items
    → Turns c d fork.base fork.fails taken paths
    → Flows d e base ps qs o (Y d.maker.node (body_at d.maker.terms frame) (spot_of d fork.here) d.maker.count)
    → Flows d e base ps qs o (Y k (body_at a.maker.terms frame) (spec.where_false v (spot_of a h)) n)
second_at Y frame a b c d e v h fork base k n ps qs paths taken o is slots node count forks kept front turns s =
    let B = body_at a.maker.terms frame in
    let all = kept_then (kept_then forks.steps.kept kept) turns.moves.kept in
    let nodes = d.maker.terms in
    let hyps : hyps_of d ≡ assume v.hyps (denied (formula v.term)) =
    turns.hyps ∙ ap (λ (hs : List Term). assume hs (tree_at c.maker.terms fork.fails)) (front_at b c fork.base v.hyps forks.steps.sound kept front forks.front)
    ∙ ap (λ (t : Term). assume v.hyps t) (here_kept kept forks.fails).is in
    let vars : slots_of nodes fork.here.vars.items ≡ slots_of a.maker.terms h.vars.items = ap (λ (vs : List (Option ℕ)). slots_of nodes vs) forks.vars ∙ slots_kept a.maker.terms nodes all h.vars.items slots in
    let known : spot_of d fork.here ≡ spec.where_false v (spot_of a h) =
    ap (λ (hs : List Term). spot hs (slots_of nodes fork.here.vars.items) fork.here.set.items) hyps
    ∙ ap (λ (vs : Vars). spot (assume v.hyps (denied (formula v.term))) vs fork.here.set.items) vars
    ∙ ap (λ (bs : List Bool). spot (assume v.hyps (denied (formula v.term))) (slots_of a.maker.terms h.vars.items) bs) forks.set in
    subst (λ (f : Flow). Flows d e base ps qs o f)
    (ap (λ (j : ℕ). Y j (body_at d.maker.terms frame) (spot_of d fork.here) d.maker.count) node
    ∙ ap (λ (y : spec.Body Node). Y k y (spot_of d fork.here) d.maker.count) (body_kept a.maker.terms nodes all frame is)
    ∙ ap (λ (p : Spot). Y k B p d.maker.count) known
    ∙ ap (λ (m : ℕ). Y k B (spec.where_false v (spot_of a h)) m) (turns.moves.count ∙ count)) s

-- the paths come together as the definition has it
pub met_at : (words : List (List ℕ)) (b c d e f : Walk) (base fails : ℕ) (hs : List Term) (paths : List Path) (taken end h : Option Here) (one two : Flow)
    → IsSound b → Kept b.maker.terms e.maker.terms → take base e.hyps.items ≡ take base b.hyps.items → trees_of b.maker.terms (take base b.hyps.items) ≡ hs
    → Kept d.maker.terms e.maker.terms → IsSound d → take base e.hyps.items ≡ take base d.hyps.items
    → Turns c d base fails taken paths
    → end_of c taken ≡ one.ends → end_of e end ≡ two.ends → e.maker.count ≡ two.count
    → Meets e f base h (joins.meet words (trees_of e.maker.terms (take base e.hyps.items)) (seen_ends e.maker.terms (take base e.hyps.items) paths ++ as_list (end_of e end)) e.maker.count)
    → Meets e f base h (joins.meet words hs (as_list one.ends ++ as_list two.ends) two.count)
met_at words b c d e f base fails hs paths taken end h one two sound kept front is kept_de sound_d front_de turns first second count meets =
    let bs = take base e.hyps.items in
    let paths_are : seen_ends e.maker.terms bs paths ≡ as_list one.ends =
    ap (λ (l : List ℕ). seen_ends e.maker.terms l paths) front_de
    ∙ ends_kept d.maker.terms e.maker.terms kept_de (take base d.hyps.items) paths (front_below d base sound_d) turns.are
    ∙ ap (λ (l : List ℕ). seen_ends d.maker.terms l paths) turns.moves.front ∙ turns.ends ∙ ap (λ (o : Option Spot). as_list o) first in
    subst (λ (m : joins.Met). Meets e f base h m)
    (ap (λ (ts : List Term). joins.meet words ts (seen_ends e.maker.terms bs paths ++ as_list (end_of e end)) e.maker.count) (front_at b e base hs sound kept front is)
    ∙ ap (λ (ps : List Spot). joins.meet words hs (ps ++ as_list (end_of e end)) e.maker.count) paths_are
    ∙ ap (λ (o : Option Spot). joins.meet words hs (as_list one.ends ++ as_list o) e.maker.count) second
    ∙ ap (λ (n : ℕ). joins.meet words hs (as_list one.ends ++ as_list two.ends) n) count) meets

-- an `if`, from its parts
pub if_flows : (words : List (List ℕ)) (a b c d e f : Walk) (v : Walked) (h : Here) (fork : Fork) (base : ℕ) (ps qs rs paths : List Path) (taken end o : Option Here) (one two : Flow) → IsSound a → base ≤ length a.hyps.items → ArePaths a.maker.terms ps
    → Forks a b h fork v
    → Flows b c base ps qs taken one
    → Turns c d fork.base fork.fails taken paths
    → Flows d e base qs rs end two
    → Meets e f fork.base o (joins.meet words (trees_of e.maker.terms (take fork.base e.hyps.items)) (seen_ends e.maker.terms (take fork.base e.hyps.items) paths ++ as_list (end_of e end)) e.maker.count)
    → Flows a f base ps rs o (spec.behind_if words v one two)
if_flows words a b c d e f v h fork base ps qs rs paths taken end o one two sound le are forks first turns second meets =
    let la = length a.hyps.items in
    let lb : la ≤ length b.hyps.items = longer_length a.hyps.items b.hyps.items forks.steps.longer in
    let ld : la ≤ length d.hyps.items = le_through la fork.base (length d.hyps.items) forks.before turns.within in
    let bc = front_long fork.base b.hyps.items c.hyps.items forks.within first.went.longer in
    let de = front_long fork.base d.hyps.items e.hyps.items turns.within second.went.longer in
    let be : take fork.base e.hyps.items ≡ take fork.base b.hyps.items = de ∙ turns.moves.front ∙ bc in
    let kept_ce = kept_then turns.moves.kept second.went.kept in
    let met = met_at words b c d e f fork.base fork.fails v.hyps paths taken end o one two forks.steps.sound (kept_then first.went.kept kept_ce) be forks.front second.went.kept turns.moves.sound de turns
    (end_is c taken one.ends first.went.ends) (end_is e end two.ends second.went.ends) second.went.count meets in
    let M = joins.meet words v.hyps (as_list one.ends ++ as_list two.ends) two.count in
    let m_ab = moves_steps a b (passed v.count (assume v.hyps (formula v.term)) v.owed) la (le_self la) forks.steps in
    let m_bc = moves_went b c taken one la lb first.went in
    let m_cd = moves_less c d la fork.base c.maker.count [] forks.before turns.moves in
    let m_de = moves_went d e end two la ld second.went in
    let m_ef = moves_less e f la fork.base M.count [] forks.before (moves_meets e f fork.base o M met) in
    let m_df = moves_on d e f la two.count M.count two.owed [] m_de m_ef in
    let m_cf = moves_on c d f la c.maker.count M.count [] (two.owed ++ []) m_cd m_df in
    let m_bf = moves_on b c f la one.count M.count one.owed (two.owed ++ []) m_bc m_cf in
    let m_af = moves_on a b f la v.count M.count v.owed (one.owed ++ (two.owed ++ [])) m_ab m_bf in
    let all = moves_as a f la M.count M.count (v.owed ++ (one.owed ++ (two.owed ++ []))) (v.owed ++ (one.owed ++ two.owed)) refl (ap (λ (os : List Owed). v.owed ++ (one.owed ++ os)) (append-nil two.owed)) m_af in
    let bs = take base a.hyps.items in
    let below = front_below a base sound in
    let ab = front_long base a.hyps.items b.hyps.items le forks.steps.longer in
    let kept_ac = kept_then forks.steps.kept first.went.kept in
    let kept_ae = kept_then kept_ac kept_ce in
    let ad : take base d.hyps.items ≡ bs =
    front_less base fork.base c.hyps.items d.hyps.items (le_through base la fork.base le forks.before) turns.moves.front
    ∙ front_less base fork.base b.hyps.items c.hyps.items (le_through base la fork.base le forks.before) bc ∙ ab in
    let breaks_c = breaks_behind bs a b c base ps qs taken one ab forks.steps.kept below are first in
    let breaks_e = breaks_behind bs c d e base qs rs end two ad turns.moves.kept (below_on a.maker.terms c.maker.terms kept_ac bs below) first.paths second in
    record {
      went = went_moves a f o (spec.behind_if words v one two) all met.ends;
      paths = paths_on e.maker.terms f.maker.terms met.kept rs second.paths;
      breaks =
          ends_kept e.maker.terms f.maker.terms met.kept bs rs (below_on a.maker.terms e.maker.terms kept_ae bs below) second.paths
          ∙ breaks_e ∙ ap (λ (l : List Spot). l ++ two.breaks) breaks_c ∙ append_assoc (seen_ends a.maker.terms bs ps) one.breaks two.breaks;
    }
