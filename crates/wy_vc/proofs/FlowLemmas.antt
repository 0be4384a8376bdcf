-- Statements one after the other.
use Rattle.std.proofs.Common.{Vec, All, map, ◌≡◌, ◌<◌, ◌≤◌, ◌+◌, ℕ, List, [], ◌++◌, length, take, drop, get_or, Option, Some, None, add-zero, add_assoc, refl, sym, ◌∙◌, ap, subst, arith}
use Rattle.std.specs.declared.alloc.Global.{Global}
use Rattle.std.proofs.lemmas.List.{append-nil, append_assoc, take_all, drop_all}
use Rattle.wy_core.specs.CoreTree as tree
use Rattle.wy_core.specs.CoreSeen.{seen_block, seen_stmt}
use Rattle.wy_core.specs.declared.statements.Stmt as st
use Rattle.wy_lemmas.proofs.Lists.{front as front_then, next_of}
use Rattle.wy_term.specs.Nodes.{Plain}
use Rattle.wy_vc_spec.specs.Numbered.{Node, numbered_block, numbered_stmt}
use Rattle.wy_vc_spec.specs.Owed.{Owed}
use Rattle.wy_vc_spec.specs.Sizes.{exprs_in_block, exprs_in_stmt}
use Rattle.wy_vc_spec.specs.Spots.{Spot, Flow, goes, stops, and_then, go_on, followed}
use Rattle.wy_vc_spec.specs.Statements as spec
use Rattle.wy_vc_body.proofs.wy_vc_operations_proofs.GrowingLemmas.{kept_all}
use Rattle.wy_vc_body.specs.wy_vc_operations.Growing.{Kept, AreBelow}
use Rattle.wy_vc_body.specs.declared.here.Here.{Here}
use Rattle.wy_vc_body.specs.wy_vc_exprs.Slots.{AreSlots}
use Rattle.wy_vc_body.specs.wy_vc_exprs.State.{IsGoal, IsSound, owed_of, seen_goal}
use Rattle.wy_vc_body.specs.wy_vc_exprs.declared.goal.Goal.{Goal}
use Rattle.wy_vc_body.specs.wy_vc_exprs.declared.walk.Walk.{Walk}
use Rattle.wy_vc_body.proofs.wy_vc_exprs_proofs.NumberedLemmas.{kept_then}
use Rattle.wy_vc_body.proofs.PathLemmas.{paths_on}
use Rattle.wy_vc_body.specs.declared.paths.Path.{Path}
use Rattle.wy_vc_body.specs.Paths.{ArePaths, IsEnd, seen_ends, spot_of}
use Rattle.wy_vc_body.specs.declared.frame.Frame.{Frame}
use Rattle.wy_vc_body.specs.Frames.{IsFrame, body_at}
use Rattle.wy_vc_body.specs.Going.{Went}
use Rattle.wy_vc_body.proofs.FrameLemmas.{body_kept, frame_on}
use Rattle.wy_vc.specs.Flows.{Flows}
use Rattle.wy_vc.proofs.EndLemmas.{end_are, end_is, end_some, ends_kept, front_below}
use Rattle.wy_vc.proofs.MoveLemmas.{front_long, longer_length}

-- ---- what no `break` leaves

-- the paths of `break`s stay where a step has none
pub flows_quiet : (a b : Walk) (base : ℕ) (ps : List Path) (h : Option Here) (f : Flow) → IsSound a → ArePaths a.maker.terms ps → f.breaks ≡ [] → Went a b h f → Flows a b base ps ps h f
flows_quiet a b base ps h f sound are none went = record {
  went = went;
  paths = paths_on a.maker.terms b.maker.terms went.kept ps are;
  breaks =
      ends_kept a.maker.terms b.maker.terms went.kept (take base a.hyps.items) ps (front_below a base sound) are
      ∙ sym (append-nil (seen_ends a.maker.terms (take base a.hyps.items) ps))
      ∙ ap (λ (l : List Spot). seen_ends a.maker.terms (take base a.hyps.items) ps ++ l) (sym none);
}

-- the node that comes next makes no difference
pub went_noded : (a c d : Walk) (f : Flow) → d.maker.terms ≡ c.maker.terms → d.maker.count ≡ c.maker.count → d.hyps ≡ c.hyps → d.owed ≡ c.owed → Went a c None f → Went a d None f
went_noded a c d f terms count hyps owed w = record {
  sound = sound_as terms hyps owed w.sound;
  kept = subst (λ (ns : List Plain). Kept a.maker.terms ns) (sym terms) w.kept;
  longer = ap (λ (v : Vec ℕ Global). take (length a.hyps.items) v.items) hyps ∙ w.longer;
  count = count ∙ w.count;
  owed = owed_as terms owed ∙ w.owed;
  ends = none_as f.ends w.ends;
}
  where
    sound_as : d.maker.terms ≡ c.maker.terms → d.hyps ≡ c.hyps → d.owed ≡ c.owed → IsSound c → IsSound d
    sound_as t hs os s = record {
      hyps = subst (λ (ns : List Plain). AreBelow (length ns) d.hyps.items) (sym t) (subst (λ (v : Vec ℕ Global). AreBelow (length c.maker.terms) v.items) (sym hs) s.hyps);
      owed = subst (λ (ns : List Plain). All (IsGoal ns) d.owed.items) (sym t) (subst (λ (v : Vec Goal Global). All (IsGoal c.maker.terms) v.items) (sym os) s.owed);
    }

    owed_as : d.maker.terms ≡ c.maker.terms → d.owed ≡ c.owed → owed_of d ≡ owed_of c
    owed_as t os = ap (λ (ns : List Plain). map (seen_goal ns) d.owed.items) t ∙ ap (λ (v : Vec Goal Global). map (seen_goal c.maker.terms) v.items) os

    none_as : (e : Option Spot) → IsEnd c None e → IsEnd d None e
    none_as None is = tt
    none_as (Some p) is = absurd is

pub flows_noded : (a c d : Walk) (base : ℕ) (ps qs : List Path) (f : Flow) → d.maker.terms ≡ c.maker.terms → d.maker.count ≡ c.maker.count → d.hyps ≡ c.hyps → d.owed ≡ c.owed → Flows a c base ps qs None f → Flows a d base ps qs None f
flows_noded a c d base ps qs f terms count hyps owed s = record {
  went = went_noded a c d f terms count hyps owed s.went;
  paths = subst (λ (ns : List Plain). ArePaths ns qs) (sym terms) s.paths;
  breaks = ap (λ (ns : List Plain). seen_ends ns (take base a.hyps.items) qs) terms ∙ s.breaks;
}

-- ---- one behind the other

-- statements that are left come to all
pub record Left (a b : Walk) (base : ℕ) (ps qs : List Path) (rest all : Flow) : Type 0 where
  pub sound : IsSound b
  pub kept : Kept a.maker.terms b.maker.terms
  pub longer : take (length a.hyps.items) b.hyps.items ≡ a.hyps.items
  pub paths : ArePaths b.maker.terms qs
  pub count : rest.count ≡ all.count
  pub ends : rest.ends ≡ all.ends
  pub owed : owed_of b ++ rest.owed ≡ owed_of a ++ all.owed
  pub breaks : seen_ends b.maker.terms (take base a.hyps.items) qs ++ rest.breaks ≡ seen_ends a.maker.terms (take base a.hyps.items) ps ++ all.breaks

pub left_begin : (a : Walk) (base : ℕ) (ps : List Path) (all : Flow) → IsSound a → ArePaths a.maker.terms ps → Left a a base ps ps all all
left_begin a base ps all sound are = record {
  sound = sound;
  kept = kept_all a.maker.terms;
  longer = take_all (length a.hyps.items) a.hyps.items (omega arith);
  paths = are;
  count = refl;
  ends = refl;
  owed = refl;
  breaks = refl;
}

-- the `break`s of what comes behind, where the front is the same
breaks_on : (a b c : Walk) (base : ℕ) (qs rs : List Path) (f : Flow) → base ≤ length a.hyps.items → take (length a.hyps.items) b.hyps.items ≡ a.hyps.items
    → seen_ends c.maker.terms (take base b.hyps.items) rs ≡ seen_ends b.maker.terms (take base b.hyps.items) qs ++ f.breaks
    → seen_ends c.maker.terms (take base a.hyps.items) rs ≡ seen_ends b.maker.terms (take base a.hyps.items) qs ++ f.breaks
breaks_on a b c base qs rs f le longer same =
    subst (λ (l : List ℕ). seen_ends c.maker.terms l rs ≡ seen_ends b.maker.terms l qs ++ f.breaks) (front_long base a.hyps.items b.hyps.items le longer) same

-- behind a statement these are left
left_then : (a b c : Walk) (base : ℕ) (ps qs rs : List Path) (h : Option Here) (f rest all : Flow) → base ≤ length a.hyps.items → Left a b base ps qs (followed f rest) all → Flows b c base qs rs h f → Left a c base ps rs rest all
left_then a b c base ps qs rs h f rest all le left s =
    let A = seen_ends c.maker.terms (take base a.hyps.items) rs in
    let B = seen_ends b.maker.terms (take base a.hyps.items) qs in
    record {
      sound = s.went.sound;
      kept = kept_then left.kept s.went.kept;
      longer = front_then a.hyps.items b.hyps.items c.hyps.items left.longer s.went.longer;
      paths = s.paths;
      count = left.count;
      ends = left.ends;
      owed = ap (λ (os : List Owed). os ++ rest.owed) s.went.owed ∙ append_assoc (owed_of b) f.owed rest.owed ∙ left.owed;
      breaks = ap (λ (l : List Spot). l ++ rest.breaks) (breaks_on a b c base qs rs f le left.longer s.breaks) ∙ append_assoc B f.breaks rest.breaks ∙ left.breaks;
    }

-- a path goes on
pub left_turn : (next : Spot → ℕ → Flow) (a b c : Walk) (base : ℕ) (ps qs rs : List Path) (h : Here) (f all : Flow) → base ≤ length a.hyps.items → Left a b base ps qs (and_then f next) all → Flows b c base qs rs (Some h) f → Left a c base ps rs (next (spot_of c h) c.maker.count) all
left_turn next a b c base ps qs rs h f all le left s =
    let same : go_on f.ends f.count next ≡ next (spot_of c h) c.maker.count =
    ap (λ (e : Option Spot). go_on e f.count next) (sym (end_is c (Some h) f.ends s.went.ends)) ∙ ap (λ (n : ℕ). next (spot_of c h) n) (sym s.went.count) in
    subst (λ (r : Flow). Left a c base ps rs r all) same (left_then a b c base ps qs rs (Some h) f (go_on f.ends f.count next) all le left s)

-- nothing is left
left_none : (a b : Walk) (base : ℕ) (ps qs : List Path) (h : Option Here) (rest all : Flow) → rest.owed ≡ [] → rest.breaks ≡ [] → b.maker.count ≡ rest.count → IsEnd b h rest.ends → Left a b base ps qs rest all → Flows a b base ps qs h all
left_none a b base ps qs h rest all owed breaks count ends left = record {
  went = record {
    sound = left.sound;
    kept = left.kept;
    longer = left.longer;
    count = count ∙ left.count;
    owed = sym (append-nil (owed_of b)) ∙ ap (λ (os : List Owed). owed_of b ++ os) (sym owed) ∙ left.owed;
    ends = subst (λ (e : Option Spot). IsEnd b h e) left.ends ends;
  };
  paths = left.paths;
  breaks = sym (append-nil (seen_ends b.maker.terms (take base a.hyps.items) qs)) ∙ ap (λ (l : List Spot). seen_ends b.maker.terms (take base a.hyps.items) qs ++ l) (sym breaks) ∙ left.breaks;
}

-- no path goes on
pub left_stop : (next : Spot → ℕ → Flow) (a b c : Walk) (base : ℕ) (ps qs rs : List Path) (f all : Flow) → base ≤ length a.hyps.items → Left a b base ps qs (and_then f next) all → Flows b c base qs rs None f → Flows a c base ps rs None all
left_stop next a b c base ps qs rs f all le left s =
    let same : go_on f.ends f.count next ≡ stops f.count [] = ap (λ (e : Option Spot). go_on e f.count next) (sym (end_is c None f.ends s.went.ends)) in
    left_none a c base ps rs None (stops f.count []) all refl refl s.went.count tt
    (subst (λ (r : Flow). Left a c base ps rs r all) same (left_then a b c base ps qs rs None f (go_on f.ends f.count next) all le left s))

pub left_end : (a b : Walk) (base : ℕ) (ps qs : List Path) (h : Here) (all : Flow) → AreSlots b.maker.terms h.vars.items → Left a b base ps qs (goes b.maker.count (spot_of b h) []) all → Flows a b base ps qs (Some h) all
left_end a b base ps qs h all slots left = left_none a b base ps qs (Some h) (goes b.maker.count (spot_of b h) []) all refl refl refl (end_some b h slots) left

-- ---- blocks

-- the statements that are left, the first of whose expressions has this number
abbrev pub executed : spec.Body Node → List (tree.Expr Node) → List st.Stmt → ℕ → Spot → ℕ → Flow
executed b around ss k p n = spec.exec_all b around (numbered_block (seen_block ss) k) p n

-- so many statements of a block were walked, and those that are left come to all of them
pub record IsWithin (fr : Frame) (around : List (tree.Expr Node)) (a b : Walk) (bs : ℕ) (ps qs : List Path) (h g : Here) (rest all : List st.Stmt) : Type 0 where
  pub frame : IsFrame b.maker.terms fr
  pub sound : IsSound b
  pub slots : AreSlots b.maker.terms h.vars.items
  pub base : bs ≤ length b.hyps.items
  pub paths : ArePaths b.maker.terms qs
  pub left : Left a b bs ps qs (executed (body_at a.maker.terms fr) around rest b.maker.node (spot_of b h) b.maker.count) (executed (body_at a.maker.terms fr) around all a.maker.node (spot_of a g) a.maker.count)
  pub node : b.maker.node + exprs_in_block (seen_block rest) ≡ a.maker.node + exprs_in_block (seen_block all)

pub within_begin : (frame : Frame) (around : List (tree.Expr Node)) (a : Walk) (base : ℕ) (ps : List Path) (h : Here) (all : List st.Stmt) → IsFrame a.maker.terms frame → IsSound a → AreSlots a.maker.terms h.vars.items → base ≤ length a.hyps.items → ArePaths a.maker.terms ps → IsWithin frame around a a base ps ps h h all all
within_begin frame around a base ps h all is sound slots le are = record {
  frame = is;
  sound = sound;
  slots = slots;
  base = le;
  paths = are;
  left = left_begin a base ps (executed (body_at a.maker.terms frame) around all a.maker.node (spot_of a h) a.maker.count) sound are;
  node = refl;
}

-- what is left behind the first statement
abbrev behind_first : spec.Body Node → List (tree.Expr Node) → st.Stmt → List st.Stmt → ℕ → Spot → ℕ → Flow
behind_first b around x rest k = λ p n. executed b around rest (k + exprs_in_stmt (seen_stmt x)) p n

first_and_rest : (frame : Frame) (around : List (tree.Expr Node)) (a b : Walk) (base : ℕ) (ps qs : List Path) (h g : Here) (ss all : List st.Stmt) (i : ℕ) (x : st.Stmt) → i < length ss → x ≡ get_or ss i x
    → IsWithin frame around a b base ps qs h g (drop i ss) all
    → Left a b base ps qs (and_then (spec.exec (body_at a.maker.terms frame) around (numbered_stmt (seen_stmt x) b.maker.node) (spot_of b h) b.maker.count) (behind_first (body_at a.maker.terms frame) around x (drop (i + 1) ss) b.maker.node)) (executed (body_at a.maker.terms frame) around all a.maker.node (spot_of a g) a.maker.count)
first_and_rest frame around a b base ps qs h g ss all i x lt is inv =
    subst (λ (l : List st.Stmt). Left a b base ps qs (executed (body_at a.maker.terms frame) around l b.maker.node (spot_of b h) b.maker.count) (executed (body_at a.maker.terms frame) around all a.maker.node (spot_of a g) a.maker.count)) (next_of ss i x lt is) inv.left

-- the statement goes by the body as it was where the block began
stmt_at : (frame : Frame) (around : List (tree.Expr Node)) (a b c : Walk) (base : ℕ) (qs rs : List Path) (h : Here) (o : Option Here) (s : tree.Stmt Node) → IsFrame a.maker.terms frame → Kept a.maker.terms b.maker.terms
    → Flows b c base qs rs o (spec.exec (body_at b.maker.terms frame) around s (spot_of b h) b.maker.count)
    → Flows b c base qs rs o (spec.exec (body_at a.maker.terms frame) around s (spot_of b h) b.maker.count)
stmt_at frame around a b c base qs rs h o s is kept f =
    subst (λ (y : spec.Body Node). Flows b c base qs rs o (spec.exec y around s (spot_of b h) b.maker.count)) (body_kept a.maker.terms b.maker.terms kept frame is) f

-- numbers of what was passed
nodes_next : (ss : List st.Stmt) (i : ℕ) (x : st.Stmt) (k m n : ℕ) → i < length ss → x ≡ get_or ss i x → k + exprs_in_block (seen_block (drop i ss)) ≡ n → m ≡ k + exprs_in_stmt (seen_stmt x) → m + exprs_in_block (seen_block (drop (i + 1) ss)) ≡ n
nodes_next ss i x k m n lt is inv node =
    ap (λ (y : ℕ). y + exprs_in_block (seen_block (drop (i + 1) ss))) node ∙ add_assoc k (exprs_in_stmt (seen_stmt x)) (exprs_in_block (seen_block (drop (i + 1) ss)))
    ∙ sym (ap (λ (l : List st.Stmt). k + exprs_in_block (seen_block l)) (next_of ss i x lt is)) ∙ inv

pub within_turn : (frame : Frame) (around : List (tree.Expr Node)) (a b c : Walk) (base : ℕ) (ps qs rs : List Path) (h g h' : Here) (ss all : List st.Stmt) (i : ℕ) (x : st.Stmt) → i < length ss → x ≡ get_or ss i x
    → IsFrame a.maker.terms frame → base ≤ length a.hyps.items
    → IsWithin frame around a b base ps qs h g (drop i ss) all
    → Flows b c base qs rs (Some h') (spec.exec (body_at b.maker.terms frame) around (numbered_stmt (seen_stmt x) b.maker.node) (spot_of b h) b.maker.count)
    → c.maker.node ≡ b.maker.node + exprs_in_stmt (seen_stmt x)
    → IsWithin frame around a c base ps rs h' g (drop (i + 1) ss) all
within_turn frame around a b c base ps qs rs h g h' ss all i x lt is is_frame le inv f node =
    let B = body_at a.maker.terms frame in
    let A = executed B around all a.maker.node (spot_of a g) a.maker.count in
    let S = numbered_stmt (seen_stmt x) b.maker.node in
    let f' = stmt_at frame around a b c base qs rs h (Some h') S is_frame inv.left.kept f in
    let next = behind_first B around x (drop (i + 1) ss) b.maker.node in
    let turned = left_turn next a b c base ps qs rs h' (spec.exec B around S (spot_of b h) b.maker.count) A le (first_and_rest frame around a b base ps qs h g ss all i x lt is inv) f' in
    record {
      frame = frame_on a.maker.terms c.maker.terms (kept_then inv.left.kept f'.went.kept) frame is_frame;
      sound = f'.went.sound;
      slots = end_are c (Some h') (spec.exec B around S (spot_of b h) b.maker.count).ends f'.went.ends;
      base = omega (arith, le, longer_length a.hyps.items c.hyps.items turned.longer);
      paths = f'.paths;
      left = subst (λ (k : ℕ). Left a c base ps rs (executed B around (drop (i + 1) ss) k (spot_of c h') c.maker.count) A) (sym node) turned;
      node = nodes_next ss i x b.maker.node c.maker.node (a.maker.node + exprs_in_block (seen_block all)) lt is inv.node node;
    }

pub within_stop : (frame : Frame) (around : List (tree.Expr Node)) (a b c d : Walk) (base : ℕ) (ps qs rs : List Path) (h g : Here) (ss all : List st.Stmt) (i : ℕ) (x : st.Stmt) → i < length ss → x ≡ get_or ss i x
    → IsFrame a.maker.terms frame → base ≤ length a.hyps.items
    → IsWithin frame around a b base ps qs h g (drop i ss) all
    → Flows b c base qs rs None (spec.exec (body_at b.maker.terms frame) around (numbered_stmt (seen_stmt x) b.maker.node) (spot_of b h) b.maker.count)
    → d.maker.terms ≡ c.maker.terms → d.maker.count ≡ c.maker.count → d.hyps ≡ c.hyps → d.owed ≡ c.owed
    → Flows a d base ps rs None (executed (body_at a.maker.terms frame) around all a.maker.node (spot_of a g) a.maker.count)
within_stop frame around a b c d base ps qs rs h g ss all i x lt is is_frame le inv f terms count hyps owed =
    let B = body_at a.maker.terms frame in
    let A = executed B around all a.maker.node (spot_of a g) a.maker.count in
    let S = numbered_stmt (seen_stmt x) b.maker.node in
    let f' = stmt_at frame around a b c base qs rs h None S is_frame inv.left.kept f in
    let next = behind_first B around x (drop (i + 1) ss) b.maker.node in
    flows_noded a c d base ps rs A terms count hyps owed
    (left_stop next a b c base ps qs rs (spec.exec B around S (spot_of b h) b.maker.count) A le (first_and_rest frame around a b base ps qs h g ss all i x lt is inv) f')

-- the numbers behind a block that no path gets through
pub node_stop : (ss : List st.Stmt) (i : ℕ) (x : st.Stmt) (k m l n : ℕ) → i < length ss → x ≡ get_or ss i x → k + exprs_in_block (seen_block (drop i ss)) ≡ n → m ≡ k + exprs_in_stmt (seen_stmt x) → l ≡ m + exprs_in_block (seen_block (drop (i + 1) ss)) → l ≡ n
node_stop ss i x k m l n lt is inv node passed = passed ∙ nodes_next ss i x k m n lt is inv node

pub within_end : (frame : Frame) (around : List (tree.Expr Node)) (a b : Walk) (base : ℕ) (ps qs : List Path) (h g : Here) (ss all : List st.Stmt) (i : ℕ) → length ss ≤ i
    → IsWithin frame around a b base ps qs h g (drop i ss) all
    → Flows a b base ps qs (Some h) (executed (body_at a.maker.terms frame) around all a.maker.node (spot_of a g) a.maker.count)
within_end frame around a b base ps qs h g ss all i past inv =
    let B = body_at a.maker.terms frame in
    let A = executed B around all a.maker.node (spot_of a g) a.maker.count in
    left_end a b base ps qs h A inv.slots
    (subst (λ (l : List st.Stmt). Left a b base ps qs (executed B around l b.maker.node (spot_of b h) b.maker.count) A) (drop_all i ss past) inv.left)

pub node_end : (ss : List st.Stmt) (i k n : ℕ) → length ss ≤ i → k + exprs_in_block (seen_block (drop i ss)) ≡ n → k ≡ n
node_end ss i k n past inv = sym (ap (λ (l : List st.Stmt). k + exprs_in_block (seen_block l)) (drop_all i ss past) ∙ add-zero k) ∙ inv
