-- What a statement owes, by its form.
use Rattle.std.proofs.Common.{◌≡◌, ◌≤◌, ◌+◌, ◌++◌, ℕ, List, [], length, take, Option, Some, None, Result, refl, sym, ◌∙◌, ap, subst, arith}
use Rattle.std.specs.Prelude.{IfOk, OnOk}
use Rattle.std.proofs.lemmas.List.{append-nil, take_all}
use Rattle.wy_core.specs.Types.{Ty}
use Rattle.wy_core.specs.CoreTree as tree
use Rattle.wy_core.specs.CoreSeen.{seen_exprs}
use Rattle.wy_core.specs.declared.expressions.Expr as e
use Rattle.wy_term.specs.wy_items.declared.memory.NoMemory.{NoMemory}
use Rattle.wy_vc_spec.specs.Calls.{Walked}
use Rattle.wy_vc_spec.specs.Joins as joins
use Rattle.wy_vc_spec.specs.Numbered.{Node, numbered, numbered_block, numbered_list, numbered_stmt}
use Rattle.wy_vc_spec.specs.Sizes.{exprs_in, exprs_in_block, exprs_in_list, exprs_in_stmt}
use Rattle.wy_vc_spec.specs.Spots.{Spot, Flow, as_list, goes}
use Rattle.wy_vc_spec.specs.Statements as spec
use Rattle.wy_vc_body.specs.declared.here.Here.{Here}
use Rattle.wy_vc_body.specs.wy_vc_exprs.Numbered.{trees_of}
use Rattle.wy_vc_body.specs.wy_vc_exprs.Slots.{AreSlots, slots_of}
use Rattle.wy_vc_body.specs.wy_vc_exprs.State.{IsSound, hyps_of, owed_of}
use Rattle.wy_vc_body.specs.wy_vc_exprs.declared.walk.Walk.{Walk}
use Rattle.wy_vc_body.proofs.wy_vc_exprs_proofs.ResultLemmas.{if_ok, on_ok}
use Rattle.wy_vc_body.specs.declared.paths.Path.{Path}
use Rattle.wy_vc_body.specs.Paths.{ArePaths, Meets, seen_ends, spot_of}
use Rattle.wy_vc_body.specs.declared.frame.Frame.{Frame}
use Rattle.wy_vc_body.specs.Frames.{IsFrame, body_at}
use Rattle.wy_vc_body.specs.Going.{Went}
use Rattle.wy_vc.specs.declared.branches.Fork.{Fork}
use Rattle.wy_vc.specs.declared.heads.Head.{Head}
use Rattle.wy_vc.specs.Branches.{Forks, Turns}
use Rattle.wy_vc.specs.Flows.{Flows, end_of}
use Rattle.wy_vc.specs.Heads.{Begins, Closes, Entered, closed, entered, tested}
use Rattle.wy_vc.proofs.BranchLemmas.{first_at, if_flows, second_at}
use Rattle.wy_vc.proofs.EndLemmas.{end_some}
use Rattle.wy_vc.proofs.FlowLemmas.{flows_quiet}
use Rattle.wy_vc.proofs.HeadLemmas.{while_went}
use Rattle.wy_vc.proofs.MoveLemmas.{front_long, longer_length}
use Rattle.wy_vc_body.proofs.wy_vc_operations_proofs.GrowingLemmas.{kept_all}

-- ---- statements without `break`s

pub quiet_value : (b : spec.Body Node) (around : List (tree.Expr Node)) (k : ℕ) (x s : tree.Stmt ℕ) (p : Spot) (n : ℕ) (a c : Walk) (base : ℕ) (ps : List Path) (r : Result (Option Here) NoMemory) → x ≡ s → (spec.exec b around (numbered_stmt s k) p n).breaks ≡ [] → IsSound a → ArePaths a.maker.terms ps
    → IfOk r (λ h. Went a c h (spec.exec b around (numbered_stmt s k) p n)) → IfOk r (λ h. Flows a c base ps ps h (spec.exec b around (numbered_stmt x k) p n))
quiet_value b around k x s p n a c base ps r is none sound are known =
    if_ok r _ _ known (λ h w. subst (λ (y : tree.Stmt ℕ). Flows a c base ps ps h (spec.exec b around (numbered_stmt y k) p n)) (sym is) (flows_quiet a c base ps h (spec.exec b around (numbered_stmt s k) p n) sound are none w))

pub form_node : (x s : tree.Stmt ℕ) (k m l : ℕ) (r : Result (Option Here) NoMemory) → x ≡ s → l ≡ k + exprs_in_stmt s → OnOk r (m ≡ l) → OnOk r (m ≡ k + exprs_in_stmt x)
form_node x s k m l r is same known = on_ok r _ _ known (λ known'. known' ∙ same ∙ ap (λ (y : tree.Stmt ℕ). k + exprs_in_stmt y) (sym is))

pub declare_breaks : (b : spec.Body Node) (around : List (tree.Expr Node)) (at : ℕ) (t : Ty) (x : ℕ) (v : Option (tree.Expr Node)) (p : Spot) (n : ℕ) → (spec.exec b around (tree.DeclareStmt at t x v) p n).breaks ≡ []
declare_breaks b around at t x None p n = refl
declare_breaks b around at t x (Some v) p n = refl

pub return_breaks : (b : spec.Body Node) (around : List (tree.Expr Node)) (at : ℕ) (v : Option (tree.Expr Node)) (p : Spot) (n : ℕ) → (spec.exec b around (tree.ReturnStmt at v) p n).breaks ≡ []
return_breaks b around at None p n = refl
return_breaks b around at (Some v) p n = refl

-- nothing is done
pub skipped : (a : Walk) (base : ℕ) (ps : List Path) (h : Here) → IsSound a → AreSlots a.maker.terms h.vars.items → ArePaths a.maker.terms ps → Flows a a base ps ps (Some h) (goes a.maker.count (spot_of a h) [])
skipped a base ps h sound slots are =
    flows_quiet a a base ps (Some h) (goes a.maker.count (spot_of a h) []) sound are refl
    (record {
      sound = sound;
      kept = kept_all a.maker.terms;
      longer = take_all (length a.hyps.items) a.hyps.items (omega arith);
      count = refl;
      owed = sym (append-nil (owed_of a));
      ends = end_some a h slots;
    })

-- what is so of a statement of this form is so of the statement
pub as_form : (b : spec.Body Node) (around : List (tree.Expr Node)) (k : ℕ) (x s : tree.Stmt ℕ) (p : Spot) (n : ℕ) (a c : Walk) (base : ℕ) (ps qs : List Path) (h : Option Here) → x ≡ s → Flows a c base ps qs h (spec.exec b around (numbered_stmt s k) p n) → Flows a c base ps qs h (spec.exec b around (numbered_stmt x k) p n)
as_form b around k x s p n a c base ps qs h is f = subst (λ (y : tree.Stmt ℕ). Flows a c base ps qs h (spec.exec b around (numbered_stmt y k) p n)) (sym is) f

-- ---- `if`

-- a block whose first expression has this number
abbrev pub block_at : List (tree.Expr Node) → tree.Stmts ℕ → ℕ → spec.Body Node → Spot → ℕ → Flow
block_at around block k b p n = spec.exec_all b around (numbered_block block k) p n

pub if_at : (frame : Frame) (around : List (tree.Expr Node)) (at : ℕ) (test : tree.Expr ℕ) (first second : tree.Stmts ℕ) (a b c d e f : Walk) (h : Here) (fork : Fork) (base : ℕ) (ps qs rs paths : List Path) (taken end o : Option Here)
    → IsFrame a.maker.terms frame → IsSound a → AreSlots a.maker.terms h.vars.items → base ≤ length a.hyps.items → ArePaths a.maker.terms ps
    → b.maker.node ≡ a.maker.node + exprs_in test → c.maker.node ≡ b.maker.node + exprs_in_block first → d.maker.node ≡ c.maker.node
    → Forks a b h fork (spec.expr (body_at a.maker.terms frame) (numbered test a.maker.node) (slots_of a.maker.terms h.vars.items) (hyps_of a) a.maker.count)
    → Flows b c base ps qs taken (block_at around first b.maker.node (body_at b.maker.terms frame) (spot_of b h) b.maker.count)
    → Turns c d fork.base fork.fails taken paths
    → Flows d e base qs rs end (block_at around second d.maker.node (body_at d.maker.terms frame) (spot_of d fork.here) d.maker.count)
    → Meets e f fork.base o (joins.meet frame.routine.now.variables (trees_of e.maker.terms (take fork.base e.hyps.items)) (seen_ends e.maker.terms (take fork.base e.hyps.items) paths ++ as_list (end_of e end)) e.maker.count)
    → Flows a f base ps rs o (spec.exec (body_at a.maker.terms frame) around (numbered_stmt (tree.IfStmt at test first second) a.maker.node) (spot_of a h) a.maker.count)
if_at frame around at test first second a b c d e f h fork base ps qs rs paths taken end o is sound slots le are node_b node_c node_d forks one turns two meets =
    let B = body_at a.maker.terms frame in
    let P = spot_of a h in
    let v = spec.expr B (numbered test a.maker.node) (slots_of a.maker.terms h.vars.items) (hyps_of a) a.maker.count in
    let k1 = a.maker.node + exprs_in test in
    let k2 = k1 + exprs_in_block first in
    let node : d.maker.node ≡ k2 = node_d ∙ node_c ∙ ap (λ (n : ℕ). n + exprs_in_block first) node_b in
    let one' = first_at (block_at around first) frame a b c v h fork base k1 ps qs taken is slots node_b forks one in
    let F = block_at around first k1 B (spec.where_true v P) v.count in
    let two' = second_at (block_at around second) frame a b c d e v h fork base k2 F.count qs rs paths taken end is slots node one'.went.count forks one'.went.kept
    (front_long fork.base b.hyps.items c.hyps.items forks.within one'.went.longer) turns two in
    if_flows frame.routine.now.variables a b c d e f v h fork base ps qs rs paths taken end o F (block_at around second k2 B (spec.where_false v P) F.count) sound le are forks one' turns two' meets

pub if_node : (k b c d e f t x y : ℕ) → b ≡ k + t → c ≡ b + x → d ≡ c → e ≡ d + y → f ≡ e → f ≡ k + (t + x + y)
if_node k b c d e f t x y nb nc nd ne nf = omega (arith, nb, nc, nd, ne, nf)

-- ---- `while`

pub while_at : (frame : Frame) (around : List (tree.Expr Node)) (at : ℕ) (test : tree.Expr ℕ) (es : List e.Expr) (body : tree.Stmts ℕ) (a b c f : Walk) (h : Here) (head : Head) (base : ℕ) (ps qs : List Path) (end o : Option Here)
    → IsFrame a.maker.terms frame → IsSound a → ArePaths a.maker.terms ps
    → head.first ≡ a.maker.node + exprs_in test → b.maker.node ≡ a.maker.node + exprs_in test + exprs_in_list (seen_exprs es)
    → ((k : ℕ) → Begins a b head (entered (body_at a.maker.terms frame) at (numbered_list (seen_exprs es) (a.maker.node + exprs_in test)) (numbered_block body k) (spot_of a h) a.maker.count)
    (tested (body_at a.maker.terms frame) (numbered test a.maker.node) (entered (body_at a.maker.terms frame) at (numbered_list (seen_exprs es) (a.maker.node + exprs_in test)) (numbered_block body k) (spot_of a h) a.maker.count)))
    → Flows b c head.base head.breaks.items qs end (block_at (numbered_list (seen_exprs es) head.first) body b.maker.node (body_at b.maker.terms frame) (spot_of b head.here) b.maker.count)
    → Closes c f head.base o (closed (body_at c.maker.terms frame) at (numbered_list (seen_exprs es) head.first) (trees_of c.maker.terms (take head.base c.hyps.items)) (seen_ends c.maker.terms (take head.base c.hyps.items) qs) (end_of c end) c.maker.count)
    → Flows a f base ps ps o (spec.exec (body_at a.maker.terms frame) around (numbered_stmt (tree.WhileStmt at test (seen_exprs es) body) a.maker.node) (spot_of a h) a.maker.count)
while_at frame around at test es body a b c f h head base ps qs end o is sound are first node begins flows closes =
    let k1 = a.maker.node + exprs_in test in
    let k2 = k1 + exprs_in_list (seen_exprs es) in
    let I = λ (k : ℕ). numbered_list (seen_exprs es) k in
    let flows1 = subst (λ (k : ℕ). Flows b c head.base head.breaks.items qs end (block_at (I k) body b.maker.node (body_at b.maker.terms frame) (spot_of b head.here) b.maker.count)) first flows in
    let flows2 = subst (λ (k : ℕ). Flows b c head.base head.breaks.items qs end (block_at (I k1) body k (body_at b.maker.terms frame) (spot_of b head.here) b.maker.count)) node flows1 in
    let closes1 = subst (λ (k : ℕ). Closes c f head.base o (closed (body_at c.maker.terms frame) at (I k) (trees_of c.maker.terms (take head.base c.hyps.items)) (seen_ends c.maker.terms (take head.base c.hyps.items) qs) (end_of c end) c.maker.count)) first closes in
    flows_quiet a f base ps o (spec.exec (body_at a.maker.terms frame) around (tree.WhileStmt at (numbered test a.maker.node) (I k1) (numbered_block body k2)) (spot_of a h) a.maker.count) sound are refl
    (while_went frame around (I k1) at (numbered test a.maker.node) (numbered_block body k2) a b c f h head qs end o is (begins k2) flows2 closes1)

pub while_node : (k b c f t x y : ℕ) → b ≡ k + t + x → c ≡ b + y → f ≡ c → f ≡ k + (t + x + y)
while_node k b c f t x y nb nc nf = omega (arith, nb, nc, nf)

-- ---- how many hypotheses there are

pub fork_base : (a b : Walk) (h : Here) (fork : Fork) (v : Walked) (base : ℕ) → Forks a b h fork v → base ≤ length a.hyps.items → base ≤ length b.hyps.items
fork_base a b h fork v base forks le = omega (arith, le, forks.before, forks.within)

pub fork_on : (a b c : Walk) (h : Here) (fork : Fork) (v : Walked) (base : ℕ) (ps qs : List Path) (o : Option Here) (f : Flow) → Forks a b h fork v → Flows b c base ps qs o f → fork.base ≤ length c.hyps.items
fork_on a b c h fork v base ps qs o f forks flows = omega (arith, forks.within, longer_length b.hyps.items c.hyps.items flows.went.longer)

pub turn_base : (a b c d : Walk) (h : Here) (fork : Fork) (v : Walked) (base : ℕ) (o : Option Here) (paths : List Path) → Forks a b h fork v → Turns c d fork.base fork.fails o paths → base ≤ length a.hyps.items → base ≤ length d.hyps.items
turn_base a b c d h fork v base o paths forks turns le = omega (arith, le, forks.before, turns.within)

pub turn_on : (c d e : Walk) (base fails outer : ℕ) (qs rs paths : List Path) (o end : Option Here) (f : Flow) → Turns c d base fails o paths → Flows d e outer qs rs end f → base ≤ length e.hyps.items
turn_on c d e base fails outer qs rs paths o end f turns flows = omega (arith, turns.within, longer_length d.hyps.items e.hyps.items flows.went.longer)

pub round_on : (a b c : Walk) (head : Head) (s : Entered) (v : Walked) (qs : List Path) (o : Option Here) (f : Flow) → Begins a b head s v → Flows b c head.base head.breaks.items qs o f → head.base ≤ length c.hyps.items
round_on a b c head s v qs o f begins flows = omega (arith, begins.within, longer_length b.hyps.items c.hyps.items flows.went.longer)

-- ---- bodies

-- in no loop there are no invariants
pub body_went : (b : spec.Body Node) (block : tree.Stmts ℕ) (k first : ℕ) (es : List e.Expr) (p : Spot) (n : ℕ) (a c : Walk) (base : ℕ) (ps qs : List Path) (h : Option Here) → es ≡ []
    → Flows a c base ps qs h (spec.exec_all b (numbered_list (seen_exprs es) first) (numbered_block block k) p n) → Went a c h (spec.exec_all b [] (numbered_block block k) p n)
body_went b block k first es p n a c base ps qs h none f =
    (subst (λ (l : List e.Expr). Flows a c base ps qs h (spec.exec_all b (numbered_list (seen_exprs l) first) (numbered_block block k) p n)) none f).went
