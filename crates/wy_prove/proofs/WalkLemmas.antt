-- The walk's nodes stand for the same as the list of terms grows, and what is left behind each turn.
use Rattle.std.proofs.Common.{◌≡◌, ◌∙◌, ◌<◌, ◌+◌, ℕ, List, [], ◌∷◌, ◌++◌, map, Bool, true, false, Some, None, refl, sym, ap, subst, arith}
use Rattle.wy_prove_rounds.proofs.wy_prove_drafts_proofs.DraftLemmas.{progress}
use Rattle.wy_facts.specs.Schema.{only_if}
use Rattle.wy_term.specs.Term.{Term}
use Rattle.wy_term.specs.Condition.{Entry, Condition}
use Rattle.wy_term.specs.Nodes.{Plain, tree_at}
use Rattle.wy_facts.specs.Seen.{Stays}
use Rattle.wy_prove_rounds.specs.wy_check_spec.judge.Node.{Node, added, denied_one}
use Rattle.wy_prove_explaining.specs.wy_check_nodes.Seen.{seen_branch}
use Rattle.wy_prove_explaining.proofs.wy_check_nodes_proofs.SumsBranchLemmas.{branch_stays, node_stays}
use Rattle.wy_cert.specs.Steps.{shut, split}
use Rattle.wy_prove_rounds.specs.wy_check_spec.valid.Literals.{is_shut}
use Rattle.wy_prove_rounds.specs.wy_check_spec.valid.Validity.{closed as no_node}
use Rattle.wy_prove_leaves.specs.wy_search_spec.Bounds.{ending}
use Rattle.wy_prove_leaves.specs.wy_search_spec.Expansion as search
use Rattle.wy_prove_leaves.specs.wy_search_spec.Tree as tree
use Rattle.wy_prove_leaves.specs.wy_search_spec.Tree.{Verdict}
use Rattle.wy_prove_leaves.specs.wy_search_spec.Splitting.{next_atom}
use Rattle.wy_prove_rounds.specs.wy_search.StatedSeen.{seen_spot}
use Rattle.wy_prove_rounds.specs.wy_search.Turns.{with_side}
use Rattle.wy_prove_rounds.proofs.wy_search_proofs.SpotLemmas.{spot_stays, seen_stays}
use Rattle.wy_prove_leaves.proofs.wy_search_laws_proofs.closing_lemmas.AtLeastLemmas.{shuts_more}
use Rattle.wy_prove_leaves.specs.wy_search_laws.rounds.Leaves.{IsLeaf}
use Rattle.wy_prove_rounds.specs.wy_prove_drafts.Progress.{Progress, Closes, Goes, Ends, Splits}
use Rattle.wy_prove_rounds.proofs.wy_prove_drafts_proofs.ProgressLemmas.{closes_ends}
use Rattle.wy_prove_rounds.specs.Rounds.{IsBeside}
use Rattle.wy_prove.specs.declared.walking.Waiting.{Waiting}
use Rattle.wy_prove.specs.Plans.{IsEnded}
use Rattle.wy_prove.specs.Tracks.{Pair, IsFound, IsLeft}
use Rattle.wy_prove.specs.Turns.{IsOpenNode}
use Rattle.wy_prove.specs.Walks.{AreWaiting, seen_waiting, StandsAt}
use Rattle.wy_prove.proofs.TrackLemmas.{at_node, shut_next, leaf_next, open_next, leaf_left, round_left, never_open, same_beside}
use Rattle.wy_prove.proofs.SplitLemmas.{split_left, never_apart}

-- ---- more terms

pub waiting_stay : (old new : List Plain) (ws : List Waiting) → Stays old new → AreWaiting old ws → AreWaiting new ws
waiting_stay old new [] stays are = tt
waiting_stay old new (w ∷ ws) stays are = (spot_stays old new w.spot stays are.0, branch_stays old new w.branch stays are.1, waiting_stay old new ws stays are.2)

abbrev pair : search.Spot → Node → Pair
pair p node = (p, node)

pub waiting_seen : (old new : List Plain) (ws : List Waiting) → Stays old new → AreWaiting old ws → map (seen_waiting (tree_at new)) ws ≡ map (seen_waiting (tree_at old)) ws
waiting_seen old new [] stays are = refl
waiting_seen old new (w ∷ ws) stays are =
    ap (λ (p : search.Spot). pair p (seen_branch (tree_at new) w.branch) ∷ map (seen_waiting (tree_at new)) ws) (seen_stays old new w.spot stays are.0)
    ∙ (ap (λ (n : Node). pair (seen_spot (tree_at old) w.spot) n ∷ map (seen_waiting (tree_at new)) ws) (node_stays old new w.branch stays are.1)
    ∙ ap (λ (xs : List Pair). seen_waiting (tree_at old) w ∷ xs) (waiting_seen old new ws stays are.2))

-- what is left stays so, with all that it speaks of under other words
pub stands_so : (c : Condition) (budget : ℕ) (v : Verdict) (n : ℕ) (p q : search.Spot) (d e : Progress) (ws vs : List Pair) → q ≡ p → e ≡ d → vs ≡ ws → StandsAt c budget v n p d ws → StandsAt c budget v n q e vs
stands_so c budget v n p q d e ws vs same_p same_d same_ws h =
    subst (λ (x : search.Spot). StandsAt c budget v n x e vs) (sym same_p)
    (subst (λ (x : Progress). StandsAt c budget v n p x vs) (sym same_d) (subst (λ (xs : List Pair). StandsAt c budget v n p d xs) (sym same_ws) h))

-- ---- behind a node that can't be

-- in the draft it can't be either
pub shut_ends : (types : List Entry) (p : search.Spot) (d e : Progress) (yes : Bool) → is_shut p.node ≡ true → IsBeside types p d → Closes types shut d e yes → IsEnded types d e yes
shut_ends types p d e true is beside h = closes_ends types shut d e tt h
shut_ends types p d e false is beside h = by (is_shut d.node) (shuts_more p.node d.node beside.near.at_least is) h.0
  where
    by : (b : Bool) → b ≡ true → only_if b no_node ≡ None → ⊥
    by true f g = absurd cc
    by false f g = absurd cc

pub shut_left : (c : Condition) (budget : ℕ) (v : Verdict) (n m : ℕ) (p : search.Spot) (d e : Progress) (ws : List Pair) → n < budget → m ≡ n + 1 → is_shut p.node ≡ true → Ends c.types d e → StandsAt c budget v n p d ws → IsLeft c budget v m e.steps ws
shut_left c budget v n m p d e ws below count is ends h = leaf_left c budget v n m p d e ws (λ f. omega (arith, below, f)) count (shut_next c.types p is) ends h

-- ---- behind a leaf

pub closed_left : (c : Condition) (budget : ℕ) (v : Verdict) (n m : ℕ) (p : search.Spot) (d e : Progress) (ws : List Pair) → n < budget → m ≡ n + 1 → IsLeaf p.node → Ends c.types d e → StandsAt c budget v n p d ws → IsLeft c budget v m e.steps ws
closed_left c budget v n m p d e ws below count is ends h = leaf_left c budget v n m p d e ws (λ f. omega (arith, below, f)) count (leaf_next c.types p is) ends h

-- ---- behind a split

pub fork_left : (c : Condition) (budget : ℕ) (v : Verdict) (n : ℕ) (p l r : search.Spot) (d e f : Progress) (second : Node) (a : Term) (ws vs : List Pair) → n < budget → IsOpenNode p.node → next_atom p.node ≡ Some a → l ≡ with_side p a true → r ≡ with_side p a false → Splits a d e true → f ≡ record { steps = e.steps; node = added e.node a } → second ≡ denied_one e.node a → vs ≡ (r, second) ∷ ws → StandsAt c budget v n p d ws → StandsAt c budget v n l f vs
fork_left c budget v n p l r d e f second a ws vs below free atom isl isr may isf iss isvs h =
    let up = search.with_node p (added p.node a) in
    let down = search.with_node p (denied_one p.node a) in
    let is : tree.next c.types p ≡ tree.splits up down = open_next c.types p free.shut free.clashes free.refuted ∙ ap (tree.on_atom c.types p (ending p.node)) atom in
    let both = split_left c budget v n p d.node d.steps ws a (λ g. omega (arith, below, g)) atom is may.0 h in
    stands_so c budget v n up l (progress (d.steps ++ split a ∷ []) (added d.node a)) f (pair down (denied_one d.node a) ∷ ws) vs isl
    (isf ∙ ap (λ (x : Progress). progress x.steps (added x.node a)) may.1)
    (isvs ∙ (ap (λ (q : search.Spot). pair q second ∷ ws) isr ∙ ap (λ (m : Node). pair down m ∷ ws) (iss ∙ ap (λ (x : Progress). denied_one x.node a) may.1))) both

pub fork_never : (c : Condition) (budget : ℕ) (v : Verdict) (n : ℕ) (p : search.Spot) (d e : Progress) (a : Term) (ws : List Pair) → next_atom p.node ≡ Some a → Splits a d e false → StandsAt c budget v n p d ws → ⊥
fork_never c budget v n p d e a ws next_is un h = never_apart c budget v n p d.node d.steps ws a next_is un.0 h

-- ---- behind a round

stays_next : (types : List Entry) (p : search.Spot) → IsOpenNode p.node → next_atom p.node ≡ None → tree.next types p ≡ tree.on_expansion types p (ending p.node)
stays_next types p free none = open_next types p free.shut free.clashes free.refuted ∙ ap (tree.on_atom types p (ending p.node)) none

pub round_stands : (c : Condition) (budget : ℕ) (v : Verdict) (n : ℕ) (types : List Entry) (p q : search.Spot) (d e : Progress) (ws : List Pair) → c.types ≡ types → n < budget → IsOpenNode p.node → next_atom p.node ≡ None → tree.on_expansion types p (ending p.node) ≡ tree.goes_on q → Goes types d e → IsBeside types q e → StandsAt c budget v n p d ws → StandsAt c budget v n q e ws
round_stands c budget v n types p q d e ws same below free none is goes beside h =
    round_left c budget v n p q d e ws (λ g. omega (arith, below, g))
    (stays_next c.types p free none ∙ (ap (λ (ts : List Entry). tree.on_expansion ts p (ending p.node)) same ∙ is))
    (subst (λ (ts : List Entry). Goes ts d e) (sym same) goes) (subst (λ (ts : List Entry). IsBeside ts q e) (sym same) beside) h

pub round_never : (c : Condition) (budget : ℕ) (v : Verdict) (n : ℕ) (types : List Entry) (p : search.Spot) (d : Progress) (ws : List Pair) → c.types ≡ types → n < budget → IsOpenNode p.node → next_atom p.node ≡ None → tree.on_expansion types p (ending p.node) ≡ tree.stays_open (tree.why_open (ending p.node)) → StandsAt c budget v n p d ws → IsFound v → ⊥
round_never c budget v n types p d ws same below free none is h =
    never_open c budget v n p d.node d.steps ws (tree.why_open (ending p.node))
    (stays_next c.types p free none ∙ (ap (λ (ts : List Entry). tree.on_expansion ts p (ending p.node)) same ∙ is)) (λ g. omega (arith, below, g)) h

-- the draft's node is beside the search's
pub stands_beside : (c : Condition) (budget : ℕ) (v : Verdict) (n : ℕ) (p : search.Spot) (d : Progress) (ws : List Pair) (types : List Entry) → c.types ≡ types → StandsAt c budget v n p d ws → IsBeside types p d
stands_beside c budget v n p d ws types same h = subst (λ (ts : List Entry). IsBeside ts p d) same (same_beside c.types p (at_node d.node) d refl h.beside.0)
