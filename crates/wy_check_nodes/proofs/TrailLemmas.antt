-- The nodes that wait, as the present node grows and shrinks.
use Rattle.std.proofs.Common.{◌≡◌, ◌<◌, ◌≤◌, ◌+◌, ℕ, zero, suc, List, [], ◌∷◌, map, take, length, refl, ap, ◌∙◌, arith}
use Rattle.std.proofs.lemmas.List.{take-append-le, length-append}
use Rattle.wy_lemmas.proofs.Equations.{Pairs}
use Rattle.wy_check_spec.specs.wy_term.Term.{Term}
use Rattle.wy_check_spec.specs.judge.Node.{Node, denied_one}
use Rattle.wy_check_nodes.specs.declared.branch.Branch.{Branch}
use Rattle.wy_check_nodes.specs.Seen.{seen_literal, seen_formula, seen_branch, StartsWith, Extends}
use Rattle.wy_check_nodes.specs.declared.trail.Waiting.{Waiting}
use Rattle.wy_check_nodes.specs.Trail.{second_node, second_nodes, AreWaiting}

abbrev denying : (ℕ → Term) → Pairs → Pairs → ℕ → Node
denying at ls ps a = denied_one (record { literals = map (seen_literal at) ls; pending = map (seen_formula at) ps }) (at a)

-- the same second nodes by lists whose beginnings are the same
seconds_by : (at : ℕ → Term) (n m k : ℕ) (b c : Branch) (ws : List Waiting) → ((i : ℕ) → i ≤ m → take i c.literals.keys ≡ take i b.literals.keys) → ((i : ℕ) → i ≤ k → take i c.pending.keys ≡ take i b.pending.keys) → AreWaiting n m k ws → second_nodes at c ws ≡ second_nodes at b ws
seconds_by at n m k b c [] ls ps are = refl
seconds_by at n m k b c (w ∷ ws) ls ps are =
    ap (λ (x : Node). x ∷ second_nodes at c ws) (ap (λ (xs : Pairs). denying at xs (take w.pending c.pending.keys) w.atom) (ls w.literals are.0) ∙ ap (λ (ys : Pairs). denying at (take w.literals b.literals.keys) ys w.atom) (ps w.pending are.1))
    ∙ ap (λ (xs : List Node). second_node at b w ∷ xs) (seconds_by at n w.literals w.pending b c ws (λ i le. ls i (omega (arith, le, are.0))) (λ i le. ps i (omega (arith, le, are.1))) are.3)

take_start : (xs ys : Pairs) → StartsWith xs ys → (i : ℕ) → i ≤ length xs → take i ys ≡ take i xs
take_start xs ys s i le = ap (take i) s.1 ∙ take-append-le i xs s.0 le

pub seconds_grow : (at : ℕ → Term) (n : ℕ) (b c : Branch) (ws : List Waiting) → Extends b c → AreWaiting n (length b.literals.keys) (length b.pending.keys) ws → second_nodes at c ws ≡ second_nodes at b ws
seconds_grow at n b c ws e are = seconds_by at n (length b.literals.keys) (length b.pending.keys) b c ws (take_start b.literals.keys c.literals.keys e.literals) (take_start b.pending.keys c.pending.keys e.pending) are

take_twice : (xs : Pairs) (i j : ℕ) → i ≤ j → take i (take j xs) ≡ take i xs
take_twice xs zero j le = refl
take_twice [] (suc i) zero le = absurd (omega (arith, le))
take_twice [] (suc i) (suc j) le = refl
take_twice (x ∷ xs) (suc i) zero le = absurd (omega (arith, le))
take_twice (x ∷ xs) (suc i) (suc j) le = ap (λ (ys : Pairs). x ∷ ys) (take_twice xs i j (omega (arith, le)))

pub seconds_cut : (at : ℕ → Term) (n m k : ℕ) (b c : Branch) (ws : List Waiting) → c.literals.keys ≡ take m b.literals.keys → c.pending.keys ≡ take k b.pending.keys → AreWaiting n m k ws → second_nodes at c ws ≡ second_nodes at b ws
seconds_cut at n m k b c ws ls ps are = seconds_by at n m k b c ws (λ i le. ap (take i) ls ∙ take_twice b.literals.keys i m le) (λ i le. ap (take i) ps ∙ take_twice b.pending.keys i k le) are

pub waiting_up : (n m k i j : ℕ) (ws : List Waiting) → m ≤ i → k ≤ j → AreWaiting n m k ws → AreWaiting n i j ws
waiting_up n m k i j [] le lf are = tt
waiting_up n m k i j (w ∷ ws) le lf are = (omega (arith, le, are.0), omega (arith, lf, are.1), are.2, are.3)

pub longer : (xs ys : Pairs) → StartsWith xs ys → length xs ≤ length ys
longer xs ys s = let e : length ys ≡ length xs + length s.0 = ap length s.1 ∙ length-append xs s.0 in omega (arith, e)

pub length_cut : (xs ys : Pairs) (m : ℕ) → ys ≡ take m xs → m ≤ length xs → length ys ≡ m
length_cut xs ys m is le = ap length is ∙ go xs m le
  where
    go : (zs : Pairs) (i : ℕ) → i ≤ length zs → length (take i zs) ≡ i
    go zs zero lt = refl
    go [] (suc i) lt = absurd (omega (arith, lt))
    go (z ∷ zs) (suc i) lt = let e : length (take i zs) ≡ i = go zs i (omega (arith, lt)) in omega (arith, e)

-- ---- steps

abbrev cut_of : Branch → Branch → Waiting → Type 0
cut_of b cut w = (cut.literals.keys ≡ take w.literals b.literals.keys) × (cut.pending.keys ≡ take w.pending b.pending.keys)

lengths_cut : (n : ℕ) (b cut : Branch) (w : Waiting) (ws : List Waiting) → cut_of b cut w → AreWaiting n (length b.literals.keys) (length b.pending.keys) (w ∷ ws) → AreWaiting n (length cut.literals.keys) (length cut.pending.keys) ws
lengths_cut n b cut w ws is are =
    let first : length cut.literals.keys ≡ w.literals = length_cut b.literals.keys cut.literals.keys w.literals is.0 are.0 in
    let second : length cut.pending.keys ≡ w.pending = length_cut b.pending.keys cut.pending.keys w.pending is.1 are.1 in
    waiting_up n w.literals w.pending (length cut.literals.keys) (length cut.pending.keys) ws (omega (arith, first)) (omega (arith, second)) are.3

pub closed_nodes : (at : ℕ → Term) (n : ℕ) (b cut c : Branch) (w : Waiting) (ws : List Waiting) → cut_of b cut w → seen_branch at c ≡ denied_one (seen_branch at cut) (at w.atom) → Extends cut c → AreWaiting n (length b.literals.keys) (length b.pending.keys) (w ∷ ws) → seen_branch at c ∷ second_nodes at c ws ≡ second_nodes at b (w ∷ ws)
closed_nodes at n b cut c w ws is made more are =
    ap (λ (x : Node). x ∷ second_nodes at c ws) (made ∙ (ap (λ (xs : Pairs). denying at xs cut.pending.keys w.atom) is.0 ∙ ap (λ (ys : Pairs). denying at (take w.literals b.literals.keys) ys w.atom) is.1))
    ∙ ap (λ (xs : List Node). second_node at b w ∷ xs) (seconds_grow at n cut c ws more (lengths_cut n b cut w ws is are) ∙ seconds_cut at n w.literals w.pending b cut ws is.0 is.1 are.3)

pub waiting_grow : (n : ℕ) (b c : Branch) (ws : List Waiting) → Extends b c → AreWaiting n (length b.literals.keys) (length b.pending.keys) ws → AreWaiting n (length c.literals.keys) (length c.pending.keys) ws
waiting_grow n b c ws more are = waiting_up n (length b.literals.keys) (length b.pending.keys) (length c.literals.keys) (length c.pending.keys) ws (longer b.literals.keys c.literals.keys more.literals) (longer b.pending.keys c.pending.keys more.pending) are

pub closed_waiting : (n : ℕ) (b cut c : Branch) (w : Waiting) (ws : List Waiting) → cut_of b cut w → Extends cut c → AreWaiting n (length b.literals.keys) (length b.pending.keys) (w ∷ ws) → AreWaiting n (length c.literals.keys) (length c.pending.keys) ws
closed_waiting n b cut c w ws is more are = waiting_grow n cut c ws more (lengths_cut n b cut w ws is are)

pub grown_nodes : (at : ℕ → Term) (n : ℕ) (b c : Branch) (node : Node) (ws : List Waiting) → seen_branch at c ≡ node → Extends b c → AreWaiting n (length b.literals.keys) (length b.pending.keys) ws → seen_branch at c ∷ second_nodes at c ws ≡ node ∷ second_nodes at b ws
grown_nodes at n b c node ws made more are = ap (λ (x : Node). x ∷ second_nodes at c ws) made ∙ ap (λ (xs : List Node). node ∷ xs) (seconds_grow at n b c ws more are)

take_all : (xs : Pairs) → take (length xs) xs ≡ xs
take_all [] = refl
take_all (x ∷ xs) = ap (λ (ys : Pairs). x ∷ ys) (take_all xs)

-- the second node of a split at this place
pub second_here : (at : ℕ → Term) (b : Branch) (w : Waiting) → w.literals ≡ length b.literals.keys → w.pending ≡ length b.pending.keys → second_node at b w ≡ denied_one (seen_branch at b) (at w.atom)
second_here at b w ls ps =
    ap (λ (k : ℕ). denying at (take k b.literals.keys) (take w.pending b.pending.keys) w.atom) ls
    ∙ (ap (λ (k : ℕ). denying at (take (length b.literals.keys) b.literals.keys) (take k b.pending.keys) w.atom) ps
    ∙ (ap (λ (xs : Pairs). denying at xs (take (length b.pending.keys) b.pending.keys) w.atom) (take_all b.literals.keys) ∙ ap (λ (ys : Pairs). denying at b.literals.keys ys w.atom) (take_all b.pending.keys)))

pub waiting_here : (n : ℕ) (b : Branch) (w : Waiting) (ws : List Waiting) → w.literals ≡ length b.literals.keys → w.pending ≡ length b.pending.keys → w.atom < n → AreWaiting n (length b.literals.keys) (length b.pending.keys) ws → AreWaiting n (length b.literals.keys) (length b.pending.keys) (w ∷ ws)
waiting_here n b w ws ls ps lt are = (omega (arith, ls), omega (arith, ps), lt, waiting_up n (length b.literals.keys) (length b.pending.keys) w.literals w.pending ws (omega (arith, ls)) (omega (arith, ps)) are)
