-- A node takes so many turns, behind which the walk has a verdict or goes on with the nodes behind it.
use Rattle.std.proofs.Common.{◌≡◌, ◌∙◌, ◌+◌, ◌<◌, ◌≤◌, ◌||◌, ℕ, zero, suc, List, [], ◌∷◌, Bool, true, false, cond, eqb, Option, Some, None, refl, ap, arith}
use Rattle.std.specs.Prelude.{nat_lt}
use Rattle.wy_search_bounds.specs.wy_term.Term.{Term}
use Rattle.wy_search_bounds.specs.wy_term.Condition.{Entry}
use Rattle.wy_search_bounds.specs.wy_check_spec.judge.Node.{added, denied_one}
use Rattle.wy_search_bounds.specs.wy_check_spec.valid.Literals.{is_shut}
use Rattle.wy_search_bounds.specs.wy_search_spec.Classes.{clashes}
use Rattle.wy_search_bounds.specs.wy_search_spec.Bounds.{Ending, consistent, crowded, ending, refuted, wide}
use Rattle.wy_search_bounds.specs.wy_search_spec.Splitting.{next_atom}
use Rattle.wy_search_bounds.specs.wy_search_spec.Expansion.{Spot, expanded, with_node}
use Rattle.wy_search_bounds.specs.wy_search_spec.Tree.{Next, Verdict, by_ending, closed, follows, found, goes_on, is_more, next, on_atom, on_expansion, open_leaf, searched, spent, splits, stays_open, why_open}
use Rattle.wy_search_bounds.proofs.wy_check_laws_proofs.sound_lemmas.NodeLemmas.{IsSortedNode, added_sorted, denied_sorted}
use Rattle.wy_search_laws.proofs.ends_lemmas.AtomLemmas.{splits_less, undecided}

-- behind so many turns with this node in front there is a verdict, or the walk goes on behind it; so whatever turns are left
data Passes (types : List Entry) (budget t n : ℕ) (p : Spot) (ps : List Spot) : Type 0 where
  ends : (v : Verdict) → ((m : ℕ) → searched types budget (t + m) n (p ∷ ps) ≡ Some v) → Passes types budget t n p ps
  passes : (k : ℕ) → ((m : ℕ) → searched types budget (t + m) n (p ∷ ps) ≡ searched types budget m k ps) → Passes types budget t n p ps

-- whatever leaves were passed before it and whatever nodes are behind it
pub record Finishes (types : List Entry) (budget : ℕ) (p : Spot) : Type 0 where
  turns : ℕ
  finishes : (n : ℕ) (ps : List Spot) → Passes types budget turns n p ps

module _ (types : List Entry) (budget : ℕ) where
  abbrev go : ℕ → ℕ → List Spot → Option Verdict
  go m k qs = searched types budget m k qs

  -- where the budget isn't spent the turn does this
  on : (n : ℕ) (p : Spot) (ps : List Spot) (x : Next) (t m : ℕ) → eqb n budget ≡ false → next types p ≡ x → searched types budget (suc t + m) n (p ∷ ps) ≡ follows x n p ps (go (t + m))
  on n p ps x t m here is =
      let e : suc t + m ≡ suc (t + m) = omega arith in
      ap (λ (k : ℕ). searched types budget k n (p ∷ ps)) e
      ∙ (ap (λ (b : Bool). cond b (Some spent) (follows (next types p) n p ps (go (t + m)))) here
      ∙ ap (λ (y : Next). follows y n p ps (go (t + m))) is)

  -- where it is, the search ends
  over : (n : ℕ) (p : Spot) (ps : List Spot) (t : ℕ) → eqb n budget ≡ true → Passes types budget (suc t) n p ps
  over n p ps t here = ends spent (λ m. let e : suc t + m ≡ suc (t + m) = omega arith in ap (λ (k : ℕ). searched types budget k n (p ∷ ps)) e ∙ ap (λ (b : Bool). cond b (Some spent) (follows (next types p) n p ps (go (t + m)))) here)

  either : (n : ℕ) (p : Spot) (ps : List Spot) (t : ℕ) → (eqb n budget ≡ false → Passes types budget (suc t) n p ps) → Passes types budget (suc t) n p ps
  either n p ps t f = by (eqb n budget) refl
    where
      by : (b : Bool) → eqb n budget ≡ b → Passes types budget (suc t) n p ps
      by true e = over n p ps t e
      by false e = f e

  -- what becomes of the node finishes
  abbrev Follow : Next → Type 0
  Follow closed = Unit {0}
  Follow (stays_open why) = Unit {0}
  Follow (splits l r) = Finishes types budget l × Finishes types budget r
  Follow (goes_on q) = Finishes types budget q

  after_one : (n : ℕ) (p q : Spot) (ps : List Spot) (t : ℕ) → ((m : ℕ) → searched types budget (suc t + m) n (p ∷ ps) ≡ searched types budget (t + m) n (q ∷ ps)) → Passes types budget t n q ps → Passes types budget (suc t) n p ps
  after_one n p q ps t here (ends v h) = ends v (λ m. here m ∙ h m)
  after_one n p q ps t here (passes k h) = passes k (λ m. here m ∙ h m)

  -- two nodes, one behind the other
  both : (n : ℕ) (p l r : Spot) (ps : List Spot) (s t : ℕ) → ((m : ℕ) → searched types budget (suc (s + t) + m) n (p ∷ ps) ≡ searched types budget (s + t + m) n (l ∷ r ∷ ps))
      → Passes types budget s n l (r ∷ ps) → ((k : ℕ) → Passes types budget t k r ps) → Passes types budget (suc (s + t)) n p ps
  both n p l r ps s t here (ends v h) later = ends v (λ m. here m ∙ (let e : s + t + m ≡ s + (t + m) = omega arith in ap (λ (k : ℕ). searched types budget k n (l ∷ r ∷ ps)) e ∙ h (t + m)))
  both n p l r ps s t here (passes k h) later = by (later k)
    where
      first : (m : ℕ) → searched types budget (suc (s + t) + m) n (p ∷ ps) ≡ searched types budget (t + m) k (r ∷ ps)
      first m = here m ∙ (let e : s + t + m ≡ s + (t + m) = omega arith in ap (λ (j : ℕ). searched types budget j n (l ∷ r ∷ ps)) e ∙ h (t + m))

      by : Passes types budget t k r ps → Passes types budget (suc (s + t)) n p ps
      by (ends v g) = ends v (λ m. first m ∙ g m)
      by (passes j g) = passes j (λ m. first m ∙ g m)

  finishes_by : (p : Spot) (x : Next) → next types p ≡ x → Follow x → Finishes types budget p
  finishes_by p closed is h = record { turns = suc zero; finishes = λ n ps. either n p ps zero (λ here. passes (suc n) (λ m. let e : zero + m ≡ m = omega arith in on n p ps closed zero m here is ∙ ap (λ (k : ℕ). searched types budget k (suc n) ps) e)) }
  finishes_by p (stays_open why) is h = record { turns = suc zero; finishes = λ n ps. either n p ps zero (λ here. ends (open_leaf (suc n) why p.node.literals) (λ m. on n p ps (stays_open why) zero m here is)) }
  finishes_by p (splits l r) is h = record {
    turns = suc (h.0.turns + h.1.turns);
    finishes = λ n ps. either n p ps (h.0.turns + h.1.turns) (λ here. both n p l r ps h.0.turns h.1.turns (λ m. on n p ps (splits l r) (h.0.turns + h.1.turns) m here is) (h.0.finishes n (r ∷ ps)) (λ k. h.1.finishes k ps));
  }
  finishes_by p (goes_on q) is h = record {
    turns = suc h.turns;
    finishes = λ n ps. either n p ps h.turns (λ here. after_one n p q ps h.turns (λ m. on n p ps (goes_on q) h.turns m here is) (h.finishes n ps));
  }

  -- ---- what becomes of a node

  abbrev Sorted : Spot → Type 0
  Sorted p = IsSortedNode p.node

  -- each node in which less atoms are undecided finishes, after as many rounds; and each one after a round more
  record Below (p : Spot) : Type 0 where
    split : (q : Spot) → Sorted q → q.rounds ≡ p.rounds → undecided q.node < undecided p.node → Finishes types budget q
    round : (q : Spot) → Sorted q → q.rounds ≡ suc p.rounds → nat_lt p.rounds 2 ≡ true → Finishes types budget q

  module _ (stays : (p : Spot) → IsSortedNode p.node → IsSortedNode (expanded types p).node) where
    follow_expansion : (p : Spot) (e : Ending) → Sorted p → Below p → Follow (on_expansion types p e)
    follow_expansion p e h below = by (nat_lt p.rounds 2) (is_more p.node (expanded types p).node) refl
      where
        by : (b c : Bool) → nat_lt p.rounds 2 ≡ b → Follow (cond b (cond c (goes_on (expanded types p)) (stays_open (why_open e))) (stays_open (why_open e)))
        by true true f = below.round (expanded types p) (stays p h) refl f
        by true false f = tt
        by false c f = tt

    follow_atom : (p : Spot) (e : Ending) (o : Option Term) → Sorted p → Below p → next_atom p.node ≡ o → Follow (on_atom types p e o)
    follow_atom p e None h below is = follow_expansion p e h below
    follow_atom p e (Some a) h below is =
        let s = splits_less p.node a h.pending is in
        (below.split (with_node p (added p.node a)) (added_sorted p.node a h s.formula) refl s.up, below.split (with_node p (denied_one p.node a)) (denied_sorted p.node a h s.formula) refl s.down)

    follow_ending : (p : Spot) (e : Ending) → Sorted p → Below p → Follow (by_ending types p e)
    follow_ending p refuted h below = tt
    follow_ending p consistent h below = follow_atom p consistent (next_atom p.node) h below refl
    follow_ending p crowded h below = follow_atom p crowded (next_atom p.node) h below refl
    follow_ending p wide h below = follow_atom p wide (next_atom p.node) h below refl

    follow_next : (p : Spot) → Sorted p → Below p → Follow (next types p)
    follow_next p h below = by (is_shut p.node || clashes p.node)
      where
        by : (b : Bool) → Follow (cond b closed (by_ending types p (ending p.node)))
        by true = tt
        by false = follow_ending p (ending p.node) h below

    -- ---- by rounds that are left, and by undecided atoms

    by_atoms : (r : ℕ) → ((q : Spot) → Sorted q → 2 ≤ q.rounds + r → Finishes types budget q) → (u : ℕ) (p : Spot) → Sorted p → 2 ≤ p.rounds + suc r → undecided p.node ≤ u → Finishes types budget p
    by_atoms r later zero p h left few =
        finishes_by p (next types p) refl
        (follow_next p h (record {
          split = λ q g same lt. absurd (omega (arith, lt, few));
          round = λ q g same more. later q g (omega (arith, left, same));
        }))
    by_atoms r later (suc u) p h left few =
        finishes_by p (next types p) refl
        (follow_next p h (record {
          split = λ q g same lt. by_atoms r later u q g (omega (arith, left, same)) (omega (arith, lt, few));
          round = λ q g same more. later q g (omega (arith, left, same));
        }))

    -- no round is left
    none_left : (u : ℕ) (p : Spot) → Sorted p → 2 ≤ p.rounds → undecided p.node ≤ u → Finishes types budget p
    none_left zero p h done few =
        finishes_by p (next types p) refl
        (follow_next p h (record {
          split = λ q g same lt. absurd (omega (arith, lt, few));
          round = λ q g same more. absurd (no_round p.rounds done more);
        }))
      where
        no_round : (r : ℕ) → 2 ≤ r → nat_lt r 2 ≡ true → ⊥
        no_round r le e = grind (arith, le, e)
    none_left (suc u) p h done few =
        finishes_by p (next types p) refl
        (follow_next p h (record {
          split = λ q g same lt. none_left u q g (omega (arith, done, same)) (omega (arith, lt, few));
          round = λ q g same more. absurd (no_round p.rounds done more);
        }))
      where
        no_round : (r : ℕ) → 2 ≤ r → nat_lt r 2 ≡ true → ⊥
        no_round r le e = grind (arith, le, e)

    by_rounds : (r : ℕ) (p : Spot) → Sorted p → 2 ≤ p.rounds + r → Finishes types budget p
    by_rounds zero p h left = none_left (undecided p.node) p h (omega (arith, left)) (omega arith)
    by_rounds (suc r) p h left = by_atoms r (λ q g more. by_rounds r q g more) (undecided p.node) p h left (omega arith)

    pub finishes_all : (p : Spot) → IsSortedNode p.node → Finishes types budget p
    finishes_all p h = by_rounds 2 p h (omega arith)

  -- the walk of one node has a verdict
  pub record Ended (n : ℕ) (p : Spot) : Type 0 where
    pub turns : ℕ
    pub verdict : Verdict
    pub is : searched types budget turns n (p ∷ []) ≡ Some verdict

  pub ended : (n : ℕ) (p : Spot) → Finishes types budget p → Ended n p
  ended n p h = by (h.finishes n [])
    where
      by : Passes types budget h.turns n p [] → Ended n p
      by (ends v g) = record { turns = h.turns + zero; verdict = v; is = g zero }
      by (passes k g) = record { turns = h.turns + suc zero; verdict = found k; is = g (suc zero) }
