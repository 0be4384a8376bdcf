-- Steps are valid exactly where they are those of a tree that closes the first node.
use Rattle.std.proofs.Common.{◌≡◌, ℕ, ◌+◌, List, [], ◌∷◌, ◌++◌, Option, Some, None, refl, sym, ap, ◌∙◌}
use Rattle.wy_lin.specs.wy_term.Condition.{Entry}
use Rattle.wy_check_spec.specs.judge.Node.{Node, first_node}
use Rattle.wy_cert.specs.Steps.{Written}
use Rattle.wy_check_spec.specs.valid.Validity.{after, or_bad, first_bad_by, IsValid}
use Rattle.wy_check_spec.specs.valid.Trees.{Tree, stem, Trees, no_trees, tree, steps_in, steps_in_all, Closes, CloseAll, IsTreeFor, ValidIsATree}

grouped : (a b c : List Written) → (a ++ b) ++ c ≡ a ++ (b ++ c)
grouped [] b c = refl
grouped (s ∷ a) b c = ap (λ (x : List Written). s ∷ x) (grouped a b c)

none_behind : (a : List Written) → a ++ [] ≡ a
none_behind [] = refl
none_behind (s ∷ a) = ap (λ (x : List Written). s ∷ x) (none_behind a)

module _ (types : List Entry) where
  abbrev bad_from : ℕ → List Node → List Written → Option ℕ
  bad_from k nodes steps = first_bad_by (after types) k nodes steps

  -- ---- from steps to trees

  -- trees for some nodes, and behind them those for others
  record Parted (xs ys : List Node) (ts : Trees) : Type 0 where
    front : Trees
    back : Trees
    steps : steps_in_all ts ≡ steps_in_all front ++ steps_in_all back
    front_closes : CloseAll types front xs
    back_closes : CloseAll types back ys

  parted : (xs ys : List Node) (ts : Trees) → CloseAll types ts (xs ++ ys) → Parted xs ys ts
  parted [] ys ts h = record { front = no_trees; back = ts; steps = refl; front_closes = tt; back_closes = h }
  parted (x ∷ xs) ys no_trees h = absurd h
  parted (x ∷ xs) ys (tree t ts) h =
      let p = parted xs ys ts h.1 in
      record {
        front = tree t p.front;
        back = p.back;
        steps = ap (λ (l : List Written). steps_in t ++ l) p.steps ∙ sym (grouped (steps_in t) (steps_in_all p.front) (steps_in_all p.back));
        front_closes = (h.0, p.front_closes);
        back_closes = p.back_closes;
      }

  -- trees whose steps these are, and that close these nodes
  record Grown (nodes : List Node) (steps : List Written) : Type 0 where
    trees : Trees
    spelled : steps ≡ steps_in_all trees
    close : CloseAll types trees nodes

  grown : (k : ℕ) (nodes : List Node) (steps : List Written) → bad_from k nodes steps ≡ None → Grown nodes steps
  grown k [] [] e = record { trees = no_trees; spelled = refl; close = tt }
  grown k [] (s ∷ steps) e = absurd cc
  grown k (node ∷ nodes) [] e = absurd cc
  grown k (node ∷ nodes) (s ∷ steps) e = by (after types node s) refl e (λ below. grown (k + 1) (below ++ nodes) steps)
    where
      by : (o : Option (List Node)) → after types node s ≡ o → or_bad k o (λ below. bad_from (k + 1) (below ++ nodes) steps) ≡ None → ((below : List Node) → bad_from (k + 1) (below ++ nodes) steps ≡ None → Grown (below ++ nodes) steps) → Grown (node ∷ nodes) (s ∷ steps)
      by None is e rest = absurd cc
      by (Some below) is e rest =
          let g = rest below e in
          let p = parted below nodes g.trees g.close in
          record {
            trees = tree (stem s p.front) p.back;
            spelled = ap (λ (l : List Written). s ∷ l) (g.spelled ∙ p.steps);
            close = ((below, is, p.front_closes), p.back_closes);
          }

  -- ---- from trees to steps

  -- the steps before these close the nodes before those
  record Runs (k : ℕ) (nodes more : List Node) (steps rest : List Written) : Type 0 where
    number : ℕ
    goes_on : bad_from k (nodes ++ more) (steps ++ rest) ≡ bad_from number more rest

  mutual
    tree_runs : (t : Tree) (node : Node) (more : List Node) (rest : List Written) (k : ℕ) → Closes types t node → Runs k (node ∷ []) more (steps_in t) rest
    tree_runs (stem s below) node more rest k h =
        let r = trees_run below h.0 more rest (k + 1) h.2 in
        record {
          number = r.number;
          goes_on = ap (λ (o : Option (List Node)). or_bad k o (λ nodes. bad_from (k + 1) (nodes ++ more) (steps_in_all below ++ rest))) h.1 ∙ r.goes_on;
        }

    trees_run : (ts : Trees) (nodes more : List Node) (rest : List Written) (k : ℕ) → CloseAll types ts nodes → Runs k nodes more (steps_in_all ts) rest
    trees_run no_trees [] more rest k h = record { number = k; goes_on = refl }
    trees_run no_trees (n ∷ ns) more rest k h = absurd h
    trees_run (tree t ts) [] more rest k h = absurd h
    trees_run (tree t ts) (n ∷ ns) more rest k h =
        let a = tree_runs t n (ns ++ more) (steps_in_all ts ++ rest) k h.0 in
        let b = trees_run ts ns more rest a.number h.1 in
        record {
          number = b.number;
          goes_on = ap (λ (l : List Written). bad_from k (n ∷ (ns ++ more)) l) (grouped (steps_in t) (steps_in_all ts) rest) ∙ (a.goes_on ∙ b.goes_on);
        }

one_tree : (types : List Entry) (node : Node) (steps : List Written) (ts : Trees) → steps ≡ steps_in_all ts → CloseAll types ts (node ∷ []) → (t : Tree) × (steps ≡ steps_in t) × Closes types t node
one_tree types node steps no_trees e h = absurd h
one_tree types node steps (tree t no_trees) e h = (t, e ∙ none_behind (steps_in t), h.0)
one_tree types node steps (tree t (tree u us)) e h = absurd h.1

pub valid_is_a_tree : ValidIsATree
valid_is_a_tree c steps = (λ valid. there valid, λ is. back is)
  where
    there : IsValid c steps → IsTreeFor c steps
    there valid =
        let g = grown c.types 1 (first_node c ∷ []) steps valid in
        let t = one_tree c.types (first_node c) steps g.trees g.spelled g.close in
        record { whole = t.0; spelled = t.1; closes = t.2 }

    back : IsTreeFor c steps → IsValid c steps
    back is =
        let r = tree_runs c.types is.whole (first_node c) [] [] 1 is.closes in
        ap (λ (l : List Written). first_bad_by (after c.types) 1 (first_node c ∷ []) l) (is.spelled ∙ sym (none_behind (steps_in is.whole))) ∙ r.goes_on
