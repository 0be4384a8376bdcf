-- Goals with what their tests of named types stand for.
use Rattle.std.proofs.Common.{◌≡◌, ◌<◌, ◌≤◌, ◌+◌, ℕ, suc, Bool, true, false, List, [], ◌∷◌, ◌++◌, All, length, map, reverse, refl, sym, ◌∙◌, ap, subst, arith}
use Rattle.std.specs.Prelude.{if◌then◌else◌}
use Rattle.std.proofs.lemmas.List.{append-nil, append_assoc, map-append, reverse-append}
use Rattle.std.proofs.lemmas.List.Elements.{All-append, All-cons, All-nil, All-head, All-tail}
use Rattle.wy_term.specs.Nodes.{Plain, tree_at}
use Rattle.wy_term.specs.Term.{Term}
use Rattle.wy_term.specs.Condition.{Entry, entry_of}
use Rattle.wy_term.specs.declared.cond.Cond.{Cond}
use Rattle.wy_term.specs.declared.cond.CondKind.{CondKind}
use Rattle.wy_vc_spec.specs.Limits.{is_among, rising_among, tests_in_all, types_of, unfold_of, unfolded}
use Rattle.wy_vc_spec.specs.Limits as limits
use Rattle.wy_vc_spec.specs.Numbered.{Node}
use Rattle.wy_vc_spec.specs.Owed.{Owed}
use Rattle.wy_vc_spec.specs.Values.{Setting, test_name}
use Rattle.wy_vc_body.specs.wy_vc_operations.Growing.{AreBelow}
use Rattle.wy_vc_body.specs.wy_vc_exprs.Numbered.{trees_of}
use Rattle.wy_vc_body.specs.wy_vc_exprs.State.{IsGoal, seen_goal}
use Rattle.wy_vc_body.specs.wy_vc_exprs.declared.goal.Goal.{Goal}
use Rattle.wy_vc.specs.Meanings.{AreMeanings, AreMeaningsFrom, IsMeaning, tests_at}
use Rattle.wy_vc.specs.Mentioned.{IsReaching, marked}
use Rattle.wy_vc.specs.Told.{IsCond, IsEntry, Told, entries_by, entry_if, seen_cond, told}
use Rattle.wy_vc.specs.declared.unfolding.Meaning.{Meaning}
use Rattle.wy_vc.proofs.MeaningLemmas.{no_tests, reached_mentioned}
use Rattle.wy_vc.proofs.MentionedLemmas.{marks_are}

-- ---- entries

-- the numbers of entries are those of terms
entries_within : (nodes : List Plain) (s : Setting Node) (marks : List Bool) (n : ℕ) (ms : List Meaning) → AreMeaningsFrom nodes s n ms → All (IsEntry nodes) (entries_by marks n ms)
entries_within nodes s marks n [] are = All-nil (IsEntry nodes)
entries_within nodes s marks n (m ∷ ms) are = All-append (IsEntry nodes) (entry_if (marked marks n) n m) (entries_by marks (suc n) ms) (one (marked marks n)) (entries_within nodes s marks (suc n) ms are.1)
  where
    one : (b : Bool) → All (IsEntry nodes) (entry_if b n m)
    one true = All-cons (IsEntry nodes) (n, m.name, m.formula) [] (record { name = are.0.name.within; formula = are.0.formula.within }) (All-nil (IsEntry nodes))
    one false = All-nil (IsEntry nodes)

abbrev entry_with : ℕ → Term → Term → Entry
entry_with n t f = record { type_number = n; name = t; formula = f }

one_entry : (nodes : List Plain) (s : Setting Node) (n : ℕ) (m : Meaning) → IsMeaning nodes s n m → entry_of nodes (n, m.name, m.formula) ≡ unfolded s n
one_entry nodes s n m is = ap (λ (t : Term). entry_with n t (tree_at nodes m.formula)) is.name.is ∙ ap (λ (f : Term). entry_with n (test_name s n) f) is.formula.is

entries_if : (nodes : List Plain) (s : Setting Node) (n : ℕ) (m : Meaning) (es : List (ℕ × ℕ × ℕ)) (ns : List ℕ) → IsMeaning nodes s n m → map (entry_of nodes) es ≡ map (unfolded s) ns
    → (b : Bool) → map (entry_of nodes) (entry_if b n m ++ es) ≡ map (unfolded s) (if b then n ∷ ns else ns)
entries_if nodes s n m es ns is rest true = ap (λ (x : Entry). x ∷ map (entry_of nodes) es) (one_entry nodes s n m is) ∙ ap (λ (xs : List Entry). unfolded s n ∷ xs) rest
entries_if nodes s n m es ns is rest false = rest

-- the types that are marked, with what their tests stand for, are those of the definition
entries_are : (nodes : List Plain) (s : Setting Node) (marks : List Bool) (ns : List ℕ) (n : ℕ) (ms : List Meaning) → AreMeaningsFrom nodes s n ms → ((k : ℕ) → n ≤ k → k < n + length ms → marked marks k ≡ is_among ns k)
    → map (entry_of nodes) (entries_by marks n ms) ≡ map (unfolded s) (rising_among ns n (length ms))
entries_are nodes s marks ns n [] are same = refl
entries_are nodes s marks ns n (m ∷ ms) are same =
    ap (λ (b : Bool). map (entry_of nodes) (entry_if b n m ++ entries_by marks (suc n) ms)) (same n (omega arith) (omega arith))
    ∙ entries_if nodes s n m (entries_by marks (suc n) ms) (rising_among ns (suc n) (length ms)) are.0 (entries_are nodes s marks ns (suc n) ms are.1 (λ k from below. same k (omega (arith, from)) (omega (arith, below)))) (is_among ns n)

-- ---- a goal

abbrev pub formulas_of : Goal → List ℕ
formulas_of g = g.hyps.items ++ g.goal ∷ []

pub formulas_trees : (nodes : List Plain) (g : Goal) (ks : List ℕ) → ks ≡ formulas_of g → map (tree_at nodes) ks ≡ trees_of nodes g.hyps.items ++ tree_at nodes g.goal ∷ []
formulas_trees nodes g ks same = ap (λ (l : List ℕ). map (tree_at nodes) l) same ∙ map-append (tree_at nodes) g.hyps.items (g.goal ∷ [])

abbrev told_of : CondKind → ℕ → List Term → Term → List Entry → Told
told_of kind at hyps goal types = record { kind = kind; at = at; condition = record { hyps = hyps; goal = goal; types = types } }

-- what is told of the goal
pub told_is : (nodes : List Plain) (s : Setting Node) (ms : List Meaning) (g : Goal) (c : Cond) (formulas tests begun : List ℕ) (marks : List Bool) → AreMeanings nodes s ms
    → formulas ≡ formulas_of g → ((n : ℕ) → is_among tests n ≡ is_among (tests_in_all (map (tree_at nodes) formulas)) n) → begun ≡ tests
    → IsReaching (tests_at ms) (length ms) begun marks []
    → c.kind ≡ g.kind → c.at ≡ g.at → c.hyps.items ≡ g.hyps.items → c.goal ≡ g.goal → c.unfold.list.items ≡ entries_by marks 0 ms
    → seen_cond nodes c ≡ told s (seen_goal nodes g)
told_is nodes s ms g c formulas tests begun marks are formulas_is tests_is begun_is reaching kind at hyps goal list =
    let O = seen_goal nodes g in
    let roots = tests_in_all (trees_of nodes g.hyps.items ++ tree_at nodes g.goal ∷ []) in
    let same : (n : ℕ) → is_among begun n ≡ is_among roots n = λ n. ap (λ (l : List ℕ). is_among l n) begun_is ∙ tests_is n ∙ ap (λ (l : List Term). is_among (tests_in_all l) n) (formulas_trees nodes g formulas formulas_is) in
    let N = limits.mentioned s (length s.types) roots in
    let marks_same : (n : ℕ) → 0 ≤ n → n < 0 + length ms → marked marks n ≡ is_among N n =
    λ n from lt. marks_are (tests_at ms) (length ms) begun marks (no_tests ms) reaching n (omega (arith, lt)) ∙ reached_mentioned nodes s ms begun roots are same n in
    let entries : map (entry_of nodes) c.unfold.list.items ≡ unfold_of s O =
    ap (λ (l : List (ℕ × ℕ × ℕ)). map (entry_of nodes) l) list ∙ entries_are nodes s marks N 0 ms are.are marks_same ∙ ap (λ (n : ℕ). map (unfolded s) (rising_among N 0 n)) are.count in
    ap (λ (k : CondKind). told_of k c.at (trees_of nodes c.hyps.items) (tree_at nodes c.goal) (map (entry_of nodes) c.unfold.list.items)) kind
    ∙ ap (λ (a : ℕ). told_of g.kind a (trees_of nodes c.hyps.items) (tree_at nodes c.goal) (map (entry_of nodes) c.unfold.list.items)) at
    ∙ ap (λ (hs : List ℕ). told_of g.kind g.at (trees_of nodes hs) (tree_at nodes c.goal) (map (entry_of nodes) c.unfold.list.items)) hyps
    ∙ ap (λ (f : ℕ). told_of g.kind g.at (trees_of nodes g.hyps.items) (tree_at nodes f) (map (entry_of nodes) c.unfold.list.items)) goal
    ∙ ap (λ (es : List Entry). told_of g.kind g.at (trees_of nodes g.hyps.items) (tree_at nodes g.goal) es) entries

pub told_within : (nodes : List Plain) (s : Setting Node) (ms : List Meaning) (g : Goal) (c : Cond) (marks : List Bool) → AreMeanings nodes s ms → IsGoal nodes g
    → c.hyps.items ≡ g.hyps.items → c.goal ≡ g.goal → c.unfold.list.items ≡ entries_by marks 0 ms → IsCond nodes c
told_within nodes s ms g c marks are is hyps goal list = record {
  hyps = subst (λ (l : List ℕ). AreBelow (length nodes) l) (sym hyps) is.hyps;
  goal = subst (λ (k : ℕ). k < length nodes) (sym goal) is.goal;
  entries = subst (λ (l : List (ℕ × ℕ × ℕ)). All (IsEntry nodes) l) (sym list) (entries_within nodes s marks 0 ms are.are);
}

-- ---- goals, the last one first

-- those that are left, and those that were told
pub record AreTold (nodes : List Plain) (s : Setting Node) (left : List Goal) (list : List Cond) (all : List Goal) : Type 0 where
  pub within : All (IsCond nodes) list
  pub value : map (told s) (map (seen_goal nodes) left) ++ map (seen_cond nodes) (reverse list) ≡ map (told s) (map (seen_goal nodes) all)

pub telling_begin : (nodes : List Plain) (s : Setting Node) (goals : List Goal) (list : List Cond) → list ≡ [] → AreTold nodes s goals list goals
telling_begin nodes s goals list is = subst (λ (l : List Cond). AreTold nodes s goals l goals) (sym is) (record { within = All-nil (IsCond nodes); value = append-nil (map (told s) (map (seen_goal nodes) goals)) })

pub telling_turn : (nodes : List Plain) (s : Setting Node) (old new all : List Goal) (list more : List Cond) (g : Goal) (c : Cond) → old ≡ new ++ g ∷ [] → more ≡ list ++ c ∷ [] → IsCond nodes c → seen_cond nodes c ≡ told s (seen_goal nodes g)
    → AreTold nodes s old list all → AreTold nodes s new more all
telling_turn nodes s old new all list more g c old_is more_is within is inv = subst (λ (l : List Cond). AreTold nodes s new l all) (sym more_is) (record {
  within = All-append (IsCond nodes) list (c ∷ []) inv.within (All-cons (IsCond nodes) c [] within (All-nil (IsCond nodes)));
  value =
      let N = map (told s) (map (seen_goal nodes) new) in
      let R = map (seen_cond nodes) (reverse list) in
      ap (λ (l : List Cond). N ++ map (seen_cond nodes) l) (reverse-append list (c ∷ []))
      ∙ ap (λ (t : Told). N ++ (t ∷ R)) is
      ∙ sym (append_assoc N (told s (seen_goal nodes g) ∷ []) R)
      ∙ ap (λ (l : List Told). l ++ R) (sym (ap (λ (l : List Goal). map (told s) (map (seen_goal nodes) l)) old_is ∙ ap (λ (l : List Owed). map (told s) l) (map-append (seen_goal nodes) new (g ∷ [])) ∙ map-append (told s) (map (seen_goal nodes) new) (seen_goal nodes g ∷ [])))
      ∙ inv.value;
})

-- each goal that is left has numbers of terms
pub goal_at : (nodes : List Plain) (old new : List Goal) (g : Goal) → old ≡ new ++ g ∷ [] → All (IsGoal nodes) old → IsGoal nodes g × All (IsGoal nodes) new
goal_at nodes old new g is are = split new (subst (λ (l : List Goal). All (IsGoal nodes) l) is are)
  where
    split : (l : List Goal) → All (IsGoal nodes) (l ++ g ∷ []) → IsGoal nodes g × All (IsGoal nodes) l
    split [] h = (All-head (IsGoal nodes) g [] h, All-nil (IsGoal nodes))
    split (x ∷ l) h = let r = split l (All-tail (IsGoal nodes) x (l ++ g ∷ []) h) in (r.0, All-cons (IsGoal nodes) x l (All-head (IsGoal nodes) x (l ++ g ∷ []) h) r.1)
