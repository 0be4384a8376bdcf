-- Sizes of terms, counted node by node.
use Rattle.std.proofs.Common.{◌≡◌, ◌<◌, ◌≤◌, ◌+◌, ℕ, suc, List, [], ◌∷◌, ◌++◌, length, All, Bool, true, false, ◌&&◌, ◌||◌, nat_lt, refl, sym, ◌∙◌, ap, subst, arith}
use Rattle.std.proofs.lemmas.Bool.{ltb-true, ltb-false, lt-ltb, or_parts, or_cases, and_parts, and_from, or_left, or_right, false_from_ne_true, false≢true}
use Rattle.std.proofs.lemmas.List.Elements.{All-append, All-cons, All-nil, All-weaker}
use Rattle.wy_lemmas.proofs.Choices.{or_not as or_false, or_assoc}
use Rattle.wy_term.specs.ReplacingView.{is_name}
use Rattle.wy_term.specs.Term.{Term, Of}
use Rattle.wy_term.specs.Nodes.{Plain, HasPartsBelow, grown, tree_at, parts_at}
use Rattle.wy_vc_exprs.specs.wy_vc_spec.Large.{nodes, nodes_of, has_name, have_name, is_large}
use Rattle.std.proofs.Common.{◌⊎◌, inl, inr}
use Rattle.std.proofs.lemmas.List.Elements.{All-head, All-tail}

-- each is a number below this one
abbrev pub AreBelow : ℕ → List ℕ → Type 0
AreBelow n ks = All (λ k. k < n) ks

-- the nodes of these terms, and whether a name stands in one
abbrev pub all_nodes : (ℕ → Term) → List ℕ → ℕ
all_nodes at [] = 0
all_nodes at (k ∷ ks) = nodes (at k) + all_nodes at ks

abbrev pub some_name : (ℕ → Term) → List ℕ → Bool
some_name at [] = false
some_name at (k ∷ ks) = has_name (at k) || some_name at ks

parts_nodes : (at : ℕ → Term) (ks : List ℕ) → nodes_of (parts_at at ks) ≡ all_nodes at ks
parts_nodes at [] = refl
parts_nodes at (k ∷ ks) = ap (λ n. nodes (at k) + n) (parts_nodes at ks)

parts_name : (at : ℕ → Term) (ks : List ℕ) → have_name (parts_at at ks) ≡ some_name at ks
parts_name at [] = refl
parts_name at (k ∷ ks) = ap (λ b. has_name (at k) || b) (parts_name at ks)

nodes_append : (at : ℕ → Term) (xs ys : List ℕ) → all_nodes at (xs ++ ys) ≡ all_nodes at xs + all_nodes at ys
nodes_append at [] ys = omega arith
nodes_append at (x ∷ xs) ys = omega (arith, nodes_append at xs ys)

name_append : (at : ℕ → Term) (xs ys : List ℕ) → some_name at (xs ++ ys) ≡ (some_name at xs || some_name at ys)
name_append at [] ys = refl
name_append at (x ∷ xs) ys = ap (λ b. has_name (at x) || b) (name_append at xs ys) ∙ sym (or_assoc (has_name (at x)) (some_name at xs) (some_name at ys))

some_nodes : (t : Term) → 0 < nodes t
some_nodes (Of symbol ps) = omega arith

-- each has a node at least
pub at_least : (at : ℕ → Term) (ks : List ℕ) → length ks ≤ all_nodes at ks
at_least at [] = omega arith
at_least at (k ∷ ks) = omega (arith, some_nodes (at k), at_least at ks)

-- so many nodes, with a name among them or not, are too many
abbrev pub is_past : ℕ → Bool → Bool
is_past n named = nat_lt 1024 n || (named && nat_lt 64 n)

pub past_more : (m n : ℕ) (b c : Bool) → is_past m b ≡ true → m ≤ n → (b ≡ true → c ≡ true) → is_past n c ≡ true
past_more m n b c h le on = by (or_cases (nat_lt 1024 m) (b && nat_lt 64 m) h)
  where
    by : ((nat_lt 1024 m ≡ true) ⊎ ((b && nat_lt 64 m) ≡ true)) → is_past n c ≡ true
    by (inl e) = or_left (nat_lt 1024 n) (c && nat_lt 64 n) (lt-ltb 1024 n (omega (arith, ltb-true 1024 m e)))
    by (inr e) =
        let both = and_parts b (nat_lt 64 m) e in
        or_right (nat_lt 1024 n) (c && nat_lt 64 n) (and_from c (nat_lt 64 n) (on both.0) (lt-ltb 64 n (omega (arith, ltb-true 64 m both.1))))

-- ---- the walk: so many nodes were seen, and these are left

pub record IsSeen (ns : List Plain) (term count : ℕ) (named : Bool) (left : List ℕ) : Type 0 where
  pub within : AreBelow (length ns) left
  pub total : count + all_nodes (tree_at ns) left ≡ nodes (tree_at ns term)
  pub names : (named || some_name (tree_at ns) left) ≡ has_name (tree_at ns term)

pub next_within : (ns : List Plain) (term count next : ℕ) (named : Bool) (left rest : List ℕ) → IsSeen ns term count named left → left ≡ rest ++ next ∷ [] → next < length ns
next_within ns term count next named left rest s is =
    let all = subst (λ (ks : List ℕ). AreBelow (length ns) ks) is s.within in last rest all
  where
    last : (ks : List ℕ) → AreBelow (length ns) (ks ++ next ∷ []) → next < length ns
    last [] all = All-head (λ k. k < length ns) next [] all
    last (k ∷ ks) all = last ks (All-tail (λ j. j < length ns) k (ks ++ next ∷ []) all)

-- one node more is seen, and its parts are left
pub seen_more : (ns : List Plain) (term count next : ℕ) (named : Bool) (left rest left' parts : List ℕ) (n : Plain)
    → IsSeen ns term count named left → left ≡ rest ++ next ∷ [] → tree_at ns next ≡ grown (tree_at ns) n → HasPartsBelow next n → parts ≡ n.parts → left' ≡ rest ++ parts
    → IsSeen ns term (count + 1) (named || is_name n.symbol) left'
seen_more ns term count next named left rest left' parts n s is tree below same is' =
    let T = tree_at ns in
    let lt = next_within ns term count next named left rest s is in
    let size : nodes (T next) ≡ suc (all_nodes T parts) = ap nodes tree ∙ ap (λ m. suc m) (parts_nodes T n.parts ∙ ap (λ ks. all_nodes T ks) (sym same)) in
    let name : has_name (T next) ≡ (is_name n.symbol || some_name T parts) = ap has_name tree ∙ ap (λ b. is_name n.symbol || b) (parts_name T n.parts ∙ ap (λ ks. some_name T ks) (sym same)) in
    let old : all_nodes T left ≡ all_nodes T rest + (nodes (T next) + 0) = ap (λ ks. all_nodes T ks) is ∙ nodes_append T rest (next ∷ []) in
    let new : all_nodes T left' ≡ all_nodes T rest + all_nodes T parts = ap (λ ks. all_nodes T ks) is' ∙ nodes_append T rest parts in
    let front : AreBelow (length ns) rest = first rest (subst (λ (ks : List ℕ). AreBelow (length ns) ks) is s.within) in
    record {
      within = subst (λ (ks : List ℕ). AreBelow (length ns) ks) (sym is')
          (All-append (λ k. k < length ns) rest parts front (subst (λ (ks : List ℕ). AreBelow (length ns) ks) (sym same) (All-weaker (λ k. k < next) (λ k. k < length ns) (λ k h. omega (arith, lt, h)) n.parts below)));
      total = omega (arith, s.total, size, old, new);
      names = names_step T name;
    }
  where
    first : (ks : List ℕ) → AreBelow (length ns) (ks ++ next ∷ []) → AreBelow (length ns) ks
    first [] all = All-nil (λ k. k < length ns)
    first (k ∷ ks) all = All-cons (λ j. j < length ns) k ks (All-head (λ j. j < length ns) k (ks ++ next ∷ []) all) (first ks (All-tail (λ j. j < length ns) k (ks ++ next ∷ []) all))

    moved : (a b c d : Bool) → ((a || b) || (c || d)) ≡ (a || (c || (b || d)))
    moved true b c d = refl
    moved false true true d = refl
    moved false true false d = refl
    moved false false true d = refl
    moved false false false d = refl

    last_or : (a b c : Bool) → (a || (b || c)) ≡ (a || (b || (c || false)))
    last_or a b c = ap (λ x. a || (b || x)) (or_false c)

    names_step : (T : ℕ → Term) → has_name (tree_at ns next) ≡ (is_name n.symbol || some_name (tree_at ns) parts) → ((named || is_name n.symbol) || some_name (tree_at ns) left') ≡ has_name (tree_at ns term)
    names_step T name =
        let U = tree_at ns in
        ap (λ b. (named || is_name n.symbol) || b) (ap (λ ks. some_name U ks) is' ∙ name_append U rest parts)
        ∙ moved named (is_name n.symbol) (some_name U rest) (some_name U parts)
        ∙ ap (λ b. named || (some_name U rest || b)) (sym name)
        ∙ last_or named (some_name U rest) (has_name (U next))
        ∙ ap (λ b. named || b) (sym (ap (λ ks. some_name U ks) is ∙ name_append U rest (next ∷ [])))
        ∙ s.names

-- with the nodes seen and those left there are too many
pub large_found : (ns : List Plain) (term count m : ℕ) (named : Bool) (left : List ℕ) → IsSeen ns term count named left → m ≤ count + length left → is_past m named ≡ true → true ≡ is_large (tree_at ns term)
large_found ns term count m named left s le past =
    sym (past_more m (nodes (tree_at ns term)) named (has_name (tree_at ns term)) past (omega (arith, s.total, at_least (tree_at ns) left, le)) (λ e. sym s.names ∙ or_left named (some_name (tree_at ns) left) e))

-- ---- in the code

pub seen_next : (ns : List Plain) (term count next : ℕ) (named named' : Bool) (left rest left' parts read : List ℕ) (n : Plain)
    → IsSeen ns term count named left → left ≡ rest ++ next ∷ [] → tree_at ns next ≡ grown (tree_at ns) n → HasPartsBelow next n → parts ≡ n.parts → read ≡ parts → left' ≡ rest ++ read → named' ≡ (named || is_name n.symbol)
    → IsSeen ns term (count + 1) named' left'
seen_next ns term count next named named' left rest left' parts read n s is tree below same read_is is' name =
    subst (λ (b : Bool). IsSeen ns term (count + 1) b left') (sym name) (seen_more ns term count next named left rest left' parts n s is tree below same (is' ∙ ap (λ (ks : List ℕ). rest ++ ks) read_is))

pub wide_found : (ns : List Plain) (term count : ℕ) (named : Bool) (left read : List ℕ) → IsSeen ns term count named left → read ≡ left → 1024 < length read → true ≡ is_large (tree_at ns term)
wide_found ns term count named left read s same lt =
    large_found ns term count (length read) named left s (omega (arith, ap length same)) (or_left (nat_lt 1024 (length read)) (named && nat_lt 64 (length read)) (lt-ltb 1024 (length read) lt))

pub past_found : (ns : List Plain) (term count : ℕ) (named : Bool) (left read : List ℕ) → IsSeen ns term count named left → read ≡ left → true ≡ is_past (count + length read) named → true ≡ is_large (tree_at ns term)
past_found ns term count named left read s same past = large_found ns term count (count + length read) named left s (omega (arith, ap length same)) (sym past)

few_nodes : (m : ℕ) (b : Bool) → is_past m b ≡ false → m ≤ 1024
few_nodes m b is = ltb-false 1024 m (or_parts (nat_lt 1024 m) (b && nat_lt 64 m) is).0

pub past_none : (m p : ℕ) (b : Bool) → false ≡ is_past (m + p) b → (m ≤ 1024) × (is_past m b ≡ false)
past_none m p b is =
    let none : is_past m b ≡ false = false_from_ne_true (is_past m b) (λ e. false≢true (is ∙ past_more m (m + p) b b e (omega arith) (λ h. h))) in
    (few_nodes m b none, none)

pub either_read : (a b c d : Bool) → a ≡ (b || c) → c ≡ d → a ≡ (b || d)
either_read a b c d is same = is ∙ ap (λ x. b || x) same
