-- What each step of the walk keeps.
use Rattle.std.proofs.Common.{◌≡◌, ◌<◌, ◌≤◌, ◌+◌, ℕ, List, [], ◌∷◌, All, length, map, drop, Bool, true, false, cond, Some, None, refl, sym, ap, ◌∙◌, subst, arith}
use Rattle.std.specs.Prelude.{nat_lt, if◌then◌else◌}
use Rattle.std.specs.HashMap.{get}
use Rattle.wy_term.specs.Term.{Symbol, Term, Of, Parts}
use Rattle.wy_term.specs.Nodes.{Plain, grown, tree_at, parts_at, HasPartsBelow}
use Rattle.wy_term.specs.Folding.{found, hidden}
use Rattle.wy_term.specs.ReplacingView.{seen_pairs, AreBelow, is_name}
use Rattle.wy_term_subst.specs.declared.names.Taken.{Taken}
use Rattle.wy_term_subst.specs.declared.scope.Scope.{Scope}
use Rattle.wy_term_subst.specs.declared.walk.Open.{Open}
use Rattle.wy_term_subst.specs.declared.walk.Walk.{Walk}
use Rattle.wy_term_subst.specs.View.{Kept, symbol_at, symbol_in, Counts}
use Rattle.wy_term_subst.specs.Substitution.{entered, env_at, put}
use Rattle.wy_term_subst.specs.Walk.{pairs_in, env_in, AreScopes, Grows, Enters, IsOpen, AreWaiting, completed, Ask, ask_of, Waits, same_place, Remembers, Fits, Bounds, GoesOn, Enlarges, Opens, Begins}
use Rattle.wy_term_subst.proofs.ScopeLemmas.{grows_length, AreBelow_up, AreBelow_cons, AreScopes_up, AreScopes-at, seen_kept, env_kept, all_up}
use Rattle.wy_term_subst.proofs.WalkLemmas.{symbol_kept, open_kept, waiting_kept, waits_kept, remembers_kept, made_below_kept, completed_same}

-- ---- scopes

pub enters_below : (m n : ℕ) (ss more : List Scope) (s outer a b : ℕ) → m ≤ n → Enters ss more s ((a, b) ∷ pairs_in ss outer) → a < n → b < n → AreScopes m ss → AreScopes n more
enters_below m n ss more s outer a b le e lt_a lt_b below =
    e.below n (AreBelow_cons n (a, b) (pairs_in ss outer) (lt_a, lt_b) (AreBelow_up m n (pairs_in ss outer) le (AreScopes-at m ss outer below))) (AreScopes_up m n ss le below)

pub env_by : (old new : List Plain) (ss more : List Scope) (s outer a b : ℕ) (x y : Term) → Kept old new → Enters ss more s ((a, b) ∷ pairs_in ss outer) → AreScopes (length old) ss → tree_at new a ≡ x → tree_at new b ≡ y → env_in new more s ≡ (x, y) ∷ env_in old ss outer
env_by old new ss more s outer a b x y k e below is_a is_b =
    ap (seen_pairs (tree_at new)) e.has
    ∙ (ap (λ (ps : List (Term × Term)). (tree_at new a, tree_at new b) ∷ ps) (seen_kept old new (pairs_in ss outer) k (AreScopes-at (length old) ss outer below))
    ∙ (ap (λ (t : Term). (t, tree_at new b) ∷ env_in old ss outer) is_a ∙ ap (λ (t : Term). (x, t) ∷ env_in old ss outer) is_b))

pub hidden_same : (x y : Term) (e f : List (Term × Term)) → x ≡ y → e ≡ f → hidden (found e x) x e ≡ hidden (found f y) y f
hidden_same x y e f p q = ap (λ (z : Term). hidden (found e z) z e) p ∙ ap (λ (g : List (Term × Term)). hidden (found g y) y g) q

pub env_if : (nodes : List Plain) (ss : List Scope) (k a b : ℕ) → env_in nodes ss (if nat_lt k 2 then a else b) ≡ env_at k (env_in nodes ss a) (env_in nodes ss b)
env_if nodes ss k a b = either (nat_lt k 2)
  where
    either : (c : Bool) → env_in nodes ss (cond c a b) ≡ cond c (env_in nodes ss a) (env_in nodes ss b)
    either true = refl
    either false = refl

-- ---- terms that are gone into

pub opened_is : (old new : List Plain) (m : ℕ) (o : Open) (p : Plain) → Kept old new → o.term < length old → is_name (symbol_at old o.term) ≡ false → tree_at old o.term ≡ grown (tree_at old) p → HasPartsBelow o.term p → o.parts.items ≡ p.parts → o.images.items ≡ [] → o.outer < m → o.inner < m → IsOpen new m o
opened_is old new m o p k lt other tree low parts none outer inner = open_kept old new m m o k (omega arith) here
  where
    symbol : symbol_at old o.term ≡ p.symbol
    symbol = ap symbol_in tree

    nothing : All (λ j. j < length old) []
    nothing i d lt' = absurd (omega arith)

    few : length o.images.items ≡ 0
    few = ap (λ (ks : List ℕ). length ks) none

    here : IsOpen old m o
    here = record {
      term = lt;
      name = other;
      parts = subst (All (λ j. j < length old)) (sym parts) (all_up o.term (length old) p.parts (omega arith) low);
      images = subst (All (λ j. j < length old)) (sym none) nothing;
      count = omega (arith, few);
      outer = outer;
      inner = inner;
      tree = tree ∙ (ap (λ (ks : List ℕ). Of p.symbol (parts_at (tree_at old) ks)) (sym parts) ∙ ap (λ (s : Symbol). Of s (parts_at (tree_at old) o.parts.items)) (sym symbol));
    }

put_of_parts : (u : Term) (s : Symbol) (ps : Parts) (env : List (Term × Term)) (ns : List ℕ) → put u (Of s ps) env ns ≡ completed u s env (entered u s env ns).inner (entered u s env ns).number [] ps (entered u s env ns).taken
put_of_parts u s ps env ns = refl

pub opened_value : (old new : List Plain) (ss more : List Scope) (w : Walk) (u : Term) (base : ℕ) (o : Open) (ns : List ℕ) → Kept old new → Grows ss more → AreScopes (length old) ss → o.outer < length ss → w.scopes.items ≡ more → IsOpen new (length more) o → o.term < length old → o.images.items ≡ [] → length ns ≡ base + o.before → Bounds new w base (entered u (symbol_at old o.term) (env_in old ss o.outer) ns) o.number o.inner → Opens new w u base o (ask_of (tree_at old o.term) (env_in old ss o.outer) ns)
opened_value old new ss more w u base o ns k g below lt_outer is_more is lt none count b =
    let env = env_in old ss o.outer in
    let s = symbol_at old o.term in
    let e = entered u s env ns in
    let ps = parts_at (tree_at new) o.parts.items in
    let same_symbol : symbol_at new o.term ≡ s = symbol_kept old new o.term k lt in
    let same_env : env_in new w.scopes.items o.outer ≡ env = ap (λ (ss' : List Scope). env_in new ss' o.outer) is_more ∙ env_kept old new ss more o.outer k below g lt_outer in
    let tree : tree_at old o.term ≡ Of s ps = sym (k.trees o.term lt) ∙ (is.tree ∙ ap (λ (x : Symbol). Of x ps) same_symbol) in
    let no_images : map (tree_at new) o.images.items ≡ [] = ap (map (tree_at new)) none in
    let all_parts : parts_at (tree_at new) (drop (length o.images.items) o.parts.items) ≡ ps = ap (λ (ks : List ℕ). parts_at (tree_at new) (drop (length ks) o.parts.items)) none in
    record {
      now = e.taken;
      answers = record {
        value =
            ap (λ (f : Term). put u f env ns) tree
            ∙ (put_of_parts u s ps env ns
            ∙ (ap (λ (n : ℕ). completed u s env e.inner n [] ps e.taken) (sym b.number)
            ∙ sym (completed_same u _ _ _ _ _ _ o.number _ _ _ _ e.taken same_symbol same_env b.inner no_images all_parts)));
        term = sym (k.trees o.term lt);
        env = sym same_env;
        count = count;
      };
      counts = b.counts;
      count = b.count;
    }

-- ---- steps

-- what a walk was is still so when others were gone into
pub fits_kept : (old new : List Plain) (w v : Walk) (s : ℕ) → Kept old new → Fits old w → Enlarges new w v s → Fits new v
fits_kept old new w v s k f e =
    let le = grows_length w.scopes.items v.scopes.items e.grows in
    record {
      scopes = e.scopes;
      waiting = rw e.waiting (waiting_kept old new (length w.scopes.items) (length v.scopes.items) w.waiting.items k le f.waiting);
      made = rw e.made (made_below_kept (length old) (length new) (length w.scopes.items) (length v.scopes.items) (get same_place w.made) k.grows le f.made);
    }

pub waits_enlarged : (old new : List Plain) (w v : Walk) (s : ℕ) (u : Term) (base : ℕ) (first ask : Ask) → Kept old new → Fits old w → Enlarges new w v s → Waits old w.scopes.items u base w.waiting.items first ask → Waits new v.scopes.items u base v.waiting.items first ask
waits_enlarged old new w v s u base first ask k f e waits = rw e.waiting (waits_kept old new w.scopes.items v.scopes.items u base w.waiting.items first ask k e.grows f.scopes f.waiting waits)

pub remembers_enlarged : (old new : List Plain) (w v : Walk) (s : ℕ) (u : Term) → Kept old new → Fits old w → Enlarges new w v s → Remembers old w.scopes.items u (get same_place w.made) → Remembers new v.scopes.items u (get same_place v.made)
remembers_enlarged old new w v s u k f e are = rw e.made (remembers_kept old new w.scopes.items v.scopes.items u (get same_place w.made) k e.grows f.scopes f.made are)

-- ---- the first step

pub begins_env : (nodes : List Plain) (scope : Scope) (taken : Taken) (w : Walk) → Begins scope taken w → env_in nodes w.scopes.items 0 ≡ seen_pairs (tree_at nodes) scope.pairs.items
begins_env nodes scope taken w b = ap (λ (ss : List Scope). env_in nodes ss 0) b.scopes

pub begins_fits : (nodes : List Plain) (scope : Scope) (taken : Taken) (w : Walk) → Begins scope taken w → AreBelow (length nodes) scope.pairs.items → Fits nodes w
begins_fits nodes scope taken w b below = record {
  scopes = subst (AreScopes (length nodes)) (sym b.scopes) (below, tt);
  waiting = subst (λ (os : List Open). AreWaiting nodes (length w.scopes.items) os) (sym b.waiting) tt;
  made = λ q s r e. let no : None ≡ Some r = sym (b.made (q, s)) ∙ e in absurd cc;
}

pub begins_scope : (scope : Scope) (taken : Taken) (w : Walk) → Begins scope taken w → 0 < length w.scopes.items
begins_scope scope taken w b = omega (arith, ap (λ (ss : List Scope). length ss) b.scopes)

pub begins_remembers : (nodes : List Plain) (scope : Scope) (taken : Taken) (w : Walk) (u : Term) → Begins scope taken w → Remembers nodes w.scopes.items u (get same_place w.made)
begins_remembers nodes scope taken w u b q s r e = let no : None ≡ Some r = sym (b.made (q, s)) ∙ e in absurd cc

pub begins_count : (scope : Scope) (taken : Taken) (w : Walk) (ns : List ℕ) → Begins scope taken w → length ns ≡ length ns + w.new_names
begins_count scope taken w ns b = omega (arith, b.new_names)

pub begins_counts : (scope : Scope) (taken : Taken) (w : Walk) (ns : List ℕ) → Begins scope taken w → Counts taken ns → Counts w.taken ns
begins_counts scope taken w ns b counts = subst (λ (t : Taken). Counts t ns) (sym b.taken) counts

-- what the first term that is gone into leads to
pub begins_goes : (old new : List Plain) (scope : Scope) (taken : Taken) (w v : Walk) (s : ℕ) (u : Term) (base : ℕ) (o : Open) (ask : Ask) → Begins scope taken w → Kept old new → Fits old w → Enlarges new w v s → Opens new v u base o ask → GoesOn new v u base ask o
begins_goes old new scope taken w v s u base o ask b k f e opens =
    let none : Waits old w.scopes.items u base w.waiting.items ask ask = subst (λ (os : List Open). Waits old w.scopes.items u base os ask ask) (sym b.waiting) refl in
    record {
      ask = ask;
      now = opens.now;
      stands = record {
        counts = opens.counts;
        count = opens.count;
        waits = waits_enlarged old new w v s u base ask ask k f e none;
        remembers = remembers_enlarged old new w v s u k f e (begins_remembers old scope taken w u b);
      };
      answers = opens.answers;
    }
