-- Open terms and the walk, as lists grow and as parts are made.
use Rattle.std.proofs.Common.{◌≡◌, ◌<◌, ◌≤◌, ◌+◌, ℕ, zero, suc, List, [], ◌∷◌, ◌++◌, All, length, get_or, map, drop, Bool, true, false, cond, eqb, ◌&&◌, Option, Some, Result, Ok, Err, refl, sym, ap, ◌∙◌, subst, arith, length-append, drop-cons, add-one}
use Rattle.std.proofs.lemmas.Bool.{eqb-true}
use Rattle.std.specs.Prelude.{IfOk}
use Rattle.std.specs.HashMap.{get}
use Rattle.wy_term.proofs.wy_lemmas_proofs.Options.{some_number_is as some_same}
use Rattle.wy_term.specs.Term.{Symbol, Term, Of, Parts, part, no_parts}
use Rattle.wy_term.specs.Term as term
use Rattle.wy_term.specs.Nodes.{Plain, of, grown, tree_at, parts_at}
use Rattle.wy_term.specs.Folding.{folded}
use Rattle.wy_term.specs.Rewriting.{count}
use Rattle.wy_term.specs.ReplacingView.{is_name}
use Rattle.wy_term.proofs.FoldLemmas.{count_parts_at}
use Rattle.wy_term_subst.specs.declared.scope.Scope.{Scope}
use Rattle.wy_term_subst.specs.declared.walk.Open.{Open}
use Rattle.wy_term_subst.specs.declared.walk.Walk.{Walk}
use Rattle.wy_term_subst.specs.View.{Kept, symbol_at, symbol_in, Counts}
use Rattle.wy_term_subst.specs.Substitution.{env_at, renumbered, finished, Put, put_of, put, put_parts}
use Rattle.wy_term_subst.specs.Walk.{env_in, AreScopes, Grows, next_of, IsOpen, AreWaiting, followed_by, completed, outcome, Ask, ask_of, next_ask, Answers, Waits, IsStill, same_place, AreMadeBelow, Remembers, Fits, Stands}
use Rattle.wy_term_subst.proofs.ScopeLemmas.{env_kept, parts_kept, trees_kept, all_up}

-- ---- growing

pub symbol_kept : (old new : List Plain) (t : ℕ) → Kept old new → t < length old → symbol_at new t ≡ symbol_at old t
symbol_kept old new t k lt = ap symbol_in (k.trees t lt)

pub open_kept : (old new : List Plain) (m n : ℕ) (o : Open) → Kept old new → m ≤ n → IsOpen old m o → IsOpen new n o
open_kept old new m n o k le is = record {
  term = omega (arith, k.grows, is.term);
  name = ap is_name (symbol_kept old new o.term k is.term) ∙ is.name;
  parts = all_up (length old) (length new) o.parts.items k.grows is.parts;
  images = all_up (length old) (length new) o.images.items k.grows is.images;
  count = is.count;
  outer = omega (arith, le, is.outer);
  inner = omega (arith, le, is.inner);
  tree =
      k.trees o.term is.term
      ∙ (is.tree
      ∙ (ap (λ (s : Symbol). Of s (parts_at (tree_at old) o.parts.items)) (sym (symbol_kept old new o.term k is.term))
      ∙ ap (λ (ps : Parts). Of (symbol_at new o.term) ps) (sym (parts_kept old new o.parts.items k is.parts))));
}

pub waiting_kept : (old new : List Plain) (m n : ℕ) (os : List Open) → Kept old new → m ≤ n → AreWaiting old m os → AreWaiting new n os
waiting_kept old new m n [] k le are = tt
waiting_kept old new m n (o ∷ os) k le are = (open_kept old new m n o k le are.0, are.1, waiting_kept old new m n os k le are.2)

pub waiting_push : (nodes : List Plain) (n : ℕ) (os : List Open) (o : Open) → AreWaiting nodes n os → IsOpen nodes n o → length o.images.items < length o.parts.items → AreWaiting nodes n (os ++ o ∷ [])
waiting_push nodes n [] o are is more = (is, more, tt)
waiting_push nodes n (p ∷ os) o are is more = (are.0, are.1, waiting_push nodes n os o are.2 is more)

pub waiting_pop : (nodes : List Plain) (n : ℕ) (os : List Open) (o : Open) → AreWaiting nodes n (os ++ o ∷ []) → AreWaiting nodes n os × IsOpen nodes n o × (length o.images.items < length o.parts.items)
waiting_pop nodes n [] o are = (tt, are.0, are.1)
waiting_pop nodes n (p ∷ os) o are =
    let rest = waiting_pop nodes n os o are.2 in
    ((are.0, are.1, rest.0), rest.1, rest.2)

pub completed_same : (t : Term) (s1 s2 : Symbol) (e1 e2 i1 i2 : List (Term × Term)) (n : ℕ) (m1 m2 : List Term) (r1 r2 : Parts) (now : List ℕ) → s1 ≡ s2 → e1 ≡ e2 → i1 ≡ i2 → m1 ≡ m2 → r1 ≡ r2 → completed t s1 e1 i1 n m1 r1 now ≡ completed t s2 e2 i2 n m2 r2 now
completed_same t s1 s2 e1 e2 i1 i2 n m1 m2 r1 r2 now a b c d e =
    ap (λ (s : Symbol). completed t s e1 i1 n m1 r1 now) a
    ∙ (ap (λ (x : List (Term × Term)). completed t s2 x i1 n m1 r1 now) b
    ∙ (ap (λ (x : List (Term × Term)). completed t s2 e2 x n m1 r1 now) c
    ∙ (ap (λ (x : List Term). completed t s2 e2 i2 n x r1 now) d ∙ ap (λ (x : Parts). completed t s2 e2 i2 n m2 x now) e)))

all_drop : (n k : ℕ) (ks : List ℕ) → All (λ j. j < n) ks → All (λ j. j < n) (drop k ks)
all_drop n zero ks below = below
all_drop n (suc k) [] below = below
all_drop n (suc k) (j ∷ ks) below = all_drop n k ks (λ i d lt. below (suc i) d (omega arith))

outcome_kept : (old new : List Plain) (ss more : List Scope) (t : Term) (o : Open) (now : List ℕ) → Kept old new → Grows ss more → AreScopes (length old) ss → IsOpen old (length ss) o → outcome new more t o now ≡ outcome old ss t o now
outcome_kept old new ss more t o now k g below is =
    completed_same t _ _ _ _ _ _ o.number _ _ _ _ now
    (symbol_kept old new o.term k is.term)
    (env_kept old new ss more o.outer k below g is.outer)
    (env_kept old new ss more o.inner k below g is.inner)
    (trees_kept old new o.images.items k is.images)
    (parts_kept old new (drop (length o.images.items) o.parts.items) k (all_drop (length old) (length o.images.items) o.parts.items is.parts))

pub answers_kept : (old new : List Plain) (ss more : List Scope) (t : Term) (base : ℕ) (o : Open) (ask : Ask) (now : List ℕ) → Kept old new → Grows ss more → AreScopes (length old) ss → IsOpen old (length ss) o → Answers old ss t base o ask now → Answers new more t base o ask now
answers_kept old new ss more t base o ask now k g below is a = record {
  value = a.value ∙ sym (outcome_kept old new ss more t o now k g below is);
  term = a.term ∙ sym (k.trees o.term is.term);
  env = a.env ∙ sym (env_kept old new ss more o.outer k below g is.outer);
  count = a.count;
}

pub next_kept : (old new : List Plain) (ss more : List Scope) (o : Open) (now : List ℕ) → Kept old new → Grows ss more → AreScopes (length old) ss → IsOpen old (length ss) o → length o.images.items < length o.parts.items → next_ask new more o now ≡ next_ask old ss o now
next_kept old new ss more o now k g below is lt =
    let here : next_of o < length old = is.parts (length o.images.items) 0 lt in
    let j = length o.images.items in
    ap (λ (u : Term). ask_of u (env_at j (env_in new more o.outer) (env_in new more o.inner)) now) (k.trees (next_of o) here)
    ∙ (ap (λ (e : List (Term × Term)). ask_of (tree_at old (next_of o)) (env_at j e (env_in new more o.inner)) now) (env_kept old new ss more o.outer k below g is.outer)
    ∙ ap (λ (e : List (Term × Term)). ask_of (tree_at old (next_of o)) (env_at j (env_in old ss o.outer) e) now) (env_kept old new ss more o.inner k below g is.inner))

pub waits_kept : (old new : List Plain) (ss more : List Scope) (t : Term) (base : ℕ) (os : List Open) (first ask : Ask) → Kept old new → Grows ss more → AreScopes (length old) ss → AreWaiting old (length ss) os → Waits old ss t base os first ask → Waits new more t base os first ask
waits_kept old new ss more t base [] first ask k g below are w = w
waits_kept old new ss more t base (o ∷ os) first ask k g below are w =
    let rest = waits_kept old new ss more t base os (next_ask old ss o w.0) ask k g below are.2 w.2 in
    (w.0, answers_kept old new ss more t base o first w.0 k g below are.0 w.1, subst (λ (q : Ask). Waits new more t base os q ask) (sym (next_kept old new ss more o w.0 k g below are.0 are.1)) rest)

pub remembers_kept : (old new : List Plain) (ss more : List Scope) (t : Term) (lookup : ℕ × ℕ → Option ℕ) → Kept old new → Grows ss more → AreScopes (length old) ss → AreMadeBelow (length old) (length ss) lookup → Remembers old ss t lookup → Remembers new more t lookup
remembers_kept old new ss more t lookup k g below made are q s r e ns =
    let here = made q s r e in
    ap (λ (f : Term). put t f (env_in new more s) ns) (k.trees q here.0)
    ∙ (ap (λ (env : List (Term × Term)). put t (tree_at old q) env ns) (env_kept old new ss more s k below g here.1)
    ∙ (are q s r e ns ∙ ap (λ (u : Term). put_of u ns) (sym (k.trees r here.2))))

pub made_below_kept : (m n a b : ℕ) (lookup : ℕ × ℕ → Option ℕ) → m ≤ n → a ≤ b → AreMadeBelow m a lookup → AreMadeBelow n b lookup
made_below_kept m n a b lookup le le' made q s r e =
    let here = made q s r e in
    (omega (arith, le, here.0), omega (arith, le', here.1), omega (arith, le, here.2))

-- ---- who waits

pub waits_push : (nodes : List Plain) (ss : List Scope) (t : Term) (base : ℕ) (os : List Open) (o : Open) (first ask : Ask) (now : List ℕ) → Waits nodes ss t base os first ask → Answers nodes ss t base o ask now → Waits nodes ss t base (os ++ o ∷ []) first (next_ask nodes ss o now)
waits_push nodes ss t base [] o first ask now w a = (now, subst (λ (q : Ask). Answers nodes ss t base o q now) (sym w) a, refl)
waits_push nodes ss t base (p ∷ os) o first ask now w a = (w.0, w.1, waits_push nodes ss t base os o (next_ask nodes ss p w.0) ask now w.2 a)

-- the last one that waits, what it was asked, and the numbers that were taken then
pub record Last (nodes : List Plain) (ss : List Scope) (t : Term) (base : ℕ) (os : List Open) (o : Open) (first ask : Ask) : Type 0 where
  pub asked : Ask
  pub now : List ℕ
  pub waits : Waits nodes ss t base os first asked
  pub answers : Answers nodes ss t base o asked now
  pub next : next_ask nodes ss o now ≡ ask

pub waits_pop : (nodes : List Plain) (ss : List Scope) (t : Term) (base : ℕ) (os : List Open) (o : Open) (first ask : Ask) → Waits nodes ss t base (os ++ o ∷ []) first ask → Last nodes ss t base os o first ask
waits_pop nodes ss t base [] o first ask w = record { asked = first; now = w.0; waits = refl; answers = w.1; next = w.2 }
waits_pop nodes ss t base (p ∷ os) o first ask w =
    let rest = waits_pop nodes ss t base os o (next_ask nodes ss p w.0) ask w.2 in
    record { asked = rest.asked; now = rest.now; waits = (w.0, w.1, rest.waits); answers = rest.answers; next = rest.next }

-- ---- one more part

followed_push : (ts : List Term) (u : Term) (ps : Parts) → followed_by (ts ++ u ∷ []) ps ≡ followed_by ts (part u ps)
followed_push [] u ps = refl
followed_push (t ∷ ts) u ps = ap (λ (qs : Parts). part t qs) (followed_push ts u ps)

completed_more : (t : Term) (s : Symbol) (env inner : List (Term × Term)) (n : ℕ) (made : List Term) (f : Term) (rest : Parts) (ns now : List ℕ) (u : Term) → put t f (env_at (length made) env inner) ns ≡ put_of u now → completed t s env inner n made (part f rest) ns ≡ completed t s env inner n (made ++ u ∷ []) rest now
completed_more t s env inner n made f rest ns now u e =
    let k = length made in
    let longer : length (made ++ u ∷ []) ≡ k + 1 = omega (arith, length-append made (u ∷ [])) in
    ap (λ (p : Put). put_of (finished s env n (followed_by made (part p.term (put_parts t rest (k + 1) env inner p.taken).parts))) (put_parts t rest (k + 1) env inner p.taken).taken) e
    ∙ (ap (λ (ps : Parts). put_of (finished s env n ps) (put_parts t rest (k + 1) env inner now).taken) (sym (followed_push made u (put_parts t rest (k + 1) env inner now).parts))
    ∙ ap (λ (j : ℕ). put_of (finished s env n (followed_by (made ++ u ∷ []) (put_parts t rest j env inner now).parts)) (put_parts t rest j env inner now).taken) (sym longer))

map_push : (at : ℕ → Term) (ks : List ℕ) (r : ℕ) → map at (ks ++ r ∷ []) ≡ map at ks ++ at r ∷ []
map_push at [] r = refl
map_push at (k ∷ ks) r = ap (λ (ts : List Term). at k ∷ ts) (map_push at ks r)

length_map : (at : ℕ → Term) (ks : List ℕ) → length (map at ks) ≡ length ks
length_map at [] = refl
length_map at (k ∷ ks) = ap suc (length_map at ks)

parts_from : (at : ℕ → Term) (ks : List ℕ) (k : ℕ) → k < length ks → parts_at at (drop k ks) ≡ part (at (get_or ks k 0)) (parts_at at (drop (k + 1) ks))
parts_from at ks k lt =
    let e : drop k ks ≡ get_or ks k 0 ∷ drop (k + 1) ks = rw (add-one, drop-cons ks k 0) refl in
    ap (parts_at at) e

-- what comes of an open term, when its next part was made
pub outcome_more : (nodes : List Plain) (ss : List Scope) (t : Term) (o p : Open) (r : ℕ) (ns now : List ℕ) → length o.images.items < length o.parts.items → p.term ≡ o.term → p.number ≡ o.number → p.outer ≡ o.outer → p.inner ≡ o.inner → p.parts.items ≡ o.parts.items → p.images.items ≡ o.images.items ++ r ∷ [] → put t (tree_at nodes (next_of o)) (env_at (length o.images.items) (env_in nodes ss o.outer) (env_in nodes ss o.inner)) ns ≡ put_of (tree_at nodes r) now → outcome nodes ss t o ns ≡ outcome nodes ss t p now
outcome_more nodes ss t o p r ns now lt same_term same_number same_outer same_inner same_parts pushed e =
    let at = tree_at nodes in
    let k = length o.images.items in
    let s = symbol_at nodes o.term in
    let env = env_in nodes ss o.outer in
    let inner = env_in nodes ss o.inner in
    let made = map at o.images.items in
    let rest = parts_at at (drop (k + 1) o.parts.items) in
    let long : length p.images.items ≡ k + 1 = omega (arith, ap length pushed, length-append o.images.items (r ∷ [])) in
    let here : put t (at (next_of o)) (env_at (length made) env inner) ns ≡ put_of (at r) now = ap (λ (j : ℕ). put t (at (next_of o)) (env_at j env inner) ns) (length_map at o.images.items) ∙ e in
    ap (λ (ps : Parts). completed t s env inner o.number made ps ns) (parts_from at o.parts.items k lt)
    ∙ (completed_more t s env inner o.number made (at (next_of o)) rest ns now (at r) here
    ∙ (ap (λ (n : ℕ). completed t s env inner n (made ++ at r ∷ []) rest now) (sym same_number)
    ∙ completed_same t _ _ _ _ _ _ p.number _ _ _ _ now
    (ap (symbol_at nodes) (sym same_term))
    (ap (env_in nodes ss) (sym same_outer))
    (ap (env_in nodes ss) (sym same_inner))
    (sym (map_push at o.images.items r) ∙ ap (map at) (sym pushed))
    (ap (λ (j : ℕ). parts_at at (drop j o.parts.items)) (sym long) ∙ ap (λ (ks : List ℕ). parts_at at (drop (length p.images.items) ks)) (sym same_parts))))

pub answers_more : (nodes : List Plain) (ss : List Scope) (t : Term) (base : ℕ) (o p : Open) (ask : Ask) (r : ℕ) (ns now : List ℕ) → length o.images.items < length o.parts.items → p.term ≡ o.term → p.number ≡ o.number → p.outer ≡ o.outer → p.inner ≡ o.inner → p.before ≡ o.before → p.parts.items ≡ o.parts.items → p.images.items ≡ o.images.items ++ r ∷ [] → put t (tree_at nodes (next_of o)) (env_at (length o.images.items) (env_in nodes ss o.outer) (env_in nodes ss o.inner)) ns ≡ put_of (tree_at nodes r) now → Answers nodes ss t base o ask ns → Answers nodes ss t base p ask now
answers_more nodes ss t base o p ask r ns now lt same_term same_number same_outer same_inner same_before same_parts pushed e a = record {
  value = a.value ∙ outcome_more nodes ss t o p r ns now lt same_term same_number same_outer same_inner same_parts pushed e;
  term = a.term ∙ ap (tree_at nodes) (sym same_term);
  env = a.env ∙ ap (env_in nodes ss) (sym same_outer);
  count = a.count ∙ ap (λ (j : ℕ). base + j) (sym same_before);
}

all_push : (n r : ℕ) (ks all : List ℕ) → r < n → All (λ k. k < n) ks → all ≡ ks ++ r ∷ [] → All (λ k. k < n) all
all_push n r ks all lt below e = subst (All (λ k. k < n)) (sym e) (pushed ks below)
  where
    pushed : (js : List ℕ) → All (λ k. k < n) js → All (λ k. k < n) (js ++ r ∷ [])
    pushed [] f zero d lt' = lt
    pushed [] f (suc i) d lt' = absurd (omega arith)
    pushed (j ∷ js) f zero d lt' = f 0 d (omega arith)
    pushed (j ∷ js) f (suc i) d lt' = pushed js (λ i' d' l. f (suc i') d' (omega arith)) i d (omega arith)

pub open_more : (nodes : List Plain) (n : ℕ) (o p : Open) (r : ℕ) → r < length nodes → length o.images.items < length o.parts.items → p.term ≡ o.term → p.outer ≡ o.outer → p.inner ≡ o.inner → p.parts.items ≡ o.parts.items → p.images.items ≡ o.images.items ++ r ∷ [] → IsOpen nodes n o → IsOpen nodes n p
open_more nodes n o p r here lt same_term same_outer same_inner same_parts pushed is =
    let long = length-append o.images.items (r ∷ []) in
    record {
      term = omega (arith, same_term, is.term);
      name = ap (λ (k : ℕ). is_name (symbol_at nodes k)) same_term ∙ is.name;
      parts = subst (All (λ k. k < length nodes)) (sym same_parts) is.parts;
      images = all_push (length nodes) r o.images.items p.images.items here is.images pushed;
      count = omega (arith, ap length pushed, long, ap length same_parts, lt);
      outer = omega (arith, same_outer, is.outer);
      inner = omega (arith, same_inner, is.inner);
      tree =
          ap (tree_at nodes) same_term
          ∙ (is.tree
          ∙ (ap (λ (k : ℕ). Of (symbol_at nodes k) (parts_at (tree_at nodes) o.parts.items)) (sym same_term)
          ∙ ap (λ (ks : List ℕ). Of (symbol_at nodes p.term) (parts_at (tree_at nodes) ks)) (sym same_parts)));
    }

-- ---- the whole term

no_more : (k : ℕ) (ks : List ℕ) → length ks ≤ k → drop k ks ≡ []
no_more zero [] le = refl
no_more (suc k) [] le = refl
no_more zero (j ∷ ks) le = absurd (omega arith)
no_more (suc k) (j ∷ ks) le = no_more k ks (omega arith)

followed_trees : (at : ℕ → Term) (ks : List ℕ) → followed_by (map at ks) no_parts ≡ parts_at at ks
followed_trees at [] = refl
followed_trees at (k ∷ ks) = ap (λ (ps : Parts). part (at k) ps) (followed_trees at ks)

-- where all its parts are made, it is made of them
pub outcome_whole : (nodes : List Plain) (ss : List Scope) (t : Term) (o : Open) (now : List ℕ) → length o.images.items ≡ length o.parts.items → outcome nodes ss t o now ≡ put_of (finished (symbol_at nodes o.term) (env_in nodes ss o.outer) o.number (parts_at (tree_at nodes) o.images.items)) now
outcome_whole nodes ss t o now full =
    let at = tree_at nodes in
    let env = env_in nodes ss o.outer in
    ap (λ (ks : List ℕ). completed t (symbol_at nodes o.term) env (env_in nodes ss o.inner) o.number (map at o.images.items) (parts_at at ks) now) (no_more (length o.images.items) o.parts.items (omega (arith, full)))
    ∙ ap (λ (ps : Parts). put_of (finished (symbol_at nodes o.term) env o.number ps) now) (followed_trees at o.images.items)

pub finished_other : (symbol : Symbol) (env : List (Term × Term)) (n : ℕ) (ps : Parts) → is_name symbol ≡ false → folded (Of (renumbered symbol n) ps) ≡ finished symbol env n ps
finished_other (term.int_name w m) env n ps e = absurd cc
finished_other (term.val_name w m) env n ps e = absurd cc
finished_other symbol env n ps e = refl

of_parts : (a b : Symbol) (ps qs : Parts) → Of a ps ≡ Of b qs → ps ≡ qs
of_parts a b ps qs e = cc

pub count_of_parts : (nodes : List Plain) (t : ℕ) (s : Symbol) (ks : List ℕ) (n : Plain) → tree_at nodes t ≡ Of s (parts_at (tree_at nodes) ks) → tree_at nodes t ≡ grown (tree_at nodes) n → length ks ≡ length n.parts
count_of_parts nodes t s ks n e f =
    let same = of_parts s n.symbol (parts_at (tree_at nodes) ks) (parts_at (tree_at nodes) n.parts) (sym e ∙ f) in
    sym (count_parts_at (tree_at nodes) ks) ∙ (ap count same ∙ count_parts_at (tree_at nodes) n.parts)

-- ---- what is noted

place_same : (q s a b : ℕ) → same_place (a, b) (q, s) ≡ true → (a ≡ q) × (b ≡ s)
place_same q s a b e = either (eqb a q) refl (eqb b s) refl e
  where
    either : (x : Bool) → eqb a q ≡ x → (y : Bool) → eqb b s ≡ y → (x && y) ≡ true → (a ≡ q) × (b ≡ s)
    either true f true g e = (eqb-true a q f, eqb-true b s g)
    either true f false g e = absurd cc
    either false f y g e = absurd cc

pub made_more : (m n q s r : ℕ) (f g : ℕ × ℕ → Option ℕ) → q < m → s < n → r < m → ((p : ℕ × ℕ) → g p ≡ cond (same_place (q, s) p) (Some r) (f p)) → AreMadeBelow m n f → AreMadeBelow m n g
made_more m n q s r f g lt_q lt_s lt_r puts made a b c e = either (same_place (q, s) (a, b)) refl (sym (puts (a, b)) ∙ e)
  where
    either : (x : Bool) → same_place (q, s) (a, b) ≡ x → cond x (Some r) (f (a, b)) ≡ Some c → (a < m) × (b < n) × (c < m)
    either true h e =
        let at = place_same a b q s h in
        let is = some_same r c e in
        (omega (arith, at.0, lt_q), omega (arith, at.1, lt_s), omega (arith, is, lt_r))
    either false h e = made a b c e

pub remembers_more : (nodes : List Plain) (ss : List Scope) (t : Term) (q s r : ℕ) (f g : ℕ × ℕ → Option ℕ) → IsStill nodes t (tree_at nodes q) (env_in nodes ss s) r → ((p : ℕ × ℕ) → g p ≡ cond (same_place (q, s) p) (Some r) (f p)) → Remembers nodes ss t f → Remembers nodes ss t g
remembers_more nodes ss t q s r f g is puts are a b c e = either (same_place (q, s) (a, b)) refl (sym (puts (a, b)) ∙ e)
  where
    either : (x : Bool) → same_place (q, s) (a, b) ≡ x → cond x (Some r) (f (a, b)) ≡ Some c → IsStill nodes t (tree_at nodes a) (env_in nodes ss b) c
    either true h e =
        let at = place_same a b q s h in
        subst (λ (j : ℕ). IsStill nodes t (tree_at nodes j) (env_in nodes ss b) c) at.0 (subst (λ (j : ℕ). IsStill nodes t (tree_at nodes q) (env_in nodes ss j) c) at.1 (subst (λ (j : ℕ). IsStill nodes t (tree_at nodes q) (env_in nodes ss s) j) (some_same r c e) is))
    either false h e = are a b c e

-- ---- walks that differ in little

pub fits_same : (nodes : List Plain) (w v : Walk) → v.scopes ≡ w.scopes → v.waiting ≡ w.waiting → AreScopes (length nodes) w.scopes.items → AreWaiting nodes (length w.scopes.items) w.waiting.items → AreMadeBelow (length nodes) (length w.scopes.items) (get same_place v.made) → Fits nodes v
fits_same nodes w v e f scopes waiting made = record { scopes = rw e scopes; waiting = rw (e, f) waiting; made = rw e made }

pub stands_same : (nodes : List Plain) (w v : Walk) (u : Term) (base : ℕ) (first ask : Ask) (now : List ℕ) → v.scopes ≡ w.scopes → v.waiting ≡ w.waiting → v.taken ≡ w.taken → v.new_names ≡ w.new_names → Counts w.taken now → length now ≡ base + w.new_names → Waits nodes w.scopes.items u base w.waiting.items first ask → Remembers nodes w.scopes.items u (get same_place v.made) → Stands nodes v u base first ask now
stands_same nodes w v u base first ask now e f g h counts count waits remembers = record {
  counts = rw g counts;
  count = rw h count;
  waits = rw (e, f) waits;
  remembers = rw e remembers;
}

-- the number of what a term is made to
pub closed_if : (old new : List Plain) {E : Type 0} (r : Result ℕ E) (t : ℕ) (p m : Plain) (n : ℕ) (ks : List ℕ) (env : List (Term × Term)) → tree_at old t ≡ grown (tree_at old) p → m ≡ of (renumbered p.symbol n) ks → is_name (symbol_at old t) ≡ false → IfOk r (λ k. tree_at new k ≡ folded (grown (tree_at old) m)) → IfOk r (λ k. tree_at new k ≡ finished (symbol_at old t) env n (parts_at (tree_at old) ks))
closed_if old new (Ok k) t p m n ks env tree made other is =
    let same : symbol_at old t ≡ p.symbol = ap symbol_in tree in
    is
    ∙ (ap (λ (q : Plain). folded (grown (tree_at old) q)) made
    ∙ (ap (λ (s : Symbol). folded (Of (renumbered s n) (parts_at (tree_at old) ks))) (sym same) ∙ finished_other (symbol_at old t) env n (parts_at (tree_at old) ks) other))
closed_if old new (Err e) t p m n ks env tree made other is = tt
