-- What tasks lead to.
use Rattle.std.proofs.Common.{◌≡◌, ◌∙◌, ◌<◌, ◌-◌, ◌||◌, ℕ, zero, suc, true, false, List, [], ◌∷◌, ◌++◌, map, take, length, append_assoc, Option, Some, None, IfSome, refl, sym, ap, ap₂, subst, arith}
use Rattle.std.proofs.lemmas.List.{append-nil}
use Rattle.wy_check_splits.specs.wy_check_nodes.Seen.{AreBelow, signed}
use Rattle.wy_search_spec.specs.Standing.{Standing, below, bound_by, have_common, all_parts, of_range, standing_in, standing_in_parts}
use Rattle.wy_check_splits.specs.Free.{is_among}
use Rattle.wy_cong.proofs.BoundLemmas.{crossing, marked_alone}
use Rattle.wy_cong.specs.Heads.{BeginsWith}
use Rattle.wy_cong.specs.Marks.{all_marked, binds_one, is_any_bound, listed_unless, with_unmarked}
use Rattle.wy_cong.specs.Walk.{AreTasks, but_last, is_quantifier, left_at, tasks_of, visits, with_next}
use Rattle.wy_cong.specs.declared.task.Task.{Task}
use Rattle.wy_cong.specs.declared.task.Task.TheVariants.{Visit}
use Rattle.wy_term.specs.Nodes.{parts_at, plain}
use Rattle.wy_term.specs.declared.node.Node.{Node}
use Rattle.wy_term.specs.declared.node.Node.TheVariants as node
use Rattle.wy_term.specs.Scope.{free_names}
use Rattle.wy_term.specs.Term.{Symbol, Term, Of, Parts, leaf, int_name}
use Rattle.wy_term.specs.Term as term

pub marked_joined : (around : List Term) (ss us : List Standing) → all_marked around (ss ++ us) ≡ all_marked around ss ++ all_marked around us
marked_joined around [] us = refl
marked_joined around (s ∷ ss) us = ap (λ ms. all_marked around (s ∷ []) ++ ms) (marked_joined around ss us)

-- ---- the parts of a term that is no quantifier

plain_below : (symbol : Symbol) → is_quantifier symbol ≡ false → (parts : List (List Standing)) → below symbol parts ≡ all_parts parts
plain_below (term.number z) plain parts = refl
plain_below (term.int_name word n) plain parts = refl
plain_below term.add plain parts = refl
plain_below term.sub plain parts = refl
plain_below term.neg plain parts = refl
plain_below term.mul plain parts = refl
plain_below term.div plain parts = refl
plain_below term.rem plain parts = refl
plain_below term.num plain parts = refl
plain_below term.len plain parts = refl
plain_below (term.val_name word n) plain parts = refl
plain_below term.null plain parts = refl
plain_below (term.truth b) plain parts = refl
plain_below term.int plain parts = refl
plain_below term.bool plain parts = refl
plain_below term.array plain parts = refl
plain_below term.repeat plain parts = refl
plain_below term.update plain parts = refl
plain_below term.get plain parts = refl
plain_below (term.fields names) plain parts = refl
plain_below (term.field name) plain parts = refl
plain_below (term.set_field name) plain parts = refl
plain_below term.at_most plain parts = refl
plain_below term.equal plain parts = refl
plain_below (term.of_kind kind) plain parts = refl
plain_below (term.in_type n) plain parts = refl
plain_below (term.every word n) plain parts = absurd (cc)
plain_below (term.exists word n) plain parts = absurd (cc)
plain_below term.denied plain parts = refl
plain_below term.all_of plain parts = refl
plain_below term.any_of plain parts = refl

visited : (at : ℕ → Term) (ks : List ℕ) (ts : List Task) (around : List Term)
    → left_at at (visits ks ++ ts) around ≡ all_marked around (all_parts (standing_in_parts (parts_at at ks))) ++ left_at at ts around
visited at [] ts around = refl
visited at (k ∷ ks) ts around =
    ap (λ ms. all_marked around (standing_in (at k)) ++ ms) (visited at ks ts around)
    ∙ sym (append_assoc (all_marked around (standing_in (at k))) (all_marked around (all_parts (standing_in_parts (parts_at at ks)))) (left_at at ts around))
    ∙ ap (λ ms. ms ++ left_at at ts around) (sym (marked_joined around (standing_in (at k)) (all_parts (standing_in_parts (parts_at at ks)))))

pub plain_parts : (at : ℕ → Term) (symbol : Symbol) (ks : List ℕ) (ts us : List Task) (around : List Term) → is_quantifier symbol ≡ false → us ≡ visits ks ++ ts
    → left_at at us around ≡ all_marked around (below symbol (standing_in_parts (parts_at at ks))) ++ left_at at ts around
plain_parts at symbol ks ts us around plain is =
    ap (λ (vs : List Task). left_at at vs around) is
    ∙ visited at ks ts around
    ∙ ap (λ (ss : List Standing). all_marked around ss ++ left_at at ts around) (sym (plain_below symbol plain (standing_in_parts (parts_at at ks))))

-- ---- the parts of a quantifier

but_last_of : (ts : List Term) (t : Term) → but_last (ts ++ t ∷ []) ≡ ts
but_last_of [] t = refl
but_last_of (u ∷ []) t = refl
but_last_of (u ∷ v ∷ vs) t = ap (λ ws. u ∷ ws) (but_last_of (v ∷ vs) t)

-- the name that a quantifier with this symbol binds
abbrev bound_name : Symbol → Term
bound_name (term.every word n) = leaf (int_name word n)
bound_name (term.exists word n) = leaf (int_name word n)
bound_name symbol = leaf symbol

record Ranged (symbol : Symbol) : Type 0 where
  binds : (ps : Parts) (names : List Term) → binds_one (Of symbol ps) names ≡ is_among (bound_name symbol) names
  range : (parts : List (List Standing)) → below symbol parts ≡ of_range (bound_name symbol) parts

ranged_by : (symbol : Symbol) → is_quantifier symbol ≡ true → Ranged symbol
ranged_by (term.number z) up = absurd (cc)
ranged_by (term.int_name word n) up = absurd (cc)
ranged_by term.add up = absurd (cc)
ranged_by term.sub up = absurd (cc)
ranged_by term.neg up = absurd (cc)
ranged_by term.mul up = absurd (cc)
ranged_by term.div up = absurd (cc)
ranged_by term.rem up = absurd (cc)
ranged_by term.num up = absurd (cc)
ranged_by term.len up = absurd (cc)
ranged_by (term.val_name word n) up = absurd (cc)
ranged_by term.null up = absurd (cc)
ranged_by (term.truth b) up = absurd (cc)
ranged_by term.int up = absurd (cc)
ranged_by term.bool up = absurd (cc)
ranged_by term.array up = absurd (cc)
ranged_by term.repeat up = absurd (cc)
ranged_by term.update up = absurd (cc)
ranged_by term.get up = absurd (cc)
ranged_by (term.fields names) up = absurd (cc)
ranged_by (term.field name) up = absurd (cc)
ranged_by (term.set_field name) up = absurd (cc)
ranged_by term.at_most up = absurd (cc)
ranged_by term.equal up = absurd (cc)
ranged_by (term.of_kind kind) up = absurd (cc)
ranged_by (term.in_type n) up = absurd (cc)
ranged_by (term.every word n) up = record { binds = λ ps names. refl; range = λ parts. refl }
ranged_by (term.exists word n) up = record { binds = λ ps names. refl; range = λ parts. refl }
ranged_by term.denied up = absurd (cc)
ranged_by term.all_of up = absurd (cc)
ranged_by term.any_of up = absurd (cc)

ranged : (at : ℕ → Term) (q a b c : ℕ) (x : Term) (ts : List Task) (around : List Term) → ((names : List Term) → binds_one (at q) names ≡ is_among x names)
    → left_at at (tasks_of q (a ∷ b ∷ c ∷ []) ++ ts) around ≡ all_marked around (of_range x (standing_in_parts (parts_at at (a ∷ b ∷ c ∷ [])))) ++ left_at at ts around
ranged at q a b c x ts around bound =
    let first = all_marked around (standing_in (at a)) in
    let second = all_marked around (standing_in (at b)) in
    let body = all_marked around (map (bound_by x) (standing_in (at c))) in
    let rest = left_at at ts around in
    ap (λ ms. first ++ (second ++ ms)) (ap₂ (λ ms us. ms ++ left_at at ts us) (sym (crossing around (at q) x bound (standing_in (at c)))) (but_last_of around (at q)))
    ∙ sym (ap (λ ms. first ++ ms) (append_assoc second body rest))
    ∙ sym (append_assoc first (second ++ body) rest)
    ∙ ap (λ ms. ms ++ rest) (sym (marked_joined around (standing_in (at a)) (standing_in (at b) ++ map (bound_by x) (standing_in (at c)))
    ∙ ap (λ ms. first ++ ms) (marked_joined around (standing_in (at b)) (map (bound_by x) (standing_in (at c))))))

pub range_parts : (at : ℕ → Term) (q : ℕ) (symbol : Symbol) (ks : List ℕ) (ts us : List Task) (around : List Term) → at q ≡ Of symbol (parts_at at ks) → is_quantifier symbol ≡ true → length ks ≡ 3
    → us ≡ tasks_of q ks ++ ts → left_at at us around ≡ all_marked around (below symbol (standing_in_parts (parts_at at ks))) ++ left_at at ts around
range_parts at q symbol [] ts us around is up three put = absurd (cc)
range_parts at q symbol (a ∷ []) ts us around is up three put = absurd (omega (arith, three))
range_parts at q symbol (a ∷ b ∷ []) ts us around is up three put = absurd (omega (arith, three))
range_parts at q symbol (a ∷ b ∷ c ∷ []) ts us around is up three put =
    let r = ranged_by symbol up in
    ap (λ (vs : List Task). left_at at vs around) put
    ∙ ranged at q a b c (bound_name symbol) ts around (λ names. ap (λ (t : Term). binds_one t names) is ∙ r.binds (parts_at at (a ∷ b ∷ c ∷ [])) names)
    ∙ ap (λ (ss : List Standing). all_marked around ss ++ left_at at ts around) (sym (r.range (standing_in_parts (parts_at at (a ∷ b ∷ c ∷ [])))))
range_parts at q symbol (a ∷ b ∷ c ∷ d ∷ ks) ts us around is up three put = absurd (omega (arith, three))

-- ---- a term

-- a term by its symbol and parts: itself, and then what stands in its parts
pub term_led : (at : ℕ → Term) (k : ℕ) (symbol : Symbol) (ks : List ℕ) (done new : List Term) (ts us : List Task) (around : List Term) → at k ≡ Of symbol (parts_at at ks)
    → new ≡ listed_unless (is_any_bound around (free_names (at k))) done (at k)
    → left_at at us around ≡ all_marked around (below symbol (standing_in_parts (parts_at at ks))) ++ left_at at ts around
    → with_unmarked new (left_at at us around) ≡ with_unmarked done (left_at at (Visit k true ∷ ts) around)
term_led at k symbol ks done new ts us around is listed left =
    let t = Of symbol (parts_at at ks) in
    let rest = all_marked around (below symbol (standing_in_parts (parts_at at ks))) ++ left_at at ts around in
    ap (with_unmarked new) left
    ∙ ap (λ d. with_unmarked d rest) (listed ∙ ap (λ u. listed_unless (is_any_bound around (free_names u)) done u) is
    ∙ ap (λ b. listed_unless b done t) (sym (marked_alone around t)))
    ∙ ap (λ u. with_unmarked done (all_marked around (standing_in u) ++ left_at at ts around)) (sym is)

-- the same, where the quantifiers around are given by their numbers
pub visit_led : (at : ℕ → Term) (k : ℕ) (symbol : Symbol) (ks : List ℕ) (done new : List Term) (ts us : List Task) (old now : List ℕ) → at k ≡ Of symbol (parts_at at ks)
    → new ≡ listed_unless (is_any_bound (map at old) (free_names (at k))) done (at k) → now ≡ old
    → left_at at us (map at old) ≡ all_marked (map at old) (below symbol (standing_in_parts (parts_at at ks))) ++ left_at at ts (map at old)
    → with_unmarked new (left_at at us (map at now)) ≡ with_unmarked done (left_at at (Visit k true ∷ ts) (map at old))
visit_led at k symbol ks done new ts us old now is listed same left =
    ap (λ (a : List ℕ). with_unmarked new (left_at at us (map at a))) same ∙ term_led at k symbol ks done new ts us (map at old) is listed left

-- the denial of a formula: itself, and then the formula
pub denial_led : (at : ℕ → Term) (k : ℕ) (done new : List Term) (ts us : List Task) (around : List Term)
    → new ≡ listed_unless (is_any_bound around (free_names (signed (at k) false))) done (signed (at k) false) → us ≡ Visit k true ∷ ts
    → with_unmarked new (left_at at us around) ≡ with_unmarked done (left_at at (Visit k false ∷ ts) around)
denial_led at k done new ts us around listed put =
    ap (λ vs. with_unmarked new (left_at at vs around)) put
    ∙ ap (λ d. with_unmarked d (all_marked around (standing_in (at k)) ++ left_at at ts around))
    (listed ∙ ap (λ b. listed_unless b done (signed (at k) false)) (sym (marked_alone around (signed (at k) false))))
    ∙ ap (λ ss. with_unmarked (listed_unless (is_any_bound around (free_names (signed (at k) false)) || have_common (free_names (signed (at k) false)) []) done (signed (at k) false)) (all_marked around ss ++ left_at at ts around)) (sym (append-nil (standing_in (at k))))

-- ---- tasks that are done

pub tasks_front : (n : ℕ) (ks : List ℕ) (ts us : List Task) → AreBelow n ks → AreTasks n ts → us ≡ visits ks ++ ts → AreTasks n us
tasks_front n ks ts us low are is = subst (AreTasks n) (sym is) (go n ks ts low are)
  where
    go : (n : ℕ) (ks : List ℕ) (ts : List Task) → AreBelow n ks → AreTasks n ts → AreTasks n (visits ks ++ ts)
    go n [] ts low are = are
    go n (k ∷ ks) ts low are = (low 0 k (omega arith), go n ks ts (λ i d lt. low (suc i) d (omega (arith, lt))) are)

pub range_tasks : (n q : ℕ) (ks : List ℕ) (ts us : List Task) → q < n → AreBelow n ks → length ks ≡ 3 → AreTasks n ts → us ≡ tasks_of q ks ++ ts → AreTasks n us
range_tasks n q [] ts us lt low three are is = absurd (cc)
range_tasks n q (a ∷ []) ts us lt low three are is = absurd (omega (arith, three))
range_tasks n q (a ∷ b ∷ []) ts us lt low three are is = absurd (omega (arith, three))
range_tasks n q (a ∷ b ∷ c ∷ ks) ts us lt low three are is =
    subst (AreTasks n) (sym is) (low 0 a (omega arith), (low 1 b (omega arith), (lt, (low 2 c (omega arith), are))))

taken : (at : ℕ → Term) (n : ℕ) (xs : List ℕ) → length xs ≡ suc n → map at (take n xs) ≡ but_last (map at xs)
taken at n [] e = absurd (cc)
taken at zero (x ∷ []) e = refl
taken at (suc n) (x ∷ []) e = absurd (omega (arith, e))
taken at zero (x ∷ y ∷ ys) e = absurd (omega (arith, e))
taken at (suc n) (x ∷ y ∷ ys) e = ap (λ ts. at x ∷ ts) (taken at n (y ∷ ys) (omega (arith, e)))

pub popped : (at : ℕ → Term) (xs ys : List ℕ) (n : ℕ) → n ≡ length xs → ys ≡ take (n - 1) xs → map at ys ≡ but_last (map at xs)
popped at [] ys n e is = ap (map at) is ∙ none (n - 1)
  where
    none : (m : ℕ) → map at (take m []) ≡ []
    none zero = refl
    none (suc m) = refl
popped at (x ∷ xs) ys n e is =
    let m : n - 1 ≡ length xs = omega (arith, e) in
    let l : length (x ∷ xs) ≡ suc (length xs) = refl in
    ap (map at) (is ∙ ap (λ j. take j (x ∷ xs)) m) ∙ taken at (length xs) (x ∷ xs) l

pub below_taken : (n m : ℕ) (xs ys : List ℕ) → AreBelow n xs → ys ≡ take m xs → AreBelow n ys
below_taken n m xs ys low is = subst (AreBelow n) (sym is) (go n m xs low)
  where
    go : (n m : ℕ) (xs : List ℕ) → AreBelow n xs → AreBelow n (take m xs)
    go n zero xs low i d lt = absurd (omega (arith, lt))
    go n (suc m) [] low i d lt = absurd (omega (arith, lt))
    go n (suc m) (x ∷ xs) low zero d lt = low 0 d (omega arith)
    go n (suc m) (x ∷ xs) low (suc i) d lt = go n m xs (λ j e l. low (suc j) e (omega (arith, l))) i d (omega (arith, lt))

pub map_last : (at : ℕ → Term) (xs ys : List ℕ) (k : ℕ) → ys ≡ xs ++ k ∷ [] → map at ys ≡ map at xs ++ at k ∷ []
map_last at xs ys k is = ap (map at) is ∙ go xs
  where
    go : (xs : List ℕ) → map at (xs ++ k ∷ []) ≡ map at xs ++ at k ∷ []
    go [] = refl
    go (x ∷ xs) = ap (λ ts. at x ∷ ts) (go xs)

-- a quantifier has three parts
pub three_parts : (n : Node) → is_quantifier (plain n).symbol ≡ true → length (plain n).parts ≡ 3
three_parts (node.Number z) up = absurd (cc)
three_parts (node.IntName word n) up = absurd (cc)
three_parts (node.Add s t) up = absurd (cc)
three_parts (node.Sub s t) up = absurd (cc)
three_parts (node.Neg s) up = absurd (cc)
three_parts (node.Mul s t) up = absurd (cc)
three_parts (node.Div s t) up = absurd (cc)
three_parts (node.Mod s t) up = absurd (cc)
three_parts (node.Num v) up = absurd (cc)
three_parts (node.Len v) up = absurd (cc)
three_parts (node.ValName word n) up = absurd (cc)
three_parts node.Null up = absurd (cc)
three_parts (node.Bool b) up = absurd (cc)
three_parts (node.Int s) up = absurd (cc)
three_parts (node.Truth f) up = absurd (cc)
three_parts (node.Array vs) up = absurd (cc)
three_parts (node.Repeat v s) up = absurd (cc)
three_parts (node.Update v s w) up = absurd (cc)
three_parts (node.Get v s) up = absurd (cc)
three_parts (node.Record fields) up = absurd (cc)
three_parts (node.Field v name) up = absurd (cc)
three_parts (node.SetField v name w) up = absurd (cc)
three_parts (node.AtMost s t) up = absurd (cc)
three_parts (node.Equal v w) up = absurd (cc)
three_parts (node.Kind v k) up = absurd (cc)
three_parts (node.In v n) up = absurd (cc)
three_parts (node.All q) up = refl
three_parts (node.Some q) up = refl
three_parts (node.Not f) up = absurd (cc)
three_parts (node.And fs) up = absurd (cc)
three_parts (node.Or fs) up = absurd (cc)

-- ---- a part that is gone into at once

pub tasks_behind : (n : ℕ) (next : Option ℕ) (ts : List Task) → AreTasks n (with_next next ts) → AreTasks n ts
tasks_behind n None ts are = are
tasks_behind n (Some k) ts are = are.1

-- the first of numbers that are below another is
pub first_below : (n : ℕ) (ks : List ℕ) → AreBelow n ks → (next : Option ℕ) → IfSome next (BeginsWith ks) → IfSome next (λ k. k < n)
first_below n ks low None begins = tt
first_below n [] low (Some k) begins = absurd (cc)
first_below n (j ∷ js) low (Some k) begins = subst (λ (i : ℕ). i < n) (some_is j k begins) (low 0 j (omega arith))
  where
    some_is : (x y : ℕ) → Some x ≡ Some y → x ≡ y
    some_is x y e = cc
