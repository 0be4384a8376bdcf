-- How many nodes lead to each node tells which arrows lie on a cycle.
use Rattle.std.proofs.Common.{◌≡◌, ◌≢◌, ◌+◌, ◌<◌, ◌≤◌, ◌↔◌, ◌⊎◌, inl, inr, ℕ, zero, suc, Bool, true, false, ◌&&◌, ◌||◌, List, [], ◌∷◌, ◌++◌, length, length-append, map, Some, refl, sym, ap, subst, ◌∙◌, arith}
use Rattle.std.specs.List.{slice_get}
use Rattle.std.specs.Bool.{nat_lt}
use Rattle.std.specs.Option.{option_map}
use Rattle.std.proofs.lemmas.Option.{slice_get-map}
use Rattle.std.proofs.Math.Dec.{eqb}
use Rattle.std.proofs.lemmas.Bool.Decides.{eqb_tells}
use Rattle.std.proofs.lemmas.Bool.{ltb-true, ltb-false}
use Rattle.wy_graph.specs.declared.closure.clauses.Clause.{Clause}
use Rattle.wy_graph.specs.closure.Marks.{mark_at, each_marked}
use Rattle.wy_graph.specs.closure.Closure.{HaveHeads, IsClosed, IsReached, from_none, by_clause}
use Rattle.wy_graph.proofs.closure_lemmas.MarkLemmas.{mark_old}
use Rattle.wy_graph.specs.declared.cycles.graph.Arrow.{Arrow}
use Rattle.wy_graph.specs.cycles.Cycles.{Leads, stays, goes, label, TellCycles, Rise}
use Rattle.wy_graph.specs.cycles.Ancestors.{greater, last_node, clause_of, clause_at, clauses_to, how_many, CountsAncestors}
use Rattle.wy_graph.proofs.cycles_lemmas.CycleLemmas.{leads_on}

-- ---- the arrows' ends

greater_first : (a b : ℕ) → a ≤ greater a b
greater_first a b = by (nat_lt a b) refl
  where
    by : (t : Bool) → nat_lt a b ≡ t → a ≤ greater a b
    by true e = let less : a < b = ltb-true a b e in rw e (omega arith)
    by false e = rw e (omega arith)

greater_second : (a b : ℕ) → b ≤ greater a b
greater_second a b = by (nat_lt a b) refl
  where
    by : (t : Bool) → nat_lt a b ≡ t → b ≤ greater a b
    by true e = rw e (omega arith)
    by false e = let less : b ≤ a = ltb-false a b e in rw e (omega arith)

last_least : (arrows : List Arrow) (n : ℕ) → n ≤ last_node arrows n
last_least [] n = omega arith
last_least (a ∷ rest) n =
    let first = greater_first n a.from in
    let second = greater_first (greater n a.from) a.to in
    let more = last_least rest (greater (greater n a.from) a.to) in
    omega (arith, first, second, more)

pub record Within (a : Arrow) (last : ℕ) : Type 0 where
  pub from : a.from ≤ last
  pub to : a.to ≤ last

some_of : (a b : Arrow) → Some a ≡ Some b → a ≡ b
some_of a b e = cc

pub within_last : (arrows : List Arrow) (n i : ℕ) (a : Arrow) → slice_get arrows i ≡ Some a → Within a (last_node arrows n)
within_last [] n i a e = absurd (cc)
within_last (x ∷ rest) n zero a e =
    let next = greater (greater n x.from) x.to in
    let more : next ≤ last_node rest next = last_least rest next in
    let first : x.from ≤ greater n x.from = greater_second n x.from in
    let second : greater n x.from ≤ next = greater_first (greater n x.from) x.to in
    let third : x.to ≤ next = greater_second (greater n x.from) x.to in
    subst (λ (y : Arrow). Within y (last_node rest next)) (some_of x a e) (record { from = omega (arith, first, second, more); to = omega (arith, third, more) })
within_last (x ∷ rest) n (suc i) a e = within_last rest (greater (greater n x.from) x.to) i a e

-- ---- the clauses of a node

pub some_clause : (c d : Clause) → Some c ≡ Some d → c ≡ d
some_clause c d e = cc

-- a clause behind the first is that of an arrow
record FromArrow (arrows : List Arrow) (i : ℕ) (c : Clause) : Type 0 where
  arrow : Arrow
  here : slice_get arrows i ≡ Some arrow
  is : clause_of arrow ≡ c

from_arrow : (arrows : List Arrow) (i : ℕ) (c : Clause) → slice_get (map clause_of arrows) i ≡ Some c → FromArrow arrows i c
from_arrow [] i c e = absurd (cc)
from_arrow (a ∷ arrows) zero c e = record { arrow = a; here = refl; is = some_clause (clause_of a) c e }
from_arrow (a ∷ arrows) (suc i) c e = let r = from_arrow arrows i c e in record { arrow = r.arrow; here = r.here; is = r.is }

to_clause : (arrows : List Arrow) (i : ℕ) (a : Arrow) → slice_get arrows i ≡ Some a → slice_get (map clause_of arrows) i ≡ Some (clause_of a)
to_clause arrows i a e = slice_get-map clause_of arrows i ∙ ap (option_map clause_of) e

pub heads : (arrows : List Arrow) (count node : ℕ) → last_node arrows 0 < count → node < count → HaveHeads count (clauses_to arrows node)
heads arrows count node ends lt zero c e = let is : clause_at node ≡ c = some_clause (clause_at node) c e in subst (λ (d : Clause). d.head < count) is lt
heads arrows count node ends lt (suc i) c e =
    let r = from_arrow arrows i c e in
    let w : r.arrow.from ≤ last_node arrows 0 = (within_last arrows 0 i r.arrow r.here).from in
    subst (λ (d : Clause). d.head < count) r.is (omega (arith, w, ends))

one_marked : (marks : List Bool) (n : ℕ) → mark_at marks n ≡ true → each_marked marks ((n ∷ []) ∷ []) ≡ true
one_marked marks n h = rw h refl

marked_one : (marks : List Bool) (n : ℕ) → each_marked marks ((n ∷ []) ∷ []) ≡ true → mark_at marks n ≡ true
marked_one marks n h = by (mark_at marks n) h
  where
    by : (m : Bool) → ((m || false) && true) ≡ true → m ≡ true
    by true e = refl
    by false e = absurd (cc)

-- what leads to the node has a mark
complete : (arrows : List Arrow) (node : ℕ) (marks : List Bool) → IsClosed (clauses_to arrows node) marks → (v : ℕ) → Leads arrows v node → mark_at marks v ≡ true
complete arrows node marks closed v (stays e) = subst (λ (n : ℕ). mark_at marks n ≡ true) (sym e) (closed 0 (clause_at node) refl refl)
complete arrows node marks closed v (goes i a e f rest) =
    let next : mark_at marks a.to ≡ true = complete arrows node marks closed a.to rest in
    let here : mark_at marks a.from ≡ true = closed (suc i) (clause_of a) (to_clause arrows i a e) (one_marked marks a.to next) in
    subst (λ (n : ℕ). mark_at marks n ≡ true) f here

-- what has a mark by one clause more leads to the node, where what had one before does
sound_more : (arrows : List Arrow) (node : ℕ) (old : List Bool) (i : ℕ) (c : Clause) (v : ℕ) → ((w : ℕ) → mark_at old w ≡ true → Leads arrows w node)
    → slice_get (clauses_to arrows node) i ≡ Some c → each_marked old c.body ≡ true → (v ≡ c.head) ⊎ (mark_at old v ≡ true) → Leads arrows v node
sound_more arrows node old i c v before at met (inr was) = before v was
sound_more arrows node old zero c v before at met (inl is) = let same : clause_at node ≡ c = some_clause (clause_at node) c at in stays (is ∙ sym (ap (λ (d : Clause). d.head) same))
sound_more arrows node old (suc j) c v before at met (inl is) =
    let r = from_arrow arrows j c at in
    let to : mark_at old r.arrow.to ≡ true = marked_one old r.arrow.to (subst (λ (d : Clause). each_marked old d.body ≡ true) (sym r.is) met) in
    goes j r.arrow r.here (ap (λ (d : Clause). d.head) r.is ∙ sym is) (before r.arrow.to to)

-- what has a mark leads to the node
sound : (arrows : List Arrow) (node : ℕ) (marks : List Bool) → IsReached (clauses_to arrows node) marks → (v : ℕ) → mark_at marks v ≡ true → Leads arrows v node
sound arrows node marks (from_none same none) v h = absurd (cc (none v, h))
sound arrows node marks (by_clause old i c before here met) v h = sound_more arrows node old i c v (sound arrows node old before) here met (mark_old old c.head v h)

pub counted : (arrows : List Arrow) (count node : ℕ) (marks : List Bool) → length marks ≡ count → IsReached (clauses_to arrows node) marks → IsClosed (clauses_to arrows node) marks
    → CountsAncestors arrows count node (how_many marks)
counted arrows count node marks size reached closed = record { marks = marks; size = size; exact = λ (v : ℕ). (sound arrows node marks reached v, complete arrows node marks closed v); number = refl }

-- ---- counts of sets of which one is within the other

pub fewer : (xs ys : List Bool) → length xs ≡ length ys → ((v : ℕ) → mark_at xs v ≡ true → mark_at ys v ≡ true) → how_many xs ≤ how_many ys
fewer [] ys size within = omega arith
fewer (x ∷ xs) [] size within = absurd (omega (arith, size))
fewer (true ∷ xs) (true ∷ ys) size within = let h = fewer xs ys (omega (arith, size)) (λ (v : ℕ) (m : mark_at xs v ≡ true). within (suc v) m) in omega (arith, h)
fewer (true ∷ xs) (false ∷ ys) size within = absurd (let h : false ≡ true = within 0 refl in cc)
fewer (false ∷ xs) (true ∷ ys) size within = let h = fewer xs ys (omega (arith, size)) (λ (v : ℕ) (m : mark_at xs v ≡ true). within (suc v) m) in omega (arith, h)
fewer (false ∷ xs) (false ∷ ys) size within = fewer xs ys (omega (arith, size)) (λ (v : ℕ) (m : mark_at xs v ≡ true). within (suc v) m)

-- where they are as many, they are the same
pub as_many : (xs ys : List Bool) → length xs ≡ length ys → ((v : ℕ) → mark_at xs v ≡ true → mark_at ys v ≡ true) → how_many xs ≡ how_many ys → (v : ℕ) → mark_at ys v ≡ true → mark_at xs v ≡ true
as_many [] [] size within same v h = h
as_many [] (y ∷ ys) size within same v h = absurd (omega (arith, size))
as_many (x ∷ xs) [] size within same v h = absurd (omega (arith, size))
as_many (true ∷ xs) (y ∷ ys) size within same zero h = refl
as_many (true ∷ xs) (true ∷ ys) size within same (suc v) h = as_many xs ys (omega (arith, size)) (λ (w : ℕ) (m : mark_at xs w ≡ true). within (suc w) m) (omega (arith, same)) v h
as_many (true ∷ xs) (false ∷ ys) size within same (suc v) h = absurd (let g : false ≡ true = within 0 refl in cc)
as_many (false ∷ xs) (true ∷ ys) size within same v h =
    let less : how_many xs ≤ how_many ys = fewer xs ys (omega (arith, size)) (λ (w : ℕ) (m : mark_at xs w ≡ true). within (suc w) m) in
    absurd (omega (arith, same, less))
as_many (false ∷ xs) (false ∷ ys) size within same zero h = h
as_many (false ∷ xs) (false ∷ ys) size within same (suc v) h = as_many xs ys (omega (arith, size)) (λ (w : ℕ) (m : mark_at xs w ≡ true). within (suc w) m) same v h

-- ---- labels that count

-- each node up to the last has its count
pub record CountsEach (arrows : List Arrow) (count : ℕ) (labels : List ℕ) : Type 0 where
  pub each : (v : ℕ) → v < count → CountsAncestors arrows count v (label labels v)

-- along an arrow the ends' counts rise, and they are the same where the arrow lies on a cycle
along : (arrows : List Arrow) (count : ℕ) (a b m n : ℕ) → Leads arrows a b → CountsAncestors arrows count a m → CountsAncestors arrows count b n → m ≤ n
along arrows count a b m n leads x y =
    let less : how_many x.marks ≤ how_many y.marks = fewer x.marks y.marks (x.size ∙ sym y.size) (λ (v : ℕ) (h : mark_at x.marks v ≡ true). (y.exact v).1 (leads_on arrows v a b ((x.exact v).0 h) leads)) in
    omega (arith, less, x.number, y.number)

back : (arrows : List Arrow) (count : ℕ) (a b m n : ℕ) → Leads arrows a b → CountsAncestors arrows count a m → CountsAncestors arrows count b n → m ≡ n → Leads arrows b a
back arrows count a b m n leads x y same =
    let many : how_many x.marks ≡ how_many y.marks = sym x.number ∙ (same ∙ y.number) in
    let own : mark_at y.marks b ≡ true = (y.exact b).1 (stays refl) in
    (x.exact b).0 (as_many x.marks y.marks (x.size ∙ sym y.size) (λ (v : ℕ) (h : mark_at x.marks v ≡ true). (y.exact v).1 (leads_on arrows v a b ((x.exact v).0 h) leads)) many b own)

arrow_leads : (arrows : List Arrow) (i : ℕ) (a : Arrow) → slice_get arrows i ≡ Some a → Leads arrows a.from a.to
arrow_leads arrows i a e = goes i a e refl (stays refl)

pub counted_rise : (arrows : List Arrow) (count : ℕ) (labels : List ℕ) → last_node arrows 0 < count → CountsEach arrows count labels → Rise arrows labels
counted_rise arrows count labels ends each = record { rises = rise }
  where
    rise : (i : ℕ) (a : Arrow) → slice_get arrows i ≡ Some a → label labels a.from ≤ label labels a.to
    rise i a e =
        let w = within_last arrows 0 i a e in
        let from : a.from < count = omega (arith, w.from, ends) in
        let to : a.to < count = omega (arith, w.to, ends) in
        along arrows count a.from a.to (label labels a.from) (label labels a.to) (arrow_leads arrows i a e) (each.each a.from from) (each.each a.to to)

pub counted_cycles : (arrows : List Arrow) (count : ℕ) (labels : List ℕ) → last_node arrows 0 < count → CountsEach arrows count labels → TellCycles arrows labels
counted_cycles arrows count labels ends each = record { tells = tell }
  where
    tell : (i : ℕ) (a : Arrow) → slice_get arrows i ≡ Some a → (label labels a.from ≡ label labels a.to) ↔ Leads arrows a.to a.from
    tell i a e =
        let w = within_last arrows 0 i a e in
        let from : a.from < count = omega (arith, w.from, ends) in
        let to : a.to < count = omega (arith, w.to, ends) in
        let x = each.each a.from from in
        let y = each.each a.to to in
        let leads = arrow_leads arrows i a e in
        let up : label labels a.from ≤ label labels a.to = along arrows count a.from a.to (label labels a.from) (label labels a.to) leads x y in (
          back arrows count a.from a.to (label labels a.from) (label labels a.to) leads x y,
          λ (g : Leads arrows a.to a.from).
              let down : label labels a.to ≤ label labels a.from = along arrows count a.to a.from (label labels a.to) (label labels a.from) g y x in
              omega (arith, up, down),
        )

-- ---- one label more

label_before : (labels : List ℕ) (n v : ℕ) → v < length labels → label (labels ++ n ∷ []) v ≡ label labels v
label_before [] n v lt = absurd (omega (arith, lt))
label_before (x ∷ labels) n zero lt = refl
label_before (x ∷ labels) n (suc v) lt = label_before labels n v (omega (arith, lt))

label_last : (labels : List ℕ) (n v : ℕ) → v ≡ length labels → label (labels ++ n ∷ []) v ≡ n
label_last [] n zero e = refl
label_last [] n (suc v) e = absurd (omega (arith, e))
label_last (x ∷ labels) n zero e = absurd (omega (arith, e))
label_last (x ∷ labels) n (suc v) e = label_last labels n v (omega (arith, e))

-- so many nodes have their count
pub record CountsFirst (arrows : List Arrow) (count : ℕ) (first : ℕ) (labels : List ℕ) : Type 0 where
  pub size : length labels ≡ first
  pub each : (v : ℕ) → v < first → CountsAncestors arrows count v (label labels v)

pub first_more : (arrows : List Arrow) (count first : ℕ) (labels : List ℕ) (n : ℕ) → CountsFirst arrows count first labels → CountsAncestors arrows count first n → CountsFirst arrows count (first + 1) (labels ++ n ∷ [])
first_more arrows count first labels n before here = record { size = length-append labels (n ∷ []) ∙ ap (λ (k : ℕ). k + 1) before.size; each = each }
  where
    each : (v : ℕ) → v < first + 1 → CountsAncestors arrows count v (label (labels ++ n ∷ []) v)
    each v lt = by (eqb_tells v first)
      where
        by : ((eqb v first ≡ true) × (v ≡ first)) ⊎ ((eqb v first ≡ false) × (v ≢ first)) → CountsAncestors arrows count v (label (labels ++ n ∷ []) v)
        by (inl e) =
            subst (λ (l : ℕ). CountsAncestors arrows count v l) (sym (label_last labels n v (e.1 ∙ sym before.size)))
            (subst (λ (w : ℕ). CountsAncestors arrows count w n) (sym e.1) here)
        by (inr d) =
            let other : v ≢ first = d.1 in
            let less : v < first = omega (arith, lt, other) in
            subst (λ (l : ℕ). CountsAncestors arrows count v l) (sym (label_before labels n v (subst (λ (k : ℕ). v < k) (sym before.size) less))) (before.each v less)

-- with the label of the last node, each has its count
pub last_more : (arrows : List Arrow) (last node : ℕ) (labels : List ℕ) (n : ℕ) (made : List ℕ) → node ≡ last → CountsFirst arrows (last + 1) node labels → CountsAncestors arrows (last + 1) last n → made ≡ labels ++ n ∷ []
    → CountsEach arrows (last + 1) made
last_more arrows last node labels n made is before here made_is =
    let first : CountsFirst arrows (last + 1) last labels = subst (λ (k : ℕ). CountsFirst arrows (last + 1) k labels) is before in
    let all : CountsFirst arrows (last + 1) (last + 1) (labels ++ n ∷ []) = first_more arrows (last + 1) last labels n first here in
    subst (λ (l : List ℕ). CountsEach arrows (last + 1) l) (sym made_is) (record { each = all.each })
