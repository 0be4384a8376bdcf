-- Sizes in an order are those of names written out.
use Rattle.std.proofs.Common.{◌≡◌, ◌+◌, ◌<◌, ◌≤◌, ◌⊎◌, inl, inr, ℕ, zero, suc, Bool, true, false, not, ◌&&◌, List, [], ◌∷◌, length, get_or, Some, refl, sym, ap, subst, ◌∙◌, arith}
use Rattle.std.specs.Prelude.{nat_lt, nat_le, slice_get, slice_set}
use Rattle.std.proofs.Math.Dec.{eqb}
use Rattle.std.proofs.lemmas.Bool.{cases_lt, cases_eq, cases_Bool, lt-ltb, le-ltb, or_left, or_right, eq-eqb, cond-true, cond-false}
use Rattle.std.proofs.lemmas.List.{get_or-set_same, get_or-set_other, set_past, length-set}
use Rattle.wy_graph.specs.closure.Closure.{has}
use Rattle.wy_graph.specs.declared.reach.entries.Entry.{Entry}
use Rattle.wy_graph.specs.reach.Reach.{entry_at, names_at, no_entry, sum_of, nodes_of, is_recursive, written_nodes, is_written}
use Rattle.wy_graph.specs.reach.Walks.{capped, size_at, with_size, mark_at, MarkRecursive, IsOrdered, StandsBefore, AreSizes}
use Rattle.wy_graph.proofs.reach_lemmas.LoopLemmas.{past_plain}

-- ---- numbers up to 65

record Capped (n c : ℕ) : Type 0 where
  small : n < 65 → c ≡ n
  large : 65 ≤ n → c ≡ 65

capped_so : (n : ℕ) → Capped n (capped n)
capped_so n = record {
  small = λ lt. cond-true (nat_lt n 65) n 65 (lt-ltb n 65 lt);
  large = λ le. cond-false (nat_lt n 65) n 65 (le-ltb n 65 le);
}

-- a sum goes by the numbers up to 65 alone
pub capped_sum : (a b x y : ℕ) → capped a ≡ capped b → capped x ≡ capped y → capped (a + x) ≡ capped (b + y)
capped_sum a b x y e f =
    let p = capped_so a in let q = capped_so b in let r = capped_so x in let s = capped_so y in let t = capped_so (a + x) in let u = capped_so (b + y) in
    elim (cases_lt a 65) as (λ _. capped (a + x) ≡ capped (b + y)) [
      | inl sa ↦ elim (cases_lt b 65) as (λ _. capped (a + x) ≡ capped (b + y)) [
        | inl sb ↦ elim (cases_lt x 65) as (λ _. capped (a + x) ≡ capped (b + y)) [
          | inl sx ↦ elim (cases_lt y 65) as (λ _. capped (a + x) ≡ capped (b + y)) [
            | inl sy ↦ let g = p.small sa in let h = q.small sb in let i = r.small sx in let j = s.small sy in let k : a + x ≡ b + y = omega (arith, e, f, g, h, i, j) in ap capped k
            | inr ly ↦ absurd (let i = r.small sx in let j = s.large ly in omega (arith, f, i, j, sx))
          ]
          | inr lx ↦ elim (cases_lt y 65) as (λ _. capped (a + x) ≡ capped (b + y)) [
            | inl sy ↦ absurd (let i = r.large lx in let j = s.small sy in omega (arith, f, i, j, sy))
            | inr ly ↦ t.large (omega (arith, lx)) ∙ sym (u.large (omega (arith, ly)))
          ]
        ]
        | inr lb ↦ absurd (let g = p.small sa in let h = q.large lb in omega (arith, e, g, h, sa))
      ]
      | inr la ↦ elim (cases_lt b 65) as (λ _. capped (a + x) ≡ capped (b + y)) [
        | inl sb ↦ absurd (let g = p.large la in let h = q.small sb in omega (arith, e, g, h, sb))
        | inr lb ↦ t.large (omega (arith, la)) ∙ sym (u.large (omega (arith, lb)))
      ]
    ]

pub capped_twice : (n : ℕ) → capped (capped n) ≡ capped n
capped_twice n = elim (cases_lt n 65) as (λ _. capped (capped n) ≡ capped n) [
  | inl lt ↦ ap capped ((capped_so n).small lt)
  | inr le ↦ ap capped ((capped_so n).large le) ∙ sym ((capped_so n).large le)
]

-- ---- sums over names

-- where each name counts the same, so do all
sum_same : (f g : ℕ → ℕ) (ns : List ℕ) → ((m : ℕ) → has ns m ≡ true → f m ≡ g m) → sum_of f ns ≡ sum_of g ns
sum_same f g [] same = refl
sum_same f g (n ∷ ns) same =
    let h : f n ≡ g n = same n (or_left (eqb n n) (has ns n) (eq-eqb n n refl)) in
    let t : sum_of f ns ≡ sum_of g ns = sum_same f g ns (λ m k. same m (or_right (eqb n m) (has ns m) k)) in
    omega (arith, h, t)

-- the same up to 65
sum_capped : (f g : ℕ → ℕ) (ns : List ℕ) → ((m : ℕ) → has ns m ≡ true → f m ≡ capped (g m)) → capped (sum_of f ns) ≡ capped (sum_of g ns)
sum_capped f g [] same = refl
sum_capped f g (n ∷ ns) same =
    capped_sum (f n) (g n) (sum_of f ns) (sum_of g ns) (ap capped (same n (or_left (eqb n n) (has ns n) (eq-eqb n n refl))) ∙ capped_twice (g n))
    (sum_capped f g ns (λ m k. same m (or_right (eqb n m) (has ns m) k)))

nodes_same : (f g : ℕ → ℕ) (e : Entry) → ((m : ℕ) → has e.names m ≡ true → f m ≡ g m) → nodes_of f e ≡ nodes_of g e
nodes_same f g e same = ap (λ (x : ℕ). e.own + x) (sum_same f g e.names same)

nodes_capped : (f g : ℕ → ℕ) (e : Entry) → ((m : ℕ) → has e.names m ≡ true → f m ≡ capped (g m)) → capped (nodes_of f e) ≡ capped (nodes_of g e)
nodes_capped f g e same = capped_sum e.own e.own (sum_of f e.names) (sum_of g e.names) refl (sum_capped f g e.names same)

-- ---- names written out

at_recursive : (es : List Entry) (j n : ℕ) → is_recursive es n ≡ true → written_nodes es j n ≡ 1
at_recursive es zero n h = refl
at_recursive es (suc j) n h = cond-true (is_recursive es n) 1 (nodes_of (written_nodes es j) (entry_at es n)) h

at_plain : (es : List Entry) (j n : ℕ) → is_recursive es n ≡ false → written_nodes es (suc j) n ≡ nodes_of (written_nodes es j) (entry_at es n)
at_plain es j n h = cond-false (is_recursive es n) 1 (nodes_of (written_nodes es j) (entry_at es n)) h

no_entry_past : (es : List Entry) (n : ℕ) → length es ≤ n → entry_at es n ≡ no_entry
no_entry_past [] n le = refl
no_entry_past (e ∷ es) zero le = absurd (omega (arith, le))
no_entry_past (e ∷ es) (suc n) le = no_entry_past es n (omega (arith, le))

at_past : (es : List Entry) (j n : ℕ) → length es ≤ n → written_nodes es j n ≡ 1
at_past es zero n le = refl
at_past es (suc j) n le = at_plain es j n (past_plain es n le) ∙ (ap (nodes_of (written_nodes es j)) (no_entry_past es n le) ∙ (omega arith))

-- ---- what is settled

-- the name leads back to itself, or is none, or stands before this place of the order
abbrev pub IsPassed : List Entry → List ℕ → ℕ → ℕ → Type 0
IsPassed es order k n = (is_recursive es n ≡ true) ⊎ ((length es ≤ n) ⊎ StandsBefore order k n)

-- what a name at this place mentions is passed
passed_in : (es : List Entry) (order : List ℕ) → IsOrdered es order → (k n : ℕ) → k < length order → get_or order k 0 ≡ n → is_recursive es n ≡ false → (m : ℕ) → has (names_at es n) m ≡ true → IsPassed es order k m
passed_in es order o k n lt is plain m h = elim (cases_Bool (is_recursive es m)) as (λ _. IsPassed es order k m) [
  | inl loops ↦ inl loops
  | inr also ↦ elim (cases_lt m (length es)) as (λ _. IsPassed es order k m) [
    | inl within ↦ inr (inr (o.behind k m lt (subst (λ (x : ℕ). is_recursive es x ≡ false) (sym is) plain) (subst (λ (x : ℕ). has (names_at es x) m ≡ true) (sym is) h) within also))
    | inr past ↦ inr (inl past)
  ]
]

-- one step of the place
pub passed_step : (es : List Entry) (order : List ℕ) (k n : ℕ) → IsPassed es order (suc k) n → IsPassed es order k n ⊎ (get_or order k 0 ≡ n)
passed_step es order k n (inl loops) = inl (inl loops)
passed_step es order k n (inr (inl past)) = inl (inr (inl past))
passed_step es order k n (inr (inr s)) = elim (cases_lt s.0 k) as (λ _. IsPassed es order k n ⊎ (get_or order k 0 ≡ n)) [
  | inl less ↦ inl (inr (inr (s.0, less, s.2)))
  | inr over ↦ let l : s.0 < suc k = s.1 in let e : s.0 ≡ k = omega (arith, l, over) in inr (subst (λ (x : ℕ). get_or order x 0 ≡ n) e s.2)
]

-- what is settled before a place, one step on, where the place has this name
settle_here : (es : List Entry) (order : List ℕ) → IsOrdered es order → (k n j : ℕ) → k < length order → get_or order k 0 ≡ n → k ≤ j
    → ((m : ℕ) → IsPassed es order k m → written_nodes es (suc j) m ≡ written_nodes es j m)
    → (is_recursive es n ≡ true) ⊎ (is_recursive es n ≡ false) → written_nodes es (suc (suc j)) n ≡ written_nodes es (suc j) n
settle_here es order o k n j lt here over before (inl loops) = at_recursive es (suc (suc j)) n loops ∙ sym (at_recursive es (suc j) n loops)
settle_here es order o k n j lt here over before (inr plain) =
    at_plain es (suc j) n plain
    ∙ (nodes_same (written_nodes es (suc j)) (written_nodes es j) (entry_at es n) (λ m h. before m (passed_in es order o k n lt here plain m h)) ∙ sym (at_plain es j n plain))

settle_by : (es : List Entry) (order : List ℕ) → IsOrdered es order → (k n j : ℕ) → k < length order → k ≤ j
    → ((m : ℕ) → IsPassed es order k m → (i : ℕ) → k ≤ i → written_nodes es (suc i) m ≡ written_nodes es i m)
    → IsPassed es order k n ⊎ (get_or order k 0 ≡ n) → written_nodes es (suc (suc j)) n ≡ written_nodes es (suc j) n
settle_by es order o k n j lt over before (inl passed) = before n passed (suc j) (omega (arith, over))
settle_by es order o k n j lt over before (inr here) = settle_here es order o k n j lt here over (λ m p. before m p j over) (cases_Bool (is_recursive es n))

-- behind so many steps as there are names before the place, what is passed has its size
pub settles : (es : List Entry) (order : List ℕ) → IsOrdered es order → (k : ℕ) → k ≤ length order → (n : ℕ) → IsPassed es order k n → (j : ℕ) → k ≤ j → written_nodes es (suc j) n ≡ written_nodes es j n
settles es order o k le n (inl loops) j over = at_recursive es (suc j) n loops ∙ sym (at_recursive es j n loops)
settles es order o k le n (inr (inl past)) j over = at_past es (suc j) n past ∙ sym (at_past es j n past)
settles es order o zero le n (inr (inr s)) j over = absurd (let l : s.0 < 0 = s.1 in omega (arith, l))
settles es order o (suc k) le n (inr (inr s)) zero over = absurd (omega (arith, over))
settles es order o (suc k) le n (inr (inr s)) (suc j) over =
    settle_by es order o k n j (omega (arith, le)) (omega (arith, over)) (λ m p i above. settles es order o k (omega (arith, le)) m p i above) (passed_step es order k n (inr (inr s)))

-- ---- the loop over the order

-- the sizes of what is passed
pub record SizesSoFar (es : List Entry) (order : List ℕ) (k : ℕ) (sizes : List ℕ) : Type 0 where
  pub count : length sizes ≡ length es
  pub each : (n : ℕ) → IsPassed es order k n → size_at sizes n ≡ capped (written_nodes es k n)

-- a size that is put in
put_in : (sizes : List ℕ) (n m v : ℕ) → n < length sizes → m ≡ n → size_at (slice_set sizes n v) m ≡ v
put_in sizes n m v lt is = subst (λ (x : ℕ). size_at (slice_set sizes n v) x ≡ v) (sym is) (get_or-set_same sizes n v 1 lt)

with_plain : (es : List Entry) (loops : List Bool) (sizes : List ℕ) (n : ℕ) → mark_at loops n ≡ false → with_size es loops sizes n ≡ slice_set sizes n (capped (nodes_of (size_at sizes) (entry_at es n)))
with_plain es loops sizes n h = cond-false (mark_at loops n) sizes (slice_set sizes n (capped (nodes_of (size_at sizes) (entry_at es n)))) h

with_looped : (es : List Entry) (loops : List Bool) (sizes : List ℕ) (n : ℕ) → mark_at loops n ≡ true → with_size es loops sizes n ≡ sizes
with_looped es loops sizes n h = cond-true (mark_at loops n) sizes (slice_set sizes n (capped (nodes_of (size_at sizes) (entry_at es n)))) h

-- what was passed before has the size of one step more
kept_size : (es : List Entry) (order : List ℕ) → IsOrdered es order → (k : ℕ) (sizes : List ℕ) → k ≤ length order → SizesSoFar es order k sizes → (n : ℕ) → IsPassed es order k n → size_at sizes n ≡ capped (written_nodes es (suc k) n)
kept_size es order o k sizes le s n p = s.each n p ∙ ap capped (sym (settles es order o k le n p k (omega arith)))

pub size_put : (es : List Entry) (loops : List Bool) (order : List ℕ) → MarkRecursive loops es → IsOrdered es order → (k n : ℕ) (sizes : List ℕ) → k < length order → get_or order k 0 ≡ n → SizesSoFar es order k sizes → SizesSoFar es order (suc k) (with_size es loops sizes n)
size_put es loops order marks o k n sizes lt here s = by (cases_Bool (is_recursive es n)) (cases_lt n (length es))
  where
    before : (m : ℕ) → IsPassed es order k m → size_at sizes m ≡ capped (written_nodes es (suc k) m)
    before = kept_size es order o k sizes (omega (arith, lt)) s

    same : IsPassed es order k n → SizesSoFar es order (suc k) sizes
    same p = record {
      count = s.count;
      each = λ m q. elim (passed_step es order k m q) as (λ _. size_at sizes m ≡ capped (written_nodes es (suc k) m)) [
        | inl passed ↦ before m passed
        | inr is ↦ before m (subst (λ (x : ℕ). IsPassed es order k x) (sym here ∙ is) p)
      ];
    }

    right : is_recursive es n ≡ false → capped (nodes_of (size_at sizes) (entry_at es n)) ≡ capped (written_nodes es (suc k) n)
    right plain =
        nodes_capped (size_at sizes) (written_nodes es k) (entry_at es n) (λ m h. s.each m (passed_in es order o k n lt here plain m h))
        ∙ ap capped (sym (at_plain es k n plain))

    put : is_recursive es n ≡ false → n < length es → SizesSoFar es order (suc k) (slice_set sizes n (capped (nodes_of (size_at sizes) (entry_at es n))))
    put plain within = record {
      count = length-set sizes n (capped (nodes_of (size_at sizes) (entry_at es n))) ∙ s.count;
      each = each;
    }
      where
        inside : n < length sizes
        inside = let c = s.count in omega (arith, within, c)

        each : (m : ℕ) → IsPassed es order (suc k) m → size_at (slice_set sizes n (capped (nodes_of (size_at sizes) (entry_at es n)))) m ≡ capped (written_nodes es (suc k) m)
        each m q = at (cases_eq m n) (passed_step es order k m q)
          where
            at : (m ≡ n) ⊎ (m ≡ n → ⊥) → IsPassed es order k m ⊎ (get_or order k 0 ≡ m) → size_at (slice_set sizes n (capped (nodes_of (size_at sizes) (entry_at es n)))) m ≡ capped (written_nodes es (suc k) m)
            at (inl is) c = put_in sizes n m (capped (nodes_of (size_at sizes) (entry_at es n))) inside is ∙ (right plain ∙ ap (λ (x : ℕ). capped (written_nodes es (suc k) x)) (sym is))
            at (inr other) (inl passed) = get_or-set_other sizes n m (capped (nodes_of (size_at sizes) (entry_at es n))) 1 other ∙ before m passed
            at (inr other) (inr is) = absurd (other (sym is ∙ here))

    by : (is_recursive es n ≡ true) ⊎ (is_recursive es n ≡ false) → (n < length es) ⊎ (length es ≤ n) → SizesSoFar es order (suc k) (with_size es loops sizes n)
    by (inl loop) c = subst (λ (l : List ℕ). SizesSoFar es order (suc k) l) (sym (with_looped es loops sizes n (marks n ∙ loop))) (same (inl loop))
    by (inr plain) (inl within) = subst (λ (l : List ℕ). SizesSoFar es order (suc k) l) (sym (with_plain es loops sizes n (marks n ∙ plain))) (put plain within)
    by (inr plain) (inr past) =
        let c = s.count in
        let over : length sizes ≤ n = omega (arith, past, c) in
        subst (λ (l : List ℕ). SizesSoFar es order (suc k) l) (sym (with_plain es loops sizes n (marks n ∙ plain) ∙ set_past sizes n (capped (nodes_of (size_at sizes) (entry_at es n))) over)) (same (inr (inl past)))

-- behind the order, all have their sizes
pub sizes_end : (es : List Entry) (order : List ℕ) → IsOrdered es order → (k : ℕ) (sizes : List ℕ) → k ≡ length order → SizesSoFar es order k sizes → AreSizes sizes es
sizes_end es order o k sizes end s n =
    let all = passed n in
    let e : k ≡ length es = end ∙ o.count in
    s.each n all ∙ (ap capped (sym (settles es order o k (omega (arith, end)) n all k (omega arith))) ∙ ap (λ (x : ℕ). capped (written_nodes es (suc x) n)) e)
  where
    passed : (n : ℕ) → IsPassed es order k n
    passed n = elim (cases_lt n (length es)) as (λ _. IsPassed es order k n) [
      | inl within ↦ inr (inr (let b = o.each n within in (b.0, (let l : b.0 < length order = b.1 in omega (arith, l, end)), b.2)))
      | inr past ↦ inr (inl past)
    ]

-- ---- one more size

entry_got : (es : List Entry) (n : ℕ) (e : Entry) → Some e ≡ slice_get es n → entry_at es n ≡ e
entry_got [] n e is = absurd cc
entry_got (x ∷ es) zero e is = let same : x ≡ e = cc in same
entry_got (x ∷ es) (suc n) e is = entry_got es n e is

pub put_some : (es : List Entry) (loops : List Bool) (sizes : List ℕ) (n : ℕ) (e : Entry) (size : ℕ) {marked : Bool} {made : List ℕ} → marked ≡ mark_at loops n → marked ≡ false → Some e ≡ slice_get es n
    → size ≡ capped (e.own + sum_of (size_at sizes) e.names) → made ≡ slice_set sizes n size → made ≡ with_size es loops sizes n
put_some es loops sizes n e size marked_is plain got is made_is =
    made_is ∙ (ap (λ (x : ℕ). slice_set sizes n x) (is ∙ ap (λ (x : Entry). capped (nodes_of (size_at sizes) x)) (sym (entry_got es n e got))) ∙ sym (with_plain es loops sizes n (sym marked_is ∙ plain)))

-- what is none of the names is written out
pub written_past : (es : List Entry) (n : ℕ) → length es ≤ n → is_written es n ≡ true
written_past es n le =
    ap (λ (b : Bool). not b && nat_le (written_nodes es (suc (length es)) n) 64) (past_plain es n le)
    ∙ ap (λ (x : ℕ). nat_le x 64) (at_past es (suc (length es)) n le)
