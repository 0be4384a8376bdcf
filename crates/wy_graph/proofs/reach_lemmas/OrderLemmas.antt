-- By falling labels each name stands behind those that it leads to.
use Rattle.std.proofs.Common.{◌≡◌, ◌≢◌, ◌-◌, ◌<◌, ◌≤◌, inl, inr, ℕ, true, false, ◌==◌, List, length, get_or, Result, Ok, Err, IfOk, Vec, sym, ap, ◌∙◌, arith}
use Rattle.std.specs.List.{Contains}
use Rattle.std.proofs.lemmas.Bool.{cases_lt, eq-eqb, both_ways}
use Rattle.std.proofs.lemmas.List.{get_or_default}
use Rattle.wy_graph.specs.closure.Closure.{has}
use Rattle.wy_graph.specs.cycles.Cycles.{label, TellCycles, Rise}
use Rattle.wy_graph.specs.declared.reach.entries.Entry.{Entry}
use Rattle.wy_graph.specs.reach.Reach.{names_at, is_recursive}
use Rattle.wy_graph.specs.reach.Walks.{arrow, arrows_of, StandsBefore, IsOrdered}
use Rattle.wy_graph.proofs.reach_lemmas.ArrowLemmas.{some_of, mentioned_arrow}
use Rattle.wy_graph.proofs.reach_lemmas.LoopLemmas.{looped_is}

-- what a list has, it has before its end
pub stands_in : (order : List ℕ) (count n : ℕ) → length order ≡ count → Contains order n → StandsBefore order count n
stands_in order count n size c =
    let l : c.0 < length order = c.1 in
    (c.0, omega (arith, l, size), get_or_default order c.0 0 n c.1 ∙ c.2)

-- each number below the count stands in the numbers below it
pub numbers_have : (numbers : List ℕ) (count n : ℕ) → length numbers ≡ count → ((m : ℕ) → m < count → get_or numbers m 0 ≡ m) → n < count → Contains numbers n
numbers_have numbers count n size each lt =
    let l : n < length numbers = omega (arith, lt, size) in
    (n, l, get_or_default numbers n n 0 l ∙ each n lt)

-- a name has a lesser label than one in it, if it doesn't lead back to itself
lesser : (es : List Entry) (labels : List ℕ) → TellCycles (arrows_of 0 es) labels → Rise (arrows_of 0 es) labels → (n m : ℕ) → is_recursive es n ≡ false → has (names_at es n) m ≡ true → label labels n < label labels m
lesser es labels cycles rise n m plain h =
    let a = mentioned_arrow es n m h in
    let up : label labels n ≤ label labels m = rise.rises a.0 (arrow n m) a.1 in
    let other : label labels n ≢ label labels m = (λ e. both_ways (is_recursive es n) plain (sym (looped_is es labels cycles n) ∙ some_of (λ k. label labels n == label labels k) (names_at es n) m h (eq-eqb (label labels n) (label labels m) e))) in
    omega (arith, up, other)

pub ordered : (es : List Entry) (labels order : List ℕ) → TellCycles (arrows_of 0 es) labels → Rise (arrows_of 0 es) labels → length order ≡ length es
    → ((n : ℕ) → n < length es → StandsBefore order (length es) n)
    → ((i j : ℕ) → i ≤ j → j < length order → label labels (get_or order j 0) ≤ label labels (get_or order i 0)) → IsOrdered es order
ordered es labels order cycles rise size each falls = record {
  count = size;
  each = λ n lt. let s = each n lt in (s.0, (let l : s.0 < length es = s.1 in omega (arith, l, size)), s.2);
  behind = behind;
}
  where
    behind : (i m : ℕ) → i < length order → is_recursive es (get_or order i 0) ≡ false → has (names_at es (get_or order i 0)) m ≡ true → m < length es → is_recursive es m ≡ false → StandsBefore order i m
    behind i m lt plain h within also = by (each m within)
      where
        less : label labels (get_or order i 0) < label labels m
        less = lesser es labels cycles rise (get_or order i 0) m plain h

        by : StandsBefore order (length es) m → StandsBefore order i m
        by s = elim (cases_lt s.0 i) as (λ _. StandsBefore order i m) [
          | inl before ↦ (s.0, before, s.2)
          | inr after ↦ absurd (
              let l : s.0 < length es = s.1 in
              let in_order : s.0 < length order = omega (arith, l, size) in
              let fall : label labels (get_or order s.0 0) ≤ label labels (get_or order i 0) = falls i s.0 after in_order in
              let is : label labels (get_or order s.0 0) ≡ label labels m = ap (label labels) s.2 in
              omega (arith, fall, is, less))
        ]

-- where a list rises by its labels, the reversed one falls
pub falls_when_reversed : (labels xs ys : List ℕ) (n : ℕ) → n ≡ length xs → length ys ≡ length xs → ((k d : ℕ) → k < n → get_or ys k d ≡ get_or xs (n - 1 - k) d)
    → ((i j d : ℕ) → i ≤ j → j < length xs → label labels (get_or xs i d) ≤ label labels (get_or xs j d))
    → (i j : ℕ) → i ≤ j → j < length ys → label labels (get_or ys j 0) ≤ label labels (get_or ys i 0)
falls_when_reversed labels xs ys n size same reversed rises i j le lt =
    let first : i < n = omega (arith, le, lt, size, same) in
    let second : j < n = omega (arith, lt, size, same) in
    let e : label labels (get_or ys j 0) ≡ label labels (get_or xs (n - 1 - j) 0) = ap (label labels) (reversed j 0 second) in
    let f : label labels (get_or ys i 0) ≡ label labels (get_or xs (n - 1 - i) 0) = ap (label labels) (reversed i 0 first) in
    let r : label labels (get_or xs (n - 1 - j) 0) ≤ label labels (get_or xs (n - 1 - i) 0) = rises (n - 1 - j) (n - 1 - i) 0 (omega (arith, le, second)) (omega (arith, first, size)) in
    omega (arith, e, f, r)

pub ordered_if : {E Z : Type 0} (es : List Entry) (labels : List ℕ) (result : Result (Vec ℕ Z) E) → TellCycles (arrows_of 0 es) labels → Rise (arrows_of 0 es) labels → IfOk result (λ order. length order.items ≡ length es)
    → IfOk result (λ order. (n : ℕ) → n < length es → StandsBefore order.items (length es) n)
    → IfOk result (λ order. (i j : ℕ) → i ≤ j → j < length order.items → label labels (get_or order.items j 0) ≤ label labels (get_or order.items i 0)) → IfOk result (λ order. IsOrdered es order.items)
ordered_if es labels (Err e) cycles rise size each falls = tt
ordered_if es labels (Ok order) cycles rise size each falls = ordered es labels order.items cycles rise size each falls
