-- The walk, turn by turn.
use Rattle.std.proofs.Common.{◌≡◌, ◌∙◌, ◌+◌, ◌<◌, ◌≤◌, ℕ, zero, suc, List, [], ◌∷◌, ◌++◌, map, take, length, Bool, cond, Option, Some, refl, sym, ap, subst, arith}
use Rattle.std.specs.Prelude.{slice_get, Result, Ok, Err, IfOk, OnOk}
use Rattle.std.proofs.lemmas.Result.{IfOk-weaker}
use Rattle.std.proofs.lemmas.Bool.{eq-eqb, ne_eqb}
use Rattle.wy_term.specs.Term.{Term}
use Rattle.wy_term.specs.Condition.{Entry, Condition}
use Rattle.wy_term.specs.Nodes.{tree_at}
use Rattle.wy_search_facts.specs.wy_check_spec.judge.Node.{Literal, Node}
use Rattle.wy_check_nodes.specs.Seen.{seen_branch, seen_literal, AreOver}
use Rattle.wy_search_facts.specs.wy_search_spec.Expansion as expansion
use Rattle.wy_search_facts.specs.wy_search_spec.Tree as tree
use Rattle.wy_search_facts.specs.declared.spot.Spot.{Spot}
use Rattle.wy_search_facts.specs.Seen.{seen_spot}
use Rattle.wy_search.specs.declared.verdict.Why.{Why}
use Rattle.wy_search.specs.declared.verdict.Verdict.TheVariants as verdict
use Rattle.wy_search.specs.declared.verdict.OpenLeaf.{OpenLeaf}
use Rattle.wy_search.specs.declared.turning.Next.{Next}
use Rattle.wy_search.specs.declared.turning.Next.TheVariants as next
use Rattle.wy_search.specs.Seen.{seen_why, seen_verdict}
use Rattle.wy_search.specs.declared.walk.Turned.{Turned}
use Rattle.wy_search.specs.declared.walk.Turned.TheVariants as turned
use Rattle.wy_search.specs.Turns.{Follows}
use Rattle.wy_search.specs.Walks.{Comes, Leads, Reaches}

abbrev Go : Type 0
Go = ℕ → List expansion.Spot → Option tree.Verdict

-- ---- behind a node

pub closed_leads : (at : ℕ → Term) (x : Next) (p : expansion.Spot) (n : tree.Next) (k m : ℕ) (ps : List expansion.Spot) → x ≡ next.Closed → m ≡ k + 1 → Follows at p n x → (go : Go) → tree.follows n k p ps go ≡ go m ps
closed_leads at x p n k m ps is count h = λ go.
    let e : suc k ≡ m = omega (arith, count) in
    let closed : n ≡ tree.closed = subst (Follows at p n) is h in
    ap (λ (y : tree.Next). tree.follows y k p ps go) closed ∙ ap (λ (j : ℕ). go j ps) e

pub open_leads : (at : ℕ → Term) (x : Next) (p : expansion.Spot) (n : tree.Next) (k : ℕ) (ps : List expansion.Spot) (q : Spot) (why : Why) (o : OpenLeaf) → x ≡ next.Open q why → o.leaf ≡ k + 1 → o.why ≡ why → map (seen_literal (tree_at o.terms)) o.literals.items ≡ (seen_branch at q.branch).literals → Follows at p n x → (go : Go) → tree.follows n k p ps go ≡ Some (seen_verdict (verdict.Open o))
open_leads at x p n k ps q why o is leaf so literals h = λ go.
    let f : (n ≡ tree.stays_open (seen_why why)) × (seen_branch at q.branch ≡ p.node) = subst (Follows at p n) is h in
    let e : suc k ≡ o.leaf = omega (arith, leaf) in
    let same : p.node.literals ≡ map (seen_literal (tree_at o.terms)) o.literals.items = sym (literals ∙ ap (λ (b : Node). b.literals) f.1) in
    ap (λ (y : tree.Next). tree.follows y k p ps go) f.0
    ∙ (ap (λ (j : ℕ). Some (tree.open_leaf j (seen_why why) p.node.literals)) e
    ∙ (ap (λ (w : Why). Some (tree.open_leaf o.leaf (seen_why w) p.node.literals)) (sym so)
    ∙ ap (λ (ls : List Literal). Some (tree.open_leaf o.leaf (seen_why o.why) ls)) same))

pub splits_leads : (at : ℕ → Term) (x : Next) (p : expansion.Spot) (n : tree.Next) (k : ℕ) (l r : Spot) (old one two : List Spot) → x ≡ next.Splits l r → one ≡ r ∷ old → two ≡ l ∷ one → Follows at p n x → (go : Go) → tree.follows n k p (map (seen_spot at) old) go ≡ go k (map (seen_spot at) two)
splits_leads at x p n k l r old one two is first second h = λ go.
    let splits : n ≡ tree.splits (seen_spot at l) (seen_spot at r) = subst (Follows at p n) is h in
    let all : l ∷ r ∷ old ≡ two = sym (second ∙ ap (λ (ys : List Spot). l ∷ ys) first) in
    ap (λ (y : tree.Next). tree.follows y k p (map (seen_spot at) old) go) splits ∙ ap (λ (ys : List Spot). go k (map (seen_spot at) ys)) all

pub goes_on_leads : (at : ℕ → Term) (x : Next) (p : expansion.Spot) (n : tree.Next) (k : ℕ) (q : Spot) (old new : List Spot) → x ≡ next.GoesOn q → new ≡ q ∷ old → Follows at p n x → (go : Go) → tree.follows n k p (map (seen_spot at) old) go ≡ go k (map (seen_spot at) new)
goes_on_leads at x p n k q old new is first h = λ go.
    let on : n ≡ tree.goes_on (seen_spot at q) = subst (Follows at p n) is h in
    ap (λ (y : tree.Next). tree.follows y k p (map (seen_spot at) old) go) on ∙ ap (λ (ys : List Spot). go k (map (seen_spot at) ys)) (sym first)

-- ---- a turn

pub turn_found : (types : List Entry) (budget n : ℕ) (at : ℕ → Term) (ps : List Spot) → ps ≡ [] → (go : Go) → tree.one_turn types budget n (map (seen_spot at) ps) go ≡ Some (tree.found n)
turn_found types budget n at ps is = λ go. ap (λ (qs : List Spot). tree.one_turn types budget n (map (seen_spot at) qs) go) is

pub turn_spent : (types : List Entry) (budget n : ℕ) (p : expansion.Spot) (rest : List expansion.Spot) → n ≡ budget → (go : Go) → tree.one_turn types budget n (p ∷ rest) go ≡ Some tree.spent
turn_spent types budget n p rest all = λ go. ap (λ (b : Bool). cond b (Some tree.spent) (tree.follows (tree.next types p) n p rest go)) (eq-eqb n budget all)

pub turn_follows : (types : List Entry) (budget n : ℕ) (p : expansion.Spot) (rest now : List expansion.Spot) → (n ≡ budget → ⊥) → now ≡ rest → (go : Go) → tree.one_turn types budget n (p ∷ rest) go ≡ tree.follows (tree.next types p) n p now go
turn_follows types budget n p rest now apart same = λ go.
    ap (λ (b : Bool). cond b (Some tree.spent) (tree.follows (tree.next types p) n p rest go)) (ne_eqb n budget apart)
    ∙ ap (λ (qs : List expansion.Spot). tree.follows (tree.next types p) n p qs go) (sym same)

-- ---- the whole walk

pub reach_first : (c : Condition) (budget n : ℕ) (ps : List expansion.Spot) → n ≡ 0 → ps ≡ tree.first_spot c ∷ [] → Reaches c budget n ps
reach_first c budget n ps none is = record {
  verdict = λ turns v h. (turns, sym (ap (λ (k : ℕ). tree.searched c.types budget turns k ps) none ∙ ap (tree.searched c.types budget turns 0) is) ∙ h);
}

pub reach_on : (c : Condition) (budget n m : ℕ) (ps qs : List expansion.Spot) → ((go : Go) → tree.one_turn c.types budget n ps go ≡ go m qs) → Reaches c budget n ps → Reaches c budget m qs
reach_on c budget n m ps qs so was = record {
  verdict = λ turns v h. was.verdict (suc turns) v (so (λ k rs. tree.searched c.types budget turns k rs) ∙ h);
}

pub reach_end : (c : Condition) (budget n : ℕ) (ps : List expansion.Spot) (v : tree.Verdict) → ((go : Go) → tree.one_turn c.types budget n ps go ≡ Some v) → Reaches c budget n ps → tree.IsVerdict c budget v
reach_end c budget n ps v so was = was.verdict (suc zero) v (so (λ k rs. tree.searched c.types budget zero k rs))

-- behind a turn
pub comes_by : (c : Condition) (budget n : ℕ) (ps : List expansion.Spot) (at : ℕ → Term) (t : Turned) → Reaches c budget n ps → Leads (tree.one_turn c.types budget n ps) at t → Comes c budget at t
comes_by c budget n ps at (turned.Ends v) was so = reach_end c budget n ps (seen_verdict v) so was
comes_by c budget n ps at (turned.GoesOn w) was so = reach_on c budget n w.leaves ps (map (seen_spot at) w.spots.items) so was

-- ---- literals, one after the other

pub take_mapped : (f : ℕ × Bool → Literal) (ks : List (ℕ × Bool)) (i : ℕ) (k : ℕ × Bool) → slice_get ks i ≡ Some k → take (i + 1) (map f ks) ≡ take i (map f ks) ++ f k ∷ []
take_mapped f ks i k e = let next : i + 1 ≡ suc i = omega arith in ap (λ (j : ℕ). take j (map f ks)) next ∙ by ks i e
  where
    some_is : (x y : ℕ × Bool) → Some x ≡ Some y → x ≡ y
    some_is x y h = cc

    by : (ks : List (ℕ × Bool)) (i : ℕ) → slice_get ks i ≡ Some k → take (suc i) (map f ks) ≡ take i (map f ks) ++ f k ∷ []
    by [] i e = absurd cc
    by (x ∷ xs) zero e = ap (λ (y : ℕ × Bool). f y ∷ []) (some_is x k e)
    by (x ∷ xs) (suc i) e = ap (λ (ys : List Literal). f x ∷ ys) (by xs i e)

-- so far, and one more
pub copied_more : (f : ℕ × Bool → Literal) (ks : List (ℕ × Bool)) (i : ℕ) (k : ℕ × Bool) (old new : List Literal) → slice_get ks i ≡ Some k → new ≡ old ++ f k ∷ [] → old ≡ take i (map f ks) → new ≡ take (i + 1) (map f ks)
copied_more f ks i k old new e is so = is ∙ (ap (λ (ls : List Literal). ls ++ f k ∷ []) so ∙ sym (take_mapped f ks i k e))

take_past : (ls : List Literal) (i : ℕ) → length ls ≤ i → take i ls ≡ ls
take_past [] zero le = refl
take_past [] (suc i) le = refl
take_past (l ∷ ls) zero le = absurd (omega (arith, le))
take_past (l ∷ ls) (suc i) le = ap (λ (ys : List Literal). l ∷ ys) (take_past ls i (omega (arith, le)))

length_mapped : (f : ℕ × Bool → Literal) (ks : List (ℕ × Bool)) → length (map f ks) ≡ length ks
length_mapped f [] = refl
length_mapped f (k ∷ ks) = ap suc (length_mapped f ks)

pub copied_all : (f : ℕ × Bool → Literal) (ks : List (ℕ × Bool)) (i : ℕ) (old : List Literal) → length ks ≤ i → old ≡ take i (map f ks) → old ≡ map f ks
copied_all f ks i old le so = so ∙ take_past (map f ks) i (omega (arith, le, length_mapped f ks))

-- ---- copies of literals

pub pushed_copy : (older newer : ℕ → Term) (n : ℕ) (ks new : List (ℕ × Bool)) (k : ℕ) (holds : Bool) (t : Term) → ((j : ℕ) → j < n → newer j ≡ older j) → AreOver n ks → new ≡ ks ++ (k, holds) ∷ [] → newer k ≡ t → map (seen_literal newer) new ≡ map (seen_literal older) ks ++ record { atom = t; holds = holds } ∷ []
pushed_copy older newer n ks new k holds t kept over is copy = ap (map (seen_literal newer)) is ∙ by ks over
  where
    by : (ks : List (ℕ × Bool)) → AreOver n ks → map (seen_literal newer) (ks ++ (k, holds) ∷ []) ≡ map (seen_literal older) ks ++ record { atom = t; holds = holds } ∷ []
    by [] over = ap (λ (x : Term). record { atom = x; holds = holds } ∷ []) copy
    by (p ∷ ps) over =
        let first : seen_literal newer p ≡ seen_literal older p = ap (λ (x : Term). record { atom = x; holds = p.1 }) (kept p.0 over.0) in
        ap (λ (l : Literal). l ∷ map (seen_literal newer) (ps ++ (k, holds) ∷ [])) first
        ∙ ap (λ (ls : List Literal). seen_literal older p ∷ ls) (by ps over.1)

pub pushed_over : (m n : ℕ) (ks new : List (ℕ × Bool)) (k : ℕ) (holds : Bool) → m ≤ n → k < n → AreOver m ks → new ≡ ks ++ (k, holds) ∷ [] → AreOver n new
pushed_over m n ks new k holds le lt over is = subst (AreOver n) (sym is) (by ks over)
  where
    by : (ks : List (ℕ × Bool)) → AreOver m ks → AreOver n (ks ++ (k, holds) ∷ [])
    by [] over = (lt, tt)
    by (p ∷ ps) over = (omega (arith, over.0, le), by ps over.1)

-- ---- turns

-- the same turn, said in two ways
pub leads_by : {E : Type 0} (r : Result Turned E) (at : ℕ → Term) (s t : Go → Option tree.Verdict) → ((go : Go) → t go ≡ s go) → IfOk r (Leads s at) → IfOk r (Leads t at)
leads_by r at s t same h = IfOk-weaker r (Leads s at) (Leads t at) (λ x so. by x so) h
  where
    by : (x : Turned) → Leads s at x → Leads t at x
    by (turned.Ends v) so = λ go. same go ∙ so go
    by (turned.GoesOn w) so = λ go. same go ∙ so go

pub turn_all : {E : Type 0} (r : Result Turned E) (types : List Entry) (budget n : ℕ) (older at : ℕ → Term) (p : Spot) (ps rest : List Spot) → ps ≡ p ∷ rest → IfOk r (Leads (tree.one_turn types budget n (seen_spot older p ∷ map (seen_spot older) rest)) at) → IfOk r (Leads (tree.one_turn types budget n (map (seen_spot older) ps)) at)
turn_all r types budget n older at p ps rest is h = subst (λ (qs : List Spot). IfOk r (Leads (tree.one_turn types budget n (map (seen_spot older) qs)) at)) (sym is) h

-- ---- answers

pub on_ok_both : {A E : Type 0} {P Q R : Type 0} (r : Result A E) → (P → Q → R) → OnOk r P → OnOk r Q → OnOk r R
on_ok_both (Ok x) f p q = f p q
on_ok_both (Err e) f p q = tt
