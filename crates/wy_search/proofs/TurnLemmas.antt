-- What becomes of a node, step by step.
use Rattle.std.proofs.Common.{◌≡◌, ◌∙◌, ◌<◌, ◌≤◌, ◌||◌, ℕ, List, map, length, Bool, true, false, cond, Option, Some, None, sym, ap, subst}
use Rattle.std.specs.Prelude.{Result, IfOk, nat_lt}
use Rattle.std.proofs.lemmas.Bool.{lt-ltb, le-ltb}
use Rattle.std.proofs.lemmas.List.{length-map}
use Rattle.wy_term.specs.Term.{Term}
use Rattle.wy_term.specs.Condition.{Entry}
use Rattle.wy_search_facts.specs.wy_check_spec.judge.Node.{Node}
use Rattle.wy_check_nodes.specs.declared.branch.Branch.{Branch}
use Rattle.wy_check_nodes.specs.Seen.{seen_branch, seen_literal, seen_formula}
use Rattle.wy_search_facts.specs.wy_check_spec.valid.Literals.{is_shut}
use Rattle.wy_search_facts.specs.wy_search_spec.Bounds.{Ending, ending, ending_by, replaced_forms}
use Rattle.wy_search_facts.specs.wy_search_spec.Classes.{classes, classes_clash, clashes}
use Rattle.wy_search_facts.specs.wy_search_spec.Standing.{present}
use Rattle.wy_search_facts.specs.wy_search_spec.Expansion as expansion
use Rattle.wy_search_facts.specs.wy_search_spec.Tree as tree
use Rattle.wy_search.specs.declared.turning.Next.{Next}
use Rattle.wy_search_bounds.specs.declared.ending.Ending.{Ending as CodeEnding}
use Rattle.wy_search_bounds.specs.Seen.{seen_ending}
use Rattle.wy_search.specs.Turns.{Follows, IsEnding, IsUnlessRefuted, split_on, with_side}

-- ---- closed at once, or by how elimination ends

next_at : (types : List Entry) (p : expansion.Spot) (node : Node) → p.node ≡ node → tree.next types p ≡ cond (is_shut node || clashes node) tree.closed (tree.by_ending types p (ending node))
next_at types p node same = ap (λ (n : Node). cond (is_shut n || clashes n) tree.closed (tree.by_ending types p (ending n))) same

pub shut_closes : (node : Node) → is_shut node ≡ true → IsEnding node None
shut_closes node e = λ types p same. next_at types p node same ∙ ap (λ (b : Bool). cond (b || clashes node) tree.closed (tree.by_ending types p (ending node))) e

unshut_at : (types : List Entry) (p : expansion.Spot) (node : Node) → p.node ≡ node → is_shut node ≡ false → tree.next types p ≡ cond (clashes node) tree.closed (tree.by_ending types p (ending node))
unshut_at types p node same un = next_at types p node same ∙ ap (λ (b : Bool). cond (b || clashes node) tree.closed (tree.by_ending types p (ending node))) un

pub clash_closes : (node : Node) → is_shut node ≡ false → clashes node ≡ true → IsEnding node None
clash_closes node un e = λ types p same. unshut_at types p node same un ∙ ap (λ (b : Bool). cond b tree.closed (tree.by_ending types p (ending node))) e

apart_at : (types : List Entry) (p : expansion.Spot) (node : Node) → p.node ≡ node → is_shut node ≡ false → clashes node ≡ false → tree.next types p ≡ tree.by_ending types p (ending node)
apart_at types p node same un apart = unshut_at types p node same un ∙ ap (λ (b : Bool). cond b tree.closed (tree.by_ending types p (ending node))) apart

pub ends_by : (node : Node) (end : CodeEnding) (o : Option CodeEnding) → is_shut node ≡ false → clashes node ≡ false → seen_ending end ≡ ending node → IsUnlessRefuted end o → IsEnding node o
ends_by node end None un apart is so = λ types p same. apart_at types p node same un apart ∙ ap (tree.by_ending types p) (sym is ∙ so)
ends_by node end (Some e) un apart is so = λ types p same. apart_at types p node same un apart ∙ ap (tree.by_ending types p) (sym is ∙ sym so)

pub clashes_so : (node : Node) (ts : List Term) (ls : List ℕ) (found : Bool) → ts ≡ present node → ls ≡ classes ts node.literals → found ≡ classes_clash ts ls node.literals → found ≡ clashes node
clashes_so node ts ls found there labels is =
    is ∙ (ap (λ (ks : List ℕ). classes_clash ts ks node.literals) labels ∙ ap (λ (us : List Term). classes_clash us (classes us node.literals) node.literals) there)

pub ends_so : (node : Node) (ts : List Term) (ls : List ℕ) (e : Ending) → ts ≡ present node → ls ≡ classes ts node.literals → e ≡ ending_by (replaced_forms ts ls node.literals) → e ≡ ending node
ends_so node ts ls e there labels is =
    is ∙ (ap (λ (ks : List ℕ). ending_by (replaced_forms ts ks node.literals)) labels ∙ ap (λ (us : List Term). ending_by (replaced_forms us (classes us node.literals) node.literals)) there)

-- ---- the same of a node that stands for the same

pub follows_so : {E : Type 0} (at : ℕ → Term) (p q : expansion.Spot) (n m : tree.Next) (r : Result Next E) → p ≡ q → n ≡ m → IfOk r (Follows at p n) → IfOk r (Follows at q m)
follows_so at p q n m r same is h = subst (λ (x : tree.Next). IfOk r (Follows at q x)) is (subst (λ (x : expansion.Spot). IfOk r (Follows at x n)) same h)

pub moved_next : {E : Type 0} (at : ℕ → Term) (es fs : List Entry) (p q : expansion.Spot) (e : Ending) (r : Result Next E) → fs ≡ es → q ≡ p → tree.next es p ≡ tree.by_ending es p e → IfOk r (Follows at q (tree.by_ending fs q e)) → IfOk r (Follows at p (tree.next es p))
moved_next at es fs p q e r types same is h =
    follows_so at q p (tree.by_ending fs q e) (tree.next es p) r same
    (ap (λ (ts : List Entry). tree.by_ending ts q e) types ∙ (ap (λ (x : expansion.Spot). tree.by_ending es x e) same ∙ sym is)) h

-- ---- a split, or a round of expansion

pub atom_there : {E : Type 0} (at : ℕ → Term) (types : List Entry) (p q : expansion.Spot) (e : Ending) (a : Term) (o : Option Term) (r : Result Next E) → q ≡ p → Some a ≡ o → IfOk r (Follows at q (split_on q a)) → IfOk r (Follows at p (tree.on_atom types p e o))
atom_there at types p q e a o r same is h =
    follows_so at q p (split_on q a) (tree.on_atom types p e o) r same
    (ap (λ (x : expansion.Spot). tree.on_atom types x e (Some a)) same ∙ ap (tree.on_atom types p e) is) h

pub atom_lacking : {E : Type 0} (at : ℕ → Term) (types : List Entry) (p q : expansion.Spot) (e : Ending) (o : Option Term) (r : Result Next E) → q ≡ p → None ≡ o → IfOk r (Follows at q (tree.on_expansion types q e)) → IfOk r (Follows at p (tree.on_atom types p e o))
atom_lacking at types p q e o r same is h =
    follows_so at q p (tree.on_expansion types q e) (tree.on_atom types p e o) r same
    (ap (λ (x : expansion.Spot). tree.on_expansion types x e) same ∙ ap (tree.on_atom types p e) is) h

pub both_sides : (p left l r : expansion.Spot) (a : Term) → left ≡ p → l ≡ with_side left a true → r ≡ with_side p a false → split_on p a ≡ tree.splits l r
both_sides p left l r a same isl isr =
    sym (ap (λ (x : expansion.Spot). tree.splits x r) (isl ∙ ap (λ (q : expansion.Spot). with_side q a true) same) ∙ ap (tree.splits (with_side p a true)) isr)

-- ---- expansion

pub no_round : (types : List Entry) (p : expansion.Spot) (e : Ending) → 2 ≤ p.rounds → tree.on_expansion types p e ≡ tree.stays_open (tree.why_open e)
no_round types p e le = ap (λ (b : Bool). cond b (tree.unless_same p (expansion.expanded types p) e) (tree.stays_open (tree.why_open e))) (le-ltb p.rounds 2 le)

a_round : (types : List Entry) (p : expansion.Spot) (e : Ending) → p.rounds < 2 → tree.on_expansion types p e ≡ tree.unless_same p (expansion.expanded types p) e
a_round types p e lt = ap (λ (b : Bool). cond b (tree.unless_same p (expansion.expanded types p) e) (tree.stays_open (tree.why_open e))) (lt-ltb p.rounds 2 lt)

pub round_adds : (types : List Entry) (p q : expansion.Spot) (e : Ending) → p.rounds < 2 → q ≡ expansion.expanded types p → tree.is_more p.node q.node ≡ true → tree.on_expansion types p e ≡ tree.goes_on q
round_adds types p q e lt is more =
    a_round types p e lt
    ∙ (ap (λ (x : expansion.Spot). tree.unless_same p x e) (sym is)
    ∙ ap (λ (b : Bool). cond b (tree.goes_on q) (tree.stays_open (tree.why_open e))) more)

pub round_adds_nothing : (types : List Entry) (p q : expansion.Spot) (e : Ending) → p.rounds < 2 → q ≡ expansion.expanded types p → tree.is_more p.node q.node ≡ false → tree.on_expansion types p e ≡ tree.stays_open (tree.why_open e)
round_adds_nothing types p q e lt is more =
    a_round types p e lt
    ∙ (ap (λ (x : expansion.Spot). tree.unless_same p x e) (sym is)
    ∙ ap (λ (b : Bool). cond b (tree.goes_on q) (tree.stays_open (tree.why_open e))) more)

abbrev longer_by : ℕ → ℕ → ℕ → ℕ → Bool
longer_by a b c d = nat_lt a c || nat_lt b d

pub more_by_keys : (at older : ℕ → Term) (b c : Branch) → tree.is_more (seen_branch older b) (seen_branch at c) ≡ (nat_lt (length b.literals.keys) (length c.literals.keys) || nat_lt (length b.pending.keys) (length c.pending.keys))
more_by_keys at older b c =
    ap (λ (n : ℕ). longer_by n (length (map (seen_formula older) b.pending.keys)) (length (map (seen_literal at) c.literals.keys)) (length (map (seen_formula at) c.pending.keys))) (length-map b.literals.keys (seen_literal older))
    ∙ (ap (λ (n : ℕ). longer_by (length b.literals.keys) n (length (map (seen_literal at) c.literals.keys)) (length (map (seen_formula at) c.pending.keys))) (length-map b.pending.keys (seen_formula older))
    ∙ (ap (λ (n : ℕ). longer_by (length b.literals.keys) (length b.pending.keys) n (length (map (seen_formula at) c.pending.keys))) (length-map c.literals.keys (seen_literal at))
    ∙ ap (λ (n : ℕ). longer_by (length b.literals.keys) (length b.pending.keys) (length c.literals.keys) n) (length-map c.pending.keys (seen_formula at))))
