-- Elements that are read from arrays which are written out.
use Rattle.std.proofs.Common.{◌≡◌, ◌∙◌, ◌+◌, ℕ, zero, suc, List, [], ◌∷◌, length, pos, refl, sym, ap, arith}
use Rattle.wy_cong.specs.wy_check_spec.judge.Node.{Node}
use Rattle.wy_cong.specs.wy_search_spec.Expansion.{read_from, with_elements, with_some}
use Rattle.wy_search_facts.specs.Adding.{count, with_numbered, written}
use Rattle.wy_term.specs.Nodes.{parts_at}
use Rattle.wy_term.specs.Term.{Term, Of, Parts, no_parts, part, Number, array, get}
use Rattle.wy_cong.specs.wy_check_spec.valid.Membership.{fact_among}

pub count_parts : (at : ℕ → Term) (ks : List ℕ) → length ks ≡ count (parts_at at ks)
count_parts at [] = refl
count_parts at (k ∷ ks) = ap suc (count_parts at ks)

pub read_written : (v i : Term) → count (written v) ≡ count (read_from (Of get (part v (part i no_parts))))
read_written (Of array vs) i = refl
read_written v i = refl

go_on : (t : Term) (node : Node) (k : ℕ) (ps : Parts) → with_elements (with_numbered t node k) t k ps ≡ with_numbered t node (k + count ps)
go_on t node k no_parts = let e : k ≡ k + 0 = omega arith in ap (with_numbered t node) e
go_on t node k (part v vs) = let e : suc k + count vs ≡ k + suc (count vs) = omega arith in go_on t node (suc k) vs ∙ ap (with_numbered t node) e

pub elements_are : (t : Term) (node : Node) (ps : Parts) (many : ℕ) → many ≡ count ps → with_numbered t node many ≡ with_elements node t 0 ps
elements_are t node ps many e =
    let none : count ps ≡ 0 + count ps = omega arith in
    ap (with_numbered t node) (e ∙ none) ∙ sym (go_on t node 0 ps)
