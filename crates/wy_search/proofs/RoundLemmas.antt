-- A round of expansion, item by item.
use Rattle.std.proofs.Common.{◌≡◌, ◌∙◌, ℕ, suc, List, ap}
use Rattle.wy_term.specs.Term.{Term}
use Rattle.wy_term.specs.Condition.{Entry}
use Rattle.wy_search_facts.specs.wy_check_spec.judge.Node.{Literal, Node, with_formulas}
use Rattle.wy_search_facts.specs.wy_search_spec.Expansion.{Spot, with_witnesses, with_instances, with_facts, with_products, expanded}
use Rattle.wy_search.specs.Turns.{index_terms_in}
use Rattle.wy_search.proofs.SpotLemmas.{made_spot}

-- what these formulas add, where the node stood for the same before them
pub with_stated : (old new before made : Node) (fs : List Term) → new ≡ old → made ≡ with_formulas new fs → with_formulas old fs ≡ before → made ≡ before
with_stated old new before made fs same is so = is ∙ (ap (λ (n : Node). with_formulas n fs) same ∙ so)

abbrev behind : List Entry → Node → List Term → Node
behind types node names = with_products (with_facts types (with_instances node node.literals (index_terms_in node names)))

-- items 2 to 4, one after the other
pub grown : (es fs : List Entry) (start one two three : Node) (names : List Term) → fs ≡ es → one ≡ with_instances start start.literals (index_terms_in start names) → two ≡ with_facts fs one → three ≡ with_products two → three ≡ with_products (with_facts es (with_instances start start.literals (index_terms_in start names)))
grown es fs start one two three names types is_one is_two is_three =
    is_three ∙ (ap with_products is_two ∙ (ap (λ (ts : List Entry). with_products (with_facts ts one)) types ∙ ap (λ (n : Node). with_products (with_facts es n)) is_one))

-- a whole round
pub round_made : (es fs : List Entry) (p w : Spot) (node : Node) (had : List Literal) (names : List Term) (r : ℕ) → w ≡ with_witnesses p p.node.literals → fs ≡ es → node ≡ with_products (with_facts fs (with_instances w.node w.node.literals (index_terms_in w.node w.names))) → had ≡ w.had → names ≡ w.names → r ≡ suc p.rounds → made_spot node had names r ≡ expanded es p
round_made es fs p w node had names r witnessed types is hads are next =
    let last : List Entry → Spot → ℕ → Spot = λ (ts : List Entry) (q : Spot) (k : ℕ). made_spot (behind ts q.node q.names) q.had q.names k in
    let here : made_spot node had names r ≡ last fs w r =
    ap (λ (n : Node). made_spot n had names r) is
    ∙ (ap (λ (h : List Literal). made_spot (behind fs w.node w.names) h names r) hads
    ∙ ap (λ (ns : List Term). made_spot (behind fs w.node w.names) w.had ns r) are) in
    here ∙ (ap (λ (ts : List Entry). last ts w r) types ∙ (ap (λ (k : ℕ). last es w k) next ∙ ap (λ (q : Spot). last es q (suc p.rounds)) witnessed))
