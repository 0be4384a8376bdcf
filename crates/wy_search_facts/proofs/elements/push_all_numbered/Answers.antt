use Rattle.std.proofs.Common.{◌≡◌, ◌≤◌, ◌∙◌, [], ◌∷◌, ◌+◌, ℕ, suc, List, length, ap, ap₂, sym, pos, rules, arith}
use Rattle.wy_facts.proofs.StepLemmas.{stays_on}
use Rattle.wy_facts.specs.Seen.{terms_at}
use Rattle.wy_cong.specs.wy_check_spec.judge.Node.{Node, with_formulas}
use Rattle.wy_cong.specs.wy_search_spec.Expansion.{with_some}
use Rattle.wy_search_facts.proofs.AddingLemmas.{types_up}
use Rattle.wy_search_facts.proofs.elements.push_all_numbered.Goals as goal
use Rattle.wy_search_facts.specs.Adding.{with_numbered}
use Rattle.wy_term.specs.Nodes.{tree_at}
use Rattle.wy_term.specs.Term.{Term, Number}
use Rattle.wy_cong.specs.wy_check_spec.valid.Membership.{fact_among}

pub push_numbered-requires-clause-term : goal.push_numbered-requires-clause-term
push_numbered-requires-clause-term c = let lt = c.requires.term in let le = c.loop-k.invariant.stays.grows in omega (arith, lt, le)

pub push_numbered-requires-clause-types : goal.push_numbered-requires-clause-types
push_numbered-requires-clause-types c = types_up c.args.terms.now c.loop-k.terms c.args.cond.now c.loop-k.invariant.stays c.requires.types

pub loop-k-preserved : goal.loop-k-preserved
loop-k-preserved c =
    let old = c.args.terms.now in
    let now = c.loop-k.terms in
    let t = tree_at old c.args.t in
    let k = c.loop-k.k in
    let next : suc k ≡ k + 1 = omega arith in
    record {
      leads = λ start.
          c.in_ok-push_numbered.ensures.value.value start
          ∙ ap₂ (λ (n : Node) (u : Term). with_some n (fact_among [] 4 (u ∷ Number (pos k) ∷ []))) (c.loop-k.invariant.leads start) (c.loop-k.invariant.stays.trees c.args.t c.requires.term)
          ∙ ap (with_numbered t (with_formulas start (terms_at old c.args.facts.now.items))) next;
      below = c.in_ok-push_numbered.ensures.value.below;
      stays = stays_on old now c.push_numbered.new.terms c.loop-k.invariant.stays c.in_ok-push_numbered.ensures.stays;
    }

pub returns-clause-value : goal.returns-clause-value
returns-clause-value c =
    let is : c.loop-k.k ≡ c.args.many = search rules in
    record {
      value = λ start. c.loop-k.invariant.leads start ∙ ap (with_numbered (tree_at c.args.terms.now c.args.t) (with_formulas start (terms_at c.args.terms.now c.args.facts.now.items))) is;
      below = c.loop-k.invariant.below;
    }
