use Rattle.std.proofs.Common.{◌≡◌, ◌≤◌, ◌<◌, ◌∙◌, ◌++◌, ◌∷◌, [], ℕ, List, Bool, false, length, map, ap, ap₂, refl, rules, sym, subst, arith}
use Rattle.wy_facts.proofs.StepLemmas.{stays_on, terms_kept, below_kept}
use Rattle.wy_search_facts.proofs.SpotLemmas.{had_more, witness_put}
use Rattle.wy_search_facts.proofs.witnesses.with_new.Goals as goal
use Rattle.wy_search_facts.specs.Seen.{seen_spot}
use Rattle.wy_cong.specs.wy_check_spec.judge.Node.{Literal, Node, has_literal, with_formulas, with_literal}
use Rattle.wy_check_nodes.proofs.JudgingLemmas.{below_last}
use Rattle.wy_check_nodes.specs.Seen.{seen_branch, seen_literal}
use Rattle.wy_check_splits.proofs.RangeLemmas.{range_kept, range_up}
use Rattle.wy_check_splits.specs.Seen.{seen_range}
use Rattle.wy_cong.proofs.TaskLemmas.{map_last}
use Rattle.wy_check_nodes.proofs.SumsBranchLemmas.{branch_stays, node_stays}
use Rattle.wy_term.specs.Nodes.{tree_at}
use Rattle.wy_term.specs.Term.{Term, leaf, int_name}
use Rattle.wy_cong.specs.wy_check_spec.valid.Ranges.{Range, numbers_in_node, witness, witnessed_at}

pub witnessed_at-requires-clause-range : goal.witnessed_at-requires-clause-range
witnessed_at-requires-clause-range c = range_up (length c.args.terms.now) (length c.name.new.terms) c.args.r.now c.in_ok-x.ensures.stays.grows c.requires.range

pub add_all-requires-clause-branch : goal.add_all-requires-clause-branch
add_all-requires-clause-branch c =
    let stays = stays_on c.args.terms.now c.name.new.terms c.witnessed_at.new.terms c.in_ok-x.ensures.stays c.in_ok-formulas.ensures.stays in
    branch_stays c.args.terms.now c.witnessed_at.new.terms c.args.spot.branch stays c.requires.spot.branch

pub add_literal-requires-clause-branch : goal.add_literal-requires-clause-branch
add_literal-requires-clause-branch c =
    let stays = stays_on c.args.terms.now c.name.new.terms c.witnessed_at.new.terms c.in_ok-x.ensures.stays c.in_ok-formulas.ensures.stays in
    branch_stays c.args.terms.now c.witnessed_at.new.terms c.args.spot.had stays c.requires.spot.had

pub add_literal-requires-clause-atom : goal.add_literal-requires-clause-atom
add_literal-requires-clause-atom c =
    let stays = stays_on c.args.terms.now c.name.new.terms c.witnessed_at.new.terms c.in_ok-x.ensures.stays c.in_ok-formulas.ensures.stays in
    let lt = c.requires.atom in
    let le = stays.grows in
    omega (arith, lt, le)

pub returns-clause-value : goal.returns-clause-value
returns-clause-value c =
    let old = c.args.terms.now in
    let one = c.name.new.terms in
    let new = c.witnessed_at.new.terms in
    let r = seen_range (tree_at old) c.args.r.now in
    let spot = seen_spot (tree_at old) c.args.spot in
    let l = seen_literal (tree_at old) (c.args.atom, c.args.holds) in
    let x = witness spot.node r in
    let first = c.in_ok-x.ensures.stays in
    let second = c.in_ok-formulas.ensures.stays in
    let stays = stays_on old one new first second in
    let name_is : tree_at one c.in_ok-x.x ≡ x = c.in_ok-x.ensures.value ∙ ap (λ (n : ℕ). leaf (int_name c.args.r.now.word n)) c.in_ok-number.ensures in
    let range = range_kept old one c.args.r.now first c.requires.range in
    let stated : map (tree_at new) c.in_ok-formulas.formulas.items ≡ witnessed_at c.args.holds r x = c.in_ok-formulas.ensures.value ∙ ap₂ (witnessed_at c.args.holds) range name_is in
    let same = node_stays old new c.args.spot.branch stays c.requires.spot.branch in
    let node_is : seen_branch (tree_at new) c.add_all.new.branch ≡ with_formulas spot.node (witnessed_at c.args.holds r x) =
    c.in_ok-add_all.ensures.value ∙ ap₂ with_formulas same (ap (map (tree_at new)) c.deref.ensures.value ∙ stated) in
    let atom = stays.trees c.args.atom c.requires.atom in
    let had_same = node_stays old new c.args.spot.had stays c.requires.spot.had in
    let had_is = had_more (seen_branch (tree_at old) c.args.spot.had) (seen_branch (tree_at new) c.add_literal.new.branch) l
    (c.in_ok-add_literal.ensures.value ∙ ap₂ (λ (n : Node) (t : Term). with_literal n (record { atom = t; holds = c.args.holds })) had_same atom) c.requires.unseen in
    let names_is = map_last (tree_at new) c.args.spot.names.items c.push.new.self.items c.in_ok-x.x c.in_ok-push.ensures.items
    ∙ ap₂ (λ (ts : List Term) (t : Term). ts ++ t ∷ []) (terms_kept old new c.args.spot.names.items stays c.requires.spot.names) (second.trees c.in_ok-x.x c.in_ok-x.ensures.within ∙ name_is) in
    witness_put spot l r (seen_branch (tree_at new) c.add_all.new.branch) (seen_branch (tree_at new) c.add_literal.new.branch).literals (map (tree_at new) c.push.new.self.items) c.requires.unseen node_is had_is names_is

pub returns-clause-spot : goal.returns-clause-spot
returns-clause-spot c =
    let old = c.args.terms.now in
    let new = c.witnessed_at.new.terms in
    let stays = stays_on old c.name.new.terms new c.in_ok-x.ensures.stays c.in_ok-formulas.ensures.stays in
    let lt = c.in_ok-x.ensures.within in
    let le = c.in_ok-formulas.ensures.stays.grows in
    record {
      branch = c.in_ok-add_all.ensures.branch;
      had = c.in_ok-add_literal.ensures.branch;
      names = below_last (length new) c.args.spot.names.items c.push.new.self.items c.in_ok-x.x (below_kept old new c.args.spot.names.items stays c.requires.spot.names) (omega (arith, lt, le)) c.in_ok-push.ensures.items;
    }

pub returns-in_err-add_literal-clause-stays : goal.returns-in_err-add_literal-clause-stays
returns-in_err-add_literal-clause-stays c = stays_on c.args.terms.now c.name.new.terms c.witnessed_at.new.terms c.in_ok-x.ensures.stays c.in_ok-formulas.ensures.stays

pub returns-in_err-push-clause-stays : goal.returns-in_err-push-clause-stays
returns-in_err-push-clause-stays c = stays_on c.args.terms.now c.name.new.terms c.witnessed_at.new.terms c.in_ok-x.ensures.stays c.in_ok-formulas.ensures.stays
