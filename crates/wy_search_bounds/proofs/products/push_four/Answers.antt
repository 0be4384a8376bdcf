use Rattle.std.proofs.Common.{None, true, false, ap, arith}
use Rattle.wy_search_bounds.proofs.AddingLemmas.{leads_if, leads_on}
use Rattle.wy_search_bounds.proofs.ProductLemmas.{pushes_at}
use Rattle.wy_search_bounds.proofs.products.push_four.Goals as goal
use Rattle.wy_search_bounds.specs.Adding.{Leads}
use Rattle.std.specs.Prelude.{OnOk}
use Rattle.wy_cong.proofs.wy_facts_proofs.StepLemmas.{stays_on}
use Rattle.wy_cong.specs.wy_check_spec.judge.Node.{Node}
use Rattle.wy_cong.specs.wy_check_nodes.Seen.{seen_branch}
use Rattle.wy_cong.specs.wy_search_spec.Expansion.{best_bound}
use Rattle.wy_cong.proofs.wy_check_nodes_proofs.SumsBranchLemmas.{branch_stays, node_stays}
use Rattle.wy_term.specs.Nodes.{tree_at}

pub push_product-requires-2-clause-branch : goal.push_product-requires-2-clause-branch
push_product-requires-2-clause-branch c = branch_stays c.args.terms.now c.push_product.new.terms c.args.branch.now c.in_ok-push_product.ensures.stays c.requires.branch

pub push_product-requires-2-clause-product : goal.push_product-requires-2-clause-product
push_product-requires-2-clause-product c = let lt = c.requires.product in let le = c.in_ok-push_product.ensures.stays.grows in omega (arith, lt, le)

pub push_product-requires-3-clause-branch : goal.push_product-requires-3-clause-branch
push_product-requires-3-clause-branch c =
    branch_stays c.args.terms.now c.push_product-2.new.terms c.args.branch.now
    (stays_on c.args.terms.now c.push_product.new.terms c.push_product-2.new.terms c.in_ok-push_product.ensures.stays c.in_ok-push_product-2.ensures.stays) c.requires.branch

pub push_product-requires-3-clause-product : goal.push_product-requires-3-clause-product
push_product-requires-3-clause-product c =
    let lt = c.requires.product in
    let le = c.in_ok-push_product.ensures.stays.grows in
    let more = c.in_ok-push_product-2.ensures.stays.grows in
    omega (arith, lt, le, more)

pub push_product-requires-4-clause-branch : goal.push_product-requires-4-clause-branch
push_product-requires-4-clause-branch c =
    let one = c.args.terms.now in
    let two = c.push_product.new.terms in
    let three = c.push_product-2.new.terms in
    let four = c.push_product-3.new.terms in
    branch_stays one four c.args.branch.now
    (stays_on one three four (stays_on one two three c.in_ok-push_product.ensures.stays c.in_ok-push_product-2.ensures.stays) c.in_ok-push_product-3.ensures.stays) c.requires.branch

pub push_product-requires-4-clause-product : goal.push_product-requires-4-clause-product
push_product-requires-4-clause-product c =
    let lt = c.requires.product in
    let le = c.in_ok-push_product.ensures.stays.grows in
    let more = c.in_ok-push_product-2.ensures.stays.grows in
    let most = c.in_ok-push_product-3.ensures.stays.grows in
    omega (arith, lt, le, more, most)

pub returns-clause-value : goal.returns-clause-value
returns-clause-value c = λ s t f g factors first second x y.
    let one = c.args.terms.now in
    let two = c.push_product.new.terms in
    let three = c.push_product-2.new.terms in
    let four = c.push_product-3.new.terms in
    let five = c.push_product-4.new.terms in
    let b = c.args.branch.now in
    let ls = (seen_branch (tree_at one) b).literals in
    let p = tree_at one c.args.p in
    let upto_two = c.in_ok-push_product.ensures.stays in
    let upto_three = stays_on one two three upto_two c.in_ok-push_product-2.ensures.stays in
    let upto_four = stays_on one three four upto_three c.in_ok-push_product-3.ensures.stays in
    let xs = c.args.stated.now.items in
    let ys = c.push_product.new.stated.items in
    let zs = c.push_product-2.new.stated.items in
    let us = c.push_product-3.new.stated.items in
    let vs = c.push_product-4.new.stated.items in
    let low = best_bound true f None ls in
    let high = best_bound false f None ls in
    let under = best_bound true g None ls in
    let over = best_bound false g None ls in
    let same_two = ap (λ (n : Node). n.literals) (node_stays one two b upto_two c.requires.branch) in
    let same_three = ap (λ (n : Node). n.literals) (node_stays one three b upto_three c.requires.branch) in
    let same_four = ap (λ (n : Node). n.literals) (node_stays one four b upto_four c.requires.branch) in
    let lead_one = c.in_ok-push_product.ensures.value s t f g true true low under factors first second x.lower y.lower in
    let lead_two = pushes_at (seen_branch (tree_at two) b).literals ls (tree_at two c.args.p) p c.args.x.lower c.args.y.upper (λ (more : Node → Node). Leads two ys three zs more) same_two (upto_two.trees c.args.p c.requires.product)
    c.in_ok-push_product-2.ensures.value s t f g true false low over factors first second x.lower y.upper in
    let lead_three = pushes_at (seen_branch (tree_at three) b).literals ls (tree_at three c.args.p) p c.args.x.upper c.args.y.lower (λ (more : Node → Node). Leads three zs four us more) same_three (upto_three.trees c.args.p c.requires.product)
    c.in_ok-push_product-3.ensures.value s t f g false true high under factors first second x.upper y.lower in
    let lead_four = pushes_at (seen_branch (tree_at four) b).literals ls (tree_at four c.args.p) p c.args.x.upper c.args.y.upper (λ (more : Node → Node). OnOk c.push_product-4.result (Leads four us five vs more)) same_four (upto_four.trees c.args.p c.requires.product)
    c.push_product-4.ensures.value s t f g false false high over factors first second x.upper y.upper in
    leads_if c.push_product-4.result one xs four us five vs _ _ (leads_on one xs three zs four us _ _ (leads_on one xs two ys three zs _ _ lead_one lead_two) lead_three) lead_four
