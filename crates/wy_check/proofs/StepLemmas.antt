-- To which nodes each kind of step leads, by what the calls answered.
use Rattle.std.proofs.Common.{◌≡◌, ℕ, List, [], ◌∷◌, Bool, true, false, Option, Some, None, Result, Ok, Err, refl, sym, ap, ◌∙◌}
use Rattle.std.specs.Prelude.{IfOk, option_map}
use Rattle.wy_facts.specs.Schema.{only_if}
use Rattle.wy_term.specs.Term.{Term}
use Rattle.wy_term.specs.Condition.{Entry}
use Rattle.wy_vc_laws.specs.wy_check_spec.judge.Node.{Node, is_atom, added, denied_one}
use Rattle.wy_lin.specs.Linear.{◌>>=◌, Linear}
use Rattle.wy_cert.specs.Steps.{split, shut, chain, clash, sum_of, cut, inst, wit, fact, prod}
use Rattle.wy_vc_laws.specs.wy_check_spec.valid.Literals.{is_shut}
use Rattle.wy_vc_laws.specs.wy_check_spec.valid.Sums.{summed, is_refuting, cut_of}
use Rattle.wy_vc_laws.specs.wy_check_spec.valid.Ranges.{instance_stated, witness_stated}
use Rattle.wy_vc_laws.specs.wy_check_spec.valid.Products.{product_stated}
use Rattle.wy_vc_laws.specs.wy_check_spec.valid.Membership.{fact_among}
use Rattle.wy_vc_laws.specs.wy_check_spec.valid.Validity.{closed, left_with, left_with_one, chain_stated, is_clash, after}
use Rattle.wy_check.specs.declared.outcome.Outcome.{Outcome}
use Rattle.wy_check.specs.Led.{led}

abbrev some_nodes : List Node → Option (List Node)
some_nodes ns = Some ns

abbrev no_nodes : Option (List Node)
no_nodes = None

split_test : (a f : Term) (atom b : Bool) → a ≡ f → atom ≡ is_atom a → atom ≡ b → is_atom f ≡ b
split_test a f atom b e gave is = ap is_atom (sym e) ∙ (sym gave ∙ is)

pub split_yes : (types : List Entry) (node : Node) (a f : Term) (atom : Bool) → a ≡ f → atom ≡ is_atom a → atom ≡ true → some_nodes (added node a ∷ denied_one node a ∷ []) ≡ after types node (split f)
split_yes types node a f atom e gave is =
    ap (λ (x : Term). some_nodes (added node x ∷ denied_one node x ∷ [])) e ∙ sym (ap (λ (b : Bool). only_if b (some_nodes (added node f ∷ denied_one node f ∷ []))) (split_test a f atom true e gave is))

pub split_no : (types : List Entry) (node : Node) (a f : Term) (atom : Bool) → a ≡ f → atom ≡ is_atom a → atom ≡ false → no_nodes ≡ after types node (split f)
split_no types node a f atom e gave is = sym (ap (λ (b : Bool). only_if b (some_nodes (added node f ∷ denied_one node f ∷ []))) (split_test a f atom false e gave is))

pub shut_led : (types : List Entry) (node : Node) (holds : Bool) → holds ≡ is_shut node → only_if holds closed ≡ after types node shut
shut_led types node holds e = ap (λ (b : Bool). only_if b closed) e

pub clash_led : (types : List Entry) (node : Node) (i : ℕ) (other : Option ℕ) (holds : Bool) → Some holds ≡ is_clash node.literals i other → only_if holds closed ≡ after types node (clash i other)
clash_led types node i other holds e = ap (λ (o : Option Bool). o >>= λ b. only_if b closed) e

pub clash_none : (types : List Entry) (node : Node) (i : ℕ) (other : Option ℕ) → None ≡ is_clash node.literals i other → no_nodes ≡ after types node (clash i other)
clash_none types node i other e = ap (λ (o : Option Bool). o >>= λ b. only_if b closed) e

pub sum_led : (types : List Entry) (node : Node) (pairs : List (ℕ × ℕ)) (holds : Bool) → holds ≡ is_refuting (summed node.literals pairs) → only_if holds closed ≡ after types node (sum_of pairs)
sum_led types node pairs holds e = ap (λ (b : Bool). only_if b closed) e

pub chain_led : (types : List Entry) (node seen : Node) (ts us : List Term) (o : Option (List Term)) → seen ≡ node → ts ≡ us → o ≡ chain_stated seen.literals ts → (o >>= left_with node) ≡ after types node (chain us)
chain_led types node seen ts us o same e gave = ap (λ (q : Option (List Term)). q >>= left_with node) (gave ∙ (ap (λ (n : Node). chain_stated n.literals ts) same ∙ ap (chain_stated node.literals) e))

pub inst_led : (types : List Entry) (node seen : Node) (i : ℕ) (t u : Term) (o : Option Term) → seen ≡ node → t ≡ u → o ≡ instance_stated seen.literals i t → (o >>= left_with_one node) ≡ after types node (inst i u)
inst_led types node seen i t u o same e gave = ap (λ (q : Option Term). q >>= left_with_one node) (gave ∙ (ap (λ (n : Node). instance_stated n.literals i t) same ∙ ap (instance_stated node.literals i) e))

pub prod_led : (types : List Entry) (node seen : Node) (i j : ℕ) (t u : Term) (o : Option Term) → seen ≡ node → t ≡ u → o ≡ product_stated seen.literals i j t → (o >>= left_with_one node) ≡ after types node (prod i j u)
prod_led types node seen i j t u o same e gave = ap (λ (q : Option Term). q >>= left_with_one node) (gave ∙ (ap (λ (n : Node). product_stated n.literals i j t) same ∙ ap (product_stated node.literals i j) e))

pub cut_led : (types : List Entry) (node : Node) (d : ℕ) (pairs : List (ℕ × ℕ)) (o : Option Term) → o ≡ (summed node.literals pairs >>= λ f. cut_of d f) → (o >>= left_with_one node) ≡ after types node (cut d pairs)
cut_led types node d pairs o gave = ap (λ (q : Option Term). q >>= left_with_one node) gave ∙ twice (summed node.literals pairs)
  where
    twice : (q : Option (Linear Term)) → ((q >>= λ f. cut_of d f) >>= left_with_one node) ≡ (q >>= λ f. cut_of d f >>= left_with_one node)
    twice None = refl
    twice (Some f) = refl

pub wit_led : (types : List Entry) (node : Node) (i : ℕ) (o : Option (List Term)) → o ≡ witness_stated node i → (o >>= left_with node) ≡ after types node (wit i)
wit_led types node i o gave = ap (λ (q : Option (List Term)). q >>= left_with node) gave

pub fact_led : (types those : List Entry) (node : Node) (n : ℕ) (ts us : List Term) (o : Option Term) → those ≡ types → ts ≡ us → o ≡ fact_among those n ts → (o >>= left_with_one node) ≡ after types node (fact n us)
fact_led types those node n ts us o same e gave = ap (λ (q : Option Term). q >>= left_with_one node) (gave ∙ (ap (λ (es : List Entry). fact_among es n ts) same ∙ ap (fact_among types n) e))

pub ok_with : {E : Type 0} (at : ℕ → Term) (node : Node) (r : Result (Option Outcome) E) (x y : Option (List Node)) → IfOk r (λ o. option_map (led at node) o ≡ x) → x ≡ y → IfOk r (λ o. option_map (led at node) o ≡ y)
ok_with at node (Ok o) x y h e = h ∙ e
ok_with at node (Err z) x y h e = tt
