-- Lists of formulas that are added to a node, and the loops over what stands in it.
use Rattle.std.proofs.Common.{◌≡◌, ◌∙◌, ◌<◌, ℕ, List, map, length, Option, Result, Ok, Err, ap, ap₂}
use Rattle.std.specs.Prelude.{option_map, IfSome, OnOk}
use Rattle.wy_cong.proofs.wy_facts_proofs.StepLemmas.{below_kept, terms_kept}
use Rattle.wy_cong.specs.wy_facts.Seen.{terms_at, AreBelow, Stays}
use Rattle.wy_cong.specs.wy_check_spec.judge.Node.{Node, with_formulas}
use Rattle.wy_cong.specs.wy_search_spec.Expansion.{with_some}
use Rattle.wy_search_bounds.specs.Adding.{Leads}
use Rattle.wy_term.specs.Nodes.{Plain, tree_at}
use Rattle.wy_term.specs.Term.{Term}

-- ---- lists, walked through

-- ---- numbers of terms as the list of terms grows

-- ---- what lists of formulas lead to

pub unmoved : (old : List Plain) (xs : List ℕ) (more : Node → Node) → AreBelow (length old) xs → ((node : Node) → node ≡ more node) → Leads old xs old xs more
unmoved old xs more below so = record { value = λ start. so (with_formulas start (terms_at old xs)); below = below }

pub led_as : (old : List Plain) (xs : List ℕ) (new : List Plain) (ys : List ℕ) (f g : Node → Node) → ((node : Node) → f node ≡ g node) → Leads old xs new ys f → Leads old xs new ys g
led_as old xs new ys f g so led = record { value = λ start. led.value start ∙ so (with_formulas start (terms_at old xs)); below = led.below }

pub led_if : {X E : Type 0} (r : Result X E) (old : List Plain) (xs : List ℕ) (new : List Plain) (ys : List ℕ) (f g : Node → Node) → ((node : Node) → f node ≡ g node) → OnOk r (Leads old xs new ys f) → OnOk r (Leads old xs new ys g)
led_if (Ok x) old xs new ys f g so led = led_as old xs new ys f g so led
led_if (Err e) old xs new ys f g so led = tt

-- the same from terms that were there before others were made
pub led_from : {X E : Type 0} (r : Result X E) (old now : List Plain) (xs : List ℕ) (new : List Plain) (ys : List ℕ) (f g : Node → Node) → Stays old now → AreBelow (length old) xs → ((node : Node) → f node ≡ g node)
    → OnOk r (Leads now xs new ys f) → OnOk r (Leads old xs new ys g)
led_from (Ok x) old now xs new ys f g stays below so led = record {
  value = λ start. led.value start ∙ (ap (λ (ts : List Term). f (with_formulas start ts)) (terms_kept old now xs stays below) ∙ so (with_formulas start (terms_at old xs)));
  below = led.below;
}
led_from (Err e) old now xs new ys f g stays below so led = tt

-- one formula more, if there is one
pub some_led : {X E : Type 0} (r : Result X E) (old new : List Plain) (xs ys : List ℕ) (made : Option ℕ) (o : Option Term) → Stays old new → AreBelow (length old) xs → AreBelow (length new) xs → IfSome made (λ (f : ℕ). f < length new) → option_map (tree_at new) made ≡ o
    → ((at : ℕ → Term) (start : Node) → OnOk r (with_formulas start (map at ys) ≡ with_some (with_formulas start (map at xs)) (option_map at made)))
    → ((n : ℕ) → AreBelow n xs → IfSome made (λ (f : ℕ). f < n) → OnOk r (AreBelow n ys))
    → OnOk r (Leads old xs new ys (λ (node : Node). with_some node o))
some_led (Ok x) old new xs ys made o stays low up within is put below = record {
  value = λ start. put (tree_at new) start ∙ ap₂ (λ (ts : List Term) (q : Option Term). with_some (with_formulas start ts) q) (terms_kept old new xs stays low) is;
  below = below (length new) up within;
}
some_led (Err e) old new xs ys made o stays low up within is put below = tt

-- one after the other
pub leads_on : (a : List Plain) (xs : List ℕ) (b : List Plain) (ys : List ℕ) (c : List Plain) (zs : List ℕ) (f g : Node → Node) → Leads a xs b ys f → Leads b ys c zs g → Leads a xs c zs (λ (node : Node). g (f node))
leads_on a xs b ys c zs f g one two = record { value = λ start. two.value start ∙ ap g (one.value start); below = two.below }

pub leads_if : {X E : Type 0} (r : Result X E) (a : List Plain) (xs : List ℕ) (b : List Plain) (ys : List ℕ) (c : List Plain) (zs : List ℕ) (f g : Node → Node) → Leads a xs b ys f → OnOk r (Leads b ys c zs g) → OnOk r (Leads a xs c zs (λ (node : Node). g (f node)))
leads_if (Ok x) a xs b ys c zs f g one two = leads_on a xs b ys c zs f g one two
leads_if (Err e) a xs b ys c zs f g one two = tt

pub unmoved_now : (old now : List Plain) (xs : List ℕ) (more : Node → Node) → Stays old now → AreBelow (length old) xs → ((node : Node) → node ≡ more node) → Leads old xs now xs more
unmoved_now old now xs more stays below so = record {
  value = λ start. ap (with_formulas start) (terms_kept old now xs stays below) ∙ so (with_formulas start (terms_at old xs));
  below = below_kept old now xs stays below;
}
