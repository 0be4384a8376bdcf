-- How a front grows and shrinks.
use Rattle.std.proofs.Common.{◌≡◌, ◌∙◌, ◌+◌, ◌<◌, ℕ, zero, suc, List, [], ◌∷◌, ◌++◌, map, take, length, refl, sym, ap, subst, arith}
use Rattle.std.proofs.lemmas.List.{take_at, length-append, length-take-le}
use Rattle.wy_check_spec.specs.wy_facts.Seen.{Stays}
use Rattle.wy_check_spec.proofs.wy_facts_proofs.StepLemmas.{below_kept, terms_kept}
use Rattle.wy_check_nodes.specs.declared.fronts.front.Front.{Front}
use Rattle.wy_check_nodes.specs.declared.fronts.front.Size.{Size}
use Rattle.wy_check_nodes.specs.fronts.Front.{node_of, AreMade, IsFirst, IsFront}
use Rattle.wy_check_spec.specs.judge.Node.{Node, added, bare, with_formulas}
use Rattle.wy_check_nodes.specs.declared.branch.Branch.{Branch}
use Rattle.wy_check_nodes.specs.Seen.{seen_branch, seen_formula, seen_literal, AreBelow, AreOver, Extends, IsBranch}
use Rattle.wy_check_nodes.proofs.BranchLemmas.{over_take}
use Rattle.wy_check_nodes.proofs.SumsBranchLemmas.{branch_stays}
use Rattle.wy_lemmas.proofs.Equations.{Pairs}
use Rattle.wy_check_spec.specs.wy_term.Nodes.{Plain, tree_at}
use Rattle.wy_check_spec.specs.wy_term.Term.{Term}

pub made_whole : (at : ℕ → Term) (ls ps : Pairs) (hs : List ℕ) (ss : List Size) → AreMade at ls ps hs ss → node_of at ls ps ≡ with_formulas bare (map at hs)
made_whole at ls ps hs [] made = made
made_whole at ls ps hs (s ∷ ss) made = made.0

-- ---- one more

with_last : (at : ℕ → Term) (node : Node) (hs : List ℕ) (h : ℕ) → with_formulas node (map at (hs ++ h ∷ [])) ≡ added (with_formulas node (map at hs)) (at h)
with_last at node [] h = refl
with_last at node (k ∷ ks) h = with_last at (added node (at k)) ks h

front_of : {A : Type 0} (xs ys : List A) (k : ℕ) → (zs : List A) → ys ≡ xs ++ zs → k ≡ length xs → take k ys ≡ xs
front_of xs ys k zs more here = ap (take k) more ∙ take_at xs zs k (sym here)

pub made_more : (at : ℕ → Term) (b c : Branch) (hs : List ℕ) (ss : List Size) (s : Size) (h : ℕ) → s.literals ≡ length b.literals.keys → s.pending ≡ length b.pending.keys → length hs ≡ length ss → Extends b c → seen_branch at c ≡ added (seen_branch at b) (at h) → AreMade at b.literals.keys b.pending.keys hs ss → AreMade at c.literals.keys c.pending.keys (hs ++ h ∷ []) (s ∷ ss)
made_more at b c hs ss s h literals pending count more is made =
    let here : node_of at c.literals.keys c.pending.keys ≡ with_formulas bare (map at (hs ++ h ∷ [])) =
    is ∙ (ap (λ (n : Node). added n (at h)) (made_whole at b.literals.keys b.pending.keys hs ss made) ∙ sym (with_last at bare hs h)) in
    let ls : take s.literals c.literals.keys ≡ b.literals.keys = front_of b.literals.keys c.literals.keys s.literals more.literals.0 more.literals.1 literals in
    let ps : take s.pending c.pending.keys ≡ b.pending.keys = front_of b.pending.keys c.pending.keys s.pending more.pending.0 more.pending.1 pending in
    let ks : take (length ss) (hs ++ h ∷ []) ≡ hs = front_of hs (hs ++ h ∷ []) (length ss) (h ∷ []) refl (sym count) in
    let one : AreMade at (take s.literals c.literals.keys) b.pending.keys hs ss = subst (λ (xs : Pairs). AreMade at xs b.pending.keys hs ss) (sym ls) made in
    let two : AreMade at (take s.literals c.literals.keys) (take s.pending c.pending.keys) hs ss = subst (λ (xs : Pairs). AreMade at (take s.literals c.literals.keys) xs hs ss) (sym ps) one in
    (here, subst (λ (xs : List ℕ). AreMade at (take s.literals c.literals.keys) (take s.pending c.pending.keys) xs ss) (sym ks) two)

-- ---- the goal

-- the node with this size again
pub front_of_first : (nodes : List Plain) (f g : Front) (s : Size) → IsFirst nodes s f → g.hyps.items ≡ f.hyps.items → g.sizes.items ≡ f.sizes.items → g.branch.literals.keys ≡ take s.literals f.branch.literals.keys → g.branch.pending.keys ≡ take s.pending f.branch.pending.keys → IsBranch nodes g.branch → IsFront nodes g
front_of_first nodes f g s is hyps sizes ls ps branch =
    let at = tree_at nodes in
    let fs = take s.literals f.branch.literals.keys in
    let gs = take s.pending f.branch.pending.keys in
    let one : AreMade at fs gs g.hyps.items f.sizes.items = subst (λ (xs : List ℕ). AreMade at fs gs xs f.sizes.items) (sym hyps) is.made in
    let two : AreMade at fs gs g.hyps.items g.sizes.items = subst (λ (xs : List Size). AreMade at fs gs g.hyps.items xs) (sym sizes) one in
    let three : AreMade at g.branch.literals.keys gs g.hyps.items g.sizes.items = subst (λ (xs : Pairs). AreMade at xs gs g.hyps.items g.sizes.items) (sym ls) two in
    record {
      branch = branch;
      hyps = subst (AreBelow (length nodes)) (sym hyps) is.hyps;
      count = ap length hyps ∙ (is.count ∙ sym (ap length sizes));
      made = subst (λ (xs : Pairs). AreMade at g.branch.literals.keys xs g.hyps.items g.sizes.items) (sym ps) three;
    }

-- ---- where the list of terms grows

literals_same : (old new : List Plain) (ps : Pairs) → Stays old new → AreOver (length old) ps → map (seen_literal (tree_at new)) ps ≡ map (seen_literal (tree_at old)) ps
literals_same old new [] stays over = refl
literals_same old new (p ∷ ps) stays over = rw (stays.trees p.0 over.0, literals_same old new ps stays over.1) refl

formulas_same : (old new : List Plain) (ps : Pairs) → Stays old new → AreOver (length old) ps → map (seen_formula (tree_at new)) ps ≡ map (seen_formula (tree_at old)) ps
formulas_same old new [] stays over = refl
formulas_same old new (p ∷ ps) stays over = rw (stays.trees p.0 over.0, formulas_same old new ps stays over.1) refl

pub below_take : (n k : ℕ) (hs : List ℕ) → AreBelow n hs → AreBelow n (take k hs)
below_take n zero hs low i d lt = absurd (omega (arith, lt))
below_take n (suc k) [] low i d lt = absurd (omega (arith, lt))
below_take n (suc k) (h ∷ hs) low zero d lt = low 0 d (omega arith)
below_take n (suc k) (h ∷ hs) low (suc i) d lt = below_take n k hs (λ j e l. low (suc j) e (omega (arith, l))) i d (omega (arith, lt))

node_same : (old new : List Plain) (ls ps : Pairs) (hs : List ℕ) → Stays old new → AreOver (length old) ls → AreOver (length old) ps → AreBelow (length old) hs → node_of (tree_at old) ls ps ≡ with_formulas bare (map (tree_at old) hs) → node_of (tree_at new) ls ps ≡ with_formulas bare (map (tree_at new) hs)
node_same old new ls ps hs stays ols ops low is = rw (literals_same old new ls stays ols, formulas_same old new ps stays ops) (is ∙ ap (with_formulas bare) (sym (terms_kept old new hs stays low)))

made_stays : (old new : List Plain) (ls ps : Pairs) (hs : List ℕ) (ss : List Size) → Stays old new → AreOver (length old) ls → AreOver (length old) ps → AreBelow (length old) hs → AreMade (tree_at old) ls ps hs ss → AreMade (tree_at new) ls ps hs ss
made_stays old new ls ps hs [] stays ols ops low made = node_same old new ls ps hs stays ols ops low made
made_stays old new ls ps hs (s ∷ ss) stays ols ops low made =
    (node_same old new ls ps hs stays ols ops low made.0, made_stays old new (take s.literals ls) (take s.pending ps) (take (length ss) hs) ss stays (over_take (length old) s.literals ls ols) (over_take (length old) s.pending ps ops) (below_take (length old) (length ss) hs low) made.1)

pub front_stays : (old new : List Plain) (f : Front) → Stays old new → IsFront old f → IsFront new f
front_stays old new f stays is = record {
  branch = branch_stays old new f.branch stays is.branch;
  hyps = below_kept old new f.hyps.items stays is.hyps;
  count = is.count;
  made = made_stays old new f.branch.literals.keys f.branch.pending.keys f.hyps.items f.sizes.items stays is.branch.literals is.branch.pending is.hyps is.made;
}

-- ---- steps

pub below_last : (n k : ℕ) (hs : List ℕ) → AreBelow n hs → k < n → AreBelow n (hs ++ k ∷ [])
below_last n k [] low lt zero d l = lt
below_last n k [] low lt (suc i) d l = absurd (omega (arith, l))
below_last n k (h ∷ hs) low lt zero d l = low 0 d (omega arith)
below_last n k (h ∷ hs) low lt (suc i) d l = below_last n k hs (λ j e m. low (suc j) e (omega (arith, m))) lt i d (omega (arith, l))

-- the front without its last hypothesis
pub less_front : (nodes : List Plain) (f g : Front) (s : Size) (ss : List Size) → IsFront nodes f → f.sizes.items ≡ s ∷ ss → g.sizes.items ≡ ss → g.hyps.items ≡ take (length ss) f.hyps.items → g.branch.literals.keys ≡ take s.literals f.branch.literals.keys → g.branch.pending.keys ≡ take s.pending f.branch.pending.keys → IsBranch nodes g.branch → IsFront nodes g
less_front nodes f g s ss is was sizes hyps ls ps branch =
    let at = tree_at nodes in
    let fs = take s.literals f.branch.literals.keys in
    let gs = take s.pending f.branch.pending.keys in
    let all : AreMade at f.branch.literals.keys f.branch.pending.keys f.hyps.items (s ∷ ss) = subst (AreMade at f.branch.literals.keys f.branch.pending.keys f.hyps.items) was is.made in
    let one : AreMade at fs gs g.hyps.items ss = subst (λ (xs : List ℕ). AreMade at fs gs xs ss) (sym hyps) all.1 in
    let two : AreMade at fs gs g.hyps.items g.sizes.items = subst (λ (xs : List Size). AreMade at fs gs g.hyps.items xs) (sym sizes) one in
    let three : AreMade at g.branch.literals.keys gs g.hyps.items g.sizes.items = subst (λ (xs : Pairs). AreMade at xs gs g.hyps.items g.sizes.items) (sym ls) two in
    let long : length f.hyps.items ≡ suc (length ss) = is.count ∙ ap length was in
    let short : length (take (length ss) f.hyps.items) ≡ length ss = length-take-le (length ss) f.hyps.items (omega (arith, long)) in
    record {
      branch = branch;
      hyps = subst (AreBelow (length nodes)) (sym hyps) (below_take (length nodes) (length ss) f.hyps.items is.hyps);
      count = ap length hyps ∙ (short ∙ sym (ap length sizes));
      made = subst (λ (xs : Pairs). AreMade at g.branch.literals.keys xs g.hyps.items g.sizes.items) (sym ps) three;
    }

-- the front with one hypothesis more
pub more_front : (nodes : List Plain) (f g : Front) (s : Size) (h : ℕ) → IsFront nodes f → h < length nodes → g.sizes.items ≡ s ∷ f.sizes.items → g.hyps.items ≡ f.hyps.items ++ h ∷ [] → s.literals ≡ length f.branch.literals.keys → s.pending ≡ length f.branch.pending.keys → Extends f.branch g.branch → seen_branch (tree_at nodes) g.branch ≡ added (seen_branch (tree_at nodes) f.branch) (tree_at nodes h) → IsBranch nodes g.branch → IsFront nodes g
more_front nodes f g s h is lt sizes hyps literals pending more made branch =
    let at = tree_at nodes in
    let ls = g.branch.literals.keys in
    let ps = g.branch.pending.keys in
    let all : AreMade at ls ps (f.hyps.items ++ h ∷ []) (s ∷ f.sizes.items) = made_more at f.branch g.branch f.hyps.items f.sizes.items s h literals pending is.count more made is.made in
    let one : AreMade at ls ps g.hyps.items (s ∷ f.sizes.items) = subst (λ (xs : List ℕ). AreMade at ls ps xs (s ∷ f.sizes.items)) (sym hyps) all in
    let longer : length (f.hyps.items ++ h ∷ []) ≡ length f.hyps.items + 1 = length-append f.hyps.items (h ∷ []) in
    let counted : length (f.hyps.items ++ h ∷ []) ≡ length (s ∷ f.sizes.items) = omega (arith, longer, is.count) in
    record {
      branch = branch;
      hyps = subst (AreBelow (length nodes)) (sym hyps) (below_last (length nodes) h f.hyps.items is.hyps lt);
      count = ap length hyps ∙ (counted ∙ sym (ap length sizes));
      made = subst (AreMade at ls ps g.hyps.items) (sym sizes) one;
    }
