-- The trees that the numbers of a list of nodes name, and how they stand when a node is added.
use Rattle.std.proofs.Common.{◌≡◌, ℕ, zero, suc, ◌+◌, ◌<◌, List, [], ◌∷◌, ◌++◌, All, get_or, ◌≤◌, Bool, true, false, eqb, take, drop, length, length-take, sym, ap, ◌∙◌, subst, refl, arith, length-append, pos}
use Rattle.std.proofs.lemmas.List.{get_or_append_left}
use Rattle.std.proofs.Math.Seq.{get_or-append_seam}
use Rattle.std.proofs.Math.ListN.{take-append-drop}
use Rattle.std.proofs.lemmas.Bool.{eqb-true}
use Rattle.wy_value.proofs.wy_lemmas_proofs.Choices.{eqb_itself as eqb_self}
use Rattle.wy_term.specs.Term as term
use Rattle.wy_term.specs.Same.{same_term}
use Rattle.wy_term.proofs.SameLemmas.{terms_are, terms_self}
use Rattle.wy_term.specs.Term.{Symbol, Term, Of, Parts, part, Number}
use Rattle.wy_term.specs.Nodes.{Plain, of, HasPartsBelow, AreGrounded, AreNodes, Extends, Adds, node_at, pick, parts_at, grown, trees_after, tree_at}

-- ---- parts

from_zero : (n : ℕ) → n ≡ 0 + n
from_zero n = omega arith

pub AreGrounded-at : (from : ℕ) (ns : List Plain) (k : ℕ) → AreGrounded from ns → k < length ns → HasPartsBelow (from + k) (node_at ns k)
AreGrounded-at from [] k grounded inside = absurd (omega arith)
AreGrounded-at from (n ∷ ns) zero grounded inside =
    let e : from ≡ from + 0 = omega arith in
    subst (λ (j : ℕ). HasPartsBelow j n) e grounded.0
AreGrounded-at from (n ∷ ns) (suc k) grounded inside =
    let e : suc from + k ≡ from + suc k = omega arith in
    subst (λ (j : ℕ). HasPartsBelow j (node_at ns k)) e (AreGrounded-at (suc from) ns k grounded.1 (omega arith))

pub AreGrounded-push : (from : ℕ) (ns : List Plain) (n : Plain) → AreGrounded from ns → HasPartsBelow (from + length ns) n → AreGrounded from (ns ++ n ∷ [])
AreGrounded-push from [] n grounded below =
    let e : from + 0 ≡ from = omega arith in
    (subst (λ (j : ℕ). HasPartsBelow j n) e below, tt)
AreGrounded-push from (m ∷ ns) n grounded below =
    let e : from + length (m ∷ ns) ≡ suc from + length ns = omega arith in
    (grounded.0, AreGrounded-push (suc from) ns n grounded.1 (subst (λ (j : ℕ). HasPartsBelow j n) e below))

parts_at-same : (f g : ℕ → Term) (bound : ℕ) (ks : List ℕ) → All (λ k. k < bound) ks → ((k : ℕ) → k < bound → f k ≡ g k) → parts_at f ks ≡ parts_at g ks
parts_at-same f g bound [] below same = refl
parts_at-same f g bound (k ∷ ks) below same = rw (same k (below 0 0 (omega arith)), parts_at-same f g bound ks (λ j d lt. below (suc j) d (omega arith)) same) refl

-- a node grows the same tree where its parts' trees are the same
pub grown-same : (f g : ℕ → Term) (bound : ℕ) (n : Plain) → HasPartsBelow bound n → ((k : ℕ) → k < bound → f k ≡ g k) → grown f n ≡ grown g n
grown-same f g bound n below same = ap (λ (ps : Parts). Of n.symbol ps) (parts_at-same f g bound n.parts below same)

-- ---- lists of trees

trees_after-append : (ts : List Term) (ns ms : List Plain) → trees_after ts (ns ++ ms) ≡ trees_after (trees_after ts ns) ms
trees_after-append ts [] ms = refl
trees_after-append ts (n ∷ ns) ms = trees_after-append (ts ++ grown (pick ts) n ∷ []) ns ms

length-trees_after : (ts : List Term) (ns : List Plain) → length (trees_after ts ns) ≡ length ts + length ns
length-trees_after ts [] = omega arith
length-trees_after ts (n ∷ ns) =
    let added = grown (pick ts) n ∷ [] in
    omega (arith, length-trees_after (ts ++ added) ns, length-append ts added)

trees_after-front : (ts : List Term) (ns : List Plain) (k : ℕ) → k < length ts → pick (trees_after ts ns) k ≡ pick ts k
trees_after-front ts [] k inside = refl
trees_after-front ts (n ∷ ns) k inside =
    let added = grown (pick ts) n ∷ [] in
    trees_after-front (ts ++ added) ns k (omega (arith, length-append ts added)) ∙ get_or_append_left ts added (Number (pos 0)) k inside

trees_after-at : (ts : List Term) (ns : List Plain) (k : ℕ) → AreGrounded (length ts) ns → k < length ns → pick (trees_after ts ns) (length ts + k) ≡ grown (pick (trees_after ts ns)) (node_at ns k)
trees_after-at ts [] k grounded inside = absurd (omega arith)
trees_after-at ts (n ∷ ns) zero grounded inside =
    let tree = grown (pick ts) n in
    let whole = trees_after (ts ++ tree ∷ []) ns in
    let here : length ts + 0 ≡ length ts = omega arith in
    let before : length ts < length (ts ++ tree ∷ []) = omega (arith, length-append ts (tree ∷ [])) in
    ap (pick whole) here
    ∙ trees_after-front (ts ++ tree ∷ []) ns (length ts) before
    ∙ get_or-append_seam ts tree [] (Number (pos 0))
    ∙ grown-same (pick ts) (pick whole) (length ts) n grounded.0 (λ j lt. sym (trees_after-front ts (n ∷ ns) j lt))
trees_after-at ts (n ∷ ns) (suc k) grounded inside =
    let tree = grown (pick ts) n in
    let longer : length (ts ++ tree ∷ []) ≡ suc (length ts) = omega (arith, length-append ts (tree ∷ [])) in
    let here : length ts + suc k ≡ length (ts ++ tree ∷ []) + k = omega arith in
    let whole = trees_after (ts ++ tree ∷ []) ns in
    ap (pick whole) here ∙ trees_after-at (ts ++ tree ∷ []) ns k (subst (λ (j : ℕ). AreGrounded j ns) (sym longer) grounded.1) (omega arith)

-- ---- the tree that a number names

tree_at-grown : (ns : List Plain) (t : ℕ) → AreGrounded 0 ns → t < length ns → tree_at ns t ≡ grown (tree_at ns) (node_at ns t)
unfolding tree_at
tree_at-grown ns t grounded inside = ap (pick (trees_after [] ns)) (from_zero t) ∙ trees_after-at [] ns t grounded inside

tree_at-append : (ns more : List Plain) (t : ℕ) → t < length ns → tree_at (ns ++ more) t ≡ tree_at ns t
unfolding tree_at
tree_at-append ns more t inside =
    ap (λ (ts : List Term). pick ts t) (trees_after-append [] ns more)
    ∙ trees_after-front (trees_after [] ns) more t (omega (arith, length-trees_after [] ns))

-- ---- the same, of lists that are known to equal others

pub AreNodes-same : (seen inside : List Plain) → seen ≡ inside → AreNodes inside → AreNodes seen
AreNodes-same seen inside same are = subst AreNodes (sym same) are

-- the tree of a node that was read
pub tree_of_read : (seen : List Plain) (t : ℕ) (n : Plain) → AreNodes seen → t < length seen → n ≡ node_at seen t → tree_at seen t ≡ grown (tree_at seen) n
tree_of_read seen t n are lt read = tree_at-grown seen t are.grounded lt ∙ ap (grown (tree_at seen)) (sym read)

-- the parts of a node that was read stand before it
pub parts_of_read : (seen : List Plain) (t : ℕ) (n : Plain) → AreNodes seen → t < length seen → n ≡ node_at seen t → HasPartsBelow t n
parts_of_read seen t n are lt read =
    let at : HasPartsBelow t (node_at seen t) = subst (λ (j : ℕ). HasPartsBelow j (node_at seen t)) (sym (from_zero t)) (AreGrounded-at 0 seen t are.grounded lt) in
    subst (λ (m : Plain). HasPartsBelow t m) (sym read) at

-- older numbers name what they named
pub tree_at-older : (old new : List Plain) → Extends old new → (t : ℕ) → t < length old → tree_at new t ≡ tree_at old t
tree_at-older old new extends t lt = ap (λ (ns : List Plain). tree_at ns t) extends.1 ∙ tree_at-append old extends.0 t lt

pub length-extends : (old new : List Plain) → Extends old new → length old ≤ length new
length-extends old new extends = let e = ap length extends.1 in omega (arith, e, length-append old extends.0)

-- the number of a node that was put in names the node's tree
pub tree_at-added : (old new : List Plain) (n : Plain) (t : ℕ) → AreNodes old → HasPartsBelow (length old) n → Adds old new n t → tree_at new t ≡ grown (tree_at old) n
tree_at-added old new n t are below adds =
    let whole = adds.nodes are below in
    tree_of_read new t n whole adds.within (sym adds.here) ∙ grown-same (tree_at new) (tree_at old) (length old) n below (λ k lt. tree_at-older old new adds.extends k lt)

-- ---- one number for each tree

pub of_same : (a b : Symbol) (ps qs : Parts) → Of a ps ≡ Of b qs → (a ≡ b) × (ps ≡ qs)
of_same a b ps qs e = (cc, cc)

pub part_same : (s t : Term) (ps qs : Parts) → part s ps ≡ part t qs → (s ≡ t) × (ps ≡ qs)
part_same s t ps qs e = (cc, cc)

pub made_same : (a b : Symbol) (ks js : List ℕ) → a ≡ b → ks ≡ js → of a ks ≡ of b js
made_same a b ks js e f = cc

-- where the trees of smaller numbers have one number each, so do lists of them
parts_at-one : (at : ℕ → Term) (b : ℕ) → ((k j : ℕ) → k < b → j < b → at k ≡ at j → k ≡ j) → (ks js : List ℕ) → All (λ k. k < b) ks → All (λ j. j < b) js → parts_at at ks ≡ parts_at at js → ks ≡ js
parts_at-one at b one [] [] in_ks in_js e = refl
parts_at-one at b one [] (j ∷ js) in_ks in_js e = absurd cc
parts_at-one at b one (k ∷ ks) [] in_ks in_js e = absurd cc
parts_at-one at b one (k ∷ ks) (j ∷ js) in_ks in_js e =
    let same = part_same (at k) (at j) (parts_at at ks) (parts_at at js) e in
    let first : k ≡ j = one k j (in_ks 0 0 (omega arith)) (in_js 0 0 (omega arith)) same.0 in
    let rest : ks ≡ js = parts_at-one at b one ks js (λ i d lt. in_ks (suc i) d (omega arith)) (λ i d lt. in_js (suc i) d (omega arith)) same.1 in
    rw (first, rest) refl

smaller : (bound s : ℕ) (ks : List ℕ) → s < suc bound → All (λ k. k < s) ks → All (λ k. k < bound) ks
smaller bound s ks lt in_ks i d inside = let at : get_or ks i d < s = in_ks i d inside in omega (arith, at)

one_below : (ns : List Plain) → AreNodes ns → (bound : ℕ) → bound ≤ length ns → (s t : ℕ) → s < bound → t < bound → tree_at ns s ≡ tree_at ns t → s ≡ t
one_below ns are zero le s t below_s below_t e = absurd (omega arith)
one_below ns are (suc bound) le s t below_s below_t e =
    let in_s : s < length ns = omega arith in
    let in_t : t < length ns = omega arith in
    let n = node_at ns s in
    let m = node_at ns t in
    let grown_s = tree_at-grown ns s are.grounded in_s in
    let grown_t = tree_at-grown ns t are.grounded in_t in
    let same = of_same n.symbol m.symbol (parts_at (tree_at ns) n.parts) (parts_at (tree_at ns) m.parts) (sym grown_s ∙ e ∙ grown_t) in
    let in_n = smaller bound s n.parts below_s (parts_of_read ns s n are in_s refl) in
    let in_m = smaller bound t m.parts below_t (parts_of_read ns t m are in_t refl) in
    are.distinct s t in_s in_t (made_same n.symbol m.symbol n.parts m.parts same.0 (parts_at-one (tree_at ns) bound (λ k j lt_k lt_j at. one_below ns are bound (omega arith) k j lt_k lt_j at) n.parts m.parts in_n in_m same.1))

-- two numbers of one tree are one
pub one_number : (ns : List Plain) → AreNodes ns → (s t : ℕ) → s < length ns → t < length ns → tree_at ns s ≡ tree_at ns t → s ≡ t
one_number ns are s t in_s in_t e = one_below ns are (length ns) (omega arith) s t in_s in_t e

same_by_number : (ns : List Plain) → AreNodes ns → (s t : ℕ) → s < length ns → t < length ns → (b c : Bool) → eqb s t ≡ b → same_term (tree_at ns s) (tree_at ns t) ≡ c → b ≡ c
same_by_number ns are s t in_s in_t true true e f = refl
same_by_number ns are s t in_s in_t false false e f = refl
same_by_number ns are s t in_s in_t true false e f =
    let same = ap (tree_at ns) (eqb-true s t e) in
    let self = ap (same_term (tree_at ns s)) (sym same) ∙ terms_self (tree_at ns s) in
    sym self ∙ f
same_by_number ns are s t in_s in_t false true e f =
    let same = one_number ns are s t in_s in_t (terms_are (tree_at ns s) (tree_at ns t) f) in
    sym e ∙ ap (eqb s) (sym same) ∙ eqb_self s

-- numbers are equal exactly where they name equal trees
pub same_is_number : (ns : List Plain) → AreNodes ns → (s t : ℕ) → s < length ns → t < length ns → eqb s t ≡ same_term (tree_at ns s) (tree_at ns t)
same_is_number ns are s t in_s in_t = same_by_number ns are s t in_s in_t (eqb s t) (same_term (tree_at ns s) (tree_at ns t)) refl refl

-- ---- the first nodes alone

AreGrounded-front : (from : ℕ) (ns more : List Plain) → AreGrounded from (ns ++ more) → AreGrounded from ns
AreGrounded-front from [] more grounded = tt
AreGrounded-front from (n ∷ ns) more grounded = (grounded.0, AreGrounded-front (suc from) ns more grounded.1)

front_node : (ns more : List Plain) (t : ℕ) → t < length ns → node_at (ns ++ more) t ≡ node_at ns t
front_node ns more t lt = get_or_append_left ns more (of (term.number (pos 0)) []) t lt

AreNodes-front : (ns more : List Plain) → AreNodes (ns ++ more) → AreNodes ns
AreNodes-front ns more are = record {
  grounded = AreGrounded-front 0 ns more are.grounded;
  distinct = λ s t in_s in_t same. are.distinct s t (omega (arith, length-append ns more)) (omega (arith, length-append ns more)) (front_node ns more s in_s ∙ same ∙ sym (front_node ns more t in_t));
}

pub AreNodes-take : (ns new : List Plain) (m : ℕ) → AreNodes ns → new ≡ take m ns → AreNodes new
AreNodes-take ns new m are e = subst AreNodes (sym e) (AreNodes-front (take m ns) (drop m ns) (subst AreNodes (sym (take-append-drop m ns)) are))

pub tree_at-take : (ns new : List Plain) (m : ℕ) → m ≤ length ns → new ≡ take m ns → (t : ℕ) → t < m → tree_at new t ≡ tree_at ns t
tree_at-take ns new m le e t lt =
    let inside : t < length new = omega (arith, ap length e, length-take m ns) in
    sym (tree_at-older new ns (drop m ns, sym (ap (λ (front : List Plain). front ++ drop m ns) e ∙ take-append-drop m ns)) t inside)

-- ---- of a value whose nodes are known to be those inside

pub interned : (seen inside new : List Plain) (n : Plain) (t : ℕ) → seen ≡ inside → AreNodes inside → HasPartsBelow (length seen) n → Adds inside new n t → tree_at new t ≡ grown (tree_at seen) n
interned seen inside new n t same are below adds =
    tree_at-added inside new n t are (subst (λ (ns : List Plain). HasPartsBelow (length ns) n) same below) adds ∙ ap (λ (ns : List Plain). grown (tree_at ns) n) (sym same)

pub kept_inside : (seen inside new : List Plain) → seen ≡ inside → Extends inside new → (t : ℕ) → t < length seen → tree_at new t ≡ tree_at seen t
kept_inside seen inside new same extends t lt =
    tree_at-older inside new extends t (subst (λ (ns : List Plain). t < length ns) same lt) ∙ ap (λ (ns : List Plain). tree_at ns t) (sym same)

pub kept_cut : (seen inside new : List Plain) (m n : ℕ) → seen ≡ inside → n ≡ m → m ≤ length seen → new ≡ take n inside → (t : ℕ) → t < m → tree_at new t ≡ tree_at seen t
kept_cut seen inside new m n same count le e t lt =
    let le' : m ≤ length inside = omega (arith, ap length same) in
    tree_at-take inside new m le' (e ∙ ap (λ (k : ℕ). take k inside) count) t lt ∙ ap (λ (ns : List Plain). tree_at ns t) (sym same)
