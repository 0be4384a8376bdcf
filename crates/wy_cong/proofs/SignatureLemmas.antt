-- Congruent terms have one signature, and where the terms of a signature are in one class, nothing is joined.
use Rattle.std.proofs.Common.{◌≡◌, ◌∙◌, ◌<◌, ◌||◌, ◌+◌, ◌*◌, ◌⊎◌, inl, inr, ℕ, zero, suc, List, [], ◌∷◌, map, length, Bool, true, false, cond, eqb, get_or, drop, nat_eq, Option, Some, None, refl, sym, ap, subst, arith}
use Rattle.std.specs.Prelude.{slice_index}
use Rattle.std.specs.HashMap.{get}
use Rattle.std.proofs.lemmas.Bool.{eqb-true}
use Rattle.wy_lemmas.proofs.Choices.{eqb_itself as eqb_self, both_parts as both, less_more}
use Rattle.wy_term.specs.Term.{Symbol, Term}
use Rattle.wy_term.specs.Nodes.{Plain, grown, node_at, parts_at, tree_at, HasPartsBelow}
use Rattle.wy_term.specs.Same.{same_symbol, same_term}
use Rattle.wy_term.proofs.SameLemmas.{symbols_are, terms_are}
use Rattle.wy_check_splits.specs.wy_check_nodes.Seen.{AreBelow}
use Rattle.wy_search_spec.specs.Classes.{in_one_class, arguments_equal, are_congruent, joined, label_of, place_from, same_label, with_all_congruent, with_congruent, with_equal}
use Rattle.wy_cong.proofs.HeadLemmas.{bare_stays}
use Rattle.wy_cong.proofs.LabelLemmas.{joined_self}
use Rattle.wy_cong.specs.declared.groups.Group.{Group}
use Rattle.wy_cong.specs.declared.groups.Group.TheVariants.{One, Several}
use Rattle.wy_cong.specs.declared.groups.Groups.{Groups}
use Rattle.wy_cong.specs.Heads.{pair_joined}
use Rattle.wy_cong.specs.Signatures.{class_or, class_at, mixed_all, head_number, signature, is_leaf, covers, are_several, with_class, AreGrouped, IsGrouped, Keeps}

-- ---- classes

labels_same : (a b : Option ℕ) (s t : ℕ) → same_label a b ≡ true → class_or a s ≡ class_or b t
labels_same None b s t h = absurd cc
labels_same (Some l) None s t h = absurd cc
labels_same (Some l) (Some m) s t h = ap (λ (k : ℕ). class_or (Some k) s) (eqb-true l m h)

-- no two numbers below the bound name one term
abbrev pub OneNumber : (ℕ → Term) → ℕ → Type 0
OneNumber at n = (s t : ℕ) → s < n → t < n → at s ≡ at t → s ≡ t

class_by : (at : ℕ → Term) (n : ℕ) → OneNumber at n → (ts : List Term) (labels : List ℕ) (s t : ℕ) → s < n → t < n → (x : Bool) → same_term (at s) (at t) ≡ x → (x || same_label (label_of labels (place_from ts (at s) 0)) (label_of labels (place_from ts (at t) 0))) ≡ true → class_at ts labels at s ≡ class_at ts labels at t
class_by at n one ts labels s t ls lt true e h = ap (class_at ts labels at) (one s t ls lt (terms_are (at s) (at t) e))
class_by at n one ts labels s t ls lt false e h = labels_same (label_of labels (place_from ts (at s) 0)) (label_of labels (place_from ts (at t) 0)) s t h

-- terms in one class have one number
pub class_same : (at : ℕ → Term) (n : ℕ) → OneNumber at n → (ts : List Term) (labels : List ℕ) (s t : ℕ) → s < n → t < n → in_one_class ts labels (at s) (at t) ≡ true → class_at ts labels at s ≡ class_at ts labels at t
class_same at n one ts labels s t ls lt h = class_by at n one ts labels s t ls lt (same_term (at s) (at t)) refl h

-- classes of one number are one, and joining it to itself changes nothing
joined_stays : (labels : List ℕ) (a b : Option ℕ) (s t : ℕ) → class_or a s ≡ class_or b t → joined labels a b ≡ labels
joined_stays labels None b s t e = refl
joined_stays labels (Some l) None s t e = refl
joined_stays labels (Some l) (Some m) s t e =
    let twice : l * 2 ≡ m * 2 = e in
    sym (joined_self labels l m (Some l) (Some m) refl refl (omega (arith, twice)))

-- ---- signatures

classes_same : (at : ℕ → Term) (n : ℕ) → OneNumber at n → (ts : List Term) (labels : List ℕ) (ss us : List ℕ) → AreBelow n ss → AreBelow n us → arguments_equal ts labels (parts_at at ss) (parts_at at us) ≡ true → map (class_at ts labels at) ss ≡ map (class_at ts labels at) us
classes_same at n one ts labels [] [] below under h = refl
classes_same at n one ts labels [] (u ∷ us) below under h = absurd cc
classes_same at n one ts labels (s ∷ ss) [] below under h = absurd cc
classes_same at n one ts labels (s ∷ ss) (u ∷ us) below under h =
    let e = both (in_one_class ts labels (at s) (at u)) (arguments_equal ts labels (parts_at at ss) (parts_at at us)) h in
    ap (λ (k : ℕ). k ∷ map (class_at ts labels at) ss) (class_same at n one ts labels s u (below 0 s (omega arith)) (under 0 u (omega arith)) e.0)
    ∙ ap (λ (ks : List ℕ). class_at ts labels at u ∷ ks) (classes_same at n one ts labels ss us (λ i d l. below (suc i) d (omega (arith, l))) (λ i d l. under (suc i) d (omega (arith, l))) e.1)

-- congruent terms have one symbol and one signature
pub congruent_same : (at : ℕ → Term) (n : ℕ) → OneNumber at n → (ts : List Term) (labels : List ℕ) (p q : Plain) → HasPartsBelow n p → HasPartsBelow n q → are_congruent ts labels (grown at p) (grown at q) ≡ true → (p.symbol ≡ q.symbol) × (signature ts labels at p ≡ signature ts labels at q)
congruent_same at n one ts labels p q below under h =
    let e = both (same_symbol p.symbol q.symbol) (arguments_equal ts labels (parts_at at p.parts) (parts_at at q.parts)) h in
    let head : p.symbol ≡ q.symbol = symbols_are p.symbol q.symbol e.0 in
    let parts = classes_same at n one ts labels p.parts q.parts below under e.1 in
    (head, ap (λ (s : Symbol). mixed_all (head_number s) (map (class_at ts labels at) p.parts)) head ∙ ap (mixed_all (head_number q.symbol)) parts)

-- ---- terms of one signature

pub one_class : (o : Option Group) (c d : ℕ) → covers o c ≡ true → covers o d ≡ true → are_several o ≡ false → c ≡ d
one_class None c d h g e = absurd cc
one_class (Some (One k)) c d h g e = sym (eqb-true k c h) ∙ eqb-true k d g
one_class (Some Several) c d h g e = absurd cc

module _ (nodes : List Plain) (one : OneNumber (tree_at nodes) (length nodes)) (ts : List Term) (labels : List ℕ) (found : ℕ → Option Group) where
  pair_by : (a b : ℕ) → IsGrouped nodes ts labels found a → IsGrouped nodes ts labels found b → is_leaf (node_at nodes a).symbol ≡ false → are_several (found (signature ts labels (tree_at nodes) (node_at nodes a))) ≡ false → (x : Bool) → are_congruent ts labels (tree_at nodes a) (tree_at nodes b) ≡ x → cond x (with_equal ts labels (tree_at nodes a) (tree_at nodes b)) labels ≡ labels
  pair_by a b ga gb branch single false e = refl
  pair_by a b ga gb branch single true e =
      let grown_too : are_congruent ts labels (tree_at nodes a) (tree_at nodes b) ≡ are_congruent ts labels (grown (tree_at nodes) (node_at nodes a)) (grown (tree_at nodes) (node_at nodes b)) = ap (λ (u : Term). are_congruent ts labels u (tree_at nodes b)) ga.tree ∙ ap (λ (u : Term). are_congruent ts labels (grown (tree_at nodes) (node_at nodes a)) u) gb.tree in
      let same = congruent_same (tree_at nodes) (length nodes) one ts labels (node_at nodes a) (node_at nodes b) ga.parts gb.parts (sym grown_too ∙ e) in
      let unleaf : is_leaf (node_at nodes b).symbol ≡ false = ap is_leaf (sym same.0) ∙ branch in
      let other : covers (found (signature ts labels (tree_at nodes) (node_at nodes a))) (class_at ts labels (tree_at nodes) b) ≡ true = ap (λ (k : ℕ). covers (found k) (class_at ts labels (tree_at nodes) b)) same.1 ∙ gb.noted unleaf in
      joined_stays labels (label_of labels (place_from ts (tree_at nodes a) 0)) (label_of labels (place_from ts (tree_at nodes b) 0)) a b
      (one_class (found (signature ts labels (tree_at nodes) (node_at nodes a))) (class_at ts labels (tree_at nodes) a) (class_at ts labels (tree_at nodes) b) (ga.noted branch) other single)

  pair_stays : (a b : ℕ) → IsGrouped nodes ts labels found a → IsGrouped nodes ts labels found b → is_leaf (node_at nodes a).symbol ≡ false → are_several (found (signature ts labels (tree_at nodes) (node_at nodes a))) ≡ false → pair_joined ts labels (tree_at nodes a) (tree_at nodes b) ≡ labels
  pair_stays a b ga gb branch single = pair_by a b ga gb branch single (are_congruent ts labels (tree_at nodes a) (tree_at nodes b)) refl

  branch_stays : (a : ℕ) (ks : List ℕ) → IsGrouped nodes ts labels found a → ((j : ℕ) → j < length ks → IsGrouped nodes ts labels found (slice_index ks j)) → is_leaf (node_at nodes a).symbol ≡ false → are_several (found (signature ts labels (tree_at nodes) (node_at nodes a))) ≡ false → with_congruent ts labels (tree_at nodes a) (map (tree_at nodes) ks) ≡ labels
  branch_stays a [] ga each branch single = refl
  branch_stays a (b ∷ bs) ga each branch single =
      ap (λ (ls : List ℕ). with_congruent ts ls (tree_at nodes a) (map (tree_at nodes) bs)) (pair_stays a b ga (each 0 (omega arith)) branch single)
      ∙ branch_stays a bs ga (λ j l. each (suc j) (omega (arith, l))) branch single

  -- a term whose signature doesn't have several classes joins nothing
  pub term_stays : (a : ℕ) (ks : List ℕ) → IsGrouped nodes ts labels found a → ((j : ℕ) → j < length ks → IsGrouped nodes ts labels found (slice_index ks j)) → (is_leaf (node_at nodes a).symbol ≡ false → are_several (found (signature ts labels (tree_at nodes) (node_at nodes a))) ≡ false) → with_congruent ts labels (tree_at nodes a) (map (tree_at nodes) ks) ≡ labels
  term_stays a ks ga each single = by (is_leaf (node_at nodes a).symbol) refl
    where
      by : (x : Bool) → is_leaf (node_at nodes a).symbol ≡ x → with_congruent ts labels (tree_at nodes a) (map (tree_at nodes) ks) ≡ labels
      by true e = sym (bare_stays ts labels (tree_at nodes) (tree_at nodes a) (node_at nodes a) (map (tree_at nodes) ks) ga.tree (ga.leaf e))
      by false e = branch_stays a ks ga each e (single e)

  rest_stays : (all ks : List ℕ) → ts ≡ map (tree_at nodes) all → ((j : ℕ) → j < length all → IsGrouped nodes ts labels found (slice_index all j)) → ((j : ℕ) → j < length ks → IsGrouped nodes ts labels found (slice_index ks j)) → ((k : ℕ) → are_several (found k) ≡ false) → with_all_congruent ts labels (map (tree_at nodes) ks) ≡ labels
  rest_stays all [] is whole each single = refl
  rest_stays all (k ∷ ks) is whole each single =
      ap (λ (ls : List ℕ). with_all_congruent ts ls (map (tree_at nodes) ks))
      (ap (with_congruent ts labels (tree_at nodes k)) is ∙ term_stays k all (each 0 (omega arith)) whole (λ e. single (signature ts labels (tree_at nodes) (node_at nodes k))))
      ∙ rest_stays all ks is whole (λ j l. each (suc j) (omega (arith, l))) single

pub settled : (nodes : List Plain) (ts : List Term) (labels ks : List ℕ) (g : Groups) (i : ℕ) → AreGrouped nodes ts labels ks g → ts ≡ map (tree_at nodes) ks → i < length ks → (is_leaf (node_at nodes (slice_index ks i)).symbol ≡ false → are_several (get nat_eq g.found (signature ts labels (tree_at nodes) (node_at nodes (slice_index ks i)))) ≡ false) → with_congruent ts labels (tree_at nodes (slice_index ks i)) ts ≡ labels
settled nodes ts labels ks g i all is lt single =
    ap (with_congruent ts labels (tree_at nodes (slice_index ks i))) is
    ∙ term_stays nodes all.one ts labels (get nat_eq g.found) (slice_index ks i) ks (all.each i lt) all.each single

-- where no signature has several classes, a round changes nothing from a place on
pub round_stays : (nodes : List Plain) (ts : List Term) (labels ks : List ℕ) (g : Groups) (i : ℕ) → AreGrouped nodes ts labels ks g → ts ≡ map (tree_at nodes) ks → g.parted ≡ false → with_all_congruent ts labels (map (tree_at nodes) (drop i ks)) ≡ labels
round_stays nodes ts labels ks g i all is single =
    rest_stays nodes all.one ts labels (get nat_eq g.found) ks (drop i ks) is all.each (each_left ks i all.each) (all.told single)
  where
    each_left : (js : List ℕ) (n : ℕ) → ((j : ℕ) → j < length js → IsGrouped nodes ts labels (get nat_eq g.found) (slice_index js j)) → (j : ℕ) → j < length (drop n js) → IsGrouped nodes ts labels (get nat_eq g.found) (slice_index (drop n js) j)
    each_left js zero each j l = each j l
    each_left [] (suc n) each j l = absurd (omega (arith, l))
    each_left (k ∷ js) (suc n) each j l = each_left js n (λ i lt. each (suc i) (omega (arith, lt))) j l

-- ---- one class more

abbrev some_group : Group → Option Group
some_group g = Some g

covered : (o : Option Group) (c : ℕ) → covers (Some (with_class o c)) c ≡ true
covered None c = eqb_self c
covered (Some (One d)) c = by (eqb d c) refl
  where
    by : (x : Bool) → eqb d c ≡ x → covers (Some (cond x (One d) Several)) c ≡ true
    by true e = e
    by false e = refl
covered (Some Several) c = refl

kept_group : (o : Option Group) (c e : ℕ) → covers o e ≡ true → covers (Some (with_class o c)) e ≡ true
kept_group None c e h = absurd cc
kept_group (Some (One d)) c e h = by (eqb d c)
  where
    by : (x : Bool) → covers (Some (cond x (One d) Several)) e ≡ true
    by true = h
    by false = refl
kept_group (Some Several) c e h = refl

module _ (f g : ℕ → Option Group) (key class : ℕ) (group : Group) (is : group ≡ with_class (f key) class) (puts : (k : ℕ) → g k ≡ cond (eqb key k) (Some group) (f k)) where
  pub note_here : covers (g key) class ≡ true
  note_here =
      ap (λ (o : Option Group). covers o class) (puts key ∙ ap (λ (x : Bool). cond x (Some group) (f key)) (eqb_self key) ∙ ap (λ (h : Group). some_group h) is)
      ∙ covered (f key) class

  pub note_kept : Keeps f g
  note_kept k c h = ap (λ (o : Option Group). covers o c) (puts k) ∙ by (eqb key k) refl
    where
      by : (x : Bool) → eqb key k ≡ x → covers (cond x (Some group) (f k)) c ≡ true
      by true e =
          let same : key ≡ k = eqb-true key k e in
          ap (λ (h : Group). covers (Some h) c) is ∙ kept_group (f key) class c (ap (λ (j : ℕ). covers (f j) c) same ∙ h)
      by false e = h

  pub note_told : (p q : Bool) → q ≡ (are_several (Some group) || p) → (p ≡ false → (k : ℕ) → are_several (f k) ≡ false) → q ≡ false → (k : ℕ) → are_several (g k) ≡ false
  note_told p q ors told un k =
      let e = neither (are_several (Some group)) p (sym ors ∙ un) in
      ap are_several (puts k) ∙ by (eqb key k) e
    where
      neither : (a b : Bool) → (a || b) ≡ false → (a ≡ false) × (b ≡ false)
      neither true b h = absurd cc
      neither false b h = (refl, h)

      by : (x : Bool) → (are_several (Some group) ≡ false) × (p ≡ false) → are_several (cond x (Some group) (f k)) ≡ false
      by true h = h.0
      by false h = told h.1 k

-- ---- one term more

pub noted_by : (f : ℕ → Option Group) (k l c d : ℕ) → k ≡ l → c ≡ d → covers (f k) c ≡ true → covers (f l) d ≡ true
noted_by f k l c d e g h = ap (λ (m : ℕ). covers (f m) d) (sym e) ∙ (ap (covers (f k)) (sym g) ∙ h)

pub grouped_here : (nodes : List Plain) (ts : List Term) (labels : List ℕ) (found : ℕ → Option Group) (s : ℕ) (p : Plain) (bare : Bool) → s < length nodes → p ≡ node_at nodes s → tree_at nodes s ≡ grown (tree_at nodes) p → HasPartsBelow s p → bare ≡ is_leaf p.symbol → (bare ≡ true → p.parts ≡ []) → (bare ≡ false → covers (found (signature ts labels (tree_at nodes) (node_at nodes s))) (class_at ts labels (tree_at nodes) s) ≡ true) → IsGrouped nodes ts labels found s
grouped_here nodes ts labels found s p bare lt is tree below leaf none noted = record {
  within = lt;
  tree = tree ∙ ap (grown (tree_at nodes)) is;
  parts = λ i d l. lower i d l;
  leaf = λ h. ap (λ (q : Plain). q.parts) (sym is) ∙ none (leaf ∙ (ap (λ (q : Plain). is_leaf q.symbol) is ∙ h));
  noted = λ h. noted (leaf ∙ (ap (λ (q : Plain). is_leaf q.symbol) is ∙ h));
}
  where
    lower : (i d : ℕ) → i < length (node_at nodes s).parts → get_or (node_at nodes s).parts i d < length nodes
    lower i d l =
        let under : get_or (node_at nodes s).parts i d < s = subst (HasPartsBelow s) is below i d l in
        omega (arith, under, lt)

kept_noted : (nodes : List Plain) (ts : List Term) (labels : List ℕ) (f g : ℕ → Option Group) (k : ℕ) → Keeps f g → IsGrouped nodes ts labels f k → IsGrouped nodes ts labels g k
kept_noted nodes ts labels f g k keeps is = record {
  within = is.within;
  tree = is.tree;
  parts = is.parts;
  leaf = is.leaf;
  noted = λ h. keeps (signature ts labels (tree_at nodes) (node_at nodes k)) (class_at ts labels (tree_at nodes) k) (is.noted h);
}

-- those that were noted, and one more
pub each_next : (nodes : List Plain) (ts : List Term) (labels ks : List ℕ) (f g : ℕ → Option Group) (i : ℕ) → Keeps f g → ((j : ℕ) → j < i → IsGrouped nodes ts labels f (slice_index ks j)) → IsGrouped nodes ts labels g (slice_index ks i) → (j : ℕ) → j < i + 1 → IsGrouped nodes ts labels g (slice_index ks j)
each_next nodes ts labels ks f g i keeps before here j l = by (less_more j i (omega (arith, l)))
  where
    by : (j < i) ⊎ (j ≡ i) → IsGrouped nodes ts labels g (slice_index ks j)
    by (inl lt) = kept_noted nodes ts labels f g (slice_index ks j) keeps (before j lt)
    by (inr e) = subst (λ (n : ℕ). IsGrouped nodes ts labels g (slice_index ks n)) (sym e) here
