-- Constants that are noted with their classes.
use Rattle.std.proofs.Common.{◌≡◌, ◌∙◌, ◌+◌, ◌<◌, ◌&&◌, ◌||◌, ◌⊎◌, inl, inr, ℕ, suc, List, [], ◌∷◌, map, length, Bool, true, false, not, option_map, Option, Some, None, refl, sym, ap, subst, arith}
use Rattle.std.specs.Prelude.{is_some, slice_index}
use Rattle.std.proofs.lemmas.Bool.Decides.{Decides-int_eq}
use Rattle.wy_lemmas.proofs.Choices.{bits_self, less_more}
use Rattle.wy_check_splits.specs.wy_value.Datum.{Datum}
use Rattle.wy_term.specs.Term.{Term}
use Rattle.wy_term.specs.Nodes.{Plain, tree_at}
use Rattle.wy_term.specs.Rewriting.{as_constant}
use Rattle.wy_check_splits.specs.Constants.{datum_of}
use Rattle.wy_check_splits.specs.declared.constants.Constant.{Constant}
use Rattle.wy_check_splits.specs.declared.constants.Constant.TheVariants as constant
use Rattle.wy_search_spec.specs.wy_check_spec.valid.Kinds.{are_apart}
use Rattle.wy_search_spec.specs.Classes.{in_one_class, constants_apart, any_apart}
use Rattle.wy_cong.specs.declared.groups.Group.{Group}
use Rattle.wy_cong.specs.Pairs.{apart_in_class}
use Rattle.wy_cong.specs.Signatures.{class_at, covers, are_several, IsNoted, Keeps}
use Rattle.wy_cong.proofs.SignatureLemmas.{OneNumber, class_same, one_class}

-- no constant is another than itself
constant_self : (o : Option Constant) → are_apart (option_map datum_of o) (option_map datum_of o) ≡ false
constant_self None = refl
constant_self (Some constant.Null) = refl
constant_self (Some (constant.Bool b)) = ap not (bits_self b)
constant_self (Some (constant.Int z)) = ap not ((Decides-int_eq z z).1 refl)

first_some : (d e : Option Datum) → are_apart d e ≡ true → is_some d ≡ true
first_some (Some d) e h = refl
first_some None e h = absurd cc

second_some : (d e : Option Datum) → are_apart d e ≡ true → is_some e ≡ true
second_some (Some d) (Some e) h = refl
second_some (Some d) None h = absurd cc
second_some None e h = absurd cc

module _ (nodes : List Plain) (one : OneNumber (tree_at nodes) (length nodes)) (ts : List Term) (labels : List ℕ) (found : ℕ → Option Group) (single : (k : ℕ) → are_several (found k) ≡ false) where
  self_apart : (a : ℕ) → IsNoted nodes ts labels found a → are_apart (as_constant (tree_at nodes a)) (as_constant (tree_at nodes a)) ≡ false
  self_apart a is = ap (λ (o : Option Datum). are_apart o o) (sym is.constant.1) ∙ constant_self is.constant.0

  both_by : (a b : ℕ) → IsNoted nodes ts labels found a → IsNoted nodes ts labels found b → (x y : Bool) → are_apart (as_constant (tree_at nodes a)) (as_constant (tree_at nodes b)) ≡ x → in_one_class ts labels (tree_at nodes a) (tree_at nodes b) ≡ y → (x && y) ≡ false
  both_by a b na nb false y e g = refl
  both_by a b na nb true false e g = refl
  both_by a b na nb true true e g =
      let class = class_same (tree_at nodes) (length nodes) one ts labels a b na.within nb.within g in
      let here : covers (found (class_at ts labels (tree_at nodes) a)) a ≡ true = na.noted (first_some (as_constant (tree_at nodes a)) (as_constant (tree_at nodes b)) e) in
      let there : covers (found (class_at ts labels (tree_at nodes) a)) b ≡ true = ap (λ (c : ℕ). covers (found c) b) class ∙ nb.noted (second_some (as_constant (tree_at nodes a)) (as_constant (tree_at nodes b)) e) in
      let same : a ≡ b = one_class (found (class_at ts labels (tree_at nodes) a)) a b here there (single (class_at ts labels (tree_at nodes) a)) in
      let un : are_apart (as_constant (tree_at nodes a)) (as_constant (tree_at nodes b)) ≡ false = ap (λ (k : ℕ). are_apart (as_constant (tree_at nodes a)) (as_constant (tree_at nodes k))) (sym same) ∙ self_apart a na in
      absurd cc

  pair_apart : (a b : ℕ) → IsNoted nodes ts labels found a → IsNoted nodes ts labels found b → apart_in_class ts labels (tree_at nodes a) (tree_at nodes b) ≡ false
  pair_apart a b na nb = both_by a b na nb (are_apart (as_constant (tree_at nodes a)) (as_constant (tree_at nodes b))) (in_one_class ts labels (tree_at nodes a) (tree_at nodes b)) refl refl

  one_apart : (a : ℕ) (ks : List ℕ) → IsNoted nodes ts labels found a → ((j : ℕ) → j < length ks → IsNoted nodes ts labels found (slice_index ks j)) → constants_apart ts labels (tree_at nodes a) (map (tree_at nodes) ks) ≡ false
  one_apart a [] na each = refl
  one_apart a (b ∷ bs) na each =
      ap (λ (x : Bool). x || constants_apart ts labels (tree_at nodes a) (map (tree_at nodes) bs)) (pair_apart a b na (each 0 (omega arith)))
      ∙ one_apart a bs na (λ j l. each (suc j) (omega (arith, l)))

  -- where no class has two constants, none are apart
  pub none_apart_in : (all ks : List ℕ) → ts ≡ map (tree_at nodes) all → ((j : ℕ) → j < length all → IsNoted nodes ts labels found (slice_index all j)) → ((j : ℕ) → j < length ks → IsNoted nodes ts labels found (slice_index ks j)) → any_apart ts labels (map (tree_at nodes) ks) ≡ false
  none_apart_in all [] is whole each = refl
  none_apart_in all (k ∷ ks) is whole each =
      ap (λ (x : Bool). x || any_apart ts labels (map (tree_at nodes) ks)) (ap (constants_apart ts labels (tree_at nodes k)) is ∙ one_apart k all (each 0 (omega arith)) whole)
      ∙ none_apart_in all ks is whole (λ j l. each (suc j) (omega (arith, l)))

-- ---- one term more

pub noted_here : (nodes : List Plain) (ts : List Term) (labels : List ℕ) (found : ℕ → Option Group) (s class : ℕ) (o : Option Constant) → s < length nodes → option_map datum_of o ≡ as_constant (tree_at nodes s) → class ≡ class_at ts labels (tree_at nodes) s → covers (found class) s ≡ true → IsNoted nodes ts labels found s
noted_here nodes ts labels found s class o lt is at here = record {
  within = lt;
  constant = (o, is);
  noted = λ h. ap (λ (c : ℕ). covers (found c) s) (sym at) ∙ here;
}

pub nothing_noted : (nodes : List Plain) (ts : List Term) (labels : List ℕ) (found : ℕ → Option Group) (s : ℕ) (o : Option Constant) → s < length nodes → option_map datum_of o ≡ as_constant (tree_at nodes s) → o ≡ None → IsNoted nodes ts labels found s
nothing_noted nodes ts labels found s o lt is none = record {
  within = lt;
  constant = (o, is);
  noted = λ h.
      let no : is_some (as_constant (tree_at nodes s)) ≡ false = ap is_some (sym is) ∙ ap (λ (p : Option Constant). is_some (option_map datum_of p)) none in
      absurd cc;
}

pub noted_next : (nodes : List Plain) (ts : List Term) (labels ks : List ℕ) (f g : ℕ → Option Group) (i : ℕ) → Keeps f g → ((j : ℕ) → j < i → IsNoted nodes ts labels f (slice_index ks j)) → IsNoted nodes ts labels g (slice_index ks i) → (j : ℕ) → j < i + 1 → IsNoted nodes ts labels g (slice_index ks j)
noted_next nodes ts labels ks f g i keeps before here j l = by (less_more j i (omega (arith, l)))
  where
    kept : IsNoted nodes ts labels f (slice_index ks j) → IsNoted nodes ts labels g (slice_index ks j)
    kept is = record {
      within = is.within;
      constant = is.constant;
      noted = λ h. keeps (class_at ts labels (tree_at nodes) (slice_index ks j)) (slice_index ks j) (is.noted h);
    }

    by : (j < i) ⊎ (j ≡ i) → IsNoted nodes ts labels g (slice_index ks j)
    by (inl lt) = kept (before j lt)
    by (inr e) = subst (λ (n : ℕ). IsNoted nodes ts labels g (slice_index ks n)) (sym e) here
