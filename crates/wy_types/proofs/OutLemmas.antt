-- What is taken out is what is not in it.
use Rattle.std.proofs.Common.{◌≡◌, List, [], ◌∷◌, Bool, true, false, not, ◌&&◌, ◌||◌, refl, sym, ap, ◌∙◌}
use Rattle.wy_core.proofs.wy_lemmas_proofs.Choices.{and_end as and_true, or_none as or_false, and_assoc}
use Rattle.wy_types.specs.declared.conjuncts.Atom.{Atom}
use Rattle.wy_types.specs.declared.conjuncts.Atom.TheVariants as atom
use Rattle.wy_types.specs.declared.conjuncts.Conjunct.{Conjunct}
use Rattle.wy_types.specs.Shape.{Shape, NullShape, BoolShape, IntShape, ArrayShape, RecordShape, signed_as, each_in, fields_in, atom_in, none_in, conjunct_in, any_in}
use Rattle.wy_types.specs.Merge.{plain, kinds, taken_out, atom_or_out, nothing_or_all, all_or_nothing, merge, either, with_plains, conjunct_out, merge_outs, normal_or_out}
use Rattle.wy_types.proofs.TruthLemmas.{not_and, not_or}
use Rattle.wy_types.proofs.OnceLemmas.{any_in-with_conjunct, any_in-united_conjuncts}
use Rattle.wy_types.proofs.MeetLemmas.{any_in-merge}

pub each_in-nothing : {T : Type 0} (rs : List (Bool → T → Bool)) → each_in rs [] ≡ true
each_in-nothing [] = refl
each_in-nothing (r ∷ rs) = each_in-nothing rs

pub any_in-kinds : {T : Type 0} (shape : Shape T) → any_in shape kinds ≡ true
any_in-kinds NullShape = refl
any_in-kinds BoolShape = refl
any_in-kinds IntShape = refl
any_in-kinds (ArrayShape rs) = rw (each_in-nothing rs) refl
any_in-kinds (RecordShape ns rs) = refl

only_not : (b : Bool) → ((not b && true) || false) ≡ not b
only_not true = refl
only_not false = refl

only_plain : (b : Bool) → ((b && true) || false) ≡ b
only_plain true = refl
only_plain false = refl

pub any_in-taken_out : {T : Type 0} (shape : Shape T) (a : Atom T) → any_in shape (taken_out a) ≡ not (atom_in shape a)
any_in-taken_out NullShape atom.Null = refl
any_in-taken_out NullShape atom.Bool = refl
any_in-taken_out NullShape atom.Int = refl
any_in-taken_out NullShape (atom.Array p) = refl
any_in-taken_out NullShape (atom.Record fs) = refl
any_in-taken_out NullShape atom.AnyRecord = refl
any_in-taken_out BoolShape atom.Null = refl
any_in-taken_out BoolShape atom.Bool = refl
any_in-taken_out BoolShape atom.Int = refl
any_in-taken_out BoolShape (atom.Array p) = refl
any_in-taken_out BoolShape (atom.Record fs) = refl
any_in-taken_out BoolShape atom.AnyRecord = refl
any_in-taken_out IntShape atom.Null = refl
any_in-taken_out IntShape atom.Bool = refl
any_in-taken_out IntShape atom.Int = refl
any_in-taken_out IntShape (atom.Array p) = refl
any_in-taken_out IntShape (atom.Record fs) = refl
any_in-taken_out IntShape atom.AnyRecord = refl
any_in-taken_out (ArrayShape rs) atom.Null = rw (each_in-nothing rs) refl
any_in-taken_out (ArrayShape rs) atom.Bool = rw (each_in-nothing rs) refl
any_in-taken_out (ArrayShape rs) atom.Int = rw (each_in-nothing rs) refl
any_in-taken_out (ArrayShape rs) (atom.Array p) = rw (each_in-nothing rs) (only_not (each_in rs p.terms))
any_in-taken_out (ArrayShape rs) (atom.Record fs) = rw (each_in-nothing rs) refl
any_in-taken_out (ArrayShape rs) atom.AnyRecord = rw (each_in-nothing rs) refl
any_in-taken_out (RecordShape ns rs) atom.Null = refl
any_in-taken_out (RecordShape ns rs) atom.Bool = refl
any_in-taken_out (RecordShape ns rs) atom.Int = refl
any_in-taken_out (RecordShape ns rs) (atom.Array p) = refl
any_in-taken_out (RecordShape ns rs) (atom.Record fs) = only_not (fields_in ns rs fs)
any_in-taken_out (RecordShape ns rs) atom.AnyRecord = refl

pub any_in-atom_or_out : {T : Type 0} (shape : Shape T) (inside : Bool) (a : Atom T) → any_in shape (atom_or_out inside a) ≡ signed_as (atom_in shape a) inside
any_in-atom_or_out shape true a = only_plain (atom_in shape a)
any_in-atom_or_out shape false a = any_in-taken_out shape a

pub any_in-nothing_or_all : {T : Type 0} (shape : Shape T) (inside : Bool) → any_in shape (nothing_or_all inside) ≡ signed_as false inside
any_in-nothing_or_all shape true = refl
any_in-nothing_or_all shape false = any_in-kinds shape

pub any_in-all_or_nothing : {T : Type 0} (shape : Shape T) (inside : Bool) → any_in shape (all_or_nothing inside) ≡ signed_as true inside
any_in-all_or_nothing shape true = any_in-kinds shape
any_in-all_or_nothing shape false = refl

module _ {T : Type 0} (same : T → T → Bool) (is : (x y : T) → same x y ≡ true → x ≡ y) where
  pub any_in-union : (shape : Shape T) (inside : Bool) (xs ys : List (Conjunct T)) (a b : Bool) → any_in shape xs ≡ signed_as a inside → any_in shape ys ≡ signed_as b inside
      → any_in shape (either same inside xs ys) ≡ signed_as (a || b) inside
  any_in-union shape true xs ys a b e f = any_in-united_conjuncts same is shape xs ys ∙ ap (λ c. c || any_in shape ys) e ∙ ap (λ c. a || c) f
  any_in-union shape false xs ys a b e f = any_in-merge same is shape xs ys ∙ ap (λ c. c && any_in shape ys) e ∙ ap (λ c. not a && c) f ∙ sym (not_or a b)

  pub any_in-inter : (shape : Shape T) (inside : Bool) (xs ys : List (Conjunct T)) (a b : Bool) → any_in shape xs ≡ signed_as a inside → any_in shape ys ≡ signed_as b inside
      → any_in shape (either same (not inside) xs ys) ≡ signed_as (a && b) inside
  any_in-inter shape true xs ys a b e f = any_in-merge same is shape xs ys ∙ ap (λ c. c && any_in shape ys) e ∙ ap (λ c. a && c) f
  any_in-inter shape false xs ys a b e f = any_in-united_conjuncts same is shape xs ys ∙ ap (λ c. c || any_in shape ys) e ∙ ap (λ c. not a || c) f ∙ sym (not_and a b)

  any_in-with_plains : (shape : Shape T) (made : List (Conjunct T)) (atoms : List (Atom T)) → any_in shape (with_plains same made atoms) ≡ (any_in shape made || not (none_in shape atoms))
  any_in-with_plains shape made [] = sym (or_false (any_in shape made))
  any_in-with_plains shape made (a ∷ more) =
      any_in-with_plains shape (with_plains same made (a ∷ [])) more
      ∙ ap (λ b. b || not (none_in shape more)) (any_in-with_conjunct same is shape made (plain a))
      ∙ by (any_in shape made) (atom_in shape a) (none_in shape more)
    where
      by : (m a n : Bool) → ((m || (a && true)) || not n) ≡ (m || not (not a && n))
      by true a n = refl
      by false true n = refl
      by false false n = refl

  any_in-conjunct_out : (shape : Shape T) (c : Conjunct T) → any_in shape (conjunct_out same c) ≡ not (conjunct_in shape c)
  any_in-conjunct_out shape c =
      any_in-with_plains shape (taken_out c.positive) c.negatives
      ∙ ap (λ b. b || not (none_in shape c.negatives)) (any_in-taken_out shape c.positive)
      ∙ sym (not_and (atom_in shape c.positive) (none_in shape c.negatives))

  any_in-merge_outs : (shape : Shape T) (made cs : List (Conjunct T)) → any_in shape (merge_outs same made cs) ≡ (any_in shape made && not (any_in shape cs))
  any_in-merge_outs shape made [] = sym (and_true (any_in shape made))
  any_in-merge_outs shape made (c ∷ cs) =
      any_in-merge_outs shape (merge same made (conjunct_out same c)) cs
      ∙ ap (λ b. b && not (any_in shape cs)) (any_in-merge same is shape made (conjunct_out same c))
      ∙ ap (λ b. (any_in shape made && b) && not (any_in shape cs)) (any_in-conjunct_out shape c)
      ∙ and_assoc (any_in shape made) (not (conjunct_in shape c)) (not (any_in shape cs))
      ∙ ap (λ b. any_in shape made && b) (sym (not_or (conjunct_in shape c) (any_in shape cs)))

  pub any_in-normal_or_out : (shape : Shape T) (inside : Bool) (cs : List (Conjunct T)) → any_in shape (normal_or_out same inside cs) ≡ signed_as (any_in shape cs) inside
  any_in-normal_or_out shape true cs = any_in-united_conjuncts same is shape [] cs
  any_in-normal_or_out shape false [] = any_in-kinds shape
  any_in-normal_or_out shape false (c ∷ cs) =
      any_in-merge_outs shape (conjunct_out same c) cs
      ∙ ap (λ b. b && not (any_in shape cs)) (any_in-conjunct_out shape c)
      ∙ sym (not_or (conjunct_in shape c) (any_in shape cs))
