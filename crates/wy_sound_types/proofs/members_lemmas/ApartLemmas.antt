-- Names that rise are apart.
use Rattle.std.proofs.Common.{◌≡◌, ℕ, List, [], ◌∷◌, Bool, true, false, refl, sym, ap, ◌∙◌, subst}
use Rattle.std.specs.Prelude.{bytes_eq}
use Rattle.std.specs.Cmp.Lexicographic.{slice_cmp, nat_list_cmp_total}
use Rattle.std.specs.Ordering.{nat_cmp, is_lt, ordering_reverse}
use Rattle.std.specs.declared.cmp.Ordering.TheVariants.{Less}
use Rattle.std.proofs.lemmas.Slice.Eq.{bytes_eq-Decides}
use Rattle.wy_core.specs.formed.Bound.{GoesBefore, Rise}
use Rattle.wy_sound_statements.specs.wy_sound_walks.expressions.Written.{IsNone, AreApart}

not_greater : (a b : List ℕ) → slice_cmp nat_cmp a b ≡ Less → is_lt (slice_cmp nat_cmp b a) ≡ false
not_greater a b e = ap is_lt (nat_list_cmp_total.antisymm b a ∙ ap ordering_reverse e)

apart : (a b : List ℕ) → slice_cmp nat_cmp a b ≡ Less → bytes_eq a b ≡ false
apart a b e = by (bytes_eq a b) refl where
  by : (c : Bool) → bytes_eq a b ≡ c → c ≡ false
  by true is =
      let same : a ≡ b = (bytes_eq-Decides a b).0 is in
      let less : is_lt (slice_cmp nat_cmp b b) ≡ true = subst (λ (x : List ℕ). is_lt (slice_cmp nat_cmp x b) ≡ true) same (ap is_lt e) in
      let not_less : is_lt (slice_cmp nat_cmp b b) ≡ false = subst (λ (x : List ℕ). is_lt (slice_cmp nat_cmp b x) ≡ false) same (not_greater a b e) in
      let no_way : true ≡ false = sym less ∙ not_less in absurd cc
  by false is = refl

before : (n m : List ℕ) (ms : List (List ℕ)) → slice_cmp nat_cmp n m ≡ Less → GoesBefore m ms → GoesBefore n ms
before n m [] g f = tt
before n m (k ∷ ks) g f = nat_list_cmp_total.trans n m k g f

none_of : (n : List ℕ) (ns : List (List ℕ)) → GoesBefore n ns → Rise ns → IsNone n ns
none_of n [] g h = tt
none_of n (m ∷ ms) g h = (apart n m g, none_of n ms (before n m ms g h.0) h.1)

pub rising_apart : (ns : List (List ℕ)) → Rise ns → AreApart ns
rising_apart [] h = tt
rising_apart (n ∷ ns) h = (none_of n ns h.0 h.1, rising_apart ns h.1)
