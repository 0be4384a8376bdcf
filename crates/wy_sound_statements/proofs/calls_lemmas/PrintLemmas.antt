-- What `print` owes is that each item of its text is a character of ASCII.
use Rattle.std.proofs.Common.{◌≡◌, ℕ, suc, ◌+◌, ◌<◌, ◌≤◌, List, [], ◌∷◌, Bool, true, false, ◌&&◌, Option, ℤ, pos, ◌-ℤ◌, int_le, refl, sym, ap, ◌∙◌, subst, arith}
use Rattle.wy_lemmas.proofs.Choices.{and_end}
use Rattle.wy_lemmas.proofs.Equations.{both_same}
use Rattle.wy_sound_statements.proofs.calls_lemmas.CallLemmas.{no_datum_is}
use Rattle.wy_sound_kinds.proofs.wy_sound_walks_proofs.expressions_lemmas.HoldsLemmas.{far}
use Rattle.wy_value.specs.Datum.{Datum, Null, Truth, Whole, Array, Record, Data, no_items, item}
use Rattle.wy_term.specs.declared.cond.CondKind.TheVariants as kind
use Rattle.wy_term.specs.Term.{Term}
use Rattle.wy_term.specs.Sorts.{val_sort, formula_sort}
use Rattle.wy_term.specs.Data.{number_in, length_in, length_of, nth, item_at, element}
use Rattle.wy_term.specs.Meaning.{Names, with_number, each_from, distance}
use Rattle.wy_sound_kinds.specs.wy_sem.Meter.{Meter, Outcome, Done, Run, ◌>>=◌, count, check}
use Rattle.wy_sound_kinds.specs.wy_sem.Operations.{nat_of, as_number}
use Rattle.wy_sound_kinds.specs.wy_sem.Evaluation.{is_ascii, text_of, printed, print_call}
use Rattle.wy_sound_kinds.specs.wy_vc_spec.Making.{number_of, int_name, num, len, get, all_of, at_most}
use Rattle.wy_sound_kinds.specs.wy_vc_spec.Values.{k_word, valued}
use Rattle.wy_sound_kinds.specs.wy_vc_spec.Clauses.{one_goal, pass_goals}
use Rattle.wy_sound_kinds.specs.wy_vc_spec.Calls.{are_characters, print_walk}
use Rattle.wy_sound_kinds.proofs.wy_sound_terms_proofs.formed_lemmas.MakingLemmas.{IsOf, none, more, number_sorted, int_name_sorted, num_sorted, len_sorted, get_sorted, at_most_sorted, all_sorted}
use Rattle.wy_sound_kinds.specs.wy_sound_terms.operations.Kinds.{IsWhole}
use Rattle.wy_sound_kinds.proofs.wy_sound_terms_proofs.operations_lemmas.MadeLemmas.{holds as true_at, number, datum, num_means, len_means, get_means, at_most_means, all_means}
use Rattle.wy_sound_kinds.specs.wy_sound_walks.expressions.Names.{Agree, Known, Means}
use Rattle.wy_sound_kinds.specs.wy_sound_walks.expressions.Truth.{AreTrueBy, Good}
use Rattle.wy_sound_kinds.specs.wy_sound_walks.expressions.Types.{each_item}
use Rattle.wy_sound_kinds.proofs.wy_sound_walks_proofs.expressions_lemmas.NameLemmas.{agree_refl, agree_less, agree_number, number_at, means_later}
use Rattle.wy_sound_kinds.proofs.wy_sound_walks_proofs.expressions_lemmas.GoodLemmas.{good_map, good_bind, good_turn}
use Rattle.wy_sound_kinds.proofs.wy_sound_walks_proofs.expressions_lemmas.AssumeLemmas.{assumed_true}
use Rattle.wy_sound_kinds.proofs.wy_sound_walks_proofs.expressions_lemmas.QuantifierLemmas.{bound_means}
use Rattle.wy_sound_statements.specs.calls.CallLaws.{Returned}
use Rattle.wy_sound_statements.specs.calls.PrintLaws.{AllWhole, PrintsAreSound}

abbrev is_character : Datum → Bool
is_character d = int_le (pos 0) (number_in d) && int_le (number_in d) (pos 127)

-- ---- what the goal says

-- every item from the number i on
each_is : (ds : Data) (test : ℤ → Bool) (p : Datum → Bool) (i : ℕ) → ((j : ℕ) → j < length_of ds → test (pos (i + j)) ≡ p (nth ds j)) → each_from (pos i) (length_of ds) test ≡ each_item p ds
each_is no_items test p i h = refl
each_is (item d ds) test p i h =
    let at0 : i + 0 ≡ i = omega arith in
    let first : test (pos i) ≡ p d = subst (λ (m : ℕ). test (pos m) ≡ p d) at0 (h 0 (omega arith)) in
    let rest : each_from (pos (i + 1)) (length_of ds) test ≡ each_item p ds =
    each_is ds test p (i + 1) (λ j lt. let e : i + suc j ≡ i + 1 + j = omega arith in subst (λ (m : ℕ). test (pos m) ≡ p (nth ds j)) e (h (suc j) (omega arith))) in
    rw (first, rest) refl

module _ (n : ℕ) (v : Term) (is : IsOf val_sort v) where
  abbrev one : Term
  one = get v (int_name k_word n)

  abbrev low : Term
  low = at_most (number_of (pos 0)) (num one)

  abbrev high : Term
  high = at_most (num one) (number_of (pos 127))

  body_sorted : IsOf formula_sort (all_of (low ∷ high ∷ []))
  body_sorted =
      let item_is = num_sorted (get_sorted is (int_name_sorted k_word n)) in
      all_sorted (more (at_most_sorted (number_sorted (pos 0)) item_is) (more (at_most_sorted item_is (number_sorted (pos 127))) none))

  -- the body where the number of an item is bound
  one_is : (u : Names) (ds : Data) (j : ℕ) → Means n u v (Array ds) → true_at (with_number u k_word n (pos j)) (all_of (low ∷ high ∷ [])) ≡ is_character (nth ds j)
  one_is u ds j h =
      let w = with_number u k_word n (pos j) in
      let elem : datum w one ≡ nth ds j =
      get_means w v (int_name k_word n) ∙ (ap (λ (e : Datum). element e (number w (int_name k_word n))) (h w (agree_number n u k_word n (pos j) (omega arith))) ∙ ap (item_at ds) (number_at u k_word n (pos j))) in
      let value : number w (num one) ≡ number_in (nth ds j) = num_means w one ∙ ap number_in elem in
      all_means w (low ∷ high ∷ [])
      ∙ both_same (λ (x y : Bool). x && y) (true_at w low) (int_le (pos 0) (number_in (nth ds j))) (true_at w high && true) (int_le (number_in (nth ds j)) (pos 127))
      (at_most_means w (number_of (pos 0)) (num one) ∙ ap (int_le (pos 0)) value)
      (and_end (true_at w high) ∙ (at_most_means w (num one) (number_of (pos 127)) ∙ ap (λ (z : ℤ). int_le z (pos 127)) value))

  characters_are : (u : Names) (ds : Data) → Means n u v (Array ds) → true_at u (are_characters v n) ≡ each_item is_character ds
  characters_are u ds h =
      let test = λ (i : ℤ). true_at (with_number u k_word n i) (all_of (low ∷ high ∷ [])) in
      bound_means true k_word n (number_of (pos 0)) (len v) (all_of (low ∷ high ∷ [])) u (number_sorted (pos 0)) (len_sorted is) body_sorted
      ∙ (ap (λ (z : ℤ). each_from (pos 0) (distance (z -ℤ pos 0)) test) (len_means u v ∙ ap length_in (h u (agree_refl n u)))
      ∙ (ap (λ (m : ℕ). each_from (pos 0) m test) (far (length_of ds))
      ∙ each_is ds test is_character 0 (λ j lt. let e : 0 + j ≡ j = omega arith in subst (λ (m : ℕ). test (pos m) ≡ is_character (nth ds j)) (sym e) (one_is u ds j h))))

-- ---- the text

module _ (A : Type 0) (limit : Option ℕ) (at : ℕ) where
  one_more : (b : Bool) (z : ℤ) (ds : Data) (m : Meter) → is_ascii z ≡ b → (A → (b && each_item is_character ds) ≡ true) → (b ≡ true → Good A (text_of limit at ds m) (λ bytes. each_item is_character ds ≡ true))
      → Good A (check b kind.Requires at (λ k. text_of limit at ds k >>= (λ bytes. Done (nat_of z ∷ bytes))) m) (λ bytes. (b && each_item is_character ds) ≡ true)
  one_more true z ds m e h g =
      good_bind A A A (text_of limit at ds m) (λ bytes. Done (nat_of z ∷ bytes)) (λ bytes. each_item is_character ds ≡ true) (λ bytes. each_item is_character ds ≡ true) (λ a. a) (λ a. a) (g refl) (λ bytes k eq all. all)
  one_more false z ds m e h g = λ a. let no_way : false ≡ true = h a in absurd cc

  text_right : (ds : Data) → AllWhole ds → (A → each_item is_character ds ≡ true) → (m : Meter) → Good A (text_of limit at ds m) (λ bytes. each_item is_character ds ≡ true)
  text_right no_items w h m = refl
  text_right (item (Whole z) ds) w h m =
      good_turn A limit false (as_number at (Whole z) (λ y. check (is_ascii y) kind.Requires at (λ k. text_of limit at ds k >>= (λ bytes. Done (nat_of y ∷ bytes))))) (λ bytes. (is_ascii z && each_item is_character ds) ≡ true)
      (λ k. one_more (is_ascii z) z ds k refl h (λ e. text_right ds w.1 (λ a. rest (is_ascii z) (each_item is_character ds) (h a)) k)) m where
        rest : (a b : Bool) → (a && b) ≡ true → b ≡ true
        rest true b e = e
        rest false b e = absurd cc
  text_right (item Null ds) w h m = absurd w.0
  text_right (item (Truth b) ds) w h m = absurd w.0
  text_right (item (Array es) ds) w h m = absurd w.0
  text_right (item (Record fs) ds) w h m = absurd w.0

-- ---- the calls

pub prints_sound : PrintsAreSound
prints_sound = record {
  text = λ members limit from at n t hyps names ds m whole right t_is means h.
      let is : IsOf val_sort t = record { has = t_is } in
      let f = are_characters t n in
      let owed = (print_walk from (t ∷ []) hyps n).owed in
      let A = AreTrueBy members owed in
      let characters = characters_are n t is in
      good_bind A A A (text_of limit at ds m) printed (λ bytes. each_item is_character ds ≡ true) (Returned n names (print_walk from (t ∷ []) hyps n)) (λ a. a) (λ a. a)
      (text_right A limit at ds whole (λ a. sym (characters names ds means) ∙ a.0 names right (h names (agree_refl n names))) m)
      (λ bytes k eq all. record {
        later = names;
        agree = agree_refl n names;
        known = λ u a. let b = agree_less n (suc n) names u (omega arith) a in assumed_true u hyps f (h u b) (characters u ds (means_later n n names u t (Array ds) (omega arith) b means) ∙ all);
        means = λ d e. absurd (no_datum_is d e);
      });
  number = λ at n hyps names z m h. record {
    later = names;
    agree = agree_refl n names;
    known = h;
    means = λ d e. absurd (no_datum_is d e);
  };
}
