-- Each condition of a program lists the types that it tests.
use Rattle.std.proofs.Common.{◌≡◌, ◌<◌, ◌+◌, ◌⊎◌, inl, inr, ℕ, suc, Bool, true, false, eqb, ◌||◌, List, [], ◌∷◌, ◌++◌, map, length, refl, sym, ap, subst}
use Rattle.std.proofs.lemmas.Bool.{or_cases, or_left, or_right, eqb-true}
use Rattle.wy_sound_terms.specs.wy_core.Types.{Ty}
use Rattle.wy_sound_terms.specs.wy_core.CoreTree.{Decl, AliasDecl, RoutineDecl, Core, aliases_of}
use Rattle.wy_lemmas.proofs.Choices.{eqb_itself as eqb_self}
use Rattle.wy_check_laws.specs.wy_term.Term.{Term}
use Rattle.wy_check_laws.specs.wy_term.Condition.{Entry}
use Rattle.wy_sound_terms.specs.wy_vc_spec.Numbered.{Node, exprs_in_decl, numbered_decls, numbered_core}
use Rattle.wy_sound_terms.specs.wy_vc_spec.Owed.{Owed}
use Rattle.wy_sound_terms.specs.wy_vc_spec.Values.{Setting, test_formula}
use Rattle.wy_sound_terms.specs.wy_vc_spec.Limits.{tests_in, tests_in_all, is_among, types_of, unfolded, unfold_of}
use Rattle.wy_sound_terms.specs.wy_vc_spec.Programs.{setting_of, conditions_of}
use Rattle.wy_sound_terms.specs.formed.OwedConditions.{with_types}
use Rattle.wy_vc_laws.proofs.grounded_lemmas.ReachLemmas.{listed_below, tests_listed, mentioned_listed}
use Rattle.wy_vc_laws.specs.listed_types.Listed.{IsListed, AreTestsListed, AllTestsListed, FormulasTestListed, ListsItsTypes, AllListTheirTypes, OwedConditionsListTheirTypes}

-- ---- numbers among numbers

among_front : (ns ms : List ℕ) (n : ℕ) → is_among ns n ≡ true → is_among (ns ++ ms) n ≡ true
among_front [] ms n h = absurd cc
among_front (k ∷ ns) ms n h = by (λ e. among_front ns ms n e) (or_cases (eqb k n) (is_among ns n) h)
  where
    by : (is_among ns n ≡ true → is_among (ns ++ ms) n ≡ true) → (eqb k n ≡ true) ⊎ (is_among ns n ≡ true) → (eqb k n || is_among (ns ++ ms) n) ≡ true
    by rest (inl e) = or_left (eqb k n) (is_among (ns ++ ms) n) e
    by rest (inr e) = or_right (eqb k n) (is_among (ns ++ ms) n) (rest e)

among_back : (ns ms : List ℕ) (n : ℕ) → is_among ms n ≡ true → is_among (ns ++ ms) n ≡ true
among_back [] ms n h = h
among_back (k ∷ ns) ms n h = or_right (eqb k n) (is_among (ns ++ ms) n) (among_back ns ms n h)

-- what one formula tests is tested by all that begins with some and goes on with others
tests_behind : (fs gs : List Term) (n : ℕ) → is_among (tests_in_all gs) n ≡ true → is_among (tests_in_all (fs ++ gs)) n ≡ true
tests_behind [] gs n h = h
tests_behind (f ∷ fs) gs n h = among_back (tests_in f) (tests_in_all (fs ++ gs)) n (tests_behind fs gs n h)

-- ---- numbering keeps how many types there are

same_count : (ds : List (Decl ℕ)) (k : ℕ) → length (aliases_of (numbered_decls ds k)) ≡ length (aliases_of ds)
same_count [] k = refl
same_count (AliasDecl a ∷ ds) k = ap suc (same_count ds (k + exprs_in_decl (AliasDecl a)))
same_count (RoutineDecl r ∷ ds) k = same_count ds (k + exprs_in_decl (RoutineDecl r))

-- ---- conditions

module _ {N : Type 0} (s : Setting N) where
  -- a number among these is that of one of their entries, and the other way round
  entry_of : (ns : List ℕ) (n : ℕ) → is_among ns n ≡ true → IsListed n (map (unfolded s) ns)
  entry_of [] n h = absurd cc
  entry_of (k ∷ ns) n h = by (λ e. entry_of ns n e) (or_cases (eqb k n) (is_among ns n) h)
    where
      by : (is_among ns n ≡ true → IsListed n (map (unfolded s) ns)) → (eqb k n ≡ true) ⊎ (is_among ns n ≡ true) → IsListed n (map (unfolded s) (k ∷ ns))
      by rest (inl e) = inl (sym (eqb-true k n e))
      by rest (inr e) = inr (rest e)

  among_of : (ns : List ℕ) (n : ℕ) → IsListed n (map (unfolded s) ns) → is_among ns n ≡ true
  among_of [] n h = absurd h
  among_of (k ∷ ns) n (inl e) = or_left (eqb k n) (is_among ns n) (subst (λ (m : ℕ). eqb k m ≡ true) (sym e) (eqb_self k))
  among_of (k ∷ ns) n (inr h) = or_right (eqb k n) (is_among ns n) (among_of ns n h)

  module _ (c : Owed) where
    abbrev Listed : ℕ → Type 0
    Listed n = IsListed n (unfold_of s c)

    listed_type : (n : ℕ) → is_among (types_of s c) n ≡ true → Listed n
    listed_type n h = entry_of (types_of s c) n h

    tested : (n : ℕ) → is_among (tests_in_all (c.hyps ++ c.goal ∷ [])) n ≡ true → n < length s.types → Listed n
    tested n h less = listed_type n (mentioned_listed s c n h less)

    all_tested : (fs gs : List Term) → ((n : ℕ) → is_among (tests_in_all (fs ++ gs)) n ≡ true → n < length s.types → Listed n) → AllTestsListed (length s.types) (unfold_of s c) fs
    all_tested [] gs f = tt
    all_tested (g ∷ fs) gs f = (
      λ n less h. f n (among_front (tests_in g) (tests_in_all (fs ++ gs)) n h) less,
      all_tested fs gs (λ n h less. f n (among_back (tests_in g) (tests_in_all (fs ++ gs)) n h) less),
    )

    goal_tested : AreTestsListed (length s.types) (unfold_of s c) c.goal
    goal_tested n less h = tested n (tests_behind c.hyps (c.goal ∷ []) n (among_front (tests_in c.goal) [] n h)) less

    all_told : (ns : List ℕ) → ((b : ℕ) → is_among ns b ≡ true → is_among (types_of s c) b ≡ true) → FormulasTestListed (length s.types) (unfold_of s c) (map (unfolded s) ns)
    all_told [] within = tt
    all_told (b ∷ ns) within = (
      λ n less h. listed_type n (tests_listed s c b n (within b (or_left (eqb b b) (is_among ns b) (eqb_self b))) h less),
      all_told ns (λ m h. within m (or_right (eqb b m) (is_among ns m) h)),
    )

    lists_its_types : ListsItsTypes (length s.types) (with_types s c)
    lists_its_types = record {
      hyps = all_tested c.hyps (c.goal ∷ []) tested;
      goal = goal_tested;
      types = all_told (types_of s c) (λ b h. h);
      declared = (λ n h. listed_below s c n (among_of (types_of s c) n h));
    }

  all_list : (cs : List Owed) → AllListTheirTypes (length s.types) (map (with_types s) cs)
  all_list [] = tt
  all_list (c ∷ cs) = (lists_its_types c, all_list cs)

pub conditions_list : OwedConditionsListTheirTypes
conditions_list core flow =
    subst (λ (count : ℕ). AllListTheirTypes count (map (with_types (setting_of (numbered_core core) flow)) (conditions_of core flow))) (same_count core 0) (all_list (setting_of (numbered_core core) flow) (conditions_of core flow))
