-- The clauses of a type answer as they denote, at each datum in the type's definition, where what they owe is true.
use Rattle.std.proofs.Common.{◌≡◌, ℕ, ◌≤◌, List, [], ◌∷◌, length, Bool, true, false, ◌&&◌, Option, Some, None, is_some, pos, refl, sym, ap, ◌∙◌, subst, arith}
use Rattle.wy_value.specs.Datum.{Datum, Null, Truth, Whole, Array, Record}
use Rattle.wy_core.specs.CoreTree.{Expr, Alias}
use Rattle.wy_term.specs.Term.{Term}
use Rattle.wy_term.specs.Meaning.{Names}
use Rattle.wy_sem.specs.Meter.{Meter, Outcome, Done, Fault, More, Spent, ◌>>=◌, choose}
use Rattle.wy_sem.specs.Operations.{as_truth}
use Rattle.wy_sem.specs.Expressions as sem
use Rattle.wy_sem.specs.Expressions.{node}
use Rattle.wy_sem.specs.TypeTests.{answer, has_clauses, unset, set_if, all_hold}
use Rattle.wy_sound_statements.specs.wy_vc_spec.Numbered.{Node}
use Rattle.wy_sound_statements.specs.wy_vc_spec.Making.{val_name, formula}
use Rattle.wy_sound_statements.specs.wy_vc_spec.Variables.{Vars, put}
use Rattle.wy_sound_statements.specs.wy_vc_spec.Values.{Valued, word_at, value, named_in}
use Rattle.wy_sound_statements.specs.wy_vc_spec.Owed.{assume}
use Rattle.wy_sound_statements.specs.wy_vc_spec.Clauses.{assume_in_type, in_type}
use Rattle.wy_sound_statements.specs.wy_vc_spec.Calls.{Walked, call_walk}
use Rattle.wy_sound_statements.specs.wy_vc_spec.Walks.{Program, walk_expr}
use Rattle.wy_sound_statements.specs.wy_vc_spec.Statements.{walk_clauses}
use Rattle.wy_sound_statements.specs.wy_vc_spec.Programs.{alias_conditions}
use Rattle.wy_vc_laws.proofs.wy_sound_terms_proofs.formed_lemmas.MakingLemmas.{val_name_sorted}
use Rattle.wy_vc_laws.proofs.wy_sound_terms_proofs.formed_lemmas.ValueLemmas.{AreData, no_data, put_data, named_sorted}
use Rattle.wy_vc_laws.specs.wy_sound_terms.operations.Kinds.{IsTruth}
use Rattle.wy_vc_laws.proofs.wy_sound_terms_proofs.operations_lemmas.MadeLemmas.{formula_means}
use Rattle.wy_sound_statements.specs.wy_sound_walks.expressions.Names.{Known, Means, Stand, also}
use Rattle.wy_sound_statements.specs.wy_sound_walks.expressions.Types.{is_in}
use Rattle.wy_sound_statements.specs.wy_sound_walks.expressions.Written.{IsWritten}
use Rattle.wy_sound_statements.specs.wy_sound_walks.expressions.Truth.{AreTrueBy, Good}
use Rattle.wy_sound_statements.specs.wy_sound_walks.expressions.Sound.{Ok}
use Rattle.wy_sound_statements.specs.wy_sound_walks.expressions.Suits.{Answers}
use Rattle.wy_sound_statements.specs.wy_sound_walks.expressions.Laws.{NamesTold}
use Rattle.wy_sound_statements.proofs.wy_sound_walks_proofs.expressions_lemmas.NameLemmas.{agree_refl, agree_less, means_later, right_later, stand_later, stand_put}
use Rattle.wy_sound_statements.proofs.wy_sound_walks_proofs.expressions_lemmas.GoodLemmas.{true_left, true_right}
use Rattle.wy_sound_statements.proofs.wy_sound_walks_proofs.expressions_lemmas.AssumeLemmas.{assumed_true}
use Rattle.wy_sound_statements.proofs.wy_sound_walks_proofs.expressions_lemmas.ValueGrows.{named_grows}
use Rattle.wy_sound_statements.proofs.wy_sound_walks_proofs.expressions_lemmas.CallGrows.{in_type_grows}
use Rattle.wy_sound_statements.proofs.wy_sound_walks_proofs.expressions_lemmas.GenericWalks.{walk_is}
use Rattle.wy_sound_statements.proofs.wy_sound_walks_proofs.expressions_lemmas.LawLemmas.{expr_grows, quiet_right, types_told}
use Rattle.wy_sound_statements.specs.wy_sound_walks.clauses.Quiet.{CallsNothing}
use Rattle.wy_sound_statements.proofs.wy_sound_walks_proofs.clauses_lemmas.ValueLemmas.{value_is, of_walk}
use Rattle.wy_sound_types.specs.members.Denotations.{is_true, with_value, nothing_had, value_if, denoted, clauses_denote}
use Rattle.wy_sound_types.specs.members.Tests.{TestsWritten, ClauseTestsWritten}
use Rattle.wy_sound_types.specs.Tests.{ClauseMeets, ClausesMeet, no_variable}
use Rattle.wy_sound_types.proofs.members_lemmas.DenotationLemmas.{Have, have_later, put_have, nothing_have, value_told}

module _ (w : sem.Setting Node) (paid : Bool) (p : Program Node) (members : ℕ → Datum → Bool) (told : NamesTold members (named_in p.setting)) (words : List (List ℕ)) (vars : Vars) (names : Names) (seen : ℕ → Bool) (st : sem.Store) (has : ℕ → Datum) (right : names.is_member ≡ members) (da : AreData vars) where
  abbrev W : Expr Node → List Term → ℕ → Walked
  W e hyps n = walk_expr p words e vars hyps n

  abbrev D : Expr Node → Datum
  D e = denoted members p.setting.is_number e has

  named_up : (number n : ℕ) (v : Term) → n ≤ (named_in p.setting number v n).count
  named_up number n v = named_grows p.setting (length p.setting.types) number n v

  term_is : (e : Expr Node) → CallsNothing e → (hyps : List Term) (n : ℕ) → value p.setting (named_in p.setting) words e vars n ≡ of_walk (W e hyps n)
  term_is e q hyps n =
      value_is p.setting (named_in p.setting) (call_walk p.setting p.routines) words e q vars hyps n
      ∙ ap of_walk (sym (walk_is p.setting (call_walk p.setting p.routines) words e vars hyps n))

  means_denoted : (e : Expr Node) → CallsNothing e → TestsWritten e → (hyps : List Term) (n : ℕ) → Have n names vars has → Means (W e hyps n).count names (W e hyps n).term (D e)
  means_denoted e q wr hyps n h =
      subst (λ (r : Valued). Means r.count names r.term (D e)) (term_is e q hyps n) (value_told members (named_in p.setting) (named_sorted p.setting) named_up told p.setting words e wr vars n names has right da h)

  -- an answer is what the expression denotes
  answer_denoted : (e : Expr Node) (hyps : List Term) (n : ℕ) (d : Datum) → Means (W e hyps n).count names (W e hyps n).term (D e) → Ok true n names (W e hyps n).count (W e hyps n).hyps (W e hyps n).term d → D e ≡ d
  answer_denoted e hyps n d h x =
      let c = (W e hyps n).count in
      sym (h names (agree_refl c names)) ∙ subst (λ (u : Names). Means c u (W e hyps n).term d) x.goes x.means names (agree_refl c names)

  -- what is known behind a clause that is true
  known_behind : (e : Expr Node) (hyps : List Term) (n : ℕ) → Ok true n names (W e hyps n).count (W e hyps n).hyps (W e hyps n).term (Truth true) → Known (W e hyps n).count names (assume (W e hyps n).hyps (formula (W e hyps n).term))
  known_behind e hyps n x =
      let v = W e hyps n in
      subst (λ (u : Names). Known v.count u (assume v.hyps (formula v.term))) x.goes (λ u a. assumed_true u v.hyps (formula v.term) (x.known u a) (formula_means u v.term true (x.means u a)))

  stands : (e : Expr Node) (hyps : List Term) (n : ℕ) → Stand n names vars seen st → Stand (W e hyps n).count names vars seen st
  stands e hyps n sd = stand_later n (W e hyps n).count names names vars seen st (expr_grows p.setting p.routines words e vars hyps n) (agree_refl n names) sd

  haves : (e : Expr Node) (hyps : List Term) (n : ℕ) → Have n names vars has → Have (W e hyps n).count names vars has
  haves e hyps n h = have_later n (W e hyps n).count names names vars has (expr_grows p.setting p.routines words e vars hyps n) (agree_refl n names) h

  -- the truth value that the first clause gave, and then the others
  module _ (e : Expr Node) (es : List (Expr Node)) (hyps : List Term) (n : ℕ) (rest : Bool) (next : (k : Meter) → Known (W e hyps n).count names (assume (W e hyps n).hyps (formula (W e hyps n).term)) → Answers rest (all_hold w paid es st k)) where
    go_on : (d : Datum) (k : Meter) → IsTruth d → D e ≡ d → Ok true n names (W e hyps n).count (W e hyps n).hyps (W e hyps n).term d
        → Answers (is_true (D e) && rest) (as_truth (w.place (node e)) d (λ b. choose b (all_hold w paid es st) (answer false)) k)
    go_on (Truth true) k t same x = subst (λ (c : Datum). Answers (is_true c && rest) (all_hold w paid es st k)) (sym same) (next k (known_behind e hyps n x))
    go_on (Truth false) k t same x = subst (λ (c : Datum). false ≡ (is_true c && rest)) (sym same) refl
    go_on Null k t same x = absurd t
    go_on (Whole z) k t same x = absurd t
    go_on (Array ds) k t same x = absurd t
    go_on (Record fs) k t same x = absurd t

    from_outcome : (A : Type 0) → A → Means (W e hyps n).count names (W e hyps n).term (D e) → (m : Meter) (o : Outcome Datum) → sem.eval w paid e st m ≡ o → ClauseMeets w paid p.setting members seen st e
        → Good A o (Ok true n names (W e hyps n).count (W e hyps n).hyps (W e hyps n).term)
        → Answers (is_true (D e) && rest) (o >>= (λ v. as_truth (w.place (node e)) v (λ b. choose b (all_hold w paid es st) (answer false))))
    from_outcome A a h m (Done d k) eq meets x = go_on d k (meets.truth d m k eq) (answer_denoted e hyps n d h x) x
    from_outcome A a h m (Fault kind at k) eq meets x = absurd (x a)
    from_outcome A a h m (More k) eq meets x = tt
    from_outcome A a h m Spent eq meets x = tt

  pub all_tell : (es : List (Expr Node)) (hyps : List Term) (n : ℕ) → ClauseTestsWritten es → ClausesMeet w paid p.setting members seen st es → Stand n names vars seen st → Known n names hyps → Have n names vars has
      → AreTrueBy members (walk_clauses p words es vars hyps n).owed → (m : Meter) → Answers (clauses_denote members p.setting.is_number es has) (all_hold w paid es st m)
  all_tell [] hyps n wr meet sd kn h t m = refl
  all_tell (e ∷ es) hyps n wr meet sd kn h t m =
      let v = W e hyps n in
      let rest = walk_clauses p words es vars (assume v.hyps (formula v.term)) v.count in
      from_outcome e es hyps n (clauses_denote members p.setting.is_number es has)
      (λ k known. all_tell es (assume v.hyps (formula v.term)) v.count wr.1 meet.1 (stands e hyps n sd) known (haves e hyps n h) (true_right members v.owed rest.owed t) k)
      (AreTrueBy members v.owed) (true_left members v.owed rest.owed t) (means_denoted e meet.0.quiet wr.0 hyps n h) m (sem.eval w paid e st m) refl meet.0
      (quiet_right w paid p.setting p.routines members told words e vars hyps n names seen st m meet.0.suits right da sd kn)

-- ---- a type

module _ (w : sem.Setting Node) (paid : Bool) (p : Program Node) (members : ℕ → Datum → Bool) (told : NamesTold members (named_in p.setting)) (a : Alias Node) (ty : IsWritten a.ty) (tests : ClauseTestsWritten a.clauses) (d : Datum) (inside : is_in members a.ty d ≡ true) where
  -- every name stands for the datum
  abbrev names : Names
  names = record { datum_of = λ word n. d; number_of = λ word n. pos 0; is_member = members }

  name_means : (word : List ℕ) → Means 1 names (val_name word 0) d
  name_means word u b = b.datum_of word 0 (omega arith)

  start_known : (word : List ℕ) → Known (assume_in_type p.setting a.ty (val_name word 0) [] 1).count names (assume_in_type p.setting a.ty (val_name word 0) [] 1).hyps
  start_known word u b =
      let f = in_type p.setting a.ty (val_name word 0) 1 in
      let grows = in_type_grows p.setting a.ty (val_name word 0) 1 in
      let c = agree_less 1 f.count names u grows b in
      assumed_true u [] f.term tt
      (types_told p.setting members told a.ty 1 (val_name word 0) u d ty (right_later members 1 names u refl c) (val_name_sorted word 0).has (means_later 1 1 names u (val_name word 0) d (omega arith) c (name_means word)) ∙ inside)

  with_variable : (x : ℕ) → AreTrueBy members (alias_conditions p a (Some x)) → ClausesMeet w paid p.setting members (also x no_variable) (sem.put (unset a.variables) x (Some d)) a.clauses
      → (m : Meter) → Answers (clauses_denote members p.setting.is_number a.clauses (value_if (Some x) d)) (all_hold w paid a.clauses (sem.put (unset a.variables) x (Some d)) m)
  with_variable x owed meet m =
      let word = word_at a.variables x in
      let v = val_name word 0 in
      let start = assume_in_type p.setting a.ty v [] 1 in
      let grows = in_type_grows p.setting a.ty v 1 in
      let nothing : Stand 1 names [] no_variable (unset a.variables) = λ y e see q. absurd (none see) in
      let here = stand_put 1 names [] no_variable (unset a.variables) x v d nothing (name_means word) in
      all_tell w paid p members told a.variables (put [] x v) names (also x no_variable) (sem.put (unset a.variables) x (Some d)) (with_value x d nothing_had) refl (put_data x no_data (val_name_sorted word 0))
      a.clauses start.hyps start.count tests meet
      (stand_later 1 start.count names names (put [] x v) (also x no_variable) (sem.put (unset a.variables) x (Some d)) grows (agree_refl 1 names) here)
      (start_known word)
      (have_later 1 start.count names names (put [] x v) (with_value x d nothing_had) grows (agree_refl 1 names) (put_have 1 names [] nothing_had x v d (nothing_have 1 names) (name_means word)))
      owed m
    where
      none : false ≡ true → ⊥
      none e = absurd cc

  pub alias_tells : (x : Option ℕ) → is_some x ≡ has_clauses a.clauses → AreTrueBy members (alias_conditions p a x) → ((y : ℕ) → x ≡ Some y → ClausesMeet w paid p.setting members (also y no_variable) (sem.put (unset a.variables) y (Some d)) a.clauses)
      → (m : Meter) → Answers (clauses_denote members p.setting.is_number a.clauses (value_if x d)) (all_hold w paid a.clauses (set_if (unset a.variables) x (Some d)) m)
  alias_tells None has owed meet m = by a.clauses has where
    by : (es : List (Expr Node)) → false ≡ has_clauses es → Answers (clauses_denote members p.setting.is_number es (value_if None d)) (all_hold w paid es (unset a.variables) m)
    by [] e = refl
    by (f ∷ es) e = absurd cc
  alias_tells (Some x) has owed meet m = with_variable x owed (meet x refl) m
