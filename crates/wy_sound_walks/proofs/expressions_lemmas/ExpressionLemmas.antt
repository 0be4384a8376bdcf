-- An expression: its evaluation follows its walk.
use Rattle.std.proofs.Common.{◌≡◌, ℕ, zero, suc, ◌+◌, ◌≤◌, List, [], ◌∷◌, ◌++◌, Bool, true, false, ◌&&◌, Some, ℤ, int_le, int_lt, refl, arith}
use Rattle.wy_value.specs.Datum.{Datum, Null, Truth, Whole, Array, Record, no_fields, field}
use Rattle.wy_core.specs.Types.{Ty}
use Rattle.wy_core.specs.CoreTree.{Expr, NullExpr, BoolExpr, IntExpr, VarExpr, CallExpr, NegExpr, NotExpr, LenExpr, BinaryExpr, IsExpr, IndexExpr, FieldExpr, ListExpr, RepeatExpr, RecordExpr, QuantExpr, Exprs, NoExprs, MoreExprs, Fields, NoFields, MoreFields, Alias}
use Rattle.wy_term.specs.declared.cond.CondKind.TheVariants as kind
use Rattle.wy_term.specs.Term.{Term}
use Rattle.wy_term.specs.Sorts.{val_sort, formula_sort}
use Rattle.wy_term.specs.Meaning.{Names, sense}
use Rattle.wy_sound_terms.specs.wy_sem.Meter.{Meter, Done, Run, ◌>>=◌, turn}
use Rattle.wy_sound_terms.specs.wy_sem.Operations.{needed, negated, denied, length_result, operated, item_of, field_of, repeated}
use Rattle.wy_sound_terms.specs.wy_sem.Expressions.{Store, slot, node, span, each, quantified, eval, eval_all, eval_fields}
use Rattle.wy_sound_terms.specs.wy_sem.Expressions as store
use Rattle.wy_sound_terms.specs.wy_vc_spec.Making.{number_of, int_name, num, field as field_term, null, truth, int, value_of, at_most, less_than}
use Rattle.wy_sound_terms.specs.wy_vc_spec.Variables.{Vars, put}
use Rattle.wy_sound_terms.specs.wy_vc_spec.Operations as op
use Rattle.wy_sound_terms.specs.wy_vc_spec.Values.{Setting, word_at, variable, field_names}
use Rattle.wy_sound_terms.specs.wy_vc_spec.Owed.{Owed, assume}
use Rattle.wy_sound_terms.specs.wy_vc_spec.Calls.{Walked}
use Rattle.wy_sound_terms.specs.wy_vc_spec.Walks.{WalkedAll, CallWalks, Goals, goals_of, range_goals, index_goals, length_goals, operator_goals, right_hyps, behind_hyps, owe_goals, assume_goals}
use Rattle.wy_sound_terms.proofs.formed_lemmas.MakingLemmas.{IsOf, AllOf, none, null_sorted, truth_sorted, number_sorted, int_sorted, int_name_sorted, field_sorted, negated_sorted, denial_sorted, length_sorted, element_sorted, repeated_sorted}
use Rattle.wy_sound_terms.proofs.formed_lemmas.ValueLemmas.{AreData, put_data, variable_sorted}
use Rattle.wy_sound_terms.proofs.operations_lemmas.MadeLemmas.{int_means}
use Rattle.wy_sound_terms.proofs.operations_lemmas.OtherLemmas.{negation, denial, measured, element, field_value, repeat}
use Rattle.wy_sound_walks.specs.expressions.Names.{Agree, Known, Means, AllMean, Stand, also}
use Rattle.wy_sound_walks.specs.expressions.Written.{IsWritten}
use Rattle.wy_sound_walks.specs.expressions.Truth.{AreTrueBy, Good}
use Rattle.wy_sound_walks.specs.expressions.Suits.{Kinds, Suits, AllSuit, FieldsSuit}
use Rattle.wy_sound_walks.specs.expressions.Sound.{Ok}
use Rattle.wy_sound_walks.proofs.expressions_lemmas.NameLemmas.{agree_trans, goes_agree, goes_refl, right_later, agree_number, stand_later, stand_put}
use Rattle.wy_sound_walks.proofs.expressions_lemmas.GoodLemmas.{true_left, true_right, good_map, good_bind, good_spend, good_turn}
use Rattle.wy_sound_walks.proofs.expressions_lemmas.FinishLemmas.{finish, Two, two_of, pair, pair_right, done_as, means_as}
use Rattle.wy_sound_walks.proofs.expressions_lemmas.ListLemmas.{OkAll, OkFields, OkResult, is_of, ok_more, ok_field, ok_list, ok_record, ok_leaf, ok_call, ok_test, test_end, needed_end, numbers_end}
use Rattle.wy_sound_walks.proofs.expressions_lemmas.GenericWalks.{Tests, walk_by, walk_all_by, walk_fields_by}
use Rattle.wy_sound_walks.proofs.expressions_lemmas.GrowLemmas.{walk_grows, all_grow, fields_grow}
use Rattle.wy_sound_walks.proofs.expressions_lemmas.SortedWalks.{walk_sorted}
use Rattle.wy_sound_walks.proofs.expressions_lemmas.BinaryLemmas.{right_known, binary}
use Rattle.wy_sound_walks.proofs.expressions_lemmas.QuantifierLemmas.{room_start, le_self, Turn, AllTurns, good_each, bound_at, name_means, body_known, body_turn, end_each}
use Rattle.wy_value.specs.Seen.{data_of}

module _ {N : Type 0} (w : Kinds N) (place : N → ℕ) (types : List (Alias N)) (members : ℕ → Datum → Bool) (tests : Tests) (call : CallWalks)
    (tests_grow : (t : Ty) (v : Term) (n : ℕ) → n ≤ (tests t v n).count)
    (formulas : (t : Ty) (n : ℕ) (v : Term) → IsOf val_sort v → IsOf formula_sort (tests t v n).term)
    (tells : (t : Ty) (n : ℕ) (v : Term) (names : Names) (d : Datum) → IsWritten t → names.is_member ≡ members → IsOf val_sort v → Means n names v d → (u : Names) → Agree n names u → (sense u (tests t v n).term).truth ≡ w.says t d)
    (calls_grow : (f at : ℕ) (ts hyps : List Term) (n : ℕ) → n ≤ (call f at ts hyps n).count)
    (calls_sorted : (f at n : ℕ) (ts hyps : List Term) → AllOf val_sort ts → IsOf val_sort (call f at ts hyps n).term)
    (handles : (f from at n : ℕ) (ts hyps : List Term) (names : Names) (vs : List Datum) (m : Meter) → w.takes f vs → names.is_member ≡ members → AllOf val_sort ts → AllMean n names ts vs → Known n names hyps
    → Good (AreTrueBy members (call f from ts hyps n).owed) (w.setting.call f at vs m) (OkResult false n names (call f from ts hyps n).count (call f from ts hyps n).hyps (call f from ts hyps n).term))
    (words : List (List ℕ)) where
  abbrev s : Setting N
  s = record { place = place; is_number = w.is_number; types = types }

  abbrev W : Expr N → Vars → List Term → ℕ → Walked
  W e vars hyps n = walk_by s tests call words e vars hyps n

  abbrev All : Exprs N → Vars → List Term → ℕ → WalkedAll
  All es vars hyps n = walk_all_by s tests call words es vars hyps n

  abbrev AllFields : Fields N → Vars → List Term → ℕ → WalkedAll
  AllFields fs vars hyps n = walk_fields_by s tests call words fs vars hyps n

  grows : (e : Expr N) (vars : Vars) (hyps : List Term) (n : ℕ) → n ≤ (W e vars hyps n).count
  grows e vars hyps n = walk_grows s tests call words tests_grow calls_grow e vars hyps n

  abbrev Right : Bool → Expr N → Vars → List Term → ℕ → Names → Store → Meter → Type 0
  Right q e vars hyps n names st m = Good (AreTrueBy members (W e vars hyps n).owed) (eval w.setting w.paid e st m) (Ok q n names (W e vars hyps n).count (W e vars hyps n).hyps (W e vars hyps n).term)

  -- behind an expression names are still right, and variables stand for their values
  right_after : {q : Bool} {n : ℕ} {names : Names} {m : ℕ} {hyps : List Term} {t : Term} {d : Datum} → names.is_member ≡ members → (x : Ok q n names m hyps t d) → x.later.is_member ≡ members
  right_after {q} {n} {names} right x = right_later members n names x.later right (goes_agree q n names x.later x.goes)

  stand_after : {q : Bool} {n : ℕ} {names : Names} {m : ℕ} {hyps : List Term} {t : Term} {d : Datum} (vars : Vars) (seen : ℕ → Bool) (st : Store) → n ≤ m → Stand n names vars seen st → (x : Ok q n names m hyps t d) → Stand m x.later vars seen st
  stand_after {q} {n} {names} {m} vars seen st le sd x = stand_later n m names x.later vars seen st le (goes_agree q n names x.later x.goes) sd

  mutual
    pub expr : (e : Expr N) (q : Bool) (vars : Vars) (hyps : List Term) (n : ℕ) (names : Names) (seen : ℕ → Bool) (st : Store) (m : Meter) → Suits w q seen e st → names.is_member ≡ members → AreData vars → Stand n names vars seen st → Known n names hyps → Right q e vars hyps n names st m
    expr (NullExpr k) q vars hyps n names seen st m su right da sd h =
        good_spend (Unit {0}) w.paid (Done Null) (Ok q n names n hyps null) (λ l. ok_leaf q n names hyps null Null h (λ u a. refl) null_sorted.has) m
    expr (BoolExpr k b) q vars hyps n names seen st m su right da sd h =
        good_spend (Unit {0}) w.paid (Done (Truth b)) (Ok q n names n hyps (truth b)) (λ l. ok_leaf q n names hyps (truth b) (Truth b) h (λ u a. refl) (truth_sorted b).has) m
    expr (IntExpr k z) q vars hyps n names seen st m su right da sd h =
        good_spend (Unit {0}) w.paid (Done (Whole z)) (Ok q n names n hyps (int (number_of z))) (λ l. ok_leaf q n names hyps (int (number_of z)) (Whole z) h (λ u a. int_means u (number_of z)) (int_sorted (number_sorted z)).has) m
    expr (VarExpr k x) q vars hyps n names seen st m su right da sd h =
        good_spend (Unit {0}) w.paid (needed (w.setting.place k) (slot st x) Done) (Ok q n names n hyps (variable vars x))
        (λ l. needed_end (Unit {0}) (w.setting.place k) q n names n hyps (variable vars x) (slot st x) l su.1.0 su.1.1 (ok_leaf q n names hyps (variable vars x) su.1.0 h (sd x su.1.0 su.0 su.1.1) (variable_sorted da x).has)) m
    expr (CallExpr k f es) q vars hyps n names seen st m su right da sd h =
        let u = All es vars hyps n in let r = call f (place k) u.terms u.hyps u.count in let at = w.setting.place k in
        let A = AreTrueBy members (u.owed ++ r.owed) in
        let P = Ok q n names r.count r.hyps r.term in
        let g1 = all_grow s tests call words tests_grow calls_grow es vars hyps n in
        good_spend A w.paid (λ l. eval_all w.setting w.paid es st l >>= (λ vs j. w.setting.call f at vs j >>= (λ v. needed at v Done))) P (λ l.
        good_bind A (AreTrueBy members u.owed) (AreTrueBy members r.owed) (eval_all w.setting w.paid es st l) (λ vs j. w.setting.call f at vs j >>= (λ v. needed at v Done)) (OkAll q n names u.count u.hyps u.terms) P
        (true_left members u.owed r.owed) (true_right members u.owed r.owed) (exprs es q vars hyps n names seen st l su.1 right da sd h) (λ vs j eq x.
        good_bind (AreTrueBy members r.owed) (AreTrueBy members r.owed) (Unit {0}) (w.setting.call f at vs j) (λ v. needed at v Done) (OkResult false u.count x.later r.count r.hyps r.term) P
        (λ t. t) (λ t. tt)
        (handles f (place k) at u.count u.terms u.hyps x.later vs j (su.2 vs l j eq) (right_later members n names x.later right (goes_agree q n names x.later x.goes)) x.are x.means x.known)
        (λ v i e y. needed_end (Unit {0}) at q n names r.count r.hyps r.term v i y.value y.is (ok_call q n names u.count r.count u.hyps r.hyps u.terms vs r.term y.value su.0 g1 x y.ok)))) m
    expr (NegExpr k a) q vars hyps n names seen st m su right da sd h =
        let v = W a vars hyps n in let at = w.setting.place k in
        let gs = goals_of kind.Range (range_goals (op.negated v.term)) ∷ [] in
        let goals = owe_goals (place k) v.hyps gs in
        let A = AreTrueBy members (v.owed ++ goals) in
        let P = Ok q n names v.count (assume_goals v.hyps gs) (op.negated v.term) in
        good_spend A w.paid (λ l. eval w.setting w.paid a st l >>= negated at) P (λ l.
        good_bind A (AreTrueBy members v.owed) (AreTrueBy members goals) (eval w.setting w.paid a st l) (negated at) (Ok q n names v.count v.hyps v.term) P
        (true_left members v.owed goals) (true_right members v.owed goals) (expr a q vars hyps n names seen st l su.0 right da sd h) (λ d j eq x.
        finish members q n names v.count v.hyps x.later right x.goes x.known (place k) gs (op.negated v.term) (negated_sorted (is_of x.is)).has (negated at d) j
        (λ u ag. negation u v.term at d (x.means u ag) (su.1 d l j eq)))) m
    expr (NotExpr k a) q vars hyps n names seen st m su right da sd h =
        let v = W a vars hyps n in let at = w.setting.place k in
        let A = AreTrueBy members v.owed in
        let P = Ok q n names v.count v.hyps (op.with_denial v.term) in
        good_spend A w.paid (λ l. eval w.setting w.paid a st l >>= denied at) P (λ l.
        good_bind A A (Unit {0}) (eval w.setting w.paid a st l) (denied at) (Ok q n names v.count v.hyps v.term) P (λ t. t) (λ t. tt) (expr a q vars hyps n names seen st l su.0 right da sd h) (λ d j eq x.
        finish members q n names v.count v.hyps x.later right x.goes x.known (place k) [] (op.with_denial v.term) (denial_sorted (is_of x.is)).has (denied at d) j
        (λ u ag. denial u v.term at d (x.means u ag) (su.1 d l j eq)))) m
    expr (LenExpr k a) q vars hyps n names seen st m su right da sd h =
        let v = W a vars hyps n in let at = w.setting.place k in
        let A = AreTrueBy members v.owed in
        let P = Ok q n names v.count v.hyps (op.length v.term) in
        good_spend A w.paid (λ l. eval w.setting w.paid a st l >>= length_result at) P (λ l.
        good_bind A A (Unit {0}) (eval w.setting w.paid a st l) (length_result at) (Ok q n names v.count v.hyps v.term) P (λ t. t) (λ t. tt) (expr a q vars hyps n names seen st l su.0 right da sd h) (λ d j eq x.
        finish members q n names v.count v.hyps x.later right x.goes x.known (place k) [] (op.length v.term) (length_sorted (is_of x.is)).has (length_result at d) j
        (λ u ag. measured u v.term at d (x.means u ag) (su.1 d l j eq)))) m
    expr (BinaryExpr k o a b) q vars hyps n names seen st m su right da sd h =
        let v = W a vars hyps n in let r = W b vars (right_hyps o v.term v.hyps) v.count in
        let numbers = w.is_number (node a) && w.is_number (node b) in
        let made = op.operated o numbers v.term r.term in
        let behind = behind_hyps o v.hyps r.hyps in
        let A = AreTrueBy members ((v.owed ++ r.owed) ++ owe_goals (place k) behind (operator_goals o r.term made)) in
        let P = Ok q n names r.count (assume_goals behind (operator_goals o r.term made)) made in
        let g1 = grows a vars hyps n in let g2 = grows b vars (right_hyps o v.term v.hyps) v.count in
        let r_is = walk_sorted s tests call words formulas calls_sorted b vars (right_hyps o v.term v.hyps) v.count da in
        good_spend A w.paid (λ l. eval w.setting w.paid a st l >>= operated o (w.setting.place k) (eval w.setting w.paid b st)) P (λ l.
        binary members q n names right (place k) (w.setting.place k) numbers v r g1 g2 (eval w.setting w.paid b st) o r_is.has (eval w.setting w.paid a st l)
        (expr a q vars hyps n names seen st l su.0 right da sd h)
        (λ d j eq. su.1 d l j eq)
        (λ d j eq t x i. expr b q vars (right_hyps o v.term v.hyps) v.count x.later seen st i (su.2 d l j eq t).0 (right_after right x) da
        (stand_after vars seen st g1 sd x) (right_known o v.count x.later v.term v.hyps d x.known x.means t))
        (λ d j eq t e i c f. (su.2 d l j eq t).1 e i c f)) m
    expr (IsExpr k a t) q vars hyps n names seen st m su right da sd h =
        let v = W a vars hyps n in let f = tests t v.term v.count in
        let A = AreTrueBy members v.owed in
        let P = Ok q n names f.count v.hyps (value_of f.term) in
        good_spend A w.paid (λ l. eval w.setting w.paid a st l >>= (λ d j. w.setting.test w.paid t d j >>= (λ b. Done (Truth b)))) P (λ l.
        good_bind A A (Unit {0}) (eval w.setting w.paid a st l) (λ d j. w.setting.test w.paid t d j >>= (λ b. Done (Truth b))) (Ok q n names v.count v.hyps v.term) P (λ i. i) (λ i. tt) (expr a q vars hyps n names seen st l su.1 right da sd h) (λ d j eq x.
        test_end q n names f.count v.hyps f.term (w.says t d) (w.setting.test w.paid t d j) (su.2 d l j eq j)
        (ok_test q n names v.count f.count v.hyps v.term f.term d (w.says t d) (tests_grow t v.term v.count) x (tells t v.count v.term x.later d su.0 (right_after right x) (is_of x.is) x.means) (formulas t v.count v.term (is_of x.is))))) m
    expr (IndexExpr k a b) q vars hyps n names seen st m su right da sd h =
        let v = W a vars hyps n in let r = W b vars v.hyps v.count in let at = w.setting.place k in
        let gs = goals_of kind.Index (index_goals v.term r.term) ∷ [] in
        let goals = owe_goals (place k) r.hyps gs in
        let A = AreTrueBy members ((v.owed ++ r.owed) ++ goals) in
        let P = Ok q n names r.count (assume_goals r.hyps gs) (op.element v.term r.term) in
        let g1 = grows a vars hyps n in let g2 = grows b vars v.hyps v.count in
        good_spend A w.paid (λ l. eval w.setting w.paid a st l >>= (λ c j. eval w.setting w.paid b st j >>= item_of at c)) P (λ l.
        pair members q n names v r goals (eval w.setting w.paid a st l) (eval w.setting w.paid b st) (item_of at) P g1 g2 (expr a q vars hyps n names seen st l su.0 right da sd h)
        (λ c x j. expr b q vars v.hyps v.count x.later seen st j su.1 (right_after right x) da (stand_after vars seen st g1 sd x) x.known) (λ c d j i eq f two.
        finish members q n names r.count r.hyps two.later right two.goes two.known (place k) gs (op.element v.term r.term) (element_sorted (is_of two.first_is) (is_of two.second_is)).has (item_of at c d) i
        (λ u ag. element u v.term r.term at c d (two.first u ag) (two.second u ag) (su.2 c l j eq) (su.3 d j i f)))) m
    expr (FieldExpr k a name) q vars hyps n names seen st m su right da sd h =
        let v = W a vars hyps n in let at = w.setting.place k in
        let A = AreTrueBy members v.owed in
        let P = Ok q n names v.count v.hyps (field_term name v.term) in
        good_spend A w.paid (λ l. eval w.setting w.paid a st l >>= (λ d. field_of at d name)) P (λ l.
        good_bind A A (Unit {0}) (eval w.setting w.paid a st l) (λ d. field_of at d name) (Ok q n names v.count v.hyps v.term) P (λ t. t) (λ t. tt) (expr a q vars hyps n names seen st l su.0 right da sd h) (λ d j eq x.
        finish members q n names v.count v.hyps x.later right x.goes x.known (place k) [] (field_term name v.term) (field_sorted name (is_of x.is)).has (field_of at d name) j
        (λ u ag. field_value u v.term name at d (x.means u ag) (su.1 d l j eq)))) m
    expr (ListExpr k es) q vars hyps n names seen st m su right da sd h =
        let u = All es vars hyps n in
        let A = AreTrueBy members u.owed in
        let P = Ok q n names u.count u.hyps (op.list u.terms) in
        good_spend A w.paid (λ l. eval_all w.setting w.paid es st l >>= (λ vs. Done (Array (data_of vs)))) P (λ l.
        good_bind A A (Unit {0}) (eval_all w.setting w.paid es st l) (λ vs. Done (Array (data_of vs))) (OkAll q n names u.count u.hyps u.terms) P (λ t. t) (λ t. tt) (exprs es q vars hyps n names seen st l su right da sd h)
        (λ vs j eq x. ok_list q n names u.count u.hyps u.terms vs x)) m
    expr (RepeatExpr k a b) q vars hyps n names seen st m su right da sd h =
        let v = W a vars hyps n in let r = W b vars v.hyps v.count in let at = w.setting.place k in
        let gs = goals_of kind.Length (length_goals r.term) ∷ [] in
        let goals = owe_goals (place k) r.hyps gs in
        let A = AreTrueBy members ((v.owed ++ r.owed) ++ goals) in
        let P = Ok q n names r.count (assume_goals r.hyps gs) (op.repeated v.term r.term) in
        let g1 = grows a vars hyps n in let g2 = grows b vars v.hyps v.count in
        good_spend A w.paid (λ l. eval w.setting w.paid a st l >>= (λ c j. eval w.setting w.paid b st j >>= repeated at c)) P (λ l.
        pair members q n names v r goals (eval w.setting w.paid a st l) (eval w.setting w.paid b st) (repeated at) P g1 g2 (expr a q vars hyps n names seen st l su.0 right da sd h)
        (λ c x j. expr b q vars v.hyps v.count x.later seen st j su.1 (right_after right x) da (stand_after vars seen st g1 sd x) x.known) (λ c d j i eq f two.
        finish members q n names r.count r.hyps two.later right two.goes two.known (place k) gs (op.repeated v.term r.term) (repeated_sorted (is_of two.first_is) (is_of two.second_is)).has (repeated at c d) i
        (λ u ag. repeat u v.term r.term at c d (two.first u ag) (two.second u ag) (su.2 d j i f)))) m
    expr (RecordExpr k fs) q vars hyps n names seen st m su right da sd h =
        let u = AllFields fs vars hyps n in
        let A = AreTrueBy members u.owed in
        let P = Ok q n names u.count u.hyps (op.record_of (field_names fs) u.terms) in
        good_spend A w.paid (λ l. eval_fields w.setting w.paid fs st l >>= (λ ds. Done (Record ds))) P (λ l.
        good_bind A A (Unit {0}) (eval_fields w.setting w.paid fs st l) (λ ds. Done (Record ds)) (OkFields q n names u.count u.hyps (field_names fs) u.terms) P (λ t. t) (λ t. tt) (parts fs q vars hyps n names seen st l su right da sd h)
        (λ ds j eq x. ok_record q n names u.count u.hyps (field_names fs) u.terms ds x)) m
    expr (QuantExpr k all x a b body) q vars hyps n names seen st m su right da sd h =
        let v = W a vars hyps n in let r = W b vars v.hyps v.count in let at = w.setting.place k in
        let word = word_at words x in
        let name = int_name word r.count in
        let vars2 = put vars x (int name) in
        let hyps2 = assume (assume r.hyps (at_most (num v.term) name)) (less_than name (num r.term)) in
        let p = W body vars2 hyps2 (suc r.count) in
        let A = AreTrueBy members (v.owed ++ (r.owed ++ p.owed)) in
        let P = Ok q n names p.count r.hyps (op.quantified all word r.count v.term r.term p.term) in
        let g1 = grows a vars hyps n in let g2 = grows b vars v.hyps v.count in let g3 = grows body vars2 hyps2 (suc r.count) in
        let le : n ≤ r.count = omega (arith, g1, g2) in
        let past : r.count ≤ p.count = omega (arith, g3) in
        let p_is = walk_sorted s tests call words formulas calls_sorted body vars2 hyps2 (suc r.count) (put_data x da (int_sorted (int_name_sorted word r.count))) in
        let turns : ℤ → Run Datum = λ i. turn w.setting.limit w.paid (eval w.setting w.paid body (store.put st x (Some (Whole i)))) in
        let B = AreTrueBy members p.owed in
        good_spend A w.paid (λ l. eval w.setting w.paid a st l >>= (λ c j. eval w.setting w.paid b st j >>= (λ d. quantified all at turns c d))) P (λ l.
        pair_right members q n names v r p.owed (eval w.setting w.paid a st l) (eval w.setting w.paid b st) (λ c d. quantified all at turns c d) P g1 g2 (expr a q vars hyps n names seen st l su.0 right da sd h)
        (λ c z j. expr b q vars v.hyps v.count z.later seen st j su.1 (right_after right z) da (stand_after vars seen st g1 sd z) z.known) (λ c d j i eq f two.
        numbers_end B at c d (λ from to. each all at turns from (span from to)) P i (su.2 c l j eq) (su.3 d j i f) (λ lo hi ec ed.
        good_map B (each all at turns lo (span lo hi) i) (AllTurns all p.count two.later word r.count p.term lo (span lo hi)) P
        (good_each B p.count two.later word r.count p.term at turns all lo hi
        (λ o low high o_at.
        let there = goes_agree q n names two.later two.goes in
        let between = su.4 o (record { low = lo; high = hi; first = l; second = j; third = i; left = done_as c lo j (eval w.setting w.paid a st l) eq ec; right = done_as d hi i (eval w.setting w.paid b st j) f ed; from = low; below = high }) in
        good_turn B w.setting.limit w.paid (eval w.setting w.paid body (store.put st x (Some (Whole o)))) (Turn p.count two.later word r.count p.term o) (λ o_l.
        good_map B (eval w.setting w.paid body (store.put st x (Some (Whole o))) o_l) (Ok true (suc r.count) (bound_at n r.count names two.later word o le there) p.count p.hyps p.term) (Turn p.count two.later word r.count p.term o)
        (expr body true vars2 hyps2 (suc r.count) (bound_at n r.count names two.later word o le there) (also x seen) (store.put st x (Some (Whole o))) o_l between.0
        (right_later members n names two.later right there) (put_data x da (int_sorted (int_name_sorted word r.count)))
        (stand_put (suc r.count) (bound_at n r.count names two.later word o le there) vars seen st x (int name) (Whole o)
        (stand_later n (suc r.count) names (bound_at n r.count names two.later word o le there) vars seen st (omega (arith, le)) (agree_trans n r.count names two.later (bound_at n r.count names two.later word o le there) le there (agree_number r.count two.later word r.count o (omega arith))) sd)
        (name_means n r.count names two.later word o le there))
        (body_known n r.count names two.later word o le there r.hyps v.term r.term lo hi two.known (means_as c lo v.term r.count two.later two.first ec) (means_as d hi r.term r.count two.later two.second ed) low high))
        (λ e o_k o_eq z. body_turn n r.count names two.later word o le there p.count p.hyps p.term e (between.1 e o_l o_k o_eq) z)) o_at)
        (span lo hi) lo i (le_self lo) (room_start lo hi))
        (λ e o_k o_eq t. end_each q n names r.count p.count r.hyps all word v.term r.term p.term c d e lo hi two p_is.has ec ed past t)))) m

    pub exprs : (es : Exprs N) (q : Bool) (vars : Vars) (hyps : List Term) (n : ℕ) (names : Names) (seen : ℕ → Bool) (st : Store) (m : Meter) → AllSuit w q seen es st → names.is_member ≡ members → AreData vars → Stand n names vars seen st → Known n names hyps
        → Good (AreTrueBy members (All es vars hyps n).owed) (eval_all w.setting w.paid es st m) (OkAll q n names (All es vars hyps n).count (All es vars hyps n).hyps (All es vars hyps n).terms)
    exprs NoExprs q vars hyps n names seen st m su right da sd h = record { later = names; goes = goes_refl q n names; known = h; means = tt; are = none }
    exprs (MoreExprs e es) q vars hyps n names seen st m su right da sd h =
        let v = W e vars hyps n in let r = All es vars v.hyps v.count in
        let A = AreTrueBy members (v.owed ++ r.owed) in
        let P = OkAll q n names r.count r.hyps (v.term ∷ r.terms) in
        let g1 = grows e vars hyps n in let g2 = all_grow s tests call words tests_grow calls_grow es vars v.hyps v.count in
        good_bind A (AreTrueBy members v.owed) (AreTrueBy members r.owed) (eval w.setting w.paid e st m) (λ d k. eval_all w.setting w.paid es st k >>= (λ vs. Done (d ∷ vs))) (Ok q n names v.count v.hyps v.term) P
        (true_left members v.owed r.owed) (true_right members v.owed r.owed) (expr e q vars hyps n names seen st m su.0 right da sd h) (λ d k eq x.
        good_bind (AreTrueBy members r.owed) (AreTrueBy members r.owed) (Unit {0}) (eval_all w.setting w.paid es st k) (λ vs. Done (d ∷ vs)) (OkAll q v.count x.later r.count r.hyps r.terms) P (λ t. t) (λ t. tt)
        (exprs es q vars v.hyps v.count x.later seen st k su.1 (right_after right x) da (stand_after vars seen st g1 sd x) x.known)
        (λ vs j f y. ok_more q n names v.count r.count v.hyps r.hyps v.term r.terms d vs g1 g2 x y))

    pub parts : (fs : Fields N) (q : Bool) (vars : Vars) (hyps : List Term) (n : ℕ) (names : Names) (seen : ℕ → Bool) (st : Store) (m : Meter) → FieldsSuit w q seen fs st → names.is_member ≡ members → AreData vars → Stand n names vars seen st → Known n names hyps
        → Good (AreTrueBy members (AllFields fs vars hyps n).owed) (eval_fields w.setting w.paid fs st m) (OkFields q n names (AllFields fs vars hyps n).count (AllFields fs vars hyps n).hyps (field_names fs) (AllFields fs vars hyps n).terms)
    parts NoFields q vars hyps n names seen st m su right da sd h = record { later = names; goes = goes_refl q n names; known = h; means = λ u a. refl; are = none }
    parts (MoreFields name e fs) q vars hyps n names seen st m su right da sd h =
        let v = W e vars hyps n in let r = AllFields fs vars v.hyps v.count in
        let A = AreTrueBy members (v.owed ++ r.owed) in
        let P = OkFields q n names r.count r.hyps (name ∷ field_names fs) (v.term ∷ r.terms) in
        let g1 = grows e vars hyps n in let g2 = fields_grow s tests call words tests_grow calls_grow fs vars v.hyps v.count in
        good_bind A (AreTrueBy members v.owed) (AreTrueBy members r.owed) (eval w.setting w.paid e st m) (λ d k. eval_fields w.setting w.paid fs st k >>= (λ ds. Done (field name d ds))) (Ok q n names v.count v.hyps v.term) P
        (true_left members v.owed r.owed) (true_right members v.owed r.owed) (expr e q vars hyps n names seen st m su.0 right da sd h) (λ d k eq x.
        good_bind (AreTrueBy members r.owed) (AreTrueBy members r.owed) (Unit {0}) (eval_fields w.setting w.paid fs st k) (λ ds. Done (field name d ds)) (OkFields q v.count x.later r.count r.hyps (field_names fs) r.terms) P (λ t. t) (λ t. tt)
        (parts fs q vars v.hyps v.count x.later seen st k su.1 (right_after right x) da (stand_after vars seen st g1 sd x) x.known)
        (λ ds j f y. ok_field q n names v.count r.count v.hyps r.hyps name (field_names fs) v.term r.terms d ds g1 g2 x y))
