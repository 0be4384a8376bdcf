-- What expressions of code owe is folded.
use Rattle.std.proofs.Common.{ℕ, suc, List, [], ◌∷◌, ◌++◌, true, ◌&&◌, Option, Some, None, pos}
use Rattle.wy_sound_terms.specs.wy_core.declared.expressions.Op.{Op}
use Rattle.wy_sound_terms.specs.wy_core.declared.expressions.Op.TheVariants as sign
use Rattle.wy_sound_terms.specs.wy_core.Types.{Ty}
use Rattle.wy_sound_terms.specs.wy_core.CoreTree as tree
use Rattle.wy_sound_terms.specs.wy_core.CoreTree.{Expr, NullExpr, BoolExpr, IntExpr, VarExpr, CallExpr, NegExpr, NotExpr, LenExpr, BinaryExpr, IsExpr, IndexExpr, FieldExpr, ListExpr, RepeatExpr, RecordExpr, QuantExpr, Exprs, NoExprs, MoreExprs, Fields, NoFields, MoreFields, Param, Routine}
use Rattle.wy_lemmas.proofs.Choices.{pick}
use Rattle.wy_check_laws.specs.wy_value.declared.bounds.TheConstants.{INT_MIN, INT_MAX}
use Rattle.wy_check_laws.specs.wy_term.declared.cond.CondKind.{CondKind}
use Rattle.wy_check_laws.specs.wy_term.declared.cond.CondKind.TheVariants as kind
use Rattle.wy_check_laws.specs.wy_term.Term as term
use Rattle.wy_check_laws.specs.wy_term.Term.{Term, Of, Parts, no_parts, part}
use Rattle.wy_check_laws.specs.wy_term_text.reread.Folded.{AreFolded}
use Rattle.wy_sound_terms.specs.wy_sem.Expressions.{node}
use Rattle.wy_sound_terms.specs.wy_sem.Evaluation.{Callee, Declared, Print, PrintInt, Undeclared, callee}
use Rattle.wy_sound_terms.specs.wy_sem.TypeTests.{is_constrained}
use Rattle.wy_sound_terms.specs.wy_vc_spec.Making.{val_name}
use Rattle.wy_sound_terms.specs.wy_vc_spec.Variables.{Vars}
use Rattle.wy_sound_terms.specs.wy_vc_spec.Values.{Setting, ValuedAll, k_word, word_at, named_in, clause_formula, field_names}
use Rattle.wy_sound_terms.specs.wy_vc_spec.Owed.{Owed, members, members_of, assume, assume_all, owe}
use Rattle.wy_sound_terms.specs.wy_vc_spec.Clauses.{Passed, passed, after, pass_goals, goals, one_goal, owe_clauses, assume_clauses, assume_in_type, owe_member}
use Rattle.wy_sound_terms.specs.wy_vc_spec.Clauses as clauses
use Rattle.wy_sound_terms.specs.wy_vc_spec.Calls.{Walked, owe_arguments, arguments, result_of, routine_walk, are_characters, print_walk, callee_walk, call_walk}
use Rattle.wy_sound_terms.specs.wy_vc_spec.Walks.{WalkedAll, range_goals, divisor_goals, index_goals, length_goals, Goals, operator_goals, right_hyps, behind_hyps, assume_goals, owe_goals, owing, CallWalks, walk, walk_all, walk_fields, Program, walk_expr}
use Rattle.wy_vc_laws.proofs.folded_lemmas.MakingLemmas.{Folds, AllFold, none, more, all_before, number_folds, int_name_folds, num_folds, len_folds, val_name_folds, null_folds, truth_folds, int_folds, value_folds, get_folds, field_folds, and_folds, or_folds, denied_folds, at_most_folds, less_folds, formula_folds, bound_folds, negated_folds, denial_folds, length_folds, element_folds, repeated_folds, list_folds, record_folds, operated_folds, quantified_folds}
use Rattle.wy_vc_laws.proofs.folded_lemmas.ValueLemmas.{VarsFold, no_vars, put_folds, put_if_folds, variable_folds, holds_folds, clause_folds, named_folds}

-- ---- hypotheses

mutual
  members_fold : (f : Term) → Folds f → AllFold (members f)
  members_fold (Of term.all_of fs) h = member_parts_fold fs h.is.1
  members_fold f h = more h none

  member_parts_fold : (fs : Parts) → AreFolded fs → AllFold (members_of fs)
  member_parts_fold no_parts h = none
  member_parts_fold (part f fs) h = all_before (members_fold f (record { is = h.0 })) (member_parts_fold fs h.1)

pub assumed : {hyps : List Term} {f : Term} → AllFold hyps → Folds f → AllFold (assume hyps f)
assumed {f = f} all h = all_before all (members_fold f h)

pub all_assumed : {hyps fs : List Term} → AllFold hyps → AllFold fs → AllFold (assume_all hyps fs)
all_assumed all none = all
all_assumed all (more h also) = all_assumed (assumed all h) also

-- ---- goals

-- the hypotheses and the goal are folded
pub record OwesFolded (c : Owed) : Type 0 where
  pub hyps : AllFold c.hyps
  pub goal : Folds c.goal

pub data AllOweFolded : List Owed → Type 0 where
  nothing : AllOweFolded []
  owed : {c : Owed} {cs : List Owed} → OwesFolded c → AllOweFolded cs → AllOweFolded (c ∷ cs)

pub owed_before : {cs ds : List Owed} → AllOweFolded cs → AllOweFolded ds → AllOweFolded (cs ++ ds)
owed_before nothing also = also
owed_before (owed h all) also = owed h (owed_before all also)

pub goals_owed : (kind : CondKind) (at : ℕ) {hyps gs : List Term} → AllFold hyps → AllFold gs → AllOweFolded (owe kind at hyps gs)
goals_owed kind at all none = nothing
goals_owed kind at all (more h also) = owed (record { hyps = all; goal = h }) (goals_owed kind at (assumed all h) also)

-- ---- clauses and types

-- what is assumed behind it and what it owes are folded
pub record IsPassed (p : Passed) : Type 0 where
  pub hyps : AllFold p.hyps
  pub owed : AllOweFolded p.owed

pub passes : (n : ℕ) {hyps : List Term} → AllFold hyps → IsPassed (passed n hyps [])
passes n all = record { hyps = all; owed = nothing }

pub after_passed : {first second : Passed} → IsPassed first → IsPassed second → IsPassed (after first second)
after_passed h g = record { hyps = g.hyps; owed = owed_before h.owed g.owed }

pub goals_passed : (kind : CondKind) (at : ℕ) (gs : ValuedAll) {hyps : List Term} → AllFold gs.terms → AllFold hyps → IsPassed (pass_goals kind at gs hyps)
goals_passed kind at gs all hyps = record { hyps = all_assumed hyps all; owed = goals_owed kind at hyps all }

clause_goals_fold : {N : Type 0} (s : Setting N) (words : List (List ℕ)) (e : Expr N) (n : ℕ) {vars : Vars} → VarsFold vars → AllFold (goals s words e vars n).terms
clause_goals_fold s words (BinaryExpr k sign.And a b) n {vars} d = all_before (clause_goals_fold s words a n d) (clause_goals_fold s words b (goals s words a vars n).count d)
clause_goals_fold s words e n d = more (clause_folds s (named_in s) (named_folds s) words e n d) none

pub clauses_owed : {N : Type 0} (s : Setting N) (kind : CondKind) (at : ℕ) (words : List (List ℕ)) (es : List (Expr N)) (n : ℕ) {vars : Vars} {hyps : List Term} → VarsFold vars → AllFold hyps → IsPassed (owe_clauses s kind at words es vars hyps n)
clauses_owed s kind at words [] n d all = passes n all
clauses_owed s kind at words (e ∷ es) n {vars} d all =
    let gs = goals s words e vars n in
    let first = goals_passed kind at gs (clause_goals_fold s words e n d) all in after_passed first (clauses_owed s kind at words es gs.count d first.hyps)

pub clauses_assumed : {N : Type 0} (s : Setting N) (words : List (List ℕ)) (es : List (Expr N)) (n : ℕ) {vars : Vars} {hyps : List Term} → VarsFold vars → AllFold hyps → IsPassed (assume_clauses s words es vars hyps n)
clauses_assumed s words [] n d all = passes n all
clauses_assumed s words (e ∷ es) n {vars} d all =
    clauses_assumed s words es (clause_formula s (named_in s) words e vars n).count d (assumed all (clause_folds s (named_in s) (named_folds s) words e n d))

pub type_assumed : {N : Type 0} (s : Setting N) (t : Ty) (n : ℕ) {v : Term} {hyps : List Term} → Folds v → AllFold hyps → IsPassed (assume_in_type s t v hyps n)
type_assumed s t n {v} h all = passes (clauses.in_type s t v n).count (assumed all (holds_folds (named_folds s) t n h))

pub member_owed : {N : Type 0} (s : Setting N) (at : ℕ) (t : Ty) (n : ℕ) {v : Term} {hyps : List Term} → Folds v → AllFold hyps → IsPassed (owe_member s at t v hyps n)
member_owed s at t n {v} h all =
    pick IsPassed (is_constrained s.types t) (goals_passed kind.Member at (one_goal (clauses.in_type s t v n)) (more (holds_folds (named_folds s) t n h) none) all) (passes n all)

-- ---- calls

-- its term, what is assumed behind it and what it owes are folded
pub record IsWalked (w : Walked) : Type 0 where
  pub hyps : AllFold w.hyps
  pub value : Folds w.term
  pub owed : AllOweFolded w.owed

arguments_owed : {N : Type 0} (s : Setting N) (at : ℕ) (ps : List Param) (n : ℕ) {vs hyps : List Term} → AllFold vs → AllFold hyps → IsPassed (owe_arguments s at ps vs hyps n)
arguments_owed s at [] n vs all = passes n all
arguments_owed s at (p ∷ ps) n none all = passes n all
arguments_owed s at (p ∷ ps) n {hyps = hyps} (more {t = v} h vs) all =
    let first = member_owed s at p.ty n h all in after_passed first (arguments_owed s at ps (owe_member s at p.ty v hyps n).count vs first.hyps)

arguments_fold : (ps : List Param) {vs : List Term} {vars : Vars} → AllFold vs → VarsFold vars → VarsFold (arguments ps vs vars)
arguments_fold [] vs d = d
arguments_fold (p ∷ ps) none d = d
arguments_fold (p ∷ ps) (more h vs) d = arguments_fold ps vs (put_folds p.variable d h)

walks : {p : Passed} {t : Term} → IsPassed p → Folds t → IsWalked (record { count = p.count; hyps = p.hyps; term = t; owed = p.owed })
walks h g = record { hyps = h.hyps; value = g; owed = h.owed }

result_walked : {N : Type 0} (s : Setting N) (r : Routine N) (out : Option tree.Output) (n : ℕ) {vars : Vars} {hyps : List Term} → VarsFold vars → AllFold hyps → IsWalked (result_of s r out vars hyps n)
result_walked s r None n d all = walks (clauses_assumed s r.variables r.postconditions n d all) null_folds
result_walked s r (Some out) n {hyps = hyps} d all =
    let name = val_name_folds r.name n in
    let typed = type_assumed s out.ty (suc n) name all in
    walks (clauses_assumed s r.variables r.postconditions (assume_in_type s out.ty (val_name r.name n) hyps (suc n)).count (put_if_folds out.variable d name) typed.hyps) name

routine_walked : {N : Type 0} (s : Setting N) (r : Routine N) (at n : ℕ) {vs hyps : List Term} → AllFold vs → AllFold hyps → IsWalked (routine_walk s r at vs hyps n)
routine_walked s r at n {vs} {hyps} values all =
    let d = arguments_fold r.params values no_vars in
    let given = owe_arguments s at r.params vs hyps n in
    let members = arguments_owed s at r.params n values all in
    let clauses = clauses_owed s kind.Requires at r.variables r.preconditions given.count d members.hyps in
    let out = result_walked s r r.result (owe_clauses s kind.Requires at r.variables r.preconditions (arguments r.params vs []) given.hyps given.count).count d clauses.hyps in
    record { hyps = out.hyps; value = out.value; owed = owed_before members.owed (owed_before clauses.owed out.owed) }

characters_folds : (n : ℕ) {v : Term} → Folds v → Folds (are_characters v n)
characters_folds n h =
    let c = num_folds (get_folds h (int_name_folds k_word n)) in
    bound_folds true k_word n (number_folds (pos 0)) (len_folds h) (and_folds (more (at_most_folds (number_folds (pos 0)) c) (more (at_most_folds c (number_folds (pos 127))) none)))

print_walked : (at n : ℕ) {vs hyps : List Term} → AllFold vs → AllFold hyps → IsWalked (print_walk at vs hyps n)
print_walked at n none all = walks (passes n all) null_folds
print_walked at n (more {t = v} h vs) all =
    walks (goals_passed kind.Requires at (record { count = suc n; terms = are_characters v n ∷ [] }) (more (characters_folds n h) none) all) null_folds

callee_walked : {N : Type 0} (s : Setting N) (f : Callee N) (at n : ℕ) {vs hyps : List Term} → AllFold vs → AllFold hyps → IsWalked (callee_walk s f at vs hyps n)
callee_walked s (Declared r) at n vs all = routine_walked s r at n vs all
callee_walked s Print at n vs all = print_walked at n vs all
callee_walked s PrintInt at n vs all = walks (passes n all) null_folds
callee_walked s Undeclared at n vs all = walks (passes n all) null_folds

-- a call of folded terms gives a folded term
pub record AreCalls (call : CallWalks) : Type 0 where
  pub called : (f at n : ℕ) {vs hyps : List Term} → AllFold vs → AllFold hyps → IsWalked (call f at vs hyps n)

pub calls_walked : {N : Type 0} (s : Setting N) (routines : List (Routine N)) → AreCalls (call_walk s routines)
calls_walked s routines = record { called = λ f at n vs all. callee_walked s (callee routines f) at n vs all }

-- ---- what operations owe

pub data AreGoals : List Goals → Type 0 where
  no_goals : AreGoals []
  also : {g : Goals} {gs : List Goals} → AllFold g.goals → AreGoals gs → AreGoals (g ∷ gs)

range_goals_fold : {v : Term} → Folds v → AllFold (range_goals v)
range_goals_fold h = more (at_most_folds (number_folds INT_MIN) (num_folds h)) (more (at_most_folds (num_folds h) (number_folds INT_MAX)) none)

divisor_goals_fold : {v : Term} → Folds v → AllFold (divisor_goals v)
divisor_goals_fold h =
    let zero' = number_folds (pos 0) in more (or_folds (more (less_folds zero' (num_folds h)) (more (less_folds (num_folds h) zero') none))) none

pub index_goals_fold : {v i : Term} → Folds v → Folds i → AllFold (index_goals v i)
index_goals_fold h g = more (at_most_folds (number_folds (pos 0)) (num_folds g)) (more (less_folds (num_folds g) (len_folds h)) none)

length_goals_fold : {v : Term} → Folds v → AllFold (length_goals v)
length_goals_fold h = more (at_most_folds (number_folds (pos 0)) (num_folds h)) (more (at_most_folds (num_folds h) (number_folds (pos 9223372036854775807))) none)

operator_goals_fold : (o : Op) {w v : Term} → Folds w → Folds v → AreGoals (operator_goals o w v)
operator_goals_fold sign.Add h g = also (range_goals_fold g) no_goals
operator_goals_fold sign.Sub h g = also (range_goals_fold g) no_goals
operator_goals_fold sign.Mul h g = also (range_goals_fold g) no_goals
operator_goals_fold sign.Div h g = also (divisor_goals_fold h) (also (range_goals_fold g) no_goals)
operator_goals_fold sign.Mod h g = also (divisor_goals_fold h) no_goals
operator_goals_fold sign.Equal h g = no_goals
operator_goals_fold sign.Less h g = no_goals
operator_goals_fold sign.LessEqual h g = no_goals
operator_goals_fold sign.Greater h g = no_goals
operator_goals_fold sign.GreaterEqual h g = no_goals
operator_goals_fold sign.And h g = no_goals
operator_goals_fold sign.Or h g = no_goals

right_hyps_fold : (o : Op) {v : Term} {hyps : List Term} → Folds v → AllFold hyps → AllFold (right_hyps o v hyps)
right_hyps_fold sign.And h all = assumed all (formula_folds h)
right_hyps_fold sign.Or h all = assumed all (denied_folds (formula_folds h))
right_hyps_fold o h all = all

behind_hyps_fold : (o : Op) {left right : List Term} → AllFold left → AllFold right → AllFold (behind_hyps o left right)
behind_hyps_fold sign.And left right = left
behind_hyps_fold sign.Or left right = left
behind_hyps_fold o left right = right

goals_assumed : {hyps : List Term} {gs : List Goals} → AllFold hyps → AreGoals gs → AllFold (assume_goals hyps gs)
goals_assumed all no_goals = all
goals_assumed all (also h gs) = goals_assumed (all_assumed all h) gs

all_goals_owed : (at : ℕ) {hyps : List Term} {gs : List Goals} → AllFold hyps → AreGoals gs → AllOweFolded (owe_goals at hyps gs)
all_goals_owed at all no_goals = nothing
all_goals_owed at all (also {g = g} h gs) = owed_before (goals_owed g.kind at all h) (all_goals_owed at (all_assumed all h) gs)

owing_walked : (at n : ℕ) {hyps : List Term} {v : Term} {gs : List Goals} {cs : List Owed} → AllFold hyps → Folds v → AreGoals gs → AllOweFolded cs → IsWalked (owing at n hyps v gs cs)
owing_walked at n all h gs cs = record { hyps = goals_assumed all gs; value = h; owed = owed_before cs (all_goals_owed at all gs) }

-- ---- expressions

pub record AreWalked (w : WalkedAll) : Type 0 where
  pub hyps : AllFold w.hyps
  pub terms : AllFold w.terms
  pub owed : AllOweFolded w.owed

module _ {N : Type 0} (s : Setting N) (call : CallWalks) (calls : AreCalls call) (words : List (List ℕ)) where
  mutual
    pub expression_walked : (e : Expr N) (n : ℕ) {vars : Vars} {hyps : List Term} → VarsFold vars → AllFold hyps → IsWalked (walk s call words e vars hyps n)
    expression_walked (NullExpr k) n d all = record { hyps = all; value = null_folds; owed = nothing }
    expression_walked (BoolExpr k b) n d all = record { hyps = all; value = truth_folds b; owed = nothing }
    expression_walked (IntExpr k z) n d all = record { hyps = all; value = int_folds (number_folds z); owed = nothing }
    expression_walked (VarExpr k x) n d all = record { hyps = all; value = variable_folds d x; owed = nothing }
    expression_walked (CallExpr k f args) n {vars} {hyps} d all =
        let vs = expressions_walked args n d all in
        let w = calls.called f (s.place k) (walk_all s call words args vars hyps n).count vs.terms vs.hyps in
        record { hyps = w.hyps; value = w.value; owed = owed_before vs.owed w.owed }
    expression_walked (NegExpr k a) n {vars} {hyps} d all =
        let v = expression_walked a n d all in
        let made = negated_folds v.value in owing_walked (s.place k) (walk s call words a vars hyps n).count v.hyps made (also (range_goals_fold made) no_goals) v.owed
    expression_walked (NotExpr k a) n d all = let v = expression_walked a n d all in record { hyps = v.hyps; value = denial_folds v.value; owed = v.owed }
    expression_walked (LenExpr k a) n d all = let v = expression_walked a n d all in record { hyps = v.hyps; value = length_folds v.value; owed = v.owed }
    expression_walked (BinaryExpr k o a b) n {vars} {hyps} d all =
        let left = walk s call words a vars hyps n in
        let v = expression_walked a n d all in
        let w = expression_walked b left.count d (right_hyps_fold o v.value v.hyps) in
        let made = operated_folds o (s.is_number (node a) && s.is_number (node b)) v.value w.value in
        owing_walked (s.place k) (walk s call words b vars (right_hyps o left.term left.hyps) left.count).count (behind_hyps_fold o v.hyps w.hyps) made (operator_goals_fold o w.value made) (owed_before v.owed w.owed)
    expression_walked (IsExpr k a t) n {vars} {hyps} d all =
        let v = expression_walked a n d all in
        record { hyps = v.hyps; value = value_folds (holds_folds (named_folds s) t (walk s call words a vars hyps n).count v.value); owed = v.owed }
    expression_walked (IndexExpr k a b) n {vars} {hyps} d all =
        let left = walk s call words a vars hyps n in
        let v = expression_walked a n d all in
        let w = expression_walked b left.count d v.hyps in
        owing_walked (s.place k) (walk s call words b vars left.hyps left.count).count w.hyps (element_folds v.value w.value) (also (index_goals_fold v.value w.value) no_goals) (owed_before v.owed w.owed)
    expression_walked (FieldExpr k a name) n d all = let v = expression_walked a n d all in record { hyps = v.hyps; value = field_folds name v.value; owed = v.owed }
    expression_walked (ListExpr k items) n d all = let vs = expressions_walked items n d all in record { hyps = vs.hyps; value = list_folds vs.terms; owed = vs.owed }
    expression_walked (RepeatExpr k a b) n {vars} {hyps} d all =
        let left = walk s call words a vars hyps n in
        let v = expression_walked a n d all in
        let w = expression_walked b left.count d v.hyps in
        owing_walked (s.place k) (walk s call words b vars left.hyps left.count).count w.hyps (repeated_folds v.value w.value) (also (length_goals_fold w.value) no_goals) (owed_before v.owed w.owed)
    expression_walked (RecordExpr k fields) n d all =
        let vs = fields_walked fields n d all in record { hyps = vs.hyps; value = record_folds (field_names fields) vs.terms; owed = vs.owed }
    expression_walked (QuantExpr k every x a b body) n {vars} {hyps} d all =
        let left = walk s call words a vars hyps n in
        let right = walk s call words b vars left.hyps left.count in
        let v = expression_walked a n d all in
        let w = expression_walked b left.count d v.hyps in
        let i = int_name_folds (word_at words x) right.count in
        let u = expression_walked body (suc right.count) (put_folds x d (int_folds i)) (assumed (assumed w.hyps (at_most_folds (num_folds v.value) i)) (less_folds i (num_folds w.value))) in
        record { hyps = w.hyps; value = quantified_folds every (word_at words x) right.count v.value w.value u.value; owed = owed_before v.owed (owed_before w.owed u.owed) }

    pub expressions_walked : (es : Exprs N) (n : ℕ) {vars : Vars} {hyps : List Term} → VarsFold vars → AllFold hyps → AreWalked (walk_all s call words es vars hyps n)
    expressions_walked NoExprs n d all = record { hyps = all; terms = none; owed = nothing }
    expressions_walked (MoreExprs e es) n {vars} {hyps} d all =
        let v = expression_walked e n d all in
        let vs = expressions_walked es (walk s call words e vars hyps n).count d v.hyps in
        record { hyps = vs.hyps; terms = more v.value vs.terms; owed = owed_before v.owed vs.owed }

    pub fields_walked : (fs : Fields N) (n : ℕ) {vars : Vars} {hyps : List Term} → VarsFold vars → AllFold hyps → AreWalked (walk_fields s call words fs vars hyps n)
    fields_walked NoFields n d all = record { hyps = all; terms = none; owed = nothing }
    fields_walked (MoreFields name e fs) n {vars} {hyps} d all =
        let v = expression_walked e n d all in
        let vs = fields_walked fs (walk s call words e vars hyps n).count d v.hyps in
        record { hyps = vs.hyps; terms = more v.value vs.terms; owed = owed_before v.owed vs.owed }

pub code_walked : {N : Type 0} (p : Program N) (words : List (List ℕ)) (e : Expr N) (n : ℕ) {vars : Vars} {hyps : List Term} → VarsFold vars → AllFold hyps → IsWalked (walk_expr p words e vars hyps n)
code_walked p words e n d all = expression_walked p.setting (call_walk p.setting p.routines) (calls_walked p.setting p.routines) words e n d all
