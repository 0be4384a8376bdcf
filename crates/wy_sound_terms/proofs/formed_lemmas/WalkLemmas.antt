-- What expressions of code owe has formulas alone.
use Rattle.std.proofs.Common.{ℕ, suc, List, [], ◌∷◌, ◌++◌, true, ◌&&◌, Option, Some, None, pos}
use Rattle.wy_vc_spec.specs.wy_core.declared.expressions.Op.{Op}
use Rattle.wy_vc_spec.specs.wy_core.declared.expressions.Op.TheVariants as sign
use Rattle.wy_vc_spec.specs.wy_core.Types.{Ty}
use Rattle.wy_vc_spec.specs.wy_core.CoreTree as tree
use Rattle.wy_vc_spec.specs.wy_core.CoreTree.{Expr, NullExpr, BoolExpr, IntExpr, VarExpr, CallExpr, NegExpr, NotExpr, LenExpr, BinaryExpr, IsExpr, IndexExpr, FieldExpr, ListExpr, RepeatExpr, RecordExpr, QuantExpr, Exprs, NoExprs, MoreExprs, Fields, NoFields, MoreFields, Param, Routine}
use Rattle.wy_lemmas.proofs.Choices.{pick}
use Rattle.wy_term_subst.specs.wy_value.declared.bounds.TheConstants.{INT_MIN, INT_MAX}
use Rattle.wy_term_subst.specs.wy_term.declared.cond.CondKind.{CondKind}
use Rattle.wy_term_subst.specs.wy_term.declared.cond.CondKind.TheVariants as kind
use Rattle.wy_term_subst.specs.wy_term.Term as term
use Rattle.wy_term_subst.specs.wy_term.Term.{Term, Of, Parts, no_parts, part}
use Rattle.wy_term_subst.specs.wy_term.Sorts.{val_sort, formula_sort}
use Rattle.wy_term_subst.specs.sorted.Sorted.{each, AreSorted}
use Rattle.wy_vc_spec.specs.wy_sem.Expressions.{node}
use Rattle.wy_vc_spec.specs.wy_sem.Evaluation.{Callee, Declared, Print, PrintInt, Undeclared, callee}
use Rattle.wy_vc_spec.specs.wy_sem.TypeTests.{is_constrained}
use Rattle.wy_vc_spec.specs.Making.{val_name}
use Rattle.wy_vc_spec.specs.Variables.{Vars}
use Rattle.wy_vc_spec.specs.Values.{Setting, ValuedAll, k_word, word_at, named_in, clause_formula, field_names}
use Rattle.wy_vc_spec.specs.Owed.{Owed, members, members_of, assume, assume_all, owe}
use Rattle.wy_vc_spec.specs.Clauses.{Passed, passed, after, pass_goals, goals, one_goal, owe_clauses, assume_clauses, assume_in_type, owe_member}
use Rattle.wy_vc_spec.specs.Clauses as clauses
use Rattle.wy_vc_spec.specs.Calls.{Walked, owe_arguments, arguments, result_of, routine_walk, are_characters, print_walk, callee_walk, call_walk}
use Rattle.wy_vc_spec.specs.Walks.{WalkedAll, range_goals, divisor_goals, index_goals, length_goals, Goals, operator_goals, right_hyps, behind_hyps, assume_goals, owe_goals, owing, CallWalks, walk, walk_all, walk_fields, Program, walk_expr}
use Rattle.wy_sound_terms.proofs.formed_lemmas.MakingLemmas.{IsOf, AllOf, none, more, all_before, number_sorted, int_name_sorted, num_sorted, len_sorted, val_name_sorted, null_sorted, truth_sorted, int_sorted, value_sorted, get_sorted, field_sorted, all_sorted, any_sorted, denied_sorted, at_most_sorted, less_sorted, formula_sorted, bound_sorted, negated_sorted, denial_sorted, length_sorted, element_sorted, repeated_sorted, list_sorted, record_sorted, operated_sorted, quantified_sorted}
use Rattle.wy_sound_terms.proofs.formed_lemmas.ValueLemmas.{AreData, no_data, put_data, put_if_data, variable_sorted, holds_sorted, clause_sorted, named_sorted}

-- ---- hypotheses

mutual
  members_formulas : (f : Term) → IsOf formula_sort f → AllOf formula_sort (members f)
  members_formulas (Of term.all_of fs) h = parts_formulas fs h.has.0
  members_formulas f h = more h none

  parts_formulas : (fs : Parts) → AreSorted fs (each formula_sort) → AllOf formula_sort (members_of fs)
  parts_formulas no_parts h = none
  parts_formulas (part f fs) h = all_before (members_formulas f (record { has = (h.1, h.0) })) (parts_formulas fs h.2)

pub assumed : {hyps : List Term} {f : Term} → AllOf formula_sort hyps → IsOf formula_sort f → AllOf formula_sort (assume hyps f)
assumed {f = f} all h = all_before all (members_formulas f h)

pub all_assumed : {hyps fs : List Term} → AllOf formula_sort hyps → AllOf formula_sort fs → AllOf formula_sort (assume_all hyps fs)
all_assumed all none = all
all_assumed all (more h also) = all_assumed (assumed all h) also

-- ---- goals

-- the hypotheses and the goal are formulas
pub record IsFormula (c : Owed) : Type 0 where
  pub hyps : AllOf formula_sort c.hyps
  pub goal : IsOf formula_sort c.goal

pub data AreOwed : List Owed → Type 0 where
  nothing : AreOwed []
  owed : {c : Owed} {cs : List Owed} → IsFormula c → AreOwed cs → AreOwed (c ∷ cs)

pub owed_before : {cs ds : List Owed} → AreOwed cs → AreOwed ds → AreOwed (cs ++ ds)
owed_before nothing also = also
owed_before (owed h all) also = owed h (owed_before all also)

pub goals_owed : (kind : CondKind) (at : ℕ) {hyps gs : List Term} → AllOf formula_sort hyps → AllOf formula_sort gs → AreOwed (owe kind at hyps gs)
goals_owed kind at all none = nothing
goals_owed kind at all (more h also) = owed (record { hyps = all; goal = h }) (goals_owed kind at (assumed all h) also)

-- ---- clauses and types

-- what is assumed behind it and what it owes
pub record IsPassed (p : Passed) : Type 0 where
  pub hyps : AllOf formula_sort p.hyps
  pub owed : AreOwed p.owed

pub passes : (n : ℕ) {hyps : List Term} → AllOf formula_sort hyps → IsPassed (passed n hyps [])
passes n all = record { hyps = all; owed = nothing }

pub after_passed : {first second : Passed} → IsPassed first → IsPassed second → IsPassed (after first second)
after_passed h g = record { hyps = g.hyps; owed = owed_before h.owed g.owed }

pub goals_passed : (kind : CondKind) (at : ℕ) (gs : ValuedAll) {hyps : List Term} → AllOf formula_sort gs.terms → AllOf formula_sort hyps → IsPassed (pass_goals kind at gs hyps)
goals_passed kind at gs all hyps = record { hyps = all_assumed hyps all; owed = goals_owed kind at hyps all }

clause_goals : {N : Type 0} (s : Setting N) (words : List (List ℕ)) (e : Expr N) (n : ℕ) {vars : Vars} → AreData vars → AllOf formula_sort (goals s words e vars n).terms
clause_goals s words (BinaryExpr k sign.And a b) n {vars} d = all_before (clause_goals s words a n d) (clause_goals s words b (goals s words a vars n).count d)
clause_goals s words e n d = more (clause_sorted s (named_in s) (named_sorted s) words e n d) none

pub clauses_owed : {N : Type 0} (s : Setting N) (kind : CondKind) (at : ℕ) (words : List (List ℕ)) (es : List (Expr N)) (n : ℕ) {vars : Vars} {hyps : List Term} → AreData vars → AllOf formula_sort hyps → IsPassed (owe_clauses s kind at words es vars hyps n)
clauses_owed s kind at words [] n d all = passes n all
clauses_owed s kind at words (e ∷ es) n {vars} d all =
    let gs = goals s words e vars n in
    let first = goals_passed kind at gs (clause_goals s words e n d) all in after_passed first (clauses_owed s kind at words es gs.count d first.hyps)

pub clauses_assumed : {N : Type 0} (s : Setting N) (words : List (List ℕ)) (es : List (Expr N)) (n : ℕ) {vars : Vars} {hyps : List Term} → AreData vars → AllOf formula_sort hyps → IsPassed (assume_clauses s words es vars hyps n)
clauses_assumed s words [] n d all = passes n all
clauses_assumed s words (e ∷ es) n {vars} d all =
    clauses_assumed s words es (clause_formula s (named_in s) words e vars n).count d (assumed all (clause_sorted s (named_in s) (named_sorted s) words e n d))

pub type_assumed : {N : Type 0} (s : Setting N) (t : Ty) (n : ℕ) {v : Term} {hyps : List Term} → IsOf val_sort v → AllOf formula_sort hyps → IsPassed (assume_in_type s t v hyps n)
type_assumed s t n {v} h all = passes (clauses.in_type s t v n).count (assumed all (holds_sorted (named_sorted s) t n h))

pub member_owed : {N : Type 0} (s : Setting N) (at : ℕ) (t : Ty) (n : ℕ) {v : Term} {hyps : List Term} → IsOf val_sort v → AllOf formula_sort hyps → IsPassed (owe_member s at t v hyps n)
member_owed s at t n {v} h all =
    pick IsPassed (is_constrained s.types t) (goals_passed kind.Member at (one_goal (clauses.in_type s t v n)) (more (holds_sorted (named_sorted s) t n h) none) all) (passes n all)

-- ---- calls

-- a Val term, with what is assumed behind it and what it owes
pub record IsWalked (w : Walked) : Type 0 where
  pub hyps : AllOf formula_sort w.hyps
  pub value : IsOf val_sort w.term
  pub owed : AreOwed w.owed

arguments_owed : {N : Type 0} (s : Setting N) (at : ℕ) (ps : List Param) (n : ℕ) {vs hyps : List Term} → AllOf val_sort vs → AllOf formula_sort hyps → IsPassed (owe_arguments s at ps vs hyps n)
arguments_owed s at [] n vs all = passes n all
arguments_owed s at (p ∷ ps) n none all = passes n all
arguments_owed s at (p ∷ ps) n {hyps = hyps} (more {t = v} h vs) all =
    let first = member_owed s at p.ty n h all in after_passed first (arguments_owed s at ps (owe_member s at p.ty v hyps n).count vs first.hyps)

arguments_data : (ps : List Param) {vs : List Term} {vars : Vars} → AllOf val_sort vs → AreData vars → AreData (arguments ps vs vars)
arguments_data [] vs d = d
arguments_data (p ∷ ps) none d = d
arguments_data (p ∷ ps) (more h vs) d = arguments_data ps vs (put_data p.variable d h)

walks : {p : Passed} {t : Term} → IsPassed p → IsOf val_sort t → IsWalked (record { count = p.count; hyps = p.hyps; term = t; owed = p.owed })
walks h g = record { hyps = h.hyps; value = g; owed = h.owed }

result_walked : {N : Type 0} (s : Setting N) (r : Routine N) (out : Option tree.Output) (n : ℕ) {vars : Vars} {hyps : List Term} → AreData vars → AllOf formula_sort hyps → IsWalked (result_of s r out vars hyps n)
result_walked s r None n d all = walks (clauses_assumed s r.variables r.postconditions n d all) null_sorted
result_walked s r (Some out) n {hyps = hyps} d all =
    let name = val_name_sorted r.name n in
    let typed = type_assumed s out.ty (suc n) name all in
    walks (clauses_assumed s r.variables r.postconditions (assume_in_type s out.ty (val_name r.name n) hyps (suc n)).count (put_if_data out.variable d name) typed.hyps) name

routine_walked : {N : Type 0} (s : Setting N) (r : Routine N) (at n : ℕ) {vs hyps : List Term} → AllOf val_sort vs → AllOf formula_sort hyps → IsWalked (routine_walk s r at vs hyps n)
routine_walked s r at n {vs} {hyps} values all =
    let d = arguments_data r.params values no_data in
    let given = owe_arguments s at r.params vs hyps n in
    let members = arguments_owed s at r.params n values all in
    let clauses = clauses_owed s kind.Requires at r.variables r.preconditions given.count d members.hyps in
    let out = result_walked s r r.result (owe_clauses s kind.Requires at r.variables r.preconditions (arguments r.params vs []) given.hyps given.count).count d clauses.hyps in
    record { hyps = out.hyps; value = out.value; owed = owed_before members.owed (owed_before clauses.owed out.owed) }

characters_sorted : (n : ℕ) {v : Term} → IsOf val_sort v → IsOf formula_sort (are_characters v n)
characters_sorted n h =
    let c = num_sorted (get_sorted h (int_name_sorted k_word n)) in
    bound_sorted true k_word n (number_sorted (pos 0)) (len_sorted h) (all_sorted (more (at_most_sorted (number_sorted (pos 0)) c) (more (at_most_sorted c (number_sorted (pos 127))) none)))

print_walked : (at n : ℕ) {vs hyps : List Term} → AllOf val_sort vs → AllOf formula_sort hyps → IsWalked (print_walk at vs hyps n)
print_walked at n none all = walks (passes n all) null_sorted
print_walked at n (more {t = v} h vs) all =
    walks (goals_passed kind.Requires at (record { count = suc n; terms = are_characters v n ∷ [] }) (more (characters_sorted n h) none) all) null_sorted

callee_walked : {N : Type 0} (s : Setting N) (f : Callee N) (at n : ℕ) {vs hyps : List Term} → AllOf val_sort vs → AllOf formula_sort hyps → IsWalked (callee_walk s f at vs hyps n)
callee_walked s (Declared r) at n vs all = routine_walked s r at n vs all
callee_walked s Print at n vs all = print_walked at n vs all
callee_walked s PrintInt at n vs all = walks (passes n all) null_sorted
callee_walked s Undeclared at n vs all = walks (passes n all) null_sorted

-- a call of Val terms gives a Val term
pub record AreCalls (call : CallWalks) : Type 0 where
  pub called : (f at n : ℕ) {vs hyps : List Term} → AllOf val_sort vs → AllOf formula_sort hyps → IsWalked (call f at vs hyps n)

pub calls_walked : {N : Type 0} (s : Setting N) (routines : List (Routine N)) → AreCalls (call_walk s routines)
calls_walked s routines = record { called = λ f at n vs all. callee_walked s (callee routines f) at n vs all }

-- ---- what operations owe

pub data AreGoals : List Goals → Type 0 where
  no_goals : AreGoals []
  also : {g : Goals} {gs : List Goals} → AllOf formula_sort g.goals → AreGoals gs → AreGoals (g ∷ gs)

range_formulas : {v : Term} → IsOf val_sort v → AllOf formula_sort (range_goals v)
range_formulas h = more (at_most_sorted (number_sorted INT_MIN) (num_sorted h)) (more (at_most_sorted (num_sorted h) (number_sorted INT_MAX)) none)

divisor_formulas : {v : Term} → IsOf val_sort v → AllOf formula_sort (divisor_goals v)
divisor_formulas h =
    let zero' = number_sorted (pos 0) in more (any_sorted (more (less_sorted zero' (num_sorted h)) (more (less_sorted (num_sorted h) zero') none))) none

pub index_formulas : {v i : Term} → IsOf val_sort v → IsOf val_sort i → AllOf formula_sort (index_goals v i)
index_formulas h g = more (at_most_sorted (number_sorted (pos 0)) (num_sorted g)) (more (less_sorted (num_sorted g) (len_sorted h)) none)

length_formulas : {v : Term} → IsOf val_sort v → AllOf formula_sort (length_goals v)
length_formulas h = more (at_most_sorted (number_sorted (pos 0)) (num_sorted h)) (more (at_most_sorted (num_sorted h) (number_sorted (pos 9223372036854775807))) none)

operator_formulas : (o : Op) {w v : Term} → IsOf val_sort w → IsOf val_sort v → AreGoals (operator_goals o w v)
operator_formulas sign.Add h g = also (range_formulas g) no_goals
operator_formulas sign.Sub h g = also (range_formulas g) no_goals
operator_formulas sign.Mul h g = also (range_formulas g) no_goals
operator_formulas sign.Div h g = also (divisor_formulas h) (also (range_formulas g) no_goals)
operator_formulas sign.Mod h g = also (divisor_formulas h) no_goals
operator_formulas sign.Equal h g = no_goals
operator_formulas sign.Less h g = no_goals
operator_formulas sign.LessEqual h g = no_goals
operator_formulas sign.Greater h g = no_goals
operator_formulas sign.GreaterEqual h g = no_goals
operator_formulas sign.And h g = no_goals
operator_formulas sign.Or h g = no_goals

right_formulas : (o : Op) {v : Term} {hyps : List Term} → IsOf val_sort v → AllOf formula_sort hyps → AllOf formula_sort (right_hyps o v hyps)
right_formulas sign.And h all = assumed all (formula_sorted h)
right_formulas sign.Or h all = assumed all (denied_sorted (formula_sorted h))
right_formulas o h all = all

behind_formulas : (o : Op) {left right : List Term} → AllOf formula_sort left → AllOf formula_sort right → AllOf formula_sort (behind_hyps o left right)
behind_formulas sign.And left right = left
behind_formulas sign.Or left right = left
behind_formulas o left right = right

goals_assumed : {hyps : List Term} {gs : List Goals} → AllOf formula_sort hyps → AreGoals gs → AllOf formula_sort (assume_goals hyps gs)
goals_assumed all no_goals = all
goals_assumed all (also h gs) = goals_assumed (all_assumed all h) gs

all_goals_owed : (at : ℕ) {hyps : List Term} {gs : List Goals} → AllOf formula_sort hyps → AreGoals gs → AreOwed (owe_goals at hyps gs)
all_goals_owed at all no_goals = nothing
all_goals_owed at all (also {g = g} h gs) = owed_before (goals_owed g.kind at all h) (all_goals_owed at (all_assumed all h) gs)

owing_walked : (at n : ℕ) {hyps : List Term} {v : Term} {gs : List Goals} {cs : List Owed} → AllOf formula_sort hyps → IsOf val_sort v → AreGoals gs → AreOwed cs → IsWalked (owing at n hyps v gs cs)
owing_walked at n all h gs cs = record { hyps = goals_assumed all gs; value = h; owed = owed_before cs (all_goals_owed at all gs) }

-- ---- expressions

pub record AreWalked (w : WalkedAll) : Type 0 where
  pub hyps : AllOf formula_sort w.hyps
  pub terms : AllOf val_sort w.terms
  pub owed : AreOwed w.owed

module _ {N : Type 0} (s : Setting N) (call : CallWalks) (calls : AreCalls call) (words : List (List ℕ)) where
  mutual
    pub expression_walked : (e : Expr N) (n : ℕ) {vars : Vars} {hyps : List Term} → AreData vars → AllOf formula_sort hyps → IsWalked (walk s call words e vars hyps n)
    expression_walked (NullExpr k) n d all = record { hyps = all; value = null_sorted; owed = nothing }
    expression_walked (BoolExpr k b) n d all = record { hyps = all; value = truth_sorted b; owed = nothing }
    expression_walked (IntExpr k z) n d all = record { hyps = all; value = int_sorted (number_sorted z); owed = nothing }
    expression_walked (VarExpr k x) n d all = record { hyps = all; value = variable_sorted d x; owed = nothing }
    expression_walked (CallExpr k f args) n {vars} {hyps} d all =
        let vs = expressions_walked args n d all in
        let w = calls.called f (s.place k) (walk_all s call words args vars hyps n).count vs.terms vs.hyps in
        record { hyps = w.hyps; value = w.value; owed = owed_before vs.owed w.owed }
    expression_walked (NegExpr k a) n {vars} {hyps} d all =
        let v = expression_walked a n d all in
        let made = negated_sorted v.value in owing_walked (s.place k) (walk s call words a vars hyps n).count v.hyps made (also (range_formulas made) no_goals) v.owed
    expression_walked (NotExpr k a) n d all = let v = expression_walked a n d all in record { hyps = v.hyps; value = denial_sorted v.value; owed = v.owed }
    expression_walked (LenExpr k a) n d all = let v = expression_walked a n d all in record { hyps = v.hyps; value = length_sorted v.value; owed = v.owed }
    expression_walked (BinaryExpr k o a b) n {vars} {hyps} d all =
        let left = walk s call words a vars hyps n in
        let v = expression_walked a n d all in
        let w = expression_walked b left.count d (right_formulas o v.value v.hyps) in
        let made = operated_sorted o (s.is_number (node a) && s.is_number (node b)) v.value w.value in
        owing_walked (s.place k) (walk s call words b vars (right_hyps o left.term left.hyps) left.count).count (behind_formulas o v.hyps w.hyps) made (operator_formulas o w.value made) (owed_before v.owed w.owed)
    expression_walked (IsExpr k a t) n {vars} {hyps} d all =
        let v = expression_walked a n d all in
        record { hyps = v.hyps; value = value_sorted (holds_sorted (named_sorted s) t (walk s call words a vars hyps n).count v.value); owed = v.owed }
    expression_walked (IndexExpr k a b) n {vars} {hyps} d all =
        let left = walk s call words a vars hyps n in
        let v = expression_walked a n d all in
        let w = expression_walked b left.count d v.hyps in
        owing_walked (s.place k) (walk s call words b vars left.hyps left.count).count w.hyps (element_sorted v.value w.value) (also (index_formulas v.value w.value) no_goals) (owed_before v.owed w.owed)
    expression_walked (FieldExpr k a name) n d all = let v = expression_walked a n d all in record { hyps = v.hyps; value = field_sorted name v.value; owed = v.owed }
    expression_walked (ListExpr k items) n d all = let vs = expressions_walked items n d all in record { hyps = vs.hyps; value = list_sorted vs.terms; owed = vs.owed }
    expression_walked (RepeatExpr k a b) n {vars} {hyps} d all =
        let left = walk s call words a vars hyps n in
        let v = expression_walked a n d all in
        let w = expression_walked b left.count d v.hyps in
        owing_walked (s.place k) (walk s call words b vars left.hyps left.count).count w.hyps (repeated_sorted v.value w.value) (also (length_formulas w.value) no_goals) (owed_before v.owed w.owed)
    expression_walked (RecordExpr k fields) n d all =
        let vs = fields_walked fields n d all in record { hyps = vs.hyps; value = record_sorted (field_names fields) vs.terms; owed = vs.owed }
    expression_walked (QuantExpr k every x a b body) n {vars} {hyps} d all =
        let left = walk s call words a vars hyps n in
        let right = walk s call words b vars left.hyps left.count in
        let v = expression_walked a n d all in
        let w = expression_walked b left.count d v.hyps in
        let i = int_name_sorted (word_at words x) right.count in
        let u = expression_walked body (suc right.count) (put_data x d (int_sorted i)) (assumed (assumed w.hyps (at_most_sorted (num_sorted v.value) i)) (less_sorted i (num_sorted w.value))) in
        record { hyps = w.hyps; value = quantified_sorted every (word_at words x) right.count v.value w.value u.value; owed = owed_before v.owed (owed_before w.owed u.owed) }

    pub expressions_walked : (es : Exprs N) (n : ℕ) {vars : Vars} {hyps : List Term} → AreData vars → AllOf formula_sort hyps → AreWalked (walk_all s call words es vars hyps n)
    expressions_walked NoExprs n d all = record { hyps = all; terms = none; owed = nothing }
    expressions_walked (MoreExprs e es) n {vars} {hyps} d all =
        let v = expression_walked e n d all in
        let vs = expressions_walked es (walk s call words e vars hyps n).count d v.hyps in
        record { hyps = vs.hyps; terms = more v.value vs.terms; owed = owed_before v.owed vs.owed }

    pub fields_walked : (fs : Fields N) (n : ℕ) {vars : Vars} {hyps : List Term} → AreData vars → AllOf formula_sort hyps → AreWalked (walk_fields s call words fs vars hyps n)
    fields_walked NoFields n d all = record { hyps = all; terms = none; owed = nothing }
    fields_walked (MoreFields name e fs) n {vars} {hyps} d all =
        let v = expression_walked e n d all in
        let vs = fields_walked fs (walk s call words e vars hyps n).count d v.hyps in
        record { hyps = vs.hyps; terms = more v.value vs.terms; owed = owed_before v.owed vs.owed }

pub code_walked : {N : Type 0} (p : Program N) (words : List (List ℕ)) (e : Expr N) (n : ℕ) {vars : Vars} {hyps : List Term} → AreData vars → AllOf formula_sort hyps → IsWalked (walk_expr p words e vars hyps n)
code_walked p words e n d all = expression_walked p.setting (call_walk p.setting p.routines) (calls_walked p.setting p.routines) words e n d all
