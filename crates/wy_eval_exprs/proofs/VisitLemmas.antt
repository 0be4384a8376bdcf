-- What is asked at an array, at a record and at a name, and what tests of types and clauses begin with.
use Rattle.std.proofs.Common.{◌≡◌, ◌≢◌, ℕ, zero, suc, ◌+◌, ◌<◌, ◌≤◌, Bool, true, false, List, [], ◌∷◌, map, length, drop, get_or, Option, Some, None, Result, Ok, Err, refl, sym, ap, ◌∙◌, subst, arith, ℤ, pos}
use Rattle.std.specs.Prelude.{int_le, slice_get}
use Rattle.std.proofs.lemmas.Int.{ints}
use Rattle.std.proofs.lemmas.List.{length-map, drop_all}
use Rattle.wy_lemmas.proofs.Lists.{next_of as next_item}
use Rattle.wy_value.specs.Datum as datum
use Rattle.wy_value.specs.Datum.{Datum, Data, Fields}
use Rattle.wy_value.specs.declared.value.Value.{Value}
use Rattle.wy_value.specs.declared.value.Value.TheVariants as value
use Rattle.wy_value.specs.Seen.{seen, seen_items}
use Rattle.wy_value.proofs.SeenLemmas.{seen_array}
use Rattle.wy_core.specs.CoreSeen.{seen_alias, seen_expr, seen_exprs}
use Rattle.wy_core.specs.CoreTree as tree
use Rattle.wy_core.specs.Types.{Ty, FieldTys, VoidTy}
use Rattle.wy_core.specs.declared.declarations.Alias.{Alias}
use Rattle.wy_core.specs.declared.expressions.Expr.{Expr}
use Rattle.wy_core.specs.declared.expressions.Op.{Op}
use Rattle.wy_term.specs.declared.cond.CondKind.{CondKind}
use Rattle.wy_sem.specs.Meter.{Meter, Outcome, Done, Fault, Run, ◌>>=◌, choose, check, turn}
use Rattle.wy_sem.specs.Operations as operations
use Rattle.wy_sem.specs.Operations.{longest, as_truth}
use Rattle.wy_sem.specs.Expressions as spec
use Rattle.wy_sem.specs.Expressions.{Store, Setting, eval, holds, holds_at, node}
use Rattle.wy_sem.specs.TypeTests.{Test, Questions, alias_at, alias_holds, all_hold, answer, clause_setting, few_enough, forgiven, items_tested, member, no_alias, parts_tested, same_names, set_if, unset}
use Rattle.wy_eval_exprs.specs.declared.stop.Stop.{Stop}
use Rattle.wy_eval_exprs.specs.declared.stop.Stop.TheVariants as stop
use Rattle.wy_eval_exprs.specs.Operands.{IsEarly, TruthOf, items_of, parts_of}
use Rattle.wy_eval_exprs.specs.Outcomes.{Gives, itself, stopped}
use Rattle.wy_eval_exprs.proofs.OperandLemmas.{length_items, not_truth}
use Rattle.wy_eval_exprs.specs.Scopes.{scope}
use Rattle.wy_eval_exprs.specs.Settings.{asked_by, here, items_by, named_by, pardoned, parts_by, questions, setting, tests_at, turns_of}
use Rattle.wy_eval_exprs.proofs.StepLemmas.{done, gives_as, pardon_gives, record_is, then_is, then_stops_plain, turned, turned_stops}
use Rattle.wy_eval_exprs.proofs.TurnLemmas.{tested_is}

-- ---- operators that may leave their second operand out

pub early_said : (op : Op) (at : ℕ) (v : Datum) (o : Option Bool) (b : Bool) → o ≡ Some b → IsEarly op at v (Ok o) → (right : Run Datum) (m : Meter) → operations.operated op at right v m ≡ Done (datum.Truth b) m
early_said op at v o b is h = let g : IsEarly op at v (Ok (Some b)) = subst (λ x. IsEarly op at v (Ok x)) is h in g

pub early_silent : (op : Op) (at : ℕ) (v : Datum) (o : Option Bool) → o ≡ None → IsEarly op at v (Ok o) → (right : Run Datum) (m : Meter) → operations.operated op at right v m ≡ operations.second op at right v m
early_silent op at v o is h = let g : IsEarly op at v (Ok None) = subst (λ x. IsEarly op at v (Ok x)) is h in g

-- ---- arrays

items-seen : (vs : List Value) → seen_items vs ≡ items_of vs
items-seen [] = refl
items-seen (v ∷ vs) = ap (λ d. datum.item (seen v) d) (items-seen vs)

pub array_there : (x : Value) (vs us : List Value) → x ≡ value.Array vs → us ≡ vs → seen x ≡ datum.Array (items_of us)
array_there x vs us is same = ap seen is ∙ (seen_array vs ∙ (ap (λ d. datum.Array d) (items-seen vs) ∙ ap (λ l. datum.Array (items_of l)) (sym same)))

few_number : (n : ℕ) → n ≤ 9223372036854775807 → int_le (pos n) (pos 9223372036854775807) ≡ true
few_number n h = grind (arith, ints)

pub few : (vs : List Value) (n : ℕ) → n ≡ length vs → n ≤ 9223372036854775807 → few_enough (items_of vs) ≡ true
unfolding longest
few vs n e h = ap (λ k. int_le (pos k) (pos longest)) (length_items vs ∙ sym e) ∙ few_number n h

pub items_at : (q : Questions) (d : Datum) (t : Ty) (m : Meter) (vs : List Value) → d ≡ datum.Array (items_of vs) → few_enough (items_of vs) ≡ true → items_by q d t m ≡ items_tested q (items_of vs) t m
items_at q d t m vs is h = ap (λ x. items_by q x t m) is ∙ ap (λ b. choose b (items_tested q (items_of vs) t) (answer false) m) h

-- ---- records

pub parts_at : (q : Questions) (d : Datum) (tys : FieldTys) (m : Meter) (fs : Fields) → d ≡ datum.Record fs → same_names fs tys ≡ true → parts_by q d tys m ≡ parts_tested q fs tys m
parts_at q d tys m fs is h = ap (λ x. parts_by q x tys m) is ∙ ap (λ b. choose b (parts_tested q fs tys) (answer false) m) h

pub record_there : (x : Value) (fs us : List (List ℕ × Value)) → x ≡ value.Record fs → us ≡ fs → seen x ≡ datum.Record (parts_of us)
record_there x fs us is same = ap seen is ∙ (record_is fs ∙ ap (λ l. datum.Record (parts_of l)) (sym same))

-- ---- names

pub alias_there : (all : List Alias) (n : ℕ) (a : Alias) → Some a ≡ slice_get all n → alias_at (map seen_alias all) n ≡ seen_alias a
alias_there [] n a h = absurd cc
alias_there (x ∷ xs) zero a h = let e : a ≡ x = cc in ap seen_alias (sym e)
alias_there (x ∷ xs) (suc n) a h = alias_there xs n a h

pub alias_nowhere : (all : List Alias) (n : ℕ) → None ≡ slice_get all n → alias_at (map seen_alias all) n ≡ no_alias
alias_nowhere [] n h = refl
alias_nowhere (x ∷ xs) zero h = absurd cc
alias_nowhere (x ∷ xs) (suc n) h = alias_nowhere xs n h

-- a name of a type asks its definition and then its clauses
pub name_at : (q : Questions) (bare j : ℕ) (d : Datum) (n : ℕ) (t : Ty) (m : Meter) → bare ≡ suc j → q.definition n ≡ t → named_by q bare d n m ≡ (asked_by q j d t m >>= (λ b. choose b (q.clause n d) (answer false)))
name_at q bare j d n t m e is = ap (λ i. named_by q i d n m) e ∙ ap (λ u. asked_by q j d u m >>= (λ b. choose b (q.clause n d) (answer false))) is

pub definition_there : (all : List Alias) (n : ℕ) (a : Alias) (t : Ty) → Some a ≡ slice_get all n → t ≡ (seen_alias a).ty → (alias_at (map seen_alias all) n).ty ≡ t
definition_there all n a t h is = ap (λ (x : tree.Alias ℕ). x.ty) (alias_there all n a h) ∙ sym is

pub definition_nowhere : (all : List Alias) (n : ℕ) → None ≡ slice_get all n → (alias_at (map seen_alias all) n).ty ≡ VoidTy
definition_nowhere all n h = ap (λ (x : tree.Alias ℕ). x.ty) (alias_nowhere all n h)

-- the clauses of a type, in its store
pub clause_is : (w : Setting ℕ) (paid : Bool) (all : List Alias) (n : ℕ) (a : Alias) (d : Datum) (cs : List Expr) (s : Store) (m : Meter) → Some a ≡ slice_get all n → cs ≡ a.clauses → s ≡ set_if (unset a.variables) a.variable (Some d)
    → alias_holds w paid (alias_at (map seen_alias all) n) d m ≡ all_hold w paid (seen_exprs cs) s m
clause_is w paid all n a d cs s m h same is =
    ap (λ x. alias_holds w paid x d m) (alias_there all n a h)
    ∙ (ap (λ z. all_hold w paid (seen_exprs a.clauses) z m) (sym is) ∙ ap (λ l. all_hold w paid (seen_exprs l) s m) (sym same))

-- what a name's clauses give, where a fault is no answer
pub clauses_give : (types : List (tree.Alias ℕ)) (limit depth : ℕ) (paid forgives : Bool) (n : ℕ) (d : Datum) (o : Outcome Bool) (m : Meter) (r : Result Bool Stop) (k : Meter) → forgives ≡ false
    → alias_holds (setting types limit depth) paid (alias_at types n) d m ≡ o → Gives itself o r k → Gives itself ((questions types limit depth paid forgives).clause n d m) r k
clauses_give types limit depth paid forgives n d o m r k not_forgiven is h =
    gives_as itself ((questions types limit depth paid forgives).clause n d m) o r k (ap (λ f. (questions types limit depth paid f).clause n d m) not_forgiven ∙ is) h

-- and where it is one
pub clauses_forgiven : (types : List (tree.Alias ℕ)) (limit depth : ℕ) (paid forgives : Bool) (n : ℕ) (d : Datum) (o : Outcome Bool) (m : Meter) (r p : Result Bool Stop) (k : Meter) → forgives ≡ true
    → alias_holds (setting types limit depth) paid (alias_at types n) d m ≡ o → Gives itself o r k → p ≡ pardoned r → Gives itself ((questions types limit depth paid forgives).clause n d m) p k
clauses_forgiven types limit depth paid forgives n d o m r p k is_forgiven is h same =
    gives_as itself ((questions types limit depth paid forgives).clause n d m) (forgiven o) p k (ap (λ f. (questions types limit depth paid f).clause n d m) is_forgiven ∙ ap forgiven is)
    (subst (λ x. Gives itself (forgiven o) x k) (sym same) (pardon_gives o r k h))

-- a number that no type has is visited, and nothing is of it
pub void_asked : (q : Questions) (bare j : ℕ) (d : Datum) (n : ℕ) (m k : Meter) → bare ≡ suc j → q.definition n ≡ VoidTy → turn q.limit q.paid done m ≡ Done tt k → named_by q bare d n m ≡ Done false k
void_asked q bare j d n m k e is h = name_at q bare j d n VoidTy m e is ∙ ap (λ o. o >>= (λ b. choose b (q.clause n d) (answer false))) (turned q.limit q.paid (answer false) m k h)

-- ---- turns of a quantifier

pub each_from : (all : Bool) (at : ℕ) (body : ℤ → Run Datum) (from to f t : ℤ) (m : Meter) → f ≡ from → t ≡ to → spec.each all at body from (spec.span from to) m ≡ spec.each all at body f (spec.span f t) m
each_from all at body from to f t m e g = ap (λ z. spec.each all at body z (spec.span z to) m) (sym e) ∙ ap (λ z. spec.each all at body f (spec.span f z) m) (sym g)

-- a turn evaluates its body under one more number
pub turn_is : (w : Setting ℕ) (paid : Bool) (body : tree.Expr ℕ) (s : Store) (over inside : List (ℕ × ℤ)) (x : ℕ) (i : ℤ) (m k : Meter) → inside ≡ (x, i) ∷ over → turn w.limit paid done m ≡ Done tt k
    → turns_of w paid body (scope s over) x i m ≡ eval w paid body (scope s inside) k
turn_is w paid body s over inside x i m k e h = turned w.limit paid (eval w paid body (spec.put (scope s over) x (Some (datum.Whole i)))) m k h ∙ ap (λ l. eval w paid body (scope s l) k) (sym e)

pub turn_refused : (w : Setting ℕ) (paid : Bool) (body : tree.Expr ℕ) (s : Store) (x : ℕ) (i : ℤ) (m k : Meter) (e : Stop) → (e ≢ stop.NoMemory → turn w.limit paid done m ≡ stopped e k) → e ≢ stop.NoMemory → turns_of w paid body s x i m ≡ stopped e k
turn_refused w paid body s x i m k e h none = turned_stops w.limit paid (eval w paid body (spec.put s x (Some (datum.Whole i)))) m k e h none

-- ---- what tests begin with

pub types_counted : (all : List Alias) (n : ℕ) → n ≡ length all → n ≡ length (map seen_alias all)
types_counted all n e = e ∙ sym (length-map all seen_alias)

pub test_is : (all : List Alias) (limit depth j : ℕ) (paid : Bool) (t : Ty) (d : Datum) (m : Meter) (bare : ℕ) → depth ≡ suc j → bare ≡ length all
    → tests_at (map seen_alias all) limit depth paid t d m ≡ asked_by (questions (map seen_alias all) limit j paid false) bare d t m
test_is all limit depth j paid t d m bare e h =
    ap (λ i. tests_at (map seen_alias all) limit i paid t d m) e
    ∙ (ap (λ (f : Test). f m) (tested_is (questions (map seen_alias all) limit j paid false) d t)
    ∙ ap (λ b. asked_by (questions (map seen_alias all) limit j paid false) b d t m) (sym (types_counted all bare h)))

pub member_is : (all : List Alias) (limit depth : ℕ) (t : Ty) (d : Datum) (m : Meter) (bare : ℕ) → bare ≡ length all → depth ≡ bare + 1
    → member here (Some limit) (map seen_alias all) t d m ≡ asked_by (questions (map seen_alias all) limit depth false true) bare d t m
member_is all limit depth t d m bare h e =
    let deep : depth ≡ suc (length (map seen_alias all)) = depth_is all bare depth h e in
    ap (λ (f : Test). f m) (tested_is (questions (map seen_alias all) limit (suc (length (map seen_alias all))) false true) d t)
    ∙ (ap (λ i. asked_by (questions (map seen_alias all) limit i false true) (length (map seen_alias all)) d t m) (sym deep)
    ∙ ap (λ b. asked_by (questions (map seen_alias all) limit depth false true) b d t m) (sym (types_counted all bare h)))
  where
    depth_is : (all : List Alias) (bare depth : ℕ) → bare ≡ length all → depth ≡ bare + 1 → depth ≡ suc (length (map seen_alias all))
    depth_is all bare depth h e = let g : bare ≡ length (map seen_alias all) = types_counted all bare h in omega arith

pub truth_gives : (at : ℕ) (d : Datum) (r : Result Bool Stop) (k : Meter) → TruthOf at d r → Gives itself (as_truth at d Done k) r k
truth_gives at d (Ok b) k h = ap (λ x. as_truth at x Done k) h
truth_gives at d (Err e) k h = λ none. not_truth at d Done k h.1 ∙ sym (ap (λ g. stopped g k) h.0)

-- what a clause begins with
pub clause_begins : (all : List Alias) (limit depth at : ℕ) (e : tree.Expr ℕ) (s : Store) (m : Meter) (bare : ℕ) → bare ≡ length all → depth ≡ bare + 1
    → holds_at (clause_setting here (Some limit) (map seen_alias all)) at e s m ≡ (eval (setting (map seen_alias all) limit depth) false e s m >>= (λ v. as_truth at v Done))
clause_begins all limit depth at e s m bare h same =
    ap (λ i. eval (setting (map seen_alias all) limit i) false e s m >>= (λ v. as_truth at v Done)) (sym (depth_is all bare depth h same))
  where
    depth_is : (all : List Alias) (bare depth : ℕ) → bare ≡ length all → depth ≡ bare + 1 → depth ≡ suc (length (map seen_alias all))
    depth_is all bare depth h e = let g : bare ≡ length (map seen_alias all) = types_counted all bare h in omega arith

-- ---- clauses one behind the other

abbrev pub ClausesLeft : Setting ℕ → CondKind → ℕ → List Expr → Store → Meter → Meter → List Expr → Type 0
ClausesLeft w kind at all s m now left = spec.clauses w kind at (seen_exprs all) s done m ≡ spec.clauses w kind at (seen_exprs left) s done now

at_clause : (w : Setting ℕ) (kind : CondKind) (at : ℕ) (all : List Expr) (s : Store) (now : Meter) (i : ℕ) (e : Expr) (place : ℕ) → i < length all → e ≡ get_or all i e → place ≡ w.place (node (seen_expr e))
    → spec.clauses w kind at (seen_exprs (drop i all)) s done now ≡ (holds_at w place (seen_expr e) s now >>= (λ b. check b kind at (spec.clauses w kind at (seen_exprs (drop (i + 1) all)) s done)))
at_clause w kind at all s now i e place within is there =
    ap (λ l. spec.clauses w kind at (seen_exprs l) s done now) (next_item all i e within is)
    ∙ ap (λ p. holds_at w p (seen_expr e) s now >>= (λ b. check b kind at (spec.clauses w kind at (seen_exprs (drop (i + 1) all)) s done))) (sym there)

pub clauses_turn : (w : Setting ℕ) (kind : CondKind) (at : ℕ) (all : List Expr) (s : Store) (m now k : Meter) (i : ℕ) (e : Expr) (place : ℕ) → i < length all → e ≡ get_or all i e → place ≡ w.place (node (seen_expr e))
    → (b : Bool) → holds_at w place (seen_expr e) s now ≡ Done b k → b ≡ true → ClausesLeft w kind at all s m now (drop i all) → ClausesLeft w kind at all s m k (drop (i + 1) all)
clauses_turn w kind at all s m now k i e place within is there b given true_is left =
    let rest = spec.clauses w kind at (seen_exprs (drop (i + 1) all)) s done in
    left ∙ (at_clause w kind at all s now i e place within is there
    ∙ (then_is (holds_at w place (seen_expr e) s now) (λ c. check c kind at rest) b k given ∙ ap (λ c. check c kind at rest k) true_is))

pub clauses_fail : (w : Setting ℕ) (kind : CondKind) (at : ℕ) (all : List Expr) (s : Store) (m now k : Meter) (i : ℕ) (e : Expr) (place : ℕ) → i < length all → e ≡ get_or all i e → place ≡ w.place (node (seen_expr e))
    → (b : Bool) → holds_at w place (seen_expr e) s now ≡ Done b k → b ≡ false → ClausesLeft w kind at all s m now (drop i all) → spec.clauses w kind at (seen_exprs all) s done m ≡ Fault kind at k
clauses_fail w kind at all s m now k i e place within is there b given false_is left =
    let rest = spec.clauses w kind at (seen_exprs (drop (i + 1) all)) s done in
    left ∙ (at_clause w kind at all s now i e place within is there
    ∙ (then_is (holds_at w place (seen_expr e) s now) (λ c. check c kind at rest) b k given ∙ ap (λ c. check c kind at rest k) false_is))

pub clauses_stop : (w : Setting ℕ) (kind : CondKind) (at : ℕ) (all : List Expr) (s : Store) (m now k : Meter) (i : ℕ) (e : Expr) (place : ℕ) (f : Stop) → i < length all → e ≡ get_or all i e → place ≡ w.place (node (seen_expr e))
    → (f ≢ stop.NoMemory → holds_at w place (seen_expr e) s now ≡ stopped f k) → ClausesLeft w kind at all s m now (drop i all) → f ≢ stop.NoMemory → spec.clauses w kind at (seen_exprs all) s done m ≡ stopped f k
clauses_stop w kind at all s m now k i e place f within is there given left none =
    let rest = spec.clauses w kind at (seen_exprs (drop (i + 1) all)) s done in
    left ∙ (at_clause w kind at all s now i e place within is there
    ∙ then_stops_plain (holds_at w place (seen_expr e) s now) (λ c. check c kind at rest) k f given none)

pub clauses_end : (w : Setting ℕ) (kind : CondKind) (at : ℕ) (all : List Expr) (s : Store) (m now : Meter) (i : ℕ) → length all ≤ i → ClausesLeft w kind at all s m now (drop i all) → spec.clauses w kind at (seen_exprs all) s done m ≡ Done tt now
clauses_end w kind at all s m now i past left = left ∙ ap (λ l. spec.clauses w kind at (seen_exprs l) s done now) (drop_all i all past)
