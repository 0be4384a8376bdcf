-- Tests of types keep each relation of runs.
use Rattle.std.proofs.Common.{ℕ, zero, suc, List, [], ◌∷◌, Bool, true, false, length}
use Rattle.std.specs.Prelude.{Option, Some, not}
use Rattle.wy_term.specs.wy_value.Datum.{Datum, Null, Truth, Whole, Array, Record, Data, no_items, item, Fields, no_fields, field}
use Rattle.wy_types.specs.wy_core.Types.{Ty, NullTy, BoolTy, IntTy, AnyTy, VoidTy, RecordTy, ArrayTy, UnionTy, InterTy, NotTy, NamedTy, NormalTy, FieldTys, NoFieldTys, MoreFieldTys}
use Rattle.wy_types.specs.wy_core.CoreTree.{Expr, Alias}
use Rattle.wy_term.specs.declared.cond.CondKind.{CondKind}
use Rattle.wy_sem.specs.Meter.{Run}
use Rattle.wy_sem.specs.Expressions.{Store, no_calls, node, holds_at, holds, clauses}
use Rattle.wy_sem.specs.TypeTests.{Test, answer, both, either, opposite, Questions, asked, name_asked, asked_of, no_items_asked, no_parts_asked, is_null, is_truth, is_whole, few_enough, same_names, tested, items_tested, parts_tested, all_hold, alias_holds, alias_at, unset, set_if, tests, member}
use Rattle.wy_sem.specs.Relation.{Relation, Spends, Turns}
use Rattle.wy_sem.proofs.RelatedOperations.{choose-kept, check-kept, truth-kept}
use Rattle.wy_sem.proofs.RelatedExpressions.{setting, eval-kept}

module _ (q : Relation) where
  pub answer-kept : (b : Bool) → q.Rel Bool (answer b) (answer b)
  answer-kept b = q.done Bool b

  both-kept : (f g h k : Test) → q.Rel Bool f h → q.Rel Bool g k → q.Rel Bool (both f g) (both h k)
  both-kept f g h k p r = q.bind Bool Bool f h _ _ p (λ b. choose-kept q Bool b _ _ _ _ r (q.done Bool false))

  either-kept : (f g h k : Test) → q.Rel Bool f h → q.Rel Bool g k → q.Rel Bool (either f g) (either h k)
  either-kept f g h k p r = q.bind Bool Bool f h _ _ p (λ b. choose-kept q Bool b _ _ _ _ (q.done Bool true) r)

  opposite-kept : (f h : Test) → q.Rel Bool f h → q.Rel Bool (opposite f) (opposite h)
  opposite-kept f h p = q.bind Bool Bool f h _ _ p (λ b. q.done Bool (not b))

abbrev questions : Bool → Option ℕ → (ℕ → Ty) → ℕ → (ℕ → Datum → Test) → Questions
questions paid limit definition bare clause = record { paid = paid; limit = limit; definition = definition; bare = bare; clause = clause }

module _ (q : Relation) (paid : Bool) (l1 l2 : Option ℕ) (turns : Turns q l1 l2 paid) (definition : ℕ → Ty) (bare : ℕ)
    (k1 k2 : ℕ → Datum → Test) (clause : (n : ℕ) (d : Datum) → q.Rel Bool (k1 n d) (k2 n d)) where
  asked-kept : (n1 n2 : ℕ → Test) (d : Datum) (i1 i2 : Ty → Test) (p1 p2 : FieldTys → Test) → ((n : ℕ) → q.Rel Bool (n1 n) (n2 n)) → ((t : Ty) → q.Rel Bool (i1 t) (i2 t)) → ((fs : FieldTys) → q.Rel Bool (p1 fs) (p2 fs))
      → (t : Ty) → q.Rel Bool (asked (questions paid l1 definition bare k1) n1 d i1 p1 t) (asked (questions paid l2 definition bare k2) n2 d i2 p2 t)
  asked-kept n1 n2 d i1 i2 p1 p2 hn hi hp NullTy = turns Bool _ _ (answer-kept q (is_null d))
  asked-kept n1 n2 d i1 i2 p1 p2 hn hi hp BoolTy = turns Bool _ _ (answer-kept q (is_truth d))
  asked-kept n1 n2 d i1 i2 p1 p2 hn hi hp IntTy = turns Bool _ _ (answer-kept q (is_whole d))
  asked-kept n1 n2 d i1 i2 p1 p2 hn hi hp AnyTy = turns Bool _ _ (answer-kept q true)
  asked-kept n1 n2 d i1 i2 p1 p2 hn hi hp VoidTy = turns Bool _ _ (answer-kept q false)
  asked-kept n1 n2 d i1 i2 p1 p2 hn hi hp (RecordTy fields) = turns Bool _ _ (hp fields)
  asked-kept n1 n2 d i1 i2 p1 p2 hn hi hp (ArrayTy t) = turns Bool _ _ (hi t)
  asked-kept n1 n2 d i1 i2 p1 p2 hn hi hp (UnionTy s t) = turns Bool _ _ (either-kept q _ _ _ _ (asked-kept n1 n2 d i1 i2 p1 p2 hn hi hp s) (asked-kept n1 n2 d i1 i2 p1 p2 hn hi hp t))
  asked-kept n1 n2 d i1 i2 p1 p2 hn hi hp (InterTy s t) = turns Bool _ _ (both-kept q _ _ _ _ (asked-kept n1 n2 d i1 i2 p1 p2 hn hi hp s) (asked-kept n1 n2 d i1 i2 p1 p2 hn hi hp t))
  asked-kept n1 n2 d i1 i2 p1 p2 hn hi hp (NotTy t) = turns Bool _ _ (opposite-kept q _ _ (asked-kept n1 n2 d i1 i2 p1 p2 hn hi hp t))
  asked-kept n1 n2 d i1 i2 p1 p2 hn hi hp (NamedTy n) = turns Bool _ _ (hn n)
  asked-kept n1 n2 d i1 i2 p1 p2 hn hi hp (NormalTy union) = turns Bool _ _ (answer-kept q false)

  name-kept : (d : Datum) (i1 i2 : Ty → Test) (p1 p2 : FieldTys → Test) → ((t : Ty) → q.Rel Bool (i1 t) (i2 t)) → ((fs : FieldTys) → q.Rel Bool (p1 fs) (p2 fs))
      → (j n : ℕ) → q.Rel Bool (name_asked (questions paid l1 definition bare k1) d i1 p1 j n) (name_asked (questions paid l2 definition bare k2) d i2 p2 j n)
  name-kept d i1 i2 p1 p2 hi hp zero n = q.more Bool
  name-kept d i1 i2 p1 p2 hi hp (suc j) n = both-kept q _ _ _ _ (asked-kept _ _ d i1 i2 p1 p2 (λ i. name-kept d i1 i2 p1 p2 hi hp j i) hi hp (definition n)) (clause n d)

  here-kept : (d : Datum) (i1 i2 : Ty → Test) (p1 p2 : FieldTys → Test) → ((t : Ty) → q.Rel Bool (i1 t) (i2 t)) → ((fs : FieldTys) → q.Rel Bool (p1 fs) (p2 fs))
      → (t : Ty) → q.Rel Bool (asked_of (questions paid l1 definition bare k1) d i1 p1 t) (asked_of (questions paid l2 definition bare k2) d i2 p2 t)
  here-kept d i1 i2 p1 p2 hi hp t = asked-kept _ _ d i1 i2 p1 p2 (λ n. name-kept d i1 i2 p1 p2 hi hp bare n) hi hp t

  no_item-kept : (t : Ty) → q.Rel Bool (no_items_asked t) (no_items_asked t)
  no_item-kept t = q.done Bool false

  no_part-kept : (fs : FieldTys) → q.Rel Bool (no_parts_asked fs) (no_parts_asked fs)
  no_part-kept fs = q.done Bool false

  mutual
    pub tested-kept : (d : Datum) (t : Ty) → q.Rel Bool (tested (questions paid l1 definition bare k1) d t) (tested (questions paid l2 definition bare k2) d t)
    tested-kept Null t = here-kept Null _ _ _ _ no_item-kept no_part-kept t
    tested-kept (Truth b) t = here-kept (Truth b) _ _ _ _ no_item-kept no_part-kept t
    tested-kept (Whole z) t = here-kept (Whole z) _ _ _ _ no_item-kept no_part-kept t
    tested-kept (Array ds) t = here-kept (Array ds) _ _ _ _ (λ u. choose-kept q Bool (few_enough ds) _ _ _ _ (items_tested-kept ds u) (q.done Bool false)) no_part-kept t
    tested-kept (Record fs) t = here-kept (Record fs) _ _ _ _ no_item-kept (λ us. choose-kept q Bool (same_names fs us) _ _ _ _ (parts_tested-kept fs us) (q.done Bool false)) t

    items_tested-kept : (ds : Data) (t : Ty) → q.Rel Bool (items_tested (questions paid l1 definition bare k1) ds t) (items_tested (questions paid l2 definition bare k2) ds t)
    items_tested-kept no_items t = q.done Bool true
    items_tested-kept (item d ds) t = both-kept q _ _ _ _ (tested-kept d t) (items_tested-kept ds t)

    parts_tested-kept : (fs : Fields) (us : FieldTys) → q.Rel Bool (parts_tested (questions paid l1 definition bare k1) fs us) (parts_tested (questions paid l2 definition bare k2) fs us)
    parts_tested-kept no_fields us = q.done Bool true
    parts_tested-kept (field n d fs) NoFieldTys = q.done Bool true
    parts_tested-kept (field n d fs) (MoreFieldTys o t us) = both-kept q _ _ _ _ (tested-kept d t) (parts_tested-kept fs us)

module _ {N : Type 0} (place : N → ℕ) (q : Relation) (l1 l2 : Option ℕ) (types : List (Alias N)) (paid : Bool) (spends : Spends q paid) (turns : Turns q l1 l2 paid) where
  all_hold-kept : (t1 t2 : Bool → Ty → Datum → Run Bool) → ((t : Ty) (d : Datum) → q.Rel Bool (t1 paid t d) (t2 paid t d)) → (es : List (Expr N)) (s : Store)
      → q.Rel Bool (all_hold (setting place l1 t1 no_calls) paid es s) (all_hold (setting place l2 t2 no_calls) paid es s)
  all_hold-kept t1 t2 h [] s = q.done Bool true
  all_hold-kept t1 t2 h (e ∷ es) s = q.bind Datum Bool _ _ _ _ (eval-kept place q paid l1 l2 spends turns t1 t2 h no_calls no_calls (λ f at vs. q.more (Option Datum)) e s)
      (λ v. truth-kept q Bool (place (node e)) v _ _ (λ b. choose-kept q Bool b _ _ _ _ (all_hold-kept t1 t2 h es s) (q.done Bool false)))

  pub alias-kept : (t1 t2 : Bool → Ty → Datum → Run Bool) → ((t : Ty) (d : Datum) → q.Rel Bool (t1 paid t d) (t2 paid t d)) → (a : Alias N) (d : Datum)
      → q.Rel Bool (alias_holds (setting place l1 t1 no_calls) paid a d) (alias_holds (setting place l2 t2 no_calls) paid a d)
  alias-kept t1 t2 h a d = all_hold-kept t1 t2 h a.clauses (set_if (unset a.variables) a.variable (Some d))

  pub tests-kept : (j : ℕ) (t : Ty) (d : Datum) → q.Rel Bool (tests place l1 types j paid t d) (tests place l2 types j paid t d)
  tests-kept zero t d = q.more Bool
  tests-kept (suc j) t d = tested-kept q paid l1 l2 turns (λ n. (alias_at types n).ty) (length types) _ _
      (λ n e. alias-kept (tests place l1 types j) (tests place l2 types j) (λ u v. tests-kept j u v) (alias_at types n) e) d t

module _ {N : Type 0} (place : N → ℕ) (q : Relation) (l1 l2 : Option ℕ) (types : List (Alias N)) (turns : Turns q l1 l2 false) where
  free : Spends q false
  free X r s p = p

  pub member-kept : (t : Ty) (d : Datum) → q.Rel Bool (member place l1 types t d) (member place l2 types t d)
  member-kept t d = tested-kept q false l1 l2 turns (λ n. (alias_at types n).ty) (length types) _ _
      (λ n e. q.pardon _ _ (alias-kept place q l1 l2 types false free turns (tests place l1 types (suc (length types))) (tests place l2 types (suc (length types)))
      (λ u v. tests-kept place q l1 l2 types false free turns (suc (length types)) u v) (alias_at types n) e)) d t

-- clauses that are checked
module _ {N : Type 0} (place : N → ℕ) (q : Relation) (l1 l2 : Option ℕ) (turns : Turns q l1 l2 false)
    (t1 t2 : Bool → Ty → Datum → Run Bool) (tests_hold : (t : Ty) (d : Datum) → q.Rel Bool (t1 false t d) (t2 false t d)) (c1 c2 : ℕ → ℕ → List Datum → Run (Option Datum)) where
  pub holds_at-kept : (at : ℕ) (e : Expr N) (s : Store) → q.Rel Bool (holds_at (setting place l1 t1 c1) at e s) (holds_at (setting place l2 t2 c2) at e s)
  holds_at-kept at e s = q.bind Datum Bool _ _ _ _ (eval-kept place q false l1 l2 (λ X r s p. p) turns t1 t2 tests_hold no_calls no_calls (λ f at vs. q.more (Option Datum)) e s)
      (λ v. truth-kept q Bool at v _ _ (λ b. q.done Bool b))

  pub holds-kept : (e : Expr N) (s : Store) → q.Rel Bool (holds (setting place l1 t1 c1) e s) (holds (setting place l2 t2 c2) e s)
  holds-kept e s = holds_at-kept (place (node e)) e s

  pub clauses-kept : (X : Type 0) (kind : CondKind) (at : ℕ) (es : List (Expr N)) (s : Store) (f g : Run X) → q.Rel X f g
      → q.Rel X (clauses (setting place l1 t1 c1) kind at es s f) (clauses (setting place l2 t2 c2) kind at es s g)
  clauses-kept X kind at [] s f g p = p
  clauses-kept X kind at (e ∷ es) s f g p = q.bind Bool X _ _ _ _ (holds-kept e s) (λ b. check-kept q X b kind at _ _ (clauses-kept X kind at es s f g p))
