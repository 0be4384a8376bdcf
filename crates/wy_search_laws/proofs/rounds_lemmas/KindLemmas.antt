-- A fact on the kinds of a datum adds each of its three members, of which the search takes one.
use Rattle.std.proofs.Common.{◌≡◌, ◌⊎◌, List, [], ◌∷◌, Bool, true, false, cond, ◌||◌, Option, Some, None, inl, inr, refl, sym, ap, ◌∙◌, subst}
use Rattle.wy_lemmas.proofs.Choices.{or_cases as or_either}
use Rattle.wy_value.specs.Datum.{Datum}
use Rattle.wy_search_bounds.specs.wy_term.Term as term
use Rattle.wy_search_bounds.specs.wy_term.Term.{DataKind, null_kind, bool_kind, int_kind, Symbol, Term, Of, Parts, no_parts, part, leaf, one, two, Not}
use Rattle.wy_search_bounds.specs.wy_term.Data.{same_datum}
use Rattle.wy_search_bounds.specs.wy_term.Same.{same_kind, same_term}
use Rattle.wy_search_bounds.specs.wy_term.Sorts.{Sort, val_sort, sort_in}
use Rattle.wy_search_bounds.specs.wy_term.Rewriting.{True, False, decided, as_bool, as_int, as_constant, is_true, is_false, is_truth, has_false, has_true, without_true, without_false, joined, fold_and, fold_or, fold_num, fold_bool, fold_apart, fold_kind, kind_given}
use Rattle.wy_search_bounds.specs.wy_term_text.reread.Folded.{IsFolded}
use Rattle.wy_search_bounds.specs.wy_term_subst.Names.{any_symbol, any_in_parts}
use Rattle.wy_search_bounds.specs.wy_facts.declared.schema.Schema.TheVariants as schema
use Rattle.wy_search_bounds.specs.wy_facts.Made.{made_one, is_equal, all_three, either, implies}
use Rattle.wy_search_bounds.specs.wy_facts.Schema.{◌>>=◌, whole, number_in, stated, is_val_sort, is_val, only_if, instance, datum_by}
use Rattle.wy_search_bounds.specs.wy_term_subst.kept_sorts.SortKept.{HasSort}
use Rattle.wy_search_bounds.specs.wy_check_spec.judge.Node.{Node, added, added_all}
use Rattle.wy_search_bounds.specs.wy_check_spec.valid.Membership.{fact_among}
use Rattle.wy_search_bounds.specs.wy_term.Condition.{Entry}
use Rattle.wy_search_laws.specs.closing.AtLeast.{IsAtLeast, any_in_node, TestsNames, IsNear}
use Rattle.wy_search_laws.proofs.closing_lemmas.AtLeastLemmas.{at_least_added, more_added}
use Rattle.wy_search_laws.proofs.closing_lemmas.NameLemmas.{IsNamedIn, any_added}

-- ---- an `and` adds its members

is_no_member : (f : Term) (node : Node) → is_true f ≡ true → added node f ≡ node
is_no_member (Of term.all_of no_parts) node e = refl
is_no_member f node e = absurd cc

members_joined : (node : Node) (ps : Parts) → added node (joined term.all_of ps) ≡ added_all node ps
members_joined node no_parts = refl
members_joined node (part f no_parts) = refl
members_joined node (part f (part g ps)) = refl

members_left : (node : Node) (ps : Parts) → added_all node (without_true ps) ≡ added_all node ps
members_left node no_parts = refl
members_left node (part f ps) = by (is_true f) refl (members_left node ps) (members_left (added node f) ps)
  where
    by : (b : Bool) → is_true f ≡ b → added_all node (without_true ps) ≡ added_all node ps → added_all (added node f) (without_true ps) ≡ added_all (added node f) ps → added_all node (cond b (without_true ps) (part f (without_true ps))) ≡ added_all (added node f) ps
    by true e here there = here ∙ ap (λ (n : Node). added_all n ps) (sym (is_no_member f node e))
    by false e here there = there

-- where no member is `false`
pub members_added : (node : Node) (ps : Parts) → has_false ps ≡ false → added node (fold_and ps) ≡ added_all node ps
members_added node ps e = ap (λ (b : Bool). added node (cond b False (joined term.all_of (without_true ps)))) e ∙ (members_joined node (without_true ps) ∙ members_left node ps)

-- ---- what is said of a kind is never `false`

abbrev said_of : DataKind → Term → Term → Term
said_of kind v f = implies (one (term.of_kind kind) v) f

said_is : (kind : DataKind) (v f : Term) → is_false (said_of kind v f) ≡ false
said_is kind v f = by (is_true f) (is_false f)
  where
    by : (b c : Bool) → is_false (cond (cond b true false) True (joined term.any_of (part (Not (one (term.of_kind kind) v)) (cond c no_parts (part f no_parts))))) ≡ false
    by true c = refl
    by false true = refl
    by false false = refl

none_false : (f g h : Term) → is_false f ≡ false → is_false g ≡ false → is_false h ≡ false → has_false (part f (part g (part h no_parts))) ≡ false
none_false f g h a b c = rw (a, b, c) refl

-- ---- names

module _ (test : Symbol → Bool) (names : TestsNames test) where
  abbrev has : Term → Bool
  has t = any_symbol test t

  -- names of the one are names of the other
  abbrev IsWithin : Bool → Bool → Type 0
  IsWithin a b = a ≡ true → b ≡ true

  or_left : (a b : Bool) → a ≡ true → (a || b) ≡ true
  or_left true b e = refl
  or_left false b e = absurd cc

  or_right : (a b : Bool) → b ≡ true → (a || b) ≡ true
  or_right true b e = refl
  or_right false b e = e

  or_both : (a b c : Bool) → IsWithin a c → IsWithin b c → IsWithin (a || b) c
  or_both true b c f g e = f refl
  or_both false b c f g e = g e

  no_name : (s : Symbol) (b : Bool) → test s ≡ false → IsWithin (test s || b) b
  no_name s b e f = by (test s) e f
    where
      by : (c : Bool) → c ≡ false → (c || b) ≡ true → b ≡ true
      by true g h = absurd cc
      by false g h = h

  decided_bare : (b : Bool) (c : Bool) → IsWithin (has (decided b)) c
  decided_bare true c e = absurd (by (no_name term.all_of false (names term.all_of refl) e))
    where
      by : false ≡ true → ⊥
      by f = cc
  decided_bare false c e = absurd (by (no_name term.any_of false (names term.any_of refl) e))
    where
      by : false ≡ true → ⊥
      by f = cc

  leaf_bare : (s : Symbol) (c : Bool) → test s ≡ false → IsWithin (has (leaf s)) c
  leaf_bare s c e f = absurd (by (no_name s false e f))
    where
      by : false ≡ true → ⊥
      by g = cc

  parts_without_false : (ps : Parts) → IsWithin (any_in_parts test (without_false ps)) (any_in_parts test ps)
  parts_without_false no_parts = λ e. e
  parts_without_false (part f ps) = by (is_false f) (parts_without_false ps)
    where
      by : (b : Bool) → IsWithin (any_in_parts test (without_false ps)) (any_in_parts test ps) → IsWithin (any_in_parts test (cond b (without_false ps) (part f (without_false ps)))) (has f || any_in_parts test ps)
      by true rest e = or_right (has f) (any_in_parts test ps) (rest e)
      by false rest e = or_both (has f) (any_in_parts test (without_false ps)) (has f || any_in_parts test ps) (or_left (has f) (any_in_parts test ps)) (λ g. or_right (has f) (any_in_parts test ps) (rest g)) e

  or_with_none : (a : Bool) → IsWithin a (a || false)
  or_with_none true e = refl
  or_with_none false e = absurd cc

  joined_within : (s : Symbol) (ps : Parts) → test s ≡ false → IsWithin (has (joined s ps)) (any_in_parts test ps)
  joined_within s no_parts e f = leaf_bare s false e f
  joined_within s (part f no_parts) e g = or_with_none (has f) g
  joined_within s (part f (part g ps)) e h = no_name s (any_in_parts test (part f (part g ps))) e h

  or_within : (ps : Parts) → IsWithin (has (fold_or ps)) (any_in_parts test ps)
  or_within ps = by (has_true ps)
    where
      by : (b : Bool) → IsWithin (has (cond b True (joined term.any_of (without_false ps)))) (any_in_parts test ps)
      by true e = decided_bare true (any_in_parts test ps) e
      by false e = parts_without_false ps (joined_within term.any_of (without_false ps) (names term.any_of refl) e)

  either_within : (f g : Term) (c : Bool) → IsWithin (has f) c → IsWithin (has g) c → IsWithin (has (either f g)) c
  either_within f g c a b e = or_both (has f) (has g || false) c a (or_both (has g) false c b (λ k. absurd cc)) (or_within (part f (part g no_parts)) e)

  of_one_within : (s : Symbol) (v : Term) (c : Bool) → test s ≡ false → IsWithin (has v) c → IsWithin (has (one s v)) c
  of_one_within s v c e h f = or_both (has v) false c h (λ k. absurd cc) (no_name s (has v || false) e f)

  said_within : (kind : DataKind) (v f : Term) (c : Bool) → IsWithin (has v) c → IsWithin (has f) c → IsWithin (has (said_of kind v f)) c
  said_within kind v f c h g =
      either_within (Not (one (term.of_kind kind) v)) f c
      (of_one_within term.denied (one (term.of_kind kind) v) c (names term.denied refl) (of_one_within (term.of_kind kind) v c (names (term.of_kind kind) refl) h)) g

  -- an equation with a side that is no `bool(F)`
  equal_within : (v w : Term) (c : Bool) → as_bool v ≡ None → IsWithin (has v) c → IsWithin (has w) c → IsWithin (has (is_equal v w)) c
  equal_within v w c e h g = same (same_term v w)
    where
      whole_equation : IsWithin (has (two term.equal v w)) c
      whole_equation f = or_both (has v) (has w || false) c h (or_both (has w) false c g (λ k. absurd cc)) (no_name term.equal (has v || (has w || false)) (names term.equal refl) f)

      no_bool : (o : Option Term) (b : Bool) → o ≡ None → IsWithin (has (fold_bool (two term.equal v w) o b)) c
      no_bool None b f = whole_equation
      no_bool (Some x) b f = absurd cc

      apart : (d q : Option Datum) → IsWithin (has (fold_apart v w d q)) c
      apart (Some d) (Some q) = decided_bare (same_datum d q) c
      apart (Some d) None = whole_equation
      apart None q = no_bool (as_bool v) (is_truth w) e

      same : (b : Bool) → IsWithin (has (cond b True (fold_apart v w (as_constant v) (as_constant w)))) c
      same true = decided_bare true c
      same false = apart (as_constant v) (as_constant w)

  int_inside : (v s : Term) (c : Bool) → as_int v ≡ Some s → IsWithin (has v) c → IsWithin (has s) c
  int_inside (Of term.int (part t no_parts)) s c e h f = h (or_right (test term.int) (has t || false) (or_left (has t) false (subst (λ (u : Term). any_symbol test u ≡ true) (by t s e) f)))
    where
      by : (a b : Term) → as_int (Of term.int (part a no_parts)) ≡ Some b → b ≡ a
      by a b g = cc
  int_inside v s c e h f = absurd cc

  num_within : (v : Term) (c : Bool) → IsWithin (has v) c → IsWithin (has (made_one term.num v)) c
  num_within v c h = by (as_int v) refl
    where
      by : (o : Option Term) → as_int v ≡ o → IsWithin (has (fold_num v o)) c
      by None e = of_one_within term.num v c (names term.num refl) h
      by (Some s) e = int_inside v s c e h

  -- the three members have the names of the datum alone
  null_within : (v : Term) (c : Bool) → as_bool v ≡ None → IsWithin (has v) c → IsWithin (has (said_of null_kind v (is_equal v (leaf term.null)))) c
  null_within v c e h = said_within null_kind v (is_equal v (leaf term.null)) c h (equal_within v (leaf term.null) c e h (leaf_bare term.null c (names term.null refl)))

  truth_within : (v : Term) (b : Bool) (c : Bool) → as_bool v ≡ None → IsWithin (has v) c → IsWithin (has (is_equal v (leaf (term.truth b)))) c
  truth_within v b c e h = equal_within v (leaf (term.truth b)) c e h (leaf_bare (term.truth b) c (names (term.truth b) refl))

  bool_within : (v : Term) (c : Bool) → as_bool v ≡ None → IsWithin (has v) c → IsWithin (has (said_of bool_kind v (either (is_equal v (leaf (term.truth true))) (is_equal v (leaf (term.truth false)))))) c
  bool_within v c e h =
      said_within bool_kind v (either (is_equal v (leaf (term.truth true))) (is_equal v (leaf (term.truth false)))) c h
      (either_within (is_equal v (leaf (term.truth true))) (is_equal v (leaf (term.truth false))) c (truth_within v true c e h) (truth_within v false c e h))

  int_within : (v : Term) (c : Bool) → as_bool v ≡ None → IsWithin (has v) c → IsWithin (has (said_of int_kind v (is_equal v (whole (number_in v))))) c
  int_within v c e h =
      said_within int_kind v (is_equal v (whole (number_in v))) c h
      (equal_within v (whole (number_in v)) c e h (of_one_within term.int (number_in v) c (names term.int refl) (num_within v c h)))

-- ---- the fact

-- a datum of which no kind is known by its form
pub record IsUntold (v : Term) : Type 0 where
  pub kind : kind_given v ≡ None
  pub val : is_val v ≡ true

val_is : (s : Sort) → s ≡ val_sort → is_val_sort s ≡ true
val_is s e = ap is_val_sort e

-- a test of a kind that stands folded is one of such a datum
pub untold : (kind : DataKind) (v : Term) → IsFolded (one (term.of_kind kind) v) → HasSort v val_sort → IsUntold v
untold kind v h g = record { kind = by (kind_given v) h.0; val = val_is (sort_in v) g.1 }
  where
    never : (b : Bool) → decided b ≡ one (term.of_kind kind) v → ⊥
    never true e = cc
    never false e = cc

    by : (o : Option DataKind) → fold_kind kind v o ≡ one (term.of_kind kind) v → o ≡ None
    by None e = refl
    by (Some k) e = absurd (never (same_kind k kind) e)

no_bool : (v : Term) → kind_given v ≡ None → as_bool v ≡ None
no_bool (Of term.bool ps) e = absurd cc
no_bool v e = refl

abbrev pub null_said : Term → Term
null_said v = said_of null_kind v (is_equal v (leaf term.null))

abbrev pub bool_said : Term → Term
bool_said v = said_of bool_kind v (either (is_equal v (leaf (term.truth true))) (is_equal v (leaf (term.truth false))))

abbrev pub int_said : Term → Term
int_said v = said_of int_kind v (is_equal v (whole (number_in v)))

abbrev pub all_said : Term → Term
all_said v = all_three (null_said v) (bool_said v) (int_said v)

stated_is : (v : Term) → kind_given v ≡ None → stated schema.DatumByKind (v ∷ []) ≡ all_said v
stated_is v e =
    ap (λ (o : Option DataKind). all_three (implies (fold_kind null_kind v o) (is_equal v (leaf term.null))) (implies (fold_kind bool_kind v o) (either (is_equal v (leaf (term.truth true))) (is_equal v (leaf (term.truth false))))) (implies (fold_kind int_kind v o) (is_equal v (whole (number_in v))))) e

-- what the schema states of it
pub kind_fact_is : (types : List Entry) (v : Term) → IsUntold v → fact_among types 14 (v ∷ []) ≡ Some (all_said v)
kind_fact_is types v h =
    ap (λ (o : Option Term). datum_by v o >>= λ i. Some (stated i.schema i.parts)) (no_bool v h.kind)
    ∙ (ap (λ (b : Bool). only_if b (instance schema.DatumByKind (v ∷ [])) >>= λ i. Some (stated i.schema i.parts)) h.val ∙ ap (λ (f : Term). Some f) (stated_is v h.kind))

-- the three members are added one after the other
all_added : (node : Node) (v : Term) → added node (all_said v) ≡ added (added (added node (null_said v)) (bool_said v)) (int_said v)
all_added node v =
    members_added node (part (null_said v) (part (bool_said v) (part (int_said v) no_parts)))
    (none_false (null_said v) (bool_said v) (int_said v) (said_is null_kind v (is_equal v (leaf term.null))) (said_is bool_kind v (either (is_equal v (leaf (term.truth true))) (is_equal v (leaf (term.truth false))))) (said_is int_kind v (is_equal v (whole (number_in v)))))

-- a node with all three is near one with one of them, where the datum has names of the node alone
record IsOneOfThree (v f : Term) : Type 0 where
  among : (less more : Node) → IsAtLeast less more → IsAtLeast (added less f) (added (added (added more (null_said v)) (bool_said v)) (int_said v))

null_is_one : (v : Term) → IsOneOfThree v (null_said v)
null_is_one v = record { among = λ less more h. more_added (added less (null_said v)) (added (added more (null_said v)) (bool_said v)) (int_said v) (more_added (added less (null_said v)) (added more (null_said v)) (bool_said v) (at_least_added less more (null_said v) h)) }

bool_is_one : (v : Term) → IsOneOfThree v (bool_said v)
bool_is_one v = record { among = λ less more h. more_added (added less (bool_said v)) (added (added more (null_said v)) (bool_said v)) (int_said v) (at_least_added less (added more (null_said v)) (bool_said v) (more_added less more (null_said v) h)) }

int_is_one : (v : Term) → IsOneOfThree v (int_said v)
int_is_one v = record { among = λ less more h. at_least_added less (added (added more (null_said v)) (bool_said v)) (int_said v) (more_added less (added more (null_said v)) (bool_said v) (more_added less more (null_said v) h)) }

three_near : (v f : Term) (less more : Node) → IsOneOfThree v f → IsUntold v → IsNamedIn v less → IsNear less more → IsNear (added less f) (added more (all_said v))
three_near v f less more one h named near =
    subst (λ (n : Node). IsNear (added less f) n) (sym (all_added more v))
    (record { at_least = one.among less more near.at_least; names = within })
  where
    within : (test : Symbol → Bool) → TestsNames test → any_in_node test (added (added (added more (null_said v)) (bool_said v)) (int_said v)) ≡ true → any_in_node test (added less f) ≡ true
    within test tests e = sym_any (first (or_either (any_in_node test (added (added more (null_said v)) (bool_said v))) (any_symbol test (int_said v)) (sym (any_added test tests (added (added more (null_said v)) (bool_said v)) (int_said v)) ∙ e)))
      where
        of_datum : any_symbol test v ≡ true → any_in_node test less ≡ true
        of_datum k = named test tests k

        third : (any_in_node test more ≡ true) ⊎ (any_symbol test (null_said v) ≡ true) → any_in_node test less ≡ true
        third (inl k) = near.names test tests k
        third (inr k) = null_within test tests v (any_in_node test less) (no_bool v h.kind) of_datum k

        second : (any_in_node test (added more (null_said v)) ≡ true) ⊎ (any_symbol test (bool_said v) ≡ true) → any_in_node test less ≡ true
        second (inl k) = third (or_either (any_in_node test more) (any_symbol test (null_said v)) (sym (any_added test tests more (null_said v)) ∙ k))
        second (inr k) = bool_within test tests v (any_in_node test less) (no_bool v h.kind) of_datum k

        first : (any_in_node test (added (added more (null_said v)) (bool_said v)) ≡ true) ⊎ (any_symbol test (int_said v) ≡ true) → any_in_node test less ≡ true
        first (inl k) = second (or_either (any_in_node test (added more (null_said v))) (any_symbol test (bool_said v)) (sym (any_added test tests (added more (null_said v)) (bool_said v)) ∙ k))
        first (inr k) = int_within test tests v (any_in_node test less) (no_bool v h.kind) of_datum k

        sym_any : any_in_node test less ≡ true → any_in_node test (added less f) ≡ true
        sym_any k = any_added test tests less f ∙ ap (λ (b : Bool). b || any_symbol test f) k

pub null_near : (v : Term) (less more : Node) → IsUntold v → IsNamedIn v less → IsNear less more → IsNear (added less (null_said v)) (added more (all_said v))
null_near v less more h named near = three_near v (null_said v) less more (null_is_one v) h named near

pub bool_near : (v : Term) (less more : Node) → IsUntold v → IsNamedIn v less → IsNear less more → IsNear (added less (bool_said v)) (added more (all_said v))
bool_near v less more h named near = three_near v (bool_said v) less more (bool_is_one v) h named near

pub int_near : (v : Term) (less more : Node) → IsUntold v → IsNamedIn v less → IsNear less more → IsNear (added less (int_said v)) (added more (all_said v))
int_near v less more h named near = three_near v (int_said v) less more (int_is_one v) h named near

-- a node with all three is near one without them
pub all_near : (v : Term) (less more : Node) → IsUntold v → IsNamedIn v less → IsNear less more → IsNear less (added more (all_said v))
all_near v less more h named near = record {
  at_least = more_added less more (all_said v) near.at_least;
  names = λ test tests e. by test tests (or_either (any_in_node test less) (any_symbol test (null_said v)) (sym (any_added test tests less (null_said v)) ∙ (null_near v less more h named near).names test tests e));
}
  where
    by : (test : Symbol → Bool) → TestsNames test → (any_in_node test less ≡ true) ⊎ (any_symbol test (null_said v) ≡ true) → any_in_node test less ≡ true
    by test tests (inl e) = e
    by test tests (inr e) = null_within test tests v (any_in_node test less) (no_bool v h.kind) (named test tests) e
