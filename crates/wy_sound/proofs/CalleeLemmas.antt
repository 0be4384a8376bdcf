-- What the calls of a program may be given: as many arguments as there are parameters, which a program may hold, each in its parameter's type read upward.
use Rattle.std.proofs.Common.{◌≡◌, ℕ, zero, suc, ◌+◌, List, [], ◌∷◌, ◌++◌, length, Bool, true, false, not, ◌&&◌, ◌||◌, nat_eq, Option, Some, None, ℤ, refl, sym, subst, eqb-true, eq-eqb}
use Rattle.std.specs.Prelude.{is_some, slice_get}
use Rattle.std.proofs.lemmas.Bool.{and_parts}
use Rattle.wy_lemmas.proofs.Choices.{both_true, false_true as no_way}
use Rattle.wy_value.specs.Datum.{Datum, Null, Truth, Whole, Array, Record, Data, no_items, item}
use Rattle.wy_core.specs.Types.{Ty, ArrayTy, IntTy}
use Rattle.wy_core.specs.CoreTree.{Routine, Decl, AliasDecl, RoutineDecl, Core, aliases_of, routines_of}
use Rattle.wy_sound_programs.specs.wy_types.Names.{Declared, names_in, Up}
use Rattle.wy_flow_spec.specs.typing.Contexts as typing
use Rattle.wy_flow_spec.specs.typing.Programs.{types_of, result_type, signatures_in, built_in, program_of}
use Rattle.wy_sound_programs.specs.wy_sem.Evaluation.{Callee, Print, PrintInt, Undeclared, callee}
use Rattle.wy_sound_programs.specs.wy_sem.Evaluation as run
use Rattle.wy_core.specs.formed.Offers as offers
use Rattle.wy_core.specs.formed.Offers.{signatures_of, offers_of, builtin, IsCall}
use Rattle.wy_sound_programs.specs.wy_vc_spec.Numbered.{Node, numbered_decls, exprs_in_decl, numbered_core}
use Rattle.wy_sound_programs.specs.wy_sound_terms.operations.Kinds.{IsWhole}
use Rattle.wy_sound_types.specs.wy_sound_walks.expressions.Written.{IsWritten}
use Rattle.wy_sound_types.proofs.members_lemmas.WrittenLemmas.{bound_written}
use Rattle.wy_sound_programs.specs.wy_sound_kinds.Bounded.{AllBounded}
use Rattle.wy_sound_programs.specs.wy_sound_kinds.Ready.{Rules}
use Rattle.wy_sound_programs.specs.wy_sound_kinds.Kinds.{AreIn, AreArguments, AreFor}
use Rattle.wy_sound_programs.specs.wy_sound_statements.calls.PrintLaws.{AllWhole}
use Rattle.wy_sound_programs.specs.Along.{Allowed, in_statements}
use Rattle.wy_sound_programs.specs.FormedBodies.{Offering}
use Rattle.wy_sound.proofs.HeldLemmas.{all_held, all_held_are, all_are_held}
use Rattle.wy_sound.proofs.TestedLemmas.{is_writable, writable_is, is_writing}

-- ---- texts and numbers

abbrev pub is_number : Datum → Bool
is_number Null = false
is_number (Truth b) = false
is_number (Whole z) = true
is_number (Array ds) = false
is_number (Record fs) = false

abbrev pub are_numbers : Data → Bool
are_numbers no_items = true
are_numbers (item d ds) = is_number d && are_numbers ds

abbrev pub is_text : Datum → Bool
is_text Null = false
is_text (Truth b) = false
is_text (Whole z) = false
is_text (Array ds) = are_numbers ds
is_text (Record fs) = false

-- there is one, and it is so
abbrev pub is_one : (Datum → Bool) → List Datum → Bool
is_one test [] = false
is_one test (v ∷ []) = test v
is_one test (v ∷ w ∷ vs) = false

number_whole : (d : Datum) → is_number d ≡ true → IsWhole d
number_whole Null e = absurd cc
number_whole (Truth b) e = absurd cc
number_whole (Whole z) e = tt
number_whole (Array ds) e = absurd cc
number_whole (Record fs) e = absurd cc

numbers_whole : (ds : Data) → are_numbers ds ≡ true → AllWhole ds
numbers_whole no_items e = tt
numbers_whole (item d ds) e = let two = and_parts (is_number d) (are_numbers ds) e in (number_whole d two.0, numbers_whole ds two.1)

pub text_given : (vs : List Datum) → is_one is_text vs ≡ true → (ds : Data) × (vs ≡ Array ds ∷ []) × AllWhole ds
text_given [] e = absurd cc
text_given (Null ∷ []) e = absurd cc
text_given (Truth b ∷ []) e = absurd cc
text_given (Whole z ∷ []) e = absurd cc
text_given (Array ds ∷ []) e = (ds, refl, numbers_whole ds e)
text_given (Record fs ∷ []) e = absurd cc
text_given (v ∷ w ∷ vs) e = absurd cc

pub number_given : (vs : List Datum) → is_one is_number vs ≡ true → (z : ℤ) × (vs ≡ Whole z ∷ [])
number_given [] e = absurd cc
number_given (Null ∷ []) e = absurd cc
number_given (Truth b ∷ []) e = absurd cc
number_given (Whole z ∷ []) e = (z, refl)
number_given (Array ds ∷ []) e = absurd cc
number_given (Record fs ∷ []) e = absurd cc
number_given (v ∷ w ∷ vs) e = absurd cc

-- what the upward reading says of them
up_number : (names : List Declared) (d : Datum) → Up names d IntTy ≡ true → is_number d ≡ true
up_number names Null e = absurd cc
up_number names (Truth b) e = absurd cc
up_number names (Whole z) e = refl
up_number names (Array ds) e = absurd cc
up_number names (Record fs) e = absurd cc

up_numbers : (names : List Declared) (ds : Data) → Up names (Array ds) (ArrayTy IntTy) ≡ true → are_numbers ds ≡ true
up_numbers names no_items e = refl
up_numbers names (item d ds) e =
    let two = and_parts (Up names d IntTy) (Up names (Array ds) (ArrayTy IntTy)) e in both_true (is_number d) (are_numbers ds) (up_number names d two.0) (up_numbers names ds two.1)

up_text : (names : List Declared) (d : Datum) → Up names d (ArrayTy IntTy) ≡ true → is_text d ≡ true
up_text names Null e = absurd cc
up_text names (Truth b) e = absurd cc
up_text names (Whole z) e = absurd cc
up_text names (Array ds) e = up_numbers names ds e
up_text names (Record fs) e = absurd cc

-- ---- arguments in types

abbrev pub are_in : List Declared → List Ty → List Datum → Bool
are_in names [] vs = true
are_in names (t ∷ ts) [] = true
are_in names (t ∷ ts) (v ∷ vs) = Up names v t && are_in names ts vs

pub all_in : (names : List Declared) (ts : List Ty) (vs : List Datum) → are_in names ts vs ≡ true → AreIn names ts vs
all_in names [] vs e = tt
all_in names (t ∷ ts) [] e = tt
all_in names (t ∷ ts) (v ∷ vs) e = let two = and_parts (Up names v t) (are_in names ts vs) e in (two.0, all_in names ts vs two.1)

pub in_all : (names : List Declared) (ts : List Ty) (vs : List Datum) → AreIn names ts vs → are_in names ts vs ≡ true
in_all names [] vs h = refl
in_all names (t ∷ ts) [] h = refl
in_all names (t ∷ ts) (v ∷ vs) h = both_true (Up names v t) (are_in names ts vs) h.0 (in_all names ts vs h.1)

-- ---- what a call is given

-- what is called may be given these
abbrev pub taken_by : List Declared → Callee Node → List Datum → Bool
taken_by names (run.Declared n) vs = nat_eq (length vs) (length n.params) && (all_held vs && are_in names (types_of n.params) vs)
taken_by names Print vs = is_one is_text vs
taken_by names PrintInt vs = is_one is_number vs
taken_by names Undeclared vs = false

-- it gives a value
abbrev pub gives_value : Callee Node → Bool
gives_value (run.Declared n) = is_some n.result
gives_value Print = false
gives_value PrintInt = false
gives_value Undeclared = false

abbrev pub called_in : Core ℕ → ℕ → Callee Node
called_in core f = callee (routines_of (numbered_core core)) f

abbrev pub takes_of : Core ℕ → ℕ → List Datum → Bool
takes_of core f vs = taken_by (names_in core) (called_in core f) vs

-- in an expression what is called gives a value
abbrev pub values_of : Core ℕ → ℕ → List Datum → Bool
values_of core f vs = takes_of core f vs && gives_value (called_in core f)

pub given_well : (names : List Declared) (n : Routine Node) (vs : List Datum) → taken_by names (run.Declared n) vs ≡ true → (length vs ≡ length n.params) × AllBounded vs × AreIn names (types_of n.params) vs
given_well names n vs e =
    let two = and_parts (nat_eq (length vs) (length n.params)) (all_held vs && are_in names (types_of n.params) vs) e in
    let rest = and_parts (all_held vs) (are_in names (types_of n.params) vs) two.1 in
    (eqb-true (length vs) (length n.params) two.0, all_held_are vs rest.0, all_in names (types_of n.params) vs rest.1)

pub well_given : (names : List Declared) (n : Routine Node) (vs : List Datum) → length vs ≡ length n.params → AllBounded vs → AreIn names (types_of n.params) vs → taken_by names (run.Declared n) vs ≡ true
well_given names n vs count bounded inside =
    both_true (nat_eq (length vs) (length n.params)) (all_held vs && are_in names (types_of n.params) vs) (eq-eqb (length vs) (length n.params) count)
    (both_true (all_held vs) (are_in names (types_of n.params) vs) (all_are_held vs bounded) (in_all names (types_of n.params) vs inside))

-- ---- rules

-- what is offered takes so many, and gives a value where that is asked
abbrev pub may_call : Option offers.Signature → Bool → ℕ → Bool
may_call None for_value n = false
may_call (Some s) for_value n = nat_eq s.arity n && (not for_value || s.has_result)

-- tests may ask about types that a source may write; functions and methods that are offered may be called, with as many arguments as they take
abbrev pub rules_of : Core ℕ → Rules
rules_of core = record { tested = is_writable; called = λ f n. may_call (slice_get (signatures_of core) f) true n }

abbrev pub allowed_of : Core ℕ → ℕ → Allowed
allowed_of core many = record { rules = rules_of core; statements = λ f n. may_call (slice_get (signatures_of core) f) false n; many = many }

pub rules_written : (core : Core ℕ) (t : Ty) → (rules_of core).tested t ≡ true → IsWritten t
rules_written core t e = writable_is t e

value_asked : (b has : Bool) → (b ≡ true → has ≡ true) → (not b || has) ≡ true
value_asked true has h = h refl
value_asked false has h = refl

call_allowed : (core : Core ℕ) (for_value : Bool) (f n : ℕ) → IsCall (offers_of core) for_value f n → may_call (slice_get (signatures_of core) f) for_value n ≡ true
call_allowed core for_value f n c =
    subst (λ (s : Option offers.Signature). may_call s for_value n ≡ true) (sym c.offered)
    (both_true (nat_eq c.called.arity n) (not for_value || c.called.has_result) (eq-eqb c.called.arity n c.arity) (value_asked for_value c.called.has_result c.value))

pub offered : (core : Core ℕ) (many : ℕ) → Offering (offers_of core) (allowed_of core many)
offered core many = record {
  tested = λ t h. is_writing t (bound_written (length (aliases_of core)) t h);
  called = λ f n c. call_allowed core true f n c;
  stated = λ f n c. call_allowed core false f n c;
}

-- ---- signatures

-- what a number calls has these signatures, of names and of types
abbrev pub IsSigned : Callee Node → Option offers.Signature → Option typing.Signature → Type 0
IsSigned (run.Declared n) s t = (s ≡ Some (offers.signature_of n)) × (t ≡ Some (record { params = types_of n.params; result = result_type n.result }))
IsSigned Print s t = (s ≡ Some builtin) × (t ≡ Some (record { params = ArrayTy IntTy ∷ []; result = None }))
IsSigned PrintInt s t = (s ≡ Some builtin) × (t ≡ Some (record { params = IntTy ∷ []; result = None }))
IsSigned Undeclared s t = s ≡ None

signed_in : (ds : List (Decl ℕ)) (k f : ℕ) → IsSigned (callee (routines_of (numbered_decls ds k)) f) (slice_get (signatures_of ds) f) (slice_get (signatures_in (routines_of ds) ++ built_in) f)
signed_in [] k zero = (refl, refl)
signed_in [] k (suc zero) = (refl, refl)
signed_in [] k (suc (suc f)) = refl
signed_in (AliasDecl a ∷ ds) k f = signed_in ds (k + exprs_in_decl (AliasDecl a)) f
signed_in (RoutineDecl r ∷ ds) k zero = (refl, refl)
signed_in (RoutineDecl r ∷ ds) k (suc f) = signed_in ds (k + exprs_in_decl (RoutineDecl r)) f

pub signed : (core : Core ℕ) (f : ℕ) → IsSigned (called_in core f) (slice_get (signatures_of core) f) (slice_get (program_of core).signatures f)
signed core f = signed_in core 0 f

-- one argument
one_of : (names : List Declared) (t : Ty) (test : Datum → Bool) → ((d : Datum) → Up names d t ≡ true → test d ≡ true) → (vs : List Datum) → 1 ≡ length vs → AreIn names (t ∷ []) vs → is_one test vs ≡ true
one_of names t test h [] e inside = absurd cc
one_of names t test h (v ∷ []) e inside = h v inside.0
one_of names t test h (v ∷ w ∷ vs) e inside = absurd cc

module _ (names : List Declared) (for_value : Bool) (vs : List Datum) (bounded : AllBounded vs) where
  pub may_take : (c : Callee Node) (s : Option offers.Signature) (t : Option typing.Signature) → IsSigned c s t → may_call s for_value (length vs) ≡ true → AreArguments names t vs → taken_by names c vs ≡ true
  may_take (run.Declared n) s t h e inside =
      let two = and_parts (nat_eq (length n.params) (length vs)) (not for_value || is_some n.result) (subst (λ (x : Option offers.Signature). may_call x for_value (length vs) ≡ true) h.0 e) in
      well_given names n vs (sym (eqb-true (length n.params) (length vs) two.0)) bounded (subst (λ (x : Option typing.Signature). AreArguments names x vs) h.1 inside)
  may_take Print s t h e inside =
      let two = and_parts (nat_eq 1 (length vs)) (not for_value || false) (subst (λ (x : Option offers.Signature). may_call x for_value (length vs) ≡ true) h.0 e) in
      one_of names (ArrayTy IntTy) is_text (up_text names) vs (eqb-true 1 (length vs) two.0) (subst (λ (x : Option typing.Signature). AreArguments names x vs) h.1 inside)
  may_take PrintInt s t h e inside =
      let two = and_parts (nat_eq 1 (length vs)) (not for_value || false) (subst (λ (x : Option offers.Signature). may_call x for_value (length vs) ≡ true) h.0 e) in
      one_of names IntTy is_number (up_number names) vs (eqb-true 1 (length vs) two.0) (subst (λ (x : Option typing.Signature). AreArguments names x vs) h.1 inside)
  may_take Undeclared s t h e inside = no_way (subst (λ (x : Option offers.Signature). may_call x for_value (length vs) ≡ true) h e)

may_give : (n : ℕ) (c : Callee Node) (s : Option offers.Signature) (t : Option typing.Signature) → IsSigned c s t → may_call s true n ≡ true → gives_value c ≡ true
may_give n (run.Declared r) s t h e = (and_parts (nat_eq (length r.params) n) (is_some r.result) (subst (λ (x : Option offers.Signature). may_call x true n ≡ true) h.0 e)).1
may_give n Print s t h e = (and_parts (nat_eq 1 n) false (subst (λ (x : Option offers.Signature). may_call x true n ≡ true) h.0 e)).1
may_give n PrintInt s t h e = (and_parts (nat_eq 1 n) false (subst (λ (x : Option offers.Signature). may_call x true n ≡ true) h.0 e)).1
may_give n Undeclared s t h e = no_way (subst (λ (x : Option offers.Signature). may_call x true n ≡ true) h e)

-- calls with arguments of their parameters' types are given what they take
pub stated_taken : (core : Core ℕ) (many f : ℕ) (vs : List Datum) → AreFor (program_of core) (in_statements (allowed_of core many)) f vs → takes_of core f vs ≡ true
stated_taken core many f vs h = may_take (names_in core) false vs h.bounded (called_in core f) (slice_get (signatures_of core) f) (slice_get (program_of core).signatures f) (signed core f) h.called h.arguments

pub called_taken : (core : Core ℕ) (f : ℕ) (vs : List Datum) → AreFor (program_of core) (rules_of core) f vs → values_of core f vs ≡ true
called_taken core f vs h =
    let c = called_in core f in
    let s = slice_get (signatures_of core) f in
    let t = slice_get (program_of core).signatures f in
    both_true (taken_by (names_in core) c vs) (gives_value c) (may_take (names_in core) true vs h.bounded c s t (signed core f) h.called h.arguments) (may_give (length vs) c s t (signed core f) h.called)
