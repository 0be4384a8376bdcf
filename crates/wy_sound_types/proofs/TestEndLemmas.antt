-- A test of a type in a contract ends, since the clauses of a type test types of lower levels.
use Rattle.std.proofs.Common.{ℕ, zero, suc, ◌<◌, ◌≤◌, List, [], ◌∷◌, length, Bool, true, false, arith}
use Rattle.std.specs.Prelude.{Some, None, not}
use Rattle.wy_value.specs.Datum.{Datum, Null, Truth, Whole, Array, Record, Data, no_items, item, Fields, no_fields, field}
use Rattle.wy_core.specs.Types.{Ty, NullTy, BoolTy, IntTy, AnyTy, VoidTy, RecordTy, ArrayTy, UnionTy, InterTy, NotTy, NamedTy, NormalTy, FieldTys, NoFieldTys, MoreFieldTys}
use Rattle.wy_core.specs.CoreTree.{Expr, Alias, Core}
use Rattle.wy_core.specs.formed.Bound.{Bound}
use Rattle.wy_core.specs.formed.Recursion.{Recursion}
use Rattle.wy_sem.specs.Expressions.{Store, node}
use Rattle.wy_sem.specs.TypeTests.{Test, answer, both, either, opposite, Questions, visit, asked, name_asked, asked_of, is_null, is_truth, is_whole, few_enough, same_names, tested, items_tested, parts_tested, alias_at, unset, set_if, all_hold, alias_holds, tests}
use Rattle.wy_sound_statements.specs.wy_vc_spec.Numbered.{Node}
use Rattle.wy_vc_laws.specs.grounded.Uses.{NamesAll, AllNamesAll, NamesBare, ClausesTestAll}
use Rattle.wy_vc_laws.proofs.grounded_lemmas.LevelLemmas.{types, level, level_within, level_above, ranked, rank_within, types_levelled}
use Rattle.wy_sound_types.proofs.ExactLemmas.{all_names, all_in_fields}
use Rattle.wy_sound_types.specs.Tests.{AllQuiet, setting_to}
use Rattle.wy_sound_types.proofs.EndLemmas.{Ended, bound, done, chosen, with_truth, counted, eval_ends}

both_end : (f g : Test) → Ended Bool f → Ended Bool g → Ended Bool (both f g)
both_end f g p q = bound Bool Bool f _ p (λ b. chosen Bool b g (answer false) q (done Bool false))

either_end : (f g : Test) → Ended Bool f → Ended Bool g → Ended Bool (either f g)
either_end f g p q = bound Bool Bool f _ p (λ b. chosen Bool b (answer true) g (done Bool true) q)

opposite_ends : (f : Test) → Ended Bool f → Ended Bool (opposite f)
opposite_ends f p = bound Bool Bool f _ p (λ b. done Bool (not b))

-- ---- the visits of a type

-- what a test in a contract without a limit goes by
abbrev unpaid : (ℕ → Ty) → ℕ → (ℕ → Datum → Test) → Questions
unpaid definition bare clause = record { paid = false; limit = None; definition = definition; bare = bare; clause = clause }

module _ (definition : ℕ → Ty) (bare : ℕ) (clause : ℕ → Datum → Test) (P : ℕ → Type 0) (rank : ℕ → ℕ)
    (named : (b : ℕ) → P b → NamesBare (λ c. P c × (rank c < rank b)) P (definition b)) (within : (b : ℕ) → P b → rank b < bare) (clauses : (b : ℕ) → P b → (d : Datum) → Ended Bool (clause b d)) where
  abbrev q : Questions
  q = unpaid definition bare clause

  visit_ends : (f : Test) → Ended Bool f → Ended Bool (visit q f)
  visit_ends f p = counted Bool f p

  asked_ends : (j : ℕ) (name : ℕ → Test) (d : Datum) (items : Ty → Test) (parts : FieldTys → Test) → ((c : ℕ) → P c → rank c < j → Ended Bool (name c)) → ((t : Ty) → NamesAll P t → Ended Bool (items t)) → ((us : FieldTys) → AllNamesAll P us → Ended Bool (parts us))
      → (t : Ty) → NamesBare (λ c. P c × (rank c < j)) P t → Ended Bool (asked q name d items parts t)
  asked_ends j name d items parts hn hi hp NullTy b = visit_ends _ (done Bool (is_null d))
  asked_ends j name d items parts hn hi hp BoolTy b = visit_ends _ (done Bool (is_truth d))
  asked_ends j name d items parts hn hi hp IntTy b = visit_ends _ (done Bool (is_whole d))
  asked_ends j name d items parts hn hi hp AnyTy b = visit_ends _ (done Bool true)
  asked_ends j name d items parts hn hi hp VoidTy b = visit_ends _ (done Bool false)
  asked_ends j name d items parts hn hi hp (RecordTy fields) b = visit_ends _ (hp fields b)
  asked_ends j name d items parts hn hi hp (ArrayTy t) b = visit_ends _ (hi t b)
  asked_ends j name d items parts hn hi hp (UnionTy s t) b = visit_ends _ (either_end _ _ (asked_ends j name d items parts hn hi hp s b.0) (asked_ends j name d items parts hn hi hp t b.1))
  asked_ends j name d items parts hn hi hp (InterTy s t) b = visit_ends _ (both_end _ _ (asked_ends j name d items parts hn hi hp s b.0) (asked_ends j name d items parts hn hi hp t b.1))
  asked_ends j name d items parts hn hi hp (NotTy t) b = visit_ends _ (opposite_ends _ (asked_ends j name d items parts hn hi hp t b))
  asked_ends j name d items parts hn hi hp (NamedTy c) b = visit_ends _ (hn c b.0 b.1)
  asked_ends j name d items parts hn hi hp (NormalTy union) b = visit_ends _ (done Bool false)

  -- a name in a type whose names are bare ones of any rank
  bare_all : (t : Ty) → NamesAll P t → NamesBare (λ c. P c × (rank c < bare)) P t
  bare_all NullTy h = tt
  bare_all BoolTy h = tt
  bare_all IntTy h = tt
  bare_all AnyTy h = tt
  bare_all VoidTy h = tt
  bare_all (RecordTy fields) h = h
  bare_all (ArrayTy t) h = h
  bare_all (UnionTy s t) h = (bare_all s h.0, bare_all t h.1)
  bare_all (InterTy s t) h = (bare_all s h.0, bare_all t h.1)
  bare_all (NotTy t) h = bare_all t h
  bare_all (NamedTy c) h = (h, within c h)
  bare_all (NormalTy union) h = tt

  -- bare names of lower ranks than one, of lower ranks than a number above it
  bare_more : (i j : ℕ) → i ≤ j → (t : Ty) → NamesBare (λ c. P c × (rank c < i)) P t → NamesBare (λ c. P c × (rank c < j)) P t
  bare_more i j le NullTy h = tt
  bare_more i j le BoolTy h = tt
  bare_more i j le IntTy h = tt
  bare_more i j le AnyTy h = tt
  bare_more i j le VoidTy h = tt
  bare_more i j le (RecordTy fields) h = h
  bare_more i j le (ArrayTy t) h = h
  bare_more i j le (UnionTy s t) h = (bare_more i j le s h.0, bare_more i j le t h.1)
  bare_more i j le (InterTy s t) h = (bare_more i j le s h.0, bare_more i j le t h.1)
  bare_more i j le (NotTy t) h = bare_more i j le t h
  bare_more i j le (NamedTy c) h = let l : rank c < i = h.1 in (h.0, omega (arith, le, l))
  bare_more i j le (NormalTy union) h = tt

  module _ (d : Datum) (items : Ty → Test) (parts : FieldTys → Test) (hi : (t : Ty) → NamesAll P t → Ended Bool (items t)) (hp : (us : FieldTys) → AllNamesAll P us → Ended Bool (parts us)) where
    name_ends : (j c : ℕ) → P c → rank c < j → Ended Bool (name_asked q d items parts j c)
    name_ends zero c p less = absurd (omega (arith, less))
    name_ends (suc j) c p less =
        both_end (asked q (name_asked q d items parts j) d items parts (definition c)) (clause c d)
        (asked_ends j (name_asked q d items parts j) d items parts (λ i g l. name_ends j i g l) hi hp (definition c) (bare_more (rank c) j (omega (arith, less)) (definition c) (named c p)))
        (clauses c p d)

    here_ends : (t : Ty) → NamesAll P t → Ended Bool (asked_of q d items parts t)
    here_ends t h = asked_ends bare (name_asked q d items parts bare) d items parts (λ c p l. name_ends bare c p l) hi hp t (bare_all t h)

  mutual
    pub tested_ends : (d : Datum) (t : Ty) → NamesAll P t → Ended Bool (tested q d t)
    tested_ends Null t h = here_ends Null _ _ (λ u g. done Bool false) (λ us g. done Bool false) t h
    tested_ends (Truth b) t h = here_ends (Truth b) _ _ (λ u g. done Bool false) (λ us g. done Bool false) t h
    tested_ends (Whole z) t h = here_ends (Whole z) _ _ (λ u g. done Bool false) (λ us g. done Bool false) t h
    tested_ends (Array ds) t h = here_ends (Array ds) _ _ (λ u g. chosen Bool (few_enough ds) _ _ (items_end ds u g) (done Bool false)) (λ us g. done Bool false) t h
    tested_ends (Record fs) t h = here_ends (Record fs) _ _ (λ u g. done Bool false) (λ us g. chosen Bool (same_names fs us) _ _ (parts_end fs us g) (done Bool false)) t h

    items_end : (ds : Data) (t : Ty) → NamesAll P t → Ended Bool (items_tested q ds t)
    items_end no_items t h = done Bool true
    items_end (item d ds) t h = both_end _ _ (tested_ends d t h) (items_end ds t h)

    parts_end : (fs : Fields) (us : FieldTys) → AllNamesAll P us → Ended Bool (parts_tested q fs us)
    parts_end no_fields us h = done Bool true
    parts_end (field n d fs) NoFieldTys h = done Bool true
    parts_end (field n d fs) (MoreFieldTys o t us) h = both_end _ _ (tested_ends d t h.0) (parts_end fs us h.1)

-- what holds of names outside of records and arrays, and inside of them
bare_as : (P Q R S : ℕ → Type 0) → ((c : ℕ) → P c → R c) → ((c : ℕ) → Q c → S c) → (t : Ty) → NamesBare P Q t → NamesBare R S t
bare_as P Q R S f g NullTy h = tt
bare_as P Q R S f g BoolTy h = tt
bare_as P Q R S f g IntTy h = tt
bare_as P Q R S f g AnyTy h = tt
bare_as P Q R S f g VoidTy h = tt
bare_as P Q R S f g (RecordTy fields) h = all_in_fields Q S g fields h
bare_as P Q R S f g (ArrayTy t) h = all_names Q S g t h
bare_as P Q R S f g (UnionTy s t) h = (bare_as P Q R S f g s h.0, bare_as P Q R S f g t h.1)
bare_as P Q R S f g (InterTy s t) h = (bare_as P Q R S f g s h.0, bare_as P Q R S f g t h.1)
bare_as P Q R S f g (NotTy t) h = bare_as P Q R S f g t h
bare_as P Q R S f g (NamedTy c) h = f c h
bare_as P Q R S f g (NormalTy union) h = tt

-- ---- clauses

module _ {N : Type 0} (place : N → ℕ) (types : List (Alias N)) (depth : ℕ) (P : ℕ → Type 0) (ends : (t : Ty) → NamesAll P t → (d : Datum) → Ended Bool (tests place None types depth false t d)) where
  pub all_end : (es : List (Expr N)) → AllQuiet es → ClausesTestAll P es → (s : Store) → Ended Bool (all_hold (setting_to place None types depth) false es s)
  all_end [] q f s = done Bool true
  all_end (e ∷ es) q f s =
      bound Datum Bool _ _ (eval_ends place (tests place None types depth) P ends e q.0 f.0 s) (λ v. with_truth Bool (place (node e)) v _ (λ b. chosen Bool b _ _ (all_end es q.1 f.1 s) (done Bool false)))

-- ---- levels

module _ (core : Core ℕ) (bound_core : Bound core) (recurs : Recursion core) (quiet : (b : ℕ) → AllQuiet (alias_at (types core bound_core recurs) b).clauses) (place : Node → ℕ) where
  abbrev all : List (Alias Node)
  all = types core bound_core recurs

  abbrev height : ℕ → ℕ
  height = level core bound_core recurs

  -- a type of at most this level
  abbrev IsTo : ℕ → ℕ → Type 0
  IsTo l c = (c < length all) × (height c ≤ l)

  -- a type below this one
  abbrev IsBelow : ℕ → ℕ → Type 0
  IsBelow b c = (c < length all) × (height c < height b)

  -- the clauses of a type, at a depth at which tests of the types below it end
  alias_ends : (b j : ℕ) → b < length all → ((t : Ty) → NamesAll (IsBelow b) t → (d : Datum) → Ended Bool (tests place None all j false t d)) → (d : Datum)
      → Ended Bool (alias_holds (setting_to place None all j) false (alias_at all b) d)
  alias_ends b j less ends d =
      let a = alias_at all b in
      all_end place all j (IsBelow b) ends a.clauses (quiet b) ((types_levelled core bound_core recurs).tested b less) (set_if (unset a.variables) a.variable (Some d))

  abbrev rank : ℕ → ℕ
  rank = (ranked core bound_core recurs).rank

  named_to : (l b : ℕ) → IsTo l b → NamesBare (λ c. IsTo l c × (rank c < rank b)) (IsTo l) (alias_at all b).ty
  named_to l b p =
      bare_as (λ c. ((c < length all) × (height c ≤ height b)) × (rank c < rank b)) (λ c. (c < length all) × (height c ≤ height b)) (λ c. IsTo l c × (rank c < rank b)) (IsTo l)
      (λ c g. (lower c g.0, g.1)) lower (alias_at all b).ty ((types_levelled core bound_core recurs).bare b p.0)
    where
      lower : (c : ℕ) → (c < length all) × (height c ≤ height b) → IsTo l c
      lower c g = let x : height b ≤ l = p.1 in let y : height c ≤ height b = g.1 in (g.0, omega (arith, x, y))

  at_depth : (j : ℕ) → ((b : ℕ) → IsTo j b → (u : Ty) → NamesAll (IsBelow b) u → (e : Datum) → Ended Bool (tests place None all j false u e)) → (t : Ty) → NamesAll (IsTo j) t → (d : Datum) → Ended Bool (tests place None all (suc j) false t d)
  at_depth j deeper t h d =
      tested_ends (λ n. (alias_at all n).ty) (length all) (λ n e. alias_holds (setting_to place None all j) false (alias_at all n) e) (IsTo j) rank (named_to j) (λ b p. rank_within core bound_core recurs b p.0)
      (λ b p e. alias_ends b j p.0 (deeper b p) e) d t h

  none_to : {X : Type 0} (b : ℕ) → IsTo 0 b → X
  none_to b p = let l = level_above core bound_core recurs b p.0 in let x : height b ≤ 0 = p.1 in absurd (omega (arith, l, x))

  below_to : (i b : ℕ) → IsTo (suc i) b → (c : ℕ) → IsBelow b c → IsTo i c
  below_to i b p c k = let x : height b ≤ suc i = p.1 in let y : height c < height b = k.1 in (k.0, omega (arith, x, y))

  tests_end : (j : ℕ) (t : Ty) → NamesAll (IsTo j) t → (d : Datum) → Ended Bool (tests place None all (suc j) false t d)
  tests_end zero t h d = at_depth zero (λ b p u g e. none_to b p) t h d
  tests_end (suc i) t h d = at_depth (suc i) (λ b p u g e. tests_end i u (all_names (IsBelow b) (IsTo i) (below_to i b p) u g) e) t h d

  -- the clauses of each type, where contracts ask about values
  pub clauses_end : (b : ℕ) → b < length all → (d : Datum) → Ended Bool (alias_holds (setting_to place None all (suc (length all))) false (alias_at all b) d)
  clauses_end b less d =
      alias_ends b (suc (length all)) less (λ t h e. tests_end (length all) t (all_names (IsBelow b) (IsTo (length all)) (λ c k. (k.0, level_within core bound_core recurs c)) t h) e) d
