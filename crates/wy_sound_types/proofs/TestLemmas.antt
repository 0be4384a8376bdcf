-- A test of a type answers as the type says, where each clause does.
use Rattle.std.proofs.Common.{◌≡◌, ℕ, zero, suc, ◌+◌, Bool, true, false, cond, nat_lt, refl, sym, ap, subst}
use Rattle.std.specs.Prelude.{Option, Some, None, not, ◌&&◌, ◌||◌}
use Rattle.wy_value.specs.Datum.{Datum, Null, Truth, Whole, Array, Record, Data, no_items, item, Fields, no_fields, field}
use Rattle.wy_core.specs.Types.{Ty, NullTy, BoolTy, IntTy, AnyTy, VoidTy, RecordTy, ArrayTy, UnionTy, InterTy, NotTy, NamedTy, NormalTy, FieldTys, NoFieldTys, MoreFieldTys}
use Rattle.wy_sem.specs.Meter.{Meter, Outcome, Done, Fault, More, Spent, ◌>>=◌, tick, count, turn, choose}
use Rattle.wy_sem.specs.TypeTests.{Test, answer, both, either, opposite, Questions, visit, asked, name_asked, asked_of, is_null, is_truth, is_whole, few_enough, same_names, tested, items_tested, parts_tested, forgiven}
use Rattle.wy_sound_statements.specs.wy_sound_walks.expressions.Suits.{Answers}
use Rattle.wy_sound_statements.specs.wy_sound_walks.expressions.Types.{each_item, is_array_of, is_record_of, is_in, fields_in}
use Rattle.wy_sound_statements.specs.wy_sound_kinds.Bounded.{IsBounded, AreBounded, FieldsBounded}

-- the test is no fault, and its answer is this one
pub record Tells (b : Bool) (t : Test) : Type 0 where
  pub tells : (m : Meter) → Answers b (t m)

answers_both : (o : Outcome Bool) (second : Test) (a b : Bool) → Answers a o → (a ≡ true → Tells b second) → Answers (a && b) (o >>= (λ y. choose y second (answer false)))
answers_both (Done true m) second a b h g = let same : true ≡ a = h in rw (← same) ((g (sym same)).tells m)
answers_both (Done false m) second a b h g = let same : false ≡ a = h in rw (← same) refl
answers_both (Fault kind at m) second a b h g = absurd h
answers_both (More m) second a b h g = tt
answers_both Spent second a b h g = tt

answers_either : (o : Outcome Bool) (second : Test) (a b : Bool) → Answers a o → Tells b second → Answers (a || b) (o >>= (λ y. choose y (answer true) second))
answers_either (Done true m) second a b h g = let same : true ≡ a = h in rw (← same) refl
answers_either (Done false m) second a b h g = let same : false ≡ a = h in rw (← same) (g.tells m)
answers_either (Fault kind at m) second a b h g = absurd h
answers_either (More m) second a b h g = tt
answers_either Spent second a b h g = tt

answers_opposite : (o : Outcome Bool) (a : Bool) → Answers a o → Answers (not a) (o >>= (λ y. answer (not y)))
answers_opposite (Done y m) a h = ap not h
answers_opposite (Fault kind at m) a h = absurd h
answers_opposite (More m) a h = tt
answers_opposite Spent a h = tt

answers_forgiven : (o : Outcome Bool) (a : Bool) → Answers a o → Answers a (forgiven o)
answers_forgiven (Done y m) a h = h
answers_forgiven (Fault kind at m) a h = absurd h
answers_forgiven (More m) a h = tt
answers_forgiven Spent a h = tt

tells_both : (f g : Test) (a b : Bool) → Tells a f → (a ≡ true → Tells b g) → Tells (a && b) (both f g)
tells_both f g a b p q = record { tells = λ m. answers_both (f m) g a b (p.tells m) q }

tells_either : (f g : Test) (a b : Bool) → Tells a f → Tells b g → Tells (a || b) (either f g)
tells_either f g a b p q = record { tells = λ m. answers_either (f m) g a b (p.tells m) q }

tells_opposite : (f : Test) (a : Bool) → Tells a f → Tells (not a) (opposite f)
tells_opposite f a p = record { tells = λ m. answers_opposite (f m) a (p.tells m) }

pub tells_forgiven : (f : Test) (a : Bool) → Tells a f → Tells a (λ m. forgiven (f m))
tells_forgiven f a p = record { tells = λ m. answers_forgiven (f m) a (p.tells m) }

tells_answer : (b : Bool) → Tells b (answer b)
tells_answer b = record { tells = λ m. refl }

tells_chosen : (c b : Bool) (f : Test) → Tells b f → Tells (c && b) (choose c f (answer false))
tells_chosen true b f p = record { tells = λ m. p.tells m }
tells_chosen false b f p = record { tells = λ m. refl }

ticked : (k : ℕ) (f : Test) (b : Bool) (m : Meter) → Tells b f → Answers b (tick k f m)
ticked zero f b m p = tt
ticked (suc k) f b m p = p.tells (record m { ticks = k })

counted : (limit : Option ℕ) (f : Test) (b : Bool) (m : Meter) → Tells b f → Answers b (count limit f m)
counted None f b m p = p.tells (record m { turns = m.turns + 1 })
counted (Some limit) f b m p = by (nat_lt m.turns limit) where
  by : (c : Bool) → Answers b (cond c (f (record m { turns = m.turns + 1 })) Spent)
  by true = p.tells (record m { turns = m.turns + 1 })
  by false = tt

turned : (limit : Option ℕ) (paid : Bool) (f : Test) (b : Bool) (m : Meter) → Tells b f → Answers b (turn limit paid f m)
turned limit true f b m p = ticked m.ticks f b m p
turned limit false f b m p = counted limit f b m p

tells_visit : (q : Questions) (f : Test) (b : Bool) → Tells b f → Tells b (visit q f)
tells_visit q f b p = record { tells = λ m. turned q.limit q.paid f b m p }

module _ (q : Questions) (members : ℕ → Datum → Bool) (says : ℕ → Datum → Bool) (unfolds : (c : ℕ) (d : Datum) → members c d ≡ (is_in members (q.definition c) d && says c d))
    (clause : (c : ℕ) (d : Datum) → IsBounded d → is_in members (q.definition c) d ≡ true → Tells (says c d) (q.clause c d)) where
  asked_tells : (named : ℕ → Test) (d : Datum) (items : Ty → Test) (parts : FieldTys → Test) → ((c : ℕ) → Tells (members c d) (named c)) → ((t : Ty) → Tells (is_array_of (is_in members t) d) (items t))
      → ((fields : FieldTys) → Tells (is_record_of (λ fs. same_names fs fields && fields_in members fields fs) d) (parts fields)) → (t : Ty) → Tells (is_in members t d) (asked q named d items parts t)
  asked_tells named d items parts hn hi hp NullTy = tells_visit q _ _ (tells_answer (is_null d))
  asked_tells named d items parts hn hi hp BoolTy = tells_visit q _ _ (tells_answer (is_truth d))
  asked_tells named d items parts hn hi hp IntTy = tells_visit q _ _ (tells_answer (is_whole d))
  asked_tells named d items parts hn hi hp AnyTy = tells_visit q _ _ (tells_answer true)
  asked_tells named d items parts hn hi hp VoidTy = tells_visit q _ _ (tells_answer false)
  asked_tells named d items parts hn hi hp (RecordTy fields) = tells_visit q _ _ (hp fields)
  asked_tells named d items parts hn hi hp (ArrayTy t) = tells_visit q _ _ (hi t)
  asked_tells named d items parts hn hi hp (UnionTy s t) = tells_visit q _ _ (tells_either _ _ _ _ (asked_tells named d items parts hn hi hp s) (asked_tells named d items parts hn hi hp t))
  asked_tells named d items parts hn hi hp (InterTy s t) = tells_visit q _ _ (tells_both _ _ _ _ (asked_tells named d items parts hn hi hp s) (λ e. asked_tells named d items parts hn hi hp t))
  asked_tells named d items parts hn hi hp (NotTy t) = tells_visit q _ _ (tells_opposite _ _ (asked_tells named d items parts hn hi hp t))
  asked_tells named d items parts hn hi hp (NamedTy c) = tells_visit q _ _ (hn c)
  asked_tells named d items parts hn hi hp (NormalTy union) = tells_visit q _ _ (tells_answer false)

  module _ (d : Datum) (bounded : IsBounded d) (items : Ty → Test) (parts : FieldTys → Test) (hi : (t : Ty) → Tells (is_array_of (is_in members t) d) (items t))
      (hp : (fields : FieldTys) → Tells (is_record_of (λ fs. same_names fs fields && fields_in members fields fs) d) (parts fields)) where
    name_tells : (j c : ℕ) → Tells (members c d) (name_asked q d items parts j c)
    name_tells zero c = record { tells = λ m. tt }
    name_tells (suc j) c =
        subst (λ (b : Bool). Tells b (name_asked q d items parts (suc j) c)) (sym (unfolds c d))
        (tells_both (asked q (name_asked q d items parts j) d items parts (q.definition c)) (q.clause c d) (is_in members (q.definition c) d) (says c d)
        (asked_tells (name_asked q d items parts j) d items parts (λ i. name_tells j i) hi hp (q.definition c)) (λ e. clause c d bounded e))

    here_tells : (t : Ty) → Tells (is_in members t d) (asked_of q d items parts t)
    here_tells t = asked_tells (name_asked q d items parts q.bare) d items parts (λ c. name_tells q.bare c) hi hp t

  mutual
    pub tested_tells : (d : Datum) → IsBounded d → (t : Ty) → Tells (is_in members t d) (tested q d t)
    tested_tells Null h t = here_tells Null h _ _ (λ u. tells_answer false) (λ us. tells_answer false) t
    tested_tells (Truth b) h t = here_tells (Truth b) h _ _ (λ u. tells_answer false) (λ us. tells_answer false) t
    tested_tells (Whole z) h t = here_tells (Whole z) h _ _ (λ u. tells_answer false) (λ us. tells_answer false) t
    tested_tells (Array ds) h t = here_tells (Array ds) h _ _ (λ u. tells_chosen (few_enough ds) _ _ (items_tell ds h.1 u)) (λ us. tells_answer false) t
    tested_tells (Record fs) h t = here_tells (Record fs) h _ _ (λ u. tells_answer false) (λ us. tells_chosen (same_names fs us) _ _ (parts_tell fs h.1 us)) t

    items_tell : (ds : Data) → AreBounded ds → (t : Ty) → Tells (each_item (is_in members t) ds) (items_tested q ds t)
    items_tell no_items h t = tells_answer true
    items_tell (item d ds) h t = tells_both _ _ _ _ (tested_tells d h.0 t) (λ e. items_tell ds h.1 t)

    parts_tell : (fs : Fields) → FieldsBounded fs → (us : FieldTys) → Tells (fields_in members us fs) (parts_tested q fs us)
    parts_tell no_fields h NoFieldTys = tells_answer true
    parts_tell no_fields h (MoreFieldTys o t us) = tells_answer true
    parts_tell (field n d fs) h NoFieldTys = tells_answer true
    parts_tell (field n d fs) h (MoreFieldTys o t us) = tells_both _ _ _ _ (tested_tells d h.0 t) (λ e. parts_tell fs h.1 us)
