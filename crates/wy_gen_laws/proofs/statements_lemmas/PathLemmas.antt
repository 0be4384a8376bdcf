-- An update of a part of a variable: the indices of the path, the value, and the update.
use Rattle.std.proofs.Common.{◌≡◌, ◌≢◌, ◌<◌, ◌≤◌, ◌⊎◌, inl, inr, ℕ, suc, ◌+◌, List, [], ◌∷◌, ◌++◌, length, Bool, true, false, cond, Option, Some, None, ℤ, pos, negsuc, refl, sym, ◌∙◌, ap, subst, arith, length-append}
use Rattle.std.specs.Prelude.{int_le, int_lt, nat_lt, slice_get}
use Rattle.std.proofs.lemmas.Bool.Decides.{nat_tests}
use Rattle.wy_lemmas.proofs.Choices.{and-left as and_first, both_true, less_is}
use Rattle.wy_value.specs.Datum.{Datum, Whole, Array, Record, Data, Fields}
use Rattle.wy_value.specs.Values.{length_of}
use Rattle.wy_value.specs.declared.shapes.Shapes.{Shapes}
use Rattle.wy_core.specs.Types.{Ty}
use Rattle.wy_core.specs.CoreTree.{Expr, VarExpr, Step, IndexStep, FieldStep}
use Rattle.wy_term.specs.declared.cond.CondKind.TheVariants as kind
use Rattle.wy_core.specs.formed.Offers.{Offers}
use Rattle.wy_core.specs.formed.Bound.{Scope, Has, BoundExpr, BoundPath}
use Rattle.wy_core.specs.formed.Sizes.{size}
use Rattle.wy_code_spec.specs.wy_live.Sets.{Variables, has, with}
use Rattle.wy_code_spec.specs.wy_live.Walks.{before, before_steps}
use Rattle.wy_code_spec.specs.wy_live.declared.walk.Ends.{Ends}
use Rattle.wy_code.specs.declared.instructions.Slot as code
use Rattle.wy_code.specs.declared.instructions.Instr.TheVariants as instr
use Rattle.wy_code.specs.declared.routines.Routine.{Routine}
use Rattle.wy_code_spec.specs.declared.tables.context.Context.{Context}
use Rattle.wy_code_spec.specs.tables.Tables.{number_of}
use Rattle.wy_code.specs.declared.pieces.steps.Step as pieces
use Rattle.wy_code.specs.declared.pieces.steps.Step.TheVariants.{Does}
use Rattle.wy_code.specs.pieces.Steps.{clear}
use Rattle.wy_code.specs.pieces.Placing.{slot_registers}
use Rattle.wy_code_spec.specs.compiled.Operands.{read, standing, unless_read}
use Rattle.wy_code_spec.specs.compiled.Expressions as expressions
use Rattle.wy_code_spec.specs.compiled.Statements.{index_count, slots, indices, kept as keeps, update}
use Rattle.wy_code_spec.specs.numbered.Numbered.{IsNumber}
use Rattle.wy_vc_spec.specs.wy_sem.kept.Kept.{IsProper, StoreProper}
use Rattle.wy_vc_spec.specs.wy_sem.Meter.{Meter, Done, Run, ◌>>=◌, check, spend}
use Rattle.wy_vc_spec.specs.wy_sem.Operations.{nat_of, as_number, needed, indexed, is_index, item_at, find, Slot, ItemSlot, FieldSlot, part_at, updated}
use Rattle.wy_vc_spec.specs.wy_sem.Expressions.{Store, slot, put, Setting, eval}
use Rattle.wy_vc_spec.specs.wy_sem.Statements as sem
use Rattle.wy_vc_spec.specs.wy_sem.Statements.{Exit, Went, stored, path_of, assigned, type_at}
use Rattle.wy_code_spec.specs.step.Step.{State, Caller, Effect, GoesOn, there, moved, held, where_so, gives, effect, slots_of, has_part, has_path}
use Rattle.wy_gen_laws.specs.Places.{StandAt, IsRoutine}
use Rattle.wy_gen_laws.specs.Follows.{Follows, at_place, Comes}
use Rattle.wy_gen_laws.specs.Registers.{Live}
use Rattle.wy_gen_laws.proofs.PlaceLemmas.{stand_front, stand_back}
use Rattle.wy_gen_laws.proofs.StoreLemmas.{put_here, put_other, put_size, put_says, live_put, live_fewer}
use Rattle.wy_gen_laws.proofs.FollowLemmas.{follows_then, follows_at, follows_end, follows_number, follows_items, follows_fields, follows_needed, follows_check}
use Rattle.wy_gen_laws.specs.expressions.Standing.{with_table, AreKnown}
use Rattle.wy_gen_laws.specs.expressions.Evaluated.{IsEvaluated}
use Rattle.wy_gen_laws.proofs.expressions_lemmas.KnownLemmas.{same_or_not, with_has, known_before, with_keeps}
use Rattle.wy_gen_laws.proofs.expressions_lemmas.KnowingLemmas.{slot_proper}
use Rattle.wy_gen_laws.proofs.expressions_lemmas.ReadLemmas.{IsRead, IsKept, as_variable, live_read, live_kept, Stands, got_stands}
use Rattle.wy_gen_laws.proofs.expressions_lemmas.OperandLemmas.{in_place}
use Rattle.wy_gen_laws.specs.statements.Still.{IsStillTy}
use Rattle.wy_gen_laws.specs.statements.Parts.{Asked, EachStep, path_cost}
use Rattle.wy_gen_laws.specs.statements.Led.{Kept, Places, Leads, asked}
use Rattle.wy_gen_laws.proofs.statements_lemmas.LiveLemmas.{known_steps, known_with}
use Rattle.wy_gen_laws.proofs.statements_lemmas.StillLemmas.{follows_given}
use Rattle.wy_gen_laws.proofs.statements_lemmas.StepLemmas.{then_on, then_paid}
use Rattle.wy_gen_laws.proofs.statements_lemmas.ValueLemmas.{mach, target_room, arrives, value_then, proper_put}
use Rattle.wy_gen_laws.proofs.statements_lemmas.ProperLemmas.{updated_proper}

-- ---- indices where they stand

-- an index stands in its register, or it is what its variable holds
abbrev IndexHeld : Scope → Store → Store → Option ℕ → ℕ → ℤ → Type 0
IndexHeld vs store regs None d z = slot regs d ≡ Some (Whole z)
IndexHeld vs store regs (Some y) d z = Has vs y × (slot store y ≡ Some (Whole z))

index_same : (vs : Scope) (store s t : Store) (q : Option ℕ) (d : ℕ) (z : ℤ) → slot t d ≡ slot s d → IndexHeld vs store s q d z → IndexHeld vs store t q d z
index_same vs store s t None d z e h = e ∙ h
index_same vs store s t (Some y) d z e h = h

-- where the variable is live, its register has it
index_there : (vs : Scope) (s : Variables) (store regs : Store) (q : Option ℕ) (d : ℕ) (z : ℤ) → IsKept q s → Live vs s store regs → IndexHeld vs store regs q d z → slot regs (standing q d) ≡ Some (Whole z)
index_there vs s store regs None d z kept live h = h
index_there vs s store regs (Some y) d z kept live h = live.holds y (Whole z) h.0 kept h.1

-- an index stays where the registers behind its own are filled
index_held : (vs : Scope) (n d : ℕ) (q : Option ℕ) (s : Variables) (store first middle last : Store) (z : ℤ) → n ≤ d → Stands vs n d q s store first (Whole z) middle → slot last d ≡ slot middle d → IndexHeld vs store last q d z
index_held vs n d None s store first middle last z behind one same = same ∙ one.value
index_held vs n d (Some y) s store first middle last z behind one same = one.whose

-- the indices of the path stand in the registers from d on, or in those of variables that are in the set, and its parts are these
abbrev PathHeld : Scope → Variables → Store → Store → ℕ → List (Step ℕ) → List Slot → Type 0
PathHeld vs s store regs d [] [] = Unit {0}
PathHeld vs s store regs d [] (p ∷ ps) = ⊥
PathHeld vs s store regs d (step ∷ path) [] = ⊥
PathHeld vs s store regs d (IndexStep at e ∷ path) (ItemSlot i ∷ ps) = ((z : ℤ) × IndexHeld vs store regs (read e s) d z × (int_le (pos 0) z ≡ true) × (nat_of z ≡ i)) × PathHeld vs s store regs (suc d) path ps
PathHeld vs s store regs d (IndexStep at e ∷ path) (FieldSlot name ∷ ps) = ⊥
PathHeld vs s store regs d (FieldStep at name ∷ path) (ItemSlot i ∷ ps) = ⊥
PathHeld vs s store regs d (FieldStep at name ∷ path) (FieldSlot other ∷ ps) = (other ≡ name) × PathHeld vs s store regs d path ps

-- other registers with the same values there
held_same : (vs : Scope) (live : Variables) (store : Store) (path : List (Step ℕ)) (ps : List Slot) (s t : Store) (d : ℕ) → ((x : ℕ) → d ≤ x → x < d + index_count path → slot t x ≡ slot s x) → PathHeld vs live store s d path ps → PathHeld vs live store t d path ps
held_same vs live store [] [] s t d f h = tt
held_same vs live store [] (p ∷ ps) s t d f h = h
held_same vs live store (step ∷ path) [] s t d f h = absurd h
held_same vs live store (IndexStep at e ∷ path) (ItemSlot i ∷ ps) s t d f h = ((h.0.0, index_same vs store s t (read e live) d h.0.0 (f d (omega arith) (omega arith)) h.0.1, h.0.2, h.0.3), held_same vs live store path ps s t (suc d) (λ x a b. f x (omega (arith, a)) (omega (arith, b))) h.1)
held_same vs live store (IndexStep at e ∷ path) (FieldSlot name ∷ ps) s t d f h = h
held_same vs live store (FieldStep at name ∷ path) (ItemSlot i ∷ ps) s t d f h = h
held_same vs live store (FieldStep at name ∷ path) (FieldSlot other ∷ ps) s t d f h = (h.0, held_same vs live store path ps s t d f h.1)

-- the names in a path have their numbers in the table
abbrev Names : Shapes → List (Step ℕ) → Type 0
Names u [] = Unit {0}
Names u (IndexStep at e ∷ path) = Names u path
Names u (FieldStep at name ∷ path) = IsNumber u name × Names u path

names_of : (q : Asked) (u : Shapes) → ((name : List ℕ) → q.name name → IsNumber u name) → (path : List (Step ℕ)) → EachStep q path → Names u path
names_of q u f [] h = tt
names_of q u f (IndexStep at e ∷ path) h = names_of q u f path h.1
names_of q u f (FieldStep at name ∷ path) h = (f name h.0, names_of q u f path h.1)

index_does : (shapes : Shapes) (regs : Store) (d : ℕ) (rest : List code.Slot) (z : ℤ) (next : List Slot → Effect) → slot regs d ≡ Some (Whole z) → int_le (pos 0) z ≡ true
    → slots_of shapes regs (code.TheVariants.Item d ∷ rest) next ≡ slots_of shapes regs rest (λ ps. next (ItemSlot (nat_of z) ∷ ps))
index_does shapes regs d rest z next e low = rw (e, low) refl

name_does : (shapes : Shapes) (regs : Store) (k : ℕ) (name : List ℕ) (rest : List code.Slot) (next : List Slot → Effect) → slice_get shapes.names k ≡ Some name
    → slots_of shapes regs (code.TheVariants.Field k ∷ rest) next ≡ slots_of shapes regs rest (λ ps. next (FieldSlot name ∷ ps))
name_does shapes regs k name rest next e = rw e refl

-- the machine reads the same parts
module _ (c : Context) (vs : Scope) (s : Variables) (store regs : Store) (live : Live vs s store regs) where
  slots_do : (path : List (Step ℕ)) (ps : List Slot) (d : ℕ) (next : List Slot → Effect) → Names c.table path → PathHeld vs s store regs d path ps → slots_of c.table regs (slots c path s d) next ≡ next ps
  slots_do [] [] d next n h = refl
  slots_do [] (p ∷ ps) d next n h = absurd h
  slots_do (step ∷ path) [] d next n h = absurd h
  slots_do (IndexStep at e ∷ path) (ItemSlot i ∷ ps) d next n h =
      index_does c.table regs (standing (read e s) d) (slots c path s (suc d)) h.0.0 next (index_there vs s store regs (read e s) d h.0.0 (live_kept e s) live h.0.1) h.0.2
      ∙ slots_do path ps (suc d) (λ qs. next (ItemSlot (nat_of h.0.0) ∷ qs)) n h.1
      ∙ ap (λ (j : ℕ). next (ItemSlot j ∷ ps)) h.0.3
  slots_do (IndexStep at e ∷ path) (FieldSlot name ∷ ps) d next n h = absurd h
  slots_do (FieldStep at name ∷ path) (ItemSlot i ∷ ps) d next n h = absurd h
  slots_do (FieldStep at name ∷ path) (FieldSlot other ∷ ps) d next n h =
      name_does c.table regs (number_of name c.table.names) name (slots c path s d) next n.0
      ∙ slots_do path ps d (λ qs. next (FieldSlot name ∷ qs)) n.1 h.1
      ∙ ap (λ (m : List ℕ). next (FieldSlot m ∷ ps)) (sym h.0)

put_does : (shapes : Shapes) (regs : Store) (x d : ℕ) (path : List code.Slot) (ps : List Slot) (whole v : Datum) → ((next : List Slot → Effect) → slots_of shapes regs path next ≡ next ps) → slot regs d ≡ Some v → slot (put regs d None) x ≡ Some whole → has_path ps whole ≡ true
    → effect shapes (instr.Put x path d) regs ≡ GoesOn (put (put regs d None) x (Some (updated whole ps v))) []
put_does shapes regs x d path ps whole v read value old inside =
    read (λ qs. moved regs d (λ u rest. held rest x (λ t. where_so (has_path qs t) (gives rest x (updated t qs u)))))
    ∙ ap (λ (o : Option Datum). there o (λ u. held (put regs d None) x (λ t. where_so (has_path ps t) (gives (put regs d None) x (updated t ps u))))) value
    ∙ ap (λ (o : Option Datum). there o (λ t. where_so (has_path ps t) (gives (put regs d None) x (updated t ps v)))) old
    ∙ ap (λ (b : Bool). where_so b (gives (put regs d None) x (updated whole ps v))) inside

-- ---- indices within their arrays

index_low : (z : ℤ) (ds : Data) → is_index z ds ≡ true → int_le (pos 0) z ≡ true
index_low z ds h = and_first (int_le (pos 0) z) (int_lt z (pos (length_of ds))) h

index_less : (k : ℕ) (ds : Data) → is_index (pos k) ds ≡ true → k < length_of ds
index_less k ds h = grind (arith, nat_tests)

index_inside : (z : ℤ) (ds : Data) → is_index z ds ≡ true → nat_lt (nat_of z) (length_of ds) ≡ true
index_inside (pos k) ds h = less_is k (length_of ds) (index_less k ds h)
index_inside (negsuc k) ds h = absurd cc

field_inside : (fs : Fields) (name : List ℕ) (part : Datum) → find fs name ≡ Some part → has_part (FieldSlot name) (Record fs) ≡ true
field_inside fs name part e = rw e refl

field_part : (fs : Fields) (name : List ℕ) (part : Datum) → find fs name ≡ Some part → part_at (FieldSlot name) (Record fs) ≡ part
field_part fs name part e = rw e refl

-- ---- the indices

-- the indices stand where they are read, and b is live behind them
record GotPath (vs : Scope) (n d : ℕ) (path : List (Step ℕ)) (b s : Variables) (store first : Store) (whole : Datum) (ps : List Slot) (regs : Store) : Type 0 where
  pub held : PathHeld vs s store regs d path ps
  pub inside : has_path ps whole ≡ true
  pub live : Live vs b store regs
  pub kept : (t : ℕ) → n ≤ t → t < d → slot regs t ≡ slot first t
  pub size : length regs ≡ length first

module _ (c : Context) (routines : List Routine) (f : ℕ) (r : Routine) (there : IsRoutine (with_table c routines) f r) (w : Setting ℕ) (fr : sem.Frame ℕ) (n wide most : ℕ) (o : Offers) (vs : Scope) where
  -- an index in front of the others
  one_index : (d place : ℕ) (e : Expr ℕ) (path : List (Step ℕ)) (a t s : Variables) (store first middle last : Store) (ds : Data) (z : ℤ) (ps : List Slot) → n ≤ d → Stands vs n d (read e s) a store first (Whole z) middle → is_index z ds ≡ true → GotPath vs n (suc d) path t s store middle (item_at ds (nat_of z)) ps last
      → GotPath vs n d (IndexStep place e ∷ path) t s store first (Array ds) (ItemSlot (nat_of z) ∷ ps) last
  one_index d place e path a t s store first middle last ds z ps behind one ok more = record {
    held = ((z, index_held vs n d (read e s) a store first middle last z behind one (more.kept d behind (omega arith)), index_low z ds ok, refl), more.held);
    inside = both_true (nat_lt (nat_of z) (length_of ds)) (has_path ps (item_at ds (nat_of z))) (index_inside z ds ok) more.inside;
    live = more.live;
    kept = λ x l g. more.kept x l (omega (arith, g)) ∙ one.kept x l g;
    size = more.size ∙ one.size;
  }

  one_field : (d : ℕ) (place : ℕ) (name : List ℕ) (path : List (Step ℕ)) (b s : Variables) (store first last : Store) (fs : Fields) (part : Datum) (ps : List Slot) → find fs name ≡ Some part → GotPath vs n d path b s store first part ps last
      → GotPath vs n d (FieldStep place name ∷ path) b s store first (Record fs) (FieldSlot name ∷ ps) last
  one_field d place name path b s store first last fs part ps e more = record {
    held = (refl, more.held);
    inside = both_true (has_part (FieldSlot name) (Record fs)) (has_path ps (part_at (FieldSlot name) (Record fs))) (field_inside fs name part e) (ap (λ (t : Datum). has_path ps t) (field_part fs name part e) ∙ more.inside);
    live = more.live;
    kept = more.kept;
    size = more.size;
  }

  -- what goes on from an index, where it stands
  abbrev IndexGoes : {Y : Type 0} → (q : Option ℕ) (s : Variables) (d at : ℕ) (store regs : Store) (callers : List Caller) (m : Meter) (lo2 hi2 lo hi : ℕ) (next : Datum → Run Y) (Q : Y → Meter → State → Type 0) → Expr ℕ → Type 0
  IndexGoes q s d at store regs callers m lo2 hi2 lo hi next Q e =
      BoundExpr o n vs e → Kept vs (before e s) r.registers store regs → size e + lo2 ≤ lo
      → ((v : Datum) (k : Meter) (last : Store) → k.ticks ≤ m.ticks → IsProper v → Stands vs n d q s store regs v last → Follows (mach c routines f r there wide) wide lo2 hi2 k (at_place f (at + length (unless_read q (expressions.code c e s d))) last callers k.output) (next v k) Q)
      → Follows (mach c routines f r there wide) wide lo hi m (at_place f at regs callers m.output) (eval w true e store m >>= next) Q

  index_then : {Y : Type 0} (e : Expr ℕ) (q : Option ℕ) → IsRead e q → (s : Variables) (d at : ℕ) (store regs : Store) (callers : List Caller) (m : Meter) (lo2 hi2 lo hi : ℕ) (next : Datum → Run Y) (Q : Y → Meter → State → Type 0)
      → IsEvaluated c routines f r w n wide most e → BoundExpr o n vs e → AreKnown n vs s → n ≤ d → StandAt r.body at (unless_read q (expressions.code c e s d)) → Kept vs (before e s) r.registers store regs → m.ticks ≤ most → size e + lo2 ≤ lo → hi2 ≤ hi
      → ((v : Datum) (k : Meter) (last : Store) → k.ticks ≤ m.ticks → IsProper v → Stands vs n d q s store regs v last → Follows (mach c routines f r there wide) wide lo2 hi2 k (at_place f (at + length (unless_read q (expressions.code c e s d))) last callers k.output) (next v k) Q)
      → Follows (mach c routines f r there wide) wide lo hi m (at_place f at regs callers m.output) (eval w true e store m >>= next) Q
  index_then e None is s d at store regs callers m lo2 hi2 lo hi next Q se b known behind stands kept few low high then =
      value_then c routines f r there wide w n most e o vs s d at store regs callers m lo2 hi2 lo hi next Q se b known behind stands kept few low high
      (λ v k last le proper got. then v k last le proper (got_stands vs n d s store regs last v got))
  index_then e (Some y) is s d at store regs callers m lo2 hi2 lo hi next Q se b known behind stands kept few low high then =
      as_variable (IndexGoes (Some y) s d at store regs callers m lo2 hi2 lo hi next Q) e y is
      (λ i b2 kept2 low2 then2. follows_then (mach c routines f r there wide) wide 1 0 lo2 hi2 lo hi m (at_place f at regs callers m.output) (eval w true (VarExpr i y) store m) next f (at + 0) callers (λ v last. IsProper v × Stands vs n d (Some y) s store regs v last) Q low2 (omega (arith, high))
      (in_place c routines f r there w n wide most i y vs s d at store regs callers m b2 kept2.live kept2.proper)
      (λ v k last le g. then2 v k last le g.0 g.1))
      b kept low then

  path_follows : (path : List (Step ℕ)) (t s : Variables) (d at : ℕ) (store regs : Store) (callers : List Caller) (m : Meter) (whole : Datum) → EachStep (asked c routines f r w fr n wide most) path → BoundPath o n vs path → AreKnown n vs t → n ≤ d → StandAt r.body at (indices c path t s d) → Kept vs (before_steps path t) r.registers store regs → m.ticks ≤ most
      → Follows (mach c routines f r there wide) wide (path_cost path) 0 m (at_place f at regs callers m.output) (path_of w store path whole m) (Comes f (at + length (indices c path t s d)) callers (GotPath vs n d path t s store regs whole))
  path_follows [] t s d at store regs callers m whole q b known behind stands kept few =
      follows_end (mach c routines f r there wide) wide 0 0 m (at_place f at regs callers m.output) [] (Comes f (at + 0) callers (GotPath vs n d [] t s store regs whole))
      (record { regs = regs; is = ap (λ (p : ℕ). at_place f p regs callers m.output) (let e : at ≡ at + 0 = omega arith in e); ok = record { held = tt; inside = refl; live = kept.live; kept = λ i x y. refl; size = refl } })
  path_follows (IndexStep place e ∷ path) t s d at store regs callers m whole q b known behind stands kept few =
      let xs = unless_read (read e s) (expressions.code c e (before_steps path t) d) in
      let ys = indices c path t s (suc d) in
      let l1 : length (xs ++ ys) ≡ length xs + length ys = length-append xs ys in
      let R = GotPath vs n d (IndexStep place e ∷ path) t s store regs whole in
      let Q = Comes f (at + length xs + length ys) callers R in
      let M = mach c routines f r there wide in
      follows_at M wide (size e + path_cost path) 0 m (at_place f at regs callers m.output) (path_of w store (IndexStep place e ∷ path) whole m) f (at + length xs + length ys) (at + length (xs ++ ys)) callers R (omega (arith, l1))
      (index_then e (read e s) (live_read e s) (before_steps path t) d at store regs callers m (path_cost path) 0 (size e + path_cost path) 0 (λ v. indexed place whole v (λ ds i k. path_of w store path (item_at ds i) k >>= (λ ps. Done (ItemSlot i ∷ ps)))) Q
      q.0.0 b.0 (known_steps o n vs path t b.1 known) behind (stand_front r.body at xs ys stands) kept few (omega arith) (omega arith)
      (λ v k middle le proper one.
      let st = at_place f (at + length xs) middle callers k.output in
      follows_items M wide (path_cost path) 0 k st place whole (λ ds. as_number place v (λ z. check (is_index z ds) kind.Index place (λ j. path_of w store path (item_at ds (nat_of z)) j >>= (λ ps. Done (ItemSlot (nat_of z) ∷ ps))))) Q
      (λ ds e1. follows_number M wide (path_cost path) 0 k st place v (λ z. check (is_index z ds) kind.Index place (λ j. path_of w store path (item_at ds (nat_of z)) j >>= (λ ps. Done (ItemSlot (nat_of z) ∷ ps)))) Q
      (λ z e2. follows_check M wide (path_cost path) 0 k st (is_index z ds) kind.Index place (λ j. path_of w store path (item_at ds (nat_of z)) j >>= (λ ps. Done (ItemSlot (nat_of z) ∷ ps))) Q
      (λ ok. follows_then M wide (path_cost path) 0 0 0 (path_cost path) 0 k st (path_of w store path (item_at ds (nat_of z)) k) (λ ps. Done (ItemSlot (nat_of z) ∷ ps)) f (at + length xs + length ys) callers (GotPath vs n (suc d) path t s store middle (item_at ds (nat_of z))) Q (omega arith) (omega arith)
      (path_follows path t s (suc d) (at + length xs) store middle callers k (item_at ds (nat_of z)) q.1 b.1 known (omega (arith, behind)) (stand_back r.body at xs ys stands) (record { live = one.live; size = one.size ∙ kept.size; proper = kept.proper }) (omega (arith, le, few)))
      (λ ps j last le2 more. follows_end M wide 0 0 j (at_place f (at + length xs + length ys) last callers j.output) (ItemSlot (nat_of z) ∷ ps) Q
      (record {
        regs = last;
        is = refl;
        ok = subst (λ (g : Datum). GotPath vs n d (IndexStep place e ∷ path) t s store regs g (ItemSlot (nat_of z) ∷ ps) last) (sym e1)
            (one_index d place e path (before_steps path t) t s store regs middle last ds z ps behind (subst (λ (g : Datum). Stands vs n d (read e s) (before_steps path t) store regs g middle) e2 one) ok more);
      })))))))
  path_follows (FieldStep place name ∷ path) t s d at store regs callers m whole q b known behind stands kept few =
      let R = GotPath vs n d (FieldStep place name ∷ path) t s store regs whole in
      let Q = Comes f (at + length (indices c path t s d)) callers R in
      let M = mach c routines f r there wide in
      let st = at_place f at regs callers m.output in
      follows_fields M wide (path_cost path) 0 m st place whole (λ fs. needed place (find fs name) (λ part k. path_of w store path part k >>= (λ ps. Done (FieldSlot name ∷ ps)))) Q
      (λ fs e1. follows_needed M wide (path_cost path) 0 m st place (find fs name) (λ part k. path_of w store path part k >>= (λ ps. Done (FieldSlot name ∷ ps))) Q
      (λ part e2. follows_then M wide (path_cost path) 0 0 0 (path_cost path) 0 m st (path_of w store path part m) (λ ps. Done (FieldSlot name ∷ ps)) f (at + length (indices c path t s d)) callers (GotPath vs n d path t s store regs part) Q (omega arith) (omega arith)
      (path_follows path t s d at store regs callers m part q.1 b known behind stands kept few)
      (λ ps j last le more. follows_end M wide 0 0 j (at_place f (at + length (indices c path t s d)) last callers j.output) (FieldSlot name ∷ ps) Q
      (record { regs = last; is = refl; ok = subst (λ (g : Datum). GotPath vs n d (FieldStep place name ∷ path) t s store regs g (FieldSlot name ∷ ps) last) (sym e1) (one_field d place name path t s store regs last fs part ps e2 more) }))))

  -- ---- the update

  -- the variable with its new value is live where it was, and is released where it isn't live behind
  updated_live : (x : ℕ) (s : Variables) (d : ℕ) (store regs : Store) (v : Datum) → x < n → n ≤ d → x < length regs → AreKnown n vs s → Live vs (with s x) store regs → Live vs s (put store x (Some v)) (put (put regs d None) x (Some v))
  updated_live x s d store regs v less behind room known live = record { holds = λ y u i a e. by y u i a e (same_or_not y x) }
    where
      by : (y : ℕ) (u : Datum) → Has vs y → has s y ≡ true → slot (put store x (Some v)) y ≡ Some u → (y ≡ x) ⊎ (y ≢ x) → slot (put (put regs d None) x (Some v)) y ≡ Some u
      by y u i a e (inl g) =
          let k : slot (put store x (Some v)) x ≡ Some u = subst (λ (z : ℕ). slot (put store x (Some v)) z ≡ Some u) g e in
          let l : length (put regs d None) ≡ length regs = put_size regs d None in
          ap (λ (z : ℕ). slot (put (put regs d None) x (Some v)) z) g ∙ put_here (put regs d None) x (Some v) (omega (arith, room, l)) ∙ ap (λ (t : Datum). Some t) (put_says store x v u k)
      by y u i a e (inr other) =
          put_other (put regs d None) x y (Some v) other ∙ put_other regs d y None (λ g. absurd (let l = known.below y i in omega (arith, l, g, behind)))
          ∙ live.holds y u i (with_keeps s x y a) (sym (put_other store x y (Some v) other) ∙ e)

  cleared_live : (x : ℕ) (s : Variables) (store regs : Store) → has s x ≡ false → Live vs s store regs → Live vs s store (put regs x None)
  cleared_live x s store regs dead live = live_put vs s store regs x None (λ y i a g. absurd (let k : has s x ≡ true = subst (λ (z : ℕ). has s z ≡ true) g a in cc)) live

  module _ (x : ℕ) (s : Variables) (ends : Ends) (callers : List Caller) (pl : Places) where
    kept_follows : (p : ℕ) (store regs : Store) (m : Meter) → StandAt r.body p (keeps x s) → p + length (keeps x s) ≡ pl.after → Kept vs s r.registers store regs
        → Follows (mach c routines f r there wide) wide 0 1 m (at_place f p regs callers m.output) (Done (Went store) m) (Leads f callers r.registers pl vs vs s ends)
    kept_follows p store regs m stands end h = by (has s x) refl stands end
      where
        by : (b : Bool) → has s x ≡ b → StandAt r.body p (cond b [] (clear (x ∷ []))) → p + length (cond b [] (clear (x ∷ []))) ≡ pl.after
            → Follows (mach c routines f r there wide) wide 0 1 m (at_place f p regs callers m.output) (Done (Went store) m) (Leads f callers r.registers pl vs vs s ends)
        by true e stands end = arrives c routines f r there wide 0 1 p pl store regs callers m vs vs s ends (omega (arith, end)) h
        by false e stands end =
            then_on (mach c routines f r there wide) f r there wide 0 0 p (instr.Clear (x ∷ [])) regs (put regs x None) callers m (Done (Went store) m) (Leads f callers r.registers pl vs vs s ends) stands.0 refl
            (arrives c routines f r there wide 0 0 (p + 1) pl store (put regs x None) callers m vs vs s ends end (record { live = cleared_live x s store regs e h.live; size = put_size regs x None ∙ h.size; proper = h.proper }))

    -- the update itself, where the indices and the value stand in their registers
    put_follows : (path : List (Step ℕ)) (e : Expr ℕ) (d p : ℕ) (store regs : Store) (whole v : Datum) (ps : List Slot) (m : Meter) → x < n → Has vs x → n ≤ d → AreKnown n vs s → Names c.table path → PathHeld vs s store regs n path ps → has_path ps whole ≡ true
        → slot regs d ≡ Some v → Live vs (with s x) store regs → slot store x ≡ Some whole → length regs ≡ r.registers → StoreProper store → IsProper (updated whole ps v)
        → StandAt r.body p (Does (instr.Put x (slots c path s n) d) ∷ keeps x s) → p + suc (length (keeps x s)) ≡ pl.after
        → Follows (mach c routines f r there wide) wide 0 2 m (at_place f p regs callers m.output) (Done (Went (put store x (Some (updated whole ps v)))) m) (Leads f callers r.registers pl vs vs s ends)
    put_follows path e d p store regs whole v ps m less there_x behind known names held inside value live set size proper new stands end =
        let u = updated whole ps v in
        let last = put (put regs d None) x (Some u) in
        let room = target_room c routines f r there wide p x (instr.Put x (slots c path s n) d) (d ∷ slot_registers (slots c path s n)) stands.0 refl in
        let old : slot (put regs d None) x ≡ Some whole = put_other regs d x None (λ g. absurd (omega (arith, g, less, behind))) ∙ live.holds x whole there_x (with_has s x) set in
        then_on (mach c routines f r there wide) f r there wide 0 1 p (instr.Put x (slots c path s n) d) regs last callers m (Done (Went (put store x (Some u))) m) (Leads f callers r.registers pl vs vs s ends) stands.0
        (put_does c.table regs x d (slots c path s n) ps whole v (λ next. slots_do c vs s store regs (live_fewer vs (with s x) s store regs (λ y h. with_keeps s x y h) live) path ps n next names held) value old inside)
        (kept_follows (p + 1) (put store x (Some u)) last m stands.1 (omega (arith, end)) (record {
          live = updated_live x s d store regs u less behind (omega (arith, room, size)) known live;
          size = put_size (put regs d None) x (Some u) ∙ put_size regs d None ∙ size;
          proper = proper_put store x (Some u) new proper;
        }))

    -- the whole of it: the indices, the value, what is asked of the whole, and the update
    pub update_follows : (path : List (Step ℕ)) (e : Expr ℕ) (t : Ty) (place at : ℕ) (store regs : Store) (m : Meter) → EachStep (asked c routines f r w fr n wide most) path → IsEvaluated c routines f r w n wide most e → IsStillTy fr.member t
        → BoundPath o n vs path → BoundExpr o n vs e → Has vs x → AreKnown n vs s → StandAt r.body at (update c x path e s n) → at + length (update c x path e s n) ≡ pl.after → Kept vs (before_steps path (before e (with s x))) r.registers store regs → m.ticks ≤ most
        → Follows (mach c routines f r there wide) wide (path_cost path + size e + 1) 0 m (at_place f at regs callers m.output)
        (spend true (needed place (slot store x) (λ d k. path_of w store path d k >>= (λ ps j. eval w true e store j >>= (λ v. stored fr place x t store (updated d ps v))))) m) (Leads f callers r.registers pl vs vs s ends)
    update_follows path e t place at store regs m q se still bp be there_x known stands end kept few =
        let xs = indices c path (before e (with s x)) s n in
        let d = n + index_count path in
        let ys = expressions.code c e (with s x) d in
        let zs : List pieces.Step = Does (instr.Put x (slots c path s n) d) ∷ keeps x s in
        let l1 : length (xs ++ (ys ++ zs)) ≡ length xs + length (ys ++ zs) = length-append xs (ys ++ zs) in
        let l2 : length (ys ++ zs) ≡ length ys + length zs = length-append ys zs in
        let less : x < n = known.below x there_x in
        let with_x : AreKnown n vs (with s x) = known_with n vs s x less known in
        let M = mach c routines f r there wide in
        let Q = Leads f callers r.registers pl vs vs s ends in
        let lo = path_cost path + size e in
        let rest = stand_back r.body at xs (ys ++ zs) stands in
        then_paid M f r there wide lo 2 (lo + 1) at regs callers m (needed place (slot store x) (λ d2 k. path_of w store path d2 k >>= (λ ps j. eval w true e store j >>= (λ v. stored fr place x t store (updated d2 ps v))))) Q (omega arith) (omega arith)
        (λ k out ticks. follows_needed M wide lo 2 k (at_place f at regs callers k.output) place (slot store x) (λ d2 i. path_of w store path d2 i >>= (λ ps j. eval w true e store j >>= (λ v. stored fr place x t store (updated d2 ps v)))) Q
        (λ whole set. follows_then M wide (path_cost path) 0 (size e) 2 lo 2 k (at_place f at regs callers k.output) (path_of w store path whole k) (λ ps j. eval w true e store j >>= (λ v. stored fr place x t store (updated whole ps v))) f (at + length xs) callers (GotPath vs n n path (before e (with s x)) s store regs whole) Q (omega arith) (omega arith)
        (path_follows path (before e (with s x)) s n at store regs callers k whole q bp (known_before o n n (omega arith) vs e (with s x) be with_x) (omega arith) (stand_front r.body at xs (ys ++ zs) stands) kept (omega (arith, ticks, few)))
        (λ ps j middle le got. value_then c routines f r there wide w n most e o vs (with s x) d (at + length xs) store middle callers j 0 2 (size e) 2 (λ v. stored fr place x t store (updated whole ps v)) Q se be with_x (omega arith) (stand_front r.body (at + length xs) ys zs rest) (record { live = got.live; size = got.size ∙ kept.size; proper = kept.proper }) (omega (arith, le, ticks, few)) (omega arith) (omega arith)
        (λ v i last le2 proper two. follows_given M wide 0 2 f (at + length xs + length ys) last callers fr.member i place t (updated whole ps v) (Done (Went (put store x (Some (updated whole ps v))))) Q still
        (λ l same. put_follows path e d (at + length xs + length ys) store last whole v ps l less there_x (omega arith) known (names_of (asked c routines f r w fr n wide most) c.table (λ name h. h) path q) (held_same vs s store path ps middle last n (λ y a b. two.kept y a b) got.held) got.inside
        two.value two.live set (two.size ∙ got.size ∙ kept.size) kept.proper (updated_proper ps whole v (slot_proper store x whole kept.proper set) proper) (stand_back r.body (at + length xs) ys zs rest) (omega (arith, end, l1, l2)))))))
