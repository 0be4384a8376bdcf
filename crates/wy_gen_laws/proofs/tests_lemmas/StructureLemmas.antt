-- Tests of types one node at a time: the code behind a visit does what is asked, and with the tick of the visit leaves nine steps for those who asked.
use Rattle.std.proofs.Common.{◌≡◌, ◌<◌, ◌≤◌, ℕ, suc, ◌+◌, List, [], ◌∷◌, ◌++◌, length, Bool, true, false, Option, Some, refl, sym, ◌∙◌, ap, subst, arith, length-append}
use Rattle.std.specs.Prelude.{◌≢◌, not}
use Rattle.wy_value.specs.Datum.{Datum, Null, Truth, Whole, Array, Record}
use Rattle.wy_core.specs.Types.{Ty, NullTy, BoolTy, IntTy, AnyTy, UnionTy, InterTy, NotTy}
use Rattle.wy_core.specs.formed.Sizes.{size_ty}
use Rattle.wy_code.specs.declared.instructions.Scalar.TheVariants as scalar
use Rattle.wy_code.specs.declared.instructions.Kind.{Kind}
use Rattle.wy_code.specs.declared.instructions.Kind.TheVariants as kind
use Rattle.wy_code.specs.declared.instructions.Instr.{Instr}
use Rattle.wy_code.specs.declared.instructions.Instr.TheVariants as instr
use Rattle.wy_code.specs.declared.routines.Routine.{Routine}
use Rattle.wy_code.specs.declared.routines.Code.{Code}
use Rattle.wy_code_spec.specs.declared.tables.context.Context.{Context}
use Rattle.wy_code.specs.declared.pieces.steps.Step.{Step}
use Rattle.wy_code.specs.declared.pieces.steps.Step.TheVariants.{Does}
use Rattle.wy_code.specs.pieces.Steps.{fork}
use Rattle.wy_code.specs.pieces.Placing.{registers_in}
use Rattle.wy_code_spec.specs.compiled.TypeTests.{test}
use Rattle.wy_vc_spec.specs.wy_sem.kept.Kept.{IsProper}
use Rattle.wy_vc_spec.specs.wy_sem.Meter.{Meter, Outcome, Done, turn, choose}
use Rattle.wy_vc_spec.specs.wy_sem.Expressions.{Store, slot, put}
use Rattle.wy_vc_spec.specs.wy_sem.TypeTests.{Test, answer, both, either, opposite, is_null, is_truth, is_whole}
use Rattle.wy_code_spec.specs.step.Step as machine
use Rattle.wy_code_spec.specs.step.Step.{Caller, Effect, GoesOn as goes_on, effect, there as where_there, gives, kind_answer, instr_at}
use Rattle.wy_gen_laws.specs.Places.{StandAt, IsRoutine}
use Rattle.wy_gen_laws.specs.Follows.{Follows, at_place, Comes}
use Rattle.wy_gen_laws.proofs.PlaceLemmas.{stand_front, stand_back}
use Rattle.wy_gen_laws.proofs.StoreLemmas.{put_here, put_other, put_size}
use Rattle.wy_gen_laws.proofs.FollowLemmas.{follows_map, follows_more, follows_then, follows_at, follows_choose}
use Rattle.wy_gen_laws.proofs.SpareLemmas.{Leaves, leaves_spend, leaves_follows}
use Rattle.wy_gen_laws.proofs.InstructionLemmas.{not_does}
use Rattle.wy_gen_laws.proofs.PieceLemmas.{does_then, does_last, stays_last, fork_on, fork_off}
use Rattle.wy_gen_laws.specs.expressions.Standing.{with_table}
use Rattle.wy_gen_laws.specs.expressions.Rests.{Told}
use Rattle.wy_gen_laws.proofs.expressions_lemmas.PartLemmas.{room_at}

-- ---- answers in registers

pub told_put : (q g : ℕ) (regs : Store) (b : Bool) → q < length regs → Told q g regs b (put regs q (Some (Truth b)))
told_put q g regs b room = record { value = put_here regs q (Some (Truth b)) room; kept = λ t l other. put_other regs q t (Some (Truth b)) other; size = put_size regs q (Some (Truth b)) }

pub told_chain : (q g : ℕ) (first middle last : Store) (b c : Bool) → Told q g first b middle → Told q g middle c last → Told q g first c last
told_chain q g first middle last b c one two = record { value = two.value; kept = λ t l other. two.kept t l other ∙ one.kept t l other; size = two.size ∙ one.size }

-- the same answer, of which more is known
pub follows_comes : {X : Type 0} (code : Code) (wide lo hi : ℕ) (m : Meter) (f at : ℕ) (regs : Store) (to : ℕ) (callers : List Caller) (o : Outcome X) (R S : X → Store → Type 0) → ((x : X) (s : Store) → R x s → S x s)
    → Follows code wide lo hi m (at_place f at regs callers m.output) o (Comes f to callers R) → Follows code wide lo hi m (at_place f at regs callers m.output) o (Comes f to callers S)
follows_comes code wide lo hi m f at regs to callers o R S g h = follows_map code wide lo hi m (at_place f at regs callers m.output) o (Comes f to callers R) (Comes f to callers S) h (λ x k s c. record { regs = c.regs; is = c.is; ok = g x c.regs c.ok })

same_null : (d : Datum) → machine.is_null d ≡ is_null d
same_null Null = refl
same_null (Truth b) = refl
same_null (Whole z) = refl
same_null (Array ds) = refl
same_null (Record fs) = refl

same_truth : (d : Datum) → machine.is_bool d ≡ is_truth d
same_truth Null = refl
same_truth (Truth b) = refl
same_truth (Whole z) = refl
same_truth (Array ds) = refl
same_truth (Record fs) = refl

-- a value that is a number is an `int`
same_whole : (d : Datum) → IsProper d → machine.is_number d ≡ is_whole d
same_whole Null p = refl
same_whole (Truth b) p = refl
same_whole (Whole z) p = sym p
same_whole (Array ds) p = refl
same_whole (Record fs) p = refl

module _ (c : Context) (routines : List Routine) (wide : ℕ) where
  abbrev pub mach : Code
  mach = with_table c routines

  -- behind the tick of a visit: the steps by the registers of the datum, of the answer and from which on they are free
  abbrev pub Visited : ℕ → (ℕ → ℕ → ℕ → List Step) → Test → Datum → Type 0
  Visited lo steps run d = (f : ℕ) (r : Routine) → IsRoutine (with_table c routines) f r → (v q g at : ℕ) (regs : Store) (callers : List Caller) (m : Meter) → slot regs v ≡ Some d → v < g → q < g → v ≢ q → length regs ≡ r.registers → StandAt r.body at (steps v q g)
      → Follows (with_table c routines) wide lo 7 m (at_place f at regs callers m.output) (run m) (Comes f (at + length (steps v q g)) callers (Told q g regs))

  -- the code of the test of a type, tick of the visit included
  abbrev pub IsTested : Test → Ty → Datum → Type 0
  IsTested run t d = (f : ℕ) (r : Routine) → IsRoutine (with_table c routines) f r → (v q g at : ℕ) (regs : Store) (callers : List Caller) (m : Meter) → slot regs v ≡ Some d → v < g → q < g → v ≢ q → length regs ≡ r.registers → StandAt r.body at (test c t v q g)
      → Leaves (with_table c routines) wide (size_ty t) 9 m (at_place f at regs callers m.output) (run m) (Comes f (at + length (test c t v q g)) callers (Told q g regs))

  pub visited : (t : Ty) (lo : ℕ) (limit : Option ℕ) (run : Test) (d : Datum) → suc lo ≤ size_ty t → Visited lo (test c t) run d → IsTested (turn limit true run) t d
  visited t lo limit run d least h f r there v q g at regs callers m held va qa other whole stands =
      leaves_spend mach wide lo 7 9 (size_ty t) m (at_place f at regs callers m.output) run (Comes f (at + length (test c t v q g)) callers (Told q g regs)) least (omega arith) refl
      (λ ticks e. h f r there v q g at regs callers (record m { ticks = ticks }) held va qa other whole stands)

  -- ---- one instruction

  single : (f : ℕ) (r : Routine) → IsRoutine (with_table c routines) f r → (q g at : ℕ) (regs : Store) (callers : List Caller) (m : Meter) (i : Instr) (rest : List ℕ) (b : Bool) → length regs ≡ r.registers → instr_at (Some r) at ≡ Some i → registers_in i ≡ q ∷ rest → effect c.table i regs ≡ goes_on (put regs q (Some (Truth b))) []
      → Follows mach wide 0 7 m (at_place f at regs callers m.output) (Done b m) (Comes f (at + 1) callers (Told q g regs))
  single f r there q g at regs callers m i rest b whole stands names does =
      follows_more mach wide 0 1 0 7 m (at_place f at regs callers m.output) (Done b m) (Comes f (at + 1) callers (Told q g regs)) (omega arith) (omega arith)
      (does_last mach f r there wide at i regs (put regs q (Some (Truth b))) callers m b (Told q g regs) stands does (told_put q g regs b (let l = room_at mach f r there at q i rest stands names in omega (arith, l, whole))))

  kind_does : (q v : ℕ) (regs : Store) (k : Kind) (d : Datum) (b : Bool) → slot regs v ≡ Some d → ((next : Bool → Effect) → kind_answer c.table k d next ≡ next b) → effect c.table (instr.Kind q v k) regs ≡ goes_on (put regs q (Some (Truth b))) []
  kind_does q v regs k d b held h = ap (λ (o : Option Datum). where_there o (λ x. kind_answer c.table k x (λ t. gives regs q (Truth t)))) held ∙ h (λ t. gives regs q (Truth t))

  pub null_visited : (d : Datum) → Visited 0 (test c NullTy) (answer (is_null d)) d
  null_visited d f r there v q g at regs callers m held va qa other whole stands = single f r there q g at regs callers m (instr.Kind q v kind.Null) (v ∷ []) (is_null d) whole stands.0 refl (kind_does q v regs kind.Null d (is_null d) held (λ next. ap next (same_null d)))

  pub truth_visited : (d : Datum) → Visited 0 (test c BoolTy) (answer (is_truth d)) d
  truth_visited d f r there v q g at regs callers m held va qa other whole stands = single f r there q g at regs callers m (instr.Kind q v kind.Bool) (v ∷ []) (is_truth d) whole stands.0 refl (kind_does q v regs kind.Bool d (is_truth d) held (λ next. ap next (same_truth d)))

  pub whole_visited : (d : Datum) → IsProper d → Visited 0 (test c IntTy) (answer (is_whole d)) d
  whole_visited d p f r there v q g at regs callers m held va qa other whole stands = single f r there q g at regs callers m (instr.Kind q v kind.Int) (v ∷ []) (is_whole d) whole stands.0 refl (kind_does q v regs kind.Int d (is_whole d) held (λ next. ap next (same_whole d p)))

  pub any_visited : (d : Datum) → Visited 0 (test c AnyTy) (answer true) d
  any_visited d f r there v q g at regs callers m held va qa other whole stands = single f r there q g at regs callers m (instr.Const q (scalar.Bool true)) [] true whole stands.0 refl refl

  pub none_visited : (d : Datum) → Visited 0 (λ v q g. Does (instr.Const q (scalar.Bool false)) ∷ []) (answer false) d
  none_visited d f r there v q g at regs callers m held va qa other whole stands = single f r there q g at regs callers m (instr.Const q (scalar.Bool false)) [] false whole stands.0 refl refl

  -- ---- a kind, and where the value isn't of it the answer is no

  pub unkind : (f : ℕ) (r : Routine) → IsRoutine (with_table c routines) f r → (v q g at : ℕ) (regs : Store) (callers : List Caller) (m : Meter) (k : Kind) (d : Datum) (parts : List Step) → slot regs v ≡ Some d → length regs ≡ r.registers → ((next : Bool → Effect) → kind_answer c.table k d next ≡ next false)
      → StandAt r.body at (Does (instr.Kind q v k) ∷ fork q parts []) → Follows (with_table c routines) wide 0 3 m (at_place f at regs callers m.output) (Done false m) (Comes f (at + suc (length (fork q parts []))) callers (Told q g regs))
  unkind f r there v q g at regs callers m k d parts held whole isnt stands =
      let regs2 = put regs q (Some (Truth false)) in
      let told = told_put q g regs false (let l = room_at mach f r there at q (instr.Kind q v k) (v ∷ []) stands.0 refl in omega (arith, l, whole)) in
      follows_at mach wide 0 3 m (at_place f at regs callers m.output) (Done false m) f (at + 1 + length (fork q parts [])) (at + suc (length (fork q parts []))) callers (Told q g regs) (omega arith)
      (does_then mach f r there wide 0 2 at (instr.Kind q v k) regs regs2 callers m (Done false m) (at + 1 + length (fork q parts [])) (Told q g regs) stands.0 (kind_does q v regs k d false held isnt)
      (fork_off mach f r there wide 0 0 (at + 1) q parts [] regs2 callers m (Done false m) (Told q g regs) stands.1 told.value
      (λ p h. follows_at mach wide 0 0 m (at_place f p regs2 callers m.output) (Done false m) f p (p + 0) callers (Told q g regs) (omega arith) (stays_last mach f r there wide p regs2 callers m false (Told q g regs) told))))

  -- and where it is of it, the first step is made
  pub kind_then : (f : ℕ) (r : Routine) → IsRoutine (with_table c routines) f r → (lo hi v q at : ℕ) (regs : Store) (callers : List Caller) (m : Meter) (k : Kind) (d : Datum) (o : Outcome Bool) (to : ℕ) (R : Bool → Store → Type 0) → slot regs v ≡ Some d → ((next : Bool → Effect) → kind_answer c.table k d next ≡ next true)
      → instr_at (Some r) at ≡ Some (instr.Kind q v k) → Follows (with_table c routines) wide lo hi m (at_place f (at + 1) (put regs q (Some (Truth true))) callers m.output) o (Comes f to callers R) → Follows (with_table c routines) wide lo (hi + 1) m (at_place f at regs callers m.output) o (Comes f to callers R)
  kind_then f r there lo hi v q at regs callers m k d o to R held is stands h =
      does_then mach f r there wide lo hi at (instr.Kind q v k) regs (put regs q (Some (Truth true))) callers m o to R stands (kind_does q v regs k d true held is) h

  -- ---- unions, intersections and complements

  -- a test behind another one
  again : (run : Test) (t : Ty) (d : Datum) → IsTested run t d → (f : ℕ) (r : Routine) → IsRoutine (with_table c routines) f r → (v q g p : ℕ) (first regs : Store) (callers : List Caller) (m : Meter) (b : Bool) → slot first v ≡ Some d → v < g → q < g → v ≢ q → length first ≡ r.registers → Told q g first b regs → StandAt r.body p (test c t v q g)
      → Follows mach wide (size_ty t) 0 m (at_place f p regs callers m.output) (run m) (Comes f (p + length (test c t v q g)) callers (Told q g first))
  again run t d ok f r there v q g p first regs callers m b held va qa other whole told stands =
      follows_comes mach wide (size_ty t) 0 m f p regs (p + length (test c t v q g)) callers (run m) (Told q g regs) (Told q g first) (λ a s two. told_chain q g first regs s b a told two)
      (leaves_follows mach wide (size_ty t) 9 m (at_place f p regs callers m.output) (run m) (Comes f (p + length (test c t v q g)) callers (Told q g regs))
      (ok f r there v q g p regs callers m (told.kept v va other ∙ held) va qa other (told.size ∙ whole) stands))

  -- nothing more is asked
  ends_so : (f : ℕ) (r : Routine) → IsRoutine (with_table c routines) f r → (q g p : ℕ) (first regs : Store) (callers : List Caller) (m : Meter) (b : Bool) → Told q g first b regs → Follows mach wide 0 0 m (at_place f p regs callers m.output) (Done b m) (Comes f (p + 0) callers (Told q g first))
  ends_so f r there q g p first regs callers m b told = follows_at mach wide 0 0 m (at_place f p regs callers m.output) (Done b m) f p (p + 0) callers (Told q g first) (omega arith) (stays_last mach f r there wide p regs callers m b (Told q g first) told)

  told_as : (q g : ℕ) (first regs : Store) (b e : Bool) → b ≡ e → Told q g first b regs → Told q g first e regs
  told_as q g first regs b e is told = subst (λ (t : Bool). Told q g first t regs) is told

  pub either_visited : (s t : Ty) (A B : Test) (d : Datum) → IsTested A s d → IsTested B t d → Visited (size_ty s + size_ty t) (test c (UnionTy s t)) (either A B) d
  either_visited s t A B d one two f r there v q g at regs callers m held va qa other whole stands =
      let xs = test c s v q g in
      let ys = test c t v q g in
      let zs = fork q [] ys in
      let R = Told q g regs in
      let to = at + length xs + length zs in
      let l1 : length (xs ++ zs) ≡ length xs + length zs = length-append xs zs in
      let stood : StandAt r.body (at + length xs) zs = stand_back r.body at xs zs stands in
      follows_at mach wide (size_ty s + size_ty t) 7 m (at_place f at regs callers m.output) (either A B m) f to (at + length (xs ++ zs)) callers R (omega (arith, l1))
      (follows_then mach wide (size_ty s) 0 (size_ty t) 7 (size_ty s + size_ty t) 7 m (at_place f at regs callers m.output) (A m) (λ b. choose b (answer true) B) f (at + length xs) callers R (Comes f to callers R) (omega arith) (omega arith)
      (leaves_follows mach wide (size_ty s) 9 m (at_place f at regs callers m.output) (A m) (Comes f (at + length xs) callers R) (one f r there v q g at regs callers m held va qa other whole (stand_front r.body at xs zs stands)))
      (λ b k last le told. follows_choose mach wide (size_ty t) 7 k (at_place f (at + length xs) last callers k.output) b (answer true) B (Comes f to callers R)
      (λ yes. let so = told_as q g regs last b true yes told in
      follows_more mach wide 0 2 (size_ty t) 7 k (at_place f (at + length xs) last callers k.output) (Done true k) (Comes f to callers R) (omega arith) (omega arith)
      (fork_on mach f r there wide 0 0 (at + length xs) q [] ys last callers k (Done true k) R stood so.value (λ p h. ends_so f r there q g p regs last callers k true so)))
      (λ no. let so = told_as q g regs last b false no told in
      follows_more mach wide (size_ty t) 2 (size_ty t) 7 k (at_place f (at + length xs) last callers k.output) (B k) (Comes f to callers R) (omega arith) (omega arith)
      (fork_off mach f r there wide (size_ty t) 0 (at + length xs) q [] ys last callers k (B k) R stood so.value (λ p h. again B t d two f r there v q g p regs last callers k false held va qa other whole so h)))))

  pub both_visited : (s t : Ty) (A B : Test) (d : Datum) → IsTested A s d → IsTested B t d → Visited (size_ty s + size_ty t) (test c (InterTy s t)) (both A B) d
  both_visited s t A B d one two f r there v q g at regs callers m held va qa other whole stands =
      let xs = test c s v q g in
      let ys = test c t v q g in
      let zs = fork q ys [] in
      let R = Told q g regs in
      let to = at + length xs + length zs in
      let l1 : length (xs ++ zs) ≡ length xs + length zs = length-append xs zs in
      let stood : StandAt r.body (at + length xs) zs = stand_back r.body at xs zs stands in
      follows_at mach wide (size_ty s + size_ty t) 7 m (at_place f at regs callers m.output) (both A B m) f to (at + length (xs ++ zs)) callers R (omega (arith, l1))
      (follows_then mach wide (size_ty s) 0 (size_ty t) 7 (size_ty s + size_ty t) 7 m (at_place f at regs callers m.output) (A m) (λ b. choose b B (answer false)) f (at + length xs) callers R (Comes f to callers R) (omega arith) (omega arith)
      (leaves_follows mach wide (size_ty s) 9 m (at_place f at regs callers m.output) (A m) (Comes f (at + length xs) callers R) (one f r there v q g at regs callers m held va qa other whole (stand_front r.body at xs zs stands)))
      (λ b k last le told. follows_choose mach wide (size_ty t) 7 k (at_place f (at + length xs) last callers k.output) b B (answer false) (Comes f to callers R)
      (λ yes. let so = told_as q g regs last b true yes told in
      follows_more mach wide (size_ty t) 2 (size_ty t) 7 k (at_place f (at + length xs) last callers k.output) (B k) (Comes f to callers R) (omega arith) (omega arith)
      (fork_on mach f r there wide (size_ty t) 0 (at + length xs) q ys [] last callers k (B k) R stood so.value (λ p h. again B t d two f r there v q g p regs last callers k true held va qa other whole so h)))
      (λ no. let so = told_as q g regs last b false no told in
      follows_more mach wide 0 2 (size_ty t) 7 k (at_place f (at + length xs) last callers k.output) (Done false k) (Comes f to callers R) (omega arith) (omega arith)
      (fork_off mach f r there wide 0 0 (at + length xs) q ys [] last callers k (Done false k) R stood so.value (λ p h. ends_so f r there q g p regs last callers k false so)))))

  pub opposite_visited : (t : Ty) (A : Test) (d : Datum) → IsTested A t d → Visited (size_ty t) (test c (NotTy t)) (opposite A) d
  opposite_visited t A d one f r there v q g at regs callers m held va qa other whole stands =
      let xs = test c t v q g in
      let zs : List Step = Does (instr.Not q q) ∷ [] in
      let R = Told q g regs in
      let to = at + length xs + 1 in
      let l1 : length (xs ++ zs) ≡ length xs + 1 = length-append xs zs in
      let stood : StandAt r.body (at + length xs) zs = stand_back r.body at xs zs stands in
      follows_at mach wide (size_ty t) 7 m (at_place f at regs callers m.output) (opposite A m) f to (at + length (xs ++ zs)) callers R (omega (arith, l1))
      (follows_then mach wide (size_ty t) 0 0 7 (size_ty t) 7 m (at_place f at regs callers m.output) (A m) (λ b. answer (not b)) f (at + length xs) callers R (Comes f to callers R) (omega arith) (omega arith)
      (leaves_follows mach wide (size_ty t) 9 m (at_place f at regs callers m.output) (A m) (Comes f (at + length xs) callers R) (one f r there v q g at regs callers m held va qa other whole (stand_front r.body at xs zs stands)))
      (λ b k last le told. follows_comes mach wide 0 7 k f (at + length xs) last to callers (Done (not b) k) (Told q g last) R (λ e s two. told_chain q g regs last s b e told two)
      (single f r there q g (at + length xs) last callers k (instr.Not q q) (q ∷ []) (not b) (told.size ∙ whole) stood.0 refl (not_does c.table last q q b told.value))))
