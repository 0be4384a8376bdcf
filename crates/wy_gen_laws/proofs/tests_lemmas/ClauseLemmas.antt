-- The clauses of a type, one behind the other up to the first that is false.
use Rattle.std.proofs.Common.{◌≡◌, ◌<◌, ◌≤◌, ◌⊎◌, inl, inr, ℕ, zero, suc, ◌+◌, List, [], ◌∷◌, ◌++◌, length, Bool, true, false, Option, Some, refl, sym, ◌∙◌, ap, subst, arith, length-append}
use Rattle.wy_value.specs.Datum.{Datum, Truth}
use Rattle.wy_core.specs.Types.{Ty}
use Rattle.wy_core.specs.CoreTree as tree
use Rattle.wy_core.specs.CoreTree.{Expr}
use Rattle.wy_core.specs.formed.Offers.{Offers}
use Rattle.wy_core.specs.formed.Bound.{Scope, BoundClauses}
use Rattle.wy_core.specs.formed.Calls.{CallsClauses, Nothing}
use Rattle.wy_core.specs.formed.Literals.{IntsClauses}
use Rattle.wy_core.specs.formed.Recursion.{ClausesMention}
use Rattle.wy_core.specs.formed.Sizes.{size, sizes}
use Rattle.wy_core.specs.formed.Wholes.{EachClause}
use Rattle.wy_code_spec.specs.wy_live.Sets.{Variables, has, with}
use Rattle.wy_code_spec.specs.wy_live.Walks.{before}
use Rattle.wy_code.specs.declared.routines.Routine.{Routine}
use Rattle.wy_code.specs.declared.routines.Code.{Code}
use Rattle.wy_code_spec.specs.declared.tables.context.Context.{Context}
use Rattle.wy_code.specs.pieces.Steps.{fork}
use Rattle.wy_code_spec.specs.compiled.Expressions.{code}
use Rattle.wy_code_spec.specs.compiled.Programs.{clauses_steps}
use Rattle.wy_code_spec.specs.numbered.Numbered.{NumberedExprs}
use Rattle.wy_vc_spec.specs.wy_sem.kept.Kept.{StoreProper}
use Rattle.wy_vc_spec.specs.wy_sem.Meter.{Meter, Done, Run, choose}
use Rattle.wy_vc_spec.specs.wy_sem.Operations.{longest, as_truth}
use Rattle.wy_vc_spec.specs.wy_sem.Expressions.{Store, slot, Setting, node, no_calls, eval}
use Rattle.wy_vc_spec.specs.wy_sem.TypeTests.{answer, all_hold}
use Rattle.wy_code_spec.specs.step.Step.{Caller}
use Rattle.wy_gen_laws.specs.Places.{StandAt, IsRoutine}
use Rattle.wy_gen_laws.specs.Follows.{Follows, at_place, Comes}
use Rattle.wy_gen_laws.specs.Registers.{Live}
use Rattle.wy_gen_laws.proofs.PlaceLemmas.{stand_front, stand_back}
use Rattle.wy_gen_laws.proofs.FollowLemmas.{follows_more, follows_at, follows_truth, follows_choose}
use Rattle.wy_gen_laws.proofs.SpareLemmas.{leaves_then}
use Rattle.wy_gen_laws.proofs.PieceLemmas.{stays_last, fork_on, fork_off}
use Rattle.wy_gen_laws.specs.expressions.Standing.{with_table, AreKnown}
use Rattle.wy_gen_laws.specs.expressions.Rests.{TestsFollow, Rests}
use Rattle.wy_gen_laws.specs.expressions.Evaluated.{Gained}
use Rattle.wy_gen_laws.proofs.expressions_lemmas.ExpressionLemmas.{brief_one}

-- in the routine of a type: the answer is in register n, and the datum still in register x
pub record Inner (x n count : ℕ) (d : Datum) (b : Bool) (regs : Store) : Type 0 where
  pub answer : slot regs n ≡ Some (Truth b)
  pub held : slot regs x ≡ Some d
  pub size : length regs ≡ count

module _ (c : Context) (routines : List Routine) (f : ℕ) (r : Routine) (there : IsRoutine (with_table c routines) f r) (wide : ℕ) (place : ℕ → ℕ) (limit : Option ℕ) (test : Bool → Ty → Datum → Run Bool) (P : ℕ → Type 0) (tests : TestsFollow c routines (test true) wide P)
    (o : Offers) (k n x : ℕ) (low : k ≤ n) (x_below : x < n) (d : Datum) (store : Store) (proper : StoreProper store) (stored : slot store x ≡ Some d) where
  abbrev mach : Code
  mach = with_table c routines

  abbrev w : Setting ℕ
  w = record { place = place; limit = limit; test = test; call = no_calls }

  abbrev vs : Scope
  vs = x ∷ []

  abbrev s : Variables
  s = with [] x

  rests : (most : ℕ) → Rests c routines w wide most Nothing P
  rests most = record { calls = λ f2 r2 there2 g at d2 p us regs callers m never. absurd never; tests = tests }

  -- the variable alone is live behind each clause
  alone_says : (x z : ℕ) → has (with [] x) z ≡ true → z ≡ x
  alone_says zero zero h = refl
  alone_says zero (suc z) h = absurd (let e : false ≡ true = h in cc)
  alone_says (suc x) zero h = absurd (let e : false ≡ true = h in cc)
  alone_says (suc x) (suc z) h = ap suc (alone_says x z h)

  alone_has : (x : ℕ) → has (with [] x) x ≡ true
  alone_has zero = refl
  alone_has (suc x) = alone_has x

  known : AreKnown n vs s
  known = record { below = λ z i. by z i; within = λ z h. let e = alone_says x z h in omega (arith, e, x_below) }
    where
      by : (z : ℕ) → (x ≡ z) ⊎ ⊥ → z < n
      by z (inl e) = omega (arith, e, x_below)
      by z (inr i) = absurd i

  live_any : (t : Variables) (regs : Store) → slot regs x ≡ Some d → Live vs t store regs
  live_any t regs held = record { holds = λ z u i h e. by z u i e }
    where
      by : (z : ℕ) (u : Datum) → (x ≡ z) ⊎ ⊥ → slot store z ≡ Some u → slot regs z ≡ Some u
      by z u (inl same) e = subst (λ (y : ℕ). slot regs y ≡ Some u) same (held ∙ sym stored ∙ subst (λ (y : ℕ). slot store y ≡ Some u) (sym same) e)
      by z u (inr i) e = absurd i

  abbrev In : Bool → Store → Type 0
  In = Inner x n r.registers d

  pub clauses_follow : (es : List (Expr ℕ)) → CallsClauses Nothing es → NumberedExprs c.table (tree.exprs_of es) → IntsClauses es → ((q : ℕ) → ClausesMention es q → P q) → BoundClauses o k vs es → sizes (tree.exprs_of es) ≤ wide → EachClause (λ e. size e ≤ longest) es
      → (p : ℕ) (regs : Store) (callers : List Caller) (m : Meter) → In true regs → StandAt r.body p (clauses_steps c es s n)
      → Follows (with_table c routines) wide (sizes (tree.exprs_of es)) 0 m (at_place f p regs callers m.output) (all_hold w true es store m) (Comes f (p + length (clauses_steps c es s n)) callers (Inner x n r.registers d))
  clauses_follow [] ca nu iz me b le few p regs callers m inner stands =
      follows_at mach wide 0 0 m (at_place f p regs callers m.output) (Done true m) f p (p + 0) callers In (omega arith) (stays_last mach f r there wide p regs callers m true In inner)
  clauses_follow (e ∷ es) ca nu iz me b le few p regs callers m inner stands =
      let xs = code c e s n in
      let rest = clauses_steps c es s n in
      let zs = fork n rest [] in
      let l1 : length (xs ++ zs) ≡ length xs + length zs = length-append xs zs in
      let lo2 = sizes (tree.exprs_of es) in
      let to = p + length xs + length zs in
      let Q = Comes f to callers In in
      let at = p + length xs in
      let tail = λ (v : Datum). as_truth (w.place (node e)) v (λ t. choose t (all_hold w true es store) (answer false)) in
      let stood : StandAt r.body at zs = stand_back r.body p xs zs stands in
      follows_at mach wide (size e + lo2) 0 m (at_place f p regs callers m.output) (all_hold w true (e ∷ es) store m) f to (p + length (xs ++ zs)) callers In (omega (arith, l1))
      (leaves_then mach wide (size e) 2 lo2 2 (size e + lo2) 0 m (at_place f p regs callers m.output) (eval w true e store m) tail f at callers (Gained vs n n s store regs) Q (omega arith) (omega arith)
      (brief_one c routines f r there w n wide m.ticks Nothing P (rests m.ticks) e (record { numbered = nu.0; ints = iz.0; calls = ca.0; names = λ q h. me q (inl h); nodes = omega (arith, le); few = few.0 })
      o k vs s n p store regs callers m b.0 low known (omega arith) (stand_front r.body p xs zs stands) (live_any (before e s) regs inner.held) proper inner.size (omega arith))
      (λ v j last less got. follows_truth mach wide lo2 2 j (at_place f at last callers j.output) (w.place (node e)) v (λ t. choose t (all_hold w true es store) (answer false)) Q
      (λ t is.
      let held : slot last x ≡ Some d = got.1.live.holds x d (inl refl) (alone_has x) stored in
      let size2 : length last ≡ r.registers = got.1.size ∙ inner.size in
      let said : slot last n ≡ Some (Truth t) = got.1.value ∙ ap (λ (u : Datum). Some u) is in
      follows_choose mach wide lo2 2 j (at_place f at last callers j.output) t (all_hold w true es store) (answer false) Q
      (λ yes. let here : slot last n ≡ Some (Truth true) = said ∙ ap (λ (u : Bool). Some (Truth u)) yes in
      fork_on mach f r there wide lo2 0 at n rest [] last callers j (all_hold w true es store j) In stood here
      (λ z h. clauses_follow es ca.1 nu.1 iz.1 (λ q g. me q (inr g)) b.1 (omega (arith, le)) few.1 z last callers j (record { answer = here; held = held; size = size2 }) h))
      (λ no. let here : slot last n ≡ Some (Truth false) = said ∙ ap (λ (u : Bool). Some (Truth u)) no in
      let bad : In false last = record { answer = here; held = held; size = size2 } in
      follows_more mach wide 0 2 lo2 2 j (at_place f at last callers j.output) (Done false j) Q (omega arith) (omega arith)
      (fork_off mach f r there wide 0 0 at n rest [] last callers j (Done false j) In stood here
      (λ z h. follows_at mach wide 0 0 j (at_place f z last callers j.output) (Done false j) f z (z + 0) callers In (omega arith) (stays_last mach f r there wide z last callers j false In bad)))))))
