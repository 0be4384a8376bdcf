-- What turns do on shared nodes.
use Rattle.std.proofs.Common.{◌≡◌, ◌≤◌, ℕ, suc, ◌+◌, ◌-◌, List, [], ◌∷◌, ◌++◌, length, set, get_or, Option, Some, refl, sym, ◌∙◌, ap, subst}
use Rattle.std.specs.Prelude.{Result, Ok, Err, OnOk, IfOk, vec_capacity, slice_get}
use Rattle.wy_heap.specs.declared.part.Part.{Part}
use Rattle.wy_heap.specs.declared.part.Part.TheVariants.{Null}
use Rattle.wy_code.specs.declared.instructions.Instr.{Instr}
use Rattle.wy_code.specs.declared.instructions.Instr.TheVariants as instr
use Rattle.wy_code.specs.declared.routines.Routine.{Routine}
use Rattle.wy_code.specs.declared.routines.Code.{Code}
use Rattle.wy_mach.specs.Taking.{taken, emptied, nulls}
use Rattle.wy_mach.specs.Sharing.{Spares}
use Rattle.wy_mach.proofs.RecordLemmas.{length-taken}
use Rattle.wy_mach.specs.declared.frames.Caller.{Caller}
use Rattle.wy_mach.specs.declared.machine.Machine.{Machine}
use Rattle.wy_mach.specs.declared.machine.Turn.{Turn}
use Rattle.wy_mach.specs.declared.machine.Turn.TheVariants as turn
use Rattle.wy_code_spec.specs.step.Step as step
use Rattle.wy_mach.specs.Running.{Enters, Resumes, IsEnd, IsPlain, Reaches, Steps, next_in}
use Rattle.wy_mach.specs.SharedSteps.{EndsIn}
use Rattle.wy_mach.specs.SharedTurns.{SharesPlain, SharesCall, SharesReturn, SharesBy, EndsSo, EndsBy, IsNoEnd, ReturnsLast, TurnsShared, Follows, FollowsAlong, ShowsAt, ShowsNext, EndsShared, WantsIn, WantsBy, state_of}

-- ---- instructions

-- an instruction that goes on behind and prints nothing
pub plain_by : (code : Code) (i : Instr) (old new : Machine) → IsPlain i → SharesPlain i old new → SharesBy code i old new
plain_by code (instr.Const d c) old new plain shares = shares
plain_by code (instr.Move d r) old new plain shares = shares
plain_by code (instr.Share d r) old new plain shares = shares
plain_by code (instr.Clear rs) old new plain shares = shares
plain_by code (instr.Arith d op a b) old new plain shares = shares
plain_by code (instr.Compare d op a b) old new plain shares = shares
plain_by code (instr.Equal d a b) old new plain shares = shares
plain_by code (instr.Not d a) old new plain shares = shares
plain_by code (instr.Jump t) old new plain shares = absurd plain
plain_by code (instr.Branch r t) old new plain shares = absurd plain
plain_by code (instr.Array d rs) old new plain shares = shares
plain_by code (instr.Record d k rs) old new plain shares = shares
plain_by code (instr.Fill d v n) old new plain shares = shares
plain_by code (instr.Len d a) old new plain shares = shares
plain_by code (instr.Get d a i) old new plain shares = shares
plain_by code (instr.Field d a f) old new plain shares = shares
plain_by code (instr.Put a path v) old new plain shares = shares
plain_by code (instr.Kind d a k) old new plain shares = shares
plain_by code (instr.Call d f rs) old new plain shares = absurd plain
plain_by code (instr.Return r) old new plain shares = absurd plain
plain_by code (instr.Print a) old new plain shares = absurd plain
plain_by code (instr.PrintInt a) old new plain shares = absurd plain

-- what a plain instruction wants
pub plain_wants : (i : Instr) (k : Machine) → IsPlain i → WantsIn i k.heap k.frame.registers.items (vec_capacity k.path) → WantsBy i k
plain_wants (instr.Const d c) k plain wants = wants
plain_wants (instr.Move d r) k plain wants = wants
plain_wants (instr.Share d r) k plain wants = wants
plain_wants (instr.Clear rs) k plain wants = wants
plain_wants (instr.Arith d op a b) k plain wants = wants
plain_wants (instr.Compare d op a b) k plain wants = wants
plain_wants (instr.Equal d a b) k plain wants = wants
plain_wants (instr.Not d a) k plain wants = wants
plain_wants (instr.Jump t) k plain wants = absurd plain
plain_wants (instr.Branch r t) k plain wants = absurd plain
plain_wants (instr.Array d rs) k plain wants = wants
plain_wants (instr.Record d k2 rs) k plain wants = wants
plain_wants (instr.Fill d v n) k plain wants = wants
plain_wants (instr.Len d a) k plain wants = wants
plain_wants (instr.Get d a i) k plain wants = wants
plain_wants (instr.Field d a f) k plain wants = wants
plain_wants (instr.Put a path v) k plain wants = wants
plain_wants (instr.Kind d a q) k plain wants = wants
plain_wants (instr.Call d f rs) k plain wants = absurd plain
plain_wants (instr.Return r) k plain wants = absurd plain
plain_wants (instr.Print a) k plain wants = absurd plain
plain_wants (instr.PrintInt a) k plain wants = absurd plain

-- ---- calls

-- what follows of an answer that went, by two things told of it
pub on_both : {T E : Type 0} (r : Result T E) (P Q : Type 0) (S : T → Type 0) → ((t : T) → P → Q → S t) → OnOk r P → OnOk r Q → IfOk r S
on_both (Ok t) P Q S f p q = f t p q
on_both (Err e) P Q S f p q = tt

pub shares_call : (code : Code) (old mid new : Machine) (to f : ℕ) (rs : List ℕ) (r : Routine) (arguments : List Part) → slice_get code.routines f ≡ Some r → mid.heap ≡ old.heap → mid.frame.routine ≡ old.frame.routine → mid.frame.at ≡ old.frame.at → mid.frame.registers.items ≡ emptied old.frame.registers.items rs → mid.callers.items ≡ old.callers.items → arguments ≡ taken old.frame.registers.items rs → Enters mid new f to r.registers arguments → new.frame.registers.items ≡ arguments ++ nulls (r.registers - length arguments) → SharesCall code old new to f rs
shares_call code old mid new to f rs r arguments there heap routine at left callers are enters registers =
    let waiting : Caller = record { frame = record mid.frame { at = mid.frame.at + 1 }; target = to } in
    let ps = old.frame.registers.items in
    record {
      heap = enters.heap ∙ heap;
      callee = r;
      is = there;
      routine = enters.routine;
      next = enters.at;
      left_routine = routine;
      left_next = ap (λ (n : ℕ). n + 1) at;
      registers = registers ∙ ap (λ (l : List Part). l ++ nulls (r.registers - length l)) are ∙ ap (λ (n : ℕ). taken ps rs ++ nulls (r.registers - n)) (length-taken ps rs);
      waiting = waiting;
      callers = enters.callers ∙ ap (λ (l : List Caller). l ++ waiting ∷ []) callers;
      left = left;
      target = refl;
    }

pub shares_return : (old mid new : Machine) (from : ℕ) (caller : Caller) (given : Part) → given ≡ get_or old.frame.registers.items from Null → mid.heap ≡ old.heap → old.callers.items ≡ mid.callers.items ++ caller ∷ [] → Resumes mid new caller given → Spares mid.heap new.heap → SharesReturn old new from
shares_return old mid new from caller given is heap popped resumed spares = record {
  waiting = caller;
  callers = popped ∙ ap (λ (l : List Caller). l ++ caller ∷ []) (sym resumed.callers);
  registers = resumed.registers ∙ ap (λ (p : Part). set caller.frame.registers.items caller.target p) is;
  routine = resumed.routine;
  next = resumed.at;
  spares = subst (λ h. Spares h new.heap) heap spares;
}

pub ends_elsewhere : (old : Machine) (given : Part) (t : Turn) → IsEnd old given t → t ≡ turn.Went → ⊥
ends_elsewhere old given turn.Went ends went = ends
ends_elsewhere old given (turn.Done text copies nodes) ends went = cc
ends_elsewhere old given turn.OutFault ends went = ends
ends_elsewhere old given turn.Stuck ends went = ends

-- ---- the end

-- a turn that doesn't end the run
pub no_end_so : (t : Turn) (ends : ℕ → ℕ → Type 0) → IsNoEnd t → EndsSo ends t
no_end_so turn.Went ends none = tt
no_end_so (turn.Done text copies nodes) ends none = absurd none
no_end_so turn.OutFault ends none = tt
no_end_so turn.Stuck ends none = tt

pub went_no_end : (t : Turn) → t ≡ turn.Went → IsNoEnd t
went_no_end t went = subst IsNoEnd (sym went) tt

-- what is told of the copies and nodes of an end
pub ends_so : (t : Turn) (P Q : ℕ → ℕ → Type 0) → ((copies nodes : ℕ) → P copies nodes → Q copies nodes) → EndsSo P t → EndsSo Q t
ends_so turn.Went P Q f ends = tt
ends_so (turn.Done text copies nodes) P Q f ends = f copies nodes ends
ends_so turn.OutFault P Q f ends = tt
ends_so turn.Stuck P Q f ends = tt

-- what a turn did to the nodes, from what it did where it went and where it ended the run
pub turns_shared : (code : Code) (old new : Machine) (t : Turn) → (t ≡ turn.Went → Follows code old new) → EndsSo (λ copies nodes. EndsIn code (state_of old) nodes × (copies ≡ old.heap.copies)) t → TurnsShared code old new t
turns_shared code old new turn.Went went ends = went refl
turns_shared code old new (turn.Done text copies nodes) went ends = ends
turns_shared code old new turn.OutFault went ends = tt
turns_shared code old new turn.Stuck went ends = tt

-- an instruction that ends the run returns from the first frame
pub by_return : (code : Code) (old : Machine) (i : Instr) (copies nodes : ℕ) (P : Type 0) → EndsBy i old copies nodes → ((from : ℕ) → i ≡ instr.Return from → ReturnsLast old from copies nodes → P) → P
by_return code old (instr.Return from) copies nodes P ends goes = goes from refl ends
by_return code old (instr.Const d c) copies nodes P ends goes = absurd ends
by_return code old (instr.Move d r) copies nodes P ends goes = absurd ends
by_return code old (instr.Share d r) copies nodes P ends goes = absurd ends
by_return code old (instr.Clear rs) copies nodes P ends goes = absurd ends
by_return code old (instr.Arith d op a b) copies nodes P ends goes = absurd ends
by_return code old (instr.Compare d op a b) copies nodes P ends goes = absurd ends
by_return code old (instr.Equal d a b) copies nodes P ends goes = absurd ends
by_return code old (instr.Not d a) copies nodes P ends goes = absurd ends
by_return code old (instr.Jump n) copies nodes P ends goes = absurd ends
by_return code old (instr.Branch r n) copies nodes P ends goes = absurd ends
by_return code old (instr.Array d rs) copies nodes P ends goes = absurd ends
by_return code old (instr.Record d k rs) copies nodes P ends goes = absurd ends
by_return code old (instr.Fill d v n) copies nodes P ends goes = absurd ends
by_return code old (instr.Len d a) copies nodes P ends goes = absurd ends
by_return code old (instr.Get d a j) copies nodes P ends goes = absurd ends
by_return code old (instr.Field d a f) copies nodes P ends goes = absurd ends
by_return code old (instr.Put a path v) copies nodes P ends goes = absurd ends
by_return code old (instr.Kind d a k) copies nodes P ends goes = absurd ends
by_return code old (instr.Call d f rs) copies nodes P ends goes = absurd ends
by_return code old (instr.Print a) copies nodes P ends goes = absurd ends
by_return code old (instr.PrintInt a) copies nodes P ends goes = absurd ends

-- ---- runs

-- a turn that went shows the next state
pub shows_next : (code : Code) (old new : Machine) (before after : Option (List ℕ)) → Steps (next_in code) old new before after → ShowsNext code old new
shows_next code old new before after steps fr callers output shows = by (step.step code (step.Runs fr callers output)) (steps fr callers output shows)
  where
    by : (st : step.State) → Reaches new before after output st → ShowsAt new st
    by (step.Runs f cs out) reaches = reaches.0
    by (step.Ended v out) reaches = reaches
    by step.Stuck reaches = tt

pub along_more : (code : Code) (i n : ℕ) (first k last : Machine) → n ≡ suc i → FollowsAlong code i first k → Follows code k last → ShowsNext code k last → FollowsAlong code n first last
along_more code i n first k last is along follows shows = subst (λ (m : ℕ). FollowsAlong code m first last) (sym is) (k, along, follows, shows)

pub ends_shared : (code : Code) (first last : Machine) (made steps copies nodes : ℕ) → made + 1 ≤ steps → FollowsAlong code made first last → EndsIn code (state_of last) nodes → copies ≡ last.heap.copies → EndsShared code first steps copies nodes
ends_shared code first last made steps copies nodes within along ends are = record { made = made; within = within; last = last; along = along; ends = ends; copies_are = are }
