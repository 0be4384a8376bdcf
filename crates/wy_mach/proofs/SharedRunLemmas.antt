-- Copies over a run.
use Rattle.std.proofs.Common.{◌≡◌, ℕ, zero, suc, ◌+◌, refl, ◌∙◌, ap, arith}
use Rattle.wy_heap.specs.Copying.{raised}
use Rattle.wy_code.specs.declared.routines.Code.{Code}
use Rattle.wy_mach.specs.declared.machine.Machine.{Machine}
use Rattle.wy_mach.specs.SharedSteps.{ShareSteps}
use Rattle.wy_mach.specs.SharedTurns.{FollowsAlong, HaveRoom, RunsAreCounted, state_of}

raised_zero : (a b : ℕ) → raised a b ≡ raised a (b + 0)
raised_zero a b = let same : b ≡ b + 0 = omega arith in ap (raised a) same

raised_suc : (a b c : ℕ) → raised (raised a (suc b)) (suc c) ≡ raised a (suc (b + suc c))
raised_suc a b c = omega arith

raised_twice : (a b c : ℕ) → raised (raised a b) c ≡ raised a (b + c)
raised_twice a b zero = raised_zero a b
raised_twice a zero (suc c) = let same : suc c ≡ 0 + suc c = omega arith in ap (raised a) same
raised_twice a (suc b) (suc c) = let same : suc (b + suc c) ≡ suc b + suc c = omega arith in raised_suc a b c ∙ ap (raised a) same

-- the copies of all turns are those of the steps
copies_add : (code : Code) (n : ℕ) (first last : Machine) (along : FollowsAlong code n first last) → HaveRoom code n first last along → (copied : ℕ) × ShareSteps code n (state_of first) (state_of last) copied × (last.heap.copies ≡ raised first.heap.copies copied)
copies_add code zero first last along room = (0, (ap (λ (k : Machine). state_of k) along, refl), ap (λ (k : Machine). k.heap.copies) along)
copies_add code (suc n) first last along room =
    let before = copies_add code n first along.0 along.1 room.0 in
    let now = along.2.step room.1 in (
      before.0 + now.0,
      (state_of along.0, before.0, now.0, before.1, now.1, refl),
      now.2 ∙ ap (λ (c : ℕ). raised c now.0) before.2 ∙ raised_twice first.heap.copies before.0 now.0,
    )

pub runs_counted : RunsAreCounted
runs_counted code entry args steps cap text copies nodes ran room =
    let all = copies_add code ran.done.made ran.first ran.done.last ran.done.along room in
    record {
      copied = all.0;
      begins = ran.begins;
      steps = all.1;
      copies_are = ran.done.copies_are ∙ all.2 ∙ ap (λ (c : ℕ). raised c all.0) ran.none;
      ends = ran.done.ends;
    }
