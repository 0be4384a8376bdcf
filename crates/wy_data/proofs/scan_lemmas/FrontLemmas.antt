-- The bytes that pass, one after the other.
use Rattle.std.proofs.Common.{◌≡◌, ℕ, zero, suc, ◌+◌, ◌<◌, ◌≤◌, Bool, true, false, List, [], ◌∷◌, length, get_or, take, drop, refl, sym, subst, arith, add-one}
use Rattle.std.proofs.lemmas.List.{take_all, take-append-drop}
use Rattle.std.proofs.Math.Seq.{drop-length}
use Rattle.std.proofs.lemmas.List.{append-nil}
use Rattle.wy_data.specs.scan.Front.{heads, AllPass, IsRun}

pass_suc : (test : ℕ → Bool) (i : List ℕ) (n : ℕ) → n < length i → AllPass test (take n i) → test (get_or i n 0) ≡ true → AllPass test (take (suc n) i)
pass_suc test [] n lt so_far here = absurd (omega arith)
pass_suc test (b ∷ i) zero lt so_far here = (here, tt)
pass_suc test (b ∷ i) (suc n) lt so_far here = (so_far.0, pass_suc test i n (omega (arith, lt)) so_far.1 here)

-- one more byte passes
pub pass_more : (test : ℕ → Bool) (i : List ℕ) (n : ℕ) → n < length i → AllPass test (take n i) → test (get_or i n 0) ≡ true → AllPass test (take (n + 1) i)
pass_more test i n lt so_far here = rw add-one (pass_suc test i n lt so_far here)

heads_drop : (test : ℕ → Bool) (i : List ℕ) (n : ℕ) → n < length i → test (get_or i n 0) ≡ false → heads test (drop n i) ≡ false
heads_drop test [] n lt here = absurd (omega arith)
heads_drop test (b ∷ i) zero lt here = here
heads_drop test (b ∷ i) (suc n) lt here = heads_drop test i n (omega (arith, lt)) here

pub run_here : (test : ℕ → Bool) (i : List ℕ) (n : ℕ) → n < length i → AllPass test (take n i) → test (get_or i n 0) ≡ false → IsRun test i (take n i) (drop n i)
run_here test i n lt so_far here = record { is = sym (take-append-drop n i); passes = so_far; ends = heads_drop test i n lt here }

pub run_all : (test : ℕ → Bool) (i : List ℕ) (n : ℕ) → length i ≤ n → AllPass test (take n i) → IsRun test i i (drop (length i) i)
run_all test i n le so_far = record {
  is = rw (drop-length i, append-nil i) refl;
  passes = subst (AllPass test) (take_all n i le) so_far;
  ends = rw (drop-length i) refl;
}

pub ruleset front_steps = (pass_more, run_here, run_all)
