-- What is written at the end of a run.
use Rattle.std.proofs.Common.{◌≡◌, inl, inr, ◌≤◌, ℕ, ◌+◌, Bool, List, [], ◌∷◌, ◌++◌, length, take, Option, Some, None, refl, sym, ap, ◌∙◌, subst, arith, append_assoc}
use Rattle.std.specs.Prelude.{Vec, Result, Ok, Err, OnErr}
use Rattle.std.specs.declared.alloc.Global.{Global}
use Rattle.std.proofs.lemmas.List.{append-nil, length-append}
use Rattle.std.proofs.Math.Seq.{take-append-add}
use Rattle.wy_value.specs.Datum.{Datum}
use Rattle.wy_port.specs.Count.{Rose}
use Rattle.wy_port.specs.Taken.{TookFront, with_taken}
use Rattle.wy_gen_laws.specs.wy_code_spec.step.Step.{State, Runs, Ended, Stuck}
use Rattle.wy_mach.specs.Running.{Finishes, HasTextOf}
use Rattle.wy_mach_run.specs.Running.{Closes, EndsSo, Finished, Leaves, WritesFront, closing, written}
use Rattle.wy_mach_run.specs.declared.end.RunEnd.{RunEnd}
use Rattle.wy_mach_run.specs.declared.end.RunEnd.TheVariants as end
use Rattle.wy_mach_run.specs.declared.end.RunEnd.TheVariants.{Done, OutFault}

-- ---- what was taken

taken_more : (known : Option (List ℕ)) (a b : List ℕ) → with_taken (with_taken known a) b ≡ with_taken known (a ++ b)
taken_more None a b = refl
taken_more (Some bytes) a b = ap (λ (all : List ℕ). Some all) (append_assoc bytes a b)

-- and so is a front of what comes behind all that is printed
front_behind : (before middle after : Option (List ℕ)) (a b : List ℕ) → middle ≡ with_taken before a → TookFront middle after b → TookFront before after (a ++ b)
front_behind before middle after a b so_far front = record {
  count = length a + front.count;
  within = omega (arith, front.within, length-append a b);
  took = front.took ∙ ap (λ (o : Option (List ℕ)). with_taken o (take front.count b)) so_far ∙ taken_more before a (take front.count b) ∙ ap (with_taken before) (sym (take-append-add a b front.count));
}

pub later_rose : (a b c : ℕ) → a ≤ b → Rose b c → Rose a c
later_rose a b c later (inl more) = inl (omega arith)
later_rose a b c later (inr last) = inr last

-- ---- ends

abbrev EndsWithText : Bool → Option (Vec ℕ Global) → ℕ → ℕ → Datum → Type 0
EndsWithText wanted text copies nodes v = HasTextOf wanted text v × Leaves copies nodes v

-- what is printed and then closed so is what is written
whole : (wanted : Bool) (text : Option (Vec ℕ Global)) (output : List ℕ) (v : Datum) → HasTextOf wanted text v → output ++ closing text ≡ written wanted output v
whole wanted None output v h = append-nil output ∙ ap (λ (b : Bool). written b output v) (sym h)
whole wanted (Some t) output v h = ap (λ (l : List ℕ). output ++ (l ++ 10 ∷ [])) h.1 ∙ ap (λ (b : Bool). written b output v) (sym h.0)

all_written : (wanted : Bool) (text : Option (Vec ℕ Global)) (copies nodes : ℕ) (before middle after : Option (List ℕ)) (st : State) → Finishes (EndsWithText wanted text copies nodes) before middle st → after ≡ with_taken middle (closing text) → Finished wanted copies nodes before after st
all_written wanted text copies nodes before middle after (Runs fr callers output) h took = h
all_written wanted text copies nodes before middle after (Ended v output) h took = (
  h.0.1,
  took ∙ (ap (λ (o : Option (List ℕ)). with_taken o (closing text)) h.1 ∙ (taken_more before output (closing text) ∙ ap (with_taken before) (whole wanted text output v h.0.0))),
)
all_written wanted text copies nodes before middle after Stuck h took = tt

front_written : (wanted : Bool) (text : Option (Vec ℕ Global)) (copies nodes : ℕ) (before middle after : Option (List ℕ)) (st : State) → Finishes (EndsWithText wanted text copies nodes) before middle st → TookFront middle after (closing text) → WritesFront wanted before after st
front_written wanted text copies nodes before middle after (Runs fr callers output) h front = absurd h
front_written wanted text copies nodes before middle after (Ended v output) h front =
    subst (TookFront before after) (whole wanted text output v h.0.0) (front_behind before middle after output (closing text) h.1 front)
front_written wanted text copies nodes before middle after Stuck h front = tt

-- the end of a run that is done
pub closes_so : (wanted : Bool) (text : Option (Vec ℕ Global)) (copies nodes : ℕ) (before middle after : Option (List ℕ)) (first failed fails : ℕ) (st : State) (e : RunEnd) → first ≤ failed
    → Finishes (EndsWithText wanted text copies nodes) before middle st → Closes text copies nodes middle after failed fails e → EndsSo wanted st before after first fails e
closes_so wanted text copies nodes before middle after first failed fails st (Done c n) later h closes =
    subst (λ m. Finished wanted m n before after st) (sym closes.0) (subst (λ m. Finished wanted copies m before after st) (sym closes.1) (all_written wanted text copies nodes before middle after st h closes.2))
closes_so wanted text copies nodes before middle after first failed fails st end.Spent later h closes = absurd closes
closes_so wanted text copies nodes before middle after first failed fails st OutFault later h closes = (front_written wanted text copies nodes before middle after st h closes.0, later_rose first failed fails later closes.1)

-- the second write failed
pub err_front : {A E : Type 0} (r : Result A E) (before middle after : Option (List ℕ)) (a b : List ℕ) → middle ≡ with_taken before a → OnErr r (TookFront middle after b) → OnErr r (TookFront before after (a ++ b))
err_front (Ok x) before middle after a b so_far h = tt
err_front (Err e) before middle after a b so_far h = front_behind before middle after a b so_far h
