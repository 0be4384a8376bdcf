use Rattle.std.proofs.Common.{◌≡◌, ◌∙◌, ◌+◌, ◌-◌, ℕ, suc, List, Some, length, map, refl, sym, ap, subst, arith}
use Rattle.std.specs.Prelude.{IfSome, option_map}
use Rattle.wy_core.specs.CoreSeen.{seen_core}
use Rattle.wy_value.specs.Seen.{seen}
use Rattle.wy_value.specs.declared.value.Value.{Value}
use Rattle.wy_probe.specs.Comes.{ComesTo, probe_of}
use Rattle.wy_probe.specs.Tables.{table_of}
use Rattle.wy_probe.specs.Trials.{FoundIn, first_of, picked}
use Rattle.wy_probe.specs.Tuples.{Fit, first_one, next_tuple}
use Rattle.wy_probe.specs.declared.trials.Trial.{Trial}
use Rattle.wy_probe.specs.declared.trials.Trial.TheVariants as trial
use Rattle.wy_probe.proofs.TriedLemmas.{moved, stands_first, stands_found, stands_met, stands_next, stands_undecided}
use Rattle.wy_probe.proofs.probing.probe_lists.Goals as goal

pub loop-number-init : goal.loop-number-init
loop-number-init c =
    let lists = table_of c.args.lists.now in
    let p = probe_of (seen_core c.args.core.now) c.args.entry c.args.ticks in
    let same : c.as_slice.result.now ≡ map length lists = c.as_slice.ensures.value ∙ c.in_ok-lengths.ensures.value in
    record {
      fit = subst (λ (l : List ℕ). IfSome c.in_ok-next.next (λ v. Fit l v.items)) same c.in_ok-next.ensures.fit;
      stands = stands_first p lists c.args.n (option_map (λ v. v.items) c.in_ok-next.next) (c.in_ok-next.ensures.value ∙ ap first_one same);
      number = refl;
    }

pub returns-in-Faults : goal.returns-in-Faults
returns-in-Faults c =
    let lists = table_of c.args.lists.now in
    let p = probe_of (seen_core c.args.core.now) c.args.entry c.args.ticks in
    let n = c.args.n in
    let t = c.loop-number.tally in
    let tuple = c.in-Some.tuple.items in
    let vs = map seen c.in_ok-args.args.items in
    let next : option_map (λ v. v.items) c.loop-number.next ≡ Some tuple = ap (λ o. option_map (λ v. v.items) o) c.in-Some.is in
    let stands = moved p lists n _ (n - c.loop-number.number) _ (Some tuple) _ t.tried _ t.met _ t.undecided refl (sym next) refl refl refl c.loop-number.invariant.stands in
    let same : vs ≡ picked lists tuple = c.in_ok-args.ensures.value ∙ ap (picked lists) c.as_slice-in-loop-number.ensures.value in
    let came = subst (λ (x : Trial). ComesTo p (map seen c.as_slice-in-loop-number-2.result.now) x) c.in-Faults.is c.in_ok-kind.ensures.value in
    let comes = subst (λ (l : List Value). ComesTo p (map seen l) (trial.Faults c.in-Faults.kind c.in-Faults.at)) c.as_slice-in-loop-number-2.ensures.value came in
    let k = c.loop-number.invariant.number in
    let number : suc t.tried ≡ c.loop-number.number + 1 = omega (arith, k) in
    record {
      finds = subst (λ (j : ℕ). FoundIn p (first_of lists n) j vs c.in-Faults.kind c.in-Faults.at) number
          (stands_found p lists n c.loop-number.number tuple vs t.tried t.met t.undecided c.loop-number-test.true same stands c.in-Faults.kind c.in-Faults.at comes);
    }

pub counted-tally-requires-clause-met : goal.counted-tally-requires-clause-met
counted-tally-requires-clause-met c =
    let t = c.loop-number.tally in
    stands_met (probe_of (seen_core c.args.core.now) c.args.entry c.args.ticks) (table_of c.args.lists.now) c.args.n _ _ t.tried t.met t.undecided c.loop-number.invariant.stands

pub counted-tally-requires-clause-undecided : goal.counted-tally-requires-clause-undecided
counted-tally-requires-clause-undecided c =
    let t = c.loop-number.tally in
    stands_undecided (probe_of (seen_core c.args.core.now) c.args.entry c.args.ticks) (table_of c.args.lists.now) c.args.n _ _ t.tried t.met t.undecided c.loop-number.invariant.stands

pub loop-number-preserved : goal.loop-number-preserved
loop-number-preserved c =
    let lists = table_of c.args.lists.now in
    let p = probe_of (seen_core c.args.core.now) c.args.entry c.args.ticks in
    let n = c.args.n in
    let i = c.loop-number.number in
    let t = c.loop-number.tally in
    let s = c.counted-tally.result in
    let tuple = c.in-Some.tuple.items in
    let vs = map seen c.in_ok-args.args.items in
    let ns : c.as_slice-in-loop-number-3.result.now ≡ map length lists = c.as_slice-in-loop-number-3.ensures.value ∙ c.in_ok-lengths.ensures.value in
    let here : option_map (λ v. v.items) c.loop-number.next ≡ Some tuple = ap (λ o. option_map (λ v. v.items) o) c.in-Some.is in
    let stands = moved p lists n _ (n - i) _ (Some tuple) _ t.tried _ t.met _ t.undecided refl (sym here) refl refl refl c.loop-number.invariant.stands in
    let same : vs ≡ picked lists tuple = c.in_ok-args.ensures.value ∙ ap (picked lists) c.as_slice-in-loop-number.ensures.value in
    let came = subst (λ (x : Trial). ComesTo p (map seen c.as_slice-in-loop-number-2.result.now) x) c.in-Passes.is c.in_ok-kind.ensures.value in
    let comes = subst (λ (l : List Value). ComesTo p (map seen l) (trial.Passes c.in-Passes.met c.in-Passes.undecided)) c.as_slice-in-loop-number-2.ensures.value came in
    let went = stands_next p lists n i tuple vs t.tried t.met t.undecided c.loop-number-test.true same stands c.in-Passes.met c.in-Passes.undecided comes in
    let count : n - (i + 1) ≡ n - suc i = omega arith in
    let next : option_map (λ v. v.items) c.in_ok-next-2.next ≡ next_tuple (map length lists) tuple =
    c.in_ok-next-2.ensures.value ∙ (ap (λ l. next_tuple l c.as_slice-in-loop-number-4.result.now) ns ∙ ap (next_tuple (map length lists)) c.as_slice-in-loop-number-4.ensures.value) in
    let k = c.loop-number.invariant.number in
    let tried = c.counted-tally.ensures.tried in
    record {
      fit = subst (λ (l : List ℕ). IfSome c.in_ok-next-2.next (λ v. Fit l v.items)) ns c.in_ok-next-2.ensures.fit;
      stands = moved p lists n (n - suc i) (n - (i + 1)) _ (option_map (λ v. v.items) c.in_ok-next-2.next) _ s.tried _ s.met _ s.undecided count next tried c.counted-tally.ensures.met c.counted-tally.ensures.undecided went;
      number = omega (arith, k, tried);
    }
