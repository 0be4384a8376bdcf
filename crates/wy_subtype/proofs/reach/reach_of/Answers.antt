use Rattle.std.proofs.Common.{◌≡◌, ◌∙◌, sym, subst, ap, ℕ, zero, suc, ◌+◌, ◌≤◌, length, List, [], ◌∷◌, Some, None, arith}
use Rattle.std.specs.Prelude.{slice_get, Ok, Err, IsErrAnd}
use Rattle.std.specs.declared.result.Result.{Result}
use Rattle.std.proofs.lemmas.List.{length_push}
use Rattle.wy_canon.specs.wy_types.declared.conjuncts.Signed.{Signed}
use Rattle.wy_canon.specs.wy_types.declared.conjuncts.Conjunct.{Conjunct}
use Rattle.wy_canon.specs.wy_types.Claims.{EachOf}
use Rattle.wy_canon.specs.wy_types.Reach.{Reaches, IsNeeded, IsWide}
use Rattle.wy_canon.specs.declared.fault.TypeFault.{TypeFault}
use Rattle.wy_subtype.specs.declared.reach.Reach.{Reach}
use Rattle.wy_subtype.specs.Numbers.{AreAllAt}
use Rattle.wy_subtype.specs.Known.{options_of, IsKnown, asking, WideOnly}
use Rattle.wy_subtype.proofs.NumberLemmas.{each_get}
use Rattle.wy_subtype.proofs.KnownLemmas.{needed_at, known_asked, more_conjuncts}
use Rattle.wy_subtype.proofs.RefusalLemmas.{wide_map}
use Rattle.wy_subtype.proofs.reach.reach_of.Goals as goal

pub add_options-requires-clause-needed : goal.add_options-requires-clause-needed
add_options-requires-clause-needed c =
    let x : Conjunct ℕ = c.in_ok-c-in-Some.c in
    let at : slice_get c.loop-j.reach.conjuncts c.loop-j.j ≡ Some x = subst (λ (y : Conjunct ℕ). slice_get c.loop-j.reach.conjuncts c.loop-j.j ≡ Some y) (sym c.in_ok-c-in-Some.ensures.value) (sym c.in-Some.ensures.value) in
    let is : c.as_slice.result.now ≡ options_of c.args.table.now c.args.depth x = c.as_slice.ensures ∙ c.in_ok-options.ensures.value in
    subst (λ (os : List (List (List (List (Signed ℕ))))). EachOf (EachOf (EachOf (IsNeeded c.args.table.now c.args.depth c.args.first.now))) os) (sym is) (needed_at c.args.table.now c.args.depth c.args.first.now c.loop-j.reach c.loop-j.j x c.loop-j.invariant.known at)

pub few_options-requires : goal.few_options-requires
few_options-requires c =
    let x : Conjunct ℕ = c.in_ok-c-in-Some.c in
    let at : slice_get c.loop-j.reach.conjuncts c.loop-j.j ≡ Some x = subst (λ (y : Conjunct ℕ). slice_get c.loop-j.reach.conjuncts c.loop-j.j ≡ Some y) (sym c.in_ok-c-in-Some.ensures.value) (sym c.in-Some.ensures.value) in
    each_get (Reaches c.args.table.now c.args.depth c.args.first.now) c.loop-j.reach.conjuncts c.loop-j.j x c.loop-j.invariant.known.reached at

pub loop-j-preserved : goal.loop-j-preserved
loop-j-preserved c =
    let x : Conjunct ℕ = c.in_ok-c-in-Some.c in
    let at : slice_get c.loop-j.reach.conjuncts c.loop-j.j ≡ Some x = subst (λ (y : Conjunct ℕ). slice_get c.loop-j.reach.conjuncts c.loop-j.j ≡ Some y) (sym c.in_ok-c-in-Some.ensures.value) (sym c.in-Some.ensures.value) in
    let is : c.as_slice.result.now ≡ options_of c.args.table.now c.args.depth x = c.as_slice.ensures ∙ c.in_ok-options.ensures.value in
    let g = c.in_ok-grown.field-0 in
    let i = c.in_ok-grown.ensures.known in
    let v = c.loop-j.invariant in
    let made : c.in_ok-reach.reach ≡ asking g.reach g.numbers = c.in_ok-reach.ensures.value in
    let numbered : AreAllAt g.reach.parts g.numbers (options_of c.args.table.now c.args.depth x) = subst (λ (os : List (List (List (List (Signed ℕ))))). AreAllAt g.reach.parts g.numbers os) is i.at in
    let many = more_conjuncts c.loop-j.reach g.reach x c.loop-j.j at i.grows in
    let n : ℕ = c.in_ok-started.field-0.number in
    let begins : slice_get g.reach.parts n ≡ Some c.args.first.now = i.grows.parts n c.args.first.now v.begins in
    record {
      known = subst (λ (r : Reach). IsKnown c.args.table.now c.args.depth c.args.first.now r) (sym made) (known_asked c.args.table.now c.args.depth c.args.first.now c.loop-j.reach g.reach x g.numbers c.loop-j.j at v.count c.in_ok-options.ensures.few i.known i.grows numbered);
      count = ap (λ (r : Reach). length r.asks) made ∙ length_push g.reach.asks g.numbers ∙ ap (λ (n : ℕ). n + 1) (ap length i.grows.asks ∙ v.count);
      many = subst (λ (r : Reach). c.loop-j.j + 1 ≤ length r.conjuncts) (sym made) many;
      begins = subst (λ (r : Reach). slice_get r.parts n ≡ Some c.args.first.now) (sym made) begins;
    }

get_none : {X : Type 0} (xs : List X) (j : ℕ) → slice_get xs j ≡ None → length xs ≤ j
get_none [] j e = omega arith
get_none (x ∷ xs) zero e = absurd cc
get_none (x ∷ xs) (suc j) e = let r = get_none xs j e in omega (arith, r)

pub returns-in-None-clause-known : goal.returns-in-None-clause-known
returns-in-None-clause-known c =
    let v = c.loop-j.invariant in
    let past : length c.loop-j.reach.conjuncts ≤ c.loop-j.j = get_none c.loop-j.reach.conjuncts c.loop-j.j (sym c.in-None.ensures.value) in
    record {
      known = v.known;
      full = omega (arith, v.count, v.many, past);
      few = omega (arith, past, c.loop-j-test.true);
      begins = v.begins;
    }

-- a refusal that is handed on
wide_on : {X : Type 0} (Y : Type 0) (e : TypeFault) (r : Result X TypeFault) (W : Type 0) → (let q : Result Y TypeFault = Err e in WideOnly q W) → IsErrAnd r (λ f. f ≡ e) → WideOnly r W
wide_on Y e (Ok x) W h is = tt
wide_on {X} Y e (Err f) W h is = subst (λ (g : TypeFault). (let q : Result X TypeFault = Err g in WideOnly q W)) (sym is) (turn e h)
  where
    turn : (g : TypeFault) → (let q : Result Y TypeFault = Err g in WideOnly q W) → (let q : Result X TypeFault = Err g in WideOnly q W)
    turn g h = wide_map Y X g W W (λ w. w) h

pub returns-in_err-options-clause-wide : goal.returns-in_err-options-clause-wide
returns-in_err-options-clause-wide c =
    wide_on (List (List (List (List (Signed ℕ))))) c.in_err-options.field-0.0 c.from_residual-in_err-options.result (IsWide c.args.table.now c.args.depth c.args.first.now) c.in_err-options.ensures.wide c.from_residual-in_err-options.ensures.1
