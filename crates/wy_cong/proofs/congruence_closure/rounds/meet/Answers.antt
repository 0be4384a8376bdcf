use Rattle.std.proofs.Common.{◌≡◌, ℕ, cond, None, Some, Option, sym, ap, ◌∙◌}
use Rattle.std.specs.HashMap.{get}
use Rattle.std.proofs.lemmas.Bool.{eqb-true}
use Rattle.wy_cong.specs.congruence_closure.Congruence.{label_at}
use Rattle.wy_cong.specs.congruence_closure.Found.{same_pair, key_of}
use Rattle.wy_cong.proofs.congruence_closure_lemmas.KeyLemmas.{pair_of, pair_is, found_met, apart_met, keyed_more, found_more}
use Rattle.wy_cong.proofs.congruence_closure.rounds.meet.Goals as goal

pub returns-then-is_same : goal.returns-then-is_same
returns-then-is_same c =
    let labels = c.args.labels.now in
    let found : ℕ × ℕ → Option ℕ = get same_pair c.args.found.now in
    let key : pair_of c.label.result c.label-2.result ≡ key_of labels c.args.a c.args.b = pair_is c.label.result c.label-2.result (label_at labels c.args.a) (label_at labels c.args.b) c.label.ensures.value c.label-2.ensures.value in
    let is : found (key_of labels c.args.a c.args.b) ≡ Some c.in-Some.j.now = ap found (sym key) ∙ sym c.in-Some.ensures.value in
    let same : label_at labels c.args.i ≡ label_at labels c.in-Some.j.now = eqb-true (label_at labels c.args.i) (label_at labels c.in-Some.j.now) (sym c.is_same.ensures.value ∙ c.if-is_same.true) in
    record { apart = (c.requires.keyed, found_met c.args.shapes.now labels found c.args.i c.args.a c.args.b c.in-Some.j.now c.requires.here is same c.requires.found) }

pub returns-else-is_same : goal.returns-else-is_same
returns-else-is_same c =
    let labels = c.args.labels.now in
    let found : ℕ × ℕ → Option ℕ = get same_pair c.args.found.now in
    let key : pair_of c.label.result c.label-2.result ≡ key_of labels c.args.a c.args.b = pair_is c.label.result c.label-2.result (label_at labels c.args.a) (label_at labels c.args.b) c.label.ensures.value c.label-2.ensures.value in
    let is : found (key_of labels c.args.a c.args.b) ≡ Some c.in-Some.j.now = ap found (sym key) ∙ sym c.in-Some.ensures.value in
    record { apart = apart_met c.args.shapes.now labels found c.args.i c.args.a c.args.b c.in-Some.j.now c.requires.here is c.requires.keyed }

pub returns-in_ok-insert-in-None : goal.returns-in_ok-insert-in-None
returns-in_ok-insert-in-None c =
    let shapes = c.args.shapes.now in
    let labels = c.args.labels.now in
    let a = c.args.a in
    let b = c.args.b in
    let found : ℕ × ℕ → Option ℕ = get same_pair c.args.found.now in
    let new : ℕ × ℕ → Option ℕ = get same_pair c.insert.new.self in
    let key : pair_of c.label.result c.label-2.result ≡ key_of labels a b = pair_is c.label.result c.label-2.result (label_at labels a) (label_at labels b) c.label.ensures.value c.label-2.ensures.value in
    let none : found (key_of labels a b) ≡ None = ap found (sym key) ∙ sym c.in-None.ensures.value in
    let puts : (k : ℕ × ℕ) → new k ≡ cond (same_pair (key_of labels a b) k) (Some c.args.i) (found k) = λ k. c.in_ok-insert-in-None.ensures.updates.0 k ∙ ap (λ (q : ℕ × ℕ). cond (same_pair q k) (Some c.args.i) (found k)) key in
    record {
      apart = (
        keyed_more shapes labels found new c.args.i a b c.requires.here puts c.requires.keyed,
        found_more shapes labels found new c.args.i a b c.requires.here puts none c.requires.found,
      );
    }
