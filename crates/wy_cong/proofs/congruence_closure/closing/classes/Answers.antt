use Rattle.std.specs.Prelude.{MatchOption}
use Rattle.std.proofs.Common.{◌≡◌, List, ℕ, length, Option, sym, ap, subst, ◌∙◌}
use Rattle.wy_cong.specs.congruence_closure.Congruence.{AreBetween, IsSound}
use Rattle.wy_cong.specs.congruence_closure.Found.{AreJoined, IsClosed, IsApart, join_of, joined_by}
use Rattle.wy_cong.proofs.congruence_closure_lemmas.LabelLemmas.{sound_first, length_by, sound_each, joined_each, length_joined, apart_sound, joined_kept, least}
use Rattle.wy_cong.proofs.congruence_closure.closing.classes.Goals as goal

pub loop-round-init : goal.loop-round-init
loop-round-init c =
    let shapes = c.args.shapes.now in
    let es = c.args.equations.now in
    let first = c.in_ok-first.first in
    let long : length first ≡ length shapes = c.in_ok-first.ensures.count in
    let between : AreBetween (length first) es = subst (λ (n : ℕ). AreBetween n es) (sym long) c.requires.between in
    let is : c.in_ok-labels.labels ≡ joined_by first es = c.in_ok-labels.ensures.value in
    record {
      count = ap length is ∙ length_by first es ∙ long;
      sound = subst (λ (l : List ℕ). IsSound shapes es l) (sym is) (sound_each shapes es first between (sound_first shapes es first (length shapes) long c.in_ok-first.ensures.own));
      joined = subst (λ (l : List ℕ). AreJoined (length es) es l) (sym is) (joined_each first es between);
    }

pub loop-round-preserved : goal.loop-round-preserved
loop-round-preserved c =
    let shapes = c.args.shapes.now in
    let es = c.args.equations.now in
    let labels = c.loop-round.labels in
    let p = c.in-Some.pair in
    let made = c.in_ok-labels-in-Some.labels in
    let long : length labels ≡ length shapes = c.loop-round.invariant.count in
    let is : made ≡ join_of labels p.0 p.1 = c.in_ok-labels-in-Some.ensures.value ∙ ap (λ (l : List ℕ). join_of l p.0 p.1) c.as_slice-in-Some.ensures in
    let seen = c.as_slice.result.now in
    let found : IsApart shapes seen p = subst (λ (o : Option (ℕ × ℕ)). MatchOption o (IsClosed shapes seen) (λ q. IsApart shapes seen q)) c.in-Some.is c.in_ok-two_apart.ensures.apart in
    let apart : IsApart shapes labels p = subst (λ (l : List ℕ). IsApart shapes l p) c.as_slice.ensures found in
    let between : AreBetween (length labels) es = subst (λ (n : ℕ). AreBetween n es) (sym long) c.requires.between in
    record {
      count = ap length is ∙ length_joined labels p.0 p.1 ∙ long;
      sound = subst (λ (l : List ℕ). IsSound shapes es l) (sym is) (apart_sound shapes es labels p c.requires.within long c.loop-round.invariant.sound apart);
      joined = subst (λ (l : List ℕ). AreJoined (length es) es l) (sym is) (joined_kept es labels (length es) p.0 p.1 between c.loop-round.invariant.joined);
    }

pub returns-in-None-clause-least : goal.returns-in-None-clause-least
returns-in-None-clause-least c =
    let shapes = c.args.shapes.now in
    let seen = c.as_slice.result.now in
    let found : IsClosed shapes seen = subst (λ (o : Option (ℕ × ℕ)). MatchOption o (IsClosed shapes seen) (λ q. IsApart shapes seen q)) c.in-None.is c.in_ok-two_apart.ensures.apart in
    let closed : IsClosed shapes c.loop-round.labels = subst (λ (l : List ℕ). IsClosed shapes l) c.as_slice.ensures found in
    least shapes c.args.equations.now c.loop-round.labels c.loop-round.invariant.count c.loop-round.invariant.sound c.loop-round.invariant.joined closed

pub returns-in-None-2-clause-least : goal.returns-in-None-2-clause-least
returns-in-None-2-clause-least c =
    let shapes = c.args.shapes.now in
    let seen = c.as_slice-2.result.now in
    let found : IsClosed shapes seen = subst (λ (o : Option (ℕ × ℕ)). MatchOption o (IsClosed shapes seen) (λ q. IsApart shapes seen q)) c.in-None-2.is c.in_ok-two_apart-2.ensures.apart in
    let closed : IsClosed shapes c.loop-round.labels = subst (λ (l : List ℕ). IsClosed shapes l) c.as_slice-2.ensures found in
    least shapes c.args.equations.now c.loop-round.labels c.loop-round.invariant.count c.loop-round.invariant.sound c.loop-round.invariant.joined closed
