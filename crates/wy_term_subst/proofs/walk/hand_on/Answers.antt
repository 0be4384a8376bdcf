use Rattle.std.proofs.Common.{◌≡◌, ◌++◌, ◌∙◌, [], ◌∷◌, List, refl, ap, subst, length, rules}
use Rattle.wy_term_subst.specs.declared.walk.Open.{Open}
use Rattle.wy_term_subst.specs.Walk.{AreWaiting, Waits, answer}
use Rattle.wy_term_subst.proofs.WalkLemmas.{waiting_pop, waits_pop, answers_more, open_more}
use Rattle.wy_term_subst.proofs.walk.hand_on.Goals as goal

pub returns-in_ok-push-in-Some-clause-fits : goal.returns-in_ok-push-in-Some-clause-fits
returns-in_ok-push-in-Some-clause-fits c =
    let nodes = c.args._terms.now in
    let n = length c.args.walk.now.scopes.items in
    let outer = c.in-Some.outer in
    let taken : c.args.walk.now.waiting.items ≡ c.pop.new.self.items ++ outer ∷ [] = search rules in
    let pushed : c.push.new.self.items ≡ outer.images.items ++ c.args.image ∷ [] = search rules in
    let popped = waiting_pop nodes n c.pop.new.self.items outer (subst (λ (os : List Open). AreWaiting nodes n os) taken c.requires.fits.waiting) in
    (record { scopes = c.requires.fits.scopes; waiting = popped.0; made = c.requires.fits.made }, open_more nodes n outer _ c.args.image c.requires.within popped.2 refl refl refl refl pushed popped.1)

pub returns-in_ok-push-in-Some-clause-leads : goal.returns-in_ok-push-in-Some-clause-leads
returns-in_ok-push-in-Some-clause-leads c = λ u base first ask now stands e.
    let nodes = c.args._terms.now in
    let ss = c.args.walk.now.scopes.items in
    let n = length ss in
    let outer = c.in-Some.outer in
    let taken : c.args.walk.now.waiting.items ≡ c.pop.new.self.items ++ outer ∷ [] = search rules in
    let pushed : c.push.new.self.items ≡ outer.images.items ++ c.args.image ∷ [] = search rules in
    let popped = waiting_pop nodes n c.pop.new.self.items outer (subst (λ (os : List Open). AreWaiting nodes n os) taken c.requires.fits.waiting) in
    let last = waits_pop nodes ss u base c.pop.new.self.items outer first ask (subst (λ (os : List Open). Waits nodes ss u base os first ask) taken stands.waits) in
    record {
      ask = last.asked;
      now = now;
      stands = record { counts = stands.counts; count = stands.count; waits = last.waits; remembers = stands.remembers };
      answers = answers_more nodes ss u base outer _ last.asked c.args.image last.now now popped.2 refl refl refl refl refl refl pushed (ap (answer u) last.next ∙ e) last.answers;
    }
