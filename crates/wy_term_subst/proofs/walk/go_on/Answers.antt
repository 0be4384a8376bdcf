use Rattle.std.proofs.Common.{◌≡◌, ◌++◌, [], ◌∷◌, ◌∙◌, ℕ, List, refl, sym, ap, subst, length, rules}
use Rattle.wy_term.specs.Term.{Term}
use Rattle.wy_term.specs.Nodes.{tree_at}
use Rattle.wy_term_subst.specs.declared.walk.Open.{Open}
use Rattle.wy_term_subst.specs.Substitution.{env_at, put}
use Rattle.wy_term_subst.specs.Walk.{env_in, next_of, AreWaiting, Ask, ask_of, Waits, next_ask}
use Rattle.wy_term_subst.proofs.ScopeLemmas.{grows_length}
use Rattle.wy_term_subst.proofs.WalkLemmas.{answers_more, open_kept, waiting_push, answers_kept, next_kept, waits_push}
use Rattle.wy_term_subst.proofs.StepLemmas.{env_if, fits_kept, waits_enlarged, remembers_enlarged}
use Rattle.wy_term_subst.proofs.walk.go_on.Goals as goal

pub returns-in_ok-push-in-Some-clause-leads : goal.returns-in_ok-push-in-Some-clause-leads
returns-in_ok-push-in-Some-clause-leads c = λ u base first avoids g.
    let nodes = c.args.terms.now in
    let ss = c.args.walk.now.scopes.items in
    let current = c.args.current in
    let k = length current.images.items in
    let inside = ap (env_in nodes ss) c.requires.scope ∙ env_if nodes ss k current.outer current.inner in
    let pushed : c.push.new.self.items ≡ current.images.items ++ c.in-Some.image ∷ [] = search rules in
    let still = c.in-Some.ensures.still u g.stands.remembers in
    record {
      ask = g.ask;
      now = g.now;
      stands = g.stands;
      answers = answers_more nodes ss u base current _ g.ask c.in-Some.image g.now g.now c.requires.more refl refl refl refl refl refl pushed (ap (λ (j : ℕ). put u (tree_at nodes j) (env_at k (env_in nodes ss current.outer) (env_in nodes ss current.inner)) g.now) (sym c.requires.part) ∙ (ap (λ (e : List (Term × Term)). put u (tree_at nodes c.args.part) e g.now) (sym inside) ∙ still g.now)) g.answers;
    }

pub returns-in_ok-push-in-None-clause-fits : goal.returns-in_ok-push-in-None-clause-fits
returns-in_ok-push-in-None-clause-fits c =
    let old = c.args.terms.now in
    let new = c.opened.new.terms in
    let w = c.args.walk.now in
    let v = c.opened.new.walk in
    let m = length w.scopes.items in
    let n = length v.scopes.items in
    let f = fits_kept old new w v c.in_ok-inside-in-None.inside.inner c.in_ok-inside-in-None.ensures.kept c.requires.fits c.in_ok-inside-in-None.ensures.enlarges in
    let pushed : c.push-in-None.new.self.items ≡ v.waiting.items ++ c.args.current ∷ [] = search rules in
    let is = open_kept old new m n c.args.current c.in_ok-inside-in-None.ensures.kept (grows_length w.scopes.items v.scopes.items c.in_ok-inside-in-None.ensures.enlarges.grows) c.requires.current in
    (record { scopes = f.scopes; waiting = subst (λ (os : List Open). AreWaiting new n os) (sym pushed) (waiting_push new n v.waiting.items c.args.current f.waiting is c.requires.more); made = f.made }, c.in_ok-inside-in-None.ensures.current)

pub returns-in_ok-push-in-None-clause-leads : goal.returns-in_ok-push-in-None-clause-leads
returns-in_ok-push-in-None-clause-leads c = λ u base first avoids g.
    let old = c.args.terms.now in
    let new = c.opened.new.terms in
    let w = c.args.walk.now in
    let v = c.opened.new.walk in
    let ss = w.scopes.items in
    let more = v.scopes.items in
    let current = c.args.current in
    let k = length current.images.items in
    let kept = c.in_ok-inside-in-None.ensures.kept in
    let enlarges = c.in_ok-inside-in-None.ensures.enlarges in
    let below = c.requires.fits.scopes in
    let opens = c.in_ok-inside-in-None.ensures.value u base g.now avoids g.stands.counts g.stands.count in
    let inside = ap (env_in old ss) c.requires.scope ∙ env_if old ss k current.outer current.inner in
    let pushed : c.push-in-None.new.self.items ≡ v.waiting.items ++ current ∷ [] = search rules in
    let asked : ask_of (tree_at old c.args.part) (env_in old ss c.args.scope) g.now ≡ next_ask old ss current g.now =
    ap (λ (j : ℕ). ask_of (tree_at old j) (env_in old ss c.args.scope) g.now) c.requires.part ∙ ap (λ (e : List (Term × Term)). ask_of (tree_at old (next_of current)) e g.now) inside in
    let next = next_kept old new ss more current g.now kept enlarges.grows below c.requires.current c.requires.more in
    let waits = waits_enlarged old new w v c.in_ok-inside-in-None.inside.inner u base first g.ask kept c.requires.fits enlarges g.stands.waits in
    let answers = answers_kept old new ss more u base current g.ask g.now kept enlarges.grows below c.requires.current g.answers in
    let all = waits_push new more u base v.waiting.items current first g.ask g.now waits answers in
    let all_waits = subst (λ (q : Ask). Waits new more u base (v.waiting.items ++ current ∷ []) first q) (next ∙ sym asked) all in
    record {
      ask = ask_of (tree_at old c.args.part) (env_in old ss c.args.scope) g.now;
      now = opens.now;
      stands = record {
        counts = opens.counts;
        count = opens.count;
        waits = subst (λ (os : List Open). Waits new more u base os first (ask_of (tree_at old c.args.part) (env_in old ss c.args.scope) g.now)) (sym pushed) all_waits;
        remembers = remembers_enlarged old new w v c.in_ok-inside-in-None.inside.inner u kept c.requires.fits enlarges g.stands.remembers;
      };
      answers = opens.answers;
    }
