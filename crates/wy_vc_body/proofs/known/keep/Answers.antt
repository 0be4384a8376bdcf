use Rattle.std.proofs.Common.{refl}
use Rattle.wy_vc_body.proofs.KnownLemmas.{unnamed_joined, unnamed_seen}
use Rattle.wy_vc_body.proofs.known.keep.Goals as goal

pub returns-clause-joined : goal.returns-clause-joined
returns-clause-joined c = unnamed_joined c.args.maker.now.terms c.args.joined.now _ c.first_term-term.result c.requires.joined (c.first_term-term.ensures.within c.args.maker.now.terms c.requires.paths) refl c.in_ok-push.ensures.items

pub returns-clause-value : goal.returns-clause-value
returns-clause-value c =
    unnamed_seen c.args.maker.now.terms c.args.maker.now.count c.args.joined.now (record { here = record { vars = c.push.new.self; set = c.push-2.new.self }; names = c.args.joined.now.names }) _ c.args.x c.first_term-term.result c.set_on_all-has.result (c.first_term-term.ensures.value c.args.maker.now.terms) (c.set_on_all-has.ensures.value c.args.maker.now.terms) refl
    c.in_ok-push.ensures.items c.in_ok-push-2.ensures.items
