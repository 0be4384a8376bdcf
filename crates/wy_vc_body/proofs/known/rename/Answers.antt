use Rattle.wy_vc_body.proofs.KnownLemmas.{renamed_joined, renamed_seen}
use Rattle.wy_vc_body.proofs.known.rename.Goals as goal

pub returns-clause-joined : goal.returns-clause-joined
returns-clause-joined c = renamed_joined c.args.maker.now.terms c.new_name.new.maker.terms c.args.joined.now _ c.args.x c.in_ok-name.name _ c.requires.joined c.in_ok-name.ensures.made c.in_ok-push.ensures.items c.in_ok-push-2.ensures.items

pub returns-clause-value : goal.returns-clause-value
returns-clause-value c =
    renamed_seen c.args.words.now c.args.maker.now.terms c.new_name.new.maker.terms c.args.maker.now.count c.new_name.new.maker.count c.args.joined.now (record { here = record { vars = c.push-2.new.self; set = c.push-3.new.self }; names = c.push.new.self }) _ c.args.x c.in_ok-name.name c.set_on_all-has.result c.requires.joined c.in_ok-name.ensures.made c.in_ok-name.ensures.count
    (c.set_on_all-has.ensures.value c.args.maker.now.terms) c.in_ok-push.ensures.items c.in_ok-push-2.ensures.items c.in_ok-push-3.ensures.items
