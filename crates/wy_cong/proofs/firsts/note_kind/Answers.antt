use Rattle.std.proofs.Common.{◌≡◌, ◌∙◌, None, Some, ap, nat_eq, rules}
use Rattle.std.specs.HashMap.{get}
use Rattle.wy_term.specs.Nodes.{plain_kind}
use Rattle.wy_cong.specs.Firsts.{kind_at}
use Rattle.wy_cong.proofs.FirstKindLemmas.{put_here, put_kept}
use Rattle.wy_cong.proofs.firsts.note_kind.Goals as goal

pub returns-in-Some-clause-here : goal.returns-in-Some-clause-here
returns-in-Some-clause-here c =
    let found : get nat_eq c.args.firsts.now c.args.class ≡ Some c.in-Some.first = search rules in
    λ un. ap (kind_at c.args.kinds.now) found ∙ c.is_other.ensures un

pub returns-in-Some-clause-kept : goal.returns-in-Some-clause-kept
returns-in-Some-clause-kept c = λ k l h. h

pub returns-in_ok-put-in-None-clause-here : goal.returns-in_ok-put-in-None-clause-here
returns-in_ok-put-in-None-clause-here c = λ un. put_here c.args.kinds.now (get nat_eq c.args.firsts.now) (get nat_eq c.put.new.firsts) c.args.class c.args.place (plain_kind c.args.kind.now) c.requires c.in_ok-put-in-None.ensures

pub returns-in_ok-put-in-None-clause-kept : goal.returns-in_ok-put-in-None-clause-kept
returns-in_ok-put-in-None-clause-kept c =
    let none : get nat_eq c.args.firsts.now c.args.class ≡ None = search rules in
    put_kept c.args.kinds.now (get nat_eq c.args.firsts.now) (get nat_eq c.put.new.firsts) c.args.class c.args.place (plain_kind c.args.kind.now) c.requires c.in_ok-put-in-None.ensures none
