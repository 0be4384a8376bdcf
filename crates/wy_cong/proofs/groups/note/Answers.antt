use Rattle.std.proofs.Common.{◌≡◌, nat_eq, rules}
use Rattle.std.specs.HashMap.{get}
use Rattle.wy_cong.specs.Signatures.{with_class}
use Rattle.wy_cong.proofs.SignatureLemmas.{note_here, note_kept, note_told}
use Rattle.wy_cong.proofs.groups.note.Goals as goal

pub returns-clause-here : goal.returns-clause-here
returns-clause-here c =
    let is : c.with_class-group.result ≡ with_class (get nat_eq c.args.groups.now.found c.args.key) c.args.class = search rules in
    note_here (get nat_eq c.args.groups.now.found) (get nat_eq c.put.new.found) c.args.key c.args.class c.with_class-group.result is c.in_ok-put.ensures

pub returns-clause-kept : goal.returns-clause-kept
returns-clause-kept c =
    let is : c.with_class-group.result ≡ with_class (get nat_eq c.args.groups.now.found c.args.key) c.args.class = search rules in
    note_kept (get nat_eq c.args.groups.now.found) (get nat_eq c.put.new.found) c.args.key c.args.class c.with_class-group.result is c.in_ok-put.ensures

pub returns-clause-told : goal.returns-clause-told
returns-clause-told c =
    let is : c.with_class-group.result ≡ with_class (get nat_eq c.args.groups.now.found c.args.key) c.args.class = search rules in
    note_told (get nat_eq c.args.groups.now.found) (get nat_eq c.put.new.found) c.args.key c.args.class c.with_class-group.result is c.in_ok-put.ensures c.args.groups.now.parted c.parted_by-groups.result c.parted_by-groups.ensures
