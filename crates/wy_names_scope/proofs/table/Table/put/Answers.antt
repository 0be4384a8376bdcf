use Rattle.std.proofs.Common.{◌≡◌, false}
use Rattle.std.specs.Str.{bytes_eq}
use Rattle.indexmap.proofs.CallerLemmas.{insert_entry-new}
use Rattle.wy_names_scope.specs.Scope.{has, entry_of}
use Rattle.wy_names_scope.proofs.ScopeLemmas.{put-last, none-of}
use Rattle.wy_names_scope.proofs.table.Table.put.Goals as goal

pub returns : goal.returns
returns c =
    let h : has c.args.self.now c.args.name.now ≡ false = cc (c.has.ensures.value, c.if-has.false) in
    let none = none-of (entry_of c.args.self.now c.args.name.now) h in
    let new = insert_entry-new bytes_eq c.self.inside.entries c.in_ok-name.name c.args.entry (cc (none, c.self.view_is, c.in_ok-name.ensures.value)) in
    let last = put-last c.args.self.now c.args.name.now c.args.entry h in
    record { value = cc (new, last, c.self.view_is, c.in_ok-name.ensures.value, c.in_ok-insert.ensures.entries) }
