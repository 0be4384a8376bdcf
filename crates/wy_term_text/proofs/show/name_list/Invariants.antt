use Rattle.std.proofs.Common.{◌≡◌, ◌++◌, codes, drop, string_bytes}
use Rattle.wy_term_text.specs.show.Text.{behind}
use Rattle.wy_term_text.proofs.show.name_list.Given as goal

abbrev pub invariant-loop-name : goal.invariant-loop-name
invariant-loop-name l = string_bytes l.text ++ behind (codes ", ") (drop l.name-index l.others) ≡ string_bytes l.initial.text ++ behind (codes ", ") l.others
