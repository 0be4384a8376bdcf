use Rattle.std.proofs.Common.{◌≡◌, map, take}
use Rattle.wy_lin.specs.Seen.{seen_part}
use Rattle.wy_cong.specs.wy_search_spec.Bounds.{numbered_part}
use Rattle.wy_term.specs.Nodes.{tree_at}
use Rattle.wy_cong.specs.Seen.{terms_of}
use Rattle.wy_search_bounds.proofs.forms.numbered.Given as goal

abbrev pub invariant-loop-part : goal.invariant-loop-part
invariant-loop-part l = l.parts.items ≡ map (numbered_part (terms_of (tree_at l.terms) l.present)) (map (seen_part (tree_at l.terms)) (take l.part-index l.form.parts.items))
