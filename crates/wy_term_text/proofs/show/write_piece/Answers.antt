use Rattle.std.proofs.Common.{◌≡◌, ◌++◌, All, length, reverse, rules, arith}
use Rattle.std.proofs.lemmas.Grind.{common_steps}
use Rattle.wy_term.specs.Nodes.{tree_at}
use Rattle.wy_term_text.specs.show.TextView.{piece_text, all_text, IsPieceBelow}
use Rattle.wy_term_text.proofs.show_lemmas.TextLemmas.{written_text, written_below}
use Rattle.wy_term_text.proofs.show.write_piece.Goals as goal

pub returns-in_ok-append-in_default : goal.returns-in_ok-append-in_default
returns-in_ok-append-in_default c =
    let turns : c.reverse.new.self.items ≡ reverse c.in_ok-pieces-in_default.pieces.items = first_of (search rules, cc, grind (arith, common_steps)) in
    let makes : c.append.new.self.items ≡ c.args.todo.now.items ++ c.reverse.new.self.items = first_of (search rules, cc, grind (arith, common_steps)) in
    let same : all_text (tree_at c.args.terms.now) c.in_ok-pieces-in_default.pieces.items ≡ piece_text (tree_at c.args.terms.now) c.args.piece = first_of (search rules, cc, grind (arith, common_steps)) in
    let below : All (IsPieceBelow (length c.args.terms.now)) c.in_ok-pieces-in_default.pieces.items = first_of (search rules, grind (arith, common_steps)) in
    record {
      value = written_text (tree_at c.args.terms.now) c.args.out.now.items c.args.todo.now.items c.in_ok-pieces-in_default.pieces.items c.reverse.new.self.items c.append.new.self.items c.args.piece turns makes same;
      todo = written_below (length c.args.terms.now) c.args.todo.now.items c.in_ok-pieces-in_default.pieces.items c.reverse.new.self.items c.append.new.self.items turns makes c.requires.todo below;
    }
