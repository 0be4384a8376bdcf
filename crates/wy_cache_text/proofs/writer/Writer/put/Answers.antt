use Rattle.std.proofs.Common.{rules, ◌≡◌, ◌<◌, ◌≤◌, ◌+◌, ◌∙◌, List, true, false, length, ℕ, bytes_eq, ap, refl, ◌++◌}
use Rattle.std.specs.HashSet.{contains_by}
use Rattle.wy_cache_text.specs.Written.{row_text}
use Rattle.wy_cache_text.specs.SoFar.{seen_row}
use Rattle.wy_cache_text.proofs.WrittenLemmas.{put_behind, put_again, put_too_long, put_here, set_more}
use Rattle.wy_cache_text.proofs.writer.Writer.put.Goals as goal

pub returns-then-self : goal.returns-then-self
returns-then-self c =
    let full : c.args.self.now.full ≡ true = search rules in
    record { value = λ rows so_far. put_behind rows (seen_row c.args.row) c.args.self.now full so_far }

pub returns-then-contains : goal.returns-then-contains
returns-then-contains c =
    let room : c.args.self.now.full ≡ false = search rules in
    let there : contains_by (λ k. bytes_eq c.args.row.key.items k.items) c.args.self.now.keys ≡ true = search rules in
    record { value = λ rows so_far. put_again rows (seen_row c.args.row) c.args.self.now room there so_far }

pub returns-then-len-gt-LIMIT : goal.returns-then-len-gt-LIMIT
returns-then-len-gt-LIMIT c =
    let room : c.args.self.now.full ≡ false = search rules in
    let new : contains_by (λ k. bytes_eq c.args.row.key.items k.items) c.args.self.now.keys ≡ false = search rules in
    let text : c.in_ok-text.text.items ≡ row_text (seen_row c.args.row) = search rules in
    let long : 16777212 < length c.args.self.now.out.items + length c.in_ok-text.text.items = search rules in
    record { value = λ rows so_far. put_too_long rows (seen_row c.args.row) c.args.self.now _ c.in_ok-text.text.items room new text long refl refl so_far }

pub returns : goal.returns
returns c =
    let room : c.args.self.now.full ≡ false = search rules in
    let new : contains_by (λ k. bytes_eq c.args.row.key.items k.items) c.args.self.now.keys ≡ false = search rules in
    let text : c.in_ok-text.text.items ≡ row_text (seen_row c.args.row) = search rules in
    let short : length c.args.self.now.out.items + length c.in_ok-text.text.items ≤ 16777212 = search rules in
    let out = c.in_ok-extend_from_slice.ensures.items ∙ ap (λ (i : List ℕ). c.args.self.now.out.items ++ i) c.as_slice-2.ensures.value in
    let keys = set_more (λ k. k.items) c.args.row.key c.args.self.now.keys c.insert.new.self c.in_ok-insert.ensures.updates in
    record { value = λ rows so_far. put_here rows (seen_row c.args.row) c.args.self.now _ c.in_ok-text.text.items room new text short room out keys so_far }
