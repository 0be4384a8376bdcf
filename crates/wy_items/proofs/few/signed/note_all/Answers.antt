use Rattle.std.proofs.Common.{◌≡◌, ◌+◌, ◌++◌, ◌∷◌, [], take, false, arith}
use Rattle.std.proofs.lemmas.Grind.{common_steps}
use Rattle.std.specs.HashSet.{contains}
use Rattle.std.specs.Prelude.{slice_index_or}
use Rattle.wy_items.specs.few.Signed.{same_key}
use Rattle.wy_items.proofs.few_lemmas.SignedLemmas.{noted_next}
use Rattle.wy_items.proofs.few.signed.note_all.Goals as goal

pub loop-key-preserved : goal.loop-key-preserved
loop-key-preserved c =
    let keys = c.args.keys.now in
    let i = c.loop-key.key-index in
    let key = slice_index_or keys i (0, false) in
    let more : take (i + 1) keys ≡ take i keys ++ key ∷ [] = grind (arith, common_steps) in
    noted_next (contains same_key c.args.table.now) (contains same_key c.loop-key.table) (contains same_key c.insert.new.self) (take i keys) (take (i + 1) keys) key c.loop-key.invariant c.in_ok-insert.ensures.updates.0 more
