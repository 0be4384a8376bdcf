use Rattle.std.proofs.Common.{◌≡◌, ◌∙◌, ◌%◌, ℕ, List, Option, Some, set, ap, sym, ◌++◌, ◌∷◌, [], true, length, rules, arith}
use Rattle.std.proofs.lemmas.Grind.{common_steps}
use Rattle.std.specs.HashSet.{contains}
use Rattle.std.specs.Prelude.{is_some, nat_le}
use Rattle.wy_items.specs.few.Signed.{last_of, same_key}
use Rattle.wy_items.proofs.few_lemmas.SignedLemmas.{last_next, listed_next}
use Rattle.wy_items.proofs.few.signed.list.Goals as goal

pub returns-in_ok-insert-clause-set : goal.returns-in_ok-insert-clause-set
returns-in_ok-insert-clause-set c =
    let old = c.args.set.now.keys.items in
    let new = c.push.new.self.items in
    let same : c.note_few.new.set.last ≡ c.args.set.now.last = search rules in
    let many : nat_le 80 (length old) ≡ true = search rules in
    let put : new ≡ old ++ (c.args.k, c.args.holds) ∷ [] = search rules in
    let more : nat_le 81 (length new) ≡ true = grind (arith, common_steps) in
    record {
      table = listed_next (contains same_key c.note_few.new.set.table) (contains same_key c.insert.new.self) old new (c.args.k, c.args.holds) c.in_ok-note_few.ensures.table many more c.in_ok-insert.ensures.updates.0 put;
      many = search rules;
      last = λ p none. last_next old new (c.args.k, c.args.holds) c.args.set.now.last c.in_ok-place.place c.requires.set.many c.requires.set.last put p
          (ap (λ (ls : List (Option ℕ)). is_some (last_of (set ls (c.args.k % 128) (Some c.in_ok-place.place)) p.0)) (sym same) ∙ none);
    }
