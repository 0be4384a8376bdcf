use Rattle.std.proofs.Common.{◌≡◌, ◌↔◌, Bool, IsTrue, Result, rules, subst, sym}
use Rattle.std.specs.Prelude.{IfOk}
use Rattle.wy_data.specs.scan.Words.{IsWord}
use Rattle.wy_term.specs.wy_items.declared.memory.NoMemory.{NoMemory}
use Rattle.wy_prove_writable.proofs.RangeLemmas.{word_none, word_there}
use Rattle.wy_prove_writable.proofs.ranges.is_word.Goals as goal
use Rattle.wy_prove_writable.proofs.ranges.is_word.Goals.{in-Some, in-None}

pub returns : goal.returns
returns c =
    let name : c.as_bytes.result.now ≡ c.args.name.now = search rules in
    elim c.match-branch-2.branch [
      | in-Some w ↦
          let at = rw w.in-Some.is at c.in_ok-rest.ensures.value in
          subst (λ (r : Result Bool NoMemory). IfOk r (λ b. IsTrue b ↔ IsWord c.args.name.now)) (sym w.result-is)
          (word_there c.as_bytes.result.now c.args.name.now w.in-Some.field-0-0 w.in-Some.rest.now w.is_empty.result name at w.is_empty.ensures)
      | in-None w ↦
          let none = rw w.in-None.is at c.in_ok-rest.ensures.value in
          subst (λ (r : Result Bool NoMemory). IfOk r (λ b. IsTrue b ↔ IsWord c.args.name.now)) (sym w.result-is)
          (word_none c.as_bytes.result.now c.args.name.now name none)
    ]
