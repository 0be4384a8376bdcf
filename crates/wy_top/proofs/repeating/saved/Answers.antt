use Rattle.std.proofs.Common.{◌≡◌, ◌<◌, ◌^◌, [], ℕ, List, All, length, map, sym, subst, arith}
use Rattle.std.proofs.lemmas.List.{length-map}
use Rattle.wy_batch.proofs.JudgedLemmas.{all_within}
use Rattle.wy_batch.specs.Seen.{known}
use Rattle.wy_cert.specs.Steps.{certificates_of}
use Rattle.wy_prove.specs.wy_prove_writable.Writable.{AreWritableBehind}
use Rattle.wy_prove.specs.Answers.{IsFormedThroughout}
use Rattle.wy_term.specs.Condition.{condition_of}
use Rattle.wy_term.specs.declared.cond.Cond.{Cond}
use Rattle.wy_top.specs.Again.{IsCacheOf}
use Rattle.wy_top.proofs.RepeatLemmas.{cached_as, saved_here, taken_here}
use Rattle.wy_top.proofs.WritableLemmas.{saved_writable}
use Rattle.wy_top.proofs.repeating.saved.Goals as goal

pub renewed-requires-clause-formed : goal.renewed-requires-clause-formed
renewed-requires-clause-formed c = subst (λ (cs : List Cond). All (λ d. IsFormedThroughout (condition_of c.args.judged.conds.terms d)) cs) (sym c.deref.ensures.value) c.requires.each.formed

pub cache_text-requires-clause-conds : goal.cache_text-requires-clause-conds
cache_text-requires-clause-conds c = all_within c.args.judged.conds.terms c.renewed.new.terms c.args.judged.conds.list.items c.in_ok-certs.ensures.length c.requires.each.within

pub cache_text-requires-clause-writable : goal.cache_text-requires-clause-writable
cache_text-requires-clause-writable c =
    let j = c.args.judged in
    let some = c.requires.taken in
    let es = some.entries in
    let cs = map (condition_of j.conds.terms) j.conds.list.items in
    let many = length-map j.conds.list.items (condition_of j.conds.terms) in
    let few : length cs < 2 ^ 32 = omega (arith, many, c.requires.each.few) in
    let taken = taken_here some.program es (certificates_of c.args.kept) c.args.budget j some.taken c.deref.result.now c.deref-2.result.now c.deref.ensures.value c.deref-2.ensures.value in
    subst (λ (n : ℕ). AreWritableBehind n [] (certificates_of c.in_ok-certs.certs)) many
    (saved_writable es cs (map known j.verdicts.items) (certificates_of c.in_ok-certs.certs) few
    (saved_here es j c.deref.result.now c.deref-2.result.now (certificates_of c.in_ok-certs.certs) c.deref.ensures.value c.deref-2.ensures.value (c.in_ok-certs.ensures.saved es taken)))

pub returns : goal.returns
returns c =
    let j = c.args.judged in
    let made = certificates_of c.in_ok-certs.certs in
    record {
      file = λ p es h.
          let taken = taken_here p es (certificates_of c.args.kept) c.args.budget j h c.deref.result.now c.deref-2.result.now c.deref.ensures.value c.deref-2.ensures.value in
          let saved = saved_here es j c.deref.result.now c.deref-2.result.now made c.deref.ensures.value c.deref-2.ensures.value (c.in_ok-certs.ensures.saved es taken) in
          subst (IsCacheOf p c.args.budget es) (sym c.new.ensures.value)
          (cached_as p es (certificates_of c.args.kept) c.args.budget j h made c.renewed.new.terms c.in_ok-text.text.items c.requires.each c.in_ok-certs.ensures.length c.in_ok-certs.ensures.kept saved c.in_ok-text.ensures.value);
    }
