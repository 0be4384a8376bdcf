use Rattle.wy_canon.proofs.NumberedLemmas.{noted_turn}
use Rattle.wy_canon.proofs.numbered.note_all.Goals as goal

pub loop-number-preserved : goal.loop-number-preserved
loop-number-preserved c =
    let v = c.loop-number.invariant in
    record {
      keeps = λ d h. c.note.ensures.keeps d (v.keeps d h);
      noted = noted_turn c.loop-number.places.entries c.note.new.places.entries c.args.conjuncts.now c.loop-number.number c.index-conjuncts-number.result c.conjunct_digest.result
          c.note.ensures.keeps c.loop-number-test.true c.index-conjuncts-number.is c.conjunct_digest.ensures.value v.noted c.in_ok-note-in-Ok.ensures.noted;
    }
