use Rattle.std.proofs.Common.{ℕ, ◌++◌, ◌∷◌, [], subst}
use Rattle.wy_canon.specs.Numbered.{IsNoted, AreNoted}
use Rattle.wy_canon.proofs.NumberedLemmas.{noted_more}
use Rattle.wy_canon.proofs.numbered.note_more.Goals as goal
use Rattle.wy_lemmas.proofs.Options.{on_ok}

pub returns-in-Ok-clause-noted : goal.returns-in-Ok-clause-noted
returns-in-Ok-clause-noted c =
    let es = c.note_few.new.places.entries in
    let fs = c.note.new.places.entries in
    on_ok c.note.result (IsNoted fs c.conjunct_digest.result) (AreNoted fs (c.args.conjuncts.now ++ c.args.conjunct.now ∷ []))
    (λ n. noted_more es fs c.args.conjuncts.now c.args.conjunct.now c.note.ensures.keeps c.in_ok-note_few.ensures.noted (subst (λ (k : ℕ). IsNoted fs k) c.conjunct_digest.ensures.value n))
    c.note.ensures.noted
