use Rattle.std.proofs.Common.{◌<◌, ◌+◌, length, ap, arith, rules, length-set}
use Rattle.wy_mach.proofs.TextLemmas.{same_text, piece_more}
use Rattle.wy_mach.proofs.texts.gather.Goals as goal

pub loop-k-preserved : goal.loop-k-preserved
loop-k-preserved c =
    let h = c.args.heap.now in
    let p = c.args.place.now in
    let k = c.loop-k.k in
    let start = c.args.start in
    let room : k < length c.loop-k.piece = search rules in
    let text = c.requires.there in
    record {
      long = simp length-set (c.loop-k.invariant.long);
      codes = λ bytes is.
          let same = same_text h p bytes text.1.0 is text.1.1 in
          let within : start + k < length bytes = omega (arith, ap length same, text.1.2, text.2, c.loop-k-test.true) in
          piece_more bytes c.loop-k.piece start k c.code_at.result room within (c.loop-k.invariant.codes bytes is) (c.code_at.ensures.value bytes is);
    }
