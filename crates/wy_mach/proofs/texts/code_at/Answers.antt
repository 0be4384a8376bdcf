use Rattle.std.proofs.Common.{◌≡◌, Some, get_or}
use Rattle.wy_mach.proofs.TextLemmas.{text_item, text_code}
use Rattle.wy_mach.proofs.texts.code_at.Goals as goal

pub code-requires-clause-there : goal.code-requires-clause-there
code-requires-clause-there c = text_item c.args.heap.now c.args.place.now c.args.index c.requires.there

pub unreachable-requires : goal.unreachable-requires
unreachable-requires c =
    let text = c.requires.there in
    let found : c.code.result ≡ Some (get_or text.1.0 c.args.index 0) = text_code c.args.heap.now c.args.place.now c.args.index c.code.result text.1.0 text c.code.ensures.value text.1.1 in
    let none = c.in-None.is in
    cc

pub returns : goal.returns
returns c = record {
  value = λ bytes is.
      let text = c.requires.there in
      let found : c.code.result ≡ Some (get_or bytes c.args.index 0) = text_code c.args.heap.now c.args.place.now c.args.index c.code.result bytes text c.code.ensures.value is in
      let here = c.in-Some.is in
      cc;
}
