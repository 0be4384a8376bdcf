use Rattle.std.proofs.Common.{◌≡◌, ◌<◌, ◌++◌, ◌∷◌, [], ℕ, List, length, get_or, sym, ap, ◌∙◌, arith, append_assoc}
use Rattle.std.proofs.lemmas.List.{get_or_read}
use Rattle.wy_value.specs.Shapes.{named}
use Rattle.wy_heap.proofs.ShowLemmas.{named-get_or}
use Rattle.wy_heap.proofs.heap.Heap.write_name.Goals as goal

pub returns : goal.returns
returns c =
    let names = c.args.self.now.shapes.names in
    let list = c.args.list.now in
    let number = get_or list c.args.place 0 in
    let old = c.args.text.now.items in
    let below : number < length c.as_slice.result.now = omega (arith, c.requires.named, ap length c.as_slice.ensures) in
    let read : c.as_bytes.result.now ≡ get_or (named names list) c.args.place [] =
    c.as_bytes.ensures.value
    ∙ get_or_read c.as_slice.result.now number c.index-as_slice-number.result below c.index-as_slice-number.is []
    ∙ ap (λ (l : List (List ℕ)). get_or l number []) c.as_slice.ensures
    ∙ sym (named-get_or names list c.args.place c.requires.within) in
    c.in_ok-write_bytes-2.ensures ∙ ap (λ (l : List ℕ). l ++ 58 ∷ 32 ∷ []) c.in_ok-write_bytes.ensures
    ∙ append_assoc old c.as_bytes.result.now (58 ∷ 32 ∷ [])
    ∙ ap (λ (l : List ℕ). old ++ (l ++ 58 ∷ 32 ∷ [])) read
