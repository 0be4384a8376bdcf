use Rattle.std.proofs.Common.{◌≡◌, List, refl, subst, sym}
use Rattle.wy_search_bounds.proofs.KnownLemmas.{notes_one}
use Rattle.wy_search_bounds.proofs.lasting.note_lasting.Goals as goal
use Rattle.wy_search_bounds.specs.Known.{lasting_place, Notes}
use Rattle.wy_lin.specs.declared.linear.Form.{Form}

pub returns : goal.returns
returns c =
    let was = lasting_place c.args.table.now in
    let now = lasting_place c.put_signed.new.table in
    let fs = c.args.table.now.made.items in
    let items : c.put_signed.new.table.made.items ≡ c.push_form.new.made.items = rw c.put_signed.ensures.made refl in
    subst (λ (gs : List Form). Notes was fs now gs c.args.literal c.args.form c.in_ok-place.place) (sym items)
    (notes_one was now fs c.push_form.new.made.items c.args.literal c.args.form c.in_ok-place.place c.in_ok-place.ensures.value c.in_ok-place.ensures.grows c.in_ok-put_signed.ensures.places)
