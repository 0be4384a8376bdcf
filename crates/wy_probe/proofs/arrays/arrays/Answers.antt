use Rattle.std.proofs.Common.{◌≡◌, ◌∙◌, ◌∷◌, ◌++◌, [], ap, map, take}
use Rattle.wy_lemmas.proofs.Equations.{both_same}
use Rattle.wy_lemmas.proofs.Options.{if_ok}
use Rattle.wy_value.specs.Datum.{Array, no_items}
use Rattle.wy_value.specs.declared.value.Value.TheVariants as value
use Rattle.wy_value.specs.Seen.{seen}
use Rattle.wy_probe.specs.Candidates.{few, one_item, pairs}
use Rattle.wy_probe.specs.Candidates as spec
use Rattle.wy_probe.specs.Tables.{data_in}
use Rattle.wy_probe.proofs.ListLemmas.{empty_is, mapped}
use Rattle.wy_probe.proofs.arrays.arrays.Goals as goal

pub returns : goal.returns
returns c =
    let ds = data_in c.args.values.now in
    record {
      value = if_ok c.with_pairs.result (λ more. data_in more ≡ data_in c.in_ok-made.made ++ pairs (data_in c.first_few-firsts.result.now) (data_in c.first_few-firsts.result.now)) (λ more. data_in more ≡ spec.arrays ds)
          (λ more h. h ∙ both_same (λ x y. x ++ pairs y y) _ ((Array no_items ∷ []) ++ map one_item ds) _ (take few ds)
          (c.in_ok-made.ensures.value ∙ ap (λ l. l ++ map one_item ds) (mapped seen c.new-made.result c.push.new.self (value.Array c.new.result) (Array no_items) c.in_ok-push.ensures.ok (empty_is c.new.result c.new.ensures) ∙ ap (λ l. data_in l ++ Array no_items ∷ []) c.new-made.ensures))
          c.first_few-firsts.ensures.value) c.with_pairs.ensures.value;
    }
