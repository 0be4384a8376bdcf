-- Whether a value is of the type that it is given.
use Rattle.std.proofs.Common.{◌≡◌, ℕ, suc, ◌+◌, arith, Bool, true, false, List, length, map, Some, sym, ap, ◌∙◌}
use Rattle.std.proofs.lemmas.List.{length-map}
use Rattle.wy_value.specs.Datum.{Datum}
use Rattle.wy_core.specs.CoreSeen.{seen_alias}
use Rattle.wy_core.specs.CoreTree as tree
use Rattle.wy_core.specs.Types.{Ty}
use Rattle.wy_core.specs.declared.declarations.Alias.{Alias}
use Rattle.wy_sem.specs.Meter.{Meter, Done, choose}
use Rattle.wy_sem.specs.Evaluation.{owed_member}
use Rattle.wy_sem.specs.TypeTests.{answer, is_constrained, member, mentions, tests}
use Rattle.wy_eval_exprs.specs.Settings.{here}
use Rattle.wy_eval.specs.Marks.{marked, rounds}
use Rattle.wy_eval.proofs.MarkLemmas.{type_marked}

-- what the marks say is so
pub owed_as_marked : (all : List Alias) (marks found : List Bool) (t : Ty) (b : Bool) → found ≡ marks → marks ≡ rounds (map seen_alias all) (suc (length all)) → b ≡ mentions (marked found) t → is_constrained (map seen_alias all) t ≡ b
owed_as_marked all marks found t b same are says =
    sym (type_marked (map seen_alias all) t)
    ∙ (ap (λ n. mentions (marked (rounds (map seen_alias all) (suc n))) t) (length-map all seen_alias)
    ∙ (ap (λ l. mentions (marked l) t) (sym (same ∙ are)) ∙ sym says))

pub not_owed : (limit : ℕ) (types : List (tree.Alias ℕ)) (t : Ty) (d : Datum) (m : Meter) (b : Bool) → is_constrained types t ≡ b → b ≡ false → owed_member here (Some limit) types t d m ≡ Done true m
not_owed limit types t d m b is free = ap (λ c. choose c (member here (Some limit) types t d) (answer true) m) (is ∙ free)

pub owed : (limit : ℕ) (types : List (tree.Alias ℕ)) (t : Ty) (d : Datum) (m : Meter) (b : Bool) → is_constrained types t ≡ b → b ≡ true → owed_member here (Some limit) types t d m ≡ member here (Some limit) types t d m
owed limit types t d m b is bound = ap (λ c. choose c (member here (Some limit) types t d) (answer true) m) (is ∙ bound)

-- how deeply tests in code may nest
pub deep_as : (limit : ℕ) (all : List Alias) (n depth : ℕ) (t : Ty) (d : Datum) (m : Meter) → n ≡ length all → depth ≡ n + 1
    → tests here (Some limit) (map seen_alias all) (suc (length (map seen_alias all))) true t d m ≡ tests here (Some limit) (map seen_alias all) depth true t d m
deep_as limit all n depth t d m counted is =
    let same : length (map seen_alias all) ≡ length all = length-map all seen_alias in
    let e : suc (length (map seen_alias all)) ≡ depth = omega arith in
    ap (λ j. tests here (Some limit) (map seen_alias all) j true t d m) e
