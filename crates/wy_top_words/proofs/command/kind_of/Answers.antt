use Rattle.std.proofs.Common.{◌≡◌, ◌∙◌, Bool, false, cond, Option, codes, sym, ap, rules}
use Rattle.std.specs.Prelude.{bytes_eq}
use Rattle.wy_top_words.specs.declared.command.Kind.{Kind}
use Rattle.wy_top_words.proofs.command.kind_of.Goals as goal

-- none of three names
others : (a b c : Bool) (x y z o : Option Kind) → a ≡ false → b ≡ false → c ≡ false → cond a x (cond b y (cond c z o)) ≡ o
others a b c x y z o e f g = ap (λ t. cond t x (cond b y (cond c z o))) e ∙ (ap (λ t. cond t y (cond c z o)) f ∙ ap (λ t. cond t z o) g)

pub returns-else-eq-3 : goal.returns-else-eq-3
returns-else-eq-3 c =
    let n = c.args.name.now in
    record { value = c.other_kind.ensures.value ∙ sym (others (bytes_eq (codes "check") n) (bytes_eq (codes "run") n) (bytes_eq (codes "prove") n) _ _ _ _ (search rules) (search rules) (search rules)) }
