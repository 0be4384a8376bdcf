use Rattle.std.proofs.Common.{◌≡◌, ◌∙◌, Bool, false, cond, Option, None, codes, sym, ap, rules}
use Rattle.std.specs.Prelude.{bytes_eq}
use Rattle.wy_top_words.specs.declared.command.Kind.{Kind}
use Rattle.wy_top_words.proofs.command.other_kind.Goals as goal

-- none of six names
others : (a b c d e f : Bool) (t u v w x y z : Option Kind) → a ≡ false → b ≡ false → c ≡ false → d ≡ false → e ≡ false → f ≡ false → cond a t (cond b u (cond c v (cond d w (cond e x (cond f y z))))) ≡ z
others a b c d e f t u v w x y z g h i j k l =
    ap (λ (o : Bool). cond o t (cond b u (cond c v (cond d w (cond e x (cond f y z)))))) g
    ∙ (ap (λ (o : Bool). cond o u (cond c v (cond d w (cond e x (cond f y z))))) h
    ∙ (ap (λ (o : Bool). cond o v (cond d w (cond e x (cond f y z)))) i
    ∙ (ap (λ (o : Bool). cond o w (cond e x (cond f y z))) j ∙ (ap (λ (o : Bool). cond o x (cond f y z)) k ∙ ap (λ (o : Bool). cond o y z) l))))

pub returns-else-eq-6 : goal.returns-else-eq-6
returns-else-eq-6 c =
    let n = c.args.name.now in
    record {
      value = sym (others (bytes_eq (codes "conds") n) (bytes_eq (codes "fmt") n) (bytes_eq (codes "dis") n) (bytes_eq (codes "big") n) (bytes_eq (codes "probe") n) (bytes_eq (codes "again") n) _ _ _ _ _ _ None
          (search rules) (search rules) (search rules) (search rules) (search rules) (search rules));
    }
