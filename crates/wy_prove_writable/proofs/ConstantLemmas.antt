-- Formulas that are neither `true` nor `false`.
use Rattle.std.proofs.Common.{◌≡◌, ◌↔◌, ℕ, List, [], ◌∷◌, Bool, IsTrue, Vec, length, not, ap, sym, subst}
use Rattle.std.proofs.Math.Dec.{eqb-suc-zero}
use Rattle.std.specs.Prelude.{◌==◌}
use Rattle.std.specs.declared.alloc.Global.{Global}
use Rattle.wy_lemmas.proofs.Choices.{never_true as never}
use Rattle.wy_term.specs.Term.{Term, Of, all_of, any_of}
use Rattle.wy_term.specs.Nodes.{grown, parts_at, plain}
use Rattle.wy_term.specs.declared.node.Node.{Node}
use Rattle.wy_term.specs.declared.node.Node.TheVariants as node
use Rattle.wy_check_laws.specs.reread.Writable.{IsNoConstant}

all_of_members : (at : ℕ → Term) (ks : List ℕ) → IsTrue (not (length ks == 0)) ↔ IsNoConstant (Of all_of (parts_at at ks))
all_of_members at [] = ((λ f. never f), (λ no. absurd no))
all_of_members at (k ∷ ks) = ((λ t. tt), (λ t. ap not (eqb-suc-zero (length ks))))

any_of_members : (at : ℕ → Term) (ks : List ℕ) → IsTrue (not (length ks == 0)) ↔ IsNoConstant (Of any_of (parts_at at ks))
any_of_members at [] = ((λ f. never f), (λ no. absurd no))
any_of_members at (k ∷ ks) = ((λ t. tt), (λ t. ap not (eqb-suc-zero (length ks))))

-- an `and` or an `or` is no constant exactly where it has members
pub and_of_members : (at : ℕ → Term) (n : Node) (fs : Vec ℕ Global) (empty : Bool) → n ≡ node.And fs → empty ≡ (length fs.items == 0) → IsTrue (not empty) ↔ IsNoConstant (grown at (plain n))
and_of_members at n fs empty e is =
    subst (λ (m : Node). IsTrue (not empty) ↔ IsNoConstant (grown at (plain m))) (sym e)
    (subst (λ (b : Bool). IsTrue (not b) ↔ IsNoConstant (Of all_of (parts_at at fs.items))) (sym is) (all_of_members at fs.items))

pub or_of_members : (at : ℕ → Term) (n : Node) (fs : Vec ℕ Global) (empty : Bool) → n ≡ node.Or fs → empty ≡ (length fs.items == 0) → IsTrue (not empty) ↔ IsNoConstant (grown at (plain n))
or_of_members at n fs empty e is =
    subst (λ (m : Node). IsTrue (not empty) ↔ IsNoConstant (grown at (plain m))) (sym e)
    (subst (λ (b : Bool). IsTrue (not b) ↔ IsNoConstant (Of any_of (parts_at at fs.items))) (sym is) (any_of_members at fs.items))
