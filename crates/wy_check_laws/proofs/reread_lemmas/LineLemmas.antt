-- What a line spells.
use Rattle.std.proofs.Common.{◌≡◌, ℕ, List, [], ◌++◌, Bool, codes, refl, sym, ap, ◌∙◌, subst}
use Rattle.wy_check_spec.specs.wy_cert.declared.verb.Verb.{Verb}
use Rattle.wy_check_spec.specs.wy_cert.declared.verb.Verb.TheVariants as verb
use Rattle.wy_check_spec.specs.wy_cert.Steps.{Written, shut, children}
use Rattle.wy_check_spec.specs.wy_cert.Numbers.{IsPlaceAt}
use Rattle.wy_check_spec.specs.wy_cert.Lines.{IsBody, IsStep}
use Rattle.wy_check_spec.specs.wy_cert.File.{IsCondition}
use Rattle.wy_check_spec.proofs.wy_cert_proofs.VerbLemmas.{one_verb}
use Rattle.wy_check_spec.proofs.wy_cert_proofs.NumberLemmas.{one_place}
use Rattle.wy_lemmas.proofs.Lists.{append_cancel}

-- ---- steps

pub shut_line : (products : Bool) → IsStep products (codes "shut") shut
shut_line products = record { kind = verb.Shut; text = []; begins = record { is = refl }; body = record { ends = refl; is = refl } }

-- how many trees stand below a step with this word
abbrev below : Verb → ℕ
below verb.Split = 2
below verb.Shut = 0
below verb.Chain = 1
below verb.Clash = 0
below verb.Sum = 0
below verb.Cut = 1
below verb.Inst = 1
below verb.Wit = 1
below verb.Fact = 1
below verb.Prod = 1

below_is : (products : Bool) (v : Verb) (text : List ℕ) (s : Written) → IsBody products v text s → children s ≡ below v
below_is products verb.Split text s h = ap children h.is
below_is products verb.Shut text s h = ap children h.is
below_is products verb.Chain text s h = ap children h.is
below_is products verb.Clash text s h = ap children h.is
below_is products verb.Sum text s h = ap children h.is
below_is products verb.Cut text s h = ap children h.is
below_is products verb.Inst text s h = ap children h.is
below_is products verb.Wit text s h = ap children h.is
below_is products verb.Fact text s h = ap children h.is
below_is products verb.Prod text s h = ap children h.is

pub same_children : (products : Bool) (line : List ℕ) (s t : Written) → IsStep products line s → IsStep products line t → children s ≡ children t
same_children products line s t a b =
    below_is products a.kind a.text s a.body ∙ (ap below (one_verb line a.kind b.kind a.text b.text a.begins b.begins).kind ∙ sym (below_is products b.kind b.text t b.body))

-- ---- conditions

pub same_condition : (line : List ℕ) (c d : ℕ) → IsCondition line c → IsCondition line d → c ≡ d
same_condition line c d a b =
    (one_place b.text c d [] [] (subst (λ (i : List ℕ). IsPlaceAt i c []) (append_cancel (codes "cond ") a.text b.text (sym a.opens.is ∙ b.opens.is)) a.number) b.number).number

pub end_opens_none : (c : ℕ) → IsCondition (codes "end") c → ⊥
end_opens_none c h = absurd (let i : codes "end" ≡ codes "cond " ++ h.text = h.opens.is in cc)
