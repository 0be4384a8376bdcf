-- Lists of plain data are equal where what is made of them is equal.
use Rattle.std.proofs.Common.{◌≡◌, ◌∙◌, ℕ, List, [], ◌∷◌, Bool, IsTrue, refl, ap, sym}
use Rattle.wy_core.specs.Types as ty
use Rattle.wy_core.specs.CoreSeen.{field_tys_of, SeenConjunct, conjuncts_of, atoms_of, field_parts_of, SeenSigned, part_of}

two : {A B : Type 0} (a c : A) (b d : B) → a ≡ c → b ≡ d → (let x : A × B = (a, b) in let y : A × B = (c, d) in x ≡ y)
two a c b d e f = cc

three : {A B C : Type 0} (a d : A) (b e : B) (c f : C) → a ≡ d → b ≡ e → c ≡ f
    → (let x : A × B × C = (a, b, c) in let y : A × B × C = (d, e, f) in x ≡ y)
three a d b e c f g h i = cc

pair : {A B : Type 0} (x y : A × B) → x.0 ≡ y.0 → x.1 ≡ y.1 → x ≡ y
pair x y e f = two x.0 y.0 x.1 y.1 e f

triple : {A B C : Type 0} (x y : A × B × C) → x.0 ≡ y.0 → x.1 ≡ y.1 → x.2 ≡ y.2 → x ≡ y
triple x y e f g = three x.0 y.0 x.1 y.1 x.2 y.2 e f g

cons : {A : Type 0} (x y : A) (xs ys : List A) → x ≡ y → xs ≡ ys → x ∷ xs ≡ y ∷ ys
cons x y xs ys e f = cc

pub field_tys_are : (xs ys : List (List ℕ × ty.Ty)) → field_tys_of xs ≡ field_tys_of ys → xs ≡ ys
field_tys_are [] [] e = refl
field_tys_are [] (y ∷ ys) e = absurd cc
field_tys_are (x ∷ xs) [] e = absurd cc
field_tys_are (x ∷ xs) (y ∷ ys) e =
    let names : x.0 ≡ y.0 = cc in
    let tys : x.1 ≡ y.1 = cc in
    let rest : field_tys_of xs ≡ field_tys_of ys = cc in
    cons x y xs ys (pair x y names tys) (field_tys_are xs ys rest)

pub conjuncts_are : (xs ys : List SeenConjunct) → conjuncts_of xs ≡ conjuncts_of ys → xs ≡ ys
conjuncts_are [] [] e = refl
conjuncts_are [] (y ∷ ys) e = absurd cc
conjuncts_are (x ∷ xs) [] e = absurd cc
conjuncts_are (x ∷ xs) (y ∷ ys) e =
    let positives : x.0 ≡ y.0 = cc in
    let negatives : x.1 ≡ y.1 = cc in
    let rest : conjuncts_of xs ≡ conjuncts_of ys = cc in
    cons x y xs ys (pair x y positives negatives) (conjuncts_are xs ys rest)

pub atoms_are : (xs ys : List ty.Atom) → atoms_of xs ≡ atoms_of ys → xs ≡ ys
atoms_are [] [] e = refl
atoms_are [] (y ∷ ys) e = absurd cc
atoms_are (x ∷ xs) [] e = absurd cc
atoms_are (x ∷ xs) (y ∷ ys) e =
    let first : x ≡ y = cc in
    let rest : atoms_of xs ≡ atoms_of ys = cc in
    cons x y xs ys first (atoms_are xs ys rest)

pub field_parts_are : (xs ys : List (List ℕ × ty.Part)) → field_parts_of xs ≡ field_parts_of ys → xs ≡ ys
field_parts_are [] [] e = refl
field_parts_are [] (y ∷ ys) e = absurd cc
field_parts_are (x ∷ xs) [] e = absurd cc
field_parts_are (x ∷ xs) (y ∷ ys) e =
    let names : x.0 ≡ y.0 = cc in
    let parts : x.1 ≡ y.1 = cc in
    let rest : field_parts_of xs ≡ field_parts_of ys = cc in
    cons x y xs ys (pair x y names parts) (field_parts_are xs ys rest)

pub terms_are : (xs ys : List SeenSigned) → part_of xs ≡ part_of ys → xs ≡ ys
terms_are [] [] e = refl
terms_are [] (y ∷ ys) e = absurd cc
terms_are (x ∷ xs) [] e = absurd cc
terms_are (x ∷ xs) (y ∷ ys) e =
    let tys : x.0 ≡ y.0 = cc in
    let ups : x.1 ≡ y.1 = cc in
    let insides : x.2 ≡ y.2 = cc in
    let rest : part_of xs ≡ part_of ys = cc in
    cons x y xs ys (triple x y tys ups insides) (terms_are xs ys rest)

-- an answer on the lists is one on what is made of them
carried : {A S : Type 0} (answer : Bool) (xs ys : A) (make : A → S) (is : make xs ≡ make ys → xs ≡ ys) (s t : S) → s ≡ make xs → t ≡ make ys
    → (IsTrue answer → xs ≡ ys) × (xs ≡ ys → IsTrue answer) → (IsTrue answer → s ≡ t) × (s ≡ t → IsTrue answer)
carried answer xs ys make is s t e f both =
    ((λ h. e ∙ ap make (both.0 h) ∙ sym f), (λ g. both.1 (is (sym e ∙ g ∙ f))))

pub same_records : {xs ys : List (List ℕ × ty.Ty)} {s t : ty.Ty} (answer : Bool) → (IsTrue answer → xs ≡ ys) × (xs ≡ ys → IsTrue answer)
    → s ≡ ty.RecordTy (field_tys_of xs) → t ≡ ty.RecordTy (field_tys_of ys) → (IsTrue answer → s ≡ t) × (s ≡ t → IsTrue answer)
same_records {xs = xs} {ys = ys} {s = s} {t = t} answer both e f =
    carried answer xs ys (λ l. ty.RecordTy (field_tys_of l)) (λ g. field_tys_are xs ys (cc)) s t e f both

pub same_normals : {xs ys : List SeenConjunct} {s t : ty.Ty} (answer : Bool) → (IsTrue answer → xs ≡ ys) × (xs ≡ ys → IsTrue answer)
    → s ≡ ty.NormalTy (conjuncts_of xs) → t ≡ ty.NormalTy (conjuncts_of ys) → (IsTrue answer → s ≡ t) × (s ≡ t → IsTrue answer)
same_normals {xs = xs} {ys = ys} {s = s} {t = t} answer both e f =
    carried answer xs ys (λ l. ty.NormalTy (conjuncts_of l)) (λ g. conjuncts_are xs ys (cc)) s t e f both

pub same_record_atoms : {xs ys : List (List ℕ × ty.Part)} {s t : ty.Atom} (answer : Bool) → (IsTrue answer → xs ≡ ys) × (xs ≡ ys → IsTrue answer)
    → s ≡ ty.RecordAtom (field_parts_of xs) → t ≡ ty.RecordAtom (field_parts_of ys) → (IsTrue answer → s ≡ t) × (s ≡ t → IsTrue answer)
same_record_atoms {xs = xs} {ys = ys} {s = s} {t = t} answer both e f =
    carried answer xs ys (λ l. ty.RecordAtom (field_parts_of l)) (λ g. field_parts_are xs ys (cc)) s t e f both

pub same_parts : {xs ys : List SeenSigned} {s t : ty.Part} (answer : Bool) → (IsTrue answer → xs ≡ ys) × (xs ≡ ys → IsTrue answer)
    → s ≡ part_of xs → t ≡ part_of ys → (IsTrue answer → s ≡ t) × (s ≡ t → IsTrue answer)
same_parts {xs = xs} {ys = ys} {s = s} {t = t} answer both e f = carried answer xs ys part_of (terms_are xs ys) s t e f both

pub same_conjuncts : {xs ys : List ty.Atom} {p q : ty.Atom} {s t : SeenConjunct} (answer : Bool) → (IsTrue answer → xs ≡ ys) × (xs ≡ ys → IsTrue answer)
    → p ≡ q → s ≡ (p, atoms_of xs) → t ≡ (q, atoms_of ys) → (IsTrue answer → s ≡ t) × (s ≡ t → IsTrue answer)
same_conjuncts {xs = xs} {ys = ys} {p = p} {q = q} {s = s} {t = t} answer both same e f = (
  (λ h. e ∙ two p q (atoms_of xs) (atoms_of ys) same (ap atoms_of (both.0 h)) ∙ sym f),
  (λ g. both.1 (atoms_are xs ys (ap (λ (c : SeenConjunct). c.1) (sym e ∙ g ∙ f)))),
)
