-- When a datum stays what a part stands for, and that there is one.
use Rattle.std.proofs.Common.{◌≡◌, ℕ, zero, suc, ◌≤◌, ◌<◌, length, get_or, List, [], ◌∷◌, Option, Some, None, refl, sym, ◌∙◌, ap, subst, arith}
use Rattle.wy_value.specs.Datum.{Datum, Data, no_items, item, Fields, no_fields, field}
use Rattle.wy_value.specs.Datum as datum
use Rattle.wy_value.specs.Values.{names_of, length_of}
use Rattle.wy_heap.specs.declared.part.Part.{Part}
use Rattle.wy_heap.specs.declared.part.Part.TheVariants.{Null, Key}
use Rattle.wy_heap.specs.Nodes.{Form, list_form, record_form, Body, Map, at, holds, held, parts_in}
use Rattle.wy_heap.specs.Meaning.{data_in, Means, MeanAll, MeanFields, IsNode, IsSplit}
use Rattle.wy_heap.specs.Slots.{nth}
use Rattle.wy_heap.proofs.CountLemmas.{holds_one}

-- ---- a datum stays

-- each of these parts passes
abbrev pub Each : (Part → Type 0) → List Part → Type 0
Each safe [] = Unit {0}
Each safe (p ∷ ps) = safe p × Each safe ps

-- the safe keys keep their nodes, and the parts of these are safe
abbrev pub IsClosed : Map → Map → (Part → Type 0) → Type 0
IsClosed m n safe = (k : ℕ) (b : Body) → safe (Key k) → at m k ≡ Some b → (at n k ≡ Some b) × Each safe b.parts

module _ (m n : Map) (safe : Part → Type 0) (closed : IsClosed m n safe) where
  mutual
    pub means_kept : (d : Datum) (p : Part) → safe p → Means m d p → Means n d p
    means_kept datum.Null p is_safe means = means
    means_kept (datum.Truth b) p is_safe means = means
    means_kept (datum.Whole z) p is_safe means = means
    means_kept (datum.Array ds) p is_safe means =
        let step = closed means.key (record { form = list_form; parts = means.parts }) (subst safe means.is_key is_safe) means.is_node in
        record { key = means.key; is_key = means.is_key; parts = means.parts; is_node = step.0; pass_all = mean_all_kept ds means.parts step.1 means.pass_all }
    means_kept (datum.Record fs) p is_safe means =
        let step = closed means.key (record { form = record_form (names_of fs); parts = means.parts }) (subst safe means.is_key is_safe) means.is_node in
        record { key = means.key; is_key = means.is_key; parts = means.parts; is_node = step.0; pass_all = mean_fields_kept fs means.parts step.1 means.pass_all }

    pub mean_all_kept : (ds : Data) (ps : List Part) → Each safe ps → MeanAll m ds ps → MeanAll n ds ps
    mean_all_kept no_items ps are_safe mean = mean
    mean_all_kept (item d ds) [] are_safe mean = mean
    mean_all_kept (item d ds) (p ∷ ps) are_safe mean = (means_kept d p are_safe.0 mean.0, mean_all_kept ds ps are_safe.1 mean.1)

    mean_fields_kept : (fs : Fields) (ps : List Part) → Each safe ps → MeanFields m fs ps → MeanFields n fs ps
    mean_fields_kept no_fields ps are_safe mean = mean
    mean_fields_kept (field k d fs) [] are_safe mean = mean
    mean_fields_kept (field k d fs) (p ∷ ps) are_safe mean = (means_kept d p are_safe.0 mean.0, mean_fields_kept fs ps are_safe.1 mean.1)

-- what holds of each part that a list holds, holds of all in the list
pub each_held : (safe : Part → Type 0) (ps : List Part) → ((q : Part) → ((k : ℕ) → q ≡ Key k → 1 ≤ held k ps) → safe q) → Each safe ps
each_held safe [] from = tt
each_held safe (p ∷ ps) from =
    (from p (λ k is. omega (arith, ap (holds k) is, holds_one k)), each_held safe ps (λ q among. from q (λ k is. omega (arith, among k is))))

-- ---- nodes: a form and the data of the parts

pub data_from_fields : (m : Map) (fs : Fields) (ps : List Part) → MeanFields m fs ps → MeanAll m (data_in fs) ps
data_from_fields m no_fields ps mean = mean
data_from_fields m (field k d fs) [] mean = mean
data_from_fields m (field k d fs) (p ∷ ps) mean = (mean.0, data_from_fields m fs ps mean.1)

pub fields_from_data : (m : Map) (fs : Fields) (ps : List Part) → MeanAll m (data_in fs) ps → MeanFields m fs ps
fields_from_data m no_fields ps mean = mean
fields_from_data m (field k d fs) [] mean = mean
fields_from_data m (field k d fs) (p ∷ ps) mean = (mean.0, fields_from_data m fs ps mean.1)

-- a part that stands for a datum of this form is a hold on such a node
pub node_from_means : (m : Map) (d : Datum) (p : Part) (form : Form) (ds : Data) → IsSplit d form ds → Means m d p → IsNode m p form ds
node_from_means m datum.Null p form ds split means = absurd split
node_from_means m (datum.Truth b) p form ds split means = absurd split
node_from_means m (datum.Whole z) p form ds split means = absurd split
node_from_means m (datum.Array items) p form ds split means =
    record {
      key = means.key;
      is_key = means.is_key;
      parts = means.parts;
      is_node = means.is_node ∙ ap (λ (f : Form). Some (record { form = f; parts = means.parts })) (sym split.0);
      pass_all = subst (λ (es : Data). MeanAll m es means.parts) (sym split.1) means.pass_all;
    }
node_from_means m (datum.Record fs) p form ds split means =
    record {
      key = means.key;
      is_key = means.is_key;
      parts = means.parts;
      is_node = means.is_node ∙ ap (λ (f : Form). Some (record { form = f; parts = means.parts })) (sym split.0);
      pass_all = subst (λ (es : Data). MeanAll m es means.parts) (sym split.1) (data_from_fields m fs means.parts means.pass_all);
    }

pub means_from_node : (m : Map) (d : Datum) (p : Part) (form : Form) (ds : Data) → IsSplit d form ds → IsNode m p form ds → Means m d p
means_from_node m datum.Null p form ds split node = absurd split
means_from_node m (datum.Truth b) p form ds split node = absurd split
means_from_node m (datum.Whole z) p form ds split node = absurd split
means_from_node m (datum.Array items) p form ds split node =
    record {
      key = node.key;
      is_key = node.is_key;
      parts = node.parts;
      is_node = node.is_node ∙ ap (λ (f : Form). Some (record { form = f; parts = node.parts })) split.0;
      pass_all = subst (λ (es : Data). MeanAll m es node.parts) split.1 node.pass_all;
    }
means_from_node m (datum.Record fs) p form ds split node =
    record {
      key = node.key;
      is_key = node.is_key;
      parts = node.parts;
      is_node = node.is_node ∙ ap (λ (f : Form). Some (record { form = f; parts = node.parts })) split.0;
      pass_all = fields_from_data m fs node.parts (subst (λ (es : Data). MeanAll m es node.parts) split.1 node.pass_all);
    }

-- what a hold stands for has a form and data
pub record HasSplit (d : Datum) : Type 0 where
  pub form : Form
  pub data_of : Data
  pub is : IsSplit d form data_of

pub split_of : (m : Map) (d : Datum) (p : Part) (k : ℕ) → p ≡ Key k → Means m d p → HasSplit d
split_of m datum.Null p k is means = absurd (cc)
split_of m (datum.Truth b) p k is means = absurd (cc)
split_of m (datum.Whole z) p k is means = absurd (cc)
split_of m (datum.Array items) p k is means = record { form = list_form; data_of = items; is = (refl, refl) }
split_of m (datum.Record fs) p k is means = record { form = record_form (names_of fs); data_of = data_in fs; is = (refl, refl) }

-- the node at a key, by its form and data
pub record NodeAt (m : Map) (key : ℕ) (form : Form) (ds : Data) : Type 0 where
  pub parts : List Part
  pub is : at m key ≡ Some (record { form = form; parts = parts })
  pub mean : MeanAll m ds parts

pub node_at : (m : Map) (p : Part) (key : ℕ) (form : Form) (ds : Data) → p ≡ Key key → IsNode m p form ds → NodeAt m key form ds
node_at m p key form ds is node =
    let was = node.is_key in
    let same : node.key ≡ key = cc in
    record { parts = node.parts; is = ap (at m) (sym same) ∙ node.is_node; mean = node.pass_all }

-- ---- lists of data

pub mean_all-length : (m : Map) (ds : Data) (ps : List Part) → MeanAll m ds ps → length ps ≡ length_of ds
mean_all-length m no_items ps mean = ap length mean
mean_all-length m (item d ds) [] mean = absurd mean
mean_all-length m (item d ds) (p ∷ ps) mean = omega (arith, mean_all-length m ds ps mean.1)

pub mean_all-nth : (m : Map) (ds : Data) (ps : List Part) (i : ℕ) → MeanAll m ds ps → i < length ps → Means m (nth ds i) (get_or ps i Null)
mean_all-nth m no_items ps i mean below = absurd (omega (arith, ap length mean))
mean_all-nth m (item d ds) [] i mean below = absurd mean
mean_all-nth m (item d ds) (p ∷ ps) zero mean below = mean.0
mean_all-nth m (item d ds) (p ∷ ps) (suc i) mean below = mean_all-nth m ds ps i mean.1 (omega arith)

-- ---- a part stands for one datum

form_or : Form → Option Body → Form
form_or f None = f
form_or f (Some b) = b.form

-- two views of one node
pub same_form : (x y : Body) → Some x ≡ Some y → x.form ≡ y.form
unfolding form_or
same_form x y same = ap (form_or x.form) same

record_names : (ns ks : List (List ℕ)) → record_form ns ≡ record_form ks → ns ≡ ks
record_names ns ks same = cc

mutual
  pub means_unique : (m : Map) (d e : Datum) (p : Part) → Means m d p → Means m e p → d ≡ e
  means_unique m datum.Null datum.Null p a b = refl
  means_unique m datum.Null (datum.Truth _) p a b = absurd (cc)
  means_unique m datum.Null (datum.Whole _) p a b = absurd (cc)
  means_unique m datum.Null (datum.Array _) p a b = absurd (let k = b.is_key in cc)
  means_unique m datum.Null (datum.Record _) p a b = absurd (let k = b.is_key in cc)
  means_unique m (datum.Truth x) datum.Null p a b = absurd (cc)
  means_unique m (datum.Truth x) (datum.Truth y) p a b = cc
  means_unique m (datum.Truth x) (datum.Whole _) p a b = absurd (cc)
  means_unique m (datum.Truth x) (datum.Array _) p a b = absurd (let k = b.is_key in cc)
  means_unique m (datum.Truth x) (datum.Record _) p a b = absurd (let k = b.is_key in cc)
  means_unique m (datum.Whole x) datum.Null p a b = absurd (cc)
  means_unique m (datum.Whole x) (datum.Truth _) p a b = absurd (cc)
  means_unique m (datum.Whole x) (datum.Whole y) p a b = cc
  means_unique m (datum.Whole x) (datum.Array _) p a b = absurd (let k = b.is_key in cc)
  means_unique m (datum.Whole x) (datum.Record _) p a b = absurd (let k = b.is_key in cc)
  means_unique m (datum.Array xs) datum.Null p a b = absurd (let k = a.is_key in cc)
  means_unique m (datum.Array xs) (datum.Truth _) p a b = absurd (let k = a.is_key in cc)
  means_unique m (datum.Array xs) (datum.Whole _) p a b = absurd (let k = a.is_key in cc)
  means_unique m (datum.Array xs) (datum.Array ys) p a b =
      let first = a.is_key in
      let second = b.is_key in
      let key : a.key ≡ b.key = cc in
      let node : Some (record { form = list_form; parts = a.parts }) ≡ Some (record { form = list_form; parts = b.parts }) = sym a.is_node ∙ ap (at m) key ∙ b.is_node in
      let same = data_unique m xs ys a.parts a.pass_all (subst (MeanAll m ys) (sym (ap parts_in node)) b.pass_all) in
      ap datum.Array same
  means_unique m (datum.Array xs) (datum.Record gs) p a b =
      let first = a.is_key in
      let second = b.is_key in
      let key : a.key ≡ b.key = cc in
      let node : Some (record { form = list_form; parts = a.parts }) ≡ Some (record { form = record_form (names_of gs); parts = b.parts }) = sym a.is_node ∙ ap (at m) key ∙ b.is_node in
      let forms = same_form (record { form = list_form; parts = a.parts }) (record { form = record_form (names_of gs); parts = b.parts }) node in
      absurd (cc)
  means_unique m (datum.Record fs) datum.Null p a b = absurd (let k = a.is_key in cc)
  means_unique m (datum.Record fs) (datum.Truth _) p a b = absurd (let k = a.is_key in cc)
  means_unique m (datum.Record fs) (datum.Whole _) p a b = absurd (let k = a.is_key in cc)
  means_unique m (datum.Record fs) (datum.Array ys) p a b =
      let first = a.is_key in
      let second = b.is_key in
      let key : a.key ≡ b.key = cc in
      let node : Some (record { form = record_form (names_of fs); parts = a.parts }) ≡ Some (record { form = list_form; parts = b.parts }) = sym a.is_node ∙ ap (at m) key ∙ b.is_node in
      let forms = same_form (record { form = record_form (names_of fs); parts = a.parts }) (record { form = list_form; parts = b.parts }) node in
      absurd (cc)
  means_unique m (datum.Record fs) (datum.Record gs) p a b =
      let first = a.is_key in
      let second = b.is_key in
      let key : a.key ≡ b.key = cc in
      let node : Some (record { form = record_form (names_of fs); parts = a.parts }) ≡ Some (record { form = record_form (names_of gs); parts = b.parts }) = sym a.is_node ∙ ap (at m) key ∙ b.is_node in
      let names = record_names (names_of fs) (names_of gs) (same_form (record { form = record_form (names_of fs); parts = a.parts }) (record { form = record_form (names_of gs); parts = b.parts }) node) in
      let same = fields_unique m fs gs a.parts names a.pass_all (subst (MeanFields m gs) (sym (ap parts_in node)) b.pass_all) in
      ap datum.Record same

  pub data_unique : (m : Map) (ds es : Data) (ps : List Part) → MeanAll m ds ps → MeanAll m es ps → ds ≡ es
  data_unique m no_items no_items ps a b = refl
  data_unique m no_items (item e es) [] a b = absurd b
  data_unique m no_items (item e es) (p ∷ ps) a b = absurd (cc)
  data_unique m (item d ds) no_items [] a b = absurd a
  data_unique m (item d ds) no_items (p ∷ ps) a b = absurd (cc)
  data_unique m (item d ds) (item e es) [] a b = absurd a
  data_unique m (item d ds) (item e es) (p ∷ ps) a b =
      let first = means_unique m d e p a.0 b.0 in
      let rest = data_unique m ds es ps a.1 b.1 in
      cc

  fields_unique : (m : Map) (fs gs : Fields) (ps : List Part) → names_of fs ≡ names_of gs → MeanFields m fs ps → MeanFields m gs ps → fs ≡ gs
  fields_unique m no_fields no_fields ps names a b = refl
  fields_unique m no_fields (field k e gs) ps names a b = absurd (cc)
  fields_unique m (field n d fs) no_fields ps names a b = absurd (cc)
  fields_unique m (field n d fs) (field k e gs) [] names a b = absurd a
  fields_unique m (field n d fs) (field k e gs) (p ∷ ps) names a b =
      let first = means_unique m d e p a.0 b.0 in
      let head : n ≡ k = cc in
      let tail : names_of fs ≡ names_of gs = cc in
      let rest = fields_unique m fs gs ps tail a.1 b.1 in
      cc
