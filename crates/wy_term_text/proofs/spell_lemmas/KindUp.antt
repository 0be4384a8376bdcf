-- The kind that is named, and the names of a record's fields: what stands for them covers all that may come.
use Rattle.std.proofs.Common.{◌≡◌, ◌↔◌, ℕ, Bool, false, List, [], ◌∷◌, ◌++◌, codes, refl, sym, ap, ◌∙◌, subst, length, append_assoc, IsTrue, Option, Some, None, Result, Ok, Err, IfOk, MatchOption, Vec, Bor, map}
use Rattle.std.proofs.lemmas.List.{append-nil}
use Rattle.wy_term.proofs.wy_lemmas_proofs.Choices.{unlike as true_false}
use Rattle.wy_term.specs.wy_data.scan.Front.{IsBehind, NotBehind, heads, is_word_byte}
use Rattle.wy_term.specs.wy_data.scan.Words.{NoWord, AreFields}
use Rattle.wy_term.proofs.wy_data_proofs.scan_lemmas.WordLemmas.{from_true}
use Rattle.wy_term.specs.Term.{DataKind, null_kind, bool_kind, int_kind, array_kind, record_kind, Term}
use Rattle.wy_term.specs.Term as term
use Rattle.wy_term_text.specs.spell.Grammar.{more_names, kind_before, IsKind}
use Rattle.wy_term_text.specs.spell.Todo.{Work, root, kind_name, kind_fields, Rooted, Goes, Covers, Refuses}
use Rattle.wy_term_text.specs.spell.Fields.{IsKindFieldRead}
use Rattle.wy_term_text.specs.spell.View.{seen}
use Rattle.wy_term_text.specs.declared.spell.work.Task.{Task}
use Rattle.wy_term.specs.wy_items.declared.memory.NoMemory.{NoMemory}
use Rattle.std.specs.declared.alloc.Global.{Global}
use Rattle.wy_term_text.proofs.spell_lemmas.GoesUp.{apart, no_word_byte, word_is, covers, tail_of, tail_word}

-- ---- kinds by what stands there

-- a kind that is written so is this one
record Only (kind : DataKind) (l k : List ℕ) (wanted : DataKind) : Type 0 where
  kind_is : kind ≡ wanted
  rest_is : l ≡ k

null_only : (kind : DataKind) (l k : List ℕ) → codes "null)" ++ k ≡ kind_before kind (codes ")" ++ l) → Only kind l k null_kind
null_only null_kind l k e = record { kind_is = refl; rest_is = cc }
null_only bool_kind l k e = absurd (apart 110 98 _ _ e refl)
null_only int_kind l k e = absurd (apart 110 105 _ _ e refl)
null_only array_kind l k e = absurd (apart 110 97 _ _ e refl)
null_only (record_kind names) l k e = absurd (apart 110 123 _ _ e refl)

bool_only : (kind : DataKind) (l k : List ℕ) → codes "bool)" ++ k ≡ kind_before kind (codes ")" ++ l) → Only kind l k bool_kind
bool_only null_kind l k e = absurd (apart 98 110 _ _ e refl)
bool_only bool_kind l k e = record { kind_is = refl; rest_is = cc }
bool_only int_kind l k e = absurd (apart 98 105 _ _ e refl)
bool_only array_kind l k e = absurd (apart 98 97 _ _ e refl)
bool_only (record_kind names) l k e = absurd (apart 98 123 _ _ e refl)

int_only : (kind : DataKind) (l k : List ℕ) → codes "int)" ++ k ≡ kind_before kind (codes ")" ++ l) → Only kind l k int_kind
int_only null_kind l k e = absurd (apart 105 110 _ _ e refl)
int_only bool_kind l k e = absurd (apart 105 98 _ _ e refl)
int_only int_kind l k e = record { kind_is = refl; rest_is = cc }
int_only array_kind l k e = absurd (apart 105 97 _ _ e refl)
int_only (record_kind names) l k e = absurd (apart 105 123 _ _ e refl)

array_only : (kind : DataKind) (l k : List ℕ) → codes "array)" ++ k ≡ kind_before kind (codes ")" ++ l) → Only kind l k array_kind
array_only null_kind l k e = absurd (apart 97 110 _ _ e refl)
array_only bool_kind l k e = absurd (apart 97 98 _ _ e refl)
array_only int_kind l k e = absurd (apart 97 105 _ _ e refl)
array_only array_kind l k e = record { kind_is = refl; rest_is = cc }
array_only (record_kind names) l k e = absurd (apart 97 123 _ _ e refl)

empty_only : (kind : DataKind) (l k : List ℕ) → IsKind kind → codes "{})" ++ k ≡ kind_before kind (codes ")" ++ l) → Only kind l k (record_kind [])
empty_only null_kind l k range e = absurd (apart 123 110 _ _ e refl)
empty_only bool_kind l k range e = absurd (apart 123 98 _ _ e refl)
empty_only int_kind l k range e = absurd (apart 123 105 _ _ e refl)
empty_only array_kind l k range e = absurd (apart 123 97 _ _ e refl)
empty_only (record_kind []) l k range e = record { kind_is = refl; rest_is = cc }
empty_only (record_kind (n ∷ ns)) l k range e = absurd (no_word_byte n 125 (more_names ns (125 ∷ 41 ∷ l)) (41 ∷ k) range.words.0 refl (let f : 125 ∷ 41 ∷ k ≡ n ++ more_names ns (125 ∷ 41 ∷ l) = cc in sym f))

-- what a kind is in the text, where `{` stands first and no `}` behind it
record Listed (kind : DataKind) (l c : List ℕ) : Type 0 where
  name : List ℕ
  others : List (List ℕ)
  kind_is : kind ≡ record_kind (name ∷ others)
  text_is : c ≡ name ++ more_names others (codes "})" ++ l)

listed_only : (kind : DataKind) (l a c : List ℕ) → IsBehind (codes "{") a c → NotBehind (codes "{})") a → a ≡ kind_before kind (codes ")" ++ l) → Listed kind l c
listed_only null_kind l a c brace none e = absurd (apart 123 110 _ _ (sym brace.is ∙ e) refl)
listed_only bool_kind l a c brace none e = absurd (apart 123 98 _ _ (sym brace.is ∙ e) refl)
listed_only int_kind l a c brace none e = absurd (apart 123 105 _ _ (sym brace.is ∙ e) refl)
listed_only array_kind l a c brace none e = absurd (apart 123 97 _ _ (sym brace.is ∙ e) refl)
listed_only (record_kind []) l a c brace none e = absurd (none l (record { is = e }))
listed_only (record_kind (n ∷ ns)) l a c brace none e = record { name = n; others = ns; kind_is = refl; text_is = sym (tail_of (codes "{") a c (n ++ more_names ns (125 ∷ 41 ∷ l)) brace e) }

-- no name goes on behind a name
names_end : (ns : List (List ℕ)) (l : List ℕ) → heads is_word_byte (more_names ns (codes "})" ++ l)) ≡ false
names_end [] l = refl
names_end (n ∷ ns) l = refl

pub cover_kind_null : (b base : ℕ) (i a k : List ℕ) (ws : List Work) → ws ≡ (root (term.of_kind null_kind) b ∷ []) → IsBehind (codes ", ") i a → IsBehind (codes "null)") a k → Covers (kind_name b) i base ws k
cover_kind_null b base i a k ws same comma at = covers (kind_name b) i base ws (root (term.of_kind null_kind) b ∷ []) k same by
  where
    by : (rest : List Work) (done : List Term) (r : Term) → length done ≡ base → Goes (kind_name b ∷ rest) i done r → Goes (root (term.of_kind null_kind) b ∷ rest) k done r
    by rest done r is (kind, l, range, e, h) =
        let o = null_only kind l k (sym at.is ∙ sym (tail_of (codes ", ") i a (kind_before kind (41 ∷ l)) comma e)) in
        subst (λ x. Rooted (term.of_kind x) b (Goes rest) k done r) o.kind_is (subst (λ x. Rooted (term.of_kind kind) b (Goes rest) x done r) o.rest_is h)

pub cover_kind_bool : (b base : ℕ) (i a k : List ℕ) (ws : List Work) → ws ≡ (root (term.of_kind bool_kind) b ∷ []) → IsBehind (codes ", ") i a → IsBehind (codes "bool)") a k → Covers (kind_name b) i base ws k
cover_kind_bool b base i a k ws same comma at = covers (kind_name b) i base ws (root (term.of_kind bool_kind) b ∷ []) k same by
  where
    by : (rest : List Work) (done : List Term) (r : Term) → length done ≡ base → Goes (kind_name b ∷ rest) i done r → Goes (root (term.of_kind bool_kind) b ∷ rest) k done r
    by rest done r is (kind, l, range, e, h) =
        let o = bool_only kind l k (sym at.is ∙ sym (tail_of (codes ", ") i a (kind_before kind (41 ∷ l)) comma e)) in
        subst (λ x. Rooted (term.of_kind x) b (Goes rest) k done r) o.kind_is (subst (λ x. Rooted (term.of_kind kind) b (Goes rest) x done r) o.rest_is h)

pub cover_kind_int : (b base : ℕ) (i a k : List ℕ) (ws : List Work) → ws ≡ (root (term.of_kind int_kind) b ∷ []) → IsBehind (codes ", ") i a → IsBehind (codes "int)") a k → Covers (kind_name b) i base ws k
cover_kind_int b base i a k ws same comma at = covers (kind_name b) i base ws (root (term.of_kind int_kind) b ∷ []) k same by
  where
    by : (rest : List Work) (done : List Term) (r : Term) → length done ≡ base → Goes (kind_name b ∷ rest) i done r → Goes (root (term.of_kind int_kind) b ∷ rest) k done r
    by rest done r is (kind, l, range, e, h) =
        let o = int_only kind l k (sym at.is ∙ sym (tail_of (codes ", ") i a (kind_before kind (41 ∷ l)) comma e)) in
        subst (λ x. Rooted (term.of_kind x) b (Goes rest) k done r) o.kind_is (subst (λ x. Rooted (term.of_kind kind) b (Goes rest) x done r) o.rest_is h)

pub cover_kind_array : (b base : ℕ) (i a k : List ℕ) (ws : List Work) → ws ≡ (root (term.of_kind array_kind) b ∷ []) → IsBehind (codes ", ") i a → IsBehind (codes "array)") a k → Covers (kind_name b) i base ws k
cover_kind_array b base i a k ws same comma at = covers (kind_name b) i base ws (root (term.of_kind array_kind) b ∷ []) k same by
  where
    by : (rest : List Work) (done : List Term) (r : Term) → length done ≡ base → Goes (kind_name b ∷ rest) i done r → Goes (root (term.of_kind array_kind) b ∷ rest) k done r
    by rest done r is (kind, l, range, e, h) =
        let o = array_only kind l k (sym at.is ∙ sym (tail_of (codes ", ") i a (kind_before kind (41 ∷ l)) comma e)) in
        subst (λ x. Rooted (term.of_kind x) b (Goes rest) k done r) o.kind_is (subst (λ x. Rooted (term.of_kind kind) b (Goes rest) x done r) o.rest_is h)

pub cover_no_kind_fields : (b base : ℕ) (i a k : List ℕ) (ws : List Work) → ws ≡ (root (term.of_kind (record_kind [])) b ∷ []) → IsBehind (codes ", ") i a → IsBehind (codes "{})") a k → Covers (kind_name b) i base ws k
cover_no_kind_fields b base i a k ws same comma at = covers (kind_name b) i base ws (root (term.of_kind (record_kind [])) b ∷ []) k same by
  where
    by : (rest : List Work) (done : List Term) (r : Term) → length done ≡ base → Goes (kind_name b ∷ rest) i done r → Goes (root (term.of_kind (record_kind [])) b ∷ rest) k done r
    by rest done r is (kind, l, range, e, h) =
        let o = empty_only kind l k range (sym at.is ∙ sym (tail_of (codes ", ") i a (kind_before kind (41 ∷ l)) comma e)) in
        subst (λ x. Rooted (term.of_kind x) b (Goes rest) k done r) o.kind_is (subst (λ x. Rooted (term.of_kind kind) b (Goes rest) x done r) o.rest_is h)

-- the name was read, and others may follow
kind_field_goes : (names : List (List ℕ)) (b : ℕ) (c k : List ℕ) (ws : List Work) (n : List ℕ) (others : List (List ℕ)) (l : List ℕ) (rest : List Work) (done : List Term) (r : Term)
    → IsKindFieldRead names b c ws k → AreFields (names ++ (n ∷ others)) → c ≡ n ++ more_names others (codes "})" ++ l) → Rooted (term.of_kind (record_kind (names ++ (n ∷ others)))) b (Goes rest) l done r → Goes (ws ++ rest) k done r
kind_field_goes names b c k ws n others l rest done r read range e h =
    let o = word_is c read.name k n (more_names others (125 ∷ 41 ∷ l)) read.word (tail_word names n others range) (names_end others l) e in
    let works : ws ≡ kind_fields (names ++ n ∷ []) b ∷ [] = read.works ∙ ap (λ x. kind_fields (names ++ x ∷ []) b ∷ []) o.front in
    let flat : names ++ (n ∷ others) ≡ (names ++ n ∷ []) ++ others = sym (append_assoc names (n ∷ []) others) in
    subst (λ (us : List Work). Goes (us ++ rest) k done r) (sym works) (others, l, subst AreFields flat range, o.rest, subst (λ x. Rooted (term.of_kind (record_kind x)) b (Goes rest) l done r) flat h)

pub cover_kind_first : (b base : ℕ) (i a c k : List ℕ) (names : List (List ℕ)) (ws : List Work) → names ≡ [] → IsBehind (codes ", ") i a → NotBehind (codes "{})") a → IsBehind (codes "{") a c → IsKindFieldRead names b c ws k → Covers (kind_name b) i base ws k
cover_kind_first b base i a c k names ws empty comma none brace read = record { complete = by }
  where
    by : (rest : List Work) (done : List Term) (r : Term) → length done ≡ base → Goes (kind_name b ∷ rest) i done r → Goes (ws ++ rest) k done r
    by rest done r is (kind, l, range, e, h) =
        let o = listed_only kind l a c brace none (sym (tail_of (codes ", ") i a (kind_before kind (41 ∷ l)) comma e)) in
        let here : IsKindFieldRead [] b c ws k = subst (λ (x : List (List ℕ)). IsKindFieldRead x b c ws k) empty read in
        kind_field_goes [] b c k ws o.name o.others l rest done r here (subst IsKind o.kind_is range) o.text_is (subst (λ x. Rooted (term.of_kind x) b (Goes rest) l done r) o.kind_is h)

pub refuse_kind_comma : (b base : ℕ) (i : List ℕ) → NotBehind (codes ", ") i → Refuses (kind_name b) i base
refuse_kind_comma b base i none = record { none = by }
  where
    by : (rest : List Work) (done : List Term) (r : Term) → length done ≡ base → Goes (kind_name b ∷ rest) i done r → ⊥
    by rest done r is (kind, l, range, e, h) = none _ (record { is = e })

-- no kind stands there
no_kind : (kind : DataKind) (l a : List ℕ) → a ≡ kind_before kind (codes ")" ++ l) → NotBehind (codes "null)") a → NotBehind (codes "bool)") a → NotBehind (codes "int)") a → NotBehind (codes "array)") a → NotBehind (codes "{") a → ⊥
no_kind null_kind l a e n b i r f = n l (record { is = e })
no_kind bool_kind l a e n b i r f = b l (record { is = e })
no_kind int_kind l a e n b i r f = i l (record { is = e })
no_kind array_kind l a e n b i r f = r l (record { is = e })
no_kind (record_kind names) l a e n b i r f = f _ (record { is = e })

pub refuse_kind : (b base : ℕ) (i a : List ℕ) → IsBehind (codes ", ") i a → NotBehind (codes "null)") a → NotBehind (codes "bool)") a → NotBehind (codes "int)") a → NotBehind (codes "array)") a → NotBehind (codes "{") a → Refuses (kind_name b) i base
refuse_kind b base i a comma no_null no_bool no_int no_array no_brace = record { none = by }
  where
    by : (rest : List Work) (done : List Term) (r : Term) → length done ≡ base → Goes (kind_name b ∷ rest) i done r → ⊥
    by rest done r is (kind, l, range, e, h) = no_kind kind l a (sym (tail_of (codes ", ") i a (kind_before kind (41 ∷ l)) comma e)) no_null no_bool no_int no_array no_brace

pub refuse_kind_first : (b base : ℕ) (i a c : List ℕ) → IsBehind (codes ", ") i a → NotBehind (codes "{})") a → IsBehind (codes "{") a c → NoWord c → Refuses (kind_name b) i base
refuse_kind_first b base i a c comma none brace neither = record { none = by }
  where
    by : (rest : List Work) (done : List Term) (r : Term) → length done ≡ base → Goes (kind_name b ∷ rest) i done r → ⊥
    by rest done r is (kind, l, range, e, h) =
        let o = listed_only kind l a c brace none (sym (tail_of (codes ", ") i a (kind_before kind (41 ∷ l)) comma e)) in
        let fields : AreFields (o.name ∷ o.others) = subst IsKind o.kind_is range in
        neither o.name (more_names o.others (125 ∷ 41 ∷ l)) (record { is = o.text_is; word = fields.words.0; ends = names_end o.others l })

pub cover_last_kind_field : (names : List (List ℕ)) (b base : ℕ) (i k : List ℕ) (ws : List Work) → ws ≡ (root (term.of_kind (record_kind names)) b ∷ []) → IsBehind (codes "})") i k → Covers (kind_fields names b) i base ws k
cover_last_kind_field names b base i k ws same at = covers (kind_fields names b) i base ws (root (term.of_kind (record_kind names)) b ∷ []) k same by
  where
    by : (rest : List Work) (done : List Term) (r : Term) → length done ≡ base → Goes (kind_fields names b ∷ rest) i done r → Goes (root (term.of_kind (record_kind names)) b ∷ rest) k done r
    by rest done r is ([], l, range, e, h) = subst (λ x. Rooted (term.of_kind (record_kind names)) b (Goes rest) x done r) (tail_of (codes "})") i k l at e) (subst (λ x. Rooted (term.of_kind (record_kind x)) b (Goes rest) l done r) (append-nil names) h)
    by rest done r is (n ∷ ns, l, range, e, h) = absurd (apart 44 125 _ _ (sym e ∙ at.is) refl)

pub refuse_last_kind_field : (names : List (List ℕ)) (b base : ℕ) (i k : List ℕ) (t : Bool) → (IsTrue t ↔ AreFields names) → t ≡ false → IsBehind (codes "})") i k → Refuses (kind_fields names b) i base
refuse_last_kind_field names b base i k t answer fails at = record { none = by }
  where
    by : (rest : List Work) (done : List Term) (r : Term) → length done ≡ base → Goes (kind_fields names b ∷ rest) i done r → ⊥
    by rest done r is ([], l, range, e, h) = true_false t (from_true t (answer.1 (subst AreFields (append-nil names) range))) fails
    by rest done r is (n ∷ ns, l, range, e, h) = apart 44 125 _ _ (sym e ∙ at.is) refl

pub cover_kind_more : (names : List (List ℕ)) (b base : ℕ) (i a k : List ℕ) (ws : List Work) → IsBehind (codes ", ") i a → IsKindFieldRead names b a ws k → Covers (kind_fields names b) i base ws k
cover_kind_more names b base i a k ws comma read = record { complete = by }
  where
    by : (rest : List Work) (done : List Term) (r : Term) → length done ≡ base → Goes (kind_fields names b ∷ rest) i done r → Goes (ws ++ rest) k done r
    by rest done r is ([], l, range, e, h) = absurd (apart 125 44 _ _ (sym e ∙ comma.is) refl)
    by rest done r is (n ∷ ns, l, range, e, h) = kind_field_goes names b a k ws n ns l rest done r read range (sym (tail_of (codes ", ") i a (n ++ more_names ns (125 ∷ 41 ∷ l)) comma e)) h

pub refuse_kind_fields_here : (names : List (List ℕ)) (b base : ℕ) (i : List ℕ) → NotBehind (codes "})") i → NotBehind (codes ", ") i → Refuses (kind_fields names b) i base
refuse_kind_fields_here names b base i none neither = record { none = by }
  where
    by : (rest : List Work) (done : List Term) (r : Term) → length done ≡ base → Goes (kind_fields names b ∷ rest) i done r → ⊥
    by rest done r is ([], l, range, e, h) = none l (record { is = e })
    by rest done r is (n ∷ ns, l, range, e, h) = neither _ (record { is = e })

pub refuse_kind_more : (names : List (List ℕ)) (b base : ℕ) (i a : List ℕ) → NotBehind (codes "})") i → IsBehind (codes ", ") i a → NoWord a → Refuses (kind_fields names b) i base
refuse_kind_more names b base i a none comma neither = record { none = by }
  where
    by : (rest : List Work) (done : List Term) (r : Term) → length done ≡ base → Goes (kind_fields names b ∷ rest) i done r → ⊥
    by rest done r is ([], l, range, e, h) = none l (record { is = e })
    by rest done r is (n ∷ ns, l, range, e, h) =
        neither n (more_names ns (125 ∷ 41 ∷ l)) (record { is = sym (tail_of (codes ", ") i a (n ++ more_names ns (125 ∷ 41 ∷ l)) comma e); word = tail_word names n ns range; ends = names_end ns l })

-- the same for what the function that reads a name answers

pub kind_fields_first : (b : ℕ) (i a c : List ℕ) (names : List (List ℕ)) (o : Result (Option (Vec Task Global × Bor (List ℕ))) NoMemory) → names ≡ [] → IsBehind (codes ", ") i a → NotBehind (codes "{})") a → IsBehind (codes "{") a c
    → IfOk o (λ r. MatchOption r (NoWord c) (λ p. IsKindFieldRead names b c (map seen p.0.items) p.1.now))
    → IfOk o (λ r. MatchOption r ((n : ℕ) → Refuses (kind_name b) i n) (λ p. (n : ℕ) → Covers (kind_name b) i n (map seen p.0.items) p.1.now))
kind_fields_first b i a c names (Err e) empty comma none brace read = tt
kind_fields_first b i a c names (Ok None) empty comma none brace read = λ n. refuse_kind_first b n i a c comma none brace read
kind_fields_first b i a c names (Ok (Some p)) empty comma none brace read = λ n. cover_kind_first b n i a c p.1.now names (map seen p.0.items) empty comma none brace read

pub kind_fields_more : (names : List (List ℕ)) (b : ℕ) (i a : List ℕ) (o : Result (Option (Vec Task Global × Bor (List ℕ))) NoMemory) → NotBehind (codes "})") i → IsBehind (codes ", ") i a
    → IfOk o (λ r. MatchOption r (NoWord a) (λ p. IsKindFieldRead names b a (map seen p.0.items) p.1.now))
    → IfOk o (λ r. MatchOption r ((n : ℕ) → Refuses (kind_fields names b) i n) (λ p. (n : ℕ) → Covers (kind_fields names b) i n (map seen p.0.items) p.1.now))
kind_fields_more names b i a (Err e) none comma read = tt
kind_fields_more names b i a (Ok None) none comma read = λ n. refuse_kind_more names b n i a none comma read
kind_fields_more names b i a (Ok (Some p)) none comma read = λ n. cover_kind_more names b n i a p.1.now (map seen p.0.items) comma read

pub ruleset kind_covers = (cover_kind_null, cover_kind_bool, cover_kind_int, cover_kind_array, cover_no_kind_fields, cover_kind_first, refuse_kind_comma, refuse_kind, refuse_kind_first, cover_last_kind_field, refuse_last_kind_field, cover_kind_more, refuse_kind_fields_here, refuse_kind_more)
