-- The example's type is grounded: a datum is greater than each of its fields.
use Rattle.std.proofs.Common.{◌≡◌, ℕ, suc, ◌+◌, ◌≤◌, List, [], ◌∷◌, Bool, true, false, cond, nat_lt, ◌&&◌, ◌||◌, refl, sym, ap, ◌∙◌, arith}
use Rattle.std.specs.Prelude.{codes, bytes_eq}
use Rattle.std.proofs.lemmas.Bool.{lt-ltb}
use Rattle.wy_term.proofs.wy_lemmas_proofs.Lists.{named_self}
use Rattle.wy_term.specs.wy_value.Datum as datum
use Rattle.wy_term.specs.wy_value.Datum.{Datum, Null, Truth, Whole, Array, Record, Data, no_items, item, Fields, no_fields}
use Rattle.wy_term.specs.Term.{null_kind, record_kind}
use Rattle.wy_term.specs.Data.{field_of, field_in, has_names, is_of_kind}
use Rattle.wy_term.specs.Meaning.{Names}
use Rattle.wy_term.specs.Condition.{Entry, says}
use Rattle.wy_term.specs.Unfolding.{Question, AnswerAlikeBefore, AreGrounded}
use Rattle.wy_term_subst.specs.grounded.Chains.{chain_name, next, is_chain, chains}
use Rattle.wy_term_subst.proofs.grounded_lemmas.UniqueLemmas.{ask}
use Rattle.wy_term_subst.proofs.grounded_lemmas.NumberLemmas.{founded_by_number}

abbrev mutual
  size : Datum → ℕ
  size Null = 0
  size (Truth b) = 0
  size (Whole z) = 0
  size (Array items) = suc (size_items items)
  size (Record fields) = suc (size_fields fields)

  size_items : Data → ℕ
  size_items no_items = 0
  size_items (item d rest) = size d + size_items rest

  size_fields : Fields → ℕ
  size_fields no_fields = 0
  size_fields (datum.field n d rest) = size d + size_fields rest

pub either_size : (b : Bool) (d e : Datum) (m : ℕ) → size e ≤ m → size (cond b d e) ≤ size d + m
either_size true d e m le = omega arith
either_size false d e m le = omega (arith, le)

field_size : (fields : Fields) (name : List ℕ) → size (field_of fields name) ≤ size_fields fields
field_size no_fields name = omega arith
field_size (datum.field n d rest) name = either_size (bytes_eq n name) d (field_of rest name) (size_fields rest) (field_size rest name)

field_less : (fields : Fields) (name : List ℕ) → nat_lt (size (field_of fields name)) (size (Record fields)) ≡ true
field_less fields name = let le = field_size fields name in lt-ltb (size (field_of fields name)) (suc (size_fields fields)) (omega (arith, le))

-- a question with a lesser datum comes before
abbrev lesser : Question → Question → Bool
lesser p q = nat_lt (size p.datum) (size q.datum)

abbrev chain : Entry
chain = record { type_number = 0; name = chain_name; formula = is_chain }

abbrev chain_says : Names → Datum → Bool
chain_says names d = is_of_kind null_kind d || ((is_of_kind (record_kind (next ∷ [])) d && (names.is_member 0 (field_in d next) && true)) || false)

says_chain : (names : Names) (d : Datum) → says names chain d ≡ chain_says names d
says_chain names d = ap (λ (b : Bool). chain_says names (cond b d (names.datum_of (codes "x") 0))) (named_self (codes "x") 0)

chain_alike : (names others : Names) (d : Datum) → AnswerAlikeBefore lesser chains (ask 0 d) names others → chain_says names d ≡ chain_says others d
chain_alike names others Null alike = refl
chain_alike names others (Truth b) alike = refl
chain_alike names others (Whole z) alike = refl
chain_alike names others (Array items) alike = refl
chain_alike names others (Record fields) alike =
    ap (λ (b : Bool). is_of_kind null_kind (Record fields) || ((has_names fields (next ∷ []) && (b && true)) || false)) (alike.0 (field_of fields next) (field_less fields next))

chain_earlier : (d : Datum) (names others : Names) → AnswerAlikeBefore lesser chains (ask 0 d) names others → says names chain d ≡ says others chain d
chain_earlier d names others alike = says_chain names d ∙ (chain_alike names others d alike ∙ sym (says_chain others d))

pub chains_grounded : AreGrounded chains
chains_grounded = record {
  once = (tt, tt);
  closed = (record { word = codes "x"; number = 0; is_name = refl; free = (refl, (refl, (refl, tt))) }, tt);
  before = lesser;
  descends = founded_by_number (λ q. size q.datum);
  earlier = (chain_earlier, tt);
}
