-- The line of a fault, as it is put together.
use Rattle.std.proofs.Common.{◌≡◌, ◌∙◌, ◌++◌, ℕ, List, [], ◌∷◌, map, refl, sym, ap, ap₂, append_assoc}
use Rattle.wy_link_load.specs.wy_parse_front.Places.{place_of}
use Rattle.wy_term.specs.Condition.{word_of}
use Rattle.wy_term.specs.declared.cond.CondKind.{CondKind}
use Rattle.wy_value.specs.Datum.{item}
use Rattle.wy_value.specs.Seen.{data_of, seen, seen_items}
use Rattle.wy_value.specs.Shown.{shown_items}
use Rattle.wy_value.specs.declared.value.Value.{Value}
use Rattle.wy_top_probe.specs.Probing.{fault_head, fault_line}

seen_data : (vs : List Value) → data_of (map seen vs) ≡ seen_items vs
seen_data [] = refl
seen_data (v ∷ vs) = ap (item (seen v)) (seen_data vs)

abbrev end : List ℕ
end = 41 ∷ 10 ∷ []

pub fault_written : (bytes word : List ℕ) (vs : List Value) (kind : CondKind) (at row column : ℕ) (head shown first second : List ℕ) → (row, column) ≡ place_of bytes at → word ≡ word_of kind → head ≡ fault_head word row column
    → shown ≡ shown_items (seen_items vs) → first ≡ head ++ shown → second ≡ first ++ end → second ≡ fault_line bytes (map seen vs) kind at
fault_written bytes word vs kind at row column head shown first second place is_word is_head is_shown one two =
    two ∙ (ap (λ (t : List ℕ). t ++ end) one ∙ (append_assoc head shown end ∙ ap₂ (λ (h s : List ℕ). h ++ (s ++ end))
    (is_head ∙ (ap (λ (w : List ℕ). fault_head w row column) is_word ∙ ap (λ (p : ℕ × ℕ). fault_head (word_of kind) p.0 p.1) place)) (is_shown ∙ ap shown_items (sym (seen_data vs)))))
