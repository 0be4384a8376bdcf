-- The table of entries, from the last on, and sets of keys.
use Rattle.std.proofs.Common.{◌≡◌, ◌+◌, ◌<◌, ℕ, List, ◌∷◌, Bool, true, false, cond, Bor, Option, Some, drop, length, get_or, bytes_eq, refl, sym, ap, ◌∙◌}
use Rattle.std.specs.HashMap.{HashMap, UpdatesBy, get_by}
use Rattle.std.specs.Option.{option_map}
use Rattle.std.proofs.lemmas.Map.Text.{hash_map_updates_str}
use Rattle.std.proofs.lemmas.List.{drop_more}
use Rattle.wy_cache_text.specs.declared.entry.Entry.{Entry}
use Rattle.wy_cache_text.specs.Found.{steps_for}
use Rattle.wy_cache_text.specs.Seen.{all_held}

abbrev bytes_now : Bor (List ℕ) → List ℕ
bytes_now s = s.now

chosen : (b : Bool) (s : Bor (List ℕ)) (o : Option (Bor (List ℕ))) → option_map bytes_now (cond b (Some s) o) ≡ cond b (Some s.now) (option_map bytes_now o)
chosen true s o = refl
chosen false s o = refl

-- one place nearer to the front
pub found_next : {S : Type 0} (items : List Entry) (last k : ℕ) (e : Entry) (key steps : Bor (List ℕ)) (was now : HashMap (Bor (List ℕ)) (Bor (List ℕ)) S) → last ≡ k + 1 → k < length items → e ≡ get_or items k e
    → key.now ≡ e.key.items → steps.now ≡ e.steps.items
    → ((q : List ℕ) → option_map bytes_now (get_by (λ j. bytes_eq q j.now) was) ≡ steps_for (all_held (drop last items)) q)
    → UpdatesBy (λ x y. bytes_eq x.now y.now) (λ j. bytes_eq key.now j.now) was now (Some steps)
    → (q : List ℕ) → option_map bytes_now (get_by (λ j. bytes_eq q j.now) now) ≡ steps_for (all_held (drop k items)) q
found_next items last k e key steps was now is lt at at_key at_steps so updates q =
    let front : drop k items ≡ e ∷ drop last items = drop_more items k e lt ∙ ap (λ (d : Entry). d ∷ drop (k + 1) items) (sym at) ∙ ap (λ (j : ℕ). e ∷ drop j items) (sym is) in
    ap (option_map bytes_now) (hash_map_updates_str key.now was now (Some steps) updates q)
    ∙ chosen (bytes_eq key.now q) steps (get_by (λ j. bytes_eq q j.now) was)
    ∙ ap (λ (o : Option (List ℕ)). cond (bytes_eq key.now q) (Some steps.now) o) (so q)
    ∙ ap (λ (i : List ℕ). cond (bytes_eq i q) (Some steps.now) (steps_for (all_held (drop last items)) q)) at_key
    ∙ ap (λ (i : List ℕ). cond (bytes_eq e.key.items q) (Some i) (steps_for (all_held (drop last items)) q)) at_steps
    ∙ sym (ap (λ (es : List Entry). steps_for (all_held es) q) front)
