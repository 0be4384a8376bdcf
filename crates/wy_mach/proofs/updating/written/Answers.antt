use Rattle.std.proofs.Common.{◌≡◌, ◌∷◌, [], ◌++◌, List, inr, refl, sym, subst, ap, ◌∙◌, get_or, set}
use Rattle.std.proofs.lemmas.List.{set-set, set-get_or}
use Rattle.wy_heap.specs.declared.part.Part.{Part}
use Rattle.wy_heap.specs.declared.part.Part.TheVariants.{Null}
use Rattle.wy_heap.specs.Nodes.{map_of}
use Rattle.wy_heap.specs.Meaning.{Means}
use Rattle.wy_heap.specs.Standing.{Stands, AreHeld, Acts}
use Rattle.wy_heap.specs.Slots.{steps_of}
use Rattle.wy_heap.specs.Putting.{Sole, Puts, RoomAlong}
use Rattle.wy_mach.proofs.MakeLemmas.{made_turns, gives_made, refused_held, refused_turns}
use Rattle.wy_mach.proofs.RegisterLemmas.{acts_others, read_part, shared_in}
use Rattle.wy_mach.specs.Paths.{written_made}
use Rattle.wy_mach.proofs.UpdateLemmas.{second_held, both_held, set_spends, set_value, null_puts}
use Rattle.wy_mach.proofs.updating.written.Goals as goal

pub has_path-requires : goal.has_path-requires
has_path-requires c =
    let ps = c.args.registers.now in
    let i = c.args.whole in
    let x = c.index-registers-index.result in
    let is = read_part ps i (get_or ps i x) x c.requires.there refl in
    record { held = subst (λ (p : Part). AreHeld c.args.heap.now (p ∷ [])) (sym is) (second_held c.args.heap.now c.args.item (get_or ps i Null) (set ps i Null) c.requires.held) }

pub returns-then-not-has_path-clause-turns : goal.returns-then-not-has_path-clause-turns
returns-then-not-has_path-clause-turns c others stands =
    let h = c.args.heap.now in
    let ps = c.args.registers.now in
    let i = c.args.whole in
    acts_others h c.release.new.self ps others (c.release.ensures.acts (ps ++ others) (shared_in h c.args.item (get_or ps i Null) ps others i refl c.requires.there stands))

pub set-requires-clause-held : goal.set-requires-clause-held
set-requires-clause-held c =
    let h = c.args.heap.now in
    let ps = c.args.registers.now in
    let i = c.args.whole in
    let x = c.index-registers-index-2.result in
    let is = read_part ps i (get_or ps i x) x c.requires.there refl in
    subst (λ (p : Part). AreHeld h (p ∷ c.args.item ∷ [])) (sym is) (both_held h c.args.item (get_or ps i Null) (set ps i Null) c.requires.held)

pub release-requires-in-Err : goal.release-requires-in-Err
release-requires-in-Err c =
    let ps = c.args.registers.now in
    let place = get_or ps c.args.whole Null in
    let same = ap (λ (p : Part). p ∷ place ∷ []) c.in-Err.ensures.back in
    let back = refused_held c.args.heap.now c.set.new.self (c.args.item ∷ place ∷ []) (set ps c.args.whole Null) (c.in-Err.item ∷ place ∷ []) same c.in-Err.ensures.no_memory c.set.ensures.kept c.requires.held in
    record { held = (place ∷ back.0, back.1) }

pub returns-in-Ok-clause-turns : goal.returns-in-Ok-clause-turns
returns-in-Ok-clause-turns c =
    let h = c.args.heap.now in
    let n = c.set.new.self in
    let ps = c.args.registers.now in
    let i = c.args.whole in
    let item = c.args.item in
    let place = get_or ps i Null in
    let made = c.set.new.p in
    let x = c.index-registers-index-2.result in
    let is = read_part ps i (get_or ps i x) x c.requires.there refl in
    let acts : (others : List Part) → Stands h (place ∷ item ∷ others) → Acts h n (made ∷ []) others =
    λ others stands. c.in-Ok.ensures.acts others (subst (λ (p : Part). Stands h (p ∷ item ∷ others)) (sym is) stands) in
    made_turns h n n (item ∷ place ∷ []) (set ps i Null) (set ps i made) made (set_spends h n item place made acts) (null_puts n made ps i c.requires.there)

pub returns-in-Ok-clause-value : goal.returns-in-Ok-clause-value
returns-in-Ok-clause-value c =
    let h = c.args.heap.now in
    let n = c.set.new.self in
    let ps = c.args.registers.now in
    let i = c.args.whole in
    let item = c.args.item in
    let place = get_or ps i Null in
    let made = c.set.new.p in
    let path = steps_of h.shapes c.args.path.now in
    let x = c.index-registers-index-2.result in
    let is = read_part ps i (get_or ps i x) x c.requires.there refl in
    let acts : (others : List Part) → Stands h (place ∷ item ∷ others) → Acts h n (made ∷ []) others =
    λ others stands. c.in-Ok.ensures.acts others (subst (λ (p : Part). Stands h (p ∷ item ∷ others)) (sym is) stands) in
    gives_made h n n (item ∷ place ∷ []) (set ps i Null) (set ps i made) i made (written_made path) (set_spends h n item place made acts)
    (set_value h n item place made path (λ w u whole part. c.in-Ok.ensures.value w u (subst (Means (map_of h) w) (sym is) whole) part))
    c.requires.held (null_puts n made ps i c.requires.there) (sym (set-set ps i Null made))

pub returns-in-Ok-clause-shares : goal.returns-in-Ok-clause-shares
returns-in-Ok-clause-shares c =
    let h = c.args.heap.now in
    let n = c.set.new.self in
    let ps = c.args.registers.now in
    let i = c.args.whole in
    let path = steps_of h.shapes c.args.path.now in
    let x = c.index-registers-index-2.result in
    let is = read_part ps i (get_or ps i x) x c.requires.there refl in
    record {
      room = λ room. record {
        made = c.set.new.p;
        between = n;
        puts = subst (λ (p : Part). Puts h n p path c.args.item c.set.new.p) is (c.in-Ok.ensures.puts (subst (λ (p : Part). RoomAlong h p path) (sym is) room));
        registers = sym (set-set ps i Null c.set.new.p);
        lasts = λ k. inr refl;
        copies = refl;
      };
      sole = λ sole. c.in-Ok.ensures.copies.none (subst (λ (p : Part). Sole h p path) (sym is) sole);
    }

pub returns-in-Err-clause-turns : goal.returns-in-Err-clause-turns
returns-in-Err-clause-turns c others stands =
    let h = c.args.heap.now in
    let n = c.set.new.self in
    let o = c.release-in-Err.new.self in
    let ps = c.args.registers.now in
    let i = c.args.whole in
    let x = c.index-registers-index-2.result in
    let place = get_or ps i Null in
    let is = read_part ps i (get_or ps i x) x c.requires.there refl in
    let left : set ps i c.set.new.p ≡ ps = ap (λ (p : Part). set ps i p) (c.in-Err.ensures.same ∙ is) ∙ set-get_or ps i Null in
    subst (λ (l : List Part). Acts h o l others) (sym left)
    (refused_turns h n o (c.args.item ∷ []) ps (c.in-Err.item ∷ []) (ap (λ (p : Part). p ∷ []) c.in-Err.ensures.back) c.in-Err.ensures.no_memory c.set.ensures.kept c.release-in-Err.ensures.acts others
    (shared_in h c.args.item place ps others i refl c.requires.there stands))
