use Rattle.std.proofs.Common.{List, [], ◌∷◌, ◌++◌, sym, ◌∙◌, ap, subst}
use Rattle.std.specs.Prelude.{Vec}
use Rattle.std.specs.declared.alloc.Global.{Global}
use Rattle.wy_heap.specs.declared.part.Part.{Part}
use Rattle.wy_heap.specs.Standing.{Stands, Acts}
use Rattle.wy_mach.proofs.CallLemmas.{last_places, leaves_result, result_means, no_places}
use Rattle.wy_mach.proofs.machine.Machine.end.Goals as goal

pub release_all-requires : goal.release_all-requires
release_all-requires c =
    let old = c.args.self.now in
    (c.args.given ∷ [], subst (λ (v : Vec Part Global). Stands old.heap (v.items ++ c.args.given ∷ [])) (sym c.replace-registers.ensures.value) (last_places old c.args.given c.requires.last c.requires.stands))

pub text_of-text-requires : goal.text_of-text-requires
text_of-text-requires c =
    let old = c.args.self.now in
    record { held = ([], (c.release_all.ensures.acts (c.args.given ∷ []) (subst (λ (v : Vec Part Global). Stands old.heap (v.items ++ c.args.given ∷ [])) (sym c.replace-registers.ensures.value) (last_places old c.args.given c.requires.last c.requires.stands))).stands) }

pub release-requires : goal.release-requires
release-requires c =
    let old = c.args.self.now in
    record { held = ([], (c.release_all.ensures.acts (c.args.given ∷ []) (subst (λ (v : Vec Part Global). Stands old.heap (v.items ++ c.args.given ∷ [])) (sym c.replace-registers.ensures.value) (last_places old c.args.given c.requires.last c.requires.stands))).stands) }

pub returns-in_err-text-clause-stands : goal.returns-in_err-text-clause-stands
returns-in_err-text-clause-stands c =
    let old = c.args.self.now in
    let first = c.release_all.ensures.acts (c.args.given ∷ []) (subst (λ (v : Vec Part Global). Stands old.heap (v.items ++ c.args.given ∷ [])) (sym c.replace-registers.ensures.value) (last_places old c.args.given c.requires.last c.requires.stands)) in
    no_places c.release.new.self c.replace-registers.new.dest.items old.callers.items (ap (λ (v : Vec Part Global). v.items) c.replace-registers.ensures.after ∙ c.new.ensures.items) c.requires.last (c.release.ensures.acts [] first.stands).stands

pub returns-clause-stands : goal.returns-clause-stands
returns-clause-stands c =
    let old = c.args.self.now in
    let first = c.release_all.ensures.acts (c.args.given ∷ []) (subst (λ (v : Vec Part Global). Stands old.heap (v.items ++ c.args.given ∷ [])) (sym c.replace-registers.ensures.value) (last_places old c.args.given c.requires.last c.requires.stands)) in
    no_places c.release.new.self c.replace-registers.new.dest.items old.callers.items (ap (λ (v : Vec Part Global). v.items) c.replace-registers.ensures.after ∙ c.new.ensures.items) c.requires.last (c.release.ensures.acts [] first.stands).stands

pub returns-clause-done : goal.returns-clause-done
returns-clause-done c d means =
    let old = c.args.self.now in
    let n = c.release_all.new.heap in
    let ps = old.frame.registers.items in
    let places = last_places old c.args.given c.requires.last c.requires.stands in
    let acts : (others : List Part) → Stands old.heap (ps ++ others) → Acts old.heap n [] others = λ others stands. c.release_all.ensures.acts others (subst (λ (v : Vec Part Global). Stands old.heap (v.items ++ others)) (sym c.replace-registers.ensures.value) stands) in (
      c.in_ok-text.ensures.text d (result_means old.heap n c.args.given ps d places acts means),
      leaves_result old.heap n c.args.given ps c.copies-copies.result c.live-nodes.result d places acts c.release_all.ensures.lasts c.live-nodes.ensures.value c.copies-copies.ensures.value c.release_all.ensures.copies means,
    )

pub returns-clause-leaves : goal.returns-clause-leaves
returns-clause-leaves c =
    let old = c.args.self.now in
    record {
      heap = c.release_all.new.heap;
      stands = (c.release_all.ensures.acts (c.args.given ∷ []) (subst (λ (v : Vec Part Global). Stands old.heap (v.items ++ c.args.given ∷ [])) (sym c.replace-registers.ensures.value) (last_places old c.args.given c.requires.last c.requires.stands))).stands;
      lasts = c.release_all.ensures.lasts;
      nodes_are = c.live-nodes.ensures.value;
      copies_are = c.copies-copies.ensures.value ∙ c.release_all.ensures.copies;
    }
