use Rattle.std.proofs.Common.{rules, arith, ◌≡◌, ◌∙◌, ◌<◌, ◌≤◌, ◌+◌, ◌++◌, ◌∷◌, [], ℕ, List, All, length, map, drop, subst, sym, ap}
use Rattle.std.proofs.lemmas.List.Elements.{All-push}
use Rattle.wy_term_text.proofs.wy_lemmas_proofs.Lists.{map_pushed}
use Rattle.wy_term.specs.Condition.{Condition, condition_of}
use Rattle.wy_cert.specs.declared.step.Cert.{Cert}
use Rattle.wy_cert.specs.Only.{IsTheOne, HasNone, GoesOn}
use Rattle.wy_cert.specs.Steps.{Written, Certificates, steps_of, NamesItsTerms}
use Rattle.wy_check.specs.wy_check_laws.reread.Writable.{AreWritable}
use Rattle.wy_cache_text.specs.Seen.{all_held}
use Rattle.wy_cache.specs.Kept.{IsKept, AreKept}
use Rattle.wy_cache.proofs.KeptLemmas.{drop_mapped, none_dropped, within_at, same_condition, turn_kept, turn_not_kept, all_turned, kept_value, kept_none}
use Rattle.wy_cache.proofs.keeping.kept_among.Goals as goal

pub loop-place-preserved-in_default-2 : goal.loop-place-preserved-in_default-2
loop-place-preserved-in_default-2 c =
    let old = c.args.terms.now in
    let conds = c.args.conds.now in
    let i = c.loop-place.place in
    let cond = c.index-conds-place.result in
    let es = all_held c.args.cache.now.entries.items in
    let lt : i < length conds = search rules in
    let within = within_at (length old) conds i cond c.requires.conds lt c.index-conds-place.is in
    let same = same_condition old c.loop-place.terms cond c.loop-place.invariant.same c.loop-place.invariant.kept within in
    let never : HasNone (IsKept es (condition_of c.loop-place.terms cond)) = kept_none es (condition_of c.loop-place.terms cond) c.in_ok-cert.field-0 c.in_default-2.is (c.in_ok-cert.ensures.value es c.in_ok-table.ensures.value) in
    record {
      all = turn_not_kept es (AreKept es 1 (map (condition_of old) conds)) (map (λ (e : ℕ × Cert). (e.0, steps_of e.1)) c.loop-place.list.items) (i + 1) (condition_of old cond) (drop (i + 1) (map (condition_of old) conds)) (drop i (map (condition_of old) conds))
          (drop_mapped (condition_of old) conds i cond lt c.index-conds-place.is) (subst (λ (d : Condition). HasNone (IsKept es d)) same never) c.loop-place.invariant.all;
      names = c.loop-place.invariant.names;
      writable = c.loop-place.invariant.writable;
      shown = c.in_ok-cert.ensures.shown;
      same = c.in_ok-cert.ensures.length ∙ c.loop-place.invariant.same;
      kept = λ t less. c.in_ok-cert.ensures.kept t (omega (arith, less, c.loop-place.invariant.same)) ∙ c.loop-place.invariant.kept t less;
    }

pub loop-place-preserved : goal.loop-place-preserved
loop-place-preserved c =
    let old = c.args.terms.now in
    let conds = c.args.conds.now in
    let i = c.loop-place.place in
    let cond = c.index-conds-place.result in
    let es = all_held c.args.cache.now.entries.items in
    let pair : ℕ × Cert → ℕ × List Written = λ (e : ℕ × Cert). (e.0, steps_of e.1) in
    let lt : i < length conds = search rules in
    let number : c.in-Ok.number ≡ i + 1 = search rules in
    let within = within_at (length old) conds i cond c.requires.conds lt c.index-conds-place.is in
    let same = same_condition old c.loop-place.terms cond c.loop-place.invariant.same c.loop-place.invariant.kept within in
    let the : IsTheOne (IsKept es (condition_of c.loop-place.terms cond)) (steps_of c.in-Some.cert) = kept_value es (condition_of c.loop-place.terms cond) c.in_ok-cert.field-0 c.in-Some.cert c.in-Some.is (c.in_ok-cert.ensures.value es c.in_ok-table.ensures.value) in
    let names : NamesItsTerms c.in-Some.cert = search rules in
    let writable : AreWritable (steps_of c.in-Some.cert) = search rules in
    let put = c.in_ok-push.ensures.items in
    let more : map pair c.push.new.self.items ≡ map pair c.loop-place.list.items ++ (i + 1, steps_of c.in-Some.cert) ∷ []
    = ap (map pair) put ∙ map_pushed pair c.loop-place.list.items (c.in-Ok.number, c.in-Some.cert) ∙ ap (λ (n : ℕ). map pair c.loop-place.list.items ++ (n, steps_of c.in-Some.cert) ∷ []) number in
    record {
      all = subst (λ (done : Certificates). GoesOn done (AreKept es (i + 1 + 1) (drop (i + 1) (map (condition_of old) conds))) (AreKept es 1 (map (condition_of old) conds))) (sym more)
          (turn_kept es (AreKept es 1 (map (condition_of old) conds)) (map pair c.loop-place.list.items) (i + 1) (condition_of old cond) (drop (i + 1) (map (condition_of old) conds)) (drop i (map (condition_of old) conds)) (steps_of c.in-Some.cert)
          (drop_mapped (condition_of old) conds i cond lt c.index-conds-place.is) (subst (λ (d : Condition). IsTheOne (IsKept es d) (steps_of c.in-Some.cert)) same the) c.loop-place.invariant.all);
      names = subst (All (λ (e : ℕ × Cert). NamesItsTerms e.1)) (sym put) (All-push (λ (e : ℕ × Cert). NamesItsTerms e.1) c.loop-place.list.items (c.in-Ok.number, c.in-Some.cert) c.loop-place.invariant.names names);
      writable = subst (All (λ (e : ℕ × Cert). AreWritable (steps_of e.1))) (sym put) (All-push (λ (e : ℕ × Cert). AreWritable (steps_of e.1)) c.loop-place.list.items (c.in-Ok.number, c.in-Some.cert) c.loop-place.invariant.writable writable);
      shown = c.in_ok-cert.ensures.shown;
      same = c.in_ok-cert.ensures.length ∙ c.loop-place.invariant.same;
      kept = λ t less. c.in_ok-cert.ensures.kept t (omega (arith, less, c.loop-place.invariant.same)) ∙ c.loop-place.invariant.kept t less;
    }

pub returns-clause-value : goal.returns-clause-value
returns-clause-value c =
    let old = c.args.terms.now in
    let conds = c.args.conds.now in
    let i = c.loop-place.place in
    let le : length conds ≤ i = search rules in
    all_turned (all_held c.args.cache.now.entries.items) (AreKept (all_held c.args.cache.now.entries.items) 1 (map (condition_of old) conds)) (map (λ (e : ℕ × Cert). (e.0, steps_of e.1)) c.loop-place.list.items) (i + 1) (drop i (map (condition_of old) conds))
    (none_dropped (condition_of old) conds i le) c.loop-place.invariant.all
