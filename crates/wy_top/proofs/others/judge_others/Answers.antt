use Rattle.std.proofs.Common.{◌≡◌, ◌∙◌, [], ℕ, List, All, length, map, rules, sym, ap, subst}
use Rattle.std.proofs.lemmas.List.{length-map}
use Rattle.wy_batch.specs.Known.{AreKnown}
use Rattle.wy_batch.specs.Seen.{known}
use Rattle.wy_batch.specs.wy_check.Within.{IsWithin}
use Rattle.wy_cert.specs.Steps.{certificates_of}
use Rattle.wy_cert.specs.declared.step.Cert.{Cert}
use Rattle.wy_term.specs.Condition.{Condition, condition_of}
use Rattle.wy_term.specs.declared.cond.Cond.{Cond}
use Rattle.wy_top.specs.Taken.{beside, known_kept, others_of, pairs}
use Rattle.wy_top.proofs.OthersLemmas.{many_beside}
use Rattle.wy_top.proofs.others.judge_others.Goals as goal

pub judge-requires-clause-conds : goal.judge-requires-clause-conds
judge-requires-clause-conds g c = λ lifetimes within. c.in_ok-others.ensures.within (length c.args.conds.terms) (subst (All (IsWithin (length c.args.conds.terms))) (sym c.deref.ensures.value) c.requires.conds)

pub returns-clause-judged : goal.returns-clause-judged
returns-clause-judged g c =
    let of = condition_of c.args.conds.terms in
    let list = c.args.conds.list.items in
    let cs = map of list in
    let certs = certificates_of c.args.kept.now in
    let ks = map known c.in_ok-verdicts.verdicts.items in
    let here : map of c.in_ok-others.field-0.items ≡ others_of 1 certs cs =
    c.in_ok-others.ensures.value c.args.conds.terms ∙ ap (λ (ds : List (ℕ × Cert)). others_of 1 (pairs ds) (map of c.deref.result.now)) c.deref-2.ensures.value
    ∙ ap (λ (l : List Cond). others_of 1 certs (map of l)) c.deref.ensures.value in
    let many : c.len.result ≡ length list = search rules in
    record {
      others = ks;
      known = subst (λ (xs : List Condition). AreKnown [] c.args.budget 1 xs ks) here (subst (λ (ds : List (ℕ × Cert)). AreKnown (pairs ds) c.args.budget 1 (map of c.in_ok-others.field-0.items) ks) c.new.ensures.items c.in_ok-verdicts.ensures.known);
      are =
          c.in_ok-verdicts-2.ensures.value ∙ ap (λ (ds : List (ℕ × Cert)). beside known_kept 1 (pairs ds) c.len.result ks) c.deref-3.ensures.value
          ∙ ap (λ (n : ℕ). beside known_kept 1 certs n ks) (many ∙ sym (length-map list of));
    }

pub returns-clause-count : goal.returns-clause-count
returns-clause-count g c =
    let of = condition_of c.args.conds.terms in
    let cs = map of c.args.conds.list.items in
    many_beside c.args.budget (certificates_of c.args.kept.now) cs c.in_ok-verdicts-2.verdicts.items (returns-clause-judged g c) ∙ length-map c.args.conds.list.items of
