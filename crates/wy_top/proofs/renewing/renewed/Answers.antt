use Rattle.std.proofs.Common.{◌≡◌, ◌<◌, ◌≤◌, ◌∙◌, ◌+◌, ◌++◌, ◌∷◌, ℕ, List, All, drop, length, map, rules, refl, sym, ap, subst, arith}
use Rattle.std.proofs.lemmas.List.Elements.{All-nil}
use Rattle.wy_batch.proofs.JudgedLemmas.{same_condition, within_at}
use Rattle.wy_batch.specs.Seen.{known, seen_end}
use Rattle.wy_batch.specs.declared.verdict.Verdict.{Verdict}
use Rattle.wy_cache_text.specs.Files.{Entries}
use Rattle.wy_cert.specs.Steps.{NamesItsTerms, certificates_of}
use Rattle.wy_cert.specs.declared.step.Cert.{Cert}
use Rattle.wy_prove.specs.Answers.{IsFormedThroughout}
use Rattle.wy_term.specs.Condition.{Condition, condition_of}
use Rattle.wy_top.specs.Caches.{AreSaved, IsMade}
use Rattle.wy_top.specs.Taken.{AreTaken, IsWritten, waiting}
use Rattle.wy_top.proofs.FoundLemmas.{formed_at, named_more, pair_of}
use Rattle.wy_top.proofs.RenewLemmas.{All-turned, next_follows, next_taken, none_follows, saves_none, saves_some, turned}
use Rattle.wy_top.proofs.renewing.renewed.Goals as goal

pub loop-i-init : goal.loop-i-init
loop-i-init c =
    let cs = map (condition_of c.args.terms.now) c.args.conds.now in
    let ks = map known c.args.verdicts.now in
    let named = λ (e : ℕ × Cert). NamesItsTerms e.1 in
    record {
      taken = λ es h. subst (AreTaken es c.args.budget 1 cs ks) (sym (turned c.args.kept.list.items c.reverse.new.self.items c.reverse.ensures.items)) h;
      saved = λ es t others h. subst (λ (list : List (ℕ × Cert)). AreSaved es 1 cs ks (map pair_of list ++ others)) (sym c.new-list.ensures.items) h;
      named = subst (All named) (sym c.new-list.ensures.items) (All-nil named);
      waits = All-turned (λ (e : ℕ × Cert). IsWritten e.1) c.args.kept.list.items c.reverse.new.self.items c.reverse.ensures.items c.requires.written;
      same = refl;
      kept = λ t lt. refl;
    }

pub loop-i-preserved-in_default : goal.loop-i-preserved-in_default
loop-i-preserved-in_default c =
    let lt : c.loop-i.i < length c.args.conds.now = search rules in
    let i = c.loop-i.i in
    let of = condition_of c.args.terms.now in
    let conds = c.args.conds.now in
    let vs = c.args.verdicts.now in
    let lv : i < length vs = omega (arith, lt, c.requires.each) in
    let cond = c.index-conds-i.result in
    let v = c.index-verdicts-i.result in
    let cs = drop (i + 1) (map of conds) in
    let ks = drop (i + 1) (map known vs) in
    let waits = waiting c.loop-i.left.items in
    let same = same_condition c.args.terms.now c.loop-i.terms cond c.loop-i.invariant.same c.loop-i.invariant.kept (within_at (length c.args.terms.now) conds i cond c.requires.within lt c.index-conds-i.is) in
    let ends = ap (λ (w : Verdict). seen_end w.end) (sym c.index-verdicts-i.is) in
    let here = λ (es : Entries) (h : AreTaken es c.args.budget 1 (map of conds) (map known vs) (certificates_of c.args.kept)).
    subst (λ (d : Condition). AreTaken es c.args.budget (i + 1) (d ∷ cs) (known v ∷ ks) waits) (sym same)
    (next_taken of conds vs i cond v lt lv c.index-conds-i.is c.index-verdicts-i.is es c.args.budget waits (c.loop-i.invariant.taken es h)) in
    let made = λ (es : Entries) (h : AreTaken es c.args.budget 1 (map of conds) (map known vs) (certificates_of c.args.kept)).
    subst (λ (d : Condition). IsMade es d (seen_end v.end) c.in_ok-cert.field-0) same (c.in_ok-cert.ensures.made es (i + 1) cs ks (known v) ends (here es h)) in
    let follows = λ (es : Entries) (h : AreTaken es c.args.budget 1 (map of conds) (map known vs) (certificates_of c.args.kept)).
    next_follows of conds vs i cond v lt lv c.index-conds-i.is c.index-verdicts-i.is es (AreSaved es 1 (map of conds) (map known vs)) (map pair_of c.loop-i.list.items) (c.loop-i.invariant.saved es h) in
    record {
      taken = λ es h. c.in_ok-cert.ensures.taken es (i + 1) cs ks (known v) ends (here es h);
      saved = λ es h. saves_none es (AreSaved es 1 (map of conds) (map known vs)) (i + 1) (of cond) (known v) cs ks (map pair_of c.loop-i.list.items) c.in_ok-cert.field-0 c.in_default.is (made es h) (follows es h);
      named = c.loop-i.invariant.named;
      waits = c.in_ok-cert.ensures.left;
      same = c.in_ok-cert.ensures.length ∙ c.loop-i.invariant.same;
      kept = λ t less. c.in_ok-cert.ensures.kept t (omega (arith, less, c.loop-i.invariant.same)) ∙ c.loop-i.invariant.kept t less;
    }

pub loop-i-preserved : goal.loop-i-preserved
loop-i-preserved c =
    let lt : c.loop-i.i < length c.args.conds.now = search rules in
    let i = c.loop-i.i in
    let of = condition_of c.args.terms.now in
    let conds = c.args.conds.now in
    let vs = c.args.verdicts.now in
    let lv : i < length vs = omega (arith, lt, c.requires.each) in
    let cond = c.index-conds-i.result in
    let v = c.index-verdicts-i.result in
    let cs = drop (i + 1) (map of conds) in
    let ks = drop (i + 1) (map known vs) in
    let waits = waiting c.loop-i.left.items in
    let same = same_condition c.args.terms.now c.loop-i.terms cond c.loop-i.invariant.same c.loop-i.invariant.kept (within_at (length c.args.terms.now) conds i cond c.requires.within lt c.index-conds-i.is) in
    let ends = ap (λ (w : Verdict). seen_end w.end) (sym c.index-verdicts-i.is) in
    let here = λ (es : Entries) (h : AreTaken es c.args.budget 1 (map of conds) (map known vs) (certificates_of c.args.kept)).
    subst (λ (d : Condition). AreTaken es c.args.budget (i + 1) (d ∷ cs) (known v ∷ ks) waits) (sym same)
    (next_taken of conds vs i cond v lt lv c.index-conds-i.is c.index-verdicts-i.is es c.args.budget waits (c.loop-i.invariant.taken es h)) in
    let made = λ (es : Entries) (h : AreTaken es c.args.budget 1 (map of conds) (map known vs) (certificates_of c.args.kept)).
    subst (λ (d : Condition). IsMade es d (seen_end v.end) c.in_ok-cert.field-0) same (c.in_ok-cert.ensures.made es (i + 1) cs ks (known v) ends (here es h)) in
    let follows = λ (es : Entries) (h : AreTaken es c.args.budget 1 (map of conds) (map known vs) (certificates_of c.args.kept)).
    next_follows of conds vs i cond v lt lv c.index-conds-i.is c.index-verdicts-i.is es (AreSaved es 1 (map of conds) (map known vs)) (map pair_of c.loop-i.list.items) (c.loop-i.invariant.saved es h) in
    record {
      taken = λ es h. c.in_ok-cert.ensures.taken es (i + 1) cs ks (known v) ends (here es h);
      saved = λ es h. saves_some es (AreSaved es 1 (map of conds) (map known vs)) (i + 1) (of cond) (known v) cs ks c.loop-i.list.items c.push.new.self.items c.in-Some.cert c.in_ok-cert.field-0 c.in-Some.is c.in_ok-push.ensures.items (made es h) (follows es h);
      named = named_more (i + 1) c.loop-i.list.items c.push.new.self.items c.in_ok-cert.field-0 c.in-Some.cert c.in-Some.is c.in_ok-cert.ensures.named c.in_ok-push.ensures.items c.loop-i.invariant.named;
      waits = c.in_ok-cert.ensures.left;
      same = c.in_ok-cert.ensures.length ∙ c.loop-i.invariant.same;
      kept = λ t less. c.in_ok-cert.ensures.kept t (omega (arith, less, c.loop-i.invariant.same)) ∙ c.loop-i.invariant.kept t less;
    }

pub returns-clause-saved : goal.returns-clause-saved
returns-clause-saved c = λ es h.
    let ended : length c.args.conds.now ≤ c.loop-i.i = search rules in
    none_follows es (AreSaved es 1 (map (condition_of c.args.terms.now) c.args.conds.now) (map known c.args.verdicts.now)) (condition_of c.args.terms.now) c.args.conds.now c.args.verdicts.now c.loop-i.i (map pair_of c.loop-i.list.items)
    ended (omega (arith, ended, c.requires.each)) (c.loop-i.invariant.saved es h)

pub one_renewed-requires-clause-formed : goal.one_renewed-requires-clause-formed
one_renewed-requires-clause-formed c =
    let lt : c.loop-i.i < length c.args.conds.now = search rules in
    let cond = c.index-conds-i.result in
    let same = same_condition c.args.terms.now c.loop-i.terms cond c.loop-i.invariant.same c.loop-i.invariant.kept (within_at (length c.args.terms.now) c.args.conds.now c.loop-i.i cond c.requires.within lt c.index-conds-i.is) in
    subst IsFormedThroughout (sym same) (formed_at (condition_of c.args.terms.now) c.args.conds.now c.loop-i.i cond c.requires.formed lt c.index-conds-i.is)
