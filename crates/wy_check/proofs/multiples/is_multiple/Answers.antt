use Rattle.std.proofs.Common.{◌≡◌, [], map, length, eqb, rules, sym, ap, ◌∙◌}
use Rattle.std.specs.Prelude.{option_map}
use Rattle.wy_term.specs.Nodes.{tree_at}
use Rattle.wy_lin.specs.declared.arithmetic.Factor.TheVariants.{Scale, Minus}
use Rattle.wy_lin.specs.Linear.{plus_parts}
use Rattle.wy_lin.specs.Seen.{linear_form, turned}
use Rattle.wy_lin.proofs.SeenLemmas.{names_once}
use Rattle.wy_check.specs.Seen.{number_of}
use Rattle.wy_check.proofs.MultipleLemmas.{multiple_first, multiple_second, multiple_third}
use Rattle.wy_check.proofs.multiples.is_multiple.Goals as goal

pub returns-in_default : goal.returns-in_default
returns-in_default c =
    let at = tree_at c.args.terms.now in
    let n = length c.args.terms.now in
    let once = names_once at n (λ s t ls lt e. (c.one_number_for_each_term.ensures.one s t ls lt).1 e) in
    let a = number_of c.args.a in
    let f = linear_form c.args.f.now in
    let g = linear_form c.args.g.now in
    let es = c.new-none.result.entries in
    let none : es ≡ [] = search rules in
    let first : c.deref.result.now ≡ f.parts = search rules in
    let gave = sym (ap (option_map (λ cs. map turned cs.entries)) c.in_default.is) ∙ (c.in_ok-scaled.ensures ∙ ap (plus_parts eqb (map turned es) (Scale a)) first) in
    multiple_first at n once a f g c.requires.first c.requires.second es none gave

pub returns-in_default-2 : goal.returns-in_default-2
returns-in_default-2 c =
    let at = tree_at c.args.terms.now in
    let n = length c.args.terms.now in
    let once = names_once at n (λ s t ls lt e. (c.one_number_for_each_term.ensures.one s t ls lt).1 e) in
    let a = number_of c.args.a in
    let f = linear_form c.args.f.now in
    let g = linear_form c.args.g.now in
    let es = c.new-none.result.entries in
    let none : es ≡ [] = search rules in
    let first : c.deref.result.now ≡ f.parts = search rules in
    let second : c.deref-2.result.now ≡ g.parts = search rules in
    let fs = c.in-Some.scaled.entries in
    let gave = sym (ap (option_map (λ cs. map turned cs.entries)) c.in-Some.is) ∙ (c.in_ok-scaled.ensures ∙ ap (plus_parts eqb (map turned es) (Scale a)) first) in
    let then = sym (ap (option_map (λ cs. map turned cs.entries)) c.in_default-2.is) ∙ (c.in_ok-left.ensures ∙ ap (plus_parts eqb (map turned fs) Minus) second) in
    multiple_second at n once a f g c.requires.first c.requires.second es fs none gave then

pub returns : goal.returns
returns c =
    let at = tree_at c.args.terms.now in
    let n = length c.args.terms.now in
    let once = names_once at n (λ s t ls lt e. (c.one_number_for_each_term.ensures.one s t ls lt).1 e) in
    let a = number_of c.args.a in
    let f = linear_form c.args.f.now in
    let g = linear_form c.args.g.now in
    let es = c.new-none.result.entries in
    let none : es ≡ [] = search rules in
    let first : c.deref.result.now ≡ f.parts = search rules in
    let second : c.deref-2.result.now ≡ g.parts = search rules in
    let fs = c.in-Some.scaled.entries in
    let hs = c.in-Some-2.left.entries in
    let gave = sym (ap (option_map (λ cs. map turned cs.entries)) c.in-Some.is) ∙ (c.in_ok-scaled.ensures ∙ ap (plus_parts eqb (map turned es) (Scale a)) first) in
    let then = sym (ap (option_map (λ cs. map turned cs.entries)) c.in-Some-2.is) ∙ (c.in_ok-left.ensures ∙ ap (plus_parts eqb (map turned fs) Minus) second) in
    c.all_zero.ensures at ∙ multiple_third at n once a f g c.requires.first c.requires.second es fs hs none gave then
