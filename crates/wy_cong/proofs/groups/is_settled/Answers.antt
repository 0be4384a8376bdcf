use Rattle.std.proofs.Common.{◌≡◌, ◌∙◌, ℕ, ap, true, nat_eq, refl, rules, slice_index, sym}
use Rattle.std.proofs.lemmas.List.{get_or_read}
use Rattle.std.specs.HashMap.{get}
use Rattle.wy_lemmas.proofs.Choices.{unlike}
use Rattle.wy_term.specs.Nodes.{Plain, node_at, tree_at}
use Rattle.wy_cong.specs.Seen.{terms_of}
use Rattle.wy_cong.specs.Signatures.{are_several, is_leaf, signature}
use Rattle.wy_cong.proofs.SignatureLemmas.{settled}
use Rattle.wy_cong.proofs.groups.is_settled.Goals as goal

pub returns-then-is_bare : goal.returns-then-is_bare
returns-then-is_bare c =
    let nodes = c.args.terms.now in
    let ts = terms_of (tree_at nodes) c.args.present.now in
    let ks = c.args.present.now.numbers.items in
    let is : c.index-s.result.now ≡ slice_index ks c.args.i = get_or_read ks c.args.i c.index-s.result.now c.requires.place c.index-s.ensures 0 in
    let up : c.is_bare.result ≡ true = search rules in
    let leaf : is_leaf (node_at nodes (slice_index ks c.args.i)).symbol ≡ true = ap (λ (k : ℕ). is_leaf (node_at nodes k).symbol) (sym is) ∙ (ap (λ (p : Plain). is_leaf p.symbol) (sym c.node.ensures.value) ∙ (sym c.is_bare.ensures.value ∙ up)) in
    λ e. settled nodes ts c.args.labels.now ks c.args.groups.now c.args.i c.requires.groups refl c.requires.place (λ un. unlike (is_leaf (node_at nodes (slice_index ks c.args.i)).symbol) leaf un)

pub returns : goal.returns
returns c =
    let nodes = c.args.terms.now in
    let ts = terms_of (tree_at nodes) c.args.present.now in
    let ks = c.args.present.now.numbers.items in
    let is : c.index-s.result.now ≡ slice_index ks c.args.i = get_or_read ks c.args.i c.index-s.result.now c.requires.place c.index-s.ensures 0 in
    λ e. settled nodes ts c.args.labels.now ks c.args.groups.now c.args.i c.requires.groups refl c.requires.place
    (λ un. ap (λ (k : ℕ). are_several (get nat_eq c.args.groups.now.found (signature ts c.args.labels.now (tree_at nodes) (node_at nodes k)))) (sym is)
    ∙ (ap (λ (k : ℕ). are_several (get nat_eq c.args.groups.now.found k)) (sym c.in_ok-key.ensures) ∙ c.is_one.ensures e))
