use Rattle.std.proofs.Common.{◌≡◌, true, nat_eq, rules}
use Rattle.std.proofs.lemmas.Result.{on_ok_weaker}
use Rattle.std.specs.HashMap.{get}
use Rattle.wy_lemmas.proofs.Choices.{unlike}
use Rattle.wy_term.specs.Nodes.{node_at, plain, tree_at}
use Rattle.wy_cong.specs.Seen.{terms_of}
use Rattle.wy_cong.specs.Signatures.{class_at, signature}
use Rattle.wy_cong.proofs.SignatureLemmas.{grouped_here, noted_by}
use Rattle.wy_cong.proofs.groups.note_term.Goals as goal

pub returns-then-is_bare-clause-here : goal.returns-then-is_bare-clause-here
returns-then-is_bare-clause-here c =
    let ts = terms_of (tree_at c.args.terms.now) c.args.present.now in
    let up : c.is_bare.result ≡ true = search rules in
    grouped_here c.args.terms.now ts c.args.labels.now (get nat_eq c.args.groups.now.found) c.args.s (plain c.node.result.now) c.is_bare.result c.requires.term c.node.ensures.value c.node.ensures.tree c.node.ensures.within c.is_bare.ensures.value c.is_bare.ensures.parts (λ un. unlike c.is_bare.result up un)

pub returns-clause-here : goal.returns-clause-here
returns-clause-here c =
    let at = tree_at c.args.terms.now in
    let ts = terms_of at c.args.present.now in
    let found = get nat_eq c.note.new.groups.found in
    on_ok_weaker c.note.result
    (λ h. grouped_here c.args.terms.now ts c.args.labels.now found c.args.s (plain c.node.result.now) c.is_bare.result c.requires.term c.node.ensures.value c.node.ensures.tree c.node.ensures.within c.is_bare.ensures.value c.is_bare.ensures.parts
    (λ un. noted_by found c.in_ok-key.key (signature ts c.args.labels.now at (node_at c.args.terms.now c.args.s)) c.class_number-class.result (class_at ts c.args.labels.now at c.args.s) c.in_ok-key.ensures c.class_number-class.ensures h))
    c.note.ensures.here
