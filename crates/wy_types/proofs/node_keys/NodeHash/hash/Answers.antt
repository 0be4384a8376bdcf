use Rattle.std.proofs.Common.{◌≡◌, ◌++◌, length, ℕ, List, subst}
use Rattle.std.specs.Hash as fed
use Rattle.std.specs.Hash.{fed_then}
use Rattle.std.specs.List.{fold}
use Rattle.wy_types.specs.declared.conjuncts.Conjunct.{Conjunct}
use Rattle.wy_types.specs.Nodes as nodes
use Rattle.wy_types.proofs.node_keys.NodeHash.hash.Goals as goal

pub returns : goal.returns
returns g c =
    let write = g.H.Hasher.write in
    let s = c.args.state.now in
    let n = c.args.self.now in
    let one = subst (λ (x : ℕ). c.hash.new.state ≡ fold write s (fed.u32 x)) c.form_of.ensures.value c.hash.ensures in
    let two = subst (λ (x : ℕ). c.hash-2.new.state ≡ fold write c.hash.new.state (fed.u32 x)) c.left_of.ensures.value c.hash-2.ensures in
    let three = subst (λ (x : ℕ). c.hash-3.new.state ≡ fold write c.hash-2.new.state (fed.u32 x)) c.right_of.ensures.value c.hash-3.ensures in
    let four = subst (λ (x : List (List ℕ × ℕ)). c.hash-4.new.state ≡ fold write c.hash-3.new.state (fed.slice (λ (f : List ℕ × ℕ). fed.str f.0 ++ fed.u32 f.1) x)) c.fields_of.ensures.value c.hash-4.ensures in
    let five = subst (λ (x : List (Conjunct ℕ)). c.hash-5.new.state ≡ fold write c.hash-4.new.state (fed.usize (length x))) c.conjuncts_of.ensures.value c.hash-5.ensures in
    let a = fed_then write s c.hash.new.state c.hash-2.new.state (fed.u32 (nodes.form_of n)) (fed.u32 (nodes.left_of n)) one two in
    let b = fed_then write s c.hash-2.new.state c.hash-3.new.state (fed.u32 (nodes.form_of n) ++ fed.u32 (nodes.left_of n)) (fed.u32 (nodes.right_of n)) a three in
    let d = fed_then write s c.hash-3.new.state c.hash-4.new.state (fed.u32 (nodes.form_of n) ++ fed.u32 (nodes.left_of n) ++ fed.u32 (nodes.right_of n)) (fed.slice (λ (f : List ℕ × ℕ). fed.str f.0 ++ fed.u32 f.1) (nodes.fields_of n)) b four in
    fed_then write s c.hash-4.new.state c.hash-5.new.state (fed.u32 (nodes.form_of n) ++ fed.u32 (nodes.left_of n) ++ fed.u32 (nodes.right_of n) ++ fed.slice (λ (f : List ℕ × ℕ). fed.str f.0 ++ fed.u32 f.1) (nodes.fields_of n)) (fed.usize (length (nodes.conjuncts_of n))) d five
