-- The nodes are settled, one after the other, and a new node with them.
use Rattle.std.proofs.Common.{◌≡◌, ℕ, ◌+◌, ◌≤◌, ◌<◌, List, [], ◌∷◌, ◌++◌, get_or, Option, None, IsSome, refl, sym, ◌∙◌, ap, subst, arith}
use Rattle.slab.specs.Slab.{ContainsKey}
use Rattle.wy_value.specs.Datum.{Datum}
use Rattle.wy_heap.specs.declared.part.Part.{Part}
use Rattle.wy_heap.specs.declared.part.Part.TheVariants.{Null, Key}
use Rattle.wy_heap.specs.declared.heap.Heap.{Heap}
use Rattle.wy_heap.specs.Nodes.{Form, Body, Map, map_of, at, holds, slot_holds, inner, count_at, size, parts_in, form_in}
use Rattle.wy_heap.specs.Meaning.{Means, IsSplit}
use Rattle.wy_heap.specs.Standing.{Counts, IsWithin, SameTable}
use Rattle.wy_heap.specs.Slots.{part_of}
use Rattle.wy_heap.specs.Freeing.{times}
use Rattle.wy_heap.specs.Changing.{SameNodes, Leads, Joins, IsNodeSlot, Fits, Builds, More, Upheld}
use Rattle.wy_heap.specs.Copying.{raised, CopiesAsMany, CopiesBeside}
use Rattle.wy_heap.specs.Settling.{owing, loads, Settles, AreTodo, Lacks, Spares, SettlesNode}
use Rattle.wy_heap.proofs.CountLemmas.{inner_part, holds_one, holds-get_or}
use Rattle.wy_heap.proofs.ChangeLemmas.{count_there, contains_from_at}
use Rattle.wy_heap.proofs.MeaningLemmas.{data_unique, node_from_means, means_from_node}
use Rattle.wy_heap.proofs.SlotLemmas.{held_node}
use Rattle.wy_heap.proofs.ReachLemmas.{restored}
use Rattle.wy_heap.proofs.SizeLemmas.{copies_trans, raised-raised, size_joined}
use Rattle.wy_heap.proofs.SettleLemmas.{loads-append, owing-append, settles_trans, times-append, times_one}

-- ---- node after node

pub record Settled (h s : Heap) (first : ℕ) (todo : List ℕ) : Type 0 where
  pub settles : Settles h s
  pub spares : (base : Map) → More base (map_of h) → at base first ≡ None → More base (map_of s) × Lacks base todo
  pub copies : CopiesAsMany h s
  pub kept : SameTable h s
  pub there : (k : ℕ) → 1 ≤ times k todo → IsSome (at (map_of s) k)
  pub once : (k : ℕ) → times k todo ≤ 1
  pub over : (k : ℕ) → count_at s k ≤ h.cap + owing k (map_of s) todo

pub settled_first : (h s : Heap) (first : ℕ) (todo : List ℕ) → Settles h s → Spares h s first [] → SettlesNode h.cap h s first [] todo → SameTable h s → ((k : ℕ) → count_at h k ≤ h.cap + slot_holds k (at (map_of h) first)) → Settled h s first todo
settled_first h s first todo settles spares node kept over = record {
  settles = settles;
  spares = λ base more none. (spares base more none (λ k some. absurd (omega arith)), node.lacks base more none (λ k some. absurd (omega arith)));
  copies = node.copies;
  kept = kept;
  there = node.there;
  once = node.once;
  over = node.over (λ k. omega (arith, over k));
}

-- the last of those to do is apart from the others
pub settled_todo : (h s : Heap) (first node : ℕ) (rest : List ℕ) → Settled h s first (rest ++ node ∷ []) → AreTodo (map_of s) node rest
settled_todo h s first node rest settled = record {
  there = λ k some. settled.there k (omega (arith, some, times-append k rest (node ∷ [])));
  once = λ k. omega (arith, settled.once k, times-append k rest (node ∷ []));
  apart = omega (arith, settled.once node, times-append node rest (node ∷ []), times_one node);
}

pub settled_there : (h s : Heap) (first node : ℕ) (rest : List ℕ) → Settled h s first (rest ++ node ∷ []) → IsSome (at (map_of s) node)
settled_there h s first node rest settled = settled.there node (omega (arith, times-append node rest (node ∷ []), times_one node))

pub settled_next : (h s t : Heap) (first node : ℕ) (rest after : List ℕ) → Settled h s first (rest ++ node ∷ []) → Settles s t → Spares s t node rest → SettlesNode s.cap s t node rest after → SameTable s t → Settled h t first after
settled_next h s t first node rest after settled settles spares done kept = record {
  settles = settles_trans h s t settled.settles settles;
  spares = λ base more none.
      let one = settled.spares base more none in
      let here : at base node ≡ None = one.1 node (omega (arith, times-append node rest (node ∷ []), times_one node)) in
      let others : Lacks base rest = λ k some. one.1 k (omega (arith, some, times-append k rest (node ∷ []))) in
      (spares base one.0 here others, done.lacks base one.0 here others);
  copies = copies_trans h s t settled.copies done.copies;
  kept = (kept.0 ∙ settled.kept.0, kept.1 ∙ settled.kept.1);
  there = done.there;
  once = done.once;
  over = λ k. omega (
    arith,
    settled.kept.0,
    done.over (λ j. omega (arith, settled.over j, settled.kept.0, owing-append j (map_of s) rest (node ∷ []))) k,
  );
}

pub settled_less : (s t : Heap) (node : ℕ) (rest after : List ℕ) → SettlesNode s.cap s t node rest after → loads (map_of t) after < loads (map_of s) (rest ++ node ∷ [])
settled_less s t node rest after done = omega (arith, done.less, loads-append (map_of s) rest (node ∷ []))

-- ---- a new node with its parts settled

pub settled_builds : (a b c : Heap) (form : Form) (parts : List Part) (made : ℕ) → Fits (map_of a) form parts → (places : List Part) → Counts a places → IsWithin a → b.cap ≡ a.cap → Builds a b form parts made → Settles b c → ((base : Map) → More base (map_of b) → at base made ≡ None → More base (map_of c)) → Builds a c form parts made
settled_builds a b c form parts made fits places counts within same_cap builds settles spares =
    let is : IsSome (at (map_of b) made) = count_there b made (omega (arith, builds.count)) in
    let held_b = builds.counts places counts in
    let alone : inner made (map_of b) ≡ 0 = omega (arith, held_b.counted made, builds.count, holds_one made) in
    let fresh = settles.fresh made is alone in
    let held_c = settles.counts (Key made ∷ places) held_b in
    record {
      vacant = builds.vacant;
      count = omega (arith, held_c.counted made, fresh.1, held_b.counted made, builds.count, holds_one made);
      counts = λ others k. settles.counts (Key made ∷ others) (builds.counts others k);
      keeps = λ q d means. settles.keeps q d (builds.keeps q d means);
      node = λ ds mean.
          let same = data_unique (map_of a) fits.0 ds parts fits.1 mean in
          let split = subst (IsSplit fits.2 form) same fits.3 in
          node_from_means (map_of c) fits.2 (Key made) form ds split
          (settles.keeps (Key made) fits.2 (means_from_node (map_of b) fits.2 (Key made) form ds split (builds.node ds mean)));
      stays = spares (map_of a) builds.stays builds.vacant;
      more = λ k. omega (arith, builds.more k, settles.high k, within k, same_cap);
      fresh = λ k body was none. (settles.fresh k (subst IsSome (sym (builds.stays k body was)) refl) (builds.fresh k body was none)).1;
    }

-- what a slot holds is there
pub slot_key_there : (h : Heap) (places : List Part) (node place key : ℕ) → Counts h places → IsNodeSlot (map_of h) node place → part_of (at (map_of h) node) place ≡ Key key → ContainsKey h.nodes key
slot_key_there h places node place key counts there is =
    let found : get_or there.body.parts place Null ≡ Key key = sym (ap (λ (o : Option Body). part_of o place) there.was) ∙ is in
    contains_from_at h key (count_there h key (omega (
      arith,
      counts.counted key,
      inner_part (map_of h) node key there.body there.was
          (omega (arith, holds-get_or key there.body.parts place, ap (holds key) found, holds_one key)),
    )))

-- where a node could not be settled, a map that lacks the first stays
pub settled_fails : (h s t : Heap) (first node : ℕ) (rest : List ℕ) → Settled h s first (rest ++ node ∷ []) → Spares s t node rest → (base : Map) → More base (map_of h) → at base first ≡ None → More base (map_of t)
settled_fails h s t first node rest settled spares base more none =
    let one = settled.spares base more none in
    spares base one.0 (one.1 node (omega (arith, times-append node rest (node ∷ []), times_one node)))
    (λ k some. one.1 k (omega (arith, some, times-append k rest (node ∷ []))))

-- where the rest could not be settled, the new node is let go of, and the heap is as it was
pub unsettled : (s0 s1 s2 s3 : Heap) (form : Form) (parts : List Part) (made : ℕ) (places : List Part) → Builds s0 s1 form parts made → Counts s0 places → Settles s1 s2 → ((base : Map) → More base (map_of s1) → at base made ≡ None → More base (map_of s2)) → ((others : List Part) → Counts s2 (Key made ∷ others) → Leads s2 s3 [] others) → Upheld s2 (map_of s3) (Key made) → SameNodes s0 s3
unsettled s0 s1 s2 s3 form parts made places builds counts settles spares frees upheld =
    let still = settles.counts (Key made ∷ places) (builds.counts places counts) in
    restored s0 s3 places counts (frees places still).counts
    (upheld (map_of s0) places still
    (λ k b was. omega (arith, counts.counted k, counts.alive k (subst IsSome (sym was) refl)))
    (spares (map_of s0) builds.stays builds.vacant))

pub joined_copies : (h n : Heap) (made : ℕ) (form : Form) (parts : List Part) → Joins h n made form parts → n.copies ≡ h.copies → CopiesBeside 1 h n
joined_copies h n made form parts joins same = (0, omega (arith, size_joined h n made form parts joins), same)

pub settled_copies : (a b c : Heap) → CopiesBeside 1 a b → CopiesAsMany b c → CopiesBeside 1 a c
settled_copies a b c first second =
    (first.0 + second.0, omega (arith, first.1, second.1), second.2 ∙ ap (λ (n : ℕ). raised n second.0) first.2 ∙ raised-raised a.copies first.0 second.0)

-- a node more that is itself counted as a copy
pub counted_copies : (a b c : Heap) → CopiesBeside 1 a b → map_of c ≡ map_of b → c.copies ≡ raised b.copies 1 → CopiesAsMany a c
counted_copies a b c first same more =
    (first.0 + 1, omega (arith, first.1, ap size same), more ∙ ap (λ (n : ℕ). raised n 1) first.2 ∙ raised-raised a.copies first.0 1)

-- a copy of a whole node stands for what the node stands for
pub copy_means : (h n : Heap) (key made : ℕ) (d : Datum) → Builds h n (form_in (at (map_of h) key)) (parts_in (at (map_of h) key)) made → Means (map_of h) d (Key key) → Means (map_of n) d (Key made)
copy_means h n key made d builds means =
    let node = held_node h (Key key) key d refl means in
    let same = subst (λ (o : Option Body). Builds h n (form_in o) (parts_in o) made) node.is builds in
    means_from_node (map_of n) d (Key made) node.form node.data_of node.split (same.node node.data_of node.mean)
