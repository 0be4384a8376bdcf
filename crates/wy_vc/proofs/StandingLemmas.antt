-- Hypotheses that stand one on the other, and the named types that they test.
use Rattle.std.proofs.Common.{◌≡◌, inl, inr, ℕ, zero, suc, ◌<◌, ◌≤◌, ◌+◌, Bool, true, false, ◌||◌, List, [], ◌∷◌, ◌++◌, length, map, take, get_or, refl, sym, ap, subst, ◌∙◌, arith}
use Rattle.std.proofs.Math.Dec.{eqb}
use Rattle.std.proofs.lemmas.List.{append-nil, append_assoc, length-append, map-append, take-append-le, take_all, take_more}
use Rattle.std.proofs.lemmas.List.Elements.{All-get_or}
use Rattle.wy_lemmas.proofs.Choices.{same_test, or_regrouped as or_assoc}
use Rattle.wy_term.specs.Term.{Term}
use Rattle.wy_term.specs.Nodes.{Plain, tree_at}
use Rattle.wy_vc_spec.specs.Limits.{is_among, tests_in, tests_in_all}
use Rattle.wy_vc_body.specs.wy_vc_operations.Growing.{AreBelow}
use Rattle.wy_vc.specs.Standing.{AreAlike, AreFirst, AreJoined, AreTested, Stand, Stands}
use Rattle.wy_vc.specs.declared.standing.Standing.{Standing}
use Rattle.wy_vc.proofs.AmongLemmas.{among_cases, among_either, among_left}

-- ---- numbers among numbers

pub among_both : (ks js : List ℕ) (n : ℕ) → is_among (ks ++ js) n ≡ (is_among ks n || is_among js n)
among_both [] js n = refl
among_both (k ∷ ks) js n = ap (λ (b : Bool). eqb k n || b) (among_both ks js n) ∙ or_assoc (eqb k n) (is_among ks n) (is_among js n)

alike_append : (a b c d : List ℕ) → AreAlike a b → AreAlike c d → AreAlike (a ++ c) (b ++ d)
alike_append a b c d first second = λ n.
    among_both a c n ∙ (ap (λ (x : Bool). x || is_among c n) (first n) ∙ (ap (λ (x : Bool). is_among b n || x) (second n) ∙ sym (among_both b d n)))

-- ---- types that are put behind others

-- none is put behind
pub joined_begin : (old : List ℕ) → AreJoined old [] old
joined_begin old = record { fresh = []; is = sym (append-nil old); alike = λ n. ap (λ (l : List ℕ). is_among l n) (sym (append-nil old)) }

-- one that is known
pub joined_known : (old : List ℕ) (n : ℕ) → is_among old n ≡ true → AreJoined old (n ∷ []) old
joined_known old n known = record {
  fresh = [];
  is = sym (append-nil old);
  alike = λ k. same_test (is_among old k) (is_among (old ++ n ∷ []) k) (λ h. among_left old (n ∷ []) k h) (λ h. elim (among_either old (n ∷ []) k h) as (λ _. is_among old k ≡ true) [
    | inl e ↦ e
    | inr e ↦ elim (among_cases n [] k e) as (λ _. is_among old k ≡ true) [ inl is ↦ subst (λ (x : ℕ). is_among old x ≡ true) is known | inr none ↦ absurd (let f : false ≡ true = none in cc) ]
  ]);
}

-- one that is new
pub joined_new : (old new : List ℕ) (n : ℕ) → new ≡ old ++ n ∷ [] → AreJoined old (n ∷ []) new
joined_new old new n pushed = record { fresh = n ∷ []; is = pushed; alike = λ k. ap (λ (l : List ℕ). is_among l k) pushed }

-- one more of many
pub joined_turn : (a b c more : List ℕ) (i : ℕ) → i < length more → AreJoined a (take i more) b → AreJoined b (get_or more i 0 ∷ []) c → AreJoined a (take (i + 1) more) c
joined_turn a b c more i lt first second =
    let n = get_or more i 0 in
    record {
      fresh = first.fresh ++ second.fresh;
      is = second.is ∙ (ap (λ (l : List ℕ). l ++ second.fresh) first.is ∙ append_assoc a first.fresh second.fresh);
      alike = λ k.
          second.alike k
          ∙ (alike_append b (a ++ take i more) (n ∷ []) (n ∷ []) first.alike (λ j. refl) k
          ∙ ap (λ (l : List ℕ). is_among l k) (append_assoc a (take i more) (n ∷ []) ∙ ap (λ (l : List ℕ). a ++ l) (sym (take_more more i 0 lt))));
    }

pub joined_end : (old new more : List ℕ) (i : ℕ) → length more ≤ i → AreJoined old (take i more) new → AreJoined old more new
joined_end old new more i past j = subst (λ (l : List ℕ). AreJoined old l new) (take_all i more past) j

-- ---- the tests of many formulas

tests_append : (ts us : List Term) → tests_in_all (ts ++ us) ≡ tests_in_all ts ++ tests_in_all us
tests_append [] us = refl
tests_append (t ∷ ts) us = ap (λ (l : List ℕ). tests_in t ++ l) (tests_append ts us) ∙ sym (append_assoc (tests_in t) (tests_in_all ts) (tests_in_all us))

tests_both : (nodes : List Plain) (ks js : List ℕ) → tests_in_all (map (tree_at nodes) (ks ++ js)) ≡ tests_in_all (map (tree_at nodes) ks) ++ tests_in_all (map (tree_at nodes) js)
tests_both nodes ks js = ap (λ (l : List Term). tests_in_all l) (map-append (tree_at nodes) ks js) ∙ tests_append (map (tree_at nodes) ks) (map (tree_at nodes) js)

-- what each of two lists of formulas tests, both test
pub tested_both : (nodes : List Plain) (ks js a b : List ℕ) → AreAlike a (tests_in_all (map (tree_at nodes) ks)) → AreAlike b (tests_in_all (map (tree_at nodes) js)) → AreAlike (a ++ b) (tests_in_all (map (tree_at nodes) (ks ++ js)))
tested_both nodes ks js a b first second = λ n.
    alike_append a (tests_in_all (map (tree_at nodes) ks)) b (tests_in_all (map (tree_at nodes) js)) first second n ∙ ap (λ (l : List ℕ). is_among l n) (sym (tests_both nodes ks js))

-- ---- fronts

taken_length : (n : ℕ) (xs : List ℕ) → n ≤ length xs → length (take n xs) ≡ n
taken_length zero xs short = refl
taken_length (suc n) [] short = absurd (omega (arith, short))
taken_length (suc n) (x ∷ xs) short = ap (λ (k : ℕ). suc k) (taken_length n xs (omega (arith, short)))

taken_twice : (a b : ℕ) (xs : List ℕ) → a ≤ b → take a (take b xs) ≡ take a xs
taken_twice zero b xs less = refl
taken_twice (suc a) zero xs less = absurd (omega (arith, less))
taken_twice (suc a) (suc b) [] less = refl
taken_twice (suc a) (suc b) (x ∷ xs) less = ap (λ (l : List ℕ). x ∷ l) (taken_twice a b xs (omega (arith, less)))

same_count : (n : ℕ) → n ≤ n
same_count n = omega arith

whole_taken : (xs : List ℕ) → take (length xs) xs ≡ xs
whole_taken xs = take_all (length xs) xs (same_count (length xs))

-- no hypothesis has fewer types before it than the first, or more than there are
count_within : (nodes : List Plain) (seen : List ℕ) (least : ℕ) (types hs cs : List ℕ) (f : ℕ) → Stand nodes seen least types hs cs → (least ≤ get_or cs f (length types)) × (get_or cs f (length types) ≤ length types)
count_within nodes seen least types [] [] zero s = (s.no_fewer, same_count (length types))
count_within nodes seen least types [] [] (suc f) s = (s.no_fewer, same_count (length types))
count_within nodes seen least types [] (c ∷ cs) f s = absurd s
count_within nodes seen least types (h ∷ hs) [] f s = absurd s
count_within nodes seen least types (h ∷ hs) (c ∷ cs) zero s = (s.0.no_fewer, s.0.within)
count_within nodes seen least types (h ∷ hs) (c ∷ cs) (suc f) s =
    let r = count_within nodes (seen ++ h ∷ []) c types hs cs f s.1 in
    let low = s.0.no_fewer in
    let high = r.0 in
    (omega (arith, low, high), r.1)

-- so many stay
pub cut_stand : (nodes : List Plain) (seen : List ℕ) (least : ℕ) (types hs cs : List ℕ) (f : ℕ) → Stand nodes seen least types hs cs → Stand nodes seen least (take (get_or cs f (length types)) types) (take f hs) (take f cs)
cut_stand nodes seen least types [] [] zero s = subst (λ (l : List ℕ). AreTested nodes seen least l) (sym (whole_taken types)) s
cut_stand nodes seen least types [] [] (suc f) s = subst (λ (l : List ℕ). AreTested nodes seen least l) (sym (whole_taken types)) s
cut_stand nodes seen least types [] (c ∷ cs) f s = absurd s
cut_stand nodes seen least types (h ∷ hs) [] f s = absurd s
cut_stand nodes seen least types (h ∷ hs) (c ∷ cs) zero s =
    let first : AreFirst nodes seen least c types = s.0 in
    let low = first.no_fewer in
    let long = taken_length c types first.within in
    let tested : AreTested nodes seen least (take c types) = record { no_fewer = omega (arith, low, long); alike = first.alike } in
    tested
cut_stand nodes seen least types (h ∷ hs) (c ∷ cs) (suc f) s =
    let first : AreFirst nodes seen least c types = s.0 in
    let m = get_or cs f (length types) in
    let r = count_within nodes (seen ++ h ∷ []) c types hs cs f s.1 in
    let long = taken_length m types r.1 in
    let high = r.0 in
    let here : AreFirst nodes seen least c (take m types) = record {
      no_fewer = first.no_fewer;
      within = omega (arith, long, high);
      alike = subst (λ (l : List ℕ). AreAlike l (tests_in_all (map (tree_at nodes) seen))) (sym (taken_twice c m types r.0)) first.alike;
    } in
    (here, cut_stand nodes (seen ++ h ∷ []) c types hs cs f s.1)

-- one more
pub push_stand : (nodes : List Plain) (seen : List ℕ) (least : ℕ) (types hs cs own new : List ℕ) (h : ℕ) → AreJoined types own new → AreAlike own (tests_in_all (map (tree_at nodes) (h ∷ []))) → Stand nodes seen least types hs cs
    → Stand nodes seen least new (hs ++ h ∷ []) (cs ++ length types ∷ [])
push_stand nodes seen least types [] [] own new h joined tests s =
    let long = ap (λ (l : List ℕ). length l) joined.is ∙ length-append types joined.fresh in
    let before : AreTested nodes seen least types = s in
    let here : AreFirst nodes seen least (length types) new = record {
      no_fewer = before.no_fewer;
      within = omega (arith, long);
      alike = subst (λ (l : List ℕ). AreAlike l (tests_in_all (map (tree_at nodes) seen)))
          (sym (ap (λ (l : List ℕ). take (length types) l) joined.is ∙ (take-append-le (length types) types joined.fresh (same_count (length types)) ∙ whole_taken types))) before.alike;
    } in
    let last : AreTested nodes (seen ++ h ∷ []) (length types) new = record {
      no_fewer = omega (arith, long);
      alike = λ n. joined.alike n ∙ tested_both nodes seen (h ∷ []) types own before.alike tests n;
    } in
    (here, last)
push_stand nodes seen least types [] (c ∷ cs) own new h joined tests s = absurd s
push_stand nodes seen least types (k ∷ hs) [] own new h joined tests s = absurd s
push_stand nodes seen least types (k ∷ hs) (c ∷ cs) own new h joined tests s =
    let first : AreFirst nodes seen least c types = s.0 in
    let long = ap (λ (l : List ℕ). length l) joined.is ∙ length-append types joined.fresh in
    let within = first.within in
    let here : AreFirst nodes seen least c new = record {
      no_fewer = first.no_fewer;
      within = omega (arith, long, within);
      alike = subst (λ (l : List ℕ). AreAlike l (tests_in_all (map (tree_at nodes) seen)))
          (sym (ap (λ (l : List ℕ). take c l) joined.is ∙ take-append-le c types joined.fresh first.within)) first.alike;
    } in
    (here, push_stand nodes (seen ++ k ∷ []) c types hs cs own new h joined tests s.1)

-- the types are those that all of them test
pub all_stand : (nodes : List Plain) (seen : List ℕ) (least : ℕ) (types hs cs : List ℕ) → Stand nodes seen least types hs cs → AreAlike types (tests_in_all (map (tree_at nodes) (seen ++ hs)))
all_stand nodes seen least types [] [] s = subst (λ (l : List ℕ). AreAlike types (tests_in_all (map (tree_at nodes) l))) (sym (append-nil seen)) s.alike
all_stand nodes seen least types [] (c ∷ cs) s = absurd s
all_stand nodes seen least types (h ∷ hs) [] s = absurd s
all_stand nodes seen least types (h ∷ hs) (c ∷ cs) s = subst (λ (l : List ℕ). AreAlike types (tests_in_all (map (tree_at nodes) l))) (append_assoc seen (h ∷ []) hs) (all_stand nodes (seen ++ h ∷ []) c types hs cs s.1)

-- ---- what the code keeps

-- a list with one number
pub one_below : (n h : ℕ) → h < n → (r : ℕ) → is_among (h ∷ []) r ≡ true → r < n
one_below n h lt r among = elim (among_cases h [] r among) as (λ _. r < n) [ inl is ↦ subst (λ (x : ℕ). x < n) is lt | inr none ↦ absurd (let f : false ≡ true = none in cc) ]

pub stands_cut : (nodes : List Plain) (old new : Standing) (f count : ℕ) → count ≡ get_or old.counts.items f (length old.types.items) → new.types.items ≡ take count old.types.items → new.hyps.items ≡ take f old.hyps.items → new.counts.items ≡ take f old.counts.items
    → Stands nodes old → Stands nodes new
stands_cut nodes old new f count is types hyps counts s =
    subst (λ (l : List ℕ). Stand nodes [] 0 new.types.items new.hyps.items l) (sym counts)
    (subst (λ (l : List ℕ). Stand nodes [] 0 new.types.items l (take f old.counts.items)) (sym hyps)
    (subst (λ (l : List ℕ). Stand nodes [] 0 l (take f old.hyps.items) (take f old.counts.items)) (sym (types ∙ ap (λ (n : ℕ). take n old.types.items) is))
    (cut_stand nodes [] 0 old.types.items old.hyps.items old.counts.items f s)))

pub stands_more : (nodes : List Plain) (old new : Standing) (own : List ℕ) (h : ℕ) → AreJoined old.types.items own new.types.items → AreAlike own (tests_in_all (map (tree_at nodes) (h ∷ []))) → new.hyps.items ≡ old.hyps.items ++ h ∷ [] → new.counts.items ≡ old.counts.items ++ length old.types.items ∷ []
    → Stands nodes old → Stands nodes new
stands_more nodes old new own h joined tests hyps counts s =
    subst (λ (l : List ℕ). Stand nodes [] 0 new.types.items new.hyps.items l) (sym counts)
    (subst (λ (l : List ℕ). Stand nodes [] 0 new.types.items l (old.counts.items ++ length old.types.items ∷ [])) (sym hyps)
    (push_stand nodes [] 0 old.types.items old.hyps.items old.counts.items own new.types.items h joined tests s))

-- what all that stand and a goal test
pub types_told : (nodes : List Plain) (s : Standing) (hyps own ns : List ℕ) (goal : ℕ) → ns ≡ s.types.items ++ own → s.hyps.items ≡ hyps → AreAlike own (tests_in_all (map (tree_at nodes) (goal ∷ []))) → Stands nodes s
    → (n : ℕ) → is_among ns n ≡ is_among (tests_in_all (map (tree_at nodes) (hyps ++ goal ∷ []))) n
types_told nodes s hyps own ns goal is same tests stands n =
    ap (λ (l : List ℕ). is_among l n) is
    ∙ (tested_both nodes s.hyps.items (goal ∷ []) s.types.items own (all_stand nodes [] 0 s.types.items s.hyps.items s.counts.items stands) tests n
    ∙ ap (λ (l : List ℕ). is_among (tests_in_all (map (tree_at nodes) (l ++ goal ∷ []))) n) same)

-- a hypothesis among others
pub below_item : (n : ℕ) (ks : List ℕ) (i : ℕ) → AreBelow n ks → i < length ks → get_or ks i 0 < n
below_item n ks i below lt = All-get_or (λ k. k < n) ks i 0 lt below

-- one more of those that are to stand
pub stood_more : (hyps : List ℕ) (i : ℕ) (old new : List ℕ) → i < length hyps → new ≡ old ++ get_or hyps i 0 ∷ [] → old ≡ take i hyps → new ≡ take (i + 1) hyps
stood_more hyps i old new lt pushed so = pushed ∙ (ap (λ (l : List ℕ). l ++ get_or hyps i 0 ∷ []) so ∙ sym (take_more hyps i 0 lt))
