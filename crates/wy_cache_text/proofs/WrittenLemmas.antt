-- The file that is written, entry by entry.
use Rattle.std.proofs.Common.{◌≡◌, ◌⊎◌, inl, inr, ℕ, ◌+◌, ◌<◌, ◌≤◌, List, [], ◌∷◌, ◌++◌, Bool, true, false, cond, codes, length, bytes_eq, refl, sym, ap, subst, ◌∙◌, ⊎_elim, arith, append_assoc}
use Rattle.std.specs.Prelude.{◌||◌}
use Rattle.std.specs.Cmp.Lexicographic.{bytes_decides, nat_list_eq_equiv}
use Rattle.std.specs.HashSet.{HashSet, UpdatesBy, contains_by}
use Rattle.std.specs.List.{list_any}
use Rattle.std.specs.Set.{KeepsOthers}
use Rattle.std.specs.Map.{IsKeyTest, AreApart}
use Rattle.std.proofs.lemmas.Bool.{cases_Bool, cond-true, cond-false}
use Rattle.std.proofs.lemmas.List.{length-append}
use Rattle.wy_data.proofs.wy_lemmas_proofs.Choices.{or_assoc, or_swapped, unlike}
use Rattle.wy_data.proofs.wy_lemmas_proofs.Lists.{none_behind}
use Rattle.wy_cache_text.specs.declared.writer.Writer.{Writer}
use Rattle.wy_cache_text.specs.Written.{Row, row_text, rows_text, file_text, is_among, once_behind, once, limit, IsLongest}
use Rattle.wy_cache_text.specs.SoFar.{has_key, IsSoFar}

-- ---- sets of keys

apart : (bs cs ks : List ℕ) → bytes_eq bs cs ≡ false → bytes_eq bs ks ≡ true → bytes_eq cs ks ≡ false
apart bs cs ks n y = nat_list_eq_equiv.symm cs ks ∙ sym (nat_list_eq_equiv.congr bs ks cs y) ∙ n

other_keys : {K : Type 0} (eq : K → K → Bool) (test : K → Bool) (old new : List K) → KeepsOthers eq test old new → (other : K → Bool) → IsKeyTest eq other → AreApart test other → list_any other new ≡ list_any other old
unfolding KeepsOthers
other_keys eq test old new h = h

-- a set with one key more, by the bytes of keys
pub set_more : {K S : Type 0} (bytes : K → List ℕ) (k : K) (s n : HashSet K S) → UpdatesBy (λ x y. bytes_eq (bytes x) (bytes y)) (λ y. bytes_eq (bytes k) (bytes y)) s n true
    → (cs : List ℕ) → contains_by (λ y. bytes_eq cs (bytes y)) n ≡ cond (bytes_eq (bytes k) cs) true (contains_by (λ y. bytes_eq cs (bytes y)) s)
set_more bytes k s n h cs =
    ⊎_elim
    (λ y. subst (λ l. contains_by (λ j. bytes_eq l (bytes j)) n ≡ true) ((bytes_decides (bytes k) cs).0 y) h.1 ∙ sym (cond-true (bytes_eq (bytes k) cs) true (contains_by (λ j. bytes_eq cs (bytes j)) s) y))
    (λ f. other_keys _ _ _ _ h.3 _ (λ x y. nat_list_eq_equiv.congr cs (bytes x) (bytes y)) (λ j. apart (bytes k) cs (bytes j) f) ∙ sym (cond-false (bytes_eq (bytes k) cs) true (contains_by (λ j. bytes_eq cs (bytes j)) s) f))
    (cases_Bool (bytes_eq (bytes k) cs))

-- ---- each key once

-- the last of a list, unless there was its key
abbrev pub unless : Bool → Row → List Row
unless true r = []
unless false r = r ∷ []

first_more : (b : Bool) (x : Row) (xs ys : List Row) → (let l : List Row = cond b (xs ++ ys) (x ∷ (xs ++ ys)) in l) ≡ cond b xs (x ∷ xs) ++ ys
first_more true x xs ys = refl
first_more false x xs ys = refl

behind_more : (before : List (List ℕ)) (rows : List Row) (r : Row) → once_behind before (rows ++ r ∷ []) ≡ once_behind before rows ++ unless (is_among before r.key || has_key rows r.key) r
behind_more before [] r = by (is_among before r.key)
  where
    by : (b : Bool) → (let l : List Row = cond b [] (r ∷ []) in l) ≡ unless (b || false) r
    by true = refl
    by false = refl
behind_more before (x ∷ xs) r =
    let all : List (List ℕ) = x.key ∷ before in
    let more = behind_more all xs r in
    let test = or_assoc (bytes_eq x.key r.key) (is_among before r.key) (has_key xs r.key) ∙ or_swapped (bytes_eq x.key r.key) (is_among before r.key) (has_key xs r.key) in
    let turned : once_behind all (xs ++ r ∷ []) ≡ once_behind all xs ++ unless (is_among before r.key || (bytes_eq x.key r.key || has_key xs r.key)) r
    = more ∙ ap (λ (b : Bool). once_behind all xs ++ unless b r) test in
    ap (λ (l : List Row). cond (is_among before x.key) l (x ∷ l)) turned
    ∙ first_more (is_among before x.key) x (once_behind all xs) (unless (is_among before r.key || (bytes_eq x.key r.key || has_key xs r.key)) r)

pub once_more : (rows : List Row) (r : Row) → once (rows ++ r ∷ []) ≡ once rows ++ unless (has_key rows r.key) r
once_more rows r = behind_more [] rows r

has_more : (rows : List Row) (r : Row) (q : List ℕ) → has_key (rows ++ r ∷ []) q ≡ cond (bytes_eq r.key q) true (has_key rows q)
has_more [] r q = by (bytes_eq r.key q)
  where
    by : (b : Bool) → (b || false) ≡ cond b true false
    by true = refl
    by false = refl
has_more (x ∷ xs) r q = ap (λ b. bytes_eq x.key q || b) (has_more xs r q) ∙ by (bytes_eq x.key q) (bytes_eq r.key q) (has_key xs q)
  where
    by : (a b c : Bool) → (a || cond b true c) ≡ cond b true (a || c)
    by true true c = refl
    by true false c = refl
    by false true c = refl
    by false false c = refl

-- ---- texts

rows_more : (rows : List Row) (r : Row) → rows_text (rows ++ r ∷ []) ≡ rows_text rows ++ row_text r
rows_more [] r = none_behind (row_text r)
rows_more (x ∷ xs) r = ap (λ (i : List ℕ). row_text x ++ i) (rows_more xs r) ∙ sym (append_assoc (row_text x) (rows_text xs) (row_text r))

-- an entry as it is written piece by piece
pub row_pieces : (h key n steps first second text : List ℕ) → first ≡ codes "for " ++ (h ++ codes "\n") → second ≡ codes "by " ++ (n ++ codes "\n") → text ≡ ((first ++ key) ++ second) ++ steps
    → text ≡ codes "for " ++ (h ++ 10 ∷ (key ++ (codes "by " ++ (n ++ 10 ∷ steps))))
row_pieces h key n steps first second text is_first is_second is =
    let left : first ++ (key ++ (second ++ steps)) ≡ codes "for " ++ (h ++ 10 ∷ (key ++ (second ++ steps)))
    = ap (λ (i : List ℕ). i ++ (key ++ (second ++ steps))) is_first ∙ ap (λ (i : List ℕ). codes "for " ++ i) (append_assoc h (codes "\n") (key ++ (second ++ steps))) in
    let right : second ++ steps ≡ codes "by " ++ (n ++ 10 ∷ steps) = ap (λ (i : List ℕ). i ++ steps) is_second ∙ ap (λ (i : List ℕ). codes "by " ++ i) (append_assoc n (codes "\n") steps) in
    is ∙ append_assoc (first ++ key) second steps ∙ append_assoc first key (second ++ steps) ∙ left ∙ ap (λ (i : List ℕ). codes "for " ++ (h ++ 10 ∷ (key ++ i))) right

-- ---- the writer

pub new_writer : (w : Writer) → w.out.items ≡ codes "wycache 1\n" → w.keys.keys ≡ [] → w.full ≡ false → IsSoFar [] w
new_writer w out keys room = record {
  front = [];
  behind = [];
  all = refl;
  out = out;
  fits = omega (arith, ap length out);
  full = λ t. unlike w.full t room;
  room = λ f. record { none = refl; keys = λ q. ap (list_any (λ k. bytes_eq q k.items)) keys };
}

-- an entry more, where one didn't fit
pub put_behind : (rows : List Row) (r : Row) (w : Writer) → w.full ≡ true → IsSoFar rows w → IsSoFar (rows ++ r ∷ []) w
put_behind rows r w is h =
    let f = h.full is in
    let last = unless (has_key rows r.key) r in
    record {
      front = h.front;
      behind = h.behind ++ last;
      all = once_more rows r ∙ ap (λ (l : List Row). l ++ last) h.all ∙ append_assoc h.front h.behind last;
      out = h.out;
      fits = h.fits;
      full = λ t. record { first = f.first; others = f.others ++ last; is = ap (λ (l : List Row). l ++ last) f.is; long = f.long };
      room = λ e. unlike w.full is e;
    }

-- an entry more, where its key was there
pub put_again : (rows : List Row) (r : Row) (w : Writer) → w.full ≡ false → contains_by (λ k. bytes_eq r.key k.items) w.keys ≡ true → IsSoFar rows w → IsSoFar (rows ++ r ∷ []) w
put_again rows r w is there h =
    let room = h.room is in
    let noted : has_key rows r.key ≡ true = sym (room.keys r.key) ∙ there in
    record {
      front = h.front;
      behind = h.behind;
      all = once_more rows r ∙ ap (λ (b : Bool). once rows ++ unless b r) noted ∙ none_behind (once rows) ∙ h.all;
      out = h.out;
      fits = h.fits;
      full = λ t. unlike w.full t is;
      room = λ f. record { none = room.none; keys = λ q. room.keys q ∙ same q noted (cases_Bool (bytes_eq r.key q)) ∙ sym (has_more rows r q) };
    }
  where
    same : (q : List ℕ) → has_key rows r.key ≡ true → ((bytes_eq r.key q ≡ true) ⊎ (bytes_eq r.key q ≡ false)) → has_key rows q ≡ cond (bytes_eq r.key q) true (has_key rows q)
    same q noted (inl y) = subst (λ l. has_key rows l ≡ true) ((bytes_decides r.key q).0 y) noted ∙ sym (cond-true (bytes_eq r.key q) true (has_key rows q) y)
    same q noted (inr n) = sym (cond-false (bytes_eq r.key q) true (has_key rows q) n)

pub new_key : (rows : List Row) (r : Row) (w : Writer) → w.full ≡ false → contains_by (λ k. bytes_eq r.key k.items) w.keys ≡ false → (h : IsSoFar rows w) → once (rows ++ r ∷ []) ≡ h.front ++ r ∷ []
new_key rows r w is new h =
    let room = h.room is in
    let fresh : has_key rows r.key ≡ false = sym (room.keys r.key) ∙ new in
    once_more rows r ∙ ap (λ (b : Bool). once rows ++ unless b r) fresh ∙ ap (λ (l : List Row). l ++ r ∷ []) (h.all ∙ ap (λ (l : List Row). h.front ++ l) room.none ∙ none_behind h.front)

-- an entry more, which doesn't fit
pub put_too_long : (rows : List Row) (r : Row) (w n : Writer) (text : List ℕ) → w.full ≡ false → contains_by (λ k. bytes_eq r.key k.items) w.keys ≡ false → text ≡ row_text r → 16777212 < length w.out.items + length text
    → n.full ≡ true → n.out.items ≡ w.out.items → IsSoFar rows w → IsSoFar (rows ++ r ∷ []) n
put_too_long rows r w n text is new at long full out h = record {
  front = h.front;
  behind = r ∷ [];
  all = new_key rows r w is new h;
  out = out ∙ h.out;
  fits = omega (arith, ap length out, h.fits);
  full = λ t. record { first = r; others = []; is = refl; long = omega (arith, ap length out, ap length at, long) };
  room = λ f. unlike n.full full f;
}

-- an entry more, which is written
pub put_here : (rows : List Row) (r : Row) (w n : Writer) (text : List ℕ) → w.full ≡ false → contains_by (λ k. bytes_eq r.key k.items) w.keys ≡ false → text ≡ row_text r → length w.out.items + length text ≤ 16777212
    → n.full ≡ false → n.out.items ≡ w.out.items ++ text → ((q : List ℕ) → contains_by (λ k. bytes_eq q k.items) n.keys ≡ cond (bytes_eq r.key q) true (contains_by (λ k. bytes_eq q k.items) w.keys))
    → IsSoFar rows w → IsSoFar (rows ++ r ∷ []) n
put_here rows r w n text is new at short room out keys h =
    let old = h.room is in
    record {
      front = h.front ++ r ∷ [];
      behind = [];
      all = new_key rows r w is new h ∙ sym (none_behind (h.front ++ r ∷ []));
      out = out ∙ ap (λ (i : List ℕ). i ++ text) h.out ∙ ap (λ (i : List ℕ). codes "wycache 1\n" ++ (rows_text h.front ++ i)) at ∙ ap (λ (i : List ℕ). codes "wycache 1\n" ++ i) (sym (rows_more h.front r));
      fits = omega (arith, ap length out, length-append w.out.items text, short);
      full = λ t. unlike n.full t room;
      room = λ f. record { none = refl; keys = λ q. keys q ∙ ap (λ (b : Bool). cond (bytes_eq r.key q) true b) (old.keys q) ∙ sym (has_more rows r q) };
    }

first_is : (r s : Row) (rs ss : List Row) → r ∷ rs ≡ s ∷ ss → r ≡ s
first_is r s rs ss e = cc

long_file : (front : List Row) (r : Row) → length (file_text (front ++ r ∷ [])) ≡ 14 + length (rows_text front) + length (row_text r)
long_file front r =
    let all = ap length (rows_more front r) in
    let parts = length-append (rows_text front) (row_text r) in
    let last = length-append (rows_text (front ++ r ∷ [])) (codes "end\n") in
    omega (arith, all, parts, last)

pub finished : (rows : List Row) (w : Writer) (bytes : List ℕ) → bytes ≡ w.out.items ++ codes "end\n" → IsSoFar rows w → IsLongest rows bytes
finished rows w bytes is h = record {
  front = h.front;
  behind = h.behind;
  all = h.all;
  is = is ∙ ap (λ (i : List ℕ). i ++ codes "end\n") h.out;
  fits = omega (arith, ap length is, length-append w.out.items (codes "end\n"), h.fits);
  longest = λ r rs e. by r rs e (cases_Bool w.full);
}
  where
    by : (r : Row) (rs : List Row) → h.behind ≡ r ∷ rs → ((w.full ≡ true) ⊎ (w.full ≡ false)) → limit < length (file_text (h.front ++ r ∷ []))
    by r rs e (inl t) =
        let f = h.full t in
        let same : f.first ≡ r = first_is f.first r f.others rs (sym f.is ∙ e) in
        let out = ap length h.out in
        omega (arith, f.long, ap (λ (x : Row). length (row_text x)) same, out, long_file h.front r)
    by r rs e (inr n) = absurd (let none = (h.room n).none in let no : [] ≡ r ∷ rs = sym none ∙ e in cc)
