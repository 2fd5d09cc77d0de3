-- Laws that a walk over the word, and a search for the majority, go by. Assumes nothing.
use mathlib.Core.Path.{◌≡◌, refl, sym, ap, ap₂, ◌∙◌}
use mathlib.Core.Bool.{Bool, true, false, not, ◌&&◌, ◌||◌, true≢false}
use mathlib.Core.List.{List, [], ◌∷◌, ◌++◌, flat_map, append-nil}
use mathlib.Core.Option.{none, some}
use Prim.Native.Nat.{ℕ, zero, suc, ◌+◌, ◌-◌, ◌*◌, ◌≤◌, ◌<◌, max}
use native.Mathlib.Nat.{mul-le-mul_right, div-eq_of_lt, mod-eq_of_lt, pow-zero, pow-le-pow_left}
use native.Mathlib.Omega.{arith}
use borrow.Author.Tests.{leb-true}
use lib.Dec.{leb, ltb}
use lib.ListN.{length, get_or, take, drop, replicate}
use lib.Seq.{take-append_seam, drop-nil, drop_at, drop-cons, drop-drop}
use Rattle.combinatorics.specs.Bursts.{in_burst, contracted, placements}
use Rattle.combinatorics.specs.Choose.{choose}
use Rattle.combinatorics.specs.Lists.{all, any, same_list}
use Rattle.combinatorics.specs.Majority.{is_value, common, has_common}
use Rattle.combinatorics.specs.Stretch.{bit, count, has, first}
use Rattle.combinatorics.proofs.Bursts.{Placed, burst-count, rank-of-starts}
use Rattle.combinatorics.proofs.Cases.{by_le, by_bool, leb-holds, leb-fails}
use Rattle.combinatorics.proofs.Choose.{pascal, choose-zero, choose-mono}
use Rattle.combinatorics.proofs.Lists.{same-list, list_same}
use Rattle.combinatorics.proofs.Majority.{is-value, value-is, majority-is, none-majority}
use Rattle.combinatorics.proofs.Stretch.{sum_one, sum-append, count-le, count-not, has-none, has_some, has-or, first-in, first-true}
use Rattle.cells.specs.Cells.{Cell, burst, weave}
use Rattle.cells.specs.Codec.{accepted}
use Rattle.cells.specs.Digits.{span, spell, places}
use Rattle.cells.specs.Erasures.{found_bound}
use Rattle.cells.proofs.Walk.{tabulate-same, weave-replicate}
use Rattle.cells.specs.Figures.{Params, placement_count_of, rank, placement_of}
use Rattle.larsson.specs.Figures.{sub_len_of, sub_blocks, sub_start}
use Rattle.larsson.specs.Writing.{untouched, bears, bearers, is_borne, cell_of, kind_at, plan, rank_places, rank_digits, digits, word}
use Rattle.larsson.specs.Reading.{sub_symbols, sub_value, found, read}
use Rattle.larsson.proofs.Figures.{Served, rank_room, rank-least}
use Rattle.larsson.proofs.Plan.{bearers-many, borne-in, borne-past, borne-other, messages-count}
use Rattle.larsson.proofs.Complete.{length-rank, rank-spelled, complete}
use Rattle.larsson.proofs.SubBlocks.{found-value}

-- ---- Over the word

-- from a sub-block's first position up to the next one's: its R cells where it bears the rank, then the message; and the runs
pub kind-in : (f : Params) (ss : List ℕ) (k x : ℕ) → k < sub_blocks f → sub_start f k ≤ x → x < sub_start f (suc k)
    → kind_at f ss x ≡ cell_of (in_burst f.b ss x) (bears f ss k && ltb x (sub_start f k + sub_len_of f))
unfolding kind_at
kind-in f ss k x l a c = ap (cell_of (in_burst f.b ss x)) borne
  where
    borne : is_borne f ss x ≡ (bears f ss k && ltb x (sub_start f k + sub_len_of f))
    borne =
        by_bool (bears f ss k)
        (λ t. rw t
        (by_le (suc x) (sub_start f k + sub_len_of f) (λ b. is_borne f ss x ≡ b) (λ h. borne-in f x ss k l t a h) (λ h. borne-past f x ss k (omega arith) c)))
        (λ t. rw t (borne-other f x ss k t a c))

-- ---- No symbols for the rank

choose-some : (n k : ℕ) → k ≤ n → 1 ≤ choose n k
choose-some n zero h = omega (arith, choose-zero n)
choose-some zero (suc k) h = absurd (omega arith)
choose-some (suc n) (suc k) h = omega (arith, pascal n k, choose-some n k (omega arith))

-- there is a placement wherever the runs fit in n
pub count-some : (f : Params) → f.m * f.b ≤ f.n → 0 < placement_count_of f
unfolding placements
count-some f total = choose-some (contracted f.n f.m f.b) f.m (omega arith)

-- R is 0 where there is but one placement: the runs have the whole word
pub none-spelled : (f : Params) → Served f → sub_len_of f ≡ 0 → f.m * f.b ≡ f.n
unfolding placements
none-spelled f ok e =
    let one : placement_count_of f ≤ 1 = rw (e, pow-zero f.q) at (rank_room f ok.range ok.total) in
    let m = f.m - 1 in
    let s : f.m ≡ suc m = omega (arith, ok.range.m-least) in
    by_le f.n (f.m * f.b) (λ _. f.m * f.b ≡ f.n) (λ l. omega (arith, ok.total))
    (λ l.
    let least : choose (suc (suc m)) (suc m) ≤ choose (contracted f.n f.m f.b) (suc m) = choose-mono (suc m) (omega arith) in
    let more : placement_count_of f ≡ choose (contracted f.n f.m f.b) (suc m) = ap (choose (contracted f.n f.m f.b)) s in
    absurd (omega (arith, pascal (suc m) m, choose-some (suc m) m (omega arith), choose-some (suc m) (suc m) (omega arith))))

-- then every position lies in a run, the written word is blank, and every word is accepted
module _ (f : Params) (ok : Served f) (e : sub_len_of f ≡ 0) where
  pub all-burst : (ss : List ℕ) → Placed f.b f.n 0 ss → length ss ≡ f.m → (x : ℕ) → x < f.n → in_burst f.b ss x ≡ true
  all-burst ss h c x l =
      let w = in_burst f.b ss in
      by_bool (w x) (λ t. t)
      (λ t. absurd (omega (
        arith,
        ap (λ (b : Bool). bit (not b)) t,
        sum_one f.n 0 x (λ y. bit (not (w y))) (omega arith) (omega arith),
        count-not f.n 0 w,
        burst-count f.b f.n 0 ss f.n h (omega arith),
        ap (λ (y : ℕ). y * f.b) c,
        none-spelled f ok e,
      )))

  pub blank-word : (ss ms : List ℕ) → Placed f.b f.n 0 ss → length ss ≡ f.m → word f ss ms ≡ replicate f.n 0
  unfolding word plan kind_at
  blank-word ss ms h c =
      ap (λ (cs : List Cell). weave cs (digits f ss) ms)
      (tabulate-same f.n 0 (kind_at f ss) burst (λ x _ l. ap (λ (b : Bool). cell_of b (is_borne f ss x)) (all-burst ss h c x (omega arith))))
      ∙ weave-replicate burst f.n (digits f ss) ms tt

  pub every-word : (w : List ℕ) → read f w ≡ accepted (placement_of f 0) []
  every-word w =
      let s = rank-of-starts f.n f.m f.b ok.range.b-least ok.total 0 (count-some f ok.total) in
      complete f ok (placement_of f 0) s.placed s.count [] w (omega (arith, none-spelled f ok e, ap (λ (r : ℕ). suc f.m * r) e))
      (unfold all in refl)
      (λ x l out. absurd (true≢false (sym (all-burst (placement_of f 0) s.placed s.count x l) ∙ out)))

-- ---- Which sub-blocks the runs touch

-- a run and a stretch share a position exactly where each starts before the other's end
pub meets-overlap : (n a b s : ℕ) → 0 < n → 0 < b → has n a (λ x. leb s x && ltb x (s + b)) ≡ (ltb s (a + n) && ltb a (s + b))
meets-overlap n a b s hn hb =
    by_le (suc s) (a + n) (λ t. has n a inside ≡ (t && ltb a (s + b)))
    (λ l. by_le (suc a) (s + b) (λ t. has n a inside ≡ t)
    (λ h. has_some n a (max s a) inside (omega arith) (omega arith) (rw (leb-holds s (max s a) (omega arith), leb-holds (suc (max s a)) (s + b) (omega arith))))
    (λ h. has-none n a inside (λ x u v. rw (leb-fails (suc x) (s + b) (omega arith)) (no_more (leb s x)))))
    (λ l. has-none n a inside (λ x u v. rw (leb-fails s x (omega arith))))
  where
    inside : ℕ → Bool
    inside x = leb s x && ltb x (s + b)

    no_more : (t : Bool) → (t && false) ≡ false
    no_more true = refl
    no_more false = refl

-- run by run
touched-any : (n a b : ℕ) → 0 < n → 0 < b → (ss : List ℕ) → has n a (in_burst b ss) ≡ any (λ s. ltb s (a + n) && ltb a (s + b)) ss
unfolding in_burst any
touched-any n a b hn hb [] = has-none n a (λ x. false) (λ _ _ _. refl)
touched-any n a b hn hb (s ∷ ss) =
    has-or n a (λ x. leb s x && ltb x (s + b)) (in_burst b ss) ∙ ap₂ ◌||◌ (meets-overlap n a b s hn hb) (touched-any n a b hn hb ss)

pub untouched-any : (f : Params) → Served f → 0 < sub_len_of f → (ss : List ℕ) (i : ℕ)
    → untouched f ss i ≡ not (any (λ s. ltb s (sub_start f i + sub_len_of f) && ltb (sub_start f i) (s + f.b)) ss)
unfolding untouched
untouched-any f ok long ss i = ap not (touched-any (sub_len_of f) (sub_start f i) f.b long ok.range.b-least ss)

-- ---- The digits of each bearer

flat-drop : (ds : List ℕ) (j : ℕ) (ks : List ℕ) → drop (j * length ds) (flat_map (λ _. ds) ks) ≡ flat_map (λ _. ds) (drop j ks)
unfolding flat_map
flat-drop ds zero ks =
    let e : 0 * length ds ≡ 0 = omega arith in
    rw e
flat-drop ds (suc j) [] = drop-nil (suc j * length ds)
flat-drop ds (suc j) (k ∷ ks) =
    let e : suc j * length ds ≡ length ds + j * length ds = omega arith in
    rw (e, ← drop-drop (j * length ds) (length ds) (ds ++ flat_map (λ _. ds) ks), drop_at ds (flat_map (λ _. ds) ks) (length ds) refl) (flat-drop ds j ks)

-- behind those of j bearers stand the rank's again: a writer keeps R digits
pub digits-at : (f : Params) → Served f → (ss : List ℕ) → length ss ≡ f.m → (j : ℕ) → j < suc f.m
    → take (sub_len_of f) (drop (j * sub_len_of f) (digits f ss)) ≡ rank_digits f ss
unfolding digits flat_map
digits-at f ok ss e j l =
    let ds = rank_digits f ss in
    let n = length-rank f ss in
    let k : j < length (bearers f ss) = omega (arith, bearers-many f ok ss e) in
    rw (← n, flat-drop ds j (bearers f ss), drop-cons (bearers f ss) j 0 k) (take-append_seam ds (flat_map (λ _. ds) (drop (suc j) (bearers f ss))))

-- a writer that spells over a lead place and R plain ones has the rank's digits behind the lead's, which is 0, stored plus 1
module _ (f : Params) (ok : Served f) (ss : List ℕ) (h : Placed f.b f.n 0 ss) (e : length ss ≡ f.m) where
  pub digits-behind : spell f.q (places 1 (sub_len_of f)) (rank f ss) ≡ 1 ∷ rank_digits f ss
  unfolding rank_digits places spell
  digits-behind =
      let l = rank-spelled f ok ss h e in
      rw (append-nil (rank_places f), div-eq_of_lt l, mod-eq_of_lt l)

  -- which such places have room for
  pub rank-behind : rank f ss < span f.q (places 1 (sub_len_of f))
  unfolding places span
  rank-behind =
      rw (append-nil (rank_places f))
      (omega (arith, rank-spelled f ok ss h e, mul-le-mul_right {m = 1} {n = f.q - 1} (span f.q (rank_places f)) (omega (arith, ok.range.q-least))))

-- so few that an array has room: two symbols tell 2 ^ 63 values apart
pub digits-few : (f : Params) → Served f → sub_len_of f ≤ 63
digits-few f ok = rank-least f 63 (omega (arith, ok.counted, pow-le-pow_left ok.range.q-least 63))

-- ---- Nothing is taken from n that n does not have

pub message-room : (f : Params) → Served f → f.m * f.b + suc f.m * sub_len_of f ≤ f.n
message-room f ok =
    let s = rank-of-starts f.n f.m f.b ok.range.b-least ok.total 0 (count-some f ok.total) in
    omega (arith, messages-count f ok (placement_of f 0) s.placed s.count)

-- ---- The majority by symbols

module _ (f : Params) (w : List ℕ) where
  same-value : (i j : ℕ) → sub_symbols f w i ≡ sub_symbols f w j → sub_value f w i ≡ sub_value f w j
  unfolding sub_value
  same-value i j e = rw e

  -- a sub-block has the value of another exactly where it has its symbols: values need not be compared
  pub holds_same : ((x : ℕ) → get_or w x 0 < found_bound f.q) → (i j v : ℕ) → sub_value f w j ≡ some v
      → is_value v (sub_value f w i) ≡ same_list (sub_symbols f w i) (sub_symbols f w j)
  holds_same small i j v e =
      by_bool (is_value v (sub_value f w i))
      (λ t.
      let s : sub_symbols f w i ≡ sub_symbols f w j = found-value f w small i v (value-is v (sub_value f w i) t) ∙ sym (found-value f w small j v e) in
      t ∙ (rw s (sym (same-list (sub_symbols f w j)))))
      (λ t. by_bool (same_list (sub_symbols f w i) (sub_symbols f w j))
      (λ u. absurd (true≢false (sym (is-value v (sub_value f w i) (same-value i j (list_same (sub_symbols f w i) (sub_symbols f w j) u) ∙ e)) ∙ t)))
      (λ u. t ∙ sym u))

  -- a value that is found is the majority, and where none is there is none
  pub found_at : (i v : ℕ) → sub_value f w i ≡ some v → has_common (sub_blocks f) (suc f.m) (sub_value f w) (sub_value f w i) ≡ true → found f w ≡ some v
  unfolding found
  found_at i v e t = majority-is (sub_blocks f) (suc f.m) (sub_value f w) (omega arith) (omega arith) v (rw e at t)

  -- of which the first m + 1 are enough
  pub found_nowhere : ((i : ℕ) → i < suc f.m → has_common (sub_blocks f) (suc f.m) (sub_value f w) (sub_value f w i) ≡ false) → found f w ≡ none
  unfolding found common
  found_nowhere h =
      none-majority (sub_blocks f) (suc f.m) (sub_value f w) (omega arith) (omega arith)
      (λ v. by_bool (common (sub_blocks f) (suc f.m) (sub_value f w) v)
      (λ t.
      let has-v : ℕ → Bool = λ i. is_value v (sub_value f w i) in
      let e : suc f.m + f.m ≡ sub_blocks f = omega arith in
      let votes : suc f.m ≤ count (sub_blocks f) 0 has-v = leb-true (suc f.m) (count (sub_blocks f) 0 has-v) t in
      let halves : count (suc f.m + f.m) 0 has-v ≡ count (suc f.m) 0 has-v + count f.m (0 + suc f.m) has-v =
      sum-append (suc f.m) f.m 0 (λ i. bit (has-v i)) in
      let early : first (suc f.m) 0 has-v < 0 + suc f.m =
      first-in (suc f.m) 0 has-v (omega (arith, rw e at halves, count-le f.m (0 + suc f.m) has-v)) in
      let at = first (suc f.m) 0 has-v in
      let here : sub_value f w at ≡ some v = value-is v (sub_value f w at) (first-true (suc f.m) 0 has-v early) in
      let seen : has_common (sub_blocks f) (suc f.m) (sub_value f w) (sub_value f w at) ≡ true = rw here t in
      absurd (true≢false (sym seen ∙ h at (omega arith))))
      (λ t. t))
