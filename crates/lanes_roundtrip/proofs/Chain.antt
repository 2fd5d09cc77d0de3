-- What the calls of the law leave, one after another. Assumes nothing.
use mathlib.Core.Path.{◌≡◌, refl, sym, ap, ap₂, subst, ◌∙◌}
use mathlib.Core.Bool.{Bool, true, false, true≢false}
use mathlib.Core.List.{List, flat_map}
use Prim.Native.Nat.{ℕ, ◌*◌, ◌≤◌, ◌<◌}
use native.Mathlib.Omega.{arith}
use lib.Dec.{eqb}
use lib.ListN.{length}
use Rattle.refusals.specs.Refusals.{served, uncovered}
use Rattle.combinatorics.specs.Stretch.{consecutive}
use Rattle.combinatorics.proofs.Cases.{eqb_same, eqb-true}
use Rattle.combinatorics.proofs.Lists.{below_more}
use Rattle.cells.specs.Outcomes.{Coding, Covered, Encoded, encode_under, defect_at, cover_under}
use Rattle.codes.specs.Bridge.{coding_of}
use Rattle.codes.specs.Given.{coding_in, Serves}
use Rattle.codes.specs.declared.Figures.{Figures}
use Rattle.codes.specs.declared.WordLayout.{WordLayout}
use Rattle.codes.proofs.Exact.{more-found}
use Rattle.codes.proofs.Layouts.{small, under-layout, in_order, numbers-in}
use Rattle.lanes.specs.Interleaving.{interleaved, deinterleaved, lane}
use Rattle.lanes.specs.Outcomes.{Rearranged, interleave_under, deinterleave_under}
use Rattle.lanes.specs.Lanes.{Wear, Worn, strip_map, word_map, Messages, FoundStrip, LanesReadUnder, cover_in, words_in}
use Rattle.lanes.proofs.Interleaving.{length-transposed, transposed-below, length-lane, lane_below, lane-of-words, length-words}
use Rattle.lanes.proofs.Lanes.{IsMap, length-map, lanes-read-by, lanes-read}
use Rattle.lanes.proofs.Outcomes.{Passes, passes, passed}
use Rattle.roundtrip.specs.Damage.{damaged}
use Rattle.roundtrip.proofs.ReadBack.{damaged-length, damaged-below, sound}
use Rattle.lanes_roundtrip.specs.LanesRoundTrip.{lanes_round_trip_as, lanes_covered, found_interleaved, lanes_round_trip_under, CoversDefects}
use Rattle.lanes_roundtrip.specs.LaneByLane.{all_covered, cover_word, cover_words, ReadsLanes, LanesLent}
use Rattle.lanes_roundtrip.proofs.Filling.{lanes-same}
use Rattle.lanes_roundtrip.proofs.Covering.{each-passes, all_of_each}
use Rattle.lanes_roundtrip.proofs.Tests.{Sizes, sizes-of, Symbols, symbols-of, trip-uncovered, trip-served, six-uncovered}

-- what every code has: symbols, and more of them that can be found
record Alphabet (k : Coding) : Type 0 where
  least : 2 ≤ k.codec.alphabet
  more : k.codec.alphabet ≤ k.codec.found_bound

alphabet-in : (l : WordLayout) → Serves l → Alphabet (coding_in l)
alphabet-in = under-layout Alphabet (λ f i _. record { least = (small f i).alphabet-least; more = more-found f })

module _ (l : WordLayout) (d : ℕ) (map messages damage words strip read : List ℕ) (lent : LanesLent l d map messages damage words strip read) where
  abbrev k : Coding
  k = coding_in l

  abbrev n : ℕ
  n = (coding_in l).codec.word_len

  -- message j
  abbrev message : ℕ → List ℕ
  message j = lane (coding_in l).codec.message_len_of j messages

  pub sizes : Sizes (coding_in l) d map messages damage words strip read
  sizes = sizes-of k d map messages damage words strip read lent.sizes

  symbols : Symbols (coding_in l) map messages damage
  symbols = symbols-of k map messages damage lent.symbols

  is-map : IsMap d (coding_in l).codec.word_len map
  is-map = record { size = sizes.map-len; bits = symbols.bits }

  -- the map taken apart
  pub mapped : (deinterleave_under (coding_in l) d map words).buffer ≡ deinterleaved d (coding_in l).codec.word_len map
  mapped =
      let alphabet = alphabet-in l lent.serves in
      let order = in_order l lent.serves in
      ap (λ (o : Rearranged). o.buffer)
      (passes k d k.codec.found_bound map words (deinterleaved d n map)
      (record {
        range = order.0;
        fit = order.1;
        depth = lent.depth;
        lent = sizes.map-len;
        room = sizes.words-len;
        symbols = below_more 2 k.codec.found_bound map (omega (arith, alphabet.least, alphabet.more)) symbols.bits;
      }))

  -- the test of each map
  pub covered-is : (m : ℕ) → m ≡ (coding_in l).codec.word_len
      → all_covered (coding_in l) m d (deinterleaved d (coding_in l).codec.word_len map) ≡ lanes_covered (coding_in l) d map
  unfolding lanes_covered word_map
  covered-is m e = ap (λ (x : ℕ). all_covered k x d (deinterleaved d n map)) e

  module _ (all-covered : lanes_covered (coding_in l) d map ≡ true) where
    answers : (j : ℕ) → j < d → (cover_under (coding_in l) (word_map d (coding_in l).codec.word_len map j)).answer ≡ served
    unfolding lanes_covered
    answers j h = eqb-true (cover_under k (word_map d n map j)).answer served
        (each-passes (λ i. eqb (cover_under k (word_map d n map i)).answer served) d 0 all-covered j (omega arith) (omega arith))

    law : LanesReadUnder (coding_in l) d map
    law =
        under-layout (λ (c : Coding). IsMap d c.codec.word_len map
        → ((j : ℕ) → j < d → (cover_under c (word_map d c.codec.word_len map j)).answer ≡ served) → LanesReadUnder c d map)
        (λ f i h is-map answers. lanes-read-by f d map i h is-map answers) l lent.serves is-map answers

    sent : Messages (coding_in l).codec d (λ j. lane (coding_in l).codec.message_len_of j messages)
    sent j h = (
      length-lane k.codec.message_len_of d j messages sizes.messages-len h,
      lane_below k.codec.alphabet k.codec.message_len_of j messages symbols.sent,
    )

    -- the words on their covers
    laid : Passes (coding_in l) d (coding_in l).codec.alphabet (words_in (coding_in l) d map (λ j. lane (coding_in l).codec.message_len_of j messages)) strip
    laid =
        let written = words_in k d map message in
        passed k d k.codec.alphabet written strip (interleaved d n written)
        (ap (λ (o : Rearranged). o.answer) (law.laid message strip sent lent.depth sizes.strip-len))

    word-is : (j : ℕ) → j < d
        → cover_word (coding_in l) (lane (coding_in l).codec.message_len_of j messages)
        (lane (coding_in l).codec.word_len j (deinterleaved d (coding_in l).codec.word_len map))
        ≡ lane (coding_in l).codec.word_len j (words_in (coding_in l) d map (λ j. lane (coding_in l).codec.message_len_of j messages))
    unfolding word_map
    word-is j h =
        let map_of = word_map d n map j in
        ap (λ (o : Covered). (encode_under k o.placement (message j) map_of).word) (law.covered j h)
        ∙ ap (λ (o : Encoded). o.word) (law.written message map_of sent (length-map d n map is-map j h) j h)

    words_are : cover_words (coding_in l) (coding_in l).codec.word_len (coding_in l).codec.message_len_of d messages
        (deinterleaved d (coding_in l).codec.word_len map)
        ≡ words_in (coding_in l) d map (λ j. lane (coding_in l).codec.message_len_of j messages)
    words_are =
        let written = words_in k d map message in
        let g : ℕ → List ℕ = λ j. cover_word k (message j) (lane n j (deinterleaved d n map)) in
        let long : (j : ℕ) → j < d → length (g j) ≡ n = λ j h. ap length (word-is j h) ∙ length-lane n d j written laid.lent h in
        lanes-same n d (flat_map g (consecutive d 0)) written (length-words n d 0 g (λ j _ h. long j (omega arith))) laid.lent
        (λ j h. lane-of-words n d j g long h ∙ word-is j h)

    -- side by side
    pub strip-is : (m s : ℕ) → m ≡ (coding_in l).codec.word_len → s ≡ (coding_in l).codec.message_len_of
        → (interleave_under (coding_in l) d (cover_words (coding_in l) m s d messages (deinterleaved d (coding_in l).codec.word_len map)) strip).buffer
        ≡ interleaved d (coding_in l).codec.word_len (words_in (coding_in l) d map (λ j. lane (coding_in l).codec.message_len_of j messages))
    strip-is m s em es =
        rw (em, es)
        (ap (λ (written : List ℕ). (interleave_under k d written strip).buffer) words_are
        ∙ ap (λ (o : Rearranged). o.buffer) (law.laid message strip sent lent.depth sizes.strip-len))

    -- and with the damage
    pub found-is : damaged (defect_at map) damage
        (interleaved d (coding_in l).codec.word_len (words_in (coding_in l) d map (λ j. lane (coding_in l).codec.message_len_of j messages)))
        ≡ found_interleaved (coding_in l) d map messages damage
    unfolding found_interleaved
    found-is = refl

    found : FoundStrip (coding_in l).codec (coding_in l).bursts (coding_in l).burst_len d map (λ j. lane (coding_in l).codec.message_len_of j messages)
        (found_interleaved (coding_in l) d map messages damage)
    unfolding found_interleaved
    found =
        let written = interleaved d n (words_in k d map message) in
        let alphabet = alphabet-in l lent.serves in
        let long = length-transposed d n (words_in k d map message) in
        record {
          complete = damaged-length (defect_at map) damage written ∙ long;
          symbols = damaged-below (defect_at map) damage written k.codec.alphabet k.codec.found_bound (omega (arith, alphabet.least)) alphabet.more
              symbols.found (transposed-below k.codec.alphabet d n (words_in k d map message) laid.lent laid.symbols);
          outside = λ t h e. sound (defect_at map) damage written t (omega (arith, long)) e;
        }

    -- taken apart
    pub apart-is : (out : List ℕ) → length out ≡ d * (coding_in l).codec.word_len
        → (deinterleave_under (coding_in l) d (found_interleaved (coding_in l) d map messages damage) out).buffer
        ≡ deinterleaved d (coding_in l).codec.word_len (found_interleaved (coding_in l) d map messages damage)
    apart-is out room = ap (λ (o : Rearranged). o.buffer) (law.taken message (found_interleaved k d map messages damage) out found lent.depth room)

    -- and read
    pub reads-are : (m s : ℕ) → m ≡ (coding_in l).codec.word_len → s ≡ (coding_in l).codec.message_len_of
        → ReadsLanes (coding_in l) m s d (deinterleaved d (coding_in l).codec.word_len (found_interleaved (coding_in l) d map messages damage)) messages
    reads-are m s em es =
        rw (em, es)
        (record {
          size = sizes.messages-len;
          starts = cover_in k d map;
          reads = λ j h out e. law.read message (found_interleaved k d map messages damage) out sent found e j h;
        })

  -- ---- The calls' answers put together

  module _ (maps : List ℕ) (r : Bool) (taken : maps ≡ (deinterleave_under (coding_in l) d map words).buffer)
      (tested : r ≡ all_covered (coding_in l) l.n d maps) where
    tested-is : lanes_covered (coding_in l) d map ≡ r
    tested-is =
        sym (covered-is l.n (numbers-in l lent.serves).word-is)
        ∙ ap (λ (xs : List ℕ). all_covered k l.n d xs) (sym (taken ∙ mapped)) ∙ sym tested

    pub when-uncovered : r ≡ false → lanes_round_trip_as maps strip read uncovered ≡ lanes_round_trip_under (coding_in l) d map messages damage words strip read
    when-uncovered e =
        let order = in_order l lent.serves in
        ap (λ (xs : List ℕ). lanes_round_trip_as xs strip read uncovered) (taken ∙ mapped)
        ∙ trip-uncovered k d map messages damage words strip read order.0 order.1 lent.depth lent.sizes lent.symbols (tested-is ∙ e)

    pub when-covered : r ≡ true → (written found room parted messages' : List ℕ) (a : ℕ)
        → written ≡ (interleave_under (coding_in l) d (cover_words (coding_in l) l.n l.message_len d messages maps) strip).buffer
        → found ≡ damaged (defect_at map) damage written → length room ≡ length words → parted ≡ (deinterleave_under (coding_in l) d found room).buffer
        → ((ms : List ℕ) → ReadsLanes (coding_in l) l.n l.message_len d parted ms → (a ≡ served) × (messages' ≡ ms))
        → lanes_round_trip_as parted found messages' a ≡ lanes_round_trip_under (coding_in l) d map messages damage words strip read
    when-covered e written spoilt room parted messages' a Laid-by spoilt-by room-len parted-by reads =
        let is = numbers-in l lent.serves in
        let order = in_order l lent.serves in
        let covered = tested-is ∙ e in
        let found-strip = found_interleaved k d map messages damage in
        let spoilt-is : spoilt ≡ found_interleaved k d map messages damage =
        spoilt-by
        ∙ ap (λ (xs : List ℕ). damaged (defect_at map) damage xs)
        (Laid-by ∙ ap (λ (xs : List ℕ). (interleave_under k d (cover_words k l.n l.message_len d messages xs) strip).buffer) (taken ∙ mapped)
        ∙ strip-is covered l.n l.message_len is.word-is is.len_is)
        ∙ found-is covered in
        let parted-is : parted ≡ deinterleaved d n (found_interleaved k d map messages damage) =
        parted-by ∙ ap (λ (xs : List ℕ). (deinterleave_under k d xs room).buffer) spoilt-is ∙ apart-is covered room (room-len ∙ sizes.words-len) in
        let read_is = reads messages (subst (λ (xs : List ℕ). ReadsLanes k l.n l.message_len d xs messages) (sym parted-is)
        (reads-are covered l.n l.message_len is.word-is is.len_is)) in
        ap₂ (λ (xs ys : List ℕ). lanes_round_trip_as xs ys messages' a) parted-is spoilt-is
        ∙ ap₂ (λ (ms : List ℕ) (x : ℕ). lanes_round_trip_as (deinterleaved d n found-strip) found-strip ms x) read_is.1 read_is.0
        ∙ trip-served k d map messages damage words strip read order.0 order.1 lent.depth lent.sizes lent.symbols covered

-- ---- "then each word's map can be covered"

wear-covered : (f : Figures) (d : ℕ) (ss : List Wear) → (coding_of f).in_range ≡ true → (coding_of f).fits ≡ true
    → Worn (coding_of f).bursts (coding_of f).burst_len d ss → lanes_covered (coding_of f) d (strip_map d (coding_of f).codec.word_len ss) ≡ true
unfolding lanes_covered
wear-covered f d ss i h wear =
    let c = coding_of f in
    let map = strip_map d c.codec.word_len ss in
    let answer : ℕ → ℕ = λ j. (cover_under c (word_map d c.codec.word_len map j)).answer in
    all_of_each (λ j. eqb (answer j) served) d 0
    (λ j _ l. eqb_same (answer j) served (ap (λ (o : Covered). o.answer) ((lanes-read f d ss i h wear).covered j (omega arith))))

pub covers-defects : (f : Figures) (d : ℕ) (map messages damage words strip read : List ℕ) (a : ℕ)
    → a ≡ (lanes_round_trip_under (coding_of f) d map messages damage words strip read).answer → CoversDefects (coding_of f) d map a
covers-defects f d map messages damage words strip read a is ss wear e six =
    let h = six-uncovered (coding_of f) d map messages damage words strip read (sym is ∙ six) in
    absurd (true≢false (sym (ap (λ (xs : List ℕ). lanes_covered (coding_of f) d xs) e ∙ wear-covered f d ss h.0 h.1.0 wear) ∙ h.1.1))
