-- The law of words side by side holds. Assumes nothing.
use mathlib.Core.Path.{◌≡◌, refl, sym, ap, ◌∙◌}
use mathlib.Core.Bool.{Bool, true, false, true≢false}
use mathlib.Core.List.{List, [], ◌∷◌}
use Prim.Native.Nat.{ℕ, suc, ◌+◌, ◌-◌, ◌*◌, ◌≤◌, ◌<◌}
use native.Mathlib.Nat.{add-mul, mul_comm, lt_of_mul-lt-mul_right}
use native.Mathlib.Omega.{arith}
use lib.Arith.{digits_lt}
use lib.Dec.{leb, ltb, eqb}
use lib.ListN.{length, get_or, replicate}
use lib.Seq.{take_at}
use Rattle.refusals.specs.Refusals.{served, uncovered}
use Rattle.combinatorics.specs.Bursts.{apart, placements, cover_rank}
use Rattle.combinatorics.specs.Lists.{all, all_below}
use Rattle.combinatorics.specs.Stretch.{bit}
use Rattle.combinatorics.proofs.Bursts.{of-placed}
use Rattle.combinatorics.proofs.Cases.{by_le, by_bool, eqb_same, leb-holds, leb-fails, le_of}
use Rattle.combinatorics.proofs.Cover.{Cover, cover-is, of-covers}
use Rattle.combinatorics.proofs.Lists.{both, at-below, below_more}
use Rattle.combinatorics.proofs.ShortSets.{Short, Shorts, short-covered}
use Rattle.combinatorics.proofs.Members.{length-tabulate, tabulate-at}
use Rattle.combinatorics.proofs.Stretch.{bit_le}
use Rattle.cells.specs.Codec.{Codec, accepted, Word, WritesWords, Exact}
use Rattle.cells.specs.Outcomes.{Coding, in_use, held, defect_at, cover_under}
use Rattle.cells.specs.Figures.{Params, max_bursts, is_placement}
use Rattle.construction_a.specs.DemandTwo.{construction_a}
use Rattle.construction_a.proofs.Figures.{Served, serve}
use Rattle.construction_b.specs.Figures.{LongParams}
use Rattle.construction_b.specs.Figures as B
use Rattle.construction_b.specs.DemandTwo.{construction_b}
use Rattle.construction_b.proofs.Figures.{Served as ServedB, serve as serve-b, count-is}
use Rattle.larsson.specs.DemandTwo.{larsson}
use Rattle.larsson.proofs.Figures.{Served as ServedLarsson, serve as serve-larsson}
use Rattle.params.specs.Bridge.{given, given_long}
use Rattle.encoder.proofs.Outcomes.{encode-served}
use Rattle.codes.specs.declared.Figures.{Figures}
use Rattle.codes.specs.declared.Figures.TheVariants.{Ranked, Long, Larsson}
use Rattle.codes.specs.Bridge.{coding_of}
use Rattle.codes.proofs.Exact.{demand-two, more-found}
use Rattle.codes.proofs.Layouts.{small}
use Rattle.lanes.specs.Interleaving.{interleaved, deinterleaved, lane}
use Rattle.lanes.specs.Lanes.{Wear, wear_has, is_worn, is_short, Worn, strip_map, word_map, HasBursts, cover_of, Messages, cover_at, written_words}
use Rattle.lanes.specs.Lanes.{FoundStrip, LawOfLanes, LanesReadUnder, LanesRead}
use Rattle.lanes.proofs.Interleaving.{length-transposed, transposed-below, length-lane, lane_below, words-at, length-words, words-below}
use Rattle.lanes.proofs.Interleaving.{lane-of-words, strip-cell, word_cell}
use Rattle.lanes.proofs.Outcomes.{passes}

-- ---- Maps

bit_is : (b : Bool) → eqb (bit b) 1 ≡ b
bit_is true = refl
bit_is false = refl

-- position i of word j is worn where cell i × d + j of the strip is
map_at : (d n i j : ℕ) (map : List ℕ) → i < n → j < d → defect_at (word_map d n map j) i ≡ defect_at map (i * d + j)
unfolding word_map
map_at d n i j map hi hj = ap (λ (x : ℕ). eqb x 1) (word_cell d n i j map hi hj)

worn-at : (d n t : ℕ) (ss : List Wear) → t < d * n → defect_at (strip_map d n ss) t ≡ is_worn ss t
unfolding strip_map
worn-at d n t ss l = let z : 0 + t ≡ t = omega arith in rw (tabulate-at (d * n) 0 t (λ t. bit (is_worn ss t)) l, z) (bit_is (is_worn ss t))

-- ---- d × b cells in a row are at most b positions in a row of each word

module _ (b d j : ℕ) where
  cells : Wear → ℕ → Bool
  cells s i = wear_has s (i * d + j)

  short-one : (s : Wear) → s.cells ≤ d * b → Short cells b s
  unfolding cells
  short-one s l x y hx hy =
      let px = both (leb s.from (x * d + j)) (ltb (x * d + j) (s.from + s.cells)) hx in
      let py = both (leb s.from (y * d + j)) (ltb (y * d + j) (s.from + s.cells)) hy in
      let behind = le_of (suc (x * d + j)) (s.from + s.cells) px.1 in
      let before = le_of s.from (y * d + j) py.0 in
      lt_of_mul-lt-mul_right d (omega (arith, behind, before, l, add-mul y b d, mul_comm d b))

  shorts : (ss : List Wear) → all (is_short b d) ss ≡ true → Shorts cells b ss
  unfolding all
  shorts [] h = tt
  shorts (s ∷ ss) h =
      let p = both (is_short b d s) (all (is_short b d) ss) h in
      (short-one s (le_of s.cells (d * b) p.0), shorts ss p.1)

-- ---- Under any codec

-- every word's map can be covered
abbrev AllCovered : ℕ → ℕ → ℕ → ℕ → List ℕ → Type 0
AllCovered n m b d map = (j : ℕ) → j < d → cover_rank n m b (defect_at (word_map d n map j)) < placements n m b

covered : (n m b d : ℕ) (ss : List Wear) → 0 < b → m * b ≤ n → Worn m b d ss → AllCovered n m b d (strip_map d n ss)
unfolding cells is_worn
covered n m b d ss some room wear j hj =
    short-covered (cells b d j) b (defect_at (word_map d n (strip_map d n ss) j)) m n ss some room wear.few (shorts b d j ss wear.short)
    (λ x l w. sym (worn-at d n (x * d + j) ss (omega (arith, digits_lt l hj, mul_comm d n))) ∙ sym (map_at d n x j (strip_map d n ss) l hj) ∙ w)

module _ (c : Codec) (m b d : ℕ) (map : List ℕ) (bursts : HasBursts c m b) (writes : WritesWords c) (exact : Exact c)
    (coverable : AllCovered c.word_len m b d map) where
  cover : (j : ℕ) → j < d → Cover c.word_len m b (defect_at (word_map d c.word_len map j)) bursts.some (cover_at c m b d map j)
  unfolding cover_of
  cover j hj = cover-is c.word_len m b (defect_at (word_map d c.word_len map j)) bursts.some bursts.room (coverable j hj)

  are-apart : (j : ℕ) → j < d → apart b c.word_len 0 (cover_at c m b d map j) ≡ true
  are-apart j hj = of-placed b c.word_len 0 (cover_at c m b d map j) (cover j hj).placed

  placed : (j : ℕ) → j < d → c.placed (cover_at c m b d map j) ≡ true
  placed j hj = bursts.placed (cover_at c m b d map j) (cover j hj).count (are-apart j hj)

  written-word : (messages : ℕ → List ℕ) → Messages c d messages → (j : ℕ) → j < d
      → (length (c.encode (cover_at c m b d map j) (messages j)) ≡ c.word_len)
      × (all_below c.alphabet (c.encode (cover_at c m b d map j) (messages j)) ≡ true)
  written-word messages ms j hj = writes (cover_at c m b d map j) (messages j) (placed j hj) (ms j hj).0 (ms j hj).1

  module _ (messages : ℕ → List ℕ) (strip : List ℕ) (ms : Messages c d messages) (found : FoundStrip c m b d map messages strip) where
    long : (j : ℕ) → j < d → length (c.encode (cover_at c m b d map j) (messages j)) ≡ c.word_len
    long j hj = (written-word messages ms j hj).0

    read_word : (j : ℕ) → j < d → Word c (lane c.word_len j (deinterleaved d c.word_len strip))
    read_word j hj =
        record {
          complete = length-lane c.word_len d j (deinterleaved d c.word_len strip) (length-transposed c.word_len d strip ∙ mul_comm c.word_len d) hj;
          symbols = lane_below c.found_bound c.word_len j (deinterleaved d c.word_len strip)
              (transposed-below c.found_bound c.word_len d strip (found.complete ∙ mul_comm d c.word_len) found.symbols);
        }

    reads : (j : ℕ) → j < d → c.decode (lane c.word_len j (deinterleaved d c.word_len strip)) ≡ accepted (cover_at c m b d map j) (messages j)
    reads j hj =
        let starts = cover_at c m b d map j in
        (exact (lane c.word_len j (deinterleaved d c.word_len strip)) starts (messages j) (read_word j hj)).1
        (record {
          placement = placed j hj;
          count = (ms j hj).0;
          symbols = (ms j hj).1;
          outside = λ x lx sound.
              let t = x * d + j in
              let free : defect_at map t ≡ false =
              by_bool (defect_at map t)
              (λ w. absurd (true≢false (sym (bursts.spoilt starts x ((cover j hj).all x lx (map_at d c.word_len x j map lx hj ∙ w))) ∙ sound)))
              (λ w. w) in
              let z : 0 + j ≡ j = omega arith in
              word_cell d c.word_len x j strip lx hj
              ∙ found.outside t (omega (arith, digits_lt lx hj, mul_comm d c.word_len)) free
              ∙ strip-cell d c.word_len x j (written_words c m b d map messages) lx hj
              ∙ words-at c.word_len d 0 j x (λ i. c.encode (cover_at c m b d map i) (messages i)) (λ i _ l. long i (omega arith)) hj lx
              ∙ ap (λ (i : ℕ). get_or (c.encode (cover_at c m b d map i) (messages i)) x 0) z;
        })

pub lanes-hold : LawOfLanes
lanes-hold c m b d ss bursts writes exact wear =
    let map = strip_map d c.word_len ss in
    let all = covered c.word_len m b d ss bursts.some bursts.room wear in
    record { coverable = all; reads = λ messages strip ms found. reads c m b d map bursts writes exact all messages strip ms found }

-- ---- What each call answers

-- a map of the strip's length
pub record IsMap (d n : ℕ) (map : List ℕ) : Type 0 where
  pub size : length map ≡ d * n
  pub bits : all_below 2 map ≡ true

strip-map : (d n : ℕ) (ss : List Wear) → IsMap d n (strip_map d n ss)
unfolding strip_map
strip-map d n ss =
    let size = length-tabulate (d * n) 0 (λ t. bit (is_worn ss t)) in
    record {
      size = size;
      bits = at-below 2 (strip_map d n ss)
          (λ x l. rw (tabulate-at (d * n) 0 x (λ t. bit (is_worn ss t)) (omega (arith, size))) (omega (arith, bit_le (is_worn ss (0 + x)))));
    }

-- a word's map is one that the planner takes
module _ (d n : ℕ) (map : List ℕ) (given-map : IsMap d n map) where
  pub length-map : (j : ℕ) → j < d → length (word_map d n map j) ≡ n
  unfolding word_map
  length-map j h = length-lane n d j (deinterleaved d n map) (length-transposed n d map ∙ mul_comm n d) h

  pub map-bits : (j : ℕ) → all_below 2 (word_map d n map j) ≡ true
  unfolding word_map
  map-bits j = lane_below 2 n j (deinterleaved d n map) (transposed-below 2 n d map (given-map.size ∙ mul_comm d n) given-map.bits)

-- the starts of an answer are in use
in-use : (ss : List ℕ) → in_use (held ss) ≡ ss
in-use ss = take_at ss (replicate (max_bursts - length ss) 0) (length ss) refl

-- what a code gives: its placements are its bursts', it reads exactly, and a map is made of symbols that can be found
record LanesCode (k : Coding) : Type 0 where
  range : k.in_range ≡ true
  fit : k.fits ≡ true
  counts : k.placement_count_of ≡ placements k.codec.word_len k.bursts k.burst_len
  bursts : HasBursts k.codec k.bursts k.burst_len
  writes : WritesWords k.codec
  exact : Exact k.codec
  found : 2 ≤ k.codec.found_bound

-- what the planner covers can be covered
all-covered : (k : Coding) → LanesCode k → (d : ℕ) (map : List ℕ) → IsMap d k.codec.word_len map
    → ((j : ℕ) → j < d → (cover_under k (word_map d k.codec.word_len map j)).answer ≡ served)
    → AllCovered k.codec.word_len k.bursts k.burst_len d map
all-covered k code d map given-map answers j hj =
    let n = k.codec.word_len in
    let map_of = word_map d n map j in
    let v = cover_rank n k.bursts k.burst_len (defect_at map_of) in
    let t = placements n k.bursts k.burst_len in
    by_le (suc v) t (λ _. v < t) (λ l. l)
    (λ l.
    let six : (cover_under k map_of).answer ≡ uncovered =
    rw (
      code.range,
      code.fit,
      eqb_same (length map_of) n (length-map d n map given-map j hj),
      map-bits d n map given-map j,
      code.counts,
      leb-fails (suc v) t l,
    ) in
    let z : uncovered ≡ served = sym six ∙ answers j hj in
    absurd (omega arith))

module _ (k : Coding) (code : LanesCode k) (d : ℕ) (map : List ℕ) (given-map : IsMap d k.codec.word_len map)
    (coverable : AllCovered k.codec.word_len k.bursts k.burst_len d map) where
  read_under : LanesReadUnder k d map
  unfolding cover_of
  read_under =
      let c = k.codec in
      let n = c.word_len in
      let m = k.bursts in
      let b = k.burst_len in
      let range = code.range in
      let fit = code.fit in
      let cover-of = cover c m b d map code.bursts code.writes code.exact coverable in
      let placed_at_lem = placed c m b d map code.bursts code.writes code.exact coverable in
      let words_of = written-word c m b d map code.bursts code.writes code.exact coverable in
      record {
        mapped = λ out depth room.
            passes k d c.found_bound map out (deinterleaved d n map)
            (record {
              range = range;
              fit = fit;
              depth = depth;
              lent = given-map.size;
              room = room;
              symbols = below_more 2 c.found_bound map code.found given-map.bits;
            });
        covered = λ j hj.
            let map_of = word_map d n map j in
            rw (
              range,
              fit,
              eqb_same (length map_of) n (length-map d n map given-map j hj),
              map-bits d n map given-map j,
              code.counts,
              leb-holds (suc (cover_rank n m b (defect_at map_of))) (placements n m b) (coverable j hj),
            );
        covering = λ j hj. (placed_at_lem j hj, of-covers n b (defect_at (word_map d n map j)) (cover_at c m b d map j) (cover-of j hj).all);
        written = λ messages out ms room j hj.
            let starts = cover_at c m b d map j in
            let g : ℕ → List ℕ = λ i. c.encode (cover_at c m b d map i) (messages i) in
            let apart-at = are-apart c m b d map code.bursts code.writes code.exact coverable j hj in
            encode-served k (held starts) (messages j) out range fit (cover-of j hj).count (ms j hj).0 room
            (ap (λ (ss : List ℕ). apart b n 0 ss) (in-use starts) ∙ apart-at) (ms j hj).1
            ∙ ap (λ (w : List ℕ). record { answer = served; word = w })
            (ap (λ (ss : List ℕ). c.encode ss (messages j)) (in-use starts) ∙ sym (lane-of-words n d j g (λ i l. (words_of messages ms i l).0) hj));
        laid = λ messages out ms depth room.
            let g : ℕ → List ℕ = λ j. c.encode (cover_at c m b d map j) (messages j) in
            let words = written_words c m b d map messages in
            passes k d c.alphabet words out (interleaved d n words)
            (record {
              range = range;
              fit = fit;
              depth = depth;
              lent = length-words n d 0 g (λ j _ l. (words_of messages ms j (omega arith)).0);
              room = room;
              symbols = words-below c.alphabet d 0 g (λ j _ l. (words_of messages ms j (omega arith)).1);
            });
        taken = λ messages strip out found depth room.
            passes k d c.found_bound strip out (deinterleaved d n strip)
            (record { range = range; fit = fit; depth = depth; lent = found.complete; room = room; symbols = found.symbols });
        read = λ messages strip out ms found long j hj.
            let w = lane n j (deinterleaved d n strip) in
            let found_word = read_word c m b d map code.bursts code.writes code.exact coverable messages strip ms found j hj in
            rw (
              range,
              fit,
              eqb_same (length w) n found_word.complete,
              eqb_same (length out) c.message_len_of long,
              found_word.symbols,
              reads c m b d map code.bursts code.writes code.exact coverable messages strip ms found j hj,
            );
      }

-- ---- Under the figures of each code

bursts-a : (f : Params) → Served f → HasBursts (construction_a f) f.m f.b
unfolding is_placement
bursts-a f ok =
    record {
      some = ok.long;
      room = ok.total;
      placed = λ starts e h. rw (eqb_same (length starts) f.m e, h);
      spoilt = λ starts x t. t;
    }

bursts-b : (f : LongParams) → ServedB f → HasBursts (construction_b f) 1 f.b
unfolding B.is_placement
bursts-b f ok =
    record {
      some = ok.range.b-least;
      room = omega (arith, ok.short);
      placed = λ starts e a. rw (eqb_same (length starts) 1 e, a);
      spoilt = λ starts x t. t;
    }

bursts-larsson : (f : Params) → ServedLarsson f → HasBursts (larsson f) f.m f.b
unfolding is_placement
bursts-larsson f ok =
    record {
      some = ok.range.b-least;
      room = ok.total;
      placed = λ starts e h. rw (eqb_same (length starts) f.m e, h);
      spoilt = λ starts x t. t;
    }

bursts-of : (f : Figures) → (coding_of f).in_range ≡ true → (coding_of f).fits ≡ true → (let k = coding_of f in
    (k.placement_count_of ≡ placements k.codec.word_len k.bursts k.burst_len) × HasBursts k.codec k.bursts k.burst_len)
bursts-of (Ranked p) i h = (refl, bursts-a (given p) (serve (given p) i h))
bursts-of (Long p) i h =
    let f = given_long p in
    let ok = serve-b f i h in
    (count-is f (omega (arith, ok.short)), bursts-b f ok)
bursts-of (Larsson p) i h = (refl, bursts-larsson (given p) (serve-larsson (given p) i h))

code_of : (f : Figures) → (coding_of f).in_range ≡ true → (coding_of f).fits ≡ true → LanesCode (coding_of f)
code_of f i h =
    let two = demand-two f i h in
    let given = bursts-of f i h in
    record {
      range = i;
      fit = h;
      counts = given.0;
      bursts = given.1;
      writes = two.written;
      exact = two.exactly;
      found = omega (arith, (small f i).alphabet-least, more-found f);
    }

-- for any map whose words' maps the planner covers
pub lanes-read-by : (f : Figures) (d : ℕ) (map : List ℕ) → (coding_of f).in_range ≡ true → (coding_of f).fits ≡ true → IsMap d (coding_of f).codec.word_len map
    → ((j : ℕ) → j < d → (cover_under (coding_of f) (word_map d (coding_of f).codec.word_len map j)).answer ≡ served) → LanesReadUnder (coding_of f) d map
lanes-read-by f d map i h given-map answers =
    let code = code_of f i h in
    read_under (coding_of f) code d map given-map (all-covered (coding_of f) code d map given-map answers)

pub lanes-read : LanesRead
lanes-read f d ss i h wear =
    let k = coding_of f in
    let n = k.codec.word_len in
    let held_by = (code_of f i h).bursts in
    read_under k (code_of f i h) d (strip_map d n ss) (strip-map d n ss) (covered n k.bursts k.burst_len d ss held_by.some held_by.room wear)
