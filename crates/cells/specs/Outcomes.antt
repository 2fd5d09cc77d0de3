-- What each call of a codec answers, and what the lent buffers hold afterwards, for every input and whatever the code. "Every refusal returns its
-- number only; output buffers .. keep their contents." Orders of refusals read downward. Assumes nothing.
use Rattle.std.specs.Prelude.{Bool, ◌&&◌, List, [], ◌++◌, ℕ, ◌-◌, ltb, eqb, length, get_or, take, replicate}
use Rattle.refusals.specs.Refusals.{must, served, invalid, unfit, wrong_length, bad_symbol, bad_starts, uncovered}
use Rattle.combinatorics.specs.Bursts.{apart, rank_of, starts_of, cover_rank}
use Rattle.combinatorics.specs.Lists.{all_below}
use Rattle.cells.specs.Figures.{max_bursts}
use Rattle.cells.specs.Codec.{Reading, accepted, refused, Codec}

-- what figures give, whatever numbers a caller passes: whether each is in range, and whether they fit; m bursts of b positions each, T and r; and
-- the code, which is one where both tests hold
pub record Coding : Type 0 where
  pub in_range : Bool
  pub fits : Bool
  pub bursts : ℕ
  pub burst_len : ℕ
  pub placement_count_of : ℕ
  pub index_tail_of : ℕ
  pub codec : Codec

-- "A placement is held as six starts and the count in use"; document 02, ticket 11: "Raise .. a placement's starts to eight"
pub record Held : Type 0 where
  pub starts : List ℕ
  pub count : ℕ

-- "starts past the count are .. unread in a call"
abbrev pub in_use : Held → List ℕ
in_use h = take h.count h.starts

-- "starts past the count are 0 in an answer"
abbrev pub held : List ℕ → Held
held ss = record { starts = ss ++ replicate (max_bursts - length ss) 0; count = length ss }

-- ---- "figures alone 1 2": T, r and k, or the refusal

pub data FiguresOut : Type 0 where
  figured : ℕ → ℕ → ℕ → FiguresOut
  unserved : ℕ → FiguresOut

-- 0 or the refusal
abbrev pub figures_number : FiguresOut → ℕ
figures_number (figured t r k) = served
figures_number (unserved a) = a

abbrev pub figures_under : Coding → FiguresOut
figures_under d =
    must d.in_range (unserved invalid)
    (must d.fits (unserved unfit)
    (figured d.placement_count_of d.index_tail_of d.codec.message_len_of))

-- ---- "word write 1 2 3 5 4": 0 or the refusal, and the lent word

pub record Encoded : Type 0 where
  pub answer : ℕ
  pub word : List ℕ

abbrev pub unwritten : List ℕ → ℕ → Encoded
unwritten out a = record { answer = a; word = out }

abbrev pub encode_under : Coding → Held → List ℕ → List ℕ → Encoded
encode_under d at ms out =
    let c = d.codec in
    must d.in_range (unwritten out invalid)
    (must d.fits (unwritten out unfit)
    (must (eqb at.count d.bursts && eqb (length ms) c.message_len_of && eqb (length out) c.word_len) (unwritten out wrong_length)
    (must (apart d.burst_len c.word_len 0 (in_use at)) (unwritten out bad_starts)
    (must (all_below c.alphabet ms) (unwritten out bad_symbol)
    (record { answer = served; word = c.encode (in_use at) ms })))))

-- ---- "covering 1 2 3 4 6": 0 or the refusal, and the placement

pub record Covered : Type 0 where
  pub answer : ℕ
  pub placement : Held

abbrev pub unplaced : ℕ → Covered
unplaced a = record { answer = a; placement = held [] }

-- "From a map of n bytes (1 worn, 0 sound)"
abbrev pub defect_at : List ℕ → ℕ → Bool
defect_at map x = eqb (get_or map x 0) 1

abbrev pub cover_under : Coding → List ℕ → Covered
cover_under d map =
    let n = d.codec.word_len in
    let v = cover_rank n d.bursts d.burst_len (defect_at map) in
    must d.in_range (unplaced invalid)
    (must d.fits (unplaced unfit)
    (must (eqb (length map) n) (unplaced wrong_length)
    (must (all_below 2 map) (unplaced bad_symbol)
    (must (ltb v d.placement_count_of) (unplaced uncovered)
    (record { answer = served; placement = held (starts_of n d.bursts d.burst_len v) })))))

-- ---- "word read 1 2 3 4 7 8 9", with 19 "between 7 and 8" and "after 9": the answer, the placement beside it, and the lent message. The Larsson code's
-- order is 1 2 3 4 21 8 9 19

-- "An accepted word is answered with its rank as a number"
pub data WordAnswer : Type 0 where
  rank_is : ℕ → WordAnswer
  refusal : ℕ → WordAnswer

-- 0 or the refusal
abbrev pub answer_number : WordAnswer → ℕ
answer_number (rank_is v) = served
answer_number (refusal a) = a

pub record Decoded : Type 0 where
  pub answer : WordAnswer
  pub placement : Held
  pub message : List ℕ

abbrev pub unread : List ℕ → ℕ → Decoded
unread out a = record { answer = refusal a; placement = held []; message = out }

-- of bursts of b positions
abbrev pub decoded_from : ℕ → List ℕ → Reading → Decoded
decoded_from b out (accepted ss ms) = record { answer = rank_is (rank_of b ss); placement = held ss; message = ms }
decoded_from b out (refused a) = unread out a

-- "Refusal 4 is, in reading .., for values above q" (02, 6): the codec's own bound
abbrev pub decode_under : Coding → List ℕ → List ℕ → Decoded
decode_under d w out =
    let c = d.codec in
    must d.in_range (unread out invalid)
    (must d.fits (unread out unfit)
    (must (eqb (length w) c.word_len && eqb (length out) c.message_len_of) (unread out wrong_length)
    (must (all_below c.found_bound w) (unread out bad_symbol)
    (decoded_from d.burst_len out (c.decode w)))))
