-- What the reader's inner functions ask for and go by. Assumes nothing.
use Rattle.std.specs.Prelude.{◌≡◌, Ok, Bool, true, not, List, ℕ, ◌*◌, ◌≤◌, ◌<◌, min, length, take}
use Rattle.refusals.specs.Refusals.{must, erased}
use Rattle.combinatorics.specs.Bursts.{rank_of}
use Rattle.combinatorics.specs.Lists.{all_below}
use Rattle.cells.specs.Cells.{message, pick}
use Rattle.cells.specs.Codec.{Reading, accepted, refused}
use Rattle.cells.specs.Erasures.{found_bound, has_erasure}
use Rattle.cells.specs.Outcomes.{held}
use Rattle.cells.specs.Plan.{plan_in}
use Rattle.construction_a.specs.DemandTwo.{IndexRead}
use Rattle.cells.specs.Figures.{max_bursts}
use Rattle.std.proofs.Math.Option.{some}
use Rattle.construction_a.specs.Figures.{parts}
use Rattle.construction_a.specs.Reading.{looks_fixed, index_found, written}
use Rattle.construction_b.specs.DemandTwo as B
use Rattle.construction_b.specs.Reading as B'
use Rattle.params.specs.declared.Layout.{Layout}
use Rattle.params.specs.Given.{figures_of, long_of, frame_of, blocks_coding, LayoutFits, LongLayoutFits, BlocksServe}
use Rattle.placements.specs.declared.Placement.{Placement}
use Rattle.placements.specs.Bridge.{held_as, starts_in, PlacesBursts}
use Rattle.heads.specs.Given.{CompleteWord}
use Rattle.decoder.specs.declared.Decoded.{Decoded}

-- "a q among message symbols, after 9" (02, 6): what is left to refuse once the placement is known; otherwise its message is taken
abbrev pub read_message : Layout → List ℕ → List ℕ → Reading
read_message l w ss =
    let ms = pick message (plan_in (frame_of l ss)) w in
    must (not (has_erasure l.q ms)) (refused erased) (accepted ss ms)

-- a layout of figures that fit; a complete word without values above q, whether all of it could be read, and a buffer of k symbols
pub record WordLent (l : Layout) (whole : Bool) (w out : List ℕ) : Type 0 where
  pub fitting : BlocksServe l
  pub finding : CompleteWord l w
  pub found : all_below (found_bound l.q) w ≡ true
  pub scanned : whole ≡ all_below l.q w
  pub room : length out ≡ l.message_len

-- the same with the index blocks that the word shows
pub record IndexShown (l : Layout) (index : List ℕ) (whole : Bool) (w out : List ℕ) : Type 0 where
  pub lent : WordLent l whole w out
  pub pattern : index_found (parts (figures_of l)) l.m (looks_fixed (figures_of l) w) ≡ some (take l.m index)

-- the same with the value that index blocks without an erasure spell, no further than T: of Construction A
pub record RankRead (l : Layout) (ks : List ℕ) (v : ℕ) (whole : Bool) (w out : List ℕ) : Type 0 where
  pub fitting : LayoutFits l
  pub lent : WordLent l whole w out
  pub index : IndexRead (figures_of l) w ks
  pub spelled : v ≡ min (written (figures_of l) w ks) l.placement_count

-- and of Construction B, with its index part
pub record EndsAt (l : Layout) (i v : ℕ) (whole : Bool) (w out : List ℕ) : Type 0 where
  pub fitting : LongLayoutFits l
  pub lent : WordLent l whole w out
  pub among : i < l.parts
  pub index : B.IndexRead (long_of (figures_of l)) w i
  pub spelled : v ≡ min (B'.written (long_of (figures_of l)) w i) l.placement_count

-- the same with the placement that the word was read to have, and its rank
pub record Located (l : Layout) (at : Placement) (v : ℕ) (whole : Bool) (w out : List ℕ) : Type 0 where
  pub lent : WordLent l whole w out
  pub placing : PlacesBursts l at
  pub is_held : held_as at ≡ held (starts_in at)
  pub ranked : v ≡ rank_of l.b (starts_in at)
  pub read-as : (blocks_coding l).codec.decode w ≡ read_message l w (starts_in at)

-- two bytes for each start of an accepted word
abbrev pub StartsFit : {E : Type 0} → Decoded E → List ℕ → Type 0
StartsFit d bytes = (v : ℕ) → d.answer ≡ Ok v → (d.placement.count ≤ max_bursts) × (length bytes ≡ 2 * d.placement.count)
