-- Covering goes by n, m and b alone, whichever code lays the strip out. Assumes nothing.
use mathlib.Core.Path.{◌≡◌, sym, ◌∙◌}
use mathlib.Core.List.{List}
use Prim.Native.Nat.{ℕ}
use Rattle.cells.specs.Outcomes.{cover_under}
use Rattle.params.proofs.Either.{numbers-in as blocks-numbers}
use Rattle.placements.specs.Bridge.{cover_within, Room}
use Rattle.placements.proofs.Calls.{room_in as blocks-room, covers-within as blocks-cover}
use Rattle.sub_blocks.proofs.Room.{room_of as sub-blocks-room}
use Rattle.larsson_encoder.proofs.Covering.{covers-within as sub-blocks-cover}
use Rattle.codes.specs.declared.Laid.{Laid}
use Rattle.codes.specs.declared.Laid.TheVariants.{Blocks, SubBlocks}
use Rattle.codes.specs.declared.WordLayout.{WordLayout}
use Rattle.codes.specs.Given.{coding_by, coding_in, FitsBy, Serves}

module _ {n n' m m' b b' : ℕ} (e₁ : n ≡ n') (e₂ : m ≡ m') (e₃ : b ≡ b') where
  same-room : Room n' m' b' → Room n m b
  same-room r = rw (e₁, e₂, e₃) r

  same-cover : (map : List ℕ) → cover_within n m b map ≡ cover_within n' m' b' map
  same-cover map = rw (e₁, e₂, e₃)

room_by : (x : Laid) → FitsBy x → Room (coding_by x).codec.word_len (coding_by x).bursts (coding_by x).burst_len
room_by (Blocks l) g = let is = blocks-numbers l g in same-room (sym is.word-is) (sym is.bursts-is) (sym is.burst-is) (blocks-room l g)
room_by (SubBlocks l) g = sub-blocks-room l g

cover-by : (x : Laid) → FitsBy x → (map : List ℕ)
    → cover_within (coding_by x).codec.word_len (coding_by x).bursts (coding_by x).burst_len map ≡ cover_under (coding_by x) map
cover-by (Blocks l) g map =
    let is = blocks-numbers l g in same-cover (sym is.word-is) (sym is.bursts-is) (sym is.burst-is) map ∙ blocks-cover l g map
cover-by (SubBlocks l) g map = sub-blocks-cover l g map

module _ (l : WordLayout) (g : Serves l) where
  pub room_in : Room l.n l.m l.b
  room_in = let is = g.numbers in same-room is.word-is is.bursts-is is.burst-is (room_by l.laid g.fitting)

  pub covers-within : (map : List ℕ) → cover_within l.n l.m l.b map ≡ cover_under (coding_in l) map
  covers-within map =
      let is = g.numbers in same-cover is.word-is is.bursts-is is.burst-is map ∙ cover-by l.laid g.fitting map
