-- Laws of a word that is filled so far, for a walk in code: how it goes on. Assumes nothing.
use mathlib.Core.Path.{◌≡◌, sym, ap, ◌∙◌}
use mathlib.Core.Bool.{Bool, true, cond}
use mathlib.Core.List.{List, ◌++◌}
use Prim.Native.Nat.{ℕ, suc, ◌+◌, ◌-◌, ◌*◌, ◌≤◌, ◌<◌}
use native.Mathlib.Nat.{mul-le-mul_right}
use native.Mathlib.Numerals.{add-one}
use native.Mathlib.Omega.{arith}
use lib.Dec.{eqb}
use lib.ListN.{length, get_or, take, drop, replicate, length-drop}
use Rattle.combinatorics.specs.Stretch.{bit}
use Rattle.combinatorics.proofs.Stretch.{sum-next, sum-append}
use Rattle.cells.specs.Cells.{Cell, burst, fixed, digit, message, content, Enough}
use Rattle.cells.specs.Plan.{kind_in}
use Rattle.placements.specs.declared.Placement.{Placement}
use Rattle.placements.specs.Bridge.{starts_in}
use Rattle.blocks.specs.Blocks.{index_kind}
use Rattle.stretches.specs.declared.Walk.{Walk}
use Rattle.stretches.specs.declared.fill.Filling.{Filling}
use Rattle.stretches.specs.Walk.{cell_named, frame_by, index_before, digits_by}
use Rattle.stretches.specs.ByBlock.{Cells}
use Rattle.stretches.specs.Fill.{Resumes, FilledTo, MessageFilled, BurstFilled}
use Rattle.stretches.proofs.Dealt.{length-dealt, dealt-at}
use Rattle.stretches.proofs.Filling.{filled-turn, message-most}

-- the index blocks before a block, with itself
pub index-next : (kinds : List ℕ) (k : ℕ) (t : Bool) → eqb (get_or kinds k 0) index_kind ≡ t → index_before kinds (suc k) ≡ index_before kinds k + bit t
index-next kinds k t e = sum-next k (λ i. bit (eqb (get_or kinds i 0) index_kind)) ∙ ap (λ (b : Bool). index_before kinds k + bit b) e

-- an index block is one of all
pub index-among : (kinds : List ℕ) (k n : ℕ) → k < n → eqb (get_or kinds k 0) index_kind ≡ true → index_before kinds k < index_before kinds n
index-among kinds k n l e =
    let f : ℕ → ℕ = λ i. bit (eqb (get_or kinds i 0) index_kind) in
    let all : suc k + (n - suc k) ≡ n = omega arith in
    omega (arith, index-next kinds k true e, rw all at (sum-append (suc k) (n - suc k) 0 f))

module _ {w : Walk} {at : Placement} {heads kinds ds ms out : List ℕ} {x indexed sent : ℕ} (R : Resumes w at heads kinds ds ms out x indexed sent) where
  abbrev Kind : Cell → ℕ → ℕ → Type 0
  Kind = Cells (frame_by w heads kinds (starts_in at))

  abbrev On : List ℕ → ℕ → ℕ → ℕ → Type 0
  On = Resumes w at heads kinds ds ms

  module _ (to : ℕ) (up : x ≤ to) (in-word : to ≤ w.n) where
    -- the symbols that cells of the message ask for are there
    pub message-left : Kind message x to → sent + (to - x) ≤ length ms
    message-left same =
        omega (arith, R.message-lent, R.filled.message, message-most w.n (kind_in (frame_by w heads kinds (starts_in at))) x to up in-word same)

    goes-on : (kind indexed' sent' : ℕ) (out' : List ℕ) → Kind (cell_named kind) x to → kind ≤ 3
        → Enough (cell_named kind) (to - x) (drop (indexed * w.head_len) (digits_by w kinds ds)) (drop sent ms)
        → take to out' ≡ take x out ++ content (cell_named kind) (to - x) (drop (indexed * w.head_len) (digits_by w kinds ds)) (drop sent ms)
        → length out' ≡ length out
        → indexed' * w.head_len ≡ indexed * w.head_len + cond (eqb kind 2) (to - x) 0 → sent' ≡ sent + cond (eqb kind 3) (to - x) 0
        → On out' to indexed' sent'
    goes-on kind indexed' sent' out' same few enough made size a b =
        record {
          walks = R.walks;
          digits-lent = R.digits-lent;
          message-lent = R.message-lent;
          filled =
              rw (a, b)
              (filled-turn w.n (kind_in (frame_by w heads kinds (starts_in at))) (digits_by w kinds ds) ms x to kind (indexed * w.head_len) sent out out'
              R.filled up same few enough made
              (size ∙ R.filled.size));
        }

    pub message-on : (sent' : ℕ) (out' : List ℕ) → Kind message x to → take to out' ≡ take x out ++ take (to - x) (drop sent ms) → length out' ≡ length out
        → sent' ≡ sent + (to - x) → On out' to indexed sent'
    message-on sent' out' same made size b =
        goes-on 3 indexed sent' out' same (omega arith) (omega (arith, message-left same, length-drop sent ms)) made size (omega arith) b

    pub fixed_on : (out' : List ℕ) → Kind fixed x to → take to out' ≡ take x out ++ replicate (to - x) 0 → length out' ≡ length out → On out' to indexed sent
    fixed_on out' same made size = goes-on 1 indexed sent out' same (omega arith) tt made size (omega arith) (omega arith)

    pub burst-on : (out' : List ℕ) → Kind burst x to → take to out' ≡ take x out ++ replicate (to - x) 0 → length out' ≡ length out → On out' to indexed sent
    burst-on out' same made size = goes-on 0 indexed sent out' same (omega arith) tt made size (omega arith) (omega arith)

    -- the digits of the next index block
    pub digits-on : (out' : List ℕ) → Kind digit x to → to - x ≡ w.head_len → indexed < index_before kinds w.blocks
        → take to out' ≡ take x out ++ take w.head_len (drop (indexed * w.digit_step) ds) → length out' ≡ length out → On out' to (indexed + 1) sent
    digits-on out' same len few made size =
        let k = index_before kinds w.blocks in
        let whole = length-dealt w.head_len w.digit_step k ds R.digits-lent in
        let left : suc indexed * w.head_len ≤ k * w.head_len = mul-le-mul_right w.head_len few in
        goes-on 2 (indexed + 1) sent out' same (omega arith)
        (rw len (omega (arith, whole, left, length-drop (indexed * w.head_len) (digits_by w kinds ds))))
        (made ∙ ap (λ (r : List ℕ). take x out ++ r) (sym (dealt-at w.head_len w.digit_step k indexed ds R.digits-lent few)) ∙ rw len)
        size (rw (add-one indexed) (omega (arith, len))) (omega arith)

-- ---- By what the functions that fill give back

module _ {w : Walk} {at : Placement} {heads kinds ds ms out out' : List ℕ} {from here : Filling} (R : FilledTo w at heads kinds ds ms out from) where
  pub message-filled : (to : ℕ) → from.at ≤ to → to ≤ w.n → Cells (frame_by w heads kinds (starts_in at)) message from.at to
      → MessageFilled ms out out' to from here
      → FilledTo w at heads kinds ds ms out' here
  message-filled to up in-word same m = rw (m.at-is, m.indexed-is) (message-on R to up in-word here.sent out' same m.made m.size m.sent_is)

  pub burst-filled : from.at + w.b ≤ w.n → Cells (frame_by w heads kinds (starts_in at)) burst from.at (from.at + w.b)
      → BurstFilled w.b out out' from here
      → FilledTo w at heads kinds ds ms out' here
  burst-filled in-word same m =
      let len : from.at + w.b - from.at ≡ w.b = omega arith in
      rw (m.at-is, m.indexed-is, m.sent_is) (burst-on R (from.at + w.b) (omega arith) in-word out' same (rw len m.made) m.size)
