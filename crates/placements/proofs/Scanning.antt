-- The scan of a defect map from the right, burst by burst. Assumes nothing.
use mathlib.Core.Path.{◌≡◌, refl, sym, ap, ◌∙◌}
use mathlib.Core.Bool.{Bool}
use Prim.Native.Nat.{ℕ, ◌-◌, ◌*◌, ◌≤◌, ◌<◌, max}
use native.Mathlib.Omega.{arith}
use lib.ListN.{set, replicate}
use Rattle.combinatorics.specs.Bursts.{placements, starts_of, cover_rank}
use Rattle.combinatorics.specs.Stretch.{last_end}
use Rattle.combinatorics.proofs.Cover.{greedy_down, greedy, greedy-placed, greedy-is}
use Rattle.combinatorics.proofs.Scan.{burst_start, leftmost, leftmost-none, leftmost-next, greedy-none, greedy-next, greedy-turned, burst-room}
use Rattle.cells.specs.Figures.{max_bursts}
use Rattle.construction_a.specs.Outcomes.{held}
use Rattle.placements.specs.declared.Placement.{Placement}
use Rattle.placements.specs.Bridge.{held_as, Room}
use Rattle.placements.proofs.Filling.{Filling, placement_of, fill-first, fill-turn, fill-last}

-- i bursts are still to come, all below `start`, where the last defect ends at `end`
pub record Scanning (n m b : ℕ) (worn : ℕ → Bool) (i start end : ℕ) (p : Placement) : Type 0 where
  pub few : i ≤ m
  pub room : i * b ≤ start
  pub short : start ≤ n
  pub last : end ≡ last_end worn start
  pub left : leftmost worn b i start ≡ leftmost worn b m n
  pub starts : Filling (greedy worn b m n) (greedy_down worn b i start) m i p

pub scan-first : (n m b : ℕ) (worn : ℕ → Bool) → m * b ≤ n → Scanning n m b worn m n (last_end worn n) (placement_of m (replicate max_bursts 0))
scan-first n m b worn h = record {
  few = omega arith;
  room = h;
  short = omega arith;
  last = refl;
  left = refl;
  starts = fill-first (greedy worn b m n) (greedy_down worn b m n) m (greedy-turned worn b m n);
}

module _ {n m b : ℕ} {worn : ℕ → Bool} {i start end : ℕ} {p : Placement} (f : Scanning n m b worn i start end p) (some : 0 < i) where
  pub start_is : max (end - b) ((i - 1) * b) ≡ burst_start worn b i start
  start_is = ap (λ (e : ℕ). max (e - b) ((i - 1) * b)) f.last

  pub scan-turn : m ≤ max_bursts → {s e : ℕ} → s ≡ burst_start worn b i start → e ≡ last_end worn s
      → Scanning n m b worn (i - 1) s e (placement_of p.count (set p.starts (i - 1) s))
  scan-turn most {s} {e} is at =
      let r = burst-room worn b i start some f.room in
      let next = fill-turn (burst_start worn b i start) (greedy_down worn b (i - 1) (burst_start worn b i start)) f.starts
      (greedy-next worn b i start some) some (omega (arith, f.few)) in
      record {
        few = omega (arith, f.few);
        room = rw is r.0;
        short = omega (arith, r.1, f.short);
        last = at;
        left = rw is (sym (leftmost-next worn b i start some) ∙ f.left);
        starts = rw is next;
      }

module _ {n m b : ℕ} {worn : ℕ → Bool} {start end : ℕ} {p : Placement} (f : Scanning n m b worn 0 start end p) where
  -- the defects left of the leftmost burst
  pub end_is : end ≡ last_end worn (leftmost worn b m n)
  end_is = f.last ∙ ap (last_end worn) (sym (leftmost-none worn b start) ∙ f.left)

  pub found-is : Room n m b → cover_rank n m b worn < placements n m b → held_as p ≡ held (starts_of n m b (cover_rank n m b worn))
  found-is h l =
      fill-last (rw (greedy-none worn b start) at f.starts) (greedy-placed worn b m n h.within).1
      ∙ ap held (sym (greedy-is n m b worn h.some h.within l))
