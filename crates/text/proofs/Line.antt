-- Laws of a line in which a text stands from a position on. Assumes nothing.
use mathlib.Core.Path.{◌≡◌, refl, sym, ap, ◌∙◌}
use mathlib.Core.List.{List, [], ◌∷◌, ◌++◌, append_assoc, append-nil}
use Prim.Native.Nat.{ℕ, suc, ◌+◌, ◌-◌, ◌≤◌, ◌<◌}
use native.Mathlib.Numerals.{add-one}
use native.Mathlib.Omega.{arith}
use borrow.Rule.Slice.PartMut.{put_mid}
use lib.ListN.{length, get_or, take, drop, set, length-append, length-drop, take-append-drop}
use lib.Seq.{append_snoc, length-take-le, take_all, take-suc, set_split, take_at, drop-drop, drop-append-add}
use Rattle.text.specs.Text.{overwrite}

module _ (at : ℕ) (line : List ℕ) where
  pub overwrite-none : overwrite at [] line ≡ line
  unfolding overwrite
  overwrite-none =
      let e : at + 0 ≡ at = omega arith in
      rw (e, append-nil (take at line)) (take-append-drop at line)

  pub overwrite-one : (byte : ℕ) → at < length line → set line at byte ≡ overwrite at (byte ∷ []) line
  unfolding overwrite
  overwrite-one byte h = rw (add-one at) (set_split line at byte h ∙ sym (append_snoc (take at line) byte (drop (suc at) line)))

  -- the text ends where it should
  front : (text : List ℕ) → at ≤ length line → length (take at line ++ text) ≡ at + length text
  front text h = length-append (take at line) text ∙ omega (arith, length-take-le at line h)

  pub length-overwrite : (text : List ℕ) → at + length text ≤ length line → length (overwrite at text line) ≡ length line
  unfolding overwrite
  length-overwrite text h =
      length-append (take at line ++ text) (drop (at + length text) line)
      ∙ omega (arith, front text (omega arith), length-drop (at + length text) line)

  -- up to its end stand what was in front of it, and the text
  pub overwrite-take : (text : List ℕ) → at ≤ length line → take (at + length text) (overwrite at text line) ≡ take at line ++ text
  unfolding overwrite
  overwrite-take text h = take_at (take at line ++ text) (drop (at + length text) line) (at + length text) (front text h)

  -- and behind it what was there
  pub overwrite-drop : (text : List ℕ) (n : ℕ) → at ≤ length line → drop (at + length text + n) (overwrite at text line) ≡ drop (at + length text + n) line
  unfolding overwrite
  overwrite-drop text n h =
      let rest = drop (at + length text) line in
      ap (λ (k : ℕ). drop (k + n) (take at line ++ text ++ rest)) (sym (front text h))
      ∙ drop-append-add (take at line ++ text) rest n ∙ drop-drop n (at + length text) line

  -- a text right behind a text: the two as one
  pub overwrite-then : (s t : List ℕ) → at ≤ length line → overwrite (at + length s) t (overwrite at s line) ≡ overwrite at (s ++ t) line
  unfolding overwrite
  overwrite-then s t h =
      let n : at + length s + length t ≡ at + length (s ++ t) = omega (arith, length-append s t) in
      rw (overwrite-take s h, overwrite-drop s (length t) h, n) (ap (λ (r : List ℕ). r ++ drop (at + length (s ++ t)) line) (append_assoc (take at line) s t))

-- a text that is copied into its part of a line
pub part-put : (at : ℕ) (text line part : List ℕ) → part ≡ text → put_mid at (at + length text - at) line part ≡ overwrite at text line
unfolding overwrite
part-put at text line part e =
    let n : at + length text - at ≡ length text = omega arith in
    rw (e, n, drop-drop (length text) at line) (sym (append_assoc (take at line) text (drop (at + length text) line)))

-- a line that is put together from its start on begins with the text
pub line-take : (text line : List ℕ) → take (length text) (overwrite 0 text line) ≡ text
line-take text line =
    let z : 0 + length text ≡ length text = omega arith in
    rw z at (overwrite-take 0 line text (omega arith))

-- ---- A line that is put together piece by piece

-- the text stands in the line from `at` on, and `behind` is the position behind it
pub record Put (at : ℕ) (text before line : List ℕ) (behind : ℕ) : Type 0 where
  pub size : length line ≡ length before
  pub put : line ≡ overwrite at text before
  pub behind-is : behind ≡ at + length text

pub put-none : (at : ℕ) (line : List ℕ) → Put at [] line line at
put-none at line = record { size = refl; put = sym (overwrite-none at line); behind-is = omega arith }

-- one piece more
pub put_then : (at : ℕ) (s t before line next : List ℕ) (behind end : ℕ) → behind + length t ≤ length before → Put at s before line behind
    → next ≡ overwrite behind t line → end ≡ behind + length t → Put at (s ++ t) before next end
put_then at s t before line next behind end h p e n =
    let l : behind + length t ≤ length line = rw p.size h in
    let b = p.behind-is in
    record {
      size = ap length e ∙ length-overwrite behind line t l ∙ p.size;
      put = e ∙ rw (b, p.put) (overwrite-then at before s t (omega arith));
      behind-is = n ∙ omega (arith, length-append s t);
    }

-- what is put together from the start of a line on is the text
pub put-line : (text before line : List ℕ) (behind : ℕ) → Put 0 text before line behind → take behind line ≡ text
put-line text before line behind p =
    let n : behind ≡ length text = p.behind-is ∙ omega arith in
    rw (n, p.put) (line-take text before)

-- as a loop goes, byte by byte
module _ (at : ℕ) (text before line : List ℕ) (i : ℕ) where
  pub text-room : i < length text → at + length text ≤ length before → Put at (take i text) before line (at + i) → at + i < length line
  text-room h l p = omega (arith, p.size)

  pub text-turn : i < length text → at + length text ≤ length before → Put at (take i text) before line (at + i)
      → Put at (take (i + 1) text) before (set line (at + i) (get_or text i 0)) (at + (i + 1))
  text-turn h l p =
      rw (add-one i, take-suc text i 0 h)
      (put_then at (take i text) (get_or text i 0 ∷ []) before line (set line (at + i) (get_or text i 0)) (at + i) (at + suc i) (omega arith) p
      (overwrite-one (at + i) line (get_or text i 0) (text-room h l p)) (omega arith))

  pub text-all : (behind : ℕ) → length text ≤ i → Put at (take i text) before line behind → Put at text before line behind
  text-all behind h p = rw (take_all i text h) at p
