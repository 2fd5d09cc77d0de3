-- Which bytes are a record that can be read, and how many of them its letter asks for. Assumes nothing.
use mathlib.Core.Path.{◌≡◌, refl, sym, ap, subst, ◌∙◌}
use mathlib.Core.Logic.{◌≢◌}
use mathlib.Core.Bool.{Bool, true, false, cond, ◌&&◌, false≢true}
use mathlib.Core.List.{List}
use mathlib.Core.Option.{Option, none, some}
use Prim.Native.Nat.{ℕ, ◌+◌, ◌*◌, ◌≤◌, ◌<◌}
use native.Mathlib.Omega.{arith}
use lib.Dec.{eqb, ltb}
use borrow.Author.Tests.{lt-ltb, le-ltb}
use lib.ListN.{length, get_or}
use Rattle.combinatorics.proofs.Cases.{by_bool, by_le, eqb_same, eqb-other, eqb-true}
use Rattle.combinatorics.proofs.Lists.{both}
use Rattle.codes.specs.Bridge.{coding_of}
use Rattle.codes.specs.declared.Figures.{Figures}
use Rattle.codes.specs.declared.WordLayout.{WordLayout}
use Rattle.jobs.specs.Letters.{kind_of, is_letter}
use Rattle.records.specs.Session.{Session}
use Rattle.lines.specs.Lines.{letter_s, letter_l, letter_w, letter_r}
use Rattle.records.specs.Records.{record_head_len, is_marked, letter_of, current, payload_len_of, write_len, read_len, record_len, max_record, is_whole}
use Rattle.records.specs.Records.{readable, reach, begun_len, needed_for}
use Rattle.records.specs.Bridge.{IsCurrent}
use Rattle.records.proofs.Lengths.{or_zero}
use Rattle.records.proofs.Lengths.{record-most}

-- ---- A record that can be read

write-reaches : (f : Option Figures) → record_head_len ≤ reach (write_len f)
write-reaches none = omega arith
write-reaches (some f) = omega arith

read-reaches : (f : Option Figures) → record_head_len ≤ reach (read_len f)
read-reaches none = omega arith
read-reaches (some f) = omega arith

-- no record is shorter than mark and letter
pub reaches : (s : Session) (letter : ℕ) → record_head_len ≤ reach (record_len s letter)
unfolding record_len
reaches s letter = go (eqb letter letter_s) (eqb letter letter_l) (is_letter letter) (eqb letter letter_w) (eqb letter letter_r)
  where
    go : (a l b c d : Bool)
        → record_head_len ≤ reach (cond a (some (record_head_len + 6))
        (cond l (some (record_head_len + 5)) (cond b (some (record_head_len + 4))
        (cond c (write_len (current s.figures)) (cond d (read_len (current s.figures)) none)))))
    go true l b c d = omega arith
    go false true b c d = omega arith
    go false false true c d = omega arith
    go false false false true d = write-reaches (current s.figures)
    go false false false false true = read-reaches (current s.figures)
    go false false false false false = omega arith

never : (t : Bool) → (t && false) ≡ false
never true = refl
never false = refl

cut : (bytes : List ℕ) (k : Option ℕ) → record_head_len ≤ reach k → length bytes < record_head_len → is_whole bytes k ≡ false
cut bytes none h l = refl
cut bytes (some k) h l = eqb-other (length bytes) k (λ e. omega arith)

either : (b : Bool) → ◌≡◌ {A = Option ℕ} (cond b none none) none
either true = refl
either false = refl

reach-most : (k : Option ℕ) → or_zero k ≤ max_record → reach k ≤ max_record
reach-most none h = omega arith
reach-most (some k) h = h

module _ (s : Session) (bytes : List ℕ) where
  -- ---- The record that begins with these bytes

  pub begun-short : length bytes < record_head_len → begun_len s bytes ≡ none
  unfolding begun_len
  begun-short h = rw (lt-ltb (length bytes) record_head_len h)

  pub begun-unmarked : is_marked bytes ≡ false → begun_len s bytes ≡ none
  unfolding begun_len
  begun-unmarked e = rw e (either (ltb (length bytes) record_head_len))

  pub begun-marked : record_head_len ≤ length bytes → is_marked bytes ≡ true → begun_len s bytes ≡ record_len s (letter_of bytes)
  unfolding begun_len
  begun-marked h e = rw (le-ltb (length bytes) record_head_len h, e)

  -- by the first two bytes
  pub begun_first : get_or bytes 0 0 ≢ 76 → begun_len s bytes ≡ none
  begun_first h = begun-unmarked (ap (λ (b : Bool). b && eqb (get_or bytes 1 0) 84) (eqb-other (get_or bytes 0 0) 76 h))

  pub begun-second : get_or bytes 0 0 ≡ 76 → get_or bytes 1 0 ≢ 84 → begun_len s bytes ≡ none
  begun-second e h = begun-unmarked (rw (eqb_same (get_or bytes 0 0) 76 e) (eqb-other (get_or bytes 1 0) 84 h))

  pub begun-both : record_head_len ≤ length bytes → get_or bytes 0 0 ≡ 76 → get_or bytes 1 0 ≡ 84 → begun_len s bytes ≡ record_len s (letter_of bytes)
  begun-both l e d = begun-marked l (rw (eqb_same (get_or bytes 0 0) 76 e) (eqb_same (get_or bytes 1 0) 84 d))

  -- whatever holds of no length and of the letter's
  begun-is : (P : Option ℕ → Type 0) → P none → P (record_len s (letter_of bytes)) → P (begun_len s bytes)
  begun-is P n r =
      by_le record_head_len (length bytes) (λ b. P (begun_len s bytes))
      (λ h. by_bool (is_marked bytes) (λ e. subst P (sym (begun-marked h e)) r) (λ e. subst P (sym (begun-unmarked e)) n))
      (λ h. subst P (sym (begun-short h)) n)

  -- mark and letter at least, and no more than the letter has
  pub needed-least : record_head_len ≤ needed_for s bytes
  needed-least = begun-is (λ k. record_head_len ≤ reach k) (omega arith) (reaches s (letter_of bytes))

  pub needed-within : needed_for s bytes ≤ reach (record_len s (letter_of bytes))
  needed-within = begun-is (λ k. reach k ≤ reach (record_len s (letter_of bytes))) (reaches s (letter_of bytes)) (omega arith)

  begun-most : or_zero (begun_len s bytes) ≤ max_record
  begun-most = begun-is (λ k. or_zero k ≤ max_record) (omega arith) (record-most s (letter_of bytes))

  pub needed-most : needed_for s bytes ≤ max_record
  needed-most = reach-most (begun_len s bytes) begun-most

  -- ---- Whether it can be read

  pub begun-readable : readable s bytes ≡ is_whole bytes (begun_len s bytes)
  unfolding readable
  begun-readable =
      by_le record_head_len (length bytes) (λ b. readable s bytes ≡ is_whole bytes (begun_len s bytes))
      (λ h. by_bool (is_marked bytes) (λ e. rw (e, begun-marked h e)) (λ e. rw (e, begun-unmarked e)))
      (λ h. rw (begun-short h, cut bytes (record_len s (letter_of bytes)) (reaches s (letter_of bytes)) h) (never (is_marked bytes)))

  pub readable-whole : readable s bytes ≡ true → is_whole bytes (record_len s (letter_of bytes)) ≡ true
  unfolding readable
  readable-whole h = (both (is_marked bytes) (is_whole bytes (record_len s (letter_of bytes))) h).1

-- ---- A record of its letter's length

pub whole-len : (bytes : List ℕ) (k : Option ℕ) (n : ℕ) → k ≡ some n → is_whole bytes k ≡ true → length bytes ≡ n
whole-len bytes k n e h = eqb-true (length bytes) n (ap (is_whole bytes) (sym e) ∙ h)

whole-reaches : (bytes : List ℕ) (k : Option ℕ) → record_head_len ≤ reach k → is_whole bytes k ≡ true → record_head_len ≤ length bytes
whole-reaches bytes none l h = absurd (false≢true h)
whole-reaches bytes (some k) l h = omega (arith, eqb-true (length bytes) k h)

pub whole_long : (s : Session) (letter : ℕ) (bytes : List ℕ) → is_whole bytes (record_len s letter) ≡ true → record_head_len ≤ length bytes
whole_long s letter bytes h = whole-reaches bytes (record_len s letter) (reaches s letter) h

module _ (last : Option Figures) (f : Figures) (l : WordLayout) (is : IsCurrent last f l) (bytes : List ℕ) where
  pub write-long : is_whole bytes (write_len (current last)) ≡ true → record_head_len + 2 * l.m ≤ length bytes
  write-long h =
      omega (
        arith,
        whole-len bytes (write_len (current last)) (record_head_len + 2 * (coding_of f).bursts + payload_len_of f)
            (ap write_len is.are) h,
        is.numbers.bursts-is,
      )

  pub read-long : is_whole bytes (read_len (current last)) ≡ true → record_head_len ≤ length bytes
  read-long h = omega (arith, whole-len bytes (read_len (current last)) (record_head_len + (coding_of f).codec.word_len) (ap read_len is.are) h)

module _ (s : Session) (letter : ℕ) where
  pub len-S : letter ≡ 83 → record_len s letter ≡ some 9
  unfolding record_len
  len-S e = rw e

  pub len-L : letter ≡ 76 → record_len s letter ≡ some 8
  unfolding record_len
  len-L e = rw e

  pub len-O : letter ≡ 79 → record_len s letter ≡ some 7
  unfolding record_len kind_of
  len-O e = rw e

  pub len-C : letter ≡ 67 → record_len s letter ≡ some 7
  unfolding record_len kind_of
  len-C e = rw e

  pub len-F : letter ≡ 70 → record_len s letter ≡ some 7
  unfolding record_len kind_of
  len-F e = rw e

  pub len-W : letter ≡ 87 → record_len s letter ≡ write_len (current s.figures)
  unfolding record_len kind_of
  len-W e = rw e

  pub len-R : letter ≡ 82 → record_len s letter ≡ read_len (current s.figures)
  unfolding record_len kind_of
  len-R e = rw e

  -- none of the other four
  pub len-call : (bytes : List ℕ) → letter ≢ 83 → letter ≢ 76 → letter ≢ 87 → letter ≢ 82 → is_whole bytes (record_len s letter) ≡ true
      → (record_len s letter ≡ some 7) × (is_letter letter ≡ true)
  unfolding record_len
  len-call bytes a l b c =
      rw (eqb-other letter 83 a, eqb-other letter 76 l, eqb-other letter 87 b, eqb-other letter 82 c) (go (is_letter letter))
    where
      go : (t : Bool) → is_whole bytes (cond t (some 7) none) ≡ true → (◌≡◌ {A = Option ℕ} (cond t (some 7) none) (some 7)) × (t ≡ true)
      go true h = (refl, refl)
      go false h = absurd (false≢true h)
