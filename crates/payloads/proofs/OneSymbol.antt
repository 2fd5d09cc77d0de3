-- Laws of payloads where a byte takes one symbol: the message is the payload. Assumes nothing.
use mathlib.Core.Path.{◌≡◌, refl, sym, ap, ap₂, ◌∙◌}
use mathlib.Core.Bool.{true}
use mathlib.Core.List.{List, [], ◌∷◌, flat_map, append-nil}
use Prim.Native.Nat.{ℕ, ◌+◌, ◌-◌, ◌*◌, ◌/◌, ◌≤◌}
use native.Mathlib.Nat.{div-one}
use native.Mathlib.Omega.{arith}
use lib.ListN.{length, get_or, take, drop, replicate, drop_of_length-le}
use lib.Seq.{take_all, get_or-drop}
use Rattle.combinatorics.specs.Lists.{all, all_below}
use Rattle.combinatorics.proofs.Members.{take-is}
use Rattle.cells.specs.Bytes.{byte_values, byte_width, payload_len}
use Rattle.cells.specs.Digits.{plain, span, spell, value}
use Rattle.payloads.specs.Payload.{byte_places, message_of, payload_in, spells_payload}

value-one : (q : ℕ) (ds : List ℕ) → value q (replicate 1 plain) ds ≡ get_or ds 0 0
unfolding value span
value-one q ds = omega arith

spell_one : (q : ℕ) (ys : List ℕ) → flat_map (spell q (replicate 1 plain)) ys ≡ ys
unfolding spell span flat_map
spell_one q [] = refl
spell_one q (y ∷ ys) =
    let e : 0 + y / 1 ≡ y = rw (div-one y) (omega arith) in
    ap₂ {C = List ℕ} ◌∷◌ e (spell_one q ys)

module _ (q : ℕ) (one : byte_width q ≡ 1) (ms : List ℕ) where
  pub count-one : payload_len q (length ms) ≡ length ms
  unfolding payload_len
  count-one = rw one (div-one (length ms))

  pub message-one : (ys : List ℕ) → length ys ≡ payload_len q (length ms) → message_of q (length ms) ys ≡ take (length ms) ys
  unfolding message_of
  message-one ys e =
      let none : length ms - payload_len q (length ms) * 1 ≡ 0 = omega (arith, count-one) in
      rw (one, none, spell_one q ys) (append-nil ys ∙ sym (take_all (length ms) ys (omega (arith, count-one))))

  at : (j : ℕ) → get_or ms j 0 ≡ value q (byte_places q) (drop ((0 + j) * byte_width q) ms)
  at j =
      let e : (0 + j) * 1 ≡ j = omega arith in
      let f : j + 0 ≡ j = omega arith in
      rw (one, e) (sym (value-one q (drop j ms) ∙ get_or-drop j ms 0 0 ∙ ap (λ (i : ℕ). get_or ms i 0) f))

  pub payload-one : payload_in q (length ms) ms ≡ take (payload_len q (length ms)) ms
  unfolding payload_in
  payload-one = sym (take-is (payload_len q (length ms)) 0 ms (λ i. value q (byte_places q) (drop (i * byte_width q) ms)) (omega (arith, count-one)) (λ j l. at j))

  pub passes-one : all_below byte_values ms ≡ true → spells_payload q (length ms) ms ≡ true
  unfolding spells_payload all
  passes-one h =
      let whole : take (payload_len q (length ms)) ms ≡ ms = take_all (payload_len q (length ms)) ms (omega (arith, count-one)) in
      let past : length ms ≤ payload_len q (length ms) * byte_width q = rw one (omega (arith, count-one)) in
      let none : drop (payload_len q (length ms) * byte_width q) ms ≡ [] = drop_of_length-le ms past in
      rw (payload-one, whole, h, none)
