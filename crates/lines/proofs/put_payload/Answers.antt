-- `put_payload` meets its contract: letter and 0, the number and the text in hex, the line feed. Assumes nothing.
use mathlib.Core.List.{List, [], ◌∷◌, ◌++◌}
use mathlib.Core.Path.{◌≡◌, ap, ◌∙◌}
use Prim.Native.Nat.{ℕ, ◌+◌, ◌-◌, ◌*◌}
use native.Mathlib.Omega.{arith}
use lib.ListN.{length, take, drop, length-drop}
use lib.Seq.{length-take-le}
use Rattle.text.specs.Text.{decimal, hex, overwrite}
use Rattle.text.proofs.Hex.{length-hex}
use Rattle.text.proofs.Line.{put_then}
use Rattle.lines.specs.Lines.{space, line_feed, letter_r}
use Rattle.lines.proofs.Fields.{put_first, put_as, two_fields, zero-short, rest_all}
use Rattle.lines.proofs.put_payload.Goals as goal

text-len : (y : List ℕ) → length (take (length y - 4) (drop 4 y)) ≡ length y - 4
text-len y = ap length (rest_all 4 y) ∙ length-drop 4 y

pub put_bytes-at_end-requires : goal.put_bytes-at_end-requires
put_bytes-at_end-requires c =
    let s = c in
    let y = s.args.payload.now in
    let h = c.put_head-at in
    let n = c.put_bytes-at_text in
    omega (arith, s.requires.0, s.requires.1, h.ensures.behind, h.auto.line, n.ensures.behind, n.auto.line, zero-short, length-take-le 4 y s.requires.2, text-len y)

pub put_byte-requires : goal.put_byte-requires
put_byte-requires c =
    let s = c in
    let y = s.args.payload.now in
    let h = c.put_head-at in
    let n = c.put_bytes-at_text in
    let t = c.put_bytes-at_end in
    omega (
      arith,
      s.requires.0,
      s.requires.1,
      s.requires.2,
      h.ensures.behind,
      h.auto.line,
      n.ensures.behind,
      n.auto.line,
      t.ensures.behind,
      t.auto.line,
      zero-short,
      length-take-le 4 y s.requires.2,
      text-len y,
    )

pub returns : goal.returns
returns c =
    let h = c.put_head-at in
    let n = c.put_bytes-at_text in
    let t = c.put_bytes-at_end in
    let e = c.put_byte in
    let y = c.args.payload.now in
    let line = c.args.line.now in
    let head = letter_r ∷ space ∷ decimal 0 in
    let number = hex (take 4 y) in
    let text = hex (drop 4 y) in
    let four = length-take-le 4 y c.requires.2 in
    let rest = length-drop 4 y in
    let long₁ = length-hex (take 4 y) in
    let long₂ = length-hex (drop 4 y) in
    let text-put = t.ensures.line ∙ ap (λ (x : List ℕ). overwrite n.result (space ∷ hex x) n.new.line) (rest_all 4 y) in
    let text-end : t.result ≡ n.result + 1 + 2 * length (drop 4 y) = t.ensures.behind ∙ ap (λ (x : List ℕ). n.result + 1 + 2 * length x) (rest_all 4 y) in
    let p = put_first head line h.new.line h.result (omega (arith, c.requires.0, zero-short)) h.ensures.line h.ensures.behind in
    let q = put_then 0 head (space ∷ number) line h.new.line n.new.line h.result n.result
    (omega (arith, c.requires.0, h.ensures.behind, zero-short, long₁, four)) p n.ensures.line (omega (arith, n.ensures.behind, long₁)) in
    let r = put_then 0 (head ++ space ∷ number) (space ∷ text) line n.new.line t.new.line n.result t.result
    (omega (arith, c.requires.0, c.requires.1, h.ensures.behind, n.ensures.behind, zero-short, four, long₂, rest)) q text-put (omega (arith, text-end, long₂)) in
    let w = put_then 0 ((head ++ space ∷ number) ++ space ∷ text) (line_feed ∷ []) line t.new.line e.new.line t.result e.result
    (omega (arith, c.requires.0, c.requires.1, c.requires.2, h.ensures.behind, n.ensures.behind, text-end, zero-short, four, rest)) r e.ensures.line e.ensures.behind in
    let f = put_as w (two_fields head number text) in
    record { line = f.0; len = f.1 }
