-- A line put together field by field. Assumes nothing.
use mathlib.Core.Path.{◌≡◌, refl, ap, ◌∙◌}
use mathlib.Core.List.{List, [], ◌∷◌, ◌++◌, append_assoc}
use Prim.Native.Nat.{ℕ, ◌-◌, ◌≤◌}
use native.Mathlib.Omega.{arith}
use lib.ListN.{length, take, drop, length-drop}
use lib.Seq.{take_all}
use Rattle.combinatorics.specs.Stretch.{first}
use Rattle.cells.specs.Digits.{span, spell}
use Rattle.text.specs.Text.{decimal_len, decimal, overwrite}
use Rattle.text.proofs.Line.{Put, put-none, put_then}
use Rattle.lines.specs.Lines.{space, line_feed, spaced}

-- what is put at the start of a line
pub put_first : (text before next : List ℕ) (end : ℕ) → length text ≤ length before → next ≡ overwrite 0 text before → end ≡ length text
    → Put 0 text before next end
put_first text before next end h e n =
    put_then 0 [] text before before next 0 end (omega arith) (put-none 0 before) e (omega (arith, n))

-- the line's text by another name
pub put_as : {text text' before next : List ℕ} {end : ℕ} → Put 0 text before next end → text ≡ text' → (next ≡ overwrite 0 text' before) × (end ≡ length text')
put_as {text} {text'} {before} {next} {end} p e =
    (p.put ∙ ap (λ (t : List ℕ). overwrite 0 t before) e, omega (arith, p.behind-is, ap length e))

-- a part up to the end is all that stands there
pub rest_all : (k : ℕ) (xs : List ℕ) → take (length xs - k) (drop k xs) ≡ drop k xs
rest_all k xs = take_all (length xs - k) (drop k xs) (omega (arith, length-drop k xs))

-- ---- Fields behind what stands in front

module _ (front t : List ℕ) where
  pub field_end : (front ++ space ∷ t) ++ line_feed ∷ [] ≡ front ++ spaced (t ∷ [])
  field_end = append_assoc front (space ∷ t) (line_feed ∷ [])

  pub two_fields : (u : List ℕ) → ((front ++ space ∷ t) ++ space ∷ u) ++ line_feed ∷ [] ≡ front ++ spaced (t ∷ u ∷ [])
  two_fields u = append_assoc (front ++ space ∷ t) (space ∷ u) (line_feed ∷ []) ∙ append_assoc front (space ∷ t) (spaced (u ∷ []))

  pub three-fields : (u v : List ℕ) → (((front ++ space ∷ t) ++ space ∷ u) ++ space ∷ v) ++ line_feed ∷ [] ≡ front ++ spaced (t ∷ u ∷ v ∷ [])
  three-fields u v =
      append_assoc ((front ++ space ∷ t) ++ space ∷ u) (space ∷ v) (line_feed ∷ [])
      ∙ append_assoc (front ++ space ∷ t) (space ∷ u) (spaced (v ∷ []))
      ∙ append_assoc front (space ∷ t) (spaced (u ∷ v ∷ []))

-- ---- Numbers that are printed as they stand

pub zero-short : length (decimal 0) ≡ 1
unfolding decimal decimal_len first spell span
zero-short = refl

pub eleven : decimal 11 ≡ 49 ∷ 49 ∷ []
unfolding decimal decimal_len first spell span
eleven = refl
