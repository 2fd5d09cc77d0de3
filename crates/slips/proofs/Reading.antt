-- What is read of a strip and of the same strip with altered message cells. Assumes nothing.
use mathlib.Core.Path.{◌≡◌, sym, ap, ◌∙◌, subst}
use mathlib.Core.List.{List}
use Prim.Native.Nat.{ℕ}
use Rattle.cells.specs.Codec.{accepted, Word}
use Rattle.cells.specs.Outcomes.{Decoded, decoded_from, decode_under}
use Rattle.decoder.proofs.Calls.{decode-read}
use Rattle.codes.specs.Bridge.{coding_of}
use Rattle.codes.specs.declared.Figures.{Figures}
use Rattle.codes.proofs.Exact.{demand-two}
use Rattle.slips.specs.Reading.{ReadsSlipped}
use Rattle.slips.specs.Slips.{kind_under, Stays}
use Rattle.slips.proofs.Slips.{found, digits_of, planned, slips-stay-in}

pub reads-slipped : (f : Figures) (w w' out out' : List ℕ)
    → ReadsSlipped f w w' out out' (decode_under (coding_of f) w out) (decode_under (coding_of f) w' out')
reads-slipped f w w' out out' starts ms d h =
    let k = coding_of f in
    let two = demand-two f h.range h.fit in
    let word' : Word k.codec w' = found k.codec (kind_under f) (digits_of f) (planned f h.range h.fit) two.exactly starts ms w w' d h.found
    h.spoilt h.slips in
    let same = slips-stay-in f h.range h.fit starts ms w w' d h.found h.spoilt h.slips in
    let second : decode_under k w' out' ≡ decoded_from k.burst_len out' (accepted starts same.0) =
    decode-read k w' out' h.range h.fit word'.complete h.room' word'.symbols ∙ ap (decoded_from k.burst_len out') same.1.same-placement in
    let message : (decode_under k w' out').message ≡ same.0 = ap (λ (o : Decoded). o.message) second in
    record {
      read = decode-read k w out h.range h.fit h.found.complete h.room h.found.symbols
          ∙ ap (decoded_from k.burst_len out) ((two.exactly w starts ms h.found).1 h.spoilt);
      altered = second ∙ ap (λ (x : List ℕ). decoded_from k.burst_len out' (accepted starts x)) (sym message);
      stays = subst (λ (x : List ℕ). Stays k.codec (kind_under f starts) starts ms w w' d x) (sym message) same.1;
    }

-- the same of answers that are those outcomes
pub reads_as : (f : Figures) (w w' out out' : List ℕ) {first second : Decoded} → first ≡ decode_under (coding_of f) w out
    → second ≡ decode_under (coding_of f) w' out' → ReadsSlipped f w w' out out' first second
reads_as f w w' out out' {first} {second} e e' =
    subst (λ (d : Decoded). ReadsSlipped f w w' out out' d second) (sym e)
    (subst (λ (d : Decoded). ReadsSlipped f w w' out out' (decode_under (coding_of f) w out) d) (sym e') (reads-slipped f w w' out out'))
