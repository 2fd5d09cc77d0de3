-- Laws of any exact code. Assumes nothing.
use mathlib.Core.Path.{◌≡◌, sym, ◌∙◌}
use mathlib.Core.Logic.{◌↔◌}
use mathlib.Core.List.{List}
use Prim.Native.Nat.{ℕ}
use native.Mathlib.Omega.{arith}
use Rattle.cells.specs.Codec.{Reading, accepted, refused, Codec, Word, LeadsTo, WritesWords, Exact, OwnRefusals, ReadsExactly}

-- an acceptance is no refusal, and a refusal has one number
pub not-accepted : {P : Type 0} {a : ℕ} {ss ms : List ℕ} → refused a ≡ accepted ss ms → P
not-accepted e = absurd (let z : ◌≡◌ {A = ℕ} 0 1 = cc in omega arith)

pub same_number : (a c : ℕ) → refused a ≡ refused c → a ≡ c
same_number a c e = cc

-- no two pairs lead to one word
pub one-pair : (c : Codec) → Exact c → (w ss ms ss' ms' : List ℕ) → Word c w → LeadsTo c w ss ms → LeadsTo c w ss' ms' → (ss ≡ ss') × (ms ≡ ms')
one-pair c exact w ss ms ss' ms' word l l' =
    let e : accepted ss ms ≡ accepted ss' ms' = sym ((exact w ss ms word).1 l) ∙ (exact w ss' ms' word).1 l' in
    let starts : ss ≡ ss' = cc in
    let messages : ms ≡ ms' = cc in
    (starts, messages)

-- a word that no pair leads to is refused
pub others-refused : (c : Codec) → Exact c → (w : List ℕ) → Word c w → ((ss ms : List ℕ) → LeadsTo c w ss ms → ⊥) → (a : ℕ) × (c.decode w ≡ refused a)
others-refused c exact w word none = go (c.decode w) (λ ss ms e. none ss ms ((exact w ss ms word).0 e))
  where
    go : (r : Reading) → ((ss ms : List ℕ) → r ≡ accepted ss ms → ⊥) → (a : ℕ) × (r ≡ refused a)
    go (accepted ss ms) f = absurd (f ss ms (λ i. accepted ss ms))
    go (refused a) f = (a, λ i. refused a)

pub reads-exactly : (c : Codec) (Listed : List ℕ → ℕ → Type 0) → WritesWords c → Exact c → OwnRefusals c
    → ((w : List ℕ) (a : ℕ) → (c.decode w ≡ refused a) ↔ Listed w a) → ReadsExactly c Listed
reads-exactly c Listed writes exact own listed =
    record { written = writes; exactly = exact; one-pair = one-pair c exact; others = others-refused c exact; own = own; listed = listed }
