-- What the check of a word answers. Assumes nothing.
use mathlib.Core.Path.{◌≡◌, refl, sym, ap, ◌∙◌}
use mathlib.Core.Logic.{◌↔◌}
use mathlib.Core.Bool.{Bool, true, false, not, cond, true≢false}
use mathlib.Core.List.{List}
use Prim.Native.Nat.{ℕ, ◌<◌}
use native.Mathlib.Omega.{arith}
use lib.ListN.{length, get_or}
use lib.Seq.{length-take-le}
use Rattle.combinatorics.specs.Lists.{all_below}
use Rattle.combinatorics.proofs.Cases.{by_bool, by-eq, eqb_same, eqb-other}
use Rattle.combinatorics.proofs.Lists.{below_at}
use Rattle.combinatorics.proofs.Stretch.{has-none, has_some, has-ext}
use Rattle.cells.specs.Codec.{Codec, accepted, Word, Exact}
use Rattle.cells.specs.Outcomes.{Coding, Held, in_use}
use Rattle.codes.specs.declared.Figures.{Figures}
use Rattle.codes.specs.Bridge.{coding_of}
use Rattle.codes.proofs.Layouts.{small}
use Rattle.codes.proofs.Exact.{demand-two, placed_of}
use Rattle.verifier.specs.Verify.{differs_at, agrees_outside, agreeing, differing, verify_under, Checkable, SameOutside, VerifiesWords}

-- ---- The test, under any codec

module _ (c : Codec) (w starts ms : List ℕ) where
  pub agrees-outside : agrees_outside c w starts ms ≡ true → (x : ℕ) → x < c.word_len → c.spoilt starts x ≡ false → get_or w x 0 ≡ get_or (c.encode starts ms) x 0
  unfolding agrees_outside
  agrees-outside e x lx out =
      by-eq (get_or w x 0) (get_or (c.encode starts ms) x 0) (λ _. get_or w x 0 ≡ get_or (c.encode starts ms) x 0) (λ d. d)
      (λ d. absurd (true≢false (sym e ∙ ap not
      (has_some c.word_len 0 x (differs_at c w starts ms) (omega arith) (omega arith) (rw (out, eqb-other (get_or w x 0) (get_or (c.encode starts ms) x 0) d))))))

  pub outside-agrees : ((x : ℕ) → x < c.word_len → c.spoilt starts x ≡ false → get_or w x 0 ≡ get_or (c.encode starts ms) x 0)
      → agrees_outside c w starts ms ≡ true
  unfolding agrees_outside
  outside-agrees h =
      ap not (has-none c.word_len 0 (differs_at c w starts ms)
      (λ x _ lx. by_bool (c.spoilt starts x) (λ t. rw t)
      (λ t. rw (t, eqb_same (get_or w x 0) (get_or (c.encode starts ms) x 0) (h x (omega arith) t)))))

  -- for a placement and a message: yes exactly where they lead to the word, and so exactly where an exact decoder gives them back
  pub agrees-reads : Exact c → Word c w → c.placed starts ≡ true → length ms ≡ c.message_len_of → all_below c.alphabet ms ≡ true
      → (agrees_outside c w starts ms ≡ true) ↔ (c.decode w ≡ accepted starts ms)
  agrees-reads exact found p k s = (
    λ e. (exact w starts ms found).1 (record { placement = p; count = k; symbols = s; outside = agrees-outside e }),
    λ e. outside-agrees ((exact w starts ms found).0 e).outside,
  )

-- ---- The check

not-both : {P : Type 0} → differing ≡ agreeing → P
not-both e = absurd (let z : ◌≡◌ {A = ℕ} 0 1 = cc in omega arith)

agreed : (b : Bool) → (cond b agreeing differing ≡ agreeing) ↔ (b ≡ true)
agreed true = (λ _. refl, λ _. refl)
agreed false = (λ e. not-both e, λ e. absurd (true≢false (sym e)))

module _ (d : Coding) (at : Held) (ms w : List ℕ) (ok : Checkable d at ms w) where
  -- nothing is refused
  pub checked : verify_under d at ms w ≡ cond (agrees_outside d.codec w (in_use at) ms) agreeing differing
  checked =
      rw (
        ok.range,
        ok.fit,
        eqb_same at.count d.bursts ok.count,
        eqb_same (length ms) d.codec.message_len_of ok.message,
        eqb_same (length w) d.codec.word_len ok.complete,
        ok.starts,
        ok.symbols,
        ok.found,
      )

  yes-exactly : (verify_under d at ms w ≡ agreeing) ↔ (agrees_outside d.codec w (in_use at) ms ≡ true)
  yes-exactly =
      let a = agreed (agrees_outside d.codec w (in_use at) ms) in
      (λ e. a.0 (sym checked ∙ e), λ e. checked ∙ a.1 e)

  pub exactly : (verify_under d at ms w ≡ agreeing) ↔ SameOutside d.codec (in_use at) w (d.codec.encode (in_use at) ms)
  exactly = (
    λ e. agrees-outside d.codec w (in_use at) ms (yes-exactly.0 e),
    λ h. yes-exactly.1 (outside-agrees d.codec w (in_use at) ms h),
  )

  pub else-no : (verify_under d at ms w ≡ agreeing → ⊥) → verify_under d at ms w ≡ differing
  else-no h =
      by_bool (agrees_outside d.codec w (in_use at) ms) (λ t. absurd (h (yes-exactly.1 t)))
      (λ t. checked ∙ ap (λ (b : Bool). cond b agreeing differing) t)

-- two words that agree outside the runs get one answer
same_test : (c : Codec) (w w' starts ms : List ℕ) → SameOutside c starts w' w → agrees_outside c w' starts ms ≡ agrees_outside c w starts ms
unfolding agrees_outside
same_test c w w' starts ms h =
    ap not (has-ext c.word_len 0 (differs_at c w' starts ms) (differs_at c w starts ms)
    (λ x _ lx. by_bool (c.spoilt starts x) (λ t. rw t) (λ t. rw (t, h x (omega arith) t))))

-- ---- Under the figures of each code

module _ (f : Figures) (at : Held) (ms w : List ℕ) (ok : Checkable (coding_of f) at ms w) where
  placed : (coding_of f).codec.placed (in_use at) ≡ true
  placed =
      let few = small f ok.range in
      placed_of f (in_use at)
      (length-take-le at.count at.starts (omega (arith, ok.held, ok.count, few.bursts-most)) ∙ ok.count) ok.starts

  pub reads : (verify_under (coding_of f) at ms w ≡ agreeing) ↔ ((coding_of f).codec.decode w ≡ accepted (in_use at) ms)
  reads =
      let c = (coding_of f).codec in
      let two = demand-two f ok.range ok.fit in
      let seen : Word c w = record { complete = ok.complete; symbols = ok.found } in
      let a = agrees-reads c w (in_use at) ms two.exactly seen placed ok.message ok.symbols in
      let y = yes-exactly (coding_of f) at ms w ok in
      (λ e. a.0 (y.0 e), λ e. y.1 (a.1 e))

  pub erasure-differs : (x : ℕ) → x < (coding_of f).codec.word_len → (coding_of f).codec.spoilt (in_use at) x ≡ false → get_or w x 0 ≡ (coding_of f).codec.alphabet
      → verify_under (coding_of f) at ms w ≡ differing
  erasure-differs x lx out e =
      let c = (coding_of f).codec in
      let two = demand-two f ok.range ok.fit in
      let below = below_at c.alphabet (c.encode (in_use at) ms) (omega (arith, (small f ok.range).alphabet-least))
      (two.written (in_use at) ms placed ok.message ok.symbols).1 x in
      else-no (coding_of f) at ms w ok (λ y. let same = (exactly (coding_of f) at ms w ok).0 y x lx out in omega (arith, same, below))

pub verifies : VerifiesWords
verifies f at ms w ok =
    let d = coding_of f in
    record {
      exactly = exactly d at ms w ok;
      reads = reads f at ms w ok;
      else = else-no d at ms w ok;
      no-opinion = λ w' ok' h.
          checked d at ms w' ok' ∙ ap (λ (b : Bool). cond b agreeing differing) (same_test d.codec w w' (in_use at) ms h) ∙ sym (checked d at ms w ok);
      erasure = erasure-differs f at ms w ok;
    }
