-- Where a placement was read, its message has no erasure exactly when the bursts cover all of them: of any code that reads exactly, and of either
-- construction. Assumes nothing.
use mathlib.Core.Path.{◌≡◌, refl, sym, ap, ◌∙◌}
use mathlib.Core.Bool.{true, false, not, true≢false, false≢true}
use mathlib.Core.List.{List}
use Prim.Native.Nat.{ℕ, suc, ◌<◌}
use native.Mathlib.Omega.{arith}
use borrow.Author.Tests.{leb-true}
use lib.Dec.{ltb}
use lib.ListN.{length, get_or}
use Rattle.combinatorics.specs.Bursts.{in_burst, covers}
use Rattle.combinatorics.specs.Lists.{all_below}
use Rattle.combinatorics.specs.Stretch.{tabulate}
use Rattle.combinatorics.proofs.Cases.{by_bool, leb-holds}
use Rattle.combinatorics.proofs.Cover.{covers_of, of-covers}
use Rattle.combinatorics.proofs.Lists.{below_at}
use Rattle.cells.specs.Cells.{Cell, burst, message, is, pick}
use Rattle.cells.specs.Codec.{accepted, Codec, Word, ReadsExactly}
use Rattle.cells.specs.Erasures.{found_bound, erased_at}
use Rattle.cells.specs.Plan.{kind_in, plan_in}
use Rattle.cells.proofs.Cells.{pick_small, no-burst}
use Rattle.cells.proofs.Erasures.{below-whole}
use Rattle.cells.proofs.Plan.{kind-burst}
use Rattle.construction_a.specs.DemandTwo as A
use Rattle.construction_a.proofs.DemandTwo as A'
use Rattle.construction_b.specs.DemandTwo as B
use Rattle.construction_b.proofs.DemandTwo as B'
use Rattle.params.specs.Given.{figures_of, long_of, frame_of, coding_with, blocks_coding, LayoutFitsWith, BlocksServe}
use Rattle.params.specs.declared.Layout.{Layout}
use Rattle.params.specs.declared.Spells.{Spells}
use Rattle.params.specs.declared.Spells.TheVariants.{Rank, EndOffset}
use Rattle.params.proofs.Either.{in-shape}
use Rattle.params.proofs.Shape.{bound}
use Rattle.decoder.specs.Reader.{read_message}

-- what a code accepts that reads exactly agrees, outside the bursts, with a word of the alphabet's symbols
outside : (c : Codec) (Listed : List ℕ → ℕ → Type 0) → ReadsExactly c Listed → 0 < c.alphabet → (w ss ms : List ℕ) → Word c w → c.decode w ≡ accepted ss ms
    → (x : ℕ) → x < c.word_len → c.spoilt ss x ≡ false → get_or w x 0 < c.alphabet
outside c Listed two some w ss ms word e x l t =
    let leads = (two.exactly w ss ms word).0 e in
    let symbols = (two.written ss ms leads.placement leads.count leads.symbols).1 in
    omega (arith, leads.outside x l t, below_at c.alphabet (c.encode ss ms) some symbols x)

-- a word whose message, where it has no erasure, a code that reads exactly accepts with the placement
module _ (c : Codec) (Listed : List ℕ → ℕ → Type 0) (two : ReadsExactly c Listed) (some : 0 < c.alphabet) (b : ℕ) (kind : ℕ → Cell) (w ss : List ℕ)
    (word : Word c w)
    (bursts : (x : ℕ) → is burst (kind x) ≡ in_burst b ss x) (spoilt : (x : ℕ) → c.spoilt ss x ≡ in_burst b ss x)
    (accepts : (let ms = pick message (tabulate c.word_len 0 kind) w in all_below c.alphabet ms ≡ true → c.decode w ≡ accepted ss ms)) where
  all-covered : all_below c.alphabet (pick message (tabulate c.word_len 0 kind) w) ≡ true → covers c.word_len b (erased_at c.alphabet w) ss ≡ true
  all-covered e =
      let ms = pick message (tabulate c.word_len 0 kind) w in
      of-covers c.word_len b (erased_at c.alphabet w) ss
      (λ x h t. by_bool (in_burst b ss x) (λ t. t)
      (λ o. absurd (false≢true (rw (leb-holds (suc (get_or w x 0)) c.alphabet (outside c Listed two some w ss ms word (accepts e) x h (spoilt x ∙ o))) at t))))

  -- a message cell lies in no burst
  none-taken : covers c.word_len b (erased_at c.alphabet w) ss ≡ true → (x : ℕ) → x < c.word_len → is message (kind x) ≡ true → get_or w x 0 < c.alphabet
  none-taken t x h m =
      by_bool (ltb (get_or w x 0) c.alphabet) (λ e. leb-true (suc (get_or w x 0)) c.alphabet e)
      (λ e. absurd (true≢false (sym (covers_of c.word_len b (erased_at c.alphabet w) ss t x h (ap not e)) ∙ sym (bursts x)
      ∙ no-burst message (kind x) refl m)))

  pub message-covered : covers c.word_len b (erased_at c.alphabet w) ss ≡ all_below c.alphabet (pick message (tabulate c.word_len 0 kind) w)
  message-covered =
      by_bool (all_below c.alphabet (pick message (tabulate c.word_len 0 kind) w)) (λ e. all-covered e ∙ sym e)
      (λ e. by_bool (covers c.word_len b (erased_at c.alphabet w) ss)
      (λ t. absurd (true≢false (sym (pick_small message c.word_len kind w c.alphabet (none-taken t)) ∙ e)))
      (λ t. t ∙ sym e))

module _ (l : Layout) (g : BlocksServe l) (w : List ℕ) (complete : length w ≡ l.n) (found : all_below (found_bound l.q) w ≡ true) (ss : List ℕ)
    (read-as : (blocks_coding l).codec.decode w ≡ read_message l w ss) where
  some-symbol : 0 < l.q
  some-symbol = omega (arith, (bound l (in-shape l g)).q-least)

  covered-by : (s : Spells) → LayoutFitsWith s l → (coding_with s (figures_of l)).codec.decode w ≡ read_message l w ss
      → covers l.n l.b (erased_at l.q w) ss ≡ all_below l.q (pick message (plan_in (frame_of l ss)) w)
  covered-by Rank h e =
      let f = figures_of l in
      message-covered (A.construction_a f) (A.Listed f) (A'.demand-two f h.range h.fit) some-symbol l.b (kind_in (frame_of l ss)) w ss
      (record { complete = complete; symbols = found })
      (kind-burst (frame_of l ss)) (λ x. refl) (λ t. e ∙ rw (below-whole l.q (pick message (plan_in (frame_of l ss)) w) t))
  covered-by EndOffset h e =
      let f = long_of (figures_of l) in
      message-covered (B.construction_b f) (B.Listed f) (B'.demand-two f h.range h.fit) some-symbol l.b (kind_in (frame_of l ss)) w ss
      (record { complete = complete; symbols = found })
      (kind-burst (frame_of l ss)) (λ x. refl) (λ t. e ∙ rw (below-whole l.q (pick message (plan_in (frame_of l ss)) w) t))

  pub erasures-covered : covers l.n l.b (erased_at l.q w) ss ≡ all_below l.q (pick message (plan_in (frame_of l ss)) w)
  erasures-covered = covered-by l.spells g read-as
