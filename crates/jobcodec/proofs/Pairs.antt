-- The pair that gives a word, under any exact codec, and what is handed out of it. Assumes nothing.
use mathlib.Core.Path.{◌≡◌, refl, sym, ap, ◌∙◌}
use mathlib.Core.Bool.{true, true≢false}
use mathlib.Core.List.{List}
use mathlib.Core.Option.{Option, none, some}
use Prim.Native.Nat.{ℕ, ◌≤◌}
use Rattle.refusals.specs.Refusals.{served, job_cancelled, not_open, job_held}
use Rattle.combinatorics.specs.Lists.{any}
use Rattle.cells.specs.Codec.{accepted, Codec, Word, Exact}
use Rattle.cells.proofs.Codec.{one-pair}
use Rattle.jobs.specs.Jobs.{Kind, opening, cancelling, finishing, reinstating, holding, releasing, Call}
use Rattle.ledger.specs.Ledger.{last_left, answer_after}
use Rattle.payloads.specs.Payload.{job_number, message_of, payload_in, spells_payload}
use Rattle.jobcodec.specs.JobWrite.{unless}
use Rattle.jobcodec.specs.JobRead.{JobRead, hand_out, withhold}
use Rattle.jobcodec.specs.DemandThree.{Gives, OnlyPair, BothFacts, is_refusal, is_word_refusal, HandsOut}
use Rattle.payloads.proofs.Payload.{payload-back, payload-is, message-is}

-- ---- Pairs, under any exact codec

module _ (c : Codec) (exact : Exact c) (two : 2 ≤ c.alphabet) (w : List ℕ) (found : Word c w) where
  -- the pair that gives a word is what is read from it
  pub read-pair : (starts y : List ℕ) → Gives c w starts y → c.decode w ≡ accepted starts (message_of c.alphabet c.message_len_of y)
  read-pair starts y g = (exact w starts (message_of c.alphabet c.message_len_of y) found).1 g.leads

  pub pair_read : (starts ms : List ℕ) → c.decode w ≡ accepted starts ms → spells_payload c.alphabet c.message_len_of ms ≡ true
      → Gives c w starts (payload_in c.alphabet c.message_len_of ms)
  pair_read starts ms e t =
      let l = (exact w starts ms found).0 e in
      record { whole = payload-is c.alphabet c.message_len_of ms t; leads = rw (message-is c.alphabet c.message_len_of two ms l.count l.symbols t) l }

  -- at most one pair gives a word
  pub only-pair : (starts y : List ℕ) → Gives c w starts y → OnlyPair c w starts y
  only-pair starts y g =
      let q = c.alphabet in
      let k = c.message_len_of in
      record {
        gives = g;
        no_other = λ starts' y' g'.
            let p = one-pair c exact w starts' (message_of q k y') starts (message_of q k y) found g'.leads g.leads in
            (p.0, sym (payload-back q k two y' g'.whole) ∙ ap (payload_in q k) p.1 ∙ payload-back q k two y g.whole);
      }

-- ---- What is handed out

pub not-served : {P : Type 0} (a : ℕ) → is_refusal a ≡ true → a ≡ served → P
unfolding is_refusal any
not-served a r e = absurd (true≢false (sym r ∙ ap is_refusal e))

module _ (c : Codec) (h : List Call) (w out : List ℕ) where
  -- no pair gives the word
  pub none-gives : ((starts y : List ℕ) → Gives c w starts y → ⊥) → (a : ℕ) → is_refusal a ≡ true → is_word_refusal c a ≡ true → HandsOut c h w out (withhold out a)
  none-gives no-pair a r s =
      record {
        exactly = (not-served a r, λ u. absurd (no-pair u.0 u.1 u.2.only.gives));
        hands = λ starts y u. absurd (no-pair starts y u.only.gives);
        otherwise = λ _. (a, r, refl);
        no-pair = λ _. (a, s, refl);
        after-cancelling = λ starts y u _. absurd (no-pair starts y u.gives);
        after-finishing = λ starts y u _. absurd (no-pair starts y u.gives);
        after-holding = λ starts y u _. absurd (no-pair starts y u.gives);
        none-accepted = λ starts y u _. absurd (no-pair starts y u.gives);
        by_left = λ starts y u. absurd (no-pair starts y u.gives);
      }

  -- one pair does, and the table stands for the calls: the last of what is left of those on its number decides
  module _ (starts y : List ℕ) (only : OnlyPair c w starts y) (r : JobRead)
      (is : r ≡ unless (answer_after (last_left h (job_number y))) (withhold out) (hand_out y)) where
    by_last : (o : Option Kind) → last_left h (job_number y) ≡ o → r ≡ unless (answer_after o) (withhold out) (hand_out y)
    by_last o e = is ∙ ap (λ (x : Option Kind). unless (answer_after x) (withhold out) (hand_out y)) e

    same-last : (starts' y' : List ℕ) (o : Option Kind) → Gives c w starts' y' → last_left h (job_number y') ≡ o → last_left h (job_number y) ≡ o
    same-last starts' y' o g e = sym (ap (λ (z : List ℕ). last_left h (job_number z)) (only.no_other starts' y' g).1) ∙ e

    pub handed : (starts' y' : List ℕ) → BothFacts c h w starts' y' → r ≡ hand_out y'
    handed starts' y' u =
        by_last (some opening) (same-last starts' y' (some opening) u.only.gives u.opened)
        ∙ ap hand_out (sym (only.no_other starts' y' u.only.gives).1)

    -- the second fact holds, or a refusal says that it does not
    decided : {P : Type 0} (o : Option Kind) → last_left h (job_number y) ≡ o → (BothFacts c h w starts y → P)
        → ((a : ℕ) → is_refusal a ≡ true → r ≡ withhold out a → P) → P
    unfolding is_refusal any
    decided none e holds fails = fails not_open refl (by_last none e)
    decided (some opening) e holds fails = holds (record { only = only; opened = e })
    decided (some cancelling) e holds fails = fails job_cancelled refl (by_last (some cancelling) e)
    decided (some finishing) e holds fails = fails not_open refl (by_last (some finishing) e)
    decided (some holding) e holds fails = fails job_held refl (by_last (some holding) e)
    decided (some reinstating) e holds fails = fails not_open refl (by_last (some reinstating) e)
    decided (some releasing) e holds fails = fails not_open refl (by_last (some releasing) e)

    pub one-gives : HandsOut c h w out r
    one-gives =
        let last = last_left h (job_number y) in
        record {
          exactly = (
            λ e. decided last refl (λ u. (starts, y, u)) (λ a i d. not-served a i (sym (ap (λ (x : JobRead). x.answer) d) ∙ e)),
            λ u. ap (λ (x : JobRead). x.answer) (handed u.0 u.1 u.2),
          );
          hands = handed;
          no-pair = λ none. absurd (none starts y only.gives);
          otherwise = λ not-both. decided last refl (λ u. absurd (not-both starts y u)) (λ a i d. (a, i, d));
          after-cancelling = λ starts' y' u e. by_last (some cancelling) (same-last starts' y' (some cancelling) u.gives e);
          after-finishing = λ starts' y' u e. by_last (some finishing) (same-last starts' y' (some finishing) u.gives e);
          after-holding = λ starts' y' u e. by_last (some holding) (same-last starts' y' (some holding) u.gives e);
          none-accepted = λ starts' y' u e. by_last none (same-last starts' y' none u.gives e);
          by_left = λ starts' y' u.
              is ∙ ap (λ (z : List ℕ). unless (answer_after (last_left h (job_number z))) (withhold out) (hand_out z))
              (sym (only.no_other starts' y' u.gives).1);
        }
