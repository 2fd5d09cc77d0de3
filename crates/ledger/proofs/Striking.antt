-- What is left of a number's history once each cancellation followed by its reinstatement, and each hold followed by its release, is struck out; and
-- that it says what the number is.
-- Assumes nothing.
use mathlib.Core.Path.{◌≡◌, refl, sym, ap, ◌∙◌}
use mathlib.Core.Bool.{Bool, true, false, ◌||◌, true≢false, false≢true}
use mathlib.Core.List.{List, [], ◌∷◌, ◌++◌}
use Rattle.combinatorics.specs.Lists.{all}
use Rattle.combinatorics.proofs.Cases.{by_bool}
use Rattle.combinatorics.proofs.Lists.{both}
use Rattle.jobs.specs.Jobs.{Kind, opening, cancelling, finishing, reinstating, holding, releasing, Status, unknown, opened, on_hold, cancelled, needs_open}
use Rattle.ledger.specs.Ledger.{after, status_of, takes_back, strike, what_is_left, has_pair, StrikesPairs, newest_of, answer_after, accepts, lawful}
use Rattle.ledger.specs.Ledger.{LeftDecides}

-- ---- In any order

-- what can be taken back takes nothing back
taken-plain : (k j i : Kind) → takes_back k j ≡ true → takes_back j i ≡ false
taken-plain reinstating cancelling i t = refl
taken-plain reinstating opening i t = absurd (false≢true t)
taken-plain reinstating finishing i t = absurd (false≢true t)
taken-plain reinstating reinstating i t = absurd (false≢true t)
taken-plain reinstating holding i t = absurd (false≢true t)
taken-plain reinstating releasing i t = absurd (false≢true t)
taken-plain releasing holding i t = refl
taken-plain releasing opening i t = absurd (false≢true t)
taken-plain releasing cancelling i t = absurd (false≢true t)
taken-plain releasing finishing i t = absurd (false≢true t)
taken-plain releasing reinstating i t = absurd (false≢true t)
taken-plain releasing releasing i t = absurd (false≢true t)
taken-plain holding j i t = absurd (false≢true t)
taken-plain opening j i t = absurd (false≢true t)
taken-plain cancelling j i t = absurd (false≢true t)
taken-plain finishing j i t = absurd (false≢true t)

struck : (k j : Kind) (ks : List Kind) → takes_back k j ≡ true → strike k (strike j ks) ≡ ks
struck k j [] t = rw t
struck k j (i ∷ ks) t = rw (taken-plain k j i t, t)

any-pair : (newer older : List Kind) (k j : Kind) → takes_back k j ≡ true → what_is_left (newer ++ k ∷ j ∷ older) ≡ what_is_left (newer ++ older)
unfolding what_is_left
any-pair [] older k j t = struck k j (what_is_left older) t
any-pair (i ∷ newer) older k j t = ap (strike i) (any-pair newer older k j t)

neither : (a b : Bool) → (a || b) ≡ false → (a ≡ false) × (b ≡ false)
neither true b p = absurd (true≢false p)
neither false b p = (refl, p)

no-pair : (ks : List Kind) → has_pair ks ≡ false → what_is_left ks ≡ ks
unfolding what_is_left has_pair
no-pair [] p = refl
no-pair (k ∷ []) p = refl
no-pair (k ∷ j ∷ ks) p =
    let n = neither (takes_back k j) (has_pair (j ∷ ks)) p in
    ap (strike k) (no-pair (j ∷ ks) n.1) ∙ rw n.0

rest-pairless : (k : Kind) (ks : List Kind) → has_pair (k ∷ ks) ≡ false → has_pair ks ≡ false
unfolding has_pair
rest-pairless k [] p = refl
rest-pairless k (j ∷ ks) p = (neither (takes_back k j) (has_pair (j ∷ ks)) p).1

strike-pairless : (k : Kind) (ks : List Kind) → has_pair ks ≡ false → has_pair (strike k ks) ≡ false
unfolding has_pair
strike-pairless k [] p = refl
strike-pairless k (j ∷ ks) p = by_bool (takes_back k j) (λ t. rw t (rest-pairless j ks p)) (λ t. rw (t, t, p))

none_left : (ks : List Kind) → has_pair (what_is_left ks) ≡ false
unfolding what_is_left
none_left [] = unfold has_pair in refl
none_left (k ∷ ks) = strike-pairless k (what_is_left ks) (none_left ks)

pub strikes-pairs : StrikesPairs
strikes-pairs = record { any-pair = any-pair; no-pair = no-pair; none_left = none_left }

-- ---- What is left says what the number is

-- a call that takes nothing back
abbrev plain : Kind → Bool
plain opening = true
plain cancelling = true
plain finishing = true
plain holding = true
plain reinstating = false
plain releasing = false

-- what is left of the history `ks`
record Left (ks left : List Kind) : Type 0 where
  pub plainly : all plain left ≡ true
  pub accepted : lawful left ≡ true
  pub same : status_of left ≡ status_of ks

-- a call that takes nothing back stays
kept : (k : Kind) (ks left : List Kind) → plain k ≡ true → accepts k (status_of ks) ≡ true → strike k left ≡ k ∷ left → Left ks left
    → Left (k ∷ ks) (strike k left)
unfolding all lawful status_of
kept k ks left p a e l = rw e (record { plainly = rw (p, l.plainly); accepted = rw (l.accepted, l.same, a); same = ap (after k) l.same })

-- what a cancelled number was before
abbrev before : Status → Status
before (cancelled s) = s
before unknown = unknown
before opened = unknown
before on_hold = unknown

abbrev is_cancelled : Status → Bool
is_cancelled (cancelled s) = true
is_cancelled unknown = false
is_cancelled opened = false
is_cancelled on_hold = false

abbrev is_on_hold : Status → Bool
is_on_hold on_hold = true
is_on_hold unknown = false
is_on_hold opened = false
is_on_hold (cancelled s) = false

-- a reinstatement goes with the cancellation that is the last of what is left
reinstated : (ks left : List Kind) (s : Status) → status_of ks ≡ cancelled s → Left ks left → Left (reinstating ∷ ks) (strike reinstating left)
unfolding all lawful status_of
reinstated ks [] s e l = absurd (false≢true (ap is_cancelled (l.same ∙ e)))
reinstated ks (opening ∷ left) s e l = absurd (false≢true (ap is_cancelled (l.same ∙ e)))
reinstated ks (finishing ∷ left) s e l = absurd (false≢true (ap is_cancelled (l.same ∙ e)))
reinstated ks (holding ∷ left) s e l = absurd (false≢true (ap is_cancelled (l.same ∙ e)))
reinstated ks (reinstating ∷ left) s e l = absurd (false≢true l.plainly)
reinstated ks (releasing ∷ left) s e l = absurd (false≢true l.plainly)
reinstated ks (cancelling ∷ left) s e l =
    record {
      plainly = l.plainly;
      accepted = (both (accepts cancelling (status_of left)) (lawful left) l.accepted).1;
      same = rw e (ap before (l.same ∙ e));
    }

-- only an open number is held
was-open : (s : Status) → accepts holding s ≡ true → s ≡ opened
was-open opened a = refl
was-open unknown a = absurd (false≢true a)
was-open on_hold a = absurd (false≢true a)
was-open (cancelled s) a = absurd (false≢true a)

-- a release goes with the hold that is the last of what is left
released : (ks left : List Kind) → status_of ks ≡ on_hold → Left ks left → Left (releasing ∷ ks) (strike releasing left)
unfolding all lawful status_of
released ks [] e l = absurd (false≢true (ap is_on_hold (l.same ∙ e)))
released ks (opening ∷ left) e l = absurd (false≢true (ap is_on_hold (l.same ∙ e)))
released ks (finishing ∷ left) e l = absurd (false≢true (ap is_on_hold (l.same ∙ e)))
released ks (cancelling ∷ left) e l = absurd (false≢true (ap is_on_hold (l.same ∙ e)))
released ks (reinstating ∷ left) e l = absurd (false≢true l.plainly)
released ks (releasing ∷ left) e l = absurd (false≢true l.plainly)
released ks (holding ∷ left) e l =
    let a = both (accepts holding (status_of left)) (lawful left) l.accepted in
    record { plainly = l.plainly; accepted = a.1; same = was-open (status_of left) a.0 }

strike-plain : (k : Kind) (left : List Kind) → plain k ≡ true → strike k left ≡ k ∷ left
strike-plain k [] p = refl
strike-plain opening (j ∷ left) p = refl
strike-plain cancelling (j ∷ left) p = refl
strike-plain finishing (j ∷ left) p = refl
strike-plain holding (j ∷ left) p = refl
strike-plain reinstating (j ∷ left) p = absurd (false≢true p)
strike-plain releasing (j ∷ left) p = absurd (false≢true p)

if-cancelled : (ks left : List Kind) (s : Status) → status_of ks ≡ s → accepts reinstating s ≡ true → Left ks left
    → Left (reinstating ∷ ks) (strike reinstating left)
if-cancelled ks left (cancelled s) e a l = reinstated ks left s e l
if-cancelled ks left unknown e a l = absurd (false≢true a)
if-cancelled ks left opened e a l = absurd (false≢true a)
if-cancelled ks left on_hold e a l = absurd (false≢true a)

if-on-hold : (ks left : List Kind) (s : Status) → status_of ks ≡ s → accepts releasing s ≡ true → Left ks left
    → Left (releasing ∷ ks) (strike releasing left)
if-on-hold ks left on_hold e a l = released ks left e l
if-on-hold ks left unknown e a l = absurd (false≢true a)
if-on-hold ks left opened e a l = absurd (false≢true a)
if-on-hold ks left (cancelled s) e a l = absurd (false≢true a)

is-left : (ks : List Kind) → lawful ks ≡ true → Left ks (what_is_left ks)
unfolding what_is_left lawful
is-left [] a = record { plainly = unfold all in refl; accepted = refl; same = refl }
is-left (k ∷ ks) a =
    let b = both (accepts k (status_of ks)) (lawful ks) a in
    by-kind k b.0 (is-left ks b.1)
  where
    by-kind : (k : Kind) → accepts k (status_of ks) ≡ true → Left ks (what_is_left ks) → Left (k ∷ ks) (strike k (what_is_left ks))
    by-kind opening a l = kept opening ks (what_is_left ks) refl a (strike-plain opening (what_is_left ks) refl) l
    by-kind cancelling a l = kept cancelling ks (what_is_left ks) refl a (strike-plain cancelling (what_is_left ks) refl) l
    by-kind finishing a l = kept finishing ks (what_is_left ks) refl a (strike-plain finishing (what_is_left ks) refl) l
    by-kind holding a l = kept holding ks (what_is_left ks) refl a (strike-plain holding (what_is_left ks) refl) l
    by-kind reinstating a l = if-cancelled ks (what_is_left ks) (status_of ks) refl a l
    by-kind releasing a l = if-on-hold ks (what_is_left ks) (status_of ks) refl a l

last-answers : (left : List Kind) → all plain left ≡ true → needs_open (status_of left) ≡ answer_after (newest_of left)
unfolding all status_of
last-answers [] p = refl
last-answers (opening ∷ left) p = refl
last-answers (cancelling ∷ left) p = refl
last-answers (finishing ∷ left) p = refl
last-answers (holding ∷ left) p = refl
last-answers (reinstating ∷ left) p = absurd (false≢true p)
last-answers (releasing ∷ left) p = absurd (false≢true p)

pub left-decides : LeftDecides
left-decides ks a =
    let l = is-left ks a in
    record { accepted = l.accepted; same = l.same; answers = ap needs_open (sym l.same) ∙ last-answers (what_is_left ks) l.plainly }
