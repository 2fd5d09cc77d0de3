-- What a trace's events do to the bytes that a reader has left and a writer holds, as far as those are known. Assumes nothing.
use mathlib.Core.Path.{◌≡◌, refl, sym, ap, subst, ◌∙◌}
use mathlib.Core.Bool.{Bool, true, false, cond, false≢true}
use mathlib.Core.List.{List, [], ◌∷◌, ◌++◌, append-nil, append_assoc}
use Prim.Native.Nat.{ℕ, zero, suc, ◌<◌}
use native.Mathlib.Omega.{arith}
use lib.IntN.{ℤ, pos, negsuc}
use lib.ListN.{length, take, length-append}
use Rattle.std.specs.Prelude.{IfSome}
use Rattle.std.specs.Io.KnownBytes.{Consumes, Appends, IsAtEnd, Keeps}
use Rattle.std.specs.declared.option.Option.{Option}
use Rattle.std.specs.declared.option.Option.TheVariants.{None, Some}
use Rattle.combinatorics.proofs.Cases.{eqb-other}
use Rattle.lines.specs.Lines.{stop_line, end_line}
use Rattle.transfer.specs.Program.{printed, printed_unread}
use Rattle.turns.specs.declared.State.{State}
use Rattle.turns.specs.declared.Wants.TheVariants.{Stop}
use Rattle.turns.specs.View.{View, wants_of}
use Rattle.turns.specs.State.{is_repeated}
use Rattle.turns.specs.Trace.{Event, came, ended, interrupted, failed, written, unwritten, view_after, IsTrace, brought_by, brought, handed_by, handed}
use Rattle.turns.specs.Trace.{all_taken, MayCome, printed_to}
use Rattle.turns.proofs.Views.{event_of}
use Rattle.turns.proofs.Printing.{trace-prints}
use Rattle.burgzemi.specs.Served.{has_ended, has_failed}

-- ---- Known bytes

consumes-then : (a b c : Option (List ℕ)) (xs ys : List ℕ) → Consumes a b xs → Consumes b c ys → Consumes a c (xs ++ ys)
consumes-then None b c xs ys h k = tt
consumes-then (Some xa) None c xs ys h k = absurd h
consumes-then (Some xa) (Some xb) None xs ys h k = absurd k
consumes-then (Some xa) (Some xb) (Some xc) xs ys h k = h ∙ ap (λ (l : List ℕ). xs ++ l) k ∙ sym (append_assoc xs ys xc)

consumes-none : (a : Option (List ℕ)) → Consumes a a []
consumes-none None = tt
consumes-none (Some xa) = refl

keeps-none : (a b : Option (List ℕ)) → Keeps a b → Consumes a b []
keeps-none None b h = tt
keeps-none (Some xa) None h = absurd h
keeps-none (Some xa) (Some xb) h = sym h

appends-then : (a b c : Option (List ℕ)) (xs ys : List ℕ) → Appends a b xs → Appends b c ys → Appends a c (xs ++ ys)
appends-then None b c xs ys h k = tt
appends-then (Some xa) None c xs ys h k = absurd h
appends-then (Some xa) (Some xb) None xs ys h k = absurd k
appends-then (Some xa) (Some xb) (Some xc) xs ys h k = k ∙ ap (λ (l : List ℕ). l ++ ys) h ∙ append_assoc xa xs ys

appends-none : (a : Option (List ℕ)) → Appends a a []
appends-none None = tt
appends-none (Some xa) = sym (append-nil xa)

-- a reader that was read to its end gives nothing more
end-stays : (a b c : Option (List ℕ)) (xs ys : List ℕ) → IfSome a (λ (l : List ℕ). l ≡ xs) → Consumes a b xs → Consumes b c ys
    → IfSome a (λ (l : List ℕ). l ≡ xs ++ ys)
end-stays None b c xs ys e h k = tt
end-stays (Some xa) None c xs ys e h k = absurd h
end-stays (Some xa) (Some xb) None xs ys e h k = absurd k
end-stays (Some xa) (Some xb) (Some xc) xs [] e h k = e ∙ sym (append-nil xs)
end-stays (Some xa) (Some xb) (Some xc) xs (y ∷ ys) e h k =
    absurd (omega (arith, ap length e, ap length h, ap length k, length-append xs xb, length-append (y ∷ ys) xc))

end-comes : (a b : Option (List ℕ)) (xs : List ℕ) → Consumes a b xs → IsAtEnd b → IfSome a (λ (l : List ℕ). l ≡ xs)
end-comes None b xs h e = tt
end-comes (Some xa) None xs h e = absurd h
end-comes (Some xa) (Some xb) xs h e = h ∙ ap (λ (l : List ℕ). xs ++ l) e ∙ append-nil xs

-- ---- A trace

-- what its events did, from the reader's and the writer's bytes at its begin on
pub record Known (es : List Event) (had has held holds : Option (List ℕ)) : Type 0 where
  pub read : Consumes had has (brought es)
  pub end : has_ended es ≡ true → IfSome had (λ (bytes : List ℕ). bytes ≡ brought es)
  pub wrote : all_taken es ≡ true → Appends held holds (handed es)

pub begun-known : (r w : Option (List ℕ)) → Known [] r r w w
begun-known r w = record { read = consumes-none r; end = λ e. absurd (false≢true e); wrote = λ _. appends-none w }

-- a read that comes to the end, and all but a write that fails
abbrev pub closes : Event → Bool
closes (came bytes) = false
closes ended = true
closes interrupted = false
closes failed = false
closes written = false
closes unwritten = false

abbrev pub takes : Event → Bool
takes (came bytes) = true
takes ended = true
takes interrupted = true
takes failed = true
takes written = true
takes unwritten = false

-- what one event does, where it is an answer to the wants of this view
pub record Carried (e : Event) (v : View) (has has' holds holds' : Option (List ℕ)) : Type 0 where
  pub read : Consumes has has' (brought_by e)
  pub end : closes e ≡ true → IsAtEnd has'
  pub wrote : takes e ≡ true → Appends holds holds' (handed_by v e)

module _ (es : List Event) (had has has' held holds holds' : Option (List ℕ)) (k : Known es had has held holds) where
  pub known-then : (e : Event) → Carried e (view_after es) has has' holds holds' → Known (e ∷ es) had has' held holds'
  known-then e c = record { read = consumes-then had has has' (brought es) (brought_by e) k.read c.read; end = ends e c; wrote = wrotes e c }
    where
      stays : (ys : List ℕ) → Consumes has has' ys → has_ended es ≡ true → IfSome had (λ (bytes : List ℕ). bytes ≡ brought es ++ ys)
      stays ys h t = end-stays had has has' (brought es) ys (k.end t) k.read h

      ends : (e : Event) → Carried e (view_after es) has has' holds holds' → has_ended (e ∷ es) ≡ true
          → IfSome had (λ (bytes : List ℕ). bytes ≡ brought es ++ brought_by e)
      ends (came bytes) c t = stays bytes c.read t
      ends ended c t = end-comes had has' (brought es ++ []) (consumes-then had has has' (brought es) [] k.read c.read) (c.end refl)
      ends interrupted c t = stays [] c.read t
      ends failed c t = absurd (false≢true t)
      ends written c t = stays [] c.read t
      ends unwritten c t = stays [] c.read t

      wrotes : (e : Event) → Carried e (view_after es) has has' holds holds' → all_taken (e ∷ es) ≡ true
          → Appends held holds' (handed es ++ handed_by (view_after es) e)
      wrotes (came bytes) c t = appends-then held holds holds' (handed es) [] (k.wrote t) (c.wrote refl)
      wrotes ended c t = appends-then held holds holds' (handed es) [] (k.wrote t) (c.wrote refl)
      wrotes interrupted c t = appends-then held holds holds' (handed es) [] (k.wrote t) (c.wrote refl)
      wrotes failed c t = appends-then held holds holds' (handed es) [] (k.wrote t) (c.wrote refl)
      wrotes written c t = appends-then held holds holds' (handed es) (view_after es).gathered (k.wrote t) (c.wrote refl)
      wrotes unwritten c t = absurd (false≢true t)

-- ---- What a read and a write do

module _ (s : State) (v : View) (error : ℤ) (bytes : List ℕ) (has has' holds : Option (List ℕ)) where
  pub read-carries : (count : ℕ) → 0 < length bytes → Consumes has has' (take count bytes) × (count ≡ 0 → 0 < length bytes → IsAtEnd has')
      → Carried (event_of s (pos count) error bytes) v has has' holds holds
  read-carries zero some h = record { read = h.0; end = λ _. h.1 refl some; wrote = λ _. appends-none holds }
  read-carries (suc c) some h =
      rw (eqb-other (suc c) 0 (λ e. omega arith)) (record {
        read = h.0;
        end = λ f. absurd (false≢true f);
        wrote = λ _. appends-none holds;
      })

  pub failed-carries : Keeps has has' → Carried (event_of s (negsuc 0) error bytes) v has has' holds holds
  failed-carries h = go (is_repeated s error)
    where
      go : (b : Bool) → Carried (cond b interrupted failed) v has has' holds holds
      go true = record { read = keeps-none has has' h; end = λ f. absurd (false≢true f); wrote = λ _. appends-none holds }
      go false = record { read = keeps-none has has' h; end = λ f. absurd (false≢true f); wrote = λ _. appends-none holds }

pub write-carries : (v : View) (b : Bool) (has holds holds' : Option (List ℕ)) → (b ≡ true → Appends holds holds' v.gathered)
    → Carried (cond b written unwritten) v has has holds holds'
write-carries v true has holds holds' h = record { read = consumes-none has; end = λ f. absurd (false≢true f); wrote = λ _. h refl }
write-carries v false has holds holds' h =
    record { read = consumes-none has; end = λ f. absurd (false≢true f); wrote = λ f. absurd (false≢true f) }

-- ---- At the stop

-- what may still come, where no read failed, and where one did
comes-whole : (es : List Event) (rest : List ℕ) → has_failed es ≡ false → (has_ended es ≡ true → rest ≡ []) → MayCome es rest end_line
comes-whole [] rest f e = tt
comes-whole (ended ∷ es) rest f e = (e refl, refl)
comes-whole (failed ∷ es) rest f e = absurd (false≢true (sym f))
comes-whole (came bytes ∷ es) rest f e = comes-whole es rest f e
comes-whole (interrupted ∷ es) rest f e = comes-whole es rest f e
comes-whole (written ∷ es) rest f e = comes-whole es rest f e
comes-whole (unwritten ∷ es) rest f e = comes-whole es rest f e

comes-unread : (es : List Event) → has_failed es ≡ true → MayCome es [] stop_line
comes-unread [] f = tt
comes-unread (ended ∷ es) f = absurd (false≢true f)
comes-unread (failed ∷ es) f = (refl, refl)
comes-unread (came bytes ∷ es) f = comes-unread es f
comes-unread (interrupted ∷ es) f = comes-unread es f
comes-unread (written ∷ es) f = comes-unread es f
comes-unread (unwritten ∷ es) f = comes-unread es f

module _ (es : List Event) (trace : IsTrace es) (stops : wants_of (view_after es) ≡ Stop) (taken : all_taken es ≡ true) where
  printed-whole : (rest : List ℕ) → has_failed es ≡ false → (has_ended es ≡ true → rest ≡ []) → handed es ≡ printed (brought es ++ rest)
  unfolding printed
  printed-whole rest f e = (trace-prints es trace rest end_line (comes-whole es rest f e)).whole stops taken

  printed-part : has_failed es ≡ true → handed es ≡ printed_unread (brought es)
  unfolding printed_unread
  printed-part f =
      (trace-prints es trace [] stop_line (comes-unread es f)).whole stops taken
      ∙ ap (λ (l : List ℕ). printed_to stop_line l) (append-nil (brought es))

  module _ (had has held holds : Option (List ℕ)) (k : Known es had has held holds) where
    pub prints-whole : has_failed es ≡ false → IfSome had (λ (bytes : List ℕ). Appends held holds (printed bytes))
    prints-whole f = go had has k.read k.end
      where
        go : (a b : Option (List ℕ)) → Consumes a b (brought es) → (has_ended es ≡ true → IfSome a (λ (bytes : List ℕ). bytes ≡ brought es))
            → IfSome a (λ (bytes : List ℕ). Appends held holds (printed bytes))
        go None b h e = tt
        go (Some xa) None h e = absurd h
        go (Some xa) (Some xb) h e =
            let left : has_ended es ≡ true → xb ≡ [] = λ t. rest-none xa xb (e t) h in
            subst (λ (l : List ℕ). Appends held holds l) (printed-whole xb f left ∙ ap printed (sym h)) (k.wrote taken)
          where
            rest-none : (xa xb : List ℕ) → xa ≡ brought es → xa ≡ brought es ++ xb → xb ≡ []
            rest-none xa [] e h = refl
            rest-none xa (b ∷ xb) e h = absurd (omega (arith, ap length e, ap length h, length-append (brought es) (b ∷ xb)))

    pub prints-part : has_failed es ≡ true → Appends held holds (printed_unread (brought es))
    prints-part f = subst (λ (l : List ℕ). Appends held holds l) (printed-part f) (k.wrote taken)
