-- A piece on its way to a stream.
use Rattle.std.proofs.Common.{◌≡◌, inl, inr, ℕ, ◌<◌, ◌-◌, Bool, true, false, List, [], ◌∷◌, ◌++◌, length, take, drop, Option, Some, None, Result, Ok, Err, IsErr, is_err, refl, sym, ap, ◌∙◌, append_assoc, append-nil, arith, length-drop}
use Rattle.std.proofs.Math.Seq.{take-append_seam, take-length}
use Rattle.std.proofs.lemmas.List.{take-append-drop}
use Rattle.std.specs.Io.KnownBytes.{Appends, Keeps}
use Rattle.vip_outside.specs.Count.{Rose}
use Rattle.vip_outside.specs.Stream.{StreamCall, Sends, and_calls, bytes_of}
use Rattle.vip_outside.specs.Stream.StreamCall.{Wrote, WriteFailed, Flushed, FlushFailed}
use Rattle.vip_outside.specs.Stream.Sends.{Ends, EndFails, Takes, TakesNone, Fails}
use Rattle.vip_outside.specs.Sink.{PutAnswers}
use Rattle.vip_outside.specs.StdSink.{Sent, SendsSome, meaning_of, took}
use Rattle.vip_outside.specs.declared.sink.Failed.{Failed}

pub Appends-nil : (known : Option (List ℕ)) → Appends known known []
Appends-nil None = tt
Appends-nil (Some bytes) = sym (append-nil bytes)

pub Appends-append : (a b : List ℕ) (old middle new : Option (List ℕ)) → Appends old middle a → Appends middle new b → Appends old new (a ++ b)
Appends-append a b None middle new first second = tt
Appends-append a b (Some xs) None new first second = absurd first
Appends-append a b (Some xs) (Some ys) None first second = absurd second
Appends-append a b (Some xs) (Some ys) (Some zs) first second = rw (second, first, append_assoc)

Keeps-appends : (old new : Option (List ℕ)) → Keeps old new → Appends old new []
Keeps-appends None new keeps = tt
Keeps-appends (Some xs) None keeps = absurd keeps
Keeps-appends (Some xs) (Some ys) keeps = keeps ∙ sym (append-nil xs)

-- ---- calls

no_calls : (calls : Option (List StreamCall)) → calls ≡ and_calls [] calls
no_calls None = refl
no_calls (Some cs) = ap (λ ds. Some ds) (sym (append-nil cs))

and_calls-append : (a b : List StreamCall) (old : Option (List StreamCall)) → and_calls b (and_calls a old) ≡ and_calls (a ++ b) old
and_calls-append a b None = refl
and_calls-append a b (Some cs) = ap (λ ds. Some ds) (append_assoc cs a b)

pub bytes_of-append : (a b : List StreamCall) → bytes_of (a ++ b) ≡ bytes_of a ++ bytes_of b
bytes_of-append [] b = refl
bytes_of-append (Wrote offered count ∷ a) b = rw (append_assoc, bytes_of-append a b) refl
bytes_of-append (WriteFailed offered ∷ a) b = bytes_of-append a b
bytes_of-append (Flushed ∷ a) b = bytes_of-append a b
bytes_of-append (FlushFailed ∷ a) b = bytes_of-append a b

-- ---- the calls so far, behind which those for the rest of the piece come

pub record IsSending (piece rest : List ℕ) (old new : Option (List StreamCall)) (had has : Option (List ℕ)) : Type 0 where
  pub calls : List StreamCall
  pub made : new ≡ and_calls calls old
  pub appends : Appends had has (bytes_of calls)
  pub goes_on : (more : List StreamCall) (fails : Bool) → Sends rest more fails → Sends piece (calls ++ more) fails

pub IsSending-first : (piece : List ℕ) (old : Option (List StreamCall)) (had : Option (List ℕ)) → IsSending piece piece old old had had
IsSending-first piece old had = record { calls = []; made = no_calls old; appends = Appends-nil had; goes_on = λ more fails sends. sends }

-- one call more
made_more :
    (calls more : List StreamCall) (old middle new : Option (List StreamCall)) → middle ≡ and_calls calls old → new ≡ and_calls more middle
    → new ≡ and_calls (calls ++ more) old
made_more calls more old middle new first second = second ∙ ap (and_calls more) first ∙ and_calls-append calls more old

appends_more :
    (calls more : List StreamCall) (had mid has : Option (List ℕ)) → Appends had mid (bytes_of calls) → Appends mid has (bytes_of more)
    → Appends had has (bytes_of (calls ++ more))
appends_more calls more had mid has first second =
    rw bytes_of-append (Appends-append (bytes_of calls) (bytes_of more) had mid has first second)

-- after a write that took some bytes
pub IsSending-write :
    (count : ℕ) (piece rest : List ℕ) (old middle new : Option (List StreamCall)) (had mid has : Option (List ℕ))
    → IsSending piece rest old middle had mid → SendsSome rest middle new (Ok count) → Appends mid has (take count rest)
    → IsSending piece (take (length rest - count) (drop count rest)) old new had has
IsSending-write count piece rest old middle new had mid has before wrote grew =
    let tail : take (length rest - count) (drop count rest) ≡ drop count rest = rw (← length-drop count rest) (take-length (drop count rest)) in
    rw tail (record {
      calls = before.calls ++ Wrote rest count ∷ [];
      made = made_more _ _ _ _ _ before.made wrote.2;
      appends = appends_more before.calls (Wrote rest count ∷ []) had mid has before.appends (rw append-nil grew);
      goes_on = λ more fails sends. rw append_assoc (before.goes_on (Wrote rest count ∷ more) fails (Takes rest count more fails wrote.0 wrote.1 sends));
    })

ends :
    (piece rest : List ℕ) (more : List StreamCall) (old middle new : Option (List StreamCall)) (had mid has : Option (List ℕ)) (r : Result (Unit {0}) Failed)
    → IsSending piece rest old middle had mid → new ≡ and_calls more middle → bytes_of more ≡ [] → Keeps mid has → Sends rest more (is_err r)
    → Sent piece old new had has r
ends piece rest more old middle new had mid has r before made nothing keeps sends = record {
  calls = before.calls ++ more;
  sends = before.goes_on more (is_err r) sends;
  made = made_more _ _ _ _ _ before.made made;
  appends = appends_more before.calls more had mid has before.appends (rw nothing (Keeps-appends mid has keeps));
}

module _ (piece rest : List ℕ) (old middle new : Option (List StreamCall)) (had mid has : Option (List ℕ)) where
  -- at a write that is a fault
  pub IsSending-fault :
      (e : Failed) (r : Result (Unit {0}) Failed) → IsErr r → 0 < length rest → IsSending piece rest old middle had mid → SendsSome rest middle new (Err e)
      → Keeps mid has → Sent piece old new had has r
  IsSending-fault e (Ok done) bad some before wrote keeps = cc
  IsSending-fault e (Err f) bad some before (inl none) keeps = ends _ _ _ _ _ _ _ _ _ _ before none refl keeps (TakesNone rest some)
  IsSending-fault e (Err f) bad some before (inr failed) keeps = ends _ _ _ _ _ _ _ _ _ _ before failed refl keeps (Fails rest some)

  -- at the flush
  pub IsSending-flushed :
      (done : Unit {0}) → length rest ≡ 0 → IsSending piece rest old middle had mid → new ≡ and_calls (Flushed ∷ []) middle → Keeps mid has
      → Sent piece old new had has (Ok done)
  IsSending-flushed done none before flushed keeps = ends _ _ _ _ _ _ _ _ _ _ before flushed refl keeps (nothing_left rest none)
    where
      nothing_left : (rest : List ℕ) → length rest ≡ 0 → Sends rest (Flushed ∷ []) false
      nothing_left [] none = Ends
      nothing_left (byte ∷ rest) none = absurd (omega (arith, none))

  pub IsSending-unflushed :
      (e : Failed) → length rest ≡ 0 → IsSending piece rest old middle had mid → new ≡ and_calls (FlushFailed ∷ []) middle → Keeps mid has
      → Sent piece old new had has (Err e)
  IsSending-unflushed e none before failed keeps = ends _ _ _ _ _ _ _ _ _ _ before failed refl keeps (nothing_left rest none)
    where
      nothing_left : (rest : List ℕ) → length rest ≡ 0 → Sends rest (FlushFailed ∷ []) true
      nothing_left [] none = EndFails
      nothing_left (byte ∷ rest) none = absurd (omega (arith, none))

-- ---- the bytes that were sent

-- those of calls that don't fail are the piece
sends_whole : (piece : List ℕ) (calls : List StreamCall) (fails : Bool) → Sends piece calls fails → fails ≡ false → bytes_of calls ≡ piece
sends_whole _ _ _ Ends is = refl
sends_whole _ _ _ EndFails is = absurd (cc)
sends_whole _ _ _ (Takes rest count calls fails some fits sends) is = rw (sends_whole (drop count rest) calls fails sends is) (take-append-drop count rest)
sends_whole _ _ _ (TakesNone rest some) is = absurd (cc)
sends_whole _ _ _ (Fails rest some) is = absurd (cc)

-- of any calls, a prefix of it
sends_part : (piece : List ℕ) (calls : List StreamCall) (fails : Bool) → Sends piece calls fails → (after : List ℕ) × (piece ≡ bytes_of calls ++ after)
sends_part _ _ _ Ends = ([], refl)
sends_part _ _ _ EndFails = ([], refl)
sends_part _ _ _ (Takes rest count calls fails some fits sends) =
    let tail : (after : List ℕ) × (drop count rest ≡ bytes_of calls ++ after) = sends_part (drop count rest) calls fails sends in
    (tail.0, sym (take-append-drop count rest) ∙ ap (λ bytes. take count rest ++ bytes) tail.1 ∙ sym (append_assoc (take count rest) (bytes_of calls) tail.0))
sends_part _ _ _ (TakesNone rest some) = (rest, refl)
sends_part _ _ _ (Fails rest some) = (rest, refl)

took_more : (calls : List StreamCall) (bytes : List ℕ) (old new : Option (List StreamCall)) (had has : Option (List ℕ)) → bytes_of calls ≡ bytes
    → new ≡ and_calls calls old → Appends had has (bytes_of calls) → Appends (took old had) (took new has) bytes
took_more calls bytes None new had has same made grew = rw (made, ← same) grew
took_more calls bytes (Some cs) new had has same made grew = rw (made, bytes_of-append cs calls, same) refl

module _ (piece : List ℕ) (old new : Option (List StreamCall)) (had has : Option (List ℕ)) where
  pub Sent-whole : (done : Unit {0}) → Sent piece old new had has (Ok done) → Appends (took old had) (took new has) piece
  Sent-whole done sent = took_more sent.calls piece old new had has (sends_whole piece sent.calls false sent.sends refl) sent.made sent.appends

  pub Sent-part :
      (r : Result (Unit {0}) Failed) → Sent piece old new had has r → (kept : ℕ) × Appends (took old had) (took new has) (take kept piece)
  Sent-part r sent =
      let part : (after : List ℕ) × (piece ≡ bytes_of sent.calls ++ after) = sends_part piece sent.calls (is_err r) sent.sends in
      let kept : take (length (bytes_of sent.calls)) piece ≡ bytes_of sent.calls = rw part.1 (take-append_seam (bytes_of sent.calls) part.0) in
      (length (bytes_of sent.calls), rw kept (took_more sent.calls (bytes_of sent.calls) old new had has refl sent.made sent.appends))

-- ---- what a put says

module _ (piece : List ℕ) (old new : Option (List StreamCall)) (had has : Option (List ℕ)) (faults faults' : ℕ) where
  pub put_whole :
      (r : Result (Unit {0}) Failed) → is_err r ≡ false → Sent piece old new had has r → faults' ≡ faults
      → PutAnswers piece (meaning_of (record { calls = old; contents = had; faults = faults }))
      (meaning_of (record { calls = new; contents = has; faults = faults' })) r
  put_whole (Ok done) fine sent same = record {
    gains = record { held = Sent-whole piece old new had has done sent; faults = same };
    calls = refl;
    unspent = λ spent. cc;
  }
  put_whole (Err e) fine sent same = absurd (cc)

  pub put_fails :
      (r : Result (Unit {0}) Failed) → is_err r ≡ true → 0 < length piece → Sent piece old new had has r → Rose faults faults'
      → PutAnswers piece (meaning_of (record { calls = old; contents = had; faults = faults }))
      (meaning_of (record { calls = new; contents = has; faults = faults' })) r
  put_fails (Ok done) bad some sent rose = absurd (cc)
  put_fails (Err e) bad some sent rose =
      let part : (kept : ℕ) × Appends (took old had) (took new has) (take kept piece) = Sent-part piece old new had has (Err e) sent in
      record {
        gains = record { kept = part.0; held = part.1; faults = rose };
        calls = refl;
        empty = λ none. absurd (not_empty piece some none);
        spent = λ spent. absurd (cc);
      }
    where
      not_empty : (bytes : List ℕ) → 0 < length bytes → bytes ≡ [] → ⊥
      not_empty [] some none = omega (arith, some)
      not_empty (byte ∷ bytes) some none = cc
