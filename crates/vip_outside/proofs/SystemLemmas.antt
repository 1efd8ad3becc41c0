-- A file on its way from a system.
use Rattle.std.proofs.Common.{◌⊎◌, inl, inr, ◌-◌, min, nat_lt, Result, Ok, Err, IsErrAnd, subst, sym, length-append, append-nil, ◌≡◌, ◌≢◌, ℕ, zero, suc, ◌+◌, ◌<◌, ◌≤◌, List, [], ◌∷◌, ◌++◌, length, take, Option, Some, None, option_map, refl, ap, ◌∙◌, arith}
use Rattle.std.proofs.Math.Seq.{take-append-add}
use Rattle.std.proofs.lemmas.List.{take-append-le, take-take, length-take-le}
use Rattle.std.proofs.lemmas.Bool.{le-ltb, lt-ltb}
use Rattle.vip_outside.specs.Files.{Answer, Read, and_read}
use Rattle.vip_outside.specs.Files.Answer.{Whole, Start, Faulted}
use Rattle.vip_outside.specs.Files.{Gives}
use Rattle.vip_outside.specs.RealFiles.{IsNotAbsent, SystemAnswers}
use Rattle.vip_outside.specs.declared.files.Loaded.{Loaded}
use Rattle.vip_outside.specs.declared.files.ReadFail.{ReadFail}
use Rattle.vip_outside.specs.declared.files.ReadFail.TheVariants.{Absent, Failed, NoMemory}
use Rattle.vip_outside.specs.System.{got, on_last}

on_last-snoc : (change : Answer → Answer) (reads : List Read) (r : Read)
    → on_last change (reads ++ r ∷ []) ≡ reads ++ record r { answer = change r.answer } ∷ []
on_last-snoc change [] r = refl
on_last-snoc change (x ∷ []) r = refl
on_last-snoc change (x ∷ y ∷ reads) r = ap (λ rs. x ∷ rs) (on_last-snoc change (y ∷ reads) r)

-- what comes to the last read
pub changed : (change : Answer → Answer) (name : List ℕ) (answer : Answer) (old middle new : Option (List Read)) → middle ≡ and_read name answer old
    → new ≡ option_map (on_last change) middle → new ≡ and_read name (change answer) old
changed change name answer old middle new before after = after ∙ ap (option_map (on_last change)) before ∙ on_known old
  where
    on_known : (known : Option (List Read)) → option_map (on_last change) (and_read name answer known) ≡ and_read name (change answer) known
    on_known None = refl
    on_known (Some reads) = ap (λ rs. Some rs) (on_last-snoc change reads (record { name = name; answer = answer }))

module _ (name : List ℕ) (most : ℕ) (old new : Option (List Read)) where
  -- a fault of the system, and want of memory
  pub failed :
      (fail : ReadFail) (r : Result Loaded ReadFail) → IsErrAnd r (λ e. e ≡ fail) → IsNotAbsent fail → new ≡ and_read name Faulted old
      → SystemAnswers name most old new r
  failed fail (Ok loaded) is there same = absurd is
  failed Absent (Err e) is there same = absurd there
  failed Failed (Err e) is there same = subst (λ f. SystemAnswers name most old new (Err f)) (sym is) same
  failed NoMemory (Err e) is there same = subst (λ f. SystemAnswers name most old new (Err f)) (sym is) (Faulted, same)

  pub wanting :
      (answer : Answer) (r : Result Loaded ReadFail) → IsErrAnd r (λ e. e ≡ NoMemory) → new ≡ and_read name answer old → SystemAnswers name most old new r
  wanting answer (Ok loaded) is same = absurd is
  wanting answer (Err e) is same = subst (λ f. SystemAnswers name most old new (Err f)) (sym is) (answer, same)

-- ---- so many bytes of a block came

module _ (bytes block rest : List ℕ) (most room count : ℕ) (room_is : room ≡ most - length bytes) (fits : length bytes ≤ most) (given : count ≤ length block) where
  -- it ended, or one byte more than asked for came
  pub ended :
      (name : List ℕ) (old new : Option (List Read)) (loaded : Loaded) → (count ≡ 0) ⊎ ((count ≢ 0) × (room < count)) → count ≤ room + 1
      → loaded.bytes.items ≡ bytes ++ take (min count room) (block ++ rest) → loaded.more ≡ nat_lt room count → new ≡ and_read name (got count block (Start bytes)) old
      → (answer : Answer) × Gives most loaded answer × (new ≡ and_read name answer old)
  ended name old new loaded (inl none) few items more log =
      let nothing : min count room ≡ 0 = omega (arith, none) in (
        Whole bytes,
        (fits, items ∙ ap (λ n. bytes ++ take n (block ++ rest)) nothing ∙ append-nil bytes, more ∙ ap (nat_lt room) none ∙ le-ltb room 0 (omega arith)),
        log ∙ ap (λ n. and_read name (got n block (Start bytes)) old) none,
      )
  ended name old new loaded (inr over) few items more log =
      let all : count ≡ suc room = omega (arith, over.1, few) in
      let kept : min count room ≡ room = omega (arith, over.1) in
      let start : List ℕ = bytes ++ take (suc room) block in
      let shorter : take room (take (suc room) block) ≡ take room block = take-take room (suc room) block (omega arith) in
      let same : bytes ++ take room (block ++ rest) ≡ take most start =
      ap (λ tail. bytes ++ tail) (take-append-le room block rest (omega (arith, given, all)) ∙ sym shorter)
      ∙ sym (take-append-add bytes (take (suc room) block) room)
      ∙ ap (λ n. take n start) (omega (arith, room_is, fits)) in (
        Start start,
        (
          rw (length-append, length-take-le (suc room) block (omega (arith, given, all))) (omega (arith, room_is, fits)),
          items ∙ ap (λ n. bytes ++ take n (block ++ rest)) kept ∙ same,
          more ∙ ap (nat_lt room) all ∙ lt-ltb room (suc room) (omega arith),
        ),
        log ∙ ap (λ n. and_read name (got n block (Start bytes)) old) all,
      )

  -- some bytes came, and there is room for more
  pub more_came :
      (name : List ℕ) (old new : Option (List Read)) (bytes' : List ℕ) → count ≢ 0 → count ≤ room
      → bytes' ≡ bytes ++ take (min count room) (block ++ rest) → new ≡ and_read name (got count block (Start bytes)) old
      → new ≡ and_read name (Start bytes') old
  more_came name old new bytes' some few items log =
      let fits_in : min count room ≡ count = omega (arith, few) in
      let same : bytes' ≡ bytes ++ take count block =
      items ∙ ap (λ n. bytes ++ take n (block ++ rest)) fits_in ∙ ap (λ tail. bytes ++ tail) (take-append-le count block rest given) in
      log ∙ got_some count some ∙ ap (λ xs. and_read name (Start xs) old) (sym same)
    where
      got_some : (n : ℕ) → n ≢ 0 → and_read name (got n block (Start bytes)) old ≡ and_read name (Start (bytes ++ take n block)) old
      got_some zero some = absurd (some refl)
      got_some (suc n) some = refl
