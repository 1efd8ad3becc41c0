-- RAM with a message, at the places that SENDER reads.
use Rattle.std.proofs.Common.{◌≡◌, ℕ, ◌+◌, ◌-◌, ◌/◌, ◌%◌, ◌<◌, ◌∙◌, ap, arith, List, [], ◌∷◌, ◌++◌, length, drop, replicate, slice_index}
use Rattle.std.proofs.lemmas.List.{length-append, length-replicate, get_or_append_left, get_or-append_right}
use Rattle.vip_link.specs.Laws.{message_ram}

-- behind 510 bytes lie the two of the length, and behind these the message
module _ (front : List ℕ) (h l : ℕ) (message back : List ℕ) (long : length front ≡ 0x1fe) where
  abbrev head : List ℕ
  head = front ++ (h ∷ l ∷ [])

  abbrev whole : List ℕ
  whole = head ++ message ++ back

  head_long : length head ≡ 0x200
  head_long = length-append front (h ∷ l ∷ []) ∙ ap (λ n. n + 2) long

  in_head : (i : ℕ) → i < 0x200 → slice_index whole i ≡ slice_index head i
  in_head i k =
      get_or_append_left (head ++ message) back 0 i (omega (arith, length-append head message, head_long))
      ∙ get_or_append_left head message 0 i (omega (arith, head_long))

  high_there : slice_index whole 0x1fe ≡ h
  high_there = in_head 0x1fe (omega arith) ∙ get_or-append_right front (h ∷ l ∷ []) 0x1fe 0x1fe 0 long (omega arith)

  low_there : slice_index whole 0x1ff ≡ l
  low_there = in_head 0x1ff (omega arith) ∙ get_or-append_right front (h ∷ l ∷ []) 0x1fe 0x1ff 0 long (omega arith)

  message_there : (k : ℕ) → k < length message → slice_index whole (0x200 + k) ≡ slice_index message k
  message_there k less =
      get_or_append_left (head ++ message) back 0 (0x200 + k) (omega (arith, length-append head message, head_long))
      ∙ get_or-append_right head message 0x200 (0x200 + k) 0 head_long (omega arith)
      ∙ ap (slice_index message) same
    where
      same : 0x200 + k - 0x200 ≡ k
      same = omega arith

module _ (message : List ℕ) where
  abbrev behind : List ℕ
  behind = drop (0x200 + length message) (replicate 0x1000 0)

  abbrev front : List ℕ
  front = replicate 0x1fe 0

  front_long : length front ≡ 0x1fe
  front_long = length-replicate {A = ℕ} 0x1fe 0

  pub high_is : slice_index (message_ram message) 0x1fe ≡ length message / 256
  high_is = high_there front (length message / 256) (length message % 256) message behind front_long

  pub low_is : slice_index (message_ram message) 0x1ff ≡ length message % 256
  low_is = low_there front (length message / 256) (length message % 256) message behind front_long

  pub byte_of : (k : ℕ) → k < length message → slice_index (message_ram message) (0x200 + k) ≡ slice_index message k
  byte_of = message_there front (length message / 256) (length message % 256) message behind front_long
