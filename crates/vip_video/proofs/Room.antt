-- In each cycle there is room for the byte of its DMA cycle.
use Rattle.std.proofs.Common.{◌≡◌, ◌≢◌, ◌⊎◌, inl, inr, ◌+◌, ◌-◌, ◌%◌, ◌<◌, ◌≤◌, ℕ, zero, suc, Bool, true, false, cond, List, [], ◌∷◌, ◌++◌, length, get_or, set, ap, subst, ◌∙◌, refl, arith, get_or-set_other, length-append}
use Rattle.std.specs.Prelude.{Option, Some, None, ◌&&◌, IsSome}
use Rattle.std.proofs.lemmas.Bool.Decides.{nat_tests}
use Rattle.machine.specs.Signals.{line_cycles, window_line, window_end_line, line_of, dma_at}
use Rattle.machine.specs.Pictures.{frame}
use Rattle.vip_video.specs.Chip.{Pictures, blank, begins_frame, follows_window, with_bytes, with_byte, drawn, passed, framed, finished}
use Rattle.vip_video.specs.Kept.{HasRoom}
use Rattle.vip_video.proofs.Lines.{blank-at}

-- where DMA is wanted
pub record IsDmaPlace (t : ℕ) : Type 0 where
  pub from : window_line ≤ line_of t
  pub to : line_of t < window_end_line
  pub column : 2 ≤ t % line_cycles
  pub before : t % line_cycles < 10

pub dma-place : (t : ℕ) (on : Bool) → dma_at t on ≡ true → IsDmaPlace t
dma-place t on h =
    record {
      from = grind (arith, nat_tests, h);
      to = grind (arith, nat_tests, h);
      column = grind (arith, nat_tests, h);
      before = grind (arith, nat_tests, h);
    }

same_or_not : (k n : ℕ) → (k ≡ n) ⊎ (k ≢ n)
same_or_not k n = grind arith

at-set : (lines : List (List ℕ)) (k : ℕ) (x : List ℕ) → length (get_or (set lines k x) k []) ≤ length x
at-set [] k x = omega arith
at-set (l ∷ lines) zero x = omega arith
at-set (l ∷ lines) (suc k) x = at-set lines k x

-- the number of bytes of line k
abbrev count : List (List ℕ) → ℕ → ℕ
count lines k = length (get_or lines k [])

-- the lines after cycle t with its byte
abbrev after : ℕ → Option ℕ → List (List ℕ) → List (List ℕ)
after t byte lines = with_byte (line_of t - window_line) byte lines

pub bytes_other : (line k : ℕ) (bs : List ℕ) (lines : List (List ℕ)) → k ≢ line → count (with_bytes line bs lines) k ≡ count lines k
bytes_other line k bs lines h = ap length (get_or-set_other lines line k (get_or lines line [] ++ bs) [] h)

pub bytes_more : (line k : ℕ) (bs : List ℕ) (lines : List (List ℕ)) → k ≡ line → count (with_bytes line bs lines) k ≤ count lines k + length bs
bytes_more line k bs lines e =
    let P : ℕ → Type 0 = λ n. count (with_bytes n bs lines) k ≤ count lines k + length bs in
    subst P e (omega (arith, at-set lines k (get_or lines k [] ++ bs), length-append (get_or lines k []) bs))

-- cycle t + 1 lies in the same line as t, or in the next one of the frame
module _ (t : ℕ) (lines : List (List ℕ)) (r : HasRoom t lines) (on : line_of t ≤ line_of (t + 1)) where
  later_after : (byte : Option ℕ) → (IsSome byte → IsDmaPlace t) → (k : ℕ) → line_of (t + 1) < window_line + k → count (after t byte lines) k ≡ 0
  later_after None w k l = r.later k (omega arith)
  later_after (Some b) w k l =
      let f = w refl in
      bytes_other (line_of t - window_line) k (b ∷ []) lines (λ e. omega (arith, f.from)) ∙ r.later k (omega arith)

  present_after : (byte : Option ℕ) → (IsSome byte → IsDmaPlace t) → (k : ℕ) → line_of (t + 1) ≡ window_line + k
      → count (after t byte lines) k ≤ (t + 1) % line_cycles - 2
  present_after None w k e =
      elim (same_or_not (line_of t) (window_line + k)) [ inl s ↦ omega (arith, r.present k s) | inr n ↦ omega (arith, r.later k (omega arith)) ]
  present_after (Some b) w k e =
      let f = w refl in
      elim (same_or_not (line_of t) (window_line + k)) [
        | inl s ↦ omega (arith, r.present k s, bytes_more (line_of t - window_line) k (b ∷ []) lines (omega arith), f.column)
        | inr n ↦ omega (arith, r.later k (omega arith), bytes_other (line_of t - window_line) k (b ∷ []) lines (λ q. omega (arith, f.from)))
      ]

pub room-drawn : (t : ℕ) (on : Bool) (byte : Option ℕ) (p : Pictures) → HasRoom t p.lines → (IsSome byte → IsDmaPlace t) → line_of t ≤ line_of (t + 1)
    → HasRoom (t + 1) (drawn t on byte p).lines
room-drawn t on byte p r w h =
    record { later = later_after t p.lines r h byte w; present = present_after t p.lines r h byte w }

pub room-blank : (t : ℕ) → HasRoom t blank
room-blank t =
    record { later = λ k h. ap length (blank-at k); present = λ k h. omega (arith, ap length (blank-at k)) }

-- ---- the start of a cycle

either : (b : Bool) → (b ≡ true) ⊎ (b ≡ false)
either true = inl refl
either false = inr refl

picked : (b : Bool) (x y : Pictures) → x.lines ≡ y.lines → (cond b x y).lines ≡ y.lines
picked true x y e = e
picked false x y e = refl

passed-lines : (t : ℕ) (p : Pictures) → begins_frame t ≡ false → (passed t p).lines ≡ p.lines
passed-lines t p h = rw h (picked (follows_window t && p.shown) (finished p) p refl)

passed-blank : (t : ℕ) (p : Pictures) → begins_frame t ≡ true → (passed t p).lines ≡ blank
passed-blank t p h = rw h

-- no frame begins
within_frame : (t : ℕ) → begins_frame (t + 1) ≡ false → line_of t ≤ line_of (t + 1)
within_frame t h = let no : (t + 1) % frame ≢ 0 = grind (arith, nat_tests, h) in omega arith

pub room-passed : (t : ℕ) (on : Bool) (byte : Option ℕ) (p : Pictures) → HasRoom t p.lines → (IsSome byte → IsDmaPlace t)
    → HasRoom (t + 1) (passed (t + 1) (drawn t on byte p)).lines
room-passed t on byte p r w =
    elim (either (begins_frame (t + 1))) [
      | inl b ↦ rw (passed-blank (t + 1) (drawn t on byte p) b) (room-blank (t + 1))
      | inr b ↦ rw (passed-lines (t + 1) (drawn t on byte p) b) (room-drawn t on byte p r w (within_frame t b))
    ]

counted : (a b : Bool) (p : Pictures) → (cond a (framed p) (cond b (finished p) p)).count ≤ p.count + 1
counted true b p = omega arith
counted false true p = omega arith
counted false false p = omega arith

pub passed-count : (t : ℕ) (p : Pictures) → (passed t p).count ≤ p.count + 1
passed-count t p = counted (begins_frame t) (follows_window t && p.shown) p
