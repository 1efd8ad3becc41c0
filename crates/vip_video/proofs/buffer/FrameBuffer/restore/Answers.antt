use Rattle.std.proofs.Common.{◌≡◌, ◌≢◌, ◌⊎◌, inl, inr, ◌+◌, ◌-◌, ◌≤◌, ◌<◌, ℕ, List, ap, ◌∙◌, arith, length, take}
use Rattle.std.proofs.lemmas.List.{length-take}
use Rattle.vip_video.proofs.Lines.{blank-at}
use Rattle.vip_video.proofs.Room.{bytes_other, bytes_more}
use Rattle.vip_video.specs.Chip.{with_bytes}
use Rattle.vip_video.proofs.buffer.FrameBuffer.restore.Invariants.{Added}
use Rattle.vip_video.proofs.buffer.FrameBuffer.restore.Goals as goal

pub loop-line-init : goal.loop-line-init
loop-line-init c =
    rw c.new-buffer.ensures
    (record { later = λ k h. ap length (blank-at k); present = λ k h. omega (arith, ap length (blank-at k)); empty = λ k h. ap length (blank-at k) })

either : (k n : ℕ) → (k ≡ n) ⊎ (k ≢ n)
either k n = grind arith

-- a line with at most so many bytes, where it had none
module _ (lines : List (List ℕ)) (place column line most count : ℕ) (bytes : List ℕ) (a : Added lines place column line)
    (within : count ≤ most) (later : place < 80 + line → most ≡ 0) (present : place ≡ 80 + line → most ≤ column - 2) where
  few : length (take count bytes) ≤ most
  few = omega (arith, length-take count bytes, within)

  pub added : Added (with_bytes line (take count bytes) lines) place column (line + 1)
  added =
      record {
        later = λ k h. elim (either k line) [
          | inl e ↦ omega (arith, bytes_more line k (take count bytes) lines e, a.later k h, few, later (omega (arith, e, h)))
          | inr n ↦ bytes_other line k (take count bytes) lines n ∙ a.later k h
        ];
        present = λ k h. elim (either k line) [
          | inl e ↦ omega (arith, bytes_more line k (take count bytes) lines e, a.empty k (omega (arith, e)), few, present (omega (arith, e, h)))
          | inr n ↦ omega (arith, bytes_other line k (take count bytes) lines n, a.present k h)
        ];
        empty = λ k h. bytes_other line k (take count bytes) lines (λ e. omega (arith, e, h)) ∙ a.empty k (omega (arith, h));
      }

pub loop-line-preserved : goal.loop-line-preserved
loop-line-preserved c =
    rw c.begin.ensures
    (added c.loop-line.buffer c.args.place.now.line c.args.place.now.column c.loop-line.line c.most_bytes.result c.min-count.result _
    c.loop-line.invariant (omega (arith, c.min-count.ensures)) c.most_bytes.ensures.later c.most_bytes.ensures.present)
