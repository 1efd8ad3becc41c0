-- The frames whose windows have ended, and what the video chip has of their pictures.
use Rattle.std.proofs.Common.{◌≡◌, ◌⊎◌, inl, inr, ℕ, zero, suc, ◌+◌, ◌<◌, ◌≤◌, Bool, true, false, cond, List, ◌∷◌, length, refl, ap, ◌∙◌, arith}
use Rattle.std.specs.Prelude.{◌&&◌, nat_le, slice_get}
use Rattle.std.specs.Option.{option_map}
use Rattle.std.proofs.lemmas.Bool.{le-leb, leb-true, leb-false}
use Rattle.machine.specs.Board.{Machine}
use Rattle.machine.specs.Pictures.{interrupt_at, window_end, windows_ended, picture_of, is_shown}
use Rattle.machine.proofs.Counts.{windows}
use Rattle.vip_board.specs.Shown.{HasPictures, shown_frames, shown_since}
use Rattle.vip_video.specs.Chip.{Pictures}

-- the window of a frame among the first so many has ended
pub ended : (m t : ℕ) → m < windows_ended t → window_end m ≤ t
ended m t h = omega (arith, h, windows t)

-- one window at most ends from a cycle to the next three
pub window-more : (c c' : ℕ) → c ≤ c' → c' ≤ c + 3 → (windows_ended c' ≡ windows_ended c) ⊎ (windows_ended c' ≡ suc (windows_ended c))
window-more c c' le soon = by_test (nat_le (windows_ended c') (windows_ended c)) refl
  where
    by_test : (t : Bool) → nat_le (windows_ended c') (windows_ended c) ≡ t → (windows_ended c' ≡ windows_ended c) ⊎ (windows_ended c' ≡ suc (windows_ended c))
    by_test true h =
        let low : windows_ended c' ≤ windows_ended c = leb-true (windows_ended c') (windows_ended c) h in
        inl (omega (arith, low, windows c, windows c', le))
    by_test false h =
        let high : windows_ended c < windows_ended c' = leb-false (windows_ended c') (windows_ended c) h in
        inr (omega (arith, high, windows c, windows c', soon))

-- the frames that are shown, by two tests that agree
pub shown-same : (p q : ℕ → Bool) (w : ℕ) → ((m : ℕ) → m < w → p m ≡ q m) → shown_frames p w ≡ shown_frames q w
shown-same p q zero h = refl
shown-same p q (suc w) h =
    ap (λ keep. cond keep (w ∷ shown_frames p w) (shown_frames p w)) (h w (omega arith))
    ∙ ap (λ others. cond (q w) (w ∷ others) others) (shown-same p q w (λ m l. h m (omega (arith, l))))

-- since reset every frame counts
since_reset : (rom : List ℕ) (run : List Machine) → shown_since 0 rom run ≡ is_shown rom run
since_reset rom run = λ i m. all_late (interrupt_at m) i && is_shown rom run m
  where
    all_late : (t : ℕ) → nat_le 0 t ≡ true
    all_late t = le-leb 0 t (omega arith)

module _ (rom : List ℕ) (run : List Machine) (cycle : ℕ) (p : Pictures) (shows : HasPictures rom run cycle p) where
  pub counted : p.count ≡ length (shown_frames (is_shown rom run) (windows_ended cycle))
  counted = shows.count ∙ ap (λ shown. length (shown_frames shown (windows_ended cycle))) (since_reset rom run)

  pub last-finished : p.finished ≡ option_map (picture_of rom run) (slice_get (shown_frames (is_shown rom run) (windows_ended cycle)) 0)
  last-finished = shows.finished ∙ ap (λ shown. option_map (picture_of rom run) (slice_get (shown_frames shown (windows_ended cycle)) 0)) (since_reset rom run)
