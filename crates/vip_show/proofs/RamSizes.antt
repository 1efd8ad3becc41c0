-- The bytes that are written are the file, since RAM keeps its size along a run.
use Rattle.std.proofs.Common.{◌≡◌, ℕ, zero, suc, ◌+◌, ◌-◌, ◌≤◌, Bool, true, false, List, ◌++◌, length, drop, replicate, slice_range, refl, ap, ◌∙◌, arith, length-append}
use Rattle.std.specs.Prelude.{◌&&◌, if◌then◌else◌, nat_lt, not, slice_set, Option, Some, None}
use Rattle.std.proofs.lemmas.List.{length-drop, length-replicate, length-set, take_all}
use Rattle.machine.specs.Board.{Machine, Case, case_of, moved_in, ram_after, start}
use Rattle.machine.specs.Board.Case.{Dma, Interrupt, Idle, Instruction}
use Rattle.machine.specs.Keys.{Keys, held_at}
use Rattle.machine.specs.Memory.{written as byte_written}
use Rattle.machine.specs.Run.{after_moves}
use Rattle.chip8_lang.specs.declared.view.Edition.{Edition}
use Rattle.chip8_lang.specs.declared.view.Edition.TheVariants.{Usual, Tall}
use Rattle.vip_relation.specs.Follows.{Fits, Follows}
use Rattle.vip_relation.specs.State.{Start, VipState, interpreter, machine_of}
use Rattle.vip_relation.specs.State.Start.{Reset, Saved}
use Rattle.vip_show.specs.Written.{file_of, head_of}

-- ---- the size of RAM

size_written : (latch : Bool) (ram : List ℕ) (a v : ℕ) → length (byte_written latch ram a v) ≡ length ram
unfolding byte_written
size_written latch ram a v = by_test (not latch && nat_lt a 0x1000)
  where
    by_test : (t : Bool) → length (if t then slice_set ram a v else ram) ≡ length ram
    by_test true = length-set ram a v
    by_test false = refl

size_after : (w : Option (ℕ × ℕ)) (latch : Bool) (ram : List ℕ) → length (ram_after w latch ram) ≡ length ram
size_after None latch ram = refl
size_after (Some w) latch ram = size_written latch ram w.0 w.1

size_moved : (k : Case) (rom : List ℕ) (held : ℕ → Keys) (b : Machine) → length (moved_in k rom held b).ram ≡ length b.ram
size_moved Dma rom held b = refl
size_moved Interrupt rom held b = refl
size_moved Idle rom held b = refl
size_moved Instruction rom held b = size_after _ b.latch b.ram

size_run : (rom : List ℕ) (held : ℕ → Keys) (b : Machine) (n : ℕ) → length (after_moves rom held b n).ram ≡ length b.ram
size_run rom held b zero = refl
size_run rom held b (suc n) =
    size_moved (case_of (after_moves rom held b n)) rom held (after_moves rom held b n) ∙ size_run rom held b n

size_game : (game : List ℕ) → length game ≤ 0xe00 → length (start game).ram ≡ 0x1000
size_game game small =
    let front : List ℕ = replicate 0x200 0 in
    let zeros : List ℕ = replicate 0x1000 0 in
    let low : length front ≡ 0x200 = length-replicate 0x200 zero in
    let high : length zeros ≡ 0x1000 = length-replicate 0x1000 zero in
    omega (
      arith,
      small,
      low,
      high,
      length-append (front ++ game) (drop (0x200 + length game) zeros),
      length-append front game,
      length-drop (0x200 + length game) zeros,
    )

size_start : (e : Edition) (s : Start) → Fits e s → length (machine_of s).ram ≡ 0x1000
size_start Usual (Reset game) fits = size_game game (omega (arith, fits.fits))
size_start Tall (Reset game) fits = size_game game (omega (arith, fits.fits))
size_start e (Saved file) fits = length-drop 51 file ∙ ap (λ n. n - 51) fits.accepted.size

pub ram-size : (v : VipState) → Follows v → length v.board.machine.ram ≡ 0x1000
ram-size v f =
    ap (λ (b : Machine). length b.ram) f.machine
    ∙ size_run (interpreter v).rom (held_at v.board.script) (machine_of v.start) v.moves
    ∙ size_start v.edition v.start f.fits

-- ---- the file

pub whole : (r : List ℕ) → length r ≡ 0x1000 → slice_range r 0 0x1000 ≡ r
whole r size = take_all 0x1000 r (omega (arith, size))

pub written : (e e' : Edition) (b b' : Machine) (ram l l' : List ℕ) → length b.ram ≡ 0x1000 → l' ≡ l ++ slice_range ram 0 0x1000 → l ≡ head_of e' b'
    → e' ≡ e → b' ≡ b → ram ≡ b'.ram → l' ≡ file_of e b
unfolding file_of
written e e' b b' ram l l' size hl' hl he hb hram =
    hl'
    ∙ ap (λ l. l ++ slice_range ram 0 0x1000) hl
    ∙ ap (λ r. head_of e' b' ++ slice_range r 0 0x1000) hram
    ∙ ap (λ e. head_of e b' ++ slice_range b'.ram 0 0x1000) he
    ∙ ap (λ (b : Machine). head_of e b ++ slice_range b.ram 0 0x1000) hb
    ∙ ap (λ r. head_of e b ++ r) (whole b.ram size)
