-- A move of the board keeps that its video chip has the pictures of the moves made so far.
use Rattle.std.proofs.Common.{◌≡◌, ◌≢◌, ◌+◌, ◌-◌, ◌*◌, ◌/◌, ◌%◌, ◌≤◌, ℕ, zero, suc, Bool, true, false, not, cond, List, [], ◌∷◌, ◌++◌, length, map, filter, ap, subst, sym, ◌∙◌, refl, arith, append-nil, eq-eqb}
use Rattle.std.proofs.Math.Bool.{◌&&◌, ◌||◌}
use Rattle.std.specs.Prelude.{Option, Some, None, IsSome, nat_lt, nat_le, slice_get, if◌then◌else◌, ◌==◌}
use Rattle.std.specs.List.{list_all}
use Rattle.std.specs.Option.{option_map, option_to_list}
use Rattle.std.proofs.lemmas.Bool.Decides.{nat_tests}
use Rattle.std.proofs.lemmas.Bool.{le-leb, lt-leb, ne_eqb}
use Rattle.std.proofs.lemmas.List.{map-append}
use Rattle.std.proofs.lemmas.List.Elements.{filter-append}
use Rattle.std.proofs.lemmas.List.Folds.{list_all-append}
use Rattle.machine.specs.Signals.{line_cycles, frame_lines, interrupt_line, window_line, window_lines, dma_at, int_at}
use Rattle.machine.specs.Opcodes.{cycles_of}
use Rattle.machine.specs.Board.{Machine, Case, case_of, dma_byte, length_in, length_of, opcode_of}
use Rattle.machine.specs.Board.Case.{Dma, Interrupt, Idle, Instruction}
use Rattle.machine.specs.Pictures.{frame, interrupt_at, window_end, windows_ended, filled, is_dma, is_dma_in, lines_from, picture_of, is_within, is_shown}
use Rattle.machine.proofs.Counts.{windows}
use Rattle.machine.proofs.Runs.{cycle-move}
use Rattle.vip_video.specs.Chip.{Pictures, nothing_before, scanned}
use Rattle.vip_video.proofs.Room.{IsDmaPlace, dma-place}
use Rattle.vip_board.specs.Moves.{moved, pictures_after, scanned_over, bus_byte_in}
use Rattle.vip_board.specs.Seen.{Seen, held_by}
use Rattle.vip_board.specs.Shown.{dma_bytes, bytes_from, window_bytes, shown_frames, shown_since, HasPicturesSince, CarriesOn}
use Rattle.vip_board.proofs.Drawn.{picture, Drawn, Next, covers, after-cycle}

-- ---- pictures by the bytes of their lines

lines-filled : (rom : List ℕ) (run : List Machine) (line n : ℕ) → lines_from rom run line n ≡ map filled (bytes_from (dma_bytes rom run) line n)
lines-filled rom run line zero = refl
lines-filled rom run line (suc n) = ap (λ l. filled (dma_bytes rom run line) ∷ l) (lines-filled rom run (line + 1) n)

picture-is : (rom : List ℕ) (run : List Machine) (m : ℕ) → picture_of rom run m ≡ picture (dma_bytes rom run) m
unfolding picture_of window_bytes
picture-is rom run m = lines-filled rom run (frame_lines * m + window_line) window_lines

last-is : (rom : List ℕ) (run : List Machine) (o : Option ℕ) → option_map (picture_of rom run) o ≡ option_map (picture (dma_bytes rom run)) o
last-is rom run None = refl
last-is rom run (Some m) = ap Some (picture-is rom run m)

to-drawn : (from : ℕ) (rom : List ℕ) (run : List Machine) (t : ℕ) (p : Pictures) → HasPicturesSince from rom run t p
    → Drawn (shown_since from rom run) (dma_bytes rom run) t p
to-drawn from rom run t p s =
    record {
      present = s.shown;
      lines = s.lines;
      count = s.count;
      finished = s.finished ∙ last-is rom run _;
      later_frames = s.later_frames;
      later_lines = s.later_lines;
    }

frames-same : (shown shown' : ℕ → Bool) → ((m : ℕ) → shown' m ≡ shown m) → (n : ℕ) → shown_frames shown' n ≡ shown_frames shown n
frames-same shown shown' h zero = refl
frames-same shown shown' h (suc n) =
    ap (λ b. cond b (n ∷ shown_frames shown' n) (shown_frames shown' n)) (h n)
    ∙ ap (λ l. cond (shown n) (n ∷ l) l) (frames-same shown shown' h n)

from-drawn : (from : ℕ) (rom : List ℕ) (run : List Machine) (shown : ℕ → Bool) (t : ℕ) (p : Pictures)
    → ((m : ℕ) → shown_since from rom run m ≡ shown m) → Drawn shown (dma_bytes rom run) t p → HasPicturesSince from rom run t p
from-drawn from rom run shown t p h d =
    let same = frames-same shown (shown_since from rom run) h (windows_ended t) in
    record {
      shown = d.present ∙ sym (h (t / frame));
      lines = d.lines;
      count = d.count ∙ ap length (sym same);
      finished = d.finished ∙ ap (λ l. option_map (picture (dma_bytes rom run)) (slice_get l 0)) (sym same) ∙ sym (last-is rom run _);
      later_frames = λ m l. h m ∙ d.later_frames m l;
      later_lines = d.later_lines;
    }

-- ---- the cycles of a move

pub case-is : (x y z : Bool) → (if x then Dma else if y then Interrupt else if z then Idle else Instruction) ≡ Dma → x ≡ true
case-is true y z h = refl
case-is false true z h = cc
case-is false false true h = cc
case-is false false false h = cc

by_byte : (k : Case) (rom : List ℕ) (b : Machine) → IsSome (bus_byte_in k rom b) → k ≡ Dma
by_byte Dma rom b h = refl
by_byte Interrupt rom b h = cc
by_byte Idle rom b h = cc
by_byte Instruction rom b h = cc

grown : (x on w c v : Bool) → v ≡ (w || c) → (x && (on || not v)) ≡ (x && (on || not w) && (on || not c))
grown true true w c v h = refl
grown true false true c v h = rw h
grown true false false c v h = rw h
grown false on w c v h = refl

and-true : (x : Bool) → (x && true) ≡ x
and-true true = refl
and-true false = refl

and-and : (x y z : Bool) → (x && (y && z)) ≡ ((x && y) && z)
and-and true y z = refl
and-and false y z = refl

differs : {a b : ℕ} → a ≢ b → (b == a) ≡ false
differs n = ne_eqb _ _ (λ e. n (sym e))

module _ (from : ℕ) (rom : List ℕ) (run : List Machine) (b : Machine) where
  -- the first j cycles of the move have a cycle in the window of frame m
  abbrev within : ℕ → ℕ → Bool
  within j m = nat_lt b.cycle (window_end m) && nat_lt (interrupt_at m) (b.cycle + j)

  abbrev shown_after : ℕ → ℕ → Bool
  shown_after j m = shown_since from rom run m && (b.on || not (within j m))

  abbrev bytes_after : ℕ → List ℕ
  bytes_after = dma_bytes rom (run ++ b ∷ [])

  within-more : (j m u : ℕ) → u ≡ b.cycle + j → 1 ≤ j → within (j + 1) m ≡ (within j m || covers m u)
  within-more j m u e h = grind (arith, nat_tests)

  shown-more : (j m u : ℕ) → u ≡ b.cycle + j → 1 ≤ j → shown_after (j + 1) m ≡ (shown_after j m && (b.on || not (covers m u)))
  shown-more j m u e h = grown (shown_since from rom run m) b.on (within j m) (covers m u) (within (j + 1) m) (within-more j m u e h)

  -- the whole move
  list_all-one : (p : Machine → Bool) → list_all p (run ++ b ∷ []) ≡ (list_all p run && p b)
  list_all-one p = list_all-append p run (b ∷ []) ∙ ap (λ x. list_all p run && x) (and-true (p b))

  shown-whole : (m : ℕ) → shown_since from rom (run ++ b ∷ []) m ≡ shown_after (length_of rom b) m
  unfolding is_shown
  shown-whole m =
      ap (λ x. nat_le from (interrupt_at m) && x) (list_all-one (λ s. s.on || not (is_within rom run m s)))
      ∙ and-and (nat_le from (interrupt_at m)) (is_shown rom run m) (b.on || not (within (length_of rom b) m))

  -- the bytes of a line after the move
  bytes-one : (line : ℕ) → bytes_after line ≡ dma_bytes rom run line ++ map (dma_byte rom) (filter (is_dma_in line) (b ∷ []))
  bytes-one line =
      ap (map (dma_byte rom)) (filter-append (is_dma_in line) run (b ∷ []))
      ∙ map-append (dma_byte rom) (filter (is_dma_in line) run) (filter (is_dma_in line) (b ∷ []))

  own : (k : Case) (here : Bool) → here ≡ true → map (dma_byte rom) (cond (is_dma k && here) (b ∷ []) []) ≡ option_to_list (bus_byte_in k rom b)
  own Dma here h = rw h
  own Interrupt here h = refl
  own Idle here h = refl
  own Instruction here h = refl

  other : (k here : Bool) → here ≡ false → map (dma_byte rom) (cond (k && here) (b ∷ []) []) ≡ []
  other true here h = rw h
  other false here h = refl

  byte-here : bytes_after (b.cycle / line_cycles) ≡ dma_bytes rom run (b.cycle / line_cycles) ++ option_to_list (bus_byte_in (case_of b) rom b)
  byte-here =
      bytes-one (b.cycle / line_cycles)
      ∙ ap (λ l. dma_bytes rom run (b.cycle / line_cycles) ++ l)
      (own (case_of b) (b.cycle / line_cycles == b.cycle / line_cycles) (eq-eqb (b.cycle / line_cycles) (b.cycle / line_cycles) refl))

  byte-elsewhere : (line : ℕ) → line ≢ b.cycle / line_cycles → bytes_after line ≡ dma_bytes rom run line
  byte-elsewhere line n =
      bytes-one line
      ∙ ap (λ l. dma_bytes rom run line ++ l) (other (is_dma (case_of b)) (b.cycle / line_cycles == line) (differs n))
      ∙ append-nil (dma_bytes rom run line)

  place : IsSome (bus_byte_in (case_of b) rom b) → IsDmaPlace b.cycle
  place h =
      dma-place b.cycle b.on (case-is (dma_at b.cycle b.on) (b.regs.ie && int_at b.cycle b.on) b.regs.idle (by_byte (case_of b) rom b h))

  first : Next (shown_since from rom run) (dma_bytes rom run) b.cycle b.on (bus_byte_in (case_of b) rom b) (shown_after 1) bytes_after
  first =
      record {
        frames = λ m. refl;
        here = byte-here;
        elsewhere = byte-elsewhere;
        from = λ h. (place h).from;
        to = λ h. (place h).to;
      }

  later : (j u : ℕ) → u ≡ b.cycle + j → 1 ≤ j → Next (shown_after j) bytes_after u b.on None (shown_after (j + 1)) bytes_after
  later j u e h =
      record {
        frames = λ m. shown-more j m u e h;
        here = sym (append-nil (bytes_after (u / line_cycles)));
        elsewhere = λ line n. refl;
        from = λ s. cc;
        to = λ s. cc;
      }

  -- n cycles more after the first j
  others : (n j u e v : ℕ) (p : Pictures) → u ≡ b.cycle + j → 1 ≤ j → e ≡ j + n → v ≡ u + n → Drawn (shown_after j) bytes_after u p
      → Drawn (shown_after e) bytes_after v (scanned_over n u b.on None p)
  others zero j u e v p i h f g d =
      let J : ℕ → Type 0 = λ x. Drawn (shown_after x) bytes_after v p in
      let U : ℕ → Type 0 = λ x. Drawn (shown_after j) bytes_after x p in
      let ej : j ≡ e = omega arith in
      let uv : u ≡ v = omega arith in
      subst J ej (subst U uv d)
  others (suc n) j u e v p i h f g d =
      others n (j + 1) (u + 1) e v (scanned u b.on None p) (omega arith) (omega arith) (omega arith) (omega arith)
      (after-cycle (shown_after j) bytes_after u b.on None (shown_after (j + 1)) bytes_after p d (later j u i h))

  some_cycles : (byte : ℕ) → 1 ≤ cycles_of byte
  some_cycles byte = grind arith

  some_length : (k : Case) → 1 ≤ length_in k rom b
  some_length Instruction = some_cycles (opcode_of rom b)
  some_length Dma = omega arith
  some_length Interrupt = omega arith
  some_length Idle = omega arith

  whole : (n k : ℕ) (p : Pictures) → n ≡ suc k → HasPicturesSince from rom run b.cycle p
      → Drawn (shown_after n) bytes_after (b.cycle + n) (scanned_over n b.cycle b.on (bus_byte_in (case_of b) rom b) p)
  whole n k p e s =
      let N : ℕ → Type 0 = λ x. Drawn (shown_after x) bytes_after (b.cycle + x) (scanned_over x b.cycle b.on (bus_byte_in (case_of b) rom b) p) in
      subst N (sym e)
      (others k 1 (b.cycle + 1) (suc k) (b.cycle + suc k) (scanned b.cycle b.on (bus_byte_in (case_of b) rom b) p) refl (omega arith) (omega arith)
      (omega arith)
      (after-cycle (shown_since from rom run) (dma_bytes rom run) b.cycle b.on (bus_byte_in (case_of b) rom b) (shown_after 1) bytes_after p
      (to-drawn from rom run b.cycle p s) first))

  pub shows-move : (p : Pictures) → HasPicturesSince from rom run b.cycle p → HasPicturesSince from rom (run ++ b ∷ []) (b.cycle + length_of rom b) (pictures_after rom b p)
  unfolding pictures_after
  shows-move p s =
      let one : 1 ≤ length_of rom b = some_length (case_of b) in
      from-drawn from rom (run ++ b ∷ []) (shown_after (length_of rom b)) (b.cycle + length_of rom b) _ shown-whole
      (whole (length_of rom b) (length_of rom b - 1) p (omega arith) s)

-- ---- before the first move

-- no frame whose window has ended by then is shown
none-shown : (rom : List ℕ) (t n : ℕ) → n ≤ windows_ended t → shown_frames (shown_since t rom []) n ≡ []
unfolding is_shown
none-shown rom t zero h = refl
none-shown rom t (suc n) h =
    rw (lt-leb t (interrupt_at n) (omega (arith, windows t)), none-shown rom t n (omega arith))

-- the interrupt of the present frame starts at or after cycle t
begins-later : (t : ℕ) → nat_le (t % frame) (interrupt_line * line_cycles) ≡ nat_le t (interrupt_at (t / frame))
begins-later t = grind (arith, nat_tests)

pub shows-nothing : (rom : List ℕ) (t : ℕ) → HasPicturesSince t rom [] t (nothing_before t)
unfolding is_shown window_bytes
shows-nothing rom t =
    let none = none-shown rom t (windows_ended t) (omega arith) in
    record {
      shown = begins-later t ∙ sym (and-true (nat_le t (interrupt_at (t / frame))));
      lines = refl;
      count = ap length (sym none);
      finished = ap (λ l. option_map (picture_of rom []) (slice_get l 0)) (sym none);
      later_frames = λ m h. rw (le-leb t (interrupt_at m) h);
      later_lines = λ line h. refl;
    }

pub carries-on : (s : Seen) → CarriesOn s (moved s)
carries-on s from run h =
    let Cycle : ℕ → Type 0 = λ t. HasPicturesSince from s.rom (run ++ s.machine ∷ []) t (pictures_after s.rom s.machine s.pictures) in
    subst Cycle (sym (cycle-move s.rom (held_by s) s.machine)) (shows-move from s.rom run s.machine s.pictures h)
