-- The machine state of an accepted file may start a run.
use Rattle.std.proofs.Common.{◌≡◌, ℕ, ◌+◌, ◌-◌, ◌*◌, ◌/◌, ◌<◌, ◌≤◌, List, length, drop, slice_index, min, refl, sym, ap, ◌∙◌, arith}
use Rattle.std.proofs.lemmas.List.{length-drop, get_or-drop}
use Rattle.machine.specs.Bank.{word_of, value}
use Rattle.machine.specs.Ranges.{FitsWord, FitsBank, FitsMachine}
use Rattle.chip8_lang.specs.declared.view.Edition.{Edition}
use Rattle.chip8_lang.specs.declared.view.Edition.TheVariants.{Usual, Tall}
use Rattle.chip8_lang.specs.Editions.{stack_top, screen_start}
use Rattle.chip8_lang.specs.Places.{state_of, most_addresses}
use Rattle.rom_law.proofs.Places.{addresses_length}
use Rattle.rom_rows.specs.Rom.{vip}
use Rattle.chip8_image.specs.Interpreters.{interpreter_of}
use Rattle.vip_text.proofs.StateFiles.{word_of-value}
use Rattle.vip_text.specs.StateFile.{shown, bank_in, word_at, IsAccepted}
use Rattle.rom_run.specs.States.{Beginning}
use Rattle.rom_run.specs.States.Beginning.{AtReset, AtStart}
use Rattle.vip_relation.specs.Follows.{Fits}
use Rattle.vip_relation.specs.State.{Start, machine_of}
use Rattle.vip_relation.specs.State.Start.{Reset, Saved}
use Rattle.rom_board.specs.Laws.{FileMayStart}

module _ (f : List ℕ) (bytes : (k : ℕ) → slice_index f k < 256) where
  fits_at : (k : ℕ) → FitsWord (word_at f k)
  fits_at k = record { hi = bytes k; lo = bytes (k + 1) }

  pub fits_bank : FitsBank (bank_in f)
  unfolding bank_in
  fits_bank =
      record {
        r0 = fits_at 14;
        r1 = fits_at 16;
        r2 = fits_at 18;
        r3 = fits_at 20;
        r4 = fits_at 22;
        r5 = fits_at 24;
        r6 = fits_at 26;
        r7 = fits_at 28;
        r8 = fits_at 30;
        r9 = fits_at 32;
        ra = fits_at 34;
        rb = fits_at 36;
        rc = fits_at 38;
        rd = fits_at 40;
        re = fits_at 42;
        rf = fits_at 44;
      }

module _ (e : Edition) (f : List ℕ) (bytes : (k : ℕ) → slice_index f k < 256) (a : IsAccepted e f) where
  fits : FitsMachine (shown f)
  fits =
      record {
        regs =
            record {
              r = fits_bank f bytes;
              d = bytes 46;
              df = omega arith;
              p = omega arith;
              x = omega (arith, bytes 48);
              t = bytes 47;
            };
        ram = λ k. rw (get_or-drop 51 f k 0) (bytes (51 + k));
        size = length-drop 51 f ∙ ap (λ n. n - 51) a.size;
        key = a.machine.key;
      }

  -- the addresses on the stack are as many as R2 says
  depth : (top r2 : ℕ) → (n : ℕ) → n ≤ most_addresses → r2 + 2 * n ≡ top → r2 + 2 * min most_addresses ((top - r2) / 2) ≡ top
  depth top r2 n few below = grind arith

  stack : value (bank_in f).r2 + 2 * length (state_of e (shown f)).stack ≡ stack_top e
  unfolding bank_in state_of
  stack =
      ap (λ n. value (word_at f 18) + 2 * n) (addresses_length (min most_addresses ((stack_top e - value (word_at f 18)) / 2)) (stack_top e) (drop 51 f))
      ∙ depth (stack_top e) (value (word_at f 18)) a.machine.stack.depth a.machine.stack.few a.machine.stack.below

  entry : (bank_in f).r1 ≡ word_of (interpreter_of e).entry
  unfolding bank_in
  entry = sym (word_of-value (word_at f 16) (bytes 16) (bytes 17)) ∙ ap word_of a.machine.r1

  fetch : (bank_in f).r4 ≡ word_of (interpreter_of e).fetch
  unfolding bank_in
  fetch = sym (word_of-value (word_at f 22) (bytes 22) (bytes 23)) ∙ ap word_of a.machine.r4

  page : (bank_in f).rb.hi ≡ screen_start e / 256
  unfolding bank_in
  page = a.machine.page

pub same_fetch : (e : Edition) → (interpreter_of e).fetch ≡ (vip e).interpreter.fetch
same_fetch Usual = refl
same_fetch Tall = refl

pub same_entry : (e : Edition) → (interpreter_of e).entry ≡ (vip e).interpreter.entry
same_entry Usual = refl
same_entry Tall = refl

pub file_may_start : FileMayStart
file_may_start e f bytes a =
    record {
      fits = fits e f bytes a;
      stands =
          record {
            keeps =
                record {
                  lies = record { is = refl; stack = stack e f bytes a; latch = refl; enabled = refl; awake = refl };
                  on = refl;
                  entry = entry e f bytes a ∙ ap word_of (same_entry e);
                  page = page e f bytes a;
                };
            p = a.machine.p;
            r4 = fetch e f bytes a ∙ ap word_of (same_fetch e);
          };
      even = a.cycle.even;
      outside = a.cycle.outside;
    }

-- every run begins at such a state, or by a reset
pub beginning : (e : Edition) (s : Start) → Fits e s → Beginning e (machine_of s)
beginning e (Reset game) fits = AtReset game fits.fits fits.bytes
beginning e (Saved file) fits = AtStart (machine_of (Saved file)) (file_may_start e file fits.bytes fits.accepted)
