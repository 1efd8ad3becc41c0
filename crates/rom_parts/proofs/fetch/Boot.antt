-- Boot, from reset to the first dispatch.
use Rattle.std.proofs.Common.{◌≡◌, ℕ, ◌<◌, ◌≤◌, refl, sym, ap, subst, true, false, List, length, arith}
use Rattle.machine.specs.Bank.{word, word_of, zeros}
use Rattle.machine.specs.Memory.{read, written}
use Rattle.machine.specs.Board.{Machine, start, after_reset}
use Rattle.machine.specs.Keys.{Keys}
use Rattle.machine.specs.Run.{after_moves}
use Rattle.chip8_lang.specs.declared.view.Edition.{Edition}
use Rattle.chip8_lang.specs.State.{first, memory_size}
use Rattle.chip8_image.specs.declared.image.labels.TheConstants.{AT_ENTRY, AT_FETCH}
use Rattle.rom_law.specs.Program.{Dispatches}
use Rattle.rom_law.proofs.First.{first_lies}
use Rattle.rom_law.proofs.Boots.{is_quiet, Quiet, quiet_moves}
use Rattle.rom_rows.specs.Rom.{program_of}
use Rattle.rom_rows.specs.Heads.{by_edition, page_of}
use Rattle.rom_rows.proofs.Bytes.{stack_top_is, screen_is, screen_page_is}
use Rattle.rom_parts.specs.fetch.Laws.{boot_moves, EveryBoot}
use Rattle.rom_parts.specs.fetch.Code.{fetch_code}
use Rattle.rom_parts.specs.Parts.{rom_of}
use Rattle.rom_parts.proofs.Rom.{both, both_is, quick}

module _ (e : Edition) (held : ℕ → Keys) (ram : List ℕ) where
  -- after so many moves from reset, with this RAM
  abbrev pub booting : ℕ → Machine
  booting m = after_moves (both fetch_code e) held (record after_reset { ram = ram }) m

  -- the machine at the first dispatch
  abbrev pub booted : Machine
  booted =
      record {
        regs = record {
          r =
              record zeros {
                r0 = word 0 7;
                r1 = word_of AT_ENTRY;
                r2 = word (page_of e) 0xcf;
                r3 = word 0x80 0x27;
                r4 = word_of AT_FETCH;
                r5 = word 2 0;
                rb = word (by_edition e 15 14) 0;
              };
          d = 0;
          df = 0;
          p = 4;
          x = 3;
          t = 0;
          q = false;
          ie = true;
          idle = false;
        };
        ram = ram;
        latch = false;
        on = true;
        key = 0;
        cycle = 56;
      }

  pub boot_ends : booting 28 ≡ booted
  unfolding read written
  boot_ends = refl

  quiet : is_quiet (quick fetch_code e).interpreter held 28 (booting 0) ≡ true
  unfolding read written
  quiet = refl

  pub no_event : (m : ℕ) → m < 28 → Quiet (quick fetch_code e).interpreter held (booting m)
  no_event m l = quiet_moves (quick fetch_code e).interpreter held 28 (booting 0) quiet m l

-- the first state lies there
booted_stands : (e : Edition) (held : ℕ → Keys) (game : List ℕ) → length game ≤ memory_size e
    → Dispatches (quick fetch_code e) (booted e held (start game).ram) (first e game)
booted_stands e held game room =
    record {
      keeps = record {
        lies = first_lies e game room (booted e held (start game).ram) refl refl
            (sym (stack_top_is e)) refl refl refl refl refl refl refl;
        on = refl;
        entry = refl;
        page = omega (arith, screen_page_is e, screen_is e);
      };
      p = refl;
      r4 = refl;
    }

-- the law over the joined bytes, and over the image
abbrev BootBy : Edition → List ℕ → (ℕ → Keys) → List ℕ → Type 0
BootBy e rom held game =
    ((m : ℕ) → m < boot_moves → Quiet (program_of e rom).interpreter held (after_moves rom held (start game) m))
    × ((after_moves rom held (start game) boot_moves).cycle ≡ 56)
    × Dispatches (program_of e rom) (after_moves rom held (start game) boot_moves) (first e game)

boot_by : (e : Edition) (held : ℕ → Keys) (game : List ℕ) → length game ≤ memory_size e → BootBy e (both fetch_code e) held game
boot_by e held game room = (
  no_event e held (start game).ram,
  ap (λ (b : Machine). b.cycle) (boot_ends e held (start game).ram),
  subst (λ b. Dispatches (quick fetch_code e) b
      (first e game)) (sym (boot_ends e held (start game).ram)) (booted_stands e held game room),
)

pub every_boot : EveryBoot (rom_of fetch_code)
every_boot e held game room =
    let p = subst (λ rom. BootBy e rom held game) (both_is fetch_code e) (boot_by e held game room) in record { quiet = p.0; cycle = p.1; stands = p.2 }
