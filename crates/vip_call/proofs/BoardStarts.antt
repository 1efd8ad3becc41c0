-- Where a program's run begins that was loaded, the machine and the ROM of its board are in their ranges.
use Rattle.std.proofs.Common.{◌≡◌, ℕ, zero, suc, ◌+◌, ◌-◌, ◌<◌, ◌≤◌, List, [], ◌∷◌, ◌++◌, length, replicate, slice_index, take, sym, ap, ◌∙◌, subst, arith, lit<}
use Rattle.std.proofs.lemmas.List.{get_or-drop, length-append, length-drop, length-replicate, length-take-le}
use Rattle.machine.proofs.Fits.{reset-fits}
use Rattle.rom_board.proofs.Starts.{fits_bank}
use Rattle.vip_program.specs.Program.{padded, ram_size, resumed, rom_size, started}
use Rattle.vip_text.specs.ProgramFile.{part, IsProgram}
use Rattle.vip_text.specs.StateFile.{file_size}
use Rattle.vip_words.specs.declared.request.Code.{Code}
use Rattle.vip_words.specs.declared.request.Code.TheVariants.{Bytes, Source}
use Rattle.vip_words.specs.declared.request.Memory.{Memory}
use Rattle.vip_words.specs.declared.request.Memory.TheVariants.{Rom, Ram}
use Rattle.vip_tools.specs.Certificates.{bytes_at, source_byte}
use Rattle.vip_tools.specs.Code.{ImageComes}
use Rattle.vip_tools.specs.Files.{program_code}
use Rattle.vip_tools.specs.Judged.Verdict.{Given}
use Rattle.vip_verbs.specs.Programs.{memory_in}
use Rattle.vip_call.proofs.BoardLemmas.{FitsBoard}
use Rattle.vip_call.proofs.FilledLemmas.{IsGiven}
use Rattle.vip_call.proofs.SourceBytes.{memory_length, memory_low}

-- ---- bytes in a memory

pub record FitsIn (size : ℕ) (bytes : List ℕ) : Type 0 where
  pub few : length bytes ≤ size
  pub low : (i : ℕ) → slice_index bytes i < 256

none : (size : ℕ) → FitsIn size []
none size = record { few = omega arith; low = λ i. lit< tt }

zeros_low : (n i : ℕ) → slice_index (replicate n 0) i < 256
zeros_low zero i = lit< tt
zeros_low (suc n) zero = lit< tt
zeros_low (suc n) (suc i) = zeros_low n i

padded_low : (bytes : List ℕ) (n : ℕ) → ((i : ℕ) → slice_index bytes i < 256) → (i : ℕ) → slice_index (bytes ++ replicate n 0) i < 256
padded_low [] n low i = zeros_low n i
padded_low (byte ∷ bytes) n low zero = low 0
padded_low (byte ∷ bytes) n low (suc i) = padded_low bytes n (λ k. low (suc k)) i

module _ (size : ℕ) (bytes : List ℕ) (fits : FitsIn size bytes) where
  padded_length : length (padded size bytes) ≡ size
  padded_length =
      omega (
        arith,
        fits.few,
        length-append bytes (replicate (size - length bytes) 0),
        length-replicate {A = ℕ} (size - length bytes) 0,
      )

  padded_bytes : (i : ℕ) → slice_index (padded size bytes) i < 256
  padded_bytes = padded_low bytes (size - length bytes) fits.low

-- ---- from a program

pub started_fits : (memory : Memory) (rom ram : List ℕ) → FitsIn rom_size rom → FitsIn ram_size ram
    → FitsBoard (started (memory_in memory) rom ram [])
started_fits memory rom ram rom_fits ram_fits = record {
  rom = record { size = padded_length rom_size rom rom_fits; bytes = padded_bytes rom_size rom rom_fits };
  machine = record {
    regs = reset-fits.regs;
    ram = padded_bytes ram_size ram ram_fits;
    size = padded_length ram_size ram ram_fits;
    key = reset-fits.key;
  };
  few = omega arith;
}

pub record FitsImage (image : List ℕ × List ℕ) : Type 0 where
  pub rom : FitsIn rom_size image.0
  pub ram : FitsIn ram_size image.1

file_fits : (memory : Memory) (program : List ℕ) → IsGiven (program_code memory (Bytes program)) → (image : List ℕ × List ℕ)
    → ImageComes memory (Bytes program) (Given image) → FitsImage image
file_fits Rom program given image comes = subst FitsImage (sym comes) (record { rom = record { few = given.fits; low = given.bytes }; ram = none ram_size })
file_fits Ram program given image comes = subst FitsImage (sym comes) (record { rom = none rom_size; ram = record { few = given.fits; low = given.bytes } })

-- and what a source gives
memory_fits : (text : List ℕ) (start size : ℕ) → FitsIn size (bytes_at (source_byte text) start size)
memory_fits text start size =
    let count : length (bytes_at (source_byte text) start size) ≡ size = memory_length text start size in
    record { few = omega (arith, count); low = memory_low text start size }

pub image_fits : (memory : Memory) (code : Code (List ℕ)) → IsGiven (program_code memory code) → (image : List ℕ × List ℕ)
    → ImageComes memory code (Given image) → FitsImage image
image_fits memory (Bytes program) given image comes = file_fits memory program given image comes
image_fits memory (Source text told) given image comes =
    subst FitsImage (sym comes.here.1) (record { rom = memory_fits text 0x8000 rom_size; ram = memory_fits text 0 ram_size })

-- ---- from a saved state

taken_low : (n : ℕ) (bytes : List ℕ) → ((i : ℕ) → slice_index bytes i < 256) → (i : ℕ) → slice_index (take n bytes) i < 256
taken_low zero bytes low i = lit< tt
taken_low (suc n) [] low i = lit< tt
taken_low (suc n) (byte ∷ bytes) low zero = low 0
taken_low (suc n) (byte ∷ bytes) low (suc i) = taken_low n bytes (λ k. low (suc k)) i

module _ (f : List ℕ) (bytes : (k : ℕ) → slice_index f k < 256) (accepted : IsProgram f) where
  abbrev p : List ℕ
  p = part f

  p_bytes : (k : ℕ) → slice_index p k < 256
  p_bytes = taken_low file_size f bytes

  pub resumed_fits : FitsBoard (resumed f [])
  resumed_fits = record {
    rom = record { size = length-drop file_size f ∙ ap (λ n. n - file_size) accepted.size; bytes = λ k. rw (get_or-drop file_size f k 0) (bytes (file_size + k)) };
    machine = record {
      regs =
          record {
            r = fits_bank p p_bytes;
            d = p_bytes 46;
            df = omega arith;
            p = omega arith;
            x = omega (arith, p_bytes 48);
            t = p_bytes 47;
          };
      ram = λ k. rw (get_or-drop 51 p k 0) (p_bytes (51 + k));
      size = length-drop 51 p ∙ ap (λ n. n - 51) (length-take-le file_size f (omega (arith, accepted.size)));
      key = accepted.machine.key;
    };
    few = accepted.cycle;
  }
