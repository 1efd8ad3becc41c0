-- What code gives: the bytes of a game, or those of both memories of a program.
use Rattle.std.specs.Prelude.{◌≡◌, ◌<◌, ◌≤◌, ◌&&◌, ◌||◌, not, nat_le, nat_lt, ℕ, Bool, true, false, List, [], length, is_some, slice_index, if◌then◌else◌, Option, None, Some, Result, Ok, Err, Vec}
use Rattle.chip8_lang.specs.State.{memory_size}
use Rattle.chip8_lang.specs.declared.view.Edition.{Edition}
use Rattle.asm_core.specs.Made.{Made, IsAssembly}
use Rattle.asm_core.specs.Origins.{Origins, no_origins, origins_of, told_origins_of}
use Rattle.asm_core.specs.Sources.{source_lines, all_names}
use Rattle.asm_lex.specs.Names.{number_named, value_in}
use Rattle.asm_lex.specs.declared.shape.Isa.{Isa}
use Rattle.asm_lex.specs.declared.shape.Isa.TheVariants.{Cdp1802, Chip8}
use Rattle.asm_listing.specs.Raw.{IsRaw}
use Rattle.vip_words.specs.declared.request.Code.{Code}
use Rattle.vip_words.specs.declared.request.Code.TheVariants.{Bytes, Source}
use Rattle.vip_words.specs.declared.request.Memory.{Memory}
use Rattle.vip_words.specs.declared.request.Memory.TheVariants.{Rom, Ram}
use Rattle.chip8_source.specs.Compared as bytes
use Rattle.vip_tools.specs.Certificates.{bytes_at, rom_in, source_byte}
use Rattle.vip_tools.specs.Files.{ram_size, rom_size}
use Rattle.vip_tools.specs.Judged.{AnswersAs, Judged, RefusedBy, bind, judged, only}
use Rattle.vip_tools.specs.Judged.Verdict.{Given}
use Rattle.vip_tools.specs.Opening.{SourceComes}
use Rattle.vip_tools.specs.declared.code.Image.{Image}
use Rattle.vip_tools.specs.declared.code.MarkedGame.{MarkedGame}
use Rattle.vip_tools.specs.declared.code.MarkedImage.{MarkedImage}
use Rattle.vip_tools.specs.declared.code.Marks.{Marks}
use Rattle.vip_tools.specs.declared.refusal.Misfit.TheVariants.{Game, Stray}
use Rattle.vip_tools.specs.declared.refusal.Refusal.{Refusal}
use Rattle.vip_tools.specs.declared.refusal.Refusal.TheVariants as refusal
use Rattle.vip_tools.specs.declared.refusal.Refusal.TheVariants.{Misfit}

-- ---- a game

-- these are the bytes of an assembled game, from 0200 on
pub record IsRawGame (made : Made) (game : List ℕ) : Type 0 where
  pub are : IsRaw Chip8 made game
  pub bytes : (i : ℕ) → slice_index game i < 256

-- an assembled game fits into its edition's memory, or has more bytes
pub record IsFitGame (e : Edition) (made : Made) (game : List ℕ) : Type 0 where
  pub raw : IsRawGame made game
  pub fits : length game ≤ memory_size e

pub record IsLarge (e : Edition) (made : Made) (edition : Edition) : Type 0 where
  pub same : edition ≡ e
  pub game : List ℕ
  pub raw : IsRawGame made game
  pub large : memory_size e < length game

abbrev pub FitComes : Edition → Made → Judged (List ℕ)
FitComes e made = judged (IsFitGame e made) (IsLarge e made) (λ edition. Misfit (Game edition))

-- The game of code: the bytes of a file; or of a source its first fault, a game that is too large, or the game that it gives.
abbrev pub GameComes : Edition → Code (List ℕ) → Judged (List ℕ)
GameComes e (Bytes game) = only game
GameComes e (Source text told) = bind (SourceComes Chip8 text) (FitComes e)

-- ---- a program

-- a source is assembled
abbrev pub Assembles : Isa → List ℕ → Type 0
Assembles isa text = (made : Made) × IsAssembly isa (source_lines text) made

-- the memories of the board: the RAM below 1000, and the ROM from 8000 to 87FF
abbrev pub is_memory : ℕ → Bool
is_memory address = nat_lt address 0x1000 || (nat_le 0x8000 address && nat_lt address 0x8800)

-- a byte at an address without memory
abbrev pub is_stray : bytes.Bytes → ℕ → Bool
is_stray bytes address = not (is_memory address) && is_some (bytes address)

-- the least such address
pub record IsLeastStray (bytes : bytes.Bytes) (address : ℕ) : Type 0 where
  pub low : address < 65536
  pub is : is_stray bytes address ≡ true
  pub least : (a : ℕ) → a < address → is_stray bytes a ≡ false

-- that one, or none where each byte is in a memory
abbrev pub IsStray : bytes.Bytes → Option ℕ → Type 0
IsStray bytes None = (a : ℕ) → a < 65536 → is_stray bytes a ≡ false
IsStray bytes (Some address) = IsLeastStray bytes address

-- the RAM of a source of the CDP1802, whose ROM is `rom_in` it
abbrev pub ram_in : List ℕ → List ℕ
ram_in text = bytes_at (source_byte text) 0 ram_size

-- the bytes of the ROM and of the RAM, where a file has those of the memory in which it starts
abbrev pub in_rom : Memory → List ℕ → List ℕ
in_rom Rom program = program
in_rom Ram program = []

abbrev pub in_ram : Memory → List ℕ → List ℕ
in_ram Rom program = []
in_ram Ram program = program

-- The bytes of both memories, by the code of a program: those of a file; or of a source its first fault, the least address of a byte where no memory is, or what
-- it gives.
abbrev pub LaidComes : List ℕ → Judged (List ℕ × List ℕ)
LaidComes text =
    judged (λ image. IsStray (source_byte text) None × (image ≡ (rom_in text, ram_in text))) (IsLeastStray (source_byte text)) (λ address. Misfit (Stray address))

abbrev pub ImageComes : Memory → Code (List ℕ) → Judged (List ℕ × List ℕ)
ImageComes memory (Bytes program) = only (in_rom memory program, in_ram memory program)
ImageComes memory (Source text told) = bind (SourceComes Cdp1802 text) (λ made. LaidComes text)

-- ---- what is known of code besides its bytes

-- the number that each name of a source stands for, and what the source gave each address, with its labels
pub record Known : Type 0 where
  pub names : List ℕ → Option ℕ
  pub origins : Origins

abbrev pub nothing_known : Known
nothing_known = record { names = λ name. None; origins = no_origins }

abbrev pub origins_by : Bool → Isa → List (List ℕ) → Origins
origins_by told isa source = if told then told_origins_of isa source else origins_of isa source

abbrev pub known_of : Isa → Code (List ℕ) → Known
known_of isa (Bytes bytes) = nothing_known
known_of isa (Source text told) =
    record { names = number_named (all_names isa (source_lines text)); origins = origins_by told isa (source_lines text) }

-- what the marks of a source say
abbrev pub marked : Marks → Known
marked marks = record { names = number_named (value_in marks.names); origins = marks.origins }

-- ---- what the calls answer

module _ {Z : Type 0} where
  -- the game of an assembled source, or of code
  abbrev pub MadeGameAnswers : Edition → Made → Result (Vec ℕ Z) Refusal → Type 0
  MadeGameAnswers e made = AnswersAs (λ (game : Vec ℕ Z). game.items) (FitComes e made)

  abbrev pub GameAnswers : Edition → Code (List ℕ) → Result (Vec ℕ Z) Refusal → Type 0
  GameAnswers e code (Ok game) = GameComes e code (Given game.items) × (length game.items ≤ memory_size e)
  GameAnswers e code (Err refusal) = RefusedBy (GameComes e code) refusal

-- the bytes fit into the memories
pub record FitsMemories (image : Image) : Type 0 where
  pub rom : length image.rom.items ≤ rom_size
  pub ram : length image.ram.items ≤ ram_size

abbrev pub MarkedGameAnswers : Edition → Code (List ℕ) → Result MarkedGame Refusal → Type 0
MarkedGameAnswers e code (Ok made) = GameAnswers e code (Ok made.game) × (marked made.marks ≡ known_of Chip8 code)
MarkedGameAnswers e code (Err refusal) = RefusedBy (GameComes e code) refusal

abbrev pub ImageAnswers : Memory → Code (List ℕ) → Result Image Refusal → Type 0
ImageAnswers memory code (Ok image) = ImageComes memory code (Given (image.rom.items, image.ram.items)) × FitsMemories image
ImageAnswers memory code (Err refusal) = RefusedBy (ImageComes memory code) refusal

abbrev pub MarkedImageAnswers : Memory → Code (List ℕ) → Result MarkedImage Refusal → Type 0
MarkedImageAnswers memory code (Ok made) = ImageAnswers memory code (Ok made.image) × (marked made.marks ≡ known_of Cdp1802 code)
MarkedImageAnswers memory code (Err refusal) = RefusedBy (ImageComes memory code) refusal

-- both memories of an assembly
abbrev pub MadeImageAnswers : bytes.Bytes → Result Image Refusal → Type 0
MadeImageAnswers bytes (Ok image) =
    IsStray bytes None × (image.rom.items ≡ bytes_at bytes 0x8000 rom_size) × (image.ram.items ≡ bytes_at bytes 0 ram_size)
MadeImageAnswers bytes (Err (refusal.Misfit (Stray address))) = IsLeastStray bytes address
MadeImageAnswers bytes (Err refusal.NoMemory) = Unit {0}
MadeImageAnswers bytes (Err _) = ⊥
