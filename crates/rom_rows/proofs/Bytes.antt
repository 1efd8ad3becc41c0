-- Both ROMs as one list, so that code is run by computing for both editions at once: a byte in which they differ is a choice by the
-- edition.
use Rattle.std.proofs.Common.{◌≡◌, ℕ, zero, suc, ◌+◌, ◌*◌, ◌%◌, ◌<◌, refl, ap, arith, lit<, Bool, true, ◌&&◌, List, [], ◌∷◌, length, cond, slice_index, nat_lt}
use Rattle.std.specs.Prelude.{◌==◌, bit_and}
use Rattle.std.proofs.lemmas.Nat.{and_mask}
use Rattle.machine.specs.Bank.{word, word_of}
use Rattle.std.proofs.lemmas.Bool.{and_parts, eqb-true, ltb-true}
use Rattle.machine.specs.Ranges.{FitsRom}
use Rattle.chip8_lang.specs.declared.view.Edition.{Edition}
use Rattle.chip8_lang.specs.declared.view.Edition.TheVariants.{Usual, Tall}
use Rattle.chip8_lang.specs.Editions.{memory_end, stack_top, sprite_work, variables, screen_start, rows_of}
use Rattle.chip8_image.specs.declared.image.TheConstants.{IMAGE, TALL}
use Rattle.rom_law.specs.Program.{Program}
use Rattle.rom_rows.specs.Rom.{Stretch, image, laid, program_of}
use Rattle.rom_rows.specs.Heads.{by_edition, page_of, screen_page}

abbrev pub joined : Edition → List ℕ → List ℕ → List ℕ
joined e [] l = []
joined e (a ∷ k) [] = []
joined e (a ∷ k) (b ∷ l) = cond (a == b) a (by_edition e a b) ∷ joined e k l

abbrev pub both : Edition → List ℕ
both e = joined e IMAGE TALL

pub both_is : (e : Edition) → both e ≡ image e
both_is Usual = refl
both_is Tall = refl

-- the interpreter with these bytes
abbrev pub quick : Edition → Program
quick e = program_of e (both e)

-- ---- the bytes are in range

abbrev pub all_bytes : List ℕ → Bool
all_bytes [] = true
all_bytes (a ∷ l) = nat_lt a 256 && all_bytes l

byte_fits : (l : List ℕ) → all_bytes l ≡ true → (i : ℕ) → slice_index l i < 256
byte_fits [] h i = lit< tt
byte_fits (a ∷ l) h zero = ltb-true a 256 (and_parts (nat_lt a 256) (all_bytes l) h).0
byte_fits (a ∷ l) h (suc i) = byte_fits l (and_parts (nat_lt a 256) (all_bytes l) h).1 i

-- where both are computed
pub rom_fits : (rom : List ℕ) → length rom ≡ 2048 → all_bytes rom ≡ true → FitsRom rom
rom_fits rom size bytes = record { size = size; bytes = byte_fits rom bytes }

pub both_fits : (e : Edition) → FitsRom (both e)
both_fits Usual = rom_fits (both Usual) refl refl
both_fits Tall = rom_fits (both Tall) refl refl

-- ---- a part's bytes laid into it

abbrev pub with_part : (Edition → List Stretch) → Edition → List ℕ
with_part code e = laid (code e) (both e)

pub with_part_is : (code : Edition → List Stretch) (e : Edition) → with_part code e ≡ laid (code e) (image e)
with_part_is code e = ap (laid (code e)) (both_is e)

-- computed for each edition
abbrev pub part_fits : (Edition → List Stretch) → Edition → Bool
part_fits code e = length (with_part code e) == 2048 && all_bytes (with_part code e)

pub with_part_fits : (code : Edition → List Stretch) → (part_fits code Usual && part_fits code Tall) ≡ true → (e : Edition) → FitsRom (with_part code e)
with_part_fits code h e = go (is_fit e)
  where
    is_fit : (e : Edition) → part_fits code e ≡ true
    is_fit Usual = (and_parts (part_fits code Usual) (part_fits code Tall) h).0
    is_fit Tall = (and_parts (part_fits code Usual) (part_fits code Tall) h).1

    go : part_fits code e ≡ true → FitsRom (with_part code e)
    go k =
        let two = and_parts (length (with_part code e) == 2048) (all_bytes (with_part code e)) k in
        rom_fits (with_part code e) (eqb-true (length (with_part code e)) 2048 two.0) two.1

-- ---- the places of an edition

pub page_fits : (e : Edition) → page_of e < 15
page_fits Usual = lit< tt
page_fits Tall = lit< tt

pub page_low : (e : Edition) → 12 < page_of e
page_low Usual = lit< tt
page_low Tall = lit< tt

pub memory_end_is : (e : Edition) → memory_end e ≡ page_of e * 256 + 0xa0
memory_end_is Usual = refl
memory_end_is Tall = refl

pub stack_top_is : (e : Edition) → stack_top e ≡ page_of e * 256 + 0xcf
stack_top_is Usual = refl
stack_top_is Tall = refl

pub variables_is : (e : Edition) → variables e ≡ page_of e * 256 + 0xf0
variables_is Usual = refl
variables_is Tall = refl

pub work_is : (e : Edition) → sprite_work e ≡ page_of e * 256 + 0xd0
work_is Usual = refl
work_is Tall = refl

pub screen_is : (e : Edition) → screen_start e ≡ page_of e * 256 + 256
screen_is Usual = refl
screen_is Tall = refl

pub screen_word : (e : Edition) → word (screen_page e) 0 ≡ word_of (screen_start e)
screen_word Usual = refl
screen_word Tall = refl

pub screen_page_is : (e : Edition) → screen_page e ≡ page_of e + 1
screen_page_is Usual = refl
screen_page_is Tall = refl

-- the rows of the screen, as the code has their number, and the mask of a row
pub rows_byte : (e : Edition) → by_edition e 32 64 ≡ rows_of e
rows_byte Usual = refl
rows_byte Tall = refl

pub rows_mask : (e : Edition) (v : ℕ) → bit_and v (by_edition e 31 63) ≡ v % rows_of e
rows_mask Usual v = and_mask v 5
rows_mask Tall v = and_mask v 6

pub below_rows : (e : Edition) (v : ℕ) → v % rows_of e < rows_of e
below_rows Usual v = omega arith
below_rows Tall v = omega arith
