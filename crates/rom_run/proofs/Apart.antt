-- A row whose next address lies in the part of the fetch is that of a block of the fetch: the other blocks and places lie in other parts.
use Rattle.std.proofs.Common.{◌≡◌, ℕ, refl, sym, ◌∙◌, ap, true, false}
use Rattle.machine.specs.Instruction.{at}
use Rattle.machine.specs.Board.{Machine}
use Rattle.chip8_image.specs.declared.parts.Part.{Part}
use Rattle.chip8_image.specs.declared.parts.Part.TheVariants.{Fetch, Arith, Memory, Sprite, Timer, Keys}
use Rattle.chip8_image.specs.Parts.{is_part, part_of}
use Rattle.chip8_lang.specs.declared.view.Edition.{Edition}
use Rattle.rom_law.specs.Program.{Program}
use Rattle.rom_law.specs.Rows.{Since, InBlock, Row, now}
use Rattle.rom_law.specs.Rows.Row.{Inside as InRow, Alone}
use Rattle.rom_rows.specs.Addresses.{RunsAt}
use Rattle.rom_rows.specs.Blocks.{addresses}
use Rattle.rom_rows.specs.FetchBlocks.{FetchBlock}
use Rattle.rom_rows.specs.Rom.{vip}
use Rattle.rom_rows.specs.Table.{Block, data_of, part_of_block, pieces}
use Rattle.rom_rows.specs.Table.Block.{OfFetch, OfArith, OfMemory, OfSprite, OfTimer, OfKey}
use Rattle.rom_rows.specs.Table.Place.{AtTimer, AtKey, AtSprite}
use Rattle.rom_rows.proofs.Facts.{lies_at}
use Rattle.rom_rows.proofs.PlaceFacts.{place_facts}
use Rattle.rom_rows.proofs.Table.{block_facts}
use Rattle.rom_run.proofs.Image.{parts}
use Rattle.rom_run.specs.Laws.{IsIn}

module _ (e : Edition) where
  abbrev x : Program
  x = vip e

  elsewhere : {X : Type 0} (p : Part) (b : Machine) (a : ℕ) → at b.regs b.regs.p ≡ a → is_part p (part_of a) ≡ true → is_part p Fetch ≡ false → IsIn Fetch b → X
  elsewhere p b a is lies other at =
      absurd (never (sym lies ∙ ap (λ y. is_part p (part_of y)) (sym is) ∙ ap (is_part p) at ∙ other))
    where
      never : true ≡ false → ⊥
      never k = cc

  off_block : {X : Type 0} (l : Block) (b : Machine) (h : Since) → RunsAt x l → is_part (part_of_block l) Fetch ≡ false → InBlock x (pieces x) l b h → IsIn Fetch b → X
  off_block l b h runs other r at =
      elsewhere (part_of_block l) b _ (runs b h r)
      (lies_at (part_of_block l) (addresses (data_of l)) ((block_facts l).lie x r.start (now r.since) r.since.keys r.head.0) r.k r.inside) other at

  pub fetch_row : (b : Machine) (h : Since) → Row x (pieces x) b h → IsIn Fetch b → (l : FetchBlock) × InBlock x (pieces x) (OfFetch l) b h
  fetch_row b h (InRow (OfFetch l) r) at = (l, r)
  fetch_row b h (InRow (OfArith l) r) at = off_block (OfArith l) b h ((parts Arith).laws.addresses e l) refl r at
  fetch_row b h (InRow (OfMemory l) r) at = off_block (OfMemory l) b h ((parts Memory).laws.addresses e l) refl r at
  fetch_row b h (InRow (OfSprite l) r) at = off_block (OfSprite l) b h ((parts Sprite).laws.addresses e l) refl r at
  fetch_row b h (InRow (OfTimer l) r) at = off_block (OfTimer l) b h ((parts Timer).laws.addresses e l) refl r at
  fetch_row b h (InRow (OfKey l) r) at = off_block (OfKey l) b h ((parts Keys).laws.addresses e l) refl r at
  fetch_row b h (Alone (AtTimer l) o) at = elsewhere Timer b _ ((parts Timer).laws.place_addresses e l b h o) (place_facts (AtTimer l)).lies refl at
  fetch_row b h (Alone (AtKey l) o) at = elsewhere Keys b _ ((parts Keys).laws.place_addresses e l b h o) (place_facts (AtKey l)).lies refl at
  fetch_row b h (Alone (AtSprite l) o) at = elsewhere Sprite b _ ((parts Sprite).laws.place_addresses e l b h o) (place_facts (AtSprite l)).lies refl at
