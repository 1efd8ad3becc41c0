-- In each row the stack has room for what an interrupt pushes.
use Rattle.std.proofs.Common.{None, ◌≡◌, ℕ, ◌+◌, ◌-◌, ◌<◌, ◌≤◌, ◌⊎◌, inl, inr, refl, ◌∙◌, ap, subst, arith}
use Rattle.std.proofs.lemmas.Bool.{cases_lt}
use Rattle.machine.specs.Bank.{value, word_of}
use Rattle.machine.specs.Board.{Machine}
use Rattle.chip8_lang.specs.declared.view.Edition.{Edition}
use Rattle.chip8_lang.specs.Editions.{memory_end, variables}
use Rattle.chip8_lang.specs.State.{Lang}
use Rattle.chip8_image.specs.declared.image.labels.TheConstants.{AT_INSIDE}
use Rattle.rom_law.proofs.Moves.{quicks}
use Rattle.rom_law.specs.Holding.{Places, places, Holding}
use Rattle.rom_law.specs.Program.{code}
use Rattle.rom_law.specs.Rows.{Since, InBlock, Row, now}
use Rattle.rom_law.specs.Rows.Row.{Inside as InRow, Alone}
use Rattle.rom_law.proofs.Kept.{RunsBlock, good, block_r2}
use Rattle.rom_law.proofs.Places.{stack_below}
use Rattle.rom_law.proofs.Room.{Near, near_quicks}
use Rattle.rom_rows.specs.FetchBlocks.FetchBlock.{Inside}
use Rattle.rom_rows.specs.Rom.{vip, program_of}
use Rattle.rom_rows.specs.Table.{Block, Place, At, moves, pieces}
use Rattle.rom_rows.specs.Table.Block.{OfFetch}
use Rattle.rom_rows.proofs.Bytes.{both_is, both_fits, quick, memory_end_is, stack_top_is, variables_is, page_fits, page_low}
use Rattle.rom_rows.proofs.Entry.{on_4, is_on_4}
use Rattle.rom_rows.proofs.Facts.{Lies}
use Rattle.rom_rows.proofs.PlaceFacts.{place_facts}
use Rattle.rom_rows.proofs.Sounds.{sound}
use Rattle.rom_rows.proofs.Table.{block_facts}
use Rattle.rom_parts.proofs.timer.Interval.{has_room, in_stack}
use Rattle.rom_run.proofs.Proved.{block}

-- between game memory and V0, where the two bytes lie that an interrupt pushes
pub record Room (e : Edition) (b : Machine) : Type 0 where
  pub low : memory_end e + 2 ≤ value b.regs.r.r2
  pub high : value b.regs.r.r2 < variables e

-- ---- blocks

module _ (e : Edition) {l : Block} {b : Machine} {h : Since} (r : InBlock (quick e) (pieces (quick e)) l b h) where
  comes : RunsBlock (quick e) (pieces (quick e)) l r.start r.since
  comes = block e l r.start r.since r.fits r.head

  -- R2 is as it was j instructions into the block, and b is at most 21 later
  room_from : (j : ℕ) → (quicks (code (quick e)) j r.start).regs.r.r2 ≡ r.start.regs.r.r2 → (z : Lang) → Holding (quick e) (places r.start) z
      → moves l ≤ 32 → j ≤ r.k → r.k < j + 22 → Room e b
  room_from j same z o few from near =
      record {
        low = omega (arith, is, at, n.below, has_room o, from, near);
        high = omega (arith, is, at, n.above, in_stack o, from, near, stack_top_is e, variables_is e);
      }
    where
      at : value (quicks (code (quick e)) j r.start).regs.r.r2 ≡ value r.start.regs.r.r2
      at = ap value same

      is : value b.regs.r.r2 ≡ value (quicks (code (quick e)) r.k r.start).regs.r.r2
      is = ap value (block_r2 (quick e) (pieces (quick e)) (sound e refl (both_fits e)) r comes)

      n : Near (r.k - j) (value (quicks (code (quick e)) j r.start).regs.r.r2) (value (quicks (code (quick e)) r.k r.start).regs.r.r2)
      n =
          near_quicks (code (quick e)) None (moves l) r.start (good (quick e) (pieces (quick e)) (sound e refl (both_fits e)) r comes) j
          (omega (arith, at, has_room o, few, memory_end_is e, page_low e))
          (omega (arith, at, in_stack o, few, stack_top_is e, page_fits e)) r.k from r.inside

-- the one long block leaves R2 for its first 16 instructions
inside_r2 : (e : Edition) (b : Machine) → (quicks (code (quick e)) 16 (on_4 (word_of AT_INSIDE) b)).regs.r.r2 ≡ b.regs.r.r2
inside_r2 e b = refl

inside_room : (e : Edition) (b : Machine) (h : Since) → InBlock (quick e) (pieces (quick e)) (OfFetch Inside) b h → Room e b
inside_room e b h r = go (cases_lt r.k 16)
  where
    same : (quicks (code (quick e)) 16 r.start).regs.r.r2 ≡ r.start.regs.r.r2
    same = ap (λ z. (quicks (code (quick e)) 16 z).regs.r.r2) (is_on_4 r.head.0.0) ∙ inside_r2 e r.start

    go : (r.k < 16) ⊎ (16 ≤ r.k) → Room e b
    go (inl k) = room_from e r 0 refl (now r.since) r.head.0.0.holds (omega arith) (omega arith) (omega (arith, k))
    go (inr k) = room_from e r 16 same (now r.since) r.head.0.0.holds (omega arith) k (omega (arith, r.inside))

block_room : (e : Edition) (l : Block) (b : Machine) (h : Since) → InBlock (quick e) (pieces (quick e)) l b h → Room e b
block_room e l b h r =
    let facts = block_facts l in
    go (facts.holds (quick e) r.start (now r.since) r.since.keys r.head.0) (facts.short (quick e) r.start (now r.since) r.since.keys r.head.0)
  where
    go : Lies (quick e) r.start (now r.since) → (moves l ≤ 22) ⊎ (l ≡ OfFetch Inside) → Room e b
    go z (inl few) = room_from e r 0 refl z.0 z.1 (omega (arith, few)) (omega arith) (omega (arith, few, r.inside))
    go z (inr is) = inside_room e b h (subst (λ m. InBlock (quick e) (pieces (quick e)) m b h) is r)

-- ---- places

at_room : (e : Edition) (l : Place) (b : Machine) (h : Since) → At (vip e) l b h → Room e b
at_room e l b h o = go ((place_facts l).stack (vip e) b (now h) h.keys o.0)
  where
    go : (p : Places) × (z : Lang) × Holding (vip e) p z × (p.r2 ≡ b.regs.r.r2) → Room e b
    go s =
        record { low = omega (arith, ap value s.3, has_room s.2); high = omega (arith, ap value s.3, in_stack s.2, stack_below e) }

-- ---- rows

pub row_room : (e : Edition) (b : Machine) (h : Since) → Row (vip e) (pieces (vip e)) b h → Room e b
row_room e b h (InRow l r) = subst (λ rom. InBlock (program_of e rom) (pieces (program_of e rom)) l b h → Room e b) (both_is e) (block_room e l b h) r
row_room e b h (Alone l o) = at_room e l b h o
