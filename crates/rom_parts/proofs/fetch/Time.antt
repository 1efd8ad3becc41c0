-- The time of the dispatch: P is 4 up to the last move of the block behind the test of pc, and 3 in the blocks that follow.
use Rattle.std.proofs.Common.{◌≡◌, ℕ, zero, suc, ◌+◌, ◌*◌, ◌<◌, ◌⊎◌, inl, inr, refl, sym, ◌∙◌, ap, subst, arith, Bool, true, ◌&&◌, List, slice_index}
use Rattle.std.specs.Prelude.{◌==◌}
use Rattle.std.proofs.lemmas.Bool.{agree_below_at, and_parts, eqb-true, cases_eq}
use Rattle.machine.specs.Bank.{word_of}
use Rattle.machine.specs.Board.{Machine}
use Rattle.chip8_lang.specs.declared.view.Edition.{Edition}
use Rattle.chip8_lang.specs.State.{is_fetchable}
use Rattle.chip8_image.specs.declared.TheConstants.{DISPATCH}
use Rattle.chip8_image.specs.declared.image.labels.TheConstants.{AT_FETCH, AT_UPPER, AT_INSIDE, AT_STOP, AT_STOPPED, AT_UNKNOWN83, AT_LEAVE81}
use Rattle.rom_law.specs.Code.{Code, Input, moved}
use Rattle.rom_law.proofs.Moves.{quicks}
use Rattle.rom_law.specs.Program.{code}
use Rattle.rom_law.specs.Rows.{Since, InBlock, now, after_main}
use Rattle.rom_law.proofs.Kept.{RunsBlock, block_p, moved_p}
use Rattle.rom_rows.specs.Rom.{program_of}
use Rattle.rom_rows.specs.FetchBlocks.{FetchBlock, misc_labels}
use Rattle.rom_rows.specs.FetchBlocks.FetchBlock.{Fetch, Upper, Inside, Outside, Misc, Unknown83, Leave, Stop, Stopped}
use Rattle.rom_rows.specs.Table.{pieces}
use Rattle.rom_rows.specs.Table.Block.{OfFetch}
use Rattle.rom_rows.proofs.Calm.{comes_calm}
use Rattle.rom_rows.proofs.Entry.{on_4, is_on_4, on_3, is_on_3}
use Rattle.rom_rows.proofs.Later.{ticks_fetchable}
use Rattle.rom_rows.proofs.Sounds.{sound}
use Rattle.rom_parts.specs.fetch.Laws.{DispatchTime}
use Rattle.rom_parts.specs.fetch.Code.{fetch_code}
use Rattle.rom_parts.specs.Parts.{rom_of}
use Rattle.rom_parts.proofs.Rom.{both, both_is, quick}
use Rattle.rom_parts.proofs.fetch.Blocks.{fetch_block, fits}

-- P is p at the first k machines
abbrev stays : Code → ℕ → ℕ → Machine → Bool
stays x p zero b = true
stays x p (suc k) b = stays x p k b && (quicks x k b).regs.p == p

stays_at : (x : Code) (p k : ℕ) (b : Machine) → stays x p k b ≡ true → (j : ℕ) → j < k → (quicks x j b).regs.p ≡ p
stays_at x p zero b s j l = absurd (omega (arith, l))
stays_at x p (suc k) b s j l = go (cases_eq j k) (stays_at x p k b parts.0 j)
  where
    parts : (stays x p k b ≡ true) × (((quicks x k b).regs.p == p) ≡ true)
    parts = and_parts (stays x p k b) ((quicks x k b).regs.p == p) s

    go : (j ≡ k) ⊎ (j ≡ k → ⊥) → (j < k → (quicks x j b).regs.p ≡ p) → (quicks x j b).regs.p ≡ p
    go (inl e) before = subst (λ m. (quicks x m b).regs.p ≡ p) (sym e) (eqb-true _ _ parts.1)
    go (inr d) before = before (omega (arith, l, d))

-- the law over some bytes
abbrev TimeBy : Edition → List ℕ → FetchBlock → Type 0
TimeBy e rom l =
    (u : Input) (b : Machine) (h : Since)
    → InBlock (program_of e rom) (pieces (program_of e rom)) (OfFetch l) b h
    → is_fetchable e h.state ≡ true
    → b.regs.p ≡ 4
    → (moved (code (program_of e rom)) u b).regs.p ≡ 3
    → (after_main u h).spent ≡ DISPATCH

module _ (e : Edition) {l : FetchBlock} (u : Input) (b : Machine) (h : Since)
    (r : InBlock (quick fetch_code e) (pieces (quick fetch_code e)) (OfFetch l) b h) where
  comes : RunsBlock (quick fetch_code e) (pieces (quick fetch_code e)) (OfFetch l) r.start r.since
  comes = comes_calm (fetch_block e l r.start r.since r.fits r.head)

  -- where the block's machines have P = 3, P isn't 4
  late : (c : Machine) (m : ℕ) → r.start ≡ c → stays (code (quick fetch_code e)) 3 m c ≡ true → r.k < m → b.regs.p ≡ 4 → ⊥
  late c m is s l p =
      omega (
        arith,
        p,
        block_p (quick fetch_code e) (pieces (quick fetch_code e)) (sound e refl
            (fits e)) r comes ∙ ap (λ z. (quicks (code (quick fetch_code e)) r.k z).regs.p) is ∙ stays_at (code (quick fetch_code e)) 3 m c s r.k l,
      )

  -- where P stays 4, it isn't 3 after the move
  early : (c : Machine) (m : ℕ) → r.start ≡ c → stays (code (quick fetch_code e)) 4 m c ≡ true → suc r.k < m
      → (moved (code (quick fetch_code e)) u b).regs.p ≡ 3 → ⊥
  early c m is s l p =
      omega (
        arith,
        p,
        moved_p (quick fetch_code e) (pieces (quick fetch_code e)) (sound e refl
            (fits e)) r comes u ∙ ap (λ z. (quicks (code (quick fetch_code e)) (suc r.k) z).regs.p) is
            ∙ stays_at (code (quick fetch_code e)) 4 m c s (suc r.k) l,
      )

  -- the opcode lies in game memory at the head too
  inside_then : is_fetchable e h.state ≡ true → is_fetchable e (now r.since) ≡ true
  inside_then i = ticks_fetchable e r.since.ticks r.since.state ∙ ap (is_fetchable e) (sym r.grows.state) ∙ i

time_by : (e : Edition) (l : FetchBlock) → TimeBy e (both fetch_code e) l
time_by e Fetch u b h r i p q = absurd (early e u b h r (on_4 (word_of AT_FETCH) r.start) 4 (is_on_4 r.head.0) refl (omega (arith, r.inside)) q)
time_by e Upper u b h r i p q = absurd (early e u b h r (on_4 (word_of AT_UPPER) r.start) 6 (is_on_4 r.head.0.0) refl (omega (arith, r.inside)) q)
time_by e Inside u b h r i p q = go (cases_eq (suc r.k) 32)
  where
    go : (suc r.k ≡ 32) ⊎ (suc r.k ≡ 32 → ⊥) → (after_main u h).spent ≡ DISPATCH
    go (inl k) = omega (arith, k, r.grows.spent, r.head.1)
    go (inr d) = absurd (early e u b h r (on_4 (word_of AT_INSIDE) r.start) 32 (is_on_4 r.head.0.0) refl (omega (arith, r.inside, d)) q)
time_by e Outside u b h r i p q = cc (r.head.0.1, inside_then e u b h r i)
time_by e (Misc n) u b h r i p q =
    absurd (late e u b h r (on_3 (slice_index misc_labels n) r.start) 3
    (is_on_3 (slice_index misc_labels n) r.start r.head.0.0.entered.p r.head.0.0.entered.r3)
    (agree_below_at (λ j. stays (code (quick fetch_code e)) 3 3 (on_3 (slice_index misc_labels j) r.start)) (λ j. true) 9 n refl r.head.0.2) r.inside p)
time_by e Unknown83 u b h r i p q =
    absurd (late e u b h r (on_3 AT_UNKNOWN83 r.start) 2 (is_on_3 AT_UNKNOWN83 r.start r.head.0.0.entered.p r.head.0.0.entered.r3) refl r.inside p)
time_by e (Leave n) u b h r i p q =
    absurd (late e u b h r (on_3 (AT_LEAVE81 + 0x100 * n) r.start) 3 (is_on_3 (AT_LEAVE81 + 0x100 * n) r.start r.head.0.0.p r.head.0.0.r3)
    (agree_below_at (λ j. stays (code (quick fetch_code e)) 3 3 (on_3 (AT_LEAVE81 + 0x100 * j) r.start)) (λ j. true) 4 n refl r.head.0.1) r.inside p)
time_by e Stop u b h r i p q = absurd (late e u b h r (on_3 AT_STOP r.start) 2 (is_on_3 AT_STOP r.start r.head.0.p r.head.0.r3) refl r.inside p)
time_by e Stopped u b h r i p q = absurd (late e u b h r (on_3 AT_STOPPED r.start) 6 (is_on_3 AT_STOPPED r.start r.head.0.p r.head.0.r3) refl r.inside p)

pub dispatch_time : DispatchTime (rom_of fetch_code)
dispatch_time e l = subst (λ rom. TimeBy e rom l) (both_is fetch_code e) (time_by e l)
