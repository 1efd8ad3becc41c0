-- FX07, FX15 and FX18.
use Rattle.std.proofs.Common.{◌≡◌, ℕ, ◌+◌, ◌/◌, ◌%◌, refl, sym, ◌∙◌, ap, subst, arith, true, slice_set}
use Rattle.std.specs.Prelude.{None}
use Rattle.machine.specs.Bank.{word, word_of, value}
use Rattle.machine.specs.Memory.{read, written}
use Rattle.machine.specs.Board.{Machine}
use Rattle.machine.specs.Ranges.{FitsMachine}
use Rattle.chip8_lang.specs.declared.instr.Instr.TheVariants.{GetDelay as GetTimer, SetDelay as SetTimer, SetSound as SetTone}
use Rattle.chip8_lang.specs.declared.view.Edition.{Edition}
use Rattle.chip8_lang.specs.State.{Lang, variable, is_fetchable, instr_at}
use Rattle.chip8_lang.specs.Step.{next, stop_of, step, done_by}
use Rattle.chip8_lang.specs.Step.KeyInput.{Nothing}
use Rattle.chip8_image.specs.declared.image.labels.TheConstants.{AT_GET_DELAY, AT_GET_DELAY_PUT, AT_SET_DELAY, AT_SET_DELAY_PUT, AT_SET_DELAY_END, AT_SET_SOUND, AT_SET_SOUND_PUT, AT_SET_SOUND_END}
use Rattle.rom_law.specs.Holding.{Places, places, Holding}
use Rattle.rom_law.specs.Moments.{TicksBefore}
use Rattle.rom_law.specs.Rows.{Since, now}
use Rattle.rom_law.specs.Program.{code}
use Rattle.rom_law.proofs.Places.{v_get, v_set, timers_set}
use Rattle.rom_law.proofs.Kept.{RunsBlock, RunsPlace}
use Rattle.rom_law.proofs.Moves.{quicks, reaches_in, reaches_from}
use Rattle.rom_rows.specs.Heads.{high_byte, low_byte, page_of, Entered, Enters}
use Rattle.rom_rows.specs.TimerBlocks.{Ended}
use Rattle.rom_rows.specs.TimerBlocks.TimerBlock.{GetDelayPut, SetDelay, SetDelayEnd, SetSound, SetSoundEnd}
use Rattle.rom_rows.specs.TimerBlocks.TimerPlace.{GetDelay, SetDelayPut, SetSoundPut}
use Rattle.rom_rows.specs.Table.{At, calm_pieces, calm_top}
use Rattle.rom_rows.specs.Table.Block.{OfTimer}
use Rattle.rom_rows.specs.Table.Place.{AtTimer}
use Rattle.rom_rows.proofs.Alone.{alone, one_more, meets_now}
use Rattle.rom_rows.proofs.Branches.{looked, looks}
use Rattle.rom_rows.proofs.Bytes.{page_fits, stack_top_is, variables_is}
use Rattle.rom_rows.proofs.Entry.{ready, entered, is_entered, on_3, is_on_3}
use Rattle.rom_rows.proofs.Follows.{to_timer, to_timer_place}
use Rattle.rom_rows.proofs.Straight.{routine}
use Rattle.rom_rows.proofs.Steps.{meets_grown, steps}
use Rattle.rom_parts.specs.timer.Code.{timer_code}
use Rattle.rom_parts.proofs.Rom.{both, quick}

module _ (e : Edition) (b : Machine) (h : Since) (f : FitsMachine b) where
  abbrev high : ℕ
  high = high_byte (now h)

  abbrev low : ℕ
  low = low_byte (now h)

  -- VX as it is read
  abbrev vx : ℕ
  vx = read (both timer_code e) b.latch b.ram (value (word (page_of e) (240 + high % 16)))

  vx_is : {a : ℕ} → Entered (quick timer_code e) a b (now h) → vx ≡ variable (now h) (high % 16)
  vx_is o = v_get o.holds (value (word (page_of e) (240 + high % 16))) (high % 16) (omega (arith, variables_is e)) (omega arith)

  -- ---- FX07

  pub get_delay_holds : Enters (quick timer_code e) AT_GET_DELAY 15 b (now h) → low ≡ 0x07 → At (quick timer_code e) (AtTimer GetDelay) b h → h.spent ≡ 86
      → RunsPlace (quick timer_code e) (calm_pieces (quick timer_code e)) (AtTimer GetDelay) b h
  get_delay_holds o kk at spent = alone (AtTimer GetDelay) f at o.entered.holds (entered e AT_GET_DELAY high low b) (is_entered o.entered) refl refl refl
      (λ u. to_timer (quick timer_code e) (one_more u h) _ refl GetDelayPut
      (record { entered = looks b.regs.r.r8.hi AT_GET_DELAY_PUT o.entered; digit = o.digit }, kk, ap (λ (z : Lang). z.dt) o.entered.holds.is)
      (omega (arith, spent), meets_now u h 86 spent))

  get_is : {a : ℕ} → Enters (quick timer_code e) a 15 b (now h) → low ≡ 0x07 → instr_at (now h) ≡ GetTimer (high % 16)
  get_is o kk = rw (o.digit, kk) refl

  get_runs : {a : ℕ} → Enters (quick timer_code e) a 15 b (now h) → low ≡ 0x07 → stop_of e (now h) ≡ None
  get_runs o kk = rw (o.entered.inside, o.digit, kk) refl

  -- VX is written
  abbrev put : ℕ → Places
  put v = record (places b) { ram = written b.latch b.ram (value (word (page_of e) (240 + high % 16))) v }

  pub get_delay_put_comes : Enters (quick timer_code e) AT_GET_DELAY_PUT 15 b (now h) → low ≡ 0x07 → b.regs.d ≡ (now h).dt → h.spent ≡ 88
      → TicksBefore h.moments 86 h.ticks
      → RunsBlock (quick timer_code e) (calm_pieces (quick timer_code e)) (OfTimer GetDelayPut) b h
  get_delay_put_comes o kk d spent met =
      routine (OfTimer GetDelayPut) o.entered _ (omega arith) refl
      (λ h' g. steps e g (GetTimer (high % 16)) (get_is o kk) refl (get_runs o kk) (omega (arith, spent)) (meets_grown g met) _ puts refl refl)
    where
      puts : Holding (quick timer_code e) (put b.regs.d) (record (next (now h)) { v = slice_set (now h).v (high % 16) (now h).dt })
      puts =
          subst (λ v. Holding (quick timer_code e) (put b.regs.d) (record (next (now h)) { v = slice_set (now h).v (high % 16) v })) d
          (v_set o.entered.holds (value (word (page_of e) (240 + high % 16))) (high % 16) b.regs.d (omega (arith, variables_is e)) (omega arith))

  -- ---- FX15

  pub set_delay_comes : Enters (quick timer_code e) AT_SET_DELAY 15 b (now h) → low ≡ 0x15 → h.spent ≡ 98
      → RunsBlock (quick timer_code e) (calm_pieces (quick timer_code e)) (OfTimer SetDelay) b h
  set_delay_comes o kk spent =
      routine (OfTimer SetDelay) o.entered (looked e high low b vx (word_of AT_SET_DELAY_PUT))
      (omega (arith, o.entered.holds.stack, stack_top_is e, page_fits e)) refl
      (λ h' g. to_timer_place (quick timer_code e) g _ refl SetDelayPut
      (record { entered = looks vx AT_SET_DELAY_PUT o.entered; digit = o.digit }, kk, vx_is o.entered) (omega (arith, spent, g.spent)))

  delay_is : high / 16 ≡ 15 → low ≡ 0x15 → instr_at (now h) ≡ SetTimer (high % 16)
  delay_is digit kk = rw (digit, kk) refl

  delay_runs : is_fetchable e (now h) ≡ true → high / 16 ≡ 15 → low ≡ 0x15 → stop_of e (now h) ≡ None
  delay_runs inside digit kk = rw (inside, digit, kk) refl

  pub set_delay_put_holds : Enters (quick timer_code e) AT_SET_DELAY_PUT 15 b (now h) → low ≡ 0x15 → b.regs.d ≡ variable (now h) (high % 16)
      → At (quick timer_code e) (AtTimer SetDelayPut) b h → h.spent ≡ 100
      → RunsPlace (quick timer_code e) (calm_pieces (quick timer_code e)) (AtTimer SetDelayPut) b h
  set_delay_put_holds o kk d at spent =
      alone (AtTimer SetDelayPut) f at o.entered.holds (entered e AT_SET_DELAY_PUT high low b) (is_entered o.entered) refl refl refl
      (λ u. to_timer (quick timer_code e) (one_more u h) _ refl SetDelayEnd
      (record { done = record { holds = writes; inside = o.entered.inside; p = refl; r3 = refl; r4 = refl }; digit = o.digit; low = kk })
      (omega (arith, spent), meets_now u h 100 spent))
    where
      same : record (next (now h)) { dt = b.regs.d; st = b.regs.r.r8.lo } ≡ step e Nothing (now h)
      same =
          (λ i. record (next (now h)) { dt = d i; st = ap (λ (z : Lang). z.st) o.entered.holds.is i })
          ∙ ap (λ j. done_by e j Nothing (now h)) (sym (delay_is o.digit kk))

      writes : Holding (quick timer_code e) (record (places b) { r8 = word b.regs.d b.regs.r.r8.lo }) (step e Nothing (now h))
      writes =
          subst (Holding (quick timer_code e) (record (places b) { r8 = word b.regs.d b.regs.r.r8.lo })) same
          (timers_set o.entered.holds (word b.regs.d b.regs.r.r8.lo))

  pub set_delay_end_comes : Ended (quick timer_code e) AT_SET_DELAY_END 0x15 b (now h) → h.spent ≡ 102 → TicksBefore h.moments 100 h.ticks
      → RunsBlock (quick timer_code e) (calm_pieces (quick timer_code e)) (OfTimer SetDelayEnd) b h
  set_delay_end_comes o spent met = record {
    runs = ready o.done.holds;
    awake = o.done.holds.awake;
    some = omega arith;
    end = quicks (code (quick timer_code e)) 1 (on_3 AT_SET_DELAY_END b);
    reaches =
        reaches_from (code (quick timer_code e)) (calm_top e) 1 b _ _ (is_on_3 AT_SET_DELAY_END b o.done.p o.done.r3)
        (reaches_in (code (quick timer_code e)) (calm_top e) 1 _ _ (omega arith) refl);
    ends =
        λ h' g. steps e g (SetTimer (high % 16)) (delay_is o.digit o.low) refl (delay_runs o.done.inside o.digit o.low) (omega (arith, spent)) (meets_grown g met) _
        (subst (λ j. Holding (quick timer_code e) (places b) (done_by e j Nothing (now h))) (delay_is o.digit o.low) o.done.holds) refl o.done.r4;
  }

  -- ---- FX18

  pub set_sound_comes : Enters (quick timer_code e) AT_SET_SOUND 15 b (now h) → low ≡ 0x18 → h.spent ≡ 104
      → RunsBlock (quick timer_code e) (calm_pieces (quick timer_code e)) (OfTimer SetSound) b h
  set_sound_comes o kk spent =
      routine (OfTimer SetSound) o.entered (looked e high low b vx (word_of AT_SET_SOUND_PUT))
      (omega (arith, o.entered.holds.stack, stack_top_is e, page_fits e)) refl
      (λ h' g. to_timer_place (quick timer_code e) g _ refl SetSoundPut
      (record { entered = looks vx AT_SET_SOUND_PUT o.entered; digit = o.digit }, kk, vx_is o.entered) (omega (arith, spent, g.spent)))

  sound_is : high / 16 ≡ 15 → low ≡ 0x18 → instr_at (now h) ≡ SetTone (high % 16)
  sound_is digit kk = rw (digit, kk) refl

  sound_runs : is_fetchable e (now h) ≡ true → high / 16 ≡ 15 → low ≡ 0x18 → stop_of e (now h) ≡ None
  sound_runs inside digit kk = rw (inside, digit, kk) refl

  pub set_sound_put_holds : Enters (quick timer_code e) AT_SET_SOUND_PUT 15 b (now h) → low ≡ 0x18 → b.regs.d ≡ variable (now h) (high % 16)
      → At (quick timer_code e) (AtTimer SetSoundPut) b h → h.spent ≡ 106
      → RunsPlace (quick timer_code e) (calm_pieces (quick timer_code e)) (AtTimer SetSoundPut) b h
  set_sound_put_holds o kk d at spent =
      alone (AtTimer SetSoundPut) f at o.entered.holds (entered e AT_SET_SOUND_PUT high low b) (is_entered o.entered) refl refl refl
      (λ u. to_timer (quick timer_code e) (one_more u h) _ refl SetSoundEnd
      (record { done = record { holds = writes; inside = o.entered.inside; p = refl; r3 = refl; r4 = refl }; digit = o.digit; low = kk })
      (omega (arith, spent), meets_now u h 106 spent))
    where
      same : record (next (now h)) { dt = b.regs.r.r8.hi; st = b.regs.d } ≡ step e Nothing (now h)
      same =
          (λ i. record (next (now h)) { dt = ap (λ (z : Lang). z.dt) o.entered.holds.is i; st = d i })
          ∙ ap (λ j. done_by e j Nothing (now h)) (sym (sound_is o.digit kk))

      writes : Holding (quick timer_code e) (record (places b) { r8 = word b.regs.r.r8.hi b.regs.d }) (step e Nothing (now h))
      writes =
          subst (Holding (quick timer_code e) (record (places b) { r8 = word b.regs.r.r8.hi b.regs.d })) same
          (timers_set o.entered.holds (word b.regs.r.r8.hi b.regs.d))

  pub set_sound_end_comes : Ended (quick timer_code e) AT_SET_SOUND_END 0x18 b (now h) → h.spent ≡ 108 → TicksBefore h.moments 106 h.ticks
      → RunsBlock (quick timer_code e) (calm_pieces (quick timer_code e)) (OfTimer SetSoundEnd) b h
  set_sound_end_comes o spent met = record {
    runs = ready o.done.holds;
    awake = o.done.holds.awake;
    some = omega arith;
    end = quicks (code (quick timer_code e)) 1 (on_3 AT_SET_SOUND_END b);
    reaches =
        reaches_from (code (quick timer_code e)) (calm_top e) 1 b _ _ (is_on_3 AT_SET_SOUND_END b o.done.p o.done.r3)
        (reaches_in (code (quick timer_code e)) (calm_top e) 1 _ _ (omega arith) refl);
    ends =
        λ h' g. steps e g (SetTone (high % 16)) (sound_is o.digit o.low) refl (sound_runs o.done.inside o.digit o.low) (omega (arith, spent)) (meets_grown g met) _
        (subst (λ j. Holding (quick timer_code e) (places b) (done_by e j Nothing (now h))) (sound_is o.digit o.low) o.done.holds) refl o.done.r4;
  }
